-- A new interface, field by field.
use mathlib.Core.Path.{◌≡◌}
use mathlib.Core.List.{[], ◌∷◌}
use Rattle.std.specs.Prelude.{None}
use Rattle.basis.specs.declared.Record.{Record}
use Rattle.basis.specs.declared.Setup.{Setup}
use Rattle.basis_engine.specs.Slots.{free_record}
use Rattle.basis_engine.specs.Interface.{new_interface}

pub new_state : (setup : Setup) (free : Record) → free ≡ free_record →
    record {
      setup = setup;
      latest = record { 0 = 0 };
      asked = None;
      conflicts = 0;
      records = free ∷ free ∷ free ∷ free ∷ [];
    }
    ≡ new_interface setup
new_state setup free e = rw e
