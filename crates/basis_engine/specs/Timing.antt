-- Document 01, "Times and counts that are fixed".
use Rattle.std.specs.Prelude.{ℕ, ◌+◌, ◌-◌, ◌%◌, Bool, false, ltb, Option, Some, None}
use Rattle.basis.specs.declared.Setup.{Setup}
use Rattle.basis.specs.declared.Time.{Time}

-- "Section 1.1 of RFC 5227, in ms where they are times." That two announcements are sent is said by the stages after probing,
-- announced once and settled; demand 3 bounds by the number.
pub record Timing : Type 0 where
  pub probe_wait : ℕ
  pub probe_num : ℕ
  pub probe_min : ℕ
  pub probe_max : ℕ
  pub announce_wait : ℕ
  pub announce_num : ℕ
  pub announce_interval : ℕ
  pub max_conflicts : ℕ
  pub rate_limit_interval : ℕ
  pub defend_interval : ℕ

abbrev pub rfc5227 : Timing
rfc5227 =
    record {
      probe_wait = 1_000;
      probe_num = 3;
      probe_min = 1_000;
      probe_max = 2_000;
      announce_wait = 2_000;
      announce_num = 2;
      announce_interval = 2_000;
      max_conflicts = 10;
      rate_limit_interval = 60_000;
      defend_interval = 10_000;
    }

-- The row of a port: there is one.
abbrev pub timing_of : Setup → Timing
timing_of setup = rfc5227

-- "A lent draw is 32 bits: the first wait is draw mod 1,001, a probe gap 1,000 + draw mod 1,001."
abbrev pub wait : Timing → ℕ → ℕ
wait row draw = draw % (row.probe_wait + 1)

abbrev pub gap : Timing → ℕ → ℕ
gap row draw = row.probe_min + draw % (row.probe_max - row.probe_min + 1)

-- The time so many ms after another.
abbrev pub after : Time → ℕ → Time
after time ms = record { 0 = time.0 + ms }

-- Whether something happened less than so many ms ago.
abbrev pub is_within : ℕ → Time → Option Time → Bool
is_within ms now None = false
is_within ms now (Some time) = ltb now.0 (time.0 + ms)
