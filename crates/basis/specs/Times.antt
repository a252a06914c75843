-- Document 01's range of times.
use Rattle.std.specs.Prelude.{ℕ}

-- "Times run from 0 to 281,474,976,710,655."
abbrev pub last_time : ℕ
last_time = 281_474_976_710_655
