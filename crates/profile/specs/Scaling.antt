-- Counts of a copy.
use Rattle.std.specs.Prelude.{ℕ, zero, suc, ◌*◌, ◌/◌, min}

-- A count inside a routine, in the share that one call has of the routine's entries: rounded down, at most 2^32 - 1, and 0
-- for a routine that is never entered.
abbrev pub scaled : ℕ → ℕ → ℕ → ℕ
scaled count site zero = 0
scaled count site (suc entry) = min (count * site / suc entry) 4294967295
