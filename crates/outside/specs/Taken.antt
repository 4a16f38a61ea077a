-- What a sink has taken after a whole piece was written, or tried.
use Rattle.std.specs.Prelude.{ℕ, List, take, Result, MatchResult}
use Rattle.std.specs.declared.option.Option.{Option}
use Rattle.std.specs.Io.KnownBytes.{Appends}

-- told bytes grow by the piece at `Ok`, and by a front of it at an error
abbrev pub TakesAll : {T E : Type 0} → Option (List ℕ) → Option (List ℕ) → Result T E → List ℕ → Type 0
TakesAll old new r piece = MatchResult r (λ _. Appends old new piece) (λ _. (k : ℕ) × Appends old new (take k piece))
