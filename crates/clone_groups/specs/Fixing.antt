-- Constants of parameters.
use Rattle.std.specs.Prelude.{ℕ, List, [], ◌∷◌}
use Rattle.hlo_num.specs.declared.word.Word.{Word}
use Rattle.il_laws.specs.Clone.{Fixed}

-- the constants as the laws write them: a parameter and its word
abbrev pub fixed_of : List (ℕ × Word) → List Fixed
fixed_of [] = []
fixed_of (x ∷ xs) = record { param = x.0; word = x.1 } ∷ fixed_of xs
