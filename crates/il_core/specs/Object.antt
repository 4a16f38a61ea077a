-- What contracts see of an object.
use Rattle.std.specs.Prelude.{ℕ, ◌≤◌, Bool, false, IsFalse, List, [], ◌∷◌, length, ◌==◌}
use Rattle.hlo_num.specs.declared.word.Word.{Word}

pub record ObjectParts : Type 0 where
  pub pid : ℕ
  pub words : ℕ
  pub init : List Word

abbrev pub ends_with_zero : List Word → Bool
ends_with_zero [] = false
ends_with_zero (w ∷ []) = w.0 == 0
ends_with_zero (w ∷ v ∷ ws) = ends_with_zero (v ∷ ws)

-- no more initial words than words, and the last of them isn't 0
pub record IsTrimmed (words : ℕ) (init : List Word) : Type 0 where
  pub few : length init ≤ words
  pub trimmed : IsFalse (ends_with_zero init)
