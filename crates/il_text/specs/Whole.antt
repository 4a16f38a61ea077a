-- The text of a valid program.
use Rattle.std.specs.Prelude.{ℕ, ◌≡◌, List}
use Rattle.std.specs.List.{AllByRecursion}
use Rattle.hlo_num.specs.Name.{IsName}
use Rattle.il_core.specs.declared.program.IlProgram.{IlProgram}
use Rattle.il_core.specs.Limits.{IsWithinLimits}
use Rattle.il_core.specs.Object.{IsTrimmed}
use Rattle.il_core.specs.Ranges.{IsProgramOfWords}
use Rattle.il_core.specs.Text as text
use Rattle.il_core.specs.Valid.{IsProgram}

-- what the types of a program hold of it: its names, numbers, objects and routines
pub record IsTyped (p : IlProgram) : Type 0 where
  pub names : AllByRecursion (λ row. IsName row.name) p.shapes
  pub numbers : IsProgramOfWords p
  pub objects : AllByRecursion (λ o. IsTrimmed o.words o.init) p.objects
  pub routines : AllByRecursion IsWithinLimits p.routines

-- the bytes are the text of this valid program
pub record IsTextOf (b : List ℕ) (p : IlProgram) : Type 0 where
  pub valid : IsProgram p
  pub typed : IsTyped p
  pub text : b ≡ text.text p
