-- What reading goes over: what is read so far, and what each step of the reader answers.
use Rattle.std.specs.Prelude.{◌≡◌, ℕ, suc, Bool, true, false, List, [], ◌∷◌, ◌++◌, Some, codes, length, ⊤}
use Rattle.std.specs.List.{AllByRecursion}
use Rattle.std.specs.Option.{option_map}
use Rattle.profile.specs.Counts.{Profiled}
use Rattle.profile.specs.Names.{Names}
use Rattle.profile.specs.Texts.{DoesNotFit, IsLine, IsTextOf, Line, line_bytes, line_number, lines_text, set_by, set_by_all}
use Rattle.profile.specs.declared.fault.ProfFault.{ProfFault}
use Rattle.profile.specs.declared.fault.ProfFault.TheVariants as faults

-- the bytes are the text of lines that set what the profile has
pub record IsReadAs (bytes : List ℕ) (p : Profiled) : Type 0 where
  pub names : Names
  pub named : p ≡ Some names
  pub is_text : IsTextOf bytes names

-- a fault that tells a line tells the first one that doesn't fit
abbrev pub IsLineFault : List ℕ → ProfFault → Type 0
IsLineFault bytes (faults.Line n) = DoesNotFit bytes n
IsLineFault bytes faults.Memory = ⊤

-- a line was taken in, or it is none
abbrev pub Takes : Bool → List ℕ → Profiled → Profiled → Type 0
Takes true bytes old new = (l : Line) × IsLine l × (bytes ≡ line_bytes l) × (new ≡ option_map (set_by l) old)
Takes false bytes old new = (l : Line) → IsLine l → bytes ≡ line_bytes l → ⊥

-- what was read behind the first line, so far
pub record SoFar (bytes rest : List ℕ) (p : Profiled) (number : ℕ) : Type 0 where
  pub lines : List Line
  pub are : AllByRecursion IsLine lines
  pub spelled : bytes ≡ lines_text lines ++ rest
  pub set : p ≡ Some (set_by_all lines [])
  pub counted : number ≡ line_number (suc (length lines))

-- the first line of a text, in front of what stands behind it
abbrev pub behind_first : List ℕ → List ℕ
behind_first bytes = codes "profile 1" ++ 10 ∷ bytes
