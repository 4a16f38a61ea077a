-- Calls that go to another routine.
use Rattle.std.specs.Prelude.{◌≡◌, ℕ, ◌+◌, List, [], ◌∷◌, Option, Some, nat_eq, if◌then◌else◌, slice_get}
use Rattle.std.specs.List.{AllByRecursion}
use Rattle.il_core.specs.declared.instr.Block.{Block}
use Rattle.il_core.specs.declared.instr.Instr.{Instr}
use Rattle.il_core.specs.declared.instr.Instr.TheVariants.{Call}
use Rattle.il_core.specs.declared.program.IlProgram.{IlProgram}
use Rattle.il_core.specs.Routine.{RoutineParts}
use Rattle.il_core.specs.Meaning.{sites_in, sites_of}
use Rattle.il_laws.specs.Clone.{Fixed}
use Rattle.il_laws.specs.Keeping.{Stands}
use Rattle.il_laws.specs.Known.{KnownSite, known_sites}
use Rattle.il_laws.specs.Table.{Row, IsRight, HasCalleesShape}

-- a site's number and its new callee
pub record SiteMove : Type 0 where
  pub site : ℕ
  pub callee : ℕ

-- the callee of site k, which was this one
abbrev pub callee_at : List SiteMove → ℕ → ℕ → ℕ
callee_at [] k callee = callee
callee_at (m ∷ ms) k callee = if nat_eq m.site k then m.callee else callee_at ms k callee

abbrev pub retarget_instr : List SiteMove → ℕ → Instr → Instr
retarget_instr ms k (Call dest callee count args) = Call dest (callee_at ms k callee) count args
retarget_instr ms k i = i

-- instructions, before which k sites stand
abbrev pub retarget_instrs : List SiteMove → ℕ → List Instr → List Instr
retarget_instrs ms k [] = []
retarget_instrs ms k (i ∷ is) = retarget_instr ms k i ∷ retarget_instrs ms (sites_in i + k) is

-- blocks, before which k sites stand
abbrev pub retarget_blocks : List SiteMove → ℕ → List Block → List Block
retarget_blocks ms k [] = []
retarget_blocks ms k (x ∷ xs) =
    record { instrs = retarget_instrs ms k x.instrs; end = x.end } ∷ retarget_blocks ms (sites_of x.instrs + k) xs

-- The routine with these sites calling their new callees.
abbrev pub retarget : RoutineParts → List SiteMove → RoutineParts
retarget r ms = record r { blocks = retarget_blocks ms 0 r.blocks }

-- what is known of the arguments covers the constants
abbrev pub Covers : List (Option ℕ) → List Fixed → Type 0
Covers known fixed = AllByRecursion (λ x. slice_get known x.param ≡ Some (Some x.word.0)) fixed

-- A move is by a right row: its site calls the row's callee, with the row's constants known there, and goes to the row's
-- clone, which stands in the program as the callee does.
pub record IsByRow (p : IlProgram) (r : RoutineParts) (m : SiteMove) : Type 0 where
  pub site : KnownSite
  pub is : slice_get (known_sites r) m.site ≡ Some site
  pub row : Row
  pub callee : site.callee ≡ row.callee
  pub clone : m.callee ≡ row.clone
  pub known : Covers site.known row.fixed
  pub right : IsRight p row
  pub shape : HasCalleesShape p row
  pub stands : Stands p row.clone
