-- The laws of clones: a clone does what its callee does where the constants are, and calls may go to it.
use Rattle.std.specs.Prelude.{◌≡◌, ℕ, ◌+◌, ◌<◌, List, Some, length, if◌then◌else◌}
use Rattle.std.specs.List.{AllByRecursion}
use Rattle.il_core.specs.declared.program.IlProgram.{IlProgram}
use Rattle.il_core.specs.Program.{routine_at, main_pid}
use Rattle.il_core.specs.Routine.{RoutineParts}
use Rattle.il_core.specs.Size.{size}
use Rattle.il_core.specs.Valid.{IsProgram, IsValid}
use Rattle.il_laws.specs.Clone.{Fixed, make_clone}
use Rattle.il_laws.specs.Facts.{looped}
use Rattle.il_laws.specs.Growing.{NewClone, row_of, with_clones, ClonesFit}
use Rattle.il_laws.specs.Keeping.{Stands, KeepsAct, MayFollow, with_routine}
use Rattle.il_laws.specs.Retarget.{SiteMove, retarget, IsByRow}
use Rattle.il_laws.specs.Serving.{Serves}
use Rattle.il_laws.specs.Table.{Row, IsRight, HasCalleesShape}

-- constants of parameters alone
abbrev pub AreOfParams : RoutineParts → List Fixed → Type 0
AreOfParams r fixed = AllByRecursion (λ x. x.param < r.params) fixed

-- In a valid program that has both, the row of a routine's clone is right.
abbrev pub CloneIsRight : Type 0
CloneIsRight = (p : IlProgram) → IsProgram p → (x y : ℕ) (r : RoutineParts) (fixed : List Fixed) → AreOfParams r fixed
    → routine_at p.routines x ≡ Some r → routine_at p.routines y ≡ Some (make_clone r y fixed)
    → IsRight p (record { callee = x; fixed = fixed; clone = y })

-- A right row stays right through each change that keeps what routines do, for as long as both stand.
abbrev pub RowStays : Type 0
RowStays = (p p1 : IlProgram) (row : Row) → KeepsAct p p1 → (Stands p1 row.callee → Stands p row.callee)
    → (Stands p1 row.clone → Stands p row.clone) → IsRight p row → IsRight p1 row

-- A clone of a valid routine is valid.
abbrev pub CloneIsValid : Type 0
CloneIsValid = (p : IlProgram) (r : RoutineParts) (pid : ℕ) (fixed : List Fixed) → IsValid p.shapes r → AreOfParams r fixed
    → IsValid p.shapes (make_clone r pid fixed)

-- its size: one more for each constant, and for the jump where block 0 comes behind a new one
abbrev pub CloneSize : Type 0
CloneSize = (r : RoutineParts) (pid : ℕ) (fixed : List Fixed) → 0 < length r.blocks
    → size (make_clone r pid fixed) ≡ size r + length fixed + (if looped r.blocks 0 then 1 else 0)

-- Sites may call the clones of right rows whose constants are known there.
abbrev pub RetargetServes : Type 0
RetargetServes = (p : IlProgram) → IsProgram p → (r : RoutineParts) (moves : List SiteMove) → IsValid p.shapes r
    → AllByRecursion (IsByRow p r) moves → Serves p r (retarget r moves)

abbrev pub RetargetFollows : Type 0
RetargetFollows = (p : IlProgram) → IsProgram p → (x : ℕ) (r : RoutineParts) (moves : List SiteMove) → routine_at p.routines x ≡ Some r
    → AllByRecursion (IsByRow p r) moves → MayFollow p (with_routine p (retarget r moves))

-- what a new clone is in a program: it stands, takes its callee's place in a call, and its row is right
pub record IsAdded (p : IlProgram) (c : NewClone) : Type 0 where
  pub stands : Stands p c.pid
  pub shape : HasCalleesShape p (row_of c)
  pub right : IsRight p (row_of c)

-- A program with clones added: it follows, what stood stands as it was, and `main` has its PID.
pub record ClonesAdded (p p1 : IlProgram) (cs : List NewClone) : Type 0 where
  pub follows : MayFollow p p1
  pub stand : (x : ℕ) (r : RoutineParts) → routine_at p.routines x ≡ Some r → routine_at p1.routines x ≡ Some r
  pub main : main_pid p1.shapes ≡ main_pid p.shapes
  pub clones : AllByRecursion (IsAdded p1) cs

-- Clones that fit may be added.
abbrev pub ClonesFollow : Type 0
ClonesFollow = (p : IlProgram) → IsProgram p → (cs : List NewClone) → ClonesFit p cs → ClonesAdded p (with_clones p cs) cs
