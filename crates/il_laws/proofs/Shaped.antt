-- A routine stays valid, and does what it did, in a program with other routines, where those that it calls stay.
use Rattle.std.proofs.Common.{◌≡◌, ℕ, ◌+◌, List, [], ◌∷◌, Bool, refl, subst, sym, length}
use Rattle.std.specs.Prelude.{Option, Some, None}
use Rattle.std.specs.List.{AllByRecursion}
use Rattle.std.proofs.lemmas.Option.{none-some, same_Some}
use Rattle.il_core.specs.declared.instr.Block.{Block}
use Rattle.il_core.specs.declared.instr.Instr.{Instr}
use Rattle.il_core.specs.declared.instr.Instr.TheVariants.{Const, Move, Conv, Bin, Get, Set, GetX, SetX, GetA, SetA, Clear, Turn, Call, GetChar, PutChar}
use Rattle.il_core.specs.declared.program.IlProgram.{IlProgram}
use Rattle.il_core.specs.declared.shape.Shape.{Shape}
use Rattle.il_core.specs.declared.shape.Shape.TheVariants as shape
use Rattle.il_core.specs.declared.shape.ShapeRow.{ShapeRow}
use Rattle.il_core.specs.Program.{found, routine_at, shape_of_row, shape_at}
use Rattle.il_core.specs.Routine.{RoutineParts}
use Rattle.il_core.specs.Valid.{IsValid, IsValidInstr, IsRoutineShape, IsObjectShape, NamesObject, AreValidBlocks, is_wanted}
use Rattle.il_core.specs.World.{World}
use Rattle.il_core.specs.Meaning.{act}
use Rattle.il_laws.specs.Runs.{Callable, IsCallIn, CallsIn, BlocksCallIn}
use Rattle.il_laws.proofs.Found.{found_number}
use Rattle.il_laws.proofs.Keeps.{SameRoutine, act_kept}

-- Other rows: objects keep their shapes, and so do the routines that may be called.
pub record KeepsShapes (may : Callable) (rows rows1 : List ShapeRow) : Type 0 where
  pub objects : (x words : ℕ) → shape_at rows x ≡ Some (shape.Object words) → shape_at rows1 x ≡ Some (shape.Object words)
  pub routines : (x params : ℕ) (value : Bool) → may x → shape_at rows x ≡ Some (shape.Routine params value)
      → shape_at rows1 x ≡ Some (shape.Routine params value)

module _ (may : Callable) (rows rows1 : List ShapeRow) (keeps : KeepsShapes may rows rows1) where
  object_stays : (x : ℕ) (o : Option Shape) → shape_at rows x ≡ o → IsObjectShape o → IsObjectShape (shape_at rows1 x)
  object_stays x (Some (shape.Object words)) e h = subst IsObjectShape (sym (keeps.objects x words e)) tt
  object_stays x (Some (shape.Routine params value)) e h = absurd h
  object_stays x None e h = absurd h

  names_stay : (x : ℕ) → NamesObject rows x → NamesObject rows1 x
  names_stay x h = object_stays x (shape_at rows x) refl h

  routine_stays : (x count : ℕ) (wanted : Bool) → may x → (o : Option Shape) → shape_at rows x ≡ o → IsRoutineShape o count wanted
      → IsRoutineShape (shape_at rows1 x) count wanted
  routine_stays x count wanted m (Some (shape.Routine params value)) e h =
      subst (λ (o : Option Shape). IsRoutineShape o count wanted) (sym (keeps.routines x params value m e)) h
  routine_stays x count wanted m (Some (shape.Object words)) e h = absurd h
  routine_stays x count wanted m None e h = absurd h

  module _ (regs arrays : ℕ) where
    instr_stays : (i : Instr) → IsCallIn may i → IsValidInstr rows regs arrays i → IsValidInstr rows1 regs arrays i
    instr_stays (Call dest q count args) m h = (h.0, h.1, routine_stays q (length args) (is_wanted dest) m (shape_at rows q) refl h.2)
    instr_stays (Get d x) m h = (h.0, names_stay x h.1)
    instr_stays (Set x s) m h = (h.0, names_stay x h.1)
    instr_stays (GetX d x i) m h = (h.0, h.1, names_stay x h.2)
    instr_stays (SetX x i s) m h = (h.0, h.1, names_stay x h.2)
    instr_stays (Const d v) m h = h
    instr_stays (Move d s) m h = h
    instr_stays (Conv d t s) m h = h
    instr_stays (Bin o d a b) m h = h
    instr_stays (GetA d a i) m h = h
    instr_stays (SetA a i s) m h = h
    instr_stays (Clear r c a n) m h = h
    instr_stays Turn m h = h
    instr_stays (GetChar d) m h = h
    instr_stays (PutChar d s) m h = h

    instrs_stay : (is : List Instr) → CallsIn may is → AllByRecursion (IsValidInstr rows regs arrays) is
        → AllByRecursion (IsValidInstr rows1 regs arrays) is
    instrs_stay [] m h = tt
    instrs_stay (i ∷ is) m h = (instr_stays i m.0 h.0, instrs_stay is m.1 h.1)

  blocks_stay : (r : RoutineParts) (b : ℕ) (xs : List Block) → BlocksCallIn may xs → AreValidBlocks rows r b xs → AreValidBlocks rows1 r b xs
  blocks_stay r b [] m h = tt
  blocks_stay r b (x ∷ xs) m h = (instrs_stay r.regs (length r.arrays) x.instrs m.0 h.0, h.1, blocks_stay r (b + 1) xs m.1 h.2)

  pub valid_stays : (r : RoutineParts) → BlocksCallIn may r.blocks → IsValid rows r → IsValid rows1 r
  valid_stays r m h = record { params = h.params; blocks = blocks_stay r 0 r.blocks m h.blocks; some_block = h.some_block }

-- a shape stands in a row
pub record InRow (rows : List ShapeRow) (x : ℕ) (s : Shape) : Type 0 where
  pub row : ShapeRow
  pub is : found (λ z. z.pid) x rows ≡ Some row
  pub pid : row.pid ≡ x
  pub shape : row.shape ≡ s

row_in : (rows : List ShapeRow) (x : ℕ) (s : Shape) (o : Option ShapeRow) → found (λ z. z.pid) x rows ≡ o → shape_of_row o ≡ Some s → InRow rows x s
row_in rows x s None e h = absurd (none-some s h)
row_in rows x s (Some row) e h =
    record { row = row; is = e; pid = found_number (λ (z : ShapeRow). z.pid) x rows row e; shape = same_Some row.shape s h }

pub in_row : (rows : List ShapeRow) (x : ℕ) (s : Shape) → shape_at rows x ≡ Some s → InRow rows x s
in_row rows x s h = row_in rows x s (found (λ z. z.pid) x rows) refl h

-- Where two programs have the same objects, and the same routines at all places that calls reach, these do the same.
module _ (p : IlProgram) (rows1 : List ShapeRow) (rs1 : List RoutineParts) (may : Callable)
    (same : (x : ℕ) → may x → routine_at p.routines x ≡ routine_at rs1 x)
    (closed : (x : ℕ) (r : RoutineParts) → may x → routine_at p.routines x ≡ Some r → BlocksCallIn may r.blocks) where
  abbrev other : IlProgram
  other = record p { shapes = rows1; routines = rs1 }

  itself : (o : Option RoutineParts) → ((r : RoutineParts) → o ≡ Some r → BlocksCallIn may r.blocks) → SameRoutine (Unit {0}) p other may o o
  itself None ok = tt
  itself (Some r) ok = record { params = refl; calls = ok r refl; calls1 = ok r refl; by = λ args w. refl }

  pub reached_same : (x : ℕ) (args : List ℕ) (w : World (Unit {0})) → may x → act p x args w ≡ act other x args w
  reached_same x args w m =
      act_kept p other may (λ y m1. subst (λ (o : Option RoutineParts). SameRoutine (Unit {0}) p other may (routine_at p.routines y) o) (same y m1)
      (itself (routine_at p.routines y) (λ r e. closed y r m1 e))) x args w m
