-- Code that is valid where it stands in a routine, and is the rest of it.
use Rattle.std.proofs.Common.{◌≡◌, ℕ, suc, ◌+◌, ◌<◌, ◌≤◌, Bool, true, false, if◌then◌else◌, List, length, Option, Some, None, refl, subst, arith}
use Rattle.std.specs.Prelude.{IsTrue, is_some}
use Rattle.hlo_num.specs.declared.word.Ty.{Ty}
use Rattle.hlo_num.specs.Words.{is_narrow}
use Rattle.il_core.specs.declared.instr.End.{End}
use Rattle.il_core.specs.declared.instr.Instr.{Instr}
use Rattle.il_core.specs.declared.instr.Instr.TheVariants as instr
use Rattle.il_core.specs.declared.shape.ShapeRow.{ShapeRow}
use Rattle.il_core.specs.Routine.{RoutineParts}
use Rattle.il_core.specs.Valid.{NamesObject, IsValidInstr, IsValidEnd, AreValidBlocks}
use Rattle.c_tree.specs.declared.expression.UnaryOp.{UnaryOp}
use Rattle.c_tree.specs.declared.expression.UnaryOp.TheVariants.{Plus, Minus, Complement, Not}
use Rattle.c_typed.specs.declared.expression.Array.TheVariants as arrays
use Rattle.c_typed.specs.declared.expression.BinaryOp.{BinaryOp}
use Rattle.c_typed.specs.declared.expression.BinaryOp.TheVariants as binary
use Rattle.c_typed.specs.declared.expression.LogicalOp.{LogicalOp}
use Rattle.c_typed.specs.declared.expression.LogicalOp.TheVariants as logical
use Rattle.c_typed.specs.declared.expression.Variable.TheVariants as variables
use Rattle.c_typed.specs.Expressions.{Spot, Whole, Part}
use Rattle.lower_laws.specs.Bound.{Scope}
use Rattle.lower_laws.specs.Code.{Code, blocks_of, put, close, Numbers, past_instr, past_end, past_new, past_label, label}
use Rattle.lower_laws.specs.Expressions.{logical_end, arm_past, arm_code}
use Rattle.lower_laws.specs.Layouts.{Layout}
use Rattle.lower_laws.specs.Operations.{load, store, conv_past, conv_code, operation, unary_past, unary_code, update_past, update_result, update_code}
use Rattle.lower_laws.proofs.Frames.{IsScalarLocal, IsArrayLocal}
use Rattle.lower_laws.proofs.Growing.{grow_conv, new_update}

-- a routine has registers for parameters and locals, and arrays for those that are arrays
pub record HasRoom (r : RoutineParts) (y : Layout) (s : Scope) : Type 0 where
  pub params : s.params ≤ r.regs
  pub registers : (x : ℕ) → IsScalarLocal s x → y.register x < r.regs
  pub arrays : (a : ℕ) → IsArrayLocal s a → y.array a < length r.arrays
  pub value : r.value ≡ y.outline.value

-- the code is valid from the block with its number on, and is the rest of the routine
pub record Stands (rows : List ShapeRow) (r : RoutineParts) (n : Numbers) (k : Code) : Type 0 where
  pub blocks : AreValidBlocks rows r n.block (blocks_of k)
  pub whole : n.block + length (blocks_of k) ≡ length r.blocks

module _ (rows : List ShapeRow) (r : RoutineParts) where
  -- the block of its number is one of the routine
  pub block_below : {n : Numbers} {k : Code} → Stands rows r n k → n.block < length r.blocks
  block_below h = omega (arith, h.whole)

  pub stands_same : {k : Code} (n n1 : Numbers) → n1.block ≡ n.block → Stands rows r n1 k → Stands rows r n k
  stands_same {k} n n1 same h = record {
    blocks = subst (λ b. AreValidBlocks rows r b (blocks_of k)) same h.blocks;
    whole = omega (arith, h.whole, same);
  }

  pub stands_put : {i : Instr} {k : Code} (n n1 : Numbers) → n1.block ≡ n.block → IsValidInstr rows r.regs (length r.arrays) i
      → Stands rows r n1 k → Stands rows r n (put i k)
  stands_put n n1 same ok h =
      let h1 = stands_same n n1 same h in
      record { blocks = ((ok, h1.blocks.0), h1.blocks.1, h1.blocks.2); whole = h1.whole }

  pub stands_close : {e : End} {k : Code} (n n1 : Numbers) → n1.block ≡ suc n.block → IsValidEnd r.regs r.value (length r.blocks) n.block e
      → Stands rows r n1 k → Stands rows r n (close e k)
  stands_close {e} {k} n n1 same ok h =
      let next : n1.block ≡ n.block + 1 = omega (arith, same) in
      record {
        blocks = (tt, ok, subst (λ b. AreValidBlocks rows r b (blocks_of k)) next h.blocks);
        whole = omega (arith, h.whole, same);
      }

  pub stands_label : {k : Code} (opened : Bool) (n : Numbers) → Stands rows r (past_label opened n) k → Stands rows r n (label opened n k)
  stands_label true n h = stands_close n (past_end n) refl (omega arith, block_below h) h
  stands_label false n h = h

  -- a register that a conversion takes is there where it is narrow
  stands_conv_if : {k : Code} (b : Bool) (t : Ty) (x : ℕ) (n : Numbers) → x < r.regs → (if b then past_new n else n).reg ≤ r.regs
      → Stands rows r (if b then past_new n else n) k → Stands rows r n (if b then put (instr.Conv n.reg t x) k else k)
  stands_conv_if true t x n lt top h = stands_put n (past_new n) refl (omega (arith, top), lt) h
  stands_conv_if false t x n lt top h = h

  pub stands_conv : {k : Code} (t : Ty) (x : ℕ) (n : Numbers) → x < r.regs → (conv_past t n).reg ≤ r.regs
      → Stands rows r (conv_past t n) k → Stands rows r n (conv_code t x n k)
  stands_conv t x n lt top h = stands_conv_if (is_narrow t) t x n lt top h

  pub valid_operation : (o : BinaryOp) (t : Ty) (d a b : ℕ) → d < r.regs → a < r.regs → b < r.regs
      → IsValidInstr rows r.regs (length r.arrays) (operation o t d a b)
  valid_operation binary.Or t d a b p q s = (p, q, s)
  valid_operation binary.Xor t d a b p q s = (p, q, s)
  valid_operation binary.And t d a b p q s = (p, q, s)
  valid_operation binary.Equal t d a b p q s = (p, q, s)
  valid_operation binary.NotEqual t d a b p q s = (p, q, s)
  valid_operation binary.Less t d a b p q s = (p, q, s)
  valid_operation binary.Greater t d a b p q s = (p, s, q)
  valid_operation binary.LessEqual t d a b p q s = (p, q, s)
  valid_operation binary.GreaterEqual t d a b p q s = (p, s, q)
  valid_operation binary.ShiftLeft t d a b p q s = (p, q, s)
  valid_operation binary.ShiftRight t d a b p q s = (p, q, s)
  valid_operation binary.Add t d a b p q s = (p, q, s)
  valid_operation binary.Subtract t d a b p q s = (p, q, s)
  valid_operation binary.Multiply t d a b p q s = (p, q, s)
  valid_operation binary.Divide t d a b p q s = (p, q, s)
  valid_operation binary.Remainder t d a b p q s = (p, q, s)

  pub stands_unary : {k : Code} (o : UnaryOp) (t : Ty) (x : ℕ) (n : Numbers) → x < r.regs → (unary_past o n).reg ≤ r.regs
      → Stands rows r (unary_past o n) k → Stands rows r n (unary_code o t x n k)
  stands_unary Plus t x n lt top h = h
  stands_unary Minus t x n lt top h =
      stands_put n (past_new n) refl (omega (arith, top))
      (stands_put (past_new n) (past_new (past_new n)) refl (omega (arith, top), omega (arith, top), lt) h)
  stands_unary Complement t x n lt top h =
      stands_put n (past_new n) refl (omega (arith, top))
      (stands_put (past_new n) (past_new (past_new n)) refl (omega (arith, top), lt, omega (arith, top)) h)
  stands_unary Not t x n lt top h =
      stands_put n (past_new n) refl (omega (arith, top))
      (stands_put (past_new n) (past_new (past_new n)) refl (omega (arith, top), lt, omega (arith, top)) h)

  -- the result of an arm, where there is one
  pub stands_arm : {k : Code} (t : Option Ty) (d x : ℕ) (n : Numbers) → (IsTrue (is_some t) → (d < r.regs) × (x < r.regs))
      → Stands rows r (arm_past t n) k → Stands rows r n (arm_code t d x k)
  stands_arm None d x n has h = h
  stands_arm (Some t) d x n has h = stands_put n (past_instr n) refl (has refl) h

  pub valid_logical : (o : LogicalOp) (x a b at : ℕ) → x < r.regs → (at < a) × (a < length r.blocks) → (at < b) × (b < length r.blocks)
      → IsValidEnd r.regs r.value (length r.blocks) at (logical_end o x a b)
  valid_logical logical.And x a b at lt p q = (lt, p, q)
  valid_logical logical.Or x a b at lt p q = (lt, q, p)

  -- ---- spots

  module _ (y : Layout) (s : Scope) (room : HasRoom r y s) where
    -- a spot whose register, array or object is there
    abbrev pub HasSpot : Spot → Type 0
    HasSpot (Whole (variables.Parameter x)) = x < s.params
    HasSpot (Whole (variables.Local x)) = IsScalarLocal s x
    HasSpot (Whole (variables.Object g)) = NamesObject rows g
    HasSpot (Part (arrays.Local a) i) = IsArrayLocal s a × (i < r.regs)
    HasSpot (Part (arrays.Object g) i) = (i < r.regs) × NamesObject rows g

    pub valid_load : (p : Spot) (d : ℕ) → HasSpot p → d < r.regs → IsValidInstr rows r.regs (length r.arrays) (load y p d)
    valid_load (Whole (variables.Parameter x)) d ok lt = (lt, omega (arith, ok, room.params))
    valid_load (Whole (variables.Local x)) d ok lt = (lt, room.registers x ok)
    valid_load (Whole (variables.Object g)) d ok lt = (lt, ok)
    valid_load (Part (arrays.Local a) i) d ok lt = (lt, ok.1, room.arrays a ok.0)
    valid_load (Part (arrays.Object g) i) d ok lt = (lt, ok.0, ok.1)

    pub valid_store : (p : Spot) (x : ℕ) → HasSpot p → x < r.regs → IsValidInstr rows r.regs (length r.arrays) (store y p x)
    valid_store (Whole (variables.Parameter z)) x ok lt = (omega (arith, ok, room.params), lt)
    valid_store (Whole (variables.Local z)) x ok lt = (room.registers z ok, lt)
    valid_store (Whole (variables.Object g)) x ok lt = (lt, ok)
    valid_store (Part (arrays.Local a) i) x ok lt = (ok.1, lt, room.arrays a ok.0)
    valid_store (Part (arrays.Object g) i) x ok lt = (ok.0, lt, ok.1)

    pub stands_update : {k : Code} (t : Ty) (o : BinaryOp) (u : Ty) (p : Spot) (old x : ℕ) (n : Numbers) → HasSpot p → old < r.regs → x < r.regs
        → (update_past t n).reg ≤ r.regs → Stands rows r (update_past t n) k → Stands rows r n (update_code y t o u p old x n k)
    stands_update t o u p old x n ok lo lx top h =
        let g = grow_conv t (past_new n) in
        let first : suc n.reg ≤ r.regs = omega (arith, g.reg, top) in
        stands_put n (past_new n) refl (valid_operation o u n.reg old x first lo lx)
        (stands_conv t n.reg (past_new n) first top
        (stands_put (conv_past t (past_new n)) (update_past t n) refl
        (valid_store p (update_result t n) ok (omega (arith, (new_update t n).below, top))) h))
