-- The first flaw of instructions and blocks, one after another.
use Rattle.std.proofs.Common.{◌≡◌, ℕ, suc, ◌+◌, ◌<◌, List, ◌∷◌, length, drop, Option, Some, None, sym, ◌∙◌, ap, add-one}
use Rattle.std.specs.Prelude.{flat_map, slice_index_or}
use Rattle.std.proofs.Math.Seq.{drop-cons}
use Rattle.il_core.specs.declared.instr.Block.{Block}
use Rattle.il_core.specs.declared.instr.Instr.{Instr}
use Rattle.il_core.specs.declared.shape.ShapeRow.{ShapeRow}
use Rattle.il_core.specs.Routine.{RoutineParts}
use Rattle.il_check.specs.declared.flaw.Flaw.{Flaw}
use Rattle.il_check.specs.Conditions.{Condition, first_broken, instr_conditions, end_conditions, block_conditions, blocks_conditions}
use Rattle.il_check.proofs.MetConditions.{in_front, past_met}

abbrev of_instrs : List ShapeRow → ℕ → ℕ → List Instr → List Condition
of_instrs rows regs arrays is = flat_map (λ i. instr_conditions rows regs arrays i) is

here : {X : Type 0} (xs : List X) (k : ℕ) (x : X) → k < length xs → x ≡ slice_index_or xs k x → drop k xs ≡ x ∷ drop (suc k) xs
here xs k x lt e = drop-cons xs k x lt ∙ ap (λ y. y ∷ drop (suc k) xs) (sym e)

pub instr_broken : (rows : List ShapeRow) (regs arrays : ℕ) (is : List Instr) (k : ℕ) (x : Instr) (o : Option Flaw) (f : Flaw) → k < length is
    → x ≡ slice_index_or is k x → first_broken (of_instrs rows regs arrays (drop k is)) ≡ first_broken (of_instrs rows regs arrays is)
    → o ≡ first_broken (instr_conditions rows regs arrays x) → o ≡ Some f → Some f ≡ first_broken (of_instrs rows regs arrays is)
instr_broken rows regs arrays is k x o f lt e inv told some =
    sym (sym inv ∙ ap (λ l. first_broken (of_instrs rows regs arrays l)) (here is k x lt e) ∙ in_front (instr_conditions rows regs arrays x)
    (of_instrs rows regs arrays (drop (suc k) is)) f (sym told ∙ some))

pub block_broken : (rows : List ShapeRow) (r : RoutineParts) (b : ℕ) (x : Block) (n : ℕ) (is : List Instr) (o : Option Flaw) (f : Flaw) → n ≡ length r.arrays
    → is ≡ x.instrs
    → o ≡ first_broken (of_instrs rows r.regs n is) → o ≡ Some f → Some f ≡ first_broken (block_conditions rows r b x)
block_broken rows r b x n is o f same items told some =
    sym (in_front (of_instrs rows r.regs (length r.arrays) x.instrs) (end_conditions r.regs r.value (length r.blocks) b x.end) f
    (ap (λ m. first_broken (of_instrs rows r.regs m x.instrs)) (sym same) ∙ ap (λ l. first_broken (of_instrs rows r.regs n l)) (sym items) ∙ sym told ∙ some))

pub end_told : (rows : List ShapeRow) (r : RoutineParts) (b : ℕ) (x : Block) (n m : ℕ) (is : List Instr) (o e : Option Flaw) → n ≡ length r.arrays
    → is ≡ x.instrs → m ≡ length r.blocks
    → o ≡ first_broken (of_instrs rows r.regs n is) → o ≡ None → e ≡ first_broken (end_conditions r.regs r.value m b x.end)
    → e ≡ first_broken (block_conditions rows r b x)
end_told rows r b x n m is o e same items blocks told none end =
    end ∙ ap (λ k. first_broken (end_conditions r.regs r.value k b x.end)) blocks
    ∙ sym (past_met (of_instrs rows r.regs (length r.arrays) x.instrs) (end_conditions r.regs r.value (length r.blocks) b x.end)
    (ap (λ k. first_broken (of_instrs rows r.regs k x.instrs)) (sym same) ∙ ap (λ l. first_broken (of_instrs rows r.regs n l)) (sym items) ∙ sym told ∙ none))

pub blocks_broken : (rows : List ShapeRow) (r : RoutineParts) (xs : List Block) (k : ℕ) (x : Block) (o a : Option Flaw) (f : Flaw) → k < length xs
    → x ≡ slice_index_or xs k x → first_broken (blocks_conditions rows r k (drop k xs)) ≡ a
    → o ≡ first_broken (block_conditions rows r k x) → o ≡ Some f → Some f ≡ a
blocks_broken rows r xs k x o a f lt e inv told some =
    sym (sym inv ∙ ap (λ l. first_broken (blocks_conditions rows r k l)) (here xs k x lt e) ∙ in_front (block_conditions rows r k x)
    (blocks_conditions rows r (k + 1) (drop (suc k) xs)) f (sym told ∙ some))

pub blocks_go_on : (rows : List ShapeRow) (r : RoutineParts) (xs : List Block) (k : ℕ) (x : Block) (o a : Option Flaw) → k < length xs
    → x ≡ slice_index_or xs k x → first_broken (blocks_conditions rows r k (drop k xs)) ≡ a
    → o ≡ first_broken (block_conditions rows r k x) → o ≡ None → first_broken (blocks_conditions rows r (k + 1) (drop (k + 1) xs)) ≡ a
blocks_go_on rows r xs k x o a lt e inv told none =
    ap (λ n. first_broken (blocks_conditions rows r (k + 1) (drop n xs))) (add-one k)
    ∙ sym (past_met (block_conditions rows r k x) (blocks_conditions rows r (k + 1) (drop (suc k) xs)) (sym told ∙ none))
    ∙ sym (ap (λ l. first_broken (blocks_conditions rows r k l)) (here xs k x lt e)) ∙ inv
