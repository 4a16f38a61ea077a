-- No change of one routine makes it larger. Stated for any weight of instructions that such a change doesn't raise, with
-- a weight for each block, so that the size and the charge are two cases.
use Rattle.std.proofs.Common.{◌≡◌, ℕ, zero, suc, ◌+◌, ◌≤◌, List, [], ◌∷◌, ◌++◌, map, Bool, true, false, refl, ap, arith, length, slice_get}
use Rattle.std.specs.Prelude.{Option, Some, None, sum_by}
use Rattle.std.proofs.lemmas.Option.{none-some, same_Some}
use Rattle.std.proofs.lemmas.List.Sums.{sum_by-cons}
use Rattle.il_core.specs.declared.instr.Block.{Block}
use Rattle.il_core.specs.declared.instr.Instr.{Instr}
use Rattle.il_core.specs.Routine.{RoutineParts}
use Rattle.il_core.specs.Operands.{retargeted_block}
use Rattle.il_laws.specs.Facts.{Facts, facts_at}
use Rattle.il_laws.specs.Propagate.{propagated_all, propagated_block, with_facts, folded_block, propagate, fold_branches}
use Rattle.il_laws.specs.Live.{Live, alive, alive_block, alive_blocks, live_at_end, live_by, live_starts, drop_dead_writes}
use Rattle.il_laws.specs.Renumber.{place_of, kept, renumbered}
use Rattle.il_laws.specs.Unreachable.{reachable, drop_unreachable}
use Rattle.il_laws.specs.Merge.{joined, set_block, all_but, NextBlock, next_at_end, Merging, merge_next, merge_step, merge_from, merge_blocks}
use Rattle.il_laws.proofs.Merged.{next_is}

-- a weight of instructions that no change of one routine raises
pub record IsWeight (weight : List Instr → ℕ) : Type 0 where
  pub append : (is js : List Instr) → weight (is ++ js) ≤ weight is + weight js
  pub constants : (fs : Facts) (is : List Instr) → weight (propagated_all fs is) ≤ weight is
  pub kept : (is : List Instr) (live : Live) → weight (alive is live) ≤ weight is

module _ (weight : List Instr → ℕ) (block : ℕ) (is_weight : IsWeight weight) where
  abbrev pub block_weight : Block → ℕ
  block_weight x = weight x.instrs + block

  abbrev pub total : List Block → ℕ
  total bs = sum_by block_weight bs

  cons : (x : Block) (xs : List Block) → total (x ∷ xs) ≡ block_weight x + total xs
  cons x xs = sum_by-cons block_weight x xs

  facts_total : (change : Facts → Block → Block) → ((fs : Facts) (x : Block) → block_weight (change fs x) ≤ block_weight x)
      → (r : RoutineParts) (b : ℕ) (xs : List Block) → total (with_facts change r b xs) ≤ total xs
  facts_total change less r b [] = omega arith
  facts_total change less r b (x ∷ xs) =
      let new = cons (change (facts_at r b) x) (with_facts change r (suc b) xs) in
      let old = cons x xs in
      let here = less (facts_at r b) x in
      let rest = facts_total change less r (suc b) xs in
      omega arith

  alive_total : (bs : List Block) (at : ℕ → Live) (xs : List Block) → total (alive_blocks bs at xs) ≤ total xs
  alive_total bs at [] = omega arith
  alive_total bs at (x ∷ xs) =
      let new = cons (alive_block bs at x) (alive_blocks bs at xs) in
      let old = cons x xs in
      let here = is_weight.kept x.instrs (live_at_end bs at x.end) in
      let rest = alive_total bs at xs in
      omega arith

  moved_total : (to : ℕ → ℕ) (xs : List Block) → total (map (retargeted_block to) xs) ≡ total xs
  moved_total to [] = refl
  moved_total to (x ∷ xs) =
      let new = cons (retargeted_block to x) (map (retargeted_block to) xs) in
      let old = cons x xs in
      let rest = moved_total to xs in
      omega arith

  kept_total : (ms : List Bool) (xs : List Block) → total (kept ms xs) ≤ total xs
  kept_total [] xs = omega arith
  kept_total (m ∷ ms) [] = omega arith
  kept_total (true ∷ ms) (x ∷ xs) =
      let new = cons x (kept ms xs) in
      let old = cons x xs in
      let rest = kept_total ms xs in
      omega arith
  kept_total (false ∷ ms) (x ∷ xs) =
      let old = cons x xs in
      let rest = kept_total ms xs in
      omega arith

  renumbered_total : (ms : List Bool) (xs : List Block) → total (renumbered ms xs) ≤ total xs
  renumbered_total ms xs =
      let same = moved_total (place_of ms) (kept ms xs) in
      let less = kept_total ms xs in
      omega arith

  -- without block t
  but_total : (xs : List Block) (t : ℕ) (y : Block) → slice_get xs t ≡ Some y → total (kept (all_but t xs) xs) + block_weight y ≤ total xs
  but_total [] t y e = absurd (none-some y e)
  but_total (x ∷ xs) zero y e =
      let old = cons x xs in
      let rest = kept_total (map (λ (z : Block). true) xs) xs in
      let same = ap block_weight (same_Some x y e) in
      omega arith
  but_total (x ∷ xs) (suc t) y e =
      let old = cons x xs in
      let new = cons x (kept (all_but t xs) xs) in
      let rest = but_total xs t y e in
      omega arith

  -- with another block b
  set_total : (xs : List Block) (b : ℕ) (x z : Block) → slice_get xs b ≡ Some x → total (set_block xs b z) + block_weight x ≡ total xs + block_weight z
  set_total [] b x z e = absurd (none-some x e)
  set_total (w ∷ xs) zero x z e =
      let old = cons w xs in
      let new = cons z xs in
      let same = ap block_weight (same_Some w x e) in
      omega arith
  set_total (w ∷ xs) (suc b) x z e =
      let old = cons w xs in
      let new = cons w (set_block xs b z) in
      let rest = set_total xs b x z e in
      omega arith

  -- block b has taken in block t
  taken_total : (xs : List Block) (b t : ℕ) (x y z : Block) → slice_get xs b ≡ Some x → slice_get xs t ≡ Some y
      → block_weight z ≤ block_weight x + block_weight y → total (kept (all_but t xs) (set_block xs b z)) ≤ total xs
  taken_total [] b t x y z ex ey le = absurd (none-some x ex)
  taken_total (w ∷ xs) zero zero x y z ex ey le =
      let old = cons w xs in
      let rest = kept_total (map (λ (v : Block). true) xs) xs in
      omega arith
  taken_total (w ∷ xs) zero (suc t) x y z ex ey le =
      let old = cons w xs in
      let new = cons z (kept (all_but t xs) xs) in
      let rest = but_total xs t y ey in
      let same = ap block_weight (same_Some w x ex) in
      omega arith
  taken_total (w ∷ xs) (suc b) zero x y z ex ey le =
      let old = cons w xs in
      let rest = kept_total (map (λ (v : Block). true) xs) (set_block xs b z) in
      let set = set_total xs b x z ex in
      let same = ap block_weight (same_Some w y ey) in
      omega arith
  taken_total (w ∷ xs) (suc b) (suc t) x y z ex ey le =
      let old = cons w xs in
      let new = cons w (kept (all_but t xs) (set_block xs b z)) in
      let rest = taken_total xs b t x y z ex ey le in
      omega arith

  joined_weight : (x y : Block) → block_weight (joined x y) ≤ block_weight x + block_weight y
  joined_weight x y = let sum = is_weight.append x.instrs y.instrs in omega arith

  next_total : (b : ℕ) (bs : List Block) (x : Block) (o : Option NextBlock) → slice_get bs b ≡ Some x → next_at_end b bs x.end ≡ o
      → total (merge_next b bs x o).blocks ≤ total bs
  next_total b bs x None ex e = omega arith
  next_total b bs x (Some next) ex e =
      let t = next.number in
      let z = joined x next.block in
      let is = next_is b bs x.end next e in
      let same = moved_total (place_of (all_but t bs)) (kept (all_but t bs) (set_block bs b z)) in
      let less = taken_total bs b t x next.block z ex is.block (joined_weight x next.block) in
      omega arith

  step_total : (b : ℕ) (bs : List Block) (o : Option Block) → slice_get bs b ≡ o → total (merge_step b bs o).blocks ≤ total bs
  step_total b bs None e = omega arith
  step_total b bs (Some x) e = next_total b bs x (next_at_end b bs x.end) e refl

  merge_total : (left : ℕ) (m : Merging) → total (merge_from left m) ≤ total m.blocks
  merge_total zero m = omega arith
  merge_total (suc left) m =
      let first = step_total m.at m.blocks (slice_get m.blocks m.at) refl in
      let rest = merge_total left (merge_step m.at m.blocks (slice_get m.blocks m.at)) in
      omega arith

  pub propagate_total : (r : RoutineParts) → total (propagate r).blocks ≤ total r.blocks
  propagate_total r = facts_total propagated_block (λ fs x. let le = is_weight.constants fs x.instrs in omega arith) r 0 r.blocks

  pub fold_total : (r : RoutineParts) → total (fold_branches r).blocks ≤ total r.blocks
  fold_total r = facts_total folded_block (λ fs x. omega arith) r 0 r.blocks

  pub unreachable_total : (r : RoutineParts) → total (drop_unreachable r).blocks ≤ total r.blocks
  unreachable_total r = renumbered_total (reachable r.blocks) r.blocks

  pub dead_total : (r : RoutineParts) → total (drop_dead_writes r).blocks ≤ total r.blocks
  dead_total r = alive_total r.blocks (live_by 0 (live_starts r.blocks 0 r.blocks)) r.blocks

  pub merge_blocks_total : (r : RoutineParts) → total (merge_blocks r).blocks ≤ total r.blocks
  merge_blocks_total r = merge_total (length r.blocks) (record { blocks = r.blocks; at = 0 })
