-- The changes of one routine leave it within the limits of the language.
use Rattle.std.proofs.Common.{◌≡◌, ℕ, zero, suc, List, [], ◌∷◌, map, Bool, true, false, refl, subst, arith, length, slice_get}
use Rattle.std.specs.Prelude.{Option, Some, None}
use Rattle.std.specs.List.{AllByRecursion}
use Rattle.std.proofs.lemmas.Option.{none-some, same_Some}
use Rattle.il_core.specs.declared.instr.Block.{Block}
use Rattle.il_core.specs.declared.instr.Instr.{Instr}
use Rattle.il_core.specs.declared.instr.Instr.TheVariants.{Const, Move, Conv, Bin, Get, Set, GetX, SetX, GetA, SetA, Clear, Turn, Call, GetChar, PutChar}
use Rattle.il_core.specs.Routine.{RoutineParts}
use Rattle.il_core.specs.Limits.{IsInstr, IsBlock, IsWithinLimits}
use Rattle.il_core.specs.Operands.{retargeted_block}
use Rattle.il_laws.specs.Facts.{Facts, gives, after, facts_at}
use Rattle.il_laws.specs.Propagate.{constant, propagated, propagated_all, propagated_block, with_facts, folded_block, propagate, fold_branches}
use Rattle.il_laws.specs.Live.{Live, alive_blocks, live_at_end, live_at, drop_dead_writes}
use Rattle.il_laws.specs.Renumber.{place_of, kept, renumbered}
use Rattle.il_laws.specs.Unreachable.{reachable, drop_unreachable}
use Rattle.il_laws.specs.Merge.{joined, set_block, all_but, NextBlock, next_at_end, Merging, merge_next, merge_step, merge_from, merge_blocks}
use Rattle.il_laws.specs.Simplify.{one_round, simplify}
use Rattle.il_laws.specs.SimplifyLaws.{NoLarger, StaysWithin}
use Rattle.il_laws.proofs.Merged.{next_is}
use Rattle.il_laws.proofs.Merging.{all_both}
use Rattle.il_laws.proofs.DeadWrites.{alive_all}
use Rattle.il_laws.proofs.Charges.{propagate_no_larger, fold_no_larger, unreachable_no_larger, dead_no_larger, merge_no_larger}

abbrev Within : List Block → Type 0
Within bs = AllByRecursion IsBlock bs

constant_within : (i : Instr) (d : ℕ) (o : Option ℕ) → IsInstr i → IsInstr (constant i d o)
constant_within i d None h = h
constant_within i d (Some v) h = tt

one_within : (fs : Facts) (i : Instr) → IsInstr i → IsInstr (propagated fs i)
one_within fs (Move d s) h = constant_within (Move d s) d (gives fs (Move d s)) h
one_within fs (Conv d t s) h = constant_within (Conv d t s) d (gives fs (Conv d t s)) h
one_within fs (Bin o d a b) h = constant_within (Bin o d a b) d (gives fs (Bin o d a b)) h
one_within fs (Const d v) h = h
one_within fs (Get d g) h = h
one_within fs (Set g s) h = h
one_within fs (GetX d g i) h = h
one_within fs (SetX g i s) h = h
one_within fs (GetA d a i) h = h
one_within fs (SetA a i s) h = h
one_within fs (Clear r c a m) h = h
one_within fs Turn h = h
one_within fs (Call dest p count args) h = h
one_within fs (GetChar d) h = h
one_within fs (PutChar d s) h = h

constants_within : (fs : Facts) (is : List Instr) → AllByRecursion IsInstr is → AllByRecursion IsInstr (propagated_all fs is)
constants_within fs [] h = tt
constants_within fs (i ∷ is) h = (one_within fs i h.0, constants_within (after i fs) is h.1)

facts_within : (change : Facts → Block → Block) → ((fs : Facts) (x : Block) → IsBlock x → IsBlock (change fs x)) → (r : RoutineParts) (b : ℕ)
    (xs : List Block) → Within xs → Within (with_facts change r b xs)
facts_within change h r b [] all = tt
facts_within change h r b (x ∷ xs) all = (h (facts_at r b) x all.0, facts_within change h r (suc b) xs all.1)

alive_within : (bs : List Block) (at : ℕ → Live) (xs : List Block) → Within xs → Within (alive_blocks bs at xs)
alive_within bs at [] all = tt
alive_within bs at (x ∷ xs) all = (alive_all IsInstr x.instrs (live_at_end bs at x.end) all.0, alive_within bs at xs all.1)

moved_within : (to : ℕ → ℕ) (xs : List Block) → Within xs → Within (map (retargeted_block to) xs)
moved_within to [] all = tt
moved_within to (x ∷ xs) all = (all.0, moved_within to xs all.1)

kept_within : (ms : List Bool) (xs : List Block) → Within xs → Within (kept ms xs)
kept_within [] xs all = tt
kept_within (m ∷ ms) [] all = tt
kept_within (true ∷ ms) (x ∷ xs) all = (all.0, kept_within ms xs all.1)
kept_within (false ∷ ms) (x ∷ xs) all = kept_within ms xs all.1

renumbered_within : (ms : List Bool) (xs : List Block) → Within xs → Within (renumbered ms xs)
renumbered_within ms xs all = moved_within (place_of ms) (kept ms xs) (kept_within ms xs all)

set_within : (xs : List Block) (b : ℕ) (z : Block) → Within xs → IsBlock z → Within (set_block xs b z)
set_within [] b z all h = tt
set_within (x ∷ xs) zero z all h = (h, all.1)
set_within (x ∷ xs) (suc b) z all h = (all.0, set_within xs b z all.1 h)

block_within : (xs : List Block) (b : ℕ) (x : Block) → slice_get xs b ≡ Some x → Within xs → IsBlock x
block_within [] b x e all = absurd (none-some x e)
block_within (y ∷ xs) zero x e all = subst IsBlock (same_Some y x e) all.0
block_within (y ∷ xs) (suc b) x e all = block_within xs b x e all.1

next_within : (b : ℕ) (bs : List Block) (x : Block) (o : Option NextBlock) → slice_get bs b ≡ Some x → next_at_end b bs x.end ≡ o → Within bs
    → Within (merge_next b bs x o).blocks
next_within b bs x None ex e all = all
next_within b bs x (Some next) ex e all =
    let is = next_is b bs x.end next e in
    let both = all_both IsInstr x.instrs next.block.instrs (block_within bs b x ex all) (block_within bs next.number next.block is.block all) in
    renumbered_within (all_but next.number bs) (set_block bs b (joined x next.block)) (set_within bs b (joined x next.block) all both)

step_within : (b : ℕ) (bs : List Block) (o : Option Block) → slice_get bs b ≡ o → Within bs → Within (merge_step b bs o).blocks
step_within b bs None e all = all
step_within b bs (Some x) e all = next_within b bs x (next_at_end b bs x.end) e refl all

merge_within : (left : ℕ) (m : Merging) → Within m.blocks → Within (merge_from left m)
merge_within zero m all = all
merge_within (suc left) m all =
    merge_within left (merge_step m.at m.blocks (slice_get m.blocks m.at)) (step_within m.at m.blocks (slice_get m.blocks m.at) refl all)

-- other blocks, no larger and within the limits
blocks_within : (r : RoutineParts) (bs : List Block) → NoLarger r (record r { blocks = bs }) → IsWithinLimits r → Within bs
    → IsWithinLimits (record r { blocks = bs })
blocks_within r bs less h all =
    let size = less.size in
    let most = h.size in
    record { pid = h.pid; params = h.params; regs = h.regs; arrays = h.arrays; elements = h.elements; size = omega arith; instrs = all }

pub propagate_within : StaysWithin propagate
propagate_within r h = blocks_within r (propagate r).blocks (propagate_no_larger r) h
    (facts_within propagated_block (λ fs x all. constants_within fs x.instrs all) r 0 r.blocks h.instrs)

pub fold_within : StaysWithin fold_branches
fold_within r h = blocks_within r (fold_branches r).blocks (fold_no_larger r) h (facts_within folded_block (λ fs x all. all) r 0 r.blocks h.instrs)

pub unreachable_within : StaysWithin drop_unreachable
unreachable_within r h = blocks_within r (drop_unreachable r).blocks (unreachable_no_larger r) h
    (renumbered_within (reachable r.blocks) r.blocks h.instrs)

pub dead_within : StaysWithin drop_dead_writes
dead_within r h = blocks_within r (drop_dead_writes r).blocks (dead_no_larger r) h (alive_within r.blocks (live_at r.blocks) r.blocks h.instrs)

pub merge_blocks_within : StaysWithin merge_blocks
merge_blocks_within r h = blocks_within r (merge_blocks r).blocks (merge_no_larger r) h
    (merge_within (length r.blocks) (record { blocks = r.blocks; at = 0 }) h.instrs)

round_within : StaysWithin one_round
round_within r h =
    let r1 = propagate r in
    let r2 = fold_branches r1 in
    let r3 = drop_unreachable r2 in
    let r4 = drop_dead_writes r3 in
    merge_blocks_within r4 (dead_within r3 (unreachable_within r2 (fold_within r1 (propagate_within r h))))

pub simplify_within : StaysWithin simplify
simplify_within r h =
    let r1 = one_round r in
    let r2 = one_round r1 in
    let r3 = one_round r2 in
    round_within r3 (round_within r2 (round_within r1 (round_within r h)))
