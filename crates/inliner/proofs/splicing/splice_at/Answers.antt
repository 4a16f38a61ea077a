use Rattle.std.proofs.Common.{◌≡◌, ◌+◌, ◌≤◌, ℕ, List, ◌++◌, true, ap, ap₂, sym, subst, ◌∙◌, length}
use Rattle.std.specs.Prelude.{nat_le, sum}
use Rattle.std.specs.List.{AllByRecursion}
use Rattle.il_core.specs.declared.instr.Block.{Block}
use Rattle.il_core.specs.Limits.{max_arrays, max_elements, max_registers, max_size}
use Rattle.il_core.specs.contracts.routine.Routine.{the_view}
use Rattle.il_core.specs.Routine.{RoutineParts}
use Rattle.il_core.specs.Size.{blocks_size}
use Rattle.il_laws.specs.Splice.{Site, spliced_blocks}
use Rattle.const_prop.specs.Tables.{IsValidRoutine}
use Rattle.inliner.specs.Copies.{IsCopiedBlock, NamesBlocks, few_blocks}
use Rattle.inliner.specs.Places.{IsAt}
use Rattle.inliner.proofs.Bounds.{few, copied_blocks, named_blocks}
use Rattle.inliner.proofs.Spliced.{of_both, within}
use Rattle.inliner.proofs.splicing.splice_at.Goals as goal

pub blocks_with-requires-clause-few : goal.blocks_with-requires-clause-few
blocks_with-requires-clause-few c =
    let r = the_view c.caller.inside in
    let was : c.as_mut_slice.result.now ≡ r.blocks = c.as_mut_slice.ensures.value ∙ c.into_vec-blocks.ensures in
    subst (λ (xs : List Block). length xs ≤ few_blocks) (sym was) (few r c.caller.invariant)

pub blocks_with-requires-clause-numbers : goal.blocks_with-requires-clause-numbers
blocks_with-requires-clause-numbers c =
    let r = the_view c.caller.inside in
    let was : c.as_mut_slice.result.now ≡ r.blocks = c.as_mut_slice.ensures.value ∙ c.into_vec-blocks.ensures in
    subst (AllByRecursion (λ (x : Block). NamesBlocks few_blocks x.end)) (sym was)
    (named_blocks r (subst IsValidRoutine (sym c.caller.view_is) c.requires.caller) c.caller.invariant)

pub blocks_with-requires-clause-callee : goal.blocks_with-requires-clause-callee
blocks_with-requires-clause-callee c =
    let q = the_view c.callee.inside in
    subst (λ (z : RoutineParts). AllByRecursion (IsCopiedBlock max_registers max_arrays few_blocks) z.blocks) c.callee.view_is
    (copied_blocks q (subst IsValidRoutine (sym c.callee.view_is) c.requires.callee) c.callee.invariant)

pub blocks_with-requires-clause-callee_few : goal.blocks_with-requires-clause-callee_few
blocks_with-requires-clause-callee_few c =
    subst (λ (q : RoutineParts). length q.blocks ≤ few_blocks) c.callee.view_is (few (the_view c.callee.inside) c.callee.invariant)

pub invariant_of-result : goal.invariant_of-result
invariant_of-result c =
    let r = the_view c.caller.inside in
    let q = the_view c.callee.inside in
    let back = sym c.caller.view_is in
    let place = c.args.place in
    let here = subst (λ (z : RoutineParts). (s : Site) × IsAt place z.blocks s) back c.requires.site in
    let was : c.as_mut_slice.result.now ≡ r.blocks = c.as_mut_slice.ensures.value ∙ c.into_vec-blocks.ensures in
    let count : c.len-count.result ≡ length r.arrays = c.len-count.ensures ∙ c.into_vec-arrays.result.ok.0 ∙ ap (λ (l : List ℕ). length l)
    c.into_vec-arrays.ensures in
    let other : c.as_slice-2.result.now ≡ q.arrays = c.as_slice-2.ensures in
    let arrays : c.from_vec.result ≡ r.arrays ++ q.arrays = c.from_vec.ensures ∙ c.in-Ok-extend_from_slice.ensures.items
    ∙ ap₂ {A = List ℕ} {B = List ℕ} {C = List ℕ} (λ k l. k ++ l) c.into_vec-arrays.ensures other in
    let blocks : (s : Site) → IsAt place r.blocks s → c.from_vec-2.result ≡ spliced_blocks r.regs (length r.arrays) s q
    = λ s at. c.from_vec-2.ensures ∙ c.in-Ok.ensures s (subst (λ (xs : List Block). IsAt place xs s) (sym was) at)
    ∙ ap (λ (k : ℕ). spliced_blocks r.regs k s c.args.callee.now) count ∙ ap (λ (z : RoutineParts). spliced_blocks r.regs (length r.arrays) s z)
    (sym c.callee.view_is) in
    let size : nat_le (blocks_size c.from_vec-2.result) max_size ≡ true
    = ap (λ (xs : List Block). nat_le (blocks_size xs) max_size) (c.from_vec-2.ensures ∙ sym c.as_slice.ensures.value) ∙ sym c.are_few.ensures ∙
    c.if-not-are_few.false in
    let both = λ (P : RoutineParts → RoutineParts → Type 0) (h : P c.args.caller c.args.callee.now).
    of_both P c.args.caller c.args.callee.now r q back (sym c.callee.view_is) h in
    within r q place here c.caller.invariant c.callee.invariant c.from_vec.result c.from_vec-2.result
    (both (λ z w. z.regs + w.regs ≤ max_registers) c.requires.regs)
    (both (λ z w. length z.arrays + length w.arrays ≤ max_arrays) c.requires.arrays)
    (both (λ z w. sum z.arrays + sum w.arrays ≤ max_elements) c.requires.elements) arrays blocks size
