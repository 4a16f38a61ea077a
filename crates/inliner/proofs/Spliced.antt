-- A caller with a callee in it is within the limits where the code finds it so.
use Rattle.std.proofs.Common.{◌≡◌, ℕ, ◌+◌, ◌≤◌, List, ◌++◌, true, ap, subst, sym, ◌∙◌, arith, length, leb-true}
use Rattle.std.specs.Prelude.{nat_le, sum}
use Rattle.std.specs.List.{AllByRecursion}
use Rattle.std.proofs.lemmas.List.{length-append}
use Rattle.std.proofs.lemmas.List.Sums.{sum_by-append}
use Rattle.il_core.specs.declared.instr.Block.{Block}
use Rattle.il_core.specs.Limits.{IsBlock, IsWithinLimits, max_arrays, max_elements, max_registers, max_size}
use Rattle.il_core.specs.Routine.{RoutineParts}
use Rattle.il_core.specs.Size.{blocks_size}
use Rattle.il_laws.specs.Splice.{Site, spliced_blocks}
use Rattle.inliner.specs.Places.{IsAt}
use Rattle.inliner.specs.declared.place.Place.{Place}
use Rattle.inliner.proofs.Within.{spliced_within}

-- what holds of two routines, under other names
pub of_both : (P : RoutineParts → RoutineParts → Type 0) (r q r1 q1 : RoutineParts) → r ≡ r1 → q ≡ q1 → P r q → P r1 q1
of_both P r q r1 q1 er eq h = subst (λ z. P r1 z) eq (subst (λ z. P z q) er h)

module _ (r q : RoutineParts) (place : Place) (here : (s : Site) × IsAt place r.blocks s) (h : IsWithinLimits r) (g : IsWithinLimits q) where
  pub within : (arrays : List ℕ) (blocks : List Block) → r.regs + q.regs ≤ max_registers → length r.arrays + length q.arrays ≤ max_arrays
      → sum r.arrays + sum q.arrays ≤ max_elements → arrays ≡ r.arrays ++ q.arrays
      → ((s : Site) → IsAt place r.blocks s → blocks ≡ spliced_blocks r.regs (length r.arrays) s q)
      → nat_le (blocks_size blocks) max_size ≡ true → IsWithinLimits (record r { regs = r.regs + q.regs; arrays = arrays; blocks = blocks })
  within arrays blocks regs few elements is whole size =
      let count = ap (λ (l : List ℕ). length l) is ∙ length-append r.arrays q.arrays in
      let total = ap (λ (l : List ℕ). sum l) is ∙ sum_by-append (λ (k : ℕ). k) r.arrays q.arrays in
      let all = spliced_within r.regs (length r.arrays) here.0 q (subst (AllByRecursion IsBlock) here.1.blocks h.instrs) g.instrs in
      record {
        pid = h.pid;
        params = h.params;
        regs = regs;
        arrays = omega arith;
        elements = omega arith;
        size = leb-true (blocks_size blocks) max_size size;
        instrs = subst (AllByRecursion IsBlock) (sym (whole here.0 here.1)) all;
      }
