-- The site that the code finds, and what it makes there, are those of the definition.
use Rattle.std.proofs.Common.{◌≡◌, ℕ, ◌+◌, ◌≤◌, List, ◌++◌, Bool, true, false, refl, ap, ap₂, subst, sym, ◌∙◌, arith, length, le-leb}
use Rattle.std.specs.Prelude.{◌&&◌, nat_le, sum, Option, Some, None, Result, IfErr, IfOk}
use Rattle.std.proofs.lemmas.List.{length-append}
use Rattle.std.proofs.lemmas.List.Sums.{sum_by-append}
use Rattle.il_core.specs.declared.instr.Block.{Block}
use Rattle.il_core.specs.Limits.{IsWithinLimits, max_arrays, max_elements, max_registers}
use Rattle.il_core.specs.Routine.{RoutineParts}
use Rattle.il_laws.specs.Splice.{Site, site_at, splice, spliced}
use Rattle.inliner.specs.Places.{site_place, IsAt}
use Rattle.inliner.specs.declared.fault.SpliceFault.{SpliceFault}
use Rattle.inliner.specs.declared.fault.SpliceFault.TheVariants as faults
use Rattle.inliner.specs.declared.place.Place.{Place}
use Rattle.inliner.proofs.Placing.{Found, found, no_site}

module _ (r q : RoutineParts) (k : ℕ) (blocks : List Block) (same : blocks ≡ r.blocks) where
  pub unchanged : site_place 0 k blocks ≡ None → r ≡ splice r k q
  unchanged h =
      sym (ap (λ (o : Option Site). spliced r q o)
      (no_site k r.blocks (site_at k r.blocks) refl (ap (λ (xs : List Block). site_place 0 k xs) (sym same) ∙ h)))

  module _ (place : Place) (h : site_place 0 k blocks ≡ Some place) where
    here : Found k r.blocks place
    here = found k r.blocks (site_at k r.blocks) place refl (ap (λ (xs : List Block). site_place 0 k xs) (sym same) ∙ h)

    pub is_there : (s : Site) × IsAt place r.blocks s
    unfolding here
    is_there = (here.site, here.at)

    is_spliced : (s : Site) → site_at k r.blocks ≡ Some s → splice r k q ≡ spliced r q (Some s)
    is_spliced s e = ap (λ (o : Option Site). spliced r q o) e

    pub made : (o : Result RoutineParts SpliceFault) → IfOk o (λ x. (s : Site) → IsAt place r.blocks s → x ≡ spliced r q (Some s))
        → IfOk o (λ x. x ≡ splice r k q)
    unfolding here
    made (Rattle.std.proofs.Common.Ok x) p = p here.site here.at ∙ sym (is_spliced here.site here.is)
    made (Rattle.std.proofs.Common.Err e) p = tt

    pub refused : (o : Result RoutineParts SpliceFault)
        → IfErr o (λ e. e ≡ faults.TooLarge → (s : Site) → IsAt place r.blocks s → IsWithinLimits (spliced r q (Some s)) → ⊥)
        → IfErr o (λ e. e ≡ faults.TooLarge → IsWithinLimits (splice r k q) → ⊥)
    unfolding here
    refused (Rattle.std.proofs.Common.Ok x) p = tt
    refused (Rattle.std.proofs.Common.Err e) p = λ is w. p is here.site here.at (subst IsWithinLimits (is_spliced here.site here.is) w)

    -- within the limits there is room
    pub crowded : (nat_le (r.regs + q.regs) max_registers && nat_le (length r.arrays + length q.arrays) max_arrays
        && nat_le (sum r.arrays + sum q.arrays) max_elements) ≡ false → IsWithinLimits (splice r k q) → ⊥
    unfolding here
    crowded e w =
        let h = subst IsWithinLimits (is_spliced here.site here.is) w in
        let count = length-append r.arrays q.arrays in
        let total = sum_by-append (λ (n : ℕ). n) r.arrays q.arrays in
        let arrays = h.arrays in
        let elements = h.elements in
        let a = le-leb (r.regs + q.regs) max_registers h.regs in
        let b = le-leb (length r.arrays + length q.arrays) max_arrays (omega arith) in
        let c = le-leb (sum r.arrays + sum q.arrays) max_elements (omega arith) in
        let all : (nat_le (r.regs + q.regs) max_registers && nat_le (length r.arrays + length q.arrays) max_arrays
        && nat_le (sum r.arrays + sum q.arrays) max_elements) ≡ true
        = ap (λ (x : Bool). x && nat_le (length r.arrays + length q.arrays) max_arrays && nat_le (sum r.arrays + sum q.arrays) max_elements) a
        ∙ ap (λ (x : Bool). x && nat_le (sum r.arrays + sum q.arrays) max_elements) b ∙ c in
        let bad : true ≡ false = sym all ∙ e in absurd cc
