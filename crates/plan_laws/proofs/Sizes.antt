-- The numbers that the choice computes are those of the routines with their callees spliced.
use Rattle.std.proofs.Common.{◌≡◌, ℕ, zero, suc, ◌+◌, List, [], ◌∷◌, map, option_map, refl, ap, subst, sym, ◌∙◌, arith, length}
use Rattle.std.specs.Prelude.{◌^◌, Option, Some, None, sum, sum_by}
use Rattle.std.specs.List.{AllByRecursion}
use Rattle.std.proofs.lemmas.List.Sums.{sum_by-cons}
use Rattle.il_core.specs.declared.program.IlProgram.{IlProgram}
use Rattle.il_core.specs.Program.{routine_at}
use Rattle.il_core.specs.Routine.{RoutineParts}
use Rattle.il_core.specs.Size.{size, cost}
use Rattle.il_core.specs.Valid.{IsProgram}
use Rattle.il_laws.specs.Inline.{SiteBody, inlined}
use Rattle.il_laws.specs.Known.{known_sites}
use Rattle.il_laws.specs.Serving.{Serves}
use Rattle.il_laws.specs.Splice.{value_returns}
use Rattle.il_laws.specs.SpliceLaws.{added_size}
use Rattle.il_core.proofs.Programs.{routine_valid}
use Rattle.il_laws.proofs.Serving.{each_found}
use Rattle.il_laws.proofs.SpliceSizes.{inlined_sizes}
use Rattle.plan_laws.specs.Summary.{Summary, summary, summaries, summary_at}
use Rattle.plan_laws.specs.Numbers.{Choice, InlineSite, inline_sites, Numbers, own, with_callee, with_calls, numbers, inlined_numbers, cost_after}
use Rattle.plan_laws.specs.Inlining.{body_for, bodies, inlined_by, inlined_routine, inlined_routines}
use Rattle.plan_laws.proofs.GroupsFit.{summary_found}
use Rattle.plan_laws.proofs.Inlines.{bodies_fall, bodies_serve, by_serves}
use Rattle.plan_laws.proofs.Sites.{sites_fall}

-- the numbers are a routine's
pub record AreOf (n : Numbers) (r : RoutineParts) : Type 0 where
  pub size : n.size ≡ size r
  pub regs : n.regs ≡ r.regs
  pub arrays : n.arrays ≡ length r.arrays
  pub elements : n.elements ≡ sum r.arrays

-- the numbers n with these bodies
record AreWith (n m : Numbers) (xs : List SiteBody) : Type 0 where
  size : m.size ≡ n.size + sum_by (λ a. added_size a.body) xs
  regs : m.regs ≡ n.regs + sum_by (λ a. a.body.regs) xs
  arrays : m.arrays ≡ n.arrays + sum_by (λ a. length a.body.arrays) xs
  elements : m.elements ≡ n.elements + sum_by (λ a. sum a.body.arrays) xs

module _ (p : IlProgram) (valid : IsProgram p) (cs : List Choice) where
  abbrev ss : List Summary
  ss = summaries p

  abbrev rs : List RoutineParts
  rs = p.routines

  -- what f makes of each callee has the numbers that g computes, and its callee's parameters and returns
  record IsMeasured (f : RoutineParts → RoutineParts) (g : Summary → Numbers) : Type 0 where
    serves : (x : ℕ) (q : RoutineParts) → routine_at rs x ≡ Some q → Serves p q (f q)
    numbers : (x : ℕ) (q : RoutineParts) → routine_at rs x ≡ Some q → AreOf (g (summary q)) (f q)
    returns : (x : ℕ) (q : RoutineParts) → routine_at rs x ≡ Some q → value_returns (f q).blocks ≡ value_returns q.blocks

  module _ (f : RoutineParts → RoutineParts) (g : Summary → Numbers) (h : IsMeasured f g) where
    one_more : (n m : Numbers) (k x : ℕ) (o : Option RoutineParts) (xs : List SiteBody) → routine_at rs x ≡ o
        → AreWith (with_callee n (option_map summary o) g) m xs → AreWith n m (body_for f k o xs)
    one_more n m k x None xs e w = record { size = w.size; regs = w.regs; arrays = w.arrays; elements = w.elements }
    one_more n m k x (Some q) xs e w =
        let a : SiteBody = record { site = k; body = f q } in
        let params = (h.serves x q e).params in
        let is = h.numbers x q e in
        let returns = h.returns x q e in
        let i1 = is.size in let i2 = is.regs in let i3 = is.arrays in let i4 = is.elements in
        let w1 = w.size in let w2 = w.regs in let w3 = w.arrays in let w4 = w.elements in
        let t1 = sum_by-cons (λ (b : SiteBody). added_size b.body) a xs in
        let t2 = sum_by-cons (λ (b : SiteBody). b.body.regs) a xs in
        let t3 = sum_by-cons (λ (b : SiteBody). length b.body.arrays) a xs in
        let t4 = sum_by-cons (λ (b : SiteBody). sum b.body.arrays) a xs in
        record { size = omega arith; regs = omega arith; arrays = omega arith; elements = omega arith }

    walk : (n : Numbers) (xs : List InlineSite) → AreWith n (with_calls ss g n xs) (bodies f rs xs)
    walk n [] = record { size = omega arith; regs = omega arith; arrays = omega arith; elements = omega arith }
    walk n (x ∷ xs) =
        let found = summary_found rs x.callee in
        let o = routine_at rs x.callee in
        let next = with_callee n (summary_at ss x.callee) g in
        let here = walk next xs in
        one_more n (with_calls ss g next xs) x.site x.callee o (bodies f rs xs) refl
        (subst (λ (z : Option Summary). AreWith (with_callee n z g) (with_calls ss g next xs) (bodies f rs xs)) found here)

    -- a routine with these bodies at its accepted sites
    record Deeper (q : RoutineParts) : Type 0 where
      numbers : AreOf (with_calls ss g (own (summary q)) (inline_sites cs q.pid (known_sites q)))
          (inlined q (bodies f rs (inline_sites cs q.pid (known_sites q))))
      returns : value_returns (inlined q (bodies f rs (inline_sites cs q.pid (known_sites q)))).blocks ≡ value_returns q.blocks

    deeper : (x : ℕ) (q : RoutineParts) → routine_at rs x ≡ Some q → Deeper q
    deeper x q e =
        let sites = inline_sites cs q.pid (known_sites q) in
        let fall = sites_fall cs q in
        let sizes = inlined_sizes p valid q (bodies f rs sites) (routine_valid p valid x q e) (bodies_fall p valid f h.serves sites fall.0)
        (bodies_serve p valid f h.serves q sites fall.1) in
        let w = walk (own (summary q)) sites in
        record {
          numbers = record {
            size = w.size ∙ sym sizes.size;
            regs = w.regs ∙ sym sizes.regs;
            arrays = w.arrays ∙ sym sizes.arrays;
            elements = w.elements ∙ sym sizes.elements;
          };
          returns = sizes.returns;
        }

  measured : (n : ℕ) → IsMeasured (inlined_by rs cs n) (numbers ss cs n)
  measured zero =
      record {
        serves = λ x q e. by_serves p valid cs zero x q e;
        numbers = λ x q e. record { size = refl; regs = refl; arrays = refl; elements = refl };
        returns = λ x q e. refl;
      }
  measured (suc n) =
      let h = measured n in
      record {
        serves = λ x q e. by_serves p valid cs (suc n) x q e;
        numbers = λ x q e. (deeper (inlined_by rs cs n) (numbers ss cs n) h x q e).numbers;
        returns = λ x q e. (deeper (inlined_by rs cs n) (numbers ss cs n) h x q e).returns;
      }

  pub numbers_are : (x : ℕ) (r : RoutineParts) → routine_at rs x ≡ Some r → AreOf (inlined_numbers ss cs (summary r)) (inlined_routine rs cs r)
  numbers_are x r e = (measured (suc (length cs))).numbers x r e

  -- so the cost is the one computed
  costs_are : (qs : List RoutineParts) → AllByRecursion (λ r. AreOf (inlined_numbers ss cs (summary r)) (inlined_routine rs cs r)) qs
      → cost (map (inlined_routine rs cs) qs) ≡ sum_by (λ s. (inlined_numbers ss cs s).size ^ 2) (map summary qs)
  costs_are [] h = refl
  costs_are (q ∷ qs) h =
      let f = λ (r : RoutineParts). size r ^ 2 in
      let g = λ (s : Summary). (inlined_numbers ss cs s).size ^ 2 in
      let one = sum_by-cons f (inlined_routine rs cs q) (map (inlined_routine rs cs) qs) in
      let two = sum_by-cons g (summary q) (map summary qs) in
      let same : f (inlined_routine rs cs q) ≡ g (summary q) = ap (λ (n : ℕ). n ^ 2) (sym h.0.size) in
      let rest = costs_are qs h.1 in
      omega arith

  pub inlined_cost : cost (inlined_routines rs cs) ≡ cost_after ss cs
  inlined_cost =
      costs_are rs
      (each_found (λ (r : RoutineParts). r.pid) (λ r. AreOf (inlined_numbers ss cs (summary r)) (inlined_routine rs cs r)) rs valid.routines numbers_are)
