-- Passes one after another are the plan.
use Rattle.std.proofs.Common.{◌≡◌, ◌<◌, ◌+◌, ◌-◌, ℕ, zero, suc, Bool, List, [], ◌∷◌, ◌++◌, refl, sym, subst, arith}
use Rattle.il_core.specs.declared.program.IlProgram.{IlProgram}
use Rattle.il_core.specs.declared.shape.ShapeRow.{ShapeRow}
use Rattle.compact_form.specs.declared.body.RoutineBody.{RoutineBody}
use Rattle.naim_core.specs.declared.event.Failure.{Failure}
use Rattle.naim_loader.specs.Paged.{Paged}
use Rattle.plan_laws.specs.Plan.{final, plan}
use Rattle.plan_pools.specs.Budgetless.{pass_programs, passed}
use Rattle.plan_pools.specs.Planning.{Holds, IsCost, IsMade, IsNeed, StopsMaking}
use Rattle.plan_pools.proofs.Plans.{made_as, made_on, need_left, stops_on, stops_so}
use Rattle.plan_pools.proofs.Zero.{plans_at_zero}

-- what some passes need, more of them need too
need_later : (p : IlProgram) (q x n m k : ℕ) → k ≡ m + n → IsNeed (plan p 0 n) q x → IsNeed (plan p 0 k) q x
need_later p q x n zero k e h = let same : n ≡ k = omega arith in subst (λ j. IsNeed (plan p 0 j) q x) same h
need_later p q x n (suc m) k e h =
    let next : suc (m + n) ≡ k = omega arith in
    subst (λ j. IsNeed (plan p 0 j) q x) next
    (subst (λ l. IsNeed l q x) (sym ((plans_at_zero p).more (m + n)))
    (need_left (plan p 0 (m + n)) (pass_programs (final p 0 (m + n))) q x (need_later p q x n m (m + n) refl h)))

need_within : (p : IlProgram) (q x n m : ℕ) → n < m → IsNeed (plan p 0 n ++ pass_programs (final p 0 n)) q x → IsNeed (plan p 0 m) q x
need_within p q x n m less h =
    let split : m ≡ m - suc n + suc n = omega arith in
    need_later p q x (suc n) (m - suc n) m split (subst (λ l. IsNeed l q x) (sym ((plans_at_zero p).more n)) h)

abbrev Pools : Type 0 → Type 0
Pools D = Paged RoutineBody (Unit {0}) D

module _ {D : Type 0} (reach : D → ℕ) (honest : D → Bool) (faults : D → ℕ) (rows : List ShapeRow) (main : ℕ) (a : Pools D) where
  -- the plan of k passes was made
  abbrev pub Makes : ℕ → Pools D → List ShapeRow → Type 0
  Makes k b left = IsMade reach honest faults (λ p. plan p 0 k) (λ p. final p 0 k) rows main a b left

  pub makes_none : (b : Pools D) (left : List ShapeRow) → IsMade reach honest faults (λ p. p ∷ []) (λ p. p) rows main a b left → Makes 0 b left
  makes_none b left x =
      made_as reach honest faults rows main (λ p. p ∷ []) (λ p. plan p 0 0) (λ p. p) (λ p. final p 0 0) (λ p. sym (plans_at_zero p).none)
      (λ p. sym (plans_at_zero p).first) a b left x

  -- one pass more
  module _ (k : ℕ) (b : Pools D) (mid : List ShapeRow) (x : Makes k b mid) where
    next : suc k ≡ k + 1
    next = omega arith

    pub makes_more : (c : Pools D) (left : List ShapeRow) → IsMade reach honest faults pass_programs passed mid main b c left → Makes (k + 1) c left
    makes_more c left y =
        subst (λ n. Makes n c left) next
        (made_as reach honest faults rows main (λ p. plan p 0 k ++ pass_programs (final p 0 k)) (λ p. plan p 0 (suc k)) (λ p. passed (final p 0 k))
        (λ p. final p 0 (suc k)) (λ p. sym ((plans_at_zero p).more k)) (λ p. sym ((plans_at_zero p).last k)) a c left
        (made_on reach honest faults rows main (λ p. plan p 0 k) (λ p. final p 0 k) a b mid x pass_programs passed c left y))

    pub stops_more : (passes : ℕ) → k < passes → (c : Pools D) (e : Failure) → StopsMaking reach honest faults pass_programs mid main b c e
        → StopsMaking reach honest faults (λ p. plan p 0 passes) rows main a c e
    stops_more passes less c e s =
        stops_so reach honest faults rows main (λ p. plan p 0 k ++ pass_programs (final p 0 k)) (λ p. plan p 0 passes)
        (λ p q n h. need_within p q n k passes less h) a c e
        (stops_on reach honest faults rows main (λ p. plan p 0 k) (λ p. final p 0 k) a b mid x pass_programs c e s)

    pub cost_more : (n : ℕ) → ((p : IlProgram) → Holds reach honest faults b mid main p → IsCost n (passed p))
        → (p : IlProgram) → Holds reach honest faults a rows main p → IsCost n (final p 0 (k + 1))
    cost_more n cost p h =
        subst (λ m. IsCost n (final p 0 m)) next
        (subst (IsCost n) (sym ((plans_at_zero p).last k)) (cost (final p 0 k) (x.program p h).holds))
