-- The first program of a plan: its cost, its names, and its first state.
use Rattle.std.proofs.Common.{◌≡◌, ◌<◌, ◌≤◌, ◌+◌, ◌*◌, ◌^◌, ℕ, suc, Bool, true, false, List, [], ◌∷◌, nat_eq, length, refl, sym, ap, arith, ◌∙◌}
use Rattle.std.specs.Prelude.{◌||◌, if◌then◌else◌, max, nat_lt}
use Rattle.std.specs.List.{AllByRecursion, list_any}
use Rattle.std.proofs.Common.{eq-eqb, ltb-false, ltb-true}
use Rattle.std.proofs.Math.Nat.{one-mul, pow-suc, pow-zero}
use Rattle.std.proofs.lemmas.List.Sums.{sum_by-cons}
use Rattle.std.proofs.lemmas.Nat.{mul-le}
use Rattle.il_core.specs.Limits.{IsWithinLimits}
use Rattle.il_core.specs.Routine.{RoutineParts}
use Rattle.il_core.specs.Size.{cost, size}
use Rattle.il_core.specs.Valid.{IsProgram}
use Rattle.il_core.specs.declared.program.IlProgram.{IlProgram}
use Rattle.il_core.specs.declared.shape.ShapeRow.{ShapeRow}
use Rattle.pass_laws.specs.Worth.{has_dollar, spendable}
use Rattle.plan_laws.specs.PlanLaws.{HasNoDollar}
use Rattle.plan_driver.specs.Optimising.{first_free}

-- ---- the cost

square_le : (s : ℕ) → s ≤ 2 ^ 16 → s ^ 2 ≤ 2 ^ 32
square_le s le =
    let both = mul-le s s (2 ^ 16) (2 ^ 16) le le in
    let one = pow-suc s 1 in let two = pow-suc s 0 in let none = pow-zero s in
    let same : s ^ 2 ≡ s * s = one ∙ ap (λ n. n * s) (two ∙ ap (λ n. n * s) none ∙ one-mul s) in omega (arith, both, same)

cost_le : (rs : List RoutineParts) → AllByRecursion IsWithinLimits rs → cost rs ≤ length rs * 2 ^ 32
cost_le [] h = omega arith
cost_le (r ∷ rs) h =
    let here = square_le (size r) h.0.size in let more = cost_le rs h.1 in
    let sum : cost (r ∷ rs) ≡ size r ^ 2 + cost rs = sum_by-cons (λ (q : RoutineParts). size q ^ 2) r rs in
    omega (arith, here, more, sum)

-- no program within the limits costs more
pub cost_small : (p : IlProgram) → IsProgram p → AllByRecursion IsWithinLimits p.routines → cost p.routines ≤ 2 ^ 44
cost_small p valid within = let le = cost_le p.routines within in let few = valid.few in omega (arith, le, few)

-- ---- the names

and_not : (b c : Bool) → (b || c) ≡ false → (b ≡ false) × (c ≡ false)
and_not true c e = cc
and_not false c e = (refl, e)

no_dollar : (bytes : List ℕ) → list_any (nat_eq 36) bytes ≡ false → AllByRecursion (λ c. c ≡ 36 → ⊥) bytes
no_dollar [] e = tt
no_dollar (c ∷ cs) e =
    let both = and_not (nat_eq 36 c) (list_any (nat_eq 36) cs) e in
    (λ is. (let bad : false ≡ true = sym both.0 ∙ eq-eqb 36 c (sym is) in absurd cc), no_dollar cs both.1)

pub no_dollars : (rows : List ShapeRow) → list_any has_dollar rows ≡ false → AllByRecursion HasNoDollar rows
no_dollars [] e = tt
no_dollars (row ∷ rows) e = let both = and_not (has_dollar row) (list_any has_dollar rows) e in (no_dollar row.name both.0, no_dollars rows both.1)

-- the whole budget is spent, and there is some
pub record Spends (rows : List ShapeRow) (budget : ℕ) : Type 0 where
  pub names : AllByRecursion HasNoDollar rows
  pub some : 0 < budget
  pub same : spendable rows budget ≡ budget

pub spends_all : (rows : List ShapeRow) (budget : ℕ) → nat_lt 0 (spendable rows budget) ≡ true → Spends rows budget
spends_all rows budget h = by (list_any has_dollar rows) refl h
  where
    by : (b : Bool) → list_any has_dollar rows ≡ b → nat_lt 0 (if b then 0 else budget) ≡ true → Spends rows budget
    by true e t = cc
    by false e t = record {
      names = no_dollars rows e;
      some = ltb-true 0 budget t;
      same = ap (λ (b : Bool). if b then 0 else budget) e;
    }

pub spends_none : (rows : List ShapeRow) (budget : ℕ) → nat_lt 0 (spendable rows budget) ≡ false → spendable rows budget ≡ 0
spends_none rows budget h = let le = ltb-false 0 (spendable rows budget) h in omega (arith, le)

-- ---- the first PID that is free

above_more : (n m : ℕ) (rows : List ShapeRow) → n ≤ m → AllByRecursion (λ (row : ShapeRow). row.pid < n) rows
    → AllByRecursion (λ (row : ShapeRow). row.pid < m) rows
above_more n m [] le h = tt
above_more n m (row ∷ rows) le h = let here = h.0 in (omega (arith, le, here), above_more n m rows le h.1)

pub below_free : (rows : List ShapeRow) → AllByRecursion (λ (row : ShapeRow). row.pid < first_free rows) rows
below_free [] = tt
below_free (row ∷ rows) = (
  omega arith,
  above_more (first_free rows) (max (suc row.pid) (first_free rows)) rows (omega arith) (below_free rows),
)
