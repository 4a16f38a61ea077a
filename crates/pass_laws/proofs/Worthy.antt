-- What the plan's last program is worth.
use Rattle.std.proofs.Common.{◌≡◌, ◌≤◌, ◌+◌, ℕ, Bool, true, false, List, [], ◌∷◌, refl, sym, arith}
use Rattle.std.specs.Prelude.{if◌then◌else◌, nat_eq}
use Rattle.std.specs.List.{AllByRecursion, list_any}
use Rattle.std.proofs.Math.Nat.{mul-le-mul_left}
use Rattle.std.proofs.lemmas.Bool.{eqb-false}
use Rattle.il_core.specs.Size.{cost}
use Rattle.il_core.specs.Valid.{IsProgram}
use Rattle.il_core.specs.declared.program.IlProgram.{IlProgram}
use Rattle.il_core.specs.declared.shape.ShapeRow.{ShapeRow}
use Rattle.list_laws.proofs.Tests.{or_first, or_second}
use Rattle.plan_laws.specs.Plan.{at_first, final, limit_of}
use Rattle.plan_laws.specs.PlanLaws.{HasNoDollar, IsFirst}
use Rattle.plan_laws.proofs.Passing.{final_runs, first_sound}
use Rattle.plan_laws.proofs.Spending.{budget_kept}
use Rattle.plan_pools.proofs.Zero.{final_as_good}
use Rattle.pass_laws.specs.Worth.{has_dollar, spendable, IsWorth}
use Rattle.pass_laws.proofs.Mains.{last_ends}

no_dollar : (cs : List ℕ) → list_any (nat_eq 36) cs ≡ false → AllByRecursion (λ c. c ≡ 36 → ⊥) cs
no_dollar [] e = tt
no_dollar (c ∷ cs) e =
    let here = or_first (nat_eq 36 c) (list_any (nat_eq 36) cs) e in
    let later = or_second (nat_eq 36 c) (list_any (nat_eq 36) cs) e in
    (λ same. eqb-false 36 c here (sym same), no_dollar cs later)

-- where the test finds no name with a `$`, no name has one
pub none_dollar : (rows : List ShapeRow) → list_any has_dollar rows ≡ false → AllByRecursion HasNoDollar rows
none_dollar [] e = tt
none_dollar (row ∷ rows) e =
    let here = or_first (has_dollar row) (list_any has_dollar rows) e in
    let later = or_second (has_dollar row) (list_any has_dollar rows) e in
    (no_dollar row.name here, none_dollar rows later)

-- so a valid program is a first one
pub is_first : (p : IlProgram) → IsProgram p → list_any has_dollar p.shapes ≡ false → IsFirst p
is_first p valid e = record { valid = valid; names = none_dollar p.shapes e }

at_least : (b : ℕ) → 100 ≤ 100 + b
at_least b = omega arith

-- by the test of the names
worth_by : (p : IlProgram) → IsProgram p → (budget passes : ℕ) (b : Bool) → list_any has_dollar p.shapes ≡ b
    → IsWorth budget p (final p (if b then 0 else budget) passes)
worth_by p valid budget passes true e =
    let good = final_as_good p valid passes in
    let less = good.cost_is in
    let more = mul-le-mul_left (cost p.routines) (at_least budget) in
    record { valid = good.valid; main = good.main; run = good.run; cost_is = omega arith }
worth_by p valid budget passes false e =
    let first = is_first p valid e in
    let ends = last_ends p.shapes valid.names budget (limit_of (cost p.routines) budget passes) passes 1 (at_first p) (first_sound p first) in
    record { valid = ends.valid; main = ends.main_is; run = final_runs p first budget passes; cost_is = budget_kept p first budget passes }

pub plan_is_worth : (p : IlProgram) → IsProgram p → (budget passes : ℕ) → IsWorth budget p (final p (spendable p.shapes budget) passes)
plan_is_worth p valid budget passes = worth_by p valid budget passes (list_any has_dollar p.shapes) refl
