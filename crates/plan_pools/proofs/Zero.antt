-- The plan of budget 0 is one pass after another, and what it makes is as good as what it began with.
use Rattle.std.proofs.Common.{◌≡◌, ℕ, zero, suc, List, [], ◌∷◌, ◌++◌, map, refl, sym, ap, subst, arith, le_trans, ◌∙◌}
use Rattle.std.specs.Prelude.{flat_map}
use Rattle.il_core.specs.Size.{cost}
use Rattle.il_core.specs.Valid.{IsProgram}
use Rattle.il_core.specs.declared.program.IlProgram.{IlProgram}
use Rattle.il_core.specs.declared.shape.ShapeRow.{ShapeRow}
use Rattle.il_laws.specs.Reach.{is_live, pruned}
use Rattle.il_laws.specs.Simplify.{simplify}
use Rattle.il_laws.proofs.Charges.{simplify_no_larger}
use Rattle.il_laws.proofs.KeptPrograms.{pruned_follows}
use Rattle.il_laws.proofs.Serving.{run_kept}
use Rattle.il_laws.proofs.Simplified.{change_all, simplify_serves}
use Rattle.plan_laws.specs.Plan.{Pass, State, at_first, final, last_program, limit_of, passes_from, plan, states_of}
use Rattle.plan_laws.proofs.Spending.{filter_cost, map_cost}
use Rattle.plan_pools.specs.BudgetLaws.{IsAsGood, PlansAtZero, simplifying_pass}
use Rattle.plan_pools.specs.Budgetless.{pass_programs, passed, simplified}
use Rattle.plan_pools.proofs.ZeroPass.{pass_at_zero, table_at_zero}

-- what so many passes leave, and the programs that they make on the way
abbrev left_by : ℕ → IlProgram → IlProgram
left_by zero p = p
left_by (suc n) p = left_by n (passed p)

abbrev made_by : ℕ → IlProgram → List IlProgram
made_by zero p = []
made_by (suc n) p = pass_programs p ++ made_by n (passed p)

passes_are : (names : List ShapeRow) (limit : ℕ → ℕ) (k n : ℕ) (st : State) → st.table ≡ []
    → map (λ s. s.program) (flat_map states_of (passes_from names 0 limit k n st)) ≡ made_by n st.program
passes_are names limit k zero st none = refl
passes_are names limit k (suc n) st none =
    ap (λ (x : Pass). map (λ s. s.program) (flat_map states_of (x ∷ passes_from names 0 limit (suc k) n x.pruned))) (pass_at_zero names (limit k) st none)
    ∙ ap (λ l. pass_programs st.program ++ l) (passes_are names limit (suc k) n (simplifying_pass st).pruned (table_at_zero st none))

plan_is : (p : IlProgram) (n : ℕ) → plan p 0 n ≡ p ∷ made_by n p
plan_is p n = ap (λ l. p ∷ l) (passes_are p.shapes (limit_of (cost p.routines) 0 n) 1 n (at_first p) refl)

made_more : (n : ℕ) (p : IlProgram) → made_by (suc n) p ≡ made_by n p ++ pass_programs (left_by n p)
made_more zero p = refl
made_more (suc n) p = ap (λ l. pass_programs p ++ l) (made_more n (passed p))

left_more : (n : ℕ) (p : IlProgram) → left_by (suc n) p ≡ passed (left_by n p)
left_more zero p = refl
left_more (suc n) p = left_more n (passed p)

last_is : (n : ℕ) (d p : IlProgram) → last_program d (p ∷ made_by n p) ≡ left_by n p
last_is zero d p = refl
last_is (suc n) d p = last_is n d (passed p)

final_is : (p : IlProgram) (n : ℕ) → final p 0 n ≡ left_by n p
final_is p n = ap (last_program p) (plan_is p n) ∙ last_is n p p

pub plans_at_zero : (p : IlProgram) → PlansAtZero p
plans_at_zero p = record {
  none = plan_is p 0;
  more = λ n.
      plan_is p (suc n) ∙ ap (λ l. p ∷ l) (made_more n p) ∙ ap (λ q. (p ∷ made_by n p) ++ pass_programs q) (sym (final_is p n))
      ∙ ap (λ l. l ++ pass_programs (final p 0 n)) (sym (plan_is p n));
  first = final_is p 0;
  last = λ n. final_is p (suc n) ∙ left_more n p ∙ ap passed (sym (final_is p n));
}

good_itself : (p : IlProgram) → IsProgram p → IsAsGood p p
good_itself p valid = record { valid = valid; main = refl; run = λ input turns. refl; cost_is = omega arith }

good_on : (p q r : IlProgram) → IsAsGood p q → IsAsGood q r → IsAsGood p r
good_on p q r a b = record {
  valid = b.valid;
  main = b.main ∙ a.main;
  run = λ input turns. b.run input turns ∙ a.run input turns;
  cost_is = le_trans b.cost_is a.cost_is;
}

pub simplified_valid : (p : IlProgram) → IsProgram p → IsProgram (simplified p)
simplified_valid p valid = (change_all simplify simplify_serves p valid).valid

good_simplified : (p : IlProgram) → IsProgram p → IsAsGood p (simplified p)
good_simplified p valid =
    let follows = change_all simplify simplify_serves p valid in
    record {
      valid = follows.valid;
      main = refl;
      run = run_kept p (simplified p) valid follows refl refl;
      cost_is = map_cost simplify (λ r. (simplify_no_larger r).size) p.routines;
    }

good_pruned : (p : IlProgram) → IsProgram p → IsAsGood p (pruned p)
good_pruned p valid =
    let gone = pruned_follows p valid in
    record { valid = gone.follows.valid; main = gone.main; run = gone.run; cost_is = filter_cost (λ r. is_live p r.pid) p.routines }

good_passed : (p : IlProgram) → IsProgram p → IsAsGood p (passed p)
good_passed p valid =
    let once = good_simplified p valid in
    let twice = good_simplified (simplified p) once.valid in
    good_on p (simplified (simplified p)) (passed p) (good_on p (simplified p) (simplified (simplified p)) once twice)
    (good_pruned (simplified (simplified p)) twice.valid)

good_left : (n : ℕ) (p : IlProgram) → IsProgram p → IsAsGood p (left_by n p)
good_left zero p valid = good_itself p valid
good_left (suc n) p valid = let next = good_passed p valid in good_on p (passed p) (left_by n (passed p)) next (good_left n (passed p) next.valid)

pub final_as_good : (p : IlProgram) → IsProgram p → (n : ℕ) → IsAsGood p (final p 0 n)
final_as_good p valid n = subst (IsAsGood p) (sym (final_is p n)) (good_left n p valid)
