-- From the modules to the lowered program, and from there through the plan.
use Rattle.std.proofs.Common.{ℕ, suc, Bool, true, false, if◌then◌else◌, List, [], ◌∷◌, ◌++◌, ◌∙◌}
use Rattle.std.specs.Prelude.{◌||◌, flat_map, is_some, map}
use Rattle.std.specs.List.{AllByRecursion}
use Rattle.std.specs.Map.{keys_of}
use Rattle.il_core.specs.declared.program.IlProgram.{IlProgram}
use Rattle.sym_tables.specs.Listing.{shape_of, is_object}
use Rattle.sym_tables.specs.Table.{Table}
use Rattle.c_typed.specs.declared.function.TypedModule.{TypedModule}
use Rattle.c_typed.specs.Meaning.{function_at}
use Rattle.c_typed.specs.Trees.{Function}
use Rattle.c_typed.specs.Views.{functions_of}
use Rattle.lower_laws.specs.Programs.{rows_from}
use Rattle.lower_laws.proofs.ProgramsMeet.{lowered_means_the_same}
use Rattle.lower_laws.proofs.ProgramsValid.{lowered_is_program}
use Rattle.plan_laws.specs.Plan.{State, states_of, passes as plan_passes, plan, final, last_program}
use Rattle.plan_laws.specs.PlanLaws.{HasNoDollar, IsFirst, Succeeds, AllSucceed}
use Rattle.plan_laws.proofs.Passing.{plan_follows}
use Rattle.plan_laws.proofs.Spending.{budget_kept}
use Rattle.optimise_laws.specs.Laws.{IsNameOfC, AreReady, first_program, RunsAs, OptimisedMeansTheSame, OptimisedStaysInBudget}

no_dollar : (fs : List Function) (n : ℕ) (es : Table) → AllByRecursion IsNameOfC (keys_of es) → AllByRecursion HasNoDollar (rows_from fs n es)
no_dollar fs n [] h = tt
no_dollar fs n (e ∷ es) h = here (is_some (function_at fs n) || is_object e.1) (no_dollar fs (suc n) es h.1)
  where
    here : (b : Bool) → AllByRecursion HasNoDollar (rows_from fs (suc n) es)
        → AllByRecursion HasNoDollar ((if b then record { pid = n; name = e.0; shape = shape_of e.1.entity } ∷ [] else []) ++ rows_from fs (suc n) es)
    here true rest = (h.0, rest)
    here false rest = rest

module _ (modules : List TypedModule) (syms : Table) (ready : AreReady modules syms) (entry : ℕ → ℕ) (count : ℕ → ℕ → ℕ) where
  abbrev first : IlProgram
  first = first_program entry count modules syms

  is_first : IsFirst first
  is_first = record {
    valid = lowered_is_program (functions_of modules) syms ready.linked ready.fitting entry count;
    names = no_dollar (functions_of modules) 0 syms ready.names;
  }

  first_runs : RunsAs modules syms first
  first_runs = record {
    valid = is_first.valid;
    run = λ input turns. lowered_means_the_same modules syms ready.linked entry count input turns;
  }

  next_runs : (p q : IlProgram) → RunsAs modules syms p → Succeeds p q → RunsAs modules syms q
  next_runs p q h next = record { valid = next.follows.valid; run = λ input turns. next.run input turns ∙ h.run input turns }

  all_run : (p : IlProgram) (qs : List IlProgram) → RunsAs modules syms p → AllSucceed p qs → AllByRecursion (RunsAs modules syms) qs
  all_run p [] h next = tt
  all_run p (q ∷ qs) h next = let r = next_runs p q h next.0 in (r, all_run q qs r next.1)

  last_runs : (p : IlProgram) (qs : List IlProgram) → RunsAs modules syms p → AllSucceed p qs → RunsAs modules syms (last_program p qs)
  last_runs p [] h next = h
  last_runs p (q ∷ qs) h next = last_runs q qs (next_runs p q h next.0) next.1

  planned : (budget passes : ℕ) → AllByRecursion (RunsAs modules syms) (plan first budget passes) × RunsAs modules syms (final first budget passes)
  planned budget passes =
      let qs = map (λ (z : State). z.program) (flat_map states_of (plan_passes first budget passes)) in
      let next = plan_follows first is_first budget passes in
      ((first_runs, all_run first qs first_runs next), last_runs first qs first_runs next)

pub optimised_means_the_same : OptimisedMeansTheSame
optimised_means_the_same modules syms ready entry count budget passes = planned modules syms ready entry count budget passes

pub optimised_stays_in_budget : OptimisedStaysInBudget
optimised_stays_in_budget modules syms ready entry count budget passes =
    budget_kept (first_program entry count modules syms) (is_first modules syms ready entry count) budget passes
