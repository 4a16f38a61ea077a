-- The list of calls decides nothing: a run with it is the run without it.
use Rattle.std.proofs.Common.{◌≡◌, ℕ, suc, List, [], refl, ap, sym, ◌∙◌, arith}
use Rattle.il_core.specs.declared.program.IlProgram.{IlProgram}
use Rattle.il_core.specs.Program.{routine_at, main_pid}
use Rattle.il_core.specs.World.{World, Outcome, Returns, Ends, Stuck}
use Rattle.il_core.specs.Meaning.{MadeCall, add_call, no_log, exec, act_noting, at_start, run_of, il_run}
use Rattle.il_core.proofs.Bound.{outcome_by, begin_alike, exec_alike}

abbrev forget : List MadeCall → Unit {0}
forget calls = tt

run_forgets : (o : Outcome (List MadeCall)) → run_of (outcome_by forget o) ≡ run_of o
run_forgets (Returns v w) = refl
run_forgets (Ends e output log) = refl
run_forgets Stuck = refl

pub run_noted : (p : IlProgram) (bytes : List ℕ) (turns : ℕ)
    → run_of (act_noting add_call p (main_pid p.shapes) [] (at_start [] p bytes turns)) ≡ il_run p bytes turns
run_noted p bytes turns =
    let w : World (List MadeCall) = at_start [] p bytes turns in
    let like = begin_alike forget turns [] (exec add_call p (suc turns)) (exec no_log p (suc turns)) w
    (λ r u f. exec_alike forget add_call no_log (λ a b c l. refl) p (suc turns) (suc turns) r u f w (omega arith) (omega arith))
    (routine_at p.routines (main_pid p.shapes)) [] in
    sym (run_forgets _) ∙ sym (ap run_of like.0)
