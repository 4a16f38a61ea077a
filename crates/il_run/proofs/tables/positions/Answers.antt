use Rattle.std.proofs.Common.{ℕ, ◌∙◌, length, ap, arith, rules}
use Rattle.std.proofs.lemmas.List.{length-replicate}
use Rattle.il_core.specs.Limits.{max_pids}
use Rattle.il_core.specs.Routine.{RoutineParts}
use Rattle.il_run.proofs.Tabling.{positions_none, positions_step, positions_whole}
use Rattle.il_run.proofs.tables.positions.Goals as goal

pub back-init : goal.back-init
back-init c = record {
  within = omega arith;
  count = ap length c.in_ok-position.ensures ∙ length-replicate {A = ℕ} max_pids 0;
  each = positions_none _ _ _
      (omega arith);
}

pub back-preserved : goal.back-preserved
back-preserved c = record {
  within = omega (arith, c.back.invariant.within);
  count = search rules;
  each = positions_step c.args.routines.now c.index-routines-i.result c.back.position.items c.back.i c.routine.inside.pid c.back-test.true
      c.back.invariant.within c.index-routines-i.is (ap (λ (r : RoutineParts). r.pid) c.routine.view_is)
      (omega (arith, c.routine.invariant.pid, c.back.invariant.count)) c.back.invariant.each;
}

pub returns-clause-each : goal.returns-clause-each
returns-clause-each c = positions_whole _ _ _ c.back-test.false c.back.invariant.each
