use Rattle.std.proofs.Common.{◌≡◌, rules, replicate, false, Bool, List, ap, arith, length, map, ◌∙◌}
use Rattle.std.specs.Prelude.{◌||◌, is_some}
use Rattle.std.proofs.lemmas.List.{length-replicate, length-set}
use Rattle.call_graph.specs.Summaries.{summary_of}
use Rattle.plan_laws.specs.Summary.{summary_at}
use Rattle.inline_steps.specs.Linking.{mark_at}
use Rattle.inline_steps.proofs.Marks.{marks_first, marks_last, marks_on, told_below}
use Rattle.inline_steps.proofs.linking.marks.Goals as goal

pub loop-routine-init : goal.loop-routine-init
loop-routine-init c =
    let none : c.in_ok-marks.marks.items ≡ replicate c.args.bound false = search rules in
    record {
      whole = λ q.
          ap (λ (bs : List Bool). mark_at bs q || is_some (summary_at (map summary_of c.args.routines.now) q)) none
          ∙ marks_first c.args.bound (map summary_of c.args.routines.now) q;
      long = ap (λ (bs : List Bool). length bs) none ∙ length-replicate c.args.bound false;
    }

pub loop-routine-preserved : goal.loop-routine-preserved
loop-routine-preserved c =
    let x = c.routine-item.result in
    let below = told_below c.args.routines.now c.loop-routine.routine-index x c.loop-routine-test.true c.routine-item.is c.args.bound c.requires in
    let long = c.loop-routine.invariant.long in
    record {
      whole = λ q.
          marks_on c.args.routines.now c.loop-routine.routine-index x c.loop-routine-test.true c.routine-item.is c.loop-routine.marks.items q _
          (omega (arith, below, long)) (c.loop-routine.invariant.whole q);
      long = length-set c.loop-routine.marks.items x.pid _ ∙ long;
    }

pub returns : goal.returns
returns c = λ q.
    marks_last c.loop-routine.marks.items c.args.routines.now c.loop-routine.routine-index q _ (omega (arith, c.loop-routine-test.false))
    (c.loop-routine.invariant.whole q)
