use Rattle.c_lower.proofs.LabelSteps.{open_step, past_step, arrived_step}
use Rattle.c_lower.proofs.writer.Writer.arrive_at_labels.Goals as goal

pub loop-l-preserved : goal.loop-l-preserved
loop-l-preserved c =
    let ls = c.args.labels.now in
    let i = c.loop-l.l-index in
    let old = c.loop-l.self in
    let new = c.arrive.new.self in
    let h = c.loop-l-test.true in
    let e = c.in_ok-arrive.ensures in
    record {
      opened = open_step ls i c.loop-l.goes_on _ h c.loop-l.invariant.opened;
      numbers = past_step ls i c.loop-l.goes_on old.numbers new.numbers _ h e.numbers c.loop-l.invariant.numbers;
      draft = arrived_step ls i c.loop-l.label c.in_ok-label.label c.loop-l.goes_on old.numbers new.numbers old.draft new.draft _ h
          c.in_ok-label.ensures e.numbers e.draft c.loop-l.invariant.draft;
    }
