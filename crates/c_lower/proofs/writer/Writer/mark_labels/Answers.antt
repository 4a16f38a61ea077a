use Rattle.std.proofs.Common.{◌∙◌}
use Rattle.c_lower.proofs.LabelSteps.{marked_step}
use Rattle.c_lower.proofs.writer.Writer.mark_labels.Goals as goal

pub loop-l-preserved : goal.loop-l-preserved
loop-l-preserved c = record {
  numbers = c.mark.ensures.numbers ∙ c.loop-l.invariant.numbers;
  draft = marked_step c.args.labels.now c.loop-l.l-index c.loop-l.self.draft c.mark.new.self.draft _ c.loop-l-test.true c.in_ok-mark.ensures.draft
      c.loop-l.invariant.draft;
}
