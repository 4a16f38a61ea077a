use Rattle.std.proofs.Common.{◌≡◌, drop}
use Rattle.c_lower.specs.Statements.{labels_marked}
use Rattle.c_lower.proofs.writer.Writer.mark_labels.Given as goal

abbrev pub invariant-loop-l : goal.invariant-loop-l
invariant-loop-l l = record {
  numbers : l.self.numbers ≡ l.fn.self.numbers;
  draft : labels_marked (drop l.l-index l.labels) l.self.draft ≡ labels_marked l.labels l.fn.self.draft;
}
