use Rattle.std.proofs.Common.{◌≡◌, drop}
use Rattle.lower_laws.specs.Switches.{label_tests_past}
use Rattle.c_lower.specs.Statements.{labels_tested}
use Rattle.c_lower.proofs.writer.Writer.test_labels.Given as goal

abbrev pub invariant-loop-l : goal.invariant-loop-l
invariant-loop-l l = record {
  numbers : label_tests_past (drop l.l-index l.labels) l.self.numbers ≡ label_tests_past l.labels l.fn.self.numbers;
  draft : labels_tested l.x (drop l.l-index l.labels) l.label l.self.numbers l.self.draft ≡ labels_tested l.x l.labels l.at l.fn.self.numbers l.fn.self.draft;
}
