use Rattle.std.proofs.Common.{◌≡◌, drop}
use Rattle.lower_laws.specs.Switches.{labels_open, labels_past}
use Rattle.c_lower.specs.Statements.{labels_arrived}
use Rattle.c_lower.proofs.writer.Writer.arrive_at_labels.Given as goal

abbrev pub invariant-loop-l : goal.invariant-loop-l
invariant-loop-l l = record {
  opened : labels_open (drop l.l-index l.labels) l.goes_on ≡ labels_open l.labels l.opened;
  numbers : labels_past (drop l.l-index l.labels) l.goes_on l.self.numbers ≡ labels_past l.labels l.opened l.fn.self.numbers;
  draft : labels_arrived
      (drop l.l-index l.labels) l.label l.goes_on l.self.numbers l.self.draft ≡ labels_arrived l.labels l.at l.opened l.fn.self.numbers l.fn.self.draft;
}
