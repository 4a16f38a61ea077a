use Rattle.std.proofs.Common.{◌≡◌, drop, map}
use Rattle.c_typed.specs.Views.{section_of, sections_from}
use Rattle.c_lower.specs.Statements.{cases_marked}
use Rattle.c_lower.proofs.writer.Writer.mark_cases.Given as goal

abbrev pub invariant-loop-section : goal.invariant-loop-section
invariant-loop-section l = record {
  numbers : l.self.numbers ≡ l.fn.self.numbers;
  draft : cases_marked (sections_from (map section_of (drop l.section-index l.ss))) l.self.draft ≡ cases_marked
      (sections_from (map section_of l.ss)) l.fn.self.draft;
}
