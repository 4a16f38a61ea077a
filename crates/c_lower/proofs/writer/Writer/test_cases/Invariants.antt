use Rattle.std.proofs.Common.{◌≡◌, drop, map}
use Rattle.c_typed.specs.Views.{section_of, sections_from}
use Rattle.lower_laws.specs.Switches.{tests_past}
use Rattle.c_lower.specs.Statements.{cases_tested}
use Rattle.c_lower.proofs.writer.Writer.test_cases.Given as goal

abbrev pub invariant-loop-section : goal.invariant-loop-section
invariant-loop-section l =
    let left = sections_from (map section_of (drop l.section-index l.ss)) in
    let all = sections_from (map section_of l.ss) in
    record {
      numbers : tests_past left l.self.numbers ≡ tests_past all l.fn.self.numbers;
      draft : cases_tested l.x left l.label l.self.numbers l.self.draft ≡ cases_tested l.x all l.at l.fn.self.numbers l.fn.self.draft;
    }
