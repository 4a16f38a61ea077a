use Rattle.std.proofs.Common.{◌≡◌, drop, map, false}
use Rattle.c_typed.specs.Views.{section_of, sections_from, sequence_from, stmt_of}
use Rattle.lower_laws.specs.Statements as laws
use Rattle.c_lower.specs.Settings.{fixed_of}
use Rattle.c_lower.specs.Statements as specs
use Rattle.c_lower.proofs.writer.Writer.+statements.Given as goal

abbrev pub invariant-sequence-loop-s : goal.invariant-sequence-loop-s
invariant-sequence-loop-s l =
    let left = sequence_from (map stmt_of (drop l.s-index l.ss)) in
    let all = sequence_from (map stmt_of l.ss) in
    let y = fixed_of l.c in
    let p = l.exits.breaks in
    let q = l.exits.continues in
    record {
      opened : laws.open_behind left l.goes_on ≡ laws.open_behind all l.opened;
      numbers : laws.stmt_past y.outline left l.goes_on l.self.numbers ≡ laws.stmt_past y.outline all l.opened l.fn.self.numbers;
      draft : specs.stated y p q left l.goes_on l.self.numbers l.self.draft ≡ specs.stated y p q all l.opened l.fn.self.numbers l.fn.self.draft;
    }

abbrev pub invariant-sections-loop-section : goal.invariant-sections-loop-section
invariant-sections-loop-section l =
    let left = sections_from (map section_of (drop l.section-index l.ss)) in
    let all = sections_from (map section_of l.ss) in
    let y = fixed_of l.c in
    let p = l.exits.breaks in
    let q = l.exits.continues in
    record {
      opened : laws.sections_open left l.goes_on ≡ laws.sections_open all false;
      numbers : laws.sections_past y.outline left l.goes_on l.self.numbers ≡ laws.sections_past y.outline all false l.fn.self.numbers;
      draft : specs.sections y p q left l.label l.goes_on l.self.numbers l.self.draft ≡ specs.sections y p q all l.at false l.fn.self.numbers l.fn.self.draft;
    }
