use Rattle.std.proofs.Common.{◌≡◌, drop, map}
use Rattle.c_typed.specs.Views.{section_of, sections_from}
use Rattle.c_lower.specs.Statements.{default_label}
use Rattle.c_lower.proofs.switches.default_label.Given as goal

abbrev pub invariant-loop-section : goal.invariant-loop-section
invariant-loop-section l =
    default_label (sections_from (map section_of (drop l.section-index l.ss))) l.label l.behind ≡ default_label
    (sections_from (map section_of l.ss)) l.at l.behind
