use Rattle.std.proofs.Common.{sym, ◌∙◌}
use Rattle.il_core.specs.Text.{arrays_parts}
use Rattle.il_text.proofs.LineForms.{routine_told, words_of_sum}
use Rattle.il_text.proofs.header.routine.Goals as goal

pub returns-in_default-2-clause-each : goal.returns-in_default-2-clause-each
returns-in_default-2-clause-each c = λ x h e.
    let head = c.in-Some.ensures.each x (arrays_parts x.routine.arrays) h e in
    absurd (c.in_default-2.not-Some x.routine.arrays (c.in_ok-arrays.ensures.each x.routine.arrays (words_of_sum x.routine.arrays h.limits.elements)
    h.limits.arrays h.limits.elements head.rest))

pub returns-clause-each : goal.returns-clause-each
returns-clause-each c = λ x h e.
    let head = c.in-Some.ensures.each x (arrays_parts x.routine.arrays) h e in
    let told = sym c.in-Some-2.is ∙ c.in_ok-arrays.ensures.each x.routine.arrays (words_of_sum x.routine.arrays h.limits.elements) h.limits.arrays
    h.limits.elements head.rest in
    routine_told c.in_ok-name.name c.in-Some.head.pid c.in-Some.head.params c.in-Some.head.value c.in-Some.head.regs c.in-Some.head.entry c.in-Some-2.arrays
    c.new-2.result x
    (c.in_ok-name.ensures ∙ head.name) head.pid head.params head.value head.regs head.entry (cc told) (c.new-2.ensures ∙ sym h.blocks)
