use Rattle.std.proofs.Common.{ap, ◌∙◌}
use Rattle.std.proofs.lemmas.List.{take_all}
use Rattle.naim_core.specs.State.{has_repeat}
use Rattle.naim_core.proofs.Repeat.{repeat_permuted}
use Rattle.naim_core.proofs.scratch.Scratch.has_repeat.Goals as goal

pub returns : goal.returns
returns c =
    let all = c.loop-task.invariant.0 ∙ take_all c.loop-task.task-index c.args.tasks.now c.loop-task-test.false in
    c.has_equal_neighbours.ensures ∙ ap has_repeat c.as_slice.ensures.value ∙ repeat_permuted c.loop-task.self.numbers.items c.sort_unstable.new.self.items
    c.sort_unstable.ensures.permutation ∙ ap has_repeat all
