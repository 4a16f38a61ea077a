use Rattle.std.proofs.Common.{◌≡◌, ◌≤◌, take, vec_capacity}
use Rattle.naim_core.proofs.scratch.Scratch.has_repeat.Given as goal

-- the tasks so far lie in the room
abbrev pub invariant-loop-task : goal.invariant-loop-task
invariant-loop-task l = (l.self.numbers.items ≡ take l.task-index l.tasks) × (4096 ≤ vec_capacity l.self.numbers)
