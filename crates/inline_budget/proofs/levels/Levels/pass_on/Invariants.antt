use Rattle.std.proofs.Common.{◌≡◌, drop, length}
use Rattle.inline_budget.specs.Levelling.{lowered_all, noted_all, risen_all}
use Rattle.inline_budget.proofs.levels.Levels.pass_on.Given as goal

abbrev pub invariant-loop-caller : goal.invariant-loop-caller
invariant-loop-caller l = record {
  levels : risen_all l.self.levels.items l.level (drop l.caller-index l.callers) ≡ risen_all l.fn.self.levels.items l.level l.callers;
  left : lowered_all l.self.left.items (drop l.caller-index l.callers) ≡ lowered_all l.fn.self.left.items l.callers;
  known : noted_all l.self.left.items l.self.known.items (drop l.caller-index l.callers) ≡ noted_all l.fn.self.left.items l.fn.self.known.items l.callers;
  size : length l.self.left.items ≡ length l.fn.self.left.items;
  same : length l.self.levels.items ≡ length l.self.left.items;
}
