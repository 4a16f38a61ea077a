use Rattle.std.proofs.Common.{◌≡◌, ◌++◌, drop}
use Rattle.inline_budget.specs.Levelling.{zeros}
use Rattle.inline_budget.proofs.levels.Levels.note_known.Given as goal

abbrev pub invariant-loop-pid : goal.invariant-loop-pid
invariant-loop-pid l = record {
  known : l.self.known.items ++ zeros l.pid (drop l.pid l.self.left.items) ≡ zeros 0 l.self.left.items;
  left : l.self.left.items ≡ l.fn.self.left.items;
  levels : l.self.levels.items ≡ l.fn.self.levels.items;
}
