use Rattle.std.proofs.Common.{◌≡◌, drop, length}
use Rattle.inline_budget.specs.Levelling.{levelled}
use Rattle.inline_budget.proofs.wave.put_levels.Given as goal

abbrev pub invariant-loop-pid : goal.invariant-loop-pid
invariant-loop-pid l = record {
  whole : levelled l.waves l.pid (drop l.pid l.levels) ≡ levelled l.fn.waves 0 l.levels;
  size : length l.waves ≡ length l.fn.waves;
}
