use Rattle.std.proofs.Common.{◌≡◌, ℕ, ◌<◌, ◌≤◌, get_or, length}
use Rattle.std.specs.Prelude.{None}
use Rattle.il_laws.specs.Facts.{both_know}
use Rattle.const_prop.proofs.flow.meet.Given as goal

abbrev pub invariant-loop-i : goal.invariant-loop-i
invariant-loop-i l = record {
  size : length l.kept ≡ length l.fn.kept;
  done : (k : ℕ) → k < l.i → get_or l.kept k None ≡ both_know (get_or l.table (get_or l.carried k 0) None) (get_or l.fn.kept k None);
  rest : (k : ℕ) → l.i ≤ k → get_or l.kept k None ≡ get_or l.fn.kept k None;
}
