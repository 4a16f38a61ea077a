use Rattle.std.proofs.Common.{◌≡◌, ℕ, ◌+◌, ◌<◌, length, get_or}
use Rattle.std.specs.List.{AllByRecursion}
use Rattle.il_laws.specs.Edges.{edges, times}
use Rattle.cleanup.proofs.merge.count_targets.Given as goal

abbrev pub invariant-loop-t : goal.invariant-loop-t
invariant-loop-t l = record {
  inside : AllByRecursion (λ u. u < length l.fn.counts) l.t-iterator;
  whole : (u : ℕ) → get_or l.counts u 0 + times u l.t-iterator ≡ get_or l.fn.counts u 0 + edges l.fn.end u;
}
