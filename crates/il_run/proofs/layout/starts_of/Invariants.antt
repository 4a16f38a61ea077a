use Rattle.std.proofs.Common.{◌≡◌, ℕ, ◌+◌, ◌*◌, ◌^◌, ◌≤◌, length}
use Rattle.std.specs.Prelude.{slice_index}
use Rattle.il_run.specs.Words.{start_of}
use Rattle.il_run.proofs.layout.starts_of.Given as goal

abbrev pub invariant-loop-size : goal.invariant-loop-size
invariant-loop-size l = record {
  at : l.at ≡ start_of l.sizes l.size-index;
  bound : l.at ≤ l.size-index * 2 ^ 32;
  count : length l.starts.items ≡ l.size-index + 1;
  each : (a : ℕ) → a ≤ l.size-index → slice_index l.starts.items a ≡ start_of l.sizes a;
}
