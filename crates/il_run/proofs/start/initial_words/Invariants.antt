use Rattle.std.proofs.Common.{◌≡◌, ◌≤◌, length}
use Rattle.std.specs.Prelude.{sum}
use Rattle.il_run.specs.Start.{HasWords}
use Rattle.il_run.proofs.start.initial_words.Given as goal

abbrev pub invariant-back : goal.invariant-back
invariant-back l = record {
  within : l.i ≤ length l.objects;
  count : length l.words.items ≡ sum l.layout.sizes.items;
  each : HasWords l.objects l.layout.sizes.items l.i l.words.items;
}

abbrev pub decreases-back : goal.decreases-back
decreases-back l = l.i
