use Rattle.std.proofs.Common.{◌≡◌, drop}
use Rattle.std.specs.Prelude.{option_map}
use Rattle.profile.specs.Texts.{set_by_all}
use Rattle.hlo_cmd.specs.Training.{counted_lines}
use Rattle.hlo_cmd.proofs.training.set_routines.Given as goal

abbrev pub invariant-loop-i : goal.invariant-loop-i
invariant-loop-i l = option_map (set_by_all (counted_lines l.shapes (drop l.i l.routines) (drop l.i l.counts.entries) (drop l.i l.counts.sites))) l.profile
    ≡ option_map (set_by_all (counted_lines l.shapes l.routines l.counts.entries l.counts.sites)) l.fn.profile
