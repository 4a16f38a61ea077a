use Rattle.std.proofs.Common.{◌≡◌, drop}
use Rattle.std.specs.Prelude.{option_map}
use Rattle.profile.specs.Texts.{set_by_all}
use Rattle.hlo_cmd.specs.Training.{site_lines_from}
use Rattle.hlo_cmd.proofs.training.set_sites.Given as goal

abbrev pub invariant-loop-k : goal.invariant-loop-k
invariant-loop-k l = option_map (set_by_all (site_lines_from l.name l.k (drop l.k l.sites))) l.profile ≡ option_map
    (set_by_all (site_lines_from l.name 0 l.sites)) l.fn.profile
