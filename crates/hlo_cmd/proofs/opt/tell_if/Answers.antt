use Rattle.hlo_cmd.proofs.opt.tell_if.Goals as goal

pub returns-then-stats : goal.returns-then-stats
returns-then-stats g c = rw c.if-stats.true c.tell_report.ensures
