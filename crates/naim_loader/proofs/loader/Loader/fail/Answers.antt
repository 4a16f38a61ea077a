use Rattle.std.proofs.Common.{sym, subst}
use Rattle.naim_loader.specs.Calls.{ComesBack, Fails, brought, disk_of, disk_with}
use Rattle.naim_loader.proofs.Homes.{comes_still, failed_back, failed_kept}
use Rattle.naim_loader.proofs.loader.Loader.fail.Goals as goal

pub take_back-requires-clause-kept : goal.take_back-requires-clause-kept
take_back-requires-clause-kept g c = failed_kept c.args.self.now c.note_failure.new.self c.args.worker c.args.failure c.note_failure.ensures.failed

pub take_back-requires-clause-disk : goal.take_back-requires-clause-disk
take_back-requires-clause-disk g c = comes_still g.D.Disk.reach g.D.Disk.honest c.args.self.now c.note_failure.new.self c.args.worker c.args.failure
    (disk_of c.in-Some.m) c.note_failure.ensures.failed
    (subst (λ z. ComesBack g.D.Disk.reach g.D.Disk.honest c.args.self.now (disk_with z)) c.in-Some.is c.requires.disk)

pub returns-clause-failed : goal.returns-clause-failed
returns-clause-failed g c =
    subst (λ z. Fails (brought c.args.self.now (disk_with z)) c.args.worker c.args.failure c.take_back.new.self) (sym c.in-Some.is)
    (failed_back c.args.self.now c.note_failure.new.self c.take_back.new.self c.args.worker c.args.failure (disk_of c.in-Some.m) c.note_failure.ensures.failed
    c.take_back.ensures.back)
