use Rattle.std.proofs.Common.{subst, ◌∙◌}
use Rattle.std.specs.Prelude.{IfErr, IfOk}
use Rattle.naim_loader.specs.Paged.{IsGood}
use Rattle.profile.specs.Counts.{counts_of}
use Rattle.hlo_cmd.specs.Paging.{HasPrinted, IsOptCause}
use Rattle.hlo_cmd.proofs.Stopping.{err_since}
use Rattle.hlo_cmd.proofs.pools.print_files.Goals as goal

pub print_taken-requires-clause-limit : goal.print_taken-requires-clause-limit
print_taken-requires-clause-limit g c = c.take_files.ensures.kept.stays.limit ∙ c.requires.limit

pub returns-in-Ok-clause-ok : goal.returns-in-Ok-clause-ok
returns-in-Ok-clause-ok g c =
    let kept = c.take_files.ensures.kept.stays in
    let tells = g.S.Shelf.tells c.args.shelf.now in
    subst (λ d. IfOk c.print_taken.result (λ x. HasPrinted tells (λ limit. IsGood g.D.Disk.reach g.D.Disk.honest limit d)
    (g.O.Sink.taken c.args.out.now) (g.O.Sink.taken c.print_taken.new.out) c.args.settings.now (counts_of c.args.p.now) c.take_files.new.syms
    c.print_taken.new.paging.cost c.print_taken.new.paging.planned))
    kept.first (c.print_taken.ensures.ok (counts_of c.args.p.now) tells c.in-Ok.ensures.ok)

pub returns-in-Ok-clause-err : goal.returns-in-Ok-clause-err
returns-in-Ok-clause-err g c =
    let kept = c.take_files.ensures.kept.stays in
    let tells = g.S.Shelf.tells c.args.shelf.now in
    let shelf = g.S.Shelf.faults c.args.shelf.now in
    let shelf_now = g.S.Shelf.faults c.take_files.new.shelf in
    let cause = subst (λ d. IfErr c.print_taken.result (IsOptCause tells (λ limit. IsGood g.D.Disk.reach g.D.Disk.honest limit d)
    (g.O.Sink.taken c.args.out.now) (g.O.Sink.taken c.print_taken.new.out) c.args.settings.now (counts_of c.args.p.now) c.take_files.new.syms
    shelf shelf_now (g.O.Sink.faults c.args.out.now) (g.O.Sink.faults c.print_taken.new.out)
    (g.D.Disk.faults c.take_files.new.paging.loader.disk) (g.D.Disk.faults c.print_taken.new.paging.loader.disk)))
    kept.first (c.print_taken.ensures.err (counts_of c.args.p.now) tells shelf shelf_now c.in-Ok.ensures.ok) in
    err_since tells (λ limit. IsGood g.D.Disk.reach g.D.Disk.honest limit c.args.paging.now.loader.first) (g.O.Sink.taken c.args.out.now)
    (g.O.Sink.taken c.print_taken.new.out) c.args.settings.now (counts_of c.args.p.now) c.take_files.new.syms shelf shelf_now
    (g.O.Sink.faults c.args.out.now) (g.O.Sink.faults c.print_taken.new.out) (g.D.Disk.faults c.args.paging.now.loader.disk)
    (g.D.Disk.faults c.take_files.new.paging.loader.disk) (g.D.Disk.faults c.print_taken.new.paging.loader.disk) kept.later c.print_taken.result cause
