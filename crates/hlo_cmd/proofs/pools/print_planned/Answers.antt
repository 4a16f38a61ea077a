use Rattle.std.proofs.Common.{inr}
use Rattle.naim_loader.specs.Paged.{IsGood}
use Rattle.hlo_cmd.proofs.Printed.{all_printed, front_printed, output_rose, stopped_by}
use Rattle.hlo_cmd.proofs.Stopping.{printing_told}
use Rattle.hlo_cmd.proofs.pools.print_planned.Goals as goal

pub returns-in_default-clause-ok : goal.returns-in_default-clause-ok
returns-in_default-clause-ok g c = λ s counts tells names disk has.
    all_printed g.D.Disk.reach g.D.Disk.honest c.args.paging.now.loader c.args.paging.now.cost c.args.paging.now.planned s counts tells _ c.args.shapes.now
    c.args.objects.now names has _ _ c.in_default.ensures.bytes

pub returns-in-Output-clause-err : goal.returns-in-Output-clause-err
returns-in-Output-clause-err g c = λ s counts tells names disk shelf shelf_now has. (
  output_rose (Unit {0}) _ _ c.in-Err.fault c.in-Output.is c.in-Err.ensures.cause,
  front_printed g.D.Disk.reach g.D.Disk.honest c.args.paging.now.loader c.args.paging.now.cost c.args.paging.now.planned s counts tells _ c.args.shapes.now
      c.args.objects.now names has _ _ c.in-Err.ensures.bytes,
)

pub returns-in-Stopped-clause-err : goal.returns-in-Stopped-clause-err
returns-in-Stopped-clause-err g c = λ s counts tells names disk shelf shelf_now has.
    let l = c.args.paging.now.loader in
    let front = front_printed g.D.Disk.reach g.D.Disk.honest l c.args.paging.now.cost c.args.paging.now.planned s counts tells _ c.args.shapes.now
    c.args.objects.now names has (g.O.Sink.taken c.args.out.now) (g.O.Sink.taken c.print.new.out) c.in-Err.ensures.bytes in
    rw c.loader_refusal.ensures
    (printing_told tells s counts names shelf shelf_now (g.D.Disk.faults l.disk) (g.D.Disk.faults c.print.new.loader.disk)
    (λ n. IsGood g.D.Disk.reach g.D.Disk.honest n disk) (g.O.Sink.taken c.args.out.now) (g.O.Sink.taken c.print.new.out) (g.O.Sink.faults c.args.out.now)
    (g.O.Sink.faults c.print.new.out) g.D.Disk.reach g.D.Disk.honest g.D.Disk.faults l c.in-Stopped.failure has.trusted
    (stopped_by (Unit {0}) g.D.Disk.reach g.D.Disk.honest g.D.Disk.faults l c.print.new.loader c.in-Err.fault c.in-Stopped.failure c.in-Stopped.is
    c.in-Err.ensures.pools)
    (inr front))
