use Rattle.std.proofs.Common.{◌++◌, subst, sym, take}
use Rattle.std.specs.Io.KnownBytes.{Appends}
use Rattle.il_core.specs.Text.{done_text, head_text}
use Rattle.plan_pools.specs.Contents.{HavePools, routine_in, rows_text}
use Rattle.plan_pools.proofs.Frames.{leaves_on, trusted_on}
use Rattle.plan_pools.proofs.Fronts.{first_fails, output_since, takes_as, then_takes}
use Rattle.plan_pools.proofs.Rows.{have_pools, program_text, tail_text}
use Rattle.plan_pools.proofs.printing.print.Goals as goal

pub print_tail-requires-clause-pools : goal.print_tail-requires-clause-pools
print_tail-requires-clause-pools g c = have_pools c.args.loader.now c.print_head.new.loader c.rows_of-rows.result.now c.in-Ok.ensures.pools.reads.has
    (subst (HavePools c.args.loader.now) (sym c.rows_of-rows.ensures.rows) c.requires.pools)

pub returns-in-Ok-clause-bytes : goal.returns-in-Ok-clause-bytes
returns-in-Ok-clause-bytes g c = λ program trusted holds.
    let rising = c.rows_of-rows.ensures.rising in
    let old = c.args.loader.now in let mid = c.print_head.new.loader in let reads = c.in-Ok.ensures.pools.reads in
    takes_as _ _ c.print_tail.result _ _ (program_text old c.args.shapes.now c.args.objects.now program rising holds)
    (then_takes _ _ _ c.print_tail.result (head_text c.args.shapes.now c.args.objects.now) (rows_text (routine_in old) c.args.shapes.now ++ done_text)
    c.in-Ok.ensures.bytes
    (takes_as _ _ c.print_tail.result _ _ (tail_text old mid c.rows_of-rows.result.now c.args.shapes.now c.rows_of-rows.ensures.rows (reads.same trusted))
    (c.print_tail.ensures.bytes (trusted_on g.D.Disk.reach g.D.Disk.honest g.D.Disk.faults old mid reads trusted))))

pub returns-in-Ok-clause-pools : goal.returns-in-Ok-clause-pools
returns-in-Ok-clause-pools g c =
    leaves_on g.D.Disk.reach g.D.Disk.honest g.D.Disk.faults c.args.loader.now c.print_head.new.loader c.print_tail.new.loader c.print_tail.result
    c.in-Ok.ensures.pools.reads c.print_tail.ensures.pools

pub returns-in-Ok-clause-cause : goal.returns-in-Ok-clause-cause
returns-in-Ok-clause-cause g c = output_since _ _ _ c.print_tail.result c.in-Ok.ensures.later c.print_tail.ensures.cause

pub returns-in-Err-clause-bytes : goal.returns-in-Err-clause-bytes
returns-in-Err-clause-bytes g c = λ program trusted holds.
    let rising = c.rows_of-rows.ensures.rising in
    let a = g.O.Sink.taken c.args.out.now in let b = g.O.Sink.taken c.print_head.new.out in
    let h = first_fails a b (head_text c.args.shapes.now c.args.objects.now) (rows_text (routine_in c.args.loader.now) c.args.shapes.now ++ done_text)
    c.in-Err.ensures.bytes in
    (h.0, subst (λ text. Appends a b (take h.0 text)) (program_text c.args.loader.now c.args.shapes.now c.args.objects.now program rising holds) h.1)
