use Rattle.std.proofs.Common.{◌≡◌, Err, arith, le_trans, length, subst, take}
use Rattle.std.proofs.Math.Nat.{le_refl}
use Rattle.std.proofs.Math.Seq.{take-length}
use Rattle.std.specs.Io.KnownBytes.{Appends}
use Rattle.plan_pools.specs.Contents.{routine_in, rows_text}
use Rattle.plan_pools.proofs.Frames.{leaves_on, reads_itself, reads_on, trusted_on}
use Rattle.plan_pools.proofs.Fronts.{output_since, takes_itself}
use Rattle.plan_pools.proofs.Rows.{have_row, next_failed, next_taken}
use Rattle.plan_pools.proofs.printing.print_rows.Goals as goal

pub loop-row-init : goal.loop-row-init
loop-row-init g c = record {
  rests = c.requires.rests;
  reads = reads_itself g.D.Disk.reach g.D.Disk.honest g.D.Disk.faults c.args.loader.now;
  taken = λ trusted. takes_itself _;
  later = le_refl _;
}

pub print_row-requires-clause-present : goal.print_row-requires-clause-present
print_row-requires-clause-present g c =
    have_row c.args.loader.now c.loop-row.loader c.args.rows.now c.loop-row.row-index c.row-item.result c.loop-row.invariant.reads.has
    c.requires.pools c.loop-row-test.true c.row-item.is

pub loop-row-preserved : goal.loop-row-preserved
loop-row-preserved g c =
    let i = c.loop-row.invariant in
    record {
      rests = c.in-Ok.ensures.pools.rests;
      reads = reads_on g.D.Disk.reach g.D.Disk.honest g.D.Disk.faults c.args.loader.now c.loop-row.loader c.print_row.new.loader i.reads
          c.in-Ok.ensures.pools.reads;
      taken = λ trusted.
          next_taken c.args.loader.now c.loop-row.loader c.args.rows.now c.loop-row.row-index c.row-item.result c.loop-row-test.true c.row-item.is
          (i.reads.same trusted) _ _ _ (i.taken trusted)
          (c.in-Ok.ensures.bytes (trusted_on g.D.Disk.reach g.D.Disk.honest g.D.Disk.faults c.args.loader.now c.loop-row.loader i.reads trusted));
      later = le_trans i.later c.in-Ok.ensures.later;
    }

pub returns-in-Err-clause-bytes : goal.returns-in-Err-clause-bytes
returns-in-Err-clause-bytes g c = λ trusted.
    let i = c.loop-row.invariant in
    next_failed c.args.loader.now c.loop-row.loader c.args.rows.now c.loop-row.row-index c.row-item.result c.loop-row-test.true c.row-item.is
    (i.reads.same trusted) _ _ _ (i.taken trusted)
    (c.in-Err.ensures.bytes (trusted_on g.D.Disk.reach g.D.Disk.honest g.D.Disk.faults c.args.loader.now c.loop-row.loader i.reads trusted))

pub returns-in-Err-clause-pools : goal.returns-in-Err-clause-pools
returns-in-Err-clause-pools g c =
    leaves_on g.D.Disk.reach g.D.Disk.honest g.D.Disk.faults {X = Unit {0}} c.args.loader.now c.loop-row.loader c.print_row.new.loader
    (Err c.in-Err.fault) c.loop-row.invariant.reads c.in-Err.ensures.pools

pub returns-in-Err-clause-cause : goal.returns-in-Err-clause-cause
returns-in-Err-clause-cause g c = output_since {T = Unit {0}} _ _ _ (Err c.in-Err.fault) c.loop-row.invariant.later c.in-Err.ensures.cause

pub returns-clause-bytes : goal.returns-clause-bytes
returns-clause-bytes g c = λ trusted.
    let end : c.loop-row.row-index ≡ length c.args.rows.now = omega (arith, c.loop-row.auto.row-index-end, c.loop-row-test.false) in
    let a = g.O.Sink.taken c.args.out.now in let b = g.O.Sink.taken c.loop-row.out in
    subst (λ rows. Appends a b (rows_text (routine_in c.args.loader.now) rows)) (take-length c.args.rows.now)
    (subst (λ k. Appends a b (rows_text (routine_in c.args.loader.now) (take k c.args.rows.now))) end (c.loop-row.invariant.taken trusted))

pub returns-clause-pools : goal.returns-clause-pools
returns-clause-pools g c = record { rests = c.loop-row.invariant.rests; reads = c.loop-row.invariant.reads }
