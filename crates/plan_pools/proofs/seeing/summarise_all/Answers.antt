use Rattle.std.proofs.Common.{◌≡◌, ap, arith, length, map, refl, take, ◌∙◌}
use Rattle.std.proofs.Math.Seq.{take-length}
use Rattle.plan_laws.specs.Summary.{summary}
use Rattle.plan_pools.proofs.Frames.{reads_itself, reads_on, trusted_on}
use Rattle.plan_pools.proofs.Seen.{graph_next, map_length, present_next, stops_next}
use Rattle.plan_pools.proofs.seeing.summarise_all.Goals as goal

pub loop-pid-init : goal.loop-pid-init
loop-pid-init g c = record {
  rests = c.requires.rests;
  reads = reads_itself g.D.Disk.reach g.D.Disk.honest g.D.Disk.faults c.args.loader.now;
  graph = λ p trusted valid held same. c.new-graph.ensures;
}

pub add_summary-requires-clause-present : goal.add_summary-requires-clause-present
add_summary-requires-clause-present g c =
    present_next g.D.Disk.reach g.D.Disk.honest g.D.Disk.faults c.args.loader.now c.loop-pid.loader c.args.pids.now c.loop-pid.pid-index _ c.loop-pid-test.true
    refl c.loop-pid.invariant.reads
    c.requires.present

pub loop-pid-preserved : goal.loop-pid-preserved
loop-pid-preserved g c =
    let i = c.loop-pid.invariant in
    record {
      rests = c.in-Ok.ensures.ok.rests;
      reads = reads_on g.D.Disk.reach g.D.Disk.honest g.D.Disk.faults c.args.loader.now c.loop-pid.loader c.add_summary.new.loader i.reads
          c.in-Ok.ensures.ok.reads;
      graph = λ p trusted valid held same.
          graph_next g.D.Disk.reach g.D.Disk.honest g.D.Disk.faults c.args.loader.now c.loop-pid.loader c.args.pids.now c.loop-pid.pid-index _
          c.loop-pid-test.true refl i.reads p c.loop-pid.graph
          c.add_summary.new.graph trusted valid held same (i.graph p trusted valid held same)
          (c.in-Ok.ensures.graph (trusted_on g.D.Disk.reach g.D.Disk.honest g.D.Disk.faults c.args.loader.now c.loop-pid.loader i.reads trusted));
    }

pub returns-in-Err-clause-err : goal.returns-in-Err-clause-err
returns-in-Err-clause-err g c =
    stops_next g.D.Disk.reach g.D.Disk.honest g.D.Disk.faults c.args.loader.now c.loop-pid.loader c.args.pids.now c.loop-pid.pid-index _ c.loop-pid-test.true
    refl c.loop-pid.invariant.reads
    c.add_summary.new.loader c.args.shapes.now c.in-Err.failure c.in-Err.ensures.err

pub returns-clause-ok : goal.returns-clause-ok
returns-clause-ok g c = record { rests = c.loop-pid.invariant.rests; reads = c.loop-pid.invariant.reads }

pub returns-clause-graph : goal.returns-clause-graph
returns-clause-graph g c = λ p trusted valid held same.
    let end : c.loop-pid.pid-index ≡ length c.args.pids.now = omega (arith, c.loop-pid.auto.pid-index-end, c.loop-pid-test.false) in
    let all : c.loop-pid.pid-index ≡ length p.routines = end ∙ ap length same ∙ map_length p.routines in
    c.loop-pid.invariant.graph p trusted valid held same ∙ ap (λ n. map summary (take n p.routines)) all ∙ ap (map summary) (take-length p.routines)
