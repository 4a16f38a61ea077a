use Rattle.std.proofs.Common.{arith}
use Rattle.plan_pools.proofs.Repeated.{cost_more, makes_more, makes_none, stops_more}
use Rattle.plan_pools.proofs.planning.optimise_at_zero.Goals as goal

pub passes-init : goal.passes-init
passes-init g c = record {
  made = makes_none g.D.Disk.reach g.D.Disk.honest g.D.Disk.faults c.args.shapes c.args.main c.args.loader.now c.note.new.loader c.args.shapes
      (c.note.ensures.made c.args.shapes c.args.main c.requires.pools);
  cost = λ less p h. absurd (omega (arith, less));
}

pub one_pass-requires-clause-rests : goal.one_pass-requires-clause-rests
one_pass-requires-clause-rests g c = c.passes.invariant.made.rests

pub one_pass-requires-clause-pools : goal.one_pass-requires-clause-pools
one_pass-requires-clause-pools g c = c.passes.invariant.made.pools

pub passes-preserved : goal.passes-preserved
passes-preserved g c = record {
  made = makes_more g.D.Disk.reach g.D.Disk.honest g.D.Disk.faults c.args.shapes c.args.main c.args.loader.now c.passes.counter c.passes.loader
      c.passes.planned.shapes c.passes.invariant.made c.one_pass.new.loader c.in-Ok.next.shapes c.in-Ok.ensures.made;
  cost = λ less. cost_more g.D.Disk.reach g.D.Disk.honest g.D.Disk.faults c.args.shapes c.args.main c.args.loader.now c.passes.counter c.passes.loader
      c.passes.planned.shapes c.passes.invariant.made c.in-Ok.next.cost c.in-Ok.ensures.cost;
}

pub returns-in-Err-clause-err : goal.returns-in-Err-clause-err
returns-in-Err-clause-err g c =
    stops_more g.D.Disk.reach g.D.Disk.honest g.D.Disk.faults c.args.shapes c.args.main c.args.loader.now c.passes.counter c.passes.loader
    c.passes.planned.shapes c.passes.invariant.made c.args.passes (omega (arith, c.passes-test.true)) c.one_pass.new.loader c.in-Err.failure
    c.in-Err.ensures.err
