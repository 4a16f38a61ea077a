use Rattle.std.proofs.Common.{arith, map, nat_eq, subst, sym, ap}
use Rattle.std.specs.List.{IsDistinct}
use Rattle.std.proofs.lemmas.List.{drop_all}
use Rattle.il_core.proofs.Found.{all_at}
use Rattle.plan_pools.specs.Accepting.{is_accepted}
use Rattle.plan_pools.proofs.Waves.{left_is, Waved, waved_first, waved_last, waved_next, waved_stops}
use Rattle.plan_pools.proofs.waving.inline_waves.Goals as goal

pub loop-wave-init : goal.loop-wave-init
loop-wave-init g c =
    waved_first g.D.Disk.reach g.D.Disk.honest g.D.Disk.faults c.args.shapes.now (is_accepted c.args.accepted.now) (map (λ w. w.items) c.args.waves.now)
    c.args.loader.now c.requires.rests

pub inline_wave-requires-clause-differ : goal.inline_wave-requires-clause-differ
inline_wave-requires-clause-differ g c =
    subst (IsDistinct nat_eq) (sym c.as_slice.ensures.value)
    (subst (λ w. IsDistinct nat_eq w.items) (sym c.wave-item.is)
    (all_at (λ w. IsDistinct nat_eq w.items) c.args.waves.now c.loop-wave.wave-index c.wave-item.result c.requires.differ c.loop-wave-test.true))

pub loop-wave-preserved : goal.loop-wave-preserved
loop-wave-preserved g c =
    waved_next g.D.Disk.reach g.D.Disk.honest g.D.Disk.faults c.args.shapes.now (is_accepted c.args.accepted.now) (map (λ w. w.items) c.args.waves.now)
    c.args.loader.now c.loop-wave.loader c.as_slice.result.now _
    (subst (Waved g.D.Disk.reach g.D.Disk.honest g.D.Disk.faults c.args.shapes.now (is_accepted c.args.accepted.now) (map (λ w. w.items) c.args.waves.now)
    c.args.loader.now c.loop-wave.loader)
    (left_is (λ w. w.items) c.args.waves.now c.loop-wave.wave-index c.wave-item.result c.as_slice.result.now c.loop-wave-test.true c.wave-item.is
    c.as_slice.ensures.value)
    c.loop-wave.invariant)
    c.inline_wave.new.loader c.in-Ok.ensures.ok

pub returns-in-Err-clause-err : goal.returns-in-Err-clause-err
returns-in-Err-clause-err g c =
    waved_stops g.D.Disk.reach g.D.Disk.honest g.D.Disk.faults c.args.shapes.now (is_accepted c.args.accepted.now) (map (λ w. w.items) c.args.waves.now)
    c.args.loader.now c.loop-wave.loader c.as_slice.result.now _
    (subst (Waved g.D.Disk.reach g.D.Disk.honest g.D.Disk.faults c.args.shapes.now (is_accepted c.args.accepted.now) (map (λ w. w.items) c.args.waves.now)
    c.args.loader.now c.loop-wave.loader)
    (left_is (λ w. w.items) c.args.waves.now c.loop-wave.wave-index c.wave-item.result c.as_slice.result.now c.loop-wave-test.true c.wave-item.is
    c.as_slice.ensures.value)
    c.loop-wave.invariant)
    c.inline_wave.new.loader c.in-Err.failure c.in-Err.ensures.err

pub returns-clause-ok : goal.returns-clause-ok
returns-clause-ok g c =
    let none = ap (map (λ w. w.items)) (drop_all c.loop-wave.wave-index c.args.waves.now (omega (arith, c.loop-wave-test.false))) in
    waved_last g.D.Disk.reach g.D.Disk.honest g.D.Disk.faults c.args.shapes.now (is_accepted c.args.accepted.now) (map (λ w. w.items) c.args.waves.now)
    c.args.loader.now c.loop-wave.loader
    (subst (Waved g.D.Disk.reach g.D.Disk.honest g.D.Disk.faults c.args.shapes.now (is_accepted c.args.accepted.now) (map (λ w. w.items) c.args.waves.now)
    c.args.loader.now c.loop-wave.loader) none c.loop-wave.invariant)
