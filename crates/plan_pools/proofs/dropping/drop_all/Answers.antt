use Rattle.std.proofs.Common.{◌≡◌, arith, length, refl, subst, take, ◌∙◌}
use Rattle.std.proofs.Math.Seq.{take-length}
use Rattle.plan_pools.specs.Passes.{Drops}
use Rattle.plan_pools.proofs.Leaving.{drops_itself, drops_next, held_pruned, there_next}
use Rattle.plan_pools.proofs.dropping.drop_all.Goals as goal

pub loop-pid-init : goal.loop-pid-init
loop-pid-init g c = drops_itself g.D.Disk.faults c.args.loader.now c.requires.rests

pub remove_pool-requires-clause-present : goal.remove_pool-requires-clause-present
remove_pool-requires-clause-present g c =
    there_next g.D.Disk.faults c.args.loader.now c.loop-pid.loader c.args.pids.now c.loop-pid.pid-index _ c.requires.differ c.loop-pid-test.true refl
    c.loop-pid.invariant c.requires.present

pub loop-pid-preserved : goal.loop-pid-preserved
loop-pid-preserved g c =
    drops_next g.D.Disk.faults c.args.loader.now c.loop-pid.loader c.args.pids.now c.loop-pid.pid-index _ c.requires.differ c.loop-pid-test.true refl
    c.loop-pid.invariant c.remove_pool.new.loader c.remove_pool.ensures

pub returns-clause-drops : goal.returns-clause-drops
returns-clause-drops g c =
    let end : c.loop-pid.pid-index ≡ length c.args.pids.now = omega (arith, c.loop-pid.auto.pid-index-end, c.loop-pid-test.false) in
    subst (λ ps. Drops g.D.Disk.faults ps c.args.loader.now c.loop-pid.loader) (take-length c.args.pids.now)
    (subst (λ k. Drops g.D.Disk.faults (take k c.args.pids.now) c.args.loader.now c.loop-pid.loader) end c.loop-pid.invariant)

pub returns-clause-pruned : goal.returns-clause-pruned
returns-clause-pruned g c = λ p held same.
    let end : c.loop-pid.pid-index ≡ length c.args.pids.now = omega (arith, c.loop-pid.auto.pid-index-end, c.loop-pid-test.false) in
    let drops = subst (λ ps. Drops g.D.Disk.faults ps c.args.loader.now c.loop-pid.loader) (take-length c.args.pids.now)
    (subst (λ k. Drops g.D.Disk.faults (take k c.args.pids.now) c.args.loader.now c.loop-pid.loader) end c.loop-pid.invariant) in
    held_pruned g.D.Disk.faults c.args.loader.now c.loop-pid.loader p c.args.pids.now held (same ∙ c.dead_known.ensures.go p) drops
