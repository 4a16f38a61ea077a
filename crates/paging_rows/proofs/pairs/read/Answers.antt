use Rattle.std.proofs.Common.{None, Some, false, true, subst, sym, ◌≡◌}
use Rattle.naim_core.specs.declared.event.Mode.TheVariants as mode
use Rattle.naim_core.specs.declared.pool.Stage.TheVariants as stage
use Rattle.one_owner.proofs.Taking.{present_pool}
use Rattle.paging_rows.specs.Pairs.{Moves}
use Rattle.paging_rows.proofs.Turns.{reload_moves}
use Rattle.paging_rows.proofs.pairs.read.Goals as goal

pub pin_read-requires-clause-present : goal.pin_read-requires-clause-present
pin_read-requires-clause-present g c = present_pool _ _ _ _ _ _ g.D.Disk.faults c.args.pools.now c.args.pid c.stands.ensures c.requires.present

pub unpack-requires-clause-moves : goal.unpack-requires-clause-moves
unpack-requires-clause-moves g c =
    let a = rw c.in-Reload-FromBytes.field-0-is at c.in-Reload-FromBytes.ensures.answer in
    subst (λ q. Moves c.pin_read.new.self c.args.worker None c.args.other.now (Some q) q false (λ st. st ≡ stage.Reloading mode.Read false)) (sym a.1.0)
    (reload_moves c.args.pools.now c.pin_read.new.self c.args.worker c.args.pid c.args.other.now stage.Compacted c.requires.worker c.stands.ensures.sound
    c.pin_read.ensures.sound c.requires.stands a.0 a.1.1)

pub restore-requires-clause-moves : goal.restore-requires-clause-moves
restore-requires-clause-moves g c =
    let a = rw c.in-Reload-FromDisk.field-0-is at c.in-Reload-FromDisk.ensures.answer in
    subst (λ q. Moves c.pin_read.new.self c.args.worker None c.args.other.now (Some q) q true (λ st. st ≡ stage.Reloading mode.Read true)) (sym a.1.0)
    (reload_moves c.args.pools.now c.pin_read.new.self c.args.worker c.args.pid c.args.other.now stage.Offloaded c.requires.worker c.stands.ensures.sound
    c.pin_read.ensures.sound c.requires.stands a.0 a.1.1)
