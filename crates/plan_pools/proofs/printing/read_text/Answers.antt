use Rattle.std.proofs.Common.{subst, sym, ◌∙◌}
use Rattle.one_owner.specs.Alone.{IsReading}
use Rattle.one_owner.proofs.Frames.{ok_so}
use Rattle.plan_pools.proofs.Frames.{leaves_on, reads_take, stops_take}
use Rattle.plan_pools.proofs.Rows.{text_read}
use Rattle.plan_pools.proofs.printing.read_text.Goals as goal

pub write_text-requires-clause-reads : goal.write_text-requires-clause-reads
write_text-requires-clause-reads g c = subst (IsReading c.take.new.loader) (sym c.in-Ok.ensures.ok.pid) c.in-Ok.ensures.ok.reads

pub write_text-requires-clause-content : goal.write_text-requires-clause-content
write_text-requires-clause-content g c = c.in-Ok.ensures.ok.pin.content

pub returns-in-Ok-clause-text : goal.returns-in-Ok-clause-text
returns-in-Ok-clause-text g c = λ trusted. ok_so _ _ c.write_text.result
    (λ v h. h
    ∙ text_read g.D.Disk.reach g.D.Disk.honest g.D.Disk.faults c.args.loader.now c.take.new.loader c.args.pid c.in-Ok.pin c.args.name.now
    c.in-Ok.ensures.ok trusted)
    c.write_text.ensures.text

pub returns-in-Ok-clause-pools : goal.returns-in-Ok-clause-pools
returns-in-Ok-clause-pools g c =
    leaves_on g.D.Disk.reach g.D.Disk.honest g.D.Disk.faults c.args.loader.now c.take.new.loader c.write_text.new.loader c.write_text.result
    (reads_take g.D.Disk.reach g.D.Disk.honest g.D.Disk.faults c.args.loader.now c.take.new.loader c.args.pid c.in-Ok.pin c.in-Ok.ensures.ok)
    c.write_text.ensures.pools

pub returns-in-Err-clause-pools : goal.returns-in-Err-clause-pools
returns-in-Err-clause-pools g c =
    stops_take g.D.Disk.reach g.D.Disk.honest g.D.Disk.faults _ _ _ c.args.loader.now c.take.new.loader c.args.pid c.in-Err.failure c.in-Err.ensures.err
