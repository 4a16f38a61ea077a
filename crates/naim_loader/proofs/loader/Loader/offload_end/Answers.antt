use Rattle.std.proofs.Common.{sym, subst}
use Rattle.naim_loader.specs.Calls.{ComesBack, disk_of}
use Rattle.naim_loader.specs.Moves.{EndsOffload, OffloadsFrom}
use Rattle.naim_loader.proofs.Ends.{filing, no_offload}
use Rattle.naim_loader.proofs.loader.Loader.offload_end.Goals as goal

pub unreachable-requires : goal.unreachable-requires
unreachable-requires g c = no_offload g.T.Poolable.encoding g.D.Disk.bytes g.D.Disk.reach g.D.Disk.honest c.args.self.now c.args.worker c.args.m c.args.filed
    c.requires.ends c.in_default.not-Offloading

pub end_offload-requires-clause-moving : goal.end_offload-requires-clause-moving
end_offload-requires-clause-moving g c =
    let asked = subst (λ z. EndsOffload g.T.Poolable.encoding g.D.Disk.bytes g.D.Disk.reach g.D.Disk.honest c.args.self.now c.args.worker z c.args.filed)
    c.in-Offloading.is c.requires.ends in
    (filing g.T.Poolable.encoding g.D.Disk.bytes g.D.Disk.reach g.D.Disk.honest c.args.self.now c.args.worker c.in-Offloading.pid c.in-Offloading.place
    c.in-Offloading.bytes c.in-Offloading.disk c.args.filed asked).moving

pub end_offload-requires-clause-filed : goal.end_offload-requires-clause-filed
end_offload-requires-clause-filed g c =
    let asked = subst (λ z. EndsOffload g.T.Poolable.encoding g.D.Disk.bytes g.D.Disk.reach g.D.Disk.honest c.args.self.now c.args.worker z c.args.filed)
    c.in-Offloading.is c.requires.ends in
    let f = filing g.T.Poolable.encoding g.D.Disk.bytes g.D.Disk.reach g.D.Disk.honest c.args.self.now c.args.worker c.in-Offloading.pid c.in-Offloading.place
    c.in-Offloading.bytes c.in-Offloading.disk c.args.filed asked in
    (f.value, f.content, f.filed, f.over)

pub end_offload-requires-clause-disk : goal.end_offload-requires-clause-disk
end_offload-requires-clause-disk g c = subst (λ z. ComesBack g.D.Disk.reach g.D.Disk.honest c.args.self.now (disk_of z)) c.in-Offloading.is c.requires.disk

pub returns-clause-ends : goal.returns-clause-ends
returns-clause-ends g c running = subst (OffloadsFrom c.args.self.now c.end_offload.new.self c.args.worker) (sym c.in-Offloading.is)
    c.end_offload.ensures.offloads
