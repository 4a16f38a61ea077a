use Rattle.std.proofs.Common.{sym, subst, ◌∙◌}
use Rattle.std.specs.Arc.{arc_value}
use Rattle.naim_loader.specs.Calls.{ComesBack, disk_of}
use Rattle.naim_loader.specs.Moves.{IsPinWith, Reloads}
use Rattle.naim_loader.proofs.Ends.{reload_asked, reload_had, reload_kind}
use Rattle.naim_loader.proofs.loader.Loader.reload_end.Goals as goal

pub into_reload-pid-requires : goal.into_reload-pid-requires
into_reload-pid-requires g c = reload_kind g.T.Poolable.charge_of g.T.Poolable.encoding g.D.Disk.bytes g.D.Disk.reach g.D.Disk.honest c.args.self.now
    c.args.worker c.args.m _ c.args.again c.requires.ends

pub end_reload-requires-clause-moving : goal.end_reload-requires-clause-moving
end_reload-requires-clause-moving g c = reload_asked g.T.Poolable.charge_of g.T.Poolable.encoding g.D.Disk.bytes g.D.Disk.reach g.D.Disk.honest c.args.self.now
    c.args.worker c.into_reload-pid.result.0 c.args.m c.into_reload-pid.result.1 c.spread-lying.result.0 c.of-value.result.value _ c.args.again
    c.into_reload-pid.ensures.pid c.into_reload-pid.ensures.disk (c.of-value.ensures ∙ c.deref.ensures) c.requires.ends c.spread-lying.ensures.lies

pub end_reload-requires-clause-value : goal.end_reload-requires-clause-value
end_reload-requires-clause-value g c = subst g.T.Poolable.is_value (sym (c.of-value.ensures ∙ c.deref.ensures)) c.requires.value

pub end_reload-requires-clause-was : goal.end_reload-requires-clause-was
end_reload-requires-clause-was g c = reload_had g.T.Poolable.charge_of g.T.Poolable.encoding g.D.Disk.bytes g.D.Disk.reach g.D.Disk.honest c.args.self.now
    c.args.worker c.into_reload-pid.result.0 c.args.m c.into_reload-pid.result.1 c.of-value.result.value _ c.args.again
    c.into_reload-pid.ensures.pid c.into_reload-pid.ensures.disk (c.of-value.ensures ∙ c.deref.ensures) c.requires.ends

pub end_reload-requires-clause-disk : goal.end_reload-requires-clause-disk
end_reload-requires-clause-disk g c = subst (ComesBack g.D.Disk.reach g.D.Disk.honest c.args.self.now) (sym c.into_reload-pid.ensures.disk) c.requires.disk

pub returns-clause-answer : goal.returns-clause-answer
returns-clause-answer g c = (
  subst (λ p. Reloads g.T.Poolable.charge_of g.T.Poolable.encoding g.D.Disk.reach g.D.Disk.honest c.args.self.now c.end_reload.new.self c.args.worker p
      (disk_of c.args.m) (arc_value c.args.body)) c.into_reload-pid.ensures.pid
      (subst (λ o. Reloads g.T.Poolable.charge_of g.T.Poolable.encoding g.D.Disk.reach g.D.Disk.honest c.args.self.now c.end_reload.new.self c.args.worker
      c.into_reload-pid.result.0 o (arc_value c.args.body)) c.into_reload-pid.ensures.disk
      (subst (Reloads g.T.Poolable.charge_of g.T.Poolable.encoding g.D.Disk.reach g.D.Disk.honest c.args.self.now c.end_reload.new.self c.args.worker
      c.into_reload-pid.result.0 c.into_reload-pid.result.1) (c.of-value.ensures ∙ c.deref.ensures) c.end_reload.ensures.reloads)),
  subst (λ p. IsPinWith c.args.again p (arc_value c.args.body) c.spread-lying.result.1) c.into_reload-pid.ensures.pid c.spread-lying.ensures.pin,
)
