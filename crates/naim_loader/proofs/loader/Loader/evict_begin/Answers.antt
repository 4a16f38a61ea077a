use Rattle.std.proofs.Common.{refl, sym, ◌∙◌}
use Rattle.naim_loader.proofs.Evictions.{free_victim, packed_victim, victim_there}
use Rattle.naim_loader.proofs.loader.Loader.evict_begin.Goals as goal

pub told-requires : goal.told-requires
told-requires g c =
    let v = victim_there c.args.self.now.core.pools c.in-Some.pid c.is_stopped.ensures.sound.one_pool (sym c.in-Some.ensures.value) in
    let e = v.at in rw e refl

pub begin_compact-requires-clause-pool : goal.begin_compact-requires-clause-pool
begin_compact-requires-clause-pool g c =
    let v = victim_there c.args.self.now.core.pools c.in-Some.pid c.is_stopped.ensures.sound.one_pool (sym c.in-Some.ensures.value) in
    (v.pool, v.at, free_victim c.args.self.now.core.pools c.in-Some.pid c.told.result v c.told.ensures.view (sym c.eq.ensures ∙ c.if-eq.true))

pub begin_offload-requires-clause-pool : goal.begin_offload-requires-clause-pool
begin_offload-requires-clause-pool g c =
    let v = victim_there c.args.self.now.core.pools c.in-Some.pid c.is_stopped.ensures.sound.one_pool (sym c.in-Some.ensures.value) in
    (v.pool, v.at, packed_victim c.args.self.now.core.pools c.in-Some.pid c.told.result v c.told.ensures.view (sym c.eq.ensures ∙ c.if-eq.false))
