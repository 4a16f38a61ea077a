use Rattle.std.proofs.Common.{sym, ◌∙◌}
use Rattle.naim_core.specs.State.{pool_at}
use Rattle.naim_loader.proofs.Writes.{free_told}
use Rattle.naim_loader.proofs.loader.Loader.pin_write.Goals as goal

pub hand_out-requires-clause-pool : goal.hand_out-requires-clause-pool
hand_out-requires-clause-pool g c =
    free_told (pool_at c.args.self.now.core.pools c.args.pid) c.told-seen.result c.requires.present c.told-seen.ensures.view (sym c.ne.ensures ∙ c.if-ne.false)
    c.if-seen.false c.if-seen-gt0.false
    (λ x at. (c.told-seen.ensures.sound.forms_fit c.args.pid x at).stage_fits)
