use Rattle.std.proofs.Common.{sym, ◌∙◌, rules, false}
use Rattle.std.specs.Vec.{vec_capacity}
use Rattle.naim_core.specs.Rows
use Rattle.naim_core.specs.View.{core_of}
use Rattle.naim_core.proofs.Cuts.{kept_pools}
use Rattle.naim_core.proofs.Waves.{remove_sound}
use Rattle.naim_core.proofs.state.CoreState.remove.Goals as goal

pub invariant_of-self : goal.invariant_of-self
invariant_of-self c = (
  rw c.remove.ensures (remove_sound (core_of c.self.inside) c.args.pid c.in-Some.pool c.self.invariant.0 (sym c.get.ensures ∙ c.in-Some.is)
      (sym c.is_moving.ensures ∙ c.if-is_moving.false) (search rules) (search rules)),
  kept_pools (core_of c.self.inside) c.self.inside.next (vec_capacity c.self.inside.done) c.remove.new.self c.self.invariant.1,
)
