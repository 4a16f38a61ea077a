use Rattle.std.proofs.Common.{◌≡◌, ◌<◌, length, sym, ap, subst, refl}
use Rattle.std.specs.Prelude.{is_some, slice_set}
use Rattle.std.specs.Vec.{vec_capacity}
use Rattle.naim_core.specs.Sound.{IsSound}
use Rattle.naim_core.specs.State.{hand_at}
use Rattle.naim_core.specs.Steps.{front}
use Rattle.naim_core.specs.View.{core_of}
use Rattle.naim_core.proofs.Bounds.{sums_fit}
use Rattle.naim_core.proofs.Kept.{kept_hand}
use Rattle.list_laws.proofs.Entries.{number_itself}
use Rattle.naim_core.proofs.state.CoreState.change_first.Goals as goal

pub put_first-requires-clause-held_fits : goal.put_first-requires-clause-held_fits
put_first-requires-clause-held_fits c = (sums_fit (core_of c.self.inside) _ c.args.pid c.args.pool c.self.invariant.0 c.requires.sound
    c.self.invariant.1.small_limit (rw (number_itself c.args.pid) refl)).1

pub invariant_of-self : goal.invariant_of-self
invariant_of-self c =
    let below = subst (λ n. c.args.worker < length n.hands) (sym c.self.view_is) c.requires.worker in
    let task = subst (λ n. c.args.hand.task ≡ (hand_at n.hands c.args.worker).task) (sym c.self.view_is) c.requires.task in (
      rw c.put_first.ensures (subst (λ n. IsSound (record n {
        pools = front c.args.pid c.args.pool n.pools;
        hands = slice_set n.hands c.args.worker c.args.hand;
        disk = c.args.disk;
      })) (sym c.self.view_is) c.requires.sound),
      kept_hand (core_of c.self.inside) c.self.inside.next (vec_capacity c.self.inside.done) c.args.worker c.put_first.new.self c.args.hand c.args.disk
          c.self.invariant.1 below (ap is_some task),
    )
