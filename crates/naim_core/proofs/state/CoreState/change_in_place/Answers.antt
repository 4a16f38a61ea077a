use Rattle.std.proofs.Common.{◌≡◌, ◌<◌, length, true, false, sym, ap, subst}
use Rattle.std.specs.Prelude.{is_some, slice_set}
use Rattle.std.specs.Vec.{vec_capacity}
use Rattle.naim_core.specs.Sound.{IsSound}
use Rattle.naim_core.specs.State.{hand_at, pool_at}
use Rattle.naim_core.specs.Table.{is_resident}
use Rattle.std.specs.Option.{option_map_or}
use Rattle.naim_core.specs.Steps.{in_place}
use Rattle.naim_core.specs.View.{core_of}
use Rattle.naim_core.proofs.Bounds.{sums_fit}
use Rattle.naim_core.proofs.Kept.{kept_hand}
use Rattle.list_laws.proofs.Entries.{number_itself, lookup_set}
use Rattle.naim_core.proofs.state.CoreState.change_in_place.Goals as goal

pub put-requires-clause-under_fits : goal.put-requires-clause-under_fits
put-requires-clause-under_fits c = (sums_fit (core_of c.self.inside) _ c.args.pid c.args.pool c.self.invariant.0 c.requires.sound c.self.invariant.1.small_limit
    (let l = lookup_set c.args.pid c.args.pid c.args.pool c.args.self.now.pools c.requires.present in rw (number_itself c.args.pid) at l)).0

pub put-requires-clause-held_fits : goal.put-requires-clause-held_fits
put-requires-clause-held_fits c = (sums_fit (core_of c.self.inside) _ c.args.pid c.args.pool c.self.invariant.0 c.requires.sound c.self.invariant.1.small_limit
    (let l = lookup_set c.args.pid c.args.pid c.args.pool c.args.self.now.pools c.requires.present in rw (number_itself c.args.pid) at l)).1

pub put-requires-clause-resident : goal.put-requires-clause-resident
put-requires-clause-resident c = λ h. subst (λ n. option_map_or (λ x. is_resident x.stage) (pool_at n.pools c.args.pid) false ≡ true) (sym c.self.view_is)
    (c.requires.resident h)

pub invariant_of-self : goal.invariant_of-self
invariant_of-self c =
    let below = subst (λ n. c.args.worker < length n.hands) (sym c.self.view_is) c.requires.worker in
    let task = subst (λ n. c.args.hand.task ≡ (hand_at n.hands c.args.worker).task) (sym c.self.view_is) c.requires.task in (
      rw c.put.ensures (subst (λ n. IsSound (record n {
        pools = in_place c.args.pid c.args.pool n.pools;
        hands = slice_set n.hands c.args.worker c.args.hand;
        disk = c.args.disk;
      })) (sym c.self.view_is) c.requires.sound),
      kept_hand (core_of c.self.inside) c.self.inside.next (vec_capacity c.self.inside.done) c.args.worker c.put.new.self c.args.hand c.args.disk
          c.self.invariant.1 below (ap is_some task),
    )
