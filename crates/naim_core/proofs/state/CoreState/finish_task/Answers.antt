use Rattle.std.proofs.Common.{◌≡◌, ◌<◌, ◌++◌, ◌∷◌, [], length, Some, sym, subst, refl, arith}
use Rattle.std.specs.Prelude.{slice_set}
use Rattle.std.specs.Vec.{vec_capacity}
use Rattle.naim_core.specs.Sound.{IsSound}
use Rattle.naim_core.specs.State.{hand_at}
use Rattle.naim_core.specs.Steps.{front}
use Rattle.naim_core.specs.View.{core_of}
use Rattle.naim_core.proofs.Bounds.{sums_fit}
use Rattle.naim_core.proofs.Kept.{kept_done, done_room}
use Rattle.list_laws.proofs.Entries.{number_itself}
use Rattle.naim_core.proofs.state.CoreState.finish_task.Goals as goal

pub put_first-requires-clause-held_fits : goal.put_first-requires-clause-held_fits
put_first-requires-clause-held_fits c = (sums_fit (core_of c.self.inside) _ c.args.pid c.args.pool c.self.invariant.0 c.requires.sound
    c.self.invariant.1.small_limit (rw (number_itself c.args.pid) refl)).1

pub unwrap-requires : goal.unwrap-requires
unwrap-requires c =
    let below = subst (λ n. c.args.worker < length n.hands) (sym c.self.view_is) c.requires.worker in
    let task = subst (λ n. (hand_at n.hands c.args.worker).task ≡ Some c.args.pid) (sym c.self.view_is) c.requires.task in
    let d = done_room (core_of c.self.inside) c.self.inside.next (vec_capacity c.self.inside.done) c.args.worker c.args.pid c.self.invariant.0
    c.self.invariant.1 below task in let l = c.self.inside.done.ok in
    c.push.ensures.succeeds (omega arith)

pub invariant_of-self : goal.invariant_of-self
invariant_of-self c =
    let below = subst (λ n. c.args.worker < length n.hands) (sym c.self.view_is) c.requires.worker in
    let task = subst (λ n. (hand_at n.hands c.args.worker).task ≡ Some c.args.pid) (sym c.self.view_is) c.requires.task in
    let items = rw c.unwrap.ensures at c.push.ensures.items in (
      rw (c.put_first.ensures, items) (subst (λ n. IsSound (record n
          { pools = front c.args.pid c.args.pool n.pools; hands = slice_set n.hands c.args.worker c.args.hand; done = n.done ++ c.args.pid ∷ [] }))
          (sym c.self.view_is) c.requires.sound),
      rw items (kept_done (core_of c.self.inside) c.self.inside.next (vec_capacity c.self.inside.done) (vec_capacity c.push.new.self) c.args.worker c.args.pid
          c.put_first.new.self c.args.hand c.self.invariant.1 c.push.ensures.capacity below task c.requires.left),
    )
