use Rattle.std.specs.Vec.{vec_capacity}
use Rattle.naim_core.specs.Rows
use Rattle.naim_core.proofs.Fresh.{fresh_sound, fresh_kept}
use Rattle.naim_core.proofs.state.CoreState.new.Goals as goal

pub invariant_of-result : goal.invariant_of-result
invariant_of-result c =
    let hands = c.in_ok-hands.ensures.items_if_clones_equal (λ y e. e) in (
      rw (hands, c.in_ok-pools.ensures, c.new-3.ensures.items, c.in_ok-done.ensures.items) (fresh_sound c.args.limit c.args.workers),
      rw (hands, c.in_ok-pools.ensures, c.new-3.ensures.items, c.in_ok-done.ensures.items)
          (fresh_kept c.args.limit c.args.workers (vec_capacity c.in_ok-done.done) c.requires.limit c.requires.some_worker c.requires.few_workers
          c.in_ok-done.ensures.capacity),
    )

pub returns-clause-sound : goal.returns-clause-sound
returns-clause-sound c =
    let hands = c.in_ok-hands.ensures.items_if_clones_equal (λ y e. e) in
    rw (hands, c.in_ok-pools.ensures, c.new-3.ensures.items, c.in_ok-done.ensures.items) (fresh_sound c.args.limit c.args.workers)
