use Rattle.std.proofs.Common.{◌≡◌, sym, ap, ◌∙◌, arith, true, false}
use Rattle.std.specs.Prelude.{is_none}
use Rattle.std.specs.List.{list_any, list_all}
use Rattle.std.specs.Vec.{vec_capacity}
use Rattle.naim_core.specs.Rows
use Rattle.naim_core.specs.State.{pool_at, is_empty_hand, has_repeat}
use Rattle.naim_core.specs.View.{core_of}
use Rattle.naim_core.proofs.Cuts.{kept_wave}
use Rattle.naim_core.proofs.Waves.{begin_wave_sound}
use Rattle.naim_core.proofs.state.CoreState.begin_wave.Goals as goal

pub invariant_of-self : goal.invariant_of-self
invariant_of-self c =
    let same = c.self-2.view_is in
    let idle : list_all is_empty_hand (core_of c.self-2.inside).hands ≡ true = ap (λ n. list_all is_empty_hand n.hands) same ∙ sym
    c.if-not-hands_are_empty.ensures in
    let tasks = c.into_vec.ensures in
    let present : list_any (λ t. is_none (pool_at (core_of c.self-2.inside).pools t)) c.args.tasks ≡ false =
    ap (λ n. list_any (λ t. is_none (pool_at n.pools t)) c.args.tasks) (same ∙ c.has_repeat.ensures.same ∙ sym c.self.view_is) ∙ sym
    (rw c.as_slice.ensures at c.if-misses_any.ensures) in
    let once : has_repeat c.args.tasks ≡ false = sym (rw c.as_slice-2.ensures at c.if-has_repeat.ensures.value) in (
      rw (tasks, c.clear.ensures.items) (begin_wave_sound (core_of c.self-2.inside) c.args.tasks c.self-2.invariant.0 present once idle),
      rw (tasks, c.clear.ensures.items) (kept_wave (core_of c.self-2.inside) c.self-2.inside.next (vec_capacity c.self-2.inside.done)
          (vec_capacity c.clear.new.self) c.args.tasks true c.self-2.invariant.1 (let e = c.clear.ensures.capacity in omega arith) idle),
    )
