use Rattle.std.proofs.Common.{◌≡◌, [], sym, subst, refl, arith, true, false}
use Rattle.std.specs.List.{list_all}
use Rattle.std.specs.Vec.{vec_capacity}
use Rattle.naim_core.specs.Rows
use Rattle.naim_core.specs.State.{is_empty_hand}
use Rattle.naim_core.specs.View.{core_of}
use Rattle.naim_core.proofs.Cuts.{kept_wave, done_all, done_short, end_follows, end_undone}
use Rattle.naim_core.proofs.Waves.{end_wave_sound}
use Rattle.naim_core.proofs.state.CoreState.end_wave.Goals as goal

pub returns-then-len : goal.returns-then-len
returns-then-len c =
    let short = done_short (core_of c.self.inside) c.self.invariant.0
    (let a = c.if-len.true in let k = c.self.inside.done.ok in let l = c.self.inside.tasks.ok in omega arith) in
    end_undone (core_of c.self.inside) c.args.self.now c.self.view_is c.if-not-self.false short

pub invariant_of-self : goal.invariant_of-self
invariant_of-self c =
    let idle = subst (λ n. list_all is_empty_hand n.hands ≡ true) (sym c.self.view_is) (sym c.if-not-hands_are_empty.ensures) in (
      rw (c.clear.ensures.items, c.clear-2.ensures.items) (end_wave_sound (core_of c.self.inside) c.self.invariant.0 idle),
      rw (c.clear.ensures.items, c.clear-2.ensures.items) (kept_wave (core_of c.self.inside) c.self.inside.next (vec_capacity c.self.inside.done)
          (vec_capacity c.clear-2.new.self) [] false c.self.invariant.1 (let e = c.clear-2.ensures.capacity in omega arith) idle),
    )

pub returns : goal.returns
returns c =
    let idle = subst (λ n. list_all is_empty_hand n.hands ≡ true) (sym c.self.view_is) (sym c.if-not-hands_are_empty.ensures) in
    let full = done_all (core_of c.self.inside) c.self.inside.next (vec_capacity c.self.inside.done) c.self.invariant.0 c.self.invariant.1
    (let a = c.if-len.false in let k = c.self.inside.done.ok in let l = c.self.inside.tasks.ok in omega arith) in
    end_follows (core_of c.self.inside) c.args.self.now _ c.self.view_is c.if-not-self.false idle full
    (rw (c.clear.ensures.items, c.clear-2.ensures.items) refl)
