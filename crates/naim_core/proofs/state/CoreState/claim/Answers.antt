use Rattle.std.proofs.Common.{◌<◌, ◌+◌, length, drop, sym, subst, refl, arith}
use Rattle.std.specs.Vec.{vec_capacity}
use Rattle.naim_core.specs.View.{core_of}
use Rattle.naim_core.proofs.Cuts.{next_of, kept_claim, claim_follows}
use Rattle.naim_core.proofs.Told.{read_hand, read_hand_at, none_of}
use Rattle.naim_core.proofs.Waves.{claim_sound}
use Rattle.naim_core.proofs.state.CoreState.claim.Goals as goal

pub invariant_of-self : goal.invariant_of-self
invariant_of-self c =
    let below = subst (λ n. c.args.worker < length n.hands) (sym c.self.view_is) c.requires in
    let at = read_hand c.self.inside.hands.items c.args.worker c.index.result.now below c.index.ensures in
    let none = none_of c.index.result.now.task c.if-is_some.ensures in
    let left : c.self.inside.next < length c.self.inside.tasks.items =
    (let a = c.if-self-len.false in let l = c.len.ensures in let k = c.self.inside.tasks.ok in omega arith) in (
      claim_sound (core_of c.self.inside) c.args.worker c.index-task.result.now (drop (c.self.inside.next + 1) c.self.inside.tasks.items) c.index.result.now
          c.self.invariant.0 at none (next_of c.self.inside.tasks.items c.self.inside.next c.index-task.result.now _ left c.index-task.ensures),
      kept_claim (core_of c.self.inside) c.self.inside.next (vec_capacity c.self.inside.done) c.args.worker c.index-task.result.now c.index.result.now
          c.self.invariant.1 refl left at none,
    )

pub returns : goal.returns
returns c =
    let below = subst (λ n. c.args.worker < length n.hands) (sym c.self.view_is) c.requires in
    let at = read_hand_at c.self.inside.hands.items c.args.worker c.index.result.now below c.index.ensures in
    let none = none_of c.index.result.now.task c.if-is_some.ensures in
    let left : c.self.inside.next < length c.self.inside.tasks.items =
    (let a = c.if-self-len.false in let l = c.len.ensures in let k = c.self.inside.tasks.ok in omega arith) in
    claim_follows (core_of c.self.inside) c.args.self.now c.args.worker c.index-task.result.now c.self.inside.next c.index.result.now _ c.self.view_is at none
    (next_of c.self.inside.tasks.items c.self.inside.next c.index-task.result.now _ left c.index-task.ensures) refl
