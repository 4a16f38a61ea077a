use Rattle.std.proofs.Common.{arith, ◌∙◌, ap, sym, subst, Some, true, [], ◌≡◌}
use Rattle.named_lock.specs.Known.{taken_of}
use Rattle.named_lock.specs.Rules.{Replaces}
use Rattle.named_lock.specs.Keeps.{known_of, place_of}
use Rattle.named_lock.specs.Steps.{with_note, seen_at}
use Rattle.named_lock.specs.Pass.{is_placed}
use Rattle.named_lock.proofs.Views.{out-taken}
use Rattle.named_lock.proofs.Handed.{noted_me, noted_pass}
use Rattle.named_lock.proofs.Moves.{leaves}
use Rattle.named_lock.proofs.lock.Lock+R.give.Goals as goal

pub move_in-requires-clause-slot : goal.move_in-requires-clause-slot
move_in-requires-clause-slot g c = c.requires.pass.slots ∙ out-taken _ _ c.requires.turn

pub fetch_add-found-requires : goal.fetch_add-found-requires
fetch_add-found-requires g c =
    let e = c.move_in.ensures.seat in let v = sym (ap (λ z. z.0) e) in let t = c.args.t in (
      c.move_in.ensures.same.0 ∙ c.requires.pass.same,
      omega (arith, c.args.self.now.one),
      leaves g.R.Rule.holds _ _ _ _ _ t.taken.value t.state c.args.note (ap (λ z. z.1) e)
          (subst (λ z. is_placed z ≡ true) v c.requires.pass.placed)
          (subst (λ z. taken_of (known_of z) ≡ Some t.taken.value) v c.requires.turn)
          (subst (λ z. Replaces g.R.Rule.holds (place_of z) (known_of z) t.taken.value t.state c.args.note) v c.requires.rule),
    )

pub returns-clause-pass : goal.returns-clause-pass
returns-clause-pass g c =
    let e = c.move_in.ensures.seat in let t = c.fetch_add-found.ensures.2 c.args.t.state c.args.note (ap (λ z. z.1) e) in
    noted_pass _ c.args.p.now _ c.args.note t.gives (t.has ∙ ap (λ z. (with_note c.args.note t.gives z.0, [])) e)
    (c.fetch_add-found.ensures.0 ∙ c.move_in.ensures.same.0) t.count c.requires.pass

pub returns-clause-number : goal.returns-clause-number
returns-clause-number g c =
    let e = c.move_in.ensures.seat in let t = c.fetch_add-found.ensures.2 c.args.t.state c.args.note (ap (λ z. z.1) e) in
    (noted_me c.args.note t.gives c.args.p.now.seat.me.0 c.fetch_add-found.new.seat.me (t.has ∙ ap (λ z. (with_note c.args.note t.gives z.0, [])) e)
    c.requires.pass.placed).1

pub returns-clause-view : goal.returns-clause-view
returns-clause-view g c =
    let e = c.move_in.ensures.seat in let t = c.fetch_add-found.ensures.2 c.args.t.state c.args.note (ap (λ z. z.1) e) in
    (noted_me c.args.note t.gives c.args.p.now.seat.me.0 c.fetch_add-found.new.seat.me (t.has ∙ ap (λ z. (with_note c.args.note t.gives z.0, [])) e)
    c.requires.pass.placed).0

pub returns-clause-counted : goal.returns-clause-counted
returns-clause-counted g c =
    let e = c.move_in.ensures.seat in let t = c.fetch_add-found.ensures.2 c.args.t.state c.args.note (ap (λ z. z.1) e) in
    let given = (noted_me c.args.note t.gives c.args.p.now.seat.me.0 c.fetch_add-found.new.seat.me (t.has ∙ ap (λ z. (with_note c.args.note t.gives z.0, [])) e)
    c.requires.pass.placed).3 in
    let seen = ap (λ z. seen_at z.0) e in let more = t.more in omega arith
