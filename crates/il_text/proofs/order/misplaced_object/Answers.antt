use Rattle.std.proofs.Common.{◌+◌, ◌++◌, ◌∷◌, [], List, ℕ, Some, map, take, arith, ap, sym, subst, ◌∙◌}
use Rattle.std.specs.Prelude.{not, ◌&&◌}
use Rattle.il_text.specs.Known.{Knows}
use Rattle.il_text.specs.Order.{Item, object_item, has_pid, has_name, is_above}
use Rattle.il_text.proofs.KnownItems.{IsOrderedSoFar, ordered_start, ordered_stops, ordered_goes_on, ordered_none, ordered_knows}
use Rattle.il_text.proofs.order.misplaced_object.Goals as goal

pub loop-k-init : goal.loop-k-init
loop-k-init c = λ items h. ordered_start object_item c.args.used.now items c.args.objects.now h

pub returns-then-not-both-clause-first : goal.returns-then-not-both-clause-first
returns-then-not-both-clause-first c = λ items h.
    let inv = c.loop-k.invariant items h in
    let so_far : List Item = items ++ map object_item (take c.loop-k.k c.args.objects.now) in
    ordered_stops object_item c.loop-k.used c.loop-k.before c.loop-k.k items c.args.objects.now c.index-objects-k.result c.in_ok-fresh.fresh c.both.result inv
    c.loop-k-test.true c.index-objects-k.is
    (c.in_ok-fresh.ensures.fresh so_far inv.knows ∙ ap (λ p. not (has_pid so_far p) && not (has_name so_far c.index-objects-k.result.name)) c.pid-pid.ensures)
    (c.both.ensures ∙ ap (λ b. b && c.in_ok-fresh.fresh) (c.is_above.ensures ∙ ap (is_above c.loop-k.before) c.pid-pid.ensures)) c.if-not-both.true

pub loop-k-preserved : goal.loop-k-preserved
loop-k-preserved c = λ items h.
    let inv = c.loop-k.invariant items h in
    let so_far : List Item = items ++ map object_item (take c.loop-k.k c.args.objects.now) in
    let known = λ (p : ℕ). Knows c.note.new.used (so_far ++ (record { pid = p; name = c.index-objects-k.result.name }) ∷ []) in
    let kept = λ (p : ℕ). IsOrderedSoFar object_item c.note.new.used (Some p) (c.loop-k.k + 1) items c.args.objects.now in
    subst kept (sym c.pid-pid.ensures) (ordered_goes_on object_item c.loop-k.used c.note.new.used c.loop-k.before c.loop-k.k items c.args.objects.now
    c.index-objects-k.result c.in_ok-fresh.fresh c.both.result inv c.loop-k-test.true c.index-objects-k.is
    (c.in_ok-fresh.ensures.fresh so_far inv.knows ∙ ap (λ p. not (has_pid so_far p) && not (has_name so_far c.index-objects-k.result.name)) c.pid-pid.ensures)
    (c.both.ensures ∙ ap (λ b. b && c.in_ok-fresh.fresh) (c.is_above.ensures ∙ ap (is_above c.loop-k.before) c.pid-pid.ensures)) c.if-not-both.false
    (subst known c.pid-pid.ensures (c.in_ok-fresh.ensures.known so_far inv.knows)))

pub returns-clause-first : goal.returns-clause-first
returns-clause-first c = λ items h. ordered_none object_item c.loop-k.used c.loop-k.before c.loop-k.k items c.args.objects.now (c.loop-k.invariant items h)
    (omega arith)

pub returns-clause-known : goal.returns-clause-known
returns-clause-known c = λ items h none. ordered_knows object_item c.loop-k.used c.loop-k.before c.loop-k.k items c.args.objects.now
    (c.loop-k.invariant items h) (omega arith)
