use Rattle.std.proofs.Common.{nat_eq, ◌∷◌, [], ◌++◌, Some, sym, ap, ◌∙◌}
use Rattle.std.specs.Map.{lookup}
use Rattle.naim_core.specs.Table.{pools_in}
use Rattle.list_laws.proofs.Entries.{other_number}
use Rattle.naim_core.proofs.Walks.{slot_here, front_step, none_pushed}
use Rattle.naim_core.proofs.table.scan.Goals as goal

pub returns-then-other-pid : goal.returns-then-other-pid
returns-then-other-pid c = slot_here c.args.order.now.entries c.loop-slot.invariant.0 _ c.next.new.self c.in-Some.slot.now c.in-Some.place.now
    c.requires.slots_differ c.loop-slot.invariant.1 c.in-Some.ensures.steps
    ∙ ap (λ o. Some o) (c.in-Some-place.is ∙ ap (λ q. Some (q, c.in-Some-place.pool)) c.if-other-pid.true)

pub loop-slot-preserved-else-other-pid : goal.loop-slot-preserved-else-other-pid
loop-slot-preserved-else-other-pid c = (
  c.loop-slot.invariant.0 ++ (c.in-Some.slot.now, c.in-Some.place.now) ∷ [],
  front_step _ c.loop-slot.invariant.0 _ c.next.new.self c.in-Some.slot.now c.in-Some.place.now c.loop-slot.invariant.1 c.in-Some.ensures.steps,
  none_pushed c.args.pid c.loop-slot.invariant.0 c.in-Some.slot.now c.in-Some.place.now c.loop-slot.invariant.2
      (ap (λ o. lookup (nat_eq c.args.pid) (pools_in ((c.in-Some.slot.now, o) ∷ []))) c.in-Some-place.is ∙
      rw (other_number c.args.pid c.in-Some-place.other (λ e. c.if-other-pid.false (sym e)))),
)

pub loop-slot-preserved : goal.loop-slot-preserved
loop-slot-preserved c = (
  c.loop-slot.invariant.0 ++ (c.in-Some.slot.now, c.in-Some.place.now) ∷ [],
  front_step _ c.loop-slot.invariant.0 _ c.next.new.self c.in-Some.slot.now c.in-Some.place.now c.loop-slot.invariant.1 c.in-Some.ensures.steps,
  none_pushed c.args.pid c.loop-slot.invariant.0 c.in-Some.slot.now c.in-Some.place.now c.loop-slot.invariant.2
      (ap (λ o. lookup (nat_eq c.args.pid) (pools_in ((c.in-Some.slot.now, o) ∷ []))) c.in_default.is),
)
