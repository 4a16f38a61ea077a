use Rattle.std.proofs.Common.{ap, sym, ◌∙◌, arith, inl, inr}
use Rattle.std.specs.Prelude.{is_some}
use Rattle.naim_core.specs.Table.{wanted}
use Rattle.naim_core.proofs.Residents.{ahead_none, ahead_found, ahead_next, ahead_there}
use Rattle.naim_core.proofs.table.last_in.Goals as goal

pub returns-then-slot-eq-ENDS : goal.returns-then-slot-eq-ENDS
returns-then-slot-eq-ENDS c = λ r. ahead_none c.args.order.now.entries c.args.ring.now (wanted c.args.compacted) c.loop.slot c.loop.counter r
    (c.loop.invariant r) (inl c.if-slot-eq-ENDS.true)

pub returns-then-is_some : goal.returns-then-is_some
returns-then-is_some c = λ r. ahead_found c.args.order.now.entries c.args.ring.now (wanted c.args.compacted) c.loop.slot c.loop.counter r c.pid_in-found.result
    (c.loop.invariant r) c.if-slot-eq-ENDS.false c.pid_in-found.ensures
    (sym c.is_some.ensures ∙ c.if-is_some.true)

pub before-slot-requires-in-loop : goal.before-slot-requires-in-loop
before-slot-requires-in-loop c = ahead_there c.args.order.now.entries c.args.ring.now (wanted c.args.compacted) c.loop.slot c.loop.counter c.requires
    (c.loop.invariant c.requires) c.if-slot-eq-ENDS.false

pub loop-preserved : goal.loop-preserved
loop-preserved c = λ r. ahead_next c.args.order.now.entries c.args.ring.now (wanted c.args.compacted) c.loop.slot c.loop.counter c.before-slot-in-loop.result r
    (c.loop.invariant r) c.if-slot-eq-ENDS.false
    (ap is_some (sym c.pid_in-found.ensures) ∙ sym c.is_some.ensures ∙ c.if-is_some.false) c.before-slot-in-loop.ensures

pub returns : goal.returns
returns c = λ r. ahead_none c.args.order.now.entries c.args.ring.now (wanted c.args.compacted) c.loop.slot c.loop.counter r (c.loop.invariant r)
    (inr (let k = c.loop-test.false in omega arith))
