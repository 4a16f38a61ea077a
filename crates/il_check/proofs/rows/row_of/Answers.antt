use Rattle.std.proofs.Common.{ap, sym, subst, arith, ◌∙◌, ◌≡◌, List, ◌+◌, ◌-◌, ◌/◌}
use Rattle.il_core.specs.declared.shape.ShapeRow.{ShapeRow}
use Rattle.il_core.specs.Program.{found}
use Rattle.il_check.proofs.RisingRows.{Rising, go_up, go_down, not_there, is_there}
use Rattle.il_check.proofs.rows.row_of.Goals as goal

pub returns-then-row-pid : goal.returns-then-row-pid
returns-then-row-pid c =
    let e : c.args.shapes.now ≡ c.as_slice-rows.result.now = sym c.shapes.view_is ∙ sym c.as_slice-rows.ensures in
    sym (ap (λ (l : List ShapeRow). found (λ row. row.pid) c.args.pid l) e
    ∙ is_there c.args.pid (c.loop-low.low + (c.loop-low.high - c.loop-low.low) / 2) c.as_slice-rows.result.now c.index-rows-middle.result
    (subst Rising (sym c.as_slice-rows.ensures) c.shapes.invariant) (omega (arith, c.loop-low.invariant.inside)) c.index-rows-middle.is c.if-row-pid.true)

pub loop-low-preserved-then-row-pid-2 : goal.loop-low-preserved-then-row-pid-2
loop-low-preserved-then-row-pid-2 c = go_up c.loop-low.low c.loop-low.high c.args.pid _ c.as_slice-rows.result.now c.index-rows-middle.result
    (subst Rising (sym c.as_slice-rows.ensures) c.shapes.invariant) c.loop-low.invariant (omega arith) c.index-rows-middle.is c.if-row-pid-2.true

pub loop-low-preserved : goal.loop-low-preserved
loop-low-preserved c = go_down c.loop-low.low c.loop-low.high c.args.pid _ c.as_slice-rows.result.now c.index-rows-middle.result
    (subst Rising (sym c.as_slice-rows.ensures) c.shapes.invariant) c.loop-low.invariant (omega arith) (omega arith) c.index-rows-middle.is
    (omega (arith, c.if-row-pid.false, c.if-row-pid-2.false))

pub returns : goal.returns
returns c =
    let e : c.args.shapes.now ≡ c.as_slice-rows.result.now = sym c.shapes.view_is ∙ sym c.as_slice-rows.ensures in
    sym (ap (λ (l : List ShapeRow). found (λ row. row.pid) c.args.pid l) e ∙ not_there c.loop-low.low c.loop-low.high c.args.pid c.as_slice-rows.result.now
    c.loop-low.invariant c.loop-low-test.false)
