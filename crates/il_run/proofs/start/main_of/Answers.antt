use Rattle.std.proofs.Common.{ap, sym, ◌∙◌}
use Rattle.std.specs.Prelude.{nat_eq}
use Rattle.std.specs.Cmp.Lexicographic.{pointwise}
use Rattle.il_core.specs.Program.{main_pid}
use Rattle.il_run.proofs.Naming.{main_taken, main_passed, main_none}
use Rattle.il_run.proofs.start.main_of.Goals as goal

pub loop-row-init : goal.loop-row-init
loop-row-init c = ap main_pid (c.as_slice-row-items.ensures ∙ c.shapes.view_is)

pub loop-row-preserved : goal.loop-row-preserved
loop-row-preserved c = main_passed c.as_slice-row-items.result.now c.args.shapes.now c.loop-row.row-index c.row-item.result c.loop-row-test.true c.row-item.is
    c.loop-row.invariant (sym c.if-eq.false ∙ c.eq.ensures ∙ (λ i. pointwise nat_eq (c.bytes.ensures.value i) (c.as_slice.ensures i)))

pub returns-then-eq : goal.returns-then-eq
returns-then-eq c = main_taken c.as_slice-row-items.result.now c.args.shapes.now c.loop-row.row-index c.row-item.result c.loop-row-test.true c.row-item.is
    c.loop-row.invariant (sym c.if-eq.true ∙ c.eq.ensures ∙ (λ i. pointwise nat_eq (c.bytes.ensures.value i) (c.as_slice.ensures i)))

pub returns : goal.returns
returns c = main_none c.as_slice-row-items.result.now c.args.shapes.now c.loop-row.row-index c.loop-row-test.false c.loop-row.invariant
