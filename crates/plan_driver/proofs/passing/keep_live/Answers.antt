use Rattle.std.proofs.Common.{subst, sym, ◌∙◌}
use Rattle.il_core.specs.Shapes.{IsRising}
use Rattle.il_core.specs.declared.shape.ShapeRow.{ShapeRow}
use Rattle.plan_driver.proofs.Standing.{rising_pids}
use Rattle.plan_driver.proofs.passing.keep_live.Goals as goal

pub keep-requires : goal.keep-requires
keep-requires g c =
    subst (IsRising (λ p. p)) (sym (c.as_slice.ensures.value ∙ c.in-Ok.ensures.pids))
    (rising_pids c.args.progress.shapes (subst (IsRising (λ (row : ShapeRow). row.pid)) c.shapes.view_is c.shapes.invariant))
