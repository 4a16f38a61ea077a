use Rattle.std.proofs.Common.{◌<◌, sym, subst}
use Rattle.std.specs.List.{AllByRecursion}
use Rattle.il_core.specs.Shapes.{IsRising}
use Rattle.il_laws.proofs.Grown.{rising_push}
use Rattle.plan_pools.proofs.adding.with_row.Goals as goal

pub invariant_of-result : goal.invariant_of-result
invariant_of-result c =
    subst (IsRising (λ row. row.pid)) (sym c.in_ok-push.ensures.ok)
    (rising_push (λ row. row.pid) c.shapes.inside.rows c.args.row c.shapes.invariant
    (subst (AllByRecursion (λ other. other.pid < c.args.row.pid)) (sym c.shapes.view_is) c.requires))
