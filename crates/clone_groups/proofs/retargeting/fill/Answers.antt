use Rattle.std.proofs.Common.{ℕ, List, sym, subst, length}
use Rattle.std.specs.Prelude.{Option}
use Rattle.clone_groups.proofs.Filling.{Filling, fills_one}
use Rattle.clone_groups.proofs.retargeting.fill.Goals as goal

pub loop-site-preserved : goal.loop-site-preserved
loop-site-preserved c =
    let n = length c.args.table.now in
    subst (λ (t : List (Option ℕ)). Filling c.args.moves.now c.in-Some.before.now n t) (sym c.put.ensures)
    (fills_one c.args.moves.now c.loop-site.left.now c.in-Some.before.now c.in-Some.field-0-0.now n c.loop-site.table c.in-Some.ensures.cases.0
    c.loop-site.invariant)
