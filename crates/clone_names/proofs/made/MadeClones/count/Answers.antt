use Rattle.std.proofs.Common.{◌≤◌, [], ap, arith, sym, ◌∙◌}
use Rattle.plan_laws.specs.Plan.{clones_of}
use Rattle.clone_names.specs.Made.{Clones}
use Rattle.clone_names.proofs.Roots.{none_above}
use Rattle.clone_names.proofs.made.MadeClones.count.Goals as goal

pub returns-else-place-len : goal.returns-else-place-len
returns-else-place-len c =
    let high : c.self.inside.first ≤ c.args.root = omega (arith, c.if-place-len.false, c.len.ensures, c.self.inside.counts.ok, c.self.invariant.long) in
    sym (ap (λ (m : Clones). clones_of m.made c.args.root) (sym c.self.view_is)
    ∙ none_above c.self.inside.first c.self.inside.first c.self.inside.roots.items [] c.args.root c.self.invariant.below high)
