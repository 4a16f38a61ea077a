use Rattle.std.proofs.Common.{◌≡◌, ◌≤◌, ◌<◌, ◌+◌, ◌-◌, [], ap, arith, length, sym, ◌∙◌}
use Rattle.plan_laws.specs.Plan.{root_of}
use Rattle.clone_names.specs.Made.{Clones, made_from}
use Rattle.clone_names.proofs.Roots.{root_at, root_high, root_low}
use Rattle.clone_names.proofs.made.MadeClones.root_of.Goals as goal

pub returns-then-pid-self : goal.returns-then-pid-self
returns-then-pid-self c =
    sym (ap (λ (m : Clones). root_of m.made c.args.pid) (sym c.self.view_is)
    ∙ root_low c.self.inside.first c.self.inside.roots.items [] c.args.pid c.if-pid-self.true)

pub returns-then-place-len : goal.returns-then-place-len
returns-then-place-len c =
    let first = c.self.inside.first in
    let less : c.args.pid - first < length c.self.inside.roots.items
    = omega (arith, c.if-place-len.true, c.len.ensures, c.self.inside.roots.ok, c.if-pid-self.false) in
    let e : first + (c.args.pid - first) ≡ c.args.pid = omega (arith, c.if-pid-self.false) in
    c.index.ensures
    ∙ sym (ap (λ (m : Clones). root_of m.made c.args.pid) (sym c.self.view_is)
    ∙ ap (root_of (made_from first c.self.inside.roots.items [])) (sym e)
    ∙ root_at first c.self.inside.roots.items [] (c.args.pid - first) _ less)

pub returns-else-place-len : goal.returns-else-place-len
returns-else-place-len c =
    let first = c.self.inside.first in
    let high : first + length c.self.inside.roots.items ≤ c.args.pid
    = omega (arith, c.if-place-len.false, c.len.ensures, c.self.inside.roots.ok, c.if-pid-self.false) in
    sym (ap (λ (m : Clones). root_of m.made c.args.pid) (sym c.self.view_is)
    ∙ root_high first c.self.inside.roots.items [] c.args.pid high)
