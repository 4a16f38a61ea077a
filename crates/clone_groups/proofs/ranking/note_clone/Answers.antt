use Rattle.std.proofs.Common.{ℕ, ◌∙◌, sym, ap, set}
use Rattle.std.specs.Prelude.{Some}
use Rattle.clone_groups.proofs.Clones.{clone_absent, clone_found}
use Rattle.clone_groups.proofs.ranking.note_clone.Goals as goal

pub returns-in-Some : goal.returns-in-Some
returns-in-Some c =
    λ rows was. ap (λ (n : ℕ). set c.args.clones.now c.in-Some.at (Some n)) c.pid.ensures
    ∙ clone_found c.key.result.now c.args.row.now c.key.ensures.callee c.key.ensures.fixed rows c.args.groups.now.entries c.in-Some.ensures.unique
    c.args.clones.now was c.in-Some.at (sym c.in-Some.ensures.index)

pub returns-in_default : goal.returns-in_default
returns-in_default c =
    λ rows was. clone_absent c.key.result.now c.args.row.now c.key.ensures.callee c.key.ensures.fixed rows c.args.groups.now.entries c.in_default.ensures.unique
    c.args.clones.now was (sym c.in_default.ensures.index)
