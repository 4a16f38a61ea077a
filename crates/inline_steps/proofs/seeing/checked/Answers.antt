use Rattle.std.proofs.Common.{ap, sym, ◌∙◌}
use Rattle.inline_steps.specs.Linking.{are_usable}
use Rattle.inline_steps.proofs.Usable.{usable_are}
use Rattle.inline_steps.proofs.seeing.checked.Goals as goal

pub returns-then-usable-clause-usable : goal.returns-then-usable-clause-usable
returns-then-usable-clause-usable g c =
    usable_are c.args.graph (sym (ap are_usable c.summaries.ensures) ∙ sym c.in-Ok.ensures ∙ c.if-usable.true)
