use Rattle.std.proofs.Common.{rules, tests}
use Rattle.std.specs.Prelude.{nat_lt}
use Rattle.std.proofs.lemmas.Iterator.Search.{all_from_yields_List}
use Rattle.std.proofs.lemmas.Iterator.Consumers.{YieldsList-from_first}
use Rattle.il_check.proofs.instrs.sources_exist.Goals as goal

pub returns : goal.returns
returns c =
    all_from_yields_List (λ x. nat_lt x c.args.regs) _ _ c.all.result c.all.ensures.ran
    (YieldsList-from_first (λ x. x) (λ s. s) _ c.sources.ensures) (λ x b q k. search (rules, tests))
