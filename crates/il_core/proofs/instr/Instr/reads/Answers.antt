use Rattle.std.proofs.Common.{rules, tests}
use Rattle.std.specs.Prelude.{nat_eq}
use Rattle.std.proofs.lemmas.Iterator.Search.{any_from_yields_List}
use Rattle.std.proofs.lemmas.Iterator.Consumers.{YieldsList-from_first}
use Rattle.il_core.proofs.instr.Instr.reads.Goals as goal

pub returns : goal.returns
returns c =
    any_from_yields_List (λ x. nat_eq c.args.register x) _ _ c.any.result c.any.ensures.ran
    (YieldsList-from_first (λ x. x) (λ s. s) _ c.sources.ensures) (λ x b q k. search (rules, tests))
