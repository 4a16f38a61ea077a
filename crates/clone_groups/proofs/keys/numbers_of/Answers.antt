use Rattle.std.proofs.Common.{ℕ, List, ◌++◌, ◌∙◌, ap, sym}
use Rattle.std.proofs.lemmas.List.{append-nil, drop_all}
use Rattle.hlo_num.specs.declared.word.Word.{Word}
use Rattle.clone_groups.specs.Keys.{fixed_in, numbers_of}
use Rattle.clone_groups.proofs.Tables.{numbers_fixed}
use Rattle.clone_groups.proofs.keys.numbers_of.Goals as goal

pub returns : goal.returns
returns c =
    ap fixed_in (sym (append-nil c.loop-param.numbers.items)
    ∙ ap (λ (xs : List (ℕ × Word)). c.loop-param.numbers.items ++ numbers_of xs)
    (sym (drop_all c.loop-param.param-index c.args.fixed.now c.loop-param-test.false))
    ∙ c.loop-param.invariant) ∙ numbers_fixed c.args.fixed.now
