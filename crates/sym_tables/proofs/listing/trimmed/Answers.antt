use Rattle.std.proofs.Common.{sym, ◌∙◌, arith}
use Rattle.sym_tables.proofs.Listings.{trim_zero, trim_other, trim_none}
use Rattle.sym_tables.proofs.listing.trimmed.Goals.{then-loop-kept-test+else-words-kept-eq0, else-loop-kept-test}
use Rattle.sym_tables.proofs.listing.trimmed.Goals as goal

pub loop-kept-preserved : goal.loop-kept-preserved
loop-kept-preserved c = let l = c.loop-kept.invariant.0 in (
  omega arith,
  sym
      (trim_zero c.args.words.now c.loop-kept.kept _ c.loop-kept-test.true l c.if-words-kept-eq0.true) ∙ c.loop-kept.invariant.1,
)

pub returns : goal.returns
returns c = (elim c.loop-kept-test.branch [
  | then-loop-kept-test+else-words-kept-eq0 w ↦ sym (trim_other c.args.words.now c.loop-kept.kept _ w.loop-kept-test.true c.loop-kept.invariant.0
      w.if-words-kept-eq0.false)
  | else-loop-kept-test w ↦ sym (trim_none c.args.words.now c.loop-kept.kept w.loop-kept-test.false)
]) ∙ c.loop-kept.invariant.1
