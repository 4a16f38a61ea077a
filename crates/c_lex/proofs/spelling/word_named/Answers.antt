use Rattle.std.proofs.Common.{refl, sym, ◌∙◌, ap}
use Rattle.c_tree.specs.declared.token.Reserved.TheVariants as word
use Rattle.c_lex.specs.Spelling.{word_named, word_spelling, words, same}
use Rattle.c_lex.proofs.WordLoop.{named_here, named_next, named_none}
use Rattle.c_lex.proofs.spelling.word_named.Goals as goal

pub loop-r-init : goal.loop-r-init
unfolding word_named
loop-r-init c = record { items = refl; none_before = refl }

pub loop-r-preserved : goal.loop-r-preserved
loop-r-preserved c = record {
  items = c.loop-r.invariant.items;
  none_before = c.loop-r.invariant.none_before ∙ named_next word_spelling words c.args.us.now
      c.loop-r.r-index word.Auto c.loop-r-test.true (ap (λ z. same c.args.us.now z) (sym c.word_spelling.ensures) ∙ sym c.eq.ensures ∙ c.if-eq.false);
}

pub returns-then-eq : goal.returns-then-eq
returns-then-eq c = sym (c.loop-r.invariant.none_before ∙ named_here word_spelling words c.args.us.now c.loop-r.r-index word.Auto c.loop-r-test.true
    (ap (λ z. same c.args.us.now z) (sym c.word_spelling.ensures) ∙ sym c.eq.ensures ∙ c.if-eq.true))

pub returns : goal.returns
returns c = sym (c.loop-r.invariant.none_before ∙ named_none word_spelling words c.args.us.now c.loop-r.r-index c.loop-r-test.false)
