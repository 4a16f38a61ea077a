use Rattle.std.proofs.Common.{refl, sym, ◌∙◌, ap, nat_eq}
use Rattle.std.specs.Cmp.Lexicographic.{pointwise}
use Rattle.il_text.specs.declared.mnemonic.Mnemonic.TheVariants as name
use Rattle.il_text.specs.Mnemonics.{mnemonic_named, mnemonic_text, mnemonics}
use Rattle.il_text.proofs.NamedThings.{named_here, named_next, named_none}
use Rattle.il_text.proofs.mnemonic.mnemonic_named.Goals as goal

pub loop-mnemonic-init : goal.loop-mnemonic-init
unfolding mnemonic_named
loop-mnemonic-init c = record { items = refl; none_before = refl }

pub loop-mnemonic-preserved : goal.loop-mnemonic-preserved
loop-mnemonic-preserved c = record {
  items = c.loop-mnemonic.invariant.items;
  none_before = c.loop-mnemonic.invariant.none_before ∙ named_next mnemonic_text
      mnemonics c.args.word.now c.loop-mnemonic.mnemonic-index name.Const c.loop-mnemonic-test.true
      (ap (λ z. pointwise nat_eq c.args.word.now z) (sym c.text_of.ensures ∙ sym c.as_bytes.ensures.value) ∙ sym c.eq.ensures ∙ c.if-eq.false);
}

pub returns-then-eq : goal.returns-then-eq
returns-then-eq c = sym (c.loop-mnemonic.invariant.none_before ∙ named_here mnemonic_text mnemonics c.args.word.now c.loop-mnemonic.mnemonic-index name.Const
    c.loop-mnemonic-test.true (ap (λ z. pointwise nat_eq c.args.word.now z) (sym c.text_of.ensures ∙ sym c.as_bytes.ensures.value) ∙ sym c.eq.ensures ∙
    c.if-eq.true))

pub returns : goal.returns
returns c = sym (c.loop-mnemonic.invariant.none_before ∙ named_none mnemonic_text mnemonics c.args.word.now c.loop-mnemonic.mnemonic-index
    c.loop-mnemonic-test.false)
