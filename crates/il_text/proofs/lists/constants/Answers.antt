use Rattle.std.proofs.Common.{ap, Some, arith}
use Rattle.hlo_num.specs.declared.word.Word.{Word}
use Rattle.hlo_num.specs.Words.{IsWord}
use Rattle.il_core.specs.Text.{word}
use Rattle.text_lines.specs.Words.{words_left}
use Rattle.il_text.proofs.ReadLists.{no_list, one_more, only_these, length_push, last_push}
use Rattle.il_text.proofs.lists.constants.Goals as goal

pub returns-in_default-clause-each : goal.returns-in_default-clause-each
returns-in_default-clause-each c = λ ws words trimmed e.
    absurd (no_list word (λ (w : Word). IsWord w.0) (words_left c.args.words) (words_left c.loop-left.left) c.loop-left.init c.loop-left.invariant.read
    (c.is_done.ensures.no c.loop-left-test.true) c.in_default.ensures.each ws words e)

pub loop-left-preserved : goal.loop-left-preserved
loop-left-preserved c =
    let len = length_push c.loop-left.init c.push.new.self c.in-Some.w c.in_ok-push.ensures.ok in
    record {
      read = one_more word (λ (w : Word). IsWord w.0) (words_left c.args.words) (words_left c.loop-left.left) (words_left c.in-Some.rest) c.loop-left.init
          c.push.new.self c.in-Some.w c.loop-left.invariant.read c.in-Some.ensures.range c.in-Some.ensures.found c.in-Some.ensures.each c.in_ok-push.ensures.ok;
      few = omega (arith, len, c.len.ensures, c.if-len-object_words.false);
      last = last_push c.loop-left.init c.push.new.self c.in-Some.w c.in_ok-push.ensures.ok;
    }

pub returns-else-ends_with_zero-clause-each : goal.returns-else-ends_with_zero-clause-each
returns-else-ends_with_zero-clause-each c = λ ws words trimmed e. ap Some
    (only_these word (λ (w : Word). IsWord w.0) (words_left c.args.words) (words_left c.loop-left.left) c.loop-left.init c.loop-left.invariant.read
    (c.is_done.ensures.yes c.loop-left-test.false) ws words e)
