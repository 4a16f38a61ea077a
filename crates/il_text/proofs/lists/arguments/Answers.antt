use Rattle.std.proofs.Common.{ap, Some, arith}
use Rattle.hlo_num.specs.Words.{IsWord}
use Rattle.il_core.specs.Text.{reg}
use Rattle.text_lines.specs.Words.{words_left}
use Rattle.il_text.proofs.ReadLists.{no_list, one_more, only_these, length_push}
use Rattle.il_text.proofs.lists.arguments.Goals as goal

pub returns-in_default-clause-each : goal.returns-in_default-clause-each
returns-in_default-clause-each c = λ args words few e.
    absurd (no_list reg IsWord (words_left c.args.words) (words_left c.loop-left.left) c.loop-left.args c.loop-left.invariant.read
    (c.is_done.ensures.no c.loop-left-test.true) c.in_default.ensures.each args words e)

pub loop-left-preserved : goal.loop-left-preserved
loop-left-preserved c =
    let len = length_push c.loop-left.args c.push.new.self c.in-Some.n c.in_ok-push.ensures.ok in
    record {
      read = one_more reg IsWord (words_left c.args.words) (words_left c.loop-left.left) (words_left c.in-Some.rest) c.loop-left.args c.push.new.self
          c.in-Some.n c.loop-left.invariant.read c.in-Some.ensures.range c.in-Some.ensures.found c.in-Some.ensures.each c.in_ok-push.ensures.ok;
      few = omega (arith, len, c.len.ensures, c.loop-left.invariant.few, c.if-len.false);
    }

pub returns-clause-each : goal.returns-clause-each
returns-clause-each c = λ args words few e. ap Some (only_these reg IsWord (words_left c.args.words) (words_left c.loop-left.left) c.loop-left.args
    c.loop-left.invariant.read (c.is_done.ensures.yes c.loop-left-test.false) args words e)
