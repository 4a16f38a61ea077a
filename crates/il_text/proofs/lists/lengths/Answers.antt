use Rattle.std.proofs.Common.{ap, Some, arith}
use Rattle.std.specs.Fmt.{decimal}
use Rattle.hlo_num.specs.Words.{IsWord}
use Rattle.text_lines.specs.Words.{words_left}
use Rattle.il_text.proofs.ReadLists.{no_list, one_more, only_these, has_next, length_push, sum_push, sum_at_least}
use Rattle.il_text.proofs.lists.lengths.Goals as goal

pub returns-in_default-clause-each : goal.returns-in_default-clause-each
returns-in_default-clause-each c = λ lens words few small e.
    absurd (no_list decimal IsWord (words_left c.args.words) (words_left c.loop-left.left) c.loop-left.lens c.loop-left.invariant.read
    (c.is_done.ensures.no c.loop-left-test.true) c.in_default.ensures.each lens words e)

pub returns-then-len-elements-clause-each : goal.returns-then-len-elements-clause-each
returns-then-len-elements-clause-each c = λ lens words few small e.
    let r = has_next decimal IsWord (words_left c.args.words) (words_left c.loop-left.left) (words_left c.in-Some.rest) c.loop-left.lens c.in-Some.len
    c.loop-left.invariant.read c.in-Some.ensures.found c.in-Some.ensures.each lens words e in
    let least = sum_at_least c.loop-left.lens c.in-Some.len r.0 lens r.1 in
    absurd (omega (arith, least, c.loop-left.invariant.total, c.loop-left.invariant.small, c.if-len-elements.true))

pub loop-left-preserved : goal.loop-left-preserved
loop-left-preserved c =
    let len = length_push c.loop-left.lens c.push.new.self c.in-Some.len c.in_ok-push.ensures.ok in
    let total = sum_push c.loop-left.lens c.push.new.self c.in-Some.len c.in_ok-push.ensures.ok in
    record {
      read = one_more decimal IsWord (words_left c.args.words) (words_left c.loop-left.left) (words_left c.in-Some.rest) c.loop-left.lens c.push.new.self
          c.in-Some.len c.loop-left.invariant.read c.in-Some.ensures.range c.in-Some.ensures.found c.in-Some.ensures.each c.in_ok-push.ensures.ok;
      few = omega (arith, len, c.len.ensures, c.loop-left.invariant.few, c.if-len.false);
      total = omega (arith, total, c.loop-left.invariant.total);
      small = omega (arith, total, c.loop-left.invariant.total, c.loop-left.invariant.small, c.if-len-elements.false);
    }

pub returns-clause-each : goal.returns-clause-each
returns-clause-each c = λ lens words few small e. ap Some (only_these decimal IsWord (words_left c.args.words) (words_left c.loop-left.left) c.loop-left.lens
    c.loop-left.invariant.read (c.is_done.ensures.yes c.loop-left-test.false) lens words e)
