use Rattle.std.proofs.Common.{List, refl, ap, arith}
use Rattle.std.specs.Prelude.{◌++◌}
use Rattle.const_prop.specs.Sites.{words_at}
use Rattle.plan_laws.specs.Groups.{fixed_from}
use Rattle.clone_groups.specs.Keys.{fixed_in}
use Rattle.clone_groups.proofs.FixedAt.{known_ends, one_fixed, reads_end}
use Rattle.clone_groups.proofs.Tables.{is_nothing}
use Rattle.clone_groups.proofs.gathering.fixed_at.Goals as goal

pub loop-is_read-init : goal.loop-is_read-init
loop-is_read-init c = record {
  counted = refl;
  rest = ap (λ (xs : List _). fixed_in xs ++ fixed_from 0 c.args.reads.now (words_at c.args.known.now)) c.new-fixed.ensures.items;
}

pub returns-in_default : goal.returns-in_default
returns-in_default c =
    known_ends c.args.reads.now (fixed_from 0 c.args.reads.now (words_at c.args.known.now)) c.loop-is_read.fixed.items c.loop-is_read.param
    c.loop-is_read.is_read-index c.loop-is_read.left.now c.loop-is_read.invariant.rest (is_nothing c.loop-is_read.left.now c.in_default.ensures.cases)

pub overflow_add-param : goal.overflow_add-param
overflow_add-param c = omega (arith, c.loop-is_read.invariant.counted, c.loop-is_read-test.true, c.requires)

pub loop-is_read-preserved : goal.loop-is_read-preserved
loop-is_read-preserved c =
    let same = c.loop-is_read.invariant.counted in record {
      counted = omega arith;
      rest = one_fixed c.args.reads.now (fixed_from 0 c.args.reads.now (words_at c.args.known.now)) c.loop-is_read.fixed.items c.loop-is_read.param
          c.loop-is_read.is_read-index c.loop-is_read.left.now c.loop-is_read.invariant.rest c.add_fixed.new.fixed.items _ c.in-Some.word.now c.in-Some.rest.now
          c.loop-is_read-test.true c.in-Some.ensures.cases.0 c.in_ok-add_fixed.ensures;
    }

pub returns : goal.returns
returns c =
    reads_end c.args.reads.now (fixed_from 0 c.args.reads.now (words_at c.args.known.now)) c.loop-is_read.fixed.items c.loop-is_read.param
    c.loop-is_read.is_read-index c.loop-is_read.left.now c.loop-is_read.invariant.rest c.loop-is_read-test.false
