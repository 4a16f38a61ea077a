use Rattle.std.proofs.Common.{◌∙◌, arith, refl}
use Rattle.std.proofs.Common.{length-set}
use Rattle.const_prop.proofs.Placing.{knows_more}
use Rattle.const_prop.proofs.flow.restore.Goals as goal

pub loop-i-preserved : goal.loop-i-preserved
loop-i-preserved c =
    record {
      size = length-set c.loop-i.table _ _ ∙ c.loop-i.invariant.size;
      done = λ fs h. knows_more c.loop-i.i c.args.carried.now c.loop-i.table fs _ _ refl
          (let size = c.loop-i.invariant.size in let inside = c.requires.inside c.loop-i.i c.loop-i-test.true in omega arith)
          (h.at c.loop-i.i c.loop-i-test.true) (c.loop-i.invariant.done fs h);
    }

pub returns-clause-facts : goal.returns-clause-facts
returns-clause-facts c = λ fs h i lt. c.loop-i.invariant.done fs h i (let past = c.loop-i-test.false in omega arith)
