use Rattle.std.proofs.Common.{ℕ, ◌*◌, ◌∙◌, subst, sym, length}
use Rattle.const_prop.specs.Tables.{AreNamed}
use Rattle.cleanup.proofs.Thinning.{step_rows, step_named, thin_step}
use Rattle.cleanup.proofs.dead.thin_blocks.Goals as goal

pub put_live-requires-clause-rows : goal.put_live-requires-clause-rows
put_live-requires-clause-rows c =
    step_rows c.args.blocks.now c.loop-b.blocks (length c.args.set.now) c.loop-b.b c.loop-b.rows c.index-blocks-b.result c.loop-b-test.true
    c.loop-b.auto.blocks c.loop-b.invariant.thinned c.index-blocks-b.is _ _ c.requires.forward c.loop-b.auto.set (c.loop-b.auto.rows ∙ c.requires.rows)

pub thin_block-requires-clause-named : goal.thin_block-requires-clause-named
thin_block-requires-clause-named c =
    step_named c.args.blocks.now c.loop-b.blocks (length c.args.set.now) c.loop-b.b c.loop-b.rows c.index-blocks-b-in-loop-b.result c.loop-b-test.true
    c.loop-b.auto.blocks c.loop-b.invariant.thinned c.index-blocks-b-in-loop-b.is _
    (subst (λ (k : ℕ). AreNamed (64 * k) c.args.blocks.now) (sym (c.put_live.auto.set ∙ c.loop-b.auto.set)) c.requires.named)

pub loop-b-preserved : goal.loop-b-preserved
loop-b-preserved c =
    record {
      thinned = thin_step c.args.blocks.now c.loop-b.blocks (length c.args.set.now) c.loop-b.b c.loop-b.rows c.index-blocks-b-in-loop-b.result
          c.loop-b-test.true c.loop-b.auto.blocks c.loop-b.invariant.thinned c.index-blocks-b-in-loop-b.is c.put_row.new.rows c.args.read.now
          c.put_live.new.set c.thin_block.new.set (length c.loop-b.set) (length c.thin_block.new.set)
          c.index-blocks-b.result c.thin_block.new.block c.requires.forward c.loop-b.auto.set
          (c.thin_block.auto.set ∙ c.put_live.auto.set ∙ c.loop-b.auto.set) c.index-blocks-b.is c.requires.reads c.put_live.ensures
          c.in_ok-thin_block.ensures.block c.in_ok-thin_block.ensures.live c.put_row.ensures.here c.put_row.ensures.others;
      room = c.in_ok-thin_block.ensures.room;
    }
