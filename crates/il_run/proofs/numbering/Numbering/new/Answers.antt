use Rattle.std.proofs.Common.{◌≡◌, ◌≤◌, ◌∙◌, List, ap, arith, sym, subst}
use Rattle.il_core.specs.Limits.{max_size}
use Rattle.il_core.specs.declared.instr.Block.{Block}
use Rattle.il_core.specs.Routine.{RoutineParts}
use Rattle.il_core.specs.Size.{blocks_size}
use Rattle.il_run.proofs.Numbers.{number_fits, numbered_more, numbered_all}
use Rattle.il_run.proofs.numbering.Numbering.new.Goals as goal

pub number-requires : goal.number-requires
number-requires c =
    let blocks : c.as_slice-blocks.result.now ≡ c.routine.inside.blocks = c.as_slice-blocks.ensures in
    let few : blocks_size c.as_slice-blocks.result.now ≤ max_size = subst (λ (xs : List Block). blocks_size xs ≤ max_size) (sym blocks) c.routine.invariant.size
    in
    omega (
      arith,
      few,
      number_fits c.as_slice-blocks.result.now c.loop-block.block-index c.loop-block.next c.block-item.result c.as_slice.result.now
          c.loop-block-test.true c.block-item.is c.as_slice.ensures c.loop-block.invariant.next,
    )

pub loop-block-preserved : goal.loop-block-preserved
loop-block-preserved c = numbered_more c.as_slice-blocks.result.now c.loop-block.block-index c.block-item.result c.as_slice.result.now c.loop-block.starts.items
    c.push.new.self.items c.loop-block.numbers.items c.number.new.numbers.items c.len.result c.loop-block.next c.in_ok-next.next
    c.loop-block-test.true c.block-item.is c.as_slice.ensures (c.len.ensures ∙ c.loop-block.numbers.ok.0) c.in_ok-push.ensures.items c.in_ok-next.ensures.added
    c.in_ok-next.ensures.next c.loop-block.invariant

pub returns : goal.returns
returns c = numbered_all c.args.routine.now c.as_slice-blocks.result.now c.loop-block.block-index _ c.loop-block.next
    (c.as_slice-blocks.ensures ∙ ap (λ (r : RoutineParts). r.blocks) c.routine.view_is) c.loop-block-test.false c.loop-block.auto.block-index-end
    c.loop-block.invariant
