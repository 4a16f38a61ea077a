use Rattle.std.proofs.Common.{◌<◌, refl, ap, arith, get_or, length}
use Rattle.il_core.specs.declared.instr.Block.{Block}
use Rattle.il_core.specs.declared.instr.End.{End}
use Rattle.clone_groups.proofs.Cloned.{raised_change, target_at}
use Rattle.clone_groups.proofs.InPlace.{one_changed}
use Rattle.clone_groups.proofs.cloning.raise_targets.Goals as goal

pub loop-block-preserved : goal.loop-block-preserved
loop-block-preserved c =
    let now = c.loop-block.blocks in
    let i = c.loop-block.block-index in
    let x : Block = get_or now i c.block-item.result in
    let lt : i < length now = omega (arith, c.loop-block-test.true, c.loop-block.auto.blocks) in
    one_changed raised_change 0 c.args.blocks.now i 0 now c.loop-block.invariant x lt (ap (λ (y : Block). get_or now i y) c.block-item.is)
    (record { instrs = x.instrs; end = c.raised_end-block.result }) 0 (ap (λ (e : End). record { instrs = x.instrs; end = e }) c.raised_end-block.ensures) refl

pub raised_end-block-requires : goal.raised_end-block-requires
raised_end-block-requires c =
    let now = c.loop-block.blocks in
    let i = c.loop-block.block-index in
    let lt : i < length now = omega (arith, c.loop-block-test.true, c.loop-block.auto.blocks) in
    target_at c.args.blocks.now now i (get_or now i c.block-item.result) c.requires lt (ap (λ (y : Block). get_or now i y) c.block-item.is)
    c.loop-block.invariant.rest
