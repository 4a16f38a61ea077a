use Rattle.std.proofs.Common.{◌<◌, ap, arith, get_or, length}
use Rattle.il_core.specs.declared.instr.Instr.{Instr}
use Rattle.clone_groups.specs.Moves.{callee_in}
use Rattle.clone_groups.proofs.InPlace.{left_over, one_changed}
use Rattle.clone_groups.proofs.Moving.{instrs_change}
use Rattle.clone_groups.proofs.retargeting.retarget_instrs.Goals as goal

pub loop-instr-preserved : goal.loop-instr-preserved
loop-instr-preserved c =
    let now = c.loop-instr.instrs in
    let i = c.loop-instr.instr-index in
    let lt : i < length now = omega (arith, c.loop-instr-test.true, c.loop-instr.auto.instrs) in
    one_changed (instrs_change (callee_in c.args.table.now)) c.args.site c.args.instrs.now i c.loop-instr.next now c.loop-instr.invariant
    (get_or now i c.instr-item.result) lt (ap (λ (j : Instr). get_or now i j) c.instr-item.is) c.retarget_instr-next.new.instr c.retarget_instr-next.result
    c.retarget_instr-next.ensures.instr c.retarget_instr-next.ensures.next

pub retarget_instr-next-requires : goal.retarget_instr-next-requires
retarget_instr-next-requires c =
    let now = c.loop-instr.instrs in
    let i = c.loop-instr.instr-index in
    let lt : i < length now = omega (arith, c.loop-instr-test.true, c.loop-instr.auto.instrs) in
    let left = left_over (instrs_change (callee_in c.args.table.now)) c.args.site c.args.instrs.now i c.loop-instr.next now c.loop-instr.invariant
    (get_or now i c.instr-item.result) lt (ap (λ (j : Instr). get_or now i j) c.instr-item.is) in
    omega (arith, left, c.requires)
