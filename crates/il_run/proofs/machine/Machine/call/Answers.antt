use Rattle.std.proofs.Common.{arith, ap, sym, ℕ, ◌≡◌, ◌<◌, ◌≤◌, length, ◌∙◌, subst, refl}
use Rattle.std.specs.Prelude.{slice_index, sum}
use Rattle.std.specs.List.{AllByRecursion}
use Rattle.il_core.specs.Limits.{max_size}
use Rattle.il_core.specs.Routine.{RoutineParts}
use Rattle.il_core.specs.Size.{blocks_size}
use Rattle.il_core.specs.World.{each}
use Rattle.il_run.specs.Frames.{Enters}
use Rattle.il_run.specs.Plain.{frame_in}
use Rattle.il_run.proofs.Words.{each_length}
use Rattle.il_run.proofs.Steps.{target, target_read, routine_read, call_moves, call_ends}
use Rattle.il_run.specs.Machine.{routine_in}
use Rattle.il_run.proofs.machine.Machine.call.Goals as goal

pub returns-then-self-eq0 : goal.returns-then-self-eq0
returns-then-self-eq0 c = (call_ends _ _ c.requires.tabled _ c.requires.sound _ _ _ _ c.requires.next c.if-self-eq0.true).by

pub index-position-requires : goal.index-position-requires
index-position-requires c =
    let g = target _ c.requires.valid _ c.requires.tabled _ c.requires.sound c.args.dest c.args.callee c.args.count c.args.args.now
    (slice_index c.args.t.now.position.items c.args.callee) c.requires.next refl in
    omega (arith, g.small, c.requires.tabled.pids, c.args.t.now.position.ok)

pub bounds-as_slice-position : goal.bounds-as_slice-position
bounds-as_slice-position c = let g = target_read _ c.requires.valid _ c.requires.tabled _ c.requires.sound c.args.dest c.args.callee c.args.count
    c.args.args.now c.index-position.result.now c.requires.next c.index-position.ensures in omega (arith, g.within, ap length c.as_slice.ensures)

pub index-requires : goal.index-requires
index-requires c = let g = target_read _ c.requires.valid _ c.requires.tabled _ c.requires.sound c.args.dest c.args.callee c.args.count c.args.args.now
    c.index-position.result.now c.requires.next c.index-position.ensures in omega (arith, g.within, c.requires.tabled.count, c.args.t.now.arrays.ok)

pub total-elements-requires : goal.total-elements-requires
total-elements-requires c = let g = target_read _ c.requires.valid _ c.requires.tabled _ c.requires.sound c.args.dest c.args.callee c.args.count c.args.args.now
    c.index-position.result.now c.requires.next c.index-position.ensures in (c.requires.tabled.arrays _ _ g.within c.index.ensures).1

pub enter-requires-clause-args : goal.enter-requires-clause-args
enter-requires-clause-args c = let g = target_read _ c.requires.valid _ c.requires.tabled _ c.requires.sound c.args.dest c.args.callee c.args.count
    c.args.args.now c.index-position.result.now c.requires.next c.index-position.ensures in subst
    (λ (r : RoutineParts). AllByRecursion (λ x. x < r.regs) c.args.args.now) (sym c.requires.routine) g.regs

pub enter-requires-clause-fit : goal.enter-requires-clause-fit
enter-requires-clause-fit c =
    let g = target_read _ c.requires.valid _ c.requires.tabled _ c.requires.sound c.args.dest c.args.callee c.args.count c.args.args.now
    c.index-position.result.now c.requires.next c.index-position.ensures in
    let same : routine_in c.args.p.now c.index-position.result.now ≡ c.index-as_slice-position.result = routine_read c.args.p.now c.as_slice.result.now
    c.index-position.result.now c.index-as_slice-position.result c.as_slice.ensures g.within c.index-as_slice-position.is in
    let regs : c.called.inside.regs ≡ (routine_in c.args.p.now c.index-position.result.now).regs = ap (λ (r : RoutineParts). r.regs)
    (c.called.view_is ∙ sym same) in
    omega (arith, g.few, regs)

pub returns : goal.returns
returns c =
    let g = target_read _ c.requires.valid _ c.requires.tabled _ c.requires.sound c.args.dest c.args.callee c.args.count c.args.args.now
    c.index-position.result.now c.requires.next c.index-position.ensures in
    let same : routine_in c.args.p.now c.index-position.result.now ≡ c.index-as_slice-position.result = routine_read c.args.p.now c.as_slice.result.now
    c.index-position.result.now c.index-as_slice-position.result c.as_slice.ensures g.within c.index-as_slice-position.is in
    let viewed = c.called.view_is ∙ sym same in
    let elements : c.total-elements.result ≡ sum (routine_in c.args.p.now c.index-position.result.now).arrays = c.total-elements.ensures ∙ ap sum
    (c.requires.tabled.arrays _ _ g.within c.index.ensures).0 in
    let few : blocks_size (routine_in c.args.p.now c.index-position.result.now).blocks ≤ max_size = subst
    (λ (r : RoutineParts). blocks_size r.blocks ≤ max_size) viewed c.called.invariant.size in
    let vs = each (frame_in c.args.self.now.store c.args.routine.now).regs c.args.args.now in
    let enters : Enters c.args.self.now.store c.enter.new.self vs (routine_in c.args.p.now c.index-position.result.now).regs
    (sum (routine_in c.args.p.now c.index-position.result.now).arrays) =
    subst (λ (n : ℕ). Enters c.args.self.now.store c.enter.new.self vs (routine_in c.args.p.now c.index-position.result.now).regs n) elements
    (subst (λ (r : RoutineParts). Enters c.args.self.now.store c.enter.new.self vs r.regs c.total-elements.result) viewed c.in_ok-enter.ensures) in
    call_moves _ _ c.requires.tabled _ c.requires.sound c.args.dest c.args.callee c.args.count c.args.args.now c.index-position.result.now c.enter.new.self
    c.push.new.self vs c.requires.next (omega (arith, c.if-self-eq0.false))
    g.isdest g.found g.within g.blocks few (ap (λ (r : RoutineParts). each (frame_in c.args.self.now.store r).regs c.args.args.now) c.requires.routine)
    (omega (arith, g.taken, each_length (frame_in c.args.self.now.store c.args.routine.now).regs c.args.args.now))
    (omega (arith, g.few, each_length (frame_in c.args.self.now.store c.args.routine.now).regs c.args.args.now)) enters c.in_ok-push.ensures.items
