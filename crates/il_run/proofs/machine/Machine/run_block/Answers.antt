use Rattle.std.proofs.Common.{◌<◌, ◌≤◌, ◌∙◌, ap, arith, length, rules, subst}
use Rattle.std.specs.Prelude.{◌^◌}
use Rattle.il_core.specs.declared.instr.Block.{Block}
use Rattle.il_core.specs.Limits.{max_size}
use Rattle.il_core.specs.Routine.{RoutineParts}
use Rattle.il_core.specs.Size.{blocks_size}
use Rattle.il_run.proofs.Leading.{IsRead, next_read, stands_read, steps_ok, steps_on, still_stands}
use Rattle.il_run.proofs.machine.Machine.run_block.Goals as goal

pub execute-requires : goal.execute-requires
execute-requires c =
    let runs = c.in-Ok.ensures in
    let blocks = c.as_slice-2.ensures ∙ ap (λ (r : RoutineParts). r.blocks) c.routine.view_is in
    let old = stands_read _ _ _ _ _ _ c.requires.sound.place c.as_slice.ensures c.index-as_slice-self.is blocks c.index-as_slice-self-2.is in
    let now = still_stands _ _ _ _ _ _ old runs in
    let few : c.run_plain.new.self.instr < 2 ^ 63 = search rules in
    let read : IsRead _ _ _ = record { within = c.if-self-instrs.true; few = few; read = c.index-instrs-self.is } in
    let next = next_read _ _ _ _ (c.as_slice-instrs.ensures ∙ ap (λ (x : Block). x.instrs) now.block) read in
    record {
      valid = c.requires.valid;
      tabled = c.requires.tabled;
      sound = runs.way.sound;
      routine = now.routine;
      next = next;
      special = runs.stops _ next;
    }

pub finish-requires : goal.finish-requires
finish-requires c =
    let runs = c.in-Ok.ensures in
    let blocks = c.as_slice-2.ensures ∙ ap (λ (r : RoutineParts). r.blocks) c.routine.view_is in
    let old = stands_read _ _ _ _ _ _ c.requires.sound.place c.as_slice.ensures c.index-as_slice-self.is blocks c.index-as_slice-self-2.is in
    let now = still_stands _ _ _ _ _ _ old runs in
    let whole = c.as_slice-instrs.ensures ∙ ap (λ (x : Block). x.instrs) now.block in
    record {
      valid = c.requires.valid;
      tabled = c.requires.tabled;
      sound = runs.way.sound;
      routine = now.routine;
      few = subst (λ (r : RoutineParts). blocks_size r.blocks ≤ max_size) c.routine.view_is c.routine.invariant.size;
      done = omega (arith, c.if-self-instrs.false, ap length whole);
      end = ap (λ (x : Block). x.end) now.block;
    }

pub returns-then-self-instrs : goal.returns-then-self-instrs
returns-then-self-instrs c = let runs = c.in-Ok.ensures in steps_ok _ _ _ _ _ _ runs.way c.execute.ensures

pub returns-else-self-instrs : goal.returns-else-self-instrs
returns-else-self-instrs c = let runs = c.in-Ok.ensures in steps_on _ _ _ _ _ _ runs.way c.finish.ensures
