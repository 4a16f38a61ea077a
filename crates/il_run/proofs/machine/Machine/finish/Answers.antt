use Rattle.std.proofs.Common.{◌≡◌, ◌+◌, length, arith, subst, sym, ◌∙◌, ap}
use Rattle.il_core.specs.Meaning.{returned}
use Rattle.il_core.specs.Routine.{RoutineParts}
use Rattle.il_core.specs.Valid.{IsRegIfSome}
use Rattle.il_run.specs.Plain.{frame_in}
use Rattle.il_run.proofs.Steps.{end_is, jump_moves, branch_moves, branch_falls, loop_moves, loop_ends, exit_ends}
use Rattle.il_run.proofs.machine.Machine.finish.Goals as goal

pub reg-c-requires : goal.reg-c-requires
reg-c-requires c = let v = rw c.in-Branch.is at (end_is _ c.requires.valid _ c.requires.tabled _ c.requires.sound _ c.requires.end)
    in omega (arith, v.0, c.requires.sound.holds.regs)

pub returns-then-c-eq0 : goal.returns-then-c-eq0
returns-then-c-eq0 c =
    let v = rw c.in-Branch.is at (end_is _ c.requires.valid _ c.requires.tabled _ c.requires.sound _ c.requires.end) in
    branch_falls _ _ c.requires.tabled _ c.requires.sound _ _ _ _ (c.requires.done, sym c.in-Branch.is ∙ c.requires.end) v.0 c.reg-c.ensures c.if-c-eq0.true
    v.2.0 v.2.1

pub returns-then-self-eq0 : goal.returns-then-self-eq0
returns-then-self-eq0 c = (loop_ends _ _ c.requires.tabled _ c.requires.sound _ (c.requires.done, sym c.in-Loop.is ∙ c.requires.end) c.if-self-eq0.true).by

pub value-v-requires : goal.value-v-requires
value-v-requires c =
    let v = rw c.in-Return.is at (end_is _ c.requires.valid _ c.requires.tabled _ c.requires.sound _ c.requires.end) in
    record {
      holds = subst (λ (r : RoutineParts). c.args.self.now.store.at_regs + r.regs ≡ length c.args.self.now.store.regs.items) (sym c.requires.routine)
          c.requires.sound.holds.regs;
      reg = subst (λ (r : RoutineParts). IsRegIfSome r.regs c.in-Return.x) (sym c.requires.routine) v.0;
    }

pub give-requires : goal.give-requires
give-requires c = record {
  tabled = c.requires.tabled;
  sound = c.requires.sound;
  returns = record {
    register = c.in-Return.x;
    done = c.requires.done;
    end = sym c.in-Return.is ∙ c.requires.end;
    value = c.value-v.ensures ∙ ap (λ (r : RoutineParts). returned (frame_in c.args.self.now.store r) c.in-Return.x) c.requires.routine;
  };
}

pub reg-requires : goal.reg-requires
reg-requires c = let v = rw c.in-Exit.is at (end_is _ c.requires.valid _ c.requires.tabled _ c.requires.sound _ c.requires.end)
    in omega (arith, v, c.requires.sound.holds.regs)

pub returns-in-Jump : goal.returns-in-Jump
returns-in-Jump c =
    let v = rw c.in-Jump.is at (end_is _ c.requires.valid _ c.requires.tabled _ c.requires.sound _ c.requires.end) in
    jump_moves _ _ c.requires.tabled _ c.requires.sound _ (c.requires.done, sym c.in-Jump.is ∙ c.requires.end) v.0 v.1

pub returns-else-c-eq0 : goal.returns-else-c-eq0
returns-else-c-eq0 c =
    let v = rw c.in-Branch.is at (end_is _ c.requires.valid _ c.requires.tabled _ c.requires.sound _ c.requires.end) in
    branch_moves _ _ c.requires.tabled _ c.requires.sound _ _ _ _ (c.requires.done, sym c.in-Branch.is ∙ c.requires.end) v.0 c.reg-c.ensures
    (omega (arith, c.if-c-eq0.false)) v.1.0 v.1.1

pub returns-else-self-eq0 : goal.returns-else-self-eq0
returns-else-self-eq0 c =
    let v = rw c.in-Loop.is at (end_is _ c.requires.valid _ c.requires.tabled _ c.requires.sound _ c.requires.end) in
    loop_moves _ _ c.requires.tabled _ c.requires.sound _ (c.requires.done, sym c.in-Loop.is ∙ c.requires.end) (omega (arith, c.if-self-eq0.false))
    (omega (arith, v, c.requires.sound.place.in_routine)) (rw c.requires.routine at c.requires.few)

pub returns-in-Exit : goal.returns-in-Exit
returns-in-Exit c =
    let v = rw c.in-Exit.is at (end_is _ c.requires.valid _ c.requires.tabled _ c.requires.sound _ c.requires.end) in
    (exit_ends _ _ c.requires.tabled _ c.requires.sound _ _ (c.requires.done, sym c.in-Exit.is ∙ c.requires.end) v c.reg.ensures).by
