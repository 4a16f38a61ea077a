use Rattle.std.proofs.Common.{◌<◌, ◌∙◌, ap, arith, rules, sym}
use Rattle.std.specs.Prelude.{◌^◌}
use Rattle.il_core.specs.Routine.{RoutineParts}
use Rattle.il_run.proofs.Leading.{IsRead, row_first, row_fits, row_holds, row_more, row_traps}
use Rattle.il_run.proofs.machine.Machine.run_plain.Goals as goal

pub instrs-init : goal.instrs-init
instrs-init c = row_first _ _ _ c.requires.sound

pub plain-requires : goal.plain-requires
plain-requires c =
    let few : c.instrs.at < 2 ^ 63 = search rules in
    let read : IsRead _ _ _ = record { within = omega (arith, c.instrs-test.true); few = few; read = c.index-instrs-at.is } in
    let arrays = c.requires.tabled.arrays _ _ c.requires.sound.place.in_program c.index-arrays.ensures in
    record {
      fits = row_fits _ _ c.requires.valid c.requires.tabled _ _ _ c.requires.routine c.requires.instrs _ _ _ c.instrs.invariant read;
      holds = row_holds _ _ c.requires.valid c.requires.tabled _ _ _ c.requires.routine c.requires.instrs _ _ c.instrs.invariant;
      arrays = arrays.0 ∙ ap (λ (r : RoutineParts). r.arrays) (sym c.requires.routine);
      starts = arrays.1;
      objects = c.requires.tabled.starts;
    }

pub instrs-preserved : goal.instrs-preserved
instrs-preserved c =
    let few : c.instrs.at < 2 ^ 63 = search rules in
    let read : IsRead _ _ _ = record { within = omega (arith, c.instrs-test.true); few = few; read = c.index-instrs-at.is } in
    row_more _ _ c.requires.valid c.requires.tabled _ _ _ c.requires.routine c.requires.instrs _ _ _ _
    c.instrs.invariant read c.if-not-is_plain.ensures c.in-Ok.ensures

pub returns-in-Err : goal.returns-in-Err
returns-in-Err c =
    let few : c.instrs.at < 2 ^ 63 = search rules in
    let read : IsRead _ _ _ = record { within = omega (arith, c.instrs-test.true); few = few; read = c.index-instrs-at.is } in
    row_traps _ _ c.requires.valid c.requires.tabled _ _ _ c.requires.routine c.requires.instrs _ _ _ _ _
    c.instrs.invariant read c.if-not-is_plain.ensures c.in-Err.ensures
