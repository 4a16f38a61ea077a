use Rattle.c_module.specs.Files.{HoldsTyped}
use Rattle.c_module.proofs.Typings.{grows, stay_well_typed, well_typed}
use Rattle.c_module.proofs.typing.typed_module.Goals as goal

pub returns-in-Ok-clause-typed : goal.returns-in-Ok-clause-typed
returns-in-Ok-clause-typed g c =
    let held : HoldsTyped c.args.number c.args.syms.now (g.S.Shelf.tells c.args.shelf.now c.args.file.now) c.in-Ok.typed c.check.new.syms = record {
      found = c.in_ok-module.module;
      held = c.in_ok-module.ensures.ok;
      here = c.in-Ok.ensures.0;
      typed = c.in-Ok.ensures.1;
      names = c.in-Ok.ensures.2;
    } in
    well_typed _ _ _ _ _ held c.typed_modules_are_well_typed.ensures

pub returns-in-Ok-clause-grows : goal.returns-in-Ok-clause-grows
returns-in-Ok-clause-grows g c =
    let held : HoldsTyped c.args.number c.args.syms.now (g.S.Shelf.tells c.args.shelf.now c.args.file.now) c.in-Ok.typed c.check.new.syms = record {
      found = c.in_ok-module.module;
      held = c.in_ok-module.ensures.ok;
      here = c.in-Ok.ensures.0;
      typed = c.in-Ok.ensures.1;
      names = c.in-Ok.ensures.2;
    } in
    grows _ _ _ _ _ held c.typed_modules_are_well_typed.ensures

pub returns-in-Ok-clause-stays : goal.returns-in-Ok-clause-stays
returns-in-Ok-clause-stays g c =
    let held : HoldsTyped c.args.number c.args.syms.now (g.S.Shelf.tells c.args.shelf.now c.args.file.now) c.in-Ok.typed c.check.new.syms = record {
      found = c.in_ok-module.module;
      held = c.in_ok-module.ensures.ok;
      here = c.in-Ok.ensures.0;
      typed = c.in-Ok.ensures.1;
      names = c.in-Ok.ensures.2;
    } in
    stay_well_typed _ _ _ _ _ held c.typed_modules_are_well_typed.ensures c.well_typed_stays.ensures
