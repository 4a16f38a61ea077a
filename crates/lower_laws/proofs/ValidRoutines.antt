-- The routine of a function whose names are bound, and stand for what the program has, is valid.
use Rattle.std.proofs.Common.{◌≡◌, suc, ◌≤◌, Bool, true, false, List, length, refl, arith}
use Rattle.il_core.specs.declared.shape.ShapeRow.{ShapeRow}
use Rattle.il_core.specs.Routine.{RoutineParts}
use Rattle.lower_laws.specs.Code.{Numbers}
use Rattle.lower_laws.specs.Functions.{layout_of, first_numbers, body_past, last_code, nowhere, lowered}
use Rattle.lower_laws.specs.Statements.{no_value_past, open_behind}
use Rattle.lower_laws.specs.ValidityLaws.{LoweredIsValid}
use Rattle.lower_laws.proofs.Layouts.{array_within}
use Rattle.lower_laws.proofs.Runs.{whole}
use Rattle.lower_laws.proofs.Sizes.{blocks_are_numbers}
use Rattle.lower_laws.proofs.Stands.{HasRoom, Stands}
use Rattle.lower_laws.proofs.StatementsGrow.{grow_no_value, grow_stmt}
use Rattle.lower_laws.proofs.ValidStatements.{Way, stands_stmt}
use Rattle.lower_laws.proofs.Whole.{placed}

-- the return behind the body is the last block
stands_last : (rows : List ShapeRow) (r : RoutineParts) (v : Bool) (n : Numbers) → r.value ≡ v → (no_value_past v n).reg ≤ r.regs
    → length r.blocks ≡ suc n.block → Stands rows r n (last_code v n)
stands_last rows r false n e top count = record { blocks = (tt, (tt, e), tt); whole = omega (arith, count) }
stands_last rows r true n e top count = record { blocks = ((omega (arith, top), tt), (omega (arith, top), e), tt); whole = omega (arith, count) }

pub lowered_is_valid : LoweredIsValid
lowered_is_valid rows f bound fit entry count =
    let h = placed count f bound in
    let r = lowered entry count f in
    let y = layout_of count f in
    let n = body_past f in
    let gb = grow_stmt y.outline f.body true (first_numbers f) in
    let gn = grow_no_value y.outline.value n in
    let room : HasRoom r y (whole f) = record {
      params = omega (arith, gb.reg, gn.reg);
      registers = λ x ok. omega (arith, h.before x ok, gn.reg);
      arrays = λ a ok. array_within f.locals a ok.1;
      value = refl;
    } in
    let blocks = blocks_are_numbers entry count f in
    let end = stands_last rows r y.outline.value n refl (omega arith) blocks in
    let out : Way rows r y (whole f) room false (open_behind f.body true) (first_numbers f).block n.block (nowhere f) = record { by = λ asked. absurd cc } in
    let code = stands_stmt rows r y (whole f) room (record { value = y.outline.value; breaks = false; continues = false }) f.body (nowhere f) (nowhere f)
    true (first_numbers f) refl h.fine fit out out (omega (arith, gn.reg)) end in
    record { params = omega (arith, gb.reg, gn.reg); blocks = code.blocks; some_block = omega (arith, blocks) }
