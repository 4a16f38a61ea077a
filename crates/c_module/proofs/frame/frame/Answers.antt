use Rattle.std.proofs.Common.{◌≡◌, ◌<◌, ◌∙◌, ap, arith, length, subst, sym}
use Rattle.std.specs.List.{AllByRecursion}
use Rattle.il_core.specs.Shapes.{IsRising}
use Rattle.il_core.specs.declared.shape.ShapeRow.{ShapeRow}
use Rattle.c_module.proofs.Framed.{rows_kept, shapes_length}
use Rattle.c_module.proofs.frame.frame.Goals as goal

pub marked-requires : goal.marked-requires
marked-requires c =
    let rows = c.into_vec-rows.ensures ∙ c.rows.view_is ∙ c.in_ok-rows.ensures.rows in
    let many : c.len-names.result ≡ length c.args.syms.now = omega
    (arith, c.len-names.ensures, c.into_vec-rows.result.ok, ap length rows, shapes_length 0 c.args.syms.now) in
    subst (λ n. AllByRecursion (λ pid. pid < n) c.args.pids.now) (sym many) c.requires.live

pub invariant_of-result : goal.invariant_of-result
invariant_of-result c =
    let rows = c.into_vec-rows.ensures ∙ c.rows.view_is ∙ c.in_ok-rows.ensures.rows in
    let many : c.len-names.result ≡ length c.args.syms.now = omega
    (arith, c.len-names.ensures, c.into_vec-rows.result.ok, ap length rows, shapes_length 0 c.args.syms.now) in
    let kept = rows_kept c.args.pids.now c.args.syms.now c.len-names.result c.in_ok-table.table.items c.as_slice.result.now c.as_slice-2.result.now
    c.into_vec-rows.result.items c.from_vec-rows.result many c.in_ok-table.ensures c.as_slice.ensures.value
    (c.as_slice-2.ensures.value ∙ c.in_ok-objects.ensures) rows (c.from_vec-rows.ensures ∙ c.in_ok-rows-2.ensures) in
    subst (IsRising (λ (row : ShapeRow). row.pid)) (sym kept) c.requires.rising

pub returns-clause-shapes : goal.returns-clause-shapes
returns-clause-shapes c =
    let rows = c.into_vec-rows.ensures ∙ c.rows.view_is ∙ c.in_ok-rows.ensures.rows in
    let many : c.len-names.result ≡ length c.args.syms.now = omega
    (arith, c.len-names.ensures, c.into_vec-rows.result.ok, ap length rows, shapes_length 0 c.args.syms.now) in
    rows_kept c.args.pids.now c.args.syms.now c.len-names.result c.in_ok-table.table.items c.as_slice.result.now c.as_slice-2.result.now
    c.into_vec-rows.result.items c.from_vec-rows.result many c.in_ok-table.ensures c.as_slice.ensures.value
    (c.as_slice-2.ensures.value ∙ c.in_ok-objects.ensures) rows (c.from_vec-rows.ensures ∙ c.in_ok-rows-2.ensures)

pub returns-clause-names : goal.returns-clause-names
returns-clause-names c =
    let rows = c.into_vec-rows.ensures ∙ c.rows.view_is ∙ c.in_ok-rows.ensures.rows in
    omega (arith, c.len-names.ensures, c.into_vec-rows.result.ok, ap length rows, shapes_length 0 c.args.syms.now)
