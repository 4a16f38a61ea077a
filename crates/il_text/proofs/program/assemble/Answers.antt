use Rattle.std.proofs.Common.{◌≡◌, ◌++◌, List, map, rules, sym, ◌∙◌, ap, subst}
use Rattle.std.specs.List.Sorted.{IsPermutation}
use Rattle.std.proofs.lemmas.List.Sorted.{IsNonDecreasingBy-from_sort_by_key}
use Rattle.il_core.specs.declared.shape.ShapeRow.{ShapeRow}
use Rattle.il_core.specs.Shapes.{IsRising}
use Rattle.il_text.specs.Assembled.{all_rows, object_row, routine_row}
use Rattle.il_text.proofs.Counts.{rows_rise}
use Rattle.il_text.proofs.program.assemble.Goals as goal

pub invariant_of-shapes : goal.invariant_of-shapes
invariant_of-shapes c =
    let e : c.routine_rows.new.rows.items ≡ all_rows c.args.objects c.args.routines = c.in_ok-routines.ensures.rows ∙ ap
    (λ (l : List ShapeRow). l ++ map routine_row c.args.routines)
    (c.in_ok-objects.ensures.rows ∙ ap (λ (l : List ShapeRow). l ++ map object_row c.args.objects) c.new-rows.ensures.items) in
    let perm : IsPermutation (all_rows c.args.objects c.args.routines) c.sort_by_key.new.self.items = subst
    (λ (l : List ShapeRow). IsPermutation l c.sort_by_key.new.self.items) e c.in_ok-sort_by_key.ensures.permutation in
    subst (λ (l : List ShapeRow). IsRising (λ row. row.pid) l) (sym c.from_vec.ensures)
    (rows_rise c.args.objects c.args.routines c.sort_by_key.new.self.items c.requires perm
    (IsNonDecreasingBy-from_sort_by_key (λ r. r.pid) _ c.in_ok-sort_by_key.ensures.sorted (λ a r q k. search rules)))

pub returns : goal.returns
returns c =
    let e : c.routine_rows.new.rows.items ≡ all_rows c.args.objects c.args.routines = c.in_ok-routines.ensures.rows ∙ ap
    (λ (l : List ShapeRow). l ++ map routine_row c.args.routines)
    (c.in_ok-objects.ensures.rows ∙ ap (λ (l : List ShapeRow). l ++ map object_row c.args.objects) c.new-rows.ensures.items) in
    let perm : IsPermutation (all_rows c.args.objects c.args.routines) c.sort_by_key.new.self.items = subst
    (λ (l : List ShapeRow). IsPermutation l c.sort_by_key.new.self.items) e c.in_ok-sort_by_key.ensures.permutation in
    record {
      objects = c.in_ok-objects.ensures.objects;
      routines = c.in_ok-routines.ensures.routines;
      rows = subst (λ (l : List ShapeRow). IsPermutation (all_rows c.args.objects c.args.routines) l) (sym c.from_vec.ensures) perm;
      rising = invariant_of-shapes c;
    }
