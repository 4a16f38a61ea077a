-- What was read and is in order, as a program.
use Rattle.std.proofs.Common.{◌≡◌, ℕ, suc, ◌<◌, ◌≤◌, true, false, List, [], ◌∷◌, ◌++◌, Some, None, length, map, refl, sym, ◌∙◌, ap, subst}
use Rattle.std.proofs.Common.{length-append, arith, inl, inr}
use Rattle.std.specs.Prelude.{Contains, codes, ◌&&◌, not, nat_lt, ◌==◌}
use Rattle.std.specs.List.{AllByRecursion, list_any}
use Rattle.std.specs.List.Sorted.{IsPermutation}
use Rattle.std.specs.Str.{bytes_eq}
use Rattle.std.proofs.lemmas.Bool.{cases_Bool, and_parts, ltb-true, lt-ltb, eqb-true, not-false}
use Rattle.std.proofs.lemmas.List.Elements.{Contains-append_left, Contains-append_right}
use Rattle.std.proofs.lemmas.List.Sorted.{Contains-permutation, length_permutation}
use Rattle.il_core.specs.declared.shape.ShapeRow.{ShapeRow}
use Rattle.il_core.specs.declared.shape.Shape.{Shape}
use Rattle.il_core.specs.declared.shape.Shape.TheVariants as shape
use Rattle.il_core.specs.declared.program.IlProgram.{IlProgram}
use Rattle.il_core.specs.Limits.{IsPid, max_pids, max_routines}
use Rattle.il_core.specs.Object.{ObjectParts}
use Rattle.il_core.specs.Routine.{RoutineParts}
use Rattle.il_core.specs.Program.{found, shape_at, shape_of_row}
use Rattle.il_core.specs.Shapes.{IsRising, IsRisingFrom}
use Rattle.il_core.specs.Valid.{IsValid, IsProgram}
use Rattle.il_check.proofs.RisingRows.{is_there}
use Rattle.il_text.specs.declared.line.NamedObject.{NamedObject}
use Rattle.il_text.specs.declared.line.NamedRoutine.{NamedRoutine}
use Rattle.il_text.specs.Assembled.{object_row, routine_row, all_rows, first_out_of_order, HasPartsOf}
use Rattle.il_text.specs.Checked.{is_main, is_main_shape}
use Rattle.il_text.specs.declared.partial.Partial.{Partial}
use Rattle.il_text.specs.declared.partial.Place.{Place}
use Rattle.il_text.specs.declared.partial.Place.TheVariants.{Done}
use Rattle.il_text.specs.FitPartials.{IsFitRoutine, IsFitPartial, IsRoomAt}
use Rattle.il_text.specs.Lines.{IsFitObject}
use Rattle.il_text.specs.Order.{Item, object_items, routine_items, has_pid, has_name, first_misplaced}
use Rattle.il_text.proofs.Counts.{placed_head, object_part, rows_names_once, each_moved, same_bytes}

pub contains_head : (x : ShapeRow) (xs : List ShapeRow) → Contains (x ∷ xs) x
contains_head x xs = (0, omega arith, refl)

-- each of a list has its row among these
contained : {X : Type 0} (f : X → ShapeRow) (rows : List ShapeRow) (xs : List X) → ((r : ShapeRow) → Contains (map f xs) r → Contains rows r)
    → AllByRecursion (λ x. Contains rows (f x)) xs
contained f rows [] h = tt
contained f rows (x ∷ xs) h = (h (f x) (contains_head (f x) (map f xs)), contained f rows xs (λ r c. h r (Contains-append_right (f x ∷ []) (map f xs) r c)))

pub object_rows_in : (os : List NamedObject) (rs : List NamedRoutine) (rows : List ShapeRow) → IsPermutation (all_rows os rs) rows
    → AllByRecursion (λ o. Contains rows (object_row o)) os
object_rows_in os rs rows h = contained object_row rows os (λ r c. Contains-permutation (all_rows os rs) rows r h
    (Contains-append_left (map object_row os) (map routine_row rs) r c))

pub routine_rows_in : (os : List NamedObject) (rs : List NamedRoutine) (rows : List ShapeRow) → IsPermutation (all_rows os rs) rows
    → AllByRecursion (λ r. Contains rows (routine_row r)) rs
routine_rows_in os rs rows h = contained routine_row rows rs (λ r c. Contains-permutation (all_rows os rs) rows r h
    (Contains-append_right (map object_row os) (map routine_row rs) r c))

abbrev pub Rising : List ShapeRow → Type 0
Rising rows = IsRising (λ row. row.pid) rows

-- a row is found by its PID
pub row_found : (rows : List ShapeRow) (r : ShapeRow) → Rising rows → Contains rows r → found (λ row. row.pid) r.pid rows ≡ Some r
row_found rows r h c = is_there r.pid c.0 rows r h c.1 (sym c.2) refl

object_shapes : (rows : List ShapeRow) (os : List NamedObject) → Rising rows → AllByRecursion (λ o. Contains rows (object_row o)) os
    → AllByRecursion (λ (o : ObjectParts). shape_at rows o.pid ≡ Some (shape.Object o.words)) (map (λ o. o.object) os)
object_shapes rows [] h k = tt
object_shapes rows (o ∷ os) h k = (ap shape_of_row (row_found rows (object_row o) h k.0), object_shapes rows os h k.1)

routine_shapes : (rows : List ShapeRow) (rs : List NamedRoutine) → Rising rows → AllByRecursion (λ r. Contains rows (routine_row r)) rs
    → AllByRecursion (λ (r : RoutineParts). shape_at rows r.pid ≡ Some (shape.Routine r.params r.value)) (map (λ r. r.routine) rs)
routine_shapes rows [] h k = tt
routine_shapes rows (r ∷ rs) h k = (ap shape_of_row (row_found rows (routine_row r) h k.0), routine_shapes rows rs h k.1)

pub length_mapped : {X Y : Type 0} (f : X → Y) (xs : List X) → length (map f xs) ≡ length xs
length_mapped f [] = refl
length_mapped f (x ∷ xs) = ap suc (length_mapped f xs)

rise_from : (used : List Item) (b : ℕ) (xs : List Item) → first_misplaced used (Some b) xs ≡ None → IsRisingFrom (λ (y : Item). y.pid) b xs
rise_from used b [] e = tt
rise_from used b (x ∷ xs) e =
    let h = placed_head used (Some b) x xs e in
    let a = and_parts (nat_lt b x.pid) (not (has_pid used x.pid) && not (has_name used x.name)) h.0 in
    (ltb-true b x.pid a.0, rise_from (used ++ x ∷ []) x.pid xs h.1)

rise : (used : List Item) (xs : List Item) → first_misplaced used None xs ≡ None → IsRising (λ (y : Item). y.pid) xs
rise used [] e = tt
rise used (x ∷ xs) e = rise_from (used ++ x ∷ []) x.pid xs (placed_head used None x xs e).1

objects_from : (b : ℕ) (os : List NamedObject) → IsRisingFrom (λ (y : Item). y.pid) b (object_items os)
    → IsRisingFrom (λ (o : ObjectParts). o.pid) b (map (λ o. o.object) os)
objects_from b [] h = tt
objects_from b (o ∷ os) h = (h.0, objects_from o.object.pid os h.1)

objects_rise : (os : List NamedObject) → IsRising (λ (y : Item). y.pid) (object_items os) → IsRising (λ (o : ObjectParts). o.pid) (map (λ o. o.object) os)
objects_rise [] h = tt
objects_rise (o ∷ os) h = objects_from o.object.pid os h

routines_from : (b : ℕ) (rs : List NamedRoutine) → IsRisingFrom (λ (y : Item). y.pid) b (routine_items rs)
    → IsRisingFrom (λ (r : RoutineParts). r.pid) b (map (λ r. r.routine) rs)
routines_from b [] h = tt
routines_from b (r ∷ rs) h = (h.0, routines_from r.routine.pid rs h.1)

routines_rise : (rs : List NamedRoutine) → IsRising (λ (y : Item). y.pid) (routine_items rs) → IsRising (λ (r : RoutineParts). r.pid) (map (λ r. r.routine) rs)
routines_rise [] h = tt
routines_rise (r ∷ rs) h = routines_from r.routine.pid rs h

object_pids : (os : List NamedObject) → AllByRecursion IsFitObject os → AllByRecursion (λ o. not (nat_lt (object_row o).pid max_pids) ≡ false) os
object_pids [] h = tt
object_pids (o ∷ os) h = (ap not (lt-ltb o.object.pid max_pids h.0.pid), object_pids os h.1)

routine_pids : (rs : List NamedRoutine) → AllByRecursion IsFitRoutine rs → AllByRecursion (λ r. not (nat_lt (routine_row r).pid max_pids) ≡ false) rs
routine_pids [] h = tt
routine_pids (r ∷ rs) h = (ap not (lt-ltb r.routine.pid max_pids h.0.limits.pid), routine_pids rs h.1)

are_pids : (rows : List ShapeRow) → AllByRecursion (λ (r : ShapeRow). not (nat_lt r.pid max_pids) ≡ false) rows
    → AllByRecursion (λ (r : ShapeRow). IsPid r.pid) rows
are_pids [] h = tt
are_pids (r ∷ rows) h = (ltb-true r.pid max_pids (not-false (nat_lt r.pid max_pids) h.0), are_pids rows h.1)

some_words : (os : List NamedObject) → AllByRecursion IsFitObject os → AllByRecursion (λ (o : ObjectParts). 0 < o.words) (map (λ o. o.object) os)
some_words [] h = tt
some_words (o ∷ os) h = (h.0.some, some_words os h.1)

abbrev pub HasMain : List ShapeRow → Type 0
HasMain rows = (row : ShapeRow) × Contains rows row × (row.name ≡ codes "main") × (row.shape ≡ shape.Routine 0 true)

main_shape : (s : Shape) → is_main_shape s ≡ true → s ≡ shape.Routine 0 true
main_shape (shape.Object words) e = absurd cc
main_shape (shape.Routine params value) e = let h = and_parts (params == 0) value e in let a = eqb-true params 0 h.0 in ap (λ n. shape.Routine n value) a ∙ ap
    (λ v. shape.Routine 0 v) h.1

pub main_found : (rows : List ShapeRow) → list_any is_main rows ≡ true → HasMain rows
main_found [] e = absurd cc
main_found (r ∷ rows) e = elim (cases_Bool (is_main r)) [
  | inl is ↦ let h = and_parts (bytes_eq r.name (codes "main")) (is_main_shape r.shape) is
      in (r, contains_head r rows, same_bytes r.name (codes "main") h.0, main_shape r.shape h.1)
  | inr misses ↦ let m = main_found rows (rw misses at e) in (m.0, Contains-append_right (r ∷ []) rows m.0 m.1, m.2, m.3)
]

-- a valid program
pub is_program : (os : List NamedObject) (rs : List NamedRoutine) (p : IlProgram) → AllByRecursion IsFitObject os → AllByRecursion IsFitRoutine rs
    → length rs ≤ max_routines → first_out_of_order os rs ≡ None → HasPartsOf os rs p
    → AllByRecursion (IsValid p.shapes) p.routines → list_any is_main p.shapes ≡ true → IsProgram p
is_program os rs p a b few e h valid main =
    let part = object_part os rs e in
    let len = length_permutation (all_rows os rs) p.shapes h.rows ∙ length-append (map object_row os) (map routine_row rs) in
    let lens = length_mapped object_row os in
    let lens' = length_mapped routine_row rs in
    let objects = ap length h.objects ∙ length_mapped (λ (o : NamedObject). o.object) os in
    let routines = ap length h.routines ∙ length_mapped (λ (r : NamedRoutine). r.routine) rs in
    record {
      objects = subst (IsRising (λ (o : ObjectParts). o.pid)) (sym h.objects) (objects_rise os (rise [] (object_items os) part.0));
      routines = subst (IsRising (λ (r : RoutineParts). r.pid)) (sym h.routines) (routines_rise rs (rise (object_items os) (routine_items rs) part.1));
      rows = h.rising;
      shapes = record {
        count = omega (arith, len, lens, lens', objects, routines);
        objects = subst (AllByRecursion (λ (o : ObjectParts). shape_at p.shapes o.pid ≡ Some (shape.Object o.words))) (sym h.objects)
            (object_shapes p.shapes os h.rising (object_rows_in os rs p.shapes h.rows));
        routines = subst (AllByRecursion (λ (r : RoutineParts). shape_at p.shapes r.pid ≡ Some (shape.Routine r.params r.value))) (sym h.routines)
            (routine_shapes p.shapes rs h.rising (routine_rows_in os rs p.shapes h.rows));
      };
      names = rows_names_once os rs p.shapes e h.rows;
      few = omega (arith, routines, few);
      pids = are_pids p.shapes (each_moved (λ (r : ShapeRow). not (nat_lt r.pid max_pids)) os rs p.shapes h.rows (object_pids os a) (routine_pids rs b));
      words = subst (AllByRecursion (λ (o : ObjectParts). 0 < o.words)) (sym h.objects) (some_words os a);
      each = valid;
      main = main_found p.shapes main;
    }

room_at : (p : Place) (os : List NamedObject) (rs : List NamedRoutine) → p ≡ Done → IsRoomAt p os rs → length rs ≤ max_routines
room_at p os rs e h = subst (λ q. IsRoomAt q os rs) e h

pub done_room : (f : Partial) → IsFitPartial f → f.place ≡ Done → length f.routines ≤ max_routines
done_room f h e = room_at f.place f.objects f.routines e h.room
