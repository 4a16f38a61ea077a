-- The text of a valid program is read as that program.
use Rattle.std.proofs.Common.{◌≡◌, ◌≢◌, ℕ, ◌+◌, ◌<◌, true, false, List, [], ◌∷◌, ◌++◌, Option, Some, None, length, map, refl, sym, ◌∙◌, ap, subst}
use Rattle.std.proofs.Common.{append_assoc, length-append, arith, inl, inr}
use Rattle.std.specs.Prelude.{flat_map, codes}
use Rattle.std.specs.List.{AllByRecursion, list_any}
use Rattle.std.proofs.lemmas.Bool.{cases_Bool, true≢false}
use Rattle.std.proofs.lemmas.List.Sorted.{length_permutation}
use Rattle.hlo_num.specs.Name.{IsName}
use Rattle.il_core.specs.declared.shape.ShapeRow.{ShapeRow}
use Rattle.il_core.specs.declared.shape.Shape.TheVariants as shape
use Rattle.il_core.specs.declared.program.IlProgram.{IlProgram}
use Rattle.il_core.specs.Limits.{IsPid, IsWithinLimits}
use Rattle.il_core.specs.Object.{ObjectParts, IsTrimmed}
use Rattle.il_core.specs.Program.{name_at, shape_at}
use Rattle.il_core.specs.Ranges.{IsObjectOfWords, IsRoutineOfWords}
use Rattle.il_core.specs.Routine.{RoutineParts}
use Rattle.il_core.specs.Text as text
use Rattle.il_core.specs.Valid.{IsValid, IsProgram}
use Rattle.il_check.specs.declared.flaw.Flaw.{Flaw}
use Rattle.il_check.proofs.ValidRoutines.{tells_valid}
use Rattle.il_text.specs.declared.fault.IlFault.{IlFault}
use Rattle.il_text.specs.declared.fault.IlFault.TheVariants.{At, Memory}
use Rattle.il_text.specs.declared.fault.IlKind.TheVariants as kind
use Rattle.il_text.specs.declared.partial.Partial.{Partial}
use Rattle.il_text.specs.declared.partial.Place.TheVariants.{Done}
use Rattle.il_text.specs.declared.line.Line.TheVariants as line
use Rattle.il_text.specs.declared.line.NamedObject.{NamedObject}
use Rattle.il_text.specs.declared.line.NamedRoutine.{NamedRoutine}
use Rattle.il_text.specs.Assembled.{object_row, routine_row, all_rows, HasPartsOf}
use Rattle.il_text.specs.Checked.{IsFirstFlawed, is_main}
use Rattle.il_text.specs.Faults.{IsWhole}
use Rattle.il_text.specs.FitPartials.{IsFitRoutine}
use Rattle.il_text.specs.Partials.{routine_lines, inner_lines, lines_of}
use Rattle.il_text.specs.Lines.{IsFitObject}
use Rattle.il_text.specs.Order.{Item, object_item, object_items, routine_item, routine_items, first_misplaced}
use Rattle.il_text.specs.ReadFaults.{IsOrderFault, IsCheckFault}
use Rattle.il_text.specs.Texts.{lines_text}
use Rattle.il_text.specs.Whole.{IsTextOf, IsTyped}
use Rattle.il_text.proofs.Programs.{length_mapped}
use Rattle.il_text.proofs.ProgramText.{text_append, routine_text}
use Rattle.il_text.proofs.SameRows.{all_through, all_append, all_each, all_there, each_in, all_moved, rise_through, found_each, IsRowOf, row_told, same_rows}
use Rattle.il_text.proofs.InOrder.{IsNamed, Differ, in_order}

abbrev named_object : List ShapeRow → ObjectParts → NamedObject
named_object rows o = record { name = name_at rows o.pid; object = o }

abbrev named_routine : List ShapeRow → RoutineParts → NamedRoutine
named_routine rows r = record { name = name_at rows r.pid; routine = r }

abbrev objects_of : IlProgram → List NamedObject
objects_of p = map (named_object p.shapes) p.objects

abbrev routines_of : IlProgram → List NamedRoutine
routines_of p = map (named_routine p.shapes) p.routines

-- the partial program behind the text of a program
abbrev pub partial_of : IlProgram → Partial
partial_of p = record { objects = objects_of p; routines = routines_of p; place = Done }

-- Its text.

objects_text : (rows : List ShapeRow) (os : List ObjectParts)
    → lines_text (map (λ o. line.Object o) (map (named_object rows) os)) ≡ flat_map (λ (o : ObjectParts). text.line (text.object_parts (name_at rows o.pid) o))
    os
objects_text rows [] = refl
objects_text rows (o ∷ os) = ap (λ bs. text.line (text.object_parts (name_at rows o.pid) o) ++ bs) (objects_text rows os)

routines_text : (rows : List ShapeRow) (rs : List RoutineParts) → lines_text (flat_map routine_lines (map (named_routine rows) rs)) ≡ text.routines_text rows rs
routines_text rows [] = refl
routines_text rows (r ∷ rs) =
    text_append (routine_lines (named_routine rows r)) (flat_map routine_lines (map (named_routine rows) rs))
    ∙ ap (λ bs. bs ++ lines_text (flat_map routine_lines (map (named_routine rows) rs))) (routine_text (named_routine rows r))
    ∙ ap (λ bs. text.routine_text (name_at rows r.pid) r ++ bs) (routines_text rows rs)

whole_text : (p : IlProgram) → lines_text (lines_of Done (objects_of p) (routines_of p)) ≡ text.text p
whole_text p =
    let first : List ℕ = text.line (codes "hlo-il" ∷ codes "1" ∷ []) in
    let objects : List ℕ = flat_map (λ (o : ObjectParts). text.line (text.object_parts (name_at p.shapes o.pid) o)) p.objects in
    ap (λ bs. first ++ bs)
    (text_append (inner_lines (objects_of p) (routines_of p)) (line.Done ∷ [])
    ∙ ap (λ bs. bs ++ text.done_text) (text_append (map (λ o. line.Object o) (objects_of p)) (flat_map routine_lines (routines_of p))
    ∙ ap (λ bs. bs ++ lines_text (flat_map routine_lines (routines_of p))) (objects_text p.shapes p.objects)
    ∙ ap (λ bs. objects ++ bs) (routines_text p.shapes p.routines)))
    ∙ sym (append_assoc first (objects ++ text.routines_text p.shapes p.routines) text.done_text)
    ∙ ap (λ bs. bs ++ text.done_text) (sym (append_assoc first objects (text.routines_text p.shapes p.routines)))

-- Its rows.

object_rows : (rows : List ShapeRow) (os : List ObjectParts) → AllByRecursion (λ o. shape_at rows o.pid ≡ Some (shape.Object o.words)) os
    → AllByRecursion (λ o. IsRowOf rows (object_row (named_object rows o))) os
object_rows rows os h = all_each (λ o. shape_at rows o.pid ≡ Some (shape.Object o.words)) (λ o. IsRowOf rows (object_row (named_object rows o))) os
    (λ o e. row_told rows o.pid (shape.Object o.words) e) h

routine_rows : (rows : List ShapeRow) (rs : List RoutineParts) → AllByRecursion (λ r. shape_at rows r.pid ≡ Some (shape.Routine r.params r.value)) rs
    → AllByRecursion (λ r. IsRowOf rows (routine_row (named_routine rows r))) rs
routine_rows rows rs h = all_each (λ r. shape_at rows r.pid ≡ Some (shape.Routine r.params r.value)) (λ r. IsRowOf rows (routine_row (named_routine rows r))) rs
    (λ r e. row_told rows r.pid (shape.Routine r.params r.value) e) h

-- It is within the limits of the language.

fit_objects : (rows : List ShapeRow) (os : List ObjectParts) → AllByRecursion (λ row. IsName row.name) rows → AllByRecursion (λ row. IsPid row.pid) rows
    → AllByRecursion (λ o. IsRowOf rows (object_row (named_object rows o))) os → AllByRecursion IsObjectOfWords os → AllByRecursion (λ o. 0 < o.words) os
    → AllByRecursion (λ o. IsTrimmed o.words o.init) os
    → AllByRecursion IsFitObject (map (named_object rows) os)
fit_objects rows [] names pids there words some trimmed = tt
fit_objects rows (o ∷ os) names pids there words some trimmed =
    let name = found_each (λ row. IsName row.name) o.pid rows (object_row (named_object rows o)) names there.0 in
    let pid = found_each (λ row. IsPid row.pid) o.pid rows (object_row (named_object rows o)) pids there.0 in (
      record { name = name; pid = pid; words = words.0.words; some = some.0; trimmed = trimmed.0; init = words.0.init },
      fit_objects rows os names pids there.1
          words.1 some.1 trimmed.1,
    )

fit_routines : (rows : List ShapeRow) (rs : List RoutineParts) → AllByRecursion (λ row. IsName row.name) rows
    → AllByRecursion (λ r. IsRowOf rows (routine_row (named_routine rows r))) rs → AllByRecursion IsWithinLimits rs → AllByRecursion IsRoutineOfWords rs
    → AllByRecursion IsFitRoutine (map (named_routine rows) rs)
fit_routines rows [] names there limits words = tt
fit_routines rows (r ∷ rs) names there limits words =
    let name = found_each (λ row. IsName row.name) r.pid rows (routine_row (named_routine rows r)) names there.0 in
    (record { name = name; limits = limits.0; range = words.0 }, fit_routines rows rs names there.1 limits.1 words.1)

-- the whole text is that of its partial program
pub whole_partial : (b : List ℕ) (p : IlProgram) → IsTextOf b p → IsWhole b (partial_of p)
whole_partial b p h = record {
  fit = record {
    objects = fit_objects p.shapes p.objects h.typed.names h.valid.pids (object_rows p.shapes p.objects h.valid.shapes.objects) h.typed.numbers.objects
        h.valid.words h.typed.objects;
    routines = fit_routines p.shapes p.routines h.typed.names (routine_rows p.shapes p.routines h.valid.shapes.routines) h.typed.routines
        h.typed.numbers.routines;
    place = tt;
    room = omega (arith, length_mapped (named_routine p.shapes) p.routines, h.valid.few);
  };
  done = refl;
  text = h.text ∙ sym (whole_text p);
}

-- It is in order.

named_items : (rows : List ShapeRow) (os : List ObjectParts) → AllByRecursion (λ o. IsRowOf rows (object_row (named_object rows o))) os
    → AllByRecursion (IsNamed rows) (object_items (map (named_object rows) os))
named_items rows [] there = tt
named_items rows (o ∷ os) there = (record { row = object_row (named_object rows o); there = there.0; name = refl }, named_items rows os there.1)

named_routines : (rows : List ShapeRow) (rs : List RoutineParts) → AllByRecursion (λ r. IsRowOf rows (routine_row (named_routine rows r))) rs
    → AllByRecursion (IsNamed rows) (routine_items (map (named_routine rows) rs))
named_routines rows [] there = tt
named_routines rows (r ∷ rs) there = (record { row = routine_row (named_routine rows r); there = there.0; name = refl }, named_routines rows rs there.1)

two_shapes : (rows : List ShapeRow) (o : ObjectParts) (r : RoutineParts) → shape_at rows o.pid ≡ Some (shape.Object o.words)
    → shape_at rows r.pid ≡ Some (shape.Routine r.params r.value) → o.pid ≢ r.pid
two_shapes rows o r e f same = let s : Some (shape.Object o.words) ≡ Some (shape.Routine r.params r.value) = sym e ∙ ap (λ n. shape_at rows n) same ∙ f in cc s

objects_differ : (rows : List ShapeRow) (os : List ObjectParts) (r : RoutineParts) → AllByRecursion (λ o. shape_at rows o.pid ≡ Some (shape.Object o.words)) os
    → shape_at rows r.pid ≡ Some (shape.Routine r.params r.value)
    → Differ (object_items (map (named_object rows) os)) (routine_item (named_routine rows r))
objects_differ rows [] r h f = tt
objects_differ rows (o ∷ os) r h f = (two_shapes rows o r h.0 f, objects_differ rows os r h.1 f)

all_differ : (rows : List ShapeRow) (os : List ObjectParts) (rs : List RoutineParts)
    → AllByRecursion (λ o. shape_at rows o.pid ≡ Some (shape.Object o.words)) os
    → AllByRecursion (λ r. shape_at rows r.pid ≡ Some (shape.Routine r.params r.value)) rs
    → AllByRecursion (Differ (object_items (map (named_object rows) os))) (routine_items (map (named_routine rows) rs))
all_differ rows os [] h k = tt
all_differ rows os (r ∷ rs) h k = (objects_differ rows os r h k.0, all_differ rows os rs h k.1)

none_used : (xs : List Item) → AllByRecursion (Differ []) xs
none_used [] = tt
none_used (x ∷ xs) = (tt, none_used xs)

objects_in_order : (p : IlProgram) → IsProgram p → first_misplaced [] None (object_items (objects_of p)) ≡ None
objects_in_order p h =
    in_order p.shapes [] (object_items (objects_of p)) h.names tt (named_items p.shapes p.objects (object_rows p.shapes p.objects h.shapes.objects))
    (none_used (object_items (objects_of p)))
    (rise_through object_item (λ (y : Item). y.pid) (objects_of p)
    (rise_through (named_object p.shapes) (λ (o : NamedObject). o.object.pid) p.objects h.objects))

routines_in_order : (p : IlProgram) → IsProgram p → first_misplaced (object_items (objects_of p)) None (routine_items (routines_of p)) ≡ None
routines_in_order p h =
    in_order p.shapes (object_items (objects_of p)) (routine_items (routines_of p)) h.names
    (named_items p.shapes p.objects (object_rows p.shapes p.objects h.shapes.objects))
    (named_routines p.shapes p.routines (routine_rows p.shapes p.routines h.shapes.routines))
    (all_differ p.shapes p.objects p.routines h.shapes.objects h.shapes.routines)
    (rise_through routine_item (λ (y : Item). y.pid) (routines_of p)
    (rise_through (named_routine p.shapes) (λ (r : NamedRoutine). r.routine.pid) p.routines h.routines))

no_place : (o : Option ℕ) (k : ℕ) → o ≡ None → o ≡ Some k → ⊥
no_place o k e f = let s : None ≡ Some k = sym e ∙ f in cc s

order_at : (p : IlProgram) (e : IlFault) → IsProgram p → IsOrderFault (objects_of p) (routines_of p) e → e ≡ Memory
order_at p (At n kind.Order) h f = absurd (elim f.1 [
  | inl a ↦ no_place (first_misplaced [] None (object_items (objects_of p))) f.0 (objects_in_order p h) a.0
  | inr a ↦ no_place (first_misplaced (object_items (objects_of p)) None (routine_items (routines_of p))) f.0 (routines_in_order p h) a.1
])
order_at p (At n kind.Line) h f = absurd f
order_at p (At n (kind.Invalid flaw)) h f = absurd f
order_at p (At n kind.NoMain) h f = absurd f
order_at p Memory h f = refl

-- no fault in its order
pub order_memory : (p : IlProgram) (g : Partial) (e : IlFault) → IsProgram p → g ≡ partial_of p → IsOrderFault g.objects g.routines e → e ≡ Memory
order_memory p g e h same f = order_at p e h (subst (λ (x : Partial). IsOrderFault x.objects x.routines e) same f)

-- Its parts make it.

objects_back : (rows : List ShapeRow) (os : List ObjectParts) → map (λ (o : NamedObject). o.object) (map (named_object rows) os) ≡ os
objects_back rows [] = refl
objects_back rows (o ∷ os) = ap (λ l. o ∷ l) (objects_back rows os)

routines_back : (rows : List ShapeRow) (rs : List RoutineParts) → map (λ (r : NamedRoutine). r.routine) (map (named_routine rows) rs) ≡ rs
routines_back rows [] = refl
routines_back rows (r ∷ rs) = ap (λ l. r ∷ l) (routines_back rows rs)

all_found : (p : IlProgram) → IsProgram p → AllByRecursion (IsRowOf p.shapes) (all_rows (objects_of p) (routines_of p))
all_found p h = all_append (IsRowOf p.shapes) (map object_row (objects_of p)) (map routine_row (routines_of p))
    (all_through object_row (IsRowOf p.shapes) (objects_of p) (all_through (named_object p.shapes) (λ o. IsRowOf p.shapes (object_row o)) p.objects
    (object_rows p.shapes p.objects h.shapes.objects)))
    (all_through routine_row (IsRowOf p.shapes) (routines_of p) (all_through (named_routine p.shapes) (λ r. IsRowOf p.shapes (routine_row r)) p.routines
    (routine_rows p.shapes p.routines h.shapes.routines)))

shapes_back : (p q : IlProgram) → IsProgram p → HasPartsOf (objects_of p) (routines_of p) q → q.shapes ≡ p.shapes
shapes_back p q h parts =
    let len = length_permutation (all_rows (objects_of p) (routines_of p)) q.shapes parts.rows ∙ length-append (map object_row (objects_of p))
    (map routine_row (routines_of p)) in
    let a = length_mapped object_row (objects_of p) ∙ length_mapped (named_object p.shapes) p.objects in
    let b = length_mapped routine_row (routines_of p) ∙ length_mapped (named_routine p.shapes) p.routines in
    same_rows q.shapes p.shapes parts.rising h.rows (all_moved (IsRowOf p.shapes) (all_rows (objects_of p) (routines_of p)) q.shapes parts.rows (all_found p h))
    (omega (arith, len, a, b, h.shapes.count))

parts_same : (p q : IlProgram) → q.shapes ≡ p.shapes → q.objects ≡ p.objects → q.routines ≡ p.routines → q ≡ p
parts_same p q e f g =
    ap (λ s. let x : IlProgram = record { shapes = s; objects = q.objects; routines = q.routines } in x) e
    ∙ ap (λ s. let x : IlProgram = record { shapes = p.shapes; objects = s; routines = q.routines } in x) f
    ∙ ap (λ s. let x : IlProgram = record { shapes = p.shapes; objects = p.objects; routines = s } in x) g

-- the program of its parts is this one
pub same_program : (p q : IlProgram) (g : Partial) → IsProgram p → g ≡ partial_of p → HasPartsOf g.objects g.routines q → q ≡ p
same_program p q g h same made =
    let parts = subst (λ (x : Partial). HasPartsOf x.objects x.routines q) same made in
    parts_same p q (shapes_back p q h parts) (parts.objects ∙ objects_back p.shapes p.objects) (parts.routines ∙ routines_back p.shapes p.routines)

-- It has no flaw.

no_flaw : (rows : List ShapeRow) (rs : List RoutineParts) (first at : ℕ) (flaw : Flaw) → AllByRecursion (IsValid rows) rs → IsFirstFlawed rows rs first at flaw
    → ⊥
no_flaw rows rs first at flaw h f = true≢false ((tells_valid rows f.routine (Some flaw) f.flaw).1
    (all_there (IsValid rows) f.before f.routine f.behind (subst (AllByRecursion (IsValid rows)) f.parts h)))

none_main : (rows : List ShapeRow) → list_any is_main rows ≡ false → AllByRecursion (λ (row : ShapeRow). is_main row ≡ false) rows
none_main [] e = tt
none_main (r ∷ rows) e = elim (cases_Bool (is_main r)) [
  | inl is ↦ let s : true ≡ false = rw is at e in absurd (cc s)
  | inr misses ↦ let s : list_any is_main rows ≡ false = rw misses at e in (misses, none_main rows s)
]

main_row : (row : ShapeRow) → row.name ≡ codes "main" → row.shape ≡ shape.Routine 0 true → is_main row ≡ true
main_row row e f =
    ap (λ name. let r : ShapeRow = record { pid = row.pid; name = name; shape = row.shape } in is_main r) e
    ∙ ap (λ s. let r : ShapeRow = record { pid = row.pid; name = codes "main"; shape = s } in is_main r) f

has_main : (p : IlProgram) → IsProgram p → list_any is_main p.shapes ≡ false → ⊥
has_main p h e =
    let misses = each_in (λ (row : ShapeRow). is_main row ≡ false) p.shapes h.main.0 h.main.1.0 (none_main p.shapes e) h.main.1.1 h.main.1.2 in
    true≢false (sym (main_row h.main.0 h.main.2 h.main.3) ∙ misses)

check_at : (p : IlProgram) (e : IlFault) → IsProgram p → IsCheckFault p e → e ≡ Memory
check_at p (At n (kind.Invalid flaw)) h f = absurd (no_flaw p.shapes p.routines (length p.objects + 2) f.0 flaw h.each f.1)
check_at p (At n kind.NoMain) h f = absurd (has_main p h f.main)
check_at p (At n kind.Line) h f = absurd f
check_at p (At n kind.Order) h f = absurd f
check_at p Memory h f = absurd f

-- no fault in its routines
pub check_memory : (p q : IlProgram) (g : Partial) (e : IlFault) → IsProgram p → g ≡ partial_of p → HasPartsOf g.objects g.routines q → IsCheckFault q e
    → e ≡ Memory
check_memory p q g e h same made f = check_at p e h (subst (λ (x : IlProgram). IsCheckFault x e) (same_program p q g h same made) f)

-- What its types hold.

-- a program of parts within the limits of the language
pub is_typed : (os : List NamedObject) (rs : List NamedRoutine) (p : IlProgram) → AllByRecursion IsFitObject os → AllByRecursion IsFitRoutine rs
    → HasPartsOf os rs p → IsTyped p
is_typed os rs p a b h = record {
  names = all_moved (λ row. IsName row.name) (all_rows os rs) p.shapes h.rows (all_append (λ row. IsName row.name) (map object_row os) (map routine_row rs)
      (all_through object_row (λ row. IsName row.name) os (all_each IsFitObject (λ o. IsName o.name) os (λ o f. f.name) a))
      (all_through routine_row (λ row. IsName row.name) rs (all_each IsFitRoutine (λ r. IsName r.name) rs (λ r f. f.name) b)));
  numbers = record {
    objects = subst (AllByRecursion IsObjectOfWords) (sym h.objects)
        (all_through (λ (o : NamedObject). o.object) IsObjectOfWords os
        (all_each IsFitObject (λ o. IsObjectOfWords o.object) os (λ o f. record { words = f.words; init = f.init }) a));
    routines = subst (AllByRecursion IsRoutineOfWords) (sym h.routines)
        (all_through (λ (r : NamedRoutine). r.routine) IsRoutineOfWords rs (all_each IsFitRoutine (λ r. IsRoutineOfWords r.routine) rs (λ r f. f.range) b));
  };
  objects = subst (AllByRecursion (λ (o : ObjectParts). IsTrimmed o.words o.init)) (sym h.objects)
      (all_through (λ (o : NamedObject). o.object) (λ (o : ObjectParts). IsTrimmed o.words o.init) os
      (all_each IsFitObject (λ o. IsTrimmed o.object.words o.object.init) os (λ o f. f.trimmed) a));
  routines = subst (AllByRecursion IsWithinLimits) (sym h.routines)
      (all_through (λ (r : NamedRoutine). r.routine) IsWithinLimits rs (all_each IsFitRoutine (λ r. IsWithinLimits r.routine) rs (λ r f. f.limits) b));
}
