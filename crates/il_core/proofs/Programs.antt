-- What a valid program has: the routine of each call, and the words of each object that is named.
use Rattle.std.proofs.Common.{◌≡◌, ℕ, ◌<◌, List, [], ◌∷◌, map, Bool, true, false, refl, ap, subst, sym, ◌∙◌, arith, inl, inr}
use Rattle.std.specs.Prelude.{◌⊎◌, Option, Some, None}
use Rattle.std.specs.List.{AllByRecursion}
use Rattle.std.proofs.lemmas.Bool.{false≢true}
use Rattle.std.proofs.lemmas.List.{length-map}
use Rattle.std.proofs.lemmas.Option.{none-some, same_Some}
use Rattle.il_core.specs.declared.shape.ShapeRow.{ShapeRow}
use Rattle.il_core.specs.declared.shape.Shape.{Shape}
use Rattle.il_core.specs.declared.shape.Shape.TheVariants as shape
use Rattle.il_core.specs.declared.program.IlProgram.{IlProgram}
use Rattle.il_core.specs.Object.{ObjectParts}
use Rattle.il_core.specs.Routine.{RoutineParts}
use Rattle.il_core.specs.Program.{found, routine_at, shape_of_row, shape_at, words_in, words_of}
use Rattle.il_core.specs.Valid.{IsProgram, IsValid, IsObjectShape, IsRoutineShape, NamesObject}
use Rattle.il_core.specs.Limits.{IsPid, max_pids}
use Rattle.list_laws.proofs.Rising.{In, Covers, covers}
use Rattle.il_core.proofs.Found.{in_found, found_all, found_in, rising}

row_of : (rows : List ShapeRow) (q : ℕ) (s : Shape) (o : Option ShapeRow) → found (λ row. row.pid) q rows ≡ o → shape_of_row o ≡ Some s
    → In q (map (λ row. row.pid) rows)
row_of rows q s None is e = absurd (none-some s e)
row_of rows q s (Some row) is e = found_in (λ row. row.pid) q rows row is

-- a PID with a shape is the PID of a row
shaped : (rows : List ShapeRow) (q : ℕ) (s : Shape) → shape_at rows q ≡ Some s → In q (map (λ row. row.pid) rows)
shaped rows q s e = row_of rows q s (found (λ row. row.pid) q rows) refl e

pub record ShapedAs {X : Type 0} (rows : List ShapeRow) (shape_of : X → Shape) (q : ℕ) : Type 0 where
  pub one : X
  pub is : shape_at rows q ≡ Some (shape_of one)

in_shaped : {X : Type 0} (rows : List ShapeRow) (number : X → ℕ) (shape_of : X → Shape) (q : ℕ) (xs : List X)
    → AllByRecursion (λ x. shape_at rows (number x) ≡ Some (shape_of x)) xs → In q (map number xs) → ShapedAs rows shape_of q
in_shaped rows number shape_of q [] all h = absurd h
in_shaped rows number shape_of q (x ∷ xs) all (inl e) = record { one = x; is = subst (λ (n : ℕ). shape_at rows n ≡ Some (shape_of x)) (sym e) all.0 }
in_shaped rows number shape_of q (x ∷ xs) all (inr h) = in_shaped rows number shape_of q xs all.1 h

abbrev is_routine : Shape → Bool
is_routine (shape.Object w) = false
is_routine (shape.Routine a b) = true

unlike : (w a : ℕ) (b : Bool) → shape.Object w ≡ shape.Routine a b → ⊥
unlike w a b e = false≢true (ap is_routine e)

abbrev object_shape : ObjectParts → Shape
object_shape o = shape.Object o.words

abbrev routine_shape : RoutineParts → Shape
routine_shape r = shape.Routine r.params r.value

module _ (p : IlProgram) (valid : IsProgram p) where
  -- every row is an object's or a routine's
  rows_covered : Covers (map (λ row. row.pid) p.shapes) (map (λ o. o.pid) p.objects) (map (λ r. r.pid) p.routines)
  rows_covered = covers _ _ _
      (rising (λ row. row.pid) p.shapes valid.rows)
      (rising (λ o. o.pid) p.objects valid.objects)
      (rising (λ r. r.pid) p.routines valid.routines)
      (record {
        by = λ q h. let s : ShapedAs p.shapes object_shape q = in_shaped p.shapes (λ o. o.pid) object_shape q p.objects valid.shapes.objects
            h in shaped p.shapes q (object_shape s.one) s.is;
      })
      (record {
        by = λ q h. let s : ShapedAs p.shapes routine_shape q = in_shaped p.shapes (λ r. r.pid) routine_shape q p.routines
            valid.shapes.routines h in shaped p.shapes q (routine_shape s.one) s.is;
      })
      (record {
        by = λ q h h1.
            let s : ShapedAs p.shapes object_shape q = in_shaped p.shapes (λ o. o.pid) object_shape q p.objects valid.shapes.objects h in
            let t : ShapedAs p.shapes routine_shape q = in_shaped p.shapes (λ r. r.pid) routine_shape q p.routines valid.shapes.routines h1 in
            let e : Some (shape.Object s.one.words) ≡ Some (shape.Routine t.one.params t.one.value) = sym s.is ∙ t.is in
            absurd (unlike _ _ _ (same_Some _ _ e));
      })

  named_by : (q : ℕ) (s : Shape) → shape_at p.shapes q ≡ Some s → In q (map (λ o. o.pid) p.objects) ⊎ In q (map (λ r. r.pid) p.routines)
  named_by q s e = rows_covered.all
      (omega (arith, valid.shapes.count, length-map p.shapes (λ row. row.pid), length-map p.objects (λ o. o.pid), length-map p.routines (λ r. r.pid)))
      q (shaped p.shapes q s e)

  -- the routine of a call that fits
  pub record Callee (q n : ℕ) (v : Bool) : Type 0 where
    pub routine : RoutineParts
    pub is : routine_at p.routines q ≡ Some routine
    pub params : routine.params ≡ n
    pub value : routine.value ≡ v
    pub is_valid : IsValid p.shapes routine

  pub callee_of : (q n : ℕ) (v : Bool) → shape_at p.shapes q ≡ Some (shape.Routine n v) → Callee q n v
  callee_of q n v e =
      elim (named_by q (shape.Routine n v) e) [
        | inl h ↦ (
            let s : ShapedAs p.shapes object_shape q = in_shaped p.shapes (λ o. o.pid) object_shape q p.objects valid.shapes.objects h in
            let e1 : Some (shape.Object s.one.words) ≡ Some (shape.Routine n v) = sym s.is ∙ e in
            absurd (unlike _ _ _ (same_Some _ _ e1)))
        | inr h ↦ (
            let f = in_found (λ (r : RoutineParts). r.pid) q p.routines h in
            let here = found_all (λ (r : RoutineParts). r.pid) (λ r. shape_at p.shapes r.pid ≡ Some (routine_shape r)) q p.routines f.one
            valid.shapes.routines f.is in
            let each = found_all (λ (r : RoutineParts). r.pid) (IsValid p.shapes) q p.routines f.one valid.each f.is in
            let same : shape.Routine f.one.params f.one.value ≡ shape.Routine n v =
            same_Some _ _ (sym here.0 ∙ ap (λ (k : ℕ). shape_at p.shapes k) here.1 ∙ e) in
            record { routine = f.one; is = f.is; params = cc; value = cc; is_valid = each.0 })
      ]

  by_object : (q : ℕ) (o : Option Shape) → shape_at p.shapes q ≡ o → IsObjectShape o → 0 < words_of p.objects q
  by_object q (Some (shape.Object w)) e h =
      elim (named_by q (shape.Object w) e) [
        | inl h ↦ (
            let f = in_found (λ (o : ObjectParts). o.pid) q p.objects h in
            let some = found_all (λ (o : ObjectParts). o.pid) (λ o. 0 < o.words) q p.objects f.one valid.words f.is in
            subst (λ (o : Option ObjectParts). 0 < words_in o) (sym f.is) some.0)
        | inr h ↦ (
            let s : ShapedAs p.shapes routine_shape q = in_shaped p.shapes (λ r. r.pid) routine_shape q p.routines valid.shapes.routines h in
            let e1 : Some (shape.Object w) ≡ Some (shape.Routine s.one.params s.one.value) = sym e ∙ s.is in
            absurd (unlike _ _ _ (same_Some _ _ e1)))
      ]
  by_object q (Some (shape.Routine a b)) e h = absurd h
  by_object q None e h = absurd h

  -- an object that is named has a word
  pub object_of : (q : ℕ) → NamesObject p.shapes q → 0 < words_of p.objects q
  object_of q h = by_object q (shape_at p.shapes q) refl h

  by_shape : (q n : ℕ) (v : Bool) (o : Option Shape) → shape_at p.shapes q ≡ o → IsRoutineShape o n v → Callee q n v
  by_shape q n v (Some (shape.Routine a b)) e h = callee_of q n v (e ∙ ap Some (λ i. shape.Routine (h.0 i) (h.1 i)))
  by_shape q n v (Some (shape.Object w)) e h = absurd h
  by_shape q n v None e h = absurd h

  pub callee_fits : (q n : ℕ) (v : Bool) → IsRoutineShape (shape_at p.shapes q) n v → Callee q n v
  callee_fits q n v h = by_shape q n v (shape_at p.shapes q) refl h

  -- a routine's PID is in its range
  pub pid_small : (q : ℕ) (r : RoutineParts) → routine_at p.routines q ≡ Some r → q < max_pids
  pid_small q r is =
      let here = found_all (λ (r : RoutineParts). r.pid) (λ r. shape_at p.shapes r.pid ≡ Some (routine_shape r)) q p.routines r valid.shapes.routines
      is in
      let row = in_found (λ (row : ShapeRow). row.pid) q p.shapes
      (shaped p.shapes q (routine_shape r) (sym (ap (λ (k : ℕ). shape_at p.shapes k) here.1) ∙ here.0)) in
      let pid = found_all (λ (row : ShapeRow). row.pid) (λ row. IsPid row.pid) q p.shapes row.one valid.pids row.is in
      subst (λ (n : ℕ). n < max_pids) pid.1 pid.0

  -- an object's PID is in its range
  object_small : (o : ObjectParts) → shape_at p.shapes o.pid ≡ Some (object_shape o) → o.pid < max_pids
  object_small o is =
      let row = in_found (λ (row : ShapeRow). row.pid) o.pid p.shapes (shaped p.shapes o.pid (object_shape o) is) in
      let pid = found_all (λ (row : ShapeRow). row.pid) (λ row. IsPid row.pid) o.pid p.shapes row.one valid.pids row.is in
      subst (λ (n : ℕ). n < max_pids) pid.1 pid.0

  all_small : (os : List ObjectParts) → AllByRecursion (λ o. shape_at p.shapes o.pid ≡ Some (object_shape o)) os
      → AllByRecursion (λ o. o.pid < max_pids) os
  all_small [] h = tt
  all_small (o ∷ os) h = (object_small o h.0, all_small os h.1)

  pub objects_small : AllByRecursion (λ o. o.pid < max_pids) p.objects
  objects_small = all_small p.objects valid.shapes.objects

  pub routine_valid : (x : ℕ) (r : RoutineParts) → routine_at p.routines x ≡ Some r → IsValid p.shapes r
  routine_valid x r e = (found_all (λ z. z.pid) (IsValid p.shapes) x p.routines r valid.each e).0

  pub shape_is : (x : ℕ) (r : RoutineParts) → routine_at p.routines x ≡ Some r → shape_at p.shapes x ≡ Some (routine_shape r)
  shape_is x r e =
      let both = found_all (λ z. z.pid) (λ z. shape_at p.shapes z.pid ≡ Some (routine_shape z)) x p.routines r valid.shapes.routines e in
      ap (λ (y : ℕ). shape_at p.shapes y) (sym both.1) ∙ both.0
