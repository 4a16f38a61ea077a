-- The rows that stay are exactly those of the objects and of the routines that stay, by counting.
use Rattle.std.proofs.Common.{◌≡◌, ℕ, suc, ◌+◌, ◌<◌, ◌≤◌, List, [], ◌∷◌, Bool, true, false, refl, ap, sym, ◌∙◌, arith, length, inl, inr}
use Rattle.std.specs.Prelude.{◌||◌, not, cond, Some, filter, if◌then◌else◌}
use Rattle.std.specs.List.{AllByRecursion}
use Rattle.std.proofs.lemmas.Bool.{cases_eq}
use Rattle.std.proofs.lemmas.Option.{none-some, same_Some}
use Rattle.il_core.specs.declared.program.IlProgram.{IlProgram}
use Rattle.il_core.specs.declared.shape.Shape.{Shape}
use Rattle.il_core.specs.declared.shape.Shape.TheVariants as shape
use Rattle.il_core.specs.declared.shape.ShapeRow.{ShapeRow}
use Rattle.il_core.specs.Object.{ObjectParts}
use Rattle.il_core.specs.Program.{found, shape_at}
use Rattle.il_core.specs.Routine.{RoutineParts}
use Rattle.il_core.specs.Valid.{IsProgram}
use Rattle.il_laws.specs.Edges.{one_if}
use Rattle.il_laws.specs.Reach.{is_object, stays}
use Rattle.il_core.proofs.Found.{found_here, found_there}
use Rattle.il_laws.proofs.Grown.{all_of, all_to}
use Rattle.il_laws.proofs.Kept.{all_both, filter_all, filter_pass, filter_rising, Up, rising_up}
use Rattle.il_laws.proofs.Shaped.{in_row}

abbrev counted : (ShapeRow → Bool) → List ShapeRow → ℕ
counted t [] = 0
counted t (row ∷ rows) = one_if (t row) + counted t rows

-- different elements with rows that pass a test are no more than such rows
module _ {X : Type 0} (number : X → ℕ) (t : ShapeRow → Bool) where
  record HasRow (rows : List ShapeRow) (x : X) : Type 0 where
    row : ShapeRow
    is : found (λ z. z.pid) (number x) rows ≡ Some row
    pass : t row ≡ true

  row_later : (z : ShapeRow) (rows : List ShapeRow) (x : X) → z.pid < number x → HasRow (z ∷ rows) x → HasRow rows x
  row_later z rows x lt h =
      record { row = h.row; is = sym (found_there (λ (r : ShapeRow). r.pid) (number x) z rows (λ e. absurd (omega arith))) ∙ h.is; pass = h.pass }

  rows_later : (z : ShapeRow) (rows : List ShapeRow) (xs : List X) → AllByRecursion (λ y. z.pid < number y) xs
      → AllByRecursion (HasRow (z ∷ rows)) xs → AllByRecursion (HasRow rows) xs
  rows_later z rows [] up h = tt
  rows_later z rows (x ∷ xs) up h = (row_later z rows x up.0 h.0, rows_later z rows xs up.1 h.1)

  all_higher : (n m : ℕ) (xs : List X) → n ≤ m → AllByRecursion (λ y. m < number y) xs → AllByRecursion (λ y. n < number y) xs
  all_higher n m [] le h = tt
  all_higher n m (x ∷ xs) le h = let lt = h.0 in (omega arith, all_higher n m xs le h.1)

  no_more : (rows : List ShapeRow) (xs : List X) → Up (λ z. z.pid) rows → Up number xs → AllByRecursion (HasRow rows) xs
      → length xs ≤ counted t rows
  no_more rows [] up ux h = omega arith
  no_more [] (x ∷ xs) up ux h = absurd (none-some h.0.row h.0.is)
  no_more (z ∷ rows) (x ∷ xs) up ux h =
      elim (cases_eq z.pid (number x)) [
        | inl same ↦ (let is : z ≡ h.0.row = same_Some z h.0.row (sym (found_here (λ (r : ShapeRow). r.pid) (number x) z rows same) ∙ h.0.is) in
            let one : one_if (t z) ≡ 1 = ap one_if (ap t is ∙ h.0.pass) in
            let rest = no_more rows xs up.1 ux.1 (rows_later z rows xs (all_higher z.pid (number x) xs (omega arith) ux.0) h.1) in
            omega arith)
        | inr ne ↦ (let here = sym (found_there (λ (r : ShapeRow). r.pid) (number x) z rows ne) ∙ h.0.is in
            let lt : z.pid < number x = all_of (λ (r : ShapeRow). r.pid) (λ k. z.pid < k) (number x) rows h.0.row up.0 here in
            let later = rows_later z rows xs (all_higher z.pid (number x) xs (omega arith) ux.0) h.1 in
            let rest = no_more rows (x ∷ xs) up.1 ux (row_later z rows x lt h.0, later) in
            omega arith)
      ]

module _ (keep : ℕ → Bool) where
  -- a routine's row whose PID is kept, and one whose PID isn't
  abbrev kept_row : ShapeRow → Bool
  kept_row row = if is_object row.shape then false else keep row.pid

  abbrev dead_row : ShapeRow → Bool
  dead_row row = if is_object row.shape then false else not (keep row.pid)

  one_kind : (b k : Bool) → one_if b + one_if (if b then false else k) + one_if (if b then false else not k) ≡ 1
  one_kind true k = refl
  one_kind false true = refl
  one_kind false false = refl

  kinds : (rows : List ShapeRow) → counted (λ row. is_object row.shape) rows + counted kept_row rows + counted dead_row rows ≡ length rows
  kinds [] = refl
  kinds (row ∷ rows) = let one = one_kind (is_object row.shape) (keep row.pid) in let rest = kinds rows in omega arith

  stay_if : (b k : Bool) (row : ShapeRow) (rows : List ShapeRow)
      → length (cond (b || k) (row ∷ rows) rows) ≡ one_if b + one_if (if b then false else k) + length rows
  stay_if true k row rows = omega arith
  stay_if false true row rows = omega arith
  stay_if false false row rows = omega arith

  stay_count : (rows : List ShapeRow) → length (filter (stays keep) rows) ≡ counted (λ row. is_object row.shape) rows + counted kept_row rows
  stay_count [] = refl
  stay_count (row ∷ rows) =
      let one = stay_if (is_object row.shape) (keep row.pid) row (filter (stays keep) rows) in
      let rest = stay_count rows in
      omega arith

  parts_if : (k : Bool) (r : RoutineParts) (xs ys : List RoutineParts) (n : ℕ) → length xs + length ys ≡ n
      → length (cond k (r ∷ xs) xs) + length (cond (not k) (r ∷ ys) ys) ≡ suc n
  parts_if true r xs ys n e = omega arith
  parts_if false r xs ys n e = omega arith

  parts : (rs : List RoutineParts) → length (filter (λ r. keep r.pid) rs) + length (filter (λ r. not (keep r.pid)) rs) ≡ length rs
  parts [] = refl
  parts (r ∷ rs) = parts_if (keep r.pid) r (filter (λ z. keep z.pid) rs) (filter (λ z. not (keep z.pid)) rs) (length rs) (parts rs)

  module _ (p : IlProgram) (valid : IsProgram p) where
    up_rows : Up (λ z. z.pid) p.shapes
    up_rows = rising_up (λ (z : ShapeRow). z.pid) p.shapes valid.rows

    abbrev Shaped : RoutineParts → Type 0
    Shaped r = shape_at p.shapes r.pid ≡ Some (shape.Routine r.params r.value)

    object_row : (o : ObjectParts) → shape_at p.shapes o.pid ≡ Some (shape.Object o.words)
        → HasRow (λ (z : ObjectParts). z.pid) (λ row. is_object row.shape) p.shapes o
    object_row o e = let f = in_row p.shapes o.pid (shape.Object o.words) e in record { row = f.row; is = f.is; pass = ap is_object f.shape }

    -- a routine of which a test of PIDs holds has a routine's row of which it holds
    routine_row : (test : ℕ → Bool) (r : RoutineParts) → (test r.pid ≡ true) × Shaped r
        → HasRow (λ (z : RoutineParts). z.pid) (λ row. if is_object row.shape then false else test row.pid) p.shapes r
    routine_row test r h =
        let f = in_row p.shapes r.pid (shape.Routine r.params r.value) h.1 in
        record {
          row = f.row;
          is = f.is;
          pass = ap (λ (s : Shape). if is_object s then false else test f.row.pid) f.shape ∙ ap test f.pid ∙ h.0;
        }

    routine_rows : (test : ℕ → Bool) → length (filter (λ r. test r.pid) p.routines)
        ≤ counted (λ row. if is_object row.shape then false else test row.pid) p.shapes
    routine_rows test =
        let rs = filter (λ r. test r.pid) p.routines in
        let both = all_both (λ (r : RoutineParts). test r.pid ≡ true) Shaped rs (filter_pass (λ r. test r.pid) p.routines)
        (filter_all (λ r. test r.pid) Shaped p.routines valid.shapes.routines) in
        no_more (λ (z : RoutineParts). z.pid) (λ row. if is_object row.shape then false else test row.pid) p.shapes rs up_rows
        (rising_up (λ (z : RoutineParts). z.pid) rs (filter_rising (λ r. test r.pid) (λ (z : RoutineParts). z.pid) p.routines valid.routines))
        (all_to (λ r. (test r.pid ≡ true) × Shaped r)
        (HasRow (λ (z : RoutineParts). z.pid) (λ row. if is_object row.shape then false else test row.pid) p.shapes) rs (routine_row test) both)

    pub count_left : length (filter (stays keep) p.shapes) ≡ length p.objects + length (filter (λ r. keep r.pid) p.routines)
    count_left =
        let objects = no_more (λ (z : ObjectParts). z.pid) (λ row. is_object row.shape) p.shapes p.objects up_rows
        (rising_up (λ (z : ObjectParts). z.pid) p.objects valid.objects)
        (all_to (λ (o : ObjectParts). shape_at p.shapes o.pid ≡ Some (shape.Object o.words))
        (HasRow (λ (z : ObjectParts). z.pid) (λ row. is_object row.shape) p.shapes) p.objects object_row valid.shapes.objects) in
        let live = routine_rows keep in
        let dead = routine_rows (λ x. not (keep x)) in
        let all = kinds p.shapes in
        let stay = stay_count p.shapes in
        let whole = parts p.routines in
        let old = valid.shapes.count in
        omega arith
