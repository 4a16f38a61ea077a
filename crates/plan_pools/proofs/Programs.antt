-- A valid program's routines are those of its rows, in order.
use Rattle.std.proofs.Common.{◌≡◌, ◌≤◌, ◌<◌, ℕ, Bool, true, false, nat_eq, List, [], ◌∷◌, map, Some, refl, sym, ap, subst, arith, inl, inr, ◌∙◌}
use Rattle.std.specs.Prelude.{if◌then◌else◌}
use Rattle.std.specs.List.{AllByRecursion, IsDistinct}
use Rattle.std.proofs.lemmas.Bool.{cases_eq}
use Rattle.std.proofs.lemmas.Option.{same_Some}
use Rattle.list_laws.proofs.Entries.{other_number}
use Rattle.list_laws.proofs.Rising.{Above, AllIn, In, Rises}
use Rattle.il_core.specs.Program.{shape_at, shape_of_row}
use Rattle.il_core.specs.Routine.{RoutineParts}
use Rattle.il_core.specs.Shapes.{IsRising, IsRisingFrom}
use Rattle.il_core.specs.Valid.{IsProgram}
use Rattle.il_core.specs.declared.program.IlProgram.{IlProgram}
use Rattle.il_core.specs.declared.shape.Shape.{Shape}
use Rattle.il_core.specs.declared.shape.Shape.TheVariants as shape
use Rattle.il_core.specs.declared.shape.ShapeRow.{ShapeRow}
use Rattle.il_core.proofs.Found.{found_here, found_in, found_there, rising}
use Rattle.il_core.proofs.Programs.{callee_of}
use Rattle.plan_pools.specs.Contents.{is_routine, routine_pids}

above_in : (n : ℕ) (xs : List ℕ) (q : ℕ) → Above n xs → In q xs → n < q
above_in n [] q a h = absurd h
above_in n (x ∷ xs) q a (inl e) = let l : n < x = a.0 in omega arith
above_in n (x ∷ xs) q a (inr h) = let l : n < x = a.0 in let m = above_in x xs q a.1 h in omega (arith, m)

least_in : (q x : ℕ) (xs : List ℕ) → Above x xs → In q (x ∷ xs) → x ≤ q
least_in q x xs a (inl e) = omega arith
least_in q x xs a (inr h) = let m = above_in x xs q a h in omega arith

above_rises : (n : ℕ) (xs : List ℕ) → Above n xs → Rises xs
above_rises n [] a = tt
above_rises n (x ∷ xs) a = a.1

-- behind one first number
behind : (x : ℕ) (xs ys : List ℕ) → Above x xs → AllIn (x ∷ xs) (x ∷ ys) → AllIn xs ys
behind x xs ys a all = record { by = λ q h. elim (all.by q (inr h)) [ inl e ↦ (let m = above_in x xs q a h in absurd (omega arith)) | inr k ↦ k ] }

-- two rising lists of the same numbers are one
rises_same : (xs ys : List ℕ) → Rises xs → Rises ys → AllIn xs ys → AllIn ys xs → xs ≡ ys
rises_same [] [] r s a b = refl
rises_same [] (y ∷ ys) r s a b = absurd (b.by y (inl refl))
rises_same (x ∷ xs) [] r s a b = absurd (a.by x (inl refl))
rises_same (x ∷ xs) (y ∷ ys) r s a b =
    let l = least_in x y ys s (a.by x (inl refl)) in let m = least_in y x xs r (b.by y (inl refl)) in
    let same : y ≡ x = omega arith in
    let a' = subst (λ n. AllIn (x ∷ xs) (n ∷ ys)) same a in let b' = subst (λ n. AllIn (n ∷ ys) (x ∷ xs)) same b in let s' = subst (λ n. Above n ys) same s in
    let rest = rises_same xs ys (above_rises x xs r) (above_rises x ys s') (behind x xs ys r a') (behind x ys xs s' b') in
    ap (λ l. x ∷ l) rest ∙ ap (λ n. n ∷ ys) (sym same)

above_less : (n m : ℕ) (xs : List ℕ) → n ≤ m → Above m xs → Above n xs
above_less n m [] le a = tt
above_less n m (x ∷ xs) le a = (let l = a.0 in omega arith, a.1)

above_if : (b : Bool) (n x : ℕ) (xs : List ℕ) → n < x → Above x xs → Above n (if b then x ∷ xs else xs)
above_if true n x xs lt a = (lt, a)
above_if false n x xs lt a = above_less n x xs (omega arith) a

pids_above : (n : ℕ) (rows : List ShapeRow) → IsRisingFrom (λ row. row.pid) n rows → Above n (routine_pids rows)
pids_above n [] h = tt
pids_above n (row ∷ rows) h = above_if (is_routine row.shape) n row.pid (routine_pids rows) h.0 (pids_above row.pid rows h.1)

rises_if : (b : Bool) (x : ℕ) (xs : List ℕ) → Above x xs → Rises (if b then x ∷ xs else xs)
rises_if true x xs a = a
rises_if false x xs a = above_rises x xs a

pub pids_rise : (rows : List ShapeRow) → IsRising (λ row. row.pid) rows → Rises (routine_pids rows)
pids_rise [] h = tt
pids_rise (row ∷ rows) h = rises_if (is_routine row.shape) row.pid (routine_pids rows) (pids_above row.pid rows h)

in_if : (b : Bool) (q x : ℕ) (xs : List ℕ) → In q xs → In q (if b then x ∷ xs else xs)
in_if true q x xs h = inr h
in_if false q x xs h = h

-- a PID with a routine's shape is one of them
shaped_in : (rows : List ShapeRow) (q a : ℕ) (b : Bool) → shape_at rows q ≡ Some (shape.Routine a b) → In q (routine_pids rows)
shaped_in [] q a b e = cc
shaped_in (row ∷ rows) q a b e =
    elim (cases_eq row.pid q) [
      | inl here ↦
          (let is : row.shape ≡ shape.Routine a b = same_Some row.shape (shape.Routine a b)
          (sym (ap shape_of_row (found_here (λ r. r.pid) q row rows here)) ∙ e) in
          subst (λ v. In q (if v then row.pid ∷ routine_pids rows else routine_pids rows)) (sym (ap is_routine is)) (inl (sym here)))
      | inr other ↦ in_if (is_routine row.shape) q row.pid (routine_pids rows)
          (shaped_in rows q a b (sym (ap shape_of_row (found_there (λ r. r.pid) q row rows other)) ∙ e))
    ]

-- and each of them has one
record Shaped (rows : List ShapeRow) (q : ℕ) : Type 0 where
  params : ℕ
  value : Bool
  is : shape_at rows q ≡ Some (shape.Routine params value)

routine_shape : (rows : List ShapeRow) (q : ℕ) (s : Shape) → shape_at rows q ≡ Some s → is_routine s ≡ true → Shaped rows q
routine_shape rows q (shape.Routine a b) e t = record { params = a; value = b; is = e }
routine_shape rows q (shape.Object w) e t = absurd cc

later_shaped : (row : ShapeRow) (rows : List ShapeRow) (q : ℕ) → row.pid < q → Shaped rows q → Shaped (row ∷ rows) q
later_shaped row rows q lt s =
    record { params = s.params; value = s.value; is = ap shape_of_row (found_there (λ r. r.pid) q row rows (λ e. absurd (omega arith))) ∙ s.is }

in_shaped : (before : ℕ) (rows : List ShapeRow) (q : ℕ) → IsRisingFrom (λ row. row.pid) before rows → In q (routine_pids rows) → Shaped rows q
in_shaped before [] q r h = absurd h
in_shaped before (row ∷ rows) q r h = by (in_shaped row.pid rows q r.1) (is_routine row.shape) refl h
  where
    later : (In q (routine_pids rows) → Shaped rows q) → In q (routine_pids rows) → Shaped (row ∷ rows) q
    later more k = later_shaped row rows q (above_in row.pid (routine_pids rows) q (pids_above row.pid rows r.1) k) (more k)

    by : (In q (routine_pids rows) → Shaped rows q) → (b : Bool) → is_routine row.shape ≡ b
        → In q (if b then row.pid ∷ routine_pids rows else routine_pids rows) → Shaped (row ∷ rows) q
    by more true t (inl e) = routine_shape (row ∷ rows) q row.shape (ap shape_of_row (found_here (λ r. r.pid) q row rows (sym e))) t
    by more true t (inr k) = later more k
    by more false t k = later more k

shaped_all : (rows : List ShapeRow) (q : ℕ) → IsRising (λ row. row.pid) rows → In q (routine_pids rows) → Shaped rows q
shaped_all [] q r h = absurd h
shaped_all (row ∷ rows) q r h = by (is_routine row.shape) refl h
  where
    later : In q (routine_pids rows) → Shaped (row ∷ rows) q
    later k = later_shaped row rows q (above_in row.pid (routine_pids rows) q (pids_above row.pid rows r) k) (in_shaped row.pid rows q r k)

    by : (b : Bool) → is_routine row.shape ≡ b → In q (if b then row.pid ∷ routine_pids rows else routine_pids rows) → Shaped (row ∷ rows) q
    by true t (inl e) = routine_shape (row ∷ rows) q row.shape (ap shape_of_row (found_here (λ r. r.pid) q row rows (sym e))) t
    by true t (inr k) = later k
    by false t k = later k

all_shaped : (rows : List ShapeRow) (rs : List RoutineParts) (q : ℕ) → AllByRecursion (λ r. shape_at rows r.pid ≡ Some (shape.Routine r.params r.value)) rs
    → In q (map (λ r. r.pid) rs) → In q (routine_pids rows)
all_shaped rows [] q h k = absurd k
all_shaped rows (r ∷ rs) q h (inl e) = subst (λ n. In n (routine_pids rows)) (sym e) (shaped_in rows r.pid r.params r.value h.0)
all_shaped rows (r ∷ rs) q h (inr k) = all_shaped rows rs q h.1 k

pub program_pids : (p : IlProgram) → IsProgram p → map (λ r. r.pid) p.routines ≡ routine_pids p.shapes
program_pids p valid = rises_same (map (λ r. r.pid) p.routines) (routine_pids p.shapes) (rising (λ r. r.pid) p.routines valid.routines)
    (pids_rise p.shapes valid.rows)
    (record { by = λ q h. all_shaped p.shapes p.routines q valid.shapes.routines h })
    (record {
      by = λ q h.
          (let s = shaped_all p.shapes q valid.rows h in let c = callee_of p valid q s.params s.value s.is in
          found_in (λ r. r.pid) q p.routines c.routine c.is);
    })

distinct_above : (n : ℕ) (xs : List ℕ) → Above n xs → AllByRecursion (λ y. nat_eq n y ≡ false) xs
distinct_above n [] a = tt
distinct_above n (x ∷ xs) a =
    let l : n < x = a.0 in let le : n ≤ x = omega arith in
    (other_number n x (λ e. absurd (omega arith)), distinct_above n xs (above_less n x xs le a.1))

rises_differ : (xs : List ℕ) → Rises xs → IsDistinct nat_eq xs
unfolding IsDistinct
rises_differ [] r = tt
rises_differ (x ∷ xs) r = (distinct_above x xs r, rises_differ xs (above_rises x xs r))

-- the routines' PIDs differ
pub pids_differ : (rows : List ShapeRow) → IsRising (λ row. row.pid) rows → IsDistinct nat_eq (routine_pids rows)
pids_differ rows h = rises_differ (routine_pids rows) (pids_rise rows h)
