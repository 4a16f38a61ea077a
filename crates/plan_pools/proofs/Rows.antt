-- The routines of a program's rows.
use Rattle.std.proofs.Common.{◌≡◌, ◌<◌, ◌+◌, ℕ, zero, suc, Bool, true, false, nat_eq, List, [], ◌∷◌, ◌++◌, length, take, drop, get_or, map, Option}
use Rattle.std.proofs.Common.{Some, IsSome, refl, sym, ap, subst, arith, ◌∙◌, ap₂, append_assoc}
use Rattle.std.specs.Prelude.{if◌then◌else◌, is_some, option_map}
use Rattle.std.specs.List.{AllByRecursion}
use Rattle.std.proofs.lemmas.Grind.{flat_map-append}
use Rattle.std.proofs.lemmas.List.{flat_map_more, take-append-drop, take_more}
use Rattle.list_laws.proofs.Entries.{number_itself, other_number}
use Rattle.il_core.specs.Program.{found, name_at, name_of_row}
use Rattle.il_core.specs.Routine.{RoutineParts}
use Rattle.il_core.specs.Shapes.{IsRising, IsRisingFrom}
use Rattle.il_core.specs.Text.{done_text, head_text, routine_text, routines_text, text}
use Rattle.il_core.specs.Object.{ObjectParts}
use Rattle.il_core.specs.declared.program.IlProgram.{IlProgram}
use Rattle.il_core.specs.declared.shape.Shape.TheVariants as shape
use Rattle.il_core.specs.declared.shape.ShapeRow.{ShapeRow}
use Rattle.compact_form.specs.declared.body.RoutineBody.{RoutineBody}
use Rattle.std.specs.Arc.{arc_value}
use Rattle.std.specs.Io.KnownBytes.{Appends}
use Rattle.std.proofs.KnownBytes.{Appends-trans}
use Rattle.naim_loader.specs.declared.forms.ReadPin.{ReadPin}
use Rattle.naim_loader.specs.Paged.{Paged, IsTrusted, kept_at}
use Rattle.one_owner.specs.Answers.{Takes}
use Rattle.plan_pools.specs.Contents.{HavePools, HoldsProgram, is_routine, routine_in, routine_pids, row_text, rows_text, text_if}
use Rattle.plan_pools.proofs.Frames.{is_some_of, some_is}
use Rattle.plan_pools.proofs.Fronts.{first_fails, then_fails}

-- each row is found by its PID
abbrev IsThere : List ShapeRow → ShapeRow → Type 0
IsThere all row = name_at all row.pid ≡ row.name

there_from : (all : List ShapeRow) (before : ℕ) (rows : List ShapeRow) → IsRisingFrom (λ row. row.pid) before rows
    → ((n : ℕ) → before < n → found (λ row. row.pid) n all ≡ found (λ row. row.pid) n rows) → AllByRecursion (IsThere all) rows
there_from all before [] r h = tt
there_from all before (x ∷ rows) r h =
    let here : found (λ row. row.pid) x.pid all ≡ Some x = h x.pid r.0 ∙ rw (number_itself x.pid) refl in (
      ap name_of_row here,
      there_from all x.pid rows r.1
          (λ n lt. let b = r.0 in let ne : nat_eq x.pid n ≡ false = other_number x.pid n (λ e. absurd (omega arith)) in h n (omega arith) ∙ rw ne refl),
    )

there_all : (all : List ShapeRow) → IsRising (λ row. row.pid) all → AllByRecursion (IsThere all) all
there_all [] r = tt
there_all (x ∷ rows) r =
    let here : found (λ row. row.pid) x.pid (x ∷ rows) ≡ Some x = rw (number_itself x.pid) refl in (
      ap name_of_row here,
      there_from (x ∷ rows) x.pid rows r (λ n lt. let ne : nat_eq x.pid n ≡ false = other_number x.pid n (λ e. absurd (omega arith)) in rw ne refl),
    )

-- the texts of the routines, by the rows and by the program
texts_same : (all : List ShapeRow) (at : ℕ → Option RoutineParts) (rows : List ShapeRow) (rs : List RoutineParts) → AllByRecursion (IsThere all) rows
    → map (λ r. r.pid) rs ≡ routine_pids rows → AllByRecursion (λ r. at r.pid ≡ Some r) rs
    → rows_text at rows ≡ routines_text all rs
texts_same all at [] [] t e h = refl
texts_same all at [] (r ∷ rs) t e h = cc
texts_same all at (row ∷ rows) rs t e h = by (λ qs. texts_same all at rows qs t.1) (is_routine row.shape) rs e h
  where
    by : ((qs : List RoutineParts) → map (λ r. r.pid) qs ≡ routine_pids rows → AllByRecursion (λ r. at r.pid ≡ Some r) qs
        → rows_text at rows ≡ routines_text all qs)
        → (b : Bool) → (rs : List RoutineParts) → map (λ r. r.pid) rs ≡ (if b then row.pid ∷ routine_pids rows else routine_pids rows)
        → AllByRecursion (λ r. at r.pid ≡ Some r) rs
        → (if b then text_if row.name (at row.pid) else []) ++ rows_text at rows ≡ routines_text all rs
    by more true [] e h = cc
    by more true (r ∷ rs) e h =
        let pid : r.pid ≡ row.pid = cc e in let rest : map (λ r. r.pid) rs ≡ routine_pids rows = cc e in
        let here : text_if row.name (at row.pid) ≡ routine_text (name_at all r.pid) r = ap (λ n. text_if row.name (at n)) (sym pid)
        ∙ ap (text_if row.name) h.0 ∙ ap (λ n. routine_text n r) (sym (ap (name_at all) pid ∙ t.0)) in
        ap₂ (λ x y. x ++ y) here (more rs rest h.1)
    by more false rs e h = more rs e h

-- the text of a program whose routines lie in pools
pub program_text : {B D : Type 0} (l : Paged RoutineBody B D) (rows : List ShapeRow) (os : List ObjectParts) (p : IlProgram)
    → IsRising (λ row. row.pid) rows → HoldsProgram l rows os p
    → head_text rows os ++ (rows_text (routine_in l) rows ++ done_text) ≡ text p
program_text l rows os p rising h =
    let same = texts_same rows (routine_in l) rows p.routines (there_all rows rising) h.pids h.routines in
    ap (λ x. head_text rows os ++ (x ++ done_text)) same ∙
    (λ i. head_text (sym h.shapes i) (sym h.objects i) ++ (routines_text (sym h.shapes i) p.routines ++ done_text))
    ∙ sym (append_assoc (head_text p.shapes p.objects) (routines_text p.shapes p.routines) done_text)

-- the pool of a row
have_head : (P : ℕ → Type 0) (x : ShapeRow) (rows : List ShapeRow) → AllByRecursion P (routine_pids (x ∷ rows)) → (is_routine x.shape ≡ true → P x.pid)
    × AllByRecursion P (routine_pids rows)
have_head P x rows h = by (is_routine x.shape) h
  where
    by : (b : Bool) → AllByRecursion P (if b then x.pid ∷ routine_pids rows else routine_pids rows) → (b ≡ true → P x.pid)
        × AllByRecursion P (routine_pids rows)
    by true h = (λ e. h.0, h.1)
    by false h = (λ e. absurd cc, h)

pub pool_of : (P : ℕ → Type 0) (rows : List ShapeRow) (k : ℕ) (row : ShapeRow) → AllByRecursion P (routine_pids rows) → k < length rows
    → row ≡ get_or rows k row → is_routine row.shape ≡ true → P row.pid
pool_of P [] k row h lt is t = absurd (omega arith)
pool_of P (x ∷ rows) zero row h lt is t = let d = have_head P x rows h in subst (λ z. is_routine z.shape ≡ true → P z.pid) (sym is) d.0 t
pool_of P (x ∷ rows) (suc k) row h lt is t = let d = have_head P x rows h in pool_of P rows k row d.1 (omega arith) is t

-- one more row
pub one_more : (at : ℕ → Option RoutineParts) (rows : List ShapeRow) (k : ℕ) (row : ShapeRow) → k < length rows → row ≡ get_or rows k row
    → rows_text at (take k rows) ++ row_text at row ≡ rows_text at (take (k + 1) rows)
one_more at rows k row less is = flat_map_more (row_text at) [] (take k rows) row
    ∙ ap (rows_text at) (sym (take_more rows k row less ∙ ap (λ y. take k rows ++ y ∷ []) (sym is)))

pub with_rest : (at : ℕ → Option RoutineParts) (rows : List ShapeRow) (k : ℕ) (row : ShapeRow) → k < length rows → row ≡ get_or rows k row
    → (rows_text at (take k rows) ++ row_text at row) ++ rows_text at (drop (k + 1) rows) ≡ rows_text at rows
with_rest at rows k row less is =
    ap (λ l. l ++ rows_text at (drop (k + 1) rows)) (one_more at rows k row less is)
    ∙ sym (flat_map-append (row_text at) (take (k + 1) rows) (drop (k + 1) rows)) ∙ ap (rows_text at) (take-append-drop (k + 1) rows)

-- the text of a routine that is read is that of its pool, over a trusted disk
pub text_read : {B D : Type 0} (reach : D → ℕ) (honest : D → Bool) (faults : D → ℕ) (old mid : Paged RoutineBody B D) (p : ℕ) (x : ReadPin RoutineBody)
    (name : List ℕ) → Takes reach honest faults old mid p x → IsTrusted reach honest old
    → routine_text name (arc_value x.body).routine ≡ text_if name (routine_in old p)
text_read reach honest faults old mid p x name t g =
    ap (λ b. routine_text name b.routine) (t.same (λ u. g)) ∙ sym (ap (λ o. text_if name (option_map (λ b. b.routine) (option_map (λ k. k.value) o))) t.there)

-- the text of a row that is a routine, or isn't
pub row_is : (at : ℕ → Option RoutineParts) (row : ShapeRow) (a : ℕ) (b : Bool) → row.shape ≡ shape.Routine a b
    → text_if row.name (at row.pid) ≡ row_text at row
row_is at row a b e = sym (ap (λ s. if is_routine s then text_if row.name (at row.pid) else []) e)

pub row_none : (at : ℕ → Option RoutineParts) (row : ShapeRow) (w : ℕ) → row.shape ≡ shape.Object w → [] ≡ row_text at row
row_none at row w e = sym (ap (λ s. if is_routine s then text_if row.name (at row.pid) else []) e)

-- the routines are the same where what is kept is
pub routines_same : {B D : Type 0} (old new : Paged RoutineBody B D) → ((q : ℕ) → kept_at new q ≡ kept_at old q) → (row : ShapeRow)
    → row_text (routine_in new) row ≡ row_text (routine_in old) row
routines_same old new same row = ap
    (λ o. if is_routine row.shape then text_if row.name (option_map (λ b. b.routine) (option_map (λ k. k.value) o)) else []) (same row.pid)

pub rows_same : {B D : Type 0} (old new : Paged RoutineBody B D) (rows : List ShapeRow) → ((q : ℕ) → kept_at new q ≡ kept_at old q)
    → rows_text (routine_in new) rows ≡ rows_text (routine_in old) rows
rows_same old new [] same = refl
rows_same old new (row ∷ rows) same = ap₂ (λ x y. x ++ y) (routines_same old new same row) (rows_same old new rows same)

-- the pools of the rows are there still
pub have_pools : {B D : Type 0} (old new : Paged RoutineBody B D) (rows : List ShapeRow)
    → ((q : ℕ) → is_some (kept_at new q) ≡ is_some (kept_at old q)) → HavePools old rows → HavePools new rows
have_pools old new rows has h = all (routine_pids rows) h
  where
    all : (ps : List ℕ) → AllByRecursion (λ p. IsSome (kept_at old p)) ps → AllByRecursion (λ p. IsSome (kept_at new p)) ps
    all [] h = tt
    all (p ∷ ps) h = (some_is (kept_at new p) (has p ∙ is_some_of (kept_at old p) h.0), all ps h.1)

-- the pool of a row is there still
pub have_row : {B D : Type 0} (old new : Paged RoutineBody B D) (rows : List ShapeRow) (k : ℕ) (row : ShapeRow)
    → ((q : ℕ) → is_some (kept_at new q) ≡ is_some (kept_at old q)) → HavePools old rows → k < length rows → row ≡ get_or rows k row
    → is_routine row.shape ≡ true → IsSome (kept_at new row.pid)
have_row old new rows k row has pools less is routine =
    pool_of (λ p. IsSome (kept_at new p)) rows k row (have_pools old new rows has pools) less is routine

-- one row's text after those before it
module _ {B D : Type 0} (old mid : Paged RoutineBody B D) (rows : List ShapeRow) (k : ℕ) (row : ShapeRow) (less : k < length rows)
    (is : row ≡ get_or rows k row)
    (same : (q : ℕ) → kept_at mid q ≡ kept_at old q) (a b c : Option (List ℕ)) (taken : Appends a b (rows_text (routine_in old) (take k rows))) where
  pub next_taken : Appends b c (row_text (routine_in mid) row) → Appends a c (rows_text (routine_in old) (take (k + 1) rows))
  next_taken h =
      subst (Appends a c) (one_more (routine_in old) rows k row less is)
      (Appends-trans a b c (rows_text (routine_in old) (take k rows)) (row_text (routine_in old) row) taken
      (subst (Appends b c) (routines_same old mid same row) h))

  pub next_failed : ((m : ℕ) × Appends b c (take m (row_text (routine_in mid) row))) → (n : ℕ) × Appends a c (take n (rows_text (routine_in old) rows))
  next_failed h =
      let f = then_fails a b c (rows_text (routine_in old) (take k rows)) (row_text (routine_in old) row) taken
      (h.0, subst (λ text. Appends b c (take h.0 text)) (routines_same old mid same row) h.1) in
      let m = first_fails a c (rows_text (routine_in old) (take k rows) ++ row_text (routine_in old) row) (rows_text (routine_in old) (drop (k + 1) rows)) f in
      (m.0, subst (λ text. Appends a c (take m.0 text)) (with_rest (routine_in old) rows k row less is) m.1)

-- the texts behind the head are the same where what is kept is
pub tail_text : {B D : Type 0} (old new : Paged RoutineBody B D) (rows rows' : List ShapeRow) → rows ≡ rows' → ((q : ℕ) → kept_at new q ≡ kept_at old q)
    → rows_text (routine_in new) rows ++ done_text ≡ rows_text (routine_in old) rows' ++ done_text
tail_text old new rows rows' e same = ap (λ text. text ++ done_text) (rows_same old new rows same ∙ ap (rows_text (routine_in old)) e)
