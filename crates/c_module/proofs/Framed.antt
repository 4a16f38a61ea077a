-- The frame of a program, and the program that is put together of the routines of functions and its frame: it is their
-- lowered program.
use Rattle.std.proofs.Common.{◌≡◌, ℕ, zero, suc, ◌+◌, ◌<◌, Bool, true, false, List, [], ◌∷◌, ◌++◌, map, length, take, get_or, Some, refl, sym, ◌∙◌, ap}
use Rattle.std.proofs.Common.{subst, arith, slice_set}
use Rattle.std.specs.Prelude.{◌||◌, nat_eq, is_some, replicate, if◌then◌else◌}
use Rattle.std.specs.List.{AllByRecursion}
use Rattle.std.proofs.lemmas.List.{append-nil, append_assoc, take_more}
use Rattle.il_core.specs.declared.shape.ShapeRow.{ShapeRow}
use Rattle.il_core.specs.Object.{ObjectParts}
use Rattle.il_core.specs.Routine.{RoutineParts}
use Rattle.list_laws.proofs.Entries.{number_itself, other_number}
use Rattle.list_laws.proofs.Tests.{or_yes}
use Rattle.profile.specs.Counts.{Counts}
use Rattle.sym_tables.specs.declared.symbol.Symbol.{Symbol}
use Rattle.sym_tables.specs.Listing.{is_object, objects, objects_at, objects_from, shape_of, shapes, shapes_from, trimmed}
use Rattle.sym_tables.specs.Entities.{words}
use Rattle.sym_tables.specs.Table.{Table}
use Rattle.c_typed.specs.Meaning.{function_at}
use Rattle.c_typed.specs.Trees.{Function}
use Rattle.c_lower.specs.Lowering.{entry_of, routine_of, sites_of}
use Rattle.lower_laws.specs.Programs.{lowered_program, rows_from}
use Rattle.c_module.specs.Assembling.{by_pid}
use Rattle.c_module.specs.Frames.{among, assembled, first_mark, frame_rows, has_object, kept_rows, marks, marks_behind, objects_behind, other_marks}
use Rattle.c_module.specs.Frames.{other_objects, row_if}
use Rattle.c_module.proofs.Assembled.{routines_are, same_pid}

-- ## Marks

among_last : (pids : List ℕ) (p : ℕ) → among (pids ++ p ∷ []) p ≡ true
among_last [] p = ap (λ c. c || false) (number_itself p)
among_last (q ∷ pids) p = ap (λ c. nat_eq q p || c) (among_last pids p) ∙ or_yes (nat_eq q p)

among_other : (pids : List ℕ) (p q : ℕ) → (p ≡ q → ⊥) → among (pids ++ p ∷ []) q ≡ among pids q
among_other [] p q ne = ap (λ c. c || false) (other_number p q ne)
among_other (r ∷ pids) p q ne = ap (λ c. nat_eq r q || c) (among_other pids p q ne)

-- a lower PID marks none of these
marks_below : (pids : List ℕ) (p pid n : ℕ) → p < pid → marks (pids ++ p ∷ []) pid n ≡ marks pids pid n
marks_below pids p pid zero less = refl
marks_below pids p pid (suc n) less =
    ap (λ b. b ∷ marks (pids ++ p ∷ []) (suc pid) n) (among_other pids p pid (λ e. omega (arith, e, less)))
    ∙ ap (λ l. among pids pid ∷ l) (marks_below pids p (suc pid) n (omega (arith, less)))

-- one more PID takes its mark
mark_taken : (pids : List ℕ) (p pid n k : ℕ) → p ≡ pid + k → k < n → slice_set (marks pids pid n) k true ≡ marks (pids ++ p ∷ []) pid n
mark_taken pids p pid zero k at less = absurd (omega (arith, less))
mark_taken pids p pid (suc n) zero at less =
    let same : p ≡ pid = omega (arith, at) in
    ap (λ b. b ∷ marks pids (suc pid) n) (sym (subst (λ q. among (pids ++ p ∷ []) q ≡ true) same (among_last pids p)))
    ∙ ap (λ l. among (pids ++ p ∷ []) pid ∷ l) (sym (marks_below pids p (suc pid) n (omega (arith, at))))
mark_taken pids p pid (suc n) (suc k) at less =
    ap (λ b. b ∷ slice_set (marks pids (suc pid) n) k true) (sym (among_other pids p pid (λ e. omega (arith, e, at))))
    ∙ ap (λ l. among (pids ++ p ∷ []) pid ∷ l) (mark_taken pids p (suc pid) n k (omega (arith, at)) (omega (arith, less)))

pub marks_length : (pids : List ℕ) (pid n : ℕ) → length (marks pids pid n) ≡ n
marks_length pids pid zero = refl
marks_length pids pid (suc n) = ap suc (marks_length pids (suc pid) n)

pub no_marks : (pid n : ℕ) → replicate n false ≡ marks [] pid n
no_marks pid zero = refl
no_marks pid (suc n) = ap (λ l. false ∷ l) (no_marks (suc pid) n)

all_get : (n : ℕ) (pids : List ℕ) (k d : ℕ) → AllByRecursion (λ pid. pid < n) pids → k < length pids → get_or pids k d < n
all_get n [] k d all less = absurd (omega (arith, less))
all_get n (p ∷ pids) zero d all less = all.0
all_get n (p ∷ pids) (suc k) d all less = all_get n pids k d all.1 (omega (arith, less))

-- the PID of a place takes its mark
pub mark_more : (names : ℕ) (pids : List ℕ) (k d : ℕ) (table : List Bool) → k < length pids → AllByRecursion (λ pid. pid < names) pids
    → table ≡ marks (take k pids) 0 names → slice_set table (get_or pids k d) true ≡ marks (take (k + 1) pids) 0 names
mark_more names pids k d table less live known =
    let p = get_or pids k d in
    let at : p ≡ 0 + p = omega arith in
    ap (λ t. slice_set t p true) known
    ∙ mark_taken (take k pids) p 0 names p at (all_get names pids k d live less)
    ∙ ap (λ l. marks l 0 names) (sym (take_more pids k d less))

-- ## What a pass makes of one more row

pub marks_more : (bs : List Bool) (rows : List ShapeRow) (row : ShapeRow)
    → marks_behind bs (rows ++ row ∷ []) ≡ other_marks (marks_behind bs rows)
marks_more bs [] row = refl
marks_more bs (x ∷ rows) row = marks_more (other_marks bs) rows row

pub objects_more : (os : List ObjectParts) (rows : List ShapeRow) (row : ShapeRow)
    → objects_behind os (rows ++ row ∷ []) ≡ other_objects (objects_behind os rows) row.pid
objects_more os [] row = refl
objects_more os (x ∷ rows) row = objects_more (other_objects os x.pid) rows row

kept_more : (bs : List Bool) (os : List ObjectParts) (rows : List ShapeRow) (row : ShapeRow)
    → kept_rows bs os (rows ++ row ∷ []) ≡ kept_rows bs os rows ++ row_if
    (first_mark (marks_behind bs rows) || has_object (objects_behind os rows) row.pid) row
kept_more bs os [] row = append-nil (row_if (first_mark bs || has_object os row.pid) row)
kept_more bs os (x ∷ rows) row =
    let here = row_if (first_mark bs || has_object os x.pid) x in
    ap (λ l. here ++ l) (kept_more (other_marks bs) (other_objects os x.pid) rows row)
    ∙ sym (append_assoc here (kept_rows (other_marks bs) (other_objects os x.pid) rows) _)

pub kept_step : (bs : List Bool) (os : List ObjectParts) (ys : List ShapeRow) (row : ShapeRow) (old new : List ShapeRow)
    (others : List Bool) (left : List ObjectParts) (a b : Bool)
    → old ≡ kept_rows bs os ys → others ≡ marks_behind bs ys → left ≡ objects_behind os ys → a ≡ first_mark others → b ≡ has_object left row.pid
    → new ≡ old ++ row_if (a || b) row → new ≡ kept_rows bs os (ys ++ row ∷ [])
kept_step bs os ys row old new others left a b known is_others is_left is_a is_b added =
    added
    ∙ ap (λ l. l ++ row_if (a || b) row) known
    ∙ ap (λ c. kept_rows bs os ys ++ row_if (c || b) row) (is_a ∙ ap first_mark is_others)
    ∙ ap (λ c. kept_rows bs os ys ++ row_if (first_mark (marks_behind bs ys) || c) row) (is_b ∙ ap (λ l. has_object l row.pid) is_left)
    ∙ sym (kept_more bs os ys row)

-- ## The lowered program

-- the object of a PID
abbrev object_of : ℕ → Symbol → ObjectParts
object_of pid s = record { pid = pid; words = words s.entity; init = trimmed s.init }

-- objects of later names
later_objects : (b pid : ℕ) (es : Table) → pid < b
    → (has_object (objects_from b es) pid ≡ false) × (other_objects (objects_from b es) pid ≡ objects_from b es)
later_objects b pid [] less = (refl, refl)
later_objects b pid (e ∷ es) less = by_test (is_object e.1) (later_objects (suc b) pid es (omega (arith, less)))
  where
    by_test : (c : Bool) → (has_object (objects_from (suc b) es) pid ≡ false) × (other_objects (objects_from (suc b) es) pid ≡ objects_from (suc b) es)
        → (has_object ((if c then object_of b e.1 ∷ [] else []) ++ objects_from (suc b) es) pid ≡ false)
        × (other_objects ((if c then object_of b e.1 ∷ [] else []) ++ objects_from (suc b) es) pid ≡
        (if c then object_of b e.1 ∷ [] else []) ++ objects_from (suc b) es)
    by_test true more =
        let no : nat_eq b pid ≡ false = other_number b pid (λ e. omega (arith, e, less)) in
        (no, ap (λ c. if c then objects_from (suc b) es else object_of b e.1 ∷ objects_from (suc b) es) no)
    by_test false more = more

-- the object of a name comes first where it is one
first_object : (pid : ℕ) (s : Symbol) (es : Table) → (has_object (objects_at pid s ++ objects_from (suc pid) es) pid ≡ is_object s)
    × (other_objects (objects_at pid s ++ objects_from (suc pid) es) pid ≡ objects_from (suc pid) es)
first_object pid s es = by_test (is_object s)
  where
    by_test : (c : Bool) → (has_object ((if c then object_of pid s ∷ [] else []) ++ objects_from (suc pid) es) pid ≡ c)
        × (other_objects ((if c then object_of pid s ∷ [] else []) ++ objects_from (suc pid) es) pid ≡ objects_from (suc pid) es)
    by_test true =
        let same = number_itself pid in
        (same, ap (λ c. if c then objects_from (suc pid) es else object_of pid s ∷ objects_from (suc pid) es) same)
    by_test false = later_objects (suc pid) pid es (omega arith)

-- a PID is among those of the routines where there is a function with it
among_made : (syms : Table) (counts : Counts) (fs : List Function) (pid : ℕ)
    → among (map (λ (r : RoutineParts). r.pid) (map (routine_of syms counts) fs)) pid ≡ is_some (function_at fs pid)
among_made syms counts [] pid = refl
among_made syms counts (f ∷ fs) pid =
    ap (λ n. nat_eq n pid || among (map (λ (r : RoutineParts). r.pid) (map (routine_of syms counts) fs)) pid) (same_pid syms counts f)
    ∙ by_test (nat_eq f.pid pid) (among_made syms counts fs pid)
  where
    by_test : (b : Bool) → among (map (λ (r : RoutineParts). r.pid) (map (routine_of syms counts) fs)) pid ≡ is_some (function_at fs pid)
        → (b || among (map (λ (r : RoutineParts). r.pid) (map (routine_of syms counts) fs)) pid) ≡ is_some (if b then Some f else function_at fs pid)
    by_test true more = refl
    by_test false more = more

module _ (syms : Table) (counts : Counts) (fs : List Function) where
  abbrev pids_made : List ℕ
  pids_made = map (λ (r : RoutineParts). r.pid) (map (routine_of syms counts) fs)

  rows_are : (pid : ℕ) (es : Table) → kept_rows (marks pids_made pid (length es)) (objects_from pid es) (shapes_from pid es) ≡ rows_from fs pid es
  rows_are pid [] = refl
  rows_are pid (e ∷ es) =
      let row : ShapeRow = record { pid = pid; name = e.0; shape = shape_of e.1.entity } in
      let first = first_object pid e.1 es in
      let rest = kept_rows (marks pids_made (suc pid) (length es)) in
      ap (λ b. row_if (b || has_object (objects_at pid e.1 ++ objects_from (suc pid) es) pid) row ++ rest
      (other_objects (objects_at pid e.1 ++ objects_from (suc pid) es) pid) (shapes_from (suc pid) es)) (among_made syms counts fs pid)
      ∙ ap (λ b. row_if (is_some (function_at fs pid) || b) row ++ rest (other_objects (objects_at pid e.1 ++ objects_from (suc pid) es) pid)
      (shapes_from (suc pid) es)) first.0
      ∙ ap (λ os. row_if (is_some (function_at fs pid) || is_object e.1) row ++ rest os (shapes_from (suc pid) es)) first.1
      ∙ ap (λ l. row_if (is_some (function_at fs pid) || is_object e.1) row ++ l) (rows_are (suc pid) es)

  pub assembled_is : assembled (map (routine_of syms counts) fs) syms ≡ lowered_program (entry_of syms counts) (sites_of syms counts) fs syms
  assembled_is =
      let rs = map (routine_of syms counts) fs in
      ap (λ l. record { shapes = l; objects = objects syms; routines = by_pid rs (length syms) }) (rows_are 0 syms)
      ∙ ap (λ l. record { shapes = rows_from fs 0 syms; objects = objects syms; routines = l }) (routines_are syms counts fs 0 syms)

-- there is a row for each name
pub shapes_length : (pid : ℕ) (es : Table) → length (shapes_from pid es) ≡ length es
shapes_length pid [] = refl
shapes_length pid (e ∷ es) = ap suc (shapes_length (suc pid) es)

-- the rows of a table of marks
pub rows_kept : (pids : List ℕ) (syms : Table) (n : ℕ) (table slice : List Bool) (os : List ObjectParts) (rows kept : List ShapeRow) → n ≡ length syms
    → table ≡ marks pids 0 n → slice ≡ table → os ≡ objects syms → rows ≡ shapes syms → kept ≡ kept_rows slice os rows → kept ≡ frame_rows pids syms
rows_kept pids syms n table slice os rows kept many marked same is_objects is_rows is =
    is
    ∙ ap (λ l. kept_rows l os rows) (same ∙ marked ∙ ap (marks pids 0) many)
    ∙ ap (λ l. kept_rows (marks pids 0 (length syms)) l rows) is_objects
    ∙ ap (λ l. kept_rows (marks pids 0 (length syms)) (objects syms) l) is_rows

-- the program of a table of routines by PID
pub put_together : (rs : List RoutineParts) (syms : Table) (n : ℕ) (pids : List ℕ) (rows : List ShapeRow) (os : List ObjectParts) (routines : List RoutineParts)
    → n ≡ length syms → pids ≡ map (λ (r : RoutineParts). r.pid) rs → rows ≡ frame_rows pids syms → os ≡ objects syms → routines ≡ by_pid rs n
    → record { shapes = rows; objects = os; routines = routines } ≡ assembled rs syms
put_together rs syms n pids rows os routines many are is_rows is_objects is =
    ap (λ l. record { shapes = l; objects = os; routines = routines }) (is_rows ∙ ap (λ l. frame_rows l syms) are)
    ∙ ap (λ l. record { shapes = frame_rows (map (λ (r : RoutineParts). r.pid) rs) syms; objects = l; routines = routines }) is_objects
    ∙ ap (λ l. record { shapes = frame_rows (map (λ (r : RoutineParts). r.pid) rs) syms; objects = objects syms; routines = l }) (is ∙ ap (by_pid rs) many)
