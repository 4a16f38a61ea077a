-- The lowered program of linked modules that fit it is valid.
use Rattle.std.proofs.Common.{◌≡◌, ◌≢◌, ℕ, zero, suc, ◌+◌, ◌<◌, ◌≤◌, Bool, true, false, if◌then◌else◌, List, [], ◌∷◌, ◌++◌, length, Option, Some, None}
use Rattle.std.proofs.Common.{get_or, refl, sym, ap, subst, ◌∙◌, arith}
use Rattle.std.specs.Prelude.{◌&&◌, ◌||◌, not, nat_lt, IsTrue, codes, is_some}
use Rattle.std.specs.Cmp.Lexicographic.{same_text}
use Rattle.std.specs.List.{AllByRecursion, Contains}
use Rattle.std.specs.Map.{keys_of}
use Rattle.std.proofs.lemmas.Bool.{false≢true, ltb-true}
use Rattle.std.proofs.lemmas.List.Quantifiers.{position-Some}
use Rattle.il_core.specs.declared.shape.Shape.TheVariants as shape
use Rattle.il_core.specs.declared.shape.ShapeRow.{ShapeRow}
use Rattle.il_core.specs.Limits.{max_pids, IsPid}
use Rattle.il_core.specs.Object.{ObjectParts}
use Rattle.il_core.specs.Program.{found, shape_of_row, shape_at}
use Rattle.il_core.specs.Routine.{RoutineParts}
use Rattle.il_core.specs.Shapes.{IsRising}
use Rattle.il_core.specs.Valid.{IsValid, HasEachNameOnce}
use Rattle.il_core.proofs.Found.{found_here, found_number}
use Rattle.sym_tables.specs.declared.entity.Entity.{Entity}
use Rattle.sym_tables.specs.declared.entity.Entity.TheVariants.{Function as FunctionOf, Scalar, Array}
use Rattle.sym_tables.specs.declared.symbol.Symbol.{Symbol}
use Rattle.sym_tables.specs.Entities.{words}
use Rattle.sym_tables.specs.Listing.{shape_of, is_object, objects_at, trimmed}
use Rattle.sym_tables.specs.Symbols.{is_declared}
use Rattle.sym_tables.specs.Table.{Table, same_name}
use Rattle.c_typed.specs.Meaning.{function_at}
use Rattle.c_typed.specs.Trees.{Function}
use Rattle.lower_laws.specs.Bound.{IsBound}
use Rattle.lower_laws.specs.Fits.{FitsFunction}
use Rattle.lower_laws.specs.ProgramLaws.{IsEntityOf, AreEntities, HasNamesOnce, function_count, LoweredIsProgram}
use Rattle.lower_laws.specs.Programs.{routines_at, by_pid, rows_at, rows_from}
use Rattle.lower_laws.proofs.ByPid.{objects_by, all_append, contains_later, AtMostOne, skips, rising}
use Rattle.lower_laws.proofs.ValidRoutines.{lowered_is_valid}

-- ---- what each name gives

one_row : (fs : List Function) (n : ℕ) (name : List ℕ) (s : Symbol) → AtMostOne (λ (row : ShapeRow). row.pid) n (rows_at fs n name s)
one_row fs n name s = by_test (is_some (function_at fs n) || is_object s)
  where
    by_test : (b : Bool) → AtMostOne (λ (row : ShapeRow). row.pid) n (if b then record { pid = n; name = name; shape = shape_of s.entity } ∷ [] else [])
    by_test true = refl
    by_test false = tt

one_object : (n : ℕ) (s : Symbol) → AtMostOne (λ (o : ObjectParts). o.pid) n (objects_at n s)
one_object n s = by_test (is_object s)
  where
    by_test : (b : Bool) → AtMostOne (λ (o : ObjectParts). o.pid) n (if b then record { pid = n; words = words s.entity; init = trimmed s.init } ∷ [] else [])
    by_test true = refl
    by_test false = tt

-- an object has words, and its shape says how many
has_words : (s : Symbol) → is_object s ≡ true → (0 < words s.entity) × (shape_of s.entity ≡ shape.Object (words s.entity))
has_words s is = by_entity s.entity (is_declared s.standing) is
  where
    by_entity : (x : Entity) (d : Bool) → (not d && nat_lt 0 (words x)) ≡ true → (0 < words x) × (shape_of x ≡ shape.Object (words x))
    by_entity x true e = absurd (false≢true e)
    by_entity (FunctionOf gives params) false e = absurd (false≢true e)
    by_entity (Scalar ty fixed) false e = (omega arith, refl)
    by_entity (Array ty fixed len) false e = (ltb-true 0 (words (Array ty fixed len)) e, refl)

-- a function's name is no object
no_object : (f : Function) (s : Symbol) → shape_of s.entity ≡ shape.Routine (length f.params) (is_some f.result) → is_object s ≡ true → ⊥
no_object f s is object = differ (sym (has_words s object).1 ∙ is)
  where
    differ : {n m : ℕ} {b : Bool} → shape.Object n ≡ shape.Routine m b → ⊥
    differ e = cc

module _ (entry : ℕ → ℕ) (count : ℕ → ℕ → ℕ) (fs : List Function) where
  abbrev pick : ℕ → List ℕ → Symbol → List RoutineParts
  pick n name s = routines_at entry count (function_at fs n)

  one_routine : (n : ℕ) (name : List ℕ) (s : Symbol) → AtMostOne (λ (r : RoutineParts). r.pid) n (pick n name s)
  one_routine n name s = by_function (function_at fs n) refl
    where
      by_function : (o : Option Function) → function_at fs n ≡ o → AtMostOne (λ (r : RoutineParts). r.pid) n (routines_at entry count o)
      by_function None e = tt
      by_function (Some f) e = found_number (λ (x : Function). x.pid) n fs f e

  -- ---- shapes

  each_one : (o : Option Function) (s : Symbol) (b : Bool) (row : ShapeRow) (x : ObjectParts) → is_object s ≡ b → IsEntityOf o s
      → length (if is_some o || b then row ∷ [] else []) ≡ length (if b then x ∷ [] else []) + length (routines_at entry count o)
  each_one None s true row x is fits = refl
  each_one None s false row x is fits = refl
  each_one (Some f) s true row x is fits = absurd (no_object f s fits is)
  each_one (Some f) s false row x is fits = refl

  length_append : {X : Type 0} (xs ys : List X) → length (xs ++ ys) ≡ length xs + length ys
  length_append [] ys = omega arith
  length_append (x ∷ xs) ys = omega (arith, length_append xs ys)

  counted : (n : ℕ) (es : Table) → AreEntities fs n es
      → length (rows_from fs n es) ≡ length (by_pid (λ pid name s. objects_at pid s) n es) + length (by_pid pick n es)
  counted n [] fits = refl
  counted n (e ∷ es) fits =
      let row : ShapeRow = record { pid = n; name = e.0; shape = shape_of e.1.entity } in
      let x : ObjectParts = record { pid = n; words = words e.1.entity; init = trimmed e.1.init } in
      let here = each_one (function_at fs n) e.1 (is_object e.1) row x refl fits.0 in
      omega (
        arith,
        here,
        counted (suc n) es fits.1,
        length_append (rows_at fs n e.0 e.1) (rows_from fs (suc n) es),
        length_append (objects_at n e.1) (by_pid (λ pid name s. objects_at pid s) (suc n) es),
        length_append (pick n e.0 e.1) (by_pid pick (suc n) es),
      )

  -- the row of a kept name
  kept_row : (a b : Bool) (row : ShapeRow) (rest : List ShapeRow) → (a || b) ≡ true
      → found (λ (x : ShapeRow). x.pid) row.pid ((if a || b then row ∷ [] else []) ++ rest) ≡ Some row
  kept_row a b row rest is =
      ap (λ (c : Bool). found (λ (x : ShapeRow). x.pid) row.pid ((if c then row ∷ [] else []) ++ rest)) is
      ∙ found_here (λ (x : ShapeRow). x.pid) row.pid row rest refl

  or_right : (a : Bool) → (a || true) ≡ true
  or_right true = refl
  or_right false = refl

  -- a list of rows that finds what the rows from n on find
  abbrev Finds : List ShapeRow → ℕ → Table → Type 0
  Finds rows n es = (pid : ℕ) → n ≤ pid → found (λ (x : ShapeRow). x.pid) pid rows ≡ found (λ (x : ShapeRow). x.pid) pid (rows_from fs n es)

  finds_next : (rows : List ShapeRow) (n : ℕ) (e : List ℕ × Symbol) (es : Table) → Finds rows n (e ∷ es) → Finds rows (suc n) es
  finds_next rows n e es h pid le =
      h pid (omega (arith, le)) ∙ skips (λ (x : ShapeRow). x.pid) n pid (rows_at fs n e.0 e.1) (rows_from fs (suc n) es) (one_row fs n e.0 e.1)
      (λ q. absurd (omega (arith, q, le)))

  object_shapes : (rows : List ShapeRow) (n : ℕ) (es : Table) → Finds rows n es
      → AllByRecursion (λ (o : ObjectParts). shape_at rows o.pid ≡ Some (shape.Object o.words)) (by_pid (λ pid name s. objects_at pid s) n es)
  object_shapes rows n [] h = tt
  object_shapes rows n (e ∷ es) h =
      all_append _ (objects_at n e.1) _ (here (is_object e.1) refl) (object_shapes rows (suc n) es (finds_next rows n e es h))
    where
      row : ShapeRow
      row = record { pid = n; name = e.0; shape = shape_of e.1.entity }

      here : (b : Bool) → is_object e.1 ≡ b
          → AllByRecursion (λ (o : ObjectParts). shape_at rows o.pid ≡ Some (shape.Object o.words))
          (if b then record { pid = n; words = words e.1.entity; init = trimmed e.1.init } ∷ [] else [])
      here false is = tt
      here true is = (
        ap shape_of_row (h n (omega arith) ∙ kept_row (is_some (function_at fs n)) (is_object e.1) row (rows_from fs (suc n) es)
            (ap (λ b. is_some (function_at fs n) || b) is ∙ or_right (is_some (function_at fs n))))
            ∙ ap (λ x. Some x) (has_words e.1 is).1,
        tt,
      )

  routine_shapes : (rows : List ShapeRow) (n : ℕ) (es : Table) → Finds rows n es → AreEntities fs n es
      → AllByRecursion (λ (r : RoutineParts). shape_at rows r.pid ≡ Some (shape.Routine r.params r.value)) (by_pid pick n es)
  routine_shapes rows n [] h fits = tt
  routine_shapes rows n (e ∷ es) h fits =
      all_append _ (pick n e.0 e.1) _ (here (function_at fs n) refl fits.0) (routine_shapes rows (suc n) es (finds_next rows n e es h) fits.1)
    where
      row : ShapeRow
      row = record { pid = n; name = e.0; shape = shape_of e.1.entity }

      here : (o : Option Function) → function_at fs n ≡ o → IsEntityOf o e.1
          → AllByRecursion (λ (r : RoutineParts). shape_at rows r.pid ≡ Some (shape.Routine r.params r.value)) (routines_at entry count o)
      here None is fit = tt
      here (Some f) is fit = (
        ap (λ m. shape_at rows m) (found_number (λ (x : Function). x.pid) n fs f is)
            ∙ ap shape_of_row (h n (omega arith) ∙ kept_row (is_some (function_at fs n)) (is_object e.1) row (rows_from fs (suc n) es)
            (ap (λ o. is_some o || is_object e.1) is))
            ∙ ap (λ x. Some x) fit,
        tt,
      )

  -- ---- names, numbers, words, routines

  other_rows : (n : ℕ) (name : List ℕ) (es : Table) → AllByRecursion (λ (other : List ℕ × Symbol). other.0 ≢ name) es
      → AllByRecursion (λ (row : ShapeRow). row.name ≢ name) (rows_from fs n es)
  other_rows n name [] h = tt
  other_rows n name (e ∷ es) h = all_append _ (rows_at fs n e.0 e.1) _ (here (is_some (function_at fs n) || is_object e.1)) (other_rows (suc n) name es h.1)
    where
      here : (b : Bool) → AllByRecursion (λ (row : ShapeRow). row.name ≢ name)
          (if b then record { pid = n; name = e.0; shape = shape_of e.1.entity } ∷ [] else [])
      here true = (h.0, tt)
      here false = tt

  row_once : (b : Bool) (row : ShapeRow) (rest : List ShapeRow) → AllByRecursion (λ (other : ShapeRow). other.name ≢ row.name) rest
      → HasEachNameOnce rest → HasEachNameOnce ((if b then row ∷ [] else []) ++ rest)
  row_once true row rest others h = (others, h)
  row_once false row rest others h = h

  names_once : (n : ℕ) (es : Table) → HasNamesOnce es → HasEachNameOnce (rows_from fs n es)
  names_once n [] h = tt
  names_once n (e ∷ es) h =
      row_once (is_some (function_at fs n) || is_object e.1) (record { pid = n; name = e.0; shape = shape_of e.1.entity }) (rows_from fs (suc n) es)
      (other_rows (suc n) e.0 es h.0) (names_once (suc n) es h.1)

  numbers_fit : (n : ℕ) (es : Table) → n + length es ≤ max_pids → AllByRecursion (λ (row : ShapeRow). IsPid row.pid) (rows_from fs n es)
  numbers_fit n [] le = tt
  numbers_fit n (e ∷ es) le =
      all_append _ (rows_at fs n e.0 e.1) _ (here (is_some (function_at fs n) || is_object e.1)) (numbers_fit (suc n) es (omega (arith, le)))
    where
      here : (b : Bool) → AllByRecursion (λ (row : ShapeRow). IsPid row.pid)
          (if b then record { pid = n; name = e.0; shape = shape_of e.1.entity } ∷ [] else [])
      here true = (omega (arith, le), tt)
      here false = tt

  words_there : (n : ℕ) (es : Table) → AllByRecursion (λ (o : ObjectParts). 0 < o.words) (by_pid (λ pid name s. objects_at pid s) n es)
  words_there n [] = tt
  words_there n (e ∷ es) = all_append _ (objects_at n e.1) _ (here (is_object e.1) refl) (words_there (suc n) es)
    where
      here : (b : Bool) → is_object e.1 ≡ b
          → AllByRecursion (λ (o : ObjectParts). 0 < o.words) (if b then record { pid = n; words = words e.1.entity; init = trimmed e.1.init } ∷ [] else [])
      here true is = ((has_words e.1 is).0, tt)
      here false is = tt

  as_many : (n : ℕ) (es : Table) → length (by_pid pick n es) ≡ function_count fs n es
  as_many n [] = refl
  as_many n (e ∷ es) = omega (arith, length_append (pick n e.0 e.1) (by_pid pick (suc n) es), here (function_at fs n), as_many (suc n) es)
    where
      here : (o : Option Function) → length (routines_at entry count o) ≡ (if is_some o then 1 else 0)
      here None = refl
      here (Some f) = refl

  all_valid : (rows : List ShapeRow) (n : ℕ) (es : Table) → ((pid : ℕ) (f : Function) → function_at fs pid ≡ Some f → IsBound f)
      → ((pid : ℕ) (f : Function) → function_at fs pid ≡ Some f → FitsFunction rows f) → AllByRecursion (IsValid rows) (by_pid pick n es)
  all_valid rows n [] bound fits = tt
  all_valid rows n (e ∷ es) bound fits = all_append _ (pick n e.0 e.1) _ (here (function_at fs n) refl) (all_valid rows (suc n) es bound fits)
    where
      here : (o : Option Function) → function_at fs n ≡ o → AllByRecursion (IsValid rows) (routines_at entry count o)
      here None is = tt
      here (Some f) is = (lowered_is_valid rows f (bound n f is) (fits n f is) (entry f.pid) (count f.pid), tt)

  -- ---- `main`

  entity_shape : (o : Option Function) (s : Symbol) → IsEntityOf o s → IsTrue (is_some o)
      → ((f : Function) → o ≡ Some f → (length f.params ≡ 0) × (is_some f.result ≡ true)) → shape_of s.entity ≡ shape.Routine 0 true
  entity_shape None s fits has main = absurd (false≢true has)
  entity_shape (Some f) s fits has main =
      fits ∙ ap (λ n. shape.Routine n (is_some f.result)) (main f refl).0 ∙ ap (λ b. shape.Routine 0 b) (main f refl).1

  main_row : (name : List ℕ) (n k : ℕ) (es : Table) → AreEntities fs n es → k < length (keys_of es) → same_name name (get_or (keys_of es) k []) ≡ true
      → IsTrue (is_some (function_at fs (n + k)))
      → ((f : Function) → function_at fs (n + k) ≡ Some f → (length f.params ≡ 0) × (is_some f.result ≡ true))
      → (row : ShapeRow) × Contains (rows_from fs n es) row × (row.name ≡ name) × (row.shape ≡ shape.Routine 0 true)
  main_row name n k [] fits lt here has main = absurd (omega (arith, lt))
  main_row name n zero (e ∷ es) fits lt here has main =
      let q : n + 0 ≡ n = omega arith in
      let yes = subst (λ m. IsTrue (is_some (function_at fs m))) q has in
      let row : ShapeRow = record { pid = n; name = e.0; shape = shape_of e.1.entity } in (
        row,
        stands (is_some (function_at fs n)) (is_object e.1) row (rows_from fs (suc n) es) yes,
        sym (same_text name e.0 (sym here)),
        entity_shape (function_at fs n) e.1 fits.0 yes (λ f is. main f (ap (function_at fs) q ∙ is)),
      )
    where
      stands : (a b : Bool) (row : ShapeRow) (rest : List ShapeRow) → IsTrue a → Contains ((if a || b then row ∷ [] else []) ++ rest) row
      stands true b row rest has = (0, omega arith, refl)
      stands false b row rest has = absurd (false≢true has)
  main_row name n (suc k) (e ∷ es) fits lt here has main =
      let q : n + suc k ≡ suc n + k = omega arith in
      let h = main_row name (suc n) k es fits.1 (omega (arith, lt)) here (subst (λ m. IsTrue (is_some (function_at fs m))) q has)
      (λ f is. main f (ap (function_at fs) q ∙ is)) in
      (h.0, contains_later (rows_at fs n e.0 e.1) (rows_from fs (suc n) es) h.0 h.1, h.2, h.3)

pub lowered_is_program : LoweredIsProgram
lowered_is_program fs syms linked fits entry count =
    let rows = rows_from fs 0 syms in
    let same = objects_by 0 syms in
    let place = position-Some (same_name (codes "main")) (keys_of syms) linked.main [] linked.is_main in
    let q : 0 + linked.main ≡ linked.main = omega arith in
    let finds : Finds entry count fs rows 0 syms = λ pid le. refl in
    record {
      objects = subst (λ os. IsRising (λ (o : ObjectParts). o.pid) os) (sym same)
          (rising (λ (o : ObjectParts). o.pid) (λ pid name s. objects_at pid s) (λ n name s. one_object n s) 0 syms);
      routines = rising (λ (r : RoutineParts). r.pid) (pick entry count fs) (one_routine entry count fs) 0 syms;
      rows = rising (λ (row : ShapeRow). row.pid) (rows_at fs) (one_row fs) 0 syms;
      shapes = record {
        count = counted entry count fs 0 syms fits.entities ∙ ap (λ os. length os + length (by_pid (pick entry count fs) 0 syms)) (sym same);
        objects = subst (λ os. AllByRecursion (λ (o : ObjectParts). shape_at rows o.pid ≡ Some (shape.Object o.words)) os) (sym same)
            (object_shapes entry count fs rows 0 syms finds);
        routines = routine_shapes entry count fs rows 0 syms finds fits.entities;
      };
      names = names_once entry count fs 0 syms fits.names;
      few = omega (arith, as_many entry count fs 0 syms, fits.few);
      pids = numbers_fit entry count fs 0 syms (omega (arith, fits.pids));
      words = subst (λ os. AllByRecursion (λ (o : ObjectParts). 0 < o.words) os) (sym same) (words_there entry count fs 0 syms);
      each = all_valid entry count fs rows 0 syms linked.bound fits.functions;
      main = main_row entry count fs (codes "main") 0 linked.main syms fits.entities place.0 place.1
          (subst (λ m. IsTrue (is_some (function_at fs m))) (sym q) linked.has_main)
          (λ f is. fits.main linked.main f linked.is_main (ap (function_at fs) (sym q) ∙ is));
    }
