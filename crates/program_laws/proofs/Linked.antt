-- Modules that follow the rules and link are linked, and fit one another.
use Rattle.std.proofs.Common.{◌≡◌, ◌≢◌, ℕ, zero, suc, ◌+◌, ◌<◌, ◌≤◌, Bool, true, false, cond, if◌then◌else◌, not, List, [], ◌∷◌, ◌++◌, length, Option}
use Rattle.std.proofs.Common.{Some, None, refl, sym, ap, subst, ◌∙◌, arith, slice_get, nat_lt}
use Rattle.std.specs.Prelude.{◌&&◌, ◌||◌, ◌==◌, IsTrue, codes, is_some, position}
use Rattle.std.specs.List.{AllByRecursion, position_or_len}
use Rattle.std.specs.Map.{keys_of, values_of}
use Rattle.std.proofs.lemmas.Bool.{true≢false, false≢true, eqb-true, lt-ltb, ltb-false}
use Rattle.std.proofs.lemmas.List.Sums.{sum_by-cons}
use Rattle.std.proofs.lemmas.Map.Entries.{length-values_of}
use Rattle.std.proofs.lemmas.Option.{slice_get_within}
use Rattle.hlo_num.specs.declared.word.Ty.{Ty}
use Rattle.hlo_num.specs.declared.word.Ty.TheVariants.{Int}
use Rattle.il_core.specs.declared.shape.Shape.TheVariants as shape
use Rattle.il_core.specs.declared.shape.ShapeRow.{ShapeRow}
use Rattle.il_core.specs.Valid.{IsObjectShape, NamesObject}
use Rattle.il_core.specs.Program.{found, shape_at, shape_of_row}
use Rattle.il_core.proofs.Found.{found_all, found_here, found_there}
use Rattle.il_core.proofs.Running.{has_run}
use Rattle.sym_tables.specs.declared.entity.Entity.{Entity}
use Rattle.sym_tables.specs.declared.entity.Entity.TheVariants as entities
use Rattle.sym_tables.specs.declared.symbol.Standing.{Standing}
use Rattle.sym_tables.specs.declared.symbol.Standing.TheVariants as standings
use Rattle.sym_tables.specs.declared.symbol.Symbol.{Symbol}
use Rattle.sym_tables.specs.Entities.{same_type, words}
use Rattle.sym_tables.specs.Listing.{shape_of, is_object}
use Rattle.sym_tables.specs.Symbols.{is_declared, is_open, routine_part}
use Rattle.sym_tables.specs.Table.{Table, same_name, symbol_at, symbol_of, pid_of, first_open, routines}
use Rattle.sym_tables.proofs.Limits.{within}
use Rattle.linker.specs.declared.fault.LinkFault.TheVariants.{Undefined, NoMain, MainType}
use Rattle.linker.specs.Linking as linking
use Rattle.c_typed.specs.Meaning.{function_at}
use Rattle.c_typed.specs.Trees.{Function}
use Rattle.c_typed.specs.Views.{functions_of}
use Rattle.lower_laws.specs.Bound.{IsBound}
use Rattle.lower_laws.specs.ProgramLaws.{IsEntityOf, AreEntities, HasNamesOnce, function_count}
use Rattle.lower_laws.specs.Programs.{lowered_program, rows_from}
use Rattle.lower_laws.proofs.ProgramsMeet.{lowered_means_the_same}
use Rattle.lower_laws.proofs.ProgramsValid.{lowered_is_program}
use Rattle.program_laws.specs.Growing.{entity_in, standing_in, used_in, entity_at, standing_at, Shows, Covers}
use Rattle.program_laws.specs.Laws.{LinkingModulesAreLinked, LoweredProgramsAreRight, LinkingModulesRun}
use Rattle.program_laws.specs.Settled.{AreOnce, Stands, HasFunction, AreWhole}
use Rattle.program_laws.proofs.Holding.{some_is}
use Rattle.program_laws.proofs.Modules.{typed_programs_are_whole}
use Rattle.program_laws.proofs.Tables.{IsNamed, place, pid_is}

-- ## What linking says

none_passes : {X : Type 0} (p : X → Bool) (xs : List X) → length xs ≤ position_or_len p xs → (i : ℕ) (x : X) → slice_get xs i ≡ Some x → p x ≡ false
none_passes p [] le i x is = absurd (let c : None ≡ Some x = is in cc)
none_passes {X} p (y ∷ ys) le i x is = by_test (p y) refl le i is (λ less j z there. none_passes p ys less j z there)
  where
    at : p y ≡ false → (length ys ≤ position_or_len p ys → (j : ℕ) (z : X) → slice_get ys j ≡ Some z → p z ≡ false)
        → length ys ≤ position_or_len p ys → (j : ℕ) → slice_get (y ∷ ys) j ≡ Some x → p x ≡ false
    at none more less zero there = ap p (sym (let c : y ≡ x = cc in c)) ∙ none
    at none more less (suc j) there = more less j x there

    by_test : (b : Bool) → p y ≡ b → suc (length ys) ≤ cond (not b) (1 + position_or_len p ys) 0 → (j : ℕ) → slice_get (y ∷ ys) j ≡ Some x
        → (length ys ≤ position_or_len p ys → (k : ℕ) (z : X) → slice_get ys k ≡ Some z → p z ≡ false) → p x ≡ false
    by_test true e less j there more = absurd (omega (arith, less))
    by_test false e less j there more = at e more (omega (arith, less)) j there

none_is : {X : Type 0} (p : X → Bool) (xs : List X) → position p xs ≡ None → length xs ≤ position_or_len p xs
none_is p xs none = by_test (nat_lt (position_or_len p xs) (length xs)) refl none
  where
    by_test : (b : Bool) → nat_lt (position_or_len p xs) (length xs) ≡ b → cond b (Some (position_or_len p xs)) None ≡ None → length xs ≤ position_or_len p xs
    by_test true e is = absurd (let c : Some (position_or_len p xs) ≡ None = is in cc)
    by_test false e is = ltb-false (position_or_len p xs) (length xs) e

-- nothing is used that isn't defined, and `main` is provided
linking_is : (used : Option ℕ) (main : Option Symbol) → linking.refusal_of used main ≡ None
    → (used ≡ None) × (linking.is_provided main ≡ true) × (linking.begins main ≡ true)
linking_is (Some pid) main e = absurd (let c : Some (Undefined pid) ≡ None = e in cc)
linking_is None main e = let both = by_tests (linking.is_provided main) (linking.begins main) refl refl e in (refl, both.0, both.1)
  where
    by_tests : (p b : Bool) → linking.is_provided main ≡ p → linking.begins main ≡ b → (if p then (if b then None else Some MainType) else Some NoMain) ≡ None
        → (linking.is_provided main ≡ true) × (linking.begins main ≡ true)
    by_tests true true p b e = (p, b)
    by_tests true false p b e = absurd (let c : Some MainType ≡ None = e in cc)
    by_tests false b p q e = absurd (let c : Some NoMain ≡ None = e in cc)

-- ## Functions of the program

stands_at : (fs : List Function) (syms : Table) → AllByRecursion (Stands syms) fs → (pid : ℕ) (f : Function) → function_at fs pid ≡ Some f
    → Stands syms f × (f.pid ≡ pid)
stands_at fs syms all pid f is = found_all (λ (x : Function). x.pid) (Stands syms) pid fs f all is

-- what is known of a name
symbol_if : (o : Option Symbol) (e : Entity) → entity_in o ≡ Some e → (s : Symbol) × (o ≡ Some s) × (s.entity ≡ e)
symbol_if None e is = absurd (let c : None ≡ Some e = is in cc)
symbol_if (Some s) e is = (s, refl, let c : s.entity ≡ e = cc in c)

-- ## The table

names_once : (syms : Table) → AreOnce (keys_of syms) → HasNamesOnce syms
names_once [] ok = tt
names_once (e ∷ es) ok = (others es ok.0, names_once es ok.1)
  where
    others : (fs : Table) → AllByRecursion (λ other. other ≢ e.0) (keys_of fs) → AllByRecursion (λ (other : List ℕ × Symbol). other.0 ≢ e.0) fs
    others [] ok = tt
    others (f ∷ fs) ok = (ok.0, others fs ok.1)

module _ (fs : List Function) where
  entities_from : (n : ℕ) (es : Table) → ((k : ℕ) (s : Symbol) → symbol_at es k ≡ Some s → IsEntityOf (function_at fs (n + k)) s) → AreEntities fs n es
  entities_from n [] h = tt
  entities_from n (e ∷ es) h = (
    subst (λ m. IsEntityOf (function_at fs m) e.1) (let q : n + 0 ≡ n = omega arith in q) (h 0 e.1 refl),
    entities_from (suc n) es (λ k s is.
        subst (λ m. IsEntityOf (function_at fs m) s) (let q : n + suc k ≡ suc n + k = omega arith in q) (h (suc k) s is)),
  )

  -- the row of a name
  skipped : (n m : ℕ) (b : Bool) (row : ShapeRow) (rest : List ShapeRow) → row.pid ≡ n → (n ≡ m → ⊥)
      → found (λ (x : ShapeRow). x.pid) m ((if b then row ∷ [] else []) ++ rest) ≡ found (λ (x : ShapeRow). x.pid) m rest
  skipped n m true row rest is ne = found_there (λ (x : ShapeRow). x.pid) m row rest (λ e. ne (sym is ∙ e))
  skipped n m false row rest is ne = refl

  row_found : (n : ℕ) (es : Table) (k : ℕ) (s : Symbol) → symbol_at es k ≡ Some s → (is_some (function_at fs (n + k)) || is_object s) ≡ true
      → shape_of_row (found (λ (x : ShapeRow). x.pid) (n + k) (rows_from fs n es)) ≡ Some (shape_of s.entity)
  row_found n [] k s is there = absurd (let c : None ≡ Some s = is in cc)
  row_found n (e ∷ es) zero s is there =
      let same : e.1 ≡ s = (let c : Some e.1 ≡ Some s = is in cc) in
      let q : n + 0 ≡ n = omega arith in
      let row : ShapeRow = record { pid = n; name = e.0; shape = shape_of e.1.entity } in
      let here : (is_some (function_at fs n) || is_object e.1) ≡ true =
      ap (λ m. is_some (function_at fs m) || is_object e.1) (sym q) ∙ ap (λ x. is_some (function_at fs (n + 0)) || is_object x) same ∙ there in
      ap (λ m. shape_of_row (found (λ (x : ShapeRow). x.pid) m (rows_from fs n (e ∷ es)))) q
      ∙ ap (λ b. shape_of_row (found (λ (x : ShapeRow). x.pid) n ((if b then row ∷ [] else []) ++ rows_from fs (suc n) es))) here
      ∙ ap shape_of_row (found_here (λ (x : ShapeRow). x.pid) n row (rows_from fs (suc n) es) refl)
      ∙ ap (λ (x : Symbol). Some (shape_of x.entity)) same
  row_found n (e ∷ es) (suc k) s is there =
      let q : n + suc k ≡ suc n + k = omega arith in
      let row : ShapeRow = record { pid = n; name = e.0; shape = shape_of e.1.entity } in
      ap shape_of_row (skipped n (n + suc k) (is_some (function_at fs n) || is_object e.1) row (rows_from fs (suc n) es) refl (λ x. absurd (omega (arith, x))))
      ∙ ap (λ m. shape_of_row (found (λ (x : ShapeRow). x.pid) m (rows_from fs (suc n) es))) q
      ∙ row_found (suc n) es k s is (ap (λ m. is_some (function_at fs m) || is_object s) (sym q) ∙ there)

  -- functions are among the routines of the table
  counted : (n : ℕ) (es : Table) → ((k : ℕ) (s : Symbol) → symbol_at es k ≡ Some s → HasFunction fs (n + k) → routine_part s.entity s.standing ≡ 1)
      → function_count fs n es ≤ routines es
  counted n [] h = omega arith
  counted n (e ∷ es) h =
      let more = counted (suc n) es (λ k s is has. h (suc k) s is
      (subst (HasFunction fs) (let q : suc n + k ≡ n + suc k = omega arith in q) has)) in
      let here = one (is_some (function_at fs n)) (λ has. h 0 e.1 refl (subst (HasFunction fs) (let q : n ≡ n + 0 = omega arith in q) has)) in
      omega (arith, more, here, sum_by-cons (λ (s : Symbol). routine_part s.entity s.standing) e.1 (values_of es))
    where
      one : (b : Bool) → (IsTrue b → routine_part e.1.entity e.1.standing ≡ 1) → (if b then 1 else 0) ≤ routine_part e.1.entity e.1.standing
      one true is = omega (arith, is refl)
      one false is = omega arith

-- ## Linked modules

is_function_shape : (e : Entity) (n : ℕ) (b : Bool) → shape_of e ≡ shape.Routine n b → (r : Option Ty) × (ps : List Ty) × (e ≡ entities.Function r ps)
is_function_shape (entities.Function r ps) n b is = (r, ps, refl)
is_function_shape (entities.Scalar ty fixed) n b is = absurd (differ is)
  where
    differ : {k m : ℕ} {c : Bool} → shape.Object k ≡ shape.Routine m c → ⊥
    differ e = cc
is_function_shape (entities.Array ty fixed len) n b is = absurd (differ is)
  where
    differ : {k m : ℕ} {c : Bool} → shape.Object k ≡ shape.Routine m c → ⊥
    differ e = cc

-- a name that has a symbol has its PID
named_if : (syms : Table) (name : List ℕ) (s : Symbol) → symbol_of syms name ≡ Some s → IsNamed syms name (place syms name)
    × (symbol_at syms (place syms name) ≡ Some s)
named_if [] name s is = absurd (let c : None ≡ Some s = is in cc)
named_if (e ∷ es) name s is = by_test (same_name name e.0) refl is (named_if es name s)
  where
    by_test : (b : Bool) → same_name name e.0 ≡ b → cond b (Some e.1) (symbol_of es name) ≡ Some s
        → (symbol_of es name ≡ Some s → IsNamed es name (place es name) × (symbol_at es (place es name) ≡ Some s))
        → IsNamed (e ∷ es) name (if b then 0 else suc (place es name)) × (symbol_at (e ∷ es) (if b then 0 else suc (place es name)) ≡ Some s)
    by_test true same is more = (same, is)
    by_test false same is more = let r = more is in ((same, r.0), r.1)

module _ (fs : List Function) (syms : Table) (whole : AreWhole fs syms) where
  stands : (pid : ℕ) (f : Function) → function_at fs pid ≡ Some f → Stands syms f × (f.pid ≡ pid)
  stands = stands_at fs syms whole.settled.functions

  -- a function's name is defined with the function's shape
  entity_of : (pid : ℕ) (f : Function) (s : Symbol) → function_at fs pid ≡ Some f → symbol_at syms pid ≡ Some s
      → (shape_of s.entity ≡ shape.Routine (length f.params) (is_some f.result)) × (s.standing ≡ standings.Defined)
  entity_of pid f s is there =
      let x = stands pid f is in
      let e : x.0.entity ≡ s.entity = some_is (sym x.0.is ∙ ap (entity_at syms) x.1 ∙ ap entity_in there) in
      let d : standings.Defined ≡ s.standing = some_is (sym x.0.defined ∙ ap (standing_at syms) x.1 ∙ ap standing_in there) in
      (ap shape_of (sym e) ∙ x.0.shape, sym d)

  is_entity : (pid : ℕ) (s : Symbol) → symbol_at syms pid ≡ Some s → IsEntityOf (function_at fs pid) s
  is_entity pid s there = by_function (function_at fs pid) refl
    where
      by_function : (o : Option Function) → function_at fs pid ≡ o → IsEntityOf o s
      by_function None is = tt
      by_function (Some f) is = (entity_of pid f s is there).0

  one_routine : (pid : ℕ) (s : Symbol) → symbol_at syms pid ≡ Some s → HasFunction fs pid → routine_part s.entity s.standing ≡ 1
  one_routine pid s there has = by_function (function_at fs pid) refl has
    where
      by_function : (o : Option Function) → function_at fs pid ≡ o → IsTrue (is_some o) → routine_part s.entity s.standing ≡ 1
      by_function None is has = absurd (false≢true has)
      by_function (Some f) is has =
          let x = entity_of pid f s is there in
          let e = is_function_shape s.entity (length f.params) (is_some f.result) x.0 in
          ap (λ y. routine_part y s.standing) e.2 ∙ ap (routine_part (entities.Function e.0 e.1)) x.1

  module _ (closed : first_open syms ≡ None) where
    -- what is used is provided
    provided : (pid : ℕ) (s : Symbol) → symbol_at syms pid ≡ Some s → s.used ≡ true → is_declared s.standing ≡ false
    provided pid s there used =
        let open_not = none_passes is_open (values_of syms) (none_is is_open (values_of syms) closed) pid s there in
        sym (ap (λ b. b && is_declared s.standing) used) ∙ open_not

    has_row : (pid : ℕ) (s : Symbol) → symbol_at syms pid ≡ Some s → (is_some (function_at fs pid) || is_object s) ≡ true
        → shape_at (rows_from fs 0 syms) pid ≡ Some (shape_of s.entity)
    has_row pid s there kept =
        let q : 0 + pid ≡ pid = omega arith in
        ap (shape_at (rows_from fs 0 syms)) (sym q)
        ∙ row_found fs 0 syms pid s there (ap (λ n. is_some (function_at fs n) || is_object s) q ∙ kept)

    or_right : (a b : Bool) → b ≡ true → (a || b) ≡ true
    or_right true b is = refl
    or_right false b is = is

    is_object_if : (s : Symbol) → is_declared s.standing ≡ false → 0 < words s.entity → is_object s ≡ true
    is_object_if s given some = ap (λ b. not b && nat_lt 0 (words s.entity)) given ∙ lt-ltb 0 (words s.entity) some

    object_shape : (pid n : ℕ) (s : Symbol) → symbol_at syms pid ≡ Some s → is_declared s.standing ≡ false → 0 < words s.entity
        → shape_of s.entity ≡ shape.Object n → NamesObject (rows_from fs 0 syms) pid
    object_shape pid n s there given some is =
        subst IsObjectShape
        (sym (has_row pid s there (or_right (is_some (function_at fs pid)) (is_object s) (is_object_if s given some)) ∙ ap (λ x. Some x) is)) tt

    pub covers : Covers (rows_from fs 0 syms) syms
    covers pid e is used = by_symbol (symbol_at syms pid) refl is used
      where
        by_entity : (s : Symbol) → symbol_at syms pid ≡ Some s → s.used ≡ true → (y : Entity) → s.entity ≡ y → Shows (rows_from fs 0 syms) pid y
        by_entity s there used (entities.Function r ps) same =
            has_row pid s there (ap (λ b. b || is_object s) (has s.standing refl)) ∙ ap (λ y. Some (shape_of y)) same
          where
            has : (st : Standing) → s.standing ≡ st → is_some (function_at fs pid) ≡ true
            has standings.Declared st = absurd (true≢false (ap is_declared (sym st) ∙ provided pid s there used))
            has standings.Tentative st = absurd
                (whole.settled.routines pid r ps standings.Tentative (ap entity_in there ∙ ap Some same) (ap standing_in there ∙ ap Some st))
            has standings.Defined st = whole.settled.routines pid r ps standings.Defined (ap entity_in there ∙ ap Some same)
                (ap standing_in there ∙ ap Some st)
        by_entity s there used (entities.Scalar ty fixed) same =
            object_shape pid 1 s there (provided pid s there used) (subst (λ y. 0 < words y) (sym same) (omega arith)) (ap shape_of same)
        by_entity s there used (entities.Array ty fixed (Some n)) same =
            object_shape pid n s there (provided pid s there used)
            (subst (λ y. 0 < words y) (sym same) (whole.settled.lengths pid ty fixed n (ap entity_in there ∙ ap Some same))) (ap shape_of same)
        by_entity s there used (entities.Array ty fixed None) same =
            absurd (whole.lengths pid ty fixed s.standing (ap entity_in there ∙ ap Some same) (ap standing_in there) (provided pid s there used))

        by_symbol : (o : Option Symbol) → symbol_at syms pid ≡ o → entity_in o ≡ Some e → used_in o ≡ true → Shows (rows_from fs 0 syms) pid e
        by_symbol None there is used = absurd (false≢true used)
        by_symbol (Some s) there is used = by_entity s there used e (let c : s.entity ≡ e = cc in c)

-- `main` is a function that is there, without parameters and with a value
module _ (fs : List Function) (syms : Table) (whole : AreWhole fs syms) where
  main_symbol : (o : Option Symbol) → linking.is_provided o ≡ true → linking.begins o ≡ true
      → (s : Symbol) × (o ≡ Some s) × (is_declared s.standing ≡ false) × (linking.is_main_type s.entity ≡ true)
  main_symbol None p b = absurd (false≢true p)
  main_symbol (Some s) p b = (s, refl, flipped (is_declared s.standing) p, b)
    where
      flipped : (c : Bool) → not c ≡ true → c ≡ false
      flipped true e = absurd (false≢true e)
      flipped false e = refl

  main_shape : (e : Entity) → linking.is_main_type e ≡ true → (r : Option Ty) × (ps : List Ty) × (e ≡ entities.Function r ps)
      × (shape_of e ≡ shape.Routine 0 true)
  main_shape (entities.Function None ps) is = absurd (false≢true is)
  main_shape (entities.Function (Some ty) ps) is =
      (Some ty, ps, refl, ap (λ n. shape.Routine n true) (eqb-true (length ps) 0 (and_right (same_type ty Int) (length ps == 0) is)))
    where
      and_right : (a b : Bool) → (a && b) ≡ true → b ≡ true
      and_right true b h = h
      and_right false b h = absurd (false≢true h)
  main_shape (entities.Scalar ty fixed) is = absurd (false≢true is)
  main_shape (entities.Array ty fixed len) is = absurd (false≢true is)

  main_has : (pid : ℕ) (s : Symbol) → symbol_at syms pid ≡ Some s → is_declared s.standing ≡ false → (r : Option Ty) (ps : List Ty)
      → s.entity ≡ entities.Function r ps
      → HasFunction fs pid
  main_has pid s there given r ps is = by_standing s.standing refl given
    where
      by_standing : (st : Standing) → s.standing ≡ st → is_declared st ≡ false → HasFunction fs pid
      by_standing standings.Declared st given = absurd (true≢false given)
      by_standing standings.Tentative st given =
          absurd (whole.settled.routines pid r ps standings.Tentative (ap entity_in there ∙ ap Some is) (ap standing_in there ∙ ap Some st))
      by_standing standings.Defined st given =
          whole.settled.routines pid r ps standings.Defined (ap entity_in there ∙ ap Some is) (ap standing_in there ∙ ap Some st)

pub linking_modules_are_linked : LinkingModulesAreLinked
linking_modules_are_linked modules ts syms x =
    let fs = functions_of ts in
    let whole = typed_programs_are_whole modules ts syms x.typed in
    let links = linking_is (first_open syms) (symbol_of syms linking.main_name) x.links in
    let main = main_symbol fs syms whole (symbol_of syms linking.main_name) links.1 links.2 in
    let named = named_if syms linking.main_name main.0 main.1 in
    let pid = place syms linking.main_name in
    let is_main : pid_of syms (codes "main") ≡ Some pid = pid_is syms linking.main_name pid named.0 in
    let of_main = main_shape fs syms whole main.0.entity main.3 in
    let limits = within syms whole.settled.sound.limits in (
      record {
        bound = λ p f is. (found_all (λ (y : Function). y.pid) IsBound p fs f whole.bound is).0;
        named = λ p f is. named_within syms p f (stands_at fs syms whole.settled.functions p f is);
        fits = whole.settled.sound.inits;
        main = pid;
        is_main = is_main;
        has_main = main_has fs syms whole pid main.0 named.1 main.2 of_main.0 of_main.1 of_main.2;
      },
      record {
        entities = entities_from fs 0 syms (λ k s there.
            subst (λ n. IsEntityOf (function_at fs n) s) (let q : k ≡ 0 + k = omega arith in q) (is_entity fs syms whole k s there));
        functions = λ p f is. (stands_at fs syms whole.settled.functions p f is).0.fits (rows_from fs 0 syms) (covers fs syms whole links.0);
        names = names_once syms whole.settled.names;
        few = omega (
          arith,
          limits.routines_few,
          counted fs 0 syms (λ k s there has. one_routine fs syms whole k s there (subst (HasFunction fs) (let q : 0 + k ≡ k = omega arith in q) has)),
        );
        pids = omega (arith, limits.names);
        main = λ p f place_is is.
            let same : pid ≡ p = some_is (sym is_main ∙ place_is) in
            let e = (entity_of fs syms whole p f main.0 is (ap (symbol_at syms) (sym same) ∙ named.1)).0 in
            parts (sym e ∙ of_main.3);
      },
    )
  where
    named_within : (syms : Table) (p : ℕ) (f : Function) → Stands syms f × (f.pid ≡ p) → p < length syms
    named_within syms p f x =
        let s = symbol_if (symbol_at syms p) x.0.entity (ap (entity_at syms) (sym x.1) ∙ x.0.is) in
        omega (arith, slice_get_within (values_of syms) p s.0 s.1, length-values_of syms)

    parts : {n : ℕ} {b : Bool} → shape.Routine n b ≡ shape.Routine 0 true → (n ≡ 0) × (b ≡ true)
    parts e = (cc, cc)

pub lowered_programs_are_right : LoweredProgramsAreRight
lowered_programs_are_right modules ts syms x entry count =
    let both = linking_modules_are_linked modules ts syms x in
    (lowered_is_program (functions_of ts) syms both.0 both.1 entry count, lowered_means_the_same ts syms both.0 entry count)

pub linking_modules_run : LinkingModulesRun
linking_modules_run modules ts syms x input turns =
    let right = lowered_programs_are_right modules ts syms x (λ p. 0) (λ p k. 0) in
    let r = has_run (lowered_program (λ p. 0) (λ p k. 0) (functions_of ts) syms) right.0 input turns in
    (r.run, sym (right.1 input turns) ∙ r.is)
