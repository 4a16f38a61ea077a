-- What the changes of a table do to what is known of its names.
use Rattle.std.proofs.Common.{◌≡◌, ◌≢◌, ℕ, zero, suc, ◌+◌, ◌<◌, Bool, true, false, cond, not, List, [], ◌∷◌, length, Option, Some, None, refl, sym, ap}
use Rattle.std.proofs.Common.{ap₂, ◌∙◌, subst, arith, nat_eq, nat_lt, min, position, lt-ltb}
use Rattle.std.specs.Prelude.{if◌then◌else◌, ⊤, ◌&&◌, ◌==◌}
use Rattle.std.specs.Bool.{beq}
use Rattle.std.specs.List.{AllByRecursion}
use Rattle.std.specs.Cmp.Lexicographic.{pointwise}
use Rattle.std.specs.Option.{option_eq}
use Rattle.std.proofs.lemmas.Bool.Decides.{nat_tests}
use Rattle.std.specs.Map.{keys_of, values_of}
use Rattle.std.proofs.lemmas.Bool.{true≢false, false≢true, eqb-true, eq-eqb, ltb-true}
use Rattle.hlo_num.specs.declared.word.Ty.{Ty}
use Rattle.hlo_num.specs.declared.word.Word.{Word}
use Rattle.indexmap.specs.IndexMap.{insert_entry}
use Rattle.il_core.specs.declared.shape.ShapeRow.{ShapeRow}
use Rattle.sym_tables.specs.declared.entity.Entity.{Entity}
use Rattle.sym_tables.specs.declared.entity.Entity.TheVariants.{Function, Scalar, Array}
use Rattle.sym_tables.specs.declared.symbol.Standing.{Standing}
use Rattle.sym_tables.specs.declared.symbol.Standing.TheVariants.{Declared, Tentative, Defined}
use Rattle.sym_tables.specs.declared.symbol.Symbol.{Symbol}
use Rattle.sym_tables.specs.Entities.{composite, compatible, same_type}
use Rattle.sym_tables.proofs.Agreement.{same_type_is}
use Rattle.sym_tables.specs.Sound.{IsSound, IsKept, FitsWords}
use Rattle.sym_tables.specs.Symbols.{met, later, is_open}
use Rattle.sym_tables.specs.declared.fault.SymFault.TheVariants.{TypeClash, Duplicate, TooMany}
use Rattle.sym_tables.specs.Table.{Table, same_name, pid_of, number_of, symbol_of, symbol_at, enter, mark, initialised, refusal, refusal_of, clashes}
use Rattle.sym_tables.specs.Table.{repeats, is_past_limits, routines, elements}
use Rattle.sym_tables.proofs.Changes.{kept_used, kept_given}
use Rattle.sym_tables.proofs.Meets.{fits_met}
use Rattle.sym_tables.proofs.Tables.{mark_at, given_at}
use Rattle.list_laws.proofs.Elements.{all_at}
use Rattle.program_laws.specs.Settled.{AreOnce}
use Rattle.program_laws.specs.Growing.{entity_in, standing_in, used_in, entity_at, standing_at, is_used_at, IsMore, IsFurther, Grows, Shows, Covers}

-- the first name with these bytes has this PID
abbrev pub IsNamed : Table → List ℕ → ℕ → Type 0
IsNamed [] name pid = ⊥
IsNamed (e ∷ es) name zero = same_name name e.0 ≡ true
IsNamed (e ∷ es) name (suc pid) = (same_name name e.0 ≡ false) × IsNamed es name pid

pub named_once : (syms : Table) (name : List ℕ) (p q : ℕ) → IsNamed syms name p → IsNamed syms name q → p ≡ q
named_once [] name p q a b = absurd a
named_once (e ∷ es) name zero zero a b = refl
named_once (e ∷ es) name zero (suc q) a b = absurd (true≢false (sym a ∙ b.0))
named_once (e ∷ es) name (suc p) zero a b = absurd (true≢false (sym b ∙ a.0))
named_once (e ∷ es) name (suc p) (suc q) a b = ap suc (named_once es name p q a.1 b.1)

pub named_number : (syms : Table) (name : List ℕ) (p : ℕ) → IsNamed syms name p → number_of syms name ≡ p
named_number [] name p a = absurd a
named_number (e ∷ es) name zero a = ap (λ b. cond (not b) (1 + number_of es name) 0) a
named_number (e ∷ es) name (suc p) a = ap (λ b. cond (not b) (1 + number_of es name) 0) a.0 ∙ ap (λ n. 1 + n) (named_number es name p a.1) ∙ omega arith

named_within : (syms : Table) (name : List ℕ) (p : ℕ) → IsNamed syms name p → p < length (keys_of syms)
named_within [] name p a = absurd a
named_within (e ∷ es) name zero a = omega arith
named_within (e ∷ es) name (suc p) a = omega (arith, named_within es name p a.1)

-- a name's number is its place, or that of no name
by_number : (syms : Table) (name : List ℕ) → number_of syms name < length (keys_of syms) → IsNamed syms name (number_of syms name)
by_number [] name less = absurd (omega (arith, less))
by_number (e ∷ es) name less = by_test (same_name name e.0) refl less (by_number es name)
  where
    by_test : (b : Bool) → same_name name e.0 ≡ b → cond (not b) (1 + number_of es name) 0 < suc (length (keys_of es))
        → (number_of es name < length (keys_of es) → IsNamed es name (number_of es name))
        → IsNamed (e ∷ es) name (cond (not b) (1 + number_of es name) 0)
    by_test true is le more = is
    by_test false is le more =
        subst (IsNamed (e ∷ es) name) (let q : suc (number_of es name) ≡ 1 + number_of es name = omega arith in q) (is, more (omega (arith, le)))

-- ## A symbol is put at a name

abbrev pub put : List ℕ → Symbol → Table → Table
put name v syms = insert_entry same_name syms name v

abbrev pub place : Table → List ℕ → ℕ
place [] name = 0
place (e ∷ es) name = if same_name name e.0 then 0 else suc (place es name)

pub place_number : (syms : Table) (name : List ℕ) → number_of syms name ≡ place syms name
place_number [] name = refl
place_number (e ∷ es) name = by_test (same_name name e.0) (place_number es name)
  where
    by_test : (b : Bool) → number_of es name ≡ place es name → cond (not b) (1 + number_of es name) 0 ≡ (if b then 0 else suc (place es name))
    by_test true more = refl
    by_test false more = omega (arith, more)

pub record IsPut (syms : Table) (name : List ℕ) (v : Symbol) (at : ℕ) (new : Table) : Type 0 where
  pub here : symbol_at new at ≡ Some v
  pub others : (pid : ℕ) → (pid ≡ at → ⊥) → symbol_at new pid ≡ symbol_at syms pid
  pub known : symbol_of syms name ≡ symbol_at syms at
  pub named : IsNamed new name at
  pub names : (other : List ℕ) (pid : ℕ) → IsNamed syms other pid → IsNamed new other pid
  pub once : AreOnce (keys_of syms) → AreOnce (keys_of new)

pub reflexive : (name : List ℕ) → same_name name name ≡ true
reflexive [] = refl
reflexive (b ∷ name) = ap (λ c. c && same_name name name) (itself b) ∙ reflexive name
  where
    itself : (b : ℕ) → nat_eq b b ≡ true
    itself b = grind (arith, nat_tests)

first_others : (e : List ℕ × Symbol) (es : Table) (v : Symbol) (pid : ℕ) → (pid ≡ 0 → ⊥) → symbol_at ((e.0, v) ∷ es) pid ≡ symbol_at (e ∷ es) pid
first_others e es v zero ne = absurd (ne refl)
first_others e es v (suc pid) ne = refl

first_names : (e : List ℕ × Symbol) (es : Table) (v : Symbol) (other : List ℕ) (pid : ℕ) → IsNamed (e ∷ es) other pid → IsNamed ((e.0, v) ∷ es) other pid
first_names e es v other zero h = h
first_names e es v other (suc pid) h = h

later_others : (e : List ℕ × Symbol) (es fs : Table) (at pid : ℕ) → ((q : ℕ) → (q ≡ at → ⊥) → symbol_at fs q ≡ symbol_at es q) → (pid ≡ suc at → ⊥)
    → symbol_at (e ∷ fs) pid ≡ symbol_at (e ∷ es) pid
later_others e es fs at zero more ne = refl
later_others e es fs at (suc pid) more ne = more pid (λ q. ne (ap suc q))

later_names : (e : List ℕ × Symbol) (es fs : Table) (other : List ℕ) (pid : ℕ) → ((q : ℕ) → IsNamed es other q → IsNamed fs other q)
    → IsNamed (e ∷ es) other pid → IsNamed (e ∷ fs) other pid
later_names e es fs other zero more h = h
later_names e es fs other (suc pid) more h = (h.0, more pid h.1)

none_there : (v : Symbol) (name : List ℕ) (pid : ℕ) → (pid ≡ 0 → ⊥) → symbol_at ((name, v) ∷ []) pid ≡ symbol_at [] pid
none_there v name zero ne = absurd (ne refl)
none_there v name (suc pid) ne = refl

-- a key that isn't another name stays apart from the keys with that name
others_put : (k : List ℕ) (syms : Table) (name : List ℕ) (v : Symbol) → (name ≡ k → ⊥) → AllByRecursion (λ other. other ≢ k) (keys_of syms)
    → AllByRecursion (λ other. other ≢ k) (keys_of (put name v syms))
others_put k [] name v ne ok = (ne, tt)
others_put k (e ∷ es) name v ne ok = by_test (same_name name e.0) (others_put k es name v ne ok.1)
  where
    by_test : (b : Bool) → AllByRecursion (λ other. other ≢ k) (keys_of (put name v es))
        → AllByRecursion (λ other. other ≢ k) (keys_of (if b then (e.0, v) ∷ es else e ∷ put name v es))
    by_test true more = ok
    by_test false more = (ok.0, more)

pub is_put : (syms : Table) (name : List ℕ) (v : Symbol) → IsPut syms name v (place syms name) (put name v syms)
is_put [] name v = record {
  here = refl;
  others = none_there v name;
  known = refl;
  named = reflexive name;
  names = λ other pid h. absurd h;
  once = λ h. (tt, tt);
}
is_put (e ∷ es) name v = by_test (same_name name e.0) refl (is_put es name v)
  where
    by_test : (b : Bool) → same_name name e.0 ≡ b → IsPut es name v (place es name) (put name v es)
        → IsPut (e ∷ es) name v (if b then 0 else suc (place es name)) (if b then (e.0, v) ∷ es else e ∷ put name v es)
    by_test true is r = record {
      here = refl;
      others = first_others e es v;
      known = ap (λ c. cond c (Some e.1) (symbol_of es name)) is;
      named = is;
      names = first_names e es v;
      once = λ h. h;
    }
    by_test false is r = record {
      here = r.here;
      others = λ pid. later_others e es (put name v es) (place es name) pid r.others;
      known = ap (λ c. cond c (Some e.1) (symbol_of es name)) is ∙ r.known;
      named = (is, r.named);
      names = λ other pid. later_names e es (put name v es) other pid (r.names other);
      once = λ h. (
        others_put e.0 es name v (λ q. false≢true (sym is ∙ ap (λ n. same_name name n) (sym q) ∙ reflexive name)) h.0,
        r.once h.1,
      );
    }

-- ## Names and PIDs

pub pid_is : (syms : Table) (name : List ℕ) (pid : ℕ) → IsNamed syms name pid → pid_of syms name ≡ Some pid
pid_is syms name pid h =
    ap (λ n. cond (nat_lt n (length (keys_of syms))) (Some n) None) (named_number syms name pid h)
    ∙ ap (λ b. cond b (Some pid) None) (lt-ltb pid (length (keys_of syms)) (named_within syms name pid h))

pub named_by : (syms : Table) (name : List ℕ) (pid : ℕ) → pid_of syms name ≡ Some pid → IsNamed syms name pid
named_by syms name pid h = by_test (nat_lt (number_of syms name) (length (keys_of syms))) refl h
  where
    by_test : (b : Bool) → nat_lt (number_of syms name) (length (keys_of syms)) ≡ b → cond b (Some (number_of syms name)) None ≡ Some pid
        → IsNamed syms name pid
    by_test true less is =
        subst (IsNamed syms name) (let c : number_of syms name ≡ pid = cc in c)
        (by_number syms name (ltb-true (number_of syms name) (length (keys_of syms)) less))
    by_test false less is = absurd (let c : None ≡ Some pid = is in cc)

-- ## Entities

pub more_same : (e : Entity) → IsMore e e
more_same (Function gives params) = refl
more_same (Scalar ty fixed) = refl
more_same (Array ty fixed (Some n)) = refl
more_same (Array ty fixed None) = (None, refl)

pub more_then : (a b c : Entity) → IsMore a b → IsMore b c → IsMore a c
more_then (Function gives params) b c p q = subst (λ x. IsMore x c) p q
more_then (Scalar ty fixed) b c p q = subst (λ x. IsMore x c) p q
more_then (Array ty fixed (Some n)) b c p q = subst (λ x. IsMore x c) p q
more_then (Array ty fixed None) b c p q = by_length p.0 (subst (λ x. IsMore x c) p.1 q)
  where
    by_length : (n : Option ℕ) → IsMore (Array ty fixed n) c → IsMore (Array ty fixed None) c
    by_length None r = r
    by_length (Some n) r = (Some n, r)

pub further_then : (a b c : Standing) → IsFurther a b → IsFurther b c → IsFurther a c
further_then a b c p q = (λ h. q.0 (p.0 h), λ h. q.1 (p.1 h))

and_both : (a b : Bool) → (a && b) ≡ true → (a ≡ true) × (b ≡ true)
and_both true b h = (refl, h)
and_both false b h = absurd (false≢true h)

same_fixed : (a b : Bool) → beq a b ≡ true → a ≡ b
same_fixed true true h = refl
same_fixed true false h = absurd (false≢true h)
same_fixed false true h = absurd (false≢true h)
same_fixed false false h = refl

-- what was known is known still, in what both say together
pub composite_more : (known said : Entity) → compatible known said ≡ true → IsMore known (composite known said)
composite_more (Function r ps) said h = refl
composite_more (Scalar t f) said h = refl
composite_more (Array t f (Some n)) said h = refl
composite_more (Array t f None) (Function r ps) h = absurd (false≢true h)
composite_more (Array t f None) (Scalar u g) h = absurd (false≢true h)
composite_more (Array t f None) (Array u g m) h =
    let types = and_both (same_type t u) (beq f g) (and_both (same_type t u && beq f g) true h).0 in
    (m, ap₂ (λ x y. Array x y m) (sym (same_type_is t u types.0)) (sym (same_fixed f g types.1)))

results_same : (r s : Option Ty) → option_eq same_type r s ≡ true → r ≡ s
results_same None None h = refl
results_same None (Some u) h = absurd (false≢true h)
results_same (Some t) None h = absurd (false≢true h)
results_same (Some t) (Some u) h = ap Some (same_type_is t u h)

types_same : (ps qs : List Ty) → pointwise same_type ps qs ≡ true → ps ≡ qs
types_same [] [] h = refl
types_same [] (q ∷ qs) h = absurd (false≢true h)
types_same (p ∷ ps) [] h = absurd (false≢true h)
types_same (p ∷ ps) (q ∷ qs) h = let both = and_both (same_type p q) (pointwise same_type ps qs) h in ap₂ (λ x xs. x ∷ xs) (same_type_is p q both.0)
    (types_same ps qs both.1)

pub said_more : (known said : Entity) → compatible known said ≡ true → IsMore said (composite known said)
said_more (Function r ps) (Function s qs) h = functions_same r s ps qs h
  where
    functions_same : (r s : Option Ty) (ps qs : List Ty) → compatible (Function r ps) (Function s qs) ≡ true → Function r ps ≡ Function s qs
    functions_same r s ps qs h =
        let both = and_both (option_eq same_type r s) (pointwise same_type ps qs) h in
        ap₂ Function (results_same r s both.0) (types_same ps qs both.1)
said_more (Function r ps) (Scalar u g) h = absurd (false≢true h)
said_more (Function r ps) (Array u g m) h = absurd (false≢true h)
said_more (Scalar t f) (Function s qs) h = absurd (false≢true h)
said_more (Scalar t f) (Scalar u g) h =
    let types = and_both (same_type t u) (beq f g) h in ap₂ Scalar (same_type_is t u types.0) (same_fixed f g types.1)
said_more (Scalar t f) (Array u g m) h = absurd (false≢true h)
said_more (Array t f n) (Function s qs) h = absurd (false≢true h)
said_more (Array t f n) (Scalar u g) h = absurd (false≢true h)
said_more (Array t f None) (Array u g m) h = more_same (Array u g m)
said_more (Array t f (Some n)) (Array u g None) h =
    let types = and_both (same_type t u) (beq f g) (and_both (same_type t u && beq f g) true h).0 in
    (Some n, ap₂ (λ x y. Array x y (Some n)) (same_type_is t u types.0) (same_fixed f g types.1))
said_more (Array t f (Some n)) (Array u g (Some m)) h =
    let all = and_both (same_type t u && beq f g) (n == m) h in
    let types = and_both (same_type t u) (beq f g) all.0 in
    ap₂ (λ x y. Array x y (Some n)) (same_type_is t u types.0) (same_fixed f g types.1) ∙ ap (λ k. Array u g (Some k)) (eqb-true n m all.1)

-- ## Growth

pub grows_same : (syms : Table) → Grows syms syms
grows_same syms = record {
  names = λ name pid h. h;
  entities = λ pid e h. (e, h, more_same e);
  standings = λ pid s h. (s, h, ((λ d. d), (λ d. d)));
  used = λ pid h. h;
}

pub grows_then : (a b c : Table) → Grows a b → Grows b c → Grows a c
grows_then a b c p q = record {
  names = λ name pid h. q.names name pid (p.names name pid h);
  entities = λ pid e h.
      let x = p.entities pid e h in
      let y = q.entities pid x.0 x.1 in
      (y.0, y.1, more_then e x.0 y.0 x.2 y.2);
  standings = λ pid s h.
      let x = p.standings pid s h in
      let y = q.standings pid x.0 x.1 in
      (y.0, y.1, further_then s x.0 y.0 x.2 y.2);
  used = λ pid h. q.used pid (p.used pid h);
}

pub grows_named : (a b : Table) → Grows a b → (name : List ℕ) (pid : ℕ) → IsNamed a name pid → IsNamed b name pid
grows_named a b g name pid h = named_by b name pid (g.names name pid (pid_is a name pid h))

shows_less : (rows : List ShapeRow) (pid : ℕ) (e now : Entity) → IsMore e now → Shows rows pid now → Shows rows pid e
shows_less rows pid (Function gives params) now more h = subst (λ x. Shows rows pid x) more h
shows_less rows pid (Scalar ty fixed) now more h = subst (λ x. Shows rows pid x) more h
shows_less rows pid (Array ty fixed (Some n)) now more h = subst (λ x. Shows rows pid x) more h
shows_less rows pid (Array ty fixed None) now more h = subst (λ x. Shows rows pid x) more.1 h

pub covers_before : (rows : List ShapeRow) (old new : Table) → Grows old new → Covers rows new → Covers rows old
covers_before rows old new g c pid e is used =
    let x = g.entities pid e is in shows_less rows pid e x.0 x.2 (c pid x.0 x.1 (g.used pid used))

-- ## A declaration or definition is taken in

abbrev pub Accepts : Option Symbol → Standing → Entity → Type 0
Accepts None standing said = ⊤
Accepts (Some s) standing said = (compatible s.entity said ≡ true) × (repeats (Some s) standing ≡ false)

accepted : (known : Option Symbol) (standing : Standing) (said : Entity) (after : Table) → refusal_of known standing said after ≡ None
    → Accepts known standing said
accepted None standing said after h = tt
accepted (Some s) standing said after h = by_tests (compatible s.entity said) (repeats (Some s) standing) refl refl h
  where
    by_tests : (b r : Bool) → compatible s.entity said ≡ b → repeats (Some s) standing ≡ r
        → (if (if b then false else true) then Some TypeClash else
        (if r then Some Duplicate else (if is_past_limits after then Some TooMany else None))) ≡ None
        → (compatible s.entity said ≡ true) × (repeats (Some s) standing ≡ false)
    by_tests false r eb er e = absurd (let c : Some TypeClash ≡ None = e in cc)
    by_tests true true eb er e = absurd (let c : Some Duplicate ≡ None = e in cc)
    by_tests true false eb er e = (eb, er)

pub record IsEntering (standing : Standing) (said : Entity) (name : List ℕ) (syms : Table) (at : ℕ) (new : Table) : Type 0 where
  pub here : symbol_at new at ≡ Some (met standing said [] (symbol_at syms at))
  pub others : (pid : ℕ) → (pid ≡ at → ⊥) → symbol_at new pid ≡ symbol_at syms pid
  pub named : IsNamed new name at
  pub names : (other : List ℕ) (pid : ℕ) → IsNamed syms other pid → IsNamed new other pid
  pub accepts : Accepts (symbol_at syms at) standing said
  pub known : symbol_of syms name ≡ symbol_at syms at
  pub once : AreOnce (keys_of syms) → AreOnce (keys_of new)
  pub sound : IsSound syms → IsSound new

-- no limit is passed, and initial words fit
within_limits : (known : Option Symbol) (standing : Standing) (said : Entity) (after : Table) → refusal_of known standing said after ≡ None
    → is_past_limits after ≡ false
within_limits known standing said after h = by_tests (clashes known said) (repeats known standing) (is_past_limits after) h
  where
    by_tests : (c r p : Bool) → (if c then Some TypeClash else (if r then Some Duplicate else (if p then Some TooMany else None))) ≡ None → p ≡ false
    by_tests true r p e = absurd (let c : Some TypeClash ≡ None = e in cc)
    by_tests false true p e = absurd (let c : Some Duplicate ≡ None = e in cc)
    by_tests false false true e = absurd (let c : Some TooMany ≡ None = e in cc)
    by_tests false false false e = refl

all_put : (P : Symbol → Type 0) (syms : Table) (name : List ℕ) (v : Symbol) → AllByRecursion P (values_of syms) → P v
    → AllByRecursion P (values_of (put name v syms))
all_put P [] name v ok good = (good, tt)
all_put P (e ∷ es) name v ok good = by_test (same_name name e.0) (all_put P es name v ok.1 good)
  where
    by_test : (b : Bool) → AllByRecursion P (values_of (put name v es)) → AllByRecursion P (values_of (if b then (e.0, v) ∷ es else e ∷ put name v es))
    by_test true more = (good, ok.1)
    by_test false more = (ok.0, more)

met_fits : (standing : Standing) (said : Entity) (syms : Table) (at : ℕ) (o : Option Symbol) → symbol_at syms at ≡ o → Accepts o standing said
    → AllByRecursion FitsWords (values_of syms) → FitsWords (met standing said [] o)
met_fits standing said syms at None there ok inits = omega arith
met_fits standing said syms at (Some s) there ok inits =
    fits_met standing said [] s ok.0 (all_at FitsWords (values_of syms) at s inits there) (omega arith)

pub entering : (standing : Standing) (said : Entity) (name : List ℕ) (syms : Table) → refusal standing name said [] syms ≡ None
    → IsEntering standing said name syms (place syms name) (enter standing name said [] syms)
entering standing said name syms ok =
    let p = is_put syms name (met standing said [] (symbol_of syms name)) in
    record {
      here = p.here ∙ ap (λ o. Some (met standing said [] o)) p.known;
      others = p.others;
      named = p.named;
      names = p.names;
      accepts = subst (λ o. Accepts o standing said) p.known (accepted (symbol_of syms name) standing said (enter standing name said [] syms) ok);
      known = p.known;
      once = p.once;
      sound = λ s. record {
        limits = within_limits (symbol_of syms name) standing said (enter standing name said [] syms) ok;
        inits = all_put FitsWords syms name (met standing said [] (symbol_of syms name)) s.inits
            (met_fits standing said syms (place syms name) (symbol_of syms name) (sym p.known)
            (accepted (symbol_of syms name) standing said (enter standing name said [] syms) ok) s.inits);
      };
    }

-- what a name stands for then, and how far it is defined
abbrev pub entity_met : Option Symbol → Entity → Entity
entity_met None said = said
entity_met (Some s) said = composite s.entity said

abbrev pub standing_met : Option Symbol → Standing → Standing
standing_met None standing = standing
standing_met (Some s) standing = later s.standing standing

entity_of_met : (o : Option Symbol) (standing : Standing) (said : Entity) → (met standing said [] o).entity ≡ entity_met o said
entity_of_met None standing said = refl
entity_of_met (Some s) standing said = refl

standing_of_met : (o : Option Symbol) (standing : Standing) (said : Entity) → (met standing said [] o).standing ≡ standing_met o standing
standing_of_met None standing said = refl
standing_of_met (Some s) standing said = refl

used_of_met : (o : Option Symbol) (standing : Standing) (said : Entity) → used_in o ≡ true → (met standing said [] o).used ≡ true
used_of_met None standing said h = absurd (false≢true h)
used_of_met (Some s) standing said h = h

further_met : (a b : Standing) → IsFurther a (later a b)
further_met Declared b = ((λ h. absurd (true≢false h)), (λ h. absurd (false≢true h)))
further_met Tentative Declared = ((λ h. refl), (λ h. absurd (false≢true h)))
further_met Tentative Tentative = ((λ h. refl), (λ h. absurd (false≢true h)))
further_met Tentative Defined = ((λ h. refl), (λ h. absurd (false≢true h)))
further_met Defined b = ((λ h. refl), (λ h. refl))

-- a place is this one or another
pub at_or_not : {A : Type 0} (p q : ℕ) → (p ≡ q → A) → ((p ≡ q → ⊥) → A) → A
at_or_not {A} p q same other = by_test (p == q) refl
  where
    by_test : (b : Bool) → (p == q) ≡ b → A
    by_test true is = same (eqb-true p q is)
    by_test false is = other (λ e. true≢false (sym (eq-eqb p q e) ∙ is))

module _ {standing : Standing} {said : Entity} {name : List ℕ} {syms : Table} {at : ℕ} {new : Table} (x : IsEntering standing said name syms at new) where
  pub entity_here : entity_at new at ≡ Some (entity_met (symbol_at syms at) said)
  entity_here = ap entity_in x.here ∙ ap Some (entity_of_met (symbol_at syms at) standing said)

  pub standing_here : standing_at new at ≡ Some (standing_met (symbol_at syms at) standing)
  standing_here = ap standing_in x.here ∙ ap Some (standing_of_met (symbol_at syms at) standing said)

  pub entity_other : (pid : ℕ) → (pid ≡ at → ⊥) → entity_at new pid ≡ entity_at syms pid
  entity_other pid ne = ap entity_in (x.others pid ne)

  pub standing_other : (pid : ℕ) → (pid ≡ at → ⊥) → standing_at new pid ≡ standing_at syms pid
  standing_other pid ne = ap standing_in (x.others pid ne)

  pub said_here : IsMore said (entity_met (symbol_at syms at) said)
  said_here = by_known (symbol_at syms at) x.accepts
    where
      by_known : (o : Option Symbol) → Accepts o standing said → IsMore said (entity_met o said)
      by_known None ok = more_same said
      by_known (Some s) ok = said_more s.entity said ok.0

  pub entering_grows : Grows syms new
  entering_grows = record {
    names = λ other pid h. pid_is new other pid (x.names other pid (named_by syms other pid h));
    entities = λ pid e h.
        at_or_not pid at
        (λ same. subst (λ p. (now : Entity) × (entity_at new p ≡ Some now) × IsMore e now) (sym same)
        (entities (symbol_at syms at) e (subst (λ p. entity_at syms p ≡ Some e) same h) x.accepts entity_here))
        (λ ne. (e, entity_other pid ne ∙ h, more_same e));
    standings = λ pid s h.
        at_or_not pid at
        (λ same. subst (λ p. (now : Standing) × (standing_at new p ≡ Some now) × IsFurther s now) (sym same)
        (standings (symbol_at syms at) s (subst (λ p. standing_at syms p ≡ Some s) same h) standing_here))
        (λ ne. (s, standing_other pid ne ∙ h, ((λ d. d), (λ d. d))));
    used = λ pid h.
        at_or_not pid at
        (λ same. subst (λ p. is_used_at new p ≡ true) (sym same)
        (ap used_in x.here ∙ used_of_met (symbol_at syms at) standing said (subst (λ p. is_used_at syms p ≡ true) same h)))
        (λ ne. ap used_in (x.others pid ne) ∙ h);
  }
    where
      entities : (o : Option Symbol) (e : Entity) → entity_in o ≡ Some e → Accepts o standing said → entity_at new at ≡ Some (entity_met o said)
          → (now : Entity) × (entity_at new at ≡ Some now) × IsMore e now
      entities None e h ok is = absurd (let c : None ≡ Some e = h in cc)
      entities (Some s) e h ok is =
          let same : s.entity ≡ e = (let c : Some s.entity ≡ Some e = h in cc) in
          (composite s.entity said, is, subst (λ y. IsMore y (composite s.entity said)) same (composite_more s.entity said ok.0))

      standings : (o : Option Symbol) (s : Standing) → standing_in o ≡ Some s → standing_at new at ≡ Some (standing_met o standing)
          → (now : Standing) × (standing_at new at ≡ Some now) × IsFurther s now
      standings None s h is = absurd (let c : None ≡ Some s = h in cc)
      standings (Some y) s h is =
          let same : y.standing ≡ s = (let c : Some y.standing ≡ Some s = h in cc) in
          (later y.standing standing, is, subst (λ z. IsFurther z (later y.standing standing)) same (further_met y.standing standing))

-- ## Marks

pub record IsMarked (old new : Table) : Type 0 where
  pub names : keys_of new ≡ keys_of old
  pub entities : (pid : ℕ) → entity_at new pid ≡ entity_at old pid
  pub standings : (pid : ℕ) → standing_at new pid ≡ standing_at old pid
  pub used : (pid : ℕ) → is_used_at old pid ≡ true → is_used_at new pid ≡ true
  pub sound : IsSound old → IsSound new

pub marked_same : (syms : Table) → IsMarked syms syms
marked_same syms = record { names = refl; entities = λ pid. refl; standings = λ pid. refl; used = λ pid h. h; sound = λ s. s }

pub marked_then : (a b c : Table) → IsMarked a b → IsMarked b c → IsMarked a c
marked_then a b c p q = record {
  names = q.names ∙ p.names;
  entities = λ pid. q.entities pid ∙ p.entities pid;
  standings = λ pid. q.standings pid ∙ p.standings pid;
  used = λ pid h. q.used pid (p.used pid h);
  sound = λ s. q.sound (p.sound s);
}

pub marked_grows : (old new : Table) → IsMarked old new → Grows old new
marked_grows old new m = record {
  names = λ name pid h. ap (position (same_name name)) m.names ∙ h;
  entities = λ pid e h. (e, m.entities pid ∙ h, more_same e);
  standings = λ pid s h. (s, m.standings pid ∙ h, ((λ d. d), (λ d. d)));
  used = m.used;
}

-- the numbers of a table, as its code keeps them
kept : (syms : Table) → IsSound syms → IsKept syms (routines syms) (elements syms) 0
kept syms s = record { sound = s; routines_counted = refl; elements_counted = refl; least_open = tt }

sound_marked : (syms : Table) (at : ℕ) → IsSound syms → IsSound (mark syms at)
sound_marked syms at s = by_symbol (symbol_at syms at) refl
  where
    none : (syms : Table) (at : ℕ) → symbol_at syms at ≡ None → mark syms at ≡ syms
    none [] at h = refl
    none (e ∷ es) zero h = absurd (let c : Some e.1 ≡ None = h in cc)
    none (e ∷ es) (suc at) h = ap (λ l. e ∷ l) (none es at h)

    by_symbol : (o : Option Symbol) → symbol_at syms at ≡ o → IsSound (mark syms at)
    by_symbol None there = subst IsSound (sym (none syms at there)) s
    by_symbol (Some x) there =
        let v : Symbol = record x { used = true } in
        subst IsSound (mark_at syms at x there)
        (kept_used syms at (routines syms) (elements syms) 0 (if is_open v then min 0 at else 0) x (is_open v) (kept syms s) there refl refl).sound

sound_initialised : (syms : Table) (at : ℕ) (init : List Word) → IsSound syms → IsSound (initialised syms at init)
sound_initialised syms at init s = by_symbol (symbol_at syms at) refl
  where
    none : (syms : Table) (at : ℕ) → symbol_at syms at ≡ None → initialised syms at init ≡ syms
    none [] at h = refl
    none (e ∷ es) zero h = absurd (let c : Some e.1 ≡ None = h in cc)
    none (e ∷ es) (suc at) h = ap (λ l. e ∷ l) (none es at h)

    by_symbol : (o : Option Symbol) → symbol_at syms at ≡ o → IsSound (initialised syms at init)
    by_symbol None there = subst IsSound (sym (none syms at there)) s
    by_symbol (Some x) there =
        subst IsSound (given_at syms at x init there) (kept_given syms at (routines syms) (elements syms) 0 x init (kept syms s) there).sound

pub marked : (syms : Table) (at : ℕ) → IsMarked syms (mark syms at)
marked syms at = record {
  names = names syms at;
  entities = entities syms at;
  standings = standings syms at;
  used = used syms at;
  sound = sound_marked syms at;
}
  where
    names : (syms : Table) (at : ℕ) → keys_of (mark syms at) ≡ keys_of syms
    names [] at = refl
    names (e ∷ es) zero = refl
    names (e ∷ es) (suc at) = ap (λ l. e.0 ∷ l) (names es at)

    entities : (syms : Table) (at pid : ℕ) → entity_at (mark syms at) pid ≡ entity_at syms pid
    entities [] at pid = refl
    entities (e ∷ es) zero zero = refl
    entities (e ∷ es) zero (suc pid) = refl
    entities (e ∷ es) (suc at) zero = refl
    entities (e ∷ es) (suc at) (suc pid) = entities es at pid

    standings : (syms : Table) (at pid : ℕ) → standing_at (mark syms at) pid ≡ standing_at syms pid
    standings [] at pid = refl
    standings (e ∷ es) zero zero = refl
    standings (e ∷ es) zero (suc pid) = refl
    standings (e ∷ es) (suc at) zero = refl
    standings (e ∷ es) (suc at) (suc pid) = standings es at pid

    used : (syms : Table) (at pid : ℕ) → is_used_at syms pid ≡ true → is_used_at (mark syms at) pid ≡ true
    used [] at pid h = h
    used (e ∷ es) zero zero h = refl
    used (e ∷ es) zero (suc pid) h = h
    used (e ∷ es) (suc at) zero h = h
    used (e ∷ es) (suc at) (suc pid) h = used es at pid h

pub used_now : (syms : Table) (at : ℕ) (e : Entity) → entity_at syms at ≡ Some e → is_used_at (mark syms at) at ≡ true
used_now [] at e h = absurd (let c : None ≡ Some e = h in cc)
used_now (x ∷ es) zero e h = refl
used_now (x ∷ es) (suc at) e h = used_now es at e h

pub initialised_marked : (syms : Table) (at : ℕ) (init : List Word) → IsMarked syms (initialised syms at init)
initialised_marked syms at init = record {
  names = names syms at;
  entities = entities syms at;
  standings = standings syms at;
  used = used syms at;
  sound = sound_initialised syms at init;
}
  where
    names : (syms : Table) (at : ℕ) → keys_of (initialised syms at init) ≡ keys_of syms
    names [] at = refl
    names (e ∷ es) zero = refl
    names (e ∷ es) (suc at) = ap (λ l. e.0 ∷ l) (names es at)

    entities : (syms : Table) (at pid : ℕ) → entity_at (initialised syms at init) pid ≡ entity_at syms pid
    entities [] at pid = refl
    entities (e ∷ es) zero zero = refl
    entities (e ∷ es) zero (suc pid) = refl
    entities (e ∷ es) (suc at) zero = refl
    entities (e ∷ es) (suc at) (suc pid) = entities es at pid

    standings : (syms : Table) (at pid : ℕ) → standing_at (initialised syms at init) pid ≡ standing_at syms pid
    standings [] at pid = refl
    standings (e ∷ es) zero zero = refl
    standings (e ∷ es) zero (suc pid) = refl
    standings (e ∷ es) (suc at) zero = refl
    standings (e ∷ es) (suc at) (suc pid) = standings es at pid

    used : (syms : Table) (at pid : ℕ) → is_used_at syms pid ≡ true → is_used_at (initialised syms at init) pid ≡ true
    used [] at pid h = h
    used (e ∷ es) zero zero h = h
    used (e ∷ es) zero (suc pid) h = h
    used (e ∷ es) (suc at) zero h = h
    used (e ∷ es) (suc at) (suc pid) h = used es at pid h
