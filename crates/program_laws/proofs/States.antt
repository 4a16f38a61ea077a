-- States of the rules: names in scope go with the table, and scopes are nested. What stays behind a rule that declares
-- nothing for the program.
use Rattle.std.proofs.Common.{◌≡◌, ℕ, suc, ◌+◌, ◌-◌, ◌≤◌, Bool, true, false, List, [], ◌∷◌, ◌++◌, Option, Some, None, refl, sym, ap, ◌∙◌, subst, arith}
use Rattle.std.specs.Prelude.{if◌then◌else◌, ◌==◌, ⊤}
use Rattle.std.specs.Cmp.Lexicographic.{same_text}
use Rattle.std.proofs.lemmas.Bool.{true≢false, eqb-true, eq-eqb, ne_eqb}
use Rattle.hlo_num.specs.declared.word.Ty.{Ty}
use Rattle.sym_tables.specs.declared.entity.Entity.{Entity}
use Rattle.sym_tables.specs.Table.{Table, same_name}
use Rattle.c_types.specs.declared.binding.Binding.{Binding}
use Rattle.c_types.specs.declared.binding.Binding.TheVariants as bindings
use Rattle.c_types.specs.declared.binding.Extent.{Extent}
use Rattle.c_types.specs.DeclarationRules.{program_name, object_entity}
use Rattle.c_types.specs.Names.{bound_here, bind, enter, leave}
use Rattle.c_types.specs.Rules.{Here}
use Rattle.c_types.specs.Scopes.{Declared, latest, at_depth, outer, inner}
use Rattle.program_laws.specs.Growing.{entity_at, IsMore, Grows}
use Rattle.program_laws.proofs.Tables.{IsNamed, IsMarked, marked_same, marked_then, marked_grows, grows_named, more_then}

-- ## Names

-- an object that the table has with what the module knows of it
abbrev pub IsObjectAt : Table → ℕ → Ty → Bool → Extent → Type 0
IsObjectAt syms pid ty fixed extent = (e : Entity) × (entity_at syms pid ≡ Some e) × IsMore (object_entity ty fixed extent) e

-- an object's binding goes with the table, in the module with this number
abbrev pub IsCoherent : ℕ → Table → List ℕ → Binding → Type 0
IsCoherent number syms name (bindings.Object pid internal ty fixed extent) = IsNamed syms (program_name number internal name) pid
    × IsObjectAt syms pid ty fixed extent
IsCoherent number syms name (bindings.Parameter place ty fixed) = ⊤
IsCoherent number syms name (bindings.Local place ty fixed extent) = ⊤
IsCoherent number syms name (bindings.Constant w) = ⊤
IsCoherent number syms name (bindings.Library f) = ⊤
IsCoherent number syms name (bindings.Function pid internal) = ⊤

abbrev pub AreCoherent : ℕ → Table → List (Declared Binding) → Type 0
AreCoherent number syms [] = ⊤
AreCoherent number syms (d ∷ ds) = IsCoherent number syms d.name d.stands_for × AreCoherent number syms ds

pub one_grown : (number : ℕ) (a b : Table) → Grows a b → (name : List ℕ) (x : Binding) → IsCoherent number a name x → IsCoherent number b name x
one_grown number a b g name (bindings.Object pid internal ty fixed extent) ok =
    let e = ok.1 in
    let now = g.entities pid e.0 e.1 in
    (grows_named a b g (program_name number internal name) pid ok.0, (now.0, now.1, more_then (object_entity ty fixed extent) e.0 now.0 e.2 now.2))
one_grown number a b g name (bindings.Parameter place ty fixed) ok = tt
one_grown number a b g name (bindings.Local place ty fixed extent) ok = tt
one_grown number a b g name (bindings.Constant w) ok = tt
one_grown number a b g name (bindings.Library f) ok = tt
one_grown number a b g name (bindings.Function pid internal) ok = tt

pub all_grown : (number : ℕ) (a b : Table) → Grows a b → (ds : List (Declared Binding)) → AreCoherent number a ds → AreCoherent number b ds
all_grown number a b g [] ok = tt
all_grown number a b g (d ∷ ds) ok = (one_grown number a b g d.name d.stands_for ok.0, all_grown number a b g ds ok.1)

pub coherent_outer : (number : ℕ) (syms : Table) (n : ℕ) (ds : List (Declared Binding)) → AreCoherent number syms ds → AreCoherent number syms (outer n ds)
coherent_outer number syms n [] ok = tt
coherent_outer number syms n (d ∷ ds) ok = by_test (d.depth == n) (coherent_outer number syms n ds ok.1)
  where
    by_test : (b : Bool) → AreCoherent number syms (outer n ds) → AreCoherent number syms (if b then outer n ds else d ∷ ds)
    by_test true more = more
    by_test false more = ok

pub coherent_inner : (number : ℕ) (syms : Table) (n : ℕ) (ds : List (Declared Binding)) → AreCoherent number syms ds → AreCoherent number syms (inner n ds)
coherent_inner number syms n [] ok = tt
coherent_inner number syms n (d ∷ ds) ok = by_test (d.depth == n) (coherent_inner number syms n ds ok.1)
  where
    by_test : (b : Bool) → AreCoherent number syms (inner n ds) → AreCoherent number syms (if b then d ∷ inner n ds else [])
    by_test true more = (ok.0, more)
    by_test false more = tt

pub coherent_append : (number : ℕ) (syms : Table) (xs ys : List (Declared Binding)) → AreCoherent number syms xs → AreCoherent number syms ys
    → AreCoherent number syms (xs ++ ys)
coherent_append number syms [] ys p q = q
coherent_append number syms (x ∷ xs) ys p q = (p.0, coherent_append number syms xs ys p.1 q)

-- ## Scopes

-- the latest declarations are the deepest
abbrev pub IsNested : ℕ → List (Declared Binding) → Type 0
IsNested n [] = ⊤
IsNested n (d ∷ ds) = (d.depth ≤ n) × IsNested d.depth ds

pub nested_more : (n m : ℕ) (ds : List (Declared Binding)) → n ≤ m → IsNested n ds → IsNested m ds
nested_more n m [] le ok = tt
nested_more n m (d ∷ ds) le ok = (omega (arith, ok.0, le), ok.1)

pub nested_outer : (n m : ℕ) (ds : List (Declared Binding)) → n ≡ suc m → IsNested n ds → IsNested m (outer n ds)
nested_outer n m [] e ok = tt
nested_outer n m (d ∷ ds) e ok = by_test (d.depth == n) refl (nested_outer n m ds e)
  where
    differs : (d.depth ≡ n → ⊥) → d.depth ≤ m
    differs ne = omega (arith, ok.0, e, ne)

    by_test : (b : Bool) → (d.depth == n) ≡ b → (IsNested n ds → IsNested m (outer n ds)) → IsNested m (if b then outer n ds else d ∷ ds)
    by_test true is more = more (subst (λ k. IsNested k ds) (eqb-true d.depth n is) ok.1)
    by_test false is more = (differs (λ q. true≢false (sym (eq-eqb d.depth n q) ∙ is)), ok.1)

pub nested_inner : (n m : ℕ) (ds es : List (Declared Binding)) → m ≤ n → IsNested m es → IsNested n (inner n ds ++ es)
nested_inner n m [] es le ok = nested_more m n es le ok
nested_inner n m (d ∷ ds) es le ok = by_test (d.depth == n) refl (nested_inner n m ds es le ok)
  where
    by_test : (b : Bool) → (d.depth == n) ≡ b → IsNested n (inner n ds ++ es) → IsNested n ((if b then d ∷ inner n ds else []) ++ es)
    by_test true is more =
        let same = eqb-true d.depth n is in (omega (arith, same), subst (λ k. IsNested k (inner n ds ++ es)) (sym same) more)
    by_test false is more = nested_more m n es le ok

-- ## Names at file scope

abbrev pub at_file : List ℕ → List (Declared Binding) → Option Binding
at_file name [] = None
at_file name (d ∷ ds) = if d.depth == 0 then (if same_name name d.name then Some d.stands_for else at_file name ds) else at_file name ds

at_file_here : (name : List ℕ) (ds : List (Declared Binding)) → IsNested 0 ds → at_file name ds ≡ at_depth 0 (latest name ds)
at_file_here name [] ok = refl
at_file_here name (d ∷ ds) ok =
    let none : d.depth ≡ 0 = omega (arith, ok.0) in
    let rest = at_file_here name ds (subst (λ n. IsNested n ds) none ok.1) in
    ap (λ (b : Bool). if b then (if same_name name d.name then Some d.stands_for else at_file name ds) else at_file name ds) (eq-eqb d.depth 0 none)
    ∙ by_test (same_name name d.name) (eq-eqb d.depth 0 none) rest
  where
    by_test : (b : Bool) → (d.depth == 0) ≡ true → at_file name ds ≡ at_depth 0 (latest name ds)
        → (if b then Some d.stands_for else at_file name ds) ≡ at_depth 0 (if b then Some d else latest name ds)
    by_test true is rest = sym (ap (λ (c : Bool). if c then Some d.stands_for else None) is)
    by_test false is rest = rest

-- at file scope, what the innermost scope binds
pub file_is : (h : Here) (name : List ℕ) → h.names.depth ≡ 0 → IsNested h.names.depth h.names.declared → at_file name h.names.declared ≡ bound_here name h
file_is h name none ok =
    at_file_here name h.names.declared (subst (λ n. IsNested n h.names.declared) none ok)
    ∙ ap (λ n. at_depth n (latest name h.names.declared)) (sym none)

-- a deeper name is none of file scope
pub file_deeper : (name : List ℕ) (d : Declared Binding) (ds : List (Declared Binding)) → (d.depth ≡ 0 → ⊥) → at_file name (d ∷ ds) ≡ at_file name ds
file_deeper name d ds ne =
    ap (λ (b : Bool). if b then (if same_name name d.name then Some d.stands_for else at_file name ds) else at_file name ds) (ne_eqb d.depth 0 ne)

pub file_outer : (name : List ℕ) (n : ℕ) (ds : List (Declared Binding)) → (n ≡ 0 → ⊥) → at_file name (outer n ds) ≡ at_file name ds
file_outer name n [] ne = refl
file_outer name n (d ∷ ds) ne = by_test (d.depth == n) refl (file_outer name n ds ne)
  where
    by_test : (b : Bool) → (d.depth == n) ≡ b → at_file name (outer n ds) ≡ at_file name ds
        → at_file name (if b then outer n ds else d ∷ ds) ≡ at_file name (d ∷ ds)
    by_test true is more = more ∙ sym (file_deeper name d ds (λ e. ne (sym (eqb-true d.depth n is) ∙ e)))
    by_test false is more = refl

pub file_inner : (name : List ℕ) (n : ℕ) (ds es : List (Declared Binding)) → (n ≡ 0 → ⊥) → at_file name (inner n ds ++ es) ≡ at_file name es
file_inner name n [] es ne = refl
file_inner name n (d ∷ ds) es ne = by_test (d.depth == n) refl (file_inner name n ds es ne)
  where
    by_test : (b : Bool) → (d.depth == n) ≡ b → at_file name (inner n ds ++ es) ≡ at_file name es
        → at_file name ((if b then d ∷ inner n ds else []) ++ es) ≡ at_file name es
    by_test true is more = file_deeper name d (inner n ds ++ es) (λ e. ne (sym (eqb-true d.depth n is) ∙ e)) ∙ more
    by_test false is more = refl

-- a name that is bound at file scope
pub file_bound : (h : Here) (name other : List ℕ) (b : Binding) → h.names.depth ≡ 0 →
    at_file other (bind name b h).names.declared ≡ (if same_name other name then Some b else at_file other h.names.declared)
file_bound h name other b none =
    ap (λ (c : Bool). if c then (if same_name other name then Some b else at_file other h.names.declared) else at_file other h.names.declared)
    (eq-eqb h.names.depth 0 none)

-- ## States

pub record IsOk (number : ℕ) (h : Here) : Type 0 where
  pub coherent : AreCoherent number h.syms h.names.declared
  pub nested : IsNested h.names.depth h.names.declared

-- a state in the same scope, where nothing new was declared for the program
pub record After (number : ℕ) (o h : Here) : Type 0 where
  pub ok : IsOk number h
  pub depth : h.names.depth ≡ o.names.depth
  pub files : (name : List ℕ) (b : Binding) → at_file name o.names.declared ≡ Some b → at_file name h.names.declared ≡ Some b
  pub awaited : h.awaited ≡ o.awaited
  pub table : IsMarked o.syms h.syms

pub after_same : (number : ℕ) (h : Here) → IsOk number h → After number h h
after_same number h ok = record { ok = ok; depth = refl; files = λ name b is. is; awaited = refl; table = marked_same h.syms }

pub after_then : (number : ℕ) (a b c : Here) → After number a b → After number b c → After number a c
after_then number a b c p q = record {
  ok = q.ok;
  depth = q.depth ∙ p.depth;
  files = λ name x is. q.files name x (p.files name x is);
  awaited = q.awaited ∙ p.awaited;
  table = marked_then a.syms b.syms c.syms p.table q.table;
}

-- what is neither a name nor awaited may change, and names may be used
pub after_beside : (number : ℕ) (h g : Here) → g.names ≡ h.names → g.awaited ≡ h.awaited → IsMarked h.syms g.syms → IsOk number h → After number h g
after_beside number h g names awaited table ok = record {
  ok = record {
    coherent = subst (λ n. AreCoherent number g.syms n.declared) (sym names)
        (all_grown number h.syms g.syms (marked_grows h.syms g.syms table) h.names.declared ok.coherent);
    nested = subst (λ n. IsNested n.depth n.declared) (sym names) ok.nested;
  };
  depth = ap (λ n. n.depth) names;
  files = λ name b is. ap (λ n. at_file name n.declared) names ∙ is;
  awaited = awaited;
  table = table;
}

-- a name that file scope hasn't, unless the scope is deeper
abbrev pub IsFresh : List ℕ → Here → Type 0
IsFresh name h = (b : Binding) → at_file name h.names.declared ≡ Some b → h.names.depth ≡ 0 → ⊥

pub fresh_if : (number : ℕ) (name : List ℕ) (h : Here) → IsOk number h → bound_here name h ≡ None → IsFresh name h
fresh_if number name h ok none b is here =
    let c : None ≡ Some b = sym none ∙ sym (file_is h name here ok.nested) ∙ is in absurd cc

pub after_bound : (number : ℕ) (name : List ℕ) (b : Binding) (h : Here) → IsOk number h → IsCoherent number h.syms name b → IsFresh name h
    → After number h (bind name b h)
after_bound number name b h ok good fresh = record {
  ok = record { coherent = (good, ok.coherent); nested = (omega arith, ok.nested) };
  depth = refl;
  files = λ other x is. by_depth other x is (h.names.depth == 0) refl;
  awaited = refl;
  table = marked_same h.syms;
}
  where
    by_name : (other : List ℕ) (x : Binding) → at_file other h.names.declared ≡ Some x → h.names.depth ≡ 0 → (c : Bool) → same_name other name ≡ c
        → (if c then Some b else at_file other h.names.declared) ≡ Some x
    by_name other x is here true same = absurd (fresh x (ap (λ n. at_file n h.names.declared) (sym (same_text other name (sym same))) ∙ is) here)
    by_name other x is here false same = is

    by_depth : (other : List ℕ) (x : Binding) → at_file other h.names.declared ≡ Some x → (c : Bool) → (h.names.depth == 0) ≡ c
        → (if c then (if same_name other name then Some b else at_file other h.names.declared) else at_file other h.names.declared) ≡ Some x
    by_depth other x is true here = by_name other x is (eqb-true h.names.depth 0 here) (same_name other name) refl
    by_depth other x is false here = is

pub ok_entered : (number : ℕ) (h : Here) → IsOk number h → IsOk number (enter h)
ok_entered number h ok = record { coherent = ok.coherent; nested = nested_more h.names.depth (h.names.depth + 1) h.names.declared (omega arith) ok.nested }

-- a scope of its own was entered and is left again
pub after_left : (number : ℕ) (h g : Here) → After number (enter h) g → After number h (leave g)
after_left number h g x =
    let depth : g.names.depth ≡ suc h.names.depth = omega (arith, x.depth) in
    record {
      ok = record {
        coherent = coherent_outer number g.syms g.names.depth g.names.declared x.ok.coherent;
        nested = nested_outer g.names.depth (g.names.depth - 1) g.names.declared (omega (arith, depth)) x.ok.nested;
      };
      depth = omega (arith, depth);
      files = λ name b is. file_outer name g.names.depth g.names.declared (λ e. absurd (omega (arith, e, depth))) ∙ x.files name b is;
      awaited = x.awaited;
      table = x.table;
    }
