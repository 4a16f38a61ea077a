-- The table of names says what is in scope, also after a declaration was added or taken out.
use Rattle.std.proofs.Common.{◌≡◌, ℕ, ◌==◌, Bool, true, false, if◌then◌else◌, List, [], ◌∷◌, map, Option, Some, None, is_some, refl, sym, ap, ◌∙◌, subst}
use Rattle.std.proofs.lemmas.Bool.{eq-eqb, ne_eqb}
use Rattle.std.specs.Cmp.Lexicographic.{nat_list_eq_equiv}
use Rattle.std.specs.Map.{lookup}
use Rattle.std.specs.Option.{option_map}
use Rattle.sym_tables.specs.Table.{same_name}
use Rattle.c_types.specs.declared.scopes.Latest.{Latest}
use Rattle.c_types.specs.declared.scopes.Entry.{Entry}
use Rattle.c_types.specs.Scopes.{Declared, Scopes, latest, visible, at_depth, innermost, inner, outer}
use Rattle.c_types.specs.ScopeTable.{declaration, latest_entry, at_most_one, noted, Notes, IsKept, IsPopped}

-- two names that are the same have the same latest declaration
same_latest : {B : Type 0} (a b : List ℕ) (es : List (Entry B)) → same_name a b ≡ true → latest_entry a es ≡ latest_entry b es
same_latest a b [] h = refl
same_latest a b (e ∷ es) h = ap (λ t. if t then Some e.latest else latest_entry a es) (nat_list_eq_equiv.congr a b e.name h)
    ∙ ap (λ r. if same_name b e.name then Some e.latest else r) (same_latest a b es h)

pub kept_added : {B : Type 0} (e : Entry B) (old new : List (List ℕ × Option (Latest B))) (es fs : List (Entry B)) → IsKept old es
    → Notes e.name (Some e.latest) old new → e.hides ≡ noted e.name old → fs ≡ e ∷ es → IsKept new fs
kept_added e old new es fs k n h is = subst (IsKept new) (sym is) (record {
  latest = λ q. n q ∙ ap (λ t. if t then Some e.latest else noted q old) (nat_list_eq_equiv.symm e.name q) ∙ ap
      (λ r. if same_name q e.name then Some e.latest else r) (k.latest q);
  hidden = (h ∙ k.latest e.name, k.hidden);
})

after_popped : {B : Type 0} (e : Entry B) (old : List (List ℕ × Option (Latest B))) (es : List (Entry B)) (q : List ℕ) (b : Bool) → IsKept old (e ∷ es)
    → same_name e.name q ≡ b → (if b then e.hides else noted q old) ≡ latest_entry q es
after_popped e old es q true k s = k.hidden.0 ∙ same_latest e.name q es s
after_popped e old es q false k s = k.latest q ∙ ap (λ t. if t then Some e.latest else latest_entry q es) (nat_list_eq_equiv.symm q e.name ∙ s)

some_of : {B : Type 0} (o : Option (Option (Latest B))) (l : Latest B) → at_most_one o ≡ Some l → is_some o ≡ true
some_of {B} None l h = let n : Option (Latest B) = None in let c : n ≡ Some l = h in absurd cc
some_of (Some o) l h = refl

-- the table has the name of the latest declaration
known_first : {B : Type 0} (e : Entry B) (old : List (List ℕ × Option (Latest B))) (es : List (Entry B)) → IsKept old (e ∷ es)
    → is_some (lookup (same_name e.name) old) ≡ true
known_first e old es k = some_of (lookup (same_name e.name) old) e.latest
    (k.latest e.name ∙ ap (λ t. if t then Some e.latest else latest_entry e.name es) (nat_list_eq_equiv.refl e.name))

pub kept_popped : {B : Type 0} (e : Entry B) (old new : List (List ℕ × Option (Latest B))) (es fs : List (Entry B)) (found : Bool) → IsKept old fs → fs ≡ e ∷ es
    → found ≡ is_some (lookup (same_name e.name) old) → (found ≡ true → Notes e.name e.hides old new) → IsKept new es
kept_popped e old new es fs found kept is is_found written =
    let k : IsKept old (e ∷ es) = subst (IsKept old) is kept in
    let n : Notes e.name e.hides old new = written (is_found ∙ known_first e old es k) in
    record {
      latest = λ q. n q ∙ after_popped e old es q (same_name e.name q) k refl;
      hidden = k.hidden.1;
    }

latest_visible : {B : Type 0} (name : List ℕ) (es : List (Entry B))
    → option_map (λ d. d.stands_for) (latest name (map declaration es)) ≡ option_map (λ l. l.stands_for) (latest_entry name es)
latest_visible name [] = refl
latest_visible name (e ∷ es) =
    elim (same_name name e.name) as (λ b. option_map (λ d. d.stands_for) (if b then Some (declaration e) else latest name (map declaration es)) ≡ option_map
    (λ l. l.stands_for) (if b then Some e.latest else latest_entry name es)) [
      | true ↦ refl
      | false ↦ latest_visible name es
    ]

at_entry : {B : Type 0} → ℕ → Option (Latest B) → Option B
at_entry depth None = None
at_entry depth (Some l) = if l.depth == depth then Some l.stands_for else None

latest_innermost : {B : Type 0} (depth : ℕ) (name : List ℕ) (es : List (Entry B))
    → at_depth depth (latest name (map declaration es)) ≡ at_entry depth (latest_entry name es)
unfolding at_entry
latest_innermost depth name [] = refl
latest_innermost depth name (e ∷ es) =
    elim (same_name name e.name) as (λ b. at_depth depth (if b then Some (declaration e) else latest name (map declaration es)) ≡ at_entry depth
    (if b then Some e.latest else latest_entry name es)) [
      | true ↦ refl
      | false ↦ latest_innermost depth name es
    ]

module _ {B : Type 0} (name : List ℕ) (table : List (List ℕ × Option (Latest B))) (es : List (Entry B)) (depth : ℕ) (s : Scopes B) (r : Option (Latest B))
    (kept : IsKept table es) (found : r ≡ noted name table) (is : let t : Scopes B = record { declared = map declaration es; depth = depth } in t ≡ s) where
  pub visible_is : option_map (λ l. l.stands_for) r ≡ visible name s
  visible_is = ap (option_map (λ l. l.stands_for)) (found ∙ kept.latest name) ∙ sym (latest_visible name es) ∙ ap (visible name) is

  innermost_is : at_entry depth r ≡ innermost name s
  innermost_is = ap (at_entry depth) (found ∙ kept.latest name) ∙ sym (latest_innermost depth name es) ∙ ap (innermost name) is

module _ {B : Type 0} (name : List ℕ) (table : List (List ℕ × Option (Latest B))) (es : List (Entry B)) (depth : ℕ) (s : Scopes B) (kept : IsKept table es)
    (is : let t : Scopes B = record { declared = map declaration es; depth = depth } in t ≡ s) where
  pub innermost_none : None ≡ noted name table → None ≡ innermost name s
  unfolding at_entry
  innermost_none found = innermost_is name table es depth s None kept found is

  pub innermost_here : (l : Latest B) → Some l ≡ noted name table → l.depth ≡ depth → Some l.stands_for ≡ innermost name s
  unfolding at_entry
  innermost_here l found h = ap (λ b. if b then Some l.stands_for else None) (sym (eq-eqb l.depth depth h)) ∙ innermost_is name table es depth s (Some l) kept
      found is

  pub innermost_elsewhere : (l : Latest B) → Some l ≡ noted name table → (l.depth ≡ depth → ⊥) → None ≡ innermost name s
  unfolding at_entry
  innermost_elsewhere l found h = ap (λ b. if b then Some l.stands_for else None) (sym (ne_eqb l.depth depth h)) ∙ innermost_is name table es depth s (Some l)
      kept found is

-- scopes without their latest declaration, which is one of the innermost scope
pub outer_popped : {B : Type 0} (old new : Scopes B) (d : Declared B) → IsPopped old d new → outer old.depth old.declared ≡ outer old.depth new.declared
outer_popped old new d p = ap (outer old.depth) p.was ∙ ap (λ b. if b then outer old.depth new.declared else d ∷ new.declared)
    (eq-eqb d.depth old.depth p.innermost)

pub inner_popped : {B : Type 0} (old new : Scopes B) (d : Declared B) → IsPopped old d new → inner old.depth old.declared ≡ d ∷ inner old.depth new.declared
inner_popped old new d p = ap (inner old.depth) p.was ∙ ap (λ b. if b then d ∷ inner old.depth new.declared else []) (eq-eqb d.depth old.depth p.innermost)
