-- What the lines of a profile set, from none on.
use Rattle.std.proofs.Common.{◌≡◌, ℕ, Bool, true, false, List, [], ◌∷◌, ◌++◌, Some, None, nat_eq, refl, sym, ap, ◌∙◌, subst, append_assoc, append-nil, inl, inr}
use Rattle.std.specs.Cmp.{nat_eq_equiv}
use Rattle.std.specs.Cmp.Lexicographic.{nat_list_eq_equiv}
use Rattle.std.specs.List.{AllByRecursion, IsDistinct}
use Rattle.std.specs.Map.{keys_of, lookup}
use Rattle.std.proofs.lemmas.Bool.{cases_Bool}
use Rattle.std.proofs.lemmas.List.Sorted.{IsPermutation-map}
use Rattle.std.proofs.lemmas.Map.Keys.{IsDistinct-IsPermutation}
use Rattle.indexmap.specs.IndexMap.{insert_entry}
use Rattle.indexmap.proofs.MapLemmas.{absent_before, absent_from_lookup, insert_entry-absent, lookup_permutation}
use Rattle.profile.specs.Names.{Names, Tallied, or_nothing, same_name, with_entry, with_site}
use Rattle.profile.specs.Texts.{Line, Entry, set_by, set_by_all}
use Rattle.profile.specs.Writing.{AreOf, HasEachOnce, HaveSameCounts, site_lines}

pub set_append : (xs ys : List Line) (ns : Names) → set_by_all (xs ++ ys) ns ≡ set_by_all ys (set_by_all xs ns)
set_append [] ys ns = refl
set_append (x ∷ xs) ys ns = set_append xs ys (set_by x ns)

module _ {K V : Type 0} (eq : K → K → Bool) (k : K) (same : eq k k ≡ true) where
  -- a key that isn't in the front isn't the first one
  behind : (e : K × V) (es : List (K × V)) → eq k e.0 ≡ false → lookup (eq k) (e ∷ es) ≡ None → lookup (eq k) es ≡ None
  behind e es not h = let q : lookup (eq k) (e ∷ es) ≡ lookup (eq k) es = rw not refl in sym q ∙ h

  found : (e : K × V) (es : List (K × V)) → eq k e.0 ≡ true → lookup (eq k) (e ∷ es) ≡ None → ⊥
  found e es is h =
      let q : lookup (eq k) (e ∷ es) ≡ Some e.1 = rw is refl in
      let r : Some e.1 ≡ None = sym q ∙ h in
      absurd cc

  lookup_last : (es : List (K × V)) (v : V) → lookup (eq k) es ≡ None → lookup (eq k) (es ++ (k, v) ∷ []) ≡ Some v
  lookup_last [] v h = rw same refl
  lookup_last (e ∷ es) v h = elim (cases_Bool (eq k e.0)) [
    | inl is ↦ absurd (found e es is h)
    | inr not ↦ rw not (lookup_last es v (behind e es not h))
  ]

  insert_last : (es : List (K × V)) (v w : V) → lookup (eq k) es ≡ None → insert_entry eq (es ++ (k, v) ∷ []) k w ≡ es ++ (k, w) ∷ []
  insert_last [] v w h = rw same refl
  insert_last (e ∷ es) v w h = elim (cases_Bool (eq k e.0)) [
    | inl is ↦ absurd (found e es is h)
    | inr not ↦ rw not (ap (λ (l : List (K × V)). e ∷ l) (insert_last es v w (behind e es not h)))
  ]

keys_again : {V : Type 0} (done : List (List ℕ × V)) (n : List ℕ) (v w : V) (es : List (List ℕ × V))
    → keys_of ((done ++ (n, w) ∷ []) ++ es) ≡ keys_of (done ++ (n, v) ∷ es)
keys_again [] n v w es = refl
keys_again (d ∷ done) n v w es = ap (λ (l : List (List ℕ)). d.0 ∷ l) (keys_again done n v w es)

-- the lines of one name, behind others
module _ (done : Names) (n : List ℕ) (new : lookup (same_name n) done ≡ None) (c : ℕ) where
  itself : same_name n n ≡ true
  itself = nat_list_eq_equiv.refl n

  abbrev with_sites : List (ℕ × ℕ) → Names
  with_sites sites = done ++ (n, record { entry = c; sites = sites }) ∷ []

  entry_set : with_entry n c done ≡ with_sites []
  entry_set = ap (λ (t : Tallied). insert_entry same_name done n (record t { entry = c })) (ap or_nothing new)
      ∙ insert_entry-absent same_name n (record { entry = c; sites = [] }) done (absent_from_lookup (same_name n) done new)

  site_set : (sites : List (ℕ × ℕ)) (k d : ℕ) → with_site n k d (with_sites sites) ≡ with_sites (insert_entry nat_eq sites k d)
  site_set sites k d =
      let t : Tallied = record { entry = c; sites = sites } in
      ap (λ (u : Tallied). insert_entry same_name (with_sites sites) n (record u { sites = insert_entry nat_eq u.sites k d }))
      (ap or_nothing (lookup_last same_name n itself done t new))
      ∙ insert_last same_name n itself done t (record { entry = c; sites = insert_entry nat_eq sites k d }) new

  sites_set : (before rest : List (ℕ × ℕ)) → IsDistinct nat_eq (keys_of (before ++ rest))
      → set_by_all (site_lines n rest) (with_sites before) ≡ with_sites (before ++ rest)
  sites_set before [] distinct = ap with_sites (sym (append-nil before))
  sites_set before (s ∷ rest) distinct =
      let absent = absent_from_lookup (nat_eq s.0) before (absent_before nat_eq_equiv before rest s distinct) in
      let one = site_set before s.0 s.1 ∙ ap with_sites (insert_entry-absent nat_eq s.0 s.1 before absent) in
      let moved = append_assoc before (s ∷ []) rest in
      ap (set_by_all (site_lines n rest)) one
      ∙ sites_set (before ++ s ∷ []) rest (subst (λ (l : List (ℕ × ℕ)). IsDistinct nat_eq (keys_of l)) (sym moved) distinct)
      ∙ ap with_sites moved

  name_set : (sites : List (ℕ × ℕ)) → IsDistinct nat_eq (keys_of sites) → set_by_all (Entry n c ∷ site_lines n sites) done ≡ with_sites sites
  name_set sites distinct = ap (set_by_all (site_lines n sites)) entry_set ∙ sites_set [] sites distinct

pub record SetsAgain (ls : List Line) (done ns : Names) : Type 0 where
  pub again : Names
  pub set : set_by_all ls done ≡ done ++ again
  pub same : HaveSameCounts ns again

-- the lines of names set the same counts
pub sets_again : (ns done : Names) (ls : List Line) → AreOf ns ls → AllByRecursion (λ e. HasEachOnce e.1) ns → IsDistinct same_name (keys_of (done ++ ns))
    → SetsAgain ls done ns
sets_again [] done ls of once distinct = record { again = []; set = ap (λ (l : List Line). set_by_all l done) of ∙ sym (append-nil done); same = tt }
sets_again (e ∷ ns) done ls of once distinct =
    let here = of.2 in
    let t : Tallied = record { entry = (e.1).entry; sites = here.sites } in
    let apart = IsDistinct-IsPermutation nat_eq nat_eq_equiv.symm _ _ (IsPermutation-map (λ s. s.0) (e.1).sites here.sites here.each) once.0 in
    let first = ap (λ (l : List Line). set_by_all l done) here.are ∙ name_set done e.0 (absent_before nat_list_eq_equiv done ns e distinct) (e.1).entry
    here.sites apart in
    let others = sets_again ns (done ++ (e.0, t) ∷ []) of.1 of.3 once.1 (subst (IsDistinct same_name) (sym (keys_again done e.0 e.1 t ns)) distinct) in
    record {
      again = (e.0, t) ∷ others.again;
      set = ap (λ (l : List Line). set_by_all l done) of.4 ∙ set_append of.0 of.1 done ∙ ap (set_by_all of.1) first ∙ others.set ∙ append_assoc done
          ((e.0, t) ∷ []) others.again;
      same = (
        refl,
        refl,
        (λ k. lookup_permutation nat_eq_equiv (e.1).sites here.sites here.each apart (nat_eq k) (λ x y. nat_eq_equiv.congr k x y)),
        others.same,
      );
    }
