-- Clones of a table, at the places of the groups with their keys.
use Rattle.std.proofs.Common.{◌≡◌, ℕ, zero, suc, ◌+◌, ◌<◌, List, [], ◌∷◌, ◌++◌, map, Bool, true, false, Option, Some, None, refl, ap, ap₂, sym, ◌∙◌}
use Rattle.std.proofs.Common.{arith, length, nat_eq, not, position, replicate, set, get_or, take}
use Rattle.std.specs.Prelude.{◌&&◌, if◌then◌else◌, cond, reverse}
use Rattle.std.specs.Cmp.{IsEquivalence}
use Rattle.std.specs.Cmp.Lexicographic.{pointwise}
use Rattle.std.specs.List.{AllByRecursion, IsDistinct, position_or_len}
use Rattle.std.specs.Map.{keys_of, lookup}
use Rattle.std.proofs.lemmas.List.{length-map, reverse-append, take_more}
use Rattle.std.proofs.lemmas.Cmp.{and_equiv, lists_equiv, nat_eq_equiv, on_equiv}
use Rattle.indexmap.proofs.MapLemmas.{Found-position, Missing-position}
use Rattle.il_laws.specs.Clone.{Fixed}
use Rattle.il_laws.specs.Table.{Row}
use Rattle.plan_laws.specs.Groups.{is_row_of, same_fixed}
use Rattle.clone_groups.specs.Gathering.{Joint}
use Rattle.clone_groups.specs.Keys.{fixed_in, same_key}
use Rattle.clone_groups.specs.Ranking.{clone_for}
use Rattle.clone_groups.specs.declared.keys.CloneKey.{CloneKey}

abbrev Entries : Type 0
Entries = List (CloneKey × Joint)

key_equiv : IsEquivalence same_key
key_equiv =
    and_equiv (on_equiv (λ (k : CloneKey). k.callee) nat_eq_equiv)
    (on_equiv (λ (k : CloneKey). k.fixed.items)
    (lists_equiv (and_equiv (on_equiv (λ (x : ℕ × ℕ). x.0) nat_eq_equiv) (on_equiv (λ (x : ℕ × ℕ). x.1) nat_eq_equiv))))

same_numbers : (a b : List (ℕ × ℕ)) → same_fixed (fixed_in a) (fixed_in b) ≡ pointwise (λ x y. nat_eq x.0 y.0 && nat_eq x.1 y.1) a b
same_numbers [] [] = refl
same_numbers [] (y ∷ b) = refl
same_numbers (x ∷ a) [] = refl
same_numbers (x ∷ a) (y ∷ b) = ap (λ (c : Bool). (nat_eq x.0 y.0 && nat_eq x.1 y.1) && c) (same_numbers a b)

-- the first key that passes a test
abbrev First : (CloneKey → Bool) → List CloneKey → ℕ → Type 0
First t [] i = ⊥
First t (k ∷ ks) zero = t k ≡ true
First t (k ∷ ks) (suc i) = (t k ≡ false) × First t ks i

first_of : (t : CloneKey → Bool) (ks : List CloneKey) (i : ℕ) → position_or_len t ks ≡ i → i < length ks → First t ks i
first_of t [] i e lt = absurd (omega arith)
first_of t (k ∷ ks) i e lt = by_test (t k) i refl e lt (λ n same within. first_of t ks n same within)
  where
    by_test : (b : Bool) (i : ℕ) → t k ≡ b → cond (not b) (1 + position_or_len t ks) 0 ≡ i → i < length (k ∷ ks)
        → ((n : ℕ) → position_or_len t ks ≡ n → n < length ks → First t ks n) → First t (k ∷ ks) i
    by_test true zero is e lt rest = is
    by_test true (suc i) is e lt rest = absurd (omega (arith, e))
    by_test false zero is e lt rest = absurd (omega (arith, e))
    by_test false (suc i) is e lt rest = (is, rest i (omega (arith, e)) (omega (arith, lt)))

none_of : (t : CloneKey → Bool) (es : Entries) → lookup t es ≡ None → AllByRecursion (λ k. t k ≡ false) (keys_of es)
none_of t [] e = tt
none_of t (x ∷ es) e = by_test (t x.0) refl e (λ none. none_of t es none)
  where
    by_test : (b : Bool) → t x.0 ≡ b → cond b (Some x.1) (lookup t es) ≡ None → (lookup t es ≡ None → AllByRecursion (λ k. t k ≡ false) (keys_of es))
        → AllByRecursion (λ k. t k ≡ false) (keys_of (x ∷ es))
    by_test true is e rest = absurd cc
    by_test false is e rest = (is, rest e)

module _ (key : CloneKey) (row : Row) (callee : key.callee ≡ row.callee) (fixed : fixed_in key.fixed.items ≡ row.fixed) (rows : List Row) where
  row_test : (e : CloneKey × Joint) → is_row_of e.0.callee (fixed_in e.0.fixed.items) row ≡ same_key key e.0
  row_test e =
      ap₂ {A = ℕ} {B = List Fixed} {C = Bool} (λ c f. nat_eq c e.0.callee && same_fixed f (fixed_in e.0.fixed.items)) (sym callee) (sym fixed)
      ∙ ap (λ (b : Bool). nat_eq key.callee e.0.callee && b) (same_numbers key.fixed.items e.0.fixed.items)

  clone_if : (b : Bool) (e : CloneKey × Joint) → same_key key e.0 ≡ b → clone_for (row ∷ rows) e ≡ (if b then Some row.clone else clone_for rows e)
  clone_if b e is = ap (λ (c : Bool). if c then Some row.clone else clone_for rows e) (row_test e ∙ is)

  clones_apart : (es : Entries) → AllByRecursion (λ k. same_key key k ≡ false) (keys_of es) → map (clone_for rows) es ≡ map (clone_for (row ∷ rows)) es
  clones_apart [] h = refl
  clones_apart (e ∷ es) h = ap₂ {A = Option ℕ} {B = List (Option ℕ)} {C = List (Option ℕ)} (λ c cs. c ∷ cs) (sym (clone_if false e h.0)) (clones_apart es h.1)

  others : (first : CloneKey) (ks : List CloneKey) → same_key key first ≡ true → AllByRecursion (λ k. same_key first k ≡ false) ks
      → AllByRecursion (λ k. same_key key k ≡ false) ks
  others first [] e h = tt
  others first (k ∷ ks) e h = (key_equiv.congr key first k e ∙ h.0, others first ks e h.1)

  clones_set : (es : Entries) (at : ℕ) → First (same_key key) (keys_of es) at → IsDistinct same_key (keys_of es)
      → set (map (clone_for rows) es) at (Some row.clone) ≡ map (clone_for (row ∷ rows)) es
  unfolding IsDistinct
  clones_set [] at h d = absurd h
  clones_set (e ∷ es) zero h d =
      ap₂ {A = Option ℕ} {B = List (Option ℕ)} {C = List (Option ℕ)} (λ c cs. c ∷ cs) (sym (clone_if true e h))
      (clones_apart es (others e.0 (keys_of es) h d.0))
  clones_set (e ∷ es) (suc at) h d =
      ap₂ {A = Option ℕ} {B = List (Option ℕ)} {C = List (Option ℕ)} (λ c cs. c ∷ cs) (sym (clone_if false e h.0)) (clones_set es at h.1 d.1)

  module _ (es : Entries) (distinct : IsDistinct same_key (keys_of es)) (clones : List (Option ℕ)) (was : clones ≡ map (clone_for rows) es) where
    pub clone_found : (at : ℕ) → position (same_key key) (keys_of es) ≡ Some at → set clones at (Some row.clone) ≡ map (clone_for (row ∷ rows)) es
    clone_found at p =
        let found = Found-position (same_key key) es at p in
        let size : length (keys_of es) ≡ length es = length-map es (λ (e : CloneKey × Joint). e.0) in
        let within = found.within in
        ap (λ (cs : List (Option ℕ)). set cs at (Some row.clone)) was
        ∙ clones_set es at (first_of (same_key key) (keys_of es) at found.or_len (omega arith)) distinct

    pub clone_absent : position (same_key key) (keys_of es) ≡ None → clones ≡ map (clone_for (row ∷ rows)) es
    clone_absent p = was ∙ clones_apart es (none_of (same_key key) es (Missing-position (same_key key) es p).value)

-- none where the table is empty
pub no_clones : (es : Entries) (n : ℕ) → n ≡ length es → replicate n None ≡ map (clone_for []) es
no_clones [] zero e = refl
no_clones [] (suc n) e = absurd (omega (arith, e))
no_clones (x ∷ es) zero e = absurd (omega (arith, e))
no_clones (x ∷ es) (suc n) e = ap (λ (cs : List (Option ℕ)). None ∷ cs) (no_clones es n (omega (arith, e)))

-- one row more
pub rows_more : (rows : List Row) (i : ℕ) (row : Row) → i < length rows → row ≡ get_or rows i row → row ∷ reverse (take i rows) ≡ reverse (take (i + 1) rows)
rows_more rows i row lt is =
    sym (ap (λ (l : List Row). reverse l) (take_more rows i row lt ∙ ap (λ (r : Row). take i rows ++ r ∷ []) (sym is)) ∙ reverse-append (take i rows)
    (row ∷ []))
