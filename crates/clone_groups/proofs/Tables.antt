-- Rows, the newest one first.
use Rattle.std.proofs.Common.{◌≡◌, ℕ, ◌<◌, ◌≤◌, Bool, false, List, [], ◌∷◌, ◌++◌, filter, refl, sym, ap, ap₂, ◌∙◌, arith, drop, length, inl, inr}
use Rattle.std.specs.Prelude.{◌==◌, reverse}
use Rattle.std.proofs.lemmas.List.{drop_all, drop_more, reverse-append}
use Rattle.std.proofs.lemmas.List.Elements.{filter-append}
use Rattle.std.proofs.lemmas.Bool.{cases_Bool, ne_eqb}
use Rattle.hlo_num.specs.declared.word.Word.{Word}
use Rattle.il_laws.specs.Clone.{Fixed}
use Rattle.il_laws.specs.Table.{Row}
use Rattle.plan_laws.specs.Groups.{same_fixed}
use Rattle.clone_groups.specs.Fixing.{fixed_of}
use Rattle.clone_groups.specs.Keys.{fixed_in, numbers_of}

first_last : (row : Row) (rows : List Row) → reverse (row ∷ rows) ≡ reverse rows ++ row ∷ []
first_last row rows = reverse-append (row ∷ []) rows

one_kept : (p : Row → Bool) (row : Row) → reverse (filter p (row ∷ [])) ≡ filter p (row ∷ [])
one_kept p row = elim (cases_Bool (p row)) [
  | inl is ↦ rw is refl
  | inr other ↦ rw other refl
]

-- rows that go leave the order
pub reverse_kept : (p : Row → Bool) (rows : List Row) → reverse (filter p rows) ≡ filter p (reverse rows)
reverse_kept p [] = refl
reverse_kept p (row ∷ rows) =
    ap (λ (l : List Row). reverse l) (filter-append p (row ∷ []) rows)
    ∙ reverse-append (filter p (row ∷ [])) (filter p rows)
    ∙ ap₂ {A = List Row} {B = List Row} {C = List Row} (λ a b. a ++ b) (reverse_kept p rows) (one_kept p row)
    ∙ sym (filter-append p (reverse rows) (row ∷ []))
    ∙ ap (filter p) (sym (first_last row rows))

-- constants are the same where both lists end together
nothing_left : (left : List (ℕ × Word)) → (length left == 0) ≡ same_fixed [] (fixed_of left)
nothing_left [] = refl
nothing_left (x ∷ left) = ne_eqb (length (x ∷ left)) 0 (λ e. omega (arith, e))

module _ (some : List (ℕ × ℕ)) (others left : List (ℕ × Word)) (i : ℕ)
    (rest : same_fixed (fixed_in (drop i some)) (fixed_of left) ≡ same_fixed (fixed_in some) (fixed_of others)) where
  pub both_end : length some ≤ i → (length left == 0) ≡ same_fixed (fixed_in some) (fixed_of others)
  both_end past = nothing_left left ∙ ap (λ (l : List (ℕ × ℕ)). same_fixed (fixed_in l) (fixed_of left)) (sym (drop_all i some past)) ∙ rest

  pub one_ends : left ≡ [] → i < length some → false ≡ same_fixed (fixed_in some) (fixed_of others)
  one_ends none lt =
      ap (λ (l : List (ℕ × ℕ)). same_fixed (fixed_in l) []) (sym (drop_more some i (0, 0) lt))
      ∙ ap (λ (l : List (ℕ × Word)). same_fixed (fixed_in (drop i some)) (fixed_of l)) (sym none) ∙ rest

pub is_nothing : {X : Type 0} (xs : List X) → length xs ≡ 0 → xs ≡ []
is_nothing [] e = refl
is_nothing (x ∷ xs) e = absurd (omega (arith, e))

-- constants by their numbers are the same constants
pub numbers_fixed : (xs : List (ℕ × Word)) → fixed_in (numbers_of xs) ≡ fixed_of xs
numbers_fixed [] = refl
numbers_fixed (x ∷ xs) = ap (λ (fs : List Fixed). record { param = x.0; word = x.1 } ∷ fs) (numbers_fixed xs)
