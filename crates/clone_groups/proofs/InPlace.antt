-- A loop that changes the elements of a list in their places, with a number that grows by what each element counts.
use Rattle.std.proofs.Common.{◌≡◌, ℕ, ◌+◌, ◌<◌, ◌≤◌, List, [], ◌∷◌, ◌++◌, get_or, set, take, drop, length, ap, sym, ◌∙◌, arith, append_assoc, length-set}
use Rattle.std.proofs.lemmas.List.{drop_more, drop-set-lt, take_more_set}
use Rattle.list_laws.proofs.Elements.{drop_read}

-- The whole change, one element of it, and how many all count together and one alone; both go from the first element on.
pub record Change (X : Type 0) : Type 1 where
  pub whole : ℕ → List X → List X
  pub one : ℕ → X → X
  pub count : List X → ℕ
  pub counts : X → ℕ
  pub none : (k : ℕ) → whole k [] ≡ []
  pub more : (k : ℕ) (x : X) (xs : List X) → whole k (x ∷ xs) ≡ one k x ∷ whole (counts x + k) xs
  pub nothing : count [] ≡ 0
  pub sum : (x : X) (xs : List X) → count (x ∷ xs) ≡ counts x + count xs

-- the first i elements are changed, and what is left is as it was
pub record Changing {X : Type 0} (h : Change X) (start : ℕ) (xs : List X) (i k : ℕ) (now : List X) : Type 0 where
  pub size : length now ≡ length xs
  pub rest : drop i now ≡ drop i xs
  pub changed : take i now ++ h.whole k (drop i xs) ≡ h.whole start xs
  pub counted : h.count (drop i xs) + k ≡ h.count xs + start

module _ {X : Type 0} (h : Change X) (start : ℕ) (xs : List X) where
  module _ (i k : ℕ) (now : List X) (c : Changing h start xs i k now) where
    module _ (x : X) (lt : i < length now) (read : x ≡ get_or now i x) where
      here : drop i xs ≡ x ∷ drop (i + 1) xs
      here =
          let same = c.size in
          let e : x ∷ drop (i + 1) now ≡ drop i xs = sym (drop_read now i x lt read) ∙ c.rest in
          let d : drop i xs ≡ get_or xs i x ∷ drop (i + 1) xs = drop_more xs i x (omega arith) in
          let q : x ≡ get_or xs i x = cc in
          d ∙ ap (λ (y : X). y ∷ drop (i + 1) xs) (sym q)

      -- what this element counts is still to come
      pub left_over : h.counts x + k ≤ h.count xs + start
      left_over =
          let sum = ap h.count here ∙ h.sum x (drop (i + 1) xs) in
          let counted = c.counted in
          omega arith

      pub one_changed : (y : X) (m : ℕ) → y ≡ h.one k x → m ≡ h.counts x + k → Changing h start xs (i + 1) m (set now i y)
      one_changed y m e n =
          let sum = ap h.count here ∙ h.sum x (drop (i + 1) xs) in
          let counted = c.counted in
          record {
            size = length-set now i y ∙ c.size;
            rest = drop-set-lt (i + 1) now i y (omega arith) ∙ rest_more;
            changed = ap (λ (l : List X). l ++ h.whole m (drop (i + 1) xs)) (take_more_set now i y lt)
                ∙ append_assoc (take i now) (y ∷ []) (h.whole m (drop (i + 1) xs))
                ∙ ap (λ (z : X). take i now ++ z ∷ h.whole m (drop (i + 1) xs)) e
                ∙ ap (λ (j : ℕ). take i now ++ h.one k x ∷ h.whole j (drop (i + 1) xs)) n
                ∙ ap (λ (l : List X). take i now ++ l) (sym (ap (h.whole k) here ∙ h.more k x (drop (i + 1) xs))) ∙ c.changed;
            counted = omega arith;
          }
        where
          rest_more : drop (i + 1) now ≡ drop (i + 1) xs
          rest_more = let q : x ∷ drop (i + 1) now ≡ x ∷ drop (i + 1) xs = sym (drop_read now i x lt read) ∙ c.rest ∙ here in cc
