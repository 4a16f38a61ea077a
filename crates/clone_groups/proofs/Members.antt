-- A search by halves among numbers that rise, and what is kept by it.
use Rattle.std.proofs.Common.{◌≡◌, ◌<◌, ◌≤◌, ℕ, zero, suc, Bool, true, false, nat_eq, List, [], ◌∷◌, length, get_or, Result, Ok, Err, sym, ap, refl}
use Rattle.std.proofs.Common.{arith, inl, inr, ◌∙◌}
use Rattle.std.specs.Ordering.{nat_cmp}
use Rattle.std.specs.Prelude.{◌||◌}
use Rattle.std.specs.Result.{is_ok}
use Rattle.std.specs.List.Sorted.{IsBinarySearchResult}
use Rattle.std.proofs.lemmas.Bool.{cases_lt}
use Rattle.std.proofs.lemmas.List.Sorted.{searched}
use Rattle.list_laws.proofs.Entries.{number_itself, other_number}
use Rattle.il_core.specs.Shapes.{IsRising, IsRisingFrom}
use Rattle.il_laws.specs.Reach.{is_in}

from_above : (n : ℕ) (xs : List ℕ) (j : ℕ) → IsRisingFrom (λ p. p) n xs → j < length xs → n < get_or xs j 0
from_above n [] j h less = absurd (omega arith)
from_above n (x ∷ xs) zero h less = h.0
from_above n (x ∷ xs) (suc j) h less = let a : n < x = h.0 in let b = from_above x xs j h.1 (omega arith) in omega arith

from_up : (n : ℕ) (xs : List ℕ) (i j : ℕ) → IsRisingFrom (λ p. p) n xs → i ≤ j → j < length xs → get_or xs i 0 ≤ get_or xs j 0
from_up n [] i j h le less = absurd (omega arith)
from_up n (x ∷ xs) zero zero h le less = omega arith
from_up n (x ∷ xs) zero (suc j) h le less = let a = from_above x xs j h.1 (omega arith) in omega arith
from_up n (x ∷ xs) (suc i) zero h le less = absurd (omega arith)
from_up n (x ∷ xs) (suc i) (suc j) h le less = from_up x xs i j h.1 (omega arith) (omega arith)

up : (xs : List ℕ) → IsRising (λ p. p) xs → (i j : ℕ) → i ≤ j → j < length xs → get_or xs i 0 ≤ get_or xs j 0
up [] h i j le less = absurd (omega arith)
up (x ∷ xs) h zero zero le less = omega arith
up (x ∷ xs) h zero (suc j) le less = let a = from_above x xs j h (omega arith) in omega arith
up (x ∷ xs) h (suc i) zero le less = absurd (omega arith)
up (x ∷ xs) h (suc i) (suc j) le less = from_up x xs i j h (omega arith) (omega arith)

in_at : (xs : List ℕ) (i q : ℕ) → i < length xs → get_or xs i 0 ≡ q → is_in xs q ≡ true
in_at [] i q less e = absurd (omega arith)
in_at (x ∷ xs) zero q less e = ap (λ b. b || is_in xs q) (ap (λ n. nat_eq n q) e ∙ number_itself q)
in_at (x ∷ xs) (suc i) q less e = by (nat_eq x q) (in_at xs i q (omega arith) e)
  where
    by : (b : Bool) → is_in xs q ≡ true → (b || is_in xs q) ≡ true
    by true h = refl
    by false h = h

none_in : (xs : List ℕ) (q : ℕ) → ((k : ℕ) → k < length xs → get_or xs k 0 ≡ q → ⊥) → is_in xs q ≡ false
none_in [] q h = refl
none_in (x ∷ xs) q h =
    ap (λ b. b || is_in xs q) (other_number x q (λ e. h 0 (omega arith) e)) ∙ none_in xs q (λ k less e. h (suc k) (omega arith) e)

-- what the search answers
pub search_is : (xs : List ℕ) (q : ℕ) (r : Result ℕ ℕ) → IsRising (λ p. p) xs → IsBinarySearchResult (λ y. nat_cmp y q) xs r → is_ok r ≡ is_in xs q
search_is xs q (Ok i) h b = let s = searched xs q (Ok i) b (up xs h) in sym (in_at xs i q s.0 s.1)
search_is xs q (Err i) h b =
    let s = searched xs q (Err i) b (up xs h) in
    sym (none_in xs q (λ k less e. other k less e s))
  where
    other : (k : ℕ) → k < length xs → get_or xs k 0 ≡ q
        → (i ≤ length xs) × ((k : ℕ) → k < i → get_or xs k 0 < q) × ((k : ℕ) → i ≤ k → k < length xs → q < get_or xs k 0) → ⊥
    other k less e s = elim (cases_lt k i) [ inl below ↦ (let a = s.1 k below in omega arith) | inr above ↦ (let a = s.2 k above less in omega arith) ]
