-- Callers with their moves, by rising PID.
use Rattle.std.proofs.Common.{◌≡◌, ◌<◌, ◌≤◌, ℕ, zero, suc, Bool, true, false, nat_eq, List, [], ◌∷◌, length, get_or, Ok, Err, refl, sym, ap, arith, inl}
use Rattle.std.proofs.Common.{inr, ◌∙◌}
use Rattle.std.specs.Ordering.{nat_cmp, ordering_index}
use Rattle.std.specs.Prelude.{◌||◌, if◌then◌else◌}
use Rattle.std.specs.List.{AllByRecursion, IsDistinct}
use Rattle.std.specs.List.Sorted.{IsBinarySearchResult, IsNonDecreasingBy}
use Rattle.std.proofs.lemmas.Bool.{cases_lt}
use Rattle.std.proofs.lemmas.Bool.Decides.{nat_tests}
use Rattle.std.proofs.lemmas.Cmp.{ranked}
use Rattle.std.proofs.lemmas.List.Sorted.{IsNonDecreasingBy-from_default}
use Rattle.list_laws.proofs.Entries.{number_itself, other_number}
use Rattle.il_core.specs.Limits.{max_pids}
use Rattle.il_core.specs.Shapes.{IsRising, IsRisingFrom}
use Rattle.il_core.proofs.Found.{all_at}
use Rattle.il_laws.specs.Reach.{is_in}
use Rattle.clone_groups.specs.Moves.{moves_of}
use Rattle.plan_pools.specs.Retargeting.{AreMoves, callers_of, moves_for}
use Rattle.plan_pools.specs.declared.moves.CallerMoves.{CallerMoves}

abbrev Rises : List CallerMoves → Type 0
Rises ms = IsRising (λ m. m.caller) ms

abbrev RisesFrom : ℕ → List CallerMoves → Type 0
RisesFrom n ms = IsRisingFrom (λ m. m.caller) n ms

from_lower : (n k : ℕ) (ms : List CallerMoves) → n ≤ k → RisesFrom k ms → RisesFrom n ms
from_lower n k [] le h = tt
from_lower n k (m ∷ ms) le h = (let a = h.0 in omega arith, h.1)

from_itself : (n : ℕ) (ms : List CallerMoves) → RisesFrom n ms → Rises ms
from_itself n [] h = tt
from_itself n (m ∷ ms) h = h.1

-- no two are of one caller
others : (n : ℕ) (ms : List CallerMoves) → RisesFrom n ms → AllByRecursion (λ y. nat_eq n y ≡ false) (callers_of ms)
others n [] h = tt
others n (m ∷ ms) h =
    let a = h.0 in (other_number n m.caller (λ e. absurd (omega arith)), others n ms (from_lower n m.caller ms (omega arith) h.1))

pub callers_differ : (ms : List CallerMoves) → Rises ms → IsDistinct nat_eq (callers_of ms)
unfolding IsDistinct
callers_differ [] h = tt
callers_differ (m ∷ ms) h = (others m.caller ms h, callers_differ ms (from_itself m.caller ms h))

-- who isn't among them has no moves
pub none_for : (ms : List CallerMoves) (p : ℕ) → is_in (callers_of ms) p ≡ false → moves_for ms p ≡ []
none_for [] p h = refl
none_for (m ∷ ms) p h = by (nat_eq m.caller p) h (none_for ms p)
  where
    by : (b : Bool) → (b || is_in (callers_of ms) p) ≡ false → (is_in (callers_of ms) p ≡ false → moves_for ms p ≡ [])
        → (if b then moves_of m.moves else moves_for ms p) ≡ []
    by true e more = cc
    by false e more = more e

above_at : (n : ℕ) (ms : List CallerMoves) (i : ℕ) (d : CallerMoves) → RisesFrom n ms → i < length ms → n < (get_or ms i d).caller
above_at n [] i d h less = absurd (omega arith)
above_at n (m ∷ ms) zero d h less = h.0
above_at n (m ∷ ms) (suc i) d h less = let a = h.0 in let b = above_at m.caller ms i d h.1 (omega arith) in omega arith

-- the one at a place is the first of its caller
for_at : (ms : List CallerMoves) (i : ℕ) (d : CallerMoves) (p : ℕ) → Rises ms → i < length ms → (get_or ms i d).caller ≡ p
    → moves_for ms p ≡ moves_of (get_or ms i d).moves
for_at [] i d p h less e = absurd (omega arith)
for_at (m ∷ ms) zero d p h less e =
    ap (λ b. if b then moves_of m.moves else moves_for ms p) (ap (λ n. nat_eq n p) e ∙ number_itself p)
for_at (m ∷ ms) (suc i) d p h less e =
    let above = above_at m.caller ms i d h (omega arith) in
    ap (λ b. if b then moves_of m.moves else moves_for ms p) (other_number m.caller p (λ same. absurd (omega arith)))
    ∙ for_at ms i d p (from_itself m.caller ms h) (omega arith) e

up : (ms : List CallerMoves) (d : CallerMoves) → Rises ms → (i j : ℕ) → i ≤ j → j < length ms → (get_or ms i d).caller ≤ (get_or ms j d).caller
up [] d h i j le less = absurd (omega arith)
up (m ∷ ms) d h zero zero le less = omega arith
up (m ∷ ms) d h zero (suc j) le less = let a = above_at m.caller ms j d h (omega arith) in omega arith
up (m ∷ ms) d h (suc i) zero le less = absurd (omega arith)
up (m ∷ ms) d h (suc i) (suc j) le less = up ms d (from_itself m.caller ms h) i j (omega arith) (omega arith)

none_in : (ms : List CallerMoves) (d : CallerMoves) (p : ℕ) → ((k : ℕ) → k < length ms → (get_or ms k d).caller ≡ p → ⊥) → is_in (callers_of ms) p ≡ false
none_in [] d p h = refl
none_in (m ∷ ms) d p h =
    ap (λ b. b || is_in (callers_of ms) p) (other_number m.caller p (λ e. h 0 (omega arith) e)) ∙ none_in ms d p (λ k less e. h (suc k) (omega arith) e)

-- what a search by halves answers
module _ (ms : List CallerMoves) (rises : Rises ms) (p : ℕ) where
  nothing : CallerMoves
  nothing = record { caller = 0; moves = [] }

  higher : (a b : ℕ) → a ≤ b → ordering_index (nat_cmp a p) ≤ ordering_index (nat_cmp b p)
  higher a b le = grind (arith, nat_tests)

  comparisons_rise : IsNonDecreasingBy (λ m. ordering_index (nat_cmp m.caller p)) ms
  comparisons_rise = IsNonDecreasingBy-from_default (λ m. ordering_index (nat_cmp m.caller p)) ms nothing
      (λ i j le less. higher (get_or ms i nothing).caller (get_or ms j nothing).caller (up ms nothing rises i j le less))

  pub found_at : (i : ℕ) (d : CallerMoves) → i < length ms → IsBinarySearchResult (λ m. nat_cmp m.caller p) ms (Ok i)
      → moves_for ms p ≡ moves_of (get_or ms i d).moves
  found_at i d less equal = for_at ms i d p rises less (ranked _ p _ (sym (equal d)))

  pub found_none : (i : ℕ) → i ≤ length ms → IsBinarySearchResult (λ m. nat_cmp m.caller p) ms (Err i) → moves_for ms p ≡ []
  found_none i le parted = none_for ms p (none_in ms nothing p (λ k less e. elim (cases_lt k i) [
    | inl below ↦ (let a = ranked _ p _ (sym ((parted comparisons_rise).0 k nothing (omega arith) below)) in absurd (omega (arith, a, e)))
    | inr above ↦ (let a = ranked _ p _ (sym ((parted comparisons_rise).1 k nothing above less)) in absurd (omega (arith, a, e)))
  ]))

-- the caller at a place
pub caller_at : (ms : List CallerMoves) (i : ℕ) (d : CallerMoves) → i < length ms → (get_or ms i d).caller ≡ get_or (callers_of ms) i 0
caller_at [] i d less = absurd (omega arith)
caller_at (m ∷ ms) zero d less = refl
caller_at (m ∷ ms) (suc i) d less = caller_at ms i d (omega arith)

pub callers_length : (ms : List CallerMoves) → length (callers_of ms) ≡ length ms
callers_length [] = refl
callers_length (m ∷ ms) = ap suc (callers_length ms)

pub moves_at : (ms : List CallerMoves) (i : ℕ) (d : CallerMoves) → AreMoves ms → i < length ms
    → AllByRecursion (λ x. x.1 < max_pids) (get_or ms i d).moves
moves_at ms i d h less = all_at (λ m. AllByRecursion (λ x. x.1 < max_pids) m.moves) ms i d h less
