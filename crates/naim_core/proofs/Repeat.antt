-- Whether a number stands twice, found out by sorting.
use Rattle.std.proofs.Common.{◌≡◌, ◌≢◌, ℕ, zero, suc, ◌+◌, ◌-◌, ◌<◌, true, false, nat_eq, List, [], ◌∷◌, length, get_or, refl, sym, ap, arith, ◌∙◌}
use Rattle.std.specs.Ordering.{nat_cmp}
use Rattle.std.specs.Cmp.{nat_eq_equiv}
use Rattle.std.specs.List.{IsDistinct, AllByRecursion}
use Rattle.std.specs.List.Sorted.{IsSorted, IsPermutation}
use Rattle.std.proofs.lemmas.List.Sorted.{IsPermutation-sym}
use Rattle.std.proofs.lemmas.Map.Keys.{IsDistinct-head, IsDistinct-tail, IsDistinct-from_apart, IsDistinct-IsPermutation, apart_from_distinct, ge_from_not_lt}
use Rattle.naim_core.specs.State.{has_repeat, is_in}
use Rattle.list_laws.proofs.Entries.{other_number, number_itself}
use Rattle.naim_core.proofs.Waves.{distinct_of}

-- distinct numbers stand once
pub no_repeat : (ts : List ℕ) → IsDistinct nat_eq ts → has_repeat ts ≡ false
no_repeat [] d = refl
no_repeat (t ∷ ts) d = rw (apart t ts (IsDistinct-head nat_eq t ts d)) (no_repeat ts (IsDistinct-tail nat_eq t ts d))
  where
    apart : (t : ℕ) (ts : List ℕ) → AllByRecursion (λ y. nat_eq t y ≡ false) ts → is_in t ts ≡ false
    apart t [] h = refl
    apart t (y ∷ ts) h = rw h.0 (apart t ts h.1)

-- one order shows it as well as another
pub repeat_permuted : (xs ys : List ℕ) → IsPermutation xs ys → has_repeat ys ≡ has_repeat xs
repeat_permuted xs ys p =
    (elim (has_repeat xs) as (λ b. has_repeat xs ≡ b → has_repeat ys ≡ b) [
      | false ↦ λ e. no_repeat ys (IsDistinct-IsPermutation nat_eq nat_eq_equiv.symm xs ys p (distinct_of xs e))
      | true ↦ λ e. (elim (has_repeat ys) as (λ b. has_repeat ys ≡ b → b ≡ true) [
        | true ↦ λ f. refl
        | false ↦ λ f. let n = no_repeat xs (IsDistinct-IsPermutation nat_eq nat_eq_equiv.symm ys xs (IsPermutation-sym xs ys p) (distinct_of ys f)) in cc
      ]) refl
    ]) refl

-- two equal neighbours are a repeat
pub repeat_found : (xs : List ℕ) (i d : ℕ) → i + 1 < length xs → get_or xs i d ≡ get_or xs (i + 1) d → has_repeat xs ≡ true
repeat_found xs i d within same = (elim (has_repeat xs) as (λ b. has_repeat xs ≡ b → b ≡ true) [
  | true ↦ λ e. refl
  | false ↦ λ e. let a = apart_from_distinct nat_eq xs i (i + 1) d (distinct_of xs e) (omega arith) within in
      let b : nat_eq (get_or xs i d) (get_or xs (i + 1) d) ≡ true = ap (nat_eq (get_or xs i d)) (sym same) ∙ number_itself (get_or xs i d) in cc
]) refl

-- neighbours that rise keep all apart
rising : (xs : List ℕ) (d : ℕ) → ((k : ℕ) → k + 1 < length xs → get_or xs k d < get_or xs (k + 1) d) → (i j : ℕ) → i + j + 1 < length xs
    → get_or xs i d < get_or xs (i + j + 1) d
rising xs d up i zero h = let e : i + 0 + 1 ≡ i + 1 = omega arith in let u = up i (omega arith) in rw e u
rising xs d up i (suc j) h = let r = rising xs d up i j (omega arith) in let u = up (i + j + 1) (omega arith) in let e : i + suc j + 1 ≡ i + j + 1 + 1 =
    omega arith in rw e (omega arith)

pub no_repeat_sorted : (xs : List ℕ) → IsSorted nat_cmp xs → ((k d : ℕ) → k + 1 < length xs → get_or xs k d ≢ get_or xs (k + 1) d) → has_repeat xs ≡ false
no_repeat_sorted xs sorted differ = no_repeat xs (IsDistinct-from_apart nat_eq xs (λ i j d lt within.
    let up : (k : ℕ) → k + 1 < length xs
    → get_or xs k d < get_or xs (k + 1) d = λ k h. (let a = ge_from_not_lt (get_or xs (k + 1) d) (get_or xs k d) (sorted k d (omega arith) h) in let b =
    differ k d h in omega arith) in
    let e : i + (j - i - 1) + 1 ≡ j = omega arith in let r = rising xs d up i (j - i - 1) (omega arith) in
    let r' = rw e at r in other_number (get_or xs i d) (get_or xs j d) (λ s. omega arith)))

-- the element at a place is one, whatever stands for those past the end
pub any_default : (xs : List ℕ) (k d e : ℕ) → k < length xs → get_or xs k d ≡ get_or xs k e
any_default [] k d e h = absurd (omega arith)
any_default (x ∷ xs) zero d e h = refl
any_default (x ∷ xs) (suc k) d e h = any_default xs k d e (omega arith)
