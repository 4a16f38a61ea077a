-- Tables that are filled from summaries are those of no accepted call.
use Rattle.std.proofs.Common.{◌≡◌, ℕ, zero, suc, ◌+◌, ◌*◌, ◌<◌, ◌≤◌, List, [], ◌∷◌, length, replicate, Bool, true, false, refl, ap, subst, sym, ◌∙◌}
use Rattle.std.proofs.Common.{arith, eqb-true}
use Rattle.std.specs.Prelude.{◌^◌, max, nat_eq, if◌then◌else◌, slice_index_or, slice_set, sum_by, Option, Some, None}
use Rattle.std.specs.List.{AllByRecursion}
use Rattle.std.proofs.lemmas.List.{length-set, length-replicate, get_or-set_same, get_or-set_other}
use Rattle.il_core.proofs.Found.{found_all}
use Rattle.il_laws.proofs.Grown.{all_to}
use Rattle.plan_laws.specs.Orders.{greatest}
use Rattle.plan_laws.specs.Summary.{Summary, cost_of, summary_at}
use Rattle.inline_budget.specs.declared.numbers.Numbers.{Numbers}
use Rattle.inline_budget.specs.Attempts.{IsWithin, no_numbers, numbers_at, squares}
use Rattle.inline_budget.specs.Calls.{number_at}
use Rattle.inline_budget.specs.Linked.{AreApart, IsSmall}
use Rattle.inline_budget.specs.Tables.{extra_of, own_of, written}
use Rattle.inline_budget.proofs.Tables.{same_bad}
use Rattle.inline_budget.proofs.Inlined as inlined
use Rattle.inline_budget.proofs.Inlined.{extra_at}
use Rattle.inline_budget.proofs.Squares.{squares_sum, sum_most}
use Rattle.inline_budget.proofs.Decided.{AreSums, size_measure, register_measure, array_measure, element_measure, here_all}
use Rattle.inline_budget.proofs.Giving.{squares_none}

-- ---- the tables' length

module _ {X : Type 0} (pid : X → ℕ) where
  greatest_more : (n : ℕ) (xs : List X) → AllByRecursion (λ x. pid x < n) xs → (m : ℕ) → AllByRecursion (λ x. pid x < max m n) xs
  greatest_more n xs h m = all_to (λ (x : X). pid x < n) (λ x. pid x < max m n) xs (λ x lt. omega arith) h

  pub pids_below : (xs : List X) → AllByRecursion (λ x. pid x < greatest (λ y. suc (pid y)) xs) xs
  pids_below [] = tt
  pids_below (x ∷ xs) = (omega arith, greatest_more (greatest (λ y. suc (pid y)) xs) xs (pids_below xs) (suc (pid x)))

-- ---- what stands in them

abbrev pub value_or : {V : Type 0} → (Summary → V) → V → Option Summary → V
value_or f d None = d
value_or f d (Some s) = f s

module _ {V : Type 0} (f : Summary → V) (d : V) where
  pub written_length : (T : List V) (ss : List Summary) → length (written f T ss) ≡ length T
  written_length T [] = refl
  written_length T (s ∷ ss) = written_length (slice_set T s.pid (f s)) ss ∙ length-set T s.pid (f s)

  pub written_at : (T : List V) (ss : List Summary) (x : ℕ) → AreApart ss → AllByRecursion (λ s. s.pid < length T) ss
      → slice_index_or (written f T ss) x d ≡ value_or f (slice_index_or T x d) (summary_at ss x)
  written_at T [] x apart below = refl
  written_at T (s ∷ ss) x apart below =
      written_at (slice_set T s.pid (f s)) ss x apart.1
      (subst (λ (n : ℕ). AllByRecursion (λ q. q.pid < n) ss) (sym (length-set T s.pid (f s))) below.1)
      ∙ step (nat_eq s.pid x) refl
    where
      step : (b : Bool) → nat_eq s.pid x ≡ b
          → value_or f (slice_index_or (slice_set T s.pid (f s)) x d) (summary_at ss x) ≡ value_or f (slice_index_or T x d)
          (if b then Some s else summary_at ss x)
      step true e =
          let same = eqb-true s.pid x e in
          ap (value_or f (slice_index_or (slice_set T s.pid (f s)) x d)) (ap (λ (n : ℕ). summary_at ss n) (sym same) ∙ apart.0)
          ∙ ap (λ (n : ℕ). slice_index_or (slice_set T s.pid (f s)) n d) (sym same) ∙ get_or-set_same T s.pid (f s) d below.0
      step false e =
          ap (λ (v : V). value_or f v (summary_at ss x)) (get_or-set_other T s.pid x (f s) d (λ same. same_bad true s.pid x e (sym same)))

  pub empty_there : (n x : ℕ) → slice_index_or (replicate n d) x d ≡ d
  empty_there zero x = refl
  empty_there (suc n) zero = refl
  empty_there (suc n) (suc x) = empty_there n x

  pub filled_at : (n : ℕ) (ss : List Summary) (x : ℕ) → AreApart ss → AllByRecursion (λ s. s.pid < n) ss
      → slice_index_or (written f (replicate n d) ss) x d ≡ value_or f d (summary_at ss x)
  filled_at n ss x apart below =
      written_at (replicate n d) ss x apart (subst (λ (k : ℕ). AllByRecursion (λ q. q.pid < k) ss) (sym (length-replicate n d)) below)
      ∙ ap (λ (v : V). value_or f v (summary_at ss x)) (empty_there n x)

-- ---- the numbers

abbrev pub AreOwn : List Summary → List Numbers → Type 0
AreOwn ss T = (x : ℕ) → numbers_at T x ≡ value_or own_of no_numbers (summary_at ss x)

module _ (ss : List Summary) (T : List Numbers) (own : AreOwn ss T) where
  pub own_sums : AreSums ss [] T
  own_sums = record {
    size = λ x. size (numbers_at T x) (summary_at ss x) (own x);
    regs = λ x. regs (numbers_at T x) (summary_at ss x) (own x);
    arrs = λ x. arrs (numbers_at T x) (summary_at ss x) (own x);
    elems = λ x. elems (numbers_at T x) (summary_at ss x) (own x);
  }
    where
      size : (n : Numbers) (o : Option Summary) → n ≡ value_or own_of no_numbers o → n.size ≡ inlined.own_of size_measure o + 0
      size n None e = let is = ap (λ (m : Numbers). m.size) e in omega arith
      size n (Some s) e = let is = ap (λ (m : Numbers). m.size) e in omega arith

      regs : (n : Numbers) (o : Option Summary) → n ≡ value_or own_of no_numbers o → n.regs ≡ inlined.own_of register_measure o + 0
      regs n None e = let is = ap (λ (m : Numbers). m.regs) e in omega arith
      regs n (Some s) e = let is = ap (λ (m : Numbers). m.regs) e in omega arith

      arrs : (n : Numbers) (o : Option Summary) → n ≡ value_or own_of no_numbers o → n.arrays ≡ inlined.own_of array_measure o + 0
      arrs n None e = let is = ap (λ (m : Numbers). m.arrays) e in omega arith
      arrs n (Some s) e = let is = ap (λ (m : Numbers). m.arrays) e in omega arith

      elems : (n : Numbers) (o : Option Summary) → n ≡ value_or own_of no_numbers o → n.elements ≡ inlined.own_of element_measure o + 0
      elems n None e = let is = ap (λ (m : Numbers). m.elements) e in omega arith
      elems n (Some s) e = let is = ap (λ (m : Numbers). m.elements) e in omega arith

  pub own_within : AllByRecursion IsSmall ss → (x : ℕ) → IsWithin (numbers_at T x)
  own_within small x = subst IsWithin (sym (own x)) (by_found (summary_at ss x) refl)
    where
      by_found : (o : Option Summary) → summary_at ss x ≡ o → IsWithin (value_or own_of no_numbers o)
      by_found None e = record { size = omega arith; regs = omega arith; arrays = omega arith; elements = omega arith }
      by_found (Some s) e =
          let h = (found_all (λ q. q.pid) IsSmall x ss s small e).0 in
          record { size = h.size; regs = h.regs; arrays = h.arrays; elements = h.elements }

  abbrev zeros : List Numbers → List ℕ
  zeros ns = replicate (length ns) 0

  abbrev square_of : ℕ → ℕ
  square_of pid = ((numbers_at T pid).size + 0 * number_at (zeros T) pid) ^ 2

  -- the cost before any call is accepted
  pub own_cost : AreApart ss → AllByRecursion (λ s. s.pid < length T) ss → squares T 0 [] ≡ cost_of ss
  own_cost apart below =
      let start : squares T 0 (zeros T) ≡ squares T 0 [] = squares_none T 0 (zeros T) (λ x. zero_at (length T) x) in
      let sum : squares T 0 (zeros T) ≡ sum_by (λ s. square_of s.pid) ss
      = squares_sum ss T 0 (zeros T) apart below (length-replicate (length T) 0) (λ n e. nothing n e) in
      let up : sum_by (λ s. square_of s.pid) ss ≤ cost_of ss
      = sum_most (λ s. square_of s.pid) (λ s. s.size ^ 2) ss
      (all_to (λ (s : Summary). summary_at ss s.pid ≡ Some s) (λ s. square_of s.pid ≤ s.size ^ 2) ss
      (λ s e. (let is = one s e in omega arith)) (here_all ss apart)) in
      let down : cost_of ss ≤ sum_by (λ s. square_of s.pid) ss
      = sum_most (λ s. s.size ^ 2) (λ s. square_of s.pid) ss
      (all_to (λ (s : Summary). summary_at ss s.pid ≡ Some s) (λ s. s.size ^ 2 ≤ square_of s.pid) ss
      (λ s e. (let is = one s e in omega arith)) (here_all ss apart)) in
      omega arith
    where
      zero_at : (n x : ℕ) → number_at (replicate n 0) x ≡ 0
      zero_at n x = empty_there (λ (s : Summary). 0) 0 n x

      size_at : (s : Summary) → summary_at ss s.pid ≡ Some s → (numbers_at T s.pid).size ≡ s.size
      size_at s e = ap (λ (n : Numbers). n.size) (own s.pid ∙ ap (value_or own_of no_numbers) e)

      one : (s : Summary) → summary_at ss s.pid ≡ Some s → square_of s.pid ≡ s.size ^ 2
      one s e =
          let is = size_at s e in
          let same : (numbers_at T s.pid).size + 0 * number_at (replicate (length T) 0) s.pid ≡ s.size = omega arith in
          ap (λ (k : ℕ). k ^ 2) same

      nothing : (n : ℕ) → summary_at ss n ≡ None → (numbers_at T n).size + 0 * number_at (replicate (length T) 0) n ≡ 0
      nothing n e =
          let is = ap (λ (m : Numbers). m.size) (own n ∙ ap (value_or own_of no_numbers) e) in
          omega arith

-- ---- what a call adds

abbrev pub AreExtras : List Summary → List ℕ → Type 0
AreExtras ss es = (x : ℕ) → number_at es x ≡ value_or extra_of 0 (summary_at ss x)

pub extra_is : (ss : List Summary) (es : List ℕ) → AreExtras ss es → (x : ℕ) → number_at es x ≡ extra_at size_measure ss x
extra_is ss es h x = h x ∙ step (summary_at ss x)
  where
    step : (o : Option Summary) → value_or extra_of 0 o ≡ inlined.extra_of size_measure o
    step None = refl
    step (Some s) = refl
