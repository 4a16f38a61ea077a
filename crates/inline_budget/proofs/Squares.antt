-- The squares over a table are those over the summaries.
use Rattle.std.proofs.Common.{◌≡◌, ℕ, zero, suc, ◌+◌, ◌*◌, ◌<◌, ◌≤◌, List, [], ◌∷◌, length, Bool, true, false, refl, ap, sym, ◌∙◌, arith, eqb-true}
use Rattle.std.proofs.Common.{ltb-true, ltb-false, lt-ltb}
use Rattle.std.specs.Prelude.{◌^◌, nat_eq, nat_lt, if◌then◌else◌, sum_by, Option, Some, None}
use Rattle.std.specs.List.{AllByRecursion}
use Rattle.std.proofs.lemmas.List.Sums.{sum_by-cons}
use Rattle.plan_laws.specs.Summary.{Summary, summary_at}
use Rattle.inline_budget.specs.declared.numbers.Numbers.{Numbers}
use Rattle.inline_budget.specs.Calls.{only_if, number_at}
use Rattle.inline_budget.specs.Attempts.{numbers_at, squares}
use Rattle.inline_budget.specs.Linked.{AreApart}
use Rattle.inline_budget.proofs.Tables.{same_bad}

abbrev range_sum : (ℕ → ℕ) → ℕ → ℕ → ℕ
range_sum H k zero = 0
range_sum H k (suc n) = H k + range_sum H (suc k) n

range_to : (H : ℕ → ℕ) (k n : ℕ) → range_sum H k (suc n) ≡ range_sum H k n + H (k + n)
range_to H k zero = let at : H (k + 0) ≡ H k = ap H (omega arith) in omega arith
range_to H k (suc n) =
    let rest : range_sum H (suc k) (suc n) ≡ range_sum H (suc k) n + H (suc k + n) = range_to H (suc k) n in
    let at : H (suc k + n) ≡ H (k + suc n) = ap H (omega arith) in
    let whole : range_sum H k (suc n) ≡ H k + range_sum H (suc k) n = refl in
    omega arith

range_shift : (H : ℕ → ℕ) (k n : ℕ) → range_sum H (suc k) n ≡ range_sum (λ i. H (suc i)) k n
range_shift H k zero = refl
range_shift H k (suc n) = ap (λ (r : ℕ). H (suc k) + r) (range_shift H (suc k) n)

abbrev square_at : List Numbers → ℕ → List ℕ → ℕ → ℕ
square_at T by ts i = ((numbers_at T i).size + by * number_at ts i) ^ 2

squares_range : (T : List Numbers) (by : ℕ) (ts : List ℕ) → length ts ≡ length T → squares T by ts ≡ range_sum (square_at T by ts) 0 (length T)
squares_range [] by [] e = refl
squares_range [] by (t ∷ ts) e = absurd (omega arith)
squares_range (n ∷ T) by [] e = absurd (omega arith)
squares_range (n ∷ T) by (t ∷ ts) e =
    ap (λ (r : ℕ). (n.size + by * t) ^ 2 + r) (squares_range T by ts (omega arith) ∙ sym (range_shift (square_at (n ∷ T) by (t ∷ ts)) 0 (length T)))

module _ (H : ℕ → ℕ) where
  abbrev below_sum : ℕ → List Summary → ℕ
  below_sum n [] = 0
  below_sum n (s ∷ ss) = only_if (nat_lt s.pid n) (H s.pid) + below_sum n ss

  abbrev hits : ℕ → List Summary → ℕ
  hits n [] = 0
  hits n (s ∷ ss) = only_if (nat_eq s.pid n) (H s.pid) + hits n ss

  one_below : (p n : ℕ) → only_if (nat_lt p (suc n)) (H p) ≡ only_if (nat_lt p n) (H p) + only_if (nat_eq p n) (H p)
  one_below p n = step (nat_lt p n) (nat_eq p n) (nat_lt p (suc n)) refl refl refl
    where
      step : (a b c : Bool) → nat_lt p n ≡ a → nat_eq p n ≡ b → nat_lt p (suc n) ≡ c → only_if c (H p) ≡ only_if a (H p) + only_if b (H p)
      step true true c ea eb ec = let lt = ltb-true p n ea in let same = eqb-true p n eb in absurd (omega arith)
      step true false true ea eb ec = omega arith
      step true false false ea eb ec = let lt = ltb-true p n ea in let le = ltb-false p (suc n) ec in absurd (omega arith)
      step false true true ea eb ec = omega arith
      step false true false ea eb ec = let same = eqb-true p n eb in let le = ltb-false p (suc n) ec in absurd (omega arith)
      step false false true ea eb ec =
          let le = ltb-false p n ea in let lt = ltb-true p (suc n) ec in
          absurd (same_bad true p n eb (between le lt))
        where
          between : n ≤ p → p < suc n → p ≡ n
          between le lt = omega arith
      step false false false ea eb ec = omega arith

  below_more : (n : ℕ) (ss : List Summary) → below_sum (suc n) ss ≡ below_sum n ss + hits n ss
  below_more n [] = refl
  below_more n (s ∷ ss) = let one = one_below s.pid n in let rest = below_more n ss in omega arith

  hits_none : (n : ℕ) (ss : List Summary) → summary_at ss n ≡ None → hits n ss ≡ 0
  hits_none n [] e = refl
  hits_none n (s ∷ ss) e = step (nat_eq s.pid n) refl e (λ g. hits_none n ss g)
    where
      step : (b : Bool) → nat_eq s.pid n ≡ b → (if b then Some s else summary_at ss n) ≡ None → (summary_at ss n ≡ None → hits n ss ≡ 0)
          → only_if b (H s.pid) + hits n ss ≡ 0
      step true eb g rest = let bad : Some s ≡ None = g in absurd cc
      step false eb g rest = let none = rest g in omega arith

  hits_one : (n : ℕ) (ss : List Summary) (q : Summary) → AreApart ss → summary_at ss n ≡ Some q → hits n ss ≡ H n
  hits_one n [] q h e = let bad : None ≡ Some q = e in absurd cc
  hits_one n (s ∷ ss) q h e = step (nat_eq s.pid n) refl e (λ g. hits_one n ss q h.1 g)
    where
      step : (b : Bool) → nat_eq s.pid n ≡ b → (if b then Some s else summary_at ss n) ≡ Some q → (summary_at ss n ≡ Some q → hits n ss ≡ H n)
          → only_if b (H s.pid) + hits n ss ≡ H n
      step true eb g rest =
          let same = eqb-true s.pid n eb in
          let none = hits_none n ss (ap (λ (p : ℕ). summary_at ss p) (sym same) ∙ h.0) in
          let at : H s.pid ≡ H n = ap H same in
          omega arith
      step false eb g rest = let one = rest g in omega arith

  range_below : (ss : List Summary) → AreApart ss → ((n : ℕ) → summary_at ss n ≡ None → H n ≡ 0) → (n : ℕ) → range_sum H 0 n ≡ below_sum n ss
  range_below ss h zeros zero = sym (nothing ss)
    where
      nothing : (qs : List Summary) → below_sum 0 qs ≡ 0
      nothing [] = refl
      nothing (q ∷ qs) = let rest = nothing qs in step (nat_lt q.pid 0) refl rest
        where
          step : (b : Bool) → nat_lt q.pid 0 ≡ b → below_sum 0 qs ≡ 0 → only_if b (H q.pid) + below_sum 0 qs ≡ 0
          step true e rest = let lt = ltb-true q.pid 0 e in absurd (omega arith)
          step false e rest = omega arith
  range_below ss h zeros (suc n) =
      let at : H (0 + n) ≡ H n = ap H (omega arith) in
      let range : range_sum H 0 (suc n) ≡ range_sum H 0 n + H (0 + n) = range_to H 0 n in
      let old = range_below ss h zeros n in
      let more = below_more n ss in
      let hit = by_found (summary_at ss n) refl in
      omega arith
    where
      by_found : (o : Option Summary) → summary_at ss n ≡ o → hits n ss ≡ H n
      by_found None e = hits_none n ss e ∙ sym (zeros n e)
      by_found (Some q) e = hits_one n ss q h e

  below_all : (n : ℕ) (ss : List Summary) → AllByRecursion (λ s. s.pid < n) ss → below_sum n ss ≡ sum_by (λ s. H s.pid) ss
  below_all n [] h = refl
  below_all n (s ∷ ss) h =
      let cons = sum_by-cons (λ (q : Summary). H q.pid) s ss in
      let rest = below_all n ss h.1 in
      let on : only_if (nat_lt s.pid n) (H s.pid) ≡ H s.pid = ap (λ (b : Bool). only_if b (H s.pid)) (lt-ltb s.pid n h.0) in
      omega arith

-- over a table that is 0 where there is no summary
pub squares_sum : (ss : List Summary) (T : List Numbers) (by : ℕ) (ts : List ℕ) → AreApart ss → AllByRecursion (λ s. s.pid < length T) ss
    → length ts ≡ length T → ((n : ℕ) → summary_at ss n ≡ None → (numbers_at T n).size + by * number_at ts n ≡ 0)
    → squares T by ts ≡ sum_by (λ s. ((numbers_at T s.pid).size + by * number_at ts s.pid) ^ 2) ss
squares_sum ss T by ts apart below size zeros =
    squares_range T by ts size
    ∙ range_below (square_at T by ts) ss apart (λ n e. ap (λ (k : ℕ). k ^ 2) (zeros n e)) (length T)
    ∙ below_all (square_at T by ts) (length T) ss below

pub sum_most : (f g : Summary → ℕ) (ss : List Summary) → AllByRecursion (λ s. f s ≤ g s) ss → sum_by f ss ≤ sum_by g ss
sum_most f g [] h = omega arith
sum_most f g (s ∷ ss) h =
    let a = sum_by-cons f s ss in
    let b = sum_by-cons g s ss in
    let one = h.0 in
    let rest = sum_most f g ss h.1 in
    omega arith
