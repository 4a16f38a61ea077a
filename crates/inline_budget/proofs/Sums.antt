-- Sums over a routine's calls, and the callers of calls.
use Rattle.std.proofs.Common.{◌≡◌, ℕ, ◌+◌, ◌*◌, ◌≤◌, List, [], ◌∷◌, ◌++◌, Bool, true, false, refl, ap, sym, ◌∙◌, arith, eqb-true, eq-eqb}
use Rattle.std.specs.Prelude.{nat_eq, if◌then◌else◌}
use Rattle.std.specs.List.{AllByRecursion}
use Rattle.std.proofs.Math.Nat.{mul-add}
use Rattle.plan_laws.specs.Numbers as plan
use Rattle.inline_budget.specs.Calls.{Calls, only_if, calls_sum, callers_of, shares}

-- what f has more than g at one callee comes once for each call to it
pub sum_more : (f g : ℕ → ℕ) (y m : ℕ) → ((z : ℕ) → f z ≡ g z + only_if (nat_eq z y) m) → (cs : Calls) (x : ℕ)
    → calls_sum cs f x ≡ calls_sum cs g x + shares m x (callers_of cs y)
sum_more f g y m h [] x = refl
sum_more f g y m h (c ∷ cs) x = step (nat_eq c.caller x) (nat_eq c.callee y) refl refl (sum_more f g y m h cs x)
  where
    step : (b e : Bool) → nat_eq c.caller x ≡ b → nat_eq c.callee y ≡ e → calls_sum cs f x ≡ calls_sum cs g x + shares m x (callers_of cs y)
        → only_if b (f c.callee) + calls_sum cs f x
        ≡ only_if b (g c.callee) + calls_sum cs g x + shares m x (if e then c.caller ∷ callers_of cs y else callers_of cs y)
    step true true eb ee ih =
        let one : f c.callee ≡ g c.callee + m = h c.callee ∙ ap (λ (k : Bool). g c.callee + only_if k m) ee in
        let two : only_if (nat_eq c.caller x) m ≡ m = ap (λ (k : Bool). only_if k m) eb in
        omega arith
    step true false eb ee ih = let one : f c.callee ≡ g c.callee + 0 = h c.callee ∙ ap (λ (k : Bool). g c.callee + only_if k m) ee in omega arith
    step false true eb ee ih = let two : only_if (nat_eq c.caller x) m ≡ 0 = ap (λ (k : Bool). only_if k m) eb in omega arith
    step false false eb ee ih = omega arith

pub sum_none : (f : ℕ → ℕ) (cs : Calls) (x : ℕ) → AllByRecursion (λ c. c.caller ≡ x → f c.callee ≡ 0) cs → calls_sum cs f x ≡ 0
sum_none f [] x h = refl
sum_none f (c ∷ cs) x h = step (nat_eq c.caller x) refl (sum_none f cs x h.1)
  where
    step : (b : Bool) → nat_eq c.caller x ≡ b → calls_sum cs f x ≡ 0 → only_if b (f c.callee) + calls_sum cs f x ≡ 0
    step true e ih = let one = h.0 (eqb-true c.caller x e) in omega arith
    step false e ih = omega arith

pub none_sum : (f : ℕ → ℕ) (cs : Calls) (x : ℕ) → calls_sum cs f x ≡ 0 → AllByRecursion (λ c. c.caller ≡ x → f c.callee ≡ 0) cs
none_sum f [] x e = tt
none_sum f (c ∷ cs) x e =
    let whole : only_if (nat_eq c.caller x) (f c.callee) + calls_sum cs f x ≡ 0 = e in (
      λ same.
          (let on : only_if (nat_eq c.caller x) (f c.callee) ≡ f c.callee = ap (λ (k : Bool). only_if k (f c.callee)) (eq-eqb c.caller x same) in
          omega arith),
      none_sum f cs x (omega arith),
    )

-- where f is at most g at the callees of a routine, so are the sums
pub sum_least : (f g : ℕ → ℕ) (cs : Calls) (x : ℕ) → AllByRecursion (λ c. c.caller ≡ x → f c.callee ≤ g c.callee) cs
    → calls_sum cs f x ≤ calls_sum cs g x
sum_least f g [] x h = omega arith
sum_least f g (c ∷ cs) x h = step (nat_eq c.caller x) refl (sum_least f g cs x h.1)
  where
    step : (b : Bool) → nat_eq c.caller x ≡ b → calls_sum cs f x ≤ calls_sum cs g x
        → only_if b (f c.callee) + calls_sum cs f x ≤ only_if b (g c.callee) + calls_sum cs g x
    step true e ih = let one = h.0 (eqb-true c.caller x e) in omega arith
    step false e ih = omega arith

pub sum_same : (f g : ℕ → ℕ) (cs : Calls) (x : ℕ) → AllByRecursion (λ c. c.caller ≡ x → f c.callee ≡ g c.callee) cs
    → calls_sum cs f x ≡ calls_sum cs g x
sum_same f g [] x h = refl
sum_same f g (c ∷ cs) x h = step (nat_eq c.caller x) refl (sum_same f g cs x h.1)
  where
    step : (b : Bool) → nat_eq c.caller x ≡ b → calls_sum cs f x ≡ calls_sum cs g x
        → only_if b (f c.callee) + calls_sum cs f x ≡ only_if b (g c.callee) + calls_sum cs g x
    step true e ih = let one = h.0 (eqb-true c.caller x e) in omega arith
    step false e ih = omega arith

pub sum_append : (f : ℕ → ℕ) (cs : Calls) (c : plan.Choice) (x : ℕ) → calls_sum (cs ++ c ∷ []) f x ≡ calls_sum cs f x + only_if (nat_eq c.caller x) (f c.callee)
sum_append f [] c x = omega arith
sum_append f (a ∷ cs) c x = let ih = sum_append f cs c x in omega arith

-- the sum of multiples, and of the rest
pub sum_scaled : (g h : ℕ → ℕ) (k : ℕ) (cs : Calls) (x : ℕ) → calls_sum cs (λ z. g z + k * h z) x ≡ calls_sum cs g x + k * calls_sum cs h x
sum_scaled g h k [] x = omega arith
sum_scaled g h k (c ∷ cs) x = step (nat_eq c.caller x) (sum_scaled g h k cs x)
  where
    step : (b : Bool) → calls_sum cs (λ z. g z + k * h z) x ≡ calls_sum cs g x + k * calls_sum cs h x
        → only_if b (g c.callee + k * h c.callee) + calls_sum cs (λ z. g z + k * h z) x
        ≡ only_if b (g c.callee) + calls_sum cs g x + k * (only_if b (h c.callee) + calls_sum cs h x)
    step true ih = let split = mul-add k (h c.callee) (calls_sum cs h x) in omega arith
    step false ih = let split = mul-add k 0 (calls_sum cs h x) in omega arith

-- what holds of the callers of the calls to y
pub callers_all : (P : ℕ → Type 0) (y : ℕ) (cs : Calls) → AllByRecursion (λ c. c.callee ≡ y → P c.caller) cs → AllByRecursion P (callers_of cs y)
callers_all P y [] h = tt
callers_all P y (c ∷ cs) h = step (nat_eq c.callee y) refl (callers_all P y cs h.1)
  where
    step : (b : Bool) → nat_eq c.callee y ≡ b → AllByRecursion P (callers_of cs y)
        → AllByRecursion P (if b then c.caller ∷ callers_of cs y else callers_of cs y)
    step true e ih = (h.0 (eqb-true c.callee y e), ih)
    step false e ih = ih

pub all_callers : (P : ℕ → Type 0) (y : ℕ) (cs : Calls) → AllByRecursion P (callers_of cs y) → AllByRecursion (λ c. c.callee ≡ y → P c.caller) cs
all_callers P y [] h = tt
all_callers P y (c ∷ cs) h = step (nat_eq c.callee y) refl h (λ g. all_callers P y cs g)
  where
    step : (b : Bool) → nat_eq c.callee y ≡ b → AllByRecursion P (if b then c.caller ∷ callers_of cs y else callers_of cs y)
        → (AllByRecursion P (callers_of cs y) → AllByRecursion (λ d. d.callee ≡ y → P d.caller) cs)
        → (c.callee ≡ y → P c.caller) × AllByRecursion (λ d. d.callee ≡ y → P d.caller) cs
    step true e g rest = (λ same. g.0, rest g.1)
    step false e g rest = (λ same. (let bad : true ≡ false = sym (eq-eqb c.callee y same) ∙ e in absurd cc), rest g)

pub callers_append : (cs : Calls) (c : plan.Choice) (y : ℕ) → callers_of (cs ++ c ∷ []) y ≡ callers_of cs y ++ callers_of (c ∷ []) y
callers_append [] c y = refl
callers_append (a ∷ cs) c y = step (nat_eq a.callee y) (callers_append cs c y)
  where
    step : (b : Bool) → callers_of (cs ++ c ∷ []) y ≡ callers_of cs y ++ callers_of (c ∷ []) y
        → (if b then a.caller ∷ callers_of (cs ++ c ∷ []) y else callers_of (cs ++ c ∷ []) y)
        ≡ (if b then a.caller ∷ callers_of cs y else callers_of cs y) ++ callers_of (c ∷ []) y
    step true ih = ap (λ (xs : List ℕ). a.caller ∷ xs) ih
    step false ih = ih
