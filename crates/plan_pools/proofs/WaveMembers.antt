-- Who is in a wave.
use Rattle.std.proofs.Common.{◌≡◌, ℕ, zero, suc, Bool, true, false, nat_eq, List, [], ◌∷◌, length, refl, sym, ap, arith, ◌∙◌, ne_eqb}
use Rattle.std.specs.Prelude.{◌||◌, ◌&&◌, filter, nat_lt, if◌then◌else◌}
use Rattle.std.specs.List.{AllByRecursion, IsDistinct}
use Rattle.list_laws.proofs.Entries.{number_itself, other_number, same_number}
use Rattle.il_laws.specs.Reach.{is_in}
use Rattle.std.proofs.lemmas.Bool.{or_parts}
use Rattle.plan_laws.specs.Levels.{calls_from, callers, chain, is_caller, level, waves_from}
use Rattle.plan_laws.specs.Numbers.{Choice}
use Rattle.plan_laws.specs.Orders.{greatest, inserted, sorted}

or_swap : (a b c : Bool) → (a || (b || c)) ≡ (b || (a || c))
or_swap true true c = refl
or_swap true false c = refl
or_swap false true c = refl
or_swap false false c = refl

-- another number, from either side
other_way : (x y : ℕ) → nat_eq x y ≡ false → nat_eq y x ≡ false
other_way x y e = other_number y x (λ same. (let bad : true ≡ false = sym (ap (nat_eq x) same ∙ number_itself x) ∙ e in absurd cc))

-- a number that isn't in a list differs from each
all_differ : (x : ℕ) (ys : List ℕ) → is_in ys x ≡ false → AllByRecursion (λ y. nat_eq x y ≡ false) ys
all_differ x [] e = tt
all_differ x (y ∷ ys) e = let b = or_parts (nat_eq y x) (is_in ys x) e in (other_way y x b.0, all_differ x ys b.1)

inserted_in : (x : ℕ) (ys : List ℕ) (z : ℕ) → is_in (inserted nat_lt x ys) z ≡ (nat_eq x z || is_in ys z)
inserted_in x [] z = refl
inserted_in x (y ∷ ys) z = step (nat_lt y x) (inserted_in x ys z)
  where
    step : (b : Bool) → is_in (inserted nat_lt x ys) z ≡ (nat_eq x z || is_in ys z)
        → is_in (if b then y ∷ inserted nat_lt x ys else x ∷ y ∷ ys) z ≡ (nat_eq x z || (nat_eq y z || is_in ys z))
    step true ih = ap (λ (b : Bool). nat_eq y z || b) ih ∙ or_swap (nat_eq y z) (nat_eq x z) (is_in ys z)
    step false ih = refl

sorted_in : (xs : List ℕ) (z : ℕ) → is_in (sorted nat_lt xs) z ≡ is_in xs z
sorted_in [] z = refl
sorted_in (x ∷ xs) z = inserted_in x (sorted nat_lt xs) z ∙ ap (λ (b : Bool). nat_eq x z || b) (sorted_in xs z)

-- each number stands once
abbrev Once : List ℕ → Type 0
Once [] = Unit {0}
Once (x ∷ xs) = (is_in xs x ≡ false) × Once xs

inserted_once : (x : ℕ) (ys : List ℕ) → is_in ys x ≡ false → Once ys → Once (inserted nat_lt x ys)
inserted_once x [] e h = (refl, tt)
inserted_once x (y ∷ ys) e h = step (nat_lt y x) d.0 (inserted_once x ys d.1 h.1)
  where
    d : (nat_eq y x ≡ false) × (is_in ys x ≡ false)
    d = or_parts (nat_eq y x) (is_in ys x) e

    step : (b : Bool) → nat_eq y x ≡ false → Once (inserted nat_lt x ys) → Once (if b then y ∷ inserted nat_lt x ys else x ∷ y ∷ ys)
    step true other rest = (inserted_in x ys y ∙ ap (λ (b : Bool). b || is_in ys y) (other_way y x other) ∙ h.0, rest)
    step false other rest = (e, h)

sorted_once : (xs : List ℕ) → Once xs → Once (sorted nat_lt xs)
sorted_once [] h = tt
sorted_once (x ∷ xs) h = inserted_once x (sorted nat_lt xs) (sorted_in xs x ∙ h.0) (sorted_once xs h.1)

once_differ : (xs : List ℕ) → Once xs → IsDistinct nat_eq xs
unfolding IsDistinct
once_differ [] h = tt
once_differ (x ∷ xs) h = (all_differ x xs h.0, once_differ xs h.1)

filter_in : (t : ℕ → Bool) (xs : List ℕ) (z : ℕ) → is_in (filter t xs) z ≡ (is_in xs z && t z)
filter_in t [] z = refl
filter_in t (x ∷ xs) z = step (t x) (nat_eq x z) refl refl (filter_in t xs z)
  where
    step : (b e : Bool) → t x ≡ b → nat_eq x z ≡ e → is_in (filter t xs) z ≡ (is_in xs z && t z)
        → is_in (if b then x ∷ filter t xs else filter t xs) z ≡ ((nat_eq x z || is_in xs z) && t z)
    step true true tx ez ih =
        let here : t z ≡ true = ap t (sym (same_number x z ez)) ∙ tx in
        ap (λ (k : Bool). k || is_in (filter t xs) z) ez ∙ sym here ∙ sym (ap (λ (k : Bool). (k || is_in xs z) && t z) ez)
    step true false tx ez ih = ap (λ (k : Bool). k || is_in (filter t xs) z) ez ∙ ih ∙ sym (ap (λ (k : Bool). (k || is_in xs z) && t z) ez)
    step false true tx ez ih =
        let here : t z ≡ false = ap t (sym (same_number x z ez)) ∙ tx in
        ih ∙ ap (λ (k : Bool). is_in xs z && k) here ∙ and_false (is_in xs z) ∙ sym here ∙ sym (ap (λ (k : Bool). (k || is_in xs z) && t z) ez)
      where
        and_false : (a : Bool) → (a && false) ≡ false
        and_false true = refl
        and_false false = refl
    step false false tx ez ih = ih ∙ sym (ap (λ (k : Bool). (k || is_in xs z) && t z) ez)

filter_once : (t : ℕ → Bool) (xs : List ℕ) → Once xs → Once (filter t xs)
filter_once t [] h = tt
filter_once t (x ∷ xs) h = step (t x) (filter_once t xs h.1)
  where
    step : (b : Bool) → Once (filter t xs) → Once (if b then x ∷ filter t xs else filter t xs)
    step true ih = (filter_in t xs x ∙ ap (λ (b : Bool). b && t x) h.0, ih)
    step false ih = ih

callers_in : (cs : List Choice) (z : ℕ) → is_in (callers cs) z ≡ is_caller cs z
callers_in [] z = refl
callers_in (c ∷ cs) z = step (is_caller cs c.caller) (nat_eq c.caller z) refl refl (callers_in cs z)
  where
    step : (b e : Bool) → is_caller cs c.caller ≡ b → nat_eq c.caller z ≡ e → is_in (callers cs) z ≡ is_caller cs z
        → is_in (if b then callers cs else c.caller ∷ callers cs) z ≡ (nat_eq c.caller z || is_caller cs z)
    step true true there ez ih =
        let is : is_caller cs z ≡ true = ap (λ (k : ℕ). is_caller cs k) (sym (same_number c.caller z ez)) ∙ there in
        ih ∙ is ∙ sym (ap (λ (k : Bool). k || is_caller cs z) ez)
    step true false there ez ih = ih ∙ sym (ap (λ (k : Bool). k || is_caller cs z) ez)
    step false e there ez ih = ap (λ (k : Bool). nat_eq c.caller z || k) ih

callers_once : (cs : List Choice) → Once (callers cs)
callers_once [] = tt
callers_once (c ∷ cs) = step (is_caller cs c.caller) refl (callers_once cs)
  where
    step : (b : Bool) → is_caller cs c.caller ≡ b → Once (callers cs) → Once (if b then callers cs else c.caller ∷ callers cs)
    step true e ih = ih
    step false e ih = (callers_in cs c.caller ∙ e, ih)

-- who calls nothing has level 0
no_calls : (cs : List Choice) (z : ℕ) → is_caller cs z ≡ false → calls_from cs z ≡ []
no_calls [] z e = refl
no_calls (c ∷ cs) z e =
    let b = or_parts (nat_eq c.caller z) (is_caller cs z) e in
    ap (λ (k : Bool). if k then c ∷ calls_from cs z else calls_from cs z) b.0 ∙ no_calls cs z b.1

no_level : (cs : List Choice) (z : ℕ) → is_caller cs z ≡ false → level cs z ≡ 0
no_level cs z e = ap (λ (ds : List Choice). greatest (λ c. suc (chain cs (length cs) c.callee)) ds) (no_calls cs z e)

-- the callers of a level
abbrev pub at_level : List Choice → ℕ → List ℕ
at_level cs k = sorted nat_lt (filter (λ pid. nat_eq (level cs pid) k) (callers cs))

pub level_differs : (cs : List Choice) (k : ℕ) → IsDistinct nat_eq (at_level cs k)
level_differs cs k =
    let t : ℕ → Bool = λ pid. nat_eq (level cs pid) k in
    once_differ (at_level cs k) (sorted_once (filter t (callers cs)) (filter_once t (callers cs) (callers_once cs)))

pub waves_differ : (cs : List Choice) (k n : ℕ) → AllByRecursion (IsDistinct nat_eq) (waves_from cs k n)
waves_differ cs k zero = tt
waves_differ cs k (suc n) = (level_differs cs k, waves_differ cs (suc k) n)

-- above level 0 they are all of that level
pub level_in : (cs : List Choice) (n q : ℕ) → is_in (at_level cs (suc n)) q ≡ nat_eq (level cs q) (suc n)
level_in cs n q =
    sorted_in (filter (λ pid. nat_eq (level cs pid) (suc n)) (callers cs)) q
    ∙ filter_in (λ pid. nat_eq (level cs pid) (suc n)) (callers cs) q
    ∙ ap (λ (b : Bool). b && nat_eq (level cs q) (suc n)) (callers_in cs q) ∙ by (is_caller cs q) refl
  where
    by : (b : Bool) → is_caller cs q ≡ b → (b && nat_eq (level cs q) (suc n)) ≡ nat_eq (level cs q) (suc n)
    by true e = refl
    by false e = sym (ap (λ (k : ℕ). nat_eq k (suc n)) (no_level cs q e) ∙ ne_eqb 0 (suc n) (λ same. absurd (omega arith)))
