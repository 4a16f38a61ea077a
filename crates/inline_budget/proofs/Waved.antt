-- Routines put to their levels are the waves of the laws.
use Rattle.std.proofs.Common.{◌≡◌, ℕ, zero, suc, ◌+◌, ◌-◌, ◌<◌, ◌≤◌, List, [], ◌∷◌, ◌++◌, length, replicate, Bool, true, false, refl, ap, ap₂, subst}
use Rattle.std.proofs.Common.{sym, ◌∙◌, arith, eqb-true, eq-eqb, ne_eqb, ltb-true, ltb-false}
use Rattle.std.specs.Prelude.{max, ⊤, nat_eq, nat_lt, ◌||◌, ◌&&◌, if◌then◌else◌, filter}
use Rattle.std.specs.List.{AllByRecursion}
use Rattle.std.proofs.lemmas.List.{append_assoc, append-nil, length-replicate, length-set}
use Rattle.il_laws.proofs.Grown.{all_to}
use Rattle.il_laws.proofs.Kept.{all_both}
use Rattle.plan_laws.specs.Orders.{greatest, inserted, sorted}
use Rattle.plan_laws.specs.Levels.{callers, height, is_acyclic, is_caller, level, waves, waves_from}
use Rattle.plan_laws.specs.Numbers as plan
use Rattle.plan_laws.proofs.Levels.{levels_fall}
use Rattle.inline_budget.specs.Buckets.{put_in}
use Rattle.inline_budget.specs.Calls.{Calls, number_at, has_number, IsOnce}
use Rattle.inline_budget.specs.Levelling.{bound_of, levelled}
use Rattle.inline_budget.proofs.Filed.{none, empty_at}
use Rattle.inline_budget.proofs.Tables.{same_bad}
use Rattle.inline_budget.proofs.Levelled.{AreBelow, calls_below, level_least, list_at, put_at}

-- ---- lists by rising number

abbrev pub Up : ℕ → List ℕ → Type 0
Up k [] = ⊤
Up k (x ∷ xs) = (k ≤ x) × Up (suc x) xs

up_less : (j k : ℕ) (xs : List ℕ) → j ≤ k → Up k xs → Up j xs
up_less j k [] le h = tt
up_less j k (x ∷ xs) le h = let first = h.0 in (omega arith, h.1)

up_low : (k z : ℕ) (xs : List ℕ) → Up k xs → z < k → has_number xs z ≡ false
up_low k z [] h lt = refl
up_low k z (x ∷ xs) h lt =
    let first = h.0 in
    ap (λ (b : Bool). b || has_number xs z) (ne_eqb x z (λ same. absurd (omega arith))) ∙ up_low (suc x) z xs h.1 (omega arith)

has_first : (x : ℕ) (xs : List ℕ) → has_number (x ∷ xs) x ≡ true
has_first x xs = ap (λ (b : Bool). b || has_number xs x) (eq-eqb x x refl)

up_has : (k z : ℕ) (xs : List ℕ) → Up k xs → has_number xs z ≡ true → k ≤ z
up_has k z xs h has = by_test (nat_lt z k) refl
  where
    by_test : (b : Bool) → nat_lt z k ≡ b → k ≤ z
    by_test true e = let bad : true ≡ false = sym has ∙ up_low k z xs h (ltb-true z k e) in absurd cc
    by_test false e = ltb-false z k e

-- rising lists of the same numbers are equal
pub up_same : (j k : ℕ) (xs ys : List ℕ) → Up j xs → Up k ys → ((z : ℕ) → has_number xs z ≡ has_number ys z) → xs ≡ ys
up_same j k [] [] hx hy same = refl
up_same j k [] (y ∷ ys) hx hy same = let bad : false ≡ true = same y ∙ has_first y ys in absurd cc
up_same j k (x ∷ xs) [] hx hy same = let bad : false ≡ true = sym (same x) ∙ has_first x xs in absurd cc
up_same j k (x ∷ xs) (y ∷ ys) hx hy same =
    let low : y ≤ x = up_has y x (y ∷ ys) (omega arith, hy.1) (sym (same x) ∙ has_first x xs) in
    let high : x ≤ y = up_has x y (x ∷ xs) (omega arith, hx.1) (same y ∙ has_first y ys) in
    let first : x ≡ y = omega arith in
    ap₂ {A = ℕ} {B = List ℕ} {C = List ℕ} (λ z zs. z ∷ zs) first
    (up_same (suc x) (suc y) xs ys hx.1 hy.1 (λ z. rest z (nat_eq x z) refl first))
  where
    rest : (z : ℕ) (b : Bool) → nat_eq x z ≡ b → x ≡ y → has_number xs z ≡ has_number ys z
    rest z true e first =
        let here : x ≡ z = eqb-true x z e in
        up_low (suc x) z xs hx.1 (omega arith) ∙ sym (up_low (suc y) z ys hy.1 (omega arith))
    rest z false e first =
        let other : nat_eq y z ≡ false = ap (λ (k : ℕ). nat_eq k z) (sym first) ∙ e in
        ap (λ (b : Bool). b || has_number xs z) (sym e) ∙ same z ∙ ap (λ (b : Bool). b || has_number ys z) other

-- ---- sorted numbers

or_swap : (a b c : Bool) → (a || (b || c)) ≡ (b || (a || c))
or_swap true true c = refl
or_swap true false c = refl
or_swap false true c = refl
or_swap false false c = refl

inserted_has : (x : ℕ) (ys : List ℕ) (z : ℕ) → has_number (inserted nat_lt x ys) z ≡ (nat_eq x z || has_number ys z)
inserted_has x [] z = refl
inserted_has x (y ∷ ys) z = step (nat_lt y x) (inserted_has x ys z)
  where
    step : (b : Bool) → has_number (inserted nat_lt x ys) z ≡ (nat_eq x z || has_number ys z)
        → has_number (if b then y ∷ inserted nat_lt x ys else x ∷ y ∷ ys) z ≡ (nat_eq x z || (nat_eq y z || has_number ys z))
    step true ih = ap (λ (b : Bool). nat_eq y z || b) ih ∙ or_swap (nat_eq y z) (nat_eq x z) (has_number ys z)
    step false ih = refl

sorted_has : (xs : List ℕ) (z : ℕ) → has_number (sorted nat_lt xs) z ≡ has_number xs z
sorted_has [] z = refl
sorted_has (x ∷ xs) z = inserted_has x (sorted nat_lt xs) z ∙ ap (λ (b : Bool). nat_eq x z || b) (sorted_has xs z)

inserted_up : (k x : ℕ) (ys : List ℕ) → k ≤ x → Up k ys → has_number ys x ≡ false → Up k (inserted nat_lt x ys)
inserted_up k x [] le h absent = (le, tt)
inserted_up k x (y ∷ ys) le h absent = step (nat_lt y x) refl (λ lt. inserted_up (suc y) x ys (omega arith) h.1 none_behind)
  where
    both : (a b : Bool) → (a || b) ≡ false → (a ≡ false) × (b ≡ false)
    both false b e = (refl, e)
    both true b e = let bad : true ≡ false = e in absurd cc

    none_behind : has_number ys x ≡ false
    none_behind = (both (nat_eq y x) (has_number ys x) absent).1

    step : (b : Bool) → nat_lt y x ≡ b → (y < x → Up (suc y) (inserted nat_lt x ys)) → Up k (if b then y ∷ inserted nat_lt x ys else x ∷ y ∷ ys)
    step true e rest = (h.0, rest (ltb-true y x e))
    step false e rest =
        let ge : x ≤ y = ltb-false y x e in
        let ne = same_bad true y x (both (nat_eq y x) (has_number ys x) absent).0 in
        (le, (above ge ne, h.1))
      where
        above : x ≤ y → (y ≡ x → ⊥) → suc x ≤ y
        above le other = omega arith

sorted_up : (xs : List ℕ) → IsOnce xs → Up 0 (sorted nat_lt xs)
sorted_up [] h = tt
sorted_up (x ∷ xs) h = inserted_up 0 x (sorted nat_lt xs) (omega arith) (sorted_up xs h.1) (sorted_has xs x ∙ h.0)

-- ---- callers of one level

filter_has : (t : ℕ → Bool) (xs : List ℕ) (z : ℕ) → has_number (filter t xs) z ≡ (t z && has_number xs z)
filter_has t [] z = and_none (t z)
  where
    and_none : (b : Bool) → false ≡ (b && false)
    and_none true = refl
    and_none false = refl
filter_has t (x ∷ xs) z = step (t x) (nat_eq x z) (t z) refl refl refl (filter_has t xs z)
  where
    step : (b e g : Bool) → t x ≡ b → nat_eq x z ≡ e → t z ≡ g → has_number (filter t xs) z ≡ (t z && has_number xs z)
        → has_number (if b then x ∷ filter t xs else filter t xs) z ≡ (g && (nat_eq x z || has_number xs z))
    step true true g tx ez tz ih =
        let here : g ≡ true = sym tz ∙ ap t (sym (eqb-true x z ez)) ∙ tx in
        ap (λ (k : Bool). k || has_number (filter t xs) z) ez ∙ sym (ap (λ (k : Bool). g && (k || has_number xs z)) ez ∙ ap (λ (k : Bool). k && true) here)
    step true false g tx ez tz ih =
        ap (λ (k : Bool). k || has_number (filter t xs) z) ez ∙ ih ∙ ap (λ (k : Bool). k && has_number xs z) tz
        ∙ sym (ap (λ (k : Bool). g && (k || has_number xs z)) ez)
    step false true g tx ez tz ih =
        let here : g ≡ false = sym tz ∙ ap t (sym (eqb-true x z ez)) ∙ tx in
        ih ∙ ap (λ (k : Bool). k && has_number xs z) (tz ∙ here) ∙ sym (ap (λ (k : Bool). k && (nat_eq x z || has_number xs z)) here)
    step false false g tx ez tz ih =
        ih ∙ ap (λ (k : Bool). k && has_number xs z) tz ∙ sym (ap (λ (k : Bool). g && (k || has_number xs z)) ez)

filter_once : (t : ℕ → Bool) (xs : List ℕ) → IsOnce xs → IsOnce (filter t xs)
filter_once t [] h = tt
filter_once t (x ∷ xs) h = step (t x) (filter_once t xs h.1)
  where
    and_false : (a b : Bool) → b ≡ false → (a && b) ≡ false
    and_false true b e = e
    and_false false b e = refl

    step : (b : Bool) → IsOnce (filter t xs) → IsOnce (if b then x ∷ filter t xs else filter t xs)
    step true ih = (filter_has t xs x ∙ and_false (t x) (has_number xs x) h.0, ih)
    step false ih = ih

callers_has : (cs : Calls) (z : ℕ) → has_number (callers cs) z ≡ is_caller cs z
callers_has [] z = refl
callers_has (c ∷ cs) z = step (is_caller cs c.caller) (nat_eq c.caller z) refl refl (callers_has cs z)
  where
    step : (b e : Bool) → is_caller cs c.caller ≡ b → nat_eq c.caller z ≡ e → has_number (callers cs) z ≡ is_caller cs z
        → has_number (if b then callers cs else c.caller ∷ callers cs) z ≡ (nat_eq c.caller z || is_caller cs z)
    step true true there ez ih =
        let is : is_caller cs z ≡ true = ap (λ (k : ℕ). is_caller cs k) (sym (eqb-true c.caller z ez)) ∙ there in
        ih ∙ is ∙ sym (ap (λ (k : Bool). k || is_caller cs z) ez)
    step true false there ez ih = ih ∙ sym (ap (λ (k : Bool). k || is_caller cs z) ez)
    step false e there ez ih = ap (λ (k : Bool). nat_eq c.caller z || k) ih

callers_once : (cs : Calls) → IsOnce (callers cs)
callers_once [] = tt
callers_once (c ∷ cs) = step (is_caller cs c.caller) refl (callers_once cs)
  where
    step : (b : Bool) → is_caller cs c.caller ≡ b → IsOnce (callers cs) → IsOnce (if b then callers cs else c.caller ∷ callers cs)
    step true e ih = ih
    step false e ih = (callers_has cs c.caller ∙ e, ih)

-- ---- routines picked by level

abbrev picks : ℕ → ℕ → List ℕ → List ℕ
picks j k [] = []
picks j k (l ∷ ls) = if nat_eq l (suc j) then k ∷ picks j (suc k) ls else picks j (suc k) ls

picks_up : (j k : ℕ) (ls : List ℕ) → Up k (picks j k ls)
picks_up j k [] = tt
picks_up j k (l ∷ ls) = step (nat_eq l (suc j)) (picks_up j (suc k) ls)
  where
    step : (b : Bool) → Up (suc k) (picks j (suc k) ls) → Up k (if b then k ∷ picks j (suc k) ls else picks j (suc k) ls)
    step true ih = (omega arith, ih)
    step false ih = up_less k (suc k) (picks j (suc k) ls) (omega arith) ih

picks_has : (j : ℕ) (ls : List ℕ) (k i : ℕ) → has_number (picks j k ls) (k + i) ≡ nat_eq (number_at ls i) (suc j)
picks_has j [] k i = sym (ne_eqb 0 (suc j) (λ same. absurd (omega arith)))
picks_has j (l ∷ ls) k zero = step (nat_eq l (suc j))
  where
    here : nat_eq k (k + 0) ≡ true
    here = eq-eqb k (k + 0) (omega arith)

    step : (b : Bool) → has_number (if b then k ∷ picks j (suc k) ls else picks j (suc k) ls) (k + 0) ≡ b
    step true = ap (λ (b : Bool). b || has_number (picks j (suc k) ls) (k + 0)) here
    step false = up_low (suc k) (k + 0) (picks j (suc k) ls) (picks_up j (suc k) ls) (omega arith)
picks_has j (l ∷ ls) k (suc i) =
    let next : suc k + i ≡ k + suc i = omega arith in
    step (nat_eq l (suc j)) (ap (λ (z : ℕ). has_number (picks j (suc k) ls) z) (sym next) ∙ picks_has j ls (suc k) i)
  where
    step : (b : Bool) → has_number (picks j (suc k) ls) (k + suc i) ≡ nat_eq (number_at ls i) (suc j)
        → has_number (if b then k ∷ picks j (suc k) ls else picks j (suc k) ls) (k + suc i) ≡ nat_eq (number_at ls i) (suc j)
    step true ih = ap (λ (b : Bool). b || has_number (picks j (suc k) ls) (k + suc i)) (ne_eqb k (k + suc i) (λ same. absurd (omega arith))) ∙ ih
    step false ih = ih

pub levelled_length : (ls : List ℕ) (ws : List (List ℕ)) (k : ℕ) → length (levelled ws k ls) ≡ length ws
levelled_length [] ws k = refl
levelled_length (l ∷ ls) ws k = levelled_length ls (if nat_lt 0 l then put_in ws (l - 1) k else ws) (suc k) ∙ step (nat_lt 0 l)
  where
    step : (b : Bool) → length (if b then put_in ws (l - 1) k else ws) ≡ length ws
    step true = length-set ws (l - 1) (list_at ws (l - 1) ++ k ∷ [])
    step false = refl

levelled_at : (j : ℕ) (ls : List ℕ) (ws : List (List ℕ)) (k : ℕ) → AllByRecursion (λ l. l ≤ length ws) ls
    → list_at (levelled ws k ls) j ≡ list_at ws j ++ picks j k ls
levelled_at j [] ws k h = sym (append-nil (list_at ws j))
levelled_at j (l ∷ ls) ws k h =
    levelled_at j ls (if nat_lt 0 l then put_in ws (l - 1) k else ws) (suc k) (subst (λ (n : ℕ). AllByRecursion (λ m. m ≤ n) ls) (sym (long (nat_lt 0 l))) h.1)
    ∙ step (nat_lt 0 l) (nat_eq l (suc j)) refl refl
  where
    long : (b : Bool) → length (if b then put_in ws (l - 1) k else ws) ≡ length ws
    long true = length-set ws (l - 1) (list_at ws (l - 1) ++ k ∷ [])
    long false = refl

    step : (b e : Bool) → nat_lt 0 l ≡ b → nat_eq l (suc j) ≡ e
        → list_at (if b then put_in ws (l - 1) k else ws) j ++ picks j (suc k) ls
        ≡ list_at ws j ++ (if e then k ∷ picks j (suc k) ls else picks j (suc k) ls)
    step true true eb ee =
        let some = ltb-true 0 l eb in
        let bound = h.0 in
        let same : l ≡ suc j = eqb-true l (suc j) ee in
        let at : l - 1 ≡ j = omega arith in
        ap (λ (xs : List ℕ). xs ++ picks j (suc k) ls) (put_at ws (l - 1) k j (omega arith)
        ∙ ap (λ (b : Bool). if b then list_at ws (l - 1) ++ k ∷ [] else list_at ws j) (eq-eqb (l - 1) j at))
        ∙ append_assoc (list_at ws (l - 1)) (k ∷ []) (picks j (suc k) ls)
        ∙ ap (λ (i : ℕ). list_at ws i ++ k ∷ picks j (suc k) ls) at
    step true false eb ee =
        let some = ltb-true 0 l eb in
        let bound = h.0 in
        let other : nat_eq (l - 1) j ≡ false = ne_eqb (l - 1) j (λ at. same_bad true l (suc j) ee (one_less some at)) in
        ap (λ (xs : List ℕ). xs ++ picks j (suc k) ls) (put_at ws (l - 1) k j (omega arith)
        ∙ ap (λ (b : Bool). if b then list_at ws (l - 1) ++ k ∷ [] else list_at ws j) other)
      where
        one_less : 0 < l → l - 1 ≡ j → l ≡ suc j
        one_less some at = omega arith
    step false true eb ee =
        let le = ltb-false 0 l eb in
        let same = eqb-true l (suc j) ee in
        absurd (omega arith)
    step false false eb ee = refl

-- ---- the greatest level

all_most : (f : plan.Choice → ℕ) (b : ℕ) (cs : Calls) → greatest f cs ≤ b → AllByRecursion (λ c. f c ≤ b) cs
all_most f b [] le = tt
all_most f b (c ∷ cs) le =
    let most : max (f c) (greatest f cs) ≤ b = le in
    (omega arith, all_most f b cs (omega arith))

most_all : (f : plan.Choice → ℕ) (b : ℕ) (cs : Calls) → AllByRecursion (λ c. f c ≤ b) cs → greatest f cs ≤ b
most_all f b [] h = omega arith
most_all f b (c ∷ cs) h = let one = h.0 in let rest = most_all f b cs h.1 in omega arith

pub numbers_most : (b : ℕ) (ls : List ℕ) → greatest (λ l. l) ls ≤ b → AllByRecursion (λ l. l ≤ b) ls
numbers_most b [] le = tt
numbers_most b (l ∷ ls) le =
    let most : max l (greatest (λ x. x) ls) ≤ b = le in
    (omega arith, numbers_most b ls (omega arith))

number_most : (ls : List ℕ) (x : ℕ) → number_at ls x ≤ greatest (λ l. l) ls
number_most [] x = omega arith
number_most (l ∷ ls) zero = omega arith
number_most (l ∷ ls) (suc x) = let rest = number_most ls x in omega arith

most_numbers : (b : ℕ) (ls : List ℕ) → ((x : ℕ) → number_at ls x ≤ b) → greatest (λ l. l) ls ≤ b
most_numbers b [] h = omega arith
most_numbers b (l ∷ ls) h = let one : l ≤ b = h 0 in let rest = most_numbers b ls (λ x. h (suc x)) in omega arith

past_end : (ts : List ℕ) (i : ℕ) → length ts ≤ i → number_at ts i ≡ 0
past_end [] i le = refl
past_end (t ∷ ts) zero le = absurd (omega arith)
past_end (t ∷ ts) (suc i) le = past_end ts i (omega arith)

caller_below : (n : ℕ) (cs : Calls) (z : ℕ) → AreBelow n cs → is_caller cs z ≡ true → z < n
caller_below n [] z h e = let bad : false ≡ true = e in absurd cc
caller_below n (c ∷ cs) z h e = step (nat_eq c.caller z) refl (λ g. caller_below n cs z h.1 g) e
  where
    step : (b : Bool) → nat_eq c.caller z ≡ b → (is_caller cs z ≡ true → z < n) → (b || is_caller cs z) ≡ true → z < n
    step true ez rest g = let lt = h.0.0 in let same = eqb-true c.caller z ez in omega arith
    step false ez rest g = rest g

no_caller : (cs : Calls) (z : ℕ) → is_caller cs z ≡ false → AllByRecursion (λ c. c.caller ≡ z → ⊥) cs
no_caller [] z e = tt
no_caller (c ∷ cs) z e =
    let both = or_both (nat_eq c.caller z) (is_caller cs z) e in
    (same_bad true c.caller z both.0, no_caller cs z both.1)
  where
    or_both : (a b : Bool) → (a || b) ≡ false → (a ≡ false) × (b ≡ false)
    or_both false b g = (refl, g)
    or_both true b g = let bad : true ≡ false = g in absurd cc

module _ (cs : Calls) (acyclic : is_acyclic cs ≡ true) (ls : List ℕ) (size : length ls ≡ bound_of cs)
    (levels : (x : ℕ) → x < bound_of cs → number_at ls x ≡ level cs x) where
  no_level : (z : ℕ) → is_caller cs z ≡ false → level cs z ≤ 0
  no_level z e =
      level_least cs 0 z (all_to (λ (c : plan.Choice). c.caller ≡ z → ⊥) (λ c. c.caller ≡ z → suc (level cs c.callee) ≤ 0) cs
      (λ c h same. absurd (h same)) (no_caller cs z e))

  number_is : (z : ℕ) (b : Bool) → nat_lt z (bound_of cs) ≡ b → is_caller cs z ≡ false → number_at ls z ≤ 0
  number_is z true e none_here =
      let is = levels z (ltb-true z (bound_of cs) e) in
      let low = no_level z none_here in
      omega arith
  number_is z false e none_here =
      let le : bound_of cs ≤ z = ltb-false z (bound_of cs) e in
      let past = past_end ls z (omega arith) in
      omega arith

  abbrev at_level : ℕ → List ℕ
  at_level k = sorted nat_lt (filter (λ pid. nat_eq (level cs pid) k) (callers cs))

  same_test : (j z : ℕ) (b : Bool) → is_caller cs z ≡ b → nat_eq (number_at ls z) (suc j) ≡ (nat_eq (level cs z) (suc j) && b)
  same_test j z true e =
      ap (λ (n : ℕ). nat_eq n (suc j)) (levels z (caller_below (bound_of cs) cs z (calls_below (bound_of cs) cs (omega arith)) e))
      ∙ and_true (nat_eq (level cs z) (suc j))
    where
      and_true : (b : Bool) → b ≡ (b && true)
      and_true true = refl
      and_true false = refl
  same_test j z false e =
      let low = number_is z (nat_lt z (bound_of cs)) refl e in
      ne_eqb (number_at ls z) (suc j) (λ same. absurd (omega arith)) ∙ and_false (nat_eq (level cs z) (suc j))
    where
      and_false : (b : Bool) → false ≡ (b && false)
      and_false true = refl
      and_false false = refl

  one_wave : (j : ℕ) → picks j 0 ls ≡ at_level (suc j)
  one_wave j =
      up_same 0 0 (picks j 0 ls) (at_level (suc j)) (picks_up j 0 ls)
      (sorted_up (filter (λ pid. nat_eq (level cs pid) (suc j)) (callers cs))
      (filter_once (λ pid. nat_eq (level cs pid) (suc j)) (callers cs) (callers_once cs)))
      (λ z. (let same : 0 + z ≡ z = omega arith in
      ap (λ (k : ℕ). has_number (picks j 0 ls) k) (sym same) ∙ picks_has j ls 0 z
      ∙ same_test j z (is_caller cs z) refl
      ∙ ap (λ (b : Bool). nat_eq (level cs z) (suc j) && b) (sym (callers_has cs z))
      ∙ sym (filter_has (λ pid. nat_eq (level cs pid) (suc j)) (callers cs) z)
      ∙ sym (sorted_has (filter (λ pid. nat_eq (level cs pid) (suc j)) (callers cs)) z)))

  by_list : (ws : List (List ℕ)) (k n : ℕ) → length ws ≡ n → ((j : ℕ) → j < n → list_at ws j ≡ at_level (k + j)) → ws ≡ waves_from cs k n
  by_list [] k zero e h = refl
  by_list [] k (suc n) e h = absurd (omega arith)
  by_list (w ∷ ws) k zero e h = absurd (omega arith)
  by_list (w ∷ ws) k (suc n) e h =
      let first : k + 0 ≡ k = omega arith in
      ap₂ {A = List ℕ} {B = List (List ℕ)} {C = List (List ℕ)} (λ v vs. v ∷ vs) (h 0 (omega arith) ∙ ap (λ (i : ℕ). at_level i) first)
      (by_list ws (suc k) n (omega arith) (λ j lt. (let next : k + suc j ≡ suc k + j = omega arith in
      h (suc j) (omega arith) ∙ ap (λ (i : ℕ). at_level i) next)))

  level_low : (z : ℕ) → level cs z ≤ height cs
  level_low z =
      level_least cs (height cs) z
      (all_to (λ (c : plan.Choice). (level cs c.callee < level cs c.caller) × (level cs c.caller ≤ height cs))
      (λ c. c.caller ≡ z → suc (level cs c.callee) ≤ height cs) cs
      (λ c g same. (let falls = g.0 in let low = g.1 in omega arith))
      (all_both (λ (c : plan.Choice). level cs c.callee < level cs c.caller) (λ c. level cs c.caller ≤ height cs) cs (levels_fall cs acyclic)
      (all_most (λ c. level cs c.caller) (height cs) cs (omega arith))))

  number_low : (z : ℕ) (b : Bool) → nat_lt z (bound_of cs) ≡ b → number_at ls z ≤ height cs
  number_low z true e = let is = levels z (ltb-true z (bound_of cs) e) in let low = level_low z in omega arith
  number_low z false e =
      let le : bound_of cs ≤ z = ltb-false z (bound_of cs) e in
      let past = past_end ls z (omega arith) in
      omega arith

  pub highest_is : greatest (λ l. l) ls ≡ height cs
  highest_is =
      let high = most_numbers (height cs) ls (λ z. number_low z (nat_lt z (bound_of cs)) refl) in
      let low = most_all (λ c. level cs c.caller) (greatest (λ l. l) ls) cs
      (all_to (λ (c : plan.Choice). (c.caller < bound_of cs) × (c.callee < bound_of cs)) (λ c. level cs c.caller ≤ greatest (λ l. l) ls) cs
      (λ c lt. (let is = levels c.caller lt.0 in let most = number_most ls c.caller in omega arith)) (calls_below (bound_of cs) cs (omega arith))) in
      omega arith

  pub waves_made : levelled (replicate (greatest (λ l. l) ls) []) 0 ls ≡ waves cs
  waves_made =
      let n = greatest (λ l. l) ls in
      let empties : length (replicate n none) ≡ n = length-replicate n none in
      let inside = subst (λ (k : ℕ). AllByRecursion (λ l. l ≤ k) ls) (sym empties) (numbers_most n ls (omega arith)) in
      by_list (levelled (replicate n []) 0 ls) 1 n (levelled_length ls (replicate n []) 0 ∙ empties)
      (λ j lt. (let next : suc j ≡ 1 + j = omega arith in
      levelled_at j ls (replicate n []) 0 inside ∙ ap (λ (xs : List ℕ). xs ++ picks j 0 ls) (empty_at n j) ∙ one_wave j
      ∙ ap (λ (i : ℕ). at_level i) next))
      ∙ ap (λ (k : ℕ). waves_from cs 1 k) highest_is
