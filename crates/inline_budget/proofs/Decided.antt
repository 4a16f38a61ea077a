-- Whether a call may be inlined beside the accepted ones, by what the tables say.
use Rattle.std.proofs.Common.{◌≡◌, ℕ, suc, ◌+◌, ◌-◌, ◌*◌, ◌<◌, ◌≤◌, List, [], ◌∷◌, ◌++◌, length, Bool, true, false, refl, ap, sym, ◌∙◌, arith, eqb-true}
use Rattle.std.proofs.Common.{eq-eqb, ne_eqb, leb-true, le-leb, ltb-true, ltb-false}
use Rattle.std.specs.Prelude.{◌^◌, nat_eq, nat_le, nat_lt, ◌&&◌, if◌then◌else◌, slice_set, Option, Some, None}
use Rattle.std.specs.List.{AllByRecursion, list_all}
use Rattle.std.proofs.Math.Nat.{mul-add, mul-le-mul_left, pow-le-pow_left}
use Rattle.std.proofs.lemmas.List.{length-set}
use Rattle.il_core.specs.Limits.{max_arrays, max_elements, max_registers, max_size}
use Rattle.il_core.proofs.Found.{found_all, found_number}
use Rattle.list_laws.proofs.Tests.{and_first, and_second}
use Rattle.il_laws.proofs.Grown.{all_to}
use Rattle.il_laws.proofs.Kept.{all_both}
use Rattle.plan_laws.specs.ChoiceLaws.{Falls}
use Rattle.plan_laws.specs.Choosing.{may_inline}
use Rattle.plan_laws.specs.Levels.{level, is_acyclic}
use Rattle.plan_laws.specs.Numbers as plan
use Rattle.plan_laws.specs.Summary.{Summary, summary_at}
use Rattle.plan_laws.proofs.Levels.{levels_fall, ranked_acyclic}
use Rattle.inline_budget.specs.declared.numbers.Numbers.{Numbers}
use Rattle.inline_budget.specs.Calls.{Calls, only_if, calls_sum, shares, number_at}
use Rattle.inline_budget.specs.Attempts.{numbers_at, plain, grown, IsWithin, squares, rise, IsAttempt, IsTaken, IsRefused}
use Rattle.inline_budget.proofs.Sums.{sum_append, sum_scaled, sum_same, sum_least, sum_none}
use Rattle.inline_budget.proofs.Tables.{same_bad, set_is}
use Rattle.inline_budget.proofs.Levelled.{level_least}
use Rattle.inline_budget.proofs.Attempts.{squares_set}
use Rattle.inline_budget.proofs.Inlined.{Measure, AreOnce, IsSite, own_at, extra_at, extra_of, low, exact}
use Rattle.inline_budget.specs.Linked.{AreApart}
use Rattle.inline_budget.proofs.Squares.{squares_sum, sum_most}

-- ---- the four measures

abbrev pub size_measure : Measure
size_measure = record { of = λ n. n.size; extra = λ s. 2 + s.params + s.returns; with = λ n s m. omega arith }

abbrev pub register_measure : Measure
register_measure = record { of = λ n. n.regs; extra = λ s. 0; with = λ n s m. omega arith }

abbrev pub array_measure : Measure
array_measure = record { of = λ n. n.arrays; extra = λ s. 0; with = λ n s m. omega arith }

abbrev pub element_measure : Measure
element_measure = record { of = λ n. n.elements; extra = λ s. 0; with = λ n s m. omega arith }

-- a table's value of a routine
abbrev pub value : Measure → List Numbers → ℕ → ℕ
value μ T x = μ.of (plain (numbers_at T x))

-- each routine has its own and what its calls give
abbrev pub IsSum : Measure → List Summary → Calls → (ℕ → ℕ) → Type 0
IsSum μ ss cs T = (x : ℕ) → T x ≡ own_at μ ss x + calls_sum cs (λ y. T y + extra_at μ ss y) x

pub record AreSums (ss : List Summary) (cs : Calls) (T : List Numbers) : Type 0 where
  pub size : IsSum size_measure ss cs (value size_measure T)
  pub regs : IsSum register_measure ss cs (value register_measure T)
  pub arrs : IsSum array_measure ss cs (value array_measure T)
  pub elems : IsSum element_measure ss cs (value element_measure T)

-- what a call of q brings
pub record IsBrought (ss : List Summary) (T : List Numbers) (q : ℕ) (by : Numbers) : Type 0 where
  pub size : by.size ≡ value size_measure T q + extra_at size_measure ss q
  pub regs : by.regs ≡ value register_measure T q + extra_at register_measure ss q
  pub arrs : by.arrays ≡ value array_measure T q + extra_at array_measure ss q
  pub elems : by.elements ≡ value element_measure T q + extra_at element_measure ss q

every : (P : plan.Choice → Type 0) → ((c : plan.Choice) → P c) → (cs : Calls) → AllByRecursion P cs
every P h [] = tt
every P h (c ∷ cs) = (h c, every P h cs)

-- ---- one measure

module _ (μ : Measure) (ss : List Summary) (cs : Calls) (T : ℕ → ℕ) (sum : IsSum μ ss cs T) (p k q d : ℕ) (d_is : d ≡ T q + extra_at μ ss q) where
  abbrev c : plan.Choice
  c = record { caller = p; site = k; callee = q }

  -- where d comes f times to each routine that was handed on h times, the numbers are sums again
  module _ (f h : ℕ → ℕ) (f_is : (z : ℕ) → f z ≡ only_if (nat_eq z p) 1 + calls_sum cs h z) (free : h q ≡ 0) where
    swap : (z : ℕ) → only_if (nat_eq z p) 1 ≡ only_if (nat_eq p z) 1
    swap z = step (nat_eq z p) (nat_eq p z) refl refl
      where
        step : (a b : Bool) → nat_eq z p ≡ a → nat_eq p z ≡ b → only_if a 1 ≡ only_if b 1
        step true true ea eb = refl
        step true false ea eb = absurd (same_bad true p z eb (sym (eqb-true z p ea)))
        step false true ea eb = absurd (same_bad true z p ea (sym (eqb-true p z eb)))
        step false false ea eb = refl

    sums : (z : ℕ) → T z + d * f z ≡ own_at μ ss z + calls_sum (cs ++ c ∷ []) (λ y. (T y + extra_at μ ss y) + d * h y) z
    sums z =
        let old = sum z in
        let more = sum_append (λ y. (T y + extra_at μ ss y) + d * h y) cs c z in
        let split = sum_scaled (λ y. T y + extra_at μ ss y) h d cs z in
        let times : d * f z ≡ d * (only_if (nat_eq p z) 1 + calls_sum cs h z) = ap (λ (n : ℕ). d * n) (f_is z ∙ ap (λ (n : ℕ). n + calls_sum cs h z) (swap z))
        in
        let parts = mul-add d (only_if (nat_eq p z) 1) (calls_sum cs h z) in
        let one = last (nat_eq p z) in
        omega arith
      where
        last : (b : Bool) → only_if b ((T q + extra_at μ ss q) + d * h q) ≡ d * only_if b 1
        last true =
            let nothing : d * h q ≡ d * 0 = ap (λ (n : ℕ). d * n) free in
            let is = d_is in
            omega arith
        last false = omega arith

    -- before all is handed on they are at most what they then are
    pub low_sums : ((y : ℕ) → h y ≤ f y) → (z : ℕ)
        → T z + d * f z ≤ own_at μ ss z + calls_sum (cs ++ c ∷ []) (λ y. (T y + d * f y) + extra_at μ ss y) z
    low_sums le z =
        let is = sums z in
        let least = sum_least (λ y. (T y + extra_at μ ss y) + d * h y) (λ y. (T y + d * f y) + extra_at μ ss y) (cs ++ c ∷ []) z
        (every (λ e. e.caller ≡ z → (T e.callee + extra_at μ ss e.callee) + d * h e.callee ≤ (T e.callee + d * f e.callee) + extra_at μ ss e.callee)
        (λ e same. (let more : d * h e.callee ≤ d * f e.callee = mul-le-mul_left d (le e.callee) in omega arith)) (cs ++ c ∷ [])) in
        omega arith

    pub exact_sums : ((y : ℕ) → h y ≡ f y) → (z : ℕ)
        → T z + d * f z ≡ own_at μ ss z + calls_sum (cs ++ c ∷ []) (λ y. (T y + d * f y) + extra_at μ ss y) z
    exact_sums same z =
        let is = sums z in
        let least = sum_same (λ y. (T y + extra_at μ ss y) + d * h y) (λ y. (T y + d * f y) + extra_at μ ss y) (cs ++ c ∷ []) z
        (every (λ e. e.caller ≡ z → (T e.callee + extra_at μ ss e.callee) + d * h e.callee ≡ (T e.callee + d * f e.callee) + extra_at μ ss e.callee)
        (λ e at. (let more : d * h e.callee ≡ d * f e.callee = ap (λ (n : ℕ). d * n) (same e.callee) in omega arith)) (cs ++ c ∷ [])) in
        omega arith

-- ---- levels

all_true : (t : plan.Choice → Bool) (xs : Calls) → list_all t xs ≡ true → AllByRecursion (λ c. t c ≡ true) xs
all_true t [] e = tt
all_true t (x ∷ xs) e = step (t x) refl e (λ g. all_true t xs g)
  where
    step : (b : Bool) → t x ≡ b → (b && list_all t xs) ≡ true → (list_all t xs ≡ true → AllByRecursion (λ c. t c ≡ true) xs)
        → (t x ≡ true) × AllByRecursion (λ c. t c ≡ true) xs
    step true eb g rest = (eb, rest g)
    step false eb g rest = let bad : false ≡ true = g in absurd cc

level_short : (cs : Calls) → is_acyclic cs ≡ true → (x : ℕ) → level cs x ≤ length cs
level_short cs e x =
    level_least cs (length cs) x
    (all_to (λ (c : plan.Choice). (level cs c.callee < level cs c.caller) × (nat_le (level cs c.caller) (length cs) ≡ true))
    (λ c. c.caller ≡ x → suc (level cs c.callee) ≤ length cs) cs
    (λ c h same. (let falls = h.0 in let short = leb-true (level cs c.caller) (length cs) h.1 in omega arith))
    (all_both (λ (c : plan.Choice). level cs c.callee < level cs c.caller) (λ c. nat_le (level cs c.caller) (length cs) ≡ true) cs
    (levels_fall cs e) (all_true (λ c. nat_le (level cs c.caller) (length cs)) cs e)))

falls_front : (r : ℕ → ℕ) (cs : Calls) (c : plan.Choice) → Falls r (cs ++ c ∷ []) → Falls r cs × (r c.callee < r c.caller)
falls_front r [] c h = (tt, h.0)
falls_front r (d ∷ cs) c h = let rest = falls_front r cs c h.1 in ((h.0, rest.0), rest.1)

not_le : (a b : ℕ) → nat_le a b ≡ false → b < a
not_le a b e = by_less (nat_lt b a) refl
  where
    by_less : (k : Bool) → nat_lt b a ≡ k → b < a
    by_less true f = ltb-true b a f
    by_less false f =
        let le : a ≤ b = ltb-false b a f in
        let bad : true ≡ false = sym (le-leb a b le) ∙ e in
        absurd cc

-- the limits as bounds and as tests
record IsBounded (n : plan.Numbers) : Type 0 where
  size : n.size ≤ max_size
  regs : n.regs ≤ max_registers
  arrays : n.arrays ≤ max_arrays
  elements : n.elements ≤ max_elements

bounds : (n : plan.Numbers) → plan.is_within n ≡ true → IsBounded n
bounds n e =
    let abc = and_first (nat_le n.size max_size && nat_le n.regs max_registers && nat_le n.arrays max_arrays) (nat_le n.elements max_elements) e in
    let ab = and_first (nat_le n.size max_size && nat_le n.regs max_registers) (nat_le n.arrays max_arrays) abc in
    record {
      size = leb-true n.size max_size (and_first (nat_le n.size max_size) (nat_le n.regs max_registers) ab);
      regs = leb-true n.regs max_registers (and_second (nat_le n.size max_size) (nat_le n.regs max_registers) ab);
      arrays = leb-true n.arrays max_arrays (and_second (nat_le n.size max_size && nat_le n.regs max_registers) (nat_le n.arrays max_arrays) abc);
      elements = leb-true n.elements max_elements
          (and_second (nat_le n.size max_size && nat_le n.regs max_registers && nat_le n.arrays max_arrays) (nat_le n.elements max_elements) e);
    }

all_four : (a b c d : Bool) → a ≡ true → b ≡ true → c ≡ true → d ≡ true → (a && b && c && d) ≡ true
all_four true b c d ea eb ec ed = by_two b c d eb ec ed
  where
    by_two : (b c d : Bool) → b ≡ true → c ≡ true → d ≡ true → (true && b && c && d) ≡ true
    by_two true true d eb ec ed = ed
    by_two true false d eb ec ed = let bad : false ≡ true = ec in absurd cc
    by_two false c d eb ec ed = let bad : false ≡ true = eb in absurd cc
all_four false b c d ea eb ec ed = let bad : false ≡ true = ea in absurd cc

is_bounds : (n : plan.Numbers) → IsBounded n → plan.is_within n ≡ true
is_bounds n w =
    all_four (nat_le n.size max_size) (nat_le n.regs max_registers) (nat_le n.arrays max_arrays) (nat_le n.elements max_elements)
    (le-leb n.size max_size w.size) (le-leb n.regs max_registers w.regs) (le-leb n.arrays max_arrays w.arrays) (le-leb n.elements max_elements w.elements)

is_within_of : (n : Numbers) → IsWithin n → plan.is_within (plain n) ≡ true
is_within_of n w = is_bounds (plain n) (record { size = w.size; regs = w.regs; arrays = w.arrays; elements = w.elements })

-- the value at each caller is at least what its callee gives
sum_has : (f B : ℕ → ℕ) (cs : Calls) → ((x : ℕ) → calls_sum cs f x ≤ B x) → AllByRecursion (λ c. f c.callee ≤ B c.caller) cs
sum_has f B [] h = tt
sum_has f B (c ∷ cs) h =
    let whole : only_if (nat_eq c.caller c.caller) (f c.callee) + calls_sum cs f c.caller ≤ B c.caller = h c.caller in
    let on : only_if (nat_eq c.caller c.caller) (f c.callee) ≡ f c.callee = ap (λ (b : Bool). only_if b (f c.callee)) (eq-eqb c.caller c.caller refl) in
    (omega arith, sum_has f B cs (λ x. less x))
  where
    less : (x : ℕ) → calls_sum cs f x ≤ B x
    less x = let whole : only_if (nat_eq c.caller x) (f c.callee) + calls_sum cs f x ≤ B x = h x in omega arith

-- ---- a call and the tables

pub record IsCandidate (ss : List Summary) (cs : Calls) (T : List Numbers) (p k q : ℕ) (by : Numbers) : Type 0 where
  pub apart : AreApart ss
  pub below : AllByRecursion (λ s. s.pid < length T) ss
  pub nothing : (x : ℕ) → summary_at ss x ≡ None → (numbers_at T x).size ≡ 0
  pub caller : Summary
  pub caller_found : summary_at ss p ≡ Some caller
  pub callers : AllByRecursion (IsSite ss) cs
  pub sums : AreSums ss cs T
  pub brought : IsBrought ss T q by
  pub once : AreOnce (cs ++ record { caller = p; site = k; callee = q } ∷ [])
  pub sites : AllByRecursion (IsSite ss) (cs ++ record { caller = p; site = k; callee = q } ∷ [])

pub here_all : (ss : List Summary) → AreApart ss → AllByRecursion (λ s. summary_at ss s.pid ≡ Some s) ss
here_all [] h = tt
here_all (s ∷ ss) h = (
  ap (λ (b : Bool). if b then Some s else summary_at ss s.pid) (eq-eqb s.pid s.pid refl),
  all_to (λ (q : Summary). summary_at ss q.pid ≡ Some q) (λ q. summary_at (s ∷ ss) q.pid ≡ Some q) ss (λ q e. behind q e (nat_eq s.pid q.pid) refl)
      (here_all ss h.1),
)
  where
    behind : (q : Summary) → summary_at ss q.pid ≡ Some q → (b : Bool) → nat_eq s.pid q.pid ≡ b → (if b then Some s else summary_at ss q.pid) ≡ Some q
    behind q e true eb =
        let same = eqb-true s.pid q.pid eb in
        let bad : None ≡ Some q = sym h.0 ∙ ap (λ (n : ℕ). summary_at ss n) same ∙ e in
        absurd cc
    behind q e false eb = e

module _ (ss : List Summary) (cs : Calls) (T : List Numbers) (p k q : ℕ) (by : Numbers) (limit : ℕ) (h : IsCandidate ss cs T p k q by) where
  abbrev ds : Calls
  ds = cs ++ record { caller = p; site = k; callee = q } ∷ []

  abbrev laws : Summary → plan.Numbers
  laws s = plan.inlined_numbers ss ds s

  not_may : (b : Bool) → is_acyclic ds ≡ b → (b ≡ true → may_inline ss limit ds ≡ false) → may_inline ss limit ds ≡ false
  not_may true e f = f refl
  not_may false e f =
      ap (λ (b : Bool). (b && list_all (λ s. plan.is_within (laws s)) ss) && nat_le (plan.cost_after ss ds) limit) e

  -- to a routine without a summary nothing comes
  no_times : (f g : ℕ → ℕ) → ((z : ℕ) → f z ≡ only_if (nat_eq z p) 1 + calls_sum cs g z) → (z : ℕ) → summary_at ss z ≡ None → f z ≡ 0
  no_times f g is z e =
      let other : only_if (nat_eq z p) 1 ≡ 0 = ap (λ (b : Bool). only_if b 1) (ne_eqb z p (λ same. not_caller same)) in
      let sum = sum_none g cs z (all_to (IsSite ss) (λ c. c.caller ≡ z → g c.callee ≡ 0) cs
      (λ c site same. absurd (no_site c site same)) h.callers) in
      let whole = is z in
      omega arith
    where
      not_caller : z ≡ p → ⊥
      not_caller same = let bad : None ≡ Some h.caller = sym e ∙ ap (λ (n : ℕ). summary_at ss n) same ∙ h.caller_found in absurd cc

      no_site : (c : plan.Choice) → IsSite ss c → c.caller ≡ z → ⊥
      no_site c site same =
          let bad : None ≡ Some site.caller = sym e ∙ ap (λ (n : ℕ). summary_at ss n) (sym same) ∙ site.caller_found in absurd cc

  -- ---- it is refused

  module _ (r : IsRefused cs T p q by limit) (acyclic : is_acyclic ds ≡ true) where
    abbrev a : IsAttempt cs T p q by limit r.ts r.hs r.ks r.next r.room r.m (r.x ∷ r.rest)
    a = r.attempt

    abbrev full : ℕ → ℕ
    full z = number_at r.ts z + shares r.m z (r.x ∷ r.rest)

    full_is : (z : ℕ) → full z ≡ only_if (nat_eq z p) 1 + calls_sum cs (number_at r.hs) z
    full_is z = a.times z

    free : number_at r.hs q ≡ 0
    free = let le = a.below q in let e = a.free in omega arith

    few : (y : ℕ) → number_at r.hs y ≤ full y
    few y = let le = a.below y in omega arith

    -- with what is to come, the numbers are at most those of the laws
    module _ (μ : Measure) (d : ℕ) (d_is : d ≡ value μ T q + extra_at μ ss q) (sum : IsSum μ ss cs (value μ T)) where
      most : (s : Summary) → summary_at ss s.pid ≡ Some s → value μ T s.pid + d * full s.pid ≤ μ.of (laws s)
      most s e =
          low μ ss ds h.once h.sites acyclic (λ z. value μ T z + d * full z)
          (low_sums μ ss cs (value μ T) sum p k q d d_is full (number_at r.hs) full_is free few) (length ds) s e (level_short ds acyclic s.pid)

    -- x gets at least as much
    x_full : number_at r.ts r.x + r.m ≤ full r.x
    x_full =
        let one : only_if (nat_eq r.x r.x) r.m ≡ r.m = ap (λ (b : Bool). only_if b r.m) (eq-eqb r.x r.x refl) in
        omega arith

    cyclic : r.x ≡ q → ⊥
    cyclic same =
        let falls = falls_front (level ds) cs (record { caller = p; site = k; callee = q }) (levels_fall ds acyclic) in
        let up : level ds p ≤ level ds r.x = (a.rest_ranks (level ds) falls.0).0 in
        let down = falls.1 in
        let at : level ds r.x ≡ level ds q = ap (level ds) same in
        absurd (omega arith)

    none_full : (z : ℕ) → summary_at ss z ≡ None → full z ≡ 0
    none_full z e = no_times full (number_at r.hs) full_is z e

    -- a routine that passes a limit
    all_within : AllByRecursion (λ s. summary_at ss s.pid ≡ Some s) ss → list_all (λ s. plan.is_within (laws s)) ss ≡ true
        → AllByRecursion (λ s. plan.is_within (laws s) ≡ true) ss
    all_within here e = each ss e
      where
        each : (xs : List Summary) → list_all (λ s. plan.is_within (laws s)) xs ≡ true → AllByRecursion (λ s. plan.is_within (laws s) ≡ true) xs
        each [] g = tt
        each (x ∷ xs) g = step (plan.is_within (laws x)) refl g (λ i. each xs i)
          where
            step : (b : Bool) → plan.is_within (laws x) ≡ b → (b && list_all (λ s. plan.is_within (laws s)) xs) ≡ true
                → (list_all (λ s. plan.is_within (laws s)) xs ≡ true → AllByRecursion (λ s. plan.is_within (laws s) ≡ true) xs)
                → (plan.is_within (laws x) ≡ true) × AllByRecursion (λ s. plan.is_within (laws s) ≡ true) xs
            step true eb i rest = (eb, rest i)
            step false eb i rest = let bad : false ≡ true = i in absurd cc

    -- the routine that should get more
    abbrev t : ℕ
    t = number_at r.ts r.x + r.m

    more_times : (d : ℕ) → d * t ≤ d * full r.x
    more_times d = mul-le-mul_left d x_full

    too_large : (s : Summary) → summary_at ss r.x ≡ Some s → plan.is_within (plain (grown (numbers_at T r.x) by t)) ≡ false
        → plan.is_within (laws s) ≡ true → ⊥
    too_large s e bad good =
        let pid : s.pid ≡ r.x = found_number (λ q. q.pid) r.x ss s e in
        let found : summary_at ss s.pid ≡ Some s = ap (λ (n : ℕ). summary_at ss n) pid ∙ e in
        let w = bounds (laws s) good in
        let a1 = at_x size_measure by.size h.brought.size h.sums.size s found pid in
        let a2 = at_x register_measure by.regs h.brought.regs h.sums.regs s found pid in
        let a3 = at_x array_measure by.arrays h.brought.arrs h.sums.arrs s found pid in
        let a4 = at_x element_measure by.elements h.brought.elems h.sums.elems s found pid in
        let w1 = w.size in let w2 = w.regs in let w3 = w.arrays in let w4 = w.elements in
        let is : plan.is_within (plain (grown (numbers_at T r.x) by t)) ≡ true
        = is_bounds (plain (grown (numbers_at T r.x) by t)) (record { size = omega arith; regs = omega arith; arrays = omega arith; elements = omega arith }) in
        let wrong : true ≡ false = sym is ∙ bad in absurd cc
      where
        at_x : (μ : Measure) (d : ℕ) → d ≡ value μ T q + extra_at μ ss q → IsSum μ ss cs (value μ T) → (s : Summary) → summary_at ss s.pid ≡ Some s
            → s.pid ≡ r.x → value μ T r.x + d * t ≤ μ.of (laws s)
        at_x μ d d_is sum s found pid =
            let le = most μ d d_is sum s found in
            let there : value μ T s.pid + d * full s.pid ≡ value μ T r.x + d * full r.x = ap (λ (z : ℕ). value μ T z + d * full z) pid in
            let up = more_times d in
            omega arith

    within_no : plan.is_within (plain (grown (numbers_at T r.x) by t)) ≡ false → list_all (λ s. plan.is_within (laws s)) ss ≡ true → ⊥
    within_no bad good = by_found (summary_at ss r.x) refl
      where
        at_pid : (s : Summary) → summary_at ss r.x ≡ Some s → AllByRecursion (λ s. plan.is_within (laws s) ≡ true) ss → plan.is_within (laws s) ≡ true
        at_pid s e all = (found_all (λ q. q.pid) (λ q. plan.is_within (laws q) ≡ true) r.x ss s all e).0

        by_found : (o : Option Summary) → summary_at ss r.x ≡ o → ⊥
        by_found None e =
            let none = none_full r.x e in
            let le = x_full in
            let same : t ≡ number_at r.ts r.x = zero_both (omega arith) (omega arith) in
            let is : plan.is_within (plain (grown (numbers_at T r.x) by t)) ≡ true
            = ap (λ (n : ℕ). plan.is_within (plain (grown (numbers_at T r.x) by n))) same ∙ is_within_of (grown (numbers_at T r.x) by (number_at r.ts r.x))
            (a.within r.x) in
            let wrong : true ≡ false = sym is ∙ bad in absurd cc
          where
            zero_both : t ≡ 0 → number_at r.ts r.x ≡ 0 → t ≡ number_at r.ts r.x
            zero_both e1 e2 = e1 ∙ sym e2
        by_found (Some s) e = too_large s e bad (at_pid s e (all_within (here_all ss h.apart) good))

    -- the cost that it should have
    abbrev us : List ℕ
    us = slice_set r.ts r.x t

    us_full : (z : ℕ) → number_at us z ≤ full z
    us_full z = step (nat_eq r.x z) refl
      where
        step : (b : Bool) → nat_eq r.x z ≡ b → number_at us z ≤ full z
        step true e =
            let here : number_at us z ≡ t
            = set_is r.ts r.x t z inside ∙ ap (λ (k : Bool). if k then t else number_at r.ts z) e in
            let le = x_full in
            let there : full r.x ≡ full z = ap full (eqb-true r.x z e) in
            omega arith
          where
            inside : r.x < length r.ts
            inside = let lt = r.inside.0 in let size = r.inside.1 in omega arith
        step false e =
            let here : number_at us z ≡ number_at r.ts z
            = set_is r.ts r.x t z (let lt = r.inside.0 in let size = r.inside.1 in omega arith) ∙ ap (λ (k : Bool). if k then t else number_at r.ts z) e in
            omega arith

    cost_most : squares T by.size us ≤ plan.cost_after ss ds
    cost_most =
        let size : length us ≡ length T = length-set r.ts r.x t ∙ r.inside.1 in
        let is = squares_sum ss T by.size us h.apart h.below size
        (λ n e. (let none = none_full n e in let le = us_full n in let nothing = h.nothing n e in
        let zero_times : by.size * number_at us n ≡ by.size * 0 = ap (λ (k : ℕ). by.size * k) (no_more (number_at us n) (full n) le none) in omega arith)) in
        let sum = sum_most (λ s. ((numbers_at T s.pid).size + by.size * number_at us s.pid) ^ 2) (λ s. (laws s).size ^ 2) ss
        (all_to (λ (s : Summary). summary_at ss s.pid ≡ Some s) (λ s. ((numbers_at T s.pid).size + by.size * number_at us s.pid) ^ 2 ≤ (laws s).size ^ 2) ss
        (λ s e. pow-le-pow_left (one s e) 2) (here_all ss h.apart)) in
        omega arith
      where
        no_more : (m n : ℕ) → m ≤ n → n ≡ 0 → m ≡ 0
        no_more m n le e = omega arith

        one : (s : Summary) → summary_at ss s.pid ≡ Some s → (numbers_at T s.pid).size + by.size * number_at us s.pid ≤ (laws s).size
        one s e =
            let le = most size_measure by.size h.brought.size h.sums.size s e in
            let up : by.size * number_at us s.pid ≤ by.size * full s.pid = mul-le-mul_left by.size (us_full s.pid) in
            omega arith

    cost_no : r.room < rise (grown (numbers_at T r.x) by (number_at r.ts r.x)).size (grown (numbers_at T r.x) by t).size
        → plan.cost_after ss ds ≤ limit → ⊥
    cost_no less le =
        let set = squares_set T by.size r.ts r.x t r.inside.0 r.inside.1 in
        let budget = a.budget in
        let most_cost = cost_most in
        absurd (omega arith)

    no_room : may_inline ss limit ds ≡ false
    no_room =
        by_all (list_all (λ s. plan.is_within (laws s)) ss) (nat_le (plan.cost_after ss ds) limit) refl refl
      where
        by_all : (b e : Bool) → list_all (λ s. plan.is_within (laws s)) ss ≡ b → nat_le (plan.cost_after ss ds) limit ≡ e → may_inline ss limit ds ≡ false
        by_all false e eb ee =
            ap (λ (k : Bool). (is_acyclic ds && k) && nat_le (plan.cost_after ss ds) limit) eb ∙ and_none (is_acyclic ds) (nat_le (plan.cost_after ss ds) limit)
          where
            and_none : (k l : Bool) → ((k && false) && l) ≡ false
            and_none true l = refl
            and_none false l = refl
        by_all true false eb ee =
            ap (λ (k : Bool). (is_acyclic ds && list_all (λ s. plan.is_within (laws s)) ss) && k) ee
            ∙ and_last (is_acyclic ds && list_all (λ s. plan.is_within (laws s)) ss)
          where
            and_last : (k : Bool) → (k && false) ≡ false
            and_last true = refl
            and_last false = refl
        by_all true true eb ee =
            absurd (refuse (nat_eq r.x q) (plan.is_within (plain (grown (numbers_at T r.x) by t)))
            (nat_le (rise (grown (numbers_at T r.x) by (number_at r.ts r.x)).size (grown (numbers_at T r.x) by t).size) r.room) refl refl refl r.refused)
          where
            refuse : (i j l : Bool) → nat_eq r.x q ≡ i → plan.is_within (plain (grown (numbers_at T r.x) by t)) ≡ j
                → nat_le (rise (grown (numbers_at T r.x) by (number_at r.ts r.x)).size (grown (numbers_at T r.x) by t).size) r.room ≡ l
                → (if i then None else (if j then (if l then
                Some (r.room - rise (grown (numbers_at T r.x) by (number_at r.ts r.x)).size (grown (numbers_at T r.x) by t).size)
                else None) else None)) ≡ None → ⊥
            refuse true j l ei ej el g = cyclic (eqb-true r.x q ei)
            refuse false false l ei ej el g = within_no ej eb
            refuse false true false ei ej el g = cost_no (above el) (leb-true (plan.cost_after ss ds) limit ee)
              where
                above : nat_le (rise (grown (numbers_at T r.x) by (number_at r.ts r.x)).size (grown (numbers_at T r.x) by t).size) r.room ≡ false
                    → r.room < rise (grown (numbers_at T r.x) by (number_at r.ts r.x)).size (grown (numbers_at T r.x) by t).size
                above e = not_le (rise (grown (numbers_at T r.x) by (number_at r.ts r.x)).size (grown (numbers_at T r.x) by t).size) r.room e
            refuse false true true ei ej el g =
                let bad : Some (r.room - rise (grown (numbers_at T r.x) by (number_at r.ts r.x)).size (grown (numbers_at T r.x) by t).size) ≡ None = g
                in absurd cc

  -- what is refused may not be inlined
  pub refused_may_not : IsRefused cs T p q by limit → may_inline ss limit ds ≡ false
  refused_may_not r = not_may (is_acyclic ds) refl (λ e. no_room r e)

  -- ---- it is taken

  module _ (ts : List ℕ) (room : ℕ) (taken : IsTaken cs T p q by limit ts room) (size : length ts ≡ length T) where
    abbrev now : Measure → ℕ → ℕ → ℕ
    now μ d z = value μ T z + d * number_at ts z

    module _ (μ : Measure) (d : ℕ) (d_is : d ≡ value μ T q + extra_at μ ss q) (sum : IsSum μ ss cs (value μ T)) where
      now_sum : IsSum μ ss ds (now μ d)
      now_sum z = exact_sums μ ss cs (value μ T) sum p k q d d_is (number_at ts) (number_at ts) taken.times taken.free (λ y. refl) z

      moved : (V : ℕ → ℕ) → ((z : ℕ) → V z ≡ now μ d z) → IsSum μ ss ds V
      moved V same z =
          let is = now_sum z in
          let at = same z in
          let calls = sum_same (λ y. V y + extra_at μ ss y) (λ y. now μ d y + extra_at μ ss y) ds z
          (every (λ e. e.caller ≡ z → V e.callee + extra_at μ ss e.callee ≡ now μ d e.callee + extra_at μ ss e.callee)
          (λ e g. ap (λ (n : ℕ). n + extra_at μ ss e.callee) (same e.callee)) ds) in
          omega arith

    abbrev rank : ℕ → ℕ
    rank z = now size_measure by.size z

    rank_sum : (z : ℕ) → calls_sum ds (λ y. rank y + extra_at size_measure ss y) z ≤ rank z
    rank_sum z = let is = now_sum size_measure by.size h.brought.size h.sums.size z in omega arith

    falls : AllByRecursion (λ c. rank c.callee < rank c.caller) ds
    falls =
        all_to (λ (c : plan.Choice). IsSite ss c × (rank c.callee + extra_at size_measure ss c.callee ≤ rank c.caller)) (λ c. rank c.callee < rank c.caller) ds
        (λ c g. one c g.0 g.1)
        (all_both (IsSite ss) (λ c. rank c.callee + extra_at size_measure ss c.callee ≤ rank c.caller) ds h.sites
        (sum_has (λ y. rank y + extra_at size_measure ss y) rank ds rank_sum))
      where
        one : (c : plan.Choice) → IsSite ss c → rank c.callee + extra_at size_measure ss c.callee ≤ rank c.caller → rank c.callee < rank c.caller
        one c site le =
            let some : extra_at size_measure ss c.callee ≡ 2 + site.callee.params + site.callee.returns = ap (extra_of size_measure) site.found in
            omega arith

    acyclic : is_acyclic ds ≡ true
    acyclic = ranked_acyclic ds rank falls

    module _ (μ : Measure) (d : ℕ) (d_is : d ≡ value μ T q + extra_at μ ss q) (sum : IsSum μ ss cs (value μ T)) where
      law_is : (s : Summary) → summary_at ss s.pid ≡ Some s → now μ d s.pid ≡ μ.of (laws s)
      law_is s e = exact μ ss ds h.once h.sites acyclic (now μ d) (now_sum μ d d_is sum) (length ds) s e (level_short ds acyclic s.pid)

    each_within : (s : Summary) → summary_at ss s.pid ≡ Some s → plan.is_within (laws s) ≡ true
    each_within s e =
        let w = taken.within s.pid in
        let e1 = law_is size_measure by.size h.brought.size h.sums.size s e in
        let e2 = law_is register_measure by.regs h.brought.regs h.sums.regs s e in
        let e3 = law_is array_measure by.arrays h.brought.arrs h.sums.arrs s e in
        let e4 = law_is element_measure by.elements h.brought.elems h.sums.elems s e in
        let w1 = w.size in let w2 = w.regs in let w3 = w.arrays in let w4 = w.elements in
        is_bounds (laws s) (record { size = omega arith; regs = omega arith; arrays = omega arith; elements = omega arith })

    all_are : (xs : List Summary) → AllByRecursion (λ s. summary_at ss s.pid ≡ Some s) xs → list_all (λ s. plan.is_within (laws s)) xs ≡ true
    all_are [] g = refl
    all_are (x ∷ xs) g = ap (λ (b : Bool). b && list_all (λ s. plan.is_within (laws s)) xs) (each_within x g.0) ∙ all_are xs g.1

    cost_is : plan.cost_after ss ds ≤ limit
    cost_is =
        let squares_are = squares_sum ss T by.size ts h.apart h.below size
        (λ n e. (let none = no_times (number_at ts) (number_at ts) taken.times n e in let nothing = h.nothing n e in
        let zero_times : by.size * number_at ts n ≡ by.size * 0 = ap (λ (i : ℕ). by.size * i) none in omega arith)) in
        let sum = sum_most (λ s. (laws s).size ^ 2) (λ s. ((numbers_at T s.pid).size + by.size * number_at ts s.pid) ^ 2) ss
        (all_to (λ (s : Summary). summary_at ss s.pid ≡ Some s) (λ s. (laws s).size ^ 2 ≤ ((numbers_at T s.pid).size + by.size * number_at ts s.pid) ^ 2) ss
        (λ s e. pow-le-pow_left (one s e) 2) (here_all ss h.apart)) in
        let budget = taken.budget in
        omega arith
      where
        one : (s : Summary) → summary_at ss s.pid ≡ Some s → (laws s).size ≤ (numbers_at T s.pid).size + by.size * number_at ts s.pid
        one s e = let is = law_is size_measure by.size h.brought.size h.sums.size s e in omega arith

    -- what is taken may be inlined
    pub taken_may : may_inline ss limit ds ≡ true
    taken_may =
        ap (λ (b : Bool). (b && list_all (λ s. plan.is_within (laws s)) ss) && nat_le (plan.cost_after ss ds) limit) acyclic
        ∙ ap (λ (b : Bool). b && nat_le (plan.cost_after ss ds) limit) (all_are ss (here_all ss h.apart))
        ∙ le-leb (plan.cost_after ss ds) limit cost_is

    -- and the numbers that routines then have are sums again
    pub taken_sums : (U : List Numbers) → ((z : ℕ) → numbers_at U z ≡ grown (numbers_at T z) by (number_at ts z)) → AreSums ss ds U
    taken_sums U same =
        record {
          size = moved size_measure by.size h.brought.size h.sums.size (value size_measure U) (λ z. ap (λ (n : Numbers). n.size) (same z));
          regs = moved register_measure by.regs h.brought.regs h.sums.regs (value register_measure U) (λ z. ap (λ (n : Numbers). n.regs) (same z));
          arrs = moved array_measure by.arrays h.brought.arrs h.sums.arrs (value array_measure U) (λ z. ap (λ (n : Numbers). n.arrays) (same z));
          elems = moved element_measure by.elements h.brought.elems h.sums.elems (value element_measure U) (λ z. ap (λ (n : Numbers). n.elements) (same z));
        }
