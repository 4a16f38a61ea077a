-- The numbers that the laws compute, as sums over accepted calls.
use Rattle.std.proofs.Common.{◌≡◌, ℕ, zero, suc, ◌+◌, ◌<◌, ◌≤◌, List, [], ◌∷◌, Bool, true, false, refl, ap, sym, ◌∙◌, arith, slice_get, eqb-true}
use Rattle.std.proofs.Common.{eq-eqb, ne_eqb}
use Rattle.std.specs.Prelude.{nat_eq, ◌||◌, ◌&&◌, Option, Some, None, ⊤}
use Rattle.std.specs.List.{AllByRecursion}
use Rattle.il_core.proofs.Found.{found_number}
use Rattle.il_laws.proofs.Grown.{all_to}
use Rattle.il_laws.proofs.Kept.{all_both}
use Rattle.il_laws.specs.Known.{KnownSite}
use Rattle.plan_laws.specs.Summary.{Summary, summary_at}
use Rattle.plan_laws.specs.Levels.{level, is_acyclic}
use Rattle.plan_laws.specs.Numbers.{Choice, is_chosen, InlineSite, if_chosen, falling, inline_sites, Numbers, own, with_body, with_callee, with_calls, numbers}
use Rattle.plan_laws.proofs.Levels.{levels_fall}
use Rattle.inline_budget.specs.Calls.{Calls, only_if, calls_sum}
use Rattle.inline_budget.proofs.Sums.{sum_least, sum_same}

-- one of the numbers of routines, and what a site adds to it beside its callee's
pub record Measure : Type 0 where
  pub of : Numbers → ℕ
  pub extra : Summary → ℕ
  pub with : (n : Numbers) (s : Summary) (m : Numbers) → of (with_body n s m) ≡ of n + (of m + extra s)

-- no site is chosen twice
abbrev pub AreOnce : Calls → Type 0
AreOnce [] = ⊤
AreOnce (c ∷ cs) = (is_chosen cs c.caller c.site ≡ false) × AreOnce cs

-- a routine's site with its callee
pub record SiteAt (xs : List KnownSite) (k q : ℕ) : Type 0 where
  pub site : KnownSite
  pub at : slice_get xs k ≡ Some site
  pub callee : site.callee ≡ q

-- an accepted call is a site of its caller, and its callee has a summary
pub record IsSite (ss : List Summary) (c : Choice) : Type 0 where
  pub at : (s : Summary) → summary_at ss c.caller ≡ Some s → SiteAt s.sites c.site c.callee
  pub callee : Summary
  pub found : summary_at ss c.callee ≡ Some callee
  pub caller : Summary
  pub caller_found : summary_at ss c.caller ≡ Some caller

module _ (μ : Measure) where
  abbrev pub body_of : (Summary → Numbers) → Option Summary → ℕ
  body_of f None = 0
  body_of f (Some s) = μ.of (f s) + μ.extra s

  abbrev pub extra_of : Option Summary → ℕ
  extra_of None = 0
  extra_of (Some s) = μ.extra s

  abbrev pub own_of : Option Summary → ℕ
  own_of None = 0
  own_of (Some s) = μ.of (own s)

  -- what a routine has itself, and what a site adds beside it
  abbrev pub own_at : List Summary → ℕ → ℕ
  own_at ss y = own_of (summary_at ss y)

  abbrev pub extra_at : List Summary → ℕ → ℕ
  extra_at ss y = extra_of (summary_at ss y)

  abbrev site_sum : (ℕ → ℕ) → List InlineSite → ℕ
  site_sum w [] = 0
  site_sum w (x ∷ xs) = w x.callee + site_sum w xs

  callee_sum : (n : Numbers) (o : Option Summary) (f : Summary → Numbers) → μ.of (with_callee n o f) ≡ μ.of n + body_of f o
  callee_sum n None f = omega arith
  callee_sum n (Some s) f = μ.with n s (f s)

  with_sum : (ss : List Summary) (f : Summary → Numbers) (n : Numbers) (xs : List InlineSite)
      → μ.of (with_calls ss f n xs) ≡ μ.of n + site_sum (λ y. body_of f (summary_at ss y)) xs
  with_sum ss f n [] = omega arith
  with_sum ss f n (x ∷ xs) =
      let rest = with_sum ss f (with_callee n (summary_at ss x.callee) f) xs in
      let one = callee_sum n (summary_at ss x.callee) f in
      omega arith

  module _ (w : ℕ → ℕ) where
    abbrev chosen_sum : Calls → ℕ → ℕ → List KnownSite → ℕ
    chosen_sum cs pid k [] = 0
    chosen_sum cs pid k (x ∷ xs) = only_if (is_chosen cs pid k) (w x.callee) + chosen_sum cs pid (suc k) xs

    if_sum : (b : Bool) (k : ℕ) (x : KnownSite) (ys : List InlineSite) → site_sum w (if_chosen b k x ys) ≡ only_if b (w x.callee) + site_sum w ys
    if_sum true k x ys = omega arith
    if_sum false k x ys = omega arith

    falling_sum : (cs : Calls) (pid k : ℕ) (xs : List KnownSite) (ys : List InlineSite)
        → site_sum w (falling cs pid k xs ys) ≡ site_sum w ys + chosen_sum cs pid k xs
    falling_sum cs pid k [] ys = omega arith
    falling_sum cs pid k (x ∷ xs) ys =
        let rest = falling_sum cs pid (suc k) xs (if_chosen (is_chosen cs pid k) k x ys) in
        let one = if_sum (is_chosen cs pid k) k x ys in
        omega arith

    -- what one call adds
    abbrev hit : Choice → ℕ → ℕ → List KnownSite → ℕ
    hit c pid k [] = 0
    hit c pid k (x ∷ xs) = only_if (nat_eq c.caller pid && nat_eq c.site k) (w x.callee) + hit c pid (suc k) xs

    hit_other : (c : Choice) (pid k : ℕ) (xs : List KnownSite) → nat_eq c.caller pid ≡ false → hit c pid k xs ≡ 0
    hit_other c pid k [] e = refl
    hit_other c pid k (x ∷ xs) e =
        let rest = hit_other c pid (suc k) xs e in
        let one : only_if (nat_eq c.caller pid && nat_eq c.site k) (w x.callee) ≡ 0 = ap (λ (b : Bool). only_if (b && nat_eq c.site k) (w x.callee)) e in
        omega arith

    hit_past : (c : Choice) (pid k : ℕ) (xs : List KnownSite) → c.site < k → hit c pid k xs ≡ 0
    hit_past c pid k [] lt = refl
    hit_past c pid k (x ∷ xs) lt =
        let rest = hit_past c pid (suc k) xs (omega arith) in
        let one : only_if (nat_eq c.caller pid && nat_eq c.site k) (w x.callee) ≡ 0
        = ap (λ (b : Bool). only_if (nat_eq c.caller pid && b) (w x.callee)) (ne_eqb c.site k (λ same. absurd (omega arith))) ∙ and_none (nat_eq c.caller pid)
        in
        omega arith
      where
        and_none : (b : Bool) → only_if (b && false) (w x.callee) ≡ 0
        and_none true = refl
        and_none false = refl

    hit_at : (c : Choice) (pid k i : ℕ) (xs : List KnownSite) → nat_eq c.caller pid ≡ true → c.site ≡ k + i → SiteAt xs i c.callee
        → hit c pid k xs ≡ w c.callee
    hit_at c pid k i [] e at h = let bad : None ≡ Some h.site = h.at in absurd cc
    hit_at c pid k zero (x ∷ xs) e at h =
        let here : Some x ≡ Some h.site = h.at in
        let same : x ≡ h.site = cc here in
        let past = hit_past c pid (suc k) xs (omega arith) in
        let one : only_if (nat_eq c.caller pid && nat_eq c.site k) (w x.callee) ≡ w x.callee
        = ap (λ (b : Bool). only_if (b && nat_eq c.site k) (w x.callee)) e
        ∙ ap (λ (b : Bool). only_if b (w x.callee)) (eq-eqb c.site k (omega arith)) in
        let callee : w x.callee ≡ w c.callee = ap (λ (y : KnownSite). w y.callee) same ∙ ap w h.callee in
        omega arith
    hit_at c pid k (suc i) (x ∷ xs) e at h =
        let rest = hit_at c pid (suc k) i xs e (omega arith) (record { site = h.site; at = h.at; callee = h.callee }) in
        let one : only_if (nat_eq c.caller pid && nat_eq c.site k) (w x.callee) ≡ 0
        = ap (λ (b : Bool). only_if (nat_eq c.caller pid && b) (w x.callee)) (ne_eqb c.site k (λ same. absurd (omega arith))) ∙ and_none (nat_eq c.caller pid)
        in
        omega arith
      where
        and_none : (b : Bool) → only_if (b && false) (w x.callee) ≡ 0
        and_none true = refl
        and_none false = refl

    chosen_more : (c : Choice) (cs : Calls) (pid k : ℕ) (xs : List KnownSite) → is_chosen cs c.caller c.site ≡ false
        → chosen_sum (c ∷ cs) pid k xs ≡ hit c pid k xs + chosen_sum cs pid k xs
    chosen_more c cs pid k [] e = omega arith
    chosen_more c cs pid k (x ∷ xs) e =
        let rest = chosen_more c cs pid (suc k) xs e in
        let one = either (nat_eq c.caller pid) (nat_eq c.site k) (is_chosen cs pid k) refl refl refl in
        omega arith
      where
        either : (a b g : Bool) → nat_eq c.caller pid ≡ a → nat_eq c.site k ≡ b → is_chosen cs pid k ≡ g
            → only_if ((a && b) || g) (w x.callee) ≡ only_if (a && b) (w x.callee) + only_if g (w x.callee)
        either true true true ea eb eg =
            let caller = eqb-true c.caller pid ea in
            let site = eqb-true c.site k eb in
            let bad : true ≡ false = sym eg ∙ ap (λ (p : ℕ). is_chosen cs p k) (sym caller) ∙ ap (λ (i : ℕ). is_chosen cs c.caller i) (sym site) ∙ e in
            absurd cc
        either true true false ea eb eg = omega arith
        either true false g ea eb eg = omega arith
        either false b g ea eb eg = omega arith

    -- over a routine's sites
    sites_sum : (ss : List Summary) (s : Summary) (cs : Calls) → summary_at ss s.pid ≡ Some s → AreOnce cs → AllByRecursion (IsSite ss) cs
        → chosen_sum cs s.pid 0 s.sites ≡ calls_sum cs w s.pid
    sites_sum ss s [] e once h = none s.sites 0
      where
        none : (xs : List KnownSite) (k : ℕ) → chosen_sum [] s.pid k xs ≡ 0
        none [] k = refl
        none (x ∷ xs) k = let rest = none xs (suc k) in omega arith
    sites_sum ss s (c ∷ cs) e once h =
        let rest = sites_sum ss s cs e once.1 h.1 in
        let more = chosen_more c cs s.pid 0 s.sites once.0 in
        let one = here (nat_eq c.caller s.pid) refl in
        omega arith
      where
        here : (b : Bool) → nat_eq c.caller s.pid ≡ b → hit c s.pid 0 s.sites ≡ only_if b (w c.callee)
        here true ec =
            let caller = eqb-true c.caller s.pid ec in
            hit_at c s.pid 0 c.site s.sites ec (omega arith) (h.0.at s (ap (λ (p : ℕ). summary_at ss p) caller ∙ e))
        here false ec = hit_other c s.pid 0 s.sites ec

  -- ---- the numbers

  module _ (ss : List Summary) (cs : Calls) (once : AreOnce cs) (sites : AllByRecursion (IsSite ss) cs) where
    pub numbers_are : (n : ℕ) (s : Summary) → summary_at ss s.pid ≡ Some s
        → μ.of (numbers ss cs (suc n) s) ≡ μ.of (own s) + calls_sum cs (λ y. body_of (numbers ss cs n) (summary_at ss y)) s.pid
    numbers_are n s e =
        let w = λ (y : ℕ). body_of (numbers ss cs n) (summary_at ss y) in
        let one = with_sum ss (numbers ss cs n) (own s) (inline_sites cs s.pid s.sites) in
        let two = falling_sum w cs s.pid 0 s.sites [] in
        let three = sites_sum w ss s cs e once sites in
        omega arith

    module _ (acyclic : is_acyclic cs ≡ true) (T : ℕ → ℕ) where
      body_is : (n : ℕ) (q : Summary) (y : ℕ) → summary_at ss y ≡ Some q → body_of (numbers ss cs n) (summary_at ss y) ≡ μ.of (numbers ss cs n q) + μ.extra q
      body_is n q y e = ap (body_of (numbers ss cs n)) e

      low_step : (n : ℕ) (s : Summary) → summary_at ss s.pid ≡ Some s
          → T s.pid ≤ own_at ss s.pid + calls_sum cs (λ y. T y + extra_at ss y) s.pid
          → ((q : Summary) → summary_at ss q.pid ≡ Some q → level cs q.pid < level cs s.pid → T q.pid ≤ μ.of (numbers ss cs n q))
          → T s.pid ≤ μ.of (numbers ss cs (suc n) s)
      low_step n s e le below =
          let is = numbers_are n s e in
          let own_is : own_at ss s.pid ≡ μ.of (own s) = ap own_of e in
          let least = sum_least (λ y. T y + extra_at ss y) (λ y. body_of (numbers ss cs n) (summary_at ss y)) cs s.pid
          (all_to (λ (c : Choice). IsSite ss c × (level cs c.callee < level cs c.caller))
          (λ c. c.caller ≡ s.pid → T c.callee + extra_at ss c.callee ≤ body_of (numbers ss cs n) (summary_at ss c.callee)) cs
          (λ c h same. one c h.0 h.1 same) (all_both (IsSite ss) (λ c. level cs c.callee < level cs c.caller) cs sites (levels_fall cs acyclic))) in
          omega arith
        where
          one : (c : Choice) → IsSite ss c → level cs c.callee < level cs c.caller → c.caller ≡ s.pid
              → T c.callee + extra_at ss c.callee ≤ body_of (numbers ss cs n) (summary_at ss c.callee)
          one c h falls same =
              let q = h.callee in
              let pid : q.pid ≡ c.callee = found_number (λ r. r.pid) c.callee ss q h.found in
              let found : summary_at ss q.pid ≡ Some q = ap (λ (y : ℕ). summary_at ss y) pid ∙ h.found in
              let there : level cs c.caller ≡ level cs s.pid = ap (λ (y : ℕ). level cs y) same in
              let here : level cs q.pid ≡ level cs c.callee = ap (λ (y : ℕ). level cs y) pid in
              let low = below q found (omega arith) in
              let at : T q.pid ≡ T c.callee = ap T pid in
              let extra : extra_at ss c.callee ≡ μ.extra q = ap extra_of h.found in
              let body = body_is n q c.callee h.found in
              omega arith

      -- numbers that are at most what their routines' own and their callees' give are at most those of the laws
      pub low : ((x : ℕ) → T x ≤ own_at ss x + calls_sum cs (λ y. T y + extra_at ss y) x) → (m : ℕ) (s : Summary) → summary_at ss s.pid ≡ Some s
          → level cs s.pid ≤ m → T s.pid ≤ μ.of (numbers ss cs (suc m) s)
      low h zero s e le = low_step 0 s e (h s.pid) (λ q g lt. absurd (omega arith))
      low h (suc m) s e le = low_step (suc m) s e (h s.pid) (λ q g lt. low h m q g (omega arith))

      same_step : (n : ℕ) (s : Summary) → summary_at ss s.pid ≡ Some s
          → T s.pid ≡ own_at ss s.pid + calls_sum cs (λ y. T y + extra_at ss y) s.pid
          → ((q : Summary) → summary_at ss q.pid ≡ Some q → level cs q.pid < level cs s.pid → T q.pid ≡ μ.of (numbers ss cs n q))
          → T s.pid ≡ μ.of (numbers ss cs (suc n) s)
      same_step n s e is_sum below =
          let is = numbers_are n s e in
          let own_is : own_at ss s.pid ≡ μ.of (own s) = ap own_of e in
          let least = sum_same (λ y. T y + extra_at ss y) (λ y. body_of (numbers ss cs n) (summary_at ss y)) cs s.pid
          (all_to (λ (c : Choice). IsSite ss c × (level cs c.callee < level cs c.caller))
          (λ c. c.caller ≡ s.pid → T c.callee + extra_at ss c.callee ≡ body_of (numbers ss cs n) (summary_at ss c.callee)) cs
          (λ c h same. one c h.0 h.1 same) (all_both (IsSite ss) (λ c. level cs c.callee < level cs c.caller) cs sites (levels_fall cs acyclic))) in
          omega arith
        where
          one : (c : Choice) → IsSite ss c → level cs c.callee < level cs c.caller → c.caller ≡ s.pid
              → T c.callee + extra_at ss c.callee ≡ body_of (numbers ss cs n) (summary_at ss c.callee)
          one c h falls same =
              let q = h.callee in
              let pid : q.pid ≡ c.callee = found_number (λ r. r.pid) c.callee ss q h.found in
              let found : summary_at ss q.pid ≡ Some q = ap (λ (y : ℕ). summary_at ss y) pid ∙ h.found in
              let there : level cs c.caller ≡ level cs s.pid = ap (λ (y : ℕ). level cs y) same in
              let here : level cs q.pid ≡ level cs c.callee = ap (λ (y : ℕ). level cs y) pid in
              let low = below q found (omega arith) in
              let at : T q.pid ≡ T c.callee = ap T pid in
              let extra : extra_at ss c.callee ≡ μ.extra q = ap extra_of h.found in
              let body = body_is n q c.callee h.found in
              omega arith

      -- numbers that are what their routines' own and their callees' give are those of the laws
      pub exact : ((x : ℕ) → T x ≡ own_at ss x + calls_sum cs (λ y. T y + extra_at ss y) x) → (m : ℕ) (s : Summary) → summary_at ss s.pid ≡ Some s
          → level cs s.pid ≤ m → T s.pid ≡ μ.of (numbers ss cs (suc m) s)
      exact h zero s e le = same_step 0 s e (h s.pid) (λ q g lt. absurd (omega arith))
      exact h (suc m) s e le = same_step (suc m) s e (h s.pid) (λ q g lt. exact h m q g (omega arith))
