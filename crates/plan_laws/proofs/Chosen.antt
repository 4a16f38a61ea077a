-- The choice's calls are sites of their callers with those callees, and free of cycles.
use Rattle.std.proofs.Common.{◌≡◌, ℕ, suc, ◌+◌, ◌<◌, List, [], ◌∷◌, ◌++◌, map, Bool, true, false, refl, ap, subst, sym, ◌∙◌, arith, slice_get, eqb-true}
use Rattle.std.proofs.Common.{◌⊎◌, inl, inr}
use Rattle.std.specs.Prelude.{◌&&◌, ◌||◌, nat_eq, nat_le, if◌then◌else◌, Some}
use Rattle.std.specs.List.{AllByRecursion, list_all}
use Rattle.il_core.specs.declared.program.IlProgram.{IlProgram}
use Rattle.il_core.specs.Program.{routine_at, main_pid}
use Rattle.il_core.specs.Routine.{RoutineParts}
use Rattle.il_core.specs.Valid.{IsProgram}
use Rattle.il_laws.specs.Known.{KnownSite, known_sites}
use Rattle.il_core.proofs.Found.{found_number}
use Rattle.il_laws.proofs.Serving.{each_found}
use Rattle.il_laws.proofs.SpliceBlocks.{all_append}
use Rattle.list_laws.proofs.Tests.{and_first, and_second}
use Rattle.plan_laws.specs.Summary.{Summary, summary, summaries, CallSite, numbered, call_sites}
use Rattle.plan_laws.specs.Numbers.{Choice, is_chosen, InlineSite, if_chosen, falling, inlined_numbers, is_within, cost_after}
use Rattle.plan_laws.specs.Levels.{level, is_acyclic, height}
use Rattle.plan_laws.specs.Choosing.{ranks_before, ranked_sites, is_candidate, may_inline, chosen_site, accepted, choice}
use Rattle.plan_laws.specs.Inlining.{by_waves, inlined_routines}
use Rattle.plan_laws.specs.ChoiceLaws.{Falls, IsCall, AreCalls}
use Rattle.plan_laws.proofs.GroupsFit.{sorted_all}
use Rattle.plan_laws.proofs.Levels.{levels_fall}
use Rattle.plan_laws.proofs.Spending.{accepted_holds}
use Rattle.plan_laws.proofs.Waves.{SitesFall, waves_are}

-- a call site as its caller has it
pub record IsOf (rs : List RoutineParts) (x : CallSite) : Type 0 where
  pub caller : RoutineParts
  pub is : routine_at rs x.caller ≡ Some caller
  pub at : slice_get (known_sites caller) x.number ≡ Some x.site

module _ (rs : List RoutineParts) where
  abbrev pub StandsHere : RoutineParts → Type 0
  StandsHere r = routine_at rs r.pid ≡ Some r

  numbered_are : (r : RoutineParts) → StandsHere r → (k : ℕ) (xs : List KnownSite)
      → ((i : ℕ) (x : KnownSite) → slice_get xs i ≡ Some x → slice_get (known_sites r) (k + i) ≡ Some x) → AllByRecursion (IsOf rs) (numbered r.pid k xs)
  numbered_are r e k [] h = tt
  numbered_are r e k (x ∷ xs) h =
      let here : k ≡ k + 0 = omega arith in
      let later = λ (i : ℕ) (y : KnownSite) (g : slice_get xs i ≡ Some y).
      (let there : suc k + i ≡ k + suc i = omega arith in ap (λ (n : ℕ). slice_get (known_sites r) n) there ∙ h (suc i) y g) in
      (record { caller = r; is = e; at = ap (λ (n : ℕ). slice_get (known_sites r) n) here ∙ h 0 x refl }, numbered_are r e (suc k) xs later)

  sites_are : (qs : List RoutineParts) → AllByRecursion StandsHere qs → AllByRecursion (IsOf rs) (call_sites (map summary qs))
  sites_are [] h = tt
  sites_are (q ∷ qs) h =
      let all = λ (i : ℕ) (x : KnownSite) (e : slice_get (known_sites q) i ≡ Some x).
      (let same : 0 + i ≡ i = omega arith in ap (λ (n : ℕ). slice_get (known_sites q) n) same ∙ e) in
      all_append (IsOf rs) (numbered q.pid 0 (known_sites q)) (call_sites (map summary qs)) (numbered_are q h.0 0 (known_sites q) all) (sites_are qs h.1)

-- each routine of a program stands at its PID
pub all_here : (p : IlProgram) → IsProgram p → AllByRecursion (StandsHere p.routines) p.routines
all_here p valid =
    each_found (λ r. r.pid) (StandsHere p.routines) p.routines valid.routines
    (λ q x e. subst (λ (y : ℕ). routine_at p.routines y ≡ Some x) (sym (found_number (λ r. r.pid) q p.routines x e)) e)

-- the sites of a program's summaries are those of its routines
pub sites_of_callers : (p : IlProgram) → IsProgram p → AllByRecursion (IsOf p.routines) (call_sites (summaries p))
sites_of_callers p valid = sites_are p.routines p.routines (all_here p valid)

-- what holds of each site and of each list of calls that one joins holds of the choice
module _ (ss : List Summary) (main limit : ℕ) where
  module _ (S : CallSite → Type 0) (P : Choice → Type 0) (one : (x : CallSite) → S x → P (chosen_site x)) where
    take_if : (k : Bool) (ds es : List Choice) → AllByRecursion P ds → AllByRecursion P es → AllByRecursion P (if k then ds else es)
    take_if true ds es h g = h
    take_if false ds es h g = g

    accepted_all : (cs : List Choice) (xs : List CallSite) → AllByRecursion P cs → AllByRecursion S xs → AllByRecursion P (accepted ss main limit cs xs)
    accepted_all cs [] h g = h
    accepted_all cs (x ∷ xs) h g =
        let ds = cs ++ chosen_site x ∷ [] in
        take_if (is_candidate main x && may_inline ss limit ds) (accepted ss main limit ds xs) (accepted ss main limit cs xs)
        (accepted_all ds xs (all_append P cs (chosen_site x ∷ []) h (one x g.0, tt)) g.1) (accepted_all cs xs h g.1)

  pub choice_all : (P : Choice → Type 0) (S : CallSite → Type 0) → ((x : CallSite) → S x → P (chosen_site x)) → AllByRecursion S (call_sites ss)
      → AllByRecursion P (choice ss main limit)
  choice_all P S one h = accepted_all S P one [] (ranked_sites ss) tt (sorted_all S ranks_before (call_sites ss) h)

  pub choice_acyclic : is_acyclic (choice ss main limit) ≡ true
  choice_acyclic =
      accepted_holds ss main limit (λ cs. is_acyclic cs ≡ true)
      (λ cs e. and_first (is_acyclic cs) (list_all (λ s. is_within (inlined_numbers ss cs s)) ss)
      (and_first (is_acyclic cs && list_all (λ s. is_within (inlined_numbers ss cs s)) ss) (nat_le (cost_after ss cs) limit) e)) [] (ranked_sites ss) refl

  pub choice_within : list_all (λ s. is_within (inlined_numbers ss [] s)) ss ≡ true
      → list_all (λ s. is_within (inlined_numbers ss (choice ss main limit) s)) ss ≡ true
  choice_within h =
      accepted_holds ss main limit (λ cs. list_all (λ s. is_within (inlined_numbers ss cs s)) ss ≡ true)
      (λ cs e. and_second (is_acyclic cs) (list_all (λ s. is_within (inlined_numbers ss cs s)) ss)
      (and_first (is_acyclic cs && list_all (λ s. is_within (inlined_numbers ss cs s)) ss) (nat_le (cost_after ss cs) limit) e)) [] (ranked_sites ss) h

pub choice_calls : (p : IlProgram) → IsProgram p → (main limit : ℕ) → AreCalls p.routines (choice (summaries p) main limit)
choice_calls p valid main limit =
    choice_all (summaries p) main limit (IsCall p.routines) (IsOf p.routines)
    (λ x h r s e at. (let found : Some h.caller ≡ Some r = sym h.is ∙ e in
    let same : h.caller ≡ r = cc found in
    let here = ap (λ (q : RoutineParts). slice_get (known_sites q) x.number) same in
    let site : Some s ≡ Some x.site = sym at ∙ sym here ∙ h.at in
    let one : s ≡ x.site = cc site in ap (λ (y : KnownSite). y.callee) one)) (sites_of_callers p valid)

-- the levels fall from each routine to its accepted callees
module _ (rs : List RoutineParts) (cs : List Choice) (r : RoutineParts) (here : routine_at rs r.pid ≡ Some r) where
  abbrev Lower : ℕ → Type 0
  Lower pid = level cs pid < level cs r.pid

  or_true : (a b : Bool) → (a || b) ≡ true → (a ≡ true) ⊎ (b ≡ true)
  or_true true b e = inl refl
  or_true false b e = inr e

  lower_at : (ds : List Choice) → AreCalls rs ds → Falls (level cs) ds → (k : ℕ) (x : KnownSite) → slice_get (known_sites r) k ≡ Some x
      → is_chosen ds r.pid k ≡ true → Lower x.callee
  lower_at [] h g k x at e = absurd cc
  lower_at (d ∷ ds) h g k x at e =
      elim (or_true (nat_eq d.caller r.pid && nat_eq d.site k) (is_chosen ds r.pid k) e) [
        | inl both ↦
            (let caller = eqb-true d.caller r.pid (and_first (nat_eq d.caller r.pid) (nat_eq d.site k) both) in
            let site = eqb-true d.site k (and_second (nat_eq d.caller r.pid) (nat_eq d.site k) both) in
            let found = ap (λ (y : ℕ). routine_at rs y) caller ∙ here in
            let callee : x.callee ≡ d.callee = h.0 r x found (ap (λ (n : ℕ). slice_get (known_sites r) n) site ∙ at) in
            let one = ap (λ (y : ℕ). level cs y) callee in
            let two = ap (λ (y : ℕ). level cs y) caller in
            let falls = g.0 in omega arith)
        | inr rest ↦ lower_at ds h.1 g.1 k x at rest
      ]

  chosen_lower : (b : Bool) (k : ℕ) (x : KnownSite) (lower : List InlineSite) → (b ≡ true → Lower x.callee) → AllByRecursion (λ y. Lower y.callee) lower
      → AllByRecursion (λ y. Lower y.callee) (if_chosen b k x lower)
  chosen_lower true k x lower h g = (h refl, g)
  chosen_lower false k x lower h g = g

  falling_lower : (k : ℕ) (xs : List KnownSite) (lower : List InlineSite)
      → ((i : ℕ) (x : KnownSite) → slice_get xs i ≡ Some x → is_chosen cs r.pid (k + i) ≡ true → Lower x.callee) → AllByRecursion (λ y. Lower y.callee) lower
      → AllByRecursion (λ y. Lower y.callee) (falling cs r.pid k xs lower)
  falling_lower k [] lower h g = g
  falling_lower k (x ∷ xs) lower h g =
      let here : k + 0 ≡ k = omega arith in
      falling_lower (suc k) xs (if_chosen (is_chosen cs r.pid k) k x lower)
      (λ i y at e. (let there : k + suc i ≡ suc k + i = omega arith in h (suc i) y at (ap (λ (n : ℕ). is_chosen cs r.pid n) there ∙ e)))
      (chosen_lower (is_chosen cs r.pid k) k x lower (λ e. h 0 x refl (ap (λ (n : ℕ). is_chosen cs r.pid n) here ∙ e)) g)

  sites_lower : AreCalls rs cs → Falls (level cs) cs → SitesFall cs r
  sites_lower h g =
      falling_lower 0 (known_sites r) []
      (λ i x at e. (let same : i ≡ 0 + i = omega arith in lower_at cs h g i x at (ap (λ (n : ℕ). is_chosen cs r.pid n) same ∙ e))) tt

all_lower : (rs qs : List RoutineParts) (cs : List Choice) → AreCalls rs cs → Falls (level cs) cs → AllByRecursion (StandsHere rs) qs
    → AllByRecursion (SitesFall cs) qs
all_lower rs [] cs h g all = tt
all_lower rs (q ∷ qs) cs h g all = (sites_lower rs cs q all.0 h g, all_lower rs qs cs h g all.1)

pub waves_agree : (p : IlProgram) → IsProgram p → (cs : List Choice) → AreCalls p.routines cs → is_acyclic cs ≡ true
    → by_waves cs 1 (height cs) p.routines ≡ inlined_routines p.routines cs
waves_agree p valid cs calls e = waves_are cs p.routines (all_lower p.routines p.routines cs calls (levels_fall cs e) (all_here p valid))

pub choice_waves : (p : IlProgram) → IsProgram p → (limit : ℕ)
    → by_waves (choice (summaries p) (main_pid p.shapes) limit) 1 (height (choice (summaries p) (main_pid p.shapes) limit)) p.routines
    ≡ inlined_routines p.routines (choice (summaries p) (main_pid p.shapes) limit)
choice_waves p valid limit =
    waves_agree p valid (choice (summaries p) (main_pid p.shapes) limit) (choice_calls p valid (main_pid p.shapes) limit)
    (choice_acyclic (summaries p) (main_pid p.shapes) limit)
