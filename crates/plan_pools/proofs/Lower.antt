-- The levels fall from a routine to the callees of its accepted calls.
use Rattle.std.proofs.Common.{◌≡◌, ◌<◌, ◌+◌, ℕ, suc, Bool, true, false, nat_eq, List, [], ◌∷◌, ◌++◌, slice_get, Some, refl, sym, ap, arith, ◌∙◌, ◌⊎◌, inl, inr}
use Rattle.std.specs.Prelude.{◌||◌, ◌&&◌}
use Rattle.std.specs.List.{AllByRecursion}
use Rattle.std.proofs.lemmas.Option.{slice_get-map}
use Rattle.list_laws.proofs.Entries.{same_number}
use Rattle.list_laws.proofs.Tests.{and_first, and_second}
use Rattle.il_core.specs.Program.{routine_at}
use Rattle.il_core.specs.Routine.{RoutineParts}
use Rattle.il_laws.specs.Known.{KnownSite, known_sites}
use Rattle.il_laws.specs.Sites.{callees}
use Rattle.il_laws.proofs.SpliceSites.{mapped}
use Rattle.plan_laws.specs.ChoiceLaws.{AreCalls, Falls}
use Rattle.plan_laws.specs.Levels.{level}
use Rattle.plan_laws.specs.Numbers.{Choice, is_chosen}
use Rattle.plan_laws.proofs.Sites.{known_callees}
use Rattle.plan_pools.specs.Accepting.{site_if, sites_from, sites_of}

-- a call of a routine is one of its known sites
pub known_at : (r : RoutineParts) (k x : ℕ) → slice_get (callees r.blocks) k ≡ Some x
    → (s : KnownSite) × (slice_get (known_sites r) k ≡ Some s) × (s.callee ≡ x)
known_at r k x e =
    mapped (λ (s : KnownSite). s.callee) (slice_get (known_sites r) k) x
    (sym (slice_get-map (λ (s : KnownSite). s.callee) (known_sites r) k) ∙ ap (λ (ps : List ℕ). slice_get ps k) (known_callees r) ∙ e)

or_true : (a b : Bool) → (a || b) ≡ true → (a ≡ true) ⊎ (b ≡ true)
or_true true b e = inl refl
or_true false b e = inr e

module _ (rs : List RoutineParts) (cs : List Choice) (r : RoutineParts) (here : routine_at rs r.pid ≡ Some r) where
  abbrev Lower : ℕ → Type 0
  Lower x = level cs x < level cs r.pid

  lower_call : (ds : List Choice) → AreCalls rs ds → Falls (level cs) ds → (k : ℕ) (s : KnownSite) → slice_get (known_sites r) k ≡ Some s
      → is_chosen ds r.pid k ≡ true → Lower s.callee
  lower_call [] h g k s at e = let bad : false ≡ true = e in absurd cc
  lower_call (d ∷ ds) h g k s at e =
      elim (or_true (nat_eq d.caller r.pid && nat_eq d.site k) (is_chosen ds r.pid k) e) [
        | inl both ↦
            (let one_pid = and_first (nat_eq d.caller r.pid) (nat_eq d.site k) both in
            let caller = same_number d.caller r.pid one_pid in
            let site = same_number d.site k (and_second (nat_eq d.caller r.pid) (nat_eq d.site k) both) in
            let callee : s.callee ≡ d.callee = h.0 r s (ap (λ (y : ℕ). routine_at rs y) caller ∙ here)
            (ap (λ (n : ℕ). slice_get (known_sites r) n) site ∙ at) in
            let one = ap (λ (y : ℕ). level cs y) callee in
            let two = ap (λ (y : ℕ). level cs y) caller in
            let falls = g.0 in omega arith)
        | inr rest ↦ lower_call ds h.1 g.1 k s at rest
      ]

  lower_from : (k : ℕ) (xs : List ℕ) → ((i x : ℕ) → slice_get xs i ≡ Some x → is_chosen cs r.pid (k + i) ≡ true → Lower x)
      → AllByRecursion (λ y. Lower y.callee) (sites_from (is_chosen cs r.pid) k xs)
  lower_from k [] h = tt
  lower_from k (x ∷ xs) h =
      let first : k + 0 ≡ k = omega arith in
      by (is_chosen cs r.pid k) (λ e. h 0 x refl (ap (λ (n : ℕ). is_chosen cs r.pid n) first ∙ e))
      (lower_from (suc k) xs (λ i y at e.
      (let next : k + suc i ≡ suc k + i = omega arith in h (suc i) y at (ap (λ (n : ℕ). is_chosen cs r.pid n) next ∙ e))))
    where
      by : (b : Bool) → (b ≡ true → Lower x) → AllByRecursion (λ y. Lower y.callee) (sites_from (is_chosen cs r.pid) (suc k) xs)
          → AllByRecursion (λ y. Lower y.callee)
          (site_if b k x ++ sites_from (is_chosen cs r.pid) (suc k) xs)
      by true one rest = (one refl, rest)
      by false one rest = rest

  pub sites_lower : AreCalls rs cs → Falls (level cs) cs → AllByRecursion (λ y. Lower y.callee) (sites_of (is_chosen cs) r)
  sites_lower h g =
      lower_from 0 (callees r.blocks) (λ i x at e.
      (let s = known_at r i x at in
      let first : i ≡ 0 + i = omega arith in
      let lower = lower_call cs h g i s.0 s.1 (ap (λ (n : ℕ). is_chosen cs r.pid n) first ∙ e) in
      let same = ap (λ (y : ℕ). level cs y) s.2 in omega arith))
