-- Pools and what is kept of them.
use Rattle.std.proofs.Common.{◌≡◌, ℕ, Bool, true, false, cond, nat_eq, List, Option, Some, None, refl, sym, ap, subst, ◌∙◌}
use Rattle.std.specs.Prelude.{option_map}
use Rattle.std.proofs.lemmas.Option.{same_Some}
use Rattle.naim_core.specs.State.{pool_at}
use Rattle.naim_core.specs.declared.pool.Pool.{Pool}
use Rattle.list_laws.proofs.Entries.{same_number}
use Rattle.naim_loader.specs.Calls.{KeepsAt}
use Rattle.naim_loader.specs.Contents.{HasPool, StandsAt, StandsFor}
use Rattle.naim_loader.specs.Paged.{Paged, kept_at, content_at}
use Rattle.naim_loader.specs.Rows.{Kept}

module _ {T B D : Type 0} where
  -- what is kept of a pool with that value
  pub kept_there : (l : Paged T B D) (p : ℕ) (r : T) → content_at l p ≡ Some r → (k : Kept T B) × (kept_at l p ≡ Some k) × (k.value ≡ r)
  kept_there l p r e = by (kept_at l p) refl e
    where
      by : (o : Option (Kept T B)) → kept_at l p ≡ o → option_map (λ k. k.value) o ≡ Some r → (k : Kept T B) × (kept_at l p ≡ Some k) × (k.value ≡ r)
      by None at h = cc
      by (Some k) at h = (k, at, same_Some k.value r h)

  -- what is kept of the pool p is what was, where all is
  pub keeps_value : (old new : Paged T B D) (p : ℕ) (was : Kept T B) (r : T) → ((q : ℕ) → kept_at new q ≡ kept_at old q) → kept_at old p ≡ Some was
      → was.value ≡ r → KeepsAt old new p (Some (record was { value = r }))
  keeps_value old new p was r same at is q = by (nat_eq p q) refl
    where
      by : (b : Bool) → nat_eq p q ≡ b → kept_at new q ≡ cond b (Some (record was { value = r })) (kept_at old q)
      by true t = same q ∙ ap (kept_at old) (sym (same_number p q t)) ∙ at ∙ (λ i. Some (record was { value = is i }))
      by false t = same q

  -- what is kept after a change, seen from before a part that kept all
  pub keeps_from : (old mid new : Paged T B D) (p : ℕ) (k : Option (Kept T B)) → ((q : ℕ) → kept_at mid q ≡ kept_at old q) → KeepsAt mid new p k
      → KeepsAt old new p k
  keeps_from old mid new p k same c q = c q ∙ ap (cond (nat_eq p q) k) (same q)

  pub content_same : (old new : Paged T B D) (p : ℕ) (r : T) → ((q : ℕ) → kept_at new q ≡ kept_at old q) → content_at old p ≡ Some r → content_at new p ≡ Some r
  content_same old new p r same at = ap (option_map (λ k. k.value)) (same p) ∙ at

module _ {T B D : Type 0} (charge : T → ℕ) (spell : T → List ℕ) (is_value : T → Type 0) (bytes : D → Option (List ℕ)) (reach : D → ℕ) (honest : D → Bool) where
  -- there is no pool where nothing is kept
  pub pool_absent : (l : Paged T B D) (p : ℕ) → StandsFor charge spell is_value bytes reach honest l → kept_at l p ≡ None → pool_at l.core.pools p ≡ None
  pool_absent l p s none = by (pool_at l.core.pools p) (content_at l p) refl (ap (option_map (λ k. k.value)) none) (s.pools p)
    where
      by : (o : Option Pool) (c : Option T) → pool_at l.core.pools p ≡ o → c ≡ None → HasPool charge spell is_value bytes reach honest l p o c
          → pool_at l.core.pools p ≡ None
      by None c e n h = e
      by (Some x) None e n h = absurd h
      by (Some x) (Some r) e n h = cc

  -- the pool of a value
  pub pool_there : (l : Paged T B D) (p : ℕ) (r : T) → StandsFor charge spell is_value bytes reach honest l → content_at l p ≡ Some r
      → (x : Pool) × (pool_at l.core.pools p ≡ Some x) × StandsAt charge spell is_value bytes reach honest l p x r
  pool_there l p r s at = by (pool_at l.core.pools p) (content_at l p) refl at (s.pools p)
    where
      by : (o : Option Pool) (c : Option T) → pool_at l.core.pools p ≡ o → c ≡ Some r → HasPool charge spell is_value bytes reach honest l p o c
          → (x : Pool) × (pool_at l.core.pools p ≡ Some x) × StandsAt charge spell is_value bytes reach honest l p x r
      by None None e n h = cc
      by None (Some k) e n h = absurd h
      by (Some x) None e n h = cc
      by (Some x) (Some k) e n h = (x, e, subst (StandsAt charge spell is_value bytes reach honest l p x) (same_Some k r n) h)
