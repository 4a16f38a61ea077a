-- Pools that stay while what they have changes.
use Rattle.std.proofs.Common.{◌≡◌, ℕ, Bool, true, false, cond, nat_eq, Some, refl, sym, ap, subst, ◌∙◌}
use Rattle.std.specs.Prelude.{is_some}
use Rattle.std.specs.Arc.{arc_value}
use Rattle.list_laws.proofs.Entries.{same_number}
use Rattle.naim_loader.specs.declared.forms.WritePin.{WritePin}
use Rattle.naim_loader.specs.Paged.{Paged, kept_at, IsGood, IsTrusted}
use Rattle.naim_loader.specs.Rows.{Kept}
use Rattle.one_owner.specs.Answers.{Rewrites, TakesToWrite}
use Rattle.one_owner.specs.Going.{Keeps, Stays}
use Rattle.one_owner.proofs.Frames.{stays_itself, stays_on}
use Rattle.plan_pools.specs.Passes.{SamePools}

module _ {T B D : Type 0} (faults : D → ℕ) where
  pub pools_itself : (l : Paged T B D) → SamePools faults l l
  pools_itself l = record { stays = stays_itself faults l; has = λ q. refl; used = refl; insertions = refl }

  pub pools_on : (a b c : Paged T B D) → SamePools faults a b → SamePools faults b c → SamePools faults a c
  pools_on a b c x y = record {
    stays = stays_on faults a b c x.stays y.stays;
    has = λ q. y.has q ∙ x.has q;
    used = y.used ∙ x.used;
    insertions = y.insertions ∙ x.insertions;
  }

  pub pools_kept : (a b : Paged T B D) → Keeps faults a b → SamePools faults a b
  pools_kept a b k = record { stays = k.stays; has = λ q. ap is_some (k.kept q); used = k.used; insertions = k.insertions }

  -- one pool has something else from now on
  has_still : (a b : Paged T B D) (p : ℕ) (k : Kept T B) → ((q : ℕ) → kept_at b q ≡ cond (nat_eq p q) (Some k) (kept_at a q)) → is_some (kept_at a p) ≡ true
      → (q : ℕ) → is_some (kept_at b q) ≡ is_some (kept_at a q)
  has_still a b p k kept there q = by (nat_eq p q) refl
    where
      by : (v : Bool) → nat_eq p q ≡ v → is_some (kept_at b q) ≡ is_some (kept_at a q)
      by true e = ap is_some (kept q ∙ ap (λ v. cond v (Some k) (kept_at a q)) e) ∙ sym (ap (λ z. is_some (kept_at a z)) (sym (same_number p q e)) ∙ there)
      by false e = ap is_some (kept q ∙ ap (λ v. cond v (Some k) (kept_at a q)) e)

  pub pools_take : (reach : D → ℕ) (honest : D → Bool) (a b : Paged T B D) (p room : ℕ) (x : WritePin T) → TakesToWrite reach honest faults a b p room x
      → SamePools faults a b
  pools_take reach honest a b p room x t = record {
    stays = t.stays;
    has = has_still a b p (record t.was { value = arc_value x.body }) t.kept (ap is_some t.there);
    used = t.used;
    insertions = t.insertions;
  }

  pub pools_rewrite : (a b : Paged T B D) (p : ℕ) (r : T) (brief : B) → is_some (kept_at a p) ≡ true → Rewrites faults a b p r brief → SamePools faults a b
  pools_rewrite a b p r brief there w = record {
    stays = w.stays;
    has = has_still a b p (record { value = r; brief = brief }) w.kept there;
    used = w.used;
    insertions = w.insertions;
  }

  pub trusted_on : (reach : D → ℕ) (honest : D → Bool) (a b : Paged T B D) → Stays faults a b → IsTrusted reach honest a → IsTrusted reach honest b
  trusted_on reach honest a b s g = subst (λ n. IsGood reach honest n b.first) (sym s.limit) (subst (IsGood reach honest a.core.limit) (sym s.first) g)
