-- The disk comes home.
use Rattle.std.proofs.Common.{◌≡◌, ℕ, Bool, true, false, Option, Some, None, refl, sym, ap, subst, ◌∙◌}
use Rattle.std.specs.Prelude.{is_some, unwrap_or}
use Rattle.std.specs.Option.{option_map_or}
use Rattle.naim_core.specs.declared.event.Failure.{Failure}
use Rattle.naim_loader.specs.Calls.{Back, ComesBack, Fails, brought}
use Rattle.naim_loader.specs.Paged.{Paged, IsGood}

module _ {T B D : Type 0} (reach : D → ℕ) (honest : D → Bool) where
  pub was_out : (old v : Paged T B D) (o : Option D) → v ≡ old → ComesBack reach honest old o → is_some o ≡ true → v.home ≡ false
  was_out old v None e c k = cc
  was_out old v (Some d) e c k = ap (λ z. z.home) e ∙ c.0

  pub comes_good : (old v : Paged T B D) (limit : ℕ) (o : Option D) (d : D) → v ≡ old → v.core.limit ≡ limit → ComesBack reach honest old o
      → (IsGood reach honest limit v.first → IsGood reach honest limit v.disk) → d ≡ unwrap_or o v.disk
      → IsGood reach honest limit v.first → IsGood reach honest limit d
  comes_good old v limit None d e l c w is g = subst (IsGood reach honest limit) (sym is) (w g)
  comes_good old v limit (Some x) d e l c w is g =
      let there = subst (λ z. IsGood reach honest z.core.limit z.first) e (subst (λ n. IsGood reach honest n v.first) (sym l) g) in
      subst (IsGood reach honest limit) (sym is) (subst (λ n. IsGood reach honest n x) (ap (λ z. z.core.limit) (sym e) ∙ l) (c.1 there))

  -- after a failure a disk may come back as before it
  pub comes_still : (old mid : Paged T B D) (w : ℕ) (f : Failure) (o : Option D) → Fails old w f mid → ComesBack reach honest old o
      → ComesBack reach honest mid o
  comes_still old mid w f None t c = tt
  comes_still old mid w f (Some d) t c = (
    ap (λ z. z.home) t.same ∙ c.0,
    λ g. subst (λ z. IsGood reach honest z.core.limit d) (sym t.same)
        (c.1 (subst (λ z. IsGood reach honest z.core.limit z.first) t.same g)),
  )

module _ {T B D : Type 0} where
  pub failed_kept : (old mid : Paged T B D) (w : ℕ) (f : Failure) → Fails old w f mid → is_some mid.core.failure ≡ true
  failed_kept old mid w f t = ap (λ z. is_some z.core.failure) t.same ∙ by old.core.failure
    where
      by : (o : Option Failure) → is_some (option_map_or (λ kept. Some kept) o (Some f)) ≡ true
      by None = refl
      by (Some g) = refl

  -- a failure, and then a disk that comes home
  pub failed_back : (old mid new : Paged T B D) (w : ℕ) (f : Failure) (o : Option D) → Fails old w f mid → Back mid o new → Fails (brought old o) w f new
  failed_back old mid new w f None t b = record { same = b.same ∙ t.same }
  failed_back old mid new w f (Some d) t b = (let back : Paged T B D
      → Paged T B D = λ z. record z { disk = d; home = true } in record { same = b.same ∙ ap back t.same })
