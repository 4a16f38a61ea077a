-- Waves begin and end, and tasks are claimed.
use Rattle.std.proofs.Common.{◌≡◌, ℕ, zero, suc, ◌<◌, Bool, true, false, List, [], ◌∷◌, length, nat_eq, Option, Some, None, Ok, Err, refl, sym, ap}
use Rattle.std.proofs.Common.{subst, ◌∙◌, ◌⊎◌, inl, inr, arith}
use Rattle.std.specs.Prelude.{is_none, is_some, slice_get, slice_set, drop, ◌==◌, if◌then◌else◌}
use Rattle.naim_core.specs.Rows
use Rattle.naim_core.specs.State.{Core, hand_at}
use Rattle.naim_core.specs.Steps.{permit, with_hand, step_of}
use Rattle.naim_core.specs.declared.event.Event.TheVariants as event
use Rattle.naim_core.specs.declared.event.Failure.{Failure}
use Rattle.naim_core.specs.declared.event.Refusal.{Refusal}
use Rattle.naim_core.specs.declared.event.Refusal.TheVariants.{HandFull, NoTask}
use Rattle.naim_core.specs.declared.state.Hand.{Hand}
use Rattle.naim_core.proofs.Effects.{running}
use Rattle.list_laws.proofs.Entries.{other_number}
use Rattle.naim_loader.specs.declared.counters.Counters.{Counters}
use Rattle.naim_loader.specs.Calls.{AnswersClaim}
use Rattle.naim_loader.specs.Counting.{Refused, Stepped}
use Rattle.naim_loader.specs.Paged.{Paged}
use Rattle.naim_loader.proofs.Views.{same_view, steps_view}
use Rattle.naim_loader.proofs.Wholes.{Still, ran}

-- what is permitted is what was asked
permitted : (row : Rows.Row) (t new : Core) → permit row t ≡ Ok new → t ≡ new
permitted [] t new h = cc
permitted ((true, r) ∷ row) t new h = cc
permitted ((false, r) ∷ row) t new h = permitted row t new h

still : (s t new : Core) → t ≡ new → t.pools ≡ s.pools → t.disk ≡ s.disk → t.failure ≡ s.failure → Still s new
still s t new is p d f = record { pools = ap (λ z. z.pools) (sym is) ∙ p; disk = ap (λ z. z.disk) (sym is) ∙ d; failure = ap (λ z. z.failure) (sym is) ∙ f }

pub begin_still : (s new : Core) (tasks : List ℕ) → step_of s (event.BeginWave tasks) ≡ Ok new → Still s new
begin_still s new tasks h =
    let t : Core = record s { in_wave = true; tasks = tasks; unclaimed = tasks; done = [] } in
    still s t new (permitted (Rows.begin_wave_row s.pools s.hands s.in_wave tasks) t new
    (sym (running s (event.BeginWave tasks) (ran s new (event.BeginWave tasks) refl h)) ∙ h)) refl refl refl

pub end_still : (s new : Core) → step_of s event.EndWave ≡ Ok new → Still s new
end_still s new h =
    let t : Core = record s { in_wave = false; tasks = []; unclaimed = []; done = [] } in
    still s t new (permitted (Rows.end_wave_row s.hands s.in_wave s.tasks s.done) t new (sym (running s event.EndWave (ran s new event.EndWave refl h)) ∙ h))
    refl refl refl

claim_is : (s new : Core) (w : ℕ) → step_of s (event.Claim w) ≡ Ok new
    → record s { hands = with_hand s w (record (hand_at s.hands w) { task = slice_get s.unclaimed 0 }); unclaimed = drop 1 s.unclaimed } ≡ new
claim_is s new w h = permitted (Rows.claim_row (hand_at s.hands w) s.unclaimed)
    (record s { hands = with_hand s w (record (hand_at s.hands w) { task = slice_get s.unclaimed 0 }); unclaimed = drop 1 s.unclaimed }) new
    (sym (running s (event.Claim w) (ran s new (event.Claim w) refl h)) ∙ h)

pub claim_still : (s new : Core) (w : ℕ) → step_of s (event.Claim w) ≡ Ok new → Still s new
claim_still s new w h = still s _ new (claim_is s new w h) refl refl refl

put_hand : (hands : List Hand) (w : ℕ) (h : Hand) → w < length hands → hand_at (slice_set hands w h) w ≡ h
put_hand [] w h below = absurd (omega arith)
put_hand (g ∷ hands) zero h below = refl
put_hand (g ∷ hands) (suc w) h below = put_hand hands w h (omega arith)

-- the hand has the task that was the first one unclaimed
pub claim_task : (s new : Core) (w : ℕ) → w < length s.hands → step_of s (event.Claim w) ≡ Ok new → (hand_at new.hands w).task ≡ slice_get s.unclaimed 0
claim_task s new w below h = ap (λ z. (hand_at z.hands w).task) (sym (claim_is s new w h)) ∙ ap (λ z. z.task)
    (put_hand s.hands w (record (hand_at s.hands w) { task = slice_get s.unclaimed 0 }) below)

-- there was one
pub claim_some : (s new : Core) (w : ℕ) → step_of s (event.Claim w) ≡ Ok new → slice_get s.unclaimed 0 ≡ None → ⊥
claim_some s new w h none = by s.unclaimed (is_some (hand_at s.hands w).task) none (sym (running s (event.Claim w) (ran s new (event.Claim w) refl h)) ∙ h)
  where
    by : (us : List ℕ) (b : Bool) → slice_get us 0 ≡ None
        → permit ((b, HandFull) ∷ (length us == 0, NoTask) ∷ []) (record s
        { hands = with_hand s w (record (hand_at s.hands w) { task = slice_get us 0 }); unclaimed = drop 1 us }) ≡ Ok new → ⊥
    by [] true n e = cc
    by [] false n e = cc
    by (u ∷ us) b n e = cc

-- a worker without a task is refused one only where none is left, or a failure is kept
pub claim_refused : (s : Core) (w : ℕ) (r : Refusal) → (hand_at s.hands w).task ≡ None → step_of s (event.Claim w) ≡ Err r
    → (is_some s.failure ≡ true) ⊎ (slice_get s.unclaimed 0 ≡ None)
claim_refused s w r free h = by s.failure refl
  where
    left : (us : List ℕ) (b : Bool) (t : Core) → b ≡ false → permit ((b, HandFull) ∷ (length us == 0, NoTask) ∷ []) t ≡ Err r → slice_get us 0 ≡ None
    left [] b t e k = refl
    left (u ∷ us) false t e k = (let z : nat_eq (suc (length us)) 0 ≡ false = other_number (suc (length us)) 0 (λ s. absurd (omega arith)) in let q : Ok t ≡ Err
        r = subst (λ b. (if b then Err NoTask else Ok t) ≡ Err r) z k in cc)
    left (u ∷ us) true t e k = cc

    by : (o : Option Failure) → s.failure ≡ o → (is_some s.failure ≡ true) ⊎ (slice_get s.unclaimed 0 ≡ None)
    by (Some f) k = inl (ap is_some k)
    by None k = inr (left s.unclaimed (is_some (hand_at s.hands w).task)
        (record s { hands = with_hand s w (record (hand_at s.hands w) { task = slice_get s.unclaimed 0 }); unclaimed = drop 1 s.unclaimed }) (ap is_some free)
        (sym (running s (event.Claim w) k) ∙ h))

module _ {T B D : Type 0} where
  pub claim_given : (old v : Paged T B D) (w : ℕ) (o : Option ℕ) (new : Core) (after : Counters) → v ≡ old → w < length v.core.hands
      → (v.core.failure ≡ None → v.home ≡ is_none v.core.disk) → Stepped v.core (event.Claim w) new v.counters after → o ≡ (hand_at new.hands w).task
      → AnswersClaim old (record v { core = new; counters = after }) w o
  claim_given old v w o new after e below home t is = by (slice_get v.core.unclaimed 0) refl
    where
      by : (u : Option ℕ) → slice_get v.core.unclaimed 0 ≡ u → AnswersClaim old (record v { core = new; counters = after }) w o
      by None k = absurd (claim_some v.core new w t.step k)
      by (Some u) k = subst (AnswersClaim old (record v { core = new; counters = after }) w) (sym (is ∙ claim_task v.core new w below t.step ∙ k)) (
        steps_view old v (event.Claim w) new after v.kept v.disk v.home e t refl refl
            (home (ran v.core new (event.Claim w) refl t.step) ∙ ap is_none (sym (claim_still v.core new w t.step).disk)),
        ap (λ z. slice_get z.core.unclaimed 0) (sym e) ∙ k,
      )

  pub claim_none : (old v : Paged T B D) (w : ℕ) (o : Option ℕ) (r : Refusal) (new : Core) (after : Counters) → v ≡ old → (hand_at v.core.hands w).task ≡ None
      → Refused v.core (event.Claim w) r new v.counters after → o ≡ None
      → AnswersClaim old (record v { core = new; counters = after }) w o
  claim_none old v w o r new after e free f is = subst (AnswersClaim old (record v { core = new; counters = after }) w) (sym is) (
    same_view old v new after e f.same f.counts,
    subst (λ z. (is_some z.core.failure ≡ true) ⊎ (slice_get z.core.unclaimed 0 ≡ None)) e
        (claim_refused v.core w r free f.step),
  )
