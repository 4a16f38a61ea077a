-- Waves, one after another.
use Rattle.std.proofs.Common.{◌≡◌, ◌<◌, ◌+◌, ℕ, Bool, List, [], ◌∷◌, map, drop, get_or, length, Option, refl, sym, ap, subst, ◌∙◌, inl, inr}
use Rattle.std.specs.List.{AllByRecursion}
use Rattle.std.proofs.lemmas.List.{drop_more}
use mathlib.Core.Path.{fun_ext}
use Rattle.il_core.specs.Routine.{RoutineParts}
use Rattle.il_core.specs.declared.shape.ShapeRow.{ShapeRow}
use Rattle.compact_form.specs.declared.body.RoutineBody.{RoutineBody}
use Rattle.naim_core.specs.declared.event.Failure.{Failure}
use Rattle.naim_loader.specs.Paged.{Paged, IsTrusted}
use Rattle.one_owner.specs.Alone.{IsResting}
use Rattle.plan_pools.specs.Contents.{routine_in}
use Rattle.plan_pools.specs.Passes.{SamePools}
use Rattle.plan_pools.proofs.Staying.{pools_itself, pools_on, trusted_on}
use Rattle.plan_pools.specs.Stopping.{Becomes, StopsInlining}
use Rattle.plan_pools.specs.Waving.{after_wave, after_waves, IsWaveNeed, IsWavesNeed, SuitWaves, SuitsWave}
use Rattle.plan_pools.proofs.Stopped.{stops_after}

module _ {D : Type 0} (reach : D → ℕ) (honest : D → Bool) (faults : D → ℕ) (rows : List ShapeRow) (t : ℕ → ℕ → Bool) (all : List (List ℕ)) where
  abbrev Pools : Type 0
  Pools = Paged RoutineBody (Unit {0}) D

  -- what the waves that are left have to do with all of them
  pub record Leads (old now : Pools) (left : List (List ℕ)) : Type 0 where
    pub suits : SuitWaves rows t left (routine_in now)
    pub after : (q : ℕ) → after_waves t left (routine_in now) q ≡ after_waves t all (routine_in old) q
    pub needs : (q n : ℕ) → IsWavesNeed t left (routine_in now) q n → IsWavesNeed t all (routine_in old) q n

  pub record Waved (old now : Pools) (left : List (List ℕ)) : Type 0 where
    pub rests : IsResting now
    pub pools : SamePools faults old now
    pub leads : IsTrusted reach honest old → SuitWaves rows t all (routine_in old) → Leads old now left

  pub waved_first : (l : Pools) → IsResting l → Waved l l all
  waved_first l w =
      record { rests = w; pools = pools_itself faults l; leads = λ g s. record { suits = s; after = λ q. refl; needs = λ q n h. h } }

  pub waved_last : (old now : Pools) → Waved old now []
      → Becomes reach honest faults (SuitWaves rows t all (routine_in old)) (after_waves t all (routine_in old)) old now
  waved_last old now w = record { rests = w.rests; pools = w.pools; routines = λ g s q. (w.leads g s).after q }

  module _ (old mid : Pools) (ps : List ℕ) (rest : List (List ℕ)) (w : Waved old mid (ps ∷ rest)) where
    pub waved_next : (new : Pools) → Becomes reach honest faults (SuitsWave rows t ps (routine_in mid)) (after_wave t ps (routine_in mid)) mid new
        → Waved old new rest
    waved_next new b = record {
      rests = b.rests;
      pools = pools_on faults old mid new w.pools b.pools;
      leads = λ g s.
          (let l = w.leads g s in
          let same : routine_in new ≡ after_wave t ps (routine_in mid) =
          fun_ext (b.routines (trusted_on faults reach honest old mid w.pools.stays g) l.suits.0) in
          record {
            suits = subst (SuitWaves rows t rest) (sym same) l.suits.1;
            after = λ q. ap (λ (f : ℕ → Option RoutineParts). after_waves t rest f q) same ∙ l.after q;
            needs = λ q n h. l.needs q n (inr (subst (λ (f : ℕ → Option RoutineParts). IsWavesNeed t rest f q n) same h));
          });
    }

    pub waved_stops : (new : Pools) (e : Failure)
        → StopsInlining reach honest faults (λ q. IsTrusted reach honest mid → SuitsWave rows t ps (routine_in mid) → ⊥)
        (λ q n. IsTrusted reach honest mid → SuitsWave rows t ps (routine_in mid) → IsWaveNeed t ps (routine_in mid) q n) mid new e
        → StopsInlining reach honest faults (λ q. IsTrusted reach honest old → SuitWaves rows t all (routine_in old) → ⊥)
        (λ q n. IsTrusted reach honest old → SuitWaves rows t all (routine_in old) → IsWavesNeed t all (routine_in old) q n) old new e
    waved_stops new e s =
        stops_after reach honest faults (λ q. IsTrusted reach honest mid → SuitsWave rows t ps (routine_in mid) → ⊥)
        (λ q. IsTrusted reach honest old → SuitWaves rows t all (routine_in old) → ⊥)
        (λ q n. IsTrusted reach honest mid → SuitsWave rows t ps (routine_in mid) → IsWaveNeed t ps (routine_in mid) q n)
        (λ q n. IsTrusted reach honest old → SuitWaves rows t all (routine_in old) → IsWavesNeed t all (routine_in old) q n)
        old mid new e w.pools
        (λ q no g suits. no (trusted_on faults reach honest old mid w.pools.stays g) (w.leads g suits).suits.0)
        (λ q n c g suits. (let l = w.leads g suits in l.needs q n (inl (c (trusted_on faults reach honest old mid w.pools.stays g) l.suits.0)))) s

-- the wave at a place, and those behind it
pub left_is : {V : Type 0} (f : V → List ℕ) (ws : List V) (i : ℕ) (w : V) (ps : List ℕ) → i < length ws → w ≡ get_or ws i w → ps ≡ f w
    → map f (drop i ws) ≡ ps ∷ map f (drop (i + 1) ws)
left_is f ws i w ps less read e =
    ap (map f) (drop_more ws i w less) ∙ ap (λ (x : List ℕ). x ∷ map f (drop (i + 1) ws)) (ap f (sym read) ∙ sym e)

pub all_mapped : {V : Type 0} (f : V → List ℕ) (P : List ℕ → Type 0) (ws : List V) → AllByRecursion P (map f ws) → AllByRecursion (λ w. P (f w)) ws
all_mapped f P [] h = tt
all_mapped f P (w ∷ ws) h = (h.0, all_mapped f P ws h.1)
