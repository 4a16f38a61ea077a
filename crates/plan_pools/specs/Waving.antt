-- Waves of callers that take in their callees as they stand, over routines by PID.
use Rattle.std.specs.Prelude.{◌≡◌, ◌⊎◌, ℕ, Bool, true, false, List, [], ◌∷◌, length, Option, Some, ⊤}
use Rattle.std.specs.List.{AllByRecursion}
use Rattle.il_core.specs.Routine.{RoutineParts}
use Rattle.il_core.specs.Valid.{IsValid}
use Rattle.il_core.specs.declared.shape.ShapeRow.{ShapeRow}
use Rattle.il_laws.specs.Reach.{is_in}
use Rattle.compact_form.specs.Compact.{compact}
use Rattle.plan_pools.specs.Passes.{changed_at}
use Rattle.plan_pools.specs.Accepting.{bodies_at, sites_of, taken_in}
use Rattle.plan_pools.specs.Fitting.{AreFit}

-- what stands at each PID after a wave of these callers
abbrev pub after_wave : (ℕ → ℕ → Bool) → List ℕ → (ℕ → Option RoutineParts) → ℕ → Option RoutineParts
after_wave t ps at = changed_at (taken_in t at) (is_in ps) at

-- and after several, one after the other
abbrev pub after_waves : (ℕ → ℕ → Bool) → List (List ℕ) → (ℕ → Option RoutineParts) → ℕ → Option RoutineParts
after_waves t [] at = at
after_waves t (ps ∷ pss) at = after_waves t pss (after_wave t ps at)

-- a caller that can take in its callees while others of its wave do: it is valid, none of the callees is in the wave, and each
-- body can be spliced
pub record IsSuited (rows : List ShapeRow) (t : ℕ → ℕ → Bool) (ps : List ℕ) (at : ℕ → Option RoutineParts) (r : RoutineParts) : Type 0 where
  pub valid : IsValid rows r
  pub apart : AllByRecursion (λ x. is_in ps x.callee ≡ false) (sites_of t r)
  pub fit : AreFit rows r (bodies_at at (sites_of t r))

-- each caller of the wave that stands can
pub record SuitsWave (rows : List ShapeRow) (t : ℕ → ℕ → Bool) (ps : List ℕ) (at : ℕ → Option RoutineParts) : Type 0 where
  pub each : (q : ℕ) (r : RoutineParts) → is_in ps q ≡ true → at q ≡ Some r → IsSuited rows t ps at r

-- and so in each of several waves
abbrev pub SuitWaves : List ShapeRow → (ℕ → ℕ → Bool) → List (List ℕ) → (ℕ → Option RoutineParts) → Type 0
SuitWaves rows t [] at = ⊤
SuitWaves rows t (ps ∷ pss) at = SuitsWave rows t ps at × SuitWaves rows t pss (after_wave t ps at)

-- the compact form of the caller q of the wave, with its callees in it, has so many bytes
pub record IsWaveNeed (t : ℕ → ℕ → Bool) (ps : List ℕ) (at : ℕ → Option RoutineParts) (q need : ℕ) : Type 0 where
  pub chosen : is_in ps q ≡ true
  pub routine : RoutineParts
  pub there : at q ≡ Some routine
  pub size : need ≡ length (compact (taken_in t at routine))

-- so it is in some wave
abbrev pub IsWavesNeed : (ℕ → ℕ → Bool) → List (List ℕ) → (ℕ → Option RoutineParts) → ℕ → ℕ → Type 0
IsWavesNeed t [] at q need = ⊥
IsWavesNeed t (ps ∷ pss) at q need = IsWaveNeed t ps at q need ⊎ IsWavesNeed t pss (after_wave t ps at) q need
