-- The laws of the choice.
use Rattle.std.specs.Prelude.{◌≡◌, ℕ, ◌<◌, true, List, Some, slice_get}
use Rattle.std.specs.List.{AllByRecursion}
use Rattle.std.specs.List.Sorted.{IsPermutation, IsSortedBy}
use Rattle.il_core.specs.declared.program.IlProgram.{IlProgram}
use Rattle.il_core.specs.Program.{routine_at, main_pid}
use Rattle.il_core.specs.Routine.{RoutineParts}
use Rattle.il_core.specs.Valid.{IsProgram}
use Rattle.il_laws.specs.Known.{KnownSite, known_sites}
use Rattle.plan_laws.specs.Choosing.{ranks_before, ranked_sites, choice}
use Rattle.plan_laws.specs.Inlining.{by_waves, inlined_routines}
use Rattle.plan_laws.specs.Levels.{level, is_acyclic, height}
use Rattle.plan_laws.specs.Numbers.{Choice}
use Rattle.plan_laws.specs.Summary.{summaries, CallSite, call_sites}

-- these numbers of routines fall along each call
abbrev pub Falls : (ℕ → ℕ) → List Choice → Type 0
Falls rank cs = AllByRecursion (λ c. rank c.callee < rank c.caller) cs

-- Where accepted calls are free of cycles, the levels fall along each of them.
abbrev pub LevelsFall : Type 0
LevelsFall = (cs : List Choice) → is_acyclic cs ≡ true → Falls (level cs) cs

-- Where some numbers fall along each call, the calls are free of cycles.
abbrev pub FreeOfCycles : Type 0
FreeOfCycles = (cs : List Choice) (rank : ℕ → ℕ) → Falls rank cs → is_acyclic cs ≡ true

-- an accepted call has the callee that its site calls
abbrev pub IsCall : List RoutineParts → Choice → Type 0
IsCall rs c =
    (r : RoutineParts) (s : KnownSite) → routine_at rs c.caller ≡ Some r → slice_get (known_sites r) c.site ≡ Some s → s.callee ≡ c.callee

abbrev pub AreCalls : List RoutineParts → List Choice → Type 0
AreCalls rs cs = AllByRecursion (IsCall rs) cs

-- Wave by wave, each routine of a level taking in its callees as they stand, gives the inlined routines.
abbrev pub WavesAgree : Type 0
WavesAgree = (p : IlProgram) → IsProgram p → (cs : List Choice) → AreCalls p.routines cs → is_acyclic cs ≡ true
    → by_waves cs 1 (height cs) p.routines ≡ inlined_routines p.routines cs

abbrev chosen : IlProgram → ℕ → List Choice
chosen p limit = choice (summaries p) (main_pid p.shapes) limit

-- so it does for the choice
abbrev pub ChosenWavesAgree : Type 0
ChosenWavesAgree = (p : IlProgram) → IsProgram p → (limit : ℕ)
    → by_waves (chosen p limit) 1 (height (chosen p limit)) p.routines ≡ inlined_routines p.routines (chosen p limit)

-- The choice's calls are sites of their callers with their callees, and free of cycles.
pub record IsFit (p : IlProgram) (cs : List Choice) : Type 0 where
  pub calls : AreCalls p.routines cs
  pub acyclic : is_acyclic cs ≡ true

abbrev pub ChoiceFits : Type 0
ChoiceFits = (p : IlProgram) → IsProgram p → (limit : ℕ) → IsFit p (chosen p limit)

-- The ranking is the only one: all sites of a valid program, put in order by rank, are the ranked sites.
abbrev pub RankingIsOnly : Type 0
RankingIsOnly = (p : IlProgram) → IsProgram p → (xs : List CallSite) → IsPermutation (call_sites (summaries p)) xs → IsSortedBy ranks_before xs
    → xs ≡ ranked_sites (summaries p)
