-- The laws of splicing: what is spliced does what the call did, the program stays valid, and sizes are known.
use Rattle.std.specs.Prelude.{◌≡◌, ℕ, ◌+◌, List, [], ◌∷◌, Some, length, sum, sum_by, slice_get}
use Rattle.std.specs.List.{AllByRecursion}
use Rattle.il_core.specs.declared.program.IlProgram.{IlProgram}
use Rattle.il_core.specs.Program.{routine_at}
use Rattle.il_core.specs.Routine.{RoutineParts}
use Rattle.il_core.specs.Size.{size}
use Rattle.il_core.specs.Valid.{IsProgram, IsValid}
use Rattle.il_laws.specs.Inline.{SiteBody, inlined, IsFalling}
use Rattle.il_laws.specs.Keeping.{MayFollow, with_each, with_routine}
use Rattle.il_laws.specs.Serving.{Serves}
use Rattle.il_laws.specs.Sites.{callees}
use Rattle.il_laws.specs.Splice.{splice, value_returns}

-- The callee of a site may be spliced there.
abbrev pub SpliceFollows : Type 0
SpliceFollows = (p : IlProgram) → IsProgram p → (x k callee : ℕ) (r q : RoutineParts) → routine_at p.routines x ≡ Some r
    → slice_get (callees r.blocks) k ≡ Some callee → routine_at p.routines callee ≡ Some q → MayFollow p (with_routine p (splice r k q))

-- the body for a site may stand in its callee's place
pub record ServesSite (p : IlProgram) (r : RoutineParts) (a : SiteBody) : Type 0 where
  pub callee : ℕ
  pub calls : slice_get (callees r.blocks) a.site ≡ Some callee
  pub origin : RoutineParts
  pub is : routine_at p.routines callee ≡ Some origin
  pub serves : Serves p origin a.body

-- A routine with bodies spliced at several sites, from the last one to the first, serves: each body may be its callee, or
-- what already serves in the callee's place.
abbrev pub InlineServes : Type 0
InlineServes = (p : IlProgram) → IsProgram p → (r : RoutineParts) (bodies : List SiteBody) → IsValid p.shapes r → IsFalling bodies
    → AllByRecursion (ServesSite p r) bodies → Serves p r (inlined r bodies)

-- bodies for the sites of each routine, by its PID
pub record EachServes (p : IlProgram) (bodies : ℕ → List SiteBody) : Type 0 where
  pub falls : (x : ℕ) → IsFalling (bodies x)
  pub serves : (x : ℕ) (r : RoutineParts) → routine_at p.routines x ≡ Some r → AllByRecursion (ServesSite p r) (bodies x)

-- All routines may have bodies spliced at once.
abbrev pub InlineFollows : Type 0
InlineFollows = (p : IlProgram) → IsProgram p → (bodies : ℕ → List SiteBody) → EachServes p bodies
    → MayFollow p (with_each p (λ r. inlined r (bodies r.pid)))

-- routines put in place of those with their PIDs, one after the other
abbrev pub with_routines : IlProgram → List RoutineParts → IlProgram
with_routines p [] = p
with_routines p (r1 ∷ rs) = with_routines (with_routine p r1) rs

-- it serves in the place of the routine with its PID
abbrev pub ServesThere : IlProgram → RoutineParts → Type 0
ServesThere p r1 = (r : RoutineParts) → routine_at p.routines r1.pid ≡ Some r → Serves p r r1

-- A wave: routines that serve in the program as it is may be put there one after the other.
abbrev pub WaveFollows : Type 0
WaveFollows = (p : IlProgram) → IsProgram p → (rs : List RoutineParts) → AllByRecursion (ServesThere p) rs → MayFollow p (with_routines p rs)

-- what a body adds: its instructions and ends, the turn and the `clear`, a `move` for each parameter and for each return
-- with a value; the call goes, and one jump comes
abbrev pub added_size : RoutineParts → ℕ
added_size q = size q + 2 + q.params + value_returns q.blocks

abbrev pub SpliceSize : Type 0
SpliceSize = (p : IlProgram) → IsProgram p → (x k callee : ℕ) (r q : RoutineParts) → routine_at p.routines x ≡ Some r
    → slice_get (callees r.blocks) k ≡ Some callee → routine_at p.routines callee ≡ Some q
    → size (splice r k q) ≡ size r + added_size q

-- the size, the registers, the arrays and their elements of a routine with bodies spliced, and its returns with a value
pub record InlinedSizes (r : RoutineParts) (bodies : List SiteBody) : Type 0 where
  pub size : size (inlined r bodies) ≡ size r + sum_by (λ a. added_size a.body) bodies
  pub regs : (inlined r bodies).regs ≡ r.regs + sum_by (λ a. a.body.regs) bodies
  pub arrays : length (inlined r bodies).arrays ≡ length r.arrays + sum_by (λ a. length a.body.arrays) bodies
  pub elements : sum (inlined r bodies).arrays ≡ sum r.arrays + sum_by (λ a. sum a.body.arrays) bodies
  pub returns : value_returns (inlined r bodies).blocks ≡ value_returns r.blocks

abbrev pub InlineSize : Type 0
InlineSize = (p : IlProgram) → IsProgram p → (r : RoutineParts) (bodies : List SiteBody) → IsValid p.shapes r → IsFalling bodies
    → AllByRecursion (ServesSite p r) bodies → InlinedSizes r bodies
