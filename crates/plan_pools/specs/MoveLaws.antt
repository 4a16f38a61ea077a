-- The moves of the accepted groups.
use Rattle.std.specs.Prelude.{◌≡◌, ℕ, List}
use Rattle.std.specs.Option.{unwrap_or}
use Rattle.il_core.specs.Size.{cost}
use Rattle.il_core.specs.declared.program.IlProgram.{IlProgram}
use Rattle.il_laws.specs.Keeping.{with_each}
use Rattle.il_laws.specs.Retarget.{callee_at}
use Rattle.plan_laws.specs.GroupLaws.{EachPass, clone_of_member}
use Rattle.plan_laws.specs.Groups.{Member, Taken}
use Rattle.plan_laws.specs.Plan.{at_first, limit_of, pass_groups, passes}
use Rattle.plan_laws.specs.PlanLaws.{IsFirst}
use Rattle.plan_pools.specs.Retargeting.{moved, moves_for}
use Rattle.plan_pools.specs.declared.moves.CallerMoves.{CallerMoves}

-- each member of these groups goes to its group's clone, and no other site goes elsewhere
abbrev pub AreMovesOf : List Taken → List CallerMoves → Type 0
AreMovesOf ts ms = (m : Member) (callee : ℕ) → callee_at (moves_for ms m.caller) m.site callee ≡ unwrap_or (clone_of_member ts m) callee

-- In each pass, the program with the clones added becomes the retargeted one by the moves of the accepted groups.
abbrev pub MovesRetarget : Type 0
MovesRetarget = (p : IlProgram) → IsFirst p → (budget n : ℕ)
    → EachPass (λ k st x. (ms : List CallerMoves) → AreMovesOf (pass_groups budget (limit_of (cost p.routines) budget n k) st) ms
    → with_each x.added.program (moved ms) ≡ x.retargeted.program) 1 (at_first p) (passes p budget n)
