-- The laws of reached routines.
use Rattle.std.specs.Prelude.{◌≡◌, not, filter, map}
use Rattle.il_core.specs.declared.program.IlProgram.{IlProgram}
use Rattle.il_core.specs.Program.{main_pid}
use Rattle.il_laws.specs.Reach.{is_live, pruned}
use Rattle.plan_laws.specs.Dead.{reachable, dead_routines}
use Rattle.plan_laws.specs.Summary.{summaries}

-- What is reached by summaries are the routines that stay when a program is pruned.
abbrev pub ReachableStay : Type 0
ReachableStay = (p : IlProgram) → reachable (summaries p) (main_pid p.shapes) ≡ map (λ r. r.pid) (pruned p).routines

-- The dead ones are those that go.
abbrev pub DeadGo : Type 0
DeadGo = (p : IlProgram) → dead_routines (summaries p) (main_pid p.shapes) ≡ map (λ r. r.pid) (filter (λ r. not (is_live p r.pid)) p.routines)
