-- Which routines a path of calls from one reaches, by their summaries.
use Rattle.std.specs.Prelude.{ℕ, not, Bool, List, filter, map}
use Rattle.il_laws.specs.Reach.{is_reached}
use Rattle.plan_laws.specs.Summary.{Summary, caller_of_summary}

abbrev pub reaches : List Summary → ℕ → ℕ → Bool
reaches ss from pid = is_reached (map caller_of_summary ss) from pid

-- the PIDs of the reachable routines, in their order
abbrev pub reachable : List Summary → ℕ → List ℕ
reachable ss from = filter (reaches ss from) (map (λ s. s.pid) ss)

-- and of the others
abbrev pub dead_routines : List Summary → ℕ → List ℕ
dead_routines ss main = filter (λ pid. not (reaches ss main pid)) (map (λ s. s.pid) ss)
