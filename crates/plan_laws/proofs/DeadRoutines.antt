-- What is reached by summaries is what is live in the program.
use Rattle.std.proofs.Common.{◌≡◌, ℕ, List, [], ◌∷◌, map, Bool, true, false, refl, ap, ap₂, ◌∙◌}
use Rattle.std.specs.Prelude.{not, filter, if◌then◌else◌}
use Rattle.il_core.specs.declared.program.IlProgram.{IlProgram}
use Rattle.il_core.specs.Program.{main_pid}
use Rattle.il_core.specs.Routine.{RoutineParts}
use Rattle.il_laws.specs.Reach.{Caller, caller_of, is_reached, is_live, pruned}
use Rattle.plan_laws.specs.Summary.{Summary, summary, summaries, caller_of_summary}
use Rattle.plan_laws.specs.Dead.{reaches, reachable, dead_routines}
use Rattle.plan_laws.proofs.Sites.{known_callees}

nodes_are : (rs : List RoutineParts) → map caller_of_summary (map summary rs) ≡ map caller_of rs
nodes_are [] = refl
nodes_are (r ∷ rs) =
    ap₂ {A = Caller} {B = List Caller} {C = List Caller} (λ c cs. c ∷ cs)
    (ap (λ (xs : List ℕ). record { pid = r.pid; callees = xs }) (known_callees r)) (nodes_are rs)

reaches_live : (p : IlProgram) (pid : ℕ) → reaches (summaries p) (main_pid p.shapes) pid ≡ is_live p pid
reaches_live p pid = ap (λ (cs : List Caller). is_reached cs (main_pid p.shapes) pid) (nodes_are p.routines)

pids_if : (b : Bool) (r : RoutineParts) (ps : List ℕ) (rs : List RoutineParts) → ps ≡ map (λ z. z.pid) rs
    → (if b then r.pid ∷ ps else ps) ≡ map (λ z. z.pid) (if b then r ∷ rs else rs)
pids_if true r ps rs e = ap (λ (qs : List ℕ). r.pid ∷ qs) e
pids_if false r ps rs e = e

-- two tests that agree on PIDs keep the same ones
filter_pids : (t u : ℕ → Bool) → ((pid : ℕ) → t pid ≡ u pid) → (rs : List RoutineParts)
    → filter t (map (λ s. s.pid) (map summary rs)) ≡ map (λ r. r.pid) (filter (λ r. u r.pid) rs)
filter_pids t u h [] = refl
filter_pids t u h (r ∷ rs) =
    let ps = filter t (map (λ (s : Summary). s.pid) (map summary rs)) in
    ap (λ (b : Bool). if b then r.pid ∷ ps else ps) (h r.pid)
    ∙ pids_if (u r.pid) r ps (filter (λ (z : RoutineParts). u z.pid) rs) (filter_pids t u h rs)

pub reachable_kept : (p : IlProgram) → reachable (summaries p) (main_pid p.shapes) ≡ map (λ r. r.pid) (pruned p).routines
reachable_kept p = filter_pids (reaches (summaries p) (main_pid p.shapes)) (is_live p) (reaches_live p) p.routines

pub dead_go : (p : IlProgram) → dead_routines (summaries p) (main_pid p.shapes)
    ≡ map (λ r. r.pid) (filter (λ r. not (is_live p r.pid)) p.routines)
dead_go p =
    filter_pids (λ pid. not (reaches (summaries p) (main_pid p.shapes) pid)) (λ pid. not (is_live p pid)) (λ pid. ap not (reaches_live p pid)) p.routines
