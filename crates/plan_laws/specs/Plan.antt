-- The plan: in each pass clones are added, calls retargeted, all routines simplified, sites inlined, all routines
-- simplified, and dead routines removed.
use Rattle.std.specs.Prelude.{ℕ, zero, suc, ◌+◌, ◌*◌, ◌/◌, List, [], ◌∷◌, ◌++◌, codes, decimal, filter, flat_map, map, nat_eq, nat_lt, if◌then◌else◌}
use Rattle.il_core.specs.declared.program.IlProgram.{IlProgram}
use Rattle.il_core.specs.declared.shape.ShapeRow.{ShapeRow}
use Rattle.il_core.specs.Program.{name_at, main_pid}
use Rattle.il_core.specs.Routine.{RoutineParts}
use Rattle.il_core.specs.Size.{cost, charge}
use Rattle.il_laws.specs.Growing.{NewClone, row_of, with_clone}
use Rattle.il_laws.specs.Keeping.{with_each}
use Rattle.il_laws.specs.Known.{known_sites}
use Rattle.il_laws.specs.Reach.{is_live, pruned}
use Rattle.il_laws.specs.Retarget.{retarget}
use Rattle.il_laws.specs.Simplify.{simplify}
use Rattle.il_laws.specs.Table.{Row}
use Rattle.plan_laws.specs.Orders.{greatest}
use Rattle.plan_laws.specs.Summary.{Summary, summaries, numbered}
use Rattle.plan_laws.specs.Numbers.{Choice}
use Rattle.plan_laws.specs.Choosing.{choice}
use Rattle.plan_laws.specs.Inlining.{inlined_routine}
use Rattle.plan_laws.specs.Groups.{Taken, groups, moves}

-- a clone that was made, and the routine of the first program that it comes from, through clones of clones
pub record Made : Type 0 where
  pub clone : ℕ
  pub root : ℕ

-- a program on its way: with the clone table (the newest row first), the PID of the next clone, and all clones made so far
pub record State : Type 0 where
  pub program : IlProgram
  pub table : List Row
  pub next : ℕ
  pub made : List Made

abbrev pub root_of : List Made → ℕ → ℕ
root_of [] pid = pid
root_of (m ∷ ms) pid = if nat_eq m.clone pid then m.root else root_of ms pid

-- how many clones were ever made of a root
abbrev pub clones_of : List Made → ℕ → ℕ
clones_of [] root = 0
clones_of (m ∷ ms) root = if nat_eq m.root root then suc (clones_of ms root) else clones_of ms root

-- the root's name in the first program, with `$` and the next number of that root
abbrev pub clone_name : List ShapeRow → List Made → ℕ → List ℕ
clone_name names made root = name_at names root ++ (codes "$" ++ decimal (suc (clones_of made root)))

abbrev pub new_clone : List ShapeRow → List Made → Taken → NewClone
new_clone names made t =
    record {
      callee = t.group.callee;
      fixed = t.group.fixed;
      pid = t.clone;
      name = clone_name names made (root_of made t.group.callee);
    }

abbrev pub add_clone : List ShapeRow → Taken → State → State
add_clone names t st =
    let c = new_clone names st.made t in
    record {
      program = with_clone st.program c;
      table = row_of c ∷ st.table;
      next = suc t.clone;
      made = record { clone = t.clone; root = root_of st.made t.group.callee } ∷ st.made;
    }

-- the new clones in the order of their groups
abbrev pub add_clones : List ShapeRow → List Taken → State → State
add_clones names [] st = st
add_clones names (t ∷ ts) st = add_clones names ts (if t.is_new then add_clone names t st else st)

abbrev pub each_routine : (RoutineParts → RoutineParts) → State → State
each_routine f st = record st { program = with_each st.program f }

-- the calls of a routine that stood before the clones were made go to the clones that the table has for them
abbrev pub retargeted : List Summary → List Row → ℕ → ℕ → RoutineParts → RoutineParts
retargeted ss table main below r =
    if nat_lt r.pid below then retarget r (moves ss table main (numbered r.pid 0 (known_sites r))) else r

-- dead routines go, and with them the rows of dead clones
abbrev pub prune : State → State
prune st = record st { program = pruned st.program; table = filter (λ row. is_live st.program row.clone) st.table }

-- with budget 0 no group and no site is accepted
abbrev pub pass_groups : ℕ → ℕ → State → List Taken
pass_groups zero limit st = []
pass_groups (suc budget) limit st = groups (summaries st.program) st.table (main_pid st.program.shapes) st.next limit

abbrev pub pass_choice : ℕ → ℕ → State → List Choice
pass_choice zero limit st = []
pass_choice (suc budget) limit st = choice (summaries st.program) (main_pid st.program.shapes) limit

-- the six programs of a pass
pub record Pass : Type 0 where
  pub added : State
  pub retargeted : State
  pub simplified : State
  pub inlined : State
  pub simplified_again : State
  pub pruned : State

-- One pass, under a limit of the cost.
abbrev pub one_pass : List ShapeRow → ℕ → ℕ → State → Pass
one_pass names budget limit st =
    let a = add_clones names (pass_groups budget limit st) st in
    let b = each_routine (retargeted (summaries a.program) a.table (main_pid a.program.shapes) st.next) a in
    let c = each_routine simplify b in
    let d = each_routine (inlined_routine c.program.routines (pass_choice budget limit c)) c in
    let e = each_routine simplify d in
    record { added = a; retargeted = b; simplified = c; inlined = d; simplified_again = e; pruned = prune e }

abbrev pub states_of : Pass → List State
states_of x = x.added ∷ x.retargeted ∷ x.simplified ∷ x.inlined ∷ x.simplified_again ∷ x.pruned ∷ []

-- the cost's limit in pass k of n: the budget is spent in equal parts
abbrev pub limit_of : ℕ → ℕ → ℕ → ℕ → ℕ
limit_of cost0 budget n k = cost0 + cost0 * budget * k / (100 * n)

-- so many passes, from pass k on
abbrev pub passes_from : List ShapeRow → ℕ → (ℕ → ℕ) → ℕ → ℕ → State → List Pass
passes_from names budget limit k zero st = []
passes_from names budget limit k (suc left) st =
    let x = one_pass names budget (limit k) st in
    x ∷ passes_from names budget limit (suc k) left x.pruned

-- at the start the next PID is above all of the program's
abbrev pub at_first : IlProgram → State
at_first p = record { program = p; table = []; next = greatest (λ row. suc row.pid) p.shapes; made = [] }

abbrev pub passes : IlProgram → ℕ → ℕ → List Pass
passes p budget n = passes_from p.shapes budget (limit_of (cost p.routines) budget n) 1 n (at_first p)

abbrev pub plan_states : IlProgram → ℕ → ℕ → List State
plan_states p budget n = at_first p ∷ flat_map states_of (passes p budget n)

-- The programs of the plan, for a budget in percent and a number of passes: the first program, and six for each pass.
abbrev pub plan : IlProgram → ℕ → ℕ → List IlProgram
plan p budget n = map (λ st. st.program) (plan_states p budget n)

abbrev pub last_program : IlProgram → List IlProgram → IlProgram
last_program p [] = p
last_program p (q ∷ qs) = last_program q qs

-- The last one.
abbrev pub final : IlProgram → ℕ → ℕ → IlProgram
final p budget n = last_program p (plan p budget n)

-- the greatest measure of a routine in all programs of the plan: its charge, or what a crate above measures
abbrev pub most : (RoutineParts → ℕ) → IlProgram → ℕ → ℕ → ℕ
most measure p budget n = greatest (λ (q : IlProgram). greatest measure q.routines) (plan p budget n)

abbrev pub greatest_charge : IlProgram → ℕ → ℕ → ℕ
greatest_charge p budget n = most charge p budget n
