-- The plan keeps the objects of the program.
use Rattle.std.proofs.Common.{◌≡◌, ℕ, zero, suc, Bool, true, false, List, [], ◌∷◌, map, Option, Some, None, refl, ◌∙◌}
use Rattle.std.specs.Prelude.{flat_map, if◌then◌else◌}
use Rattle.il_core.specs.Program.{routine_at}
use Rattle.il_core.specs.Routine.{RoutineParts}
use Rattle.il_core.specs.Size.{cost}
use Rattle.il_core.specs.declared.program.IlProgram.{IlProgram}
use Rattle.il_core.specs.declared.shape.ShapeRow.{ShapeRow}
use Rattle.il_laws.specs.Growing.{NewClone, with_copy}
use Rattle.plan_laws.specs.Groups.{Taken}
use Rattle.plan_laws.specs.Plan.{State, add_clone, add_clones, at_first, final, last_program, limit_of, new_clone, one_pass, pass_groups, passes_from}
use Rattle.plan_laws.specs.Plan.{states_of}

copy_objects : (p : IlProgram) (c : NewClone) (o : Option RoutineParts) → (with_copy p c o).objects ≡ p.objects
copy_objects p c None = refl
copy_objects p c (Some r) = refl

one_objects : (names : List ShapeRow) (t : Taken) (st : State) (b : Bool) → (if b then add_clone names t st else st).program.objects ≡ st.program.objects
one_objects names t st true = copy_objects st.program (new_clone names st.made t) (routine_at st.program.routines t.group.callee)
one_objects names t st false = refl

clones_objects : (names : List ShapeRow) (ts : List Taken) (st : State) → (add_clones names ts st).program.objects ≡ st.program.objects
clones_objects names [] st = refl
clones_objects names (t ∷ ts) st = clones_objects names ts (if t.is_new then add_clone names t st else st) ∙ one_objects names t st t.is_new

pass_objects : (names : List ShapeRow) (budget limit : ℕ) (st : State) → (one_pass names budget limit st).pruned.program.objects ≡ st.program.objects
pass_objects names budget limit st = clones_objects names (pass_groups budget limit st) st

last_objects : (names : List ShapeRow) (budget : ℕ) (limit : ℕ → ℕ) (k n : ℕ) (st : State)
    → (last_program st.program (map (λ (x : State). x.program) (flat_map states_of (passes_from names budget limit k n st)))).objects ≡ st.program.objects
last_objects names budget limit k zero st = refl
last_objects names budget limit k (suc n) st =
    let x = one_pass names budget (limit k) st in
    last_objects names budget limit (suc k) n x.pruned ∙ pass_objects names budget (limit k) st

pub final_objects : (p : IlProgram) (budget n : ℕ) → (final p budget n).objects ≡ p.objects
final_objects p budget n = last_objects p.shapes budget (limit_of (cost p.routines) budget n) 1 n (at_first p)
