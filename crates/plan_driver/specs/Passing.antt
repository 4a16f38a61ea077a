-- A pass within a limit of the cost, as it changes states.
use Rattle.std.specs.Prelude.{◌≡◌, ℕ, List, [], ◌∷◌, ◌++◌, filter, ⊤}
use Rattle.il_core.specs.declared.program.IlProgram.{IlProgram}
use Rattle.il_core.specs.declared.shape.ShapeRow.{ShapeRow}
use Rattle.il_laws.specs.Reach.{is_in}
use Rattle.clone_pools.specs.declared.progress.Progress.{Progress}
use Rattle.inline_steps.specs.Steps.{inlined}
use Rattle.plan_laws.specs.Plan.{State, prune}
use Rattle.plan_pools.specs.Budgetless.{simplified}
use Rattle.plan_pools.specs.Cloning.{cloning_states, sent}
use Rattle.plan_pools.specs.Contents.{routine_pids}

-- a step that asks nothing of a state
abbrev pub AnyState : State → Type 0
AnyState st = ⊤

-- a state whose program alone changes
abbrev pub with_program : (IlProgram → IlProgram) → State → State
with_program f st = record st { program = f st.program }

-- all routines simplified, the calls of the choice inlined, and all simplified again
abbrev pub rewritten : ℕ → ℕ → IlProgram → IlProgram
rewritten main limit p = simplified (inlined main limit (simplified p))

abbrev pub rewritten_programs : ℕ → ℕ → IlProgram → List IlProgram
rewritten_programs main limit p = simplified p ∷ inlined main limit (simplified p) ∷ rewritten main limit p ∷ []

-- and the same of a state
abbrev pub rewritten_states : ℕ → ℕ → State → List State
rewritten_states main limit st =
    with_program simplified st ∷ with_program (λ p. inlined main limit (simplified p)) st ∷ with_program (rewritten main limit) st ∷ []

-- then the dead routines go
abbrev pub finished : ℕ → ℕ → State → State
finished main limit st = prune (with_program (rewritten main limit) st)

abbrev pub finish_states : ℕ → ℕ → State → List State
finish_states main limit st = rewritten_states main limit st ++ finished main limit st ∷ []

-- The pass: clones are made, calls go to them, and what is said above is done.
abbrev pub passed : List ShapeRow → ℕ → ℕ → State → State
passed names main limit st = finished main limit (sent names main limit st)

abbrev pub pass_states : List ShapeRow → ℕ → ℕ → State → List State
pass_states names main limit st = cloning_states names main limit st ++ finish_states main limit (sent names main limit st)

-- the rows of clones that aren't among the routines have left the table
pub record KeepsLive (x y : Progress) : Type 0 where
  pub shapes : y.shapes ≡ x.shapes
  pub next : y.next ≡ x.next
  pub made : y.made ≡ x.made
  pub table_is : y.table ≡ filter (λ row. is_in (routine_pids x.shapes) row.clone) x.table
