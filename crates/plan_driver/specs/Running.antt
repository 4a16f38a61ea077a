-- Passes one after another, as they change states.
use Rattle.std.specs.Prelude.{ℕ, List, [], ◌∷◌, flat_map}
use Rattle.il_core.specs.declared.shape.ShapeRow.{ShapeRow}
use Rattle.plan_laws.specs.GroupLaws.{EachPass}
use Rattle.plan_laws.specs.Plan.{Pass, State, limit_of, passes_from, states_of}
use Rattle.plan_pools.specs.Cloning.{MayClone}

-- the passes from a first state on, which spend a budget in equal parts of a first cost
abbrev pub passes_in : List ShapeRow → ℕ → ℕ → ℕ → State → List Pass
passes_in names first budget n st = passes_from names budget (limit_of first budget n) 1 n st

-- in each of these passes, from pass k on, clones may be made
abbrev pub MayPass : List ShapeRow → ℕ → (ℕ → ℕ) → ℕ → State → List Pass → Type 0
MayPass names main limit k st xs = EachPass (λ j st x. MayClone names main (limit j) st) k st xs

-- in each pass from a state on clones may be made
abbrev pub FitsPasses : List ShapeRow → ℕ → ℕ → ℕ → ℕ → State → Type 0
FitsPasses names main first budget n st = MayPass names main (limit_of first budget n) 1 st (passes_in names first budget n st)

-- the states of all passes
abbrev pub passes_states : List ShapeRow → ℕ → ℕ → ℕ → State → List State
passes_states names first budget n st = flat_map states_of (passes_in names first budget n st)

-- the state that passes leave
abbrev pub left_by : List Pass → State → State
left_by [] st = st
left_by (x ∷ xs) st = left_by xs x.pruned

abbrev pub left_after : List ShapeRow → ℕ → ℕ → ℕ → State → State
left_after names first budget n st = left_by (passes_in names first budget n st) st
