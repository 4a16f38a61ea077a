-- The clones that were made, as the code keeps them.
use Rattle.std.specs.Prelude.{◌≡◌, ℕ, suc, ◌+◌, ◌<◌, List, [], ◌∷◌, length, slice_index}
use Rattle.std.specs.List.{AllByRecursion}
use Rattle.plan_laws.specs.Plan.{Made, clones_of}

-- the PID of the first clone, and all clones, the newest one first; their PIDs follow one another
pub record Clones : Type 0 where
  pub first : ℕ
  pub made : List Made

-- the PID of the next one
abbrev pub next_pid : Clones → ℕ
next_pid c = c.first + length c.made

-- the clones of these roots, numbered from p on, before others
abbrev pub made_from : ℕ → List ℕ → List Made → List Made
made_from p [] before = before
made_from p (root ∷ roots) before = made_from (suc p) roots (record { clone = p; root = root } ∷ before)

-- each root is below the first clone, and the table has for each number below it how many clones it is the root of
pub record AreCounted (first : ℕ) (roots counts : List ℕ) : Type 0 where
  pub below : AllByRecursion (λ root. root < first) roots
  pub long : length counts ≡ first
  pub count : (q : ℕ) → q < first → slice_index counts q ≡ clones_of (made_from first roots []) q
