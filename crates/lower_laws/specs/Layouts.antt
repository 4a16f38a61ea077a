-- What is fixed for a function while its code is made.
use Rattle.std.specs.Prelude.{ℕ, Bool}

-- what decides the numbers: which locals are arrays, and whether the function gives a value
pub record Outline : Type 0 where
  pub is_array : ℕ → Bool
  pub value : Bool

-- the outline; the register of each local that is no array, the array of each that is one; and how often the profile
-- counts each call site
pub record Layout : Type 0 where
  pub outline : Outline
  pub register : ℕ → ℕ
  pub array : ℕ → ℕ
  pub count : ℕ → ℕ
