-- Lists put in order.
use Rattle.std.specs.Prelude.{ℕ, max, Bool, true, false, List, [], ◌∷◌, nat_eq, nat_lt, if◌then◌else◌}

-- an element before the first one that doesn't come before it
abbrev pub inserted : {X : Type 0} → (X → X → Bool) → X → List X → List X
inserted before x [] = x ∷ []
inserted before x (y ∷ ys) = if before y x then y ∷ inserted before x ys else x ∷ y ∷ ys

-- the elements in order
abbrev pub sorted : {X : Type 0} → (X → X → Bool) → List X → List X
sorted before [] = []
sorted before (x ∷ xs) = inserted before x (sorted before xs)

-- by two numbers, and where they are equal by what else decides
abbrev pub less_or : ℕ → ℕ → Bool → Bool
less_or a b other = if nat_lt a b then true else (if nat_eq a b then other else false)

abbrev pub greatest : {X : Type 0} → (X → ℕ) → List X → ℕ
greatest f [] = 0
greatest f (x ∷ xs) = max (f x) (greatest f xs)
