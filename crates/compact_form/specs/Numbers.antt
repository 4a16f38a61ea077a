-- Numbers below 2^32 as bytes: the one spelling of each, which `var_bytes` defines as a relation, as a function.
use Rattle.std.specs.Prelude.{ℕ, zero, suc, ◌+◌, ◌/◌, ◌%◌, List, [], ◌∷◌, ◌++◌, nat_lt, if◌then◌else◌}

-- the bytes of n, of which at most so many have more behind them
abbrev pub spelled_in : ℕ → ℕ → List ℕ
spelled_in zero n = n ∷ []
spelled_in (suc more) n = if nat_lt n 128 then n ∷ [] else (n % 128 + 128) ∷ spelled_in more (n / 128)

unfoldable pub spelled : ℕ → List ℕ
spelled n = spelled_in 4 n

-- the forms of the items, one after another
abbrev pub forms : {X : Type 0} → (X → List ℕ) → List X → List ℕ
forms form [] = []
forms form (x ∷ xs) = form x ++ forms form xs

-- numbers one after another
abbrev pub spelled_all : List ℕ → List ℕ
spelled_all ns = forms spelled ns
