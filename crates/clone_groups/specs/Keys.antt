-- Keys of clones: a callee, and constants of its parameters.
use Rattle.std.specs.Prelude.{ℕ, ◌&&◌, Bool, List, map, nat_eq}
use Rattle.std.specs.Cmp.Lexicographic.{pointwise}
use Rattle.hlo_num.specs.declared.word.Word.{Word}
use Rattle.il_laws.specs.Clone.{Fixed}
use Rattle.clone_groups.specs.declared.keys.CloneKey.{CloneKey}

-- a parameter and its constant, as the laws write them and as the code does: by the constant's number, and by its word
abbrev pub fixed_by : ℕ × ℕ → Fixed
fixed_by x = record { param = x.0; word = record { 0 = x.1 } }

abbrev pub fixed_in : List (ℕ × ℕ) → List Fixed
fixed_in xs = map fixed_by xs

abbrev pub pair_of : Fixed → ℕ × Word
pair_of f = (f.param, f.word)

abbrev pub pairs_of : List Fixed → List (ℕ × Word)
pairs_of fs = map pair_of fs

abbrev pub number_of : ℕ × Word → ℕ × ℕ
number_of x = (x.0, x.1.0)

abbrev pub numbers_of : List (ℕ × Word) → List (ℕ × ℕ)
numbers_of xs = map number_of xs

-- keys are the same where their callees and all their constants are
abbrev pub same_key : CloneKey → CloneKey → Bool
same_key a b = nat_eq a.callee b.callee && pointwise (λ x y. nat_eq x.0 y.0 && nat_eq x.1 y.1) a.fixed.items b.fixed.items
