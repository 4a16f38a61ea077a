-- The edges from block to block.
use Rattle.std.specs.Prelude.{ℕ, ◌+◌, Bool, true, false, List, [], ◌∷◌, nat_eq}
use Rattle.il_core.specs.declared.instr.Block.{Block}
use Rattle.il_core.specs.declared.instr.End.{End}
use Rattle.il_core.specs.Operands.{targets}

abbrev pub one_if : Bool → ℕ
one_if true = 1
one_if false = 0

-- how often a number stands in a list
abbrev pub times : ℕ → List ℕ → ℕ
times t [] = 0
times t (u ∷ us) = one_if (nat_eq u t) + times t us

-- how many edges of an end go to block t
abbrev pub edges : End → ℕ → ℕ
edges e t = times t (targets e)

-- all edges to block t
abbrev pub all_edges : List Block → ℕ → ℕ
all_edges [] t = 0
all_edges (x ∷ xs) t = edges x.end t + all_edges xs t
