-- The calls of a routine, site by site.
use Rattle.std.specs.Prelude.{ℕ, List, [], ◌∷◌, ◌++◌, Option, Some, None}
use Rattle.il_core.specs.declared.instr.Block.{Block}
use Rattle.il_core.specs.declared.instr.Instr.{Instr}
use Rattle.il_core.specs.Operands.{callee_of}

-- one or none, as a list
abbrev pub listed : Option ℕ → List ℕ
listed None = []
listed (Some x) = x ∷ []

abbrev pub callees_in : List Instr → List ℕ
callees_in [] = []
callees_in (i ∷ is) = listed (callee_of i) ++ callees_in is

-- the callees of blocks in the order of their sites
abbrev pub callees : List Block → List ℕ
callees [] = []
callees (x ∷ xs) = callees_in x.instrs ++ callees xs
