-- What is known of registers, put to use: constants in place of results, and jumps in place of branches.
use Rattle.std.specs.Prelude.{ℕ, suc, List, [], ◌∷◌, Option, Some, None, nat_eq, if◌then◌else◌}
use Rattle.il_core.specs.declared.instr.Block.{Block}
use Rattle.il_core.specs.declared.instr.Instr.{Instr}
use Rattle.il_core.specs.declared.instr.Instr.TheVariants.{Const, Move, Conv, Bin}
use Rattle.il_core.specs.declared.instr.End.{End}
use Rattle.il_core.specs.declared.instr.End.TheVariants as ends
use Rattle.il_core.specs.Routine.{RoutineParts}
use Rattle.il_core.specs.World.{choose}
use Rattle.il_laws.specs.Facts.{Facts, gives, after, through, facts_at}

-- `const` in place of an instruction whose result is known
abbrev pub constant : Instr → ℕ → Option ℕ → Instr
constant i d None = i
constant i d (Some v) = Const d (record { 0 = v })

abbrev pub propagated : Facts → Instr → Instr
propagated fs (Move d s) = constant (Move d s) d (gives fs (Move d s))
propagated fs (Conv d t s) = constant (Conv d t s) d (gives fs (Conv d t s))
propagated fs (Bin o d a b) = constant (Bin o d a b) d (gives fs (Bin o d a b))
propagated fs i = i

abbrev pub propagated_all : Facts → List Instr → List Instr
propagated_all fs [] = []
propagated_all fs (i ∷ is) = propagated fs i ∷ propagated_all (after i fs) is

abbrev pub propagated_block : Facts → Block → Block
propagated_block fs x = record { instrs = propagated_all fs x.instrs; end = x.end }

-- each block from block b on, changed by the facts at its start
abbrev pub with_facts : (Facts → Block → Block) → RoutineParts → ℕ → List Block → List Block
with_facts change r b [] = []
with_facts change r b (x ∷ xs) = change (facts_at r b) x ∷ with_facts change r (suc b) xs

-- each `move`, `conv` and operator whose result is known becomes a `const`
abbrev pub propagate : RoutineParts → RoutineParts
propagate r = record r { blocks = with_facts propagated_block r 0 r.blocks }

-- the jump that a branch takes, where its register is known
abbrev pub taken : End → ℕ → ℕ → Option ℕ → End
taken e t u None = e
taken e t u (Some v) = ends.Jump (choose v t u)

abbrev pub folded : Facts → End → End
folded fs (ends.Branch r t u) = if nat_eq t u then ends.Jump t else taken (ends.Branch r t u) t u (fs r)
folded fs e = e

abbrev pub folded_block : Facts → Block → Block
folded_block fs x = record { instrs = x.instrs; end = folded (through x.instrs fs) x.end }

-- each branch on a known register, and each with equal targets, becomes a jump
abbrev pub fold_branches : RoutineParts → RoutineParts
fold_branches r = record r { blocks = with_facts folded_block r 0 r.blocks }
