-- What is known of registers: facts at the start of each block, and through a block.
use Rattle.std.specs.Prelude.{ℕ, zero, suc, ◌||◌, Bool, List, [], ◌∷◌, Option, Some, None, option_map, nat_eq, nat_lt, if◌then◌else◌, slice_get, Result}
use Rattle.std.specs.Prelude.{Ok, Err}
use Rattle.std.specs.List.{list_any}
use Rattle.hlo_num.specs.declared.word.Trap.{Trap}
use Rattle.hlo_num.specs.declared.word.Op.{Op}
use Rattle.hlo_num.specs.Words.{convert}
use Rattle.hlo_num.specs.Operators.{operate}
use Rattle.il_core.specs.declared.instr.Block.{Block}
use Rattle.il_core.specs.declared.instr.Instr.{Instr}
use Rattle.il_core.specs.declared.instr.Instr.TheVariants.{Const, Move, Conv, Bin, Clear}
use Rattle.il_core.specs.declared.instr.End.{End}
use Rattle.il_core.specs.Routine.{RoutineParts}
use Rattle.il_core.specs.Operands.{is_named, writes, jumps, loops_to}

-- a fact gives a register a word
abbrev pub Facts : Type 0
Facts = ℕ → Option ℕ

-- the word of an operator that doesn't trap
abbrev pub word_in : Result ℕ Trap → Option ℕ
word_in (Ok v) = Some v
word_in (Err t) = None

-- the result of an operator whose operands are known, where nothing traps
abbrev pub known_result : Op → Option ℕ → Option ℕ → Option ℕ
known_result o (Some a) (Some b) = word_in (operate o a b)
known_result o (Some a) None = None
known_result o None b = None

-- what an instruction gives to the registers that it writes, where that is known
abbrev pub gives : Facts → Instr → Option ℕ
gives fs (Const d v) = Some v.0
gives fs (Move d s) = fs s
gives fs (Conv d t s) = option_map (convert t) (fs s)
gives fs (Bin o d a b) = known_result o (fs a) (fs b)
gives fs (Clear r c a m) = Some 0
gives fs _ = None

-- behind an instruction: what it writes is what it gives, and all else is known as before
abbrev pub after : Instr → Facts → Facts
after i fs x = if writes i x then gives fs i else fs x

abbrev pub through : List Instr → Facts → Facts
through [] fs = fs
through (i ∷ is) fs = through is (after i fs)

-- whether some instruction writes a register
abbrev pub any_writes : List Instr → ℕ → Bool
any_writes is x = list_any (λ i. writes i x) is

abbrev pub written : List Block → ℕ → Bool
written bs x = list_any (λ b. any_writes b.instrs x) bs

-- whether some `loop` goes to a block
abbrev pub looped : List Block → ℕ → Bool
looped bs b = list_any (λ x. is_named (loops_to x.end) b) bs

-- whether an end can jump to a block
abbrev pub jumps_to : End → ℕ → Bool
jumps_to e b = list_any (nat_eq b) (jumps e)

-- the end of a block, and the facts there
pub record Passed : Type 0 where
  pub end : End
  pub facts : Facts

-- what both of two know
abbrev pub both_know : Option ℕ → Option ℕ → Option ℕ
both_know (Some v) (Some w) = if nat_eq v w then Some v else None
both_know (Some v) None = None
both_know None o = None

abbrev pub meet : Facts → Option Facts → Facts
meet fs None x = fs x
meet fs (Some gs) x = both_know (fs x) (gs x)

-- the facts that all of these blocks have that jump to block b, if one does
abbrev pub arriving : ℕ → List Passed → Option Facts
arriving b [] = None
arriving b (p ∷ ps) = if jumps_to p.end b then Some (meet p.facts (arriving b ps)) else arriving b ps

abbrev pub known : Option Facts → Facts
known None x = None
known (Some fs) x = fs x

-- At block 0 every register but parameters is 0. At a block that some `loop` goes to, only registers that no
-- instruction writes and that aren't parameters are known, as 0. At another block the facts are those that all blocks
-- before that jump to it have at their ends.
abbrev pub start : RoutineParts → ℕ → List Passed → Facts
start r b ps x =
    if looped r.blocks b then (if nat_lt x r.params || written r.blocks x then None else Some 0)
    else if nat_eq b 0 then (if nat_lt x r.params then None else Some 0)
    else known (arriving b ps) x

abbrev pub one_more : RoutineParts → ℕ → Option Block → List Passed → List Passed
one_more r b None ps = ps
one_more r b (Some x) ps = record { end = x.end; facts = through x.instrs (start r b ps) } ∷ ps

-- the blocks before block b, the last one first
abbrev pub before : RoutineParts → ℕ → List Passed
before r zero = []
before r (suc b) = one_more r b (slice_get r.blocks b) (before r b)

-- the facts at the start of block b
abbrev pub facts_at : RoutineParts → ℕ → Facts
facts_at r b = start r b (before r b)
