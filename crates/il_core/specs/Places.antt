-- What is still to come from a place inside a routine.
use Rattle.std.specs.Prelude.{ℕ, zero, suc, ◌+◌, List, [], ◌∷◌, take, drop}
use Rattle.il_core.specs.declared.instr.Block.{Block}
use Rattle.il_core.specs.declared.program.IlProgram.{IlProgram}
use Rattle.il_core.specs.Routine.{RoutineParts}
use Rattle.il_core.specs.World.{OutOfTurns, Stuck, ended, turn}
use Rattle.il_core.specs.Meaning.{Lengths, lengths, Next, Act, steps, sites_of, finish, enter, Recorder, noted, exec, act_noting}

-- the number of the first site of a block, where k sites stand before the list
abbrev pub sites_before : List Block → ℕ → ℕ → ℕ
sites_before xs zero k = k
sites_before [] (suc b) k = k
sites_before (x ∷ xs) (suc b) k = sites_before xs b (sites_of x.instrs + k)

-- the run from instruction j of the first block of a list on, where b is that block's number and k sites stand before it
abbrev pub from_block : {S : Type 0} → Act S → (ℕ → Next S) → Lengths → List Block → ℕ → ℕ → ℕ → Next S
from_block call back n [] b k j f w = Stuck
from_block call back n (x ∷ xs) b k j f w =
    steps call n (sites_of (take j x.instrs) + k) (drop j x.instrs)
    (λ f1 w1. finish back (λ u f2 w2. enter call back n xs (suc b) (sites_of x.instrs + k) u f2 w2) x.end f1 w1) f w

-- the calls of a routine, its turn included
abbrev pub calls_of : {S : Type 0} → Recorder S → IlProgram → RoutineParts → Act S
calls_of note p r k q args w = turn (ended OutOfTurns) (λ w1. act_noting note p q args (noted note r.pid k q w1)) w

-- the ways back of a routine, with their turn
abbrev pub backs_of : {S : Type 0} → Recorder S → IlProgram → RoutineParts → ℕ → Next S
backs_of note p r u f w = turn (ended OutOfTurns) (λ w1. exec note p (suc w1.turns) r u f w1) w

-- the run of a routine from instruction j of block b on
abbrev pub run_from : {S : Type 0} → Recorder S → IlProgram → RoutineParts → ℕ → ℕ → Next S
run_from note p r b j = from_block (calls_of note p r) (backs_of note p r) (lengths p r) (drop b r.blocks) b (sites_before r.blocks b 0) j
