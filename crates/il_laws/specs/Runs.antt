-- The run of blocks as the laws speak of it: a call notes nothing, so a site's number decides nothing, and the bound on
-- the turns is gone.
use Rattle.std.specs.Prelude.{ℕ, zero, suc, List, [], ◌∷◌, nat_eq, if◌then◌else◌, ⊤}
use Rattle.std.specs.List.{AllByRecursion}
use Rattle.il_core.specs.declared.instr.Block.{Block}
use Rattle.il_core.specs.declared.instr.Instr.{Instr}
use Rattle.il_core.specs.declared.instr.Instr.TheVariants.{Call}
use Rattle.il_core.specs.declared.program.IlProgram.{IlProgram}
use Rattle.il_core.specs.World.{World, OutOfTurns, Outcome, Stuck, ended, turn}
use Rattle.il_core.specs.Meaning.{Lengths, Next, Act, step, finish, no_log, act_noting}

-- what a call does, its turn included: of a routine, with arguments
abbrev pub Calls : Type 0 → Type 0
Calls S = ℕ → List ℕ → World S → Outcome S

-- the same at any site
abbrev pub silent : {S : Type 0} → Calls S → Act S
silent c k p args w = c p args w

-- instructions in order
abbrev pub does : {S : Type 0} → Calls S → Lengths → List Instr → Next S → Next S
does c n [] go f w = go f w
does c n (i ∷ is) go f w = step (silent c) n 0 i (λ f1 w1. does c n is go f1 w1) f w

-- goes on at block t, where b is the number of the first block of the list
abbrev pub pass : {S : Type 0} → Calls S → (ℕ → Next S) → Lengths → List Block → ℕ → ℕ → Next S
pass c back n [] b t f w = Stuck
pass c back n (x ∷ xs) b t f w =
    if nat_eq t b then does c n x.instrs (λ f1 w1. finish back (λ u f2 w2. pass c back n xs (suc b) u f2 w2) x.end f1 w1) f w
    else pass c back n xs (suc b) t f w

-- going back to a block, its turn included
abbrev pub turned : {S : Type 0} → (ℕ → Next S) → ℕ → Next S
turned run u f w = turn (ended OutOfTurns) (λ w1. run u f w1) w

-- what blocks do under given calls, where the bound is above the turns left
abbrev pub body : {S : Type 0} → Calls S → Lengths → List Block → ℕ → ℕ → Next S
body c n bs zero t f w = Stuck
body c n bs (suc m) t f w = pass c (turned (body c n bs m)) n bs 0 t f w

-- the same with no bound
abbrev pub run : {S : Type 0} → Calls S → Lengths → List Block → ℕ → Next S
run c n bs t f w = body c n bs (suc w.turns) t f w

-- the calls of a program
abbrev pub called : {S : Type 0} → IlProgram → Calls S
called p q args w = turn (ended OutOfTurns) (λ w1. act_noting no_log p q args w1) w

-- which routines may be called
abbrev pub Callable : Type 1
Callable = ℕ → Type 0

abbrev pub IsCallIn : Callable → Instr → Type 0
IsCallIn may (Call dest p count args) = may p
IsCallIn may _ = ⊤

abbrev pub CallsIn : Callable → List Instr → Type 0
CallsIn may is = AllByRecursion (IsCallIn may) is

-- blocks call no other routine
abbrev pub BlocksCallIn : Callable → List Block → Type 0
BlocksCallIn may bs = AllByRecursion (λ x. CallsIn may x.instrs) bs
