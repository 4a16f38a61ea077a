-- The meaning of IL. The recursion goes down a bound on the turns, then the blocks that follow, then the instructions
-- left. A call of a routine begins with all registers but the parameters at 0, and all arrays at 0. `Call`, `Loop` and
-- `Turn` cost one turn each.
use Rattle.std.specs.Prelude.{◌≡◌, ℕ, zero, suc, ◌+◌, ◌&&◌, Bool, List, [], ◌∷◌, Option, Some, None, nat_eq, nat_le, nat_lt, if◌then◌else◌, slice_index}
use Rattle.hlo_num.specs.Words.{convert}
use Rattle.hlo_num.specs.Operators.{operate}
use Rattle.il_core.specs.declared.instr.Block.{Block}
use Rattle.il_core.specs.declared.instr.Instr.{Instr}
use Rattle.il_core.specs.declared.instr.Instr.TheVariants.{Const, Move, Conv, Bin, Get, Set, GetX, SetX, GetA, SetA, Clear, Turn, Call, GetChar, PutChar}
use Rattle.il_core.specs.declared.instr.End.{End}
use Rattle.il_core.specs.declared.instr.End.TheVariants as ends
use Rattle.il_core.specs.declared.program.IlProgram.{IlProgram}
use Rattle.il_core.specs.Routine.{RoutineParts}
use Rattle.il_core.specs.Program.{routine_at, words_of, initial_word, main_pid}
use Rattle.il_core.specs.World.{World, Ending, Exit, OutOfTurns, Outcome, Returns, Ends, Stuck, ended, first_byte, after_get, low_byte, after_put, turn}
use Rattle.il_core.specs.World.{choose, put, put_element, with_object, from_list, each, with_word, within, with_return}

-- the registers and the local arrays of one call
pub record Frame : Type 0 where
  pub regs : ℕ → ℕ
  pub arrays : ℕ → ℕ → ℕ

abbrev pub with_reg : Frame → ℕ → ℕ → Frame
with_reg f d v = record f { regs = put f.regs d v }

-- at a call: the first registers, one for each parameter, have the arguments, and all else is 0
abbrev pub frame_of : ℕ → List ℕ → Frame
frame_of params args = record { regs = λ x. if nat_lt x params then from_list args x else 0; arrays = λ a i. 0 }

-- whether x is one of the n numbers from the first on
abbrev pub is_among : ℕ → ℕ → ℕ → Bool
is_among first n x = nat_le first x && nat_lt x (first + n)

-- n registers from r on and all elements of m arrays from a on are 0
abbrev pub cleared : Frame → ℕ → ℕ → ℕ → ℕ → Frame
cleared f r n a m = record { regs = λ x. if is_among r n x then 0 else f.regs x; arrays = λ x i. if is_among a m x then 0 else f.arrays x i }

-- a call's value, where it is wanted
abbrev pub received : Frame → Option ℕ → ℕ → Frame
received f None v = f
received f (Some d) v = with_reg f d v

-- how many elements the local arrays and how many words the objects have
pub record Lengths : Type 0 where
  pub array : ℕ → ℕ
  pub object : ℕ → ℕ

-- what comes next in a call
abbrev pub Next : Type 0 → Type 0
Next S = Frame → World S → Outcome S

-- what a call does, its turn included: at a site, of a routine, with arguments
abbrev pub Act : Type 0 → Type 0
Act S = ℕ → ℕ → List ℕ → World S → Outcome S

-- one instruction; k is the number of its site, where it is a call
abbrev pub step : {S : Type 0} → Act S → Lengths → ℕ → Instr → Next S → Next S
step call n k (Const d v) go f w = go (with_reg f d v.0) w
step call n k (Move d s) go f w = go (with_reg f d (f.regs s)) w
step call n k (Conv d t s) go f w = go (with_reg f d (convert t (f.regs s))) w
step call n k (Bin o d a b) go f w = with_word (operate o (f.regs a) (f.regs b)) w (λ v. go (with_reg f d v) w)
step call n k (Get d g) go f w = go (with_reg f d (w.objects g 0)) w
step call n k (Set g s) go f w = go f (with_object w g 0 (f.regs s))
step call n k (GetX d g i) go f w = within (f.regs i) (n.object g) w (go (with_reg f d (w.objects g (f.regs i))) w)
step call n k (SetX g i s) go f w = within (f.regs i) (n.object g) w (go f (with_object w g (f.regs i) (f.regs s)))
step call n k (GetA d a i) go f w = within (f.regs i) (n.array a) w (go (with_reg f d (f.arrays a (f.regs i))) w)
step call n k (SetA a i s) go f w = within (f.regs i) (n.array a) w (go (record f { arrays = put_element f.arrays a (f.regs i) (f.regs s) }) w)
step call n k (Clear r c a m) go f w = go (cleared f r c a m) w
step call n k Turn go f w = turn (ended OutOfTurns) (λ w1. go f w1) w
step call n k (Call dest p count args) go f w = with_return (call k p (each f.regs args) w) (λ v w1. go (received f dest v) w1)
step call n k (GetChar d) go f w = go (with_reg f d (first_byte w.input)) (after_get w)
step call n k (PutChar d s) go f w = go (with_reg f d (low_byte (f.regs s))) (after_put (f.regs s) w)

-- how many sites an instruction, and a block, has
abbrev pub sites_in : Instr → ℕ
sites_in (Call dest p count args) = 1
sites_in _ = 0

abbrev pub sites_of : List Instr → ℕ
sites_of [] = 0
sites_of (i ∷ is) = sites_in i + sites_of is

-- instructions in order; k sites stand before them
abbrev pub steps : {S : Type 0} → Act S → Lengths → ℕ → List Instr → Next S → Next S
steps call n k [] go f w = go f w
steps call n k (i ∷ is) go f w = step call n k i (λ f1 w1. steps call n (sites_in i + k) is go f1 w1) f w

-- what a return gives: 0 where it gives no value
abbrev pub returned : Frame → Option ℕ → ℕ
returned f None = 0
returned f (Some r) = f.regs r

-- the end of a block; back: going back to a block, its turn included; on: going on at a later block
abbrev pub finish : {S : Type 0} → (ℕ → Next S) → (ℕ → Next S) → End → Next S
finish back on (ends.Jump t) f w = on t f w
finish back on (ends.Branch r t u) f w = choose (f.regs r) (on t f w) (on u f w)
finish back on (ends.Loop t) f w = back t f w
finish back on (ends.Return r) f w = Returns (returned f r) w
finish back on (ends.Exit r) f w = ended (Exit (f.regs r)) w

-- goes on at block t, where b is the number of the first block of the list and k sites stand before it
abbrev pub enter : {S : Type 0} → Act S → (ℕ → Next S) → Lengths → List Block → ℕ → ℕ → ℕ → Next S
enter call back n [] b k t f w = Stuck
enter call back n (x ∷ xs) b k t f w =
    if nat_eq t b then steps call n k x.instrs (λ f1 w1. finish back (λ u f2 w2. enter call back n xs (suc b) (sites_of x.instrs + k) u f2 w2) x.end f1 w1) f w
    else enter call back n xs (suc b) (sites_of x.instrs + k) t f w

-- what is noted of a call in the log: the caller, the site and the callee
abbrev pub Recorder : Type 0 → Type 0
Recorder S = ℕ → ℕ → ℕ → S → S

-- notes nothing
abbrev pub no_log : {S : Type 0} → Recorder S
no_log caller site callee log = log

abbrev pub noted : {S : Type 0} → Recorder S → ℕ → ℕ → ℕ → World S → World S
noted note p k q w = record w { log = note p k q w.log }

abbrev pub lengths : IlProgram → RoutineParts → Lengths
lengths p r = record { array = slice_index r.arrays; object = words_of p.objects }

-- begins a call of a routine, if there is one
abbrev pub begin : {S : Type 0} → (RoutineParts → ℕ → Next S) → Option RoutineParts → List ℕ → World S → Outcome S
begin run None args w = Stuck
begin run (Some r) args w = run r 0 (frame_of r.params args) w

-- the run of a routine from block t on; the bound is above the turns left
abbrev pub exec : {S : Type 0} → Recorder S → IlProgram → ℕ → RoutineParts → ℕ → Next S
exec note p zero r t f w = Stuck
exec note p (suc bound) r t f w =
    enter
    (λ k q args w1. turn (ended OutOfTurns) (λ w2. begin (exec note p bound) (routine_at p.routines q) args (noted note r.pid k q w2)) w1)
    (λ u f1 w1. turn (ended OutOfTurns) (λ w2. exec note p bound r u f1 w2) w1)
    (lengths p r)
    r.blocks
    0
    0
    t
    f
    w

-- a call of the routine of a PID, after the turn that the call itself costs, with calls noted in a log
abbrev pub act_noting : {S : Type 0} → Recorder S → IlProgram → ℕ → List ℕ → World S → Outcome S
act_noting note p q args w = begin (exec note p (suc w.turns)) (routine_at p.routines q) args w

-- the same with no log
abbrev pub act : IlProgram → ℕ → List ℕ → World (Unit {0}) → Outcome (Unit {0})
act p q args w = act_noting no_log p q args w

-- the world as the program starts
abbrev pub at_start : {S : Type 0} → S → IlProgram → List ℕ → ℕ → World S
at_start log p input turns = record { objects = initial_word p.objects; input = input; output = []; turns = turns; log = log }

-- a run as it is seen from outside: its output and its ending
pub record Run : Type 0 where
  pub output : List ℕ
  pub ending : Ending

-- returning from `main` is an exit
abbrev pub run_of : {S : Type 0} → Outcome S → Option Run
run_of (Returns v w) = Some (record { output = w.output; ending = Exit v })
run_of (Ends e output log) = Some (record { output = output; ending = e })
run_of Stuck = None

-- what a program does on an input with a number of turns: its `main` is called, which is no turn
abbrev pub il_run : IlProgram → List ℕ → ℕ → Option Run
il_run p input turns = run_of (act p (main_pid p.shapes) [] (at_start tt p input turns))

-- a program has a run on an input with so many turns
pub record HasRun (p : IlProgram) (input : List ℕ) (turns : ℕ) : Type 0 where
  pub run : Run
  pub is : il_run p input turns ≡ Some run

-- the log in the end
abbrev pub log_of : {S : Type 0} → S → Outcome S → S
log_of none (Returns v w) = w.log
log_of none (Ends e output log) = log
log_of none Stuck = none

-- The calls that such a run makes, the last one first. A call for which no turn is left isn't made.
-- a call that was made: at this site of the caller, of this callee
pub record MadeCall : Type 0 where
  pub caller : ℕ
  pub site : ℕ
  pub callee : ℕ

abbrev pub add_call : Recorder (List MadeCall)
add_call p k q calls = record { caller = p; site = k; callee = q } ∷ calls

abbrev pub calls_made : IlProgram → List ℕ → ℕ → List MadeCall
calls_made p input turns = log_of [] (act_noting add_call p (main_pid p.shapes) [] (at_start [] p input turns))
