-- What is still to come from a running program.
use Rattle.std.specs.Prelude.{◌≡◌, ℕ, suc, ◌+◌, ◌-◌, ◌*◌, ◌^◌, ◌<◌, ◌≤◌, ◌++◌, false, List, [], ◌∷◌, length, take, drop, sum, sum_by, slice_index}
use Rattle.std.specs.Prelude.{slice_index_or, Option, Some, None}
use Rattle.il_core.specs.Limits.{max_pids}
use Rattle.il_core.specs.declared.instr.Block.{Block}
use Rattle.il_core.specs.declared.instr.Instr.{Instr}
use Rattle.il_core.specs.declared.instr.Instr.TheVariants.{GetChar}
use Rattle.il_core.specs.declared.instr.End.TheVariants as ends
use Rattle.il_core.specs.declared.program.IlProgram.{IlProgram}
use Rattle.il_core.specs.Routine.{RoutineParts}
use Rattle.il_core.specs.Program.{routine_at, words_of}
use Rattle.il_core.specs.Size.{blocks_size}
use Rattle.il_core.specs.Valid.{IsRegIfSome}
use Rattle.il_core.specs.World as world
use Rattle.il_core.specs.World.{World, Outcome, with_return, first_byte, other_bytes}
use Rattle.il_core.specs.Meaning.{Frame, received, returned, run_of, log_of, Recorder, MadeCall, add_call, sites_in, sites_of}
use Rattle.il_run.specs.declared.ending.Ending.{Ending}
use Rattle.il_run.specs.declared.ending.Ending.TheVariants as ending
use Rattle.il_run.specs.declared.layout.Layout.{Layout}
use Rattle.il_run.specs.declared.store.Store.{Store}
use Rattle.il_run.specs.declared.tables.Tables.{Tables}
use Rattle.il_run.specs.declared.machine.Suspended.{Suspended}
use Rattle.il_run.specs.declared.machine.Machine.{Machine}
use Rattle.il_run.specs.declared.machine.Move.{Move}
use Rattle.il_run.specs.declared.machine.Move.TheVariants.{Called, Get, Put, End}
use Rattle.il_core.specs.Places.{run_from, sites_before}
use Rattle.il_run.specs.Plain.{frame_in, Holds, IsPlain, SetsReg}
use Rattle.il_run.specs.Words.{window, arrays_in, AreStarts}

-- the ending as the meaning has it
abbrev pub ending_of : Ending → world.Ending
ending_of (ending.Exit w) = world.Exit w.0
ending_of (ending.Trapped t) = world.Trapped t
ending_of ending.OutOfTurns = world.OutOfTurns

-- the routine at a position, and a block of a routine; past the end, one that has nothing
abbrev pub routine_of : List RoutineParts → ℕ → RoutineParts
routine_of rs i = slice_index_or rs i (record { pid = 0; params = 0; value = false; regs = 0; entry = 0; arrays = []; blocks = [] })

abbrev pub routine_in : IlProgram → ℕ → RoutineParts
routine_in p i = routine_of p.routines i

abbrev pub block_in : RoutineParts → ℕ → Block
block_in r b = slice_index_or r.blocks b (record { instrs = []; end = ends.Exit 0 })

-- the tables are the program's
pub record IsTabled (p : IlProgram) (t : Tables) : Type 0 where
  pub pids : length t.position.items ≡ max_pids
  pub position : (q : ℕ) (r : RoutineParts) → routine_at p.routines q ≡ Some r
      → (slice_index t.position.items q < length p.routines) × (routine_in p (slice_index t.position.items q) ≡ r)
  pub count : length t.arrays.items ≡ length p.routines
  pub arrays : (i : ℕ) (l : Layout) → i < length p.routines → l ≡ slice_index_or t.arrays.items i l
      → (l.sizes.items ≡ (routine_in p i).arrays) × AreStarts l.sizes.items l.starts.items
  pub sizes : (g : ℕ) → slice_index t.objects.sizes.items g ≡ words_of p.objects g
  pub starts : AreStarts t.objects.sizes.items t.objects.starts.items

-- a place in a program
pub record IsPlace (p : IlProgram) (routine block instr : ℕ) : Type 0 where
  pub in_program : routine < length p.routines
  pub in_routine : block < length (routine_in p routine).blocks
  pub in_block : instr ≤ length (block_in (routine_in p routine) block).instrs

-- a waiting call whose registers and elements begin at these places
pub record IsSuspended (p : IlProgram) (regs elements : ℕ) (s : Suspended) : Type 0 where
  pub at_regs : s.at_regs ≡ regs
  pub at_elements : s.at_elements ≡ elements
  pub place : IsPlace p s.routine s.block s.instr
  pub dest : IsRegIfSome (routine_in p s.routine).regs s.dest

-- the waiting calls' words stand one after another, from the first places up to the last
abbrev pub Stacked : IlProgram → ℕ → ℕ → List Suspended → ℕ → ℕ → Type 0
Stacked p regs elements [] end_regs end_elements = (regs ≡ end_regs) × (elements ≡ end_elements)
Stacked p regs elements (s ∷ ss) end_regs end_elements =
    IsSuspended p regs elements s × Stacked p (regs + (routine_in p s.routine).regs) (elements + sum (routine_in p s.routine).arrays) ss end_regs end_elements

pub record IsSound (p : IlProgram) (t : Tables) (m : Machine) : Type 0 where
  pub place : IsPlace p m.routine m.block m.instr
  pub holds : Holds m.store (routine_in p m.routine) t.objects.sizes.items
  pub stacked : Stacked p 0 0 m.stack.items m.store.at_regs m.store.at_elements

-- how many instructions and ends are left in a routine
abbrev pub work : RoutineParts → ℕ → ℕ → ℕ
work r block instr = blocks_size (drop block r.blocks) - instr

-- a number that falls with each step: a turn counts for more than all that a routine has
abbrev pub fuel : IlProgram → Machine → ℕ
fuel p m = m.turns * 2 ^ 17 + work (routine_in p m.routine) m.block m.instr + sum_by (λ (s : Suspended). work (routine_in p s.routine) s.block s.instr)
    m.stack.items

-- the frame of a waiting call
abbrev pub frame_at : IlProgram → List ℕ → List ℕ → Suspended → Frame
frame_at p regs elements s = record {
  regs = window regs s.at_regs (routine_in p s.routine).regs;
  arrays = arrays_in elements s.at_elements
      (routine_in p s.routine).arrays;
}

module _ {S : Type 0} (note : Recorder S) (p : IlProgram) where
  -- a waiting call goes on with what the call that it waits for returns
  abbrev pub receive : List ℕ → List ℕ → Suspended → Outcome S → Outcome S
  receive regs elements s o =
      with_return o (λ v w. run_from note p (routine_in p s.routine) s.block s.instr (received (frame_at p regs elements s) s.dest v) w)

  -- the waiting calls go on, the last one first
  abbrev pub resume : List ℕ → List ℕ → List Suspended → Outcome S → Outcome S
  resume regs elements [] o = o
  resume regs elements (s ∷ ss) o = receive regs elements s (resume regs elements ss o)

  abbrev pub world_in : Tables → Machine → List ℕ → List ℕ → S → World S
  world_in t m input output log = record {
    objects = arrays_in m.store.words.items 0 t.objects.sizes.items;
    input = input;
    output = output;
    turns = m.turns;
    log
        = log;
  }

  -- how the program goes on and ends from here, with this input left and this output so far
  abbrev pub left : Tables → Machine → List ℕ → List ℕ → S → Outcome S
  left t m input output log =
      resume m.store.regs.items m.store.elements.items m.stack.items
      (run_from note p (routine_in p m.routine) m.block m.instr (frame_in m.store (routine_in p m.routine)) (world_in t m input output log))

-- what is left, where these calls were made so far, the last one first
abbrev pub to_come : IlProgram → Tables → Machine → List ℕ → List ℕ → List MadeCall → Outcome (List MadeCall)
to_come p t m input output calls = left add_call p t m input output calls

-- the instruction that comes next
pub record IsNext (p : IlProgram) (m : Machine) (i : Instr) : Type 0 where
  pub within : m.instr < length (block_in (routine_in p m.routine) m.block).instrs
  pub few : m.instr < 2 ^ 63
  pub is : drop m.instr (block_in (routine_in p m.routine) m.block).instrs ≡ i ∷ drop (suc m.instr) (block_in (routine_in p m.routine) m.block).instrs

-- from the first machine the program comes to the second, or stands there already: nothing of the outside is met between
-- them, and no call is made
pub record Leads (p : IlProgram) (t : Tables) (old new : Machine) : Type 0 where
  pub sound : IsSound p t new
  pub no_more : fuel p new ≤ fuel p old
  pub same : (input output : List ℕ) (calls : List MadeCall) → to_come p t old input output calls ≡ to_come p t new input output calls

-- the same with one step at least
pub record GoesOn (p : IlProgram) (t : Tables) (old new : Machine) : Type 0 where
  pub sound : IsSound p t new
  pub less : fuel p new < fuel p old
  pub same : (input output : List ℕ) (calls : List MadeCall) → to_come p t old input output calls ≡ to_come p t new input output calls

pub record PutsOut (p : IlProgram) (t : Tables) (old new : Machine) (b : ℕ) : Type 0 where
  pub sound : IsSound p t new
  pub less : fuel p new < fuel p old
  pub same : (input output : List ℕ) (calls : List MadeCall) → to_come p t old input output calls ≡ to_come p t new input (output ++ b ∷ []) calls

-- the program comes to a `getchar` for this register
pub record ComesToGet (p : IlProgram) (t : Tables) (old : Machine) (d : ℕ) : Type 0 where
  pub machine : Machine
  pub way : Leads p t old machine
  pub next : IsNext p machine (GetChar d)

-- the next byte is wanted for a register
pub record WantsByte (p : IlProgram) (t : Tables) (old new : Machine) (d : ℕ) : Type 0 where
  pub sound : IsSound p t new
  pub less : fuel p new < fuel p old
  pub at : ComesToGet p t old d
  pub reg : d < (routine_in p new.routine).regs
  pub same : (input output : List ℕ) (calls : List MadeCall) (s : Store) → SetsReg new.store s d (first_byte input)
      → to_come p t old input output calls ≡ to_come p t (record new { store = s }) (other_bytes input) output calls

-- the number of the site that comes next
abbrev pub site_at : RoutineParts → ℕ → ℕ → ℕ
site_at r b j = sites_of (take j (block_in r b).instrs) + sites_before r.blocks b 0

-- an instruction that is a call
pub record IsSite (p : IlProgram) (routine block instr : ℕ) : Type 0 where
  pub in_program : routine < length p.routines
  pub in_routine : block < length (routine_in p routine).blocks
  pub in_block : instr < length (block_in (routine_in p routine) block).instrs
  pub call : Instr
  pub is : drop instr (block_in (routine_in p routine) block).instrs ≡ call ∷ drop (suc instr) (block_in (routine_in p routine) block).instrs
  pub one : sites_in call ≡ 1

-- the current call was made by the last one that waits
pub record IsCalled (p : IlProgram) (m : Machine) : Type 0 where
  pub others : List Suspended
  pub caller : Suspended
  pub last : m.stack.items ≡ others ++ caller ∷ []
  pub instr : ℕ
  pub before : caller.instr ≡ instr + 1
  pub at : IsSite p caller.routine caller.block instr

-- that call
abbrev pub call_into : (p : IlProgram) (m : Machine) → IsCalled p m → MadeCall
call_into p m c = record {
  caller = (routine_in p c.caller.routine).pid;
  site = site_at (routine_in p c.caller.routine) c.caller.block c.instr;
  callee =
      (routine_in p m.routine).pid;
}

-- a call was made
pub record Calls (p : IlProgram) (t : Tables) (old new : Machine) : Type 0 where
  pub sound : IsSound p t new
  pub less : fuel p new < fuel p old
  pub called : IsCalled p new
  pub same : (input output : List ℕ) (calls : List MadeCall)
      → to_come p t old input output calls ≡ to_come p t new input output (call_into p new called ∷ calls)

-- the program ended so, with this output and these calls
pub record Over (e : world.Ending) (output : List ℕ) (calls : List MadeCall) (o : Outcome (List MadeCall)) : Type 0 where
  pub run : run_of o ≡ Some (record { output = output; ending = e })
  pub made : log_of [] o ≡ calls

-- the program ran on to what it asks for
abbrev pub Moved : IlProgram → Tables → Machine → Machine → Move → Type 0
Moved p t old new Called = Calls p t old new
Moved p t old new (Get d) = WantsByte p t old new d
Moved p t old new (Put b) = PutsOut p t old new b
Moved p t old new (End e) = (input output : List ℕ) (calls : List MadeCall) → Over (ending_of e) output calls (to_come p t old input output calls)

-- one step or more, with what is asked for, if anything is
abbrev pub Steps : IlProgram → Tables → Machine → Machine → Option Move → Type 0
Steps p t old new None = GoesOn p t old new
Steps p t old new (Some asked) = Moved p t old new asked

-- the plain instructions in a row were executed, and none of them comes next in the block
pub record RunsPlain (p : IlProgram) (t : Tables) (old new : Machine) : Type 0 where
  pub way : Leads p t old new
  pub routine : new.routine ≡ old.routine
  pub block : new.block ≡ old.block
  pub stops : (i : Instr) → IsNext p new i → IsPlain i → ⊥

-- a return of this value comes next
pub record Returning (p : IlProgram) (m : Machine) (v : ℕ) : Type 0 where
  pub register : Option ℕ
  pub done : length (block_in (routine_in p m.routine) m.block).instrs ≤ m.instr
  pub end : ends.Return register ≡ (block_in (routine_in p m.routine) m.block).end
  pub value : v ≡ returned (frame_in m.store (routine_in p m.routine)) register
