-- What a run promises.
use Rattle.std.specs.Prelude.{◌≡◌, ℕ, ◌+◌, ◌<◌, ◌++◌, ◌⊎◌, List, Option, Some, None, ⊤, [], ◌∷◌, take, Bool, false}
use Rattle.std.specs.Io.KnownBytes.{Appends, Consumes, Keeps}
use Rattle.outside.specs.Faults.{Rose}
use Rattle.il_core.specs.declared.program.IlProgram.{IlProgram}
use Rattle.il_core.specs.declared.instr.Instr.TheVariants.{GetChar}
use Rattle.il_core.specs.Program.{main_pid}
use Rattle.il_core.specs.Meaning.{Run, il_run, MadeCall, add_call, calls_made, act_noting, at_start}
use Rattle.il_run.specs.declared.input.Ahead.{Ahead}
use Rattle.il_run.specs.declared.ending.Ending.{Ending}
use Rattle.il_run.specs.declared.ending.RunFault.{RunFault}
use Rattle.il_run.specs.declared.ending.RunFault.TheVariants as fault
use Rattle.il_run.specs.declared.machine.Machine.{Machine}
use Rattle.il_run.specs.declared.tables.Tables.{Tables}
use Rattle.il_run.specs.Counts.{CountsMore, counts_of}
use Rattle.il_run.specs.Streams.{AsksOnce, FailsAt, GainsFront}
use Rattle.il_run.specs.declared.counter.Counter.{Counter}
use Rattle.outside.specs.Asks.{bytes_given}
use Rattle.outside.specs.declared.source.Ask.{Ask}
use Rattle.il_run.specs.Machine.{ComesToGet, ending_of, IsNext, IsSound, IsTabled, Over, fuel, to_come}

-- of told bytes; nothing where none are told
abbrev pub IfTold : Option (List ℕ) → (List ℕ → Type 0) → Type 0
IfTold None P = ⊤
IfTold (Some bytes) P = P bytes

-- on these bytes and with these turns the program ends so, and the sink gained its output
pub record EndsAs (p : IlProgram) (turns : ℕ) (e : Ending) (old new : Option (List ℕ)) (bytes : List ℕ) : Type 0 where
  pub output : List ℕ
  pub run : il_run p bytes turns ≡ Some (record { output = output; ending = ending_of e })
  pub gained : Appends old new output

-- the program has a run on these bytes and with these turns, and the sink gained a front of its output
pub record StopsWithin (p : IlProgram) (turns : ℕ) (old new : Option (List ℕ)) (bytes : List ℕ) : Type 0 where
  pub run : Run
  pub is_run : il_run p bytes turns ≡ Some run
  pub gained : GainsFront old new run.output

-- the fault of the source or the sink comes only where its count rose
abbrev pub HasReason : RunFault → ℕ → ℕ → ℕ → ℕ → Type 0
HasReason fault.Input input input_now output output_now = Rose input input_now
HasReason fault.Output input input_now output output_now = Rose output output_now
HasReason fault.Memory input input_now output output_now = ⊤

-- a machine runs on: its known input that is left, what it puts out, and the calls that it makes
pub record Goes (p : IlProgram) (t : Tables) (old new : Machine) (made : List MadeCall) (known put put_now : Option (List ℕ)) (rest : List ℕ) : Type 0 where
  pub left : List ℕ
  pub out : List ℕ
  pub is_left : known ≡ Some left
  pub is_out : Appends put put_now out
  pub same : (output : List ℕ) (calls : List MadeCall) → to_come p t old rest output calls ≡ to_come p t new left (output ++ out) (made ++ calls)

-- some bytes are used, and all is the same whatever input follows them
pub record Uses (p : IlProgram) (t : Tables) (old new : Machine) (made : List MadeCall) (known known_now : Option (List ℕ)) : Type 0 where
  pub bytes : List ℕ
  pub out : List ℕ
  pub consumed : Consumes known known_now bytes
  pub alike : (more output : List ℕ) (calls : List MadeCall)
      → to_come p t old (bytes ++ more) output calls ≡ to_come p t new more (output ++ out) (made ++ calls)

pub record Round (p : IlProgram) (t : Tables) (old new : Machine) (counter counter_now : Option Counter) (known known_now put put_now : Option (List ℕ))
    (ended : Bool) : Type 0 where
  pub sound : IsSound p t new
  pub less : fuel p new < fuel p old
  pub made : List MadeCall
  pub counted : CountsMore p counter counter_now made
  pub goes : (rest : List ℕ) → known ≡ Some rest → Goes p t old new made known_now put put_now rest
  pub uses : ended ≡ false → Uses p t old new made known known_now

-- the program ran to its end, and the sink took what waited
pub record LastRound (p : IlProgram) (t : Tables) (old : Machine) (e : Ending) (taken taken_now : Option (List ℕ)) (waiting : List ℕ) : Type 0 where
  pub run : (rest output : List ℕ) (calls : List MadeCall) → Over (ending_of e) output calls (to_come p t old rest output calls)
  pub took : Appends taken taken_now waiting

-- The program wants a byte after these: with any further input behind them it stands, at the same place, at a
-- `getchar` that has all of that input before it.
pub record Wants (p : IlProgram) (turns : ℕ) (used : List ℕ) : Type 0 where
  pub tables : Tables
  pub machine : Machine
  pub tabled : IsTabled p tables
  pub sound : IsSound p tables machine
  pub register : ℕ
  pub output : List ℕ
  pub calls : List MadeCall
  pub next : IsNext p machine (GetChar register)
  pub alike : (more : List ℕ) → act_noting add_call p (main_pid p.shapes) [] (at_start [] p (used ++ more) turns) ≡ to_come p tables machine more output calls

-- of told bytes some were taken, after which the program wants one more, and the rest is left
pub record AsksFor (p : IlProgram) (turns : ℕ) (left : Option (List ℕ)) (bytes : List ℕ) : Type 0 where
  pub used : List ℕ
  pub rest : List ℕ
  pub split : bytes ≡ used ++ rest
  pub is_left : left ≡ Some rest
  pub wants : Wants p turns used

-- the source failed where the program had come to a `getchar`
pub record FailedAsk (p : IlProgram) (t : Tables) (m : Machine) (old new : Ahead) (known known_now : Option (List ℕ)) : Type 0 where
  pub register : ℕ
  pub comes : ComesToGet p t m register
  pub at : FailsAt old new
  pub kept : Keeps known known_now

-- where calls are counted, the counts are those of the calls that the program makes on these bytes
abbrev pub AreCounted : IlProgram → ℕ → Option Counter → List ℕ → Type 0
AreCounted p turns None bytes = ⊤
AreCounted p turns (Some c) bytes = c.counts ≡ counts_of p (calls_made p bytes turns)

-- each of some calls of the source came where the program wants a byte after those that were given before that call
-- in this run, n before the first one
abbrev pub AreWanted : IlProgram → ℕ → List ℕ → ℕ → List Ask → Type 0
AreWanted p turns bytes n [] = ⊤
AreWanted p turns bytes n (ask ∷ asks) = Wants p turns (take n bytes) × AreWanted p turns bytes (n + bytes_given ask.gave) asks

-- the same of the calls that came since
pub record AsksWanted (p : IlProgram) (turns : ℕ) (old new : List Ask) (bytes : List ℕ) : Type 0 where
  pub added : List Ask
  pub grew : new ≡ old ++ added
  pub wanted : AreWanted p turns bytes 0 added

abbrev pub AsksWhereWanted : IlProgram → ℕ → Option (List Ask) → Option (List Ask) → List ℕ → Type 0
AsksWhereWanted p turns None new bytes = ⊤
AsksWhereWanted p turns (Some old) None bytes = ⊥
AsksWhereWanted p turns (Some old) (Some new) bytes = AsksWanted p turns old new bytes

-- the source is called at most once, where the program has come to a `getchar` for which no byte is ahead
abbrev pub AsksAtGet : IlProgram → Tables → Machine → Ahead → Option (List ℕ) → Option (List ℕ) → Option (List Ask) → Option (List Ask) → Type 0
AsksAtGet p t m ahead left left_now asks asks_now =
    ((left_now ≡ left) × (asks_now ≡ asks)) ⊎ (((register : ℕ) × ComesToGet p t m register) × AsksOnce ahead left left_now asks asks_now)
