-- The input and the output of a run, some bytes of which are kept on the way.
use Rattle.std.specs.Prelude.{◌≡◌, ◌<◌, ◌++◌, ◌⊎◌, ℕ, Bool, false, ◌≤◌, List, [], ◌∷◌, length, take, drop, Option, Result, MatchResult, MatchOption, ⊤}
use Rattle.std.specs.Prelude.{Some, None}
use Rattle.std.specs.Io.KnownBytes.{Appends, Consumes, IsAtEnd, Keeps}
use Rattle.std.specs.List.{AllByRecursion}
use Rattle.outside.specs.Asks.{bytes_given}
use Rattle.outside.specs.Faults.{Rose}
use Rattle.outside.specs.declared.source.Ask.{Ask}
use Rattle.il_run.specs.declared.ending.RunFault.{RunFault}
use Rattle.il_run.specs.declared.ending.RunFault.TheVariants as fault
use Rattle.il_run.specs.declared.input.Ahead.{Ahead}

-- the bytes that were given and not yet used
abbrev pub ahead : Ahead → List ℕ
ahead a = drop a.next (take a.end a.block.items)

pub record IsAhead (a : Ahead) : Type 0 where
  pub order : a.next ≤ a.end
  pub within : a.end ≤ length a.block.items
  pub room : length a.block.items ≡ 4096

-- the next byte is the first of those left, none comes only at the end, and a failure uses none
abbrev pub GivesNext : {E : Type 0} → Option (List ℕ) → Option (List ℕ) → Result (Option ℕ) E → Type 0
GivesNext old new r = MatchResult r (λ o. MatchOption o (IsAtEnd old × IsAtEnd new × Keeps old new) (λ b. Consumes old new (b ∷ []))) (λ _. Keeps old new)

-- the sink gained a front of some bytes
pub record GainsFront (old new : Option (List ℕ)) (bytes : List ℕ) : Type 0 where
  pub count : ℕ
  pub gained : Appends old new (take count bytes)

-- a fault of the output: the sink's count rose, or memory ran out
abbrev pub IsOutputFault : RunFault → ℕ → ℕ → Type 0
IsOutputFault fault.Output before now = Rose before now
IsOutputFault fault.Memory before now = ⊤
IsOutputFault fault.Input before now = ⊥

-- a call that gave some bytes
abbrev pub GaveSome : Ask → Type 0
GaveSome a = 0 < bytes_given a.gave

-- every call but the last one gave some bytes: none follows one that failed or that came at the end
abbrev pub AllButLastGave : List Ask → Type 0
AllButLastGave [] = ⊤
AllButLastGave (a ∷ []) = ⊤
AllButLastGave (a ∷ b ∷ rest) = GaveSome a × AllButLastGave (b ∷ rest)

-- the calls that came since
pub record AsksMore (old new : List Ask) : Type 0 where
  pub added : List Ask
  pub grew : new ≡ old ++ added
  pub gave : AllButLastGave added

-- where a source tells its calls, none that came since follows one that gave nothing
abbrev pub AsksInTurn : Option (List Ask) → Option (List Ask) → Type 0
AsksInTurn None new = ⊤
AsksInTurn (Some old) None = ⊥
AsksInTurn (Some old) (Some new) = AsksMore old new

-- the same while the run goes on: all gave some, unless the end was met
pub record Asking (old new : List Ask) (ended : Bool) : Type 0 where
  pub added : List Ask
  pub grew : new ≡ old ++ added
  pub gave : AllButLastGave added
  pub all : ended ≡ false → AllByRecursion GaveSome added

abbrev pub AsksSo : Option (List Ask) → Option (List Ask) → Bool → Type 0
AsksSo None new ended = ⊤
AsksSo (Some old) None ended = ⊥
AsksSo (Some old) (Some new) ended = Asking old new ended

-- a call of the source that gave so many bytes was noted, where calls are told
abbrev pub NotesGiven : Option (List Ask) → Option (List Ask) → ℕ → Type 0
NotesGiven None asks n = ⊤
NotesGiven (Some old) None n = ⊥
NotesGiven (Some old) (Some new) n = (ask : Ask) × (new ≡ old ++ ask ∷ []) × (bytes_given ask.gave ≡ n)

-- so many bytes are gone, where bytes are told
abbrev pub IsGiven : Option (List ℕ) → Option (List ℕ) → ℕ → Type 0
IsGiven None left n = ⊤
IsGiven (Some old) None n = ⊥
IsGiven (Some old) (Some new) n = (n ≤ length old) × (new ≡ drop n old)

-- the source was called once, where no byte was ahead and the end wasn't met
pub record AsksOnce (ahead : Ahead) (left left_now : Option (List ℕ)) (asks asks_now : Option (List Ask)) : Type 0 where
  pub empty : ahead.next ≡ ahead.end
  pub open_yet : ahead.ended ≡ false
  pub count : ℕ
  pub noted : NotesGiven asks asks_now count
  pub given : IsGiven left left_now count

-- the source was called so once or not at all
abbrev pub AsksOnceAtMost : Ahead → Option (List ℕ) → Option (List ℕ) → Option (List Ask) → Option (List Ask) → Type 0
AsksOnceAtMost ahead left left_now asks asks_now = ((left_now ≡ left) × (asks_now ≡ asks)) ⊎ AsksOnce ahead left left_now asks asks_now

-- a call of the source failed: no byte was ahead, and the end wasn't met
pub record FailsAt (old new : Ahead) : Type 0 where
  pub before : old.next ≡ old.end
  pub now : new.next ≡ new.end
  pub open_yet : old.ended ≡ false
