-- The calls of a source, as they are noted.
use Rattle.std.specs.Prelude.{◌≡◌, ℕ, ◌+◌, List, [], ◌∷◌, ◌++◌, ⊤, Option, Some, None, Result, Ok, Err}
use Rattle.outside.specs.declared.source.Ask.{Ask}

-- how many bytes a call gave; one that failed gave none
abbrev pub bytes_given : Option ℕ → ℕ
bytes_given None = 0
bytes_given (Some n) = n

-- how many bytes some calls gave in all
abbrev pub given : List Ask → ℕ
given [] = 0
given (ask ∷ asks) = bytes_given ask.gave + given asks

-- what a call gave, or that it failed
abbrev pub gave_of : {E : Type 0} → Result ℕ E → Option ℕ
gave_of (Ok n) = Some n
gave_of (Err e) = None

-- a call that comes after some others
abbrev pub next_ask : {E : Type 0} → List Ask → Result ℕ E → Ask
next_ask asks r = record { before = given asks; gave = gave_of r }

-- the calls that are told grow by this one
abbrev pub NotesAsk : {E : Type 0} → Option (List Ask) → Option (List Ask) → Result ℕ E → Type 0
NotesAsk None new r = ⊤
NotesAsk (Some old) None r = ⊥
NotesAsk (Some old) (Some new) r = new ≡ old ++ next_ask old r ∷ []
