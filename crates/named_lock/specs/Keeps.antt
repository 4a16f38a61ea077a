-- The rule of the table under a lock. Word 0 is twice the number of gives, modulo 2^64, and one more while the turn is out. Slot 0 has the state or nothing.
use Rattle.std.specs.Prelude.{◌≡◌, ℕ, ◌/◌, ◌%◌, ◌^◌, ◌≤◌, List, map, length, slice_index, Option, Some, None, ⊤, Bool, true, false, unwrap_or}
use mathlib.Core.Option as base
use mathlib.Core.Option.{some}
use lib.ListN.{get_elem?}
use Rattle.atomic_table.specs.Table.{State, Me}
use Rattle.named_lock.specs.declared.view.Known.{Known}
use Rattle.named_lock.specs.declared.view.View.{View}
use Rattle.named_lock.specs.declared.view.Held.{Held}
use Rattle.named_lock.specs.declared.view.Founding.{Founding}
use Rattle.named_lock.specs.Known.{knows, notes_of, AreAllPasses}
use Rattle.named_lock.specs.Slot.{at_rest, empty}

module _ {M S N : Type 0} where
  abbrev pub known_of : Option (View M S N) → Option (Known M S N)
  known_of None = None
  known_of (Some k) = Some k.known

  -- the pass's number, where it knows it
  abbrev pub place_of : Option (View M S N) → ℕ
  place_of None = 0
  place_of (Some k) = unwrap_or k.number 0

  -- all passes, by number
  abbrev pub passes_of : List (Option (View M S N)) → List (Option (Known M S N))
  passes_of = map known_of

-- the first pass, which has all shares
abbrev pub founder : {M S N : Type 0} → Founding M N → Option (View M S N)
founder f = Some record { known = knows f.name f.note f.shares f.shares; number = Some 0; given = 0; seen = 0; closing = false; intent = at_rest }

-- the lock at one moment, but for its passes: the state, wherever it is, the number of the pass that has the turn, where one has it, how many gives
-- there have been, the word and the slot
pub record Moment (S N : Type 0) : Type 0 where
  pub state : S
  pub holder : ℕ
  pub gives : ℕ
  pub word : ℕ
  pub slots : List (base.Option (Held S N))

-- a number that the pass j takes for its own
abbrev pub FitsNumber : ℕ → Option ℕ → Type 0
FitsNumber j None = ⊤
FitsNumber j (Some n) = n ≡ j

module _ {S N : Type 0} where
  -- while nobody has the turn, the slot is at home with the state
  abbrev pub IsHome : Moment S N → Type 0
  IsHome m = (h : Held S N) × (get_elem? m.slots 0 ≡ some (some h)) × (h.state ≡ Some m.state)

  pub record IsMoment (m : Moment S N) : Type 0 where
    pub one : length m.slots ≡ 1
    pub count : m.word / 2 ≡ m.gives % 2 ^ 63
    pub free : m.word % 2 ≡ 0 → IsHome m

  -- only the holder has the turn, and it knows the state as it was taken. Where it closes the lock, the slot is home without it
  abbrev pub FitsTurn : Moment S N → ℕ → Bool → Option S → Type 0
  FitsTurn m j closing None = ⊤
  FitsTurn m j closing (Some x) = (x ≡ m.state) × (m.word % 2 ≡ 1) × (j ≡ m.holder) × (closing ≡ true → get_elem? m.slots 0 ≡ some (some empty))

-- what the pass j knows is so
pub record FitsView {M S N : Type 0} (m : Moment S N) (j : ℕ) (k : View M S N) : Type 0 where
  pub number : FitsNumber j k.number
  pub given : k.given ≤ m.gives
  pub seen : k.seen ≤ m.gives
  pub turn : FitsTurn m j k.closing k.known.taken

abbrev pub FitsPass : {M S N : Type 0} → Moment S N → ℕ → Option (View M S N) → Type 0
FitsPass m j None = ⊤
FitsPass m j (Some k) = FitsView m j k

-- the moment that a table shows, beside what no word or slot of it has
abbrev pub moment : {S N V : Type 0} → S → ℕ → ℕ → State (Held S N) V → Moment S N
moment x holder gives s = record { state = x; holder = holder; gives = gives; word = slice_index s.words 0; slots = s.homes }

pub record Keeps {M S N : Type 0} (holds : M → S → List (Option N) → Type 0) (name : M) (all : ℕ) (s : State (Held S N) (Option (View M S N))) : Type 0 where
  pub state : S
  pub holder : ℕ
  pub gives : ℕ
  pub wide : length s.words ≡ 1
  pub rule : holds name state (notes_of (passes_of s.views))
  pub passes : AreAllPasses name all (passes_of s.views)
  pub sound : IsMoment (moment state holder gives s)
  pub fits : (j : ℕ) (v : Option (View M S N)) → get_elem? s.views j ≡ some v → FitsPass (moment state holder gives s) j v

-- a pass as the table has it: what it knows, and the slots that are out with it
abbrev pub Mine : Type 0 → Type 0 → Type 0 → Type 0
Mine M S N = Me (Held S N) (Option (View M S N))
