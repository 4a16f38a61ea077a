-- What each step tells the pass that makes it.
use Rattle.std.specs.Prelude.{◌≡◌, ◌≢◌, ℕ, ◌+◌, ◌-◌, ◌/◌, ◌%◌, ◌^◌, ◌<◌, ◌≤◌, List, [], ◌∷◌, Option, Some, None, true, false}
use mathlib.Core.Option.{some}
use Rattle.atomic_table.specs.Table.{Step}
use Rattle.named_lock.specs.declared.view.View.{View}
use Rattle.named_lock.specs.declared.view.Intent.{Intent}
use Rattle.named_lock.specs.declared.view.Held.{Held}
use Rattle.named_lock.specs.Known.{knows}
use Rattle.named_lock.specs.Rules.{Stands}
use Rattle.named_lock.specs.Slot.{at_rest, note_or, filled}
use Rattle.named_lock.specs.Keeps.{Mine, known_of, place_of}

module _ {M S N : Type 0} where
  -- the pass has taken the state x
  abbrev pub with_turn : S → Option (View M S N) → Option (View M S N)
  with_turn x None = None
  with_turn x (Some k) = Some record k { known = record k.known { taken = Some x }; closing = false }

  -- the turn was won with the state, and the pass has the slot
  pub record IsWon (holds : M → S → List (Option N) → Type 0) (v : Option (View M S N)) (after : Mine M S N) : Type 0 where
    pub held : Held S N
    pub state : S
    pub full : held.state ≡ Some state
    pub has : after ≡ (with_turn state v, (0, held) ∷ [])
    pub rule : Stands holds (place_of v) (known_of v) state

  -- a try to win the turn, of a word that was seen even
  abbrev pub Tries : (M → S → List (Option N) → Type 0) → Step (Held S N) → Mine M S N → ℕ → Mine M S N → Type 0
  Tries holds st me found after = (found ≢ st.first → after ≡ me) × (found ≡ st.first → IsWon holds me.0 after)

  -- the pass has given, as the g-th give of all, and leaves the note n
  abbrev pub with_note : N → ℕ → Option (View M S N) → Option (View M S N)
  with_note n g None = None
  with_note n g (Some k) = Some record k { known = record k.known { note = n; taken = None }; closing = false; given = g; seen = g }

  -- how many gives a pass has seen at its last give, and since
  abbrev pub given_at : Option (View M S N) → ℕ
  given_at None = 0
  given_at (Some k) = k.given

  abbrev pub seen_at : Option (View M S N) → ℕ
  seen_at None = 0
  seen_at (Some k) = k.seen

  -- the state went home, and the pass has its new note
  pub record IsGiven (v : Option (View M S N)) (note : N) (found : ℕ) (after : Mine M S N) : Type 0 where
    pub gives : ℕ
    pub count : (found / 2 + 1) % 2 ^ 63 ≡ gives % 2 ^ 63
    pub more : seen_at v < gives
    pub has : after ≡ (with_note note gives v, [])

  abbrev pub Leaves : Step (Held S N) → Mine M S N → ℕ → Mine M S N → Type 0
  Leaves st me found after = (x : S) (n : N) → me.1 ≡ (0, filled x n) ∷ [] → IsGiven me.0 n found after

  -- the pass was told what it is to do
  abbrev pub with_intent : Intent N → Option (View M S N) → Option (View M S N)
  with_intent t None = None
  with_intent t (Some k) = Some record k { intent = t }

  abbrev pub IsTold : Step (Held S N) → Mine M S N → ℕ → Mine M S N → Type 0
  IsTold st me found after = (h : Held S N) → st.said ≡ some h → after ≡ (with_intent h.intent me.0, me.1)

  -- a new pass knows its number, and how many gives there have been as it was made
  abbrev pub with_number : ℕ → ℕ → Option (View M S N) → Option (View M S N)
  with_number j g None = None
  with_number j g (Some k) = Some record k { number = Some j; given = g; seen = g }

  pub record HasArrived (v : Option (View M S N)) (carried : List (ℕ × Held S N)) (found : ℕ) (after : Mine M S N) : Type 0 where
    pub number : ℕ
    pub gives : ℕ
    pub count : found / 2 ≡ gives % 2 ^ 63
    pub more : seen_at v ≤ gives
    pub has : after ≡ (with_number number gives v, carried)

  abbrev pub Arrives : Step (Held S N) → Mine M S N → ℕ → Mine M S N → Type 0
  Arrives st me found after = HasArrived me.0 me.1 found after

  -- the pass knows how many gives there have been
  abbrev pub with_seen : ℕ → Option (View M S N) → Option (View M S N)
  with_seen g None = None
  with_seen g (Some k) = Some record k { seen = g }

  pub record HasLooked (v : Option (View M S N)) (carried : List (ℕ × Held S N)) (found : ℕ) (after : Mine M S N) : Type 0 where
    pub gives : ℕ
    pub count : found / 2 ≡ gives % 2 ^ 63
    pub more : given_at v ≤ gives
    pub has : after ≡ (with_seen gives v, carried)

  abbrev pub LooksAgain : Step (Held S N) → Mine M S N → ℕ → Mine M S N → Type 0
  LooksAgain st me found after = HasLooked me.0 me.1 found after

  -- the slot is home without the state, and the pass keeps the turn
  abbrev pub with_close : Option (View M S N) → Option (View M S N)
  with_close None = None
  with_close (Some k) = Some record k { closing = true }

  abbrev pub PutsHome : Step (Held S N) → Mine M S N → ℕ → Mine M S N → Type 0
  PutsHome st me found after = after ≡ (with_close me.0, [])

  -- the pass that is split, after it
  abbrev pub left_of : Option (View M S N) → Option (View M S N)
  left_of None = None
  left_of (Some k) = Some record k { known = record k.known { note = note_or k.intent.mine k.known.note; share = k.known.share - k.intent.share } }

  -- the new pass; it learns its number by its first look
  abbrev pub right_of : Option (View M S N) → Option (View M S N)
  right_of None = None
  right_of (Some k) = Some record {
    known = knows k.known.name (note_or k.intent.other k.known.note) k.intent.share k.known.all;
    number = None;
    given = k.seen;
    seen = k.seen;
    closing = false;
    intent = at_rest;
  }

  -- the pass that takes in another
  abbrev pub both_of : Option (View M S N) → Option (View M S N) → Option (View M S N)
  both_of None w = None
  both_of (Some k) None = Some k
  both_of (Some k) (Some l) = Some record k { known = record k.known { note = note_or k.intent.mine k.known.note; share = k.known.share + l.known.share } }
