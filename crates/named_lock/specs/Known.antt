-- What a pass knows, and what the calls of the lock make of it. An ended pass knows nothing.
use Rattle.std.specs.Prelude.{◌≡◌, ℕ, ◌+◌, ◌-◌, ◌<◌, List, [], ◌∷◌, map, Option, Some, None, Bool, true, false}
use mathlib.Core.Option.{some}
use lib.ListN.{get_elem?}
use Rattle.named_lock.specs.declared.view.Known.{Known}

module _ {M S N : Type 0} where
  -- what a pass without the turn knows: the lock's name, its own note and share, and the lock's shares
  abbrev pub knows : M → N → ℕ → ℕ → Known M S N
  knows name note share all = record { name = name; note = note; share = share; all = all; taken = None }

  abbrev pub is_live : Option (Known M S N) → Bool
  is_live None = false
  is_live (Some k) = true

  abbrev pub note_of : Option (Known M S N) → Option N
  note_of None = None
  note_of (Some k) = Some k.note

  abbrev pub share_of : Option (Known M S N) → ℕ
  share_of None = 0
  share_of (Some k) = k.share

  -- the shares of the lock
  abbrev pub all_of : Option (Known M S N) → ℕ
  all_of None = 0
  all_of (Some k) = k.all

  -- the state as it was taken, where the pass has the turn
  abbrev pub taken_of : Option (Known M S N) → Option S
  taken_of None = None
  taken_of (Some k) = k.taken

  -- after a take of the state x
  abbrev pub turned_to : S → Option (Known M S N) → Option (Known M S N)
  turned_to x None = None
  turned_to x (Some k) = Some record k { taken = Some x }

  -- after a give that left the note n
  abbrev pub noted : N → Option (Known M S N) → Option (Known M S N)
  noted n None = None
  noted n (Some k) = Some record k { note = n; taken = None }

  -- after a split that moved that share away and left the note n
  abbrev pub lessened : ℕ → N → Option (Known M S N) → Option (Known M S N)
  lessened share n None = None
  lessened share n (Some k) = Some record k { note = n; share = k.share - share }

  -- the pass that was split off, with that share and the note n
  abbrev pub split_off : ℕ → N → Option (Known M S N) → Option (Known M S N)
  split_off share n None = None
  split_off share n (Some k) = Some (knows k.name n share k.all)

  -- after an end that took in the second pass and left the note n
  abbrev pub merged : N → Option (Known M S N) → Option (Known M S N) → Option (Known M S N)
  merged n None w = None
  merged n (Some k) None = None
  merged n (Some k) (Some l) = Some record k { note = n; share = k.share + l.share }

  -- the notes of all passes, by pass number
  abbrev pub notes_of : List (Option (Known M S N)) → List (Option N)
  notes_of = map note_of

  abbrev pub shares_of : List (Option (Known M S N)) → ℕ
  shares_of [] = 0
  shares_of (v ∷ vs) = share_of v + shares_of vs

  -- All passes that a lock has had, by pass number: the live ones have its shares among them, so none of them is left out
  pub record AreAllPasses (name : M) (all : ℕ) (passes : List (Option (Known M S N))) : Type 0 where
    pub shares : shares_of passes ≡ all
    pub each : (j : ℕ) (k : Known M S N) → get_elem? passes j ≡ some (Some k) → (k.name ≡ name) × (k.all ≡ all) × (0 < k.share)
