-- Words for a pass and its lock.
use Rattle.std.specs.Prelude.{◌≡◌, ℕ, ◌%◌, ◌^◌, List, [], ◌∷◌, Option, Some, None, Bool, true, false, is_some}
use Rattle.atomic_table.specs.Seated.{TableId}
use Rattle.named_lock.specs.declared.view.Known.{Known}
use Rattle.named_lock.specs.declared.view.View.{View}
use Rattle.named_lock.specs.declared.view.Held.{Held}
use Rattle.named_lock.specs.declared.turnstile.Token.{Token}
use Rattle.named_lock.specs.declared.turnstile.Turnstile.{Turnstile}
use Rattle.named_lock.specs.Known.{taken_of}
use Rattle.named_lock.specs.Slot.{empty}
use Rattle.named_lock.specs.Keeps.{known_of, place_of}
use Rattle.named_lock.specs.Steps.{given_at, seen_at}

-- what tells a lock from all others
abbrev pub id_of : {S V K P : Type 0} → Turnstile S V K P → TableId
id_of lock = lock.table.shared.table_id

-- the slots that are out with a pass: the lock's one slot, without the state, where the pass has the turn
abbrev pub out_with : {S N : Type 0} → Option S → List (ℕ × Held S N)
out_with None = []
out_with (Some x) = (0, empty) ∷ []

module _ {M S N : Type 0} where
  -- what the pass knows
  abbrev pub view_of : Token (Held S N) (Option (View M S N)) → Option (Known M S N)
  view_of p = known_of p.seat.me.0

  -- the pass's number, which is its place in the list of notes
  abbrev pub number_of : Token (Held S N) (Option (View M S N)) → ℕ
  number_of p = place_of p.seat.me.0

  -- how many gives the lock had had when the pass last gave, or when it was made
  abbrev pub given_of : Token (Held S N) (Option (View M S N)) → ℕ
  given_of p = given_at p.seat.me.0

  -- how many gives of the lock the pass has seen
  abbrev pub seen_of : Token (Held S N) (Option (View M S N)) → ℕ
  seen_of p = seen_at p.seat.me.0

  -- a live pass that knows its number
  abbrev pub is_placed : Option (View M S N) → Bool
  is_placed None = false
  is_placed (Some k) = is_some k.number

  -- it is a live pass of this lock, between two calls
  pub record IsPassOf {V K P : Type 0} (lock : Turnstile (Held S N) V K P) (p : Token (Held S N) (Option (View M S N))) : Type 0 where
    pub same : p.seat.table_id ≡ id_of lock
    pub placed : is_placed p.seat.me.0 ≡ true
    pub slots : p.seat.me.1 ≡ out_with (taken_of (view_of p))
    pub given : p.given ≡ given_of p % 2 ^ 63
