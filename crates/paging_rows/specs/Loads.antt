-- What the rows of the loader know of it between two calls.
use Rattle.std.specs.Prelude.{◌≡◌, ◌<◌, ℕ, Bool, true, false, List, [], ◌∷◌, length, nat_eq, Option, None}
use Rattle.naim_core.specs.Rows
use Rattle.naim_core.specs.State.{Core, empty_hand}
use Rattle.naim_core.specs.declared.event.Form.{Form}
use Rattle.naim_core.specs.declared.pool.Stage.{Stage}
use Rattle.naim_loader.specs.declared.forms.Draft.{Draft}
use Rattle.naim_loader.specs.declared.forms.Move.{Move}
use Rattle.naim_loader.specs.Calls.{ComesBack, disk_of}
use Rattle.naim_loader.specs.Drafts.{draft_form, draft_value}
use Rattle.naim_loader.specs.Paged.{Paged, kept_at}

-- no failure is kept, and the disk is at home
pub record IsCalm {T B D : Type 0} (l : Paged T B D) : Type 0 where
  pub running : l.core.failure ≡ None
  pub disk : l.core.disk ≡ None
  pub home : l.home ≡ true

-- the state with one pool more, in that form, with that charge and that compact length
abbrev pub with_pool : Core → ℕ → Form → ℕ → ℕ → Core
with_pool s p f e c = record s { pools = (p, Rows.inserted f e c) ∷ s.pools }

-- a new pool is in, and no other came
pub record Puts {T B D : Type 0} (charge : T → ℕ) (spell : T → List ℕ) (old new : Paged T B D) (p : ℕ) (d : Draft T) : Type 0 where
  pub calm : IsCalm new
  pub core : new.core ≡ with_pool old.core p (draft_form d) (charge (draft_value d)) (length (spell (draft_value d)))
  pub absent : (q : ℕ) → nat_eq p q ≡ false → kept_at old q ≡ None → kept_at new q ≡ None

-- a move that has begun can go to `fail`, and the disk is at home then
pub record CanFail {T B D : Type 0} (reach : D → ℕ) (honest : D → Bool) (l : Paged T B D) (m : Move T D) : Type 0 where
  pub worker : 0 < length l.core.hands
  pub comes : ComesBack reach honest l (disk_of m)
  pub home : disk_of m ≡ None → l.home ≡ true

-- of 300 bytes and two workers: pool 0 alone is there, at that stage, the first worker reads what `reads` says, and the
-- other has nothing
abbrev pub one_of_two : Stage → Option ℕ → ℕ → ℕ → Core
one_of_two st reads e c = record {
  limit = 300;
  pools = (0, record { stage = st; e = e; c = c }) ∷ [];
  hands = record empty_hand { read = reads } ∷ empty_hand ∷ [];
  in_wave = false;
  tasks = [];
  unclaimed = [];
  done = [];
  disk = None;
  failure = None;
}

-- it is such a state, with some charge and some compact length
pub record OneOfTwo (s : Core) (st : Stage) (reads : Option ℕ) : Type 0 where
  pub charge : ℕ
  pub len : ℕ
  pub is : s ≡ one_of_two st reads charge len
