-- One induction for all changes of blocks: on the turns left, and then on the blocks left.
use Rattle.std.proofs.Common.{◌≡◌, ℕ, zero, suc, ◌+◌, ◌<◌, ◌≤◌, refl, arith}
use Rattle.il_core.specs.World.{World, OutOfTurns, ended, turn_at}
use Rattle.il_core.specs.Meaning.{Frame, Next}
use Rattle.il_laws.specs.Runs.{turned}

-- where related, with at most m turns left, the two do the same
abbrev pub Related : Type 1
Related = Frame → Frame → Type 0

pub record Agree {S : Type 0} (m : ℕ) (rel : Related) (a b : Next S) : Type 0 where
  pub by : (f g : Frame) (w : World S) → w.turns ≤ m → rel f g → a f w ≡ b g w

-- the numbers of blocks and the registers before and after a change
abbrev pub Relation : Type 1
Relation = ℕ → ℕ → Frame → Frame → Type 0

module _ {S : Type 0} where
  agree_turn_at : (m : ℕ) (rel : Related) (a b : Next S) → ((k : ℕ) → k < m → Agree k rel a b) → (f g : Frame) → rel f g → (w : World S) (u : ℕ)
      → u ≤ m → turn_at (ended OutOfTurns w) (λ w1. a f w1) w u ≡ turn_at (ended OutOfTurns w) (λ w1. b g w1) w u
  agree_turn_at m rel a b h f g r w zero le = refl
  agree_turn_at m rel a b h f g r w (suc u) le = (h u (omega arith)).by f g (record w { turns = u }) (omega arith) r

  -- One induction for all changes: on the turns left, and then on the blocks left of the first run. What is to be shown
  -- of related places may use that related later places agree, and related places after a turn.
  module _ (top bound : ℕ) (a b : ℕ → Next S) (rel : Relation)
      (inside : (t t1 : ℕ) (f g : Frame) → rel t t1 f g → t < bound)
      (one : (m t t1 : ℕ) → m ≤ top → ((u u1 : ℕ) → t < u → Agree m (rel u u1) (a u) (b u1))
      → ((u u1 : ℕ) → Agree m (rel u u1) (turned a u) (turned b u1)) → Agree m (rel t t1) (a t) (b t1)) where
    agree_from : (m left t t1 : ℕ) → m ≤ top → bound ≤ t + left → ((k : ℕ) → k < m → (u u1 : ℕ) → Agree k (rel u u1) (a u) (b u1))
        → Agree m (rel t t1) (a t) (b t1)
    agree_from m zero t t1 most le before = record { by = λ f g w wm r. let lt = inside t t1 f g r in absurd (omega arith) }
    agree_from m (suc left) t t1 most le before =
        one m t t1 most (λ u u1 lt. agree_from m left u u1 most (omega arith) before)
        (λ u u1. record { by = λ f g w wm r. agree_turn_at m (rel u u1) (a u) (b u1) (λ k lt. before k lt u u1) f g r w w.turns wm })

    agree_below : (m k : ℕ) → k < m → k ≤ top → (t t1 : ℕ) → Agree k (rel t t1) (a t) (b t1)
    agree_below zero k lt most t t1 = absurd (omega arith)
    agree_below (suc m) k lt most t t1 = agree_from k bound t t1 most (omega arith) (λ l ll u u1. agree_below m l (omega arith) (omega arith) u u1)

    pub related_agree : (t t1 : ℕ) → Agree top (rel t t1) (a t) (b t1)
    related_agree t t1 = agree_below (suc top) top (omega arith) (omega arith) t t1
