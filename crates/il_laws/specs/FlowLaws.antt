-- What facts, live registers and reachable blocks are, in other words than their step by step definitions.
use Rattle.std.specs.Prelude.{◌≡◌, ◌≢◌, ℕ, ◌<◌, Bool, true, false, List, Some, slice_get}
use Rattle.std.specs.List.{AllByRecursion}
use Rattle.il_core.specs.declared.instr.Block.{Block}
use Rattle.il_core.specs.declared.shape.ShapeRow.{ShapeRow}
use Rattle.il_core.specs.Routine.{RoutineParts}
use Rattle.il_core.specs.Valid.{IsValid}
use Rattle.il_core.specs.Operands.{targets}
use Rattle.il_laws.specs.Facts.{through, looped, jumps_to, facts_at}
use Rattle.il_laws.specs.Live.{live_through, live_at_end, live_at}
use Rattle.il_laws.specs.Unreachable.{reachable}

-- block t, which is before block b, jumps to it
pub record Jumper (r : RoutineParts) (b t : ℕ) : Type 0 where
  pub block : Block
  pub is : slice_get r.blocks t ≡ Some block
  pub earlier : t < b
  pub jumps : jumps_to block.end b ≡ true

-- what is known at the end of each block that jumps to block b
pub record AllKnow (r : RoutineParts) (b x v : ℕ) : Type 0 where
  pub by : (t : ℕ) (j : Jumper r b t) → through j.block.instrs (facts_at r t) x ≡ Some v

pub record SomeJumper (r : RoutineParts) (b : ℕ) : Type 0 where
  pub at : ℕ
  pub jumper : Jumper r b at

-- At a block but the first to which no `loop` goes, a register has a word exactly where some block jumps there, and at
-- the end of each that does the register has that word.
abbrev pub FactsMeet : Type 0
FactsMeet = (r : RoutineParts) (b x v : ℕ) → b ≢ 0 → looped r.blocks b ≡ false
    → (facts_at r b x ≡ Some v → SomeJumper r b × AllKnow r b x v) × (SomeJumper r b → AllKnow r b x v → facts_at r b x ≡ Some v)

-- what is live at the start of a block goes backwards through it from what is live at its end
abbrev pub LiveFlows : Type 0
LiveFlows = (rows : List ShapeRow) (r : RoutineParts) → IsValid rows r → (t : ℕ) (y : Block) → slice_get r.blocks t ≡ Some y
    → (x : ℕ) → live_at r.blocks t x ≡ live_through y.instrs (live_at_end r.blocks (live_at r.blocks) y.end) x

-- a set of blocks that has block 0, and each block to which one of its blocks goes
pub record IsClosedSet (r : RoutineParts) (P : ℕ → Type 0) : Type 0 where
  pub first : P 0
  pub goes : (t : ℕ) (y : Block) → slice_get r.blocks t ≡ Some y → P t → AllByRecursion P (targets y.end)

-- the reachable blocks are the least such set
abbrev pub ReachableIsLeast : Type 0
ReachableIsLeast = (rows : List ShapeRow) (r : RoutineParts) → IsValid rows r
    → IsClosedSet r (λ t. slice_get (reachable r.blocks) t ≡ Some true)
    × ((set : ℕ → Bool) → IsClosedSet r (λ t. set t ≡ true) → (t : ℕ) → slice_get (reachable r.blocks) t ≡ Some true → set t ≡ true)
