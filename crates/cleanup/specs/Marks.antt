-- Blocks marked one after the other.
use Rattle.std.specs.Prelude.{◌≡◌, ℕ, ◌<◌, ◌++◌, Bool, true, false, List, [], ◌∷◌, Some, length, slice_get, slice_index_or, slice_set, if◌then◌else◌}
use Rattle.std.specs.List.{AllByRecursion}
use Rattle.il_core.specs.declared.instr.Block.{Block}
use Rattle.il_core.specs.declared.instr.End.{End}
use Rattle.il_core.specs.Operands.{targets}
use Rattle.il_laws.specs.Renumber.{place_of}

-- the blocks that an end names are among so many
abbrev pub NamesBlocks : ℕ → End → Type 0
NamesBlocks n e = AllByRecursion (λ t. t < n) (targets e)

abbrev pub EndsName : ℕ → List Block → Type 0
EndsName n bs = AllByRecursion (λ b. NamesBlocks n b.end) bs

-- blocks marked, in their order
abbrev pub seen : List ℕ → List Bool → List Bool
seen [] ms = ms
seen (t ∷ ts) ms = seen ts (slice_set ms t true)

-- a block noted where it wasn't marked
abbrev pub noted : ℕ → List Bool → List ℕ → List ℕ
noted t ms fs = if slice_index_or ms t false then fs else fs ++ t ∷ []

abbrev pub noted_all : List ℕ → List Bool → List ℕ → List ℕ
noted_all [] ms fs = fs
noted_all (t ∷ ts) ms fs = noted_all ts (slice_set ms t true) (noted t ms fs)

-- a set of blocks that has block 0, and each block to which one of its blocks goes
pub record IsClosed (bs : List Block) (set : ℕ → Bool) : Type 0 where
  pub first : set 0 ≡ true
  pub goes : (t : ℕ) (y : Block) → slice_get bs t ≡ Some y → set t ≡ true → AllByRecursion (λ u. set u ≡ true) (targets y.end)

-- marks of the least such set
pub record AreLeast (bs : List Block) (ms : List Bool) : Type 0 where
  pub size : length ms ≡ length bs
  pub closed : IsClosed bs (λ t. slice_index_or ms t false)
  pub least : (set : ℕ → Bool) → IsClosed bs set → (t : ℕ) → slice_index_or ms t false ≡ true → set t ≡ true

-- by block, how many marked ones stand before it
pub record ArePlaces (ms : List Bool) (ps : List ℕ) : Type 0 where
  pub size : length ps ≡ length ms
  pub at : (t : ℕ) → t < length ms → slice_index_or ps t 0 ≡ place_of ms t
