-- Registers whose facts are carried from block to block.
use Rattle.std.specs.Prelude.{◌≡◌, ℕ, ◌+◌, ◌<◌, ◌≤◌, ◌||◌, ◌&&◌, Bool, true, false, not, List, [], ◌∷◌, Option, Some, None, length, option_map}
use Rattle.std.specs.Prelude.{slice_get, slice_index_or}
use Rattle.il_core.specs.declared.instr.Block.{Block}
use Rattle.il_core.specs.declared.instr.Instr.{Instr}
use Rattle.il_core.specs.Operands.{reads, writes, end_reads}
use Rattle.il_laws.specs.Facts.{Facts, any_writes, jumps_to}
use Rattle.const_prop.specs.Tables.{Has}

-- some instruction reads the register, and none before it writes it
abbrev pub is_exposed : List Instr → ℕ → Bool
is_exposed [] x = false
is_exposed (i ∷ is) x = reads i x || (not (writes i x) && is_exposed is x)

-- a block reads the word that the register has at its start: an instruction does, or the end, where nothing writes it before
abbrev pub needs : Block → ℕ → Bool
needs b x = is_exposed b.instrs x || (not (any_writes b.instrs x) && end_reads b.end x)

-- a number stands at a place of a list
pub record StandsIn (cs : List ℕ) (x : ℕ) : Type 0 where
  pub place : ℕ
  pub within : place < length cs
  pub is : slice_index_or cs place 0 ≡ x

-- the registers of a block
abbrev pub row_of : List (List ℕ) → ℕ → List ℕ
row_of rows b = slice_index_or rows b []

-- Of n registers, those are among a block's that it needs at its start, and those that a block has to which it jumps, if no
-- `loop` goes there, unless an instruction here writes them.
pub record Takes (n : ℕ) (looped : List Bool) (rows : List (List ℕ)) (block : Block) (mine : List ℕ) : Type 0 where
  pub needed : (x : ℕ) → x < n → needs block x ≡ true → StandsIn mine x
  pub passed : (t x : ℕ) → x < n → jumps_to block.end t ≡ true → slice_index_or looped t false ≡ false → any_writes block.instrs x ≡ false
      → StandsIn (row_of rows t) x → StandsIn mine x

-- the same, and no others than these n are among them
pub record IsTaken (n : ℕ) (looped : List Bool) (rows : List (List ℕ)) (block : Block) (mine : List ℕ) : Type 0 where
  pub inside : (i : ℕ) → i < length mine → slice_index_or mine i 0 < n
  pub takes : Takes n looped rows block mine

-- block b takes so from the blocks behind it
pub record TakesHere (n : ℕ) (looped : List Bool) (rows : List (List ℕ)) (b : ℕ) (block : Block) : Type 0 where
  pub needed : (x : ℕ) → x < n → needs block x ≡ true → StandsIn (row_of rows b) x
  pub passed : (t x : ℕ) → b < t → x < n → jumps_to block.end t ≡ true → slice_index_or looped t false ≡ false → any_writes block.instrs x ≡ false
      → StandsIn (row_of rows t) x
      → StandsIn (row_of rows b) x

-- each block does
pub record Carries (n : ℕ) (looped : List Bool) (rows : List (List ℕ)) (bs : List Block) : Type 0 where
  pub count : length rows ≡ length bs
  pub inside : (b i : ℕ) → i < length (row_of rows b) → slice_index_or (row_of rows b) i 0 < n
  pub takes : (b : ℕ) (x : Block) → slice_get bs b ≡ Some x → TakesHere n looped rows b x

-- the facts of these registers, by their places
abbrev pub placed : List ℕ → Facts → Facts
placed cs fs i = fs (slice_index_or cs i 0)

abbrev pub placed_if_some : List ℕ → Option Facts → Option Facts
placed_if_some cs o = option_map (placed cs) o

-- a table has these facts of these registers
abbrev pub Knows : List ℕ → List (Option ℕ) → Facts → Type 0
Knows cs t fs = (i : ℕ) → i < length cs → slice_index_or t (slice_index_or cs i 0) None ≡ fs (slice_index_or cs i 0)

-- a table has the facts that are kept by their places
abbrev pub Restores : List ℕ → List (Option ℕ) → List (Option ℕ) → Type 0
Restores cs kept t = (fs : Facts) → Has (length cs) kept (placed cs fs) → Knows cs t fs

abbrev pub RestoresIfSome : List ℕ → Option (List (Option ℕ)) → List (Option ℕ) → Type 0
RestoresIfSome cs None t = Knows cs t (λ x. None)
RestoresIfSome cs (Some kept) t = Restores cs kept t

-- so many numbers are b, and the others are as they were
pub record Filled (b : ℕ) (old new : List ℕ) (first count : ℕ) : Type 0 where
  pub size : length new ≡ length old
  pub inside : (x : ℕ) → first ≤ x → x < first + count → slice_index_or new x 0 ≡ b
  pub before : (x : ℕ) → x < first → slice_index_or new x 0 ≡ slice_index_or old x 0
  pub after : (x : ℕ) → first + count ≤ x → slice_index_or new x 0 ≡ slice_index_or old x 0

-- so many rows, all of which are empty
pub record AreEmpty (n : ℕ) (rows : List (List ℕ)) : Type 0 where
  pub size : length rows ≡ n
  pub at : (b : ℕ) → row_of rows b ≡ []
