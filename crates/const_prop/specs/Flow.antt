-- Facts on their way from block to block.
use Rattle.std.specs.Prelude.{◌≡◌, ◌≢◌, ℕ, ◌<◌, ◌≤◌, ◌||◌, Bool, true, false, List, [], Option, Some, None, length, slice_index_or, ⊤, nat_lt}
use Rattle.std.specs.Prelude.{if◌then◌else◌, option_map}
use Rattle.il_core.specs.declared.instr.Block.{Block}
use Rattle.il_core.specs.declared.instr.End.{End}
use Rattle.il_core.specs.Routine.{RoutineParts}
use Rattle.il_laws.specs.Facts.{Facts, looped, written, jumps_to, both_know, meet, arriving, before}
use Rattle.const_prop.specs.Carried.{Carries, Knows, RestoresIfSome, placed, placed_if_some, row_of}
use Rattle.const_prop.specs.Tables.{facts_in, Has, AreMarks}
use Rattle.const_prop.specs.declared.flow.Flow.{Flow}

-- the facts of a table that may be missing
abbrev pub facts_of : Option (List (Option ℕ)) → Option Facts
facts_of o = option_map facts_in o

-- a table has these facts of the first n registers, where there are some, and is missing where there are none
abbrev pub HasIfSome : ℕ → Option (List (Option ℕ)) → Option Facts → Type 0
HasIfSome n None None = ⊤
HasIfSome n (Some t) None = ⊥
HasIfSome n None (Some fs) = ⊥
HasIfSome n (Some t) (Some fs) = Has n t fs

-- at a block to which some `loop` goes, registers that aren't parameters and that no instruction writes are known, as 0
abbrev pub quiet : ℕ → List Bool → Facts
quiet params written x = if nat_lt x params || slice_index_or written x false then None else Some 0

-- at the first block all registers but parameters are known, as 0
abbrev pub zeros : ℕ → Facts
zeros params x = if nat_lt x params then None else Some 0

-- what arrives at a block, where a block with this end and these facts has jumped
abbrev pub arrived : End → Facts → ℕ → Option Facts → Option Facts
arrived e fs t o = if jumps_to e t then Some (meet fs o) else o

-- the routine of which facts are found, by what decides them
abbrev pub bare : ℕ → List Block → RoutineParts
bare params blocks = record { pid = 0; params = params; value = false; regs = 0; entry = 0; arrays = []; blocks = blocks }

-- a table has so many registers, where there is one
abbrev pub IsSizedIfSome : ℕ → Option (List (Option ℕ)) → Type 0
IsSizedIfSome n None = ⊤
IsSizedIfSome n (Some t) = length t ≡ n

-- facts, by their places, keep what others know too
pub record Met (fs : Facts) (old new : List (Option ℕ)) : Type 0 where
  pub size : length new ≡ length old
  pub at : (i : ℕ) → i < length old → slice_index_or new i None ≡ both_know (fs i) (slice_index_or old i None)

-- what is kept has the sizes of the routine, and what blocks take is among its registers
pub record IsSized (f : Flow) : Type 0 where
  pub looped : length f.looped.items ≡ length f.arriving.items
  pub written : length f.written.items ≡ f.regs
  pub carried : length f.carried.items ≡ length f.arriving.items
  pub inside : (b i : ℕ) → i < length (row_of f.carried.items b) → slice_index_or (row_of f.carried.items b) i 0 < f.regs
  pub tables : (t : ℕ) → IsSizedIfSome (length (row_of f.carried.items t)) (slice_index_or f.arriving.items t None)

-- What is kept of a routine with so many registers before block b: what arrives at block b and at those behind it, if no
-- `loop` goes there.
pub record Follows (n k : ℕ) (blocks : List Block) (b : ℕ) (f : Flow) : Type 0 where
  pub params : f.params ≡ k
  pub regs : f.regs ≡ n
  pub carries : Carries n f.looped.items f.carried.items blocks
  pub looped : AreMarks (length blocks) f.looped.items (looped blocks)
  pub written : AreMarks n f.written.items (written blocks)
  pub count : length f.arriving.items ≡ length blocks
  pub sized : IsSized f
  pub arriving : (t : ℕ) → b ≤ t → t < length blocks → slice_index_or f.looped.items t false ≡ false
      → HasIfSome (length (row_of f.carried.items t)) (slice_index_or f.arriving.items t None)
      (placed_if_some (row_of f.carried.items t) (arriving t (before (bare k blocks) b)))

-- a table has the facts at the start of block b, of the registers that it takes, by what is kept
pub record Starts (f : Flow) (b : ℕ) (t : List (Option ℕ)) : Type 0 where
  pub looped : slice_index_or f.looped.items b false ≡ true → Knows (row_of f.carried.items b) t (quiet f.params f.written.items)
  pub first : slice_index_or f.looped.items b false ≡ false → b ≡ 0 → Knows (row_of f.carried.items b) t (zeros f.params)
  pub others : slice_index_or f.looped.items b false ≡ false → b ≢ 0 → RestoresIfSome (row_of f.carried.items b) (slice_index_or f.arriving.items b None) t

-- what stays as the facts go on
pub record SameRoutine (old new : Flow) : Type 0 where
  pub params : new.params ≡ old.params
  pub regs : new.regs ≡ old.regs
  pub carried : new.carried.items ≡ old.carried.items
  pub looped : new.looped.items ≡ old.looped.items
  pub written : new.written.items ≡ old.written.items
  pub count : length new.arriving.items ≡ length old.arriving.items

-- what arrived at block b is taken, and what arrives at others stays
pub record Entered (old new : Flow) (b : ℕ) : Type 0 where
  pub same : SameRoutine old new
  pub here : slice_index_or new.arriving.items b None ≡ None
  pub others : (t : ℕ) → t ≢ b → slice_index_or new.arriving.items t None ≡ slice_index_or old.arriving.items t None

-- of the registers that block t takes, the facts of a table have been sent there, if no `loop` goes there, and to no other block
pub record Sent (t : ℕ) (table : List (Option ℕ)) (old new : Flow) : Type 0 where
  pub same : SameRoutine old new
  pub here : t < length old.arriving.items → slice_index_or old.looped.items t false ≡ false
      → HasIfSome (length (row_of old.carried.items t)) (slice_index_or new.arriving.items t None)
      (Some (meet (placed (row_of old.carried.items t) (facts_in table)) (facts_of (slice_index_or old.arriving.items t None))))
  pub quiet : slice_index_or old.looped.items t false ≡ true → slice_index_or new.arriving.items t None ≡ slice_index_or old.arriving.items t None
  pub others : (u : ℕ) → u ≢ t → slice_index_or new.arriving.items u None ≡ slice_index_or old.arriving.items u None

-- a block has jumped, with this end and the facts of a table
pub record Left (e : End) (table : List (Option ℕ)) (old new : Flow) : Type 0 where
  pub same : SameRoutine old new
  pub sized : IsSized new
  pub arriving : (t : ℕ) → t < length old.arriving.items → slice_index_or old.looped.items t false ≡ false
      → HasIfSome (length (row_of old.carried.items t)) (slice_index_or new.arriving.items t None)
      (arrived e (placed (row_of old.carried.items t) (facts_in table)) t (facts_of (slice_index_or old.arriving.items t None)))
