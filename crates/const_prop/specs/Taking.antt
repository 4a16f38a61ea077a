-- What a block takes, as it is gone through.
use Rattle.std.specs.Prelude.{◌≡◌, ◌≢◌, ℕ, ◌<◌, ◌≤◌, Bool, true, false, List, length, slice_index_or, if◌then◌else◌}
use Rattle.il_core.specs.declared.instr.Block.{Block}
use Rattle.il_core.specs.declared.instr.End.{End}
use Rattle.il_core.specs.declared.instr.Instr.{Instr}
use Rattle.il_core.specs.Operands.{reads, writes}
use Rattle.il_laws.specs.Facts.{any_writes, jumps_to}
use Rattle.const_prop.specs.Carried.{StandsIn, needs, row_of}
use Rattle.const_prop.specs.declared.carried.Taking.{Taking}

-- there are n registers, and no stamp is above that of the block
pub record IsStamped (n : ℕ) (s : Taking) : Type 0 where
  pub takers : length s.takers.items ≡ n
  pub writers : length s.writers.items ≡ n
  pub takers_stamp : (x : ℕ) → x < n → slice_index_or s.takers.items x 0 ≤ s.stamp
  pub writers_stamp : (x : ℕ) → x < n → slice_index_or s.writers.items x 0 ≤ s.stamp

-- besides, what is taken is among the registers, and all that has the block's stamp is taken
pub record IsTaking (n : ℕ) (s : Taking) : Type 0 where
  pub stamped : IsStamped n s
  pub inside : (i : ℕ) → i < length s.row.items → slice_index_or s.row.items i 0 < n
  pub taken : (x : ℕ) → x < n → slice_index_or s.takers.items x 0 ≡ s.stamp → StandsIn s.row.items x

-- more is taken, and nothing is written
pub record Took (old new : Taking) : Type 0 where
  pub stamp : new.stamp ≡ old.stamp
  pub writers : new.writers.items ≡ old.writers.items
  pub grows : (x : ℕ) → StandsIn old.row.items x → StandsIn new.row.items x

-- of these registers those are taken that nothing here has written
abbrev pub TookRow : ℕ → List ℕ → Taking → Taking → Type 0
TookRow n xs old new = (x : ℕ) → x < n → slice_index_or old.writers.items x 0 ≢ old.stamp → StandsIn xs x → StandsIn new.row.items x

-- of what an instruction reads that is taken that nothing here has written
abbrev pub TookAll : ℕ → Instr → Taking → Taking → Type 0
TookAll n i old new = (x : ℕ) → x < n → slice_index_or old.writers.items x 0 ≢ old.stamp → reads i x ≡ true → StandsIn new.row.items x

-- what an instruction reads that nothing here has written is taken, and what it writes is written here
pub record Noted (n : ℕ) (i : Instr) (old new : Taking) : Type 0 where
  pub stamp : new.stamp ≡ old.stamp
  pub grows : (x : ℕ) → StandsIn old.row.items x → StandsIn new.row.items x
  pub reads : TookAll n i old new
  pub writes : (x : ℕ) → x < n → slice_index_or new.writers.items x 0 ≡ (if writes i x then old.stamp else slice_index_or old.writers.items x 0)

-- what a block needs is taken, and what it doesn't write was written as before
pub record TookNeeded (n : ℕ) (block : Block) (old new : Taking) : Type 0 where
  pub stamp : new.stamp ≡ old.stamp
  pub needed : (x : ℕ) → x < n → needs block x ≡ true → StandsIn new.row.items x
  pub writes : (x : ℕ) → x < n → any_writes block.instrs x ≡ false → slice_index_or new.writers.items x 0 ≡ slice_index_or old.writers.items x 0

-- of what those blocks take to which an end jumps and no `loop` goes, what nothing here has written is taken
pub record TookPassed (n : ℕ) (e : End) (looped : List Bool) (rows : List (List ℕ)) (old new : Taking) : Type 0 where
  pub took : Took old new
  pub passed : (t : ℕ) → jumps_to e t ≡ true → slice_index_or looped t false ≡ false → TookRow n (row_of rows t) old new
