-- What the memory forms keep.
use Rattle.std.specs.Prelude.{ℕ, Bool, List}
use Rattle.outside.specs.Calls.{CallCounts}
use Rattle.outside.specs.Files.{File}
use Rattle.outside.specs.declared.source.Ask.{Ask}

-- a sink or a disk in memory: its bytes, and its calls
pub record KeptBytes : Type 0 where
  pub bytes : List ℕ
  pub calls : CallCounts

-- a shelf in memory: its files, and its calls
pub record KeptFiles : Type 0 where
  pub files : List File
  pub calls : CallCounts

-- a disk of fixed length: its bytes, and whether none was lost
pub record FixedBytes : Type 0 where
  pub bytes : List ℕ
  pub honest : Bool

-- a bent disk: the disk within, which read is bent, the bit that is turned there, and how many reads there were
pub record Bent : Type 0 where
  pub inner : KeptBytes
  pub read : ℕ
  pub bit : ℕ
  pub reads : ℕ

-- a source that never fails: its bytes left, and its calls
pub record GivenBytes : Type 0 where
  pub left : List ℕ
  pub asks : List Ask

-- a source in memory: its bytes left, its calls, and which of them fail
pub record GivenOrFailed : Type 0 where
  pub left : List ℕ
  pub asks : List Ask
  pub calls : CallCounts
