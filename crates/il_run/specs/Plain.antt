-- What the instructions do that neither call nor take a turn nor meet the outside.
use Rattle.std.specs.Prelude.{◌≡◌, ℕ, ◌+◌, ◌<◌, ◌≤◌, List, length, take, sum, slice_index, slice_set, nat_lt, ⊤, if◌then◌else◌, Result, Ok, Err, MatchResult}
use Rattle.std.specs.List.{AllByRecursion}
use Rattle.hlo_num.specs.declared.word.Trap.{Trap}
use Rattle.hlo_num.specs.declared.word.Trap.TheVariants.{Index}
use Rattle.hlo_num.specs.Words.{convert}
use Rattle.hlo_num.specs.Operators.{operate}
use Rattle.il_core.specs.declared.instr.Instr.{Instr}
use Rattle.il_core.specs.declared.instr.Instr.TheVariants.{Const, Move, Conv, Bin, Get, Set, GetX, SetX, GetA, SetA, Clear, Turn, Call, GetChar, PutChar}
use Rattle.il_core.specs.Routine.{RoutineParts}
use Rattle.il_core.specs.World.{put_element}
use Rattle.il_core.specs.Meaning.{Frame, Lengths, with_reg, cleared}
use Rattle.il_run.specs.declared.store.Store.{Store}
use Rattle.il_run.specs.Words.{window, arrays_in, Zeroed}

-- the words that a call's instructions read and write: its frame, and the objects
pub record Data : Type 0 where
  pub frame : Frame
  pub objects : ℕ → ℕ → ℕ

-- the words where an operator gives one, or its trap
abbrev pub gets : Data → ℕ → Result ℕ Trap → Result Data Trap
gets m d (Ok v) = Ok (record m { frame = with_reg m.frame d v })
gets m d (Err t) = Err t

-- the words where an index is inside a length, and a trap elsewhere
abbrev pub inside : ℕ → ℕ → Data → Result Data Trap
inside index len m = if nat_lt index len then Ok m else Err Index

abbrev pub plain : Lengths → Instr → Data → Result Data Trap
plain n (Const d v) m = Ok (record m { frame = with_reg m.frame d v.0 })
plain n (Move d s) m = Ok (record m { frame = with_reg m.frame d (m.frame.regs s) })
plain n (Conv d t s) m = Ok (record m { frame = with_reg m.frame d (convert t (m.frame.regs s)) })
plain n (Bin o d a b) m = gets m d (operate o (m.frame.regs a) (m.frame.regs b))
plain n (Get d g) m = Ok (record m { frame = with_reg m.frame d (m.objects g 0) })
plain n (Set g s) m = Ok (record m { objects = put_element m.objects g 0 (m.frame.regs s) })
plain n (GetX d g i) m = inside (m.frame.regs i) (n.object g) (record m { frame = with_reg m.frame d (m.objects g (m.frame.regs i)) })
plain n (SetX g i s) m = inside (m.frame.regs i) (n.object g) (record m { objects = put_element m.objects g (m.frame.regs i) (m.frame.regs s) })
plain n (GetA d a i) m = inside (m.frame.regs i) (n.array a) (record m { frame = with_reg m.frame d (m.frame.arrays a (m.frame.regs i)) })
plain n (SetA a i s) m = inside (m.frame.regs i) (n.array a) (record m
    { frame = record m.frame { arrays = put_element m.frame.arrays a (m.frame.regs i) (m.frame.regs s) } })
plain n (Clear r c a k) m = Ok (record m { frame = cleared m.frame r c a k })
plain n Turn m = Ok m
plain n (Call dest p count args) m = Ok m
plain n (GetChar d) m = Ok m
plain n (PutChar d s) m = Ok m

-- the current call's registers and arrays
abbrev pub frame_in : Store → RoutineParts → Frame
frame_in s r = record { regs = window s.regs.items s.at_regs r.regs; arrays = arrays_in s.elements.items s.at_elements r.arrays }

-- the current call's words, and the objects of these lengths
abbrev pub data_in : Store → RoutineParts → List ℕ → Data
data_in s r sizes = record { frame = frame_in s r; objects = arrays_in s.words.items 0 sizes }

abbrev pub lengths_of : RoutineParts → List ℕ → Lengths
lengths_of r sizes = record { array = slice_index r.arrays; object = slice_index sizes }

-- the current call's words are the last ones, and the objects have their words
pub record Holds (s : Store) (r : RoutineParts) (sizes : List ℕ) : Type 0 where
  pub regs : s.at_regs + r.regs ≡ length s.regs.items
  pub elements : s.at_elements + sum r.arrays ≡ length s.elements.items
  pub words : sum sizes ≡ length s.words.items

-- the current call begins where it did, and what lies below it and the lengths stay
pub record KeepsBelow (old new : Store) : Type 0 where
  pub at_regs : new.at_regs ≡ old.at_regs
  pub at_elements : new.at_elements ≡ old.at_elements
  pub regs : take old.at_regs new.regs.items ≡ take old.at_regs old.regs.items
  pub elements : take old.at_elements new.elements.items ≡ take old.at_elements old.elements.items
  pub count_regs : length new.regs.items ≡ length old.regs.items
  pub count_elements : length new.elements.items ≡ length old.elements.items
  pub count_words : length new.words.items ≡ length old.words.items

-- an instruction of a routine was executed, or trapped
pub record Executes (r : RoutineParts) (sizes : List ℕ) (i : Instr) (old new : Store) (result : Result (Unit {0}) Trap) : Type 0 where
  pub below : KeepsBelow old new
  pub effect : MatchResult result (λ _. plain (lengths_of r sizes) i (data_in old r sizes) ≡ Ok (data_in new r sizes))
      (λ t. plain (lengths_of r sizes) i (data_in old r sizes) ≡ Err t)

-- the registers, arrays and objects that an instruction names are there
abbrev pub Fits : RoutineParts → List ℕ → Instr → Type 0
Fits r sizes (Const d v) = d < r.regs
Fits r sizes (Move d s) = (d < r.regs) × (s < r.regs)
Fits r sizes (Conv d t s) = (d < r.regs) × (s < r.regs)
Fits r sizes (Bin o d a b) = (d < r.regs) × (a < r.regs) × (b < r.regs)
Fits r sizes (Get d g) = (d < r.regs) × (0 < slice_index sizes g)
Fits r sizes (Set g s) = (s < r.regs) × (0 < slice_index sizes g)
Fits r sizes (GetX d g i) = (d < r.regs) × (i < r.regs) × (0 < slice_index sizes g)
Fits r sizes (SetX g i s) = (i < r.regs) × (s < r.regs) × (0 < slice_index sizes g)
Fits r sizes (GetA d a i) = (d < r.regs) × (i < r.regs) × (a < length r.arrays)
Fits r sizes (SetA a i s) = (i < r.regs) × (s < r.regs) × (a < length r.arrays)
Fits r sizes (Clear k c a m) = (k + c ≤ r.regs) × (a + m ≤ length r.arrays)
Fits r sizes Turn = ⊤
Fits r sizes (Call dest p count args) = AllByRecursion (λ x. x < r.regs) args
Fits r sizes (GetChar d) = d < r.regs
Fits r sizes (PutChar d s) = (d < r.regs) × (s < r.regs)

-- one of the current call's registers was replaced, and nothing else
pub record SetsReg (old new : Store) (d v : ℕ) : Type 0 where
  pub regs : new.regs.items ≡ slice_set old.regs.items (old.at_regs + d) v
  pub elements : new.elements.items ≡ old.elements.items
  pub words : new.words.items ≡ old.words.items
  pub at_regs : new.at_regs ≡ old.at_regs
  pub at_elements : new.at_elements ≡ old.at_elements

-- a word of the objects was replaced, and nothing else
pub record SetsWord (old new : Store) (at v : ℕ) : Type 0 where
  pub words : new.words.items ≡ slice_set old.words.items at v
  pub regs : new.regs.items ≡ old.regs.items
  pub elements : new.elements.items ≡ old.elements.items
  pub at_regs : new.at_regs ≡ old.at_regs
  pub at_elements : new.at_elements ≡ old.at_elements

-- an element of the current call was replaced, and nothing else
pub record SetsElement (old new : Store) (at v : ℕ) : Type 0 where
  pub elements : new.elements.items ≡ slice_set old.elements.items (old.at_elements + at) v
  pub regs : new.regs.items ≡ old.regs.items
  pub words : new.words.items ≡ old.words.items
  pub at_regs : new.at_regs ≡ old.at_regs
  pub at_elements : new.at_elements ≡ old.at_elements

-- some registers and some elements of the current call became 0
pub record Clears (old new : Store) (k c from to : ℕ) : Type 0 where
  pub regs : Zeroed old.regs.items new.regs.items (old.at_regs + k) (old.at_regs + k + c)
  pub elements : Zeroed old.elements.items new.elements.items (old.at_elements + from) (old.at_elements + to)
  pub words : new.words.items ≡ old.words.items
  pub at_regs : new.at_regs ≡ old.at_regs
  pub at_elements : new.at_elements ≡ old.at_elements

-- neither a call nor a turn nor an instruction that meets the outside
abbrev pub IsPlain : Instr → Type 0
IsPlain Turn = ⊥
IsPlain (Call dest p count args) = ⊥
IsPlain (GetChar d) = ⊥
IsPlain (PutChar d s) = ⊥
IsPlain _ = ⊤
