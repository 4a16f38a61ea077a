-- Sets of registers as words of 64 bits.
use Rattle.std.specs.Prelude.{◌≡◌, ℕ, ◌*◌, ◌/◌, ◌%◌, ◌<◌, ◌||◌, Bool, List, Some, length, nat_eq, slice_get, slice_index, take, drop}
use Rattle.std.specs.Int.{bit_at}
use Rattle.il_core.specs.declared.instr.Block.{Block}
use Rattle.il_core.specs.declared.instr.End.{End}
use Rattle.il_core.specs.declared.instr.End.TheVariants as ends
use Rattle.il_laws.specs.Live.{Live}
use Rattle.std.specs.List.{AllByRecursion, list_any}
use Rattle.il_core.specs.Operands.{end_reads, jumps}

-- whether a register is in a set
abbrev pub has : List ℕ → ℕ → Bool
has ws x = nat_eq (bit_at (slice_index ws (x / 64)) (x % 64)) 1

-- the set of a block, in a table that has so many words for each
abbrev pub row : List ℕ → ℕ → ℕ → List ℕ
row ws width t = take width (drop (t * width) ws)

-- what is live at an end, by what is read anywhere and what is live at the starts of blocks
abbrev pub live_behind : Live → (ℕ → Live) → End → Live
live_behind read at (ends.Loop t) x = read x
live_behind read at e x = end_reads e x || list_any (λ t. at t x) (jumps e)

-- block b of so many goes on at later ones of them
abbrev pub GoesForward : ℕ → ℕ → End → Type 0
GoesForward n b e = AllByRecursion (λ t. (b < t) × (t < n)) (jumps e)

-- each of these blocks does
abbrev pub GoForward : List Block → Type 0
GoForward bs = (b : ℕ) (x : Block) → slice_get bs b ≡ Some x → GoesForward (length bs) b x.end
