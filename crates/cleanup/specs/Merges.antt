-- Blocks merged in place: what is taken in leaves an empty block behind.
use Rattle.std.specs.Prelude.{◌≡◌, ℕ, ◌<◌, ◌&&◌, List, [], Option, Some, None, length, nat_eq, if◌then◌else◌, slice_get, slice_index, slice_set}
use Rattle.il_core.specs.declared.instr.Block.{Block}
use Rattle.il_core.specs.declared.instr.End.{End}
use Rattle.il_core.specs.declared.instr.End.TheVariants as ends
use Rattle.il_laws.specs.Edges.{all_edges}
use Rattle.il_laws.specs.Merge.{joined, may_end}

-- the edges to each block
pub record AreCounts (bs : List Block) (counts : List ℕ) : Type 0 where
  pub size : length counts ≡ length bs
  pub at : (t : ℕ) → t < length bs → slice_index counts t ≡ all_edges bs t

abbrev pub next_if_fits : List ℕ → ℕ → ℕ → Option Block → Option ℕ
next_if_fits counts b t None = None
next_if_fits counts b t (Some y) = if nat_eq (slice_index counts t) 1 && may_end b y.end then Some t else None

abbrev pub next_at : List ℕ → List Block → ℕ → End → Option ℕ
next_at counts bs b (ends.Jump t) = next_if_fits counts b t (slice_get bs t)
next_at counts bs b _ = None

-- the block that block b may take in, by the edges to each
abbrev pub next_by : List ℕ → List Block → Option Block → ℕ → Option ℕ
next_by counts bs None b = None
next_by counts bs (Some x) b = next_at counts bs b x.end

-- a block that has been taken in
abbrev pub gone_block : Block
gone_block = record { instrs = []; end = ends.Return None }

abbrev pub joined_at : List Block → ℕ → ℕ → Option Block → Option Block → List Block
joined_at bs b t (Some x) (Some y) = slice_set (slice_set bs t gone_block) b (joined x y)
joined_at bs b t _ _ = bs

-- block b has taken in block t
abbrev pub with_joined : List Block → ℕ → ℕ → List Block
with_joined bs b t = joined_at bs b t (slice_get bs b) (slice_get bs t)
