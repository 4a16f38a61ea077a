-- A callee's blocks in place of a call.
use Rattle.std.specs.Prelude.{ℕ, zero, suc, ◌+◌, ◌-◌, ◌*◌, ◌/◌, min, List, [], ◌∷◌, ◌++◌, length, Option, Some, None, map, option_map, nat_le, nat_lt}
use Rattle.std.specs.Prelude.{if◌then◌else◌}
use Rattle.il_core.specs.declared.instr.Block.{Block}
use Rattle.il_core.specs.declared.instr.Instr.{Instr}
use Rattle.il_core.specs.declared.instr.Instr.TheVariants.{Move, Clear, Turn, Call}
use Rattle.il_core.specs.declared.instr.End.{End}
use Rattle.il_core.specs.declared.instr.End.TheVariants as ends
use Rattle.il_core.specs.Routine.{RoutineParts}
use Rattle.il_core.specs.Meaning.{sites_in, sites_of}
use Rattle.il_core.specs.Operands.{Names, as_is, renamed, retargeted, retargeted_block}

-- A count inside a callee, in the share that a site with this count has of the callee's entries: rounded down, at most
-- 2^32 - 1, and 0 for a callee that is never entered.
abbrev pub scale : ℕ → ℕ → ℕ → ℕ
scale count site zero = 0
scale count site (suc entry) = min (count * site / suc entry) 4294967295

-- the instructions of a block, cut at one of its calls
pub record Cut : Type 0 where
  pub before : List Instr
  pub dest : Option ℕ
  pub callee : ℕ
  pub count : ℕ
  pub args : List ℕ
  pub after : List Instr

-- the same cut in a block with one instruction more at its start
abbrev pub cut_behind : Instr → Cut → Cut
cut_behind i c =
    record { before = i ∷ c.before; dest = c.dest; callee = c.callee; count = c.count; args = c.args; after = c.after }

-- the cut at the first instruction, where that is a call
abbrev pub cut_here : Instr → List Instr → Option Cut
cut_here (Call dest callee count args) is =
    Some (record { before = []; dest = dest; callee = callee; count = count; args = args; after = is })
cut_here _ is = None

-- the cut at call k of these instructions, counted from 0
abbrev pub cut_at : ℕ → List Instr → Option Cut
cut_at k [] = None
cut_at k (i ∷ is) = if nat_lt k (sites_in i) then cut_here i is else option_map (cut_behind i) (cut_at (k - sites_in i) is)

-- a call site: its block cut at the call, between the blocks before and the blocks after
pub record Site : Type 0 where
  pub earlier : List Block
  pub cut : Cut
  pub end : End
  pub later : List Block

-- the site in a block with these blocks behind it
abbrev pub site_here : Block → List Block → Cut → Site
site_here x xs c = record { earlier = []; cut = c; end = x.end; later = xs }

-- the same site in blocks with one more before them
abbrev pub site_behind : Block → Site → Site
site_behind x s = record { earlier = x ∷ s.earlier; cut = s.cut; end = s.end; later = s.later }

-- site k of blocks, counted from 0 through all of them
abbrev pub site_at : ℕ → List Block → Option Site
site_at k [] = None
site_at k (x ∷ xs) =
    if nat_lt k (sites_of x.instrs) then option_map (site_here x xs) (cut_at k x.instrs)
    else option_map (site_behind x) (site_at (k - sites_of x.instrs) xs)

-- the new number of the caller's block t: those behind block b move up by n + 1
abbrev pub moved : ℕ → ℕ → ℕ → ℕ
moved b n t = if nat_le t b then t else t + suc n

abbrev pub moved_block : ℕ → ℕ → Block → Block
moved_block b n x = retargeted_block (moved b n) x

-- one `move` from each argument, to the registers from number r on
abbrev pub passed : ℕ → List ℕ → List Instr
passed r [] = []
passed r (a ∷ args) = Move r a ∷ passed (suc r) args

-- the `move` of a returned value to where the call wants it
abbrev pub handed : Names → End → Option ℕ → List Instr
handed m (ends.Return (Some x)) (Some d) = Move d (m.reg x) ∷ []
handed m _ _ = []

-- an end of the callee, whose blocks begin at number `first`; a return goes to block `rest`
abbrev pub copied_end : Names → ℕ → ℕ → End → End
copied_end m first rest (ends.Jump t) = ends.Jump (first + t)
copied_end m first rest (ends.Branch r t u) = ends.Branch (m.reg r) (first + t) (first + u)
copied_end m first rest (ends.Loop t) = ends.Loop (first + t)
copied_end m first rest (ends.Return r) = ends.Jump rest
copied_end m first rest (ends.Exit r) = ends.Exit (m.reg r)

abbrev pub copied : Names → Option ℕ → ℕ → ℕ → Block → Block
copied m dest first rest x =
    record { instrs = map (renamed m) x.instrs ++ handed m x.end dest; end = copied_end m first rest x.end }

-- the callee's names in the caller: registers raised by r, arrays by a, counts scaled
abbrev pub raised : ℕ → ℕ → ℕ → ℕ → Names
raised r a site entry = record as_is { reg = λ x. r + x; array = λ x. a + x; count = λ c. scale c site entry }

-- what stands before the call, then what the call becomes: a turn, the callee's registers and arrays set to 0, its
-- arguments moved to its first registers, and a jump to its first block
abbrev pub entering : ℕ → ℕ → Site → RoutineParts → Block
entering r a s q =
    record {
      instrs = s.cut.before ++ Turn ∷ Clear r q.regs a (length q.arrays) ∷ passed r s.cut.args;
      end = ends.Jump (suc (length s.earlier));
    }

-- what stood after the call, and the block's end
abbrev pub resuming : Site → ℕ → Block
resuming s n = record { instrs = s.cut.after; end = retargeted (moved (length s.earlier) n) s.end }

-- the callee's blocks as they stand in the caller
abbrev pub copies : ℕ → ℕ → Site → RoutineParts → List Block
copies r a s q =
    let first = suc (length s.earlier) in
    map (copied (raised r a s.cut.count q.entry) s.cut.dest first (first + length q.blocks)) q.blocks

-- The blocks of a caller with r registers and a arrays, with the callee q at its site s.
abbrev pub spliced_blocks : ℕ → ℕ → Site → RoutineParts → List Block
spliced_blocks r a s q =
    let b = length s.earlier in
    let n = length q.blocks in
    map (moved_block b n) s.earlier
    ++ entering r a s q ∷ (copies r a s q ++ resuming s n ∷ map (moved_block b n) s.later)

abbrev pub spliced : RoutineParts → RoutineParts → Option Site → RoutineParts
spliced r q None = r
spliced r q (Some s) =
    record r { regs = r.regs + q.regs; arrays = r.arrays ++ q.arrays; blocks = spliced_blocks r.regs (length r.arrays) s q }

-- The caller r with the callee q spliced at site k.
abbrev pub splice : RoutineParts → ℕ → RoutineParts → RoutineParts
splice r k q = spliced r q (site_at k r.blocks)

-- how many returns of blocks give a value
abbrev pub value_return : End → ℕ
value_return (ends.Return (Some x)) = 1
value_return _ = 0

abbrev pub value_returns : List Block → ℕ
value_returns [] = 0
value_returns (x ∷ xs) = value_return x.end + value_returns xs
