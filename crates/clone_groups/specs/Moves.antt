-- Calls that get other callees.
use Rattle.std.specs.Prelude.{◌≡◌, ℕ, ◌+◌, ◌<◌, List, [], ◌∷◌, Option, Some, None, if◌then◌else◌, length, nat_lt, slice_index_or, slice_set}
use Rattle.std.specs.Option.{unwrap_or}
use Rattle.il_core.specs.declared.instr.Block.{Block}
use Rattle.il_core.specs.declared.instr.Instr.{Instr}
use Rattle.il_core.specs.declared.instr.Instr.TheVariants.{Call}
use Rattle.il_core.specs.Meaning.{sites_in, sites_of}
use Rattle.il_laws.specs.Retarget.{SiteMove, callee_at}

-- the moves as the laws write them: a site's number and its new callee
abbrev pub moves_of : List (ℕ × ℕ) → List SiteMove
moves_of [] = []
moves_of (m ∷ ms) = record { site = m.0; callee = m.1 } ∷ moves_of ms

-- how many calls blocks have
abbrev pub sites_of_blocks : List Block → ℕ
sites_of_blocks [] = 0
sites_of_blocks (x ∷ xs) = sites_of x.instrs + sites_of_blocks xs

-- What becomes of calls whose callees go through a function of the site's number and the callee.
abbrev pub with_callee : (ℕ → ℕ → ℕ) → ℕ → Instr → Instr
with_callee to k (Call dest callee count args) = Call dest (to k callee) count args
with_callee to k i = i

abbrev pub with_callees : (ℕ → ℕ → ℕ) → ℕ → List Instr → List Instr
with_callees to k [] = []
with_callees to k (i ∷ is) = with_callee to k i ∷ with_callees to (sites_in i + k) is

abbrev pub with_block_callees : (ℕ → ℕ → ℕ) → ℕ → List Block → List Block
with_block_callees to k [] = []
with_block_callees to k (x ∷ xs) =
    record { instrs = with_callees to k x.instrs; end = x.end } ∷ with_block_callees to (sites_of x.instrs + k) xs

-- what a table says of a site: its new callee where there is one
abbrev pub callee_in : List (Option ℕ) → ℕ → ℕ → ℕ
callee_in t k callee = unwrap_or (slice_index_or t k None) callee

-- a table of n sites says the same as moves
pub record HasMoves (n : ℕ) (t : List (Option ℕ)) (ms : List SiteMove) : Type 0 where
  pub says : (k callee : ℕ) → k < n → callee_in t k callee ≡ callee_at ms k callee

-- a table after a callee is put to a place, where it has that
abbrev pub put_callee : List (Option ℕ) → ℕ → ℕ → List (Option ℕ)
put_callee t site callee = if nat_lt site (length t) then slice_set t site (Some callee) else t
