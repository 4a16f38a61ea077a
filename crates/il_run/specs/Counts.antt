-- How often each routine of a program was called, and each of its sites made its call.
use Rattle.std.proofs.Common.{inl, inr}
use Rattle.std.specs.Borrow.{MutBor}
use Rattle.std.specs.Prelude.{◌≡◌, ◌⊎◌, ℕ, ◌+◌, ◌<◌, ◌&&◌, ◌++◌, Bool, List, [], ◌∷◌, length, map, replicate, get_or, min, nat_eq, slice_index}
use Rattle.std.specs.Prelude.{slice_index_or, slice_set, if◌then◌else◌, ⊤, Option, Some, None}
use Rattle.std.specs.List.{range_with_len}
use Rattle.il_core.specs.declared.instr.Block.{Block}
use Rattle.il_core.specs.declared.instr.Instr.{Instr}
use Rattle.il_core.specs.declared.program.IlProgram.{IlProgram}
use Rattle.il_core.specs.Routine.{RoutineParts}
use Rattle.il_core.specs.Meaning.{MadeCall, sites_in, sites_of}
use Rattle.il_run.specs.declared.counts.Counts.{Counts}
use Rattle.il_run.specs.declared.counter.Counter.{Counter}
use Rattle.il_run.specs.declared.numbering.Numbering.{Numbering}
use Rattle.il_run.specs.Machine.{routine_of, routine_in, block_in, site_at}

-- a count stops at 4294967295
abbrev pub capped : ℕ → ℕ
capped n = min n 4294967295

-- how many of some calls pass a test
abbrev pub how_many : (MadeCall → Bool) → List MadeCall → ℕ
how_many test [] = 0
how_many test (c ∷ cs) = (if test c then 1 else 0) + how_many test cs

-- how many sites some blocks have
abbrev pub sites_of_blocks : List Block → ℕ
sites_of_blocks [] = 0
sites_of_blocks (x ∷ xs) = sites_of x.instrs + sites_of_blocks xs

-- the calls of a routine, and those that one of its sites made
abbrev pub entry_count : List MadeCall → RoutineParts → ℕ
entry_count calls r = capped (how_many (λ c. nat_eq c.callee r.pid) calls)

abbrev pub site_count : List MadeCall → RoutineParts → ℕ → ℕ
site_count calls r k = capped (how_many (λ c. nat_eq c.caller r.pid && nat_eq c.site k) calls)

-- the counts of some calls, by routine, and by routine and site
abbrev pub counts_of : IlProgram → List MadeCall → Counts
counts_of p calls = record {
  entries = map (λ r. entry_count calls r) p.routines;
  sites = map (λ r. map (λ k. site_count calls r k) (range_with_len 0 (sites_of_blocks r.blocks))) p.routines;
}

-- all counts are 0
abbrev pub no_counts : IlProgram → Counts
no_counts p = record {
  entries = replicate (length p.routines) 0;
  sites = map (λ r. replicate (sites_of_blocks r.blocks) 0) p.routines;
}

-- a count for each routine and each site of a program
pub record HasShape (p : IlProgram) (c : Counts) : Type 0 where
  pub entries : length c.entries ≡ length p.routines
  pub sites : map length c.sites ≡ map (λ r. sites_of_blocks r.blocks) p.routines

-- a place of a list is one higher, unless it is at the last number
abbrev pub raised : List ℕ → ℕ → List ℕ
raised xs i = slice_set xs i (capped (slice_index xs i + 1))

-- one call more, of the routine at place j, by site k of the routine at place i
abbrev pub counted : Counts → ℕ → ℕ → ℕ → Counts
counted c i k j = record { entries = raised c.entries j; sites = slice_set c.sites i (raised (get_or c.sites i []) k) }

-- the number of each call among a routine's calls, by the place of its instruction
pub record IsNumbered (r : RoutineParts) (n : Numbering) : Type 0 where
  pub count : length n.starts.items ≡ length r.blocks
  pub within : (b j : ℕ) → b < length r.blocks → j < length (block_in r b).instrs → slice_index n.starts.items b + j < length n.numbers.items
  pub number : (b j : ℕ) → b < length r.blocks → j < length (block_in r b).instrs
      → slice_index n.numbers.items (slice_index n.starts.items b + j) ≡ site_at r b j

-- a counter of a program's calls
pub record IsCounter (p : IlProgram) (c : Counter) : Type 0 where
  pub count : length c.numbers.items ≡ length p.routines
  pub each : (i : ℕ) (n : Numbering) → i < length p.routines → n ≡ slice_index_or c.numbers.items i n → IsNumbered (routine_in p i) n
  pub shape : HasShape p c.counts

-- the numbers of instructions, where the first has the number k: each is the number of calls before it
abbrev pub numbers_in : ℕ → List Instr → List ℕ
numbers_in k [] = []
numbers_in k (i ∷ is) = k ∷ numbers_in (sites_in i + k) is

-- some calls more were counted, if calls are counted
pub record Counted (p : IlProgram) (old new : Counter) (made : List MadeCall) : Type 0 where
  pub counter : IsCounter p new
  pub counts : (calls : List MadeCall) → old.counts ≡ counts_of p calls → new.counts ≡ counts_of p (made ++ calls)

abbrev pub CountsMore : IlProgram → Option Counter → Option Counter → List MadeCall → Type 0
CountsMore p None None made = ⊤
CountsMore p None (Some new) made = ⊥
CountsMore p (Some old) None made = ⊥
CountsMore p (Some old) (Some new) made = Counted p old new made

-- the numbers of each routine
pub record AreNumbered (rs : List RoutineParts) (ns : List Numbering) : Type 0 where
  pub count : length ns ≡ length rs
  pub each : (i : ℕ) (n : Numbering) → i < length rs → n ≡ slice_index_or ns i n → IsNumbered (routine_of rs i) n

-- calls are counted as before, or not counted as before
abbrev pub StillCounts : IlProgram → Option Counter → Option Counter → Type 0
StillCounts p None None = ⊤
StillCounts p None (Some new) = ⊥
StillCounts p (Some old) None = ⊥
StillCounts p (Some old) (Some new) = IsCounter p new

-- counts that are given are new ones
abbrev pub AreNew : IlProgram → Option (MutBor Counts) → Type 0
AreNew p None = ⊤
AreNew p (Some c) = c.now ≡ no_counts p

-- counts that are given are such as these at the end
abbrev pub CountsAt : Option (MutBor Counts) → Unit {0} ⊎ ((MutBor Counts × Unit {0}) ⊎ ⊥) → (Counts → Type 0) → Type 0
CountsAt None left P = ⊤
CountsAt (Some c) (inr (inl left)) P = P left.0.now
CountsAt (Some c) (inl left) P = ⊥
CountsAt (Some c) (inr (inr left)) P = ⊥
