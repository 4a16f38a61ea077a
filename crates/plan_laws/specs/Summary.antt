-- What the plan knows of a routine.
use Rattle.std.specs.Prelude.{ℕ, zero, suc, ◌^◌, Bool, List, [], ◌∷◌, length, Option, map, flat_map, sum, sum_by}
use Rattle.il_core.specs.declared.program.IlProgram.{IlProgram}
use Rattle.il_core.specs.Program.{found}
use Rattle.il_core.specs.Routine.{RoutineParts}
use Rattle.il_core.specs.Size.{size, charge}
use Rattle.il_laws.specs.Facts.{looped}
use Rattle.il_laws.specs.Known.{KnownSite, known_sites}
use Rattle.il_laws.specs.Live.{read_in}
use Rattle.il_laws.specs.Reach.{Caller}
use Rattle.il_laws.specs.Splice.{value_returns}

pub record Summary : Type 0 where
  pub pid : ℕ
  -- its size, and its stated bytes where it lies whole
  pub size : ℕ
  pub charge : ℕ
  pub params : ℕ
  -- for each parameter, whether some instruction or end reads it
  pub reads : List Bool
  -- its returns with a value
  pub returns : ℕ
  pub regs : ℕ
  -- its local arrays, and the elements of all of them
  pub arrays : ℕ
  pub elements : ℕ
  pub entry : ℕ
  -- whether some `loop` goes to block 0
  pub start_loop : Bool
  -- its calls in order, with what is known of their arguments
  pub sites : List KnownSite

-- a test of n numbers from x on
abbrev pub tests : (ℕ → Bool) → ℕ → ℕ → List Bool
tests test x zero = []
tests test x (suc n) = test x ∷ tests test (suc x) n

abbrev pub summary : RoutineParts → Summary
summary r =
    record {
      pid = r.pid;
      size = size r;
      charge = charge r;
      params = r.params;
      reads = tests (read_in r.blocks) 0 r.params;
      returns = value_returns r.blocks;
      regs = r.regs;
      arrays = length r.arrays;
      elements = sum r.arrays;
      entry = r.entry;
      start_loop = looped r.blocks 0;
      sites = known_sites r;
    }

abbrev pub summaries : IlProgram → List Summary
summaries p = map summary p.routines

abbrev pub summary_at : List Summary → ℕ → Option Summary
summary_at ss pid = found (λ s. s.pid) pid ss

-- the squares of the sizes
abbrev pub cost_of : List Summary → ℕ
cost_of ss = sum_by (λ s. s.size ^ 2) ss

-- a call site: its caller, its number there, and what is known of it
pub record CallSite : Type 0 where
  pub caller : ℕ
  pub number : ℕ
  pub site : KnownSite

-- the sites of a caller, from number k on
abbrev pub numbered : ℕ → ℕ → List KnownSite → List CallSite
numbered caller k [] = []
numbered caller k (s ∷ ss) = record { caller = caller; number = k; site = s } ∷ numbered caller (suc k) ss

-- all sites of a program, by caller and then by number
abbrev pub call_sites : List Summary → List CallSite
call_sites ss = flat_map (λ s. numbered s.pid 0 s.sites) ss

-- a routine as a node of the call graph
abbrev pub caller_of_summary : Summary → Caller
caller_of_summary s = record { pid = s.pid; callees = map (λ x. x.callee) s.sites }
