-- The lists of a trail, and what contracts see of it.
use Rattle.std.specs.Prelude.{ℕ, List, []}
use Rattle.naim_loader.specs.declared.counters.Counters.{Counters}

-- The contents at each mark, in order, as PIDs with values; the PIDs of the insertions that were taken, in order.
pub record Lists (T : Type 0) : Type 0 where
  pub programs : List (List (ℕ × T))
  pub insertions : List ℕ

abbrev pub no_lists : {T : Type 0} → Lists T
no_lists = record { programs = []; insertions = [] }

-- a trail: the limit of its loader, that loader's peaks and counts, and its lists
pub record History (T : Type 0) : Type 0 where
  pub limit : ℕ
  pub counters : Counters
  pub lists : Lists T
