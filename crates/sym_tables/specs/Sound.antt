-- What holds of every table.
use Rattle.std.specs.Prelude.{◌≡◌, ℕ, ◌≤◌, false, length, take}
use Rattle.std.specs.List.{AllByRecursion}
use Rattle.std.specs.Map.{values_of}
use Rattle.sym_tables.specs.declared.symbol.Symbol.{Symbol}
use Rattle.sym_tables.specs.Entities.{words}
use Rattle.sym_tables.specs.Symbols.{is_open}
use Rattle.sym_tables.specs.Table.{Table, routines, elements, is_past_limits}

-- no more initial words than words
abbrev pub FitsWords : Symbol → Type 0
FitsWords s = length s.init ≤ words s.entity

-- no limit is passed, and initial words fit
pub record IsSound (syms : Table) : Type 0 where
  pub limits : is_past_limits syms ≡ false
  pub inits : AllByRecursion FitsWords (values_of syms)

-- the kept numbers: the routines, the array elements, and a PID below which nothing is used and not defined
pub record IsKept (syms : Table) (routine_count element_count least : ℕ) : Type 0 where
  pub sound : IsSound syms
  pub routines_counted : routine_count ≡ routines syms
  pub elements_counted : element_count ≡ elements syms
  pub least_open : AllByRecursion (λ s. is_open s ≡ false) (take least (values_of syms))
