-- The limits, one by one.
use Rattle.std.proofs.Common.{◌≡◌, ℕ, ◌≤◌, false, ◌||◌, length, nat_lt, ap, ◌∙◌, arith}
use Rattle.std.proofs.lemmas.Bool.Decides.{nat_tests}
use Rattle.std.specs.List.{list_any}
use Rattle.std.specs.Map.{values_of}
use Rattle.il_core.specs.Limits.{max_elements, max_names, max_parameters, max_routines}
use Rattle.list_laws.proofs.Tests.{or_first, or_second}
use Rattle.sym_tables.specs.Table.{Table, routines, elements, is_wide, is_past_limits}

-- no limit is passed
pub record Within (syms : Table) : Type 0 where
  pub names : length syms ≤ max_names
  pub routines_few : routines syms ≤ max_routines
  pub elements_few : elements syms ≤ max_elements
  pub narrow : list_any is_wide (values_of syms) ≡ false

pub at_most : (m n : ℕ) → nat_lt m n ≡ false → n ≤ m
at_most m n h = grind (arith, nat_tests)

not_above : (m n : ℕ) → n ≤ m → nat_lt m n ≡ false
not_above m n h = grind (arith, nat_tests)

pub within : (syms : Table) → is_past_limits syms ≡ false → Within syms
within syms h =
    let n = nat_lt max_names (length syms) in let r = nat_lt max_routines (routines syms) in let e = nat_lt max_elements (elements syms) in let w = list_any
    is_wide (values_of syms) in
    let nre = or_first (n || r || e) w h in let nr = or_first (n || r) e nre in
    record {
      names = at_most max_names (length syms) (or_first n r nr);
      routines_few = at_most max_routines (routines syms) (or_second n r nr);
      elements_few = at_most max_elements (elements syms) (or_second (n || r) e nre);
      narrow = or_second (n || r || e) w h;
    }

pub not_past : (syms : Table) → Within syms → is_past_limits syms ≡ false
not_past syms k =
    let a = not_above max_names (length syms) k.names in let b = not_above max_routines (routines syms) k.routines_few in let c = not_above max_elements
    (elements syms) k.elements_few in
    let d = k.narrow in
    ap (λ x. x || nat_lt max_routines (routines syms) || nat_lt max_elements (elements syms) || list_any is_wide (values_of syms)) a
    ∙ ap (λ x. false || x || nat_lt max_elements (elements syms) || list_any is_wide (values_of syms)) b
    ∙ ap (λ x. false || false || x || list_any is_wide (values_of syms)) c ∙ d

-- by the numbers
pub past_is : (syms : Table) (n r e p : ℕ) → length syms ≡ n → routines syms ≡ r → elements syms ≡ e
    → list_any is_wide (values_of syms) ≡ nat_lt max_parameters p →
    is_past_limits syms ≡ (nat_lt max_names n || nat_lt max_routines r || nat_lt max_elements e || nat_lt max_parameters p)
past_is syms n r e p a b c d = cc
