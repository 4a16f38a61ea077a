-- A table that has taken in a use, a declaration or a definition keeps its numbers.
use Rattle.std.proofs.Common.{◌≡◌, ℕ, ◌+◌, ◌≤◌, ◌==◌, Bool, true, false, if◌then◌else◌, min, List, [], ◌∷◌, ◌++◌, length, take, zero, suc, Some, None}
use Rattle.std.proofs.Common.{refl, sym, ap, ◌∙◌, arith}
use Rattle.std.proofs.lemmas.List.{length-take}
use Rattle.std.specs.List.{AllByRecursion, list_any, slice_get, slice_set}
use Rattle.std.specs.Map.{values_of}
use Rattle.hlo_num.specs.declared.word.Word.{Word}
use Rattle.indexmap.specs.Layout.{set_value_at, length-set_value_at}
use Rattle.sym_tables.specs.declared.entity.Entity.{Entity}
use Rattle.sym_tables.specs.declared.symbol.Standing.{Standing}
use Rattle.sym_tables.specs.declared.symbol.Symbol.{Symbol}
use Rattle.sym_tables.specs.Entities.{compatible, words}
use Rattle.sym_tables.specs.Sound.{IsKept, FitsWords}
use Rattle.sym_tables.specs.Symbols.{met, is_open, routine_part, element_part}
use Rattle.sym_tables.specs.Table.{Table, given, symbol_at, is_past_limits, is_wide}
use Rattle.sym_tables.proofs.Least.{least_used, least_met, least_added}
use Rattle.sym_tables.proofs.Limits.{within, not_past}
use Rattle.list_laws.proofs.Elements.{any_none, any_set, all_at}
use Rattle.sym_tables.proofs.Values.{values_set, length_values}
use Rattle.sym_tables.proofs.Meets.{closed_met, fits_met}
use Rattle.sym_tables.proofs.Tables.{kept_set, kept_added, routines_set, elements_set}

pub kept_used : (syms : Table) (pid r e least n : ℕ) (s : Symbol) (b : Bool) → IsKept syms r e least → symbol_at syms pid ≡ Some s →
    (let v : Symbol = record s { used = true } in b ≡ is_open v) → n ≡ (if b then min least pid else least) →
    IsKept (set_value_at syms pid (record s { used = true })) r e n
kept_used syms pid r e least n s b kept k is now =
    let v : Symbol = record s { used = true } in
    let w = within syms kept.sound.limits in let names = w.names in let few = w.routines_few in let less = w.elements_few in
    let a = routines_set syms pid s v k in let c = elements_set syms pid s v k in let len = length-set_value_at syms pid v in
    kept_set syms pid s v r e r e least n kept k (all_at FitsWords (values_of syms) pid s kept.sound.inits k)
    (not_past (set_value_at syms pid v) (record {
      names = omega arith;
      routines_few = omega arith;
      elements_few = omega arith;
      narrow = ap (list_any is_wide) (values_set syms pid v) ∙ any_set is_wide (values_of syms) pid v w.narrow
          (any_none is_wide (values_of syms) pid s w.narrow k);
    }))
    refl refl (least_used (values_of syms) pid least n v kept.least_open (now ∙ ap (λ x. if x then min least pid else least) is))

-- what is used and not defined stays so
still_closed : (xs : List Symbol) (at n : ℕ) (s v : Symbol) → slice_get xs at ≡ Some s → is_open v ≡ is_open s
    → AllByRecursion (λ x. is_open x ≡ false) (take n xs) → AllByRecursion (λ x. is_open x ≡ false) (take n (slice_set xs at v))
still_closed [] at n s v k same all = all
still_closed (x ∷ xs) at zero s v k same all = tt
still_closed (x ∷ xs) zero (suc n) s v k same all = let e : x ≡ s = (let c : Some x ≡ Some s = k in cc) in (same ∙ ap is_open (sym e) ∙ all.0, all.1)
still_closed (x ∷ xs) (suc at) (suc n) s v k same all = (all.0, still_closed xs at n s v k same all.1)

pub kept_given : (syms : Table) (pid r e least : ℕ) (s : Symbol) (init : List Word) → IsKept syms r e least → symbol_at syms pid ≡ Some s
    → IsKept (set_value_at syms pid (given init s)) r e least
kept_given syms pid r e least s init kept k =
    let v : Symbol = given init s in
    let w = within syms kept.sound.limits in let names = w.names in let few = w.routines_few in let less = w.elements_few in
    let a = routines_set syms pid s v k in let c = elements_set syms pid s v k in let len = length-set_value_at syms pid v in
    kept_set syms pid s v r e r e least least kept k (let e = length-take (words s.entity) init in omega arith)
    (not_past (set_value_at syms pid v) (record {
      names = omega arith;
      routines_few = omega arith;
      elements_few = omega arith;
      narrow = ap (list_any is_wide) (values_set syms pid v) ∙ any_set is_wide (values_of syms) pid v w.narrow
          (any_none is_wide (values_of syms) pid s w.narrow k);
    }))
    refl refl (still_closed (values_of syms) pid least s v k refl kept.least_open)

pub kept_met : (standing : Standing) (said : Entity) (init : List Word) (syms : Table) (at r e least r' e' n : ℕ) (s : Symbol) (b : Bool)
    → IsKept syms r e least → symbol_at syms at ≡ Some s → compatible s.entity said ≡ true → length init ≤ words said →
    (let v = met standing said init (Some s) in (r' + routine_part s.entity s.standing ≡ r + routine_part v.entity v.standing) ×
    (e' + element_part s.entity s.standing ≡ e + element_part v.entity v.standing) × (b ≡ is_open v)) →
    is_past_limits (set_value_at syms at (met standing said init (Some s))) ≡ false → n ≡ (if b then least else (if least == at then at + 1 else least)) →
    IsKept (set_value_at syms at (met standing said init (Some s))) r' e' n
kept_met standing said init syms at r e least r' e' n s b kept k h fits nums limits now =
    let v : Symbol = met standing said init (Some s) in
    kept_set syms at s v r e r' e' least n kept k (fits_met standing said init s h (all_at FitsWords (values_of syms) at s kept.sound.inits k) fits) limits
    nums.0 nums.1
    (least_met (values_of syms) at least n s v kept.least_open k (closed_met standing said init s)
    (now ∙ ap (λ x. if x then least else (if least == at then at + 1 else least)) nums.2))

pub kept_new : (syms : Table) (name : List ℕ) (standing : Standing) (said : Entity) (init : List Word) (r e least n at : ℕ) → IsKept syms r e least
    → length init ≤ words said →
    is_past_limits (syms ++ (name, met standing said init None) ∷ []) ≡ false → at ≡ length syms
    → n ≡ (if false then least else (if least == at then at + 1 else least)) →
    IsKept (syms ++ (name, met standing said init None) ∷ []) (r + routine_part said standing) (e + element_part said standing) n
kept_new syms name standing said init r e least n at kept fits limits place now =
    let v : Symbol = met standing said init None in
    kept_added syms name v r e least n kept fits limits
    (least_added (values_of syms) least n v kept.least_open refl (now ∙ ap (λ x. if least == x then x + 1 else least) (place ∙ sym (length_values syms))))
