-- When a declaration or definition is refused, by what the code has found.
use Rattle.std.proofs.Common.{◌≡◌, ℕ, ◌+◌, ◌-◌, ◌≤◌, Bool, true, false, ◌&&◌, ◌||◌, List, [], ◌∷◌, ◌++◌, length, nat_lt, Option, Some, None, refl, sym}
use Rattle.std.proofs.Common.{ap, ◌∙◌, arith}
use Rattle.std.specs.List.{list_any}
use Rattle.std.specs.Map.{values_of}
use Rattle.hlo_num.specs.declared.word.Word.{Word}
use Rattle.indexmap.specs.Layout.{set_value_at, length-set_value_at}
use Rattle.il_core.specs.Limits.{max_elements, max_names, max_parameters, max_routines}
use Rattle.sym_tables.specs.declared.entity.Entity.{Entity}
use Rattle.sym_tables.specs.declared.fault.SymFault.TheVariants.{TypeClash, Duplicate, TooMany}
use Rattle.sym_tables.specs.declared.symbol.Standing.{Standing}
use Rattle.sym_tables.specs.declared.symbol.Symbol.{Symbol}
use Rattle.sym_tables.specs.Entities.{compatible, parameters}
use Rattle.sym_tables.specs.Sound.{IsKept}
use Rattle.sym_tables.specs.Symbols.{met, is_defined, routine_part, element_part}
use Rattle.sym_tables.specs.Table.{Table, symbol_at, refusal_of, is_past_limits, is_wide}
use Rattle.sym_tables.proofs.Limits.{within, past_is}
use Rattle.list_laws.proofs.Elements.{any_none, any_set}
use Rattle.sym_tables.proofs.Values.{values_set}
use Rattle.sym_tables.proofs.Meets.{narrow_met}
use Rattle.sym_tables.proofs.Tables.{routines_set, elements_set, routines_added, elements_added, length_added, wide_added}

-- what a declaration or definition of the PID at would make
abbrev pub set_met : Standing → Entity → List Word → Table → ℕ → Option Symbol → Table
set_met standing said init syms at known = set_value_at syms at (met standing said init known)

module _ (standing : Standing) (said : Entity) (init : List Word) (syms : Table) (at : ℕ) (known : Option Symbol) (s : Symbol) (k : known ≡ Some s) where
  pub clash : compatible s.entity said ≡ false → refusal_of known standing said (set_met standing said init syms at known) ≡ Some TypeClash
  clash h = ap (λ o. refusal_of o standing said (set_met standing said init syms at o)) k ∙ rw h refl

  pub repeat : compatible s.entity said ≡ true → (is_defined standing && is_defined s.standing) ≡ true
      → refusal_of known standing said (set_met standing said init syms at known) ≡ Some Duplicate
  repeat h d = ap (λ o. refusal_of o standing said (set_met standing said init syms at o)) k ∙ rw (h, d) refl

  pub many : compatible s.entity said ≡ true → (is_defined standing && is_defined s.standing) ≡ false
      → is_past_limits (set_met standing said init syms at (Some s)) ≡ true →
      refusal_of known standing said (set_met standing said init syms at known) ≡ Some TooMany
  many h d p = ap (λ o. refusal_of o standing said (set_met standing said init syms at o)) k ∙ rw (h, d, p) refl

  pub none : compatible s.entity said ≡ true → (is_defined standing && is_defined s.standing) ≡ false
      → is_past_limits (set_met standing said init syms at (Some s)) ≡ false →
      refusal_of known standing said (set_met standing said init syms at known) ≡ None
  none h d p = ap (λ o. refusal_of o standing said (set_met standing said init syms at o)) k ∙ rw (h, d, p) refl

-- the limits by the numbers, at a known name
pub past_met : (standing : Standing) (said : Entity) (init : List Word) (syms : Table) (at : ℕ) (s : Symbol) (r e least n r' e' p : ℕ) (b : Bool)
    → IsKept syms r e least → n ≡ length syms → symbol_at syms at ≡ Some s → compatible s.entity said ≡ true →
    (let v = met standing said init (Some s) in (r' + routine_part s.entity s.standing ≡ r + routine_part v.entity v.standing) ×
    (e' + element_part s.entity s.standing ≡ e + element_part v.entity v.standing) × (p ≡ parameters v.entity)) →
    b ≡ (nat_lt max_names n || nat_lt max_routines r' || nat_lt max_elements e' || nat_lt max_parameters p) →
    is_past_limits (set_met standing said init syms at (Some s)) ≡ b
past_met standing said init syms at s r e least n r' e' p b kept len k h nums is =
    let v : Symbol = met standing said init (Some s) in
    let w = within syms kept.sound.limits in
    let narrow : is_wide s ≡ false = any_none is_wide (values_of syms) at s w.narrow k in
    let new : is_wide v ≡ false = narrow_met standing said init s h narrow in
    let rc = kept.routines_counted in let ec = kept.elements_counted in
    let a = routines_set syms at s v k in let c = elements_set syms at s v k in
    let n0 = nums.0 in let n1 = nums.1 in
    past_is (set_value_at syms at v) n r' e' p (length-set_value_at syms at v ∙ sym len) (omega arith) (omega arith)
    (ap (list_any is_wide) (values_set syms at v) ∙ any_set is_wide (values_of syms) at v w.narrow new ∙ sym new ∙ ap (nat_lt max_parameters) (sym nums.2))
    ∙ sym is

-- and at a new one
pub past_added : (syms : Table) (name : List ℕ) (v : Symbol) (r e least n p : ℕ) (b : Bool) → IsKept syms r e least → n ≡ length syms + 1
    → p ≡ parameters v.entity →
    b ≡ (nat_lt max_names n || nat_lt max_routines (r + routine_part v.entity v.standing) || nat_lt max_elements (e + element_part v.entity v.standing) ||
    nat_lt max_parameters p) →
    is_past_limits (syms ++ (name, v) ∷ []) ≡ b
past_added syms name v r e least n p b kept len par is =
    let rc = kept.routines_counted in let ec = kept.elements_counted in
    let a = routines_added syms name v in let c = elements_added syms name v in
    past_is (syms ++ (name, v) ∷ []) n (r + routine_part v.entity v.standing) (e + element_part v.entity v.standing) p (length_added syms name v ∙ sym len)
    (omega arith) (omega arith)
    (wide_added syms name v (within syms kept.sound.limits) ∙ ap (nat_lt max_parameters) (sym par))
    ∙ sym is

-- the numbers that the code computes for a known name
pub routines_counted : (r a b : ℕ) (s : Symbol) (x y : Entity) (t u : Standing) → a ≤ r → a ≡ routine_part s.entity s.standing → b ≡ routine_part x t → x ≡ y
    → t ≡ u → (r - a + b) + routine_part s.entity s.standing ≡ r + routine_part y u
routines_counted r a b s x y t u l p q e f = let k : routine_part x t ≡ routine_part y u = ap (λ z. routine_part z t) e ∙ ap (routine_part y) f in omega arith

pub elements_counted : (r a b : ℕ) (s : Symbol) (x y : Entity) (t u : Standing) → a ≤ r → a ≡ element_part s.entity s.standing → b ≡ element_part x t → x ≡ y
    → t ≡ u → (r - a + b) + element_part s.entity s.standing ≡ r + element_part y u
elements_counted r a b s x y t u l p q e f = let k : element_part x t ≡ element_part y u = ap (λ z. element_part z t) e ∙ ap (element_part y) f in omega arith
