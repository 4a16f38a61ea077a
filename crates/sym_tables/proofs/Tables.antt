-- A table stays sound, and its kept numbers stay true.
use Rattle.std.proofs.Common.{◌≡◌, ℕ, zero, suc, Bor, MutBor, ◌+◌, ◌≤◌, true, false, List, [], ◌∷◌, ◌++◌, length, refl, length-append, take, Option}
use Rattle.std.proofs.Common.{Some, None, sym, ap, ◌∙◌, subst, arith, sum_by}
use Rattle.std.specs.List.{AllByRecursion, list_any, slice_get, slice_set}
use Rattle.std.specs.Map.{values_of}
use Rattle.indexmap.specs.Layout.{set_value_at}
use Rattle.hlo_num.specs.declared.word.Word.{Word}
use Rattle.sym_tables.specs.declared.symbol.Symbol.{Symbol}
use Rattle.sym_tables.specs.Sound.{FitsWords, IsKept}
use Rattle.sym_tables.specs.Symbols.{is_open, routine_part, element_part}
use Rattle.std.specs.Map.Iter.{deref_pair}
use Rattle.std.specs.Option.{option_map, option_copied_mut}
use Rattle.sym_tables.specs.Table.{Table, given, initialised, mark, routines, elements, is_wide, is_past_limits, symbol_at}
use Rattle.sym_tables.proofs.Limits.{Within}
use Rattle.list_laws.proofs.Elements.{sum_set, sum_added, part_le, any_added, all_set, all_added}
use Rattle.sym_tables.proofs.Values.{values_set, values_added, value_at}

abbrev r_of : Symbol → ℕ
r_of s = routine_part s.entity s.standing

abbrev e_of : Symbol → ℕ
e_of s = element_part s.entity s.standing

pub routines_set : (syms : Table) (at : ℕ) (s v : Symbol) → symbol_at syms at ≡ Some s
    → routines (set_value_at syms at v) + routine_part s.entity s.standing ≡ routines syms + routine_part v.entity v.standing
routines_set syms at s v h = ap (λ l. sum_by r_of l + r_of s) (values_set syms at v) ∙ sum_set r_of (values_of syms) at s v h

pub elements_set : (syms : Table) (at : ℕ) (s v : Symbol) → symbol_at syms at ≡ Some s
    → elements (set_value_at syms at v) + element_part s.entity s.standing ≡ elements syms + element_part v.entity v.standing
elements_set syms at s v h = ap (λ l. sum_by e_of l + e_of s) (values_set syms at v) ∙ sum_set e_of (values_of syms) at s v h

pub routine_there : (syms : Table) (at : ℕ) (s : Symbol) → symbol_at syms at ≡ Some s → routine_part s.entity s.standing ≤ routines syms
routine_there syms at s h = part_le r_of (values_of syms) at s h

pub element_there : (syms : Table) (at : ℕ) (s : Symbol) → symbol_at syms at ≡ Some s → element_part s.entity s.standing ≤ elements syms
element_there syms at s h = part_le e_of (values_of syms) at s h

-- another symbol stands at a place
pub kept_set : (syms : Table) (at : ℕ) (s v : Symbol) (r e r' e' least n : ℕ) → IsKept syms r e least → symbol_at syms at ≡ Some s → FitsWords v
    → is_past_limits (set_value_at syms at v) ≡ false →
    r' + routine_part s.entity s.standing ≡ r + routine_part v.entity v.standing
    → e' + element_part s.entity s.standing ≡ e + element_part v.entity v.standing →
    AllByRecursion (λ x. is_open x ≡ false) (take n (slice_set (values_of syms) at v)) → IsKept (set_value_at syms at v) r' e' n
kept_set syms at s v r e r' e' least n k h fits limits dr de closed =
    let a = routines_set syms at s v h in let b = elements_set syms at s v h in let rc = k.routines_counted in let ec = k.elements_counted in
    record {
      sound = record {
        limits = limits;
        inits = subst (AllByRecursion FitsWords) (sym (values_set syms at v)) (all_set FitsWords (values_of syms) at v k.sound.inits fits);
      };
      routines_counted = omega arith;
      elements_counted = omega arith;
      least_open = subst (λ l. AllByRecursion (λ x. is_open x ≡ false) (take n l)) (sym (values_set syms at v)) closed;
    }

pub length_added : (syms : Table) (name : List ℕ) (v : Symbol) → length (syms ++ (name, v) ∷ []) ≡ length syms + 1
length_added syms name v = length-append syms ((name, v) ∷ [])

pub routines_added : (syms : Table) (name : List ℕ) (v : Symbol) → routines (syms ++ (name, v) ∷ []) ≡ routines syms + routine_part v.entity v.standing
routines_added syms name v = ap (sum_by r_of) (values_added syms (name, v)) ∙ sum_added r_of (values_of syms) v

pub elements_added : (syms : Table) (name : List ℕ) (v : Symbol) → elements (syms ++ (name, v) ∷ []) ≡ elements syms + element_part v.entity v.standing
elements_added syms name v = ap (sum_by e_of) (values_added syms (name, v)) ∙ sum_added e_of (values_of syms) v

pub wide_added : (syms : Table) (name : List ℕ) (v : Symbol) → Within syms → list_any is_wide (values_of (syms ++ (name, v) ∷ [])) ≡ is_wide v
wide_added syms name v w = ap (list_any is_wide) (values_added syms (name, v)) ∙ any_added is_wide (values_of syms) v w.narrow

-- a name was added
pub kept_added : (syms : Table) (name : List ℕ) (v : Symbol) (r e least n : ℕ) → IsKept syms r e least → FitsWords v
    → is_past_limits (syms ++ (name, v) ∷ []) ≡ false →
    AllByRecursion (λ x. is_open x ≡ false) (take n (values_of syms ++ v ∷ []))
    → IsKept (syms ++ (name, v) ∷ []) (r + routine_part v.entity v.standing) (e + element_part v.entity v.standing) n
kept_added syms name v r e least n k fits limits closed =
    let rc = k.routines_counted in let ec = k.elements_counted in
    let a = routines_added syms name v in let b = elements_added syms name v in
    record {
      sound = record {
        limits = limits;
        inits = subst (AllByRecursion FitsWords) (sym (values_added syms (name, v))) (all_added FitsWords (values_of syms) v k.sound.inits fits);
      };
      routines_counted = omega arith;
      elements_counted = omega arith;
      least_open = subst (λ l. AllByRecursion (λ x. is_open x ≡ false) (take n l)) (sym (values_added syms (name, v))) closed;
    }

-- a use changes one mark
pub mark_at : (syms : Table) (pid : ℕ) (s : Symbol) → symbol_at syms pid ≡ Some s → set_value_at syms pid (record s { used = true }) ≡ mark syms pid
mark_at [] pid s h = let o : Option Symbol = None in let c : o ≡ Some s = h in absurd cc
mark_at (e ∷ es) zero s h = let d : e.1 ≡ s = (let c : Some e.1 ≡ Some s = h in cc) in ap
    (λ (x : Symbol). let v : Symbol = record x { used = true } in (e.0, v) ∷ es) (sym d)
mark_at (e ∷ es) (suc pid) s h = ap (λ l. e ∷ l) (mark_at es pid s h)

-- initial words change one symbol, and nothing past the end
pub given_at : (syms : Table) (pid : ℕ) (s : Symbol) (init : List Word) → symbol_at syms pid ≡ Some s
    → set_value_at syms pid (given init s) ≡ initialised syms pid init
given_at [] pid s init h = let o : Option Symbol = None in let c : o ≡ Some s = h in absurd cc
given_at (e ∷ es) zero s init h = let d : e.1 ≡ s = (let c : Some e.1 ≡ Some s = h in cc) in ap (λ (x : Symbol). (e.0, given init x) ∷ es) (sym d)
given_at (e ∷ es) (suc pid) s init h = ap (λ l. e ∷ l) (given_at es pid s init h)

pub given_past : (syms : Table) (pid : ℕ) (init : List Word) → length syms ≤ pid → initialised syms pid init ≡ syms
given_past [] pid init h = refl
given_past (e ∷ es) zero init h = absurd (let p : length (e ∷ es) ≤ 0 = h in omega arith)
given_past (e ∷ es) (suc pid) init h = ap (λ l. e ∷ l) (given_past es pid init (omega arith))

pub known_mut : (xs : List Symbol) (at : ℕ) (r : Option (MutBor Symbol)) (x : MutBor Symbol) → option_copied_mut r ≡ slice_get xs at → r ≡ Some x
    → slice_get xs at ≡ Some x.now
known_mut xs at r x e h = sym e ∙ ap option_copied_mut h

-- what is found at a place
pub found_at : (syms : Table) (at : ℕ) (r : Option (Bor (List ℕ) × Bor Symbol)) (x : Bor (List ℕ) × Bor Symbol) → option_map deref_pair r ≡ slice_get syms at
    → r ≡ Some x → slice_get syms at ≡ Some (x.0.now, x.1.now)
found_at syms at r x e h = sym e ∙ ap (option_map deref_pair) h

pub known_at : (syms : Table) (at : ℕ) (r : Option (Bor (List ℕ) × Bor Symbol)) (x : Bor (List ℕ) × Bor Symbol) → option_map deref_pair r ≡ slice_get syms at
    → r ≡ Some x → symbol_at syms at ≡ Some x.1.now
known_at syms at r x e h = value_at syms at x.0.now x.1.now (found_at syms at r x e h)
