-- The first name with given bytes, by what a pass over the names has seen so far.
use Rattle.std.proofs.Common.{◌≡◌, ℕ, zero, suc, ◌+◌, ◌≤◌, true, false, List, [], ◌∷◌, take, length, Option, Some, None, refl, sym, ap, ◌∙◌, subst}
use Rattle.std.specs.List.{AllByRecursion, slice_get}
use Rattle.std.specs.Map.{keys_of}
use Rattle.indexmap.proofs.MapLemmas.{Found-position, Missing-position}
use Rattle.sym_tables.specs.declared.symbol.Symbol.{Symbol}
use Rattle.sym_tables.specs.Table.{Table, same_name, pid_of, symbol_of}
use Rattle.list_laws.proofs.Firsts.{first_found, none_found}
use Rattle.list_laws.proofs.Elements.{front_more}
use Rattle.sym_tables.proofs.Values.{value_at}

abbrev pub IsOther : List ℕ → List ℕ → Type 0
IsOther name key = same_name name key ≡ false

key_at : {K X : Type 0} (es : List (K × X)) (i : ℕ) (k : K) (v : X) → slice_get es i ≡ Some (k, v) → slice_get (keys_of es) i ≡ Some k
key_at {K} {X} [] i k v h = let o : Option (K × X) = None in let c : o ≡ Some (k, v) = h in absurd cc
key_at {K} {X} (e ∷ es) zero k v h = let c : Some e ≡ Some (k, v) = h in let d : e ≡ (k, v) = cc in ap (λ (p : K × X). Some p.0) d
key_at (e ∷ es) (suc i) k v h = key_at es i k v h

length_keys : {K X : Type 0} (es : List (K × X)) → length (keys_of es) ≡ length es
length_keys [] = refl
length_keys (e ∷ es) = ap suc (length_keys es)

-- one more name is another one
pub other_more : (syms : Table) (name : List ℕ) (at : ℕ) (key : List ℕ) (s : Symbol) → AllByRecursion (IsOther name) (take at (keys_of syms))
    → slice_get syms at ≡ Some (key, s) → same_name name key ≡ false →
    AllByRecursion (IsOther name) (take (at + 1) (keys_of syms))
other_more syms name at key s h k o = front_more (IsOther name) at (keys_of syms) key h (key_at syms at key s k) o

pub found_pid : (syms : Table) (name : List ℕ) (at : ℕ) (key : List ℕ) (s : Symbol) → AllByRecursion (IsOther name) (take at (keys_of syms))
    → slice_get syms at ≡ Some (key, s) → same_name name key ≡ true → pid_of syms name ≡ Some at
found_pid syms name at key s h k o = first_found (same_name name) (keys_of syms) at key h (key_at syms at key s k) o

pub found_symbol : (syms : Table) (name : List ℕ) (at : ℕ) (key : List ℕ) (s : Symbol) → AllByRecursion (IsOther name) (take at (keys_of syms))
    → slice_get syms at ≡ Some (key, s) → same_name name key ≡ true → symbol_of syms name ≡ Some s
found_symbol syms name at key s h k o = (Found-position (same_name name) syms at (found_pid syms name at key s h k o)).value ∙ value_at syms at key s k

pub none_pid : (syms : Table) (name : List ℕ) (at : ℕ) → AllByRecursion (IsOther name) (take at (keys_of syms)) → length syms ≤ at → pid_of syms name ≡ None
none_pid syms name at h l = none_found (same_name name) (keys_of syms) at h (subst (λ n. n ≤ at) (sym (length_keys syms)) l)

pub none_symbol : (syms : Table) (name : List ℕ) (at : ℕ) → AllByRecursion (IsOther name) (take at (keys_of syms)) → length syms ≤ at
    → symbol_of syms name ≡ None
none_symbol syms name at h l = (Missing-position (same_name name) syms (none_pid syms name at h l)).value
