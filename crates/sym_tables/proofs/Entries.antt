-- The PID of a name decides what a declaration or definition of it makes.
use Rattle.std.proofs.Common.{◌≡◌, ℕ, Bool, true, false, Option, if◌then◌else◌, List, [], ◌∷◌, ◌++◌, length, Some, None, refl, sym, ap, ◌∙◌, subst}
use Rattle.hlo_num.specs.declared.word.Word.{Word}
use Rattle.indexmap.proofs.MapLemmas.{Found-position, insert_entry-first, insert_entry-absent, absent_from_lookup, or_len-absent}
use Rattle.sym_tables.specs.declared.entity.Entity.{Entity}
use Rattle.sym_tables.specs.declared.fault.SymFault.{SymFault}
use Rattle.sym_tables.specs.declared.fault.SymFault.TheVariants.{TypeClash, Duplicate, TooMany, Memory}
use Rattle.sym_tables.specs.declared.symbol.Standing.{Standing}
use Rattle.sym_tables.specs.Symbols.{met}
use Rattle.sym_tables.specs.Table.{Table, same_name, pid_of, symbol_of, symbol_at, enter, refusal, refusal_of, IsEntered, IsRefused, IsTold}
use Rattle.sym_tables.proofs.Refusals.{set_met}

-- what is wrong is never want of memory
never_memory : (a b p : Bool) (fault : SymFault)
    → (if a then Some TypeClash else (if b then Some Duplicate else (if p then Some TooMany else None))) ≡ Some fault → fault ≡ Memory → ⊥
never_memory true b p fault h m = cc
never_memory false true p fault h m = cc
never_memory false false true fault h m = cc
never_memory false false false fault h m = let o : Option SymFault = None in let c : o ≡ Some fault = h in cc

module _ (standing : Standing) (name : List ℕ) (said : Entity) (init : List Word) (old : Table) (at : ℕ) (p : pid_of old name ≡ Some at) where
  known_there : symbol_of old name ≡ symbol_at old at
  known_there = (Found-position (same_name name) old at p).value

  made_there : enter standing name said init old ≡ set_met standing said init old at (symbol_at old at)
  made_there = insert_entry-first same_name name (met standing said init (symbol_of old name)) old at (Found-position (same_name name) old at p).first
      ∙ ap (set_met standing said init old at) known_there

  refusal_there : refusal standing name said init old ≡ refusal_of (symbol_at old at) standing said (set_met standing said init old at (symbol_at old at))
  refusal_there = ap (λ o. refusal_of o standing said (enter standing name said init old)) known_there ∙ ap (refusal_of (symbol_at old at) standing said)
      made_there

  pub entered_there : (pid : ℕ) (new : Table)
      → (pid ≡ at) × (new ≡ set_met standing said init old at (symbol_at old at)) ×
      (refusal_of (symbol_at old at) standing said (set_met standing said init old at (symbol_at old at)) ≡ None) →
      IsEntered standing name said init old pid new
  entered_there pid new h = record {
    accepted = refusal_there ∙ h.2;
    number = h.0 ∙ sym (Found-position (same_name name) old at p).or_len;
    table = h.1 ∙ sym made_there;
  }

  pub told_there : (fault : SymFault) (new : Table)
      → (new ≡ old) × (refusal_of (symbol_at old at) standing said (set_met standing said init old at (symbol_at old at)) ≡ Some fault)
      → IsRefused standing name said init old fault new
  told_there fault new h = record {
    unchanged = h.0;
    told = subst (λ r. IsTold r fault) (sym (refusal_there ∙ h.1)) refl;
    memory = λ m. absurd (never_memory _ _ _ fault h.1 m);
  }

module _ (standing : Standing) (name : List ℕ) (said : Entity) (init : List Word) (old : Table) (none : symbol_of old name ≡ None) where
  added : Table
  added = old ++ (name, met standing said init None) ∷ []

  made_new : enter standing name said init old ≡ old ++ (name, met standing said init None) ∷ []
  made_new = insert_entry-absent same_name name (met standing said init (symbol_of old name)) old (absent_from_lookup (same_name name) old none)
      ∙ ap (λ o. old ++ (name, met standing said init o) ∷ []) none

  refusal_new : refusal standing name said init old ≡ refusal_of None standing said (old ++ (name, met standing said init None) ∷ [])
  refusal_new = ap (λ o. refusal_of o standing said (enter standing name said init old)) none ∙ ap (refusal_of None standing said) made_new

  pub entered_new : (pid : ℕ) (new : Table)
      → (pid ≡ length old) × (new ≡ old ++ (name, met standing said init None) ∷ []) ×
      (refusal_of None standing said (old ++ (name, met standing said init None) ∷ []) ≡ None) →
      IsEntered standing name said init old pid new
  entered_new pid new h = record {
    accepted = refusal_new ∙ h.2;
    number = h.0 ∙ sym (or_len-absent (same_name name) old (absent_from_lookup (same_name name) old none));
    table = h.1 ∙ sym made_new;
  }

  pub told_new : (fault : SymFault) (new : Table) → (new ≡ old) × IsTold (refusal_of None standing said (old ++ (name, met standing said init None) ∷ [])) fault
      → IsRefused standing name said init old fault new
  told_new fault new h = record { unchanged = h.0; told = subst (λ r. IsTold r fault) (sym refusal_new) h.1; memory = λ m. none }
