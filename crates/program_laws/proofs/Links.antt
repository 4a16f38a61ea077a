-- What linking a declarator does: the name is taken in under its program name, with the linkage that it had.
use Rattle.std.proofs.Common.{◌≡◌, ℕ, Bool, true, false, List, [], Option, Some, None, refl, sym, ap, ◌∙◌, subst}
use Rattle.std.specs.Prelude.{if◌then◌else◌, ◌||◌, not}
use Rattle.std.proofs.lemmas.Bool.{true≢false}
use Rattle.sym_tables.specs.declared.entity.Entity.{Entity}
use Rattle.sym_tables.specs.declared.fault.SymFault.{SymFault}
use Rattle.sym_tables.specs.declared.symbol.Standing.{Standing}
use Rattle.sym_tables.specs.Table.{refusal, enter as entered_table}
use Rattle.c_tree.specs.declared.expression.Identifier.{Identifier}
use Rattle.c_types.specs.declared.binding.Binding.{Binding}
use Rattle.c_types.specs.declared.fault.TypeKind.TheVariants as kinds
use Rattle.c_types.specs.declared.linkage.Linked.{Linked}
use Rattle.c_types.specs.declared.specifiers.Storage.{Storage}
use Rattle.c_types.specs.DeclarationRules as rules
use Rattle.c_types.specs.Names.{bound_here}
use Rattle.c_types.specs.Rules.{Here, Reply, Gives, Breaks, ◌>>=◌, followed, give, unless}
use Rattle.program_laws.proofs.Tables.{IsEntering, entering, place_number}

-- a name that is linked
pub record IsLinked (number : ℕ) (name : List ℕ) (standing : Standing) (said : Entity) (h : Here) (l : Linked) (g : Here) : Type 0 where
  pub goes : rules.goes_with h.syms (bound_here name h) said ≡ true
  pub internal : (b : Binding) → bound_here name h ≡ Some b → l.internal ≡ rules.is_internal b
  pub entering : IsEntering standing said (rules.program_name number l.internal name) h.syms l.pid g.syms
  pub names : g.names ≡ h.names
  pub awaited : g.awaited ≡ h.awaited
  pub locals : g.locals ≡ h.locals

abbrev pub LinkHolds : ℕ → List ℕ → Standing → Entity → Here → Reply Linked → Type 0
LinkHolds number name standing said h (Gives l g) = IsLinked number name standing said h l g
LinkHolds number name standing said h (Breaks line kind) = Unit {0}

-- ## The linkage

abbrev LinkageHolds : Here → Option Binding → Reply Bool → Type 0
LinkageHolds h old (Gives internal g) = (g ≡ h) × ((b : Binding) → old ≡ Some b → internal ≡ rules.is_internal b)
LinkageHolds h old (Breaks line kind) = Unit {0}

external_false : (o : Option Binding) → rules.was_external o ≡ false → (b : Binding) → o ≡ Some b → true ≡ rules.is_internal b
external_false None e b is = absurd (let c : None ≡ Some b = is in cc)
external_false (Some x) e b is = by_test (rules.is_internal x) refl e ∙ ap rules.is_internal (let c : x ≡ b = cc in c)
  where
    by_test : (c : Bool) → rules.is_internal x ≡ c → not c ≡ false → true ≡ rules.is_internal x
    by_test true is e = sym is
    by_test false is e = absurd (true≢false e)

internal_is : (o : Option Binding) (i : Bool) → rules.was_internal o ≡ i → (b : Binding) → o ≡ Some b → i ≡ rules.is_internal b
internal_is None i e b is = absurd (let c : None ≡ Some b = is in cc)
internal_is (Some x) i e b is = sym e ∙ ap rules.is_internal (let c : x ≡ b = cc in c)

linkage_does : (line : ℕ) (storage : Option Storage) (function : Bool) (old : Option Binding) (h : Here)
    → LinkageHolds h old (rules.linkage line storage function old h)
linkage_does line storage function old h = by_static (rules.is_static storage)
  where
    static : (b : Bool) → rules.was_external old ≡ b → LinkageHolds h old ((unless (not b) line kinds.Linkage >>= λ u. give true) h)
    static true is = tt
    static false is = (refl, external_false old is)

    plain : (b : Bool) → rules.was_internal old ≡ b → LinkageHolds h old ((unless (not b) line kinds.Linkage >>= λ u. give false) h)
    plain true is = tt
    plain false is = (refl, internal_is old false is)

    by_extern : (b : Bool)
        → LinkageHolds h old
        ((if b then give (rules.was_internal old) else (unless (not (rules.was_internal old)) line kinds.Linkage >>= λ u. give false)) h)
    by_extern true = (refl, internal_is old (rules.was_internal old) refl)
    by_extern false = plain (rules.was_internal old) refl

    by_static : (b : Bool) → LinkageHolds h old ((if b then (unless (not (rules.was_external old)) line kinds.Linkage >>= λ u. give true)
        else (if rules.is_extern storage || function then give (rules.was_internal old)
        else (unless (not (rules.was_internal old)) line kinds.Linkage >>= λ u. give false))) h)
    by_static true = static (rules.was_external old) refl
    by_static false = by_extern (rules.is_extern storage || function)

-- ## The table

abbrev EnterHolds : Standing → List ℕ → Entity → Here → Reply ℕ → Type 0
EnterHolds standing name said h (Gives pid g) =
    IsEntering standing said name h.syms pid g.syms × (g.names ≡ h.names) × (g.awaited ≡ h.awaited) × (g.locals ≡ h.locals)
EnterHolds standing name said h (Breaks line kind) = Unit {0}

enter_does : (line : ℕ) (standing : Standing) (name : List ℕ) (said : Entity) (h : Here)
    → EnterHolds standing name said h (rules.enter_name line standing name said h)
enter_does line standing name said h = by_refusal (refusal standing name said [] h.syms) refl
  where
    by_refusal : (o : Option SymFault) → refusal standing name said [] h.syms ≡ o → EnterHolds standing name said h (rules.entered line standing name said o h)
    by_refusal (Some fault) is = tt
    by_refusal None is = (
      subst (λ pid. IsEntering standing said name h.syms pid (entered_table standing name said [] h.syms)) (sym (place_number h.syms name))
          (entering standing said name h.syms is),
      refl,
      refl,
      refl,
    )

pub link_does : (number : ℕ) (x : Identifier) (storage : Option Storage) (function : Bool) (standing : Standing) (said : Entity) (h : Here)
    → LinkHolds number x.name standing said h (rules.link number x storage function standing said h)
link_does number x storage function standing said h = by_goes (rules.goes_with h.syms (bound_here x.name h) said) refl
  where
    entered : (internal : Bool) (g : Here) → rules.goes_with h.syms (bound_here x.name h) said ≡ true → g ≡ h
        → ((b : Binding) → bound_here x.name h ≡ Some b → internal ≡ rules.is_internal b)
        → (r : Reply ℕ) → EnterHolds standing (rules.program_name number internal x.name) said g r
        → LinkHolds number x.name standing said h (followed r (λ pid. give (record { pid = pid; internal = internal })))
    entered internal g goes same old (Gives pid k) ok = record {
      goes = goes;
      internal = old;
      entering = subst (λ (s : Here). IsEntering standing said (rules.program_name number internal x.name) s.syms pid k.syms) same ok.0;
      names = ok.1 ∙ ap (λ (s : Here). s.names) same;
      awaited = ok.2 ∙ ap (λ (s : Here). s.awaited) same;
      locals = ok.3 ∙ ap (λ (s : Here). s.locals) same;
    }
    entered internal g goes same old (Breaks line kind) ok = tt

    linked : rules.goes_with h.syms (bound_here x.name h) said ≡ true → (r : Reply Bool) → LinkageHolds h (bound_here x.name h) r
        → LinkHolds number x.name standing said h (followed r (λ internal. (rules.enter_name x.line standing (rules.program_name number internal x.name) said
        >>= λ pid. give (record { pid = pid; internal = internal }))))
    linked goes (Gives internal g) ok =
        entered internal g goes ok.0 ok.1 (rules.enter_name x.line standing (rules.program_name number internal x.name) said g)
        (enter_does x.line standing (rules.program_name number internal x.name) said g)
    linked goes (Breaks line kind) ok = tt

    by_goes : (b : Bool) → rules.goes_with h.syms (bound_here x.name h) said ≡ b
        → LinkHolds number x.name standing said h
        ((unless b x.line kinds.Redeclared >>= λ u. (rules.linkage x.line storage function (bound_here x.name h) >>= λ internal.
        (rules.enter_name x.line standing (rules.program_name number internal x.name) said >>= λ pid. give (record { pid = pid; internal = internal })))) h)
    by_goes true is = linked is (rules.linkage x.line storage function (bound_here x.name h) h) (linkage_does x.line storage function (bound_here x.name h) h)
    by_goes false is = tt
