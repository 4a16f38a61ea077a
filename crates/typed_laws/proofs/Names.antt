-- What a function's names stand for in the end: the types of its parameters, its locals, and the table. A name in scope is
-- good where its binding is what they say.
use Rattle.std.proofs.Common.{◌≡◌, ℕ, ◌+◌, ◌-◌, Bool, true, false, List, [], ◌∷◌, ◌++◌, Option, Some, None, refl, sym, ap, ap₂, ◌∙◌, subst, arith}
use Rattle.std.specs.Prelude.{if◌then◌else◌, ◌==◌, is_some, slice_get, ⊤}
use Rattle.std.specs.List.{list_any}
use Rattle.hlo_num.specs.declared.word.Ty.{Ty}
use Rattle.sym_tables.specs.declared.entity.Entity.{Entity}
use Rattle.sym_tables.specs.declared.entity.Entity.TheVariants as entities
use Rattle.sym_tables.specs.Table.{Table, same_name}
use Rattle.c_typed.specs.declared.function.Local.{Local}
use Rattle.c_typed.specs.declared.statement.Label.{Label}
use Rattle.c_typed.specs.declared.statement.Label.TheVariants as labels
use Rattle.c_types.specs.declared.binding.Binding.{Binding}
use Rattle.c_types.specs.declared.binding.Binding.TheVariants as bindings
use Rattle.c_types.specs.declared.binding.Extent.{Extent}
use Rattle.c_types.specs.declared.binding.Extent.TheVariants as extents
use Rattle.c_types.specs.DeclarationRules.{is_array}
use Rattle.c_types.specs.Names.{bind, enter, leave}
use Rattle.c_types.specs.Rules.{Here}
use Rattle.c_types.specs.Scopes.{Declared, latest, outer}
use Rattle.c_types.specs.StatementRules.{length_in}
use Rattle.type_laws.proofs.Going.{within_more, outer_none}
use Rattle.type_laws.proofs.Keeping.{AreWithin, outer_more}
use Rattle.program_laws.specs.Growing.{entity_at, Grows}
use Rattle.typed_laws.specs.WellTyped.{Scope}

-- the types of the parameters, the locals of the function (at file scope there is none), and the table
pub record Final : Type 0 where
  pub params : List Ty
  pub inner : Option (List Local)
  pub table : Table

abbrev pub locals_in : Option (List Local) → List Local
locals_in None = []
locals_in (Some ls) = ls

abbrev pub scope : Final → Scope
scope f = record { params = f.params; locals = locals_in f.inner; syms = f.table }

-- ## Bindings

-- what an object's binding says of its entity
abbrev pub IsObject : Ty → Bool → Extent → Entity → Type 0
IsObject ty fixed extents.Scalar e = e ≡ entities.Scalar ty fixed
IsObject ty fixed (extents.Array n) e = (length : Option ℕ) × (e ≡ entities.Array ty fixed length)

-- an array of a block has its length
abbrev pub HasLength : Extent → Type 0
HasLength x = is_some (length_in x) ≡ is_array x

abbrev pub IsNamed : Final → Binding → Type 0
IsNamed f (bindings.Parameter place ty fixed) = slice_get f.params place ≡ Some ty
IsNamed f (bindings.Local place ty fixed extent) =
    HasLength extent × (name : List ℕ) × (slice_get (locals_in f.inner) place ≡ Some (record { ty = ty; length = length_in extent; name = name }))
IsNamed f (bindings.Object pid internal ty fixed extent) = (e : Entity) × (entity_at f.table pid ≡ Some e) × IsObject ty fixed extent e
IsNamed f (bindings.Constant w) = ⊤
IsNamed f (bindings.Library x) = ⊤
IsNamed f (bindings.Function pid internal) = ⊤

abbrev pub AreNamed : Final → List (Declared Binding) → Type 0
AreNamed f [] = ⊤
AreNamed f (d ∷ ds) = IsNamed f d.stands_for × AreNamed f ds

abbrev pub IsFound : Final → Option (Declared Binding) → Type 0
IsFound f None = ⊤
IsFound f (Some d) = IsNamed f d.stands_for

pub found : (f : Final) (name : List ℕ) (ds : List (Declared Binding)) → AreNamed f ds → IsFound f (latest name ds)
found f name [] ok = tt
found f name (d ∷ ds) ok = by_test (same_name name d.name) (found f name ds ok.1)
  where
    by_test : (b : Bool) → IsFound f (latest name ds) → IsFound f (if b then Some d else latest name ds)
    by_test true more = ok.0
    by_test false more = more

-- ## Scopes

-- good names in scope, none deeper than the innermost scope
pub record IsSound (f : Final) (h : Here) : Type 0 where
  pub named : AreNamed f h.names.declared
  pub within : AreWithin h.names.depth h.names.declared

-- a state behind another one in the same scope
pub record Stays (f : Final) (h g : Here) : Type 0 where
  pub named : AreNamed f g.names.declared
  pub within : AreWithin g.names.depth g.names.declared
  pub outside : outer g.names.depth g.names.declared ≡ outer h.names.depth h.names.declared

pub sound_behind : (f : Final) (h g : Here) → Stays f h g → IsSound f g
sound_behind f h g x = record { named = x.named; within = x.within }

-- the same names
pub stays_same : (f : Final) (h g : Here) → g.names ≡ h.names → IsSound f h → Stays f h g
stays_same f h g same x = record {
  named = subst (λ n. AreNamed f n.declared) (sym same) x.named;
  within = subst (λ n. AreWithin n.depth n.declared) (sym same) x.within;
  outside = ap (λ n. outer n.depth n.declared) same;
}

pub stays_then : (f : Final) (h g k : Here) → Stays f h g → Stays f g k → Stays f h k
stays_then f h g k x y = record { named = y.named; within = y.within; outside = y.outside ∙ x.outside }

pub stays_bound : (f : Final) (name : List ℕ) (b : Binding) (h : Here) → IsNamed f b → IsSound f h → Stays f h (bind name b h)
stays_bound f name b h good x = record {
  named = (good, x.named);
  within = (omega arith, x.within);
  outside = outer_more h.names.depth (record { name = name; depth = h.names.depth; stands_for = b }) h.names.declared refl;
}

pub sound_entered : (f : Final) (h : Here) → IsSound f h → IsSound f (enter h)
sound_entered f h x = record {
  named = x.named;
  within = within_more h.names.depth (h.names.depth + 1) h.names.declared (omega arith) x.within;
}

-- a scope that was entered in front of a state is left behind it: the names are those before
pub stays_left : (f now : Final) (h k g : Here) → IsSound f h → g.names.depth ≡ h.names.depth + 1
    → outer k.names.depth k.names.declared ≡ outer (h.names.depth + 1) h.names.declared → Stays now k g → Stays f h (leave g)
stays_left f now h k g x deeper inside y =
    let depth : g.names.depth - 1 ≡ h.names.depth = omega (arith, deeper) in
    let names : outer g.names.depth g.names.declared ≡ h.names.declared = y.outside ∙ inside ∙ outer_none h.names.depth h.names.declared x.within in
    record {
      named = subst (λ ds. AreNamed f ds) (sym names) x.named;
      within = subst (λ ds. AreWithin (g.names.depth - 1) ds) (sym names) (subst (λ n. AreWithin n h.names.declared) (sym depth) x.within);
      outside = ap₂ outer depth names;
    }

-- ## Before the end

-- these locals are the first ones
abbrev pub IsFront : Option (List Local) → List Local → Type 0
IsFront None ls = ⊤
IsFront (Some all) ls = (rest : List Local) × (all ≡ ls ++ rest)

-- a state from which the final locals and the final table have come
abbrev pub Before : Final → Here → Type 0
Before f h = IsFront f.inner h.locals × Grows h.syms f.table

-- ## Labels

-- these cases and this default have a label; the innermost switch has it
abbrev pub has_label : List ℕ → Bool → Label → Bool
has_label cases default (labels.Case w) = list_any (λ v. w.0 == v) cases
has_label cases default labels.Default = default

abbrev pub is_seen : Label → Here → Bool
is_seen l h = has_label h.cases h.default l
