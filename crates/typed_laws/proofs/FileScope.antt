-- The rules of declarations at file scope keep names good: an object is bound as what the table has.
use Rattle.std.proofs.Common.{◌≡◌, ℕ, ◌-◌, List, [], ◌∷◌, ◌++◌, Option, Some, None, Bool, true, false, length, refl, sym, subst}
use Rattle.std.specs.Prelude.{if◌then◌else◌, ◌&&◌, ◌||◌, not, nat_lt, is_none, codes, ⊤}
use Rattle.std.specs.Option.{unwrap_or}
use Rattle.hlo_num.specs.declared.word.Ty.{Ty}
use Rattle.hlo_num.specs.Words.{convert}
use Rattle.sym_tables.specs.declared.entity.Entity.{Entity}
use Rattle.sym_tables.specs.declared.entity.Entity.TheVariants as entities
use Rattle.sym_tables.specs.declared.fault.SymFault.{SymFault}
use Rattle.sym_tables.specs.declared.symbol.Standing.{Standing}
use Rattle.sym_tables.specs.declared.symbol.Standing.TheVariants as standings
use Rattle.sym_tables.specs.Table.{same_name, refusal, enter as entered_table, number_of, symbol_at, initialised}
use Rattle.c_tree.specs.declared.expression.Expr.{Expr}
use Rattle.c_tree.specs.declared.expression.Identifier.{Identifier}
use Rattle.c_tree.specs.declared.declaration.Declarator.{Declarator}
use Rattle.c_tree.specs.declared.declaration.Shape.{Shape}
use Rattle.c_tree.specs.declared.declaration.Shape.TheVariants as shapes
use Rattle.c_tree.specs.declared.declaration.Initialiser.{Initialiser}
use Rattle.c_tree.specs.declared.declaration.Initialiser.TheVariants as initialisers
use Rattle.c_types.specs.declared.binding.Binding.{Binding}
use Rattle.c_types.specs.declared.binding.Binding.TheVariants as bindings
use Rattle.c_types.specs.declared.binding.Extent.{Extent}
use Rattle.c_types.specs.declared.binding.Extent.TheVariants as extents
use Rattle.c_types.specs.declared.binding.Library.TheVariants as library
use Rattle.c_types.specs.declared.fault.TypeKind.TheVariants as kinds
use Rattle.c_types.specs.declared.specifiers.Specified.{Specified}
use Rattle.c_types.specs.declared.specifiers.Storage.{Storage}
use Rattle.c_types.specs.DeclarationRules as rules
use Rattle.c_types.specs.Enumerations.{is_library}
use Rattle.c_types.specs.Names.{bound_here, declare_new}
use Rattle.c_types.specs.Rules.{Here}
use Rattle.c_types.specs.StatementRules.{is_length}
use Rattle.program_laws.specs.Growing.{entity_at, IsMore}
use Rattle.program_laws.proofs.Tables.{IsEntering, entering, place_number, entity_met, entity_here, said_here, entering_grows, more_then}
use Rattle.program_laws.proofs.Tables.{initialised_marked, marked_grows}
use Rattle.typed_laws.proofs.Judging.{Any, Holds, Does, DoesIf, step_beside, and, and_if, gives, breaks, knows, changes, if_tests, choose, binds}
use Rattle.typed_laws.proofs.Names.{Final, IsObject, IsNamed, stays_same}
use Rattle.typed_laws.proofs.Statements.{constant_word_does, length_does, value_type_does}

module _ (f : Final) where
  pub declares_new : {G : Type 0} (x : Identifier) (b : Binding) → (G → IsNamed f b) → DoesIf f G Any (declare_new x b)
  declares_new x b ok =
      and f (knows f (bound_here x.name)) (λ old. if_tests f (is_none old) x.line kinds.Redeclared (λ o is. binds f x.name b (λ g. ok g.0)))

  -- ## Linkage

  linkage_does : {G : Type 0} (line : ℕ) (storage : Option Storage) (function : Bool) (old : Option Binding)
      → DoesIf f G Any (rules.linkage line storage function old)
  linkage_does line storage function old =
      choose f (rules.is_static storage)
      (if_tests f (not (rules.was_external old)) line kinds.Linkage (λ o is. gives f true (λ g. tt)))
      (choose f (rules.is_extern storage || function) (gives f (rules.was_internal old) (λ g. tt))
      (if_tests f (not (rules.was_internal old)) line kinds.Linkage (λ o is. gives f false (λ g. tt))))

  -- what a declaration says of a name holds in the end, up to a length that comes
  abbrev IsSaid : Entity → ℕ → Type 0
  IsSaid said pid = (e : Entity) × (entity_at f.table pid ≡ Some e) × IsMore said e

  enter_name_does : (line : ℕ) (standing : Standing) (name : List ℕ) (said : Entity) → Does f (IsSaid said) (rules.enter_name line standing name said)
  enter_name_does line standing name said = record { by = λ h. by_refusal h (refusal standing name said [] h.syms) refl }
    where
      by_refusal : (h : Here) (o : Option SymFault) → refusal standing name said [] h.syms ≡ o
          → Holds f ⊤ h (IsSaid said) (rules.entered line standing name said o h)
      by_refusal h (Some fault) is = tt
      by_refusal h None is =
          let k : IsEntering standing said name h.syms (number_of h.syms name) (entered_table standing name said [] h.syms) =
          subst (λ pid. IsEntering standing said name h.syms pid (entered_table standing name said [] h.syms)) (sym (place_number h.syms name))
          (entering standing said name h.syms is) in
          let met = entity_met (symbol_at h.syms (number_of h.syms name)) said in
          let after : Here = record h { syms = entered_table standing name said [] h.syms } in (
            step_beside f h after refl refl (entering_grows k) refl refl,
            λ before given sound.
                let now = before.1.entities (number_of h.syms name) met (entity_here k) in
                (stays_same f h after refl sound, (now.0, now.1, more_then said met now.0 (said_here k) now.2)),
          )

  pub link_does : (number : ℕ) (x : Identifier) (storage : Option Storage) (function : Bool) (standing : Standing) (said : Entity)
      → Does f (λ l. IsSaid said l.pid) (rules.link number x storage function standing said)
  link_does number x storage function standing said =
      and f (knows f (bound_here x.name)) (λ old.
      and f (knows f (λ (h : Here). rules.goes_with h.syms old said)) (λ goes.
      if_tests f goes x.line kinds.Redeclared (λ o is.
      and f (linkage_does x.line storage function old) (λ internal.
      and f (enter_name_does x.line standing (rules.program_name number internal x.name) said) (λ pid.
      gives f (record { pid = pid; internal = internal }) (λ g. g.1))))))

  -- ## Functions

  library_named : (b : Bool) (c : Bool) (x y z : Binding) → IsNamed f x → IsNamed f y → IsNamed f z
      → IsNamed f (if b then x else (if c then y else z))
  library_named true c x y z nx ny nz = nx
  library_named false true x y z nx ny nz = ny
  library_named false false x y z nx ny nz = nz

  declare_library_does : {G : Type 0} (x : Identifier) (storage : Option Storage) (said : Entity) (defines : Bool)
      → DoesIf f G Any (rules.declare_library x storage said defines)
  declare_library_does x storage said defines =
      if_tests f (not defines && not (rules.is_static storage) && rules.is_library_type (rules.library_entity x.name) said) x.line kinds.Library (λ o a0.
      and f (knows f (bound_here x.name)) (λ old.
      if_tests f (not (rules.is_bound_otherwise old)) x.line kinds.Redeclared (λ o a1.
      binds f x.name (rules.library_binding x.name) (λ g.
      library_named (same_name (codes "getchar") x.name) (same_name (codes "putchar") x.name)
      (bindings.Library library.GetChar) (bindings.Library library.PutChar) (bindings.Library library.Exit) tt tt tt))))

  pub declare_function_does : {G : Type 0} (number : ℕ) (x : Identifier) (storage : Option Storage) (said : Entity)
      → DoesIf f G Any (rules.declare_function number x storage said)
  declare_function_does number x storage said =
      choose f (is_library x.name) (declare_library_does x storage said false)
      (and f (link_does number x storage true standings.Declared said) (λ l. binds f x.name (bindings.Function l.pid l.internal) (λ g. tt)))

  pub no_initialiser_does : {G : Type 0} (i : Option Initialiser) → DoesIf f G Any (rules.no_initialiser i)
  no_initialiser_does None = gives f tt (λ g. tt)
  no_initialiser_does (Some i) = breaks f _ _

  -- ## Objects

  file_extent_does : (line : ℕ) (x : Shape) (i : Option Initialiser) → Does f Any (rules.file_extent line x i)
  file_extent_does line shapes.Plain i = gives f _ (λ g. tt)
  file_extent_does line (shapes.Array (Some e)) i = and f (length_does f line e) (λ n. gives f (extents.Array (Some n)) (λ g. tt))
  file_extent_does line (shapes.Array None) (Some (initialisers.List l es)) =
      if_tests f (is_length (length es)) line kinds.ArraySize (λ o is. gives f (extents.Array (Some (length es))) (λ g. tt))
  file_extent_does line (shapes.Array None) (Some (initialisers.Value e)) = gives f _ (λ g. tt)
  file_extent_does line (shapes.Array None) None = gives f _ (λ g. tt)
  file_extent_does line (shapes.Function ps) i = gives f _ (λ g. tt)

  element_words_do : {G : Type 0} (line : ℕ) (ty : Ty) (room : ℕ) (es : List Expr) → DoesIf f G Any (rules.element_words line ty room es)
  element_words_do line ty room [] = gives f [] (λ g. tt)
  element_words_do line ty room (e ∷ es) =
      if_tests f (nat_lt 0 room) line kinds.ArraySize (λ o is.
      and f (constant_word_does f e) (λ w.
      and_if f (element_words_do line ty (room - 1) es) (λ ws. gives f (record { 0 = convert ty w } ∷ ws) (λ g. tt))))

  initial_words_do : (line : ℕ) (ty : Ty) (x : Extent) (i : Initialiser) → Does f Any (rules.initial_words line ty x i)
  initial_words_do line ty extents.Scalar (initialisers.Value e) =
      and f (constant_word_does f e) (λ w. gives f (record { 0 = convert ty w } ∷ []) (λ g. tt))
  initial_words_do line ty extents.Scalar (initialisers.List l es) = breaks f _ _
  initial_words_do line ty (extents.Array n) (initialisers.Value e) = breaks f _ _
  initial_words_do line ty (extents.Array n) (initialisers.List l es) = element_words_do line ty (unwrap_or n 0) es

  begun_does : {G : Type 0} (x : Identifier) (pid : ℕ) (ty : Ty) (extent : Extent) (storage : Option Storage) (i : Option Initialiser)
      → DoesIf f G Any (rules.begun x pid ty extent storage i)
  begun_does x pid ty extent storage (Some i) =
      and f (initial_words_do x.line ty extent i) (λ words.
      changes f (λ (h : Here). record h { syms = initialised h.syms pid words })
      (λ h. step_beside f h (record h { syms = initialised h.syms pid words }) refl refl
      (marked_grows h.syms (initialised h.syms pid words) (initialised_marked h.syms pid words)) refl refl)
      (λ h sound. stays_same f h (record h { syms = initialised h.syms pid words }) refl sound))
  begun_does x pid ty extent storage None =
      choose f (rules.is_array extent && not (rules.is_extern storage))
      (changes f (λ (h : Here). record h { awaited = h.awaited ++ record { name = x.name; line = x.line } ∷ [] })
      (λ h. record { before = λ b. b; depth = refl; seen = λ l s. s })
      (λ h sound. stays_same f h (record h { awaited = h.awaited ++ record { name = x.name; line = x.line } ∷ [] }) refl sound))
      (gives f tt (λ g. tt))

  -- an array, whatever its length
  some_array : (ty : Ty) (fixed : Bool) (n : Option ℕ) (e : Entity) → IsMore (entities.Array ty fixed n) e
      → (length : Option ℕ) × (e ≡ entities.Array ty fixed length)
  some_array ty fixed None e more = more
  some_array ty fixed (Some n) e more = (Some n, more)

  object_is : (ty : Ty) (fixed : Bool) (said : Extent) (old : Option Binding) (e : Entity) → IsMore (rules.object_entity ty fixed said) e
      → IsObject ty fixed (rules.extent_or said old) e
  object_is ty fixed extents.Scalar old e more = more
  object_is ty fixed (extents.Array n) None e more = some_array ty fixed n e more
  object_is ty fixed (extents.Array n) (Some (bindings.Constant w)) e more = some_array ty fixed n e more
  object_is ty fixed (extents.Array n) (Some (bindings.Library x)) e more = some_array ty fixed n e more
  object_is ty fixed (extents.Array n) (Some (bindings.Function p i)) e more = some_array ty fixed n e more
  object_is ty fixed (extents.Array n) (Some (bindings.Object p i t c y)) e more = some_array ty fixed n e more
  object_is ty fixed (extents.Array n) (Some (bindings.Local p t c y)) e more = some_array ty fixed n e more
  object_is ty fixed (extents.Array n) (Some (bindings.Parameter p t c)) e more = some_array ty fixed n e more

  declare_object_does : {G : Type 0} (number : ℕ) (sp : Specified) (d : Declarator) (ty : Ty) (said : Extent)
      → DoesIf f G Any (rules.declare_object number sp d ty said)
  declare_object_does number sp d ty said =
      and f (knows f (bound_here d.name.name)) (λ old.
      and f (link_does number d.name sp.storage false (rules.object_standing sp.storage d.initialiser) (rules.object_entity ty sp.fixed said)) (λ l.
      and_if f (binds f d.name.name (bindings.Object l.pid l.internal ty sp.fixed (rules.extent_or said old)) (λ g.
      let x = g.1 in (x.0, x.1, object_is ty sp.fixed said old x.0 x.2))) (λ u.
      begun_does d.name l.pid ty (rules.extent_or said old) sp.storage d.initialiser)))

  pub file_object_does : {G : Type 0} (number : ℕ) (sp : Specified) (d : Declarator) → DoesIf f G Any (rules.file_object number sp d)
  file_object_does number sp d =
      and f (value_type_does f d.name.line sp.ty) (λ ty.
      and f (file_extent_does d.name.line d.shape d.initialiser) (λ said.
      choose f (is_library d.name.name) (breaks f d.name.line kinds.Library) (declare_object_does number sp d ty said)))
