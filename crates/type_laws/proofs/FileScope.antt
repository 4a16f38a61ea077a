-- The rules of declarations at file scope keep the names in scope: none of them is a local or a parameter.
use Rattle.std.proofs.Common.{◌≡◌, ℕ, zero, suc, ◌-◌, ◌≤◌, List, [], ◌∷◌, ◌++◌, Option, Some, None, Bool, true, false, length, refl, ap, arith}
use Rattle.std.specs.Prelude.{if◌then◌else◌, ◌&&◌, ◌||◌, not, nat_lt, is_none, codes}
use Rattle.std.specs.Option.{unwrap_or}
use Rattle.hlo_num.specs.declared.word.Ty.{Ty}
use Rattle.hlo_num.specs.declared.word.Word.{Word}
use Rattle.hlo_num.specs.Words.{convert}
use Rattle.indexmap.specs.IndexMap.{insert_entry}
use Rattle.sym_tables.specs.declared.entity.Entity.{Entity}
use Rattle.sym_tables.specs.declared.fault.SymFault.{SymFault}
use Rattle.sym_tables.specs.declared.symbol.Standing.{Standing}
use Rattle.sym_tables.specs.declared.symbol.Standing.TheVariants as standings
use Rattle.sym_tables.specs.declared.symbol.Symbol.{Symbol}
use Rattle.sym_tables.specs.Symbols.{met}
use Rattle.sym_tables.specs.Table.{Table, same_name, refusal, enter as entered_table, number_of, symbol_of, initialised}
use Rattle.c_tree.specs.declared.expression.Expr.{Expr}
use Rattle.c_tree.specs.declared.expression.Identifier.{Identifier}
use Rattle.c_tree.specs.declared.declaration.Declarator.{Declarator}
use Rattle.c_tree.specs.declared.declaration.Shape.{Shape}
use Rattle.c_tree.specs.declared.declaration.Shape.TheVariants as shapes
use Rattle.c_tree.specs.declared.declaration.Initialiser.{Initialiser}
use Rattle.c_tree.specs.declared.declaration.Initialiser.TheVariants as initialisers
use Rattle.c_types.specs.declared.binding.Binding.{Binding}
use Rattle.c_types.specs.declared.binding.Binding.TheVariants as bindings
use Rattle.c_types.specs.declared.binding.Extent.{Extent}
use Rattle.c_types.specs.declared.binding.Extent.TheVariants as extents
use Rattle.c_types.specs.declared.fault.TypeKind.TheVariants as kinds
use Rattle.c_types.specs.declared.binding.Library.TheVariants as library
use Rattle.c_types.specs.declared.specifiers.Specified.{Specified}
use Rattle.c_types.specs.declared.specifiers.Storage.{Storage}
use Rattle.c_types.specs.DeclarationRules as rules
use Rattle.c_types.specs.Enumerations.{is_library}
use Rattle.c_types.specs.Names.{bound_here, declare_new}
use Rattle.c_types.specs.Rules.{Here, Rule}
use Rattle.c_types.specs.Scopes.{Declared}
use Rattle.c_types.specs.StatementRules.{is_length}
use Rattle.lower_laws.specs.Bound.{Scope}
use Rattle.type_laws.proofs.Going.{scope_with}
use Rattle.type_laws.proofs.Keeping.{IsNamed, AreNamed, Stays, Keeps, Any, and, gives, breaks, knows, changes, tests, binds, stays_beside}
use Rattle.type_laws.proofs.Statements.{constant_word_keeps, length_keeps, value_type_keeps}

-- so many parameters and no locals
abbrev pub only : ℕ → Scope
only n = scope_with n [] 0

named_more : (n k : ℕ) → n ≤ k → (b : Binding) → IsNamed (only n) b → IsNamed (only k) b
named_more n k le (bindings.Parameter place ty fixed) ok = omega (arith, ok, le)
named_more n k le (bindings.Local place ty fixed extent) ok = absurd (omega (arith, ok.0))
named_more n k le (bindings.Constant w) ok = tt
named_more n k le (bindings.Library x) ok = tt
named_more n k le (bindings.Function pid internal) ok = tt
named_more n k le (bindings.Object pid internal ty fixed extent) ok = tt

pub all_more : (n k : ℕ) → n ≤ k → (ds : List (Declared Binding)) → AreNamed (only n) ds → AreNamed (only k) ds
all_more n k le [] ok = tt
all_more n k le (d ∷ ds) ok = (named_more n k le d.stands_for ok.0, all_more n k le ds ok.1)

pub stays_more : {o : Here} (n k : ℕ) → n ≤ k → (h : Here) → Stays (only n) o h → Stays (only k) o h
stays_more n k le h st = record {
  named = all_more n k le h.names.declared st.named;
  within = st.within;
  depth = st.depth;
  outside = st.outside;
  locals = st.locals;
  table = st.table;
}

-- ## The table grows

insert_if : (es : Table) (e f : List ℕ × Symbol) (more : Table) (b : Bool) → length es ≤ length more
    → length (e ∷ es) ≤ length (if b then f ∷ es else e ∷ more)
insert_if es e f more true le = omega arith
insert_if es e f more false le = omega (arith, le)

insert_grows : (syms : Table) (name : List ℕ) (v : Symbol) → length syms ≤ length (insert_entry same_name syms name v)
insert_grows [] name v = omega arith
insert_grows (e ∷ es) name v = insert_if es e (e.0, v) (insert_entry same_name es name v) (same_name name e.0) (insert_grows es name v)

length_initialised : (syms : Table) (pid : ℕ) (init : List Word) → length (initialised syms pid init) ≡ length syms
length_initialised [] pid init = refl
length_initialised (e ∷ es) zero init = refl
length_initialised (e ∷ es) (suc pid) init = ap suc (length_initialised es pid init)

pub choose : {A : Type 0} {s : Scope} {o : Here} {P : A → Type 0} {x y : Rule A} (b : Bool) → Keeps s o P x → Keeps s o P y → Keeps s o P (if b then x else y)
choose true p q = p
choose false p q = q

pub declares_new : {s : Scope} {o : Here} (x : Identifier) (b : Binding) → IsNamed s b → Keeps s o Any (declare_new x b)
declares_new x b ok =
    and (knows (bound_here x.name)) (λ old a0. and (tests (is_none old) x.line kinds.Redeclared) (λ u a1. binds x.name b ok))

module _ (s : Scope) (o : Here) where
  -- ## Linkage

  linkage_keeps : (line : ℕ) (storage : Option Storage) (function : Bool) (old : Option Binding) → Keeps s o Any (rules.linkage line storage function old)
  linkage_keeps line storage function old =
      choose (rules.is_static storage)
      (and (tests (not (rules.was_external old)) line kinds.Linkage) (λ u a. gives true tt))
      (choose (rules.is_extern storage || function) (gives (rules.was_internal old) tt)
      (and (tests (not (rules.was_internal old)) line kinds.Linkage) (λ u a. gives false tt)))

  entered_keeps : (line : ℕ) (standing : Standing) (name : List ℕ) (said : Entity) (refused : Option SymFault)
      → Keeps s o Any (rules.entered line standing name said refused)
  entered_keeps line standing name said (Some fault) = breaks line (rules.fault_kind fault)
  entered_keeps line standing name said None =
      and (knows (λ (h : Here). number_of h.syms name)) (λ pid a0.
      and (changes (λ (h : Here). record h { syms = entered_table standing name said [] h.syms })
      (λ h st. stays_beside h (record h { syms = entered_table standing name said [] h.syms }) refl refl
      (insert_grows h.syms name (met standing said [] (symbol_of h.syms name))) st))
      (λ u a1. gives pid tt))

  enter_name_keeps : (line : ℕ) (standing : Standing) (name : List ℕ) (said : Entity) → Keeps s o Any (rules.enter_name line standing name said)
  enter_name_keeps line standing name said =
      and (knows (λ (h : Here). refusal standing name said [] h.syms)) (λ refused a0. entered_keeps line standing name said refused)

  pub link_keeps : (number : ℕ) (x : Identifier) (storage : Option Storage) (function : Bool) (standing : Standing) (said : Entity)
      → Keeps s o Any (rules.link number x storage function standing said)
  link_keeps number x storage function standing said =
      and (knows (bound_here x.name)) (λ old a0.
      and (knows (λ (h : Here). rules.goes_with h.syms old said)) (λ goes a1.
      and (tests goes x.line kinds.Redeclared) (λ u a2.
      and (linkage_keeps x.line storage function old) (λ internal a3.
      and (enter_name_keeps x.line standing (rules.program_name number internal x.name) said) (λ pid a4.
      gives (record { pid = pid; internal = internal }) tt)))))

  -- a binding that is global is named everywhere
  library_named : (b : Bool) (c : Bool) (x y z : Binding) → IsNamed s x → IsNamed s y → IsNamed s z → IsNamed s (if b then x else (if c then y else z))
  library_named true c x y z nx ny nz = nx
  library_named false true x y z nx ny nz = ny
  library_named false false x y z nx ny nz = nz

  declare_library_keeps : (x : Identifier) (storage : Option Storage) (said : Entity) (defines : Bool)
      → Keeps s o Any (rules.declare_library x storage said defines)
  declare_library_keeps x storage said defines =
      and (tests (not defines && not (rules.is_static storage) && rules.is_library_type (rules.library_entity x.name) said) x.line kinds.Library) (λ u a0.
      and (knows (bound_here x.name)) (λ old a1.
      and (tests (not (rules.is_bound_otherwise old)) x.line kinds.Redeclared) (λ u1 a2.
      binds x.name (rules.library_binding x.name) (library_named (same_name (codes "getchar") x.name) (same_name (codes "putchar") x.name)
      (bindings.Library library.GetChar) (bindings.Library library.PutChar) (bindings.Library library.Exit) tt tt tt))))

  pub declare_function_keeps : (number : ℕ) (x : Identifier) (storage : Option Storage) (said : Entity)
      → Keeps s o Any (rules.declare_function number x storage said)
  declare_function_keeps number x storage said =
      choose (is_library x.name) (declare_library_keeps x storage said false)
      (and (link_keeps number x storage true standings.Declared said) (λ l a0. binds x.name (bindings.Function l.pid l.internal) tt))

  pub no_initialiser_keeps : (i : Option Initialiser) → Keeps s o Any (rules.no_initialiser i)
  no_initialiser_keeps None = gives tt tt
  no_initialiser_keeps (Some i) = breaks _ _

  -- ## Objects

  file_extent_keeps : (line : ℕ) (x : Shape) (i : Option Initialiser) → Keeps s o Any (rules.file_extent line x i)
  file_extent_keeps line shapes.Plain i = gives _ tt
  file_extent_keeps line (shapes.Array (Some e)) i = and (length_keeps line e s o) (λ n a0. gives (extents.Array (Some n)) tt)
  file_extent_keeps line (shapes.Array None) (Some (initialisers.List l es)) =
      and (tests (is_length (length es)) line kinds.ArraySize) (λ u a0. gives (extents.Array (Some (length es))) tt)
  file_extent_keeps line (shapes.Array None) (Some (initialisers.Value e)) = gives _ tt
  file_extent_keeps line (shapes.Array None) None = gives _ tt
  file_extent_keeps line (shapes.Function ps) i = gives _ tt

  element_words_keep : (line : ℕ) (ty : Ty) (room : ℕ) (es : List Expr) → Keeps s o Any (rules.element_words line ty room es)
  element_words_keep line ty room [] = gives [] tt
  element_words_keep line ty room (e ∷ es) =
      and (tests (nat_lt 0 room) line kinds.ArraySize) (λ u a0.
      and (constant_word_keeps e s o) (λ w a1.
      and (element_words_keep line ty (room - 1) es) (λ ws a2. gives (record { 0 = convert ty w } ∷ ws) tt)))

  initial_words_keep : (line : ℕ) (ty : Ty) (x : Extent) (i : Initialiser) → Keeps s o Any (rules.initial_words line ty x i)
  initial_words_keep line ty extents.Scalar (initialisers.Value e) =
      and (constant_word_keeps e s o) (λ w a0. gives (record { 0 = convert ty w } ∷ []) tt)
  initial_words_keep line ty extents.Scalar (initialisers.List l es) = breaks _ _
  initial_words_keep line ty (extents.Array n) (initialisers.Value e) = breaks _ _
  initial_words_keep line ty (extents.Array n) (initialisers.List l es) = element_words_keep line ty (unwrap_or n 0) es

  begun_keeps : (x : Identifier) (pid : ℕ) (ty : Ty) (extent : Extent) (storage : Option Storage) (i : Option Initialiser)
      → Keeps s o Any (rules.begun x pid ty extent storage i)
  begun_keeps x pid ty extent storage (Some i) =
      and (initial_words_keep x.line ty extent i) (λ words a0.
      changes (λ (h : Here). record h { syms = initialised h.syms pid words })
      (λ h st. stays_beside h (record h { syms = initialised h.syms pid words }) refl refl (omega (arith, length_initialised h.syms pid words)) st))
  begun_keeps x pid ty extent storage None =
      choose (rules.is_array extent && not (rules.is_extern storage))
      (changes (λ (h : Here). record h { awaited = h.awaited ++ record { name = x.name; line = x.line } ∷ [] })
      (λ h st. stays_beside h (record h { awaited = h.awaited ++ record { name = x.name; line = x.line } ∷ [] }) refl refl (omega arith) st))
      (gives tt tt)

  declare_object_keeps : (number : ℕ) (sp : Specified) (d : Declarator) (ty : Ty) (said : Extent) → Keeps s o Any (rules.declare_object number sp d ty said)
  declare_object_keeps number sp d ty said =
      and (knows (bound_here d.name.name)) (λ old a0.
      and (link_keeps number d.name sp.storage false (rules.object_standing sp.storage d.initialiser) (rules.object_entity ty sp.fixed said)) (λ l a1.
      and (binds d.name.name (bindings.Object l.pid l.internal ty sp.fixed (rules.extent_or said old)) tt) (λ u a2.
      begun_keeps d.name l.pid ty (rules.extent_or said old) sp.storage d.initialiser)))

  pub file_object_keeps : (number : ℕ) (sp : Specified) (d : Declarator) → Keeps s o Any (rules.file_object number sp d)
  file_object_keeps number sp d =
      and (value_type_keeps d.name.line sp.ty s o) (λ ty a0.
      and (file_extent_keeps d.name.line d.shape d.initialiser) (λ said a1.
      choose (is_library d.name.name) (breaks d.name.line kinds.Library) (declare_object_keeps number sp d ty said)))
