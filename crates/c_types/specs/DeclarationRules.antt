-- The rules of declarations at file scope: linkage, the names of the library, arrays, initialisers (C90, 6.1.2.2, 6.5,
-- 6.5.7, 6.7.2 and 7.1.3). At one declarator they come in this order: its type and length; the library's names; a
-- declaration that goes with the earlier ones in this module; one linkage; what other modules say; the initialiser.
use Rattle.std.specs.Prelude.{ℕ, ◌+◌, Bool, true, false, ◌&&◌, ◌||◌, nat_lt, not, ◌-◌, List, [], ◌∷◌, ◌++◌, Option, Some, None, is_none, length, codes}
use Rattle.std.specs.Prelude.{if◌then◌else◌}
use Rattle.std.specs.Option.{unwrap_or}
use Rattle.std.specs.Fmt.{decimal}
use Rattle.hlo_num.specs.declared.word.Ty.{Ty}
use Rattle.hlo_num.specs.declared.word.Ty.TheVariants.{Int}
use Rattle.hlo_num.specs.declared.word.Word.{Word}
use Rattle.hlo_num.specs.Words.{convert}
use Rattle.sym_tables.specs.declared.entity.Entity.{Entity}
use Rattle.sym_tables.specs.declared.entity.Entity.TheVariants as entities
use Rattle.sym_tables.specs.declared.fault.SymFault.{SymFault}
use Rattle.sym_tables.specs.declared.fault.SymFault.TheVariants as sym_faults
use Rattle.sym_tables.specs.declared.symbol.Standing.{Standing}
use Rattle.sym_tables.specs.declared.symbol.Standing.TheVariants as standings
use Rattle.sym_tables.specs.declared.symbol.Symbol.{Symbol}
use Rattle.sym_tables.specs.Entities.{compatible}
use Rattle.sym_tables.specs.Table.{Table, same_name, refusal, enter, number_of, symbol_at, initialised}
use Rattle.c_tree.specs.declared.expression.Expr.{Expr}
use Rattle.c_tree.specs.declared.expression.Identifier.{Identifier}
use Rattle.c_tree.specs.declared.declaration.Declaration.{Declaration}
use Rattle.c_tree.specs.declared.declaration.Declarator.{Declarator}
use Rattle.c_tree.specs.declared.declaration.Parameter.{Parameter}
use Rattle.c_tree.specs.declared.declaration.Shape.{Shape}
use Rattle.c_tree.specs.declared.declaration.Shape.TheVariants as shapes
use Rattle.c_tree.specs.declared.declaration.Initialiser.{Initialiser}
use Rattle.c_tree.specs.declared.declaration.Initialiser.TheVariants as initialisers
use Rattle.c_types.specs.declared.binding.Binding.{Binding}
use Rattle.c_types.specs.declared.binding.Binding.TheVariants as bindings
use Rattle.c_types.specs.declared.binding.Extent.{Extent}
use Rattle.c_types.specs.declared.binding.Extent.TheVariants as extents
use Rattle.c_types.specs.declared.binding.Library.TheVariants as library
use Rattle.c_types.specs.declared.linkage.Linked.{Linked}
use Rattle.c_types.specs.declared.specifiers.Site.TheVariants as sites
use Rattle.c_types.specs.declared.specifiers.Specified.{Specified}
use Rattle.c_types.specs.declared.specifiers.Storage.{Storage}
use Rattle.c_types.specs.declared.specifiers.Storage.TheVariants as storages
use Rattle.c_types.specs.declared.fault.TypeKind.{TypeKind}
use Rattle.c_types.specs.declared.fault.TypeKind.TheVariants as kinds
use Rattle.c_types.specs.Enumerations.{is_library}
use Rattle.c_types.specs.ExpressionRules.{specifying}
use Rattle.c_types.specs.Rules.{Rule, ◌>>=◌, ◌>>◌, give, broken, known, change, unless}
use Rattle.c_types.specs.Names.{scoped, bound_here, bind, declare_new}
use Rattle.c_types.specs.StatementRules.{constant_word, length_of, value_type, length_in, initialiser_line, declares, is_length}

-- the entity of the library's function of a name; `EOF` is none
abbrev pub library_entity : List ℕ → Option Entity
library_entity name =
    if same_name (codes "getchar") name then Some (entities.Function (Some Int) []) else
    (if same_name (codes "putchar") name then Some (entities.Function (Some Int) (Int ∷ [])) else
    (if same_name (codes "exit") name then Some (entities.Function None (Int ∷ [])) else None))

abbrev pub library_binding : List ℕ → Binding
library_binding name =
    if same_name (codes "getchar") name then bindings.Library library.GetChar else
    (if same_name (codes "putchar") name then bindings.Library library.PutChar else bindings.Library library.Exit)

abbrev pub is_static : Option Storage → Bool
is_static (Some storages.Static) = true
is_static _ = false

abbrev pub is_extern : Option Storage → Bool
is_extern (Some storages.Extern) = true
is_extern _ = false

-- the library's function of this name has this very type
abbrev pub is_library_type : Option Entity → Entity → Bool
is_library_type None said = false
is_library_type (Some entity) said = compatible entity said

-- whether the innermost scope has a name as something else than a function of the library
abbrev pub is_bound_otherwise : Option Binding → Bool
is_bound_otherwise None = false
is_bound_otherwise (Some (bindings.Library f)) = false
is_bound_otherwise (Some _) = true

-- a name of the library may be declared as what it is, but neither defined nor static
abbrev pub declare_library : Identifier → Option Storage → Entity → Bool → Rule (Unit {0})
declare_library x storage said defines = do
  unless (not defines && not (is_static storage) && is_library_type (library_entity x.name) said) x.line kinds.Library
  old ← known (bound_here x.name)
  unless (not (is_bound_otherwise old)) x.line kinds.Redeclared
  change (bind x.name (library_binding x.name))

-- what this module knows of a name that it declared already
abbrev pub entity_of_symbol : Option Symbol → Option Entity
entity_of_symbol None = None
entity_of_symbol (Some s) = Some s.entity

abbrev pub object_entity : Ty → Bool → Extent → Entity
object_entity ty fixed extents.Scalar = entities.Scalar ty fixed
object_entity ty fixed (extents.Array n) = entities.Array ty fixed n

abbrev pub bound_entity : Table → Binding → Option Entity
bound_entity syms (bindings.Function pid internal) = entity_of_symbol (symbol_at syms pid)
bound_entity syms (bindings.Object pid internal ty fixed extent) = Some (object_entity ty fixed extent)
bound_entity syms _ = None

abbrev pub agrees_with : Option Entity → Entity → Bool
agrees_with None said = false
agrees_with (Some entity) said = compatible entity said

-- an earlier declaration in this module goes with another one
abbrev pub goes_with : Table → Option Binding → Entity → Bool
goes_with syms None said = true
goes_with syms (Some b) said = agrees_with (bound_entity syms b) said

abbrev pub is_internal : Binding → Bool
is_internal (bindings.Function pid internal) = internal
is_internal (bindings.Object pid internal ty fixed extent) = internal
is_internal _ = false

-- what linkage the earlier declaration has
abbrev pub was_internal : Option Binding → Bool
was_internal None = false
was_internal (Some b) = is_internal b

abbrev pub was_external : Option Binding → Bool
was_external None = false
was_external (Some b) = not (is_internal b)

-- the linkage of a declarator (C90, 6.1.2.2): `static` gives a name internal linkage, which no earlier declaration may
-- have made external; `extern`, and a function without a storage class, take the earlier linkage; an object without one
-- is external, which no earlier declaration may have made internal
abbrev pub linkage : ℕ → Option Storage → Bool → Option Binding → Rule Bool
linkage line storage function old =
    if is_static storage then (do
      unless (not (was_external old)) line kinds.Linkage
      give true)
    else (if is_extern storage || function then give (was_internal old)
    else (do
      unless (not (was_internal old)) line kinds.Linkage
      give false))

-- the name by which the program knows a name of a module: an internal one has the module's number behind a dot
abbrev pub program_name : ℕ → Bool → List ℕ → List ℕ
program_name number internal name = if internal then name ++ 46 ∷ decimal number else name

abbrev pub fault_kind : SymFault → TypeKind
fault_kind sym_faults.TypeClash = kinds.TypeClash
fault_kind sym_faults.Duplicate = kinds.Duplicate
fault_kind sym_faults.TooMany = kinds.TooMany
fault_kind sym_faults.Memory = kinds.TooMany

abbrev pub entered : ℕ → Standing → List ℕ → Entity → Option SymFault → Rule ℕ
entered line standing name said (Some fault) = broken line (fault_kind fault)
entered line standing name said None = do
  pid ← known (λ h. number_of h.syms name)
  change (λ h. record h { syms = enter standing name said [] h.syms })
  give pid

-- a name of the program is declared, tentative or defined, by its PID
abbrev pub enter_name : ℕ → Standing → List ℕ → Entity → Rule ℕ
enter_name line standing name said = do
  refused ← known (λ h. refusal standing name said [] h.syms)
  entered line standing name said refused

-- a declarator of a name that isn't the library's: what the module said before, the linkage, and then the program
abbrev pub link : ℕ → Identifier → Option Storage → Bool → Standing → Entity → Rule Linked
link number x storage function standing said = do
  old ← known (bound_here x.name)
  goes ← known (λ h. goes_with h.syms old said)
  unless goes x.line kinds.Redeclared
  internal ← linkage x.line storage function old
  pid ← enter_name x.line standing (program_name number internal x.name) said
  give (record { pid = pid; internal = internal })

abbrev pub no_initialiser : Option Initialiser → Rule (Unit {0})
no_initialiser None = give tt
no_initialiser (Some i) = broken (initialiser_line i) kinds.Initialiser

-- the line of a parameter: that of its name, or else that of its specifiers
abbrev pub line_or : ℕ → Option Identifier → ℕ
line_or line None = line
line_or line (Some x) = x.line

abbrev pub parameter_line : Parameter → ℕ
parameter_line p = line_or p.specifiers.line p.name

abbrev pub declare_parameter : ℕ → Ty → Bool → Option Identifier → Rule (Unit {0})
declare_parameter place ty fixed None = give tt
declare_parameter place ty fixed (Some x) = declare_new x (bindings.Parameter place ty fixed)

-- the types of parameters, from this place on, in the scope that is open for their names
abbrev pub parameters_from : ℕ → List Parameter → Rule (List Ty)
parameters_from place [] = give []
parameters_from place (p ∷ ps) = do
  s ← specifying p.specifiers sites.Parameter
  ty ← value_type (parameter_line p) s.ty
  declare_parameter place ty s.fixed p.name
  types ← parameters_from (place + 1) ps
  give (ty ∷ types)

abbrev pub type_or_none : Option Ty → List Ty
type_or_none None = []
type_or_none (Some ty) = ty ∷ []

-- a single unnamed parameter of type void stands for no parameters
abbrev pub unnamed_parameter : Parameter → Rule (List Ty)
unnamed_parameter p = do
  s ← specifying p.specifiers sites.Parameter
  give (type_or_none s.ty)

abbrev pub parameters : List Parameter → Rule (List Ty)
parameters (p ∷ []) = if is_none p.name then unnamed_parameter p else parameters_from 0 (p ∷ [])
parameters ps = parameters_from 0 ps

-- a function is declared, perhaps one of the library
abbrev pub declare_function : ℕ → Identifier → Option Storage → Entity → Rule (Unit {0})
declare_function number x storage said =
    if is_library x.name
    then declare_library x storage said false
    else (do
      l ← link number x storage true standings.Declared said
      change (bind x.name (bindings.Function l.pid l.internal)))

-- a declarator of a function at file scope
abbrev pub file_function : ℕ → Specified → Declarator → List Parameter → Rule (Unit {0})
file_function number s d ps = do
  types ← scoped (parameters ps)
  declare_function number d.name s.storage (entities.Function s.ty types)
  no_initialiser d.initialiser

-- whether an object is a variable or an array, with its length where the declarator or its initialiser has it
abbrev pub file_extent : ℕ → Shape → Option Initialiser → Rule Extent
file_extent line shapes.Plain i = give extents.Scalar
file_extent line (shapes.Array (Some e)) i = do
  n ← length_of line e
  give (extents.Array (Some n))
file_extent line (shapes.Array None) (Some (initialisers.List l es)) = do
  unless (is_length (length es)) line kinds.ArraySize
  give (extents.Array (Some (length es)))
file_extent line (shapes.Array None) _ = give (extents.Array None)
file_extent line (shapes.Function ps) i = give extents.Scalar

-- the length that the module knows behind a declarator: its own, or that of an earlier one
abbrev pub length_or : Option ℕ → Option ℕ → Option ℕ
length_or None earlier = earlier
length_or (Some n) earlier = Some n

abbrev pub extent_or : Extent → Option Binding → Extent
extent_or extents.Scalar old = extents.Scalar
extent_or (extents.Array n) (Some (bindings.Object pid internal ty fixed extent)) = extents.Array (length_or n (length_in extent))
extent_or (extents.Array n) _ = extents.Array n

-- how far a declarator of an object defines it (C90, 6.7.2)
abbrev pub object_standing : Option Storage → Option Initialiser → Standing
object_standing storage (Some i) = standings.Defined
object_standing storage None = if is_extern storage then standings.Declared else standings.Tentative

-- the words of an array's initialiser; one too many is told at the array's name
abbrev pub element_words : ℕ → Ty → ℕ → List Expr → Rule (List Word)
element_words line ty room [] = give []
element_words line ty room (e ∷ es) = do
  unless (nat_lt 0 room) line kinds.ArraySize
  w ← constant_word e
  ws ← element_words line ty (room - 1) es
  give (record { 0 = convert ty w } ∷ ws)

-- the word of a variable
abbrev pub variable_word : Ty → Expr → Rule (List Word)
variable_word ty e = do
  w ← constant_word e
  give (record { 0 = convert ty w } ∷ [])

-- an initialiser at file scope is constant; an array has braces, a variable none
abbrev pub initial_words : ℕ → Ty → Extent → Initialiser → Rule (List Word)
initial_words line ty extents.Scalar (initialisers.Value e) = variable_word ty e
initial_words line ty (extents.Array n) (initialisers.List l es) = element_words line ty (unwrap_or n 0) es
initial_words line ty extent i = broken (initialiser_line i) kinds.Initialiser

abbrev pub is_array : Extent → Bool
is_array extents.Scalar = false
is_array (extents.Array n) = true

-- what follows the name of an object: the words of a definition; a tentative array waits for its length
abbrev pub begun : Identifier → ℕ → Ty → Extent → Option Storage → Option Initialiser → Rule (Unit {0})
begun x pid ty extent storage (Some i) = do
  words ← initial_words x.line ty extent i
  change (λ h. record h { syms = initialised h.syms pid words })
begun x pid ty extent storage None =
    if is_array extent && not (is_extern storage) then change (λ h. record h { awaited = h.awaited ++ record { name = x.name; line = x.line } ∷ [] }) else give
    tt

-- an object, as the declarator says, is declared as what the program and the module know of it
abbrev pub bind_object : Specified → Declarator → Ty → Extent → Linked → Rule (Unit {0})
bind_object s d ty extent l = do
  change (bind d.name.name (bindings.Object l.pid l.internal ty s.fixed extent))
  begun d.name l.pid ty extent s.storage d.initialiser

abbrev pub declare_object : ℕ → Specified → Declarator → Ty → Extent → Rule (Unit {0})
declare_object number s d ty said = do
  old ← known (bound_here d.name.name)
  l ← link number d.name s.storage false (object_standing s.storage d.initialiser) (object_entity ty s.fixed said)
  bind_object s d ty (extent_or said old) l

-- a declarator of an object at file scope
abbrev pub file_object : ℕ → Specified → Declarator → Rule (Unit {0})
file_object number s d = do
  ty ← value_type d.name.line s.ty
  said ← file_extent d.name.line d.shape d.initialiser
  if is_library d.name.name
      then broken d.name.line kinds.Library
      else declare_object number s d ty said

abbrev pub file_shape : ℕ → Specified → Declarator → Shape → Rule (Unit {0})
file_shape number s d (shapes.Function ps) = file_function number s d ps
file_shape number s d _ = file_object number s d

abbrev pub file_declarators : ℕ → Specified → List Declarator → Rule (Unit {0})
file_declarators number s [] = give tt
file_declarators number s (d ∷ ds) = do
  file_shape number s d d.shape
  file_declarators number s ds

abbrev pub file_declaration : ℕ → Declaration → Rule (Unit {0})
file_declaration number d = do
  s ← specifying d.specifiers sites.File
  unless (declares s d.declarators) d.specifiers.line kinds.Specifiers
  file_declarators number s d.declarators
