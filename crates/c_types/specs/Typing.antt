-- The typed module: the items in order, with the first rule that is broken, and what the check of a module answers.
use Rattle.std.specs.Prelude.{ℕ, ◌≡◌, Bool, true, false, not, List, [], ◌∷◌, Option, Some, None, is_none, codes, Result, Ok, Err, if◌then◌else◌}
use Rattle.hlo_num.specs.declared.word.Ty.{Ty}
use Rattle.sym_tables.specs.declared.entity.Entity.TheVariants as entities
use Rattle.sym_tables.specs.declared.symbol.Standing.TheVariants as standings
use Rattle.sym_tables.specs.Table.{Table}
use Rattle.c_tree.specs.declared.token.Header.{Header}
use Rattle.c_tree.specs.declared.token.Header.TheVariants as headers
use Rattle.c_tree.specs.declared.expression.Identifier.{Identifier}
use Rattle.c_tree.specs.declared.declaration.Parameter.{Parameter}
use Rattle.c_tree.specs.declared.declaration.Function.{Function}
use Rattle.c_tree.specs.declared.declaration.Item.{Item}
use Rattle.c_tree.specs.declared.declaration.Item.TheVariants as items
use Rattle.c_tree.specs.declared.declaration.Module.{Module}
use Rattle.c_types.specs.declared.binding.Binding.{Binding}
use Rattle.c_types.specs.declared.binding.Binding.TheVariants as bindings
use Rattle.c_types.specs.declared.binding.Extent.TheVariants as extents
use Rattle.c_types.specs.declared.binding.Library.TheVariants as library
use Rattle.c_types.specs.declared.checker.Awaited.{Awaited}
use Rattle.c_types.specs.declared.checker.Tag.{Tag}
use Rattle.c_types.specs.declared.fault.TypeFault.{TypeFault}
use Rattle.c_types.specs.declared.fault.TypeFault.TheVariants as faults
use Rattle.c_types.specs.declared.fault.TypeKind.TheVariants as kinds
use Rattle.c_typed.specs.declared.function.Parameter.{Parameter as TypedParameter}
use Rattle.c_typed.specs.declared.function.TypedFunction.{TypedFunction}
use Rattle.c_typed.specs.declared.function.TypedModule.{TypedModule}
use Rattle.c_types.specs.declared.specifiers.Site.TheVariants as sites
use Rattle.c_typed.specs.declared.statement.TypedStmt.{roll-TypedStmt}
use Rattle.c_typed.specs.declared.statement.TypedStmt.TheOpen.{TypedStmt-F}
use Rattle.c_types.specs.DeclarationRules.{link, parameters, file_declaration}
use Rattle.c_types.specs.Enumerations.{is_library}
use Rattle.c_types.specs.ExpressionRules.{specifying}
use Rattle.c_types.specs.Rules.{Here, Gives, Breaks, Rule, ◌>>=◌, ◌>>◌, give, broken, known, change, unless}
use Rattle.c_types.specs.Names.{enter, leave, bind, bound_here}
use Rattle.c_types.specs.Scopes.{Declared, inner, resumed}
use Rattle.c_types.specs.StatementRules.{blocking}

-- a header declares a name that the module hasn't
abbrev pub bind_new : List ℕ → Binding → Here → Here
bind_new name binding h = if is_none (bound_here name h) then bind name binding h else h

abbrev pub include : Header → Here → Here
include headers.Stdio h = bind_new (codes "EOF") (bindings.Constant (record { 0 = 4294967295 }))
    (bind_new (codes "putchar") (bindings.Library library.PutChar) (bind_new (codes "getchar") (bindings.Library library.GetChar) h))
include headers.Stdlib h = bind_new (codes "exit") (bindings.Library library.Exit) h

-- each parameter of a definition has a name
abbrev pub named_parameter : Ty → ℕ → Option Identifier → Rule TypedParameter
named_parameter ty line None = broken line kinds.NoName
named_parameter ty line (Some x) = give (record { ty = ty; name = x.name })

abbrev pub named_parameters : List Ty → List Parameter → Rule (List TypedParameter)
named_parameters [] ps = give []
named_parameters (ty ∷ types) [] = give []
named_parameters (ty ∷ types) (p ∷ ps) = do
  x ← named_parameter ty p.specifiers.line p.name
  xs ← named_parameters types ps
  give (x ∷ xs)

-- the innermost scope, to be opened again
pub record Aside : Type 0 where
  pub names : List (Declared Binding)
  pub tags : List (Declared Tag)

abbrev pub aside : Here → Aside
aside h = record { names = inner h.names.depth h.names.declared; tags = inner h.tags.depth h.tags.declared }

abbrev pub resume : Aside → Here → Here
resume a h = record h { names = resumed a.names h.names; tags = resumed a.tags h.tags }

-- the definition of a function: its specifiers, its parameters, its name, that each parameter has a name, its body. The
-- scope of its parameters is that of its outer block
abbrev pub function : ℕ → Function → Rule TypedFunction
function number f = do
  s ← specifying f.specifiers sites.File
  change enter
  types ← parameters f.parameters
  scope ← known aside
  change leave
  unless (not (is_library f.name.name)) f.name.line kinds.Library
  l ← link number f.name s.storage true standings.Defined (entities.Function s.ty types)
  change (bind f.name.name (bindings.Function l.pid l.internal))
  params ← named_parameters types f.parameters
  change (resume scope)
  change (λ h. record h { locals = [] })
  body ← (blocking f.body).statements (record { result = s.ty; breaks = false; continues = false })
  locals ← known (λ h. h.locals)
  change (λ h. record h { locals = [] })
  change leave
  give (record { pid = l.pid; result = s.ty; params = params; locals = locals; body = roll-TypedStmt (TypedStmt-F.Block body) })

-- the items of a module in order
abbrev pub all_items : ℕ → List Item → Rule (List TypedFunction)
all_items number [] = give []
all_items number (items.Include line header ∷ rest) = do
  change (include header)
  all_items number rest
all_items number (items.Declaration d ∷ rest) = do
  file_declaration number d
  all_items number rest
all_items number (items.Function f ∷ rest) = do
  t ← function number f
  ts ← all_items number rest
  give (t ∷ ts)

-- each array that was declared tentatively has got its length
abbrev pub has_length : Option Binding → Bool
has_length (Some (bindings.Object pid internal ty fixed (extents.Array None))) = false
has_length _ = true

abbrev pub all_lengths : List Awaited → Rule (Unit {0})
all_lengths [] = give tt
all_lengths (a ∷ rest) = do
  b ← known (bound_here a.name)
  unless (has_length b) a.line kinds.ArraySize
  all_lengths rest

-- the rules of a module with this number, from 1
abbrev pub module_rules : ℕ → Module → Rule TypedModule
module_rules number m = do
  functions ← all_items number m.items
  awaited ← known (λ h. h.awaited)
  all_lengths awaited
  give (record { functions = functions })

-- where a module begins: no name is in scope, and the program has these names
abbrev pub start : Table → Here
start syms = record {
  names = record { declared = []; depth = 0 };
  tags = record { declared = []; depth = 0 };
  syms = syms;
  locals = [];
  cases = [];
  default =
      false;
  awaited = [];
}

-- what the check of a module answers: the typed module, and the program's names with those of the module; or the first
-- rule that is broken, or want of memory
abbrev pub Checks : ℕ → Module → Table → Result TypedModule TypeFault → Table → Type 0
Checks number m old (Ok t) new = (h : Here) × (module_rules number m (start old) ≡ Gives t h) × (new ≡ h.syms)
Checks number m old (Err (faults.At line kind)) new = module_rules number m (start old) ≡ Breaks line kind
Checks number m old (Err faults.Memory) new = Unit {0}
