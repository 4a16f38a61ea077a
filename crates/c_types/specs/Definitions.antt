-- The definition of a function in its two parts: what stands before its block, and the block.
use Rattle.std.specs.Prelude.{ℕ, true, false, not, List, []}
use Rattle.hlo_num.specs.declared.word.Ty.{Ty}
use Rattle.sym_tables.specs.declared.entity.Entity.TheVariants as entities
use Rattle.sym_tables.specs.declared.symbol.Standing.TheVariants as standings
use Rattle.c_tree.specs.declared.expression.Identifier.{Identifier}
use Rattle.c_tree.specs.declared.declaration.Function.{Function}
use Rattle.c_tree.specs.declared.statement.Block.{Block}
use Rattle.c_types.specs.declared.binding.Binding.TheVariants as bindings
use Rattle.c_types.specs.declared.definition.Head.{Head}
use Rattle.c_types.specs.declared.fault.TypeKind.TheVariants as kinds
use Rattle.c_typed.specs.declared.function.TypedFunction.{TypedFunction}
use Rattle.c_types.specs.declared.specifiers.Site.TheVariants as sites
use Rattle.c_types.specs.declared.specifiers.Specified.{Specified}
use Rattle.c_typed.specs.declared.statement.TypedStmt.{roll-TypedStmt}
use Rattle.c_typed.specs.declared.statement.TypedStmt.TheOpen.{TypedStmt-F}
use Rattle.c_types.specs.DeclarationRules.{link, parameters}
use Rattle.c_types.specs.Enumerations.{is_library}
use Rattle.c_types.specs.ExpressionRules.{specifying}
use Rattle.c_types.specs.Rules.{Rule, ◌>>=◌, ◌>>◌, give, known, change, unless}
use Rattle.c_types.specs.Names.{enter, leave, bind}
use Rattle.c_types.specs.StatementRules.{blocking}
use Rattle.c_types.specs.Typing.{Aside, aside, resume, named_parameters}

-- a function of this name, with parameters of these types, is defined
abbrev pub define_function : ℕ → Identifier → Specified → List Ty → Rule ℕ
define_function number x s types = do
  unless (not (is_library x.name)) x.line kinds.Library
  l ← link number x s.storage true standings.Defined (entities.Function s.ty types)
  change (bind x.name (bindings.Function l.pid l.internal))
  give l.pid

-- what stands before the block: its name and the names of its parameters, from their types and their scope
abbrev pub front : ℕ → Function → Specified → List Ty → Aside → Rule Head
front number f s types scope = do
  pid ← define_function number f.name s types
  params ← named_parameters types f.parameters
  give (record { pid = pid; result = s.ty; params = params; scope = scope })

abbrev pub heading : ℕ → Function → Rule Head
heading number f = do
  s ← specifying f.specifiers sites.File
  change enter
  types ← parameters f.parameters
  scope ← known aside
  change leave
  front number f s types scope

-- the block, in the scope of the parameters
abbrev pub bodied : Head → Block → Rule TypedFunction
bodied head b = do
  change (resume head.scope)
  change (λ h. record h { locals = [] })
  body ← (blocking b).statements (record { result = head.result; breaks = false; continues = false })
  locals ← known (λ h. h.locals)
  change (λ h. record h { locals = [] })
  change leave
  give (record { pid = head.pid; result = head.result; params = head.params; locals = locals; body = roll-TypedStmt (TypedStmt-F.Block body) })
