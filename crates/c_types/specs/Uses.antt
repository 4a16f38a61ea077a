-- The use of names in expressions: as a value, as the target of an assignment or a step, as a function (C90, 6.3.1 to
-- 6.3.4). A PID is used wherever an expression binds its name.
use Rattle.std.specs.Prelude.{ℕ, Bool, false, Option, Some, None, not, if◌then◌else◌}
use Rattle.hlo_num.specs.declared.word.Ty.{Ty}
use Rattle.hlo_num.specs.declared.word.Ty.TheVariants.{Int}
use Rattle.sym_tables.specs.declared.entity.Entity.{Entity}
use Rattle.sym_tables.specs.declared.entity.Entity.TheVariants as entities
use Rattle.sym_tables.specs.declared.symbol.Symbol.{Symbol}
use Rattle.sym_tables.specs.Table.{mark, symbol_at}
use Rattle.c_types.specs.declared.binding.Binding.{Binding}
use Rattle.c_types.specs.declared.binding.Binding.TheVariants as bindings
use Rattle.c_types.specs.declared.binding.Extent.TheVariants as extents
use Rattle.c_typed.specs.declared.expression.TypedExpr.{TypedExpr, roll-TypedExpr}
use Rattle.c_typed.specs.declared.expression.Place.TheOpen.{TypedExpr-F, Place-F}
use Rattle.c_typed.specs.declared.expression.Place.{Place, roll-Place}
use Rattle.c_typed.specs.declared.expression.Variable.{Variable}
use Rattle.c_typed.specs.declared.expression.Variable.TheVariants as variables
use Rattle.c_typed.specs.declared.expression.Array.{Array}
use Rattle.c_typed.specs.declared.expression.Array.TheVariants as arrays
use Rattle.c_types.specs.declared.fault.TypeKind.TheVariants as kinds
use Rattle.c_types.specs.declared.conversion.Typed.{Typed}
use Rattle.c_types.specs.declared.conversion.Target.{Target}
use Rattle.c_types.specs.declared.uses.Subscripted.{Subscripted}
use Rattle.c_types.specs.declared.uses.Called.{Called}
use Rattle.c_types.specs.Rules.{Rule, ◌>>=◌, ◌>>◌, give, broken, known, change, unless}

-- a PID is used
abbrev pub use_pid : ℕ → Rule (Unit {0})
use_pid pid = change (λ h. record h { syms = mark h.syms pid })

abbrev pub variable : Variable → Place
variable x = roll-Place (Place-F.Variable x)

abbrev pub element : Array → TypedExpr → Place
element a i = roll-Place (Place-F.Element a i)

abbrev pub read : Ty → Place → Typed
read ty p = record { ty = Some ty; expr = roll-TypedExpr (TypedExpr-F.Read ty p) }

-- a name used as a value, at this line
abbrev pub use_name : ℕ → Binding → Rule Typed
use_name line (bindings.Constant w) = give (record { ty = Some Int; expr = roll-TypedExpr (TypedExpr-F.Constant Int w) })
use_name line (bindings.Parameter place ty fixed) = give (read ty (variable (variables.Parameter place)))
use_name line (bindings.Local place ty fixed extents.Scalar) = give (read ty (variable (variables.Local place)))
use_name line (bindings.Object pid internal ty fixed extents.Scalar) = do
  use_pid pid
  give (read ty (variable (variables.Object pid)))
use_name line _ = broken line kinds.NotObject

-- a variable as a target, whose name stands at this line
abbrev pub written : ℕ → Bool → Ty → Variable → Rule Target
written line fixed ty x = do
  unless (not fixed) line kinds.ConstWrite
  give (record { ty = ty; place = variable x })

-- a name as a target, where the whole target begins at the first line and the name stands at the second
abbrev pub target_name : ℕ → ℕ → Binding → Rule Target
target_name whole line (bindings.Parameter place ty fixed) = written line fixed ty (variables.Parameter place)
target_name whole line (bindings.Local place ty fixed extents.Scalar) = written line fixed ty (variables.Local place)
target_name whole line (bindings.Object pid internal ty fixed extents.Scalar) = do
  t ← written line fixed ty (variables.Object pid)
  use_pid pid
  give t
target_name whole line _ = broken whole kinds.NotLvalue

-- a name under a subscript, which is written or read
abbrev pub subscripted : (writes : Bool) → ℕ → Binding → Rule Subscripted
subscripted writes line (bindings.Local place ty fixed (extents.Array n)) = do
  unless (not (if writes then fixed else false)) line kinds.ConstWrite
  give (record { array = arrays.Local place; ty = ty })
subscripted writes line (bindings.Object pid internal ty fixed (extents.Array n)) = do
  unless (not (if writes then fixed else false)) line kinds.ConstWrite
  use_pid pid
  give (record { array = arrays.Object pid; ty = ty })
subscripted writes line _ = broken line kinds.NotObject

-- the function of the program that an entity is, with the types of its value and of its parameters
abbrev pub function_entity : ℕ → ℕ → Entity → Rule Called
function_entity line pid (entities.Function result params) = do
  use_pid pid
  give (record { pid = pid; result = result; params = params })
function_entity line pid (entities.Scalar ty fixed) = broken line kinds.NotFunction
function_entity line pid (entities.Array ty fixed len) = broken line kinds.NotFunction

abbrev pub function_symbol : ℕ → ℕ → Option Symbol → Rule Called
function_symbol line pid None = broken line kinds.NotFunction
function_symbol line pid (Some s) = function_entity line pid s.entity

-- the function of the program with this PID, called at this line
abbrev pub use_function : ℕ → ℕ → Rule Called
use_function line pid = do
  syms ← known (λ h. h.syms)
  function_symbol line pid (symbol_at syms pid)
