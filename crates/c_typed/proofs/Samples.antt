-- Names for the parts of small programs.
use Rattle.std.proofs.Common.{ℕ, List, [], ◌∷◌}
use Rattle.std.specs.Prelude.{codes, false, Option, Some}
use Rattle.hlo_num.specs.declared.word.Ty.{Ty}
use Rattle.hlo_num.specs.declared.word.Ty.TheVariants.{Int}
use Rattle.hlo_num.specs.declared.word.Word.{Word}
use Rattle.il_core.specs.World.{Ending}
use Rattle.il_core.specs.Meaning.{Run}
use Rattle.sym_tables.specs.declared.entity.Entity.{Entity}
use Rattle.sym_tables.specs.declared.entity.Entity.TheVariants.{Function as function}
use Rattle.sym_tables.specs.declared.symbol.Standing.{Standing}
use Rattle.sym_tables.specs.declared.symbol.Standing.TheVariants.{Defined}
use Rattle.sym_tables.specs.declared.symbol.Symbol.{Symbol}
use Rattle.sym_tables.specs.Table.{Table}
use Rattle.c_typed.specs.declared.expression.Variable.TheVariants as variables
use Rattle.c_typed.specs.declared.function.Local.{Local}
use Rattle.c_typed.specs.declared.function.Parameter.{Parameter}
use Rattle.c_typed.specs.declared.statement.Label.{Label}
use Rattle.c_typed.specs.declared.statement.Label.TheVariants.{Case}
use Rattle.c_typed.specs.Trees.{Function, Place, Scalar, Expr, Constant, Stmt}

-- a function by its PID, the type of its value, its parameters, its locals and its body
abbrev pub function_of : ℕ → Option Ty → List Parameter → List Local → Stmt → Function
function_of pid result params locals body = record { pid = pid; result = result; params = params; locals = locals; body = body }

abbrev pub param_of : Ty → List ℕ → Parameter
param_of ty name = record { ty = ty; name = name }

abbrev pub local_of : Ty → Option ℕ → List ℕ → Local
local_of ty length name = record { ty = ty; length = length; name = name }

-- a constant of type int
abbrev pub int : ℕ → Expr
int v = Constant Int v

-- variables
abbrev pub param : ℕ → Place
param x = Scalar (variables.Parameter x)

abbrev pub local : ℕ → Place
local x = Scalar (variables.Local x)

abbrev pub object : ℕ → Place
object g = Scalar (variables.Object g)

abbrev pub word : ℕ → Word
word n = record { 0 = n }

abbrev pub label : ℕ → Label
label n = Case (word n)

-- a name of the program, by what it stands for and what its initial words are
abbrev pub row : List ℕ → Entity → Standing → List Word → List ℕ × Symbol
row name entity standing init = (name, record { entity = entity; standing = standing; init = init; used = false })

-- the names of a program that is its `main` alone
abbrev pub only_main : Table
only_main = row (codes "main") (function (Some Int) []) Defined [] ∷ []

-- what a run comes to
abbrev pub seen : List ℕ → Ending → Option Run
seen output ending = Some (record { output = output; ending = ending })
