-- What the validity of a routine needs of its function besides bound names: each PID in its tree names an object or a
-- routine of the program, a call has as many arguments as its callee has parameters and gives a value exactly where the
-- callee does, a value is returned only where the function gives one, and `break` and `continue` stand inside of what
-- they leave.
use Rattle.std.specs.Prelude.{ℕ, suc, Bool, true, false, IsTrue, List, Option, Some, None, is_some, ⊤}
use Rattle.il_core.specs.declared.shape.ShapeRow.{ShapeRow}
use Rattle.il_core.specs.Program.{shape_at}
use Rattle.il_core.specs.Valid.{NamesObject, IsRoutineShape}
use Rattle.c_typed.specs.declared.expression.Variable.{Variable}
use Rattle.c_typed.specs.declared.expression.Variable.TheVariants as variables
use Rattle.c_typed.specs.declared.expression.Array.{Array}
use Rattle.c_typed.specs.declared.expression.Array.TheVariants as arrays
use Rattle.c_typed.specs.Trees as tree
use Rattle.c_typed.specs.Trees.{Place, Expr, Arguments, Stmt, Sections, Function}

abbrev pub FitsVariable : List ShapeRow → Variable → Type 0
FitsVariable rows (variables.Parameter x) = ⊤
FitsVariable rows (variables.Local x) = ⊤
FitsVariable rows (variables.Object g) = NamesObject rows g

abbrev pub FitsArray : List ShapeRow → Array → Type 0
FitsArray rows (arrays.Local a) = ⊤
FitsArray rows (arrays.Object g) = NamesObject rows g

abbrev pub argument_count : Arguments → ℕ
argument_count tree.None = 0
argument_count (tree.Argument e es) = suc (argument_count es)

abbrev mutual
  pub FitsExpr : List ShapeRow → Expr → Type 0
  FitsExpr rows (tree.Constant t v) = ⊤
  FitsExpr rows (tree.Read t p) = FitsPlace rows p
  FitsExpr rows (tree.Convert t e) = FitsExpr rows e
  FitsExpr rows (tree.Discard e) = FitsExpr rows e
  FitsExpr rows (tree.Unary t o e) = FitsExpr rows e
  FitsExpr rows (tree.Binary t o a b) = FitsExpr rows a × FitsExpr rows b
  FitsExpr rows (tree.Logical o a b) = FitsExpr rows a × FitsExpr rows b
  FitsExpr rows (tree.Conditional t c a b) = FitsExpr rows c × FitsExpr rows a × FitsExpr rows b
  FitsExpr rows (tree.Comma t a b) = FitsExpr rows a × FitsExpr rows b
  FitsExpr rows (tree.Assign t p e) = FitsPlace rows p × FitsExpr rows e
  FitsExpr rows (tree.Compound t o u p e) = FitsPlace rows p × FitsExpr rows e
  FitsExpr rows (tree.Prefix t d p) = FitsPlace rows p
  FitsExpr rows (tree.Postfix t d p) = FitsPlace rows p
  FitsExpr rows (tree.Call t f es) = FitsArguments rows es × IsRoutineShape (shape_at rows f) (argument_count es) (is_some t)
  FitsExpr rows tree.GetChar = ⊤
  FitsExpr rows (tree.PutChar e) = FitsExpr rows e
  FitsExpr rows (tree.Exit e) = FitsExpr rows e

  pub FitsPlace : List ShapeRow → Place → Type 0
  FitsPlace rows (tree.Scalar x) = FitsVariable rows x
  FitsPlace rows (tree.Element a e) = FitsArray rows a × FitsExpr rows e

  pub FitsArguments : List ShapeRow → Arguments → Type 0
  FitsArguments rows tree.None = ⊤
  FitsArguments rows (tree.Argument e es) = FitsExpr rows e × FitsArguments rows es

abbrev pub FitsOptional : List ShapeRow → Option Expr → Type 0
FitsOptional rows None = ⊤
FitsOptional rows (Some e) = FitsExpr rows e

-- what stands around a statement: whether the function gives a value, and where `break` and `continue` may stand
pub record Around : Type 0 where
  pub value : Bool
  pub breaks : Bool
  pub continues : Bool

abbrev pub in_loop : Around → Around
in_loop a = record { value = a.value; breaks = true; continues = true }

abbrev pub in_switch : Around → Around
in_switch a = record { value = a.value; breaks = true; continues = a.continues }

abbrev mutual
  pub FitsStmt : List ShapeRow → Around → Stmt → Type 0
  FitsStmt rows a tree.Empty = ⊤
  FitsStmt rows a (tree.Sequence s t) = FitsStmt rows a s × FitsStmt rows a t
  FitsStmt rows a (tree.Declaration x e) = FitsOptional rows e
  FitsStmt rows a (tree.Expression e) = FitsExpr rows e
  FitsStmt rows a (tree.If e s) = FitsExpr rows e × FitsStmt rows a s
  FitsStmt rows a (tree.IfElse e s t) = FitsExpr rows e × FitsStmt rows a s × FitsStmt rows a t
  FitsStmt rows a (tree.Switch e ss) = FitsExpr rows e × FitsSections rows (in_switch a) ss
  FitsStmt rows a (tree.While e s) = FitsExpr rows e × FitsStmt rows (in_loop a) s
  FitsStmt rows a (tree.Do s e) = FitsStmt rows (in_loop a) s × FitsExpr rows e
  FitsStmt rows a (tree.For f c d s) =
      FitsOptional rows f × FitsOptional rows c × FitsOptional rows d × FitsStmt rows (in_loop a) s
  FitsStmt rows a tree.Break = IsTrue a.breaks
  FitsStmt rows a tree.Continue = IsTrue a.continues
  FitsStmt rows a (tree.Return None) = ⊤
  FitsStmt rows a (tree.Return (Some e)) = IsTrue a.value × FitsExpr rows e

  pub FitsSections : List ShapeRow → Around → Sections → Type 0
  FitsSections rows a tree.End = ⊤
  FitsSections rows a (tree.Section ls s rest) = FitsStmt rows a s × FitsSections rows a rest

-- a function among routines and objects of these shapes
abbrev pub FitsFunction : List ShapeRow → Function → Type 0
FitsFunction rows f = FitsStmt rows (record { value = is_some f.result; breaks = false; continues = false }) f.body
