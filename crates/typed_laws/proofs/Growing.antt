-- A well-typed function stays so as the table grows: functions and variables keep their entities, and arrays up to a length.
use Rattle.std.proofs.Common.{◌≡◌, List, [], ◌∷◌, Option, Some, None, Bool, true, false, ℕ, ap, ◌∙◌}
use Rattle.hlo_num.specs.declared.word.Ty.{Ty}
use Rattle.sym_tables.specs.declared.entity.Entity.TheVariants as entities
use Rattle.sym_tables.specs.Table.{Table}
use Rattle.c_typed.specs.declared.expression.Variable.{Variable}
use Rattle.c_typed.specs.declared.expression.Variable.TheVariants as variables
use Rattle.c_typed.specs.declared.expression.Array.{Array}
use Rattle.c_typed.specs.declared.expression.Array.TheVariants as arrays
use Rattle.c_typed.specs.declared.function.Local.{Local}
use Rattle.c_typed.specs.Trees as tree
use Rattle.c_typed.specs.Trees.{Place, Expr, Arguments, Stmt, Sections, Function}
use Rattle.program_laws.specs.Growing.{entity_at, Grows}
use Rattle.typed_laws.specs.Laws.{WellTypedStays}
use Rattle.typed_laws.specs.WellTyped.{Scope, IsVariable, IsArray, IsExpr, IsPlace, AreArguments, IsOptional, IsOptionalValue, Around, in_loop}
use Rattle.typed_laws.specs.WellTyped.{in_switch, IsStmt, AreSections, types_of}

module _ (old new : Table) (g : Grows old new) where
  function_stays : (pid : ℕ) (gives : Option Ty) (params : List Ty) → entity_at old pid ≡ Some (entities.Function gives params)
      → entity_at new pid ≡ Some (entities.Function gives params)
  function_stays pid gives params is = let now = g.entities pid (entities.Function gives params) is in now.1 ∙ ap Some now.2

  module _ (ps : List Ty) (ls : List Local) where
    abbrev before : Scope
    before = record { params = ps; locals = ls; syms = old }

    abbrev after : Scope
    after = record { params = ps; locals = ls; syms = new }

    variable_stays : (w : Bool) (t : Ty) (x : Variable) → IsVariable before w t x → IsVariable after w t x
    variable_stays w t (variables.Parameter x) ok = ok
    variable_stays w t (variables.Local x) ok = ok
    variable_stays w t (variables.Object o) ok =
        let now = g.entities o (entities.Scalar t ok.0) ok.1 in (ok.0, now.1 ∙ ap Some now.2, ok.2)

    array_stays : (w : Bool) (t : Ty) (a : Array) → IsArray before w t a → IsArray after w t a
    array_stays w t (arrays.Local a) ok = ok
    array_stays w t (arrays.Object o) ok = by_length ok.1 ok.2
      where
        by_length : (n : Option ℕ) → entity_at old o ≡ Some (entities.Array t ok.0 n) → IsArray after w t (arrays.Object o)
        by_length None is = let now = g.entities o (entities.Array t ok.0 None) is in (ok.0, now.2.0, now.1 ∙ ap Some now.2.1, ok.3)
        by_length (Some k) is = let now = g.entities o (entities.Array t ok.0 (Some k)) is in (ok.0, Some k, now.1 ∙ ap Some now.2, ok.3)

    mutual
      expr_stays : (e : Expr) → IsExpr before e → IsExpr after e
      expr_stays (tree.Constant t v) ok = tt
      expr_stays (tree.Read t p) ok = place_stays p false t ok
      expr_stays (tree.Convert t e) ok = (expr_stays e ok.0, ok.1, ok.2)
      expr_stays (tree.Discard e) ok = expr_stays e ok
      expr_stays (tree.Unary t o e) ok = (expr_stays e ok.0, ok.1, ok.2, ok.3)
      expr_stays (tree.Binary t o a b) ok = (expr_stays a ok.0, ok.1, ok.2, expr_stays b ok.3, ok.4, ok.5, ok.6)
      expr_stays (tree.Logical o a b) ok = (expr_stays a ok.0, ok.1, expr_stays b ok.2, ok.3)
      expr_stays (tree.Conditional t c a b) ok = (expr_stays c ok.0, ok.1, expr_stays a ok.2, ok.3, expr_stays b ok.4, ok.5, ok.6)
      expr_stays (tree.Comma t a b) ok = (expr_stays a ok.0, expr_stays b ok.1, ok.2)
      expr_stays (tree.Assign t p e) ok = (place_stays p true t ok.0, expr_stays e ok.1, ok.2)
      expr_stays (tree.Compound t o u p e) ok = (place_stays p true t ok.0, ok.1, expr_stays e ok.2, ok.3, ok.4, ok.5)
      expr_stays (tree.Prefix t d p) ok = place_stays p true t ok
      expr_stays (tree.Postfix t d p) ok = place_stays p true t ok
      expr_stays (tree.Call t c es) ok = (ok.0, function_stays c t ok.0 ok.1, arguments_stay es ok.0 ok.2)
      expr_stays tree.GetChar ok = tt
      expr_stays (tree.PutChar e) ok = (expr_stays e ok.0, ok.1)
      expr_stays (tree.Exit e) ok = (expr_stays e ok.0, ok.1)

      place_stays : (p : Place) (w : Bool) (t : Ty) → IsPlace before w t p → IsPlace after w t p
      place_stays (tree.Scalar x) w t ok = variable_stays w t x ok
      place_stays (tree.Element a e) w t ok = (array_stays w t a ok.0, expr_stays e ok.1, ok.2)

      arguments_stay : (es : Arguments) (ts : List Ty) → AreArguments before ts es → AreArguments after ts es
      arguments_stay tree.None [] ok = tt
      arguments_stay tree.None (t ∷ ts) ok = ok
      arguments_stay (tree.Argument e es) [] ok = ok
      arguments_stay (tree.Argument e es) (t ∷ ts) ok = (expr_stays e ok.0, ok.1, arguments_stay es ts ok.2)

    optional_stays : (e : Option Expr) → IsOptional before e → IsOptional after e
    optional_stays None ok = tt
    optional_stays (Some e) ok = expr_stays e ok

    value_stays : (e : Option Expr) → IsOptionalValue before e → IsOptionalValue after e
    value_stays None ok = tt
    value_stays (Some e) ok = (expr_stays e ok.0, ok.1)

    mutual
      stmt_stays : (s : Stmt) (a : Around) → IsStmt before a s → IsStmt after a s
      stmt_stays tree.Empty a ok = tt
      stmt_stays (tree.Sequence b c) a ok = (stmt_stays b a ok.0, stmt_stays c a ok.1)
      stmt_stays (tree.Declaration x None) a ok = ok
      stmt_stays (tree.Declaration x (Some e)) a ok = (expr_stays e ok.0, ok.1, ok.2, ok.3)
      stmt_stays (tree.Expression e) a ok = expr_stays e ok
      stmt_stays (tree.If e b) a ok = (expr_stays e ok.0, ok.1, stmt_stays b a ok.2)
      stmt_stays (tree.IfElse e b c) a ok = (expr_stays e ok.0, ok.1, stmt_stays b a ok.2, stmt_stays c a ok.3)
      stmt_stays (tree.Switch e ss) a ok = (expr_stays e ok.0, ok.1, ok.2, ok.3, ok.4, sections_stay ss (in_switch a) ok.5)
      stmt_stays (tree.While e b) a ok = (expr_stays e ok.0, ok.1, stmt_stays b (in_loop a) ok.2)
      stmt_stays (tree.Do b e) a ok = (stmt_stays b (in_loop a) ok.0, expr_stays e ok.1, ok.2)
      stmt_stays (tree.For first e step b) a ok =
          (optional_stays first ok.0, value_stays e ok.1, optional_stays step ok.2, stmt_stays b (in_loop a) ok.3)
      stmt_stays tree.Break a ok = ok
      stmt_stays tree.Continue a ok = ok
      stmt_stays (tree.Return None) a ok = tt
      stmt_stays (tree.Return (Some e)) a ok = (expr_stays e ok.0, ok.1, ok.2, ok.3)

      sections_stay : (ss : Sections) (a : Around) → AreSections before a ss → AreSections after a ss
      sections_stay tree.End a ok = tt
      sections_stay (tree.Section ls b rest) a ok = (stmt_stays b a ok.0, sections_stay rest a ok.1)

pub well_typed_stays : WellTypedStays
well_typed_stays old new g f ok = record {
  entity = function_stays old new g f.pid f.result (types_of f) ok.entity;
  bound = ok.bound;
  body = stmt_stays old new g (types_of f) f.locals f.body (record { result = f.result; breaks = false; continues = false }) ok.body;
}
