-- What is bound where some locals are declared is bound where more are.
use Rattle.std.proofs.Common.{ℕ, ◌≤◌, Option, Some, None, arith}
use Rattle.c_typed.specs.declared.expression.Variable.TheVariants as variables
use Rattle.c_typed.specs.declared.expression.Array.TheVariants as arrays
use Rattle.c_typed.specs.Trees as tree
use Rattle.c_typed.specs.Trees.{Place, Expr, Arguments, Stmt, Sections}
use Rattle.lower_laws.specs.Bound.{Scope, IsExpr, IsPlace, AreArguments, IsOptional, locals_behind, sections_behind}

-- a scope with so many locals declared
abbrev pub with_locals : Scope → ℕ → Scope
with_locals s n = record s { locals = n }

mutual
  pub wider : (s : Scope) (n m : ℕ) (e : Expr) → n ≤ m → IsExpr (with_locals s n) e → IsExpr (with_locals s m) e
  wider s n m (tree.Constant t v) le ok = ok
  wider s n m (tree.Read t p) le ok = wider_place s n m p le ok
  wider s n m (tree.Convert t e) le ok = (wider s n m e le ok.0, ok.1)
  wider s n m (tree.Discard e) le ok = wider s n m e le ok
  wider s n m (tree.Unary t o e) le ok = (wider s n m e le ok.0, ok.1)
  wider s n m (tree.Binary t o a b) le ok = ((wider s n m a le ok.0.0, ok.0.1), (wider s n m b le ok.1.0, ok.1.1))
  wider s n m (tree.Logical o a b) le ok = ((wider s n m a le ok.0.0, ok.0.1), (wider s n m b le ok.1.0, ok.1.1))
  wider s n m (tree.Conditional t d a b) le ok =
      ((wider s n m d le ok.0.0, ok.0.1), (wider s n m a le ok.1.0, ok.1.1), (wider s n m b le ok.2.0, ok.2.1))
  wider s n m (tree.Comma t a b) le ok = (wider s n m a le ok.0, wider s n m b le ok.1, ok.2)
  wider s n m (tree.Assign t p e) le ok = (wider_place s n m p le ok.0, (wider s n m e le ok.1.0, ok.1.1))
  wider s n m (tree.Compound t o u p e) le ok = (wider_place s n m p le ok.0, (wider s n m e le ok.1.0, ok.1.1))
  wider s n m (tree.Prefix t d p) le ok = wider_place s n m p le ok
  wider s n m (tree.Postfix t d p) le ok = wider_place s n m p le ok
  wider s n m (tree.Call t g es) le ok = wider_arguments s n m es le ok
  wider s n m tree.GetChar le ok = ok
  wider s n m (tree.PutChar e) le ok = (wider s n m e le ok.0, ok.1)
  wider s n m (tree.Exit e) le ok = (wider s n m e le ok.0, ok.1)

  wider_place : (s : Scope) (n m : ℕ) (p : Place) → n ≤ m → IsPlace (with_locals s n) p → IsPlace (with_locals s m) p
  wider_place s n m (tree.Scalar (variables.Parameter x)) le ok = ok
  wider_place s n m (tree.Scalar (variables.Local x)) le ok = (omega (arith, ok.0), ok.1)
  wider_place s n m (tree.Scalar (variables.Object g)) le ok = ok
  wider_place s n m (tree.Element (arrays.Local a) e) le ok = ((omega (arith, ok.0.0), ok.0.1), (wider s n m e le ok.1.0, ok.1.1))
  wider_place s n m (tree.Element (arrays.Object g) e) le ok = (ok.0, (wider s n m e le ok.1.0, ok.1.1))

  wider_arguments : (s : Scope) (n m : ℕ) (es : Arguments) → n ≤ m → AreArguments (with_locals s n) es → AreArguments (with_locals s m) es
  wider_arguments s n m tree.None le ok = ok
  wider_arguments s n m (tree.Argument e es) le ok = ((wider s n m e le ok.0.0, ok.0.1), wider_arguments s n m es le ok.1)

pub wider_optional : (s : Scope) (n m : ℕ) (e : Option Expr) → n ≤ m → IsOptional (with_locals s n) e → IsOptional (with_locals s m) e
wider_optional s n m None le ok = ok
wider_optional s n m (Some e) le ok = wider s n m e le ok

-- locals are declared and never forgotten
mutual
  pub locals_grow : (st : Stmt) (n : ℕ) → n ≤ locals_behind st n
  locals_grow tree.Empty n = omega arith
  locals_grow (tree.Sequence a b) n = omega (arith, locals_grow a n, locals_grow b (locals_behind a n))
  locals_grow (tree.Declaration x e) n = omega arith
  locals_grow (tree.Expression e) n = omega arith
  locals_grow (tree.If e a) n = locals_grow a n
  locals_grow (tree.IfElse e a b) n = omega (arith, locals_grow a n, locals_grow b (locals_behind a n))
  locals_grow (tree.Switch e ss) n = sections_grow ss n
  locals_grow (tree.While e a) n = locals_grow a n
  locals_grow (tree.Do a e) n = locals_grow a n
  locals_grow (tree.For f e d a) n = locals_grow a n
  locals_grow tree.Break n = omega arith
  locals_grow tree.Continue n = omega arith
  locals_grow (tree.Return e) n = omega arith

  pub sections_grow : (ss : Sections) (n : ℕ) → n ≤ sections_behind ss n
  sections_grow tree.End n = omega arith
  sections_grow (tree.Section ls a rest) n = omega (arith, locals_grow a n, sections_grow rest (locals_behind a n))
