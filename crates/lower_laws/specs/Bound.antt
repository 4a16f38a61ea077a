-- What lowering needs of a function, so that its routine means what the function means: each parameter and local that is
-- named is declared before, as a variable or as an array, locals are numbered in the order of their declarators, and what
-- is used as a value has one. The typing rules promise it; nothing here speaks of types beyond that.
use Rattle.std.specs.Prelude.{◌≡◌, ℕ, suc, ◌<◌, Bool, true, false, IsTrue, Option, Some, None, is_some, length, slice_get, ⊤}
use Rattle.c_typed.specs.declared.expression.Variable.{Variable}
use Rattle.c_typed.specs.declared.expression.Variable.TheVariants as variables
use Rattle.c_typed.specs.declared.expression.Array.{Array}
use Rattle.c_typed.specs.declared.expression.Array.TheVariants as arrays
use Rattle.c_typed.specs.Trees as tree
use Rattle.c_typed.specs.Trees.{Place, Expr, Arguments, Stmt, Sections, Function}
use Rattle.c_typed.specs.Types.{type_of}
use Rattle.lower_laws.specs.Functions.{is_some_array}

-- how many parameters there are, how many locals are declared so far, and which locals are arrays
pub record Scope : Type 0 where
  pub params : ℕ
  pub locals : ℕ
  pub is_array : ℕ → Bool

abbrev pub IsVariable : Scope → Variable → Type 0
IsVariable s (variables.Parameter x) = x < s.params
IsVariable s (variables.Local x) = (x < s.locals) × (s.is_array x ≡ false)
IsVariable s (variables.Object g) = ⊤

abbrev pub IsArray : Scope → Array → Type 0
IsArray s (arrays.Local a) = (a < s.locals) × (s.is_array a ≡ true)
IsArray s (arrays.Object g) = ⊤

-- it isn't void
abbrev pub HasValue : Expr → Type 0
HasValue e = IsTrue (is_some (type_of e))

abbrev mutual
  pub IsExpr : Scope → Expr → Type 0
  IsExpr s (tree.Constant t v) = ⊤
  IsExpr s (tree.Read t p) = IsPlace s p
  IsExpr s (tree.Convert t e) = IsExpr s e × HasValue e
  IsExpr s (tree.Discard e) = IsExpr s e
  IsExpr s (tree.Unary t o e) = IsExpr s e × HasValue e
  IsExpr s (tree.Binary t o a b) = (IsExpr s a × HasValue a) × (IsExpr s b × HasValue b)
  IsExpr s (tree.Logical o a b) = (IsExpr s a × HasValue a) × (IsExpr s b × HasValue b)
  IsExpr s (tree.Conditional t c a b) = (IsExpr s c × HasValue c) × (IsExpr s a × (type_of a ≡ t)) × (IsExpr s b × (type_of b ≡ t))
  IsExpr s (tree.Comma t a b) = IsExpr s a × IsExpr s b × (type_of b ≡ t)
  IsExpr s (tree.Assign t p e) = IsPlace s p × (IsExpr s e × HasValue e)
  IsExpr s (tree.Compound t o u p e) = IsPlace s p × (IsExpr s e × HasValue e)
  IsExpr s (tree.Prefix t d p) = IsPlace s p
  IsExpr s (tree.Postfix t d p) = IsPlace s p
  IsExpr s (tree.Call t f es) = AreArguments s es
  IsExpr s tree.GetChar = ⊤
  IsExpr s (tree.PutChar e) = IsExpr s e × HasValue e
  IsExpr s (tree.Exit e) = IsExpr s e × HasValue e

  pub IsPlace : Scope → Place → Type 0
  IsPlace s (tree.Scalar x) = IsVariable s x
  IsPlace s (tree.Element a e) = IsArray s a × (IsExpr s e × HasValue e)

  pub AreArguments : Scope → Arguments → Type 0
  AreArguments s tree.None = ⊤
  AreArguments s (tree.Argument e es) = (IsExpr s e × HasValue e) × AreArguments s es

abbrev pub IsOptional : Scope → Option Expr → Type 0
IsOptional s None = ⊤
IsOptional s (Some e) = IsExpr s e

abbrev pub IsOptionalValue : Scope → Option Expr → Type 0
IsOptionalValue s None = ⊤
IsOptionalValue s (Some e) = IsExpr s e × HasValue e

-- one more local is declared
abbrev pub declared : Scope → Scope
declared s = record s { locals = suc s.locals }

-- how many locals are declared behind a statement: they keep their numbers behind the block that they are in
abbrev mutual
  pub locals_behind : Stmt → ℕ → ℕ
  locals_behind tree.Empty n = n
  locals_behind (tree.Sequence a b) n = locals_behind b (locals_behind a n)
  locals_behind (tree.Declaration x e) n = suc n
  locals_behind (tree.Expression e) n = n
  locals_behind (tree.If e a) n = locals_behind a n
  locals_behind (tree.IfElse e a b) n = locals_behind b (locals_behind a n)
  locals_behind (tree.Switch e ss) n = sections_behind ss n
  locals_behind (tree.While e a) n = locals_behind a n
  locals_behind (tree.Do a e) n = locals_behind a n
  locals_behind (tree.For f c d a) n = locals_behind a n
  locals_behind tree.Break n = n
  locals_behind tree.Continue n = n
  locals_behind (tree.Return e) n = n

  pub sections_behind : Sections → ℕ → ℕ
  sections_behind tree.End n = n
  sections_behind (tree.Section ls a rest) n = sections_behind rest (locals_behind a n)

abbrev pub behind : Stmt → Scope → Scope
behind a s = record s { locals = locals_behind a s.locals }

-- a declarator declares the next local, and sees it; an array has no initialiser
abbrev mutual
  pub IsStmt : Scope → Stmt → Type 0
  IsStmt s tree.Empty = ⊤
  IsStmt s (tree.Sequence a b) = IsStmt s a × IsStmt (behind a s) b
  IsStmt s (tree.Declaration x None) = x ≡ s.locals
  IsStmt s (tree.Declaration x (Some e)) = (x ≡ s.locals) × (s.is_array x ≡ false) × (IsExpr (declared s) e × HasValue e)
  IsStmt s (tree.Expression e) = IsExpr s e
  IsStmt s (tree.If e a) = (IsExpr s e × HasValue e) × IsStmt s a
  IsStmt s (tree.IfElse e a b) = (IsExpr s e × HasValue e) × IsStmt s a × IsStmt (behind a s) b
  IsStmt s (tree.Switch e ss) = (IsExpr s e × HasValue e) × AreSections s ss
  IsStmt s (tree.While e a) = (IsExpr s e × HasValue e) × IsStmt s a
  IsStmt s (tree.Do a e) = IsStmt s a × (IsExpr s e × HasValue e)
  IsStmt s (tree.For f c d a) = IsOptional s f × IsOptionalValue s c × IsOptional s d × IsStmt s a
  IsStmt s tree.Break = ⊤
  IsStmt s tree.Continue = ⊤
  IsStmt s (tree.Return e) = IsOptionalValue s e

  pub AreSections : Scope → Sections → Type 0
  AreSections s tree.End = ⊤
  AreSections s (tree.Section ls a rest) = IsStmt s a × AreSections (behind a s) rest

abbrev pub scope_of : Function → Scope
scope_of f = record { params = length f.params; locals = 0; is_array = λ x. is_some_array (slice_get f.locals x) }

-- the names of a function are bound
abbrev pub IsBound : Function → Type 0
IsBound f = IsStmt (scope_of f) f.body
