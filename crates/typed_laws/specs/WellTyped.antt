-- Well-typed trees: what the language asks of the types in an expression, a place, a statement and a function (C90, 6.2 to
-- 6.6). They are read off the tree, the parameters and locals of the function, and the table of the program's names. That a
-- name is declared before it is used, and that locals are numbered in the order of their declarators, is `IsBound`.
use Rattle.std.specs.Prelude.{◌≡◌, ◌≢◌, ◌<◌, ℕ, Bool, true, false, ◌&&◌, IsTrue, List, [], ◌∷◌, ◌++◌, map, Option, Some, None, slice_get, ⊤}
use Rattle.std.specs.List.{AllByRecursion}
use Rattle.hlo_num.specs.declared.word.Ty.{Ty}
use Rattle.hlo_num.specs.declared.word.Ty.TheVariants.{Int}
use Rattle.hlo_num.specs.Words.{promote, usual}
use Rattle.sym_tables.specs.declared.entity.Entity.{Entity}
use Rattle.sym_tables.specs.declared.entity.Entity.TheVariants as entities
use Rattle.sym_tables.specs.declared.symbol.Standing.{Standing}
use Rattle.sym_tables.specs.declared.symbol.Standing.TheVariants as standings
use Rattle.sym_tables.specs.Entities.{is_function, words}
use Rattle.sym_tables.specs.Symbols.{is_declared}
use Rattle.sym_tables.specs.Table.{Table}
use Rattle.c_tree.specs.declared.expression.UnaryOp.{UnaryOp}
use Rattle.c_tree.specs.declared.expression.UnaryOp.TheVariants.{Plus, Minus, Complement, Not}
use Rattle.c_typed.specs.declared.expression.Variable.{Variable}
use Rattle.c_typed.specs.declared.expression.Variable.TheVariants as variables
use Rattle.c_typed.specs.declared.expression.Array.{Array}
use Rattle.c_typed.specs.declared.expression.Array.TheVariants as arrays
use Rattle.c_typed.specs.declared.expression.BinaryOp.{BinaryOp}
use Rattle.c_typed.specs.declared.expression.BinaryOp.TheVariants.{ShiftLeft, ShiftRight}
use Rattle.c_typed.specs.declared.function.Local.{Local}
use Rattle.c_typed.specs.declared.statement.Label.{Label}
use Rattle.c_typed.specs.Trees as tree
use Rattle.c_typed.specs.Trees.{Place, Expr, Arguments, Stmt, Sections, Function}
use Rattle.c_typed.specs.Types.{type_of}
use Rattle.lower_laws.specs.Bound.{HasValue, IsBound}
use Rattle.program_laws.specs.Growing.{entity_at, standing_at}
use Rattle.program_laws.specs.Settled.{HasFunction, HaveOwnPids}

-- the types of the parameters, the locals, and the names of the program
pub record Scope : Type 0 where
  pub params : List Ty
  pub locals : List Local
  pub syms : Table

-- ## Places. One that is written isn't const: of an object the table says so

abbrev pub IsVariable : Scope → (writes : Bool) → Ty → Variable → Type 0
IsVariable s writes t (variables.Parameter x) = slice_get s.params x ≡ Some t
IsVariable s writes t (variables.Local x) =
    (name : List ℕ) × (slice_get s.locals x ≡ Some (record { ty = t; length = None; name = name }))
IsVariable s writes t (variables.Object g) =
    (fixed : Bool) × (entity_at s.syms g ≡ Some (entities.Scalar t fixed)) × ((writes && fixed) ≡ false)

abbrev pub IsArray : Scope → (writes : Bool) → Ty → Array → Type 0
IsArray s writes t (arrays.Local a) =
    (length : ℕ) × (name : List ℕ) × (slice_get s.locals a ≡ Some (record { ty = t; length = Some length; name = name }))
IsArray s writes t (arrays.Object g) =
    (fixed : Bool) × (length : Option ℕ) × (entity_at s.syms g ≡ Some (entities.Array t fixed length)) × ((writes && fixed) ≡ false)

-- ## Operators

abbrev pub HasType : Expr → Ty → Type 0
HasType e t = type_of e ≡ Some t

-- a type that the promotions leave as it is
abbrev pub IsPromoted : Ty → Type 0
IsPromoted t = promote t ≡ t

-- an operator on a value of type u gives one of type t: `!` takes any and gives int, the others work in a promoted type
abbrev pub IsUnary : UnaryOp → Ty → Ty → Type 0
IsUnary Plus u t = IsPromoted t × (u ≡ t)
IsUnary Minus u t = IsPromoted t × (u ≡ t)
IsUnary Complement u t = IsPromoted t × (u ≡ t)
IsUnary Not u t = t ≡ Int

abbrev pub is_shift : BinaryOp → Bool
is_shift ShiftLeft = true
is_shift ShiftRight = true
is_shift _ = false

-- The right operand of an operator that works in the promoted type t: a shift's is promoted alone, any other's has that type.
abbrev pub IsRight : (shift : Bool) → Ty → Ty → Type 0
IsRight true t u = IsPromoted u
IsRight false t u = u ≡ t

-- the type in which a compound assignment to a place of type t works: a shift's is t promoted, any other's is what the usual
-- conversions give of t and the type of some operand
abbrev pub IsWorking : (shift : Bool) → Ty → Ty → Type 0
IsWorking true t u = u ≡ promote t
IsWorking false t u = (other : Ty) × (u ≡ usual (promote t) (promote other))

-- the arms of `?:` are void, or of a promoted type
abbrev pub IsArm : Option Ty → Type 0
IsArm None = ⊤
IsArm (Some t) = IsPromoted t

-- ## Expressions

abbrev mutual
  pub IsExpr : Scope → Expr → Type 0
  IsExpr s (tree.Constant t v) = ⊤
  IsExpr s (tree.Read t p) = IsPlace s false t p
  IsExpr s (tree.Convert t e) = IsExpr s e × HasValue e × (type_of e ≢ Some t)
  IsExpr s (tree.Discard e) = IsExpr s e
  IsExpr s (tree.Unary t o e) = IsExpr s e × (u : Ty) × HasType e u × IsUnary o u t
  IsExpr s (tree.Binary t o a b) = IsExpr s a × HasType a t × IsPromoted t × IsExpr s b × (u : Ty) × HasType b u × IsRight (is_shift o) t u
  IsExpr s (tree.Logical o a b) = IsExpr s a × HasValue a × IsExpr s b × HasValue b
  IsExpr s (tree.Conditional t c a b) =
      IsExpr s c × HasValue c × IsExpr s a × (type_of a ≡ t) × IsExpr s b × (type_of b ≡ t) × IsArm t
  IsExpr s (tree.Comma t a b) = IsExpr s a × IsExpr s b × (type_of b ≡ t)
  IsExpr s (tree.Assign t p e) = IsPlace s true t p × IsExpr s e × HasType e t
  IsExpr s (tree.Compound t o u p e) =
      IsPlace s true t p × IsWorking (is_shift o) t u × IsExpr s e × (v : Ty) × HasType e v × IsRight (is_shift o) u v
  IsExpr s (tree.Prefix t d p) = IsPlace s true t p
  IsExpr s (tree.Postfix t d p) = IsPlace s true t p
  IsExpr s (tree.Call t f es) = (params : List Ty) × (entity_at s.syms f ≡ Some (entities.Function t params)) × AreArguments s params es
  IsExpr s tree.GetChar = ⊤
  IsExpr s (tree.PutChar e) = IsExpr s e × HasType e Int
  IsExpr s (tree.Exit e) = IsExpr s e × HasType e Int

  -- a place of this type, which is read or written
  pub IsPlace : Scope → (writes : Bool) → Ty → Place → Type 0
  IsPlace s writes t (tree.Scalar x) = IsVariable s writes t x
  IsPlace s writes t (tree.Element a e) = IsArray s writes t a × IsExpr s e × HasValue e

  -- arguments for parameters of these types
  pub AreArguments : Scope → List Ty → Arguments → Type 0
  AreArguments s [] tree.None = ⊤
  AreArguments s [] (tree.Argument e es) = ⊥
  AreArguments s (t ∷ ts) tree.None = ⊥
  AreArguments s (t ∷ ts) (tree.Argument e es) = IsExpr s e × HasType e t × AreArguments s ts es

abbrev pub IsOptional : Scope → Option Expr → Type 0
IsOptional s None = ⊤
IsOptional s (Some e) = IsExpr s e

abbrev pub IsOptionalValue : Scope → Option Expr → Type 0
IsOptionalValue s None = ⊤
IsOptionalValue s (Some e) = IsExpr s e × HasValue e

-- ## Statements

-- what stands around a statement: the type of the function's value, and whether `break` and `continue` have what they leave
pub record Around : Type 0 where
  pub result : Option Ty
  pub breaks : Bool
  pub continues : Bool

abbrev pub in_loop : Around → Around
in_loop a = record { result = a.result; breaks = true; continues = true }

abbrev pub in_switch : Around → Around
in_switch a = record { result = a.result; breaks = true; continues = a.continues }

-- the labels of a switch
abbrev pub labels_of : Sections → List Label
labels_of tree.End = []
labels_of (tree.Section labels body rest) = labels ++ labels_of rest

-- no two are the same, so there is one default at most
abbrev pub AreApart : List Label → Type 0
AreApart [] = ⊤
AreApart (l ∷ ls) = AllByRecursion (λ other. l ≢ other) ls × AreApart ls

-- An initialiser and a returned value have their target's type. A label has a value of the switch's type, which is promoted,
-- so each word is one. `return;` may stand in any function.
abbrev mutual
  pub IsStmt : Scope → Around → Stmt → Type 0
  IsStmt s a tree.Empty = ⊤
  IsStmt s a (tree.Sequence b c) = IsStmt s a b × IsStmt s a c
  IsStmt s a (tree.Declaration x None) = (local : Local) × (slice_get s.locals x ≡ Some local)
  IsStmt s a (tree.Declaration x (Some e)) = IsExpr s e × (t : Ty) × HasType e t × IsVariable s true t (variables.Local x)
  IsStmt s a (tree.Expression e) = IsExpr s e
  IsStmt s a (tree.If e b) = IsExpr s e × HasValue e × IsStmt s a b
  IsStmt s a (tree.IfElse e b c) = IsExpr s e × HasValue e × IsStmt s a b × IsStmt s a c
  IsStmt s a (tree.Switch e ss) =
      IsExpr s e × (t : Ty) × HasType e t × IsPromoted t × AreApart (labels_of ss) × AreSections s (in_switch a) ss
  IsStmt s a (tree.While e b) = IsExpr s e × HasValue e × IsStmt s (in_loop a) b
  IsStmt s a (tree.Do b e) = IsStmt s (in_loop a) b × IsExpr s e × HasValue e
  IsStmt s a (tree.For first e step b) = IsOptional s first × IsOptionalValue s e × IsOptional s step × IsStmt s (in_loop a) b
  IsStmt s a tree.Break = IsTrue a.breaks
  IsStmt s a tree.Continue = IsTrue a.continues
  IsStmt s a (tree.Return None) = ⊤
  IsStmt s a (tree.Return (Some e)) = IsExpr s e × (t : Ty) × HasType e t × (a.result ≡ Some t)

  pub AreSections : Scope → Around → Sections → Type 0
  AreSections s a tree.End = ⊤
  AreSections s a (tree.Section labels b rest) = IsStmt s a b × AreSections s a rest

-- ## Functions

abbrev pub types_of : Function → List Ty
types_of f = map (λ p. p.ty) f.params

abbrev pub scope_of : Table → Function → Scope
scope_of syms f = record { params = types_of f; locals = f.locals; syms = syms }

-- A function of a program with these names: its PID is a function with its parameters and its result, its names are bound,
-- and its block is well typed.
pub record IsWellTyped (syms : Table) (f : Function) : Type 0 where
  pub entity : entity_at syms f.pid ≡ Some (entities.Function f.result (types_of f))
  pub bound : IsBound f
  pub body : IsStmt (scope_of syms f) (record { result = f.result; breaks = false; continues = false }) f.body

-- ## Programs

-- The functions of modules, and the table that they leave: each function is well typed, no two have one PID, each function that
-- is defined is there, and each object that is defined, tentatively or not, has a word at least.
pub record AreWellTyped (fs : List Function) (syms : Table) : Type 0 where
  pub functions : AllByRecursion (IsWellTyped syms) fs
  pub apart : HaveOwnPids fs
  pub defined : (pid : ℕ) (gives : Option Ty) (params : List Ty) → entity_at syms pid ≡ Some (entities.Function gives params)
      → standing_at syms pid ≡ Some standings.Defined → HasFunction fs pid
  pub objects : (pid : ℕ) (e : Entity) (s : Standing) → entity_at syms pid ≡ Some e → standing_at syms pid ≡ Some s
      → is_function e ≡ false → is_declared s ≡ false → 0 < words e
