-- The trees that the rules make. An expression comes with its height: a leaf has height 1, another node one
-- more than its highest part. The parts of a cast are its operand and the values in its type.
use Rattle.std.specs.Prelude.{ℕ, ◌+◌, max, Bool, true, false, List, [], ◌∷◌, ◌++◌, Option, Some, None}
use Rattle.c_tree.specs.declared.token.Token.{Token}
use Rattle.c_tree.specs.declared.token.TokenKind.{TokenKind}
use Rattle.c_tree.specs.declared.token.TokenKind.TheVariants as kinds
use Rattle.c_tree.specs.declared.expression.Identifier.{Identifier}
use Rattle.c_tree.specs.declared.expression.Expr.{Expr, roll-Expr}
use Rattle.c_tree.specs.declared.expression.Expr.TheOpen.{Expr-F, Specifier-F}
use Rattle.c_tree.specs.declared.expression.Specifiers.{Specifiers, roll-Specifiers}
use Rattle.c_tree.specs.declared.expression.Specifier.{Specifier, roll-Specifier}
use Rattle.c_tree.specs.declared.expression.Enumerator.{Enumerator, roll-Enumerator}
use Rattle.c_tree.specs.declared.expression.SpecifierWord.{SpecifierWord}
use Rattle.c_tree.specs.declared.expression.Step.{Step}
use Rattle.c_tree.specs.declared.expression.UnaryOp.{UnaryOp}
use Rattle.c_tree.specs.declared.expression.BinaryOp.{BinaryOp}
use Rattle.c_tree.specs.declared.declaration.Module.{Module}
use Rattle.c_tree.specs.declared.declaration.Item.{Item}
use Rattle.c_tree.specs.declared.declaration.Item.TheVariants as items
use Rattle.c_tree.specs.declared.declaration.Declaration.{Declaration}
use Rattle.c_tree.specs.declared.declaration.Declarator.{Declarator}
use Rattle.c_tree.specs.declared.declaration.Shape.{Shape}
use Rattle.c_tree.specs.declared.declaration.Shape.TheVariants as shapes
use Rattle.c_tree.specs.declared.declaration.Parameter.{Parameter}
use Rattle.c_tree.specs.declared.declaration.Initialiser.{Initialiser}
use Rattle.c_tree.specs.declared.declaration.Initialiser.TheVariants as initialisers
use Rattle.c_tree.specs.declared.statement.Block.{Block, roll-Block}
use Rattle.c_tree.specs.declared.statement.Stmt.{Stmt, roll-Stmt, fold-Stmt}
use Rattle.c_tree.specs.declared.statement.Stmt.TheOpen.{Stmt-F}
use Rattle.c_tree.specs.declared.token.Header.{Header}
use Rattle.c_tree.specs.Lines.{line_of, specifier_line}

-- an expression and its height
abbrev pub Sized : Type 0
Sized = Expr × ℕ

-- an expression's layer and the height of its highest part
abbrev pub node : Expr-F Expr Specifier Enumerator Specifiers → ℕ → Sized
node e h = (roll-Expr e, h + 1)

-- a list, and one element after it
abbrev pub snoc : {X : Type 0} → List X → X → List X
snoc xs x = xs ++ x ∷ []

abbrev pub single : {X : Type 0} → X → List X
single x = x ∷ []

-- the same with the greatest height
abbrev pub add : {X : Type 0} → List X × ℕ → X × ℕ → List X × ℕ
add c x = (c.0 ++ x.0 ∷ [], max c.1 x.1)

abbrev pub one : {X : Type 0} → X × ℕ → List X × ℕ
one x = (x.0 ∷ [], x.1)

abbrev pub all_or_none : {X : Type 0} → Option (List X × ℕ) → List X × ℕ
all_or_none None = ([], 0)
all_or_none (Some c) = c

-- names and constants
abbrev pub kind_name : ℕ → TokenKind → Option Identifier
kind_name l (kinds.Name n) = Some (record { name = n; line = l })
kind_name l _ = None

abbrev pub name_of : Token → Option Identifier
name_of t = kind_name t.line t.kind

abbrev pub kind_constant : ℕ → TokenKind → Option Sized
kind_constant l (kinds.Constant v ty) = Some (node (Expr-F.Constant l v ty) 0)
kind_constant l _ = None

abbrev pub constant_of : Token → Option Sized
constant_of t = kind_constant t.line t.kind

-- what may stand behind a name in a primary expression
pub data Suffix : Type 0 where
  Subscript : Sized → Suffix
  Arguments : List Expr × ℕ → Suffix

abbrev pub suffixed : Identifier → Option Suffix → Sized
suffixed x None = node (Expr-F.Name x) 0
suffixed x (Some (Subscript e)) = node (Expr-F.Index x e.0) e.1
suffixed x (Some (Arguments es)) = node (Expr-F.Call x es.0) es.1

abbrev pub named : Identifier × Option Suffix → Sized
named c = suffixed c.0 c.1

abbrev pub paren : ℕ × Sized → Sized
paren c = node (Expr-F.Paren c.0 c.1.0) c.1.1

abbrev pub postfix : Sized → Step × ℕ → Sized
postfix e s = node (Expr-F.Postfix (line_of e.0) s.0 e.0) e.1

abbrev pub prefix : (Step × ℕ) × Sized → Sized
prefix c = node (Expr-F.Prefix c.0.1 c.0.0 c.1.0) c.1.1

abbrev pub unary : (UnaryOp × ℕ) × Sized → Sized
unary c = node (Expr-F.Unary c.0.1 c.0.0 c.1.0) c.1.1

abbrev pub cast : ℕ × ((Specifiers × ℕ) × Sized) → Sized
cast c = node (Expr-F.Cast c.0 c.1.0.0 c.1.1.0) (max c.1.0.1 c.1.1.1)

abbrev pub binary : Sized → (BinaryOp × ℕ) × Sized → Sized
binary a c = node (Expr-F.Binary (line_of a.0) c.0.0 a.0 c.1.0) (max a.1 c.1.1)

abbrev pub conditional : Sized → Sized × Sized → Sized
conditional a c = node (Expr-F.Conditional (line_of a.0) a.0 c.0.0 c.1.0) (max a.1 (max c.0.1 c.1.1))

abbrev pub assign : Sized → (Option BinaryOp × ℕ) × Sized → Sized
assign a c = node (Expr-F.Assign (line_of a.0) c.0.0 a.0 c.1.0) (max a.1 c.1.1)

abbrev pub comma : Sized → Sized → Sized
comma a b = node (Expr-F.Comma (line_of a.0) a.0 b.0) (max a.1 b.1)

-- specifiers, with the greatest height of a value in them
abbrev pub enumerator_value : Option Sized → Option Expr
enumerator_value None = None
enumerator_value (Some e) = Some e.0

abbrev pub value_height : Option Sized → ℕ
value_height None = 0
value_height (Some e) = e.1

abbrev pub enumerator : Identifier × Option Sized → Enumerator × ℕ
enumerator c = (roll-Enumerator (record { name = c.0; value = enumerator_value c.1 }), value_height c.1)

-- what stands behind `enum`
pub data EnumRest : Type 0 where
  Tagged : Identifier → Option (List Enumerator × ℕ) → EnumRest
  Untagged : List Enumerator × ℕ → EnumRest

abbrev pub enum_at : ℕ → EnumRest → Specifier × ℕ
enum_at l (Tagged x None) = (roll-Specifier (Specifier-F.EnumTag l x), 0)
enum_at l (Tagged x (Some es)) = (roll-Specifier (Specifier-F.Enum l (Some x) es.0), es.1)
enum_at l (Untagged es) = (roll-Specifier (Specifier-F.Enum l None es.0), es.1)

abbrev pub enum : ℕ × EnumRest → Specifier × ℕ
enum c = enum_at c.0 c.1

abbrev pub specifier_word : SpecifierWord × ℕ → Specifier × ℕ
specifier_word c = (roll-Specifier (Specifier-F.Word c.1 c.0), 0)

-- the line of the first specifier, all of them, and the greatest height
abbrev pub first_specifier : Specifier × ℕ → ℕ × (List Specifier × ℕ)
first_specifier s = (specifier_line s.0, one s)

abbrev pub next_specifier : ℕ × (List Specifier × ℕ) → Specifier × ℕ → ℕ × (List Specifier × ℕ)
next_specifier c s = (c.0, add c.1 s)

abbrev pub specifiers : ℕ × (List Specifier × ℕ) → Specifiers × ℕ
specifiers c = (roll-Specifiers (record { line = c.0; items = c.1.0 }), c.1.1)

-- declarations
abbrev pub or_none : {X : Type 0} → Option (List X) → List X
or_none None = []
or_none (Some xs) = xs

abbrev pub or_plain : Option Shape → Shape
or_plain None = shapes.Plain
or_plain (Some s) = s

abbrev pub declarator : (Identifier × Shape) × Option Initialiser → Declarator
declarator c = record { name = c.0.0; shape = c.0.1; initialiser = c.1 }

abbrev pub elements : ℕ × List Expr → Initialiser
elements c = initialisers.List c.0 c.1

abbrev pub parameter : Specifiers × Option Identifier → Parameter
parameter c = record { specifiers = c.0; name = c.1 }

abbrev pub declaration : Specifiers × List Declarator → Declaration
declaration c = record { specifiers = c.0; declarators = c.1 }

abbrev pub function : (Specifiers × (Identifier × List Parameter)) × Block → Item
function c = items.Function (record { specifiers = c.0.0; name = c.0.1.0; parameters = c.0.1.1; body = c.1 })

abbrev pub include : Header × ℕ → Item
include c = items.Include c.1 c.0

abbrev pub module_of : List Item → Module
module_of is = record { items = is }

-- statements
abbrev pub block : ℕ × (List Declaration × List Stmt) → Block
block c = roll-Block (record { line = c.0; declarations = c.1.0; statements = c.1.1 })

abbrev pub block_statement : Block → Stmt
block_statement b = roll-Stmt (Stmt-F.Block b)

abbrev pub empty : ℕ → Stmt
empty l = roll-Stmt (Stmt-F.Empty l)

abbrev pub expression : Expr → Stmt
expression e = roll-Stmt (Stmt-F.Expression e)

abbrev pub if_only : ℕ × (Expr × Stmt) → Stmt
if_only c = roll-Stmt (Stmt-F.If c.0 c.1.0 c.1.1)

abbrev pub if_else : (ℕ × (Expr × Stmt)) × Stmt → Stmt
if_else c = roll-Stmt (Stmt-F.IfElse c.0.0 c.0.1.0 c.0.1.1 c.1)

abbrev pub switch : ℕ × (Expr × Stmt) → Stmt
switch c = roll-Stmt (Stmt-F.Switch c.0 c.1.0 c.1.1)

abbrev pub while : ℕ × (Expr × Stmt) → Stmt
while c = roll-Stmt (Stmt-F.While c.0 c.1.0 c.1.1)

abbrev pub do_while : ℕ × (Stmt × Expr) → Stmt
do_while c = roll-Stmt (Stmt-F.Do c.0 c.1.0 c.1.1)

-- the three parts in the head of a `for`, and its body
abbrev pub for : ℕ × ((Option Expr × (Option Expr × Option Expr)) × Stmt) → Stmt
for c = roll-Stmt (Stmt-F.For c.0 c.1.0.0 c.1.0.1.0 c.1.0.1.1 c.1.1)

abbrev pub case : ℕ × (Expr × Stmt) → Stmt
case c = roll-Stmt (Stmt-F.Case c.0 c.1.0 c.1.1)

abbrev pub default : ℕ × Stmt → Stmt
default c = roll-Stmt (Stmt-F.Default c.0 c.1)

abbrev pub break : ℕ → Stmt
break l = roll-Stmt (Stmt-F.Break l)

abbrev pub continue : ℕ → Stmt
continue l = roll-Stmt (Stmt-F.Continue l)

abbrev pub return : ℕ × Option Expr → Stmt
return c = roll-Stmt (Stmt-F.Return c.0 c.1)

-- it ends with no `if` that an `else` could still join
abbrev pub closed_layer : {D : Type 0} → Stmt-F Bool D → Bool
closed_layer (Stmt-F.If l e s) = false
closed_layer (Stmt-F.IfElse l e s t) = t
closed_layer (Stmt-F.Switch l e s) = s
closed_layer (Stmt-F.While l e s) = s
closed_layer (Stmt-F.For l a b c s) = s
closed_layer (Stmt-F.Case l e s) = s
closed_layer (Stmt-F.Default l s) = s
closed_layer _ = true

abbrev pub closed : Stmt → Bool
closed s = fold-Stmt Bool Bool closed_layer (λ b. true) s
