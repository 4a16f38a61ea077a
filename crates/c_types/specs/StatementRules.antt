-- The rules of statements and of declarations in blocks (C90, 6.5 and 6.6).
use Rattle.std.specs.Prelude.{ℕ, Bool, true, false, ◌&&◌, ◌||◌, ◌==◌, nat_le, not, List, [], ◌∷◌, ◌++◌, Option, Some, None, is_none, length, map}
use Rattle.std.specs.List.{list_any}
use Rattle.hlo_num.specs.declared.word.Ty.{Ty}
use Rattle.hlo_num.specs.Words.{convert, promote}
use Rattle.il_core.specs.Limits.{max_elements}
use Rattle.c_tree.specs.declared.expression.Expr.{Expr}
use Rattle.c_tree.specs.declared.declaration.Declaration.{Declaration}
use Rattle.c_tree.specs.declared.declaration.Declarator.{Declarator}
use Rattle.c_tree.specs.declared.declaration.Shape.{Shape}
use Rattle.c_tree.specs.declared.declaration.Shape.TheVariants as shapes
use Rattle.c_tree.specs.declared.declaration.Initialiser.{Initialiser}
use Rattle.c_tree.specs.declared.declaration.Initialiser.TheVariants as initialisers
use Rattle.c_tree.specs.declared.statement.Stmt.{Stmt, fold-Stmt}
use Rattle.c_tree.specs.declared.statement.Block.{Block, fold-Block}
use Rattle.c_tree.specs.declared.statement.Stmt.TheOpen.{Stmt-F, Block-F}
use Rattle.c_types.specs.declared.binding.Binding.TheVariants as bindings
use Rattle.c_types.specs.declared.binding.Extent.{Extent}
use Rattle.c_types.specs.declared.binding.Extent.TheVariants as extents
use Rattle.c_typed.specs.declared.expression.TypedExpr.{TypedExpr}
use Rattle.c_typed.specs.declared.function.Local.{Local}
use Rattle.c_types.specs.declared.specifiers.Site.TheVariants as sites
use Rattle.c_types.specs.declared.specifiers.Specified.{Specified}
use Rattle.c_typed.specs.declared.statement.Label.{Label}
use Rattle.c_typed.specs.declared.statement.Label.TheVariants as labels
use Rattle.c_typed.specs.declared.statement.Section.{Section, roll-Section}
use Rattle.c_typed.specs.declared.statement.TypedStmt.{TypedStmt, roll-TypedStmt}
use Rattle.c_typed.specs.declared.statement.TypedStmt.TheOpen.{TypedStmt-F}
use Rattle.c_types.specs.declared.statements.Around.{Around}
use Rattle.c_types.specs.declared.statements.ForHead.{ForHead}
use Rattle.c_types.specs.declared.fault.TypeKind.TheVariants as kinds
use Rattle.c_types.specs.Constants.{word_of_value}
use Rattle.c_types.specs.Conversions.{converted}
use Rattle.c_types.specs.ExpressionRules.{valued, constant_valued, typing, specifying}
use Rattle.c_types.specs.Rules.{Rule, ◌>>=◌, ◌>>◌, give, broken, known, change, unless, in_order}
use Rattle.c_types.specs.Names.{scoped, bound_here, bind}

-- a statement with the case labels right before it
pub record Labelled : Type 0 where
  pub labels : List Label
  pub stmt : TypedStmt

-- what a statement stands for. As it stands anywhere; as the body of a switch on a value of a type; and as an item of
-- a switch's block, where case labels of the type may stand before it
pub record Ruled : Type 0 where
  pub stmt : Around → Rule TypedStmt
  pub body : Around → Ty → Rule (List Section)
  pub item : Around → Ty → Rule Labelled
  pub section : Around → Ty → Rule Section

-- a constant expression's word and type
abbrev pub constant_word : Expr → Rule ℕ
constant_word e = do
  c ← constant_valued (typing e)
  word_of_value c.value

-- the length of an array, whose name stands at this line
abbrev pub is_length : ℕ → Bool
is_length n = nat_le 1 n && nat_le n max_elements

abbrev pub length_of : ℕ → Expr → Rule ℕ
length_of line e = do
  n ← constant_word e
  unless (is_length n) line kinds.ArraySize
  give n

abbrev pub value_type : ℕ → Option Ty → Rule Ty
value_type line None = broken line kinds.Specifiers
value_type line (Some ty) = give ty

-- whether a local is a variable or an array, which has its length
abbrev pub local_extent : ℕ → Shape → Rule Extent
local_extent line shapes.Plain = give extents.Scalar
local_extent line (shapes.Array None) = broken line kinds.ArraySize
local_extent line (shapes.Array (Some e)) = do
  n ← length_of line e
  give (extents.Array (Some n))
local_extent line (shapes.Function ps) = broken line kinds.Specifiers

abbrev pub length_in : Extent → Option ℕ
length_in extents.Scalar = None
length_in (extents.Array n) = n

abbrev pub is_function_shape : Shape → Bool
is_function_shape shapes.Plain = false
is_function_shape (shapes.Array n) = false
is_function_shape (shapes.Function ps) = true

-- an initialiser's line
abbrev pub initialiser_line : Initialiser → ℕ
initialiser_line (initialisers.Value e) = (typing e).line
initialiser_line (initialisers.List line es) = line

-- the initialiser of a local variable, converted to its type; arrays have none, and variables no braces
abbrev pub local_value : Ty → Extent → Option Initialiser → Rule (Option TypedExpr)
local_value ty extent None = give None
local_value ty extents.Scalar (Some (initialisers.Value e)) = do
  v ← valued (typing e)
  give (Some (converted ty v))
local_value ty extent (Some i) = broken (initialiser_line i) kinds.Initialiser

-- a new local of the function, by its place
abbrev pub new_local : Local → Rule ℕ
new_local local = do
  place ← known (λ h. length h.locals)
  change (λ h. record h { locals = h.locals ++ local ∷ [] })
  give place

-- a declarator in a block
abbrev pub declarator : Specified → Declarator → Rule TypedStmt
declarator s d = do
  unless (not (is_function_shape d.shape)) d.name.line kinds.Specifiers
  ty ← value_type d.name.line s.ty
  extent ← local_extent d.name.line d.shape
  old ← known (bound_here d.name.name)
  unless (is_none old) d.name.line kinds.Redeclared
  place ← new_local (record { ty = ty; length = length_in extent; name = d.name.name })
  change (bind d.name.name (bindings.Local place ty s.fixed extent))
  value ← local_value ty extent d.initialiser
  give (roll-TypedStmt (TypedStmt-F.Declaration place value))

abbrev pub declarators : Specified → List Declarator → Rule (List TypedStmt)
declarators s ds = in_order (map (declarator s) ds)

abbrev is_empty : {A : Type 0} → List A → Bool
is_empty [] = true
is_empty (x ∷ xs) = false

-- a declaration declares a name, or lists the constants of an enumeration
abbrev pub declares : Specified → List Declarator → Bool
declares s ds = s.lists || not (is_empty ds)

abbrev pub declaration : Declaration → Rule (List TypedStmt)
declaration d = do
  s ← specifying d.specifiers sites.Block
  unless (declares s d.declarators) d.specifiers.line kinds.Specifiers
  declarators s d.declarators

abbrev pub declarations : List Declaration → Rule (List TypedStmt)
declarations [] = give []
declarations (d ∷ ds) = do
  ts ← declaration d
  us ← declarations ds
  give (ts ++ us)

abbrev pub statements : Around → List Ruled → Rule (List TypedStmt)
statements a ss = in_order (map (λ s. s.stmt a) ss)

abbrev pub section : Labelled → Section
section x = roll-Section (record { labels = x.labels; body = x.stmt })

abbrev pub unlabelled : TypedStmt → Labelled
unlabelled s = record { labels = []; stmt = s }

-- an item of a switch's block behind more labels
abbrev pub behind : List Label → Rule Labelled → Rule Section
behind ls rule = do
  x ← rule
  give (section (record { labels = ls ++ x.labels; stmt = x.stmt }))

-- the statements of a switch's block
abbrev pub sections : Around → Ty → List Ruled → Rule (List Section)
sections a ty ss = in_order (map (λ s. s.section a ty) ss)

-- what a block stands for in a scope that is open already: its declarators and its statements, the latter perhaps with
-- the case labels of a switch
pub record Blocked : Type 0 where
  pub statements : Around → Rule (List TypedStmt)
  pub sections : Around → Ty → Rule (List Section)

abbrev pub block : Block-F Ruled Blocked → Blocked
block b = record {
  statements = λ a. do
    ds ← declarations b.declarations
    ss ← statements a b.statements
    give (ds ++ ss);
  sections = λ a ty. do
    ds ← declarations b.declarations
    ss ← sections a ty b.statements
    give (map (λ s. section (unlabelled s)) ds ++ ss);
}

abbrev pub optional_typed : Option Expr → Rule (Option TypedExpr)
optional_typed None = give None
optional_typed (Some e) = do
  t ← (typing e).typed
  give (Some t.expr)

abbrev pub optional_valued : Option Expr → Rule (Option TypedExpr)
optional_valued None = give None
optional_valued (Some e) = do
  v ← valued (typing e)
  give (Some v.expr)

-- inside a loop, and inside a switch
abbrev pub in_loop : Around → Around
in_loop a = record { result = a.result; breaks = true; continues = true }

abbrev pub in_switch : Around → Around
in_switch a = record { result = a.result; breaks = true; continues = a.continues }

-- a rule with the labels of a switch of its own
abbrev pub labelling : {A : Type 0} → Rule A → Rule A
labelling rule = do
  cases ← known (λ h. h.cases)
  default ← known (λ h. h.default)
  change (λ h. record h { cases = []; default = false })
  x ← rule
  change (λ h. record h { cases = cases; default = default })
  give x

-- a case that the innermost switch doesn't have yet, and its default
abbrev pub new_case : ℕ → ℕ → Rule (Unit {0})
new_case line w = do
  cases ← known (λ h. h.cases)
  unless (not (list_any (λ v. w == v) cases)) line kinds.CaseRepeat
  change (λ h. record h { cases = h.cases ++ w ∷ [] })

abbrev pub new_default : ℕ → Rule (Unit {0})
new_default line = do
  default ← known (λ h. h.default)
  unless (not default) line kinds.CaseRepeat
  change (λ h. record h { default = true })

abbrev pub returned : ℕ → Option Ty → Expr → Rule TypedStmt
returned line None e = broken line kinds.ReturnValue
returned line (Some ty) e = do
  v ← valued (typing e)
  give (roll-TypedStmt (TypedStmt-F.Return (Some (converted ty v))))

-- a block in a scope of its own
abbrev pub block_stmt : Blocked → Around → Rule TypedStmt
block_stmt b a = do
  ss ← scoped (b.statements a)
  give (roll-TypedStmt (TypedStmt-F.Block ss))

-- `e;`
abbrev pub expression_stmt : Expr → Rule TypedStmt
expression_stmt e = do
  t ← (typing e).typed
  give (roll-TypedStmt (TypedStmt-F.Expression t.expr))

-- `if (c) s`
abbrev pub if_then : Expr → Ruled → Around → Rule TypedStmt
if_then c s a = do
  v ← valued (typing c)
  t ← s.stmt a
  give (roll-TypedStmt (TypedStmt-F.If v.expr t))

-- `switch (e) s`
abbrev pub switch_on : Expr → Ruled → Around → Rule TypedStmt
switch_on e s a = do
  v ← valued (typing e)
  xs ← labelling (s.body (in_switch a) (promote v.ty))
  give (roll-TypedStmt (TypedStmt-F.Switch (converted (promote v.ty) v) xs))

-- `while (c) s`
abbrev pub while_loop : Expr → Ruled → Around → Rule TypedStmt
while_loop c s a = do
  v ← valued (typing c)
  t ← s.stmt (in_loop a)
  give (roll-TypedStmt (TypedStmt-F.While v.expr t))

-- `do s while (c);`
abbrev pub do_loop : Ruled → Expr → Around → Rule TypedStmt
do_loop s c a = do
  t ← s.stmt (in_loop a)
  v ← valued (typing c)
  give (roll-TypedStmt (TypedStmt-F.Do t v.expr))

-- what stands between the parentheses of a `for`
abbrev pub for_head : Option Expr → Option Expr → Option Expr → Rule ForHead
for_head first c step = do
  x ← optional_typed first
  y ← optional_valued c
  z ← optional_typed step
  give (record { first = x; condition = y; step = z })

-- `for (first; condition; step) s`
abbrev pub for_loop : Option Expr → Option Expr → Option Expr → Ruled → Around → Rule TypedStmt
for_loop first c step s a = do
  h ← for_head first c step
  t ← s.stmt (in_loop a)
  give (roll-TypedStmt (TypedStmt-F.For h.first h.condition h.step t))

-- a statement as it stands anywhere
abbrev pub stmt_layer : Stmt-F Ruled Blocked → Around → Rule TypedStmt
stmt_layer (Stmt-F.Block b) a = block_stmt b a
stmt_layer (Stmt-F.Empty l) a = give (roll-TypedStmt TypedStmt-F.Empty)
stmt_layer (Stmt-F.Expression e) a = expression_stmt e
stmt_layer (Stmt-F.If l c s) a = if_then c s a
stmt_layer (Stmt-F.IfElse l c s t) a = do
  v ← valued (typing c)
  x ← s.stmt a
  y ← t.stmt a
  give (roll-TypedStmt (TypedStmt-F.IfElse v.expr x y))
stmt_layer (Stmt-F.Switch l e s) a = switch_on e s a
stmt_layer (Stmt-F.While l c s) a = while_loop c s a
stmt_layer (Stmt-F.Do l s c) a = do_loop s c a
stmt_layer (Stmt-F.For l first c step s) a = for_loop first c step s a
stmt_layer (Stmt-F.Case l e s) a = broken l kinds.CaseOutside
stmt_layer (Stmt-F.Default l s) a = broken l kinds.CaseOutside
stmt_layer (Stmt-F.Break l) a = do
  unless a.breaks l kinds.BreakOutside
  give (roll-TypedStmt TypedStmt-F.Break)
stmt_layer (Stmt-F.Continue l) a = do
  unless a.continues l kinds.ContinueOutside
  give (roll-TypedStmt TypedStmt-F.Continue)
stmt_layer (Stmt-F.Return l None) a = give (roll-TypedStmt (TypedStmt-F.Return None))
stmt_layer (Stmt-F.Return l (Some e)) a = returned l a.result e

-- the body of a switch: a block, or one statement before which no label may stand
abbrev pub body_layer : Stmt-F Ruled Blocked → Around → Ty → Rule (List Section)
body_layer (Stmt-F.Block b) a ty = scoped (b.sections a ty)
body_layer s a ty = do
  t ← stmt_layer s a
  give (section (unlabelled t) ∷ [])

-- an item of a switch's block: labels with the values of the switch's type, and what stands behind them
abbrev pub item_layer : Stmt-F Ruled Blocked → Around → Ty → Rule Labelled
item_layer (Stmt-F.Case l e s) a ty = do
  w ← constant_word e
  new_case l (convert ty w)
  x ← s.item a ty
  give (record { labels = labels.Case (record { 0 = convert ty w }) ∷ x.labels; stmt = x.stmt })
item_layer (Stmt-F.Default l s) a ty = do
  new_default l
  x ← s.item a ty
  give (record { labels = labels.Default ∷ x.labels; stmt = x.stmt })
item_layer s a ty = do
  t ← stmt_layer s a
  give (unlabelled t)

abbrev pub section_layer : Stmt-F Ruled Blocked → Around → Ty → Rule Section
section_layer s a ty = do
  x ← item_layer s a ty
  give (section x)

abbrev pub statement : Stmt-F Ruled Blocked → Ruled
statement s = record { stmt = stmt_layer s; body = body_layer s; item = item_layer s; section = section_layer s }

-- the rules of a statement, and of a block
abbrev pub ruling : Stmt → Ruled
ruling s = fold-Stmt Ruled Blocked statement block s

abbrev pub blocking : Block → Blocked
blocking b = fold-Block Ruled Blocked statement block b
