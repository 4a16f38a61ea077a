-- The rules of expressions, and of the enumerations in specifiers (C90, 6.3, 6.4 and 6.5.2.2): what each form asks of
-- its parts, in the order of the text. Each form stands for what its parts stand for.
use Rattle.std.specs.Prelude.{ℕ, ◌==◌, Bool, true, false, ℤ, pos, List, [], ◌∷◌, Option, Some, None, length}
use Rattle.hlo_num.specs.declared.word.Ty.{Ty}
use Rattle.hlo_num.specs.declared.word.Ty.TheVariants.{Int}
use Rattle.c_tree.specs.declared.expression.Identifier.{Identifier}
use Rattle.c_tree.specs.declared.expression.Expr.{Expr, fold-Expr}
use Rattle.c_tree.specs.declared.expression.Specifiers.{Specifiers, fold-Specifiers}
use Rattle.c_tree.specs.declared.expression.Specifier.{Specifier, fold-Specifier}
use Rattle.c_tree.specs.declared.expression.Enumerator.{Enumerator, fold-Enumerator}
use Rattle.hlo_num.specs.declared.word.Word.{Word as Constants}
use Rattle.c_types.specs.declared.nodes.Arms.{Arms}
use Rattle.c_tree.specs.declared.expression.Expr.TheOpen.{Expr-F, Specifier-F, Specifiers-F, Enumerator-F}
use Rattle.c_tree.specs.declared.expression.BinaryOp.{BinaryOp as Written}
use Rattle.c_tree.specs.declared.expression.UnaryOp.{UnaryOp}
use Rattle.c_tree.specs.declared.expression.Step.{Step}
use Rattle.c_tree.specs.Lines.{layer_line}
use Rattle.c_types.specs.declared.binding.Binding.{Binding}
use Rattle.c_types.specs.declared.binding.Binding.TheVariants as bindings
use Rattle.c_types.specs.declared.binding.Library.TheVariants as library
use Rattle.c_typed.specs.declared.expression.TypedExpr.{TypedExpr, roll-TypedExpr}
use Rattle.c_typed.specs.declared.expression.Place.TheOpen.{TypedExpr-F}
use Rattle.c_typed.specs.declared.expression.BinaryOp.{BinaryOp}
use Rattle.c_typed.specs.Types.{result_type}
use Rattle.c_types.specs.declared.specifiers.Site.{Site}
use Rattle.c_types.specs.declared.specifiers.Site.TheVariants as sites
use Rattle.c_types.specs.declared.specifiers.Specified.{Specified}
use Rattle.c_types.specs.declared.fault.TypeKind.TheVariants as kinds
use Rattle.c_types.specs.declared.constant.Constant.{Constant}
use Rattle.c_types.specs.declared.constant.ConstantValue.{ConstantValue}
use Rattle.c_types.specs.declared.constant.Evaluated.TheVariants.{Word}
use Rattle.c_types.specs.declared.conversion.Typed.{Typed}
use Rattle.c_types.specs.declared.conversion.Valued.{Valued}
use Rattle.c_types.specs.declared.conversion.Target.{Target}
use Rattle.c_types.specs.declared.conversion.Operator.{Operator}
use Rattle.c_types.specs.declared.conversion.Operator.TheVariants.{Skipping, Working}
use Rattle.c_types.specs.Constants.{word_of_value, binary_value, logical_value, chosen_value, cast_value, unary_value, constant_name, constant_element}
use Rattle.c_types.specs.Conversions.{converted, sorted, left_type, right_type, unary_type, operand_type, wanted, arms_type, arm}
use Rattle.c_types.specs.Enumerations.{value_in, enumerator}
use Rattle.c_types.specs.Rules.{Rule, ◌>>=◌, ◌>>◌, give, broken, unless, in_order}
use Rattle.c_types.specs.Names.{find, use_tag, declare_tag}
use Rattle.c_types.specs.declared.specifiers.Part.{Part}
use Rattle.c_types.specs.declared.specifiers.Part.TheVariants.{One, Tagged, Listed}
use Rattle.c_types.specs.Specifiers.{meaning}
use Rattle.c_types.specs.declared.uses.Called.{Called}
use Rattle.c_types.specs.Uses.{read, element, use_name, target_name, subscripted, use_function}

-- what an expression stands for: the line of its first token; what it is where a constant is wanted; its typed form; and
-- what it is as the target of an assignment or a step, which begins at the line handed in
pub record Typing : Type 0 where
  pub line : ℕ
  pub constant : Rule Constant
  pub typed : Rule Typed
  pub target : ℕ → Rule Target

-- a value is wanted of the expression that begins at a line
abbrev pub valued_of : ℕ → Typed → Rule Valued
valued_of line t = do
  ty ← wanted line t.ty
  give (record { ty = ty; expr = t.expr })

abbrev pub valued : Typing → Rule Valued
valued e = do
  t ← e.typed
  valued_of e.line t

abbrev pub constant_valued_of : ℕ → Constant → Rule ConstantValue
constant_valued_of line c = do
  ty ← wanted line c.ty
  give (record { ty = ty; value = c.value })

abbrev pub constant_valued : Typing → Rule ConstantValue
constant_valued e = do
  c ← e.constant
  constant_valued_of e.line c

-- no target: the expression is typed, and then refused
abbrev pub no_target : Rule Typed → ℕ → Rule Target
no_target typed line = do
  t ← typed
  broken line kinds.NotLvalue

-- never constant, at this line, once a part of it was looked at
abbrev pub not_constant : Rule Constant → ℕ → Rule Constant
not_constant part line = do
  c ← part
  broken line kinds.NotConstant

-- arguments for parameters of these types, each converted
abbrev pub arguments : List Ty → List Typing → Rule (List TypedExpr)
arguments [] es = give []
arguments (p ∷ ps) [] = give []
arguments (p ∷ ps) (e ∷ es) = do
  v ← valued e
  vs ← arguments ps es
  give (converted p v ∷ vs)

abbrev pub node : Option Ty → TypedExpr → Typed
node ty e = record { ty = ty; expr = e }

-- the nodes of typed expressions
abbrev pub unary_node : UnaryOp → Valued → Typed
unary_node o v = node (Some (unary_type o v.ty)) (roll-TypedExpr (TypedExpr-F.Unary (unary_type o v.ty) o (converted (operand_type o v.ty) v)))

abbrev pub working_node : BinaryOp → Valued → Valued → Typed
working_node o a b = node (Some (result_type o (left_type o a.ty b.ty)))
    (roll-TypedExpr (TypedExpr-F.Binary (left_type o a.ty b.ty) o (converted (left_type o a.ty b.ty) a) (converted (right_type o a.ty b.ty) b)))

abbrev pub both_arms : Option Ty → Typed → Typed → Arms
both_arms ty a b = record { ty = ty; yes = arm ty a.ty a.expr; no = arm ty b.ty b.expr }

abbrev pub conditional_node : TypedExpr → Arms → Typed
conditional_node c arms = node arms.ty (roll-TypedExpr (TypedExpr-F.Conditional arms.ty c arms.yes arms.no))

abbrev pub cast_node : Ty → Valued → Typed
cast_node ty v = node (Some ty) (converted ty v)

abbrev pub constant_node : Ty → Constants → Typed
constant_node ty w = node (Some ty) (roll-TypedExpr (TypedExpr-F.Constant ty w))

abbrev pub comma_node : Typed → Typed → Typed
comma_node a b = node b.ty (roll-TypedExpr (TypedExpr-F.Comma b.ty a.expr b.expr))

abbrev pub assign_node : Target → Valued → Typed
assign_node t v = node (Some t.ty) (roll-TypedExpr (TypedExpr-F.Assign t.ty t.place (converted t.ty v)))

abbrev pub compound_node : BinaryOp → Target → Valued → Typed
compound_node o t v = node (Some t.ty) (roll-TypedExpr (TypedExpr-F.Compound t.ty o (left_type o t.ty v.ty) t.place (converted (right_type o t.ty v.ty) v)))

abbrev pub postfix_node : Step → Target → Typed
postfix_node s t = node (Some t.ty) (roll-TypedExpr (TypedExpr-F.Postfix t.ty s t.place))

abbrev pub prefix_node : Step → Target → Typed
prefix_node s t = node (Some t.ty) (roll-TypedExpr (TypedExpr-F.Prefix t.ty s t.place))

abbrev pub discard_node : Typed → Typed
discard_node t = node None (roll-TypedExpr (TypedExpr-F.Discard t.expr))

abbrev pub call_node : Called → List TypedExpr → Typed
call_node f es = node f.result (roll-TypedExpr (TypedExpr-F.Call f.result f.pid es))

abbrev pub get_char_node : Typed
get_char_node = node (Some Int) (roll-TypedExpr TypedExpr-F.GetChar)

abbrev pub put_char_node : Valued → Typed
put_char_node v = node (Some Int) (roll-TypedExpr (TypedExpr-F.PutChar (converted Int v)))

abbrev pub exit_node : Valued → Typed
exit_node v = node None (roll-TypedExpr (TypedExpr-F.Exit (converted Int v)))

-- a call of a function of the program
abbrev pub call_program : ℕ → Called → List Typing → Rule Typed
call_program line f es = do
  unless (length es == length f.params) line kinds.Arguments
  vs ← arguments f.params es
  give (call_node f vs)

-- `putchar` and `exit` have one argument, an int
abbrev pub only_argument : ℕ → List Typing → Rule Valued
only_argument line (e ∷ []) = valued e
only_argument line _ = broken line kinds.Arguments

-- `getchar` has none
abbrev pub no_argument : Typed → ℕ → List Typing → Rule Typed
no_argument made line [] = give made
no_argument made line _ = broken line kinds.Arguments

abbrev pub call : ℕ → Binding → List Typing → Rule Typed
call line (bindings.Library library.GetChar) es = no_argument get_char_node line es
call line (bindings.Library library.PutChar) es = do
  v ← only_argument line es
  give (put_char_node v)
call line (bindings.Library library.Exit) es = do
  v ← only_argument line es
  give (exit_node v)
call line (bindings.Function pid internal) es = do
  f ← use_function line pid
  call_program line f es
call line _ es = broken line kinds.NotFunction

-- an element of an array, to be written or read
abbrev pub element_of : Bool → Identifier → Typing → Rule Target
element_of writes a i = do
  b ← find a
  s ← subscripted writes a.line b
  v ← valued i
  give (record { ty = s.ty; place = element s.array v.expr })

-- an operator between two operands
abbrev pub binary : Operator → Valued → Valued → Typed
binary (Skipping o) a b = node (Some Int) (roll-TypedExpr (TypedExpr-F.Logical o a.expr b.expr))
binary (Working o) a b = working_node o a b

abbrev pub constant_binary : ℕ → Operator → ConstantValue → ConstantValue → Constant
constant_binary line (Skipping o) a b = record { ty = Some Int; value = logical_value o a.value b.value }
constant_binary line (Working o) a b = record { ty = Some (result_type o (left_type o a.ty b.ty)); value = binary_value line o a.ty a.value b.ty b.value }

-- an assignment; no operator that may skip its operand assigns, and a tree with one is refused as no target is
abbrev pub assigned : ℕ → Operator → Target → Valued → Rule Typed
assigned line (Skipping o) t v = broken line kinds.NotLvalue
assigned line (Working o) t v = give (compound_node o t v)

abbrev pub assignment : ℕ → Option Written → Target → Valued → Rule Typed
assignment line None t v = give (assign_node t v)
assignment line (Some o) t v = assigned line (sorted o) t v

-- a cast to a type, or to void, which takes any expression
abbrev pub cast : Option Ty → Typing → Rule Typed
cast None e = do
  t ← e.typed
  give (discard_node t)
cast (Some ty) e = do
  v ← valued e
  give (cast_node ty v)

abbrev pub constant_cast : Option Ty → Typing → Rule Constant
constant_cast None e = do
  c ← e.constant
  give (record { ty = None; value = c.value })
constant_cast (Some ty) e = do
  v ← constant_valued e
  give (record { ty = Some ty; value = cast_value ty v.value })

-- a name as a value
abbrev pub named : Identifier → Rule Typed
named x = do
  b ← find x
  use_name x.line b

-- `c ? a : b`
abbrev pub both : Typing → Typing → Rule Arms
both a b = do
  x ← a.typed
  y ← b.typed
  ty ← arms_type a.line x.ty b.line y.ty
  give (both_arms ty x y)

abbrev pub conditional : Typing → Typing → Typing → Rule Typed
conditional c a b = do
  v ← valued c
  arms ← both a b
  give (conditional_node v.expr arms)

abbrev pub constant_unary : ℕ → UnaryOp → ConstantValue → Constant
constant_unary line o v = record { ty = Some (unary_type o v.ty); value = unary_value line o (unary_type o v.ty) v.value }

-- the typed form of a layer
abbrev pub typed_layer : Expr-F Typing (Rule Part) (ℤ → Rule ℤ) (Site → Rule Specified) → Rule Typed
typed_layer (Expr-F.Name x) = named x
typed_layer (Expr-F.Index a i) = do
  t ← element_of false a i
  give (read t.ty t.place)
typed_layer (Expr-F.Call f es) = do
  b ← find f
  call f.line b es
typed_layer (Expr-F.Constant l v ty) = give (constant_node ty v)
typed_layer (Expr-F.Paren l e) = e.typed
typed_layer (Expr-F.Postfix l step e) = do
  t ← e.target e.line
  give (postfix_node step t)
typed_layer (Expr-F.Prefix l step e) = do
  t ← e.target e.line
  give (prefix_node step t)
typed_layer (Expr-F.Unary l o e) = do
  v ← valued e
  give (unary_node o v)
typed_layer (Expr-F.Cast l s e) = do
  to ← s sites.Cast
  cast to.ty e
typed_layer (Expr-F.Binary l o a b) = do
  x ← valued a
  y ← valued b
  give (binary (sorted o) x y)
typed_layer (Expr-F.Conditional l c a b) = conditional c a b
typed_layer (Expr-F.Assign l o t v) = do
  target ← t.target t.line
  value ← valued v
  assignment l o target value
typed_layer (Expr-F.Comma l a b) = do
  x ← a.typed
  y ← b.typed
  give (comma_node x y)

-- a layer as a constant expression
abbrev pub constant_layer : Expr-F Typing (Rule Part) (ℤ → Rule ℤ) (Site → Rule Specified) → Rule Constant
constant_layer (Expr-F.Name x) = do
  b ← find x
  constant_name x.line b
constant_layer (Expr-F.Index a i) = do
  b ← find a
  constant_element a.line b
constant_layer (Expr-F.Call f es) = do
  b ← find f
  broken f.line kinds.NotConstant
constant_layer (Expr-F.Constant l v ty) = give (record { ty = Some ty; value = Word v.0 })
constant_layer (Expr-F.Paren l e) = e.constant
constant_layer (Expr-F.Postfix l step e) = not_constant e.constant l
constant_layer (Expr-F.Prefix l step e) = not_constant e.constant l
constant_layer (Expr-F.Unary l o e) = do
  v ← constant_valued e
  give (constant_unary l o v)
constant_layer (Expr-F.Cast l s e) = do
  to ← s sites.Cast
  constant_cast to.ty e
constant_layer (Expr-F.Binary l o a b) = do
  x ← constant_valued a
  y ← constant_valued b
  give (constant_binary l (sorted o) x y)
constant_layer (Expr-F.Conditional l c a b) = do
  x ← constant_valued c
  y ← a.constant
  z ← b.constant
  ty ← arms_type a.line y.ty b.line z.ty
  give (record { ty = ty; value = chosen_value x.value y.value z.value })
constant_layer (Expr-F.Assign l o t v) = not_constant t.constant l
constant_layer (Expr-F.Comma l a b) = do
  x ← a.constant
  not_constant b.constant l

-- a layer as a target: parentheses are left aside
abbrev pub target_layer : Expr-F Typing (Rule Part) (ℤ → Rule ℤ) (Site → Rule Specified) → ℕ → Rule Target
target_layer (Expr-F.Name x) line = do
  b ← find x
  target_name line x.line b
target_layer (Expr-F.Index a i) line = element_of true a i
target_layer (Expr-F.Paren l e) line = e.target line
target_layer e line = no_target (typed_layer e) line

abbrev pub expression : Expr-F Typing (Rule Part) (ℤ → Rule ℤ) (Site → Rule Specified) → Typing
expression e = record { line = layer_line e; constant = constant_layer e; typed = typed_layer e; target = target_layer e }

-- one specifier. An enumeration declares its tag, and then its constants in order
abbrev pub all_enumerators : ℤ → List (ℤ → Rule ℤ) → Rule Part
all_enumerators next [] = give Listed
all_enumerators next (e ∷ es) = do
  after ← e next
  all_enumerators after es

abbrev pub declare_optional_tag : Option Identifier → Rule (Unit {0})
declare_optional_tag None = give tt
declare_optional_tag (Some tag) = declare_tag tag

abbrev pub specifier : Specifier-F Typing (Rule Part) (ℤ → Rule ℤ) (Site → Rule Specified) → Rule Part
specifier (Specifier-F.Word l w) = give (One w)
specifier (Specifier-F.EnumTag l tag) = do
  use_tag tag
  give Tagged
specifier (Specifier-F.Enum l tag es) = do
  declare_optional_tag tag
  all_enumerators (pos 0) es

-- a constant of an enumeration: the value that it is given, or the one after the constant before
abbrev pub given_number : Typing → Rule ℤ
given_number e = do
  c ← constant_valued e
  w ← word_of_value c.value
  give (value_in c.ty w)

abbrev pub given_value : Option Typing → ℤ → Rule ℤ
given_value None next = give next
given_value (Some e) next = given_number e

abbrev pub enumeration_constant : Enumerator-F Typing (Rule Part) (ℤ → Rule ℤ) (Site → Rule Specified) → ℤ → Rule ℤ
enumeration_constant c next = do
  v ← given_value c.value next
  enumerator c.name v

-- specifiers: each in order, and what they say together at the place where they stand
abbrev pub specified_or : ℕ → Option Specified → Rule Specified
specified_or line None = broken line kinds.Specifiers
specified_or line (Some s) = give s

abbrev pub specifiers : Specifiers-F Typing (Rule Part) (ℤ → Rule ℤ) (Site → Rule Specified) → Site → Rule Specified
specifiers s site = do
  parts ← in_order s.items
  specified_or s.line (meaning site parts)

-- the rules of an expression, and of specifiers
abbrev pub typing : Expr → Typing
typing e = fold-Expr Typing (Rule Part) (ℤ → Rule ℤ) (Site → Rule Specified) expression specifier enumeration_constant specifiers e

abbrev pub specifying : Specifiers → Site → Rule Specified
specifying s = fold-Specifiers Typing (Rule Part) (ℤ → Rule ℤ) (Site → Rule Specified) expression specifier enumeration_constant specifiers s

abbrev pub reading : Specifier → Rule Part
reading s = fold-Specifier Typing (Rule Part) (ℤ → Rule ℤ) (Site → Rule Specified) expression specifier enumeration_constant specifiers s

abbrev pub enumerating : Enumerator → ℤ → Rule ℤ
enumerating e = fold-Enumerator Typing (Rule Part) (ℤ → Rule ℤ) (Site → Rule Specified) expression specifier enumeration_constant specifiers e
