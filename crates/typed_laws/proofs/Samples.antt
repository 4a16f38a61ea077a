-- Typed trees that the rules give, computed; and trees that aren't well typed, each with one conversion, type or label wrong.
use Rattle.std.proofs.Common.{◌≡◌, ℕ, ℤ, true, false, List, [], ◌∷◌, Some, None, refl, sym, ap, ◌∙◌, subst}
use Rattle.std.specs.Prelude.{codes, if◌then◌else◌}
use Rattle.hlo_num.specs.declared.word.Ty.{Ty}
use Rattle.hlo_num.specs.declared.word.Ty.TheVariants.{Char, Int, UInt}
use Rattle.sym_tables.specs.declared.entity.Entity.TheVariants as entities
use Rattle.sym_tables.specs.declared.symbol.Standing.TheVariants as standings
use Rattle.sym_tables.specs.Table.{Table}
use Rattle.c_tree.specs.declared.expression.BinaryOp.TheVariants as written
use Rattle.c_tree.specs.declared.expression.Expr.{roll-Expr}
use Rattle.c_tree.specs.declared.expression.Expr.TheOpen.{Expr-F}
use Rattle.c_tree.specs.declared.expression.Expr.TheFolds.{fold-roll-Expr}
use Rattle.c_tree.specs.declared.declaration.Declarator.{Declarator}
use Rattle.c_tree.specs.declared.declaration.Shape.TheVariants as shapes
use Rattle.c_typed.specs.declared.expression.BinaryOp.TheVariants as op
use Rattle.c_typed.specs.declared.expression.Place.{Place}
use Rattle.c_typed.specs.declared.expression.Place.TheOpen.{TypedExpr-F}
use Rattle.c_typed.specs.declared.expression.TypedExpr.{TypedExpr, roll-TypedExpr}
use Rattle.c_typed.specs.declared.expression.Variable.TheVariants as variables
use Rattle.c_typed.specs.declared.statement.Label.{Label}
use Rattle.c_typed.specs.declared.statement.Label.TheVariants as labels
use Rattle.c_typed.specs.Trees.{Expr, Scalar, Constant, Read, Convert, Binary, Conditional, Assign, Call, Argument, None as no_more, Return, Switch}
use Rattle.c_typed.specs.Trees.{Section, End, Break}
use Rattle.c_types.specs.declared.binding.Binding.TheVariants as bindings
use Rattle.c_types.specs.declared.binding.Extent.TheVariants as extents
use Rattle.c_types.specs.declared.conversion.Typed.{Typed}
use Rattle.c_types.specs.declared.fault.TypeKind.TheVariants as kinds
use Rattle.c_types.specs.declared.specifiers.Part.{Part}
use Rattle.c_types.specs.declared.specifiers.Site.{Site}
use Rattle.c_types.specs.declared.specifiers.Specified.{Specified}
use Rattle.c_types.specs.Constants.{word_of_value}
use Rattle.c_types.specs.DeclarationRules.{file_object, declare_object}
use Rattle.c_types.specs.Enumerations.{is_library}
use Rattle.c_types.specs.ExpressionRules as rules
use Rattle.c_types.specs.ExpressionRules.{Typing}
use Rattle.c_types.specs.Names.{bind}
use Rattle.c_types.specs.Rules.{Here, Reply, Gives, Breaks, Rule, ◌>>=◌, give, broken, unless}
use Rattle.c_types.specs.StatementRules.{value_type, is_length}
use Rattle.c_types.specs.Typing.{start}
use Rattle.c_types.specs.Uses.{variable}
use Rattle.typed_laws.specs.WellTyped.{Scope, IsExpr, AreArguments, Around, IsStmt}

-- ## What the rules give

-- a block that has declared `char c, d; unsigned u;`
abbrev local : List ℕ → ℕ → Ty → Here → Here
local name place ty h = bind name (bindings.Local place ty false extents.Scalar) h

abbrev here : Here
here = local (codes "u") 2 UInt (local (codes "d") 1 Char (local (codes "c") 0 Char (start [])))

abbrev named : List ℕ → Typing
named name = rules.expression (Expr-F.Name (record { name = name; line = 1 }))

abbrev value : ℕ → Ty → TypedExpr
value place ty = roll-TypedExpr (TypedExpr-F.Read ty (variable (variables.Local place)))

abbrev node : Ty → TypedExpr-F Place TypedExpr → Reply Typed
node ty x = Gives (record { ty = Some ty; expr = roll-TypedExpr x }) here

-- `c = d`: no conversion to the type that a value has
no_conversion : (rules.expression (Expr-F.Assign 1 None (named (codes "c")) (named (codes "d")))).typed here
    ≡ node Char (TypedExpr-F.Assign Char (variable (variables.Local 0)) (value 1 Char))
no_conversion = refl

-- `c << u`: each side of a shift is promoted alone
mixed_shift : (rules.expression (Expr-F.Binary 1 written.ShiftLeft (named (codes "c")) (named (codes "u")))).typed here
    ≡ node Int (TypedExpr-F.Binary Int op.ShiftLeft (roll-TypedExpr (TypedExpr-F.Convert Int (value 0 Char))) (value 2 UInt))
mixed_shift = refl

-- `u ? c : d`: the arms are promoted, also where they have one type
promoted_arms : (rules.expression (Expr-F.Conditional 1 (named (codes "u")) (named (codes "c")) (named (codes "d")))).typed here
    ≡ node Int (TypedExpr-F.Conditional (Some Int) (value 2 UInt) (roll-TypedExpr (TypedExpr-F.Convert Int (value 0 Char)))
    (roll-TypedExpr (TypedExpr-F.Convert Int (value 1 Char))))
promoted_arms = refl

-- `c += d`, `c += u` and `c <<= u`: in int, in unsigned, and in int again
narrow_sum : (rules.expression (Expr-F.Assign 1 (Some written.Add) (named (codes "c")) (named (codes "d")))).typed here
    ≡ node Char (TypedExpr-F.Compound Char op.Add Int (variable (variables.Local 0)) (roll-TypedExpr (TypedExpr-F.Convert Int (value 1 Char))))
narrow_sum = refl

mixed_sum : (rules.expression (Expr-F.Assign 1 (Some written.Add) (named (codes "c")) (named (codes "u")))).typed here
    ≡ node Char (TypedExpr-F.Compound Char op.Add UInt (variable (variables.Local 0)) (value 2 UInt))
mixed_sum = refl

narrow_shift : (rules.expression (Expr-F.Assign 1 (Some written.ShiftLeft) (named (codes "c")) (named (codes "u")))).typed here
    ≡ node Char (TypedExpr-F.Compound Char op.ShiftLeft Int (variable (variables.Local 0)) (value 2 UInt))
narrow_shift = refl

-- ## Well-typed trees, and others

-- a function with a parameter of type char and a local of type unsigned, and names: a variable, a constant one, a function
abbrev names : Table
names =
    (codes "x", record { entity = entities.Scalar Int false; standing = standings.Defined; init = []; used = true })
    ∷ (codes "k", record { entity = entities.Scalar Int true; standing = standings.Defined; init = []; used = true })
    ∷ (codes "f", record { entity = entities.Function None (Int ∷ []); standing = standings.Declared; init = []; used = true })
    ∷ []

abbrev scope : Scope
scope = record { params = Char ∷ []; locals = record { ty = UInt; length = None; name = codes "u" } ∷ []; syms = names }

abbrev char : Expr
char = Read Char (Scalar (variables.Parameter 0))

abbrev unsigned : Expr
unsigned = Read UInt (Scalar (variables.Local 0))

abbrev int : Expr
int = Read Int (Scalar (variables.Object 0))

-- `u + c` with `c` converted
sum_is : IsExpr scope (Binary UInt op.Add unsigned (Convert UInt char))
sum_is = ((codes "u", refl), refl, refl, (refl, refl, λ e. cc), UInt, refl, refl)

-- an operand that isn't converted
unconverted : IsExpr scope (Binary UInt op.Add unsigned char) → ⊥
unconverted ok = let e : Some Char ≡ Some UInt = ok.5 ∙ ap Some ok.6 in cc

-- a conversion to the type that the operand has
idle : IsExpr scope (Convert Int int) → ⊥
idle ok = ok.2 refl

-- an operator that works in a narrow type
narrow : IsExpr scope (Binary Char op.Add char char) → ⊥
narrow ok = let e : Int ≡ Char = ok.2 in cc

-- a void arm as a value
void_arm : IsExpr scope (Conditional (Some Int) int int (Call None 2 (Argument int no_more))) → ⊥
void_arm ok = let e : None ≡ Some Int = ok.5 in cc

-- an assigned value of another type
other_value : IsExpr scope (Assign Int (Scalar (variables.Object 0)) char) → ⊥
other_value ok = let e : Some Char ≡ Some Int = ok.2 in cc

-- a write to a constant
constant_written : IsExpr scope (Assign Int (Scalar (variables.Object 1)) int) → ⊥
constant_written ok =
    let fixed : true ≡ ok.0.0 = (let e : Some (entities.Scalar Int true) ≡ Some (entities.Scalar Int ok.0.0) = ok.0.1 in cc) in
    let e : true ≡ false = fixed ∙ ok.0.2 in cc

-- an argument of another type than the parameter's
other_argument : IsExpr scope (Call None 2 (Argument char no_more)) → ⊥
other_argument ok =
    let params : ok.0 ≡ Int ∷ [] = (let e : Some (entities.Function None (Int ∷ [])) ≡ Some (entities.Function None ok.0) = ok.1 in cc) in
    let e : Some Char ≡ Some Int = (subst (λ ps. AreArguments scope ps (Argument char no_more)) params ok.2).1 in cc

-- a void function that gives an int
other_result : IsExpr scope (Call (Some Int) 2 (Argument int no_more)) → ⊥
other_result ok = let e : Some (entities.Function None (Int ∷ [])) ≡ Some (entities.Function (Some Int) ok.0) = ok.1 in cc

abbrev around : Around
around = record { result = Some Int; breaks = false; continues = false }

abbrev case_one : List Label
case_one = labels.Case (record { 0 = 1 }) ∷ []

-- the same case twice, in one switch
case_twice : IsStmt scope around (Switch int (Section case_one Break (Section case_one Break End))) → ⊥
case_twice ok = ok.4.0.0 refl

-- a returned value of another type, and `break` outside
other_returned : IsStmt scope around (Return (Some char)) → ⊥
other_returned ok = let e : Some Char ≡ Some Int = ok.2 ∙ sym ok.3 in cc

no_loop : IsStmt scope around Break → ⊥
no_loop ok = let e : false ≡ true = ok in cc

-- ## The order of faults

abbrev int_said : Specified
int_said = record { storage = None; fixed = false; ty = Some Int; lists = false }

abbrev declarator : Declarator
declarator = record {
  name = record { name = codes "putchar"; line = 1 };
  shape = shapes.Array (Some (roll-Expr (Expr-F.Constant 2 (record { 0 = 0 }) Int)));
  initialiser = None;
}

-- the rules of the declarator, where its length has these
abbrev replied : Typing → Reply (Unit {0})
replied e =
    (value_type 1 (Some Int) >>= λ ty.
    ((((rules.constant_valued e >>= λ c. word_of_value c.value) >>= λ n. (unless (is_length n) 1 kinds.ArraySize >>= λ u. give n))
    >>= λ n. give (extents.Array (Some n))) >>= λ said.
    (if is_library (codes "putchar") then broken 1 kinds.Library else declare_object 1 int_said declarator ty said))) (start [])

-- `int putchar[0];` at file scope: the length is told before the name
length_first : file_object 1 int_said declarator (start []) ≡ Breaks 1 kinds.ArraySize
length_first =
    ap replied (fold-roll-Expr Typing (Rule Part) (ℤ → Rule ℤ) (Site → Rule Specified) rules.expression rules.specifier rules.enumeration_constant
    rules.specifiers (Expr-F.Constant 2 (record { 0 = 0 }) Int))
