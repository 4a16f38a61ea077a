-- The definition at worked functions: their typed trees, and their routines with all counts 1.
use Rattle.std.proofs.Common.{◌≡◌, ℕ, Bool, true, false, List, [], ◌∷◌, Option, Some, None, refl}
use Rattle.std.specs.Prelude.{codes}
use Rattle.hlo_num.specs.declared.word.Ty.{Ty}
use Rattle.hlo_num.specs.declared.word.Ty.TheVariants.{Char, Short, Int, UInt, Long, ULong}
use Rattle.hlo_num.specs.declared.word.Op.TheVariants as op
use Rattle.il_core.specs.declared.instr.Block.{Block}
use Rattle.il_core.specs.declared.instr.Instr.{Instr}
use Rattle.il_core.specs.declared.instr.Instr.TheVariants as il
use Rattle.il_core.specs.declared.instr.End.{End}
use Rattle.il_core.specs.declared.instr.End.TheVariants as ends
use Rattle.il_core.specs.Routine.{RoutineParts}
use Rattle.c_tree.specs.declared.expression.Step.TheVariants.{Increment, Decrement}
use Rattle.c_tree.specs.declared.expression.UnaryOp.TheVariants.{Not, Minus, Complement}
use Rattle.c_typed.specs.declared.expression.Variable.TheVariants as variables
use Rattle.c_typed.specs.declared.expression.Array.TheVariants as arrays
use Rattle.c_typed.specs.declared.expression.BinaryOp.TheVariants as binary
use Rattle.c_typed.specs.declared.expression.LogicalOp.TheVariants as logical
use Rattle.c_typed.specs.declared.function.Local.{Local}
use Rattle.c_typed.specs.declared.function.Parameter.{Parameter}
use Rattle.c_typed.specs.declared.statement.Label.{Label}
use Rattle.c_typed.specs.declared.statement.Label.TheVariants.{Case, Default}
use Rattle.c_typed.specs.Trees.{Function, Scalar, Element as element, Constant, Read, Convert, Unary, Binary, Logical, Conditional, Comma}
use Rattle.c_typed.specs.Trees.{Assign, Compound, Prefix, Postfix, Call, GetChar, PutChar, Exit, None as none, Argument, Stmt, Empty, Sequence}
use Rattle.c_typed.specs.Trees.{Declaration, Expression, If, IfElse, Switch, While, Do, For, Break, Continue, Return, End as no_more, Section}
use Rattle.lower_laws.specs.Code.{word}
use Rattle.lower_laws.specs.Functions.{lowered}

abbrev function : ℕ → Option Ty → List Parameter → List Local → Stmt → Function
function pid result params locals body = record { pid = pid; result = result; params = params; locals = locals; body = body }

-- names of parameters and locals are nothing to lowering
abbrev parameter : Ty → Parameter
parameter t = record { ty = t; name = codes "p" }

abbrev local : Ty → Option ℕ → Local
local t length = record { ty = t; length = length; name = codes "x" }

abbrev case : ℕ → Label
case n = Case (word n)

abbrev block : List Instr → End → Block
block is e = record { instrs = is; end = e }

abbrev flat : Function → RoutineParts
flat f = lowered 1 (λ k. 1) f

abbrev routine : ℕ → ℕ → Bool → ℕ → List ℕ → List Block → RoutineParts
routine pid params value regs arrays blocks =
    record { pid = pid; params = params; value = value; regs = regs; entry = 1; arrays = arrays; blocks = blocks }

-- int main(void){return 0;}
returns_zero :
    let f = function 0 (Some Int) ([]) ([])
    (Sequence (Return (Some (Constant Int 0))) Empty) in
    flat f ≡ routine 0 0 true 2 ([]) (
    block (il.Const 0 (word 0) ∷ []) (ends.Return (Some 0)) ∷
    block (il.Const 1 (word 0) ∷ []) (ends.Return (Some 1)) ∷
    [])
returns_zero = refl

-- int main(void){return (-2147483647-1) / -1;}
smallest_by_minus_one :
    let f = function 0 (Some Int) ([]) ([])
    (Sequence (Return (Some (Binary Int binary.Divide (Binary Int binary.Subtract (Unary Int Minus (Constant Int 2147483647))
    (Constant Int 1)) (Unary Int Minus (Constant Int 1))))) Empty) in
    flat f ≡ routine 0 0 true 10 ([]) (
    block (il.Const 0 (word 2147483647) ∷ il.Const 1 (word 0) ∷ il.Bin op.SubS 2 1 0 ∷ il.Const 3 (word 1) ∷ il.Bin op.SubS 4 2
    3 ∷ il.Const 5 (word 1) ∷ il.Const 6 (word 0) ∷ il.Bin op.SubS 7 6 5 ∷ il.Bin op.DivS 8 4 7 ∷ []) (ends.Return (Some 8)) ∷
    block (il.Const 9 (word 0) ∷ []) (ends.Return (Some 9)) ∷
    [])
smallest_by_minus_one = refl

-- int main(void){return -1L < 1u;}
mixed_signs :
    let f = function 0 (Some Int) ([]) ([])
    (Sequence (Return (Some (Binary ULong binary.Less (Convert ULong (Unary Long Minus (Constant Long 1))) (Convert ULong (Constant
    UInt 1))))) Empty) in
    flat f ≡ routine 0 0 true 6 ([]) (
    block (il.Const 0 (word 1) ∷ il.Const 1 (word 0) ∷ il.Bin op.SubS 2 1 0 ∷ il.Const 3 (word 1) ∷ il.Bin op.LtU 4 2 3 ∷ [])
    (ends.Return (Some 4)) ∷
    block (il.Const 5 (word 0) ∷ []) (ends.Return (Some 5)) ∷
    [])
mixed_signs = refl

-- static int add1(int a) { return a + 1; } int main(void) { return add1(4); }
adds_one :
    let f = function 0 (Some Int) ((parameter Int) ∷ []) ([])
    (Sequence (Return (Some (Binary Int binary.Add (Read Int (Scalar (variables.Parameter 0))) (Constant Int 1)))) Empty) in
    flat f ≡ routine 0 1 true 5 ([]) (
    block (il.Move 1 0 ∷ il.Const 2 (word 1) ∷ il.Bin op.AddS 3 1 2 ∷ []) (ends.Return (Some 3)) ∷
    block (il.Const 4 (word 0) ∷ []) (ends.Return (Some 4)) ∷
    [])
adds_one = refl

-- static int add1(int a) { return a + 1; } int main(void) { return add1(4); }
calls_it :
    let f = function 1 (Some Int) ([]) ([])
    (Sequence (Return (Some (Call (Some Int) 0 (Argument (Constant Int 4) none)))) Empty) in
    flat f ≡ routine 1 0 true 3 ([]) (
    block (il.Const 0 (word 4) ∷ il.Call (Some 1) 0 1 (0 ∷ []) ∷ []) (ends.Return (Some 1)) ∷
    block (il.Const 2 (word 0) ∷ []) (ends.Return (Some 2)) ∷
    [])
calls_it = refl

-- #include <stdio.h> int main(void){while(1) putchar(65);}
prints_for_ever :
    let f = function 0 (Some Int) ([]) ([])
    (Sequence (While (Constant Int 1) (Expression (PutChar (Constant Int 65)))) Empty) in
    flat f ≡ routine 0 0 true 4 ([]) (
    block ([]) (ends.Jump 1) ∷
    block (il.Const 0 (word 1) ∷ []) (ends.Branch 0 2 3) ∷
    block (il.Const 1 (word 65) ∷ il.PutChar 2 1 ∷ []) (ends.Loop 1) ∷
    block (il.Const 3 (word 0) ∷ []) (ends.Return (Some 3)) ∷
    [])
prints_for_ever = refl

-- #include <stdio.h> int f(void){int x; if (getchar() != EOF) x = x + 1; return x;} int main(void){int i;
-- for(i=0;i<3;i++) putchar(48+f()); return 0;}
counts_a_local :
    let f = function 0 (Some Int) ([]) ((local Int None) ∷ [])
    (Sequence (Declaration 0 None) (Sequence (If (Binary Int binary.NotEqual GetChar (Constant Int 4294967295)) (Expression (Assign
    Int (Scalar (variables.Local 0)) (Binary Int binary.Add (Read Int (Scalar (variables.Local 0))) (Constant Int 1))))) (Sequence
    (Return (Some (Read Int (Scalar (variables.Local 0))))) Empty))) in
    flat f ≡ routine 0 0 true 9 ([]) (
    block (il.GetChar 1 ∷ il.Const 2 (word 4294967295) ∷ il.Bin op.Ne 3 1 2 ∷ []) (ends.Branch 3 1 2) ∷
    block (il.Move 4 0 ∷ il.Const 5 (word 1) ∷ il.Bin op.AddS 6 4 5 ∷ il.Move 0 6 ∷ []) (ends.Jump 2) ∷
    block (il.Move 7 0 ∷ []) (ends.Return (Some 7)) ∷
    block (il.Const 8 (word 0) ∷ []) (ends.Return (Some 8)) ∷
    [])
counts_a_local = refl

-- #include <stdio.h> int f(void){int x; if (getchar() != EOF) x = x + 1; return x;} int main(void){int i;
-- for(i=0;i<3;i++) putchar(48+f()); return 0;}
loops_three_times :
    let f = function 1 (Some Int) ([]) ((local Int None) ∷ [])
    (Sequence (Declaration 0 None) (Sequence (For (Some (Assign Int (Scalar (variables.Local 0)) (Constant Int 0))) (Some (Binary
    Int binary.Less (Read Int (Scalar (variables.Local 0))) (Constant Int 3))) (Some (Postfix Int Increment (Scalar (variables.Local
    0)))) (Expression (PutChar (Binary Int binary.Add (Constant Int 48) (Call (Some Int) 0 none))))) (Sequence (Return (Some (Constant
    Int 0))) Empty))) in
    flat f ≡ routine 1 0 true 14 ([]) (
    block (il.Const 1 (word 0) ∷ il.Move 0 1 ∷ []) (ends.Jump 1) ∷
    block (il.Move 2 0 ∷ il.Const 3 (word 3) ∷ il.Bin op.LtS 4 2 3 ∷ []) (ends.Branch 4 2 4) ∷
    block (il.Const 5 (word 48) ∷ il.Call (Some 6) 0 1 ([]) ∷ il.Bin op.AddS 7 5 6 ∷ il.PutChar 8 7 ∷ []) (ends.Jump 3) ∷
    block (il.Move 9 0 ∷ il.Const 10 (word 1) ∷ il.Bin op.AddS 11 9 10 ∷ il.Move 0 11 ∷ []) (ends.Loop 1) ∷
    block (il.Const 12 (word 0) ∷ []) (ends.Return (Some 12)) ∷
    block (il.Const 13 (word 0) ∷ []) (ends.Return (Some 13)) ∷
    [])
loops_three_times = refl

-- int kind_of(int c) { switch (c) { case 10: return 2; case 32: case 9: return 1; default: return 0; } } int main(void){return 0;}
tells_kinds :
    let f = function 0 (Some Int) ((parameter Int) ∷ []) ([])
    (Sequence (Switch (Read Int (Scalar (variables.Parameter 0))) (Section (case 10 ∷ []) (Return (Some (Constant Int 2))) (Section
    (case 32 ∷ case 9 ∷ []) (Return (Some (Constant Int 1))) (Section (Default ∷ []) (Return (Some (Constant Int 0))) no_more)))) Empty)
    in
    flat f ≡ routine 0 1 true 12 ([]) (
    block (il.Move 1 0 ∷ il.Const 2 (word 10) ∷ il.Bin op.Eq 3 1 2 ∷ []) (ends.Branch 3 4 1) ∷
    block (il.Const 4 (word 32) ∷ il.Bin op.Eq 5 1 4 ∷ []) (ends.Branch 5 5 2) ∷
    block (il.Const 6 (word 9) ∷ il.Bin op.Eq 7 1 6 ∷ []) (ends.Branch 7 6 3) ∷
    block ([]) (ends.Jump 7) ∷
    block (il.Const 8 (word 2) ∷ []) (ends.Return (Some 8)) ∷
    block ([]) (ends.Jump 6) ∷
    block (il.Const 9 (word 1) ∷ []) (ends.Return (Some 9)) ∷
    block (il.Const 10 (word 0) ∷ []) (ends.Return (Some 10)) ∷
    block (il.Const 11 (word 0) ∷ []) (ends.Return (Some 11)) ∷
    [])
tells_kinds = refl

-- int g; void f(int a) { switch (a) { g = 1; default: g = 2; case 3: g = 3; break; case 4: ; } return; } int main(void){return 0;}
falls_through :
    let f = function 1 None ((parameter Int) ∷ []) ([])
    (Sequence (Switch (Read Int (Scalar (variables.Parameter 0))) (Section ([]) (Expression (Assign Int (Scalar (variables.Object
    0)) (Constant Int 1))) (Section (Default ∷ []) (Expression (Assign Int (Scalar (variables.Object 0)) (Constant Int 2))) (Section
    (case 3 ∷ []) (Expression (Assign Int (Scalar (variables.Object 0)) (Constant Int 3))) (Section ([]) Break (Section (case 4 ∷ [])
    Empty no_more)))))) (Sequence (Return None) Empty)) in
    flat f ≡ routine 1 1 false 9 ([]) (
    block (il.Move 1 0 ∷ il.Const 2 (word 3) ∷ il.Bin op.Eq 3 1 2 ∷ []) (ends.Branch 3 5 1) ∷
    block (il.Const 4 (word 4) ∷ il.Bin op.Eq 5 1 4 ∷ []) (ends.Branch 5 6 2) ∷
    block ([]) (ends.Jump 4) ∷
    block (il.Const 6 (word 1) ∷ il.Set 0 6 ∷ []) (ends.Jump 4) ∷
    block (il.Const 7 (word 2) ∷ il.Set 0 7 ∷ []) (ends.Jump 5) ∷
    block (il.Const 8 (word 3) ∷ il.Set 0 8 ∷ []) (ends.Jump 7) ∷
    block ([]) (ends.Jump 7) ∷
    block ([]) (ends.Return None) ∷
    block ([]) (ends.Return None) ∷
    [])
falls_through = refl

-- char c; int v[3]; int f(int a) { char d; short w[2]; d = c = a; w[a] += d++; v[1] = --c; return w[0] >> 1u; } int main(void){return 0;}
narrow_places :
    let f = function 2 (Some Int) ((parameter Int) ∷ []) ((local Char None) ∷ (local Short (Some 2)) ∷ [])
    (Sequence (Declaration 0 None) (Sequence (Declaration 1 None) (Sequence (Expression (Assign Char (Scalar (variables.Local 0))
    (Assign Char (Scalar (variables.Object 0)) (Convert Char (Read Int (Scalar (variables.Parameter 0))))))) (Sequence (Expression
    (Compound Short binary.Add Int (element (arrays.Local 1) (Read Int (Scalar (variables.Parameter 0)))) (Convert Int (Postfix Char
    Increment (Scalar (variables.Local 0)))))) (Sequence (Expression (Assign Int (element (arrays.Object 1) (Constant Int 1)) (Convert
    Int (Prefix Char Decrement (Scalar (variables.Object 0)))))) (Sequence (Return (Some (Binary Int binary.ShiftRight (Convert Int
    (Read Short (element (arrays.Local 1) (Constant Int 0)))) (Constant UInt 1)))) Empty)))))) in
    flat f ≡ routine 2 1 true 22 (2 ∷ []) (
    block (il.Move 2 0 ∷ il.Conv 3 Char 2 ∷ il.Set 0 3 ∷ il.Move 1 3 ∷ il.Move 4 0 ∷ il.GetA 5 0 4 ∷ il.Move 6 1 ∷ il.Const 7
    (word 1) ∷ il.Bin op.AddS 8 6 7 ∷ il.Conv 9 Char 8 ∷ il.Move 1 9 ∷ il.Bin op.AddS 10 5 6 ∷ il.Conv 11 Short 10 ∷ il.SetA 0 4 11 ∷
    il.Const 12 (word 1) ∷ il.Get 13 0 ∷ il.Const 14 (word 1) ∷ il.Bin op.SubS 15 13 14 ∷ il.Conv 16 Char 15 ∷ il.Set 0 16 ∷ il.SetX 1
    12 16 ∷ il.Const 17 (word 0) ∷ il.GetA 18 0 17 ∷ il.Const 19 (word 1) ∷ il.Bin op.ShrS 20 18 19 ∷ []) (ends.Return (Some 20)) ∷
    block (il.Const 21 (word 0) ∷ []) (ends.Return (Some 21)) ∷
    [])
narrow_places = refl

-- #include <stdlib.h> int f(int a) { int x; x = a ? (a, 2) : 3; (a && x) || !x; if (a) exit(1); else return ~x; a
-- ? exit(2) : exit(3); for(;;) { return x; } } int main(void){return 0;}
closed_arms :
    let f = function 0 (Some Int) ((parameter Int) ∷ []) ((local Int None) ∷ [])
    (Sequence (Declaration 0 None) (Sequence (Expression (Assign Int (Scalar (variables.Local 0)) (Conditional (Some Int) (Read Int
    (Scalar (variables.Parameter 0))) (Comma (Some Int) (Read Int (Scalar (variables.Parameter 0))) (Constant Int 2)) (Constant Int
    3)))) (Sequence (Expression (Logical logical.Or (Logical logical.And (Read Int (Scalar (variables.Parameter 0))) (Read Int (Scalar
    (variables.Local 0)))) (Unary Int Not (Read Int (Scalar (variables.Local 0)))))) (Sequence (IfElse (Read Int (Scalar
    (variables.Parameter 0))) (Expression (Exit (Constant Int 1))) (Return (Some (Unary Int Complement (Read Int (Scalar
    (variables.Local 0))))))) (Sequence (Expression (Conditional None (Read Int (Scalar (variables.Parameter 0))) (Exit (Constant Int
    2)) (Exit (Constant Int 3)))) (Sequence (For None None None (Sequence (Return (Some (Read Int (Scalar (variables.Local 0)))))
    Empty)) Empty)))))) in
    flat f ≡ routine 0 1 true 26 ([]) (
    block (il.Move 2 0 ∷ []) (ends.Branch 2 1 2) ∷
    block (il.Move 4 0 ∷ il.Const 5 (word 2) ∷ il.Move 3 5 ∷ []) (ends.Jump 3) ∷
    block (il.Const 6 (word 3) ∷ il.Move 3 6 ∷ []) (ends.Jump 3) ∷
    block (il.Move 1 3 ∷ il.Move 7 0 ∷ []) (ends.Branch 7 4 5) ∷
    block (il.Move 9 1 ∷ il.Const 10 (word 0) ∷ il.Bin op.Ne 8 9 10 ∷ []) (ends.Jump 6) ∷
    block (il.Const 8 (word 0) ∷ []) (ends.Jump 6) ∷
    block ([]) (ends.Branch 8 8 7) ∷
    block (il.Move 12 1 ∷ il.Const 13 (word 0) ∷ il.Bin op.Eq 14 12 13 ∷ il.Const 15 (word 0) ∷ il.Bin op.Ne 11 14 15 ∷ []) (ends.Jump 9) ∷
    block (il.Const 11 (word 1) ∷ []) (ends.Jump 9) ∷
    block (il.Move 16 0 ∷ []) (ends.Branch 16 10 12) ∷
    block (il.Const 17 (word 1) ∷ []) (ends.Exit 17) ∷
    block ([]) (ends.Jump 13) ∷
    block (il.Move 18 1 ∷ il.Const 19 (word 4294967295) ∷ il.Bin op.Xor 20 18 19 ∷ []) (ends.Return (Some 20)) ∷
    block (il.Move 21 0 ∷ []) (ends.Branch 21 14 16) ∷
    block (il.Const 22 (word 2) ∷ []) (ends.Exit 22) ∷
    block ([]) (ends.Jump 17) ∷
    block (il.Const 23 (word 3) ∷ []) (ends.Exit 23) ∷
    block ([]) (ends.Jump 18) ∷
    block ([]) (ends.Jump 19) ∷
    block (il.Move 24 1 ∷ []) (ends.Return (Some 24)) ∷
    block ([]) (ends.Loop 18) ∷
    block (il.Const 25 (word 0) ∷ []) (ends.Return (Some 25)) ∷
    [])
closed_arms = refl

-- int f(int a) { do { int y = -a; if (y >= a) continue; while (y) { y--; if (y == 7) break; } } while (a); return a; } int main(void){return 0;}
loops_in_loops :
    let f = function 0 (Some Int) ((parameter Int) ∷ []) ((local Int None) ∷ [])
    (Sequence (Do (Sequence (Declaration 0 (Some (Unary Int Minus (Read Int (Scalar (variables.Parameter 0)))))) (Sequence (If
    (Binary Int binary.GreaterEqual (Read Int (Scalar (variables.Local 0))) (Read Int (Scalar (variables.Parameter 0)))) Continue)
    (Sequence (While (Read Int (Scalar (variables.Local 0))) (Sequence (Expression (Postfix Int Decrement (Scalar (variables.Local 0))))
    (Sequence (If (Binary Int binary.Equal (Read Int (Scalar (variables.Local 0))) (Constant Int 7)) Break) Empty))) Empty))) (Read Int
    (Scalar (variables.Parameter 0)))) (Sequence (Return (Some (Read Int (Scalar (variables.Parameter 0))))) Empty)) in
    flat f ≡ routine 0 1 true 18 ([]) (
    block ([]) (ends.Jump 1) ∷
    block (il.Move 2 0 ∷ il.Const 3 (word 0) ∷ il.Bin op.SubS 4 3 2 ∷ il.Move 1 4 ∷ il.Move 5 1 ∷ il.Move 6 0 ∷ il.Bin op.LeS 7
    6 5 ∷ []) (ends.Branch 7 2 3) ∷
    block ([]) (ends.Jump 9) ∷
    block ([]) (ends.Jump 4) ∷
    block (il.Move 8 1 ∷ []) (ends.Branch 8 5 8) ∷
    block (il.Move 9 1 ∷ il.Const 10 (word 1) ∷ il.Bin op.SubS 11 9 10 ∷ il.Move 1 11 ∷ il.Move 12 1 ∷ il.Const 13 (word 7) ∷
    il.Bin op.Eq 14 12 13 ∷ []) (ends.Branch 14 6 7) ∷
    block ([]) (ends.Jump 8) ∷
    block ([]) (ends.Loop 4) ∷
    block ([]) (ends.Jump 9) ∷
    block (il.Move 15 0 ∷ []) (ends.Branch 15 10 11) ∷
    block ([]) (ends.Loop 1) ∷
    block (il.Move 16 0 ∷ []) (ends.Return (Some 16)) ∷
    block (il.Const 17 (word 0) ∷ []) (ends.Return (Some 17)) ∷
    [])
loops_in_loops = refl
