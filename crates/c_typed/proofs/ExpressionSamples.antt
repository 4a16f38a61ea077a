-- The meaning of C at programs of one expression each, or of a few. What each prints and how it ends is computed.
use Rattle.std.proofs.Common.{◌≡◌, List, [], ◌∷◌, refl}
use Rattle.std.specs.Prelude.{codes, false, Some, None}
use Rattle.hlo_num.specs.declared.word.Ty.TheVariants.{Char, UChar, Short, UShort, Int, UInt, Long, ULong}
use Rattle.hlo_num.specs.declared.word.Trap.TheVariants.{Divide, Quotient, Shift, Index}
use Rattle.il_core.specs.World.{Exit as exits, Trapped, OutOfTurns}
use Rattle.c_tree.specs.declared.expression.Step.TheVariants.{Increment, Decrement}
use Rattle.c_tree.specs.declared.expression.UnaryOp.TheVariants.{Plus, Minus, Complement, Not}
use Rattle.sym_tables.specs.declared.entity.Entity.TheVariants.{Function as function, Array as array}
use Rattle.sym_tables.specs.declared.symbol.Standing.TheVariants.{Tentative, Defined}
use Rattle.sym_tables.specs.Table.{Table}
use Rattle.c_typed.specs.declared.expression.Array.TheVariants as arrays
use Rattle.c_typed.specs.declared.expression.BinaryOp.TheVariants as op
use Rattle.c_typed.specs.declared.expression.LogicalOp.TheVariants as logical
use Rattle.c_typed.specs.Linked.{run_functions}
use Rattle.c_typed.specs.Trees.{Function, Element as element, Constant, Read, Convert, Discard, Unary, Binary, Logical, Conditional, Comma, Assign}
use Rattle.c_typed.specs.Trees.{Compound, Prefix, Postfix, Call, GetChar, PutChar, Declaration, Expression, If, Return}
use Rattle.c_typed.specs.Views.{arguments_from, sequence_from as block}
use Rattle.c_typed.proofs.Samples.{function_of, param_of, local_of, int, param, local, row, only_main, seen}

-- operands from left to right: 65 by 66 is 0
--     int main(void) { return putchar(65) / putchar(66); }
abbrev operands : List Function
operands = function_of 0 (Some Int) [] [] (block (Return (Some (Binary Int op.Divide (PutChar (int 65)) (PutChar (int 66)))) ∷ [])) ∷ []

operands_run : run_functions operands only_main [] 0 ≡ seen (codes "AB") (exits 0)
operands_run = refl

-- the index of the left side, then the right side, then the old value of the element again
--     int main(void) { int a[2]; a[putchar(65) - 65] = putchar(66); a[putchar(67) - 67] += putchar(68); return
--     a[0]; }
abbrev indices : List Function
indices = function_of 0 (Some Int) [] (local_of Int (Some 2) (codes "a") ∷ [])
    (block (Declaration 0 None ∷ Expression (Assign Int (element (arrays.Local 0) (Binary Int op.Subtract (PutChar (int 65)) (int 65))) (PutChar (int 66))) ∷
    Expression (Compound Int op.Add Int (element (arrays.Local 0) (Binary Int op.Subtract (PutChar (int 67)) (int 67))) (PutChar (int 68))) ∷ Return
    (Some (Read Int (element (arrays.Local 0) (int 0)))) ∷ [])) ∷ []

indices_run : run_functions indices only_main [] 0 ≡ seen (codes "ABCD") (exits 134)
indices_run = refl

-- a compound assignment reads its target before its right side
--     int main(void) { int x; x = 1; x += (x = 5); return x; }
abbrev old_value : List Function
old_value = function_of 0 (Some Int) [] (local_of Int None (codes "x") ∷ [])
    (block (Declaration 0 None ∷ Expression (Assign Int (local 0) (int 1)) ∷ Expression (Compound Int op.Add Int (local 0) (Assign Int (local 0) (int 5))) ∷
    Return (Some (Read Int (local 0))) ∷ [])) ∷ []

old_value_run : run_functions old_value only_main [] 0 ≡ seen [] (exits 6)
old_value_run = refl

-- the left operand of a comma is evaluated for what it does
--     int main(void) { int x; return (x = 3, putchar(x + 65), x * 7); }
abbrev commas : List Function
commas = function_of 0 (Some Int) [] (local_of Int None (codes "x") ∷ [])
    (block (Declaration 0 None ∷ Return (Some (Comma (Some Int) (Comma (Some Int) (Assign Int (local 0) (int 3))
    (PutChar (Binary Int op.Add (Read Int (local 0)) (int 65)))) (Binary Int op.Multiply (Read Int (local 0)) (int 7)))) ∷ [])) ∷ []

commas_run : run_functions commas only_main [] 0 ≡ seen (codes "D") (exits 21)
commas_run = refl

-- a prefix step gives the new value, converted to the type of the target; a postfix step gives the old one
--     int main(void) { char c; int n; c = 127; n = c++; putchar(n); putchar(c-- == -128); return ++c + --n; }
abbrev steps : List Function
steps = function_of 0 (Some Int) [] (local_of Char None (codes "c") ∷ local_of Int None (codes "n") ∷ [])
    (block (Declaration 0 None ∷ Declaration 1 None ∷ Expression (Assign Char (local 0) (Convert Char (int 127))) ∷ Expression
    (Assign Int (local 1) (Convert Int (Postfix Char Increment (local 0)))) ∷ Expression (PutChar (Read Int (local 1))) ∷ Expression
    (PutChar (Binary Int op.Equal (Convert Int (Postfix Char Decrement (local 0))) (Unary Int Minus (int 128)))) ∷ Return
    (Some (Binary Int op.Add (Convert Int (Prefix Char Increment (local 0))) (Prefix Int Decrement (local 1)))) ∷ [])) ∷ []

steps_run : run_functions steps only_main [] 0 ≡ seen (127 ∷ 1 ∷ []) (exits 4294967294)
steps_run = refl

-- conversions to a narrow type keep the low bits, and extend them by the sign or by 0
--     int main(void) { char c; unsigned char u; short s; unsigned short t; c = 200; u = -1; s = 40000; t = 65537;
--     return c + u + s + t; }
abbrev conversions : List Function
conversions = function_of 0 (Some Int) [] (local_of Char None (codes "c") ∷ local_of UChar None (codes "u") ∷ local_of Short None (codes "s") ∷ local_of UShort
    None (codes "t") ∷ []) (block (Declaration 0 None ∷ Declaration 1 None ∷ Declaration 2 None ∷ Declaration 3 None ∷ Expression
    (Assign Char (local 0) (Convert Char (int 200))) ∷ Expression (Assign UChar (local 1) (Convert UChar (Unary Int Minus (int 1)))) ∷ Expression
    (Assign Short (local 2) (Convert Short (int 40000))) ∷ Expression (Assign UShort (local 3) (Convert UShort (int 65537))) ∷ Return
    (Some (Binary Int op.Add (Binary Int op.Add (Binary Int op.Add (Convert Int (Read Char (local 0))) (Convert Int (Read UChar (local 1))))
    (Convert Int (Read Short (local 2)))) (Convert Int (Read UShort (local 3))))) ∷ [])) ∷ []

conversions_run : run_functions conversions only_main [] 0 ≡ seen [] (exits 4294941960)
conversions_run = refl

-- long and unsigned int make unsigned long
--     int main(void) { return -1L < 1u; }
abbrev usual : List Function
usual = function_of 0 (Some Int) [] [] (block (Return (Some (Binary ULong op.Less (Convert ULong (Unary Long Minus (Constant Long 1)))
    (Convert ULong (Constant UInt 1)))) ∷ [])) ∷ []

usual_run : run_functions usual only_main [] 0 ≡ seen [] (exits 0)
usual_run = refl

-- signed and unsigned operators differ
--     int main(void) { putchar(65 + (-1 < 1)); putchar(65 + (-1 < 1u)); putchar(65 + (-1 >> 31 == -1)); putchar(65
--     + (-1u >> 31 == 1)); return -7 / 2 * 100 + -7 % 2; }
abbrev signs : List Function
signs = function_of 0 (Some Int) [] [] (block (Expression (PutChar (Binary Int op.Add (int 65) (Binary Int op.Less (Unary Int Minus (int 1)) (int 1)))) ∷
    Expression (PutChar (Binary Int op.Add (int 65) (Binary UInt op.Less (Convert UInt (Unary Int Minus (int 1))) (Constant UInt 1)))) ∷ Expression
    (PutChar (Binary Int op.Add (int 65) (Binary Int op.Equal (Binary Int op.ShiftRight (Unary Int Minus (int 1)) (int 31)) (Unary Int Minus (int 1))))) ∷
    Expression (PutChar (Binary Int op.Add (int 65) (Binary UInt op.Equal (Binary UInt op.ShiftRight (Unary UInt Minus (Constant UInt 1)) (int 31))
    (Convert UInt (int 1))))) ∷ Return (Some (Binary Int op.Add (Binary Int op.Multiply (Binary Int op.Divide (Unary Int Minus (int 7)) (int 2)) (int 100))
    (Binary Int op.Remainder (Unary Int Minus (int 7)) (int 2)))) ∷ [])) ∷ []

signs_run : run_functions signs only_main [] 0 ≡ seen (codes "BABB") (exits 4294966995)
signs_run = refl

-- int and long are signed, and so are the narrow types; the unsigned kinds of int and long are not
--     int main(void) { char a; unsigned char b; short c; unsigned short d; a = b = c = d = -1; return (a < 0) + (b
--     < 0) * 2 + (c < 0) * 4 + (d < 0) * 8 + (-1 < 0) * 16 + (-1L < 0L) * 32 + (-1u < 0u) * 64 + (-1ul < 0ul) *
--     128; }
abbrev signed_types : List Function
signed_types = function_of 0 (Some Int) [] (local_of Char None (codes "a") ∷ local_of UChar None (codes "b") ∷ local_of Short None (codes "c") ∷ local_of UShort
    None (codes "d") ∷ []) (block (Declaration 0 None ∷ Declaration 1 None ∷ Declaration 2 None ∷ Declaration 3 None ∷ Expression
    (Assign Char (local 0) (Convert Char (Assign UChar (local 1) (Convert UChar
    (Assign Short (local 2) (Convert Short (Assign UShort (local 3) (Convert UShort (Unary Int Minus (int 1)))))))))) ∷ Return
    (Some (Binary Int op.Add (Binary Int op.Add (Binary Int op.Add
    (Binary Int op.Add (Binary Int op.Add (Binary Int op.Add (Binary Int op.Add (Binary Int op.Less (Convert Int (Read Char (local 0))) (int 0))
    (Binary Int op.Multiply (Binary Int op.Less (Convert Int (Read UChar (local 1))) (int 0)) (int 2)))
    (Binary Int op.Multiply (Binary Int op.Less (Convert Int (Read Short (local 2))) (int 0)) (int 4)))
    (Binary Int op.Multiply (Binary Int op.Less (Convert Int (Read UShort (local 3))) (int 0)) (int 8)))
    (Binary Int op.Multiply (Binary Int op.Less (Unary Int Minus (int 1)) (int 0)) (int 16)))
    (Binary Int op.Multiply (Binary Long op.Less (Unary Long Minus (Constant Long 1)) (Constant Long 0)) (int 32)))
    (Binary Int op.Multiply (Binary UInt op.Less (Unary UInt Minus (Constant UInt 1)) (Constant UInt 0)) (int 64)))
    (Binary Int op.Multiply (Binary ULong op.Less (Unary ULong Minus (Constant ULong 1)) (Constant ULong 0)) (int 128)))) ∷ [])) ∷ []

signed_types_run : run_functions signed_types only_main [] 0 ≡ seen [] (exits 53)
signed_types_run = refl

-- each comparison, on 1 and 2 and the other way round
--     int main(void) { int a; int b; a = 1; b = 2; return (a > b) + 2 * (a >= b) + 4 * (b > a) + 8 * (a <= b) + 16
--     * (a == b) + 32 * (a != b) + 64 * (b >= b) + 128 * (a < b); }
abbrev comparisons : List Function
comparisons = function_of 0 (Some Int) [] (local_of Int None (codes "a") ∷ local_of Int None (codes "b") ∷ [])
    (block (Declaration 0 None ∷ Declaration 1 None ∷ Expression (Assign Int (local 0) (int 1)) ∷ Expression (Assign Int (local 1) (int 2)) ∷ Return
    (Some (Binary Int op.Add (Binary Int op.Add (Binary Int op.Add
    (Binary Int op.Add (Binary Int op.Add (Binary Int op.Add (Binary Int op.Add (Binary Int op.Greater (Read Int (local 0)) (Read Int (local 1)))
    (Binary Int op.Multiply (int 2) (Binary Int op.GreaterEqual (Read Int (local 0)) (Read Int (local 1)))))
    (Binary Int op.Multiply (int 4) (Binary Int op.Greater (Read Int (local 1)) (Read Int (local 0)))))
    (Binary Int op.Multiply (int 8) (Binary Int op.LessEqual (Read Int (local 0)) (Read Int (local 1)))))
    (Binary Int op.Multiply (int 16) (Binary Int op.Equal (Read Int (local 0)) (Read Int (local 1)))))
    (Binary Int op.Multiply (int 32) (Binary Int op.NotEqual (Read Int (local 0)) (Read Int (local 1)))))
    (Binary Int op.Multiply (int 64) (Binary Int op.GreaterEqual (Read Int (local 1)) (Read Int (local 1)))))
    (Binary Int op.Multiply (int 128) (Binary Int op.Less (Read Int (local 0)) (Read Int (local 1)))))) ∷ [])) ∷ []

comparisons_run : run_functions comparisons only_main [] 0 ≡ seen [] (exits 236)
comparisons_run = refl

-- the operators on bits
--     int main(void) { return (12 & 10) * 10000 + (12 | 10) * 100 + (12 ^ 10) + (~0 << 20); }
abbrev bits : List Function
bits = function_of 0 (Some Int) [] [] (block (Return (Some (Binary Int op.Add
    (Binary Int op.Add (Binary Int op.Add (Binary Int op.Multiply (Binary Int op.And (int 12) (int 10)) (int 10000))
    (Binary Int op.Multiply (Binary Int op.Or (int 12) (int 10)) (int 100))) (Binary Int op.Xor (int 12) (int 10)))
    (Binary Int op.ShiftLeft (Unary Int Complement (int 0)) (int 20)))) ∷ [])) ∷ []

bits_run : run_functions bits only_main [] 0 ≡ seen [] (exits 4294000126)
bits_run = refl

-- operators before one operand
--     int main(void) { return -(-3) + ~-6 * 10 + !0 * 100 + !7 * 1000 + +4; }
abbrev unaries : List Function
unaries = function_of 0 (Some Int) [] [] (block (Return (Some
    (Binary Int op.Add (Binary Int op.Add (Binary Int op.Add (Binary Int op.Add (Unary Int Minus (Unary Int Minus (int 3)))
    (Binary Int op.Multiply (Unary Int Complement (Unary Int Minus (int 6))) (int 10))) (Binary Int op.Multiply (Unary Int Not (int 0)) (int 100)))
    (Binary Int op.Multiply (Unary Int Not (int 7)) (int 1000))) (Unary Int Plus (int 4)))) ∷ [])) ∷ []

unaries_run : run_functions unaries only_main [] 0 ≡ seen [] (exits 157)
unaries_run = refl

-- the right operand is skipped where the left one decides
--     int main(void) { putchar(65 + (0 && putchar(97))); putchar(65 + (2 || putchar(98))); putchar(65 + (2 &&
--     putchar(99))); putchar(65 + (0 || putchar(100))); return (0 || 0) + (3 && 0); }
abbrev skips : List Function
skips = function_of 0 (Some Int) [] [] (block (Expression (PutChar (Binary Int op.Add (int 65) (Logical logical.And (int 0) (PutChar (int 97))))) ∷ Expression
    (PutChar (Binary Int op.Add (int 65) (Logical logical.Or (int 2) (PutChar (int 98))))) ∷ Expression
    (PutChar (Binary Int op.Add (int 65) (Logical logical.And (int 2) (PutChar (int 99))))) ∷ Expression
    (PutChar (Binary Int op.Add (int 65) (Logical logical.Or (int 0) (PutChar (int 100))))) ∷ Return
    (Some (Binary Int op.Add (Logical logical.Or (int 0) (int 0)) (Logical logical.And (int 3) (int 0)))) ∷ [])) ∷ []

skips_run : run_functions skips only_main [] 0 ≡ seen (codes "ABcBdB") (exits 0)
skips_run = refl

-- arguments from left to right, each converted to the type of its parameter
--     int f(char a, int b) { return a * 1000 + b; }
--     int main(void) { return f(putchar(321) + 256, putchar(66)); }
abbrev arguments : List Function
arguments = function_of 0 (Some Int) (param_of Char (codes "a") ∷ param_of Int (codes "b") ∷ []) []
    (block (Return (Some (Binary Int op.Add (Binary Int op.Multiply (Convert Int (Read Char (param 0))) (int 1000)) (Read Int (param 1)))) ∷ [])) ∷ function_of
    1 (Some Int) [] [] (block (Return (Some (Call (Some Int) 0 (arguments_from
    (Convert Char (Binary Int op.Add (PutChar (int 321)) (int 256)) ∷ PutChar (int 66) ∷ [])))) ∷ [])) ∷ []

abbrev arguments_names : Table
arguments_names = (row (codes "f") (function (Some Int) (Char ∷ Int ∷ [])) Defined [] ∷ row (codes "main") (function (Some Int) []) Defined [] ∷ [])

arguments_run : run_functions arguments arguments_names [] 1 ≡ seen (codes "AB") (exits 65066)
arguments_run = refl

-- one arm of a conditional expression is evaluated; both may be void
--     void f(int c) { putchar(c); }
--     int main(void) { 1 ? f(65) : f(66); 0 ? f(67) : (void) putchar(68); return 1 ? 5 : 1 / 0; }
abbrev choice : List Function
choice = function_of 0 None (param_of Int (codes "c") ∷ []) [] (block (Expression (PutChar (Read Int (param 0))) ∷ [])) ∷ function_of 1 (Some Int) [] []
    (block (Expression (Conditional None (int 1) (Call None 0 (arguments_from (int 65 ∷ []))) (Call None 0 (arguments_from (int 66 ∷ [])))) ∷ Expression
    (Conditional None (int 0) (Call None 0 (arguments_from (int 67 ∷ []))) (Discard (PutChar (int 68)))) ∷ Return
    (Some (Conditional (Some Int) (int 1) (int 5) (Binary Int op.Divide (int 1) (int 0)))) ∷ [])) ∷ []

abbrev choice_names : Table
choice_names = (row (codes "f") (function None (Int ∷ [])) Defined [] ∷ row (codes "main") (function (Some Int) []) Defined [] ∷ [])

choice_run : run_functions choice choice_names [] 1 ≡ seen (codes "AD") (exits 5)
choice_run = refl

choice_stops : run_functions choice choice_names [] 0 ≡ seen [] OutOfTurns
choice_stops = refl

-- `getchar` gives the bytes of the input, and -1 after its end; `putchar` puts out and gives the low 8 bits
--     int main(void) { putchar(getchar()); putchar(putchar(321)); return getchar() + putchar(-191); }
abbrev bytes : List Function
bytes = function_of 0 (Some Int) [] [] (block (Expression (PutChar GetChar) ∷ Expression (PutChar (PutChar (int 321))) ∷ Return
    (Some (Binary Int op.Add GetChar (PutChar (Unary Int Minus (int 191))))) ∷ [])) ∷ []

bytes_run : run_functions bytes only_main (codes "z") 0 ≡ seen (codes "zAAA") (exits 64)
bytes_run = refl

bytes_more : run_functions bytes only_main (codes "zq") 0 ≡ seen (codes "zAAA") (exits 178)
bytes_more = refl

-- sums, differences and products wrap
--     int main(void) { return 2147483647 + 1 == -2147483647 - 1; }
abbrev wraps : List Function
wraps = function_of 0 (Some Int) [] [] (block (Return (Some (Binary Int op.Equal (Binary Int op.Add (int 2147483647) (int 1))
    (Binary Int op.Subtract (Unary Int Minus (int 2147483647)) (int 1)))) ∷ [])) ∷ []

wraps_run : run_functions wraps only_main [] 0 ≡ seen [] (exits 1)
wraps_run = refl

-- a division by 0 traps, after both operands
--     int main(void) { putchar(66); return putchar(65) / (putchar(67) - 67); }
abbrev divides : List Function
divides = function_of 0 (Some Int) [] [] (block (Expression (PutChar (int 66)) ∷ Return
    (Some (Binary Int op.Divide (PutChar (int 65)) (Binary Int op.Subtract (PutChar (int 67)) (int 67)))) ∷ [])) ∷ []

divides_run : run_functions divides only_main [] 0 ≡ seen (codes "BAC") (Trapped Divide)
divides_run = refl

-- so does a remainder, also an unsigned one
--     int main(void) { return 5u % 0u; }
abbrev remains : List Function
remains = function_of 0 (Some Int) [] [] (block (Return (Some (Convert Int (Binary UInt op.Remainder (Constant UInt 5) (Constant UInt 0)))) ∷ [])) ∷ []

remains_run : run_functions remains only_main [] 0 ≡ seen [] (Trapped Divide)
remains_run = refl

-- the least number by -1 traps, also in a remainder
--     int main(void) { int x; x = -2147483647 - 1; if (getchar() == -1) return x / -1; return x % -1; }
abbrev quotients : List Function
quotients = function_of 0 (Some Int) [] (local_of Int None (codes "x") ∷ [])
    (block (Declaration 0 None ∷ Expression (Assign Int (local 0) (Binary Int op.Subtract (Unary Int Minus (int 2147483647)) (int 1))) ∷ If
    (Binary Int op.Equal GetChar (Unary Int Minus (int 1))) (Return (Some (Binary Int op.Divide (Read Int (local 0)) (Unary Int Minus (int 1))))) ∷ Return
    (Some (Binary Int op.Remainder (Read Int (local 0)) (Unary Int Minus (int 1)))) ∷ [])) ∷ []

quotients_run : run_functions quotients only_main [] 0 ≡ seen [] (Trapped Quotient)
quotients_run = refl

quotients_more : run_functions quotients only_main (codes "x") 0 ≡ seen [] (Trapped Quotient)
quotients_more = refl

-- unsigned there is no such trap: -2147483648 is unsigned long
--     int main(void) { return -2147483648 / -1; }
abbrev unsigned_quotient : List Function
unsigned_quotient = function_of 0 (Some Int) [] [] (block (Return
    (Some (Convert Int (Binary ULong op.Divide (Unary ULong Minus (Constant ULong 2147483648)) (Convert ULong (Unary Int Minus (int 1)))))) ∷ [])) ∷ []

unsigned_quotient_run : run_functions unsigned_quotient only_main [] 0 ≡ seen [] (exits 0)
unsigned_quotient_run = refl

-- a count outside 0 to 31 traps
--     int main(void) { int x; x = 1 << 31; x >>= 31; putchar(65 + (x == -1)); return 1 << getchar(); }
abbrev shifts : List Function
shifts = function_of 0 (Some Int) [] (local_of Int None (codes "x") ∷ [])
    (block (Declaration 0 None ∷ Expression (Assign Int (local 0) (Binary Int op.ShiftLeft (int 1) (int 31))) ∷ Expression
    (Compound Int op.ShiftRight Int (local 0) (int 31)) ∷ Expression
    (PutChar (Binary Int op.Add (int 65) (Binary Int op.Equal (Read Int (local 0)) (Unary Int Minus (int 1))))) ∷ Return
    (Some (Binary Int op.ShiftLeft (int 1) GetChar)) ∷ [])) ∷ []

shifts_run : run_functions shifts only_main (codes " ") 0 ≡ seen (codes "B") (Trapped Shift)
shifts_run = refl

shifts_below : run_functions shifts only_main (4 ∷ []) 0 ≡ seen (codes "B") (exits 16)
shifts_below = refl

shifts_negative : run_functions shifts only_main [] 0 ≡ seen (codes "B") (Trapped Shift)
shifts_negative = refl

-- an element outside its array traps when it is read
--     int a[3]; int main(void) { return a[3]; }
abbrev reads_outside : List Function
reads_outside = function_of 1 (Some Int) [] [] (block (Return (Some (Read Int (element (arrays.Object 0) (int 3)))) ∷ [])) ∷ []

abbrev reads_outside_names : Table
reads_outside_names = (row (codes "a") (array Int false (Some 3)) Tentative [] ∷ row (codes "main") (function (Some Int) []) Defined [] ∷ [])

reads_outside_run : run_functions reads_outside reads_outside_names [] 0 ≡ seen [] (Trapped Index)
reads_outside_run = refl

-- and when it is written, after the right side; a negative index is outside too
--     int main(void) { int a[3]; a[2] = putchar(65); a[-1] = putchar(66); return 0; }
abbrev writes_outside : List Function
writes_outside = function_of 0 (Some Int) [] (local_of Int (Some 3) (codes "a") ∷ [])
    (block (Declaration 0 None ∷ Expression (Assign Int (element (arrays.Local 0) (int 2)) (PutChar (int 65))) ∷ Expression
    (Assign Int (element (arrays.Local 0) (Unary Int Minus (int 1))) (PutChar (int 66))) ∷ Return (Some (int 0)) ∷ [])) ∷ []

writes_outside_run : run_functions writes_outside only_main [] 0 ≡ seen (codes "AB") (Trapped Index)
writes_outside_run = refl

-- of an object at file scope too
--     char b[2]; int main(void) { b[1] = 66; putchar(b[1]); b[2] = putchar(65); return 0; }
abbrev writes_object_outside : List Function
writes_object_outside = function_of 1 (Some Int) [] [] (block
    (Expression (Assign Char (element (arrays.Object 0) (int 1)) (Convert Char (int 66))) ∷ Expression
    (PutChar (Convert Int (Read Char (element (arrays.Object 0) (int 1))))) ∷ Expression
    (Assign Char (element (arrays.Object 0) (int 2)) (Convert Char (PutChar (int 65)))) ∷ Return (Some (int 0)) ∷ [])) ∷ []

abbrev writes_object_outside_names : Table
writes_object_outside_names = (row (codes "b") (array Char false (Some 2)) Tentative [] ∷ row (codes "main") (function (Some Int) []) Defined [] ∷ [])

writes_object_outside_run : run_functions writes_object_outside writes_object_outside_names [] 0 ≡ seen (codes "BA") (Trapped Index)
writes_object_outside_run = refl

-- a compound assignment reads first
--     int main(void) { int a[3]; a[2] += putchar(65); a[3] += putchar(66); return 0; }
abbrev updates_outside : List Function
updates_outside = function_of 0 (Some Int) [] (local_of Int (Some 3) (codes "a") ∷ [])
    (block (Declaration 0 None ∷ Expression (Compound Int op.Add Int (element (arrays.Local 0) (int 2)) (PutChar (int 65))) ∷ Expression
    (Compound Int op.Add Int (element (arrays.Local 0) (int 3)) (PutChar (int 66))) ∷ Return (Some (int 0)) ∷ [])) ∷ []

updates_outside_run : run_functions updates_outside only_main [] 0 ≡ seen (codes "A") (Trapped Index)
updates_outside_run = refl
