-- The meaning of C at small programs for each form of statement. What each prints and how it ends is computed.
use Rattle.std.proofs.Common.{◌≡◌, List, [], ◌∷◌, refl}
use Rattle.std.specs.Prelude.{codes, Some, None}
use Rattle.hlo_num.specs.declared.word.Ty.TheVariants.{Char, Int}
use Rattle.hlo_num.specs.declared.word.Trap.TheVariants.{Divide}
use Rattle.il_core.specs.World.{Exit as exits, Trapped, OutOfTurns}
use Rattle.c_tree.specs.declared.expression.Step.TheVariants.{Increment, Decrement}
use Rattle.c_tree.specs.declared.expression.UnaryOp.TheVariants.{Not}
use Rattle.sym_tables.specs.declared.entity.Entity.TheVariants.{Function as function}
use Rattle.sym_tables.specs.declared.symbol.Standing.TheVariants.{Defined}
use Rattle.sym_tables.specs.Table.{Table}
use Rattle.c_typed.specs.declared.expression.Array.TheVariants as arrays
use Rattle.c_typed.specs.declared.expression.BinaryOp.TheVariants as op
use Rattle.c_typed.specs.declared.statement.Label.TheVariants.{Default}
use Rattle.c_typed.specs.Linked.{run_functions}
use Rattle.c_typed.specs.Trees.{Function, Element as element, Read, Convert, Unary, Binary, Assign, Prefix, Postfix, Call, GetChar, PutChar, Exit}
use Rattle.c_typed.specs.Trees.{None as none, Empty, Declaration, Expression, If, IfElse, Switch, While, Do, For, Break, Continue, Return, End, Section}
use Rattle.c_typed.specs.Views.{arguments_from, sequence_from as block}
use Rattle.c_typed.proofs.Samples.{function_of, param_of, local_of, int, param, local, label, row, only_main, seen}

-- a loop without an end puts out an A for each turn and one more, and then is out of turns
--     int main(void) { while (1) putchar(65); }
abbrev letters : List Function
letters = function_of 0 (Some Int) [] [] (block (While (int 1) (Expression (PutChar (int 65))) ∷ [])) ∷ []

letters_0 : run_functions letters only_main [] 0 ≡ seen (codes "A") OutOfTurns
letters_0 = refl

letters_1 : run_functions letters only_main [] 1 ≡ seen (codes "AA") OutOfTurns
letters_1 = refl

letters_2 : run_functions letters only_main [] 2 ≡ seen (codes "AAA") OutOfTurns
letters_2 = refl

-- a local is 0 at each call, and not what the last call left
--     int f(void) { int x; if (getchar() != EOF) x = x + 1; return x; }
--     int main(void) { int i; for (i = 0; i < 3; i++) putchar(48 + f()); return 0; }
abbrev zeros : List Function
zeros = function_of 0 (Some Int) [] (local_of Int None (codes "x") ∷ [])
    (block (Declaration 0 None ∷ If (Binary Int op.NotEqual GetChar (int 4294967295))
    (Expression (Assign Int (local 0) (Binary Int op.Add (Read Int (local 0)) (int 1)))) ∷ Return (Some (Read Int (local 0))) ∷ [])) ∷ function_of 1 (Some Int)
    [] (local_of Int None (codes "i") ∷ []) (block (Declaration 0 None ∷ For (Some (Assign Int (local 0) (int 0)))
    (Some (Binary Int op.Less (Read Int (local 0)) (int 3))) (Some (Postfix Int Increment (local 0)))
    (Expression (PutChar (Binary Int op.Add (int 48) (Call (Some Int) 0 none)))) ∷ Return (Some (int 0)) ∷ [])) ∷ []

abbrev zeros_names : Table
zeros_names = (row (codes "f") (function (Some Int) []) Defined [] ∷ row (codes "main") (function (Some Int) []) Defined [] ∷ [])

zeros_run : run_functions zeros zeros_names (codes "z") 6 ≡ seen (codes "100") (exits 0)
zeros_run = refl

zeros_stops : run_functions zeros zeros_names (codes "z") 5 ≡ seen (codes "100") OutOfTurns
zeros_stops = refl

-- so is each element of a local array
--     int f(void) { int a[2]; return ++a[1]; }
--     int main(void) { return f() * 10 + f(); }
abbrev arrays_of_zeros : List Function
arrays_of_zeros = function_of 0 (Some Int) [] (local_of Int (Some 2) (codes "a") ∷ [])
    (block (Declaration 0 None ∷ Return (Some (Prefix Int Increment (element (arrays.Local 0) (int 1)))) ∷ [])) ∷ function_of 1 (Some Int) [] []
    (block (Return (Some (Binary Int op.Add (Binary Int op.Multiply (Call (Some Int) 0 none) (int 10)) (Call (Some Int) 0 none))) ∷ [])) ∷ []

abbrev arrays_of_zeros_names : Table
arrays_of_zeros_names = (row (codes "f") (function (Some Int) []) Defined [] ∷ row (codes "main") (function (Some Int) []) Defined [] ∷ [])

arrays_of_zeros_run : run_functions arrays_of_zeros arrays_of_zeros_names [] 2 ≡ seen [] (exits 11)
arrays_of_zeros_run = refl

-- an initialiser is stored each time that its declaration is reached; a declaration without one does nothing
--     int main(void) { int i; for (i = 0; i < 3; i++) { int x = 65; int y; putchar(x++); putchar(y++ + 48); }
--     return 0; }
abbrev declarations : List Function
declarations = function_of 0 (Some Int) [] (local_of Int None (codes "i") ∷ local_of Int None (codes "x") ∷ local_of Int None (codes "y") ∷ [])
    (block (Declaration 0 None ∷ For (Some (Assign Int (local 0) (int 0))) (Some (Binary Int op.Less (Read Int (local 0)) (int 3)))
    (Some (Postfix Int Increment (local 0))) (block (Declaration 1 (Some (int 65)) ∷ Declaration 2 None ∷ Expression (PutChar (Postfix Int Increment (local 1)))
    ∷ Expression (PutChar (Binary Int op.Add (Postfix Int Increment (local 2)) (int 48))) ∷ [])) ∷ Return (Some (int 0)) ∷ [])) ∷ []

declarations_run : run_functions declarations only_main [] 3 ≡ seen (codes "A0A1A2") (exits 0)
declarations_run = refl

-- if, and if and else
--     int main(void) { if (1) putchar(65); if (0) putchar(66); if (2) putchar(67); else putchar(68); if (0)
--     putchar(69); else putchar(70); ; return 0; }
abbrev branches : List Function
branches = function_of 0 (Some Int) [] [] (block (If (int 1) (Expression (PutChar (int 65))) ∷ If (int 0) (Expression (PutChar (int 66))) ∷ IfElse (int 2)
    (Expression (PutChar (int 67))) (Expression (PutChar (int 68))) ∷ IfElse (int 0) (Expression (PutChar (int 69))) (Expression (PutChar (int 70))) ∷ Empty ∷
    Return (Some (int 0)) ∷ [])) ∷ []

branches_run : run_functions branches only_main [] 0 ≡ seen (codes "ACF") (exits 0)
branches_run = refl

-- `continue` goes back to the condition, which costs a turn; `break` leaves the loop
--     int main(void) { int i; while (i < 9) { i++; if (i == 2) continue; if (i == 4) break; putchar(64 + i); }
--     return i; }
abbrev while_loop : List Function
while_loop = function_of 0 (Some Int) [] (local_of Int None (codes "i") ∷ [])
    (block (Declaration 0 None ∷ While (Binary Int op.Less (Read Int (local 0)) (int 9))
    (block (Expression (Postfix Int Increment (local 0)) ∷ If (Binary Int op.Equal (Read Int (local 0)) (int 2)) Continue ∷ If
    (Binary Int op.Equal (Read Int (local 0)) (int 4)) Break ∷ Expression (PutChar (Binary Int op.Add (int 64) (Read Int (local 0)))) ∷ [])) ∷ Return
    (Some (Read Int (local 0))) ∷ [])) ∷ []

while_loop_run : run_functions while_loop only_main [] 3 ≡ seen (codes "AC") (exits 4)
while_loop_run = refl

while_loop_stops : run_functions while_loop only_main [] 2 ≡ seen (codes "AC") OutOfTurns
while_loop_stops = refl

-- in `do` `continue` goes to the condition; a turn is taken only where that isn't 0
--     int main(void) { int i; do { i++; if (i == 1) continue; putchar(64 + i); } while (i < 3); do putchar(33);
--     while (0); do { if (i) break; } while (1); return i; }
abbrev do_loop : List Function
do_loop = function_of 0 (Some Int) [] (local_of Int None (codes "i") ∷ [])
    (block (Declaration 0 None ∷ Do (block (Expression (Postfix Int Increment (local 0)) ∷ If (Binary Int op.Equal (Read Int (local 0)) (int 1)) Continue ∷
    Expression (PutChar (Binary Int op.Add (int 64) (Read Int (local 0)))) ∷ [])) (Binary Int op.Less (Read Int (local 0)) (int 3)) ∷ Do
    (Expression (PutChar (int 33))) (int 0) ∷ Do (block (If (Read Int (local 0)) Break ∷ [])) (int 1) ∷ Return (Some (Read Int (local 0))) ∷ [])) ∷ []

do_loop_run : run_functions do_loop only_main [] 2 ≡ seen (codes "BC!") (exits 3)
do_loop_run = refl

do_loop_stops : run_functions do_loop only_main [] 1 ≡ seen (codes "B") OutOfTurns
do_loop_stops = refl

-- in `for` `continue` goes to the third part, which comes before the turn; each part may be absent
--     int main(void) { int i; for (i = 5; i; putchar(48 + i--)) { if (i == 4) continue; putchar(65); } for (;;) {
--     if (i++ == 2) break; } return i; }
abbrev for_loop : List Function
for_loop = function_of 0 (Some Int) [] (local_of Int None (codes "i") ∷ [])
    (block (Declaration 0 None ∷ For (Some (Assign Int (local 0) (int 5))) (Some (Read Int (local 0)))
    (Some (PutChar (Binary Int op.Add (int 48) (Postfix Int Decrement (local 0)))))
    (block (If (Binary Int op.Equal (Read Int (local 0)) (int 4)) Continue ∷ Expression (PutChar (int 65)) ∷ [])) ∷ For None None None
    (block (If (Binary Int op.Equal (Postfix Int Increment (local 0)) (int 2)) Break ∷ [])) ∷ Return (Some (Read Int (local 0))) ∷ [])) ∷ []

for_loop_run : run_functions for_loop only_main [] 7 ≡ seen (codes "A54A3A2A1") (exits 3)
for_loop_run = refl

for_loop_stops : run_functions for_loop only_main [] 3 ≡ seen (codes "A54A3A2") OutOfTurns
for_loop_stops = refl

-- `break` and `continue` are of the nearest loop
--     int main(void) { int i; int j; for (i = 0; i < 2; i++) { for (j = 0; j < 3; j++) { if (j == 1) continue; if
--     (j == 2) break; putchar(48 + i); } putchar(10); } return 0; }
abbrev inner_break : List Function
inner_break = function_of 0 (Some Int) [] (local_of Int None (codes "i") ∷ local_of Int None (codes "j") ∷ [])
    (block (Declaration 0 None ∷ Declaration 1 None ∷ For (Some (Assign Int (local 0) (int 0))) (Some (Binary Int op.Less (Read Int (local 0)) (int 2)))
    (Some (Postfix Int Increment (local 0))) (block (For (Some (Assign Int (local 1) (int 0))) (Some (Binary Int op.Less (Read Int (local 1)) (int 3)))
    (Some (Postfix Int Increment (local 1))) (block (If (Binary Int op.Equal (Read Int (local 1)) (int 1)) Continue ∷ If
    (Binary Int op.Equal (Read Int (local 1)) (int 2)) Break ∷ Expression (PutChar (Binary Int op.Add (int 48) (Read Int (local 0)))) ∷ [])) ∷ Expression
    (PutChar (int 10)) ∷ [])) ∷ Return (Some (int 0)) ∷ [])) ∷ []

inner_break_run : run_functions inner_break only_main [] 6 ≡ seen (48 ∷ 10 ∷ 49 ∷ 10 ∷ []) (exits 0)
inner_break_run = refl

-- a switch goes to its case and through the following ones, until `break`; the default may stand in the middle
--     void f(int x) { switch (x) { case 1: putchar(65); default: putchar(66); case 2: putchar(67); break; case 3:
--     putchar(68); } putchar(10); }
--     int main(void) { f(1); f(2); f(3); f(4); return 0; }
abbrev falls_through : List Function
falls_through = function_of 0 None (param_of Int (codes "x") ∷ []) []
    (block (Switch (Read Int (param 0)) (Section (label 1 ∷ []) (Expression (PutChar (int 65)))
    (Section (Default ∷ []) (Expression (PutChar (int 66))) (Section (label 2 ∷ []) (Expression (PutChar (int 67)))
    (Section [] Break (Section (label 3 ∷ []) (Expression (PutChar (int 68))) End))))) ∷ Expression (PutChar (int 10)) ∷ [])) ∷ function_of 1 (Some Int) [] []
    (block (Expression (Call None 0 (arguments_from (int 1 ∷ []))) ∷ Expression (Call None 0 (arguments_from (int 2 ∷ []))) ∷ Expression
    (Call None 0 (arguments_from (int 3 ∷ []))) ∷ Expression (Call None 0 (arguments_from (int 4 ∷ []))) ∷ Return (Some (int 0)) ∷ [])) ∷ []

abbrev falls_through_names : Table
falls_through_names = (row (codes "f") (function None (Int ∷ [])) Defined [] ∷ row (codes "main") (function (Some Int) []) Defined [] ∷ [])

falls_through_run : run_functions falls_through falls_through_names [] 4 ≡ seen (65 ∷ 66 ∷ 67 ∷ 10 ∷ 67 ∷ 10 ∷ 68 ∷ 10 ∷ 66 ∷ 67 ∷ 10 ∷ []) (exits 0)
falls_through_run = refl

-- no label, no statement; two labels of one statement; labels hold for the value converted to its promoted type
--     int f(char x) { switch (x) { case 1: case 256: return 10; case -1: default: case 4: x = 5; } switch (x) {
--     case 7: x = 6; } return x; }
--     int main(void) { return f(1) * 100 + f(0) * 10 + f(4); }
abbrev no_default : List Function
no_default = function_of 0 (Some Int) (param_of Char (codes "x") ∷ []) []
    (block (Switch (Convert Int (Read Char (param 0))) (Section (label 1 ∷ label 256 ∷ []) (Return (Some (int 10)))
    (Section (label 4294967295 ∷ Default ∷ label 4 ∷ []) (Expression (Assign Char (param 0) (Convert Char (int 5)))) End)) ∷ Switch
    (Convert Int (Read Char (param 0))) (Section (label 7 ∷ []) (Expression (Assign Char (param 0) (Convert Char (int 6)))) End) ∷ Return
    (Some (Convert Int (Read Char (param 0)))) ∷ [])) ∷ function_of 1 (Some Int) [] []
    (block (Return (Some (Binary Int op.Add (Binary Int op.Add (Binary Int op.Multiply (Call (Some Int) 0 (arguments_from (Convert Char (int 1) ∷ [])))
    (int 100)) (Binary Int op.Multiply (Call (Some Int) 0 (arguments_from (Convert Char (int 0) ∷ []))) (int 10)))
    (Call (Some Int) 0 (arguments_from (Convert Char (int 4) ∷ []))))) ∷ [])) ∷ []

abbrev no_default_names : Table
no_default_names = (row (codes "f") (function (Some Int) (Char ∷ [])) Defined [] ∷ row (codes "main") (function (Some Int) []) Defined [] ∷ [])

no_default_run : run_functions no_default no_default_names [] 3 ≡ seen [] (exits 1055)
no_default_run = refl

-- declarations before the first label are jumped over; a switch without any label does nothing
--     int main(void) { switch (2) { int x = putchar(65); case 2: putchar(66 + x); } switch (1) putchar(67); return
--     0; }
abbrev jumped_over : List Function
jumped_over = function_of 0 (Some Int) [] (local_of Int None (codes "x") ∷ [])
    (block (Switch (int 2) (Section [] (Declaration 0 (Some (PutChar (int 65))))
    (Section (label 2 ∷ []) (Expression (PutChar (Binary Int op.Add (int 66) (Read Int (local 0))))) End)) ∷ Switch (int 1)
    (Section [] (Expression (PutChar (int 67))) End) ∷ Return (Some (int 0)) ∷ [])) ∷ []

jumped_over_run : run_functions jumped_over only_main [] 0 ≡ seen (codes "B") (exits 0)
jumped_over_run = refl

-- `continue` in a switch is the loop's, `break` the switch's; a value is returned from within
--     int main(void) { int i; for (i = 0; ; i++) { switch (i) { case 0: continue; case 1: break; case 2: return i
--     + 40; } putchar(65 + i); } }
abbrev switch_in_loop : List Function
switch_in_loop = function_of 0 (Some Int) [] (local_of Int None (codes "i") ∷ [])
    (block (Declaration 0 None ∷ For (Some (Assign Int (local 0) (int 0))) None (Some (Postfix Int Increment (local 0)))
    (block (Switch (Read Int (local 0)) (Section (label 0 ∷ []) Continue
    (Section (label 1 ∷ []) Break (Section (label 2 ∷ []) (Return (Some (Binary Int op.Add (Read Int (local 0)) (int 40)))) End))) ∷ Expression
    (PutChar (Binary Int op.Add (int 65) (Read Int (local 0)))) ∷ [])) ∷ [])) ∷ []

switch_in_loop_run : run_functions switch_in_loop only_main [] 2 ≡ seen (codes "B") (exits 42)
switch_in_loop_run = refl

-- `return;` and the end of a function give 0; a void function gives nothing
--     int f(int x) { if (x) return; if (!x) { } }
--     void g(void) { putchar(65); return; putchar(66); }
--     int main(void) { g(); return f(0) + f(1) + 3; }
abbrev returns : List Function
returns = function_of 0 (Some Int) (param_of Int (codes "x") ∷ []) []
    (block (If (Read Int (param 0)) (Return None) ∷ If (Unary Int Not (Read Int (param 0))) (block []) ∷ [])) ∷ function_of 1 None [] []
    (block (Expression (PutChar (int 65)) ∷ Return None ∷ Expression (PutChar (int 66)) ∷ [])) ∷ function_of 2 (Some Int) [] []
    (block (Expression (Call None 1 none) ∷ Return (Some (Binary Int op.Add
    (Binary Int op.Add (Call (Some Int) 0 (arguments_from (int 0 ∷ []))) (Call (Some Int) 0 (arguments_from (int 1 ∷ [])))) (int 3))) ∷ [])) ∷ []

abbrev returns_names : Table
returns_names = (row (codes "f") (function (Some Int) (Int ∷ [])) Defined [] ∷ row (codes "g") (function None []) Defined [] ∷ row (codes "main")
    (function (Some Int) []) Defined [] ∷ [])

returns_run : run_functions returns returns_names [] 3 ≡ seen (codes "A") (exits 3)
returns_run = refl

-- a call costs its turn after its arguments
--     int f(int x) { return putchar(x + 1); }
--     int main(void) { return f(putchar(65)); }
abbrev turns_of_calls : List Function
turns_of_calls = function_of 0 (Some Int) (param_of Int (codes "x") ∷ []) []
    (block (Return (Some (PutChar (Binary Int op.Add (Read Int (param 0)) (int 1)))) ∷ [])) ∷ function_of 1 (Some Int) [] []
    (block (Return (Some (Call (Some Int) 0 (arguments_from (PutChar (int 65) ∷ [])))) ∷ [])) ∷ []

abbrev turns_of_calls_names : Table
turns_of_calls_names = (row (codes "f") (function (Some Int) (Int ∷ [])) Defined [] ∷ row (codes "main") (function (Some Int) []) Defined [] ∷ [])

turns_of_calls_0 : run_functions turns_of_calls turns_of_calls_names [] 0 ≡ seen (codes "A") OutOfTurns
turns_of_calls_0 = refl

turns_of_calls_1 : run_functions turns_of_calls turns_of_calls_names [] 1 ≡ seen (codes "AB") (exits 66)
turns_of_calls_1 = refl

-- `exit` ends the program from within nested calls
--     int f(void) { putchar(65); exit(3); return 66; }
--     int g(void) { putchar(67); return 1; }
--     int main(void) { return putchar(f()) + g(); }
abbrev exits_within : List Function
exits_within = function_of 0 (Some Int) [] [] (block (Expression (PutChar (int 65)) ∷ Expression (Exit (int 3)) ∷ Return (Some (int 66)) ∷ [])) ∷ function_of 1
    (Some Int) [] [] (block (Expression (PutChar (int 67)) ∷ Return (Some (int 1)) ∷ [])) ∷ function_of 2 (Some Int) [] []
    (block (Return (Some (Binary Int op.Add (PutChar (Call (Some Int) 0 none)) (Call (Some Int) 1 none))) ∷ [])) ∷ []

abbrev exits_within_names : Table
exits_within_names = (row (codes "f") (function (Some Int) []) Defined [] ∷ row (codes "g") (function (Some Int) []) Defined [] ∷ row (codes "main")
    (function (Some Int) []) Defined [] ∷ [])

exits_within_run : run_functions exits_within exits_within_names [] 1 ≡ seen (codes "A") (exits 3)
exits_within_run = refl

-- a function that calls itself: each call has its own locals
--     int fib(int n) { int a; if (n < 2) return n; a = fib(n - 1); return a + fib(n - 2); }
--     int main(void) { return fib(5); }
abbrev recursion : List Function
recursion = function_of 0 (Some Int) (param_of Int (codes "n") ∷ []) (local_of Int None (codes "a") ∷ [])
    (block (Declaration 0 None ∷ If (Binary Int op.Less (Read Int (param 0)) (int 2)) (Return (Some (Read Int (param 0)))) ∷ Expression
    (Assign Int (local 0) (Call (Some Int) 0 (arguments_from (Binary Int op.Subtract (Read Int (param 0)) (int 1) ∷ [])))) ∷ Return
    (Some (Binary Int op.Add (Read Int (local 0)) (Call (Some Int) 0 (arguments_from (Binary Int op.Subtract (Read Int (param 0)) (int 2) ∷ []))))) ∷ [])) ∷
    function_of 1 (Some Int) [] [] (block (Return (Some (Call (Some Int) 0 (arguments_from (int 5 ∷ [])))) ∷ [])) ∷ []

abbrev recursion_names : Table
recursion_names = (row (codes "fib") (function (Some Int) (Int ∷ [])) Defined [] ∷ row (codes "main") (function (Some Int) []) Defined [] ∷ [])

recursion_run : run_functions recursion recursion_names [] 15 ≡ seen [] (exits 5)
recursion_run = refl

recursion_stops : run_functions recursion recursion_names [] 14 ≡ seen [] OutOfTurns
recursion_stops = refl

-- a trap ends the program from within a call and a loop
--     int f(int x) { while (1) { putchar(48 + 6 / x); x--; } }
--     int main(void) { return f(2) + putchar(65); }
abbrev traps_within : List Function
traps_within = function_of 0 (Some Int) (param_of Int (codes "x") ∷ []) []
    (block (While (int 1) (block (Expression (PutChar (Binary Int op.Add (int 48) (Binary Int op.Divide (int 6) (Read Int (param 0))))) ∷ Expression
    (Postfix Int Decrement (param 0)) ∷ [])) ∷ [])) ∷ function_of 1 (Some Int) [] []
    (block (Return (Some (Binary Int op.Add (Call (Some Int) 0 (arguments_from (int 2 ∷ []))) (PutChar (int 65)))) ∷ [])) ∷ []

abbrev traps_within_names : Table
traps_within_names = (row (codes "f") (function (Some Int) (Int ∷ [])) Defined [] ∷ row (codes "main") (function (Some Int) []) Defined [] ∷ [])

traps_within_run : run_functions traps_within traps_within_names [] 9 ≡ seen (codes "36") (Trapped Divide)
traps_within_run = refl
