-- The meaning of linked modules at small programs. A comment has the modules in their order; the names stand in the
-- table in the order of their first mention. What each program prints and how it ends is computed.
use Rattle.std.proofs.Common.{◌≡◌, List, [], ◌∷◌, refl}
use Rattle.std.specs.Prelude.{codes, map, false, Some, None}
use Rattle.hlo_num.specs.declared.word.Ty.TheVariants.{Char, Int}
use Rattle.il_core.specs.World.{Exit as exits, OutOfTurns}
use Rattle.c_tree.specs.declared.expression.Step.TheVariants.{Increment}
use Rattle.c_tree.specs.declared.expression.UnaryOp.TheVariants.{Not}
use Rattle.sym_tables.specs.declared.entity.Entity.TheVariants.{Function as function, Scalar as scalar, Array as array}
use Rattle.sym_tables.specs.declared.symbol.Standing.TheVariants.{Tentative, Defined}
use Rattle.sym_tables.specs.Table.{Table}
use Rattle.c_typed.specs.declared.expression.Array.TheVariants as arrays
use Rattle.c_typed.specs.declared.expression.BinaryOp.TheVariants as op
use Rattle.c_typed.specs.declared.statement.Label.TheVariants.{Default}
use Rattle.c_typed.specs.Linked.{run_functions}
use Rattle.c_typed.specs.Trees.{Function, Element as element, Read, Convert, Unary, Binary, Assign, Compound, Prefix, Postfix, Call, GetChar, PutChar}
use Rattle.c_typed.specs.Trees.{None as none, Declaration, Expression, If, IfElse, Switch, While, Return, End, Section}
use Rattle.c_typed.specs.Views.{arguments_from, sequence_from as block}
use Rattle.c_typed.proofs.Samples.{function_of, param_of, local_of, int, param, local, object, label, word, row, seen}

-- a static function in each module: the name stands for the module's own
--   module 1:
--     static int f(void) { return 1; } int g(void); int main(void) { return f() * 10 + g(); }
--   module 2:
--     static int f(void) { return 2; }
--     int g(void) { return f(); }
abbrev two_of_a_name : List Function
two_of_a_name = function_of 0 (Some Int) [] [] (block (Return (Some (int 1)) ∷ [])) ∷ function_of 2 (Some Int) [] []
    (block (Return (Some (Binary Int op.Add (Binary Int op.Multiply (Call (Some Int) 0 none) (int 10)) (Call (Some Int) 1 none))) ∷ [])) ∷ function_of 3
    (Some Int) [] [] (block (Return (Some (int 2)) ∷ [])) ∷ function_of 1 (Some Int) [] [] (block (Return (Some (Call (Some Int) 3 none)) ∷ [])) ∷ []

abbrev two_of_a_name_names : Table
two_of_a_name_names = (row (codes "f.1") (function (Some Int) []) Defined [] ∷ row (codes "g") (function (Some Int) []) Defined [] ∷ row (codes "main")
    (function (Some Int) []) Defined [] ∷ row (codes "f.2") (function (Some Int) []) Defined [] ∷ [])

two_of_a_name_run : run_functions two_of_a_name two_of_a_name_names [] 3 ≡ seen [] (exits 12)
two_of_a_name_run = refl

two_of_a_name_stops : run_functions two_of_a_name two_of_a_name_names [] 2 ≡ seen [] OutOfTurns
two_of_a_name_stops = refl

-- a static function, and an external one of the same name
--   module 1:
--     int f(void); int g(void); int main(void) { return f() * 10 + g(); }
--   module 2:
--     static int f(void) { return 2; }
--     int g(void) { return f(); }
--   module 3:
--     int f(void) { return 7; }
abbrev static_and_external : List Function
static_and_external = function_of 2 (Some Int) [] [] (block (Return
    (Some (Binary Int op.Add (Binary Int op.Multiply (Call (Some Int) 0 none) (int 10)) (Call (Some Int) 1 none))) ∷ [])) ∷ function_of 3 (Some Int) [] []
    (block (Return (Some (int 2)) ∷ [])) ∷ function_of 1 (Some Int) [] [] (block (Return (Some (Call (Some Int) 3 none)) ∷ [])) ∷ function_of 0 (Some Int) [] []
    (block (Return (Some (int 7)) ∷ [])) ∷ []

abbrev static_and_external_names : Table
static_and_external_names = (row (codes "f") (function (Some Int) []) Defined [] ∷ row (codes "g") (function (Some Int) []) Defined [] ∷ row (codes "main")
    (function (Some Int) []) Defined [] ∷ row (codes "f.2") (function (Some Int) []) Defined [] ∷ [])

static_and_external_run : run_functions static_and_external static_and_external_names [] 3 ≡ seen [] (exits 72)
static_and_external_run = refl

-- an external object is one for all modules, whichever defines it; a static one is the module's own
--   module 1:
--     extern int n; static int k = 5; int g(void); int main(void) { n = n + k; k = 9; return g() * 10 + n; }
--   module 2:
--     int n = 3; static int k; int g(void) { n++; return n + ++k; }
abbrev one_object : List Function
one_object = function_of 3 (Some Int) [] [] (block (Expression (Assign Int (object 0) (Binary Int op.Add (Read Int (object 0)) (Read Int (object 1)))) ∷
    Expression (Assign Int (object 1) (int 9)) ∷ Return (Some (Binary Int op.Add (Binary Int op.Multiply (Call (Some Int) 2 none) (int 10))
    (Read Int (object 0)))) ∷ [])) ∷ function_of 2 (Some Int) [] []
    (block (Expression (Postfix Int Increment (object 0)) ∷ Return (Some (Binary Int op.Add (Read Int (object 0)) (Prefix Int Increment (object 4)))) ∷ [])) ∷
    []

abbrev one_object_names : Table
one_object_names = (row (codes "n") (scalar Int false) Defined (map word (3 ∷ [])) ∷ row (codes "k.1") (scalar Int false) Defined (map word (5 ∷ [])) ∷ row
    (codes "g") (function (Some Int) []) Defined [] ∷ row (codes "main") (function (Some Int) []) Defined [] ∷ row (codes "k.2") (scalar Int false) Tentative []
    ∷ [])

one_object_run : run_functions one_object one_object_names [] 1 ≡ seen [] (exits 109)
one_object_run = refl

-- objects begin with their constants, converted to their type, and then zeros; a tentative one with zeros
--     char a[4] = { 65, 322 }; int n = 2 * 33 + 1; int t; int b[2]; int main(void) { putchar(a[0]); putchar(a[1]);
--     putchar(n); return a[2] + a[3] + t + b[1]; }
abbrev objects_begin : List Function
objects_begin = function_of 4 (Some Int) [] [] (block (Expression (PutChar (Convert Int (Read Char (element (arrays.Object 0) (int 0))))) ∷ Expression
    (PutChar (Convert Int (Read Char (element (arrays.Object 0) (int 1))))) ∷ Expression (PutChar (Read Int (object 1))) ∷ Return
    (Some (Binary Int op.Add (Binary Int op.Add (Binary Int op.Add (Convert Int (Read Char (element (arrays.Object 0) (int 2))))
    (Convert Int (Read Char (element (arrays.Object 0) (int 3))))) (Read Int (object 2))) (Read Int (element (arrays.Object 3) (int 1))))) ∷ [])) ∷ []

abbrev objects_begin_names : Table
objects_begin_names = (row (codes "a") (array Char false (Some 4)) Defined (map word (65 ∷ 66 ∷ [])) ∷ row (codes "n") (scalar Int false) Defined
    (map word (67 ∷ [])) ∷ row (codes "t") (scalar Int false) Tentative [] ∷ row (codes "b") (array Int false (Some 2)) Tentative [] ∷ row (codes "main")
    (function (Some Int) []) Defined [] ∷ [])

objects_begin_run : run_functions objects_begin objects_begin_names [] 0 ≡ seen (codes "ABC") (exits 0)
objects_begin_run = refl

-- a static `main` of another module is another function
--   module 1:
--     int main(void) { return 4; }
--   module 2:
--     static int main(void) { return 5; }
--     int g(void) { return main(); }
abbrev static_main : List Function
static_main = function_of 0 (Some Int) [] [] (block (Return (Some (int 4)) ∷ [])) ∷ function_of 1 (Some Int) [] [] (block (Return (Some (int 5)) ∷ [])) ∷
    function_of 2 (Some Int) [] [] (block (Return (Some (Call (Some Int) 1 none)) ∷ [])) ∷ []

abbrev static_main_names : Table
static_main_names = (row (codes "main") (function (Some Int) []) Defined [] ∷ row (codes "main.2") (function (Some Int) []) Defined [] ∷ row (codes "g")
    (function (Some Int) []) Defined [] ∷ [])

static_main_run : run_functions static_main static_main_names [] 0 ≡ seen [] (exits 4)
static_main_run = refl

-- objects keep what was written from call to call, also in an array
--     int a[3] = { 1 }; int f(int i) { a[i] += 10; return a[i]; }
--     int main(void) { f(0); f(2); return f(0) * 100 + a[1] * 10 + f(2); }
abbrev writes_last : List Function
writes_last = function_of 1 (Some Int) (param_of Int (codes "i") ∷ []) []
    (block (Expression (Compound Int op.Add Int (element (arrays.Object 0) (Read Int (param 0))) (int 10)) ∷ Return
    (Some (Read Int (element (arrays.Object 0) (Read Int (param 0))))) ∷ [])) ∷ function_of 2 (Some Int) [] []
    (block (Expression (Call (Some Int) 1 (arguments_from (int 0 ∷ []))) ∷ Expression (Call (Some Int) 1 (arguments_from (int 2 ∷ []))) ∷ Return
    (Some (Binary Int op.Add (Binary Int op.Add (Binary Int op.Multiply (Call (Some Int) 1 (arguments_from (int 0 ∷ []))) (int 100))
    (Binary Int op.Multiply (Read Int (element (arrays.Object 0) (int 1))) (int 10))) (Call (Some Int) 1 (arguments_from (int 2 ∷ []))))) ∷ [])) ∷ []

abbrev writes_last_names : Table
writes_last_names = (row (codes "a") (array Int false (Some 3)) Defined (map word (1 ∷ [])) ∷ row (codes "f") (function (Some Int) (Int ∷ [])) Defined [] ∷ row
    (codes "main") (function (Some Int) []) Defined [] ∷ [])

writes_last_run : run_functions writes_last writes_last_names [] 4 ≡ seen [] (exits 2120)
writes_last_run = refl

-- a counter of lines, words and bytes: three modules, with an object that one declares and another defines
--   module 1:
--     enum kind { OTHER, SPACE, LINE };
--     extern int lines;
--     int words_seen(void);
--     void feed(enum kind k);
--     void number(int n);
--     static int bytes;
--     static enum kind kind_of(int c) {
--       switch (c) {
--       case '\n': return LINE;
--       case ' ': case '\t': return SPACE;
--       default: return OTHER;
--       }
--     }
--     int main(void) {
--       int c;
--       while ((c = getchar()) != EOF) { bytes++; feed(kind_of(c)); }
--       number(lines); putchar(' '); number(words_seen()); putchar(' ');
--       number(bytes); putchar('\n');
--       return 0;
--     }
--   module 2:
--     enum kind { OTHER, SPACE, LINE };
--     int lines;
--     static int words, inside;
--     void feed(enum kind k) {
--       if (k == LINE) lines++;
--       if (k != OTHER) inside = 0;
--       else if (!inside) { inside = 1; words++; }
--     }
--     int words_seen(void) { return words; }
--   module 3:
--     void number(int n) { if (n > 9) number(n / 10); putchar('0' + n % 10); }
abbrev word_counter : List Function
word_counter = function_of 5 (Some Int) (param_of Int (codes "c") ∷ []) []
    (block (Switch (Read Int (param 0)) (Section (label 10 ∷ []) (Return (Some (int 2)))
    (Section (label 32 ∷ label 9 ∷ []) (Return (Some (int 1))) (Section (Default ∷ []) (Return (Some (int 0))) End))) ∷ [])) ∷ function_of 6 (Some Int) []
    (local_of Int None (codes "c") ∷ []) (block (Declaration 0 None ∷ While (Binary Int op.NotEqual (Assign Int (local 0) GetChar) (int 4294967295))
    (block (Expression (Postfix Int Increment (object 4)) ∷ Expression
    (Call None 2 (arguments_from (Call (Some Int) 5 (arguments_from (Read Int (local 0) ∷ [])) ∷ []))) ∷ [])) ∷ Expression
    (Call None 3 (arguments_from (Read Int (object 0) ∷ []))) ∷ Expression (PutChar (int 32)) ∷ Expression
    (Call None 3 (arguments_from (Call (Some Int) 1 none ∷ []))) ∷ Expression (PutChar (int 32)) ∷ Expression
    (Call None 3 (arguments_from (Read Int (object 4) ∷ []))) ∷ Expression (PutChar (int 10)) ∷ Return (Some (int 0)) ∷ [])) ∷ function_of 2 None
    (param_of Int (codes "k") ∷ []) [] (block (If (Binary Int op.Equal (Read Int (param 0)) (int 2)) (Expression (Postfix Int Increment (object 0))) ∷ IfElse
    (Binary Int op.NotEqual (Read Int (param 0)) (int 0)) (Expression (Assign Int (object 8) (int 0)))
    (If (Unary Int Not (Read Int (object 8))) (block (Expression (Assign Int (object 8) (int 1)) ∷ Expression (Postfix Int Increment (object 7)) ∷ []))) ∷ []))
    ∷ function_of 1 (Some Int) [] [] (block (Return (Some (Read Int (object 7))) ∷ [])) ∷ function_of 3 None (param_of Int (codes "n") ∷ []) []
    (block (If (Binary Int op.Greater (Read Int (param 0)) (int 9))
    (Expression (Call None 3 (arguments_from (Binary Int op.Divide (Read Int (param 0)) (int 10) ∷ [])))) ∷ Expression
    (PutChar (Binary Int op.Add (int 48) (Binary Int op.Remainder (Read Int (param 0)) (int 10)))) ∷ [])) ∷ []

abbrev word_counter_names : Table
word_counter_names = (row (codes "lines") (scalar Int false) Tentative [] ∷ row (codes "words_seen") (function (Some Int) []) Defined [] ∷ row (codes "feed")
    (function None (Int ∷ [])) Defined [] ∷ row (codes "number") (function None (Int ∷ [])) Defined [] ∷ row (codes "bytes.1") (scalar Int false) Tentative [] ∷
    row (codes "kind_of.1") (function (Some Int) (Int ∷ [])) Defined [] ∷ row (codes "main") (function (Some Int) []) Defined [] ∷ row (codes "words.2")
    (scalar Int false) Tentative [] ∷ row (codes "inside.2") (scalar Int false) Tentative [] ∷ [])

word_counter_run : run_functions word_counter word_counter_names (97 ∷ 32 ∷ 98 ∷ 10 ∷ 99 ∷ 100 ∷ 10 ∷ []) 100 ≡ seen (50 ∷ 32 ∷ 51 ∷ 32 ∷ 55 ∷ 10 ∷ [])
    (exits 0)
word_counter_run = refl
