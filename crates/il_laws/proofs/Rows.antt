-- Small routines and programs on which the definitions are tried, as they are lowered.
use Rattle.std.specs.Prelude.{ℕ, Bool, true, List, [], ◌∷◌, Some, codes}
use Rattle.hlo_num.specs.declared.word.Word.{Word}
use Rattle.hlo_num.specs.declared.word.Op.TheVariants as op
use Rattle.il_core.specs.declared.instr.Block.{Block}
use Rattle.il_core.specs.declared.instr.Instr.{Instr}
use Rattle.il_core.specs.declared.instr.Instr.TheVariants.{Const, Move, Bin, Call, GetChar, PutChar}
use Rattle.il_core.specs.declared.instr.End.{End}
use Rattle.il_core.specs.declared.instr.End.TheVariants.{Jump, Branch, Loop, Return, Exit}
use Rattle.il_core.specs.declared.program.IlProgram.{IlProgram}
use Rattle.il_core.specs.declared.shape.ShapeRow.{ShapeRow}
use Rattle.il_core.specs.declared.shape.Shape.TheVariants as shape
use Rattle.il_core.specs.Routine.{RoutineParts}

abbrev pub word : ℕ → Word
word n = record { 0 = n }

abbrev pub block_of : List Instr → End → Block
block_of is e = record { instrs = is; end = e }

-- a routine's PID, parameters, whether it gives a value, registers, entry count, arrays, and blocks
abbrev pub routine_of : ℕ → ℕ → Bool → ℕ → ℕ → List ℕ → List Block → RoutineParts
routine_of pid params value regs entry arrays blocks =
    record { pid = pid; params = params; value = value; regs = regs; entry = entry; arrays = arrays; blocks = blocks }

-- a routine's row of the symbol table; all routines here give a value
abbrev pub row_of : ℕ → List ℕ → ℕ → ShapeRow
row_of pid name params = record { pid = pid; name = name; shape = shape.Routine params true }

abbrev pub program_of : List ShapeRow → List RoutineParts → IlProgram
program_of rows rs = record { shapes = rows; objects = []; routines = rs }

-- int add1(int a) { return a + 1; }   int main(void) { return add1(4); }
abbrev pub add_one : RoutineParts
add_one =
    routine_of 0 1 true 5 1 [] (
    block_of (Move 1 0 ∷ Const 2 (word 1) ∷ Bin op.AddS 3 1 2 ∷ []) (Return (Some 3))
    ∷ block_of (Const 4 (word 0) ∷ []) (Return (Some 4))
    ∷ []
    )

abbrev pub call_add_one : RoutineParts
call_add_one =
    routine_of 1 0 true 3 1 [] (
    block_of (Const 0 (word 4) ∷ Call (Some 1) 0 1 (0 ∷ []) ∷ []) (Return (Some 1))
    ∷ block_of (Const 2 (word 0) ∷ []) (Return (Some 2))
    ∷ []
    )

abbrev pub adding : IlProgram
adding = program_of (row_of 0 (codes "add1.1") 1 ∷ row_of 1 (codes "main") 0 ∷ []) (add_one ∷ call_add_one ∷ [])

-- int sq(int a) { return a * a; }   int main(void) { return sq(4) + sq(4) + sq(4); }
abbrev pub square : RoutineParts
square =
    routine_of 0 1 true 5 1 [] (
    block_of (Move 1 0 ∷ Move 2 0 ∷ Bin op.MulS 3 1 2 ∷ []) (Return (Some 3))
    ∷ block_of (Const 4 (word 0) ∷ []) (Return (Some 4))
    ∷ []
    )

-- main, with the callee of each of its three sites
abbrev pub sum_of : ℕ → ℕ → ℕ → List Instr
sum_of p q s =
    Const 0 (word 4) ∷ Call (Some 1) p 1 (0 ∷ []) ∷ Const 2 (word 4) ∷ Call (Some 3) q 1 (2 ∷ []) ∷ Bin op.AddS 4 1 3
    ∷ Const 5 (word 4) ∷ Call (Some 6) s 1 (5 ∷ []) ∷ Bin op.AddS 7 4 6 ∷ []

abbrev pub squares_to : ℕ → ℕ → ℕ → RoutineParts
squares_to p q s =
    routine_of 1 0 true 9 1 [] (
    block_of (sum_of p q s) (Return (Some 7))
    ∷ block_of (Const 8 (word 0) ∷ []) (Return (Some 8))
    ∷ []
    )

abbrev pub squares : RoutineParts
squares = squares_to 0 0 0

abbrev pub squaring : IlProgram
squaring = program_of (row_of 0 (codes "sq.1") 1 ∷ row_of 1 (codes "main") 0 ∷ []) (square ∷ squares ∷ [])

-- int f(void) { int x; if (getchar() != EOF) x = x + 1; return x; }
abbrev pub bumped : RoutineParts
bumped =
    routine_of 0 0 true 9 1 [] (
    block_of (GetChar 1 ∷ Const 2 (word 4294967295) ∷ Bin op.Ne 3 1 2 ∷ []) (Branch 3 1 2)
    ∷ block_of (Move 4 0 ∷ Const 5 (word 1) ∷ Bin op.AddS 6 4 5 ∷ Move 0 6 ∷ []) (Jump 2)
    ∷ block_of (Move 7 0 ∷ []) (Return (Some 7))
    ∷ block_of (Const 8 (word 0) ∷ []) (Return (Some 8))
    ∷ []
    )

-- int main(void) { int i; for (i = 0; i < 3; i++) putchar(48 + f()); return 0; }
abbrev pub three_bumped : RoutineParts
three_bumped =
    routine_of 1 0 true 14 1 [] (
    block_of (Const 1 (word 0) ∷ Move 0 1 ∷ []) (Jump 1)
    ∷ block_of (Move 2 0 ∷ Const 3 (word 3) ∷ Bin op.LtS 4 2 3 ∷ []) (Branch 4 2 4)
    ∷ block_of (Const 5 (word 48) ∷ Call (Some 6) 0 1 [] ∷ Bin op.AddS 7 5 6 ∷ PutChar 8 7 ∷ []) (Jump 3)
    ∷ block_of (Move 9 0 ∷ Const 10 (word 1) ∷ Bin op.AddS 11 9 10 ∷ Move 0 11 ∷ []) (Loop 1)
    ∷ block_of (Const 12 (word 0) ∷ []) (Return (Some 12))
    ∷ block_of (Const 13 (word 0) ∷ []) (Return (Some 13))
    ∷ []
    )

abbrev pub bumping : IlProgram
bumping = program_of (row_of 0 (codes "f") 0 ∷ row_of 1 (codes "main") 0 ∷ []) (bumped ∷ three_bumped ∷ [])

-- int f(void) { putchar(65); exit(3); return 66; }   int g(void) { putchar(67); return 1; }
abbrev pub leaves : RoutineParts
leaves =
    routine_of 0 0 true 5 1 [] (
    block_of (Const 0 (word 65) ∷ PutChar 1 0 ∷ Const 2 (word 3) ∷ []) (Exit 2)
    ∷ block_of (Const 3 (word 66) ∷ []) (Return (Some 3))
    ∷ block_of (Const 4 (word 0) ∷ []) (Return (Some 4))
    ∷ []
    )

abbrev pub stays : RoutineParts
stays =
    routine_of 1 0 true 4 1 [] (
    block_of (Const 0 (word 67) ∷ PutChar 1 0 ∷ Const 2 (word 1) ∷ []) (Return (Some 2))
    ∷ block_of (Const 3 (word 0) ∷ []) (Return (Some 3))
    ∷ []
    )

-- int main(void) { return putchar(f()) + g(); }
abbrev pub leaves_then_stays : RoutineParts
leaves_then_stays =
    routine_of 2 0 true 5 1 [] (
    block_of (Call (Some 0) 0 1 [] ∷ PutChar 1 0 ∷ Call (Some 2) 1 1 [] ∷ Bin op.AddS 3 1 2 ∷ []) (Return (Some 3))
    ∷ block_of (Const 4 (word 0) ∷ []) (Return (Some 4))
    ∷ []
    )

abbrev pub leaving : IlProgram
leaving =
    program_of (row_of 0 (codes "f") 0 ∷ row_of 1 (codes "g") 0 ∷ row_of 2 (codes "main") 0 ∷ []) (
    leaves ∷ stays ∷ leaves_then_stays ∷ []
    )
