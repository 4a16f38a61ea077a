-- The definitions at small programs.
use Rattle.std.proofs.Common.{◌≡◌, ℕ, List, [], ◌∷◌, ◌++◌, refl, true}
use Rattle.std.specs.Prelude.{codes, Option, Some, flat_map}
use Rattle.hlo_num.specs.declared.word.Word.{Word}
use Rattle.hlo_num.specs.declared.word.Op.TheVariants as op
use Rattle.hlo_num.specs.declared.word.Ty.TheVariants.{Char}
use Rattle.hlo_num.specs.declared.word.Trap.TheVariants.{Divide, Index}
use Rattle.il_core.specs.declared.instr.Block.{Block}
use Rattle.il_core.specs.declared.instr.Instr.{Instr}
use Rattle.il_core.specs.declared.instr.Instr.TheVariants.{Const, Conv, Bin, GetX, SetX, GetA, SetA, Clear, Turn, Call, GetChar, PutChar}
use Rattle.il_core.specs.declared.instr.End.{End}
use Rattle.il_core.specs.declared.instr.End.TheVariants.{Branch, Loop, Return, Exit}
use Rattle.il_core.specs.declared.shape.ShapeRow.{ShapeRow}
use Rattle.il_core.specs.declared.shape.Shape.TheVariants as shape
use Rattle.il_core.specs.declared.program.IlProgram.{IlProgram}
use Rattle.il_core.specs.Routine.{RoutineParts}
use Rattle.il_core.specs.Size.{charge, cost}
use Rattle.il_core.specs.declared.shape.Shape.{Shape}
use Rattle.il_core.specs.World.{Ending, Exit as exits, Trapped, OutOfTurns}
use Rattle.il_core.specs.Meaning.{Run, il_run, calls_made}
use Rattle.std.specs.Fmt.{digits}
use Rattle.il_core.specs.Text.{text}

abbrev word : ℕ → Word
word n = record { 0 = n }

abbrev block_of : List Instr → End → Block
block_of is e = record { instrs = is; end = e }

abbrev row_of : ℕ → List ℕ → Shape → ShapeRow
row_of pid name shape = record { pid = pid; name = name; shape = shape }

abbrev main_of : ℕ → List ℕ → List Block → RoutineParts
main_of regs arrays blocks = record { pid = 0; params = 0; value = true; regs = regs; entry = 1; arrays = arrays; blocks = blocks }

abbrev alone : RoutineParts → IlProgram
alone r = record { shapes = row_of 0 (codes "main") (shape.Routine 0 true) ∷ []; objects = []; routines = r ∷ [] }

abbrev seen : List ℕ → Ending → Option Run
seen output ending = Some (record { output = output; ending = ending })

-- a loop without an end puts out an A for each turn and one more, and then is out of turns
abbrev letters : IlProgram
letters = alone (main_of 2 [] (block_of (Const 0 (word 65) ∷ PutChar 1 0 ∷ []) (Loop 0) ∷ []))

letters_run : il_run letters [] 2 ≡ seen (65 ∷ 65 ∷ 65 ∷ []) OutOfTurns
letters_run = refl

-- 7 by the next byte of the input: a quotient, or a trap
abbrev quotient : IlProgram
quotient = alone (main_of 3 [] (block_of (Const 0 (word 7) ∷ GetChar 1 ∷ Bin op.DivS 2 0 1 ∷ []) (Return (Some 2)) ∷ []))

quotient_run : il_run quotient (2 ∷ []) 0 ≡ seen [] (exits 3)
quotient_run = refl

quotient_traps : il_run quotient (0 ∷ []) 0 ≡ seen [] (Trapped Divide)
quotient_traps = refl

-- `getchar` at the end of the input gives -1
at_the_end : il_run quotient [] 0 ≡ seen [] (exits 4294967289)
at_the_end = refl

-- routine 2 adds 1 to an element of its array, to a register and to an object, and gives their sum. At its second
-- call array and register are 0 again, and the object is not.
abbrev counter : RoutineParts
counter = record {
  pid = 2;
  params = 0;
  value = true;
  regs = 5;
  entry = 1;
  arrays = 3 ∷ [];
  blocks = block_of
      (Const 0 (word 1) ∷ GetA 1 0 0 ∷ Bin op.AddS 1 1 0 ∷ SetA 0 0 1 ∷ Bin op.AddS 2 2 0 ∷ GetX 3 1 0 ∷ Bin op.AddS 3 3 0 ∷ SetX 1 0 3 ∷ Bin op.AddS 4 1 2 ∷
      Bin
      op.AddS 4 4 3 ∷ []) (Return (Some 4)) ∷ [];
}

abbrev twice : IlProgram
twice = record {
  shapes = row_of 0 (codes "main") (shape.Routine 0 true) ∷ row_of 1 (codes "g") (shape.Object 2) ∷ row_of 2 (codes "f.1") (shape.Routine 0 true)
      ∷ [];
  objects = record { pid = 1; words = 2; init = word 0 ∷ word 5 ∷ [] } ∷ [];
  routines = main_of 2 []
      (block_of (Call (Some 0) 2 1 [] ∷ Call (Some 1) 2 1 [] ∷ []) (Exit 1) ∷ []) ∷ counter ∷ [];
}

-- 1 + 1 + 6, and then 1 + 1 + 7
twice_run : il_run twice [] 2 ≡ seen [] (exits 9)
twice_run = refl

-- each call costs a turn, and one for which none is left isn't made
twice_stops : il_run twice [] 1 ≡ seen [] OutOfTurns
twice_stops = refl

calls_stop : calls_made twice [] 1 ≡ record { caller = 0; site = 0; callee = 2 } ∷ []
calls_stop = refl

calls_are_two : calls_made twice [] 2 ≡ record { caller = 0; site = 1; callee = 2 } ∷ record { caller = 0; site = 0; callee = 2 } ∷ []
calls_are_two = refl

-- `clear r1 2 a0 1` makes r1 and r2 0, and not r3
abbrev clears : IlProgram
clears = alone (main_of 5 (2 ∷ []) (block_of (Const 1 (word 1) ∷ Const 2 (word 2) ∷ Const 3 (word 3) ∷ SetA 0 1 3 ∷ Clear 1 2 0 1 ∷ GetA 4 0 0 ∷ Bin op.AddS 4 4
    1 ∷ Bin op.AddS 4 4 2 ∷ Bin op.AddS 4 4 3 ∷ []) (Return (Some 4)) ∷ []))

clears_run : il_run clears [] 0 ≡ seen [] (exits 3)
clears_run = refl

-- an index that is the length is outside
outside : IlProgram
outside = alone (main_of 2 (2 ∷ []) (block_of (Const 0 (word 2) ∷ GetA 1 0 0 ∷ []) (Return (Some 1)) ∷ []))

outside_traps : il_run outside [] 0 ≡ seen [] (Trapped Index)
unfolding outside
outside_traps = refl

-- putchar puts out and gives the low 8 bits; the second block of a branch is for 0
abbrev branches : IlProgram
branches = alone (main_of 3 [] (block_of (Const 0 (word 256) ∷ PutChar 1 0 ∷ []) (Branch 1 1 2) ∷ block_of [] (Exit 0) ∷ block_of (Conv 2 Char 0 ∷ [])
    (Return (Some 2)) ∷ []))

branches_run : il_run branches [] 0 ≡ seen (0 ∷ []) (exits 0)
branches_run = refl

-- `turn` costs a turn and does nothing else
turns : il_run (alone (main_of 1 [] (block_of (Turn ∷ []) (Return (Some 0)) ∷ []))) [] 0 ≡ seen [] OutOfTurns
turns = refl

-- sizes: 3 instructions and an end; 10 and 1
twice_cost : cost twice.routines ≡ 130
twice_cost = refl

-- 64 + 16 * 1 + 32 * 11 + 8 * 0 + 8 * 1
counter_charge : charge counter ≡ 440
counter_charge = refl

-- the lines of a text, each ended by LF
abbrev lines_of : List (List ℕ) → List ℕ
lines_of ls = flat_map (λ l. l ++ 10 ∷ []) ls

twice_text : text twice ≡ lines_of (
    codes "hlo-il 1" ∷ codes "object 1 g 2 = 0 5" ∷ codes "routine 0 main params 0 value regs 2 entry 1" ∷ codes "b0:"
    ∷ codes "  r0 = call 2 count 1" ∷ codes "  r1 = call 2 count 1" ∷ codes "  exit r1" ∷ codes "end"
    ∷ codes "routine 2 f.1 params 0 value regs 5 entry 1 arrays 3" ∷ codes "b0:" ∷ codes "  r0 = const 1" ∷ codes "  r1 = geta a0 r0"
    ∷ codes "  r1 = adds r1 r0" ∷ codes "  seta a0 r0 r1" ∷ codes "  r2 = adds r2 r0" ∷ codes "  r3 = getx g1 r0" ∷ codes "  r3 = adds r3 r0"
    ∷ codes "  setx g1 r0 r3" ∷ codes "  r4 = adds r1 r2" ∷ codes "  r4 = adds r4 r3" ∷ codes "  return r4" ∷ codes "end" ∷ codes "done" ∷ [])
unfolding digits
twice_text = refl

branches_text : text branches ≡ lines_of (
    codes "hlo-il 1" ∷ codes "routine 0 main params 0 value regs 3 entry 1" ∷ codes "b0:" ∷ codes "  r0 = const 256" ∷ codes "  r1 = putchar r0"
    ∷ codes "  branch r1 b1 b2" ∷ codes "b1:" ∷ codes "  exit r0" ∷ codes "b2:" ∷ codes "  r2 = conv char r0" ∷ codes "  return r2" ∷ codes "end" ∷ codes "done"
    ∷ [])
unfolding digits
branches_text = refl
