-- Splicing at small routines.
use Rattle.std.proofs.Common.{◌≡◌, ℕ, List, [], ◌∷◌, refl, true, false}
use Rattle.std.specs.Prelude.{Option, Some, None, codes}
use Rattle.hlo_num.specs.declared.word.Ty.TheVariants as ty
use Rattle.hlo_num.specs.declared.word.Op.TheVariants as op
use Rattle.il_core.specs.declared.instr.Instr.TheVariants.{Const, Move, Conv, Bin, SetX, GetA, SetA, Clear, Turn, Call, PutChar}
use Rattle.il_core.specs.declared.instr.End.TheVariants.{Jump, Branch, Loop, Return, Exit}
use Rattle.il_core.specs.Routine.{RoutineParts}
use Rattle.il_core.specs.Size.{size}
use Rattle.il_core.specs.World.{Exit as exits}
use Rattle.il_core.specs.Meaning.{Run, il_run}
use Rattle.il_laws.specs.Keeping.{with_routine}
use Rattle.il_laws.specs.Splice.{scale, splice, value_returns}
use Rattle.il_laws.specs.Inline.{inlined}
use Rattle.il_laws.proofs.Rows.{word, block_of, routine_of, bumped, three_bumped, bumping, leaves, stays, leaves_then_stays, leaving}

-- a count in the share of this site: rounded down, none of a callee that is never entered, and at most 2^32 - 1
scale_rounds : scale 7 3 2 ≡ 10
scale_rounds = refl

scale_none : scale 1 1 0 ≡ 0
scale_none = refl

scale_most : scale 4294967295 4294967295 1 ≡ 4294967295
scale_most = refl

scale_exact : scale 6 5 3 ≡ 10
scale_exact = refl

-- main calls the clone of add1 for 4, which has become `r3 = const 5`
abbrev main : RoutineParts
main = routine_of 1 0 true 3 1 [] (block_of (Const 0 (word 4) ∷ Call (Some 1) 2 1 (0 ∷ []) ∷ []) (Return (Some 1)) ∷ [])

abbrev five : RoutineParts
five = routine_of 2 1 true 5 1 [] (block_of (Const 3 (word 5) ∷ []) (Return (Some 3)) ∷ [])

five_spliced : splice main 0 five ≡ routine_of 1 0 true 8 1 [] (
    block_of (Const 0 (word 4) ∷ Turn ∷ Clear 3 5 0 0 ∷ Move 3 0 ∷ []) (Jump 1)
    ∷ block_of (Const 6 (word 5) ∷ Move 1 6 ∷ []) (Jump 2)
    ∷ block_of [] (Return (Some 1))
    ∷ [])
five_spliced = refl

five_size : size (splice main 0 five) ≡ 9
five_size = refl

-- there is no site 1
nothing_spliced : splice main 1 five ≡ main
nothing_spliced = refl

-- a callee with two arrays, a call, and each kind of end
abbrev walk : RoutineParts
walk =
    routine_of 0 2 true 5 4 (2 ∷ 7 ∷ []) (
    block_of (Move 2 0 ∷ SetA 1 2 1 ∷ GetA 3 0 0 ∷ []) (Jump 1)
    ∷ block_of (Call (Some 4) 0 5 (3 ∷ 1 ∷ []) ∷ []) (Branch 4 2 3)
    ∷ block_of (Clear 2 2 0 1 ∷ Turn ∷ []) (Loop 1)
    ∷ block_of (SetX 3 0 4 ∷ PutChar 3 4 ∷ []) (Branch 3 4 5)
    ∷ block_of (Conv 2 ty.Short 4 ∷ []) (Return (Some 2))
    ∷ block_of [] (Exit 3)
    ∷ []
    )

-- a caller with an array, and three sites in three blocks
abbrev caller : RoutineParts
caller =
    routine_of 1 0 true 6 3 (3 ∷ []) (
    block_of (Const 1 (word 1) ∷ Call (Some 2) 0 4 (0 ∷ 1 ∷ []) ∷ []) (Branch 2 1 2)
    ∷ block_of (Call (Some 3) 2 1 [] ∷ []) (Jump 3)
    ∷ block_of (Const 4 (word 9) ∷ Call (Some 5) 0 6 (4 ∷ 2 ∷ []) ∷ SetA 0 0 5 ∷ []) (Loop 0)
    ∷ block_of [] (Return (Some 2))
    ∷ []
    )

-- blocks before the site keep their numbers, those behind move
last_spliced : splice caller 2 walk ≡ routine_of 1 0 true 11 3 (3 ∷ 2 ∷ 7 ∷ []) (
    block_of (Const 1 (word 1) ∷ Call (Some 2) 0 4 (0 ∷ 1 ∷ []) ∷ []) (Branch 2 1 2)
    ∷ block_of (Call (Some 3) 2 1 [] ∷ []) (Jump 10)
    ∷ block_of (Const 4 (word 9) ∷ Turn ∷ Clear 6 5 1 2 ∷ Move 6 4 ∷ Move 7 2 ∷ []) (Jump 3)
    ∷ block_of (Move 8 6 ∷ SetA 2 8 7 ∷ GetA 9 1 6 ∷ []) (Jump 4)
    ∷ block_of (Call (Some 10) 0 7 (9 ∷ 7 ∷ []) ∷ []) (Branch 10 5 6)
    ∷ block_of (Clear 8 2 1 1 ∷ Turn ∷ []) (Loop 4)
    ∷ block_of (SetX 3 6 10 ∷ PutChar 9 10 ∷ []) (Branch 9 7 8)
    ∷ block_of (Conv 8 ty.Short 10 ∷ Move 5 8 ∷ []) (Jump 9)
    ∷ block_of [] (Exit 9)
    ∷ block_of (SetA 0 0 5 ∷ []) (Loop 0)
    ∷ block_of [] (Return (Some 2))
    ∷ [])
last_spliced = refl

first_spliced : splice caller 0 walk ≡ routine_of 1 0 true 11 3 (3 ∷ 2 ∷ 7 ∷ []) (
    block_of (Const 1 (word 1) ∷ Turn ∷ Clear 6 5 1 2 ∷ Move 6 0 ∷ Move 7 1 ∷ []) (Jump 1)
    ∷ block_of (Move 8 6 ∷ SetA 2 8 7 ∷ GetA 9 1 6 ∷ []) (Jump 2)
    ∷ block_of (Call (Some 10) 0 5 (9 ∷ 7 ∷ []) ∷ []) (Branch 10 3 4)
    ∷ block_of (Clear 8 2 1 1 ∷ Turn ∷ []) (Loop 2)
    ∷ block_of (SetX 3 6 10 ∷ PutChar 9 10 ∷ []) (Branch 9 5 6)
    ∷ block_of (Conv 8 ty.Short 10 ∷ Move 2 8 ∷ []) (Jump 7)
    ∷ block_of [] (Exit 9)
    ∷ block_of [] (Branch 2 8 9)
    ∷ block_of (Call (Some 3) 2 1 [] ∷ []) (Jump 10)
    ∷ block_of (Const 4 (word 9) ∷ Call (Some 5) 0 6 (4 ∷ 2 ∷ []) ∷ SetA 0 0 5 ∷ []) (Loop 0)
    ∷ block_of [] (Return (Some 2))
    ∷ [])
first_spliced = refl

-- two more for the turn and the `clear`, the parameters and the returns with a value
size_rises : size (splice caller 0 walk) ≡ 30
size_rises = refl

-- a callee that gives no value hands nothing over
abbrev quiet : RoutineParts
quiet = record walk { value = false; blocks = block_of [] (Branch 0 1 2) ∷ block_of [] (Return None) ∷ block_of [] (Return None) ∷ [] }

quiet_spliced : (splice (record main { blocks = block_of (Call None 0 0 (1 ∷ 0 ∷ []) ∷ []) (Return None) ∷ [] }) 0 quiet).blocks ≡
    block_of (Turn ∷ Clear 3 5 0 2 ∷ Move 3 1 ∷ Move 4 0 ∷ []) (Jump 1)
    ∷ block_of [] (Branch 3 2 3) ∷ block_of [] (Jump 4) ∷ block_of [] (Jump 4)
    ∷ block_of [] (Return None) ∷ []
quiet_spliced = refl

returns_counted : value_returns walk.blocks ≡ 1
returns_counted = refl

-- from the last site to the first
both_spliced : inlined leaves_then_stays (record { site = 1; body = stays } ∷ record { site = 0; body = leaves } ∷ []) ≡
    routine_of 2 0 true 14 1 [] (
    block_of (Turn ∷ Clear 9 5 0 0 ∷ []) (Jump 1)
    ∷ block_of (Const 9 (word 65) ∷ PutChar 10 9 ∷ Const 11 (word 3) ∷ []) (Exit 11)
    ∷ block_of (Const 12 (word 66) ∷ Move 0 12 ∷ []) (Jump 4)
    ∷ block_of (Const 13 (word 0) ∷ Move 0 13 ∷ []) (Jump 4)
    ∷ block_of (PutChar 1 0 ∷ Turn ∷ Clear 5 4 0 0 ∷ []) (Jump 5)
    ∷ block_of (Const 5 (word 67) ∷ PutChar 6 5 ∷ Const 7 (word 1) ∷ Move 2 7 ∷ []) (Jump 7)
    ∷ block_of (Const 8 (word 0) ∷ Move 2 8 ∷ []) (Jump 7)
    ∷ block_of (Bin op.AddS 3 1 2 ∷ []) (Return (Some 3))
    ∷ block_of (Const 4 (word 0) ∷ []) (Return (Some 4))
    ∷ [])
both_spliced = refl

-- The callee's registers are 0 at each call: so is their copy where a loop comes back to it.
abbrev seen : List ℕ → ℕ → Option Run
seen output word = Some (record { output = output; ending = exits word })

bumped_run : il_run bumping (codes "z") 10 ≡ seen (codes "100") 0
bumped_run = refl

bumped_inlined : il_run (with_routine bumping (splice three_bumped 0 bumped)) (codes "z") 10 ≡ seen (codes "100") 0
bumped_inlined = refl

-- a call has its arguments before the next one is made, and an exit in a callee ends the program
leaving_run : il_run leaving [] 10 ≡ seen (codes "A") 3
leaving_run = refl

leaving_inlined : il_run
    (with_routine leaving (inlined leaves_then_stays (record { site = 1; body = stays } ∷ record { site = 0; body = leaves } ∷ []))) [] 10 ≡ seen (codes "A") 3
leaving_inlined = refl
