-- Whole plans of small programs.
use Rattle.std.proofs.Common.{◌≡◌, ℕ, List, [], ◌∷◌, map, refl, true}
use Rattle.std.specs.Prelude.{codes, decimal, Some, ◌++◌}
use Rattle.hlo_num.specs.declared.word.Op.TheVariants as op
use Rattle.il_core.specs.declared.instr.Instr.TheVariants.{Const, Move, Bin, Turn, Call}
use Rattle.il_core.specs.declared.instr.End.TheVariants.{Branch, Return}
use Rattle.il_core.specs.declared.program.IlProgram.{IlProgram}
use Rattle.il_core.specs.declared.shape.ShapeRow.{ShapeRow}
use Rattle.il_core.specs.Routine.{RoutineParts}
use Rattle.il_core.specs.Size.{size, cost}
use Rattle.il_laws.proofs.Rows.{word, block_of, routine_of, row_of, program_of, adding, squaring}
use Rattle.plan_laws.specs.Plan.{limit_of, plan, final, greatest_charge}

abbrev names_of : IlProgram → List (List ℕ)
names_of p = map (λ row. row.name) p.shapes

abbrev sizes_of : IlProgram → List ℕ
sizes_of p = map (λ r. size r) p.routines

-- a clone is made, becomes a constant, is inlined, and goes
adding_cost : cost adding.routines ≡ 61
adding_cost = refl

adding_limit : limit_of 61 1000 1 1 ≡ 671
adding_limit = refl

adding_final : final adding 1000 1 ≡ program_of (row_of 1 (codes "main") 0 ∷ []) (
    routine_of 1 0 true 8 1 [] (block_of (Turn ∷ Const 1 (word 5) ∷ []) (Return (Some 1)) ∷ []) ∷ []
    )
adding_final = refl

adding_names : map names_of (plan adding 1000 1)
    ≡ (codes "add1.1" ∷ codes "main" ∷ [])
    ∷ (codes "add1.1" ∷ codes "main" ∷ (codes "add1.1$" ++ decimal 1) ∷ [])
    ∷ (codes "add1.1" ∷ codes "main" ∷ (codes "add1.1$" ++ decimal 1) ∷ [])
    ∷ (codes "add1.1" ∷ codes "main" ∷ (codes "add1.1$" ++ decimal 1) ∷ [])
    ∷ (codes "add1.1" ∷ codes "main" ∷ (codes "add1.1$" ++ decimal 1) ∷ [])
    ∷ (codes "add1.1" ∷ codes "main" ∷ (codes "add1.1$" ++ decimal 1) ∷ [])
    ∷ (codes "main" ∷ []) ∷ []
adding_names = refl

adding_sizes : map sizes_of (plan adding 1000 1)
    ≡ (6 ∷ 5 ∷ []) ∷ (6 ∷ 5 ∷ 7 ∷ []) ∷ (6 ∷ 5 ∷ 7 ∷ []) ∷ (4 ∷ 3 ∷ 2 ∷ []) ∷ (4 ∷ 9 ∷ 2 ∷ []) ∷ (4 ∷ 3 ∷ 2 ∷ []) ∷ (3 ∷ []) ∷ []
adding_sizes = refl

-- with budget 0 nothing is cloned or inlined
adding_nothing : (final adding 0 1).routines
    ≡ routine_of 0 1 true 5 1 [] (block_of (Move 1 0 ∷ Const 2 (word 1) ∷ Bin op.AddS 3 1 2 ∷ []) (Return (Some 3)) ∷ [])
    ∷ routine_of 1 0 true 3 1 [] (block_of (Const 0 (word 4) ∷ Call (Some 1) 0 1 (0 ∷ []) ∷ []) (Return (Some 1)) ∷ []) ∷ []
adding_nothing = refl

-- three calls share a clone; to inline them would cost too much
abbrev calls_clone : RoutineParts
calls_clone =
    routine_of 1 0 true 9 1 [] (
    block_of (
    Const 0 (word 4) ∷ Call (Some 1) 2 1 (0 ∷ []) ∷ Const 2 (word 4) ∷ Call (Some 3) 2 1 (2 ∷ []) ∷ Bin op.AddS 4 1 3
    ∷ Const 5 (word 4) ∷ Call (Some 6) 2 1 (5 ∷ []) ∷ Bin op.AddS 7 4 6 ∷ []
    ) (Return (Some 7)) ∷ []
    )

abbrev sixteen : ℕ → RoutineParts
sixteen pid = routine_of pid 1 true 5 1 [] (block_of (Const 3 (word 16) ∷ []) (Return (Some 3)) ∷ [])

squaring_cost : cost squaring.routines ≡ 157
squaring_cost = refl

squaring_limit : limit_of 157 32 1 1 ≡ 207
squaring_limit = refl

squaring_final : (final squaring 32 1).routines ≡ calls_clone ∷ sixteen 2 ∷ []
squaring_final = refl

squaring_names : names_of (final squaring 32 1) ≡ codes "main" ∷ (codes "sq.1$" ++ decimal 1) ∷ []
squaring_names = refl

squaring_twice : (final squaring 32 2).routines ≡ calls_clone ∷ sixteen 2 ∷ []
squaring_twice = refl

-- the budget is spent in equal parts, rounded down
second_limit : limit_of 83 150 2 1 ≡ 145
second_limit = refl

third_limit : limit_of 77 40 3 2 ≡ 97
third_limit = refl

-- Three routines that call one another and `main`, some of them never: over two passes a site is refused for each cause,
-- and a clone is made of what becomes dead.
abbrev rows_of_three : ℕ → List ShapeRow
rows_of_three params = row_of 0 (codes "f.1") 1 ∷ row_of 1 (codes "g.1") params ∷ row_of 2 (codes "main") 0 ∷ []

abbrev calls_itself : RoutineParts
calls_itself =
    routine_of 0 1 true 3 2 [] (block_of (Call (Some 1) 0 1 (0 ∷ []) ∷ Bin op.SubS 2 0 1 ∷ []) (Return (Some 2)) ∷ [])

abbrev calls_main : RoutineParts
calls_main =
    routine_of 1 2 true 6 2 [] (
    block_of [] (Branch 0 1 2)
    ∷ block_of (Const 2 (word 3) ∷ Call (Some 3) 0 3 (2 ∷ []) ∷ Call (Some 4) 2 3 [] ∷ Bin op.AddS 5 0 4 ∷ []) (Return (Some 5))
    ∷ block_of [] (Return (Some 0))
    ∷ []
    )

abbrev main_to : ℕ → RoutineParts
main_to f =
    routine_of 2 0 true 4 1 [] (
    block_of (Const 0 (word 4) ∷ Call (Some 1) f 2 (0 ∷ []) ∷ Call (Some 2) 0 0 (1 ∷ []) ∷ Bin op.AddS 3 1 2 ∷ []) (Return (Some 3)) ∷ []
    )

abbrev three : IlProgram
three = program_of (rows_of_three 2) (calls_itself ∷ calls_main ∷ main_to 0 ∷ [])

abbrev clone_of_clone : RoutineParts
clone_of_clone =
    routine_of 5 1 true 6 2 [] (
    block_of (
    Const 0 (word 4) ∷ Turn ∷ Const 3 (word 4) ∷ Call (Some 4) 0 0 (3 ∷ []) ∷ Bin op.SubS 5 3 4 ∷ Move 1 5 ∷ Bin op.SubS 2 0 1 ∷ []
    ) (Return (Some 2)) ∷ []
    )

three_final : (final three 150 2).routines ≡ calls_itself ∷ main_to 5 ∷ clone_of_clone ∷ []
three_final = refl

three_names : names_of (final three 150 2) ≡ codes "f.1" ∷ codes "main" ∷ (codes "f.1$" ++ decimal 3) ∷ []
three_names = refl

three_sizes : map sizes_of (plan three 150 2)
    ≡ (3 ∷ 7 ∷ 5 ∷ [])
    ∷ (3 ∷ 7 ∷ 5 ∷ 4 ∷ 4 ∷ []) ∷ (3 ∷ 7 ∷ 5 ∷ 4 ∷ 4 ∷ []) ∷ (3 ∷ 7 ∷ 5 ∷ 4 ∷ 4 ∷ [])
    ∷ (3 ∷ 7 ∷ 5 ∷ 4 ∷ 4 ∷ []) ∷ (3 ∷ 7 ∷ 5 ∷ 4 ∷ 4 ∷ []) ∷ (3 ∷ 5 ∷ 4 ∷ [])
    ∷ (3 ∷ 5 ∷ 4 ∷ 5 ∷ []) ∷ (3 ∷ 5 ∷ 4 ∷ 5 ∷ []) ∷ (3 ∷ 5 ∷ 4 ∷ 4 ∷ [])
    ∷ (3 ∷ 5 ∷ 4 ∷ 11 ∷ []) ∷ (3 ∷ 5 ∷ 4 ∷ 8 ∷ []) ∷ (3 ∷ 5 ∷ 8 ∷ []) ∷ []
three_sizes = refl

three_charge : greatest_charge three 150 2 ≡ 472
three_charge = refl

-- In the third pass a clone's own call finds that clone in the table.
abbrev calls_back : RoutineParts
calls_back =
    routine_of 0 1 true 4 1 [] (
    block_of (Call (Some 1) 0 1 (0 ∷ []) ∷ Call (Some 2) 2 3 [] ∷ Bin op.AddS 3 0 2 ∷ []) (Return (Some 3)) ∷ []
    )

abbrev passes_four : RoutineParts
passes_four =
    routine_of 1 2 true 6 1 [] (
    block_of (Const 2 (word 4) ∷ Const 3 (word 4) ∷ Call (Some 4) 1 0 (2 ∷ 3 ∷ []) ∷ Bin op.SubS 5 0 4 ∷ []) (Return (Some 5)) ∷ []
    )

abbrev fours_to : ℕ → RoutineParts
fours_to f =
    routine_of 2 0 true 5 3 [] (
    block_of (Const 0 (word 4) ∷ Call (Some 1) f 2 (0 ∷ []) ∷ Const 2 (word 4) ∷ Call (Some 3) f 2 (2 ∷ []) ∷ Bin op.MulS 4 1 3 ∷ [])
    (Return (Some 4)) ∷ []
    )

abbrev back : IlProgram
back = program_of (rows_of_three 2) (calls_back ∷ passes_four ∷ fours_to 0 ∷ [])

abbrev calls_itself_there : RoutineParts
calls_itself_there =
    routine_of 3 1 true 4 1 [] (
    block_of (Const 0 (word 4) ∷ Call (Some 1) 3 1 (0 ∷ []) ∷ Call (Some 2) 2 3 [] ∷ Bin op.AddS 3 0 2 ∷ []) (Return (Some 3)) ∷ []
    )

back_final : (final back 40 3).routines ≡ fours_to 3 ∷ calls_itself_there ∷ []
back_final = refl

back_names : names_of (final back 40 3) ≡ codes "main" ∷ (codes "f.1$" ++ decimal 1) ∷ []
back_names = refl

back_cost : cost (final back 40 3).routines ≡ 61
back_cost = refl
