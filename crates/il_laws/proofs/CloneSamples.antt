-- Clones, calls that go to them, and programs with clones, at small programs.
use Rattle.std.proofs.Common.{◌≡◌, ℕ, [], ◌∷◌, refl, true}
use Rattle.std.specs.Prelude.{Some, codes}
use Rattle.hlo_num.specs.declared.word.Op.TheVariants as op
use Rattle.il_core.specs.declared.instr.Instr.TheVariants.{Const, Move, Bin, Turn}
use Rattle.il_core.specs.declared.instr.End.TheVariants.{Jump, Branch, Loop, Return}
use Rattle.il_core.specs.Routine.{RoutineParts}
use Rattle.il_core.specs.Size.{size}
use Rattle.il_laws.specs.Clone.{Fixed, make_clone}
use Rattle.il_laws.specs.Retarget.{SiteMove, retarget}
use Rattle.il_laws.specs.Growing.{with_clone, with_clones}
use Rattle.il_laws.proofs.Rows.{word, block_of, routine_of, row_of, program_of, square, squares, squares_to, squaring}

abbrev fixed_to : ℕ → ℕ → Fixed
fixed_to param value = record { param = param; word = word value }

-- the square of 4: its constant stands at the start of block 0, to which nothing goes
abbrev square_of_four : RoutineParts
square_of_four =
    routine_of 2 1 true 5 1 [] (
    block_of (Const 0 (word 4) ∷ Move 1 0 ∷ Move 2 0 ∷ Bin op.MulS 3 1 2 ∷ []) (Return (Some 3))
    ∷ block_of (Const 4 (word 0) ∷ []) (Return (Some 4))
    ∷ []
    )

cloned : make_clone square 2 (fixed_to 0 4 ∷ []) ≡ square_of_four
cloned = refl

cloned_size : size (make_clone square 2 (fixed_to 0 4 ∷ [])) ≡ 7
cloned_size = refl

-- a block 0 that a `loop` goes to comes behind a new one
abbrev counted : RoutineParts
counted =
    routine_of 3 2 true 3 1 (8 ∷ []) (
    block_of (Bin op.SubS 0 0 1 ∷ []) (Branch 0 1 2) ∷ block_of (Turn ∷ []) (Loop 0) ∷ block_of [] (Return (Some 2)) ∷ []
    )

cloned_before : make_clone counted 9 (fixed_to 0 7 ∷ fixed_to 1 1 ∷ []) ≡ routine_of 9 2 true 3 1 (8 ∷ []) (
    block_of (Const 0 (word 7) ∷ Const 1 (word 1) ∷ []) (Jump 1)
    ∷ block_of (Bin op.SubS 0 0 1 ∷ []) (Branch 0 2 3)
    ∷ block_of (Turn ∷ []) (Loop 1)
    ∷ block_of [] (Return (Some 2))
    ∷ [])
cloned_before = refl

-- a `loop` to another block leaves block 0 where it is
cloned_inside : (make_clone (record counted { blocks = block_of [] (Jump 1) ∷ block_of [] (Loop 1) ∷ [] }) 9 (fixed_to 0 7 ∷ [])).blocks
    ≡ block_of (Const 0 (word 7) ∷ []) (Jump 1) ∷ block_of [] (Loop 1) ∷ []
cloned_inside = refl

-- each site by its number, through all blocks; the others stay
abbrev to : ℕ → ℕ → SiteMove
to site callee = record { site = site; callee = callee }

all_moved : retarget squares (to 0 2 ∷ to 1 2 ∷ to 2 2 ∷ []) ≡ squares_to 2 2 2
all_moved = refl

last_moved : retarget squares (to 2 3 ∷ to 5 9 ∷ []) ≡ squares_to 0 0 3
last_moved = refl

none_moved : retarget squares [] ≡ squares
none_moved = refl

-- the program with the clone, behind the others
one_added : with_clone squaring (record { callee = 0; fixed = fixed_to 0 4 ∷ []; pid = 2; name = codes "sq.1$1" }) ≡
    program_of (row_of 0 (codes "sq.1") 1 ∷ row_of 1 (codes "main") 0 ∷ row_of 2 (codes "sq.1$1") 1 ∷ [])
    (square ∷ squares ∷ square_of_four ∷ [])
one_added = refl

-- a clone of a clone has the constants of both
two_added : (with_clones squaring
    (record { callee = 0; fixed = fixed_to 0 4 ∷ []; pid = 2; name = codes "sq.1$1" }
    ∷ record { callee = 2; fixed = []; pid = 5; name = codes "sq.1$2" } ∷ [])).routines
    ≡ square ∷ squares ∷ square_of_four ∷ record square_of_four { pid = 5 } ∷ []
two_added = refl

-- nothing is added where no routine has that PID
none_added : with_clone squaring (record { callee = 7; fixed = []; pid = 2; name = codes "x" }) ≡ squaring
none_added = refl
