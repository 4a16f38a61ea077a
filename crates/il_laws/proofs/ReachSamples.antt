-- Which routines are reached, at small programs.
use Rattle.std.proofs.Common.{◌≡◌, ℕ, List, [], ◌∷◌, refl, true, false}
use Rattle.std.specs.Prelude.{codes}
use Rattle.il_laws.specs.Reach.{Caller, reached, pruned}
use Rattle.il_laws.specs.Sites.{callees}
use Rattle.il_laws.proofs.Rows.{row_of, program_of, square, squares_to, squaring}

abbrev calling : ℕ → List ℕ → Caller
calling pid callees = record { pid = pid; callees = callees }

calls_in_order : callees (squares_to 3 5 3).blocks ≡ 3 ∷ 5 ∷ 3 ∷ []
calls_in_order = refl

-- a chain is followed against the order of the routines, and a cycle that nothing enters stays out
chain_reached : reached (calling 1 [] ∷ calling 2 (1 ∷ []) ∷ calling 4 (2 ∷ 2 ∷ []) ∷ calling 6 (8 ∷ []) ∷ calling 8 (6 ∷ 1 ∷ []) ∷ []) 4
    ≡ true ∷ true ∷ true ∷ false ∷ false ∷ []
chain_reached = refl

-- from a routine of a cycle
cycle_reached : reached (calling 1 [] ∷ calling 2 (1 ∷ []) ∷ calling 4 (2 ∷ 2 ∷ []) ∷ calling 6 (8 ∷ []) ∷ calling 8 (6 ∷ 1 ∷ []) ∷ []) 6
    ≡ true ∷ false ∷ false ∷ true ∷ true ∷ []
cycle_reached = refl

-- main calls the clone alone, and the routine that it came from goes
nothing_dead : pruned squaring ≡ squaring
nothing_dead = refl

square_dead : pruned (program_of (row_of 0 (codes "sq.1") 1 ∷ row_of 1 (codes "main") 0 ∷ row_of 2 (codes "sq.1$1") 1 ∷ [])
    (square ∷ squares_to 2 2 2 ∷ record square { pid = 2 } ∷ []))
    ≡ program_of (row_of 1 (codes "main") 0 ∷ row_of 2 (codes "sq.1$1") 1 ∷ []) (squares_to 2 2 2 ∷ record square { pid = 2 } ∷ [])
square_dead = refl
