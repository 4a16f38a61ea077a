-- Which blocks are reachable from the first.
use Rattle.std.specs.Prelude.{ℕ, zero, suc, ◌&&◌, ◌||◌, Bool, true, false, List, [], ◌∷◌, length, map, nat_eq}
use Rattle.std.specs.List.{list_any}
use Rattle.il_core.specs.declared.instr.Block.{Block}
use Rattle.il_core.specs.Routine.{RoutineParts}
use Rattle.il_core.specs.Operands.{targets}
use Rattle.il_laws.specs.Renumber.{renumbered}

-- whether some marked block goes to block t
abbrev pub goes_to : List Bool → List Block → ℕ → Bool
goes_to [] xs t = false
goes_to (m ∷ ms) [] t = false
goes_to (m ∷ ms) (x ∷ xs) t = (m && list_any (nat_eq t) (targets x.end)) || goes_to ms xs t

-- marks from block b on, with those that a marked block goes to
abbrev pub grown_from : (ℕ → Bool) → ℕ → List Bool → List Bool
grown_from gone b [] = []
grown_from gone b (m ∷ ms) = (m || gone b) ∷ grown_from gone (suc b) ms

abbrev pub grown : List Block → List Bool → List Bool
grown bs ms = grown_from (goes_to ms bs) 0 ms

abbrev pub rounds : List Block → ℕ → List Bool → List Bool
rounds bs zero ms = ms
rounds bs (suc n) ms = rounds bs n (grown bs ms)

abbrev pub first_marked : List Block → List Bool
first_marked [] = []
first_marked (x ∷ xs) = true ∷ map (λ (y : Block). false) xs

-- what is reached from block 0 by as many edges as there are blocks
abbrev pub reachable : List Block → List Bool
reachable bs = rounds bs (length bs) (first_marked bs)

abbrev pub drop_unreachable : RoutineParts → RoutineParts
drop_unreachable r = record r { blocks = renumbered (reachable r.blocks) r.blocks }
