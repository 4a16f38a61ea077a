-- Blocks left out, with the others renumbered in their order.
use Rattle.std.specs.Prelude.{ℕ, zero, suc, Bool, List, [], ◌∷◌, map, if◌then◌else◌}
use Rattle.il_core.specs.declared.instr.Block.{Block}
use Rattle.il_core.specs.Operands.{retargeted_block}

-- how many marked blocks stand before block t: its number where only marked blocks are kept
abbrev pub place_of : List Bool → ℕ → ℕ
place_of [] t = 0
place_of (m ∷ ms) zero = 0
place_of (m ∷ ms) (suc t) = if m then suc (place_of ms t) else place_of ms t

abbrev pub kept : List Bool → List Block → List Block
kept [] xs = []
kept (m ∷ ms) [] = []
kept (m ∷ ms) (x ∷ xs) = if m then x ∷ kept ms xs else kept ms xs

-- the marked blocks alone
abbrev pub renumbered : List Bool → List Block → List Block
renumbered ms bs = map (retargeted_block (place_of ms)) (kept ms bs)
