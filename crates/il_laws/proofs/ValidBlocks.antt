-- A routine with other blocks is valid where each of them is, at its place.
use Rattle.std.proofs.Common.{◌≡◌, ℕ, suc, ◌+◌, ◌<◌, List, [], ◌∷◌, refl, subst, sym, arith, length, slice_get}
use Rattle.std.specs.Prelude.{Some, get_or}
use Rattle.std.proofs.lemmas.Option.{slice_get_within}
use Rattle.il_core.specs.declared.instr.Block.{Block}
use Rattle.il_core.specs.declared.shape.ShapeRow.{ShapeRow}
use Rattle.il_core.specs.declared.program.IlProgram.{IlProgram}
use Rattle.il_core.specs.Routine.{RoutineParts}
use Rattle.il_core.specs.Valid.{IsValid, IsValidEnd, AreValidBlocks}
use Rattle.il_core.specs.World.{World}
use Rattle.il_core.specs.Meaning.{frame_of, lengths}
use Rattle.il_laws.specs.Runs.{run, called}
use Rattle.il_laws.specs.Serving.{Serves}
use Rattle.il_laws.proofs.Lists.{ValidBlock, get_in}
use Rattle.il_laws.proofs.Sound.{none_block}

abbrev pub with_blocks : RoutineParts → List Block → RoutineParts
with_blocks r bs = record r { blocks = bs }

valid_each : (rows : List ShapeRow) (r : RoutineParts) (d : ℕ) (xs : List Block)
    → ((i : ℕ) (y : Block) → slice_get xs i ≡ Some y → ValidBlock rows r (d + i) y) → AreValidBlocks rows r d xs
valid_each rows r d [] h = tt
valid_each rows r d (x ∷ xs) h =
    let here : d + 0 ≡ d = omega arith in
    let first = subst (λ (t : ℕ). ValidBlock rows r t x) here (h 0 x refl) in (
      first.instrs,
      first.end,
      valid_each rows r (d + 1) xs
          (λ i y e. let there : d + suc i ≡ d + 1 + i = omega arith in subst (λ (t : ℕ). ValidBlock rows r t y) there (h (suc i) y e)),
    )

-- a routine with other blocks, each of which is valid at its place
pub valid_with : (rows : List ShapeRow) (r : RoutineParts) (bs : List Block) → IsValid rows r → 0 < length bs
    → ((i : ℕ) (y : Block) → slice_get bs i ≡ Some y → ValidBlock rows (with_blocks r bs) i y) → IsValid rows (with_blocks r bs)
valid_with rows r bs valid some h =
    record {
      params = valid.params;
      blocks = valid_each rows (with_blocks r bs) 0 bs
          (λ i y e. let here : i ≡ 0 + i = omega arith in subst (λ (t : ℕ). ValidBlock rows (with_blocks r bs) t y) here (h i y e));
      some_block =
          some;
    }

-- a block is as valid in a routine with as many blocks
pub same_many : (rows : List ShapeRow) (r : RoutineParts) (bs : List Block) (t : ℕ) (x : Block) → length bs ≡ length r.blocks → ValidBlock rows r t x
    → ValidBlock rows (with_blocks r bs) t x
same_many rows r bs t x size h = record { instrs = h.instrs; end = subst (λ (k : ℕ). IsValidEnd r.regs r.value k t x.end) (sym size) h.end }

-- the block of a list of the same length
pub block_of : (bs cs : List Block) (t : ℕ) (y : Block) → length cs ≡ length bs → slice_get cs t ≡ Some y → (x : Block) × (slice_get bs t ≡ Some x)
block_of bs cs t y size e = let lt = slice_get_within cs t y e in (get_or bs t none_block, get_in bs t none_block (omega arith))

-- other blocks that are valid and do the same serve
pub serves_blocks : (p : IlProgram) (r : RoutineParts) (bs : List Block) → IsValid p.shapes (with_blocks r bs)
    → ((args : List ℕ) (w : World (Unit {0}))
    → run (called p) (lengths p r) r.blocks 0 (frame_of r.params args) w ≡ run (called p) (lengths p r) bs 0 (frame_of r.params args) w)
    → Serves p r (with_blocks r bs)
serves_blocks p r bs valid same = record { pid = refl; params = refl; value = refl; valid = valid; same = same }
