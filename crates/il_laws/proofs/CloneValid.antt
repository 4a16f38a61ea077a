-- A clone of a valid routine is valid, and as large as its callee with the constants.
use Rattle.std.proofs.Common.{◌≡◌, ℕ, zero, suc, ◌+◌, ◌<◌, ◌≤◌, List, [], ◌∷◌, ◌++◌, map, Bool, true, false, refl, ap, subst, sym, ◌∙◌, arith, length}
use Rattle.std.proofs.Common.{slice_get}
use Rattle.std.specs.Prelude.{Some, if◌then◌else◌}
use Rattle.std.specs.List.{AllByRecursion}
use Rattle.std.proofs.lemmas.List.{length-map, length-append}
use Rattle.std.proofs.lemmas.List.Sums.{sum_by-cons}
use Rattle.std.proofs.lemmas.Option.{none-some, same_Some, slice_get-map}
use Rattle.il_core.specs.declared.instr.Block.{Block}
use Rattle.il_core.specs.declared.instr.End.{End}
use Rattle.il_core.specs.declared.instr.End.TheVariants as ends
use Rattle.il_core.specs.declared.shape.ShapeRow.{ShapeRow}
use Rattle.il_core.specs.Routine.{RoutineParts}
use Rattle.il_core.specs.Size.{block_size, blocks_size, size}
use Rattle.il_core.specs.Valid.{IsValid, IsValidInstr, IsValidEnd, AreValidBlocks}
use Rattle.il_core.specs.Operands.{retargeted, retargeted_block}
use Rattle.il_laws.specs.Clone.{Fixed, constants, clone_blocks, make_clone}
use Rattle.il_laws.specs.CloneLaws.{AreOfParams}
use Rattle.il_laws.specs.Facts.{looped}
use Rattle.il_laws.proofs.Lists.{ValidBlock, valid_block}
use Rattle.il_laws.proofs.SpliceBlocks.{all_append}
use Rattle.il_laws.proofs.SpliceSites.{mapped}
use Rattle.il_laws.proofs.ValidBlocks.{with_blocks, valid_with}

-- validity doesn't look at the PID
repid_blocks : (rows : List ShapeRow) (r : RoutineParts) (pid b : ℕ) (xs : List Block) → AreValidBlocks rows r b xs
    → AreValidBlocks rows (record r { pid = pid }) b xs
repid_blocks rows r pid b [] h = tt
repid_blocks rows r pid b (x ∷ xs) h = (h.0, h.1, repid_blocks rows r pid (b + 1) xs h.2)

repid_valid : (rows : List ShapeRow) (r : RoutineParts) (pid : ℕ) → IsValid rows r → IsValid rows (record r { pid = pid })
repid_valid rows r pid h = record { params = h.params; blocks = repid_blocks rows r pid 0 r.blocks h.blocks; some_block = h.some_block }

constants_valid : (rows : List ShapeRow) (regs arrays params : ℕ) (fixed : List Fixed) → params ≤ regs
    → AllByRecursion (λ x. x.param < params) fixed → AllByRecursion (IsValidInstr rows regs arrays) (constants fixed)
constants_valid rows regs arrays params [] le h = tt
constants_valid rows regs arrays params (x ∷ xs) le h = let less = h.0 in (omega arith, constants_valid rows regs arrays params xs le h.1)

-- an end one block further on
end_after : (regs : ℕ) (value : Bool) (blocks b : ℕ) (e : End) → IsValidEnd regs value blocks b e
    → IsValidEnd regs value (suc blocks) (suc b) (retargeted suc e)
end_after regs value blocks b (ends.Jump t) h = let (x, y) = h in (omega arith, omega arith)
end_after regs value blocks b (ends.Branch r t u) h =
    let x = h.1.0 in let y = h.1.1 in let z = h.2.0 in let v = h.2.1 in
    (h.0, (omega arith, omega arith), (omega arith, omega arith))
end_after regs value blocks b (ends.Loop t) h = omega arith
end_after regs value blocks b (ends.Return r) h = h
end_after regs value blocks b (ends.Exit r) h = h

module _ (rows : List ShapeRow) (r : RoutineParts) (fixed : List Fixed) (ok : IsValid rows r) (params : AreOfParams r fixed) where
  constants_ok : AllByRecursion (IsValidInstr rows r.regs (length r.arrays)) (constants fixed)
  constants_ok = constants_valid rows r.regs (length r.arrays) r.params fixed ok.params params

  -- each block of the clone of blocks that are valid in the routine
  clone_block : (bs : List Block) (k : Bool) → length bs ≡ length r.blocks
      → ((i : ℕ) (x : Block) → slice_get bs i ≡ Some x → ValidBlock rows r i x)
      → (i : ℕ) (y : Block) → slice_get (clone_blocks k fixed bs) i ≡ Some y → ValidBlock rows (with_blocks r (clone_blocks k fixed bs)) i y
  clone_block [] k size h i y e = absurd (none-some y e)
  clone_block (x ∷ xs) true size h zero y e =
      let first : Block = record { instrs = constants fixed; end = ends.Jump 1 } in
      let many = length-map xs (retargeted_block suc) in
      subst (ValidBlock rows (with_blocks r (clone_blocks true fixed (x ∷ xs))) 0) (same_Some first y e)
      (record { instrs = constants_ok; end = (omega arith, omega arith) })
  clone_block (x ∷ xs) true size h (suc i) y e =
      let is = sym (slice_get-map (retargeted_block suc) (x ∷ xs) i) ∙ e in
      let m = mapped (retargeted_block suc) (slice_get (x ∷ xs) i) y is in
      let was = h i m.0 m.1 in
      let many : suc (length r.blocks) ≡ length (clone_blocks true fixed (x ∷ xs)) =
      (let l = length-map xs (retargeted_block suc) in omega arith) in
      subst (ValidBlock rows (with_blocks r (clone_blocks true fixed (x ∷ xs))) (suc i)) m.2
      (record {
        instrs = was.instrs;
        end = subst (λ (n : ℕ). IsValidEnd r.regs r.value n (suc i) (retargeted suc m.0.end)) many
            (end_after r.regs r.value (length r.blocks) i m.0.end was.end);
      })
  clone_block (x ∷ xs) false size h zero y e =
      let first : Block = record { instrs = constants fixed ++ x.instrs; end = x.end } in
      let was = h 0 x refl in
      subst (ValidBlock rows (with_blocks r (clone_blocks false fixed (x ∷ xs))) 0) (same_Some first y e)
      (record {
        instrs = all_append (IsValidInstr rows r.regs (length r.arrays)) (constants fixed) x.instrs constants_ok was.instrs;
        end = subst (λ (n : ℕ). IsValidEnd r.regs r.value n 0 x.end) (sym size) was.end;
      })
  clone_block (x ∷ xs) false size h (suc i) y e =
      let was = h (suc i) y e in
      record { instrs = was.instrs; end = subst (λ (n : ℕ). IsValidEnd r.regs r.value n (suc i) y.end) (sym size) was.end }

  clone_some : (bs : List Block) (k : Bool) → 0 < length bs → 0 < length (clone_blocks k fixed bs)
  clone_some [] k lt = absurd (omega arith)
  clone_some (x ∷ xs) true lt = omega arith
  clone_some (x ∷ xs) false lt = omega arith

  clone_ok : IsValid rows (with_blocks r (clone_blocks (looped r.blocks 0) fixed r.blocks))
  clone_ok =
      let k = looped r.blocks 0 in
      valid_with rows r (clone_blocks k fixed r.blocks) ok (clone_some r.blocks k ok.some_block)
      (clone_block r.blocks k refl (λ i x e. valid_block rows r ok i x e))

pub clone_valid : (rows : List ShapeRow) (r : RoutineParts) (pid : ℕ) (fixed : List Fixed) → IsValid rows r → AreOfParams r fixed
    → IsValid rows (make_clone r pid fixed)
clone_valid rows r pid fixed ok params =
    repid_valid rows (with_blocks r (clone_blocks (looped r.blocks 0) fixed r.blocks)) pid (clone_ok rows r fixed ok params)

-- sizes
constants_size : (fixed : List Fixed) → length (constants fixed) ≡ length fixed
constants_size [] = refl
constants_size (x ∷ xs) = ap suc (constants_size xs)

moved_size : (to : ℕ → ℕ) (xs : List Block) → blocks_size (map (retargeted_block to) xs) ≡ blocks_size xs
moved_size to [] = refl
moved_size to (x ∷ xs) =
    sum_by-cons block_size (retargeted_block to x) (map (retargeted_block to) xs)
    ∙ ap (λ (k : ℕ). block_size x + k) (moved_size to xs) ∙ sym (sum_by-cons block_size x xs)

blocks_cloned : (fixed : List Fixed) (bs : List Block) (k : Bool) → 0 < length bs
    → blocks_size (clone_blocks k fixed bs) ≡ blocks_size bs + length fixed + (if k then 1 else 0)
blocks_cloned fixed [] k lt = absurd (omega arith)
blocks_cloned fixed (x ∷ xs) true lt =
    let first : Block = record { instrs = constants fixed; end = ends.Jump 1 } in
    let n1 = sum_by-cons block_size first (map (retargeted_block suc) (x ∷ xs)) in
    let n2 = moved_size suc (x ∷ xs) in
    let n3 = constants_size fixed in
    omega arith
blocks_cloned fixed (x ∷ xs) false lt =
    let first : Block = record { instrs = constants fixed ++ x.instrs; end = x.end } in
    let n1 = sum_by-cons block_size first xs in
    let n2 = sum_by-cons block_size x xs in
    let n3 = constants_size fixed in
    let n4 = length-append (constants fixed) x.instrs in
    omega arith

pub clone_size : (r : RoutineParts) (pid : ℕ) (fixed : List Fixed) → 0 < length r.blocks
    → size (make_clone r pid fixed) ≡ size r + length fixed + (if looped r.blocks 0 then 1 else 0)
clone_size r pid fixed some = blocks_cloned fixed r.blocks (looped r.blocks 0) some
