-- What a valid routine within the limits names.
use Rattle.std.proofs.Common.{◌≡◌, ℕ, ◌+◌, ◌<◌, ◌≤◌, List, [], ◌∷◌, arith, length}
use Rattle.std.specs.Prelude.{Option, Some, None}
use Rattle.std.specs.List.{AllByRecursion}
use Rattle.std.proofs.lemmas.List.Sums.{sum_by-cons}
use Rattle.il_core.specs.declared.instr.Block.{Block}
use Rattle.il_core.specs.declared.instr.End.{End}
use Rattle.il_core.specs.declared.instr.End.TheVariants as ends
use Rattle.il_core.specs.declared.instr.Instr.{Instr}
use Rattle.il_core.specs.declared.instr.Instr.TheVariants.{Const, Move, Conv, Bin, Get, Set, GetX, SetX, GetA, SetA, Clear, Turn, Call, GetChar, PutChar}
use Rattle.il_core.specs.declared.shape.ShapeRow.{ShapeRow}
use Rattle.il_core.specs.Limits.{IsWithinLimits, max_arrays, max_registers}
use Rattle.il_core.specs.Routine.{RoutineParts}
use Rattle.il_core.specs.Size.{block_size, blocks_size}
use Rattle.il_core.specs.Valid.{IsRegIfSome, IsValidInstr, IsValidEnd, AreValidBlocks}
use Rattle.il_laws.proofs.Grown.{all_to}
use Rattle.const_prop.specs.Tables.{IsValidRoutine}
use Rattle.inliner.specs.Copies.{IsCopied, IsCopiedBlock, NamesBlocks, ReadsRegister, few_blocks}

blocks_few : (xs : List Block) → length xs ≤ blocks_size xs
blocks_few [] = omega arith
blocks_few (x ∷ xs) = let rest = blocks_few xs in let sum = sum_by-cons block_size x xs in omega arith

pub few : (r : RoutineParts) → IsWithinLimits r → length r.blocks ≤ few_blocks
few r h = let most = h.size in let less = blocks_few r.blocks in omega arith

module _ (rows : List ShapeRow) (n a : ℕ) (regs : n ≤ max_registers) (arrays : a ≤ max_arrays) where
  fewer : (o : Option ℕ) → IsRegIfSome n o → IsRegIfSome max_registers o
  fewer None h = tt
  fewer (Some d) h = omega arith

  named : (i : Instr) → IsValidInstr rows n a i → IsCopied max_registers max_arrays i
  named (Const d w) h = (omega arith, tt)
  named (Move d s) h = let x = h.0 in let y = h.1 in ((omega arith, omega arith), tt)
  named (Conv d t s) h = let x = h.0 in let y = h.1 in ((omega arith, omega arith), tt)
  named (Bin o d x y) h = let p = h.0 in let q = h.1 in let z = h.2 in ((omega arith, omega arith, omega arith), tt)
  named (Get d g) h = let x = h.0 in (omega arith, tt)
  named (Set g s) h = let x = h.0 in (omega arith, tt)
  named (GetX d g i) h = let x = h.0 in let y = h.1 in ((omega arith, omega arith), tt)
  named (SetX g i s) h = let x = h.0 in let y = h.1 in ((omega arith, omega arith), tt)
  named (GetA d b i) h = let x = h.0 in let y = h.1 in let z = h.2 in ((omega arith, omega arith), omega arith)
  named (SetA b i s) h = let x = h.0 in let y = h.1 in let z = h.2 in ((omega arith, omega arith), omega arith)
  named (Clear r c b m) h = let x = h.0 in let y = h.1 in (omega arith, omega arith)
  named Turn h = (tt, tt)
  named (Call dest p count args) h =
      ((fewer dest h.0, all_to (λ (x : ℕ). x < n) (λ x. x < max_registers) args (λ x lt. omega arith) h.1), tt)
  named (GetChar d) h = (omega arith, tt)
  named (PutChar d s) h = let x = h.0 in let y = h.1 in ((omega arith, omega arith), tt)

  end_reads : (value : _) (count b : ℕ) (e : End) → IsValidEnd n value count b e → ReadsRegister max_registers e
  end_reads value count b (ends.Jump t) h = tt
  end_reads value count b (ends.Branch r t u) h = let x = h.0 in omega arith
  end_reads value count b (ends.Loop t) h = tt
  end_reads value count b (ends.Return r) h = fewer r h.0
  end_reads value count b (ends.Exit r) h = omega arith

end_names : (n count b : ℕ) (value : _) (e : End) → b < count → count ≤ few_blocks → IsValidEnd n value count b e → NamesBlocks few_blocks e
end_names n count b value (ends.Jump t) lt le h = let x = h.1 in omega arith
end_names n count b value (ends.Branch r t u) lt le h = let x = h.1.1 in let y = h.2.1 in (omega arith, omega arith)
end_names n count b value (ends.Loop t) lt le h = let x : t ≤ b = h in omega arith
end_names n count b value (ends.Return r) lt le h = tt
end_names n count b value (ends.Exit r) lt le h = tt

-- a routine's blocks as they are copied
copied_from : (rows : List ShapeRow) (r : RoutineParts) → IsWithinLimits r → (b : ℕ) (xs : List Block) → b + length xs ≡ length r.blocks
    → AreValidBlocks rows r b xs → AllByRecursion (IsCopiedBlock max_registers max_arrays few_blocks) xs
copied_from rows r h b [] e v = tt
copied_from rows r h b (x ∷ xs) e v = (
  record {
    instrs = all_to (IsValidInstr rows r.regs (length r.arrays)) (IsCopied max_registers max_arrays) x.instrs
        (λ i vi. named rows r.regs (length r.arrays) h.regs h.arrays i vi) v.0;
    reads = end_reads rows r.regs (length r.arrays) h.regs h.arrays r.value (length r.blocks) b x.end v.1;
    targets = end_names r.regs (length r.blocks) b r.value x.end (omega arith) (few r h) v.1;
  },
  copied_from rows r h (b + 1) xs (omega arith) v.2,
)

pub copied_blocks : (r : RoutineParts) → IsValidRoutine r → IsWithinLimits r
    → AllByRecursion (IsCopiedBlock max_registers max_arrays few_blocks) r.blocks
copied_blocks r v h = copied_from v.0 r h 0 r.blocks (let e : 0 + length r.blocks ≡ length r.blocks = omega arith in e) v.1.blocks

-- the blocks that the ends of a routine name
pub named_blocks : (r : RoutineParts) → IsValidRoutine r → IsWithinLimits r → AllByRecursion (λ x. NamesBlocks few_blocks x.end) r.blocks
named_blocks r v h =
    all_to (IsCopiedBlock max_registers max_arrays few_blocks) (λ x. NamesBlocks few_blocks x.end) r.blocks (λ x c. c.targets) (copied_blocks r v h)
