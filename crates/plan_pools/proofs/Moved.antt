-- How large routines are whose calls go elsewhere.
use Rattle.std.proofs.Common.{◌≡◌, ◌+◌, ℕ, suc, List, [], ◌∷◌, length, refl, ap, arith}
use Rattle.std.specs.List.{sum_by}
use Rattle.std.proofs.lemmas.List.Sums.{sum_by-cons}
use Rattle.il_core.specs.Meaning.{sites_in, sites_of}
use Rattle.il_core.specs.Routine.{RoutineParts}
use Rattle.il_core.specs.Size.{arguments, block_arguments, block_size, blocks_arguments, blocks_size}
use Rattle.il_core.specs.declared.instr.Block.{Block}
use Rattle.il_core.specs.declared.instr.Instr.{Instr}
use Rattle.il_core.specs.declared.instr.Instr.TheVariants.{Const, Move, Conv, Bin, Get, Set, GetX, SetX, GetA, SetA, Clear, Turn, Call, GetChar, PutChar}
use Rattle.il_laws.specs.Retarget.{SiteMove, retarget, retarget_blocks, retarget_instr, retarget_instrs}
use Rattle.il_laws.specs.SimplifyLaws.{NoLarger}

module _ (ms : List SiteMove) where
  instr_arguments : (k : ℕ) (i : Instr) → arguments (retarget_instr ms k i) ≡ arguments i
  instr_arguments k (Const d w) = refl
  instr_arguments k (Move d s) = refl
  instr_arguments k (Conv d t s) = refl
  instr_arguments k (Bin o d a b) = refl
  instr_arguments k (Get d g) = refl
  instr_arguments k (Set g s) = refl
  instr_arguments k (GetX d g i) = refl
  instr_arguments k (SetX g i s) = refl
  instr_arguments k (GetA d a i) = refl
  instr_arguments k (SetA a i s) = refl
  instr_arguments k (Clear r c a m) = refl
  instr_arguments k Turn = refl
  instr_arguments k (Call dest callee count args) = refl
  instr_arguments k (GetChar d) = refl
  instr_arguments k (PutChar d s) = refl

  instrs_length : (k : ℕ) (is : List Instr) → length (retarget_instrs ms k is) ≡ length is
  instrs_length k [] = refl
  instrs_length k (i ∷ is) = ap suc (instrs_length (sites_in i + k) is)

  instrs_arguments : (k : ℕ) (is : List Instr) → sum_by arguments (retarget_instrs ms k is) ≡ sum_by arguments is
  instrs_arguments k [] = refl
  instrs_arguments k (i ∷ is) =
      let a = sum_by-cons arguments (retarget_instr ms k i) (retarget_instrs ms (sites_in i + k) is) in
      let b = sum_by-cons arguments i is in
      let c = instr_arguments k i in
      let d = instrs_arguments (sites_in i + k) is in
      omega arith

  blocks_length : (k : ℕ) (xs : List Block) → length (retarget_blocks ms k xs) ≡ length xs
  blocks_length k [] = refl
  blocks_length k (x ∷ xs) = ap suc (blocks_length (sites_of x.instrs + k) xs)

  abbrev one : ℕ → Block → Block
  one k x = record { instrs = retarget_instrs ms k x.instrs; end = x.end }

  sizes : (k : ℕ) (xs : List Block) → blocks_size (retarget_blocks ms k xs) ≡ blocks_size xs
  sizes k [] = refl
  sizes k (x ∷ xs) =
      let a = sum_by-cons block_size (one k x) (retarget_blocks ms (sites_of x.instrs + k) xs) in
      let b = sum_by-cons block_size x xs in
      let c = instrs_length k x.instrs in
      let d = sizes (sites_of x.instrs + k) xs in
      omega arith

  all_arguments : (k : ℕ) (xs : List Block) → blocks_arguments (retarget_blocks ms k xs) ≡ blocks_arguments xs
  all_arguments k [] = refl
  all_arguments k (x ∷ xs) =
      let a = sum_by-cons block_arguments (one k x) (retarget_blocks ms (sites_of x.instrs + k) xs) in
      let b = sum_by-cons block_arguments x xs in
      let c = instrs_arguments k x.instrs in
      let d = all_arguments (sites_of x.instrs + k) xs in
      omega arith

  -- a routine with other callees is no larger
  pub no_larger : (r : RoutineParts) → NoLarger r (retarget r ms)
  no_larger r =
      let a = blocks_length 0 r.blocks in
      let b = sizes 0 r.blocks in
      let c = all_arguments 0 r.blocks in
      record { size = omega arith; charge = omega arith; regs = refl }
