-- The instructions of a routine with a callee in it are within the limits.
use Rattle.std.proofs.Common.{◌≡◌, ℕ, suc, ◌+◌, List, [], ◌∷◌, ◌++◌, map, ap, arith, length}
use Rattle.std.specs.Prelude.{Option, Some, None}
use Rattle.std.specs.List.{AllByRecursion}
use Rattle.il_core.specs.declared.instr.Block.{Block}
use Rattle.il_core.specs.declared.instr.End.{End}
use Rattle.il_core.specs.declared.instr.End.TheVariants as ends
use Rattle.il_core.specs.declared.instr.Instr.{Instr}
use Rattle.il_core.specs.declared.instr.Instr.TheVariants.{Const, Move, Conv, Bin, Get, Set, GetX, SetX, GetA, SetA, Clear, Turn, Call, GetChar, PutChar}
use Rattle.il_core.specs.Limits.{IsInstr, IsBlock}
use Rattle.il_core.specs.Operands.{Names, renamed}
use Rattle.il_core.specs.Routine.{RoutineParts}
use Rattle.il_core.specs.World.{each}
use Rattle.il_laws.specs.Splice.{Site, moved_block, passed, handed, copied, raised, entering, resuming, copies, spliced_blocks}
use Rattle.il_laws.proofs.SpliceBlocks.{call_of, site_block, blocks_with, all_front, all_rest, all_append}

abbrev AreWithin : List Block → Type 0
AreWithin bs = AllByRecursion IsBlock bs

each_length : (f : ℕ → ℕ) (xs : List ℕ) → length (each f xs) ≡ length xs
each_length f [] = omega arith
each_length f (x ∷ xs) = ap suc (each_length f xs)

module _ (m : Names) (same : (x : ℕ) → m.pid x ≡ x) where
  one_within : (i : Instr) → IsInstr i → IsInstr (renamed m i)
  one_within (Call dest callee count args) h =
      let p = same callee in let lt = h.0 in let le = h.1 in let e = each_length m.reg args in (omega arith, omega arith)
  one_within (Get d g) h = let p = same g in omega arith
  one_within (Set g s) h = let p = same g in omega arith
  one_within (GetX d g i) h = let p = same g in omega arith
  one_within (SetX g i s) h = let p = same g in omega arith
  one_within (Const d v) h = h
  one_within (Move d s) h = h
  one_within (Conv d t s) h = h
  one_within (Bin o d a b) h = h
  one_within (GetA d a i) h = h
  one_within (SetA a i s) h = h
  one_within (Clear r c a l) h = h
  one_within Turn h = h
  one_within (GetChar d) h = h
  one_within (PutChar d s) h = h

  renamed_within : (is : List Instr) → AllByRecursion IsInstr is → AllByRecursion IsInstr (map (renamed m) is)
  renamed_within [] h = tt
  renamed_within (i ∷ is) h = (one_within i h.0, renamed_within is h.1)

  handed_within : (e : End) (dest : Option ℕ) → AllByRecursion IsInstr (handed m e dest)
  handed_within (ends.Return (Some x)) (Some d) = (tt, tt)
  handed_within (ends.Return (Some x)) None = tt
  handed_within (ends.Return None) dest = tt
  handed_within (ends.Jump t) dest = tt
  handed_within (ends.Branch x t u) dest = tt
  handed_within (ends.Loop t) dest = tt
  handed_within (ends.Exit x) dest = tt

  copied_within : (dest : Option ℕ) (first rest : ℕ) (xs : List Block) → AreWithin xs → AreWithin (map (copied m dest first rest) xs)
  copied_within dest first rest [] h = tt
  copied_within dest first rest (x ∷ xs) h = (
    all_append IsInstr (map (renamed m) x.instrs) (handed m x.end dest) (renamed_within x.instrs h.0) (handed_within x.end dest),
    copied_within dest first rest xs h.1,
  )

passed_within : (r : ℕ) (args : List ℕ) → AllByRecursion IsInstr (passed r args)
passed_within r [] = tt
passed_within r (a ∷ args) = (tt, passed_within (suc r) args)

moved_within : (b n : ℕ) (xs : List Block) → AreWithin xs → AreWithin (map (moved_block b n) xs)
moved_within b n [] h = tt
moved_within b n (x ∷ xs) h = (h.0, moved_within b n xs h.1)

pub spliced_within : (r a : ℕ) (s : Site) (q : RoutineParts) → AreWithin (blocks_with s) → AreWithin q.blocks → AreWithin (spliced_blocks r a s q)
spliced_within r a s q h g =
    let b = length s.earlier in
    let n = length q.blocks in
    let rest = all_rest IsBlock s.earlier (site_block s ∷ s.later) h in
    let after = all_rest IsInstr s.cut.before (call_of s.cut ∷ s.cut.after) rest.0 in
    let enter = all_append IsInstr s.cut.before (Turn ∷ Clear r q.regs a (length q.arrays) ∷ passed r s.cut.args)
    (all_front IsInstr s.cut.before (call_of s.cut ∷ s.cut.after) rest.0) (tt, (tt, passed_within r s.cut.args)) in
    let copy = copied_within (raised r a s.cut.count q.entry) (λ x. let e : x ≡ x = omega arith in e) s.cut.dest (suc b) (suc b + n) q.blocks g in
    all_append IsBlock (map (moved_block b n) s.earlier)
    (entering r a s q ∷ (copies r a s q ++ resuming s n ∷ map (moved_block b n) s.later))
    (moved_within b n s.earlier (all_front IsBlock s.earlier (site_block s ∷ s.later) h)) (
      enter,
      all_append IsBlock (copies r a s q) (resuming s n ∷ map (moved_block b n) s.later) copy (after.1, moved_within b n s.later rest.1),
    )
