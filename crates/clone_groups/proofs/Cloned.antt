-- A clone by its parts: its blocks, and its limits.
use Rattle.std.proofs.Common.{◌≡◌, ℕ, suc, ◌+◌, ◌<◌, ◌≤◌, List, [], ◌∷◌, map, Bool, true, false, refl, ap, subst, sym, ◌∙◌, arith, length, leb-true}
use Rattle.std.proofs.Common.{le-leb, get_or, drop}
use Rattle.std.specs.Prelude.{if◌then◌else◌, nat_le}
use Rattle.std.specs.List.{AllByRecursion}
use Rattle.list_laws.proofs.Elements.{all_drop, drop_read}
use Rattle.std.proofs.lemmas.List.Sums.{sum_by-cons}
use Rattle.hlo_num.specs.declared.word.Word.{Word}
use Rattle.il_core.specs.declared.instr.Block.{Block}
use Rattle.il_core.specs.declared.instr.End.{End}
use Rattle.il_core.specs.declared.instr.End.TheVariants as ends
use Rattle.il_core.specs.declared.shape.ShapeRow.{ShapeRow}
use Rattle.il_core.specs.Limits.{IsBlock, IsInstr, IsWithinLimits, max_pids, max_size}
use Rattle.il_core.specs.Operands.{retargeted_block}
use Rattle.il_core.specs.Routine.{RoutineParts}
use Rattle.il_core.specs.Size.{block_size, blocks_size, size}
use Rattle.il_core.specs.Valid.{IsValidEnd, AreValidBlocks}
use Rattle.il_laws.specs.Clone.{Fixed, clone_blocks, constants, make_clone}
use Rattle.il_laws.specs.Facts.{looped}
use Rattle.il_laws.proofs.CloneValid.{clone_size}
use Rattle.il_laws.proofs.SpliceBlocks.{all_append}
use Rattle.const_prop.specs.Tables.{IsValidRoutine}
use Rattle.inliner.specs.Copies.{NamesBlocks, few_blocks}
use Rattle.clone_groups.specs.Fixing.{fixed_of}
use Rattle.clone_groups.proofs.InPlace.{Change}

-- the blocks that ends of a valid routine name
blocks_few : (xs : List Block) → length xs ≤ blocks_size xs
blocks_few [] = omega arith
blocks_few (x ∷ xs) = let rest = blocks_few xs in let sum = sum_by-cons block_size x xs in omega arith

end_names : (n count b : ℕ) (value : Bool) (e : End) → b < count → count ≤ few_blocks → IsValidEnd n value count b e → NamesBlocks few_blocks e
end_names n count b value (ends.Jump t) lt le h = let x = h.1 in omega arith
end_names n count b value (ends.Branch r t u) lt le h = let x = h.1.1 in let y = h.2.1 in (omega arith, omega arith)
end_names n count b value (ends.Loop t) lt le h = let x : t ≤ b = h in omega arith
end_names n count b value (ends.Return r) lt le h = tt
end_names n count b value (ends.Exit r) lt le h = tt

named_from : (rows : List ShapeRow) (r : RoutineParts) (b : ℕ) (xs : List Block) → length r.blocks ≤ few_blocks → b + length xs ≡ length r.blocks
    → AreValidBlocks rows r b xs → AllByRecursion (λ x. NamesBlocks few_blocks x.end) xs
named_from rows r b [] few e v = tt
named_from rows r b (x ∷ xs) few e v =
    (end_names r.regs (length r.blocks) b r.value x.end (omega arith) few v.1, named_from rows r (b + 1) xs few (omega arith) v.2)

module _ (r : RoutineParts) (v : IsValidRoutine r) (h : IsWithinLimits r) where
  pub named_blocks : AllByRecursion (λ x. NamesBlocks few_blocks x.end) r.blocks
  named_blocks =
      let most = h.size in
      let less = blocks_few r.blocks in
      named_from v.0 r 0 r.blocks (omega arith) (let e : 0 + length r.blocks ≡ length r.blocks = omega arith in e) v.1.blocks

-- as many constants as pairs
same_count : (xs : List (ℕ × Word)) → length (fixed_of xs) ≡ length xs
same_count [] = refl
same_count (x ∷ xs) = ap suc (same_count xs)

-- the loop over targets
abbrev pub raised_change : Change Block
raised_change = record {
  whole = λ k xs. map (retargeted_block suc) xs;
  one = λ k x. retargeted_block suc x;
  count = λ xs. 0;
  counts = λ x. 0;
  none = λ k. refl;
  more = λ k x xs. refl;
  nothing = refl;
  sum = λ x xs. refl;
}

-- what is left of blocks names few
pub target_at : (xs now : List Block) (i : ℕ) (x : Block) → AllByRecursion (λ y. NamesBlocks few_blocks y.end) xs → i < length now → x ≡ get_or now i x
    → drop i now ≡ drop i xs → NamesBlocks few_blocks x.end
target_at xs now i x all lt read rest =
    let here : x ∷ drop (i + 1) now ≡ drop i xs = sym (drop_read now i x lt read) ∙ rest in
    (subst (AllByRecursion (λ y. NamesBlocks few_blocks y.end)) (sym here) (all_drop (λ (y : Block). NamesBlocks few_blocks y.end) i xs all)).0

-- the limits
constants_within : (f : List Fixed) → AllByRecursion IsInstr (constants f)
constants_within [] = tt
constants_within (x ∷ xs) = (tt, constants_within xs)

moved_within : (xs : List Block) → AllByRecursion IsBlock xs → AllByRecursion IsBlock (map (retargeted_block suc) xs)
moved_within [] h = tt
moved_within (x ∷ xs) h = (h.0, moved_within xs h.1)

blocks_within : (k : Bool) (f : List Fixed) (xs : List Block) → AllByRecursion IsBlock xs → AllByRecursion IsBlock (clone_blocks k f xs)
blocks_within true f [] h = tt
blocks_within false f [] h = tt
blocks_within true f (x ∷ xs) h = (constants_within f, moved_within (x ∷ xs) h)
blocks_within false f (x ∷ xs) h = (all_append IsInstr (constants f) x.instrs (constants_within f) h.0, h.1)

module _ (r : RoutineParts) (pid : ℕ) (xs : List (ℕ × Word)) (v : IsValidRoutine r) where
  size_is : size (make_clone r pid (fixed_of xs)) ≡ size r + length xs + (if looped r.blocks 0 then 1 else 0)
  size_is =
      clone_size r pid (fixed_of xs) v.1.some_block ∙ ap (λ (n : ℕ). size r + n + (if looped r.blocks 0 then 1 else 0)) (same_count xs)

  pub too_many : (k : Bool) → k ≡ looped r.blocks 0 → nat_le (size r + length xs + (if k then 1 else 0)) max_size ≡ false
      → IsWithinLimits (make_clone r pid (fixed_of xs)) → ⊥
  too_many k same past w =
      let test : nat_le (size r + length xs + (if looped r.blocks 0 then 1 else 0)) max_size ≡ true = le-leb _ max_size
      (subst (λ (n : ℕ). n ≤ max_size) size_is w.size) in
      let e : nat_le (size r + length xs + (if k then 1 else 0)) max_size ≡ true
      = ap (λ (b : Bool). nat_le (size r + length xs + (if b then 1 else 0)) max_size) same ∙ test in
      let bad : true ≡ false = sym e ∙ past in
      absurd cc

  pub clone_within : (k : Bool) → k ≡ looped r.blocks 0 → nat_le (size r + length xs + (if k then 1 else 0)) max_size ≡ true → pid < max_pids
      → IsWithinLimits r → IsWithinLimits (make_clone r pid (fixed_of xs))
  clone_within k same fits small h =
      let test : nat_le (size r + length xs + (if looped r.blocks 0 then 1 else 0)) max_size ≡ true
      = ap (λ (b : Bool). nat_le (size r + length xs + (if b then 1 else 0)) max_size) (sym same) ∙ fits in record {
        pid = small;
        params = h.params;
        regs = h.regs;
        arrays = h.arrays;
        elements = h.elements;
        size = subst (λ (n : ℕ). n ≤ max_size) (sym size_is) (leb-true _ max_size test);
        instrs = blocks_within (looped r.blocks 0) (fixed_of xs) r.blocks h.instrs;
      }
