-- Constants in place of known results, and jumps in place of branches, make routines that serve.
use Rattle.std.proofs.Common.{◌≡◌, ℕ, zero, suc, ◌+◌, ◌<◌, ◌⊎◌, List, [], ◌∷◌, Bool, true, false, refl, ap, subst, sym, ◌∙◌, arith, length, slice_get, inl, inr}
use Rattle.std.specs.Prelude.{nat_eq, if◌then◌else◌, Option, Some, None, option_map, Result}
use Rattle.std.specs.List.{AllByRecursion}
use Rattle.std.proofs.lemmas.Option.{same_Some}
use Rattle.hlo_num.specs.declared.word.Trap.{Trap}
use Rattle.hlo_num.specs.Words.{convert}
use Rattle.il_core.specs.declared.instr.Block.{Block}
use Rattle.il_core.specs.declared.instr.Instr.{Instr}
use Rattle.il_core.specs.declared.instr.Instr.TheVariants.{Const, Move, Conv, Bin, Get, Set, GetX, SetX, GetA, SetA, Clear, Turn, Call, GetChar, PutChar}
use Rattle.il_core.specs.declared.instr.End.{End}
use Rattle.il_core.specs.declared.instr.End.TheVariants as ends
use Rattle.il_core.specs.declared.shape.ShapeRow.{ShapeRow}
use Rattle.il_core.specs.declared.program.IlProgram.{IlProgram}
use Rattle.il_core.specs.Routine.{RoutineParts}
use Rattle.il_core.specs.Valid.{IsValid, IsValidInstr, IsValidEnd}
use Rattle.il_core.specs.World.{with_word}
use Rattle.il_core.specs.Meaning.{Frame, with_reg, Lengths, lengths, Next, step}
use Rattle.il_laws.specs.Facts.{Facts, known_result, after, through, facts_at}
use Rattle.il_laws.specs.Propagate.{constant, propagated, propagated_all, propagated_block, with_facts, taken, folded, folded_block, propagate, fold_branches}
use Rattle.il_laws.specs.Runs.{Calls, silent, called}
use Rattle.il_laws.specs.Serving.{Serves}
use Rattle.il_laws.proofs.Alike.{CallsAlike, anything, calls_fall}
use Rattle.il_laws.proofs.Same.{Leaves, SameAt, step_at}
use Rattle.il_laws.proofs.Lists.{ValidBlock, valid_block}
use Rattle.il_laws.proofs.Sound.{valid_sound}
use Rattle.il_laws.proofs.ValidBlocks.{with_blocks, valid_with, same_many, block_of, serves_blocks}
use Rattle.il_laws.proofs.Knows.{Knows, map_known, result_known}
use Rattle.il_laws.proofs.Improved.{Change, SameInstrs, Improved, IsImproved, improved_keeps, with_facts_at, with_facts_length}

-- it is as it was, or its result is known
abbrev pub Propagates : Change
Propagates fs i j = (i ≡ j) ⊎ (propagated fs i ≡ j)

module _ {S : Type 0} (c : Calls S) (falls : (t : ℕ) → CallsAlike anything t c c) (n : Lengths) where
  -- an instruction whose result is known
  step_known : (m : ℕ) (fs : Facts) (i : Instr) (a b : Next S) (f : Frame) → Knows fs f → ((f1 : Frame) → Leaves i f f1 → SameAt m a b f1)
      → SameAt m (step (silent c) n 0 i a) (step (silent c) n 0 (propagated fs i) b) f
  step_known m fs (Move d s) a b f k h = move_known (fs s) refl
    where
      move_known : (o : Option ℕ) → fs s ≡ o → SameAt m (step (silent c) n 0 (Move d s) a) (step (silent c) n 0 (constant (Move d s) d o) b) f
      move_known None e = step_at c falls n m (Move d s) a b f h
      move_known (Some v) e = record { by = λ w le. (h (with_reg f d (f.regs s)) refl).by w le ∙ ap (λ (u : ℕ). b (with_reg f d u) w) (k.by s v e) }
  step_known m fs (Conv d t s) a b f k h = conv_known (option_map (convert t) (fs s)) refl
    where
      conv_known : (o : Option ℕ) → option_map (convert t) (fs s) ≡ o → SameAt m (step (silent c) n 0 (Conv d t s) a)
          (step (silent c) n 0 (constant (Conv d t s) d o) b) f
      conv_known None e = step_at c falls n m (Conv d t s) a b f h
      conv_known (Some v) e = record {
        by = λ w le. (h (with_reg f d (convert t (f.regs s))) refl).by w le ∙ ap (λ (u : ℕ). b (with_reg f d u) w)
            (map_known (convert t) (fs s) (f.regs s) v (λ x g. k.by s x g) e);
      }
  step_known m fs (Bin o d x y) a b f k h = bin_known (known_result o (fs x) (fs y)) refl
    where
      bin_known : (q : Option ℕ) → known_result o (fs x) (fs y) ≡ q → SameAt m (step (silent c) n 0 (Bin o d x y) a)
          (step (silent c) n 0 (constant (Bin o d x y) d q) b) f
      bin_known None e = step_at c falls n m (Bin o d x y) a b f h
      bin_known (Some v) e =
          let is = result_known o (fs x) (fs y) (f.regs x) (f.regs y) v (λ w g. k.by x w g) (λ w g. k.by y w g) e in
          record {
            by = λ w le. ap (λ (q : Result ℕ Trap). with_word q w (λ u. a (with_reg f d u) w)) is
                ∙ (h (with_reg f d v) (v, is, refl)).by w le;
          }
  step_known m fs (Const d v) a b f k h = step_at c falls n m (Const d v) a b f h
  step_known m fs (Get d g) a b f k h = step_at c falls n m (Get d g) a b f h
  step_known m fs (Set g s) a b f k h = step_at c falls n m (Set g s) a b f h
  step_known m fs (GetX d g i) a b f k h = step_at c falls n m (GetX d g i) a b f h
  step_known m fs (SetX g i s) a b f k h = step_at c falls n m (SetX g i s) a b f h
  step_known m fs (GetA d x i) a b f k h = step_at c falls n m (GetA d x i) a b f h
  step_known m fs (SetA x i s) a b f k h = step_at c falls n m (SetA x i s) a b f h
  step_known m fs (Clear r l x y) a b f k h = step_at c falls n m (Clear r l x y) a b f h
  step_known m fs Turn a b f k h = step_at c falls n m Turn a b f h
  step_known m fs (Call dest p count args) a b f k h = step_at c falls n m (Call dest p count args) a b f h
  step_known m fs (GetChar d) a b f k h = step_at c falls n m (GetChar d) a b f h
  step_known m fs (PutChar d s) a b f k h = step_at c falls n m (PutChar d s) a b f h

  pub step_same : (m : ℕ) (fs : Facts) (i j : Instr) (a b : Next S) (f : Frame) → Knows fs f → Propagates fs i j
      → ((f1 : Frame) → Leaves i f f1 → SameAt m a b f1) → SameAt m (step (silent c) n 0 i a) (step (silent c) n 0 j b) f
  step_same m fs i j a b f k (inl e) h = subst (λ (x : Instr). SameAt m (step (silent c) n 0 i a) (step (silent c) n 0 x b) f) e
      (step_at c falls n m i a b f h)
  step_same m fs i j a b f k (inr e) h = subst (λ (x : Instr). SameAt m (step (silent c) n 0 i a) (step (silent c) n 0 x b) f) e
      (step_known m fs i a b f k h)

all_propagated : (fs : Facts) (is : List Instr) → SameInstrs Propagates fs is (propagated_all fs is)
all_propagated fs [] = tt
all_propagated fs (i ∷ is) = (inr refl, all_propagated (after i fs) is)

all_same : (fs : Facts) (is : List Instr) → SameInstrs Propagates fs is is
all_same fs [] = tt
all_same fs (i ∷ is) = (inl refl, all_same (after i fs) is)

constant_valid : (rows : List ShapeRow) (n a : ℕ) (i : Instr) (d : ℕ) (o : Option ℕ) → d < n → IsValidInstr rows n a i
    → IsValidInstr rows n a (constant i d o)
constant_valid rows n a i d None lt h = h
constant_valid rows n a i d (Some v) lt h = lt

propagated_valid : (rows : List ShapeRow) (n a : ℕ) (fs : Facts) (i : Instr) → IsValidInstr rows n a i → IsValidInstr rows n a (propagated fs i)
propagated_valid rows n a fs (Move d s) h = constant_valid rows n a (Move d s) d (fs s) h.0 h
propagated_valid rows n a fs (Conv d t s) h = constant_valid rows n a (Conv d t s) d (option_map (convert t) (fs s)) h.0 h
propagated_valid rows n a fs (Bin o d p q) h = constant_valid rows n a (Bin o d p q) d (known_result o (fs p) (fs q)) h.0 h
propagated_valid rows n a fs (Const d v) h = h
propagated_valid rows n a fs (Get d g) h = h
propagated_valid rows n a fs (Set g s) h = h
propagated_valid rows n a fs (GetX d g i) h = h
propagated_valid rows n a fs (SetX g i s) h = h
propagated_valid rows n a fs (GetA d p i) h = h
propagated_valid rows n a fs (SetA p i s) h = h
propagated_valid rows n a fs (Clear r c p m) h = h
propagated_valid rows n a fs Turn h = h
propagated_valid rows n a fs (Call dest p count args) h = h
propagated_valid rows n a fs (GetChar d) h = h
propagated_valid rows n a fs (PutChar d s) h = h

propagated_all_valid : (rows : List ShapeRow) (n a : ℕ) (fs : Facts) (is : List Instr) → AllByRecursion (IsValidInstr rows n a) is
    → AllByRecursion (IsValidInstr rows n a) (propagated_all fs is)
propagated_all_valid rows n a fs [] h = tt
propagated_all_valid rows n a fs (i ∷ is) h = (propagated_valid rows n a fs i h.0, propagated_all_valid rows n a (after i fs) is h.1)

taken_valid : (regs : ℕ) (value : Bool) (blocks b r t u : ℕ) (k : Bool) (o : Option ℕ) → IsValidEnd regs value blocks b (ends.Branch r t u)
    → IsValidEnd regs value blocks b (if k then ends.Jump t else taken (ends.Branch r t u) t u o)
taken_valid regs value blocks b r t u true o h = h.1
taken_valid regs value blocks b r t u false None h = h
taken_valid regs value blocks b r t u false (Some zero) h = h.2
taken_valid regs value blocks b r t u false (Some (suc v)) h = h.1

folded_valid : (regs : ℕ) (value : Bool) (blocks b : ℕ) (fs : Facts) (e : End) → IsValidEnd regs value blocks b e
    → IsValidEnd regs value blocks b (folded fs e)
folded_valid regs value blocks b fs (ends.Branch r t u) h = taken_valid regs value blocks b r t u (nat_eq t u) (fs r) h
folded_valid regs value blocks b fs (ends.Jump t) h = h
folded_valid regs value blocks b fs (ends.Loop t) h = h
folded_valid regs value blocks b fs (ends.Return r) h = h
folded_valid regs value blocks b fs (ends.Exit r) h = h

module _ (rows : List ShapeRow) where
  facts_valid : (change : Facts → Block → Block)
      → ((r : RoutineParts) (t : ℕ) (fs : Facts) (x : Block) → ValidBlock rows r t x → ValidBlock rows r t (change fs x)) → (r : RoutineParts)
      → IsValid rows r → IsValid rows (with_blocks r (with_facts change r 0 r.blocks))
  facts_valid change h r valid =
      let bs = with_facts change r 0 r.blocks in
      let size = with_facts_length change r 0 r.blocks in
      let some = valid.some_block in
      valid_with rows r bs valid (omega arith) (λ t y e.
      let old = block_of r.blocks bs t y size e in
      let here : 0 + t ≡ t = omega arith in
      let new : slice_get bs t ≡ Some (change (facts_at r t) old.0) = with_facts_at change r 0 r.blocks t old.0 old.1
      ∙ ap (λ (s : ℕ). Some (change (facts_at r s) old.0)) here in
      subst (λ (z : Block). ValidBlock rows (with_blocks r bs) t z) (same_Some (change (facts_at r t) old.0) y (sym new ∙ e))
      (h (with_blocks r bs) t (facts_at r t) old.0 (same_many rows r bs t old.0 size (valid_block rows r valid t old.0 old.1))))

-- where the change of a block fits its facts, and leaves it valid, the changed routine serves
module _ (p : IlProgram) (change : Facts → Block → Block)
    (fits : (fs : Facts) (x : Block) → Improved Propagates fs x (change fs x))
    (stays : (r : RoutineParts) (t : ℕ) (fs : Facts) (x : Block) → ValidBlock p.shapes r t x → ValidBlock p.shapes r t (change fs x)) where
  changed_serves : (r : RoutineParts) → IsValid p.shapes r → Serves p r (with_blocks r (with_facts change r 0 r.blocks))
  changed_serves r valid =
      let bs = with_facts change r 0 r.blocks in
      let valid1 = facts_valid p.shapes change stays r valid in
      let better : IsImproved Propagates r bs = record {
        block = λ t x e. (
          change (facts_at r t) x,
          (let here : 0 + t ≡ t = omega arith in with_facts_at change r 0 r.blocks t x e ∙ ap (λ (s : ℕ). Some (change (facts_at r s) x)) here),
          fits (facts_at r t) x,
        );
      } in
      serves_blocks p r bs valid1 (λ args w.
      improved_keeps (called p) (calls_fall p anything) (lengths p r) r bs (valid_sound p.shapes r valid)
      (valid_sound p.shapes (with_blocks r bs) valid1)
      Propagates better (step_same (called p) (calls_fall p anything) (lengths p r)) args w)

pub propagate_serves : (p : IlProgram) (r : RoutineParts) → IsValid p.shapes r → Serves p r (propagate r)
propagate_serves p r valid =
    changed_serves p propagated_block (λ fs x. record { instrs = all_propagated fs x.instrs; end = inl refl })
    (λ s t fs x h. record { instrs = propagated_all_valid p.shapes s.regs (length s.arrays) fs x.instrs h.instrs; end = h.end }) r valid

pub fold_serves : (p : IlProgram) (r : RoutineParts) → IsValid p.shapes r → Serves p r (fold_branches r)
fold_serves p r valid =
    changed_serves p folded_block (λ fs x. record { instrs = all_same fs x.instrs; end = inr refl })
    (λ s t fs x h. record { instrs = h.instrs; end = folded_valid s.regs s.value (length s.blocks) t (through x.instrs fs) x.end h.end }) r valid
