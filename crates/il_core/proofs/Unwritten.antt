-- What an instruction doesn't write stays, one that can't trap never does, and one that is pure goes on in the same world.
use Rattle.std.proofs.Common.{◌≡◌, ℕ, zero, suc, List, Bool, true, false, refl, ap, subst, sym, ◌∙◌, arith, eqb-true}
use Rattle.std.specs.Prelude.{nat_eq, nat_lt, not, if◌then◌else◌, Option, Some, None, Result, Ok}
use Rattle.std.proofs.lemmas.Bool.{true≢false}
use Rattle.std.proofs.lemmas.Bool.Decides.{nat_tests}
use Rattle.hlo_num.specs.declared.word.Op.{Op}
use Rattle.hlo_num.specs.declared.word.Op.TheVariants as op
use Rattle.hlo_num.specs.declared.word.Trap.{Trap}
use Rattle.hlo_num.specs.Words.{convert}
use Rattle.hlo_num.specs.Operators.{operate}
use Rattle.il_core.specs.declared.instr.Instr.{Instr}
use Rattle.il_core.specs.declared.instr.Instr.TheVariants.{Const, Move, Conv, Bin, Get, Set, GetX, SetX, GetA, SetA, Clear, Turn, Call, GetChar, PutChar}
use Rattle.il_core.specs.World.{World, Outcome, Returns, Ends, Stuck, first_byte, after_get, low_byte, after_put, put, put_element, with_object, each}
use Rattle.il_core.specs.Meaning.{Frame, with_reg, cleared, received, is_among, Lengths, Act}
use Rattle.il_core.specs.Operands.{is_named, writes, writes_array, object_written, callee_of, operator_can_trap, can_trap, is_pure}
use Rattle.il_core.proofs.Effects.{Effect, GoesOn, worded, answered, spent, effect}
use Rattle.il_core.proofs.Following.{if_no, WhereOn, TrapsNot, word_on, inside_on}

-- what an instruction leaves as it was, unless it calls: registers and arrays that it doesn't write, and other objects
pub record Unwritten {S : Type 0} (i : Instr) (f : Frame) (w : World S) (f1 : Frame) (w1 : World S) : Type 0 where
  pub regs : (x : ℕ) → writes i x ≡ false → f1.regs x ≡ f.regs x
  pub arrays : (a : ℕ) → writes_array i a ≡ false → f1.arrays a ≡ f.arrays a
  pub objects : callee_of i ≡ None → (g : ℕ) → is_named (object_written i) g ≡ false → w1.objects g ≡ w.objects g

module _ {S : Type 0} where
  -- a register is put, and nothing else
  put_alone : (i : Instr) (d v : ℕ) (f : Frame) (w w1 : World S) → ((x : ℕ) → writes i x ≡ nat_eq x d) → ((g : ℕ) → w1.objects g ≡ w.objects g)
      → Unwritten i f w (with_reg f d v) w1
  put_alone i d v f w w1 at kept = record {
    regs = λ x e. if_no (nat_eq x d) v (f.regs x) (sym (at x) ∙ e);
    arrays = λ a e. refl;
    objects = λ none g e. kept g;
  }

  -- an element of an object is put, and nothing else
  object_alone : (i : Instr) (g x v : ℕ) (f : Frame) (w : World S) → object_written i ≡ Some g → Unwritten i f w f (with_object w g x v)
  object_alone i g x v f w is = record {
    regs = λ y e. refl;
    arrays = λ a e. refl;
    objects = λ none h e. if_no (nat_eq h g) (put (w.objects g) x v) (w.objects h) (sym (ap (λ (o : Option ℕ). is_named o h) is) ∙ e);
  }

  received_alone : (dest : Option ℕ) (callee count v : ℕ) (args : List ℕ) (f : Frame) (w w1 : World S)
      → Unwritten (Call dest callee count args) f w (received f dest v) w1
  received_alone None callee count v args f w w1 =
      record { regs = λ x e. refl; arrays = λ a e. refl; objects = λ none g e. absurd cc }
  received_alone (Some d) callee count v args f w w1 =
      record { regs = λ x e. if_no (nat_eq x d) v (f.regs x) e; arrays = λ a e. refl; objects = λ none g e. absurd cc }

  answered_alone : (dest : Option ℕ) (callee count : ℕ) (args : List ℕ) (f : Frame) (w : World S) (o : Outcome S)
      → WhereOn (λ f1 w1. Unwritten (Call dest callee count args) f w f1 w1) (answered o f dest)
  answered_alone dest callee count args f w (Returns v w1) = received_alone dest callee count v args f w w1
  answered_alone dest callee count args f w (Ends e output log) = tt
  answered_alone dest callee count args f w Stuck = tt

  same_all : (i : Instr) (f : Frame) (w w1 : World S) → ((g : ℕ) → w1.objects g ≡ w.objects g) → Unwritten i f w f w1
  same_all i f w w1 kept = record { regs = λ x e. refl; arrays = λ a e. refl; objects = λ none g e. kept g }

  spent_alone : (t : ℕ) (f : Frame) (w : World S) → WhereOn (λ f1 w1. Unwritten Turn f w f1 w1) (spent f w t)
  spent_alone zero f w = tt
  spent_alone (suc t) f w = same_all Turn f w (record w { turns = t }) (λ g. refl)

  -- what an instruction doesn't write stays
  pub unwritten : (call : Act S) (n : Lengths) (k : ℕ) (i : Instr) (f : Frame) (w : World S)
      → WhereOn (λ f1 w1. Unwritten i f w f1 w1) (effect call n k i f w)
  unwritten call n k (Const d v) f w = put_alone (Const d v) d v.0 f w w (λ x. refl) (λ g. refl)
  unwritten call n k (Move d s) f w = put_alone (Move d s) d (f.regs s) f w w (λ x. refl) (λ g. refl)
  unwritten call n k (Conv d t s) f w = put_alone (Conv d t s) d (convert t (f.regs s)) f w w (λ x. refl) (λ g. refl)
  unwritten call n k (Bin o d a b) f w =
      word_on _ (operate o (f.regs a) (f.regs b)) f d w (λ v. put_alone (Bin o d a b) d v f w w (λ x. refl) (λ g. refl))
  unwritten call n k (Get d g) f w = put_alone (Get d g) d (w.objects g 0) f w w (λ x. refl) (λ h. refl)
  unwritten call n k (Set g s) f w = object_alone (Set g s) g 0 (f.regs s) f w refl
  unwritten call n k (GetX d g i) f w =
      inside_on _ (nat_lt (f.regs i) (n.object g)) w w (with_reg f d (w.objects g (f.regs i)))
      (put_alone (GetX d g i) d (w.objects g (f.regs i)) f w w (λ x. refl) (λ h. refl))
  unwritten call n k (SetX g i s) f w =
      inside_on _ (nat_lt (f.regs i) (n.object g)) w (with_object w g (f.regs i) (f.regs s)) f (object_alone (SetX g i s) g (f.regs i) (f.regs s) f w refl)
  unwritten call n k (GetA d a i) f w =
      inside_on _ (nat_lt (f.regs i) (n.array a)) w w (with_reg f d (f.arrays a (f.regs i)))
      (put_alone (GetA d a i) d (f.arrays a (f.regs i)) f w w (λ x. refl) (λ h. refl))
  unwritten call n k (SetA a i s) f w =
      inside_on _ (nat_lt (f.regs i) (n.array a)) w w (record f { arrays = put_element f.arrays a (f.regs i) (f.regs s) })
      (record { regs = λ x e. refl; arrays = λ b e. if_no (nat_eq b a) (put (f.arrays a) (f.regs i) (f.regs s)) (f.arrays b) e; objects = λ none g e. refl })
  unwritten call n k (Clear r c a m) f w = record {
    regs = λ x e. if_no (is_among r c x) 0 (f.regs x) e;
    arrays = λ b e. ap (λ (t : Bool). λ j. if t then 0 else f.arrays b j) e;
    objects = λ none g e. refl;
  }
  unwritten call n k Turn f w = spent_alone w.turns f w
  unwritten call n k (Call dest callee count args) f w = answered_alone dest callee count args f w (call k callee (each f.regs args) w)
  unwritten call n k (GetChar d) f w = put_alone (GetChar d) d (first_byte w.input) f w (after_get w) (λ x. refl) (λ g. refl)
  unwritten call n k (PutChar d s) f w = put_alone (PutChar d s) d (low_byte (f.regs s)) f w (after_put (f.regs s) w) (λ x. refl) (λ g. refl)

none_among : (a m x : ℕ) → nat_eq m 0 ≡ true → is_among a m x ≡ false
none_among a m x e = let none : m ≡ 0 = eqb-true m 0 e in grind (arith, nat_tests)

-- ---- traps

-- an operator that can't trap gives a word
pub gives : (o : Op) (a b : ℕ) → operator_can_trap o ≡ false → (v : ℕ) × (operate o a b ≡ Ok v)
gives op.AddS a b e = (_, refl)
gives op.AddU a b e = (_, refl)
gives op.SubS a b e = (_, refl)
gives op.SubU a b e = (_, refl)
gives op.MulS a b e = (_, refl)
gives op.MulU a b e = (_, refl)
gives op.DivS a b e = absurd (true≢false e)
gives op.DivU a b e = absurd (true≢false e)
gives op.RemS a b e = absurd (true≢false e)
gives op.RemU a b e = absurd (true≢false e)
gives op.And a b e = (_, refl)
gives op.Or a b e = (_, refl)
gives op.Xor a b e = (_, refl)
gives op.Shl a b e = absurd (true≢false e)
gives op.ShrS a b e = absurd (true≢false e)
gives op.ShrU a b e = absurd (true≢false e)
gives op.Eq a b e = (_, refl)
gives op.Ne a b e = (_, refl)
gives op.LtS a b e = (_, refl)
gives op.LtU a b e = (_, refl)
gives op.LeS a b e = (_, refl)
gives op.LeU a b e = (_, refl)

module _ {S : Type 0} where
  word_traps : (o : Result ℕ Trap) (f : Frame) (d : ℕ) (w : World S) → ((v : ℕ) × (o ≡ Ok v)) → TrapsNot (worded o f d w)
  word_traps o f d w h = subst (λ (p : Result ℕ Trap). TrapsNot (worded p f d w)) (sym h.1) tt

  spent_traps : (t : ℕ) (f : Frame) (w : World S) → TrapsNot (spent f w t)
  spent_traps zero f w = tt
  spent_traps (suc t) f w = tt

  -- an instruction that can't trap, and doesn't call, never traps
  pub never_traps : (call : Act S) (n : Lengths) (k : ℕ) (i : Instr) (f : Frame) (w : World S) → can_trap i ≡ false → callee_of i ≡ None
      → TrapsNot (effect call n k i f w)
  never_traps call n k (Const d v) f w e h = tt
  never_traps call n k (Move d s) f w e h = tt
  never_traps call n k (Conv d t s) f w e h = tt
  never_traps call n k (Bin o d a b) f w e h = word_traps (operate o (f.regs a) (f.regs b)) f d w (gives o (f.regs a) (f.regs b) e)
  never_traps call n k (Get d g) f w e h = tt
  never_traps call n k (Set g s) f w e h = tt
  never_traps call n k (GetX d g i) f w e h = absurd (true≢false e)
  never_traps call n k (SetX g i s) f w e h = absurd (true≢false e)
  never_traps call n k (GetA d a i) f w e h = absurd (true≢false e)
  never_traps call n k (SetA a i s) f w e h = absurd (true≢false e)
  never_traps call n k (Clear r c a m) f w e h = tt
  never_traps call n k Turn f w e h = spent_traps w.turns f w
  never_traps call n k (Call dest callee count args) f w e h = absurd cc
  never_traps call n k (GetChar d) f w e h = tt
  never_traps call n k (PutChar d s) f w e h = tt

  -- ---- pure instructions

  -- an instruction goes on in the same world, with the same arrays
  pub record Purely (i : Instr) (f : Frame) (w : World S) (e : Effect S) : Type 0 where
    pub frame : Frame
    pub on : e ≡ GoesOn frame w
    pub regs : (x : ℕ) → writes i x ≡ false → frame.regs x ≡ f.regs x
    pub arrays : (a : ℕ) → frame.arrays a ≡ f.arrays a

  put_purely : (i : Instr) (d v : ℕ) (f : Frame) (w : World S) → ((x : ℕ) → writes i x ≡ nat_eq x d) → Purely i f w (GoesOn (with_reg f d v) w)
  put_purely i d v f w at = record {
    frame = with_reg f d v;
    on = refl;
    regs = λ x e. if_no (nat_eq x d) v (f.regs x) (sym (at x) ∙ e);
    arrays = λ a. refl;
  }

  pub purely : (call : Act S) (n : Lengths) (k : ℕ) (i : Instr) (f : Frame) (w : World S) → is_pure i ≡ true → Purely i f w (effect call n k i f w)
  purely call n k (Const d v) f w e = put_purely (Const d v) d v.0 f w (λ x. refl)
  purely call n k (Move d s) f w e = put_purely (Move d s) d (f.regs s) f w (λ x. refl)
  purely call n k (Conv d t s) f w e = put_purely (Conv d t s) d (convert t (f.regs s)) f w (λ x. refl)
  purely call n k (Bin o d a b) f w e =
      let g = gives o (f.regs a) (f.regs b) (not_true (operator_can_trap o) e) in
      subst (λ (p : Result ℕ Trap). Purely (Bin o d a b) f w (worded p f d w)) (sym g.1) (put_purely (Bin o d a b) d g.0 f w (λ x. refl))
    where
      not_true : (b : Bool) → not b ≡ true → b ≡ false
      not_true true h = absurd (true≢false (sym h))
      not_true false h = refl
  purely call n k (Get d g) f w e = put_purely (Get d g) d (w.objects g 0) f w (λ x. refl)
  purely call n k (Set g s) f w e = absurd (true≢false (sym e))
  purely call n k (GetX d g i) f w e = absurd (true≢false (sym e))
  purely call n k (SetX g i s) f w e = absurd (true≢false (sym e))
  purely call n k (GetA d a i) f w e = absurd (true≢false (sym e))
  purely call n k (SetA a i s) f w e = absurd (true≢false (sym e))
  purely call n k (Clear r c a m) f w e = record {
    frame = cleared f r c a m;
    on = refl;
    regs = λ x h. if_no (is_among r c x) 0 (f.regs x) h;
    arrays = λ b. ap (λ (t : Bool). λ j. if t then 0 else f.arrays b j) (none_among a m b e);
  }
  purely call n k Turn f w e = absurd (true≢false (sym e))
  purely call n k (Call dest callee count args) f w e = absurd (true≢false (sym e))
  purely call n k (GetChar d) f w e = absurd (true≢false (sym e))
  purely call n k (PutChar d s) f w e = absurd (true≢false (sym e))
