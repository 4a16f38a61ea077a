-- What an instruction or an end doesn't read doesn't matter to it.
use Rattle.std.proofs.Common.{◌≡◌, ℕ, zero, suc, List, [], ◌∷◌, Bool, true, false, refl, ap, ap₂, subst, sym, ◌∙◌, eq-eqb, eqb-true}
use Rattle.std.specs.Prelude.{nat_eq, nat_lt, if◌then◌else◌, Option, Some, None}
use Rattle.hlo_num.specs.Words.{convert}
use Rattle.hlo_num.specs.Operators.{operate}
use Rattle.il_core.specs.declared.instr.Instr.{Instr}
use Rattle.il_core.specs.declared.instr.Instr.TheVariants.{Const, Move, Conv, Bin, Get, Set, GetX, SetX, GetA, SetA, Clear, Turn, Call, GetChar, PutChar}
use Rattle.il_core.specs.declared.instr.End.{End}
use Rattle.il_core.specs.declared.instr.End.TheVariants as ends
use Rattle.il_core.specs.World.{World, Outcome, Returns, Ends, Stuck, Exit, ended, low_byte, after_put, choose, put, put_element, with_object, each}
use Rattle.il_core.specs.Meaning.{Frame, with_reg, received, is_among, Lengths, Next, Act, step}
use Rattle.il_core.specs.Operands.{reads, end_reads, is_named, writes, array_read}
use Rattle.il_core.proofs.Effects.{Effect, answered, spent, effect, step_is, On, Over, way}
use Rattle.il_core.proofs.Following.{if_alike, first_named, second_named, each_alike, Both, follow_both, word_both, inside_both}

-- two frames hold the same in what an instruction reads
pub record SameSources (i : Instr) (f g : Frame) : Type 0 where
  pub regs : (x : ℕ) → reads i x ≡ true → f.regs x ≡ g.regs x
  pub array : (a : ℕ) → is_named (array_read i) a ≡ true → f.arrays a ≡ g.arrays a

-- Behind it they hold the same in each register that it writes or that was the same, and in each array that was.
pub record SameBehind (i : Instr) (f g f1 g1 : Frame) : Type 0 where
  pub regs : (x : ℕ) → (writes i x ≡ false → f.regs x ≡ g.regs x) → f1.regs x ≡ g1.regs x
  pub arrays : (a : ℕ) → f.arrays a ≡ g.arrays a → f1.arrays a ≡ g1.arrays a

put_alike : (i : Instr) (d v v1 : ℕ) (f g : Frame) → ((x : ℕ) → writes i x ≡ nat_eq x d) → v ≡ v1 → SameBehind i f g (with_reg f d v) (with_reg g d v1)
put_alike i d v v1 f g at same = record {
  regs = λ x h. if_alike (nat_eq x d) v v1 (f.regs x) (g.regs x) same (λ e. h (at x ∙ e));
  arrays = λ a h. h;
}

-- nothing is written in registers and arrays
none_alike : (i : Instr) (f g : Frame) → ((x : ℕ) → writes i x ≡ false) → SameBehind i f g f g
none_alike i f g at = record { regs = λ x h. h (at x); arrays = λ a h. h }

received_alike : (dest : Option ℕ) (callee count v : ℕ) (args : List ℕ) (f g : Frame)
    → SameBehind (Call dest callee count args) f g (received f dest v) (received g dest v)
received_alike None callee count v args f g = record { regs = λ x h. h refl; arrays = λ a h. h }
received_alike (Some d) callee count v args f g =
    record { regs = λ x h. if_alike (nat_eq x d) v v (f.regs x) (g.regs x) refl h; arrays = λ a h. h }

element_alike : (f g : ℕ → ℕ → ℕ) (a i i1 v v1 b : ℕ) → i ≡ i1 → v ≡ v1 → f b ≡ g b → put_element f a i v b ≡ put_element g a i1 v1 b
element_alike f g a i i1 v v1 b same_i same_v h =
    at (nat_eq b a) refl ∙ ap₂ {A = ℕ} {B = ℕ} {C = ℕ → ℕ} (λ x y. put_element g a x y b) same_i same_v
  where
    at : (t : Bool) → nat_eq b a ≡ t → (if t then put (f a) i v else f b) ≡ (if t then put (g a) i v else g b)
    at true e = ap (λ (s : ℕ → ℕ). put s i v) (subst (λ (c : ℕ). f c ≡ g c) (eqb-true b a e) h)
    at false e = h

-- the same world and frames that are alike behind the instruction
abbrev pub AlikeBehind : {S : Type 0} → Instr → Frame → Frame → Frame → World S → Frame → World S → Type 0
AlikeBehind i f g f1 w1 g1 w2 = (w1 ≡ w2) × SameBehind i f g f1 g1

module _ {S : Type 0} where
  abbrev Alike : Instr → Frame → Frame → Effect S → Effect S → Type 0
  Alike i f g a b = Both (λ f1 w1 g1 w2. AlikeBehind i f g f1 w1 g1 w2) a b

  answer_alike : (dest : Option ℕ) (callee count : ℕ) (args : List ℕ) (f g : Frame) (o : Outcome S)
      → Alike (Call dest callee count args) f g (answered o f dest) (answered o g dest)
  answer_alike dest callee count args f g (Returns v w) = (refl, received_alike dest callee count v args f g)
  answer_alike dest callee count args f g (Ends e output log) = refl
  answer_alike dest callee count args f g Stuck = refl

  spent_alike : (t : ℕ) (f g : Frame) (w : World S) → Alike Turn f g (spent f w t) (spent g w t)
  spent_alike zero f g w = refl
  spent_alike (suc t) f g w = (refl, none_alike Turn f g (λ x. refl))

  -- from frames that hold the same in its sources an instruction does the same
  pub unread : (call : Act S) (n : Lengths) (k : ℕ) (i : Instr) (f g : Frame) (w : World S) → SameSources i f g
      → Alike i f g (effect call n k i f w) (effect call n k i g w)
  unread call n k (Const d v) f g w h = (refl, put_alike (Const d v) d v.0 v.0 f g (λ x. refl) refl)
  unread call n k (Move d s) f g w h = (refl, put_alike (Move d s) d _ _ f g (λ x. refl) (h.regs s (first_named s [])))
  unread call n k (Conv d t s) f g w h =
      (refl, put_alike (Conv d t s) d _ _ f g (λ x. refl) (ap (λ (v : ℕ). convert t v) (h.regs s (first_named s []))))
  unread call n k (Bin o d a b) f g w h =
      word_both _ (operate o (f.regs a) (f.regs b)) (operate o (g.regs a) (g.regs b)) f g d d w
      (ap (λ (v : ℕ). operate o v (f.regs b)) (h.regs a (first_named a (b ∷ []))) ∙ ap (λ (v : ℕ). operate o (g.regs a) v) (h.regs b (second_named a b)))
      (λ v. (refl, put_alike (Bin o d a b) d v v f g (λ x. refl) refl))
  unread call n k (Get d q) f g w h = (refl, put_alike (Get d q) d _ _ f g (λ x. refl) refl)
  unread call n k (Set q s) f g w h =
      (ap (λ (v : ℕ). with_object w q 0 v) (h.regs s (first_named s [])), none_alike (Set q s) f g (λ x. refl))
  unread call n k (GetX d q i) f g w h =
      let index = h.regs i (first_named i []) in
      inside_both _ (nat_lt (f.regs i) (n.object q)) (nat_lt (g.regs i) (n.object q)) w w w (with_reg f d _) (with_reg g d _)
      (ap (λ (v : ℕ). nat_lt v (n.object q)) index)
      (refl, put_alike (GetX d q i) d _ _ f g (λ x. refl) (ap (λ (v : ℕ). w.objects q v) index))
  unread call n k (SetX q i s) f g w h =
      let index = h.regs i (first_named i (s ∷ [])) in
      inside_both _ (nat_lt (f.regs i) (n.object q)) (nat_lt (g.regs i) (n.object q)) w
      (with_object w q (f.regs i) (f.regs s)) (with_object w q (g.regs i) (g.regs s)) f g (ap (λ (v : ℕ). nat_lt v (n.object q)) index)
      (ap₂ {A = ℕ} {B = ℕ} {C = World S} (λ x y. with_object w q x y) index (h.regs s (second_named i s)), none_alike (SetX q i s) f g (λ x. refl))
  unread call n k (GetA d a i) f g w h =
      let index = h.regs i (first_named i []) in
      inside_both _ (nat_lt (f.regs i) (n.array a)) (nat_lt (g.regs i) (n.array a)) w w w (with_reg f d _) (with_reg g d _)
      (ap (λ (v : ℕ). nat_lt v (n.array a)) index) (
        refl,
        put_alike (GetA d a i) d _ _ f g (λ x. refl)
            (ap₂ {A = ℕ → ℕ} {B = ℕ} {C = ℕ} (λ s v. s v) (h.array a (eq-eqb a a refl)) index),
      )
  unread call n k (SetA a i s) f g w h =
      let index = h.regs i (first_named i (s ∷ [])) in
      inside_both _ (nat_lt (f.regs i) (n.array a)) (nat_lt (g.regs i) (n.array a)) w w w
      (record f { arrays = put_element f.arrays a (f.regs i) (f.regs s) }) (record g { arrays = put_element g.arrays a (g.regs i) (g.regs s) })
      (ap (λ (v : ℕ). nat_lt v (n.array a)) index) (
        refl,
        record {
          regs = λ x same. same refl;
          arrays = λ b same. element_alike f.arrays g.arrays a _ _ _ _ b index (h.regs s (second_named i s)) same;
        },
      )
  unread call n k (Clear r c a m) f g w h = (
    refl,
    record {
      regs = λ x same. if_alike (is_among r c x) 0 0 (f.regs x) (g.regs x) refl same;
      arrays = λ b same. ap (λ (s : ℕ → ℕ). λ j. if is_among a m b then 0 else s j) same;
    },
  )
  unread call n k Turn f g w h = spent_alike w.turns f g w
  unread call n k (Call dest callee count args) f g w h =
      subst (λ (vs : List ℕ). Alike (Call dest callee count args) f g (answered (call k callee (each f.regs args) w) f dest)
      (answered (call k callee vs w) g dest))
      (each_alike f.regs g.regs args h.regs) (answer_alike dest callee count args f g (call k callee (each f.regs args) w))
  unread call n k (GetChar d) f g w h = (refl, put_alike (GetChar d) d _ _ f g (λ x. refl) refl)
  unread call n k (PutChar d s) f g w h =
      let same = h.regs s (first_named s []) in
      (ap (λ (v : ℕ). after_put v w) same, put_alike (PutChar d s) d _ _ f g (λ x. refl) (ap low_byte same))

  -- so what an instruction doesn't read doesn't matter, where it doesn't matter to what follows
  pub step_unread : (call : Act S) (n : Lengths) (k : ℕ) (i : Instr) (go go1 : Next S) (f g : Frame) (w : World S) → SameSources i f g
      → ((f1 g1 : Frame) (w1 : World S) → SameBehind i f g f1 g1 → go f1 w1 ≡ go1 g1 w1) → step call n k i go f w ≡ step call n k i go1 g w
  step_unread call n k i go go1 f g w same h =
      step_is call n k i go f w
      ∙ follow_both _ (effect call n k i f w) (effect call n k i g w) go go1 (unread call n k i f g w same)
      (λ f1 g1 w1 w2 r. h f1 g1 w1 r.1 ∙ ap (λ (v : World S). go1 g1 v) r.0)
      ∙ sym (step_is call n k i go1 g w)

  -- an end leads the same way from frames that hold the same in the register that it reads
  pub way_unread : (e : End) (f g : Frame) (w : World S) → ((x : ℕ) → end_reads e x ≡ true → f.regs x ≡ g.regs x) → way e f w ≡ way e g w
  way_unread (ends.Jump t) f g w h = refl
  way_unread (ends.Branch r t u) f g w h = ap (λ (v : ℕ). On (choose v t u)) (h r (eq-eqb r r refl))
  way_unread (ends.Loop t) f g w h = refl
  way_unread (ends.Return None) f g w h = refl
  way_unread (ends.Return (Some r)) f g w h = ap (λ (v : ℕ). Over (Returns v w)) (h r (eq-eqb r r refl))
  way_unread (ends.Exit r) f g w h = ap (λ (v : ℕ). Over (ended (Exit v) w)) (h r (eq-eqb r r refl))
