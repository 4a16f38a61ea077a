-- An instruction and an end under other names do the same where the registers and arrays that they name hold the same.
use Rattle.std.proofs.Common.{◌≡◌, ℕ, zero, suc, List, [], ◌∷◌, Bool, true, false, refl, ap, ap₂, subst, sym, ◌∙◌, eq-eqb, eqb-true}
use Rattle.std.specs.Prelude.{nat_eq, nat_lt, if◌then◌else◌, Option, Some, None, option_map}
use Rattle.std.specs.List.{list_any}
use Rattle.hlo_num.specs.Words.{convert}
use Rattle.hlo_num.specs.Operators.{operate}
use Rattle.il_core.specs.declared.instr.Instr.{Instr}
use Rattle.il_core.specs.declared.instr.Instr.TheVariants.{Const, Move, Conv, Bin, Get, Set, GetX, SetX, GetA, SetA, Clear, Turn, Call, GetChar, PutChar}
use Rattle.il_core.specs.declared.instr.End.{End}
use Rattle.il_core.specs.declared.instr.End.TheVariants as ends
use Rattle.il_core.specs.World.{World, Outcome, Returns, Ends, Stuck, Exit, ended, low_byte, after_put, choose, put, put_element, with_object, each}
use Rattle.il_core.specs.Meaning.{Frame, with_reg, cleared, received, is_among, Lengths, Next, Act, step}
use Rattle.il_core.specs.Operands.{reads, end_reads, is_named, array_of, object_of, callee_of, Names, as_is, renamed, renamed_end}
use Rattle.il_core.proofs.Effects.{Effect, GoesOn, inside, answered, spent, effect, step_is, Way, On, Back, Over, way}
use Rattle.il_core.proofs.Following.{if_alike, first_named, later_named, second_named, Both, follow_both, word_both, inside_both}

-- different numbers stay different, and a range is moved as a whole
pub record KeepsApart (to : ℕ → ℕ) : Type 0 where
  pub same : (x y : ℕ) → nat_eq (to x) (to y) ≡ nat_eq x y
  pub among : (r c x : ℕ) → is_among (to r) c (to x) ≡ is_among r c x

pub as_is_apart : KeepsApart (λ x. x)
as_is_apart = record { same = λ x y. refl; among = λ r c x. refl }

-- frame g holds under the new names what f holds in the registers of which P is true and the arrays of which Q is
pub record Holds (m : Names) (P Q : ℕ → Type 0) (f g : Frame) : Type 0 where
  pub reg : (x : ℕ) → P x → f.regs x ≡ g.regs (m.reg x)
  pub array : (x : ℕ) → Q x → f.arrays x ≡ g.arrays (m.array x)

-- the lengths are the same under the new names
pub record SameLengths (m : Names) (Q : ℕ → Type 0) (n n1 : Lengths) : Type 0 where
  pub array : (x : ℕ) → Q x → n.array x ≡ n1.array (m.array x)
  pub object : (x : ℕ) → n.object x ≡ n1.object x

-- an instruction reads such registers and names such an array, and its object keeps its PID
pub record IsWithin (m : Names) (P Q : ℕ → Type 0) (i : Instr) : Type 0 where
  pub reg : (x : ℕ) → reads i x ≡ true → P x
  pub array : (x : ℕ) → is_named (array_of i) x ≡ true → Q x
  pub object : (x : ℕ) → is_named (object_of i) x ≡ true → m.pid x ≡ x

-- a test under other names
if_moved : {A : Type 0} (b b1 : Bool) (v v1 x x1 : A) → b1 ≡ b → v ≡ v1 → x ≡ x1 → (if b then v else x) ≡ (if b1 then v1 else x1)
if_moved {A} b b1 v v1 x x1 e same h = if_alike b v v1 x x1 same (λ no. h) ∙ ap (λ (c : Bool). if c then v1 else x1) (sym e)

-- the same world, and frames that hold the same under the new names
abbrev pub HoldsIn : {S : Type 0} → Names → (ℕ → Type 0) → (ℕ → Type 0) → Frame → World S → Frame → World S → Type 0
HoldsIn m P Q f w g v = (w ≡ v) × Holds m P Q f g

choose_moved : (m : Names) (v v1 t u : ℕ) → v ≡ v1 → m.block (choose v t u) ≡ choose v1 (m.block t) (m.block u)
choose_moved m v v1 t u e = at v ∙ ap (λ (x : ℕ). choose x (m.block t) (m.block u)) e
  where
    at : (x : ℕ) → m.block (choose x t u) ≡ choose x (m.block t) (m.block u)
    at zero = refl
    at (suc x) = refl

module _ (m : Names) (P Q : ℕ → Type 0) (regs : KeepsApart m.reg) (arrays : KeepsApart m.array) where
  abbrev Kept : Frame → Frame → Type 0
  Kept f g = Holds m P Q f g

  pub holds_put : (f g : Frame) (d v v1 : ℕ) → v ≡ v1 → Kept f g → Kept (with_reg f d v) (with_reg g (m.reg d) v1)
  holds_put f g d v v1 same h = record {
    reg = λ x fits. if_moved (nat_eq x d) (nat_eq (m.reg x) (m.reg d)) v v1 (f.regs x) (g.regs (m.reg x)) (regs.same x d) same (h.reg x fits);
    array = h.array;
  }

  pub holds_received : (f g : Frame) (dest : Option ℕ) (v : ℕ) → Kept f g → Kept (received f dest v) (received g (option_map m.reg dest) v)
  holds_received f g None v h = h
  holds_received f g (Some d) v h = holds_put f g d v v refl h

  pub holds_cleared : (f g : Frame) (r c a l : ℕ) → Kept f g → Kept (cleared f r c a l) (cleared g (m.reg r) c (m.array a) l)
  holds_cleared f g r c a l h = record {
    reg = λ x fits. if_moved (is_among r c x) (is_among (m.reg r) c (m.reg x)) 0 0 (f.regs x) (g.regs (m.reg x)) (regs.among r c x) refl (h.reg x fits);
    array = λ x fits.
        ap₂ {A = Bool} {B = ℕ → ℕ} {C = ℕ → ℕ} (λ t s. λ j. if t then 0 else s j) (sym (arrays.among a l x)) (h.array x fits);
  }

  holds_element : (f g : Frame) (a i i1 v v1 : ℕ) → i ≡ i1 → v ≡ v1 → Kept f g
      → Kept (record f { arrays = put_element f.arrays a i v }) (record g { arrays = put_element g.arrays (m.array a) i1 v1 })
  holds_element f g a i i1 v v1 same_i same_v h = record {
    reg = h.reg;
    array = λ x fits. at x fits (nat_eq x a) refl;
  }
    where
      at : (x : ℕ) → Q x → (t : Bool) → nat_eq x a ≡ t
          → (if nat_eq x a then put (f.arrays a) i v else f.arrays x) ≡
          (if nat_eq (m.array x) (m.array a) then put (g.arrays (m.array a)) i1 v1 else g.arrays (m.array x))
      at x fits true e =
          ap (λ (c : Bool). if c then put (f.arrays a) i v else f.arrays x) e
          ∙ ap (λ (s : ℕ → ℕ). put s i v) (subst (λ (y : ℕ). f.arrays y ≡ g.arrays (m.array y)) (eqb-true x a e) (h.array x fits))
          ∙ ap₂ {A = ℕ} {B = ℕ} {C = ℕ → ℕ} (λ y z. put (g.arrays (m.array a)) y z) same_i same_v
          ∙ sym (ap (λ (c : Bool). if c then put (g.arrays (m.array a)) i1 v1 else g.arrays (m.array x)) (arrays.same x a ∙ e))
      at x fits false e =
          ap (λ (c : Bool). if c then put (f.arrays a) i v else f.arrays x) e
          ∙ h.array x fits
          ∙ sym (ap (λ (c : Bool). if c then put (g.arrays (m.array a)) i1 v1 else g.arrays (m.array x)) (arrays.same x a ∙ e))

  each_renamed : (f g : Frame) (xs : List ℕ) → ((x : ℕ) → list_any (nat_eq x) xs ≡ true → P x) → Kept f g → each f.regs xs ≡ each g.regs (each m.reg xs)
  each_renamed f g [] fits h = refl
  each_renamed f g (x ∷ xs) fits h =
      ap₂ {A = ℕ} {B = List ℕ} {C = List ℕ} (λ y ys. y ∷ ys) (h.reg x (fits x (first_named x xs)))
      (each_renamed f g xs (λ y e. fits y (later_named y x xs e)) h)

  module _ {S : Type 0} where
    abbrev HoldBoth : Effect S → Effect S → Type 0
    HoldBoth a b = Both (λ f w g v. HoldsIn m P Q f w g v) a b

    answered_renamed : (f g : Frame) (dest : Option ℕ) (o : Outcome S) → Kept f g → HoldBoth (answered o f dest) (answered o g (option_map m.reg dest))
    answered_renamed f g dest (Returns v w) h = (refl, holds_received f g dest v h)
    answered_renamed f g dest (Ends e output log) h = refl
    answered_renamed f g dest Stuck h = refl

    spent_renamed : (f g : Frame) (w : World S) (t : ℕ) → Kept f g → HoldBoth (spent f w t) (spent g w t)
    spent_renamed f g w zero h = refl
    spent_renamed f g w (suc t) h = (refl, h)

    module _ (call call1 : Act S) (n n1 : Lengths) (lengths : SameLengths m Q n n1) (k k1 : ℕ) where
      -- an object under its own PID
      access : (q i i1 : ℕ) (f g f1 g1 : Frame) (w w1 w2 : World S) → m.pid q ≡ q → i ≡ i1 → HoldsIn m P Q f1 w1 g1 w2
          → HoldBoth (inside (nat_lt i (n.object q)) w (GoesOn f1 w1)) (inside (nat_lt i1 (n1.object (m.pid q))) w (GoesOn g1 w2))
      access q i i1 f g f1 g1 w w1 w2 pid same h =
          inside_both _ (nat_lt i (n.object q)) (nat_lt i1 (n1.object (m.pid q))) w w1 w2 f1 g1
          (ap₂ {A = ℕ} {B = ℕ} {C = Bool} nat_lt same (lengths.object q ∙ ap n1.object (sym pid))) h

      -- An instruction under other names does the same, where the routine that it calls does the same under its other PID.
      pub effect_renamed : (i : Instr) (f g : Frame) (w : World S) → IsWithin m P Q i
          → ((q : ℕ) (args : List ℕ) (v : World S) → callee_of i ≡ Some q → call k q args v ≡ call1 k1 (m.pid q) args v) → Kept f g
          → HoldBoth (effect call n k i f w) (effect call1 n1 k1 (renamed m i) g w)
      effect_renamed (Const d v) f g w fits calls h = (refl, holds_put f g d _ _ refl h)
      effect_renamed (Move d s) f g w fits calls h = (refl, holds_put f g d _ _ (h.reg s (fits.reg s (first_named s []))) h)
      effect_renamed (Conv d t s) f g w fits calls h =
          (refl, holds_put f g d _ _ (ap (λ (v : ℕ). convert t v) (h.reg s (fits.reg s (first_named s [])))) h)
      effect_renamed (Bin o d a b) f g w fits calls h =
          word_both _ (operate o (f.regs a) (f.regs b)) (operate o (g.regs (m.reg a)) (g.regs (m.reg b))) f g d (m.reg d) w
          (ap₂ {A = ℕ} {B = ℕ} (λ x y. operate o x y) (h.reg a (fits.reg a (first_named a (b ∷ [])))) (h.reg b (fits.reg b (second_named a b))))
          (λ v. (refl, holds_put f g d v v refl h))
      effect_renamed (Get d q) f g w fits calls h =
          (refl, holds_put f g d _ _ (ap (λ (x : ℕ). w.objects x 0) (sym (fits.object q (eq-eqb q q refl)))) h)
      effect_renamed (Set q s) f g w fits calls h =
          (ap₂ {A = ℕ} {B = ℕ} {C = World S} (λ x v. with_object w x 0 v) (sym (fits.object q (eq-eqb q q refl))) (h.reg s (fits.reg s (first_named s []))), h)
      effect_renamed (GetX d q i) f g w fits calls h =
          let pid = fits.object q (eq-eqb q q refl) in
          let index = h.reg i (fits.reg i (first_named i [])) in
          access q (f.regs i) (g.regs (m.reg i)) f g (with_reg f d (w.objects q (f.regs i))) (with_reg g (m.reg d) (w.objects (m.pid q) (g.regs (m.reg i)))) w w
          w
          pid index (refl, holds_put f g d _ _ (ap₂ {A = ℕ} {B = ℕ} {C = ℕ} (λ x v. w.objects x v) (sym pid) index) h)
      effect_renamed (SetX q i s) f g w fits calls h =
          let pid = fits.object q (eq-eqb q q refl) in
          let index = h.reg i (fits.reg i (first_named i (s ∷ []))) in
          access q (f.regs i) (g.regs (m.reg i)) f g f g w (with_object w q (f.regs i) (f.regs s))
          (with_object w (m.pid q) (g.regs (m.reg i)) (g.regs (m.reg s)))
          pid index (
            ap₂ {A = ℕ} {B = ℕ} {C = World S} (λ x v. with_object w x v (f.regs s)) (sym pid) index
                ∙ ap (λ (v : ℕ). with_object w (m.pid q) (g.regs (m.reg i)) v) (h.reg s (fits.reg s (second_named i s))),
            h,
          )
      effect_renamed (GetA d a i) f g w fits calls h =
          let index = h.reg i (fits.reg i (first_named i [])) in
          let named = fits.array a (eq-eqb a a refl) in
          inside_both _ (nat_lt (f.regs i) (n.array a)) (nat_lt (g.regs (m.reg i)) (n1.array (m.array a))) w w w (with_reg f d (f.arrays a (f.regs i)))
          (with_reg g (m.reg d) (g.arrays (m.array a) (g.regs (m.reg i))))
          (ap₂ {A = ℕ} {B = ℕ} {C = Bool} nat_lt index (lengths.array a named))
          (refl, holds_put f g d _ _ (ap₂ {A = ℕ → ℕ} {B = ℕ} {C = ℕ} (λ s v. s v) (h.array a named) index) h)
      effect_renamed (SetA a i s) f g w fits calls h =
          let index = h.reg i (fits.reg i (first_named i (s ∷ []))) in
          inside_both _ (nat_lt (f.regs i) (n.array a)) (nat_lt (g.regs (m.reg i)) (n1.array (m.array a))) w w w
          (record f { arrays = put_element f.arrays a (f.regs i) (f.regs s) })
          (record g { arrays = put_element g.arrays (m.array a) (g.regs (m.reg i)) (g.regs (m.reg s)) })
          (ap₂ {A = ℕ} {B = ℕ} {C = Bool} nat_lt index (lengths.array a (fits.array a (eq-eqb a a refl))))
          (refl, holds_element f g a _ _ _ _ index (h.reg s (fits.reg s (second_named i s))) h)
      effect_renamed (Clear r c a l) f g w fits calls h = (refl, holds_cleared f g r c a l h)
      effect_renamed Turn f g w fits calls h = spent_renamed f g w w.turns h
      effect_renamed (Call dest q count args) f g w fits calls h =
          subst (λ (o : Outcome S). HoldBoth (answered (call k q (each f.regs args) w) f dest) (answered o g (option_map m.reg dest)))
          (ap (λ (vs : List ℕ). call k q vs w) (each_renamed f g args fits.reg h) ∙ calls q (each g.regs (each m.reg args)) w refl)
          (answered_renamed f g dest (call k q (each f.regs args) w) h)
      effect_renamed (GetChar d) f g w fits calls h = (refl, holds_put f g d _ _ refl h)
      effect_renamed (PutChar d s) f g w fits calls h =
          let same = h.reg s (fits.reg s (first_named s [])) in
          (ap (λ (v : ℕ). after_put v w) same, holds_put f g d _ _ (ap low_byte same) h)

      -- so the renamed instruction may stand fits its place, where what follows takes the new names
      pub step_renamed : (i : Instr) (go go1 : Next S) (f g : Frame) (w : World S) → IsWithin m P Q i
          → ((q : ℕ) (args : List ℕ) (v : World S) → callee_of i ≡ Some q → call k q args v ≡ call1 k1 (m.pid q) args v) → Kept f g
          → ((f1 g1 : Frame) (w1 : World S) → Kept f1 g1 → go f1 w1 ≡ go1 g1 w1) → step call n k i go f w ≡ step call1 n1 k1 (renamed m i) go1 g w
      step_renamed i go go1 f g w fits calls h next =
          step_is call n k i go f w
          ∙ follow_both _ (effect call n k i f w) (effect call1 n1 k1 (renamed m i) g w) go go1 (effect_renamed i f g w fits calls h)
          (λ f1 g1 w1 w2 r. next f1 g1 w1 r.1 ∙ ap (λ (v : World S). go1 g1 v) r.0)
          ∙ sym (step_is call1 n1 k1 (renamed m i) go1 g w)

    -- where the renamed end leads
    abbrev pub way_moved : Way S → Way S
    way_moved (On t) = On (m.block t)
    way_moved (Back t) = Back (m.block t)
    way_moved (Over o) = Over o

    pub way_renamed : (e : End) (f g : Frame) (w : World S) → ((x : ℕ) → end_reads e x ≡ true → P x) → Kept f g
        → way_moved (way e f w) ≡ way (renamed_end m e) g w
    way_renamed (ends.Jump t) f g w fits h = refl
    way_renamed (ends.Branch r t u) f g w fits h = ap On (choose_moved m (f.regs r) (g.regs (m.reg r)) t u (h.reg r (fits r (eq-eqb r r refl))))
    way_renamed (ends.Loop t) f g w fits h = refl
    way_renamed (ends.Return None) f g w fits h = refl
    way_renamed (ends.Return (Some r)) f g w fits h = ap (λ (v : ℕ). Over (Returns v w)) (h.reg r (fits r (eq-eqb r r refl)))
    way_renamed (ends.Exit r) f g w fits h = ap (λ (v : ℕ). Over (ended (Exit v) w)) (h.reg r (fits r (eq-eqb r r refl)))

-- ---- nothing under another name

each_as_is : (xs : List ℕ) → each (λ x. x) xs ≡ xs
each_as_is [] = refl
each_as_is (x ∷ xs) = ap (λ (ys : List ℕ). x ∷ ys) (each_as_is xs)

option_as_is : (o : Option ℕ) → option_map (λ x. x) o ≡ o
option_as_is None = refl
option_as_is (Some x) = refl

pub renamed_as_is : (i : Instr) → renamed as_is i ≡ i
renamed_as_is (Const d v) = refl
renamed_as_is (Move d s) = refl
renamed_as_is (Conv d t s) = refl
renamed_as_is (Bin o d a b) = refl
renamed_as_is (Get d g) = refl
renamed_as_is (Set g s) = refl
renamed_as_is (GetX d g i) = refl
renamed_as_is (SetX g i s) = refl
renamed_as_is (GetA d a i) = refl
renamed_as_is (SetA a i s) = refl
renamed_as_is (Clear r c a l) = refl
renamed_as_is Turn = refl
renamed_as_is (Call dest callee count args) =
    ap₂ {A = Option ℕ} {B = List ℕ} {C = Instr} (λ d xs. Call d callee count xs) (option_as_is dest) (each_as_is args)
renamed_as_is (GetChar d) = refl
renamed_as_is (PutChar d s) = refl

pub renamed_end_as_is : (e : End) → renamed_end as_is e ≡ e
renamed_end_as_is (ends.Jump t) = refl
renamed_end_as_is (ends.Branch r t u) = refl
renamed_end_as_is (ends.Loop t) = refl
renamed_end_as_is (ends.Return r) = ap ends.Return (option_as_is r)
renamed_end_as_is (ends.Exit r) = refl
