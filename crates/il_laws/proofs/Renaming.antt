-- Instructions under other names do the same where the registers and arrays that they name hold the same.
use Rattle.std.proofs.Common.{◌≡◌, ℕ, zero, suc, ◌+◌, ◌<◌, ◌≤◌, List, [], ◌∷◌, map, option_map, Bool, true, false, refl, ap, ap₂, sym, ◌∙◌, arith}
use Rattle.std.proofs.Common.{ne_eqb, eq-eqb, eqb-true}
use Rattle.std.specs.Prelude.{nat_eq, if◌then◌else◌, Option, Some, None, Result, Ok, Err}
use Rattle.std.specs.List.{AllByRecursion}
use Rattle.std.proofs.lemmas.Bool.{eqb-false}
use Rattle.std.proofs.lemmas.Bool.Decides.{nat_tests}
use Rattle.hlo_num.specs.declared.word.Trap.{Trap}
use Rattle.hlo_num.specs.Operators.{operate}
use Rattle.hlo_num.specs.Words.{convert}
use Rattle.il_core.specs.declared.instr.Instr.{Instr}
use Rattle.il_core.specs.declared.instr.Instr.TheVariants.{Const, Move, Conv, Bin, Get, Set, GetX, SetX, GetA, SetA, Clear, Turn, Call, GetChar, PutChar}
use Rattle.il_core.specs.declared.shape.ShapeRow.{ShapeRow}
use Rattle.il_core.specs.Valid.{IsValidInstr}
use Rattle.il_core.specs.World.{World, OutOfTurns, Outcome, Returns, Ends, Stuck, ended, first_byte, after_get, low_byte, after_put, turn_at, put}
use Rattle.il_core.specs.World.{put_element, with_object, each, with_word, within, with_return}
use Rattle.il_core.specs.Meaning.{Frame, with_reg, cleared, is_among, received, Lengths, Next, step}
use Rattle.il_core.specs.Operands.{Names, as_is, renamed}
use Rattle.il_core.proofs.Renaming.{renamed_as_is}
use Rattle.il_laws.specs.Runs.{Calls, silent, does}
use Rattle.il_laws.proofs.Alike.{Falls, CallsAlike, anything}
use Rattle.il_laws.proofs.Induction.{Agree}

-- numbers become other ones, all of them from `low` on, and different ones stay different
pub record IsShift (low : ℕ) (to : ℕ → ℕ) : Type 0 where
  pub same : (x y : ℕ) → nat_eq (to x) (to y) ≡ nat_eq x y
  pub among : (r k x : ℕ) → is_among (to r) k (to x) ≡ is_among r k x
  pub above : (r x : ℕ) → x < low → nat_eq x (to r) ≡ false
  pub beyond : (r k x : ℕ) → x < low → is_among (to r) k x ≡ false

pub no_shift : IsShift 0 (λ x. x)
no_shift =
    record {
      same = λ x y. refl;
      among = λ r k x. refl;
      above = λ r x lt. absurd (omega arith);
      beyond = λ r k x lt. absurd (omega arith);
    }

shift_same : (r x y : ℕ) (k : Bool) → nat_eq x y ≡ k → nat_eq (r + x) (r + y) ≡ k
shift_same r x y true e = let same : x ≡ y = eqb-true x y e in eq-eqb (r + x) (r + y) (omega arith)
shift_same r x y false e = ne_eqb (r + x) (r + y) (λ same. eqb-false x y e (omega arith))

shift_among : (s r k x : ℕ) → is_among (s + r) k (s + x) ≡ is_among r k x
shift_among s r k x = grind (arith, nat_tests)

shift_beyond : (s r k x : ℕ) → x < s → is_among (s + r) k x ≡ false
shift_beyond s r k x lt = grind (arith, nat_tests)

pub shift_by : (r : ℕ) → IsShift r (λ x. r + x)
shift_by r =
    record {
      same = λ x y. shift_same r x y (nat_eq x y) refl;
      among = λ s k x. shift_among r s k x;
      above = λ s x lt. ne_eqb x (r + s) (λ same. absurd (omega arith));
      beyond = λ s k x lt. shift_beyond r s k x lt;
    }

-- Frame g holds under the new names what f holds in so many registers and arrays, and what e holds below the shifts.
pub record Holds (low low_array : ℕ) (m : Names) (regs arrays : ℕ) (e f g : Frame) : Type 0 where
  pub reg : (x : ℕ) → x < regs → f.regs x ≡ g.regs (m.reg x)
  pub array : (x : ℕ) → x < arrays → f.arrays x ≡ g.arrays (m.array x)
  pub below : (x : ℕ) → x < low → e.regs x ≡ g.regs x
  pub array_below : (x : ℕ) → x < low_array → e.arrays x ≡ g.arrays x

-- a value that a test gives on both sides, and one that it gives on neither
if_both : {A : Type 0} (k k1 : Bool) (v a b : A) → k1 ≡ k → a ≡ b → (if k then v else a) ≡ (if k1 then v else b)
if_both {A} k k1 v a b e h = ap₂ {A = Bool} {B = A} {C = A} (λ l c. if l then v else c) (sym e) h

if_not : {A : Type 0} (k : Bool) (v a b : A) → k ≡ false → a ≡ b → a ≡ (if k then v else b)
if_not {A} k v a b e h = h ∙ ap (λ (l : Bool). if l then v else b) (sym e)

-- the lengths of arrays under the new names
pub record SameLengths (m : Names) (arrays : ℕ) (n n1 : Lengths) : Type 0 where
  pub array : (x : ℕ) → x < arrays → n.array x ≡ n1.array (m.array x)
  pub object : (x : ℕ) → n.object x ≡ n1.object x

module _ (low low_array : ℕ) (to_reg to_array to_count : ℕ → ℕ) (regs arrays : ℕ) (sr : IsShift low to_reg) (sa : IsShift low_array to_array) where
  -- PIDs stay
  abbrev m : Names
  m = record as_is { reg = to_reg; array = to_array; count = to_count }

  abbrev pub Keeps : Frame → Frame → Frame → Type 0
  Keeps e f g = Holds low low_array m regs arrays e f g

  pub holds_reg : (e f g : Frame) (d v : ℕ) → Keeps e f g → Keeps e (with_reg f d v) (with_reg g (m.reg d) v)
  holds_reg e f g d v h =
      record {
        reg = λ x lt. if_both (nat_eq x d) (nat_eq (m.reg x) (m.reg d)) v (f.regs x) (g.regs (m.reg x)) (sr.same x d) (h.reg x lt);
        array = λ x lt. h.array x lt;
        below = λ x lt. if_not (nat_eq x (m.reg d)) v (e.regs x) (g.regs x) (sr.above d x lt) (h.below x lt);
        array_below = λ x lt. h.array_below x lt;
      }

  holds_array : (e f g : Frame) (a i v : ℕ) → a < arrays → Keeps e f g
      → Keeps e (record f { arrays = put_element f.arrays a i v }) (record g { arrays = put_element g.arrays (m.array a) i v })
  holds_array e f g a i v la h =
      let there = put (g.arrays (m.array a)) i v in
      let new : put (f.arrays a) i v ≡ there = ap (λ (s : ℕ → ℕ). put s i v) (h.array a la) in
      record {
        reg = λ x lt. h.reg x lt;
        array = λ x lt. ap (λ (s : ℕ → ℕ). if nat_eq x a then s else f.arrays x) new
            ∙ if_both (nat_eq x a) (nat_eq (m.array x) (m.array a)) there (f.arrays x) (g.arrays (m.array x)) (sa.same x a) (h.array x lt);
        below = λ x lt. h.below x lt;
        array_below = λ x lt. if_not (nat_eq x (m.array a)) there (e.arrays x) (g.arrays x) (sa.above a x lt) (h.array_below x lt);
      }

  holds_clear : (e f g : Frame) (r c a l : ℕ) → Keeps e f g → Keeps e (cleared f r c a l) (cleared g (m.reg r) c (m.array a) l)
  holds_clear e f g r c a l h =
      record {
        reg = λ x lt. if_both (is_among r c x) (is_among (m.reg r) c (m.reg x)) 0 (f.regs x) (g.regs (m.reg x)) (sr.among r c x) (h.reg x lt);
        array = λ x lt. λ j i. if_both (is_among a l x) (is_among (m.array a) l (m.array x)) 0 (f.arrays x i) (g.arrays (m.array x) i)
            (sa.among a l x) (λ k. h.array x lt k i) j;
        below = λ x lt. if_not (is_among (m.reg r) c x) 0 (e.regs x) (g.regs x) (sr.beyond r c x lt) (h.below x lt);
        array_below = λ x lt. λ j i. if_not (is_among (m.array a) l x) 0 (e.arrays x i) (g.arrays x i)
            (sa.beyond a l x lt) (λ k. h.array_below x lt k i) j;
      }

  pub holds_received : (e f g : Frame) (dest : Option ℕ) (v : ℕ) → Keeps e f g
      → Keeps e (received f dest v) (received g (option_map m.reg dest) v)
  holds_received e f g None v h = h
  holds_received e f g (Some d) v h = holds_reg e f g d v h

  each_same : (e f g : Frame) (xs : List ℕ) → AllByRecursion (λ x. x < regs) xs → Keeps e f g → each f.regs xs ≡ each g.regs (each m.reg xs)
  each_same e f g [] lt h = refl
  each_same e f g (x ∷ xs) lt h =
      ap₂ {A = ℕ} {B = List ℕ} {C = List ℕ} (λ y ys. y ∷ ys) (h.reg x lt.0) (each_same e f g xs lt.1 h)

  module _ {S : Type 0} (c : Calls S) (falls : (t : ℕ) → CallsAlike anything t c c)
      (n n1 : Lengths) (ls : SameLengths m arrays n n1) (rows : List ShapeRow) (e : Frame) where
    -- with at most t turns left, the two do the same from frames that hold the same
    abbrev Meets : ℕ → Next S → Next S → Type 0
    Meets t a b = Agree t (λ f g. Keeps e f g) a b

    abbrev with_result : Next S → Frame → ℕ → World S → ℕ → Outcome S
    with_result a f d w v = a (with_reg f d v) w

    word_each : (t : ℕ) (a b : Next S) (d : ℕ) (r : Result ℕ Trap) (f g : Frame) (w : World S) → w.turns ≤ t → Keeps e f g → Meets t a b
        → with_word r w (with_result a f d w) ≡ with_word r w (with_result b g (m.reg d) w)
    word_each t a b d (Ok v) f g w le h go = go.by (with_reg f d v) (with_reg g (m.reg d) v) w le (holds_reg e f g d v h)
    word_each t a b d (Err x) f g w le h go = refl

    word_meets : (t : ℕ) (a b : Next S) (d : ℕ) (r r1 : Result ℕ Trap) → r ≡ r1 → (f g : Frame) (w : World S) → w.turns ≤ t → Keeps e f g
        → Meets t a b → with_word r w (with_result a f d w) ≡ with_word r1 w (with_result b g (m.reg d) w)
    word_meets t a b d r r1 same f g w le h go =
        word_each t a b d r f g w le h go ∙ ap (λ (x : Result ℕ Trap). with_word x w (with_result b g (m.reg d) w)) same

    within_meets : (i i1 l l1 : ℕ) (w : World S) (o o1 : Outcome S) → i ≡ i1 → l ≡ l1 → o ≡ o1 → within i l w o ≡ within i1 l1 w o1
    within_meets i i1 l l1 w o o1 hi hl h =
        ap (λ (x : ℕ). within x l w o) hi ∙ ap (λ (x : ℕ). within i1 x w o) hl ∙ ap (λ (x : Outcome S). within i1 l1 w x) h

    return_meets : (t : ℕ) (a b : Next S) (dest : Option ℕ) (o : Outcome S) → Falls t o → (f g : Frame) → Keeps e f g → Meets t a b
        → with_return o (λ v w. a (received f dest v) w) ≡ with_return o (λ v w. b (received g (option_map m.reg dest) v) w)
    return_meets t a b dest (Returns v w) fall f g h go =
        go.by (received f dest v) (received g (option_map m.reg dest) v) w fall (holds_received e f g dest v h)
    return_meets t a b dest (Ends x output log) fall f g h go = refl
    return_meets t a b dest Stuck fall f g h go = refl

    fewer_meet : (t u : ℕ) (a b : Next S) → u ≤ t → Meets t a b → Meets u a b
    fewer_meet t u a b le go = record { by = λ f g w lw h. go.by f g w (omega arith) h }

    turn_meets : (t : ℕ) (a b : Next S) (f g : Frame) → Keeps e f g → Meets t a b → (w : World S) (u : ℕ) → u ≤ t
        → turn_at (ended OutOfTurns w) (λ w1. a f w1) w u ≡ turn_at (ended OutOfTurns w) (λ w1. b g w1) w u
    turn_meets t a b f g h go w zero le = refl
    turn_meets t a b f g h go w (suc u) le = go.by f g (record w { turns = u }) (omega arith) h

    -- a value is put in a register on both sides
    put_meets : (t : ℕ) (a b : Next S) (d : ℕ) → Meets t a b → (f g : Frame) (w : World S) → w.turns ≤ t → Keeps e f g → (v v1 : ℕ) → v ≡ v1
        → a (with_reg f d v) w ≡ b (with_reg g (m.reg d) v1) w
    put_meets t a b d go f g w le h v v1 same =
        go.by (with_reg f d v) (with_reg g (m.reg d) v) w le (holds_reg e f g d v h) ∙ ap (λ (x : ℕ). b (with_reg g (m.reg d) x) w) same

    step_meets : (t : ℕ) (i : Instr) (a b : Next S) → IsValidInstr rows regs arrays i → Meets t a b
        → Meets t (step (silent c) n 0 i a) (step (silent c) n1 0 (renamed m i) b)
    step_meets t (Const d v) a b ok go = record { by = λ f g w le h. put_meets t a b d go f g w le h v.0 v.0 refl }
    step_meets t (Move d s) a b ok go =
        record { by = λ f g w le h. put_meets t a b d go f g w le h (f.regs s) (g.regs (m.reg s)) (h.reg s ok.1) }
    step_meets t (Conv d y s) a b ok go =
        record { by = λ f g w le h. put_meets t a b d go f g w le h _ _ (ap (λ (v : ℕ). convert y v) (h.reg s ok.1)) }
    step_meets t (Bin o d x y) a b ok go =
        record {
          by = λ f g w le h. word_meets t a b d (operate o (f.regs x) (f.regs y)) (operate o (g.regs (m.reg x)) (g.regs (m.reg y)))
              (ap (λ (v : ℕ). operate o v (f.regs y)) (h.reg x ok.1) ∙ ap (λ (v : ℕ). operate o (g.regs (m.reg x)) v) (h.reg y ok.2))
              f g w le h go;
        }
    step_meets t (Get d q) a b ok go =
        record { by = λ f g w le h. put_meets t a b d go f g w le h (w.objects q 0) (w.objects q 0) refl }
    step_meets t (Set q s) a b ok go =
        record {
          by = λ f g w le h. go.by f g (with_object w q 0 (f.regs s)) le h ∙ ap (λ (v : ℕ). b g (with_object w q 0 v)) (h.reg s ok.0);
        }
    step_meets t (GetX d q i) a b ok go =
        record {
          by = λ f g w le h. within_meets (f.regs i) (g.regs (m.reg i)) (n.object q) (n1.object q) w _ _ (h.reg i ok.1) (ls.object q)
              (put_meets t a b d go f g w le h _ _ (ap (λ (v : ℕ). w.objects q v) (h.reg i ok.1)));
        }
    step_meets t (SetX q i s) a b ok go =
        record {
          by = λ f g w le h. within_meets (f.regs i) (g.regs (m.reg i)) (n.object q) (n1.object q) w _ _ (h.reg i ok.0) (ls.object q)
              (go.by f g (with_object w q (f.regs i) (f.regs s)) le h
              ∙ ap (λ (v : ℕ). b g (with_object w q v (f.regs s))) (h.reg i ok.0)
              ∙ ap (λ (v : ℕ). b g (with_object w q (g.regs (m.reg i)) v)) (h.reg s ok.1));
        }
    step_meets t (GetA d x i) a b ok go =
        record {
          by = λ f g w le h. within_meets (f.regs i) (g.regs (m.reg i)) (n.array x) (n1.array (m.array x)) w _ _ (h.reg i ok.1) (ls.array x ok.2)
              (put_meets t a b d go f g w le h _ _
              (ap (λ (s : ℕ → ℕ). s (f.regs i)) (h.array x ok.2) ∙ ap (λ (v : ℕ). g.arrays (m.array x) v) (h.reg i ok.1)));
        }
    step_meets t (SetA x i s) a b ok go =
        record {
          by = λ f g w le h. within_meets (f.regs i) (g.regs (m.reg i)) (n.array x) (n1.array (m.array x)) w _ _ (h.reg i ok.0) (ls.array x ok.2)
              (go.by (record f { arrays = put_element f.arrays x (f.regs i) (f.regs s) })
              (record g { arrays = put_element g.arrays (m.array x) (f.regs i) (f.regs s) }) w le (holds_array e f g x (f.regs i) (f.regs s) ok.2 h)
              ∙ ap (λ (v : ℕ). b (record g { arrays = put_element g.arrays (m.array x) v (f.regs s) }) w) (h.reg i ok.0)
              ∙ ap (λ (v : ℕ). b (record g { arrays = put_element g.arrays (m.array x) (g.regs (m.reg i)) v }) w) (h.reg s ok.1));
        }
    step_meets t (Clear r l x y) a b ok go =
        record { by = λ f g w le h. go.by (cleared f r l x y) (cleared g (m.reg r) l (m.array x) y) w le (holds_clear e f g r l x y h) }
    step_meets t Turn a b ok go = record { by = λ f g w le h. turn_meets t a b f g h go w w.turns le }
    step_meets t (Call dest p count args) a b ok go =
        record {
          by = λ f g w le h.
              let fall = ((falls w.turns).by p (each f.regs args) w tt (omega arith)).1 in
              return_meets w.turns a b dest (c p (each f.regs args) w) fall f g h (fewer_meet t w.turns a b le go)
              ∙ ap (λ (vs : List ℕ). with_return (c p vs w) (λ v w1. b (received g (option_map m.reg dest) v) w1)) (each_same e f g args ok.1 h);
        }
    step_meets t (GetChar d) a b ok go =
        record {
          by = λ f g w le h. go.by (with_reg f d (first_byte w.input)) (with_reg g (m.reg d) (first_byte w.input)) (after_get w) le
              (holds_reg e f g d (first_byte w.input) h);
        }
    step_meets t (PutChar d s) a b ok go =
        record {
          by = λ f g w le h. go.by (with_reg f d (low_byte (f.regs s))) (with_reg g (m.reg d) (low_byte (f.regs s))) (after_put (f.regs s) w) le
              (holds_reg e f g d (low_byte (f.regs s)) h)
              ∙ ap (λ (v : ℕ). b (with_reg g (m.reg d) (low_byte v)) (after_put v w)) (h.reg s ok.1);
        }

    -- instructions that name registers and arrays in their ranges, under the new names
    pub does_meets : (t : ℕ) (is : List Instr) (a b : Next S) → AllByRecursion (IsValidInstr rows regs arrays) is → Meets t a b
        → Meets t (does c n is a) (does c n1 (map (renamed m) is) b)
    does_meets t [] a b ok go = record { by = λ f g w le h. go.by f g w le h }
    does_meets t (i ∷ is) a b ok go =
        record { by = λ f g w le h. (step_meets t i _ _ ok.0 (does_meets t is a b ok.1 go)).by f g w le h }

-- nothing has another name
pub option_as_is : (o : Option ℕ) → option_map (λ x. x) o ≡ o
option_as_is None = refl
option_as_is (Some x) = refl

pub map_as_is : (is : List Instr) → map (renamed as_is) is ≡ is
map_as_is [] = refl
map_as_is (i ∷ is) = ap₂ {A = Instr} {B = List Instr} {C = List Instr} (λ j js. j ∷ js) (renamed_as_is i) (map_as_is is)
