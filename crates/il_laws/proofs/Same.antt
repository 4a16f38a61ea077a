-- Two runs of the same instruction are the same where what follows is, from each frame that the instruction can leave.
use Rattle.std.proofs.Common.{◌≡◌, ℕ, zero, suc, ◌<◌, ◌≤◌, List, [], ◌∷◌, ◌++◌, refl, ap, arith}
use Rattle.std.specs.Prelude.{Result, Ok, Err}
use Rattle.hlo_num.specs.declared.word.Trap.{Trap}
use Rattle.hlo_num.specs.Operators.{operate}
use Rattle.hlo_num.specs.Words.{convert}
use Rattle.il_core.specs.declared.instr.Instr.{Instr}
use Rattle.il_core.specs.declared.instr.Instr.TheVariants.{Const, Move, Conv, Bin, Get, Set, GetX, SetX, GetA, SetA, Clear, Turn, Call, GetChar, PutChar}
use Rattle.il_core.specs.World.{World, OutOfTurns, Outcome, Returns, Ends, Stuck, ended, first_byte, after_get, low_byte, after_put, turn_at}
use Rattle.il_core.specs.World.{put_element, with_object, each, with_word, within, with_return}
use Rattle.il_core.specs.Meaning.{Frame, with_reg, cleared, received, Lengths, Next, step}
use Rattle.il_laws.specs.Runs.{Calls, silent, does}
use Rattle.il_laws.proofs.Alike.{Falls, CallsAlike, anything}

-- an instruction can leave this frame
abbrev pub Leaves : Instr → Frame → Frame → Type 0
Leaves (Const d v) f f1 = f1 ≡ with_reg f d v.0
Leaves (Move d s) f f1 = f1 ≡ with_reg f d (f.regs s)
Leaves (Conv d t s) f f1 = f1 ≡ with_reg f d (convert t (f.regs s))
Leaves (Bin o d a b) f f1 = (v : ℕ) × (operate o (f.regs a) (f.regs b) ≡ Ok v) × (f1 ≡ with_reg f d v)
Leaves (Get d g) f f1 = (v : ℕ) × (f1 ≡ with_reg f d v)
Leaves (Set g s) f f1 = f1 ≡ f
Leaves (GetX d g i) f f1 = (v : ℕ) × (f1 ≡ with_reg f d v)
Leaves (SetX g i s) f f1 = f1 ≡ f
Leaves (GetA d a i) f f1 = (v : ℕ) × (f1 ≡ with_reg f d v)
Leaves (SetA a i s) f f1 = f1.regs ≡ f.regs
Leaves (Clear r c a m) f f1 = f1 ≡ cleared f r c a m
Leaves Turn f f1 = f1 ≡ f
Leaves (Call dest p count args) f f1 = (v : ℕ) × (f1 ≡ received f dest v)
Leaves (GetChar d) f f1 = (v : ℕ) × (f1 ≡ with_reg f d v)
Leaves (PutChar d s) f f1 = (v : ℕ) × (f1 ≡ with_reg f d v)

module _ {S : Type 0} where
  pub does_append : (c : Calls S) (n : Lengths) (is js : List Instr) (go : Next S) → does c n (is ++ js) go ≡ does c n is (λ f w. does c n js go f w)
  does_append c n [] js go = refl
  does_append c n (i ∷ is) js go = ap (λ (g : Next S). step (silent c) n 0 i (λ f1 w1. g f1 w1)) (does_append c n is js go)

  -- the same from a frame on, with at most t turns left
  pub record SameAt (t : ℕ) (a b : Next S) (f : Frame) : Type 0 where
    pub by : (w : World S) → w.turns ≤ t → a f w ≡ b f w

  word_at : (r : Result ℕ Trap) (w : World S) (ga gb : ℕ → Outcome S) → ((v : ℕ) → r ≡ Ok v → ga v ≡ gb v) → with_word r w ga ≡ with_word r w gb
  word_at (Ok v) w ga gb h = h v refl
  word_at (Err t) w ga gb h = refl

  within_at : (i l : ℕ) (w : World S) (o p : Outcome S) → o ≡ p → within i l w o ≡ within i l w p
  within_at i l w o p h = ap (λ (x : Outcome S). within i l w x) h

  return_at : (t : ℕ) (o : Outcome S) (ga gb : ℕ → World S → Outcome S) → Falls t o → ((v : ℕ) (w : World S) → w.turns ≤ t → ga v w ≡ gb v w)
      → with_return o ga ≡ with_return o gb
  return_at t (Returns v w) ga gb fall h = h v w fall
  return_at t (Ends e output log) ga gb fall h = refl
  return_at t Stuck ga gb fall h = refl

  pub turn_at_at : (t u : ℕ) (w : World S) (ga gb : World S → Outcome S) → u ≤ t → ((w1 : World S) → w1.turns < t → ga w1 ≡ gb w1)
      → turn_at (ended OutOfTurns w) ga w u ≡ turn_at (ended OutOfTurns w) gb w u
  turn_at_at t zero w ga gb le h = refl
  turn_at_at t (suc u) w ga gb le h = h (record w { turns = u }) (omega arith)

  module _ (c : Calls S) (falls : (t : ℕ) → CallsAlike anything t c c) (n : Lengths) where
    pub step_at : (t : ℕ) (i : Instr) (a b : Next S) (f : Frame) → ((f1 : Frame) → Leaves i f f1 → SameAt t a b f1)
        → SameAt t (step (silent c) n 0 i a) (step (silent c) n 0 i b) f
    step_at t (Const d v) a b f h = record { by = λ w le. (h (with_reg f d v.0) refl).by w le }
    step_at t (Move d s) a b f h = record { by = λ w le. (h (with_reg f d (f.regs s)) refl).by w le }
    step_at t (Conv d y s) a b f h = record { by = λ w le. (h (with_reg f d (convert y (f.regs s))) refl).by w le }
    step_at t (Bin o d x y) a b f h =
        record { by = λ w le. word_at (operate o (f.regs x) (f.regs y)) w _ _ (λ v e. (h (with_reg f d v) (v, e, refl)).by w le) }
    step_at t (Get d q) a b f h = record { by = λ w le. (h (with_reg f d (w.objects q 0)) (w.objects q 0, refl)).by w le }
    step_at t (Set q s) a b f h = record { by = λ w le. (h f refl).by (with_object w q 0 (f.regs s)) le }
    step_at t (GetX d q i) a b f h =
        record {
          by = λ w le. within_at (f.regs i) (n.object q) w _ _
              ((h (with_reg f d (w.objects q (f.regs i))) (w.objects q (f.regs i), refl)).by w le);
        }
    step_at t (SetX q i s) a b f h =
        record { by = λ w le. within_at (f.regs i) (n.object q) w _ _ ((h f refl).by (with_object w q (f.regs i) (f.regs s)) le) }
    step_at t (GetA d x i) a b f h =
        record {
          by = λ w le. within_at (f.regs i) (n.array x) w _ _
              ((h (with_reg f d (f.arrays x (f.regs i))) (f.arrays x (f.regs i), refl)).by w le);
        }
    step_at t (SetA x i s) a b f h =
        record {
          by = λ w le. within_at (f.regs i) (n.array x) w _ _
              ((h (record f { arrays = put_element f.arrays x (f.regs i) (f.regs s) }) refl).by w le);
        }
    step_at t (Clear r l x y) a b f h = record { by = λ w le. (h (cleared f r l x y) refl).by w le }
    step_at t Turn a b f h = record { by = λ w le. turn_at_at t w.turns w (λ w1. a f w1) (λ w1. b f w1) le (λ w1 lt. (h f refl).by w1 (omega arith)) }
    step_at t (Call dest p count args) a b f h =
        record {
          by = λ w le. return_at w.turns (c p (each f.regs args) w) _ _ ((falls w.turns).by p (each f.regs args) w tt (omega arith)).1
              (λ v w1 l1. (h (received f dest v) (v, refl)).by w1 (omega arith));
        }
    step_at t (GetChar d) a b f h = record { by = λ w le. (h (with_reg f d (first_byte w.input)) (first_byte w.input, refl)).by (after_get w) le }
    step_at t (PutChar d s) a b f h =
        record { by = λ w le. (h (with_reg f d (low_byte (f.regs s))) (low_byte (f.regs s), refl)).by (after_put (f.regs s) w) le }

    -- the same instructions, where what follows is the same from everywhere
    pub does_at : (t : ℕ) (is : List Instr) (a b : Next S) → ((f : Frame) → SameAt t a b f) → (f : Frame) → SameAt t (does c n is a) (does c n is b) f
    does_at t [] a b h f = record { by = λ w le. (h f).by w le }
    does_at t (i ∷ is) a b h f = record {
      by = λ w le. (step_at t i _ _ f (λ f1 l. record { by = λ w1 l1. (does_at t is a b h f1).by w1 l1 })).by w
          le;
    }
