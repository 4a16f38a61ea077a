-- The direct form of one instruction and one end: what it does, apart from what comes next.
use Rattle.std.proofs.Common.{◌≡◌, ℕ, zero, suc, Bool, true, false, refl}
use Rattle.std.specs.Prelude.{nat_lt, if◌then◌else◌, Option, Result, Ok, Err}
use Rattle.hlo_num.specs.declared.word.Trap.{Trap}
use Rattle.hlo_num.specs.declared.word.Trap.TheVariants.{Index}
use Rattle.hlo_num.specs.Words.{convert}
use Rattle.hlo_num.specs.Operators.{operate}
use Rattle.il_core.specs.declared.instr.Instr.{Instr}
use Rattle.il_core.specs.declared.instr.Instr.TheVariants.{Const, Move, Conv, Bin, Get, Set, GetX, SetX, GetA, SetA, Clear, Turn, Call, GetChar, PutChar}
use Rattle.il_core.specs.declared.instr.End.{End}
use Rattle.il_core.specs.declared.instr.End.TheVariants as ends
use Rattle.il_core.specs.World.{World, Outcome, Returns, Ends, Stuck, Trapped, OutOfTurns, Exit, ended, first_byte, after_get, low_byte, after_put}
use Rattle.il_core.specs.World.{turn_at, choose, put_element, with_object, each, with_word, with_return}
use Rattle.il_core.specs.Meaning.{Frame, with_reg, cleared, received, returned, Lengths, Next, Act, step, finish}

-- an instruction goes on from a frame and a world, or the outcome is settled
pub data Effect (S : Type 0) : Type 0 where
  GoesOn : Frame → World S → Effect S
  Settled : Outcome S → Effect S

abbrev pub follow : {S : Type 0} → Effect S → Next S → Outcome S
follow (GoesOn f w) go = go f w
follow (Settled o) go = o

-- a register gets an operator's word
abbrev pub worded : {S : Type 0} → Result ℕ Trap → Frame → ℕ → World S → Effect S
worded (Ok v) f d w = GoesOn (with_reg f d v) w
worded (Err t) f d w = Settled (ended (Trapped t) w)

-- an access, where it is inside a length
abbrev pub inside : {S : Type 0} → Bool → World S → Effect S → Effect S
inside true w e = e
inside false w e = Settled (ended (Trapped Index) w)

-- what a call returned is received
abbrev pub answered : {S : Type 0} → Outcome S → Frame → Option ℕ → Effect S
answered (Returns v w) f dest = GoesOn (received f dest v) w
answered (Ends e output log) f dest = Settled (Ends e output log)
answered Stuck f dest = Settled Stuck

-- a turn is spent
abbrev pub spent : {S : Type 0} → Frame → World S → ℕ → Effect S
spent f w zero = Settled (ended OutOfTurns w)
spent f w (suc t) = GoesOn f (record w { turns = t })

abbrev pub effect : {S : Type 0} → Act S → Lengths → ℕ → Instr → Frame → World S → Effect S
effect call n k (Const d v) f w = GoesOn (with_reg f d v.0) w
effect call n k (Move d s) f w = GoesOn (with_reg f d (f.regs s)) w
effect call n k (Conv d t s) f w = GoesOn (with_reg f d (convert t (f.regs s))) w
effect call n k (Bin o d a b) f w = worded (operate o (f.regs a) (f.regs b)) f d w
effect call n k (Get d g) f w = GoesOn (with_reg f d (w.objects g 0)) w
effect call n k (Set g s) f w = GoesOn f (with_object w g 0 (f.regs s))
effect call n k (GetX d g i) f w = inside (nat_lt (f.regs i) (n.object g)) w (GoesOn (with_reg f d (w.objects g (f.regs i))) w)
effect call n k (SetX g i s) f w = inside (nat_lt (f.regs i) (n.object g)) w (GoesOn f (with_object w g (f.regs i) (f.regs s)))
effect call n k (GetA d a i) f w = inside (nat_lt (f.regs i) (n.array a)) w (GoesOn (with_reg f d (f.arrays a (f.regs i))) w)
effect call n k (SetA a i s) f w =
    inside (nat_lt (f.regs i) (n.array a)) w (GoesOn (record f { arrays = put_element f.arrays a (f.regs i) (f.regs s) }) w)
effect call n k (Clear r c a m) f w = GoesOn (cleared f r c a m) w
effect call n k Turn f w = spent f w w.turns
effect call n k (Call dest callee count args) f w = answered (call k callee (each f.regs args) w) f dest
effect call n k (GetChar d) f w = GoesOn (with_reg f d (first_byte w.input)) (after_get w)
effect call n k (PutChar d s) f w = GoesOn (with_reg f d (low_byte (f.regs s))) (after_put (f.regs s) w)

module _ {S : Type 0} where
  word_is : (o : Result ℕ Trap) (f : Frame) (d : ℕ) (w : World S) (go : Next S)
      → with_word o w (λ v. go (with_reg f d v) w) ≡ follow (worded o f d w) go
  word_is (Ok v) f d w go = refl
  word_is (Err t) f d w go = refl

  inside_is : (b : Bool) (f : Frame) (w w1 : World S) (go : Next S)
      → (if b then go f w1 else ended (Trapped Index) w) ≡ follow (inside b w (GoesOn f w1)) go
  inside_is true f w w1 go = refl
  inside_is false f w w1 go = refl

  answer_is : (o : Outcome S) (f : Frame) (dest : Option ℕ) (go : Next S)
      → with_return o (λ v w1. go (received f dest v) w1) ≡ follow (answered o f dest) go
  answer_is (Returns v w) f dest go = refl
  answer_is (Ends e output log) f dest go = refl
  answer_is Stuck f dest go = refl

  spent_is : (t : ℕ) (f : Frame) (w : World S) (go : Next S)
      → turn_at (ended OutOfTurns w) (λ w1. go f w1) w t ≡ follow (spent f w t) go
  spent_is zero f w go = refl
  spent_is (suc t) f w go = refl

  -- the direct form is the meaning
  pub step_is : (call : Act S) (n : Lengths) (k : ℕ) (i : Instr) (go : Next S) (f : Frame) (w : World S)
      → step call n k i go f w ≡ follow (effect call n k i f w) go
  step_is call n k (Const d v) go f w = refl
  step_is call n k (Move d s) go f w = refl
  step_is call n k (Conv d t s) go f w = refl
  step_is call n k (Bin o d a b) go f w = word_is (operate o (f.regs a) (f.regs b)) f d w go
  step_is call n k (Get d g) go f w = refl
  step_is call n k (Set g s) go f w = refl
  step_is call n k (GetX d g i) go f w = inside_is (nat_lt (f.regs i) (n.object g)) _ w _ go
  step_is call n k (SetX g i s) go f w = inside_is (nat_lt (f.regs i) (n.object g)) _ w _ go
  step_is call n k (GetA d a i) go f w = inside_is (nat_lt (f.regs i) (n.array a)) _ w _ go
  step_is call n k (SetA a i s) go f w = inside_is (nat_lt (f.regs i) (n.array a)) _ w _ go
  step_is call n k (Clear r c a m) go f w = refl
  step_is call n k Turn go f w = spent_is w.turns f w go
  step_is call n k (Call dest callee count args) go f w = answer_is (call k callee (each f.regs args) w) f dest go
  step_is call n k (GetChar d) go f w = refl
  step_is call n k (PutChar d s) go f w = refl

-- where an end leads: to a later block, back to a block for one turn, or nowhere
pub data Way (S : Type 0) : Type 0 where
  On : ℕ → Way S
  Back : ℕ → Way S
  Over : Outcome S → Way S

abbrev pub lead : {S : Type 0} → (ℕ → Next S) → (ℕ → Next S) → Way S → Next S
lead back on (On t) f w = on t f w
lead back on (Back t) f w = back t f w
lead back on (Over o) f w = o

abbrev pub way : {S : Type 0} → End → Frame → World S → Way S
way (ends.Jump t) f w = On t
way (ends.Branch r t u) f w = On (choose (f.regs r) t u)
way (ends.Loop t) f w = Back t
way (ends.Return r) f w = Over (Returns (returned f r) w)
way (ends.Exit r) f w = Over (ended (Exit (f.regs r)) w)

choose_is : {S : Type 0} (on : ℕ → Next S) (v t u : ℕ) (f : Frame) (w : World S) → choose v (on t f w) (on u f w) ≡ on (choose v t u) f w
choose_is on zero t u f w = refl
choose_is on (suc v) t u f w = refl

pub finish_is : {S : Type 0} (back on : ℕ → Next S) (e : End) (f : Frame) (w : World S) → finish back on e f w ≡ lead back on (way e f w) f w
finish_is back on (ends.Jump t) f w = refl
finish_is back on (ends.Branch r t u) f w = choose_is on (f.regs r) t u f w
finish_is back on (ends.Loop t) f w = refl
finish_is back on (ends.Return r) f w = refl
finish_is back on (ends.Exit r) f w = refl
