-- What comes after a return may be put behind the instructions that lead to it.
use Rattle.std.proofs.Common.{◌≡◌, ℕ, zero, suc, List, [], ◌∷◌, Bool, true, false, refl, ap, ◌∙◌}
use Rattle.std.specs.Prelude.{nat_lt, if◌then◌else◌, Result, Ok, Err}
use Rattle.hlo_num.specs.declared.word.Trap.{Trap}
use Rattle.hlo_num.specs.Operators.{operate}
use Rattle.il_core.specs.declared.instr.Instr.{Instr}
use Rattle.il_core.specs.declared.instr.Instr.TheVariants.{Const, Move, Conv, Bin, Get, Set, GetX, SetX, GetA, SetA, Clear, Turn, Call, GetChar, PutChar}
use Rattle.il_core.specs.World.{World, OutOfTurns, Outcome, Returns, Ends, Stuck, ended, turn, turn_at, choose, each, with_word, with_return}
use Rattle.il_core.specs.Meaning.{Frame, with_reg, received, Lengths, Next, step}
use Rattle.il_laws.specs.Runs.{Calls, silent, does}

-- what a caller does with the value that a call returns
abbrev pub Then : Type 0 → Type 0
Then S = ℕ → World S → Outcome S

module _ {S : Type 0} where
  word_return : (r : Result ℕ Trap) (w : World S) (g : ℕ → Outcome S) (k : Then S)
      → with_return (with_word r w g) k ≡ with_word r w (λ v. with_return (g v) k)
  word_return (Ok v) w g k = refl
  word_return (Err t) w g k = refl

  -- an access goes on, or it ends by a trap, which `with_return` leaves as it is
  if_return : (inside : Bool) (o trap : Outcome S) (k : Then S) → with_return trap k ≡ trap
      → with_return (if inside then o else trap) k ≡ (if inside then with_return o k else trap)
  if_return true o trap k e = refl
  if_return false o trap k e = e

  turn_at_return : (turns : ℕ) (w : World S) (go : World S → Outcome S) (k : Then S)
      → with_return (turn_at (ended OutOfTurns w) go w turns) k ≡ turn_at (ended OutOfTurns w) (λ w1. with_return (go w1) k) w turns
  turn_at_return zero w go k = refl
  turn_at_return (suc turns) w go k = refl

  pub turn_return : (w : World S) (go : World S → Outcome S) (k : Then S)
      → with_return (turn (ended OutOfTurns) go w) k ≡ turn (ended OutOfTurns) (λ w1. with_return (go w1) k) w
  turn_return w go k = turn_at_return w.turns w go k

  return_return : (o : Outcome S) (g k : Then S) → with_return (with_return o g) k ≡ with_return o (λ v w. with_return (g v w) k)
  return_return (Returns v w) g k = refl
  return_return (Ends e output log) g k = refl
  return_return Stuck g k = refl

  pub choose_return : (x : ℕ) (o p : Outcome S) (k : Then S) → with_return (choose x o p) k ≡ choose x (with_return o k) (with_return p k)
  choose_return zero o p k = refl
  choose_return (suc x) o p k = refl

  step_return : (c : Calls S) (n : Lengths) (i : Instr) (go : Next S) (k : Then S) (f : Frame) (w : World S)
      → with_return (step (silent c) n 0 i go f w) k ≡ step (silent c) n 0 i (λ f1 w1. with_return (go f1 w1) k) f w
  step_return c n (Const d v) go k f w = refl
  step_return c n (Move d s) go k f w = refl
  step_return c n (Conv d t s) go k f w = refl
  step_return c n (Bin o d a b) go k f w = word_return (operate o (f.regs a) (f.regs b)) w (λ v. go (with_reg f d v) w) k
  step_return c n (Get d g) go k f w = refl
  step_return c n (Set g s) go k f w = refl
  step_return c n (GetX d g i) go k f w = if_return (nat_lt (f.regs i) (n.object g)) _ _ k refl
  step_return c n (SetX g i s) go k f w = if_return (nat_lt (f.regs i) (n.object g)) _ _ k refl
  step_return c n (GetA d a i) go k f w = if_return (nat_lt (f.regs i) (n.array a)) _ _ k refl
  step_return c n (SetA a i s) go k f w = if_return (nat_lt (f.regs i) (n.array a)) _ _ k refl
  step_return c n (Clear r l a m) go k f w = refl
  step_return c n Turn go k f w = turn_return w (λ w1. go f w1) k
  step_return c n (Call dest p count args) go k f w = return_return (c p (each f.regs args) w) (λ v w1. go (received f dest v) w1) k
  step_return c n (GetChar d) go k f w = refl
  step_return c n (PutChar d s) go k f w = refl

  -- what comes after the return, behind the instructions
  pub does_return : (c : Calls S) (n : Lengths) (is : List Instr) (go : Next S) (k : Then S) (f : Frame) (w : World S)
      → with_return (does c n is go f w) k ≡ does c n is (λ f1 w1. with_return (go f1 w1) k) f w
  does_return c n [] go k f w = refl
  does_return c n (i ∷ is) go k f w =
      step_return c n i (λ f1 w1. does c n is go f1 w1) k f w
      ∙ ap (λ (g : Next S). step (silent c) n 0 i g f w) (λ j f1 w1. does_return c n is go k f1 w1 j)
