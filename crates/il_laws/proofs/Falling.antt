-- No turn comes back by an instruction.
use Rattle.std.proofs.Common.{ℕ, zero, suc, ◌≤◌, arith}
use Rattle.std.specs.Prelude.{nat_lt, Option}
use Rattle.hlo_num.specs.Operators.{operate}
use Rattle.il_core.specs.declared.instr.Instr.{Instr}
use Rattle.il_core.specs.declared.instr.Instr.TheVariants.{Const, Move, Conv, Bin, Get, Set, GetX, SetX, GetA, SetA, Clear, Turn, Call, GetChar, PutChar}
use Rattle.il_core.specs.World.{World, Outcome, Returns, Ends, Stuck, with_object, each, put_element}
use Rattle.il_core.specs.Meaning.{Frame, with_reg, Lengths}
use Rattle.il_core.proofs.Effects.{Effect, GoesOn, Settled, answered, spent, effect}
use Rattle.il_core.proofs.Following.{WhereOn, Both, word_on, inside_on}
use Rattle.il_laws.specs.Runs.{Calls, silent}
use Rattle.il_laws.proofs.Alike.{Falls, CallsAlike, anything}

module _ {S : Type 0} where
  -- what is said of both effects and of the first
  pub both_where : (R : Frame → World S → Frame → World S → Type 0) (P : Frame → World S → Type 0) (a b : Effect S) → Both R a b → WhereOn P a
      → Both (λ f w g v. R f w g v × P f w) a b
  both_where R P (GoesOn f w) (GoesOn g v) r p = (r, p)
  both_where R P (GoesOn f w) (Settled o) r p = absurd r
  both_where R P (Settled o) (GoesOn g v) r p = absurd r
  both_where R P (Settled o) (Settled q) r p = r

  -- not above so many turns
  abbrev pub Below : ℕ → Frame → World S → Type 0
  Below t f w = w.turns ≤ t

  spent_falls : (t u : ℕ) (f : Frame) (w : World S) → t ≤ u → WhereOn (Below u) (spent f w t)
  spent_falls zero u f w le = tt
  spent_falls (suc t) u f w le = omega arith

  answered_falls : (t : ℕ) (o : Outcome S) (f : Frame) (dest : Option ℕ) → Falls t o → WhereOn (Below t) (answered o f dest)
  answered_falls t (Returns v w) f dest h = h
  answered_falls t (Ends e output log) f dest h = tt
  answered_falls t Stuck f dest h = tt

  module _ (c : Calls S) (falls : (t : ℕ) → CallsAlike anything t c c) (n : Lengths) where
    pub step_falls : (i : Instr) (f : Frame) (w : World S) → WhereOn (Below w.turns) (effect (silent c) n 0 i f w)
    step_falls (Const d v) f w = omega arith
    step_falls (Move d s) f w = omega arith
    step_falls (Conv d t s) f w = omega arith
    step_falls (Bin o d a b) f w = word_on _ (operate o (f.regs a) (f.regs b)) f d w (λ v. omega arith)
    step_falls (Get d g) f w = omega arith
    step_falls (Set g s) f w = omega arith
    step_falls (GetX d g i) f w = inside_on _ (nat_lt (f.regs i) (n.object g)) w w (with_reg f d (w.objects g (f.regs i))) (omega arith)
    step_falls (SetX g i s) f w = inside_on _ (nat_lt (f.regs i) (n.object g)) w (with_object w g (f.regs i) (f.regs s)) f (omega arith)
    step_falls (GetA d a i) f w = inside_on _ (nat_lt (f.regs i) (n.array a)) w w (with_reg f d (f.arrays a (f.regs i))) (omega arith)
    step_falls (SetA a i s) f w =
        inside_on _ (nat_lt (f.regs i) (n.array a)) w w (record f { arrays = put_element f.arrays a (f.regs i) (f.regs s) }) (omega arith)
    step_falls (Clear r l a m) f w = omega arith
    step_falls Turn f w = spent_falls w.turns w.turns f w (omega arith)
    step_falls (Call dest p count args) f w =
        answered_falls w.turns (c p (each f.regs args) w) f dest ((falls w.turns).by p (each f.regs args) w tt (omega arith)).1
    step_falls (GetChar d) f w = omega arith
    step_falls (PutChar d s) f w = omega arith
