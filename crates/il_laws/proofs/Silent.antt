-- Where a call notes nothing, the number of its site decides nothing.
use Rattle.std.proofs.Common.{◌≡◌, ℕ, suc, ◌+◌, List, [], ◌∷◌, refl, ap, ◌∙◌}
use Rattle.std.specs.Prelude.{nat_eq, if◌then◌else◌}
use Rattle.il_core.specs.declared.instr.Block.{Block}
use Rattle.il_core.specs.declared.instr.Instr.{Instr}
use Rattle.il_core.specs.declared.instr.Instr.TheVariants.{Const, Move, Conv, Bin, Get, Set, GetX, SetX, GetA, SetA, Clear, Turn, Call, GetChar, PutChar}
use Rattle.il_core.specs.Meaning.{Lengths, Next, step, steps, sites_in, sites_of, finish, enter}
use Rattle.il_laws.specs.Runs.{Calls, silent, does, pass}

module _ {S : Type 0} where
  -- the number of the site decides nothing
  step_silent : (c : Calls S) (n : Lengths) (k : ℕ) (i : Instr) (go : Next S) → step (silent c) n k i go ≡ step (silent c) n 0 i go
  step_silent c n k (Const d v) go = refl
  step_silent c n k (Move d s) go = refl
  step_silent c n k (Conv d t s) go = refl
  step_silent c n k (Bin o d a b) go = refl
  step_silent c n k (Get d g) go = refl
  step_silent c n k (Set g s) go = refl
  step_silent c n k (GetX d g i) go = refl
  step_silent c n k (SetX g i s) go = refl
  step_silent c n k (GetA d a i) go = refl
  step_silent c n k (SetA a i s) go = refl
  step_silent c n k (Clear r m a l) go = refl
  step_silent c n k Turn go = refl
  step_silent c n k (Call dest p count args) go = refl
  step_silent c n k (GetChar d) go = refl
  step_silent c n k (PutChar d s) go = refl

  steps_silent : (c : Calls S) (n : Lengths) (k : ℕ) (is : List Instr) (go : Next S) → steps (silent c) n k is go ≡ does c n is go
  steps_silent c n k [] go = refl
  steps_silent c n k (i ∷ is) go = step_silent c n k i (λ f w. steps (silent c) n (sites_in i + k) is go f w)
      ∙ ap (λ (g : Next S). step (silent c) n 0 i g) (steps_silent c n (sites_in i + k) is go)

  pub enter_silent : (c : Calls S) (back : ℕ → Next S) (n : Lengths) (xs : List Block) (b k : ℕ) → enter (silent c) back n xs b k ≡ pass c back n xs b
  enter_silent c back n [] b k = refl
  enter_silent c back n (x ∷ xs) b k =
      let later = enter_silent c back n xs (suc b) (sites_of x.instrs + k) in
      ap (λ (on : ℕ → Next S). λ t f w. if nat_eq t b then steps (silent c) n k x.instrs (λ f1 w1. finish back on x.end f1 w1) f w else on t f w)
      later
      ∙ ap (λ (s : Next S). λ t f w. if nat_eq t b then s f w else pass c back n xs (suc b) t f w)
      (steps_silent c n k x.instrs (λ f1 w1. finish back (λ u f2 w2. pass c back n xs (suc b) u f2 w2) x.end f1 w1))
