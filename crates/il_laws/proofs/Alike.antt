-- Runs under calls that are alike: turns never come back, and a bound above the turns left decides nothing.
use Rattle.std.proofs.Common.{◌≡◌, ℕ, zero, suc, ◌<◌, ◌≤◌, List, [], ◌∷◌, Bool, true, false, refl, ap, subst, sym, ◌∙◌, arith}
use Rattle.std.specs.Prelude.{nat_eq, nat_lt, if◌then◌else◌, Option, Some, None, Result, Ok, Err, ⊤}
use Rattle.hlo_num.specs.declared.word.Trap.{Trap}
use Rattle.hlo_num.specs.Operators.{operate}
use Rattle.hlo_num.specs.Words.{convert}
use Rattle.il_core.specs.declared.instr.Block.{Block}
use Rattle.il_core.specs.declared.instr.Instr.{Instr}
use Rattle.il_core.specs.declared.instr.Instr.TheVariants.{Const, Move, Conv, Bin, Get, Set, GetX, SetX, GetA, SetA, Clear, Turn, Call, GetChar, PutChar}
use Rattle.il_core.specs.declared.instr.End.{End}
use Rattle.il_core.specs.declared.instr.End.TheVariants as ends
use Rattle.il_core.specs.declared.program.IlProgram.{IlProgram}
use Rattle.il_core.specs.Routine.{RoutineParts}
use Rattle.il_core.specs.Program.{routine_at}
use Rattle.il_core.specs.World.{World, OutOfTurns, Outcome, Returns, Ends, Stuck, ended, first_byte, after_get, low_byte, after_put, turn, turn_at}
use Rattle.il_core.specs.World.{choose, put_element, with_object, each, with_word, with_return}
use Rattle.il_core.specs.Meaning.{Frame, with_reg, frame_of, cleared, received, Lengths, lengths, Next, step, finish, no_log, begin, exec, act_noting}
use Rattle.il_laws.specs.Runs.{Calls, silent, does, pass, turned, called, Callable, IsCallIn, CallsIn, BlocksCallIn}
use Rattle.il_laws.proofs.Silent.{enter_silent}

-- no turn comes back
abbrev pub Falls : {S : Type 0} → ℕ → Outcome S → Type 0
Falls t (Returns v w) = w.turns ≤ t
Falls t (Ends e output log) = ⊤
Falls t Stuck = ⊤

pub falls_more : {S : Type 0} (t u : ℕ) (o : Outcome S) → u ≤ t → Falls u o → Falls t o
falls_more t u (Returns v w) le a = omega arith
falls_more t u (Ends e output log) le a = tt
falls_more t u Stuck le a = tt

abbrev pub anything : Callable
anything p = ⊤

anything_instr : (i : Instr) → IsCallIn anything i
anything_instr (Call dest p count args) = tt
anything_instr (Const d v) = tt
anything_instr (Move d s) = tt
anything_instr (Conv d t s) = tt
anything_instr (Bin o d a b) = tt
anything_instr (Get d g) = tt
anything_instr (Set g s) = tt
anything_instr (GetX d g i) = tt
anything_instr (SetX g i s) = tt
anything_instr (GetA d a i) = tt
anything_instr (SetA a i s) = tt
anything_instr (Clear r c a m) = tt
anything_instr Turn = tt
anything_instr (GetChar d) = tt
anything_instr (PutChar d s) = tt

anything_instrs : (is : List Instr) → CallsIn anything is
anything_instrs [] = tt
anything_instrs (i ∷ is) = (anything_instr i, anything_instrs is)

pub anything_blocks : (bs : List Block) → BlocksCallIn anything bs
anything_blocks [] = tt
anything_blocks (x ∷ xs) = (anything_instrs x.instrs, anything_blocks xs)

module _ {S : Type 0} where
  -- b does what a does, after which no turn has come back
  abbrev pub Like : ℕ → Outcome S → Outcome S → Type 0
  Like t a b = (a ≡ b) × Falls t a

  -- with at most t turns left the two do the same
  pub record Alike (t : ℕ) (a b : Next S) : Type 0 where
    pub by : (f : Frame) (w : World S) → w.turns ≤ t → Like w.turns (a f w) (b f w)

  pub record CallsAlike (may : Callable) (t : ℕ) (c e : Calls S) : Type 0 where
    pub by : (p : ℕ) (args : List ℕ) (w : World S) → may p → w.turns ≤ t → Like w.turns (c p args w) (e p args w)

  word_alike : (r : Result ℕ Trap) (w : World S) (ga gb : ℕ → Outcome S) → ((v : ℕ) → Like w.turns (ga v) (gb v)) → Like w.turns (with_word r w ga)
      (with_word r w gb)
  word_alike (Ok v) w ga gb g = g v
  word_alike (Err t) w ga gb g = (refl, tt)

  pub if_alike : (t : ℕ) (c : Bool) (a a1 b b1 : Outcome S) → Like t a b → Like t a1 b1 → Like t (if c then a else a1) (if c then b else b1)
  if_alike t true a a1 b b1 g g1 = g
  if_alike t false a a1 b b1 g g1 = g1

  pub return_alike : (t : ℕ) (o : Outcome S) (ga gb : ℕ → World S → Outcome S) → Falls t o
      → ((v : ℕ) (w : World S) → w.turns ≤ t → Like w.turns (ga v w) (gb v w)) → Like t (with_return o ga) (with_return o gb)
  return_alike t (Returns v w) ga gb a g = let r = g v w a in (r.0, falls_more t w.turns (ga v w) a r.1)
  return_alike t (Ends e output log) ga gb a g = (refl, tt)
  return_alike t Stuck ga gb a g = (refl, tt)

  pub turn_at_alike : (t u : ℕ) (w : World S) (go go1 : World S → Outcome S) → u ≤ t
      → ((w1 : World S) → w1.turns < t → Like w1.turns (go w1) (go1 w1)) → Like u (turn_at (ended OutOfTurns w) go w u)
      (turn_at (ended OutOfTurns w) go1 w u)
  turn_at_alike t zero w go go1 le g = (refl, tt)
  turn_at_alike t (suc u) w go go1 le g =
      let w1 : World S = record w { turns = u } in
      let r = g w1 (omega arith) in
      (r.0, falls_more (suc u) u (go w1) (omega arith) r.1)

  -- one turn, where what follows is alike with fewer turns left
  pub turn_alike : (t : ℕ) (w : World S) (go go1 : World S → Outcome S) → w.turns ≤ t
      → ((w1 : World S) → w1.turns < t → Like w1.turns (go w1) (go1 w1)) → Like w.turns (turn (ended OutOfTurns) go w) (turn (ended OutOfTurns) go1 w)
  turn_alike t w go go1 le g = turn_at_alike t w.turns w go go1 le g

  step_alike : (may : Callable) (t : ℕ) (c e : Calls S) (n : Lengths) (i : Instr) (a b : Next S) → IsCallIn may i → CallsAlike may t c e → Alike t a b
      → Alike t (step (silent c) n 0 i a) (step (silent e) n 0 i b)
  step_alike may t c e n (Const d v) a b m hc g = record { by = λ f w le. g.by (with_reg f d v.0) w le }
  step_alike may t c e n (Move d s) a b m hc g = record { by = λ f w le. g.by (with_reg f d (f.regs s)) w le }
  step_alike may t c e n (Conv d y s) a b m hc g = record { by = λ f w le. g.by (with_reg f d (convert y (f.regs s))) w le }
  step_alike may t c e n (Bin o d x y) a b m hc g =
      record {
        by = λ f w le. word_alike (operate o (f.regs x) (f.regs y)) w (λ v. a (with_reg f d v) w) (λ v. b (with_reg f d v) w)
            (λ v. g.by (with_reg f d v) w le);
      }
  step_alike may t c e n (Get d q) a b m hc g = record { by = λ f w le. g.by (with_reg f d (w.objects q 0)) w le }
  step_alike may t c e n (Set q s) a b m hc g = record { by = λ f w le. g.by f (with_object w q 0 (f.regs s)) le }
  step_alike may t c e n (GetX d q i) a b m hc g =
      record {
        by = λ f w le. if_alike w.turns (nat_lt (f.regs i) (n.object q)) _ _ _ _ (g.by (with_reg f d (w.objects q (f.regs i))) w le)
            (refl, tt);
      }
  step_alike may t c e n (SetX q i s) a b m hc g =
      record {
        by = λ f w le. if_alike w.turns (nat_lt (f.regs i) (n.object q)) _ _ _ _ (g.by f (with_object w q (f.regs i) (f.regs s)) le)
            (refl, tt);
      }
  step_alike may t c e n (GetA d x i) a b m hc g =
      record { by = λ f w le. if_alike w.turns (nat_lt (f.regs i) (n.array x)) _ _ _ _ (g.by (with_reg f d (f.arrays x (f.regs i))) w le) (refl, tt) }
  step_alike may t c e n (SetA x i s) a b m hc g =
      record {
        by = λ f w le. if_alike w.turns (nat_lt (f.regs i) (n.array x)) _ _ _ _
            (g.by (record f { arrays = put_element f.arrays x (f.regs i) (f.regs s) }) w le) (refl, tt);
      }
  step_alike may t c e n (Clear r l x y) a b m hc g = record { by = λ f w le. g.by (cleared f r l x y) w le }
  step_alike may t c e n Turn a b m hc g =
      record { by = λ f w le. turn_alike t w (λ w1. a f w1) (λ w1. b f w1) le (λ w1 lt. g.by f w1 (omega arith)) }
  step_alike may t c e n (Call dest p count args) a b m hc g =
      record {
        by = λ f w le.
            let q = hc.by p (each f.regs args) w m le in
            let r = return_alike w.turns (c p (each f.regs args) w) (λ v w1. a (received f dest v) w1) (λ v w1. b (received f dest v) w1) q.1
            (λ v w1 le1. g.by (received f dest v) w1 (omega arith)) in
            (r.0 ∙ ap (λ (o : Outcome S). with_return o (λ v w1. b (received f dest v) w1)) q.0, r.1);
      }
  step_alike may t c e n (GetChar d) a b m hc g = record { by = λ f w le. g.by (with_reg f d (first_byte w.input)) (after_get w) le }
  step_alike may t c e n (PutChar d s) a b m hc g = record { by = λ f w le. g.by (with_reg f d (low_byte (f.regs s))) (after_put (f.regs s) w) le }

  pub does_alike : (may : Callable) (t : ℕ) (c e : Calls S) (n : Lengths) (is : List Instr) (a b : Next S) → CallsIn may is → CallsAlike may t c e
      → Alike t a b → Alike t (does c n is a) (does e n is b)
  does_alike may t c e n [] a b m hc g = record { by = λ f w le. g.by f w le }
  does_alike may t c e n (i ∷ is) a b m hc g =
      record { by = λ f w le. (step_alike may t c e n i _ _ m.0 hc (does_alike may t c e n is a b m.1 hc g)).by f w le }

  choose_alike : (t x : ℕ) (a a1 b b1 : Outcome S) → Like t a b → Like t a1 b1 → Like t (choose x a a1) (choose x b b1)
  choose_alike t zero a a1 b b1 g g1 = g1
  choose_alike t (suc x) a a1 b b1 g g1 = g

  pub finish_alike : (t : ℕ) (back on back1 on1 : ℕ → Next S) (e : End) → ((u : ℕ) → Alike t (back u) (back1 u)) → ((u : ℕ) → Alike t (on u) (on1 u))
      → Alike t (λ f w. finish back on e f w) (λ f w. finish back1 on1 e f w)
  finish_alike t back on back1 on1 (ends.Jump u) hb ho = record { by = λ f w le. (ho u).by f w le }
  finish_alike t back on back1 on1 (ends.Branch x u v) hb ho =
      record { by = λ f w le. choose_alike w.turns (f.regs x) _ _ _ _ ((ho u).by f w le) ((ho v).by f w le) }
  finish_alike t back on back1 on1 (ends.Loop u) hb ho = record { by = λ f w le. (hb u).by f w le }
  finish_alike t back on back1 on1 (ends.Return x) hb ho = record { by = λ f w le. (refl, omega arith) }
  finish_alike t back on back1 on1 (ends.Exit x) hb ho = record { by = λ f w le. (refl, tt) }

  -- blocks under calls and ways back that are alike
  pub pass_alike : (may : Callable) (t : ℕ) (c e : Calls S) (back back1 : ℕ → Next S) (n : Lengths) (xs : List Block) (b u : ℕ) → BlocksCallIn may xs
      → CallsAlike may t c e → ((v : ℕ) → Alike t (back v) (back1 v)) → Alike t (pass c back n xs b u) (pass e back1 n xs b u)
  pass_alike may t c e back back1 n [] b u m hc hb = record { by = λ f w le. (refl, tt) }
  pass_alike may t c e back back1 n (x ∷ xs) b u m hc hb =
      record {
        by = λ f w le. if_alike w.turns (nat_eq u b) _ _ _ _
            ((does_alike may t c e n x.instrs _ _ m.0 hc
            (finish_alike t back _ back1 _ x.end hb
            (λ v. record { by = λ f1 w1 le1. (pass_alike may t c e back back1 n xs (suc b) v m.1 hc hb).by f1 w1 le1 }))).by f w le)
            ((pass_alike may t c e back back1 n xs (suc b) u m.1 hc hb).by f w le);
      }

  pub begin_alike : (t : ℕ) (ra rb : RoutineParts → ℕ → Next S) (w : World S) → ((r : RoutineParts) (f : Frame) → Like t (ra r 0 f w) (rb r 0 f w))
      → (o : Option RoutineParts) (args : List ℕ) → Like t (begin ra o args w) (begin rb o args w)
  begin_alike t ra rb w g None args = (refl, tt)
  begin_alike t ra rb w g (Some r) args = g r (frame_of r.params args)

  -- calls with a bound
  abbrev pub calls_by : IlProgram → ℕ → Calls S
  calls_by prog m q args w = turn (ended OutOfTurns) (λ w1. begin (exec no_log prog m) (routine_at prog.routines q) args w1) w

  pub exec_is : (prog : IlProgram) (m : ℕ) (r : RoutineParts) (u : ℕ) (f : Frame) (w : World S) → exec no_log prog (suc m) r u f w
      ≡ pass (calls_by prog m) (turned (exec no_log prog m r)) (lengths prog r) r.blocks 0 u f w
  exec_is prog m r u f w = ap (λ (e : ℕ → Next S). e u f w)
      (enter_silent (calls_by prog m) (turned (exec no_log prog m r)) (lengths prog r) r.blocks 0 0)

  module _ (prog : IlProgram) where
    -- two bounds above the turns left give the same
    pub exec_alike : (n m : ℕ) (r : RoutineParts) (u : ℕ) (f : Frame) (w : World S) → w.turns < n → w.turns < m
        → Like w.turns (exec no_log prog n r u f w) (exec no_log prog m r u f w)
    exec_alike zero m r u f w ln lm = absurd (omega arith)
    exec_alike (suc n) zero r u f w ln lm = absurd (omega arith)
    exec_alike (suc n) (suc m) r u f w ln lm =
        let both = (pass_alike anything w.turns (calls_by prog n) (calls_by prog m) (turned (exec no_log prog n r)) (turned (exec no_log prog m r))
        (lengths prog r) r.blocks 0 u (anything_blocks r.blocks)
        (record {
          by = λ q args w1 ok le. turn_alike w.turns w1 (λ w2. begin (exec no_log prog n) (routine_at prog.routines q) args w2)
              (λ w2. begin (exec no_log prog m) (routine_at prog.routines q) args w2) le
              (λ w2 lt. begin_alike w2.turns (exec no_log prog n) (exec no_log prog m) w2
              (λ r1 f1. exec_alike n m r1 0 f1 w2 (omega arith) (omega arith)) (routine_at prog.routines q) args);
        })
        (λ v. record {
          by = λ f1 w1 le. turn_alike w.turns w1 (λ w2. exec no_log prog n r v f1 w2) (λ w2. exec no_log prog m r v f1 w2) le
              (λ w2 lt. exec_alike n m r v f1 w2 (omega arith) (omega arith));
        })).by f w (omega arith) in
        (exec_is prog n r u f w ∙ both.0 ∙ sym (exec_is prog m r u f w), subst (Falls w.turns) (sym (exec_is prog n r u f w)) both.1)

    pub act_alike : (n : ℕ) (q : ℕ) (args : List ℕ) (w : World S) → w.turns < n
        → Like w.turns (begin (exec no_log prog n) (routine_at prog.routines q) args w) (act_noting no_log prog q args w)
    act_alike n q args w lt = begin_alike w.turns (exec no_log prog n) (exec no_log prog (suc w.turns)) w
        (λ r f. exec_alike n (suc w.turns) r 0 f w lt (omega arith)) (routine_at prog.routines q) args

    -- calls are alike themselves
    pub calls_fall : (may : Callable) (t : ℕ) → CallsAlike may t (called prog) (called prog)
    calls_fall may t = record {
      by = λ q args w ok le. turn_alike t w (λ w1. act_noting no_log prog q args w1)
          (λ w1. act_noting no_log prog q args w1) le (λ w1 lt. act_alike (suc w1.turns) q args w1 (omega arith));
    }
