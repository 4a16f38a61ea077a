-- Two bounds above the turns left give the same run, also where the log is kept in another way; turns never come back, and the output only grows.
use Rattle.std.proofs.Common.{◌≡◌, ℕ, zero, suc, ◌+◌, ◌<◌, ◌≤◌, List, [], ◌∷◌, ◌++◌, Bool, true, false, refl, ap, subst, sym, ◌∙◌, arith, append_assoc}
use Rattle.std.proofs.lemmas.List.{append-nil}
use Rattle.std.specs.Prelude.{nat_eq, nat_lt, if◌then◌else◌, Option, Some, None, Result, Ok, Err, ⊤}
use Rattle.hlo_num.specs.declared.word.Trap.{Trap}
use Rattle.hlo_num.specs.Operators.{operate}
use Rattle.hlo_num.specs.Words.{convert}
use Rattle.il_core.specs.declared.instr.Block.{Block}
use Rattle.il_core.specs.declared.instr.Instr.{Instr}
use Rattle.il_core.specs.declared.instr.Instr.TheVariants.{Const, Move, Conv, Bin, Get, Set, GetX, SetX, GetA, SetA, Clear, Turn, Call, GetChar, PutChar}
use Rattle.il_core.specs.declared.instr.End.{End}
use Rattle.il_core.specs.declared.instr.End.TheVariants as ends
use Rattle.il_core.specs.declared.program.IlProgram.{IlProgram}
use Rattle.il_core.specs.Routine.{RoutineParts}
use Rattle.il_core.specs.Program.{routine_at}
use Rattle.il_core.specs.World.{World, OutOfTurns, Outcome, Returns, Ends, Stuck, ended, first_byte, after_get, low_byte, after_put, turn, turn_at}
use Rattle.il_core.specs.World.{choose, put_element, with_object, each, with_word, with_return}
use Rattle.il_core.specs.Meaning.{Frame, with_reg, frame_of, cleared, received, Lengths, lengths, Next, Act, step, steps, sites_in, sites_of, finish}
use Rattle.il_core.specs.Meaning.{enter, Recorder, noted, begin, exec}

-- a list that goes on as another
pub record Grows (xs ys : List ℕ) : Type 0 where
  pub more : List ℕ
  pub same : ys ≡ xs ++ more

pub grows_refl : (xs : List ℕ) → Grows xs xs
grows_refl xs = record { more = []; same = sym (append-nil xs) }

pub grows_trans : (xs ys zs : List ℕ) → Grows xs ys → Grows ys zs → Grows xs zs
grows_trans xs ys zs a b = record { more = a.more ++ b.more; same = b.same ∙ ap (λ (l : List ℕ). l ++ b.more) a.same ∙ append_assoc xs a.more b.more }

-- what comes after a world of so many turns and this output: no turn comes back, and the output grows
abbrev pub After : {S : Type 0} → ℕ → List ℕ → Outcome S → Type 0
After t xs (Returns v w) = (w.turns ≤ t) × Grows xs w.output
After t xs (Ends e output log) = Grows xs output
After t xs Stuck = ⊤

pub after_more : {S : Type 0} (t u : ℕ) (xs ys : List ℕ) (o : Outcome S) → u ≤ t → Grows xs ys → After u ys o → After t xs o
after_more t u xs ys (Returns v w) le g a = let l : w.turns ≤ u = a.0 in (omega arith, grows_trans xs ys w.output g a.1)
after_more t u xs ys (Ends e output log) le g a = grows_trans xs ys output g a
after_more t u xs ys Stuck le g a = tt

-- the world, and an outcome, with another log
abbrev pub world_by : {S T : Type 0} → (S → T) → World S → World T
world_by h w = record { objects = w.objects; input = w.input; output = w.output; turns = w.turns; log = h w.log }

abbrev pub outcome_by : {S T : Type 0} → (S → T) → Outcome S → Outcome T
outcome_by h (Returns v w) = Returns v (world_by h w)
outcome_by h (Ends e output log) = Ends e output (h log)
outcome_by h Stuck = Stuck

module _ {S T : Type 0} (h : S → T) where
  -- b does what a does, from a world on
  abbrev pub Like : ℕ → List ℕ → Outcome S → Outcome T → Type 0
  Like t xs a b = (b ≡ outcome_by h a) × After t xs a

  -- with at most t turns left the two do the same
  pub record Alike (t : ℕ) (a : Next S) (b : Next T) : Type 0 where
    pub by : (f : Frame) (w : World S) → w.turns ≤ t → Like w.turns w.output (a f w) (b f (world_by h w))

  pub record CallsAlike (t : ℕ) (c : Act S) (e : Act T) : Type 0 where
    pub by : (k p : ℕ) (args : List ℕ) (w : World S) → w.turns ≤ t → Like w.turns w.output (c k p args w) (e k p args (world_by h w))

  word_alike : (r : Result ℕ Trap) (w : World S) (ga : ℕ → Outcome S) (gb : ℕ → Outcome T) → ((v : ℕ) → Like w.turns w.output (ga v) (gb v))
      → Like w.turns w.output (with_word r w ga) (with_word r (world_by h w) gb)
  word_alike (Ok v) w ga gb g = g v
  word_alike (Err t) w ga gb g = (refl, grows_refl w.output)

  if_alike : (t : ℕ) (xs : List ℕ) (c : Bool) (a a1 : Outcome S) (b b1 : Outcome T) → Like t xs a b → Like t xs a1 b1
      → Like t xs (if c then a else a1) (if c then b else b1)
  if_alike t xs true a a1 b b1 g g1 = g
  if_alike t xs false a a1 b b1 g g1 = g1

  pub return_alike : (t : ℕ) (xs : List ℕ) (o : Outcome S) (ga : ℕ → World S → Outcome S) (gb : ℕ → World T → Outcome T) → After t xs o
      → ((v : ℕ) (w : World S) → w.turns ≤ t → Like w.turns w.output (ga v w) (gb v (world_by h w)))
      → Like t xs (with_return o ga) (with_return (outcome_by h o) gb)
  return_alike t xs (Returns v w) ga gb a g = let r = g v w a.0 in (r.0, after_more t w.turns xs w.output (ga v w) a.0 a.1 r.1)
  return_alike t xs (Ends e output log) ga gb a g = (refl, a)
  return_alike t xs Stuck ga gb a g = (refl, tt)

  pub turn_alike : (t u : ℕ) (w : World S) (go : World S → Outcome S) (go1 : World T → Outcome T) → u ≤ t
      → ((w1 : World S) → w1.turns < t → Like w1.turns w1.output (go w1) (go1 (world_by h w1)))
      → Like u w.output (turn_at (ended OutOfTurns w) go w u) (turn_at (ended OutOfTurns (world_by h w)) go1 (world_by h w) u)
  turn_alike t zero w go go1 le g = (refl, grows_refl w.output)
  turn_alike t (suc u) w go go1 le g =
      let w1 : World S = record w { turns = u } in
      let r = g w1 (omega arith) in
      (r.0, after_more (suc u) u w.output w.output (go w1) (omega arith) (grows_refl w.output) r.1)

  step_alike : (t : ℕ) (c : Act S) (e : Act T) (n : Lengths) (k : ℕ) (i : Instr) (a : Next S) (b : Next T) → CallsAlike t c e → Alike t a b
      → Alike t (step c n k i a) (step e n k i b)
  step_alike t c e n k (Const d v) a b hc g = record { by = λ f w le. g.by (with_reg f d v.0) w le }
  step_alike t c e n k (Move d s) a b hc g = record { by = λ f w le. g.by (with_reg f d (f.regs s)) w le }
  step_alike t c e n k (Conv d y s) a b hc g = record { by = λ f w le. g.by (with_reg f d (convert y (f.regs s))) w le }
  step_alike t c e n k (Bin o d x y) a b hc g = record {
    by = λ f w le. word_alike (operate o (f.regs x) (f.regs y)) w (λ v. a (with_reg f d v) w)
        (λ v. b (with_reg f d v) (world_by h w)) (λ v. g.by (with_reg f d v) w le);
  }
  step_alike t c e n k (Get d q) a b hc g = record { by = λ f w le. g.by (with_reg f d (w.objects q 0)) w le }
  step_alike t c e n k (Set q s) a b hc g = record { by = λ f w le. g.by f (with_object w q 0 (f.regs s)) le }
  step_alike t c e n k (GetX d q i) a b hc g = record {
    by = λ f w le. if_alike w.turns w.output (nat_lt (f.regs i) (n.object q)) _ _ _ _
        (g.by (with_reg f d (w.objects q (f.regs i))) w le) (refl, grows_refl w.output);
  }
  step_alike t c e n k (SetX q i s) a b hc g = record {
    by = λ f w le. if_alike w.turns w.output (nat_lt (f.regs i) (n.object q)) _ _ _ _
        (g.by f (with_object w q (f.regs i) (f.regs s)) le) (refl, grows_refl w.output);
  }
  step_alike t c e n k (GetA d x i) a b hc g = record {
    by = λ f w le. if_alike w.turns w.output (nat_lt (f.regs i) (n.array x)) _ _ _ _
        (g.by (with_reg f d (f.arrays x (f.regs i))) w le) (refl, grows_refl w.output);
  }
  step_alike t c e n k (SetA x i s) a b hc g = record {
    by = λ f w le. if_alike w.turns w.output (nat_lt (f.regs i) (n.array x)) _ _ _ _
        (g.by (record f { arrays = put_element f.arrays x (f.regs i) (f.regs s) }) w le) (refl, grows_refl w.output);
  }
  step_alike t c e n k (Clear r m x y) a b hc g = record { by = λ f w le. g.by (cleared f r m x y) w le }
  step_alike t c e n k Turn a b hc g = record { by = λ f w le. turn_alike t w.turns w (λ w1. a f w1) (λ w1. b f w1) le (λ w1 lt. g.by f w1 (omega arith)) }
  step_alike t c e n k (Call dest p count args) a b hc g =
      record {
        by = λ f w le.
            let q = hc.by k p (each f.regs args) w le in
            let r = return_alike w.turns w.output (c k p (each f.regs args) w) (λ v w1. a (received f dest v) w1) (λ v w1. b (received f dest v) w1) q.1
            (λ v w1 le1. g.by (received f dest v) w1 (omega arith)) in
            (ap (λ (o : Outcome T). with_return o (λ v w1. b (received f dest v) w1)) q.0 ∙ r.0, r.1);
      }
  step_alike t c e n k (GetChar d) a b hc g = record { by = λ f w le. g.by (with_reg f d (first_byte w.input)) (after_get w) le }
  step_alike t c e n k (PutChar d s) a b hc g =
      record {
        by = λ f w le.
            let r = g.by (with_reg f d (low_byte (f.regs s))) (after_put (f.regs s) w) le in (
              r.0,
              after_more w.turns w.turns w.output (w.output ++ low_byte (f.regs s) ∷ []) (a (with_reg f d (low_byte (f.regs s))) (after_put (f.regs s) w))
                  (omega arith) (record { more = low_byte (f.regs s) ∷ []; same = refl }) r.1,
            );
      }

  pub steps_alike : (t : ℕ) (c : Act S) (e : Act T) (n : Lengths) (k : ℕ) (is : List Instr) (a : Next S) (b : Next T) → CallsAlike t c e → Alike t a b
      → Alike t (steps c n k is a) (steps e n k is b)
  steps_alike t c e n k [] a b hc g = record { by = λ f w le. g.by f w le }
  steps_alike t c e n k (i ∷ is) a b hc g = record {
    by = λ f w le. (step_alike t c e n k i _ _ hc (steps_alike t c e n (sites_in i + k) is a b hc g)).by f w le;
  }

  choose_alike : (t : ℕ) (xs : List ℕ) (x : ℕ) (a a1 : Outcome S) (b b1 : Outcome T) → Like t xs a b → Like t xs a1 b1
      → Like t xs (choose x a a1) (choose x b b1)
  choose_alike t xs zero a a1 b b1 g g1 = g1
  choose_alike t xs (suc x) a a1 b b1 g g1 = g

  pub finish_alike : (t : ℕ) (back on : ℕ → Next S) (back1 on1 : ℕ → Next T) (e : End) → ((u : ℕ) → Alike t (back u) (back1 u))
      → ((u : ℕ) → Alike t (on u) (on1 u)) → Alike t (λ f w. finish back on e f w) (λ f w. finish back1 on1 e f w)
  finish_alike t back on back1 on1 (ends.Jump u) hb ho = record { by = λ f w le. (ho u).by f w le }
  finish_alike t back on back1 on1 (ends.Branch x u v) hb ho = record {
    by = λ f w le. choose_alike w.turns w.output (f.regs x) _ _ _ _ ((ho u).by f w le)
        ((ho v).by f w le);
  }
  finish_alike t back on back1 on1 (ends.Loop u) hb ho = record { by = λ f w le. (hb u).by f w le }
  finish_alike t back on back1 on1 (ends.Return x) hb ho = record { by = λ f w le. (refl, (omega arith, grows_refl w.output)) }
  finish_alike t back on back1 on1 (ends.Exit x) hb ho = record { by = λ f w le. (refl, grows_refl w.output) }

  -- a body under calls and ways back that are alike
  pub enter_alike : (t : ℕ) (c : Act S) (e : Act T) (back : ℕ → Next S) (back1 : ℕ → Next T) (n : Lengths) (xs : List Block) (b k u : ℕ) → CallsAlike t c e
      → ((v : ℕ) → Alike t (back v) (back1 v)) → Alike t (enter c back n xs b k u) (enter e back1 n xs b k u)
  enter_alike t c e back back1 n [] b k u hc hb = record { by = λ f w le. (refl, tt) }
  enter_alike t c e back back1 n (x ∷ xs) b k u hc hb =
      record {
        by = λ f w le. if_alike w.turns w.output (nat_eq u b) _ _ _ _
            ((steps_alike t c e n k x.instrs _ _ hc (finish_alike t back _ back1 _ x.end hb
            (λ v. record { by = λ f1 w1 le1. (enter_alike t c e back back1 n xs (suc b) (sites_of x.instrs + k) v hc hb).by f1 w1 le1 }))).by f w le)
            ((enter_alike t c e back back1 n xs (suc b) (sites_of x.instrs + k) u hc hb).by f w le);
      }

  pub begin_alike : (t : ℕ) (xs : List ℕ) (ra : RoutineParts → ℕ → Next S) (rb : RoutineParts → ℕ → Next T) (w : World S)
      → ((r : RoutineParts) (u : ℕ) (f : Frame) → Like t xs (ra r u f w) (rb r u f (world_by h w))) → (o : Option RoutineParts) (args : List ℕ)
      → Like t xs (begin ra o args w) (begin rb o args (world_by h w))
  begin_alike t xs ra rb w g None args = (refl, tt)
  begin_alike t xs ra rb w g (Some r) args = g r 0 (frame_of r.params args)

  module _ (note : Recorder S) (note1 : Recorder T) (notes : (p k q : ℕ) (log : S) → note1 p k q (h log) ≡ h (note p k q log)) (prog : IlProgram) where
    pub noted_by : (p k q : ℕ) (w : World S) → noted note1 p k q (world_by h w) ≡ world_by h (noted note p k q w)
    noted_by p k q w = ap (λ (l : T). record { objects = w.objects; input = w.input; output = w.output; turns = w.turns; log = l }) (notes p k q w.log)

    -- two bounds above the turns left give the same
    pub exec_alike : (n m : ℕ) (r : RoutineParts) (u : ℕ) (f : Frame) (w : World S) → w.turns < n → w.turns < m
        → Like w.turns w.output (exec note prog n r u f w) (exec note1 prog m r u f (world_by h w))
    exec_alike zero m r u f w ln lm = absurd (omega arith)
    exec_alike (suc n) zero r u f w ln lm = absurd (omega arith)
    exec_alike (suc n) (suc m) r u f w ln lm =
        (enter_alike w.turns
        (λ k q args w1. turn (ended OutOfTurns) (λ w2. begin (exec note prog n) (routine_at prog.routines q) args (noted note r.pid k q w2)) w1)
        (λ k q args w1. turn (ended OutOfTurns) (λ w2. begin (exec note1 prog m) (routine_at prog.routines q) args (noted note1 r.pid k q w2)) w1)
        (λ v f1 w1. turn (ended OutOfTurns) (λ w2. exec note prog n r v f1 w2) w1)
        (λ v f1 w1. turn (ended OutOfTurns) (λ w2. exec note1 prog m r v f1 w2) w1)
        (lengths prog r) r.blocks 0 0 u
        (record {
          by = λ k q args w1 le. turn_alike w.turns w1.turns w1 (λ w2. begin (exec note prog n) (routine_at prog.routines q) args (noted note r.pid k q w2))
              (λ w2. begin (exec note1 prog m) (routine_at prog.routines q) args (noted note1 r.pid k q w2)) le (λ w2 lt.
              subst (λ (w3 : World T). Like w2.turns w2.output (begin (exec note prog n) (routine_at prog.routines q) args (noted note r.pid k q w2))
              (begin (exec note1 prog m) (routine_at prog.routines q) args w3)) (sym (noted_by r.pid k q w2))
              (begin_alike w2.turns w2.output (exec note prog n) (exec note1 prog m) (noted note r.pid k q w2)
              (λ r1 u1 f1. exec_alike n m r1 u1 f1 (noted note r.pid k q w2) (omega arith) (omega arith)) (routine_at prog.routines q) args));
        })
        (λ v. record {
          by = λ f1 w1 le. turn_alike w.turns w1.turns w1 (λ w2. exec note prog n r v f1 w2) (λ w2. exec note1 prog m r v f1 w2) le
              (λ w2 lt. exec_alike n m r v f1 w2 (omega arith) (omega arith));
        })).by f w (omega arith)
