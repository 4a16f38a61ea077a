-- A valid program never stops without an ending.
use Rattle.std.proofs.Common.{◌≡◌, ℕ, zero, suc, ◌+◌, ◌<◌, ◌≤◌, List, [], ◌∷◌, length, Bool, true, false, refl, subst, sym, arith, inl, inr, eq-eqb, ne_eqb}
use Rattle.std.specs.Prelude.{nat_lt, if◌then◌else◌, Option, Some, Result, Ok, Err, ⊤}
use Rattle.std.specs.List.{AllByRecursion}
use Rattle.std.proofs.lemmas.Bool.{cases_eq}
use Rattle.hlo_num.specs.declared.word.Trap.{Trap}
use Rattle.hlo_num.specs.Operators.{operate}
use Rattle.hlo_num.specs.Words.{convert}
use Rattle.il_core.specs.declared.instr.Block.{Block}
use Rattle.il_core.specs.declared.instr.Instr.{Instr}
use Rattle.il_core.specs.declared.instr.Instr.TheVariants.{Const, Move, Conv, Bin, Get, Set, GetX, SetX, GetA, SetA, Clear, Turn, Call, GetChar, PutChar}
use Rattle.il_core.specs.declared.instr.End.{End}
use Rattle.il_core.specs.declared.instr.End.TheVariants as ends
use Rattle.il_core.specs.declared.program.IlProgram.{IlProgram}
use Rattle.il_core.specs.Routine.{RoutineParts}
use Rattle.il_core.specs.Program.{routine_at, main_pid}
use Rattle.il_core.specs.Valid.{IsProgram, IsValid, IsValidInstr, IsValidEnd, AreValidBlocks, is_wanted}
use Rattle.il_core.specs.World.{World, Outcome, Returns, Ends, Stuck, OutOfTurns, ended, first_byte, after_get, low_byte, after_put, turn, turn_at}
use Rattle.il_core.specs.World.{choose, put_element, with_object, each, with_word, with_return}
use Rattle.il_core.specs.Meaning.{Frame, with_reg, frame_of, cleared, received, Lengths, lengths, Next, Act, step, steps, sites_in, sites_of, finish}
use Rattle.il_core.specs.Meaning.{enter, Recorder, no_log, noted, begin, exec, act, at_start, Run, HasRun, run_of}
use Rattle.il_core.proofs.Main.{main_shape}
use Rattle.il_core.proofs.Programs.{callee_of, callee_fits}

-- an outcome with at most so many turns left, that isn't stuck
abbrev pub Done : {S : Type 0} → ℕ → Outcome S → Type 0
Done t (Returns v w) = w.turns ≤ t
Done t (Ends e output log) = ⊤
Done t Stuck = ⊥

done_more : {S : Type 0} (t u : ℕ) (o : Outcome S) → u ≤ t → Done u o → Done t o
done_more t u (Returns v w) le d = let l : w.turns ≤ u = d in omega arith
done_more t u (Ends e output log) le d = tt
done_more t u Stuck le d = absurd d

module _ {S : Type 0} where
  pub record Goes (t : ℕ) (a : Next S) : Type 0 where
    pub by : (f : Frame) (w : World S) → w.turns ≤ t → Done w.turns (a f w)

  word_done : (t : ℕ) (r : Result ℕ Trap) (w : World S) (go : ℕ → Outcome S) → ((v : ℕ) → Done t (go v)) → Done t (with_word r w go)
  word_done t (Ok v) w go g = g v
  word_done t (Err x) w go g = tt

  if_done : (t : ℕ) (c : Bool) (a b : Outcome S) → Done t a → Done t b → Done t (if c then a else b)
  if_done t true a b x y = x
  if_done t false a b x y = y

  return_done : (t : ℕ) (o : Outcome S) (go : ℕ → World S → Outcome S) → Done t o → ((v : ℕ) (w : World S) → w.turns ≤ t → Done w.turns (go v w))
      → Done t (with_return o go)
  return_done t (Returns v w) go d g = done_more t w.turns (go v w) d (g v w d)
  return_done t (Ends e output log) go d g = tt
  return_done t Stuck go d g = absurd d

  turn_done : (t u : ℕ) (w : World S) (go : World S → Outcome S) → u ≤ t → ((w1 : World S) → w1.turns < t → Done w1.turns (go w1))
      → Done u (turn_at (ended OutOfTurns w) go w u)
  turn_done t zero w go le g = tt
  turn_done t (suc u) w go le g = done_more (suc u) u (go (record w { turns = u })) (omega arith) (g (record w { turns = u }) (omega arith))

  choose_done : (t x : ℕ) (a b : Outcome S) → Done t a → Done t b → Done t (choose x a b)
  choose_done t zero a b x y = y
  choose_done t (suc n) a b x y = x

module _ {S : Type 0} (note : Recorder S) (p : IlProgram) (valid : IsProgram p) where
  -- a PID that has a valid routine
  pub record HasRoutine (q : ℕ) : Type 0 where
    pub routine : RoutineParts
    pub is : routine_at p.routines q ≡ Some routine
    pub is_valid : IsValid p.shapes routine

  pub record CallsGo (t : ℕ) (c : Act S) : Type 0 where
    pub by : (k q : ℕ) (args : List ℕ) (w : World S) → w.turns ≤ t → HasRoutine q → Done w.turns (c k q args w)

  step_done : (t : ℕ) (c : Act S) (n : Lengths) (k regs arrays : ℕ) (i : Instr) (a : Next S) → IsValidInstr p.shapes regs arrays i → CallsGo t c → Goes t a
      → Goes t (step c n k i a)
  step_done t c n k regs arrays (Const d v) a ok hc g = record { by = λ f w le. g.by (with_reg f d v.0) w le }
  step_done t c n k regs arrays (Move d s) a ok hc g = record { by = λ f w le. g.by (with_reg f d (f.regs s)) w le }
  step_done t c n k regs arrays (Conv d y s) a ok hc g = record { by = λ f w le. g.by (with_reg f d (convert y (f.regs s))) w le }
  step_done t c n k regs arrays (Bin o d x y) a ok hc g = record {
    by = λ f w le. word_done w.turns (operate o (f.regs x) (f.regs y)) w
        (λ v. a (with_reg f d v) w) (λ v. g.by (with_reg f d v) w le);
  }
  step_done t c n k regs arrays (Get d q) a ok hc g = record { by = λ f w le. g.by (with_reg f d (w.objects q 0)) w le }
  step_done t c n k regs arrays (Set q s) a ok hc g = record { by = λ f w le. g.by f (with_object w q 0 (f.regs s)) le }
  step_done t c n k regs arrays (GetX d q i) a ok hc g = record {
    by = λ f w le. if_done w.turns (nat_lt (f.regs i) (n.object q)) _ _
        (g.by (with_reg f d (w.objects q (f.regs i))) w le) tt;
  }
  step_done t c n k regs arrays (SetX q i s) a ok hc g = record {
    by = λ f w le. if_done w.turns (nat_lt (f.regs i) (n.object q)) _ _
        (g.by f (with_object w q (f.regs i) (f.regs s)) le) tt;
  }
  step_done t c n k regs arrays (GetA d x i) a ok hc g = record {
    by = λ f w le. if_done w.turns (nat_lt (f.regs i) (n.array x)) _ _
        (g.by (with_reg f d (f.arrays x (f.regs i))) w le) tt;
  }
  step_done t c n k regs arrays (SetA x i s) a ok hc g = record {
    by = λ f w le. if_done w.turns (nat_lt (f.regs i) (n.array x)) _ _
        (g.by (record f { arrays = put_element f.arrays x (f.regs i) (f.regs s) }) w le) tt;
  }
  step_done t c n k regs arrays (Clear r m x y) a ok hc g = record { by = λ f w le. g.by (cleared f r m x y) w le }
  step_done t c n k regs arrays Turn a ok hc g = record { by = λ f w le. turn_done t w.turns w (λ w1. a f w1) le (λ w1 lt. g.by f w1 (omega arith)) }
  step_done t c n k regs arrays (Call dest q count args) a ok hc g =
      let callee = callee_fits p valid q (length args) (is_wanted dest) ok.2 in
      record {
        by = λ f w le. return_done w.turns (c k q (each f.regs args) w) (λ v w1. a (received f dest v) w1)
            (hc.by k q (each f.regs args) w le (record { routine = callee.routine; is = callee.is; is_valid = callee.is_valid }))
            (λ v w1 le1. g.by (received f dest v) w1 (omega arith));
      }
  step_done t c n k regs arrays (GetChar d) a ok hc g = record { by = λ f w le. g.by (with_reg f d (first_byte w.input)) (after_get w) le }
  step_done t c n k regs arrays (PutChar d s) a ok hc g = record { by = λ f w le. g.by (with_reg f d (low_byte (f.regs s))) (after_put (f.regs s) w) le }

  steps_done : (t : ℕ) (c : Act S) (n : Lengths) (k regs arrays : ℕ) (is : List Instr) (a : Next S) → AllByRecursion (IsValidInstr p.shapes regs arrays) is
      → CallsGo t c → Goes t a → Goes t (steps c n k is a)
  steps_done t c n k regs arrays [] a ok hc g = record { by = λ f w le. g.by f w le }
  steps_done t c n k regs arrays (i ∷ is) a ok hc g = record {
    by = λ f w le.
        (step_done t c n k regs arrays i _ ok.0 hc (steps_done t c n (sites_in i + k) regs arrays is a ok.1 hc g)).by f w le;
  }

  finish_done : (t regs : ℕ) (value : Bool) (blocks b : ℕ) (back on : ℕ → Next S) (e : End) → b < blocks → IsValidEnd regs value blocks b e
      → ((u : ℕ) → u < blocks → Goes t (back u)) → ((u : ℕ) → b < u → u < blocks → Goes t (on u)) → Goes t (λ f w. finish back on e f w)
  finish_done t regs value blocks b back on (ends.Jump u) lt ok hb ho = record { by = λ f w le. (ho u ok.0 ok.1).by f w le }
  finish_done t regs value blocks b back on (ends.Branch x u v) lt ok hb ho =
      record { by = λ f w le. choose_done w.turns (f.regs x) _ _ ((ho u ok.1.0 ok.1.1).by f w le) ((ho v ok.2.0 ok.2.1).by f w le) }
  finish_done t regs value blocks b back on (ends.Loop u) lt ok hb ho = record { by = λ f w le. let l : u ≤ b = ok in (hb u (omega arith)).by f w le }
  finish_done t regs value blocks b back on (ends.Return x) lt ok hb ho = record { by = λ f w le. omega arith }
  finish_done t regs value blocks b back on (ends.Exit x) lt ok hb ho = record { by = λ f w le. tt }

  enter_done : (t : ℕ) (c : Act S) (back : ℕ → Next S) (n : Lengths) (r : RoutineParts) (xs : List Block) (b k u : ℕ) → AreValidBlocks p.shapes r b xs
      → b + length xs ≡ length r.blocks → b ≤ u → u < length r.blocks
      → CallsGo t c → ((v : ℕ) → v < length r.blocks → Goes t (back v)) → Goes t (enter c back n xs b k u)
  enter_done t c back n r [] b k u ok long le lt hc hb = absurd (omega arith)
  enter_done t c back n r (x ∷ xs) b k u ok long le lt hc hb =
      let rest : AreValidBlocks p.shapes r (suc b) xs = subst (λ (m : ℕ). AreValidBlocks p.shapes r m xs) (omega arith) ok.2 in
      let later : ℕ → Next S = λ v f w. enter c back n xs (suc b) (sites_of x.instrs + k) v f w in
      let first : Next S = λ f w. steps c n k x.instrs (λ f1 w1. finish back later x.end f1 w1) f w in
      let goes : (v : ℕ) → b < v → v < length r.blocks
      → Goes t (later v) = λ v less lv. record {
        by = λ f w le1. (enter_done t c back n r xs (suc b) (sites_of x.instrs + k) v rest (omega arith)
            (omega arith) lv hc hb).by f w le1;
      } in
      elim (cases_eq u b) [
        | inl e ↦ record {
          by = λ f w le1. subst (λ (c1 : Bool). Done w.turns (if c1 then first f w else later u f w)) (sym (eq-eqb u b e))
              ((steps_done t c n k r.regs (length r.arrays) x.instrs (λ f1 w1. finish back later x.end f1 w1) ok.0 hc
              (finish_done t r.regs r.value (length r.blocks) b back later x.end (omega arith) ok.1 hb goes)).by f w le1);
        }
        | inr ne ↦ record {
          by = λ f w le1. subst (λ (c1 : Bool). Done w.turns (if c1 then first f w else later u f w)) (sym (ne_eqb u b ne))
              ((goes u (omega arith) lt).by f w le1);
        }
      ]

  begin_done : (t q : ℕ) (run : RoutineParts → ℕ → Next S) (args : List ℕ) (w : World S) → HasRoutine q
      → ((r : RoutineParts) → IsValid p.shapes r → Done t (run r 0 (frame_of r.params args) w)) → Done t (begin run (routine_at p.routines q) args w)
  begin_done t q run args w h go = subst (λ (o : Option RoutineParts). Done t (begin run o args w)) (sym h.is) (go h.routine h.is_valid)

  exec_done : (n : ℕ) (r : RoutineParts) (u : ℕ) (f : Frame) (w : World S) → w.turns < n → IsValid p.shapes r → u < length r.blocks
      → Done w.turns (exec note p n r u f w)
  exec_done zero r u f w ln ok lt = absurd (omega arith)
  exec_done (suc n) r u f w ln ok lt =
      (enter_done w.turns
      (λ k q args w1. turn (ended OutOfTurns) (λ w2. begin (exec note p n) (routine_at p.routines q) args (noted note r.pid k q w2)) w1)
      (λ v f1 w1. turn (ended OutOfTurns) (λ w2. exec note p n r v f1 w2) w1)
      (lengths p r) r r.blocks 0 0 u ok.blocks (omega arith) (omega arith) lt
      (record {
        by = λ k q args w1 le h. turn_done w.turns w1.turns w1 (λ w2. begin (exec note p n) (routine_at p.routines q) args (noted note r.pid k q w2)) le
            (λ w2 lt2.
            begin_done w2.turns q (exec note p n) args (noted note r.pid k q w2) h
            (λ r1 ok1. exec_done n r1 0 (frame_of r1.params args) (noted note r.pid k q w2) (omega arith) ok1 ok1.some_block));
      })
      (λ v lv. record {
        by = λ f1 w1 le. turn_done w.turns w1.turns w1 (λ w2. exec note p n r v f1 w2) le (λ w2 lt2. exec_done n r v f1 w2 (omega arith) ok lv);
      })).by f w (omega arith)

run_there : {S : Type 0} (t : ℕ) (o : Outcome S) → Done t o → (r : Run) × (run_of o ≡ Some r)
run_there t (Returns v w) d = (_, refl)
run_there t (Ends e output log) d = (_, refl)
run_there t Stuck d = absurd d

pub has_run : (p : IlProgram) → IsProgram p → (input : List ℕ) (turns : ℕ) → HasRun p input turns
has_run p valid input turns =
    let w : World (Unit {0}) = at_start tt p input turns in
    let c = callee_of p valid (main_pid p.shapes) 0 true (main_shape p valid) in
    let r = run_there turns (act p (main_pid p.shapes) [] w)
    (begin_done no_log p valid turns (main_pid p.shapes) (exec no_log p (suc turns)) [] w (record { routine = c.routine; is = c.is; is_valid = c.is_valid })
    (λ r1 ok1. exec_done no_log p valid (suc turns) r1 0 (frame_of r1.params []) w (omega arith) ok1 ok1.some_block)) in
    record { run = r.0; is = r.1 }
