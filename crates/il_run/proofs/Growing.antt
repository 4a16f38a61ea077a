-- The output only grows.
use Rattle.std.proofs.Common.{◌≡◌, ℕ, suc, ◌+◌, List, [], ◌∷◌, take, drop, refl, subst, arith}
use Rattle.std.specs.Prelude.{Some}
use Rattle.std.proofs.lemmas.Option.{none-some, same_Some}
use Rattle.il_core.specs.declared.instr.Block.{Block}
use Rattle.il_core.specs.declared.program.IlProgram.{IlProgram}
use Rattle.il_core.specs.Routine.{RoutineParts}
use Rattle.il_core.specs.Program.{routine_at}
use Rattle.il_core.specs.World.{World, Outcome, Returns, Ends, Stuck}
use Rattle.il_core.specs.Meaning.{received, Lengths, lengths, Next, Act, sites_of, finish, enter, Recorder, noted, exec, act_noting, Run, run_of}
use Rattle.il_core.specs.Meaning.{MadeCall, add_call}
use Rattle.il_run.specs.declared.machine.Machine.{Machine}
use Rattle.il_run.specs.declared.machine.Suspended.{Suspended}
use Rattle.il_run.specs.declared.tables.Tables.{Tables}
use Rattle.il_core.specs.Places.{sites_before, from_block, calls_of, backs_of, run_from}
use Rattle.il_run.specs.Plain.{frame_in}
use Rattle.il_run.specs.Machine.{routine_in, frame_at, resume, world_in, to_come}
use Rattle.il_core.proofs.Bound.{Grows, After, Alike, CallsAlike, turn_alike, begin_alike, enter_alike, steps_alike, finish_alike, return_alike, exec_alike}

module _ {S : Type 0} (note : Recorder S) (p : IlProgram) where
  calls_like : (t : ℕ) (r : RoutineParts) → CallsAlike (λ (l : S). l) t (calls_of note p r) (calls_of note p r)
  calls_like t r = record {
    by = λ k q args w le. turn_alike (λ (l : S). l) t w.turns w (λ w2. act_noting note p q args (noted note r.pid k q w2))
        (λ w2. act_noting note p q args (noted note r.pid k q w2)) le (λ w2 lt.
        begin_alike (λ (l : S). l) w2.turns w2.output (exec note p (suc w2.turns)) (exec note p (suc w2.turns)) (noted note r.pid k q w2)
        (λ r1 u1 f1. exec_alike (λ (l : S). l) note note (λ a b c l. refl) p (suc w2.turns) (suc w2.turns) r1 u1 f1 (noted note r.pid k q w2) (omega arith)
        (omega arith)) (routine_at p.routines q) args);
  }

  backs_like : (t : ℕ) (r : RoutineParts) (u : ℕ) → Alike (λ (l : S). l) t (backs_of note p r u) (backs_of note p r u)
  backs_like t r u = record {
    by = λ f w le. turn_alike (λ (l : S). l) t w.turns w (λ w2. exec note p (suc w2.turns) r u f w2)
        (λ w2. exec note p (suc w2.turns) r u f w2) le (λ w2 lt. exec_alike (λ (l : S). l) note note (λ a b c l. refl) p (suc w2.turns) (suc w2.turns) r u f w2
        (omega arith) (omega arith));
  }

  from_like : (t : ℕ) (call : Act S) (back : ℕ → Next S) (n : Lengths) (xs : List Block) (b k j : ℕ) → CallsAlike (λ (l : S). l) t call call
      → ((u : ℕ) → Alike (λ (l : S). l) t (back u) (back u)) → Alike (λ (l : S). l) t (from_block call back n xs b k j) (from_block call back n xs b k j)
  from_like t call back n [] b k j hc hb = record { by = λ f w le. (refl, tt) }
  from_like t call back n (x ∷ xs) b k j hc hb =
      let later : ℕ → Next S = λ u f2 w2. enter call back n xs (suc b) (sites_of x.instrs + k) u f2 w2 in
      record {
        by = λ f w le. (steps_alike (λ (l : S). l) t call call n (sites_of (take j x.instrs) + k) (drop j x.instrs) (λ f1 w1. finish back later x.end f1 w1)
            (λ f1 w1. finish back later x.end f1 w1) hc
            (finish_alike (λ (l : S). l) t back later back later x.end hb
            (λ u. record {
              by = λ f1 w1 le1. (enter_alike (λ (l : S). l) t call call back back n xs (suc b) (sites_of x.instrs + k) u hc hb).by f1 w1 le1;
            }))).by f w le;
      }

  run_like : (t : ℕ) (r : RoutineParts) (b j : ℕ) → Alike (λ (l : S). l) t (run_from note p r b j) (run_from note p r b j)
  run_like t r b j = from_like t (calls_of note p r) (backs_of note p r) (lengths p r) (drop b r.blocks) b (sites_before r.blocks b 0) j (calls_like t r)
      (backs_like t r)

  resume_after : (xs us : List ℕ) (ss : List Suspended) (t : ℕ) (out : List ℕ) (o : Outcome S) → After t out o → After t out (resume note p xs us ss o)
  resume_after xs us [] t out o a = a
  resume_after xs us (s ∷ ss) t out o a =
      let go : ℕ → World S → Outcome S = λ v w. run_from note p (routine_in p s.routine) s.block s.instr (received (frame_at p xs us s) s.dest v) w in
      (return_alike (λ (l : S). l) t out (resume note p xs us ss o) go go (resume_after xs us ss t out o a)
      (λ v w le. (run_like t (routine_in p s.routine) s.block s.instr).by (received (frame_at p xs us s) s.dest v) w le)).1

run_grows : {S : Type 0} (t : ℕ) (out : List ℕ) (o : Outcome S) (r : Run) → After t out o → run_of o ≡ Some r → Grows out r.output
run_grows t out (Returns v w) r a e = subst (λ (x : Run). Grows out x.output) (same_Some _ _ e) a.1
run_grows t out (Ends x output log) r a e = subst (λ (y : Run). Grows out y.output) (same_Some _ _ e) a
run_grows t out Stuck r a e = absurd (none-some r e)

-- what is put out stays in the output
pub output_grows : (p : IlProgram) (t : Tables) (m : Machine) (input output : List ℕ) (calls : List MadeCall) (r : Run)
    → run_of (to_come p t m input output calls) ≡ Some r → Grows output r.output
output_grows p t m input output calls r e =
    let w : World (List MadeCall) = world_in add_call p t m input output calls in
    let here = (run_like add_call p m.turns (routine_in p m.routine) m.block m.instr).by (frame_in m.store (routine_in p m.routine)) w (omega arith) in
    run_grows m.turns output (to_come p t m input output calls) r
    (resume_after add_call p m.store.regs.items m.store.elements.items m.stack.items m.turns output
    (run_from add_call p (routine_in p m.routine) m.block m.instr (frame_in m.store (routine_in p m.routine)) w) here.1) e
