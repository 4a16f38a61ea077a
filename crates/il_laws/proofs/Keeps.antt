-- A change of bodies that keeps what each body does under the calls of the program as it was keeps every call.
use Rattle.std.proofs.Common.{◌≡◌, ℕ, zero, suc, ◌<◌, ◌≤◌, List, Option, Some, None, refl, sym, ap, subst, ◌∙◌, arith}
use Rattle.std.specs.Prelude.{⊤}
use Rattle.il_core.specs.declared.instr.Block.{Block}
use Rattle.il_core.specs.declared.program.IlProgram.{IlProgram}
use Rattle.il_core.specs.Routine.{RoutineParts}
use Rattle.il_core.specs.Program.{routine_at}
use Rattle.il_core.specs.World.{World, OutOfTurns, Outcome, ended, turn}
use Rattle.il_core.specs.Meaning.{Frame, frame_of, Lengths, lengths, no_log, begin, exec, act_noting}
use Rattle.il_laws.specs.Runs.{Calls, Callable, BlocksCallIn, pass, turned, body, run, called}
use Rattle.il_laws.proofs.Alike.{calls_by, Falls, Like, CallsAlike, pass_alike, turn_alike, exec_is, act_alike, calls_fall}

-- a routine with so many arguments does the same in both programs, under the calls of the first
pub record SameBody (S : Type 0) (prog prog1 : IlProgram) (may : Callable) (r r1 : RoutineParts) : Type 0 where
  pub params : r1.params ≡ r.params
  pub calls : BlocksCallIn may r.blocks
  pub calls1 : BlocksCallIn may r1.blocks
  pub by : (args : List ℕ) (w : World S) → run (called prog) (lengths prog r) r.blocks 0 (frame_of r.params args) w ≡ run (called prog)
      (lengths prog1 r1) r1.blocks 0 (frame_of r.params args) w

abbrev pub SameRoutine : Type 0 → IlProgram → IlProgram → Callable → Option RoutineParts → Option RoutineParts → Type 0
SameRoutine S prog prog1 may None None = ⊤
SameRoutine S prog prog1 may None (Some r1) = ⊥
SameRoutine S prog prog1 may (Some r) None = ⊥
SameRoutine S prog prog1 may (Some r) (Some r1) = SameBody S prog prog1 may r r1

module _ {S : Type 0} where
  pub fewer : (may : Callable) (t u : ℕ) (c e : Calls S) → u ≤ t → CallsAlike may t c e → CallsAlike may u c e
  fewer may t u c e le h = record { by = λ p args w ok wu. h.by p args w ok (omega arith) }

  module _ (prog : IlProgram) (may : Callable) (c : Calls S) where
    -- a run is its blocks under calls that are the program's
    pub exec_is_body : (t m : ℕ) (r : RoutineParts) (u : ℕ) (f : Frame) (w : World S) → CallsAlike may t (called prog) c → BlocksCallIn may r.blocks
        → w.turns ≤ t → w.turns < m → Like w.turns (exec no_log prog m r u f w) (body c (lengths prog r) r.blocks m u f w)
    exec_is_body t zero r u f w hc ok le lt = absurd (omega arith)
    exec_is_body t (suc m) r u f w hc ok le lt =
        let both = (pass_alike may w.turns (calls_by prog m) c (turned (exec no_log prog m r)) (turned (body c (lengths prog r) r.blocks m))
        (lengths prog r) r.blocks 0 u ok
        (record {
          by = λ q args w1 may1 le1. let a = turn_alike w.turns w1 (λ w2. begin (exec no_log prog m) (routine_at prog.routines q) args w2)
              (λ w2. act_noting no_log prog q args w2) le1 (λ w2 lt2. act_alike prog m q args w2 (omega arith)) in
              (a.0 ∙ (hc.by q args w1 may1 (omega arith)).0, a.1);
        })
        (λ v. record {
          by = λ f1 w1 le1. turn_alike w.turns w1 (λ w2. exec no_log prog m r v f1 w2) (λ w2. body c (lengths prog r) r.blocks m v f1 w2)
              le1 (λ w2 lt2. exec_is_body t m r v f1 w2 hc ok (omega arith) (omega arith));
        })).by f w (omega arith) in
        (exec_is prog m r u f w ∙ both.0, subst (Falls w.turns) (sym (exec_is prog m r u f w)) both.1)

  -- an outcome of a call is the callee's blocks under the program's calls
  pub act_is : (prog : IlProgram) (may : Callable) (r : RoutineParts) → BlocksCallIn may r.blocks → (args : List ℕ) (w : World S)
      → Like w.turns (exec no_log prog (suc w.turns) r 0 (frame_of r.params args) w)
      (run (called prog) (lengths prog r) r.blocks 0 (frame_of r.params args) w)
  act_is prog may r ok args w = exec_is_body prog may (called prog) w.turns (suc w.turns) r 0 (frame_of r.params args) w
      (calls_fall prog may w.turns) ok (omega arith) (omega arith)

  module _ (prog prog1 : IlProgram) (may : Callable)
      (same : (q : ℕ) → may q → SameRoutine S prog prog1 may (routine_at prog.routines q) (routine_at prog1.routines q)) where
    act_same : (w : World S) → CallsAlike {S = S} may w.turns (called prog1) (called prog) → (o o1 : Option RoutineParts) (args : List ℕ)
        → SameRoutine S prog prog1 may o o1 → Like w.turns (begin (exec no_log prog1 (suc w.turns)) o1 args w)
        (begin (exec no_log prog (suc w.turns)) o args w)
    act_same w hc None None args h = (refl, tt)
    act_same w hc None (Some r1) args h = absurd h
    act_same w hc (Some r) None args h = absurd h
    act_same w hc (Some r) (Some r1) args h =
        let a = act_is prog may r h.calls args w in
        let here : frame_of r.params args ≡ frame_of r1.params args = ap (λ (k : ℕ). frame_of k args) (sym h.params) in
        let there = ap (λ (f : Frame). run (called prog) (lengths prog1 r1) r1.blocks 0 f w) here in
        let b = exec_is_body prog1 may (called prog) w.turns (suc w.turns) r1 0 (frame_of r1.params args) w hc h.calls1
        (omega arith) (omega arith) in
        (b.0 ∙ sym there ∙ sym (h.by args w) ∙ sym a.0, b.1)

    calls_same : (t : ℕ) → CallsAlike {S = S} may t (called prog1) (called prog)
    calls_same zero = record {
      by = λ q args w ok le. turn_alike 0 w (λ w2. act_noting no_log prog1 q args w2)
          (λ w2. act_noting no_log prog q args w2) le (λ w2 lt. absurd (omega arith));
    }
    calls_same (suc t) =
        let ih = calls_same t in
        record {
          by = λ q args w ok le. turn_alike (suc t) w (λ w2. act_noting no_log prog1 q args w2) (λ w2. act_noting no_log prog q args w2) le
              (λ w2 lt. act_same w2 (fewer may t w2.turns (called prog1) (called prog) (omega arith) ih) (routine_at prog.routines q)
              (routine_at prog1.routines q) args (same q ok));
        }

    -- the change keeps `act`
    pub act_kept : (q : ℕ) (args : List ℕ) (w : World S) → may q → act_noting no_log prog q args w ≡ act_noting no_log prog1 q args w
    act_kept q args w ok = sym (act_same w (calls_same w.turns) (routine_at prog.routines q) (routine_at prog1.routines q) args (same q ok)).0

  pub called_routine : (prog : IlProgram) (may : Callable) (r : RoutineParts) (o : Option RoutineParts) → o ≡ Some r → BlocksCallIn may r.blocks
      → (args : List ℕ) (w : World S) → begin (exec no_log prog (suc w.turns)) o args w ≡ run (called prog) (lengths prog r) r.blocks 0
      (frame_of r.params args) w
  called_routine prog may r o e ok args w = ap (λ (q : Option RoutineParts). begin (exec no_log prog (suc w.turns)) q args w) e
      ∙ (act_is prog may r ok args w).0

  -- a program's call: a turn, and then the callee's blocks under the same calls
  pub called_is : (prog : IlProgram) (may : Callable) (q : ℕ) (r : RoutineParts) → routine_at prog.routines q ≡ Some r → BlocksCallIn may r.blocks
      → (args : List ℕ) (w : World S) → called prog q args w ≡ turn (ended OutOfTurns)
      (λ w1. run (called prog) (lengths prog r) r.blocks 0 (frame_of r.params args) w1) w
  called_is prog may q r e ok args w = ap (λ (go : World S → Outcome S). turn (ended OutOfTurns) go w)
      (λ i w1. called_routine prog may r (routine_at prog.routines q) e ok args w1 i)

  -- the run of blocks, which knows no bound
  module _ (may : Callable) (c : Calls S) (falls : (t : ℕ) → CallsAlike may t c c) (n : Lengths) (bs : List Block) (ok : BlocksCallIn may bs) where
    pub body_alike : (m l u : ℕ) (f : Frame) (w : World S) → w.turns < m → w.turns < l → Like w.turns (body c n bs m u f w) (body c n bs l u f w)
    body_alike zero l u f w lm ll = absurd (omega arith)
    body_alike (suc m) zero u f w lm ll = absurd (omega arith)
    body_alike (suc m) (suc l) u f w lm ll =
        (pass_alike may w.turns c c (turned (body c n bs m)) (turned (body c n bs l)) n bs 0 u ok (falls w.turns)
        (λ v. record {
          by = λ f1 w1 le. turn_alike w.turns w1 (λ w2. body c n bs m v f1 w2) (λ w2. body c n bs l v f1 w2) le
              (λ w2 lt. body_alike m l v f1 w2 (omega arith) (omega arith));
        })).by f w (omega arith)

    pub run_falls : (u : ℕ) (f : Frame) (w : World S) → Falls w.turns (run c n bs u f w)
    run_falls u f w = (body_alike (suc w.turns) (suc w.turns) u f w (omega arith) (omega arith)).1

    pub run_is : (u : ℕ) (f : Frame) (w : World S) → run c n bs u f w ≡ pass c (turned (run c n bs)) n bs 0 u f w
    run_is u f w =
        ((pass_alike may w.turns c c (turned (body c n bs w.turns)) (turned (run c n bs)) n bs 0 u ok (falls w.turns)
        (λ v. record {
          by = λ f1 w1 le. turn_alike w.turns w1 (λ w2. body c n bs w.turns v f1 w2) (λ w2. run c n bs v f1 w2) le
              (λ w2 lt. body_alike w.turns (suc w2.turns) v f1 w2 lt (omega arith));
        })).by f w (omega arith)).0
