-- The routines of a lowered program do what its functions do: by induction on the turns that are left.
use Rattle.std.proofs.Common.{◌≡◌, ℕ, zero, suc, ◌≤◌, List, Bool, true, false, Option, Some, None, length, refl, sym, ap, ◌∙◌, subst, arith}
use Rattle.std.specs.Prelude.{nat_lt, if◌then◌else◌, ⊤}
use Rattle.std.proofs.lemmas.Bool.{le-ltb}
use Rattle.il_core.specs.declared.instr.End.{End}
use Rattle.il_core.specs.declared.program.IlProgram.{IlProgram}
use Rattle.il_core.specs.Meaning as il
use Rattle.il_core.specs.Meaning.{Frame, Next, no_log, exec, frame_of, lengths, act_noting}
use Rattle.il_core.specs.Routine.{RoutineParts}
use Rattle.il_core.specs.World.{World, OutOfTurns, Outcome, Returns, Stuck, ended, turn, turn_at, from_list}
use Rattle.il_laws.specs.Runs.{run, turned, called}
use Rattle.il_laws.proofs.Alike.{Falls, falls_more, anything, anything_blocks, calls_fall}
use Rattle.il_laws.proofs.Keeps.{act_is, run_is}
use Rattle.c_typed.specs.Meaning as c_meaning
use Rattle.c_typed.specs.Meaning.{Program, function_at, locals_of, call_function}
use Rattle.c_typed.specs.Results.{Locals, Flow, Normal, Breaks, Continues, Leaves, outcome}
use Rattle.c_typed.specs.Trees.{Stmt, Function}
use Rattle.c_typed.proofs.Bound.{execute, execute_is}
use Rattle.lower_laws.specs.Bound.{Scope, locals_behind, scope_of}
use Rattle.lower_laws.specs.Code.{Code, Numbers}
use Rattle.lower_laws.specs.Functions.{layout_of, first_numbers, body_past, last_code, nowhere, body_code, lowered}
use Rattle.lower_laws.specs.Laws.{routine_of, IsLowered}
use Rattle.lower_laws.specs.Layouts.{Layout}
use Rattle.lower_laws.specs.Statements.{open_behind, stmt_past, stmt_code}
use Rattle.lower_laws.proofs.Coming.{Setting, goes, from, arrives}
use Rattle.lower_laws.proofs.ExpressionsMeet.{CallsMeet}
use Rattle.lower_laws.proofs.Fine.{Fine, LeadsPast}
use Rattle.lower_laws.proofs.Flowing.{Flows, flows_later, At, LoopsMeet}
use Rattle.lower_laws.proofs.Frames.{IsLaidOut, Agrees, put_here, if_no}
use Rattle.lower_laws.proofs.Meeting.{Ready}
use Rattle.lower_laws.proofs.Passing.{past_either}
use Rattle.lower_laws.proofs.StatementsMeet.{stmt_meets}
use Rattle.lower_laws.proofs.Widening.{with_locals}

-- all locals of a function
abbrev pub whole : Function → Scope
whole f = with_locals (scope_of f) (locals_behind f.body 0)

-- a register behind the parameters begins with 0
begins_zero : (params : ℕ) (args : List ℕ) (x : ℕ) → params ≤ x → (if nat_lt x params then from_list args x else 0) ≡ 0
begins_zero params args x le = ap (λ b. if b then from_list args x else 0) (le-ltb x params le)

module _ (p : Program) (q : IlProgram) (entry : ℕ → ℕ) (count : ℕ → ℕ → ℕ) where
  abbrev pub routine : Function → RoutineParts
  routine f = lowered (entry f.pid) (count f.pid) f

  abbrev layout : Function → Layout
  layout f = layout_of (count f.pid) f

  -- the layout of a function is sound, and all that its body needs is there
  pub record IsSound (f : Function) : Type 0 where
    pub laid : IsLaidOut (lengths q (routine f)) (c_meaning.lengths p f) (layout f) (whole f)
    pub fine : Fine (layout f) (whole f) f.body true (first_numbers f)

  module _ (S : Type 0) (is : IsLowered p q entry count) where
    -- the run of a function's routine from a block on
    abbrev runs : Function → ℕ → Next S
    runs f u f1 w = run (called q) (lengths q (routine f)) (routine f).blocks u f1 w

    -- the setting of a function, with at most m turns
    abbrev setting : Function → ℕ → Setting S
    setting f m = record {
      call = called q;
      back = turned (runs f);
      c_call = λ g args w. turn (ended OutOfTurns) (λ w1. call_function p g args w1) w;
      c_again = λ s l w. turn (λ w1. Leaves (ended OutOfTurns w1)) (λ w1. execute p f s l w1) w;
      routine = lengths q (routine f);
      function = c_meaning.lengths p f;
      layout = layout f;
      scope = whole f;
      most = m;
    }

    runs_is : (f : Function) (m u : ℕ) (f1 : Frame) (w : World S) → runs f u f1 w ≡ from (setting f m) (body_code (layout f) f) (first_numbers f) u f1 w
    runs_is f m u f1 w = run_is anything (called q) (λ t. calls_fall q anything t) (lengths q (routine f)) (routine f).blocks
        (anything_blocks (routine f).blocks) u f1 w

    -- with at most m turns left, the code of any statement does what the statement does
    abbrev Follows : ℕ → Type 0
    Follows m = (f : Function) → IsSound f → (s : Stmt) (b e : End) (opened : Bool) (n : Numbers) (k : Code) (l : Locals) (f1 : Frame) (w : World S)
        → Fine (layout f) (whole f) s opened n
        → LeadsPast (open_behind s opened) (stmt_past (layout f).outline s opened n).block b
        → LeadsPast (open_behind s opened) (stmt_past (layout f).outline s opened n).block e
        → At (setting f m) (runs f) opened n (stmt_code (layout f) b e s opened n k) → Ready (setting f m) l f1 w
        → Flows (setting f m) b e k (stmt_past (layout f).outline s opened n) w.turns
        (goes (setting f m) (stmt_code (layout f) b e s opened n k) n f1 w) (execute p f s l w)

    abbrev Below : ℕ → Type 0
    Below zero = ⊤
    Below (suc m) = Follows m

    -- how many turns there are at most is no part of what is said of a run
    recast : (f : Function) (m m1 : ℕ) {b e : End} {k : Code} {n : Numbers} {t : ℕ} {o : Outcome S} (v : Flow S)
        → Flows (setting f m) b e k n t o v → Flows (setting f m1) b e k n t o v
    recast f m m1 (Normal l w) h = record { by = record { frame = h.by.frame; falls = h.by.falls; agrees = h.by.agrees; runs = h.by.runs } }
    recast f m m1 (Breaks l w) h = record { by = record { frame = h.by.frame; falls = h.by.falls; agrees = h.by.agrees; runs = h.by.runs } }
    recast f m m1 (Continues l w) h = record { by = record { frame = h.by.frame; falls = h.by.falls; agrees = h.by.agrees; runs = h.by.runs } }
    recast f m m1 (Leaves r) h = record { by = h.by }

    -- behind the body: a return without a value, and no block where `break` leads
    last_is : (f : Function) (m : ℕ) (v : Bool) (n : Numbers) (f1 : Frame) (w : World S) → goes (setting f m) (last_code v n) n f1 w ≡ Returns 0 w
    last_is f m false n f1 w = refl
    last_is f m true n f1 w = ap (λ z. Returns z w) (put_here f1.regs n.reg 0)

    nowhere_is : (f : Function) (m : ℕ) (v : Bool) (n : Numbers) (f1 : Frame) (w : World S)
        → from (setting f m) (last_code v n) n (suc n.block) f1 w ≡ Stuck
    nowhere_is f m false n f1 w = if_no (suc n.block) n.block _ _ (λ h. omega arith)
    nowhere_is f m true n f1 w = if_no (suc n.block) n.block _ _ (λ h. omega arith)

    result_meets : (f : Function) (m t : ℕ) (o : Outcome S) (v : Flow S)
        → Flows (setting f m) (nowhere f) (nowhere f) (last_code (layout f).outline.value (body_past f)) (body_past f) t o v
        → (o ≡ outcome v) × Falls t (outcome v)
    result_meets f m t o (Normal l w) h = (h.by.runs ∙ last_is f m (layout f).outline.value (body_past f) h.by.frame w, h.by.falls)
    result_meets f m t o (Breaks l w) h = (h.by.runs ∙ nowhere_is f m (layout f).outline.value (body_past f) h.by.frame w, tt)
    result_meets f m t o (Continues l w) h = (h.by.runs ∙ nowhere_is f m (layout f).outline.value (body_past f) h.by.frame w, tt)
    result_meets f m t o (Leaves r) h = h.by

    body_meets : (m : ℕ) → Follows m → (f : Function) → IsSound f → (args : List ℕ) (w : World S) → w.turns ≤ m
        → (exec no_log q (suc w.turns) (routine f) 0 (frame_of (length f.params) args) w
        ≡ outcome (execute p f f.body (locals_of (length f.params) args) w))
        × Falls w.turns (outcome (execute p f f.body (locals_of (length f.params) args) w))
    body_meets m ih f sound args w wm =
        let n = body_past f in
        let j = nowhere f in
        let frame = frame_of (length f.params) args in
        let there = past_either (open_behind f.body true) n.block (suc n.block) (omega arith) in
        let agrees : Agrees (layout f) (whole f) (locals_of (length f.params) args) frame = record {
          params = λ z lt. refl;
          variables = λ z ok. begins_zero (length f.params) args ((layout f).register z) (sound.laid.behind z ok);
          arrays = λ z ok i. refl;
        } in
        let h = ih f sound f.body j j true (first_numbers f) (last_code (layout f).outline.value n) (locals_of (length f.params) args) frame w
        sound.fine there there (record { by = λ t f1 w1 later. runs_is f m t f1 w1 }) (record { turns = wm; agrees = agrees }) in
        let d = result_meets f m w.turns _ (execute p f f.body (locals_of (length f.params) args) w) h in (
          (act_is q anything (routine f) (anything_blocks (routine f).blocks) args w).0 ∙ runs_is f m 0 frame w
              ∙ arrives (setting f m) (body_code (layout f) f) (first_numbers f) frame w ∙ d.0,
          d.1,
        )

    module _ (sound : (pid : ℕ) (f : Function) → function_at p.functions pid ≡ Some f → IsSound f) where
      called_at : (m : ℕ) → Follows m → (args : List ℕ) (w : World S) → w.turns ≤ m → (g : Option Function)
          → ((f : Function) → g ≡ Some f → IsSound f)
          → (il.begin (exec no_log q (suc w.turns)) (routine_of entry count g) args w ≡ c_meaning.begin (c_meaning.flow p (suc w.turns)) g args w)
          × Falls w.turns (c_meaning.begin (c_meaning.flow p (suc w.turns)) g args w)
      called_at m ih args w wm None fine = (refl, tt)
      called_at m ih args w wm (Some f) fine = body_meets m ih f (fine f refl) args w wm

      meets_call : (m : ℕ) → Follows m → (g : ℕ) (args : List ℕ) (w : World S) → w.turns ≤ m
          → (act_noting no_log q g args w ≡ call_function p g args w) × Falls w.turns (call_function p g args w)
      meets_call m ih g args w wm =
          let h = called_at m ih args w wm (function_at p.functions g) (sound g) in
          (ap (λ r. il.begin (exec no_log q (suc w.turns)) r args w) (is.routines g) ∙ h.0, h.1)

      call_at : (m : ℕ) → Below m → (g : ℕ) (args : List ℕ) (w : World S) (t : ℕ) → t ≤ m
          → (turn_at (ended OutOfTurns w) (λ w1. act_noting no_log q g args w1) w t ≡ turn_at (ended OutOfTurns w) (λ w1. call_function p g args w1) w t)
          × Falls t (turn_at (ended OutOfTurns w) (λ w1. call_function p g args w1) w t)
      call_at m ih g args w zero tm = (refl, tt)
      call_at zero ih g args w (suc t) tm = absurd (omega arith)
      call_at (suc m) ih g args w (suc t) tm =
          let w1 : World S = record w { turns = t } in
          let d = meets_call m ih g args w1 (omega arith) in
          (d.0, falls_more (suc t) t (call_function p g args w1) (omega arith) d.1)

      loop_at : (m : ℕ) → Below m → (f : Function) → IsSound f → (s : Stmt) (b e : End) (n : Numbers) (k : Code) (l : Locals) (f1 : Frame)
          (w : World S) (t : ℕ) → Fine (layout f) (whole f) s false n → LeadsPast (open_behind s false) (stmt_past (layout f).outline s false n).block b
          → LeadsPast (open_behind s false) (stmt_past (layout f).outline s false n).block e
          → At (setting f m) (runs f) false n (stmt_code (layout f) b e s false n k) → t ≤ m → Agrees (layout f) (whole f) l f1
          → Flows (setting f m) b e k (stmt_past (layout f).outline s false n) t
          (turn_at (ended OutOfTurns w) (λ w1. runs f n.block f1 w1) w t) (turn_at (Leaves (ended OutOfTurns w)) (λ w1. execute p f s l w1) w t)
      loop_at m ih f fact s b e n k l f1 w zero fine bb be at tm agrees = record { by = (refl, tt) }
      loop_at zero ih f fact s b e n k l f1 w (suc t) fine bb be at tm agrees = absurd (omega arith)
      loop_at (suc m) ih f fact s b e n k l f1 w (suc t) fine bb be at tm agrees =
          let w1 : World S = record w { turns = t } in
          let c = setting f m in
          let code = stmt_code (layout f) b e s false n k in
          let now = ih f fact s b e false n k l f1 w1 fine bb be (record { by = λ u f2 w2 later. at.by u f2 w2 later })
          (record { turns = omega arith; agrees = agrees }) in
          recast f m (suc m) (execute p f s l w1)
          (flows_later c (execute p f s l w1) (omega arith) (at.by n.block f1 w1 (omega arith) ∙ arrives c code n f1 w1) now)

      step_meets : (m : ℕ) → Below m → Follows m
      step_meets m ih f fact s b e opened n k l f1 w fine bb be at ready =
          let c = setting f m in
          let calls : CallsMeet c = record { by = λ g vs w1 wm. call_at m ih g vs w1 w1.turns wm } in
          let loops : LoopsMeet c (runs f) = record {
            by = λ s b e n k l f1 w fine bb be at ready. loop_at m ih f fact s b e n k l f1 w w.turns fine bb be at ready.turns ready.agrees;
          } in
          let h = stmt_meets c fact.laid calls (runs f) loops s b e opened n fine bb be at ready in
          subst (λ v. Flows c b e k (stmt_past (layout f).outline s opened n) w.turns (goes c (stmt_code (layout f) b e s opened n k) n f1 w) v)
          (sym (execute_is p f s l w)) h

      follows : (m : ℕ) → Follows m
      follows zero = step_meets zero tt
      follows (suc m) = step_meets (suc m) (follows m)

      -- a call of a routine is a call of its function, with the same turns
      pub same_calls : (g : ℕ) (args : List ℕ) (w : World S) → act_noting no_log q g args w ≡ call_function p g args w
      same_calls g args w = (meets_call w.turns (follows w.turns) g args w (omega arith)).0
