-- The code of a statement meets its execution: it comes to the code that follows, breaks or continues what is round it, or
-- leaves the call.
use Rattle.std.proofs.Common.{◌≡◌, ℕ, zero, suc, ◌≤◌, Bool, false, refl, sym, subst, ◌∙◌, arith}
use Rattle.il_core.specs.declared.instr.End.{End}
use Rattle.il_core.specs.declared.instr.End.TheVariants as ends
use Rattle.il_core.specs.World.{World, Outcome, choose}
use Rattle.il_core.specs.Meaning.{Frame, Next, finish}
use Rattle.il_laws.proofs.Alike.{Falls, falls_more}
use Rattle.c_typed.specs.Results.{Locals, Value, Is, Cut, Flow, Normal, Breaks, Continues, Leaves as Gone, and_do, and_next, and_again}
use Rattle.c_typed.specs.Trees.{Stmt}
use Rattle.lower_laws.specs.Code.{Code, Numbers}
use Rattle.lower_laws.specs.Statements.{open_behind, stmt_past, stmt_code}
use Rattle.lower_laws.proofs.Coming.{Setting, goes, from, Passes}
use Rattle.lower_laws.proofs.Fine.{Fine, LeadsPast}
use Rattle.lower_laws.proofs.Frames.{Agrees}
use Rattle.lower_laws.proofs.Meeting.{Ready, Meets}
use Rattle.lower_laws.proofs.Passing.{IsPast}

module _ {S : Type 0} (c : Setting S) where
  -- what a block does that ends so, seen from a place
  abbrev pub ends_so : Code → Numbers → End → Next S
  ends_so k n e f w = finish c.back (λ u f1 w1. from c k n u f1 w1) e f w

  -- the same end, seen from two places
  pub record EndsSame (e : End) (n : Numbers) (k : Code) (n1 : Numbers) (k1 : Code) : Type 0 where
    pub by : (f : Frame) (w : World S) → ends_so k n e f w ≡ ends_so k1 n1 e f w

  pub ends_same : {n n1 : Numbers} {k k1 : Code} (e : End) (opened : Bool) → LeadsPast opened n1.block e
      → ((t : ℕ) → IsPast opened n1.block t → Passes c t n k n1 k1) → EndsSame e n k n1 k1
  ends_same (ends.Jump t) opened h go = record { by = λ f w. (go t h).by f w }
  ends_same (ends.Branch y t u) opened h go = absurd h
  ends_same (ends.Loop t) opened h go = record { by = λ f w. refl }
  ends_same (ends.Return y) opened h go = absurd h
  ends_same (ends.Exit y) opened h go = absurd h

  -- o is the run R from some frame with these locals
  pub record Comes (R : Next S) (t : ℕ) (o : Outcome S) (l : Locals) (w : World S) : Type 0 where
    pub frame : Frame
    pub falls : w.turns ≤ t
    pub agrees : Agrees c.layout c.scope l frame
    pub runs : o ≡ R frame w

  -- o is what an execution says; p and q are the ends that `break` and `continue` are
  abbrev pub Flowing : End → End → Code → Numbers → ℕ → Outcome S → Flow S → Type 0
  Flowing p q k n t o (Normal l w) = Comes (λ f w1. goes c k n f w1) t o l w
  Flowing p q k n t o (Breaks l w) = Comes (λ f w1. ends_so k n p f w1) t o l w
  Flowing p q k n t o (Continues l w) = Comes (λ f w1. ends_so k n q f w1) t o l w
  Flowing p q k n t o (Gone e) = (o ≡ e) × Falls t e

  pub record Flows (p q : End) (k : Code) (n : Numbers) (t : ℕ) (o : Outcome S) (v : Flow S) : Type 0 where
    pub by : Flowing p q k n t o v

  comes_later : {R : Next S} {t t1 : ℕ} {o o1 : Outcome S} {l : Locals} {w : World S} → t1 ≤ t → o ≡ o1 → Comes R t1 o1 l w → Comes R t o l w
  comes_later le e h = record { frame = h.frame; falls = omega (arith, h.falls); agrees = h.agrees; runs = e ∙ h.runs }

  comes_by : {R R1 : Next S} {t : ℕ} {o : Outcome S} {l : Locals} {w : World S} → ((f : Frame) → R f w ≡ R1 f w) → Comes R t o l w → Comes R1 t o l w
  comes_by same h = record { frame = h.frame; falls = h.falls; agrees = h.agrees; runs = h.runs ∙ same h.frame }

  -- from a later place, and with an equal outcome
  pub flows_later : {p q : End} {k : Code} {n : Numbers} {t t1 : ℕ} {o o1 : Outcome S} (v : Flow S) → t1 ≤ t → o ≡ o1 → Flows p q k n t1 o1 v
      → Flows p q k n t o v
  flows_later (Normal l w) le e h = record { by = comes_later le e h.by }
  flows_later (Breaks l w) le e h = record { by = comes_later le e h.by }
  flows_later (Continues l w) le e h = record { by = comes_later le e h.by }
  flows_later {t = t} {t1 = t1} (Gone r) le e h = record { by = (e ∙ h.by.0, falls_more t t1 r le h.by.1) }

  pub flows_by : {p q : End} {k : Code} {n : Numbers} {t : ℕ} {o o1 : Outcome S} {v : Flow S} → o ≡ o1 → Flows p q k n t o1 v → Flows p q k n t o v
  flows_by {p} {q} {k} {n} {t} {o} {o1} {v} e h = subst (λ a. Flows p q k n t a v) (sym e) h

  -- nothing has happened: at the code that follows, at `break`, at `continue`
  pub comes_here : {p q : End} {k : Code} {n : Numbers} {l : Locals} {f : Frame} {w : World S} → Ready c l f w
      → Flows p q k n w.turns (goes c k n f w) (Normal l w)
  comes_here {f = f} ready = record { by = record { frame = f; falls = omega arith; agrees = ready.agrees; runs = refl } }

  pub breaks_here : {p q : End} {k : Code} {n : Numbers} {l : Locals} {f : Frame} {w : World S} → Ready c l f w
      → Flows p q k n w.turns (ends_so k n p f w) (Breaks l w)
  breaks_here {f = f} ready = record { by = record { frame = f; falls = omega arith; agrees = ready.agrees; runs = refl } }

  pub continues_here : {p q : End} {k : Code} {n : Numbers} {l : Locals} {f : Frame} {w : World S} → Ready c l f w
      → Flows p q k n w.turns (ends_so k n q f w) (Continues l w)
  continues_here {f = f} ready = record { by = record { frame = f; falls = omega arith; agrees = ready.agrees; runs = refl } }

  -- an expression and then a statement
  pub flows_do : {P : Type 0} {HP : P → Frame → Type 0} {p q : End} {r : ℕ} {k1 k2 : Code} {n1 n2 : Numbers} {f : Frame} {t : ℕ} {o : Outcome S}
      {go : P → Locals → World S → Flow S} (v : Value S P) → t ≤ c.most → Meets c HP r k1 n1 f t o v
      → ((u : P) (l : Locals) (w : World S) (g : Frame) → Ready c l g w → HP u g → Flows p q k2 n2 w.turns (goes c k1 n1 g w) (go u l w))
      → Flows p q k2 n2 t o (and_do v go)
  flows_do {go = go} (Is u l w) tm h next =
      let a = h.by in
      flows_later (go u l w) a.falls a.runs (next u l w a.frame (record { turns = omega (arith, a.falls); agrees = a.agrees }) a.holds)
  flows_do (Cut e) tm h next = record { by = h.by }

  comes_on : {R : Next S} {p q : End} {k2 : Code} {n2 : Numbers} {t : ℕ} {o : Outcome S} {l : Locals} {w : World S} (v : Flow S) → t ≤ c.most
      → Comes R t o l w → ((g : Frame) → Ready c l g w → Flows p q k2 n2 w.turns (R g w) v) → Flows p q k2 n2 t o v
  comes_on v tm h next = flows_later v h.falls h.runs (next h.frame (record { turns = omega (arith, h.falls); agrees = h.agrees }))

  -- a statement and then another
  pub flows_next : {p q : End} {k1 k2 : Code} {n1 n2 : Numbers} {t : ℕ} {o : Outcome S} {go : Locals → World S → Flow S} (v : Flow S) → t ≤ c.most
      → EndsSame p n1 k1 n2 k2 → EndsSame q n1 k1 n2 k2 → Flows p q k1 n1 t o v
      → ((l : Locals) (w : World S) (g : Frame) → Ready c l g w → Flows p q k2 n2 w.turns (goes c k1 n1 g w) (go l w))
      → Flows p q k2 n2 t o (and_next v go)
  flows_next {go = go} (Normal l w) tm sp sq h next = comes_on (go l w) tm h.by (λ g ready. next l w g ready)
  flows_next (Breaks l w) tm sp sq h next = record { by = comes_by (λ f. sp.by f w) h.by }
  flows_next (Continues l w) tm sp sq h next = record { by = comes_by (λ f. sq.by f w) h.by }
  flows_next (Gone e) tm sp sq h next = record { by = h.by }

  -- a statement whose end leads on
  pub flows_on : {p q : End} {k1 k2 : Code} {n1 n2 : Numbers} {t : ℕ} {o : Outcome S} (v : Flow S) → EndsSame p n1 k1 n2 k2 → EndsSame q n1 k1 n2 k2
      → ((f : Frame) (w : World S) → goes c k1 n1 f w ≡ goes c k2 n2 f w) → Flows p q k1 n1 t o v → Flows p q k2 n2 t o v
  flows_on (Normal l w) sp sq go h = record { by = comes_by (λ f. go f w) h.by }
  flows_on (Breaks l w) sp sq go h = record { by = comes_by (λ f. sp.by f w) h.by }
  flows_on (Continues l w) sp sq go h = record { by = comes_by (λ f. sq.by f w) h.by }
  flows_on (Gone e) sp sq go h = record { by = h.by }

  pub flows_choose : {p q : End} {k : Code} {n : Numbers} {t : ℕ} {o o1 : Outcome S} {a b : Flow S} (v : ℕ) → Flows p q k n t o a
      → Flows p q k n t o1 b → Flows p q k n t (choose v o o1) (choose v a b)
  flows_choose zero h h1 = h1
  flows_choose (suc v) h h1 = h

  -- the body of a loop: its end and `continue` lead to the run R, and `break` behind the loop
  pub flows_again : {p q p1 q1 : End} {k1 k2 : Code} {n1 n2 : Numbers} {t : ℕ} {o : Outcome S} {go : Locals → World S → Flow S} (R : Next S) (v : Flow S)
      → t ≤ c.most → ((f : Frame) (w : World S) → goes c k1 n1 f w ≡ R f w) → ((f : Frame) (w : World S) → ends_so k1 n1 q1 f w ≡ R f w)
      → ((f : Frame) (w : World S) → ends_so k1 n1 p1 f w ≡ goes c k2 n2 f w) → Flows p1 q1 k1 n1 t o v
      → ((l : Locals) (w : World S) (g : Frame) → Ready c l g w → Flows p q k2 n2 w.turns (R g w) (go l w))
      → Flows p q k2 n2 t o (and_again v go)
  flows_again {go = go} R (Normal l w) tm there again out h next =
      comes_on (go l w) tm (comes_by {R1 = R} (λ f. there f w) h.by) (λ g ready. next l w g ready)
  flows_again R (Breaks l w) tm there again out h next = record { by = comes_by (λ f. out f w) h.by }
  flows_again {go = go} R (Continues l w) tm there again out h next =
      comes_on (go l w) tm (comes_by {R1 = R} (λ f. again f w) h.by) (λ g ready. next l w g ready)
  flows_again R (Gone e) tm there again out h next = record { by = h.by }

  -- E: the run from the start of a block of the routine
  module _ (E : ℕ → Next S) where
    -- the place of this code stands in the routine
    pub record At (opened : Bool) (n : Numbers) (k : Code) : Type 0 where
      pub by : (t : ℕ) (f : Frame) (w : World S) → IsPast opened n.block t → E t f w ≡ from c k n t f w

    pub at_by : {opened opened1 : Bool} {n n1 : Numbers} {k k1 : Code} → ((t : ℕ) → IsPast opened1 n1.block t → IsPast opened n.block t)
        → ((t : ℕ) → IsPast opened1 n1.block t → Passes c t n k n1 k1) → At opened n k → At opened1 n1 k1
    at_by earlier pass h = record { by = λ t f w later. h.by t f w (earlier t later) ∙ (pass t later).by f w }

    -- going back to the start of a loop is running the loop again
    pub record LoopsMeet : Type 0 where
      pub by : (s : Stmt) (p q : End) (n : Numbers) (k : Code) (l : Locals) (f : Frame) (w : World S) → Fine c.layout c.scope s false n
          → LeadsPast (open_behind s false) (stmt_past c.layout.outline s false n).block p
          → LeadsPast (open_behind s false) (stmt_past c.layout.outline s false n).block q
          → At false n (stmt_code c.layout p q s false n k) → Ready c l f w
          → Flows p q k (stmt_past c.layout.outline s false n) w.turns (c.back n.block f w) (c.c_again s l w)
