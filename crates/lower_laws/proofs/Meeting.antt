-- The code of an expression meets its evaluation: it comes to the code that follows with the value, or ends as it does.
use Rattle.std.proofs.Common.{◌≡◌, ℕ, ◌≤◌, refl, sym, subst, ◌∙◌, arith}
use Rattle.std.specs.Prelude.{Result, Ok, Err}
use Rattle.hlo_num.specs.declared.word.Trap.{Trap}
use Rattle.il_core.specs.World.{World, Outcome}
use Rattle.il_core.specs.Meaning.{Frame, with_reg}
use Rattle.il_core.specs.World.{with_word}
use Rattle.il_laws.proofs.Alike.{Falls, falls_more}
use Rattle.c_typed.specs.Results.{Locals, Value, Is, Cut, and_then, word_or_trap}
use Rattle.lower_laws.specs.Code.{Code, Numbers}
use Rattle.lower_laws.proofs.Coming.{Setting, goes}
use Rattle.lower_laws.proofs.Frames.{IsFree, Agrees, Keeps, keeps_none, keeps_then, keeps_below, keeps_put, agrees_free, put_here}

module _ {S : Type 0} (c : Setting S) where
  -- the code can be run from a frame: it has the locals, and no more turns are left than the calls know
  pub record Ready (l : Locals) (f : Frame) (w : World S) : Type 0 where
    pub turns : w.turns ≤ c.most
    pub agrees : Agrees c.layout c.scope l f

  -- The outcome o is what the code k does from some frame with these locals. f and t are the frame and the turns before;
  -- the free registers below r are kept.
  pub record Lands (Holds : Frame → Type 0) (r : ℕ) (k : Code) (n : Numbers) (f : Frame) (t : ℕ) (o : Outcome S) (l : Locals) (w : World S) : Type 0 where
    pub frame : Frame
    pub falls : w.turns ≤ t
    pub agrees : Agrees c.layout c.scope l frame
    pub keeps : Keeps c.layout c.scope r f frame
    pub holds : Holds frame
    pub runs : o ≡ goes c k n frame w

  -- o is what an evaluation says: the code that follows, or the same end
  abbrev pub Meeting : {P : Type 0} → (P → Frame → Type 0) → ℕ → Code → Numbers → Frame → ℕ → Outcome S → Value S P → Type 0
  Meeting Holds r k n f t o (Is v l w) = Lands (Holds v) r k n f t o l w
  Meeting Holds r k n f t o (Cut e) = (o ≡ e) × Falls t e

  pub record Meets {P : Type 0} (Holds : P → Frame → Type 0) (r : ℕ) (k : Code) (n : Numbers) (f : Frame) (t : ℕ) (o : Outcome S) (v : Value S P) : Type 0 where
    pub by : Meeting Holds r k n f t o v

  module _ {P : Type 0} {Holds : P → Frame → Type 0} {r : ℕ} {k : Code} {n : Numbers} {f : Frame} {t : ℕ} where
    -- an equal outcome
    pub meets_by : {o o1 : Outcome S} {v : Value S P} → o ≡ o1 → Meets Holds r k n f t o1 v → Meets Holds r k n f t o v
    meets_by {o} {o1} {v} e h = subst (λ q. Meets Holds r k n f t q v) (sym e) h

    -- a weaker fact
    pub meets_weak : {Weaker : P → Frame → Type 0} {o : Outcome S} (v : Value S P) → ((u : P) (g : Frame) → Holds u g → Weaker u g)
        → Meets Holds r k n f t o v → Meets Weaker r k n f t o v
    meets_weak (Is u l w) implies h = record {
      by = record {
        frame = h.by.frame;
        falls = h.by.falls;
        agrees = h.by.agrees;
        keeps = h.by.keeps;
        holds = implies u h.by.frame h.by.holds;
        runs = h.by.runs;
      };
    }
    meets_weak (Cut e) implies h = record { by = h.by }

    -- fewer registers kept
    pub meets_lower : {r1 : ℕ} {o : Outcome S} (v : Value S P) → r1 ≤ r → Meets Holds r k n f t o v → Meets Holds r1 k n f t o v
    meets_lower (Is u l w) le h = record {
      by = record {
        frame = h.by.frame;
        falls = h.by.falls;
        agrees = h.by.agrees;
        keeps = keeps_below le h.by.keeps;
        holds = h.by.holds;
        runs = h.by.runs;
      };
    }
    meets_lower (Cut q) le h = record { by = h.by }

    -- from a later place
    pub meets_later : {r0 : ℕ} {f0 : Frame} {t0 : ℕ} {o o1 : Outcome S} (v : Value S P) → r0 ≤ r → t ≤ t0 → Keeps c.layout c.scope r0 f0 f
        → o ≡ o1 → Meets Holds r k n f t o1 v → Meets Holds r0 k n f0 t0 o v
    meets_later (Is v l w) le fall keep e h = record {
      by = record {
        frame = h.by.frame;
        falls = omega (arith, h.by.falls);
        agrees = h.by.agrees;
        keeps = keeps_then le keep h.by.keeps;
        holds = h.by.holds;
        runs = e ∙ h.by.runs;
      };
    }
    meets_later {t0 = t0} (Cut q) le fall keep e h = record { by = (e ∙ h.by.0, falls_more t0 t q fall h.by.1) }

  -- a step whose value is known, and then another
  pub meets_is : {P Q : Type 0} {HP : P → Frame → Type 0} {HQ : Q → Frame → Type 0} {r r0 r1 : ℕ} {k1 k2 : Code} {n1 n2 : Numbers} {f : Frame} {t : ℕ}
      {o : Outcome S} {v : Value S Q} {l : Locals} {w : World S} (u : P) → r ≤ r0 → r ≤ r1 → t ≤ c.most → Meets HP r0 k1 n1 f t o (Is u l w)
      → ((g : Frame) → Ready l g w → Keeps c.layout c.scope r0 f g → HP u g → Meets HQ r1 k2 n2 g w.turns (goes c k1 n1 g w) v)
      → Meets HQ r k2 n2 f t o v
  meets_is {v = v} u le0 le tm h next =
      let a = h.by in
      meets_later v le a.falls (keeps_below le0 a.keeps) a.runs
      (next a.frame (record { turns = omega (arith, a.falls); agrees = a.agrees }) a.keeps a.holds)

  -- one step and then another
  pub meets_then : {P Q : Type 0} {HP : P → Frame → Type 0} {HQ : Q → Frame → Type 0} {r r0 r1 : ℕ} {k1 k2 : Code} {n1 n2 : Numbers} {f : Frame} {t : ℕ}
      {o : Outcome S} {go : P → Locals → World S → Value S Q} (v : Value S P) → r ≤ r0 → r ≤ r1 → t ≤ c.most → Meets HP r0 k1 n1 f t o v
      → ((u : P) (l : Locals) (w : World S) (g : Frame) → Ready l g w → Keeps c.layout c.scope r0 f g → HP u g
      → Meets HQ r1 k2 n2 g w.turns (goes c k1 n1 g w) (go u l w))
      → Meets HQ r k2 n2 f t o (and_then v go)
  meets_then (Is u l w) le0 le tm h next = meets_is u le0 le tm h (λ g ready keeps has. next u l w g ready keeps has)
  meets_then (Cut q) le0 le tm h next = record { by = h.by }

  -- register d, which is free, has got its word, and the world may be another
  pub lands_put : {r : ℕ} {k : Code} {n : Numbers} {l : Locals} {f : Frame} {w : World S} (d u v : ℕ) (w1 : World S) → w1.turns ≡ w.turns → u ≡ v
      → r ≤ d → IsFree c.layout c.scope d → Ready l f w
      → Meets (λ q g. g.regs d ≡ q) r k n f w.turns (goes c k n (with_reg f d u) w1) (Is v l w1)
  lands_put {r} {k} {n} {l} {f} {w} d u v w1 same e rd free ready = record {
    by = record {
      frame = with_reg f d u;
      falls = omega arith;
      agrees = agrees_free d u free ready.agrees;
      keeps = keeps_put f d u rd;
      holds = put_here f.regs d u ∙ e;
      runs = refl;
    };
  }

  -- nothing has happened
  pub lands_here : {P : Type 0} {Holds : P → Frame → Type 0} {r : ℕ} {k : Code} {n : Numbers} {l : Locals} {f : Frame} {w : World S} (v : P) → Holds v f
      → Ready l f w → Meets Holds r k n f w.turns (goes c k n f w) (Is v l w)
  lands_here {P} {Holds} {r} {k} {n} {l} {f} {w} v has ready = record {
    by = record { frame = f; falls = omega arith; agrees = ready.agrees; keeps = keeps_none f; holds = has; runs = refl };
  }

  -- an operator's word, or its trap
  pub meets_word : {r : ℕ} {k : Code} {n : Numbers} {l : Locals} {f : Frame} {w : World S} (d : ℕ) (q : Result ℕ Trap) → r ≤ d
      → IsFree c.layout c.scope d → Ready l f w
      → Meets (λ u g. g.regs d ≡ u) r k n f w.turns (with_word q w (λ u. goes c k n (with_reg f d u) w)) (word_or_trap q l w)
  meets_word {r} {k} {n} {l} {f} {w} d (Ok v) rd free ready = lands_put d v v w refl refl rd free ready
  meets_word d (Err t) rd free ready = record { by = (refl, tt) }
