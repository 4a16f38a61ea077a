-- Instructions without those that write only what isn't live do the same from frames that agree in what is live.
use Rattle.std.proofs.Common.{◌≡◌, ℕ, zero, suc, ◌+◌, ◌<◌, ◌≤◌, List, [], ◌∷◌, Bool, true, false, refl, ap, ap₂, sym, ◌∙◌, arith, eqb-true, inl, inr}
use Rattle.std.specs.Prelude.{nat_eq, not, if◌then◌else◌, ◌&&◌, ◌||◌, Option, Some, None}
use Rattle.std.proofs.lemmas.Bool.{cases_lt, cases_Bool, true≢false}
use Rattle.std.proofs.lemmas.Bool.Decides.{nat_tests}
use Rattle.il_core.specs.declared.instr.Instr.{Instr}
use Rattle.il_core.specs.declared.instr.Instr.TheVariants.{Const, Move, Conv, Bin, Get, Set, GetX, SetX, GetA, SetA, Clear, Turn, Call, GetChar, PutChar}
use Rattle.il_core.specs.World.{World}
use Rattle.il_core.specs.Meaning.{Frame, is_among, Lengths, Next, step}
use Rattle.il_core.specs.Operands.{is_named, reads, writes, is_pure}
use Rattle.il_core.proofs.Effects.{Effect, effect, follow, step_is}
use Rattle.il_core.proofs.Following.{follow_both}
use Rattle.il_core.proofs.Unread.{SameSources, SameBehind, unread}
use Rattle.il_core.proofs.Unwritten.{purely}
use Rattle.il_laws.specs.Live.{Live, some_live, is_live, is_wanted, is_dead, live_through, alive}
use Rattle.il_laws.specs.Runs.{Calls, silent, does}
use Rattle.il_laws.proofs.Alike.{CallsAlike, anything}
use Rattle.il_laws.proofs.Falling.{both_where, step_falls}
use Rattle.il_laws.proofs.Induction.{Agree}
use Rattle.std.proofs.lemmas.Bool.{or_left, or_right, not-true}
use Rattle.list_laws.proofs.Tests.{or_first, or_second, and_first, and_second}

-- the same in all registers that are live, and in all arrays
pub record SameLive (live : Live) (f g : Frame) : Type 0 where
  pub reg : (x : ℕ) → live x ≡ true → f.regs x ≡ g.regs x
  pub array : (a : ℕ) → f.arrays a ≡ g.arrays a

-- registers that aren't wanted
not_named : (live : Live) (o : Option ℕ) (x : ℕ) → is_live live o ≡ false → live x ≡ true → is_named o x ≡ false
not_named live None x dead l = refl
not_named live (Some d) x dead l =
    elim (cases_Bool (nat_eq x d)) [
      | inl e ↦ absurd (true≢false (sym l ∙ ap live (eqb-true x d e) ∙ dead))
      | inr e ↦ e
    ]

none_at : (live : Live) (r c x : ℕ) → some_live live r c ≡ false → r ≤ x → x < r + c → live x ≡ false
none_at live r zero x h le lt = absurd (omega arith)
none_at live r (suc c) x h le lt =
    elim (cases_lt r x) [
      | inl less ↦ none_at live (suc r) c x (or_second (live r) (some_live live (suc r) c) h) less (omega arith)
      | inr ge ↦ (let same : x ≡ r = omega arith in ap live same ∙ or_first (live r) (some_live live (suc r) c) h)
    ]

not_among : (live : Live) (r c x : ℕ) → some_live live r c ≡ false → live x ≡ true → is_among r c x ≡ false
not_among live r c x dead l =
    elim (cases_Bool (is_among r c x)) [
      | inl e ↦ (let le : r ≤ x = grind (arith, nat_tests) in
          let lt : x < r + c = grind (arith, nat_tests) in
          absurd (true≢false (sym l ∙ none_at live r c x dead le lt)))
      | inr e ↦ e
    ]

-- what is live isn't written by an instruction that nobody wants
not_written : (i : Instr) (live : Live) (x : ℕ) → is_wanted i live ≡ false → live x ≡ true → writes i x ≡ false
not_written (Const d v) live x dead l = not_named live (Some d) x dead l
not_written (Move d s) live x dead l = not_named live (Some d) x dead l
not_written (Conv d t s) live x dead l = not_named live (Some d) x dead l
not_written (Bin o d a b) live x dead l = not_named live (Some d) x dead l
not_written (Get d g) live x dead l = not_named live (Some d) x dead l
not_written (Set g s) live x dead l = refl
not_written (GetX d g i) live x dead l = not_named live (Some d) x dead l
not_written (SetX g i s) live x dead l = refl
not_written (GetA d a i) live x dead l = not_named live (Some d) x dead l
not_written (SetA a i s) live x dead l = refl
not_written (Clear r c a m) live x dead l = not_among live r c x dead l
not_written Turn live x dead l = refl
not_written (Call dest p count args) live x dead l = not_named live dest x dead l
not_written (GetChar d) live x dead l = not_named live (Some d) x dead l
not_written (PutChar d s) live x dead l = not_named live (Some d) x dead l

-- what is live before a kept instruction
abbrev before_kept : Instr → Live → Live
before_kept i live x = reads i x || (live x && not (writes i x))

module _ (i : Instr) (live : Live) (f g : Frame) (h : SameLive (before_kept i live) f g) where
  same_sources : SameSources i f g
  same_sources = record { regs = λ x e. h.reg x (or_left (reads i x) (live x && not (writes i x)) e); array = λ a e. h.array a }

  same_behind : (f1 g1 : Frame) → SameBehind i f g f1 g1 → SameLive live f1 g1
  same_behind f1 g1 b = record {
    reg = λ x l. b.regs x (λ w. h.reg x (or_right (reads i x) (live x && not (writes i x))
        (ap₂ {A = Bool} {B = Bool} {C = Bool} (λ k e. k && not e) l w)));
    array = λ a. b.arrays a (h.array a);
  }

module _ {S : Type 0} (c : Calls S) (falls : (t : ℕ) → CallsAlike anything t c c) (n : Lengths) where
  -- a kept instruction
  step_kept : (m : ℕ) (live : Live) (i : Instr) (a b : Next S) → Agree m (λ f g. SameLive live f g) a b
      → Agree m (λ f g. SameLive (before_kept i live) f g) (step (silent c) n 0 i a) (step (silent c) n 0 i b)
  step_kept m live i a b go =
      record {
        by = λ f g w le h. step_is (silent c) n 0 i a f w
            ∙ follow_both _ (effect (silent c) n 0 i f w) (effect (silent c) n 0 i g w) a b
            (both_where _ _ _ _ (unread (silent c) n 0 i f g w (same_sources i live f g h)) (step_falls c falls n i f w))
            (λ f1 g1 w1 w2 r. (let lw : w1.turns ≤ w.turns = r.1 in go.by f1 g1 w1 (omega arith) (same_behind i live f g h f1 g1 r.0.1))
            ∙ ap (λ (v : World S). b g1 v) r.0.0)
            ∙ sym (step_is (silent c) n 0 i b g w);
      }

  -- a dropped one
  step_dead : (m : ℕ) (live : Live) (i : Instr) (a b : Next S) → is_dead i live ≡ true → Agree m (λ f g. SameLive live f g) a b
      → Agree m (λ f g. SameLive live f g) (step (silent c) n 0 i a) b
  step_dead m live i a b e go =
      record {
        by = λ f g w le h.
            let p = purely (silent c) n 0 i f w (and_first (is_pure i) (not (is_wanted i live)) e) in
            let dead = not-true (is_wanted i live) (and_second (is_pure i) (not (is_wanted i live)) e) in
            step_is (silent c) n 0 i a f w
            ∙ ap (λ (o : Effect S). follow o a) p.on
            ∙ go.by p.frame g w le (record { reg = λ x l. p.regs x (not_written i live x dead l) ∙ h.reg x l; array = λ x. p.arrays x ∙ h.array x });
      }

  one_alive : (m : ℕ) (live : Live) (i : Instr) (js : List Instr) (a b : Next S) (k : Bool) → is_dead i live ≡ k
      → Agree m (λ f g. SameLive live f g) a (does c n js b)
      → Agree m (λ f g. SameLive (λ x. if k then live x else reads i x || (live x && not (writes i x))) f g) (step (silent c) n 0 i a)
      (does c n (if k then js else i ∷ js) b)
  one_alive m live i js a b true e go = record { by = λ f g w le h. (step_dead m live i a (does c n js b) e go).by f g w le h }
  one_alive m live i js a b false e go =
      record { by = λ f g w le h. (step_kept m live i a (does c n js b) go).by f g w le h }

  pub does_alive : (m : ℕ) (live : Live) (is : List Instr) (a b : Next S) → Agree m (λ f g. SameLive live f g) a b
      → Agree m (λ f g. SameLive (λ x. live_through is live x) f g) (does c n is a) (does c n (alive is live) b)
  does_alive m live [] a b go = record { by = λ f g w le h. go.by f g w le h }
  does_alive m live (i ∷ is) a b go =
      let behind = does_alive m live is a b go in
      record {
        by = λ f g w le h. (one_alive m (λ x. live_through is live x) i (alive is live) (λ f1 w1. does c n is a f1 w1) b
            (is_dead i (live_through is live)) refl (record { by = λ f1 g1 w1 l1 h1. behind.by f1 g1 w1 l1 h1 })).by f g w le h;
      }
