-- The templates of one or few instructions meet what they stand for: reads and writes of places, conversions, operators,
-- and choices.
use Rattle.std.proofs.Common.{◌≡◌, ℕ, zero, suc, ◌<◌, ◌≤◌, Bool, true, false, refl, sym, ap, subst, ◌∙◌, arith}
use Rattle.std.specs.Prelude.{if◌then◌else◌, nat_lt}
use Rattle.hlo_num.specs.declared.word.Ty.{Ty}
use Rattle.hlo_num.specs.declared.word.Ty.TheVariants.{Char, UChar, Short, UShort, Int, UInt, Long, ULong}
use Rattle.hlo_num.specs.declared.word.Trap.TheVariants.{Index}
use Rattle.hlo_num.specs.Words.{convert}
use Rattle.il_core.specs.declared.instr.Instr.{Instr}
use Rattle.il_core.specs.declared.instr.Instr.TheVariants as instr
use Rattle.il_core.specs.World.{World, Trapped, Outcome, ended, choose, put_element, with_object, with_word, within}
use Rattle.il_core.specs.Meaning.{Frame, Next, with_reg, step}
use Rattle.il_laws.specs.Runs.{silent}
use Rattle.c_tree.specs.declared.expression.UnaryOp.{UnaryOp}
use Rattle.c_tree.specs.declared.expression.UnaryOp.TheVariants.{Plus, Minus, Complement, Not}
use Rattle.c_typed.specs.declared.expression.Variable.TheVariants as variables
use Rattle.c_typed.specs.declared.expression.Array.TheVariants as arrays
use Rattle.c_typed.specs.declared.expression.BinaryOp.{BinaryOp}
use Rattle.c_typed.specs.declared.expression.BinaryOp.TheVariants as ops
use Rattle.c_typed.specs.Operators.{binary, unary}
use Rattle.c_typed.specs.Expressions as c_meaning
use Rattle.c_typed.specs.Expressions.{Spot, Whole, Part}
use Rattle.c_typed.specs.Results.{Locals, Value, Is, Cut, word_or_trap, inside}
use Rattle.lower_laws.specs.Code.{Code, put, Numbers, past_new, word}
use Rattle.lower_laws.specs.Operations.{load, store, conv_past, conv_result, conv_code, operation, unary_past, unary_result, unary_code}
use Rattle.lower_laws.proofs.Coming.{Setting, goes}
use Rattle.lower_laws.proofs.Frames.{IsLaidOut, IsFree, IsRoom, Agrees, IsSpot, spot_in, keeps_none, put_other, agrees_param, agrees_local, agrees_element}
use Rattle.lower_laws.proofs.Meeting.{Ready, Meets, meets_by, meets_then, lands_put, lands_here, meets_word}

module _ {S : Type 0} (c : Setting S) where
  -- what an instruction does, with code to follow
  abbrev pub then_goes : Instr → Code → Numbers → Next S
  then_goes i k n f w = step (silent c.call) c.routine 0 i (λ g w1. goes c k n g w1) f w

  -- register d has the word
  abbrev pub Has : ℕ → ℕ → Frame → Type 0
  Has d q g = g.regs d ≡ q

  tested : {P : Type 0} {Holds : P → Frame → Type 0} {r : ℕ} {k : Code} {n : Numbers} {f : Frame} {t : ℕ} {o : Outcome S} {v : Value S P} (b : Bool)
      (w : World S)
      → Meets c Holds r k n f t o v
      → Meets c Holds r k n f t (if b then o else ended (Trapped Index) w) (if b then v else Cut (ended (Trapped Index) w))
  tested true w h = h
  tested false w h = record { by = (refl, tt) }

  -- an index inside a length, or the trap
  meets_within : {P : Type 0} {Holds : P → Frame → Type 0} {r : ℕ} {k : Code} {n : Numbers} {f : Frame} {t : ℕ} {o : Outcome S} {v : Value S P} (i len len1 : ℕ)
      (w : World S)
      → len ≡ len1 → Meets c Holds r k n f t o v → Meets c Holds r k n f t (within i len w o) (inside i len1 w v)
  meets_within {P} {Holds} {r} {k} {n} {f} {t} {o} {v} i len len1 w e h =
      subst (λ q. Meets c Holds r k n f t (within i len w o) (inside i q w v)) e (tested (nat_lt i len) w h)

  -- a choice
  pub meets_choose : {P : Type 0} {Holds : P → Frame → Type 0} {r : ℕ} {k : Code} {n : Numbers} {f : Frame} {t : ℕ} {o o1 : Outcome S} {a b : Value S P} (v : ℕ)
      → Meets c Holds r k n f t o a → Meets c Holds r k n f t o1 b → Meets c Holds r k n f t (choose v o o1) (choose v a b)
  meets_choose zero h h1 = h1
  meets_choose (suc v) h h1 = h

  module _ (laid : IsLaidOut c.routine c.function c.layout c.scope) where
    load_meets : {r : ℕ} {k : Code} {n : Numbers} {l : Locals} {f : Frame} {w : World S} (p : Spot) (d : ℕ) → IsSpot c.scope p → r ≤ d
        → IsFree c.layout c.scope d → Ready c l f w
        → Meets c (Has d) r k n f w.turns (then_goes (load c.layout p d) k n f w) (c_meaning.load c.function (spot_in f p) l w)
    load_meets {l = l} {f = f} {w = w} (Whole (variables.Parameter z)) d ok rd free ready =
        lands_put c d (f.regs z) (l.params z) w refl (ready.agrees.params z ok) rd free ready
    load_meets {l = l} {f = f} {w = w} (Whole (variables.Local z)) d ok rd free ready =
        lands_put c d (f.regs (c.layout.register z)) (l.variables z) w refl (ready.agrees.variables z ok) rd free ready
    load_meets {w = w} (Whole (variables.Object g)) d ok rd free ready =
        lands_put c d (w.objects g 0) (w.objects g 0) w refl refl rd free ready
    load_meets {l = l} {f = f} {w = w} (Part (arrays.Local a) i) d ok rd free ready =
        meets_within (f.regs i) (c.routine.array (c.layout.array a)) (c.function.array a) w (laid.lengths a ok)
        (lands_put c d (f.arrays (c.layout.array a) (f.regs i)) (l.arrays a (f.regs i)) w refl (ready.agrees.arrays a ok (f.regs i)) rd free ready)
    load_meets {f = f} {w = w} (Part (arrays.Object g) i) d ok rd free ready =
        meets_within (f.regs i) (c.routine.object g) (c.function.object g) w (laid.objects g)
        (lands_put c d (w.objects g (f.regs i)) (w.objects g (f.regs i)) w refl refl rd free ready)

    -- reads a place into a free register
    pub meets_load : {r : ℕ} {k : Code} {n : Numbers} {l : Locals} {f : Frame} {w : World S} (p s : Spot) (d : ℕ) → IsSpot c.scope p
        → spot_in f p ≡ s → r ≤ d → IsFree c.layout c.scope d → Ready c l f w
        → Meets c (Has d) r k n f w.turns (then_goes (load c.layout p d) k n f w) (c_meaning.load c.function s l w)
    meets_load {r} {k} {n} {l} {f} {w} p s d ok e rd free ready =
        subst (λ q. Meets c (Has d) r k n f w.turns (then_goes (load c.layout p d) k n f w) (c_meaning.load c.function q l w)) e
        (load_meets p d ok rd free ready)

    -- the register of a variable changes
    lands_reg : {r : ℕ} {k : Code} {n : Numbers} {l l1 : Locals} {f : Frame} {w : World S} (z d v : ℕ) → f.regs d ≡ v → (d ≡ z → ⊥)
        → ((q : ℕ) → IsFree c.layout c.scope q → q ≡ z → ⊥) → Agrees c.layout c.scope l1 (with_reg f z v) → Ready c l f w
        → Meets c (Has d) r k n f w.turns (goes c k n (with_reg f z (f.regs d)) w) (Is v l1 w)
    lands_reg {k = k} {n = n} {f = f} {w = w} z d v e other apart agrees ready =
        meets_by c (ap (λ q. goes c k n (with_reg f z q) w) e) (record {
          by = record {
            frame = with_reg f z v;
            falls = omega arith;
            agrees = agrees;
            keeps = record { by = λ q free below. put_other f.regs z v q (apart q free) };
            holds = put_other f.regs z v d other ∙ e;
            runs = refl;
          };
        })

    -- a word of an object changes
    lands_object : {r : ℕ} {k : Code} {n : Numbers} {l : Locals} {f : Frame} {w : World S} (g i d v : ℕ) → f.regs d ≡ v → Ready c l f w
        → Meets c (Has d) r k n f w.turns (goes c k n f (with_object w g i (f.regs d))) (Is v l (with_object w g i v))
    lands_object {k = k} {n = n} {f = f} {w = w} g i d v e ready =
        meets_by c (ap (λ q. goes c k n f (with_object w g i q)) e) (record {
          by = record { frame = f; falls = omega arith; agrees = ready.agrees; keeps = keeps_none f; holds = e; runs = refl };
        })

    -- an element of a local array changes
    lands_element : {r : ℕ} {k : Code} {n : Numbers} {f : Frame} {w : World S} (l : Locals) (a i d v : ℕ) → f.regs d ≡ v
        → Agrees c.layout c.scope (record l { arrays = put_element l.arrays a i v }) (record f { arrays = put_element f.arrays (c.layout.array a) i v })
        → Meets c (Has d) r k n f w.turns (goes c k n (record f { arrays = put_element f.arrays (c.layout.array a) i (f.regs d) }) w)
        (Is v (record l { arrays = put_element l.arrays a i v }) w)
    lands_element {k = k} {n = n} {f = f} {w = w} l a i d v e agrees =
        meets_by c (ap (λ q. goes c k n (record f { arrays = put_element f.arrays (c.layout.array a) i q }) w) e) (record {
          by = record {
            frame = record f { arrays = put_element f.arrays (c.layout.array a) i v };
            falls = omega arith;
            agrees = agrees;
            keeps = record { by = λ q free below. refl };
            holds = e;
            runs = refl;
          };
        })

    store_meets : {r : ℕ} {k : Code} {n : Numbers} {l : Locals} {f : Frame} {w : World S} (p : Spot) (d v : ℕ) → IsSpot c.scope p → f.regs d ≡ v
        → IsFree c.layout c.scope d → Ready c l f w
        → Meets c (Has d) r k n f w.turns (then_goes (store c.layout p d) k n f w) (c_meaning.store c.function (spot_in f p) v l w)
    store_meets (Whole (variables.Parameter z)) d v ok e free ready =
        lands_reg z d v e (λ q. omega (arith, free.behind)) (λ q other same. omega (arith, other.behind))
        (agrees_param z v laid ok ready.agrees) ready
    store_meets (Whole (variables.Local z)) d v ok e free ready =
        lands_reg (c.layout.register z) d v e (λ q. free.other z ok (sym q)) (λ q other same. other.other z ok (sym same))
        (agrees_local z v laid ok ready.agrees) ready
    store_meets (Whole (variables.Object g)) d v ok e free ready = lands_object g 0 d v e ready
    store_meets {l = l} {f = f} {w = w} (Part (arrays.Local a) i) d v ok e free ready =
        meets_within (f.regs i) (c.routine.array (c.layout.array a)) (c.function.array a) w (laid.lengths a ok)
        (lands_element l a (f.regs i) d v e (agrees_element a (f.regs i) v laid ok ready.agrees))
    store_meets {f = f} {w = w} (Part (arrays.Object g) i) d v ok e free ready =
        meets_within (f.regs i) (c.routine.object g) (c.function.object g) w (laid.objects g) (lands_object g (f.regs i) d v e ready)

    -- writes a place with the word of a free register, which keeps it
    pub meets_store : {r : ℕ} {k : Code} {n : Numbers} {l : Locals} {f : Frame} {w : World S} (p s : Spot) (d v : ℕ) → IsSpot c.scope p
        → spot_in f p ≡ s → f.regs d ≡ v → IsFree c.layout c.scope d → Ready c l f w
        → Meets c (Has d) r k n f w.turns (then_goes (store c.layout p d) k n f w) (c_meaning.store c.function s v l w)
    meets_store {r} {k} {n} {l} {f} {w} p s d v ok es e free ready =
        subst (λ q. Meets c (Has d) r k n f w.turns (then_goes (store c.layout p d) k n f w) (c_meaning.store c.function q v l w)) es
        (store_meets p d v ok e free ready)

  operation_is : (o : BinaryOp) (t : Ty) (d a b : ℕ) (go : Next S) (f : Frame) (w : World S)
      → step (silent c.call) c.routine 0 (operation o t d a b) go f w
      ≡ with_word (binary o t (f.regs a) (f.regs b)) w (λ v. go (with_reg f d v) w)
  operation_is ops.Or t d a b go f w = refl
  operation_is ops.Xor t d a b go f w = refl
  operation_is ops.And t d a b go f w = refl
  operation_is ops.Equal t d a b go f w = refl
  operation_is ops.NotEqual t d a b go f w = refl
  operation_is ops.Less t d a b go f w = refl
  operation_is ops.Greater t d a b go f w = refl
  operation_is ops.LessEqual t d a b go f w = refl
  operation_is ops.GreaterEqual t d a b go f w = refl
  operation_is ops.ShiftLeft t d a b go f w = refl
  operation_is ops.ShiftRight t d a b go f w = refl
  operation_is ops.Add t d a b go f w = refl
  operation_is ops.Subtract t d a b go f w = refl
  operation_is ops.Multiply t d a b go f w = refl
  operation_is ops.Divide t d a b go f w = refl
  operation_is ops.Remainder t d a b go f w = refl

  -- an operator in a type, on words that are in registers
  pub meets_operation : {r : ℕ} {k : Code} {n : Numbers} {l : Locals} {f : Frame} {w : World S} (o : BinaryOp) (t : Ty) (d a b u v : ℕ)
      → f.regs a ≡ u → f.regs b ≡ v → r ≤ d → IsFree c.layout c.scope d → Ready c l f w
      → Meets c (Has d) r k n f w.turns (then_goes (operation o t d a b) k n f w) (word_or_trap (binary o t u v) l w)
  meets_operation {r} {k} {n} {l} {f} {w} o t d a b u v ea eb rd free ready =
      meets_by c
      (operation_is o t d a b (λ g w1. goes c k n g w1) f w
      ∙ ap (λ q. with_word (binary o t q (f.regs b)) w (λ p. goes c k n (with_reg f d p) w)) ea
      ∙ ap (λ q. with_word (binary o t u q) w (λ p. goes c k n (with_reg f d p) w)) eb)
      (meets_word c d (binary o t u v) rd free ready)

  narrowed : {r : ℕ} {k : Code} {n1 : Numbers} {l : Locals} {f : Frame} {w : World S} (n : Numbers) (t : Ty) (s v : ℕ) → f.regs s ≡ v → r ≤ n.reg
      → IsRoom c.layout c.scope n.reg (suc n.reg) → Ready c l f w
      → Meets c (Has n.reg) r k n1 f w.turns (goes c k n1 (with_reg f n.reg (convert t (f.regs s))) w) (Is (convert t v) l w)
  narrowed {f = f} {w = w} n t s v e rn room ready =
      lands_put c n.reg (convert t (f.regs s)) (convert t v) w refl (ap (convert t) e) rn (room.by n.reg (omega arith) (omega arith)) ready

  -- a conversion
  pub meets_conv : {r : ℕ} {k : Code} {l : Locals} {f : Frame} {w : World S} (n : Numbers) (t : Ty) (s v : ℕ) → f.regs s ≡ v → r ≤ n.reg
      → IsRoom c.layout c.scope n.reg (conv_past t n).reg → Ready c l f w
      → Meets c (Has (conv_result t s n)) r k (conv_past t n) f w.turns (goes c (conv_code t s n k) n f w) (Is (convert t v) l w)
  meets_conv n Char s v e rn room ready = narrowed n Char s v e rn room ready
  meets_conv n UChar s v e rn room ready = narrowed n UChar s v e rn room ready
  meets_conv n Short s v e rn room ready = narrowed n Short s v e rn room ready
  meets_conv n UShort s v e rn room ready = narrowed n UShort s v e rn room ready
  meets_conv n Int s v e rn room ready = lands_here c v e ready
  meets_conv n UInt s v e rn room ready = lands_here c v e ready
  meets_conv n Long s v e rn room ready = lands_here c v e ready
  meets_conv n ULong s v e rn room ready = lands_here c v e ready

  -- an operator whose right operand, or whose left one, is a constant
  with_constant : {r : ℕ} {k : Code} {l : Locals} {f : Frame} {w : World S} (n : Numbers) (o : BinaryOp) (t : Ty) (m s v : ℕ) → f.regs s ≡ v
      → r ≤ n.reg → s < n.reg → IsFree c.layout c.scope s → IsRoom c.layout c.scope n.reg (suc (suc n.reg)) → Ready c l f w
      → Meets c (Has (suc n.reg)) r k (past_new (past_new n)) f w.turns
      (goes c (put (instr.Const n.reg (word m)) (put (operation o t (suc n.reg) s n.reg) k)) n f w) (word_or_trap (binary o t v m) l w)
  with_constant {r} {k} {l} {f} {w} n o t m s v e rn sn free room ready =
      meets_then c {go = λ u l1 w1. word_or_trap (binary o t v u) l1 w1} (Is m l w) rn (omega arith) ready.turns
      (lands_put c {r = n.reg} {k = put (operation o t (suc n.reg) s n.reg) k} {n = past_new n} n.reg m m w refl refl (omega arith)
      (room.by n.reg (omega arith) (omega arith)) ready)
      (λ u l1 w1 g ready1 keeps1 has1.
      meets_operation {r = n.reg} {n = past_new (past_new n)} o t (suc n.reg) s n.reg v u (keeps1.by s free sn ∙ e) has1 (omega arith)
      (room.by (suc n.reg) (omega arith) (omega arith)) ready1)

  from_constant : {r : ℕ} {k : Code} {l : Locals} {f : Frame} {w : World S} (n : Numbers) (o : BinaryOp) (t : Ty) (m s v : ℕ) → f.regs s ≡ v
      → r ≤ n.reg → s < n.reg → IsFree c.layout c.scope s → IsRoom c.layout c.scope n.reg (suc (suc n.reg)) → Ready c l f w
      → Meets c (Has (suc n.reg)) r k (past_new (past_new n)) f w.turns
      (goes c (put (instr.Const n.reg (word m)) (put (operation o t (suc n.reg) n.reg s) k)) n f w) (word_or_trap (binary o t m v) l w)
  from_constant {r} {k} {l} {f} {w} n o t m s v e rn sn free room ready =
      meets_then c {go = λ u l1 w1. word_or_trap (binary o t u v) l1 w1} (Is m l w) rn (omega arith) ready.turns
      (lands_put c {r = n.reg} {k = put (operation o t (suc n.reg) n.reg s) k} {n = past_new n} n.reg m m w refl refl (omega arith)
      (room.by n.reg (omega arith) (omega arith)) ready)
      (λ u l1 w1 g ready1 keeps1 has1.
      meets_operation {r = n.reg} {n = past_new (past_new n)} o t (suc n.reg) n.reg s u v has1 (keeps1.by s free sn ∙ e) (omega arith)
      (room.by (suc n.reg) (omega arith) (omega arith)) ready1)

  -- a unary operator
  pub meets_unary : {r : ℕ} {k : Code} {l : Locals} {f : Frame} {w : World S} (n : Numbers) (o : UnaryOp) (t : Ty) (s v : ℕ) → f.regs s ≡ v
      → r ≤ n.reg → s < n.reg → IsFree c.layout c.scope s → IsRoom c.layout c.scope n.reg (unary_past o n).reg → Ready c l f w
      → Meets c (Has (unary_result o s n)) r k (unary_past o n) f w.turns (goes c (unary_code o t s n k) n f w) (word_or_trap (unary o t v) l w)
  meets_unary n Plus t s v e rn sn free room ready = lands_here c v e ready
  meets_unary n Minus t s v e rn sn free room ready = from_constant n ops.Subtract t 0 s v e rn sn free room ready
  meets_unary n Complement t s v e rn sn free room ready = with_constant n ops.Xor t 4294967295 s v e rn sn free room ready
  meets_unary n Not t s v e rn sn free room ready = with_constant n ops.Equal t 0 s v e rn sn free room ready
