-- The pieces of the greater templates: what a call gave, the ends of arms and of logical operators, the old word of a
-- place, and its update.
use Rattle.std.proofs.Common.{◌≡◌, ℕ, suc, ◌<◌, ◌≤◌, refl, sym, ap, ◌∙◌, arith}
use Rattle.std.specs.Prelude.{◌==◌, not, IsTrue, is_some, Option, Some, None}
use Rattle.hlo_num.specs.declared.word.Ty.{Ty}
use Rattle.hlo_num.specs.declared.word.Op.TheVariants as op
use Rattle.hlo_num.specs.Operators.{truth}
use Rattle.hlo_num.specs.Words.{convert, promote}
use Rattle.il_core.specs.declared.instr.Instr.TheVariants as instr
use Rattle.il_core.specs.declared.instr.End.TheVariants as ends
use Rattle.il_core.specs.World.{World, Outcome, Returns, Ends, Stuck, with_return}
use Rattle.il_core.specs.Meaning.{Frame, with_reg, received}
use Rattle.il_laws.proofs.Alike.{Falls}
use Rattle.c_tree.specs.declared.expression.Step.{Step}
use Rattle.c_typed.specs.declared.expression.BinaryOp.{BinaryOp}
use Rattle.c_typed.specs.declared.expression.LogicalOp.{LogicalOp}
use Rattle.c_typed.specs.declared.expression.LogicalOp.TheVariants as logical
use Rattle.c_typed.specs.Expressions as c_meaning
use Rattle.c_typed.specs.Expressions.{Spot, Whole, Part, decide, is_nonzero, update}
use Rattle.c_typed.specs.Operators.{binary, step_op}
use Rattle.c_typed.specs.Results.{Locals, Value, Is, Cut, and_then, called, word_or_trap}
use Rattle.c_typed.specs.Trees as tree
use Rattle.c_typed.specs.Trees.{Place, Expr}
use Rattle.lower_laws.specs.Bound.{Scope, HasValue, IsPlace}
use Rattle.lower_laws.specs.Code.{Code, put, close, Numbers, past_new, word}
use Rattle.lower_laws.specs.Expressions.{logical_end, skipped, result_past, result_register, place_past, result, spot_at}
use Rattle.lower_laws.specs.Layouts.{Layout}
use Rattle.lower_laws.specs.Operations.{load, store, conv_past, conv_result, conv_code, update_past, update_result, update_code}
use Rattle.lower_laws.proofs.Coming.{Setting, goes, Leads, branch_is, jump_is}
use Rattle.lower_laws.proofs.Frames.{IsLaidOut, IsFree, IsRoom, room_part, IsSpot, spot_in, SpotBelow, spot_kept, spot_later, keeps_none, keeps_put}
use Rattle.lower_laws.proofs.Frames.{agrees_free, put_here}
use Rattle.lower_laws.proofs.Growing.{grow_place, grow_new, grow_conv, grow_update, new_here, new_conv, new_update, result_new, is_void}
use Rattle.lower_laws.proofs.Meeting.{Ready, Meets, meets_by, meets_weak, meets_then, meets_is, lands_put}
use Rattle.lower_laws.proofs.Steps.{Has, meets_choose, meets_load, meets_store, meets_operation, meets_conv}

-- the place of an expression is one of the scope, and its index stands in a new register
pub spot_ok : (s : Scope) (p : Place) (n : Numbers) → IsPlace s p → IsSpot s (spot_at p n)
spot_ok s (tree.Scalar x) n ok = ok
spot_ok s (tree.Element a e) n ok = ok.0

pub spot_below : {y : Layout} (s : Scope) (p : Place) (n : Numbers) → IsPlace s p → IsRoom y s n.reg (place_past p n).reg
    → SpotBelow y s (place_past p n).reg (spot_at p n)
spot_below s (tree.Scalar x) n ok room = record { by = tt }
spot_below s (tree.Element a e) n ok room =
    let new = result_new s e n ok.1.0 ok.1.1 in
    record { by = (room.by (result e n) new.from new.below, new.below) }

module _ {S : Type 0} (c : Setting S) where
  -- a value that is there, and one that is there if X holds
  pub as_value : {d r : ℕ} {k : Code} {n : Numbers} {f : Frame} {t : ℕ} {o : Outcome S} (e : Expr) (v : Value S ℕ) → HasValue e
      → Meets c (λ u g. HasValue e → g.regs d ≡ u) r k n f t o v → Meets c (Has c d) r k n f t o v
  as_value e v has h = meets_weak c v (λ u g implies. implies has) h

  pub if_value : {X : Type 0} {d r : ℕ} {k : Code} {n : Numbers} {f : Frame} {t : ℕ} {o : Outcome S} (v : Value S ℕ)
      → Meets c (Has c d) r k n f t o v → Meets c (λ u g. X → g.regs d ≡ u) r k n f t o v
  if_value v h = meets_weak c v (λ u g e has. e) h

  -- an evaluation that goes on with its own value
  pub meets_on : {P : Type 0} {HP HQ : P → Frame → Type 0} {r r0 r1 : ℕ} {k1 k2 : Code} {n1 n2 : Numbers} {f : Frame} {t : ℕ} {o : Outcome S} (v : Value S P)
      → r ≤ r0 → r ≤ r1 → t ≤ c.most → Meets c HP r0 k1 n1 f t o v
      → ((u : P) (l : Locals) (w : World S) (g : Frame) → Ready c l g w → HP u g → Meets c HQ r1 k2 n2 g w.turns (goes c k1 n1 g w) (Is u l w))
      → Meets c HQ r k2 n2 f t o v
  meets_on (Is u l w) le0 le tm h next =
      meets_then c {go = λ u1 l1 w1. Is u1 l1 w1} (Is u l w) le0 le tm h (λ u1 l1 w1 g ready keeps has. next u1 l1 w1 g ready has)
  meets_on (Cut q) le0 le tm h next = record { by = h.by }

  -- what a call gave
  pub call_meets : {k : Code} {l : Locals} {f : Frame} {w : World S} (n n2 : Numbers) (t : Option Ty) (o : Outcome S) → n2.block ≡ n.block
      → IsRoom c.layout c.scope n.reg (result_past t n).reg → Ready c l f w → Falls w.turns o
      → Meets c (λ u g. IsTrue (is_some t) → g.regs n.reg ≡ u) n.reg k n2 f w.turns
      (with_return o (λ v w1. goes c k n (received f (result_register t n.reg) v) w1)) (called l o)
  call_meets {k} {l} {f} {w} n n2 (Some t) (Returns v w1) same room ready fall = record {
    by = record {
      frame = with_reg f n.reg v;
      falls = fall;
      agrees = agrees_free n.reg v (room.by n.reg (omega arith) (omega arith)) ready.agrees;
      keeps = keeps_put f n.reg v (omega arith);
      holds = λ has. put_here f.regs n.reg v;
      runs = ap (λ z. goes c k (record n { block = z }) (with_reg f n.reg v) w1) (sym same);
    };
  }
  call_meets {k} {l} {f} {w} n n2 None (Returns v w1) same room ready fall = record {
    by = record {
      frame = f;
      falls = fall;
      agrees = ready.agrees;
      keeps = keeps_none f;
      holds = λ has. is_void has;
      runs = ap (λ z. goes c k (record n { block = z }) f w1) (sym same);
    };
  }
  call_meets n n2 t (Ends e output log) same room ready fall = record { by = (refl, tt) }
  call_meets n n2 t Stuck same room ready fall = record { by = (refl, tt) }

  -- the end of an arm that has a value
  pub lands_arm : {r : ℕ} {k j : Code} {l : Locals} {f : Frame} {w : World S} (n n0 n5 : Numbers) (d s u : ℕ) → n0.block ≡ suc n.block
      → f.regs s ≡ u → r ≤ d → IsFree c.layout c.scope d → Leads c n5.block n0 j n5 k → Ready c l f w
      → Meets c (Has c d) r k n5 f w.turns (goes c (put (instr.Move d s) (close (ends.Jump n5.block) j)) n f w) (Is u l w)
  lands_arm {f = f} {w = w} n n0 n5 d s u same e rd free leads ready =
      meets_by c (jump_is c (with_reg f d (f.regs s)) w n n0 same leads) (lands_put c d (f.regs s) u w refl e rd free ready)

  -- the end of the right operand of `&&` and `||`
  pub lands_truth : {r : ℕ} {k j : Code} {l : Locals} {f : Frame} {w : World S} (n n0 n5 : Numbers) (d s u : ℕ) → n0.block ≡ suc n.block
      → f.regs s ≡ u → r ≤ d → d < n.reg → s < n.reg → IsFree c.layout c.scope d → IsFree c.layout c.scope s
      → IsFree c.layout c.scope n.reg → Leads c n5.block n0 j n5 k → Ready c l f w
      → Meets c (Has c d) r k n5 f w.turns
      (goes c (put (instr.Const n.reg (word 0)) (put (instr.Bin op.Ne d s n.reg) (close (ends.Jump n5.block) j))) n f w)
      (Is (is_nonzero u) l w)
  lands_truth {r} {k} {j} {l} {f} {w} n n0 n5 d s u same e rd dn sn fd fs fz leads ready =
      meets_then c {go = λ q l1 w1. Is (truth (not (u == q))) l1 w1} (Is 0 l w) (omega arith) (omega arith) ready.turns
      (lands_put c {r = n.reg} {k = put (instr.Bin op.Ne d s n.reg) (close (ends.Jump n5.block) j)} {n = past_new n} n.reg 0 0 w refl refl (omega arith) fz
      ready)
      (λ q l1 w1 g ready1 keeps1 has1.
      meets_by c (jump_is c (with_reg g d (truth (not (g.regs s == g.regs n.reg)))) w1 n n0 same leads)
      (lands_put c {r = d} d (truth (not (g.regs s == g.regs n.reg))) (truth (not (u == q))) w1 refl
      (ap (λ a. truth (not (a == g.regs n.reg))) (keeps1.by s fs sn ∙ e) ∙ ap (λ a. truth (not (u == a))) has1) (omega arith) fd ready1))

  -- the choice of `&&` and `||`
  pub logical_choice : {H : ℕ → Frame → Type 0} {r v : ℕ} {k ka kb k5 : Code} {na nb n5 : Numbers} {l : Locals} {f : Frame} {w : World S} {right : Value S ℕ}
      (q : ℕ) (o : LogicalOp) (n n1 : Numbers) (a b : ℕ) → n1.block ≡ suc n.block → f.regs q ≡ v → Leads c a n1 k na ka → Leads c b n1 k nb kb
      → Meets c H r k5 n5 f w.turns (goes c ka na f w) right → Meets c H r k5 n5 f w.turns (goes c kb nb f w) (Is (skipped o) l w)
      → Meets c H r k5 n5 f w.turns (goes c (close (logical_end o q a b) k) n f w) (decide o v right l w)
  logical_choice {v = v} {f = f} {w = w} q logical.And n n1 a b same e la lb h h1 =
      meets_by c (branch_is c f w n n1 same e la lb) (meets_choose c v h h1)
  logical_choice {v = v} {f = f} {w = w} q logical.Or n n1 a b same e la lb h h1 =
      meets_by c (branch_is c f w n n1 same e lb la) (meets_choose c v h1 h)

  module _ (laid : IsLaidOut c.routine c.function c.layout c.scope) where
    -- the end of a compound assignment
    pub meets_update : {r : ℕ} {k : Code} {l : Locals} {f : Frame} {w : World S} (n : Numbers) (t : Ty) (o : BinaryOp) (u : Ty) (p s : Spot) (ro rx old v : ℕ)
        → IsSpot c.scope p → SpotBelow c.layout c.scope n.reg p → spot_in f p ≡ s → f.regs ro ≡ convert u old → f.regs rx ≡ v → r ≤ n.reg
        → IsRoom c.layout c.scope n.reg (update_past t n).reg → Ready c l f w
        → Meets c (Has c (update_result t n)) r k (update_past t n) f w.turns (goes c (update_code c.layout t o u p ro rx n k) n f w)
        (update c.function t o u s old v l w)
    meets_update {r} {k} {l} {f} {w} n t o u p s ro rx old v ok below es eo ev rn room ready =
        let g1 = grow_conv t (past_new n) in
        let new = new_update t n in
        let last = put (store c.layout p (update_result t n)) k in
        meets_then c {k1 = conv_code t n.reg (past_new n) last} {n1 = past_new n} (word_or_trap (binary o u (convert u old) v) l w) rn rn ready.turns
        (meets_operation c {r = n.reg} {n = past_new n} o u n.reg ro rx (convert u old) v eo ev (omega arith)
        (room.by n.reg (omega arith) (omega (arith, g1.reg))) ready)
        (λ q l1 w1 g ready1 keeps1 has1.
        meets_then c {r0 = n.reg} {r1 = n.reg} {k1 = last} {n1 = conv_past t (past_new n)} {go = λ z l2 w2. c_meaning.store c.function s z l2 w2}
        (Is (convert t q) l1 w1) (omega arith) (omega arith) ready1.turns
        (meets_conv c {r = n.reg} {k = last} (past_new n) t n.reg q has1 (omega arith) (room_part (omega arith) (omega arith) room) ready1)
        (λ z l2 w2 h ready2 keeps2 has2.
        meets_store c laid {n = update_past t n} p s (update_result t n) z ok (spot_kept p below keeps2 ∙ spot_kept p below keeps1 ∙ es) has2
        (room.by (update_result t n) new.from new.below) ready2))

    -- the old word of a place, and what it is converted to
    pub old_meets : {Q : Type 0} {HQ : Q → Frame → Type 0} {k2 : Code} {n2 : Numbers} {f : Frame} {t : ℕ} {o : Outcome S}
        {go : Spot → ℕ → Locals → World S → Value S Q} (u : Ty) (p : Place) (n : Numbers) (k : Code) (v : Value S Spot) → IsPlace c.scope p
        → IsRoom c.layout c.scope n.reg (conv_past u (past_new (place_past p n))).reg → t ≤ c.most
        → Meets c (λ s g. spot_in g (spot_at p n) ≡ s) n.reg
        (put (load c.layout (spot_at p n) (place_past p n).reg) (conv_code u (place_past p n).reg (past_new (place_past p n)) k)) (place_past p n) f t o v
        → ((s : Spot) (old : ℕ) (l : Locals) (w : World S) (g : Frame) → Ready c l g w → spot_in g (spot_at p n) ≡ s
        → g.regs (place_past p n).reg ≡ old → g.regs (conv_result u (place_past p n).reg (past_new (place_past p n))) ≡ convert u old
        → Meets c HQ (conv_past u (past_new (place_past p n))).reg k2 n2 g w.turns (goes c k (conv_past u (past_new (place_past p n))) g w) (go s old l w))
        → Meets c HQ n.reg k2 n2 f t o (and_then v (λ s l1 w1. and_then (c_meaning.load c.function s l1 w1) (λ old l2 w2. go s old l2 w2)))
    old_meets {Q} {HQ} {k2} {n2} {f} {t} {o} {go} u p n k v ok room tm h next =
        let old_at = place_past p n in
        let behind = conv_past u (past_new old_at) in
        let g1 = grow_place p n in
        let g3 = grow_conv u (past_new old_at) in
        let spot = spot_at p n in
        let below = spot_below c.scope p n ok (room_part (omega arith) (omega (arith, g3.reg)) room) in
        let free = room.by old_at.reg g1.reg (omega (arith, g3.reg)) in
        let conversion = conv_code u old_at.reg (past_new old_at) k in
        meets_then c {r0 = n.reg} {r1 = old_at.reg} {k1 = put (load c.layout spot old_at.reg) conversion} {n1 = old_at} v (omega arith) g1.reg tm h
        (λ s l1 w1 f1 ready1 keeps1 has1.
        meets_then c {r0 = old_at.reg} {r1 = suc old_at.reg} {k1 = conversion} {n1 = past_new old_at} (c_meaning.load c.function s l1 w1)
        (omega arith) (omega arith) ready1.turns
        (meets_load c laid {r = old_at.reg} {n = past_new old_at} spot s old_at.reg (spot_ok c.scope p n ok) has1 (omega arith) free ready1)
        (λ old l2 w2 f2 ready2 keeps2 has2.
        meets_is c {r0 = suc old_at.reg} {r1 = behind.reg} {k1 = k} {n1 = behind} (convert u old) (omega arith) g3.reg ready2.turns
        (meets_conv c {r = suc old_at.reg} (past_new old_at) u old_at.reg old has2 (omega arith)
        (room_part (omega (arith, g1.reg)) (omega arith) room) ready2)
        (λ f3 ready3 keeps3 has3.
        next s old l2 w2 f3 ready3
        (spot_kept spot (spot_later spot (omega arith) below) keeps3 ∙ spot_kept spot below keeps2 ∙ has1)
        (keeps3.by old_at.reg free (omega arith) ∙ has2) has3)))

    -- a step by 1 behind the old word
    pub step_meets : {k : Code} {l : Locals} {f : Frame} {w : World S} (t : Ty) (d : Step) (p : Place) (n : Numbers) (s : Spot) (old : ℕ)
        → let old_at = place_past p n in
        let one = conv_past (promote t) (past_new old_at) in
        let old_reg = conv_result (promote t) old_at.reg (past_new old_at) in
        IsPlace c.scope p → IsRoom c.layout c.scope old_at.reg (update_past t (past_new one)).reg → SpotBelow c.layout c.scope old_at.reg (spot_at p n)
        → spot_in f (spot_at p n) ≡ s → f.regs old_reg ≡ convert (promote t) old → Ready c l f w
        → Meets c (Has c (update_result t (past_new one))) one.reg k (update_past t (past_new one)) f w.turns
        (goes c (put (instr.Const one.reg (word 1)) (update_code c.layout t (step_op d) (promote t) (spot_at p n) old_reg one.reg (past_new one) k)) one f w)
        (update c.function t (step_op d) (promote t) s old 1 l w)
    step_meets {k} {l} {f} {w} t d p n s old ok room below es ec ready =
        let old_at = place_past p n in
        let one = conv_past (promote t) (past_new old_at) in
        let g3 = grow_conv (promote t) (past_new old_at) in
        let g5 = grow_update t (past_new one) in
        let new = new_conv (promote t) old_at.reg old_at (past_new old_at) (grow_new old_at) (new_here old_at) in
        let spot = spot_at p n in
        let old_reg = conv_result (promote t) old_at.reg (past_new old_at) in
        let last = update_code c.layout t (step_op d) (promote t) spot old_reg one.reg (past_new one) k in
        meets_is c {r0 = one.reg} {r1 = suc one.reg} {k1 = last} {n1 = past_new one} 1 (omega arith) (omega arith) ready.turns
        (lands_put c one.reg 1 1 w refl refl (omega arith) (room.by one.reg (omega (arith, g3.reg)) (omega (arith, g5.reg))) ready)
        (λ g ready1 keeps1 has1.
        meets_update (past_new one) t (step_op d) (promote t) spot s old_reg one.reg old 1 (spot_ok c.scope p n ok)
        (spot_later spot (omega (arith, g3.reg)) below) (spot_kept spot (spot_later spot (omega (arith, g3.reg)) below) keeps1 ∙ es)
        (keeps1.by old_reg (room.by old_reg new.from (omega (arith, new.below, g5.reg))) new.below ∙ ec) has1 (omega arith)
        (room_part (omega (arith, g3.reg)) (omega arith) room) ready1)
