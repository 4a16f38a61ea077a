-- The code of an expression does what the expression does, where calls do.
use Rattle.std.proofs.Common.{◌≡◌, ℕ, ◌≤◌, List, [], ◌∷◌, Some, None, refl, ap, ◌∙◌, arith}
use Rattle.hlo_num.specs.declared.word.Op.TheVariants as op
use Rattle.hlo_num.specs.Words.{promote}
use Rattle.il_core.specs.declared.instr.Instr.TheVariants as instr
use Rattle.il_core.specs.declared.instr.End.TheVariants as ends
use Rattle.il_core.specs.World.{World, Exit as exits, ended, first_byte, after_get, low_byte, after_put, each, with_return}
use Rattle.il_core.specs.Meaning.{Frame, with_reg, received}
use Rattle.il_laws.proofs.Alike.{Falls}
use Rattle.c_typed.specs.Expressions.{Whole, Part, expr, place, arguments, update}
use Rattle.c_typed.specs.Operators.{step_op}
use Rattle.c_typed.specs.Results.{Locals, Value}
use Rattle.c_typed.specs.Trees as tree
use Rattle.c_typed.specs.Trees.{Place, Expr, Arguments}
use Rattle.lower_laws.specs.Bound.{HasValue, IsExpr, IsPlace, AreArguments}
use Rattle.lower_laws.specs.Code.{Code, put, close, Numbers, past_reg, past_instr, past_end, past_new, past_label, label, word}
use Rattle.lower_laws.specs.Expressions.{is_open, logical_end, skipped, result_register, past, place_past, arguments_past, result, results, spot_at}
use Rattle.lower_laws.specs.Expressions.{code, place_code, arguments_code}
use Rattle.lower_laws.specs.Operations.{store, conv_past, conv_result, conv_code, operation, unary_code, update_past, update_code}
use Rattle.lower_laws.proofs.Coming.{Setting, goes, Leads, leads_here, leads_by, branch_is, jump_is, goes_label, passes_then, passes_put, passes_close}
use Rattle.lower_laws.proofs.Coming.{passes_label}
use Rattle.lower_laws.proofs.Frames.{IsLaidOut, IsRoom, room_part, spot_in, spot_kept, spot_later}
use Rattle.lower_laws.proofs.Growing.{grow, grow_place, grow_arguments, grow_new, grow_conv, grow_unary, grow_update, grow_result, grow_label}
use Rattle.lower_laws.proofs.Growing.{has_value, is_void, new_here, new_conv, result_new}
use Rattle.lower_laws.proofs.Meeting.{Ready, Meets, meets_by, meets_weak, meets_then, lands_put, lands_here}
use Rattle.lower_laws.proofs.Passing.{same_block, past_either, label_is_past, passes_expr}
use Rattle.lower_laws.proofs.Pieces.{spot_ok, spot_below, as_value, if_value, meets_on, call_meets, lands_arm, lands_truth, logical_choice}
use Rattle.lower_laws.proofs.Pieces.{meets_update, old_meets, step_meets}
use Rattle.lower_laws.proofs.Steps.{meets_choose, meets_load, meets_store, meets_operation, meets_conv, meets_unary}

-- a call of a routine is the call of its function, after which no turn has come back
pub record CallsMeet {S : Type 0} (c : Setting S) : Type 0 where
  pub by : (p : ℕ) (vs : List ℕ) (w : World S) → w.turns ≤ c.most → (c.call p vs w ≡ c.c_call p vs w) × Falls w.turns (c.c_call p vs w)

module _ {S : Type 0} (c : Setting S) (laid : IsLaidOut c.routine c.function c.layout c.scope) (calls : CallsMeet c) where
  -- the evaluation of an expression, a place and arguments
  abbrev eval : Expr → Locals → World S → Value S ℕ
  eval e l w = expr c.c_call c.function e l w

  mutual
    pub expr_meets : (e : Expr) (n : Numbers) {k : Code} {l : Locals} {f : Frame} {w : World S} → IsExpr c.scope e
        → IsRoom c.layout c.scope n.reg (past e n).reg → Ready c l f w
        → Meets c (λ v g. HasValue e → g.regs (result e n) ≡ v) n.reg k (past e n) f w.turns (goes c (code c.layout e n k) n f w) (eval e l w)
    expr_meets (tree.Constant t v) n {w = w} ok room ready =
        if_value c _ (lands_put c n.reg v v w refl refl (omega arith) (room.by n.reg (omega arith) (omega arith)) ready)
    expr_meets (tree.Read t p) n {l = l} {w = w} ok room ready =
        let at_load = place_past p n in
        let g1 = grow_place p n in
        if_value c _ (meets_then c {r0 = n.reg} {r1 = at_load.reg} {n1 = at_load} (place c.c_call c.function p l w) (omega arith) g1.reg ready.turns
        (place_meets p n ok (room_part (omega arith) (omega arith) room) ready)
        (λ s l1 w1 g ready1 keeps1 has1.
        meets_load c laid {r = at_load.reg} {n = past_new at_load} (spot_at p n) s at_load.reg (spot_ok c.scope p n ok) has1 (omega arith)
        (room.by at_load.reg g1.reg (omega arith)) ready1))
    expr_meets (tree.Convert t e) n {k} {l} {f} {w} ok room ready =
        let n1 = past e n in
        let g1 = grow e n in
        let g2 = grow_conv t n1 in
        if_value c _ (meets_then c {r0 = n.reg} {r1 = n1.reg} {k1 = conv_code t (result e n) n1 k} {n1 = n1} (eval e l w) (omega arith) g1.reg ready.turns
        (as_value c e _ ok.1 (expr_meets e n ok.0 (room_part (omega arith) g2.reg room) ready))
        (λ v l1 w1 g ready1 keeps1 has1.
        meets_conv c {r = n1.reg} n1 t (result e n) v has1 (omega arith) (room_part g1.reg (omega arith) room) ready1))
    expr_meets (tree.Discard e) n {k} {l} {f} {w} ok room ready =
        meets_then c {r0 = n.reg} {r1 = n.reg} {k1 = k} {n1 = past e n} (eval e l w) (omega arith) (omega arith) ready.turns
        (expr_meets e n ok room ready) (λ v l1 w1 g ready1 keeps1 has1. lands_here c 0 (λ h. is_void h) ready1)
    expr_meets (tree.Unary t o e) n {k} {l} {f} {w} ok room ready =
        let n1 = past e n in
        let g1 = grow e n in
        let g2 = grow_unary o n1 in
        let new = result_new c.scope e n ok.0 ok.1 in
        if_value c _ (meets_then c {r0 = n.reg} {r1 = n1.reg} {k1 = unary_code o t (result e n) n1 k} {n1 = n1} (eval e l w) (omega arith) g1.reg ready.turns
        (as_value c e _ ok.1 (expr_meets e n ok.0 (room_part (omega arith) g2.reg room) ready))
        (λ v l1 w1 g ready1 keeps1 has1.
        meets_unary c {r = n1.reg} n1 o t (result e n) v has1 (omega arith) new.below
        (room.by (result e n) new.from (omega (arith, new.below, g2.reg))) (room_part g1.reg (omega arith) room) ready1))
    expr_meets (tree.Binary t o a b) n {k} {l} {f} {w} ok room ready =
        let n1 = past a n in
        let n2 = past b n1 in
        let g1 = grow a n in
        let g2 = grow b n1 in
        let new = result_new c.scope a n ok.0.0 ok.0.1 in
        let last = put (operation o t n2.reg (result a n) (result b n1)) k in
        if_value c _ (meets_then c {r0 = n.reg} {r1 = n1.reg} {k1 = code c.layout b n1 last} {n1 = n1} (eval a l w) (omega arith) g1.reg ready.turns
        (as_value c a _ ok.0.1 (expr_meets a n ok.0.0 (room_part (omega arith) (omega (arith, g2.reg)) room) ready))
        (λ v l1 w1 f1 ready1 keeps1 has1.
        meets_then c {r0 = n1.reg} {r1 = n2.reg} {k1 = last} {n1 = n2} (eval b l1 w1) (omega arith) g2.reg ready1.turns
        (as_value c b _ ok.1.1 (expr_meets b n1 ok.1.0 (room_part g1.reg (omega arith) room) ready1))
        (λ u l2 w2 f2 ready2 keeps2 has2.
        meets_operation c {r = n2.reg} {n = past_new n2} o t n2.reg (result a n) (result b n1) v u
        (keeps2.by (result a n) (room.by (result a n) new.from (omega (arith, new.below, g2.reg))) new.below ∙ has1) has2 (omega arith)
        (room.by n2.reg (omega (arith, g1.reg, g2.reg)) (omega arith)) ready2)))
    expr_meets (tree.Logical o a b) n {k} {l} {f} {w} ok room ready =
        let left = past a n in
        let right = past_end (past_reg left) in
        let zero_at = past b right in
        let skip = past_end (past_instr (past_new zero_at)) in
        let behind = past_end (past_instr skip) in
        let d = left.reg in
        let g1 = grow a n in
        let g3 = grow b right in
        let new = result_new c.scope b right ok.1.0 ok.1.1 in
        let skipping = put (instr.Const d (word (skipped o))) (close (ends.Jump behind.block) k) in
        let testing = put (instr.Const zero_at.reg (word 0)) (put (instr.Bin op.Ne d (result b right) zero_at.reg) (close (ends.Jump behind.block) skipping)) in
        let second = code c.layout b right testing in
        let to_skip : Leads c skip.block right second skip skipping =
        leads_by c skip (passes_then c (passes_expr c c.layout b right (past_either (is_open b) _ _ (omega arith)))
        (passes_then c (passes_put c _ zero_at (past_new zero_at) refl (omega arith))
        (passes_then c (passes_put c _ (past_new zero_at) (past_instr (past_new zero_at)) refl (omega arith))
        (passes_close c _ (past_instr (past_new zero_at)) skip refl (omega arith))))) in
        let to_end : Leads c behind.block skip skipping behind k =
        leads_by c behind (passes_then c (passes_put c _ skip (past_instr skip) refl (omega arith))
        (passes_close c _ (past_instr skip) behind refl (omega arith))) in
        let free = room.by d g1.reg (omega (arith, g3.reg)) in
        if_value c _ (meets_then c {r0 = n.reg} {r1 = d} {k1 = close (logical_end o (result a n) right.block skip.block) second} {n1 = left} (eval a l w)
        (omega arith) g1.reg ready.turns
        (as_value c a _ ok.0.1 (expr_meets a n ok.0.0 (room_part (omega arith) (omega (arith, g3.reg)) room) ready))
        (λ v l1 w1 f1 ready1 keeps1 has1.
        logical_choice c (result a n) o left right right.block skip.block refl has1 (leads_here c right) to_skip
        (meets_then c {r0 = right.reg} {r1 = d} {k1 = testing} {n1 = zero_at} (eval b l1 w1) (omega arith) (omega arith) ready1.turns
        (as_value c b _ ok.1.1 (expr_meets b right ok.1.0 (room_part (omega (arith, g1.reg)) (omega arith) room) ready1))
        (λ u l2 w2 f2 ready2 keeps2 has2.
        lands_truth c zero_at skip behind d (result b right) u refl has2 (omega arith) (omega (arith, g3.reg)) new.below free
        (room.by (result b right) (omega (arith, new.from, g1.reg)) (omega (arith, new.below)))
        (room.by zero_at.reg (omega (arith, g1.reg, g3.reg)) (omega arith)) to_end ready2))
        (meets_by c (jump_is c {k = k} {k1 = k} (with_reg f1 d (skipped o)) w1 (past_instr skip) behind refl (leads_here c behind))
        (lands_put c {r = d} d (skipped o) (skipped o) w1 refl refl (omega arith) free ready1))))
    expr_meets (tree.Comma t a b) n {k} {l} {f} {w} ok room ready =
        let n1 = past a n in
        let g1 = grow a n in
        let g2 = grow b n1 in
        meets_then c {r0 = n.reg} {r1 = n1.reg} {k1 = code c.layout b n1 k} {n1 = n1} (eval a l w) (omega arith) g1.reg ready.turns
        (expr_meets a n ok.0 (room_part (omega arith) g2.reg room) ready)
        (λ v l1 w1 f1 ready1 keeps1 has1.
        meets_weak c _ (λ u g h has. h (has_value b t ok.2 has)) (expr_meets b n1 ok.1 (room_part g1.reg (omega arith) room) ready1))
    expr_meets (tree.PutChar e) n {k} {l} {f} {w} ok room ready =
        let n1 = past e n in
        let g1 = grow e n in
        if_value c _ (meets_then c {r0 = n.reg} {r1 = n1.reg} {k1 = put (instr.PutChar n1.reg (result e n)) k} {n1 = n1} (eval e l w) (omega arith) g1.reg
        ready.turns
        (as_value c e _ ok.1 (expr_meets e n ok.0 (room_part (omega arith) (omega arith) room) ready))
        (λ v l1 w1 g ready1 keeps1 has1.
        meets_by c (ap (λ q. goes c k n1 (with_reg g n1.reg (low_byte q)) (after_put q w1)) has1)
        (lands_put c n1.reg (low_byte v) (low_byte v) (after_put v w1) refl refl (omega arith) (room.by n1.reg g1.reg (omega arith)) ready1)))
    expr_meets tree.GetChar n {w = w} ok room ready =
        if_value c _ (lands_put c n.reg (first_byte w.input) (first_byte w.input) (after_get w) refl refl (omega arith)
        (room.by n.reg (omega arith) (omega arith)) ready)
    expr_meets (tree.Exit e) n {k} {l} {f} {w} ok room ready =
        meets_then c {r0 = n.reg} {r1 = n.reg} {k1 = close (ends.Exit (result e n)) k} {n1 = past e n} (eval e l w) (omega arith) (omega arith) ready.turns
        (as_value c e _ ok.1 (expr_meets e n ok.0 room ready))
        (λ v l1 w1 g ready1 keeps1 has1. record { by = (ap (λ q. ended (exits q) w1) has1, tt) })
    expr_meets (tree.Conditional (Some t) d a b) n {k} {l} {f} {w} ok room ready =
        let asked = past d n in
        let first = past_end (past_reg asked) in
        let first_end = past a first in
        let second = past_end (past_instr first_end) in
        let second_end = past b second in
        let behind = past_end (past_instr second_end) in
        let z = asked.reg in
        let g1 = grow d n in
        let g2 = grow a first in
        let g3 = grow b second in
        let has_a = has_value a (Some t) ok.1.1 refl in
        let has_b = has_value b (Some t) ok.2.1 refl in
        let last = put (instr.Move z (result b second)) (close (ends.Jump behind.block) k) in
        let other = code c.layout b second last in
        let middle = put (instr.Move z (result a first)) (close (ends.Jump behind.block) other) in
        let arms = code c.layout a first middle in
        let to_other : Leads c second.block first arms second other =
        leads_by c second (passes_then c (passes_expr c c.layout a first (past_either (is_open a) _ _ (omega arith)))
        (passes_then c (passes_put c _ first_end (past_instr first_end) refl (omega arith))
        (passes_close c _ (past_instr first_end) second refl (omega arith)))) in
        let to_end : Leads c behind.block second other behind k =
        leads_by c behind (passes_then c (passes_expr c c.layout b second (past_either (is_open b) _ _ (omega arith)))
        (passes_then c (passes_put c _ second_end (past_instr second_end) refl (omega arith))
        (passes_close c _ (past_instr second_end) behind refl (omega arith)))) in
        let free = room.by z g1.reg (omega (arith, g2.reg, g3.reg)) in
        if_value c _ (meets_then c {r0 = n.reg} {r1 = z} {k1 = close (ends.Branch (result d n) first.block second.block) arms} {n1 = asked} (eval d l w)
        (omega arith) g1.reg ready.turns
        (as_value c d _ ok.0.1 (expr_meets d n ok.0.0 (room_part (omega arith) (omega (arith, g2.reg, g3.reg)) room) ready))
        (λ v l1 w1 f1 ready1 keeps1 has1.
        meets_by c (branch_is c f1 w1 asked first refl has1 (leads_here c first) to_other) (meets_choose c v
        (meets_on c {r0 = first.reg} {r1 = z} {k1 = middle} {n1 = first_end} (eval a l1 w1) (omega arith) (omega arith) ready1.turns
        (as_value c a _ has_a (expr_meets a first ok.1.0 (room_part (omega (arith, g1.reg)) (omega (arith, g3.reg)) room) ready1))
        (λ u l2 w2 f2 ready2 has2. lands_arm c (past_instr first_end) second behind z (result a first) u refl has2 (omega arith) free to_end ready2))
        (meets_on c {r0 = second.reg} {r1 = z} {k1 = last} {n1 = second_end} (eval b l1 w1) (omega (arith, g2.reg)) (omega arith) ready1.turns
        (as_value c b _ has_b (expr_meets b second ok.2.0 (room_part (omega (arith, g1.reg, g2.reg)) (omega arith) room) ready1))
        (λ u l2 w2 f2 ready2 has2.
        lands_arm c (past_instr second_end) behind behind z (result b second) u refl has2 (omega arith) free (leads_here c behind) ready2)))))
    expr_meets (tree.Conditional None d a b) n {k} {l} {f} {w} ok room ready =
        let asked = past d n in
        let first = past_end asked in
        let first_end = past a first in
        let second = past_end first_end in
        let second_end = past b second in
        let opened = is_open b in
        let behind = past_label opened second_end in
        let g1 = grow d n in
        let g2 = grow a first in
        let g3 = grow b second in
        let g5 = grow_label opened second_end in
        let last = label opened second_end k in
        let other = code c.layout b second last in
        let middle = close (ends.Jump behind.block) other in
        let arms = code c.layout a first middle in
        let to_other : Leads c second.block first arms second other =
        leads_by c second (passes_then c (passes_expr c c.layout a first (past_either (is_open a) _ _ (omega arith)))
        (passes_close c _ first_end second refl (omega arith))) in
        let to_end : Leads c behind.block second other behind k =
        leads_by c behind (passes_then c (passes_expr c c.layout b second (label_is_past opened second_end)) (passes_label c opened second_end (omega arith)))
        in
        meets_then c {r0 = n.reg} {r1 = asked.reg} {k1 = close (ends.Branch (result d n) first.block second.block) arms} {n1 = asked} (eval d l w)
        (omega arith) g1.reg ready.turns
        (as_value c d _ ok.0.1 (expr_meets d n ok.0.0 (room_part (omega arith) (omega (arith, g2.reg, g3.reg, g5.reg)) room) ready))
        (λ v l1 w1 f1 ready1 keeps1 has1.
        meets_by c (branch_is c f1 w1 asked first refl has1 (leads_here c first) to_other) (meets_choose c v
        (meets_on c {r0 = first.reg} {r1 = first.reg} {k1 = middle} {n1 = first_end} (eval a l1 w1) (omega arith) (omega arith) ready1.turns
        (expr_meets a first ok.1.0 (room_part (omega (arith, g1.reg)) (omega (arith, g3.reg, g5.reg)) room) ready1)
        (λ u l2 w2 f2 ready2 has2.
        meets_by c (jump_is c f2 w2 first_end second refl to_end) (lands_here c u (λ has. is_void has) ready2)))
        (meets_on c {r0 = second.reg} {r1 = second.reg} {k1 = last} {n1 = second_end} (eval b l1 w1) (omega (arith, g2.reg)) (omega (arith, g2.reg))
        ready1.turns
        (expr_meets b second ok.2.0 (room_part (omega (arith, g1.reg, g2.reg)) (omega (arith, g5.reg)) room) ready1)
        (λ u l2 w2 f2 ready2 has2.
        meets_by c (goes_label c k opened second_end f2 w2) (lands_here c u (λ has. is_void has) ready2)))))
    expr_meets (tree.Assign t p e) n {k} {l} {f} {w} ok room ready =
        let n1 = place_past p n in
        let n2 = past e n1 in
        let g1 = grow_place p n in
        let g2 = grow e n1 in
        let new = result_new c.scope e n1 ok.1.0 ok.1.1 in
        let spot = spot_at p n in
        let below = spot_below c.scope p n ok.0 (room_part (omega arith) (omega (arith, g2.reg)) room) in
        let last = put (store c.layout spot (result e n1)) k in
        if_value c _ (meets_then c {r0 = n.reg} {r1 = n1.reg} {k1 = code c.layout e n1 last} {n1 = n1} (place c.c_call c.function p l w) (omega arith) g1.reg
        ready.turns
        (place_meets p n ok.0 (room_part (omega arith) g2.reg room) ready)
        (λ s l1 w1 f1 ready1 keeps1 has1.
        meets_then c {r0 = n1.reg} {r1 = n2.reg} {k1 = last} {n1 = n2} (eval e l1 w1) (omega arith) g2.reg ready1.turns
        (as_value c e _ ok.1.1 (expr_meets e n1 ok.1.0 (room_part g1.reg (omega arith) room) ready1))
        (λ v l2 w2 f2 ready2 keeps2 has2.
        meets_store c laid {r = n2.reg} {n = past_instr n2} spot s (result e n1) v (spot_ok c.scope p n ok.0)
        (spot_kept spot below keeps2 ∙ has1) has2 (room.by (result e n1) (omega (arith, g1.reg, new.from)) (omega (arith, new.below))) ready2)))
    expr_meets (tree.Compound t o u p e) n {k} {l} {f} {w} ok room ready =
        let n1 = place_past p n in
        let n3 = conv_past u (past_new n1) in
        let n4 = past e n3 in
        let g1 = grow_place p n in
        let g3 = grow_conv u (past_new n1) in
        let g4 = grow e n3 in
        let g5 = grow_update t n4 in
        let new = new_conv u n1.reg n1 (past_new n1) (grow_new n1) (new_here n1) in
        let spot = spot_at p n in
        let below = spot_below c.scope p n ok.0 (room_part (omega arith) (omega (arith, g3.reg, g4.reg, g5.reg)) room) in
        let old_reg = conv_result u n1.reg (past_new n1) in
        let last = update_code c.layout t o u spot old_reg (result e n3) n4 k in
        if_value c _ (old_meets c laid u p n (code c.layout e n3 last) (place c.c_call c.function p l w) ok.0
        (room_part (omega arith) (omega (arith, g4.reg, g5.reg)) room) ready.turns
        (place_meets p n ok.0 (room_part (omega arith) (omega (arith, g3.reg, g4.reg, g5.reg)) room) ready)
        (λ s old l1 w1 f1 ready1 es eo ec.
        meets_then c {r0 = n3.reg} {r1 = n4.reg} {k1 = last} {n1 = n4} (eval e l1 w1) (omega arith) g4.reg ready1.turns
        (as_value c e _ ok.1.1 (expr_meets e n3 ok.1.0 (room_part (omega (arith, g1.reg, g3.reg)) g5.reg room) ready1))
        (λ v l2 w2 f2 ready2 keeps2 has2.
        meets_update c laid n4 t o u spot s old_reg (result e n3) old v (spot_ok c.scope p n ok.0)
        (spot_later spot (omega (arith, g3.reg, g4.reg)) below)
        (spot_kept spot (spot_later spot (omega (arith, g3.reg)) below) keeps2 ∙ es)
        (keeps2.by old_reg (room.by old_reg (omega (arith, g1.reg, new.from)) (omega (arith, new.below, g4.reg, g5.reg))) new.below ∙ ec) has2 (omega arith)
        (room_part (omega (arith, g1.reg, g3.reg, g4.reg)) (omega arith) room) ready2)))
    expr_meets (tree.Prefix t d p) n {k} {l} {f} {w} ok room ready =
        let n1 = place_past p n in
        let one = conv_past (promote t) (past_new n1) in
        let g1 = grow_place p n in
        let g3 = grow_conv (promote t) (past_new n1) in
        let g5 = grow_update t (past_new one) in
        let old_reg = conv_result (promote t) n1.reg (past_new n1) in
        let last = update_code c.layout t (step_op d) (promote t) (spot_at p n) old_reg one.reg (past_new one) k in
        if_value c _ (old_meets c laid (promote t) p n (put (instr.Const one.reg (word 1)) last) (place c.c_call c.function p l w) ok
        (room_part (omega arith) (omega (arith, g5.reg)) room) ready.turns
        (place_meets p n ok (room_part (omega arith) (omega (arith, g3.reg, g5.reg)) room) ready)
        (λ s old l1 w1 f1 ready1 es eo ec.
        step_meets c laid t d p n s old ok (room_part g1.reg (omega arith) room)
        (spot_below c.scope p n ok (room_part (omega arith) (omega (arith, g3.reg, g5.reg)) room)) es ec ready1))
    expr_meets (tree.Postfix t d p) n {k} {l} {f} {w} ok room ready =
        let n1 = place_past p n in
        let one = conv_past (promote t) (past_new n1) in
        let behind = update_past t (past_new one) in
        let g1 = grow_place p n in
        let g3 = grow_conv (promote t) (past_new n1) in
        let g5 = grow_update t (past_new one) in
        let old_reg = conv_result (promote t) n1.reg (past_new n1) in
        let last = update_code c.layout t (step_op d) (promote t) (spot_at p n) old_reg one.reg (past_new one) k in
        if_value c _ (old_meets c laid (promote t) p n (put (instr.Const one.reg (word 1)) last) (place c.c_call c.function p l w) ok
        (room_part (omega arith) (omega (arith, g5.reg)) room) ready.turns
        (place_meets p n ok (room_part (omega arith) (omega (arith, g3.reg, g5.reg)) room) ready)
        (λ s old l1 w1 f1 ready1 es eo ec.
        meets_then c {r0 = one.reg} {r1 = one.reg} {k1 = k} {n1 = behind} (update c.function t (step_op d) (promote t) s old 1 l1 w1)
        (omega arith) (omega arith) ready1.turns
        (step_meets c laid t d p n s old ok (room_part g1.reg (omega arith) room)
        (spot_below c.scope p n ok (room_part (omega arith) (omega (arith, g3.reg, g5.reg)) room)) es ec ready1)
        (λ v l2 w2 f2 ready2 keeps2 has2.
        lands_here c old (keeps2.by n1.reg (room.by n1.reg g1.reg (omega (arith, g3.reg, g5.reg))) (omega (arith, g3.reg)) ∙ eo) ready2)))
    expr_meets (tree.Call t q es) n {k} {l} {f} {w} ok room ready =
        let n1 = arguments_past es n in
        let g1 = grow_arguments es n in
        let g2 = grow_result t n1 in
        let last = put (instr.Call (result_register t n1.reg) q (c.layout.count n1.site) (results es n)) k in
        meets_then c {r0 = n.reg} {r1 = n1.reg} {k1 = last} {n1 = n1} (arguments c.c_call c.function es l w) (omega arith) g1.reg ready.turns
        (arguments_meet es n ok (room_part (omega arith) g2.reg room) ready)
        (λ vs l1 w1 f1 ready1 keeps1 has1.
        let met = calls.by q vs w1 ready1.turns in
        meets_by c
        (ap (λ a. with_return (c.call q a w1) (λ v w2. goes c k n1 (received f1 (result_register t n1.reg) v) w2)) has1
        ∙ ap (λ o. with_return o (λ v w2. goes c k n1 (received f1 (result_register t n1.reg) v) w2)) met.0)
        (call_meets c n1 (past (tree.Call t q es) n) t (c.c_call q vs w1) (same_block t n1) (room_part g1.reg (omega arith) room) ready1 met.1))

    pub place_meets : (p : Place) (n : Numbers) {k : Code} {l : Locals} {f : Frame} {w : World S} → IsPlace c.scope p
        → IsRoom c.layout c.scope n.reg (place_past p n).reg → Ready c l f w
        → Meets c (λ s g. spot_in g (spot_at p n) ≡ s) n.reg k (place_past p n) f w.turns (goes c (place_code c.layout p n k) n f w)
        (place c.c_call c.function p l w)
    place_meets (tree.Scalar z) n ok room ready = lands_here c (Whole z) refl ready
    place_meets (tree.Element a e) n {k} {l} {f} {w} ok room ready =
        meets_then c {r0 = n.reg} {r1 = n.reg} {k1 = k} {n1 = past e n} (eval e l w) (omega arith) (omega arith) ready.turns
        (as_value c e _ ok.1.1 (expr_meets e n ok.1.0 room ready))
        (λ i l1 w1 g ready1 keeps1 has1. lands_here c (Part a i) (ap (λ q. Part a q) has1) ready1)

    pub arguments_meet : (es : Arguments) (n : Numbers) {k : Code} {l : Locals} {f : Frame} {w : World S} → AreArguments c.scope es
        → IsRoom c.layout c.scope n.reg (arguments_past es n).reg → Ready c l f w
        → Meets c (λ vs g. each g.regs (results es n) ≡ vs) n.reg k (arguments_past es n) f w.turns (goes c (arguments_code c.layout es n k) n f w)
        (arguments c.c_call c.function es l w)
    arguments_meet tree.None n ok room ready = lands_here c [] refl ready
    arguments_meet (tree.Argument e es) n {k} {l} {f} {w} ok room ready =
        let n1 = past e n in
        let n2 = arguments_past es n1 in
        let g1 = grow e n in
        let g2 = grow_arguments es n1 in
        let new = result_new c.scope e n ok.0.0 ok.0.1 in
        meets_then c {r0 = n.reg} {r1 = n1.reg} {k1 = arguments_code c.layout es n1 k} {n1 = n1} (eval e l w) (omega arith) g1.reg ready.turns
        (as_value c e _ ok.0.1 (expr_meets e n ok.0.0 (room_part (omega arith) g2.reg room) ready))
        (λ v l1 w1 f1 ready1 keeps1 has1.
        meets_then c {r0 = n1.reg} {r1 = n1.reg} {k1 = k} {n1 = n2} (arguments c.c_call c.function es l1 w1) (omega arith) (omega arith) ready1.turns
        (arguments_meet es n1 ok.1 (room_part g1.reg (omega arith) room) ready1)
        (λ vs l2 w2 f2 ready2 keeps2 has2.
        lands_here c (v ∷ vs)
        (ap (λ a. a ∷ each f2.regs (results es n1)) (keeps2.by (result e n) (room.by (result e n) new.from (omega (arith, new.below, g2.reg))) new.below ∙ has1)
        ∙ ap (λ us. v ∷ us) has2) ready2))
