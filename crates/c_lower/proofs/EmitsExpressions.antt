-- The draft of an expression is its code.
use Rattle.std.proofs.Common.{◌≡◌, ℕ, suc, ◌<◌, ◌≤◌, List, length, get_or, sym, ap, ◌∙◌, arith, Bool, true, false, Option, Some, None}
use Rattle.std.specs.Prelude.{if◌then◌else◌}
use Rattle.hlo_num.specs.declared.word.Ty.{Ty}
use Rattle.hlo_num.specs.declared.word.Op.TheVariants as op
use Rattle.hlo_num.specs.Words.{is_narrow, promote}
use Rattle.il_core.specs.declared.instr.Instr.{Instr}
use Rattle.il_core.specs.declared.instr.Instr.TheVariants as instr
use Rattle.il_core.specs.declared.instr.End.TheVariants as ends
use Rattle.c_tree.specs.declared.expression.UnaryOp.{UnaryOp}
use Rattle.c_tree.specs.declared.expression.UnaryOp.TheVariants.{Plus, Minus, Complement, Not}
use Rattle.c_typed.specs.declared.expression.Variable.TheVariants as variables
use Rattle.c_typed.specs.declared.expression.Array.TheVariants as arrays
use Rattle.c_typed.specs.declared.expression.BinaryOp.{BinaryOp}
use Rattle.c_typed.specs.declared.expression.LogicalOp.{LogicalOp}
use Rattle.c_typed.specs.declared.expression.LogicalOp.TheVariants as logical
use Rattle.c_typed.specs.Operators.{step_op}
use Rattle.c_typed.specs.Expressions.{Spot, Whole, Part}
use Rattle.c_typed.specs.Trees as tree
use Rattle.c_typed.specs.Trees.{Place, Expr, Arguments}
use Rattle.lower_laws.specs.Bound.{Scope, IsExpr, IsPlace, AreArguments}
use Rattle.lower_laws.specs.Code.{Code, Numbers, put, close, label, past_reg, past_instr, past_end, past_new, past_label, word}
use Rattle.lower_laws.specs.Operations.{load, store, conv_past, conv_result, conv_code, operation, unary_code, update_code, update_result}
use Rattle.lower_laws.specs.Expressions as laws
use Rattle.c_lower.specs.Drafts.{Draft, Fixed, layout_with, layout_now, write, next_label, mark}
use Rattle.c_lower.specs.Expressions.{converted, unary, loaded, stored, fetched, updated, arm, asked, stepped, written, placed, arguments}
use Rattle.c_lower.proofs.Emits.{Agrees, Emits, joined, none, one_then, puts, closes, marks, known, hole, jumps, begins, branches, still}

-- the same code, where f and r are right
swap : {f r : ℕ → ℕ} {d : List ℕ → List ℕ} {c e : Code → Code} {s s1 : Draft} → Emits f r d c s s1 → (Agrees f r s s1 → (k : Code) → c k ≡ e k) →
    Emits f r d e s s1
swap {f = f} {s = s} p q = record { targets = p.targets; locals = p.locals; declares = p.declares; code = λ g k. p.code g k ∙ ap (λ x. joined f s x) (q g k) }

put_if : {f r : ℕ → ℕ} (b : Bool) (i : Instr) (s : Draft) → Emits f r (λ l. l) (λ k. if b then put i k else k) s (if b then write i s else s)
put_if true i s = puts i s
put_if false i s = none s

pub converts : {f r : ℕ → ℕ} (t : Ty) (x : ℕ) (n : Numbers) (s : Draft) → Emits f r (λ l. l) (conv_code t x n) s (converted t x n s)
converts t x n s = put_if (is_narrow t) (instr.Conv n.reg t x) s

unaries : {f r : ℕ → ℕ} (o : UnaryOp) (t : Ty) (x : ℕ) (n : Numbers) (s : Draft) → Emits f r (λ l. l) (unary_code o t x n) s (unary o t x n s)
unaries Plus t x n s = none s
unaries Minus t x n s = one_then (puts _ s) (puts _ _)
unaries Complement t x n s = one_then (puts _ s) (puts _ _)
unaries Not t x n s = one_then (puts _ s) (puts _ _)

-- a local that is named is declared
abbrev pub IsDeclared : ℕ → Spot → Type 0
IsDeclared m (Whole (variables.Parameter x)) = Unit {0}
IsDeclared m (Whole (variables.Local x)) = x < m
IsDeclared m (Whole (variables.Object g)) = Unit {0}
IsDeclared m (Part a i) = Unit {0}

module _ (f r : ℕ → ℕ) (y : Fixed) where
  pub loads : (p : Spot) (d m : ℕ) (s : Draft) → m ≤ length s.locals → IsDeclared m p →
      Emits f r (λ l. l) (put (load (layout_with y r) p d)) s (loaded y p d s)
  unfolding layout_now write
  loads (Whole (variables.Parameter x)) d m s w h = puts (instr.Move d x) s
  loads (Whole (variables.Local x)) d m s w h =
      swap {c = put (instr.Move d (get_or s.locals x 0))} (puts (instr.Move d (get_or s.locals x 0)) s)
      (λ g k. let lt : x < length s.locals = omega (arith, w, h) in ap (λ v. put (instr.Move d v) k) (sym (g.locals x lt)))
  loads (Whole (variables.Object g)) d m s w h = puts (instr.Get d g) s
  loads (Part (arrays.Local a) i) d m s w h = puts (instr.GetA d (y.array a) i) s
  loads (Part (arrays.Object g) i) d m s w h = puts (instr.GetX d g i) s

  pub stores : (p : Spot) (x m : ℕ) (s : Draft) → m ≤ length s.locals → IsDeclared m p →
      Emits f r (λ l. l) (put (store (layout_with y r) p x)) s (stored y p x s)
  unfolding layout_now write
  stores (Whole (variables.Parameter d)) x m s w h = puts (instr.Move d x) s
  stores (Whole (variables.Local d)) x m s w h =
      swap {c = put (instr.Move (get_or s.locals d 0) x)} (puts (instr.Move (get_or s.locals d 0) x) s)
      (λ g k. let lt : d < length s.locals = omega (arith, w, h) in ap (λ v. put (instr.Move v x) k) (sym (g.locals d lt)))
  stores (Whole (variables.Object g)) x m s w h = puts (instr.Set g x) s
  stores (Part (arrays.Local a) i) x m s w h = puts (instr.SetA (y.array a) i x) s
  stores (Part (arrays.Object g) i) x m s w h = puts (instr.SetX g i x) s

  fetches : (u : Ty) (p : Spot) (n : Numbers) (m : ℕ) (s : Draft) → m ≤ length s.locals → IsDeclared m p →
      Emits f r (λ l. l) (λ k. put (load (layout_with y r) p n.reg) (conv_code u n.reg (past_new n) k)) s (fetched y u p n s)
  fetches u p n m s w h = one_then (loads p n.reg m s w h) (converts u n.reg (past_new n) _)

  updates : (t : Ty) (o : BinaryOp) (u : Ty) (p : Spot) (old x : ℕ) (n : Numbers) (m : ℕ) (s : Draft) → m ≤ length s.locals → IsDeclared m p →
      Emits f r (λ l. l) (update_code (layout_with y r) t o u p old x n) s (updated y t o u p old x n s)
  updates t o u p old x n m s w h =
      let q = one_then (puts {f = f} {r = r} (operation o u n.reg old x) s) (converts t n.reg (past_new n) _) in
      one_then q (stores p (update_result t n) m _ (still w q) h)

  steps : (t : Ty) (o : BinaryOp) (p : Spot) (n : Numbers) (m : ℕ) (s : Draft) → m ≤ length s.locals → IsDeclared m p →
      Emits f r (λ l. l) (λ k. put (load (layout_with y r) p n.reg) (conv_code (promote t) n.reg (past_new n)
      (put (instr.Const (conv_past (promote t) (past_new n)).reg (word 1))
      (update_code (layout_with y r) t o (promote t) p (conv_result (promote t) n.reg (past_new n)) (conv_past (promote t) (past_new n)).reg
      (past_new (conv_past (promote t) (past_new n))) k)))) s (stepped y t o p n s)
  steps t o p n m s w h =
      let one = conv_past (promote t) (past_new n) in
      let q = one_then (fetches (promote t) p n m s w h) (puts (instr.Const one.reg (word 1)) _) in
      one_then q (updates t o (promote t) p _ _ (past_new one) m _ (still w q) h)

arms : {f r : ℕ → ℕ} (t : Option Ty) (d x : ℕ) (s : Draft) → Emits f r (λ l. l) (laws.arm_code t d x) s (arm t d x s)
arms None d x s = none s
arms (Some t) d x s = puts (instr.Move d x) s

asks : {f r : ℕ → ℕ} (o : LogicalOp) (x l : ℕ) (n : Numbers) (s : Draft) →
    Emits f r (λ k. k) (close (laws.logical_end o x (suc n.block) (f l))) s (asked o x l n s)
asks {f = f} logical.And x l n s = known (suc n.block) (λ v k. close (ends.Branch x v (f l)) k) (closes (ends.Branch x (next_label s) l) _)
asks {f = f} logical.Or x l n s = known (suc n.block) (λ v k. close (ends.Branch x (f l) v) k) (closes (ends.Branch x l (next_label s)) _)

-- the spot of a place is declared
declared_spot : (sc : Scope) (p : Place) (n : Numbers) → IsPlace sc p → IsDeclared sc.locals (laws.spot_at p n)
declared_spot sc (tree.Scalar (variables.Parameter x)) n h = tt
declared_spot sc (tree.Scalar (variables.Local x)) n h = h.0
declared_spot sc (tree.Scalar (variables.Object g)) n h = tt
declared_spot sc (tree.Element a e) n h = tt

module _ (f r : ℕ → ℕ) (y : Fixed) (sc : Scope) where
  mutual
    pub emits_expr : (e : Expr) (n : Numbers) (s : Draft) → sc.locals ≤ length s.locals → IsExpr sc e →
        Emits f r (λ l. l) (laws.code (layout_with y r) e n) s (written y e n s)
    emits_expr (tree.Constant t v) n s w h = puts _ s
    emits_expr (tree.Read t p) n s w h =
        let q = emits_place p n s w h in
        one_then q (loads f r y (laws.spot_at p n) _ sc.locals _ (still w q) (declared_spot sc p n h))
    emits_expr (tree.Convert t e) n s w h = one_then (emits_expr e n s w h.0) (converts t (laws.result e n) (laws.past e n) _)
    emits_expr (tree.Discard e) n s w h = emits_expr e n s w h
    emits_expr (tree.Unary t o e) n s w h = one_then (emits_expr e n s w h.0) (unaries o t (laws.result e n) (laws.past e n) _)
    emits_expr (tree.Binary t o a b) n s w h =
        let p = emits_expr a n s w h.0.0 in
        one_then p (one_then (emits_expr b (laws.past a n) _ (still w p) h.1.0) (puts _ _))
    emits_expr (tree.Logical o a b) n s w h =
        let left = laws.past a n in
        let right = past_end (past_reg left) in
        let zero = laws.past b right in
        let skip = past_end (past_instr (past_new zero)) in
        let first = written y a n s in
        let x = laws.result a n in
        let p = emits_expr a n s w h.0.0 in
        let m = marks {f = f} {r = r} 0 first in
        let q = asks {f = f} {r = r} o x (next_label first) left (mark 0 first) in
        let right_side = emits_expr b right _ (still (still (still w p) m) q) h.1.0 in
        let inner = one_then q (one_then right_side (one_then (puts _ _) (one_then (puts _ _) (jumps (suc skip.block) _)))) in
        let held = hole {f = f} {r = r} skip.block (λ v k. close (laws.logical_end o x right.block v)
        (laws.code (layout_with y r) b right
        (put (instr.Const zero.reg (word 0))
        (put (instr.Bin op.Ne left.reg (laws.result b right) zero.reg) (close (ends.Jump (suc skip.block)) k))))) inner in
        one_then p (one_then held (one_then (puts _ _) (begins true (past_instr skip) _)))
    emits_expr (tree.Conditional t c a b) n s w h =
        let asked = laws.past c n in
        let picked = laws.result_past t asked in
        let first = past_end picked in
        let second = past_end (laws.arm_past t (laws.past a first)) in
        let last = laws.arm_past t (laws.past b second) in
        let after = past_label (laws.arm_open t b) last in
        let x = laws.result c n in
        let tested = written y c n s in
        let behind = next_label tested in
        let other = next_label (mark 0 tested) in
        let p = emits_expr c n s w h.0.0 in
        let m1 = marks {f = f} {r = r} 0 tested in
        let m2 = marks {f = f} {r = r} 0 (mark 0 tested) in
        let w2 = still (still (still w p) m1) m2 in
        let q = branches {f = f} {r = r} x other picked (mark 0 (mark 0 tested)) in
        let yes = emits_expr a first _ (still w2 q) h.1.0 in
        let inner = one_then q (one_then yes (one_then (arms t asked.reg (laws.result a first) _) (closes (ends.Jump behind) _))) in
        let held = hole {f = f} {r = r} second.block (λ v k. close (ends.Branch x first.block v)
        (laws.code (layout_with y r) a first (laws.arm_code t asked.reg (laws.result a first) (close (ends.Jump (f behind)) k)))) inner in
        let no = emits_expr b second _ (still (still (still w p) m1) held) h.2.0 in
        let outer = one_then held (one_then no (one_then (arms t asked.reg (laws.result b second) _) (begins (laws.arm_open t b) last _))) in
        one_then p (hole {f = f} {r = r} after.block (λ v k. close (ends.Branch x first.block second.block)
        (laws.code (layout_with y r) a first (laws.arm_code t asked.reg (laws.result a first) (close (ends.Jump v)
        (laws.code (layout_with y r) b second (laws.arm_code t asked.reg (laws.result b second) (label (laws.arm_open t b) last k))))))) outer)
    emits_expr (tree.Comma t a b) n s w h = let p = emits_expr a n s w h.0 in one_then p (emits_expr b (laws.past a n) _ (still w p) h.1)
    emits_expr (tree.Assign t p e) n s w h =
        let q = emits_place p n s w h.0 in
        let v = one_then q (emits_expr e (laws.place_past p n) _ (still w q) h.1.0) in
        one_then v (stores f r y (laws.spot_at p n) _ sc.locals _ (still w v) (declared_spot sc p n h.0))
    emits_expr (tree.Compound t o u p e) n s w h =
        let d = declared_spot sc p n h.0 in
        let q = emits_place p n s w h.0 in
        let old = laws.place_past p n in
        let g = one_then q (fetches f r y u (laws.spot_at p n) old sc.locals _ (still w q) d) in
        let v = one_then g (emits_expr e (conv_past u (past_new old)) _ (still w g) h.1.0) in
        one_then v (updates f r y t o u (laws.spot_at p n) _ _ (laws.past e (conv_past u (past_new old))) sc.locals _ (still w v) d)
    emits_expr (tree.Prefix t d p) n s w h =
        let q = emits_place p n s w h in
        one_then q (steps f r y t (step_op d) (laws.spot_at p n) (laws.place_past p n) sc.locals _ (still w q) (declared_spot sc p n h))
    emits_expr (tree.Postfix t d p) n s w h =
        let q = emits_place p n s w h in
        one_then q (steps f r y t (step_op d) (laws.spot_at p n) (laws.place_past p n) sc.locals _ (still w q) (declared_spot sc p n h))
    emits_expr (tree.Call t g es) n s w h = one_then (emits_arguments es n s w h) (puts _ _)
    emits_expr tree.GetChar n s w h = puts _ s
    emits_expr (tree.PutChar e) n s w h = one_then (emits_expr e n s w h.0) (puts _ _)
    emits_expr (tree.Exit e) n s w h = one_then (emits_expr e n s w h.0) (closes _ _)

    emits_place : (p : Place) (n : Numbers) (s : Draft) → sc.locals ≤ length s.locals → IsPlace sc p →
        Emits f r (λ l. l) (laws.place_code (layout_with y r) p n) s (placed y p n s)
    emits_place (tree.Scalar x) n s w h = none s
    emits_place (tree.Element a e) n s w h = emits_expr e n s w h.1.0

    emits_arguments : (es : Arguments) (n : Numbers) (s : Draft) → sc.locals ≤ length s.locals → AreArguments sc es →
        Emits f r (λ l. l) (laws.arguments_code (layout_with y r) es n) s (arguments y es n s)
    emits_arguments tree.None n s w h = none s
    emits_arguments (tree.Argument e es) n s w h = let p = emits_expr e n s w h.0.0 in one_then p (emits_arguments es (laws.past e n) _ (still w p) h.1)
