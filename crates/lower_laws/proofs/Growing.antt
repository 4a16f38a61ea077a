-- Numbers only grow, and the register of a result is new.
use Rattle.std.proofs.Common.{◌≡◌, ℕ, ◌<◌, ◌≤◌, Bool, true, false, Option, Some, None, sym, subst, arith}
use Rattle.std.specs.Prelude.{if◌then◌else◌, IsTrue, is_some}
use Rattle.hlo_num.specs.declared.word.Ty.{Ty}
use Rattle.hlo_num.specs.Words.{is_narrow, promote}
use Rattle.c_tree.specs.declared.expression.UnaryOp.{UnaryOp}
use Rattle.c_tree.specs.declared.expression.UnaryOp.TheVariants.{Plus, Minus, Complement, Not}
use Rattle.c_typed.specs.Trees as tree
use Rattle.c_typed.specs.Trees.{Place, Expr, Arguments}
use Rattle.c_typed.specs.Types.{type_of}
use Rattle.lower_laws.specs.Bound.{Scope, HasValue, IsExpr}
use Rattle.lower_laws.specs.Code.{Numbers, past_reg, past_instr, past_end, past_site, past_new, past_label}
use Rattle.lower_laws.specs.Expressions.{arm_open, result_past, arm_past, past, place_past, arguments_past, result}
use Rattle.lower_laws.specs.Operations.{conv_past, conv_result, unary_past, unary_result, update_past, update_result}

pub record Grows (n n1 : Numbers) : Type 0 where
  pub reg : n.reg ≤ n1.reg
  pub block : n.block ≤ n1.block
  pub size : n.size ≤ n1.size

-- one after the other
pub grow_then : {a b c : Numbers} → Grows a b → Grows b c → Grows a c
grow_then p q = record {
  reg = omega (arith, p.reg, q.reg);
  block = omega (arith, p.block, q.block);
  size = omega (arith, p.size, q.size);
}

pub grow_none : (n : Numbers) → Grows n n
grow_none n = record { reg = omega arith; block = omega arith; size = omega arith }

pub grow_new : (n : Numbers) → Grows n (past_new n)
grow_new n = record { reg = omega arith; block = omega arith; size = omega arith }

pub grow_reg : (n : Numbers) → Grows n (past_reg n)
grow_reg n = record { reg = omega arith; block = omega arith; size = omega arith }

pub grow_instr : (n : Numbers) → Grows n (past_instr n)
grow_instr n = record { reg = omega arith; block = omega arith; size = omega arith }

pub grow_end : (n : Numbers) → Grows n (past_end n)
grow_end n = record { reg = omega arith; block = omega arith; size = omega arith }

pub grow_site : (n : Numbers) → Grows n (past_site n)
grow_site n = record { reg = omega arith; block = omega arith; size = omega arith }

grow_if : (b : Bool) (n a : Numbers) → Grows n a → Grows n (if b then a else n)
grow_if true n a g = g
grow_if false n a g = grow_none n

pub grow_conv : (t : Ty) (n : Numbers) → Grows n (conv_past t n)
grow_conv t n = grow_if (is_narrow t) n (past_new n) (grow_new n)

pub grow_unary : (o : UnaryOp) (n : Numbers) → Grows n (unary_past o n)
grow_unary Plus n = grow_none n
grow_unary Minus n = grow_then (grow_new n) (grow_new _)
grow_unary Complement n = grow_then (grow_new n) (grow_new _)
grow_unary Not n = grow_then (grow_new n) (grow_new _)

pub grow_update : (t : Ty) (n : Numbers) → Grows n (update_past t n)
grow_update t n = grow_then (grow_new n) (grow_then (grow_conv t (past_new n)) (grow_instr _))

pub grow_label : (opened : Bool) (n : Numbers) → Grows n (past_label opened n)
grow_label true n = grow_end n
grow_label false n = grow_none n

pub grow_result : (t : Option Ty) (n : Numbers) → Grows n (result_past t n)
grow_result None n = grow_none n
grow_result (Some t) n = grow_reg n

pub grow_arm : (t : Option Ty) (n : Numbers) → Grows n (arm_past t n)
grow_arm None n = grow_none n
grow_arm (Some t) n = grow_instr n

-- behind a load and the conversion of what was loaded
pub grow_loaded : (u : Ty) (n : Numbers) → Grows n (conv_past u (past_new n))
grow_loaded u n = grow_then (grow_new n) (grow_conv u _)

mutual
  pub grow : (e : Expr) (n : Numbers) → Grows n (past e n)
  grow (tree.Constant t v) n = grow_new n
  grow (tree.Read t p) n = grow_then (grow_place p n) (grow_new _)
  grow (tree.Convert t e) n = grow_then (grow e n) (grow_conv t _)
  grow (tree.Discard e) n = grow e n
  grow (tree.Unary t o e) n = grow_then (grow e n) (grow_unary o _)
  grow (tree.Binary t o a b) n = grow_then (grow a n) (grow_then (grow b _) (grow_new _))
  grow (tree.Logical o a b) n =
      let right = grow b (past_end (past_reg (past a n))) in
      grow_then (grow a n)
      (record { reg = omega (arith, right.reg); block = omega (arith, right.block); size = omega (arith, right.size) })
  grow (tree.Conditional t c a b) n =
      grow_then (grow c n) (grow_then (grow_result t _) (grow_then (grow_end _)
      (grow_then (grow a _) (grow_then (grow_arm t _) (grow_then (grow_end _)
      (grow_then (grow b _) (grow_then (grow_arm t _) (grow_label (arm_open t b) _))))))))
  grow (tree.Comma t a b) n = grow_then (grow a n) (grow b _)
  grow (tree.Assign t p e) n = grow_then (grow_place p n) (grow_then (grow e _) (grow_instr _))
  grow (tree.Compound t o u p e) n =
      grow_then (grow_place p n) (grow_then (grow_loaded u _) (grow_then (grow e _) (grow_update t _)))
  grow (tree.Prefix t d p) n =
      grow_then (grow_place p n) (grow_then (grow_loaded (promote t) _) (grow_then (grow_new _) (grow_update t _)))
  grow (tree.Postfix t d p) n =
      grow_then (grow_place p n) (grow_then (grow_loaded (promote t) _) (grow_then (grow_new _) (grow_update t _)))
  grow (tree.Call t f es) n =
      grow_then (grow_arguments es n) (grow_then (grow_result t _) (grow_then (grow_instr _) (grow_site _)))
  grow tree.GetChar n = grow_new n
  grow (tree.PutChar e) n = grow_then (grow e n) (grow_new _)
  grow (tree.Exit e) n = grow_then (grow e n) (grow_end _)

  pub grow_place : (p : Place) (n : Numbers) → Grows n (place_past p n)
  grow_place (tree.Scalar x) n = grow_none n
  grow_place (tree.Element a e) n = grow e n

  pub grow_arguments : (es : Arguments) (n : Numbers) → Grows n (arguments_past es n)
  grow_arguments tree.None n = grow_none n
  grow_arguments (tree.Argument e es) n = grow_then (grow e n) (grow_arguments es _)

-- a register that was taken between two places
pub record IsNew (d : ℕ) (n n1 : Numbers) : Type 0 where
  pub from : n.reg ≤ d
  pub below : d < n1.reg

-- from an earlier place on, and up to a later one
pub new_from : {d : ℕ} {a b c : Numbers} → Grows a b → IsNew d b c → IsNew d a c
new_from g h = record { from = omega (arith, g.reg, h.from); below = h.below }

pub new_until : {d : ℕ} {a b c : Numbers} → Grows b c → IsNew d a b → IsNew d a c
new_until g h = record { from = h.from; below = omega (arith, g.reg, h.below) }

pub new_here : (n : Numbers) → IsNew n.reg n (past_new n)
new_here n = record { from = omega arith; below = omega arith }

new_if : (b : Bool) (s : ℕ) (n n1 : Numbers) → Grows n n1 → IsNew s n n1
    → IsNew (if b then n1.reg else s) n (if b then past_new n1 else n1)
new_if true s n n1 g h = record { from = g.reg; below = omega arith }
new_if false s n n1 g h = h

pub new_conv : (t : Ty) (s : ℕ) (n n1 : Numbers) → Grows n n1 → IsNew s n n1 → IsNew (conv_result t s n1) n (conv_past t n1)
new_conv t s n n1 g h = new_if (is_narrow t) s n n1 g h

pub new_update : (t : Ty) (n : Numbers) → IsNew (update_result t n) n (update_past t n)
new_update t n = new_until (grow_instr _) (new_conv t n.reg n (past_new n) (grow_new n) (new_here n))

new_unary : (o : UnaryOp) (x : ℕ) (n n1 : Numbers) → Grows n n1 → IsNew x n n1 → IsNew (unary_result o x n1) n (unary_past o n1)
new_unary Plus x n n1 g h = h
new_unary Minus x n n1 g h = record { from = omega (arith, g.reg); below = omega arith }
new_unary Complement x n n1 g h = record { from = omega (arith, g.reg); below = omega arith }
new_unary Not x n n1 g h = record { from = omega (arith, g.reg); below = omega arith }

-- an expression of a type that isn't void has a value, and a void one has none
pub has_value : (e : Expr) (t : Option Ty) → type_of e ≡ t → IsTrue (is_some t) → HasValue e
has_value e t same h = subst (λ q. IsTrue (is_some q)) (sym same) h

pub is_void : {A : Type 0} → IsTrue false → A
is_void h = absurd cc

-- the register of a value is new
pub result_new : (s : Scope) (e : Expr) (n : Numbers) → IsExpr s e → HasValue e → IsNew (result e n) n (past e n)
result_new s (tree.Constant t v) n ok has = new_here n
result_new s (tree.Read t p) n ok has = new_from (grow_place p n) (new_here _)
result_new s (tree.Convert t e) n ok has =
    new_conv t (result e n) n (past e n) (grow e n) (result_new s e n ok.0 ok.1)
result_new s (tree.Discard e) n ok has = is_void has
result_new s (tree.Unary t o e) n ok has =
    new_unary o (result e n) n (past e n) (grow e n) (result_new s e n ok.0 ok.1)
result_new s (tree.Binary t o a b) n ok has = new_from (grow_then (grow a n) (grow b _)) (new_here _)
result_new s (tree.Logical o a b) n ok has =
    let right = grow b (past_end (past_reg (past a n))) in
    record { from = (grow a n).reg; below = omega (arith, right.reg) }
result_new s (tree.Conditional (Some t) c a b) n ok has =
    let first = grow a (past_end (past_reg (past c n))) in
    let second = grow b (past_end (past_instr (past a (past_end (past_reg (past c n)))))) in
    record { from = (grow c n).reg; below = omega (arith, first.reg, second.reg) }
result_new s (tree.Conditional None c a b) n ok has = is_void has
result_new s (tree.Comma t a b) n ok has = new_from (grow a n) (result_new s b _ ok.1 (has_value b t ok.2 has))
result_new s (tree.Assign t p e) n ok has =
    new_from (grow_place p n) (new_until (grow_instr _) (result_new s e _ ok.1.0 ok.1.1))
result_new s (tree.Compound t o u p e) n ok has =
    new_from (grow_then (grow_place p n) (grow_then (grow_loaded u _) (grow e _))) (new_update t _)
result_new s (tree.Prefix t d p) n ok has =
    new_from (grow_then (grow_place p n) (grow_then (grow_loaded (promote t) _) (grow_new _))) (new_update t _)
result_new s (tree.Postfix t d p) n ok has =
    new_from (grow_place p n)
    (new_until (grow_then (grow_conv (promote t) _) (grow_then (grow_new _) (grow_update t _))) (new_here _))
result_new s (tree.Call (Some t) f es) n ok has =
    new_from (grow_arguments es n) (record { from = omega arith; below = omega arith })
result_new s (tree.Call None f es) n ok has = is_void has
result_new s tree.GetChar n ok has = new_here n
result_new s (tree.PutChar e) n ok has = new_from (grow e n) (new_here _)
result_new s (tree.Exit e) n ok has = is_void has
