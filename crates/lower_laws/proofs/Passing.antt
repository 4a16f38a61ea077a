-- A basic block that comes later is found behind the code of an expression.
use Rattle.std.proofs.Common.{◌≡◌, ℕ, suc, ◌<◌, ◌≤◌, Bool, true, false, Option, Some, None, refl, ap, arith}
use Rattle.std.specs.Prelude.{if◌then◌else◌}
use Rattle.hlo_num.specs.declared.word.Ty.{Ty}
use Rattle.hlo_num.specs.Words.{is_narrow, promote}
use Rattle.il_core.specs.declared.instr.Instr.{Instr}
use Rattle.c_tree.specs.declared.expression.UnaryOp.{UnaryOp}
use Rattle.c_tree.specs.declared.expression.UnaryOp.TheVariants.{Plus, Minus, Complement, Not}
use Rattle.c_typed.specs.declared.expression.BinaryOp.{BinaryOp}
use Rattle.c_typed.specs.Expressions.{Spot}
use Rattle.c_typed.specs.Trees as tree
use Rattle.c_typed.specs.Trees.{Place, Expr, Arguments}
use Rattle.lower_laws.specs.Code.{Code, put, Numbers, past_reg, past_instr, past_end, past_new, past_label}
use Rattle.lower_laws.specs.Expressions.{is_open, arm_open, result_past, arm_past, arm_code, past, place_past, arguments_past, code, place_code, arguments_code}
use Rattle.lower_laws.specs.Layouts.{Layout}
use Rattle.lower_laws.specs.Operations.{conv_past, conv_code, unary_past, unary_code, update_past, update_code}
use Rattle.lower_laws.proofs.Coming.{Setting, Passes, passes_none, passes_then, passes_put, passes_close, passes_label}
use Rattle.lower_laws.proofs.Growing.{grow, grow_arguments, grow_conv, grow_unary, grow_update, grow_result, grow_arm, grow_label}

-- a new register opens no block
pub same_block : (t : Option Ty) (n : Numbers) → (result_past t n).block ≡ n.block
same_block None n = refl
same_block (Some t) n = refl

-- block t comes later than a place whose block has number b and is open, or not
abbrev pub IsPast : Bool → ℕ → ℕ → Type 0
IsPast true b t = b < t
IsPast false b t = b ≤ t

pub past_either : (opened : Bool) (b t : ℕ) → b < t → IsPast opened b t
past_either true b t lt = lt
past_either false b t lt = omega arith

pub label_is_past : (opened : Bool) (n : Numbers) → IsPast opened n.block (past_label opened n).block
label_is_past true n = omega arith
label_is_past false n = omega arith

-- what is past an expression is past the block in which it begins
pub past_whole : (e : Expr) (n : Numbers) (t : ℕ) → IsPast (is_open e) (past e n).block t → n.block < t
past_whole (tree.Discard e) n t h = past_whole e n t h
past_whole (tree.Comma ty a b) n t h = omega (arith, past_whole b (past a n) t h, (grow a n).block)
past_whole (tree.Exit e) n t h = omega (arith, (grow e n).block)
past_whole (tree.Constant ty v) n t h = h
past_whole (tree.Read ty p) n t h = omega (arith, (grow (tree.Read ty p) n).block)
past_whole (tree.Convert ty e) n t h = omega (arith, (grow (tree.Convert ty e) n).block)
past_whole (tree.Unary ty o e) n t h = omega (arith, (grow (tree.Unary ty o e) n).block)
past_whole (tree.Binary ty o a b) n t h = omega (arith, (grow (tree.Binary ty o a b) n).block)
past_whole (tree.Logical o a b) n t h = omega (arith, (grow (tree.Logical o a b) n).block)
past_whole (tree.Conditional ty d a b) n t h = omega (arith, (grow (tree.Conditional ty d a b) n).block)
past_whole (tree.Assign ty p e) n t h = omega (arith, (grow (tree.Assign ty p e) n).block)
past_whole (tree.Compound ty o u p e) n t h = omega (arith, (grow (tree.Compound ty o u p e) n).block)
past_whole (tree.Prefix ty d p) n t h = omega (arith, (grow (tree.Prefix ty d p) n).block)
past_whole (tree.Postfix ty d p) n t h = omega (arith, (grow (tree.Postfix ty d p) n).block)
past_whole (tree.Call ty g es) n t h = omega (arith, (grow (tree.Call ty g es) n).block)
past_whole tree.GetChar n t h = h
past_whole (tree.PutChar e) n t h = omega (arith, (grow (tree.PutChar e) n).block)

module _ {S : Type 0} (c : Setting S) where
  passes_if : {t : ℕ} {k : Code} (b : Bool) (i : Instr) (n : Numbers) → n.block < t
      → Passes c t n (if b then put i k else k) (if b then past_new n else n) k
  passes_if true i n lt = passes_put c i n (past_new n) refl lt
  passes_if {t} {k} false i n lt = passes_none c t n k

  pub passes_conv : {t : ℕ} {k : Code} (ty : Ty) (s : ℕ) (n : Numbers) → n.block < t → Passes c t n (conv_code ty s n k) (conv_past ty n) k
  passes_conv ty s n lt = passes_if (is_narrow ty) _ n lt

  passes_two : {t : ℕ} {k : Code} (i j : Instr) (n : Numbers) → n.block < t → Passes c t n (put i (put j k)) (past_new (past_new n)) k
  passes_two i j n lt = passes_then c (passes_put c i n (past_new n) refl lt) (passes_put c j (past_new n) (past_new (past_new n)) refl lt)

  passes_unary : {t : ℕ} {k : Code} (o : UnaryOp) (ty : Ty) (s : ℕ) (n : Numbers) → n.block < t
      → Passes c t n (unary_code o ty s n k) (unary_past o n) k
  passes_unary {t} {k} Plus ty s n lt = passes_none c t n k
  passes_unary Minus ty s n lt = passes_two _ _ n lt
  passes_unary Complement ty s n lt = passes_two _ _ n lt
  passes_unary Not ty s n lt = passes_two _ _ n lt

  pub passes_update : {t : ℕ} {k : Code} (y : Layout) (ty : Ty) (o : BinaryOp) (u : Ty) (p : Spot) (old v : ℕ) (n : Numbers)
      → (update_past ty n).block < t → Passes c t n (update_code y ty o u p old v n k) (update_past ty n) k
  passes_update y ty o u p old v n lt =
      let g = grow_conv ty (past_new n) in
      passes_then c (passes_put c _ n (past_new n) refl (omega (arith, g.block)))
      (passes_then c (passes_conv ty n.reg (past_new n) (omega (arith, g.block))) (passes_put c _ _ _ refl lt))

  passes_arm : {t : ℕ} {k : Code} (ty : Option Ty) (d s : ℕ) (n : Numbers) → n.block < t → Passes c t n (arm_code ty d s k) (arm_past ty n) k
  passes_arm {t} {k} None d s n lt = passes_none c t n k
  passes_arm (Some ty) d s n lt = passes_put c _ n (past_instr n) refl lt

  mutual
    pub passes_expr : {t : ℕ} {k : Code} (y : Layout) (e : Expr) (n : Numbers) → IsPast (is_open e) (past e n).block t
        → Passes c t n (code y e n k) (past e n) k
    passes_expr y (tree.Constant ty v) n lt = passes_put c _ n _ refl lt
    passes_expr y (tree.Read ty p) n lt = passes_then c (passes_place y p n lt) (passes_put c _ _ _ refl lt)
    passes_expr y (tree.Convert ty e) n lt =
        let inner : (past e n).block < _ = omega (arith, (grow_conv ty (past e n)).block) in
        passes_then c (passes_expr y e n (past_either (is_open e) _ _ inner)) (passes_conv ty _ _ inner)
    passes_expr y (tree.Discard e) n lt = passes_expr y e n lt
    passes_expr y (tree.Unary ty o e) n lt =
        let inner : (past e n).block < _ = omega (arith, (grow_unary o (past e n)).block) in
        passes_then c (passes_expr y e n (past_either (is_open e) _ _ inner)) (passes_unary o ty _ _ inner)
    passes_expr y (tree.Binary ty o a b) n lt =
        passes_then c (passes_expr y a n (past_either (is_open a) _ _ (omega (arith, (grow b (past a n)).block))))
        (passes_then c (passes_expr y b (past a n) (past_either (is_open b) _ _ lt)) (passes_put c _ _ _ refl lt))
    passes_expr y (tree.Logical o a b) n lt =
        let left = past a n in
        let right = past_end (past_reg left) in
        let zero_at = past b right in
        let skip = past_end (past_instr (past_new zero_at)) in
        let g = grow b right in
        passes_then c (passes_expr y a n (past_either (is_open a) _ _ (omega (arith, g.block))))
        (passes_then c (passes_close c _ left right refl (omega (arith, g.block)))
        (passes_then c (passes_expr y b right (past_either (is_open b) _ _ (omega arith)))
        (passes_then c (passes_put c _ zero_at (past_new zero_at) refl (omega arith))
        (passes_then c (passes_put c _ (past_new zero_at) (past_instr (past_new zero_at)) refl (omega arith))
        (passes_then c (passes_close c _ (past_instr (past_new zero_at)) skip refl (omega arith))
        (passes_then c (passes_put c _ skip (past_instr skip) refl (omega arith))
        (passes_close c _ (past_instr skip) (past_end (past_instr skip)) refl (omega arith))))))))
    passes_expr y (tree.Conditional ty d a b) n lt =
        let asked = past d n in
        let first = past_end (result_past ty asked) in
        let second = past_end (arm_past ty (past a first)) in
        let last = arm_past ty (past b second) in
        let g1 = grow_result ty asked in
        let g2 = grow a first in
        let g3 = grow_arm ty (past a first) in
        let g4 = grow b second in
        let g5 = grow_arm ty (past b second) in
        let g6 = grow_label (arm_open ty b) last in
        passes_then c (passes_expr y d n (past_either (is_open d) _ _ (omega (arith, g1.block, g2.block, g3.block, g4.block, g5.block, g6.block))))
        (passes_then c (passes_close c _ asked first (ap suc (same_block ty asked)) (omega (arith, g1.block, g2.block, g3.block, g4.block, g5.block, g6.block)))
        (passes_then c (passes_expr y a first (past_either (is_open a) _ _ (omega (arith, g3.block, g4.block, g5.block, g6.block))))
        (passes_then c (passes_arm ty _ _ (past a first) (omega (arith, g3.block, g4.block, g5.block, g6.block)))
        (passes_then c (passes_close c _ (arm_past ty (past a first)) second refl (omega (arith, g4.block, g5.block, g6.block)))
        (passes_then c (passes_expr y b second (past_either (is_open b) _ _ (omega (arith, g5.block, g6.block))))
        (passes_then c (passes_arm ty _ _ (past b second) (omega (arith, g5.block, g6.block)))
        (passes_label c (arm_open ty b) last (omega arith))))))))
    passes_expr {t} y (tree.Comma ty a b) n lt =
        passes_then c (passes_expr y a n (past_either (is_open a) _ _ (past_whole b (past a n) t lt))) (passes_expr y b (past a n) lt)
    passes_expr y (tree.Assign ty p e) n lt =
        passes_then c (passes_place y p n (omega (arith, (grow e (place_past p n)).block)))
        (passes_then c (passes_expr y e _ (past_either (is_open e) _ _ lt)) (passes_put c _ _ _ refl lt))
    passes_expr y (tree.Compound ty o u p e) n lt =
        let old = place_past p n in
        let right = conv_past u (past_new old) in
        let g1 = grow_conv u (past_new old) in
        let g2 = grow e right in
        let g3 = grow_update ty (past e right) in
        passes_then c (passes_place y p n (omega (arith, g1.block, g2.block, g3.block)))
        (passes_then c (passes_put c _ old (past_new old) refl (omega (arith, g1.block, g2.block, g3.block)))
        (passes_then c (passes_conv u _ (past_new old) (omega (arith, g1.block, g2.block, g3.block)))
        (passes_then c (passes_expr y e right (past_either (is_open e) _ _ (omega (arith, g3.block)))) (passes_update y ty o u _ _ _ (past e right) lt))))
    passes_expr y (tree.Prefix ty d p) n lt =
        let old = place_past p n in
        let one = conv_past (promote ty) (past_new old) in
        let g1 = grow_conv (promote ty) (past_new old) in
        let g2 = grow_update ty (past_new one) in
        passes_then c (passes_place y p n (omega (arith, g1.block, g2.block)))
        (passes_then c (passes_put c _ old (past_new old) refl (omega (arith, g1.block, g2.block)))
        (passes_then c (passes_conv (promote ty) _ (past_new old) (omega (arith, g1.block, g2.block)))
        (passes_then c (passes_put c _ one (past_new one) refl (omega (arith, g2.block))) (passes_update y ty _ _ _ _ _ (past_new one) lt))))
    passes_expr y (tree.Postfix ty d p) n lt =
        let old = place_past p n in
        let one = conv_past (promote ty) (past_new old) in
        let g1 = grow_conv (promote ty) (past_new old) in
        let g2 = grow_update ty (past_new one) in
        passes_then c (passes_place y p n (omega (arith, g1.block, g2.block)))
        (passes_then c (passes_put c _ old (past_new old) refl (omega (arith, g1.block, g2.block)))
        (passes_then c (passes_conv (promote ty) _ (past_new old) (omega (arith, g1.block, g2.block)))
        (passes_then c (passes_put c _ one (past_new one) refl (omega (arith, g2.block))) (passes_update y ty _ _ _ _ _ (past_new one) lt))))
    passes_expr y (tree.Call ty g es) n lt =
        let behind = arguments_past es n in
        let e : (result_past ty behind).block ≡ behind.block = same_block ty behind in
        passes_then c (passes_arguments y es n (omega (arith, e))) (passes_put c _ behind _ e (omega (arith, e)))
    passes_expr y tree.GetChar n lt = passes_put c _ n _ refl lt
    passes_expr y (tree.PutChar e) n lt = passes_then c (passes_expr y e n (past_either (is_open e) _ _ lt)) (passes_put c _ _ _ refl lt)
    passes_expr y (tree.Exit e) n lt =
        passes_then c (passes_expr y e n (past_either (is_open e) _ _ (omega arith))) (passes_close c _ _ _ refl (omega arith))

    pub passes_place : {t : ℕ} {k : Code} (y : Layout) (p : Place) (n : Numbers) → (place_past p n).block < t
        → Passes c t n (place_code y p n k) (place_past p n) k
    passes_place {t} {k} y (tree.Scalar z) n lt = passes_none c t n k
    passes_place y (tree.Element a e) n lt = passes_expr y e n (past_either (is_open e) _ _ lt)

    pub passes_arguments : {t : ℕ} {k : Code} (y : Layout) (es : Arguments) (n : Numbers) → (arguments_past es n).block < t
        → Passes c t n (arguments_code y es n k) (arguments_past es n) k
    passes_arguments {t} {k} y tree.None n lt = passes_none c t n k
    passes_arguments y (tree.Argument e es) n lt =
        passes_then c (passes_expr y e n (past_either (is_open e) _ _ (omega (arith, (grow_arguments es (past e n)).block))))
        (passes_arguments y es (past e n) lt)
