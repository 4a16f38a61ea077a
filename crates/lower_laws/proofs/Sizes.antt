-- The size of a lowered routine is counted by its numbers.
use Rattle.std.proofs.Common.{◌≡◌, ℕ, suc, ◌+◌, List, [], ◌∷◌, Bool, true, false, Option, Some, None, length, refl, sym, ap, ◌∙◌, arith}
use Rattle.std.specs.List.{fold}
use Rattle.std.specs.Prelude.{if◌then◌else◌}
use Rattle.hlo_num.specs.declared.word.Ty.{Ty}
use Rattle.hlo_num.specs.Words.{is_narrow, promote}
use Rattle.il_core.specs.declared.instr.Block.{Block}
use Rattle.il_core.specs.declared.instr.End.{End}
use Rattle.il_core.specs.declared.instr.Instr.{Instr}
use Rattle.il_core.specs.Size.{block_size, blocks_size, size}
use Rattle.c_tree.specs.declared.expression.UnaryOp.{UnaryOp}
use Rattle.c_tree.specs.declared.expression.UnaryOp.TheVariants.{Plus, Minus, Complement, Not}
use Rattle.c_typed.specs.declared.expression.BinaryOp.{BinaryOp}
use Rattle.c_typed.specs.declared.statement.Label.{Label}
use Rattle.c_typed.specs.declared.statement.Label.TheVariants as labels
use Rattle.c_typed.specs.Expressions.{Spot}
use Rattle.c_typed.specs.Trees as tree
use Rattle.c_typed.specs.Trees.{Place, Expr, Arguments, Stmt, Sections, Function}
use Rattle.lower_laws.specs.Code.{Code, blocks_of, put, close, Numbers, past_reg, past_instr, past_end, past_new, past_label, label}
use Rattle.lower_laws.specs.Expressions.{result_past, arm_past, arm_code, arm_open, past, place_past, arguments_past, code, place_code, arguments_code}
use Rattle.lower_laws.specs.Functions.{layout_of, first_numbers, body_past, last_numbers, last_code, nowhere, lowered}
use Rattle.lower_laws.specs.Layouts.{Layout}
use Rattle.lower_laws.specs.Operations.{conv_past, conv_code, unary_past, unary_code, update_past, update_code}
use Rattle.lower_laws.specs.Statements.{optional_past, optional_open, optional_code, condition_past, condition_code, no_value_past, no_value_code}
use Rattle.lower_laws.specs.Statements.{local_past, open_behind, sections_open, stmt_past, sections_past, tests_code, stmt_code, sections_code}
use Rattle.lower_laws.specs.Switches.{labels_past, labels_code, label_tests_past, tests_past, label_tests}

-- the size of blocks, from the front
abbrev total : List Block → ℕ
total [] = 0
total (b ∷ bs) = suc (length b.instrs) + total bs

total_from : (bs : List Block) (n : ℕ) → fold (λ a b. a + block_size b) n bs ≡ n + total bs
total_from [] n = omega arith
total_from (b ∷ bs) n = total_from bs (n + block_size b) ∙ added n (length b.instrs) (total bs)
  where
    added : (n l t : ℕ) → n + (l + 1) + t ≡ n + (suc l + t)
    added n l t = omega arith

total_is : (bs : List Block) → blocks_size bs ≡ total bs
total_is bs = total_from bs 0 ∙ zero_plus (total bs)
  where
    zero_plus : (n : ℕ) → 0 + n ≡ n
    zero_plus n = omega arith

-- what stands behind the second place and before it, and behind the first and before that, is as large, and has as many
-- blocks
pub record Sized (n : Numbers) (k : Code) (n1 : Numbers) (k1 : Code) : Type 0 where
  pub by : total (blocks_of k) + n.size ≡ total (blocks_of k1) + n1.size
  pub blocks : length k.later + n.block ≡ length k1.later + n1.block

both : {n n1 n2 : Numbers} {k k1 k2 : Code} → Sized n k n1 k1 → Sized n1 k1 n2 k2 → Sized n k n2 k2
both p q = record { by = p.by ∙ q.by; blocks = p.blocks ∙ q.blocks }

same : {k : Code} (n n1 : Numbers) → (n1.size ≡ n.size) × (n1.block ≡ n.block) → Sized n k n1 k
same {k} n n1 e = record { by = ap (λ x. total (blocks_of k) + x) (sym e.0); blocks = ap (λ x. length k.later + x) (sym e.1) }

instr_sized : {k : Code} (i : Instr) (n n1 : Numbers) → (n1.size ≡ suc n.size) × (n1.block ≡ n.block) → Sized n (put i k) n1 k
instr_sized {k} i n n1 e = record { by = omega (arith, e.0); blocks = omega (arith, e.1) }

end_sized : {k : Code} (e : End) (n n1 : Numbers) → (n1.size ≡ suc n.size) × (n1.block ≡ suc n.block) → Sized n (close e k) n1 k
end_sized {k} e n n1 is = record { by = omega (arith, is.0); blocks = omega (arith, is.1) }

sized_if : {k : Code} (opened : Bool) (i : Instr) (n : Numbers) → Sized n (if opened then put i k else k) (if opened then past_new n else n) k
sized_if true i n = instr_sized i n (past_new n) (refl, refl)
sized_if false i n = same n n (refl, refl)

sized_conv : {k : Code} (t : Ty) (r : ℕ) (n : Numbers) → Sized n (conv_code t r n k) (conv_past t n) k
sized_conv t r n = sized_if (is_narrow t) _ n

sized_unary : {k : Code} (o : UnaryOp) (t : Ty) (r : ℕ) (n : Numbers) → Sized n (unary_code o t r n k) (unary_past o n) k
sized_unary Plus t r n = same n n (refl, refl)
sized_unary Minus t r n = both (instr_sized _ n (past_new n) (refl, refl)) (instr_sized _ (past_new n) _ (refl, refl))
sized_unary Complement t r n = both (instr_sized _ n (past_new n) (refl, refl)) (instr_sized _ (past_new n) _ (refl, refl))
sized_unary Not t r n = both (instr_sized _ n (past_new n) (refl, refl)) (instr_sized _ (past_new n) _ (refl, refl))

sized_update : {k : Code} (y : Layout) (t : Ty) (o : BinaryOp) (u : Ty) (p : Spot) (old v : ℕ) (n : Numbers)
    → Sized n (update_code y t o u p old v n k) (update_past t n) k
sized_update y t o u p old v n = both (instr_sized _ n (past_new n) (refl, refl)) (both (sized_conv t n.reg (past_new n)) (instr_sized _ _ _ (refl, refl)))

sized_label : {k : Code} (opened : Bool) (n : Numbers) → Sized n (label opened n k) (past_label opened n) k
sized_label true n = end_sized _ n _ (refl, refl)
sized_label false n = same n n (refl, refl)

result_same : (t : Option Ty) (n : Numbers) → ((result_past t n).size ≡ n.size) × ((result_past t n).block ≡ n.block)
result_same None n = (refl, refl)
result_same (Some t) n = (refl, refl)

sized_arm : {k : Code} (t : Option Ty) (d r : ℕ) (n : Numbers) → Sized n (arm_code t d r k) (arm_past t n) k
sized_arm None d r n = same n n (refl, refl)
sized_arm (Some t) d r n = instr_sized _ n _ (refl, refl)

mutual
  sized_expr : {k : Code} (y : Layout) (e : Expr) (n : Numbers) → Sized n (code y e n k) (past e n) k
  sized_expr y (tree.Constant t v) n = instr_sized _ n _ (refl, refl)
  sized_expr y (tree.Read t p) n = both (sized_place y p n) (instr_sized _ _ _ (refl, refl))
  sized_expr y (tree.Convert t e) n = both (sized_expr y e n) (sized_conv t _ _)
  sized_expr y (tree.Discard e) n = sized_expr y e n
  sized_expr y (tree.Unary t o e) n = both (sized_expr y e n) (sized_unary o t _ _)
  sized_expr y (tree.Binary t o a b) n = both (sized_expr y a n) (both (sized_expr y b _) (instr_sized _ _ _ (refl, refl)))
  sized_expr y (tree.Logical o a b) n =
      let n1 = past a n in
      let n2 = past_end (past_reg n1) in
      let n3 = past b n2 in
      let n4 = past_end (past_instr (past_new n3)) in
      both (sized_expr y a n) (both (end_sized _ n1 n2 (refl, refl)) (both (sized_expr y b n2)
      (both (instr_sized _ n3 (past_new n3) (refl, refl)) (both (instr_sized _ (past_new n3) (past_instr (past_new n3)) (refl, refl))
      (both (end_sized _ (past_instr (past_new n3)) n4 (refl, refl)) (both (instr_sized _ n4 (past_instr n4) (refl, refl))
      (end_sized _ (past_instr n4) _ (refl, refl))))))))
  sized_expr y (tree.Conditional t d a b) n =
      let n1 = past d n in
      let n2 = past_end (result_past t n1) in
      let n3 = past_end (arm_past t (past a n2)) in
      both (sized_expr y d n) (both (end_sized _ n1 n2 (ap suc (result_same t n1).0, ap suc (result_same t n1).1))
      (both (sized_expr y a n2) (both (sized_arm t _ _ _) (both (end_sized _ _ n3 (refl, refl))
      (both (sized_expr y b n3) (both (sized_arm t _ _ _) (sized_label (arm_open t b) _)))))))
  sized_expr y (tree.Comma t a b) n = both (sized_expr y a n) (sized_expr y b _)
  sized_expr y (tree.Assign t p e) n = both (sized_place y p n) (both (sized_expr y e _) (instr_sized _ _ _ (refl, refl)))
  sized_expr y (tree.Compound t o u p e) n = both (sized_place y p n) (both (instr_sized _ _ _ (refl, refl))
      (both (sized_conv u _ _) (both (sized_expr y e _) (sized_update y t o u _ _ _ _))))
  sized_expr y (tree.Prefix t d p) n = both (sized_place y p n) (both (instr_sized _ _ _ (refl, refl))
      (both (sized_conv (promote t) _ _) (both (instr_sized _ _ _ (refl, refl)) (sized_update y t _ _ _ _ _ _))))
  sized_expr y (tree.Postfix t d p) n = both (sized_place y p n) (both (instr_sized _ _ _ (refl, refl))
      (both (sized_conv (promote t) _ _) (both (instr_sized _ _ _ (refl, refl)) (sized_update y t _ _ _ _ _ _))))
  sized_expr y (tree.Call t g es) n = both (sized_arguments y es n) (instr_sized _ _ _
      (ap suc (result_same t (arguments_past es n)).0, (result_same t (arguments_past es n)).1))
  sized_expr y tree.GetChar n = instr_sized _ n _ (refl, refl)
  sized_expr y (tree.PutChar e) n = both (sized_expr y e n) (instr_sized _ _ _ (refl, refl))
  sized_expr y (tree.Exit e) n = both (sized_expr y e n) (end_sized _ _ _ (refl, refl))

  sized_place : {k : Code} (y : Layout) (p : Place) (n : Numbers) → Sized n (place_code y p n k) (place_past p n) k
  sized_place y (tree.Scalar z) n = same n n (refl, refl)
  sized_place y (tree.Element a e) n = sized_expr y e n

  sized_arguments : {k : Code} (y : Layout) (es : Arguments) (n : Numbers) → Sized n (arguments_code y es n k) (arguments_past es n) k
  sized_arguments y tree.None n = same n n (refl, refl)
  sized_arguments y (tree.Argument e es) n = both (sized_expr y e n) (sized_arguments y es _)

sized_optional : {k : Code} (y : Layout) (e : Option Expr) (n : Numbers) → Sized n (optional_code y e n k) (optional_past e n) k
sized_optional y None n = same n n (refl, refl)
sized_optional y (Some e) n = sized_expr y e n

sized_condition : {k : Code} (y : Layout) (e : Option Expr) (n : Numbers) (a opened : ℕ) → Sized n (condition_code y e n a opened k) (condition_past e n) k
sized_condition y None n a opened = end_sized _ n _ (refl, refl)
sized_condition y (Some e) n a opened = both (sized_expr y e n) (end_sized _ _ _ (refl, refl))

sized_labels : {k : Code} (ls : List Label) (opened : Bool) (n : Numbers) → Sized n (labels_code ls opened n k) (labels_past ls opened n) k
sized_labels [] opened n = same n n (refl, refl)
sized_labels (l ∷ ls) opened n = both (sized_label opened n) (sized_labels ls true _)

sized_label_tests : {k : Code} (z : ℕ) (ls : List Label) (opened : Bool) (there n : Numbers)
    → Sized n (label_tests z ls opened there n k) (label_tests_past ls n) k
sized_label_tests z [] opened there n = same n n (refl, refl)
sized_label_tests z (labels.Case v ∷ ls) opened there n = both (instr_sized _ n (past_new n) (refl, refl))
    (both (instr_sized _ (past_new n) (past_new (past_new n)) (refl, refl))
    (both (end_sized _ (past_new (past_new n)) _ (refl, refl)) (sized_label_tests z ls true _ _)))
sized_label_tests z (labels.Default ∷ ls) opened there n = sized_label_tests z ls true _ n

sized_tests : {k : Code} (y : Layout) (z : ℕ) (ss : Sections) (opened : Bool) (there n : Numbers)
    → Sized n (tests_code y z ss opened there n k) (tests_past ss n) k
sized_tests y z tree.End opened there n = same n n (refl, refl)
sized_tests y z (tree.Section ls s rest) opened there n = both (sized_label_tests z ls opened there n) (sized_tests y z rest _ _ _)

sized_no_value : {k : Code} (v : Bool) (n : Numbers) → Sized n (no_value_code v n k) (no_value_past v n) k
sized_no_value false n = end_sized _ n _ (refl, refl)
sized_no_value true n = both (instr_sized _ n (past_new n) (refl, refl)) (end_sized _ (past_new n) _ (refl, refl))

-- a local takes no block
pub local_same : (a : Bool) (n : Numbers) → ((local_past a n).size ≡ n.size) × ((local_past a n).block ≡ n.block)
local_same true n = (refl, refl)
local_same false n = (refl, refl)

mutual
  sized_stmt : {k : Code} (y : Layout) (p q : End) (s : Stmt) (opened : Bool) (n : Numbers)
      → Sized n (stmt_code y p q s opened n k) (stmt_past y.outline s opened n) k
  sized_stmt y p q tree.Empty opened n = same n n (refl, refl)
  sized_stmt y p q (tree.Sequence s t) opened n = both (sized_stmt y p q s opened n) (sized_stmt y p q t _ _)
  sized_stmt y p q (tree.Declaration z None) opened n = same n _ (local_same (y.outline.is_array z) n)
  sized_stmt y p q (tree.Declaration z (Some e)) opened n = both (same n _ (local_same (y.outline.is_array z) n))
      (both (sized_expr y e _) (instr_sized _ _ _ (refl, refl)))
  sized_stmt y p q (tree.Expression e) opened n = sized_expr y e n
  sized_stmt y p q (tree.If e s) opened n = both (sized_expr y e n) (both (end_sized _ _ _ (refl, refl))
      (both (sized_stmt y p q s true _) (sized_label (open_behind s true) _)))
  sized_stmt y p q (tree.IfElse e s t) opened n = both (sized_expr y e n)
      (both (end_sized _ _ _ (refl, refl)) (both (sized_stmt y p q s true _) (both (end_sized _ _ _ (refl, refl))
      (both (sized_stmt y p q t true _) (sized_label (open_behind t true) _)))))
  sized_stmt y p q (tree.Switch e ss) opened n = both (sized_expr y e n)
      (both (sized_tests y _ ss false _ _) (both (end_sized _ _ _ (refl, refl))
      (both (sized_sections y _ q ss false _) (sized_label (sections_open ss false) _))))
  sized_stmt y p q (tree.While e s) opened n = both (sized_label opened n)
      (both (sized_expr y e _) (both (end_sized _ _ _ (refl, refl)) (both (sized_stmt y _ _ s true _) (end_sized _ _ _ (refl, refl)))))
  sized_stmt y p q (tree.Do s e) opened n = both (sized_label opened n)
      (both (sized_stmt y _ _ s true _) (both (sized_label (open_behind s true) _)
      (both (sized_expr y e _) (both (end_sized _ _ (past_end (past e (past_label (open_behind s true)
      (stmt_past y.outline s true (past_label opened n))))) (refl, refl)) (end_sized _ _ _ (refl, refl))))))
  sized_stmt y p q (tree.For f e d s) opened n = both (sized_optional y f n)
      (both (sized_label (optional_open f opened) _) (both (sized_condition y e _ _ _)
      (both (sized_stmt y _ _ s true _) (both (sized_label (open_behind s true) _) (both (sized_optional y d _) (end_sized _ _ _ (refl, refl)))))))
  sized_stmt y p q tree.Break opened n = end_sized p n _ (refl, refl)
  sized_stmt y p q tree.Continue opened n = end_sized q n _ (refl, refl)
  sized_stmt y p q (tree.Return None) opened n = sized_no_value y.outline.value n
  sized_stmt y p q (tree.Return (Some e)) opened n = both (sized_expr y e n) (end_sized _ _ _ (refl, refl))

  sized_sections : {k : Code} (y : Layout) (p q : End) (ss : Sections) (opened : Bool) (n : Numbers)
      → Sized n (sections_code y p q ss opened n k) (sections_past y.outline ss opened n) k
  sized_sections y p q tree.End opened n = same n n (refl, refl)
  sized_sections y p q (tree.Section ls s rest) opened n = both (sized_labels ls opened n) (both (sized_stmt y p q s _ _) (sized_sections y p q rest _ _))

tail_size : (v : Bool) (n : Numbers) → total (blocks_of (last_code v n)) + n.size ≡ (no_value_past v n).size
tail_size false n = omega arith
tail_size true n = omega arith

-- a lowered routine has one block more than the number of the last one
pub blocks_are_numbers : (entry : ℕ) (count : ℕ → ℕ) (f : Function) → length (lowered entry count f).blocks ≡ suc (body_past f).block
blocks_are_numbers entry count f =
    let y = layout_of count f in
    let v = y.outline.value in
    let h = sized_stmt {k = last_code v (body_past f)} y (nowhere f) (nowhere f) f.body true (first_numbers f) in
    omega (arith, h.blocks, no_later v (body_past f))
  where
    no_later : (v : Bool) (n : Numbers) → length (last_code v n).later ≡ 0
    no_later false n = refl
    no_later true n = refl

-- the size of a lowered routine
pub sizes_are_numbers : (entry : ℕ) (count : ℕ → ℕ) (f : Function) → size (lowered entry count f) ≡ (last_numbers f).size
sizes_are_numbers entry count f =
    let y = layout_of count f in
    let h = sized_stmt {k = last_code y.outline.value (body_past f)} y (nowhere f) (nowhere f) f.body true (first_numbers f) in
    total_is (lowered entry count f).blocks ∙ omega (arith, h.by, tail_size y.outline.value (body_past f))
