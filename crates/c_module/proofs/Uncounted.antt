-- Counts are no matter of limits: the code of a function keeps the limits with the counts of one profile where it does with
-- those of another.
use Rattle.std.proofs.Common.{ℕ, ◌≤◌, List, [], ◌∷◌, Bool, true, false, Option, Some, None, sym, ◌∙◌, subst}
use Rattle.std.specs.List.{AllByRecursion}
use Rattle.std.specs.Prelude.{if◌then◌else◌}
use Rattle.hlo_num.specs.declared.word.Ty.{Ty}
use Rattle.hlo_num.specs.Words.{is_narrow, promote}
use Rattle.il_core.specs.declared.instr.End.{End}
use Rattle.il_core.specs.declared.instr.Instr.{Instr}
use Rattle.il_core.specs.Limits.{IsBlock, IsInstr, IsWithinLimits, max_size}
use Rattle.c_tree.specs.declared.expression.UnaryOp.{UnaryOp}
use Rattle.c_tree.specs.declared.expression.UnaryOp.TheVariants.{Plus, Minus, Complement, Not}
use Rattle.c_typed.specs.declared.expression.Array.TheVariants as arrays
use Rattle.c_typed.specs.declared.expression.BinaryOp.{BinaryOp}
use Rattle.c_typed.specs.declared.expression.Variable.TheVariants as variables
use Rattle.c_typed.specs.declared.statement.Label.{Label}
use Rattle.c_typed.specs.declared.statement.Label.TheVariants as labels
use Rattle.c_typed.specs.Expressions.{Spot, Whole, Part}
use Rattle.c_typed.specs.Trees as tree
use Rattle.c_typed.specs.Trees.{Place, Expr, Arguments, Stmt, Sections, Function}
use Rattle.c_lower.specs.Lowering.{routine_of, entry_of, sites_of}
use Rattle.lower_laws.specs.Code.{Code, blocks_of, put, close, Numbers, past_new, label}
use Rattle.lower_laws.specs.Expressions.{arm_code, arm_open, past, place_past, result, code, place_code, arguments_code}
use Rattle.lower_laws.specs.Functions.{layout_of, first_numbers, body_past, last_code, nowhere, lowered}
use Rattle.lower_laws.specs.Laws.{SizesAreNumbers}
use Rattle.lower_laws.specs.Layouts.{Layout}
use Rattle.lower_laws.specs.Operations.{load, store, conv_past, unary_code, update_code}
use Rattle.lower_laws.specs.Statements.{optional_open, optional_code, condition_code, no_value_code, local_past, open_behind, sections_open, tests_code}
use Rattle.lower_laws.specs.Statements.{stmt_code, sections_code}
use Rattle.lower_laws.specs.Switches.{labels_code, label_tests}
use Rattle.c_module.specs.Appending.{CountsAreNoLimits}
use Rattle.c_module.specs.Limits.{KeepsLimits}

-- where the blocks of the first keep the limits, those of the second do
record Carries (k l : Code) : Type 0 where
  pub on : AllByRecursion IsBlock (blocks_of k) → AllByRecursion IsBlock (blocks_of l)

nothing_changes : (k : Code) → Carries k k
nothing_changes k = record { on = λ h. h }

instr_carries : {k l : Code} (i j : Instr) → (IsInstr i → IsInstr j) → Carries k l → Carries (put i k) (put j l)
instr_carries i j f g = record { on = λ h. ((f h.0.0, (g.on (h.0.1, h.1)).0), (g.on (h.0.1, h.1)).1) }

put_carries : {k l : Code} (i : Instr) → Carries k l → Carries (put i k) (put i l)
put_carries i g = instr_carries i i (λ x. x) g

end_carries : {k l : Code} (e : End) → Carries k l → Carries (close e k) (close e l)
end_carries e g = record { on = λ h. (tt, g.on h.1) }

if_carries : {k l : Code} (opened : Bool) (i : Instr) → Carries k l → Carries (if opened then put i k else k) (if opened then put i l else l)
if_carries true i g = put_carries i g
if_carries false i g = g

unary_carries : {k l : Code} (o : UnaryOp) (t : Ty) (r : ℕ) (n : Numbers) → Carries k l → Carries (unary_code o t r n k) (unary_code o t r n l)
unary_carries Plus t r n g = g
unary_carries Minus t r n g = put_carries _ (put_carries _ g)
unary_carries Complement t r n g = put_carries _ (put_carries _ g)
unary_carries Not t r n g = put_carries _ (put_carries _ g)

label_carries : {k l : Code} (opened : Bool) (n : Numbers) → Carries k l → Carries (label opened n k) (label opened n l)
label_carries true n g = end_carries _ g
label_carries false n g = g

arm_carries : {k l : Code} (t : Option Ty) (d r : ℕ) → Carries k l → Carries (arm_code t d r k) (arm_code t d r l)
arm_carries None d r g = g
arm_carries (Some t) d r g = put_carries _ g

labels_carry : {k l : Code} (ls : List Label) (opened : Bool) (n : Numbers) → Carries k l → Carries (labels_code ls opened n k) (labels_code ls opened n l)
labels_carry [] opened n g = g
labels_carry (x ∷ ls) opened n g = label_carries opened n (labels_carry ls true _ g)

label_tests_carry : {k l : Code} (z : ℕ) (ls : List Label) (opened : Bool) (there n : Numbers) → Carries k l
    → Carries (label_tests z ls opened there n k) (label_tests z ls opened there n l)
label_tests_carry z [] opened there n g = g
label_tests_carry z (labels.Case v ∷ ls) opened there n g = put_carries _ (put_carries _ (end_carries _ (label_tests_carry z ls true _ _ g)))
label_tests_carry z (labels.Default ∷ ls) opened there n g = label_tests_carry z ls true _ n g

no_value_carries : {k l : Code} (v : Bool) (n : Numbers) → Carries k l → Carries (no_value_code v n k) (no_value_code v n l)
no_value_carries false n g = end_carries _ g
no_value_carries true n g = put_carries _ (end_carries _ g)

-- a layout, and the same with other counts
module _ (y : Layout) (count : ℕ → ℕ) where
  abbrev other : Layout
  other = record y { count = count }

  load_same : (s : Spot) (d : ℕ) → IsInstr (load y s d) → IsInstr (load other s d)
  load_same (Whole (variables.Parameter x)) d h = h
  load_same (Whole (variables.Local x)) d h = h
  load_same (Whole (variables.Object g)) d h = h
  load_same (Part (arrays.Local a) i) d h = h
  load_same (Part (arrays.Object g) i) d h = h

  store_same : (s : Spot) (r : ℕ) → IsInstr (store y s r) → IsInstr (store other s r)
  store_same (Whole (variables.Parameter x)) r h = h
  store_same (Whole (variables.Local x)) r h = h
  store_same (Whole (variables.Object g)) r h = h
  store_same (Part (arrays.Local a) i) r h = h
  store_same (Part (arrays.Object g) i) r h = h

  load_carries : {k l : Code} (s : Spot) (d : ℕ) → Carries k l → Carries (put (load y s d) k) (put (load other s d) l)
  load_carries s d g = instr_carries _ _ (load_same s d) g

  store_carries : {k l : Code} (s : Spot) (r : ℕ) → Carries k l → Carries (put (store y s r) k) (put (store other s r) l)
  store_carries s r g = instr_carries _ _ (store_same s r) g

  update_carries : {k l : Code} (t : Ty) (o : BinaryOp) (u : Ty) (s : Spot) (old v : ℕ) (n : Numbers) → Carries k l
      → Carries (update_code y t o u s old v n k) (update_code other t o u s old v n l)
  update_carries t o u s old v n g = put_carries _ (if_carries (is_narrow t) _ (store_carries s _ g))

  mutual
    expr_carries : {k l : Code} (e : Expr) (n : Numbers) → Carries k l → Carries (code y e n k) (code other e n l)
    expr_carries (tree.Constant t v) n g = put_carries _ g
    expr_carries (tree.Read t p) n g = place_carries p n (load_carries _ _ g)
    expr_carries (tree.Convert t e) n g = expr_carries e n (if_carries (is_narrow t) _ g)
    expr_carries (tree.Discard e) n g = expr_carries e n g
    expr_carries (tree.Unary t o e) n g = expr_carries e n (unary_carries o t _ _ g)
    expr_carries (tree.Binary t o a b) n g = expr_carries a n (expr_carries b _ (put_carries _ g))
    expr_carries (tree.Logical o a b) n g =
        expr_carries a n (end_carries _ (expr_carries b _ (put_carries _ (put_carries _ (end_carries _ (put_carries _ (end_carries _ g)))))))
    expr_carries (tree.Conditional t c a b) n g =
        expr_carries c n (end_carries _ (expr_carries a _
        (arm_carries t _ _ (end_carries _ (expr_carries b _ (arm_carries t _ _ (label_carries (arm_open t b) _ g)))))))
    expr_carries (tree.Comma t a b) n g = expr_carries a n (expr_carries b _ g)
    expr_carries (tree.Assign t p e) n g = place_carries p n (expr_carries e _ (store_carries _ _ g))
    expr_carries (tree.Compound t o u p e) n g =
        place_carries p n (load_carries _ _ (if_carries (is_narrow u) _
        (expr_carries e _ (update_carries t o u _ _ _ (past e (conv_past u (past_new (place_past p n)))) g))))
    expr_carries (tree.Prefix t d p) n g =
        place_carries p n (load_carries _ _ (if_carries (is_narrow (promote t)) _
        (put_carries _ (update_carries t _ (promote t) _ _ _ (past_new (conv_past (promote t) (past_new (place_past p n)))) g))))
    expr_carries (tree.Postfix t d p) n g =
        place_carries p n (load_carries _ _ (if_carries (is_narrow (promote t)) _
        (put_carries _ (update_carries t _ (promote t) _ _ _ (past_new (conv_past (promote t) (past_new (place_past p n)))) g))))
    expr_carries (tree.Call t f es) n g = arguments_carry es n (instr_carries _ _ (λ x. x) g)
    expr_carries tree.GetChar n g = put_carries _ g
    expr_carries (tree.PutChar e) n g = expr_carries e n (put_carries _ g)
    expr_carries (tree.Exit e) n g = expr_carries e n (end_carries _ g)

    place_carries : {k l : Code} (p : Place) (n : Numbers) → Carries k l → Carries (place_code y p n k) (place_code other p n l)
    place_carries (tree.Scalar z) n g = g
    place_carries (tree.Element a e) n g = expr_carries e n g

    arguments_carry : {k l : Code} (es : Arguments) (n : Numbers) → Carries k l → Carries (arguments_code y es n k) (arguments_code other es n l)
    arguments_carry tree.None n g = g
    arguments_carry (tree.Argument e es) n g = expr_carries e n (arguments_carry es _ g)

  optional_carries : {k l : Code} (e : Option Expr) (n : Numbers) → Carries k l → Carries (optional_code y e n k) (optional_code other e n l)
  optional_carries None n g = g
  optional_carries (Some e) n g = expr_carries e n g

  condition_carries : {k l : Code} (e : Option Expr) (n : Numbers) (a b : ℕ) → Carries k l
      → Carries (condition_code y e n a b k) (condition_code other e n a b l)
  condition_carries None n a b g = end_carries _ g
  condition_carries (Some e) n a b g = expr_carries e n (end_carries _ g)

  tests_carry : {k l : Code} (x : ℕ) (ss : Sections) (opened : Bool) (there n : Numbers) → Carries k l
      → Carries (tests_code y x ss opened there n k) (tests_code other x ss opened there n l)
  tests_carry x tree.End opened there n g = g
  tests_carry x (tree.Section ls s rest) opened there n g = label_tests_carry x ls opened there n (tests_carry x rest _ _ _ g)

  mutual
    stmt_carries : {k l : Code} (p q : End) (s : Stmt) (opened : Bool) (n : Numbers) → Carries k l
        → Carries (stmt_code y p q s opened n k) (stmt_code other p q s opened n l)
    stmt_carries p q tree.Empty opened n g = g
    stmt_carries p q (tree.Sequence s t) opened n g = stmt_carries p q s opened n (stmt_carries p q t _ _ g)
    stmt_carries p q (tree.Declaration x None) opened n g = g
    stmt_carries p q (tree.Declaration x (Some e)) opened n g =
        let value = local_past (y.outline.is_array x) n in
        expr_carries e value (store_carries (Whole (variables.Local x)) (result e value) g)
    stmt_carries p q (tree.Expression e) opened n g = expr_carries e n g
    stmt_carries p q (tree.If e s) opened n g = expr_carries e n (end_carries _ (stmt_carries p q s true _ (label_carries (open_behind s true) _ g)))
    stmt_carries p q (tree.IfElse e s t) opened n g =
        expr_carries e n (end_carries _ (stmt_carries p q s true _ (end_carries _ (stmt_carries p q t true _ (label_carries (open_behind t true) _ g)))))
    stmt_carries p q (tree.Switch e ss) opened n g =
        expr_carries e n (tests_carry _ ss false _ _ (end_carries _ (sections_carry _ q ss false _ (label_carries (sections_open ss false) _ g))))
    stmt_carries p q (tree.While e s) opened n g =
        label_carries opened n (expr_carries e _ (end_carries _ (stmt_carries _ _ s true _ (end_carries _ g))))
    stmt_carries p q (tree.Do s e) opened n g =
        label_carries opened n (stmt_carries _ _ s true _ (label_carries (open_behind s true) _ (expr_carries e _ (end_carries _ (end_carries _ g)))))
    stmt_carries p q (tree.For a b c s) opened n g =
        optional_carries a n (label_carries (optional_open a opened) _ (condition_carries b _ _ _ (stmt_carries _ _ s true _
        (label_carries (open_behind s true) _ (optional_carries c _ (end_carries _ g))))))
    stmt_carries p q tree.Break opened n g = end_carries p g
    stmt_carries p q tree.Continue opened n g = end_carries q g
    stmt_carries p q (tree.Return None) opened n g = no_value_carries y.outline.value n g
    stmt_carries p q (tree.Return (Some e)) opened n g = expr_carries e n (end_carries _ g)

    sections_carry : {k l : Code} (p q : End) (ss : Sections) (opened : Bool) (n : Numbers) → Carries k l
        → Carries (sections_code y p q ss opened n k) (sections_code other p q ss opened n l)
    sections_carry p q tree.End opened n g = g
    sections_carry p q (tree.Section ls s rest) opened n g = labels_carry ls opened n (stmt_carries p q s _ _ (sections_carry p q rest _ _ g))

-- a routine keeps the limits with other counts
kept_with : SizesAreNumbers → (a b : ℕ) (c d : ℕ → ℕ) (f : Function) → IsWithinLimits (lowered a c f) → IsWithinLimits (lowered b d f)
kept_with sizes a b c d f h =
    let y = layout_of c f in
    let whole = stmt_carries y d (nowhere f) (nowhere f) f.body true (first_numbers f) (nothing_changes (last_code y.outline.value (body_past f))) in
    record {
      pid = h.pid;
      params = h.params;
      regs = h.regs;
      arrays = h.arrays;
      elements = h.elements;
      size = subst (λ s. s ≤ max_size) (sizes a c f ∙ sym (sizes b d f)) h.size;
      instrs = whole.on h.instrs;
    }

pub counts_are_no_limits : SizesAreNumbers → CountsAreNoLimits
unfolding KeepsLimits routine_of
counts_are_no_limits sizes syms counts f = (
  kept_with sizes 1 (entry_of syms counts f.pid) (λ site. 1) (sites_of syms counts f.pid) f,
  kept_with sizes (entry_of syms counts f.pid) 1 (sites_of syms counts f.pid) (λ site. 1) f,
)
