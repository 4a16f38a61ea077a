-- A basic block that comes later is found behind the code of a statement.
use Rattle.std.proofs.Common.{◌≡◌, ℕ, ◌<◌, ◌≤◌, List, [], ◌∷◌, Bool, true, false, Option, Some, None, refl, sym, ap, arith}
use Rattle.il_core.specs.declared.instr.End.{End}
use Rattle.c_typed.specs.declared.statement.Label.{Label}
use Rattle.c_typed.specs.declared.statement.Label.TheVariants as labels
use Rattle.c_typed.specs.Trees as tree
use Rattle.c_typed.specs.Trees.{Expr, Stmt, Sections}
use Rattle.lower_laws.specs.Code.{Code, Numbers, past_end, past_new, past_label, label}
use Rattle.lower_laws.specs.Expressions.{is_open, past}
use Rattle.lower_laws.specs.Layouts.{Layout}
use Rattle.lower_laws.specs.Statements.{optional_past, optional_open, optional_code, condition_past, condition_code, no_value_past, no_value_code}
use Rattle.lower_laws.specs.Statements.{local_past, open_behind, sections_open, stmt_past, sections_past, tests_code, stmt_code, sections_code}
use Rattle.lower_laws.specs.Switches.{labels_past, labels_open, labels_code, test_past, label_tests_past, tests_past, label_tests}
use Rattle.lower_laws.proofs.Coming.{Setting, from, Passes, passes_none, passes_then, passes_put, passes_close, passes_label}
use Rattle.lower_laws.proofs.Growing.{grow, grow_label}
use Rattle.lower_laws.proofs.Passing.{IsPast, past_either, passes_expr}
use Rattle.lower_laws.proofs.StatementsGrow.{grow_optional, grow_condition, grow_label_tests, grow_tests, grow_stmt, grow_sections, past_row}
use Rattle.lower_laws.proofs.StatementsGrow.{past_labels, past_stmt, past_sections}

module _ {S : Type 0} (c : Setting S) where
  pub passes_labels : {t : ℕ} {k : Code} (ls : List Label) (opened : Bool) (n : Numbers)
      → IsPast (labels_open ls opened) (labels_past ls opened n).block t → Passes c t n (labels_code ls opened n k) (labels_past ls opened n) k
  passes_labels {t} {k} [] opened n h = passes_none c t n k
  passes_labels {t} (l ∷ ls) opened n h =
      passes_then c (passes_label c opened n (omega (arith, past_labels ls true (past_label opened n) t (past_row ls h))))
      (passes_labels ls true (past_label opened n) (past_row ls h))

  pub passes_optional : {t : ℕ} {k : Code} (y : Layout) (e : Option Expr) (n : Numbers) → (optional_past e n).block < t
      → Passes c t n (optional_code y e n k) (optional_past e n) k
  passes_optional {t} {k} y None n lt = passes_none c t n k
  passes_optional y (Some e) n lt = passes_expr c y e n (past_either (is_open e) _ _ lt)

  -- the first part of `for`, with the label behind it
  pub passes_first : {t : ℕ} {k : Code} (y : Layout) (e : Option Expr) (opened : Bool) (n : Numbers)
      → (past_label (optional_open e opened) (optional_past e n)).block < t
      → Passes c t n (optional_code y e n (label (optional_open e opened) (optional_past e n) k)) (past_label (optional_open e opened) (optional_past e n)) k
  passes_first y None opened n lt = passes_label c opened n (omega arith)
  passes_first {t} y (Some e) opened n lt =
      passes_then c (passes_expr c y e n (past_either (is_open e) _ _ (omega (arith, (grow_label (is_open e) (past e n)).block))))
      (passes_label c (is_open e) (past e n) (omega arith))

  pub passes_condition : {t : ℕ} {k : Code} (y : Layout) (e : Option Expr) (n : Numbers) (a b : ℕ) → (condition_past e n).block ≤ t
      → Passes c t n (condition_code y e n a b k) (condition_past e n) k
  passes_condition y None n a b le = passes_close c _ n _ refl le
  passes_condition y (Some e) n a b le =
      passes_then c (passes_expr c y e n (past_either (is_open e) _ _ le)) (passes_close c _ (past e n) _ refl le)

  pub passes_label_tests : {t : ℕ} {k : Code} (z : ℕ) (ls : List Label) (opened : Bool) (there n : Numbers) → (label_tests_past ls n).block < t
      → Passes c t n (label_tests z ls opened there n k) (label_tests_past ls n) k
  passes_label_tests {t} {k} z [] opened there n lt = passes_none c t n k
  passes_label_tests z (labels.Case v ∷ ls) opened there n lt =
      let g = grow_label_tests ls (test_past n) in
      passes_then c (passes_put c _ n (past_new n) refl (omega (arith, g.block)))
      (passes_then c (passes_put c _ (past_new n) (past_new (past_new n)) refl (omega (arith, g.block)))
      (passes_then c (passes_close c _ (past_new (past_new n)) (test_past n) refl (omega (arith, g.block)))
      (passes_label_tests z ls true (past_label opened there) (test_past n) lt)))
  passes_label_tests z (labels.Default ∷ ls) opened there n lt = passes_label_tests z ls true (past_label opened there) n lt

  pub passes_tests : {t : ℕ} {k : Code} (y : Layout) (z : ℕ) (ss : Sections) (opened : Bool) (there n : Numbers) → (tests_past ss n).block < t
      → Passes c t n (tests_code y z ss opened there n k) (tests_past ss n) k
  passes_tests {t} {k} y z tree.End opened there n lt = passes_none c t n k
  passes_tests y z (tree.Section ls s rest) opened there n lt =
      passes_then c (passes_label_tests z ls opened there n (omega (arith, (grow_tests rest (label_tests_past ls n)).block)))
      (passes_tests y z rest _ _ (label_tests_past ls n) lt)

  passes_no_value : {t : ℕ} {k : Code} (v : Bool) (n : Numbers) → (no_value_past v n).block ≤ t
      → Passes c t n (no_value_code v n k) (no_value_past v n) k
  passes_no_value false n le = passes_close c _ n _ refl le
  passes_no_value true n le = passes_then c (passes_put c _ n (past_new n) refl le) (passes_close c _ (past_new n) _ refl le)

  passes_same : {t : ℕ} {k : Code} (n n1 : Numbers) → n1.block ≡ n.block → Passes c t n k n1 k
  passes_same {t} {k} n n1 e = record { by = λ f w. ap (λ z. from c k (record n { block = z }) t f w) (sym e) }

  pub local_block : (a : Bool) (n : Numbers) → (local_past a n).block ≡ n.block
  local_block true n = refl
  local_block false n = refl

  mutual
    pub passes_stmt : {t : ℕ} {k : Code} (y : Layout) (p q : End) (s : Stmt) (opened : Bool) (n : Numbers)
        → IsPast (open_behind s opened) (stmt_past y.outline s opened n).block t
        → Passes c t n (stmt_code y p q s opened n k) (stmt_past y.outline s opened n) k
    passes_stmt {t} {k} y p q tree.Empty opened n h = passes_none c t n k
    passes_stmt {t} y p q (tree.Sequence a b) opened n h =
        let n1 = stmt_past y.outline a opened n in
        passes_then c (passes_stmt y p q a opened n (past_stmt y.outline b (open_behind a opened) n1 t h))
        (passes_stmt y p q b (open_behind a opened) n1 h)
    passes_stmt y p q (tree.Declaration z None) opened n h = passes_same n _ (local_block (y.outline.is_array z) n)
    passes_stmt y p q (tree.Declaration z (Some e)) opened n h =
        let n1 = local_past (y.outline.is_array z) n in
        passes_then c (passes_same n n1 (local_block (y.outline.is_array z) n))
        (passes_then c (passes_expr c y e n1 (past_either (is_open e) _ _ h)) (passes_put c _ _ _ refl h))
    passes_stmt y p q (tree.Expression e) opened n h = passes_expr c y e n h
    passes_stmt y p q (tree.If e s) opened n h =
        let n1 = past_end (past e n) in
        let n2 = stmt_past y.outline s true n1 in
        let g1 = grow_stmt y.outline s true n1 in
        let g2 = grow_label (open_behind s true) n2 in
        passes_then c (passes_expr c y e n (past_either (is_open e) _ _ (omega (arith, g1.block, g2.block))))
        (passes_then c (passes_close c _ (past e n) n1 refl (omega (arith, g1.block, g2.block)))
        (passes_then c (passes_stmt y p q s true n1 (past_either (open_behind s true) _ _ (omega (arith, g2.block))))
        (passes_label c (open_behind s true) n2 (omega arith))))
    passes_stmt y p q (tree.IfElse e a b) opened n h =
        let n1 = past_end (past e n) in
        let n2 = stmt_past y.outline a true n1 in
        let n3 = stmt_past y.outline b true (past_end n2) in
        let g1 = grow_stmt y.outline a true n1 in
        let g2 = grow_stmt y.outline b true (past_end n2) in
        let g3 = grow_label (open_behind b true) n3 in
        passes_then c (passes_expr c y e n (past_either (is_open e) _ _ (omega (arith, g1.block, g2.block, g3.block))))
        (passes_then c (passes_close c _ (past e n) n1 refl (omega (arith, g1.block, g2.block, g3.block)))
        (passes_then c (passes_stmt y p q a true n1 (past_either (open_behind a true) _ _ (omega (arith, g2.block, g3.block))))
        (passes_then c (passes_close c _ n2 (past_end n2) refl (omega (arith, g2.block, g3.block)))
        (passes_then c (passes_stmt y p q b true (past_end n2) (past_either (open_behind b true) _ _ (omega (arith, g3.block))))
        (passes_label c (open_behind b true) n3 (omega arith))))))
    passes_stmt y p q (tree.Switch e ss) opened n h =
        let n1 = past e n in
        let nt = tests_past ss n1 in
        let n2 = past_end nt in
        let n3 = sections_past y.outline ss false n2 in
        let g1 = grow_tests ss n1 in
        let g2 = grow_sections y.outline ss false n2 in
        let g3 = grow_label (sections_open ss false) n3 in
        passes_then c (passes_expr c y e n (past_either (is_open e) _ _ (omega (arith, g1.block, g2.block, g3.block))))
        (passes_then c (passes_tests y _ ss false n2 n1 (omega (arith, g2.block, g3.block)))
        (passes_then c (passes_close c _ nt n2 refl (omega (arith, g2.block, g3.block)))
        (passes_then c (passes_sections y _ q ss false n2 (past_either (sections_open ss false) _ _ (omega (arith, g3.block))))
        (passes_label c (sections_open ss false) n3 (omega arith)))))
    passes_stmt y p q (tree.While e s) opened n h =
        let n1 = past_label opened n in
        let n2 = past_end (past e n1) in
        let g1 = grow e n1 in
        let g2 = grow_stmt y.outline s true n2 in
        passes_then c (passes_label c opened n (omega (arith, g1.block, g2.block)))
        (passes_then c (passes_expr c y e n1 (past_either (is_open e) _ _ (omega (arith, g2.block))))
        (passes_then c (passes_close c _ (past e n1) n2 refl (omega (arith, g2.block)))
        (passes_then c (passes_stmt y _ _ s true n2 (past_either (open_behind s true) _ _ (omega arith)))
        (passes_close c _ (stmt_past y.outline s true n2) _ refl (omega arith)))))
    passes_stmt y p q (tree.Do s e) opened n h =
        let n1 = past_label opened n in
        let n2 = stmt_past y.outline s true n1 in
        let n3 = past_label (open_behind s true) n2 in
        let n4 = past_end (past e n3) in
        let g1 = grow_stmt y.outline s true n1 in
        let g2 = grow_label (open_behind s true) n2 in
        let g3 = grow e n3 in
        passes_then c (passes_label c opened n (omega (arith, g1.block, g2.block, g3.block)))
        (passes_then c (passes_stmt y _ _ s true n1 (past_either (open_behind s true) _ _ (omega (arith, g2.block, g3.block))))
        (passes_then c (passes_label c (open_behind s true) n2 (omega (arith, g3.block)))
        (passes_then c (passes_expr c y e n3 (past_either (is_open e) _ _ (omega arith)))
        (passes_then c (passes_close c _ (past e n3) n4 refl (omega arith)) (passes_close c _ n4 (past_end n4) refl (omega arith))))))
    passes_stmt y p q (tree.For a b d s) opened n h =
        let n0 = optional_past a n in
        let n1 = past_label (optional_open a opened) n0 in
        let n2 = condition_past b n1 in
        let n3 = stmt_past y.outline s true n2 in
        let n4 = past_label (open_behind s true) n3 in
        let g2 = grow_condition b n1 in
        let g3 = grow_stmt y.outline s true n2 in
        let g4 = grow_label (open_behind s true) n3 in
        let g5 = grow_optional d n4 in
        passes_then c (passes_first y a opened n (omega (arith, g2.block, g3.block, g4.block, g5.block)))
        (passes_then c (passes_condition y b n1 _ _ (omega (arith, g3.block, g4.block, g5.block)))
        (passes_then c (passes_stmt y _ _ s true n2 (past_either (open_behind s true) _ _ (omega (arith, g4.block, g5.block))))
        (passes_then c (passes_label c (open_behind s true) n3 (omega (arith, g5.block)))
        (passes_then c (passes_optional y d n4 (omega arith)) (passes_close c _ (optional_past d n4) _ refl (omega arith))))))
    passes_stmt y p q tree.Break opened n h = passes_close c p n _ refl h
    passes_stmt y p q tree.Continue opened n h = passes_close c q n _ refl h
    passes_stmt y p q (tree.Return None) opened n h = passes_no_value y.outline.value n h
    passes_stmt y p q (tree.Return (Some e)) opened n h =
        passes_then c (passes_expr c y e n (past_either (is_open e) _ _ h)) (passes_close c _ (past e n) _ refl h)

    pub passes_sections : {t : ℕ} {k : Code} (y : Layout) (p q : End) (ss : Sections) (opened : Bool) (n : Numbers)
        → IsPast (sections_open ss opened) (sections_past y.outline ss opened n).block t
        → Passes c t n (sections_code y p q ss opened n k) (sections_past y.outline ss opened n) k
    passes_sections {t} {k} y p q tree.End opened n h = passes_none c t n k
    passes_sections {t} y p q (tree.Section ls s rest) opened n h =
        let n1 = labels_past ls opened n in
        let inside = labels_open ls opened in
        let h1 = past_sections y.outline rest (open_behind s inside) (stmt_past y.outline s inside n1) t h in
        passes_then c (passes_labels ls opened n (past_stmt y.outline s inside n1 t h1))
        (passes_then c (passes_stmt y p q s inside n1 h1) (passes_sections y p q rest (open_behind s inside) (stmt_past y.outline s inside n1) h))
