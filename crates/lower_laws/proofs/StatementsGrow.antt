-- Numbers grow over statements, and what is past a statement is past its start.
use Rattle.std.proofs.Common.{ℕ, ◌<◌, ◌≤◌, List, [], ◌∷◌, Bool, true, false, Option, Some, None, arith}
use Rattle.c_typed.specs.declared.statement.Label.{Label}
use Rattle.c_typed.specs.declared.statement.Label.TheVariants as labels
use Rattle.c_typed.specs.Trees as tree
use Rattle.c_typed.specs.Trees.{Expr, Stmt, Sections}
use Rattle.lower_laws.specs.Code.{Numbers, past_label}
use Rattle.lower_laws.specs.Layouts.{Outline}
use Rattle.lower_laws.specs.Statements.{optional_past, optional_open, condition_past, no_value_past, local_past, open_behind, sections_open, stmt_past}
use Rattle.lower_laws.specs.Statements.{sections_past}
use Rattle.lower_laws.specs.Switches.{labels_past, labels_open, test_past, label_tests_past, tests_past}
use Rattle.lower_laws.proofs.Growing.{Grows, grow, grow_then, grow_none, grow_new, grow_reg, grow_instr, grow_end, grow_label}
use Rattle.lower_laws.proofs.Passing.{IsPast, past_either, past_whole}

pub grow_optional : (e : Option Expr) (n : Numbers) → Grows n (optional_past e n)
grow_optional None n = grow_none n
grow_optional (Some e) n = grow e n

pub grow_condition : (e : Option Expr) (n : Numbers) → Grows n (condition_past e n)
grow_condition None n = grow_end n
grow_condition (Some e) n = grow_then (grow e n) (grow_end _)

pub grow_labels : (ls : List Label) (opened : Bool) (n : Numbers) → Grows n (labels_past ls opened n)
grow_labels [] opened n = grow_none n
grow_labels (l ∷ ls) opened n = grow_then (grow_label opened n) (grow_labels ls true _)

pub grow_test : (n : Numbers) → Grows n (test_past n)
grow_test n = grow_then (grow_new n) (grow_then (grow_new _) (grow_end _))

pub grow_label_tests : (ls : List Label) (n : Numbers) → Grows n (label_tests_past ls n)
grow_label_tests [] n = grow_none n
grow_label_tests (labels.Case v ∷ ls) n = grow_then (grow_test n) (grow_label_tests ls _)
grow_label_tests (labels.Default ∷ ls) n = grow_label_tests ls n

pub grow_tests : (ss : Sections) (n : Numbers) → Grows n (tests_past ss n)
grow_tests tree.End n = grow_none n
grow_tests (tree.Section ls s rest) n = grow_then (grow_label_tests ls n) (grow_tests rest _)

pub grow_no_value : (v : Bool) (n : Numbers) → Grows n (no_value_past v n)
grow_no_value false n = grow_end n
grow_no_value true n = grow_then (grow_new n) (grow_end _)

pub grow_local : (a : Bool) (n : Numbers) → Grows n (local_past a n)
grow_local true n = grow_none n
grow_local false n = grow_reg n

mutual
  pub grow_stmt : (y : Outline) (s : Stmt) (opened : Bool) (n : Numbers) → Grows n (stmt_past y s opened n)
  grow_stmt y tree.Empty opened n = grow_none n
  grow_stmt y (tree.Sequence s t) opened n = grow_then (grow_stmt y s opened n) (grow_stmt y t _ _)
  grow_stmt y (tree.Declaration x None) opened n = grow_local (y.is_array x) n
  grow_stmt y (tree.Declaration x (Some e)) opened n = grow_then (grow_local (y.is_array x) n) (grow_then (grow e _) (grow_instr _))
  grow_stmt y (tree.Expression e) opened n = grow e n
  grow_stmt y (tree.If e s) opened n =
      grow_then (grow e n) (grow_then (grow_end _) (grow_then (grow_stmt y s true _) (grow_label (open_behind s true) _)))
  grow_stmt y (tree.IfElse e s t) opened n =
      grow_then (grow e n) (grow_then (grow_end _) (grow_then (grow_stmt y s true _) (grow_then (grow_end _)
      (grow_then (grow_stmt y t true _) (grow_label (open_behind t true) _)))))
  grow_stmt y (tree.Switch e ss) opened n =
      grow_then (grow e n) (grow_then (grow_tests ss _) (grow_then (grow_end _)
      (grow_then (grow_sections y ss false _) (grow_label (sections_open ss false) _))))
  grow_stmt y (tree.While e s) opened n =
      grow_then (grow_label opened n) (grow_then (grow e _) (grow_then (grow_end _) (grow_then (grow_stmt y s true _) (grow_end _))))
  grow_stmt y (tree.Do s e) opened n =
      grow_then (grow_label opened n) (grow_then (grow_stmt y s true _) (grow_then (grow_label (open_behind s true) _)
      (grow_then (grow e _) (grow_then (grow_end _) (grow_end _)))))
  grow_stmt y (tree.For a b d s) opened n =
      grow_then (grow_optional a n) (grow_then (grow_label (optional_open a opened) _) (grow_then (grow_condition b _)
      (grow_then (grow_stmt y s true _) (grow_then (grow_label (open_behind s true) _) (grow_then (grow_optional d _) (grow_end _))))))
  grow_stmt y tree.Break opened n = grow_end n
  grow_stmt y tree.Continue opened n = grow_end n
  grow_stmt y (tree.Return None) opened n = grow_no_value y.value n
  grow_stmt y (tree.Return (Some e)) opened n = grow_then (grow e n) (grow_end _)

  pub grow_sections : (y : Outline) (ss : Sections) (opened : Bool) (n : Numbers) → Grows n (sections_past y ss opened n)
  grow_sections y tree.End opened n = grow_none n
  grow_sections y (tree.Section ls s rest) opened n =
      grow_then (grow_labels ls opened n) (grow_then (grow_stmt y s _ _) (grow_sections y rest _ _))

-- behind labels in a row a block is open
pub past_row : (ls : List Label) {b t : ℕ} → b < t → IsPast (labels_open ls true) b t
past_row [] h = h
past_row (l ∷ ls) h = h

pub past_labels : (ls : List Label) (opened : Bool) (n : Numbers) (t : ℕ)
    → IsPast (labels_open ls opened) (labels_past ls opened n).block t → IsPast opened n.block t
past_labels [] opened n t h = h
past_labels (l ∷ ls) opened n t h =
    past_either opened n.block t
    (omega (arith, past_labels ls true (past_label opened n) t (past_row ls h), (grow_label opened n).block))

past_local : (a : Bool) (opened : Bool) (n : Numbers) (t : ℕ) → IsPast opened (local_past a n).block t → IsPast opened n.block t
past_local true opened n t h = h
past_local false opened n t h = h

past_return : (v : Bool) (n : Numbers) (t : ℕ) → (no_value_past v n).block ≤ t → n.block < t
past_return false n t h = h
past_return true n t h = h

mutual
  pub past_stmt : (y : Outline) (s : Stmt) (opened : Bool) (n : Numbers) (t : ℕ)
      → IsPast (open_behind s opened) (stmt_past y s opened n).block t → IsPast opened n.block t
  past_stmt y tree.Empty opened n t h = h
  past_stmt y (tree.Sequence a b) opened n t h =
      past_stmt y a opened n t (past_stmt y b (open_behind a opened) (stmt_past y a opened n) t h)
  past_stmt y (tree.Declaration x None) opened n t h = past_local (y.is_array x) opened n t h
  past_stmt y (tree.Declaration x (Some e)) opened n t h =
      past_either opened n.block t (omega (arith, (grow_stmt y (tree.Declaration x (Some e)) opened n).block))
  past_stmt y (tree.Expression e) opened n t h = past_either opened n.block t (past_whole e n t h)
  past_stmt y (tree.If e s) opened n t h = past_either opened n.block t (omega (arith, (grow_stmt y (tree.If e s) opened n).block))
  past_stmt y (tree.IfElse e a b) opened n t h =
      past_either opened n.block t (omega (arith, (grow_stmt y (tree.IfElse e a b) opened n).block))
  past_stmt y (tree.Switch e ss) opened n t h =
      past_either opened n.block t (omega (arith, (grow_stmt y (tree.Switch e ss) opened n).block))
  past_stmt y (tree.While e s) opened n t h =
      past_either opened n.block t (omega (arith, (grow_stmt y (tree.While e s) opened n).block))
  past_stmt y (tree.Do s e) opened n t h = past_either opened n.block t (omega (arith, (grow_stmt y (tree.Do s e) opened n).block))
  past_stmt y (tree.For a b d s) opened n t h =
      past_either opened n.block t (omega (arith, (grow_stmt y (tree.For a b d s) opened n).block))
  past_stmt y tree.Break opened n t h = past_either opened n.block t h
  past_stmt y tree.Continue opened n t h = past_either opened n.block t h
  past_stmt y (tree.Return None) opened n t h = past_either opened n.block t (past_return y.value n t h)
  past_stmt y (tree.Return (Some e)) opened n t h = past_either opened n.block t (omega (arith, (grow e n).block))

  pub past_sections : (y : Outline) (ss : Sections) (opened : Bool) (n : Numbers) (t : ℕ)
      → IsPast (sections_open ss opened) (sections_past y ss opened n).block t → IsPast opened n.block t
  past_sections y tree.End opened n t h = h
  past_sections y (tree.Section ls s rest) opened n t h =
      past_labels ls opened n t
      (past_stmt y s (labels_open ls opened) (labels_past ls opened n) t (past_sections y rest _ _ t h))
