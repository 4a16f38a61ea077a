-- Where a place stands in a routine, a place behind a piece of code stands there too.
use Rattle.std.proofs.Common.{◌≡◌, ℕ, suc, List, Bool, true, false, Option, Some, None, refl, arith}
use Rattle.il_core.specs.declared.instr.End.{End}
use Rattle.il_core.specs.Meaning.{Next}
use Rattle.c_typed.specs.declared.statement.Label.{Label}
use Rattle.c_typed.specs.Trees.{Expr, Stmt, Sections}
use Rattle.lower_laws.specs.Code.{Code, close, Numbers, past_end, past_label, label}
use Rattle.lower_laws.specs.Expressions.{is_open, past, code}
use Rattle.lower_laws.specs.Statements.{optional_past, optional_open, optional_code, condition_past, condition_code, open_behind, stmt_past, tests_code}
use Rattle.lower_laws.specs.Statements.{stmt_code}
use Rattle.lower_laws.specs.Switches.{labels_past, labels_open, labels_code, tests_past}
use Rattle.lower_laws.proofs.Coming.{Setting, passes_close, passes_label}
use Rattle.lower_laws.proofs.Flowing.{At, at_by}
use Rattle.lower_laws.proofs.Passing.{past_either, past_whole, passes_expr}
use Rattle.lower_laws.proofs.StatementsGrow.{grow_tests, past_labels, past_stmt}
use Rattle.lower_laws.proofs.StatementsPass.{passes_labels, passes_tests, passes_stmt}

module _ {S : Type 0} (c : Setting S) (E : ℕ → Next S) where
  pub at_expr : {k : Code} (e : Expr) (opened : Bool) (n : Numbers) → At c E opened n (code c.layout e n k) → At c E (is_open e) (past e n) k
  at_expr e opened n h =
      at_by c E (λ t later. past_either opened n.block t (past_whole e n t later)) (λ t later. passes_expr c c.layout e n later) h

  pub at_close : {k : Code} (e : End) (opened : Bool) (n n1 : Numbers) → n1.block ≡ suc n.block → At c E opened n (close e k) → At c E true n1 k
  at_close e opened n n1 same h =
      at_by c E (λ t later. past_either opened n.block t (omega (arith, same))) (λ t later. passes_close c e n n1 same (omega (arith, same))) h

  pub at_label : {k : Code} (opened : Bool) (n : Numbers) → At c E opened n (label opened n k) → At c E false (past_label opened n) k
  at_label true n h = at_by c E (λ t later. later) (λ t later. passes_label c true n later) h
  at_label false n h = h

  pub at_stmt : {k : Code} (p q : End) (s : Stmt) (opened : Bool) (n : Numbers) → At c E opened n (stmt_code c.layout p q s opened n k)
      → At c E (open_behind s opened) (stmt_past c.layout.outline s opened n) k
  at_stmt p q s opened n h =
      at_by c E (λ t later. past_stmt c.layout.outline s opened n t later) (λ t later. passes_stmt c c.layout p q s opened n later) h

  -- a place that is closed is one that may be open
  pub at_open : {k : Code} (opened : Bool) (n : Numbers) → At c E opened n k → At c E true n k
  at_open opened n h = record { by = λ t f w later. h.by t f w (past_either opened n.block t later) }

  pub at_tests : {k : Code} (z : ℕ) (ss : Sections) (opened : Bool) (there n : Numbers) {before : Bool}
      → At c E before n (tests_code c.layout z ss opened there n k) → At c E true (tests_past ss n) k
  at_tests z ss opened there n {before} h =
      at_by c E (λ t later. past_either before n.block t (omega (arith, (grow_tests ss n).block)))
      (λ t later. passes_tests c c.layout z ss opened there n later) h

  -- behind an end no block is open
  pub at_closed : {k : Code} {e : End} (n n1 : Numbers) → n1.block ≡ suc n.block → At c E true n (close e k) → At c E false n1 k
  at_closed {k} {e} n n1 same h =
      at_by c E (λ t later. omega (arith, same)) (λ t later. passes_close c e n n1 same (omega (arith, same))) h

  pub at_labels : {k : Code} (ls : List Label) (opened : Bool) (n : Numbers) → At c E opened n (labels_code ls opened n k)
      → At c E (labels_open ls opened) (labels_past ls opened n) k
  at_labels ls opened n h = at_by c E (λ t later. past_labels ls opened n t later) (λ t later. passes_labels c ls opened n later) h

  -- the first part of `for`, and its condition
  pub at_first : {k : Code} (a : Option Expr) (opened : Bool) (n : Numbers)
      → At c E opened n (optional_code c.layout a n (label (optional_open a opened) (optional_past a n) k))
      → At c E false (past_label (optional_open a opened) (optional_past a n)) k
  at_first None opened n h = at_label opened n h
  at_first (Some e) opened n h = at_label (is_open e) (past e n) (at_expr e opened n h)

  pub at_condition : {k : Code} (i j : ℕ) (b : Option Expr) (n : Numbers) → At c E false n (condition_code c.layout b n i j k)
      → At c E true (condition_past b n) k
  at_condition i j None n h = at_close _ false n (past_end n) refl h
  at_condition i j (Some e) n h = at_close _ true (past e n) (past_end (past e n)) refl (at_open (is_open e) (past e n) (at_expr e false n h))
