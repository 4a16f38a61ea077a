-- What is needed of a statement at its place: its expressions are bound, and the registers that they take are free.
use Rattle.std.proofs.Common.{ℕ, Bool, true, false, Option, Some, None}
use Rattle.std.specs.Prelude.{⊤}
use Rattle.il_core.specs.declared.instr.End.{End}
use Rattle.il_core.specs.declared.instr.End.TheVariants as ends
use Rattle.c_typed.specs.Trees as tree
use Rattle.c_typed.specs.Trees.{Expr, Stmt, Sections}
use Rattle.lower_laws.specs.Bound.{Scope, HasValue, IsExpr}
use Rattle.lower_laws.specs.Code.{Numbers, past_end, past_label}
use Rattle.lower_laws.specs.Expressions.{past}
use Rattle.lower_laws.specs.Layouts.{Layout}
use Rattle.lower_laws.specs.Statements.{optional_past, optional_open, condition_past, local_past, open_behind, stmt_past}
use Rattle.lower_laws.specs.Switches.{labels_past, labels_open, tests_past}
use Rattle.lower_laws.proofs.Frames.{IsScalarLocal, IsRoom}
use Rattle.lower_laws.proofs.Passing.{IsPast}

pub record FineExpr (y : Layout) (s : Scope) (e : Expr) (n : Numbers) : Type 0 where
  pub bound : IsExpr s e
  pub room : IsRoom y s n.reg (past e n).reg

-- and it has a value
pub record FineValue (y : Layout) (s : Scope) (e : Expr) (n : Numbers) : Type 0 where
  pub bound : IsExpr s e
  pub room : IsRoom y s n.reg (past e n).reg
  pub has : HasValue e

abbrev pub FineOptional : Layout → Scope → Option Expr → Numbers → Type 0
FineOptional y s None n = ⊤
FineOptional y s (Some e) n = FineExpr y s e n

abbrev pub FineCondition : Layout → Scope → Option Expr → Numbers → Type 0
FineCondition y s None n = ⊤
FineCondition y s (Some e) n = FineValue y s e n

abbrev mutual
  pub Fine : Layout → Scope → Stmt → Bool → Numbers → Type 0
  Fine y s tree.Empty opened n = ⊤
  Fine y s (tree.Sequence a b) opened n = Fine y s a opened n × Fine y s b (open_behind a opened) (stmt_past y.outline a opened n)
  Fine y s (tree.Declaration x None) opened n = ⊤
  Fine y s (tree.Declaration x (Some e)) opened n = IsScalarLocal s x × FineValue y s e (local_past (y.outline.is_array x) n)
  Fine y s (tree.Expression e) opened n = FineExpr y s e n
  Fine y s (tree.If e a) opened n = FineValue y s e n × Fine y s a true (past_end (past e n))
  Fine y s (tree.IfElse e a b) opened n =
      let first = past_end (past e n) in
      FineValue y s e n × Fine y s a true first × Fine y s b true (past_end (stmt_past y.outline a true first))
  Fine y s (tree.Switch e ss) opened n =
      let tests = past e n in
      FineValue y s e n × IsRoom y s tests.reg (tests_past ss tests).reg × FineSections y s ss false (past_end (tests_past ss tests))
  Fine y s (tree.While e a) opened n =
      let head = past_label opened n in
      FineValue y s e head × Fine y s a true (past_end (past e head))
  Fine y s (tree.Do a e) opened n =
      let body = past_label opened n in
      Fine y s a true body × FineValue y s e (past_label (open_behind a true) (stmt_past y.outline a true body))
  Fine y s (tree.For f e d a) opened n =
      let head = past_label (optional_open f opened) (optional_past f n) in
      let body = condition_past e head in
      FineOptional y s f n × FineCondition y s e head × Fine y s a true body
      × FineOptional y s d (past_label (open_behind a true) (stmt_past y.outline a true body))
  Fine y s tree.Break opened n = ⊤
  Fine y s tree.Continue opened n = ⊤
  Fine y s (tree.Return None) opened n = ⊤
  Fine y s (tree.Return (Some e)) opened n = FineValue y s e n

  pub FineSections : Layout → Scope → Sections → Bool → Numbers → Type 0
  FineSections y s tree.End opened n = ⊤
  FineSections y s (tree.Section ls a rest) opened n =
      let there = labels_past ls opened n in
      let inside = labels_open ls opened in
      Fine y s a inside there × FineSections y s rest (open_behind a inside) (stmt_past y.outline a inside there)

-- an end that leads past a place, or back to the start of a loop
abbrev pub LeadsPast : Bool → ℕ → End → Type 0
LeadsPast opened b (ends.Jump t) = IsPast opened b t
LeadsPast opened b (ends.Branch x t u) = ⊥
LeadsPast opened b (ends.Loop t) = ⊤
LeadsPast opened b (ends.Return x) = ⊥
LeadsPast opened b (ends.Exit x) = ⊥

pub leads_past_by : (e : End) (opened opened1 : Bool) (b b1 : ℕ) → ((t : ℕ) → IsPast opened b t → IsPast opened1 b1 t)
    → LeadsPast opened b e → LeadsPast opened1 b1 e
leads_past_by (ends.Jump t) opened opened1 b b1 go h = go t h
leads_past_by (ends.Branch x t u) opened opened1 b b1 go h = h
leads_past_by (ends.Loop t) opened opened1 b b1 go h = tt
leads_past_by (ends.Return x) opened opened1 b b1 go h = h
leads_past_by (ends.Exit x) opened opened1 b b1 go h = h
