-- The drafts of statements, with the numbers before them. Ends p and q are what `break` and `continue` are.
use Rattle.std.specs.Prelude.{ℕ, suc, Bool, true, false, List, [], ◌∷◌, Option, Some, None}
use Rattle.hlo_num.specs.declared.word.Word.{Word}
use Rattle.hlo_num.specs.declared.word.Op.TheVariants as op
use Rattle.il_core.specs.declared.instr.Instr.TheVariants as instr
use Rattle.il_core.specs.declared.instr.End.{End}
use Rattle.il_core.specs.declared.instr.End.TheVariants as ends
use Rattle.c_typed.specs.declared.expression.Variable.TheVariants as variables
use Rattle.c_typed.specs.declared.statement.Label.{Label}
use Rattle.c_typed.specs.declared.statement.Label.TheVariants as labels
use Rattle.c_typed.specs.Expressions.{Whole}
use Rattle.c_typed.specs.Trees as tree
use Rattle.c_typed.specs.Trees.{Expr, Stmt, Sections}
use Rattle.lower_laws.specs.Code.{Numbers, past_instr, past_end, past_label, word}
use Rattle.lower_laws.specs.Expressions.{past, result}
use Rattle.lower_laws.specs.Switches.{labels_past, labels_open, test_past, label_tests_past, tests_past}
use Rattle.lower_laws.specs.Statements.{optional_past, optional_open, condition_past, no_value_past, local_past, open_behind, sections_open, stmt_past}
use Rattle.lower_laws.specs.Statements.{sections_past}
use Rattle.c_lower.specs.Drafts.{Draft, Fixed, write, finish, next_label, mark, reach, declare, begin_block, branch}
use Rattle.c_lower.specs.Expressions.{stored, written}

-- a block is begun, and label l stands there
abbrev pub arrived : ℕ → Bool → Numbers → Draft → Draft
arrived l opened n s = reach l (past_label opened n).block (begin_block opened n s)

-- the end of the first branch of `if`: a jump past the other one, which begins at its label
abbrev pub turned : ℕ → ℕ → Numbers → Draft → Draft
turned behind other n s = reach other (past_end n).block (finish (ends.Jump behind) s)

-- the end of a loop: back to its top, and what stands behind it
abbrev pub looped : ℕ → ℕ → Numbers → Draft → Draft
looped top behind n s = reach behind (past_end n).block (finish (ends.Loop top) s)

abbrev pub optional : Fixed → Option Expr → Numbers → Draft → Draft
optional y None n s = s
optional y (Some e) n s = written y e n s

-- the condition of `for`
abbrev pub condition : Fixed → Option Expr → ℕ → Numbers → Draft → Draft
condition y None behind n s = begin_block true n s
condition y (Some e) behind n s = branch (result e n) behind (past e n) (written y e n s)

abbrev pub no_value : Bool → Numbers → Draft → Draft
no_value false n s = finish (ends.Return None) s
no_value true n s = finish (ends.Return (Some n.reg)) (write (instr.Const n.reg (word 0)) s)

-- `return;` and `return e;`
abbrev pub returned_past : Fixed → Option Expr → Numbers → Numbers
returned_past y None n = no_value_past y.outline.value n
returned_past y (Some e) n = past_end (past e n)

abbrev pub returned : Fixed → Option Expr → Numbers → Draft → Draft
returned y None n s = no_value y.outline.value n s
returned y (Some e) n s = finish (ends.Return (Some (result e n))) (written y e n s)

-- a declarator
abbrev pub declared_open : Option Expr → Bool → Bool
declared_open None opened = opened
declared_open (Some e) opened = true

abbrev pub declared_past : Fixed → ℕ → Option Expr → Numbers → Numbers
declared_past y x None n = local_past (y.outline.is_array x) n
declared_past y x (Some e) n = past_instr (past e (local_past (y.outline.is_array x) n))

abbrev pub declared : Fixed → ℕ → Option Expr → Numbers → Draft → Draft
declared y x None n s = declare n.reg s
declared y x (Some e) n s =
    let value = local_past (y.outline.is_array x) n in
    stored y (Whole (variables.Local x)) (result e value) (written y e value (declare n.reg s))

-- Each label of a switch has a label of the draft: they are new in a row, and `at` is that of the first.
abbrev pub labels_at : List Label → ℕ → ℕ
labels_at [] at = at
labels_at (l ∷ ls) at = labels_at ls (suc at)

abbrev pub labels_marked : List Label → Draft → Draft
labels_marked [] s = s
labels_marked (l ∷ ls) s = labels_marked ls (mark 0 s)

abbrev pub cases_marked : Sections → Draft → Draft
cases_marked tree.End s = s
cases_marked (tree.Section ls a rest) s = cases_marked rest (labels_marked ls s)

-- the label of the first default, and that of what stands behind where there is none
abbrev pub default_in : List Label → ℕ → Option ℕ
default_in [] at = None
default_in (labels.Case c ∷ ls) at = default_in ls (suc at)
default_in (labels.Default ∷ ls) at = Some at

abbrev pub or_label : Option ℕ → ℕ → ℕ
or_label None l = l
or_label (Some d) l = d

abbrev pub default_label : Sections → ℕ → ℕ → ℕ
default_label tree.End at behind = behind
default_label (tree.Section ls a rest) at behind = or_label (default_in ls at) (default_label rest (labels_at ls at) behind)

-- the test of the word in register x against a case: to the case's label, or to the next block
abbrev pub case_tested : ℕ → Word → ℕ → Numbers → Draft → Draft
case_tested x c at n s =
    let compared = write (instr.Bin op.Eq (suc n.reg) x n.reg) (write (instr.Const n.reg c) s) in
    finish (ends.Branch (suc n.reg) at (next_label compared)) (mark (suc n.block) compared)

abbrev pub labels_tested : ℕ → List Label → ℕ → Numbers → Draft → Draft
labels_tested x [] at n s = s
labels_tested x (labels.Case c ∷ ls) at n s = labels_tested x ls (suc at) (test_past n) (case_tested x c at n s)
labels_tested x (labels.Default ∷ ls) at n s = labels_tested x ls (suc at) n s

abbrev pub cases_tested : ℕ → Sections → ℕ → Numbers → Draft → Draft
cases_tested x tree.End at n s = s
cases_tested x (tree.Section ls a rest) at n s = cases_tested x rest (labels_at ls at) (label_tests_past ls n) (labels_tested x ls at n s)

abbrev pub labels_arrived : List Label → ℕ → Bool → Numbers → Draft → Draft
labels_arrived [] at opened n s = s
labels_arrived (l ∷ ls) at opened n s = labels_arrived ls (suc at) true (past_label opened n) (arrived at opened n s)

abbrev mutual
  pub stated : Fixed → End → End → Stmt → Bool → Numbers → Draft → Draft
  stated y p q tree.Empty opened n s = s
  stated y p q (tree.Sequence a b) opened n s =
      stated y p q b (open_behind a opened) (stmt_past y.outline a opened n) (stated y p q a opened n s)
  stated y p q (tree.Declaration x e) opened n s = declared y x e n s
  stated y p q (tree.Expression e) opened n s = written y e n s
  stated y p q (tree.If e a) opened n s =
      let asked = past e n in
      let inside = past_end asked in
      let tested = written y e n s in
      let behind = next_label tested in
      arrived behind (open_behind a true) (stmt_past y.outline a true inside)
      (stated y p q a true inside (branch (result e n) behind asked (mark 0 tested)))
  stated y p q (tree.IfElse e a b) opened n s =
      let asked = past e n in
      let first = past_end asked in
      let turn = stmt_past y.outline a true first in
      let second = past_end turn in
      let tested = written y e n s in
      let behind = next_label tested in
      let other = next_label (mark 0 tested) in
      arrived behind (open_behind b true) (stmt_past y.outline b true second)
      (stated y p q b true second (turned behind other turn
      (stated y p q a true first (branch (result e n) other asked (mark 0 (mark 0 tested))))))
  stated y p q (tree.Switch e ss) opened n s =
      let tests = past e n in
      let body = past_end (tests_past ss tests) in
      let asked = written y e n s in
      let behind = next_label asked in
      let held = mark 0 asked in
      let at = next_label held in
      let tested = cases_tested (result e n) ss at tests (cases_marked ss held) in
      arrived behind (sections_open ss false) (sections_past y.outline ss false body)
      (sections y (ends.Jump behind) q ss at false body (finish (ends.Jump (default_label ss at behind)) tested))
  stated y p q (tree.While e a) opened n s =
      let head = past_label opened n in
      let body = past_end (past e head) in
      let begun = begin_block opened n s in
      let top = next_label begun in
      let tested = written y e head (mark head.block begun) in
      let behind = next_label tested in
      looped top behind (stmt_past y.outline a true body)
      (stated y (ends.Jump behind) (ends.Loop top) a true body (branch (result e head) behind (past e head) (mark 0 tested)))
  stated y p q (tree.Do a e) opened n s =
      let body = past_label opened n in
      let last = stmt_past y.outline a true body in
      let asked = past_label (open_behind a true) last in
      let begun = begin_block opened n s in
      let top = next_label begun in
      let held = mark body.block begun in
      let behind = next_label held in
      let ask = next_label (mark 0 held) in
      let done = arrived ask (open_behind a true) last (stated y (ends.Jump behind) (ends.Jump ask) a true body (mark 0 (mark 0 held))) in
      looped top behind (past_end (past e asked)) (branch (result e asked) behind (past e asked) (written y e asked done))
  stated y p q (tree.For a b c t) opened n s =
      let first = optional_past a n in
      let started = optional_open a opened in
      let head = past_label started first in
      let body = condition_past b head in
      let last = stmt_past y.outline t true body in
      let step = past_label (open_behind t true) last in
      let begun = begin_block started first (optional y a n s) in
      let top = next_label begun in
      let held = mark head.block begun in
      let behind = next_label held in
      let next = next_label (mark 0 held) in
      let tested = condition y b behind head (mark 0 (mark 0 held)) in
      let done = arrived next (open_behind t true) last (stated y (ends.Jump behind) (ends.Jump next) t true body tested) in
      looped top behind (optional_past c step) (optional y c step done)
  stated y p q tree.Break opened n s = finish p s
  stated y p q tree.Continue opened n s = finish q s
  stated y p q (tree.Return e) opened n s = returned y e n s

  pub sections : Fixed → End → End → Sections → ℕ → Bool → Numbers → Draft → Draft
  sections y p q tree.End at opened n s = s
  sections y p q (tree.Section ls a rest) at opened n s =
      let inside = labels_open ls opened in
      let there = labels_past ls opened n in
      sections y p q rest (labels_at ls at) (open_behind a inside) (stmt_past y.outline a inside there)
      (stated y p q a inside there (labels_arrived ls at opened n s))
