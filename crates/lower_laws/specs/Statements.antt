-- The templates of statements: the numbers behind a statement, whether a block is open behind it, and its code in front of
-- the code that follows. `opened` says whether a block is open before it.
use Rattle.std.specs.Prelude.{ℕ, Bool, true, false, Option, Some, None}
use Rattle.il_core.specs.declared.instr.Instr.TheVariants as instr
use Rattle.il_core.specs.declared.instr.End.{End}
use Rattle.il_core.specs.declared.instr.End.TheVariants as ends
use Rattle.c_typed.specs.declared.expression.Variable.TheVariants as variables
use Rattle.c_typed.specs.declared.statement.Label.{Label}
use Rattle.c_typed.specs.Expressions.{Whole}
use Rattle.c_typed.specs.Statements.{is_default}
use Rattle.c_typed.specs.Trees as tree
use Rattle.c_typed.specs.Trees.{Expr, Stmt, Sections}
use Rattle.lower_laws.specs.Code.{Code, put, close, Numbers, past_reg, past_instr, past_end, past_new, past_label, label, word}
use Rattle.lower_laws.specs.Layouts.{Outline, Layout}
use Rattle.lower_laws.specs.Operations.{store}
use Rattle.lower_laws.specs.Expressions.{is_open, past, result, code}
use Rattle.lower_laws.specs.Switches.{labels_past, labels_open, labels_code, label_block, label_tests_past, tests_past, label_tests}

-- an expression that may be absent
abbrev pub optional_past : Option Expr → Numbers → Numbers
optional_past None n = n
optional_past (Some e) n = past e n

abbrev pub optional_open : Option Expr → Bool → Bool
optional_open None opened = opened
optional_open (Some e) opened = is_open e

abbrev pub optional_code : Layout → Option Expr → Numbers → Code → Code
optional_code y None n k = k
optional_code y (Some e) n k = code y e n k

-- the condition of `for`, behind which the body begins a block, also where there is no condition
abbrev pub condition_past : Option Expr → Numbers → Numbers
condition_past None n = past_end n
condition_past (Some e) n = past_end (past e n)

-- to the body at block a, or past the loop at block b
abbrev pub condition_code : Layout → Option Expr → Numbers → ℕ → ℕ → Code → Code
condition_code y None n a b k = close (ends.Jump a) k
condition_code y (Some e) n a b k = code y e n (close (ends.Branch (result e n) a b) k)

-- a return without a value: in a function that gives one, it gives 0
abbrev pub no_value_past : Bool → Numbers → Numbers
no_value_past false n = past_end n
no_value_past true n = past_end (past_new n)

abbrev pub no_value_code : Bool → Numbers → Code → Code
no_value_code false n k = close (ends.Return None) k
no_value_code true n k = put (instr.Const n.reg (word 0)) (close (ends.Return (Some n.reg)) k)

-- a new local takes the next register, unless it is an array
abbrev pub local_past : Bool → Numbers → Numbers
local_past true n = n
local_past false n = past_reg n

-- whether a block is open behind
abbrev pub open_behind : Stmt → Bool → Bool
open_behind tree.Empty opened = opened
open_behind (tree.Sequence s t) opened = open_behind t (open_behind s opened)
open_behind (tree.Declaration x None) opened = opened
open_behind (tree.Declaration x (Some e)) opened = true
open_behind (tree.Expression e) opened = is_open e
open_behind (tree.If e s) opened = true
open_behind (tree.IfElse e s t) opened = true
open_behind (tree.Switch e ss) opened = true
open_behind (tree.While e s) opened = true
open_behind (tree.Do s e) opened = true
open_behind (tree.For a b c s) opened = true
open_behind tree.Break opened = false
open_behind tree.Continue opened = false
open_behind (tree.Return e) opened = false

abbrev pub sections_open : Sections → Bool → Bool
sections_open tree.End opened = opened
sections_open (tree.Section ls s rest) opened = sections_open rest (open_behind s (labels_open ls opened))

-- the numbers behind
abbrev mutual
  pub stmt_past : Outline → Stmt → Bool → Numbers → Numbers
  stmt_past y tree.Empty opened n = n
  stmt_past y (tree.Sequence s t) opened n = stmt_past y t (open_behind s opened) (stmt_past y s opened n)
  stmt_past y (tree.Declaration x None) opened n = local_past (y.is_array x) n
  stmt_past y (tree.Declaration x (Some e)) opened n = past_instr (past e (local_past (y.is_array x) n))
  stmt_past y (tree.Expression e) opened n = past e n
  stmt_past y (tree.If e s) opened n = past_label (open_behind s true) (stmt_past y s true (past_end (past e n)))
  stmt_past y (tree.IfElse e s t) opened n =
      past_label (open_behind t true) (stmt_past y t true (past_end (stmt_past y s true (past_end (past e n)))))
  stmt_past y (tree.Switch e ss) opened n =
      past_label (sections_open ss false) (sections_past y ss false (past_end (tests_past ss (past e n))))
  stmt_past y (tree.While e s) opened n = past_end (stmt_past y s true (past_end (past e (past_label opened n))))
  stmt_past y (tree.Do s e) opened n =
      past_end (past_end (past e (past_label (open_behind s true) (stmt_past y s true (past_label opened n)))))
  stmt_past y (tree.For a b c s) opened n =
      let start = past_label (optional_open a opened) (optional_past a n) in
      past_end (optional_past c (past_label (open_behind s true) (stmt_past y s true (condition_past b start))))
  stmt_past y tree.Break opened n = past_end n
  stmt_past y tree.Continue opened n = past_end n
  stmt_past y (tree.Return None) opened n = no_value_past y.value n
  stmt_past y (tree.Return (Some e)) opened n = past_end (past e n)

  pub sections_past : Outline → Sections → Bool → Numbers → Numbers
  sections_past y tree.End opened n = n
  sections_past y (tree.Section ls s rest) opened n =
      let inside = labels_open ls opened in
      sections_past y rest (open_behind s inside) (stmt_past y s inside (labels_past ls opened n))

-- the block of the first label of the sections that passes a test, and `none` where no label does
abbrev pub section_block : Outline → (Label → Bool) → Sections → Bool → Numbers → ℕ → ℕ
section_block y is tree.End opened n none = none
section_block y is (tree.Section ls s rest) opened n none =
    let inside = labels_open ls opened in
    label_block is ls opened n (section_block y is rest (open_behind s inside) (stmt_past y s inside (labels_past ls opened n)) none)

-- the tests of the word in register x against all cases, in order
abbrev pub tests_code : Layout → ℕ → Sections → Bool → Numbers → Numbers → Code → Code
tests_code y x tree.End opened there n k = k
tests_code y x (tree.Section ls s rest) opened there n k =
    let inside = labels_open ls opened in
    label_tests x ls opened there n
    (tests_code y x rest (open_behind s inside) (stmt_past y.outline s inside (labels_past ls opened there)) (label_tests_past ls n) k)

-- the code; p and q are the ends that `break` and `continue` are
abbrev mutual
  pub stmt_code : Layout → End → End → Stmt → Bool → Numbers → Code → Code
  stmt_code y p q tree.Empty opened n k = k
  stmt_code y p q (tree.Sequence s t) opened n k =
      stmt_code y p q s opened n (stmt_code y p q t (open_behind s opened) (stmt_past y.outline s opened n) k)
  stmt_code y p q (tree.Declaration x None) opened n k = k
  stmt_code y p q (tree.Declaration x (Some e)) opened n k =
      let value = local_past (y.outline.is_array x) n in
      code y e value (put (store y (Whole (variables.Local x)) (result e value)) k)
  stmt_code y p q (tree.Expression e) opened n k = code y e n k
  stmt_code y p q (tree.If e s) opened n k =
      let inside = past_end (past e n) in
      let last = stmt_past y.outline s true inside in
      let behind = past_label (open_behind s true) last in
      code y e n (close (ends.Branch (result e n) inside.block behind.block)
      (stmt_code y p q s true inside (label (open_behind s true) last k)))
  stmt_code y p q (tree.IfElse e s t) opened n k =
      let first = past_end (past e n) in
      let second = past_end (stmt_past y.outline s true first) in
      let last = stmt_past y.outline t true second in
      let behind = past_label (open_behind t true) last in
      code y e n (close (ends.Branch (result e n) first.block second.block)
      (stmt_code y p q s true first (close (ends.Jump behind.block)
      (stmt_code y p q t true second (label (open_behind t true) last k)))))
  stmt_code y p q (tree.Switch e ss) opened n k =
      let tests = past e n in
      let body = past_end (tests_past ss tests) in
      let last = sections_past y.outline ss false body in
      let behind = past_label (sections_open ss false) last in
      code y e n (tests_code y (result e n) ss false body tests
      (close (ends.Jump (section_block y.outline is_default ss false body behind.block))
      (sections_code y (ends.Jump behind.block) q ss false body (label (sections_open ss false) last k))))
  stmt_code y p q (tree.While e s) opened n k =
      let head = past_label opened n in
      let body = past_end (past e head) in
      let behind = past_end (stmt_past y.outline s true body) in
      label opened n (code y e head (close (ends.Branch (result e head) body.block behind.block)
      (stmt_code y (ends.Jump behind.block) (ends.Loop head.block) s true body (close (ends.Loop head.block) k))))
  stmt_code y p q (tree.Do s e) opened n k =
      let body = past_label opened n in
      let last = stmt_past y.outline s true body in
      let asked = past_label (open_behind s true) last in
      let again = past_end (past e asked) in
      let behind = past_end again in
      label opened n (stmt_code y (ends.Jump behind.block) (ends.Jump asked.block) s true body (label (open_behind s true) last
      (code y e asked (close (ends.Branch (result e asked) again.block behind.block) (close (ends.Loop body.block) k)))))
  stmt_code y p q (tree.For a b c s) opened n k =
      let first = optional_past a n in
      let head = past_label (optional_open a opened) first in
      let body = condition_past b head in
      let last = stmt_past y.outline s true body in
      let step = past_label (open_behind s true) last in
      let behind = past_end (optional_past c step) in
      optional_code y a n (label (optional_open a opened) first (condition_code y b head body.block behind.block
      (stmt_code y (ends.Jump behind.block) (ends.Jump step.block) s true body (label (open_behind s true) last
      (optional_code y c step (close (ends.Loop head.block) k))))))
  stmt_code y p q tree.Break opened n k = close p k
  stmt_code y p q tree.Continue opened n k = close q k
  stmt_code y p q (tree.Return None) opened n k = no_value_code y.outline.value n k
  stmt_code y p q (tree.Return (Some e)) opened n k = code y e n (close (ends.Return (Some (result e n))) k)

  pub sections_code : Layout → End → End → Sections → Bool → Numbers → Code → Code
  sections_code y p q tree.End opened n k = k
  sections_code y p q (tree.Section ls s rest) opened n k =
      let inside = labels_open ls opened in
      let there = labels_past ls opened n in
      labels_code ls opened n (stmt_code y p q s inside there
      (sections_code y p q rest (open_behind s inside) (stmt_past y.outline s inside there) k))
