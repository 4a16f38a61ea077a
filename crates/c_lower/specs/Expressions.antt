-- The drafts of expressions, with the numbers before them.
use Rattle.std.specs.Prelude.{ℕ, suc, List, Bool, true, Option, Some, None, if◌then◌else◌}
use Rattle.hlo_num.specs.declared.word.Ty.{Ty}
use Rattle.hlo_num.specs.declared.word.Word.{Word}
use Rattle.hlo_num.specs.declared.word.Op.TheVariants as op
use Rattle.hlo_num.specs.Words.{is_narrow, promote}
use Rattle.il_core.specs.declared.instr.Instr.TheVariants as instr
use Rattle.il_core.specs.declared.instr.End.TheVariants as ends
use Rattle.c_tree.specs.declared.expression.UnaryOp.{UnaryOp}
use Rattle.c_tree.specs.declared.expression.UnaryOp.TheVariants.{Plus, Minus, Complement, Not}
use Rattle.c_typed.specs.declared.expression.BinaryOp.{BinaryOp}
use Rattle.c_typed.specs.declared.expression.BinaryOp.TheVariants as binary
use Rattle.c_typed.specs.declared.expression.LogicalOp.{LogicalOp}
use Rattle.c_typed.specs.Operators.{step_op}
use Rattle.c_typed.specs.Expressions.{Spot}
use Rattle.c_typed.specs.Trees as tree
use Rattle.c_typed.specs.Trees.{Place, Expr, Arguments}
use Rattle.lower_laws.specs.Code.{Numbers, past_reg, past_instr, past_end, past_new, past_label, word}
use Rattle.lower_laws.specs.Operations.{load, store, conv_past, conv_result, operation, update_past, update_result}
use Rattle.lower_laws.specs.Expressions.{result_past, result_register, arm_past, arm_open, logical_end, skipped, past, place_past, arguments_past}
use Rattle.lower_laws.specs.Expressions.{result, spot_at, results}
use Rattle.c_lower.specs.Drafts.{Draft, Fixed, write, finish, next_label, mark, reach, layout_now, begin_block, branch}

abbrev pub constant : Word → Numbers → Draft → Draft
constant w n s = write (instr.Const n.reg w) s

abbrev pub operated : BinaryOp → Ty → ℕ → ℕ → Numbers → Draft → Draft
operated o t x y n s = write (operation o t n.reg x y) s

abbrev pub converted : Ty → ℕ → Numbers → Draft → Draft
converted t x n s = if is_narrow t then write (instr.Conv n.reg t x) s else s

abbrev pub unary : UnaryOp → Ty → ℕ → Numbers → Draft → Draft
unary Plus t x n s = s
unary Minus t x n s = write (operation binary.Subtract t (suc n.reg) n.reg x) (write (instr.Const n.reg (word 0)) s)
unary Complement t x n s = write (operation binary.Xor t (suc n.reg) x n.reg) (write (instr.Const n.reg (word 4294967295)) s)
unary Not t x n s = write (operation binary.Equal t (suc n.reg) x n.reg) (write (instr.Const n.reg (word 0)) s)

-- a spot's word into register d, and register x into a spot
abbrev pub loaded : Fixed → Spot → ℕ → Draft → Draft
loaded y p d s = write (load (layout_now y s) p d) s

abbrev pub stored : Fixed → Spot → ℕ → Draft → Draft
stored y p x s = write (store (layout_now y s) p x) s

-- the old word of a spot, converted
abbrev pub fetched : Fixed → Ty → Spot → Numbers → Draft → Draft
fetched y u p n s = converted u n.reg (past_new n) (loaded y p n.reg s)

abbrev pub updated : Fixed → Ty → BinaryOp → Ty → Spot → ℕ → ℕ → Numbers → Draft → Draft
updated y t o u p old x n s = stored y p (update_result t n) (converted t n.reg (past_new n) (write (operation o u n.reg old x) s))

abbrev pub arm : Option Ty → ℕ → ℕ → Draft → Draft
arm None d x s = s
arm (Some t) d x s = write (instr.Move d x) s

-- to the right operand in the next block, or past it at label l
abbrev pub asked : LogicalOp → ℕ → ℕ → Numbers → Draft → Draft
asked o x l n s = finish (logical_end o x (next_label s) l) (mark (suc n.block) s)

-- behind the right operand in register x: whether it isn't 0 goes to register d, and where it was skipped a constant does
abbrev pub answered : LogicalOp → ℕ → ℕ → ℕ → Numbers → Draft → Draft
answered o d x l n s =
    let zero = past_new n in
    let compared = past_instr zero in
    let skip = past_end compared in
    let tested = write (instr.Bin op.Ne d x n.reg) (write (instr.Const n.reg (word 0)) s) in
    let closed = finish (ends.Jump (next_label tested)) (mark (suc skip.block) tested) in
    begin_block true (past_instr skip) (write (instr.Const d (word (skipped o))) (reach l skip.block closed))

abbrev pub stepped : Fixed → Ty → BinaryOp → Spot → Numbers → Draft → Draft
stepped y t o p n s =
    let loaded = past_new n in
    let one = conv_past (promote t) loaded in
    updated y t o (promote t) p (conv_result (promote t) n.reg loaded) one.reg (past_new one)
    (write (instr.Const one.reg (word 1)) (fetched y (promote t) p n s))

abbrev pub stepped_past : Ty → Numbers → Numbers
stepped_past t n = update_past t (past_new (conv_past (promote t) (past_new n)))

abbrev pub stepped_result : Ty → Numbers → ℕ
stepped_result t n = update_result t (past_new (conv_past (promote t) (past_new n)))

-- to the first arm of `?:` in the next block, or to the other at label l
abbrev pub chosen : Option Ty → ℕ → ℕ → Numbers → Draft → Draft
chosen t x l n s = branch x l (result_past t n) s

-- the end of the first arm, and of the last one
abbrev pub first_arm : Option Ty → ℕ → ℕ → ℕ → ℕ → Numbers → Draft → Draft
first_arm t d x behind other n s = reach other (past_end (arm_past t n)).block (finish (ends.Jump behind) (arm t d x s))

abbrev pub last_arm : Option Ty → ℕ → ℕ → ℕ → Bool → Numbers → Draft → Draft
last_arm t d x behind opened n s =
    let last = arm_past t n in
    reach behind (past_label opened last).block (begin_block opened last (arm t d x s))

abbrev pub called : Fixed → Option Ty → ℕ → List ℕ → Numbers → Draft → Draft
called y t f args n s = write (instr.Call (result_register t n.reg) f (y.count n.site) args) s

abbrev mutual
  pub written : Fixed → Expr → Numbers → Draft → Draft
  written y (tree.Constant t v) n s = write (instr.Const n.reg (word v)) s
  written y (tree.Read t p) n s = loaded y (spot_at p n) (place_past p n).reg (placed y p n s)
  written y (tree.Convert t e) n s = converted t (result e n) (past e n) (written y e n s)
  written y (tree.Discard e) n s = written y e n s
  written y (tree.Unary t o e) n s = unary o t (result e n) (past e n) (written y e n s)
  written y (tree.Binary t o a b) n s =
      let right = past a n in
      write (operation o t (past b right).reg (result a n) (result b right)) (written y b right (written y a n s))
  written y (tree.Logical o a b) n s =
      let left = past a n in
      let right = past_end (past_reg left) in
      let first = written y a n s in
      let skip = next_label first in
      answered o left.reg (result b right) skip (past b right)
      (written y b right (asked o (result a n) skip left (mark 0 first)))
  written y (tree.Conditional t c a b) n s =
      let asked = past c n in
      let first = past_end (result_past t asked) in
      let second = past_end (arm_past t (past a first)) in
      let tested = written y c n s in
      let behind = next_label tested in
      let other = next_label (mark 0 tested) in
      let yes = written y a first (chosen t (result c n) other asked (mark 0 (mark 0 tested))) in
      let no = written y b second (first_arm t asked.reg (result a first) behind other (past a first) yes) in
      last_arm t asked.reg (result b second) behind (arm_open t b) (past b second) no
  written y (tree.Comma t a b) n s = written y b (past a n) (written y a n s)
  written y (tree.Assign t p e) n s =
      let right = place_past p n in
      stored y (spot_at p n) (result e right) (written y e right (placed y p n s))
  written y (tree.Compound t o u p e) n s =
      let old = place_past p n in
      let loaded = past_new old in
      let right = conv_past u loaded in
      updated y t o u (spot_at p n) (conv_result u old.reg loaded) (result e right) (past e right)
      (written y e right (fetched y u (spot_at p n) old (placed y p n s)))
  written y (tree.Prefix t d p) n s = stepped y t (step_op d) (spot_at p n) (place_past p n) (placed y p n s)
  written y (tree.Postfix t d p) n s = stepped y t (step_op d) (spot_at p n) (place_past p n) (placed y p n s)
  written y (tree.Call t f es) n s =
      called y t f (results es n) (arguments_past es n) (arguments y es n s)
  written y tree.GetChar n s = write (instr.GetChar n.reg) s
  written y (tree.PutChar e) n s = write (instr.PutChar (past e n).reg (result e n)) (written y e n s)
  written y (tree.Exit e) n s = finish (ends.Exit (result e n)) (written y e n s)

  pub placed : Fixed → Place → Numbers → Draft → Draft
  placed y (tree.Scalar x) n s = s
  placed y (tree.Element a e) n s = written y e n s

  pub arguments : Fixed → Arguments → Numbers → Draft → Draft
  arguments y tree.None n s = s
  arguments y (tree.Argument e es) n s = arguments y es (past e n) (written y e n s)
