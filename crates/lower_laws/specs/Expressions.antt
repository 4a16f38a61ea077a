-- The templates of expressions. Each expression has three parts: the numbers that stand behind its code, the register of
-- its result, and its code in front of the code that follows. Operands and arguments come in order from left to right,
-- the index of a target before the right side, and the old word of a compound assignment before it too.
use Rattle.std.specs.Prelude.{ℕ, suc, List, [], ◌∷◌, Bool, true, false, Option, Some, None}
use Rattle.hlo_num.specs.declared.word.Ty.{Ty}
use Rattle.hlo_num.specs.declared.word.Op.TheVariants as op
use Rattle.hlo_num.specs.Words.{promote}
use Rattle.il_core.specs.declared.instr.Instr.TheVariants as instr
use Rattle.il_core.specs.declared.instr.End.{End}
use Rattle.il_core.specs.declared.instr.End.TheVariants as ends
use Rattle.c_typed.specs.declared.expression.LogicalOp.{LogicalOp}
use Rattle.c_typed.specs.declared.expression.LogicalOp.TheVariants as logical
use Rattle.c_typed.specs.Operators.{step_op}
use Rattle.c_typed.specs.Expressions.{Spot, Whole, Part}
use Rattle.c_typed.specs.Trees as tree
use Rattle.c_typed.specs.Trees.{Place, Expr, Arguments}
use Rattle.lower_laws.specs.Code.{Code, put, close, Numbers, past_reg, past_instr, past_end, past_site, past_new, past_label, label, word}
use Rattle.lower_laws.specs.Layouts.{Layout}
use Rattle.lower_laws.specs.Operations.{load, store, conv_past, conv_result, conv_code, operation, unary_past, unary_result, unary_code, update_past}
use Rattle.lower_laws.specs.Operations.{update_result, update_code}

-- whether a block is open behind an expression: none is behind `exit`, or where it comes last
abbrev pub is_open : Expr → Bool
is_open (tree.Constant t v) = true
is_open (tree.Read t p) = true
is_open (tree.Convert t e) = true
is_open (tree.Discard e) = is_open e
is_open (tree.Unary t o e) = true
is_open (tree.Binary t o a b) = true
is_open (tree.Logical o a b) = true
is_open (tree.Conditional t c a b) = true
is_open (tree.Comma t a b) = is_open b
is_open (tree.Assign t p e) = true
is_open (tree.Compound t o u p e) = true
is_open (tree.Prefix t d p) = true
is_open (tree.Postfix t d p) = true
is_open (tree.Call t f es) = true
is_open tree.GetChar = true
is_open (tree.PutChar e) = true
is_open (tree.Exit e) = false

-- a new register for a result, where there is one
abbrev pub result_past : Option Ty → Numbers → Numbers
result_past None n = n
result_past (Some t) n = past_reg n

abbrev pub result_register : Option Ty → ℕ → Option ℕ
result_register None d = None
result_register (Some t) d = Some d

-- an arm of `?:` moves its result there, where there is one; behind a result a block is open
abbrev pub arm_past : Option Ty → Numbers → Numbers
arm_past None n = n
arm_past (Some t) n = past_instr n

abbrev pub arm_code : Option Ty → ℕ → ℕ → Code → Code
arm_code None d s k = k
arm_code (Some t) d s k = put (instr.Move d s) k

abbrev pub arm_open : Option Ty → Expr → Bool
arm_open None e = is_open e
arm_open (Some t) e = true

-- behind the left operand of `&&` and `||`: to the right operand at block a, or past it at block b
abbrev pub logical_end : LogicalOp → ℕ → ℕ → ℕ → End
logical_end logical.And x a b = ends.Branch x a b
logical_end logical.Or x a b = ends.Branch x b a

-- the value where the right operand is skipped
abbrev pub skipped : LogicalOp → ℕ
skipped logical.And = 0
skipped logical.Or = 1

-- the numbers behind
abbrev mutual
  pub past : Expr → Numbers → Numbers
  past (tree.Constant t v) n = past_new n
  past (tree.Read t p) n = past_new (place_past p n)
  past (tree.Convert t e) n = conv_past t (past e n)
  past (tree.Discard e) n = past e n
  past (tree.Unary t o e) n = unary_past o (past e n)
  past (tree.Binary t o a b) n = past_new (past b (past a n))
  past (tree.Logical o a b) n =
      past_end (past_instr (past_end (past_instr (past_new (past b (past_end (past_reg (past a n))))))))
  past (tree.Conditional t c a b) n =
      past_label (arm_open t b) (arm_past t (past b (past_end (arm_past t (past a (past_end (result_past t (past c n))))))))
  past (tree.Comma t a b) n = past b (past a n)
  past (tree.Assign t p e) n = past_instr (past e (place_past p n))
  past (tree.Compound t o u p e) n = update_past t (past e (conv_past u (past_new (place_past p n))))
  past (tree.Prefix t d p) n = update_past t (past_new (conv_past (promote t) (past_new (place_past p n))))
  past (tree.Postfix t d p) n = update_past t (past_new (conv_past (promote t) (past_new (place_past p n))))
  past (tree.Call t f es) n = past_site (past_instr (result_past t (arguments_past es n)))
  past tree.GetChar n = past_new n
  past (tree.PutChar e) n = past_new (past e n)
  past (tree.Exit e) n = past_end (past e n)

  -- behind the index of a place
  pub place_past : Place → Numbers → Numbers
  place_past (tree.Scalar x) n = n
  place_past (tree.Element a e) n = past e n

  pub arguments_past : Arguments → Numbers → Numbers
  arguments_past tree.None n = n
  arguments_past (tree.Argument e es) n = arguments_past es (past e n)

-- the register of the result; it means nothing where there is no result
abbrev pub result : Expr → Numbers → ℕ
result (tree.Constant t v) n = n.reg
result (tree.Read t p) n = (place_past p n).reg
result (tree.Convert t e) n = conv_result t (result e n) (past e n)
result (tree.Discard e) n = n.reg
result (tree.Unary t o e) n = unary_result o (result e n) (past e n)
result (tree.Binary t o a b) n = (past b (past a n)).reg
result (tree.Logical o a b) n = (past a n).reg
result (tree.Conditional t c a b) n = (past c n).reg
result (tree.Comma t a b) n = result b (past a n)
result (tree.Assign t p e) n = result e (place_past p n)
result (tree.Compound t o u p e) n = update_result t (past e (conv_past u (past_new (place_past p n))))
result (tree.Prefix t d p) n = update_result t (past_new (conv_past (promote t) (past_new (place_past p n))))
result (tree.Postfix t d p) n = (place_past p n).reg
result (tree.Call t f es) n = (arguments_past es n).reg
result tree.GetChar n = n.reg
result (tree.PutChar e) n = (past e n).reg
result (tree.Exit e) n = n.reg

-- a place, with the register of its index
abbrev pub spot_at : Place → Numbers → Spot
spot_at (tree.Scalar x) n = Whole x
spot_at (tree.Element a e) n = Part a (result e n)

abbrev pub results : Arguments → Numbers → List ℕ
results tree.None n = []
results (tree.Argument e es) n = result e n ∷ results es (past e n)

-- the code
abbrev mutual
  pub code : Layout → Expr → Numbers → Code → Code
  code y (tree.Constant t v) n k = put (instr.Const n.reg (word v)) k
  code y (tree.Read t p) n k = place_code y p n (put (load y (spot_at p n) (place_past p n).reg) k)
  code y (tree.Convert t e) n k = code y e n (conv_code t (result e n) (past e n) k)
  code y (tree.Discard e) n k = code y e n k
  code y (tree.Unary t o e) n k = code y e n (unary_code o t (result e n) (past e n) k)
  code y (tree.Binary t o a b) n k =
      let right = past a n in
      code y a n (code y b right (put (operation o t (past b right).reg (result a n) (result b right)) k))
  -- the right operand begins a block, and so do the skipped value and what follows
  code y (tree.Logical o a b) n k =
      let left = past a n in
      let right = past_end (past_reg left) in
      let zero_reg = past b right in
      let skip = past_end (past_instr (past_new zero_reg)) in
      code y a n (close (logical_end o (result a n) right.block skip.block)
      (code y b right (put (instr.Const zero_reg.reg (word 0)) (put (instr.Bin op.Ne left.reg (result b right) zero_reg.reg) (close (ends.Jump (suc skip.block))
      (put (instr.Const left.reg (word (skipped o))) (close (ends.Jump (suc skip.block)) k)))))))
  -- each arm begins a block, and so does what follows
  code y (tree.Conditional t c a b) n k =
      let asked = past c n in
      let first = past_end (result_past t asked) in
      let second = past_end (arm_past t (past a first)) in
      let last = arm_past t (past b second) in
      let behind = past_label (arm_open t b) last in
      code y c n (close (ends.Branch (result c n) first.block second.block)
      (code y a first (arm_code t asked.reg (result a first) (close (ends.Jump behind.block)
      (code y b second (arm_code t asked.reg (result b second) (label (arm_open t b) last k)))))))
  code y (tree.Comma t a b) n k = code y a n (code y b (past a n) k)
  code y (tree.Assign t p e) n k =
      let right = place_past p n in
      place_code y p n (code y e right (put (store y (spot_at p n) (result e right)) k))
  code y (tree.Compound t o u p e) n k =
      let old = place_past p n in
      let loaded = past_new old in
      let right = conv_past u loaded in
      place_code y p n (put (load y (spot_at p n) old.reg) (conv_code u old.reg loaded
      (code y e right (update_code y t o u (spot_at p n) (conv_result u old.reg loaded) (result e right) (past e right) k))))
  -- `++v` is `v += 1`, and so is `v++` but for its result
  code y (tree.Prefix t d p) n k =
      let old = place_past p n in
      let loaded = past_new old in
      let one = conv_past (promote t) loaded in
      place_code y p n (put (load y (spot_at p n) old.reg) (conv_code (promote t) old.reg loaded (put (instr.Const one.reg (word 1))
      (update_code y t (step_op d) (promote t) (spot_at p n) (conv_result (promote t) old.reg loaded) one.reg (past_new one) k))))
  code y (tree.Postfix t d p) n k =
      let old = place_past p n in
      let loaded = past_new old in
      let one = conv_past (promote t) loaded in
      place_code y p n (put (load y (spot_at p n) old.reg) (conv_code (promote t) old.reg loaded (put (instr.Const one.reg (word 1))
      (update_code y t (step_op d) (promote t) (spot_at p n) (conv_result (promote t) old.reg loaded) one.reg (past_new one) k))))
  code y (tree.Call t f es) n k =
      let behind = arguments_past es n in
      arguments_code y es n (put (instr.Call (result_register t behind.reg) f (y.count behind.site) (results es n)) k)
  code y tree.GetChar n k = put (instr.GetChar n.reg) k
  code y (tree.PutChar e) n k = code y e n (put (instr.PutChar (past e n).reg (result e n)) k)
  code y (tree.Exit e) n k = code y e n (close (ends.Exit (result e n)) k)

  pub place_code : Layout → Place → Numbers → Code → Code
  place_code y (tree.Scalar x) n k = k
  place_code y (tree.Element a e) n k = code y e n k

  pub arguments_code : Layout → Arguments → Numbers → Code → Code
  arguments_code y tree.None n k = k
  arguments_code y (tree.Argument e es) n k = code y e n (arguments_code y es (past e n) k)
