-- The code of an expression is valid where that of what follows is.
use Rattle.std.proofs.Common.{◌≡◌, ℕ, suc, ◌<◌, ◌≤◌, List, length, Option, Some, None, refl, sym, ap, subst, arith}
use Rattle.std.specs.Prelude.{IsTrue, is_some}
use Rattle.std.specs.List.{AllByRecursion}
use Rattle.hlo_num.specs.declared.word.Ty.{Ty}
use Rattle.hlo_num.specs.Words.{promote}
use Rattle.hlo_num.specs.declared.word.Op.TheVariants as op
use Rattle.il_core.specs.declared.instr.End.TheVariants as ends
use Rattle.il_core.specs.declared.instr.Instr.TheVariants as instr
use Rattle.il_core.specs.declared.shape.ShapeRow.{ShapeRow}
use Rattle.il_core.specs.Program.{shape_at}
use Rattle.il_core.specs.Routine.{RoutineParts}
use Rattle.il_core.specs.Valid.{IsRoutineShape, IsRegIfSome, is_wanted}
use Rattle.c_tree.specs.declared.expression.Step.{Step}
use Rattle.c_typed.specs.declared.expression.Array.TheVariants as arrays
use Rattle.c_typed.specs.declared.expression.Variable.TheVariants as variables
use Rattle.c_typed.specs.Operators.{step_op}
use Rattle.c_typed.specs.Trees as tree
use Rattle.c_typed.specs.Trees.{Place, Expr, Arguments}
use Rattle.lower_laws.specs.Bound.{Scope, HasValue, IsExpr, IsPlace, AreArguments}
use Rattle.lower_laws.specs.Code.{Code, put, Numbers, past_reg, past_instr, past_end, past_new, past_label, word}
use Rattle.lower_laws.specs.Expressions.{skipped, arm_open, result_past, result_register, arm_past, past, place_past, arguments_past, result, spot_at}
use Rattle.lower_laws.specs.Expressions.{results, code, place_code, arguments_code}
use Rattle.lower_laws.specs.Fits.{FitsExpr, FitsPlace, FitsArguments, argument_count}
use Rattle.lower_laws.specs.Layouts.{Layout}
use Rattle.lower_laws.specs.Operations.{load, conv_past, conv_result, conv_code, update_code}
use Rattle.lower_laws.proofs.Growing.{grow_label, grow_result, grow_conv, grow_unary, grow_update, grow, grow_arguments, new_conv, new_here, has_value}
use Rattle.lower_laws.proofs.Growing.{result_new}
use Rattle.lower_laws.proofs.Stands.{HasRoom, Stands, HasSpot, block_below, stands_put, stands_close, stands_label, stands_conv, stands_unary}
use Rattle.lower_laws.proofs.Stands.{stands_arm, stands_update, valid_operation, valid_logical, valid_load, valid_store}

module _ (rows : List ShapeRow) (r : RoutineParts) (y : Layout) (s : Scope) (room : HasRoom r y s) where
  -- the register of a result is one of the routine
  pub there : (e : Expr) (n : Numbers) → IsExpr s e → HasValue e → (past e n).reg ≤ r.regs → result e n < r.regs
  there e n ok has top = omega (arith, (result_new s e n ok has).below, top)

  has_spot : (p : Place) (n : Numbers) → IsPlace s p → FitsPlace rows p → (place_past p n).reg ≤ r.regs → HasSpot rows r y s room (spot_at p n)
  has_spot (tree.Scalar (variables.Parameter x)) n ok fit top = ok
  has_spot (tree.Scalar (variables.Local x)) n ok fit top = ok
  has_spot (tree.Scalar (variables.Object g)) n ok fit top = fit
  has_spot (tree.Element (arrays.Local a) e) n ok fit top = (ok.0, there e n ok.1.0 ok.1.1 top)
  has_spot (tree.Element (arrays.Object g) e) n ok fit top = (there e n ok.1.0 ok.1.1 top, fit.0)

  -- arguments have registers, as many as there are
  all_there : (es : Arguments) (n : Numbers) → AreArguments s es → (arguments_past es n).reg ≤ r.regs → AllByRecursion (λ x. x < r.regs) (results es n)
  all_there tree.None n ok top = tt
  all_there (tree.Argument e es) n ok top =
      (there e n ok.0.0 ok.0.1 (omega (arith, (grow_arguments es (past e n)).reg, top)), all_there es (past e n) ok.1 top)

  count_is : (es : Arguments) (n : Numbers) → length (results es n) ≡ argument_count es
  count_is tree.None n = refl
  count_is (tree.Argument e es) n = ap suc (count_is es (past e n))

  wanted_is : (t : Option Ty) (d : ℕ) → is_wanted (result_register t d) ≡ is_some t
  wanted_is None d = refl
  wanted_is (Some t) d = refl

  result_there : (t : Option Ty) (n : Numbers) → (result_past t n).reg ≤ r.regs → IsRegIfSome r.regs (result_register t n.reg)
  result_there None n top = tt
  result_there (Some t) n top = top

  same_number : (t : Option Ty) (n : Numbers) → (result_past t n).block ≡ n.block
  same_number None n = refl
  same_number (Some t) n = refl

  arm_number : (t : Option Ty) (n : Numbers) → (arm_past t n).block ≡ n.block
  arm_number None n = refl
  arm_number (Some t) n = refl

  arm_reg : (t : Option Ty) (n : Numbers) → (arm_past t n).reg ≡ n.reg
  arm_reg None n = refl
  arm_reg (Some t) n = refl

  -- the register of a conditional's result
  new_result : (t : Option Ty) (n : Numbers) → IsTrue (is_some t) → n.reg < (result_past t n).reg
  new_result (Some t) n has = omega arith
  new_result None n has = absurd cc

  -- an update behind the index of its target: the old word, its conversion
  old_there : (u : Ty) (n : Numbers) → (conv_past u (past_new n)).reg ≤ r.regs → conv_result u n.reg (past_new n) < r.regs
  old_there u n top = omega (
    arith,
    (new_conv u n.reg n (past_new n) (record { reg = omega arith; block = omega arith; size = omega arith })
        (new_here n)).below,
    top,
  )

  before_step : (t : Ty) (d : Step) (p : Place) (n : Numbers) → (past (tree.Prefix t d p) n).reg ≤ r.regs → (place_past p n).reg ≤ r.regs
  before_step t d p n top =
      let at = place_past p n in
      let one = conv_past (promote t) (past_new at) in
      omega (arith, (grow_update t (past_new one)).reg, (grow_conv (promote t) (past_new at)).reg, top)

  -- `++v` and `v++` behind the index of their target
  stands_step : {k : Code} (t : Ty) (d : Step) (p : Place) (n : Numbers) → IsPlace s p → FitsPlace rows p
      → (past (tree.Prefix t d p) n).reg ≤ r.regs → Stands rows r (past (tree.Prefix t d p) n) k
      → Stands rows r (place_past p n)
      (put (load y (spot_at p n) (place_past p n).reg) (conv_code (promote t) (place_past p n).reg (past_new (place_past p n))
      (put (instr.Const (conv_past (promote t) (past_new (place_past p n))).reg (word 1))
      (update_code y t (step_op d) (promote t) (spot_at p n) (conv_result (promote t) (place_past p n).reg (past_new (place_past p n)))
      (conv_past (promote t) (past_new (place_past p n))).reg (past_new (conv_past (promote t) (past_new (place_past p n)))) k))))
  stands_step t d p n ok fit top h =
      let at = place_past p n in
      let u = promote t in
      let one = conv_past u (past_new at) in
      let next = past_new one in
      let le2 : suc one.reg ≤ r.regs = omega (arith, (grow_update t next).reg, top) in
      let le1 : one.reg ≤ r.regs = omega (arith, le2) in
      let new : at.reg < r.regs = omega (arith, (grow_conv u (past_new at)).reg, le1) in
      let spot = has_spot p n ok fit (omega (arith, new)) in
      stands_put rows r at (past_new at) refl (valid_load rows r y s room (spot_at p n) at.reg spot new)
      (stands_conv rows r u at.reg (past_new at) new le1
      (stands_put rows r one next refl le2
      (stands_update rows r y s room t (step_op d) u (spot_at p n) (conv_result u at.reg (past_new at)) one.reg next spot
      (old_there u at le1) le2 top h)))

  mutual
    pub stands_expr : {k : Code} (e : Expr) (n : Numbers) → IsExpr s e → FitsExpr rows e → (past e n).reg ≤ r.regs → Stands rows r (past e n) k
        → Stands rows r n (code y e n k)
    stands_expr (tree.Constant t v) n ok fit top h = stands_put rows r n (past_new n) refl (omega (arith, top)) h
    stands_expr (tree.Read t p) n ok fit top h =
        let at = place_past p n in
        let le : at.reg ≤ r.regs = omega (arith, top) in
        stands_place p n ok fit le
        (stands_put rows r at (past_new at) refl (valid_load rows r y s room (spot_at p n) at.reg (has_spot p n ok fit le) (omega (arith, top))) h)
    stands_expr (tree.Convert t e) n ok fit top h =
        let le : (past e n).reg ≤ r.regs = omega (arith, (grow_conv t (past e n)).reg, top) in
        stands_expr e n ok.0 fit le (stands_conv rows r t (result e n) (past e n) (there e n ok.0 ok.1 le) top h)
    stands_expr (tree.Discard e) n ok fit top h = stands_expr e n ok fit top h
    stands_expr (tree.Unary t o e) n ok fit top h =
        let le : (past e n).reg ≤ r.regs = omega (arith, (grow_unary o (past e n)).reg, top) in
        stands_expr e n ok.0 fit le (stands_unary rows r o t (result e n) (past e n) (there e n ok.0 ok.1 le) top h)
    stands_expr (tree.Binary t o a b) n ok fit top h =
        let n1 = past a n in
        let n2 = past b n1 in
        let le2 : n2.reg ≤ r.regs = omega (arith, top) in
        let le1 : n1.reg ≤ r.regs = omega (arith, (grow b n1).reg, le2) in
        stands_expr a n ok.0.0 fit.0 le1 (stands_expr b n1 ok.1.0 fit.1 le2
        (stands_put rows r n2 (past_new n2) refl
        (valid_operation rows r o t n2.reg (result a n) (result b n1) (omega (arith, top)) (there a n ok.0.0 ok.0.1 le1) (there b n1 ok.1.0 ok.1.1 le2)) h))
    stands_expr {k} (tree.Logical o a b) n ok fit top h =
        let left = past a n in
        let right = past_end (past_reg left) in
        let zero_reg = past b right in
        let one_reg = past_new zero_reg in
        let put_reg = past_instr one_reg in
        let skip = past_end put_reg in
        let last = past_instr skip in
        let g = grow b right in
        let le2 : zero_reg.reg ≤ r.regs = omega (arith, top) in
        let le1 : left.reg ≤ r.regs = omega (arith, g.reg, le2) in
        let new : left.reg < r.regs = omega (arith, g.reg, le2) in
        let far : suc skip.block < length r.blocks = block_below rows r h in
        let h5 = stands_close rows r {e = ends.Jump (suc skip.block)} last (past_end last) refl (omega arith, far) h in
        let h4 = stands_put rows r {i = instr.Const left.reg (word (skipped o))} skip last refl new h5 in
        let h3 = stands_close rows r {e = ends.Jump (suc skip.block)} put_reg skip refl (omega arith, far) h4 in
        let h2 = stands_put rows r {i = instr.Bin op.Ne left.reg (result b right) zero_reg.reg} one_reg put_reg refl
        (new, there b right ok.1.0 ok.1.1 le2, omega (arith, top)) h3 in
        let h1 = stands_put rows r {i = instr.Const zero_reg.reg (word 0)} zero_reg one_reg refl (omega (arith, top)) h2 in
        let hb = stands_expr b right ok.1.0 fit.1 le2 h1 in
        stands_expr a n ok.0.0 fit.0 le1
        (stands_close rows r left right refl
        (valid_logical rows r o (result a n) right.block skip.block left.block (there a n ok.0.0 ok.0.1 le1) (omega arith, block_below rows r hb)
        (omega (arith, g.block), block_below rows r h4)) hb)
    stands_expr {k} (tree.Conditional t c a b) n ok fit top h =
        let asked = past c n in
        let n1 = result_past t asked in
        let first = past_end n1 in
        let yes = past a first in
        let yes1 = arm_past t yes in
        let second = past_end yes1 in
        let no = past b second in
        let last = arm_past t no in
        let behind = past_label (arm_open t b) last in
        let gl = grow_label (arm_open t b) last in
        let ga = grow a first in
        let gb = grow b second in
        let le3 : no.reg ≤ r.regs = omega (arith, arm_reg t no, gl.reg, top) in
        let le2 : yes.reg ≤ r.regs = omega (arith, arm_reg t yes, gb.reg, le3) in
        let le1 : n1.reg ≤ r.regs = omega (arith, ga.reg, le2) in
        let le0 : asked.reg ≤ r.regs = omega (arith, (grow_result t asked).reg, le1) in
        let h4 = stands_label rows r (arm_open t b) last h in
        let h3 = stands_arm rows r t asked.reg (result b second) no
        (λ has. (omega (arith, new_result t asked has, le1), there b second ok.2.0 (has_value b t ok.2.1 has) le3)) h4 in
        let hb = stands_expr b second ok.2.0 fit.2 le3 h3 in
        let far : behind.block < length r.blocks = block_below rows r h in
        let h2 = stands_close rows r {e = ends.Jump behind.block} yes1 second refl (omega (arith, gb.block, arm_number t no, gl.block), far) hb in
        let h1 = stands_arm rows r t asked.reg (result a first) yes
        (λ has. (omega (arith, new_result t asked has, le1), there a first ok.1.0 (has_value a t ok.1.1 has) le2)) h2 in
        let ha = stands_expr a first ok.1.0 fit.1 le2 h1 in
        stands_expr c n ok.0.0 fit.0 le0
        (stands_close rows r asked first (ap suc (same_number t asked)) (
          there c n ok.0.0 ok.0.1 le0,
          (omega (arith, same_number t asked), block_below rows r ha),
          (omega (arith, same_number t asked, ga.block, arm_number t yes), block_below rows r hb),
        ) ha)
    stands_expr (tree.Comma t a b) n ok fit top h =
        stands_expr a n ok.0 fit.0 (omega (arith, (grow b (past a n)).reg, top)) (stands_expr b (past a n) ok.1 fit.1 top h)
    stands_expr (tree.Assign t p e) n ok fit top h =
        let at = place_past p n in
        let le0 : at.reg ≤ r.regs = omega (arith, (grow e at).reg, top) in
        stands_place p n ok.0 fit.0 le0 (stands_expr e at ok.1.0 fit.1 top
        (stands_put rows r (past e at) (past_instr (past e at)) refl
        (valid_store rows r y s room (spot_at p n) (result e at) (has_spot p n ok.0 fit.0 le0) (there e at ok.1.0 ok.1.1 top)) h))
    stands_expr (tree.Compound t o u p e) n ok fit top h =
        let at = place_past p n in
        let right = conv_past u (past_new at) in
        let le2 : (past e right).reg ≤ r.regs = omega (arith, (grow_update t (past e right)).reg, top) in
        let le1 : right.reg ≤ r.regs = omega (arith, (grow e right).reg, le2) in
        let new : at.reg < r.regs = omega (arith, (grow_conv u (past_new at)).reg, le1) in
        let spot = has_spot p n ok.0 fit.0 (omega (arith, new)) in
        stands_place p n ok.0 fit.0 (omega (arith, new))
        (stands_put rows r at (past_new at) refl (valid_load rows r y s room (spot_at p n) at.reg spot new)
        (stands_conv rows r u at.reg (past_new at) new le1
        (stands_expr e right ok.1.0 fit.1 le2
        (stands_update rows r y s room t o u (spot_at p n) (conv_result u at.reg (past_new at)) (result e right) (past e right) spot
        (old_there u at le1) (there e right ok.1.0 ok.1.1 le2) top h))))
    stands_expr (tree.Prefix t d p) n ok fit top h = stands_place p n ok fit (before_step t d p n top) (stands_step t d p n ok fit top h)
    stands_expr (tree.Postfix t d p) n ok fit top h = stands_place p n ok fit (before_step t d p n top) (stands_step t d p n ok fit top h)
    stands_expr (tree.Call t f es) n ok fit top h =
        let at = arguments_past es n in
        let le : at.reg ≤ r.regs = omega (arith, (grow_result t at).reg, top) in
        stands_arguments es n ok fit.0 le
        (stands_put rows r at (past (tree.Call t f es) n) (same_number t at)
        (result_there t at top, all_there es n ok le, fits_call) h)
      where
        fits_call : IsRoutineShape (shape_at rows f) (length (results es n)) (is_wanted (result_register t (arguments_past es n).reg))
        fits_call = subst (λ c. IsRoutineShape (shape_at rows f) c (is_wanted (result_register t (arguments_past es n).reg))) (sym (count_is es n))
            (subst (λ b. IsRoutineShape (shape_at rows f) (argument_count es) b) (sym (wanted_is t (arguments_past es n).reg)) fit.1)
    stands_expr tree.GetChar n ok fit top h = stands_put rows r n (past_new n) refl (omega (arith, top)) h
    stands_expr (tree.PutChar e) n ok fit top h =
        let le : (past e n).reg ≤ r.regs = omega (arith, top) in
        stands_expr e n ok.0 fit le
        (stands_put rows r (past e n) (past_new (past e n)) refl (omega (arith, top), there e n ok.0 ok.1 le) h)
    stands_expr (tree.Exit e) n ok fit top h =
        stands_expr e n ok.0 fit top (stands_close rows r (past e n) (past_end (past e n)) refl (there e n ok.0 ok.1 top) h)

    pub stands_place : {k : Code} (p : Place) (n : Numbers) → IsPlace s p → FitsPlace rows p → (place_past p n).reg ≤ r.regs
        → Stands rows r (place_past p n) k → Stands rows r n (place_code y p n k)
    stands_place (tree.Scalar x) n ok fit top h = h
    stands_place (tree.Element a e) n ok fit top h = stands_expr e n ok.1.0 fit.1 top h

    pub stands_arguments : {k : Code} (es : Arguments) (n : Numbers) → AreArguments s es → FitsArguments rows es
        → (arguments_past es n).reg ≤ r.regs → Stands rows r (arguments_past es n) k → Stands rows r n (arguments_code y es n k)
    stands_arguments tree.None n ok fit top h = h
    stands_arguments (tree.Argument e es) n ok fit top h =
        stands_expr e n ok.0.0 fit.0 (omega (arith, (grow_arguments es (past e n)).reg, top)) (stands_arguments es (past e n) ok.1 fit.1 top h)
