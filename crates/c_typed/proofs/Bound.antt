-- Two bounds above the turns left give the same, and turns never come back.
use Rattle.std.proofs.Common.{◌≡◌, ℕ, zero, suc, ◌<◌, ◌≤◌, List, Bool, true, false, refl, ap, sym, ◌∙◌, arith, length}
use Rattle.std.specs.Prelude.{if◌then◌else◌, nat_lt, Option, Some, None, Result, Ok, Err, ⊤}
use Rattle.std.specs.List.{list_any}
use Rattle.hlo_num.specs.declared.word.Ty.{Ty}
use Rattle.hlo_num.specs.declared.word.Trap.{Trap}
use Rattle.hlo_num.specs.declared.word.Trap.TheVariants.{Index}
use Rattle.hlo_num.specs.Words.{convert, promote}
use Rattle.il_core.specs.World.{World, Trapped, OutOfTurns, Outcome, Returns, Ends, Stuck, ended, turn, turn_at, choose, put_element, with_object}
use Rattle.il_core.specs.Meaning.{Lengths}
use Rattle.c_typed.specs.declared.expression.Array.TheVariants as arrays
use Rattle.c_typed.specs.declared.expression.BinaryOp.{BinaryOp}
use Rattle.c_typed.specs.declared.expression.LogicalOp.{LogicalOp}
use Rattle.c_typed.specs.declared.expression.LogicalOp.TheVariants as logical
use Rattle.c_typed.specs.declared.expression.Variable.TheVariants as variables
use Rattle.c_typed.specs.declared.statement.Label.{Label}
use Rattle.c_typed.specs.Operators.{binary, unary, step_op}
use Rattle.c_typed.specs.Results.{Locals, Value, Is, Cut, Flow, Normal, Breaks, Continues, Leaves, and_then, and_do, and_next, and_again, switched}
use Rattle.c_typed.specs.Results.{word_or_trap, inside, called, outcome}
use Rattle.c_typed.specs.Trees.{Place, Scalar, Element, Expr, Constant, Read, Convert, Discard, Unary, Binary, Logical, Conditional, Comma, Assign}
use Rattle.c_typed.specs.Trees.{Compound, Prefix, Postfix, Call, GetChar, PutChar, Exit, Arguments, None as none, Argument, Stmt, Empty, Sequence}
use Rattle.c_typed.specs.Trees.{Declaration, Expression, If, IfElse, Switch, While, Do, For, Break, Continue, Return, Sections, End, Section, Function}
use Rattle.c_typed.specs.Expressions.{Spot, Whole, Part, length_of, element_in, load, store, decide, update, Calls, expr, place, arguments}
use Rattle.c_typed.specs.Statements.{Next, optional, condition, returned, stmt, run, enter, is_target}
use Rattle.c_typed.specs.Meaning.{Program, function_at, lengths, locals_of, begin, flow, call_function}

module _ {S : Type 0} where
  -- no more than t turns are left
  abbrev pub OutcomeLater : ℕ → Outcome S → Type 0
  OutcomeLater t (Returns v w) = w.turns ≤ t
  OutcomeLater t (Ends e output log) = ⊤
  OutcomeLater t Stuck = ⊤

  abbrev pub ValueLater : {A : Type 0} → ℕ → Value S A → Type 0
  ValueLater t (Is v l w) = w.turns ≤ t
  ValueLater t (Cut o) = OutcomeLater t o

  abbrev pub FlowLater : ℕ → Flow S → Type 0
  FlowLater t (Normal l w) = w.turns ≤ t
  FlowLater t (Breaks l w) = w.turns ≤ t
  FlowLater t (Continues l w) = w.turns ≤ t
  FlowLater t (Leaves o) = OutcomeLater t o

  pub outcome_more : (t u : ℕ) (o : Outcome S) → u ≤ t → OutcomeLater u o → OutcomeLater t o
  outcome_more t u (Returns v w) le a = omega (arith, a)
  outcome_more t u (Ends e output log) le a = tt
  outcome_more t u Stuck le a = tt

  pub value_more : {A : Type 0} (t u : ℕ) (x : Value S A) → u ≤ t → ValueLater u x → ValueLater t x
  value_more t u (Is v l w) le a = omega (arith, a)
  value_more t u (Cut o) le a = outcome_more t u o le a

  pub flow_more : (t u : ℕ) (x : Flow S) → u ≤ t → FlowLater u x → FlowLater t x
  flow_more t u (Normal l w) le a = omega (arith, a)
  flow_more t u (Breaks l w) le a = omega (arith, a)
  flow_more t u (Continues l w) le a = omega (arith, a)
  flow_more t u (Leaves o) le a = outcome_more t u o le a

  -- the second is the first, which leaves no more than t turns
  abbrev pub SameOutcome : ℕ → Outcome S → Outcome S → Type 0
  SameOutcome t a b = (b ≡ a) × OutcomeLater t a

  abbrev pub SameValue : {A : Type 0} → ℕ → Value S A → Value S A → Type 0
  SameValue t a b = (b ≡ a) × ValueLater t a

  abbrev pub SameFlow : ℕ → Flow S → Flow S → Type 0
  SameFlow t a b = (b ≡ a) × FlowLater t a

  -- with at most t turns left the two do the same
  pub record CallsSame (t : ℕ) (c e : Calls S) : Type 0 where
    pub by : (q : ℕ) (args : List ℕ) (w : World S) → w.turns ≤ t → SameOutcome w.turns (c q args w) (e q args w)

  pub record AgainSame (t : ℕ) (a b : Stmt → Next S) : Type 0 where
    pub by : (s : Stmt) (l : Locals) (w : World S) → w.turns ≤ t → SameFlow w.turns (a s l w) (b s l w)

  -- one lemma for each way to go on
  then_same : {A B : Type 0} (t : ℕ) (x y : Value S A) (f g : A → Locals → World S → Value S B) → SameValue t x y
      → ((v : A) (l : Locals) (w : World S) → w.turns ≤ t → SameValue w.turns (f v l w) (g v l w)) → SameValue t (and_then x f) (and_then y g)
  then_same t (Is v l w) y f g p q = let r = q v l w p.1 in (ap (λ z. and_then z g) p.0 ∙ r.0, value_more t w.turns (f v l w) p.1 r.1)
  then_same t (Cut o) y f g p q = (ap (λ z. and_then z g) p.0, p.1)

  do_same : {A : Type 0} (t : ℕ) (x y : Value S A) (f g : A → Next S) → SameValue t x y
      → ((v : A) (l : Locals) (w : World S) → w.turns ≤ t → SameFlow w.turns (f v l w) (g v l w)) → SameFlow t (and_do x f) (and_do y g)
  do_same t (Is v l w) y f g p q = let r = q v l w p.1 in (ap (λ z. and_do z g) p.0 ∙ r.0, flow_more t w.turns (f v l w) p.1 r.1)
  do_same t (Cut o) y f g p q = (ap (λ z. and_do z g) p.0, p.1)

  next_same : (t : ℕ) (x y : Flow S) (f g : Next S) → SameFlow t x y → ((l : Locals) (w : World S) → w.turns ≤ t → SameFlow w.turns (f l w) (g l w))
      → SameFlow t (and_next x f) (and_next y g)
  next_same t (Normal l w) y f g p q = let r = q l w p.1 in (ap (λ z. and_next z g) p.0 ∙ r.0, flow_more t w.turns (f l w) p.1 r.1)
  next_same t (Breaks l w) y f g p q = (ap (λ z. and_next z g) p.0, p.1)
  next_same t (Continues l w) y f g p q = (ap (λ z. and_next z g) p.0, p.1)
  next_same t (Leaves o) y f g p q = (ap (λ z. and_next z g) p.0, p.1)

  again_same : (t : ℕ) (x y : Flow S) (f g : Next S) → SameFlow t x y → ((l : Locals) (w : World S) → w.turns ≤ t → SameFlow w.turns (f l w) (g l w))
      → SameFlow t (and_again x f) (and_again y g)
  again_same t (Normal l w) y f g p q = let r = q l w p.1 in (ap (λ z. and_again z g) p.0 ∙ r.0, flow_more t w.turns (f l w) p.1 r.1)
  again_same t (Breaks l w) y f g p q = (ap (λ z. and_again z g) p.0, p.1)
  again_same t (Continues l w) y f g p q = let r = q l w p.1 in (ap (λ z. and_again z g) p.0 ∙ r.0, flow_more t w.turns (f l w) p.1 r.1)
  again_same t (Leaves o) y f g p q = (ap (λ z. and_again z g) p.0, p.1)

  switched_same : (t : ℕ) (x y : Flow S) → SameFlow t x y → SameFlow t (switched x) (switched y)
  switched_same t (Normal l w) y p = (ap switched p.0, p.1)
  switched_same t (Breaks l w) y p = (ap switched p.0, p.1)
  switched_same t (Continues l w) y p = (ap switched p.0, p.1)
  switched_same t (Leaves o) y p = (ap switched p.0, p.1)

  called_same : (t : ℕ) (l : Locals) (a b : Outcome S) → SameOutcome t a b → SameValue t (called l a) (called l b)
  called_same t l (Returns v w) b p = (ap (called l) p.0, p.1)
  called_same t l (Ends e output log) b p = (ap (called l) p.0, tt)
  called_same t l Stuck b p = (ap (called l) p.0, tt)

  outcome_same : (t : ℕ) (x y : Flow S) → SameFlow t x y → SameOutcome t (outcome x) (outcome y)
  outcome_same t (Normal l w) y p = (ap outcome p.0, p.1)
  outcome_same t (Breaks l w) y p = (ap outcome p.0, tt)
  outcome_same t (Continues l w) y p = (ap outcome p.0, tt)
  outcome_same t (Leaves o) y p = (ap outcome p.0, p.1)

  choose_value : {A : Type 0} (t x : ℕ) (a a1 b b1 : Value S A) → SameValue t a b → SameValue t a1 b1 → SameValue t (choose x a a1) (choose x b b1)
  choose_value t zero a a1 b b1 p q = q
  choose_value t (suc x) a a1 b b1 p q = p

  choose_flow : (t x : ℕ) (a a1 b b1 : Flow S) → SameFlow t a b → SameFlow t a1 b1 → SameFlow t (choose x a a1) (choose x b b1)
  choose_flow t zero a a1 b b1 p q = q
  choose_flow t (suc x) a a1 b b1 p q = p

  if_flow : (t : ℕ) (c : Bool) (a a1 b b1 : Flow S) → SameFlow t a b → SameFlow t a1 b1 → SameFlow t (if c then a else a1) (if c then b else b1)
  if_flow t true a a1 b b1 p q = p
  if_flow t false a a1 b b1 p q = q

  -- what asks neither calls nor ways back
  word_later : (r : Result ℕ Trap) (l : Locals) (w : World S) → ValueLater w.turns (word_or_trap r l w)
  word_later (Ok v) l w = omega arith
  word_later (Err t) l w = tt

  if_later : (c : Bool) (t : ℕ) (x y : Value S ℕ) → ValueLater t x → ValueLater t y → ValueLater t (if c then x else y)
  if_later true t x y p q = p
  if_later false t x y p q = q

  inside_later : (i len v : ℕ) (l : Locals) (w w1 : World S) → w1.turns ≤ w.turns → ValueLater w.turns (inside i len w (Is v l w1))
  inside_later i len v l w w1 le = if_later (nat_lt i len) w.turns (Is v l w1) (Cut (ended (Trapped Index) w)) le tt

  load_later : (n : Lengths) (s : Spot) (l : Locals) (w : World S) → ValueLater w.turns (load n s l w)
  load_later n (Whole x) l w = omega arith
  load_later n (Part a i) l w = inside_later i (length_of n a) (element_in a i l w) l w w (omega arith)

  store_later : (n : Lengths) (s : Spot) (v : ℕ) (l : Locals) (w : World S) → ValueLater w.turns (store n s v l w)
  store_later n (Whole (variables.Parameter x)) v l w = omega arith
  store_later n (Whole (variables.Local x)) v l w = omega arith
  store_later n (Whole (variables.Object g)) v l w = omega arith
  store_later n (Part (arrays.Local a) i) v l w = inside_later i (n.array a) v (record l { arrays = put_element l.arrays a i v }) w w (omega arith)
  store_later n (Part (arrays.Object g) i) v l w = inside_later i (n.object g) v l w (with_object w g i v) (omega arith)

  update_same : (n : Lengths) (t : Ty) (o : BinaryOp) (u : Ty) (s : Spot) (old v : ℕ) (l : Locals) (w : World S)
      → SameValue w.turns (update n t o u s old v l w) (update n t o u s old v l w)
  update_same n t o u s old v l w = then_same w.turns (word_or_trap (binary o u (convert u old) v) l w) (word_or_trap (binary o u (convert u old) v) l w) _ _
      (refl, word_later (binary o u (convert u old) v) l w) (λ r l1 w1 le. (refl, store_later n s (convert t r) l1 w1))

  decide_same : (o : LogicalOp) (v : ℕ) (x y : Value S ℕ) (l : Locals) (w : World S) → SameValue w.turns x y
      → SameValue w.turns (decide o v x l w) (decide o v y l w)
  decide_same logical.And v x y l w p = choose_value w.turns v x (Is 0 l w) y (Is 0 l w) p (refl, omega arith)
  decide_same logical.Or v x y l w p = choose_value w.turns v (Is 1 l w) x (Is 1 l w) y (refl, omega arith) p

  module _ (t : ℕ) (c e : Calls S) (hc : CallsSame t c e) (n : Lengths) where
    mutual
      pub expr_same : (x : Expr) (l : Locals) (w : World S) → w.turns ≤ t → SameValue w.turns (expr c n x l w) (expr e n x l w)
      expr_same (Constant y v) l w le = (refl, omega arith)
      expr_same (Read y p) l w le = then_same w.turns _ _ _ _ (place_same p l w le) (λ s l1 w1 le1. (refl, load_later n s l1 w1))
      expr_same (Convert y a) l w le = then_same w.turns _ _ _ _ (expr_same a l w le) (λ v l1 w1 le1. (refl, omega arith))
      expr_same (Discard a) l w le = then_same w.turns _ _ _ _ (expr_same a l w le) (λ v l1 w1 le1. (refl, omega arith))
      expr_same (Unary y o a) l w le = then_same w.turns _ _ _ _ (expr_same a l w le) (λ v l1 w1 le1. (refl, word_later (unary o y v) l1 w1))
      expr_same (Binary y o a b) l w le = then_same w.turns _ _ _ _ (expr_same a l w le)
          (λ v l1 w1 le1. then_same w1.turns _ _ _ _ (expr_same b l1 w1 (omega arith)) (λ v2 l2 w2 le2. (refl, word_later (binary o y v v2) l2 w2)))
      expr_same (Logical o a b) l w le = then_same w.turns _ _ _ _ (expr_same a l w le)
          (λ v l1 w1 le1. decide_same o v _ _ l1 w1 (then_same w1.turns _ _ _ _ (expr_same b l1 w1 (omega arith)) (λ v2 l2 w2 le2. (refl, omega arith))))
      expr_same (Conditional y d a b) l w le = then_same w.turns _ _ _ _ (expr_same d l w le)
          (λ v l1 w1 le1. choose_value w1.turns v _ _ _ _ (expr_same a l1 w1 (omega arith)) (expr_same b l1 w1 (omega arith)))
      expr_same (Comma y a b) l w le = then_same w.turns _ _ _ _ (expr_same a l w le) (λ v l1 w1 le1. expr_same b l1 w1 (omega arith))
      expr_same (Assign y p a) l w le = then_same w.turns _ _ _ _ (place_same p l w le)
          (λ s l1 w1 le1. then_same w1.turns _ _ _ _ (expr_same a l1 w1 (omega arith)) (λ v l2 w2 le2. (refl, store_later n s v l2 w2)))
      expr_same (Compound y o u p a) l w le = then_same w.turns _ _ _ _ (place_same p l w le)
          (λ s l1 w1 le1. then_same w1.turns (load n s l1 w1) (load n s l1 w1) _ _ (refl, load_later n s l1 w1)
          (λ old l2 w2 le2. then_same w2.turns _ _ _ _ (expr_same a l2 w2 (omega arith)) (λ v l3 w3 le3. update_same n y o u s old v l3 w3)))
      expr_same (Prefix y d p) l w le = then_same w.turns _ _ _ _ (place_same p l w le)
          (λ s l1 w1 le1. then_same w1.turns (load n s l1 w1) (load n s l1 w1) _ _ (refl, load_later n s l1 w1)
          (λ old l2 w2 le2. update_same n y (step_op d) (promote y) s old 1 l2 w2))
      expr_same (Postfix y d p) l w le = then_same w.turns _ _ _ _ (place_same p l w le)
          (λ s l1 w1 le1. then_same w1.turns (load n s l1 w1) (load n s l1 w1) _ _ (refl, load_later n s l1 w1)
          (λ old l2 w2 le2. then_same w2.turns _ _ _ _ (update_same n y (step_op d) (promote y) s old 1 l2 w2) (λ v l3 w3 le3. (refl, omega arith))))
      expr_same (Call y q es) l w le = then_same w.turns _ _ _ _ (arguments_same es l w le)
          (λ vs l1 w1 le1. called_same w1.turns l1 (c q vs w1) (e q vs w1) (hc.by q vs w1 (omega arith)))
      expr_same GetChar l w le = (refl, omega arith)
      expr_same (PutChar a) l w le = then_same w.turns _ _ _ _ (expr_same a l w le) (λ v l1 w1 le1. (refl, omega arith))
      expr_same (Exit a) l w le = then_same w.turns _ _ _ _ (expr_same a l w le) (λ v l1 w1 le1. (refl, tt))

      pub place_same : (p : Place) (l : Locals) (w : World S) → w.turns ≤ t → SameValue w.turns (place c n p l w) (place e n p l w)
      place_same (Scalar x) l w le = (refl, omega arith)
      place_same (Element a i) l w le = then_same w.turns _ _ _ _ (expr_same i l w le) (λ v l1 w1 le1. (refl, omega arith))

      pub arguments_same : (es : Arguments) (l : Locals) (w : World S) → w.turns ≤ t → SameValue w.turns (arguments c n es l w) (arguments e n es l w)
      arguments_same none l w le = (refl, omega arith)
      arguments_same (Argument x es) l w le = then_same w.turns _ _ _ _ (expr_same x l w le)
          (λ v l1 w1 le1. then_same w1.turns _ _ _ _ (arguments_same es l1 w1 (omega arith)) (λ vs l2 w2 le2. (refl, omega arith)))

    optional_same : (x : Option Expr) (f g : Next S) (l : Locals) (w : World S) → w.turns ≤ t
        → ((l1 : Locals) (w1 : World S) → w1.turns ≤ w.turns → SameFlow w1.turns (f l1 w1) (g l1 w1))
        → SameFlow w.turns (optional c n x f l w) (optional e n x g l w)
    optional_same None f g l w le p = p l w (omega arith)
    optional_same (Some x) f g l w le p = do_same w.turns _ _ _ _ (expr_same x l w le) (λ v l1 w1 le1. p l1 w1 le1)

    condition_same : (x : Option Expr) (f f1 g g1 : Next S) (l : Locals) (w : World S) → w.turns ≤ t
        → ((l1 : Locals) (w1 : World S) → w1.turns ≤ w.turns → SameFlow w1.turns (f l1 w1) (g l1 w1))
        → ((l1 : Locals) (w1 : World S) → w1.turns ≤ w.turns → SameFlow w1.turns (f1 l1 w1) (g1 l1 w1))
        → SameFlow w.turns (condition c n x f f1 l w) (condition e n x g g1 l w)
    condition_same None f f1 g g1 l w le p q = p l w (omega arith)
    condition_same (Some x) f f1 g g1 l w le p q = do_same w.turns _ _ _ _ (expr_same x l w le)
        (λ v l1 w1 le1. choose_flow w1.turns v _ _ _ _ (p l1 w1 le1) (q l1 w1 le1))

    returned_same : (x : Option Expr) (l : Locals) (w : World S) → w.turns ≤ t → SameFlow w.turns (returned c n x l w) (returned e n x l w)
    returned_same None l w le = (refl, omega arith)
    returned_same (Some x) l w le = do_same w.turns _ _ _ _ (expr_same x l w le) (λ v l1 w1 le1. (refl, omega arith))

    module _ (again again1 : Stmt → Next S) (ha : AgainSame t again again1) where
      mutual
        pub stmt_same : (s : Stmt) (l : Locals) (w : World S) → w.turns ≤ t → SameFlow w.turns (stmt c again n s l w) (stmt e again1 n s l w)
        stmt_same Empty l w le = (refl, omega arith)
        stmt_same (Sequence s s1) l w le = next_same w.turns _ _ _ _ (stmt_same s l w le) (λ l1 w1 le1. stmt_same s1 l1 w1 (omega arith))
        stmt_same (Declaration x None) l w le = (refl, omega arith)
        stmt_same (Declaration x (Some a)) l w le = do_same w.turns _ _ _ _ (expr_same a l w le) (λ v l1 w1 le1. (refl, omega arith))
        stmt_same (Expression a) l w le = do_same w.turns _ _ _ _ (expr_same a l w le) (λ v l1 w1 le1. (refl, omega arith))
        stmt_same (If a s) l w le = do_same w.turns _ _ _ _ (expr_same a l w le)
            (λ v l1 w1 le1. choose_flow w1.turns v _ _ _ _ (stmt_same s l1 w1 (omega arith)) (refl, omega arith))
        stmt_same (IfElse a s s1) l w le = do_same w.turns _ _ _ _ (expr_same a l w le)
            (λ v l1 w1 le1. choose_flow w1.turns v _ _ _ _ (stmt_same s l1 w1 (omega arith)) (stmt_same s1 l1 w1 (omega arith)))
        stmt_same (Switch a ss) l w le = do_same w.turns _ _ _ _ (expr_same a l w le)
            (λ v l1 w1 le1. switched_same w1.turns _ _ (enter_same (is_target v ss) ss l1 w1 (omega arith)))
        stmt_same (While a s) l w le = do_same w.turns _ _ _ _ (expr_same a l w le)
            (λ v l1 w1 le1. choose_flow w1.turns v _ _ _ _ (again_same w1.turns _ _ _ _ (stmt_same s l1 w1 (omega arith))
            (λ l2 w2 le2. ha.by (While a s) l2 w2 (omega arith))) (refl, omega arith))
        stmt_same (Do s a) l w le = again_same w.turns _ _ _ _ (stmt_same s l w le)
            (λ l1 w1 le1. do_same w1.turns _ _ _ _ (expr_same a l1 w1 (omega arith))
            (λ v l2 w2 le2. choose_flow w2.turns v _ _ _ _ (ha.by (Do s a) l2 w2 (omega arith)) (refl, omega arith)))
        stmt_same (For a b d s) l w le =
            optional_same a _ _ l w le (λ l1 w1 le1. condition_same b _ _ _ _ l1 w1 (omega arith)
            (λ l2 w2 le2. again_same w2.turns _ _ _ _ (stmt_same s l2 w2 (omega arith))
            (λ l3 w3 le3. optional_same d _ _ l3 w3 (omega arith) (λ l4 w4 le4. ha.by (For None b d s) l4 w4 (omega arith))))
            (λ l2 w2 le2. (refl, omega arith)))
        stmt_same Break l w le = (refl, omega arith)
        stmt_same Continue l w le = (refl, omega arith)
        stmt_same (Return a) l w le = returned_same a l w le

        run_same : (ss : Sections) (l : Locals) (w : World S) → w.turns ≤ t → SameFlow w.turns (run c again n ss l w) (run e again1 n ss l w)
        run_same End l w le = (refl, omega arith)
        run_same (Section labels s rest) l w le = next_same w.turns _ _ _ _ (stmt_same s l w le) (λ l1 w1 le1. run_same rest l1 w1 (omega arith))

        enter_same : (is : Label → Bool) (ss : Sections) (l : Locals) (w : World S) → w.turns ≤ t
            → SameFlow w.turns (enter c again n is ss l w) (enter e again1 n is ss l w)
        enter_same is End l w le = (refl, omega arith)
        enter_same is (Section labels s rest) l w le = if_flow w.turns (list_any is labels) _ _ _ _
            (next_same w.turns _ _ _ _ (stmt_same s l w le) (λ l1 w1 le1. run_same rest l1 w1 (omega arith))) (enter_same is rest l w le)

  begin_same : (t : ℕ) (f g : Function → Stmt → Next S) (w : World S) → ((x : Function) (s : Stmt) (l : Locals) → SameFlow t (f x s l w) (g x s l w))
      → (o : Option Function) (args : List ℕ) → SameOutcome t (begin f o args w) (begin g o args w)
  begin_same t f g w p None args = (refl, tt)
  begin_same t f g w p (Some x) args = outcome_same t _ _ (p x x.body (locals_of (length x.params) args))

  turn_outcome : (t u : ℕ) (w : World S) (f g : World S → Outcome S) → u ≤ t → ((w1 : World S) → w1.turns < t → SameOutcome w1.turns (f w1) (g w1))
      → SameOutcome u (turn_at (ended OutOfTurns w) f w u) (turn_at (ended OutOfTurns w) g w u)
  turn_outcome t zero w f g le p = (refl, tt)
  turn_outcome t (suc u) w f g le p =
      let w1 : World S = record w { turns = u } in
      let r = p w1 (omega arith) in
      (r.0, outcome_more (suc u) u (f w1) (omega arith) r.1)

  turn_flow : (t u : ℕ) (w : World S) (f g : World S → Flow S) → u ≤ t → ((w1 : World S) → w1.turns < t → SameFlow w1.turns (f w1) (g w1))
      → SameFlow u (turn_at (Leaves (ended OutOfTurns w)) f w u) (turn_at (Leaves (ended OutOfTurns w)) g w u)
  turn_flow t zero w f g le p = (refl, tt)
  turn_flow t (suc u) w f g le p =
      let w1 : World S = record w { turns = u } in
      let r = p w1 (omega arith) in
      (r.0, flow_more (suc u) u (f w1) (omega arith) r.1)

  module _ (p : Program) where
    -- two bounds above the turns left give the same
    pub flow_same : (n m : ℕ) (f : Function) (s : Stmt) (l : Locals) (w : World S) → w.turns < n → w.turns < m
        → SameFlow w.turns (flow p n f s l w) (flow p m f s l w)
    flow_same zero m f s l w ln lm = absurd (omega arith)
    flow_same (suc n) zero f s l w ln lm = absurd (omega arith)
    flow_same (suc n) (suc m) f s l w ln lm =
        stmt_same w.turns _ _
        (record {
          by = λ q args w1 le. turn_outcome w1.turns w1.turns w1 _ _ (omega arith)
              (λ w2 lt. begin_same w2.turns (flow p n) (flow p m) w2 (λ x s1 l1. flow_same n m x s1 l1 w2 (omega arith) (omega arith))
              (function_at p.functions q)
              args);
        })
        (lengths p f) _ _
        (record { by = λ s1 l1 w1 le. turn_flow w1.turns w1.turns w1 _ _ (omega arith) (λ w2 lt. flow_same n m f s1 l1 w2 (omega arith) (omega arith)) })
        s
        l
        w
        (omega arith)

    -- executing a statement with all the turns of the world
    abbrev pub execute : Function → Stmt → Next S
    execute f s l w = flow p (suc w.turns) f s l w

    -- the meaning of C without a bound: calls and ways back cost a turn, and then have all the turns that are left
    pub execute_is : (f : Function) (s : Stmt) (l : Locals) (w : World S)
        → execute f s l w ≡ stmt (λ q args w1. turn (ended OutOfTurns) (λ w2. call_function p q args w2) w1)
        (λ s1 l1 w1. turn (λ w2. Leaves (ended OutOfTurns w2)) (λ w2. execute f s1 l1 w2) w1) (lengths p f) s l w
    execute_is f s l w =
        sym ((stmt_same w.turns _ _
        (record {
          by = λ q args w1 le. turn_outcome w1.turns w1.turns w1 _ _ (omega arith)
              (λ w2 lt. begin_same w2.turns (flow p w.turns) (flow p (suc w2.turns)) w2
              (λ x s1 l1. flow_same w.turns (suc w2.turns) x s1 l1 w2 (omega arith) (omega arith)) (function_at p.functions q) args);
        })
        (lengths p f) _ _
        (record {
          by = λ s1 l1 w1 le. turn_flow w1.turns w1.turns w1 _ _ (omega arith)
              (λ w2 lt. flow_same w.turns (suc w2.turns) f s1 l1 w2 (omega arith) (omega arith));
        })
        s
        l
        w
        (omega arith)).0)

    -- turns never come back
    pub call_later : (q : ℕ) (args : List ℕ) (w : World S) → OutcomeLater w.turns (call_function p q args w)
    call_later q args w = (begin_same w.turns (flow p (suc w.turns)) (flow p (suc w.turns)) w
        (λ x s1 l1. flow_same (suc w.turns) (suc w.turns) x s1 l1 w (omega arith) (omega arith)) (function_at p.functions q) args).1
