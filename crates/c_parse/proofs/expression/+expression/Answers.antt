use Rattle.std.proofs.Common.{ℕ, ◌≤◌, refl, sym, ◌∙◌, ap, ap₂, arith, length, [], ◌∷◌, ◌++◌, subst}
use Rattle.std.proofs.lemmas.Result.{err_from_is_err_and}
use Rattle.c_tree.specs.declared.token.Punct.TheVariants as p
use Rattle.c_parse.specs.Classes.{punct, classes}
use Rattle.c_parse.specs.Trees as trees
use Rattle.c_parse.specs.Expressions as ranks
use Rattle.c_parse.specs.Reading.{read_rest, read_both, read_among, read_lead, always}
use Rattle.c_parse.specs.ExpressionReaders as readers
use Rattle.c_parse.specs.Ranks.{operand_rank}
use Rattle.c_parse.specs.Parts as parts
use Rattle.c_parse.specs.Gives.{Fails, Gives}
use Rattle.std.proofs.Common.{Result, Ok, Err, IfOk, List, Bor}
use Rattle.c_tree.specs.declared.token.Token.{Token}
use Rattle.c_parse.specs.declared.node.Measured.{Measured}
use Rattle.c_parse.specs.declared.refusal.Refusal.{Refusal}
use Rattle.c_parse.specs.Ranks.{rank_of}
use Rattle.c_parse.proofs.ExpressionRules.{IsRead}
use Rattle.c_parse.proofs.Steps.{row_stays, picked_shrinks}
use Rattle.c_parse.proofs.Forms.{postfix_node, unary_node, condition_node}
use Rattle.c_parse.proofs.Rounds.{arguments_begin, arguments_found, arguments_fails, arguments_low, enumerator_less, enumerators_begin}
use Rattle.c_parse.proofs.Rounds.{assignment_begins, assignment_less, conditional_begins, conditional_less, or_is_condition, specifier_less}
use Rattle.c_parse.proofs.Rounds.{specifiers_low, whole_comma, whole_assignment, whole_conditional, whole_binary, whole_cast, whole_unary, below_some}
use Rattle.c_parse.proofs.Rounds.{below_none, nothing_deep, nothing_wrong, low, read_code}
use Rattle.c_parse.proofs.Steps.{first_fails, sign_fails, row_ends, row_deep, row_fails, row_step, led, lead_fails, paired, pair_fails}
use Rattle.c_parse.proofs.Rounds.{comma_begins, comma_less, binary_begins, binary_less, operators_end, unary_begins}
use Rattle.c_parse.proofs.expression.+expression.Goals as goal

bound_of : (n : ℕ) (r : ranks.Rank) → IsRead r → (ts : List Token) (res : Result (Measured × Bor (List Token)) Refusal)
    → Gives (λ x. ((x.0.expr, x.0.height), x.1.now)) res (parts.whole n r ts) → IfOk res (λ x. x.0.height ≤ n)
bound_of n r i ts (Ok x) g = low n r i ts _ _ g
bound_of n r i ts (Err e) g = tt

pub comma-row-init : goal.comma-row-init
comma-row-init t c = comma_begins c.args.depth c.args.t.now (c.in_ok-left.left.expr, c.in_ok-left.left.height) c.in_ok-left.rest.now c.in_ok-left.ensures.gives

pub comma-returns-in_err-right : goal.comma-returns-in_err-right
comma-returns-in_err-right t c =
    let u = err_from_is_err_and c.from_residual-in_err-right.result c.from_residual-in_err-right.ensures.1 in
    record {
      gives = rw (u.1, u.2, sym c.row.invariant) (row_fails always (readers.fits c.args.depth) (punct p.Comma ∷ []) trees.comma
          (read_lead (punct p.Comma) (parts.whole c.args.depth ranks.Assignment)) refl (c.row.left.expr, c.row.left.height) c.row.rest.now _ refl
          c.in-Some.ensures.0 (sym c.fits.ensures.exact ∙ c.if-not-fits.false)
          (lead_fails (punct p.Comma) (parts.whole c.args.depth ranks.Assignment) c.row.rest.now c.in-Some.next.now c.in-Some.field-0-0 _ c.in-Some.ensures.1
          c.in_err-right.ensures.gives));
    }

pub comma-comma-requires-clause-left : goal.comma-comma-requires-clause-left
comma-comma-requires-clause-left t c = let h = c.fits.ensures.low c.if-not-fits.false in omega (arith, h, c.ranges.depth.fits)

pub comma-comma-requires-clause-right : goal.comma-comma-requires-clause-right
comma-comma-requires-clause-right t c = let h = c.in_ok-right.ensures.bounded in omega (arith, h, c.ranges.depth.fits)

pub comma-row-smaller : goal.comma-row-smaller
comma-row-smaller t c = comma_less c.args.depth c.row.rest.now (c.in_ok-right.right.expr, c.in_ok-right.right.height) c.in_ok-right.next.now
    (led (punct p.Comma) (parts.whole c.args.depth ranks.Assignment) c.row.rest.now c.in-Some.next.now c.in-Some.field-0-0
    (c.in_ok-right.right.expr, c.in_ok-right.right.height) c.in_ok-right.next.now c.in-Some.ensures.1 c.in_ok-right.ensures.gives)

pub comma-row-preserved : goal.comma-row-preserved
comma-row-preserved t c =
    ap (λ z. read_rest always (readers.fits c.args.depth) (punct p.Comma ∷ []) trees.comma
    (read_lead (punct p.Comma) (parts.whole c.args.depth ranks.Assignment)) (length c.in_ok-right.next.now) z c.in_ok-right.next.now) c.in_ok-left-2.ensures
    ∙ sym (row_step always (readers.fits c.args.depth) (punct p.Comma ∷ []) trees.comma (read_lead (punct p.Comma) (parts.whole c.args.depth ranks.Assignment))
    refl (comma_less c.args.depth) (c.row.left.expr, c.row.left.height) (c.in_ok-right.right.expr, c.in_ok-right.right.height) c.row.rest.now
    c.in_ok-right.next.now refl c.in-Some.ensures.0 (sym c.fits.ensures.exact ∙ c.if-not-fits.false)
    (led (punct p.Comma) (parts.whole c.args.depth ranks.Assignment) c.row.rest.now c.in-Some.next.now c.in-Some.field-0-0
    (c.in_ok-right.right.expr, c.in_ok-right.right.height) c.in_ok-right.next.now c.in-Some.ensures.1 c.in_ok-right.ensures.gives))
    ∙ c.row.invariant

pub comma-returns : goal.comma-returns
comma-returns t c = record {
  gives = sym c.row.invariant ∙ row_ends always (readers.fits c.args.depth) (punct p.Comma ∷ []) trees.comma
      (read_lead (punct p.Comma) (parts.whole c.args.depth ranks.Assignment)) refl (c.row.left.expr, c.row.left.height) c.row.rest.now c.in_default.ensures;
}

pub comma-returns-then-not-fits : goal.comma-returns-then-not-fits
comma-returns-then-not-fits t c = record {
  gives = sym c.row.invariant ∙ row_deep always (readers.fits c.args.depth) (punct p.Comma ∷ []) trees.comma
      (read_lead (punct p.Comma) (parts.whole c.args.depth ranks.Assignment)) refl (c.row.left.expr, c.row.left.height) c.row.rest.now refl c.in-Some.ensures.0
      (sym c.fits.ensures.exact ∙ c.if-not-fits.true);
}

pub binary-row-init : goal.binary-row-init
binary-row-init t c = binary_begins c.args.depth c.args.q c.args.t.now (c.in_ok-left.left.expr, c.in_ok-left.left.height) c.in_ok-left.rest.now
    c.in_ok-left.ensures.gives

pub binary-returns-in_err-right : goal.binary-returns-in_err-right
binary-returns-in_err-right t c =
    let u = err_from_is_err_and c.from_residual-in_err-right.result c.from_residual-in_err-right.ensures.1 in
    record {
      gives = rw (u.1, u.2, sym c.row.invariant) (row_fails always (readers.fits c.args.depth) (classes (ranks.operators c.args.q)) trees.binary
          (read_both (read_among (ranks.operators c.args.q)) (parts.whole c.args.depth (operand_rank c.args.q))) (operators_end c.args.q)
          (c.row.left.expr, c.row.left.height) c.row.rest.now _ refl c.in-Some.ensures.0 (sym c.fits.ensures.exact ∙ c.if-not-fits.false)
          (pair_fails (read_among (ranks.operators c.args.q)) (parts.whole c.args.depth (operand_rank c.args.q)) c.row.rest.now c.in-Some.next.now
          (c.in-Some.op, c.in-Some.field-0-1) c.in_err-right.field-0.0 c.in-Some.ensures.1
          (subst (λ z. Fails c.in_err-right.field-0.0 (parts.whole c.args.depth z c.in-Some.next.now)) c.operand.ensures c.in_err-right.ensures.gives)));
    }

pub binary-binary-requires-clause-left : goal.binary-binary-requires-clause-left
binary-binary-requires-clause-left t c = let h = c.fits.ensures.low c.if-not-fits.false in omega (arith, h, c.ranges.depth.fits)

pub binary-binary-requires-clause-right : goal.binary-binary-requires-clause-right
binary-binary-requires-clause-right t c = let h = c.in_ok-right.ensures.bounded in omega (arith, h, c.ranges.depth.fits)

pub binary-row-smaller : goal.binary-row-smaller
binary-row-smaller t c = binary_less c.args.depth c.args.q c.row.rest.now
    ((c.in-Some.op, c.in-Some.field-0-1), (c.in_ok-right.right.expr, c.in_ok-right.right.height)) c.in_ok-right.next.now
    (paired (read_among (ranks.operators c.args.q)) (parts.whole c.args.depth (operand_rank c.args.q)) c.row.rest.now c.in-Some.next.now
    (c.in-Some.op, c.in-Some.field-0-1) (c.in_ok-right.right.expr, c.in_ok-right.right.height) c.in_ok-right.next.now c.in-Some.ensures.1
    (ap (λ z. parts.whole c.args.depth z c.in-Some.next.now) (sym c.operand.ensures) ∙ c.in_ok-right.ensures.gives))

pub binary-row-preserved : goal.binary-row-preserved
binary-row-preserved t c =
    ap (λ z. read_rest always (readers.fits c.args.depth) (classes (ranks.operators c.args.q)) trees.binary
    (read_both (read_among (ranks.operators c.args.q)) (parts.whole c.args.depth (operand_rank c.args.q))) (length c.in_ok-right.next.now) z
    c.in_ok-right.next.now) c.in_ok-left-2.ensures
    ∙ sym (row_step always (readers.fits c.args.depth) (classes (ranks.operators c.args.q)) trees.binary
    (read_both (read_among (ranks.operators c.args.q)) (parts.whole c.args.depth (operand_rank c.args.q))) (operators_end c.args.q)
    (binary_less c.args.depth c.args.q) (c.row.left.expr, c.row.left.height)
    ((c.in-Some.op, c.in-Some.field-0-1), (c.in_ok-right.right.expr, c.in_ok-right.right.height)) c.row.rest.now c.in_ok-right.next.now refl
    c.in-Some.ensures.0 (sym c.fits.ensures.exact ∙ c.if-not-fits.false)
    (paired (read_among (ranks.operators c.args.q)) (parts.whole c.args.depth (operand_rank c.args.q)) c.row.rest.now c.in-Some.next.now
    (c.in-Some.op, c.in-Some.field-0-1) (c.in_ok-right.right.expr, c.in_ok-right.right.height) c.in_ok-right.next.now c.in-Some.ensures.1
    (ap (λ z. parts.whole c.args.depth z c.in-Some.next.now) (sym c.operand.ensures) ∙ c.in_ok-right.ensures.gives)))
    ∙ c.row.invariant

pub binary-returns : goal.binary-returns
binary-returns t c = record {
  gives = sym c.row.invariant ∙ row_ends always (readers.fits c.args.depth) (classes (ranks.operators c.args.q)) trees.binary
      (read_both (read_among (ranks.operators c.args.q)) (parts.whole c.args.depth (operand_rank c.args.q))) (operators_end c.args.q)
      (c.row.left.expr, c.row.left.height) c.row.rest.now c.in_default.ensures;
}

pub binary-returns-then-not-fits : goal.binary-returns-then-not-fits
binary-returns-then-not-fits t c = record {
  gives = sym c.row.invariant ∙ row_deep always (readers.fits c.args.depth) (classes (ranks.operators c.args.q))
      trees.binary (read_both (read_among (ranks.operators c.args.q)) (parts.whole c.args.depth (operand_rank c.args.q))) (operators_end c.args.q)
      (c.row.left.expr, c.row.left.height) c.row.rest.now refl c.in-Some.ensures.0 (sym c.fits.ensures.exact ∙ c.if-not-fits.true);
}

pub arguments-row-init : goal.arguments-row-init
arguments-row-init t c = ap (λ z. read_rest always always (punct p.Comma ∷ []) trees.add (read_lead (punct p.Comma) (parts.whole c.args.depth ranks.Assignment))
    (length c.in_ok-first.rest.now) (z, c.in_ok-first.first.height) c.in_ok-first.rest.now)
    (c.in_ok-push.ensures.ok ∙ ap (λ z. z ++ c.in_ok-first.first.expr ∷ []) c.new-items.ensures) ∙ arguments_begin c.args.depth c.args.t.now
    (c.in_ok-first.first.expr, c.in_ok-first.first.height) c.in_ok-first.rest.now c.in_ok-first.ensures.gives

pub arguments-returns-in_err-next_item-clause-gives : goal.arguments-returns-in_err-next_item-clause-gives
arguments-returns-in_err-next_item-clause-gives t c =
    let u = err_from_is_err_and c.from_residual-in_err-next_item.result c.from_residual-in_err-next_item.ensures.1 in
    rw (u.1, u.2) (arguments_fails c.args.depth c.args.t.now _ (sym c.starts_expression.ensures ∙ c.if-not-starts_expression.false)
    (rw (sym c.row.invariant) (row_fails always always (punct p.Comma ∷ []) trees.add
    (read_lead (punct p.Comma) (parts.whole c.args.depth ranks.Assignment)) refl (c.row.items, c.row.height) c.row.rest.now _ refl c.in-Some.ensures.0 refl
    (lead_fails (punct p.Comma) (parts.whole c.args.depth ranks.Assignment) c.row.rest.now c.in-Some.next.now c.in-Some.field-0-0 _ c.in-Some.ensures.1
    c.in_err-next_item.ensures.gives))))

pub arguments-row-smaller : goal.arguments-row-smaller
arguments-row-smaller t c = comma_less c.args.depth c.row.rest.now (c.in_ok-next_item.next_item.expr, c.in_ok-next_item.next_item.height)
    c.in_ok-next_item.next.now (led (punct p.Comma) (parts.whole c.args.depth ranks.Assignment) c.row.rest.now c.in-Some.next.now c.in-Some.field-0-0
    (c.in_ok-next_item.next_item.expr, c.in_ok-next_item.next_item.height) c.in_ok-next_item.next.now c.in-Some.ensures.1 c.in_ok-next_item.ensures.gives)

pub arguments-row-preserved : goal.arguments-row-preserved
arguments-row-preserved t c =
    ap₂ (λ x y. read_rest always always (punct p.Comma ∷ []) trees.add (read_lead (punct p.Comma) (parts.whole c.args.depth ranks.Assignment))
    (length c.in_ok-next_item.next.now) (x, y) c.in_ok-next_item.next.now) c.in_ok-push-2.ensures.ok c.max-height.ensures
    ∙ sym (row_step always always (punct p.Comma ∷ []) trees.add (read_lead (punct p.Comma) (parts.whole c.args.depth ranks.Assignment)) refl
    (comma_less c.args.depth) (c.row.items, c.row.height) (c.in_ok-next_item.next_item.expr, c.in_ok-next_item.next_item.height) c.row.rest.now
    c.in_ok-next_item.next.now refl c.in-Some.ensures.0 refl (led (punct p.Comma) (parts.whole c.args.depth ranks.Assignment) c.row.rest.now
    c.in-Some.next.now c.in-Some.field-0-0 (c.in_ok-next_item.next_item.expr, c.in_ok-next_item.next_item.height) c.in_ok-next_item.next.now
    c.in-Some.ensures.1 c.in_ok-next_item.ensures.gives))
    ∙ c.row.invariant

pub arguments-returns-clause-gives : goal.arguments-returns-clause-gives
arguments-returns-clause-gives t c = arguments_found c.args.depth c.args.t.now (c.row.items, c.row.height) c.row.rest.now
    (sym c.starts_expression.ensures ∙ c.if-not-starts_expression.false)
    (sym c.row.invariant ∙ row_ends always always (punct p.Comma ∷ []) trees.add (read_lead (punct p.Comma) (parts.whole c.args.depth ranks.Assignment)) refl
    (c.row.items, c.row.height) c.row.rest.now c.in_default.ensures)

pub arguments-returns-clause-bounded : goal.arguments-returns-clause-bounded
arguments-returns-clause-bounded t c = arguments_low c.args.depth c.args.t.now (c.row.items, c.row.height) c.row.rest.now
    (sym c.row.invariant ∙ row_ends always always (punct p.Comma ∷ []) trees.add (read_lead (punct p.Comma) (parts.whole c.args.depth ranks.Assignment)) refl
    (c.row.items, c.row.height) c.row.rest.now c.in_default.ensures)

pub enumerator_list-row-init : goal.enumerator_list-row-init
enumerator_list-row-init t c = ap (λ z. read_rest always always (punct p.Comma ∷ []) trees.add (read_lead (punct p.Comma) (parts.enumerator c.args.depth))
    (length c.in_ok-first.rest.now) (z, c.in_ok-first.height) c.in_ok-first.rest.now)
    (c.in_ok-push.ensures.ok ∙ ap (λ z. z ++ c.in_ok-first.first ∷ []) c.new-items.ensures) ∙ enumerators_begin c.args.depth c.args.t.now
    (c.in_ok-first.first, c.in_ok-first.height) c.in_ok-first.rest.now c.in_ok-first.ensures.gives

pub enumerator_list-returns-in_err-item : goal.enumerator_list-returns-in_err-item
enumerator_list-returns-in_err-item t c =
    let u = err_from_is_err_and c.from_residual-in_err-item.result c.from_residual-in_err-item.ensures.1 in
    record {
      gives = rw (u.1, u.2, sym c.row.invariant) (row_fails always always (punct p.Comma ∷ []) trees.add
          (read_lead (punct p.Comma) (parts.enumerator c.args.depth)) refl (c.row.items, c.row.height) c.row.rest.now c.in_err-item.field-0.0 refl
          c.in-Some.ensures.0 refl (lead_fails (punct p.Comma) (parts.enumerator c.args.depth) c.row.rest.now c.in-Some.next.now c.in-Some.field-0-0
          c.in_err-item.field-0.0 c.in-Some.ensures.1 c.in_err-item.ensures.gives));
    }

pub enumerator_list-row-smaller : goal.enumerator_list-row-smaller
enumerator_list-row-smaller t c = enumerator_less c.args.depth c.row.rest.now (c.in_ok-item.item, c.in_ok-item.high) c.in_ok-item.next.now
    (led (punct p.Comma) (parts.enumerator c.args.depth) c.row.rest.now c.in-Some.next.now c.in-Some.field-0-0 (c.in_ok-item.item, c.in_ok-item.high)
    c.in_ok-item.next.now c.in-Some.ensures.1 c.in_ok-item.ensures.gives)

pub enumerator_list-row-preserved : goal.enumerator_list-row-preserved
enumerator_list-row-preserved t c =
    ap₂ (λ x y. read_rest always always (punct p.Comma ∷ []) trees.add (read_lead (punct p.Comma) (parts.enumerator c.args.depth))
    (length c.in_ok-item.next.now) (x, y) c.in_ok-item.next.now) c.in_ok-push-2.ensures.ok c.max-height.ensures
    ∙ sym (row_step always always (punct p.Comma ∷ []) trees.add (read_lead (punct p.Comma) (parts.enumerator c.args.depth)) refl (enumerator_less c.args.depth)
    (c.row.items, c.row.height) (c.in_ok-item.item, c.in_ok-item.high) c.row.rest.now c.in_ok-item.next.now refl c.in-Some.ensures.0 refl
    (led (punct p.Comma) (parts.enumerator c.args.depth) c.row.rest.now c.in-Some.next.now c.in-Some.field-0-0 (c.in_ok-item.item, c.in_ok-item.high)
    c.in_ok-item.next.now c.in-Some.ensures.1 c.in_ok-item.ensures.gives))
    ∙ c.row.invariant

pub enumerator_list-returns : goal.enumerator_list-returns
enumerator_list-returns t c = record {
  gives = sym c.row.invariant ∙ row_ends always always (punct p.Comma ∷ []) trees.add
      (read_lead (punct p.Comma) (parts.enumerator c.args.depth)) refl (c.row.items, c.row.height) c.row.rest.now c.in_default.ensures;
}

pub expression-returns-in-Comma-clause-gives : goal.expression-returns-in-Comma-clause-gives
expression-returns-in-Comma-clause-gives t c = rw (c.in-Comma.is, whole_comma c.args.depth c.args.t.now (omega (arith, c.if-depth-eq0.false)))
    c.comma.ensures.gives

pub expression-returns-in-Comma-clause-bounded : goal.expression-returns-in-Comma-clause-bounded
expression-returns-in-Comma-clause-bounded t c = bound_of c.args.depth (rank_of c.args.rank) (read_code c.args.rank) c.args.t.now c.comma.result
    (expression-returns-in-Comma-clause-gives t c)

pub expression-returns-in-Assignment-clause-gives : goal.expression-returns-in-Assignment-clause-gives
expression-returns-in-Assignment-clause-gives t c = rw (c.in-Assignment.is, whole_assignment c.args.depth c.args.t.now (omega (arith, c.if-depth-eq0.false)))
    c.assignment.ensures.gives

pub expression-returns-in-Assignment-clause-bounded : goal.expression-returns-in-Assignment-clause-bounded
expression-returns-in-Assignment-clause-bounded t c = bound_of c.args.depth (rank_of c.args.rank) (read_code c.args.rank) c.args.t.now c.assignment.result
    (expression-returns-in-Assignment-clause-gives t c)

pub expression-returns-in-Conditional-clause-gives : goal.expression-returns-in-Conditional-clause-gives
expression-returns-in-Conditional-clause-gives t c = rw (c.in-Conditional.is, whole_conditional c.args.depth c.args.t.now (omega (arith, c.if-depth-eq0.false)))
    c.conditional.ensures.gives

pub expression-returns-in-Conditional-clause-bounded : goal.expression-returns-in-Conditional-clause-bounded
expression-returns-in-Conditional-clause-bounded t c = bound_of c.args.depth (rank_of c.args.rank) (read_code c.args.rank) c.args.t.now c.conditional.result
    (expression-returns-in-Conditional-clause-gives t c)

pub expression-returns-in-Binary-clause-gives : goal.expression-returns-in-Binary-clause-gives
expression-returns-in-Binary-clause-gives t c = rw (c.in-Binary.is, whole_binary c.args.depth c.in-Binary.q c.args.t.now (omega (arith, c.if-depth-eq0.false)))
    c.binary.ensures.gives

pub expression-returns-in-Binary-clause-bounded : goal.expression-returns-in-Binary-clause-bounded
expression-returns-in-Binary-clause-bounded t c = bound_of c.args.depth (rank_of c.args.rank) (read_code c.args.rank) c.args.t.now c.binary.result
    (expression-returns-in-Binary-clause-gives t c)

pub expression-returns-in-Cast-clause-gives : goal.expression-returns-in-Cast-clause-gives
expression-returns-in-Cast-clause-gives t c = rw (c.in-Cast.is, whole_cast c.args.depth c.args.t.now (omega (arith, c.if-depth-eq0.false)))
    c.unary.ensures.gives

pub expression-returns-in-Cast-clause-bounded : goal.expression-returns-in-Cast-clause-bounded
expression-returns-in-Cast-clause-bounded t c = bound_of c.args.depth (rank_of c.args.rank) (read_code c.args.rank) c.args.t.now c.unary.result
    (expression-returns-in-Cast-clause-gives t c)

pub expression-returns-in-Unary-clause-gives : goal.expression-returns-in-Unary-clause-gives
expression-returns-in-Unary-clause-gives t c = rw (c.in-Unary.is, whole_unary c.args.depth c.args.t.now (omega (arith, c.if-depth-eq0.false)))
    c.unary-in-Unary.ensures.gives

pub expression-returns-in-Unary-clause-bounded : goal.expression-returns-in-Unary-clause-bounded
expression-returns-in-Unary-clause-bounded t c = bound_of c.args.depth (rank_of c.args.rank) (read_code c.args.rank) c.args.t.now c.unary-in-Unary.result
    (expression-returns-in-Unary-clause-gives t c)

pub assignment-returns-then-not-is_unary : goal.assignment-returns-then-not-is_unary
assignment-returns-then-not-is_unary t c = record {
  gives = sym
      (assignment_begins c.args.depth c.args.t.now (c.in_ok-left.left.expr, c.in_ok-left.left.height) c.in_ok-left.rest.now c.in_ok-left.ensures.gives) ∙
      row_stays readers.is_unary (readers.fits c.args.depth) (classes ranks.assignment_operators) trees.assign
      (read_both (read_among ranks.assignment_operators) (parts.whole c.args.depth ranks.Assignment)) refl (c.in_ok-left.left.expr, c.in_ok-left.left.height)
      c.in_ok-left.rest.now (sym c.is_unary.ensures ∙ c.if-not-is_unary.true);
}

pub assignment-returns-in_default : goal.assignment-returns-in_default
assignment-returns-in_default t c = record {
  gives = sym (assignment_begins c.args.depth c.args.t.now (c.in_ok-left.left.expr, c.in_ok-left.left.height)
      c.in_ok-left.rest.now c.in_ok-left.ensures.gives) ∙ row_ends readers.is_unary (readers.fits c.args.depth) (classes ranks.assignment_operators)
      trees.assign
      (read_both (read_among ranks.assignment_operators) (parts.whole c.args.depth ranks.Assignment)) refl (c.in_ok-left.left.expr, c.in_ok-left.left.height)
      c.in_ok-left.rest.now c.in_default.ensures;
}

pub assignment-returns-then-not-fits : goal.assignment-returns-then-not-fits
assignment-returns-then-not-fits t c = record {
  gives = sym (assignment_begins c.args.depth c.args.t.now (c.in_ok-left.left.expr, c.in_ok-left.left.height)
      c.in_ok-left.rest.now c.in_ok-left.ensures.gives) ∙ row_deep readers.is_unary (readers.fits c.args.depth) (classes ranks.assignment_operators)
      trees.assign
      (read_both (read_among ranks.assignment_operators) (parts.whole c.args.depth ranks.Assignment)) refl (c.in_ok-left.left.expr, c.in_ok-left.left.height)
      c.in_ok-left.rest.now (sym c.is_unary.ensures ∙ c.if-not-is_unary.false) c.in-Some.ensures.0 (sym c.fits.ensures.exact ∙ c.if-not-fits.true);
}

pub assignment-returns-in_err-value : goal.assignment-returns-in_err-value
assignment-returns-in_err-value t c =
    let u = err_from_is_err_and c.from_residual-in_err-value.result c.from_residual-in_err-value.ensures.1 in
    record {
      gives = rw (
        u.1,
        u.2,
        sym (assignment_begins c.args.depth c.args.t.now (c.in_ok-left.left.expr, c.in_ok-left.left.height) c.in_ok-left.rest.now
            c.in_ok-left.ensures.gives),
      ) (row_fails readers.is_unary (readers.fits c.args.depth) (classes ranks.assignment_operators) trees.assign
          (read_both (read_among ranks.assignment_operators) (parts.whole c.args.depth ranks.Assignment)) refl
          (c.in_ok-left.left.expr, c.in_ok-left.left.height)
          c.in_ok-left.rest.now c.in_err-value.field-0.0 (sym c.is_unary.ensures ∙ c.if-not-is_unary.false) c.in-Some.ensures.0
          (sym c.fits.ensures.exact ∙ c.if-not-fits.false) (pair_fails (read_among ranks.assignment_operators) (parts.whole c.args.depth ranks.Assignment)
          c.in_ok-left.rest.now c.in-Some.next.now (c.in-Some.op, c.in-Some.field-0-1) c.in_err-value.field-0.0 c.in-Some.ensures.1
          c.in_err-value.ensures.gives));
    }

pub assignment-assign-requires-clause-target : goal.assignment-assign-requires-clause-target
assignment-assign-requires-clause-target t c = let h = c.fits.ensures.low c.if-not-fits.false in omega (arith, h, c.ranges.depth.fits)

pub assignment-assign-requires-clause-value : goal.assignment-assign-requires-clause-value
assignment-assign-requires-clause-value t c = let h = c.in_ok-value.ensures.bounded in omega (arith, h, c.ranges.depth.fits)

pub assignment-returns : goal.assignment-returns
assignment-returns t c = record {
  gives =
      sym (assignment_begins c.args.depth c.args.t.now (c.in_ok-left.left.expr, c.in_ok-left.left.height) c.in_ok-left.rest.now c.in_ok-left.ensures.gives)
      ∙ row_step readers.is_unary (readers.fits c.args.depth) (classes ranks.assignment_operators) trees.assign
      (read_both (read_among ranks.assignment_operators) (parts.whole c.args.depth ranks.Assignment)) refl (assignment_less c.args.depth)
      (c.in_ok-left.left.expr, c.in_ok-left.left.height) ((c.in-Some.op, c.in-Some.field-0-1), (c.in_ok-value.value.expr, c.in_ok-value.value.height))
      c.in_ok-left.rest.now c.in_ok-value.rest.now (sym c.is_unary.ensures ∙ c.if-not-is_unary.false) c.in-Some.ensures.0
      (sym c.fits.ensures.exact ∙ c.if-not-fits.false)
      (paired (read_among ranks.assignment_operators) (parts.whole c.args.depth ranks.Assignment) c.in_ok-left.rest.now c.in-Some.next.now
      (c.in-Some.op, c.in-Some.field-0-1) (c.in_ok-value.value.expr, c.in_ok-value.value.height) c.in_ok-value.rest.now c.in-Some.ensures.1
      c.in_ok-value.ensures.gives)
      ∙ ap (λ z. read_rest readers.is_unary (readers.fits c.args.depth) (classes ranks.assignment_operators) trees.assign
      (read_both (read_among ranks.assignment_operators) (parts.whole c.args.depth ranks.Assignment)) (length c.in_ok-value.rest.now) z
      c.in_ok-value.rest.now) (sym c.in_ok-assign.ensures)
      ∙ row_stays readers.is_unary (readers.fits c.args.depth) (classes ranks.assignment_operators) trees.assign
      (read_both (read_among ranks.assignment_operators) (parts.whole c.args.depth ranks.Assignment)) refl
      (c.in_ok-assign.field-0.expr, c.in_ok-assign.field-0.height) c.in_ok-value.rest.now (ap readers.is_unary c.in_ok-assign.ensures ∙ unary_node _ 0);
}

pub expression-returns-then-starts_expression-clause-gives : goal.expression-returns-then-starts_expression-clause-gives
expression-returns-then-starts_expression-clause-gives t c = rw c.if-depth-eq0.true
    (nothing_deep (rank_of c.args.rank) c.args.t.now (sym c.starts_expression.ensures ∙ c.if-starts_expression.true))

pub expression-returns-then-depth-eq0-clause-gives : goal.expression-returns-then-depth-eq0-clause-gives
expression-returns-then-depth-eq0-clause-gives t c = rw c.if-depth-eq0.true
    (nothing_wrong (rank_of c.args.rank) c.args.t.now (sym c.starts_expression.ensures ∙ c.if-starts_expression.false))

pub tighter-returns-in-None : goal.tighter-returns-in-None
tighter-returns-in-None t c = record { gives = rw (below_none c.args.depth c.args.q c.args.t.now (sym c.tighter.ensures ∙ c.in-None.is)) c.unary.ensures.gives }

pub tighter-returns-in-Some : goal.tighter-returns-in-Some
tighter-returns-in-Some t c = record {
  gives = rw (below_some c.args.depth c.args.q c.in-Some.r c.args.t.now (sym c.tighter.ensures ∙ c.in-Some.is))
      c.binary.ensures.gives;
}

pub unary-row-preserved : goal.unary-row-preserved
unary-row-preserved t c = (
  ap readers.is_postfix c.in_ok-left-2.ensures ∙ postfix_node _ 0,
  ap (λ z. read_rest readers.is_postfix (readers.fits c.args.depth) (classes ranks.steps) trees.postfix (read_among ranks.steps) (length c.in-Some.next.now) z
      c.in-Some.next.now) c.in_ok-left-2.ensures
      ∙ sym (row_step readers.is_postfix (readers.fits c.args.depth) (classes ranks.steps) trees.postfix (read_among ranks.steps) refl (picked_shrinks _)
      (c.row.left.expr, c.row.left.height) (c.in-Some.step, c.in-Some.field-0-1) c.row.rest.now c.in-Some.next.now c.row.invariant.0 c.in-Some.ensures.0
      (sym c.fits.ensures.exact ∙ c.if-not-fits.false) c.in-Some.ensures.1)
      ∙ c.row.invariant.1,
)

pub unary-row-init : goal.unary-row-init
unary-row-init t c = (
  sym c.is_postfix.ensures ∙ c.if-not-is_postfix.false,
  unary_begins c.args.depth c.args.casts c.args.t.now
      (c.in_ok-left.left.expr, c.in_ok-left.left.height) c.in_ok-left.rest.now c.in_ok-left.ensures.gives,
)

pub unary-returns-then-not-fits : goal.unary-returns-then-not-fits
unary-returns-then-not-fits t c = record {
  gives = sym c.row.invariant.1 ∙ row_deep readers.is_postfix (readers.fits c.args.depth) (classes ranks.steps)
      trees.postfix (read_among ranks.steps) refl (c.row.left.expr, c.row.left.height) c.row.rest.now c.row.invariant.0 c.in-Some.ensures.0
      (sym c.fits.ensures.exact ∙ c.if-not-fits.true);
}

pub specifiers-row-smaller : goal.specifiers-row-smaller
specifiers-row-smaller t c = specifier_less c.args.depth c.row.rest.now (c.in_ok-item.item, c.in_ok-item.high) c.in_ok-item.next.now c.in_ok-item.ensures.gives

pub specifiers-row-preserved : goal.specifiers-row-preserved
specifiers-row-preserved t c =
    ap₂ (λ x y. read_rest always always readers.specifier_first trees.next_specifier (parts.specifier c.args.depth) (length c.in_ok-item.next.now)
    (c.line-line.result, (x, y)) c.in_ok-item.next.now) c.in_ok-push-2.ensures.ok c.max-height.ensures
    ∙ sym (row_step always always readers.specifier_first trees.next_specifier (parts.specifier c.args.depth) refl (specifier_less c.args.depth)
    (c.line-line.result, (c.row.items, c.row.height)) (c.in_ok-item.item, c.in_ok-item.high) c.row.rest.now c.in_ok-item.next.now refl
    (sym c.starts_specifiers.ensures ∙ c.row-test.true) refl c.in_ok-item.ensures.gives)
    ∙ c.row.invariant

pub specifiers-returns-clause-bounded : goal.specifiers-returns-clause-bounded
specifiers-returns-clause-bounded t c = specifiers_low c.args.depth c.args.t.now (c.line-line.result, (c.row.items, c.row.height)) c.row.rest.now
    (sym c.row.invariant ∙ row_ends always always readers.specifier_first trees.next_specifier (parts.specifier c.args.depth) refl
    (c.line-line.result, (c.row.items, c.row.height)) c.row.rest.now (sym c.starts_specifiers.ensures ∙ c.row-test.false))

pub conditional-returns-in_default : goal.conditional-returns-in_default
conditional-returns-in_default t c = record {
  gives = sym (conditional_begins c.args.depth c.args.t.now (c.in_ok-left.left.expr, c.in_ok-left.left.height)
      c.in_ok-left.rest.now c.in_ok-left.ensures.gives) ∙ row_ends readers.is_condition (readers.fits c.args.depth) (punct p.Question ∷ []) trees.conditional
      (read_both (read_lead (punct p.Question) (parts.whole c.args.depth ranks.Comma)) (read_lead (punct p.Colon) (parts.whole c.args.depth ranks.Conditional)))
      refl (c.in_ok-left.left.expr, c.in_ok-left.left.height) c.in_ok-left.rest.now c.in_default.ensures;
}

pub conditional-returns-then-not-fits : goal.conditional-returns-then-not-fits
conditional-returns-then-not-fits t c = record {
  gives = sym (conditional_begins c.args.depth c.args.t.now (c.in_ok-left.left.expr, c.in_ok-left.left.height)
      c.in_ok-left.rest.now c.in_ok-left.ensures.gives) ∙ row_deep readers.is_condition (readers.fits c.args.depth) (punct p.Question ∷ []) trees.conditional
      (read_both (read_lead (punct p.Question) (parts.whole c.args.depth ranks.Comma)) (read_lead (punct p.Colon) (parts.whole c.args.depth ranks.Conditional)))
      refl (c.in_ok-left.left.expr, c.in_ok-left.left.height) c.in_ok-left.rest.now
      (or_is_condition c.args.depth c.args.t.now (c.in_ok-left.left.expr, c.in_ok-left.left.height) c.in_ok-left.rest.now c.in_ok-left.ensures.gives)
      c.in-Some.ensures.0 (sym c.fits.ensures.exact ∙ c.if-not-fits.true);
}

pub conditional-returns-in_err-yes : goal.conditional-returns-in_err-yes
conditional-returns-in_err-yes t c =
    let u = err_from_is_err_and c.from_residual-in_err-yes.result c.from_residual-in_err-yes.ensures.1 in
    record {
      gives = rw (
        u.1,
        u.2,
        sym (conditional_begins c.args.depth c.args.t.now (c.in_ok-left.left.expr, c.in_ok-left.left.height) c.in_ok-left.rest.now
            c.in_ok-left.ensures.gives),
      ) (row_fails readers.is_condition (readers.fits c.args.depth) (punct p.Question ∷ []) trees.conditional
          (read_both (read_lead (punct p.Question) (parts.whole c.args.depth ranks.Comma))
          (read_lead (punct p.Colon) (parts.whole c.args.depth ranks.Conditional))) refl (c.in_ok-left.left.expr, c.in_ok-left.left.height)
          c.in_ok-left.rest.now
          c.in_err-yes.field-0.0 (or_is_condition c.args.depth c.args.t.now (c.in_ok-left.left.expr, c.in_ok-left.left.height) c.in_ok-left.rest.now
          c.in_ok-left.ensures.gives) c.in-Some.ensures.0 (sym c.fits.ensures.exact ∙ c.if-not-fits.false)
          (first_fails (read_lead (punct p.Question) (parts.whole c.args.depth ranks.Comma))
          (read_lead (punct p.Colon) (parts.whole c.args.depth ranks.Conditional)) c.in_ok-left.rest.now c.in_err-yes.field-0.0
          (lead_fails (punct p.Question) (parts.whole c.args.depth ranks.Comma) c.in_ok-left.rest.now c.in-Some.next.now c.in-Some.field-0-0
          c.in_err-yes.field-0.0 c.in-Some.ensures.1 c.in_err-yes.ensures.gives)));
    }

pub conditional-returns-in_err-rest : goal.conditional-returns-in_err-rest
conditional-returns-in_err-rest t c =
    let u = err_from_is_err_and c.from_residual-in_err-rest.result c.from_residual-in_err-rest.ensures.1 in
    record {
      gives = rw (
        u.1,
        u.2,
        sym (conditional_begins c.args.depth c.args.t.now (c.in_ok-left.left.expr, c.in_ok-left.left.height) c.in_ok-left.rest.now
            c.in_ok-left.ensures.gives),
      ) (row_fails readers.is_condition (readers.fits c.args.depth) (punct p.Question ∷ []) trees.conditional
          (read_both (read_lead (punct p.Question) (parts.whole c.args.depth ranks.Comma))
          (read_lead (punct p.Colon) (parts.whole c.args.depth ranks.Conditional))) refl (c.in_ok-left.left.expr, c.in_ok-left.left.height)
          c.in_ok-left.rest.now
          c.in_err-rest.field-0.0 (or_is_condition c.args.depth c.args.t.now (c.in_ok-left.left.expr, c.in_ok-left.left.height) c.in_ok-left.rest.now
          c.in_ok-left.ensures.gives) c.in-Some.ensures.0 (sym c.fits.ensures.exact ∙ c.if-not-fits.false)
          (pair_fails (read_lead (punct p.Question) (parts.whole c.args.depth ranks.Comma))
          (read_lead (punct p.Colon) (parts.whole c.args.depth ranks.Conditional)) c.in_ok-left.rest.now c.in_ok-yes.rest.now
          (c.in_ok-yes.yes.expr, c.in_ok-yes.yes.height) c.in_err-rest.field-0.0
          (led (punct p.Question) (parts.whole c.args.depth ranks.Comma) c.in_ok-left.rest.now c.in-Some.next.now c.in-Some.field-0-0
          (c.in_ok-yes.yes.expr, c.in_ok-yes.yes.height) c.in_ok-yes.rest.now c.in-Some.ensures.1 c.in_ok-yes.ensures.gives)
          (sign_fails (punct p.Colon) (parts.whole c.args.depth ranks.Conditional) c.in_ok-yes.rest.now c.in_err-rest.field-0.0 c.in_err-rest.ensures)));
    }

pub conditional-returns-in_err-no : goal.conditional-returns-in_err-no
conditional-returns-in_err-no t c =
    let u = err_from_is_err_and c.from_residual-in_err-no.result c.from_residual-in_err-no.ensures.1 in
    record {
      gives = rw (
        u.1,
        u.2,
        sym (conditional_begins c.args.depth c.args.t.now (c.in_ok-left.left.expr, c.in_ok-left.left.height) c.in_ok-left.rest.now
            c.in_ok-left.ensures.gives),
      ) (row_fails readers.is_condition (readers.fits c.args.depth) (punct p.Question ∷ []) trees.conditional
          (read_both (read_lead (punct p.Question) (parts.whole c.args.depth ranks.Comma))
          (read_lead (punct p.Colon) (parts.whole c.args.depth ranks.Conditional))) refl (c.in_ok-left.left.expr, c.in_ok-left.left.height)
          c.in_ok-left.rest.now
          c.in_err-no.field-0.0 (or_is_condition c.args.depth c.args.t.now (c.in_ok-left.left.expr, c.in_ok-left.left.height) c.in_ok-left.rest.now
          c.in_ok-left.ensures.gives) c.in-Some.ensures.0 (sym c.fits.ensures.exact ∙ c.if-not-fits.false)
          (pair_fails (read_lead (punct p.Question) (parts.whole c.args.depth ranks.Comma))
          (read_lead (punct p.Colon) (parts.whole c.args.depth ranks.Conditional)) c.in_ok-left.rest.now c.in_ok-yes.rest.now
          (c.in_ok-yes.yes.expr, c.in_ok-yes.yes.height) c.in_err-no.field-0.0
          (led (punct p.Question) (parts.whole c.args.depth ranks.Comma) c.in_ok-left.rest.now c.in-Some.next.now c.in-Some.field-0-0
          (c.in_ok-yes.yes.expr, c.in_ok-yes.yes.height) c.in_ok-yes.rest.now c.in-Some.ensures.1 c.in_ok-yes.ensures.gives)
          (lead_fails (punct p.Colon) (parts.whole c.args.depth ranks.Conditional) c.in_ok-yes.rest.now c.in_ok-rest.rest.now c.in_ok-rest.field-0-0
          c.in_err-no.field-0.0 c.in_ok-rest.ensures c.in_err-no.ensures.gives)));
    }

pub conditional-returns : goal.conditional-returns
conditional-returns t c = record {
  gives =
      sym (conditional_begins c.args.depth c.args.t.now (c.in_ok-left.left.expr, c.in_ok-left.left.height) c.in_ok-left.rest.now c.in_ok-left.ensures.gives)
      ∙ row_step readers.is_condition (readers.fits c.args.depth) (punct p.Question ∷ []) trees.conditional
      (read_both (read_lead (punct p.Question) (parts.whole c.args.depth ranks.Comma))
      (read_lead (punct p.Colon) (parts.whole c.args.depth ranks.Conditional))) refl (conditional_less c.args.depth)
      (c.in_ok-left.left.expr, c.in_ok-left.left.height) ((c.in_ok-yes.yes.expr, c.in_ok-yes.yes.height), (c.in_ok-no.no.expr, c.in_ok-no.no.height))
      c.in_ok-left.rest.now c.in_ok-no.rest.now (or_is_condition c.args.depth c.args.t.now (c.in_ok-left.left.expr, c.in_ok-left.left.height)
      c.in_ok-left.rest.now c.in_ok-left.ensures.gives) c.in-Some.ensures.0 (sym c.fits.ensures.exact ∙ c.if-not-fits.false)
      (paired (read_lead (punct p.Question) (parts.whole c.args.depth ranks.Comma)) (read_lead (punct p.Colon) (parts.whole c.args.depth ranks.Conditional))
      c.in_ok-left.rest.now c.in_ok-yes.rest.now (c.in_ok-yes.yes.expr, c.in_ok-yes.yes.height) (c.in_ok-no.no.expr, c.in_ok-no.no.height)
      c.in_ok-no.rest.now (led (punct p.Question) (parts.whole c.args.depth ranks.Comma) c.in_ok-left.rest.now c.in-Some.next.now c.in-Some.field-0-0
      (c.in_ok-yes.yes.expr, c.in_ok-yes.yes.height) c.in_ok-yes.rest.now c.in-Some.ensures.1 c.in_ok-yes.ensures.gives)
      (led (punct p.Colon) (parts.whole c.args.depth ranks.Conditional) c.in_ok-yes.rest.now c.in_ok-rest.rest.now c.in_ok-rest.field-0-0
      (c.in_ok-no.no.expr, c.in_ok-no.no.height) c.in_ok-no.rest.now c.in_ok-rest.ensures c.in_ok-no.ensures.gives))
      ∙ ap (λ z. read_rest readers.is_condition (readers.fits c.args.depth) (punct p.Question ∷ []) trees.conditional
      (read_both (read_lead (punct p.Question) (parts.whole c.args.depth ranks.Comma))
      (read_lead (punct p.Colon) (parts.whole c.args.depth ranks.Conditional))) (length c.in_ok-no.rest.now) z c.in_ok-no.rest.now)
      (sym c.in_ok-conditional.ensures)
      ∙ row_stays readers.is_condition (readers.fits c.args.depth) (punct p.Question ∷ []) trees.conditional
      (read_both (read_lead (punct p.Question) (parts.whole c.args.depth ranks.Comma))
      (read_lead (punct p.Colon) (parts.whole c.args.depth ranks.Conditional))) refl (c.in_ok-conditional.field-0.expr, c.in_ok-conditional.field-0.height)
      c.in_ok-no.rest.now (ap readers.is_condition c.in_ok-conditional.ensures ∙ condition_node _ 0);
}

pub conditional-conditional-requires-clause-condition : goal.conditional-conditional-requires-clause-condition
conditional-conditional-requires-clause-condition t c = let h = c.fits.ensures.low c.if-not-fits.false in omega (arith, h, c.ranges.depth.fits)

pub conditional-conditional-requires-clause-yes : goal.conditional-conditional-requires-clause-yes
conditional-conditional-requires-clause-yes t c = let h = c.in_ok-yes.ensures.bounded in omega (arith, h, c.ranges.depth.fits)

pub conditional-conditional-requires-clause-no : goal.conditional-conditional-requires-clause-no
conditional-conditional-requires-clause-no t c = let h = c.in_ok-no.ensures.bounded in omega (arith, h, c.ranges.depth.fits)
