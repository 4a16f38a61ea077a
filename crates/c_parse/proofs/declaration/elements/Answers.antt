use Rattle.std.proofs.Common.{refl, sym, ◌∙◌, ap, length, [], ◌∷◌, ◌++◌, true, false, Some, None}
use Rattle.std.proofs.lemmas.Result.{err_from_is_err_and}
use Rattle.c_tree.specs.declared.token.Punct.TheVariants as p
use Rattle.c_parse.specs.Classes.{punct}
use Rattle.c_parse.specs.Expressions as ranks
use Rattle.c_parse.specs.Reading.{read_rest, read_lead, read_optional, always, bind, Found}
use Rattle.c_parse.specs.ExpressionReaders as readers
use Rattle.c_parse.specs.ModuleReaders as heads
use Rattle.c_parse.specs.ModuleParts as parts
use Rattle.c_parse.proofs.Steps.{row_ends, row_stays, row_fails, row_step, led, lead_fails, lead_shrinks, optional_some, optional_none, optional_fails}
use Rattle.c_parse.proofs.Steps.{made_fails}
use Rattle.c_parse.proofs.Sizes.{elements_begin, optional_top_keeps}
use Rattle.c_parse.proofs.declaration.elements.Goals as goal

pub row-init : goal.row-init
row-init c = ap (λ z. bind (read_rest heads.is_open always (punct p.Comma ∷ []) heads.next_element
    (read_lead (punct p.Comma) (read_optional readers.expr_first (parts.top_expression c.args.top ranks.Assignment))) (length c.in_ok-first.rest.now) (z, true)
    c.in_ok-first.rest.now) (λ a r. Found a.0 r)) (c.in_ok-push.ensures.ok ∙ ap (λ z. z ++ c.in_ok-first.first ∷ []) c.new-items.ensures) ∙ elements_begin
    c.args.top c.args.t.now c.in_ok-first.first c.in_ok-first.rest.now c.in_ok-first.ensures

pub returns-then-not-starts_expression : goal.returns-then-not-starts_expression
returns-then-not-starts_expression c = sym c.row.invariant ∙ ap (λ z. bind z (λ a r. Found a.0 r))
    (row_step heads.is_open always (punct p.Comma ∷ []) heads.next_element
    (read_lead (punct p.Comma) (read_optional readers.expr_first (parts.top_expression c.args.top ranks.Assignment))) refl
    (lead_shrinks (punct p.Comma) (optional_top_keeps c.args.top)) (c.row.items, true) None c.row.rest.now c.in-Some.next.now refl c.in-Some.ensures.0 refl
    (led (punct p.Comma) (read_optional readers.expr_first (parts.top_expression c.args.top ranks.Assignment)) c.row.rest.now c.in-Some.next.now
    c.in-Some.field-0-0 None c.in-Some.next.now c.in-Some.ensures.1
    (optional_none readers.expr_first (parts.top_expression c.args.top ranks.Assignment) c.in-Some.next.now
    (sym c.starts_expression.ensures ∙ c.if-not-starts_expression.true)))
    ∙ row_stays heads.is_open always (punct p.Comma ∷ []) heads.next_element
    (read_lead (punct p.Comma) (read_optional readers.expr_first (parts.top_expression c.args.top ranks.Assignment))) refl (c.row.items, false)
    c.in-Some.next.now refl)

pub returns-in_err-item : goal.returns-in_err-item
returns-in_err-item c =
    let u = err_from_is_err_and c.from_residual-in_err-item.result c.from_residual-in_err-item.ensures.1 in
    rw (u.1, u.2, sym c.row.invariant) (made_fails (λ a. a.0) (read_rest heads.is_open always (punct p.Comma ∷ []) heads.next_element
    (read_lead (punct p.Comma) (read_optional readers.expr_first (parts.top_expression c.args.top ranks.Assignment))) (length c.row.rest.now)
    (c.row.items, true) c.row.rest.now) c.in_err-item.field-0.0 (row_fails heads.is_open always (punct p.Comma ∷ []) heads.next_element
    (read_lead (punct p.Comma) (read_optional readers.expr_first (parts.top_expression c.args.top ranks.Assignment))) refl (c.row.items, true)
    c.row.rest.now c.in_err-item.field-0.0 refl c.in-Some.ensures.0 refl
    (lead_fails (punct p.Comma) (read_optional readers.expr_first (parts.top_expression c.args.top ranks.Assignment)) c.row.rest.now c.in-Some.next.now
    c.in-Some.field-0-0 c.in_err-item.field-0.0 c.in-Some.ensures.1
    (optional_fails readers.expr_first (parts.top_expression c.args.top ranks.Assignment) c.in-Some.next.now c.in_err-item.field-0.0
    (sym c.starts_expression.ensures ∙ c.if-not-starts_expression.false) c.in_err-item.ensures))))

pub row-smaller : goal.row-smaller
row-smaller c = (lead_shrinks (punct p.Comma) (optional_top_keeps c.args.top)) c.row.rest.now (Some c.in_ok-item.item) c.in_ok-item.next.now
    (led (punct p.Comma) (read_optional readers.expr_first (parts.top_expression c.args.top ranks.Assignment)) c.row.rest.now c.in-Some.next.now
    c.in-Some.field-0-0 (Some c.in_ok-item.item) c.in_ok-item.next.now c.in-Some.ensures.1
    (optional_some readers.expr_first (parts.top_expression c.args.top ranks.Assignment) c.in-Some.next.now c.in_ok-item.item c.in_ok-item.next.now
    (sym c.starts_expression.ensures ∙ c.if-not-starts_expression.false) c.in_ok-item.ensures))

pub row-preserved : goal.row-preserved
row-preserved c =
    ap (λ z. bind (read_rest heads.is_open always (punct p.Comma ∷ []) heads.next_element
    (read_lead (punct p.Comma) (read_optional readers.expr_first (parts.top_expression c.args.top ranks.Assignment))) (length c.in_ok-item.next.now)
    (z, true) c.in_ok-item.next.now) (λ a r. Found a.0 r)) c.in_ok-push-2.ensures.ok
    ∙ ap (λ z. bind z (λ a r. Found a.0 r)) (sym (row_step heads.is_open always (punct p.Comma ∷ []) heads.next_element
    (read_lead (punct p.Comma) (read_optional readers.expr_first (parts.top_expression c.args.top ranks.Assignment))) refl
    (lead_shrinks (punct p.Comma) (optional_top_keeps c.args.top)) (c.row.items, true) (Some c.in_ok-item.item) c.row.rest.now c.in_ok-item.next.now refl
    c.in-Some.ensures.0 refl (led (punct p.Comma) (read_optional readers.expr_first (parts.top_expression c.args.top ranks.Assignment)) c.row.rest.now
    c.in-Some.next.now c.in-Some.field-0-0 (Some c.in_ok-item.item) c.in_ok-item.next.now c.in-Some.ensures.1
    (optional_some readers.expr_first (parts.top_expression c.args.top ranks.Assignment) c.in-Some.next.now c.in_ok-item.item c.in_ok-item.next.now
    (sym c.starts_expression.ensures ∙ c.if-not-starts_expression.false) c.in_ok-item.ensures))))
    ∙ c.row.invariant

pub returns : goal.returns
returns c = sym c.row.invariant ∙ ap (λ z. bind z (λ a r. Found a.0 r))
    (row_ends heads.is_open always (punct p.Comma ∷ []) heads.next_element
    (read_lead (punct p.Comma) (read_optional readers.expr_first (parts.top_expression c.args.top ranks.Assignment))) refl (c.row.items, true) c.row.rest.now
    c.in_default.ensures)
