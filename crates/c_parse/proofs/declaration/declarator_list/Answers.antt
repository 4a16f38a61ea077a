use Rattle.std.proofs.Common.{refl, sym, ◌∙◌, ap, length, [], ◌∷◌, ◌++◌}
use Rattle.std.proofs.lemmas.Result.{err_from_is_err_and}
use Rattle.c_tree.specs.declared.token.Punct.TheVariants as p
use Rattle.c_parse.specs.Classes.{punct}
use Rattle.c_parse.specs.Trees as trees
use Rattle.c_parse.specs.Reading.{read_rest, read_lead, always}
use Rattle.c_parse.specs.ModuleParts as parts
use Rattle.c_parse.proofs.Steps.{row_ends, row_fails, row_step, led, lead_fails, lead_shrinks}
use Rattle.c_parse.proofs.Sizes.{declarators_begin, declarator_keeps}
use Rattle.c_parse.proofs.declaration.declarator_list.Goals as goal

pub row-init : goal.row-init
row-init c = ap (λ z. read_rest always always (punct p.Comma ∷ []) trees.snoc (read_lead (punct p.Comma) (parts.declarator c.args.top))
    (length c.in_ok-first.rest.now) z c.in_ok-first.rest.now) (c.in_ok-push.ensures.ok ∙ ap (λ z. z ++ c.in_ok-first.first ∷ []) c.new-items.ensures) ∙
    declarators_begin c.args.top c.args.t.now c.in_ok-first.first c.in_ok-first.rest.now c.in_ok-first.ensures

pub returns-in_err-item : goal.returns-in_err-item
returns-in_err-item c =
    let u = err_from_is_err_and c.from_residual-in_err-item.result c.from_residual-in_err-item.ensures.1 in
    rw (u.1, u.2, sym c.row.invariant) (row_fails always always (punct p.Comma ∷ []) trees.snoc (read_lead (punct p.Comma) (parts.declarator c.args.top)) refl
    c.row.items c.row.rest.now c.in_err-item.field-0.0 refl c.in-Some.ensures.0 refl
    (lead_fails (punct p.Comma) (parts.declarator c.args.top) c.row.rest.now c.in-Some.next.now c.in-Some.field-0-0 c.in_err-item.field-0.0
    c.in-Some.ensures.1 c.in_err-item.ensures))

pub row-smaller : goal.row-smaller
row-smaller c = lead_shrinks (punct p.Comma) (declarator_keeps c.args.top) c.row.rest.now c.in_ok-item.item c.in_ok-item.next.now
    (led (punct p.Comma) (parts.declarator c.args.top) c.row.rest.now c.in-Some.next.now c.in-Some.field-0-0 c.in_ok-item.item c.in_ok-item.next.now
    c.in-Some.ensures.1 c.in_ok-item.ensures)

pub row-preserved : goal.row-preserved
row-preserved c =
    ap (λ z. read_rest always always (punct p.Comma ∷ []) trees.snoc (read_lead (punct p.Comma) (parts.declarator c.args.top)) (length c.in_ok-item.next.now) z
    c.in_ok-item.next.now) c.in_ok-push-2.ensures.ok
    ∙ sym (row_step always always (punct p.Comma ∷ []) trees.snoc (read_lead (punct p.Comma) (parts.declarator c.args.top)) refl
    (lead_shrinks (punct p.Comma) (declarator_keeps c.args.top)) c.row.items c.in_ok-item.item c.row.rest.now c.in_ok-item.next.now refl c.in-Some.ensures.0
    refl (led (punct p.Comma) (parts.declarator c.args.top) c.row.rest.now c.in-Some.next.now c.in-Some.field-0-0 c.in_ok-item.item c.in_ok-item.next.now
    c.in-Some.ensures.1 c.in_ok-item.ensures))
    ∙ c.row.invariant

pub returns : goal.returns
returns c = sym c.row.invariant ∙ row_ends always always (punct p.Comma ∷ []) trees.snoc (read_lead (punct p.Comma) (parts.declarator c.args.top)) refl
    c.row.items c.row.rest.now c.in_default.ensures
