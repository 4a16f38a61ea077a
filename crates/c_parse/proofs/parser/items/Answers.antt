use Rattle.std.proofs.Common.{refl, sym, ◌∙◌, ap, length}
use Rattle.std.proofs.lemmas.Result.{err_from_is_err_and}
use Rattle.c_parse.specs.Trees as trees
use Rattle.c_parse.specs.Reading.{read_rest, always}
use Rattle.c_parse.specs.ModuleReaders as heads
use Rattle.c_parse.specs.ModuleParts as parts
use Rattle.c_parse.proofs.Steps.{row_ends, row_fails, row_step}
use Rattle.c_parse.proofs.StatementSizes.{items_begin, item_shrinks}
use Rattle.c_parse.proofs.parser.items.Goals as goal

pub row-init : goal.row-init
row-init c = ap (λ z. read_rest always always heads.item_first trees.snoc (parts.item c.args.top) (length c.args.t.now) z c.args.t.now) c.new-items.ensures ∙
    items_begin c.args.top c.args.t.now

pub returns-in_err-item : goal.returns-in_err-item
returns-in_err-item c =
    let u = err_from_is_err_and c.from_residual.result c.from_residual.ensures.1 in
    rw (u.1, u.2, sym c.row.invariant) (row_fails always always heads.item_first trees.snoc (parts.item c.args.top) refl c.row.items c.row.rest.now
    c.in_err-item.field-0.0 refl (sym c.starts_item.ensures ∙ c.row-test.true) refl c.in_err-item.ensures)

pub row-smaller : goal.row-smaller
row-smaller c = item_shrinks c.args.top c.row.rest.now c.in_ok-item.item c.in_ok-item.next.now c.in_ok-item.ensures

pub row-preserved : goal.row-preserved
row-preserved c =
    ap (λ z. read_rest always always heads.item_first trees.snoc (parts.item c.args.top) (length c.in_ok-item.next.now) z c.in_ok-item.next.now)
    c.in_ok-push.ensures.ok
    ∙ sym (row_step always always heads.item_first trees.snoc (parts.item c.args.top) refl (item_shrinks c.args.top) c.row.items c.in_ok-item.item
    c.row.rest.now c.in_ok-item.next.now refl (sym c.starts_item.ensures ∙ c.row-test.true) refl c.in_ok-item.ensures)
    ∙ c.row.invariant

pub returns : goal.returns
returns c = sym c.row.invariant ∙ row_ends always always heads.item_first trees.snoc (parts.item c.args.top) refl c.row.items c.row.rest.now
    (sym c.starts_item.ensures ∙ c.row-test.false)
