use Rattle.std.proofs.Common.{refl, sym, ◌∙◌, ap, length, arith}
use Rattle.std.proofs.lemmas.Result.{err_from_is_err_and}
use Rattle.c_parse.specs.Trees as trees
use Rattle.c_parse.specs.Reading.{read_rest, always}
use Rattle.c_parse.specs.ModuleReaders as heads
use Rattle.c_parse.specs.ModuleParts as parts
use Rattle.c_parse.proofs.Steps.{row_ends, row_fails, row_step}
use Rattle.c_parse.proofs.StatementSizes.{statements_begin, statement_shrinks, statement_is, no_statement_deep, no_statement_wrong}
use Rattle.c_parse.proofs.statement.+statement.Goals as goal

pub statement-returns : goal.statement-returns
statement-returns t c = rw (statement_is c.args.top c.args.depth c.args.t.now (omega (arith, c.if-depth-eq0.false))) c.compound.ensures

pub statement-returns-then-starts_statement : goal.statement-returns-then-starts_statement
statement-returns-then-starts_statement t c = rw c.if-depth-eq0.true
    (no_statement_deep c.args.top c.args.t.now (sym c.starts_statement.ensures ∙ c.if-starts_statement.true))

pub statement-returns-then-depth-eq0 : goal.statement-returns-then-depth-eq0
statement-returns-then-depth-eq0 t c = rw c.if-depth-eq0.true
    (no_statement_wrong c.args.top c.args.t.now (sym c.starts_statement.ensures ∙ c.if-starts_statement.false))

pub statements-row-init : goal.statements-row-init
statements-row-init t c = ap (λ z. read_rest always always heads.stmt_first trees.snoc (parts.statement c.args.top c.args.depth) (length c.args.t.now) z
    c.args.t.now) c.new-items.ensures ∙ statements_begin c.args.top c.args.depth c.args.t.now

pub statements-returns-in_err-item : goal.statements-returns-in_err-item
statements-returns-in_err-item t c =
    let u = err_from_is_err_and c.from_residual.result c.from_residual.ensures.1 in
    rw (u.1, u.2, sym c.row.invariant) (row_fails always always heads.stmt_first trees.snoc (parts.statement c.args.top c.args.depth) refl c.row.items
    c.row.rest.now c.in_err-item.field-0.0 refl (sym c.starts_statement.ensures ∙ c.row-test.true) refl c.in_err-item.ensures)

pub statements-row-smaller : goal.statements-row-smaller
statements-row-smaller t c = statement_shrinks c.args.top c.args.depth c.row.rest.now c.in_ok-item.item c.in_ok-item.next.now c.in_ok-item.ensures

pub statements-row-preserved : goal.statements-row-preserved
statements-row-preserved t c =
    ap (λ z. read_rest always always heads.stmt_first trees.snoc (parts.statement c.args.top c.args.depth) (length c.in_ok-item.next.now) z
    c.in_ok-item.next.now) c.in_ok-push.ensures.ok
    ∙ sym (row_step always always heads.stmt_first trees.snoc (parts.statement c.args.top c.args.depth) refl (statement_shrinks c.args.top c.args.depth)
    c.row.items c.in_ok-item.item c.row.rest.now c.in_ok-item.next.now refl (sym c.starts_statement.ensures ∙ c.row-test.true) refl c.in_ok-item.ensures)
    ∙ c.row.invariant

pub statements-returns : goal.statements-returns
statements-returns t c = sym c.row.invariant ∙ row_ends always always heads.stmt_first trees.snoc (parts.statement c.args.top c.args.depth) refl c.row.items
    c.row.rest.now (sym c.starts_statement.ensures ∙ c.row-test.false)
