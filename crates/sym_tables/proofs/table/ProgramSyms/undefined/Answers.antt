use Rattle.std.proofs.Common.{sym, ap, ◌∙◌, arith}
use Rattle.std.specs.Map.{values_of}
use Rattle.sym_tables.specs.Table.{first_open}
use Rattle.sym_tables.specs.Symbols.{is_open}
use Rattle.list_laws.proofs.Firsts.{first_found, none_found}
use Rattle.sym_tables.proofs.Least.{IsClosed}
use Rattle.list_laws.proofs.Elements.{front_more}
use Rattle.sym_tables.proofs.Values.{length_values}
use Rattle.sym_tables.proofs.Tables.{known_at}
use Rattle.sym_tables.proofs.table.ProgramSyms.undefined.Goals as goal

pub loop-at-init : goal.loop-at-init
loop-at-init c = c.self.invariant.least_open

pub returns-then-is_open : goal.returns-then-is_open
returns-then-is_open c = sym (first_found is_open (values_of c.self.inside.symbols.entries) c.loop-at.at c.unwrap.result.1.now c.loop-at.invariant
    (known_at c.self.inside.symbols.entries c.loop-at.at _ c.unwrap.result c.get_index.ensures.entry c.unwrap.ensures)
    (sym c.is_open.ensures ∙ c.if-is_open.true)) ∙ ap first_open c.self.view_is

pub loop-at-preserved : goal.loop-at-preserved
loop-at-preserved c = front_more IsClosed c.loop-at.at (values_of c.self.inside.symbols.entries) c.unwrap.result.1.now c.loop-at.invariant
    (known_at c.self.inside.symbols.entries c.loop-at.at _ c.unwrap.result c.get_index.ensures.entry c.unwrap.ensures)
    (sym c.is_open.ensures ∙ c.if-is_open.false)

pub returns : goal.returns
returns c = sym (none_found is_open (values_of c.self.inside.symbols.entries) c.loop-at.at c.loop-at.invariant
    (let a = length_values c.self.inside.symbols.entries in let b = c.len-at-end.ensures.len in omega arith)) ∙ ap first_open c.self.view_is
