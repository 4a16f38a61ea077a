use Rattle.std.proofs.Common.{ap, ◌∙◌}
use Rattle.sym_tables.specs.Table.{mark}
use Rattle.sym_tables.proofs.Changes.{kept_used}
use Rattle.sym_tables.proofs.Tables.{mark_at, known_mut}
use Rattle.sym_tables.proofs.table.ProgramSyms.mark_used.Goals as goal

pub invariant_of-self : goal.invariant_of-self
invariant_of-self c = kept_used c.self.inside.symbols.entries c.args.pid _ _ _ _ c.unwrap-symbol.result.now _ c.self.invariant
    (known_mut _ c.args.pid _ c.unwrap-symbol.result c.get_index_mut.ensures.value c.unwrap-symbol.ensures) c.is_open.ensures c.least_with-self-inside.ensures

pub returns : goal.returns
returns c = mark_at c.self.inside.symbols.entries c.args.pid c.unwrap-symbol.result.now
    (known_mut _ c.args.pid _ c.unwrap-symbol.result c.get_index_mut.ensures.value c.unwrap-symbol.ensures) ∙ ap (λ l. mark l c.args.pid) c.self.view_is
