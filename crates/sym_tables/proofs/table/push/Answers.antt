use Rattle.std.proofs.Common.{ap, ◌∙◌}
use Rattle.indexmap.specs.IndexMap.{insert_entry}
use Rattle.indexmap.proofs.CallerLemmas.{insert_entry-new}
use Rattle.sym_tables.specs.Table.{same_name}
use Rattle.sym_tables.proofs.table.push.Goals as goal

pub returns-clause-ok : goal.returns-clause-ok
returns-clause-ok c = c.in-Ok-insert.ensures.entries ∙ ap (λ k. insert_entry same_name c.args.symbols.now.entries k c.args.symbol) c.in-Ok.ensures.cases ∙
    insert_entry-new same_name c.args.symbols.now c.args.name.now c.args.symbol c.requires
