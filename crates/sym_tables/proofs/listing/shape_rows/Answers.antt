use Rattle.std.proofs.Common.{◌∙◌}
use Rattle.sym_tables.proofs.Listings.{few_params, row_added, shapes_more}
use Rattle.sym_tables.proofs.Tables.{found_at, known_at}
use Rattle.sym_tables.proofs.listing.shape_rows.Goals as goal

pub shape-requires : goal.shape-requires
shape-requires c = few_params c.args.symbols.now.entries c.loop-at.at c.unwrap.result.1.now c.requires.narrow
    (known_at c.args.symbols.now.entries c.loop-at.at _ c.unwrap.result c.get_index.ensures.entry c.unwrap.ensures)

pub loop-at-preserved : goal.loop-at-preserved
loop-at-preserved c =
    c.in_ok-push.ensures.items
    ∙ row_added _ _ _ c.loop-at.at _ c.unwrap.result.0.now _ _ c.loop-at.invariant c.in_ok-clone.ensures.cases c.shape.ensures
    (shapes_more c.loop-at.at c.args.symbols.now.entries c.unwrap.result.0.now c.unwrap.result.1.now
    (found_at c.args.symbols.now.entries c.loop-at.at _ c.unwrap.result c.get_index.ensures.entry c.unwrap.ensures))
