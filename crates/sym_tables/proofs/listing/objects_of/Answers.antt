use Rattle.std.proofs.Common.{ap, sym, ◌∙◌, ◌++◌}
use Rattle.std.specs.Map.{values_of}
use Rattle.sym_tables.specs.Sound.{FitsWords}
use Rattle.sym_tables.specs.Listing.{objects_at}
use Rattle.list_laws.proofs.Elements.{all_at}
use Rattle.sym_tables.proofs.Listings.{objects_more}
use Rattle.sym_tables.proofs.Tables.{found_at, known_at}
use Rattle.sym_tables.proofs.listing.objects_of.Goals as goal

pub push_object-requires : goal.push_object-requires
push_object-requires c = all_at FitsWords (values_of c.args.symbols.now.entries) c.loop-at.at c.unwrap.result.1.now c.requires.inits
    (known_at c.args.symbols.now.entries c.loop-at.at _ c.unwrap.result c.get_index.ensures.entry c.unwrap.ensures)

pub loop-at-preserved : goal.loop-at-preserved
loop-at-preserved c =
    c.in_ok-push_object.ensures ∙ ap (λ l. l ++ objects_at c.loop-at.at c.unwrap.result.1.now) c.loop-at.invariant
    ∙ sym (objects_more c.loop-at.at c.args.symbols.now.entries c.unwrap.result.0.now c.unwrap.result.1.now
    (found_at c.args.symbols.now.entries c.loop-at.at _ c.unwrap.result c.get_index.ensures.entry c.unwrap.ensures))
