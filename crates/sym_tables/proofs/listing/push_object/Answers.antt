use Rattle.std.proofs.Common.{ap, sym, ◌∙◌, subst, arith}
use Rattle.il_core.specs.Object.{IsTrimmed}
use Rattle.sym_tables.specs.Listing.{trimmed}
use Rattle.sym_tables.proofs.Listings.{trimmed_fits}
use Rattle.sym_tables.proofs.listing.push_object.Goals as goal

pub invariant_of-push : goal.invariant_of-push
invariant_of-push c = subst (IsTrimmed c.words.result) (sym (c.from_vec.ensures ∙ c.in_ok-init.ensures.items ∙ c.trimmed.ensures ∙ ap trimmed
    c.as_slice.ensures)) (trimmed_fits c.args.symbol.now.init c.words.result (let e = c.words.ensures in let f = c.requires in omega arith))
