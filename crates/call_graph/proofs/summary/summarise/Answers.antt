use Rattle.std.proofs.Common.{◌∙◌, ap, sym}
use Rattle.il_core.specs.contracts.routine.Routine.{the_view}
use Rattle.il_laws.specs.Known.{site_constants}
use Rattle.il_core.specs.Size.{size, charge}
use Rattle.plan_laws.specs.Summary.{summary}
use Rattle.call_graph.proofs.Summarised.{known_length, sites_are, few_blocks, made}
use Rattle.call_graph.proofs.summary.summarise.Goals as goal

pub value_returns-returns-requires : goal.value_returns-returns-requires
value_returns-returns-requires c = few_blocks (the_view c.r.inside) c.as_slice-blocks.result.now c.as_slice-blocks.ensures c.r.invariant.size

pub sites_of-requires : goal.sites_of-requires
sites_of-requires c =
    known_length (the_view c.r.inside) c.as_slice-blocks.result.now c.args.known c.as_slice-blocks.ensures (c.requires
    ∙ ap site_constants (sym c.r.view_is))

pub returns-clause-value : goal.returns-clause-value
returns-clause-value c =
    made (the_view c.r.inside) c.as_slice-blocks.result.now c.as_slice.result.now c.size-size.result c.charge-charge.result c.value_returns-returns.result
    c.len.result c.total-elements.result c.from_vec.result c.is_looped-start_loop.result _ c.as_slice-blocks.ensures c.as_slice.ensures
    (c.size-size.ensures.size ∙ ap size (sym c.r.view_is)) (c.charge-charge.ensures ∙ ap charge (sym c.r.view_is)) (c.from_vec.ensures
    ∙ c.in_ok-reads.ensures)
    c.value_returns-returns.ensures c.len.ensures c.total-elements.ensures c.is_looped-start_loop.ensures
    (sites_are (the_view c.r.inside) c.as_slice-blocks.result.now c.args.known c.from_vec-2.result c.as_slice-blocks.ensures
    (c.requires ∙ ap site_constants (sym c.r.view_is)) (c.from_vec-2.ensures ∙ c.in_ok-sites.ensures))
    ∙ ap summary c.r.view_is
