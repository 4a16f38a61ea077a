use Rattle.std.proofs.Common.{◌∙◌, ap, sym, subst, arith, map, true, false}
use Rattle.std.specs.Prelude.{List}
use Rattle.il_core.specs.Shapes.{IsRising}
use Rattle.call_graph.specs.declared.summary.Summary.{Summary}
use Rattle.call_graph.specs.Summaries.{summary_of, without}
use Rattle.call_graph.proofs.Placing.{has_within, has_as, placed_as, gone_there, gone_nowhere, rising_gone}
use Rattle.call_graph.proofs.graph.CallGraph.remove.Goals as goal

pub remove-requires : goal.remove-requires
remove-requires c =
    let lt = has_within c.self.inside.routines.items c.place-at.result c.args.pid
    (has_as c.self.inside.routines.items c.as_slice-2.result.now c.place-at.result c.args.pid c.has.result true c.as_slice-2.ensures.value
    c.has.ensures c.if-has.true) in
    let ok = c.self.inside.routines.ok in
    omega arith

pub invariant_of-self : goal.invariant_of-self
invariant_of-self c =
    subst (IsRising (λ (s : Summary). s.pid)) (sym c.remove.ensures.items) (rising_gone c.self.inside.routines.items c.place-at.result c.self.invariant)

pub returns-then-has : goal.returns-then-has
returns-then-has c =
    let p = placed_as c.self.inside.routines.items c.as_slice.result.now c.place-at.result c.args.pid c.as_slice.ensures.value
    c.place-at.ensures.within c.place-at.ensures.before
    c.place-at.ensures.behind in
    ap (λ (xs : List Summary). map summary_of xs) c.remove.ensures.items
    ∙ gone_there c.self.inside.routines.items c.place-at.result c.args.pid p.below
    (has_as c.self.inside.routines.items c.as_slice-2.result.now c.place-at.result c.args.pid c.has.result true c.as_slice-2.ensures.value
    c.has.ensures c.if-has.true)
    ∙ ap (without c.args.pid) c.self.view_is

pub returns-else-has : goal.returns-else-has
returns-else-has c =
    let p = placed_as c.self.inside.routines.items c.as_slice.result.now c.place-at.result c.args.pid c.as_slice.ensures.value
    c.place-at.ensures.within c.place-at.ensures.before
    c.place-at.ensures.behind in
    sym c.self.view_is
    ∙ gone_nowhere c.self.inside.routines.items c.place-at.result c.args.pid c.self.invariant p.below p.above p.within
    (has_as c.self.inside.routines.items c.as_slice-2.result.now c.place-at.result c.args.pid c.has.result false c.as_slice-2.ensures.value
    c.has.ensures c.if-has.false)
    ∙ ap (without c.args.pid) c.self.view_is
