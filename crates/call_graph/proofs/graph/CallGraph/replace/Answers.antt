use Rattle.std.proofs.Common.{◌∙◌, ap, sym, subst, arith, map, true, false}
use Rattle.std.specs.Prelude.{List}
use Rattle.il_core.specs.Shapes.{IsRising}
use Rattle.call_graph.specs.declared.summary.Summary.{Summary}
use Rattle.call_graph.specs.Summaries.{summary_of, put}
use Rattle.call_graph.proofs.Placing.{has_within, has_as, placed_as, replaced, replaced_rises, added, added_rises}
use Rattle.call_graph.proofs.graph.CallGraph.replace.Goals as goal

pub index_mut-requires : goal.index_mut-requires
index_mut-requires c =
    let lt = has_within c.self.inside.routines.items c.place-at.result c.args.pid
    (has_as c.self.inside.routines.items c.as_slice-2.result.now c.place-at.result c.args.pid c.has.result true c.as_slice-2.ensures.value
    c.has.ensures c.if-has.true) in
    let ok = c.self.inside.routines.ok in
    omega arith

pub invariant_of-self : goal.invariant_of-self
invariant_of-self c =
    replaced_rises c.self.inside.routines.items c.place-at.result c.args.pid c.args.s c.requires c.self.invariant
    (has_as c.self.inside.routines.items c.as_slice-2.result.now c.place-at.result c.args.pid c.has.result true c.as_slice-2.ensures.value
    c.has.ensures c.if-has.true)

pub invariant_of-self-in-Continue-1 : goal.invariant_of-self-in-Continue-1
invariant_of-self-in-Continue-1 c =
    let p = placed_as c.self.inside.routines.items c.as_slice.result.now c.place-at.result c.args.pid c.as_slice.ensures.value
    c.place-at.ensures.within c.place-at.ensures.before
    c.place-at.ensures.behind in
    subst (IsRising (λ (s : Summary). s.pid)) (sym c.in_ok-insert.ensures.items)
    (added_rises c.self.inside.routines.items c.place-at.result c.args.pid c.args.s c.requires c.self.invariant p
    (has_as c.self.inside.routines.items c.as_slice-2.result.now c.place-at.result c.args.pid c.has.result false c.as_slice-2.ensures.value
    c.has.ensures c.if-has.false))

pub returns-then-has-clause-ok : goal.returns-then-has-clause-ok
returns-then-has-clause-ok c =
    let p = placed_as c.self.inside.routines.items c.as_slice.result.now c.place-at.result c.args.pid c.as_slice.ensures.value
    c.place-at.ensures.within c.place-at.ensures.before
    c.place-at.ensures.behind in
    replaced c.self.inside.routines.items c.place-at.result c.args.pid c.args.s c.requires p
    (has_as c.self.inside.routines.items c.as_slice-2.result.now c.place-at.result c.args.pid c.has.result true c.as_slice-2.ensures.value
    c.has.ensures c.if-has.true)
    ∙ ap (put (summary_of c.args.s)) c.self.view_is

pub returns-in_ok-insert-clause-ok : goal.returns-in_ok-insert-clause-ok
returns-in_ok-insert-clause-ok c =
    let p = placed_as c.self.inside.routines.items c.as_slice.result.now c.place-at.result c.args.pid c.as_slice.ensures.value
    c.place-at.ensures.within c.place-at.ensures.before
    c.place-at.ensures.behind in
    ap (λ (xs : List Summary). map summary_of xs) c.in_ok-insert.ensures.items
    ∙ added c.self.inside.routines.items c.place-at.result c.args.pid c.args.s c.requires p
    (has_as c.self.inside.routines.items c.as_slice-2.result.now c.place-at.result c.args.pid c.has.result false c.as_slice-2.ensures.value
    c.has.ensures c.if-has.false)
    ∙ ap (put (summary_of c.args.s)) c.self.view_is
