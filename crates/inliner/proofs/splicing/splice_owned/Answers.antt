use Rattle.std.proofs.Common.{◌≡◌, ◌∙◌, ap, sym}
use Rattle.il_core.specs.Routine.{RoutineParts}
use Rattle.inliner.proofs.Owned.{unchanged, is_there, made, refused, crowded}
use Rattle.inliner.proofs.splicing.splice_owned.Goals as goal

pub returns-in_default-clause-routine : goal.returns-in_default-clause-routine
returns-in_default-clause-routine c =
    let same : c.as_slice.result.now ≡ c.args.caller.blocks = c.as_slice.ensures ∙ ap (λ (r : RoutineParts). r.blocks) c.caller.view_is in
    unchanged c.args.caller c.args.callee.now c.args.site c.as_slice.result.now same (sym c.place_of.ensures ∙ c.in_default.is)

pub returns-then-not-have_room-clause-too_large : goal.returns-then-not-have_room-clause-too_large
returns-then-not-have_room-clause-too_large c =
    let same : c.as_slice.result.now ≡ c.args.caller.blocks = c.as_slice.ensures ∙ ap (λ (r : RoutineParts). r.blocks) c.caller.view_is in
    λ e. crowded c.args.caller c.args.callee.now c.args.site c.as_slice.result.now same c.in-Some.place (sym c.place_of.ensures ∙ c.in-Some.is)
    (sym c.have_room.ensures ∙ c.if-not-have_room.true)

pub splice_at-requires-clause-site : goal.splice_at-requires-clause-site
splice_at-requires-clause-site c =
    let same : c.as_slice.result.now ≡ c.args.caller.blocks = c.as_slice.ensures ∙ ap (λ (r : RoutineParts). r.blocks) c.caller.view_is in
    is_there c.args.caller c.args.callee.now c.args.site c.as_slice.result.now same c.in-Some.place (sym c.place_of.ensures ∙ c.in-Some.is)

pub returns-clause-routine : goal.returns-clause-routine
returns-clause-routine c =
    let same : c.as_slice.result.now ≡ c.args.caller.blocks = c.as_slice.ensures ∙ ap (λ (r : RoutineParts). r.blocks) c.caller.view_is in
    made c.args.caller c.args.callee.now c.args.site c.as_slice.result.now same c.in-Some.place (sym c.place_of.ensures ∙ c.in-Some.is)
    c.splice_at.result c.splice_at.ensures.routine

pub returns-clause-too_large : goal.returns-clause-too_large
returns-clause-too_large c =
    let same : c.as_slice.result.now ≡ c.args.caller.blocks = c.as_slice.ensures ∙ ap (λ (r : RoutineParts). r.blocks) c.caller.view_is in
    refused c.args.caller c.args.callee.now c.args.site c.as_slice.result.now same c.in-Some.place (sym c.place_of.ensures ∙ c.in-Some.is)
    c.splice_at.result c.splice_at.ensures.too_large
