use Rattle.std.proofs.Common.{◌≡◌, ◌<◌, ◌∙◌, List, ap, sym, subst, arith}
use Rattle.il_core.specs.declared.instr.Block.{Block}
use Rattle.il_core.specs.Limits.{IsWithinLimits, max_pids}
use Rattle.il_core.specs.Routine.{RoutineParts}
use Rattle.il_laws.specs.Facts.{looped}
use Rattle.clone_groups.proofs.Cloned.{clone_within, too_many}
use Rattle.clone_groups.proofs.cloning.make_clone_owned.Goals as goal

pub returns-then-not-has_room-clause-too_large : goal.returns-then-not-has_room-clause-too_large
returns-then-not-has_room-clause-too_large c =
    let same : c.is_looped-is_looped.result ≡ looped c.args.r.blocks 0
    = c.is_looped-is_looped.ensures ∙ ap (λ (bs : List Block). looped bs 0) (c.as_slice.ensures ∙ ap (λ (r : RoutineParts). r.blocks) c.r.view_is) in
    λ e. too_many c.args.r c.args.pid c.args.fixed.now c.requires c.is_looped-is_looped.result same (sym c.has_room.ensures ∙ c.if-not-has_room.true)

pub clone_within-requires-clause-within : goal.clone_within-requires-clause-within
clone_within-requires-clause-within c =
    let same : c.is_looped-is_looped.result ≡ looped c.args.r.blocks 0
    = c.is_looped-is_looped.ensures ∙ ap (λ (bs : List Block). looped bs 0) (c.as_slice.ensures ∙ ap (λ (r : RoutineParts). r.blocks) c.r.view_is) in
    let small : c.args.pid < max_pids = omega (arith, c.if-pid-ge-PIDS.false) in
    clone_within c.args.r c.args.pid c.args.fixed.now c.requires c.is_looped-is_looped.result same (sym c.has_room.ensures ∙ c.if-not-has_room.false) small
    (subst IsWithinLimits c.r.view_is c.r.invariant)
