use Rattle.std.proofs.Common.{◌≡◌, true, ◌∙◌}
use Rattle.std.specs.List.{AllByRecursion}
use Rattle.il_core.specs.Shapes.{IsRising}
use Rattle.plan_pools.specs.MoveLaws.{AreMovesOf}
use Rattle.plan_pools.specs.Retargeting.{AreMoves}
use Rattle.group_moves.specs.Gathering.{has_moves}
use Rattle.group_moves.proofs.Telling.{answer_so, noted_all, told_moves, told_pids, told_rising, told_some}
use Rattle.group_moves.proofs.gathering.caller_moves.Goals as goal

pub returns-clause-moves : goal.returns-clause-moves
returns-clause-moves c = λ ts same.
    answer_so (λ v. v.items) (AreMovesOf ts) c.with_moves.result c.note_all.new.table _ _ (c.note_all.auto.table ∙ c.as_mut_slice.ensures.len)
    (told_moves c.args.bound c.args.groups.now c.note_all.new.table c.requires
    (noted_all c.args.bound c.args.groups.now c.in_ok-table.table.items c.as_mut_slice.result.now c.note_all.new.table c.in_ok-table.ensures
    c.as_mut_slice.ensures.value c.in_ok-note_all.ensures) ts same)
    c.with_moves.ensures

pub returns-clause-rising : goal.returns-clause-rising
returns-clause-rising c =
    answer_so (λ v. v.items) (IsRising (λ m. m.caller)) c.with_moves.result c.note_all.new.table _ _ (c.note_all.auto.table ∙ c.as_mut_slice.ensures.len)
    (told_rising c.args.bound c.args.groups.now c.note_all.new.table c.requires
    (noted_all c.args.bound c.args.groups.now c.in_ok-table.table.items c.as_mut_slice.result.now c.note_all.new.table c.in_ok-table.ensures
    c.as_mut_slice.ensures.value c.in_ok-note_all.ensures))
    c.with_moves.ensures

pub returns-clause-pids : goal.returns-clause-pids
returns-clause-pids c =
    answer_so (λ v. v.items) AreMoves c.with_moves.result c.note_all.new.table _ _ (c.note_all.auto.table ∙ c.as_mut_slice.ensures.len)
    (told_pids c.args.bound c.args.groups.now c.note_all.new.table c.requires
    (noted_all c.args.bound c.args.groups.now c.in_ok-table.table.items c.as_mut_slice.result.now c.note_all.new.table c.in_ok-table.ensures
    c.as_mut_slice.ensures.value c.in_ok-note_all.ensures))
    c.with_moves.ensures

pub returns-clause-some : goal.returns-clause-some
returns-clause-some c =
    answer_so (λ v. v.items) (AllByRecursion (λ m. has_moves m ≡ true)) c.with_moves.result c.note_all.new.table _ _
    (c.note_all.auto.table ∙ c.as_mut_slice.ensures.len)
    (told_some c.args.bound c.args.groups.now c.note_all.new.table c.requires
    (noted_all c.args.bound c.args.groups.now c.in_ok-table.table.items c.as_mut_slice.result.now c.note_all.new.table c.in_ok-table.ensures
    c.as_mut_slice.ensures.value c.in_ok-note_all.ensures))
    c.with_moves.ensures
