use Rattle.cleanup.proofs.Valid.{constants_valid, folded_valid, reached_valid, thinned_valid}
use Rattle.cleanup.proofs.rounds.one_round.Goals as goal

pub fold_branches_owned-requires : goal.fold_branches_owned-requires
fold_branches_owned-requires c = constants_valid c.args.r c.in_ok-constants.constants c.requires c.in_ok-constants.ensures

pub drop_unreachable_owned-requires : goal.drop_unreachable_owned-requires
drop_unreachable_owned-requires c =
    folded_valid c.in_ok-constants.constants c.in_ok-folded.folded
    (constants_valid c.args.r c.in_ok-constants.constants c.requires c.in_ok-constants.ensures) c.in_ok-folded.ensures

pub drop_dead_writes_owned-requires : goal.drop_dead_writes_owned-requires
drop_dead_writes_owned-requires c =
    reached_valid c.in_ok-folded.folded c.in_ok-reached.reached
    (folded_valid c.in_ok-constants.constants c.in_ok-folded.folded
    (constants_valid c.args.r c.in_ok-constants.constants c.requires c.in_ok-constants.ensures) c.in_ok-folded.ensures) c.in_ok-reached.ensures

pub merge_blocks_owned-requires : goal.merge_blocks_owned-requires
merge_blocks_owned-requires c =
    thinned_valid c.in_ok-reached.reached c.in_ok-thinned.thinned
    (reached_valid c.in_ok-folded.folded c.in_ok-reached.reached
    (folded_valid c.in_ok-constants.constants c.in_ok-folded.folded
    (constants_valid c.args.r c.in_ok-constants.constants c.requires c.in_ok-constants.ensures) c.in_ok-folded.ensures) c.in_ok-reached.ensures)
    c.in_ok-thinned.ensures
