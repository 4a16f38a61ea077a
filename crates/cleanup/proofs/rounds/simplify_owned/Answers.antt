use Rattle.cleanup.proofs.Valid.{round_valid}
use Rattle.cleanup.proofs.rounds.simplify_owned.Goals as goal

pub one_round-requires-2 : goal.one_round-requires-2
one_round-requires-2 c = round_valid c.args.r c.in_ok-first.first c.requires c.in_ok-first.ensures

pub one_round-requires-3 : goal.one_round-requires-3
one_round-requires-3 c =
    round_valid c.in_ok-first.first c.in_ok-second.second (round_valid c.args.r c.in_ok-first.first c.requires c.in_ok-first.ensures) c.in_ok-second.ensures

pub one_round-requires-4 : goal.one_round-requires-4
one_round-requires-4 c =
    round_valid c.in_ok-second.second c.in_ok-third.third
    (round_valid c.in_ok-first.first c.in_ok-second.second (round_valid c.args.r c.in_ok-first.first c.requires c.in_ok-first.ensures) c.in_ok-second.ensures)
    c.in_ok-third.ensures
