use Rattle.std.proofs.Common.{◌/◌, arith}
use Rattle.lock_join.proofs.Turns.{may_split, in_halves}
use Rattle.lock_join.proofs.workers.+halves.Goals as goal

pub split-requires-clause-rule : goal.split-requires-clause-rule
split-requires-clause-rule g t c = may_split g.R.Rule.holds _ _ _ _ c.requires.ready.left c.fresh-fresh.ensures.rule

pub together-note-requires : goal.together-note-requires
together-note-requires g t c =
    let share = c.args.share in
    let e = in_halves share (share / 2) c.args.times _ _ _ _ (omega arith) c.fresh-fresh.ensures.amount c.join-p.ensures.first.1 c.join-p.ensures.second.1 in
    let room = c.requires.room in record { room = omega arith }

pub returns-clause-amount : goal.returns-clause-amount
returns-clause-amount g t c =
    let share = c.args.share in
    let e = in_halves share (share / 2) c.args.times _ _ _ _ (omega arith) c.fresh-fresh.ensures.amount c.join-p.ensures.first.1 c.join-p.ensures.second.1 in
    let sum = c.together-note.ensures.amount in omega arith
