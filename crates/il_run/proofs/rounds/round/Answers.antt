use Rattle.il_run.proofs.OneRound.{call_round, get_round, put_round}
use Rattle.il_run.proofs.Asking.{asks_turn, when_err}
use Rattle.il_run.proofs.rounds.round.Goals as goal

pub returns-in-Ok-clause-moved : goal.returns-in-Ok-clause-moved
returns-in-Ok-clause-moved g c = get_round _ _ c.requires.tabled _ c.advance.new.self c.set.new.self _ _ _ _ _ c.in-Get.d c.word_of.result c.in-Ok.byte
    c.requires.counter c.in-Ok.ensures.end (rw c.in-Get.is at c.in_ok-advance.ensures) c.set.ensures c.word_of.ensures c.in-Ok.ensures.gives

pub returns-in_err-advance-clause-asks : goal.returns-in_err-advance-clause-asks
returns-in_err-advance-clause-asks g c = λ start h. when_err c.from_residual.result _ _ c.from_residual.ensures.0 (asks_turn _ _ _ h)

pub returns-in_err-put-in-Put-clause-asks : goal.returns-in_err-put-in-Put-clause-asks
returns-in_err-put-in-Put-clause-asks g c = λ start h. when_err c.from_residual-in_err-put-in-Put.result _ _ c.from_residual-in_err-put-in-Put.ensures.0
    (asks_turn _ _ _ h)

pub returns-in_err-flush-in-End-clause-asks : goal.returns-in_err-flush-in-End-clause-asks
returns-in_err-flush-in-End-clause-asks g c = λ start h. when_err c.from_residual-in_err-flush-in-End.result _ _ c.from_residual-in_err-flush-in-End.ensures.0
    (asks_turn _ _ _ h)

pub returns-in_ok-put-in-Put-clause-moved : goal.returns-in_ok-put-in-Put-clause-moved
returns-in_ok-put-in-Put-clause-moved g c = put_round _ _ _ _ _ _ _ _ _ c.in-Put.b (rw c.in-Put.is at c.in_ok-advance.ensures) c.requires.counter
    c.in_ok-put-in-Put.ensures.bytes

pub note_call-requires : goal.note_call-requires
note_call-requires g c =
    let moved = rw c.in-Called.is at c.in_ok-advance.ensures in
    record { valid = c.requires.valid; counter = c.requires.counter; routine = moved.sound.place.in_program; called = moved.called }

pub returns-in-Called-clause-moved : goal.returns-in-Called-clause-moved
returns-in-Called-clause-moved g c = let moved = rw c.in-Called.is at c.in_ok-advance.ensures in call_round _ _ _ _ _ _ _ _ _ moved
    (c.note_call.ensures moved.called)
