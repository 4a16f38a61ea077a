use Rattle.std.proofs.Common.{false, ◌∙◌}
use Rattle.il_run.proofs.Asking.{asks_first, asks_turn}
use Rattle.il_run.proofs.Counting.{shape_new}
use Rattle.il_run.proofs.Numbers.{counter_ready}
use Rattle.il_run.proofs.Placing.{wanted_start}
use Rattle.il_run.proofs.Running.{if_told, stops_first}
use Rattle.il_run.proofs.rounds.run_counted.Goals as goal

pub returns-in_default-clause-asks : goal.returns-in_default-clause-asks
returns-in_default-clause-asks g c = asks_turn _ _ false (asks_first _ false)

pub returns-in_default-clause-asks_wanted : goal.returns-in_default-clause-asks_wanted
returns-in_default-clause-asks_wanted g c = wanted_start _ _ _ _

pub returns-in_default-clause-shape : goal.returns-in_default-clause-shape
returns-in_default-clause-shape g c = shape_new _ _ c.requires.counts

pub returns-in_default-clause-stops : goal.returns-in_default-clause-stops
returns-in_default-clause-stops g c = if_told _ _ (λ bytes e. stops_first _ _ _ bytes c.requires.valid)

pub run_counting-ended-requires-clause-counter : goal.run_counting-ended-requires-clause-counter
run_counting-ended-requires-clause-counter g c = counter_ready _ c.as_slice.result.now _ c.as_slice.ensures c.in-Ok.ensures
    (shape_new _ _ (c.replace.ensures.value ∙ c.requires.counts))
