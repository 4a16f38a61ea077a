use Rattle.il_run.proofs.rounds.run.Goals as goal

pub returns-in-Some-clause-counted : goal.returns-in-Some-clause-counted
returns-in-Some-clause-counted g c = rw c.in-Some.is c.run_counted.ensures.counted

pub returns-in-Some-clause-shape : goal.returns-in-Some-clause-shape
returns-in-Some-clause-shape g c = rw c.in-Some.is c.run_counted.ensures.shape
