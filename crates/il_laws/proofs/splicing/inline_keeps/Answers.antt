use Rattle.il_laws.proofs.SpliceServes.{inlined_serves, inline_follows}
use Rattle.il_laws.proofs.splicing.inline_keeps.Goals as goal

pub returns-clause-serves : goal.returns-clause-serves
returns-clause-serves c = λ p valid r bodies ok falls h. inlined_serves p valid r bodies ok falls h

pub returns-clause-all : goal.returns-clause-all
returns-clause-all c = λ p valid bodies h. inline_follows p valid bodies h
