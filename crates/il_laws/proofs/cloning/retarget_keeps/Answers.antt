use Rattle.il_laws.proofs.Retargeted.{retarget_serves, retarget_follows}
use Rattle.il_laws.proofs.cloning.retarget_keeps.Goals as goal

pub returns-clause-serves : goal.returns-clause-serves
returns-clause-serves c = retarget_serves

pub returns-clause-follows : goal.returns-clause-follows
returns-clause-follows c = retarget_follows
