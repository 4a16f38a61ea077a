use Rattle.il_laws.proofs.SpliceServes.{splice_follows}
use Rattle.il_laws.proofs.splicing.splice_keeps.Goals as goal

pub returns : goal.returns
returns c = λ p valid x k callee r q er at eq. splice_follows p valid x k callee r q er at eq
