use Rattle.il_laws.proofs.SpliceSizes.{splice_size, inlined_sizes}
use Rattle.il_laws.proofs.splicing.splice_size.Goals as goal

pub returns-clause-one : goal.returns-clause-one
returns-clause-one c = λ p valid x k callee r q er at eq. splice_size p valid x k callee r q er at eq

pub returns-clause-all : goal.returns-clause-all
returns-clause-all c = λ p valid r bodies ok falls h. inlined_sizes p valid r bodies ok falls h
