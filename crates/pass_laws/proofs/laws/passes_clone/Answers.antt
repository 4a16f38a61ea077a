use Rattle.pass_laws.proofs.PassesMade as laws
use Rattle.pass_laws.proofs.laws.passes_clone.Goals as goal

pub returns : goal.returns
returns c = laws.passes_clone
