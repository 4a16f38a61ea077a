use Rattle.il_laws.proofs.ClonesGrown.{clones_follow}
use Rattle.il_laws.proofs.cloning.clones_keep.Goals as goal

pub returns : goal.returns
returns c = clones_follow
