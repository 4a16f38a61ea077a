use Rattle.std.proofs.Common.{[]}
use Rattle.outside.proofs.sources.SureSource.new.Given as goal

abbrev pub ghost-picked : goal.ghost-picked
ghost-picked a = []
