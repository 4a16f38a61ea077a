use Rattle.std.proofs.Common.{[]}
use Rattle.outside.proofs.sources.MemSource.new.Given as goal

abbrev pub ghost-picked : goal.ghost-picked
ghost-picked a = []
