use Rattle.std.proofs.Common.{[], ◌∷◌, ◌++◌}
use Rattle.outside.specs.Asks.{next_ask}
use Rattle.outside.proofs.sources.MemSourceSource.read.Given as goal

-- the calls before, and then this one
abbrev pub ghost-after : goal.ghost-after
ghost-after a = a._older.now.value ++ next_ask a._older.now.value a._shown.now ∷ []
