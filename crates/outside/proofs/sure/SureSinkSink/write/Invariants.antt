use Rattle.std.proofs.Common.{◌++◌}
use Rattle.outside.proofs.sure.SureSinkSink.write.Given as goal

-- what was taken, and then the piece
abbrev pub ghost-after : goal.ghost-after
ghost-after a = a._older.now.value ++ a._shown.now.now
