use Rattle.std.proofs.Common.{◌≡◌, take}
use Rattle.c_module.specs.Frames.{marks}
use Rattle.c_module.proofs.frame.marked.Given as goal

abbrev pub invariant-loop-pid : goal.invariant-loop-pid
invariant-loop-pid l = l.table.items ≡ marks (take l.pid-index l.pids) 0 l.names
