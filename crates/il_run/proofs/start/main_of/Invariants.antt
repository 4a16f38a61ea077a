use Rattle.std.proofs.Common.{◌≡◌, drop}
use Rattle.il_core.specs.Program.{main_pid}
use Rattle.il_run.proofs.start.main_of.Given as goal

-- the rows that are left decide
abbrev pub invariant-loop-row : goal.invariant-loop-row
invariant-loop-row l = main_pid (drop l.row-index l.row-items) ≡ main_pid l.shapes
