-- A run before its first step.
use Rattle.std.specs.Prelude.{◌≡◌, ℕ, [], false}
use Rattle.il_core.specs.declared.program.IlProgram.{IlProgram}
use Rattle.il_run.specs.declared.rounds.Ready.{Ready}
use Rattle.il_run.specs.Machine.{IsTabled}
use Rattle.il_run.specs.Start.{Starts}
use Rattle.il_run.specs.Streams.{IsAhead, ahead}

pub record IsReady (p : IlProgram) (turns : ℕ) (r : Ready) : Type 0 where
  pub tabled : IsTabled p r.tables
  pub starts : Starts p r.tables turns r.machine
  pub fits : IsAhead r.given
  pub none : ahead r.given ≡ []
  pub open_yet : r.given.ended ≡ false
  pub empty : r.pending.bytes.items ≡ []
