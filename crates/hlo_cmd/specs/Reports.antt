-- What a run tells of itself.
use Rattle.std.specs.Prelude.{ℕ}
use Rattle.naim_loader.specs.declared.counters.Counters.{Counters}
use Rattle.hlo_cmd.specs.declared.report.Report.{Report}

-- the loader's counters, and the costs of the lowered program and of the printed one
abbrev pub report_of : Counters → ℕ → ℕ → Report
report_of c before after = record {
  charged_peak = c.charged_peak;
  under_peak = c.under_peak;
  compactions = c.compactions;
  offloads = c.offloads;
  reloads = c.reloads;
  cost_before = before;
  cost_after = after;
}
