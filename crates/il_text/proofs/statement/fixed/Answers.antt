use Rattle.std.proofs.Common.{ap}
use Rattle.il_text.proofs.StatementForms.{clear_of}
use Rattle.il_text.proofs.statement.fixed.Goals as goal

pub returns-in_ok-r-in-Clear-clause-each : goal.returns-in_ok-r-in-Clear-clause-each
returns-in_ok-r-in-Clear-clause-each c = rw c.in-Clear.is (λ n co a m hn hc ha hm e. ap clear_of (c.in_ok-r-in-Clear.ensures.each n co a m hn hc ha hm e))
