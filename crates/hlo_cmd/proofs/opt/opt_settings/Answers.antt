use Rattle.hlo_cmd.proofs.opt.opt_settings.Goals as goal

pub returns-then-eq-clause-usage : goal.returns-then-eq-clause-usage
returns-then-eq-clause-usage c = λ e s asked. c.read_opt.ensures.usage e s asked.settings
