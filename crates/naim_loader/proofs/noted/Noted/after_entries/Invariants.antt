use Rattle.naim_loader.proofs.noted.Noted.after_entries.Given as goal

abbrev pub ghost-picked : goal.ghost-picked
ghost-picked g a = g.pick
