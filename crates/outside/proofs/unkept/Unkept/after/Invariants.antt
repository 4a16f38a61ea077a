use Rattle.outside.proofs.unkept.Unkept.after.Given as goal

abbrev pub ghost-picked : goal.ghost-picked
ghost-picked g a = g.pick
