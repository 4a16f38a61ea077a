use Rattle.naim_loader.specs.Trails.{no_lists}
use Rattle.naim_loader.proofs.loader.Loader.new.Given as goal

abbrev pub ghost-picked : goal.ghost-picked
ghost-picked g a = no_lists
