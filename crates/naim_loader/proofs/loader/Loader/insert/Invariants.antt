use Rattle.std.proofs.Common.{[], ◌∷◌, ◌++◌}
use Rattle.naim_loader.proofs.loader.Loader.insert.Given as goal

-- one insertion more
abbrev pub ghost-after : goal.ghost-after
ghost-after g a = record a._older.now.lists { insertions = a._older.now.lists.insertions ++ a._shown.now ∷ [] }
