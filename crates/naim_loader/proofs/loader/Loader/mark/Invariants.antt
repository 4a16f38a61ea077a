use Rattle.std.proofs.Common.{[], ◌∷◌, ◌++◌}
use Rattle.std.specs.Prelude.{map}
use Rattle.naim_loader.specs.Rows.{kept_in}
use Rattle.naim_loader.proofs.loader.Loader.mark.Given as goal

-- the contents as they are, beside those of the marks before
abbrev pub ghost-after_entries : goal.ghost-after_entries
ghost-after_entries g a = record a._older.now.lists { programs = a._older.now.lists.programs ++ map (λ r. (r.0, r.1.value)) (kept_in a._entries.now) ∷ [] }
