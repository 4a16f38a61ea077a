-- The rows of the table of clones.
use Rattle.std.specs.Prelude.{List}
use Rattle.il_laws.specs.Table.{Row}

-- the newest one first
abbrev pub Rows : Type 0
Rows = List Row
