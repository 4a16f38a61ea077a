use Rattle.std.proofs.Common.{◌≡◌, length}
use Rattle.c_parse.specs.Trees as trees
use Rattle.c_parse.specs.Reading.{read_rest, always}
use Rattle.c_parse.specs.ModuleReaders as heads
use Rattle.c_parse.specs.ModuleParts as parts
use Rattle.c_parse.proofs.parser.items.Given as goal

abbrev pub invariant-row : goal.invariant-row
invariant-row l = read_rest always always heads.item_first trees.snoc (parts.item l.fn.top) (length l.rest) l.items l.rest ≡ parts.items l.fn.top l.fn.t

abbrev pub decreases-row : goal.decreases-row
decreases-row l = length l.rest
