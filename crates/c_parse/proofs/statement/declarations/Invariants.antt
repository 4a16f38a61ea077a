use Rattle.std.proofs.Common.{◌≡◌, length}
use Rattle.c_parse.specs.Trees as trees
use Rattle.c_parse.specs.Reading.{read_rest, always}
use Rattle.c_parse.specs.ExpressionReaders as readers
use Rattle.c_parse.specs.ModuleParts as parts
use Rattle.c_parse.proofs.statement.declarations.Given as goal

abbrev pub invariant-row : goal.invariant-row
invariant-row l = read_rest always always readers.specifier_first trees.snoc (parts.declaration l.fn.top) (length l.rest) l.items l.rest ≡ parts.declarations
    l.fn.top l.fn.t

abbrev pub decreases-row : goal.decreases-row
decreases-row l = length l.rest
