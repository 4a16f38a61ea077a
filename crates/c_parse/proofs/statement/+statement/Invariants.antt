use Rattle.std.proofs.Common.{◌≡◌, ◌+◌, ◌*◌, length}
use Rattle.c_parse.specs.Trees as trees
use Rattle.c_parse.specs.Reading.{read_rest, always}
use Rattle.c_parse.specs.ModuleReaders as heads
use Rattle.c_parse.specs.ModuleParts as parts
use Rattle.c_parse.proofs.statement.+statement.Given as goal

abbrev pub decreases-statement : goal.decreases-statement
decreases-statement l = l.depth * 8 + 0

abbrev pub decreases-statements : goal.decreases-statements
decreases-statements l = l.depth * 8 + 1

abbrev pub decreases-guarded : goal.decreases-guarded
decreases-guarded l = l.depth * 8 + 1

abbrev pub decreases-block : goal.decreases-block
decreases-block l = l.depth * 8 + 2

abbrev pub decreases-selection : goal.decreases-selection
decreases-selection l = l.depth * 8 + 2

abbrev pub decreases-switch : goal.decreases-switch
decreases-switch l = l.depth * 8 + 2

abbrev pub decreases-while_loop : goal.decreases-while_loop
decreases-while_loop l = l.depth * 8 + 2

abbrev pub decreases-do_while : goal.decreases-do_while
decreases-do_while l = l.depth * 8 + 2

abbrev pub decreases-for_loop : goal.decreases-for_loop
decreases-for_loop l = l.depth * 8 + 2

abbrev pub decreases-case : goal.decreases-case
decreases-case l = l.depth * 8 + 2

abbrev pub decreases-default : goal.decreases-default
decreases-default l = l.depth * 8 + 2

abbrev pub decreases-compound : goal.decreases-compound
decreases-compound l = l.depth * 8 + 3

abbrev pub invariant-statements-row : goal.invariant-statements-row
invariant-statements-row l = read_rest always always heads.stmt_first trees.snoc (parts.statement l.fn.top l.fn.depth) (length l.rest) l.items l.rest ≡
    parts.statements l.fn.top l.fn.depth l.fn.t

abbrev pub decreases-statements-row : goal.decreases-statements-row
decreases-statements-row l = length l.rest
