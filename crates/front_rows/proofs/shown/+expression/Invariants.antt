use Rattle.std.proofs.Common.{◌+◌, ◌*◌}
use Rattle.front_rows.proofs.shown.+expression.Given as goal

abbrev pub decreases-expression : goal.decreases-expression
decreases-expression l = l.depth * 4 + 0

abbrev pub decreases-expressions : goal.decreases-expressions
decreases-expressions l = l.depth * 4 + 1

abbrev pub decreases-last : goal.decreases-last
decreases-last l = l.depth * 4 + 1

abbrev pub decreases-two : goal.decreases-two
decreases-two l = l.depth * 4 + 2

abbrev pub decreases-enumerator : goal.decreases-enumerator
decreases-enumerator l = l.depth * 4 + 1

abbrev pub decreases-specifier : goal.decreases-specifier
decreases-specifier l = l.depth * 4 + 2

abbrev pub decreases-specifiers : goal.decreases-specifiers
decreases-specifiers l = l.depth * 4 + 3
