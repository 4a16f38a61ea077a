use Rattle.std.proofs.Common.{◌≡◌, ◌+◌, ◌*◌, length, [], ◌∷◌, true}
use Rattle.c_tree.specs.declared.token.Punct.TheVariants as p
use Rattle.c_parse.specs.Classes.{punct, classes}
use Rattle.c_parse.specs.Trees as trees
use Rattle.c_parse.specs.Expressions as ranks
use Rattle.c_parse.specs.Reading.{read_rest, read_both, read_among, read_lead, always}
use Rattle.c_parse.specs.ExpressionReaders as readers
use Rattle.c_parse.specs.Parts as parts
use Rattle.c_parse.specs.Ranks.{operand_rank}
use Rattle.c_parse.proofs.Levels.{level_of}
use Rattle.c_parse.proofs.expression.+expression.Given as goal

abbrev pub decreases-expression : goal.decreases-expression
decreases-expression l = l.depth * 64 + 0

abbrev pub decreases-enumerator : goal.decreases-enumerator
decreases-enumerator l = l.depth * 64 + 3

abbrev pub decreases-enumerator_list : goal.decreases-enumerator_list
decreases-enumerator_list l = l.depth * 64 + 4

abbrev pub decreases-enumerators : goal.decreases-enumerators
decreases-enumerators l = l.depth * 64 + 5

abbrev pub decreases-specifier : goal.decreases-specifier
decreases-specifier l = l.depth * 64 + 6

abbrev pub decreases-specifiers : goal.decreases-specifiers
decreases-specifiers l = l.depth * 64 + 7

abbrev pub decreases-arguments : goal.decreases-arguments
decreases-arguments l = l.depth * 64 + 6

abbrev pub decreases-named : goal.decreases-named
decreases-named l = l.depth * 64 + 7

abbrev pub decreases-prefixed : goal.decreases-prefixed
decreases-prefixed l = l.depth * 64 + 8

abbrev pub decreases-operand : goal.decreases-operand
decreases-operand l = l.depth * 64 + 9

abbrev pub decreases-unary : goal.decreases-unary
decreases-unary l = l.depth * 64 + 10

abbrev pub decreases-conditional : goal.decreases-conditional
decreases-conditional l = l.depth * 64 + 40

abbrev pub decreases-assignment : goal.decreases-assignment
decreases-assignment l = l.depth * 64 + 41

abbrev pub decreases-comma : goal.decreases-comma
decreases-comma l = l.depth * 64 + 42

abbrev pub decreases-binary : goal.decreases-binary
decreases-binary l = l.depth * 64 + 2 * level_of l.q + 13

abbrev pub decreases-tighter : goal.decreases-tighter
decreases-tighter l = l.depth * 64 + 2 * level_of l.q + 12

abbrev pub invariant-comma-row : goal.invariant-comma-row
invariant-comma-row l = read_rest always (readers.fits l.fn.depth) (punct p.Comma ∷ []) trees.comma
    (read_lead (punct p.Comma) (parts.whole l.fn.depth ranks.Assignment)) (length l.rest) (l.left.expr, l.left.height) l.rest ≡ parts.comma l.fn.depth l.fn.t

abbrev pub decreases-comma-row : goal.decreases-comma-row
decreases-comma-row l = length l.rest

abbrev pub invariant-binary-row : goal.invariant-binary-row
invariant-binary-row l = read_rest always (readers.fits l.fn.depth) (classes (ranks.operators l.fn.q)) trees.binary
    (read_both (read_among (ranks.operators l.fn.q)) (parts.whole l.fn.depth (operand_rank l.fn.q))) (length l.rest) (l.left.expr, l.left.height) l.rest ≡
    parts.binary l.fn.depth l.fn.q l.fn.t

abbrev pub decreases-binary-row : goal.decreases-binary-row
decreases-binary-row l = length l.rest

abbrev pub invariant-unary-row : goal.invariant-unary-row
invariant-unary-row l = (readers.is_postfix (l.left.expr, l.left.height) ≡ true) ×
    (read_rest readers.is_postfix (readers.fits l.fn.depth) (classes ranks.steps) trees.postfix (read_among ranks.steps) (length l.rest)
    (l.left.expr, l.left.height) l.rest ≡ parts.unary l.fn.depth l.fn.casts l.fn.t)

abbrev pub decreases-unary-row : goal.decreases-unary-row
decreases-unary-row l = length l.rest

abbrev pub invariant-arguments-row : goal.invariant-arguments-row
invariant-arguments-row l = read_rest always always (punct p.Comma ∷ []) trees.add (read_lead (punct p.Comma) (parts.whole l.fn.depth ranks.Assignment))
    (length l.rest) (l.items, l.height) l.rest ≡ parts.argument_list l.fn.depth l.fn.t

abbrev pub decreases-arguments-row : goal.decreases-arguments-row
decreases-arguments-row l = length l.rest

abbrev pub invariant-enumerator_list-row : goal.invariant-enumerator_list-row
invariant-enumerator_list-row l = read_rest always always (punct p.Comma ∷ []) trees.add (read_lead (punct p.Comma) (parts.enumerator l.fn.depth))
    (length l.rest) (l.items, l.height) l.rest ≡ parts.enumerator_list l.fn.depth l.fn.t

abbrev pub decreases-enumerator_list-row : goal.decreases-enumerator_list-row
decreases-enumerator_list-row l = length l.rest

abbrev pub invariant-specifiers-row : goal.invariant-specifiers-row
invariant-specifiers-row l = read_rest always always readers.specifier_first trees.next_specifier (parts.specifier l.fn.depth) (length l.rest)
    (l.line, (l.items, l.height)) l.rest ≡ parts.specifier_list l.fn.depth l.fn.t

abbrev pub decreases-specifiers-row : goal.decreases-specifiers-row
decreases-specifiers-row l = length l.rest
