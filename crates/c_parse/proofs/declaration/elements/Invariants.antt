use Rattle.std.proofs.Common.{◌≡◌, length, [], ◌∷◌, true}
use Rattle.c_tree.specs.declared.token.Punct.TheVariants as p
use Rattle.c_parse.specs.Classes.{punct}
use Rattle.c_parse.specs.Expressions as ranks
use Rattle.c_parse.specs.Reading.{read_rest, read_lead, read_optional, always, bind, Found}
use Rattle.c_parse.specs.ExpressionReaders as readers
use Rattle.c_parse.specs.ModuleReaders as heads
use Rattle.c_parse.specs.ModuleParts as parts
use Rattle.c_parse.proofs.declaration.elements.Given as goal

abbrev pub invariant-row : goal.invariant-row
invariant-row l = bind (read_rest heads.is_open always (punct p.Comma ∷ []) heads.next_element
    (read_lead (punct p.Comma) (read_optional readers.expr_first (parts.top_expression l.fn.top ranks.Assignment))) (length l.rest) (l.items, true) l.rest)
    (λ a r. Found a.0 r) ≡ parts.elements l.fn.top l.fn.t

abbrev pub decreases-row : goal.decreases-row
decreases-row l = length l.rest
