use Rattle.std.proofs.Common.{◌≡◌, length, [], ◌∷◌}
use Rattle.c_tree.specs.declared.token.Punct.TheVariants as p
use Rattle.c_parse.specs.Classes.{punct}
use Rattle.c_parse.specs.Trees as trees
use Rattle.c_parse.specs.Reading.{read_rest, read_lead, always}
use Rattle.c_parse.specs.ModuleParts as parts
use Rattle.c_parse.proofs.declaration.declarator_list.Given as goal

abbrev pub invariant-row : goal.invariant-row
invariant-row l = read_rest always always (punct p.Comma ∷ []) trees.snoc (read_lead (punct p.Comma) (parts.declarator l.fn.top)) (length l.rest) l.items l.rest
    ≡ parts.declarator_list l.fn.top l.fn.t

abbrev pub decreases-row : goal.decreases-row
decreases-row l = length l.rest
