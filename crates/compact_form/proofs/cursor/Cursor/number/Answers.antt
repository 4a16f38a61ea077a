use Rattle.std.proofs.Common.{refl}
use Rattle.std.proofs.lemmas.List.{take_rest}
use Rattle.compact_form.specs.Spellings.{taken, not_taken}
use Rattle.compact_form.proofs.cursor.Cursor.number.Goals as goal

pub returns-in_default-clause-none : goal.returns-in_default-clause-none
returns-in_default-clause-none c = (refl, not_taken c.args.self.now.rest.now c.in_default.ensures.none)

pub returns-clause-found : goal.returns-clause-found
returns-clause-found c = taken c.args.self.now.rest.now _ c.in-Some.number c.in-Some.end c.in-Some.ensures.word
    (take_rest c.args.self.now.rest.now c.in-Some.end) c.in-Some.ensures.found
