use Rattle.std.proofs.Common.{◌≡◌, map}
use Rattle.c_types.specs.StatementRules as rules
use Rattle.c_types.proofs.statements.all_unlabelled.Given as goal

abbrev pub invariant-loop-body : goal.invariant-loop-body
invariant-loop-body l = l.out.items ≡ map (λ s. rules.section (rules.unlabelled s)) l.yielded
