use Rattle.profile.specs.Writing.{AddsBefore}
use Rattle.profile.proofs.writing.write_names.Given as goal

abbrev pub invariant-loop-name : goal.invariant-loop-name
invariant-loop-name l = AddsBefore l.names.entries l.name-iterator l.fn.out.items l.out.items
