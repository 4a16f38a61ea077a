use Rattle.std.proofs.Common.{◌≡◌, drop}
use Rattle.c_types.specs.DeclarationRules.{file_declarators}
use Rattle.c_types.proofs.checker.Checker.file_declarators.Given as goal

abbrev pub invariant-loop-d : goal.invariant-loop-d
invariant-loop-d l = file_declarators l.number l.s (drop l.d-index l.ds) l.self ≡ file_declarators l.number l.s l.ds l.fn.self
