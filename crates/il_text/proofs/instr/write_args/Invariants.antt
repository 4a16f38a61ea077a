use Rattle.std.proofs.Common.{◌≡◌, ◌++◌, take, map}
use Rattle.std.specs.Prelude.{string_bytes}
use Rattle.il_core.specs.Text.{reg}
use Rattle.il_text.specs.Spaced.{spaced}
use Rattle.il_text.proofs.instr.write_args.Given as goal

abbrev pub invariant-loop-arg : goal.invariant-loop-arg
invariant-loop-arg l = string_bytes l.out ≡ string_bytes l.initial.out ++ spaced (map reg (take l.arg-index l.args))
