use Rattle.std.proofs.Common.{◌≡◌, ◌++◌, take, map}
use Rattle.std.specs.Prelude.{string_bytes}
use Rattle.std.specs.Fmt.{decimal}
use Rattle.il_text.specs.Spaced.{spaced}
use Rattle.il_text.proofs.routine.write_arrays.Given as goal

abbrev pub invariant-loop-len : goal.invariant-loop-len
invariant-loop-len l = string_bytes l.out ≡ string_bytes l.initial.out ++ spaced (map decimal (take l.len-index l.arrays))
