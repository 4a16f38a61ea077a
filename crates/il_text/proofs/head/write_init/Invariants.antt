use Rattle.std.proofs.Common.{◌≡◌, ◌++◌, take, map}
use Rattle.std.specs.Prelude.{string_bytes}
use Rattle.il_core.specs.Text.{word}
use Rattle.il_text.specs.Spaced.{spaced}
use Rattle.il_text.proofs.head.write_init.Given as goal

abbrev pub invariant-loop-w : goal.invariant-loop-w
invariant-loop-w l = string_bytes l.out ≡ string_bytes l.initial.out ++ spaced (map word (take l.w-index l.init))
