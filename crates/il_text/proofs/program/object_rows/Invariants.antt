use Rattle.std.proofs.Common.{◌≡◌, ◌++◌, map}
use Rattle.il_text.specs.Assembled.{object_row}
use Rattle.il_text.proofs.program.object_rows.Given as goal

abbrev pub invariant-loop-name : goal.invariant-loop-name
invariant-loop-name l = record { rows : l.rows.items ≡ l.initial.rows.items ++ map object_row l.yielded; objects : l.objects ≡ map (λ x. x.object) l.yielded }
