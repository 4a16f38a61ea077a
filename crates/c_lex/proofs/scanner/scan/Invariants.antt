use Rattle.std.proofs.Common.{◌≡◌, ◌-◌, length}
use Rattle.c_lex.specs.declared.phase.Context.TheVariants.{Fresh}
use Rattle.c_lex.specs.Text.{start}
use Rattle.c_lex.specs.Machine.{before, read}
use Rattle.c_lex.specs.Reading.{IsOpen, left}
use Rattle.c_lex.proofs.scanner.scan.Given as goal

-- the tokens so far, and what the machine says of the bytes left, are what it says of the text
abbrev pub invariant-loop-r : goal.invariant-loop-r
invariant-loop-r l = record { opened : IsOpen l.b l.r; said : before l.out.items (left l.b l.r) ≡ read l.b Fresh start }

abbrev pub decreases-loop-r : goal.decreases-loop-r
decreases-loop-r l = length l.initial.b - l.r.here.at
