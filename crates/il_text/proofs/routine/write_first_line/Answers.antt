use Rattle.std.proofs.Common.{rules}
use Rattle.std.specs.Prelude.{string_bytes}
use Rattle.il_text.proofs.Lines.{routine_line}
use Rattle.il_text.proofs.routine.write_first_line.Goals as goal

pub returns : goal.returns
returns c = routine_line c.args.name.now c.args.routine.now (string_bytes c.args.out.now) (string_bytes c.write_head_of.new.out)
    (string_bytes c.write_arrays.new.out) (string_bytes c.writeln.new.self) c.in_ok-write_head_of.ensures (search (rules, c.in_ok-write_arrays.ensures))
    c.in_ok-writeln.ensures.bytes
