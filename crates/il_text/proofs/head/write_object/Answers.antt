use Rattle.std.proofs.Common.{rules}
use Rattle.std.specs.Prelude.{string_bytes}
use Rattle.il_text.proofs.Lines.{object_line}
use Rattle.il_text.proofs.head.write_object.Goals as goal

pub returns : goal.returns
returns c = object_line c.args.name.now c.args.object.now (string_bytes c.args.out.now) (string_bytes c.write_object_head.new.out)
    (string_bytes c.write_init.new.out) (string_bytes c.writeln.new.self) c.in_ok-write_object_head.ensures (search (rules, c.in_ok-write_init.ensures))
    c.in_ok-writeln.ensures.bytes
