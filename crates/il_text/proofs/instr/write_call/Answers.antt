use Rattle.std.specs.Prelude.{string_bytes}
use Rattle.il_text.proofs.Lines.{call_line}
use Rattle.il_text.proofs.instr.write_call.Goals as goal

pub returns : goal.returns
returns c = call_line c.args.dest c.args.callee c.args.count c.args.args.now (string_bytes c.args.out.now) (string_bytes c.write_call_head.new.out)
    (string_bytes c.write_args.new.out) (string_bytes c.writeln.new.self) c.in_ok-write_call_head.ensures c.in_ok-write_args.ensures
    c.in_ok-writeln.ensures.bytes
