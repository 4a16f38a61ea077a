use Rattle.il_text.proofs.KnownItems.{pid_noted, name_noted}
use Rattle.il_text.proofs.order.note.Goals as goal

pub returns-clause-known : goal.returns-clause-known
returns-clause-known c = λ items h. record {
  pids = pid_noted c.args.used.now.pids c.insert.new.self (record { pid = c.args.pid; name = c.args.name.now }) items c.in_ok-new_pid.ensures.updates h.pids;
  names = name_noted c.args.used.now.names c.insert-2.new.self c.text_of.result (record { pid = c.args.pid; name = c.args.name.now }) items
      c.in_ok-new_name.ensures.updates c.text_of.ensures h.names;
}
