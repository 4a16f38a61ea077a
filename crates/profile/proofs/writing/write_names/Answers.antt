use Rattle.profile.proofs.Written.{one_more_name}
use Rattle.profile.proofs.writing.write_names.Goals as goal

pub loop-name-preserved : goal.loop-name-preserved
loop-name-preserved c =
    one_more_name c.args.names.now.entries c.loop-name.name-iterator c.next.new.self (c.in-Some.name.now, c.in-Some.tally.now) c.args.out.now.items
    c.loop-name.out.items c.write_name.new.out.items
    c.in-Some.ensures.steps c.loop-name.invariant c.in_ok-write_name.ensures
