use Rattle.std.proofs.Common.{[], refl}
use Rattle.paging_rows.proofs.owns.play.Goals as goal

pub put_three-requires-clause-rests : goal.put_three-requires-clause-rests
put_three-requires-clause-rests c = rw c.in-Ok.ensures.made
    (record { alone = record { others = []; hands = refl; free = refl; closed = refl }; running = refl; home = refl })
