use Rattle.std.proofs.Common.{None, subst, sym}
use Rattle.paging_rows.specs.Pairs.{Stands}
use Rattle.paging_rows.proofs.pairs.wave.Goals as goal

pub lone_wave-requires-clause-stands : goal.lone_wave-requires-clause-stands
lone_wave-requires-clause-stands g c = subst (λ y. Stands c.args.pools.now 0 None y) c.requires.other
    (subst (λ w. Stands c.args.pools.now w None c.args.other.now) c.requires.worker c.requires.stands)

pub returns : goal.returns
returns g c = subst (λ w. Stands c.lone_wave.new.pools w None c.args.other.now) (sym c.requires.worker)
    (subst (λ y. Stands c.lone_wave.new.pools 0 None y) (sym c.requires.other) c.lone_wave.ensures)
