use Rattle.std.proofs.Common.{◌∙◌, arith}
use Rattle.std.proofs.lemmas.Bool.{eqb-false, eqb-true}
use Rattle.named_lock.proofs.Views.{out-idle}
use Rattle.named_lock.proofs.Moves.{tries}
use Rattle.named_lock.proofs.lock.Lock+R.try_win.Goals as goal

pub compare_exchange-found-requires : goal.compare_exchange-found-requires
compare_exchange-found-requires g c =
    let p = c.requires.pass in (
      p.same,
      omega (arith, c.args.self.now.one),
      tries g.R.Rule.holds _ _ _ _ _ _ (p.slots ∙ out-idle _ c.requires.idle) p.placed
          (omega arith),
    )

pub returns-clause-lost : goal.returns-clause-lost
returns-clause-lost g c = λ e. let f = c.compare_exchange-found.ensures in let me = f.2.0 (eqb-false _ _ e) in
    λ i. record { seat = record { marker = record {}; table_id = f.0 i; id = f.1 i; me = me i }; given = c.args.p.now.given }

pub returns-clause-won : goal.returns-clause-won
returns-clause-won g c = λ e. c.compare_exchange-found.ensures.2.1 (eqb-true _ _ e)
