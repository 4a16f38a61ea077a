use Rattle.std.proofs.Common.{◌∙◌, Some, None, ◌∷◌, []}
use Rattle.named_lock.proofs.Views.{carried_one, exchanged_one}
use Rattle.named_lock.proofs.lock.Lock+R.move_in.Goals as goal

pub exchange-requires : goal.exchange-requires
exchange-requires g c = (c.requires.same, (_, carried_one _ _ c.requires.slot))

pub returns-clause-seat : goal.returns-clause-seat
returns-clause-seat g c =
    exchanged_one _ _ _ _ c.requires.slot c.exchange.ensures.3
    ∙ (λ i. (
      c.args.p.now.seat.me.0,
      (
        0,
        record {
          state = Some c.args.state;
          intent =
              record { mine = Some (record { marker = record {}; value = c.of.ensures i }); other = None; share = 0 };
        },
      ) ∷ [],
    ))
