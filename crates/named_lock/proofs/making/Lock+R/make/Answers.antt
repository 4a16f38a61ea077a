use Rattle.std.proofs.Common.{◌∙◌, ap, sym, ◌∷◌, [], ◌%◌, ◌^◌}
use Rattle.named_lock.specs.Known.{taken_of}
use Rattle.named_lock.specs.Keeps.{known_of}
use Rattle.named_lock.specs.Steps.{given_at}
use Rattle.named_lock.specs.Pass.{is_placed, out_with}
use Rattle.named_lock.proofs.Ends.{opens}
use Rattle.named_lock.proofs.making.Lock+R.make.Goals as goal

pub new-requires : goal.new-requires
new-requires g c = opens g.R.Rule.holds _ c.args.state _ (c.in-Ok.ensures.ok ∙ ap (λ z. z ∷ []) c.with_state.ensures) c.requires.shares c.requires.rule

pub returns-in-Ok-new-clause-pass : goal.returns-in-Ok-new-clause-pass
returns-in-Ok-new-clause-pass g c = let seat = c.in-Ok-new.ensures.ok.4 in record {
  same = c.in-Ok-new.ensures.ok.2;
  placed = ap (λ z. is_placed z.0) seat;
  slots = ap (λ z. z.1) seat ∙ sym (ap (λ z. out_with (taken_of (known_of z.0))) seat);
  given = sym (ap (λ z. given_at z.0 % 2 ^ 63) seat);
}
