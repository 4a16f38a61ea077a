-- What stays over routines that go to the pools holds of one moment, and over a moment in between.
use Rattle.std.proofs.Common.{ℕ, arith, refl, le_trans, ◌∙◌}
use Rattle.compact_form.specs.declared.body.RoutineBody.{RoutineBody}
use Rattle.naim_loader.specs.Paged.{Paged}
use Rattle.one_owner.specs.Going.{Stays}
use Rattle.hlo_cmd.specs.Pools.{GoesOn}

module _ {B D : Type 0} (faults : D → ℕ) where
  stays_itself : (l : Paged RoutineBody B D) → Stays faults l l
  stays_itself l = record { limit = refl; workers = refl; first = refl; programs = refl; later = omega arith }

  pub stays : (l : Paged RoutineBody B D) → GoesOn faults l l
  stays l = record { stays = stays_itself l; home = λ h. h }

  pub goes_on : (a b c : Paged RoutineBody B D) → GoesOn faults a b → GoesOn faults b c → GoesOn faults a c
  goes_on a b c h k =
      let s = h.stays in
      let t = k.stays in
      record {
        stays = record {
          limit = t.limit ∙ s.limit;
          workers = t.workers ∙ s.workers;
          first = t.first ∙ s.first;
          programs = t.programs ∙ s.programs;
          later = le_trans s.later t.later;
        };
        home = λ e. k.home (h.home e);
      }
