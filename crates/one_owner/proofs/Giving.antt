-- A body that was read goes back.
use Rattle.std.proofs.Common.{◌≡◌, ◌≤◌, ◌+◌, ℕ, Bool, true, List, length, Option, Some, None, Err, sym, ap, subst, arith, ◌∙◌}
use Rattle.std.specs.Prelude.{is_none}
use Rattle.std.proofs.lemmas.Option.{same_Some}
use Rattle.naim_core.specs.Charges.{under_sum}
use Rattle.naim_core.specs.Rows
use Rattle.naim_core.specs.State.{is_read}
use Rattle.naim_core.specs.Steps.{step_of}
use Rattle.naim_core.specs.declared.event.Event.TheVariants as event
use Rattle.naim_core.specs.declared.event.Form.{Form}
use Rattle.naim_core.specs.declared.event.Refusal.TheVariants as refusal
use Rattle.naim_core.specs.declared.pool.Pool.{Pool}
use Rattle.naim_core.specs.declared.state.Hand.{Hand}
use Rattle.naim_loader.specs.Contents.{StandsFor}
use Rattle.naim_loader.specs.Paged.{Paged, content_at, Steps}
use Rattle.one_owner.specs.Alone.{IsReading, Works, idle, reading}
use Rattle.one_owner.specs.Answers.{GivesBack}
use Rattle.one_owner.specs.Going.{MakesRoom}
use Rattle.one_owner.proofs.Events.{alone_acts, read_unpins}
use Rattle.one_owner.proofs.Frames.{keeps_on, keeps_step}
use Rattle.one_owner.proofs.Hands.{hand_is, idle_is, read_there}
use Rattle.one_owner.proofs.Pools.{pool_there}
use Rattle.one_owner.proofs.Refusals.{unpin_taken}
use Rattle.one_owner.proofs.Rounds.{home_is}

module _ {T B D : Type 0} (charge : T → ℕ) (spell : T → List ℕ) (is_value : T → Type 0) (bytes : D → Option (List ℕ)) (reach : D → ℕ) (honest : D → Bool)
    (faults : D → ℕ) where
  -- the compact spelling of a value in a pool is at most as long as the limit
  pub short_there : (l : Paged T B D) (p : ℕ) (r : T) → StandsFor charge spell is_value bytes reach honest l → content_at l p ≡ Some r
      → length (spell r) ≤ l.core.limit
  short_there l p r s at =
      let t = pool_there charge spell is_value bytes reach honest l p r s at in
      let w = (s.sound.forms_fit p t.0 t.1).within in let e = t.2.length_is in omega arith

  -- where its form fits, it isn't refused
  pub let_go : (l : Paged T B D) (p : ℕ) (r : T) (f : Form) (k : ℕ) → IsReading l p → StandsFor charge spell is_value bytes reach honest l
      → content_at l p ≡ Some r → under_sum l.core.pools + Rows.bytes_of f (charge r) (length (spell r)) ≤ l.core.limit
      → step_of l.core (event.UnpinRead 0 p f) ≡ Err (refusal.NeedsRoom k) → ⊥
  let_go l p r f k w s at fits h =
      let t = pool_there charge spell is_value bytes reach honest l p r s at in let x = t.0 in
      let v = read_there l.core p s.sound w.alone in
      let read : is_read x.stage ≡ true = ap (λ z. is_read z.stage) (same_Some x v.0 (sym t.1 ∙ v.1)) ∙ v.2 in
      let room : under_sum l.core.pools + Rows.bytes_of f x.e x.c ≤ l.core.limit = subst (λ e. under_sum l.core.pools + Rows.bytes_of f e x.c ≤ l.core.limit)
      (sym t.2.charge_is)
      (subst (λ c. under_sum l.core.pools + Rows.bytes_of f (charge r) c ≤ l.core.limit) (sym t.2.length_is) fits) in
      unpin_taken l.core p f x (refusal.NeedsRoom k) w.running (ap (λ h. h.read) (hand_is l.core (reading p) w.alone)) t.1 read
      (s.sound.forms_fit p x t.1).within room h

  -- after it all hands are empty
  pub gone_back : (old new : Paged T B D) (p : ℕ) (f : Form) → IsReading old p → StandsFor charge spell is_value bytes reach honest old
      → Steps old (event.UnpinRead 0 p f) new → GivesBack faults old new
  gone_back old new p f w s t =
      let v = read_there old.core p s.sound w.alone in let x = v.0 in let y : Pool = record x { stage = Rows.without_reader f x.stage } in
      let act = read_unpins old.core new.core p f x s.sound w.running v.1 t.step in
      let home = home_is old.core.disk (sym (s.home w.running) ∙ w.home) in
      record {
        rests = record {
          alone = alone_acts old.core new.core p x y (λ g. record g { read = None }) old.core.disk (reading p) act w.alone;
          running = act.failure ∙ w.running;
          home = ap (λ z. z.home) t.same ∙ ap is_none (act.disk_is ∙ home);
        };
        keeps = keeps_step faults old new (event.UnpinRead 0 p f) p x y (λ g. record g { read = None }) old.core.disk (reading p) t act w.alone;
      }

module _ {T B D : Type 0} (faults : D → ℕ) where
  pub reads_still : (old mid : Paged T B D) (p wanted : ℕ) → IsReading old p → MakesRoom faults old mid (idle old.core) wanted → IsReading mid p
  reads_still old mid p wanted w m = subst (Works mid) (idle_is old.core (reading p) w.alone) m.works

  pub gives_on : (old mid new : Paged T B D) (wanted : ℕ) (h : Hand) → MakesRoom faults old mid h wanted → GivesBack faults mid new → GivesBack faults old new
  gives_on old mid new wanted h m x = record { rests = x.rests; keeps = keeps_on faults old mid new m.keeps x.keeps }

  pub room_left : (old mid : Paged T B D) (wanted n : ℕ) (h : Hand) → MakesRoom faults old mid h wanted → wanted ≡ n
      → under_sum mid.core.pools + n ≤ mid.core.limit
  room_left old mid wanted n h m is = subst (λ k. under_sum mid.core.pools + k ≤ mid.core.limit) is m.fits
