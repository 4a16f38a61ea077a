-- A pool that goes.
use Rattle.std.proofs.Common.{◌≡◌, ◌≤◌, ◌+◌, ℕ, Bool, false, nat_eq, List, length, Option, Some, None, IsSome, Ok, refl, sym, ap, subst, ◌∙◌}
use Rattle.std.proofs.Math.Nat.{le_refl}
use Rattle.std.specs.Prelude.{is_none}
use Rattle.std.specs.Map.{remove_entry}
use Rattle.list_laws.proofs.Entries.{length_removed}
use Rattle.naim_core.specs.Rows
use Rattle.naim_core.specs.State.{Core, is_moving, is_pinned, pool_at}
use Rattle.naim_core.specs.Steps.{step_of}
use Rattle.naim_core.specs.declared.event.Event.TheVariants as event
use Rattle.naim_core.specs.declared.pool.Pool.{Pool}
use Rattle.naim_core.proofs.Effects.{running}
use Rattle.naim_loader.specs.Calls.{Removes}
use Rattle.naim_loader.specs.Contents.{StandsFor}
use Rattle.naim_loader.specs.Paged.{Paged, kept_at}
use Rattle.one_owner.specs.Alone.{IsResting}
use Rattle.one_owner.specs.Answers.{TakesAway}
use Rattle.one_owner.proofs.Events.{permit_gives}
use Rattle.one_owner.proofs.Hands.{rest_stage}
use Rattle.one_owner.proofs.Rounds.{home_is}
use Rattle.one_owner.proofs.Taking.{present, still_stage}

removes : (s new : Core) (p : ℕ) (x : Pool) → s.failure ≡ None → pool_at s.pools p ≡ Some x → step_of s (event.Remove p) ≡ Ok new
    → new ≡ record s { pools = remove_entry (nat_eq p) s.pools }
removes s new p x none at h =
    let here = sym (running s (event.Remove p) none) ∙ h in
    let kept : record s { pools = remove_entry (nat_eq p) s.pools } ≡ new =
    permit_gives (Rows.remove_row x s.in_wave) (record s { pools = remove_entry (nat_eq p) s.pools }) new (rw at at here) in
    sym kept

module _ {T B D : Type 0} (charge : T → ℕ) (spell : T → List ℕ) (is_value : T → Type 0) (bytes : D → Option (List ℕ)) (reach : D → ℕ) (honest : D → Bool)
    (faults : D → ℕ) where
  -- a pool that may go
  pub may_go : (l : Paged T B D) (p : ℕ) → IsResting l → StandsFor charge spell is_value bytes reach honest l → IsSome (kept_at l p)
      → (x : Pool) × (pool_at l.core.pools p ≡ Some x) × (is_moving x.stage ≡ false) × (is_pinned x.stage ≡ false)
  may_go l p w s some =
      let t = present charge spell is_value bytes reach honest faults l p (kept_at l p) s refl some in
      let lies = still_stage t.0.stage (rest_stage l.core p t.0 s.sound w.alone t.1) in (t.0, t.1, lies.0, lies.1)

  pub gone : (old new : Paged T B D) (p : ℕ) → IsResting old → StandsFor charge spell is_value bytes reach honest old → IsSome (kept_at old p)
      → Removes old new p → TakesAway faults old new p
  gone old new p w s some t =
      let x = may_go old p w s some in
      let is = removes old.core new.core p x.0 w.running x.1 t.event.step in
      let home = home_is old.core.disk (sym (s.home w.running) ∙ w.home) in
      record {
        rests = record {
          alone = record {
            others = w.alone.others;
            hands = ap (λ z. z.hands) is ∙ w.alone.hands;
            free = w.alone.free;
            closed = ap (λ z. z.in_wave) is ∙ w.alone.closed;
          };
          running = ap (λ z. z.failure) is ∙ w.running;
          home = ap (λ z. z.home) t.event.same ∙ ap is_none (ap (λ z. z.disk) is ∙ home);
        };
        stays = record {
          limit = ap (λ z. z.limit) is;
          workers = ap (λ z. length z.hands) is;
          first = ap (λ z. z.first) t.event.same;
          programs = ap (λ z. z.trail.programs) t.event.same;
          later = subst (λ z. faults old.disk ≤ faults z) (sym t.disk_same) (le_refl _);
        };
        kept = t.kept;
        used = ap (λ z. length z.pools + 1) is ∙ length_removed p x.0 old.core.pools x.1;
        insertions = ap (λ z. z.trail.insertions) t.event.same;
      }
