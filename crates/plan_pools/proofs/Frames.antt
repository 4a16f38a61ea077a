-- What the pools are while a program is printed.
use Rattle.std.proofs.Common.{◌≡◌, ◌*◌, ℕ, Bool, true, false, cond, nat_eq, List, Option, Some, None, IsSome, Result, Ok, Err, refl, sym, ap, subst, ◌∙◌}
use Rattle.std.proofs.Math.Nat.{le_refl}
use Rattle.std.specs.Prelude.{IfErr, is_some}
use Rattle.std.specs.Arc.{arc_value}
use Rattle.list_laws.proofs.Entries.{same_number}
use Rattle.naim_core.specs.declared.event.Failure.{Failure}
use Rattle.naim_core.specs.declared.event.Failure.TheVariants as failure
use Rattle.naim_loader.specs.declared.forms.ReadPin.{ReadPin}
use Rattle.naim_loader.specs.Calls.{Fails}
use Rattle.naim_loader.specs.Paged.{Paged, kept_at, IsGood, IsTrusted}
use Rattle.naim_loader.specs.Rows.{Kept}
use Rattle.one_owner.specs.Alone.{IsResting}
use Rattle.one_owner.specs.Answers.{Takes}
use Rattle.one_owner.specs.Causes.{RoomCause, TakeCause}
use Rattle.one_owner.specs.Going.{Keeps, Stays, Stops}
use Rattle.one_owner.proofs.Frames.{fails_stop, rose_since, stays_itself, stays_on}
use Rattle.plan_pools.specs.Printing.{Leaves, ReadCause, Reads, Rests, StopsReading}
use Rattle.plan_pools.specs.declared.printing.PrintFault.{PrintFault}
use Rattle.plan_pools.specs.declared.printing.PrintFault.TheVariants as fault

pub some_is : {X : Type 0} (o : Option X) → is_some o ≡ true → IsSome o
some_is None e = e
some_is (Some x) e = e

pub is_some_of : {X : Type 0} (o : Option X) → IsSome o → is_some o ≡ true
is_some_of None h = h
is_some_of (Some x) h = h

module _ {T B D : Type 0} (reach : D → ℕ) (honest : D → Bool) (faults : D → ℕ) where
  trusts_on : (a b : Paged T B D) → Stays faults a b → IsTrusted reach honest a → IsTrusted reach honest b
  trusts_on a b s g = subst (λ n. IsGood reach honest n b.first) (sym s.limit) (subst (IsGood reach honest a.core.limit) (sym s.first) g)

  pub reads_itself : (l : Paged T B D) → Reads reach honest faults l l
  reads_itself l = record { stays = stays_itself faults l; same = λ g q. refl; has = λ q. refl; used = refl; insertions = refl }

  pub reads_on : (a b c : Paged T B D) → Reads reach honest faults a b → Reads reach honest faults b c → Reads reach honest faults a c
  reads_on a b c x y = record {
    stays = stays_on faults a b c x.stays y.stays;
    same = λ g q. y.same (trusts_on a b x.stays g) q ∙ x.same g q;
    has = λ q. y.has q ∙ x.has q;
    used = y.used ∙ x.used;
    insertions = y.insertions ∙ x.insertions;
  }

  pub reads_kept : (a b : Paged T B D) → Keeps faults a b → Reads reach honest faults a b
  reads_kept a b k = record { stays = k.stays; same = λ g. k.kept; has = λ q. ap is_some (k.kept q); used = k.used; insertions = k.insertions }

  -- a pin reads its pool
  pub reads_take : (a b : Paged T B D) (p : ℕ) (x : ReadPin T) → Takes reach honest faults a b p x → Reads reach honest faults a b
  reads_take a b p x t = record {
    stays = t.stays;
    same = λ g q. at q (nat_eq p q) refl (λ e. (λ i. Some (record t.was { value = t.same (λ u. g) i })) ∙ sym t.there ∙ ap (kept_at a) (same_number p q e));
    has = λ q. has q (nat_eq p q) refl (λ e. sym (ap is_some t.there) ∙ ap (λ z. is_some (kept_at a z)) (same_number p q e));
    used = t.used;
    insertions = t.insertions;
  }
    where
      now : Option (Kept T B)
      now = Some (record t.was { value = arc_value x.body })

      at : (q : ℕ) (v : Bool) → nat_eq p q ≡ v → (nat_eq p q ≡ true → now ≡ kept_at a q) → kept_at b q ≡ kept_at a q
      at q true e here = t.kept q ∙ ap (λ v. cond v now (kept_at a q)) e ∙ here e
      at q false e here = t.kept q ∙ ap (λ v. cond v now (kept_at a q)) e

      has : (q : ℕ) (v : Bool) → nat_eq p q ≡ v → (nat_eq p q ≡ true → true ≡ is_some (kept_at a q)) → is_some (kept_at b q) ≡ is_some (kept_at a q)
      has q true e here = ap is_some (t.kept q ∙ ap (λ v. cond v now (kept_at a q)) e) ∙ here e
      has q false e here = ap is_some (t.kept q ∙ ap (λ v. cond v now (kept_at a q)) e)

  cause_on : (a b : Paged T B D) (now : ℕ) (f : Failure) → Stays faults a b → ReadCause reach honest faults b (faults b.disk) now f
      → ReadCause reach honest faults a (faults a.disk) now f
  cause_on a b now failure.Repository s c = rose_since (faults a.disk) (faults b.disk) now s.later c
  cause_on a b now (failure.Damaged place kept found) s c = (c.0, (c.1.0, c.1.1 ∙ ap (λ n. c.1.0 * n) s.limit), λ g. c.2 (trusts_on a b s g))
  cause_on a b now (failure.Unreadable place) s c = ((c.0.0, c.0.1 ∙ ap (λ n. c.0.0 * n) s.limit), λ g. c.1 (trusts_on a b s g))
  cause_on a b now (failure.Unfit p) s c = c
  cause_on a b now (failure.TooSmall p need limit) s c = c
  cause_on a b now failure.Memory s c = c

  pub stops_on : (a b c : Paged T B D) (f : Failure) → Reads reach honest faults a b → StopsReading reach honest faults b c f
      → StopsReading reach honest faults a c f
  stops_on a b c f x s = record { kept = s.kept; home = s.home; reads = reads_on a b c x s.reads; cause = cause_on a b (faults c.disk) f x.stays s.cause }

  pub leaves_on : {X : Type 0} (a b c : Paged T B D) (r : Result X PrintFault) → Reads reach honest faults a b → Leaves reach honest faults b c r
      → Leaves reach honest faults a c r
  leaves_on a b c (Ok u) x l = record { rests = l.rests; reads = reads_on a b c x l.reads }
  leaves_on a b c (Err fault.Output) x l = record { rests = l.rests; reads = reads_on a b c x l.reads }
  leaves_on a b c (Err (fault.Stopped f)) x l = stops_on a b c f x l

  room_cause : (l : Paged T B D) (before now : ℕ) (f : Failure) → RoomCause before now f → ReadCause reach honest faults l before now f
  room_cause l before now failure.Repository c = c
  room_cause l before now (failure.Damaged place kept found) c = absurd c
  room_cause l before now (failure.Unreadable place) c = absurd c
  room_cause l before now (failure.Unfit p) c = c
  room_cause l before now (failure.TooSmall p need limit) c = c
  room_cause l before now failure.Memory c = c

  -- giving a body back failed
  pub stops_room : (a b : Paged T B D) (f : Failure) → Stops faults (RoomCause (faults a.disk) (faults b.disk)) a b f → StopsReading reach honest faults a b f
  stops_room a b f s = record { kept = s.kept; home = s.home; reads = reads_kept a b s.keeps; cause = room_cause a (faults a.disk) (faults b.disk) f s.cause }

  take_cause : (charge : T → ℕ) (spell : T → List ℕ) (is_value : T → Type 0) (l : Paged T B D) (p before now : ℕ) (f : Failure)
      → TakeCause charge spell is_value reach honest l p before now f → ReadCause reach honest faults l before now f
  take_cause charge spell is_value l p before now failure.Repository c = c
  take_cause charge spell is_value l p before now (failure.Damaged place kept found) c = (c.differ, (p, c.place_is), c.distrusted)
  take_cause charge spell is_value l p before now (failure.Unreadable place) c = ((p, c.place_is), c.distrusted)
  take_cause charge spell is_value l p before now (failure.Unfit q) c = c
  take_cause charge spell is_value l p before now (failure.TooSmall q need limit) c = c
  take_cause charge spell is_value l p before now failure.Memory c = c

  -- a pin failed
  pub stops_take : (charge : T → ℕ) (spell : T → List ℕ) (is_value : T → Type 0) (a b : Paged T B D) (p : ℕ) (f : Failure)
      → Stops faults (TakeCause charge spell is_value reach honest a p (faults a.disk) (faults b.disk)) a b f → StopsReading reach honest faults a b f
  stops_take charge spell is_value a b p f s =
      record {
        kept = s.kept;
        home = s.home;
        reads = reads_kept a b s.keeps;
        cause = take_cause charge spell is_value a p (faults a.disk)
            (faults b.disk) f s.cause;
      }

  -- memory was wanting
  pub stops_memory : (a b : Paged T B D) → a.core.failure ≡ None → a.home ≡ true → Fails a 0 failure.Memory b
      → StopsReading reach honest faults a b failure.Memory
  stops_memory a b none home t = let s = fails_stop faults (RoomCause (faults a.disk) (faults b.disk)) a b None failure.Memory none home
      (le_refl _) tt t in stops_room a b failure.Memory s

  -- a fault leaves the pools so, whatever the answer would have had
  pub leaves_err : (X Y : Type 0) (a b : Paged T B D) (f : PrintFault) → Leaves reach honest faults {X = X} a b (Err f)
      → Leaves reach honest faults {X = Y} a b (Err f)
  leaves_err X Y a b fault.Output l = l
  leaves_err X Y a b (fault.Stopped f) l = l

  -- a piece that is put out, or isn't, leaves them at rest
  pub put_leaves : {X : Type 0} (a b : Paged T B D) (r : Result X PrintFault) → IfErr r (λ f. f ≡ fault.Output) → Rests reach honest faults a b
      → Leaves reach honest faults a b r
  put_leaves a b (Ok u) h l = l
  put_leaves a b (Err fault.Output) h l = l
  put_leaves a b (Err (fault.Stopped f)) h l = absurd cc

  pub rests_itself : (a : Paged T B D) → IsResting a → Rests reach honest faults a a
  rests_itself a w = record { rests = w; reads = reads_itself a }

  pub trusted_on : (a b : Paged T B D) → Reads reach honest faults a b → IsTrusted reach honest a → IsTrusted reach honest b
  trusted_on a b r g = trusts_on a b r.stays g
