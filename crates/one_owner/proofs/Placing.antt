-- A new pool.
use Rattle.std.proofs.Common.{◌≡◌, ◌≤◌, ◌<◌, ◌+◌, ◌^◌, ℕ, Bool, true, false, List, [], ◌∷◌, ◌++◌, length, Option, Some, None, Ok, refl, sym, ap, subst}
use Rattle.std.proofs.Common.{arith, ◌∙◌}
use Rattle.std.proofs.Math.Nat.{le_refl}
use Rattle.std.specs.Prelude.{is_none, is_some}
use Rattle.naim_core.specs.Charges.{under_sum}
use Rattle.naim_core.specs.Rows
use Rattle.naim_core.specs.State.{Core, empty_hand, pool_at}
use Rattle.naim_core.specs.Steps.{permit, step_of, then_state}
use Rattle.naim_core.specs.declared.event.Event.TheVariants as event
use Rattle.naim_core.specs.declared.event.Failure.{Failure}
use Rattle.naim_core.specs.declared.event.Form.{Form}
use Rattle.naim_core.specs.declared.event.Refusal.TheVariants as refusal
use Rattle.naim_core.specs.declared.pool.Pool.{Pool}
use Rattle.naim_core.specs.declared.state.Hand.{Hand}
use Rattle.naim_core.proofs.Effects.{running}
use Rattle.naim_loader.specs.declared.forms.Draft.{Draft}
use Rattle.naim_loader.specs.declared.forms.Put.{Put}
use Rattle.naim_loader.specs.declared.forms.Put.TheVariants as put
use Rattle.naim_loader.specs.Calls.{AnswersInsert, Inserts}
use Rattle.naim_loader.specs.Contents.{StandsFor}
use Rattle.naim_loader.specs.Drafts.{draft_form, draft_value}
use Rattle.naim_loader.specs.Paged.{Paged, kept_at}
use Rattle.one_owner.specs.Alone.{IsResting, Works, idle}
use Rattle.one_owner.specs.Answers.{Places}
use Rattle.one_owner.specs.Causes.{PlaceCause, RoomCause}
use Rattle.one_owner.specs.Going.{MakesRoom, Stops}
use Rattle.one_owner.specs.Rounds.{HasRoom}
use Rattle.one_owner.proofs.Frames.{place_cause, stays_on}
use Rattle.one_owner.proofs.Hands.{idle_is}
use Rattle.one_owner.proofs.Pools.{keeps_from, pool_absent}
use Rattle.one_owner.proofs.Refusals.{insert_taken}
use Rattle.one_owner.proofs.Rounds.{home_is}

inserts : (s new : Core) (p : ℕ) (f : Form) (e c : ℕ) → s.failure ≡ None → step_of s (event.Insert p f e c) ≡ Ok new
    → new ≡ record s { pools = (p, Rows.inserted f e c) ∷ s.pools }
inserts s new p f e c none h =
    made (Rows.insert_row s.limit (under_sum s.pools) (is_some (pool_at s.pools p)) (length s.pools) f e c) (Rows.inserted f e c)
    (sym (running s (event.Insert p f e c) none) ∙ h)
  where
    made : (row : Rows.Row) (x : Pool) → then_state (permit row x) (λ y. record s { pools = (p, y) ∷ s.pools }) ≡ Ok new
        → new ≡ record s { pools = (p, x) ∷ s.pools }
    made [] x k = (let is : record s { pools = (p, x) ∷ s.pools } ≡ new = cc in sym is)
    made ((true, r) ∷ row) x k = cc
    made ((false, r) ∷ row) x k = made row x k

module _ {T B D : Type 0} (charge : T → ℕ) (spell : T → List ℕ) (is_value : T → Type 0) (bytes : D → Option (List ℕ)) (reach : D → ℕ) (honest : D → Bool)
    (faults : D → ℕ) where
  pub placed : (old new : Paged T B D) (p : ℕ) (d : Draft T) (brief : B) → IsResting old → StandsFor charge spell is_value bytes reach honest old
      → Inserts charge spell old new p d brief → Places faults old new p (draft_value d) brief
  placed old new p d brief w s i =
      let is = inserts old.core new.core p (draft_form d) (charge (draft_value d)) (length (spell (draft_value d))) w.running i.step in
      let home = home_is old.core.disk (sym (s.home w.running) ∙ w.home) in
      record {
        rests = record {
          alone = record {
            others = w.alone.others;
            hands = ap (λ z. z.hands) is ∙ w.alone.hands;
            free = w.alone.free;
            closed = ap (λ z. z.in_wave) is ∙
                w.alone.closed;
          };
          running = ap (λ z. z.failure) is ∙ w.running;
          home = ap (λ z. z.home) i.same ∙ ap is_none (ap (λ z. z.disk) is ∙ home);
        };
        stays = record {
          limit = ap (λ z. z.limit) is;
          workers = ap (λ z. length z.hands) is;
          first = ap (λ z. z.first) i.same;
          programs = ap (λ z. z.trail.programs) i.same;
          later = subst (λ z. faults old.disk ≤ faults z) (sym (ap (λ z. z.disk) i.same)) (le_refl _);
        };
        kept = i.kept;
        used = (let k = ap (λ z. length z.pools) is in omega arith);
        insertions = ap (λ z. z.trail.insertions) i.same;
      }

  pub let_in : (old new : Paged T B D) (p : ℕ) (d : Draft T) (brief : B) (a : Put T B) → IsResting old → StandsFor charge spell is_value bytes reach honest old
      → kept_at old p ≡ None → length old.core.pools < 4096
      → length (spell (draft_value d)) ≤ charge (draft_value d) → charge (draft_value d) ≤ 2 ^ 40
      → HasRoom old (draft_form d) (charge (draft_value d)) (length (spell (draft_value d))) → AnswersInsert charge spell old new p d brief a
      → (a ≡ put.Done → ⊥) → ⊥
  let_in old new p d brief put.Done w s absent few short small room b n = n refl
  let_in old new p d brief (put.NeedsRoom k back brief_back) w s absent few short small room b n =
      insert_taken old.core p (draft_form d) (charge (draft_value d)) (length (spell (draft_value d))) (refusal.NeedsRoom k) w.running
      (pool_absent charge spell is_value bytes reach honest old p s absent) few short small room.short room.fits b.1
  let_in old new p d brief (put.TooSmall q need limit) w s absent few short small room b n =
      insert_taken old.core p (draft_form d) (charge (draft_value d)) (length (spell (draft_value d))) (refusal.TooSmall need) w.running
      (pool_absent charge spell is_value bytes reach honest old p s absent) few short small room.short room.fits b.0
  let_in old new p d brief put.Stopped w s absent few short small room b n =
      (let e : is_some old.core.failure ≡ false = ap is_some w.running in let q : true ≡ false = sym b.kept ∙ e in absurd cc)

-- room that was made for a new pool
module _ {T B D : Type 0} (faults : D → ℕ) where
  pub rests_still : (old mid : Paged T B D) (wanted : ℕ) → IsResting old → MakesRoom faults old mid (idle old.core) wanted → IsResting mid
  rests_still old mid wanted w m = subst (Works mid) (idle_is old.core empty_hand w.alone) m.works

  pub absent_still : (old mid : Paged T B D) (p wanted : ℕ) (h : Hand) → MakesRoom faults old mid h wanted → kept_at old p ≡ None → kept_at mid p ≡ None
  absent_still old mid p wanted h m none = m.keeps.kept p ∙ none

  pub few_still : (old mid : Paged T B D) (wanted : ℕ) (h : Hand) → MakesRoom faults old mid h wanted → length old.core.pools < 4096
      → length mid.core.pools < 4096
  few_still old mid wanted h m few = subst (λ n. n < 4096) (sym m.keeps.used) few

  pub has_room : (old mid : Paged T B D) (f : Form) (e c wanted : ℕ) (h : Hand) → MakesRoom faults old mid h wanted → wanted ≡ Rows.bytes_of f e c
      → c ≤ old.core.limit → HasRoom mid f e c
  has_room old mid f e c wanted h m is short = record {
    short = subst (λ n. c ≤ n) (sym m.keeps.stays.limit) short;
    fits = subst (λ n. under_sum mid.core.pools + n ≤ mid.core.limit) is m.fits;
  }

  pub places_as : (old new : Paged T B D) (p : ℕ) (r r' : T) (brief : B) → r ≡ r' → Places faults old new p r brief → Places faults old new p r' brief
  places_as old new p r r' brief e = subst (λ z. Places faults old new p z brief) e

  pub places_on : (old mid new : Paged T B D) (p : ℕ) (r : T) (brief : B) (wanted : ℕ) (h : Hand) → MakesRoom faults old mid h wanted
      → Places faults mid new p r brief → Places faults old new p r brief
  places_on old mid new p r brief wanted h m x = record {
    rests = x.rests;
    stays = stays_on faults old mid new m.keeps.stays x.stays;
    kept = keeps_from old mid new p (Some (record { value = r; brief = brief })) m.keeps.kept x.kept;
    used = x.used ∙ ap (λ n. n + 1) m.keeps.used;
    insertions = x.insertions ∙ ap (λ ps. ps ++ p ∷ []) m.keeps.insertions;
  }

  -- room was wanting
  pub place_stops : (old new : Paged T B D) (p n : ℕ) (f : Failure) → Stops faults (RoomCause (faults old.disk) (faults new.disk)) old new f
      → Stops faults (PlaceCause (faults old.disk) (faults new.disk) p n old.core.limit) old new f
  place_stops old new p n f s = record {
    kept = s.kept;
    home = s.home;
    keeps = s.keeps;
    cause = place_cause (faults old.disk) (faults new.disk) p n
        old.core.limit f s.cause;
  }
