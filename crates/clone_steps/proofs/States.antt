-- States of the plan in pools: the clones of their accepted groups, and the calls sent to them.
use Rattle.std.proofs.Common.{◌≡◌, ℕ, Bool, List, [], ◌∷◌, map, refl, ap, sym, ◌∙◌}
use Rattle.call_graph.specs.Summaries.{Seen}
use Rattle.il_core.specs.Valid.{IsProgram}
use Rattle.il_core.specs.declared.program.IlProgram.{IlProgram}
use Rattle.il_core.specs.declared.shape.ShapeRow.{ShapeRow}
use Rattle.compact_form.specs.declared.body.RoutineBody.{RoutineBody}
use Rattle.clone_groups.specs.Grouping.{accepted}
use Rattle.clone_groups.specs.declared.groups.Group.{Group}
use Rattle.il_laws.specs.Table.{Row}
use Rattle.plan_laws.specs.Groups.{Taken, groups}
use Rattle.plan_laws.specs.Plan.{State, add_clones}
use Rattle.plan_laws.specs.Summary.{summaries}
use Rattle.naim_core.specs.declared.event.Failure.{Failure}
use Rattle.naim_loader.specs.Paged.{Paged, IsTrusted}
use Rattle.plan_pools.specs.Cloning.{CanAddAll, MayClone, cloning_states, groups_in, sent, with_clones}
use Rattle.plan_pools.specs.Contents.{IsContents}
use Rattle.plan_pools.specs.Planning.{Holds, IsMade, IsNeed, StopsMaking}
use Rattle.plan_pools.specs.Printing.{Rests}
use Rattle.plan_pools.proofs.Steps.{before_seen, seen_made}
use Rattle.clone_pools.specs.Growing.{ClonesNeed, NoClones, StopsClones}
use Rattle.clone_pools.specs.States.{GrowsOn, HoldsState, IsReady, NoState, StateMade, StateNeeds, StateStops, programs_of}
use Rattle.clone_pools.specs.declared.progress.Progress.{Progress}
use Rattle.clone_steps.specs.Sending.{AreGroupsOf, MaySend, NoTurn, StopsTurning, TurnNeeds, Turns}
use Rattle.clone_steps.proofs.Composing.{AnyState, cause_so, fits_so, grows_by, lifted, lifted_stops, made_from, stops_first, stops_from, stops_so}
use Rattle.clone_steps.proofs.Composing.{then_made, then_stops}
use Rattle.clone_steps.proofs.Members.{may_send}

abbrev Pools : Type 0 → Type 0
Pools D = Paged RoutineBody (Unit {0}) D

module _ {D : Type 0} (reach : D → ℕ) (honest : D → Bool) (faults : D → ℕ) (main limit : ℕ) where
  -- the groups that the code accepts are those of the state
  pub groups_known : (old l : Pools D) (x : Progress) (ss : List Seen) (gs : List Group) → Rests reach honest faults old l
      → ((p : IlProgram) → IsTrusted reach honest old → IsProgram p → p.shapes ≡ x.shapes → IsContents old p → ss ≡ summaries p)
      → (seen : List Seen) → seen ≡ ss → gs ≡ map accepted (groups seen x.table main x.next limit) → AreGroupsOf reach honest faults main limit gs l x
  groups_known old l x ss gs rests known seen same are st held =
      let b = before_seen reach honest faults x.shapes main old l rests st.program held.holds in
      are ∙ ap (λ s. map accepted (groups s x.table main x.next limit)) (same ∙ known st.program b.trusted b.valid b.shapes b.contents)
      ∙ ap (λ (t : List Row). map accepted (groups (summaries st.program) t main x.next limit)) (sym held.table_is)
      ∙ ap (λ n. map accepted (groups (summaries st.program) st.table main n limit)) (sym held.next)

  module _ (names : List ShapeRow) where
    abbrev May : State → Type 0
    May = MayClone names main limit

    abbrev Added : State → State
    Added = with_clones names main limit

    -- ---- clones are added, and the program is noted

    module _ (gs : List Group) (a : Pools D) (x : Progress) (known : AreGroupsOf reach honest faults main limit gs a x) where
      added : (b : Pools D) (y : Progress) → IsReady b y → GrowsOn faults [] a x.next b y.next
          → ((main : ℕ) (ts : List Taken) (st : State) → map accepted ts ≡ gs → CanAddAll names ts st → HoldsState reach honest faults main a x st
          → HoldsState reach honest faults main b y (add_clones names ts st))
          → StateMade reach honest faults main May (λ st. []) Added a x b y
      added b y ready grows held = record {
        ready = ready;
        noted = [];
        grows = grows;
        state = λ st may h. record { holds = held main (groups_in main limit st) st (sym (known st h)) may.add h; notes = tt };
      }

      pub added_noted : (b : Pools D) (y : Progress) (c : Pools D) → IsReady b y → GrowsOn faults [] a x.next b y.next
          → ((main : ℕ) (ts : List Taken) (st : State) → map accepted ts ≡ gs → CanAddAll names ts st → HoldsState reach honest faults main a x st
          → HoldsState reach honest faults main b y (add_clones names ts st))
          → IsMade reach honest faults (λ p. p ∷ []) (λ p. p) y.shapes main b c y.shapes
          → StateMade reach honest faults main May (λ st. Added st ∷ []) Added a x c y
      added_noted b y c ready grows held note =
          then_made reach honest faults main May (λ st. []) Added a x b y (added b y ready grows held) (AnyState reach honest faults main) (λ st may. tt)
          (λ st. st ∷ []) (λ st. st) c y
          (lifted reach honest faults main (λ p. p ∷ []) (λ p. p) b y c (λ st. st ∷ []) (λ st. st) (λ st. refl) (λ st. refl) ready note)

      pub added_stops : (b : Pools D) (e : Failure) → StopsClones reach honest faults main names gs a x b e
          → StateStops reach honest faults main May (λ st. Added st ∷ []) a x b e
      added_stops b e s = record {
        kept = s.kept;
        home = s.home;
        noted = [];
        next_now = s.next_now;
        grows = s.grows;
        cause = cause_so reach honest faults (NoClones reach honest faults main names gs a x) (NoState reach honest faults main May a x)
            (ClonesNeed reach honest faults main names gs a x) (StateNeeds reach honest faults main May (λ st. Added st ∷ []) a x)
            (λ q none st may h. none (groups_in main limit st) st (sym (known st h)) may.add h)
            (λ q n need st may h. need (groups_in main limit st) st (sym (known st h)) may.add h)
            a (faults a.disk) (faults b.disk) e s.cause;
      }

      -- ---- and the calls are sent

      module _ (b : Pools D) (y : Progress) (one : StateMade reach honest faults main May (λ st. Added st ∷ []) Added a x b y) where
        sends : (st : State) → May st → HoldsState reach honest faults main a x st → MaySend gs (Added st).program (sent names main limit st).program
        sends st may h = may_send names main limit st h.holds.valid gs may (known st h)

        pub sent_made : (c : Pools D) → Turns reach honest faults main (MaySend gs) y.shapes b c
            → StateMade reach honest faults main May (cloning_states names main limit) (sent names main limit) a x c y
        sent_made c t =
            made_from reach honest faults main May (λ st. Added st ∷ []) Added a x b y one (λ st. sent names main limit st ∷ []) (sent names main limit) c y
            t.noted (record { rests = t.rests; pools = t.pools; above = one.ready.above; next = one.ready.next }) (grows_by faults t.noted b c y.next t.goes)
            (λ st may h held.
            (let r = t.program (Added st).program (sent names main limit st).program (sends st may h) held.holds in
            record { holds = record { holds = r.holds; next = held.next; made = held.made; table_is = held.table_is }; notes = r.notes }))

        pub sent_stops : (c : Pools D) (e : Failure) → StopsTurning reach honest faults main (MaySend gs) y.shapes b c e
            → StateStops reach honest faults main May (cloning_states names main limit) a x c e
        sent_stops c e s =
            stops_from reach honest faults main May (λ st. Added st ∷ []) Added a x b y one (λ st. sent names main limit st ∷ []) c e s.noted y.next
            s.kept s.home (grows_by faults s.noted b c y.next s.goes)
            (cause_so reach honest faults (NoTurn reach honest faults main (MaySend gs) y.shapes b)
            (λ q. (st : State) → May st → HoldsState reach honest faults main a x st → HoldsState reach honest faults main b y (Added st) → ⊥)
            (TurnNeeds reach honest faults main (MaySend gs) y.shapes b)
            (λ q n. (st : State) → May st → HoldsState reach honest faults main a x st → HoldsState reach honest faults main b y (Added st)
            → IsNeed (programs_of (sent names main limit st ∷ [])) q n)
            (λ q none st may h held. none (Added st).program (sent names main limit st).program (sends st may h) held.holds)
            (λ q n need st may h held. need (Added st).program (sent names main limit st).program (sends st may h) held.holds)
            b (faults b.disk) (faults c.disk) e s.cause)

    -- the clones didn't come, or the program wasn't noted
    pub not_added : (a : Pools D) (x : Progress) (b : Pools D) (e : Failure) → StateStops reach honest faults main May (λ st. Added st ∷ []) a x b e
        → StateStops reach honest faults main May (cloning_states names main limit) a x b e
    not_added a x b e s =
        stops_first reach honest faults main May (λ st. Added st ∷ []) (λ st. sent names main limit st ∷ []) a x b e s

    -- ---- behind a look at the program

    module _ (a b : Pools D) (x : Progress) where
      looked : IsReady a x → Rests reach honest faults a b → StateMade reach honest faults main May (λ st. []) (λ st. st) a x b x
      looked ready r =
          fits_so reach honest faults main (AnyState reach honest faults main) May (λ st. []) (λ st. []) (λ st. st) (λ st. st) (λ st may. tt)
          (λ st may. refl) (λ st may. refl) a x b x
          (lifted reach honest faults main (λ p. []) (λ p. p) a x b (λ st. []) (λ st. st) (λ st. refl) (λ st. refl) ready
          (seen_made reach honest faults x.shapes main a b ready.pools r))

      pub still_ready : IsReady a x → Rests reach honest faults a b → IsReady b x
      still_ready ready r = (looked ready r).ready

      pub cloned_made : (c : Pools D) (y : Progress) → IsReady a x → Rests reach honest faults a b
          → StateMade reach honest faults main May (cloning_states names main limit) (sent names main limit) b x c y
          → StateMade reach honest faults main May (cloning_states names main limit) (sent names main limit) a x c y
      cloned_made c y ready r made =
          then_made reach honest faults main May (λ st. []) (λ st. st) a x b x (looked ready r) May (λ st may. may) (cloning_states names main limit)
          (sent names main limit) c y made

      pub cloned_stops : (c : Pools D) (e : Failure) → IsReady a x → Rests reach honest faults a b
          → StateStops reach honest faults main May (cloning_states names main limit) b x c e
          → StateStops reach honest faults main May (cloning_states names main limit) a x c e
      cloned_stops c e ready r s =
          then_stops reach honest faults main May (λ st. []) (λ st. st) a x b x (looked ready r) May (λ st may. may) (cloning_states names main limit) c e s

      pub not_looked : (e : Failure) → StopsMaking reach honest faults (λ p. []) x.shapes main a b e
          → StateStops reach honest faults main May (cloning_states names main limit) a x b e
      not_looked e s =
          stops_first reach honest faults main May (λ st. []) (cloning_states names main limit) a x b e
          (stops_so reach honest faults main (AnyState reach honest faults main) May (λ st. []) (λ st. []) (λ st may. tt) (λ st may q n need. need) a x b e
          (lifted_stops reach honest faults main (λ p. []) (λ p. p) a x b (λ st. []) (λ st. refl) e s))
