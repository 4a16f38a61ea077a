-- What contracts see after a call.
use Rattle.std.proofs.Common.{◌≡◌, ℕ, Bool, true, false, cond, length, List, [], ◌∷◌, ◌++◌, Option, Some, None, Ok, nat_eq, refl, sym, ap, subst, ◌∙◌}
use Rattle.std.specs.Prelude.{is_none, is_some, option_map, unwrap_or, ◌||◌}
use Rattle.std.specs.Map.{lookup}
use Rattle.std.proofs.lemmas.Map.Made.{lookup-map_values}
use Rattle.naim_core.specs.State.{Core}
use Rattle.naim_core.specs.Steps.{step_of}
use Rattle.naim_core.specs.declared.event.Event.{Event}
use Rattle.naim_loader.specs.declared.counters.Counters.{Counters}
use Rattle.naim_loader.specs.declared.table.Entry.{Entry}
use Rattle.naim_loader.specs.Counting.{Stepped}
use Rattle.naim_loader.specs.Paged.{Paged, kept_at, content_at, contents, Changes, Steps}
use Rattle.naim_core.specs.declared.event.Event.TheVariants as event
use Rattle.naim_core.specs.declared.event.Form.{Form}
use Rattle.naim_loader.specs.Calls.{Back, Inserts, Removes, Writes, brought}
use Rattle.naim_loader.specs.Drafts.{draft_value, draft_form}
use Rattle.naim_loader.specs.declared.forms.Draft.{Draft}
use Rattle.naim_loader.specs.Rows.{Kept, Renews, kept_of, kept_in}
use Rattle.naim_loader.specs.Trails.{History, Lists}

pub kept_lookup : {T B : Type 0} (rows : List (ℕ × Entry T B)) (q : ℕ) → lookup (nat_eq q) (kept_in rows) ≡ option_map kept_of (lookup (nat_eq q) rows)
kept_lookup rows q = lookup-map_values kept_of (nat_eq q) rows

module _ {T B D : Type 0} where
  -- what is kept of a pool, by the table
  pub kept_row : (old v : Paged T B D) (rows : List (ℕ × Entry T B)) (p : ℕ) (o : Option (Entry T B)) → v ≡ old → v.kept ≡ kept_in rows
      → lookup (nat_eq p) rows ≡ o → kept_at old p ≡ option_map kept_of o
  kept_row old v rows p o e k is = ap (λ z. kept_at z p) (sym e) ∙ ap (lookup (nat_eq p)) k ∙ kept_lookup rows p ∙ ap (option_map kept_of) is

  -- what is kept after an entry was put or renewed
  pub keeps_row : (old v : Paged T B D) (rows rows' : List (ℕ × Entry T B)) (p : ℕ) (x : Option (Entry T B)) → v ≡ old → v.kept ≡ kept_in rows
      → Renews rows rows' p x
      → (q : ℕ) → lookup (nat_eq q) (kept_in rows') ≡ cond (nat_eq p q) (option_map kept_of x) (kept_at old q)
  keeps_row old v rows rows' p x e k put q = kept_lookup rows' q ∙ ap (option_map kept_of) (put.found q) ∙ inside (nat_eq p q) ∙ ap
      (cond (nat_eq p q) (option_map kept_of x)) (sym (kept_row old v rows q (lookup (nat_eq q) rows) e k refl))
    where
      inside : (b : Bool) → option_map kept_of (cond b x (lookup (nat_eq q) rows)) ≡ cond b (option_map kept_of x) (option_map kept_of (lookup (nat_eq q) rows))
      inside true = refl
      inside false = refl

  pub inserted_view : (charge : T → ℕ) (spell : T → List ℕ) (old v : Paged T B D) (rows rows' : List (ℕ × Entry T B)) (p : ℕ) (d : Draft T) (brief : B)
      (x : Entry T B) (f : Form) (e c : ℕ) (new : Core) (after : Counters) (trail : Lists T) → v ≡ old → v.kept ≡ kept_in rows
      → v.home ≡ is_none new.disk → Stepped v.core (event.Insert p f e c) new v.counters after → Renews rows rows' p (Some x) → f ≡ draft_form d
      → e ≡ charge (draft_value d) → c ≡ length (spell (draft_value d)) → kept_of x ≡ record { value = draft_value d; brief = brief }
      → trail ≡ record v.trail { insertions = v.trail.insertions ++ p ∷ [] }
      → Inserts charge spell old (record { core = new; kept = kept_in rows'; disk = v.disk; home = v.home; first = v.first; counters = after; trail = trail }) p
      d brief
  inserted_view charge spell old v rows rows' p d brief x f e c new after trail view k h t put form_is charge_is length_is same noted =
      let at : step_of v.core (event.Insert p (draft_form d) (charge (draft_value d)) (length (spell (draft_value d)))) ≡ Ok new = sym
      (λ i. step_of v.core (event.Insert p (form_is i) (charge_is i) (length_is i))) ∙ t.step in
      subst (λ z. Inserts charge spell z (record {
        core = new;
        kept = kept_in rows';
        disk = v.disk;
        home = v.home;
        first = v.first;
        counters = after;
        trail =
            trail;
      }) p d brief) view (record {
        step = at;
        same = λ i. record { core = new; kept = kept_in rows'; disk = v.disk; home = h i; first = v.first; counters = t.counts i; trail = noted i };
        kept = λ q. keeps_row v v rows rows' p (Some x) refl k put q ∙ ap (λ z. cond (nat_eq p q) (Some z) (kept_at v q)) same;
      })

  -- nothing has changed
  pub same_view : (old v : Paged T B D) (new : Core) (after : Counters) → v ≡ old → new ≡ v.core → after ≡ v.counters
      → record v { core = new; counters = after } ≡ old
  same_view old v new after e f g = (λ i. record v { core = f i; counters = g i }) ∙ e

  -- the call was this event
  pub steps_view : (old v : Paged T B D) (event : Event) (new : Core) (after : Counters) (kept : List (ℕ × Kept T B)) (d : D) (home : Bool) → v ≡ old
      → Stepped v.core event new v.counters after → kept ≡ v.kept → d ≡ v.disk → home ≡ is_none new.disk
      → Steps old event (record { core = new; kept = kept; disk = d; home = home; first = v.first; counters = after; trail = v.trail })
  steps_view old v event new after kept d home e t k s h =
      subst (λ z. Steps z event (record { core = new; kept = kept; disk = d; home = home; first = v.first; counters = after; trail = v.trail })) e
      (record { step = t.step; same = λ i. record { core = new; kept = k i; disk = s i; home = h i; first = v.first; counters = t.counts i; trail = v.trail } })

  -- what the contents have of a pool
  pub content_here : (old v : Paged T B D) (p : ℕ) (k : Kept T B) → v ≡ old → lookup (nat_eq p) v.kept ≡ Some k → content_at old p ≡ Some k.value
  content_here old v p k e at = ap (λ z. content_at z p) (sym e) ∙ ap (option_map (λ z. z.value)) at

  -- the call was this event, and what is kept of pools may have changed
  pub changes_view : (old v : Paged T B D) (event : Event) (new : Core) (after : Counters) (kept : List (ℕ × Kept T B)) (d : D) (home : Bool) → v ≡ old
      → Stepped v.core event new v.counters after → home ≡ is_none new.disk
      → Changes old event (record { core = new; kept = kept; disk = d; home = home; first = v.first; counters = after; trail = v.trail })
  changes_view old v event new after kept d home e t h =
      subst (λ z. Changes z event (record { core = new; kept = kept; disk = d; home = home; first = v.first; counters = after; trail = v.trail })) e
      (record { step = t.step; same = λ i. record { core = new; kept = kept; disk = d; home = h i; first = v.first; counters = t.counts i; trail = v.trail } })

  pub written_view : (charge : T → ℕ) (spell : T → List ℕ) (old v : Paged T B D) (rows rows' : List (ℕ × Entry T B)) (w p : ℕ) (d : Draft T) (brief : B)
      (x was : Entry T B) (f : Form) (e c : ℕ) (new : Core) (after : Counters) → v ≡ old → v.kept ≡ kept_in rows → lookup (nat_eq p) rows ≡ Some was
      → v.home ≡ is_none new.disk → Stepped v.core (event.UnpinWrite w p f e c) new v.counters after → Renews rows rows' p (Some x) → f ≡ draft_form d
      → e ≡ charge (draft_value d) → c ≡ length (spell (draft_value d)) → kept_of x ≡ record { value = draft_value d; brief = brief }
      → Writes charge spell old (record { core = new; kept = kept_in rows'; disk = v.disk; home = v.home; first = v.first; counters = after; trail = v.trail })
      w p d brief
  written_view charge spell old v rows rows' w p d brief x was f e c new after view k at h t put form_is charge_is length_is same =
      let told : Stepped v.core (event.UnpinWrite w p (draft_form d) (charge (draft_value d)) (length (spell (draft_value d)))) new v.counters after = subst
      (λ z. Stepped v.core z new v.counters after) (λ i. event.UnpinWrite w p (form_is i) (charge_is i) (length_is i)) t in
      subst (λ z. Writes charge spell z (record {
        core = new;
        kept = kept_in rows';
        disk = v.disk;
        home = v.home;
        first = v.first;
        counters = after;
        trail =
            v.trail;
      }) w p d brief) view (record {
        there = (let q = kept_row v v rows p (Some was) refl k at in rw q refl);
        event = changes_view v v (event.UnpinWrite w p (draft_form d) (charge (draft_value d)) (length (spell (draft_value d)))) new after (kept_in rows')
            v.disk v.home refl told h;
        disk_same = refl;
        kept = λ q. keeps_row v v rows rows' p (Some x) refl k put q ∙ ap (λ z. cond (nat_eq p q) (Some z) (kept_at v q)) same;
      })

  pub removed_view : (old v : Paged T B D) (rows rows' : List (ℕ × Entry T B)) (p : ℕ) (was : Entry T B) (new : Core) (after : Counters) → v ≡ old
      → v.kept ≡ kept_in rows → lookup (nat_eq p) rows ≡ Some was
      → v.home ≡ is_none new.disk → Stepped v.core (event.Remove p) new v.counters after → Renews rows rows' p None
      → Removes old (record { core = new; kept = kept_in rows'; disk = v.disk; home = v.home; first = v.first; counters = after; trail = v.trail }) p
  removed_view old v rows rows' p was new after view k at h t put =
      subst (λ z. Removes z (record { core = new; kept = kept_in rows'; disk = v.disk; home = v.home; first = v.first; counters = after; trail = v.trail }) p)
      view (record {
        there = (let q = kept_row v v rows p (Some was) refl k at in rw q refl);
        event = changes_view v v (event.Remove p) new after (kept_in rows') v.disk v.home refl t h;
        disk_same = refl;
        kept = λ q. keeps_row v v rows rows' p None refl k put q;
      })

  -- a disk came home, or nothing has changed, while a failure was kept
  pub back_view : (old v : Paged T B D) (o : Option D) (d : D) (home : Bool) → v ≡ old → is_some old.core.failure ≡ true → d ≡ unwrap_or o v.disk
      → home ≡ (is_some o || v.home) → Back old o (record v { disk = d; home = home })
  back_view old v o d home e kept at is = record { kept = kept; same = by o at is ∙ ap (λ z. brought z o) e }
    where
      by : (o : Option D) → d ≡ unwrap_or o v.disk → home ≡ (is_some o || v.home) → record v { disk = d; home = home } ≡ brought v o
      by None a h = λ i. record v { disk = a i; home = h i }
      by (Some x) a h = λ i. record v { disk = a i; home = h i }

  -- a mark was made
  pub marked_view : (old v : Paged T B D) (trail : Lists T) → v ≡ old → trail ≡ record v.trail { programs = v.trail.programs ++ contents v ∷ [] }
      → record v { trail = trail } ≡ record old { trail = record old.trail { programs = old.trail.programs ++ contents old ∷ [] } }
  marked_view old v trail e t = (let noted : Paged T B D
      → Paged T B D = λ z. record z { trail = record z.trail { programs = z.trail.programs ++ contents z ∷ [] } } in (λ i. record v { trail = t i }) ∙ ap noted
      e)

  -- the trail of a loader that ends
  pub ended_view : (old v : Paged T B D) (limit : ℕ) (h : History T) → v ≡ old → v.core.limit ≡ limit
      → h ≡ record { limit = limit; counters = v.counters; lists = v.trail }
      → h ≡ record { limit = old.core.limit; counters = old.counters; lists = old.trail }
  ended_view old v limit h e l k =
      let seen : Paged T B D → History T = λ z. record { limit = z.core.limit; counters = z.counters; lists = z.trail } in
      let same : record { limit = limit; counters = v.counters; lists = v.trail } ≡ seen v = λ i.
      record { limit = sym l i; counters = v.counters; lists = v.trail } in
      k ∙ same ∙ ap seen e
