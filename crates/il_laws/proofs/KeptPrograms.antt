-- Programs of which some routines are removed, where those that stay call only such as stay.
use Rattle.std.proofs.Common.{◌≡◌, ℕ, List, Bool, true, refl, ap, sym, ◌∙◌, arith}
use Rattle.std.specs.Prelude.{◌||◌, Option, Some, None, filter}
use Rattle.std.specs.List.{AllByRecursion}
use Rattle.il_core.specs.declared.program.IlProgram.{IlProgram}
use Rattle.il_core.specs.declared.shape.Shape.{Shape}
use Rattle.il_core.specs.declared.shape.Shape.TheVariants as shape
use Rattle.il_core.specs.declared.shape.ShapeRow.{ShapeRow}
use Rattle.il_core.specs.Limits.{IsPid}
use Rattle.il_core.specs.Object.{ObjectParts}
use Rattle.il_core.specs.Program.{routine_at, shape_of_row, shape_at, main_pid}
use Rattle.il_core.specs.Routine.{RoutineParts}
use Rattle.il_core.specs.Valid.{IsProgram, IsValid}
use Rattle.il_laws.specs.Keeping.{MayFollow}
use Rattle.il_laws.specs.Reach.{is_object, stays, with_kept, is_live, pruned}
use Rattle.il_laws.specs.ReachLaws.{IsPruned}
use Rattle.il_laws.specs.Runs.{BlocksCallIn}
use Rattle.il_core.proofs.Found.{found_number}
use Rattle.il_laws.proofs.Grown.{all_of, all_to}
use Rattle.il_laws.proofs.Kept.{all_both, filter_all, filter_pass, filter_length, filter_rising, filter_names, filter_contains, found_filter}
use Rattle.il_laws.proofs.Kept.{found_back, rising_up}
use Rattle.il_laws.proofs.KeptRows.{count_left}
use Rattle.il_laws.proofs.Main.{main_of_row}
use Rattle.il_laws.proofs.ReachClosed.{live_calls, main_live}
use Rattle.il_laws.proofs.Serving.{each_found, run_kept}
use Rattle.il_laws.proofs.Shaped.{valid_stays, in_row, reached_same}
use Rattle.std.proofs.lemmas.Bool.{or_right}

module _ (keep : ℕ → Bool) (p : IlProgram) (valid : IsProgram p) (main_stays : keep (main_pid p.shapes) ≡ true)
    (closed : (x : ℕ) (r : RoutineParts) → keep x ≡ true → routine_at p.routines x ≡ Some r → BlocksCallIn (λ q. keep q ≡ true) r.blocks) where
  abbrev rows1 : List ShapeRow
  rows1 = filter (stays keep) p.shapes

  abbrev live : List RoutineParts
  live = filter (λ r. keep r.pid) p.routines

  abbrev p1 : IlProgram
  p1 = with_kept keep p

  -- shapes of what stays
  shape_stays : (x : ℕ) (s : Shape) → ((row : ShapeRow) → row.pid ≡ x → row.shape ≡ s → stays keep row ≡ true) → shape_at p.shapes x ≡ Some s
      → shape_at rows1 x ≡ Some s
  shape_stays x s h e =
      let f = in_row p.shapes x s e in
      ap shape_of_row (found_filter (stays keep) (λ (z : ShapeRow). z.pid) x p.shapes f.row (h f.row f.pid f.shape) f.is) ∙ ap Some f.shape

  row_stays : (row : ShapeRow) (x : ℕ) → keep x ≡ true → row.pid ≡ x → stays keep row ≡ true
  row_stays row x k e = or_right (is_object row.shape) (keep row.pid) (ap keep e ∙ k)

  object_stays : (x words : ℕ) → shape_at p.shapes x ≡ Some (shape.Object words) → shape_at rows1 x ≡ Some (shape.Object words)
  object_stays x words e = shape_stays x (shape.Object words) (λ row pid is. ap (λ (s : Shape). is_object s || keep row.pid) is) e

  pub routine_stays : (x params : ℕ) (value : Bool) → keep x ≡ true → shape_at p.shapes x ≡ Some (shape.Routine params value)
      → shape_at rows1 x ≡ Some (shape.Routine params value)
  routine_stays x params value k e = shape_stays x (shape.Routine params value) (λ row pid is. row_stays row x k pid) e

  pub shape_was : (x : ℕ) (s : Shape) → shape_at rows1 x ≡ Some s → shape_at p.shapes x ≡ Some s
  shape_was x s e =
      let f = in_row rows1 x s e in
      let up = rising_up (λ (z : ShapeRow). z.pid) p.shapes valid.rows in
      ap shape_of_row (found_back (λ (z : ShapeRow). z.pid) (stays keep) x p.shapes f.row up f.is) ∙ ap Some f.shape

  -- routines that stay
  pub stands_kept : (x : ℕ) (r : RoutineParts) → keep x ≡ true → routine_at p.routines x ≡ Some r → routine_at live x ≡ Some r
  stands_kept x r k e =
      let pid = found_number (λ (z : RoutineParts). z.pid) x p.routines r e in
      found_filter (λ (z : RoutineParts). keep z.pid) (λ (z : RoutineParts). z.pid) x p.routines r (ap keep pid ∙ k) e

  pub stood_kept : (x : ℕ) (r : RoutineParts) → routine_at live x ≡ Some r → (keep x ≡ true) × (routine_at p.routines x ≡ Some r)
  stood_kept x r e = (
    all_of (λ (z : RoutineParts). z.pid) (λ y. keep y ≡ true) x live r (filter_pass (λ (z : RoutineParts). keep z.pid) p.routines) e,
    found_back (λ (z : RoutineParts). z.pid) (λ z. keep z.pid) x p.routines r (rising_up (λ (z : RoutineParts). z.pid) p.routines valid.routines) e,
  )

  still_valid : (r : RoutineParts) → BlocksCallIn (λ q. keep q ≡ true) r.blocks → IsValid p.shapes r → IsValid rows1 r
  still_valid r calls ok =
      valid_stays (λ q. keep q ≡ true) p.shapes rows1 (record { objects = object_stays; routines = λ x params value k e. routine_stays x params value k e })
      r calls ok

  -- what is known of a routine that stays
  record Lives (r : RoutineParts) : Type 0 where
    kept : keep r.pid ≡ true
    calls : BlocksCallIn (λ q. keep q ≡ true) r.blocks
    ok : IsValid p.shapes r
    shaped : shape_at p.shapes r.pid ≡ Some (shape.Routine r.params r.value)

  record Known (r : RoutineParts) : Type 0 where
    calls : keep r.pid ≡ true → BlocksCallIn (λ q. keep q ≡ true) r.blocks
    ok : IsValid p.shapes r
    shaped : shape_at p.shapes r.pid ≡ Some (shape.Routine r.params r.value)

  all_known : AllByRecursion Known p.routines
  all_known =
      let calls = each_found (λ (z : RoutineParts). z.pid) (λ r. keep r.pid ≡ true → BlocksCallIn (λ q. keep q ≡ true) r.blocks) p.routines valid.routines
      (λ x r e k. closed x r (ap keep (sym (found_number (λ (z : RoutineParts). z.pid) x p.routines r e)) ∙ k) e) in
      let both = all_both (IsValid p.shapes) (λ r. shape_at p.shapes r.pid ≡ Some (shape.Routine r.params r.value)) p.routines valid.each
      valid.shapes.routines in
      all_to (λ (r : RoutineParts). (keep r.pid ≡ true → BlocksCallIn (λ q. keep q ≡ true) r.blocks)
      × (IsValid p.shapes r × (shape_at p.shapes r.pid ≡ Some (shape.Routine r.params r.value)))) Known p.routines
      (λ r h. record { calls = h.0; ok = h.1.0; shaped = h.1.1 })
      (all_both (λ (r : RoutineParts). keep r.pid ≡ true → BlocksCallIn (λ q. keep q ≡ true) r.blocks)
      (λ r. IsValid p.shapes r × (shape_at p.shapes r.pid ≡ Some (shape.Routine r.params r.value))) p.routines calls both)

  all_live : AllByRecursion Lives live
  all_live =
      all_to (λ (r : RoutineParts). (keep r.pid ≡ true) × Known r) Lives live
      (λ r h. record { kept = h.0; calls = h.1.calls h.0; ok = h.1.ok; shaped = h.1.shaped })
      (all_both (λ (r : RoutineParts). keep r.pid ≡ true) Known live (filter_pass (λ r. keep r.pid) p.routines)
      (filter_all (λ r. keep r.pid) Known p.routines all_known))

  main_row : stays keep valid.main.0 ≡ true
  main_row = row_stays valid.main.0 (main_pid p.shapes) main_stays (sym (main_of_row p valid valid.main.0 valid.main.1 valid.main.2))

  kept_valid : IsProgram p1
  kept_valid =
      let fewer = filter_length (λ (r : RoutineParts). keep r.pid) p.routines in
      let few = valid.few in
      record {
        objects = valid.objects;
        routines = filter_rising (λ r. keep r.pid) (λ (z : RoutineParts). z.pid) p.routines valid.routines;
        rows = filter_rising (stays keep) (λ (z : ShapeRow). z.pid) p.shapes valid.rows;
        shapes = record {
          count = count_left keep p valid;
          objects = all_to (λ (o : ObjectParts). shape_at p.shapes o.pid ≡ Some (shape.Object o.words))
              (λ o. shape_at rows1 o.pid ≡ Some (shape.Object o.words)) p.objects (λ o e. object_stays o.pid o.words e) valid.shapes.objects;
          routines = all_to Lives (λ z. shape_at rows1 z.pid ≡ Some (shape.Routine z.params z.value)) live
              (λ z h. routine_stays z.pid z.params z.value h.kept h.shaped) all_live;
        };
        names = filter_names (stays keep) p.shapes valid.names;
        few = omega arith;
        pids = filter_all (stays keep) (λ (z : ShapeRow). IsPid z.pid) p.shapes valid.pids;
        words = valid.words;
        each = all_to Lives (IsValid rows1) live (λ r h. still_valid r h.calls h.ok) all_live;
        main = (valid.main.0, filter_contains (stays keep) p.shapes valid.main.0 main_row valid.main.1, valid.main.2, valid.main.3);
      }

  -- it stands in both, or it stood in neither
  same_kept : (x : ℕ) → keep x ≡ true → (o o1 : Option RoutineParts) → routine_at p.routines x ≡ o → routine_at live x ≡ o1 → o ≡ o1
  same_kept x k None None e e1 = refl
  same_kept x k None (Some r) e e1 = sym e ∙ (stood_kept x r e1).1
  same_kept x k (Some r) o1 e e1 = sym (stands_kept x r k e) ∙ e1

  pub kept_follows : MayFollow p p1
  kept_follows =
      record {
        act = record {
          by = λ x s s1 args w. reached_same p rows1 live (λ q. keep q ≡ true)
              (λ y k. same_kept y k (routine_at p.routines y) (routine_at live y) refl refl) closed x args w (stood_kept x s1.routine s1.is).0;
        };
        valid = kept_valid;
      }

  pub kept_main : main_pid rows1 ≡ main_pid p.shapes
  kept_main =
      main_of_row p1 kept_valid valid.main.0 (filter_contains (stays keep) p.shapes valid.main.0 main_row valid.main.1) valid.main.2
      ∙ sym (main_of_row p valid valid.main.0 valid.main.1 valid.main.2)

pub pruned_follows : (p : IlProgram) → IsProgram p → IsPruned p (pruned p)
pruned_follows p valid =
    let keep = is_live p in
    let main = main_live p in
    let closed = λ (x : ℕ) (r : RoutineParts) (k : is_live p x ≡ true) (e : routine_at p.routines x ≡ Some r). live_calls p x r k e in
    let follows = kept_follows keep p valid main closed in
    record {
      follows = follows;
      stand = stands_kept keep p valid main closed;
      stood = stood_kept keep p valid main closed;
      main = kept_main keep p valid main closed;
      run = run_kept p (pruned p) valid follows refl (kept_main keep p valid main closed);
    }
