-- The clones of a pass, added one after the other.
use Rattle.std.proofs.Common.{◌≡◌, ℕ, suc, ◌+◌, ◌<◌, ◌≤◌, List, [], ◌∷◌, ◌++◌, Bool, true, false, refl, ap, subst, sym, ◌∙◌, arith, length, inr, ltb-true}
use Rattle.std.specs.Prelude.{◌^◌, ◌&&◌, nat_lt, nat_le, if◌then◌else◌, Option, Some, None}
use Rattle.std.specs.List.{AllByRecursion}
use Rattle.std.proofs.lemmas.List.{length-append}
use Rattle.il_core.specs.Limits.{max_pids, max_routines}
use Rattle.il_core.specs.declared.program.IlProgram.{IlProgram}
use Rattle.il_core.specs.declared.shape.Shape.TheVariants as shape
use Rattle.il_core.specs.declared.shape.ShapeRow.{ShapeRow}
use Rattle.il_core.specs.Program.{found, routine_at, shape_of_row, shape_at, main_pid}
use Rattle.il_core.specs.Routine.{RoutineParts}
use Rattle.il_core.specs.Valid.{IsProgram, HasEachNameOnce}
use Rattle.il_laws.specs.Clone.{make_clone}
use Rattle.il_laws.specs.CloneLaws.{ClonesAdded}
use Rattle.il_laws.specs.Growing.{NewClone, shape_row_of, with_copy, with_clone, CloneFits}
use Rattle.il_laws.specs.Keeping.{Stands, MayFollow}
use Rattle.il_laws.specs.Table.{Row}
use Rattle.il_laws.proofs.CloneRows.{row_stays}
use Rattle.il_laws.proofs.ClonesGrown.{is_grown, clones_follow}
use Rattle.il_core.proofs.Found.{found_all}
use Rattle.il_laws.proofs.Grown.{all_push, all_to, all_of, found_other}
use Rattle.il_laws.proofs.Kept.{all_both}
use Rattle.il_core.proofs.Programs.{shape_is}
use Rattle.il_laws.proofs.Serving.{follow_then}
use Rattle.il_laws.proofs.Shaped.{in_row}
use Rattle.list_laws.proofs.Tests.{and_first, and_second}
use Rattle.plan_laws.specs.Summary.{Summary, summary_at}
use Rattle.plan_laws.specs.Numbers.{Numbers, is_within}
use Rattle.plan_laws.specs.Groups.{Group, Taken, Spent, clone_fits, more_spent, refused, with_new, decided, clone_in, clone_numbers, taken}
use Rattle.plan_laws.specs.Plan.{Made, State, root_of, clones_of, new_clone, add_clone, add_clones}
use Rattle.plan_laws.proofs.Naming.{RowNamed, name_is, new_for, root_new, named_still, count_new}
use Rattle.plan_laws.proofs.Retargets.{IsGood}

-- PIDs below a number
abbrev pub IsBelow : ℕ → Row → Type 0
IsBelow n row = (row.callee < n) × (row.clone < n)

-- What holds between the steps of a pass: the program is valid, the table's rows are good, no PID is used again, and each
-- name is a root's, alone or with a number that was given.
pub record IsSound (names : List ShapeRow) (st : State) : Type 0 where
  pub valid : IsProgram st.program
  pub below : AllByRecursion (λ row. row.pid < st.next) st.program.shapes
  pub table : AllByRecursion (IsGood st.program) st.table
  pub table_below : AllByRecursion (IsBelow st.next) st.table
  pub named : AllByRecursion (RowNamed names st.made) st.program.shapes
  pub few : length st.made ≤ st.next

-- what stood stands as it was and does what it did
pub record Grows (p p1 : IlProgram) : Type 0 where
  pub follows : MayFollow p p1
  pub stand : (x : ℕ) (r : RoutineParts) → routine_at p.routines x ≡ Some r → routine_at p1.routines x ≡ Some r
  pub main : main_pid p1.shapes ≡ main_pid p.shapes
  pub objects : p1.objects ≡ p.objects

pub grows_itself : (p : IlProgram) → IsProgram p → Grows p p
grows_itself p valid =
    record {
      follows = record { act = record { by = λ x s s1 args w. refl }; valid = valid };
      stand = λ x r e. e;
      main = refl;
      objects = refl;
    }

grows_then : (p q r : IlProgram) → Grows p q → Grows q r → Grows p r
grows_then p q r a b =
    record {
      follows = follow_then p q r (λ x s s2. record { routine = s.routine; is = a.stand x s.routine s.is }) a.follows b.follows;
      stand = λ x one e. b.stand x one (a.stand x one e);
      main = b.main ∙ a.main;
      objects = b.objects ∙ a.objects;
    }

-- a sound state, and how its program grew
pub record Added (names : List ShapeRow) (st st1 : State) : Type 0 where
  pub sound : IsSound names st1
  pub grows : Grows st.program st1.program

-- a group's callee stands, and its constants are of parameters that it has
pub record GroupFits (p : IlProgram) (g : Group) : Type 0 where
  pub callee : RoutineParts
  pub is : routine_at p.routines g.callee ≡ Some callee
  pub fixed : AllByRecursion (λ x. x.param < callee.params) g.fixed

copy_objects : (p : IlProgram) (c : NewClone) (o : Option RoutineParts) → (with_copy p c o).objects ≡ p.objects
copy_objects p c None = refl
copy_objects p c (Some r) = refl

module _ (names : List ShapeRow) (once : HasEachNameOnce names) where
  -- one clone
  module _ (st : State) (sound : IsSound names st) (t : Taken) (fits : GroupFits st.program t.group) (above : st.next ≤ t.clone)
      (room : length st.program.routines < max_routines) (in_range : t.clone < max_pids) where
    abbrev p : IlProgram
    p = st.program

    abbrev c : NewClone
    c = new_clone names st.made t

    abbrev st1 : State
    st1 = add_clone names t st

    abbrev callee : ℕ
    callee = t.group.callee

    abbrev root : ℕ
    root = root_of st.made callee

    all_above : AllByRecursion (λ row. row.pid < t.clone) p.shapes
    all_above = all_to (λ (row : ShapeRow). row.pid < st.next) (λ row. row.pid < t.clone) p.shapes (λ row lt. omega arith) sound.below

    -- the row of the routine that is cloned
    record CalleeRow : Type 0 where
      row : ShapeRow
      pid : row.pid ≡ callee
      below : callee < st.next
      named : RowNamed names st.made row

    callee_row : CalleeRow
    callee_row =
        let shaped = shape_is p sound.valid callee fits.callee fits.is in
        let f = in_row p.shapes callee (shape.Routine fits.callee.params fits.callee.value) shaped in
        let named = found_all (λ (z : ShapeRow). z.pid) (RowNamed names st.made) callee p.shapes f.row sound.named f.is in
        let below = all_of (λ (z : ShapeRow). z.pid) (λ n. n < st.next) callee p.shapes f.row sound.below f.is in
        record { row = f.row; pid = f.pid; below = below; named = named.0 }

    abbrev root_row : ShapeRow
    root_row = callee_row.named.root

    root_is : found (λ z. z.pid) root names ≡ Some root_row
    root_is = ap (λ (x : ℕ). found (λ (z : ShapeRow). z.pid) (root_of st.made x) names) (sym callee_row.pid) ∙ callee_row.named.is_root

    abbrev clone_ok : CloneFits p c
    clone_ok =
        let few = sound.few in
        record {
          callee = fits.callee;
          is = fits.is;
          fixed = fits.fixed;
          above = all_above;
          pid = in_range;
          name = new_for names once st.made (omega arith) root root_row root_is callee_row.named.plain p.shapes sound.named;
          room = room;
        }

    abbrev row : ShapeRow
    row = shape_row_of c fits.callee

    abbrev r1 : RoutineParts
    r1 = make_clone fits.callee c.pid c.fixed

    added : ClonesAdded p (with_clone p c) (c ∷ [])
    added = clones_follow p sound.valid (c ∷ []) (clone_ok, tt)

    shapes_are : (with_clone p c).shapes ≡ p.shapes ++ row ∷ []
    shapes_are = ap (λ (q : IlProgram). q.shapes) (is_grown p c clone_ok)

    routines_are : (with_clone p c).routines ≡ p.routines ++ r1 ∷ []
    routines_are = ap (λ (q : IlProgram). q.routines) (is_grown p c clone_ok)

    -- what stood has its shape, and nothing comes below the clone
    old_shape : (x : ℕ) → x < t.clone → shape_at (with_clone p c).shapes x ≡ shape_at p.shapes x
    old_shape x lt =
        ap (λ (rows : List ShapeRow). shape_at rows x) shapes_are
        ∙ ap shape_of_row (found_other (λ (z : ShapeRow). z.pid) x p.shapes row (λ e. absurd (omega arith)))

    old_stands : (x : ℕ) → x < t.clone → Stands (with_clone p c) x → Stands p x
    old_stands x lt s =
        record {
          routine = s.routine;
          is = sym (ap (λ (rs : List RoutineParts). routine_at rs x) routines_are
              ∙ found_other (λ (z : RoutineParts). z.pid) x p.routines r1 (λ e. absurd (omega arith))) ∙ s.is;
        }

    old_row : (z : Row) → IsGood p z × IsBelow st.next z → IsGood (with_clone p c) z
    old_row z h =
        let lc = h.1.0 in
        let lk = h.1.1 in
        record {
          right = row_stays p (with_clone p c) z added.follows.act (old_stands z.callee (omega arith)) (old_stands z.clone (omega arith)) h.0.right;
          shape = record {
            by = λ params value e. old_shape z.clone (omega arith)
                ∙ h.0.shape.by params value (sym (old_shape z.callee (omega arith)) ∙ e);
          };
        }

    abbrev made1 : List Made
    made1 = record { clone = t.clone; root = root } ∷ st.made

    new_named : RowNamed names made1 row
    new_named =
        let same = root_new st.made t.clone root in
        let count = count_new st.made t.clone root in
        let at = ap (clones_of made1) same in
        record {
          root = root_row;
          is_root = ap (λ (x : ℕ). found (λ (z : ShapeRow). z.pid) x names) same ∙ root_is;
          plain = callee_row.named.plain;
          is = inr (suc (clones_of st.made root), name_is names st.made root root_row root_is, omega arith);
        }

    one_sound : IsSound names st1
    one_sound =
        let callee_below = callee_row.below in
        let few = sound.few in
        record {
          valid = added.follows.valid;
          below = subst (AllByRecursion (λ z. z.pid < suc t.clone)) (sym shapes_are)
              (all_push (λ (z : ShapeRow). z.pid < suc t.clone) p.shapes row
              (all_to (λ (z : ShapeRow). z.pid < t.clone) (λ z. z.pid < suc t.clone) p.shapes (λ z lt. omega arith) all_above) (omega arith));
          table = (
            record { right = added.clones.0.right; shape = added.clones.0.shape },
            all_to (λ (z : Row). IsGood p z × IsBelow st.next z) (IsGood (with_clone p c)) st.table old_row
                (all_both (IsGood p) (IsBelow st.next) st.table sound.table sound.table_below),
          );
          table_below = (
            (omega arith, omega arith),
            all_to (IsBelow st.next) (IsBelow (suc t.clone)) st.table (λ z h. (let a = h.0 in let b = h.1 in (omega arith, omega arith))) sound.table_below,
          );
          named = subst (AllByRecursion (RowNamed names made1)) (sym shapes_are)
              (all_push (RowNamed names made1) p.shapes row
              (all_to (λ (z : ShapeRow). (z.pid < t.clone) × RowNamed names st.made z) (RowNamed names made1) p.shapes
              (λ z h. named_still names st.made t.clone root z h.0 h.1)
              (all_both (λ (z : ShapeRow). z.pid < t.clone) (RowNamed names st.made) p.shapes all_above sound.named)) new_named);
          few = omega arith;
        }

    pub one_added : Added names st st1
    one_added =
        record {
          sound = one_sound;
          grows = record { follows = added.follows; stand = added.stand; main = added.main; objects = copy_objects p c (routine_at p.routines callee) };
        }

    pub group_still : (g : Group) → GroupFits p g → GroupFits st1.program g
    group_still g h = record { callee = h.callee; is = added.stand g.callee h.callee h.is; fixed = h.fixed }

    pub one_more : length st1.program.routines ≡ suc (length p.routines)
    one_more =
        let size = ap (λ (rs : List RoutineParts). length rs) routines_are in
        let a = length-append p.routines (r1 ∷ []) in
        omega arith

  -- the clones of a list of groups, each decided by those before
  module _ (ss : List Summary) (table : List Row) (limit : ℕ) where
    abbrev Rest : List Group → Type 0
    Rest gs = (b : Spent) (st : State) → IsSound names st → length st.program.routines ≤ b.routines → st.next ≤ b.next
        → AllByRecursion (GroupFits st.program) gs → Added names st (add_clones names (taken ss table limit b gs) st)

    added_then : (a b c : State) → Added names a b → Added names b c → Added names a c
    added_then a b c f g = record { sound = g.sound; grows = grows_then a.program b.program c.program f.grows g.grows }

    make_one : (g : Group) (gs : List Group) → Rest gs → (b : Spent) (n : Numbers) (st : State) → IsSound names st
        → length st.program.routines ≤ b.routines → st.next ≤ b.next → GroupFits st.program g → AllByRecursion (GroupFits st.program) gs
        → b.routines < max_routines → b.next < max_pids
        → Added names st (add_clones names ((with_new g b n).taken ++ taken ss table limit (more_spent b n) gs) st)
    make_one g gs rest b n st sound few below fits all room in_range =
        let t : Taken = record { group = g; clone = b.next; is_new = true } in
        let small : length st.program.routines < max_routines = omega arith in
        let next = add_clone names t st in
        let one = one_added st sound t fits below small in_range in
        let size = one_more st sound t fits below small in_range in
        let still = all_to (GroupFits st.program) (GroupFits next.program) gs (λ h o. group_still st sound t fits below small in_range h o) all in
        let later = rest (more_spent b n) next one.sound (omega arith) (omega arith) still in
        added_then st next (add_clones names (taken ss table limit (more_spent b n) gs) next) one later

    fit_one : (g : Group) (gs : List Group) → Rest gs → (b : Spent) (n : Numbers) (st : State) (k : Bool) → clone_fits b limit n ≡ k → IsSound names st
        → length st.program.routines ≤ b.routines → st.next ≤ b.next → GroupFits st.program g → AllByRecursion (GroupFits st.program) gs
        → Added names st (add_clones names
        ((if k then with_new g b n else refused b).taken ++ taken ss table limit (if k then with_new g b n else refused b).spent gs) st)
    fit_one g gs rest b n st false e sound few below fits all = rest b st sound few below all
    fit_one g gs rest b n st true e sound few below fits all =
        let cost = nat_le (b.cost + n.size ^ 2) limit && is_within n in
        let room = nat_lt b.routines max_routines in
        let pid = nat_lt b.next max_pids in
        let first = and_first (cost && room) pid e in
        make_one g gs rest b n st sound few below fits all (ltb-true b.routines max_routines (and_second cost room first))
        (ltb-true b.next max_pids (and_second (cost && room) pid e))

    decide_one : (g : Group) (gs : List Group) → Rest gs → (b : Spent) (st : State) (o : Option ℕ) (m : Option Summary) → IsSound names st
        → length st.program.routines ≤ b.routines → st.next ≤ b.next → GroupFits st.program g → AllByRecursion (GroupFits st.program) gs
        → Added names st (add_clones names ((decided limit g b o m).taken ++ taken ss table limit (decided limit g b o m).spent gs) st)
    decide_one g gs rest b st (Some clone) m sound few below fits all = rest b st sound few below all
    decide_one g gs rest b st None None sound few below fits all = rest b st sound few below all
    decide_one g gs rest b st None (Some s) sound few below fits all =
        let n = clone_numbers s g.fixed in
        fit_one g gs rest b n st (clone_fits b limit n) refl sound few below fits all

    pub all_added : (gs : List Group) → Rest gs
    all_added [] b st sound few below all = record { sound = sound; grows = grows_itself st.program sound.valid }
    all_added (g ∷ gs) b st sound few below all =
        decide_one g gs (all_added gs) b st (clone_in table g.callee g.fixed) (summary_at ss g.callee) sound few below all.0 all.1
