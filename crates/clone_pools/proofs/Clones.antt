-- A group's new clone.
use Rattle.std.proofs.Common.{◌≡◌, ◌<◌, ◌+◌, ℕ, Bool, true, false, List, [], ◌∷◌, Option, None, Some, length, nat_eq, refl, sym, ap, subst, arith, ◌∙◌}
use Rattle.std.specs.Prelude.{◌&&◌, if◌then◌else◌, is_some, nat_lt, not}
use Rattle.std.specs.List.{AllByRecursion}
use Rattle.std.proofs.lemmas.List.Elements.{Contains-append_left}
use Rattle.list_laws.proofs.Entries.{same_number}
use Rattle.il_core.specs.Limits.{max_pids, max_routines}
use Rattle.il_core.specs.Program.{main_pid, routine_at}
use Rattle.il_core.specs.Routine.{RoutineParts}
use Rattle.il_core.specs.Valid.{IsProgram}
use Rattle.il_core.specs.declared.program.IlProgram.{IlProgram}
use Rattle.il_core.specs.declared.shape.ShapeRow.{ShapeRow}
use Rattle.il_laws.specs.Clone.{Fixed}
use Rattle.il_laws.specs.Growing.{NewClone, with_copy}
use Rattle.il_laws.specs.Table.{Row}
use Rattle.il_laws.proofs.Grown.{all_push, all_to}
use Rattle.il_laws.proofs.Main.{main_of_row}
use Rattle.plan_laws.specs.Groups.{Taken}
use Rattle.plan_laws.specs.Plan.{Made, State, add_clone, clone_name, new_clone, root_of}
use Rattle.compact_form.specs.declared.body.RoutineBody.{RoutineBody}
use Rattle.clone_groups.specs.Fixing.{fixed_of}
use Rattle.clone_groups.specs.Grouping.{accepted}
use Rattle.clone_groups.specs.Keys.{pairs_of}
use Rattle.clone_groups.specs.declared.groups.Group.{Group}
use Rattle.clone_names.specs.Made.{Clones, next_pid}
use Rattle.clone_pools.specs.Growing.{is_fit, wanted_of, with_made, with_taken}
use Rattle.clone_pools.specs.States.{HoldsState, IsReady}
use Rattle.clone_pools.specs.declared.progress.Progress.{Progress}
use Rattle.naim_loader.specs.Paged.{Paged, kept_at, IsGood, IsTrusted}
use Rattle.one_owner.specs.Going.{Stays}
use Rattle.plan_pools.specs.Adding.{Adds, AddsRow, HasClone, clone_of}
use Rattle.plan_pools.specs.Cloning.{CanAdd, CanAddIf}
use Rattle.plan_pools.specs.Contents.{HavePools, IsContents}
use Rattle.plan_pools.specs.declared.clones.NewClone.{NewClone as CodeClone}

first_of : (a b c d e f : Bool) → (a && b && c && d && e && f) ≡ true → a ≡ true
first_of true b c d e f h = refl
first_of false b c d e f h = h

-- a clone that fits has the next PID
pub fit_next : {B D : Type 0} (l : Paged RoutineBody B D) (next : ℕ) (g : Group) → is_fit l next g ≡ true → g.clone ≡ next
fit_next l next g h =
    same_number g.clone next
    (first_of (nat_eq g.clone next) (nat_lt g.callee next) (nat_lt next max_pids) (nat_lt (length l.core.pools) max_routines) (is_some (kept_at l g.callee))
    (not (is_some (kept_at l next))) h)

fixed_same : (fs : List Fixed) → fixed_of (pairs_of fs) ≡ fs
fixed_same [] = refl
fixed_same (f ∷ fs) = ap (λ (xs : List Fixed). f ∷ xs) (fixed_same fs)

new_by : (b : Bool) (n : ℕ) (o : Option ℕ) → (if b then None else Some n) ≡ o → is_some o ≡ false → b ≡ true
new_by true n o e h = refl
new_by false n o e h = let q : true ≡ false = ap is_some e ∙ h in sym q

old_by : (b : Bool) (n : ℕ) (o : Option ℕ) → (if b then None else Some n) ≡ o → is_some o ≡ true → b ≡ false
old_by true n o e h = let q : false ≡ true = ap is_some e ∙ h in absurd cc
old_by false n o e h = refl

-- a group that has no old clone is new, and one that has isn't
pub new_is : (t : Taken) (g : Group) → accepted t ≡ g → is_some g.old ≡ false → t.is_new ≡ true
new_is t g same fresh = new_by t.is_new t.clone g.old (ap (λ (z : Group). z.old) same) fresh

pub old_is : (t : Taken) (g : Group) → accepted t ≡ g → is_some g.old ≡ true → t.is_new ≡ false
old_is t g same old = old_by t.is_new t.clone g.old (ap (λ (z : Group). z.old) same) old

trusts : {B D : Type 0} (reach : D → ℕ) (honest : D → Bool) (faults : D → ℕ) (a b : Paged RoutineBody B D) → Stays faults a b
    → IsTrusted reach honest a → IsTrusted reach honest b
trusts reach honest faults a b s g = subst (λ n. IsGood reach honest n b.first) (sym s.limit) (subst (IsGood reach honest a.core.limit) (sym s.first) g)

-- a valid program with a clone more has the same main
copy_main : (p : IlProgram) (c : NewClone) (o : Option RoutineParts) → IsProgram p → IsProgram (with_copy p c o)
    → main_pid (with_copy p c o).shapes ≡ main_pid p.shapes
copy_main p c None valid then_valid = refl
copy_main p c (Some r) valid then_valid =
    let m = valid.main in
    let q = with_copy p c (Some r) in
    main_of_row q then_valid m.0 (Contains-append_left p.shapes _ m.0 m.1) m.2 ∙ sym (main_of_row p valid m.0 m.1 m.2)

-- the clone that the code wants is the plan's
pub clone_is : (names : List ShapeRow) (c : Clones) (st : State) (t : Taken) (g : Group) (w : NewClone) → accepted t ≡ g → st.made ≡ c.made
    → w ≡ wanted_of names c g → w ≡ new_clone names st.made t
clone_is names c st t g w same made_is is =
    is ∙ ap (wanted_of names c) (sym same)
    ∙ ap (λ (fs : List Fixed). record { callee = t.group.callee; fixed = fs; pid = t.clone; name = clone_name names c.made (root_of c.made t.group.callee) })
    (fixed_same t.group.fixed)
    ∙ ap (λ (ms : List Made). new_clone names ms t) (sym made_is)

module _ {D : Type 0} (reach : D → ℕ) (honest : D → Bool) (faults : D → ℕ) (old new : Paged RoutineBody (Unit {0}) D) (x y : Progress) (w : CodeClone) where
  pub ready_more : (callee : ℕ) → IsReady old x → w.pid ≡ x.next → y.made ≡ with_made callee x.made → Adds reach honest faults (clone_of w) old new
      → AddsRow w.pid w.name x.shapes y.shapes → HavePools new y.shapes → y.next ≡ x.next + 1 → IsReady new y
  ready_more callee ready pid these adds row pools next = record {
    rests = adds.rests;
    pools = pools;
    above = subst (AllByRecursion (λ z. z.pid < y.next)) (sym row.is)
        (all_push (λ z. z.pid < y.next) x.shapes _
        (all_to (λ z. z.pid < x.next) (λ z. z.pid < y.next) x.shapes (λ z less. omega (arith, less, next)) ready.above) (omega (arith, pid, next)));
    next = let e = ready.next in ap next_pid these ∙ omega (arith, e, next);
  }

  module _ (main : ℕ) (names : List ShapeRow) (st : State) (t : Taken) (g : Group) (same : accepted t ≡ g) where
    rows_are : st.table ≡ x.table → y.table ≡ record { callee = g.callee; fixed = fixed_of g.fixed; clone = g.clone } ∷ x.table
        → record { callee = t.group.callee; fixed = t.group.fixed; clone = t.clone } ∷ st.table ≡ y.table
    rows_are table_is is =
        ap (λ (rows : List Row). record { callee = t.group.callee; fixed = t.group.fixed; clone = t.clone } ∷ rows) table_is
        ∙ ap (λ (fs : List Fixed). record { callee = t.group.callee; fixed = fs; clone = t.clone } ∷ x.table) (sym (fixed_same t.group.fixed))
        ∙ ap (λ (z : Group). record { callee = z.callee; fixed = fixed_of z.fixed; clone = z.clone } ∷ x.table) same ∙ sym is

    made_are : st.made ≡ x.made.made → t.clone ≡ next_pid x.made → y.made ≡ with_made g.callee x.made
        → record { clone = t.clone; root = root_of st.made t.group.callee } ∷ st.made ≡ y.made.made
    made_are made_is clone is =
        ap (λ (ms : List Made). record { clone = t.clone; root = root_of ms t.group.callee } ∷ ms) made_is
        ∙ ap (λ (n : ℕ). record { clone = n; root = root_of x.made.made t.group.callee } ∷ x.made.made) clone
        ∙ ap (λ (z : Group). (with_made z.callee x.made).made) same ∙ sym (ap (λ (z : Clones). z.made) is)

    pub state_more : is_some g.old ≡ false → g.clone ≡ x.next → next_pid x.made ≡ x.next → clone_of w ≡ wanted_of names x.made g
        → y.made ≡ with_made g.callee x.made → y.table ≡ record { callee = g.callee; fixed = fixed_of g.fixed; clone = g.clone } ∷ x.table
        → CanAddIf t.is_new names t st → HoldsState reach honest faults main old x st → Adds reach honest faults (clone_of w) old new → y.next ≡ x.next + 1
        → ((p : IlProgram) → IsTrusted reach honest old → p.shapes ≡ x.shapes → IsContents old p → HasClone p (clone_of w) new y.shapes)
        → HoldsState reach honest faults main new y (with_taken names t st)
    state_more fresh pid follows is these rows can h adds next program =
        subst (λ b. HoldsState reach honest faults main new y (if b then add_clone names t st else st)) (sym is_new) (record {
          holds = record {
            trusted = trusts reach honest faults old new adds.stays h.holds.trusted;
            valid = able.valid_then;
            shapes = sym has.shapes;
            main_is =
                copy_main st.program (new_clone names st.made t) (routine_at st.program.routines t.group.callee) able.valid able.valid_then
                ∙ h.holds.main_is;
            contents = has.contents;
          };
          next = omega (arith, at, pid, next);
          made = made_are h.made (at ∙ pid ∙ sym follows) these;
          table_is = rows_are h.table_is rows;
        })
      where
        is_new : t.is_new ≡ true
        is_new = new_is t g same fresh

        able : CanAdd names t st
        able = subst (λ b. CanAddIf b names t st) is_new can

        at : t.clone ≡ g.clone
        at = ap (λ (z : Group). z.clone) same

        has : HasClone st.program (new_clone names st.made t) new y.shapes
        has = subst (λ z. HasClone st.program z new y.shapes) (clone_is names x.made st t g (clone_of w) same h.made is)
            (program st.program h.holds.trusted h.holds.shapes h.holds.contents)
