-- Once the clones of the accepted groups are added, the table has for each group's key the clone of that group, or none.
use Rattle.std.proofs.Common.{◌≡◌, ℕ, List, [], ◌∷◌, ◌++◌, Bool, true, false, refl, ap, subst, sym, ◌∙◌}
use Rattle.std.specs.Prelude.{if◌then◌else◌, Option, Some, None}
use Rattle.std.specs.List.{AllByRecursion}
use Rattle.il_core.specs.declared.shape.ShapeRow.{ShapeRow}
use Rattle.il_laws.specs.Clone.{Fixed}
use Rattle.il_laws.specs.Table.{Row}
use Rattle.il_laws.proofs.SpliceBlocks.{all_append}
use Rattle.plan_laws.specs.Summary.{Summary, summary_at}
use Rattle.plan_laws.specs.Groups.{Group, has_key, clone_in, Taken, Spent, clone_fits, clone_numbers, with_new, refused, decided, taken}
use Rattle.plan_laws.specs.Plan.{State, add_clone, add_clones, at_first}
use Rattle.plan_laws.proofs.Keys.{key_itself, key_turned, NoneHas, Differ}

-- the clone of the first accepted group with a key
abbrev pub clone_key : List Taken → ℕ → List Fixed → Option ℕ
clone_key [] c f = None
clone_key (t ∷ ts) c f = if has_key c f t.group then Some t.clone else clone_key ts c f

-- what became of a group, by the table that the groups were decided by
record Outcome (names : List ShapeRow) (table : List Row) (g : Group) (st : State) (front : List Taken) : Type 0 where
  next : State
  state : (rest : List Taken) → add_clones names (front ++ rest) st ≡ add_clones names rest next
  other : (c : ℕ) (f : List Fixed) → has_key c f g ≡ false → clone_in next.table c f ≡ clone_in st.table c f
  other_key : (c : ℕ) (f : List Fixed) → has_key c f g ≡ false → (rest : List Taken) → clone_key (front ++ rest) c f ≡ clone_key rest c f
  own : clone_in st.table g.callee g.fixed ≡ clone_in table g.callee g.fixed → (rest : List Taken) → clone_key rest g.callee g.fixed ≡ None
      → clone_in next.table g.callee g.fixed ≡ clone_key (front ++ rest) g.callee g.fixed
  groups : AllByRecursion (λ t. t.group ≡ g) front

-- a state, where none matters
at_none : List ShapeRow → State
at_none names = at_first (record { shapes = names; objects = []; routines = [] })

module _ (names : List ShapeRow) (ss : List Summary) (table : List Row) (limit : ℕ) where
  no_clone : (g : Group) (st : State) → clone_in table g.callee g.fixed ≡ None → Outcome names table g st []
  no_clone g st e =
      record {
        next = st;
        state = λ rest. refl;
        other = λ c f n. refl;
        other_key = λ c f n rest. refl;
        own = λ same rest none. same ∙ e ∙ sym none;
        groups = tt;
      }

  old_clone : (g : Group) (clone : ℕ) (st : State) → clone_in table g.callee g.fixed ≡ Some clone
      → Outcome names table g st (record { group = g; clone = clone; is_new = false } ∷ [])
  old_clone g clone st e =
      record {
        next = st;
        state = λ rest. refl;
        other = λ c f n. refl;
        other_key = λ c f n rest. ap (λ (b : Bool). if b then Some clone else clone_key rest c f) n;
        own = λ same rest none. same ∙ e
            ∙ sym (ap (λ (b : Bool). if b then Some clone else clone_key rest g.callee g.fixed) (key_itself g.callee g.fixed));
        groups = (refl, tt);
      }

  new_clone_of : (g : Group) (clone : ℕ) (st : State) → Outcome names table g st (record { group = g; clone = clone; is_new = true } ∷ [])
  new_clone_of g clone st =
      record {
        next = add_clone names (record { group = g; clone = clone; is_new = true }) st;
        state = λ rest. refl;
        other = λ c f n. ap (λ (b : Bool). if b then Some clone else clone_in st.table c f) n;
        other_key = λ c f n rest. ap (λ (b : Bool). if b then Some clone else clone_key rest c f) n;
        own = λ same rest none. ap (λ (b : Bool). if b then Some clone else clone_in st.table g.callee g.fixed) (key_itself g.callee g.fixed)
            ∙ sym (ap (λ (b : Bool). if b then Some clone else clone_key rest g.callee g.fixed) (key_itself g.callee g.fixed));
        groups = (refl, tt);
      }

  fit_outcome : (g : Group) (b : Spent) (s : Summary) (st : State) (k : Bool) → clone_in table g.callee g.fixed ≡ None
      → Outcome names table g st (if k then with_new g b (clone_numbers s g.fixed) else refused b).taken
  fit_outcome g b s st true e = new_clone_of g b.next st
  fit_outcome g b s st false e = no_clone g st e

  outcome_at : (g : Group) (b : Spent) (st : State) (o : Option ℕ) (m : Option Summary) → clone_in table g.callee g.fixed ≡ o
      → Outcome names table g st (decided limit g b o m).taken
  outcome_at g b st (Some clone) m e = old_clone g clone st e
  outcome_at g b st None None e = no_clone g st e
  outcome_at g b st None (Some s) e = fit_outcome g b s st (clone_fits b limit (clone_numbers s g.fixed)) e

  abbrev after : Spent → Group → Spent
  after b g = (decided limit g b (clone_in table g.callee g.fixed) (summary_at ss g.callee)).spent

  outcome : (g : Group) (b : Spent) (st : State)
      → Outcome names table g st (decided limit g b (clone_in table g.callee g.fixed) (summary_at ss g.callee)).taken
  outcome g b st = outcome_at g b st (clone_in table g.callee g.fixed) (summary_at ss g.callee) refl

  abbrev with_all : List Group → Spent → State → State
  with_all gs b st = add_clones names (taken ss table limit b gs) st

  table_same : (gs : List Group) (c : ℕ) (f : List Fixed) → NoneHas c f gs → (b : Spent) (st : State)
      → clone_in (with_all gs b st).table c f ≡ clone_in st.table c f
  table_same [] c f n b st = refl
  table_same (g ∷ gs) c f n b st =
      let o = outcome g b st in
      ap (λ (s : State). clone_in s.table c f) (o.state (taken ss table limit (after b g) gs))
      ∙ table_same gs c f n.1 (after b g) o.next ∙ o.other c f n.0

  none_taken : (gs : List Group) (c : ℕ) (f : List Fixed) → NoneHas c f gs → (b : Spent) → clone_key (taken ss table limit b gs) c f ≡ None
  none_taken [] c f n b = refl
  none_taken (g ∷ gs) c f n b =
      let o = outcome g b (at_none names) in
      o.other_key c f n.0 (taken ss table limit (after b g) gs) ∙ none_taken gs c f n.1 (after b g)

  abbrev pub SameTable : State → Group → Type 0
  SameTable st g = clone_in st.table g.callee g.fixed ≡ clone_in table g.callee g.fixed

  abbrev pub IsClone : State → List Taken → Group → Type 0
  IsClone st ts g = clone_in st.table g.callee g.fixed ≡ clone_key ts g.callee g.fixed

  all_here : (gs hs : List Group) (g : Group) → Differ (g ∷ gs) → (b : Spent) (st : State) → NoneHas g.callee g.fixed hs
      → AllByRecursion (IsClone (with_all gs (after b g) (outcome g b st).next) (taken ss table limit (after b g) gs)) hs
      → AllByRecursion (IsClone (with_all (g ∷ gs) b st) (taken ss table limit b (g ∷ gs))) hs
  all_here gs [] g d b st n h = tt
  all_here gs (x ∷ hs) g d b st n h =
      let o = outcome g b st in
      let rest = taken ss table limit (after b g) gs in (
        ap (λ (s : State). clone_in s.table x.callee x.fixed) (o.state rest) ∙ h.0
            ∙ sym (o.other_key x.callee x.fixed (key_turned x.callee x.fixed g.callee g.fixed n.0) rest),
        all_here gs hs g d b st n.1 h.1,
      )

  same_later : (hs : List Group) (g : Group) (b : Spent) (st : State) → NoneHas g.callee g.fixed hs → AllByRecursion (SameTable st) hs
      → AllByRecursion (SameTable (outcome g b st).next) hs
  same_later [] g b st n h = tt
  same_later (x ∷ hs) g b st n h =
      ((outcome g b st).other x.callee x.fixed (key_turned x.callee x.fixed g.callee g.fixed n.0) ∙ h.0, same_later hs g b st n.1 h.1)

  -- the table has each group's clone
  pub clones_are : (gs : List Group) → Differ gs → (b : Spent) (st : State) → AllByRecursion (SameTable st) gs
      → AllByRecursion (IsClone (with_all gs b st) (taken ss table limit b gs)) gs
  clones_are [] d b st h = tt
  clones_are (g ∷ gs) d b st h =
      let o = outcome g b st in
      let rest = taken ss table limit (after b g) gs in (
        ap (λ (s : State). clone_in s.table g.callee g.fixed) (o.state rest) ∙ table_same gs g.callee g.fixed d.0 (after b g) o.next
            ∙ o.own h.0 rest (none_taken gs g.callee g.fixed d.0 (after b g)),
        all_here gs gs g d b st d.0 (clones_are gs d.1 (after b g) o.next (same_later gs g b st d.0 h.1)),
      )

  -- what holds of all groups holds of the accepted ones
  groups_of : (P : Group → Type 0) (g : Group) → P g → (ts : List Taken) → AllByRecursion (λ t. t.group ≡ g) ts → AllByRecursion (λ t. P t.group) ts
  groups_of P g h [] e = tt
  groups_of P g h (t ∷ ts) e = (subst P (sym e.0) h, groups_of P g h ts e.1)

  pub taken_all : (P : Group → Type 0) (gs : List Group) (b : Spent) → AllByRecursion P gs → AllByRecursion (λ t. P t.group) (taken ss table limit b gs)
  taken_all P [] b h = tt
  taken_all P (g ∷ gs) b h =
      let front = (decided limit g b (clone_in table g.callee g.fixed) (summary_at ss g.callee)).taken in
      all_append (λ t. P t.group) front (taken ss table limit (after b g) gs) (groups_of P g h.0 front (outcome g b (at_none names)).groups)
      (taken_all P gs (after b g) h.1)
