-- The members of the accepted groups are exactly the sites that move, each to its group's clone.
use Rattle.std.proofs.Common.{◌≡◌, ℕ, zero, suc, ◌⊎◌, inl, inr, List, [], ◌∷◌, map, option_map, Bool, true, false, refl, ap, ap₂, subst, sym, ◌∙◌}
use Rattle.std.proofs.Common.{eqb-true, eq-eqb, slice_get}
use Rattle.std.specs.Prelude.{◌&&◌, ◌||◌, not, nat_eq, if◌then◌else◌, filter, Option, Some, None, ⊤}
use Rattle.std.specs.List.{AllByRecursion}
use Rattle.std.proofs.lemmas.Option.{none-some, same_Some}
use Rattle.il_core.specs.declared.program.IlProgram.{IlProgram}
use Rattle.il_core.specs.declared.shape.ShapeRow.{ShapeRow}
use Rattle.il_core.specs.Program.{main_pid}
use Rattle.il_core.specs.Routine.{RoutineParts}
use Rattle.il_core.specs.Size.{cost}
use Rattle.il_core.specs.Valid.{IsProgram, HasEachNameOnce}
use Rattle.il_laws.specs.Clone.{Fixed}
use Rattle.il_laws.specs.Keeping.{Stands}
use Rattle.il_laws.specs.Reach.{is_live}
use Rattle.il_laws.specs.Table.{Row}
use Rattle.il_laws.proofs.Grown.{all_to}
use Rattle.list_laws.proofs.Tests.{and_first, and_second}
use Rattle.plan_laws.specs.Summary.{Summary, summary, summaries, summary_at, CallSite, call_sites}
use Rattle.plan_laws.specs.Choosing.{is_candidate}
use Rattle.plan_laws.specs.Groups.{fixed_from, reads_of, fixed_of, is_empty, Group, Member, has_key, member_of, may_move, grouped, group_before}
use Rattle.plan_laws.specs.Groups.{ranked_groups, clone_in, Taken, at_start, clone_of_site}
use Rattle.plan_laws.specs.GroupLaws.{has_member, clone_of_member, MembersMove, EachPass}
use Rattle.plan_laws.specs.Plan.{State, add_clones, Pass, pass_groups, one_pass, limit_of, passes_from, at_first, passes as plan_of}
use Rattle.plan_laws.specs.PlanLaws.{IsFirst}
use Rattle.plan_laws.proofs.Accepted.{clone_key, SameTable, IsClone, clones_are, taken_all}
use Rattle.plan_laws.proofs.Adding.{IsSound, Grows}
use Rattle.plan_laws.proofs.Chosen.{IsOf, sites_of_callers}
use Rattle.plan_laws.proofs.GroupsFit.{sorted_all, summary_found, sites_stand}
use Rattle.plan_laws.proofs.Keys.{true_false, is_key, key_is, key_made, key_turned, NoneHas, differ_sorted, sorted_back, members_at, members_first}
use Rattle.plan_laws.proofs.Keys.{with_key, differ_grouped, members_are}
use Rattle.plan_laws.proofs.Passing.{added, pass_succeeds, first_sound}
use Rattle.plan_laws.proofs.Ranking.{same_site}

-- by position
all_at : {X : Type 0} (P : X → Type 0) (xs : List X) → ((i : ℕ) (x : X) → slice_get xs i ≡ Some x → P x) → AllByRecursion P xs
all_at P [] h = tt
all_at P (x ∷ xs) h = (h 0 x refl, all_at P xs (λ i y e. h (suc i) y e))

one_at : {X : Type 0} (P : X → Type 0) (xs : List X) (i : ℕ) (x : X) → slice_get xs i ≡ Some x → AllByRecursion P xs → P x
one_at P [] i x e h = absurd (none-some x e)
one_at P (y ∷ ys) zero x e h = subst P (same_Some y x e) h.0
one_at P (y ∷ ys) (suc i) x e h = one_at P ys i x e h.1

-- a site among those that a test picks
module _ (t : CallSite → Bool) where
  abbrev picked : List CallSite → List Member
  picked xs = map member_of (filter t xs)

  abbrev same_place : CallSite → CallSite → Bool
  same_place y x = nat_eq y.caller x.caller && nat_eq y.number x.number

  place_itself : (x : CallSite) → same_place x x ≡ true
  place_itself x = ap (λ (b : Bool). b && nat_eq x.number x.number) (eq-eqb x.caller x.caller refl) ∙ eq-eqb x.number x.number refl

  or_right : (a b : Bool) → b ≡ true → (a || b) ≡ true
  or_right true b e = refl
  or_right false b e = e

  picked_if : (x y : CallSite) (b : Bool) (ys : List CallSite) → has_member (map member_of ys) (member_of x) ≡ true
      → has_member (map member_of (if b then y ∷ ys else ys)) (member_of x) ≡ true
  picked_if x y true ys e = or_right (same_place y x) (has_member (map member_of ys) (member_of x)) e
  picked_if x y false ys e = e

  is_picked : (xs : List CallSite) (i : ℕ) (x : CallSite) → slice_get xs i ≡ Some x → t x ≡ true → has_member (picked xs) (member_of x) ≡ true
  is_picked [] i x e h = absurd (none-some x e)
  is_picked (y ∷ ys) zero x e h =
      let same = same_Some y x e in
      let here = ap t same ∙ h in
      ap (λ (b : Bool). has_member (map member_of (if b then y ∷ filter t ys else filter t ys)) (member_of x)) here
      ∙ ap (λ (b : Bool). b || has_member (picked ys) (member_of x)) (ap (λ (z : CallSite). same_place z x) same ∙ place_itself x)
  is_picked (y ∷ ys) (suc i) x e h = picked_if x y (t y) (filter t ys) (is_picked ys i x e h)

  only_if : (x y : CallSite) (b : Bool) (ys : List CallSite) → t y ≡ b → (same_place y x ≡ true → t y ≡ t x)
      → (has_member (map member_of ys) (member_of x) ≡ true → t x ≡ true)
      → has_member (map member_of (if b then y ∷ ys else ys)) (member_of x) ≡ true → t x ≡ true
  only_if x y false ys e same rest h = rest h
  only_if x y true ys e same rest h = by_test (same_place y x) refl h
    where
      by_test : (k : Bool) → same_place y x ≡ k → (k || has_member (map member_of ys) (member_of x)) ≡ true → t x ≡ true
      by_test true g m = sym (same g) ∙ e
      by_test false g m = rest m

  only_picked : (x : CallSite) (xs : List CallSite) → AllByRecursion (λ y. same_place y x ≡ true → t y ≡ t x) xs
      → has_member (picked xs) (member_of x) ≡ true → t x ≡ true
  only_picked x [] all h = absurd cc
  only_picked x (y ∷ ys) all h = only_if x y (t y) (filter t ys) refl all.0 (λ m. only_picked x ys all.1 m) h

  pub picked_is : (xs : List CallSite) (i : ℕ) (x : CallSite) → slice_get xs i ≡ Some x → AllByRecursion (λ y. same_place y x ≡ true → t y ≡ t x) xs
      → has_member (picked xs) (member_of x) ≡ t x
  picked_is xs i x e all = by_test (has_member (picked xs) (member_of x)) (t x) refl refl
    where
      by_test : (a b : Bool) → has_member (picked xs) (member_of x) ≡ a → t x ≡ b → a ≡ b
      by_test true true g h = refl
      by_test true false g h = absurd (true_false (t x) (only_picked x xs all g) h)
      by_test false true g h = absurd (true_false (has_member (picked xs) (member_of x)) (is_picked xs i x e h) g)
      by_test false false g h = refl

key_sym : (a : ℕ) (f : List Fixed) (b : ℕ) (g : List Fixed) → is_key a f b g ≡ is_key b g a f
key_sym a f b g = by_test (is_key a f b g) refl
  where
    by_test : (k : Bool) → is_key a f b g ≡ k → k ≡ is_key b g a f
    by_test true e = let s = key_is a f b g e in sym (key_made b g a f (record { callee = sym s.callee; fixed = sym s.fixed }))
    by_test false e = sym (key_turned a f b g e)

none_at : (c : ℕ) (f : List Fixed) (gs : List Group) → NoneHas c f gs → members_at c f gs ≡ []
none_at c f [] h = refl
none_at c f (g ∷ gs) h = ap (λ (b : Bool). if b then g.members else members_at c f gs) h.0 ∙ none_at c f gs h.1

-- a group with a key, or none
record HasGroup (Q : Group → Type 0) (c : ℕ) (f : List Fixed) : Type 0 where
  group : Group
  key : has_key c f group ≡ true
  holds : Q group

search : (Q : Group → Type 0) (c : ℕ) (f : List Fixed) (gs : List Group) → AllByRecursion Q gs → HasGroup Q c f ⊎ NoneHas c f gs
search Q c f [] h = inr tt
search Q c f (g ∷ gs) h = by_test (has_key c f g) refl (search Q c f gs h.1)
  where
    by_test : (b : Bool) → has_key c f g ≡ b → HasGroup Q c f ⊎ NoneHas c f gs → HasGroup Q c f ⊎ NoneHas c f (g ∷ gs)
    by_test true e rest = inl (record { group = g; key = e; holds = h.0 })
    by_test false e rest = elim rest [
      | inl there ↦ inl there
      | inr none ↦ inr (e, none)
    ]

-- one pass with a budget
module _ (names : List ShapeRow) (limit : ℕ) (st : State) (valid : IsProgram st.program) where
  abbrev p : IlProgram
  p = st.program

  abbrev ss : List Summary
  ss = summaries p

  abbrev main : ℕ
  main = main_pid p.shapes

  abbrev zs : List CallSite
  zs = call_sites ss

  abbrev gs : List Group
  gs = ranked_groups ss main

  abbrev ts : List Taken
  ts = pass_groups 1 limit st

  abbrev a : State
  a = add_clones names ts st

  sites : AllByRecursion (IsOf p.routines) zs
  sites = sites_of_callers p valid

  -- each group's members are the sites with its key
  abbrev HasAll : Group → Type 0
  HasAll g = g.members ≡ map member_of (filter (with_key ss main g.callee g.fixed) zs)

  all_members : AllByRecursion HasAll gs
  all_members =
      sorted_all HasAll group_before (grouped ss main zs)
      (all_to (λ (g : Group). members_at g.callee g.fixed (grouped ss main zs) ≡ g.members) HasAll (grouped ss main zs)
      (λ g e. sym e ∙ members_are ss main g.callee g.fixed zs) (members_first (grouped ss main zs) (differ_grouped ss main zs)))

  module _ (i : ℕ) (x : CallSite) (at : slice_get zs i ≡ Some x) where
    abbrev callee : ℕ
    callee = x.site.callee

    abbrev fixed : List Fixed
    fixed = fixed_of ss x

    same_tests : (t : CallSite → Bool) → AllByRecursion (λ y. (nat_eq y.caller x.caller && nat_eq y.number x.number) ≡ true → t y ≡ t x) zs
    same_tests t =
        all_to (IsOf p.routines) (λ y. (nat_eq y.caller x.caller && nat_eq y.number x.number) ≡ true → t y ≡ t x) zs
        (λ y h e. ap t (same_site p.routines y x h (one_at (IsOf p.routines) zs i x at sites)
        (eqb-true y.caller x.caller (and_first (nat_eq y.caller x.caller) (nat_eq y.number x.number) e))
        (eqb-true y.number x.number (and_second (nat_eq y.caller x.caller) (nat_eq y.number x.number) e)))) sites

    -- the site is a member where it has the key
    member_is : (g : Group) → HasAll g → has_member g.members (member_of x) ≡ with_key ss main g.callee g.fixed x
    member_is g h =
        let t = with_key ss main g.callee g.fixed in
        ap (λ (ms : List Member). has_member ms (member_of x)) h ∙ picked_is t zs i x at (same_tests t)

    abbrev HasIt : Taken → Type 0
    HasIt t = has_member t.group.members (member_of x) ≡ with_key ss main t.group.callee t.group.fixed x

    all_have : AllByRecursion HasIt ts
    all_have =
        all_to (λ (t : Taken). HasAll t.group) HasIt ts (λ t h. member_is t.group h)
        (taken_all names ss st.table limit HasAll gs (at_start ss st.next) all_members)

    stays : may_move ss main x ≡ false → (us : List Taken) → AllByRecursion HasIt us → clone_of_member us (member_of x) ≡ None
    stays e [] h = refl
    stays e (t ∷ us) h =
        ap (λ (b : Bool). if b then Some t.clone else clone_of_member us (member_of x))
        (h.0 ∙ ap (λ (b : Bool). b && is_key callee fixed t.group.callee t.group.fixed) e) ∙ stays e us h.1

    goes : may_move ss main x ≡ true → (us : List Taken) → AllByRecursion HasIt us → clone_of_member us (member_of x) ≡ clone_key us callee fixed
    goes e [] h = refl
    goes e (t ∷ us) h =
        let one = h.0 ∙ ap (λ (b : Bool). b && is_key callee fixed t.group.callee t.group.fixed) e
        ∙ key_sym callee fixed t.group.callee t.group.fixed in
        ap₂ {A = Bool} {B = Option ℕ} {C = Option ℕ} (λ b o. if b then Some t.clone else o) one (goes e us h.1)

    -- a site that may move has a group
    not_none : may_move ss main x ≡ true → NoneHas callee fixed gs → ⊥
    not_none e none =
        let back = sorted_back (λ h. has_key callee fixed h ≡ false) (grouped ss main zs) none in
        let empty = none_at callee fixed (grouped ss main zs) back in
        let t = with_key ss main callee fixed in
        let itself = ap (λ (b : Bool). b && is_key callee fixed callee fixed) e
        ∙ key_made callee fixed callee fixed (record { callee = refl; fixed = refl }) in
        let has = ap (λ (ms : List Member). has_member ms (member_of x)) (sym empty ∙ members_are ss main callee fixed zs)
        ∙ picked_is t zs i x at (same_tests t) ∙ itself in
        let bad : false ≡ true = has in absurd cc

    site_clone : may_move ss main x ≡ true → clone_in a.table callee fixed ≡ clone_key ts callee fixed
    site_clone e =
        let same = all_to (λ (g : Group). ⊤) (λ g. SameTable names ss st.table limit st g) gs (λ g h. refl) (any gs) in
        let all = clones_are names ss st.table limit gs (differ_sorted (grouped ss main zs) (differ_grouped ss main zs)) (at_start ss st.next) st same in
        elim (search (IsClone names ss st.table limit a ts) callee fixed gs all) [
          | inl there ↦
              (let s = key_is there.group.callee there.group.fixed callee fixed there.key in
              ap₂ {A = ℕ} {B = List Fixed} {C = Option ℕ} (λ c f. clone_in a.table c f) (sym s.callee) (sym s.fixed) ∙ there.holds
              ∙ ap₂ {A = ℕ} {B = List Fixed} {C = Option ℕ} (λ c f. clone_key ts c f) s.callee s.fixed)
          | inr none ↦ absurd (not_none e none)
        ]
      where
        any : (hs : List Group) → AllByRecursion (λ (g : Group). ⊤) hs
        any [] = tt
        any (h ∷ hs) = (tt, any hs)

    -- the callee's summary is the same once the clones are added
    module _ (grows : Grows p a.program) (stands : Stands p callee) where
      summary_same : summary_at (summaries a.program) callee ≡ summary_at ss callee
      summary_same =
          summary_found a.program.routines callee
          ∙ ap (λ (o : Option RoutineParts). option_map summary o) (grows.stand callee stands.routine stands.is ∙ sym stands.is)
          ∙ sym (summary_found p.routines callee)

      fixed_same : fixed_of (summaries a.program) x ≡ fixed
      fixed_same = ap (λ (o : Option Summary). fixed_from 0 (reads_of o) x.site.known) summary_same

      may_same : may_move (summaries a.program) (main_pid a.program.shapes) x ≡ may_move ss main x
      may_same =
          ap₂ {A = ℕ} {B = List Fixed} {C = Bool} (λ n f. is_candidate n x && not (is_empty f)) grows.main fixed_same

      site_goes : clone_of_site (summaries a.program) a.table (main_pid a.program.shapes) x ≡ clone_of_member ts (member_of x)
      site_goes =
          ap₂ {A = Bool} {B = List Fixed} {C = Option ℕ} (λ b f. if b then clone_in a.table callee f else None) may_same fixed_same
          ∙ by_test (may_move ss main x) refl
        where
          by_test : (b : Bool) → may_move ss main x ≡ b → (if b then clone_in a.table callee fixed else None) ≡ clone_of_member ts (member_of x)
          by_test true e = site_clone e ∙ sym (goes e ts all_have)
          by_test false e = sym (stays e ts all_have)

  members_move : Grows p a.program → MembersMove ts st a
  members_move grows =
      all_at (λ x. clone_of_site (summaries a.program) a.table (main_pid a.program.shapes) x ≡ clone_of_member ts (member_of x)) zs
      (λ i x at. site_goes i x at grows (one_at (λ y. Stands p y.site.callee) zs i x at (sites_stand p valid p.routines valid.each)))

-- without a budget the table is empty
no_clone : (b : Bool) (known : List Summary) (table : List Row) (c : ℕ) (f : List Fixed) → table ≡ [] → (if b then clone_in table c f else None) ≡ None
no_clone true known table c f e = ap (λ (rows : List Row). clone_in rows c f) e
no_clone false known table c f e = refl

all_stay : (known : List Summary) (table : List Row) (top : ℕ) (xs : List CallSite) → table ≡ []
    → AllByRecursion (λ x. clone_of_site known table top x ≡ None) xs
all_stay known table top [] e = tt
all_stay known table top (x ∷ xs) e = (no_clone (may_move known top x) known table x.site.callee (fixed_of known x) e, all_stay known table top xs e)

module _ (names : List ShapeRow) (once : HasEachNameOnce names) where
  abbrev Moves : ℕ → (ℕ → ℕ) → ℕ → State → Pass → Type 0
  Moves budget limit k st x = MembersMove (pass_groups budget (limit k) st) st x.added

  none_move : (limit : ℕ → ℕ) (left k : ℕ) (st : State) → st.table ≡ [] → EachPass (Moves 0 limit) k st (passes_from names 0 limit k left st)
  none_move limit zero k st e = tt
  none_move limit (suc left) k st e =
      let x = one_pass names 0 (limit k) st in
      let none : x.pruned.table ≡ [] = ap (λ (rows : List Row). filter (λ row. is_live x.simplified_again.program row.clone) rows) e in
      (all_stay (summaries st.program) st.table (main_pid st.program.shapes) (call_sites (summaries st.program)) e, none_move limit left (suc k) x.pruned none)

  all_move : (budget : ℕ) (limit : ℕ → ℕ) (left k : ℕ) (st : State) → IsSound names st
      → EachPass (Moves (suc budget) limit) k st (passes_from names (suc budget) limit k left st)
  all_move budget limit zero k st sound = tt
  all_move budget limit (suc left) k st sound =
      let x = one_pass names (suc budget) (limit k) st in (
        members_move names (limit k) st sound.valid (added names once (suc budget) (limit k) st sound).grows,
        all_move budget limit left (suc k) x.pruned (pass_succeeds names once (suc budget) (limit k) st sound).pruned.sound,
      )

pub groups_move : (p : IlProgram) → IsFirst p → (budget n : ℕ)
    → EachPass (λ k st x. MembersMove (pass_groups budget (limit_of (cost p.routines) budget n k) st) st x.added) 1 (at_first p) (plan_of p budget n)
groups_move p first zero n = none_move p.shapes first.valid.names (limit_of (cost p.routines) 0 n) n 1 (at_first p) refl
groups_move p first (suc budget) n =
    all_move p.shapes first.valid.names budget (limit_of (cost p.routines) (suc budget) n) n 1 (at_first p) (first_sound p first)
