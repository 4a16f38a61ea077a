-- A program sorted by what is live: the rows that stay, the routines that go, and what those that stay cost.
use Rattle.std.proofs.Common.{◌≡◌, ℕ, Bool, true, false, not, nat_eq, List, [], ◌∷◌, map, None, IsSome, refl}
use Rattle.std.proofs.Common.{sym, ap, subst, ◌∙◌}
use Rattle.std.specs.Prelude.{filter, ◌&&◌, ◌||◌, if◌then◌else◌}
use Rattle.std.specs.List.{AllByRecursion, IsDistinct}
use Rattle.std.proofs.lemmas.List.{append-nil}
use Rattle.list_laws.proofs.Entries.{number_itself, same_number}
use Rattle.il_core.specs.Program.{main_pid}
use Rattle.il_core.specs.Routine.{RoutineParts}
use Rattle.il_core.specs.Size.{cost}
use Rattle.il_core.specs.declared.program.IlProgram.{IlProgram}
use Rattle.il_core.specs.declared.shape.Shape.{Shape}
use Rattle.il_core.specs.declared.shape.Shape.TheVariants as shape
use Rattle.il_core.specs.declared.shape.ShapeRow.{ShapeRow}
use Rattle.il_laws.specs.Reach.{is_in, is_live, is_object, pruned, stays}
use Rattle.il_laws.proofs.Kept.{filter_all}
use Rattle.il_laws.proofs.KeptPrograms.{pruned_follows}
use Rattle.compact_form.specs.declared.body.RoutineBody.{RoutineBody}
use Rattle.naim_loader.specs.Paged.{Paged, kept_at}
use Rattle.plan_laws.specs.Dead.{dead_routines, reachable}
use Rattle.plan_laws.specs.Summary.{Summary, cost_of, summaries, summary}
use Rattle.plan_laws.proofs.DeadRoutines.{dead_go, reachable_kept}
use Rattle.plan_laws.proofs.Spending.{summaries_cost}
use Rattle.plan_pools.specs.Contents.{HavePools, IsContents, is_routine, routine_pids}
use Rattle.plan_pools.specs.Noting.{GoesOn}
use Rattle.plan_pools.specs.Passes.{Drops}
use Rattle.plan_pools.specs.Planning.{Holds, IsMade}
use Rattle.plan_pools.proofs.Plans.{trusted_still}
use Rattle.plan_pools.proofs.Programs.{program_pids}

-- among numbers that are kept
in_if : (b : Bool) (x q : ℕ) (xs : List ℕ) → is_in (if b then x ∷ xs else xs) q ≡ ((b && nat_eq x q) || is_in xs q)
in_if true x q xs = refl
in_if false x q xs = refl

in_filter : (t : ℕ → Bool) (xs : List ℕ) (q : ℕ) → is_in (filter t xs) q ≡ (t q && is_in xs q)
in_filter t [] q = sym (by (t q))
  where
    by : (b : Bool) → (b && false) ≡ false
    by true = refl
    by false = refl
in_filter t (x ∷ xs) q =
    in_if (t x) x q (filter t xs) ∙ ap (λ b. (t x && nat_eq x q) || b) (in_filter t xs q) ∙ by (nat_eq x q) refl
  where
    by : (b : Bool) → nat_eq x q ≡ b → ((t x && b) || (t q && is_in xs q)) ≡ (t q && (b || is_in xs q))
    by true e = ap (λ v. (v && true) || (t q && is_in xs q)) (ap t (same_number x q e)) ∙ both (t q)
      where
        both : (v : Bool) → ((v && true) || (v && is_in xs q)) ≡ (v && true)
        both true = refl
        both false = refl
    by false e = none (t x)
      where
        none : (v : Bool) → ((v && false) || (t q && is_in xs q)) ≡ (t q && is_in xs q)
        none true = refl
        none false = refl

not_kept : (t : ℕ → Bool) (xs : List ℕ) (q : ℕ) → t q ≡ false → is_in (filter t xs) q ≡ false
not_kept t xs q e = in_filter t xs q ∙ ap (λ b. b && is_in xs q) e

-- tests that agree on each keep the same
filter_same : {X : Type 0} (t u : X → Bool) (xs : List X) → AllByRecursion (λ x. t x ≡ u x) xs → filter t xs ≡ filter u xs
filter_same t u [] h = refl
filter_same t u (x ∷ xs) h = ap (λ b. if b then x ∷ filter t xs else filter t xs) h.0 ∙ ap (λ l. if u x then x ∷ l else l) (filter_same t u xs h.1)

filter_map : {X Y : Type 0} (f : X → Y) (t : Y → Bool) (xs : List X) → filter t (map f xs) ≡ map f (filter (λ x. t (f x)) xs)
filter_map f t [] = refl
filter_map f t (x ∷ xs) = ap (λ l. if t (f x) then f x ∷ l else l) (filter_map f t xs) ∙ by (t (f x))
  where
    by : (b : Bool) → (if b then f x ∷ map f (filter (λ x. t (f x)) xs) else map f (filter (λ x. t (f x)) xs)) ≡
        map f (if b then x ∷ filter (λ x. t (f x)) xs else filter (λ x. t (f x)) xs)
    by true = refl
    by false = refl

pub distinct_filter : (t : ℕ → Bool) (xs : List ℕ) → IsDistinct nat_eq xs → IsDistinct nat_eq (filter t xs)
unfolding IsDistinct
distinct_filter t [] h = tt
distinct_filter t (x ∷ xs) h = by (t x) (filter_all t (λ y. nat_eq x y ≡ false) xs h.0) (distinct_filter t xs h.1)
  where
    by : (b : Bool) → AllByRecursion (λ y. nat_eq x y ≡ false) (filter t xs) → IsDistinct nat_eq (filter t xs)
        → IsDistinct nat_eq (if b then x ∷ filter t xs else filter t xs)
    by true a d = (a, d)
    by false a d = d

-- ---- the routines of the rows that stay

-- a row's routines, in front of others'
of_rows : (row : ShapeRow) (rows : List ShapeRow) (s : Shape) → row.shape ≡ s
    → routine_pids (row ∷ rows) ≡ (if is_routine s then row.pid ∷ routine_pids rows else routine_pids rows)
of_rows row rows s e = ap (λ v. if is_routine v then row.pid ∷ routine_pids rows else routine_pids rows) e

left_rows : (live : ℕ → Bool) (row : ShapeRow) (rows : List ShapeRow) (s : Shape) → row.shape ≡ s
    → filter (stays live) (row ∷ rows) ≡ (if is_object s || live row.pid then row ∷ filter (stays live) rows else filter (stays live) rows)
left_rows live row rows s e = ap (λ v. if is_object v || live row.pid then row ∷ filter (stays live) rows else filter (stays live) rows) e

-- the numbers of which P holds, and that are live
abbrev Live : (ℕ → Type 0) → (ℕ → Bool) → List ℕ → Type 0
Live P live = AllByRecursion (λ q. P q × (live q ≡ true))

pub left_pids : (P : ℕ → Type 0) (live : ℕ → Bool) (rows : List ShapeRow) → AllByRecursion P (routine_pids rows)
    → Live P live (routine_pids (filter (stays live) rows))
left_pids P live [] h = tt
left_pids P live (row ∷ rows) h = by row.shape refl (left_pids P live rows)
  where
    by : (s : Shape) → row.shape ≡ s → (AllByRecursion P (routine_pids rows) → Live P live (routine_pids (filter (stays live) rows)))
        → Live P live (routine_pids (filter (stays live) (row ∷ rows)))
    by (shape.Object words) e more =
        subst (Live P live)
        (sym (ap routine_pids (left_rows live row rows (shape.Object words) e) ∙ of_rows row (filter (stays live) rows) (shape.Object words) e))
        (more (subst (AllByRecursion P) (of_rows row rows (shape.Object words) e) h))
    by (shape.Routine params value) e more =
        subst (Live P live) (sym (ap routine_pids (left_rows live row rows (shape.Routine params value) e)))
        (at (live row.pid) refl (subst (AllByRecursion P) (of_rows row rows (shape.Routine params value) e) h))
      where
        at : (b : Bool) → live row.pid ≡ b → AllByRecursion P (row.pid ∷ routine_pids rows)
            → Live P live (routine_pids (if b then row ∷ filter (stays live) rows else filter (stays live) rows))
        at true k these = subst (Live P live) (sym (of_rows row (filter (stays live) rows) (shape.Routine params value) e)) ((these.0, k), more these.1)
        at false k these = more these.1

-- ---- what the program is sorted by

-- the numbers of the live routines, among all
pub live_in : (p : IlProgram) (q : ℕ) → is_in (map (λ r. r.pid) (pruned p).routines) q ≡ (is_live p q && is_in (map (λ r. r.pid) p.routines) q)
live_in p q = ap (λ l. is_in l q) (sym (filter_map (λ r. r.pid) (is_live p) p.routines)) ∙ in_filter (is_live p) (map (λ r. r.pid) p.routines) q

and_true : (b c : Bool) → c ≡ true → (b && c) ≡ b
and_true true true e = refl
and_true true false e = cc
and_true false c e = refl

each_in : (xs ys : List ℕ) → ((q : ℕ) → is_in xs q ≡ true → is_in ys q ≡ true) → AllByRecursion (λ q. is_in ys q ≡ true) xs
each_in [] ys h = tt
each_in (x ∷ xs) ys h = (h x (ap (λ b. b || is_in xs x) (number_itself x)), each_in xs ys (λ q e. h q (or_true (nat_eq x q) (is_in xs q) e)))
  where
    or_true : (b c : Bool) → c ≡ true → (b || c) ≡ true
    or_true true c e = refl
    or_true false c e = e

-- a test of numbers that each of these passes
pids_pass : {X : Type 0} (number : X → ℕ) (P : ℕ → Type 0) (xs : List X) → AllByRecursion P (map number xs) → AllByRecursion (λ x. P (number x)) xs
pids_pass number P [] h = tt
pids_pass number P (x ∷ xs) h = (h.0, pids_pass number P xs h.1)

rows_pass : (live keep : ℕ → Bool) (rows : List ShapeRow) → AllByRecursion (λ q. live q ≡ keep q) (routine_pids rows)
    → AllByRecursion (λ row. stays live row ≡ stays keep row) rows
rows_pass live keep [] h = tt
rows_pass live keep (row ∷ rows) h = by row.shape refl (rows_pass live keep rows)
  where
    by : (s : Shape) → row.shape ≡ s
        → (AllByRecursion (λ q. live q ≡ keep q) (routine_pids rows) → AllByRecursion (λ row. stays live row ≡ stays keep row) rows)
        → (stays live row ≡ stays keep row) × AllByRecursion (λ row. stays live row ≡ stays keep row) rows
    by (shape.Object words) e more = (
      ap (λ v. is_object v || live row.pid) e ∙ sym (ap (λ v. is_object v || keep row.pid) e),
      more (subst (AllByRecursion (λ q. live q ≡ keep q)) (of_rows row rows (shape.Object words) e) h),
    )
    by (shape.Routine params value) e more =
        let these = subst (AllByRecursion (λ q. live q ≡ keep q)) (of_rows row rows (shape.Routine params value) e) h in (
          ap (λ v. is_object v || live row.pid) e ∙ these.0 ∙ sym (ap (λ v. is_object v || keep row.pid) e),
          more these.1,
        )

module _ (p : IlProgram) where
  reached_pids : List ℕ
  reached_pids = reachable (summaries p) (main_pid p.shapes)

  -- a routine is among those that are reached exactly where it is live
  agree : AllByRecursion (λ q. is_in reached_pids q ≡ is_live p q) (map (λ r. r.pid) p.routines)
  unfolding reached_pids
  agree = each (map (λ r. r.pid) p.routines) (each_in (map (λ r. r.pid) p.routines) (map (λ r. r.pid) p.routines) (λ q e. e))
    where
      each : (xs : List ℕ) → AllByRecursion (λ q. is_in (map (λ r. r.pid) p.routines) q ≡ true) xs
          → AllByRecursion (λ q. is_in (reachable (summaries p) (main_pid p.shapes)) q ≡ is_live p q) xs
      each [] h = tt
      each (x ∷ xs) h = (
        ap (λ l. is_in l x) (reachable_kept p) ∙ live_in p x ∙ and_true (is_live p x) (is_in (map (λ r. r.pid) p.routines) x) h.0,
        each xs h.1,
      )

  pub rows_are : map (λ r. r.pid) p.routines ≡ routine_pids p.shapes
      → filter (stays (is_in (reachable (summaries p) (main_pid p.shapes)))) p.shapes ≡ (pruned p).shapes
  unfolding reached_pids
  rows_are pids =
      filter_same (stays (is_in reached_pids)) (stays (is_live p)) p.shapes
      (rows_pass (is_in reached_pids) (is_live p) p.shapes (subst (AllByRecursion (λ q. is_in reached_pids q ≡ is_live p q)) pids agree))

  pub dead_are : map (λ r. r.pid) p.routines ≡ routine_pids p.shapes
      → filter (λ q. not (is_in (reachable (summaries p) (main_pid p.shapes)) q)) (routine_pids p.shapes) ≡ dead_routines (summaries p) (main_pid p.shapes)
  unfolding reached_pids
  dead_are pids =
      ap (filter (λ q. not (is_in reached_pids q))) (sym pids)
      ∙ filter_map (λ r. r.pid) (λ q. not (is_in reached_pids q)) p.routines
      ∙ ap (map (λ r. r.pid)) (filter_same (λ r. not (is_in reached_pids r.pid)) (λ r. not (is_live p r.pid)) p.routines
      (turned p.routines (pids_pass (λ r. r.pid) (λ q. is_in reached_pids q ≡ is_live p q) p.routines agree)))
      ∙ sym (dead_go p)
    where
      turned : (rs : List RoutineParts) → AllByRecursion (λ r. is_in reached_pids r.pid ≡ is_live p r.pid) rs
          → AllByRecursion (λ r. not (is_in reached_pids r.pid) ≡ not (is_live p r.pid)) rs
      turned [] h = tt
      turned (r ∷ rs) h = (ap not h.0, turned rs h.1)

  pub left_cost : cost_of (filter (λ s. is_in (reachable (summaries p) (main_pid p.shapes)) s.pid) (summaries p)) ≡ cost (pruned p).routines
  unfolding reached_pids
  left_cost =
      ap cost_of (filter_map summary (λ s. is_in reached_pids s.pid) p.routines
      ∙ ap (map summary) (filter_same (λ r. is_in reached_pids r.pid) (λ r. is_live p r.pid) p.routines
      (pids_pass (λ r. r.pid) (λ q. is_in reached_pids q ≡ is_live p q) p.routines agree)))
      ∙ summaries_cost (pruned p).routines

abbrev Pools : Type 0 → Type 0
Pools D = Paged RoutineBody (Unit {0}) D

-- what stays has its pool
left_have : {T B D : Type 0} (faults : D → ℕ) (keep : ℕ → Bool) (old new : Paged T B D) (dead xs : List ℕ) → Drops faults dead old new
    → ((q : ℕ) → keep q ≡ true → is_in dead q ≡ false) → AllByRecursion (λ q. IsSome (kept_at old q) × (keep q ≡ true)) xs
    → AllByRecursion (λ q. IsSome (kept_at new q)) xs
left_have faults keep old new dead [] d other h = tt
left_have faults keep old new dead (x ∷ xs) d other h = (
  subst IsSome (sym (d.kept x ∙ ap (λ b. if b then None else kept_at old x) (other x h.0.1))) h.0.0,
  left_have faults keep old new dead xs d other h.1,
)

module _ {D : Type 0} (reach : D → ℕ) (honest : D → Bool) (faults : D → ℕ) (rows : List ShapeRow) (main : ℕ) (graph : List Summary) where
  -- the live ones, by a program's summaries
  same_live : (p : IlProgram) → main_pid p.shapes ≡ main → graph ≡ summaries p → reachable graph main ≡ reachable (summaries p) (main_pid p.shapes)
  same_live p is known = ap (λ ss. reachable ss main) known ∙ ap (reachable (summaries p)) (sym is)

  pub cost_of_left : (p : IlProgram) → main_pid p.shapes ≡ main → graph ≡ summaries p
      → cost_of (filter (λ s. is_in (reachable graph main) s.pid) graph) ≡ cost (pruned p).routines
  cost_of_left p is known =
      ap (λ l. cost_of (filter (λ s. is_in l s.pid) graph)) (same_live p is known)
      ∙ ap (λ ss. cost_of (filter (λ s. is_in (reachable (summaries p) (main_pid p.shapes)) s.pid) ss)) known ∙ left_cost p

  -- dead routines are gone
  module _ (old new : Pools D) (left : List ShapeRow) (dead : List ℕ)
      (left_is : left ≡ filter (stays (is_in (reachable graph main))) rows)
      (dead_is : dead ≡ filter (λ q. not (is_in (reachable graph main) q)) (routine_pids rows)) where
    stay : (q : ℕ) → is_in (reachable graph main) q ≡ true → is_in dead q ≡ false
    stay q e =
        ap (λ l. is_in l q) dead_is ∙ not_kept (λ q. not (is_in (reachable graph main) q)) (routine_pids rows) q (ap not e)

    pub pruned_made : HavePools old rows → Drops faults dead old new
        → ((p : IlProgram) → IsContents old p → dead ≡ dead_routines (summaries p) (main_pid p.shapes) → IsContents new (pruned p))
        → ((p : IlProgram) → Holds reach honest faults old rows main p → graph ≡ summaries p)
        → IsMade reach honest faults (λ p. []) pruned rows main old new left
    pruned_made have drops contents known = record {
      rests = drops.rests;
      pools = left_have faults (is_in (reachable graph main)) old new dead (routine_pids left) drops stay
          (subst (λ l. AllByRecursion (λ q. IsSome (kept_at old q) × (is_in (reachable graph main) q ≡ true)) (routine_pids l)) (sym left_is)
          (left_pids (λ q. IsSome (kept_at old q)) (is_in (reachable graph main)) rows have));
      noted = [];
      goes = goes;
      program = λ p h.
          let pids = program_pids p h.valid in let same = same_live p h.main_is (known p h) in let gone = pruned_follows p h.valid in
          record {
            holds = record {
              trusted = trusted_still faults reach honest [] old new goes h.trusted;
              valid = gone.follows.valid;
              shapes = sym (left_is ∙ ap (λ l. filter (stays (is_in l)) rows) same
                  ∙ ap (filter (stays (is_in (reachable (summaries p) (main_pid p.shapes))))) (sym h.shapes) ∙ rows_are p pids);
              main_is = gone.main ∙ h.main_is;
              contents = contents p h.contents (dead_is ∙ ap (λ l. filter (λ q. not (is_in l q)) (routine_pids rows)) same
                  ∙ ap (λ rows. filter (λ q. not (is_in (reachable (summaries p) (main_pid p.shapes)) q)) (routine_pids rows)) (sym h.shapes)
                  ∙ dead_are p pids);
            };
            notes = tt;
          };
    }
      where
        goes : GoesOn faults [] old new
        goes = record {
          limit = drops.stays.limit;
          workers = drops.stays.workers;
          first = drops.stays.first;
          later = drops.stays.later;
          insertions = drops.insertions;
          programs = drops.stays.programs ∙ sym (append-nil old.trail.programs);
        }
