-- The members of groups, the clones that groups take, and the routines that stood before.
use Rattle.std.proofs.Common.{◌≡◌, ◌+◌, ◌<◌, ◌≤◌, ℕ, suc, Bool, true, false, List, [], ◌∷◌, ◌++◌, Option, Some, None, map, nat_eq, refl, ap, arith, ◌∙◌}
use Rattle.std.specs.Prelude.{◌&&◌, ◌||◌, if◌then◌else◌}
use Rattle.std.specs.List.{AllByRecursion}
use Rattle.list_laws.proofs.Entries.{other_number}
use Rattle.il_core.specs.Program.{routine_at, shape_at}
use Rattle.il_core.specs.Routine.{RoutineParts}
use Rattle.il_core.specs.declared.program.IlProgram.{IlProgram}
use Rattle.il_core.specs.declared.shape.Shape.TheVariants as shape
use Rattle.il_core.specs.declared.shape.ShapeRow.{ShapeRow}
use Rattle.il_laws.specs.Clone.{Fixed, make_clone}
use Rattle.il_laws.specs.Growing.{NewClone, with_copy}
use Rattle.il_laws.specs.Known.{KnownSite, known_sites}
use Rattle.il_laws.specs.Table.{Row}
use Rattle.il_laws.proofs.Grown.{all_of, all_push}
use Rattle.il_laws.proofs.Shaped.{in_row}
use Rattle.il_laws.proofs.SpliceBlocks.{all_append}
use Rattle.plan_laws.specs.GroupLaws.{clone_of_member, has_member}
use Rattle.plan_laws.specs.Groups.{Group, Member, Spent, Taken, clone_fits, clone_in, clone_numbers, decided, fixed_of, grouped, has_key, joined}
use Rattle.plan_laws.specs.Groups.{may_move, more_spent, refused, taken, with_new}
use Rattle.plan_laws.specs.Numbers.{Numbers}
use Rattle.plan_laws.specs.Plan.{State, add_clone, add_clones, new_clone}
use Rattle.plan_laws.specs.Summary.{CallSite, Summary, call_sites, numbered, summary, summary_at}

-- the callers of the members are below n
abbrev pub IsLow : ℕ → Group → Type 0
IsLow n g = AllByRecursion (λ m. m.caller < n) g.members

joined_low : (n : ℕ) (x : CallSite) (fixed : List Fixed) (gs : List Group) → x.caller < n → AllByRecursion (IsLow n) gs
    → AllByRecursion (IsLow n) (joined x fixed gs)
joined_low n x fixed [] lt h = ((lt, tt), tt)
joined_low n x fixed (g ∷ gs) lt h = by (has_key x.site.callee fixed g) (joined_low n x fixed gs lt h.1)
  where
    by : (b : Bool) → AllByRecursion (IsLow n) (joined x fixed gs)
        → AllByRecursion (IsLow n) (if b then record g {
          members = record { caller = x.caller; site = x.number } ∷ g.members;
          count =
              x.site.count + g.count;
        } ∷ gs
        else g ∷ joined x fixed gs)
    by true rest = ((lt, h.0), h.1)
    by false rest = (h.0, rest)

pub grouped_low : (ss : List Summary) (main n : ℕ) (xs : List CallSite) → AllByRecursion (λ x. x.caller < n) xs
    → AllByRecursion (IsLow n) (grouped ss main xs)
grouped_low ss main n [] h = tt
grouped_low ss main n (x ∷ xs) h = by (may_move ss main x) (grouped_low ss main n xs h.1)
  where
    by : (b : Bool) → AllByRecursion (IsLow n) (grouped ss main xs)
        → AllByRecursion (IsLow n) (if b then joined x (fixed_of ss x) (grouped ss main xs) else grouped ss main xs)
    by true rest = joined_low n x (fixed_of ss x) (grouped ss main xs) h.0 rest
    by false rest = rest

no_member : (n : ℕ) (xs : List Member) (m : Member) → n ≤ m.caller → AllByRecursion (λ x. x.caller < n) xs → has_member xs m ≡ false
no_member n [] m le h = refl
no_member n (x ∷ xs) m le h =
    let lt = h.0 in
    ap (λ b. (b && nat_eq x.site m.site) || has_member xs m) (other_number x.caller m.caller (λ e. absurd (omega arith))) ∙ no_member n xs m le h.1

-- a site of a higher caller has no clone
pub none_of : (n : ℕ) (ts : List Taken) (m : Member) → n ≤ m.caller → AllByRecursion (λ t. IsLow n t.group) ts → clone_of_member ts m ≡ None
none_of n [] m le h = refl
none_of n (t ∷ ts) m le h =
    ap (λ b. if b then Some t.clone else clone_of_member ts m) (no_member n t.group.members m le h.0) ∙ none_of n ts m le h.1

numbered_low : (q n k : ℕ) (sites : List KnownSite) → q < n → AllByRecursion (λ x. x.caller < n) (numbered q k sites)
numbered_low q n k [] lt = tt
numbered_low q n k (s ∷ sites) lt = (lt, numbered_low q n (suc k) sites lt)

pub callers_low : (n : ℕ) (rs : List RoutineParts) → AllByRecursion (λ r. r.pid < n) rs → AllByRecursion (λ x. x.caller < n) (call_sites (map summary rs))
callers_low n [] h = tt
callers_low n (r ∷ rs) h =
    all_append (λ x. x.caller < n) (numbered r.pid 0 (known_sites r)) (call_sites (map summary rs)) (numbered_low r.pid n 0 (known_sites r) h.0)
    (callers_low n rs h.1)

-- routines whose PIDs are those of low rows
pub routines_low : (rows : List ShapeRow) (n : ℕ) → AllByRecursion (λ row. row.pid < n) rows → (rs : List RoutineParts)
    → AllByRecursion (λ r. shape_at rows r.pid ≡ Some (shape.Routine r.params r.value)) rs → AllByRecursion (λ r. r.pid < n) rs
routines_low rows n low [] h = tt
routines_low rows n low (r ∷ rs) h =
    let f = in_row rows r.pid (shape.Routine r.params r.value) h.0 in
    (all_of (λ row. row.pid) (λ q. q < n) r.pid rows f.row low f.is, routines_low rows n low rs h.1)

all_front : {X : Type 0} (P : X → Type 0) (xs ys : List X) → AllByRecursion P (xs ++ ys) → AllByRecursion P xs
all_front P [] ys h = tt
all_front P (x ∷ xs) ys h = (h.0, all_front P xs ys h.1)

all_behind : {X : Type 0} (P : X → Type 0) (xs ys : List X) → AllByRecursion P (xs ++ ys) → AllByRecursion P ys
all_behind P [] ys h = h
all_behind P (x ∷ xs) ys h = all_behind P xs ys h.1

-- what holds of the sites of a routine that stood before
abbrev pub HasSites : ℕ → (CallSite → Type 0) → RoutineParts → Type 0
HasSites n P r = r.pid < n → AllByRecursion P (numbered r.pid 0 (known_sites r))

pub sites_each : (n : ℕ) (P : CallSite → Type 0) (rs : List RoutineParts) → AllByRecursion P (call_sites (map summary rs)) → AllByRecursion (HasSites n P) rs
sites_each n P [] h = tt
sites_each n P (r ∷ rs) h = (
  λ lt. all_front P (numbered r.pid 0 (known_sites r)) (call_sites (map summary rs)) h,
  sites_each n P rs (all_behind P (numbered r.pid 0 (known_sites r)) (call_sites (map summary rs)) h),
)

-- new clones have higher PIDs
abbrev pub IsHigh : ℕ → Taken → Type 0
IsHigh n t = t.is_new ≡ true → n ≤ t.clone

copy_sites : (n : ℕ) (P : CallSite → Type 0) (p : IlProgram) (c : NewClone) (o : Option RoutineParts) → n ≤ c.pid
    → AllByRecursion (HasSites n P) p.routines → AllByRecursion (HasSites n P) (with_copy p c o).routines
copy_sites n P p c None le h = h
copy_sites n P p c (Some r) le h = all_push (HasSites n P) p.routines (make_clone r c.pid c.fixed) h (λ lt. absurd (omega arith))

pub added_sites : (names : List ShapeRow) (n : ℕ) (P : CallSite → Type 0) (ts : List Taken) (st : State) → AllByRecursion (IsHigh n) ts
    → AllByRecursion (HasSites n P) st.program.routines → AllByRecursion (HasSites n P) (add_clones names ts st).program.routines
added_sites names n P [] st high h = h
added_sites names n P (t ∷ ts) st high h =
    added_sites names n P ts (if t.is_new then add_clone names t st else st) high.1 (by t.is_new high.0)
  where
    by : (b : Bool) → (b ≡ true → n ≤ t.clone) → AllByRecursion (HasSites n P) (if b then add_clone names t st else st).program.routines
    by true le = copy_sites n P st.program (new_clone names st.made t) (routine_at st.program.routines t.group.callee) (le refl) h
    by false le = h

pub taken_high : (ss : List Summary) (table : List Row) (limit n : ℕ) (gs : List Group) (b : Spent) → n ≤ b.next
    → AllByRecursion (IsHigh n) (taken ss table limit b gs)
taken_high ss table limit n [] b le = tt
taken_high ss table limit n (g ∷ gs) b le =
    at (taken_high ss table limit n gs) (clone_in table g.callee g.fixed) (summary_at ss g.callee)
  where
    fits : ((c : Spent) → n ≤ c.next → AllByRecursion (IsHigh n) (taken ss table limit c gs)) → (m : Numbers) (k : Bool)
        → AllByRecursion (IsHigh n) ((if k then with_new g b m else refused b).taken ++ taken ss table limit (if k then with_new g b m else refused b).spent gs)
    fits rest m true = (λ e. le, rest (more_spent b m) (omega arith))
    fits rest m false = rest b le

    at : ((c : Spent) → n ≤ c.next → AllByRecursion (IsHigh n) (taken ss table limit c gs)) → (o : Option ℕ) (s : Option Summary)
        → AllByRecursion (IsHigh n) ((decided limit g b o s).taken ++ taken ss table limit (decided limit g b o s).spent gs)
    at rest (Some clone) s = (λ e. absurd cc, rest b le)
    at rest None None = rest b le
    at rest None (Some s) = fits rest (clone_numbers s g.fixed) (clone_fits b limit (clone_numbers s g.fixed))
