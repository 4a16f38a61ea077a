-- Sites with the same callee and the same known arguments share a clone.
use Rattle.std.specs.Prelude.{ℕ, suc, ◌+◌, ◌^◌, ◌&&◌, not, Bool, true, false, List, [], ◌∷◌, ◌++◌, length, Option, Some, None, nat_eq, nat_le, nat_lt}
use Rattle.std.specs.Prelude.{if◌then◌else◌}
use Rattle.il_laws.specs.Clone.{Fixed}
use Rattle.il_laws.specs.Retarget.{SiteMove}
use Rattle.il_laws.specs.Table.{Row}
use Rattle.il_core.specs.Limits.{max_pids, max_routines}
use Rattle.plan_laws.specs.Orders.{less_or, sorted}
use Rattle.plan_laws.specs.Summary.{Summary, summary_at, cost_of, CallSite, call_sites}
use Rattle.plan_laws.specs.Numbers.{Numbers, is_within}
use Rattle.plan_laws.specs.Choosing.{is_candidate}

abbrev pub fixed_at : ℕ → Bool → Option ℕ → List Fixed → List Fixed
fixed_at x true (Some v) rest = record { param = x; word = record { 0 = v } } ∷ rest
fixed_at x true None rest = rest
fixed_at x false known rest = rest

-- the known constants of the parameters from number x on that are read
abbrev pub fixed_from : ℕ → List Bool → List (Option ℕ) → List Fixed
fixed_from x [] known = []
fixed_from x (b ∷ bs) [] = []
fixed_from x (b ∷ bs) (o ∷ os) = fixed_at x b o (fixed_from (suc x) bs os)

abbrev pub reads_of : Option Summary → List Bool
reads_of None = []
reads_of (Some s) = s.reads

-- A site's key is its callee and these constants: those known at the site of the parameters that its callee reads.
abbrev pub fixed_of : List Summary → CallSite → List Fixed
fixed_of ss x = fixed_from 0 (reads_of (summary_at ss x.site.callee)) x.site.known

abbrev pub is_empty : List Fixed → Bool
is_empty [] = true
is_empty (x ∷ xs) = false

abbrev pub same_fixed : List Fixed → List Fixed → Bool
same_fixed [] [] = true
same_fixed [] (y ∷ ys) = false
same_fixed (x ∷ xs) [] = false
same_fixed (x ∷ xs) (y ∷ ys) = nat_eq x.param y.param && nat_eq x.word.0 y.word.0 && same_fixed xs ys

abbrev pub fixed_before : List Fixed → List Fixed → Bool
fixed_before [] [] = false
fixed_before [] (y ∷ ys) = true
fixed_before (x ∷ xs) [] = false
fixed_before (x ∷ xs) (y ∷ ys) = less_or x.param y.param (less_or x.word.0 y.word.0 (fixed_before xs ys))

-- a site of a group: its caller, and its number there
pub record Member : Type 0 where
  pub caller : ℕ
  pub site : ℕ

-- all sites with one key, and the sum of their counts
pub record Group : Type 0 where
  pub callee : ℕ
  pub fixed : List Fixed
  pub members : List Member
  pub count : ℕ

abbrev pub has_key : ℕ → List Fixed → Group → Bool
has_key callee fixed g = nat_eq g.callee callee && same_fixed g.fixed fixed

abbrev pub member_of : CallSite → Member
member_of x = record { caller = x.caller; site = x.number }

abbrev pub joined : CallSite → List Fixed → List Group → List Group
joined x fixed [] =
    record { callee = x.site.callee; fixed = fixed; members = member_of x ∷ []; count = x.site.count } ∷ []
joined x fixed (g ∷ gs) =
    if has_key x.site.callee fixed g then record g { members = member_of x ∷ g.members; count = x.site.count + g.count } ∷ gs
    else g ∷ joined x fixed gs

-- a site that may call a clone: some argument that its callee reads is known
abbrev pub may_move : List Summary → ℕ → CallSite → Bool
may_move ss main x = is_candidate main x && not (is_empty (fixed_of ss x))

abbrev pub grouped : List Summary → ℕ → List CallSite → List Group
grouped ss main [] = []
grouped ss main (x ∷ xs) =
    if may_move ss main x then joined x (fixed_of ss x) (grouped ss main xs) else grouped ss main xs

-- the greater count first, then the lower callee, then the constants
abbrev pub group_before : Group → Group → Bool
group_before a b = less_or b.count a.count (less_or a.callee b.callee (fixed_before a.fixed b.fixed))

abbrev pub ranked_groups : List Summary → ℕ → List Group
ranked_groups ss main = sorted group_before (grouped ss main (call_sites ss))

-- the clone that the table has for a key
abbrev pub is_row_of : ℕ → List Fixed → Row → Bool
is_row_of callee fixed row = nat_eq row.callee callee && same_fixed row.fixed fixed

abbrev pub clone_in : List Row → ℕ → List Fixed → Option ℕ
clone_in [] callee fixed = None
clone_in (row ∷ rows) callee fixed = if is_row_of callee fixed row then Some row.clone else clone_in rows callee fixed

-- an accepted group with its clone, which is a new one or stood in the table
pub record Taken : Type 0 where
  pub group : Group
  pub clone : ℕ
  pub is_new : Bool

-- the numbers of a new clone
abbrev pub clone_numbers : Summary → List Fixed → Numbers
clone_numbers s fixed =
    record {
      size = s.size + length fixed + (if s.start_loop then 1 else 0);
      regs = s.regs;
      arrays = s.arrays;
      elements = s.elements;
    }

-- after the groups accepted so far: the cost, the number of routines, and the PID of the next clone
pub record Spent : Type 0 where
  pub cost : ℕ
  pub routines : ℕ
  pub next : ℕ

abbrev pub clone_fits : Spent → ℕ → Numbers → Bool
clone_fits b limit n = nat_le (b.cost + n.size ^ 2) limit && is_within n && nat_lt b.routines max_routines && nat_lt b.next max_pids

abbrev pub more_spent : Spent → Numbers → Spent
more_spent b n = record { cost = b.cost + n.size ^ 2; routines = suc b.routines; next = suc b.next }

-- a group's decision, and what is spent then
pub record Decided : Type 0 where
  pub taken : List Taken
  pub spent : Spent

abbrev pub refused : Spent → Decided
refused b = record { taken = []; spent = b }

abbrev pub with_new : Group → Spent → Numbers → Decided
with_new g b n = record { taken = record { group = g; clone = b.next; is_new = true } ∷ []; spent = more_spent b n }

abbrev pub with_old : Group → ℕ → Spent → Decided
with_old g clone b = record { taken = record { group = g; clone = clone; is_new = false } ∷ []; spent = b }

-- an old clone is used again at no cost; a new one is made where it fits
abbrev pub decided : ℕ → Group → Spent → Option ℕ → Option Summary → Decided
decided limit g b (Some clone) s = with_old g clone b
decided limit g b None None = refused b
decided limit g b None (Some s) =
    if clone_fits b limit (clone_numbers s g.fixed) then with_new g b (clone_numbers s g.fixed) else refused b

-- each group's decision, by those accepted before
abbrev pub taken : List Summary → List Row → ℕ → Spent → List Group → List Taken
taken ss table limit b [] = []
taken ss table limit b (g ∷ gs) =
    let d = decided limit g b (clone_in table g.callee g.fixed) (summary_at ss g.callee) in
    d.taken ++ taken ss table limit d.spent gs

abbrev pub at_start : List Summary → ℕ → Spent
at_start ss next = record { cost = cost_of ss; routines = length ss; next = next }

-- The clone groups, with the PID that the first new clone takes.
abbrev pub groups : List Summary → List Row → ℕ → ℕ → ℕ → List Taken
groups ss table main next limit = taken ss table limit (at_start ss next) (ranked_groups ss main)

-- where a site goes: to the clone that the table has for its key, if there is one
abbrev pub clone_of_site : List Summary → List Row → ℕ → CallSite → Option ℕ
clone_of_site ss table main x = if may_move ss main x then clone_in table x.site.callee (fixed_of ss x) else None

abbrev pub with_move : Option ℕ → ℕ → List SiteMove → List SiteMove
with_move None k rest = rest
with_move (Some clone) k rest = record { site = k; callee = clone } ∷ rest

-- the moves of these sites
abbrev pub moves : List Summary → List Row → ℕ → List CallSite → List SiteMove
moves ss table main [] = []
moves ss table main (x ∷ xs) = with_move (clone_of_site ss table main x) x.number (moves ss table main xs)
