-- Ranked groups accepted one by one.
use Rattle.std.proofs.Common.{◌≡◌, ℕ, ◌+◌, ◌<◌, ◌≤◌, List, [], ◌∷◌, ◌++◌, map, Bool, true, false, Option, Some, None, refl, ap, ap₂, sym, subst, ◌∙◌}
use Rattle.std.proofs.Common.{arith, length, append_assoc, suc, ltb-true}
use Rattle.std.specs.Prelude.{◌&&◌, ◌^◌, if◌then◌else◌, nat_le, nat_lt}
use Rattle.std.specs.List.{AllByRecursion}
use Rattle.std.proofs.lemmas.Bool.{leb-true}
use Rattle.std.proofs.lemmas.List.{append-nil, length-map, map-append}
use Rattle.list_laws.proofs.Tests.{and_first, and_second}
use Rattle.il_core.specs.Limits.{max_arrays, max_elements, max_pids, max_registers, max_routines, max_size}
use Rattle.il_laws.specs.Table.{Row}
use Rattle.plan_laws.specs.Groups.{Decided, Group as Joined, Spent, Taken, clone_fits, clone_in, clone_numbers, decided, more_spent, refused, taken, with_new}
use Rattle.plan_laws.specs.Numbers.{Numbers, is_within}
use Rattle.plan_laws.specs.Summary.{Summary, summary_at}
use Rattle.call_graph.specs.Summaries.{Seen}
use Rattle.clone_groups.specs.Gathering.{member_by}
use Rattle.clone_groups.specs.Grouping.{accepted, chosen_clone, clone_of_first, group_made, pair_by, taken_by}
use Rattle.clone_groups.specs.Keys.{fixed_by, fixed_in, pairs_of}
use Rattle.clone_groups.specs.Ranking.{HasClone, group_of}
use Rattle.clone_groups.specs.declared.groups.Group.{Group}
use Rattle.clone_groups.specs.declared.ranking.Candidate.{Candidate}

-- a clone that is too large
no_first : (s g a e : Bool) → s ≡ false → (s && g && a && e) ≡ false
no_first s g a e is = ap (λ (b : Bool). b && g && a && e) is

no_second : (a w r n : Bool) → w ≡ false → (a && w && r && n) ≡ false
no_second true w r n is = ap (λ (b : Bool). b && r && n) is
no_second false w r n is = refl

above : (m n : ℕ) → m < n → nat_le n m ≡ false
above m n lt = by_test (nat_le n m) refl
  where
    by_test : (b : Bool) → nat_le n m ≡ b → b ≡ false
    by_test true is = let le : n ≤ m = leb-true n m is in absurd (omega arith)
    by_test false is = refl

module _ (b : Spent) (limit : ℕ) (s : Seen) (fixed : List (ℕ × ℕ)) where
  abbrev size_of : ℕ → ℕ
  size_of n = s.size + n + (if s.start_loop then 1 else 0)

  abbrev numbers : Numbers
  numbers = clone_numbers s (fixed_in fixed)

  same_size : size_of (length fixed) ≡ numbers.size
  same_size = ap size_of (sym (length-map fixed fixed_by))

  abbrev of_size : ℕ → Numbers
  of_size n = record { size = n; regs = s.regs; arrays = s.arrays; elements = s.elements }

  pub no_room : max_size < size_of (length fixed) → clone_fits b limit numbers ≡ false
  no_room lt =
      no_second (nat_le (b.cost + numbers.size ^ 2) limit) (is_within numbers) (nat_lt b.routines max_routines) (nat_lt b.next max_pids)
      (no_first (nat_le numbers.size max_size) (nat_le s.regs max_registers) (nat_le s.arrays max_arrays) (nat_le s.elements max_elements)
      (above max_size numbers.size (subst (λ (n : ℕ). max_size < n) same_size lt)))

  pub record Room (n : ℕ) : Type 0 where
    pub cost : b.cost + n ^ 2 ≤ limit
    pub routines : b.routines < max_routines
    pub next : b.next < max_pids

  module _ (n : ℕ) (size : n ≡ size_of (length fixed)) where
    same_numbers : of_size n ≡ numbers
    same_numbers = ap of_size (size ∙ same_size)

    pub fits_is : (t r : Bool) → t ≡ clone_fits b limit (of_size n) → t ≡ r → clone_fits b limit numbers ≡ r
    fits_is t r e is = ap (clone_fits b limit) (sym same_numbers) ∙ sym e ∙ is

    pub more_is : record { cost = b.cost + n ^ 2; routines = b.routines + 1; next = b.next + 1 } ≡ more_spent b numbers
    more_is =
        let one : b.routines + 1 ≡ suc b.routines = omega arith in
        let two : b.next + 1 ≡ suc b.next = omega arith in
        ap₂ {A = ℕ} {B = ℕ} {C = Spent} (λ r x. record { cost = b.cost + n ^ 2; routines = r; next = x }) one two
        ∙ ap (λ (m : ℕ). record { cost = b.cost + m ^ 2; routines = suc b.routines; next = suc b.next }) (size ∙ same_size)

    pub room : (t : Bool) → t ≡ clone_fits b limit (of_size n) → t ≡ true → Room n
    room t e is =
        let all : clone_fits b limit (of_size n) ≡ true = sym e ∙ is in
        let first = nat_le (b.cost + n ^ 2) limit in
        let second = is_within (of_size n) in
        let third = nat_lt b.routines max_routines in
        let last = nat_lt b.next max_pids in
        let three : (first && second && third) ≡ true = and_first (first && second && third) last all in
        let two : (first && second) ≡ true = and_first (first && second) third three in
        record {
          cost = leb-true (b.cost + n ^ 2) limit (and_first first second two);
          routines = ltb-true b.routines max_routines (and_second (first && second) third three);
          next = ltb-true b.next max_pids (and_second (first && second && third) last all);
        }

-- a decision has no clone or one
none_first : (ts : List Taken) → clone_of_first ts ≡ None → ts ≡ []
none_first [] e = refl
none_first (t ∷ ts) e = absurd cc

same_members : (xs : List (ℕ × ℕ)) → map pair_by (map member_by xs) ≡ xs
same_members [] = refl
same_members (x ∷ xs) = ap (λ (l : List (ℕ × ℕ)). x ∷ l) (same_members xs)

abbrev handed : Joined → ℕ → Option ℕ → Group
handed g k old = record { callee = g.callee; fixed = pairs_of g.fixed; members = map pair_by g.members; clone = k; old = old }

new_if : (limit : ℕ) (g : Joined) (b : Spent) (n : Numbers) (k : ℕ) (t : Bool) → chosen_clone (if t then with_new g b n else refused b) ≡ Some k
    → map accepted (if t then with_new g b n else refused b).taken ≡ handed g k None ∷ []
new_if limit g b n k true e = let same : b.next ≡ k = cc in ap (λ (m : ℕ). handed g m None ∷ []) same
new_if limit g b n k false e = absurd cc

handed_one : (limit : ℕ) (g : Joined) (b : Spent) (k : ℕ) (old : Option ℕ) (s : Option Summary) → chosen_clone (decided limit g b old s) ≡ Some k
    → map accepted (decided limit g b old s).taken ≡ handed g k old ∷ []
handed_one limit g b k (Some o) s e = let same : o ≡ k = cc in ap (λ (m : ℕ). record (handed g m None) { old = Some o } ∷ []) same ∙ refl
handed_one limit g b k None None e = absurd cc
handed_one limit g b k None (Some s) e = new_if limit g b (clone_numbers s g.fixed) k (clone_fits b limit (clone_numbers s g.fixed)) e

module _ (limit : ℕ) (b : Spent) (c : Candidate) (o : Option Seen) where
  abbrev d : Decided
  d = decided limit (group_of c) b c.old o

  pub one_taken : (k : ℕ) → Some k ≡ chosen_clone d → group_made c k ∷ [] ≡ map accepted d.taken
  one_taken k e =
      sym (handed_one limit (group_of c) b k c.old o (sym e)
      ∙ ap (λ (ms : List (ℕ × ℕ)). record (group_made c k) { members = ms } ∷ []) (same_members c.sites.members))

  pub none_taken : (done : List Group) → None ≡ chosen_clone d → done ≡ done ++ map accepted d.taken
  none_taken done e =
      sym (append-nil done) ∙ ap (λ (ts : List Taken). done ++ map accepted ts) (sym (none_first d.taken (sym e)))

-- the loop over candidates: what is taken of the others comes behind
pub record Going (ss : List Seen) (limit : ℕ) (start : Spent) (ys : List Candidate) (done : List Group) (b : Spent) : Type 0 where
  pub rest : (cs : List Candidate) → done ++ map accepted (taken_by ss limit b cs) ≡ map accepted (taken_by ss limit start (ys ++ cs))

pub going_first : (ss : List Seen) (limit : ℕ) (start b : Spent) (done : List Group) → done ≡ [] → b ≡ start → Going ss limit start [] done b
going_first ss limit start b done none same = record {
  rest = λ cs. ap₂ {A = List Group} {B = Spent} {C = List Group} (λ gs s. gs ++ map accepted (taken_by ss limit s cs)) none same;
}

pub going_on : (ss : List Seen) (limit : ℕ) (start b new : Spent) (ys : List Candidate) (c : Candidate) (done more : List Group) (o : Option Seen)
    → Going ss limit start ys done b → o ≡ summary_at ss c.key.callee
    → more ≡ done ++ map accepted (decided limit (group_of c) b c.old o).taken → new ≡ (decided limit (group_of c) b c.old o).spent
    → Going ss limit start (ys ++ c ∷ []) more new
going_on ss limit start b new ys c done more o g is added left = record {
  rest = λ cs.
      (let d = decided limit (group_of c) b c.old o in
      ap₂ {A = List Group} {B = Spent} {C = List Group} (λ gs s. gs ++ map accepted (taken_by ss limit s cs)) added left
      ∙ append_assoc done (map accepted d.taken) (map accepted (taken_by ss limit d.spent cs))
      ∙ ap (λ (gs : List Group). done ++ gs) (sym (map-append accepted d.taken (taken_by ss limit d.spent cs)))
      ∙ ap (λ (q : Option Seen). done ++ map accepted ((decided limit (group_of c) b c.old q).taken ++ taken_by ss limit
      (decided limit (group_of c) b c.old q).spent cs)) is
      ∙ g.rest (c ∷ cs)
      ∙ ap (λ (l : List Candidate). map accepted (taken_by ss limit start l)) (sym (append_assoc ys (c ∷ []) cs)));
}

pub going_last : (ss : List Seen) (limit : ℕ) (start b : Spent) (ys all : List Candidate) (done : List Group) → Going ss limit start ys done b → ys ≡ all
    → done ≡ map accepted (taken_by ss limit start all)
going_last ss limit start b ys all done g e =
    sym (append-nil done) ∙ g.rest [] ∙ ap (λ (l : List Candidate). map accepted (taken_by ss limit start l)) (append-nil ys ∙ e)

-- with the table's clones these are the decisions of the rule
pub taken_are : (ss : List Seen) (rows : List Row) (limit : ℕ) (b : Spent) (cs : List Candidate) → AllByRecursion (HasClone rows) cs
    → taken_by ss limit b cs ≡ taken ss rows limit b (map group_of cs)
taken_are ss rows limit b [] h = refl
taken_are ss rows limit b (c ∷ cs) h =
    ap (λ (o : Option ℕ). (decided limit (group_of c) b o (summary_at ss c.key.callee)).taken ++ taken_by ss limit
    (decided limit (group_of c) b o (summary_at ss c.key.callee)).spent cs) h.0
    ∙ ap (λ (ts : List Taken). (decided limit (group_of c) b (clone_in rows c.key.callee (group_of c).fixed) (summary_at ss c.key.callee)).taken ++ ts)
    (taken_are ss rows limit (decided limit (group_of c) b (clone_in rows c.key.callee (group_of c).fixed) (summary_at ss c.key.callee)).spent cs h.1)
