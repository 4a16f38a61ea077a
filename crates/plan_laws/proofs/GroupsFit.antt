-- The groups of a valid program: their callees stand, and their constants are of parameters that those have.
use Rattle.std.proofs.Common.{◌≡◌, ℕ, zero, suc, ◌+◌, ◌<◌, ◌≤◌, List, [], ◌∷◌, map, option_map, Bool, true, false, refl, ap, subst, sym, ◌∙◌, arith, length}
use Rattle.std.specs.Prelude.{nat_eq, if◌then◌else◌, Option, Some, None}
use Rattle.std.specs.List.{AllByRecursion}
use Rattle.il_core.specs.declared.program.IlProgram.{IlProgram}
use Rattle.il_core.specs.Program.{routine_at}
use Rattle.il_core.specs.Routine.{RoutineParts}
use Rattle.il_core.specs.Valid.{IsProgram, IsValid}
use Rattle.il_laws.specs.Clone.{Fixed}
use Rattle.il_laws.specs.Keeping.{Stands}
use Rattle.il_laws.specs.Known.{KnownSite, known_sites}
use Rattle.il_laws.specs.Live.{read_in}
use Rattle.il_laws.proofs.Programs.{valid_calls}
use Rattle.il_laws.proofs.Retargeted.{all_stand}
use Rattle.il_laws.proofs.SpliceBlocks.{all_append}
use Rattle.plan_laws.specs.Orders.{inserted, sorted}
use Rattle.plan_laws.specs.Summary.{Summary, tests, summary, summaries, summary_at, CallSite, numbered, call_sites}
use Rattle.plan_laws.specs.Groups.{fixed_at, fixed_from, reads_of, fixed_of, Group, has_key, member_of, joined, may_move, grouped, group_before, ranked_groups}
use Rattle.plan_laws.proofs.Adding.{GroupFits}

-- an order keeps what holds of each element
module _ {X : Type 0} (P : X → Type 0) (before : X → X → Bool) where
  inserted_if : (k : Bool) (x y : X) (ys zs : List X) → P x → P y → AllByRecursion P ys → AllByRecursion P zs
      → AllByRecursion P (if k then y ∷ zs else x ∷ y ∷ ys)
  inserted_if true x y ys zs hx hy h g = (hy, g)
  inserted_if false x y ys zs hx hy h g = (hx, (hy, h))

  pub inserted_all : (x : X) (ys : List X) → P x → AllByRecursion P ys → AllByRecursion P (inserted before x ys)
  inserted_all x [] hx h = (hx, tt)
  inserted_all x (y ∷ ys) hx h = inserted_if (before y x) x y ys (inserted before x ys) hx h.0 h.1 (inserted_all x ys hx h.1)

  pub sorted_all : (xs : List X) → AllByRecursion P xs → AllByRecursion P (sorted before xs)
  sorted_all [] h = tt
  sorted_all (x ∷ xs) h = inserted_all x (sorted before xs) h.0 (sorted_all xs h.1)

-- a summary is found where its routine is
if_summary : (k : Bool) (r : RoutineParts) (o : Option RoutineParts)
    → (if k then Some (summary r) else option_map summary o) ≡ option_map summary (if k then Some r else o)
if_summary true r o = refl
if_summary false r o = refl

pub summary_found : (rs : List RoutineParts) (x : ℕ) → summary_at (map summary rs) x ≡ option_map summary (routine_at rs x)
summary_found [] x = refl
summary_found (r ∷ rs) x =
    ap (λ (o : Option Summary). if nat_eq r.pid x then Some (summary r) else o) (summary_found rs x)
    ∙ if_summary (nat_eq r.pid x) r (routine_at rs x)

tests_length : (test : ℕ → Bool) (x n : ℕ) → length (tests test x n) ≡ n
tests_length test x zero = refl
tests_length test x (suc n) = ap suc (tests_length test (suc x) n)

one_below : (n k : ℕ) (b : Bool) (o : Option ℕ) (rest : List Fixed) → k < n → AllByRecursion (λ x. x.param < n) rest
    → AllByRecursion (λ x. x.param < n) (fixed_at k b o rest)
one_below n k true (Some v) rest lt h = (lt, h)
one_below n k true None rest lt h = h
one_below n k false o rest lt h = h

fixed_below : (n k : ℕ) (bs : List Bool) (os : List (Option ℕ)) → k + length bs ≤ n → AllByRecursion (λ x. x.param < n) (fixed_from k bs os)
fixed_below n k [] os le = tt
fixed_below n k (b ∷ bs) [] le = tt
fixed_below n k (b ∷ bs) (o ∷ os) le =
    let all : k + suc (length bs) ≤ n = le in
    one_below n k b o (fixed_from (suc k) bs os) (omega arith) (fixed_below n (suc k) bs os (omega arith))

module _ (p : IlProgram) (valid : IsProgram p) where
  abbrev ss : List Summary
  ss = summaries p

  abbrev CalleeStands : CallSite → Type 0
  CalleeStands x = Stands p x.site.callee

  numbered_stand : (pid k : ℕ) (xs : List KnownSite) → AllByRecursion (λ s. Stands p s.callee) xs → AllByRecursion CalleeStands (numbered pid k xs)
  numbered_stand pid k [] h = tt
  numbered_stand pid k (x ∷ xs) h = (h.0, numbered_stand pid (suc k) xs h.1)

  -- each site calls a routine that stands
  pub sites_stand : (rs : List RoutineParts) → AllByRecursion (IsValid p.shapes) rs → AllByRecursion CalleeStands (call_sites (map summary rs))
  sites_stand [] h = tt
  sites_stand (r ∷ rs) h =
      all_append CalleeStands (numbered r.pid 0 (known_sites r)) (call_sites (map summary rs))
      (numbered_stand r.pid 0 (known_sites r) (all_stand p r 0 r.blocks (valid_calls p valid r h.0))) (sites_stand rs h.1)

  key_below : (x : CallSite) (s : Stands p x.site.callee) → AllByRecursion (λ z. z.param < s.routine.params) (fixed_of ss x)
  key_below x s =
      let r = s.routine in
      let found : summary_at ss x.site.callee ≡ Some (summary r) =
      summary_found p.routines x.site.callee ∙ ap (λ (o : Option RoutineParts). option_map summary o) s.is in
      let size = tests_length (read_in r.blocks) 0 r.params in
      subst (λ (o : Option Summary). AllByRecursion (λ z. z.param < r.params) (fixed_from 0 (reads_of o) x.site.known)) (sym found)
      (fixed_below r.params 0 (tests (read_in r.blocks) 0 r.params) x.site.known (omega arith))

  new_fits : (x : CallSite) → CalleeStands x
      → GroupFits p (record { callee = x.site.callee; fixed = fixed_of ss x; members = member_of x ∷ []; count = x.site.count })
  new_fits x s = record { callee = s.routine; is = s.is; fixed = key_below x s }

  join_if : (k : Bool) (x : CallSite) (g : Group) (gs hs : List Group) → GroupFits p g → AllByRecursion (GroupFits p) gs
      → AllByRecursion (GroupFits p) hs
      → AllByRecursion (GroupFits p)
      (if k then record g { members = member_of x ∷ g.members; count = x.site.count + g.count } ∷ gs else g ∷ hs)
  join_if true x g gs hs fits h i = (record { callee = fits.callee; is = fits.is; fixed = fits.fixed }, h)
  join_if false x g gs hs fits h i = (fits, i)

  joined_fit : (x : CallSite) (gs : List Group) → CalleeStands x → AllByRecursion (GroupFits p) gs
      → AllByRecursion (GroupFits p) (joined x (fixed_of ss x) gs)
  joined_fit x [] s h = (new_fits x s, tt)
  joined_fit x (g ∷ gs) s h =
      join_if (has_key x.site.callee (fixed_of ss x) g) x g gs (joined x (fixed_of ss x) gs) h.0 h.1 (joined_fit x gs s h.1)

  group_if : (k : Bool) (gs hs : List Group) → AllByRecursion (GroupFits p) gs → AllByRecursion (GroupFits p) hs
      → AllByRecursion (GroupFits p) (if k then gs else hs)
  group_if true gs hs h g = h
  group_if false gs hs h g = g

  grouped_fit : (main : ℕ) (xs : List CallSite) → AllByRecursion CalleeStands xs → AllByRecursion (GroupFits p) (grouped ss main xs)
  grouped_fit main [] h = tt
  grouped_fit main (x ∷ xs) h =
      let rest = grouped ss main xs in
      let all = grouped_fit main xs h.1 in
      group_if (may_move ss main x) (joined x (fixed_of ss x) rest) rest (joined_fit x rest h.0 all) all

  pub groups_fit : (main : ℕ) → AllByRecursion (GroupFits p) (ranked_groups ss main)
  groups_fit main =
      sorted_all (GroupFits p) group_before (grouped ss main (call_sites ss)) (grouped_fit main (call_sites ss) (sites_stand p.routines valid.each))
