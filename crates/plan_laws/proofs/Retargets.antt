-- The calls of routines go to the clones of a right table.
use Rattle.std.proofs.Common.{◌≡◌, ℕ, suc, ◌+◌, List, [], ◌∷◌, Bool, true, false, refl, ap, ap₂, subst, sym, ◌∙◌, arith, slice_get, eqb-true}
use Rattle.std.specs.Prelude.{nat_eq, nat_lt, ◌&&◌, if◌then◌else◌, Option, Some, None}
use Rattle.std.specs.List.{AllByRecursion}
use Rattle.std.proofs.lemmas.Option.{none-some, same_Some}
use Rattle.il_core.specs.declared.program.IlProgram.{IlProgram}
use Rattle.il_core.specs.Routine.{RoutineParts}
use Rattle.il_core.specs.Valid.{IsProgram, IsValid}
use Rattle.il_laws.specs.Clone.{Fixed}
use Rattle.il_laws.specs.Keeping.{Stands, MayFollow, with_each}
use Rattle.il_laws.specs.Known.{KnownSite, known_sites}
use Rattle.il_laws.specs.Retarget.{SiteMove, retarget, Covers, IsByRow}
use Rattle.il_laws.specs.Serving.{Serves}
use Rattle.il_laws.specs.Table.{Row, IsRight, HasCalleesShape}
use Rattle.il_core.proofs.Programs.{callee_of, routine_valid, shape_is}
use Rattle.il_laws.proofs.Programs.{valid_calls}
use Rattle.il_laws.proofs.Retargeted.{all_stand, retarget_serves}
use Rattle.il_laws.proofs.Serving.{serves_itself, each_follows}
use Rattle.list_laws.proofs.Tests.{and_first, and_second}
use Rattle.plan_laws.specs.Summary.{Summary, summary_at, CallSite, numbered}
use Rattle.plan_laws.specs.Groups.{fixed_at, fixed_from, reads_of, fixed_of, same_fixed, may_move, is_row_of, clone_in, clone_of_site, with_move, moves}
use Rattle.plan_laws.specs.Plan.{retargeted}

-- a row of the table is right, and its clone takes its callee's place in a call
pub record IsGood (p : IlProgram) (row : Row) : Type 0 where
  pub right : IsRight p row
  pub shape : HasCalleesShape p row

pub same_entry : (x y : Fixed) → x.param ≡ y.param → x.word.0 ≡ y.word.0 → x ≡ y
same_entry x y e g = ap₂ {A = ℕ} {B = ℕ} {C = Fixed} (λ a b. record { param = a; word = record { 0 = b } }) e g

pub same_fixed_is : (xs ys : List Fixed) → same_fixed xs ys ≡ true → xs ≡ ys
same_fixed_is [] [] e = refl
same_fixed_is [] (y ∷ ys) e = let bad : false ≡ true = e in absurd cc
same_fixed_is (x ∷ xs) [] e = let bad : false ≡ true = e in absurd cc
same_fixed_is (x ∷ xs) (y ∷ ys) e =
    let param = nat_eq x.param y.param in
    let value = nat_eq x.word.0 y.word.0 in
    let both = and_first (param && value) (same_fixed xs ys) e in
    let rest = and_second (param && value) (same_fixed xs ys) e in
    let first = same_entry x y (eqb-true x.param y.param (and_first param value both)) (eqb-true x.word.0 y.word.0 (and_second param value both)) in
    ap₂ {A = Fixed} {B = List Fixed} {C = List Fixed} (λ z zs. z ∷ zs) first (same_fixed_is xs ys rest)

-- what is known at a site covers the constants of its key
module _ (known : List (Option ℕ)) where
  one_covers : (k : ℕ) (b : Bool) (o : Option ℕ) (rest : List Fixed) → slice_get known k ≡ Some o → Covers known rest
      → Covers known (fixed_at k b o rest)
  one_covers k true (Some v) rest e h = (e, h)
  one_covers k true None rest e h = h
  one_covers k false o rest e h = h

  fixed_covers : (k : ℕ) (bs : List Bool) (os : List (Option ℕ)) → ((i : ℕ) (o : Option ℕ) → slice_get os i ≡ Some o → slice_get known (k + i) ≡ Some o)
      → Covers known (fixed_from k bs os)
  fixed_covers k [] os h = tt
  fixed_covers k (b ∷ bs) [] h = tt
  fixed_covers k (b ∷ bs) (o ∷ os) h =
      let here : k ≡ k + 0 = omega arith in
      let first = ap (λ (n : ℕ). slice_get known n) here ∙ h 0 o refl in
      let later = λ (i : ℕ) (u : Option ℕ) (e : slice_get os i ≡ Some u).
      (let there : suc k + i ≡ k + suc i = omega arith in ap (λ (n : ℕ). slice_get known n) there ∙ h (suc i) u e) in
      one_covers k b o (fixed_from (suc k) bs os) first (fixed_covers (suc k) bs os later)

  key_covers : (bs : List Bool) → Covers known (fixed_from 0 bs known)
  key_covers bs =
      fixed_covers 0 bs known (λ i o e. (let here : 0 + i ≡ i = omega arith in ap (λ (n : ℕ). slice_get known n) here ∙ e))

-- a row that the table has for a key
pub record HasRowFor (table : List Row) (P : Row → Type 0) (callee : ℕ) (fixed : List Fixed) (clone : ℕ) : Type 0 where
  pub row : Row
  pub callee_is : row.callee ≡ callee
  pub fixed_is : row.fixed ≡ fixed
  pub clone_is : row.clone ≡ clone
  pub holds : P row

row_if : (table : List Row) (P : Row → Type 0) (callee : ℕ) (fixed : List Fixed) (clone : ℕ) (row : Row) (o : Option ℕ) (b : Bool)
    → is_row_of callee fixed row ≡ b → P row → (o ≡ Some clone → HasRowFor table P callee fixed clone)
    → (if b then Some row.clone else o) ≡ Some clone → HasRowFor table P callee fixed clone
row_if table P callee fixed clone row o true is h rest e =
    record {
      row = row;
      callee_is = eqb-true row.callee callee (and_first (nat_eq row.callee callee) (same_fixed row.fixed fixed) is);
      fixed_is = same_fixed_is row.fixed fixed (and_second (nat_eq row.callee callee) (same_fixed row.fixed fixed) is);
      clone_is = same_Some row.clone clone e;
      holds = h;
    }
row_if table P callee fixed clone row o false is h rest e = rest e

pub row_for : (table : List Row) (P : Row → Type 0) (callee : ℕ) (fixed : List Fixed) (clone : ℕ) → AllByRecursion P table
    → clone_in table callee fixed ≡ Some clone → HasRowFor table P callee fixed clone
row_for [] P callee fixed clone h e = absurd (none-some clone e)
row_for (row ∷ rows) P callee fixed clone h e =
    row_if (row ∷ rows) P callee fixed clone row (clone_in rows callee fixed) (is_row_of callee fixed row) refl h.0
    (λ d. (let r = row_for rows P callee fixed clone h.1 d in
    record { row = r.row; callee_is = r.callee_is; fixed_is = r.fixed_is; clone_is = r.clone_is; holds = r.holds })) e

pub if_some : (b : Bool) (o : Option ℕ) (clone : ℕ) → (if b then o else None) ≡ Some clone → o ≡ Some clone
if_some true o clone e = e
if_some false o clone e = absurd (none-some clone e)

module _ (p : IlProgram) (valid : IsProgram p) (table : List Row) (good : AllByRecursion (IsGood p) table) (ss : List Summary) (main : ℕ) where
  -- the clone of a good row stands where its callee does
  clone_stands : (row : Row) → IsGood p row → Stands p row.callee → Stands p row.clone
  clone_stands row g s =
      let r = s.routine in
      let c = callee_of p valid row.clone r.params r.value (g.shape.by r.params r.value (shape_is p valid row.callee r s.is)) in
      record { routine = c.routine; is = c.is }

  -- a site that goes to a clone does so by a row
  site_moves : (r : RoutineParts) (k : ℕ) (s : KnownSite) (clone : ℕ) → slice_get (known_sites r) k ≡ Some s → Stands p s.callee
      → clone_of_site ss table main (record { caller = r.pid; number = k; site = s }) ≡ Some clone
      → IsByRow p r (record { site = k; callee = clone })
  site_moves r k s clone at stands e =
      let x : CallSite = record { caller = r.pid; number = k; site = s } in
      let fixed = fixed_of ss x in
      let row = row_for table (IsGood p) s.callee fixed clone good (if_some (may_move ss main x) (clone_in table s.callee fixed) clone e) in
      record {
        site = s;
        is = at;
        row = row.row;
        callee = sym row.callee_is;
        clone = sym row.clone_is;
        known = subst (Covers s.known) (sym row.fixed_is) (key_covers s.known (reads_of (summary_at ss s.callee)));
        right = row.holds.right;
        shape = row.holds.shape;
        stands = clone_stands row.row row.holds (subst (Stands p) (sym row.callee_is) stands);
      }

  with_moves : (r : RoutineParts) (k : ℕ) (s : KnownSite) (o : Option ℕ) (rest : List SiteMove) → slice_get (known_sites r) k ≡ Some s
      → Stands p s.callee → clone_of_site ss table main (record { caller = r.pid; number = k; site = s }) ≡ o
      → AllByRecursion (IsByRow p r) rest → AllByRecursion (IsByRow p r) (with_move o k rest)
  with_moves r k s None rest at stands e h = h
  with_moves r k s (Some clone) rest at stands e h = (site_moves r k s clone at stands e, h)

  all_moves : (r : RoutineParts) (k : ℕ) (xs : List KnownSite)
      → ((i : ℕ) (s : KnownSite) → slice_get xs i ≡ Some s → slice_get (known_sites r) (k + i) ≡ Some s)
      → AllByRecursion (λ s. Stands p s.callee) xs → AllByRecursion (IsByRow p r) (moves ss table main (numbered r.pid k xs))
  all_moves r k [] at stand = tt
  all_moves r k (s ∷ xs) at stand =
      let here : k ≡ k + 0 = omega arith in
      let first = ap (λ (n : ℕ). slice_get (known_sites r) n) here ∙ at 0 s refl in
      let later = λ (i : ℕ) (t : KnownSite) (e : slice_get xs i ≡ Some t).
      (let there : suc k + i ≡ k + suc i = omega arith in ap (λ (n : ℕ). slice_get (known_sites r) n) there ∙ at (suc i) t e) in
      with_moves r k s (clone_of_site ss table main (record { caller = r.pid; number = k; site = s }))
      (moves ss table main (numbered r.pid (suc k) xs)) first stand.0 refl (all_moves r (suc k) xs later stand.1)

  moved_serves : (r : RoutineParts) → IsValid p.shapes r → Serves p r (retarget r (moves ss table main (numbered r.pid 0 (known_sites r))))
  moved_serves r ok =
      let here = λ (i : ℕ) (s : KnownSite) (e : slice_get (known_sites r) i ≡ Some s).
      (let same : 0 + i ≡ i = omega arith in ap (λ (n : ℕ). slice_get (known_sites r) n) same ∙ e) in
      let stand = all_stand p r 0 r.blocks (valid_calls p valid r ok) in
      retarget_serves p valid r (moves ss table main (numbered r.pid 0 (known_sites r))) ok (all_moves r 0 (known_sites r) here stand)

  below_serves : (r r1 : RoutineParts) (b : Bool) → IsValid p.shapes r → Serves p r r1 → Serves p r (if b then r1 else r)
  below_serves r r1 true ok s = s
  below_serves r r1 false ok s = serves_itself p r ok

  pub retargeted_serves : (below : ℕ) (r : RoutineParts) → IsValid p.shapes r → Serves p r (retargeted ss table main below r)
  retargeted_serves below r ok =
      below_serves r (retarget r (moves ss table main (numbered r.pid 0 (known_sites r)))) (nat_lt r.pid below) ok (moved_serves r ok)

  pub retargeted_follows : (below : ℕ) → MayFollow p (with_each p (retargeted ss table main below))
  retargeted_follows below =
      each_follows p valid (retargeted ss table main below) (λ x r e. retargeted_serves below r (routine_valid p valid x r e))
