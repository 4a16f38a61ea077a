-- The bodies that go to accepted sites.
use Rattle.std.proofs.Common.{◌≡◌, ◌≤◌, ◌+◌, ℕ, suc, Bool, true, false, List, [], ◌∷◌, ◌++◌, length, Option, Some, None, refl, sym, ap, ap₂, arith, ◌∙◌}
use Rattle.std.specs.List.{AllByRecursion}
use Rattle.std.proofs.lemmas.List.{append_assoc, append-nil, length-append}
use Rattle.std.proofs.lemmas.List.Sums.{sum_by-cons}
use Rattle.il_core.specs.declared.instr.Block.{Block}
use Rattle.il_core.specs.declared.instr.Instr.{Instr}
use Rattle.il_core.specs.declared.instr.Instr.TheVariants.{Const, Move, Conv, Bin, Get, Set, GetX, SetX, GetA, SetA, Clear, Turn, Call, GetChar, PutChar}
use Rattle.il_core.specs.Operands.{callee_of}
use Rattle.il_core.specs.Program.{routine_at}
use Rattle.il_core.specs.Routine.{RoutineParts}
use Rattle.il_core.specs.Size.{block_size, blocks_size}
use Rattle.il_core.specs.declared.shape.ShapeRow.{ShapeRow}
use Rattle.il_laws.specs.Inline.{SiteBody, inlined}
use Rattle.il_laws.specs.Known.{KnownSite, known_sites}
use Rattle.il_laws.specs.Sites.{callees, callees_in, listed}
use Rattle.il_laws.specs.Splice.{splice}
use Rattle.plan_laws.specs.Inlining.{bodies, body_for, inlined_with}
use Rattle.plan_laws.specs.Numbers.{Choice, InlineSite, falling, if_chosen, inline_sites, is_chosen}
use Rattle.plan_laws.proofs.Sites.{callees_known, known_callees}
use Rattle.plan_pools.specs.Accepting.{bodies_at, site_if, sites_from, sites_of, taken_in}
use Rattle.plan_pools.specs.Fitting.{AreFit}
use Rattle.plan_pools.specs.declared.sites.CalledSite.{CalledSite}

-- one body, or none
abbrev pub body_at : (ℕ → Option RoutineParts) → CalledSite → List SiteBody
body_at at x = body_for (λ q. q) x.site (at x.callee) []

-- the last site's body comes first
pub bodies_last : (at : ℕ → Option RoutineParts) (xs : List CalledSite) (x : CalledSite) → bodies_at at (xs ++ x ∷ []) ≡ body_at at x ++ bodies_at at xs
bodies_last at [] x = sym (append-nil (body_at at x))
bodies_last at (y ∷ ys) x =
    ap (λ (l : List SiteBody). l ++ body_at at y) (bodies_last at ys x) ∙ append_assoc (body_at at x) (bodies_at at ys) (body_at at y)

pub inlined_both : (r : RoutineParts) (xs ys : List SiteBody) → inlined r (xs ++ ys) ≡ inlined (inlined r xs) ys
inlined_both r [] ys = refl
inlined_both r (x ∷ xs) ys = inlined_both (splice r x.site x.body) xs ys

pub fit_both : (rows : List ShapeRow) (r : RoutineParts) (xs ys : List SiteBody) → AreFit rows r (xs ++ ys) → AreFit rows r xs × AreFit rows (inlined r xs) ys
fit_both rows r [] ys h = (tt, h)
fit_both rows r (x ∷ xs) ys h = let rest = fit_both rows (splice r x.site x.body) xs ys h.1 in ((h.0, rest.0), rest.1)

-- what stands at the callees decides
pub same_bodies : (at to : ℕ → Option RoutineParts) (xs : List CalledSite) → AllByRecursion (λ x. at x.callee ≡ to x.callee) xs
    → bodies_at at xs ≡ bodies_at to xs
same_bodies at to [] h = refl
same_bodies at to (x ∷ xs) h =
    ap₂ {A = List SiteBody} {B = List SiteBody} {C = List SiteBody} (λ a b. a ++ b) (same_bodies at to xs h.1)
    (ap (λ (o : Option RoutineParts). body_for (λ q. q) x.site o []) h.0)

body_front : (k : ℕ) (o : Option RoutineParts) (ys : List SiteBody) → body_for (λ q. q) k o [] ++ ys ≡ body_for (λ q. q) k o ys
body_front k None ys = refl
body_front k (Some q) ys = refl

module _ (rs : List RoutineParts) (cs : List Choice) (pid : ℕ) where
  -- they are those of the laws
  falling_bodies : (k : ℕ) (xs : List KnownSite) (lower : List InlineSite)
      → bodies (λ q. q) rs (falling cs pid k xs lower)
      ≡ bodies_at (routine_at rs) (sites_from (is_chosen cs pid) k (callees_known xs)) ++ bodies (λ q. q) rs lower
  falling_bodies k [] lower = refl
  falling_bodies k (x ∷ xs) lower =
      falling_bodies (suc k) xs (if_chosen (is_chosen cs pid k) k x lower) ∙ by (is_chosen cs pid k)
    where
      by : (b : Bool) → bodies_at (routine_at rs) (sites_from (is_chosen cs pid) (suc k) (callees_known xs)) ++ bodies (λ q. q) rs (if_chosen b k x lower)
          ≡ bodies_at (routine_at rs)
          (site_if b k x.callee ++ sites_from (is_chosen cs pid) (suc k) (callees_known xs))
          ++ bodies (λ q. q) rs lower
      by true =
          let later = bodies_at (routine_at rs) (sites_from (is_chosen cs pid) (suc k) (callees_known xs)) in
          ap (λ (l : List SiteBody). later ++ l) (sym (body_front k (routine_at rs x.callee) (bodies (λ q. q) rs lower)))
          ∙ sym (append_assoc later (body_for (λ q. q) k (routine_at rs x.callee) []) (bodies (λ q. q) rs lower))
      by false = refl

pub bodies_same : (rs : List RoutineParts) (cs : List Choice) (r : RoutineParts)
    → bodies (λ q. q) rs (inline_sites cs r.pid (known_sites r)) ≡ bodies_at (routine_at rs) (sites_of (is_chosen cs) r)
bodies_same rs cs r =
    falling_bodies rs cs r.pid 0 (known_sites r) []
    ∙ append-nil (bodies_at (routine_at rs) (sites_from (is_chosen cs r.pid) 0 (callees_known (known_sites r))))
    ∙ ap (λ (ps : List ℕ). bodies_at (routine_at rs) (sites_from (is_chosen cs r.pid) 0 ps)) (known_callees r)

pub taken_same : (rs : List RoutineParts) (cs : List Choice) (r : RoutineParts) → inlined_with (λ q. q) rs cs r ≡ taken_in (is_chosen cs) (routine_at rs) r
taken_same rs cs r = ap (λ (l : List SiteBody). inlined r l) (bodies_same rs cs r)

-- a routine has no more calls than its size
few_listed : (i : Instr) → length (listed (callee_of i)) ≤ 1
few_listed (Call dest p count args) = omega arith
few_listed (Const d v) = omega arith
few_listed (Move d s) = omega arith
few_listed (Conv d t s) = omega arith
few_listed (Bin o d a b) = omega arith
few_listed (Get d g) = omega arith
few_listed (Set g s) = omega arith
few_listed (GetX d g i) = omega arith
few_listed (SetX g i s) = omega arith
few_listed (GetA d a i) = omega arith
few_listed (SetA a i s) = omega arith
few_listed (Clear r c a m) = omega arith
few_listed Turn = omega arith
few_listed (GetChar d) = omega arith
few_listed (PutChar d s) = omega arith

few_in : (is : List Instr) → length (callees_in is) ≤ length is
few_in [] = omega arith
few_in (i ∷ is) =
    let one = few_listed i in let rest = few_in is in let both = length-append (listed (callee_of i)) (callees_in is) in omega arith

pub few_callees : (bs : List Block) → length (callees bs) ≤ blocks_size bs
few_callees [] = omega arith
few_callees (b ∷ bs) =
    let one = few_in b.instrs in let rest = few_callees bs in let both = length-append (callees_in b.instrs) (callees bs) in
    let sum : blocks_size (b ∷ bs) ≡ block_size b + blocks_size bs = sum_by-cons block_size b bs in
    omega arith
