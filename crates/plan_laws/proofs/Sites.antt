-- A summary's sites are the calls of its routine; the accepted ones among them fall, and each calls its callee.
use Rattle.std.proofs.Common.{◌≡◌, ℕ, suc, ◌+◌, ◌<◌, List, [], ◌∷◌, ◌++◌, map, option_map, Bool, true, false, refl, ap, ap₂, sym, ◌∙◌, arith, slice_get}
use Rattle.std.specs.Prelude.{Option, Some, ⊤}
use Rattle.std.specs.List.{AllByRecursion}
use Rattle.std.proofs.lemmas.Option.{slice_get-map}
use Rattle.il_core.specs.declared.instr.Block.{Block}
use Rattle.il_core.specs.declared.instr.Instr.{Instr}
use Rattle.il_core.specs.declared.instr.Instr.TheVariants.{Const, Move, Conv, Bin, Get, Set, GetX, SetX, GetA, SetA, Clear, Turn, Call, GetChar, PutChar}
use Rattle.il_core.specs.Operands.{callee_of}
use Rattle.il_core.specs.Routine.{RoutineParts}
use Rattle.il_laws.specs.Facts.{Facts, after, facts_at}
use Rattle.il_laws.specs.Known.{KnownSite, site_of, known_in, known_from, known_sites}
use Rattle.il_laws.specs.Sites.{listed, callees_in, callees}
use Rattle.plan_laws.specs.Numbers.{Choice, is_chosen, InlineSite, if_chosen, falling, inline_sites}

abbrev pub callees_known : List KnownSite → List ℕ
callees_known ss = map (λ s. s.callee) ss

known_append : (xs ys : List KnownSite) → callees_known (xs ++ ys) ≡ callees_known xs ++ callees_known ys
known_append [] ys = refl
known_append (x ∷ xs) ys = ap (λ (ps : List ℕ). x.callee ∷ ps) (known_append xs ys)

site_callee : (fs : Facts) (i : Instr) → callees_known (site_of fs i) ≡ listed (callee_of i)
site_callee fs (Call dest p count args) = refl
site_callee fs (Const d v) = refl
site_callee fs (Move d s) = refl
site_callee fs (Conv d t s) = refl
site_callee fs (Bin o d a b) = refl
site_callee fs (Get d g) = refl
site_callee fs (Set g s) = refl
site_callee fs (GetX d g i) = refl
site_callee fs (SetX g i s) = refl
site_callee fs (GetA d a i) = refl
site_callee fs (SetA a i s) = refl
site_callee fs (Clear r c a m) = refl
site_callee fs Turn = refl
site_callee fs (GetChar d) = refl
site_callee fs (PutChar d s) = refl

in_callees : (fs : Facts) (is : List Instr) → callees_known (known_in fs is) ≡ callees_in is
in_callees fs [] = refl
in_callees fs (i ∷ is) =
    known_append (site_of fs i) (known_in (after i fs) is)
    ∙ ap₂ {A = List ℕ} {B = List ℕ} {C = List ℕ} (λ xs ys. xs ++ ys) (site_callee fs i) (in_callees (after i fs) is)

from_callees : (r : RoutineParts) (b : ℕ) (xs : List Block) → callees_known (known_from r b xs) ≡ callees xs
from_callees r b [] = refl
from_callees r b (x ∷ xs) =
    known_append (known_in (facts_at r b) x.instrs) (known_from r (suc b) xs)
    ∙ ap₂ {A = List ℕ} {B = List ℕ} {C = List ℕ} (λ xs ys. xs ++ ys) (in_callees (facts_at r b) x.instrs) (from_callees r (suc b) xs)

-- the callees of a summary's sites are those of the routine
pub known_callees : (r : RoutineParts) → callees_known (known_sites r) ≡ callees r.blocks
known_callees r = from_callees r 0 r.blocks

pub known_calls : (r : RoutineParts) (k : ℕ) (x : KnownSite) → slice_get (known_sites r) k ≡ Some x → slice_get (callees r.blocks) k ≡ Some x.callee
known_calls r k x e =
    ap (λ (ps : List ℕ). slice_get ps k) (sym (known_callees r)) ∙ slice_get-map (λ (s : KnownSite). s.callee) (known_sites r) k
    ∙ ap (λ (o : Option KnownSite). option_map (λ s. s.callee) o) e

-- accepted sites: each before the one that comes first, and calling its callee
abbrev pub AreFalling : List InlineSite → Type 0
AreFalling [] = ⊤
AreFalling (x ∷ xs) = AllByRecursion (λ y. y.site < x.site) xs × AreFalling xs

abbrev pub CallsIt : List Block → InlineSite → Type 0
CallsIt bs y = slice_get (callees bs) y.site ≡ Some y.callee

pub record IsWalk (bs : List Block) (k : ℕ) (lower : List InlineSite) : Type 0 where
  pub below : AllByRecursion (λ y. y.site < k) lower
  pub fall : AreFalling lower
  pub calls : AllByRecursion (CallsIt bs) lower

below_more : (k : ℕ) (xs : List InlineSite) → AllByRecursion (λ y. y.site < k) xs → AllByRecursion (λ y. y.site < suc k) xs
below_more k [] h = tt
below_more k (x ∷ xs) h = (let lt = h.0 in omega arith, below_more k xs h.1)

walk_one : (bs : List Block) (k : ℕ) (x : KnownSite) (b : Bool) (lower : List InlineSite) → slice_get (callees bs) k ≡ Some x.callee
    → IsWalk bs k lower → IsWalk bs (suc k) (if_chosen b k x lower)
walk_one bs k x true lower at w =
    record { below = (omega arith, below_more k lower w.below); fall = (w.below, w.fall); calls = (at, w.calls) }
walk_one bs k x false lower at w = record { below = below_more k lower w.below; fall = w.fall; calls = w.calls }

-- the sites xs stand from number k on
walk_all : (cs : List Choice) (pid : ℕ) (bs : List Block) (k : ℕ) (xs : List KnownSite) (lower : List InlineSite)
    → ((i : ℕ) (x : KnownSite) → slice_get xs i ≡ Some x → slice_get (callees bs) (k + i) ≡ Some x.callee) → IsWalk bs k lower
    → AreFalling (falling cs pid k xs lower) × AllByRecursion (CallsIt bs) (falling cs pid k xs lower)
walk_all cs pid bs k [] lower h w = (w.fall, w.calls)
walk_all cs pid bs k (x ∷ xs) lower h w =
    let here : k ≡ k + 0 = omega arith in
    let at = ap (λ (n : ℕ). slice_get (callees bs) n) here ∙ h 0 x refl in
    let later = λ (i : ℕ) (y : KnownSite) (e : slice_get xs i ≡ Some y).
    (let there : suc k + i ≡ k + suc i = omega arith in ap (λ (n : ℕ). slice_get (callees bs) n) there ∙ h (suc i) y e) in
    walk_all cs pid bs (suc k) xs (if_chosen (is_chosen cs pid k) k x lower) later (walk_one bs k x (is_chosen cs pid k) lower at w)

pub sites_fall : (cs : List Choice) (r : RoutineParts)
    → AreFalling (inline_sites cs r.pid (known_sites r)) × AllByRecursion (CallsIt r.blocks) (inline_sites cs r.pid (known_sites r))
sites_fall cs r =
    let here = λ (i : ℕ) (x : KnownSite) (e : slice_get (known_sites r) i ≡ Some x).
    (let same : 0 + i ≡ i = omega arith in ap (λ (n : ℕ). slice_get (callees r.blocks) n) same ∙ known_calls r i x e) in
    walk_all cs r.pid r.blocks 0 (known_sites r) [] here (record { below = tt; fall = tt; calls = tt })
