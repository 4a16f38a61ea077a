-- Summaries by rising PID: where one is, put in and taken away.
use Rattle.std.proofs.Common.{◌≡◌, ℕ, zero, suc, ◌<◌, ◌≤◌, List, [], ◌∷◌, ◌++◌, get_or, set, take, drop, length, map, Bool, true, false, refl, ap}
use Rattle.std.proofs.Common.{subst, sym, ◌∙◌, arith, eq-eqb, eqb-true, ne_eqb}
use Rattle.std.specs.Prelude.{nat_eq, nat_lt, if◌then◌else◌}
use Rattle.std.specs.List.{AllByRecursion}
use Rattle.std.proofs.lemmas.Bool.Decides.{nat_tests}
use Rattle.il_core.specs.Shapes.{IsRisingFrom, IsRising}
use Rattle.call_graph.specs.declared.summary.Summary.{Summary}
use Rattle.call_graph.specs.Summaries.{summary_of, Seen, put, without, has_at}

abbrev pid_of : Summary → ℕ
pid_of s = s.pid

-- ---- the search

all_above : (b p : ℕ) (xs : List Summary) → p ≤ b → IsRisingFrom pid_of b xs → AllByRecursion (λ (s : Summary). p ≤ s.pid) xs
all_above b p [] le h = tt
all_above b p (x ∷ xs) le h = let lt = h.0 in (omega arith, all_above x.pid p xs (omega arith) h.1)

pub rising_above : (xs : List Summary) (m p : ℕ) (d : Summary) → IsRising pid_of xs → p ≤ (get_or xs m d).pid
    → AllByRecursion (λ (s : Summary). p ≤ s.pid) (drop m xs)
rising_above [] zero p d h le = tt
rising_above [] (suc m) p d h le = tt
rising_above (x ∷ xs) zero p d h le = (le, all_above x.pid p xs le h)
rising_above (x ∷ []) (suc m) p d h le = rising_above [] m p d tt le
rising_above (x ∷ (y ∷ xs)) (suc m) p d h le = rising_above (y ∷ xs) m p d h.1 le

from_below : (b m p : ℕ) (xs : List Summary) (d : Summary) → IsRisingFrom pid_of b xs → m < length xs → (get_or xs m d).pid < p → b < p
from_below b m p [] d h lt less = absurd (omega arith)
from_below b zero p (x ∷ xs) d h lt less = let first = h.0 in omega arith
from_below b (suc m) p (x ∷ xs) d h lt less = let first = h.0 in let rest = from_below x.pid m p xs d h.1 (omega arith) less in omega arith

pub rising_below : (xs : List Summary) (m p : ℕ) (d : Summary) → IsRising pid_of xs → m < length xs → (get_or xs m d).pid < p
    → AllByRecursion (λ (s : Summary). s.pid < p) (take (suc m) xs)
rising_below [] m p d h lt less = absurd (omega arith)
rising_below (x ∷ xs) zero p d h lt less = (less, tt)
rising_below (x ∷ []) (suc m) p d h lt less = absurd (omega arith)
rising_below (x ∷ (y ∷ xs)) (suc m) p d h lt less =
    (from_below x.pid m p (y ∷ xs) d h (omega arith) less, rising_below (y ∷ xs) m p d h.1 (omega arith) less)

-- ---- put and taken away, where the place is found

abbrev Below : ℕ → List Summary → Type 0
Below p xs = AllByRecursion (λ (s : Summary). s.pid < p) xs

abbrev Above : ℕ → List Summary → Type 0
Above p xs = AllByRecursion (λ (s : Summary). p ≤ s.pid) xs

passed : (s x : Seen) (xs ys : List Seen) → x.pid < s.pid → xs ≡ put s ys → x ∷ xs ≡ put s (x ∷ ys)
passed s x xs ys lt e =
    let one : nat_lt s.pid x.pid ≡ false = grind (arith, nat_tests) in
    let two : nat_eq s.pid x.pid ≡ false = ne_eqb s.pid x.pid (λ same. absurd (omega arith)) in
    sym (ap (λ (k : Bool). if k then s ∷ x ∷ ys else (if nat_eq s.pid x.pid then s ∷ ys else x ∷ put s ys)) one
    ∙ ap (λ (k : Bool). if k then s ∷ ys else x ∷ put s ys) two ∙ ap (λ (zs : List Seen). x ∷ zs) (sym e))

pub put_there : (xs : List Summary) (at : ℕ) (s : Summary) → Below s.pid (take at xs) → has_at xs at s.pid ≡ true
    → map summary_of (set xs at s) ≡ put (summary_of s) (map summary_of xs)
put_there [] at s below e = absurd cc
put_there (x ∷ xs) zero s below e =
    let same : x.pid ≡ s.pid = eqb-true x.pid s.pid e in
    let one : nat_lt s.pid x.pid ≡ false = grind (arith, nat_tests) in
    let ys : List Seen = map summary_of xs in
    let v : Seen = summary_of s in
    sym (ap (λ (k : Bool). if k then v ∷ summary_of x ∷ ys else (if nat_eq s.pid x.pid then v ∷ ys else summary_of x ∷ put v ys)) one
    ∙ ap (λ (k : Bool). if k then v ∷ ys else summary_of x ∷ put v ys) (eq-eqb s.pid x.pid (sym same)))
put_there (x ∷ xs) (suc at) s below e =
    passed (summary_of s) (summary_of x) (map summary_of (set xs at s)) (map summary_of xs) below.0 (put_there xs at s below.1 e)

pub put_new : (xs : List Summary) (at : ℕ) (s : Summary) → Below s.pid (take at xs) → Above s.pid (drop at xs) → at ≤ length xs → has_at xs at s.pid ≡ false
    → map summary_of (take at xs ++ s ∷ drop at xs) ≡ put (summary_of s) (map summary_of xs)
put_new [] zero s below above le e = refl
put_new [] (suc at) s below above le e = absurd (omega arith)
put_new (x ∷ xs) zero s below above le e =
    let ge = above.0 in
    let ne : s.pid ≡ x.pid → ⊥ = λ same. (let yes_same : nat_eq x.pid s.pid ≡ true = eq-eqb x.pid s.pid (sym same) in absurd cc) in
    let one : nat_lt s.pid x.pid ≡ true = grind (arith, nat_tests) in
    let ys : List Seen = map summary_of xs in
    let v : Seen = summary_of s in
    sym (ap (λ (k : Bool). if k then v ∷ summary_of x ∷ ys else (if nat_eq s.pid x.pid then v ∷ ys else summary_of x ∷ put v ys)) one)
put_new (x ∷ xs) (suc at) s below above le e =
    passed (summary_of s) (summary_of x) (map summary_of (take at xs ++ s ∷ drop at xs)) (map summary_of xs) below.0
    (put_new xs at s below.1 above (omega arith) e)

stay : (pid : ℕ) (x : Seen) (xs ys : List Seen) → x.pid < pid → xs ≡ without pid ys → x ∷ xs ≡ without pid (x ∷ ys)
stay pid x xs ys lt e =
    let ne : nat_eq x.pid pid ≡ false = ne_eqb x.pid pid (λ same. absurd (omega arith)) in
    sym (ap (λ (k : Bool). if k then ys else x ∷ without pid ys) ne ∙ ap (λ (zs : List Seen). x ∷ zs) (sym e))

pub gone_there : (xs : List Summary) (at pid : ℕ) → Below pid (take at xs) → has_at xs at pid ≡ true
    → map summary_of (take at xs ++ drop (suc at) xs) ≡ without pid (map summary_of xs)
gone_there [] at pid below e = absurd cc
gone_there (x ∷ xs) zero pid below e = sym (ap (λ (k : Bool). if k then map summary_of xs else summary_of x ∷ without pid (map summary_of xs)) e)
gone_there (x ∷ xs) (suc at) pid below e =
    stay pid (summary_of x) (map summary_of (take at xs ++ drop (suc at) xs)) (map summary_of xs) below.0 (gone_there xs at pid below.1 e)

none_above : (b pid : ℕ) (xs : List Summary) → pid ≤ b → IsRisingFrom pid_of b xs → map summary_of xs ≡ without pid (map summary_of xs)
none_above b pid [] le h = refl
none_above b pid (x ∷ xs) le h =
    let lt = h.0 in
    let ne : nat_eq x.pid pid ≡ false = ne_eqb x.pid pid (λ same. absurd (omega arith)) in
    sym (ap (λ (k : Bool). if k then map summary_of xs else summary_of x ∷ without pid (map summary_of xs)) ne
    ∙ ap (λ (zs : List Seen). summary_of x ∷ zs) (sym (none_above x.pid pid xs (omega arith) h.1)))

rest_rising : (x : Summary) (xs : List Summary) → IsRising pid_of (x ∷ xs) → IsRising pid_of xs
rest_rising x [] h = tt
rest_rising x (y ∷ xs) h = h.1

pub gone_nowhere : (xs : List Summary) (at pid : ℕ) → IsRising pid_of xs → Below pid (take at xs) → Above pid (drop at xs) → at ≤ length xs
    → has_at xs at pid ≡ false
    → map summary_of xs ≡ without pid (map summary_of xs)
gone_nowhere [] at pid h below above le e = refl
gone_nowhere (x ∷ xs) zero pid h below above le e =
    let ge = above.0 in
    sym (ap (λ (k : Bool). if k then map summary_of xs else summary_of x ∷ without pid (map summary_of xs)) e
    ∙ ap (λ (zs : List Seen). summary_of x ∷ zs) (sym (none_above x.pid pid xs ge h)))
gone_nowhere (x ∷ xs) (suc at) pid h below above le e =
    stay pid (summary_of x) (map summary_of xs) (map summary_of xs) below.0 (gone_nowhere xs at pid (rest_rising x xs h) below.1 above (omega arith) e)

-- ---- still rising

from_less : (a b : ℕ) (xs : List Summary) → a ≤ b → IsRisingFrom pid_of b xs → IsRisingFrom pid_of a xs
from_less a b [] le h = tt
from_less a b (x ∷ xs) le h = let lt = h.0 in (omega arith, h.1)

from_set : (b : ℕ) (xs : List Summary) (at : ℕ) (s : Summary) → IsRisingFrom pid_of b xs → has_at xs at s.pid ≡ true → IsRisingFrom pid_of b (set xs at s)
from_set b [] at s h e = absurd cc
from_set b (x ∷ xs) zero s h e =
    let same : x.pid ≡ s.pid = eqb-true x.pid s.pid e in
    subst (λ (n : ℕ). (b < n) × IsRisingFrom pid_of n xs) same h
from_set b (x ∷ xs) (suc at) s h e = (h.0, from_set x.pid xs at s h.1 e)

pub rising_set : (xs : List Summary) (at : ℕ) (s : Summary) → IsRising pid_of xs → has_at xs at s.pid ≡ true → IsRising pid_of (set xs at s)
rising_set [] at s h e = absurd cc
rising_set (x ∷ xs) zero s h e = subst (λ (n : ℕ). IsRisingFrom pid_of n xs) (eqb-true x.pid s.pid e) h
rising_set (x ∷ xs) (suc at) s h e = from_set x.pid xs at s h e

from_put : (b : ℕ) (xs : List Summary) (at : ℕ) (s : Summary) → b < s.pid → IsRisingFrom pid_of b xs → Below s.pid (take at xs) → Above s.pid (drop at xs)
    → has_at xs at s.pid ≡ false → IsRisingFrom pid_of b (take at xs ++ s ∷ drop at xs)
from_put b [] zero s lt h below above e = (lt, tt)
from_put b [] (suc at) s lt h below above e = (lt, tt)
from_put b (x ∷ xs) zero s lt h below above e =
    let ge = above.0 in
    let ne : s.pid ≡ x.pid → ⊥ = λ same. (let yes_same : nat_eq x.pid s.pid ≡ true = eq-eqb x.pid s.pid (sym same) in absurd cc) in
    (lt, (omega arith, h.1))
from_put b (x ∷ xs) (suc at) s lt h below above e = (h.0, from_put x.pid xs at s below.0 h.1 below.1 above e)

pub rising_put : (xs : List Summary) (at : ℕ) (s : Summary) → IsRising pid_of xs → Below s.pid (take at xs) → Above s.pid (drop at xs)
    → has_at xs at s.pid ≡ false → IsRising pid_of (take at xs ++ s ∷ drop at xs)
rising_put [] zero s h below above e = tt
rising_put [] (suc at) s h below above e = tt
rising_put (x ∷ xs) zero s h below above e =
    let ge = above.0 in
    let ne : s.pid ≡ x.pid → ⊥ = λ same. (let yes_same : nat_eq x.pid s.pid ≡ true = eq-eqb x.pid s.pid (sym same) in absurd cc) in
    (omega arith, h)
rising_put (x ∷ xs) (suc at) s h below above e = from_put x.pid xs at s below.0 h below.1 above e

from_gone : (b : ℕ) (xs : List Summary) (at : ℕ) → IsRisingFrom pid_of b xs → IsRisingFrom pid_of b (take at xs ++ drop (suc at) xs)
from_gone b [] zero h = tt
from_gone b [] (suc at) h = tt
from_gone b (x ∷ xs) zero h = let lt = h.0 in from_less b x.pid xs (omega arith) h.1
from_gone b (x ∷ xs) (suc at) h = (h.0, from_gone x.pid xs at h.1)

pub rising_gone : (xs : List Summary) (at : ℕ) → IsRising pid_of xs → IsRising pid_of (take at xs ++ drop (suc at) xs)
rising_gone [] zero h = tt
rising_gone [] (suc at) h = tt
rising_gone (x ∷ xs) zero h = rest_rising x xs h
rising_gone (x ∷ xs) (suc at) h = from_gone x.pid xs at h

-- ---- what the calls take from the code

pub has_is : (xs : List Summary) (at pid : ℕ) (d : Summary) → at < length xs → nat_eq (get_or xs at d).pid pid ≡ has_at xs at pid
has_is [] at pid d lt = absurd (omega arith)
has_is (x ∷ xs) zero pid d lt = refl
has_is (x ∷ xs) (suc at) pid d lt = has_is xs at pid d (omega arith)

pub has_past : (xs : List Summary) (at pid : ℕ) → length xs ≤ at → has_at xs at pid ≡ false
has_past [] at pid le = refl
has_past (x ∷ xs) zero pid le = absurd (omega arith)
has_past (x ∷ xs) (suc at) pid le = has_past xs at pid (omega arith)

pub has_within : (xs : List Summary) (at pid : ℕ) → has_at xs at pid ≡ true → at < length xs
has_within [] at pid e = absurd cc
has_within (x ∷ xs) zero pid e = omega arith
has_within (x ∷ xs) (suc at) pid e = let lt = has_within xs at pid e in omega arith

-- the place of a PID among summaries
pub record Placed (xs : List Summary) (at pid : ℕ) : Type 0 where
  pub within : at ≤ length xs
  pub below : AllByRecursion (λ (s : Summary). s.pid < pid) (take at xs)
  pub above : AllByRecursion (λ (s : Summary). pid ≤ s.pid) (drop at xs)

pub placed_as : (xs ys : List Summary) (at pid : ℕ) → ys ≡ xs → at ≤ length ys → AllByRecursion (λ (s : Summary). s.pid < pid) (take at ys)
    → AllByRecursion (λ (s : Summary). pid ≤ s.pid) (drop at ys) → Placed xs at pid
placed_as xs ys at pid same within below above =
    subst (λ (zs : List Summary). Placed zs at pid) same (record { within = within; below = below; above = above })

pub has_as : (xs ys : List Summary) (at pid : ℕ) (k m : Bool) → ys ≡ xs → k ≡ has_at ys at pid → k ≡ m → has_at xs at pid ≡ m
has_as xs ys at pid k m same is e = ap (λ (zs : List Summary). has_at zs at pid) (sym same) ∙ sym is ∙ e

-- a summary in its place, a new one, and one taken away
pub replaced : (xs : List Summary) (at pid : ℕ) (s : Summary) → s.pid ≡ pid → Placed xs at pid → has_at xs at pid ≡ true
    → map summary_of (set xs at s) ≡ put (summary_of s) (map summary_of xs)
replaced xs at pid s is p e =
    put_there xs at s (subst (λ (n : ℕ). Below n (take at xs)) (sym is) p.below) (ap (has_at xs at) is ∙ e)

pub replaced_rises : (xs : List Summary) (at pid : ℕ) (s : Summary) → s.pid ≡ pid → IsRising pid_of xs → has_at xs at pid ≡ true
    → IsRising pid_of (set xs at s)
replaced_rises xs at pid s is h e = rising_set xs at s h (ap (has_at xs at) is ∙ e)

pub added : (xs : List Summary) (at pid : ℕ) (s : Summary) → s.pid ≡ pid → Placed xs at pid → has_at xs at pid ≡ false
    → map summary_of (take at xs ++ s ∷ drop at xs) ≡ put (summary_of s) (map summary_of xs)
added xs at pid s is p e =
    put_new xs at s (subst (λ (n : ℕ). Below n (take at xs)) (sym is) p.below) (subst (λ (n : ℕ). Above n (drop at xs)) (sym is) p.above) p.within
    (ap (has_at xs at) is ∙ e)

pub added_rises : (xs : List Summary) (at pid : ℕ) (s : Summary) → s.pid ≡ pid → IsRising pid_of xs → Placed xs at pid → has_at xs at pid ≡ false
    → IsRising pid_of (take at xs ++ s ∷ drop at xs)
added_rises xs at pid s is h p e =
    rising_put xs at s h (subst (λ (n : ℕ). Below n (take at xs)) (sym is) p.below) (subst (λ (n : ℕ). Above n (drop at xs)) (sym is) p.above)
    (ap (has_at xs at) is ∙ e)
