-- The ranks of sites and of groups are orders, and elements of one rank are equal: so each ranking is the only one.
use Rattle.std.proofs.Common.{◌≡◌, ℕ, ◌≤◌, List, Bool, true, false, ap, sym, ◌∙◌, arith, ltb-true, ltb-false, le-ltb, slice_get}
use Rattle.std.specs.Prelude.{nat_lt, Some}
use Rattle.std.specs.List.{AllByRecursion}
use Rattle.std.specs.List.Sorted.{IsPermutation, IsSortedBy}
use Rattle.std.specs.Cmp.{IsStrictWeakOrder}
use Rattle.std.proofs.lemmas.List.Sorted.{All-permutation}
use Rattle.std.proofs.lemmas.List.Elements.{All-from_recursion, recursion_from_All}
use Rattle.il_core.specs.declared.program.IlProgram.{IlProgram}
use Rattle.il_core.specs.Program.{routine_at}
use Rattle.il_core.specs.Routine.{RoutineParts}
use Rattle.il_core.specs.Valid.{IsProgram}
use Rattle.il_laws.specs.Known.{known_sites}
use Rattle.plan_laws.specs.Orders.{less_or}
use Rattle.plan_laws.specs.Summary.{summaries, CallSite, call_sites}
use Rattle.plan_laws.specs.Choosing.{ranks_before, ranked_sites}
use Rattle.plan_laws.proofs.Chosen.{IsOf, sites_of_callers}
use Rattle.plan_laws.proofs.GroupsFit.{sorted_all}
use Rattle.plan_laws.proofs.OrderLaws.{less_one_way, less_chain, less_tie, sorted_only}

pub all_permuted : {X : Type 0} (P : X → Type 0) (xs ys : List X) → IsPermutation xs ys → AllByRecursion P xs → AllByRecursion P ys
all_permuted P xs ys perm h = recursion_from_All P ys (All-permutation P xs ys perm (All-from_recursion P xs h))

number_one_way : (m n : ℕ) → nat_lt m n ≡ true → nat_lt n m ≡ false
number_one_way m n e = let lt = ltb-true m n e in le-ltb n m (omega arith)

number_chain : (l m n : ℕ) → nat_lt l m ≡ false → nat_lt m n ≡ false → nat_lt l n ≡ false
number_chain l m n e g =
    let a : m ≤ l = ltb-false l m e in
    let b : n ≤ m = ltb-false m n g in
    le-ltb l n (omega arith)

-- by caller and number
abbrev by_place : CallSite → CallSite → Bool
by_place a b = less_or a.caller b.caller (nat_lt a.number b.number)

place_one_way : (a b : CallSite) → by_place a b ≡ true → by_place b a ≡ false
place_one_way a b =
    less_one_way a.caller b.caller (nat_lt a.number b.number) (nat_lt b.number a.number) (number_one_way a.number b.number)

place_chain : (a b c : CallSite) → by_place a b ≡ false → by_place b c ≡ false → by_place a c ≡ false
place_chain a b c =
    less_chain a.caller b.caller c.caller (nat_lt a.number b.number) (nat_lt b.number c.number) (nat_lt a.number c.number)
    (number_chain a.number b.number c.number)

ranks_order : IsStrictWeakOrder ranks_before
ranks_order =
    record {
      one_way = λ a b. less_one_way b.site.count a.site.count (by_place a b) (by_place b a) (place_one_way a b);
      chain = λ a b c e g. less_chain c.site.count b.site.count a.site.count (by_place b c) (by_place a b) (by_place a c)
          (λ x y. place_chain a b c y x) g e;
    }

-- sites of one caller and one number are the same
pub same_site : (rs : List RoutineParts) (x y : CallSite) → IsOf rs x → IsOf rs y → x.caller ≡ y.caller → x.number ≡ y.number → x ≡ y
same_site rs x y hx hy caller number =
    let found : Some hx.caller ≡ Some hy.caller = sym hx.is ∙ ap (λ (n : ℕ). routine_at rs n) caller ∙ hy.is in
    let routine : hx.caller ≡ hy.caller = cc found in
    let site : Some x.site ≡ Some y.site =
    sym hx.at ∙ ap (λ (n : ℕ). slice_get (known_sites hx.caller) n) number
    ∙ ap (λ (r : RoutineParts). slice_get (known_sites r) y.number) routine ∙ hy.at in
    let same : x.site ≡ y.site = cc site in
    λ i. record { caller = caller i; number = number i; site = same i }

site_ties : (rs : List RoutineParts) (x y : CallSite) → IsOf rs x → IsOf rs y → ranks_before x y ≡ false → ranks_before y x ≡ false → x ≡ y
site_ties rs x y hx hy e g =
    let count = less_tie y.site.count x.site.count (by_place x y) (by_place y x) e g in
    let place = less_tie x.caller y.caller (nat_lt x.number y.number) (nat_lt y.number x.number) count.one count.other in
    let a : y.number ≤ x.number = ltb-false x.number y.number place.one in
    let b : x.number ≤ y.number = ltb-false y.number x.number place.other in
    same_site rs x y hx hy place.same (omega arith)

pub ranking_only : (p : IlProgram) → IsProgram p → (xs : List CallSite) → IsPermutation (call_sites (summaries p)) xs → IsSortedBy ranks_before xs
    → xs ≡ ranked_sites (summaries p)
ranking_only p valid xs perm rises =
    let zs = call_sites (summaries p) in
    let all = sites_of_callers p valid in
    sorted_only ranks_before ranks_order (IsOf p.routines) (site_ties p.routines) zs xs all (all_permuted (IsOf p.routines) zs xs perm all)
    (sorted_all (IsOf p.routines) ranks_before zs all) perm rises
