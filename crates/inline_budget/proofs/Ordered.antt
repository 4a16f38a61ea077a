-- All call sites by rank, without what is known of their arguments.
use Rattle.std.proofs.Common.{◌≡◌, ℕ, zero, suc, ◌+◌, ◌<◌, ◌≤◌, List, [], ◌∷◌, ◌++◌, map, Bool, true, false, refl, ap, ap₂, sym, subst, ◌∙◌, arith}
use Rattle.std.proofs.Common.{length, get_or, nat_lt, slice_get, eqb-true, ne_eqb, ltb-false}
use Rattle.std.specs.Prelude.{◌==◌, ◌&&◌, nat_eq, if◌then◌else◌, cond, Some, None}
use Rattle.std.specs.Cmp.{IsStrictWeakOrder, IsTotalOrder}
use Rattle.std.specs.List.{AllByRecursion}
use Rattle.std.specs.List.Sorted.{IsPermutation, IsSortedBy}
use Rattle.std.specs.Ordering.{is_lt, nat_cmp, ordering_then}
use Rattle.std.specs.declared.cmp.Ordering.{Ordering}
use Rattle.std.specs.declared.cmp.Ordering.TheVariants.{Less, Equal, Greater}
use Rattle.std.proofs.lemmas.Cmp.{back_total, nat_cmp_total, on_total, then_total}
use Rattle.std.proofs.lemmas.List.{get_or-map, length-map}
use Rattle.std.proofs.lemmas.List.Sorted.{IsPermutation-map, ranks_by}
use Rattle.il_core.proofs.Found.{found_all}
use Rattle.il_laws.specs.Edges.{one_if}
use Rattle.il_laws.specs.Known.{KnownSite}
use Rattle.il_laws.proofs.SpliceBlocks.{all_append}
use Rattle.plan_laws.specs.Choosing.{chosen_site, ranked_sites, ranks_before}
use Rattle.plan_laws.specs.Orders.{inserted, less_or, sorted}
use Rattle.plan_laws.specs.Summary.{CallSite, Summary, call_sites, numbered, summary_at}
use Rattle.plan_laws.proofs.GroupsFit.{sorted_all}
use Rattle.plan_laws.proofs.OrderLaws.{less_tie, sorted_only}
use Rattle.plan_laws.proofs.Ranking.{all_permuted}
use Rattle.inline_budget.specs.Linked.{AreApart, AreLinked, CallsKnown, HasSummary}
use Rattle.inline_budget.specs.Ranking.{bare, place_order, placed, rank_order}
use Rattle.inline_budget.specs.declared.ranking.PlacedSite.{PlacedSite}
use Rattle.inline_budget.proofs.Inlined.{IsSite}
use Rattle.inline_budget.proofs.Decided.{here_all}

-- ---- the order of the code is that of the laws

place_total : IsTotalOrder place_order
place_total = then_total (on_total (λ (s : PlacedSite). s.caller) nat_cmp_total) (on_total (λ (s : PlacedSite). s.number) nat_cmp_total)

rank_total : IsTotalOrder rank_order
rank_total = then_total (back_total (on_total (λ (s : PlacedSite). s.count) nat_cmp_total)) place_total

abbrev pub ranks_first : PlacedSite → PlacedSite → Bool
ranks_first a b = is_lt (rank_order a b)

pub rank_is_order : IsStrictWeakOrder ranks_first
rank_is_order = ranks_by rank_total (λ (s : PlacedSite). s)

less_if : (a b : Bool) (o : Ordering) → is_lt (ordering_then (cond a Less (cond b Equal Greater)) o) ≡ (if a then true else (if b then is_lt o else false))
less_if true b o = refl
less_if false true o = refl
less_if false false o = refl

less_is : (m n : ℕ) (o : Ordering) → is_lt (ordering_then (nat_cmp m n) o) ≡ less_or m n (is_lt o)
less_is m n o = less_if (nat_lt m n) (m == n) o

cmp_if : (a b : Bool) → is_lt (cond a Less (cond b Equal Greater)) ≡ a
cmp_if true b = refl
cmp_if false true = refl
cmp_if false false = refl

cmp_is : (m n : ℕ) → is_lt (nat_cmp m n) ≡ nat_lt m n
cmp_is m n = cmp_if (nat_lt m n) (m == n)

ranks_are : (a b : PlacedSite) → ranks_first a b ≡ ranks_before (placed a) (placed b)
ranks_are a b =
    less_is b.count a.count (place_order a b)
    ∙ ap (less_or b.count a.count) (less_is a.caller b.caller (nat_cmp a.number b.number) ∙ ap (less_or a.caller b.caller) (cmp_is a.number b.number))

abbrev back : CallSite → PlacedSite
back x = record { caller = x.caller; number = x.number; callee = x.site.callee; count = x.site.count }

ranks_order : IsStrictWeakOrder ranks_before
ranks_order =
    let order = ranks_by rank_total back in
    record {
      one_way = λ a b e. sym (ranks_are (back b) (back a)) ∙ order.one_way a b (ranks_are (back a) (back b) ∙ e);
      chain = λ a b c e g. sym (ranks_are (back a) (back c)) ∙ order.chain a b c (ranks_are (back a) (back b) ∙ e) (ranks_are (back b) (back c) ∙ g);
    }

in_order : (cs : List PlacedSite) → IsSortedBy ranks_first cs → IsSortedBy ranks_before (map placed cs)
in_order [] h k d le lt = absurd (omega arith)
in_order (c ∷ cs) h k d le lt =
    let size : length (map placed (c ∷ cs)) ≡ length (c ∷ cs) = length-map (c ∷ cs) placed in
    ap₂ {A = CallSite} {B = CallSite} {C = Bool} ranks_before (get_or-map placed (c ∷ cs) (k + 1) c d (omega arith))
    (get_or-map placed (c ∷ cs) k c d (omega arith))
    ∙ sym (ranks_are (get_or (c ∷ cs) (k + 1) c) (get_or (c ∷ cs) k c)) ∙ h k c le (omega arith)

-- ---- a site stands with its caller

pub record IsListed (ss : List Summary) (x : CallSite) : Type 0 where
  pub owner : Summary
  pub found : summary_at ss x.caller ≡ Some owner
  pub at : slice_get owner.sites x.number ≡ Some x.site

module _ (ss : List Summary) where
  numbered_listed : (s : Summary) → summary_at ss s.pid ≡ Some s → (k : ℕ) (xs : List KnownSite)
      → ((i : ℕ) (x : KnownSite) → slice_get xs i ≡ Some x → slice_get s.sites (k + i) ≡ Some x) → AllByRecursion (IsListed ss) (numbered s.pid k xs)
  numbered_listed s e k [] h = tt
  numbered_listed s e k (x ∷ xs) h =
      let here : k ≡ k + 0 = omega arith in
      let later = λ (i : ℕ) (y : KnownSite) (g : slice_get xs i ≡ Some y).
      (let there : suc k + i ≡ k + suc i = omega arith in ap (λ (n : ℕ). slice_get s.sites n) there ∙ h (suc i) y g) in
      (record { owner = s; found = e; at = ap (λ (n : ℕ). slice_get s.sites n) here ∙ h 0 x refl }, numbered_listed s e (suc k) xs later)

  sites_listed : (qs : List Summary) → AllByRecursion (λ s. summary_at ss s.pid ≡ Some s) qs → AllByRecursion (IsListed ss) (call_sites qs)
  sites_listed [] h = tt
  sites_listed (q ∷ qs) h =
      let all = λ (i : ℕ) (x : KnownSite) (e : slice_get q.sites i ≡ Some x).
      (let same : 0 + i ≡ i = omega arith in ap (λ (n : ℕ). slice_get q.sites n) same ∙ e) in
      all_append (IsListed ss) (numbered q.pid 0 q.sites) (call_sites qs) (numbered_listed q h.0 0 q.sites all) (sites_listed qs h.1)

  pub all_listed : AreApart ss → AllByRecursion (IsListed ss) (call_sites ss)
  all_listed apart = sites_listed ss (here_all ss apart)

  same_listed : (x y : CallSite) → IsListed ss x → IsListed ss y → x.caller ≡ y.caller → x.number ≡ y.number → x ≡ y
  same_listed x y hx hy caller number =
      let found : Some hx.owner ≡ Some hy.owner = sym hx.found ∙ ap (λ (n : ℕ). summary_at ss n) caller ∙ hy.found in
      let owner : hx.owner ≡ hy.owner = cc found in
      let site : Some x.site ≡ Some y.site =
      sym hx.at ∙ ap (λ (n : ℕ). slice_get hx.owner.sites n) number ∙ ap (λ (s : Summary). slice_get s.sites y.number) owner ∙ hy.at in
      let same : x.site ≡ y.site = cc site in
      λ i. record { caller = caller i; number = number i; site = same i }

  record IsBare (b : CallSite) : Type 0 where
    whole : CallSite
    listed : IsListed ss whole
    is : b ≡ bare whole

  bare_ties : (a b : CallSite) → IsBare a → IsBare b → ranks_before a b ≡ false → ranks_before b a ≡ false → a ≡ b
  bare_ties a b ha hb e g =
      let count = less_tie b.site.count a.site.count (less_or a.caller b.caller (nat_lt a.number b.number))
      (less_or b.caller a.caller (nat_lt b.number a.number)) e g in
      let place = less_tie a.caller b.caller (nat_lt a.number b.number) (nat_lt b.number a.number) count.one count.other in
      let le : b.number ≤ a.number = ltb-false a.number b.number place.one in
      let ge : a.number ≤ b.number = ltb-false b.number a.number place.other in
      let number : a.number ≡ b.number = omega arith in
      let caller_is : ha.whole.caller ≡ hb.whole.caller =
      sym (ap (λ (x : CallSite). x.caller) ha.is) ∙ place.same ∙ ap (λ (x : CallSite). x.caller) hb.is in
      let number_is : ha.whole.number ≡ hb.whole.number =
      sym (ap (λ (x : CallSite). x.number) ha.is) ∙ number ∙ ap (λ (x : CallSite). x.number) hb.is in
      ha.is ∙ ap bare (same_listed ha.whole hb.whole ha.listed hb.listed caller_is number_is) ∙ sym hb.is

  all_bare : (xs : List CallSite) → AllByRecursion (IsListed ss) xs → AllByRecursion IsBare (map bare xs)
  all_bare [] h = tt
  all_bare (x ∷ xs) h = (record { whole = x; listed = h.0; is = refl }, all_bare xs h.1)

-- ---- sites without what is known of their arguments have the same order

inserted_bare : (x : CallSite) (ys : List CallSite) → inserted ranks_before (bare x) (map bare ys) ≡ map bare (inserted ranks_before x ys)
inserted_bare x [] = refl
inserted_bare x (y ∷ ys) = step (ranks_before y x) (inserted_bare x ys)
  where
    step : (b : Bool) → inserted ranks_before (bare x) (map bare ys) ≡ map bare (inserted ranks_before x ys)
        → (if b then bare y ∷ inserted ranks_before (bare x) (map bare ys) else bare x ∷ bare y ∷ map bare ys)
        ≡ map bare (if b then y ∷ inserted ranks_before x ys else x ∷ y ∷ ys)
    step true e = ap (λ (zs : List CallSite). bare y ∷ zs) e
    step false e = refl

pub sorted_bare : (xs : List CallSite) → sorted ranks_before (map bare xs) ≡ map bare (sorted ranks_before xs)
sorted_bare [] = refl
sorted_bare (x ∷ xs) = ap (λ (ys : List CallSite). inserted ranks_before (bare x) ys) (sorted_bare xs) ∙ inserted_bare x (sorted ranks_before xs)

module _ (ss : List Summary) (apart : AreApart ss) (all ordered : List PlacedSite) (are : map placed all ≡ map bare (call_sites ss))
    (perm : IsPermutation all ordered) (order : IsSortedBy ranks_first ordered) where
  pub ranked_are : map placed ordered ≡ map bare (ranked_sites ss)
  ranked_are =
      let zs = map bare (call_sites ss) in
      let bares = all_bare ss (call_sites ss) (all_listed ss apart) in
      let permuted = subst (λ (ys : List CallSite). IsPermutation ys (map placed ordered)) are (IsPermutation-map placed all ordered perm) in
      sorted_only ranks_before ranks_order (IsBare ss) (bare_ties ss) zs (map placed ordered) bares
      (all_permuted (IsBare ss) zs (map placed ordered) permuted bares) (sorted_all (IsBare ss) ranks_before zs bares) permuted (in_order ordered order)
      ∙ sorted_bare (call_sites ss)

-- ---- ranked sites are sites of their callers, with known callees

all_get : (P : KnownSite → Type 0) (xs : List KnownSite) (k : ℕ) (x : KnownSite) → AllByRecursion P xs → slice_get xs k ≡ Some x → P x
all_get P [] k x h e = let bad : None ≡ Some x = e in absurd cc
all_get P (y ∷ ys) zero x h e = let there : Some y ≡ Some x = e in let same : y ≡ x = cc there in subst P same h.0
all_get P (y ∷ ys) (suc k) x h e = all_get P ys k x h.1 e

abbrev pub IsCallSite : List Summary → CallSite → Type 0
IsCallSite ss x = IsSite ss (chosen_site x)

module _ (ss : List Summary) (linked : AreLinked ss) where
  listed_site : (x : CallSite) → IsListed ss x → IsCallSite ss x
  listed_site x h =
      let calls = (found_all (λ q. q.pid) (CallsKnown ss) x.caller ss h.owner linked.calls h.found).0 in
      let callee = all_get (λ (y : KnownSite). HasSummary ss y.callee) h.owner.sites x.number x.site calls h.at in
      record {
        at = λ s e. (let there : Some h.owner ≡ Some s = sym h.found ∙ e in
            let same : h.owner ≡ s = cc there in
            record { site = x.site; at = ap (λ (q : Summary). slice_get q.sites x.number) (sym same) ∙ h.at; callee = refl });
        callee = callee.summary;
        found = callee.found;
        caller = h.owner;
        caller_found = h.found;
      }

  bare_sites : (xs : List CallSite) → AllByRecursion (IsListed ss) xs → AllByRecursion (IsCallSite ss) (map bare xs)
  bare_sites [] h = tt
  bare_sites (x ∷ xs) h = (listed_site x h.0, bare_sites xs h.1)

  pub ranked_good : AllByRecursion (IsCallSite ss) (map bare (ranked_sites ss))
  ranked_good = bare_sites (ranked_sites ss) (sorted_all (IsListed ss) ranks_before (call_sites ss) (all_listed ss linked.apart))

-- ---- each of them stands once

abbrev pub is_at : ℕ → ℕ → CallSite → Bool
is_at a k x = nat_eq x.caller a && nat_eq x.number k

-- how often a list has the site k of caller a
abbrev pub count_at : ℕ → ℕ → List CallSite → ℕ
count_at a k [] = 0
count_at a k (x ∷ xs) = one_if (is_at a k x) + count_at a k xs

module _ (a k : ℕ) where
  count_append : (xs ys : List CallSite) → count_at a k (xs ++ ys) ≡ count_at a k xs + count_at a k ys
  count_append [] ys = omega arith
  count_append (x ∷ xs) ys = let rest = count_append xs ys in omega arith

  inserted_count : (x : CallSite) (ys : List CallSite) → count_at a k (inserted ranks_before x ys) ≡ one_if (is_at a k x) + count_at a k ys
  inserted_count x [] = refl
  inserted_count x (y ∷ ys) = step (ranks_before y x) (inserted_count x ys)
    where
      step : (b : Bool) → count_at a k (inserted ranks_before x ys) ≡ one_if (is_at a k x) + count_at a k ys
          → count_at a k (if b then y ∷ inserted ranks_before x ys else x ∷ y ∷ ys) ≡ one_if (is_at a k x) + (one_if (is_at a k y) + count_at a k ys)
      step true e = omega arith
      step false e = refl

  sorted_count : (xs : List CallSite) → count_at a k (sorted ranks_before xs) ≡ count_at a k xs
  sorted_count [] = refl
  sorted_count (x ∷ xs) = let one = inserted_count x (sorted ranks_before xs) in let rest = sorted_count xs in omega arith

  bare_count : (xs : List CallSite) → count_at a k (map bare xs) ≡ count_at a k xs
  bare_count [] = refl
  bare_count (x ∷ xs) = ap (λ (n : ℕ). one_if (is_at a k x) + n) (bare_count xs)

  others_count : (pid j : ℕ) (xs : List KnownSite) → nat_eq pid a ≡ false → count_at a k (numbered pid j xs) ≡ 0
  others_count pid j [] e = refl
  others_count pid j (x ∷ xs) e =
      let none : one_if (nat_eq pid a && nat_eq j k) ≡ 0 = ap (λ (b : Bool). one_if (b && nat_eq j k)) e in
      let rest = others_count pid (suc j) xs e in
      omega arith

  and_none : (b : Bool) → one_if (b && false) ≡ 0
  and_none true = refl
  and_none false = refl

  later_count : (pid j : ℕ) (xs : List KnownSite) → k < j → count_at a k (numbered pid j xs) ≡ 0
  later_count pid j [] lt = refl
  later_count pid j (x ∷ xs) lt =
      let none : one_if (nat_eq pid a && nat_eq j k) ≡ 0
      = ap (λ (b : Bool). one_if (nat_eq pid a && b)) (ne_eqb j k (λ same. absurd (omega arith))) ∙ and_none (nat_eq pid a) in
      let rest = later_count pid (suc j) xs (omega arith) in
      omega arith

  numbered_count : (pid j : ℕ) (xs : List KnownSite) → count_at a k (numbered pid j xs) ≤ 1
  numbered_count pid j [] = omega arith
  numbered_count pid j (x ∷ xs) = step (nat_eq j k) refl (numbered_count pid (suc j) xs)
    where
      most : (b : Bool) → one_if b ≤ 1
      most true = omega arith
      most false = omega arith

      step : (b : Bool) → nat_eq j k ≡ b → count_at a k (numbered pid (suc j) xs) ≤ 1
          → one_if (nat_eq pid a && nat_eq j k) + count_at a k (numbered pid (suc j) xs) ≤ 1
      step true e le =
          let same = eqb-true j k e in
          let rest = later_count pid (suc j) xs (omega arith) in
          let one = most (nat_eq pid a && nat_eq j k) in
          omega arith
      step false e le =
          let none : one_if (nat_eq pid a && nat_eq j k) ≡ 0 = ap (λ (b : Bool). one_if (nat_eq pid a && b)) e ∙ and_none (nat_eq pid a) in
          omega arith

  absent_count : (ss : List Summary) → summary_at ss a ≡ None → count_at a k (call_sites ss) ≡ 0
  absent_count [] e = refl
  absent_count (s ∷ ss) e = step (nat_eq s.pid a) refl e (λ g. absent_count ss g)
    where
      step : (b : Bool) → nat_eq s.pid a ≡ b → (if b then Some s else summary_at ss a) ≡ None
          → (summary_at ss a ≡ None → count_at a k (call_sites ss) ≡ 0) → count_at a k (numbered s.pid 0 s.sites ++ call_sites ss) ≡ 0
      step true eb g rest = let bad : Some s ≡ None = g in absurd cc
      step false eb g rest =
          let both = count_append (numbered s.pid 0 s.sites) (call_sites ss) in
          let first = others_count s.pid 0 s.sites eb in
          let later = rest g in
          omega arith

  sites_count : (ss : List Summary) → AreApart ss → count_at a k (call_sites ss) ≤ 1
  sites_count [] h = omega arith
  sites_count (s ∷ ss) h = step (nat_eq s.pid a) refl (sites_count ss h.1)
    where
      step : (b : Bool) → nat_eq s.pid a ≡ b → count_at a k (call_sites ss) ≤ 1 → count_at a k (numbered s.pid 0 s.sites ++ call_sites ss) ≤ 1
      step true eb rest =
          let both = count_append (numbered s.pid 0 s.sites) (call_sites ss) in
          let first = numbered_count s.pid 0 s.sites in
          let later = absent_count ss (ap (λ (n : ℕ). summary_at ss n) (sym (eqb-true s.pid a eb)) ∙ h.0) in
          omega arith
      step false eb rest =
          let both = count_append (numbered s.pid 0 s.sites) (call_sites ss) in
          let first = others_count s.pid 0 s.sites eb in
          omega arith

  pub ranked_once : (ss : List Summary) → AreApart ss → count_at a k (map bare (ranked_sites ss)) ≤ 1
  ranked_once ss h =
      let a1 = bare_count (ranked_sites ss) in
      let a2 = sorted_count (call_sites ss) in
      let a3 = sites_count ss h in
      omega arith
