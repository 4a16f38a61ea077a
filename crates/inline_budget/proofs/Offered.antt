-- What the loop over the ranked sites takes from the tables.
use Rattle.std.proofs.Common.{◌≡◌, ℕ, zero, suc, ◌+◌, ◌<◌, ◌≤◌, List, [], ◌∷◌, ◌++◌, map, length, drop, take, replicate, true, false, refl, ap, ap₂}
use Rattle.std.proofs.Common.{subst, sym, ◌∙◌, arith}
use Rattle.std.specs.Prelude.{slice_index_or}
use Rattle.std.specs.List.{AllByRecursion}
use Rattle.std.proofs.lemmas.List.{append-nil, drop_all, take_all, length-map, length-replicate}
use Rattle.plan_laws.specs.Choosing.{choice, chosen_site, is_candidate, ranked_sites}
use Rattle.plan_laws.specs.Summary.{Summary, cost_of}
use Rattle.inline_budget.specs.declared.choice.Choice.{Choice}
use Rattle.inline_budget.specs.declared.numbers.Numbers.{Numbers}
use Rattle.inline_budget.specs.declared.ranking.PlacedSite.{PlacedSite}
use Rattle.inline_budget.specs.Attempts.{AreFew, no_numbers, numbers_at}
use Rattle.inline_budget.specs.Buckets.{put_in}
use Rattle.inline_budget.specs.Calls.{Calls, call_of, calls_of, number_at}
use Rattle.inline_budget.specs.Following.{AreBrief, HasCalls, IsIdle, Grows, GrowsNot}
use Rattle.inline_budget.specs.Linked.{AreLinked}
use Rattle.inline_budget.specs.Ranking.{bare, placed}
use Rattle.inline_budget.specs.Tables.{brought, extra_of, own_of, written}
use Rattle.inline_budget.proofs.Filed.{empty_at}
use Rattle.inline_budget.proofs.Filled.{AreExtras, AreOwn, empty_there, filled_at, own_within, written_length}
use Rattle.inline_budget.proofs.Ordered.{IsCallSite, ranked_good}
use Rattle.inline_budget.proofs.Chosen.{IsChoosing, choosing_first, choosing_passed, choosing_refused, choosing_taken, choosing_end, callers_inside}
use Rattle.inline_budget.proofs.Chosen.{has_calls, caller_inside, callee_inside, brief_is}

abbrev nothing : List ℕ
nothing = []

-- the site at a place
abbrev pub site_in : List PlacedSite → ℕ → PlacedSite
site_in xs i = slice_index_or xs i (record { caller = 0; number = 0; callee = 0; count = 0 })

drop_site : (xs : List PlacedSite) (i : ℕ) → i < length xs → drop i (map placed xs) ≡ placed (site_in xs i) ∷ drop (suc i) (map placed xs)
drop_site [] i lt = absurd (omega arith)
drop_site (x ∷ xs) zero lt = refl
drop_site (x ∷ xs) (suc i) lt = drop_site xs i (omega arith)

pub site_split : (xs : List PlacedSite) (i : ℕ) → i < length xs → drop i (map placed xs) ≡ placed (site_in xs i) ∷ drop (i + 1) (map placed xs)
site_split xs i lt =
    let next : suc i ≡ i + 1 = omega arith in
    drop_site xs i lt ∙ ap (λ (n : ℕ). placed (site_in xs i) ∷ drop n (map placed xs)) next

pub calls_more : (cs : List Choice) (c : Choice) → calls_of (cs ++ c ∷ []) ≡ calls_of cs ++ call_of c ∷ []
calls_more [] c = refl
calls_more (d ∷ cs) c = ap (λ (ds : Calls). call_of d ∷ ds) (calls_more cs c)

pub inside_as : {V W : Type 0} (q n : ℕ) (T : List V) (es : List W) → q < length T → length T ≡ n → length es ≡ n → q < length es
inside_as q n T es lt a b = omega arith

-- a vector with a slice of it written back
pub back_is : (len : ℕ) (new old : List Numbers) → len ≡ length old → length new ≡ length old → take len (new ++ drop (length new) old) ≡ new
back_is len new old le ln =
    ap (λ (ns : List Numbers). take len (new ++ ns)) (drop_all (length new) old (omega arith))
    ∙ ap (λ (ns : List Numbers). take len ns) (append-nil new) ∙ take_all len new (omega arith)

pub record IsOffering (ss : List Summary) (main limit : ℕ) (items : List PlacedSite) (n i : ℕ) (cs : Calls) (T : List Numbers) (lists : List (List ℕ))
    (ts hs ks : List ℕ) (room : ℕ) : Type 0 where
  pub choosing : IsChoosing ss main limit (map placed items) i cs T lists ts hs ks room
  pub long : length T ≡ n

-- the tables at the start
module _ (ss : List Summary) (linked : AreLinked ss) (n : ℕ) (below : AllByRecursion (λ s. s.pid < n) ss) where
  pub extras_are : (es : List ℕ) → es ≡ written extra_of (replicate n 0) ss → AreExtras ss es
  extras_are es e x = ap (λ (vs : List ℕ). number_at vs x) e ∙ filled_at extra_of 0 n ss x linked.apart below

  pub extras_length : (es : List ℕ) → es ≡ written extra_of (replicate n 0) ss → length es ≡ n
  extras_length es e = ap (λ (vs : List ℕ). length vs) e ∙ written_length extra_of 0 (replicate n 0) ss ∙ length-replicate n 0

  own_length : (T : List Numbers) → T ≡ written own_of (replicate n no_numbers) ss → length T ≡ n
  own_length T e = ap (λ (vs : List Numbers). length vs) e ∙ written_length own_of no_numbers (replicate n no_numbers) ss ∙ length-replicate n no_numbers

  own_are : (T : List Numbers) → T ≡ written own_of (replicate n no_numbers) ss → AreOwn ss T
  own_are T e x = ap (λ (vs : List Numbers). numbers_at vs x) e ∙ filled_at own_of no_numbers n ss x linked.apart below

  zeros_at : (ts : List ℕ) → ts ≡ replicate n 0 → (x : ℕ) → number_at ts x ≡ 0
  zeros_at ts e x = ap (λ (vs : List ℕ). number_at vs x) e ∙ empty_there (λ (s : Summary). 0) 0 n x

  pub offering_first : (main limit : ℕ) (items : List PlacedSite) → map placed items ≡ map bare (ranked_sites ss) → (cs : Calls) → cs ≡ []
      → (T : List Numbers) → T ≡ written own_of (replicate n no_numbers) ss → (lists : List (List ℕ)) → lists ≡ replicate n []
      → (ts hs ks : List ℕ) → ts ≡ replicate n 0 → hs ≡ replicate n 0 → ks ≡ [] → (room start : ℕ) → room ≡ start → start + cost_of ss ≡ limit
      → IsOffering ss main limit items n 0 cs T lists ts hs ks room
  offering_first main limit items is cs none T own lists empty ts hs ks zt zh zk room start same e =
      let long : length T ≡ n = own_length T own in
      let many : length lists ≡ n = ap (λ (ls : List (List ℕ)). length ls) empty ∙ length-replicate n nothing in
      let some : length ts ≡ n = ap (λ (vs : List ℕ). length vs) zt ∙ length-replicate n 0 in
      let few : length hs ≡ n = ap (λ (vs : List ℕ). length vs) zh ∙ length-replicate n 0 in
      let numbers = own_are T own in
      let idle : IsIdle T ts hs ks = record {
        times = some ∙ sym long;
        handed = few ∙ sym long;
        within = own_within ss T numbers linked.small;
        no_times = zeros_at ts zt;
        no_handed = zeros_at hs zh;
        no_queue = zk;
      } in
      record {
        choosing = subst (λ (ds : Calls). IsChoosing ss main limit (map placed items) 0 ds T lists ts hs ks room) (sym none)
            (choosing_first ss linked main limit (map placed items) is T lists ts hs ks room numbers
            (subst (λ (k : ℕ). AllByRecursion (λ s. s.pid < k) ss) (sym long) below) idle (many ∙ sym long)
            (λ y. ap (λ (ls : List (List ℕ)). slice_index_or ls y nothing) empty ∙ empty_at n y) (ap (λ (k : ℕ). k + cost_of ss) same ∙ e));
        long = long;
      }

module _ (ss : List Summary) (linked : AreLinked ss) (main limit : ℕ) (items : List PlacedSite) (is : map placed items ≡ map bare (ranked_sites ss)) (n : ℕ)
    (below : AllByRecursion (λ s. s.pid < n) ss) (es : List ℕ) (es_is : es ≡ written extra_of (replicate n 0) ss) (i : ℕ) (cs : Calls) (T : List Numbers)
    (lists : List (List ℕ)) (ts hs ks : List ℕ) (room : ℕ) (h : IsOffering ss main limit items n i cs T lists ts hs ks room) where
  good : AllByRecursion (IsCallSite ss) (map placed items)
  good = subst (AllByRecursion (IsCallSite ss)) (sym is) (ranked_good ss linked)

  extras : AreExtras ss es
  extras = extras_are ss linked n below es es_is

  pub offering_end : length items ≤ i → cs ≡ choice ss main limit
  offering_end end =
      let same = length-map items placed in
      choosing_end ss linked main limit (map placed items) good es extras i cs T lists ts hs ks room h.choosing (omega arith)

  pub offered_callers : HasCalls lists
  offered_callers = has_calls ss linked main limit (map placed items) good es extras i cs T lists ts hs ks room h.choosing

  pub offered_inside : (y : ℕ) → AllByRecursion (λ x. x < length T) (slice_index_or lists y [])
  offered_inside = callers_inside ss linked main limit (map placed items) good es extras i cs T lists ts hs ks room h.choosing

  module _ (lt : i < length items) where
    split : drop i (map placed items) ≡ placed (site_in items i) ∷ drop (i + 1) (map placed items)
    split = site_split items i lt

    pub offered_caller : (site_in items i).caller < length T
    offered_caller =
        caller_inside ss linked main limit (map placed items) good es extras i cs T lists ts hs ks room h.choosing (placed (site_in items i)) split

    pub offered_callee : (site_in items i).callee < length T
    offered_callee =
        callee_inside ss linked main limit (map placed items) good es extras i cs T lists ts hs ks room h.choosing (placed (site_in items i)) split

    pub offered_extra : (site_in items i).callee < length es
    offered_extra = inside_as (site_in items i).callee n T es offered_callee h.long (extras_length ss linked n below es es_is)

    pub offered_brief : (by : Numbers) → by ≡ brought T es (site_in items i).callee → AreFew by → AreBrief by
    offered_brief =
        brief_is ss linked main limit (map placed items) good es extras i cs T lists ts hs ks room h.choosing (placed (site_in items i)) split

    pub offering_passed : is_candidate main (placed (site_in items i)) ≡ false → IsOffering ss main limit items n (i + 1) cs T lists ts hs ks room
    offering_passed e = record {
      choosing = choosing_passed ss linked main limit (map placed items) good es extras i cs T lists ts hs ks room h.choosing
          (placed (site_in items i)) split e;
      long = h.long;
    }

    module _ (ok : is_candidate main (placed (site_in items i)) ≡ true) (by : Numbers) (by_is : by ≡ brought T es (site_in items i).callee)
        (S : List Numbers) (p q : ℕ) (S_is : S ≡ T) (p_is : p ≡ (site_in items i).caller) (q_is : q ≡ (site_in items i).callee) where
      pub offering_refused : GrowsNot S p q by lists room → (U : List Numbers) → U ≡ S → (W : List Numbers) → W ≡ U → (vs gs js : List ℕ) (now : ℕ)
          → now ≡ room
          → IsIdle U vs gs js → IsOffering ss main limit items n (i + 1) cs W lists vs gs js now
      offering_refused not U U_is W W_is vs gs js now same idle =
          let U_T : U ≡ T = U_is ∙ S_is in
          let W_T : W ≡ T = W_is ∙ U_T in
          let not1 = subst (λ (ns : List Numbers). GrowsNot ns p q by lists room) S_is not in
          let not2 = subst (λ (k : ℕ). GrowsNot T k q by lists room) p_is not1 in
          let not3 = subst (λ (k : ℕ). GrowsNot T (site_in items i).caller k by lists room) q_is not2 in
          record {
            choosing = subst (λ (ns : List Numbers). IsChoosing ss main limit (map placed items) (i + 1) cs ns lists vs gs js now) (sym W_T)
                (choosing_refused ss linked main limit (map placed items) good es extras i cs T lists ts hs ks room h.choosing
                (placed (site_in items i)) split
                by by_is ok not3 vs gs js now same (subst (λ (ns : List Numbers). IsIdle ns vs gs js) U_T idle));
            long = ap (λ (ns : List Numbers). length ns) W_T ∙ h.long;
          }

      pub offering_taken : (U : List Numbers) (now : ℕ) → Grows S p q by lists room U now → (ms : List (List ℕ)) → ms ≡ put_in lists q p
          → (ds : Calls) → ds ≡ cs ++ chosen_site (placed (site_in items i)) ∷ [] → (W : List Numbers) → W ≡ U → (vs gs js : List ℕ)
          → IsIdle U vs gs js → IsOffering ss main limit items n (i + 1) ds W ms vs gs js now
      offering_taken U now g ms ms_is ds ds_is W W_is vs gs js idle =
          let g1 = subst (λ (ns : List Numbers). Grows ns p q by lists room U now) S_is g in
          let g2 = subst (λ (k : ℕ). Grows T k q by lists room U now) p_is g1 in
          let g3 = subst (λ (k : ℕ). Grows T (site_in items i).caller k by lists room U now) q_is g2 in
          let put : ms ≡ put_in lists (site_in items i).callee (site_in items i).caller
          = ms_is ∙ ap₂ {A = ℕ} {B = ℕ} {C = List (List ℕ)} (λ k l. put_in lists k l) q_is p_is in
          record {
            choosing = subst (λ (ns : List Numbers). IsChoosing ss main limit (map placed items) (i + 1) ds ns ms vs gs js now) (sym W_is)
                (subst (λ (es : Calls). IsChoosing ss main limit (map placed items) (i + 1) es U ms vs gs js now) (sym ds_is)
                (subst (λ (ls : List (List ℕ)). IsChoosing ss main limit (map placed items) (i + 1)
                (cs ++ chosen_site (placed (site_in items i)) ∷ []) U ls vs gs js now)
                (sym put)
                (choosing_taken ss linked main limit (map placed items) good es extras i cs T lists ts hs ks room h.choosing (placed (site_in items i)) split
                by by_is ok U now g3 vs gs js idle)));
            long = ap (λ (ns : List Numbers). length ns) W_is ∙ g.long ∙ ap (λ (ns : List Numbers). length ns) S_is ∙ h.long;
          }
