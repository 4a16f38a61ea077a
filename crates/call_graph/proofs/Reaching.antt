-- Marks that spread along calls are those of what is reached.
use Rattle.std.proofs.Common.{◌≡◌, ℕ, zero, suc, ◌+◌, ◌<◌, ◌≤◌, ◌⊎◌, List, [], ◌∷◌, ◌++◌, get_or, set, take, drop, length, map, Bool, true, false, refl}
use Rattle.std.proofs.Common.{ap, subst, sym, ◌∙◌, arith, inl, inr, Result, Ok, Err, eq-eqb, eqb-true, ne_eqb, length-set, get_or-set_same}
use Rattle.std.proofs.Common.{get_or-set_other, slice_get}
use Rattle.std.specs.Prelude.{nat_eq, not, filter, ◌&&◌, ◌||◌, IfOk, Some, replicate, if◌then◌else◌}
use Rattle.std.specs.List.{AllByRecursion}
use Rattle.std.proofs.lemmas.Bool.{cases_eq, cases_lt}
use Rattle.std.proofs.lemmas.List.{set_past, length_push, get_or_push, get_or_append_left, get_or_past, get_or_default, length-replicate}
use Rattle.std.proofs.lemmas.Option.{none-some, same_Some, slice_get_within, slice_get-get_or}
use Rattle.il_core.specs.Program.{found}
use Rattle.il_core.specs.Shapes.{IsRisingFrom, IsRising}
use Rattle.il_laws.specs.Reach.{Caller, is_in, is_called, marked_too, call_rounds, reached, is_reached}
use Rattle.il_laws.proofs.ReachClosed.{reached_calls, reached_from}
use Rattle.std.proofs.lemmas.Bool.{or_cases, or_right}
use Rattle.plan_laws.specs.Dead.{reachable, dead_routines}
use Rattle.plan_laws.specs.Summary.{caller_of_summary}
use Rattle.call_graph.specs.declared.summary.Site.{Site}
use Rattle.call_graph.specs.declared.summary.Summary.{Summary}
use Rattle.call_graph.specs.Summaries.{site_of, summary_of, has_at}
use Rattle.call_graph.specs.Reach.{place_of, noted, seen_all, noted_all, reaches, AreReached, marked_pids, other_pids}

abbrev pid_of : Summary → ℕ
pid_of s = s.pid

abbrev callers : List Summary → List Caller
callers xs = map caller_of_summary (map summary_of xs)

abbrev caller : Summary → Caller
caller s = caller_of_summary (summary_of s)

-- ---- least: what is reached is in every set that has the first and is closed

and_both : (k l : Bool) → (k && l) ≡ true → (k ≡ true) × (l ≡ true)
and_both true l e = (refl, e)
and_both false l e = let bad : false ≡ true = e in absurd cc

module _ (S : ℕ → Bool) where
  abbrev InSet : List Bool → List Caller → Type 0
  InSet [] cs = Unit {0}
  InSet (m ∷ ms) [] = Unit {0}
  InSet (m ∷ ms) (c ∷ cs) = (m ≡ true → S c.pid ≡ true) × InSet ms cs

  abbrev Closed : List Caller → Type 0
  Closed cs = AllByRecursion (λ (c : Caller). S c.pid ≡ true → (q : ℕ) → is_in c.callees q ≡ true → S q ≡ true) cs

  called_in : (ms : List Bool) (cs : List Caller) (q : ℕ) → InSet ms cs → Closed cs → is_called ms cs q ≡ true → S q ≡ true
  called_in [] cs q h k e = let bad : false ≡ true = e in absurd cc
  called_in (m ∷ ms) [] q h k e = let bad : false ≡ true = e in absurd cc
  called_in (m ∷ ms) (c ∷ cs) q h k e = elim (or_cases (m && is_in c.callees q) (is_called ms cs q) e) [
    | inl one ↦ (let both = and_both m (is_in c.callees q) one in k.0 (h.0 both.0) q both.1)
    | inr rest ↦ called_in ms cs q h.1 k.1 rest
  ]

  marked_in : (test : ℕ → Bool) → ((q : ℕ) → test q ≡ true → S q ≡ true) → (cs : List Caller) (ms : List Bool) → InSet ms cs
      → InSet (marked_too test cs ms) cs
  marked_in test g [] ms h = h
  marked_in test g (c ∷ cs) [] h = tt
  marked_in test g (c ∷ cs) (m ∷ ms) h =
      (λ e. elim (or_cases m (test c.pid) e) [ inl on ↦ h.0 on | inr now ↦ g c.pid now ], marked_in test g cs ms h.1)

  rounds_in : (n : ℕ) (cs : List Caller) (ms : List Bool) → Closed cs → InSet ms cs → InSet (call_rounds cs n ms) cs
  rounds_in zero cs ms k h = h
  rounds_in (suc n) cs ms k h =
      rounds_in n cs (marked_too (is_called ms cs) cs ms) k (marked_in (is_called ms cs) (λ q e. called_in ms cs q h k e) cs ms h)

  first_in : (from : ℕ) → S from ≡ true → (cs : List Caller) → InSet (map (λ c. nat_eq c.pid from) cs) cs
  first_in from s [] = tt
  first_in from s (c ∷ cs) = (λ e. ap S (eqb-true c.pid from e) ∙ s, first_in from s cs)

  pub reached_in : (cs : List Caller) (from pid : ℕ) → Closed cs → S from ≡ true → is_reached cs from pid ≡ true → S pid ≡ true
  reached_in cs from pid k s e = elim (or_cases (nat_eq pid from) (is_called (reached cs from) cs pid) e) [
    | inl same ↦ ap S (eqb-true pid from same) ∙ s
    | inr called ↦ called_in (reached cs from) cs pid
        (rounds_in (suc (length cs)) cs (map (λ c. nat_eq c.pid from) cs) k (first_in from s cs)) k called
  ]

-- ---- places

place_le : (xs : List Summary) (q : ℕ) → place_of xs q ≤ length xs
place_le [] q = omega arith
place_le (x ∷ xs) q = elim (cases_eq x.pid q) [
  | inl same ↦ (let e = ap (λ (k : Bool). if k then 0 else suc (place_of xs q)) (eq-eqb x.pid q same) in omega arith)
  | inr ne ↦ (let e = ap (λ (k : Bool). if k then 0 else suc (place_of xs q)) (ne_eqb x.pid q ne) in let h = place_le xs q in omega arith)
]

-- a place that is one has its PID
pid_there : (xs : List Summary) (q : ℕ) (d : Summary) → place_of xs q < length xs → (get_or xs (place_of xs q) d).pid ≡ q
pid_there [] q d lt = absurd (omega arith)
pid_there (x ∷ xs) q d lt = elim (cases_eq x.pid q) [
  | inl same ↦ (let e : place_of (x ∷ xs) q ≡ 0 = ap (λ (k : Bool). if k then 0 else suc (place_of xs q)) (eq-eqb x.pid q same) in
      ap (λ (i : ℕ). (get_or (x ∷ xs) i d).pid) e ∙ same)
  | inr ne ↦ (let e : place_of (x ∷ xs) q ≡ suc (place_of xs q) = ap (λ (k : Bool). if k then 0 else suc (place_of xs q)) (ne_eqb x.pid q ne) in
      ap (λ (i : ℕ). (get_or (x ∷ xs) i d).pid) e ∙ pid_there xs q d (omega arith))
]

-- where it is found
pub place_is : (xs : List Summary) (at q : ℕ) → AllByRecursion (λ (s : Summary). s.pid < q) (take at xs) → has_at xs at q ≡ true → place_of xs q ≡ at
place_is [] at q below e = absurd cc
place_is (x ∷ xs) zero q below e = ap (λ (k : Bool). if k then 0 else suc (place_of xs q)) e
place_is (x ∷ xs) (suc at) q below e =
    let lt = below.0 in
    ap (λ (k : Bool). if k then 0 else suc (place_of xs q)) (ne_eqb x.pid q (λ same. absurd (omega arith))) ∙ ap suc (place_is xs at q below.1 e)

none_from : (b q : ℕ) (xs : List Summary) → q ≤ b → IsRisingFrom pid_of b xs → place_of xs q ≡ length xs
none_from b q [] le h = refl
none_from b q (x ∷ xs) le h =
    let lt = h.0 in
    ap (λ (k : Bool). if k then 0 else suc (place_of xs q)) (ne_eqb x.pid q (λ same. absurd (omega arith)))
    ∙ ap suc (none_from x.pid q xs (omega arith) h.1)

rest_rising : (x : Summary) (xs : List Summary) → IsRising pid_of (x ∷ xs) → IsRising pid_of xs
rest_rising x [] h = tt
rest_rising x (y ∷ xs) h = h.1

-- where it isn't
pub place_none : (xs : List Summary) (at q : ℕ) → IsRising pid_of xs → AllByRecursion (λ (s : Summary). s.pid < q) (take at xs)
    → AllByRecursion (λ (s : Summary). q ≤ s.pid) (drop at xs) → has_at xs at q ≡ false → place_of xs q ≡ length xs
place_none [] at q h below above e = refl
place_none (x ∷ xs) zero q h below above e =
    let ge = above.0 in
    ap (λ (k : Bool). if k then 0 else suc (place_of xs q)) e ∙ ap suc (none_from x.pid q xs ge h)
place_none (x ∷ xs) (suc at) q h below above e =
    let lt = below.0 in
    ap (λ (k : Bool). if k then 0 else suc (place_of xs q)) (ne_eqb x.pid q (λ same. absurd (omega arith)))
    ∙ ap suc (place_none xs at q (rest_rising x xs h) below.1 above e)

less_from : (b : ℕ) (xs : List Summary) (i : ℕ) (s : Summary) → IsRisingFrom pid_of b xs → slice_get xs i ≡ Some s → b < s.pid
less_from b [] i s h e = absurd (none-some s e)
less_from b (x ∷ xs) zero s h e = let lt = h.0 in let same = ap (λ (y : Summary). y.pid) (same_Some x s e) in omega arith
less_from b (x ∷ xs) (suc i) s h e = let lt = h.0 in let rest = less_from x.pid xs i s h.1 e in omega arith

before_rest : (x : Summary) (xs : List Summary) (i : ℕ) (s : Summary) → IsRising pid_of (x ∷ xs) → slice_get xs i ≡ Some s → x.pid < s.pid
before_rest x xs i s h e = less_from x.pid xs i s h e

-- each summary is at the place of its PID
pub place_self : (xs : List Summary) (i : ℕ) (s : Summary) → IsRising pid_of xs → slice_get xs i ≡ Some s → place_of xs s.pid ≡ i
place_self [] i s h e = absurd (none-some s e)
place_self (x ∷ xs) zero s h e =
    ap (λ (k : Bool). if k then 0 else suc (place_of xs s.pid)) (eq-eqb x.pid s.pid (ap (λ (y : Summary). y.pid) (same_Some x s e)))
place_self (x ∷ xs) (suc i) s h e =
    let lt = before_rest x xs i s h e in
    ap (λ (k : Bool). if k then 0 else suc (place_of xs s.pid)) (ne_eqb x.pid s.pid (λ same. absurd (omega arith)))
    ∙ ap suc (place_self xs i s (rest_rising x xs h) e)

found_self : (xs : List Summary) (i : ℕ) (s : Summary) → IsRising pid_of xs → slice_get xs i ≡ Some s
    → found (λ z. z.pid) s.pid (callers xs) ≡ Some (caller s)
found_self [] i s h e = absurd (none-some s e)
found_self (x ∷ xs) zero s h e =
    let same = same_Some x s e in
    ap (λ (k : Bool). if k then Some (caller x) else found (λ z. z.pid) s.pid (callers xs)) (eq-eqb x.pid s.pid (ap (λ (y : Summary). y.pid) same))
    ∙ ap (λ (y : Summary). Some (caller y)) same
found_self (x ∷ xs) (suc i) s h e =
    let lt = before_rest x xs i s h e in
    ap (λ (k : Bool). if k then Some (caller x) else found (λ z. z.pid) s.pid (callers xs)) (ne_eqb x.pid s.pid (λ same. absurd (omega arith)))
    ∙ found_self xs i s (rest_rising x xs h) e

-- ---- marks

abbrev marked : List Bool → ℕ
marked [] = 0
marked (m ∷ ms) = if m then suc (marked ms) else marked ms

marked_few : (ms : List Bool) → marked ms ≤ length ms
marked_few [] = omega arith
marked_few (true ∷ ms) = let h = marked_few ms in omega arith
marked_few (false ∷ ms) = let h = marked_few ms in omega arith

marked_set : (ms : List Bool) (t : ℕ) → get_or ms t true ≡ false → marked (set ms t true) ≡ suc (marked ms)
marked_set [] t e = absurd cc
marked_set (true ∷ ms) zero e = absurd cc
marked_set (false ∷ ms) zero e = refl
marked_set (true ∷ ms) (suc t) e = ap suc (marked_set ms t e)
marked_set (false ∷ ms) (suc t) e = marked_set ms t e

off_within : (ms : List Bool) (t : ℕ) → get_or ms t true ≡ false → t < length ms
off_within [] t e = absurd cc
off_within (m ∷ ms) zero e = omega arith
off_within (m ∷ ms) (suc t) e = let h = off_within ms t e in omega arith

on_within : (ms : List Bool) (t : ℕ) → get_or ms t false ≡ true → t < length ms
on_within [] t e = absurd cc
on_within (m ∷ ms) zero e = omega arith
on_within (m ∷ ms) (suc t) e = let h = on_within ms t e in omega arith

set_on : (ms : List Bool) (t : ℕ) → get_or ms t true ≡ true → set ms t true ≡ ms
set_on [] t e = refl
set_on (m ∷ ms) zero e = ap (λ (k : Bool). k ∷ ms) (sym e)
set_on (m ∷ ms) (suc t) e = ap (λ (ks : List Bool). m ∷ ks) (set_on ms t e)

covered_here : (ms : List Bool) (t : ℕ) → get_or (set ms t true) t true ≡ true
covered_here [] t = refl
covered_here (m ∷ ms) zero = refl
covered_here (m ∷ ms) (suc t) = covered_here ms t

covered_stays : (ms : List Bool) (t u : ℕ) → get_or ms u true ≡ true → get_or (set ms t true) u true ≡ true
covered_stays [] t u e = refl
covered_stays (m ∷ ms) zero zero e = refl
covered_stays (m ∷ ms) zero (suc u) e = e
covered_stays (m ∷ ms) (suc t) zero e = e
covered_stays (m ∷ ms) (suc t) (suc u) e = covered_stays ms t u e

mark_stays : (ms : List Bool) (t u : ℕ) → get_or ms u false ≡ true → get_or (set ms t true) u false ≡ true
mark_stays [] t u e = e
mark_stays (m ∷ ms) zero zero e = refl
mark_stays (m ∷ ms) zero (suc u) e = e
mark_stays (m ∷ ms) (suc t) zero e = e
mark_stays (m ∷ ms) (suc t) (suc u) e = mark_stays ms t u e

mark_was : (ms : List Bool) (t u : ℕ) → get_or (set ms t true) u false ≡ true → (u ≡ t) ⊎ (get_or ms u false ≡ true)
mark_was ms t u e = elim (cases_eq u t) [
  | inl same ↦ inl same
  | inr ne ↦ inr (sym (get_or-set_other ms t u true false ne) ∙ e)
]

none_marked : (n i : ℕ) → get_or (replicate n false) i false ≡ true → ⊥
none_marked zero i e = absurd cc
none_marked (suc n) zero e = absurd cc
none_marked (suc n) (suc i) e = none_marked n i e

-- ---- the state of the search

pub record Listed (fs : List ℕ) (next i : ℕ) : Type 0 where
  pub at : ℕ
  pub late : next ≤ at
  pub within : at < length fs
  pub is : get_or fs at 0 ≡ i

-- each callee of these sites that has a summary is marked
abbrev pub Covers : List Summary → List Bool → List Site → Type 0
Covers xs ms sites = AllByRecursion (λ (z : Site). get_or ms (place_of xs z.callee) true ≡ true) sites

-- What is marked is reached, and its callees are marked or it is still to be looked at.
pub record State (xs : List Summary) (from next : ℕ) (ms : List Bool) (fs : List ℕ) : Type 0 where
  pub size : length ms ≡ length xs
  pub count : length fs ≤ marked ms
  pub behind : next ≤ length fs
  pub real : (j : ℕ) → j < length fs → get_or ms (get_or fs j 0) false ≡ true
  pub reached : (i : ℕ) (s : Summary) → slice_get xs i ≡ Some s → get_or ms i false ≡ true → reaches xs from s.pid ≡ true
  pub pending : (i : ℕ) (s : Summary) → slice_get xs i ≡ Some s → get_or ms i false ≡ true → (Covers xs ms s.sites) ⊎ (Listed fs next i)

covers_stay : (xs : List Summary) (ms : List Bool) (t : ℕ) (sites : List Site) → Covers xs ms sites → Covers xs (set ms t true) sites
covers_stay xs ms t [] h = tt
covers_stay xs ms t (z ∷ sites) h = (covered_stays ms t (place_of xs z.callee) h.0, covers_stay xs ms t sites h.1)

pid_at : (xs : List Summary) (i q : ℕ) (s : Summary) → slice_get xs i ≡ Some s → i ≡ place_of xs q → s.pid ≡ q
pid_at xs i q s e same =
    let lt = slice_get_within xs i s e in
    let is : get_or xs i s ≡ s = same_Some (get_or xs i s) s (sym (slice_get-get_or xs i s lt) ∙ e) in
    sym (ap (λ (y : Summary). y.pid) is) ∙ ap (λ (j : ℕ). (get_or xs j s).pid) same ∙ pid_there xs q s (subst (λ (j : ℕ). j < length xs) same lt)

module _ (xs : List Summary) (from next : ℕ) (ms : List Bool) (fs : List ℕ) (st : State xs from next ms fs) (q : ℕ) (r : reaches xs from q ≡ true) where
  abbrev t : ℕ
  t = place_of xs q

  -- a new mark
  newly : get_or ms t true ≡ false → State xs from next (set ms t true) (fs ++ t ∷ [])
  newly off =
      let size = st.size in
      let within = off_within ms t off in
      let push = length_push fs t in
      let more = marked_set ms t off in
      let count = st.count in
      let behind = st.behind in
      record {
        size = length-set ms t true ∙ size;
        count = omega arith;
        behind = omega arith;
        real = λ j lt. elim (cases_lt j (length fs)) [
          | inl less ↦ ap (λ (i : ℕ). get_or (set ms t true) i false) (get_or_append_left fs (t ∷ []) 0 j less)
              ∙ mark_stays ms t (get_or fs j 0) (st.real j less)
          | inr ge ↦ (let last : length fs ≡ j = omega arith in
              ap (λ (i : ℕ). get_or (set ms t true) i false) (get_or_push fs t 0 j last) ∙ get_or-set_same ms t true false within)
        ];
        reached = λ i s e m. elim (mark_was ms t i m) [
          | inl same ↦ ap (reaches xs from) (pid_at xs i q s e same) ∙ r
          | inr was ↦ st.reached i s e was
        ];
        pending = λ i s e m. elim (mark_was ms t i m) [
          | inl same ↦ inr (record { at = length fs; late = behind; within = omega arith; is = get_or_push fs t 0 (length fs) refl ∙ sym same })
          | inr was ↦ elim (st.pending i s e was) [
            | inl cover ↦ inl (covers_stay xs ms t s.sites cover)
            | inr l ↦ (let lt = l.within in inr (record {
              at = l.at;
              late = l.late;
              within = omega arith;
              is = get_or_append_left fs (t ∷ []) 0 l.at l.within ∙ l.is;
            }))
          ]
        ];
      }

  find_by : (k : Bool) → get_or ms t true ≡ k → State xs from next (set ms t true) (if k then fs else fs ++ t ∷ [])
  find_by true e = subst (λ (ns : List Bool). State xs from next ns fs) (sym (set_on ms t e)) st
  find_by false e = newly e

  pub find_state : State xs from next (set ms t true) (noted t ms fs)
  find_state = find_by (get_or ms t true) refl

module _ (xs : List Summary) (from next : ℕ) where
  pub all_state : (sites : List Site) (ms : List Bool) (fs : List ℕ) → State xs from next ms fs
      → AllByRecursion (λ (z : Site). reaches xs from z.callee ≡ true) sites
      → State xs from next (seen_all xs sites ms) (noted_all xs sites ms fs)
  all_state [] ms fs st h = st
  all_state (z ∷ sites) ms fs st h =
      all_state sites (set ms (place_of xs z.callee) true) (noted (place_of xs z.callee) ms fs) (find_state xs from next ms fs st z.callee h.0) h.1

seen_stays : (xs : List Summary) (sites : List Site) (ms : List Bool) (u : ℕ) → get_or ms u true ≡ true → get_or (seen_all xs sites ms) u true ≡ true
seen_stays xs [] ms u e = e
seen_stays xs (z ∷ sites) ms u e = seen_stays xs sites (set ms (place_of xs z.callee) true) u (covered_stays ms (place_of xs z.callee) u e)

seen_covers : (xs : List Summary) (sites : List Site) (ms : List Bool) → Covers xs (seen_all xs sites ms) sites
seen_covers xs [] ms = tt
seen_covers xs (z ∷ sites) ms = (
  seen_stays xs sites (set ms (place_of xs z.callee) true) (place_of xs z.callee) (covered_here ms (place_of xs z.callee)),
  seen_covers xs sites (set ms (place_of xs z.callee) true),
)

noted_front : (k : Bool) (t : ℕ) (fs : List ℕ) (j : ℕ) → j < length fs
    → (get_or (if k then fs else fs ++ t ∷ []) j 0 ≡ get_or fs j 0) × (j < length (if k then fs else fs ++ t ∷ []))
noted_front true t fs j lt = (refl, lt)
noted_front false t fs j lt = (get_or_append_left fs (t ∷ []) 0 j lt, let push = length_push fs t in omega arith)

all_front : (xs : List Summary) (sites : List Site) (ms : List Bool) (fs : List ℕ) (j : ℕ) → j < length fs
    → (get_or (noted_all xs sites ms fs) j 0 ≡ get_or fs j 0) × (j < length (noted_all xs sites ms fs))
all_front xs [] ms fs j lt = (refl, lt)
all_front xs (z ∷ sites) ms fs j lt =
    let p = place_of xs z.callee in
    let one = noted_front (get_or ms p true) p fs j lt in
    let rest = all_front xs sites (set ms p true) (noted p ms fs) j one.1 in
    (rest.0 ∙ one.0, rest.1)

-- the callees of sites, one by one
abbrev callees : List Site → List ℕ
callees sites = map (λ x. x.callee) (map site_of sites)

each_callee : (R : ℕ → Type 0) (sites : List Site) → ((q : ℕ) → is_in (callees sites) q ≡ true → R q) → AllByRecursion (λ (z : Site). R z.callee) sites
each_callee R [] g = tt
each_callee R (z ∷ sites) g = (
  g z.callee (ap (λ (k : Bool). k || is_in (callees sites) z.callee) (eq-eqb z.callee z.callee refl)),
  each_callee R sites (λ q e. g q (or_right (nat_eq z.callee q) (is_in (callees sites) q) e)),
)

covers_in : (xs : List Summary) (ms : List Bool) (sites : List Site) (q : ℕ) → Covers xs ms sites → is_in (callees sites) q ≡ true
    → get_or ms (place_of xs q) true ≡ true
covers_in xs ms [] q h e = absurd cc
covers_in xs ms (z ∷ sites) q h e = elim (or_cases (nat_eq z.callee q) (is_in (callees sites) q) e) [
  | inl same ↦ ap (λ (p : ℕ). get_or ms (place_of xs p) true) (sym (eqb-true z.callee q same)) ∙ h.0
  | inr rest ↦ covers_in xs ms sites q h.1 rest
]

module _ (xs : List Summary) (rising : IsRising pid_of xs) (from next : ℕ) (ms : List Bool) (fs : List ℕ) (st : State xs from next ms fs) where
  pub few : length fs ≤ length xs
  few = let a = st.count in let b = marked_few ms in let c = st.size in omega arith

  pub next_inside : next < length fs → get_or fs next 0 < length xs
  next_inside lt = let h = on_within ms (get_or fs next 0) (st.real next lt) in let size = st.size in omega arith

  pub next_state : (s : Summary) → next < length fs → slice_get xs (get_or fs next 0) ≡ Some s
      → State xs from (next + 1) (seen_all xs s.sites ms) (noted_all xs s.sites ms fs)
  next_state s lt is =
      let here = st.reached (get_or fs next 0) s is (st.real next lt) in
      let all : AllByRecursion (λ (z : Site). reaches xs from z.callee ≡ true) s.sites =
      each_callee (λ q. reaches xs from q ≡ true) s.sites
      (λ q e. reached_calls (callers xs) from s.pid q (caller s) (found_self xs (get_or fs next 0) s rising is) here e) in
      let mid = all_state xs from next s.sites ms fs st all in
      let front = all_front xs s.sites ms fs next lt in
      let longer = front.1 in
      record {
        size = mid.size;
        count = mid.count;
        behind = omega arith;
        real = mid.real;
        reached = mid.reached;
        pending = λ i z e m. elim (mid.pending i z e m) [
          | inl cover ↦ inl cover
          | inr l ↦ elim (cases_eq l.at next) [
            | inl same ↦ (let i_is : get_or fs next 0 ≡ i = sym front.0 ∙ ap (λ (j : ℕ). get_or (noted_all xs s.sites ms fs) j 0) (sym same) ∙ l.is in
                let z_is : s ≡ z = same_Some s z (sym is ∙ ap (slice_get xs) i_is ∙ e) in
                inl (subst (λ (y : Summary). Covers xs (seen_all xs s.sites ms) y.sites) z_is (seen_covers xs s.sites ms)))
            | inr ne ↦ (let late = l.late in inr (record { at = l.at; late = omega arith; within = l.within; is = l.is }))
          ]
        ];
      }

  pub next_first : (s : Summary) → get_or ms (place_of xs from) true ≡ true → get_or (seen_all xs s.sites ms) (place_of xs from) true ≡ true
  next_first s e = seen_stays xs s.sites ms (place_of xs from) e

  -- nothing is left to be looked at
  module _ (past : length fs ≤ next) (first : get_or ms (place_of xs from) true ≡ true) where
    abbrev S : ℕ → Bool
    S q = get_or ms (place_of xs q) true

    closed_at : (i : ℕ) (s : Summary) → slice_get xs i ≡ Some s → S s.pid ≡ true → (q : ℕ) → is_in (callees s.sites) q ≡ true → S q ≡ true
    closed_at i s e on q h =
        let lt = slice_get_within xs i s e in
        let size = st.size in
        let mark : get_or ms i false ≡ true =
        get_or_default ms i false true (omega arith) ∙ ap (λ (j : ℕ). get_or ms j true) (sym (place_self xs i s rising e)) ∙ on in
        elim (st.pending i s e mark) [
          | inl cover ↦ covers_in xs ms s.sites q cover h
          | inr l ↦ (let late = l.late in let within = l.within in absurd (omega arith))
        ]

    closed_from : (ys : List Summary)
        → ((i : ℕ) (s : Summary) → slice_get ys i ≡ Some s → S s.pid ≡ true → (q : ℕ) → is_in (callees s.sites) q ≡ true → S q ≡ true)
        → Closed S (callers ys)
    closed_from [] g = tt
    closed_from (y ∷ ys) g = (g 0 y refl, closed_from ys (λ i s e. g (suc i) s e))

    same_bools : (a b : Bool) → (a ≡ true → b ≡ true) → (b ≡ true → a ≡ true) → a ≡ b
    same_bools true b f g = sym (f refl)
    same_bools false true f g = g refl
    same_bools false false f g = refl

    pub spread_done : AreReached xs from ms
    spread_done =
        record {
          size = st.size;
          at = λ i d lt. (
              let s : Summary = get_or xs i d in
              let e : slice_get xs i ≡ Some s = slice_get-get_or xs i d lt in
              let size = st.size in
              same_bools (get_or ms i false) (reaches xs from s.pid) (λ m. st.reached i s e m)
              (λ r. get_or_default ms i false true (omega arith) ∙ ap (λ (j : ℕ). get_or ms j true) (sym (place_self xs i s rising e))
              ∙ reached_in S (callers xs) from s.pid (closed_from xs closed_at) first r));
        }

pub start_state : (xs : List Summary) (from : ℕ)
    → State xs from 0 (set (replicate (length xs) false) (place_of xs from) true) (noted (place_of xs from) (replicate (length xs) false) [])
start_state xs from =
    find_state xs from 0 (replicate (length xs) false) []
    (record {
      size = length-replicate (length xs) false;
      count = omega arith;
      behind = omega arith;
      real = λ j lt. absurd (omega arith);
      reached = λ i s e m. absurd (none_marked (length xs) i m);
      pending = λ i s e m. absurd (none_marked (length xs) i m);
    })
    from (reached_from (callers xs) from)

pub start_first : (xs : List Summary) (ms : List Bool) (from : ℕ) → get_or (set ms (place_of xs from) true) (place_of xs from) true ≡ true
start_first xs ms from = covered_here ms (place_of xs from)

-- ---- the PIDs of what is marked, and of the others

pub marked_are : (T : ℕ → Bool) (xs : List Summary) (ms : List Bool) → length ms ≡ length xs
    → ((i : ℕ) (d : Summary) → i < length xs → get_or ms i false ≡ T (get_or xs i d).pid)
    → marked_pids ms xs ≡ filter T (map (λ s. s.pid) (map summary_of xs))
marked_are T [] [] size at = refl
marked_are T [] (m ∷ ms) size at = absurd (omega arith)
marked_are T (x ∷ xs) [] size at = absurd (omega arith)
marked_are T (x ∷ xs) (m ∷ ms) size at =
    ap (λ (k : Bool). if k then x.pid ∷ marked_pids ms xs else marked_pids ms xs) (at 0 x (omega arith))
    ∙ ap (λ (ps : List ℕ). if T x.pid then x.pid ∷ ps else ps) (marked_are T xs ms (omega arith) (λ i d lt. at (suc i) d (omega arith)))

-- their PIDs rise where those of the summaries do
below_rises : (b n : ℕ) (ps : List ℕ) → b < n → IsRisingFrom (λ p. p) n ps → IsRisingFrom (λ p. p) b ps
below_rises b n [] lt h = tt
below_rises b n (p ∷ ps) lt h = let next = h.0 in (omega arith, h.1)

marked_above : (b : ℕ) (ms : List Bool) (xs : List Summary) → IsRisingFrom pid_of b xs → IsRisingFrom (λ p. p) b (marked_pids ms xs)
marked_above b [] xs h = tt
marked_above b (m ∷ ms) [] h = tt
marked_above b (true ∷ ms) (x ∷ xs) h = (h.0, marked_above x.pid ms xs h.1)
marked_above b (false ∷ ms) (x ∷ xs) h = below_rises b x.pid (marked_pids ms xs) h.0 (marked_above x.pid ms xs h.1)

rises_above : (b : ℕ) (ps : List ℕ) → IsRisingFrom (λ p. p) b ps → IsRising (λ p. p) ps
rises_above b [] h = tt
rises_above b (p ∷ ps) h = h.1

marked_rise : (ms : List Bool) (xs : List Summary) → IsRising pid_of xs → IsRising (λ p. p) (marked_pids ms xs)
marked_rise [] xs h = tt
marked_rise (m ∷ ms) [] h = tt
marked_rise (true ∷ ms) (x ∷ xs) h = marked_above x.pid ms xs h
marked_rise (false ∷ ms) (x ∷ xs) h = rises_above x.pid (marked_pids ms xs) (marked_above x.pid ms xs h)

pub marked_answer : {X E : Type 0} (items : X → List ℕ) (ms : List Bool) (xs : List Summary) (r : Result X E) → IsRising pid_of xs
    → IfOk r (λ v. items v ≡ marked_pids ms xs) → IfOk r (λ v. IsRising (λ p. p) (items v))
marked_answer items ms xs (Ok v) h e = subst (IsRising (λ p. p)) (sym e) (marked_rise ms xs h)
marked_answer items ms xs (Err e) h k = tt

turned : (k : Bool) (p : ℕ) (ps : List ℕ) → (if k then ps else p ∷ ps) ≡ (if not k then p ∷ ps else ps)
turned true p ps = refl
turned false p ps = refl

pub others_are : (T : ℕ → Bool) (xs : List Summary) (ms : List Bool) → length ms ≡ length xs
    → ((i : ℕ) (d : Summary) → i < length xs → get_or ms i false ≡ T (get_or xs i d).pid)
    → other_pids ms xs ≡ filter (λ p. not (T p)) (map (λ s. s.pid) (map summary_of xs))
others_are T [] [] size at = refl
others_are T [] (m ∷ ms) size at = absurd (omega arith)
others_are T (x ∷ xs) [] size at = absurd (omega arith)
others_are T (x ∷ xs) (m ∷ ms) size at =
    ap (λ (k : Bool). if k then other_pids ms xs else x.pid ∷ other_pids ms xs) (at 0 x (omega arith))
    ∙ turned (T x.pid) x.pid (other_pids ms xs)
    ∙ ap (λ (ps : List ℕ). if not (T x.pid) then x.pid ∷ ps else ps) (others_are T xs ms (omega arith) (λ i d lt. at (suc i) d (omega arith)))

-- the answers, by the slices that the code has
pub reachable_is : (xs ys zs : List Summary) (from : ℕ) (ms ns : List Bool) → ys ≡ xs → zs ≡ xs → ns ≡ ms → AreReached ys from ms
    → marked_pids ns zs ≡ reachable (map summary_of xs) from
reachable_is xs ys zs from ms ns same1 same2 same3 h =
    let r : AreReached xs from ms = subst (λ (ws : List Summary). AreReached ws from ms) same1 h in
    ap (λ (ks : List Bool). marked_pids ks zs) same3 ∙ ap (marked_pids ms) same2 ∙ marked_are (reaches xs from) xs ms r.size r.at

pub dead_is : (xs ys zs : List Summary) (from : ℕ) (ms ns : List Bool) → ys ≡ xs → zs ≡ xs → ns ≡ ms → AreReached ys from ms
    → other_pids ns zs ≡ dead_routines (map summary_of xs) from
dead_is xs ys zs from ms ns same1 same2 same3 h =
    let r : AreReached xs from ms = subst (λ (ws : List Summary). AreReached ws from ms) same1 h in
    ap (λ (ks : List Bool). other_pids ks zs) same3 ∙ ap (other_pids ms) same2 ∙ others_are (reaches xs from) xs ms r.size r.at

-- ---- what the loop takes from the code

no_summary : Summary
no_summary =
    record {
      pid = 0;
      size = 0;
      charge = 0;
      compact = 0;
      params = 0;
      reads = [];
      returns = 0;
      regs = 0;
      arrays = 0;
      elements = 0;
      entry = 0;
      start_loop = false;
      sites = [];
    }

pub start_as : (xs : List Summary) (from : ℕ) (ms ms1 : List Bool) (fs fs1 : List ℕ) → ms ≡ replicate (length xs) false → fs ≡ []
    → ms1 ≡ set ms (place_of xs from) true → fs1 ≡ noted (place_of xs from) ms fs
    → (State xs from 0 ms1 fs1) × (get_or ms1 (place_of xs from) true ≡ true)
start_as xs from ms ms1 fs fs1 all none marks notes = (
  subst (λ (ns : List Bool). State xs from 0 ns fs1)
      (sym (marks ∙ ap (λ (ns : List Bool). set ns (place_of xs from) true) all))
      (subst (λ (gs : List ℕ). State xs from 0 (set (replicate (length xs) false) (place_of xs from) true) gs)
      (sym (notes ∙ ap (λ (ns : List Bool). noted (place_of xs from) ns fs) all ∙ ap (noted (place_of xs from) (replicate (length xs) false)) none))
      (start_state xs from)),
  ap (λ (ns : List Bool). get_or ns (place_of xs from) true) marks ∙ covered_here ms (place_of xs from),
)

module _ (xs : List Summary) (rising : IsRising pid_of xs) (from next : ℕ) (ms : List Bool) (fs : List ℕ) (st : State xs from next ms fs)
    (first : get_or ms (place_of xs from) true ≡ true) (lt : next < length fs) (at : ℕ) (read : at ≡ get_or fs next at) where
  at_is : get_or fs next 0 ≡ at
  at_is = get_or_default fs next 0 at lt ∙ sym read

  pub at_inside : at < length xs
  at_inside = subst (λ (i : ℕ). i < length xs) at_is (next_inside xs rising from next ms fs st lt)

  pub step_as : (sites : List Site) (ms1 : List Bool) (fs1 : List ℕ) → ((s : Summary) → slice_get xs at ≡ Some s → sites ≡ s.sites)
      → ms1 ≡ seen_all xs sites ms → fs1 ≡ noted_all xs sites ms fs
      → (State xs from (next + 1) ms1 fs1) × (get_or ms1 (place_of xs from) true ≡ true)
  step_as sites ms1 fs1 are marks notes =
      let s : Summary = get_or xs at no_summary in
      let is : slice_get xs at ≡ Some s = slice_get-get_or xs at no_summary at_inside in
      let same : sites ≡ s.sites = are s is in
      let here : slice_get xs (get_or fs next 0) ≡ Some s = ap (slice_get xs) at_is ∙ is in (
        subst (λ (ns : List Bool). State xs from (next + 1) ns fs1) (sym (marks ∙ ap (λ (zs : List Site). seen_all xs zs ms) same))
            (subst (λ (gs : List ℕ). State xs from (next + 1) (seen_all xs s.sites ms) gs) (sym (notes
            ∙ ap (λ (zs : List Site). noted_all xs zs ms fs) same))
            (next_state xs rising from next ms fs st s lt here)),
        ap (λ (ns : List Bool). get_or ns (place_of xs from) true) (marks ∙ ap (λ (zs : List Site). seen_all xs zs ms) same)
            ∙ next_first xs rising from next ms fs st s first,
      )

pub sites_as : (xs : List Summary) (at : ℕ) (d s : Summary) → at < length xs → slice_get xs at ≡ Some s → (get_or xs at d).sites ≡ s.sites
sites_as xs at d s lt e = ap (λ (y : Summary). y.sites) (same_Some (get_or xs at d) s (sym (slice_get-get_or xs at d lt) ∙ e))

-- a PID that isn't there leaves all as it was
pub absent_marks : (ms : List Bool) (p n : ℕ) → p ≡ n → length ms ≡ n → ms ≡ set ms p true
absent_marks ms p n e size = sym (set_past ms p true (omega arith))

pub absent_notes : (ms : List Bool) (fs : List ℕ) (p n : ℕ) → p ≡ n → length ms ≡ n → fs ≡ noted p ms fs
absent_notes ms fs p n e size = sym (ap (λ (k : Bool). if k then fs else fs ++ p ∷ []) (get_or_past ms p true (omega arith)))
