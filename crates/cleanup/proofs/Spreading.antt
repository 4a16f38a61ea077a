-- Marks that spread from the first block along edges.
use Rattle.std.proofs.Common.{◌≡◌, ℕ, zero, suc, ◌+◌, ◌<◌, ◌≤◌, List, [], ◌∷◌, ◌++◌, get_or, set, take, length, Bool, true, false, refl, ap, subst, sym}
use Rattle.std.proofs.Common.{◌∙◌, arith, inl, inr, slice_get, length-set, get_or-set_same, get_or-set_other}
use Rattle.std.specs.Prelude.{Some, None, if◌then◌else◌, replicate}
use Rattle.std.specs.List.{AllByRecursion}
use Rattle.std.proofs.lemmas.Bool.{cases_eq, cases_lt, false≢true}
use Rattle.std.proofs.lemmas.List.{set-get_or, take_at, get_or_read, get_or_push, get_or_append_left, length_push, length-replicate, get_or_past}
use Rattle.std.proofs.lemmas.Option.{same_Some}
use Rattle.il_core.specs.declared.instr.Block.{Block}
use Rattle.il_core.specs.Operands.{targets}
use Rattle.cleanup.specs.Marks.{IsClosed, AreLeast, EndsName, NamesBlocks, seen, noted, noted_all}

-- how many are marked
abbrev pub marked : List Bool → ℕ
marked [] = 0
marked (m ∷ ms) = if m then suc (marked ms) else marked ms

pub marked_few : (ms : List Bool) → marked ms ≤ length ms
marked_few [] = omega arith
marked_few (true ∷ ms) = let h = marked_few ms in omega arith
marked_few (false ∷ ms) = let h = marked_few ms in omega arith

marked_more : (ms : List Bool) (t : ℕ) → t < length ms → get_or ms t false ≡ false → marked (set ms t true) ≡ suc (marked ms)
marked_more [] t lt e = absurd (omega arith)
marked_more (true ∷ ms) zero lt e = absurd (false≢true (sym e))
marked_more (false ∷ ms) zero lt e = refl
marked_more (true ∷ ms) (suc t) lt e = ap suc (marked_more ms t (omega arith) e)
marked_more (false ∷ ms) (suc t) lt e = marked_more ms t (omega arith) e

-- a number of a list, with its place
pub record Listed (fs : List ℕ) (t : ℕ) : Type 0 where
  pub at : ℕ
  pub within : at < length fs
  pub is : get_or fs at 0 ≡ t

-- what is marked is what is noted, and belongs to each closed set
pub record Found (bs : List Block) (ms : List Bool) (fs : List ℕ) : Type 0 where
  pub size : length ms ≡ length bs
  pub count : length fs ≡ marked ms
  pub listed : (t : ℕ) → get_or ms t false ≡ true → Listed fs t
  pub real : (j : ℕ) → j < length fs → get_or ms (get_or fs j 0) false ≡ true
  pub least : (set : ℕ → Bool) → IsClosed bs set → (t : ℕ) → get_or ms t false ≡ true → set t ≡ true

-- a block belongs to each closed set
pub record Belongs (bs : List Block) (t : ℕ) : Type 0 where
  pub by : (set : ℕ → Bool) → IsClosed bs set → set t ≡ true

set_keeps : (ms : List Bool) (t x : ℕ) → t < length ms → get_or ms x false ≡ true → get_or (set ms t true) x false ≡ true
set_keeps ms t x lt e =
    elim (cases_eq x t) [
      | inl same ↦ ap (λ (y : ℕ). get_or (set ms t true) y false) same ∙ get_or-set_same ms t true false lt
      | inr ne ↦ get_or-set_other ms t x true false ne ∙ e
    ]

module _ (bs : List Block) (ms : List Bool) (fs : List ℕ) (t : ℕ) (f : Found bs ms fs) (lt : t < length ms) (belongs : Belongs bs t) where
  old_mark : get_or ms t false ≡ true → Found bs (set ms t true) fs
  old_mark e =
      let same : set ms t true ≡ ms = ap (λ (b : Bool). set ms t b) (sym e) ∙ set-get_or ms t false in
      subst (λ (ns : List Bool). Found bs ns fs) (sym same) f

  new_mark : get_or ms t false ≡ false → Found bs (set ms t true) (fs ++ t ∷ [])
  new_mark e =
      record {
        size = length-set ms t true ∙ f.size;
        count = (let one = length_push fs t in let more = marked_more ms t lt e in let count = f.count in omega arith);
        listed = λ x h. elim (cases_eq x t) [
          | inl same ↦ record { at = length fs; within = (let one = length_push fs t in omega arith); is = get_or_push fs t 0 (length fs) refl ∙ sym same }
          | inr ne ↦ (let was = f.listed x (sym (get_or-set_other ms t x true false ne) ∙ h) in let less = was.within in
              record { at = was.at; within = (let one = length_push fs t in omega arith); is = get_or_append_left fs (t ∷ []) 0 was.at was.within ∙ was.is })
        ];
        real = λ j h. elim (cases_lt j (length fs)) [
          | inl less ↦ ap (λ (y : ℕ). get_or (set ms t true) y false) (get_or_append_left fs (t ∷ []) 0 j less)
              ∙ set_keeps ms t (get_or fs j 0) lt (f.real j less)
          | inr ge ↦ (let one = length_push fs t in let last : length fs ≡ j = omega arith in
              ap (λ (y : ℕ). get_or (set ms t true) y false) (get_or_push fs t 0 j last) ∙ get_or-set_same ms t true false lt)
        ];
        least = λ s closed x h. elim (cases_eq x t) [
          | inl same ↦ ap s same ∙ belongs.by s closed
          | inr ne ↦ f.least s closed x (sym (get_or-set_other ms t x true false ne) ∙ h)
        ];
      }

  found_if : (k : Bool) → get_or ms t false ≡ k → Found bs (set ms t true) (if k then fs else fs ++ t ∷ [])
  found_if true e = old_mark e
  found_if false e = new_mark e

  pub found_one : Found bs (set ms t true) (noted t ms fs)
  found_one = found_if (get_or ms t false) refl

found_all : (bs : List Block) (ts : List ℕ) (ms : List Bool) (fs : List ℕ) → Found bs ms fs → AllByRecursion (λ t. t < length ms) ts
    → AllByRecursion (Belongs bs) ts
    → Found bs (seen ts ms) (noted_all ts ms fs)
found_all bs [] ms fs f lt h = f
found_all bs (t ∷ ts) ms fs f lt h =
    found_all bs ts (set ms t true) (noted t ms fs) (found_one bs ms fs t f lt.0 h.0)
    (subst (λ (n : ℕ). AllByRecursion (λ u. u < n) ts) (sym (length-set ms t true)) lt.1) h.1

seen_keeps : (ts : List ℕ) (ms : List Bool) (x : ℕ) → AllByRecursion (λ t. t < length ms) ts → get_or ms x false ≡ true → get_or (seen ts ms) x false ≡ true
seen_keeps [] ms x lt e = e
seen_keeps (t ∷ ts) ms x lt e =
    seen_keeps ts (set ms t true) x (subst (λ (n : ℕ). AllByRecursion (λ u. u < n) ts) (sym (length-set ms t true)) lt.1) (set_keeps ms t x lt.0 e)

keep_all : (ts us : List ℕ) (ms : List Bool) → AllByRecursion (λ t. t < length ms) ts → AllByRecursion (λ u. get_or ms u false ≡ true) us
    → AllByRecursion (λ u. get_or (seen ts ms) u false ≡ true) us
keep_all ts [] ms lt h = tt
keep_all ts (u ∷ us) ms lt h = (seen_keeps ts ms u lt h.0, keep_all ts us ms lt h.1)

seen_has : (ts : List ℕ) (ms : List Bool) → AllByRecursion (λ t. t < length ms) ts → AllByRecursion (λ t. get_or (seen ts ms) t false ≡ true) ts
seen_has [] ms lt = tt
seen_has (t ∷ ts) ms lt =
    let rest = subst (λ (n : ℕ). AllByRecursion (λ u. u < n) ts) (sym (length-set ms t true)) lt.1 in
    (seen_keeps ts (set ms t true) t rest (get_or-set_same ms t true false lt.0), seen_has ts (set ms t true) rest)

-- what was noted stays in its place
abbrev Extends : List ℕ → List ℕ → Type 0
Extends fs gs = (length fs ≤ length gs) × ((j : ℕ) → j < length fs → get_or gs j 0 ≡ get_or fs j 0)

noted_one : (t : ℕ) (fs : List ℕ) (k : Bool) → Extends fs (if k then fs else fs ++ t ∷ [])
noted_one t fs true = (omega arith, λ j lt. refl)
noted_one t fs false = (let one = length_push fs t in omega arith, λ j lt. get_or_append_left fs (t ∷ []) 0 j lt)

noted_keeps : (ts : List ℕ) (ms : List Bool) (fs : List ℕ) → Extends fs (noted_all ts ms fs)
noted_keeps [] ms fs = (omega arith, λ j lt. refl)
noted_keeps (t ∷ ts) ms fs =
    let one = noted_one t fs (get_or ms t false) in
    let more = noted_keeps ts (set ms t true) (noted t ms fs) in
    (omega (arith, one.0, more.0), λ j lt. more.1 j (omega (arith, one.0)) ∙ one.1 j lt)

-- ---- the loop

-- the first so many that are noted have the blocks to which they go marked
pub record Spread (bs : List Block) (next : ℕ) (ms : List Bool) (fs : List ℕ) : Type 0 where
  pub found : Found bs ms fs
  pub behind : next ≤ length fs
  pub first : get_or ms 0 false ≡ true
  pub closed : (j : ℕ) → j < next → (y : Block) → slice_get bs (get_or fs j 0) ≡ Some y → AllByRecursion (λ u. get_or ms u false ≡ true) (targets y.end)

pub spread_few : (bs : List Block) (next : ℕ) (ms : List Bool) (fs : List ℕ) → Spread bs next ms fs → length fs ≤ length bs
spread_few bs next ms fs s = let few = marked_few ms in let count = s.found.count in let size = s.found.size in omega arith

all_belong : (bs : List Block) (ts : List ℕ) → ((set : ℕ → Bool) → IsClosed bs set → AllByRecursion (λ u. set u ≡ true) ts) → AllByRecursion (Belongs bs) ts
all_belong bs [] h = tt
all_belong bs (t ∷ ts) h = (record { by = λ s closed. (h s closed).0 }, all_belong bs ts (λ s closed. (h s closed).1))

named_at : (n : ℕ) (bs : List Block) (t : ℕ) (y : Block) → EndsName n bs → slice_get bs t ≡ Some y → NamesBlocks n y.end
named_at n [] t y h e = let bad : None ≡ Some y = e in absurd cc
named_at n (x ∷ bs) zero y h e = let same : x ≡ y = cc in subst (λ (z : Block). NamesBlocks n z.end) same h.0
named_at n (x ∷ bs) (suc t) y h e = named_at n bs t y h.1 e

get_here : (bs : List Block) (t : ℕ) (y : Block) → t < length bs → y ≡ get_or bs t y → slice_get bs t ≡ Some y
get_here [] t y lt e = absurd (omega arith)
get_here (x ∷ bs) zero y lt e = ap Some (sym e)
get_here (x ∷ bs) (suc t) y lt e = get_here bs t y (omega arith) e

inside : (ms : List Bool) (t : ℕ) → get_or ms t false ≡ true → t < length ms
inside ms t e = elim (cases_lt t (length ms)) [ inl lt ↦ lt | inr ge ↦ absurd (false≢true (sym (get_or_past ms t false ge) ∙ e)) ]

module _ (bs : List Block) (next : ℕ) (ms : List Bool) (fs : List ℕ) (named : EndsName (length bs) bs) (s : Spread bs next ms fs) (lt : next < length fs) where
  -- the block that comes next is there
  pub next_inside : get_or fs next 0 < length bs
  next_inside = let size = s.found.size in let h = inside ms (get_or fs next 0) (s.found.real next lt) in omega arith

  module _ (y : Block) (is : slice_get bs (get_or fs next 0) ≡ Some y) where
    pub next_names : NamesBlocks (length ms) y.end
    next_names = subst (λ (n : ℕ). NamesBlocks n y.end) (sym s.found.size) (named_at (length bs) bs (get_or fs next 0) y named is)

    pub spread_more : Spread bs (next + 1) (seen (targets y.end) ms) (noted_all (targets y.end) ms fs)
    spread_more =
        let ts = targets y.end in
        let grows = noted_keeps ts ms fs in
        let belongs = all_belong bs ts (λ set closed. closed.goes (get_or fs next 0) y is (s.found.least set closed (get_or fs next 0) (s.found.real next lt)))
        in
        record {
          found = found_all bs ts ms fs s.found next_names belongs;
          behind = omega (arith, grows.0);
          first = seen_keeps ts ms 0 next_names s.first;
          closed = λ j less z e. elim (cases_lt j next) [
            | inl before ↦ (
                let within : j < length fs = omega arith in
                keep_all ts (targets z.end) ms next_names
                (s.closed j before z (ap (λ (t : ℕ). slice_get bs t) (sym (grows.1 j within)) ∙ e)))
            | inr ge ↦ (
                let here : j ≡ next = omega arith in
                let same : y ≡ z = same_Some y z (sym is ∙ ap (λ (t : ℕ). slice_get bs t)
                (sym (grows.1 next lt) ∙ ap (λ (i : ℕ). get_or (noted_all ts ms fs) i 0) (sym here)) ∙ e) in
                subst (λ (w : Block). AllByRecursion (λ u. get_or (seen ts ms) u false ≡ true) (targets w.end)) same (seen_has ts ms next_names))
          ];
        }

pub spread_least : (bs : List Block) (next : ℕ) (ms : List Bool) (fs : List ℕ) → Spread bs next ms fs → length fs ≤ next → AreLeast bs ms
spread_least bs next ms fs s all =
    record {
      size = s.found.size;
      closed = record {
        first = s.first;
        goes = λ t y e h. (
            let at = s.found.listed t h in
            let within = at.within in
            s.closed at.at (omega arith) y (ap (λ (u : ℕ). slice_get bs u) at.is ∙ e));
      };
      least = s.found.least;
    }

-- nothing is marked
unmarked : (n t : ℕ) → get_or (replicate n false) t false ≡ false
unmarked zero t = refl
unmarked (suc n) zero = refl
unmarked (suc n) (suc t) = unmarked n t

none_marked : (n : ℕ) → marked (replicate n false) ≡ 0
none_marked zero = refl
none_marked (suc n) = none_marked n

pub spread_first : (bs : List Block) → 0 < length bs → Spread bs 0 (set (replicate (length bs) false) 0 true) (noted 0 (replicate (length bs) false) [])
spread_first bs some =
    let size = length-replicate (length bs) false in
    let none = unmarked (length bs) in
    let empty : Found bs (replicate (length bs) false) [] =
    record {
      size = size;
      count = sym (none_marked (length bs));
      listed = λ t e. absurd (false≢true (sym (none t) ∙ e));
      real = λ j lt. absurd (omega arith);
      least = λ s closed t e. absurd (false≢true (sym (none t) ∙ e));
    } in
    record {
      found = found_one bs (replicate (length bs) false) [] 0 empty (omega arith) (record { by = λ s closed. closed.first });
      behind = omega arith;
      first = get_or-set_same (replicate (length bs) false) 0 true false (omega arith);
      closed = λ j lt. absurd (omega arith);
    }

-- ---- what the loop takes from the code

pub init_as : (bs : List Block) (ms now rest : List Bool) (fs gs : List ℕ) (len : ℕ) → 0 < length bs → ms ≡ replicate (length bs) false → fs ≡ []
    → now ≡ set ms 0 true → gs ≡ noted 0 ms fs → length now ≡ len → Spread bs 0 (take len (now ++ rest)) gs
init_as bs ms now rest fs gs len some none empty is noted_is size =
    let marks : take len (now ++ rest) ≡ set (replicate (length bs) false) 0 true =
    take_at now rest len size ∙ is ∙ ap (λ (ns : List Bool). set ns 0 true) none in
    let found : gs ≡ noted 0 (replicate (length bs) false) [] =
    noted_is ∙ ap (λ (ns : List Bool). noted 0 ns fs) none ∙ ap (λ (hs : List ℕ). noted 0 (replicate (length bs) false) hs) empty in
    subst (λ (ns : List Bool). Spread bs 0 ns gs) (sym marks)
    (subst (λ (hs : List ℕ). Spread bs 0 (set (replicate (length bs) false) 0 true) hs) (sym found) (spread_first bs some))

module _ (bs : List Block) (next : ℕ) (ms : List Bool) (fs : List ℕ) (named : EndsName (length bs) bs) (s : Spread bs next ms fs) (lt : next < length fs)
    (b : ℕ) (read : b ≡ get_or fs next b) where
  same_block : b ≡ get_or fs next 0
  same_block = get_or_read fs next b lt read 0

  pub block_inside : b < length bs
  block_inside = subst (λ (t : ℕ). t < length bs) (sym same_block) (next_inside bs next ms fs named s lt)

  module _ (d : Block) (is : d ≡ get_or bs b d) where
    here : slice_get bs (get_or fs next 0) ≡ Some (get_or bs b d)
    here =
        ap (λ (t : ℕ). slice_get bs t) (sym same_block)
        ∙ get_here bs b (get_or bs b d) block_inside (ap (λ (y : Block). get_or bs b y) is)

    pub block_names : (n : ℕ) → n ≡ length ms → NamesBlocks n (get_or bs b d).end
    block_names n size =
        subst (λ (m : ℕ). NamesBlocks m (get_or bs b d).end) (sym size) (next_names bs next ms fs named s lt (get_or bs b d) here)

    pub more_as : (was now rest : List Bool) (gs : List ℕ) (len : ℕ) → was ≡ ms → now ≡ seen (targets (get_or bs b d).end) was
        → gs ≡ noted_all (targets (get_or bs b d).end) was fs → length now ≡ len → Spread bs (next + 1) (take len (now ++ rest)) gs
    more_as was now rest gs len same is_now is_found size =
        let ts = targets (get_or bs b d).end in
        let marks : take len (now ++ rest) ≡ seen ts ms = take_at now rest len size ∙ is_now ∙ ap (seen ts) same in
        let found : gs ≡ noted_all ts ms fs = is_found ∙ ap (λ (ns : List Bool). noted_all ts ns fs) same in
        subst (λ (ns : List Bool). Spread bs (next + 1) ns gs) (sym marks)
        (subst (λ (hs : List ℕ). Spread bs (next + 1) (seen ts ms) hs) (sym found)
        (spread_more bs next ms fs named s lt (get_or bs b d) here))
