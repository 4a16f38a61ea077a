-- Facts, live registers and reachable blocks in other words.
use Rattle.std.proofs.Common.{◌≡◌, ℕ, zero, suc, ◌+◌, ◌<◌, ◌⊎◌, List, [], ◌∷◌, Bool, true, false, refl, ap, subst, sym, ◌∙◌, arith, length, slice_get}
use Rattle.std.proofs.Common.{inl, inr, eq-eqb, eqb-true, ne_eqb}
use Rattle.std.specs.Prelude.{nat_eq, nat_lt, ◌&&◌, ◌||◌, if◌then◌else◌, Option, Some, None, map}
use Rattle.std.specs.List.{AllByRecursion, list_any}
use Rattle.std.proofs.lemmas.Bool.{cases_lt, false≢true}
use Rattle.std.proofs.lemmas.Option.{none-some, same_Some}
use Rattle.il_core.specs.declared.instr.Block.{Block}
use Rattle.il_core.specs.declared.instr.End.{End}
use Rattle.il_core.specs.declared.instr.End.TheVariants as ends
use Rattle.il_core.specs.Routine.{RoutineParts}
use Rattle.il_core.specs.Operands.{targets}
use Rattle.il_laws.specs.Facts.{Facts, through, written, jumps_to, both_know, meet, arriving, known, one_more, before, facts_at}
use Rattle.il_laws.specs.Live.{Live, live_at}
use Rattle.il_laws.specs.Unreachable.{goes_to, grown_from, grown, rounds, first_marked, reachable}
use Rattle.il_laws.specs.FlowLaws.{Jumper, AllKnow, SomeJumper, FactsMeet, LiveFlows, IsClosedSet, ReachableIsLeast}
use Rattle.il_laws.proofs.Arrives.{both_first, both_second}
use Rattle.il_laws.proofs.LiveStarts.{starts_at}
use Rattle.il_laws.proofs.Reached.{reachable_closed}
use Rattle.il_laws.proofs.Renumbered.{Marked}
use Rattle.il_laws.proofs.Sound.{Targets, are_forward, valid_sound}
use Rattle.std.proofs.lemmas.Bool.{or_cases}
use Rattle.list_laws.proofs.Tests.{and_first, and_second}

-- ---- facts

both_up : (p q : Option ℕ) (v : ℕ) → p ≡ Some v → q ≡ Some v → both_know p q ≡ Some v
both_up (Some a) (Some b) v e h =
    let same : nat_eq a b ≡ true = eq-eqb a b (same_Some a v e ∙ sym (same_Some b v h)) in
    ap (λ (k : Bool). if k then Some a else None) same ∙ e
both_up (Some a) None v e h = absurd (none-some v h)
both_up None q v e h = absurd (none-some v e)

module _ (r : RoutineParts) (b : ℕ) where
  -- block t, before block u, jumps to block b
  record Comes (u t : ℕ) : Type 0 where
    block : Block
    is : slice_get r.blocks t ≡ Some block
    before_u : t < u
    jumps : jumps_to block.end b ≡ true

  abbrev Ends : Block → ℕ → ℕ → ℕ → Type 0
  Ends y t x v = through y.instrs (facts_at r t) x ≡ Some v

  -- the facts that come from blocks before block u are those that all of them have
  record Met (u : ℕ) (o : Option Facts) : Type 0 where
    none : o ≡ None → (t : ℕ) → Comes u t → ⊥
    some : (fs : Facts) → o ≡ Some fs → (t : ℕ) × Comes u t
    down : (fs : Facts) → o ≡ Some fs → (x v : ℕ) → fs x ≡ Some v → (t : ℕ) (j : Comes u t) → Ends j.block t x v
    up : (fs : Facts) → o ≡ Some fs → (x v : ℕ) → ((t : ℕ) (j : Comes u t) → Ends j.block t x v) → fs x ≡ Some v

  abbrev longer : (u t : ℕ) → Comes u t → Comes (suc u) t
  longer u t j = let lt = j.before_u in record { block = j.block; is = j.is; before_u = omega arith; jumps = j.jumps }

  -- a block before block u + 1 is block u or before it
  comes_case : (u t : ℕ) → Comes (suc u) t → (t ≡ u) ⊎ Comes u t
  comes_case u t j =
      let lt = j.before_u in
      elim (cases_lt t u) [
        | inl less ↦ inr (record { block = j.block; is = j.is; before_u = less; jumps = j.jumps })
        | inr ge ↦ inl (omega arith)
      ]

  at_u : (u t x v : ℕ) (y z : Block) → slice_get r.blocks u ≡ Some y → slice_get r.blocks t ≡ Some z → t ≡ u → Ends y u x v → Ends z t x v
  at_u u t x v y z ey ez e h =
      let same : z ≡ y = same_Some z y (sym ez ∙ ap (λ (s : ℕ). slice_get r.blocks s) e ∙ ey) in
      subst (λ (s : ℕ). Ends z s x v) (sym e) (subst (λ (q : Block). Ends q u x v) (sym same) h)

  -- no block u, or one that doesn't jump to block b
  met_same : (u : ℕ) (o : Option Facts) → ((t : ℕ) → Comes (suc u) t → t ≡ u → ⊥) → Met u o → Met (suc u) o
  met_same u o none_here m =
      let old = λ (t : ℕ) (j : Comes (suc u) t). elim (comes_case u t j) as (λ (s : (t ≡ u) ⊎ Comes u t). Comes u t) [
        | inl e ↦ absurd (none_here t j e)
        | inr h ↦ h
      ] in
      record {
        none = λ e t j. m.none e t (old t j);
        some = λ fs e. (let s = m.some fs e in (s.0, longer u s.0 s.1));
        down = λ fs e x v h t j. elim (comes_case u t j) [
          | inl here ↦ absurd (none_here t j here)
          | inr k ↦ subst (λ (z : Block). Ends z t x v) (same_Some k.block j.block (sym k.is ∙ j.is)) (m.down fs e x v h t k)
        ];
        up = λ fs e x v h. m.up fs e x v (λ t j. h t (longer u t j));
      }

  module _ (u : ℕ) (y : Block) (is : slice_get r.blocks u ≡ Some y) where
    abbrev facts : Facts
    facts = through y.instrs (facts_at r u)

    met_down : (o : Option Facts) → Met u o → (x v : ℕ) → meet facts o x ≡ Some v → (t : ℕ) (j : Comes (suc u) t) → Ends j.block t x v
    met_down None m x v h t j =
        elim (comes_case u t j) [
          | inl e ↦ at_u u t x v y j.block is j.is e h
          | inr k ↦ absurd (m.none refl t k)
        ]
    met_down (Some gs) m x v h t j =
        elim (comes_case u t j) [
          | inl e ↦ at_u u t x v y j.block is j.is e (both_first (facts x) (gs x) v h)
          | inr k ↦ subst (λ (z : Block). Ends z t x v) (same_Some k.block j.block (sym k.is ∙ j.is))
              (m.down gs refl x v (both_second (facts x) (gs x) v h) t k)
        ]

    met_up : (o : Option Facts) → Met u o → (j : Comes (suc u) u) → (x v : ℕ) → ((t : ℕ) (k : Comes (suc u) t) → Ends k.block t x v)
        → meet facts o x ≡ Some v
    met_up None m j x v h = subst (λ (z : Block). Ends z u x v) (same_Some j.block y (sym j.is ∙ is)) (h u j)
    met_up (Some gs) m j x v h =
        both_up (facts x) (gs x) v (subst (λ (z : Block). Ends z u x v) (same_Some j.block y (sym j.is ∙ is)) (h u j))
        (m.up gs refl x v (λ t k. h t (longer u t k)))

    met_if : (k : Bool) → jumps_to y.end b ≡ k → (o : Option Facts) → Met u o → Met (suc u) (if k then Some (meet facts o) else o)
    met_if false e o m =
        met_same u o (λ t j here.
        let same : j.block ≡ y = same_Some j.block y (sym j.is ∙ ap (λ (s : ℕ). slice_get r.blocks s) here ∙ is) in
        false≢true (sym e ∙ ap (λ (z : Block). jumps_to z.end b) (sym same) ∙ j.jumps)) m
    met_if true e o m =
        let here : Comes (suc u) u = record { block = y; is = is; before_u = omega arith; jumps = e } in
        record {
          none = λ bad. absurd (none-some (meet facts o) (sym bad));
          some = λ fs eq. (u, here);
          down = λ fs eq x v h t j. met_down o m x v (ap (λ (g : Facts). g x) (same_Some (meet facts o) fs eq) ∙ h) t j;
          up = λ fs eq x v h. ap (λ (g : Facts). g x) (sym (same_Some (meet facts o) fs eq)) ∙ met_up o m here x v h;
        }

  met_more : (u : ℕ) (ob : Option Block) → slice_get r.blocks u ≡ ob → Met u (arriving b (before r u))
      → Met (suc u) (arriving b (one_more r u ob (before r u)))
  met_more u None e m =
      met_same u (arriving b (before r u)) (λ t j here.
      none-some j.block (sym e ∙ ap (λ (s : ℕ). slice_get r.blocks s) (sym here) ∙ j.is)) m
  met_more u (Some y) e m = met_if u y e (jumps_to y.end b) refl (arriving b (before r u)) m

  met : (u : ℕ) → Met u (arriving b (before r u))
  met zero = record {
    none = λ e t j. (let lt = j.before_u in absurd (omega arith));
    some = λ fs e. absurd (none-some fs e);
    down = λ fs e. absurd (none-some fs e);
    up = λ fs e. absurd (none-some fs e);
  }
  met (suc u) = met_more u (slice_get r.blocks u) refl (met u)

  abbrev comes : (t : ℕ) → Jumper r b t → Comes b t
  comes t j = record { block = j.block; is = j.is; before_u = j.earlier; jumps = j.jumps }

  abbrev jumper : (t : ℕ) → Comes b t → Jumper r b t
  jumper t j = record { block = j.block; is = j.is; earlier = j.before_u; jumps = j.jumps }

  known_down : (o : Option Facts) → Met b o → (x v : ℕ) → known o x ≡ Some v → SomeJumper r b × AllKnow r b x v
  known_down None m x v h = absurd (none-some v h)
  known_down (Some fs) m x v h =
      let s = m.some fs refl in
      (record { at = s.0; jumper = jumper s.0 s.1 }, record { by = λ t j. m.down fs refl x v h t (comes t j) })

  known_up : (o : Option Facts) → Met b o → (x v : ℕ) → SomeJumper r b → AllKnow r b x v → known o x ≡ Some v
  known_up None m x v s all = absurd (m.none refl s.at (comes s.at s.jumper))
  known_up (Some fs) m x v s all = m.up fs refl x v (λ t j. all.by t (jumper t j))

pub facts_meet : FactsMeet
facts_meet r b x v ne loop =
    let not_first = ne_eqb b 0 ne in
    let same : facts_at r b x ≡ known (arriving b (before r b)) x =
    ap (λ (k : Bool). if k then (if nat_lt x r.params || written r.blocks x then None else Some 0)
    else if nat_eq b 0 then (if nat_lt x r.params then None else Some 0) else known (arriving b (before r b)) x) loop
    ∙ ap (λ (k : Bool). if k then (if nat_lt x r.params then None else Some 0) else known (arriving b (before r b)) x) not_first in (
      λ h. known_down r b (arriving b (before r b)) (met r b b) x v (sym same ∙ h),
      λ s all. same ∙ known_up r b (arriving b (before r b))
          (met r b b) x v s all,
    )

-- ---- live registers

pub live_flows : LiveFlows
live_flows rows r valid t y e x =
    let here : t ≡ 0 + t = omega arith in
    ap (λ (u : ℕ). live_at r.blocks u x) here
    ∙ ap (λ (l : Live). l x) (starts_at r.blocks 0 r.blocks t y e (are_forward r.blocks (valid_sound rows r valid)))

-- ---- reachable blocks

targets_all : (P : ℕ → Type 0) (e : End) → Targets P e → AllByRecursion P (targets e)
targets_all P (ends.Jump t) h = (h, tt)
targets_all P (ends.Branch r t u) h = (h.0, (h.1, tt))
targets_all P (ends.Loop t) h = (h, tt)
targets_all P (ends.Return r) h = tt
targets_all P (ends.Exit r) h = tt

all_named : (P : ℕ → Type 0) (us : List ℕ) (t : ℕ) → AllByRecursion P us → list_any (nat_eq t) us ≡ true → P t
all_named P [] t all e = absurd (false≢true e)
all_named P (u ∷ us) t all e =
    elim (or_cases (nat_eq t u) (list_any (nat_eq t) us) e) [ inl h ↦ subst P (sym (eqb-true t u h)) all.0 | inr h ↦ all_named P us t all.1 h ]

grown_is : (gone : ℕ → Bool) (b : ℕ) (ms : List Bool) (i : ℕ) → Marked (grown_from gone b ms) i → Marked ms i ⊎ (gone (b + i) ≡ true)
grown_is gone b [] i m = inl m
grown_is gone b (k ∷ ms) zero m =
    let here : b ≡ b + 0 = omega arith in
    elim (or_cases k (gone b) (same_Some (k || gone b) true m)) [ inl h ↦ inl (ap Some h) | inr h ↦ inr (ap gone (sym here) ∙ h) ]
grown_is gone b (k ∷ ms) (suc i) m =
    let there : b + suc i ≡ suc b + i = omega arith in
    elim (grown_is gone (suc b) ms i m) [ inl h ↦ inl h | inr h ↦ inr (ap gone there ∙ h) ]

-- a marked block that goes to block t
record GoesTo (ms : List Bool) (bs : List Block) (t : ℕ) : Type 0 where
  at : ℕ
  block : Block
  is : slice_get bs at ≡ Some block
  mark : Marked ms at
  goes : list_any (nat_eq t) (targets block.end) ≡ true

goes_from : (ms : List Bool) (bs : List Block) (t : ℕ) → goes_to ms bs t ≡ true → GoesTo ms bs t
goes_from [] bs t e = absurd (false≢true e)
goes_from (m ∷ ms) [] t e = absurd (false≢true e)
goes_from (m ∷ ms) (x ∷ bs) t e =
    elim (or_cases (m && list_any (nat_eq t) (targets x.end)) (goes_to ms bs t) e) [
      | inl h ↦ record {
        at = 0;
        block = x;
        is = refl;
        mark = ap Some (and_first m (list_any (nat_eq t) (targets x.end)) h);
        goes = and_second m (list_any (nat_eq t) (targets x.end)) h;
      }
      | inr h ↦ (let g = goes_from ms bs t h in record { at = suc g.at; block = g.block; is = g.is; mark = g.mark; goes = g.goes })
    ]

module _ (r : RoutineParts) (P : ℕ → Type 0) (closed : IsClosedSet r P) where
  grown_inside : (ms : List Bool) → ((t : ℕ) → Marked ms t → P t) → (t : ℕ) → Marked (grown r.blocks ms) t → P t
  grown_inside ms inside t m =
      elim (grown_is (goes_to ms r.blocks) 0 ms t m) [
        | inl h ↦ inside t h
        | inr h ↦ (let here : 0 + t ≡ t = omega arith in
            let g = goes_from ms r.blocks t (ap (goes_to ms r.blocks) (sym here) ∙ h) in
            all_named P (targets g.block.end) t (closed.goes g.at g.block g.is (inside g.at g.mark)) g.goes)
      ]

  rounds_inside : (n : ℕ) (ms : List Bool) → ((t : ℕ) → Marked ms t → P t) → (t : ℕ) → Marked (rounds r.blocks n ms) t → P t
  rounds_inside zero ms inside t m = inside t m
  rounds_inside (suc n) ms inside t m = rounds_inside n (grown r.blocks ms) (grown_inside ms inside) t m

  unmarked : (xs : List Block) (i : ℕ) → slice_get (map (λ (y : Block). false) xs) i ≡ Some true → ⊥
  unmarked [] i e = none-some true e
  unmarked (x ∷ xs) zero e = false≢true (same_Some false true e)
  unmarked (x ∷ xs) (suc i) e = unmarked xs i e

  first_inside : (bs : List Block) (t : ℕ) → Marked (first_marked bs) t → P t
  first_inside [] t m = absurd (none-some true m)
  first_inside (x ∷ xs) zero m = closed.first
  first_inside (x ∷ xs) (suc t) m = absurd (unmarked xs t m)

pub reachable_is_least : ReachableIsLeast
reachable_is_least rows r valid =
    let closed = reachable_closed r.blocks (valid_sound rows r valid) in (
      record { first = closed.first; goes = λ t y e m. targets_all (Marked (reachable r.blocks)) y.end (closed.goes t y e m) },
      λ set inside t m. rounds_inside r (λ u. set u ≡ true) inside (length r.blocks) (first_marked r.blocks)
          (first_inside r (λ u. set u ≡ true) inside r.blocks) t m,
    )
