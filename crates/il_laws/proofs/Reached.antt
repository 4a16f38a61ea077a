-- As many rounds as there are blocks reach all blocks that can be reached.
use Rattle.std.proofs.Common.{◌≡◌, ℕ, zero, suc, ◌+◌, ◌<◌, ◌≤◌, ◌⊎◌, List, [], ◌∷◌, Bool, true, false, refl, ap, ap₂, sym, ◌∙◌, arith, length}
use Rattle.std.proofs.Common.{slice_get, inl, inr, eq-eqb}
use Rattle.std.specs.Prelude.{nat_eq, ◌&&◌, ◌||◌, Some}
use Rattle.std.specs.List.{list_any}
use Rattle.std.proofs.lemmas.Option.{none-some, same_Some}
use Rattle.std.proofs.lemmas.List.{length-map}
use Rattle.il_core.specs.declared.instr.Block.{Block}
use Rattle.il_core.specs.declared.instr.End.{End}
use Rattle.il_core.specs.declared.instr.End.TheVariants as ends
use Rattle.il_core.specs.Operands.{targets}
use Rattle.il_laws.specs.Edges.{one_if}
use Rattle.il_laws.specs.Unreachable.{goes_to, grown_from, grown, rounds, first_marked, reachable}
use Rattle.il_laws.proofs.Sound.{Targets, targets_map, both_targets, Sound}
use Rattle.il_laws.proofs.Renumbered.{Marked, IsClosed}
use Rattle.std.proofs.lemmas.Bool.{or_left, or_right}
use Rattle.list_laws.proofs.Tests.{or_yes}

abbrev count : List Bool → ℕ
count [] = 0
count (m ∷ ms) = one_if m + count ms

marks_in : (ms : List Bool) → count ms ≤ length ms
marks_in [] = omega arith
marks_in (true ∷ ms) = let less = marks_in ms in omega arith
marks_in (false ∷ ms) = let less = marks_in ms in omega arith

module _ (gone : ℕ → Bool) where
  grown_length : (b : ℕ) (ms : List Bool) → length (grown_from gone b ms) ≡ length ms
  grown_length b [] = refl
  grown_length b (m ∷ ms) = ap suc (grown_length (suc b) ms)

  -- nothing is added, or there are more marks
  abbrev More : ℕ → List Bool → Type 0
  More b ms = (grown_from gone b ms ≡ ms) ⊎ (count ms < count (grown_from gone b ms))

  more_behind : (b : ℕ) (m : Bool) (ms : List Bool) (k : Bool) → gone b ≡ k → More (suc b) ms → More b (m ∷ ms)
  more_behind b true ms k e (inl same) = inl (ap (λ (l : List Bool). true ∷ l) same)
  more_behind b true ms k e (inr less) = inr (omega arith)
  more_behind b false ms false e (inl same) = inl (ap₂ {A = Bool} {B = List Bool} {C = List Bool} (λ k l. k ∷ l) e same)
  more_behind b false ms false e (inr less) = inr (let one = ap one_if e in omega arith)
  more_behind b false ms true e (inl same) = inr (let one = ap one_if e in let size = ap count same in omega arith)
  more_behind b false ms true e (inr less) = inr (let one = ap one_if e in omega arith)

  more : (b : ℕ) (ms : List Bool) → More b ms
  more b [] = inl refl
  more b (m ∷ ms) = more_behind b m ms (gone b) refl (more (suc b) ms)

  grown_mark : (b : ℕ) (ms : List Bool) (i : ℕ) → Marked ms i → Marked (grown_from gone b ms) i
  grown_mark b [] i e = e
  grown_mark b (m ∷ ms) zero e = ap (λ (k : Bool). Some (k || gone b)) (same_Some m true e)
  grown_mark b (m ∷ ms) (suc i) e = grown_mark (suc b) ms i e

  -- where it adds nothing, what is gone to is marked
  grown_at : (b : ℕ) (ms : List Bool) (i : ℕ) → i < length ms → gone (b + i) ≡ true → Marked (grown_from gone b ms) i
  grown_at b [] i lt e = absurd (omega arith)
  grown_at b (m ∷ ms) zero lt e = let here : b ≡ b + 0 = omega arith in ap (λ (k : Bool). Some (m || k)) (ap gone here ∙ e)
      ∙ ap (λ (k : Bool). Some k) (or_yes m)
  grown_at b (m ∷ ms) (suc i) lt e =
      let there : suc b + i ≡ b + suc i = omega arith in
      let less : suc i < suc (length ms) = lt in
      grown_at (suc b) ms i (omega arith) (ap gone there ∙ e)

goes_here : (ms : List Bool) (bs : List Block) (t u : ℕ) (x : Block) → slice_get bs u ≡ Some x → Marked ms u → list_any (nat_eq t) (targets x.end)
    ≡ true
    → goes_to ms bs t ≡ true
goes_here [] bs t u x e m lt = absurd (none-some true m)
goes_here (k ∷ ms) [] t u x e m lt = absurd (none-some x e)
goes_here (k ∷ ms) (y ∷ bs) t zero x e m lt =
    let here : list_any (nat_eq t) (targets y.end) ≡ true = ap (λ (z : Block). list_any (nat_eq t) (targets z.end)) (same_Some y x e) ∙ lt in
    ap₂ {A = Bool} {B = Bool} {C = Bool} (λ a b. (a && b) || goes_to ms bs t) (same_Some k true m) here
goes_here (k ∷ ms) (y ∷ bs) t (suc u) x e m lt =
    or_right (k && list_any (nat_eq t) (targets y.end)) (goes_to ms bs t) (goes_here ms bs t u x e m lt)

targets_named : (e : End) → Targets (λ u. list_any (nat_eq u) (targets e) ≡ true) e
targets_named (ends.Jump u) = or_left (nat_eq u u) false (eq-eqb u u refl)
targets_named (ends.Branch r u v) = (
  or_left (nat_eq u u) (nat_eq u v || false) (eq-eqb u u refl),
  or_right (nat_eq v u) (nat_eq v v || false) (or_left (nat_eq v v) false (eq-eqb v v refl)),
)
targets_named (ends.Loop u) = or_left (nat_eq u u) false (eq-eqb u u refl)
targets_named (ends.Return r) = tt
targets_named (ends.Exit r) = tt

module _ (bs : List Block) where
  rounds_length : (n : ℕ) (ms : List Bool) → length (rounds bs n ms) ≡ length ms
  rounds_length zero ms = refl
  rounds_length (suc n) ms = rounds_length n (grown bs ms) ∙ grown_length (goes_to ms bs) 0 ms

  rounds_fixed : (n : ℕ) (ms : List Bool) → grown bs ms ≡ ms → rounds bs n ms ≡ ms
  rounds_fixed zero ms e = refl
  rounds_fixed (suc n) ms e = ap (λ (l : List Bool). rounds bs n l) e ∙ rounds_fixed n ms e

  rounds_mark : (n : ℕ) (ms : List Bool) (i : ℕ) → Marked ms i → Marked (rounds bs n ms) i
  rounds_mark zero ms i e = e
  rounds_mark (suc n) ms i e = rounds_mark n (grown bs ms) i (grown_mark (goes_to ms bs) 0 ms i e)

  rounds_more : (n : ℕ) (ms : List Bool) → (grown bs (rounds bs n ms) ≡ rounds bs n ms) ⊎ (count ms + n ≤ count (rounds bs n ms))
  rounds_more zero ms = inr (omega arith)
  rounds_more (suc n) ms =
      elim (more (goes_to ms bs) 0 ms) [
        | inl same ↦ (let fixed : rounds bs n (grown bs ms) ≡ ms = ap (λ (l : List Bool). rounds bs n l) same ∙ rounds_fixed n ms same in
            inl (ap (grown bs) fixed ∙ same ∙ sym fixed))
        | inr less ↦ elim (rounds_more n (grown bs ms)) [
          | inl done ↦ inl done
          | inr many ↦ inr (omega arith)
        ]
      ]

  -- marks to which a round adds nothing are closed
  fixed_closed : (ms : List Bool) → Sound bs → length ms ≡ length bs → Marked ms 0 → grown bs ms ≡ ms → IsClosed ms bs
  fixed_closed ms sound size first fixed =
      record {
        first = first;
        goes = λ t x e m. targets_map (λ u. (u < length bs) × (list_any (nat_eq u) (targets x.end) ≡ true)) (Marked ms) (λ u p.
            let lt = p.0 in
            let here : u ≡ 0 + u = omega arith in
            ap (λ (l : List Bool). slice_get l u) (sym fixed) ∙ grown_at (goes_to ms bs) 0 ms u (omega arith)
            (ap (goes_to ms bs) (sym here) ∙ goes_here ms bs u t x e m p.1))
            x.end (both_targets (λ u. u < length bs) (λ u. list_any (nat_eq u) (targets x.end) ≡ true) x.end (sound.inside t x e)
            (targets_named x.end));
      }

first_length : (bs : List Block) → length (first_marked bs) ≡ length bs
first_length [] = refl
first_length (x ∷ xs) = ap suc (length-map xs (λ y. false))

first_mark : (bs : List Block) → 0 < length bs → Marked (first_marked bs) 0
first_mark [] lt = absurd (omega arith)
first_mark (x ∷ xs) lt = refl

first_count : (bs : List Block) → 0 < length bs → 0 < count (first_marked bs)
first_count [] lt = absurd (omega arith)
first_count (x ∷ xs) lt = omega arith

pub reachable_closed : (bs : List Block) → Sound bs → IsClosed (reachable bs) bs
reachable_closed bs sound =
    let ms = reachable bs in
    let size : length ms ≡ length bs = rounds_length bs (length bs) (first_marked bs) ∙ first_length bs in
    fixed_closed bs ms sound size (rounds_mark bs (length bs) (first_marked bs) 0 (first_mark bs sound.some)) (
    elim (rounds_more bs (length bs) (first_marked bs)) [
      | inl fixed ↦ fixed
      | inr many ↦ (let some = first_count bs sound.some in let most = marks_in ms in absurd (omega arith))
    ])
