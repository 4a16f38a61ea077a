-- Blocks merged in place do what merging them one by one does.
use Rattle.std.proofs.Common.{◌≡◌, ℕ, zero, suc, ◌+◌, ◌-◌, ◌*◌, ◌^◌, ◌<◌, ◌≤◌, ◌⊎◌, List, [], ◌∷◌, get_or, set, drop, length, map, Bool, true, false}
use Rattle.std.proofs.Common.{refl, ap, subst, sym, ◌∙◌, arith, inl, inr, eq-eqb, eqb-true, ne_eqb, slice_get}
use Rattle.std.specs.Prelude.{nat_eq, nat_le, ◌&&◌, Option, Some, None, option_map, replicate, if◌then◌else◌}
use Rattle.std.proofs.lemmas.Bool.{cases_eq, cases_lt}
use Rattle.std.proofs.lemmas.Bool.Decides.{nat_tests}
use Rattle.std.proofs.lemmas.List.{set_comm, length-replicate}
use Rattle.std.proofs.lemmas.Option.{none-some, same_Some, slice_get_within}
use mathlib.Core.Path.{fun_ext}
use Rattle.il_core.specs.declared.instr.Block.{Block}
use Rattle.il_core.specs.declared.instr.End.{End}
use Rattle.il_core.specs.declared.instr.End.TheVariants as ends
use Rattle.il_core.specs.Operands.{retargeted, retargeted_block}
use Rattle.il_core.specs.Routine.{RoutineParts}
use Rattle.il_laws.specs.Edges.{one_if, edges, all_edges}
use Rattle.il_laws.specs.Merge.{may_end, joined, set_block, all_but, NextBlock, next_if, next_at_end, merge_next, merge_step, merge_from, merge_blocks}
use Rattle.il_laws.specs.Renumber.{place_of, kept, renumbered}
use Rattle.il_laws.proofs.Edged.{edge_yes, jump_edge}
use Rattle.il_laws.proofs.Lists.{get_in, get_map}
use Rattle.il_laws.proofs.Places.{IsForward, forward_less}
use Rattle.il_laws.proofs.Renumbered.{Marked, place_less, kept_at}
use Rattle.il_laws.proofs.Sound.{Targets, targets_map}
use Rattle.list_laws.proofs.Elements.{drop_read}
use Rattle.cleanup.specs.Bits.{GoForward}
use Rattle.cleanup.specs.Marks.{NamesBlocks, EndsName}
use Rattle.cleanup.specs.Merges.{AreCounts, next_if_fits, next_at, next_by, gone_block, joined_at, with_joined}
use Rattle.cleanup.proofs.Keeping.{place_zero, all_from, names_end}
use Rattle.cleanup.proofs.Thinning.{forward_end}

-- ---- marks

pub marked_or : (ms : List Bool) (t : ℕ) → (Marked ms t) ⊎ (Marked ms t → ⊥)
marked_or [] t = inr (λ e. none-some true e)
marked_or (true ∷ ms) zero = inl refl
marked_or (false ∷ ms) zero = inr (λ e. (let bad : false ≡ true = same_Some false true e in absurd cc))
marked_or (m ∷ ms) (suc t) = marked_or ms t

-- how many are marked
abbrev pub marked : List Bool → ℕ
marked [] = 0
marked (m ∷ ms) = if m then suc (marked ms) else marked ms

place_most : (ms : List Bool) (t : ℕ) → place_of ms t ≤ marked ms
place_most [] t = omega arith
place_most (m ∷ ms) zero = omega arith
place_most (true ∷ ms) (suc t) = let h = place_most ms t in omega arith
place_most (false ∷ ms) (suc t) = let h = place_most ms t in omega arith

kept_length : (ms : List Bool) (bs : List Block) → length ms ≤ length bs → length (kept ms bs) ≡ marked ms
kept_length [] bs le = refl
kept_length (m ∷ ms) [] le = absurd (omega arith)
kept_length (true ∷ ms) (x ∷ bs) le = let h = kept_length ms bs (omega arith) in omega arith
kept_length (false ∷ ms) (x ∷ bs) le = let h = kept_length ms bs (omega arith) in omega arith

length_marks : (ms : List Bool) (t : ℕ) → length (set ms t false) ≡ length ms
length_marks [] t = refl
length_marks (m ∷ ms) zero = refl
length_marks (m ∷ ms) (suc t) = ap suc (length_marks ms t)

-- places behind a mark that is taken away
off_before : (ms : List Bool) (t u : ℕ) → u ≤ t → place_of (set ms t false) u ≡ place_of ms u
off_before [] t u le = refl
off_before (m ∷ ms) zero zero le = refl
off_before (m ∷ ms) zero (suc u) le = absurd (omega arith)
off_before (m ∷ ms) (suc t) zero le = refl
off_before (true ∷ ms) (suc t) (suc u) le = ap suc (off_before ms t u (omega arith))
off_before (false ∷ ms) (suc t) (suc u) le = off_before ms t u (omega arith)

off_behind : (ms : List Bool) (t u : ℕ) → Marked ms t → t < u → suc (place_of (set ms t false) u) ≡ place_of ms u
off_behind [] t u e lt = absurd (none-some true e)
off_behind (m ∷ ms) t zero e lt = absurd (omega arith)
off_behind (true ∷ ms) zero (suc u) e lt = refl
off_behind (false ∷ ms) zero (suc u) e lt = absurd cc
off_behind (true ∷ ms) (suc t) (suc u) e lt = ap suc (off_behind ms t u e (omega arith))
off_behind (false ∷ ms) (suc t) (suc u) e lt = off_behind ms t u e (omega arith)

pub off_same : (ms : List Bool) (t : ℕ) → Marked (set ms t false) t → ⊥
off_same [] t e = none-some true e
off_same (m ∷ ms) zero e = let bad : false ≡ true = same_Some false true e in absurd cc
off_same (m ∷ ms) (suc t) e = off_same ms t e

pub off_other : (ms : List Bool) (t u : ℕ) → (u ≡ t → ⊥) → slice_get (set ms t false) u ≡ slice_get ms u
off_other [] t u ne = refl
off_other (m ∷ ms) zero zero ne = absurd (ne refl)
off_other (m ∷ ms) zero (suc u) ne = refl
off_other (m ∷ ms) (suc t) zero ne = refl
off_other (m ∷ ms) (suc t) (suc u) ne = off_other ms t u (λ e. ne (ap suc e))

-- places of marked blocks are as their numbers
place_eq : (ms : List Bool) (u t : ℕ) → Marked ms u → Marked ms t → nat_eq (place_of ms u) (place_of ms t) ≡ nat_eq u t
place_eq ms u t mu mt = elim (cases_eq u t) [
  | inl same ↦ eq-eqb (place_of ms u) (place_of ms t) (ap (place_of ms) same) ∙ sym (eq-eqb u t same)
  | inr ne ↦ elim (cases_lt u t) [
    | inl lt ↦ (let less = place_less ms u t mu lt in ne_eqb (place_of ms u) (place_of ms t) (λ e. absurd (omega arith)) ∙ sym (ne_eqb u t ne))
    | inr ge ↦ (let lt : t < u = omega arith in let less = place_less ms t u mt lt in
        ne_eqb (place_of ms u) (place_of ms t) (λ e. absurd (omega arith)) ∙ sym (ne_eqb u t ne))
  ]
]

place_le : (ms : List Bool) (u t : ℕ) → Marked ms u → Marked ms t → nat_le (place_of ms u) (place_of ms t) ≡ nat_le u t
place_le ms u t mu mt = elim (cases_eq u t) [
  | inl same ↦ ap (λ (v : ℕ). nat_le (place_of ms v) (place_of ms t)) same
      ∙ (let e : nat_le (place_of ms t) (place_of ms t) ≡ true = grind (arith, nat_tests) in e)
      ∙ (let e : nat_le u t ≡ true = grind (arith, nat_tests) in sym e)
  | inr ne ↦ elim (cases_lt u t) [
    | inl lt ↦ (let less = place_less ms u t mu lt in
        let e : nat_le (place_of ms u) (place_of ms t) ≡ true = grind (arith, nat_tests) in
        let f : nat_le u t ≡ true = grind (arith, nat_tests) in e ∙ sym f)
    | inr ge ↦ (let lt : t < u = omega arith in let less = place_less ms t u mt lt in
        let e : nat_le (place_of ms u) (place_of ms t) ≡ false = grind (arith, nat_tests) in
        let f : nat_le u t ≡ false = grind (arith, nat_tests) in e ∙ sym f)
  ]
]

-- ---- one block left out of those that are kept

place_trues : (K : List Block) (v : ℕ) → v ≤ length K → place_of (map (λ (y : Block). true) K) v ≡ v
place_trues [] zero le = refl
place_trues [] (suc v) le = absurd (omega arith)
place_trues (k ∷ K) zero le = refl
place_trues (k ∷ K) (suc v) le = ap suc (place_trues K v (omega arith))

kept_trues : (K xs : List Block) → length K ≡ length xs → kept (map (λ (y : Block). true) K) xs ≡ xs
kept_trues [] [] e = refl
kept_trues [] (x ∷ xs) e = absurd (omega arith)
kept_trues (k ∷ K) [] e = absurd (omega arith)
kept_trues (k ∷ K) (x ∷ xs) e = ap (λ (ys : List Block). x ∷ ys) (kept_trues K xs (omega arith))

-- places among kept blocks but one
place_both : (ms : List Bool) (t u : ℕ) (K : List Block) → Marked ms t → length K ≡ marked ms
    → place_of (all_but (place_of ms t) K) (place_of ms u) ≡ place_of (set ms t false) u
place_both [] t u K e size = absurd (none-some true e)
place_both (false ∷ ms) zero u K e size = absurd cc
place_both (false ∷ ms) (suc t) zero K e size = place_zero (all_but (place_of ms t) K)
place_both (false ∷ ms) (suc t) (suc u) K e size = place_both ms t u K e size
place_both (true ∷ ms) t u [] e size = absurd (omega arith)
place_both (true ∷ ms) zero zero (k ∷ K) e size = refl
place_both (true ∷ ms) zero (suc u) (k ∷ K) e size = let most = place_most ms u in place_trues K (place_of ms u) (omega arith)
place_both (true ∷ ms) (suc t) zero (k ∷ K) e size = refl
place_both (true ∷ ms) (suc t) (suc u) (k ∷ K) e size = ap suc (place_both ms t u K e (omega arith))

kept_both : (ms : List Bool) (bs : List Block) (t : ℕ) (K : List Block) → Marked ms t → length K ≡ length (kept ms bs) → length ms ≡ length bs
    → kept (all_but (place_of ms t) K) (kept ms bs) ≡ kept (set ms t false) bs
kept_both [] bs t K e size same = absurd (none-some true e)
kept_both (m ∷ ms) [] t K e size same = absurd (omega arith)
kept_both (false ∷ ms) (x ∷ bs) zero K e size same = absurd cc
kept_both (false ∷ ms) (x ∷ bs) (suc t) K e size same = kept_both ms bs t K e size (omega arith)
kept_both (true ∷ ms) (x ∷ bs) t [] e size same = absurd (omega arith)
kept_both (true ∷ ms) (x ∷ bs) zero (k ∷ K) e size same = kept_trues K (kept ms bs) (omega arith)
kept_both (true ∷ ms) (x ∷ bs) (suc t) (k ∷ K) e size same =
    ap (λ (ys : List Block). x ∷ ys) (kept_both ms bs t K e (omega arith) (omega arith))

all_but_map : (g : Block → Block) (t : ℕ) (xs : List Block) → all_but t (map g xs) ≡ all_but t xs
all_but_map g t [] = refl
all_but_map g zero (x ∷ xs) = ap (λ (ms : List Bool). false ∷ ms) (trues_map xs)
  where
    trues_map : (ys : List Block) → map (λ (y : Block). true) (map g ys) ≡ map (λ (y : Block). true) ys
    trues_map [] = refl
    trues_map (y ∷ ys) = ap (λ (ms : List Bool). true ∷ ms) (trues_map ys)
all_but_map g (suc t) (x ∷ xs) = ap (λ (ms : List Bool). true ∷ ms) (all_but_map g t xs)

kept_map : (g : Block → Block) (ms : List Bool) (xs : List Block) → kept ms (map g xs) ≡ map g (kept ms xs)
kept_map g [] xs = refl
kept_map g (m ∷ ms) [] = refl
kept_map g (true ∷ ms) (x ∷ xs) = ap (λ (ys : List Block). g x ∷ ys) (kept_map g ms xs)
kept_map g (false ∷ ms) (x ∷ xs) = kept_map g ms xs

set_map : (g : Block → Block) (xs : List Block) (b : ℕ) (z : Block) → set_block (map g xs) b (g z) ≡ map g (set_block xs b z)
set_map g [] b z = refl
set_map g (x ∷ xs) zero z = refl
set_map g (x ∷ xs) (suc b) z = ap (λ (ys : List Block). g x ∷ ys) (set_map g xs b z)

set_kept : (ms : List Bool) (bs : List Block) (b : ℕ) (z : Block) → Marked ms b → set_block (kept ms bs) (place_of ms b) z ≡ kept ms (set bs b z)
set_kept [] bs b z e = absurd (none-some true e)
set_kept (m ∷ ms) [] b z e = refl
set_kept (true ∷ ms) (x ∷ bs) zero z e = refl
set_kept (false ∷ ms) (x ∷ bs) zero z e = absurd cc
set_kept (true ∷ ms) (x ∷ bs) (suc b) z e = ap (λ (ys : List Block). x ∷ ys) (set_kept ms bs b z e)
set_kept (false ∷ ms) (x ∷ bs) (suc b) z e = set_kept ms bs b z e

-- a block without a mark may be any
kept_gone : (ms : List Bool) (bs : List Block) (t : ℕ) (z : Block) → kept (set ms t false) (set bs t z) ≡ kept (set ms t false) bs
kept_gone [] bs t z = refl
kept_gone (m ∷ ms) [] t z = refl
kept_gone (m ∷ ms) (x ∷ bs) zero z = refl
kept_gone (true ∷ ms) (x ∷ bs) (suc t) z = ap (λ (ys : List Block). x ∷ ys) (kept_gone ms bs t z)
kept_gone (false ∷ ms) (x ∷ bs) (suc t) z = kept_gone ms bs t z

retargeted_twice : (f h : ℕ → ℕ) (e : End) → retargeted h (retargeted f e) ≡ retargeted (λ u. h (f u)) e
retargeted_twice f h (ends.Jump t) = refl
retargeted_twice f h (ends.Branch r t u) = refl
retargeted_twice f h (ends.Loop t) = refl
retargeted_twice f h (ends.Return r) = refl
retargeted_twice f h (ends.Exit r) = refl

map_twice : (f h k : ℕ → ℕ) (xs : List Block) → ((u : ℕ) → h (f u) ≡ k u)
    → map (retargeted_block h) (map (retargeted_block f) xs) ≡ map (retargeted_block k) xs
map_twice f h k [] e = refl
map_twice f h k (x ∷ xs) e =
    ap (λ (ys : List Block). retargeted_block h (retargeted_block f x) ∷ ys) (map_twice f h k xs e)
    ∙ ap (λ (z : End). let y : Block = record { instrs = x.instrs; end = z } in y ∷ map (retargeted_block k) xs)
    (retargeted_twice f h x.end ∙ ap (λ (j : ℕ → ℕ). retargeted j x.end) (fun_ext e))

length_map_kept : (g : Block → Block) (xs : List Block) → length (map g xs) ≡ length xs
length_map_kept g [] = refl
length_map_kept g (x ∷ xs) = ap suc (length_map_kept g xs)

length_set : (xs : List Block) (i : ℕ) (z : Block) → length (set xs i z) ≡ length xs
length_set [] i z = refl
length_set (x ∷ xs) zero z = refl
length_set (x ∷ xs) (suc i) z = ap suc (length_set xs i z)

-- to merge two kept blocks is to join them where they are
pub merged_is : (ms : List Bool) (bs : List Block) (b t : ℕ) (x y : Block) → length ms ≡ length bs → Marked ms b → Marked ms t → (t ≡ b → ⊥)
    → renumbered (all_but (place_of ms t) (renumbered ms bs))
    (set_block (renumbered ms bs) (place_of ms b) (joined (retargeted_block (place_of ms) x) (retargeted_block (place_of ms) y)))
    ≡ renumbered (set ms t false) (set (set bs t gone_block) b (joined x y))
merged_is ms bs b t x y size mb mt ne =
    let f : ℕ → ℕ = place_of ms in
    let g : Block → Block = retargeted_block f in
    let K : List Block = kept ms bs in
    let z : Block = joined x y in
    let h : ℕ → ℕ = place_of (all_but (f t) K) in
    let now : List Block = set bs b z in
    let few : length K ≡ marked ms = kept_length ms bs (omega arith) in
    let many : length K ≡ length (kept ms now) = (let e = length_set bs b z in let f1 = kept_length ms now (omega arith) in omega arith) in
    let same : length ms ≡ length now = (let e = length_set bs b z in omega arith) in
    ap (λ (ns : List Bool). map (retargeted_block (place_of ns)) (kept ns (set_block (map g K) (f b) (g z)))) (all_but_map g (f t) K)
    ∙ ap (λ (xs : List Block). map (retargeted_block h) (kept (all_but (f t) K) xs)) (set_map g K (f b) z ∙ ap (map g) (set_kept ms bs b z mb))
    ∙ ap (map (retargeted_block h)) (kept_map g (all_but (f t) K) (kept ms now))
    ∙ ap (λ (xs : List Block). map (retargeted_block h) (map g xs)) (kept_both ms now t K mt many same)
    ∙ map_twice f h (place_of (set ms t false)) (kept (set ms t false) now) (λ u. place_both ms t u K mt few)
    ∙ ap (map (retargeted_block (place_of (set ms t false)))) (sym (kept_gone ms now t gone_block)
    ∙ ap (kept (set ms t false)) (set_comm bs b t z gone_block (λ e. ne (sym e))))

-- ---- edges

get_set_same : (bs : List Block) (i : ℕ) (x z : Block) → slice_get bs i ≡ Some x → slice_get (set bs i z) i ≡ Some z
get_set_same [] i x z e = absurd (none-some x e)
get_set_same (y ∷ bs) zero x z e = refl
get_set_same (y ∷ bs) (suc i) x z e = get_set_same bs i x z e

get_set_other : (bs : List Block) (i u : ℕ) (z : Block) → (u ≡ i → ⊥) → slice_get (set bs i z) u ≡ slice_get bs u
get_set_other [] i u z ne = refl
get_set_other (y ∷ bs) zero zero z ne = absurd (ne refl)
get_set_other (y ∷ bs) zero (suc u) z ne = refl
get_set_other (y ∷ bs) (suc i) zero z ne = refl
get_set_other (y ∷ bs) (suc i) (suc u) z ne = get_set_other bs i u z (λ e. ne (ap suc e))

set_edges : (bs : List Block) (i u : ℕ) (x z : Block) → slice_get bs i ≡ Some x
    → all_edges (set bs i z) u + edges x.end u ≡ all_edges bs u + edges z.end u
set_edges [] i u x z e = absurd (none-some x e)
set_edges (y ∷ bs) zero u x z e = let same = ap (λ (w : Block). edges w.end u) (same_Some y x e) in omega arith
set_edges (y ∷ bs) (suc i) u x z e = let h = set_edges bs i u x z e in omega arith

edges_within : (bs : List Block) (i t : ℕ) (y : Block) → slice_get bs i ≡ Some y → edges y.end t ≤ all_edges bs t
edges_within [] i t y e = absurd (none-some y e)
edges_within (x ∷ bs) zero t y e = let same = ap (λ (w : Block). edges w.end t) (same_Some x y e) in omega arith
edges_within (x ∷ bs) (suc i) t y e = let h = edges_within bs i t y e in omega arith

jump_other : (t u : ℕ) → (u ≡ t → ⊥) → edges (ends.Jump t) u ≡ 0
jump_other t u ne = let e = ap one_if (ne_eqb t u (λ s. ne (sym s))) in omega arith

-- an end that has no edge to a block without a mark goes to marked blocks
end_marked : (ms : List Bool) (e : End) → ((u : ℕ) → (Marked ms u → ⊥) → edges e u ≡ 0) → Targets (Marked ms) e
end_marked ms (ends.Jump t) h =
    elim (marked_or ms t) [ inl m ↦ m | inr n ↦ (let z = h t n in let one = jump_edge t in absurd (omega arith)) ]
end_marked ms (ends.Branch r t u) h = (
  elim (marked_or ms t) [
    | inl m ↦ m
    | inr n ↦ (let z : one_if (nat_eq t t) + (one_if (nat_eq u t) + 0) ≡ 0 = h t n in let one = edge_yes t t refl in absurd (omega arith))
  ],
  elim (marked_or ms u) [
    | inl m ↦ m
    | inr n ↦ (let z : one_if (nat_eq t u) + (one_if (nat_eq u u) + 0) ≡ 0 = h u n in let one = edge_yes u u refl in absurd (omega arith))
  ],
)
end_marked ms (ends.Loop t) h =
    elim (marked_or ms t) [ inl m ↦ m | inr n ↦ (let z : one_if (nat_eq t t) + 0 ≡ 0 = h t n in let one = edge_yes t t refl in absurd (omega arith)) ]
end_marked ms (ends.Return r) h = tt
end_marked ms (ends.Exit r) h = tt

-- edges to a marked block, by places
edges_placed : (ms : List Bool) (e : End) (t : ℕ) → Targets (Marked ms) e → Marked ms t → edges (retargeted (place_of ms) e) (place_of ms t) ≡ edges e t
edges_placed ms (ends.Jump u) t goes m = ap (λ (k : Bool). one_if k + 0) (place_eq ms u t goes m)
edges_placed ms (ends.Branch r u v) t goes m =
    ap (λ (k : Bool). one_if k + (one_if (nat_eq (place_of ms v) (place_of ms t)) + 0)) (place_eq ms u t goes.0 m)
    ∙ ap (λ (k : Bool). one_if (nat_eq u t) + (one_if k + 0)) (place_eq ms v t goes.1 m)
edges_placed ms (ends.Loop u) t goes m = ap (λ (k : Bool). one_if k + 0) (place_eq ms u t goes m)
edges_placed ms (ends.Return r) t goes m = refl
edges_placed ms (ends.Exit r) t goes m = refl

all_placed : (g : Block → Block) (p t : ℕ) (ms : List Bool) (bs : List Block) → length ms ≡ length bs
    → ((i : ℕ) (y : Block) → slice_get bs i ≡ Some y → edges (g y).end p ≡ edges y.end t)
    → ((i : ℕ) (y : Block) → slice_get bs i ≡ Some y → (Marked ms i → ⊥) → edges y.end t ≡ 0)
    → all_edges (map g (kept ms bs)) p ≡ all_edges bs t
all_placed g p t [] [] size each gone = refl
all_placed g p t [] (x ∷ bs) size each gone = absurd (omega arith)
all_placed g p t (m ∷ ms) [] size each gone = absurd (omega arith)
all_placed g p t (true ∷ ms) (x ∷ bs) size each gone =
    let h = all_placed g p t ms bs (omega arith) (λ i y e. each (suc i) y e) (λ i y e n. gone (suc i) y e n) in let here = each 0 x refl in omega arith
all_placed g p t (false ∷ ms) (x ∷ bs) size each gone =
    let h = all_placed g p t ms bs (omega arith) (λ i y e. each (suc i) y e) (λ i y e n. gone (suc i) y e n) in
    let here : edges x.end t ≡ 0 = gone 0 x refl (λ e. (let bad : false ≡ true = same_Some false true e in absurd cc)) in omega arith

end_placed : (ms : List Bool) (b : ℕ) (e : End) → Targets (Marked ms) e → Marked ms b → may_end (place_of ms b) (retargeted (place_of ms) e) ≡ may_end b e
end_placed ms b (ends.Jump t) goes m = refl
end_placed ms b (ends.Branch r t u) goes m = refl
end_placed ms b (ends.Loop u) goes m = place_le ms u b goes m
end_placed ms b (ends.Return r) goes m = refl
end_placed ms b (ends.Exit r) goes m = refl

place_suc : (ms : List Bool) (b : ℕ) → Marked ms b → place_of ms (suc b) ≡ suc (place_of ms b)
place_suc [] b m = absurd (none-some true m)
place_suc (true ∷ ms) zero m = ap suc (place_zero ms)
place_suc (false ∷ ms) zero m = absurd cc
place_suc (true ∷ ms) (suc b) m = ap suc (place_suc ms b m)
place_suc (false ∷ ms) (suc b) m = place_suc ms b m

place_skip : (ms : List Bool) (b : ℕ) → (Marked ms b → ⊥) → place_of ms (suc b) ≡ place_of ms b
place_skip [] b n = refl
place_skip (true ∷ ms) zero n = absurd (n refl)
place_skip (false ∷ ms) zero n = place_zero ms
place_skip (true ∷ ms) (suc b) n = ap suc (place_skip ms b n)
place_skip (false ∷ ms) (suc b) n = place_skip ms b n

and_both : (k l : Bool) → (k && l) ≡ true → (k ≡ true) × (l ≡ true)
and_both true l e = (refl, e)
and_both false l e = let bad : false ≡ true = e in absurd cc

if_some : {A : Type 0} (k : Bool) (x y : A) → (if k then Some x else None) ≡ Some y → (k ≡ true) × (x ≡ y)
if_some true x y e = (refl, same_Some x y e)
if_some false x y e = absurd (none-some y e)

-- ---- what the code's test says

pub record Fits (counts : List ℕ) (now : List Block) (b : ℕ) (e : End) (t : ℕ) : Type 0 where
  pub block : Block
  pub is : slice_get now t ≡ Some block
  pub jumps : e ≡ ends.Jump t
  pub single : get_or counts t 0 ≡ 1
  pub fits : may_end b block.end ≡ true

fits_if : (counts : List ℕ) (now : List Block) (b u t : ℕ) (o : Option Block) → slice_get now u ≡ o → next_if_fits counts b u o ≡ Some t
    → Fits counts now b (ends.Jump u) t
fits_if counts now b u t None is e = absurd (none-some t e)
fits_if counts now b u t (Some y) is e =
    let both = if_some (nat_eq (get_or counts u 0) 1 && may_end b y.end) u t e in
    let tests = and_both (nat_eq (get_or counts u 0) 1) (may_end b y.end) both.0 in
    subst (λ (v : ℕ). Fits counts now b (ends.Jump u) v) both.1
    (record { block = y; is = is; jumps = refl; single = eqb-true (get_or counts u 0) 1 tests.0; fits = tests.1 })

fits_at : (counts : List ℕ) (now : List Block) (b t : ℕ) (e : End) → next_at counts now b e ≡ Some t → Fits counts now b e t
fits_at counts now b t (ends.Jump u) e = fits_if counts now b u t (slice_get now u) refl e
fits_at counts now b t (ends.Branch r u v) e = absurd (none-some t e)
fits_at counts now b t (ends.Loop u) e = absurd (none-some t e)
fits_at counts now b t (ends.Return r) e = absurd (none-some t e)
fits_at counts now b t (ends.Exit r) e = absurd (none-some t e)

-- ---- the blocks as they are merged in place, before block b

pub record Merges (bs : List Block) (counts : List ℕ) (b : ℕ) (ms : List Bool) (now : List Block) : Type 0 where
  pub size : length ms ≡ length now
  pub many : length counts ≡ length now
  pub within : b ≤ length now
  -- jumps go forward, marked blocks have their edges, and nothing goes to the others, which are empty
  pub forward : (i : ℕ) (y : Block) → slice_get now i ≡ Some y → IsForward i y.end
  pub edges : (t : ℕ) → Marked ms t → all_edges now t ≡ get_or counts t 0
  pub gone : (t : ℕ) → (Marked ms t → ⊥) → all_edges now t ≡ 0
  pub empty : (i : ℕ) (y : Block) → slice_get now i ≡ Some y → (Marked ms i → ⊥) → y.end ≡ ends.Return None
  -- so many steps are left
  pub left : ℕ
  pub steps : left + place_of ms b ≡ place_of ms (length now)
  pub whole : merge_from left (record { blocks = renumbered ms now; at = place_of ms b }) ≡ merge_from (length bs) (record { blocks = bs; at = 0 })

module _ (bs : List Block) (counts : List ℕ) (b : ℕ) (ms : List Bool) (now : List Block) (h : Merges bs counts b ms now) where
  abbrev f : ℕ → ℕ
  f = place_of ms

  abbrev g : Block → Block
  g = retargeted_block (place_of ms)

  abbrev K : List Block
  K = renumbered ms now

  pub goes_marked : (i : ℕ) (y : Block) → slice_get now i ≡ Some y → Targets (Marked ms) y.end
  goes_marked i y e =
      end_marked ms y.end (λ u n. (let none = h.gone u n in let few = edges_within now i u y e in omega arith))

  marked_within : (t : ℕ) → Marked ms t → t < length now
  marked_within t m = let lt = slice_get_within ms t true m in let size = h.size in omega arith

  placed_edges : (t : ℕ) → Marked ms t → all_edges K (f t) ≡ get_or counts t 0
  placed_edges t m =
      all_placed g (f t) t ms now h.size (λ i y e. edges_placed ms y.end t (goes_marked i y e) m)
      (λ i y e n. ap (λ (z : End). edges z t) (h.empty i y e n))
      ∙ h.edges t m

  at_place : (i : ℕ) (x : Block) → slice_get now i ≡ Some x → Marked ms i → slice_get K (f i) ≡ Some (g x)
  at_place i x e m = get_map g (kept ms now) (f i) x (kept_at ms now i x e m)

  abbrev next_placed : ℕ → Option Block → Option NextBlock
  next_placed t o = option_map (λ (y : Block). let n : NextBlock = record { number = place_of ms t; block = retargeted_block (place_of ms) y } in n) o

  abbrev placed : Option ℕ → Option NextBlock
  placed None = None
  placed (Some t) = next_placed t (slice_get now t)

  placed_if : (k : Bool) (t : ℕ) (y : Block) → slice_get now t ≡ Some y
      → (if k then Some (record { number = place_of ms t; block = retargeted_block (place_of ms) y }) else None) ≡ placed (if k then Some t else None)
  placed_if true t y e = sym (ap (next_placed t) e)
  placed_if false t y e = refl

  -- the next block is the same, at its place
  next_same : (e : End) → Marked ms b → Targets (Marked ms) e → next_at_end (place_of ms b) K (retargeted (place_of ms) e) ≡ placed (next_at counts now b e)
  next_same (ends.Jump t) mb goes =
      let y : Block = get_or now t gone_block in
      let is : slice_get now t ≡ Some y = get_in now t gone_block (marked_within t goes) in
      let next : NextBlock = record { number = place_of ms t; block = retargeted_block (place_of ms) y } in
      ap (next_if (place_of ms b) (place_of ms t) K) (at_place t y is goes)
      ∙ ap (λ (n : ℕ). if nat_eq n 1 && may_end (place_of ms b) (retargeted (place_of ms) y.end) then Some next else None) (placed_edges t goes)
      ∙ ap (λ (k : Bool). if nat_eq (get_or counts t 0) 1 && k then Some next else None) (end_placed ms b y.end (goes_marked t y is) mb)
      ∙ placed_if (nat_eq (get_or counts t 0) 1 && may_end b y.end) t y is
      ∙ ap (λ (o : Option Block). placed (next_if_fits counts b t o)) (sym is)
  next_same (ends.Branch r t u) mb goes = refl
  next_same (ends.Loop t) mb goes = refl
  next_same (ends.Return r) mb goes = refl
  next_same (ends.Exit r) mb goes = refl

  -- what one step of the definition makes of them
  step_same : (x : Block) → slice_get now b ≡ Some x → Marked ms b
      → merge_step (place_of ms b) K (slice_get K (place_of ms b)) ≡ merge_next (place_of ms b) K (g x) (placed (next_at counts now b x.end))
  step_same x e mb =
      ap (merge_step (place_of ms b) K) (at_place b x e mb)
      ∙ ap (merge_next (place_of ms b) K (g x)) (next_same x.end mb (goes_marked b x e))

  step_left : b < length now → Marked ms b → h.left ≡ suc (h.left - 1)
  step_left lt mb = let less = place_less ms b (length now) mb lt in let steps = h.steps in omega arith

  one_step : (x : Block) → b < length now → slice_get now b ≡ Some x → Marked ms b
      → merge_from (h.left - 1) (merge_next (place_of ms b) K (g x) (placed (next_at counts now b x.end))) ≡ merge_from (length bs)
      (record { blocks = bs; at = 0 })
  one_step x lt e mb =
      ap (merge_from (h.left - 1)) (sym (step_same x e mb))
      ∙ ap (λ (n : ℕ). merge_from n (record { blocks = K; at = place_of ms b })) (sym (step_left lt mb)) ∙ h.whole

  -- nothing to take in: on to the next block
  pub go_on : b < length now → next_by counts now (slice_get now b) b ≡ None → Merges bs counts (b + 1) ms now
  go_on lt none =
      let x : Block = get_or now b gone_block in
      let e : slice_get now b ≡ Some x = get_in now b gone_block lt in
      let more : suc b ≡ b + 1 = omega arith in
      let stop : next_at counts now b x.end ≡ None = sym (ap (λ (o : Option Block). next_by counts now o b) e) ∙ none in
      let same = elim (marked_or ms b) as (λ _. (n : ℕ) × (n + place_of ms (b + 1) ≡ place_of ms (length now))
      × (merge_from n (record { blocks = K; at = place_of ms (b + 1) }) ≡ merge_from (length bs) (record { blocks = bs; at = 0 }))) [
        | inl mb ↦ (let place : place_of ms (b + 1) ≡ suc (place_of ms b) = sym (ap (place_of ms) more) ∙ place_suc ms b mb in
            let steps = h.steps in
            let some = step_left lt mb in (
              h.left - 1,
              omega arith,
              ap (λ (p : ℕ). merge_from (h.left - 1) (record { blocks = K; at = p })) place
                  ∙ ap (λ (o : Option ℕ). merge_from (h.left - 1) (merge_next (place_of ms b) K (g x) (placed o))) (sym stop) ∙ one_step x lt e mb,
            ))
        | inr nb ↦ (let place : place_of ms (b + 1) ≡ place_of ms b = sym (ap (place_of ms) more) ∙ place_skip ms b nb in
            let steps = h.steps in
            (h.left, omega arith, ap (λ (p : ℕ). merge_from h.left (record { blocks = K; at = p })) place ∙ h.whole))
      ] in
      record {
        size = h.size;
        many = h.many;
        within = omega arith;
        forward = h.forward;
        edges = h.edges;
        gone = h.gone;
        empty = h.empty;
        left = same.0;
        steps = same.1;
        whole = same.2;
      }

  pub jump_fits : (t : ℕ) → next_by counts now (slice_get now b) b ≡ Some t → (x : Block) → slice_get now b ≡ Some x → Fits counts now b x.end t
  jump_fits t some x e = fits_at counts now b t x.end (sym (ap (λ (o : Option Block). next_by counts now o b) e) ∙ some)

  -- a block is taken in
  module _ (t : ℕ) (lt : b < length now) (some : next_by counts now (slice_get now b) b ≡ Some t) where
    abbrev x : Block
    x = get_or now b gone_block

    ex : slice_get now b ≡ Some x
    ex = get_in now b gone_block lt

    pub fit : Fits counts now b x.end t
    fit = jump_fits t some x ex

    abbrev y : Block
    y = fit.block

    mb : Marked ms b
    mb = elim (marked_or ms b) [ inl m ↦ m | inr n ↦ (let e : ends.Jump t ≡ ends.Return None = sym fit.jumps ∙ h.empty b x ex n in absurd cc) ]

    mt : Marked ms t
    mt = let goes = goes_marked b x ex in subst (λ (e : End). Targets (Marked ms) e) fit.jumps goes

    pub later : b < t
    later = let fw = h.forward b x ex in subst (λ (e : End). IsForward b e) fit.jumps fw

    pub target_within : t < length now
    target_within = marked_within t mt

    abbrev ms1 : List Bool
    ms1 = set ms t false

    abbrev z : Block
    z = joined x y

    abbrev half : List Block
    half = set now t gone_block

    abbrev now1 : List Block
    now1 = set half b z

    pub joined_is : with_joined now b t ≡ now1
    joined_is = ap (λ (o : Option Block). joined_at now b t o (slice_get now t)) ex ∙ ap (joined_at now b t (Some x)) fit.is

    not_same : b ≡ t → ⊥
    not_same e = let less = later in absurd (omega arith)

    half_at : slice_get half b ≡ Some x
    half_at = get_set_other now t b gone_block not_same ∙ ex

    -- a property of each block, in the new ones
    each : (P : ℕ → Block → Type 0) → P b z → P t gone_block
        → ((i : ℕ) (w : Block) → (i ≡ b → ⊥) → (i ≡ t → ⊥) → slice_get now i ≡ Some w → P i w)
        → (i : ℕ) (w : Block) → slice_get now1 i ≡ Some w → P i w
    each P here there others i w e = elim (cases_eq i b) [
      | inl same ↦ (let is : z ≡ w = same_Some z w (sym (get_set_same half b x z half_at) ∙ ap (slice_get now1) (sym same) ∙ e) in
          subst (λ (j : ℕ). P j w) (sym same) (subst (P b) is here))
      | inr nb ↦ elim (cases_eq i t) [
        | inl same ↦ (let is : gone_block ≡ w =
            same_Some gone_block w (sym (get_set_same now t y gone_block fit.is) ∙ sym (get_set_other half b t z (λ e1. not_same (sym e1)))
            ∙ ap (slice_get now1) (sym same) ∙ e) in
            subst (λ (j : ℕ). P j w) (sym same) (subst (P t) is there))
        | inr nt ↦ others i w nb nt (sym (get_set_other now t i gone_block nt) ∙ sym (get_set_other half b i z nb) ∙ e)
      ]
    ]

    edges_now : (u : ℕ) → all_edges now1 u + edges (ends.Jump t) u ≡ all_edges now u
    edges_now u =
        let one = set_edges now t u y gone_block fit.is in
        let two = set_edges half b u x z half_at in
        let jump = ap (λ (e : End). edges e u) fit.jumps in
        omega arith

    edges_gone : all_edges now1 t ≡ 0
    edges_gone = let e = edges_now t in let one = jump_edge t in let all = h.edges t mt in let single = fit.single in omega arith

    edges_kept : (u : ℕ) → (u ≡ t → ⊥) → all_edges now1 u ≡ all_edges now u
    edges_kept u ne = let e = edges_now u in let none = jump_other t u ne in omega arith

    marks_kept : (u : ℕ) → (u ≡ t → ⊥) → Marked ms1 u → Marked ms u
    marks_kept u ne m = sym (off_other ms t u ne) ∙ m

    whole_now : merge_from (h.left - 1) (record { blocks = renumbered ms1 now1; at = place_of ms1 b }) ≡ merge_from (length bs) (record { blocks = bs; at = 0 })
    whole_now =
        let less = later in
        let next : NextBlock = record { number = place_of ms t; block = g y } in
        let found : placed (next_at counts now b x.end) ≡ Some next =
        ap placed (sym (ap (λ (o : Option Block). next_by counts now o b) ex) ∙ some) ∙ ap (next_placed t) fit.is in
        ap (λ (p : ℕ). merge_from (h.left - 1) (record { blocks = renumbered ms1 now1; at = p })) (off_before ms t b (omega arith))
        ∙ ap (λ (ks : List Block). merge_from (h.left - 1) (record { blocks = ks; at = place_of ms b }))
        (sym (merged_is ms now b t x y h.size mb mt (λ e. not_same (sym e))))
        ∙ ap (λ (o : Option NextBlock). merge_from (h.left - 1) (merge_next (place_of ms b) K (g x) o)) (sym found)
        ∙ one_step x lt ex mb

    pub taken_in : Merges bs counts b ms1 now1
    taken_in =
        let less = later in
        let size = h.size in
        let many = h.many in
        let within = h.within in
        let steps = h.steps in
        let left = step_left lt mb in
        let end_lt = target_within in
        let len : length now1 ≡ length now = length_set half b z ∙ length_set now t gone_block in
        let lens : length ms1 ≡ length ms = length_marks ms t in
        record {
          size = omega arith;
          many = omega arith;
          within = omega arith;
          forward = each (λ i w. IsForward i w.end) (forward_less b t y.end (omega arith) (h.forward t y fit.is)) tt (λ i w nb nt e. h.forward i w e);
          edges = λ u m. elim (cases_eq u t) [
            | inl same ↦ absurd (off_same ms t (subst (Marked ms1) same m))
            | inr ne ↦ edges_kept u ne ∙ h.edges u (marks_kept u ne m)
          ];
          gone = λ u n. elim (cases_eq u t) [
            | inl same ↦ ap (all_edges now1) same ∙ edges_gone
            | inr ne ↦ edges_kept u ne ∙ h.gone u (λ m. n (off_other ms t u ne ∙ m))
          ];
          empty = each (λ i w. (Marked ms1 i → ⊥) → w.end ≡ ends.Return None) (λ n. absurd (n (off_other ms t b not_same ∙ mb))) (λ n. refl)
              (λ i w nb nt e n. h.empty i w e (λ m. n (off_other ms t i nt ∙ m)));
          left = h.left - 1;
          steps = (let before = off_before ms t b (omega arith) in let behind = off_behind ms t (length now) mt end_lt in
              let all = ap (place_of ms1) len in omega arith);
          whole = whole_now;
        }

    pub join_more : (ms2 : List Bool) (now2 : List Block) → ms2 ≡ set ms t false → now2 ≡ with_joined now b t → Merges bs counts b ms2 now2
    join_more ms2 now2 marks blocks =
        subst (λ (ns : List Bool). Merges bs counts b ns now2) (sym marks)
        (subst (λ (ys : List Block). Merges bs counts b ms1 ys) (sym (blocks ∙ joined_is)) taken_in)

    pub join_smaller : (ms2 : List Bool) (now2 : List Block) → ms2 ≡ set ms t false → now2 ≡ with_joined now b t
        → (length now2 - b) + place_of ms2 (length now2) < (length now - b) + place_of ms (length now)
    join_smaller ms2 now2 marks blocks =
        let len : length now2 ≡ length now =
        ap (λ (ys : List Block). length ys) (blocks ∙ joined_is) ∙ length_set half b z ∙ length_set now t gone_block in
        let behind = off_behind ms t (length now) mt target_within in
        let all : place_of ms2 (length now2) ≡ place_of (set ms t false) (length now) =
        ap (λ (ns : List Bool). place_of ns (length now2)) marks ∙ ap (place_of (set ms t false)) len in
        omega arith

  pub names_now : EndsName (length now) now
  names_now =
      all_from (λ (y : Block). NamesBlocks (length now) y.end) now
      (λ i y e. names_end (length now) y.end (targets_map (Marked ms) (λ t. t < length now) marked_within y.end (goes_marked i y e)))

-- ---- from the start to the end

place_all : (n v : ℕ) → v ≤ n → place_of (replicate n true) v ≡ v
place_all zero zero le = refl
place_all zero (suc v) le = absurd (omega arith)
place_all (suc n) zero le = refl
place_all (suc n) (suc v) le = ap suc (place_all n v (omega arith))

kept_all : (bs : List Block) → kept (replicate (length bs) true) bs ≡ bs
kept_all [] = refl
kept_all (x ∷ bs) = ap (λ (ys : List Block). x ∷ ys) (kept_all bs)

marked_all : (n t : ℕ) → t < n → Marked (replicate n true) t
marked_all zero t lt = absurd (omega arith)
marked_all (suc n) zero lt = refl
marked_all (suc n) (suc t) lt = marked_all n t (omega arith)

end_stays : (n : ℕ) (e : End) → NamesBlocks n e → retargeted (place_of (replicate n true)) e ≡ e
end_stays n (ends.Jump t) h = let lt = h.0 in ap ends.Jump (place_all n t (omega arith))
end_stays n (ends.Branch r t u) h =
    let lt = h.0 in
    let lu = h.1.0 in
    ap (λ (v : ℕ). ends.Branch r v (place_of (replicate n true) u)) (place_all n t (omega arith)) ∙ ap (ends.Branch r t) (place_all n u (omega arith))
end_stays n (ends.Loop t) h = let lt = h.0 in ap ends.Loop (place_all n t (omega arith))
end_stays n (ends.Return r) h = refl
end_stays n (ends.Exit r) h = refl

blocks_stay : (n : ℕ) (bs : List Block) → EndsName n bs → map (retargeted_block (place_of (replicate n true))) bs ≡ bs
blocks_stay n [] h = refl
blocks_stay n (x ∷ bs) h =
    ap (λ (e : End). let y : Block = record { instrs = x.instrs; end = e } in y ∷ map (retargeted_block (place_of (replicate n true))) bs)
    (end_stays n x.end h.0)
    ∙ ap (λ (ys : List Block). x ∷ ys) (blocks_stay n bs h.1)

end_inside : (n t : ℕ) (e : End) → n ≤ t → NamesBlocks n e → edges e t ≡ 0
end_inside n t (ends.Jump u) le h = let lt = h.0 in let z = ap one_if (ne_eqb u t (λ e. absurd (omega arith))) in omega arith
end_inside n t (ends.Branch r u v) le h =
    let lu = h.0 in
    let lv = h.1.0 in
    let y = ap one_if (ne_eqb u t (λ e. absurd (omega arith))) in
    let z = ap one_if (ne_eqb v t (λ e. absurd (omega arith))) in
    omega arith
end_inside n t (ends.Loop u) le h = let lt = h.0 in let z = ap one_if (ne_eqb u t (λ e. absurd (omega arith))) in omega arith
end_inside n t (ends.Return r) le h = refl
end_inside n t (ends.Exit r) le h = refl

all_inside : (n t : ℕ) (bs : List Block) → n ≤ t → EndsName n bs → all_edges bs t ≡ 0
all_inside n t [] le h = refl
all_inside n t (x ∷ bs) le h = let one = end_inside n t x.end le h.0 in let rest = all_inside n t bs le h.1 in omega arith

pub merges_start : (bs : List Block) (counts : List ℕ) (ms : List Bool) → AreCounts bs counts → ms ≡ replicate (length bs) true → EndsName (length bs) bs
    → GoForward bs → Merges bs counts 0 ms bs
merges_start bs counts ms are all inside fw =
    let n = length bs in
    subst (λ (ns : List Bool). Merges bs counts 0 ns bs) (sym all)
    (record {
      size = length-replicate n true;
      many = are.size;
      within = omega arith;
      forward = λ i y e. forward_end n i y.end (fw i y e);
      edges = λ t m. (let lt = slice_get_within (replicate n true) t true m in let size = length-replicate n true in
          sym (are.at t (omega arith)));
      gone = λ t none. elim (cases_lt t n) [ inl lt ↦ absurd (none (marked_all n t lt)) | inr ge ↦ all_inside n t bs ge inside ];
      empty = λ i y e none. absurd (none (marked_all n i (slice_get_within bs i y e)));
      left = n;
      steps = (let zero_place = place_zero (replicate n true) in let last = place_all n n (omega arith) in omega arith);
      whole = ap (λ (p : ℕ). merge_from n (record { blocks = renumbered (replicate n true) bs; at = p })) (place_zero (replicate n true))
          ∙ ap (λ (ys : List Block). merge_from n (record { blocks = ys; at = 0 }))
          (ap (map (retargeted_block (place_of (replicate n true)))) (kept_all bs) ∙ blocks_stay n bs inside);
    })

pub merges_end : (bs : List Block) (counts : List ℕ) (b : ℕ) (ms : List Bool) (now : List Block) → length now ≤ b → Merges bs counts b ms now
    → renumbered ms now ≡ merge_from (length bs) (record { blocks = bs; at = 0 })
merges_end bs counts b ms now past h =
    let within = h.within in
    let last : b ≡ length now = omega arith in
    let steps = h.steps in
    let place = ap (place_of ms) last in
    let none : h.left ≡ 0 = omega arith in
    sym (ap (λ (n : ℕ). merge_from n (record { blocks = renumbered ms now; at = place_of ms b })) none) ∙ h.whole

-- ---- edges counted

one_few : (k : Bool) → one_if k ≤ 1
one_few true = omega arith
one_few false = omega arith

edges_few : (e : End) (t : ℕ) → edges e t ≤ 2
edges_few (ends.Jump u) t = let a = one_few (nat_eq u t) in omega arith
edges_few (ends.Branch r u v) t = let a = one_few (nat_eq u t) in let b = one_few (nat_eq v t) in omega arith
edges_few (ends.Loop u) t = let a = one_few (nat_eq u t) in omega arith
edges_few (ends.Return r) t = omega arith
edges_few (ends.Exit r) t = omega arith

all_few : (bs : List Block) (t : ℕ) → all_edges bs t ≤ 2 * length bs
all_few [] t = omega arith
all_few (x ∷ bs) t = let a = edges_few x.end t in let b = all_few bs t in omega arith

-- there is room for the edges of one more block
pub edges_room : (bs : List Block) (counts was : List ℕ) (k : ℕ) (x : Block) → length bs ≤ 2 ^ 16 → k < length bs → x ≡ get_or bs k x → counts ≡ was
    → ((t : ℕ) → get_or was t 0 + all_edges (drop k bs) t ≡ all_edges bs t) → (t : ℕ) → get_or counts t 0 + edges x.end t < 2 ^ 32
edges_room bs counts was k x few lt read same whole t =
    let all = whole t in
    let bound = all_few bs t in
    let here = ap (λ (ys : List Block). all_edges ys t) (drop_read bs k x lt read) in
    let e = ap (λ (cs : List ℕ). get_or cs t 0) same in
    omega arith

-- what the code makes of a routine
pub merged_as : (r : RoutineParts) (items was out result : List Block) → result ≡ out → out ≡ merge_from (length was) (record { blocks = was; at = 0 })
    → was ≡ items → items ≡ r.blocks → record r { blocks = result } ≡ merge_blocks r
merged_as r items was out result last made same is =
    ap (λ (bs : List Block). record r { blocks = bs })
    (last ∙ made ∙ ap (λ (bs : List Block). merge_from (length bs) (record { blocks = bs; at = 0 })) (same ∙ is))
