-- The edges to a block, counted.
use Rattle.std.proofs.Common.{◌≡◌, ℕ, zero, suc, ◌+◌, ◌≤◌, List, [], ◌∷◌, refl, ap, arith, slice_get, eq-eqb}
use Rattle.std.specs.Prelude.{nat_eq, Some}
use Rattle.std.proofs.lemmas.Option.{none-some, same_Some}
use Rattle.il_core.specs.declared.instr.Block.{Block}
use Rattle.il_core.specs.declared.instr.End.{End}
use Rattle.il_core.specs.declared.instr.End.TheVariants as ends
use Rattle.il_laws.specs.Edges.{one_if, edges, all_edges}
use Rattle.il_laws.proofs.Sound.{Targets}

-- the edges to a block
pub edge_yes : (u t : ℕ) → u ≡ t → one_if (nat_eq u t) ≡ 1
edge_yes u t e = ap one_if (eq-eqb u t e)

pub edges_none : (e : End) (t : ℕ) → edges e t ≡ 0 → Targets (λ u. u ≡ t → ⊥) e
edges_none (ends.Jump u) t h = λ e. (let one = edge_yes u t e in let none : one_if (nat_eq u t) + 0 ≡ 0 = h in absurd (omega arith))
edges_none (ends.Branch r u v) t h =
    let sum : one_if (nat_eq u t) + (one_if (nat_eq v t) + 0) ≡ 0 = h in
    (λ e. (let one = edge_yes u t e in absurd (omega arith)), λ e. (let one = edge_yes v t e in absurd (omega arith)))
edges_none (ends.Loop u) t h = λ e. (let one = edge_yes u t e in let none : one_if (nat_eq u t) + 0 ≡ 0 = h in absurd (omega arith))
edges_none (ends.Return r) t h = tt
edges_none (ends.Exit r) t h = tt

pub jump_edge : (t : ℕ) → edges (ends.Jump t) t ≡ 1
jump_edge t = let one = edge_yes t t refl in omega arith

edges_one : (bs : List Block) (u t : ℕ) (z : Block) → slice_get bs u ≡ Some z → edges z.end t ≤ all_edges bs t
edges_one [] u t z e = absurd (none-some z e)
edges_one (y ∷ bs) zero t z e = let same = ap (λ (x : Block). edges x.end t) (same_Some y z e) in omega arith
edges_one (y ∷ bs) (suc u) t z e = let less = edges_one bs u t z e in omega arith

pub edges_two : (bs : List Block) (b u t : ℕ) (x z : Block) → slice_get bs b ≡ Some x → slice_get bs u ≡ Some z → (u ≡ b → ⊥)
    → edges x.end t + edges z.end t ≤ all_edges bs t
edges_two [] b u t x z e h ne = absurd (none-some x e)
edges_two (y ∷ bs) zero zero t x z e h ne = absurd (ne refl)
edges_two (y ∷ bs) zero (suc u) t x z e h ne = let same = ap (λ (s : Block). edges s.end t) (same_Some y x e) in let less = edges_one bs u t z h in
    omega arith
edges_two (y ∷ bs) (suc b) zero t x z e h ne = let same = ap (λ (s : Block). edges s.end t) (same_Some y z h) in let less = edges_one bs b t x e in
    omega arith
edges_two (y ∷ bs) (suc b) (suc u) t x z e h ne = let less = edges_two bs b u t x z e h (λ s. ne (ap suc s)) in omega arith
