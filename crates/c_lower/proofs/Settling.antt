-- Blocks are settled one after another.
use Rattle.std.proofs.Common.{◌≡◌, ℕ, zero, suc, ◌+◌, ◌<◌, List, [], ◌∷◌, ◌++◌, map, take, drop, set, length, get_or, sym, ap, ◌∙◌, arith, add-one}
use Rattle.il_core.specs.declared.instr.Block.{Block}
use Rattle.il_core.specs.declared.instr.End.{End}
use Rattle.c_lower.specs.Settled.{settle, settled}

-- those before a place are settled
abbrev so_far : (ℕ → ℕ) → List Block → ℕ → List Block
so_far g xs i = map (settled g) (take i xs) ++ drop i xs

settle_at : (g : ℕ → ℕ) (xs : List Block) (i : ℕ) (d : Block) (e : End) → i < length xs → d ≡ get_or (so_far g xs i) i d → e ≡ settle g d.end →
    set (so_far g xs i) i record { instrs = d.instrs; end = e } ≡ so_far g xs (suc i)
settle_at g [] i d e h is p = absurd (omega arith)
settle_at g (x ∷ xs) zero d e h is p =
    ap (λ v. record { instrs = d.instrs; end = v } ∷ xs) p ∙ ap (λ b. settled g b ∷ xs) is
settle_at g (x ∷ xs) (suc i) d e h is p = ap (λ l. settled g x ∷ l) (settle_at g xs i d e (omega arith) is p)

pub settle_step : (g : ℕ → ℕ) (xs ys : List Block) (i : ℕ) (d : Block) (e : End) → i < length xs → ys ≡ so_far g xs i → d ≡ get_or ys i d →
    e ≡ settle g (get_or ys i d).end → set ys i record { instrs = (get_or ys i d).instrs; end = e } ≡ so_far g xs (i + 1)
settle_step g xs ys i d e h q is p =
    ap (λ (b : Block). set ys i record { instrs = b.instrs; end = e }) (sym is) ∙ ap (λ (l : List Block). set l i record { instrs = d.instrs; end = e }) q
    ∙ settle_at g xs i d e h (is ∙ ap (λ (l : List Block). get_or l i d) q) (p ∙ ap (λ (b : Block). settle g b.end) (sym is))
    ∙ ap (λ n. so_far g xs n) (sym (add-one i))
