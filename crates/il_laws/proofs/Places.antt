-- The run from a block by its number, where jumps go forward.
use Rattle.std.proofs.Common.{◌≡◌, ℕ, zero, suc, ◌+◌, ◌<◌, ◌≤◌, List, [], ◌∷◌, Bool, refl, ap, subst, sym, ◌∙◌, arith, slice_get, ne_eqb, eq-eqb}
use Rattle.std.specs.Prelude.{if◌then◌else◌, Option, Some, None, ⊤}
use Rattle.il_core.specs.declared.instr.Block.{Block}
use Rattle.il_core.specs.declared.instr.End.{End}
use Rattle.il_core.specs.declared.instr.End.TheVariants as ends
use Rattle.il_core.specs.World.{Stuck, choose}
use Rattle.il_core.specs.Meaning.{Frame, Lengths, Next, finish}
use Rattle.il_laws.specs.Runs.{Calls, Callable, BlocksCallIn, does, pass, turned, run}
use Rattle.il_laws.proofs.Alike.{CallsAlike}
use Rattle.il_laws.proofs.Keeps.{run_is}

-- jumps go to later blocks
abbrev pub IsForward : ℕ → End → Type 0
IsForward b (ends.Jump t) = b < t
IsForward b (ends.Branch r t u) = (b < t) × (b < u)
IsForward b _ = ⊤

abbrev pub AreForward : ℕ → List Block → Type 0
AreForward b [] = ⊤
AreForward b (x ∷ xs) = IsForward b x.end × AreForward (suc b) xs

pub forward_less : (b d : ℕ) (e : End) → b ≤ d → IsForward d e → IsForward b e
forward_less b d (ends.Jump t) le h = omega arith
forward_less b d (ends.Branch r t u) le h = let (h0, h1) = h in (omega arith, omega arith)
forward_less b d (ends.Loop t) le h = tt
forward_less b d (ends.Return r) le h = tt
forward_less b d (ends.Exit r) le h = tt

pub forward_at : (xs : List Block) (b i : ℕ) (y : Block) → AreForward b xs → slice_get xs i ≡ Some y → IsForward (b + i) y.end
forward_at [] b i y h e = let bad : None ≡ Some y = e in absurd cc
forward_at (x ∷ xs) b zero y h e =
    let same : x ≡ y = cc e in
    let here : b ≡ b + 0 = omega arith in
    subst (λ (t : ℕ). IsForward t y.end) here (subst (λ (z : Block). IsForward b z.end) same h.0)
forward_at (x ∷ xs) b (suc i) y h e =
    let here : suc b + i ≡ b + suc i = omega arith in
    subst (λ (t : ℕ). IsForward t y.end) here (forward_at xs (suc b) i y h.1 e)

module _ {S : Type 0} where
  -- a block, with what comes at its end
  abbrev pub block_does : Calls S → Lengths → (ℕ → Next S) → (ℕ → Next S) → Block → Next S
  block_does c n back on x f w = does c n x.instrs (λ f1 w1. finish back on x.end f1 w1) f w

  abbrev pub if_block : Calls S → Lengths → (ℕ → Next S) → (ℕ → Next S) → Option Block → Next S
  if_block c n back on None f w = Stuck
  if_block c n back on (Some x) f w = block_does c n back on x f w

  finish_on : (b : ℕ) (back on on1 : ℕ → Next S) (e : End) → IsForward b e → ((u : ℕ) → b < u → on u ≡ on1 u) → finish back on e ≡ finish back on1 e
  finish_on b back on on1 (ends.Jump t) lt h = ap (λ (a : Next S). λ f w. a f w) (h t lt)
  finish_on b back on on1 (ends.Branch r t u) lt h = ap (λ (a : Next S). λ (f : Frame) w. choose (f.regs r) (a f w) (on u f w)) (h t lt.0)
      ∙ ap (λ (a : Next S). λ (f : Frame) w. choose (f.regs r) (on1 t f w) (a f w)) (h u lt.1)
  finish_on b back on on1 (ends.Loop t) lt h = refl
  finish_on b back on on1 (ends.Return r) lt h = refl
  finish_on b back on on1 (ends.Exit r) lt h = refl

  block_on : (b : ℕ) (c : Calls S) (n : Lengths) (back on on1 : ℕ → Next S) (x : Block) → IsForward b x.end → ((u : ℕ) → b < u → on u ≡ on1 u)
      → block_does c n back on x ≡ block_does c n back on1 x
  block_on b c n back on on1 x lt h = ap (λ (a : Next S). λ f w. does c n x.instrs a f w) (finish_on b back on on1 x.end lt h)

  module _ (c : Calls S) (n : Lengths) (back : ℕ → Next S) where
    pass_here : (x : Block) (xs : List Block) (b : ℕ) → pass c back n (x ∷ xs) b b ≡ block_does c n back (pass c back n xs (suc b)) x
    pass_here x xs b = ap (λ (k : Bool). λ f w. if k then block_does c n back (pass c back n xs (suc b)) x f w else pass c back n xs (suc b) b f w)
        (eq-eqb b b refl)

    pass_later : (x : Block) (xs : List Block) (b t : ℕ) → b < t → pass c back n (x ∷ xs) b t ≡ pass c back n xs (suc b) t
    pass_later x xs b t lt = ap (λ (k : Bool). λ f w. if k then block_does c n back (pass c back n xs (suc b)) x f w else pass c back n xs
        (suc b) t f w) (ne_eqb t b (omega arith))

    later_block : (x : Block) (xs : List Block) (b i : ℕ) (o : Option Block) → AreForward (suc b) xs → slice_get xs i ≡ o
        → if_block c n back (pass c back n xs (suc b)) o ≡ if_block c n back (pass c back n (x ∷ xs) b) o
    later_block x xs b i None fw e = refl
    later_block x xs b i (Some y) fw e = block_on b c n back (pass c back n xs (suc b)) (pass c back n (x ∷ xs) b) y
        (forward_less b (suc b + i) y.end (omega arith) (forward_at xs (suc b) i y fw e)) (λ u lt. sym (pass_later x xs b u lt))

    -- block b + i of blocks that begin with number b
    pub pass_at : (xs : List Block) (b i : ℕ) → AreForward b xs → pass c back n xs b (b + i) ≡ if_block c n back (pass c back n xs b) (slice_get xs i)
    pass_at [] b i fw = refl
    pass_at (x ∷ xs) b zero fw =
        let same : b + 0 ≡ b = omega arith in
        ap (λ (t : ℕ). pass c back n (x ∷ xs) b t) same ∙ pass_here x xs b ∙ block_on b c n back (pass c back n xs (suc b))
        (pass c back n (x ∷ xs) b) x fw.0 (λ u lt. sym (pass_later x xs b u lt))
    pass_at (x ∷ xs) b (suc i) fw =
        let same : b + suc i ≡ suc b + i = omega arith in
        pass_later x xs b (b + suc i) (omega arith) ∙ ap (λ (t : ℕ). pass c back n xs (suc b) t) same ∙ pass_at xs (suc b) i fw.1
        ∙ later_block x xs b i (slice_get xs i) fw.1 refl

  -- The run from a block by its number: the block, and the run from the block that its end names.
  module _ (may : Callable) (c : Calls S) (falls : (t : ℕ) → CallsAlike may t c c) (n : Lengths) (bs : List Block) (ok : BlocksCallIn may bs)
      (fw : AreForward 0 bs) where
    run_passes : run c n bs ≡ pass c (turned (run c n bs)) n bs 0
    run_passes = λ i u f w. run_is may c falls n bs ok u f w i

    pub run_at : (t : ℕ) → run c n bs t ≡ if_block c n (turned (run c n bs)) (run c n bs) (slice_get bs t)
    run_at t =
        let here : t ≡ 0 + t = omega arith in
        ap (λ (r : ℕ → Next S). r t) run_passes
        ∙ ap (λ (u : ℕ). pass c (turned (run c n bs)) n bs 0 u) here
        ∙ pass_at c n (turned (run c n bs)) bs 0 t fw
        ∙ ap (λ (on : ℕ → Next S). if_block c n (turned (run c n bs)) on (slice_get bs t)) (sym run_passes)

    pub run_block : (t : ℕ) (x : Block) → slice_get bs t ≡ Some x → run c n bs t ≡ block_does c n (turned (run c n bs)) (run c n bs) x
    run_block t x e = run_at t ∙ ap (λ (o : Option Block). if_block c n (turned (run c n bs)) (run c n bs) o) e
