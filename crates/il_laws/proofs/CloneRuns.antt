-- A clone does what its callee does from each frame that has the constants.
use Rattle.std.proofs.Common.{◌≡◌, ℕ, zero, suc, ◌<◌, ◌≤◌, List, [], ◌∷◌, ◌++◌, Bool, true, false, refl, ap, ap₂, sym, ◌∙◌, arith, length, slice_get}
use Rattle.std.proofs.Common.{eqb-true, lt-ltb}
use Rattle.std.specs.Prelude.{nat_eq, if◌then◌else◌, ◌||◌, Some, get_or}
use Rattle.std.specs.List.{AllByRecursion}
use Rattle.std.proofs.lemmas.Option.{none-some, same_Some}
use mathlib.Core.Path.{fun_ext}
use Rattle.il_core.specs.declared.instr.Block.{Block}
use Rattle.il_core.specs.declared.instr.End.{End}
use Rattle.il_core.specs.declared.instr.End.TheVariants as ends
use Rattle.il_core.specs.World.{World, Outcome, choose, from_list}
use Rattle.il_core.specs.Meaning.{Frame, with_reg, frame_of, Lengths, Next, finish}
use Rattle.il_core.specs.Operands.{is_named, loops_to, retargeted, retargeted_block}
use Rattle.il_laws.specs.Clone.{Fixed, constants, clone_blocks}
use Rattle.il_laws.specs.Facts.{looped}
use Rattle.il_laws.specs.Runs.{Calls, does, turned, run}
use Rattle.il_laws.specs.Table.{HasFixed}
use Rattle.il_laws.proofs.Alike.{CallsAlike, anything, anything_blocks}
use Rattle.il_laws.proofs.Induction.{Agree, Relation, related_agree}
use Rattle.il_laws.proofs.Lists.{get_in, get_map}
use Rattle.il_laws.proofs.Places.{IsForward, block_does, run_block}
use Rattle.il_laws.proofs.Same.{SameAt, does_at, does_append}
use Rattle.il_laws.proofs.Sound.{none_block, Targets, both_targets, Sound, are_forward, ends_same}

-- a frame with the constants in their registers
abbrev pub HasRegs : List Fixed → Frame → Type 0
HasRegs fixed f = AllByRecursion (λ x. f.regs x.param ≡ x.word.0) fixed

same_put : (f : ℕ → ℕ) (d v x : ℕ) (k : Bool) → nat_eq x d ≡ k → f d ≡ v → (if k then v else f x) ≡ f x
same_put f d v x true e h = sym h ∙ ap f (sym (eqb-true x d e))
same_put f d v x false e h = refl

-- to put what a register holds changes nothing
put_was : (f : Frame) (d v : ℕ) → f.regs d ≡ v → with_reg f d v ≡ f
put_was f d v h = ap (λ (g : ℕ → ℕ). record f { regs = g }) (fun_ext (λ x. same_put f.regs d v x (nat_eq x d) refl h))

from_list_at : (vs : List ℕ) (i v : ℕ) → slice_get vs i ≡ Some v → from_list vs i ≡ v
from_list_at [] i v e = absurd (none-some v e)
from_list_at (u ∷ vs) zero v e = same_Some u v e
from_list_at (u ∷ vs) (suc i) v e = from_list_at vs i v e

-- a call with the constants among its arguments begins with them in their registers
pub has_regs : (params : ℕ) (fixed : List Fixed) (args : List ℕ) → AllByRecursion (λ x. x.param < params) fixed → HasFixed fixed args
    → HasRegs fixed (frame_of params args)
has_regs params [] args ok h = tt
has_regs params (x ∷ xs) args ok h = (
  ap (λ (k : Bool). if k then from_list args x.param else 0) (lt-ltb x.param params ok.0) ∙ from_list_at args x.param x.word.0 h.0,
  has_regs params xs args ok.1 h.1,
)

or_first : (a b : Bool) → (a || b) ≡ false → a ≡ false
or_first false b e = refl
or_first true b e = e

or_second : (a b : Bool) → (a || b) ≡ false → b ≡ false
or_second false b e = e
or_second true b e = let bad : true ≡ false = e in absurd cc

not_looped : (bs : List Block) (t : ℕ) (x : Block) (u : ℕ) → slice_get bs t ≡ Some x → looped bs u ≡ false
    → is_named (loops_to x.end) u ≡ false
not_looped [] t x u e h = absurd (none-some x e)
not_looped (y ∷ bs) zero x u e h =
    ap (λ (z : Block). is_named (loops_to z.end) u) (sym (same_Some y x e)) ∙ or_first (is_named (loops_to y.end) u) (looped bs u) h
not_looped (y ∷ bs) (suc t) x u e h = not_looped bs t x u e (or_second (is_named (loops_to y.end) u) (looped bs u) h)

-- no edge goes to block 0: jumps go forward, and no `loop` goes there
above_zero : (b : ℕ) (e : End) → IsForward b e → is_named (loops_to e) 0 ≡ false → Targets (λ u. 0 < u) e
above_zero b (ends.Jump t) lt h = omega arith
above_zero b (ends.Branch r t u) lt h = let l = lt.0 in let k = lt.1 in (omega arith, omega arith)
above_zero b (ends.Loop zero) lt h = let bad : true ≡ false = h in absurd cc
above_zero b (ends.Loop (suc t)) lt h = omega arith
above_zero b (ends.Return r) lt h = tt
above_zero b (ends.Exit r) lt h = tt

module _ {S : Type 0} where
  constants_do : (c : Calls S) (n : Lengths) (fixed : List Fixed) (go : Next S) (f : Frame) (w : World S) → HasRegs fixed f
      → does c n (constants fixed) go f w ≡ go f w
  constants_do c n [] go f w h = refl
  constants_do c n (x ∷ xs) go f w h =
      ap (λ (g : Frame). does c n (constants xs) go g w) (put_was f x.param x.word.0 h.0) ∙ constants_do c n xs go f w h.1

  -- an end, where each block that it goes to does the same under another number
  ends_moved : (to : ℕ → ℕ) (P : ℕ → Type 0) (m t : ℕ) (old new : ℕ → Next S) (e : End) → Targets P e → IsForward t e → (f : Frame)
      → ((u : ℕ) → t < u → P u → SameAt m (old u) (new (to u)) f) → ((u : ℕ) → P u → SameAt m (turned old u) (turned new (to u)) f)
      → SameAt m (λ g w. finish (turned old) old e g w) (λ g w. finish (turned new) new (retargeted to e) g w) f
  ends_moved to P m t old new (ends.Jump u) p lt f later back = record { by = λ w lw. (later u lt p).by w lw }
  ends_moved to P m t old new (ends.Branch r u v) p lt f later back =
      record {
        by = λ w lw. ap₂ {A = Outcome S} {B = Outcome S} {C = Outcome S} (λ a b. choose (f.regs r) a b)
            ((later u lt.0 p.0).by w lw) ((later v lt.1 p.1).by w lw);
      }
  ends_moved to P m t old new (ends.Loop u) p lt f later back = record { by = λ w lw. (back u p).by w lw }
  ends_moved to P m t old new (ends.Return r) p lt f later back = record { by = λ w lw. refl }
  ends_moved to P m t old new (ends.Exit r) p lt f later back = record { by = λ w lw. refl }

  module _ (c : Calls S) (falls : (t : ℕ) → CallsAlike anything t c c) (n : Lengths) (fixed : List Fixed) (x0 : Block) (xs : List Block)
      (sound : Sound (x0 ∷ xs)) where
    abbrev bs : List Block
    bs = x0 ∷ xs

    abbrev old : ℕ → Next S
    old = run c n bs

    old_is : (t : ℕ) (x : Block) → slice_get bs t ≡ Some x → old t ≡ block_does c n (turned old) old x
    old_is t x e = run_block anything c falls n bs (anything_blocks bs) (are_forward bs sound) t x e

    -- the constants in a new block before block 0
    module _ (sound1 : Sound (clone_blocks true fixed (x0 ∷ xs))) where
      abbrev bs1 : List Block
      bs1 = clone_blocks true fixed (x0 ∷ xs)

      abbrev new : ℕ → Next S
      new = run c n bs1

      new_is : (t : ℕ) (x : Block) → slice_get bs1 t ≡ Some x → new t ≡ block_does c n (turned new) new x
      new_is t x e = run_block anything c falls n bs1 (anything_blocks bs1) (are_forward bs1 sound1) t x e

      abbrev Shifted : Relation
      Shifted t t1 f g = (t < length bs) × (t1 ≡ suc t) × (f ≡ g)

      shifted_one : (m t t1 : ℕ) → ((u u1 : ℕ) → t < u → Agree m (Shifted u u1) (old u) (new u1))
          → ((u u1 : ℕ) → Agree m (Shifted u u1) (turned old u) (turned new u1)) → Agree m (Shifted t t1) (old t) (new t1)
      shifted_one m t t1 later back =
          record {
            by = λ f g w lw rel.
                let x = get_or bs t none_block in
                let e = get_in bs t none_block rel.0 in
                let same = does_at c falls n m x.instrs _ _ (λ h. ends_moved suc (λ u. u < length bs) m t old new x.end (sound.inside t x e)
                (sound.forward t x e) h (λ u lt p. record { by = λ w1 l1. (later u (suc u) lt).by h h w1 l1 (p, refl, refl) })
                (λ u p. record { by = λ w1 l1. (back u (suc u)).by h h w1 l1 (p, refl, refl) })) f in
                ap (λ (a : Next S). a f w) (old_is t x e)
                ∙ same.by w lw
                ∙ ap (λ (a : Next S). a f w)
                (sym (new_is (suc t) (retargeted_block suc x) (get_map (retargeted_block suc) bs t x e)))
                ∙ ap (λ (u : ℕ). new u f w) (sym rel.1) ∙ ap (λ (h : Frame). new t1 h w) rel.2;
          }

      pub before_keeps : (f : Frame) (w : World S) → HasRegs fixed f → old 0 f w ≡ new 0 f w
      before_keeps f w h =
          let all = related_agree w.turns (length bs) old new Shifted (λ t t1 f1 g1 rel. rel.0)
          (λ m t t1 le later back. shifted_one m t t1 later back) 0 1 in
          all.by f f w (omega arith) (sound.some, refl, refl)
          ∙ sym (constants_do c n fixed (λ f1 w1. new 1 f1 w1) f w h)
          ∙ ap (λ (a : Next S). a f w) (sym (new_is 0 (record { instrs = constants fixed; end = ends.Jump 1 }) refl))

    -- the constants at the start of block 0, to which no edge goes
    module _ (free : looped (x0 ∷ xs) 0 ≡ false) (sound1 : Sound (clone_blocks false fixed (x0 ∷ xs))) where
      abbrev bs2 : List Block
      bs2 = clone_blocks false fixed (x0 ∷ xs)

      abbrev new2 : ℕ → Next S
      new2 = run c n bs2

      new2_is : (t : ℕ) (x : Block) → slice_get bs2 t ≡ Some x → new2 t ≡ block_does c n (turned new2) new2 x
      new2_is t x e = run_block anything c falls n bs2 (anything_blocks bs2) (are_forward bs2 sound1) t x e

      abbrev Placed : Relation
      Placed t t1 f g = (t < length bs) × (t1 ≡ t) × (f ≡ g) × (t ≡ 0 → HasRegs fixed f)

      module _ (m t : ℕ) (later : (u u1 : ℕ) → t < u → Agree m (Placed u u1) (old u) (new2 u1))
          (back : (u u1 : ℕ) → Agree m (Placed u u1) (turned old u) (turned new2 u1)) where
        block_same : (x : Block) → slice_get bs t ≡ Some x → (f : Frame)
            → SameAt m (block_does c n (turned old) old x) (block_does c n (turned new2) new2 x) f
        block_same x e f =
            let forward = sound.forward t x e in
            let targets = both_targets (λ u. u < length bs) (λ u. 0 < u) x.end (sound.inside t x e)
            (above_zero t x.end forward (not_looped bs t x 0 e free)) in
            does_at c falls n m x.instrs _ _ (λ h. ends_same (λ u. (u < length bs) × (0 < u)) m t old new2 x.end targets forward h
            (λ u lt p. record { by = λ w1 l1. (later u u lt).by h h w1 l1 (p.0, refl, refl, λ z. absurd (let q = p.1 in omega arith)) })
            (λ u p. record { by = λ w1 l1. (back u u).by h h w1 l1 (p.0, refl, refl, λ z. absurd (let q = p.1 in omega arith)) })) f

        place_same : (s : ℕ) → t ≡ s → (f : Frame) (w : World S) → w.turns ≤ m → t < length bs → (t ≡ 0 → HasRegs fixed f) → old t f w ≡ new2 t f w
        place_same zero z f w lw lt h =
            let e : slice_get bs t ≡ Some x0 = ap (λ (u : ℕ). slice_get bs u) z in
            let first : Block = record { instrs = constants fixed ++ x0.instrs; end = x0.end } in
            ap (λ (a : Next S). a f w) (old_is t x0 e) ∙ (block_same x0 e f).by w lw
            ∙ sym (constants_do c n fixed (λ f1 w1. block_does c n (turned new2) new2 x0 f1 w1) f w (h z))
            ∙ ap (λ (a : Next S). a f w)
            (sym (does_append c n (constants fixed) x0.instrs (λ f1 w1. finish (turned new2) new2 x0.end f1 w1)))
            ∙ ap (λ (a : Next S). a f w) (sym (new2_is t first (ap (λ (u : ℕ). slice_get bs2 u) z)))
        place_same (suc s) z f w lw lt h =
            let x = get_or bs t none_block in
            let e = get_in bs t none_block lt in
            let e2 = ap (λ (u : ℕ). slice_get bs2 u) z ∙ ap (λ (u : ℕ). slice_get bs u) (sym z) ∙ e in
            ap (λ (a : Next S). a f w) (old_is t x e) ∙ (block_same x e f).by w lw ∙ ap (λ (a : Next S). a f w) (sym (new2_is t x e2))

      placed_one : (m t t1 : ℕ) → ((u u1 : ℕ) → t < u → Agree m (Placed u u1) (old u) (new2 u1))
          → ((u u1 : ℕ) → Agree m (Placed u u1) (turned old u) (turned new2 u1)) → Agree m (Placed t t1) (old t) (new2 t1)
      placed_one m t t1 later back =
          record {
            by = λ f g w lw rel. place_same m t later back t refl f w lw rel.0 rel.3
                ∙ ap (λ (u : ℕ). new2 u f w) (sym rel.1) ∙ ap (λ (h : Frame). new2 t1 h w) rel.2;
          }

      pub inside_keeps : (f : Frame) (w : World S) → HasRegs fixed f → old 0 f w ≡ new2 0 f w
      inside_keeps f w h =
          let all = related_agree w.turns (length bs) old new2 Placed (λ t t1 f1 g1 rel. rel.0)
          (λ m t t1 le later back. placed_one m t t1 later back) 0 0 in
          all.by f f w (omega arith) (sound.some, refl, refl, λ z. h)

  pub clone_run : (c : Calls S) (falls : (t : ℕ) → CallsAlike anything t c c) (n : Lengths) (fixed : List Fixed) (bs : List Block) (k : Bool)
      → looped bs 0 ≡ k → Sound bs → Sound (clone_blocks k fixed bs) → (f : Frame) (w : World S) → HasRegs fixed f
      → run c n bs 0 f w ≡ run c n (clone_blocks k fixed bs) 0 f w
  clone_run c falls n fixed [] k e sound sound1 f w h = refl
  clone_run c falls n fixed (x ∷ xs) true e sound sound1 f w h = before_keeps c falls n fixed x xs sound sound1 f w h
  clone_run c falls n fixed (x ∷ xs) false e sound sound1 f w h = inside_keeps c falls n fixed x xs sound e sound1 f w h
