-- Blocks whose jumps go forward, and whose edges go to blocks that are there.
use Rattle.std.proofs.Common.{◌≡◌, ℕ, suc, ◌+◌, ◌<◌, List, [], ◌∷◌, Bool, refl, ap₂, subst, arith, length, slice_get}
use Rattle.std.specs.Prelude.{Some, ⊤}
use Rattle.std.proofs.lemmas.Option.{slice_get_within}
use Rattle.il_core.specs.declared.instr.Block.{Block}
use Rattle.il_core.specs.declared.instr.End.{End}
use Rattle.il_core.specs.declared.instr.End.TheVariants as ends
use Rattle.il_core.specs.declared.shape.ShapeRow.{ShapeRow}
use Rattle.il_core.specs.Routine.{RoutineParts}
use Rattle.il_core.specs.Valid.{IsValidEnd, IsValid}
use Rattle.il_core.specs.World.{Outcome, choose}
use Rattle.il_core.specs.Meaning.{Frame, Next, finish}
use Rattle.il_laws.specs.Runs.{turned}
use Rattle.il_laws.proofs.Places.{IsForward, AreForward}
use Rattle.il_laws.proofs.Same.{SameAt}
use Rattle.il_laws.proofs.Lists.{valid_block, valid_forward}

abbrev pub none_block : Block
none_block = record { instrs = []; end = ends.Loop 0 }

-- what each block that an end goes to is
abbrev pub Targets : (ℕ → Type 0) → End → Type 0
Targets P (ends.Jump t) = P t
Targets P (ends.Branch r t u) = P t × P u
Targets P (ends.Loop t) = P t
Targets P (ends.Return r) = ⊤
Targets P (ends.Exit r) = ⊤

pub targets_map : (P Q : ℕ → Type 0) → ((u : ℕ) → P u → Q u) → (e : End) → Targets P e → Targets Q e
targets_map P Q h (ends.Jump t) p = h t p
targets_map P Q h (ends.Branch r t u) p = (h t p.0, h u p.1)
targets_map P Q h (ends.Loop t) p = h t p
targets_map P Q h (ends.Return r) p = tt
targets_map P Q h (ends.Exit r) p = tt

-- jumps go forward, and to blocks that are there
pub record Sound (bs : List Block) : Type 0 where
  pub forward : (t : ℕ) (x : Block) → slice_get bs t ≡ Some x → IsForward t x.end
  pub inside : (t : ℕ) (x : Block) → slice_get bs t ≡ Some x → Targets (λ u. u < length bs) x.end
  pub some : 0 < length bs

forward_each : (d : ℕ) (xs : List Block) → ((i : ℕ) (y : Block) → slice_get xs i ≡ Some y → IsForward (d + i) y.end) → AreForward d xs
forward_each d [] h = tt
forward_each d (x ∷ xs) h =
    let here : d + 0 ≡ d = omega arith in (
      subst (λ (t : ℕ). IsForward t x.end) here (h 0 x refl),
      forward_each (suc d) xs
          (λ i y e. let there : d + suc i ≡ suc d + i = omega arith in subst (λ (t : ℕ). IsForward t y.end) there (h (suc i) y e)),
    )

pub are_forward : (bs : List Block) → Sound bs → AreForward 0 bs
are_forward bs h = forward_each 0 bs (λ i y e. let here : i ≡ 0 + i = omega arith in subst (λ (t : ℕ). IsForward t y.end) here (h.forward i y e))

valid_inside : (regs : ℕ) (value : Bool) (blocks b : ℕ) (e : End) → IsValidEnd regs value blocks b e → b < blocks → Targets (λ u. u < blocks) e
valid_inside regs value blocks b (ends.Jump t) h lt = h.1
valid_inside regs value blocks b (ends.Branch r t u) h lt = (h.1.1, h.2.1)
valid_inside regs value blocks b (ends.Loop t) h lt = omega arith
valid_inside regs value blocks b (ends.Return r) h lt = tt
valid_inside regs value blocks b (ends.Exit r) h lt = tt

pub valid_sound : (rows : List ShapeRow) (r : RoutineParts) → IsValid rows r → Sound r.blocks
valid_sound rows r h =
    record {
      forward = λ t x e. valid_forward r.regs r.value (length r.blocks) t x.end (valid_block rows r h t x e).end;
      inside = λ t x e. valid_inside r.regs r.value (length r.blocks) t x.end (valid_block rows r h t x e).end (slice_get_within r.blocks t x e);
      some = h.some_block;
    }

pub both_targets : (P Q : ℕ → Type 0) (e : End) → Targets P e → Targets Q e → Targets (λ u. P u × Q u) e
both_targets P Q (ends.Jump t) p q = (p, q)
both_targets P Q (ends.Branch r t u) p q = ((p.0, q.0), (p.1, q.1))
both_targets P Q (ends.Loop t) p q = (p, q)
both_targets P Q (ends.Return r) p q = tt
both_targets P Q (ends.Exit r) p q = tt

module _ {S : Type 0} where
  -- an end, where what it goes to is the same
  pub ends_same : (P : ℕ → Type 0) (m t : ℕ) (old new : ℕ → Next S) (e : End) → Targets P e → IsForward t e
      → (f : Frame) → ((u : ℕ) → t < u → P u → SameAt m (old u) (new u) f) → ((u : ℕ) → P u → SameAt m (turned old u) (turned new u) f)
      → SameAt m (λ g w. finish (turned old) old e g w) (λ g w. finish (turned new) new e g w) f
  ends_same P m t old new (ends.Jump u) p lt f later back = record { by = λ w lw. (later u lt p).by w lw }
  ends_same P m t old new (ends.Branch r u v) p lt f later back =
      record {
        by = λ w lw. ap₂ {A = Outcome S} {B = Outcome S} {C = Outcome S} (λ a b. choose (f.regs r) a b) ((later u lt.0 p.0).by w lw)
            ((later v lt.1 p.1).by w lw);
      }
  ends_same P m t old new (ends.Loop u) p lt f later back = record { by = λ w lw. (back u p).by w lw }
  ends_same P m t old new (ends.Return r) p lt f later back = record { by = λ w lw. refl }
  ends_same P m t old new (ends.Exit r) p lt f later back = record { by = λ w lw. refl }
