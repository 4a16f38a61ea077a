-- A valid routine stays valid where blocks that no kept block goes to are left out, and the others renumbered.
use Rattle.std.proofs.Common.{◌≡◌, ℕ, zero, suc, ◌<◌, ◌≤◌, List, [], ◌∷◌, Bool, true, false, refl, ap, subst, sym, ◌∙◌, arith, length, slice_get}
use Rattle.std.specs.Prelude.{Option, Some, None, get_or, option_map}
use Rattle.std.proofs.lemmas.Option.{none-some, same_Some, slice_get_within, slice_get-map}
use Rattle.il_core.specs.declared.instr.Block.{Block}
use Rattle.il_core.specs.declared.instr.End.{End}
use Rattle.il_core.specs.declared.instr.End.TheVariants as ends
use Rattle.il_core.specs.declared.shape.ShapeRow.{ShapeRow}
use Rattle.il_core.specs.Routine.{RoutineParts}
use Rattle.il_core.specs.Valid.{IsValidEnd, IsValid}
use Rattle.il_core.specs.Operands.{retargeted, retargeted_block}
use Rattle.il_laws.specs.Renumber.{place_of, kept, renumbered}
use Rattle.il_laws.proofs.Lists.{ValidBlock, valid_block, get_in}
use Rattle.il_laws.proofs.Sound.{none_block, Targets}
use Rattle.il_laws.proofs.ValidBlocks.{with_blocks, valid_with}
use Rattle.il_laws.proofs.Renumbered.{Marked, IsClosed, place_less, kept_at, kept_from}

place_mono : (ms : List Bool) (t u : ℕ) → u ≤ t → place_of ms u ≤ place_of ms t
place_mono [] t u le = omega arith
place_mono (m ∷ ms) zero zero le = omega arith
place_mono (m ∷ ms) zero (suc u) le = absurd (omega arith)
place_mono (m ∷ ms) (suc t) zero le = omega arith
place_mono (true ∷ ms) (suc t) (suc u) le = let less = place_mono ms t u (omega arith) in omega arith
place_mono (false ∷ ms) (suc t) (suc u) le = place_mono ms t u (omega arith)

module _ (rows : List ShapeRow) (ms : List Bool) (r : RoutineParts) (valid : IsValid rows r) (closed : IsClosed ms r.blocks) where
  abbrev bs1 : List Block
  bs1 = renumbered ms r.blocks

  abbrev at : ℕ → ℕ
  at t = place_of ms t

  placed : (u : ℕ) → u < length r.blocks → Marked ms u → at u < length bs1
  placed u lt m =
      let x = get_or r.blocks u none_block in
      let kept_x = kept_at ms r.blocks u x (get_in r.blocks u none_block lt) m in
      slice_get_within bs1 (at u) (retargeted_block at x)
      (slice_get-map (retargeted_block at) (kept ms r.blocks) (at u) ∙ ap (λ (o : Option Block). option_map (retargeted_block at) o) kept_x)

  place_end : (t : ℕ) (x : Block) → slice_get r.blocks t ≡ Some x → Marked ms t → (e : End) → x.end ≡ e
      → IsValidEnd r.regs r.value (length r.blocks) t e → IsValidEnd r.regs r.value (length bs1) (at t) (retargeted at e)
  place_end t x ex m (ends.Jump u) ee h =
      (place_less ms t u m h.0, placed u h.1 (let goes = closed.goes t x ex m in subst (λ (z : End). Targets (Marked ms) z) ee goes))
  place_end t x ex m (ends.Branch p u v) ee h = let goes = subst (λ (z : End). Targets (Marked ms) z) ee (closed.goes t x ex m) in
      (h.0, (place_less ms t u m h.1.0, placed u h.1.1 goes.0), (place_less ms t v m h.2.0, placed v h.2.1 goes.1))
  place_end t x ex m (ends.Loop u) ee h = place_mono ms t u h
  place_end t x ex m (ends.Return p) ee h = h
  place_end t x ex m (ends.Exit p) ee h = h

  placed_block : (i : ℕ) (y : Block) (o : Option Block) → slice_get (kept ms r.blocks) i ≡ o → option_map (retargeted_block at) o ≡ Some y
      → ValidBlock rows (with_blocks r bs1) i y
  placed_block i y None e h = absurd (none-some y h)
  placed_block i y (Some x) e h =
      let from = kept_from ms r.blocks i x e in
      let ok = valid_block rows r valid from.at x from.is in
      subst (λ (z : Block). ValidBlock rows (with_blocks r bs1) i z) (same_Some (retargeted_block at x) y h)
      (subst (λ (j : ℕ). ValidBlock rows (with_blocks r bs1) j (retargeted_block at x)) from.place
      (record { instrs = ok.instrs; end = place_end from.at x from.is from.mark x.end refl ok.end }))

  pub renumbered_valid : IsValid rows (with_blocks r bs1)
  renumbered_valid =
      valid_with rows r bs1 valid (let lt = placed 0 valid.some_block closed.first in omega arith)
      (λ i y e. placed_block i y (slice_get (kept ms r.blocks) i) refl (sym (slice_get-map (retargeted_block at) (kept ms r.blocks) i) ∙ e))
