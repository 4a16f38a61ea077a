-- The run is the same where blocks that no kept block goes to are left out, and the others renumbered.
use Rattle.std.proofs.Common.{◌≡◌, ℕ, zero, suc, ◌<◌, List, [], ◌∷◌, Bool, true, false, refl, ap, ap₂, sym, ◌∙◌, arith, length, slice_get}
use Rattle.std.specs.Prelude.{Some, get_or}
use Rattle.std.proofs.lemmas.Option.{none-some}
use Rattle.il_core.specs.declared.instr.Block.{Block}
use Rattle.il_core.specs.declared.instr.End.{End}
use Rattle.il_core.specs.declared.instr.End.TheVariants as ends
use Rattle.il_core.specs.World.{World, Outcome, choose}
use Rattle.il_core.specs.Meaning.{Frame, Lengths, Next, finish}
use Rattle.il_core.specs.Operands.{retargeted, retargeted_block}
use Rattle.il_laws.specs.Renumber.{place_of, kept, renumbered}
use Rattle.il_laws.specs.Runs.{Calls, turned, run}
use Rattle.il_laws.proofs.Alike.{CallsAlike, anything, anything_blocks}
use Rattle.il_laws.proofs.Places.{IsForward, run_block}
use Rattle.il_laws.proofs.Induction.{Agree, Relation, related_agree}
use Rattle.il_laws.proofs.Same.{SameAt, does_at}
use Rattle.il_laws.proofs.Lists.{get_in, get_map}
use Rattle.il_laws.proofs.Sound.{none_block, Targets, both_targets, Sound, are_forward}

-- a block is kept
abbrev pub Marked : List Bool → ℕ → Type 0
Marked ms t = slice_get ms t ≡ Some true

pub place_less : (ms : List Bool) (t u : ℕ) → Marked ms t → t < u → place_of ms t < place_of ms u
place_less [] t u e lt = absurd (none-some true e)
place_less (m ∷ ms) t zero e lt = absurd (omega arith)
place_less (true ∷ ms) zero (suc u) e lt = omega arith
place_less (false ∷ ms) zero (suc u) e lt = absurd cc
place_less (true ∷ ms) (suc t) (suc u) e lt = let less = place_less ms t u e (omega arith) in omega arith
place_less (false ∷ ms) (suc t) (suc u) e lt = place_less ms t u e (omega arith)

pub kept_at : (ms : List Bool) (bs : List Block) (t : ℕ) (x : Block) → slice_get bs t ≡ Some x → Marked ms t → slice_get (kept ms bs) (place_of ms t)
    ≡ Some x
kept_at [] bs t x e m = absurd (none-some true m)
kept_at (k ∷ ms) [] t x e m = absurd (none-some x e)
kept_at (true ∷ ms) (y ∷ bs) zero x e m = e
kept_at (false ∷ ms) (y ∷ bs) zero x e m = absurd cc
kept_at (true ∷ ms) (y ∷ bs) (suc t) x e m = kept_at ms bs t x e m
kept_at (false ∷ ms) (y ∷ bs) (suc t) x e m = kept_at ms bs t x e m

-- where a kept block comes from
pub record From (ms : List Bool) (bs : List Block) (i : ℕ) (x : Block) : Type 0 where
  pub at : ℕ
  pub is : slice_get bs at ≡ Some x
  pub mark : Marked ms at
  pub place : place_of ms at ≡ i

pub kept_from : (ms : List Bool) (bs : List Block) (i : ℕ) (x : Block) → slice_get (kept ms bs) i ≡ Some x → From ms bs i x
kept_from [] bs i x e = absurd (none-some x e)
kept_from (k ∷ ms) [] i x e = absurd (none-some x e)
kept_from (true ∷ ms) (y ∷ bs) zero x e = record { at = 0; is = e; mark = refl; place = refl }
kept_from (true ∷ ms) (y ∷ bs) (suc i) x e = let h = kept_from ms bs i x e in
    record { at = suc h.at; is = h.is; mark = h.mark; place = ap suc h.place }
kept_from (false ∷ ms) (y ∷ bs) i x e = let h = kept_from ms bs i x e in record { at = suc h.at; is = h.is; mark = h.mark; place = h.place }

-- the first block is kept, and each block that a kept one goes to
pub record IsClosed (ms : List Bool) (bs : List Block) : Type 0 where
  pub first : Marked ms 0
  pub goes : (t : ℕ) (x : Block) → slice_get bs t ≡ Some x → Marked ms t → Targets (Marked ms) x.end

place_first : (ms : List Bool) → place_of ms 0 ≡ 0
place_first [] = refl
place_first (m ∷ ms) = refl

module _ (ms : List Bool) (bs : List Block) (sound : Sound bs) (closed : IsClosed ms bs) where
  abbrev at : ℕ → ℕ
  at t = place_of ms t

  abbrev bs1 : List Block
  bs1 = renumbered ms bs

  new_at : (t : ℕ) (x : Block) → slice_get bs t ≡ Some x → Marked ms t → slice_get bs1 (at t) ≡ Some (retargeted_block at x)
  new_at t x e m = get_map (retargeted_block at) (kept ms bs) (at t) x (kept_at ms bs t x e m)

  module _ (sound1 : Sound bs1) {S : Type 0} (c : Calls S) (falls : (t : ℕ) → CallsAlike anything t c c) (n : Lengths) where
    abbrev old : ℕ → Next S
    old = run c n bs

    abbrev new : ℕ → Next S
    new = run c n bs1

    abbrev Rel : Relation
    Rel t t1 f g = (t < length bs) × Marked ms t × (t1 ≡ at t) × (f ≡ g)

    end_same : (m t : ℕ) (e : End) → Targets (λ u. (u < length bs) × Marked ms u) e → IsForward t e
        → ((u u1 : ℕ) → t < u → Agree m (Rel u u1) (old u) (new u1)) → ((u u1 : ℕ) → Agree m (Rel u u1) (turned old u) (turned new u1))
        → (f : Frame) → SameAt m (λ g w. finish (turned old) old e g w) (λ g w. finish (turned new) new (retargeted at e) g w) f
    end_same m t (ends.Jump u) p lt later back f = record { by = λ w lw. (later u (at u) lt).by f f w lw (p.0, p.1, refl, refl) }
    end_same m t (ends.Branch r u v) p lt later back f =
        record {
          by = λ w lw. ap₂ {A = Outcome S} {B = Outcome S} {C = Outcome S} (λ a b. choose (f.regs r) a b)
              ((later u (at u) lt.0).by f f w lw (p.0.0, p.0.1, refl, refl)) ((later v (at v) lt.1).by f f w lw (p.1.0, p.1.1, refl, refl));
        }
    end_same m t (ends.Loop u) p lt later back f = record { by = λ w lw. (back u (at u)).by f f w lw (p.0, p.1, refl, refl) }
    end_same m t (ends.Return r) p lt later back f = record { by = λ w lw. refl }
    end_same m t (ends.Exit r) p lt later back f = record { by = λ w lw. refl }

    one : (m t t1 : ℕ) → ((u u1 : ℕ) → t < u → Agree m (Rel u u1) (old u) (new u1)) → ((u u1 : ℕ) → Agree m (Rel u u1) (turned old u) (turned new u1))
        → Agree m (Rel t t1) (old t) (new t1)
    one m t t1 later back =
        record {
          by = λ f g w lw rel.
              let x = get_or bs t none_block in
              let e = get_in bs t none_block rel.0 in
              let targets = both_targets (λ u. u < length bs) (Marked ms) x.end (sound.inside t x e) (closed.goes t x e rel.1) in
              ap (λ (a : Next S). a f w) (run_block anything c falls n bs (anything_blocks bs) (are_forward bs sound) t x e)
              ∙ (does_at c falls n m x.instrs _ _ (λ h. end_same m t x.end targets (sound.forward t x e) later back h) f).by w lw
              ∙ ap (λ (a : Next S). a f w) (sym
              (run_block anything c falls n bs1 (anything_blocks bs1) (are_forward bs1 sound1) (at t) (retargeted_block at x)
              (new_at t x e rel.1)))
              ∙ ap (λ (u : ℕ). new u f w) (sym rel.2) ∙ ap (λ (h : Frame). new t1 h w) rel.3;
        }

    pub renumbered_keeps : (f : Frame) (w : World S) → old 0 f w ≡ new 0 f w
    renumbered_keeps f w = (related_agree w.turns (length bs) old new Rel (λ t t1 f1 g1 rel. rel.0) (λ m t t1 le later back. one m t t1 later back) 0
        0).by f f w (omega arith) (sound.some, closed.first, sym (place_first ms), refl)
