-- A block may take in the one that it alone jumps to.
use Rattle.std.proofs.Common.{◌≡◌, ℕ, zero, suc, ◌<◌, ◌≤◌, List, [], ◌∷◌, map, Bool, true, false, refl, ap, subst, sym, ◌∙◌, arith, length, slice_get}
use Rattle.std.proofs.Common.{inl, inr, eqb-true}
use Rattle.std.specs.Prelude.{nat_eq, ◌&&◌, if◌then◌else◌, Option, Some, None, get_or}
use Rattle.std.proofs.lemmas.Bool.{cases_eq}
use Rattle.std.proofs.lemmas.Option.{none-some, same_Some}
use Rattle.il_core.specs.declared.instr.Block.{Block}
use Rattle.il_core.specs.declared.instr.End.{End}
use Rattle.il_core.specs.declared.instr.End.TheVariants as ends
use Rattle.il_core.specs.World.{World}
use Rattle.il_core.specs.Meaning.{Frame, Lengths, Next, finish}
use Rattle.il_laws.specs.Edges.{edges, all_edges}
use Rattle.il_laws.specs.Merge.{may_end, joined, set_block, all_but, NextBlock, next_if, next_at_end}
use Rattle.il_laws.specs.Runs.{Calls, does, turned, run}
use Rattle.il_laws.proofs.Alike.{CallsAlike, anything, anything_blocks}
use Rattle.il_laws.proofs.Places.{IsForward, block_does, run_block}
use Rattle.il_laws.proofs.Induction.{Agree, Relation, related_agree}
use Rattle.il_laws.proofs.Same.{SameAt, does_at, does_append}
use Rattle.il_laws.proofs.Lists.{get_in}
use Rattle.il_laws.proofs.Sound.{none_block, Targets, targets_map, both_targets, Sound, are_forward, ends_same}
use Rattle.il_laws.proofs.Renumbered.{Marked, IsClosed}
use Rattle.il_laws.proofs.Edged.{jump_edge, edges_none, edges_two}

pub set_same : (bs : List Block) (b : ℕ) (x z : Block) → slice_get bs b ≡ Some x → slice_get (set_block bs b z) b ≡ Some z
set_same [] b x z e = absurd (none-some x e)
set_same (y ∷ bs) zero x z e = refl
set_same (y ∷ bs) (suc b) x z e = set_same bs b x z e

pub set_other : (bs : List Block) (b u : ℕ) (z : Block) → (u ≡ b → ⊥) → slice_get (set_block bs b z) u ≡ slice_get bs u
set_other [] b u z ne = refl
set_other (y ∷ bs) zero zero z ne = absurd (ne refl)
set_other (y ∷ bs) zero (suc u) z ne = refl
set_other (y ∷ bs) (suc b) zero z ne = refl
set_other (y ∷ bs) (suc b) (suc u) z ne = set_other bs b u z (λ e. ne (ap suc e))

pub set_length : (bs : List Block) (b : ℕ) (z : Block) → length (set_block bs b z) ≡ length bs
set_length [] b z = refl
set_length (y ∷ bs) zero z = refl
set_length (y ∷ bs) (suc b) z = ap suc (set_length bs b z)

all_marked : (bs : List Block) (u : ℕ) → u < length bs → slice_get (map (λ (y : Block). true) bs) u ≡ Some true
all_marked [] u lt = absurd (omega arith)
all_marked (y ∷ bs) zero lt = refl
all_marked (y ∷ bs) (suc u) lt = let less : suc u < suc (length bs) = lt in all_marked bs u (omega arith)

marked_but : (bs : List Block) (t u : ℕ) → u < length bs → (u ≡ t → ⊥) → Marked (all_but t bs) u
marked_but [] t u lt ne = absurd (omega arith)
marked_but (y ∷ bs) zero zero lt ne = absurd (ne refl)
marked_but (y ∷ bs) zero (suc u) lt ne = let less : suc u < suc (length bs) = lt in all_marked bs u (omega arith)
marked_but (y ∷ bs) (suc t) zero lt ne = refl
marked_but (y ∷ bs) (suc t) (suc u) lt ne = let less : suc u < suc (length bs) = lt in marked_but bs t u (omega arith) (λ e. ne (ap suc e))

unmarked_but : (bs : List Block) (t u : ℕ) → Marked (all_but t bs) u → u ≡ t → ⊥
unmarked_but [] t u m e = absurd (none-some true m)
unmarked_but (y ∷ bs) zero zero m e = cc
unmarked_but (y ∷ bs) zero (suc u) m e = absurd (omega arith)
unmarked_but (y ∷ bs) (suc t) zero m e = absurd (omega arith)
unmarked_but (y ∷ bs) (suc t) (suc u) m e = unmarked_but bs t u m (omega arith)

-- a block takes in the one that it jumps to
module _ (bs : List Block) (b t : ℕ) (x y : Block) (sound : Sound bs) (ex : slice_get bs b ≡ Some x) (jumps : x.end ≡ ends.Jump t)
    (ey : slice_get bs t ≡ Some y) where
  abbrev bs1 : List Block
  bs1 = set_block bs b (joined x y)

  earlier : b < t
  earlier = subst (λ (e : End). IsForward b e) jumps (sound.forward b x ex)

  same_size : length bs1 ≡ length bs
  same_size = set_length bs b (joined x y)

  -- a property of blocks, for the joined ones
  joined_each : (P : ℕ → Block → Type 0) → P b (joined x y) → ((u : ℕ) (z : Block) → (u ≡ b → ⊥) → slice_get bs u ≡ Some z → P u z)
      → (u : ℕ) (z : Block) → slice_get bs1 u ≡ Some z → P u z
  joined_each P here other u z e =
      elim (cases_eq u b) [
        | inl same ↦ (let is : joined x y ≡ z =
            same_Some (joined x y) z (sym (set_same bs b x (joined x y) ex) ∙ ap (λ (i : ℕ). slice_get bs1 i) (sym same) ∙ e) in
            subst (λ (i : ℕ). P i z) (sym same) (subst (P b) is here))
        | inr ne ↦ other u z ne (sym (set_other bs b u (joined x y) ne) ∙ e)
      ]

  -- nothing else goes to the block that is taken in
  pub joined_closed : all_edges bs t ≡ 1 → IsClosed (all_but t bs) bs1
  joined_closed single =
      let lt = earlier in
      let one : edges x.end t ≡ 1 = ap (λ (e : End). edges e t) jumps ∙ jump_edge t in
      let free : (u : ℕ) (z : Block) → (u ≡ b → ⊥) → slice_get bs u ≡ Some z → Targets (Marked (all_but t bs)) z.end = (λ u z ne e.
      let two = edges_two bs b u t x z ex e ne in
      targets_map (λ v. (v < length bs) × (v ≡ t → ⊥)) (Marked (all_but t bs)) (λ v p. marked_but bs t v p.0 p.1) z.end
      (both_targets (λ v. v < length bs) (λ v. v ≡ t → ⊥) z.end (sound.inside u z e) (edges_none z.end t (omega arith)))) in
      record {
        first = marked_but bs t 0 sound.some (λ e. absurd (omega arith));
        goes = λ u z e m. joined_each (λ v s. Targets (Marked (all_but t bs)) s.end) (free t y (λ e1. absurd (omega arith)) ey)
            (λ v s ne e1. free v s ne e1) u z e;
      }

  module _ (sound1 : Sound bs1) {S : Type 0} (c : Calls S) (falls : (k : ℕ) → CallsAlike anything k c c) (n : Lengths) where
    abbrev old : ℕ → Next S
    old = run c n bs

    abbrev new : ℕ → Next S
    new = run c n bs1

    abbrev Rel : Relation
    Rel u u1 f g = (u < length bs) × (u1 ≡ u) × (f ≡ g)

    old_is : (u : ℕ) (z : Block) → slice_get bs u ≡ Some z → old u ≡ block_does c n (turned old) old z
    old_is u z e = run_block anything c falls n bs (anything_blocks bs) (are_forward bs sound) u z e

    new_is : (u : ℕ) (z : Block) → slice_get bs1 u ≡ Some z → new u ≡ block_does c n (turned new) new z
    new_is u z e = run_block anything c falls n bs1 (anything_blocks bs1) (are_forward bs1 sound1) u z e

    module _ (m u : ℕ) (later : (v v1 : ℕ) → u < v → Agree m (Rel v v1) (old v) (new v1))
        (back : (v v1 : ℕ) → Agree m (Rel v v1) (turned old v) (turned new v1)) where
      end_same : (s : ℕ) (e : End) → u ≤ s → Targets (λ v. v < length bs) e → IsForward s e → (f : Frame)
          → SameAt m (λ g w. finish (turned old) old e g w) (λ g w. finish (turned new) new e g w) f
      end_same s e le inside fw f = ends_same (λ v. v < length bs) m s old new e inside fw f
          (λ v lt p. record { by = λ w lw. (later v v (omega arith)).by f f w lw (p, refl, refl) })
          (λ v p. record { by = λ w lw. (back v v).by f f w lw (p, refl, refl) })

      block_same : (s : ℕ) (z : Block) → u ≤ s → slice_get bs s ≡ Some z → (f : Frame) → SameAt m (old s) (block_does c n (turned new) new z) f
      block_same s z le e f =
          record {
            by = λ w lw. ap (λ (a : Next S). a f w) (old_is s z e)
                ∙ (does_at c falls n m z.instrs _ _ (λ g. end_same s z.end le (sound.inside s z e) (sound.forward s z e) g) f).by w lw;
          }

    one : (m u u1 : ℕ) → ((v v1 : ℕ) → u < v → Agree m (Rel v v1) (old v) (new v1)) → ((v v1 : ℕ) → Agree m (Rel v v1) (turned old v) (turned new v1))
        → Agree m (Rel u u1) (old u) (new u1)
    one m u u1 later back =
        record {
          by = λ f g w lw rel. elim (cases_eq u b) [
            | inl same ↦ (let lt = earlier in
                ap (λ (i : ℕ). old i f w) same
                ∙ ap (λ (a : Next S). a f w) (old_is b x ex)
                ∙ ap (λ (e : End). does c n x.instrs (λ f1 w1. finish (turned old) old e f1 w1) f w) jumps
                ∙ (does_at c falls n m x.instrs (λ f1 w1. old t f1 w1) (λ f1 w1. block_does c n (turned new) new y f1 w1)
                (λ f1. record { by = λ w1 l1. (block_same m u later back t y (omega arith) ey f1).by w1 l1 }) f).by w lw
                ∙ ap (λ (a : Next S). a f w) (sym (does_append c n x.instrs y.instrs (λ f1 w1. finish (turned new) new y.end f1 w1)))
                ∙ ap (λ (a : Next S). a f w) (sym (new_is b (joined x y) (set_same bs b x (joined x y) ex)))
                ∙ ap (λ (i : ℕ). new i f w) (sym same))
            | inr ne ↦ (let z = get_or bs u none_block in
                let e = get_in bs u none_block rel.0 in
                (block_same m u later back u z (omega arith) e f).by w lw
                ∙ ap (λ (a : Next S). a f w) (sym (new_is u z (set_other bs b u (joined x y) ne ∙ e))))
          ] ∙ ap (λ (i : ℕ). new i f w) (sym rel.1) ∙ ap (λ (h : Frame). new u1 h w) rel.2;
        }

    pub joined_keeps : (f : Frame) (w : World S) → old 0 f w ≡ new 0 f w
    joined_keeps f w = (related_agree w.turns (length bs) old new Rel (λ t0 t1 f1 g1 rel. rel.0) (λ m u u1 le later back. one m u u1 later back) 0
        0).by f f w (omega arith) (sound.some, refl, refl)

-- what the test of a next block says
pub record IsNext (b : ℕ) (bs : List Block) (e : End) (next : NextBlock) : Type 0 where
  pub fits : may_end b next.block.end ≡ true
  pub jumps : e ≡ ends.Jump next.number
  pub block : slice_get bs next.number ≡ Some next.block
  pub single : all_edges bs next.number ≡ 1

and_first : (k l : Bool) → (k && l) ≡ true → k ≡ true
and_first true l e = refl
and_first false l e = e

and_second : (k l : Bool) → (k && l) ≡ true → l ≡ true
and_second true l e = e
and_second false l e = let bad : false ≡ true = e in absurd cc

if_some : {A : Type 0} (k : Bool) (x y : A) → (if k then Some x else None) ≡ Some y → (k ≡ true) × (x ≡ y)
if_some true x y e = (refl, same_Some x y e)
if_some false x y e = absurd (none-some y e)

next_if_is : (b t : ℕ) (bs : List Block) (o : Option Block) (next : NextBlock) → slice_get bs t ≡ o → next_if b t bs o ≡ Some next
    → IsNext b bs (ends.Jump t) next
next_if_is b t bs None next h e = absurd (none-some next e)
next_if_is b t bs (Some y) next h e =
    let both = if_some (nat_eq (all_edges bs t) 1 && may_end b y.end) (record { number = t; block = y }) next e in
    subst (λ (z : NextBlock). IsNext b bs (ends.Jump t) z) both.1
    (record {
      fits = and_second (nat_eq (all_edges bs t) 1) (may_end b y.end) both.0;
      jumps = refl;
      block = h;
      single =
          eqb-true (all_edges bs t) 1 (and_first (nat_eq (all_edges bs t) 1) (may_end b y.end) both.0);
    })

pub next_is : (b : ℕ) (bs : List Block) (e : End) (next : NextBlock) → next_at_end b bs e ≡ Some next → IsNext b bs e next
next_is b bs (ends.Jump t) next h = next_if_is b t bs (slice_get bs t) next refl h
next_is b bs (ends.Branch r t u) next h = absurd (none-some next h)
next_is b bs (ends.Loop t) next h = absurd (none-some next h)
next_is b bs (ends.Return r) next h = absurd (none-some next h)
next_is b bs (ends.Exit r) next h = absurd (none-some next h)
