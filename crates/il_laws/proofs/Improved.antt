-- A routine whose instructions are changed by what is known before them does the same.
use Rattle.std.proofs.Common.{◌≡◌, ℕ, zero, suc, ◌+◌, ◌<◌, ◌≤◌, ◌⊎◌, List, [], ◌∷◌, Bool, true, false, refl, ap, subst, sym, ◌∙◌, arith, length}
use Rattle.std.proofs.Common.{slice_get, eq-eqb, eqb-true, inl, inr}
use Rattle.std.specs.Prelude.{nat_eq, if◌then◌else◌, ◌||◌, Option, Some, None, ⊤, get_or}
use Rattle.std.proofs.lemmas.Bool.{false≢true}
use Rattle.std.proofs.lemmas.Option.{none-some, same_Some}
use Rattle.il_core.specs.declared.instr.Block.{Block}
use Rattle.il_core.specs.declared.instr.Instr.{Instr}
use Rattle.il_core.specs.declared.instr.End.{End}
use Rattle.il_core.specs.declared.instr.End.TheVariants as ends
use Rattle.il_core.specs.Routine.{RoutineParts}
use Rattle.il_core.specs.World.{World, choose}
use Rattle.il_core.specs.Meaning.{Frame, frame_of, Lengths, Next, step, finish}
use Rattle.il_core.specs.Operands.{is_named, writes, loops_to}
use Rattle.il_laws.specs.Facts.{Facts, after, through, any_writes, looped, jumps_to, before, facts_at}
use Rattle.std.proofs.lemmas.Bool.{or_left, or_right, or_cases}
use Rattle.list_laws.proofs.Tests.{or_first, or_second}
use Rattle.il_laws.specs.Propagate.{with_facts, taken, folded}
use Rattle.il_laws.specs.Runs.{Calls, silent, does, turned, run}
use Rattle.il_laws.proofs.Alike.{CallsAlike, anything, anything_blocks}
use Rattle.il_laws.proofs.Places.{IsForward, run_block}
use Rattle.il_laws.proofs.Induction.{Agree, Relation, related_agree}
use Rattle.il_laws.proofs.Same.{Leaves, SameAt}
use Rattle.il_laws.proofs.Lists.{get_in}
use Rattle.il_laws.proofs.Sound.{none_block, Targets, both_targets, Sound, are_forward, ends_same}
use Rattle.il_laws.proofs.Knows.{Knows, Zeros, knows_after, unwritten, written_none, looped_at}
use Rattle.il_laws.proofs.Arrives.{Quiet, arrives, knows_loop, knows_jump, begin_zeros, begin_knows}

-- how an instruction may be changed, where these are the facts before it
abbrev pub Change : Type 1
Change = Facts → Instr → Instr → Type 0

abbrev pub SameInstrs : Change → Facts → List Instr → List Instr → Type 0
SameInstrs R fs [] [] = ⊤
SameInstrs R fs [] (j ∷ js) = ⊥
SameInstrs R fs (i ∷ is) [] = ⊥
SameInstrs R fs (i ∷ is) (j ∷ js) = R fs i j × SameInstrs R (after i fs) is js

pub record Improved (R : Change) (fs : Facts) (x y : Block) : Type 0 where
  pub instrs : SameInstrs R fs x.instrs y.instrs
  pub end : (x.end ≡ y.end) ⊎ (folded (through x.instrs fs) x.end ≡ y.end)

choose_both : {A : Type 0} (x : ℕ) (a b d : A) → a ≡ d → b ≡ d → choose x a b ≡ d
choose_both zero a b d h k = k
choose_both (suc x) a b d h k = h

module _ {S : Type 0} (c : Calls S) (falls : (t : ℕ) → CallsAlike anything t c c) (n : Lengths) where
  does_known : (R : Change) → ((m : ℕ) (fs : Facts) (i j : Instr) (a b : Next S) (f : Frame) → Knows fs f → R fs i j
      → ((f1 : Frame) → Leaves i f f1 → SameAt m a b f1) → SameAt m (step (silent c) n 0 i a) (step (silent c) n 0 j b) f)
      → (quiet : ℕ → Type 0) (m : ℕ) (fs : Facts) (is js : List Instr) (a b : Next S) (f : Frame) → Knows fs f → Zeros quiet f
      → ((x : ℕ) → quiet x → any_writes is x ≡ false) → SameInstrs R fs is js
      → ((f1 : Frame) → Knows (through is fs) f1 → Zeros quiet f1 → SameAt m a b f1) → SameAt m (does c n is a) (does c n js b) f
  does_known R serves quiet m fs [] [] a b f k z ok same h = record { by = λ w le. (h f k z).by w le }
  does_known R serves quiet m fs [] (j ∷ js) a b f k z ok same h = absurd same
  does_known R serves quiet m fs (i ∷ is) [] a b f k z ok same h = absurd same
  does_known R serves quiet m fs (i ∷ is) (j ∷ js) a b f k z ok same h =
      serves m fs i j (λ f1 w1. does c n is a f1 w1) (λ f1 w1. does c n js b f1 w1) f k same.0 (λ f1 l. record {
        by = λ w le. (does_known R serves quiet m (after i fs) is js a b f1 (knows_after i fs f f1 k l)
            (record { by = λ x q. unwritten i f f1 x (or_first (writes i x) (any_writes is x) (ok x q)) l ∙ z.by x q })
            (λ x q. or_second (writes i x) (any_writes is x) (ok x q)) same.1 h).by w le;
      })

  module _ (P : ℕ → Type 0) (m t : ℕ) (old new : ℕ → Next S) (f : Frame) (later : (u : ℕ) → t < u → P u → SameAt m (old u) (new u) f)
      (back : (u : ℕ) → P u → SameAt m (turned old u) (turned new u) f) where
    branch_known : (fs : Facts) (r u v : ℕ) → Knows fs f → P u × P v → (t < u) × (t < v) → (k : Bool) → nat_eq u v ≡ k → (o : Option ℕ) → fs r ≡ o
        → SameAt m (λ g w. finish (turned old) old (ends.Branch r u v) g w)
        (λ g w. finish (turned new) new (if k then ends.Jump u else taken (ends.Branch r u v) u v o) g w) f
    branch_known fs r u v k p lt true e o eo =
        record {
          by = λ w lw. choose_both (f.regs r) (old u f w) (old v f w) (new u f w) ((later u lt.0 p.0).by w lw)
              ((later v lt.1 p.1).by w lw ∙ ap (λ (x : ℕ). new x f w) (sym (eqb-true u v e)));
        }
    branch_known fs r u v k p lt false e None eo = ends_same P m t old new (ends.Branch r u v) p lt f later back
    branch_known fs r u v k p lt false e (Some x) eo =
        record { by = λ w lw. ap (λ (y : ℕ). choose y (old u f w) (old v f w)) (k.by r x eo) ∙ chosen x w lw }
      where
        chosen : (x : ℕ) (w : World S) → w.turns ≤ m → choose x (old u f w) (old v f w) ≡ new (choose x u v) f w
        chosen zero w lw = (later v lt.1 p.1).by w lw
        chosen (suc x) w lw = (later u lt.0 p.0).by w lw

    end_folded : (fs : Facts) (e : End) → Knows fs f → Targets P e → IsForward t e → SameAt m (λ g w. finish (turned old) old e g w)
        (λ g w. finish (turned new) new (folded fs e) g w) f
    end_folded fs (ends.Branch r u v) k p lt = branch_known fs r u v k p lt (nat_eq u v) refl (fs r) refl
    end_folded fs (ends.Jump u) k p lt = ends_same P m t old new (ends.Jump u) p lt f later back
    end_folded fs (ends.Loop u) k p lt = ends_same P m t old new (ends.Loop u) p lt f later back
    end_folded fs (ends.Return x) k p lt = ends_same P m t old new (ends.Return x) p lt f later back
    end_folded fs (ends.Exit x) k p lt = ends_same P m t old new (ends.Exit x) p lt f later back

    end_known : (fs : Facts) (e e1 : End) → Knows fs f → Targets P e → IsForward t e → (e ≡ e1) ⊎ (folded fs e ≡ e1)
        → SameAt m (λ g w. finish (turned old) old e g w) (λ g w. finish (turned new) new e1 g w) f
    end_known fs e e1 k p lt (inl s) = subst (λ (x : End). SameAt m (λ g w. finish (turned old) old e g w) (λ g w. finish (turned new) new x g w) f) s
        (ends_same P m t old new e p lt f later back)
    end_known fs e e1 k p lt (inr s) = subst (λ (x : End). SameAt m (λ g w. finish (turned old) old e g w) (λ g w. finish (turned new) new x g w) f) s
        (end_folded fs e k p lt)

-- which blocks an end jumps or loops to
jump_targets : (e : End) → Targets (λ u. (jumps_to e u ≡ true) ⊎ (is_named (loops_to e) u ≡ true)) e
jump_targets (ends.Jump t) = inl (or_left (nat_eq t t) false (eq-eqb t t refl))
jump_targets (ends.Branch r t u) = (
  inl (or_left (nat_eq t t) (nat_eq t u || false) (eq-eqb t t refl)),
  inl (or_right (nat_eq u t) (nat_eq u u || false) (or_left (nat_eq u u) false (eq-eqb u u refl))),
)
jump_targets (ends.Loop t) = inr (eq-eqb t t refl)
jump_targets (ends.Return r) = tt
jump_targets (ends.Exit r) = tt

jump_later : (t u : ℕ) (e : End) → IsForward t e → jumps_to e u ≡ true → t < u
jump_later t u (ends.Jump v) lt j = elim (or_cases (nat_eq u v) false j) [
  | inl a ↦ (let same = eqb-true u v a in omega arith)
  | inr a ↦
      absurd (false≢true a)
]
jump_later t u (ends.Branch r v x) lt j =
    let lt0 = lt.0 in
    let lt1 = lt.1 in
    elim (or_cases (nat_eq u v) (nat_eq u x || false) j) [
      | inl a ↦ (let same = eqb-true u v a in omega arith)
      | inr a ↦ elim (or_cases (nat_eq u x) false a) [ inl b ↦ (let same = eqb-true u x b in omega arith) | inr b ↦ absurd (false≢true b) ]
    ]
jump_later t u (ends.Loop v) lt j = absurd (false≢true j)
jump_later t u (ends.Return r) lt j = absurd (false≢true j)
jump_later t u (ends.Exit r) lt j = absurd (false≢true j)

-- each block is the same or changed by the facts at its start
pub record IsImproved (R : Change) (r : RoutineParts) (bs1 : List Block) : Type 0 where
  pub block : (t : ℕ) (x : Block) → slice_get r.blocks t ≡ Some x → (y : Block) × (slice_get bs1 t ≡ Some y) × Improved R (facts_at r t) x y

module _ {S : Type 0} (c : Calls S) (falls : (t : ℕ) → CallsAlike anything t c c) (n : Lengths) (r : RoutineParts) (bs1 : List Block)
    (sound : Sound r.blocks) (sound1 : Sound bs1) (R : Change) (better : IsImproved R r bs1)
    (serves : (m : ℕ) (fs : Facts) (i j : Instr) (a b : Next S) (f : Frame) → Knows fs f → R fs i j → ((f1 : Frame) → Leaves i f f1 → SameAt m a b f1)
    → SameAt m (step (silent c) n 0 i a) (step (silent c) n 0 j b) f) where
  abbrev old : ℕ → Next S
  old = run c n r.blocks

  abbrev new : ℕ → Next S
  new = run c n bs1

  abbrev Rel : Relation
  Rel t t1 f g = (t < length r.blocks) × (t1 ≡ t) × (f ≡ g) × Knows (facts_at r t) f × Zeros (Quiet r) f

  abbrev Goes : End → ℕ → Type 0
  Goes e u = (u < length r.blocks) × ((jumps_to e u ≡ true) ⊎ (is_named (loops_to e) u ≡ true))

  target_knows : (t : ℕ) (x : Block) (u : ℕ) (f : Frame) → slice_get r.blocks t ≡ Some x → Goes x.end u → Knows (through x.instrs (facts_at r t)) f
      → Zeros (Quiet r) f → Knows (facts_at r u) f
  target_knows t x u f e goes k z =
      elim goes.1 [
        | inl j ↦ (let lt = jump_later t u x.end (sound.forward t x e) j in knows_jump r u (before r u) f (looped r.blocks u) refl (omega arith) z
            (arrives r u t x f e j k u lt))
        | inr l ↦ knows_loop r u (before r u) f (looped_at r.blocks t x u e l) z
      ]

  one : (m t t1 : ℕ) → ((u u1 : ℕ) → t < u → Agree m (Rel u u1) (old u) (new u1)) → ((u u1 : ℕ) → Agree m (Rel u u1) (turned old u) (turned new u1))
      → Agree m (Rel t t1) (old t) (new t1)
  one m t t1 later back =
      record {
        by = λ f g w lw rel.
            let x = get_or r.blocks t none_block in
            let e = get_in r.blocks t none_block rel.0 in
            let is = better.block t x e in
            let y = is.0 in
            let targets = both_targets (λ u. u < length r.blocks) (λ u. (jumps_to x.end u ≡ true) ⊎ (is_named (loops_to x.end) u ≡ true)) x.end
            (sound.inside t x e) (jump_targets x.end) in
            ap (λ (a : Next S). a f w) (run_block anything c falls n r.blocks (anything_blocks r.blocks) (are_forward r.blocks sound) t x e)
            ∙ (does_known c falls n R serves (Quiet r) m (facts_at r t) x.instrs y.instrs _ _ f rel.3 rel.4 (λ z q. written_none r.blocks t x z e q.1)
            is.2.instrs (λ f1 k z. end_known c falls n (Goes x.end) m t old new f1
            (λ u lt p. record { by = λ w1 l1. (later u u lt).by f1 f1 w1 l1 (p.0, refl, refl, target_knows t x u f1 e p k z, z) })
            (λ u p. record { by = λ w1 l1. (back u u).by f1 f1 w1 l1 (p.0, refl, refl, target_knows t x u f1 e p k z, z) })
            (through x.instrs (facts_at r t)) x.end y.end k targets (sound.forward t x e) is.2.end)).by w lw
            ∙ ap (λ (a : Next S). a f w) (sym (run_block anything c falls n bs1 (anything_blocks bs1) (are_forward bs1 sound1) t y is.1))
            ∙ ap (λ (u : ℕ). new u f w) (sym rel.1) ∙ ap (λ (h : Frame). new t1 h w) rel.2;
      }

  pub improved_keeps : (args : List ℕ) (w : World S) → old 0 (frame_of r.params args) w ≡ new 0 (frame_of r.params args) w
  improved_keeps args w =
      (related_agree w.turns (length r.blocks) old new Rel (λ t t1 f1 g1 rel. rel.0) (λ m t t1 le later back. one m t t1 later back) 0 0).by
      (frame_of r.params args) (frame_of r.params args) w (omega arith)
      (sound.some, refl, refl, begin_knows r args (looped r.blocks 0) refl, begin_zeros r args)

-- blocks changed by the facts at their starts
pub with_facts_at : (change : Facts → Block → Block) (r : RoutineParts) (b : ℕ) (xs : List Block) (i : ℕ) (x : Block) → slice_get xs i ≡ Some x
    → slice_get (with_facts change r b xs) i ≡ Some (change (facts_at r (b + i)) x)
with_facts_at change r b [] i x e = absurd (none-some x e)
with_facts_at change r b (y ∷ xs) zero x e =
    let here : b ≡ b + 0 = omega arith in
    ap (λ (z : Block). Some (change (facts_at r b) z)) (same_Some y x e) ∙ ap (λ (t : ℕ). Some (change (facts_at r t) x)) here
with_facts_at change r b (y ∷ xs) (suc i) x e =
    let there : suc b + i ≡ b + suc i = omega arith in
    with_facts_at change r (suc b) xs i x e ∙ ap (λ (t : ℕ). Some (change (facts_at r t) x)) there

pub with_facts_length : (change : Facts → Block → Block) (r : RoutineParts) (b : ℕ) (xs : List Block) → length (with_facts change r b xs) ≡ length xs
with_facts_length change r b [] = refl
with_facts_length change r b (x ∷ xs) = ap suc (with_facts_length change r (suc b) xs)
