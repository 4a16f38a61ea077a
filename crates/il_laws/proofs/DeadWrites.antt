-- Leaving out dead writes makes a routine that serves.
use Rattle.std.proofs.Common.{◌≡◌, ℕ, zero, suc, ◌+◌, ◌-◌, ◌<◌, List, [], ◌∷◌, Bool, true, false, refl, ap, ap₂, subst, sym, ◌∙◌, arith, length}
use Rattle.std.proofs.Common.{slice_get, eq-eqb}
use Rattle.std.specs.Prelude.{nat_eq, if◌then◌else◌, ◌||◌, Some, None, get_or}
use Rattle.std.specs.List.{AllByRecursion}
use Rattle.std.proofs.lemmas.Option.{none-some, same_Some}
use Rattle.il_core.specs.declared.instr.Block.{Block}
use Rattle.il_core.specs.declared.instr.Instr.{Instr}
use Rattle.il_core.specs.declared.instr.End.{End}
use Rattle.il_core.specs.declared.instr.End.TheVariants as ends
use Rattle.il_core.specs.declared.shape.ShapeRow.{ShapeRow}
use Rattle.il_core.specs.declared.program.IlProgram.{IlProgram}
use Rattle.il_core.specs.Routine.{RoutineParts}
use Rattle.il_core.specs.Valid.{IsValid, IsValidInstr}
use Rattle.il_core.specs.World.{World, Outcome, Returns, Exit, ended, choose}
use Rattle.il_core.specs.Meaning.{Frame, frame_of, Lengths, lengths, Next, finish}
use Rattle.il_laws.specs.Live.{Live, read_in, is_dead, live_through, alive, live_at_end, live_by, live_starts, alive_block, alive_blocks, drop_dead_writes}
use Rattle.il_laws.specs.Runs.{Calls, turned, run, called}
use Rattle.il_laws.specs.Serving.{Serves}
use Rattle.il_laws.proofs.Alike.{CallsAlike, anything, anything_blocks, calls_fall}
use Rattle.il_laws.proofs.Places.{IsForward, AreForward, run_block}
use Rattle.il_laws.proofs.Induction.{Agree, Relation, related_agree}
use Rattle.il_laws.proofs.Lists.{ValidBlock, valid_block, get_in}
use Rattle.il_laws.proofs.Sound.{none_block, Targets, Sound, are_forward, valid_sound}
use Rattle.il_laws.proofs.ValidBlocks.{with_blocks, valid_with, same_many, block_of, serves_blocks}
use Rattle.std.proofs.lemmas.Bool.{or_left, or_right}
use Rattle.il_laws.proofs.Living.{SameLive, does_alive}
use Rattle.il_laws.proofs.LiveStarts.{starts_at, starts_read}

pub alive_at : (bs : List Block) (at : ℕ → Live) (xs : List Block) (i : ℕ) (x : Block) → slice_get xs i ≡ Some x → slice_get (alive_blocks bs at xs) i
    ≡ Some (alive_block bs at x)
alive_at bs at [] i x e = absurd (none-some x e)
alive_at bs at (y ∷ xs) zero x e = ap (λ (z : Block). Some (alive_block bs at z)) (same_Some y x e)
alive_at bs at (y ∷ xs) (suc i) x e = alive_at bs at xs i x e

pub alive_length : (bs : List Block) (at : ℕ → Live) (xs : List Block) → length (alive_blocks bs at xs) ≡ length xs
alive_length bs at [] = refl
alive_length bs at (x ∷ xs) = ap suc (alive_length bs at xs)

pub alive_forward : (bs : List Block) (at : ℕ → Live) (b : ℕ) (xs : List Block) → AreForward b xs → AreForward b (alive_blocks bs at xs)
alive_forward bs at b [] h = tt
alive_forward bs at b (x ∷ xs) h = (h.0, alive_forward bs at (suc b) xs h.1)

module _ {S : Type 0} (c : Calls S) (falls : (t : ℕ) → CallsAlike anything t c c) (n : Lengths) (bs : List Block) (sound : Sound bs) where
  abbrev at : ℕ → Live
  at t = live_by 0 (live_starts bs 0 bs) t

  abbrev bs1 : List Block
  bs1 = alive_blocks bs at bs

  abbrev old : ℕ → Next S
  old = run c n bs

  abbrev new : ℕ → Next S
  new = run c n bs1

  abbrev Rel : Relation
  Rel t t1 f g = (t < length bs) × (t1 ≡ t) × SameLive (at t) f g

  at_block : (t : ℕ) (x : Block) → slice_get bs t ≡ Some x → at t ≡ (λ y. live_through x.instrs (λ z. live_at_end bs at x.end z) y)
  at_block t x e = let here : t ≡ 0 + t = omega arith in ap (λ (u : ℕ). at u) here ∙ starts_at bs 0 bs t x e (are_forward bs sound)

  loop_alike : (u : ℕ) (f g : Frame) → SameLive (λ x. read_in bs x) f g → SameLive (at u) f g
  loop_alike u f g h = record { reg = λ x l. h.reg x (starts_read bs 0 bs x (λ k. k) (u - 0) l); array = h.array }

  end_alive : (m t : ℕ) (e : End) → Targets (λ u. u < length bs) e → IsForward t e
      → ((u u1 : ℕ) → t < u → Agree m (Rel u u1) (old u) (new u1)) → ((u u1 : ℕ) → Agree m (Rel u u1) (turned old u) (turned new u1))
      → Agree m (λ f g. SameLive (λ x. live_at_end bs at e x) f g) (λ f w. finish (turned old) old e f w) (λ g w. finish (turned new) new e g w)
  end_alive m t (ends.Jump u) p lt later back = record {
    by = λ f g w lw h. (later u u lt).by f g w lw (p, refl, record { reg = λ x l. h.reg x (or_left (at u x) false l); array = h.array });
  }
  end_alive m t (ends.Branch r u v) p lt later back =
      record {
        by = λ f g w lw h.
            let first : SameLive (at u) f g = record {
              reg = λ x l. h.reg x (or_right (nat_eq x r) (at u x || (at v x || false)) (or_left (at u x) (at v x || false) l));
              array = h.array;
            } in
            let second : SameLive (at v) f g = record {
              reg = λ x l. h.reg x
                  (or_right (nat_eq x r) (at u x || (at v x || false)) (or_right (at u x) (at v x || false) (or_left (at v x) false l)));
              array = h.array;
            } in
            ap₂ {A = Outcome S} {B = Outcome S} {C = Outcome S} (λ a b. choose (f.regs r) a b)
            ((later u u lt.0).by f g w lw (p.0, refl, first)) ((later v v lt.1).by f g w lw (p.1, refl, second))
            ∙ ap (λ (i : ℕ). choose i (new u g w) (new v g w)) (h.reg r (or_left (nat_eq r r) (at u r || (at v r || false)) (eq-eqb r r refl)));
      }
  end_alive m t (ends.Loop u) p lt later back = record { by = λ f g w lw h. (back u u).by f g w lw (p, refl, loop_alike u f g h) }
  end_alive m t (ends.Return None) p lt later back = record { by = λ f g w lw h. refl }
  end_alive m t (ends.Return (Some r)) p lt later back = record {
    by = λ f g w lw h. ap (λ (v : ℕ). Returns v w) (h.reg r (or_left (nat_eq r r) false (eq-eqb r r refl)));
  }
  end_alive m t (ends.Exit r) p lt later back = record {
    by = λ f g w lw h. ap (λ (v : ℕ). ended (Exit v) w) (h.reg r (or_left (nat_eq r r) false (eq-eqb r r refl)));
  }

  one : (m t t1 : ℕ) → ((u u1 : ℕ) → t < u → Agree m (Rel u u1) (old u) (new u1)) → ((u u1 : ℕ) → Agree m (Rel u u1) (turned old u) (turned new u1))
      → Agree m (Rel t t1) (old t) (new t1)
  one m t t1 later back =
      record {
        by = λ f g w lw rel.
            let x = get_or bs t none_block in
            let e = get_in bs t none_block rel.0 in
            ap (λ (a : Next S). a f w) (run_block anything c falls n bs (anything_blocks bs) (are_forward bs sound) t x e)
            ∙ (does_alive c falls n m (λ z. live_at_end bs at x.end z) x.instrs _ _
            (end_alive m t x.end (sound.inside t x e) (sound.forward t x e) later back)).by f g w lw
            (subst (λ (l : Live). SameLive l f g) (at_block t x e) rel.2)
            ∙ ap (λ (a : Next S). a g w) (sym
            (run_block anything c falls n bs1 (anything_blocks bs1) (alive_forward bs at 0 bs (are_forward bs sound)) t (alive_block bs at x)
            (alive_at bs at bs t x e)))
            ∙ ap (λ (u : ℕ). new u g w) (sym rel.1);
      }

  pub alive_keeps : (f : Frame) (w : World S) → old 0 f w ≡ new 0 f w
  alive_keeps f w = (related_agree w.turns (length bs) old new Rel (λ t t1 f1 g1 rel. rel.0) (λ m t t1 le later back. one m t t1 later back) 0 0).by f
      f w (omega arith) (sound.some, refl, record { reg = λ x l. refl; array = λ a. refl })

alive_keeps_all : (P : Instr → Type 0) (k : Bool) (i : Instr) (js : List Instr) → P i → AllByRecursion P js
    → AllByRecursion P (if k then js else i ∷ js)
alive_keeps_all P true i js h g = g
alive_keeps_all P false i js h g = (h, g)

pub alive_all : (P : Instr → Type 0) (is : List Instr) (live : Live) → AllByRecursion P is → AllByRecursion P (alive is live)
alive_all P [] live h = tt
alive_all P (i ∷ is) live h = alive_keeps_all P (is_dead i (live_through is live)) i (alive is live) h.0 (alive_all P is live h.1)

module _ (rows : List ShapeRow) where
  pub dead_valid : (r : RoutineParts) → IsValid rows r → IsValid rows (drop_dead_writes r)
  dead_valid r valid =
      let at : ℕ → Live = λ t. live_by 0 (live_starts r.blocks 0 r.blocks) t in
      let bs = alive_blocks r.blocks at r.blocks in
      let size = alive_length r.blocks at r.blocks in
      let some = valid.some_block in
      valid_with rows r bs valid (omega arith) (λ t y e.
      let old = block_of r.blocks bs t y size e in
      let ok = same_many rows r bs t old.0 size (valid_block rows r valid t old.0 old.1) in
      subst (λ (z : Block). ValidBlock rows (with_blocks r bs) t z)
      (same_Some (alive_block r.blocks at old.0) y (sym (alive_at r.blocks at r.blocks t old.0 old.1) ∙ e))
      (record {
        instrs = alive_all (IsValidInstr rows r.regs (length r.arrays)) old.0.instrs (live_at_end r.blocks at old.0.end) ok.instrs;
        end =
            ok.end;
      }))

pub dead_serves : (p : IlProgram) (r : RoutineParts) → IsValid p.shapes r → Serves p r (drop_dead_writes r)
dead_serves p r valid =
    let at1 : ℕ → Live = λ t. live_by 0 (live_starts r.blocks 0 r.blocks) t in
    serves_blocks p r (alive_blocks r.blocks at1 r.blocks) (dead_valid p.shapes r valid) (λ args w.
    alive_keeps (called p) (calls_fall p anything) (lengths p r) r.blocks (valid_sound p.shapes r valid) (frame_of r.params args) w)
