-- Calls may go to clones of right rows whose constants are known there.
use Rattle.std.proofs.Common.{◌≡◌, ℕ, zero, suc, ◌+◌, ◌<◌, ◌⊎◌, List, [], ◌∷◌, ◌++◌, append_assoc, map, Bool, true, false, refl, ap, subst, sym, ◌∙◌}
use Rattle.std.proofs.Common.{arith, length, slice_get, inl, inr, eqb-true}
use Rattle.std.specs.Prelude.{Option, Some, None, ⊤, if◌then◌else◌, nat_eq}
use Rattle.std.specs.List.{AllByRecursion}
use Rattle.std.proofs.lemmas.Option.{none-some, same_Some, slice_get_within}
use Rattle.il_core.specs.declared.instr.Block.{Block}
use Rattle.il_core.specs.declared.instr.Instr.{Instr}
use Rattle.il_core.specs.declared.instr.Instr.TheVariants.{Const, Move, Conv, Bin, Get, Set, GetX, SetX, GetA, SetA, Clear, Turn, Call, GetChar, PutChar}
use Rattle.il_core.specs.declared.program.IlProgram.{IlProgram}
use Rattle.il_core.specs.declared.shape.Shape.{Shape}
use Rattle.il_core.specs.declared.shape.Shape.TheVariants as shape
use Rattle.il_core.specs.Program.{routine_at, shape_at}
use Rattle.il_core.specs.Routine.{RoutineParts}
use Rattle.il_core.specs.Valid.{IsProgram, IsValid, IsValidInstr, IsValidEnd, IsRoutineShape, is_wanted}
use Rattle.il_core.specs.World.{World, OutOfTurns, Outcome, ended, turn, each, with_return}
use Rattle.il_core.specs.Meaning.{Frame, received, Lengths, lengths, Next, step, sites_in, sites_of}
use Rattle.il_laws.specs.Clone.{Fixed}
use Rattle.il_laws.specs.Facts.{Facts, after, facts_at}
use Rattle.il_laws.specs.Keeping.{Stands, MayFollow, with_routine}
use Rattle.il_laws.specs.Known.{KnownSite, site_of, known_in, known_from, known_sites}
use Rattle.il_laws.specs.Retarget.{SiteMove, callee_at, retarget_instr, retarget_instrs, retarget_blocks, retarget, Covers, IsByRow}
use Rattle.il_laws.specs.Runs.{Calls, silent, called, IsCallIn, CallsIn, BlocksCallIn}
use Rattle.il_laws.specs.Serving.{Serves}
use Rattle.il_laws.specs.Table.{HasFixed}
use Rattle.il_laws.proofs.Alike.{anything, calls_fall}
use Rattle.il_laws.proofs.Improved.{Change, SameInstrs, IsImproved, improved_keeps}
use Rattle.il_laws.proofs.Knows.{Knows}
use Rattle.il_laws.proofs.Lists.{ValidBlock, valid_block}
use Rattle.il_core.proofs.Programs.{routine_valid}
use Rattle.il_laws.proofs.Programs.{valid_calls}
use Rattle.il_laws.proofs.Same.{Leaves, SameAt, step_at}
use Rattle.il_laws.proofs.Serving.{routine_follows}
use Rattle.il_laws.proofs.Sound.{valid_sound}
use Rattle.il_laws.proofs.SpliceBlocks.{all_append}
use Rattle.il_laws.proofs.ValidBlocks.{with_blocks, valid_with, serves_blocks}

-- arguments of which so much is known
abbrev pub AreKnown : List (Option ℕ) → List ℕ → Type 0
AreKnown [] [] = ⊤
AreKnown [] (v ∷ vs) = ⊥
AreKnown (k ∷ ks) [] = ⊥
AreKnown (None ∷ ks) (v ∷ vs) = AreKnown ks vs
AreKnown (Some u ∷ ks) (v ∷ vs) = (v ≡ u) × AreKnown ks vs

-- what a call may become: one of the same shape that does the same for such arguments
pub record MayBecome (p : IlProgram) (from to : ℕ) (known : List (Option ℕ)) : Type 0 where
  pub same : (vs : List ℕ) (w : World (Unit {0})) → AreKnown known vs → called p from vs w ≡ called p to vs w
  pub shape : (count : ℕ) (wanted : Bool) → IsRoutineShape (shape_at p.shapes from) count wanted → IsRoutineShape (shape_at p.shapes to) count wanted

pub record CallTo (p : IlProgram) (fs : Facts) (i j : Instr) : Type 0 where
  pub dest : Option ℕ
  pub from : ℕ
  pub to : ℕ
  pub count : ℕ
  pub args : List ℕ
  pub was : Call dest from count args ≡ i
  pub becomes : Call dest to count args ≡ j
  pub may : MayBecome p from to (map fs args)

abbrev pub Retargets : IlProgram → Change
Retargets p fs i j = (i ≡ j) ⊎ CallTo p fs i j

one_known : (o : Option ℕ) (v : ℕ) (ks : List (Option ℕ)) (vs : List ℕ) → ((u : ℕ) → o ≡ Some u → v ≡ u) → AreKnown ks vs
    → AreKnown (o ∷ ks) (v ∷ vs)
one_known None v ks vs h k = k
one_known (Some u) v ks vs h k = (h u refl, k)

-- what the facts say of arguments is so in a frame for which they hold
args_known : (fs : Facts) (f : Frame) (args : List ℕ) → Knows fs f → AreKnown (map fs args) (each f.regs args)
args_known fs f [] k = tt
args_known fs f (x ∷ xs) k =
    one_known (fs x) (f.regs x) (map fs xs) (each f.regs xs) (λ u e. k.by x u e) (args_known fs f xs k)

module _ (p : IlProgram) (n : Lengths) where
  abbrev calls : Calls (Unit {0})
  calls = called p

  call_same : (m : ℕ) (fs : Facts) (dest : Option ℕ) (q q1 count : ℕ) (args : List ℕ) (a b : Next (Unit {0})) (f : Frame) → Knows fs f
      → MayBecome p q q1 (map fs args) → ((f1 : Frame) → Leaves (Call dest q count args) f f1 → SameAt m a b f1)
      → SameAt m (step (silent calls) n 0 (Call dest q count args) a) (step (silent calls) n 0 (Call dest q1 count args) b) f
  call_same m fs dest q q1 count args a b f k may h =
      record {
        by = λ w le. (step_at calls (calls_fall p anything) n m (Call dest q count args) a b f h).by w le
            ∙ ap (λ (o : Outcome (Unit {0})). with_return o (λ v w1. b (received f dest v) w1)) (may.same (each f.regs args) w (args_known fs f args k));
      }

  step_retargeted : (m : ℕ) (fs : Facts) (i j : Instr) (a b : Next (Unit {0})) (f : Frame) → Knows fs f → Retargets p fs i j
      → ((f1 : Frame) → Leaves i f f1 → SameAt m a b f1) → SameAt m (step (silent calls) n 0 i a) (step (silent calls) n 0 j b) f
  step_retargeted m fs i j a b f k (inl e) h =
      subst (λ (x : Instr). SameAt m (step (silent calls) n 0 i a) (step (silent calls) n 0 x b) f) e
      (step_at calls (calls_fall p anything) n m i a b f h)
  step_retargeted m fs i j a b f k (inr t) h =
      subst (λ (x : Instr). SameAt m (step (silent calls) n 0 x a) (step (silent calls) n 0 j b) f) t.was
      (subst (λ (x : Instr). SameAt m (step (silent calls) n 0 (Call t.dest t.from t.count t.args) a) (step (silent calls) n 0 x b) f) t.becomes
      (call_same m fs t.dest t.from t.to t.count t.args a b f k t.may (λ f1 l. h f1 (subst (λ (x : Instr). Leaves x f f1) t.was l))))

-- the same instructions are valid
instr_retargeted : (p : IlProgram) (fs : Facts) (regs arrays : ℕ) (i j : Instr) → Retargets p fs i j → IsValidInstr p.shapes regs arrays i
    → IsValidInstr p.shapes regs arrays j
instr_retargeted p fs regs arrays i j (inl e) h = subst (IsValidInstr p.shapes regs arrays) e h
instr_retargeted p fs regs arrays i j (inr t) h =
    let was : IsValidInstr p.shapes regs arrays (Call t.dest t.from t.count t.args) = subst (IsValidInstr p.shapes regs arrays) (sym t.was) h in
    subst (IsValidInstr p.shapes regs arrays) t.becomes (was.0, was.1, t.may.shape (length t.args) (is_wanted t.dest) was.2)

instrs_retargeted : (p : IlProgram) (fs : Facts) (regs arrays : ℕ) (is js : List Instr) → SameInstrs (Retargets p) fs is js
    → AllByRecursion (IsValidInstr p.shapes regs arrays) is → AllByRecursion (IsValidInstr p.shapes regs arrays) js
instrs_retargeted p fs regs arrays [] [] s h = tt
instrs_retargeted p fs regs arrays [] (j ∷ js) s h = absurd s
instrs_retargeted p fs regs arrays (i ∷ is) [] s h = absurd s
instrs_retargeted p fs regs arrays (i ∷ is) (j ∷ js) s h =
    (instr_retargeted p fs regs arrays i j s.0 h.0, instrs_retargeted p (after i fs) regs arrays is js s.1 h.1)

-- each site of a list may become what the moves make of it
abbrev SitesMay : IlProgram → List SiteMove → ℕ → List KnownSite → Type 0
SitesMay p ms k [] = ⊤
SitesMay p ms k (s ∷ ss) = MayBecome p s.callee (callee_at ms k s.callee) s.known × SitesMay p ms (suc k) ss

-- a block, changed at its calls alone
record Retargeted (p : IlProgram) (fs : Facts) (x y : Block) : Type 0 where
  instrs : SameInstrs (Retargets p) fs x.instrs y.instrs
  end : x.end ≡ y.end

record BlockAt (p : IlProgram) (fs : Facts) (x : Block) (o : Option Block) : Type 0 where
  block : Block
  is : o ≡ Some block
  changed : Retargeted p fs x block

module _ (p : IlProgram) (ms : List SiteMove) where
  at_number : (k j : ℕ) (ss : List KnownSite) → k ≡ j → SitesMay p ms k ss → SitesMay p ms j ss
  at_number k j ss e h = subst (λ (i : ℕ). SitesMay p ms i ss) e h

  plain_may : (k : ℕ) (fs : Facts) (i : Instr) (n : ℕ) (ss : List KnownSite) → n ≡ 0 → SitesMay p ms k ss → Retargets p fs i i × SitesMay p ms (n + k) ss
  plain_may k fs i n ss e h = (inl refl, at_number k (n + k) ss (omega arith) h)

  instr_may : (k : ℕ) (fs : Facts) (i : Instr) (ss : List KnownSite) → SitesMay p ms k (site_of fs i ++ ss)
      → Retargets p fs i (retarget_instr ms k i) × SitesMay p ms (sites_in i + k) ss
  instr_may k fs (Call dest q count args) ss h = (
    inr (record { dest = dest; from = q; to = callee_at ms k q; count = count; args = args; was = refl; becomes = refl; may = h.0 }),
    at_number (suc k) (1 + k) ss (omega arith) h.1,
  )
  instr_may k fs (Const d v) ss h = plain_may k fs (Const d v) 0 ss refl h
  instr_may k fs (Move d s) ss h = plain_may k fs (Move d s) 0 ss refl h
  instr_may k fs (Conv d t s) ss h = plain_may k fs (Conv d t s) 0 ss refl h
  instr_may k fs (Bin o d a b) ss h = plain_may k fs (Bin o d a b) 0 ss refl h
  instr_may k fs (Get d g) ss h = plain_may k fs (Get d g) 0 ss refl h
  instr_may k fs (Set g s) ss h = plain_may k fs (Set g s) 0 ss refl h
  instr_may k fs (GetX d g i) ss h = plain_may k fs (GetX d g i) 0 ss refl h
  instr_may k fs (SetX g i s) ss h = plain_may k fs (SetX g i s) 0 ss refl h
  instr_may k fs (GetA d a i) ss h = plain_may k fs (GetA d a i) 0 ss refl h
  instr_may k fs (SetA a i s) ss h = plain_may k fs (SetA a i s) 0 ss refl h
  instr_may k fs (Clear r c a m) ss h = plain_may k fs (Clear r c a m) 0 ss refl h
  instr_may k fs Turn ss h = plain_may k fs Turn 0 ss refl h
  instr_may k fs (GetChar d) ss h = plain_may k fs (GetChar d) 0 ss refl h
  instr_may k fs (PutChar d s) ss h = plain_may k fs (PutChar d s) 0 ss refl h

  instrs_may : (k : ℕ) (fs : Facts) (is : List Instr) (ss : List KnownSite) → SitesMay p ms k (known_in fs is ++ ss)
      → SameInstrs (Retargets p) fs is (retarget_instrs ms k is) × SitesMay p ms (sites_of is + k) ss
  instrs_may k fs [] ss h = (tt, at_number k (0 + k) ss (omega arith) h)
  instrs_may k fs (i ∷ is) ss h =
      let split = subst (λ (l : List KnownSite). SitesMay p ms k l) (append_assoc (site_of fs i) (known_in (after i fs) is) ss) h in
      let one = instr_may k fs i (known_in (after i fs) is ++ ss) split in
      let more = instrs_may (sites_in i + k) (after i fs) is ss one.1 in
      ((one.0, more.0), at_number (sites_of is + (sites_in i + k)) (sites_in i + sites_of is + k) ss (omega arith) more.1)

  blocks_may : (r : RoutineParts) (b k : ℕ) (xs : List Block) → SitesMay p ms k (known_from r b xs) → (i : ℕ) (x : Block)
      → slice_get xs i ≡ Some x → BlockAt p (facts_at r (b + i)) x (slice_get (retarget_blocks ms k xs) i)
  blocks_may r b k [] h i x e = absurd (none-some x e)
  blocks_may r b k (z ∷ xs) h zero x e =
      let both = instrs_may k (facts_at r b) z.instrs (known_from r (suc b) xs) h in
      let here : b ≡ b + 0 = omega arith in
      let new : Block = record { instrs = retarget_instrs ms k z.instrs; end = z.end } in
      subst (λ (t : ℕ). BlockAt p (facts_at r t) x (Some new)) here
      (subst (λ (y : Block). BlockAt p (facts_at r b) y (Some new)) (same_Some z x e)
      (record { block = new; is = refl; changed = record { instrs = both.0; end = refl } }))
  blocks_may r b k (z ∷ xs) h (suc i) x e =
      let both = instrs_may k (facts_at r b) z.instrs (known_from r (suc b) xs) h in
      let there : suc b + i ≡ b + suc i = omega arith in
      subst (λ (t : ℕ). BlockAt p (facts_at r t) x (slice_get (retarget_blocks ms (sites_of z.instrs + k) xs) i)) there
      (blocks_may r (suc b) (sites_of z.instrs + k) xs both.1 i x e)

  pub retarget_length : (k : ℕ) (xs : List Block) → length (retarget_blocks ms k xs) ≡ length xs
  retarget_length k [] = refl
  retarget_length k (x ∷ xs) = ap suc (retarget_length (sites_of x.instrs + k) xs)

-- The routine serves where each site may become what the moves make of it.
module _ (p : IlProgram) (r : RoutineParts) (ms : List SiteMove) (ok : IsValid p.shapes r) (may : SitesMay p ms 0 (known_sites r)) where
  abbrev blocks : List Block
  blocks = retarget_blocks ms 0 r.blocks

  new_block : (t : ℕ) (x : Block) → slice_get r.blocks t ≡ Some x → BlockAt p (facts_at r t) x (slice_get blocks t)
  new_block t x e =
      let here : 0 + t ≡ t = omega arith in
      subst (λ (s : ℕ). BlockAt p (facts_at r s) x (slice_get blocks t)) here (blocks_may p ms r 0 0 r.blocks may t x e)

  block_valid : (t : ℕ) (y : Block) → slice_get blocks t ≡ Some y → ValidBlock p.shapes (with_blocks r blocks) t y
  block_valid t y e =
      let size = retarget_length p ms 0 r.blocks in
      let lt = slice_get_within blocks t y e in
      let x = old t (omega arith) in
      let b = new_block t x.0 x.1 in
      let was = valid_block p.shapes r ok t x.0 x.1 in
      subst (ValidBlock p.shapes (with_blocks r blocks) t) (same_Some b.block y (sym b.is ∙ e))
      (record {
        instrs = instrs_retargeted p (facts_at r t) r.regs (length r.arrays) x.0.instrs b.block.instrs b.changed.instrs was.instrs;
        end = subst (λ (n : ℕ). IsValidEnd r.regs r.value n t b.block.end) (sym size)
            (subst (IsValidEnd r.regs r.value (length r.blocks) t) b.changed.end was.end);
      })
    where
      at_place : (xs : List Block) (i : ℕ) → i < length xs → (x : Block) × (slice_get xs i ≡ Some x)
      at_place [] i lt = absurd (omega arith)
      at_place (x ∷ xs) zero lt = (x, refl)
      at_place (x ∷ xs) (suc i) lt = at_place xs i (omega arith)

      old : (i : ℕ) → i < length r.blocks → (x : Block) × (slice_get r.blocks i ≡ Some x)
      old i lt = at_place r.blocks i lt

  new_valid : IsValid p.shapes (with_blocks r blocks)
  new_valid =
      let size = retarget_length p ms 0 r.blocks in
      let some = ok.some_block in
      valid_with p.shapes r blocks ok (omega arith) block_valid

  improved : IsImproved (Retargets p) r blocks
  improved =
      record {
        block = λ t x e. (let b = new_block t x e in (b.block, b.is, record { instrs = b.changed.instrs; end = inl b.changed.end }));
      }

  pub sites_serve : Serves p r (retarget r ms)
  sites_serve =
      serves_blocks p r blocks new_valid (λ args w.
      improved_keeps (called p) (calls_fall p anything) (lengths p r) r blocks (valid_sound p.shapes r ok)
      (valid_sound p.shapes (with_blocks r blocks) new_valid) (Retargets p) improved (step_retargeted p (lengths p r)) args w)

-- A right row whose constants are known lets a call go to its clone.
known_at : (ks : List (Option ℕ)) (vs : List ℕ) (i v : ℕ) → AreKnown ks vs → slice_get ks i ≡ Some (Some v) → slice_get vs i ≡ Some v
known_at [] vs i v h e = absurd (none-some (Some v) e)
known_at (k ∷ ks) [] i v h e = absurd h
known_at (None ∷ ks) (u ∷ vs) zero v h e = absurd (none-some v (same_Some None (Some v) e))
known_at (Some k ∷ ks) (u ∷ vs) zero v h e = ap Some (h.0 ∙ same_Some k v (same_Some (Some k) (Some v) e))
known_at (None ∷ ks) (u ∷ vs) (suc i) v h e = known_at ks vs i v h e
known_at (Some k ∷ ks) (u ∷ vs) (suc i) v h e = known_at ks vs i v h.1 e

covers_fixed : (ks : List (Option ℕ)) (fixed : List Fixed) (vs : List ℕ) → Covers ks fixed → AreKnown ks vs → HasFixed fixed vs
covers_fixed ks [] vs c k = tt
covers_fixed ks (x ∷ xs) vs c k = (known_at ks vs x.param x.word.0 k c.0, covers_fixed ks xs vs c.1 k)

shape_kept : (o o1 : Option Shape) → ((params : ℕ) (value : Bool) → o ≡ Some (shape.Routine params value) → o1 ≡ Some (shape.Routine params value))
    → (count : ℕ) (wanted : Bool) → IsRoutineShape o count wanted → IsRoutineShape o1 count wanted
shape_kept None o1 same count wanted h = absurd h
shape_kept (Some (shape.Object words)) o1 same count wanted h = absurd h
shape_kept (Some (shape.Routine params value)) o1 same count wanted h =
    subst (λ (o : Option Shape). IsRoutineShape o count wanted) (sym (same params value refl)) h

module _ (p : IlProgram) (r : RoutineParts) where
  -- a call that stays
  may_stay : (q : ℕ) (known : List (Option ℕ)) → MayBecome p q q known
  may_stay q known = record { same = λ vs w k. refl; shape = λ count wanted h. h }

  may_move : (m : SiteMove) (by : IsByRow p r m) → Stands p by.site.callee → MayBecome p by.site.callee m.callee by.site.known
  may_move m by stands =
      record {
        same = λ vs w k.
            let callee : called p by.site.callee vs w ≡ called p by.row.callee vs w = ap (λ (x : ℕ). called p x vs w) by.callee in
            let clone : called p by.row.clone vs w ≡ called p m.callee vs w = ap (λ (x : ℕ). called p x vs w) (sym by.clone) in
            callee
            ∙ ap (λ (go : World (Unit {0}) → Outcome (Unit {0})). turn (ended OutOfTurns) go w)
            (λ i w1. by.right.by (subst (Stands p) by.callee stands) by.stands vs w1 (covers_fixed by.site.known by.row.fixed vs by.known k) i)
            ∙ clone;
        shape = λ count wanted h.
            subst (λ (x : ℕ). IsRoutineShape (shape_at p.shapes x) count wanted) (sym by.clone)
            (shape_kept (shape_at p.shapes by.row.callee) (shape_at p.shapes by.row.clone) by.shape.by count wanted
            (subst (λ (x : ℕ). IsRoutineShape (shape_at p.shapes x) count wanted) by.callee h));
      }

  -- site k, by the first move that names it, if one does
  by_number : (m : SiteMove) (ms : List SiteMove) (k : ℕ) (s : KnownSite) → slice_get (known_sites r) k ≡ Some s → Stands p s.callee
      → IsByRow p r m → MayBecome p s.callee (callee_at ms k s.callee) s.known → (b : Bool) → nat_eq m.site k ≡ b
      → MayBecome p s.callee (if b then m.callee else callee_at ms k s.callee) s.known
  by_number m ms k s e stands by other false eb = other
  by_number m ms k s e stands by other true eb =
      let here = ap (λ (n : ℕ). slice_get (known_sites r) n) (eqb-true m.site k eb) in
      let same : by.site ≡ s = same_Some by.site s (sym by.is ∙ here ∙ e) in
      subst (λ (z : KnownSite). MayBecome p z.callee m.callee z.known) same
      (may_move m by (subst (λ (z : KnownSite). Stands p z.callee) (sym same) stands))

  one_may : (ms : List SiteMove) → AllByRecursion (IsByRow p r) ms → (k : ℕ) (s : KnownSite) → slice_get (known_sites r) k ≡ Some s
      → Stands p s.callee → MayBecome p s.callee (callee_at ms k s.callee) s.known
  one_may [] h k s e stands = may_stay s.callee s.known
  one_may (m ∷ ms) h k s e stands = by_number m ms k s e stands h.0 (one_may ms h.1 k s e stands) (nat_eq m.site k) refl

  -- the sites from number k on
  sites_may : (ms : List SiteMove) → AllByRecursion (IsByRow p r) ms → (k : ℕ) (ss : List KnownSite)
      → ((i : ℕ) (s : KnownSite) → slice_get ss i ≡ Some s → slice_get (known_sites r) (k + i) ≡ Some s)
      → AllByRecursion (λ s. Stands p s.callee) ss → SitesMay p ms k ss
  sites_may ms h k [] at stand = tt
  sites_may ms h k (s ∷ ss) at stand =
      let here : k ≡ k + 0 = omega arith in
      let first = ap (λ (n : ℕ). slice_get (known_sites r) n) here ∙ at 0 s refl in
      let later = λ (i : ℕ) (t : KnownSite) (e : slice_get ss i ≡ Some t).
      (let there : suc k + i ≡ k + suc i = omega arith in ap (λ (n : ℕ). slice_get (known_sites r) n) there ∙ at (suc i) t e) in
      (one_may ms h k s first stand.0, sites_may ms h (suc k) ss later stand.1)

-- each site of a valid routine calls a routine that stands
callee_stands : (p : IlProgram) (fs : Facts) (i : Instr) → IsCallIn (Stands p) i → AllByRecursion (λ s. Stands p s.callee) (site_of fs i)
callee_stands p fs (Call dest q count args) h = (h, tt)
callee_stands p fs (Const d v) h = tt
callee_stands p fs (Move d s) h = tt
callee_stands p fs (Conv d t s) h = tt
callee_stands p fs (Bin o d a b) h = tt
callee_stands p fs (Get d g) h = tt
callee_stands p fs (Set g s) h = tt
callee_stands p fs (GetX d g i) h = tt
callee_stands p fs (SetX g i s) h = tt
callee_stands p fs (GetA d a i) h = tt
callee_stands p fs (SetA a i s) h = tt
callee_stands p fs (Clear r c a m) h = tt
callee_stands p fs Turn h = tt
callee_stands p fs (GetChar d) h = tt
callee_stands p fs (PutChar d s) h = tt

callees_stand : (p : IlProgram) (fs : Facts) (is : List Instr) → CallsIn (Stands p) is → AllByRecursion (λ s. Stands p s.callee) (known_in fs is)
callees_stand p fs [] h = tt
callees_stand p fs (i ∷ is) h =
    all_append (λ s. Stands p s.callee) (site_of fs i) (known_in (after i fs) is) (callee_stands p fs i h.0) (callees_stand p (after i fs) is h.1)

pub all_stand : (p : IlProgram) (r : RoutineParts) (b : ℕ) (xs : List Block) → BlocksCallIn (Stands p) xs
    → AllByRecursion (λ s. Stands p s.callee) (known_from r b xs)
all_stand p r b [] h = tt
all_stand p r b (x ∷ xs) h =
    all_append (λ s. Stands p s.callee) (known_in (facts_at r b) x.instrs) (known_from r (suc b) xs)
    (callees_stand p (facts_at r b) x.instrs h.0) (all_stand p r (suc b) xs h.1)

pub retarget_serves : (p : IlProgram) → IsProgram p → (r : RoutineParts) (ms : List SiteMove) → IsValid p.shapes r
    → AllByRecursion (IsByRow p r) ms → Serves p r (retarget r ms)
retarget_serves p valid r ms ok h =
    let stand = all_stand p r 0 r.blocks (valid_calls p valid r ok) in
    let here = λ (i : ℕ) (s : KnownSite) (e : slice_get (known_sites r) i ≡ Some s).
    (let same : 0 + i ≡ i = omega arith in ap (λ (n : ℕ). slice_get (known_sites r) n) same ∙ e) in
    sites_serve p r ms ok (sites_may p r ms h 0 (known_sites r) here stand)

pub retarget_follows : (p : IlProgram) → IsProgram p → (x : ℕ) (r : RoutineParts) (ms : List SiteMove) → routine_at p.routines x ≡ Some r
    → AllByRecursion (IsByRow p r) ms → MayFollow p (with_routine p (retarget r ms))
retarget_follows p valid x r ms e h =
    routine_follows p valid x r (retarget r ms) e (retarget_serves p valid r ms (routine_valid p valid x r e) h)
