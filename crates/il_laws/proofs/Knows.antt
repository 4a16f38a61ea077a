-- What is known of registers holds of each frame that an instruction can leave.
use Rattle.std.proofs.Common.{◌≡◌, ℕ, zero, suc, List, [], ◌∷◌, Bool, true, false, refl, ap, ap₂, sym, ◌∙◌, slice_get}
use Rattle.std.specs.Prelude.{nat_eq, if◌then◌else◌, Option, Some, None, option_map, Result, Ok, Err}
use Rattle.std.proofs.lemmas.Option.{none-some, same_Some}
use Rattle.hlo_num.specs.declared.word.Trap.{Trap}
use Rattle.hlo_num.specs.declared.word.Op.{Op}
use Rattle.hlo_num.specs.Words.{convert}
use Rattle.hlo_num.specs.Operators.{operate}
use Rattle.il_core.specs.declared.instr.Block.{Block}
use Rattle.il_core.specs.declared.instr.Instr.{Instr}
use Rattle.il_core.specs.declared.instr.Instr.TheVariants.{Const, Move, Conv, Bin, Get, Set, GetX, SetX, GetA, SetA, Clear, Turn, Call, GetChar, PutChar}
use Rattle.il_core.specs.Meaning.{Frame, with_reg, is_among}
use Rattle.il_core.specs.Operands.{is_named, writes, loops_to}
use Rattle.il_laws.specs.Facts.{Facts, word_in, known_result, gives, after, any_writes, written, looped}
use Rattle.il_laws.proofs.Same.{Leaves}
use Rattle.std.proofs.lemmas.Bool.{or_left, or_right}
use Rattle.list_laws.proofs.Tests.{or_first, or_second}

-- a frame has what is known
pub record Knows (fs : Facts) (f : Frame) : Type 0 where
  pub by : (x v : ℕ) → fs x ≡ Some v → f.regs x ≡ v

-- registers that nothing writes are 0
pub record Zeros (quiet : ℕ → Type 0) (f : Frame) : Type 0 where
  pub by : (x : ℕ) → quiet x → f.regs x ≡ 0

pub map_known : (g : ℕ → ℕ) (o : Option ℕ) (v u : ℕ) → ((w : ℕ) → o ≡ Some w → v ≡ w) → option_map g o ≡ Some u → g v ≡ u
map_known g None v u h e = absurd (none-some u e)
map_known g (Some w) v u h e = ap g (h w refl) ∙ same_Some (g w) u e

word_known : (r : Result ℕ Trap) (u : ℕ) → word_in r ≡ Some u → r ≡ Ok u
word_known (Ok v) u e = ap Ok (same_Some v u e)
word_known (Err t) u e = absurd (none-some u e)

pub result_known : (o : Op) (p q : Option ℕ) (a b u : ℕ) → ((w : ℕ) → p ≡ Some w → a ≡ w) → ((w : ℕ) → q ≡ Some w → b ≡ w)
    → known_result o p q ≡ Some u → operate o a b ≡ Ok u
result_known o (Some v) (Some w) a b u h k e = ap₂ {A = ℕ} {B = ℕ} {C = Result ℕ Trap} (λ x y. operate o x y) (h v refl) (k w refl)
    ∙ word_known (operate o v w) u e
result_known o (Some v) None a b u h k e = absurd (none-some u e)
result_known o None q a b u h k e = absurd (none-some u e)

ok_same : (v u : ℕ) (r : Result ℕ Trap) → r ≡ Ok v → r ≡ Ok u → v ≡ u
ok_same v u r e h = let both : ◌≡◌ {A = Result ℕ Trap} (Ok v) (Ok u) = sym e ∙ h in cc

-- a register that an instruction doesn't write
if_unwritten : (b : Bool) (v u : ℕ) → b ≡ false → (if b then v else u) ≡ u
if_unwritten b v u e = ap (λ (k : Bool). if k then v else u) e

pub unwritten : (i : Instr) (f f1 : Frame) (x : ℕ) → writes i x ≡ false → Leaves i f f1 → f1.regs x ≡ f.regs x
unwritten (Const d v) f f1 x w l = ap (λ (h : Frame). h.regs x) l ∙ if_unwritten (nat_eq x d) v.0 (f.regs x) w
unwritten (Move d s) f f1 x w l = ap (λ (h : Frame). h.regs x) l ∙ if_unwritten (nat_eq x d) (f.regs s) (f.regs x) w
unwritten (Conv d t s) f f1 x w l = ap (λ (h : Frame). h.regs x) l ∙ if_unwritten (nat_eq x d) (convert t (f.regs s)) (f.regs x) w
unwritten (Bin o d a b) f f1 x w l = ap (λ (h : Frame). h.regs x) l.2 ∙ if_unwritten (nat_eq x d) l.0 (f.regs x) w
unwritten (Get d g) f f1 x w l = ap (λ (h : Frame). h.regs x) l.1 ∙ if_unwritten (nat_eq x d) l.0 (f.regs x) w
unwritten (Set g s) f f1 x w l = ap (λ (h : Frame). h.regs x) l
unwritten (GetX d g i) f f1 x w l = ap (λ (h : Frame). h.regs x) l.1 ∙ if_unwritten (nat_eq x d) l.0 (f.regs x) w
unwritten (SetX g i s) f f1 x w l = ap (λ (h : Frame). h.regs x) l
unwritten (GetA d a i) f f1 x w l = ap (λ (h : Frame). h.regs x) l.1 ∙ if_unwritten (nat_eq x d) l.0 (f.regs x) w
unwritten (SetA a i s) f f1 x w l = ap (λ (h : ℕ → ℕ). h x) l
unwritten (Clear r c a m) f f1 x w l = ap (λ (h : Frame). h.regs x) l ∙ if_unwritten (is_among r c x) 0 (f.regs x) w
unwritten Turn f f1 x w l = ap (λ (h : Frame). h.regs x) l
unwritten (Call None p count args) f f1 x w l = ap (λ (h : Frame). h.regs x) l.1
unwritten (Call (Some d) p count args) f f1 x w l = ap (λ (h : Frame). h.regs x) l.1 ∙ if_unwritten (nat_eq x d) l.0 (f.regs x) w
unwritten (GetChar d) f f1 x w l = ap (λ (h : Frame). h.regs x) l.1 ∙ if_unwritten (nat_eq x d) l.0 (f.regs x) w
unwritten (PutChar d s) f f1 x w l = ap (λ (h : Frame). h.regs x) l.1 ∙ if_unwritten (nat_eq x d) l.0 (f.regs x) w

-- a register that an instruction writes, where it is known what it gives
written_is : (f f1 : Frame) (x d v : ℕ) → f1 ≡ with_reg f d v → nat_eq x d ≡ true → f1.regs x ≡ v
written_is f f1 x d v l w = ap (λ (g : Frame). g.regs x) l ∙ ap (λ (b : Bool). if b then v else f.regs x) w

given : (i : Instr) (fs : Facts) (f f1 : Frame) (x u : ℕ) → Knows fs f → Leaves i f f1 → writes i x ≡ true → gives fs i ≡ Some u → f1.regs x ≡ u
given (Const d v) fs f f1 x u k l w e = written_is f f1 x d v.0 l w ∙ same_Some v.0 u e
given (Move d s) fs f f1 x u k l w e = written_is f f1 x d (f.regs s) l w ∙ k.by s u e
given (Conv d t s) fs f f1 x u k l w e =
    written_is f f1 x d (convert t (f.regs s)) l w ∙ map_known (convert t) (fs s) (f.regs s) u (λ y h. k.by s y h) e
given (Bin o d a b) fs f f1 x u k l w e =
    written_is f f1 x d l.0 l.2 w
    ∙ ok_same l.0 u (operate o (f.regs a) (f.regs b)) l.1
    (result_known o (fs a) (fs b) (f.regs a) (f.regs b) u (λ y h. k.by a y h) (λ y h. k.by b y h) e)
given (Clear r c a m) fs f f1 x u k l w e =
    ap (λ (g : Frame). g.regs x) l ∙ ap (λ (b : Bool). if b then 0 else f.regs x) w ∙ same_Some 0 u e
given (Get d g) fs f f1 x u k l w e = absurd (none-some u e)
given (Set g s) fs f f1 x u k l w e = absurd (none-some u e)
given (GetX d g i) fs f f1 x u k l w e = absurd (none-some u e)
given (SetX g i s) fs f f1 x u k l w e = absurd (none-some u e)
given (GetA d a i) fs f f1 x u k l w e = absurd (none-some u e)
given (SetA a i s) fs f f1 x u k l w e = absurd (none-some u e)
given Turn fs f f1 x u k l w e = absurd (none-some u e)
given (Call dest p count args) fs f f1 x u k l w e = absurd (none-some u e)
given (GetChar d) fs f f1 x u k l w e = absurd (none-some u e)
given (PutChar d s) fs f f1 x u k l w e = absurd (none-some u e)

-- what is known behind an instruction
known_after : (i : Instr) (fs : Facts) (f f1 : Frame) (x u : ℕ) (b : Bool) → writes i x ≡ b → Knows fs f → Leaves i f f1
    → (if b then gives fs i else fs x) ≡ Some u → f1.regs x ≡ u
known_after i fs f f1 x u true w k l e = given i fs f f1 x u k l w e
known_after i fs f f1 x u false w k l e = unwritten i f f1 x w l ∙ k.by x u e

pub knows_after : (i : Instr) (fs : Facts) (f f1 : Frame) → Knows fs f → Leaves i f f1 → Knows (after i fs) f1
knows_after i fs f f1 k l = record { by = λ x u e. known_after i fs f f1 x u (writes i x) refl k l e }

pub written_none : (bs : List Block) (t : ℕ) (y : Block) (x : ℕ) → slice_get bs t ≡ Some y → written bs x ≡ false → any_writes y.instrs x ≡ false
written_none [] t y x e w = absurd (none-some y e)
written_none (b ∷ bs) zero y x e w = ap (λ (z : Block). any_writes z.instrs x) (sym (same_Some b y e)) ∙ or_first (any_writes b.instrs x)
    (written bs x) w
written_none (b ∷ bs) (suc t) y x e w = written_none bs t y x e (or_second (any_writes b.instrs x) (written bs x) w)

pub looped_at : (bs : List Block) (t : ℕ) (y : Block) (b : ℕ) → slice_get bs t ≡ Some y → is_named (loops_to y.end) b ≡ true → looped bs b ≡ true
looped_at [] t y b e l = absurd (none-some y e)
looped_at (x ∷ bs) zero y b e l =
    or_left (is_named (loops_to x.end) b) (looped bs b) (ap (λ (z : Block). is_named (loops_to z.end) b) (same_Some x y e) ∙ l)
looped_at (x ∷ bs) (suc t) y b e l = or_right (is_named (loops_to x.end) b) (looped bs b) (looped_at bs t y b e l)
