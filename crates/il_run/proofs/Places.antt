-- The run from a place of a routine, and what is left there.
use Rattle.std.proofs.Common.{◌≡◌, ℕ, zero, suc, ◌+◌, ◌-◌, ◌<◌, ◌≤◌, List, [], ◌∷◌, length, drop, get_or, Bool, true, false, refl, ap, subst, sym, ◌∙◌}
use Rattle.std.proofs.Common.{arith, drop-cons}
use Rattle.std.specs.Prelude.{nat_lt, if◌then◌else◌, slice_index, Result, Ok, Err}
use Rattle.std.specs.List.{AllByRecursion}
use Rattle.std.proofs.lemmas.List.{drop_all, drop-drop}
use Rattle.std.proofs.lemmas.List.Sums.{sum_by-cons, sum_by-take-drop}
use mathlib.Core.Path.{fun_ext}
use Rattle.hlo_num.specs.declared.word.Trap.{Trap}
use Rattle.hlo_num.specs.declared.word.Trap.TheVariants.{Index}
use Rattle.hlo_num.specs.Operators.{operate}
use Rattle.il_core.specs.declared.instr.Block.{Block}
use Rattle.il_core.specs.declared.instr.Instr.{Instr}
use Rattle.il_core.specs.declared.instr.Instr.TheVariants.{Const, Move, Conv, Bin, Get, Set, GetX, SetX, GetA, SetA, Clear, Turn, Call, GetChar, PutChar}
use Rattle.il_core.specs.declared.instr.End.TheVariants as ends
use Rattle.il_core.specs.declared.program.IlProgram.{IlProgram}
use Rattle.il_core.specs.declared.shape.ShapeRow.{ShapeRow}
use Rattle.il_core.specs.Routine.{RoutineParts}
use Rattle.il_core.specs.Size.{block_size, blocks_size}
use Rattle.il_core.specs.Valid.{IsProgram, IsValid, AreValidBlocks, IsValidInstr, IsValidEnd}
use Rattle.il_core.specs.World.{World, Outcome, Trapped, ended, with_word}
use Rattle.il_core.specs.Meaning.{Frame, with_reg, Lengths, lengths, Next, Act, step, sites_of, finish, enter, Recorder}
use Rattle.il_core.specs.Places.{sites_before, from_block, calls_of, backs_of, run_from}
use Rattle.il_run.specs.Plain.{Data, gets, plain, lengths_of, IsPlain}
use Rattle.il_run.specs.Machine.{routine_in, block_in, IsTabled, site_at, work}
use Rattle.il_run.specs.declared.tables.Tables.{Tables}
use Rattle.il_core.proofs.Found.{all_at}
use Rattle.il_core.proofs.Places.{go_on, run_step, run_end}

-- the blocks from one on begin with it
pub block_here : (r : RoutineParts) (b : ℕ) → b < length r.blocks → drop b r.blocks ≡ block_in r b ∷ drop (suc b) r.blocks
block_here r b lt = drop-cons r.blocks b (record { instrs = []; end = ends.Exit 0 }) lt

module _ {S : Type 0} (note : Recorder S) (p : IlProgram) (r : RoutineParts) where
  -- one instruction further
  pub run_instr : (b j : ℕ) (i : Instr) (f : Frame) (w : World S) → b < length r.blocks → drop j (block_in r b).instrs ≡ i ∷ drop (suc j) (block_in r b).instrs
      → run_from note p r b j f w ≡ step (calls_of note p r) (lengths p r) (site_at r b j) i (λ f1 w1. run_from note p r b (suc j) f1 w1) f w
  run_instr b j i f w lt e =
      subst (λ (ys : List Block). from_block (calls_of note p r) (backs_of note p r) (lengths p r) ys b (sites_before r.blocks b 0) j f w
      ≡ step (calls_of note p r) (lengths p r) (site_at r b j) i (λ f1 w1. from_block (calls_of note p r) (backs_of note p r) (lengths p r) ys b
      (sites_before r.blocks b 0) (suc j) f1 w1) f w)
      (sym (block_here r b lt))
      (run_step (calls_of note p r) (backs_of note p r) (lengths p r) (block_in r b) (drop (suc b) r.blocks) b (sites_before r.blocks b 0) j i f w e)

  -- the end of a block: a later block is gone to
  abbrev pub later : ℕ → ℕ → Next S
  later b u f w = enter (calls_of note p r) (backs_of note p r) (lengths p r) (drop (suc b) r.blocks) (suc b)
      (sites_of (block_in r b).instrs + sites_before r.blocks b 0) u f w

  pub run_finish : (b j : ℕ) (f : Frame) (w : World S) → b < length r.blocks → length (block_in r b).instrs ≤ j
      → run_from note p r b j f w ≡ finish (backs_of note p r) (later b) (block_in r b).end f w
  run_finish b j f w lt le =
      subst (λ (ys : List Block). from_block (calls_of note p r) (backs_of note p r) (lengths p r) ys b (sites_before r.blocks b 0) j f w ≡ finish
      (backs_of note p r) (later b) (block_in r b).end f w)
      (sym (block_here r b lt))
      (run_end (calls_of note p r) (backs_of note p r) (lengths p r) (block_in r b) (drop (suc b) r.blocks) b (sites_before r.blocks b 0) j f w
      (drop_all j (block_in r b).instrs le))

  pub later_is : (b u : ℕ) (f : Frame) (w : World S) → b < length r.blocks → b < u → later b u f w ≡ run_from note p r u 0 f w
  later_is b u f w lt less = go_on (calls_of note p r) (backs_of note p r) (lengths p r) r.blocks (block_in r b) (drop (suc b) r.blocks) b u f w
      (block_here r b lt) less

-- what a plain instruction leads to
abbrev pub with_data : {S : Type 0} → Result Data Trap → World S → Next S → Outcome S
with_data (Ok m) w go = go m.frame (record w { objects = m.objects })
with_data (Err t) w go = ended (Trapped t) w

word_data : {S : Type 0} (m : Data) (d : ℕ) (o : Result ℕ Trap) (w : World S) (go : Next S)
    → with_word o (record w { objects = m.objects }) (λ v. go (with_reg m.frame d v) (record w { objects = m.objects })) ≡ with_data (gets m d o) w go
word_data m d (Ok v) w go = refl
word_data m d (Err t) w go = refl

inside_data : {S : Type 0} (c : Bool) (m : Data) (w : World S) (go : Next S)
    → (if c then go m.frame (record w { objects = m.objects }) else ended (Trapped Index) w) ≡ with_data (if c then Ok m else Err Index) w go
inside_data true m w go = refl
inside_data false m w go = refl

pub plain_step : {S : Type 0} (call : Act S) (n : Lengths) (k : ℕ) (i : Instr) (go : Next S) (f : Frame) (w : World S) → IsPlain i
    → step call n k i go f w ≡ with_data (plain n i (record { frame = f; objects = w.objects })) w go
plain_step call n k (Const d v) go f w h = refl
plain_step call n k (Move d s) go f w h = refl
plain_step call n k (Conv d t s) go f w h = refl
plain_step call n k (Bin o d a b) go f w h = word_data (record { frame = f; objects = w.objects }) d (operate o (f.regs a) (f.regs b)) w go
plain_step call n k (Get d g) go f w h = refl
plain_step call n k (Set g s) go f w h = refl
plain_step call n k (GetX d g i) go f w h = inside_data (nat_lt (f.regs i) (n.object g)) _ w go
plain_step call n k (SetX g i s) go f w h = inside_data (nat_lt (f.regs i) (n.object g)) _ w go
plain_step call n k (GetA d a i) go f w h = inside_data (nat_lt (f.regs i) (n.array a)) _ w go
plain_step call n k (SetA a i s) go f w h = inside_data (nat_lt (f.regs i) (n.array a)) _ w go
plain_step call n k (Clear r c a m) go f w h = refl
plain_step call n k Turn go f w h = absurd h
plain_step call n k (Call dest q count args) go f w h = absurd h
plain_step call n k (GetChar d) go f w h = absurd h
plain_step call n k (PutChar d s) go f w h = absurd h

pub lengths_are : (p : IlProgram) (t : Tables) (r : RoutineParts) → IsTabled p t → lengths p r ≡ lengths_of r t.objects.sizes.items
lengths_are p t r tabled = ap (λ (f : ℕ → ℕ). record { array = slice_index r.arrays; object = f }) (fun_ext (λ g. sym (tabled.sizes g)))

-- what is left falls
work_here : (r : RoutineParts) (b : ℕ) → b < length r.blocks
    → blocks_size (drop b r.blocks) ≡ length (block_in r b).instrs + 1 + blocks_size (drop (suc b) r.blocks)
work_here r b lt = ap blocks_size (block_here r b lt) ∙ sum_by-cons block_size (block_in r b) (drop (suc b) r.blocks)

pub work_step : (r : RoutineParts) (b j : ℕ) → b < length r.blocks → j < length (block_in r b).instrs → work r b (suc j) < work r b j
work_step r b j lt l = omega (arith, work_here r b lt)

less_blocks : (xs : List Block) (k : ℕ) → blocks_size (drop k xs) ≤ blocks_size xs
less_blocks xs k = omega (arith, sum_by-take-drop block_size xs k)

pub work_later : (r : RoutineParts) (b j u : ℕ) → b < length r.blocks → j ≤ length (block_in r b).instrs → b < u → work r u 0 < work r b j
work_later r b j u lt le less =
    let later : drop (u - suc b) (drop (suc b) r.blocks) ≡ drop u r.blocks = drop-drop (u - suc b) (suc b) r.blocks ∙ ap (λ (k : ℕ). drop k r.blocks)
    (omega arith) in
    let few : blocks_size (drop u r.blocks) ≤ blocks_size (drop (suc b) r.blocks) = subst
    (λ (ys : List Block). blocks_size ys ≤ blocks_size (drop (suc b) r.blocks)) later (less_blocks (drop (suc b) r.blocks) (u - suc b)) in
    omega (arith, work_here r b lt)

pub work_whole : (r : RoutineParts) (b : ℕ) → work r b 0 ≤ blocks_size r.blocks
work_whole r b = omega (arith, less_blocks r.blocks b)

pub work_some : (r : RoutineParts) (b j : ℕ) → b < length r.blocks → j ≤ length (block_in r b).instrs → 0 < work r b j
work_some r b j lt le = omega (arith, work_here r b lt)

pub record ValidBlock (rows : List ShapeRow) (r : RoutineParts) (b : ℕ) (x : Block) : Type 0 where
  pub instrs : AllByRecursion (IsValidInstr rows r.regs (length r.arrays)) x.instrs
  pub end : IsValidEnd r.regs r.value (length r.blocks) b x.end

block_valid : (rows : List ShapeRow) (r : RoutineParts) (b : ℕ) (xs : List Block) (i : ℕ) (d : Block) → AreValidBlocks rows r b xs → i < length xs
    → ValidBlock rows r (b + i) (get_or xs i d)
block_valid rows r b [] i d all lt = absurd (omega arith)
block_valid rows r b (x ∷ xs) zero d all lt = record {
  instrs = all.0;
  end = subst (λ (n : ℕ). IsValidEnd r.regs r.value (length r.blocks) n x.end)
      (omega arith) all.1;
}
block_valid rows r b (x ∷ xs) (suc i) d all lt = subst (λ (n : ℕ). ValidBlock rows r n (get_or xs i d)) (omega arith)
    (block_valid rows r (b + 1) xs i d all.2 (omega arith))

module _ (p : IlProgram) (valid : IsProgram p) where
  pub routine_valid : (i : ℕ) → i < length p.routines → IsValid p.shapes (routine_in p i)
  routine_valid i lt = all_at (IsValid p.shapes) p.routines i _ valid.each lt

  pub block_is_valid : (i b : ℕ) → i < length p.routines → b < length (routine_in p i).blocks
      → ValidBlock p.shapes (routine_in p i) b (block_in (routine_in p i) b)
  block_is_valid i b lt l = subst (λ (n : ℕ). ValidBlock p.shapes (routine_in p i) n (block_in (routine_in p i) b)) (omega arith)
      (block_valid p.shapes (routine_in p i) 0 (routine_in p i).blocks b _ (routine_valid i lt).blocks l)
