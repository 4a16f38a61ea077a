-- Calls with other callees: what the table says is what the moves say, and the routine stays within the limits.
use Rattle.std.proofs.Common.{◌≡◌, ℕ, ◌+◌, ◌<◌, ◌≤◌, List, [], ◌∷◌, ◌++◌, Bool, true, false, Option, nat_eq, get_or, drop, take, length, refl, ap, ap₂}
use Rattle.std.proofs.Common.{◌∙◌, arith}
use Rattle.std.specs.Prelude.{if◌then◌else◌}
use Rattle.std.specs.List.{AllByRecursion}
use Rattle.std.proofs.lemmas.List.{take_at}
use Rattle.std.proofs.lemmas.List.Sums.{sum_by-cons}
use Rattle.list_laws.proofs.Elements.{drop_read}
use Rattle.il_core.specs.declared.instr.Block.{Block}
use Rattle.il_core.specs.declared.instr.Instr.{Instr}
use Rattle.il_core.specs.declared.instr.Instr.TheVariants.{Const, Move, Conv, Bin, Get, Set, GetX, SetX, GetA, SetA, Clear, Turn, Call, GetChar, PutChar}
use Rattle.il_core.specs.Limits.{IsBlock, IsInstr, IsWithinLimits, max_pids, max_size}
use Rattle.il_core.specs.Meaning.{sites_in, sites_of}
use Rattle.il_core.specs.Routine.{RoutineParts}
use Rattle.il_core.specs.Size.{block_size, blocks_size}
use Rattle.il_laws.specs.Retarget.{SiteMove, callee_at, retarget, retarget_blocks, retarget_instr, retarget_instrs}
use Rattle.clone_groups.specs.Moves.{HasMoves, callee_in, moves_of, sites_of_blocks, with_block_callees, with_callee, with_callees}
use Rattle.clone_groups.proofs.InPlace.{Change}

-- the changes of the loops
abbrev pub instrs_change : (ℕ → ℕ → ℕ) → Change Instr
instrs_change to = record {
  whole = with_callees to;
  one = with_callee to;
  count = sites_of;
  counts = sites_in;
  none = λ k. refl;
  more = λ k x xs. refl;
  nothing = refl;
  sum = λ x xs. refl;
}

abbrev pub block_callees : (ℕ → ℕ → ℕ) → ℕ → Block → Block
block_callees to k x = record { instrs = with_callees to k x.instrs; end = x.end }

abbrev pub blocks_change : (ℕ → ℕ → ℕ) → Change Block
blocks_change to = record {
  whole = with_block_callees to;
  one = block_callees to;
  count = sites_of_blocks;
  counts = λ x. sites_of x.instrs;
  none = λ k. refl;
  more = λ k x xs. refl;
  nothing = refl;
  sum = λ x xs. refl;
}

-- where the table says what the moves say, it leads to the routine of the laws
module _ (n : ℕ) (t : List (Option ℕ)) (ms : List SiteMove) (h : HasMoves n t ms) where
  instr_is : (k : ℕ) (i : Instr) → sites_in i + k ≤ n → with_callee (callee_in t) k i ≡ retarget_instr ms k i
  instr_is k (Call dest p count args) le = ap (λ (q : ℕ). Call dest q count args) (h.says k p (omega arith))
  instr_is k (Const d w) le = refl
  instr_is k (Move d s) le = refl
  instr_is k (Conv d t s) le = refl
  instr_is k (Bin o d a b) le = refl
  instr_is k (Get d g) le = refl
  instr_is k (Set g s) le = refl
  instr_is k (GetX d g i) le = refl
  instr_is k (SetX g i s) le = refl
  instr_is k (GetA d a i) le = refl
  instr_is k (SetA a i s) le = refl
  instr_is k (Clear r c a m) le = refl
  instr_is k Turn le = refl
  instr_is k (GetChar d) le = refl
  instr_is k (PutChar d s) le = refl

  instrs_are : (k : ℕ) (is : List Instr) → sites_of is + k ≤ n → with_callees (callee_in t) k is ≡ retarget_instrs ms k is
  instrs_are k [] le = refl
  instrs_are k (i ∷ is) le =
      ap₂ {A = Instr} {B = List Instr} {C = List Instr} (λ j js. j ∷ js) (instr_is k i (omega arith)) (instrs_are (sites_in i + k) is (omega arith))

  pub blocks_are : (k : ℕ) (xs : List Block) → sites_of_blocks xs + k ≤ n → with_block_callees (callee_in t) k xs ≡ retarget_blocks ms k xs
  blocks_are k [] le = refl
  blocks_are k (x ∷ xs) le =
      ap₂ {A = List Instr} {B = List Block} {C = List Block} (λ is ys. record { instrs = is; end = x.end } ∷ ys)
      (instrs_are k x.instrs (omega arith)) (blocks_are (sites_of x.instrs + k) xs (omega arith))

-- the limits
abbrev pub AreCallees : List (ℕ × ℕ) → Type 0
AreCallees ms = AllByRecursion (λ m. m.1 < max_pids) ms

callee_within : (ms : List (ℕ × ℕ)) → AreCallees ms → (k p : ℕ) → p < max_pids → callee_at (moves_of ms) k p < max_pids
callee_within [] all k p lt = lt
callee_within (m ∷ ms) all k p lt = choose (nat_eq m.0 k) (callee_within ms all.1 k p lt)
  where
    choose : (b : Bool) → callee_at (moves_of ms) k p < max_pids → (if b then m.1 else callee_at (moves_of ms) k p) < max_pids
    choose true rest = all.0
    choose false rest = rest

module _ (ms : List (ℕ × ℕ)) (all : AreCallees ms) where
  instr_within : (k : ℕ) (i : Instr) → IsInstr i → IsInstr (retarget_instr (moves_of ms) k i)
  instr_within k (Call dest p count args) h = (callee_within ms all k p h.0, h.1)
  instr_within k (Const d w) h = h
  instr_within k (Move d s) h = h
  instr_within k (Conv d t s) h = h
  instr_within k (Bin o d a b) h = h
  instr_within k (Get d g) h = h
  instr_within k (Set g s) h = h
  instr_within k (GetX d g i) h = h
  instr_within k (SetX g i s) h = h
  instr_within k (GetA d a i) h = h
  instr_within k (SetA a i s) h = h
  instr_within k (Clear r c a m) h = h
  instr_within k Turn h = h
  instr_within k (GetChar d) h = h
  instr_within k (PutChar d s) h = h

  instrs_within : (k : ℕ) (is : List Instr) → AllByRecursion IsInstr is → AllByRecursion IsInstr (retarget_instrs (moves_of ms) k is)
  instrs_within k [] h = tt
  instrs_within k (i ∷ is) h = (instr_within k i h.0, instrs_within (sites_in i + k) is h.1)

  blocks_within : (k : ℕ) (xs : List Block) → AllByRecursion IsBlock xs → AllByRecursion IsBlock (retarget_blocks (moves_of ms) k xs)
  blocks_within k [] h = tt
  blocks_within k (x ∷ xs) h = (instrs_within k x.instrs h.0, blocks_within (sites_of x.instrs + k) xs h.1)

  instrs_size : (k : ℕ) (is : List Instr) → length (retarget_instrs (moves_of ms) k is) ≡ length is
  instrs_size k [] = refl
  instrs_size k (i ∷ is) = let rest = instrs_size (sites_in i + k) is in omega arith

  same_size : (k : ℕ) (xs : List Block) → blocks_size (retarget_blocks (moves_of ms) k xs) ≡ blocks_size xs
  same_size k [] = refl
  same_size k (x ∷ xs) =
      let y : Block = record { instrs = retarget_instrs (moves_of ms) k x.instrs; end = x.end } in
      let ys = retarget_blocks (moves_of ms) (sites_of x.instrs + k) xs in
      let a = sum_by-cons block_size y ys in
      let b = sum_by-cons block_size x xs in
      let c = instrs_size k x.instrs in
      let d = same_size (sites_of x.instrs + k) xs in
      omega arith

  pub retarget_within : (r : RoutineParts) → IsWithinLimits r → IsWithinLimits (retarget r (moves_of ms))
  retarget_within r h = let size = same_size 0 r.blocks in let most = h.size in record {
    pid = h.pid;
    params = h.params;
    regs = h.regs;
    arrays = h.arrays;
    elements = h.elements;
    size = omega arith;
    instrs = blocks_within 0 r.blocks h.instrs;
  }

-- how many calls blocks have
calls_few : (is : List Instr) → sites_of is ≤ length is
calls_few [] = omega arith
calls_few (i ∷ is) = let rest = calls_few is in let one = call_once i in omega arith
  where
    call_once : (i : Instr) → sites_in i ≤ 1
    call_once (Call dest p count args) = omega arith
    call_once (Const d w) = omega arith
    call_once (Move d s) = omega arith
    call_once (Conv d t s) = omega arith
    call_once (Bin o d a b) = omega arith
    call_once (Get d g) = omega arith
    call_once (Set g s) = omega arith
    call_once (GetX d g i) = omega arith
    call_once (SetX g i s) = omega arith
    call_once (GetA d a i) = omega arith
    call_once (SetA a i s) = omega arith
    call_once (Clear r c a m) = omega arith
    call_once Turn = omega arith
    call_once (GetChar d) = omega arith
    call_once (PutChar d s) = omega arith

pub sites_few : (xs : List Block) → sites_of_blocks xs ≤ blocks_size xs
sites_few [] = omega arith
sites_few (x ∷ xs) =
    let rest = sites_few xs in
    let sum = sum_by-cons block_size x xs in
    let few = calls_few x.instrs in
    omega arith

-- a count over the blocks before one, and over that one, is small
pub part_few : (xs : List Block) (i sites calls : ℕ) (x : Block) → sites + sites_of_blocks (drop i xs) ≡ sites_of_blocks xs → i < length xs → x ≡ get_or xs i x
    → calls ≡ sites_of x.instrs → blocks_size xs ≤ max_size → sites + calls ≤ max_size
part_few xs i sites calls x e lt read is most =
    let rest = ap sites_of_blocks (drop_read xs i x lt read) in
    let few = sites_few xs in
    omega arith

-- the routine whose blocks are changed in place
pub owned_is : (r : RoutineParts) (ms : List (ℕ × ℕ)) (len n : ℕ) (table t : List (Option ℕ)) (was now rest result : List Block)
    → result ≡ take len (now ++ rest)
    → length now ≡ len → was ≡ r.blocks → n ≡ sites_of_blocks was → HasMoves n table (moves_of ms) → t ≡ table → now ≡ with_block_callees (callee_in t) 0 was
    → record r { blocks = result } ≡ retarget r (moves_of ms)
owned_is r ms len n table t was now rest result e size blocks count has same whole =
    let is = whole ∙ ap (λ (s : List (Option ℕ)). with_block_callees (callee_in s) 0 was) same ∙ blocks_are n table (moves_of ms) has 0 was (omega arith)
    ∙ ap (λ (xs : List Block). retarget_blocks (moves_of ms) 0 xs) blocks in
    ap (λ (bs : List Block). record r { blocks = bs }) (e ∙ take_at now rest len size ∙ is)
