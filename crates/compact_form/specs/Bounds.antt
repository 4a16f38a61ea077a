-- A compact form has at least one byte, and at most as many as the routine is charged with.
use Rattle.std.proofs.Common.{◌≡◌, ℕ, ◌+◌, ◌*◌, ◌^◌, ◌≤◌, List, [], ◌∷◌, ◌++◌, Some, None, length, arith, length-append}
use Rattle.std.specs.Prelude.{sum_by}
use Rattle.std.specs.List.{AllByRecursion}
use Rattle.std.proofs.lemmas.List.Sums.{sum_by-cons}
use Rattle.il_core.specs.declared.instr.Block.{Block}
use Rattle.il_core.specs.declared.instr.Instr.{Instr}
use Rattle.il_core.specs.declared.instr.Instr.TheVariants.{Const, Move, Conv, Bin, Get, Set, GetX, SetX, GetA, SetA, Clear, Turn, Call, GetChar, PutChar}
use Rattle.il_core.specs.declared.instr.End.{End}
use Rattle.il_core.specs.declared.instr.End.TheVariants.{Jump, Branch, Loop, Return, Exit}
use Rattle.il_core.specs.Limits.{IsBlock, IsInstr, max_elements, max_parameters, max_size}
use Rattle.il_core.specs.Ranges.{AreWords}
use Rattle.il_core.specs.Routine.{RoutineParts}
use Rattle.il_core.specs.Size.{block_size, blocks_size, arguments, block_arguments, blocks_arguments, charge}
use Rattle.compact_form.specs.Numbers.{forms, spelled, spelled_all}
use Rattle.compact_form.specs.Compact.{number_of, instr_form, end_form, counted, block_form, flag, head_numbers, compact, IsRoutine}
use Rattle.compact_form.specs.Forms.{number_is_word, Fits, EndFits, BlockFits}
use Rattle.compact_form.specs.Spellings.{spelled_short}
use Rattle.compact_form.specs.Routines.{blocks_fit, few_blocks, flag_word, summed_words}

pub all_short : (ns : List ℕ) → AreWords ns → length (spelled_all ns) ≤ 5 * length ns
all_short [] h = omega arith
all_short (n ∷ ns) h =
    let x = (spelled_short n h.0).1 in
    let y = all_short ns h.1 in
    omega (arith, length-append (spelled n) (spelled_all ns))

-- an instruction's numbers are words, and 32 bytes suffice but for arguments
instr_short : (i : Instr) → Fits i → length (instr_form i) ≤ 32 + 8 * arguments i
instr_short (Const d w) h = let x = all_short (d ∷ w.0 ∷ []) h.1 in omega arith
instr_short (Move d s) h = let x = all_short (d ∷ s ∷ []) h.1 in omega arith
instr_short (Conv d t s) h = let x = all_short (d ∷ number_of t ∷ s ∷ []) (h.1.0, (number_is_word t, h.1.1)) in omega arith
instr_short (Bin o d a b) h = let x = all_short (d ∷ a ∷ b ∷ []) h.1 in omega arith
instr_short (Get d g) h = let x = all_short (d ∷ g ∷ []) h.1 in omega arith
instr_short (Set g s) h = let x = all_short (g ∷ s ∷ []) h.1 in omega arith
instr_short (GetX d g i) h = let x = all_short (d ∷ g ∷ i ∷ []) h.1 in omega arith
instr_short (SetX g i s) h = let x = all_short (g ∷ i ∷ s ∷ []) h.1 in omega arith
instr_short (GetA d a i) h = let x = all_short (d ∷ a ∷ i ∷ []) h.1 in omega arith
instr_short (SetA a i s) h = let x = all_short (a ∷ i ∷ s ∷ []) h.1 in omega arith
instr_short (Clear r n a m) h = let x = all_short (r ∷ n ∷ a ∷ m ∷ []) h.1 in omega arith
instr_short Turn h = omega arith
instr_short (Call None f n args) h =
    let few : length args ≤ max_parameters = h.0.1 in
    let x = all_short (f ∷ n ∷ length args ∷ args) (h.1.0, (h.1.1.0, (omega arith, h.1.1.1))) in omega arith
instr_short (Call (Some d) f n args) h =
    let few : length args ≤ max_parameters = h.0.1 in
    let x = all_short (d ∷ f ∷ n ∷ length args ∷ args) (h.1.0, (h.1.1.0, (h.1.1.1.0, (omega arith, h.1.1.1.1)))) in omega arith
instr_short (GetChar d) h = let x = all_short (d ∷ []) h.1 in omega arith
instr_short (PutChar d s) h = let x = all_short (d ∷ s ∷ []) h.1 in omega arith

end_short : (e : End) → EndFits e → length (end_form e) ≤ 16
end_short (Jump t) h = let x = all_short (t ∷ []) h in omega arith
end_short (Branch r t u) h = let x = all_short (r ∷ t ∷ u ∷ []) h in omega arith
end_short (Loop t) h = let x = all_short (t ∷ []) h in omega arith
end_short (Return None) h = omega arith
end_short (Return (Some r)) h = let x = all_short (r ∷ []) h in omega arith
end_short (Exit r) h = let x = all_short (r ∷ []) h in omega arith

instrs_short : (is : List Instr) → AllByRecursion Fits is → length (forms instr_form is) ≤ 32 * length is + 8 * sum_by arguments is
instrs_short [] h = omega arith
instrs_short (i ∷ is) h =
    let x = instr_short i h.0 in
    let y = instrs_short is h.1 in
    let sums : sum_by arguments (i ∷ is) ≡ arguments i + sum_by arguments is = sum_by-cons arguments i is in
    omega (arith, length-append (instr_form i) (forms instr_form is))

block_short : (b : Block) → BlockFits b → length (block_form b) ≤ 16 + 32 * block_size b + 8 * block_arguments b
block_short b h =
    let count : length b.instrs ≤ max_size = h.0.1 in
    let n = (spelled_short (length b.instrs) (omega arith)).1 in
    let x = instrs_short b.instrs h.0.0 in
    let y = end_short b.end h.1 in
    omega (arith, length-append (counted instr_form b.instrs) (end_form b.end), length-append (spelled (length b.instrs)) (forms instr_form b.instrs))

blocks_short : (bs : List Block) → AllByRecursion BlockFits bs → length (forms block_form bs) ≤ 16 * length bs + 32 * blocks_size bs + 8 * blocks_arguments bs
blocks_short [] h = omega arith
blocks_short (b ∷ bs) h =
    let x = block_short b h.0 in
    let y = blocks_short bs h.1 in
    let sizes : blocks_size (b ∷ bs) ≡ block_size b + blocks_size bs = sum_by-cons block_size b bs in
    let sums : blocks_arguments (b ∷ bs) ≡ block_arguments b + blocks_arguments bs = sum_by-cons block_arguments b bs in
    omega (arith, length-append (block_form b) (forms block_form bs))

-- a call has no more arguments than a routine may have parameters
few_arguments : (is : List Instr) → AllByRecursion IsInstr is → sum_by arguments is ≤ max_parameters * length is
few_arguments [] h = omega arith
few_arguments (i ∷ is) h =
    let x = at i h.0 in
    let y = few_arguments is h.1 in
    let sums : sum_by arguments (i ∷ is) ≡ arguments i + sum_by arguments is = sum_by-cons arguments i is in omega arith
  where
    at : (j : Instr) → IsInstr j → arguments j ≤ max_parameters
    at (Call dest f n args) g = g.1
    at (Const d w) g = omega arith
    at (Move d s) g = omega arith
    at (Conv d t s) g = omega arith
    at (Bin o d a b) g = omega arith
    at (Get d p) g = omega arith
    at (Set p s) g = omega arith
    at (GetX d p k) g = omega arith
    at (SetX p k s) g = omega arith
    at (GetA d a k) g = omega arith
    at (SetA a k s) g = omega arith
    at (Clear r n a m) g = omega arith
    at Turn g = omega arith
    at (GetChar d) g = omega arith
    at (PutChar d s) g = omega arith

few_in_blocks : (bs : List Block) → AllByRecursion IsBlock bs → blocks_arguments bs ≤ max_parameters * blocks_size bs
few_in_blocks [] h = omega arith
few_in_blocks (b ∷ bs) h =
    let x = few_arguments b.instrs h.0 in
    let y = few_in_blocks bs h.1 in
    let sizes : blocks_size (b ∷ bs) ≡ block_size b + blocks_size bs = sum_by-cons block_size b bs in
    let sums : blocks_arguments (b ∷ bs) ≡ block_arguments b + blocks_arguments bs = sum_by-cons block_arguments b bs in
    omega arith

pub bounded : (r : RoutineParts) → IsRoutine r → (1 ≤ length (compact r)) × (length (compact r) ≤ charge r) × (charge r ≤ 2 ^ 40)
bounded r h =
    let l = h.limits in
    let fit = blocks_fit r.blocks (blocks_size r.blocks) (omega arith) l.size l.instrs h.words.blocks in
    let words = summed_words r.arrays max_elements l.elements (omega arith) in
    let some = (spelled_short r.pid (omega (arith, l.pid))).0 in
    let head = all_short (head_numbers r) (omega (arith, l.pid), (omega (arith, l.params), (flag_word r.value, (omega (arith, l.regs), (h.words.entry, tt)))))
    in
    let count = (spelled_short (length r.arrays) (omega (arith, l.arrays))).1 in
    let arrays = all_short r.arrays words in
    let few = few_blocks r.blocks in
    let blocks_count = (spelled_short (length r.blocks) (omega (arith, l.size))).1 in
    let blocks = blocks_short r.blocks fit in
    let args = few_in_blocks r.blocks l.instrs in
    let whole = length-append (spelled_all (head_numbers r)) (counted spelled r.arrays ++ counted block_form r.blocks) in
    let first = length-append (spelled r.pid) (spelled_all (r.params ∷ flag r.value ∷ r.regs ∷ r.entry ∷ [])) in
    let lists = length-append (counted spelled r.arrays) (counted block_form r.blocks) in
    let one = length-append (spelled (length r.arrays)) (spelled_all r.arrays) in
    let two = length-append (spelled (length r.blocks)) (forms block_form r.blocks) in
    (omega arith, omega (arith, l.arrays), omega (arith, l.arrays, l.size))
