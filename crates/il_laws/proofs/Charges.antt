-- The size and the charge as totals of weights.
use Rattle.std.proofs.Common.{◌≡◌, ℕ, suc, ◌+◌, ◌*◌, ◌≤◌, List, [], ◌∷◌, Bool, true, false, refl, ap, arith, length}
use Rattle.std.specs.Prelude.{Option, Some, None, sum_by, if◌then◌else◌}
use Rattle.std.proofs.lemmas.List.{length-append}
use Rattle.std.proofs.lemmas.List.Sums.{sum_by-cons, sum_by-append}
use Rattle.il_core.specs.declared.instr.Block.{Block}
use Rattle.il_core.specs.declared.instr.Instr.{Instr}
use Rattle.il_core.specs.declared.instr.Instr.TheVariants.{Const, Move, Conv, Bin, Get, Set, GetX, SetX, GetA, SetA, Clear, Turn, Call, GetChar, PutChar}
use Rattle.il_core.specs.Routine.{RoutineParts}
use Rattle.il_core.specs.Size.{block_size, blocks_size, arguments, block_arguments, blocks_arguments}
use Rattle.il_laws.specs.Facts.{Facts, gives, after}
use Rattle.il_laws.specs.Propagate.{constant, propagated, propagated_all, propagate, fold_branches}
use Rattle.il_laws.specs.Live.{Live, is_dead, live_through, alive, drop_dead_writes}
use Rattle.il_laws.specs.Unreachable.{drop_unreachable}
use Rattle.il_laws.specs.Merge.{merge_blocks}
use Rattle.il_laws.specs.Simplify.{one_round, simplify}
use Rattle.il_laws.specs.SimplifyLaws.{NoLarger, GetsNoLarger}
use Rattle.il_laws.proofs.Sizes.{IsWeight, total, propagate_total, fold_total, unreachable_total, dead_total, merge_blocks_total}

-- constants take no arguments
constant_arguments : (i : Instr) (d : ℕ) (o : Option ℕ) → arguments i ≡ 0 → arguments (constant i d o) ≡ 0
constant_arguments i d None e = e
constant_arguments i d (Some v) e = refl

same_arguments : (fs : Facts) (i : Instr) → arguments (propagated fs i) ≡ arguments i
same_arguments fs (Move d s) = constant_arguments (Move d s) d (gives fs (Move d s)) refl
same_arguments fs (Conv d t s) = constant_arguments (Conv d t s) d (gives fs (Conv d t s)) refl
same_arguments fs (Bin o d a b) = constant_arguments (Bin o d a b) d (gives fs (Bin o d a b)) refl
same_arguments fs (Const d v) = refl
same_arguments fs (Get d g) = refl
same_arguments fs (Set g s) = refl
same_arguments fs (GetX d g i) = refl
same_arguments fs (SetX g i s) = refl
same_arguments fs (GetA d a i) = refl
same_arguments fs (SetA a i s) = refl
same_arguments fs (Clear r c a m) = refl
same_arguments fs Turn = refl
same_arguments fs (Call dest p count args) = refl
same_arguments fs (GetChar d) = refl
same_arguments fs (PutChar d s) = refl

constants_length : (fs : Facts) (is : List Instr) → length (propagated_all fs is) ≡ length is
constants_length fs [] = refl
constants_length fs (i ∷ is) = ap suc (constants_length (after i fs) is)

constants_arguments : (fs : Facts) (is : List Instr) → sum_by arguments (propagated_all fs is) ≡ sum_by arguments is
constants_arguments fs [] = refl
constants_arguments fs (i ∷ is) =
    let new = sum_by-cons arguments (propagated fs i) (propagated_all (after i fs) is) in
    let old = sum_by-cons arguments i is in
    let same = same_arguments fs i in
    let rest = constants_arguments (after i fs) is in
    omega arith

-- fewer instructions, with fewer arguments
record Fewer (is js : List Instr) : Type 0 where
  many : length js ≤ length is
  given : sum_by arguments js ≤ sum_by arguments is

fewer_if : (k : Bool) (i : Instr) (is js : List Instr) → Fewer is js → Fewer (i ∷ is) (if k then js else i ∷ js)
fewer_if true i is js h =
    let many = h.many in
    let given = h.given in
    let old = sum_by-cons arguments i is in
    record { many = omega arith; given = omega arith }
fewer_if false i is js h =
    let many = h.many in
    let given = h.given in
    let old = sum_by-cons arguments i is in
    let new = sum_by-cons arguments i js in
    record { many = omega arith; given = omega arith }

fewer_alive : (is : List Instr) (live : Live) → Fewer is (alive is live)
fewer_alive [] live = record { many = omega arith; given = omega arith }
fewer_alive (i ∷ is) live = fewer_if (is_dead i (live_through is live)) i is (alive is live) (fewer_alive is live)

-- in the size an instruction counts 1 and a block 1; in the charge an instruction 32, an argument 8, and a block 48
abbrev in_charge : List Instr → ℕ
in_charge is = 32 * length is + 8 * sum_by arguments is

size_weight : IsWeight length
size_weight = record {
  append = λ is js. (let sum = length-append is js in omega arith);
  constants = λ fs is. (let same = constants_length fs is in omega arith);
  kept = λ is live. (fewer_alive is live).many;
}

charge_weight : IsWeight in_charge
charge_weight = record {
  append = λ is js. (let sum = length-append is js in let sum1 = sum_by-append arguments is js in omega arith);
  constants = λ fs is. (let same = constants_length fs is in let same1 = constants_arguments fs is in omega arith);
  kept = λ is live. (let many = (fewer_alive is live).many in let given = (fewer_alive is live).given in omega arith);
}

in_all : (bs : List Block) → 16 * length bs + 32 * blocks_size bs + 8 * blocks_arguments bs ≡ total in_charge 48 charge_weight bs
in_all [] = refl
in_all (x ∷ xs) =
    let sizes = sum_by-cons block_size x xs in
    let given = sum_by-cons block_arguments x xs in
    let new = sum_by-cons (λ (y : Block). in_charge y.instrs + 48) x xs in
    let rest = in_all xs in
    omega arith

no_larger : (r : RoutineParts) (bs : List Block) → total length 1 size_weight bs ≤ total length 1 size_weight r.blocks
    → total in_charge 48 charge_weight bs ≤ total in_charge 48 charge_weight r.blocks → NoLarger r (record r { blocks = bs })
no_larger r bs less less1 =
    let old = in_all r.blocks in
    let new = in_all bs in
    record { size = less; charge = omega arith; regs = refl }

pub propagate_no_larger : GetsNoLarger propagate
propagate_no_larger r =
    no_larger r (propagate r).blocks (propagate_total length 1 size_weight r) (propagate_total in_charge 48 charge_weight r)

pub fold_no_larger : GetsNoLarger fold_branches
fold_no_larger r =
    no_larger r (fold_branches r).blocks (fold_total length 1 size_weight r) (fold_total in_charge 48 charge_weight r)

pub unreachable_no_larger : GetsNoLarger drop_unreachable
unreachable_no_larger r =
    no_larger r (drop_unreachable r).blocks (unreachable_total length 1 size_weight r) (unreachable_total in_charge 48 charge_weight r)

pub dead_no_larger : GetsNoLarger drop_dead_writes
dead_no_larger r =
    no_larger r (drop_dead_writes r).blocks (dead_total length 1 size_weight r) (dead_total in_charge 48 charge_weight r)

pub merge_no_larger : GetsNoLarger merge_blocks
merge_no_larger r =
    no_larger r (merge_blocks r).blocks (merge_blocks_total length 1 size_weight r) (merge_blocks_total in_charge 48 charge_weight r)

then_no_larger : (r r1 r2 : RoutineParts) → NoLarger r r1 → NoLarger r1 r2 → NoLarger r r2
then_no_larger r r1 r2 a b =
    let size1 = a.size in
    let size2 = b.size in
    let charge1 = a.charge in
    let charge2 = b.charge in
    let regs1 = a.regs in
    let regs2 = b.regs in
    record { size = omega arith; charge = omega arith; regs = omega arith }

round_no_larger : GetsNoLarger one_round
round_no_larger r =
    let r1 = propagate r in
    let r2 = fold_branches r1 in
    let r3 = drop_unreachable r2 in
    let r4 = drop_dead_writes r3 in
    then_no_larger r r1 (one_round r) (propagate_no_larger r)
    (then_no_larger r1 r2 (one_round r) (fold_no_larger r1)
    (then_no_larger r2 r3 (one_round r) (unreachable_no_larger r2)
    (then_no_larger r3 r4 (one_round r) (dead_no_larger r3) (merge_no_larger r4))))

pub simplify_no_larger : GetsNoLarger simplify
simplify_no_larger r =
    let r1 = one_round r in
    let r2 = one_round r1 in
    let r3 = one_round r2 in
    then_no_larger r r1 (simplify r) (round_no_larger r)
    (then_no_larger r1 r2 (simplify r) (round_no_larger r1) (then_no_larger r2 r3 (simplify r) (round_no_larger r2) (round_no_larger r3)))
