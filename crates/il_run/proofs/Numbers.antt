-- The numbers of sites, one instruction, block or routine after another.
use Rattle.std.proofs.Common.{◌≡◌, ℕ, zero, suc, ◌+◌, ◌<◌, ◌≤◌, List, [], ◌∷◌, ◌++◌, length, take, drop, get_or, refl, ap, subst, sym, ◌∙◌, arith, inl}
use Rattle.std.proofs.Common.{inr, append_assoc, drop-cons, length-append}
use Rattle.std.specs.Prelude.{slice_index, slice_index_or}
use Rattle.std.proofs.lemmas.Bool.{cases_eq}
use Rattle.std.proofs.lemmas.List.{take_all, drop_all, append-nil, get_or_append_left, get_or-append-add, get_or_read, get_or_push, length_push}
use Rattle.std.proofs.lemmas.List.Sums.{sum_by-cons, sum_by-take-le}
use Rattle.il_core.specs.declared.instr.Block.{Block}
use Rattle.il_core.specs.declared.instr.Instr.{Instr}
use Rattle.il_core.specs.declared.instr.Instr.TheVariants as instr
use Rattle.il_core.specs.declared.instr.End.TheVariants as ends
use Rattle.il_core.specs.declared.program.IlProgram.{IlProgram}
use Rattle.il_core.specs.Routine.{RoutineParts}
use Rattle.il_core.specs.Size.{block_size, blocks_size}
use Rattle.il_core.specs.Meaning.{sites_in, sites_of}
use Rattle.il_run.specs.declared.numbering.Numbering.{Numbering}
use Rattle.il_core.specs.Places.{sites_before}
use Rattle.il_run.specs.declared.counter.Counter.{Counter}
use Rattle.il_run.specs.Counts.{HasShape, IsCounter, IsNumbered, AreNumbered, numbers_in, sites_of_blocks}
use Rattle.il_run.specs.Machine.{routine_of}
use Rattle.il_core.proofs.Places.{sites_take}

drop_read : {X : Type 0} (xs : List X) (i : ℕ) (x : X) → i < length xs → x ≡ get_or xs i x → drop i xs ≡ x ∷ drop (suc i) xs
drop_read xs i x lt is = drop-cons xs i x lt ∙ ap (λ y. y ∷ drop (suc i) xs) (sym is)

suc_is : (n : ℕ) → suc n ≡ n + 1
suc_is n = omega arith

-- how many sites the first instructions have
pub sites_more : (is : List Instr) (j : ℕ) (i : Instr) (n s : ℕ) → j < length is → i ≡ get_or is j i → n ≡ sites_of (take j is) → s ≡ sites_in i
    → n + s ≡ sites_of (take (j + 1) is)
sites_more is j i n s lt read e h =
    let more : sites_of (take (suc j) is) ≡ sites_of (take j is) + sites_in i = sites_take is j i (drop_read is j i lt read) in
    let sum : n + s ≡ sites_of (take j is) + sites_in i = omega (arith, e, h) in
    sum ∙ sym more ∙ ap (λ (k : ℕ). sites_of (take k is)) (suc_is j)

pub sites_all : (is : List Instr) (j : ℕ) → length is ≤ j → sites_of (take j is) ≡ sites_of is
sites_all is j le = ap sites_of (take_all j is le)

site_once : (i : Instr) → sites_in i ≤ 1
site_once (instr.Call dest q count args) = omega arith
site_once _ = omega arith

sites_length : (is : List Instr) → sites_of is ≤ length is
sites_length [] = omega arith
sites_length (i ∷ is) = let more = sites_length is in omega (arith, more, site_once i)

-- and the first blocks
blocks_take : (xs : List Block) (j : ℕ) (x : Block) → drop j xs ≡ x ∷ drop (suc j) xs
    → sites_of_blocks (take (suc j) xs) ≡ sites_of_blocks (take j xs) + sites_of x.instrs
blocks_take [] zero x e = cc
blocks_take [] (suc j) x e = cc
blocks_take (y ∷ xs) zero x e = let same : y ≡ x = cc in ap (λ (z : Block). sites_of z.instrs + 0) same ∙ omega arith
blocks_take (y ∷ xs) (suc j) x e = let more = blocks_take xs j x e in omega (arith, more)

pub blocks_more : (xs : List Block) (j : ℕ) (x : Block) (n s : ℕ) (is : List Instr) → j < length xs → x ≡ get_or xs j x → n ≡ sites_of_blocks (take j xs)
    → s ≡ sites_of is → is ≡ x.instrs → n + s ≡ sites_of_blocks (take (j + 1) xs)
blocks_more xs j x n s is lt read e h same =
    let more : sites_of_blocks (take (suc j) xs) ≡ sites_of_blocks (take j xs) + sites_of x.instrs = blocks_take xs j x (drop_read xs j x lt read) in
    let sum : n + s ≡ sites_of_blocks (take j xs) + sites_of x.instrs = omega (arith, e, h ∙ ap sites_of same) in
    sum ∙ sym more ∙ ap (λ (k : ℕ). sites_of_blocks (take k xs)) (suc_is j)

pub blocks_all : (xs : List Block) (j : ℕ) → length xs ≤ j → sites_of_blocks (take j xs) ≡ sites_of_blocks xs
blocks_all xs j le = ap sites_of_blocks (take_all j xs le)

blocks_length : (xs : List Block) → sites_of_blocks xs ≤ blocks_size xs
blocks_length [] = omega arith
blocks_length (x ∷ xs) = let more = blocks_length xs in omega (arith, more, sites_length x.instrs, sum_by-cons block_size x xs)

pub blocks_few : (xs : List Block) (j : ℕ) (x : Block) (n s : ℕ) (is : List Instr) → j < length xs → x ≡ get_or xs j x → n ≡ sites_of_blocks (take j xs)
    → s ≡ sites_of is → is ≡ x.instrs → n + s ≤ blocks_size xs
blocks_few xs j x n s is lt read e h same = omega (
  arith,
  blocks_more xs j x n s is lt read e h same,
  blocks_length (take (j + 1) xs),
  sum_by-take-le block_size
      xs (j + 1),
)

-- the number behind an instruction
pub next_more : (is : List Instr) (j : ℕ) (i : Instr) (first n s : ℕ) → j < length is → i ≡ get_or is j i → n ≡ sites_of (take j is) + first → s ≡ sites_in i
    → n + s ≡ sites_of (take (j + 1) is) + first
next_more is j i first n s lt read e h = let more = sites_more is j i (sites_of (take j is)) s lt read refl h in omega (arith, e, more)

pub next_all : (is : List Instr) (j first : ℕ) → length is ≤ j → sites_of (take j is) + first ≡ sites_of is + first
next_all is j first le = ap (λ (k : ℕ). k + first) (sites_all is j le)

pub numbers_more : (is : List Instr) (j : ℕ) (i : Instr) (n s : ℕ) (numbers now whole : List ℕ) → j < length is → i ≡ get_or is j i → s ≡ sites_in i
    → now ≡ numbers ++ n ∷ [] → numbers ++ numbers_in n (drop j is) ≡ whole → now ++ numbers_in (n + s) (drop (j + 1) is) ≡ whole
numbers_more is j i n s numbers now whole lt read h push e =
    let count : n + s ≡ sites_in i + n = omega (arith, h) in
    ap (λ (xs : List ℕ). xs ++ numbers_in (n + s) (drop (j + 1) is)) push
    ∙ append_assoc numbers (n ∷ []) (numbers_in (n + s) (drop (j + 1) is))
    ∙ ap (λ (k : ℕ). numbers ++ n ∷ numbers_in k (drop (j + 1) is)) count
    ∙ ap (λ (k : ℕ). numbers ++ n ∷ numbers_in (sites_in i + n) (drop k is)) (sym (suc_is j))
    ∙ ap (λ (ys : List Instr). numbers ++ numbers_in n ys) (sym (drop_read is j i lt read))
    ∙ e

pub numbers_done : (is : List Instr) (j n : ℕ) (numbers whole : List ℕ) → length is ≤ j → numbers ++ numbers_in n (drop j is) ≡ whole → numbers ≡ whole
numbers_done is j n numbers whole le e = sym (append-nil numbers) ∙ ap (λ (ys : List Instr). numbers ++ numbers_in n ys) (sym (drop_all j is le)) ∙ e

-- what the numbers of instructions are
numbers_length : (k : ℕ) (is : List Instr) → length (numbers_in k is) ≡ length is
numbers_length k [] = refl
numbers_length k (i ∷ is) = ap suc (numbers_length (sites_in i + k) is)

numbers_at : (k : ℕ) (is : List Instr) (j : ℕ) → j < length is → slice_index (numbers_in k is) j ≡ sites_of (take j is) + k
numbers_at k [] j lt = absurd (omega arith)
numbers_at k (i ∷ is) zero lt = omega arith
numbers_at k (i ∷ is) (suc j) lt = let more = numbers_at (sites_in i + k) is j (omega arith) in omega (arith, more)

before_step : (xs : List Block) (b k : ℕ) (x : Block) → drop b xs ≡ x ∷ drop (suc b) xs → sites_before xs (suc b) k ≡ sites_of x.instrs + sites_before xs b k
before_step [] zero k x e = cc
before_step [] (suc b) k x e = cc
before_step (y ∷ xs) zero k x e = let same : y ≡ x = cc in ap (λ (z : Block). sites_of z.instrs + k) same
before_step (y ∷ xs) (suc b) k x e = before_step xs b (sites_of y.instrs + k) x e

before_few : (xs : List Block) (b k : ℕ) (x : Block) → drop b xs ≡ x ∷ drop (suc b) xs → sites_before xs b k + length x.instrs ≤ k + blocks_size xs
before_few [] zero k x e = cc
before_few [] (suc b) k x e = cc
before_few (y ∷ xs) zero k x e = let same : length y.instrs ≡ length x.instrs = ap (λ (z : Block). length z.instrs) (let s : y ≡ x = cc in s)
    in omega (arith, same, sum_by-cons block_size y xs)
before_few (y ∷ xs) (suc b) k x e = let more = before_few xs b (sites_of y.instrs + k) x e
    in omega (arith, more, sites_length y.instrs, sum_by-cons block_size y xs)

pub number_fits : (xs : List Block) (b next : ℕ) (x : Block) (is : List Instr) → b < length xs → x ≡ get_or xs b x → is ≡ x.instrs → next ≡ sites_before xs b 0
    → next + length is ≤ blocks_size xs
number_fits xs b next x is lt read same e = omega (arith, e, ap length same, before_few xs b 0 x (drop_read xs b x lt read))

abbrev block_at : List Block → ℕ → Block
block_at xs b = slice_index_or xs b (record { instrs = []; end = ends.Exit 0 })

-- the numbers of the first blocks
pub record NumberedTo (xs : List Block) (k : ℕ) (starts numbers : List ℕ) (behind : ℕ) : Type 0 where
  pub count : length starts ≡ k
  pub within : (b j : ℕ) → b < k → j < length (block_at xs b).instrs → slice_index starts b + j < length numbers
  pub number : (b j : ℕ) → b < k → j < length (block_at xs b).instrs
      → slice_index numbers (slice_index starts b + j) ≡ sites_of (take j (block_at xs b).instrs) + sites_before xs b 0
  pub next : behind ≡ sites_before xs k 0

pub numbered_none : (xs : List Block) (starts numbers : List ℕ) → starts ≡ [] → NumberedTo xs 0 starts numbers 0
numbered_none xs starts numbers e = record {
  count = ap length e;
  within = λ b j lt l. absurd (omega arith);
  number = λ b j lt l. absurd (omega arith);
  next =
      refl;
}

module _ (xs : List Block) (k : ℕ) (x : Block) (is : List Instr) (starts starts_now numbers numbers_now : List ℕ) (at next next_now : ℕ) (lt : k < length xs)
    (read : x ≡ get_or xs k x) (same : is ≡ x.instrs)
    (is_at : at ≡ length numbers) (start : starts_now ≡ starts ++ at ∷ []) (added : numbers_now ≡ numbers ++ numbers_in next is)
    (behind : next_now ≡ sites_of is + next) (h : NumberedTo xs k starts numbers next) where
  here : (block_at xs k).instrs ≡ is
  here = ap (λ (y : Block). y.instrs) (sym (get_or_read xs k x lt read _)) ∙ sym same

  long : length numbers_now ≡ length numbers + length is
  long = ap length added ∙ length-append numbers (numbers_in next is) ∙ ap (λ (n : ℕ). length numbers + n) (numbers_length next is)

  start_here : slice_index starts_now k ≡ length numbers
  start_here = ap (λ (ys : List ℕ). slice_index ys k) start ∙ get_or_push starts at 0 k h.count ∙ is_at

  start_there : (b : ℕ) → b < k → slice_index starts_now b ≡ slice_index starts b
  start_there b l = ap (λ (ys : List ℕ). slice_index ys b) start ∙ get_or_append_left starts (at ∷ []) 0 b (omega (arith, h.count))

  within_now : (b j : ℕ) → b < k + 1 → j < length (block_at xs b).instrs → slice_index starts_now b + j < length numbers_now
  within_now b j l lj = elim (cases_eq b k) [
    | inl e ↦ omega (arith, long, start_here, ap (λ (n : ℕ). slice_index starts_now n) e, ap (λ (n : ℕ). length (block_at xs n).instrs) e, ap length here)
    | inr ne ↦ omega (arith, long, start_there b (omega arith), h.within b j (omega arith) lj)
  ]

  number_here : (j : ℕ) → j < length is
      → slice_index numbers_now (slice_index starts_now k + j) ≡ sites_of (take j (block_at xs k).instrs) + sites_before xs k 0
  number_here j lj =
      ap (λ (n : ℕ). slice_index numbers_now (n + j)) start_here
      ∙ ap (λ (ys : List ℕ). slice_index ys (length numbers + j)) added
      ∙ get_or-append-add numbers (numbers_in next is) j 0
      ∙ numbers_at next is j lj
      ∙ (λ i. sites_of (take j (sym here i)) + h.next i)

  number_there : (b j : ℕ) → b < k → j < length (block_at xs b).instrs
      → slice_index numbers_now (slice_index starts_now b + j) ≡ sites_of (take j (block_at xs b).instrs) + sites_before xs b 0
  number_there b j l lj =
      ap (λ (n : ℕ). slice_index numbers_now (n + j)) (start_there b l)
      ∙ ap (λ (ys : List ℕ). slice_index ys (slice_index starts b + j)) added
      ∙ get_or_append_left numbers (numbers_in next is) 0 (slice_index starts b + j) (h.within b j l lj)
      ∙ h.number b j l lj

  number_now : (b j : ℕ) → b < k + 1 → j < length (block_at xs b).instrs
      → slice_index numbers_now (slice_index starts_now b + j) ≡ sites_of (take j (block_at xs b).instrs) + sites_before xs b 0
  number_now b j l lj = elim (cases_eq b k) [
    | inl e ↦ subst (λ (n : ℕ). slice_index numbers_now (slice_index starts_now n + j) ≡ sites_of (take j (block_at xs n).instrs) + sites_before xs n 0) (sym e)
        (number_here j (omega (arith, ap (λ (n : ℕ). length (block_at xs n).instrs) e, ap length here)))
    | inr ne ↦ number_there b j (omega arith) lj
  ]

  -- one block more
  pub numbered_more : NumberedTo xs (k + 1) starts_now numbers_now next_now
  numbered_more = record {
    count = ap length start ∙ length_push starts at ∙ ap (λ (n : ℕ). n + 1) h.count;
    within = within_now;
    number = number_now;
    next = behind ∙ ap (λ (ys : List Instr). sites_of ys + next) same ∙ ap (λ (n : ℕ). sites_of x.instrs + n) h.next ∙ sym
        (before_step xs k 0 x (drop_read xs k x lt read)) ∙ ap (λ (n : ℕ). sites_before xs n 0) (suc_is k);
  }

-- all blocks
pub numbered_all : (r : RoutineParts) (xs : List Block) (k : ℕ) (n : Numbering) (next : ℕ) → xs ≡ r.blocks → length xs ≤ k → k ≤ length xs
    → NumberedTo xs k n.starts.items n.numbers.items next → IsNumbered r n
numbered_all r xs k n next e le ge h =
    let whole : NumberedTo r.blocks k n.starts.items n.numbers.items next = subst (λ (ys : List Block). NumberedTo ys k n.starts.items n.numbers.items next) e h
    in
    record {
      count = omega (arith, whole.count, ap length e);
      within = λ b j lt lj. whole.within b j (omega (arith, ap length e)) lj;
      number = λ b j lt lj. whole.number b j (omega (arith, ap length e)) lj;
    }

-- the first routines
pub record AllNumberedTo (rs : List RoutineParts) (k : ℕ) (ns : List Numbering) : Type 0 where
  pub count : length ns ≡ k
  pub each : (i : ℕ) (n : Numbering) → i < k → n ≡ get_or ns i n → IsNumbered (routine_of rs i) n

pub routine_more : (rs : List RoutineParts) (k : ℕ) (r : RoutineParts) (ns now : List Numbering) (x : Numbering) → k < length rs → r ≡ get_or rs k r
    → AllNumberedTo rs k ns → now ≡ ns ++ x ∷ [] → IsNumbered r x → AllNumberedTo rs (k + 1) now
routine_more rs k r ns now x lt read h e is = record {
  count = ap length e ∙ length_push ns x ∙ ap (λ (n : ℕ). n + 1) h.count;
  each = λ i n l at.
      let here : n ≡ get_or (ns ++ x ∷ []) i n = at ∙ ap (λ (ys : List Numbering). get_or ys i n) e in
      elim (cases_eq i k) [
        | inl same ↦ (
            let it : n ≡ x = here ∙ ap (λ (j : ℕ). get_or (ns ++ x ∷ []) j n) same ∙ get_or_push ns x n k h.count in
            let routine : r ≡ routine_of rs i = get_or_read rs k r lt read _ ∙ ap (λ (j : ℕ). routine_of rs j) (sym same) in
            subst (λ (y : Numbering). IsNumbered (routine_of rs i) y) (sym it) (subst (λ (y : RoutineParts). IsNumbered y x) routine is))
        | inr ne ↦ h.each i n (omega arith) (here ∙ get_or_append_left ns (x ∷ []) n i (omega (arith, h.count)))
      ];
}

-- a counter with the numbers of a program
pub counter_ready : (p : IlProgram) (rs : List RoutineParts) (c : Counter) → rs ≡ p.routines → AreNumbered rs c.numbers.items → HasShape p c.counts
    → IsCounter p c
counter_ready p rs c e h shape = record {
  count = h.count ∙ ap length e;
  each = λ i n lt at. subst (λ (xs : List RoutineParts). IsNumbered (routine_of xs i) n) e (h.each i n (omega (arith, ap length e)) at);
  shape = shape;
}
