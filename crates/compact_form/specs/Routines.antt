-- A whole routine is read from its compact form, and from nothing else.
use Rattle.std.proofs.Common.{◌≡◌, ℕ, ◌+◌, ◌<◌, ◌≤◌, ◌^◌, Bool, true, false, List, [], ◌∷◌, ◌++◌, length, Some, None, refl, sym, ◌∙◌, ap, subst, arith}
use Rattle.std.proofs.Common.{append-nil, append_assoc}
use Rattle.std.specs.Prelude.{◌==◌, ◌&&◌, nat_le, sum, if◌then◌else◌}
use Rattle.std.specs.List.{AllByRecursion}
use Rattle.std.proofs.lemmas.Bool.{lt-ltb, ltb-true, le-leb, leb-true, eqb-true}
use Rattle.std.proofs.lemmas.List.Sums.{sum_by-cons}
use Rattle.il_core.specs.declared.instr.Block.{Block}
use Rattle.il_core.specs.declared.instr.Instr.{Instr}
use Rattle.il_core.specs.Limits.{IsBlock, IsInstr, IsWithinLimits, max_arrays, max_elements, max_parameters, max_pids, max_registers, max_size}
use Rattle.il_core.specs.Ranges.{AreWords, numbers_of, IsBlockOfWords}
use Rattle.il_core.specs.Routine.{RoutineParts}
use Rattle.il_core.specs.Size.{block_size, blocks_size, size}
use Rattle.compact_form.specs.Numbers.{spelled, spelled_all}
use Rattle.compact_form.specs.Compact.{counted, block_form, flag, compact, IsRoutine}
use Rattle.compact_form.specs.Reading.{Reply, goes, read_number, read_pair, read_triple, read_counted, with_some, kept, is_pid, read_block, flag_at}
use Rattle.compact_form.specs.Reading.{is_within, read_lists, read_routine}
use Rattle.compact_form.specs.Lists.{same_reply, goes_back, kept_back, Reads, reads_number, reads_counted}
use Rattle.compact_form.specs.Forms.{two_form, three_form, reads_pair, reads_triple, with_back, Fits, BlockFits, reads_block}

-- ---- from the limits of a routine to those of its parts

instrs_fit : (is : List Instr) → AllByRecursion IsInstr is → AllByRecursion (λ i. AreWords (numbers_of i)) is → AllByRecursion Fits is
instrs_fit [] h g = tt
instrs_fit (i ∷ is) h g = ((h.0, g.0), instrs_fit is h.1 g.1)

pub blocks_fit : (bs : List Block) (n : ℕ) → blocks_size bs ≤ n → n ≤ max_size → AllByRecursion IsBlock bs → AllByRecursion IsBlockOfWords bs
    → AllByRecursion BlockFits bs
blocks_fit [] n le small h g = tt
blocks_fit (b ∷ bs) n le small h g =
    let sizes : blocks_size (b ∷ bs) ≡ (length b.instrs + 1) + blocks_size bs = sum_by-cons block_size b bs in
    (((instrs_fit b.instrs h.0 g.0.0, omega arith), g.0.1), blocks_fit bs n (omega arith) small h.1 g.1)

pub small_blocks : (bs : List Block) → blocks_size bs ≤ max_size → AllByRecursion (λ b. length b.instrs ≤ max_size) bs
small_blocks [] le = tt
small_blocks (b ∷ bs) le =
    let sizes : blocks_size (b ∷ bs) ≡ (length b.instrs + 1) + blocks_size bs = sum_by-cons block_size b bs in
    (omega arith, small_blocks bs (omega arith))

pub few_blocks : (bs : List Block) → length bs ≤ blocks_size bs
few_blocks [] = omega arith
few_blocks (b ∷ bs) =
    let sizes : blocks_size (b ∷ bs) ≡ (length b.instrs + 1) + blocks_size bs = sum_by-cons block_size b bs in
    let others = few_blocks bs in omega arith

pub summed_words : (ns : List ℕ) (n : ℕ) → sum ns ≤ n → n < 2 ^ 32 → AreWords ns
summed_words [] n le lt = tt
summed_words (m ∷ ns) n le lt =
    let sums : sum (m ∷ ns) ≡ m + sum ns = sum_by-cons (λ x. x) m ns in
    (omega arith, summed_words ns n (omega arith) lt)

instrs_back : (is : List Instr) → AllByRecursion Fits is → AllByRecursion IsInstr is × AllByRecursion (λ i. AreWords (numbers_of i)) is
instrs_back [] h = (tt, tt)
instrs_back (i ∷ is) h = let x = instrs_back is h.1 in ((h.0.0, x.0), (h.0.1, x.1))

blocks_back : (bs : List Block) → AllByRecursion BlockFits bs → AllByRecursion IsBlock bs × AllByRecursion IsBlockOfWords bs
blocks_back [] h = (tt, tt)
blocks_back (b ∷ bs) h =
    let x = instrs_back b.instrs h.0.0.0 in
    let y = blocks_back bs h.1 in
    ((x.0, y.0), ((x.1, h.0.1), y.1))

-- ---- tests

both : (p q : Bool) → p ≡ true → q ≡ true → (p && q) ≡ true
both p q h g = rw (h, g) refl

both_back : (p q : Bool) → (p && q) ≡ true → (p ≡ true) × (q ≡ true)
both_back true q h = (refl, h)
both_back false q h = absurd (cc)

within_true : (r : RoutineParts) → IsWithinLimits r → is_within r ≡ true
within_true r h =
    both _ _ (both _ _ (lt-ltb r.pid max_pids h.pid) (le-leb r.params max_parameters h.params))
    (both _ _ (le-leb r.regs max_registers h.regs) (both _ _ (le-leb (sum r.arrays) max_elements h.elements) (le-leb (size r) max_size h.size)))

within_limits : (r : RoutineParts) → is_within r ≡ true → length r.arrays ≤ max_arrays → AllByRecursion IsBlock r.blocks → IsWithinLimits r
within_limits r h few blocks =
    let a = both_back (is_pid r.pid && nat_le r.params max_parameters)
    (nat_le r.regs max_registers && (nat_le (sum r.arrays) max_elements && nat_le (size r) max_size)) h in
    let b = both_back (is_pid r.pid) (nat_le r.params max_parameters) a.0 in
    let c = both_back (nat_le r.regs max_registers) (nat_le (sum r.arrays) max_elements && nat_le (size r) max_size) a.1 in
    let d = both_back (nat_le (sum r.arrays) max_elements) (nat_le (size r) max_size) c.1 in
    record {
      pid = ltb-true r.pid max_pids b.0;
      params = leb-true r.params max_parameters b.1;
      regs = leb-true r.regs max_registers c.0;
      arrays = few;
      elements = leb-true (sum r.arrays) max_elements d.0;
      size = leb-true (size r) max_size d.1;
      instrs = blocks;
    }

flag_there : (b : Bool) → flag_at (flag b) ≡ Some b
flag_there true = refl
flag_there false = refl

pub flag_word : (b : Bool) → flag b < 2 ^ 32
flag_word true = omega arith
flag_word false = omega arith

flag_back : (n : ℕ) (b : Bool) → flag_at n ≡ Some b → flag b ≡ n
flag_back n b h = at (n == 0) (n == 1) refl refl h
  where
    at : (t u : Bool) → (n == 0) ≡ t → (n == 1) ≡ u → (if t then Some false else (if u then Some true else None)) ≡ Some b → flag b ≡ n
    at true u is also g = let same : false ≡ b = cc g in ap flag (sym same) ∙ sym (eqb-true n 0 is)
    at false true is also g = let same : true ≡ b = cc g in ap flag (sym same) ∙ sym (eqb-true n 1 also)
    at false false is also g = absurd (cc)

-- ---- a routine

abbrev parts_of : ℕ × ℕ × ℕ → ℕ × ℕ → Bool → List ℕ → List Block → RoutineParts
parts_of x y value arrays blocks = record { pid = x.0; params = x.1; value = value; regs = y.0; entry = y.1; arrays = arrays; blocks = blocks }

abbrev blocks_go : ℕ × ℕ × ℕ → ℕ × ℕ → Bool → List ℕ → List Block → List ℕ → Reply RoutineParts
blocks_go x y value arrays blocks s = kept (is_within (parts_of x y value arrays blocks)) (parts_of x y value arrays blocks) s

abbrev arrays_go : ℕ × ℕ × ℕ → ℕ × ℕ → Bool → List ℕ → List ℕ → Reply RoutineParts
arrays_go x y value arrays r = goes (read_counted read_block max_size r) (λ blocks s. blocks_go x y value arrays blocks s)

abbrev pair_go : ℕ × ℕ × ℕ → ℕ × ℕ → List ℕ → Reply RoutineParts
pair_go x y s = with_some (flag_at x.2) (λ value. read_lists x y value s)

abbrev triple_go : ℕ × ℕ × ℕ → List ℕ → Reply RoutineParts
triple_go x r = goes (read_pair r) (λ y s. pair_go x y s)

reads_arrays : Reads (read_counted read_number max_arrays) (counted spelled) (λ ns. AreWords ns × (length ns ≤ max_arrays))
reads_arrays = reads_counted read_number spelled (λ n. n < 2 ^ 32) reads_number max_arrays (omega arith)

reads_blocks : Reads (read_counted read_block max_size) (counted block_form) (λ bs. AllByRecursion BlockFits bs × (length bs ≤ max_size))
reads_blocks = reads_counted read_block block_form BlockFits reads_block max_size (omega arith)

head_row : (a b c d e : ℕ) (tail rest : List ℕ)
    → three_form (a, b, c) ++ (two_form (d, e) ++ (tail ++ rest)) ≡ (spelled_all (a ∷ b ∷ c ∷ d ∷ e ∷ []) ++ tail) ++ rest
head_row a b c d e tail rest = simp append_assoc

lists_complete : (r : RoutineParts) (rest : List ℕ) → IsRoutine r
    → read_lists (r.pid, r.params, flag r.value) (r.regs, r.entry) r.value ((counted spelled r.arrays ++ counted block_form r.blocks) ++ rest) ≡ Some (r, rest)
lists_complete r rest h =
    let x : ℕ × ℕ × ℕ = (r.pid, r.params, flag r.value) in
    let y : ℕ × ℕ = (r.regs, r.entry) in
    let l = h.limits in
    let w = h.words in
    let fit = blocks_fit r.blocks (size r) (omega arith) l.size l.instrs w.blocks in
    let count = few_blocks r.blocks in
    ap (λ bs. read_lists x y r.value bs) (append_assoc (counted spelled r.arrays) (counted block_form r.blocks) rest)
    ∙ ap (λ z. goes z (arrays_go x y r.value)) (reads_arrays.complete r.arrays (counted block_form r.blocks ++ rest)
    (summed_words r.arrays max_elements l.elements (omega arith), l.arrays))
    ∙ ap (λ z. goes z (blocks_go x y r.value r.arrays)) (reads_blocks.complete r.blocks rest (fit, omega arith))
    ∙ ap (λ b. kept b r rest) (within_true r l)

pub routine_complete : (r : RoutineParts) (rest : List ℕ) → IsRoutine r → read_routine (compact r ++ rest) ≡ Some (r, rest)
routine_complete r rest h =
    let x : ℕ × ℕ × ℕ = (r.pid, r.params, flag r.value) in
    let y : ℕ × ℕ = (r.regs, r.entry) in
    let l = h.limits in
    let tail = counted spelled r.arrays ++ counted block_form r.blocks in
    ap read_routine (sym (head_row r.pid r.params (flag r.value) r.regs r.entry tail rest))
    ∙ ap (λ z. goes z triple_go) (reads_triple.complete x (two_form y ++ (tail ++ rest)) (omega (arith, l.pid), omega (arith, l.params), flag_word r.value))
    ∙ ap (λ z. goes z (pair_go x)) (reads_pair.complete y (tail ++ rest) (omega (arith, l.regs), h.words.entry))
    ∙ ap (λ z. with_some z (λ value. read_lists x y value (tail ++ rest))) (flag_there r.value)
    ∙ lists_complete r rest h

pub routine_sound : (bs : List ℕ) (r : RoutineParts) (rest : List ℕ) → read_routine bs ≡ Some (r, rest) → (bs ≡ compact r ++ rest) × IsRoutine r
routine_sound bs r rest h =
    let a = goes_back (read_triple bs) triple_go (r, rest) h in
    let b = goes_back (read_pair a.1) (pair_go a.0) (r, rest) a.3 in
    let v = with_back (flag_at a.0.2) (λ value. read_lists a.0 b.0 value b.1) (r, rest) b.3 in
    let c = goes_back (read_counted read_number max_arrays b.1) (arrays_go a.0 b.0 v.0) (r, rest) v.2 in
    let d = goes_back (read_counted read_block max_size c.1) (blocks_go a.0 b.0 v.0 c.0) (r, rest) c.3 in
    let parts = parts_of a.0 b.0 v.0 c.0 d.0 in
    let k = kept_back (is_within parts) (Some (parts, d.1)) (r, rest) d.3 in
    let same = same_reply parts r d.1 rest k.1 in
    let one = reads_triple.sound bs a.0 a.1 a.2 in
    let two = reads_pair.sound a.1 b.0 b.1 b.2 in
    let three = reads_arrays.sound b.1 c.0 c.1 c.2 in
    let four = reads_blocks.sound c.1 d.0 d.1 d.2 in
    let inner = blocks_back d.0 four.1.0 in
    let tail = counted spelled c.0 ++ counted block_form d.0 in
    let lists : b.1 ≡ tail ++ rest = three.0 ∙ ap (λ l. counted spelled c.0 ++ l) (four.0 ∙ ap (λ l. counted block_form d.0 ++ l) same.1) ∙ sym
    (append_assoc (counted spelled c.0) (counted block_form d.0) rest) in
    let split : bs ≡ compact parts ++ rest =
    one.0 ∙ ap (λ l. three_form a.0 ++ l) (two.0 ∙ ap (λ l. two_form b.0 ++ l) lists)
    ∙ head_row a.0.0 a.0.1 a.0.2 b.0.0 b.0.1 tail rest
    ∙ ap (λ n. (spelled_all (a.0.0 ∷ a.0.1 ∷ n ∷ b.0.0 ∷ b.0.1 ∷ []) ++ tail) ++ rest) (sym (flag_back a.0.2 v.0 v.1)) in
    subst (λ q. (bs ≡ compact q ++ rest) × IsRoutine q) same.0 (
      split,
      record {
        limits = within_limits parts k.0 three.1.1 inner.0;
        words = record { entry = two.1.1; blocks = inner.1 };
      },
    )

pub reads_routine : Reads read_routine compact IsRoutine
reads_routine = record { complete = λ r rest h. routine_complete r rest h; sound = λ bs r rest h. routine_sound bs r rest h }

-- ---- whole forms

pub one_form : (q r : RoutineParts) → IsRoutine q → IsRoutine r → compact q ≡ compact r → q ≡ r
one_form q r h g e =
    let left : read_routine (compact q ++ []) ≡ Some (q, []) = routine_complete q [] h in
    let right : read_routine (compact r ++ []) ≡ Some (r, []) = routine_complete r [] g in
    (same_reply q r [] [] (sym left ∙ ap (λ l. read_routine (l ++ [])) e ∙ right)).0

no_bytes : (us : List ℕ) → length us ≡ 0 → us ≡ []
no_bytes [] h = refl
no_bytes (u ∷ us) h = absurd (omega arith)

pub whole_sound : (bs : List ℕ) (r : RoutineParts) (rest : List ℕ) → read_routine bs ≡ Some (r, rest) → length rest ≡ 0 → IsRoutine r × (compact r ≡ bs)
whole_sound bs r rest h none =
    let s = routine_sound bs r rest h in
    (s.1, sym (s.0 ∙ ap (λ l. compact r ++ l) (no_bytes rest none) ∙ append-nil (compact r)))

whole_read : (bs : List ℕ) (q : RoutineParts) → IsRoutine q → compact q ≡ bs → read_routine bs ≡ Some (q, [])
whole_read bs q h e = ap read_routine (sym e ∙ sym (append-nil (compact q))) ∙ routine_complete q [] h

pub more_behind : (bs : List ℕ) (r : RoutineParts) (rest : List ℕ) → read_routine bs ≡ Some (r, rest) → (length rest ≡ 0 → ⊥) → (q : RoutineParts) → IsRoutine q
    → compact q ≡ bs → ⊥
more_behind bs r rest h some q g e = some (ap length (same_reply r q rest [] (sym h ∙ whole_read bs q g e)).1)

pub unreadable : (bs : List ℕ) → read_routine bs ≡ None → (q : RoutineParts) → IsRoutine q → compact q ≡ bs → ⊥
unreadable bs h q g e = let read = whole_read bs q g e in absurd (cc (sym h ∙ read))
