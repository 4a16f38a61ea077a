-- A valid caller with a valid callee spliced at a site is valid.
use Rattle.std.proofs.Common.{◌≡◌, ℕ, suc, ◌+◌, ◌<◌, ◌≤◌, List, [], ◌∷◌, ◌++◌, map, option_map, Bool, refl, ap, subst, sym, arith, length, slice_get, inl, inr}
use Rattle.std.specs.Prelude.{Option, Some, None}
use Rattle.std.specs.List.{AllByRecursion}
use Rattle.std.proofs.lemmas.List.{length-map, length-append}
use Rattle.std.proofs.lemmas.Option.{slice_get_within}
use Rattle.std.proofs.lemmas.Bool.{cases_lt}
use Rattle.il_core.specs.declared.instr.Block.{Block}
use Rattle.il_core.specs.declared.instr.Instr.{Instr}
use Rattle.il_core.specs.declared.instr.Instr.TheVariants.{Const, Move, Conv, Bin, Get, Set, GetX, SetX, GetA, SetA, Clear, Turn, Call, GetChar, PutChar}
use Rattle.il_core.specs.declared.instr.End.{End}
use Rattle.il_core.specs.declared.instr.End.TheVariants as ends
use Rattle.il_core.specs.declared.shape.ShapeRow.{ShapeRow}
use Rattle.il_core.specs.Routine.{RoutineParts}
use Rattle.il_core.specs.Program.{shape_at}
use Rattle.il_core.specs.Valid.{IsValid, IsValidInstr, IsValidEnd, IsRegIfSome, IsRoutineShape, AreValidBlocks, is_wanted}
use Rattle.il_core.specs.World.{each}
use Rattle.il_core.specs.Operands.{renamed, retargeted}
use Rattle.il_laws.specs.Splice.{Site, moved, passed, handed, copied_end, raised, spliced}
use Rattle.il_laws.proofs.Lists.{ValidBlock, valid_block}
use Rattle.il_laws.proofs.SpliceBlocks as at

-- valid blocks, put together
pub valid_append : (rows : List ShapeRow) (r : RoutineParts) (xs ys : List Block) (b d : ℕ) → b + length xs ≡ d → AreValidBlocks rows r b xs
    → AreValidBlocks rows r d ys → AreValidBlocks rows r b (xs ++ ys)
valid_append rows r [] ys b d e h g =
    let same : d ≡ b = (let is : b + 0 ≡ d = e in omega arith) in
    subst (λ (t : ℕ). AreValidBlocks rows r t ys) same g
valid_append rows r (x ∷ xs) ys b d e h g =
    let is : b + suc (length xs) ≡ d = e in
    (h.0, h.1, valid_append rows r xs ys (b + 1) d (omega arith) h.2 g)

pub valid_map : (rows : List ShapeRow) (r : RoutineParts) (v : Block → Block) (d : ℕ) (xs : List Block)
    → ((i : ℕ) (y : Block) → slice_get xs i ≡ Some y → ValidBlock rows r (d + i) (v y)) → AreValidBlocks rows r d (map v xs)
valid_map rows r v d [] h = tt
valid_map rows r v d (x ∷ xs) h =
    let here : d + 0 ≡ d = omega arith in
    let first = subst (λ (t : ℕ). ValidBlock rows r t (v x)) here (h 0 x refl) in
    let later = λ (i : ℕ) (y : Block) (e : slice_get xs i ≡ Some y).
    (let there : d + suc i ≡ d + 1 + i = omega arith in subst (λ (t : ℕ). ValidBlock rows r t (v y)) there (h (suc i) y e)) in
    (first.instrs, first.end, valid_map rows r v (d + 1) xs later)

-- an instruction in a routine with more registers and arrays
pub reg_more : (n m : ℕ) (o : Option ℕ) → n ≤ m → IsRegIfSome n o → IsRegIfSome m o
reg_more n m None le h = tt
reg_more n m (Some d) le h = omega arith

args_more : (n m : ℕ) (xs : List ℕ) → n ≤ m → AllByRecursion (λ x. x < n) xs → AllByRecursion (λ x. x < m) xs
args_more n m [] le h = tt
args_more n m (x ∷ xs) le h = let less = h.0 in (omega arith, args_more n m xs le h.1)

instr_more : (rows : List ShapeRow) (n m a b : ℕ) (i : Instr) → n ≤ m → a ≤ b → IsValidInstr rows n a i → IsValidInstr rows m b i
instr_more rows n m a b (Const d v) ln la h = omega arith
instr_more rows n m a b (Move d s) ln la h = let (x, y) = h in (omega arith, omega arith)
instr_more rows n m a b (Conv d t s) ln la h = let (x, y) = h in (omega arith, omega arith)
instr_more rows n m a b (Bin o d p q) ln la h = let (x, y, z) = h in (omega arith, omega arith, omega arith)
instr_more rows n m a b (Get d g) ln la h = let x = h.0 in (omega arith, h.1)
instr_more rows n m a b (Set g s) ln la h = let x = h.0 in (omega arith, h.1)
instr_more rows n m a b (GetX d g i) ln la h = let x = h.0 in let y = h.1 in (omega arith, omega arith, h.2)
instr_more rows n m a b (SetX g i s) ln la h = let x = h.0 in let y = h.1 in (omega arith, omega arith, h.2)
instr_more rows n m a b (GetA d p i) ln la h = let (x, y, z) = h in (omega arith, omega arith, omega arith)
instr_more rows n m a b (SetA p i s) ln la h = let (x, y, z) = h in (omega arith, omega arith, omega arith)
instr_more rows n m a b (Clear r c p l) ln la h = let (x, y) = h in (omega arith, omega arith)
instr_more rows n m a b Turn ln la h = tt
instr_more rows n m a b (Call dest p count args) ln la h = (reg_more n m dest ln h.0, args_more n m args ln h.1, h.2)
instr_more rows n m a b (GetChar d) ln la h = omega arith
instr_more rows n m a b (PutChar d s) ln la h = let (x, y) = h in (omega arith, omega arith)

instrs_more : (rows : List ShapeRow) (n m a b : ℕ) (is : List Instr) → n ≤ m → a ≤ b → AllByRecursion (IsValidInstr rows n a) is
    → AllByRecursion (IsValidInstr rows m b) is
instrs_more rows n m a b [] ln la h = tt
instrs_more rows n m a b (i ∷ is) ln la h = (instr_more rows n m a b i ln la h.0, instrs_more rows n m a b is ln la h.1)

-- an instruction under names raised into a routine with more of both
wanted_map : (g : ℕ → ℕ) (o : Option ℕ) → is_wanted (option_map g o) ≡ is_wanted o
wanted_map g None = refl
wanted_map g (Some d) = refl

each_length : (g : ℕ → ℕ) (xs : List ℕ) → length (each g xs) ≡ length xs
each_length g [] = refl
each_length g (x ∷ xs) = ap suc (each_length g xs)

reg_raised : (s n : ℕ) (o : Option ℕ) → IsRegIfSome n o → IsRegIfSome (s + n) (option_map (λ x. s + x) o)
reg_raised s n None h = tt
reg_raised s n (Some d) h = omega arith

args_raised : (s n : ℕ) (xs : List ℕ) → AllByRecursion (λ x. x < n) xs → AllByRecursion (λ x. x < s + n) (each (λ x. s + x) xs)
args_raised s n [] h = tt
args_raised s n (x ∷ xs) h = let less = h.0 in (omega arith, args_raised s n xs h.1)

call_raised : (rows : List ShapeRow) (s p : ℕ) (dest : Option ℕ) (args : List ℕ) → IsRoutineShape (shape_at rows p) (length args) (is_wanted dest)
    → IsRoutineShape (shape_at rows p) (length (each (λ x. s + x) args)) (is_wanted (option_map (λ x. s + x) dest))
call_raised rows s p dest args h =
    subst (λ (l : ℕ). IsRoutineShape (shape_at rows p) l (is_wanted (option_map (λ x. s + x) dest))) (sym (each_length (λ x. s + x) args))
    (subst (λ (w : Bool). IsRoutineShape (shape_at rows p) (length args) w) (sym (wanted_map (λ x. s + x) dest)) h)

instr_raised : (rows : List ShapeRow) (s t count entry n a : ℕ) (i : Instr) → IsValidInstr rows n a i
    → IsValidInstr rows (s + n) (t + a) (renamed (raised s t count entry) i)
instr_raised rows s t count entry n a (Const d v) h = omega arith
instr_raised rows s t count entry n a (Move d q) h = let (x, y) = h in (omega arith, omega arith)
instr_raised rows s t count entry n a (Conv d k q) h = let (x, y) = h in (omega arith, omega arith)
instr_raised rows s t count entry n a (Bin o d p q) h = let (x, y, z) = h in (omega arith, omega arith, omega arith)
instr_raised rows s t count entry n a (Get d g) h = let x = h.0 in (omega arith, h.1)
instr_raised rows s t count entry n a (Set g q) h = let x = h.0 in (omega arith, h.1)
instr_raised rows s t count entry n a (GetX d g i) h = let x = h.0 in let y = h.1 in (omega arith, omega arith, h.2)
instr_raised rows s t count entry n a (SetX g i q) h = let x = h.0 in let y = h.1 in (omega arith, omega arith, h.2)
instr_raised rows s t count entry n a (GetA d p i) h = let (x, y, z) = h in (omega arith, omega arith, omega arith)
instr_raised rows s t count entry n a (SetA p i q) h = let (x, y, z) = h in (omega arith, omega arith, omega arith)
instr_raised rows s t count entry n a (Clear r c p l) h = let (x, y) = h in (omega arith, omega arith)
instr_raised rows s t count entry n a Turn h = tt
instr_raised rows s t count entry n a (Call dest p k args) h = (reg_raised s n dest h.0, args_raised s n args h.1, call_raised rows s p dest args h.2)
instr_raised rows s t count entry n a (GetChar d) h = omega arith
instr_raised rows s t count entry n a (PutChar d q) h = let (x, y) = h in (omega arith, omega arith)

instrs_raised : (rows : List ShapeRow) (s t count entry n a : ℕ) (is : List Instr) → AllByRecursion (IsValidInstr rows n a) is
    → AllByRecursion (IsValidInstr rows (s + n) (t + a)) (map (renamed (raised s t count entry)) is)
instrs_raised rows s t count entry n a [] h = tt
instrs_raised rows s t count entry n a (i ∷ is) h =
    (instr_raised rows s t count entry n a i h.0, instrs_raised rows s t count entry n a is h.1)

-- the moves of arguments, and of a returned value
passed_valid : (rows : List ShapeRow) (n m a d : ℕ) (args : List ℕ) → n ≤ m → d + length args ≤ m → AllByRecursion (λ x. x < n) args
    → AllByRecursion (IsValidInstr rows m a) (passed d args)
passed_valid rows n m a d [] ln ld h = tt
passed_valid rows n m a d (x ∷ args) ln ld h =
    let more : d + suc (length args) ≤ m = ld in
    let less = h.0 in
    ((omega arith, omega arith), passed_valid rows n m a (suc d) args ln (omega arith) h.1)

handed_valid : (rows : List ShapeRow) (s n a t count entry blocks b : ℕ) (value : Bool) (e : End) (dest : Option ℕ)
    → IsValidEnd n value blocks b e → IsRegIfSome s dest → AllByRecursion (IsValidInstr rows (s + n) a) (handed (raised s t count entry) e dest)
handed_valid rows s n a t count entry blocks b value (ends.Return (Some x)) (Some d) h g = let less = h.0 in ((omega arith, omega arith), tt)
handed_valid rows s n a t count entry blocks b value (ends.Return (Some x)) None h g = tt
handed_valid rows s n a t count entry blocks b value (ends.Return None) dest h g = tt
handed_valid rows s n a t count entry blocks b value (ends.Jump u) dest h g = tt
handed_valid rows s n a t count entry blocks b value (ends.Branch r u v) dest h g = tt
handed_valid rows s n a t count entry blocks b value (ends.Loop u) dest h g = tt
handed_valid rows s n a t count entry blocks b value (ends.Exit r) dest h g = tt

-- moved numbers keep their order
moved_less : (b n t u : ℕ) → t < u → moved b n t < moved b n u
moved_less b n t u lt =
    elim (cases_lt b t) [
      | inl l ↦ (let x = at.moved_later b n t l in let y = at.moved_later b n u (omega arith) in omega arith)
      | inr g ↦ elim (cases_lt b u) [
        | inl l ↦ (let x = at.moved_same b n t g in let y = at.moved_later b n u l in omega arith)
        | inr k ↦ (let x = at.moved_same b n t g in let y = at.moved_same b n u k in omega arith)
      ]
    ]

moved_most : (b n t : ℕ) → moved b n t ≤ t + suc n
moved_most b n t =
    elim (cases_lt b t) [
      | inl l ↦ (let x = at.moved_later b n t l in omega arith)
      | inr g ↦ (let x = at.moved_same b n t g in omega arith)
    ]

moved_most_of : (b n t u : ℕ) → u ≤ t → moved b n u ≤ moved b n t
moved_most_of b n t u le =
    elim (cases_lt u t) [
      | inl l ↦ (let x = moved_less b n u t l in omega arith)
      | inr g ↦ (let same : u ≡ t = omega arith in let is : moved b n u ≡ moved b n t = ap (moved b n) same in omega arith)
    ]

-- an end of the caller's block t, at its new place d
moved_end : (regs more : ℕ) (value : Bool) (blocks b n t d : ℕ) (e : End) → (moved b n t ≤ d) → ((u : ℕ) → t < u → d < moved b n u) → regs ≤ more
    → IsValidEnd regs value blocks t e → IsValidEnd more value (blocks + suc n) d (retargeted (moved b n) e)
moved_end regs more value blocks b n t d (ends.Jump u) le past lr h =
    let (x, y) = h in
    let most = moved_most b n u in
    (past u x, omega arith)
moved_end regs more value blocks b n t d (ends.Branch r u v) le past lr h =
    let lr0 = h.0 in let lu = h.1.1 in let lv = h.2.1 in
    let mu = moved_most b n u in let mv = moved_most b n v in
    (omega arith, (past u h.1.0, omega arith), (past v h.2.0, omega arith))
moved_end regs more value blocks b n t d (ends.Loop u) le past lr h = let x = moved_most_of b n t u h in omega arith
moved_end regs more value blocks b n t d (ends.Return r) le past lr h = (reg_more regs more r lr h.0, h.1)
moved_end regs more value blocks b n t d (ends.Exit r) le past lr h = omega arith

-- an end of the callee's block i
copied_valid : (s t count entry n : ℕ) (value value1 : Bool) (blocks first total i : ℕ) (e : End) → i < blocks → first + blocks < total
    → IsValidEnd n value blocks i e
    → IsValidEnd (s + n) value1 total (first + i) (copied_end (raised s t count entry) first (first + blocks) e)
copied_valid s t count entry n value value1 blocks first total i (ends.Jump u) li lt h = let (x, y) = h in (omega arith, omega arith)
copied_valid s t count entry n value value1 blocks first total i (ends.Branch r u v) li lt h =
    let x = h.0 in let y = h.1.0 in let z = h.1.1 in let p = h.2.0 in let q = h.2.1 in
    (omega arith, (omega arith, omega arith), (omega arith, omega arith))
copied_valid s t count entry n value value1 blocks first total i (ends.Loop u) li lt h = omega arith
copied_valid s t count entry n value value1 blocks first total i (ends.Return r) li lt h = (omega arith, omega arith)
copied_valid s t count entry n value value1 blocks first total i (ends.Exit r) li lt h = omega arith

module _ (rows : List ShapeRow) (r q : RoutineParts) (s : Site) (fits : at.Fits rows r q s) where
  abbrev new : RoutineParts
  new = spliced r q (Some s)

  abbrev regs : ℕ
  regs = r.regs + q.regs

  abbrev arrays : ℕ
  arrays = length r.arrays + length q.arrays

  abbrev b : ℕ
  b = at.at rows r q s fits

  abbrev n : ℕ
  n = at.many rows r q s fits

  abbrev move : Block → Block
  move x = at.move rows r q s fits x

  abbrev copy : Block → Block
  copy x = at.copy rows r q s fits x

  abbrev first_block : Block
  first_block = at.first_block rows r q s fits

  abbrev rest_block : Block
  rest_block = at.rest_block rows r q s fits

  -- one block for the call, and those of the callee
  pub new_size : length new.blocks ≡ length r.blocks + suc n
  new_size =
      let one = at.earlier_size rows r q s fits in
      let two = at.copies_size rows r q s fits in
      let three = length-map s.later move in
      let four = length-append (map copy q.blocks) (rest_block ∷ map move s.later) in
      let five = length-append (map move s.earlier) (first_block ∷ (map copy q.blocks ++ rest_block ∷ map move s.later)) in
      let old = at.old_size rows r q s fits in
      omega arith

  -- what a block of the new routine owes, with its sizes as sums
  owes : (d : ℕ) (x : Block) → AllByRecursion (IsValidInstr rows regs arrays) x.instrs
      → IsValidEnd regs r.value (length r.blocks + suc n) d x.end → ValidBlock rows new d x
  owes d x h g =
      record {
        instrs = subst (λ (a : ℕ). AllByRecursion (IsValidInstr rows regs a) x.instrs) (sym (length-append r.arrays q.arrays)) h;
        end = subst (λ (k : ℕ). IsValidEnd regs r.value k d x.end) (sym new_size) g;
      }

  of_caller : (is : List Instr) → AllByRecursion (IsValidInstr rows r.regs (length r.arrays)) is → AllByRecursion (IsValidInstr rows regs arrays) is
  of_caller is h = instrs_more rows r.regs regs (length r.arrays) arrays is (omega arith) (omega arith) h

  moved_ok : (t d : ℕ) (x : Block) → d ≡ moved b n t → slice_get r.blocks t ≡ Some x → ValidBlock rows new d (move x)
  moved_ok t d x is e =
      let ok = at.old_block rows r q s fits t x e in
      let past = λ (u : ℕ) (lt : t < u). (let less = moved_less b n t u lt in let there : d < moved b n u = omega arith in there) in
      owes d (move x) (of_caller x.instrs ok.instrs) (moved_end r.regs regs r.value (length r.blocks) b n t d x.end (omega arith) past (omega arith) ok.end)

  earlier_ok : AreValidBlocks rows new 0 (map move s.earlier)
  earlier_ok =
      valid_map rows new move 0 s.earlier (λ i y e.
      let lt = slice_get_within s.earlier i y e in
      let x = at.moved_same b n i (omega arith) in
      moved_ok i (0 + i) y (omega arith) (at.old_earlier rows r q s fits i y e))

  first_ok : ValidBlock rows new b first_block
  first_ok =
      let call = at.call_valid rows r q s fits in
      let params = fits.valid_q.params in
      let size = fits.args in
      let clears : IsValidInstr rows regs arrays (Clear r.regs q.regs (length r.arrays) (length q.arrays)) = (omega arith, omega arith) in
      let moves = passed_valid rows r.regs regs arrays r.regs s.cut.args (omega arith) (omega arith) call.0.1 in
      let old = at.old_size rows r q s fits in
      owes b first_block
      (at.all_append (IsValidInstr rows regs arrays) s.cut.before _ (of_caller s.cut.before (at.before_valid rows r q s fits)) (tt, (clears, moves)))
      (omega arith, omega arith)

  copies_ok : AreValidBlocks rows new (b + 1) (map copy q.blocks)
  copies_ok =
      valid_map rows new copy (b + 1) q.blocks (λ i y e.
      let ok = valid_block rows q fits.valid_q i y e in
      let li = slice_get_within q.blocks i y e in
      let there : suc b + i ≡ b + 1 + i = omega arith in
      let old = at.old_size rows r q s fits in
      let dest = (at.call_valid rows r q s fits).0.0 in
      let a = length r.arrays in
      let instrs = at.all_append (IsValidInstr rows regs arrays) (map (renamed (at.names rows r q s fits)) y.instrs) _
      (instrs_raised rows r.regs a s.cut.count q.entry q.regs (length q.arrays) y.instrs ok.instrs)
      (handed_valid rows r.regs q.regs arrays a s.cut.count q.entry n i q.value y.end s.cut.dest ok.end dest) in
      subst (λ (t : ℕ). ValidBlock rows new t (copy y)) there (owes (suc b + i) (copy y) instrs
      (copied_valid r.regs a s.cut.count q.entry q.regs q.value r.value n (suc b) (length r.blocks + suc n) i y.end li (omega arith) ok.end)))

  rest_ok : ValidBlock rows new (suc b + n) rest_block
  rest_ok =
      let here = at.moved_same b n b (omega arith) in
      let past = λ (u : ℕ) (lt : b < u). (let x = at.moved_later b n u lt in let there : suc b + n < moved b n u = omega arith in there) in
      owes (suc b + n) rest_block (of_caller s.cut.after (at.call_valid rows r q s fits).1)
      (moved_end r.regs regs r.value (length r.blocks) b n b (suc b + n) s.end (omega arith) past (omega arith) (at.site_valid rows r q s fits).end)

  later_ok : AreValidBlocks rows new (suc b + n + 1) (map move s.later)
  later_ok =
      valid_map rows new move (suc b + n + 1) s.later (λ i y e.
      let late : b < suc b + i = omega arith in
      let x = at.moved_later b n (suc b + i) late in
      moved_ok (suc b + i) (suc b + n + 1 + i) y (omega arith) (at.old_later rows r q s fits i y e))

  pub spliced_valid : IsValid rows new
  spliced_valid =
      let one = at.earlier_size rows r q s fits in
      let two = at.copies_size rows r q s fits in
      let behind : suc b + n ≡ b + 1 + n = omega arith in
      let from_rest = rest_block ∷ map move s.later in
      let rest_all : AreValidBlocks rows new (b + 1 + n) from_rest =
      subst (λ (t : ℕ). AreValidBlocks rows new t from_rest) behind (rest_ok.instrs, rest_ok.end, later_ok) in
      let from_first : AreValidBlocks rows new b (first_block ∷ (map copy q.blocks ++ from_rest)) =
      (first_ok.instrs, first_ok.end, valid_append rows new (map copy q.blocks) from_rest (b + 1) (b + 1 + n) (omega arith) copies_ok rest_all) in
      let params = fits.valid.params in
      record {
        params = omega arith;
        blocks = valid_append rows new (map move s.earlier) (first_block ∷ (map copy q.blocks ++ from_rest)) 0 b (omega arith) earlier_ok from_first;
        some_block = (let size = new_size in omega arith);
      }
