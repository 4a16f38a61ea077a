-- Where the blocks of a caller and of its callee stand after a splice.
use Rattle.std.proofs.Common.{◌≡◌, ℕ, suc, ◌+◌, ◌<◌, ◌≤◌, List, [], ◌∷◌, ◌++◌, map, Bool, false, ap, ◌∙◌, arith, length, slice_get, le-leb, inl, inr}
use Rattle.std.specs.Prelude.{nat_le, if◌then◌else◌, Some}
use Rattle.std.specs.List.{AllByRecursion}
use Rattle.std.proofs.lemmas.Bool.{cases_lt}
use Rattle.std.proofs.lemmas.Bool.Decides.{nat_tests}
use Rattle.std.proofs.lemmas.List.{length-map, length-append}
use Rattle.std.proofs.lemmas.Option.{slice_get_within}
use Rattle.il_core.specs.declared.instr.Block.{Block}
use Rattle.il_core.specs.declared.instr.Instr.{Instr}
use Rattle.il_core.specs.declared.instr.Instr.TheVariants.{Clear, Turn, Call}
use Rattle.il_core.specs.declared.instr.End.{End}
use Rattle.il_core.specs.declared.instr.End.TheVariants as ends
use Rattle.il_core.specs.declared.shape.ShapeRow.{ShapeRow}
use Rattle.il_core.specs.Routine.{RoutineParts}
use Rattle.il_core.specs.Valid.{IsValid, IsValidInstr, is_wanted}
use Rattle.il_core.specs.Operands.{Names, retargeted}
use Rattle.il_laws.specs.Splice.{Cut, Site, moved, moved_block, passed, copied_end, copied, raised, entering, resuming, spliced_blocks}
use Rattle.il_laws.proofs.Places.{IsForward, AreForward}
use Rattle.il_laws.proofs.Lists.{get_left, get_behind, get_map, forward_append, forward_map, ValidBlock, valid_block, valid_forward}

-- the instructions of a cut block: the call between those before and those after
abbrev pub call_of : Cut → Instr
call_of c = Call c.dest c.callee c.count c.args

abbrev pub whole : Cut → List Instr
whole c = c.before ++ call_of c ∷ c.after

-- the block of a site, and all blocks with it
abbrev pub site_block : Site → Block
site_block s = record { instrs = whole s.cut; end = s.end }

abbrev pub blocks_with : Site → List Block
blocks_with s = s.earlier ++ site_block s ∷ s.later

-- A callee fits a site of a valid caller: it is valid, takes as many arguments as the call has, and gives a value where
-- the call wants one.
pub record Fits (rows : List ShapeRow) (r q : RoutineParts) (s : Site) : Type 0 where
  pub blocks : r.blocks ≡ blocks_with s
  pub valid : IsValid rows r
  pub valid_q : IsValid rows q
  pub args : length s.cut.args ≡ q.params
  pub wanted : q.value ≡ is_wanted s.cut.dest

pub all_front : {X : Type 0} (P : X → Type 0) (xs ys : List X) → AllByRecursion P (xs ++ ys) → AllByRecursion P xs
all_front P [] ys h = tt
all_front P (x ∷ xs) ys h = (h.0, all_front P xs ys h.1)

pub all_rest : {X : Type 0} (P : X → Type 0) (xs ys : List X) → AllByRecursion P (xs ++ ys) → AllByRecursion P ys
all_rest P [] ys h = h
all_rest P (x ∷ xs) ys h = all_rest P xs ys h.1

pub all_append : {X : Type 0} (P : X → Type 0) (xs ys : List X) → AllByRecursion P xs → AllByRecursion P ys → AllByRecursion P (xs ++ ys)
all_append P [] ys h g = g
all_append P (x ∷ xs) ys h g = (h.0, all_append P xs ys h.1 g)

-- blocks up to b keep their numbers, those behind it move
pub moved_same : (b n t : ℕ) → t ≤ b → moved b n t ≡ t
moved_same b n t le = ap (λ (k : Bool). if k then t else t + suc n) (le-leb t b le)

pub moved_later : (b n t : ℕ) → b < t → moved b n t ≡ t + suc n
moved_later b n t lt = let above : nat_le t b ≡ false = grind (arith, nat_tests) in ap (λ (k : Bool). if k then t else t + suc n) above

module _ (rows : List ShapeRow) (r q : RoutineParts) (s : Site) (fits : Fits rows r q s) where
  -- the number of the site's block, the callee's blocks, and the number of the block that the caller goes on with
  abbrev pub at : ℕ
  at = length s.earlier

  abbrev pub many : ℕ
  many = length q.blocks

  abbrev pub rest : ℕ
  rest = suc at + many

  abbrev pub names : Names
  names = raised r.regs (length r.arrays) s.cut.count q.entry

  abbrev pub new_blocks : List Block
  new_blocks = spliced_blocks r.regs (length r.arrays) s q

  -- what the call becomes
  abbrev pub entry : List Instr
  entry = Turn ∷ Clear r.regs q.regs (length r.arrays) (length q.arrays) ∷ passed r.regs s.cut.args

  abbrev pub first_block : Block
  first_block = entering r.regs (length r.arrays) s q

  abbrev pub rest_block : Block
  rest_block = resuming s many

  abbrev pub copy : Block → Block
  copy x = copied names s.cut.dest (suc at) rest x

  abbrev pub move : Block → Block
  move x = moved_block at many x

  abbrev from_rest : List Block
  from_rest = rest_block ∷ map move s.later

  abbrev from_first : List Block
  from_first = first_block ∷ (map copy q.blocks ++ from_rest)

  pub earlier_size : length (map move s.earlier) ≡ at
  earlier_size = length-map s.earlier move

  pub copies_size : length (map copy q.blocks) ≡ many
  copies_size = length-map q.blocks copy

  -- the blocks of the caller as it was
  pub old_size : length r.blocks ≡ at + suc (length s.later)
  old_size = ap (λ (bs : List Block). length bs) fits.blocks ∙ length-append s.earlier (site_block s ∷ s.later)

  pub old_earlier : (i : ℕ) (y : Block) → slice_get s.earlier i ≡ Some y → slice_get r.blocks i ≡ Some y
  old_earlier i y e = ap (λ (bs : List Block). slice_get bs i) fits.blocks ∙ get_left s.earlier (site_block s ∷ s.later) i y e

  old_from : (i : ℕ) → slice_get r.blocks (at + i) ≡ slice_get (site_block s ∷ s.later) i
  old_from i = ap (λ (bs : List Block). slice_get bs (at + i)) fits.blocks ∙ get_behind s.earlier (site_block s ∷ s.later) at i (λ j. at)

  pub old_site : slice_get r.blocks at ≡ Some (site_block s)
  old_site = let here : at ≡ at + 0 = omega arith in ap (λ (t : ℕ). slice_get r.blocks t) here ∙ old_from 0

  pub old_later : (i : ℕ) (y : Block) → slice_get s.later i ≡ Some y → slice_get r.blocks (suc at + i) ≡ Some y
  old_later i y e =
      let there : suc at + i ≡ at + suc i = omega arith in
      ap (λ (t : ℕ). slice_get r.blocks t) there ∙ old_from (suc i) ∙ e

  -- what is known of them
  pub old_block : (t : ℕ) (y : Block) → slice_get r.blocks t ≡ Some y → ValidBlock rows r t y
  old_block t y e = valid_block rows r fits.valid t y e

  pub site_valid : ValidBlock rows r at (site_block s)
  site_valid = old_block at (site_block s) old_site

  pub before_valid : AllByRecursion (IsValidInstr rows r.regs (length r.arrays)) s.cut.before
  before_valid = all_front (IsValidInstr rows r.regs (length r.arrays)) s.cut.before (call_of s.cut ∷ s.cut.after) site_valid.instrs

  pub call_valid : AllByRecursion (IsValidInstr rows r.regs (length r.arrays)) (call_of s.cut ∷ s.cut.after)
  call_valid = all_rest (IsValidInstr rows r.regs (length r.arrays)) s.cut.before (call_of s.cut ∷ s.cut.after) site_valid.instrs

  -- the blocks of the new routine
  pub get_earlier : (i : ℕ) (y : Block) → slice_get s.earlier i ≡ Some y → slice_get new_blocks i ≡ Some (move y)
  get_earlier i y e = get_left (map move s.earlier) from_first i (move y) (get_map move s.earlier i y e)

  get_from : (i : ℕ) → slice_get new_blocks (at + i) ≡ slice_get from_first i
  get_from i = get_behind (map move s.earlier) from_first at i earlier_size

  pub get_first : slice_get new_blocks at ≡ Some first_block
  get_first = let here : at ≡ at + 0 = omega arith in ap (λ (t : ℕ). slice_get new_blocks t) here ∙ get_from 0

  pub get_copy : (i : ℕ) (y : Block) → slice_get q.blocks i ≡ Some y → slice_get new_blocks (suc at + i) ≡ Some (copy y)
  get_copy i y e =
      let there : suc at + i ≡ at + suc i = omega arith in
      ap (λ (t : ℕ). slice_get new_blocks t) there ∙ get_from (suc i)
      ∙ get_left (map copy q.blocks) from_rest i (copy y) (get_map copy q.blocks i y e)

  pub get_rest : slice_get new_blocks rest ≡ Some rest_block
  get_rest =
      let there : rest ≡ at + suc (many + 0) = omega arith in
      ap (λ (t : ℕ). slice_get new_blocks t) there ∙ get_from (suc (many + 0)) ∙ get_behind (map copy q.blocks) from_rest many 0 copies_size

  pub get_later : (i : ℕ) (y : Block) → slice_get s.later i ≡ Some y → slice_get new_blocks (suc at + i + suc many) ≡ Some (move y)
  get_later i y e =
      let there : suc at + i + suc many ≡ at + suc (many + suc i) = omega arith in
      ap (λ (t : ℕ). slice_get new_blocks t) there ∙ get_from (suc (many + suc i))
      ∙ get_behind (map copy q.blocks) from_rest many (suc i) copies_size ∙ get_map move s.later i y e

  -- jumps go forward in the new routine too: block t has become block d
  moved_past : (t d u : ℕ) → (t ≤ at → d ≡ t) → (at < t → d ≡ t + suc many) → t < u → d < moved at many u
  moved_past t d u low high lt =
      elim (cases_lt at u) [
        | inl later ↦ (let there = moved_later at many u later in elim (cases_lt at t) [
          | inl l ↦ (let is = high l in omega arith)
          | inr g ↦ (let is = low g in omega arith)
        ])
        | inr early ↦ (let there = moved_same at many u early in let is = low (omega arith) in omega arith)
      ]

  moved_forward : (t d : ℕ) (e : End) → (t ≤ at → d ≡ t) → (at < t → d ≡ t + suc many) → IsForward t e
      → IsForward d (retargeted (moved at many) e)
  moved_forward t d (ends.Jump u) low high lt = moved_past t d u low high lt
  moved_forward t d (ends.Branch x u v) low high lt = (moved_past t d u low high lt.0, moved_past t d v low high lt.1)
  moved_forward t d (ends.Loop u) low high lt = tt
  moved_forward t d (ends.Return x) low high lt = tt
  moved_forward t d (ends.Exit x) low high lt = tt

  rest_past : (u : ℕ) → at < u → rest < moved at many u
  rest_past u lt = let there = moved_later at many u lt in omega arith

  rest_forward : (e : End) → IsForward at e → IsForward rest (retargeted (moved at many) e)
  rest_forward (ends.Jump u) lt = rest_past u lt
  rest_forward (ends.Branch x u v) lt = (rest_past u lt.0, rest_past v lt.1)
  rest_forward (ends.Loop u) lt = tt
  rest_forward (ends.Return x) lt = tt
  rest_forward (ends.Exit x) lt = tt

  copied_forward : (t : ℕ) (e : End) → t < many → IsForward t e → IsForward (suc at + t) (copied_end names (suc at) rest e)
  copied_forward t (ends.Jump u) inside lt = omega arith
  copied_forward t (ends.Branch x u v) inside lt = (let lu = lt.0 in omega arith, let lv = lt.1 in omega arith)
  copied_forward t (ends.Loop u) inside lt = tt
  copied_forward t (ends.Return x) inside lt = omega arith
  copied_forward t (ends.Exit x) inside lt = tt

  old_forward : (t : ℕ) (y : Block) → slice_get r.blocks t ≡ Some y → IsForward t y.end
  old_forward t y e = valid_forward r.regs r.value (length r.blocks) t y.end (old_block t y e).end

  callee_forward : (t : ℕ) (y : Block) → slice_get q.blocks t ≡ Some y → IsForward t y.end
  callee_forward t y e = valid_forward q.regs q.value many t y.end (valid_block rows q fits.valid_q t y e).end

  earlier_forward : AreForward 0 (map move s.earlier)
  earlier_forward =
      forward_map move 0 s.earlier (λ i y e.
      let here : 0 + i ≡ i = omega arith in
      let lt = slice_get_within s.earlier i y e in
      moved_forward i (0 + i) y.end (λ le. here) (λ late. absurd (omega arith)) (old_forward i y (old_earlier i y e)))

  copies_forward : AreForward (suc at) (map copy q.blocks)
  copies_forward =
      forward_map copy (suc at) q.blocks (λ i y e. copied_forward i y.end (slice_get_within q.blocks i y e) (callee_forward i y e))

  later_forward : AreForward (suc rest) (map move s.later)
  later_forward =
      forward_map move (suc rest) s.later (λ i y e. moved_forward (suc at + i) (suc rest + i) y.end (λ le. absurd (omega arith)) (λ lt. omega arith)
      (old_forward (suc at + i) y (old_later i y e)))

  pub new_forward : AreForward 0 new_blocks
  new_forward =
      let rest_on : AreForward rest from_rest = (rest_forward s.end (old_forward at (site_block s) old_site), later_forward) in
      let first_on : AreForward at from_first =
      (omega arith, forward_append (map copy q.blocks) from_rest (suc at) rest (let size = copies_size in omega arith) copies_forward rest_on) in
      forward_append (map move s.earlier) from_first 0 at (let size = earlier_size in omega arith) earlier_forward first_on
