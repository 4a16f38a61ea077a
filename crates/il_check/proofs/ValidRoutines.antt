-- All conditions are met exactly where a routine is valid.
use Rattle.std.proofs.Common.{◌≡◌, ℕ, ◌+◌, ◌<◌, ◌≤◌, Bool, true, false, List, [], ◌∷◌, ◌++◌, Option, Some, None, refl, sym, ap, length, ◌&&◌, not, ◌∙◌, arith}
use Rattle.std.specs.Prelude.{flat_map, option_to_list, nat_lt, nat_eq, is_some, IsNone, ◌↔◌, ◌==◌}
use Rattle.std.specs.List.{AllByRecursion}
use Rattle.std.specs.Bool.{beq}
use Rattle.std.proofs.lemmas.Bool.{ltb-true, leb-true, eqb-true, lt-ltb, le-leb, eq-eqb, eqb-false, and_parts, and_from}
use Rattle.il_core.specs.declared.instr.Block.{Block}
use Rattle.il_core.specs.declared.instr.Instr.{Instr}
use Rattle.il_core.specs.declared.instr.Instr.TheVariants.{Const, Move, Conv, Bin, Get, Set, GetX, SetX, GetA, SetA, Clear, Turn, Call, GetChar, PutChar}
use Rattle.il_core.specs.declared.instr.End.{End}
use Rattle.il_core.specs.declared.instr.End.TheVariants as ends
use Rattle.il_core.specs.declared.shape.ShapeRow.{ShapeRow}
use Rattle.il_core.specs.declared.shape.Shape.{Shape}
use Rattle.il_core.specs.declared.shape.Shape.TheVariants as shape
use Rattle.il_core.specs.Routine.{RoutineParts}
use Rattle.il_core.specs.Program.{shape_at}
use Rattle.il_core.specs.Valid.{IsObjectShape, IsRoutineShape, is_wanted, IsRegIfSome, IsValidInstr, IsValidEnd, AreValidBlocks, IsValid}
use Rattle.il_check.specs.declared.flaw.Flaw.{Flaw}
use Rattle.il_check.specs.declared.flaw.Flaw.TheVariants.{Params, Register, Array, Object, Callee, Arguments, Result, Target, ReturnKind}
use Rattle.il_check.specs.Conditions.{first_broken, exist, is_object, is_routine, params_of, gives_value, callee_conditions, object_conditions}
use Rattle.il_check.specs.Conditions.{named_conditions, registers_exist, instr_conditions, end_conditions, is_later, blocks_conditions, conditions}
use Rattle.il_check.proofs.MetConditions.{front_met, rest_met, both_met, head_met, cons_met, one_met, two_met, one_meets, two_meet}

object_shape : (s : Option Shape) → is_object s ≡ true → IsObjectShape s
object_shape None h = absurd cc
object_shape (Some (shape.Object words)) h = tt
object_shape (Some (shape.Routine params value)) h = absurd cc

shape_object : (s : Option Shape) → IsObjectShape s → is_object s ≡ true
shape_object None h = absurd h
shape_object (Some (shape.Object words)) h = refl
shape_object (Some (shape.Routine params value)) h = absurd h

same_bool : (a b : Bool) → beq a b ≡ true → a ≡ b
same_bool true true h = refl
same_bool true false h = absurd cc
same_bool false true h = absurd cc
same_bool false false h = refl

bool_same : (a b : Bool) → a ≡ b → beq a b ≡ true
bool_same true true h = refl
bool_same true false h = absurd cc
bool_same false true h = absurd cc
bool_same false false h = refl

routine_shape : (s : Option Shape) (count : ℕ) (wanted : Bool) → is_routine s ≡ true → params_of s ≡ count → gives_value s ≡ wanted
    → IsRoutineShape s count wanted
routine_shape None count wanted h p v = absurd cc
routine_shape (Some (shape.Object words)) count wanted h p v = absurd cc
routine_shape (Some (shape.Routine params value)) count wanted h p v = (p, v)

shape_routine : (s : Option Shape) (count : ℕ) (wanted : Bool) → IsRoutineShape s count wanted
    → (is_routine s ≡ true) × (params_of s ≡ count) × (gives_value s ≡ wanted)
shape_routine None count wanted h = absurd h
shape_routine (Some (shape.Object words)) count wanted h = absurd h
shape_routine (Some (shape.Routine params value)) count wanted h = (refl, h.0, h.1)

all_less : (n : ℕ) (xs : List ℕ) → exist n xs ≡ true → AllByRecursion (λ x. x < n) xs
all_less n [] h = tt
all_less n (x ∷ xs) h = let r = and_parts (nat_lt x n) (exist n xs) h in (ltb-true x n r.0, all_less n xs r.1)

less_all : (n : ℕ) (xs : List ℕ) → AllByRecursion (λ x. x < n) xs → exist n xs ≡ true
less_all n [] h = refl
less_all n (x ∷ xs) h = and_from (nat_lt x n) (exist n xs) (lt-ltb x n h.0) (less_all n xs h.1)

dest_less : (n : ℕ) (d : Option ℕ) → exist n (option_to_list d) ≡ true → IsRegIfSome n d
dest_less n None h = tt
dest_less n (Some d) h = (all_less n (d ∷ []) h).0

less_dest : (n : ℕ) (d : Option ℕ) → IsRegIfSome n d → exist n (option_to_list d) ≡ true
less_dest n None h = refl
less_dest n (Some d) h = less_all n (d ∷ []) (h, tt)

wanted_some : (d : Option ℕ) → is_some d ≡ is_wanted d
wanted_some None = refl
wanted_some (Some d) = refl

abbrev Ok : List ShapeRow → ℕ → ℕ → Instr → Type 0
Ok rows regs arrays i = first_broken (instr_conditions rows regs arrays i) ≡ None

callee_valid : (s : Option Shape) (count : ℕ) (dest : Option ℕ) → first_broken (callee_conditions s count (is_some dest)) ≡ None
    → IsRoutineShape s count (is_wanted dest)
callee_valid s count dest h =
    let a = head_met (is_routine s) Callee ((nat_eq (params_of s) count, Arguments) ∷ (beq (gives_value s) (is_some dest), Result) ∷ []) h in
    let b = two_met (nat_eq (params_of s) count) (beq (gives_value s) (is_some dest)) Arguments Result a.1 in
    routine_shape s count (is_wanted dest) a.0 (eqb-true (params_of s) count b.0) (same_bool (gives_value s) (is_some dest) b.1 ∙ wanted_some dest)

valid_callee : (s : Option Shape) (count : ℕ) (dest : Option ℕ) → IsRoutineShape s count (is_wanted dest)
    → first_broken (callee_conditions s count (is_some dest)) ≡ None
valid_callee s count dest h =
    let r = shape_routine s count (is_wanted dest) h in
    cons_met (is_routine s) Callee ((nat_eq (params_of s) count, Arguments) ∷ (beq (gives_value s) (is_some dest), Result) ∷ []) r.0
    (two_meet (nat_eq (params_of s) count) (beq (gives_value s) (is_some dest)) Arguments Result (eq-eqb (params_of s) count r.1)
    (bool_same (gives_value s) (is_some dest) (r.2 ∙ sym (wanted_some dest))))

-- registers that are named exist
in_range : (regs : ℕ) (d : Option ℕ) (xs : List ℕ) → (exist regs (option_to_list d) && exist regs xs) ≡ true
    → IsRegIfSome regs d × AllByRecursion (λ x. x < regs) xs
in_range regs d xs h =
    let r = and_parts (exist regs (option_to_list d)) (exist regs xs) h in
    (dest_less regs d r.0, all_less regs xs r.1)

range_in : (regs : ℕ) (d : Option ℕ) (xs : List ℕ) → IsRegIfSome regs d → AllByRecursion (λ x. x < regs) xs
    → (exist regs (option_to_list d) && exist regs xs) ≡ true
range_in regs d xs h k = and_from (exist regs (option_to_list d)) (exist regs xs) (less_dest regs d h) (less_all regs xs k)

module _ (rows : List ShapeRow) (regs arrays : ℕ) where
  -- what is met of an instruction with this destination and these sources
  met : (i : Instr) → Ok rows regs arrays i → (registers_exist regs i ≡ true) × (first_broken (named_conditions rows arrays i) ≡ None)
  met i h = head_met (registers_exist regs i) Register (named_conditions rows arrays i) h

  named_object : (g : ℕ) → first_broken (object_conditions rows (Some g)) ≡ None → IsObjectShape (shape_at rows g)
  named_object g h = object_shape (shape_at rows g) (one_met _ Object h)

  object_named : (g : ℕ) → IsObjectShape (shape_at rows g) → first_broken (object_conditions rows (Some g)) ≡ None
  object_named g h = one_meets _ Object (shape_object (shape_at rows g) h)

  instr_valid : (i : Instr) → Ok rows regs arrays i → IsValidInstr rows regs arrays i
  instr_valid (Const d w) h = (in_range regs (Some d) [] (met (Const d w) h).0).0
  instr_valid (Move d s) h = let r = in_range regs (Some d) (s ∷ []) (met (Move d s) h).0 in (r.0, r.1.0)
  instr_valid (Conv d t s) h = let r = in_range regs (Some d) (s ∷ []) (met (Conv d t s) h).0 in (r.0, r.1.0)
  instr_valid (Bin o d a b) h = let r = in_range regs (Some d) (a ∷ b ∷ []) (met (Bin o d a b) h).0 in (r.0, r.1.0, r.1.1.0)
  instr_valid (Get d g) h = let m = met (Get d g) h in ((in_range regs (Some d) [] m.0).0, named_object g m.1)
  instr_valid (Set g s) h = let m = met (Set g s) h in ((in_range regs None (s ∷ []) m.0).1.0, named_object g m.1)
  instr_valid (GetX d g i) h =
      let m = met (GetX d g i) h in
      let r = in_range regs (Some d) (i ∷ []) m.0 in
      (r.0, r.1.0, named_object g m.1)
  instr_valid (SetX g i s) h =
      let m = met (SetX g i s) h in
      let r = in_range regs None (i ∷ s ∷ []) m.0 in
      (r.1.0, r.1.1.0, named_object g m.1)
  instr_valid (GetA d a i) h =
      let m = met (GetA d a i) h in
      let r = in_range regs (Some d) (i ∷ []) m.0 in
      (r.0, r.1.0, ltb-true a arrays (one_met _ Array m.1))
  instr_valid (SetA a i s) h =
      let m = met (SetA a i s) h in
      let r = in_range regs None (i ∷ s ∷ []) m.0 in
      (r.1.0, r.1.1.0, ltb-true a arrays (one_met _ Array m.1))
  instr_valid (Clear r c a m) h = let t = met (Clear r c a m) h in (leb-true (r + c) regs t.0, leb-true (a + m) arrays (one_met _ Array t.1))
  instr_valid Turn h = tt
  instr_valid (Call dest p count args) h =
      let m = met (Call dest p count args) h in
      let r = in_range regs dest args m.0 in
      (r.0, r.1, callee_valid (shape_at rows p) (length args) dest m.1)
  instr_valid (GetChar d) h = (in_range regs (Some d) [] (met (GetChar d) h).0).0
  instr_valid (PutChar d s) h = let r = in_range regs (Some d) (s ∷ []) (met (PutChar d s) h).0 in (r.0, r.1.0)

  meets : (i : Instr) → registers_exist regs i ≡ true → first_broken (named_conditions rows arrays i) ≡ None → Ok rows regs arrays i
  meets i h k = cons_met (registers_exist regs i) Register (named_conditions rows arrays i) h k

  valid_instr : (i : Instr) → IsValidInstr rows regs arrays i → Ok rows regs arrays i
  valid_instr (Const d w) h = meets (Const d w) (range_in regs (Some d) [] h tt) refl
  valid_instr (Move d s) h = meets (Move d s) (range_in regs (Some d) (s ∷ []) h.0 (h.1, tt)) refl
  valid_instr (Conv d t s) h = meets (Conv d t s) (range_in regs (Some d) (s ∷ []) h.0 (h.1, tt)) refl
  valid_instr (Bin o d a b) h = meets (Bin o d a b) (range_in regs (Some d) (a ∷ b ∷ []) h.0 (h.1, (h.2, tt))) refl
  valid_instr (Get d g) h = meets (Get d g) (range_in regs (Some d) [] h.0 tt) (object_named g h.1)
  valid_instr (Set g s) h = meets (Set g s) (range_in regs None (s ∷ []) tt (h.0, tt)) (object_named g h.1)
  valid_instr (GetX d g i) h = meets (GetX d g i) (range_in regs (Some d) (i ∷ []) h.0 (h.1, tt)) (object_named g h.2)
  valid_instr (SetX g i s) h = meets (SetX g i s) (range_in regs None (i ∷ s ∷ []) tt (h.0, (h.1, tt))) (object_named g h.2)
  valid_instr (GetA d a i) h = meets (GetA d a i) (range_in regs (Some d) (i ∷ []) h.0 (h.1, tt)) (one_meets _ Array (lt-ltb a arrays h.2))
  valid_instr (SetA a i s) h = meets (SetA a i s) (range_in regs None (i ∷ s ∷ []) tt (h.0, (h.1, tt))) (one_meets _ Array (lt-ltb a arrays h.2))
  valid_instr (Clear r c a m) h = meets (Clear r c a m) (le-leb (r + c) regs h.0) (one_meets _ Array (le-leb (a + m) arrays h.1))
  valid_instr Turn h = meets Turn refl refl
  valid_instr (Call dest p count args) h =
      meets (Call dest p count args) (range_in regs dest args h.0 h.1) (valid_callee (shape_at rows p) (length args) dest h.2)
  valid_instr (GetChar d) h = meets (GetChar d) (range_in regs (Some d) [] h tt) refl
  valid_instr (PutChar d s) h = meets (PutChar d s) (range_in regs (Some d) (s ∷ []) h.0 (h.1, tt)) refl

instrs_valid : (rows : List ShapeRow) (regs arrays : ℕ) (is : List Instr) → first_broken (flat_map (λ i. instr_conditions rows regs arrays i) is) ≡ None
    → AllByRecursion (IsValidInstr rows regs arrays) is
instrs_valid rows regs arrays [] h = tt
instrs_valid rows regs arrays (i ∷ is) h = (
  instr_valid rows regs arrays i (front_met (instr_conditions rows regs arrays i) _ h),
  instrs_valid rows regs arrays
      is (rest_met (instr_conditions rows regs arrays i) _ h),
)

valid_instrs : (rows : List ShapeRow) (regs arrays : ℕ) (is : List Instr) → AllByRecursion (IsValidInstr rows regs arrays) is
    → first_broken (flat_map (λ i. instr_conditions rows regs arrays i) is) ≡ None
valid_instrs rows regs arrays [] h = refl
valid_instrs rows regs arrays (i ∷ is) h = both_met (instr_conditions rows regs arrays i) _ (valid_instr rows regs arrays i h.0)
    (valid_instrs rows regs arrays is h.1)

later : (blocks b t : ℕ) → is_later blocks b t ≡ true → (b < t) × (t < blocks)
later blocks b t h = let r = and_parts (nat_lt b t) (nat_lt t blocks) h in (ltb-true b t r.0, ltb-true t blocks r.1)

later_is : (blocks b t : ℕ) → (b < t) × (t < blocks) → is_later blocks b t ≡ true
later_is blocks b t h = and_from (nat_lt b t) (nat_lt t blocks) (lt-ltb b t h.0) (lt-ltb t blocks h.1)

not_value : (v : Bool) → not v ≡ true → v ≡ false
not_value true h = absurd cc
not_value false h = refl

end_valid : (regs : ℕ) (value : Bool) (blocks b : ℕ) (e : End) → first_broken (end_conditions regs value blocks b e) ≡ None → IsValidEnd regs value blocks b e
end_valid regs value blocks b (ends.Jump t) h = later blocks b t (one_met _ Target h)
end_valid regs value blocks b (ends.Branch r t u) h = let s = two_met (nat_lt r regs) (is_later blocks b t && is_later blocks b u) Register Target h in let k =
    and_parts (is_later blocks b t) (is_later blocks b u) s.1 in (ltb-true r regs s.0, later blocks b t k.0, later blocks b u k.1)
end_valid regs value blocks b (ends.Loop t) h = leb-true t b (one_met _ Target h)
end_valid regs value blocks b (ends.Return None) h = (tt, not_value value (one_met _ ReturnKind h))
end_valid regs value blocks b (ends.Return (Some r)) h = let s = two_met (nat_lt r regs) value Register ReturnKind h in (ltb-true r regs s.0, s.1)
end_valid regs value blocks b (ends.Exit r) h = ltb-true r regs (one_met _ Register h)

valid_end : (regs : ℕ) (value : Bool) (blocks b : ℕ) (e : End) → IsValidEnd regs value blocks b e → first_broken (end_conditions regs value blocks b e) ≡ None
valid_end regs value blocks b (ends.Jump t) h = one_meets _ Target (later_is blocks b t h)
valid_end regs value blocks b (ends.Branch r t u) h = two_meet _ _ Register Target (lt-ltb r regs h.0)
    (and_from (is_later blocks b t) (is_later blocks b u) (later_is blocks b t h.1) (later_is blocks b u h.2))
valid_end regs value blocks b (ends.Loop t) h = one_meets _ Target (le-leb t b h)
valid_end regs value blocks b (ends.Return None) h = one_meets _ ReturnKind (ap not h.1)
valid_end regs value blocks b (ends.Return (Some r)) h = two_meet _ _ Register ReturnKind (lt-ltb r regs h.0) h.1
valid_end regs value blocks b (ends.Exit r) h = one_meets _ Register (lt-ltb r regs h)

blocks_valid : (rows : List ShapeRow) (r : RoutineParts) (b : ℕ) (xs : List Block) → first_broken (blocks_conditions rows r b xs) ≡ None
    → AreValidBlocks rows r b xs
blocks_valid rows r b [] h = tt
blocks_valid rows r b (x ∷ xs) h =
    let is : List _ = flat_map (λ i. instr_conditions rows r.regs (length r.arrays) i) x.instrs in
    let e : List _ = end_conditions r.regs r.value (length r.blocks) b x.end in
    let k = front_met (is ++ e) (blocks_conditions rows r (b + 1) xs) h in (
      instrs_valid rows r.regs (length r.arrays) x.instrs (front_met is e k),
      end_valid r.regs r.value (length r.blocks) b x.end (rest_met is e k),
      blocks_valid
          rows r (b + 1) xs (rest_met (is ++ e) (blocks_conditions rows r (b + 1) xs) h),
    )

valid_blocks : (rows : List ShapeRow) (r : RoutineParts) (b : ℕ) (xs : List Block) → AreValidBlocks rows r b xs
    → first_broken (blocks_conditions rows r b xs) ≡ None
valid_blocks rows r b [] h = refl
valid_blocks rows r b (x ∷ xs) h =
    both_met (flat_map (λ i. instr_conditions rows r.regs (length r.arrays) i) x.instrs ++ end_conditions r.regs r.value (length r.blocks) b x.end)
    (blocks_conditions rows r (b + 1) xs)
    (both_met (flat_map (λ i. instr_conditions rows r.regs (length r.arrays) i) x.instrs) (end_conditions r.regs r.value (length r.blocks) b x.end)
    (valid_instrs rows r.regs (length r.arrays) x.instrs h.0) (valid_end r.regs r.value (length r.blocks) b x.end h.1))
    (valid_blocks rows r (b + 1) xs h.2)

met_is_valid : (rows : List ShapeRow) (r : RoutineParts) → first_broken (conditions rows r) ≡ None → IsValid rows r
met_is_valid rows r h =
    let p = head_met _ Params ((nat_lt 0 (length r.blocks), Target) ∷ blocks_conditions rows r 0 r.blocks) h in
    let t = head_met _ Target (blocks_conditions rows r 0 r.blocks) p.1 in
    record { params = leb-true r.params r.regs p.0; some_block = ltb-true 0 (length r.blocks) t.0; blocks = blocks_valid rows r 0 r.blocks t.1 }

valid_is_met : (rows : List ShapeRow) (r : RoutineParts) → IsValid rows r → first_broken (conditions rows r) ≡ None
valid_is_met rows r h = cons_met _ Params ((nat_lt 0 (length r.blocks), Target) ∷ blocks_conditions rows r 0 r.blocks) (le-leb r.params r.regs h.params)
    (cons_met _ Target (blocks_conditions rows r 0 r.blocks) (lt-ltb 0 (length r.blocks) h.some_block) (valid_blocks rows r 0 r.blocks h.blocks))

is_none : {X : Type 0} (o : Option X) → IsNone o → o ≡ None
is_none None h = refl
is_none (Some x) h = absurd cc

none_is : {X : Type 0} (o : Option X) → o ≡ None → IsNone o
none_is None h = refl
none_is (Some x) h = absurd cc

pub tells_valid : (rows : List ShapeRow) (r : RoutineParts) (o : Option Flaw) → o ≡ first_broken (conditions rows r) → IsNone o ↔ IsValid rows r
tells_valid rows r o e = ((λ h. met_is_valid rows r (sym e ∙ is_none o h)), (λ h. none_is o (e ∙ valid_is_met rows r h)))

-- with registers for the parameters and a block, what is left are the blocks
pub past_start : (rows : List ShapeRow) (r : RoutineParts) → r.params ≤ r.regs → (length r.blocks == 0) ≡ false
    → first_broken (conditions rows r) ≡ first_broken (blocks_conditions rows r 0 r.blocks)
past_start rows r le some = rw (le-leb r.params r.regs le, lt-ltb 0 (length r.blocks) (omega (arith, eqb-false (length r.blocks) 0 some))) refl
