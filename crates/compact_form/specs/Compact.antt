-- The compact form of a routine. An instruction or an end is an opcode's byte and its numbers; a list is its length and
-- its items. Routines and objects are named by their PIDs alone.
use Rattle.std.specs.Prelude.{ℕ, ◌+◌, Bool, true, false, List, [], ◌∷◌, ◌++◌, Some, None, length}
use Rattle.hlo_num.specs.declared.word.Op.{Op}
use Rattle.hlo_num.specs.declared.word.Op.TheVariants.{AddS, AddU, SubS, SubU, MulS, MulU, DivS, DivU, RemS, RemU, And, Or, Xor, Shl, ShrS, ShrU, Eq}
use Rattle.hlo_num.specs.declared.word.Op.TheVariants.{Ne, LtS, LtU, LeS, LeU}
use Rattle.hlo_num.specs.declared.word.Ty.{Ty}
use Rattle.hlo_num.specs.declared.word.Ty.TheVariants.{Char, UChar, Short, UShort}
use Rattle.il_core.specs.declared.instr.Block.{Block}
use Rattle.il_core.specs.declared.instr.Instr.{Instr}
use Rattle.il_core.specs.declared.instr.Instr.TheVariants.{Const, Move, Conv, Bin, Get, Set, GetX, SetX, GetA, SetA, Clear, Turn, Call, GetChar, PutChar}
use Rattle.il_core.specs.declared.instr.End.{End}
use Rattle.il_core.specs.declared.instr.End.TheVariants.{Jump, Branch, Loop, Return, Exit}
use Rattle.il_core.specs.Limits.{IsWithinLimits}
use Rattle.il_core.specs.Ranges.{IsRoutineOfWords}
use Rattle.il_core.specs.Routine.{RoutineParts}
use Rattle.compact_form.specs.Numbers.{forms, spelled, spelled_all}

-- the operators, by their place in the list of the IL text
abbrev pub place_of : Op → ℕ
place_of AddS = 0
place_of AddU = 1
place_of SubS = 2
place_of SubU = 3
place_of MulS = 4
place_of MulU = 5
place_of DivS = 6
place_of DivU = 7
place_of RemS = 8
place_of RemU = 9
place_of And = 10
place_of Or = 11
place_of Xor = 12
place_of Shl = 13
place_of ShrS = 14
place_of ShrU = 15
place_of Eq = 16
place_of Ne = 17
place_of LtS = 18
place_of LtU = 19
place_of LeS = 20
place_of LeU = 21

-- the narrow types, by number
abbrev pub number_of : Ty → ℕ
number_of Char = 0
number_of UChar = 1
number_of Short = 2
number_of UShort = 3
number_of _ = 4

abbrev pub opcode : Instr → ℕ
opcode (Const d w) = 0x00
opcode (Move d s) = 0x01
opcode (Conv d t s) = 0x02
opcode (Get d g) = 0x03
opcode (Set g s) = 0x04
opcode (GetX d g i) = 0x05
opcode (SetX g i s) = 0x06
opcode (GetA d a i) = 0x07
opcode (SetA a i s) = 0x08
opcode (Clear r n a m) = 0x09
opcode Turn = 0x0a
opcode (Call None f n args) = 0x0b
opcode (Call (Some d) f n args) = 0x0c
opcode (GetChar d) = 0x0d
opcode (PutChar d s) = 0x0e
opcode (Bin o d a b) = 0x10 + place_of o

abbrev pub operands : Instr → List ℕ
operands (Const d w) = d ∷ w.0 ∷ []
operands (Move d s) = d ∷ s ∷ []
operands (Conv d t s) = d ∷ number_of t ∷ s ∷ []
operands (Get d g) = d ∷ g ∷ []
operands (Set g s) = g ∷ s ∷ []
operands (GetX d g i) = d ∷ g ∷ i ∷ []
operands (SetX g i s) = g ∷ i ∷ s ∷ []
operands (GetA d a i) = d ∷ a ∷ i ∷ []
operands (SetA a i s) = a ∷ i ∷ s ∷ []
operands (Clear r n a m) = r ∷ n ∷ a ∷ m ∷ []
operands Turn = []
operands (Call None f n args) = f ∷ n ∷ length args ∷ args
operands (Call (Some d) f n args) = d ∷ f ∷ n ∷ length args ∷ args
operands (GetChar d) = d ∷ []
operands (PutChar d s) = d ∷ s ∷ []
operands (Bin o d a b) = d ∷ a ∷ b ∷ []

abbrev pub instr_form : Instr → List ℕ
instr_form i = opcode i ∷ spelled_all (operands i)

abbrev pub end_opcode : End → ℕ
end_opcode (Jump t) = 0x40
end_opcode (Branch r t u) = 0x41
end_opcode (Loop t) = 0x42
end_opcode (Return None) = 0x43
end_opcode (Return (Some r)) = 0x44
end_opcode (Exit r) = 0x45

abbrev pub end_operands : End → List ℕ
end_operands (Jump t) = t ∷ []
end_operands (Branch r t u) = r ∷ t ∷ u ∷ []
end_operands (Loop t) = t ∷ []
end_operands (Return None) = []
end_operands (Return (Some r)) = r ∷ []
end_operands (Exit r) = r ∷ []

abbrev pub end_form : End → List ℕ
end_form e = end_opcode e ∷ spelled_all (end_operands e)

-- a list: its length and its items
abbrev pub counted : {X : Type 0} → (X → List ℕ) → List X → List ℕ
counted form xs = spelled (length xs) ++ forms form xs

abbrev pub block_form : Block → List ℕ
block_form b = counted instr_form b.instrs ++ end_form b.end

abbrev pub flag : Bool → ℕ
flag true = 1
flag false = 0

abbrev pub head_numbers : RoutineParts → List ℕ
head_numbers r = r.pid ∷ r.params ∷ flag r.value ∷ r.regs ∷ r.entry ∷ []

-- the bytes of a routine
abbrev pub compact : RoutineParts → List ℕ
compact r = spelled_all (head_numbers r) ++ (counted spelled r.arrays ++ counted block_form r.blocks)

-- a routine whose numbers fit 32 bits and keep the limits of the language
pub record IsRoutine (r : RoutineParts) : Type 0 where
  pub limits : IsWithinLimits r
  pub words : IsRoutineOfWords r
