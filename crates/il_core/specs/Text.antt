-- The text of a program: one list of bytes for each valid program, line by line. Each line ends with LF, and its parts
-- are separated by one space. Numbers are decimal without leading zeros; words are signed, counts unsigned.
use Rattle.std.specs.Prelude.{ℕ, ◌+◌, Bool, true, false, List, [], ◌∷◌, ◌++◌, Option, Some, None, map, flat_map, codes}
use Rattle.std.specs.List.{join_with_byte}
use Rattle.std.specs.Fmt.{decimal, signed_decimal}
use Rattle.hlo_num.specs.Words.{signed}
use Rattle.hlo_num.specs.declared.word.Word.{Word}
use Rattle.hlo_num.specs.declared.word.Op.{Op}
use Rattle.hlo_num.specs.declared.word.Op.TheVariants as op
use Rattle.hlo_num.specs.declared.word.Ty.{Ty}
use Rattle.hlo_num.specs.declared.word.Ty.TheVariants as ty
use Rattle.il_core.specs.declared.instr.Block.{Block}
use Rattle.il_core.specs.declared.instr.Instr.{Instr}
use Rattle.il_core.specs.declared.instr.Instr.TheVariants.{Const, Move, Conv, Bin, Get, Set, GetX, SetX, GetA, SetA, Clear, Turn, Call, GetChar, PutChar}
use Rattle.il_core.specs.declared.instr.End.{End}
use Rattle.il_core.specs.declared.instr.End.TheVariants as ends
use Rattle.il_core.specs.declared.shape.ShapeRow.{ShapeRow}
use Rattle.il_core.specs.declared.program.IlProgram.{IlProgram}
use Rattle.il_core.specs.Object.{ObjectParts}
use Rattle.il_core.specs.Routine.{RoutineParts}
use Rattle.il_core.specs.Program.{name_at}

-- a part of a line
abbrev pub Part : Type 0
Part = List ℕ

abbrev pub line : List Part → List ℕ
line parts = join_with_byte 32 parts ++ 10 ∷ []

-- a line inside a block
abbrev pub indented : List Part → List ℕ
indented parts = 32 ∷ 32 ∷ line parts

-- r4, a1, b0, g7
abbrev pub reg : ℕ → Part
reg n = 114 ∷ decimal n

abbrev pub array : ℕ → Part
array n = 97 ∷ decimal n

abbrev pub block : ℕ → Part
block n = 98 ∷ decimal n

abbrev pub global : ℕ → Part
global pid = 103 ∷ decimal pid

abbrev pub word : Word → Part
word w = signed_decimal (signed w.0)

abbrev pub op_name : Op → Part
op_name op.AddS = codes "adds"
op_name op.AddU = codes "addu"
op_name op.SubS = codes "subs"
op_name op.SubU = codes "subu"
op_name op.MulS = codes "muls"
op_name op.MulU = codes "mulu"
op_name op.DivS = codes "divs"
op_name op.DivU = codes "divu"
op_name op.RemS = codes "rems"
op_name op.RemU = codes "remu"
op_name op.And = codes "and"
op_name op.Or = codes "or"
op_name op.Xor = codes "xor"
op_name op.Shl = codes "shl"
op_name op.ShrS = codes "shrs"
op_name op.ShrU = codes "shru"
op_name op.Eq = codes "eq"
op_name op.Ne = codes "ne"
op_name op.LtS = codes "lts"
op_name op.LtU = codes "ltu"
op_name op.LeS = codes "les"
op_name op.LeU = codes "leu"

-- a narrow type's name; the others stand in no conversion
abbrev pub type_name : Ty → Part
type_name ty.Char = codes "char"
type_name ty.UChar = codes "uchar"
type_name ty.Short = codes "short"
type_name ty.UShort = codes "ushort"
type_name ty.Int = codes "int"
type_name ty.UInt = codes "uint"
type_name ty.Long = codes "long"
type_name ty.ULong = codes "ulong"

-- a register gets what stands behind the `=`
abbrev pub gets : ℕ → List Part → List Part
gets d parts = reg d ∷ codes "=" ∷ parts

abbrev pub gets_if_some : Option ℕ → List Part → List Part
gets_if_some None parts = parts
gets_if_some (Some d) parts = gets d parts

abbrev pub instr_parts : Instr → List Part
instr_parts (Const d w) = gets d (codes "const" ∷ word w ∷ [])
instr_parts (Move d s) = gets d (codes "move" ∷ reg s ∷ [])
instr_parts (Conv d t s) = gets d (codes "conv" ∷ type_name t ∷ reg s ∷ [])
instr_parts (Bin o d a b) = gets d (op_name o ∷ reg a ∷ reg b ∷ [])
instr_parts (Get d g) = gets d (codes "get" ∷ global g ∷ [])
instr_parts (Set g s) = codes "set" ∷ global g ∷ reg s ∷ []
instr_parts (GetX d g i) = gets d (codes "getx" ∷ global g ∷ reg i ∷ [])
instr_parts (SetX g i s) = codes "setx" ∷ global g ∷ reg i ∷ reg s ∷ []
instr_parts (GetA d a i) = gets d (codes "geta" ∷ array a ∷ reg i ∷ [])
instr_parts (SetA a i s) = codes "seta" ∷ array a ∷ reg i ∷ reg s ∷ []
instr_parts (Clear r c a m) = codes "clear" ∷ reg r ∷ decimal c ∷ array a ∷ decimal m ∷ []
instr_parts Turn = codes "turn" ∷ []
instr_parts (Call dest p count args) = gets_if_some dest (codes "call" ∷ decimal p ∷ codes "count" ∷ decimal count ∷ map reg args)
instr_parts (GetChar d) = gets d (codes "getchar" ∷ [])
instr_parts (PutChar d s) = gets d (codes "putchar" ∷ reg s ∷ [])

abbrev pub end_parts : End → List Part
end_parts (ends.Jump t) = codes "jump" ∷ block t ∷ []
end_parts (ends.Branch r t u) = codes "branch" ∷ reg r ∷ block t ∷ block u ∷ []
end_parts (ends.Loop t) = codes "loop" ∷ block t ∷ []
end_parts (ends.Return None) = codes "return" ∷ []
end_parts (ends.Return (Some r)) = codes "return" ∷ reg r ∷ []
end_parts (ends.Exit r) = codes "exit" ∷ reg r ∷ []

-- block b: its label, its instructions, its end
abbrev pub block_text : ℕ → Block → List ℕ
block_text b x = line ((block b ++ 58 ∷ []) ∷ []) ++ flat_map (λ i. indented (instr_parts i)) x.instrs ++ indented (end_parts x.end)

-- blocks in order, from number b on
abbrev pub blocks_text : ℕ → List Block → List ℕ
blocks_text b [] = []
blocks_text b (x ∷ xs) = block_text b x ++ blocks_text (b + 1) xs

abbrev pub value_name : Bool → Part
value_name true = codes "value"
value_name false = codes "void"

-- the lengths of the local arrays, where there are any
abbrev pub arrays_parts : List ℕ → List Part
arrays_parts [] = []
arrays_parts (n ∷ ns) = codes "arrays" ∷ map decimal (n ∷ ns)

abbrev pub routine_parts : List ℕ → RoutineParts → List Part
routine_parts name r =
    codes "routine" ∷ decimal r.pid ∷ name ∷ codes "params" ∷ decimal r.params ∷ value_name r.value ∷ codes "regs" ∷ decimal r.regs ∷ codes "entry" ∷ decimal
    r.entry ∷ arrays_parts r.arrays

-- a routine under its name
abbrev pub routine_text : List ℕ → RoutineParts → List ℕ
routine_text name r = line (routine_parts name r) ++ blocks_text 0 r.blocks ++ line (codes "end" ∷ [])

-- the words at the start, where there are any
abbrev pub init_parts : List Word → List Part
init_parts [] = []
init_parts (w ∷ ws) = codes "=" ∷ map word (w ∷ ws)

abbrev pub object_parts : List ℕ → ObjectParts → List Part
object_parts name o = codes "object" ∷ decimal o.pid ∷ name ∷ decimal o.words ∷ init_parts o.init

-- the first line, and the objects
abbrev pub head_text : List ShapeRow → List ObjectParts → List ℕ
head_text rows os = line (codes "hlo-il" ∷ codes "1" ∷ []) ++ flat_map (λ o. line (object_parts (name_at rows o.pid) o)) os

abbrev pub done_text : List ℕ
done_text = line (codes "done" ∷ [])

abbrev pub routines_text : List ShapeRow → List RoutineParts → List ℕ
routines_text rows rs = flat_map (λ r. routine_text (name_at rows r.pid) r) rs

-- the text of a program
abbrev pub text : IlProgram → List ℕ
text p = head_text p.shapes p.objects ++ routines_text p.shapes p.routines ++ done_text
