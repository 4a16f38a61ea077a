-- A statement by the register that gets its value, its name and its operands.
use Rattle.std.specs.Prelude.{ℕ, List, [], ◌∷◌, Option, Some, None, map, codes}
use Rattle.std.specs.Fmt.{decimal}
use Rattle.il_core.specs.declared.instr.Instr.TheVariants as instr
use Rattle.il_core.specs.declared.instr.End.TheVariants as ends
use Rattle.il_core.specs.Text.{Part, reg, array, block, global, word, type_name}
use Rattle.il_text.specs.declared.statement.Statement.{Statement}
use Rattle.il_text.specs.declared.statement.Statement.TheVariants.{Instr, End}
use Rattle.il_text.specs.declared.mnemonic.Mnemonic.{Mnemonic}
use Rattle.il_text.specs.declared.mnemonic.Mnemonic.TheVariants as name

abbrev pub dest_of : Statement → Option ℕ
dest_of (Instr (instr.Const d w)) = Some d
dest_of (Instr (instr.Move d s)) = Some d
dest_of (Instr (instr.Conv d t s)) = Some d
dest_of (Instr (instr.Bin o d a b)) = Some d
dest_of (Instr (instr.Get d g)) = Some d
dest_of (Instr (instr.Set g s)) = None
dest_of (Instr (instr.GetX d g i)) = Some d
dest_of (Instr (instr.SetX g i s)) = None
dest_of (Instr (instr.GetA d a i)) = Some d
dest_of (Instr (instr.SetA a i s)) = None
dest_of (Instr (instr.Clear r c a m)) = None
dest_of (Instr instr.Turn) = None
dest_of (Instr (instr.Call dest p n args)) = dest
dest_of (Instr (instr.GetChar d)) = Some d
dest_of (Instr (instr.PutChar d s)) = Some d
dest_of (End e) = None

abbrev pub name_of : Statement → Mnemonic
name_of (Instr (instr.Const d w)) = name.Const
name_of (Instr (instr.Move d s)) = name.Move
name_of (Instr (instr.Conv d t s)) = name.Conv
name_of (Instr (instr.Bin o d a b)) = name.Bin o
name_of (Instr (instr.Get d g)) = name.Get
name_of (Instr (instr.Set g s)) = name.Set
name_of (Instr (instr.GetX d g i)) = name.GetX
name_of (Instr (instr.SetX g i s)) = name.SetX
name_of (Instr (instr.GetA d a i)) = name.GetA
name_of (Instr (instr.SetA a i s)) = name.SetA
name_of (Instr (instr.Clear r c a m)) = name.Clear
name_of (Instr instr.Turn) = name.Turn
name_of (Instr (instr.Call dest p n args)) = name.Call
name_of (Instr (instr.GetChar d)) = name.GetChar
name_of (Instr (instr.PutChar d s)) = name.PutChar
name_of (End (ends.Jump t)) = name.Jump
name_of (End (ends.Branch r t u)) = name.Branch
name_of (End (ends.Loop t)) = name.Loop
name_of (End (ends.Return r)) = name.Return
name_of (End (ends.Exit r)) = name.Exit

abbrev pub operands_of : Statement → List Part
operands_of (Instr (instr.Const d w)) = word w ∷ []
operands_of (Instr (instr.Move d s)) = reg s ∷ []
operands_of (Instr (instr.Conv d t s)) = type_name t ∷ reg s ∷ []
operands_of (Instr (instr.Bin o d a b)) = reg a ∷ reg b ∷ []
operands_of (Instr (instr.Get d g)) = global g ∷ []
operands_of (Instr (instr.Set g s)) = global g ∷ reg s ∷ []
operands_of (Instr (instr.GetX d g i)) = global g ∷ reg i ∷ []
operands_of (Instr (instr.SetX g i s)) = global g ∷ reg i ∷ reg s ∷ []
operands_of (Instr (instr.GetA d a i)) = array a ∷ reg i ∷ []
operands_of (Instr (instr.SetA a i s)) = array a ∷ reg i ∷ reg s ∷ []
operands_of (Instr (instr.Clear r c a m)) = reg r ∷ decimal c ∷ array a ∷ decimal m ∷ []
operands_of (Instr instr.Turn) = []
operands_of (Instr (instr.Call dest p n args)) = decimal p ∷ codes "count" ∷ decimal n ∷ map reg args
operands_of (Instr (instr.GetChar d)) = []
operands_of (Instr (instr.PutChar d s)) = reg s ∷ []
operands_of (End (ends.Jump t)) = block t ∷ []
operands_of (End (ends.Branch r t u)) = reg r ∷ block t ∷ block u ∷ []
operands_of (End (ends.Loop t)) = block t ∷ []
operands_of (End (ends.Return None)) = []
operands_of (End (ends.Return (Some r))) = reg r ∷ []
operands_of (End (ends.Exit r)) = reg r ∷ []
