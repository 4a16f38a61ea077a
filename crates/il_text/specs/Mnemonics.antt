-- How instructions and ends are named.
use Rattle.std.specs.Prelude.{ℕ, nat_eq, if◌then◌else◌, List, [], ◌∷◌, Option, Some, None, codes}
use Rattle.std.specs.Cmp.Lexicographic.{pointwise}
use Rattle.hlo_num.specs.declared.word.Op.TheVariants as op
use Rattle.il_core.specs.Text.{op_name}
use Rattle.il_text.specs.declared.mnemonic.Mnemonic.{Mnemonic}
use Rattle.il_text.specs.declared.mnemonic.Mnemonic.TheVariants.{Const, Move, Conv, Bin, Get, Set, GetX, SetX, GetA, SetA, Clear, Turn, Call, GetChar}
use Rattle.il_text.specs.declared.mnemonic.Mnemonic.TheVariants.{PutChar, Jump, Branch, Loop, Return, Exit}

abbrev pub mnemonic_text : Mnemonic → List ℕ
mnemonic_text Const = codes "const"
mnemonic_text Move = codes "move"
mnemonic_text Conv = codes "conv"
mnemonic_text (Bin o) = op_name o
mnemonic_text Get = codes "get"
mnemonic_text Set = codes "set"
mnemonic_text GetX = codes "getx"
mnemonic_text SetX = codes "setx"
mnemonic_text GetA = codes "geta"
mnemonic_text SetA = codes "seta"
mnemonic_text Clear = codes "clear"
mnemonic_text Turn = codes "turn"
mnemonic_text Call = codes "call"
mnemonic_text GetChar = codes "getchar"
mnemonic_text PutChar = codes "putchar"
mnemonic_text Jump = codes "jump"
mnemonic_text Branch = codes "branch"
mnemonic_text Loop = codes "loop"
mnemonic_text Return = codes "return"
mnemonic_text Exit = codes "exit"

abbrev pub mnemonics : List Mnemonic
mnemonics =
    Const ∷ Move ∷ Get ∷ Set ∷ Bin op.AddS ∷ Bin op.AddU ∷ Bin op.SubS ∷ Bin op.SubU ∷ Bin op.MulS ∷ Bin op.MulU ∷ Bin op.DivS ∷ Bin op.DivU ∷ Bin op.RemS ∷ Bin
    op.RemU
    ∷ Bin op.And ∷ Bin op.Or ∷ Bin op.Xor ∷ Bin op.Shl ∷ Bin op.ShrS ∷ Bin op.ShrU ∷ Bin op.Eq ∷ Bin op.Ne ∷ Bin op.LtS ∷ Bin op.LtU ∷ Bin op.LeS ∷ Bin op.LeU
    ∷ Conv ∷ GetX ∷ SetX ∷ GetA ∷ SetA ∷ Clear ∷ Turn ∷ Call ∷ GetChar ∷ PutChar ∷ Jump ∷ Branch ∷ Loop ∷ Return ∷ Exit ∷ []

-- the first of these things that has this text
abbrev pub named : {A : Type 0} → (A → List ℕ) → List A → List ℕ → Option A
named text [] bytes = None
named text (a ∷ rest) bytes = if pointwise nat_eq bytes (text a) then Some a else named text rest bytes

unfoldable pub mnemonic_named : List ℕ → Option Mnemonic
mnemonic_named word = named mnemonic_text mnemonics word
