-- The words of a line have no spaces and no line feeds.
use Rattle.std.proofs.Common.{ℕ, ◌-◌, ◌^◌, ◌<◌, Bool, true, false, List, [], ◌∷◌, ◌++◌, Option, Some, None, refl, sym, subst, arith, inl, inr}
use Rattle.std.specs.Prelude.{option_to_list}
use Rattle.std.specs.Fmt.{decimal}
use Rattle.std.proofs.lemmas.Bool.{cases_lt}
use Rattle.hlo_num.specs.declared.word.Op.{Op}
use Rattle.hlo_num.specs.declared.word.Op.TheVariants as op
use Rattle.hlo_num.specs.declared.word.Ty.{Ty}
use Rattle.hlo_num.specs.declared.word.Ty.TheVariants as ty
use Rattle.hlo_num.specs.declared.word.Word.{Word}
use Rattle.il_core.specs.Limits.{max_pids}
use Rattle.il_core.specs.declared.instr.Instr.TheVariants as instr
use Rattle.il_core.specs.declared.instr.End.TheVariants as ends
use Rattle.il_core.specs.Ranges.{AreWords, AreConstants}
use Rattle.il_core.specs.Text.{reg, array, block, global, word, type_name, gets_if_some, arrays_parts, init_parts, value_name}
use Rattle.il_text.specs.declared.line.Line.{Line}
use Rattle.il_text.specs.declared.line.Line.TheVariants.{First, Object, Routine, Label, Inside, Close, Done}
use Rattle.il_text.specs.declared.mnemonic.Mnemonic.{Mnemonic}
use Rattle.il_text.specs.declared.mnemonic.Mnemonic.TheVariants as name
use Rattle.il_text.specs.declared.statement.Statement.{Statement}
use Rattle.il_text.specs.declared.statement.Statement.TheVariants as statement
use Rattle.il_text.specs.Lines.{IsFitLine, IsFitStatement, line_words, statement_parts}
use Rattle.il_text.specs.Mnemonics.{mnemonic_text}
use Rattle.il_text.specs.Parts.{dest_of, name_of, operands_of}
use Rattle.text_lines.proofs.Decimals.{without_sign, with_sign}
use Rattle.text_lines.proofs.Spaceless.{IsPlain, ArePlain, decimal_plain, lettered_plain, all_plain, name_plain, append_plain}
use Rattle.il_text.proofs.LineForms.{words_of_sum}
use Rattle.il_text.proofs.StatementForms.{by_parts, dest_fits}

reg_plain : (n : ℕ) → n < 2 ^ 32 → IsPlain (reg n)
reg_plain n lt = lettered_plain 114 n (omega arith) lt

array_plain : (n : ℕ) → n < 2 ^ 32 → IsPlain (array n)
array_plain n lt = lettered_plain 97 n (omega arith) lt

block_plain : (n : ℕ) → n < 2 ^ 32 → IsPlain (block n)
block_plain n lt = lettered_plain 98 n (omega arith) lt

global_plain : (n : ℕ) → n < max_pids → IsPlain (global n)
global_plain n lt = lettered_plain 103 n (omega arith) (omega arith)

word_plain : (w : Word) → w.0 < 2 ^ 32 → IsPlain (word w)
word_plain w lt = elim (cases_lt w.0 (2 ^ 31)) [
  | inl small ↦ subst IsPlain (sym (without_sign w.0 small)) (decimal_plain w.0 lt)
  | inr large ↦ subst IsPlain (sym (with_sign w.0 (2 ^ 32 - w.0) large lt refl)) (lettered_plain 45 (2 ^ 32 - w.0) (omega arith) (omega arith))
]

op_plain : (o : Op) → IsPlain (mnemonic_text (name.Bin o))
op_plain op.AddS = refl
op_plain op.AddU = refl
op_plain op.SubS = refl
op_plain op.SubU = refl
op_plain op.MulS = refl
op_plain op.MulU = refl
op_plain op.DivS = refl
op_plain op.DivU = refl
op_plain op.RemS = refl
op_plain op.RemU = refl
op_plain op.And = refl
op_plain op.Or = refl
op_plain op.Xor = refl
op_plain op.Shl = refl
op_plain op.ShrS = refl
op_plain op.ShrU = refl
op_plain op.Eq = refl
op_plain op.Ne = refl
op_plain op.LtS = refl
op_plain op.LtU = refl
op_plain op.LeS = refl
op_plain op.LeU = refl

mnemonic_plain : (m : Mnemonic) → IsPlain (mnemonic_text m)
mnemonic_plain name.Const = refl
mnemonic_plain name.Move = refl
mnemonic_plain name.Conv = refl
mnemonic_plain (name.Bin o) = op_plain o
mnemonic_plain name.Get = refl
mnemonic_plain name.Set = refl
mnemonic_plain name.GetX = refl
mnemonic_plain name.SetX = refl
mnemonic_plain name.GetA = refl
mnemonic_plain name.SetA = refl
mnemonic_plain name.Clear = refl
mnemonic_plain name.Turn = refl
mnemonic_plain name.Call = refl
mnemonic_plain name.GetChar = refl
mnemonic_plain name.PutChar = refl
mnemonic_plain name.Jump = refl
mnemonic_plain name.Branch = refl
mnemonic_plain name.Loop = refl
mnemonic_plain name.Return = refl
mnemonic_plain name.Exit = refl

type_plain : (t : Ty) → IsPlain (type_name t)
type_plain ty.Char = refl
type_plain ty.UChar = refl
type_plain ty.Short = refl
type_plain ty.UShort = refl
type_plain ty.Int = refl
type_plain ty.UInt = refl
type_plain ty.Long = refl
type_plain ty.ULong = refl

dest_plain : (o : Option ℕ) (ws : List (List ℕ)) → AreWords (option_to_list o) → ArePlain ws → ArePlain (gets_if_some o ws)
dest_plain None ws h k = k
dest_plain (Some d) ws h k = (reg_plain d h.0, (refl, k))

call_range : (dest : Option ℕ) (p n : ℕ) (args : List ℕ) → AreWords (option_to_list dest ++ p ∷ n ∷ args) → (n < 2 ^ 32) × AreWords args
call_range None p n args h = (h.1.0, h.1.1)
call_range (Some d) p n args h = (h.1.1.0, h.1.1.1)

operands_plain : (s : Statement) → IsFitStatement s → ArePlain (operands_of s)
operands_plain (statement.Instr (instr.Const d w)) h = (word_plain w h.1.1.0, tt)
operands_plain (statement.Instr (instr.Move d s)) h = (reg_plain s h.1.1.0, tt)
operands_plain (statement.Instr (instr.Conv d t s)) h = (type_plain t, (reg_plain s h.1.1.0, tt))
operands_plain (statement.Instr (instr.Bin o d a b)) h = (reg_plain a h.1.1.0, (reg_plain b h.1.1.1.0, tt))
operands_plain (statement.Instr (instr.Get d g)) h = (global_plain g h.0, tt)
operands_plain (statement.Instr (instr.Set g s)) h = (global_plain g h.0, (reg_plain s h.1.1.0, tt))
operands_plain (statement.Instr (instr.GetX d g i)) h = (global_plain g h.0, (reg_plain i h.1.1.1.0, tt))
operands_plain (statement.Instr (instr.SetX g i s)) h = (global_plain g h.0, (reg_plain i h.1.1.0, (reg_plain s h.1.1.1.0, tt)))
operands_plain (statement.Instr (instr.GetA d a i)) h = (array_plain a h.1.1.0, (reg_plain i h.1.1.1.0, tt))
operands_plain (statement.Instr (instr.SetA a i s)) h = (array_plain a h.1.0, (reg_plain i h.1.1.0, (reg_plain s h.1.1.1.0, tt)))
operands_plain (statement.Instr (instr.Clear r c a m)) h = (
  reg_plain r h.1.0,
  (decimal_plain c h.1.1.0, (array_plain a h.1.1.1.0, (decimal_plain m h.1.1.1.1.0, tt))),
)
operands_plain (statement.Instr instr.Turn) h = tt
operands_plain (statement.Instr (instr.Call dest p n args)) h = let r = call_range dest p n args h.1
    in (decimal_plain p (omega (arith, h.0.0)), (refl, (decimal_plain n r.0, all_plain reg (λ m. m < 2 ^ 32) reg_plain args r.1)))
operands_plain (statement.Instr (instr.GetChar d)) h = tt
operands_plain (statement.Instr (instr.PutChar d s)) h = (reg_plain s h.1.1.0, tt)
operands_plain (statement.End (ends.Jump t)) h = (block_plain t h.0, tt)
operands_plain (statement.End (ends.Branch r t u)) h = (reg_plain r h.0, (block_plain t h.1.0, (block_plain u h.1.1.0, tt)))
operands_plain (statement.End (ends.Loop t)) h = (block_plain t h.0, tt)
operands_plain (statement.End (ends.Return None)) h = tt
operands_plain (statement.End (ends.Return (Some r))) h = (reg_plain r h.0, tt)
operands_plain (statement.End (ends.Exit r)) h = (reg_plain r h.0, tt)

statement_plain : (s : Statement) → IsFitStatement s → ArePlain (statement_parts s)
statement_plain s h = subst ArePlain (sym (by_parts s)) (dest_plain (dest_of s) (mnemonic_text (name_of s) ∷ operands_of s) (dest_fits s h)
    (mnemonic_plain (name_of s), operands_plain s h))

init_plain : (ws : List Word) → AreConstants ws → ArePlain (init_parts ws)
init_plain [] h = tt
init_plain (w ∷ ws) h = (refl, all_plain word (λ (v : Word). v.0 < 2 ^ 32) word_plain (w ∷ ws) h)

arrays_plain : (ns : List ℕ) → AreWords ns → ArePlain (arrays_parts ns)
arrays_plain [] h = tt
arrays_plain (n ∷ ns) h = (refl, all_plain decimal (λ m. m < 2 ^ 32) decimal_plain (n ∷ ns) h)

value_plain : (v : Bool) → IsPlain (value_name v)
value_plain true = refl
value_plain false = refl

-- the words of a line that fits are plain
pub line_plain : (l : Line) → IsFitLine l → ArePlain (line_words l)
line_plain First h = (refl, (refl, tt))
line_plain (Object o) h = (
  refl,
  (
    decimal_plain o.object.pid (omega (arith, h.pid)),
    (name_plain o.name h.name.1, (decimal_plain o.object.words h.words, init_plain o.object.init h.init)),
  ),
)
line_plain (Routine r) h = (
  refl,
  (
    decimal_plain r.routine.pid (omega (arith, h.limits.pid)),
    (
      name_plain r.name h.name.1,
      (
        refl,
        (
          decimal_plain r.routine.params (omega (arith, h.limits.params)),
          (
            value_plain r.routine.value,
            (
              refl,
              (
                decimal_plain r.routine.regs (omega (arith, h.limits.regs)),
                (refl, (decimal_plain r.routine.entry h.entry, arrays_plain r.routine.arrays (words_of_sum r.routine.arrays h.limits.elements))),
              ),
            ),
          ),
        ),
      ),
    ),
  ),
)
line_plain (Label n) h = (append_plain (block n) (58 ∷ []) (block_plain n h) refl, tt)
line_plain (Inside s) h = (refl, (refl, statement_plain s h))
line_plain Close h = (refl, tt)
line_plain Done h = (refl, tt)
