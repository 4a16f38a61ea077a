-- What a reader of the operands of a name has to answer.
use Rattle.std.specs.Prelude.{ℕ, ◌≡◌, ◌^◌, ◌<◌, IsTrue, List, [], ◌∷◌, Option, Some, None, ⊤}
use Rattle.std.specs.Fmt.{decimal}
use Rattle.hlo_num.specs.Words.{is_narrow}
use Rattle.hlo_num.specs.declared.word.Word.{Word}
use Rattle.hlo_num.specs.declared.word.Ty.{Ty}
use Rattle.il_core.specs.declared.instr.Instr.TheVariants as instr
use Rattle.il_core.specs.declared.instr.End.TheVariants as ends
use Rattle.il_core.specs.Limits.{IsPid}
use Rattle.il_core.specs.Text.{reg, array, block, global, word, type_name}
use Rattle.il_text.specs.declared.statement.Statement.{Statement}
use Rattle.il_text.specs.declared.statement.Statement.TheVariants as statement
use Rattle.text_lines.specs.declared.words.Words.{Words}
use Rattle.text_lines.specs.Words.{words_left}
use Rattle.il_text.specs.declared.mnemonic.Mnemonic.{Mnemonic}
use Rattle.il_text.specs.declared.mnemonic.Mnemonic.TheVariants as name

-- each instruction that register d gets by this name with these operands, but for calls
abbrev pub AnswersGets : ℕ → Mnemonic → List (List ℕ) → Option Statement → Type 0
AnswersGets d name.Const ws r = (w : Word) → w.0 < 2 ^ 32 → ws ≡ word w ∷ [] → r ≡ Some (statement.Instr (instr.Const d w))
AnswersGets d name.Move ws r = (s : ℕ) → s < 2 ^ 32 → ws ≡ reg s ∷ [] → r ≡ Some (statement.Instr (instr.Move d s))
AnswersGets d name.Conv ws r = (t : Ty) (s : ℕ) → IsTrue (is_narrow t) → s < 2 ^ 32 → ws ≡ type_name t ∷ reg s ∷ []
    → r ≡ Some (statement.Instr (instr.Conv d t s))
AnswersGets d (name.Bin o) ws r = (a b : ℕ) → a < 2 ^ 32 → b < 2 ^ 32 → ws ≡ reg a ∷ reg b ∷ [] → r ≡ Some (statement.Instr (instr.Bin o d a b))
AnswersGets d name.Get ws r = (g : ℕ) → IsPid g → ws ≡ global g ∷ [] → r ≡ Some (statement.Instr (instr.Get d g))
AnswersGets d name.GetX ws r = (g i : ℕ) → IsPid g → i < 2 ^ 32 → ws ≡ global g ∷ reg i ∷ [] → r ≡ Some (statement.Instr (instr.GetX d g i))
AnswersGets d name.GetA ws r = (a i : ℕ) → a < 2 ^ 32 → i < 2 ^ 32 → ws ≡ array a ∷ reg i ∷ [] → r ≡ Some (statement.Instr (instr.GetA d a i))
AnswersGets d name.GetChar ws r = ws ≡ [] → r ≡ Some (statement.Instr (instr.GetChar d))
AnswersGets d name.PutChar ws r = (s : ℕ) → s < 2 ^ 32 → ws ≡ reg s ∷ [] → r ≡ Some (statement.Instr (instr.PutChar d s))
AnswersGets d _ ws r = ⊤

-- each statement that no register gets by this name with these operands, but for calls
abbrev pub AnswersPlain : Mnemonic → List (List ℕ) → Option Statement → Type 0
AnswersPlain name.Set ws r = (g s : ℕ) → IsPid g → s < 2 ^ 32 → ws ≡ global g ∷ reg s ∷ [] → r ≡ Some (statement.Instr (instr.Set g s))
AnswersPlain name.SetX ws r = (g i s : ℕ) → IsPid g → i < 2 ^ 32 → s < 2 ^ 32 → ws ≡ global g ∷ reg i ∷ reg s ∷ []
    → r ≡ Some (statement.Instr (instr.SetX g i s))
AnswersPlain name.SetA ws r = (a i s : ℕ) → a < 2 ^ 32 → i < 2 ^ 32 → s < 2 ^ 32 → ws ≡ array a ∷ reg i ∷ reg s ∷ []
    → r ≡ Some (statement.Instr (instr.SetA a i s))
AnswersPlain name.Clear ws r = (n c a m : ℕ) → n < 2 ^ 32 → c < 2 ^ 32 → a < 2 ^ 32 → m < 2 ^ 32 → ws ≡ reg n ∷ decimal c ∷ array a ∷ decimal m ∷ []
    → r ≡ Some (statement.Instr (instr.Clear n c a m))
AnswersPlain name.Turn ws r = ws ≡ [] → r ≡ Some (statement.Instr instr.Turn)
AnswersPlain name.Jump ws r = (t : ℕ) → t < 2 ^ 32 → ws ≡ block t ∷ [] → r ≡ Some (statement.End (ends.Jump t))
AnswersPlain name.Branch ws r = (n t u : ℕ) → n < 2 ^ 32 → t < 2 ^ 32 → u < 2 ^ 32 → ws ≡ reg n ∷ block t ∷ block u ∷ []
    → r ≡ Some (statement.End (ends.Branch n t u))
AnswersPlain name.Loop ws r = (t : ℕ) → t < 2 ^ 32 → ws ≡ block t ∷ [] → r ≡ Some (statement.End (ends.Loop t))
AnswersPlain name.Return ws r = (ws ≡ [] → r ≡ Some (statement.End (ends.Return None))) ×
    ((n : ℕ) → n < 2 ^ 32 → ws ≡ reg n ∷ [] → r ≡ Some (statement.End (ends.Return (Some n))))
AnswersPlain name.Exit ws r = (n : ℕ) → n < 2 ^ 32 → ws ≡ reg n ∷ [] → r ≡ Some (statement.End (ends.Exit n))
AnswersPlain _ ws r = ⊤

-- a callee and a count were read, and these words are left
abbrev pub IsCallHead : Option (ℕ × ℕ × Words) → ℕ → ℕ → List (List ℕ) → Type 0
IsCallHead None p n ws = ⊥
IsCallHead (Some r) p n ws = (r.0 ≡ p) × (r.1 ≡ n) × (words_left r.2 ≡ ws)
