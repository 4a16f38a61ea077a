-- Statements by the register that gets their value, their names and their operands.
use Rattle.std.proofs.Common.{◌≡◌, ℕ, ◌^◌, ◌<◌, Bool, true, false, List, [], ◌∷◌, Option, Some, None, refl, sym, ◌∙◌, ap, subst, arith}
use Rattle.std.specs.Prelude.{codes, ◌&&◌, nat_le, ◌==◌, option_to_list}
use Rattle.std.specs.Fmt.{decimal}
use Rattle.std.proofs.lemmas.Bool.{le-leb, true≢false}
use Rattle.std.proofs.lemmas.Fmt.{decimal_injective}
use Rattle.hlo_num.specs.declared.word.Op.TheVariants as op
use Rattle.il_core.specs.declared.instr.Instr.TheVariants as instr
use Rattle.il_core.specs.declared.instr.End.TheVariants as ends
use Rattle.il_core.specs.Ranges.{AreWords}
use Rattle.il_core.specs.Text.{reg, gets_if_some}
use Rattle.il_text.specs.declared.mnemonic.Mnemonic.{Mnemonic}
use Rattle.il_text.specs.declared.mnemonic.Mnemonic.TheVariants as name
use Rattle.il_text.specs.declared.statement.Statement.{Statement}
use Rattle.il_text.specs.declared.statement.Statement.TheVariants.{Instr, End}
use Rattle.il_text.specs.Lines.{IsFitStatement, statement_parts}
use Rattle.il_text.specs.Mnemonics.{mnemonic_text}
use Rattle.il_text.specs.Parts.{dest_of, name_of, operands_of}
use Rattle.il_text.specs.Statements.{AnswersGets, AnswersPlain}
use Rattle.text_lines.proofs.Decimals.{decimal_begins}

abbrev pub clear_of : Option (ℕ × ℕ × ℕ × ℕ) → Option Statement
clear_of None = None
clear_of (Some x) = Some (Instr (instr.Clear x.0 x.1 x.2 x.3))

-- a statement's words
pub by_parts : (s : Statement) → statement_parts s ≡ gets_if_some (dest_of s) (mnemonic_text (name_of s) ∷ operands_of s)
by_parts (Instr (instr.Const d w)) = refl
by_parts (Instr (instr.Move d s)) = refl
by_parts (Instr (instr.Conv d t s)) = refl
by_parts (Instr (instr.Bin o d a b)) = refl
by_parts (Instr (instr.Get d g)) = refl
by_parts (Instr (instr.Set g s)) = refl
by_parts (Instr (instr.GetX d g i)) = refl
by_parts (Instr (instr.SetX g i s)) = refl
by_parts (Instr (instr.GetA d a i)) = refl
by_parts (Instr (instr.SetA a i s)) = refl
by_parts (Instr (instr.Clear r c a m)) = refl
by_parts (Instr instr.Turn) = refl
by_parts (Instr (instr.Call dest p n args)) = refl
by_parts (Instr (instr.GetChar d)) = refl
by_parts (Instr (instr.PutChar d s)) = refl
by_parts (End (ends.Jump t)) = refl
by_parts (End (ends.Branch r t u)) = refl
by_parts (End (ends.Loop t)) = refl
by_parts (End (ends.Return None)) = refl
by_parts (End (ends.Return (Some r))) = refl
by_parts (End (ends.Exit r)) = refl

-- an `r` and a digit stand first
is_register_like : List ℕ → Bool
is_register_like [] = false
is_register_like (a ∷ []) = false
is_register_like (a ∷ b ∷ bs) = a == 114 && nat_le b 57

registers_are : (n : ℕ) → n < 2 ^ 32 → is_register_like (reg n) ≡ true
unfolding is_register_like
registers_are n lt = let r = decimal_begins n (omega arith) in subst (λ bs. is_register_like (114 ∷ bs) ≡ true) (sym r.3) (le-leb r.0 57 r.2.1)

names_are_not : (m : Mnemonic) → is_register_like (mnemonic_text m) ≡ false
unfolding is_register_like
names_are_not name.Const = refl
names_are_not name.Move = refl
names_are_not name.Conv = refl
names_are_not (name.Bin op.AddS) = refl
names_are_not (name.Bin op.AddU) = refl
names_are_not (name.Bin op.SubS) = refl
names_are_not (name.Bin op.SubU) = refl
names_are_not (name.Bin op.MulS) = refl
names_are_not (name.Bin op.MulU) = refl
names_are_not (name.Bin op.DivS) = refl
names_are_not (name.Bin op.DivU) = refl
names_are_not (name.Bin op.RemS) = refl
names_are_not (name.Bin op.RemU) = refl
names_are_not (name.Bin op.And) = refl
names_are_not (name.Bin op.Or) = refl
names_are_not (name.Bin op.Xor) = refl
names_are_not (name.Bin op.Shl) = refl
names_are_not (name.Bin op.ShrS) = refl
names_are_not (name.Bin op.ShrU) = refl
names_are_not (name.Bin op.Eq) = refl
names_are_not (name.Bin op.Ne) = refl
names_are_not (name.Bin op.LtS) = refl
names_are_not (name.Bin op.LtU) = refl
names_are_not (name.Bin op.LeS) = refl
names_are_not (name.Bin op.LeU) = refl
names_are_not name.Get = refl
names_are_not name.Set = refl
names_are_not name.GetX = refl
names_are_not name.SetX = refl
names_are_not name.GetA = refl
names_are_not name.SetA = refl
names_are_not name.Clear = refl
names_are_not name.Turn = refl
names_are_not name.Call = refl
names_are_not name.GetChar = refl
names_are_not name.PutChar = refl
names_are_not name.Jump = refl
names_are_not name.Branch = refl
names_are_not name.Loop = refl
names_are_not name.Return = refl
names_are_not name.Exit = refl

no_register : (n : ℕ) (m : Mnemonic) → n < 2 ^ 32 → reg n ≡ mnemonic_text m → ⊥
no_register n m lt e = true≢false (sym (registers_are n lt) ∙ ap is_register_like e ∙ names_are_not m)

-- the numbers of a statement's destination are among its numbers
pub dest_fits : (s : Statement) → IsFitStatement s → AreWords (option_to_list (dest_of s))
dest_fits (Instr (instr.Const d w)) h = (h.1.0, tt)
dest_fits (Instr (instr.Move d s)) h = (h.1.0, tt)
dest_fits (Instr (instr.Conv d t s)) h = (h.1.0, tt)
dest_fits (Instr (instr.Bin o d a b)) h = (h.1.0, tt)
dest_fits (Instr (instr.Get d g)) h = (h.1.0, tt)
dest_fits (Instr (instr.Set g s)) h = tt
dest_fits (Instr (instr.GetX d g i)) h = (h.1.0, tt)
dest_fits (Instr (instr.SetX g i s)) h = tt
dest_fits (Instr (instr.GetA d a i)) h = (h.1.0, tt)
dest_fits (Instr (instr.SetA a i s)) h = tt
dest_fits (Instr (instr.Clear r c a m)) h = tt
dest_fits (Instr instr.Turn) h = tt
dest_fits (Instr (instr.Call None p n args)) h = tt
dest_fits (Instr (instr.Call (Some d) p n args)) h = (h.1.0, tt)
dest_fits (Instr (instr.GetChar d)) h = (h.1.0, tt)
dest_fits (Instr (instr.PutChar d s)) h = (h.1.0, tt)
dest_fits (End e) h = tt

same_register : (n m : ℕ) → n < 2 ^ 32 → m < 2 ^ 32 → reg n ≡ reg m → n ≡ m
same_register n m h k e = let tails : decimal n ≡ decimal m = cc e in decimal_injective n m (omega arith) (omega arith) tails

-- words that begin with a register
behind_register : (d : ℕ) (o : Option ℕ) (m : Mnemonic) (ops rest : List (List ℕ)) → d < 2 ^ 32 → AreWords (option_to_list o)
    → reg d ∷ rest ≡ gets_if_some o (mnemonic_text m ∷ ops)
    → (o ≡ Some d) × (rest ≡ codes "=" ∷ mnemonic_text m ∷ ops)
behind_register d None m ops rest lt h e = let first : reg d ≡ mnemonic_text m = cc e in absurd (no_register d m lt first)
behind_register d (Some n) m ops rest lt h e = let first : reg d ≡ reg n = cc e in let others : rest ≡ codes "=" ∷ mnemonic_text m ∷ ops = cc e
    in (ap Some (sym (same_register d n lt h.0 first)), others)

pub with_dest : (d : ℕ) (words rest : List (List ℕ)) (s : Statement) → d < 2 ^ 32 → IsFitStatement s → words ≡ reg d ∷ rest → words ≡ statement_parts s
    → (dest_of s ≡ Some d) × (rest ≡ codes "=" ∷ mnemonic_text (name_of s) ∷ operands_of s)
with_dest d words rest s lt h e is = behind_register d (dest_of s) (name_of s) (operands_of s) rest lt (dest_fits s h) (sym e ∙ is ∙ by_parts s)

no_dest : (o : Option ℕ) (m : Mnemonic) (ops words : List (List ℕ)) → AreWords (option_to_list o)
    → ((n : ℕ) (ws : List (List ℕ)) → n < 2 ^ 32 → words ≡ reg n ∷ ws → ⊥) → words ≡ gets_if_some o (mnemonic_text m ∷ ops)
    → (o ≡ None) × (words ≡ mnemonic_text m ∷ ops)
no_dest None m ops words h none e = (refl, e)
no_dest (Some n) m ops words h none e = absurd (none n (codes "=" ∷ mnemonic_text m ∷ ops) h.0 e)

pub without_dest : (words : List (List ℕ)) (s : Statement) → IsFitStatement s → ((n : ℕ) (ws : List (List ℕ)) → n < 2 ^ 32 → words ≡ reg n ∷ ws → ⊥)
    → words ≡ statement_parts s
    → (dest_of s ≡ None) × (words ≡ mnemonic_text (name_of s) ∷ operands_of s)
without_dest words s h none is = no_dest (dest_of s) (name_of s) (operands_of s) words (dest_fits s h) none (is ∙ by_parts s)

abbrev Told : Option Statement → Statement → Type 0
Told r s = r ≡ Some s

with_register : (d n : ℕ) (r : Option Statement) (f : ℕ → Statement) → Some n ≡ Some d → Told r (f d) → Told r (f n)
with_register d n r f e told = let same : d ≡ n = cc e in subst (λ m. Told r (f m)) same told

-- a reader of what a register gets answers each statement that isn't a call
pub gets_each : (d : ℕ) (ws : List (List ℕ)) (r : Option Statement) (s : Statement) → (name_of s ≡ name.Call → ⊥) → dest_of s ≡ Some d
    → AnswersGets d (name_of s) ws r → IsFitStatement s → ws ≡ operands_of s → Told r s
gets_each d ws r (Instr (instr.Const n w)) c e a h k = with_register d n r (λ m. Instr (instr.Const m w)) e (a w h.1.1.0 k)
gets_each d ws r (Instr (instr.Move n s)) c e a h k = with_register d n r (λ m. Instr (instr.Move m s)) e (a s h.1.1.0 k)
gets_each d ws r (Instr (instr.Conv n t s)) c e a h k = with_register d n r (λ m. Instr (instr.Conv m t s)) e (a t s h.0 h.1.1.0 k)
gets_each d ws r (Instr (instr.Bin o n x y)) c e a h k = with_register d n r (λ m. Instr (instr.Bin o m x y)) e (a x y h.1.1.0 h.1.1.1.0 k)
gets_each d ws r (Instr (instr.Get n g)) c e a h k = with_register d n r (λ m. Instr (instr.Get m g)) e (a g h.0 k)
gets_each d ws r (Instr (instr.Set g s)) c e a h k = absurd cc
gets_each d ws r (Instr (instr.GetX n g i)) c e a h k = with_register d n r (λ m. Instr (instr.GetX m g i)) e (a g i h.0 h.1.1.1.0 k)
gets_each d ws r (Instr (instr.SetX g i s)) c e a h k = absurd cc
gets_each d ws r (Instr (instr.GetA n x i)) c e a h k = with_register d n r (λ m. Instr (instr.GetA m x i)) e (a x i h.1.1.0 h.1.1.1.0 k)
gets_each d ws r (Instr (instr.SetA x i s)) c e a h k = absurd cc
gets_each d ws r (Instr (instr.Clear x y z u)) c e a h k = absurd cc
gets_each d ws r (Instr instr.Turn) c e a h k = absurd cc
gets_each d ws r (Instr (instr.Call dest p n args)) c e a h k = absurd (c refl)
gets_each d ws r (Instr (instr.GetChar n)) c e a h k = with_register d n r (λ m. Instr (instr.GetChar m)) e (a k)
gets_each d ws r (Instr (instr.PutChar n s)) c e a h k = with_register d n r (λ m. Instr (instr.PutChar m s)) e (a s h.1.1.0 k)
gets_each d ws r (End x) c e a h k = absurd cc

pub plain_each : (ws : List (List ℕ)) (r : Option Statement) (s : Statement) → (name_of s ≡ name.Call → ⊥) → dest_of s ≡ None → AnswersPlain (name_of s) ws r
    → IsFitStatement s → ws ≡ operands_of s → Told r s
plain_each ws r (Instr (instr.Const n w)) c e a h k = absurd cc
plain_each ws r (Instr (instr.Move n s)) c e a h k = absurd cc
plain_each ws r (Instr (instr.Conv n t s)) c e a h k = absurd cc
plain_each ws r (Instr (instr.Bin o n x y)) c e a h k = absurd cc
plain_each ws r (Instr (instr.Get n g)) c e a h k = absurd cc
plain_each ws r (Instr (instr.Set g s)) c e a h k = a g s h.0 h.1.1.0 k
plain_each ws r (Instr (instr.GetX n g i)) c e a h k = absurd cc
plain_each ws r (Instr (instr.SetX g i s)) c e a h k = a g i s h.0 h.1.1.0 h.1.1.1.0 k
plain_each ws r (Instr (instr.GetA n x i)) c e a h k = absurd cc
plain_each ws r (Instr (instr.SetA x i s)) c e a h k = a x i s h.1.0 h.1.1.0 h.1.1.1.0 k
plain_each ws r (Instr (instr.Clear x y z u)) c e a h k = a x y z u h.1.0 h.1.1.0 h.1.1.1.0 h.1.1.1.1.0 k
plain_each ws r (Instr instr.Turn) c e a h k = a k
plain_each ws r (Instr (instr.Call dest p n args)) c e a h k = absurd (c refl)
plain_each ws r (Instr (instr.GetChar n)) c e a h k = absurd cc
plain_each ws r (Instr (instr.PutChar n s)) c e a h k = absurd cc
plain_each ws r (End (ends.Jump t)) c e a h k = a t h.0 k
plain_each ws r (End (ends.Branch n t u)) c e a h k = a n t u h.0 h.1.0 h.1.1.0 k
plain_each ws r (End (ends.Loop t)) c e a h k = a t h.0 k
plain_each ws r (End (ends.Return None)) c e a h k = a.0 k
plain_each ws r (End (ends.Return (Some n))) c e a h k = a.1 n h.0 k
plain_each ws r (End (ends.Exit n)) c e a h k = a n h.0 k
