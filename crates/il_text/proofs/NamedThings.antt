-- Looking up a name in a list.
use Rattle.std.proofs.Common.{ℕ, ◌≡◌, ◌<◌, ◌+◌, ◌≤◌, refl, sym, ap, ◌∙◌, true, false, if◌then◌else◌, List, [], ◌∷◌, length, drop, get_or, Option, Some}
use Rattle.std.proofs.Common.{None, inl, inr, nat_eq, IfSome}
use Rattle.std.specs.Cmp.Lexicographic.{pointwise}
use Rattle.std.proofs.Math.Seq.{drop-cons}
use Rattle.std.proofs.Math.Numerals.{add-one}
use Rattle.std.proofs.Math.ListN.{drop_of_length-le}
use Rattle.std.proofs.lemmas.Bool.{cases_Bool, eqb-true, and_parts}
use Rattle.hlo_num.specs.declared.word.Op.TheVariants as op
use Rattle.il_text.specs.declared.mnemonic.Mnemonic.{Mnemonic}
use Rattle.il_text.specs.declared.mnemonic.Mnemonic.TheVariants.{Const, Move, Conv, Bin, Get, Set, GetX, SetX, GetA, SetA, Clear, Turn, Call, GetChar}
use Rattle.il_text.specs.declared.mnemonic.Mnemonic.TheVariants.{PutChar, Jump, Branch, Loop, Return, Exit}
use Rattle.il_text.specs.Mnemonics.{named, mnemonic_text, mnemonics, mnemonic_named}

named_at : {A : Type 0} (f : A → List ℕ) (xs : List A) (us : List ℕ) (i : ℕ) (d : A) → i < length xs
    → named f (drop i xs) us ≡ (if pointwise nat_eq us (f (get_or xs i d)) then Some (get_or xs i d) else named f (drop (i + 1) xs) us)
named_at f xs us i d h = ap (λ z. named f z us) (drop-cons xs i d h) ∙ ap
    (λ n. if pointwise nat_eq us (f (get_or xs i d)) then Some (get_or xs i d) else named f (drop n xs) us) (sym (add-one i))

pub named_here : {A : Type 0} (f : A → List ℕ) (xs : List A) (us : List ℕ) (i : ℕ) (d : A) → i < length xs → pointwise nat_eq us (f (get_or xs i d)) ≡ true
    → named f (drop i xs) us ≡ Some (get_or xs i d)
named_here f xs us i d h e = named_at f xs us i d h ∙ rw e refl

pub named_next : {A : Type 0} (f : A → List ℕ) (xs : List A) (us : List ℕ) (i : ℕ) (d : A) → i < length xs → pointwise nat_eq us (f (get_or xs i d)) ≡ false
    → named f (drop i xs) us ≡ named f (drop (i + 1) xs) us
named_next f xs us i d h e = named_at f xs us i d h ∙ rw e refl

pub named_none : {A : Type 0} (f : A → List ℕ) (xs : List A) (us : List ℕ) (i : ℕ) → length xs ≤ i → named f (drop i xs) us ≡ None
named_none f xs us i h = ap (λ z. named f z us) (drop_of_length-le xs h)

equal : (us vs : List ℕ) → pointwise nat_eq us vs ≡ true → us ≡ vs
equal [] [] e = refl
equal [] (v ∷ vs) e = absurd cc
equal (u ∷ us) [] e = absurd cc
equal (u ∷ us) (v ∷ vs) e = let h = and_parts (nat_eq u v) (pointwise nat_eq us vs) e in let a : u ≡ v = eqb-true u v h.0 in let b : us ≡ vs = equal us vs h.1
    in cc

named_has : {A : Type 0} (f : A → List ℕ) (xs : List A) (us : List ℕ) (a : A) → named f xs us ≡ Some a → us ≡ f a
named_has f [] us a e = absurd cc
named_has f (x ∷ xs) us a e = elim (cases_Bool (pointwise nat_eq us (f x))) [
  | inl is ↦ let s : Some x ≡ Some a = rw is at e in let same : x ≡ a = cc s in equal us (f x) is ∙ ap f same
  | inr not ↦ named_has f xs us a (rw not at e)
]

mnemonic_has : (us : List ℕ) (m : Mnemonic) → mnemonic_named us ≡ Some m → us ≡ mnemonic_text m
unfolding mnemonic_named
mnemonic_has us m e = named_has mnemonic_text mnemonics us m e

pub told_has : (us : List ℕ) (o : Option Mnemonic) → o ≡ mnemonic_named us → IfSome o (λ m. us ≡ mnemonic_text m)
told_has us None e = tt
told_has us (Some m) e = mnemonic_has us m (sym e)

pub text_named : (m : Mnemonic) → mnemonic_named (mnemonic_text m) ≡ Some m
unfolding mnemonic_named
text_named Const = refl
text_named Move = refl
text_named Conv = refl
text_named (Bin op.AddS) = refl
text_named (Bin op.AddU) = refl
text_named (Bin op.SubS) = refl
text_named (Bin op.SubU) = refl
text_named (Bin op.MulS) = refl
text_named (Bin op.MulU) = refl
text_named (Bin op.DivS) = refl
text_named (Bin op.DivU) = refl
text_named (Bin op.RemS) = refl
text_named (Bin op.RemU) = refl
text_named (Bin op.And) = refl
text_named (Bin op.Or) = refl
text_named (Bin op.Xor) = refl
text_named (Bin op.Shl) = refl
text_named (Bin op.ShrS) = refl
text_named (Bin op.ShrU) = refl
text_named (Bin op.Eq) = refl
text_named (Bin op.Ne) = refl
text_named (Bin op.LtS) = refl
text_named (Bin op.LtU) = refl
text_named (Bin op.LeS) = refl
text_named (Bin op.LeU) = refl
text_named Get = refl
text_named Set = refl
text_named GetX = refl
text_named SetX = refl
text_named GetA = refl
text_named SetA = refl
text_named Clear = refl
text_named Turn = refl
text_named Call = refl
text_named GetChar = refl
text_named PutChar = refl
text_named Jump = refl
text_named Branch = refl
text_named Loop = refl
text_named Return = refl
text_named Exit = refl
