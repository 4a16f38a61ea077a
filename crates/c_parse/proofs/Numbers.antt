-- Which numbers the classes of punctuators and words are.
use Rattle.std.proofs.Common.{ℕ, ◌≡◌, ◌<◌, ◌-◌, refl, sym, ◌∙◌, ap, true, false, nat_eq, if◌then◌else◌, get_or, List, [], ◌∷◌, is_some, lit<, arith}
use Rattle.std.proofs.lemmas.Bool.{ne_eqb}
use Rattle.c_tree.specs.declared.token.Token.{Token}
use Rattle.c_tree.specs.declared.token.TokenKind.{TokenKind}
use Rattle.c_tree.specs.declared.token.TokenKind.TheVariants as kinds
use Rattle.c_tree.specs.declared.token.Header.{Header}
use Rattle.c_tree.specs.declared.token.Header.TheVariants.{Stdio, Stdlib}
use Rattle.c_tree.specs.declared.token.Punct.{Punct}
use Rattle.c_tree.specs.declared.token.Punct.TheVariants as p
use Rattle.c_tree.specs.declared.token.Reserved.{Reserved}
use Rattle.c_tree.specs.declared.token.Reserved.TheVariants as w
use Rattle.c_parse.specs.Classes.{class, kind_class, punct, word, header, member}
use Rattle.c_parse.specs.Trees.{kind_name, name_of, kind_constant, constant_of}

pub punct_above : (q : Punct) → 4 < punct q
punct_above p.OpenParen = lit< tt
punct_above p.CloseParen = lit< tt
punct_above p.OpenBracket = lit< tt
punct_above p.CloseBracket = lit< tt
punct_above p.OpenBrace = lit< tt
punct_above p.CloseBrace = lit< tt
punct_above p.Comma = lit< tt
punct_above p.Semicolon = lit< tt
punct_above p.Colon = lit< tt
punct_above p.Question = lit< tt
punct_above p.Tilde = lit< tt
punct_above p.Plus = lit< tt
punct_above p.Minus = lit< tt
punct_above p.Star = lit< tt
punct_above p.Slash = lit< tt
punct_above p.Percent = lit< tt
punct_above p.Ampersand = lit< tt
punct_above p.Bar = lit< tt
punct_above p.Caret = lit< tt
punct_above p.Exclamation = lit< tt
punct_above p.Less = lit< tt
punct_above p.Greater = lit< tt
punct_above p.Equals = lit< tt
punct_above p.Increment = lit< tt
punct_above p.Decrement = lit< tt
punct_above p.ShiftLeft = lit< tt
punct_above p.ShiftRight = lit< tt
punct_above p.LessEqual = lit< tt
punct_above p.GreaterEqual = lit< tt
punct_above p.EqualEqual = lit< tt
punct_above p.NotEqual = lit< tt
punct_above p.AndAnd = lit< tt
punct_above p.OrOr = lit< tt
punct_above p.AddAssign = lit< tt
punct_above p.SubtractAssign = lit< tt
punct_above p.MultiplyAssign = lit< tt
punct_above p.DivideAssign = lit< tt
punct_above p.RemainderAssign = lit< tt
punct_above p.AndAssign = lit< tt
punct_above p.OrAssign = lit< tt
punct_above p.XorAssign = lit< tt
punct_above p.ShiftLeftAssign = lit< tt
punct_above p.ShiftRightAssign = lit< tt

pub word_above : (r : Reserved) → 59 < word r
word_above w.Auto = lit< tt
word_above w.Break = lit< tt
word_above w.Case = lit< tt
word_above w.Char = lit< tt
word_above w.Const = lit< tt
word_above w.Continue = lit< tt
word_above w.Default = lit< tt
word_above w.Do = lit< tt
word_above w.Else = lit< tt
word_above w.Enum = lit< tt
word_above w.Extern = lit< tt
word_above w.For = lit< tt
word_above w.If = lit< tt
word_above w.Int = lit< tt
word_above w.Long = lit< tt
word_above w.Register = lit< tt
word_above w.Return = lit< tt
word_above w.Short = lit< tt
word_above w.Signed = lit< tt
word_above w.Static = lit< tt
word_above w.Switch = lit< tt
word_above w.Unsigned = lit< tt
word_above w.Void = lit< tt
word_above w.While = lit< tt

-- the punctuators and the words by their numbers
puncts : List Punct
puncts = p.OpenParen ∷ p.CloseParen ∷ p.OpenBracket ∷ p.CloseBracket ∷ p.OpenBrace ∷ p.CloseBrace ∷ p.Comma ∷ p.Semicolon ∷ p.Colon ∷ p.Question ∷ p.Tilde ∷
    p.Plus ∷ p.Minus ∷ p.Star ∷ p.Slash ∷ p.Percent ∷ p.Ampersand ∷ p.Bar ∷ p.Caret ∷ p.Exclamation ∷ p.Less ∷ p.Greater ∷ p.Equals ∷ p.Increment ∷ p.Decrement
    ∷ p.ShiftLeft ∷ p.ShiftRight ∷ p.LessEqual ∷ p.GreaterEqual ∷ p.EqualEqual ∷ p.NotEqual ∷ p.AndAnd ∷ p.OrOr ∷ p.AddAssign ∷ p.SubtractAssign ∷
    p.MultiplyAssign ∷ p.DivideAssign ∷ p.RemainderAssign ∷ p.AndAssign ∷ p.OrAssign ∷ p.XorAssign ∷ p.ShiftLeftAssign ∷ p.ShiftRightAssign ∷ []

words : List Reserved
words = w.Auto ∷ w.Break ∷ w.Case ∷ w.Char ∷ w.Const ∷ w.Continue ∷ w.Default ∷ w.Do ∷ w.Else ∷ w.Enum ∷ w.Extern ∷ w.For ∷ w.If ∷ w.Int ∷ w.Long ∷ w.Register ∷
    w.Return ∷ w.Short ∷ w.Signed ∷ w.Static ∷ w.Switch ∷ w.Unsigned ∷ w.Void ∷ w.While ∷ []

from_class : ℕ → Punct
from_class k = get_or puncts (k - 10) p.OpenParen

word_from : ℕ → Reserved
word_from k = get_or words (k - 60) w.Auto

from_class_punct : (q : Punct) → from_class (punct q) ≡ q
unfolding from_class puncts
from_class_punct p.OpenParen = refl
from_class_punct p.CloseParen = refl
from_class_punct p.OpenBracket = refl
from_class_punct p.CloseBracket = refl
from_class_punct p.OpenBrace = refl
from_class_punct p.CloseBrace = refl
from_class_punct p.Comma = refl
from_class_punct p.Semicolon = refl
from_class_punct p.Colon = refl
from_class_punct p.Question = refl
from_class_punct p.Tilde = refl
from_class_punct p.Plus = refl
from_class_punct p.Minus = refl
from_class_punct p.Star = refl
from_class_punct p.Slash = refl
from_class_punct p.Percent = refl
from_class_punct p.Ampersand = refl
from_class_punct p.Bar = refl
from_class_punct p.Caret = refl
from_class_punct p.Exclamation = refl
from_class_punct p.Less = refl
from_class_punct p.Greater = refl
from_class_punct p.Equals = refl
from_class_punct p.Increment = refl
from_class_punct p.Decrement = refl
from_class_punct p.ShiftLeft = refl
from_class_punct p.ShiftRight = refl
from_class_punct p.LessEqual = refl
from_class_punct p.GreaterEqual = refl
from_class_punct p.EqualEqual = refl
from_class_punct p.NotEqual = refl
from_class_punct p.AndAnd = refl
from_class_punct p.OrOr = refl
from_class_punct p.AddAssign = refl
from_class_punct p.SubtractAssign = refl
from_class_punct p.MultiplyAssign = refl
from_class_punct p.DivideAssign = refl
from_class_punct p.RemainderAssign = refl
from_class_punct p.AndAssign = refl
from_class_punct p.OrAssign = refl
from_class_punct p.XorAssign = refl
from_class_punct p.ShiftLeftAssign = refl
from_class_punct p.ShiftRightAssign = refl

word_from_word : (r : Reserved) → word_from (word r) ≡ r
unfolding word_from words
word_from_word w.Auto = refl
word_from_word w.Break = refl
word_from_word w.Case = refl
word_from_word w.Char = refl
word_from_word w.Const = refl
word_from_word w.Continue = refl
word_from_word w.Default = refl
word_from_word w.Do = refl
word_from_word w.Else = refl
word_from_word w.Enum = refl
word_from_word w.Extern = refl
word_from_word w.For = refl
word_from_word w.If = refl
word_from_word w.Int = refl
word_from_word w.Long = refl
word_from_word w.Register = refl
word_from_word w.Return = refl
word_from_word w.Short = refl
word_from_word w.Signed = refl
word_from_word w.Static = refl
word_from_word w.Switch = refl
word_from_word w.Unsigned = refl
word_from_word w.Void = refl
word_from_word w.While = refl

-- one class, one punctuator; one word
pub punct_same : (q r : Punct) → punct q ≡ punct r → q ≡ r
punct_same q r e = sym (from_class_punct q) ∙ ap from_class e ∙ from_class_punct r

pub word_same : (q r : Reserved) → word q ≡ word r → q ≡ r
word_same q r e = sym (word_from_word q) ∙ ap word_from e ∙ word_from_word r

other : (k j : ℕ) → (k ≡ j → ⊥) → (if nat_eq k j then true else false) ≡ false
other k j n = ap (λ z. if z then true else false) (ne_eqb k j n)

header_other : (h : Header) (j : ℕ) → j < 3 → header h ≡ j → ⊥
header_other Stdio j l e = omega (arith, l, e)
header_other Stdlib j l e = omega (arith, l, e)

name_kind : (l : ℕ) (k : TokenKind) → member (kind_class k) (1 ∷ []) ≡ is_some (kind_name l k)
name_kind l (kinds.Include h) = other (header h) 1 (header_other h 1 (lit< tt))
name_kind l (kinds.Name n) = refl
name_kind l (kinds.Word r) = other (word r) 1 (λ e. omega (arith, e, word_above r))
name_kind l (kinds.Punct q) = other (punct q) 1 (λ e. omega (arith, e, punct_above q))
name_kind l (kinds.Constant v t) = refl

constant_kind : (l : ℕ) (k : TokenKind) → member (kind_class k) (2 ∷ []) ≡ is_some (kind_constant l k)
constant_kind l (kinds.Include h) = other (header h) 2 (header_other h 2 (lit< tt))
constant_kind l (kinds.Name n) = refl
constant_kind l (kinds.Word r) = other (word r) 2 (λ e. omega (arith, e, word_above r))
constant_kind l (kinds.Punct q) = other (punct q) 2 (λ e. omega (arith, e, punct_above q))
constant_kind l (kinds.Constant v t) = refl

pub name_exact : (t : Token) → member (class t) (1 ∷ []) ≡ is_some (name_of t)
name_exact t = name_kind t.line t.kind

pub constant_exact : (t : Token) → member (class t) (2 ∷ []) ≡ is_some (constant_of t)
constant_exact t = constant_kind t.line t.kind
