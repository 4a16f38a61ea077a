-- The class of a token as a number. A name is one class and a constant another; each punctuator, each
-- reserved word and each header is a class of its own. 0 stands for the end.
use Rattle.std.specs.Prelude.{ℕ, Bool, true, false, nat_eq, if◌then◌else◌, List, [], ◌∷◌, Option, Some, None}
use Rattle.c_tree.specs.declared.token.Punct.{Punct}
use Rattle.c_tree.specs.declared.token.Punct.TheVariants as puncts
use Rattle.c_tree.specs.declared.token.Reserved.{Reserved}
use Rattle.c_tree.specs.declared.token.Reserved.TheVariants as words
use Rattle.c_tree.specs.declared.token.Header.{Header}
use Rattle.c_tree.specs.declared.token.Header.TheVariants as headers
use Rattle.c_tree.specs.declared.token.TokenKind.{TokenKind}
use Rattle.c_tree.specs.declared.token.TokenKind.TheVariants as kinds
use Rattle.c_tree.specs.declared.token.Token.{Token}

abbrev pub punct : Punct → ℕ
punct puncts.OpenParen = 10
punct puncts.CloseParen = 11
punct puncts.OpenBracket = 12
punct puncts.CloseBracket = 13
punct puncts.OpenBrace = 14
punct puncts.CloseBrace = 15
punct puncts.Comma = 16
punct puncts.Semicolon = 17
punct puncts.Colon = 18
punct puncts.Question = 19
punct puncts.Tilde = 20
punct puncts.Plus = 21
punct puncts.Minus = 22
punct puncts.Star = 23
punct puncts.Slash = 24
punct puncts.Percent = 25
punct puncts.Ampersand = 26
punct puncts.Bar = 27
punct puncts.Caret = 28
punct puncts.Exclamation = 29
punct puncts.Less = 30
punct puncts.Greater = 31
punct puncts.Equals = 32
punct puncts.Increment = 33
punct puncts.Decrement = 34
punct puncts.ShiftLeft = 35
punct puncts.ShiftRight = 36
punct puncts.LessEqual = 37
punct puncts.GreaterEqual = 38
punct puncts.EqualEqual = 39
punct puncts.NotEqual = 40
punct puncts.AndAnd = 41
punct puncts.OrOr = 42
punct puncts.AddAssign = 43
punct puncts.SubtractAssign = 44
punct puncts.MultiplyAssign = 45
punct puncts.DivideAssign = 46
punct puncts.RemainderAssign = 47
punct puncts.AndAssign = 48
punct puncts.OrAssign = 49
punct puncts.XorAssign = 50
punct puncts.ShiftLeftAssign = 51
punct puncts.ShiftRightAssign = 52

abbrev pub word : Reserved → ℕ
word words.Auto = 60
word words.Break = 61
word words.Case = 62
word words.Char = 63
word words.Const = 64
word words.Continue = 65
word words.Default = 66
word words.Do = 67
word words.Else = 68
word words.Enum = 69
word words.Extern = 70
word words.For = 71
word words.If = 72
word words.Int = 73
word words.Long = 74
word words.Register = 75
word words.Return = 76
word words.Short = 77
word words.Signed = 78
word words.Static = 79
word words.Switch = 80
word words.Unsigned = 81
word words.Void = 82
word words.While = 83

abbrev pub header : Header → ℕ
header headers.Stdio = 3
header headers.Stdlib = 4

abbrev pub kind_class : TokenKind → ℕ
kind_class (kinds.Include h) = header h
kind_class (kinds.Name n) = 1
kind_class (kinds.Word r) = word r
kind_class (kinds.Punct p) = punct p
kind_class (kinds.Constant v t) = 2

abbrev pub class : Token → ℕ
class t = kind_class t.kind

-- the class at the front of a list
abbrev pub look : List Token → ℕ
look [] = 0
look (t ∷ ts) = class t

abbrev pub member : ℕ → List ℕ → Bool
member k [] = false
member k (x ∷ xs) = if nat_eq k x then true else member k xs

-- what a table of classes has for a class, the first row that fits
abbrev pub row_of : {A : Type 0} → ℕ → List (ℕ × A) → Option A
row_of k [] = None
row_of k (x ∷ xs) = if nat_eq k x.0 then Some x.1 else row_of k xs

-- the classes that a table has
abbrev pub classes : {A : Type 0} → List (ℕ × A) → List ℕ
classes [] = []
classes (x ∷ xs) = x.0 ∷ classes xs
