-- How the fixed words of the language are spelled.
use Rattle.std.specs.Prelude.{ℕ, Bool, false, nat_eq, ◌||◌, if◌then◌else◌, List, [], ◌∷◌, Option, Some, None, codes}
use Rattle.std.specs.Cmp.Lexicographic.{pointwise}
use Rattle.c_tree.specs.declared.token.Reserved.{Reserved}
use Rattle.c_tree.specs.declared.token.Reserved.TheVariants as word
use Rattle.c_tree.specs.declared.token.Punct.{Punct}
use Rattle.c_tree.specs.declared.token.Punct.TheVariants as punct
use Rattle.c_tree.specs.declared.token.Header.{Header}
use Rattle.c_tree.specs.declared.token.Header.TheVariants.{Stdio, Stdlib}

abbrev pub word_spelling : Reserved → List ℕ
word_spelling word.Auto = codes "auto"
word_spelling word.Break = codes "break"
word_spelling word.Case = codes "case"
word_spelling word.Char = codes "char"
word_spelling word.Const = codes "const"
word_spelling word.Continue = codes "continue"
word_spelling word.Default = codes "default"
word_spelling word.Do = codes "do"
word_spelling word.Else = codes "else"
word_spelling word.Enum = codes "enum"
word_spelling word.Extern = codes "extern"
word_spelling word.For = codes "for"
word_spelling word.If = codes "if"
word_spelling word.Int = codes "int"
word_spelling word.Long = codes "long"
word_spelling word.Register = codes "register"
word_spelling word.Return = codes "return"
word_spelling word.Short = codes "short"
word_spelling word.Signed = codes "signed"
word_spelling word.Static = codes "static"
word_spelling word.Switch = codes "switch"
word_spelling word.Unsigned = codes "unsigned"
word_spelling word.Void = codes "void"
word_spelling word.While = codes "while"

abbrev pub words : List Reserved
words =
    word.Auto ∷ word.Break ∷ word.Case ∷ word.Char ∷ word.Const ∷ word.Continue ∷ word.Default ∷ word.Do ∷ word.Else ∷ word.Enum ∷ word.Extern ∷ word.For
    ∷ word.If ∷ word.Int ∷ word.Long ∷ word.Register ∷ word.Return ∷ word.Short ∷ word.Signed ∷ word.Static ∷ word.Switch ∷ word.Unsigned ∷ word.Void ∷
    word.While ∷ []

-- the reserved words of C90 that the profile leaves out
abbrev pub left_out_words : List (List ℕ)
left_out_words = codes "double" ∷ codes "float" ∷ codes "goto" ∷ codes "sizeof" ∷ codes "struct" ∷ codes "typedef" ∷ codes "union" ∷ codes "volatile" ∷ []

abbrev pub punct_spelling : Punct → List ℕ
punct_spelling punct.OpenParen = codes "("
punct_spelling punct.CloseParen = codes ")"
punct_spelling punct.OpenBracket = codes "["
punct_spelling punct.CloseBracket = codes "]"
punct_spelling punct.OpenBrace = codes "{"
punct_spelling punct.CloseBrace = codes "}"
punct_spelling punct.Comma = codes ","
punct_spelling punct.Semicolon = codes ";"
punct_spelling punct.Colon = codes ":"
punct_spelling punct.Question = codes "?"
punct_spelling punct.Tilde = codes "~"
punct_spelling punct.Plus = codes "+"
punct_spelling punct.Minus = codes "-"
punct_spelling punct.Star = codes "*"
punct_spelling punct.Slash = codes "/"
punct_spelling punct.Percent = codes "%"
punct_spelling punct.Ampersand = codes "&"
punct_spelling punct.Bar = codes "|"
punct_spelling punct.Caret = codes "^"
punct_spelling punct.Exclamation = codes "!"
punct_spelling punct.Less = codes "<"
punct_spelling punct.Greater = codes ">"
punct_spelling punct.Equals = codes "="
punct_spelling punct.Increment = codes "++"
punct_spelling punct.Decrement = codes "--"
punct_spelling punct.ShiftLeft = codes "<<"
punct_spelling punct.ShiftRight = codes ">>"
punct_spelling punct.LessEqual = codes "<="
punct_spelling punct.GreaterEqual = codes ">="
punct_spelling punct.EqualEqual = codes "=="
punct_spelling punct.NotEqual = codes "!="
punct_spelling punct.AndAnd = codes "&&"
punct_spelling punct.OrOr = codes "||"
punct_spelling punct.AddAssign = codes "+="
punct_spelling punct.SubtractAssign = codes "-="
punct_spelling punct.MultiplyAssign = codes "*="
punct_spelling punct.DivideAssign = codes "/="
punct_spelling punct.RemainderAssign = codes "%="
punct_spelling punct.AndAssign = codes "&="
punct_spelling punct.OrAssign = codes "|="
punct_spelling punct.XorAssign = codes "^="
punct_spelling punct.ShiftLeftAssign = codes "<<="
punct_spelling punct.ShiftRightAssign = codes ">>="

abbrev pub puncts : List Punct
puncts =
    punct.OpenParen ∷ punct.CloseParen ∷ punct.OpenBracket ∷ punct.CloseBracket ∷ punct.OpenBrace ∷ punct.CloseBrace ∷ punct.Comma ∷ punct.Semicolon ∷
    punct.Colon ∷ punct.Question ∷ punct.Tilde
    ∷ punct.Plus ∷ punct.Minus ∷ punct.Star ∷ punct.Slash ∷ punct.Percent ∷ punct.Ampersand ∷ punct.Bar ∷ punct.Caret ∷ punct.Exclamation ∷ punct.Less ∷
    punct.Greater ∷ punct.Equals
    ∷ punct.Increment ∷ punct.Decrement ∷ punct.ShiftLeft ∷ punct.ShiftRight ∷ punct.LessEqual ∷ punct.GreaterEqual ∷ punct.EqualEqual ∷ punct.NotEqual ∷
    punct.AndAnd ∷ punct.OrOr
    ∷ punct.AddAssign ∷ punct.SubtractAssign ∷ punct.MultiplyAssign ∷ punct.DivideAssign ∷ punct.RemainderAssign ∷ punct.AndAssign ∷ punct.OrAssign ∷
    punct.XorAssign ∷ punct.ShiftLeftAssign ∷ punct.ShiftRightAssign ∷ []

abbrev pub header_spelling : Header → List ℕ
header_spelling Stdio = codes "<stdio.h>"
header_spelling Stdlib = codes "<stdlib.h>"

abbrev pub include_spelling : List ℕ
include_spelling = codes "include"

-- whether two lists are equal
abbrev pub same : List ℕ → List ℕ → Bool
same us vs = pointwise nat_eq us vs

-- the first of these things that is spelled so
abbrev pub named : {A : Type 0} → (A → List ℕ) → List A → List ℕ → Option A
named spelling [] us = None
named spelling (a ∷ rest) us = if same us (spelling a) then Some a else named spelling rest us

-- whether one of these words is spelled so
abbrev pub any_same : List (List ℕ) → List ℕ → Bool
any_same [] us = false
any_same (w ∷ rest) us = same us w || any_same rest us

unfoldable pub word_named : List ℕ → Option Reserved
word_named us = named word_spelling words us

unfoldable pub is_left_out : List ℕ → Bool
is_left_out us = any_same left_out_words us

unfoldable pub punct_named : List ℕ → Option Punct
punct_named us = named punct_spelling puncts us
