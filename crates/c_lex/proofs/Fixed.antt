-- The fixed words, read byte by byte.
use Rattle.std.proofs.Common.{◌≡◌, refl, Some}
use Rattle.c_tree.specs.declared.token.Reserved.{Reserved}
use Rattle.c_tree.specs.declared.token.Reserved.TheVariants as word
use Rattle.c_tree.specs.declared.token.Punct.{Punct}
use Rattle.c_tree.specs.declared.token.Punct.TheVariants as punct
use Rattle.c_lex.specs.declared.phase.Context.TheVariants.{Fresh, Used}
use Rattle.c_lex.specs.declared.phase.Phase.{Phase}
use Rattle.c_lex.specs.declared.phase.Phase.TheVariants as phase
use Rattle.c_lex.specs.Bytes.{class_of}
use Rattle.c_lex.specs.Spelling.{word_spelling, word_named, punct_spelling, punct_named}
use Rattle.c_lex.proofs.Gets.{reached}

abbrev pub WordReads : Reserved → Type 0
WordReads r = (reached Fresh (word_spelling r) ≡ Some phase.Name) × (reached Used (word_spelling r) ≡ Some phase.Name) × (word_named (word_spelling r) ≡ Some r)

pub word_reads : (r : Reserved) → WordReads r
unfolding class_of word_named
word_reads word.Auto = (refl, refl, refl)
word_reads word.Break = (refl, refl, refl)
word_reads word.Case = (refl, refl, refl)
word_reads word.Char = (refl, refl, refl)
word_reads word.Const = (refl, refl, refl)
word_reads word.Continue = (refl, refl, refl)
word_reads word.Default = (refl, refl, refl)
word_reads word.Do = (refl, refl, refl)
word_reads word.Else = (refl, refl, refl)
word_reads word.Enum = (refl, refl, refl)
word_reads word.Extern = (refl, refl, refl)
word_reads word.For = (refl, refl, refl)
word_reads word.If = (refl, refl, refl)
word_reads word.Int = (refl, refl, refl)
word_reads word.Long = (refl, refl, refl)
word_reads word.Register = (refl, refl, refl)
word_reads word.Return = (refl, refl, refl)
word_reads word.Short = (refl, refl, refl)
word_reads word.Signed = (refl, refl, refl)
word_reads word.Static = (refl, refl, refl)
word_reads word.Switch = (refl, refl, refl)
word_reads word.Unsigned = (refl, refl, refl)
word_reads word.Void = (refl, refl, refl)
word_reads word.While = (refl, refl, refl)

-- the phase behind a punctuator
abbrev pub sign_phase : Punct → Phase
sign_phase punct.Slash = phase.Slash
sign_phase m = phase.Punct m

abbrev pub SignReads : Punct → Type 0
SignReads m = (reached Fresh (punct_spelling m) ≡ Some (sign_phase m)) × (reached Used (punct_spelling m) ≡ Some (sign_phase m))

pub sign_reads : (m : Punct) → SignReads m
unfolding class_of punct_named
sign_reads punct.OpenParen = (refl, refl)
sign_reads punct.CloseParen = (refl, refl)
sign_reads punct.OpenBracket = (refl, refl)
sign_reads punct.CloseBracket = (refl, refl)
sign_reads punct.OpenBrace = (refl, refl)
sign_reads punct.CloseBrace = (refl, refl)
sign_reads punct.Comma = (refl, refl)
sign_reads punct.Semicolon = (refl, refl)
sign_reads punct.Colon = (refl, refl)
sign_reads punct.Question = (refl, refl)
sign_reads punct.Tilde = (refl, refl)
sign_reads punct.Plus = (refl, refl)
sign_reads punct.Minus = (refl, refl)
sign_reads punct.Star = (refl, refl)
sign_reads punct.Slash = (refl, refl)
sign_reads punct.Percent = (refl, refl)
sign_reads punct.Ampersand = (refl, refl)
sign_reads punct.Bar = (refl, refl)
sign_reads punct.Caret = (refl, refl)
sign_reads punct.Exclamation = (refl, refl)
sign_reads punct.Less = (refl, refl)
sign_reads punct.Greater = (refl, refl)
sign_reads punct.Equals = (refl, refl)
sign_reads punct.Increment = (refl, refl)
sign_reads punct.Decrement = (refl, refl)
sign_reads punct.ShiftLeft = (refl, refl)
sign_reads punct.ShiftRight = (refl, refl)
sign_reads punct.LessEqual = (refl, refl)
sign_reads punct.GreaterEqual = (refl, refl)
sign_reads punct.EqualEqual = (refl, refl)
sign_reads punct.NotEqual = (refl, refl)
sign_reads punct.AndAnd = (refl, refl)
sign_reads punct.OrOr = (refl, refl)
sign_reads punct.AddAssign = (refl, refl)
sign_reads punct.SubtractAssign = (refl, refl)
sign_reads punct.MultiplyAssign = (refl, refl)
sign_reads punct.DivideAssign = (refl, refl)
sign_reads punct.RemainderAssign = (refl, refl)
sign_reads punct.AndAssign = (refl, refl)
sign_reads punct.OrAssign = (refl, refl)
sign_reads punct.XorAssign = (refl, refl)
sign_reads punct.ShiftLeftAssign = (refl, refl)
sign_reads punct.ShiftRightAssign = (refl, refl)
