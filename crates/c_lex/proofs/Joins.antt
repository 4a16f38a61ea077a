-- What a byte behind a punctuator makes of it.
use Rattle.std.proofs.Common.{ℕ, ◌≡◌, refl, Bool, true, false, ◌==◌, ◌&&◌, if◌then◌else◌, ◌∷◌, [], ◌++◌, Option, Some, None}
use Rattle.c_tree.specs.declared.token.Punct.{Punct}
use Rattle.c_tree.specs.declared.token.Punct.TheVariants as punct
use Rattle.c_lex.specs.Spelling.{punct_spelling, punct_named}

two : (x y : Punct) (a b : Bool)
    → ◌≡◌ {A = Option Punct} (if a then Some x else if b then Some y else None) (if a && true then Some x else if b && true then Some y else None)
two x y true b = refl
two x y false true = refl
two x y false false = refl

one : (x : Punct) (a : Bool) → ◌≡◌ {A = Option Punct} (if a then Some x else None) (if a && true then Some x else None)
one x true = refl
one x false = refl

three : (x y z : Punct) (a b : Bool)
    → ◌≡◌ {A = Option Punct} (if a then Some x else if b then Some y else None)
    (if a && true then Some x else if b && true then Some y else if a && false then Some z else None)
three x y z true b = refl
three x y z false true = refl
three x y z false false = refl

-- the bytes that make a longer one of a punctuator, and what they make
abbrev pub joins : Punct → ℕ → Option Punct
joins punct.Plus c = if c == 43 then Some punct.Increment else if c == 61 then Some punct.AddAssign else None
joins punct.Minus c = if c == 45 then Some punct.Decrement else if c == 61 then Some punct.SubtractAssign else None
joins punct.Ampersand c = if c == 38 then Some punct.AndAnd else if c == 61 then Some punct.AndAssign else None
joins punct.Bar c = if c == 124 then Some punct.OrOr else if c == 61 then Some punct.OrAssign else None
joins punct.Less c = if c == 60 then Some punct.ShiftLeft else if c == 61 then Some punct.LessEqual else None
joins punct.Greater c = if c == 62 then Some punct.ShiftRight else if c == 61 then Some punct.GreaterEqual else None
joins punct.Star c = if c == 61 then Some punct.MultiplyAssign else None
joins punct.Slash c = if c == 61 then Some punct.DivideAssign else None
joins punct.Percent c = if c == 61 then Some punct.RemainderAssign else None
joins punct.Caret c = if c == 61 then Some punct.XorAssign else None
joins punct.Exclamation c = if c == 61 then Some punct.NotEqual else None
joins punct.Equals c = if c == 61 then Some punct.EqualEqual else None
joins punct.ShiftLeft c = if c == 61 then Some punct.ShiftLeftAssign else None
joins punct.ShiftRight c = if c == 61 then Some punct.ShiftRightAssign else None
joins _ c = None

pub joined_is : (m : Punct) (c : ℕ) → joins m c ≡ punct_named (punct_spelling m ++ c ∷ [])
unfolding punct_named
joined_is punct.OpenParen c = refl
joined_is punct.CloseParen c = refl
joined_is punct.OpenBracket c = refl
joined_is punct.CloseBracket c = refl
joined_is punct.OpenBrace c = refl
joined_is punct.CloseBrace c = refl
joined_is punct.Comma c = refl
joined_is punct.Semicolon c = refl
joined_is punct.Colon c = refl
joined_is punct.Question c = refl
joined_is punct.Tilde c = refl
joined_is punct.Plus c = two punct.Increment punct.AddAssign (c == 43) (c == 61)
joined_is punct.Minus c = two punct.Decrement punct.SubtractAssign (c == 45) (c == 61)
joined_is punct.Star c = one punct.MultiplyAssign (c == 61)
joined_is punct.Slash c = one punct.DivideAssign (c == 61)
joined_is punct.Percent c = one punct.RemainderAssign (c == 61)
joined_is punct.Ampersand c = two punct.AndAnd punct.AndAssign (c == 38) (c == 61)
joined_is punct.Bar c = two punct.OrOr punct.OrAssign (c == 124) (c == 61)
joined_is punct.Caret c = one punct.XorAssign (c == 61)
joined_is punct.Exclamation c = one punct.NotEqual (c == 61)
joined_is punct.Less c = three punct.ShiftLeft punct.LessEqual punct.ShiftLeftAssign (c == 60) (c == 61)
joined_is punct.Greater c = three punct.ShiftRight punct.GreaterEqual punct.ShiftRightAssign (c == 62) (c == 61)
joined_is punct.Equals c = one punct.EqualEqual (c == 61)
joined_is punct.Increment c = refl
joined_is punct.Decrement c = refl
joined_is punct.ShiftLeft c = one punct.ShiftLeftAssign (c == 61)
joined_is punct.ShiftRight c = one punct.ShiftRightAssign (c == 61)
joined_is punct.LessEqual c = refl
joined_is punct.GreaterEqual c = refl
joined_is punct.EqualEqual c = refl
joined_is punct.NotEqual c = refl
joined_is punct.AndAnd c = refl
joined_is punct.OrOr c = refl
joined_is punct.AddAssign c = refl
joined_is punct.SubtractAssign c = refl
joined_is punct.MultiplyAssign c = refl
joined_is punct.DivideAssign c = refl
joined_is punct.RemainderAssign c = refl
joined_is punct.AndAssign c = refl
joined_is punct.OrAssign c = refl
joined_is punct.XorAssign c = refl
joined_is punct.ShiftLeftAssign c = refl
joined_is punct.ShiftRightAssign c = refl

-- no byte joins another punctuator
pub no_join : (m : Punct) (c : ℕ) → (m ≡ punct.Plus → ⊥) → (m ≡ punct.Minus → ⊥) → (m ≡ punct.Star → ⊥) → (m ≡ punct.Slash → ⊥) → (m ≡ punct.Percent → ⊥)
    → (m ≡ punct.Ampersand → ⊥) → (m ≡ punct.Bar → ⊥) → (m ≡ punct.Caret → ⊥) → (m ≡ punct.Exclamation → ⊥) → (m ≡ punct.Less → ⊥) → (m ≡ punct.Greater → ⊥)
    → (m ≡ punct.Equals → ⊥) → (m ≡ punct.ShiftLeft → ⊥) → (m ≡ punct.ShiftRight → ⊥) → joins m c ≡ None
no_join punct.Plus c n0 n1 n2 n3 n4 n5 n6 n7 n8 n9 n10 n11 n12 n13 = absurd (n0 refl)
no_join punct.Minus c n0 n1 n2 n3 n4 n5 n6 n7 n8 n9 n10 n11 n12 n13 = absurd (n1 refl)
no_join punct.Star c n0 n1 n2 n3 n4 n5 n6 n7 n8 n9 n10 n11 n12 n13 = absurd (n2 refl)
no_join punct.Slash c n0 n1 n2 n3 n4 n5 n6 n7 n8 n9 n10 n11 n12 n13 = absurd (n3 refl)
no_join punct.Percent c n0 n1 n2 n3 n4 n5 n6 n7 n8 n9 n10 n11 n12 n13 = absurd (n4 refl)
no_join punct.Ampersand c n0 n1 n2 n3 n4 n5 n6 n7 n8 n9 n10 n11 n12 n13 = absurd (n5 refl)
no_join punct.Bar c n0 n1 n2 n3 n4 n5 n6 n7 n8 n9 n10 n11 n12 n13 = absurd (n6 refl)
no_join punct.Caret c n0 n1 n2 n3 n4 n5 n6 n7 n8 n9 n10 n11 n12 n13 = absurd (n7 refl)
no_join punct.Exclamation c n0 n1 n2 n3 n4 n5 n6 n7 n8 n9 n10 n11 n12 n13 = absurd (n8 refl)
no_join punct.Less c n0 n1 n2 n3 n4 n5 n6 n7 n8 n9 n10 n11 n12 n13 = absurd (n9 refl)
no_join punct.Greater c n0 n1 n2 n3 n4 n5 n6 n7 n8 n9 n10 n11 n12 n13 = absurd (n10 refl)
no_join punct.Equals c n0 n1 n2 n3 n4 n5 n6 n7 n8 n9 n10 n11 n12 n13 = absurd (n11 refl)
no_join punct.ShiftLeft c n0 n1 n2 n3 n4 n5 n6 n7 n8 n9 n10 n11 n12 n13 = absurd (n12 refl)
no_join punct.ShiftRight c n0 n1 n2 n3 n4 n5 n6 n7 n8 n9 n10 n11 n12 n13 = absurd (n13 refl)
no_join m c n0 n1 n2 n3 n4 n5 n6 n7 n8 n9 n10 n11 n12 n13 = refl
