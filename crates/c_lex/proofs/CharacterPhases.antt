-- Character constants.
use Rattle.std.proofs.Common.{ℕ, ◌≡◌, ◌+◌, ◌*◌, refl, sym, ◌∙◌, ap, subst, true, false, nat_lt, ◌==◌, ◌&&◌, ◌||◌, List, [], ◌∷◌, ◌++◌, Option, Some}
use Rattle.std.proofs.Common.{None, Err, eqb-true, ltb-true}
use Rattle.c_lex.specs.declared.phase.Base.TheVariants.{Octal, Hex}
use Rattle.c_lex.specs.declared.phase.Context.{Context}
use Rattle.c_lex.specs.declared.phase.Piece.TheVariants as piece
use Rattle.c_lex.specs.declared.phase.Phase.TheVariants as phase
use Rattle.c_lex.specs.declared.fault.LexKind.TheVariants.{BadChar}
use Rattle.c_lex.specs.Bytes.{digit_of}
use Rattle.c_lex.specs.Pieces.{escape_of, IsOctalEscape, first_octal, next_octal, IsHexEscape, first_hex_digit, next_hex_digit, is_plain, IsQuoted}
use Rattle.c_lex.specs.Pieces.{plain_byte, simple_escape, octal_escape, hex_escape, is_code, IsPiece, character}
use Rattle.c_lex.specs.Text.{Cause, bad_char}
use Rattle.c_lex.specs.Machine.{quote_byte, simple, octal_or_simple, escape_byte, hex_escape_byte, body_byte, octal_byte, hex_byte}
use Rattle.std.proofs.lemmas.Bool.{and_parts, or_parts}
use Rattle.list_laws.proofs.Tests.{choose}
use Rattle.c_lex.proofs.Fine.{Fine, Steps, StepGood}

-- the bytes begin with `'`
abbrev pub Opens : List ℕ → Type 0
Opens us = (vs : List ℕ) × (us ≡ 39 ∷ vs)

pub bad : (w : Context) (us : List ℕ) (o : Option ℕ) → is_code w ≡ true → Opens us → Cause w us o BadChar
bad w us o h (vs, e) = subst (λ z. Cause w z o BadChar) (sym e) (bad_char h)

opens_more : (us : List ℕ) (c : ℕ) → Opens us → Opens (us ++ c ∷ [])
opens_more us c (vs, e) = (vs ++ c ∷ [], ap (λ z. z ++ c ∷ []) e)

pub octal_opens : {n v : ℕ} {us : List ℕ} → IsOctalEscape n v us → Opens us
octal_opens (first_octal {c} e) = (92 ∷ c ∷ [], refl)
octal_opens (next_octal {us} c d o l e m) = opens_more us c (octal_opens o)

pub hex_opens : {v : ℕ} {us : List ℕ} → IsHexEscape v us → Opens us
hex_opens (first_hex_digit {c} e) = (92 ∷ 120 ∷ c ∷ [], refl)
hex_opens (next_hex_digit {us} c d o e m) = opens_more us c (hex_opens o)

pub quoted_opens : {v : ℕ} {us : List ℕ} → IsQuoted v us → Opens us
quoted_opens (plain_byte {c} e) = (c ∷ [], refl)
quoted_opens (simple_escape {c} e) = (92 ∷ c ∷ [], refl)
quoted_opens (octal_escape o) = octal_opens o
quoted_opens (hex_escape o) = hex_opens o

plain_test : (c : ℕ) → (c == 92) ≡ false → (c == 39 || c == 10) ≡ false → is_plain c ≡ true
plain_test c e f = let k = or_parts (c == 39) (c == 10) f in rw (k.0, e, k.1) refl

pub quote_good : (w : Context) (us : List ℕ) (c : ℕ) → Fine w phase.Quote us → StepGood w phase.Quote us c (quote_byte c)
quote_good w us c (h, f) =
    choose (StepGood w phase.Quote us c) (c == 92) _ _
    (λ e. (h, ap (λ z. z ++ c ∷ []) f ∙ ap (λ z. 39 ∷ z ∷ []) (eqb-true c 92 e)))
    (λ e. choose (StepGood w phase.Quote us c) (c == 39 || c == 10) _ _
    (λ _. bad w us (Some c) h ([], f))
    (λ q. (h, subst (λ z. IsQuoted c (z ++ c ∷ [])) (sym f) (plain_byte (plain_test c e q)))))

pub escape_good : (w : Context) (us : List ℕ) (c : ℕ) → Fine w phase.Escape us → StepGood w phase.Escape us c (escape_byte c)
escape_good w us c (h, f) =
    choose (StepGood w phase.Escape us c) (c == 120) _ _
    (λ e. (h, ap (λ z. z ++ c ∷ []) f ∙ ap (λ z. 39 ∷ 92 ∷ z ∷ []) (eqb-true c 120 e)))
    (λ _. go (digit_of Octal c) refl)
  where
    other : (o : Option ℕ) → escape_of c ≡ o → StepGood w phase.Escape us c (simple o)
    other (Some v) q = (h, subst (λ z. IsQuoted v (z ++ c ∷ [])) (sym f) (simple_escape q))
    other None q = bad w us (Some c) h (92 ∷ [], f)

    go : (o : Option ℕ) → digit_of Octal c ≡ o → StepGood w phase.Escape us c (octal_or_simple o c)
    go (Some d) q = (h, subst (λ z. IsOctalEscape 1 d (z ++ c ∷ [])) (sym f) (first_octal q))
    go None q = other (escape_of c) refl

pub hex_escape_good : (w : Context) (us : List ℕ) (c : ℕ) → Fine w phase.HexEscape us → (o : Option ℕ) → digit_of Hex c ≡ o
    → StepGood w phase.HexEscape us c (hex_escape_byte o)
hex_escape_good w us c (h, f) (Some d) q = (h, subst (λ z. IsHexEscape d (z ++ c ∷ [])) (sym f) (first_hex_digit q))
hex_escape_good w us c (h, f) None q = bad w us (Some c) h (92 ∷ 120 ∷ [], f)

-- the last `'`, or nothing goes on
body : (w : Context) (v : ℕ) (us : List ℕ) (c : ℕ) → is_code w ≡ true → IsQuoted v us → Steps w (Err BadChar) us c (body_byte v c)
body w v us c h q =
    choose (Steps w (Err BadChar) us c) (c == 39) _ _
    (λ e. (subst (λ z. IsPiece w (piece.Character v) (us ++ z ∷ [])) (sym (eqb-true c 39 e)) (character h q), λ _. refl))
    (λ _. bad w us (Some c) h (quoted_opens q))

pub body_good : (w : Context) (v : ℕ) (us : List ℕ) (c : ℕ) → Fine w (phase.Body v) us → StepGood w (phase.Body v) us c (body_byte v c)
body_good w v us c (h, q) = body w v us c h q

pub octal_good : (w : Context) (n v : ℕ) (us : List ℕ) (c : ℕ) → Fine w (phase.OctalDigits n v) us → (o : Option ℕ) → digit_of Octal c ≡ o
    → StepGood w (phase.OctalDigits n v) us c (octal_byte n v c o)
octal_good w n v us c (h, i) (Some d) q =
    choose (StepGood w (phase.OctalDigits n v) us c) (nat_lt n 3 && nat_lt (v * 8 + d) 256) _ _
    (λ e. let k = and_parts (nat_lt n 3) (nat_lt (v * 8 + d) 256) e in (h, next_octal c d i (ltb-true _ _ k.0) q (ltb-true _ _ k.1)))
    (λ _. bad w us (Some c) h (octal_opens i))
octal_good w n v us c (h, i) None q = body w v us c h (octal_escape i)

pub hex_good : (w : Context) (v : ℕ) (us : List ℕ) (c : ℕ) → Fine w (phase.HexDigits v) us → (o : Option ℕ) → digit_of Hex c ≡ o
    → StepGood w (phase.HexDigits v) us c (hex_byte v c o)
hex_good w v us c (h, i) (Some d) q =
    choose (StepGood w (phase.HexDigits v) us c) (nat_lt (v * 16 + d) 256) _ _
    (λ e. (h, next_hex_digit c d i q (ltb-true _ _ e)))
    (λ _. bad w us (Some c) h (hex_opens i))
hex_good w v us c (h, i) None q = body w v us c h (hex_escape i)
