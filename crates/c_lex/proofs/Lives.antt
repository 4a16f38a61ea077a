-- Each phase can go on to a text.
use Rattle.std.proofs.Common.{ℕ, ◌≡◌, ◌≤◌, refl, sym, ap, subst, Bool, true, false, ◌&&◌, ◌||◌, List, [], ◌∷◌, ◌++◌, append_assoc, length, Option, Some}
use Rattle.std.proofs.Common.{None, codes, lit≤}
use Rattle.c_tree.specs.declared.token.Token.{Token}
use Rattle.c_tree.specs.declared.token.Header.TheVariants.{Stdio}
use Rattle.c_tree.specs.declared.token.Reserved.{Reserved}
use Rattle.c_lex.specs.declared.phase.Base.{Base}
use Rattle.c_lex.specs.declared.phase.Base.TheVariants.{Octal, Hex}
use Rattle.c_lex.specs.declared.phase.Context.{Context}
use Rattle.c_lex.specs.declared.phase.Context.TheVariants.{Fresh, Used, Hash, Include, Closed}
use Rattle.c_lex.specs.declared.phase.Place.{Place}
use Rattle.c_lex.specs.declared.phase.Piece.{Piece}
use Rattle.c_lex.specs.declared.phase.Piece.TheVariants as piece
use Rattle.c_lex.specs.declared.phase.Phase.{Phase}
use Rattle.c_lex.specs.declared.phase.Phase.TheVariants as phase
use Rattle.c_lex.specs.Bytes.{class_of, in_word, digit_of, feeds}
use Rattle.c_lex.specs.Spelling.{same, any_same, left_out_words, word_named, is_left_out, header_spelling, include_spelling}
use Rattle.c_lex.specs.Pieces.{is_code, may_end, IsPiece, IsLongest, longer, IsIdentifier, longer_name, name, word, number, plain, header, include_word}
use Rattle.c_lex.specs.Pieces.{character, IsQuoted, plain_byte, simple_escape, hex_escape, first_hex_digit, octal_escape, first_hex, zero_digit}
use Rattle.c_lex.specs.Pieces.{integer_type, IsDigits}
use Rattle.c_lex.specs.Text.{past, after, tokens_of, Pieces, ending, then_piece, AtEnd}
use Rattle.c_lex.proofs.Fine.{ends_star, Fine, Alive}
use Rattle.c_lex.proofs.ByteLemmas.{same_eq, has_close_more, ends_star_more, feeds_keep}
use Rattle.c_lex.proofs.LinePhases as line
use Rattle.c_lex.proofs.NamePhases as names

-- a text goes on from each seam
seam : (w : Context) (p : Place) → (ts : List Token) × (vs : List ℕ) × Pieces AtEnd w p ts vs
seam Fresh p = ([], [], ending (refl, refl))
seam Used p = ([], [], ending (refl, refl))
seam (Hash h) p = ([], [], ending (refl, refl))
seam (Include h) p = (_, header_spelling Stdio ++ [], then_piece (header Stdio) tt (ending (refl, refl)))
seam Closed p = ([], [], ending (refl, refl))

longest : (x : Piece) (us cs : List ℕ) → ((c : ℕ) → longer x us c ≡ false) → IsLongest x us cs
longest x us [] f = tt
longest x us (c ∷ cs) f = f c

whole : (w : Context) (p : Place) (x : Piece) (us : List ℕ) → IsPiece w x us → ((c : ℕ) → longer x us c ≡ false) → Alive w p us
whole w p x us i f = let s = seam (after x w p us) (past p us) in (tokens_of x w p us ++ s.0, s.1, then_piece i (longest x us s.1 f) s.2)

-- a piece at the end of a text
last : (w : Context) (p : Place) (x : Piece) (us : List ℕ) → IsPiece w x us → may_end (after x w p us) ≡ true → Alive w p us
last w p x us i m = (tokens_of x w p us ++ [], [], then_piece i tt (ending (refl, m)))

-- what lives with more bytes lives
more : (w : Context) (p : Place) (us vs : List ℕ) → Alive w p (us ++ vs) → Alive w p us
more w p us vs (ts, ws, t) = (ts, vs ++ ws, subst (λ z. Pieces AtEnd w p ts z) (append_assoc us vs ws) t)

and_no : (b : Bool) → (b && false) ≡ false
and_no true = refl
and_no false = refl

comment_lives : (w : Context) (p : Place) (star : Bool) (us : List ℕ) → Fine w (phase.Comment star) us → Alive w p us
comment_lives w p star us (vs, f, h, s, n) =
    more w p us (42 ∷ []) (more w p (us ++ 42 ∷ []) (47 ∷ []) (whole w p piece.Comment ((us ++ 42 ∷ []) ++ 47 ∷ [])
    (line.comment_end w (us ++ 42 ∷ []) (vs ++ 42 ∷ []) (ap (λ z. z ++ 42 ∷ []) f) (has_close_more vs 42 h (and_no (ends_star vs))) (ends_star_more vs 42)
    (λ q. feeds_keep us 42 (n q) refl) 47 refl) (λ _. refl)))

slash_lives : (w : Context) (p : Place) (us : List ℕ) → us ≡ 47 ∷ [] → Alive w p us
slash_lives w p us f = more w p us (42 ∷ []) (comment_lives w p false (us ++ 42 ∷ [])
    ([], ap (λ z. z ++ 42 ∷ []) f, refl, refl, λ _. ap (λ z. feeds (z ++ 42 ∷ [])) f))

-- behind a word that is left out an `x` makes a name of it
abbrev Freed : List ℕ → Type 0
Freed us = (word_named (us ++ 120 ∷ []) ≡ None) × (is_left_out (us ++ 120 ∷ []) ≡ false) × (length (us ++ 120 ∷ []) ≤ 255)

freed_double : Freed (codes "double")
unfolding word_named is_left_out
freed_double = (refl, refl, lit≤ tt)

freed_float : Freed (codes "float")
unfolding word_named is_left_out
freed_float = (refl, refl, lit≤ tt)

freed_goto : Freed (codes "goto")
unfolding word_named is_left_out
freed_goto = (refl, refl, lit≤ tt)

freed_sizeof : Freed (codes "sizeof")
unfolding word_named is_left_out
freed_sizeof = (refl, refl, lit≤ tt)

freed_struct : Freed (codes "struct")
unfolding word_named is_left_out
freed_struct = (refl, refl, lit≤ tt)

freed_typedef : Freed (codes "typedef")
unfolding word_named is_left_out
freed_typedef = (refl, refl, lit≤ tt)

freed_union : Freed (codes "union")
unfolding word_named is_left_out
freed_union = (refl, refl, lit≤ tt)

freed_volatile : Freed (codes "volatile")
unfolding word_named is_left_out
freed_volatile = (refl, refl, lit≤ tt)

abbrev AllFreed : List (List ℕ) → Type 0
AllFreed [] = Unit {0}
AllFreed (v ∷ vs) = Freed v × AllFreed vs

find_freed : (vs : List (List ℕ)) (us : List ℕ) → AllFreed vs → any_same vs us ≡ true → Freed us
find_freed [] us f e = cc
find_freed (v ∷ vs) us f e = go (λ h. find_freed vs us f.1 h) (same us v) refl e
  where
    go : (any_same vs us ≡ true → Freed us) → (b : Bool) → same us v ≡ b → (b || any_same vs us) ≡ true → Freed us
    go g true q h = subst Freed (sym (same_eq us v q)) f.0
    go g false q h = g h

freed : (us : List ℕ) → is_left_out us ≡ true → Freed us
unfolding is_left_out
freed us e = find_freed left_out_words us (
  freed_double,
  (
    freed_float,
    (freed_goto, (freed_sizeof, (freed_struct, (freed_typedef, (freed_union, (freed_volatile, tt)))))),
  ),
) e

class_x : in_word (class_of 120) ≡ true
unfolding class_of
class_x = refl

zero_hex : digit_of Hex 48 ≡ Some 0
unfolding class_of
zero_hex = refl

name_lives : (w : Context) (p : Place) (us : List ℕ) → is_code w ≡ true → IsIdentifier us → length us ≤ 255 → (o : Option Reserved) → word_named us ≡ o
    → (b : Bool) → is_left_out us ≡ b → Alive w p us
name_lives w p us h i le (Some r) e b l = last w p (piece.Word r) us (subst (λ z. IsPiece w (piece.Word r) z) (sym (names.word_spells us r e)) (word h r)) refl
name_lives w p us h i le None e true l = let f = freed us l in more w p us (120 ∷ [])
    (last w p piece.Name (us ++ 120 ∷ []) (name h (longer_name 120 i class_x) f.2 f.0 f.1) refl)
name_lives w p us h i le None e false l = last w p piece.Name us (name h i le e l) refl

number_lives : (w : Context) (p : Place) (b : Base) (v : ℕ) (us : List ℕ) → is_code w ≡ true → IsDigits b v us → Alive w p us
number_lives w p b v us h i = last w p (piece.Number v (integer_type b false false v)) us (number h (plain i)) refl

quoted_lives : (w : Context) (p : Place) (v : ℕ) (us : List ℕ) → is_code w ≡ true → IsQuoted v us → Alive w p us
quoted_lives w p v us h q = more w p us (39 ∷ []) (last w p (piece.Character v) (us ++ 39 ∷ []) (character h q) refl)

pub living : (w : Context) (p : Place) (ph : Phase) (us : List ℕ) → Fine w ph us → Alive w p us
living w p (phase.Whole x) us f = whole w p x us f.0 f.1
living w p phase.Slash us f = slash_lives w p us f
living w p (phase.Comment star) us f = comment_lives w p star us f
living w p phase.Name us f = name_lives w p us f.0 f.1 f.2 (word_named us) refl (is_left_out us) refl
living w p phase.Zero us f = number_lives w p Octal 0 us f.0 (subst (IsDigits Octal 0) (sym f.2) (zero_digit f.3))
living w p (phase.Digits b v) us f = number_lives w p b v us f.0 f.1
living w p phase.HexMark us f = more w p us (48 ∷ []) (number_lives w p Hex 0 (us ++ 48 ∷ []) f.0
    (subst (λ z. IsDigits Hex 0 (z ++ 48 ∷ [])) (sym f.3) (first_hex f.4 f.5 zero_hex)))
living w p (phase.Suffix b v u l) us f = last w p (piece.Number v (integer_type b u l v)) us (number f.0 f.1) refl
living w p phase.Quote us f = more w p us (97 ∷ []) (quoted_lives w p 97 (us ++ 97 ∷ []) f.0
    (subst (λ z. IsQuoted 97 (z ++ 97 ∷ [])) (sym f.1) (plain_byte refl)))
living w p phase.Escape us f = more w p us (110 ∷ []) (quoted_lives w p 10 (us ++ 110 ∷ []) f.0
    (subst (λ z. IsQuoted 10 (z ++ 110 ∷ [])) (sym f.1) (simple_escape refl)))
living w p phase.HexEscape us f = more w p us (48 ∷ []) (quoted_lives w p 0 (us ++ 48 ∷ []) f.0
    (subst (λ z. IsQuoted 0 (z ++ 48 ∷ [])) (sym f.1) (hex_escape (first_hex_digit zero_hex))))
living w p (phase.OctalDigits n v) us f = quoted_lives w p v us f.0 (octal_escape f.1)
living w p (phase.HexDigits v) us f = quoted_lives w p v us f.0 (hex_escape f.1)
living w p (phase.Body v) us f = quoted_lives w p v us f.0 f.1
living w p (phase.Punct m) us f = last w p (piece.Punct m) us (names.sign_close w m us f) refl
living w p phase.IncludeWord us (q, e, d, rest, h) = more w p us (d ∷ rest)
    (whole w p piece.IncludeWord (us ++ d ∷ rest) (subst (λ z. IsPiece w piece.IncludeWord z) h
    (subst (λ z. IsPiece z piece.IncludeWord include_spelling) (sym e) include_word)) (λ _. refl))
living w p (phase.HeaderName k) us (q, e, d, rest, h) = more w p us (d ∷ rest)
    (whole w p (piece.HeaderName k) (us ++ d ∷ rest) (subst (λ z. IsPiece w (piece.HeaderName k) z) h
    (subst (λ z. IsPiece z (piece.HeaderName k) (header_spelling k)) (sym e) (header k))) (λ _. refl))
living w p phase.Marker us f = last w p piece.Marker us (line.marker_close w us f) refl
