-- The machine takes each piece, and ends it where it is the longest.
use Rattle.std.proofs.Common.{ℕ, ◌≡◌, ◌+◌, ◌*◌, ◌<◌, ◌≤◌, refl, sym, ◌∙◌, ap, subst, Bool, true, false, nat_lt, ◌==◌, ◌&&◌, ◌||◌, not, if◌then◌else◌}
use Rattle.std.proofs.Common.{List, [], ◌∷◌, ◌++◌, append_assoc, append-nil, length, length-append, Option, Some, None, is_some, Ok, eqb-true, arith}
use Rattle.std.proofs.Common.{◌⊎◌, inl, inr}
use Rattle.std.proofs.lemmas.Bool.{lt-ltb}
use Rattle.c_tree.specs.declared.token.Header.{Header}
use Rattle.c_tree.specs.declared.token.Header.TheVariants.{Stdio, Stdlib}
use Rattle.c_tree.specs.declared.token.Reserved.{Reserved}
use Rattle.c_tree.specs.declared.token.Punct.{Punct}
use Rattle.c_tree.specs.declared.token.Punct.TheVariants as punct
use Rattle.c_lex.specs.declared.phase.Class.{Class}
use Rattle.c_lex.specs.declared.phase.Class.TheVariants as class
use Rattle.c_lex.specs.declared.phase.Base.{Base}
use Rattle.c_lex.specs.declared.phase.Base.TheVariants.{Octal, Hex}
use Rattle.c_lex.specs.declared.phase.Tail.TheVariants as tail
use Rattle.c_lex.specs.declared.phase.Context.{Context}
use Rattle.c_lex.specs.declared.phase.Context.TheVariants.{Fresh, Used, Hash, Include, Closed}
use Rattle.c_lex.specs.declared.phase.Place.{Place}
use Rattle.c_lex.specs.declared.phase.Piece.{Piece}
use Rattle.c_lex.specs.declared.phase.Piece.TheVariants as piece
use Rattle.c_lex.specs.declared.phase.Phase.{Phase}
use Rattle.c_lex.specs.declared.phase.Phase.TheVariants as phase
use Rattle.c_lex.specs.Bytes.{class_of, is_digit, in_run, digit_of, is_u, is_l, feeds}
use Rattle.c_lex.specs.Spelling.{word_spelling, word_named, is_left_out, punct_spelling, punct_named, same, header_spelling, include_spelling}
use Rattle.c_lex.specs.Pieces.{IsIdentifier, letter, longer_name, IsInteger, plain, with_u, with_l, integer_type, escape_of, IsOctalEscape, first_octal}
use Rattle.c_lex.specs.Pieces.{next_octal, IsHexEscape, first_hex_digit, next_hex_digit, is_plain, IsQuoted, plain_byte, simple_escape, octal_escape}
use Rattle.c_lex.specs.Pieces.{hex_escape, has_close, IsComment, is_code, may_end, IsPiece, blank, feed, comment, hash, include_word, header, marker}
use Rattle.c_lex.specs.Pieces.{name, word, number, character, punctuator, longer}
use Rattle.c_lex.specs.Machine.{tail_of, enter_code, enter_fresh, enter_hash, enter_include, enter_closed, enter, goes, stops, slash, comment_byte}
use Rattle.c_lex.specs.Machine.{suffix, digit_byte, quote_byte, simple, octal_or_simple, hex_escape_byte, octal_byte, hex_byte, sign_byte, step}
use Rattle.c_lex.specs.Machine.{name_piece, slash_piece, close}
use Rattle.std.proofs.lemmas.Bool.{or_parts, not-true, not-false}
use Rattle.list_laws.proofs.Tests.{choose, if_true, if_false}
use Rattle.list_laws.proofs.Elements.{onto}
use Rattle.c_lex.proofs.Fine.{ends_star}
use Rattle.c_lex.proofs.ByteLemmas.{outside, no_digit, u_no_digit, l_no_digit, run_no_x, feeds_more, ends_star_more, has_close_front}
use Rattle.c_lex.specs.Machine.{Gets, first_byte, next_byte}
use Rattle.c_lex.proofs.Gets.{takes}
use Rattle.c_lex.proofs.Fixed.{word_reads, sign_phase, sign_reads}
use Rattle.c_lex.proofs.NumberPhases.{enters, DigitsAt, at_zero, at_digits, digits_get}

abbrev pub Spelled : Context → Piece → List ℕ → Type 0
Spelled w x us = (ph : Phase) × Gets w us ph × (close w ph us ≡ Ok x) × ((c : ℕ) → longer x us c ≡ false → step w ph us c ≡ Ok None)

whole : {w : Context} {x : Piece} {us : List ℕ} → Gets w us (phase.Whole x) → Spelled w x us
whole {x} g = (phase.Whole x, g, refl, λ c _. refl)

enter_blank : (w : Context) (c : ℕ) → class_of c ≡ class.Blank → enter w c ≡ Ok (phase.Whole piece.Blank)
enter_blank Fresh c e = ap (λ k. enter_fresh k c) e
enter_blank Used c e = ap (λ k. enter_code k c) e
enter_blank (Hash p) c e = ap (λ k. enter_hash k c) e
enter_blank (Include p) c e = ap (λ k. enter_include k c) e
enter_blank Closed c e = ap (λ k. enter_closed k c) e

enter_feed : (w : Context) (c : ℕ) → class_of c ≡ class.Feed → may_end w ≡ true → enter w c ≡ Ok (phase.Whole piece.Feed)
enter_feed Fresh c e m = ap (λ k. enter_fresh k c) e
enter_feed Used c e m = ap (λ k. enter_code k c) e
enter_feed (Hash p) c e m = ap (λ k. enter_hash k c) e
enter_feed (Include p) c e m = cc
enter_feed Closed c e m = ap (λ k. enter_closed k c) e

enter_slash : (w : Context) → enter w 47 ≡ Ok phase.Slash
unfolding class_of
enter_slash Fresh = refl
enter_slash Used = refl
enter_slash (Hash p) = refl
enter_slash (Include p) = refl
enter_slash Closed = refl

-- a list from its end
by_end : (P : List ℕ → Type 0) → P [] → ((us : List ℕ) (c : ℕ) → P us → P (us ++ c ∷ [])) → (us : List ℕ) → P us
by_end P base more us = go us [] base
  where
    go : (cs us : List ℕ) → P us → P (us ++ cs)
    go [] us h = subst P (sym (append-nil us)) h
    go (c ∷ cs) us h = subst P (onto us c cs) (go cs (us ++ c ∷ []) (more us c h))

feeds_front : (us vs : List ℕ) → feeds (us ++ vs) ≡ 0 → (feeds us ≡ 0) × (feeds vs ≡ 0)
feeds_front us vs e = (omega (arith, e, feeds_more us vs), omega (arith, e, feeds_more us vs))

no_feed : (c : ℕ) → feeds (c ∷ []) ≡ 0 → (c == 10) ≡ false
no_feed c e = go (c == 10) e
  where
    go : (b : Bool) → (if b then 1 else 0) + 0 ≡ 0 → b ≡ false
    go true h = absurd (omega (arith, h))
    go false h = refl

not_ended : (w : Context) (c : ℕ) → (is_code w ≡ false → feeds (c ∷ []) ≡ 0) → (not (is_code w) && c == 10) ≡ false
not_ended w c f = go (is_code w) refl
  where
    go : (b : Bool) → is_code w ≡ b → (not b && c == 10) ≡ false
    go true h = refl
    go false h = no_feed c (f h)

abbrev Commented : Context → List ℕ → Type 0
Commented w vs = has_close vs ≡ false → (is_code w ≡ false → feeds vs ≡ 0) → Gets w (47 ∷ 42 ∷ vs) (phase.Comment (ends_star vs))

commented : (w : Context) (vs : List ℕ) → Commented w vs
commented w = by_end (Commented w)
    (λ _ _. next_byte {us = 47 ∷ []} {ph = phase.Slash} 42 (first_byte 47 (enter_slash w)) refl)
    (λ us c ih h n. let k = has_close_front us c h in
    subst (λ z. Gets w (47 ∷ 42 ∷ (us ++ c ∷ [])) (phase.Comment z)) (sym (ends_star_more us c))
    (next_byte {us = 47 ∷ 42 ∷ us} c (ih k.0 (λ q. (feeds_front us (c ∷ []) (n q)).0))
    (if_false _ _ k.1 ∙ if_false _ _ (not_ended w c (λ q. (feeds_front us (c ∷ []) (n q)).1)))))

comment_spelled : (w : Context) (us : List ℕ) → IsComment us → (is_code w ≡ false → feeds us ≡ 0) → Spelled w piece.Comment us
comment_spelled w us (body, e, h) n = whole (subst (λ z. Gets w z (phase.Whole piece.Comment)) (sym all)
    (next_byte {us = 47 ∷ 42 ∷ (body ++ 42 ∷ [])} 47 (commented w (body ++ 42 ∷ []) h quiet) last))
  where
    all : us ≡ 47 ∷ 42 ∷ (body ++ 42 ∷ []) ++ 47 ∷ []
    all = e ∙ ap (λ z. 47 ∷ 42 ∷ z) (sym (append_assoc body (42 ∷ []) (47 ∷ [])))

    quiet : is_code w ≡ false → feeds (body ++ 42 ∷ []) ≡ 0
    quiet q = (feeds_front (47 ∷ 42 ∷ []) (body ++ 42 ∷ []) (feeds_front (47 ∷ 42 ∷ (body ++ 42 ∷ [])) (47 ∷ []) (ap feeds (sym all) ∙ n q)).0).1

    last : step w (phase.Comment (ends_star (body ++ 42 ∷ []))) (47 ∷ 42 ∷ (body ++ 42 ∷ [])) 47 ≡ goes (phase.Whole piece.Comment)
    last = ap (λ z. comment_byte w z 47) (ends_star_more body 42)

include_spelled : (p : Place) → Spelled (Hash p) piece.IncludeWord include_spelling
unfolding class_of
include_spelled p = whole (takes (Hash p) include_spelling (phase.Whole piece.IncludeWord) refl)

header_spelled : (p : Place) (h : Header) → Spelled (Include p) (piece.HeaderName h) (header_spelling h)
unfolding class_of
header_spelled p Stdio = whole (takes (Include p) (header_spelling Stdio) (phase.Whole (piece.HeaderName Stdio)) refl)
header_spelled p Stdlib = whole (takes (Include p) (header_spelling Stdlib) (phase.Whole (piece.HeaderName Stdlib)) refl)

enter_marker : (p : Place) (c : ℕ) (k : Class) → class_of c ≡ k → is_digit k ≡ true → enter (Hash p) c ≡ Ok phase.Marker
enter_marker p c class.Zero e d = ap (λ k. enter_hash k c) e
enter_marker p c class.Digit e d = ap (λ k. enter_hash k c) e
enter_marker p c class.Blank e d = cc
enter_marker p c class.Feed e d = cc
enter_marker p c class.Letter e d = cc
enter_marker p c class.Hash e d = cc
enter_marker p c class.Quote e d = cc
enter_marker p c class.Apostrophe e d = cc
enter_marker p c class.Slash e d = cc
enter_marker p c class.Other e d = cc

marked : (w : Context) (cs us : List ℕ) → Gets w us phase.Marker → feeds cs ≡ 0 → Gets w (us ++ cs) phase.Marker
marked w [] us g n = subst (λ z. Gets w z phase.Marker) (sym (append-nil us)) g
marked w (c ∷ cs) us g n = let k = feeds_front (c ∷ []) cs n in subst (λ z. Gets w z phase.Marker) (onto us c cs)
    (marked w cs (us ++ c ∷ []) (next_byte c g (if_false _ _ (no_feed c k.0))) k.1)

marker_spelled : (p : Place) (c : ℕ) (us : List ℕ) → is_digit (class_of c) ≡ true → feeds us ≡ 0 → Spelled (Hash p) piece.Marker (c ∷ us)
marker_spelled p c us d n = (
  phase.Marker,
  marked (Hash p) us (c ∷ []) (first_byte c (enter_marker p c (class_of c) refl d)) n,
  refl,
  λ a h. if_true _ _
      (not-false _ h),
)

identified : (w : Context) {us : List ℕ} → is_code w ≡ true → IsIdentifier us → length us ≤ 255 → Gets w us phase.Name
identified w h (letter {c} e) l = first_byte c (enters w c class.Letter h e (λ z. cc))
identified w h (longer_name {us} c i e) l =
    let k : length us < 255 = omega (arith, l, length-append us (c ∷ [])) in
    next_byte c (identified w h i (omega (arith, k))) (if_true _ _ e ∙ if_true _ _ (lt-ltb _ _ k))

name_spelled : (w : Context) (us : List ℕ) → is_code w ≡ true → IsIdentifier us → length us ≤ 255 → word_named us ≡ None → is_left_out us ≡ false
    → Spelled w piece.Name us
name_spelled w us h i l n o = (phase.Name, identified w h i l, ap (λ z. name_piece z (is_left_out us)) n ∙ ap (name_piece None) o, λ c e. if_false _ _ e)

word_spelled : (w : Context) (r : Reserved) → is_code w ≡ true → Spelled w (piece.Word r) (word_spelling r)
word_spelled w r h = (phase.Name, go w h, ap (λ z. name_piece z (is_left_out (word_spelling r))) (word_reads r).2, λ c e. if_false _ _ e)
  where
    go : (w : Context) → is_code w ≡ true → Gets w (word_spelling r) phase.Name
    go Fresh h = takes Fresh (word_spelling r) phase.Name (word_reads r).0
    go Used h = takes Used (word_spelling r) phase.Name (word_reads r).1
    go (Hash p) h = cc
    go (Include p) h = cc
    go Closed h = cc

-- numbers
data IntegerAt : Base → ℕ → Bool → Bool → Phase → Type 0 where
  in_digits : {b : Base} {v : ℕ} {ph : Phase} → DigitsAt b v ph → IntegerAt b v false false ph
  in_suffix : {b : Base} {v : ℕ} {u l : Bool} → IntegerAt b v u l (phase.Suffix b v u l)

take_u : (w : Context) (us : List ℕ) (c : ℕ) {b : Base} {v : ℕ} {l : Bool} {ph : Phase} → is_u c ≡ true → IntegerAt b v false l ph
    → step w ph us c ≡ goes (phase.Suffix b v true l)
take_u w us c e (in_digits at_zero) = let k = u_no_digit Octal c e in if_false _ _ k.2 ∙ ap (λ z. digit_byte Octal 0 z (tail_of c)) k.0 ∙ ap
    (suffix Octal 0 false false) k.1
take_u w us c e (in_digits (at_digits {b} {v})) = let k = u_no_digit b c e in ap (λ z. digit_byte b v z (tail_of c)) k.0 ∙ ap (suffix b v false false) k.1
take_u w us c e (in_suffix {b} {v} {l}) = let k = u_no_digit b c e in ap (suffix b v false l) k.1

take_l : (w : Context) (us : List ℕ) (c : ℕ) {b : Base} {v : ℕ} {u : Bool} {ph : Phase} → is_l c ≡ true → IntegerAt b v u false ph
    → step w ph us c ≡ goes (phase.Suffix b v u true)
take_l w us c e (in_digits at_zero) = let k = l_no_digit Octal c e in if_false _ _ k.2 ∙ ap (λ z. digit_byte Octal 0 z (tail_of c)) k.0 ∙ ap
    (suffix Octal 0 false false) k.1
take_l w us c e (in_digits (at_digits {b} {v})) = let k = l_no_digit b c e in ap (λ z. digit_byte b v z (tail_of c)) k.0 ∙ ap (suffix b v false false) k.1
take_l w us c e (in_suffix {b} {v} {u}) = let k = l_no_digit b c e in ap (suffix b v u false) k.1 ∙ long_one b v u
  where
    long_one : (b : Base) (v : ℕ) (u : Bool) → suffix b v u false tail.Long ≡ goes (phase.Suffix b v u true)
    long_one b v true = refl
    long_one b v false = refl

integer_gets : (w : Context) → is_code w ≡ true → {b : Base} {v : ℕ} {u l : Bool} {us : List ℕ} → IsInteger b v u l us
    → (ph : Phase) × Gets w us ph × IntegerAt b v u l ph
integer_gets w h (plain i) = let r = digits_get w h i in (r.0, r.1, in_digits r.2)
integer_gets w h (with_u {b} {v} {l} {us} c i e) = let r = integer_gets w h i in (phase.Suffix b v true l, next_byte c r.1 (take_u w us c e r.2), in_suffix)
integer_gets w h (with_l {b} {v} {u} {us} c i e) = let r = integer_gets w h i in (phase.Suffix b v u true, next_byte c r.1 (take_l w us c e r.2), in_suffix)

integer_close : (w : Context) (us : List ℕ) {b : Base} {v : ℕ} {u l : Bool} {ph : Phase} → IntegerAt b v u l ph
    → close w ph us ≡ Ok (piece.Number v (integer_type b u l v))
integer_close w us (in_digits at_zero) = refl
integer_close w us (in_digits at_digits) = refl
integer_close w us in_suffix = refl

suffix_outside : (b : Base) (v : ℕ) (u l : Bool) → suffix b v u l tail.Outside ≡ stops
suffix_outside b v true true = refl
suffix_outside b v true false = refl
suffix_outside b v false true = refl
suffix_outside b v false false = refl

integer_stops : (w : Context) (us : List ℕ) (c : ℕ) {b : Base} {v : ℕ} {u l : Bool} {ph : Phase} → in_run c ≡ false → IntegerAt b v u l ph
    → step w ph us c ≡ stops
integer_stops w us c e (in_digits at_zero) = if_false _ _ (run_no_x c e) ∙ ap (λ z. digit_byte Octal 0 z (tail_of c)) (no_digit Octal (class_of c) c e) ∙ ap
    (suffix Octal 0 false false) (outside (class_of c) c e)
integer_stops w us c e (in_digits (at_digits {b} {v})) = ap (λ z. digit_byte b v z (tail_of c)) (no_digit b (class_of c) c e) ∙ ap (suffix b v false false)
    (outside (class_of c) c e)
integer_stops w us c e (in_suffix {b} {v} {u} {l}) = ap (suffix b v u l) (outside (class_of c) c e) ∙ suffix_outside b v u l

number_spelled : (w : Context) (b : Base) (v : ℕ) (u l : Bool) (us : List ℕ) → is_code w ≡ true → IsInteger b v u l us
    → Spelled w (piece.Number v (integer_type b u l v)) us
number_spelled w b v u l us h i = let r = integer_gets w h i in (r.0, r.1, integer_close w us r.2, λ c e. integer_stops w us c e r.2)

-- character constants
quote_enters : (w : Context) → is_code w ≡ true → enter w 39 ≡ Ok phase.Quote
unfolding class_of
quote_enters Fresh h = refl
quote_enters Used h = refl
quote_enters (Hash p) h = cc
quote_enters (Include p) h = cc
quote_enters Closed h = cc

quote_gets : (w : Context) → is_code w ≡ true → Gets w (39 ∷ []) phase.Quote
quote_gets w h = first_byte 39 (quote_enters w h)

escape_gets : (w : Context) → is_code w ≡ true → Gets w (39 ∷ 92 ∷ []) phase.Escape
escape_gets w h = next_byte {us = 39 ∷ []} 92 (quote_gets w h) refl

hex_escape_gets : (w : Context) → is_code w ≡ true → Gets w (39 ∷ 92 ∷ 120 ∷ []) phase.HexEscape
hex_escape_gets w h = next_byte {us = 39 ∷ 92 ∷ []} 120 (escape_gets w h) refl

-- an octal digit is no `x`
not_x : (c d : ℕ) → digit_of Octal c ≡ Some d → (c == 120) ≡ false
unfolding class_of
not_x c d e = go (c == 120) refl
  where
    go : (b : Bool) → (c == 120) ≡ b → b ≡ false
    go true h = let q : None ≡ Some d = ap (digit_of Octal) (sym (eqb-true c 120 h)) ∙ e in absurd cc
    go false h = refl

-- what stands behind a backslash for one byte is no digit and no `x`
abbrev Simple : ℕ → Option ℕ → Type 0
Simple c (Some v) = (digit_of Octal c ≡ None) × ((c == 120) ≡ false)
Simple c None = Unit {0}

simple_is : (c : ℕ) → Simple c (escape_of c)
unfolding class_of
simple_is c =
    choose (Simple c) (c == 39) _ _ (λ e. is 39 e (refl, refl)) (λ _. choose (Simple c) (c == 34) _ _ (λ e. is 34 e (refl, refl))
    (λ _. choose (Simple c) (c == 63) _ _ (λ e. is 63 e (refl, refl))
    (λ _. choose (Simple c) (c == 92) _ _ (λ e. is 92 e (refl, refl))
    (λ _. choose (Simple c) (c == 97) _ _ (λ e. is 97 e (refl, refl)) (λ _. choose (Simple c) (c == 98) _ _ (λ e. is 98 e (refl, refl))
    (λ _. choose (Simple c) (c == 102) _ _ (λ e. is 102 e (refl, refl))
    (λ _. choose (Simple c) (c == 110) _ _ (λ e. is 110 e (refl, refl)) (λ _. choose (Simple c) (c == 114) _ _ (λ e. is 114 e (refl, refl))
    (λ _. choose (Simple c) (c == 116) _ _ (λ e. is 116 e (refl, refl)) (λ _. choose (Simple c) (c == 118) _ _ (λ e. is 118 e (refl, refl)) (λ _. tt)))))))))))
  where
    is : (a : ℕ) → (c == a) ≡ true → (digit_of Octal a ≡ None) × ((a == 120) ≡ false) → (digit_of Octal c ≡ None) × ((c == 120) ≡ false)
    is a e h = subst (λ z. (digit_of Octal z ≡ None) × ((z == 120) ≡ false)) (sym (eqb-true c a e)) h

octal_gets : (w : Context) → is_code w ≡ true → {n v : ℕ} {us : List ℕ} → IsOctalEscape n v us → Gets w us (phase.OctalDigits n v)
octal_gets w h (first_octal {c} {d} e) = next_byte {us = 39 ∷ 92 ∷ []} c (escape_gets w h) (if_false _ _ (not_x c d e) ∙ ap (λ z. octal_or_simple z c) e)
octal_gets w h (next_octal {n} {v} c d i l e m) = next_byte c (octal_gets w h i)
    (ap (octal_byte n v c) e ∙ if_true _ _ (ap (λ z. z && nat_lt (v * 8 + d) 256) (lt-ltb _ _ l) ∙ lt-ltb _ _ m))

hex_gets : (w : Context) → is_code w ≡ true → {v : ℕ} {us : List ℕ} → IsHexEscape v us → Gets w us (phase.HexDigits v)
hex_gets w h (first_hex_digit {c} {d} e) = next_byte {us = 39 ∷ 92 ∷ 120 ∷ []} c (hex_escape_gets w h) (ap hex_escape_byte e)
hex_gets w h (next_hex_digit {v} c d i e m) = next_byte c (hex_gets w h i) (ap (hex_byte v c) e ∙ if_true _ _ (lt-ltb _ _ m))

no_digit_quote : (b : Base) → digit_of b 39 ≡ None
unfolding class_of
no_digit_quote b = refl

plain_quote : (c : ℕ) → is_plain c ≡ true → quote_byte c ≡ goes (phase.Body c)
plain_quote c e =
    let k = or_parts (c == 39) (c == 92 || c == 10) (not-true _ e) in
    let j = or_parts (c == 92) (c == 10) k.1 in
    if_false _ _ j.0 ∙ if_false _ _ (ap (λ z. z || c == 10) k.0 ∙ j.1)

quoted_gets : (w : Context) → is_code w ≡ true → {v : ℕ} {us : List ℕ} → IsQuoted v us → Gets w (us ++ 39 ∷ []) (phase.Whole (piece.Character v))
quoted_gets w h (plain_byte {c} e) = next_byte {us = 39 ∷ c ∷ []} 39 (next_byte {us = 39 ∷ []} c (quote_gets w h) (plain_quote c e)) refl
quoted_gets w h (simple_escape {c} {v} e) =
    let k : Simple c (Some v) = subst (Simple c) e (simple_is c) in
    next_byte {us = 39 ∷ 92 ∷ c ∷ []} 39 (next_byte {us = 39 ∷ 92 ∷ []} c (escape_gets w h)
    (if_false _ _ k.1 ∙ ap (λ z. octal_or_simple z c) k.0 ∙ ap simple e)) refl
quoted_gets w h (octal_escape {n} {v} i) = next_byte 39 (octal_gets w h i) (ap (octal_byte n v 39) (no_digit_quote Octal))
quoted_gets w h (hex_escape {v} i) = next_byte 39 (hex_gets w h i) (ap (hex_byte v 39) (no_digit_quote Hex))

-- punctuators
sign_gets : (w : Context) (m : Punct) → is_code w ≡ true → Gets w (punct_spelling m) (sign_phase m)
sign_gets Fresh m h = takes Fresh (punct_spelling m) (sign_phase m) (sign_reads m).0
sign_gets Used m h = takes Used (punct_spelling m) (sign_phase m) (sign_reads m).1
sign_gets (Hash p) m h = cc
sign_gets (Include p) m h = cc
sign_gets Closed m h = cc

none_of : (o : Option Punct) → is_some o ≡ false → o ≡ None
none_of (Some m) e = cc
none_of None e = refl

sign_stops : (m : Punct) (us : List ℕ) (c : ℕ) → longer (piece.Punct m) us c ≡ false → sign_byte (punct_named (us ++ c ∷ [])) ≡ stops
sign_stops m us c e = ap sign_byte (none_of _ (or_parts _ _ e).0)

not_divide : (c : ℕ) → is_some (punct_named (47 ∷ c ∷ [])) ≡ false → (c == 61) ≡ false
unfolding punct_named
not_divide c q = go (c == 61) refl
  where
    go : (b : Bool) → (c == 61) ≡ b → b ≡ false
    go true h = let r : true ≡ false = subst (λ z. is_some (punct_named (47 ∷ z ∷ [])) ≡ false) (eqb-true c 61 h) q in r
    go false h = refl

and_no : (a b : Bool) → b ≡ false → (a && b) ≡ false
and_no true b h = h
and_no false b h = refl

slash_stops : (w : Context) (c : ℕ) → longer (piece.Punct punct.Slash) (47 ∷ []) c ≡ false → slash w c ≡ stops
slash_stops w c e =
    let k = or_parts (is_some (punct_named (47 ∷ c ∷ []))) (same (47 ∷ []) (47 ∷ []) && c == 42) e in
    if_false {b = c == 42} (goes (phase.Comment false)) (if is_code w && c == 61 then goes (phase.Punct punct.DivideAssign) else stops) k.1
    ∙ if_false {b = is_code w && c == 61} (goes (phase.Punct punct.DivideAssign)) stops (and_no (is_code w) (c == 61) (not_divide c k.0))

slash_or : (m : Punct) → (m ≡ punct.Slash) ⊎ (sign_phase m ≡ phase.Punct m)
slash_or punct.Slash = inl refl
slash_or m = inr refl

sign_spelled : (w : Context) (m : Punct) → is_code w ≡ true → Spelled w (piece.Punct m) (punct_spelling m)
sign_spelled w m h = go (slash_or m)
  where
    by_slash : Spelled w (piece.Punct punct.Slash) (punct_spelling punct.Slash)
    by_slash = (phase.Slash, sign_gets w punct.Slash h, ap slash_piece h, λ c e. slash_stops w c e)

    go : (m ≡ punct.Slash) ⊎ (sign_phase m ≡ phase.Punct m) → Spelled w (piece.Punct m) (punct_spelling m)
    go (inl e) = subst (λ z. Spelled w (piece.Punct z) (punct_spelling z)) (sym e) by_slash
    go (inr e) = (phase.Punct m, subst (Gets w (punct_spelling m)) e (sign_gets w m h), refl, λ c f. sign_stops m (punct_spelling m) c f)

pub spelled : {w : Context} {x : Piece} {us : List ℕ} → IsPiece w x us → Spelled w x us
spelled {w} (blank {c} e) = whole (first_byte c (enter_blank w c e))
spelled {w} (feed {c} e m) = whole (first_byte c (enter_feed w c e m))
spelled {w} {us} (comment i n) = comment_spelled w us i n
spelled (hash {c} e) = whole (first_byte c (ap (λ k. enter_fresh k c) e))
spelled (include_word {p}) = include_spelled p
spelled (header {p} h) = header_spelled p h
spelled (marker {p} {c} {us} d n) = marker_spelled p c us d n
spelled {w} {us} (name h i l n o) = name_spelled w us h i l n o
spelled {w} (word h r) = word_spelled w r h
spelled {w} {us} (number {b} {v} {u} {l} h i) = number_spelled w b v u l us h i
spelled {w} (character h q) = whole (quoted_gets w h q)
spelled {w} (punctuator h m) = sign_spelled w m h
