-- Blanks, comments, directives and the first byte of each piece.
use Rattle.std.proofs.Common.{ℕ, ◌≡◌, refl, sym, ◌∙◌, ap, subst, Bool, true, false, ◌==◌, ◌&&◌, not, List, [], ◌∷◌, ◌++◌, length, take, drop}
use Rattle.std.proofs.Common.{append_assoc, Option, Some, None, Result, eqb-true, arith, lit≤, codes}
use Rattle.c_tree.specs.declared.token.Header.{Header}
use Rattle.c_tree.specs.declared.token.Header.TheVariants.{Stdio, Stdlib}
use Rattle.c_tree.specs.declared.token.Punct.{Punct}
use Rattle.c_tree.specs.declared.token.Punct.TheVariants as punct
use Rattle.c_lex.specs.declared.phase.Class.{Class}
use Rattle.c_lex.specs.declared.phase.Class.TheVariants as class
use Rattle.c_lex.specs.declared.phase.Base.TheVariants.{Decimal}
use Rattle.c_lex.specs.declared.phase.Place.{Place}
use Rattle.c_lex.specs.declared.phase.Context.{Context}
use Rattle.c_lex.specs.declared.phase.Context.TheVariants.{Fresh, Used, Hash, Include, Closed}
use Rattle.c_lex.specs.declared.phase.Piece.{Piece}
use Rattle.c_lex.specs.declared.phase.Piece.TheVariants as piece
use Rattle.c_lex.specs.declared.phase.Phase.{Phase}
use Rattle.c_lex.specs.declared.phase.Phase.TheVariants as phase
use Rattle.c_lex.specs.declared.fault.LexKind.{LexKind}
use Rattle.c_lex.specs.declared.fault.LexKind.TheVariants.{BadByte, Directive, OpenComment, LeftOut}
use Rattle.c_lex.specs.Bytes.{class_of, is_digit, digit_of, feeds}
use Rattle.c_lex.specs.Spelling.{punct_spelling, puncts, punct_named, header_spelling, include_spelling, same}
use Rattle.c_lex.specs.Pieces.{letter, first_decimal, has_close, is_code, may_end, IsPiece, blank, feed, comment, hash, include_word, header, marker}
use Rattle.c_lex.specs.Pieces.{punctuator, longer}
use Rattle.c_lex.specs.Text.{Cause, no_piece, quote, open_comment, directive, IsOpenComment}
use Rattle.c_lex.specs.Machine.{sign, decimal, enter_code, enter_fresh, enter_hash, enter_include, enter_closed, enter, goes, stops, slash}
use Rattle.c_lex.specs.Machine.{comment_byte, spelled, header_byte, marker_byte, slash_piece}
use Rattle.std.proofs.lemmas.Bool.{and_parts, not-true}
use Rattle.list_laws.proofs.Tests.{choose, and_false}
use Rattle.list_laws.proofs.Elements.{onto}
use Rattle.c_lex.proofs.Fine.{ends_star, Fine, EnterGood, SeamGood, CloseGood, StepGood}
use Rattle.c_lex.proofs.ByteLemmas.{byte_of, class_quote, class_slash, not_byte, named_spells, feeds_keep, ends_star_more, star_last, has_close_more}

may_end_code : (w : Context) → is_code w ≡ true → may_end w ≡ true
may_end_code Fresh h = refl
may_end_code Used h = refl
may_end_code (Hash p) h = cc
may_end_code (Include p) h = cc
may_end_code Closed h = cc

some_none : {A B : Type 0} (c : A) → Some c ≡ None → B
some_none c e = absurd cc

begins_nothing : (w : Context) (c : ℕ) (k : Class) → is_code w ≡ true → class_of c ≡ k → (k ≡ class.Quote → ⊥) → Cause w [] (Some c) BadByte
begins_nothing w c k h e n = no_piece h (not_byte c 34 k class.Quote e class_quote n)

pub punct_spells : (us : List ℕ) (m : Punct) → punct_named us ≡ Some m → us ≡ punct_spelling m
unfolding punct_named
punct_spells us m q = named_spells punct_spelling puncts us m q

enter_code_good : (w : Context) → is_code w ≡ true → (c : ℕ) (k : Class) → class_of c ≡ k → EnterGood w c (enter_code k c)
enter_code_good w h c class.Blank e = (blank e, λ _. refl)
enter_code_good w h c class.Feed e = (feed e (may_end_code w h), λ _. refl)
enter_code_good w h c class.Letter e = (h, letter e, lit≤ tt)
enter_code_good w h c class.Zero e = (h, c, refl, e)
enter_code_good w h c class.Digit e = go (digit_of Decimal c) refl
  where
    go : (o : Option ℕ) → digit_of Decimal c ≡ o → EnterGood w c (decimal o)
    go (Some d) q = (h, first_decimal e q, (c, [], refl, ap is_digit e))
    go None q = begins_nothing w c class.Digit h e (λ z. cc)
enter_code_good w h c class.Hash e = begins_nothing w c class.Hash h e (λ z. cc)
enter_code_good w h c class.Quote e = subst (λ z. Cause w [] (Some z) LeftOut) (sym (byte_of c class.Quote e)) (quote h)
enter_code_good w h c class.Apostrophe e = (h, ap (λ z. z ∷ []) (byte_of c class.Apostrophe e))
enter_code_good w h c class.Slash e = ap (λ z. z ∷ []) (byte_of c class.Slash e)
enter_code_good w h c class.Other e = go (punct_named (c ∷ [])) refl
  where
    one : (b : Bool) → b ≡ false → (b && true) ≡ false
    one b q = rw q refl

    go : (o : Option Punct) → punct_named (c ∷ []) ≡ o → EnterGood w c (sign o)
    go (Some m) q = (h, punct_spells (c ∷ []) m q, one _ (not_byte c 47 class.Other class.Slash e class_slash (λ z. cc)), c, [], refl)
    go None q = begins_nothing w c class.Other h e (λ z. cc)

directive_byte : (w : Context) (us : List ℕ) (c : ℕ) → is_code w ≡ false → Cause w us (Some c) Directive
directive_byte w us c h = directive h (λ e. some_none c e)

enter_hash_good : (p : Place) (c : ℕ) (k : Class) → class_of c ≡ k → EnterGood (Hash p) c (enter_hash k c)
enter_hash_good p c class.Blank e = (blank e, λ _. refl)
enter_hash_good p c class.Feed e = (feed e refl, λ _. refl)
enter_hash_good p c class.Slash e = ap (λ z. z ∷ []) (byte_of c class.Slash e)
enter_hash_good p c class.Zero e = (p, refl, c, [], refl, ap is_digit e, refl)
enter_hash_good p c class.Digit e = (p, refl, c, [], refl, ap is_digit e, refl)
enter_hash_good p c class.Letter e = choose (EnterGood (Hash p) c) (c == 105) _ _
    (λ h. (p, refl, 110, codes "clude", ap (λ z. z ∷ codes "nclude") (sym (eqb-true c 105 h)))) (λ _. directive_byte (Hash p) [] c refl)
enter_hash_good p c class.Hash e = directive_byte (Hash p) [] c refl
enter_hash_good p c class.Quote e = directive_byte (Hash p) [] c refl
enter_hash_good p c class.Apostrophe e = directive_byte (Hash p) [] c refl
enter_hash_good p c class.Other e = directive_byte (Hash p) [] c refl

enter_include_good : (p : Place) (c : ℕ) (k : Class) → class_of c ≡ k → EnterGood (Include p) c (enter_include k c)
enter_include_good p c class.Blank e = (blank e, λ _. refl)
enter_include_good p c class.Slash e = ap (λ z. z ∷ []) (byte_of c class.Slash e)
enter_include_good p c class.Other e = choose (EnterGood (Include p) c) (c == 60) _ _
    (λ h. (p, refl, 115, codes "tdio.h>", ap (λ z. z ∷ codes "stdio.h>") (sym (eqb-true c 60 h)))) (λ _. directive_byte (Include p) [] c refl)
enter_include_good p c class.Feed e = directive_byte (Include p) [] c refl
enter_include_good p c class.Letter e = directive_byte (Include p) [] c refl
enter_include_good p c class.Zero e = directive_byte (Include p) [] c refl
enter_include_good p c class.Digit e = directive_byte (Include p) [] c refl
enter_include_good p c class.Hash e = directive_byte (Include p) [] c refl
enter_include_good p c class.Quote e = directive_byte (Include p) [] c refl
enter_include_good p c class.Apostrophe e = directive_byte (Include p) [] c refl

enter_closed_good : (c : ℕ) (k : Class) → class_of c ≡ k → EnterGood Closed c (enter_closed k c)
enter_closed_good c class.Blank e = (blank e, λ _. refl)
enter_closed_good c class.Feed e = (feed e refl, λ _. refl)
enter_closed_good c class.Slash e = ap (λ z. z ∷ []) (byte_of c class.Slash e)
enter_closed_good c class.Letter e = directive_byte Closed [] c refl
enter_closed_good c class.Zero e = directive_byte Closed [] c refl
enter_closed_good c class.Digit e = directive_byte Closed [] c refl
enter_closed_good c class.Hash e = directive_byte Closed [] c refl
enter_closed_good c class.Quote e = directive_byte Closed [] c refl
enter_closed_good c class.Apostrophe e = directive_byte Closed [] c refl
enter_closed_good c class.Other e = directive_byte Closed [] c refl

enter_fresh_good : (c : ℕ) (k : Class) → class_of c ≡ k → EnterGood Fresh c (enter_fresh k c)
enter_fresh_good c class.Hash e = (hash e, λ _. refl)
enter_fresh_good c class.Blank e = enter_code_good Fresh refl c class.Blank e
enter_fresh_good c class.Feed e = enter_code_good Fresh refl c class.Feed e
enter_fresh_good c class.Letter e = enter_code_good Fresh refl c class.Letter e
enter_fresh_good c class.Zero e = enter_code_good Fresh refl c class.Zero e
enter_fresh_good c class.Digit e = enter_code_good Fresh refl c class.Digit e
enter_fresh_good c class.Quote e = enter_code_good Fresh refl c class.Quote e
enter_fresh_good c class.Apostrophe e = enter_code_good Fresh refl c class.Apostrophe e
enter_fresh_good c class.Slash e = enter_code_good Fresh refl c class.Slash e
enter_fresh_good c class.Other e = enter_code_good Fresh refl c class.Other e

pub enter_good : (w : Context) (c : ℕ) → EnterGood w c (enter w c)
enter_good Fresh c = enter_fresh_good c (class_of c) refl
enter_good Used c = enter_code_good Used refl c (class_of c) refl
enter_good (Hash p) c = enter_hash_good p c (class_of c) refl
enter_good (Include p) c = enter_include_good p c (class_of c) refl
enter_good Closed c = enter_closed_good c (class_of c) refl

-- behind `/`
after_slash : (c : ℕ) → (c == 61) ≡ false → (c == 42) ≡ false → longer (piece.Punct punct.Slash) (47 ∷ []) c ≡ false
unfolding punct_named
after_slash c e f = rw (e, f) refl

slash_code : (w : Context) (us : List ℕ) (c : ℕ) → us ≡ 47 ∷ [] → (c == 42) ≡ false → (is_code w && c == 61) ≡ false → (b : Bool) → is_code w ≡ b
    → SeamGood w us c (slash_piece b)
slash_code w us c f n m true h = subst (λ z. longer (piece.Punct punct.Slash) z c ≡ false) (sym f) (after_slash c (and_false _ _ m h) n)
slash_code w us c f n m false h = directive_byte w us c h

pub slash_good : (w : Context) (us : List ℕ) (c : ℕ) → us ≡ 47 ∷ [] → StepGood w phase.Slash us c (slash w c)
slash_good w us c f =
    choose (StepGood w phase.Slash us c) (c == 42) _ _
    (λ e. (
      [],
      ap (λ z. z ++ c ∷ []) f ∙ ap (λ z. 47 ∷ z ∷ []) (eqb-true c 42 e),
      refl,
      refl,
      λ _. ap feeds
          (ap (λ z. z ++ c ∷ []) f ∙ ap (λ z. 47 ∷ z ∷ []) (eqb-true c 42 e)),
    ))
    (λ n. choose (StepGood w phase.Slash us c) (is_code w && c == 61) _ _
    (λ e. let k = and_parts (is_code w) (c == 61) e in let s : us ++ c ∷ [] ≡ 47 ∷ 61 ∷ [] = ap (λ z. z ++ c ∷ []) f ∙ ap (λ z. 47 ∷ z ∷ []) (eqb-true c 61 k.1)
    in (k.0, s, ap (λ z. same z (47 ∷ [])) s, 47, 61 ∷ [], s))
    (λ m. slash_code w us c f n m (is_code w) refl))

slash_not_open : (us : List ℕ) → us ≡ 47 ∷ [] → IsOpenComment us → ⊥
slash_not_open us f (vs, e, h) = let q : 47 ∷ [] ≡ 47 ∷ 42 ∷ vs = sym f ∙ e in cc

pub slash_close : (w : Context) (us : List ℕ) → us ≡ 47 ∷ [] → (b : Bool) → is_code w ≡ b → CloseGood w us (slash_piece b)
slash_close w us f true h = subst (λ z. IsPiece w (piece.Punct punct.Slash) z) (sym f) (punctuator h punct.Slash)
slash_close w us f false h = directive h (λ _ o. slash_not_open us f o)

-- in a comment
pub comment_end : (w : Context) (us vs : List ℕ) → us ≡ 47 ∷ 42 ∷ vs → has_close vs ≡ false → ends_star vs ≡ true → (is_code w ≡ false → feeds us ≡ 0) → (c : ℕ)
    → c ≡ 47 → IsPiece w piece.Comment (us ++ c ∷ [])
comment_end w us vs f h s n c e =
    let r = star_last vs s in
    let a : us ++ c ∷ [] ≡ 47 ∷ 42 ∷ (r.0 ++ 42 ∷ 47 ∷ []) = ap (λ z. us ++ z ∷ []) e ∙ ap (λ z. z ++ 47 ∷ []) f ∙ ap (λ z. 47 ∷ 42 ∷ (z ++ 47 ∷ [])) r.1 ∙ ap
    (λ z. 47 ∷ 42 ∷ z) (append_assoc r.0 (42 ∷ []) (47 ∷ [])) in
    comment (r.0, a, subst (λ z. has_close z ≡ false) r.1 h) (λ q. feeds_keep us c (n q) (ap (λ z. z == 10) e))

pub comment_good : (w : Context) (star : Bool) (us : List ℕ) (c : ℕ) → Fine w (phase.Comment star) us
    → StepGood w (phase.Comment star) us c (comment_byte w star c)
comment_good w star us c (vs, f, h, s, n) =
    choose (StepGood w (phase.Comment star) us c) (star && c == 47) _ _
    (λ e. let k = and_parts star (c == 47) e in (comment_end w us vs f h (s ∙ k.0) n c (eqb-true c 47 k.1), λ _. refl))
    (λ m. choose (StepGood w (phase.Comment star) us c) (not (is_code w) && c == 10) _ _
    (λ e. directive_byte w us c (not-true _ (and_parts (not (is_code w)) (c == 10) e).0))
    (λ q. (
      vs ++ c ∷ [],
      ap (λ z. z ++ c ∷ []) f,
      has_close_more vs c h (ap (λ z. z && c == 47) s ∙ m),
      ends_star_more vs c,
      λ r. feeds_keep us c (n r)
          (and_false _ _ q (ap not r)),
    )))

pub dropped : (us vs : List ℕ) → drop (length us) (us ++ vs) ≡ vs
dropped [] vs = refl
dropped (a ∷ us) vs = dropped us vs

-- a fixed word
spelled_by : (P : Result (Option Phase) LexKind → Type 0) (x : Piece) (ph : Phase) (word us : List ℕ) (d : ℕ) (rest : List ℕ) (c : ℕ) → word ≡ us ++ d ∷ rest
    → (word ≡ us ++ c ∷ [] → P (goes (phase.Whole x))) → ((e : ℕ) (r : List ℕ) → word ≡ (us ++ c ∷ []) ++ e ∷ r → P (goes ph)) → P stops
    → P (spelled x ph (drop (length us) word) c)
spelled_by P x ph word us d rest c w f g s = subst (λ z. P (spelled x ph z c)) (sym left) (go rest w)
  where
    left : drop (length us) word ≡ d ∷ rest
    left = ap (drop (length us)) w ∙ dropped us (d ∷ rest)

    go : (rest : List ℕ) → word ≡ us ++ d ∷ rest → P (spelled x ph (d ∷ rest) c)
    go [] h = choose P (c == d) _ _ (λ e. f (h ∙ ap (λ z. us ++ z ∷ []) (sym (eqb-true c d e)))) (λ _. s)
    go (a ∷ r) h = choose P (c == d) _ _ (λ e. g a r (h ∙ ap (λ z. us ++ z ∷ a ∷ r) (sym (eqb-true c d e)) ∙ sym (onto us c (a ∷ r)))) (λ _. s)

pub include_good : (w : Context) (us : List ℕ) (c : ℕ) → Fine w phase.IncludeWord us
    → StepGood w phase.IncludeWord us c (spelled piece.IncludeWord phase.IncludeWord (drop (length us) include_spelling) c)
include_good w us c (p, e, d, rest, h) =
    spelled_by (StepGood w phase.IncludeWord us c) piece.IncludeWord phase.IncludeWord include_spelling us d rest c h
    (λ s. (subst (λ z. IsPiece w piece.IncludeWord z) s (subst (λ z. IsPiece z piece.IncludeWord include_spelling) (sym e) include_word), λ _. refl))
    (λ a r s. (p, e, a, r, s))
    (directive_byte w us c (ap is_code e))

header_spelled : (w : Context) (h : Header) (us : List ℕ) (c : ℕ) → Fine w (phase.HeaderName h) us
    → StepGood w (phase.HeaderName h) us c (spelled (piece.HeaderName h) (phase.HeaderName h) (drop (length us) (header_spelling h)) c)
header_spelled w k us c (p, e, d, rest, h) =
    spelled_by (StepGood w (phase.HeaderName k) us c) (piece.HeaderName k) (phase.HeaderName k) (header_spelling k) us d rest c h
    (λ s. (subst (λ z. IsPiece w (piece.HeaderName k) z) s (subst (λ z. IsPiece z (piece.HeaderName k) (header_spelling k)) (sym e) (header k)), λ _. refl))
    (λ a r s. (p, e, a, r, s))
    (directive_byte w us c (ap is_code e))

pub taken : (us vs : List ℕ) → take (length us) (us ++ vs) ≡ us
taken [] vs = refl
taken (a ∷ us) vs = ap (λ z. a ∷ z) (taken us vs)

pub header_good : (w : Context) (h : Header) (us : List ℕ) (c : ℕ) → Fine w (phase.HeaderName h) us
    → StepGood w (phase.HeaderName h) us c (header_byte h (length us) c)
header_good w Stdlib us c f = header_spelled w Stdlib us c f
header_good w Stdio us c f =
    choose (StepGood w (phase.HeaderName Stdio) us c) (length us == 4 && c == 108) _ _
    (λ e. let k = and_parts (length us == 4) (c == 108) e in
    let s : us ≡ codes "<std" = sym (taken us (f.2 ∷ f.3)) ∙ ap (take (length us)) (sym f.4) ∙ ap (λ z. take z (codes "<stdio.h>")) (eqb-true (length us) 4 k.0)
    in (
      f.0,
      f.1,
      105,
      codes "b.h>",
      ap (λ z. (z ++ 108 ∷ []) ++ 105 ∷ codes "b.h>") (sym s) ∙ ap (λ z. (us ++ z ∷ []) ++ 105 ∷ codes "b.h>")
          (sym (eqb-true c 108 k.1)),
    ))
    (λ _. header_spelled w Stdio us c f)

pub marker_good : (w : Context) (us : List ℕ) (c : ℕ) → Fine w phase.Marker us → StepGood w phase.Marker us c (marker_byte c)
marker_good w us c (p, e, a, cs, f, d, n) =
    choose (StepGood w phase.Marker us c) (c == 10) _ _
    (λ h. ap not h)
    (λ h. (p, e, a, cs ++ c ∷ [], ap (λ z. z ++ c ∷ []) f, d, feeds_keep cs c n h))

prefix_not_open : (a : ℕ) (word us : List ℕ) (d : ℕ) (rest : List ℕ) → (a ≡ 47 → ⊥) → a ∷ word ≡ us ++ d ∷ rest → IsOpenComment us → ⊥
prefix_not_open a word us d rest n h (vs, e, _) = let q : a ∷ word ≡ (47 ∷ 42 ∷ vs) ++ d ∷ rest = h ∙ ap (λ z. z ++ d ∷ rest) e in let r : a ≡ 47 = cc in n r

pub include_close : (w : Context) (us : List ℕ) → Fine w phase.IncludeWord us → Cause w us None Directive
include_close w us (p, e, d, rest, h) = directive (ap is_code e) (λ _ o. prefix_not_open 105 (codes "nclude") us d rest (λ q. omega (arith, q)) h o)

pub header_close : (w : Context) (k : Header) (us : List ℕ) → Fine w (phase.HeaderName k) us → Cause w us None Directive
header_close w Stdio us (p, e, d, rest, h) = directive (ap is_code e) (λ _ o. prefix_not_open 60 (codes "stdio.h>") us d rest (λ q. omega (arith, q)) h o)
header_close w Stdlib us (p, e, d, rest, h) = directive (ap is_code e) (λ _ o. prefix_not_open 60 (codes "stdlib.h>") us d rest (λ q. omega (arith, q)) h o)

pub marker_close : (w : Context) (us : List ℕ) → Fine w phase.Marker us → IsPiece w piece.Marker us
marker_close w us (p, e, a, cs, f, d, n) = subst (λ z. IsPiece w piece.Marker z) (sym f) (subst (λ z. IsPiece z piece.Marker (a ∷ cs)) (sym e) (marker d n))

pub comment_close : (w : Context) (star : Bool) (us : List ℕ) → Fine w (phase.Comment star) us → Cause w us None OpenComment
comment_close w star us (vs, f, h, s, n) = open_comment (vs, f, h)
