-- The places of tokens and faults, by the bytes before them.
use Rattle.std.proofs.Common.{ℕ, ◌≡◌, ◌+◌, ◌-◌, ◌<◌, ◌≤◌, ◌==◌, refl, sym, ◌∙◌, ap, subst, arith, List, [], ◌∷◌, ◌++◌, append_assoc, length}
use Rattle.std.proofs.Common.{length-append, take, drop, inl, inr}
use Rattle.std.specs.List.{slice_range}
use Rattle.std.proofs.lemmas.List.{append_cancel_right}
use Rattle.c_tree.specs.declared.token.Token.{Token}
use Rattle.c_tree.specs.declared.token.TokenKind.{TokenKind}
use Rattle.c_tree.specs.declared.token.TokenKind.TheVariants as kind
use Rattle.c_lex.specs.declared.phase.Class.TheVariants as class
use Rattle.c_lex.specs.declared.phase.Context.{Context}
use Rattle.c_lex.specs.declared.phase.Context.TheVariants.{Fresh, Used, Hash, Include, Closed}
use Rattle.c_lex.specs.declared.phase.Place.{Place}
use Rattle.c_lex.specs.declared.phase.Piece.{Piece}
use Rattle.c_lex.specs.declared.phase.Phase.{Phase}
use Rattle.c_lex.specs.declared.fault.LexKind.{LexKind}
use Rattle.c_lex.specs.declared.fault.LexKind.TheVariants.{BadByte, Directive, OpenComment, BadChar, BadNumber, TooBig, LeftOut, LongName}
use Rattle.c_lex.specs.Bytes.{feeds}
use Rattle.c_lex.specs.Pieces.{IsPiece, blank, feed, comment, hash, include_word, header, marker, name, word, number, character, punctuator}
use Rattle.c_lex.specs.Text.{past, after, token, tokens_of, Pieces, ending, then_piece, AtEnd, Breaks, told_line, IsText}
use Rattle.c_lex.specs.Machine.{Gets, first_byte, next_byte}
use Rattle.c_lex.specs.Spans.{IsLexeme, IsSpan, AreSpans}
use Rattle.list_laws.proofs.Tests.{choose}
use Rattle.c_lex.proofs.ByteLemmas.{byte_of, feeds_more}
use Rattle.c_lex.proofs.LinePhases.{dropped, taken}
use Rattle.c_lex.proofs.Spells.{spelled}

gets_length : {w : Context} {us : List ℕ} {ph : Phase} → Gets w us ph → 0 < length us
gets_length (first_byte c e) = omega arith
gets_length (next_byte {us} c g e) = omega (arith, length-append us (c ∷ []))

piece_length : {w : Context} {x : Piece} {us : List ℕ} → IsPiece w x us → 0 < length us
piece_length i = gets_length (spelled i).1

-- the place behind these bytes, from the text's start
abbrev At : Place → List ℕ → Type 0
At p front = (p.at ≡ length front) × (p.line ≡ 1 + feeds front)

at_more : (p : Place) (front us : List ℕ) → At p front → At (past p us) (front ++ us)
at_more p front us (a, l) = (omega (arith, a, length-append front us), omega (arith, l, feeds_more front us))

-- what is open on a line: the `#` of a directive is among the bytes
abbrev Opened : Place → List ℕ → ℕ → Type 0
Opened o front low = (f : List ℕ) × (gap : List ℕ) × (front ≡ f ++ 35 ∷ gap) × At o f × (low ≤ length f)

abbrev Held : Context → List ℕ → ℕ → Type 0
Held (Hash o) front low = Opened o front low
Held (Include o) front low = Opened o front low
Held Fresh front low = low ≤ length front
Held Used front low = low ≤ length front
Held Closed front low = low ≤ length front

opened_more : (o : Place) (front us : List ℕ) (low : ℕ) → Opened o front low → Opened o (front ++ us) low
opened_more o front us low (f, gap, e, a, l) = (f, gap ++ us, ap (λ z. z ++ us) e ∙ append_assoc f (35 ∷ gap) us, a, l)

opened_low : (o : Place) (front : List ℕ) (low : ℕ) → Opened o front low → low ≤ length front
opened_low o front low (f, gap, e, a, l) = omega (arith, l, ap length e, length-append f (35 ∷ gap))

held_low : (w : Context) (front : List ℕ) (low : ℕ) → Held w front low → low ≤ length front
held_low (Hash o) front low h = opened_low o front low h
held_low (Include o) front low h = opened_low o front low h
held_low Fresh front low h = h
held_low Used front low h = h
held_low Closed front low h = h

held_more : (w : Context) (front us : List ℕ) (low : ℕ) → Held w front low → Held w (front ++ us) low
held_more (Hash o) front us low h = opened_more o front us low h
held_more (Include o) front us low h = opened_more o front us low h
held_more Fresh front us low h = omega (arith, h, length-append front us)
held_more Used front us low h = omega (arith, h, length-append front us)
held_more Closed front us low h = omega (arith, h, length-append front us)

low_more : (w : Context) (front us : List ℕ) (low : ℕ) → Held w front low → low ≤ length (front ++ us)
low_more w front us low h = omega (arith, held_low w front low h, length-append front us)

-- the bytes between two places
cut : (bs front us cs : List ℕ) (i j : ℕ) → bs ≡ front ++ (us ++ cs) → i ≡ length front → j ≡ length front + length us → slice_range bs i j ≡ us
cut bs front us cs i j e f g =
    let wide : j - i ≡ length us = omega (arith, f, g) in
    ap (λ n. take n (drop i bs)) wide ∙ ap (λ n. take (length us) (drop n bs)) f ∙ ap (λ z. take (length us) (drop (length front) z)) e ∙ ap (take (length us))
    (dropped front (us ++ cs)) ∙ taken us cs

span : (bs front us cs : List ℕ) (low : ℕ) (k : TokenKind) (o q : Place) → bs ≡ front ++ (us ++ cs) → 0 < length us → IsLexeme k us → low ≤ length front
    → At o front → q.at ≡ length front + length us → IsSpan bs low (token k o q)
span bs front us cs low k o q e n i l (a, m) b = record {
  ordered = omega (arith, l, a);
  some_bytes = omega (arith, n, a, b);
  inside = omega (arith, b, ap length e, length-append front (us ++ cs), length-append us cs);
  lexeme = subst (IsLexeme k) (sym (cut bs front us cs o.at q.at e a b)) i;
  line = m ∙ ap (λ z. 1 + feeds z) (sym (ap (λ n. take n bs) a ∙ ap (take (length front)) e ∙ taken front (us ++ cs)));
}

module _ (bs : List ℕ) where
  Later : List Token → Context → Place → List ℕ → Type 0
  Later ts w p cs = (front : List ℕ) (low : ℕ) → bs ≡ front ++ cs → At p front → Held w front low → AreSpans bs low ts

  -- a piece that is one token of its own bytes
  one_token : (k : TokenKind) (p : Place) (us cs : List ℕ) (ts : List Token) (front : List ℕ) (low : ℕ) → Later ts Used (past p us) cs
      → bs ≡ front ++ (us ++ cs) → At p front → 0 < length us → IsLexeme k us → low ≤ length front → AreSpans bs low (token k p (past p us) ∷ ts)
  unfolding Later
  one_token k p us cs ts front low ih e a n i l = (
    span bs front us cs low k p (past p us) e n i l a (ap (λ z. z + length us) a.0),
    ih (front ++ us) (p.at + length us) (e ∙ sym (append_assoc front us cs)) (at_more p front us a) (omega (arith, a.0, length-append front us)),
  )

  next : {w : Context} {x : Piece} {us : List ℕ} (p : Place) (cs : List ℕ) (ts : List Token) (front : List ℕ) (low : ℕ) → IsPiece w x us
      → Later ts (after x w p us) (past p us) cs → bs ≡ front ++ (us ++ cs) → At p front → Held w front low → AreSpans bs low (tokens_of x w p us ++ ts)
  unfolding Later
  next {w} {us} p cs ts front low (blank c) ih e a h = ih (front ++ us) low (e ∙ sym (append_assoc front us cs)) (at_more p front us a)
      (held_more w front us low h)
  next {w} {us} p cs ts front low (feed c m) ih e a h = ih (front ++ us) low (e ∙ sym (append_assoc front us cs)) (at_more p front us a)
      (low_more w front us low h)
  next {w} {us} p cs ts front low (comment i n) ih e a h = ih (front ++ us) low (e ∙ sym (append_assoc front us cs)) (at_more p front us a)
      (choose (λ z. Held z (front ++ us) low) (feeds us == 0) w Fresh (λ _. held_more w front us low h) (λ _. low_more w front us low h))
  next {us} p cs ts front low (hash {c} k) ih e a h = ih (front ++ us) low (e ∙ sym (append_assoc front us cs)) (at_more p front us a)
      (front, [], ap (λ z. front ++ z ∷ []) (byte_of c class.Hash k), a, h)
  next {us} p cs ts front low (include_word {p = o}) ih e a h = ih (front ++ us) low (e ∙ sym (append_assoc front us cs)) (at_more p front us a)
      (opened_more o front us low h)
  next {us} p cs ts front low (header {p = o} k) ih e a (f, gap, s, b, l) =
      let whole : front ++ us ≡ f ++ ((35 ∷ gap) ++ us) = ap (λ z. z ++ us) s ∙ append_assoc f (35 ∷ gap) us in
      let there : bs ≡ f ++ (((35 ∷ gap) ++ us) ++ cs) = e ∙ sym (append_assoc front us cs) ∙ ap (λ z. z ++ cs) whole ∙ append_assoc f ((35 ∷ gap) ++ us) cs
      in (
        span bs f ((35 ∷ gap) ++ us) cs low (kind.Include k) o (past p us) there (omega (arith, length-append (35 ∷ gap) us)) (gap, refl) l b
            (omega (arith, a.0, ap length whole, length-append front us, length-append f ((35 ∷ gap) ++ us))),
        ih (front ++ us) (p.at + length us) (e ∙ sym (append_assoc front us cs)) (at_more p front us a) (omega (arith, a.0, length-append front us)),
      )
  next {w} {us} p cs ts front low (marker d n) ih e a h = ih (front ++ us) low (e ∙ sym (append_assoc front us cs)) (at_more p front us a)
      (low_more w front us low h)
  next {w} {us} p cs ts front low (name c i n r o) ih e a h = one_token (kind.Name us) p us cs ts front low ih e a (piece_length (name c i n r o)) (refl, i)
      (held_low w front low h)
  next {w} {us} p cs ts front low (word c r) ih e a h = one_token (kind.Word r) p us cs ts front low ih e a (piece_length (word c r)) refl
      (held_low w front low h)
  next {w} {us} p cs ts front low (number {b} {v} {u} {l} c i) ih e a h = one_token _ p us cs ts front low ih e a (piece_length (number c i))
      (inl (b, u, l, i, refl)) (held_low w front low h)
  next {w} {us} p cs ts front low (character {v} {us = vs} c q) ih e a h = one_token _ p us cs ts front low ih e a (piece_length (character c q))
      (inr (v, vs, refl, q, refl, refl)) (held_low w front low h)
  next {w} {us} p cs ts front low (punctuator c m) ih e a h = one_token (kind.Punct m) p us cs ts front low ih e a (piece_length (punctuator c m)) refl
      (held_low w front low h)

  later : {w : Context} {p : Place} {ts : List Token} {cs : List ℕ} → Pieces AtEnd w p ts cs → Later ts w p cs
  unfolding Later
  later (ending s) = λ front low e a h. tt
  later {p} (then_piece {us} {cs} {ts} i l r) = λ front low e a h. next p cs ts front low i (later r) e a h

  pub spans : (ts : List Token) → IsText ts bs → AreSpans bs 0 ts
  unfolding Later
  spans ts t = later t [] 0 refl (refl, refl) (omega arith)

-- the line of a fault, by the bytes before it
told_there : (k : LexKind) (p : Place) (us : List ℕ) → (k ≡ OpenComment → ⊥) → told_line k p us ≡ (past p us).line
told_there OpenComment p us n = absurd (n refl)
told_there BadByte p us n = refl
told_there Directive p us n = refl
told_there BadChar p us n = refl
told_there BadNumber p us n = refl
told_there TooBig p us n = refl
told_there LeftOut p us n = refl
told_there LongName p us n = refl

pub fault_line : {k : LexKind} {line : ℕ} {rest : List ℕ} {w : Context} {p : Place} {ts : List Token} {cs : List ℕ} → Pieces (Breaks k line rest) w p ts cs
    → (k ≡ OpenComment → ⊥) → (before front : List ℕ) → At p before → before ++ cs ≡ front ++ rest → line ≡ 1 + feeds front
fault_line {k} {rest} {p} (ending (us, e, c, l)) n before front a f =
    let same : before ++ us ≡ front = append_cancel_right (before ++ us) front rest (append_assoc before us rest ∙ ap (λ z. before ++ z) (sym e) ∙ f) in
    l ∙ told_there k p us n ∙ (at_more p before us a).1 ∙ ap (λ z. 1 + feeds z) same
fault_line {p} (then_piece {us} {cs} i l r) n before front a f = fault_line r n (before ++ us) front (at_more p before us a) (append_assoc before us cs ∙ f)
