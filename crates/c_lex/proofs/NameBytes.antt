-- An identifier's bytes may stand in a program name.
use Rattle.std.proofs.Common.{ℕ, ◌≡◌, ◌≤◌, refl, sym, ◌∙◌, subst, arith, Bool, true, false, ◌==◌, ◌&&◌, ◌||◌, nat_le, List, [], ◌∷◌, length-append}
use Rattle.std.proofs.lemmas.List.Folds.{list_all-append}
use Rattle.hlo_num.specs.Name.{is_name_byte, IsName}
use Rattle.c_lex.specs.declared.phase.Class.{Class}
use Rattle.c_lex.specs.declared.phase.Class.TheVariants as class
use Rattle.c_lex.specs.declared.phase.Context.{Context}
use Rattle.c_lex.specs.declared.phase.Piece.{Piece}
use Rattle.c_lex.specs.declared.phase.Piece.TheVariants as piece
use Rattle.c_lex.specs.Bytes.{between, class_of, in_word}
use Rattle.c_lex.specs.Pieces.{IsIdentifier, letter, longer_name, IsPiece, blank, feed, comment, hash, include_word, header, marker, name, word, number}
use Rattle.c_lex.specs.Pieces.{character, punctuator}
use Rattle.std.proofs.lemmas.Bool.{eqb-true, leb-true, le-leb, and_parts, and_from}
use Rattle.list_laws.proofs.Tests.{choose}

or_left : (a b : Bool) → a ≡ true → (a || b) ≡ true
or_left a b e = rw e refl

or_right : (a b : Bool) → b ≡ true → (a || b) ≡ true
or_right true b e = refl
or_right false b e = e

abbrev Fits : ℕ → Class → Type 0
Fits c class.Letter = is_name_byte c ≡ true
Fits c class.Zero = is_name_byte c ≡ true
Fits c class.Digit = is_name_byte c ≡ true
Fits c _ = Unit {0}

at_byte : (c a : ℕ) → (c == a) ≡ true → is_name_byte a ≡ true → is_name_byte c ≡ true
at_byte c a e h = subst (λ z. is_name_byte z ≡ true) (sym (eqb-true c a e)) h

fits : (c : ℕ) → Fits c (class_of c)
unfolding class_of
fits c =
    choose (Fits c) (c == 32) _ _ (λ _. tt) (λ _. choose (Fits c) (c == 9) _ _ (λ _. tt)
    (λ _. choose (Fits c) (c == 11) _ _ (λ _. tt) (λ _. choose (Fits c) (c == 12) _ _ (λ _. tt)
    (λ _. choose (Fits c) (c == 13) _ _ (λ _. tt) (λ _. choose (Fits c) (c == 10) _ _ (λ _. tt)
    (λ _. choose (Fits c) (between 97 122 c) _ _ (λ e. or_right _ _ (or_left _ _ e))
    (λ _. choose (Fits c) (between 65 90 c) _ _ (λ e. or_left _ _ e) (λ _. choose (Fits c) (c == 95) _ _ (λ e. at_byte c 95 e refl)
    (λ _. choose (Fits c) (c == 48) _ _ (λ e. at_byte c 48 e refl)
    (λ _. choose (Fits c) (between 49 57 c) _ _ (λ e. or_right _ _ (or_right _ _ (or_left _ _ (digit e))))
    (λ _. choose (Fits c) (c == 35) _ _ (λ _. tt) (λ _. choose (Fits c) (c == 34) _ _ (λ _. tt) (λ _. choose (Fits c) (c == 39) _ _ (λ _. tt)
    (λ _. choose (Fits c) (c == 47) _ _ (λ _. tt) (λ _. tt)))))))))))))))
  where
    digit : between 49 57 c ≡ true → (nat_le 48 c && nat_le c 57) ≡ true
    digit e = let k = and_parts _ _ e in let low : 49 ≤ c = leb-true 49 c k.0 in and_from _ _ (le-leb 48 c (omega (arith, low))) k.1

fits_word : (c : ℕ) (k : Class) → class_of c ≡ k → in_word k ≡ true → is_name_byte c ≡ true
fits_word c class.Letter e h = subst (Fits c) e (fits c)
fits_word c class.Zero e h = subst (Fits c) e (fits c)
fits_word c class.Digit e h = subst (Fits c) e (fits c)
fits_word c class.Blank e h = cc
fits_word c class.Feed e h = cc
fits_word c class.Hash e h = cc
fits_word c class.Quote e h = cc
fits_word c class.Apostrophe e h = cc
fits_word c class.Slash e h = cc
fits_word c class.Other e h = cc

identifier_name : {us : List ℕ} → IsIdentifier us → IsName us
identifier_name (letter {c} e) = (omega arith, and_from _ _ (fits_word c class.Letter e refl) refl)
identifier_name (longer_name {us} c i h) =
    let r = identifier_name i in (
      omega (arith, length-append us (c ∷ [])),
      list_all-append is_name_byte us (c ∷ []) ∙ and_from _ _ r.1
          (and_from _ _ (fits_word c (class_of c) refl h) refl),
    )

pub name_bytes : (w : Context) (x : Piece) (us : List ℕ) → IsPiece w x us → x ≡ piece.Name → IsName us
name_bytes w x us (name h i l n o) e = identifier_name i
name_bytes w x us (blank c) e = cc
name_bytes w x us (feed c m) e = cc
name_bytes w x us (comment i n) e = cc
name_bytes w x us (hash c) e = cc
name_bytes w x us include_word e = cc
name_bytes w x us (header h) e = cc
name_bytes w x us (marker d n) e = cc
name_bytes w x us (word h r) e = cc
name_bytes w x us (number h i) e = cc
name_bytes w x us (character h q) e = cc
name_bytes w x us (punctuator h m) e = cc
