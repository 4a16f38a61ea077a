-- Words without spaces and line feeds, joined to lines and taken apart again.
use Rattle.std.proofs.Common.{◌≡◌, ℕ, ◌^◌, ◌<◌, true, false, List, [], ◌∷◌, ◌++◌, refl, sym, ◌∙◌, ap, subst, append-nil, map, arith, inl, inr}
use Rattle.std.specs.Prelude.{nat_lt, ◌==◌}
use Rattle.std.specs.List.{AllByRecursion, list_all, join_with_byte}
use Rattle.std.specs.Fmt.{decimal}
use Rattle.std.specs.Str.Parse.{AllDigits}
use Rattle.std.proofs.lemmas.Bool.{cases_Bool, ne_eqb, eqb-true, ltb-true, lt-ltb, and_from, and_parts}
use Rattle.std.proofs.lemmas.Bool.Decides.{nat_tests}
use Rattle.std.proofs.lemmas.Str.Parse.{tells_digits}
use Rattle.hlo_num.specs.Name.{is_name_byte}
use Rattle.text_lines.specs.Lines.{HasNoFeed}
use Rattle.text_lines.specs.Words.{onto_first, words_of}
use Rattle.text_lines.proofs.Decimals.{all_digits}
use Rattle.text_lines.proofs.WordSplits.{some_word}

-- each byte is above a space
abbrev pub IsPlain : List ℕ → Type 0
IsPlain w = list_all (λ b. nat_lt 32 b) w ≡ true

abbrev pub ArePlain : List (List ℕ) → Type 0
ArePlain ws = AllByRecursion IsPlain ws

pub plain_cons : (b : ℕ) (bs : List ℕ) → 32 < b → IsPlain bs → IsPlain (b ∷ bs)
plain_cons b bs lt h = and_from (nat_lt 32 b) (list_all (λ c. nat_lt 32 c) bs) (lt-ltb 32 b lt) h

digits_plain : (ds : List ℕ) → AllDigits 10 ds → IsPlain ds
digits_plain [] h = refl
digits_plain (d ∷ ds) h = let r = tells_digits.parts d ds h in plain_cons d ds (omega (arith, r.0)) (digits_plain ds r.1)

pub decimal_plain : (n : ℕ) → n < 2 ^ 32 → IsPlain (decimal n)
decimal_plain n lt = digits_plain (decimal n) (all_digits n (omega arith))

pub lettered_plain : (c n : ℕ) → 32 < c → n < 2 ^ 32 → IsPlain (c ∷ decimal n)
lettered_plain c n h lt = plain_cons c (decimal n) h (decimal_plain n lt)

pub all_plain : {X : Type 0} (spell : X → List ℕ) (fits : X → Type 0) (plain : (x : X) → fits x → IsPlain (spell x)) (xs : List X) → AllByRecursion fits xs
    → ArePlain (map spell xs)
all_plain spell fits plain [] h = tt
all_plain spell fits plain (x ∷ xs) h = (plain x h.0, all_plain spell fits plain xs h.1)

name_byte : (b : ℕ) → is_name_byte b ≡ true → 32 < b
name_byte b h = grind (arith, nat_tests)

pub name_plain : (bs : List ℕ) → list_all is_name_byte bs ≡ true → IsPlain bs
name_plain [] h = refl
name_plain (b ∷ bs) h = let r = and_parts (is_name_byte b) (list_all is_name_byte bs) h in plain_cons b bs (name_byte b r.0) (name_plain bs r.1)

pub append_plain : (xs bs : List ℕ) → IsPlain xs → IsPlain bs → IsPlain (xs ++ bs)
append_plain [] bs h k = k
append_plain (a ∷ xs) bs h k = let r = and_parts (nat_lt 32 a) (list_all (λ b. nat_lt 32 b) xs) h in and_from (nat_lt 32 a)
    (list_all (λ b. nat_lt 32 b) (xs ++ bs)) r.0 (append_plain xs bs r.1 k)

join_onto : (b : ℕ) (ws : List (List ℕ)) → join_with_byte 32 (onto_first b ws) ≡ b ∷ join_with_byte 32 ws
join_onto b [] = refl
join_onto b (w ∷ []) = refl
join_onto b (w ∷ v ∷ vs) = refl

join_empty : (ws : List (List ℕ)) → (ws ≡ [] → ⊥) → join_with_byte 32 ([] ∷ ws) ≡ 32 ∷ join_with_byte 32 ws
join_empty [] some = absurd (some refl)
join_empty (w ∷ ws) some = refl

-- the words of bytes, joined again
pub join_words : (bs : List ℕ) → join_with_byte 32 (words_of bs) ≡ bs
join_words [] = refl
join_words (b ∷ bs) = elim (cases_Bool (b == 32)) [
  | inl is ↦ rw is (join_empty (words_of bs) (some_word bs) ∙ ap (λ l. 32 ∷ l) (join_words bs) ∙ ap (λ c. c ∷ bs) (sym (eqb-true b 32 is)))
  | inr not ↦ rw not (join_onto b (words_of bs) ∙ ap (λ l. b ∷ l) (join_words bs))
]

plain_not_space : (b : ℕ) → nat_lt 32 b ≡ true → (b == 32) ≡ false
plain_not_space b h = ne_eqb b 32 (λ e. omega (arith, e, ltb-true 32 b h))

words_last : (w : List ℕ) → IsPlain w → words_of w ≡ w ∷ []
words_last [] h = refl
words_last (b ∷ w) h = let r = and_parts (nat_lt 32 b) (list_all (λ c. nat_lt 32 c) w) h in rw (plain_not_space b r.0, words_last w r.1) refl

pub words_more : (w bs : List ℕ) → IsPlain w → words_of (w ++ 32 ∷ bs) ≡ w ∷ words_of bs
words_more [] bs h = refl
words_more (b ∷ w) bs h = let r = and_parts (nat_lt 32 b) (list_all (λ c. nat_lt 32 c) w) h in rw (plain_not_space b r.0, words_more w bs r.1) refl

words_join : (w : List ℕ) (ws : List (List ℕ)) → ArePlain (w ∷ ws) → words_of (join_with_byte 32 (w ∷ ws)) ≡ w ∷ ws
words_join w [] h = words_last w h.0
words_join w (v ∷ vs) h = words_more w (join_with_byte 32 (v ∷ vs)) h.0 ∙ ap (λ l. w ∷ l) (words_join v vs h.1)

pub words_joined : (ws : List (List ℕ)) → (ws ≡ [] → ⊥) → ArePlain ws → words_of (join_with_byte 32 ws) ≡ ws
words_joined [] some h = absurd (some refl)
words_joined (w ∷ ws) some h = words_join w ws h

pub plain_no_feed : (w rest : List ℕ) → IsPlain w → HasNoFeed rest → HasNoFeed (w ++ rest)
plain_no_feed [] rest h k = k
plain_no_feed (b ∷ w) rest h k = let r = and_parts (nat_lt 32 b) (list_all (λ c. nat_lt 32 c) w) h
    in ((λ e. omega (arith, e, ltb-true 32 b r.0)), plain_no_feed w rest r.1 k)

pub join_no_feed : (ws : List (List ℕ)) → ArePlain ws → HasNoFeed (join_with_byte 32 ws)
join_no_feed [] h = tt
join_no_feed (w ∷ []) h = subst HasNoFeed (append-nil w) (plain_no_feed w [] h.0 tt)
join_no_feed (w ∷ v ∷ vs) h = plain_no_feed w (32 ∷ join_with_byte 32 (v ∷ vs)) h.0 ((λ e. omega (arith, e)), join_no_feed (v ∷ vs) h.1)

-- the first line feed is where it is
pub same_line : (a b r s : List ℕ) → HasNoFeed a → HasNoFeed b → a ++ 10 ∷ r ≡ b ++ 10 ∷ s → (a ≡ b) × (r ≡ s)
same_line [] [] r s h k e = let t : r ≡ s = cc e in (refl, t)
same_line [] (y ∷ b) r s h k e = let f : 10 ≡ y = cc e in absurd (k.0 (sym f))
same_line (x ∷ a) [] r s h k e = let f : x ≡ 10 = cc e in absurd (h.0 f)
same_line (x ∷ a) (y ∷ b) r s h k e = let f : x ≡ y = cc e in let t : a ++ 10 ∷ r ≡ b ++ 10 ∷ s = cc e in let q = same_line a b r s h.1 k.1 t in let g : a ≡ b =
    q.0 in (cc (f, g), q.1)

pub no_line : (a bs r : List ℕ) → HasNoFeed bs → bs ≡ a ++ 10 ∷ r → ⊥
no_line [] [] r h e = absurd cc
no_line [] (y ∷ bs) r h e = let f : y ≡ 10 = cc e in h.0 f
no_line (x ∷ a) [] r h e = absurd cc
no_line (x ∷ a) (y ∷ bs) r h e = let t : bs ≡ a ++ 10 ∷ r = cc e in no_line a bs r h.1 t
