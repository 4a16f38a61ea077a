-- Where a line ends.
use Rattle.std.proofs.Common.{◌≡◌, ℕ, suc, ◌+◌, ◌-◌, ◌<◌, ◌≤◌, List, [], ◌∷◌, ◌++◌, length, take, drop, ap, inl, inr, add-one, arith}
use Rattle.std.specs.Prelude.{◌==◌}
use Rattle.std.proofs.lemmas.Bool.{cases_Bool, eqb-true, eqb-false}
use Rattle.std.proofs.lemmas.List.{take_rest}
use Rattle.text_lines.specs.Lines.{line_len, HasNoFeed}

pub line_len_le : (bs : List ℕ) → line_len bs ≤ length bs
line_len_le [] = omega arith
line_len_le (b ∷ bs) = elim (cases_Bool (b == 10)) [
  | inl e ↦ rw e (omega arith)
  | inr e ↦ rw e (omega (arith, line_len_le bs))
]

split_line : (bs : List ℕ) → line_len bs < length bs → bs ≡ take (line_len bs) bs ++ 10 ∷ drop (suc (line_len bs)) bs
split_line [] lt = absurd (omega arith)
split_line (b ∷ bs) lt = elim (cases_Bool (b == 10)) [
  | inl e ↦ rw e (ap (λ c. c ∷ bs) (eqb-true b 10 e))
  | inr e ↦ let lt' : line_len bs < length bs = omega (arith, rw e at lt) in rw (e, add-one (line_len bs)) (ap (λ l. b ∷ l) (split_line bs lt'))
]

pub line_split : (bs : List ℕ) (k : ℕ) → k ≡ line_len bs → k < length bs → bs ≡ take k bs ++ 10 ∷ take (length bs - (k + 1)) (drop (k + 1) bs)
line_split bs k e lt = rw (take_rest bs (k + 1), add-one k, e) (split_line bs (omega arith))

front_no_feed : (bs : List ℕ) → HasNoFeed (take (line_len bs) bs)
front_no_feed [] = tt
front_no_feed (b ∷ bs) = elim (cases_Bool (b == 10)) [
  | inl e ↦ rw e tt
  | inr e ↦ rw (e, add-one (line_len bs)) ((λ is. eqb-false b 10 e is), front_no_feed bs)
]

pub line_no_feed_at : (bs : List ℕ) (k : ℕ) → k ≡ line_len bs → HasNoFeed (take k bs)
line_no_feed_at bs k e = rw e (front_no_feed bs)

pub all_no_feed : (bs : List ℕ) → length bs ≤ line_len bs → HasNoFeed bs
all_no_feed [] le = tt
all_no_feed (b ∷ bs) le = elim (cases_Bool (b == 10)) [
  | inl e ↦ absurd (omega (arith, rw e at le))
  | inr e ↦ let le' : length bs ≤ line_len bs = omega (arith, rw e at le) in ((λ is. eqb-false b 10 e is), all_no_feed bs le')
]
