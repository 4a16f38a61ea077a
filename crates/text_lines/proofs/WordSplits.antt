-- Where the words of a line begin and end.
use Rattle.std.proofs.Common.{◌≡◌, ℕ, suc, ◌+◌, ◌-◌, ◌<◌, ◌≤◌, List, [], ◌∷◌, length, take, drop, refl, inl, inr, add-one, arith}
use Rattle.std.specs.Prelude.{◌==◌}
use Rattle.std.proofs.lemmas.Bool.{cases_Bool}
use Rattle.std.proofs.lemmas.List.{take_rest}
use Rattle.text_lines.specs.Words.{onto_first, words_of, first_len}

pub first_len_le : (bs : List ℕ) → first_len bs ≤ length bs
first_len_le [] = omega arith
first_len_le (b ∷ bs) = elim (cases_Bool (b == 32)) [ inl e ↦ rw e (omega arith) | inr e ↦ rw e (omega (arith, first_len_le bs)) ]

words_first : (bs : List ℕ) → first_len bs < length bs → words_of bs ≡ take (first_len bs) bs ∷ words_of (drop (suc (first_len bs)) bs)
words_first [] lt = absurd (omega arith)
words_first (b ∷ bs) lt = elim (cases_Bool (b == 32)) [
  | inl e ↦ rw e refl
  | inr e ↦ let lt' : first_len bs < length bs = omega (arith, rw e at lt) in rw (e, words_first bs lt', add-one (first_len bs)) refl
]

pub words_split : (bs : List ℕ) (k : ℕ) → k ≡ first_len bs → k < length bs → words_of bs ≡ take k bs ∷ words_of (take (length bs - (k + 1)) (drop (k + 1) bs))
words_split bs k e lt = rw (take_rest bs (k + 1), add-one k, e) (words_first bs (omega arith))

pub words_last : (bs : List ℕ) → length bs ≤ first_len bs → words_of bs ≡ bs ∷ []
words_last [] le = refl
words_last (b ∷ bs) le = elim (cases_Bool (b == 32)) [
  | inl e ↦ absurd (omega (arith, rw e at le))
  | inr e ↦ let le' : length bs ≤ first_len bs = omega (arith, rw e at le) in rw (e, words_last bs le') refl
]

onto_some : (b : ℕ) (ws : List (List ℕ)) → onto_first b ws ≡ [] → ⊥
onto_some b [] e = absurd cc
onto_some b (w ∷ ws) e = absurd cc

pub some_word : (bs : List ℕ) → words_of bs ≡ [] → ⊥
some_word [] e = absurd cc
some_word (b ∷ bs) e = elim (cases_Bool (b == 32)) [
  | inl is ↦ let f : [] ∷ words_of bs ≡ [] = rw is at e in absurd cc
  | inr not ↦ onto_some b (words_of bs) (rw not at e)
]
