-- The words of the objects as a program starts.
use Rattle.std.proofs.Common.{◌≡◌, ℕ, zero, suc, ◌+◌, ◌-◌, ◌<◌, ◌≤◌, List, [], ◌∷◌, length, drop, get_or, map, refl, ap, subst, sym, ◌∙◌, arith, inl}
use Rattle.std.proofs.Common.{inr, drop-cons, length-set, get_or-set_same, get_or-set_other}
use Rattle.std.specs.Prelude.{slice_index, slice_set, replicate, Option, Some, None}
use Rattle.std.specs.List.{AllByRecursion}
use Rattle.std.proofs.lemmas.Bool.{cases_eq, cases_lt, cases_order}
use Rattle.std.proofs.lemmas.List.{drop_all, get_or_past, length-map}
use Rattle.hlo_num.specs.declared.word.Word.{Word}
use Rattle.il_core.specs.Object.{ObjectParts}
use Rattle.il_core.specs.Program.{found, object_at, word_at_start, words_in, words_of}
use Rattle.il_core.specs.Shapes.{IsRising, IsRisingFrom}
use Rattle.il_run.specs.Start.{Copies, HasWords}
use Rattle.il_run.specs.Words.{arrays_in, start_of}
use Rattle.il_core.proofs.Found.{all_at, found_at, found_here, found_there, rising_from_rising}
use Rattle.il_run.proofs.Words.{element_in, element_out, before_later, after_earlier, named, zeros}

module _ {X : Type 0} (number : X → ℕ) where
  none_below : (n q : ℕ) (xs : List X) → IsRisingFrom number n xs → q ≤ n → found number q xs ≡ None
  none_below n q [] h le = refl
  none_below n q (x ∷ xs) h le = let l : n < number x = h.0 in found_there number q x xs (λ e. omega arith) ∙ none_below (number x) q xs h.1 (omega arith)

  rising_behind : (xs : List X) (i : ℕ) (d : X) → IsRising number xs → i < length xs → IsRisingFrom number (number (get_or xs i d)) (drop (suc i) xs)
  rising_behind [] i d h lt = absurd (omega arith)
  rising_behind (x ∷ xs) zero d h lt = h
  rising_behind (x ∷ xs) (suc i) d h lt = rising_behind xs i d (rising_from_rising number (number x) xs h) (omega arith)

  -- and it isn't found again behind it
  pub none_behind : (xs : List X) (i : ℕ) (d : X) → IsRising number xs → i < length xs → found number (number (get_or xs i d)) (drop (suc i) xs) ≡ None
  none_behind xs i d h lt = none_below (number (get_or xs i d)) (number (get_or xs i d)) (drop (suc i) xs) (rising_behind xs i d h lt) (omega arith)

pub words_none : (os : List ObjectParts) (sizes words : List ℕ) (n i : ℕ) → words ≡ replicate n 0 → length os ≤ i → HasWords os sizes i words
words_none os sizes words n i e le = record {
  by = λ g j.
      (elim (cases_lt j (slice_index sizes g)) [
        | inl l ↦ element_in words 0 sizes g j l ∙ ap (λ (xs : List ℕ). slice_index xs (0 + start_of sizes g + j)) e ∙ zeros n (0 + start_of sizes g + j)
        | inr h ↦ element_out words 0 sizes g j h
      ])
      ∙ ap (λ (xs : List ObjectParts). word_at_start (object_at xs g) j) (sym (drop_all i os le));
}

module _ (os : List ObjectParts) (sizes words new : List ℕ) (i : ℕ) (x : ObjectParts) (rising : IsRising (λ o. o.pid) os)
    (all : (g : ℕ) → slice_index sizes g ≡ words_of os g)
    (lt : i < length os) (read : x ≡ get_or os i x) (few : length x.init ≤ x.words) (copies : Copies words new (start_of sizes x.pid) x.init)
    (have : HasWords os sizes (suc i) words) where
  whole : drop i os ≡ x ∷ drop (suc i) os
  whole = drop-cons os i x lt ∙ ap (λ (y : ObjectParts). y ∷ drop (suc i) os) (sym read)

  here : object_at os x.pid ≡ Some x
  here = subst (λ (y : ObjectParts). object_at os y.pid ≡ Some y) (sym read) (found_at (λ (o : ObjectParts). o.pid) os i x rising lt)

  behind : object_at (drop (suc i) os) x.pid ≡ None
  behind = subst (λ (y : ObjectParts). object_at (drop (suc i) os) y.pid ≡ None) (sym read) (none_behind (λ (o : ObjectParts). o.pid) os i x rising lt)

  size : slice_index sizes x.pid ≡ x.words
  size = all x.pid ∙ ap words_in here

  own : (j : ℕ) → arrays_in new 0 sizes x.pid j ≡ slice_index (map (λ (w : Word). w.0) x.init) j
  own j =
      elim (cases_lt j (length x.init)) [
        | inl l ↦ element_in new 0 sizes x.pid j (omega (arith, size)) ∙ ap (λ (k : ℕ). slice_index new k)
            (let e : 0 + start_of sizes x.pid + j ≡ start_of sizes x.pid + j = omega arith in e) ∙ copies.inside j l
        | inr h ↦ (elim (cases_lt j (slice_index sizes x.pid)) [
          | inl l ↦ element_in new 0 sizes x.pid j l ∙ copies.after (0 + start_of sizes x.pid + j) (omega arith) ∙ sym (element_in words 0 sizes x.pid j l) ∙
              have.by x.pid j ∙ ap (λ (o : Option ObjectParts). word_at_start o j) behind
          | inr h1 ↦ element_out new 0 sizes x.pid j h1
        ])
            ∙ sym (get_or_past (map (λ (w : Word). w.0) x.init) j 0 (omega (arith, length-map x.init (λ (w : Word). w.0))))
      ]

  other : (g j : ℕ) → (x.pid ≡ g → ⊥) → arrays_in new 0 sizes g j ≡ arrays_in words 0 sizes g j
  other g j ne =
      elim (cases_lt j (slice_index sizes g)) [
        | inl l ↦ element_in new 0 sizes g j l
            ∙ (elim (cases_order g x.pid) [
              | inl e ↦ absurd (ne (sym e))
              | inr o ↦ (elim o [
                | inl below ↦ copies.before (0 + start_of sizes g + j) (omega (arith, before_later sizes g x.pid j l below))
                | inr above ↦ copies.after (0 + start_of sizes g + j) (omega (arith, after_earlier sizes x.pid g above, size))
              ])
            ])
            ∙ sym (element_in words 0 sizes g j l)
        | inr h ↦ element_out new 0 sizes g j h ∙ sym (element_out words 0 sizes g j h)
      ]

  -- one object more
  pub words_more : HasWords os sizes i new
  words_more = record {
    by = λ g j.
        (elim (cases_eq x.pid g) [
          | inl e ↦ ap (λ (k : ℕ). arrays_in new 0 sizes k j) (sym e) ∙ own j ∙ sym
              (ap (λ (o : Option ObjectParts). word_at_start o j) (found_here (λ (o : ObjectParts). o.pid) g x (drop (suc i) os) e))
          | inr ne ↦ other g j ne ∙ have.by g j ∙ sym (ap (λ (o : Option ObjectParts). word_at_start o j)
              (found_there (λ (o : ObjectParts). o.pid) g x (drop (suc i) os) ne))
        ])
        ∙ ap (λ (xs : List ObjectParts). word_at_start (object_at xs g) j) (sym whole);
  }

-- the same, from one number to the one before
pub words_step : (os : List ObjectParts) (sizes words new : List ℕ) (i at pid words_of_x : ℕ) (init : List Word) (x : ObjectParts) → IsRising (λ o. o.pid) os
    → ((g : ℕ) → slice_index sizes g ≡ words_of os g)
    → 0 < i → i ≤ length os → x ≡ get_or os (i - 1) x → pid ≡ x.pid → at ≡ start_of sizes pid → init ≡ x.init → length x.init ≤ x.words
    → Copies words new at init → HasWords os sizes i words → HasWords os sizes (i - 1) new
words_step os sizes words new i at pid words_of_x init x rising all some le read is start inits few copies have =
    words_more os sizes words new (i - 1) x rising all (omega arith) read few
    (subst (λ (ws : List Word). Copies words new (start_of sizes x.pid) ws) inits
    (subst (λ (n : ℕ). Copies words new n init) (start ∙ ap (start_of sizes) is) copies))
    (subst (λ (n : ℕ). HasWords os sizes n words) (omega arith) have)

-- the first words were put
pub record CopiesTo (old new : List ℕ) (at : ℕ) (init : List Word) (k : ℕ) : Type 0 where
  pub count : length new ≡ length old
  pub inside : (j : ℕ) → j < k → slice_index new (at + j) ≡ slice_index (map (λ (w : Word). w.0) init) j
  pub before : (j : ℕ) → j < at → slice_index new j ≡ slice_index old j
  pub after : (j : ℕ) → at + k ≤ j → slice_index new j ≡ slice_index old j

word_there : (init : List Word) (k : ℕ) (d : Word) → k < length init → slice_index (map (λ (w : Word). w.0) init) k ≡ (get_or init k d).0
word_there [] k d lt = absurd (omega arith)
word_there (w ∷ ws) zero d lt = refl
word_there (w ∷ ws) (suc k) d lt = word_there ws k d (omega arith)

pub copies_more : (old now : List ℕ) (at : ℕ) (init : List Word) (k : ℕ) (d : Word) → at + length init ≤ length old → k < length init
    → CopiesTo old now at init k → CopiesTo old (slice_set now (at + k) (get_or init k d).0) at init (k + 1)
copies_more old now at init k d fit lt h = record {
  count = length-set now (at + k) (get_or init k d).0 ∙ h.count;
  inside = λ j l. elim (cases_eq j k) [
    | inl e ↦ ap (λ (n : ℕ). slice_index (slice_set now (at + k) (get_or init k d).0) (at + n)) e ∙ get_or-set_same now (at + k) (get_or init k d).0 0
        (omega (arith, h.count)) ∙ sym (word_there init k d lt) ∙ ap (λ (n : ℕ). slice_index (map (λ (w : Word). w.0) init) n) (sym e)
    | inr ne ↦ get_or-set_other now (at + k) (at + j) (get_or init k d).0 0 (omega arith) ∙ h.inside j (omega arith)
  ];
  before = λ j l. get_or-set_other now (at + k) j (get_or init k d).0 0 (omega arith) ∙ h.before j l;
  after = λ j l. get_or-set_other now (at + k) j (get_or init k d).0 0 (omega arith) ∙ h.after j (omega arith);
}

pub copies_all : (old now : List ℕ) (at : ℕ) (init : List Word) (k : ℕ) → length init ≤ k → k ≤ length init → CopiesTo old now at init k
    → Copies old now at init
copies_all old now at init k le ge h = record {
  count = h.count;
  inside = λ j l. h.inside j (omega arith);
  before = h.before;
  after = λ j l. h.after j
      (omega arith);
}

pub size_at : (os : List ObjectParts) (sizes : List ℕ) (i : ℕ) (x : ObjectParts) → IsRising (λ o. o.pid) os → ((g : ℕ) → slice_index sizes g ≡ words_of os g)
    → i < length os → x ≡ get_or os i x → slice_index sizes x.pid ≡ x.words
size_at os sizes i x rising all lt read = all x.pid ∙ ap words_in
    (subst (λ (y : ObjectParts). object_at os y.pid ≡ Some y) (sym read) (found_at (λ (o : ObjectParts). o.pid) os i x rising lt))

pub place_at : (os : List ObjectParts) (sizes : List ℕ) (i : ℕ) (x : ObjectParts) → IsRising (λ o. o.pid) os → ((g : ℕ) → slice_index sizes g ≡ words_of os g)
    → AllByRecursion (λ o. 0 < o.words) os → i < length os → x ≡ get_or os i x → x.pid < length sizes
place_at os sizes i x rising all some lt read =
    let words : 0 < x.words = subst (λ (o : ObjectParts). 0 < o.words) (sym read) (all_at (λ (o : ObjectParts). 0 < o.words) os i x some lt) in
    named sizes x.pid 0 (omega (arith, size_at os sizes i x rising all lt read))
