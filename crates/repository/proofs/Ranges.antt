-- How far a range is read or written.
use Rattle.std.proofs.Common.{◌≡◌, ℕ, ◌+◌, ◌-◌, ◌<◌, inl, inr, Bool, List, length, drop, slice_index, sym, ap, subst, ◌∙◌, arith}
use Rattle.std.proofs.lemmas.Bool.{cases_lt}
use Rattle.std.proofs.lemmas.List.{ext_get_or, get_or-drop}
use Rattle.std.specs.Prelude.{IsTrue}
use Rattle.std.specs.declared.option.Option.{Option}
use Rattle.outside.specs.Places.{byte_at, GivesPlaces, Overwrites, SamePlaces}
use Rattle.repository.specs.Record.{HasBytes}

-- the disk is as it was, and the first n bytes of the buffer are those from `place` on
pub record HasRead (old now : Option (List ℕ)) (is_honest : Bool) (place n : ℕ) (buffer : List ℕ) : Type 0 where
  pub honest : IsTrue is_honest
  pub same : SamePlaces old now
  pub gives : GivesPlaces old place n buffer

-- the first n bytes of the piece were put, and nothing else
pub record HasWritten (old now : Option (List ℕ)) (is_honest : Bool) (place n : ℕ) (piece : List ℕ) : Type 0 where
  pub honest : IsTrue is_honest
  pub puts : Overwrites old now place n piece

-- two lists of one length that the same places have are one list
pub HasBytes-unique : (told : Option (List ℕ)) (place : ℕ) (xs ys : List ℕ) → length xs ≡ length ys → HasBytes told place xs → HasBytes told place ys → xs ≡ ys
HasBytes-unique told place xs ys long p q = ext_get_or 0 xs ys long (λ i below. p i below ∙ sym (q i (subst (λ (n : ℕ). i < n) long below)))

-- a write of a front of the piece, and then one of a front of the rest
pub Overwrites-more : (a b c : Option (List ℕ)) (place i n : ℕ) (piece : List ℕ) → Overwrites a b place i piece → Overwrites b c (place + i) n (drop i piece)
    → Overwrites a c place (i + n) piece
Overwrites-more a b c place i n piece first second = record {
  inside = λ k below. elim (cases_lt k i) [
    | inl h ↦ second.before (place + k) (omega arith) ∙ first.inside k h
    | inr h ↦ let next : k - i < n = omega arith in
        let where_it_is : place + k ≡ place + i + (k - i) = omega arith in
        let rest : i + (k - i) ≡ k = omega arith in
        ap (byte_at c) where_it_is ∙ second.inside (k - i) next ∙ get_or-drop i piece (k - i) 0 ∙ ap (slice_index piece) rest
  ];
  before = λ p below. second.before p (omega arith) ∙ first.before p below;
  after = λ p above. second.after p (omega arith) ∙ first.after p (omega arith);
}
