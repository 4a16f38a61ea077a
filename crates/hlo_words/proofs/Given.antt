-- What the getters of clap's matches give, by what was read of the words.
use Rattle.std.proofs.Common.{◌≡◌, ℕ, List, [], ◌∷◌, length, map, get_or, Option, Some, None, IfSome, IfNone, refl, sym, ◌∙◌, ap, subst, arith}
use Rattle.std.specs.Prelude.{option_map, codes}
use Rattle.std.specs.Borrow.{Bor}
use Rattle.std.proofs.lemmas.List.{length-map}
use Rattle.clap.specs.Matches.{first_value, matched_of, raw_values}
use Rattle.clap.specs.Walk.{Row, Text, all_of, first_of, rows_of}
use Rattle.clap.specs.declared.parser.matches.Found.{Found}
use Rattle.clap.proofs.WalkLemmas.{first_value-rows, raw_values-rows}
use Rattle.hlo_words.specs.Settings.{IsNumberIn, IsValue}

abbrev pub given_texts : List (Bor Text) → List Text
given_texts = map (λ s. s.now)

some_same : {A : Type 0} {x y : A} → Some x ≡ Some y → x ≡ y
some_same e = cc

-- the files that were given, as the call gives them
abbrev pub Gives : Found → Option (Bor (List (Bor Text))) → Type 0
Gives f r = option_map (λ s. map (λ v. v.now) s.now) r ≡ option_map raw_values (matched_of f (codes "files"))

module _ (f : Found) (r : Option (Bor (List (Bor Text)))) (gives : Gives f r) where
  pub given : (vs : Bor (List (Bor Text))) → r ≡ Some vs → all_of (codes "files") (rows_of f) ≡ Some (given_texts vs.now)
  given vs is = sym (raw_values-rows f (codes "files")) ∙ sym gives ∙ ap (option_map (λ s. map (λ v. v.now) s.now)) is

  pub not_given : (files : List Text) → r ≡ None → all_of (codes "files") (rows_of f) ≡ Some files → ⊥
  not_given files is e =
      let none : all_of (codes "files") (rows_of f) ≡ None = sym (raw_values-rows f (codes "files")) ∙ sym gives ∙ ap (option_map (λ s. map (λ v. v.now) s.now))
      is in
      let bad : None ≡ Some files = sym none ∙ e in
      cc

  -- as many as were given
  pub as_many : (vs : Bor (List (Bor Text))) → r ≡ Some vs → (files : List Text) → all_of (codes "files") (rows_of f) ≡ Some files
      → length files ≡ length vs.now
  as_many vs is files e = ap length (some_same (sym e ∙ given vs is)) ∙ length-map vs.now (λ v. v.now)

-- a list of one
pub only_text : (vs : List (Bor Text)) (d : Bor Text) → length vs ≡ 1 → given_texts vs ≡ (get_or vs 0 d).now ∷ []
only_text [] d one = absurd (omega (arith, one))
only_text (x ∷ []) d one = refl
only_text (x ∷ y ∷ vs) d one = absurd (omega (arith, one))

pub first_given : (name : Text) (f : Found) (o : Option (Bor Text)) → option_map (λ s. s.now) o ≡ first_value f name
    → first_of name (rows_of f) ≡ option_map (λ s. s.now) o
first_given name f o e = sym (e ∙ first_value-rows f name)

module _ (name : Text) (default low high : ℕ) (rows : List Row) where
  module _ (text : Text) (is : first_of name rows ≡ Some text) where
    -- the text that was given is in the range
    pub found_value : (o : Option ℕ) → IfSome o (IsNumberIn low high text) → IfSome o (IsValue default low high (first_of name rows))
    found_value None h = tt
    found_value (Some n) h = rw is h

    -- and it isn't
    pub no_value : (o : Option ℕ) → IfNone o ((n : ℕ) → IsNumberIn low high text n → ⊥)
        → IfNone o ((n : ℕ) → IsValue default low high (first_of name rows) n → ⊥)
    no_value None h = λ n value. h n (rw is at value)
    no_value (Some n) h = tt

  pub left_out : first_of name rows ≡ None → IsValue default low high (first_of name rows) default
  left_out e = rw e refl

-- what holds where there is none holds of another that is none
pub when_none : {A B : Type 0} (P : Type 0) (p : Option A) (o : Option B) → o ≡ None → IfNone o P → IfNone p P
when_none P None o is h = subst (λ q. IfNone q P) is h
when_none P (Some x) o is h = tt
