-- Marks added one after the other.
use Rattle.std.proofs.Common.{◌≡◌, ℕ, ◌+◌, ◌<◌, ◌≤◌, List, get_or, drop, length, refl, ap, sym, ◌∙◌, arith}
use Rattle.std.specs.Prelude.{Bool, true, false, ◌||◌}
use Rattle.std.specs.List.{list_any}
use Rattle.std.proofs.lemmas.List.{drop_all}
use Rattle.const_prop.specs.Tables.{AddsMarks}
use Rattle.list_laws.proofs.Elements.{drop_read}

-- what k elements mark, and what the others will mark, is what all mark
pub record Marking (X : Type 0) (p : X → ℕ → Bool) (xs : List X) (old : List Bool) (k : ℕ) (now : List Bool) : Type 0 where
  pub size : length now ≡ length old
  pub at : (x : ℕ) → x < length old → (get_or now x false || list_any (λ y. p y x) (drop k xs)) ≡ (get_or old x false || list_any (λ y. p y x) xs)

or_assoc : (a b c : Bool) → ((a || b) || c) ≡ (a || (b || c))
or_assoc true b c = refl
or_assoc false b c = refl

or_false : (a : Bool) → (a || false) ≡ a
or_false true = refl
or_false false = refl

module _ (X : Type 0) (p : X → ℕ → Bool) (xs : List X) (old : List Bool) where
  pub marks_more : (k : ℕ) (y : X) (now new : List Bool) → k < length xs → y ≡ get_or xs k y → AddsMarks now new (p y) → Marking X p xs old k now
      → Marking X p xs old (k + 1) new
  marks_more k y now new lt read a m =
      record {
        size = a.size ∙ m.size;
        at = λ x lx. (
            let size = m.size in
            ap (λ (b : Bool). b || list_any (λ z. p z x) (drop (k + 1) xs)) (a.at x (omega arith))
            ∙ or_assoc (get_or now x false) (p y x) (list_any (λ z. p z x) (drop (k + 1) xs))
            ∙ ap (λ (ys : List X). get_or now x false || list_any (λ z. p z x) ys) (sym (drop_read xs k y lt read))
            ∙ m.at x lx);
      }

  pub marks_done : (k : ℕ) (now : List Bool) → length xs ≤ k → Marking X p xs old k now → AddsMarks old now (λ x. list_any (λ y. p y x) xs)
  marks_done k now past m =
      record {
        size = m.size;
        at = λ x lx. sym (or_false (get_or now x false)) ∙ ap (λ (ys : List X). get_or now x false || list_any (λ z. p z x) ys) (sym (drop_all k xs past)) ∙
            m.at x lx;
      }
