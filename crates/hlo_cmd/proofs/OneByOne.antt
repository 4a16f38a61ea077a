-- Pieces of one text, put out one after another.
use Rattle.std.proofs.Common.{◌≡◌, ℕ, ◌+◌, ◌<◌, List, [], ◌∷◌, ◌++◌, length, take, drop, get_or, Option, refl, sym, ◌∙◌, ap, subst}
use Rattle.std.specs.Borrow.{Bor}
use Rattle.std.specs.Prelude.{decimal, flat_map, map}
use Rattle.std.specs.Io.KnownBytes.{Appends}
use Rattle.std.proofs.KnownBytes.{Appends-trans}
use Rattle.std.proofs.lemmas.Grind.{flat_map-append}
use Rattle.std.proofs.lemmas.List.{flat_map_more, take-append-drop, take_more}
use Rattle.hlo_cmd.specs.Messages.{counts_line}
use Rattle.hlo_cmd.proofs.Fronts.{front_of_more, then_failed}

-- one piece more, the next one of the list
module _ {X : Type 0} (text : X → List ℕ) (xs : List X) (k : ℕ) (x d : X) (less : k < length xs) (is : x ≡ get_or xs k d) where
  with_next : flat_map text (take k xs) ++ text x ≡ flat_map text (take (k + 1) xs)
  with_next =
      flat_map_more text [] (take k xs) x
      ∙ ap (flat_map text) (sym (take_more xs k d less ∙ ap (λ y. take k xs ++ y ∷ []) (sym is)))

  with_rest : (flat_map text (take k xs) ++ text x) ++ flat_map text (drop (k + 1) xs) ≡ flat_map text xs
  with_rest =
      ap (λ l. l ++ flat_map text (drop (k + 1) xs)) with_next
      ∙ sym (flat_map-append text (take (k + 1) xs) (drop (k + 1) xs))
      ∙ ap (flat_map text) (take-append-drop (k + 1) xs)

  -- it was taken
  pub next_taken : (a b c : Option (List ℕ)) → Appends a b (flat_map text (take k xs)) → Appends b c (text x) → Appends a c (flat_map text (take (k + 1) xs))
  next_taken a b c h g = subst (Appends a c) with_next (Appends-trans a b c (flat_map text (take k xs)) (text x) h g)

  -- a front of it was
  pub next_failed : (a b c : Option (List ℕ)) → Appends a b (flat_map text (take k xs)) → ((m : ℕ) × Appends b c (take m (text x)))
      → (n : ℕ) × Appends a c (take n (flat_map text xs))
  next_failed a b c h g =
      let f = then_failed a b c g.0 (flat_map text (take k xs)) (text x) h g.1 in
      let m = front_of_more f.0 (flat_map text (take k xs) ++ text x) (flat_map text (drop (k + 1) xs)) in
      (m.0, subst (λ l. Appends a c (take m.0 l)) with_rest (subst (Appends a c) m.1 f.1))

-- a line of numbers, each behind its words, as it lies in memory
pub counts_of_borrowed : (counts : List (Bor (List ℕ) × ℕ))
    → flat_map (λ c. c.0.now ++ decimal c.1) counts ++ 10 ∷ [] ≡ counts_line (map (λ c. (c.0.now, c.1)) counts)
counts_of_borrowed counts = ap (λ l. l ++ 10 ∷ []) (go counts)
  where
    go : (cs : List (Bor (List ℕ) × ℕ))
        → flat_map (λ c. c.0.now ++ decimal c.1) cs ≡ flat_map (λ (c : List ℕ × ℕ). c.0 ++ decimal c.1) (map (λ c. (c.0.now, c.1)) cs)
    go [] = refl
    go (c ∷ cs) = ap (λ l. (c.0.now ++ decimal c.1) ++ l) (go cs)
