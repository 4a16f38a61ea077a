-- What the steps make of what a pass knows.
use Rattle.std.proofs.Common.{◌≡◌, ◌≢◌, ℕ, ◌<◌, ◌≤◌, ◌%◌, ◌^◌, Option, Some, None, true, sym, refl, ap, ◌∙◌, subst, List, [], ◌∷◌}
use Rattle.std.proofs.Math.Arith.{lt_of_le-ne}
use Rattle.std.specs.Prelude.{is_some, unwrap_or}
use Rattle.atomic_table.specs.Table.{rest}
use Rattle.named_lock.specs.declared.view.View.{View}
use Rattle.named_lock.specs.Known.{is_live}
use Rattle.named_lock.specs.Slot.{empty}
use Rattle.named_lock.specs.Keeps.{FitsNumber, known_of}
use Rattle.named_lock.specs.Pass.{is_placed, out_with}

-- a number that a pass knows is its own
pub placed_at : (j : ℕ) (o : Option ℕ) → is_some o ≡ true → FitsNumber j o → unwrap_or o 0 ≡ j
placed_at j None e f = absurd cc
placed_at j (Some n) e f = f

module _ {M S N : Type 0} where
  pub placed_view : (v : Option (View M S N)) → is_placed v ≡ true → (k : View M S N) × (v ≡ Some k) × (is_some k.number ≡ true)
  placed_view None e = absurd cc
  placed_view (Some k) e = (k, refl, e)

  pub live_view : (v : Option (View M S N)) → is_live (known_of v) ≡ true → (k : View M S N) × (v ≡ Some k)
  live_view None e = absurd cc
  live_view (Some k) e = (k, refl)

  pub live_placed : (v : Option (View M S N)) → is_placed v ≡ true → is_live (known_of v) ≡ true
  live_placed None e = absurd cc
  live_placed (Some k) e = refl

module _ {S N : Type 0} where
  -- the slot is out with a pass that has the turn
  pub out-taken : (o : Option S) (x : S) → o ≡ Some x → out_with {S = S} {N = N} o ≡ (0, empty) ∷ []
  out-taken None x e = absurd cc
  out-taken (Some y) x e = refl

  pub out-idle : (o : Option S) → o ≡ None → out_with {S = S} {N = N} o ≡ []
  out-idle None e = refl
  out-idle (Some y) e = absurd cc

-- a seat that has one slot
pub carried_one : {X : Type 0} (c : List (ℕ × X)) (x : ℕ × X) → c ≡ x ∷ [] → c ≡ x ∷ rest c
carried_one c x e = e ∙ ap (λ r. x ∷ r) (sym (ap rest e))

-- the slot has another value
pub exchanged_one : {V X : Type 0} (me new : V × List (ℕ × X)) (x y : ℕ × X) → me.1 ≡ x ∷ [] → new ≡ (me.0, y ∷ rest me.1) → new ≡ (me.0, y ∷ [])
exchanged_one {V} {X} me new x y e f = f ∙ ap (λ (z : List (ℕ × X)). (me.0, y ∷ rest z)) e

-- where a count of gives reads otherwise than it did, there have been more
pub gone_on : (read told given gives seen : ℕ) → read ≡ gives % 2 ^ 63 → told ≡ given % 2 ^ 63 → read ≢ told → given ≤ gives → seen ≡ gives → given < seen
gone_on read told given gives seen e f other more same = lt_of_le-ne (subst (λ z. given ≤ z) (sym same) more)
    (λ g. other (e ∙ ap (λ z. z % 2 ^ 63) (sym same ∙ sym g) ∙ sym f))
