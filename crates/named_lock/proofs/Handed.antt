-- What a call's last step makes of the pass that it was handed.
use Rattle.std.proofs.Common.{◌≡◌, ℕ, ◌%◌, ◌^◌, Option, Some, None, true, sym, ap, ◌∙◌, List, []}
use Rattle.named_lock.specs.declared.view.View.{View}
use Rattle.named_lock.specs.declared.view.Held.{Held}
use Rattle.named_lock.specs.declared.turnstile.Token.{Token}
use Rattle.named_lock.specs.declared.turnstile.Turnstile.{Turnstile}
use Rattle.named_lock.specs.Known.{taken_of, noted}
use Rattle.named_lock.specs.Keeps.{Mine, known_of, place_of}
use Rattle.named_lock.specs.Steps.{with_note, with_seen, given_at, seen_at}
use Rattle.named_lock.specs.Pass.{IsPassOf, is_placed, out_with}

module _ {M S N : Type 0} where
  -- of a pass that was told the number of gives
  pub seen_me : (g : ℕ) (v : Option (View M S N)) (c : List (ℕ × Held S N)) (me : Mine M S N) → me ≡ (with_seen g v, c) → is_placed v ≡ true
      → (known_of me.0 ≡ known_of v) × (place_of me.0 ≡ place_of v) × (is_placed me.0 ≡ true) × (given_at me.0 ≡ given_at v) × (seen_at me.0 ≡ g)
  seen_me g None c me e placed = absurd cc
  seen_me g (Some k) c me e placed = (
    ap (λ z. known_of z.0) e,
    ap (λ z. place_of z.0) e,
    ap (λ z. is_placed z.0) e ∙ placed,
    ap (λ z. given_at z.0) e,
    ap
        (λ z. seen_at z.0) e,
  )

  -- of a pass that has given
  pub noted_me : (note : N) (g : ℕ) (v : Option (View M S N)) (me : Mine M S N) → me ≡ (with_note note g v, []) → is_placed v ≡ true
      → (known_of me.0 ≡ noted note (known_of v)) × (place_of me.0 ≡ place_of v) × (is_placed me.0 ≡ true) × (given_at me.0 ≡ g) ×
      (me.1 ≡ out_with (taken_of (known_of me.0)))
  noted_me note g None me e placed = absurd cc
  noted_me note g (Some k) me e placed = (
    ap (λ z. known_of z.0) e,
    ap (λ z. place_of z.0) e,
    ap (λ z. is_placed z.0) e ∙ placed,
    ap (λ z. given_at z.0) e,
    ap
        (λ z. z.1) e ∙ sym (ap (λ z. out_with (taken_of (known_of z.0))) e),
  )

  module _ {V K P : Type 0} (lock : Turnstile (Held S N) V K P) (p q : Token (Held S N) (Option (View M S N))) where
    pub seen_pass : (g : ℕ) → q.seat.me ≡ (with_seen g p.seat.me.0, p.seat.me.1) → q.seat.table_id ≡ p.seat.table_id → q.given ≡ p.given → IsPassOf lock p
        → IsPassOf lock q
    seen_pass g e same given pass = let f = seen_me g p.seat.me.0 p.seat.me.1 q.seat.me e pass.placed in record {
      same = same ∙ pass.same;
      placed = f.2;
      slots = ap (λ z. z.1) e ∙ pass.slots ∙ sym (ap (λ z. out_with (taken_of z)) f.0);
      given = given ∙ pass.given ∙ sym (ap (λ z. z % 2 ^ 63) f.3);
    }

    pub noted_pass : (note : N) (g : ℕ) → q.seat.me ≡ (with_note note g p.seat.me.0, []) → q.seat.table_id ≡ p.seat.table_id → q.given ≡ g % 2 ^ 63
        → IsPassOf lock p → IsPassOf lock q
    noted_pass note g e same given pass = let f = noted_me note g p.seat.me.0 q.seat.me e pass.placed in record {
      same = same ∙ pass.same;
      placed = f.2;
      slots = f.4;
      given = given ∙ sym (ap (λ z. z % 2 ^ 63) f.3);
    }
