-- How a lock begins, and what is known as it is closed.
use Rattle.std.proofs.Common.{◌≡◌, ℕ, zero, suc, ◌<◌, List, [], ◌∷◌, Option, Some, None, true, sym, refl, subst, arith}
use mathlib.Core.Option as base
use mathlib.Core.Option.{some}
use lib.ListN.{get_elem?}
use Rattle.std.specs.Prelude.{is_some}
use Rattle.atomic_table.specs.Table.{Final, Seen, opening}
use Rattle.named_lock.specs.declared.view.Known.{Known}
use Rattle.named_lock.specs.declared.view.View.{View}
use Rattle.named_lock.specs.declared.view.Held.{Held}
use Rattle.named_lock.specs.declared.view.Founding.{Founding}
use Rattle.named_lock.specs.Known.{knows, taken_of, share_of, all_of}
use Rattle.named_lock.specs.Rules.{Stands, StandsAlone}
use Rattle.named_lock.specs.Slot.{at_rest, empty}
use Rattle.named_lock.specs.Keeps.{Keeps, Moment, FitsPass, FitsTurn, moment, founder, known_of, place_of}
use Rattle.named_lock.specs.Steps.{with_close}
use Rattle.named_lock.specs.Pass.{is_placed}
use Rattle.named_lock.proofs.Passes.{alone}
use Rattle.named_lock.proofs.Moves.{stands}

module _ {M S N : Type 0} (holds : M → S → List (Option N) → Type 0) where
  -- the slot as the lock is made
  abbrev pub first_slot : S → Held S N
  first_slot x = record { state = Some x; intent = at_rest }

  begins : (f : Founding M N) (x : S) → 0 < f.shares → holds f.name x (Some f.note ∷ [])
      → Keeps holds f.name f.shares (opening (0 ∷ []) (first_slot x ∷ []) (founder f))
  begins f x some_share rule = record {
    state = x;
    holder = 0;
    gives = 0;
    wide = refl;
    rule = rule;
    passes = record { shares = omega arith; each = first_known };
    sound = record { one = refl; count = refl; free = λ e. (first_slot x, refl, refl) };
    fits = first_view;
  }
    where
      some_one : (k l : Known M S N) → Some k ≡ Some l → k ≡ l
      some_one k l e = cc

      first_known : (j : ℕ) (k : Known M S N) → get_elem? (Some (knows f.name f.note f.shares f.shares) ∷ []) j ≡ some (Some k)
          → (k.name ≡ f.name) × (k.all ≡ f.shares) × (0 < k.share)
      first_known zero k e = subst (λ (z : Known M S N). (z.name ≡ f.name) × (z.all ≡ f.shares) × (0 < z.share))
          (some_one _ k (base.some-injective _ (Some k) e)) (refl, refl, some_share)
      first_known (suc j) k e = absurd (base.some-ne-none (Some k) (sym e))

      first_view : (j : ℕ) (v : Option (View M S N)) → get_elem? (founder f ∷ []) j ≡ some v
          → FitsPass (record { state = x; holder = 0; gives = 0; word = 0; slots = some (first_slot x) ∷ [] }) j v
      first_view zero v e = subst (FitsPass (record { state = x; holder = 0; gives = 0; word = 0; slots = some (first_slot x) ∷ [] }) 0)
          (base.some-injective _ v e) (record { number = refl; given = omega arith; seen = omega arith; turn = tt })
      first_view (suc j) v e = absurd (base.some-ne-none v (sym e))

  pub opens : (f : Founding M N) (x : S) (hs : List (Held S N)) → hs ≡ first_slot x ∷ [] → 0 < f.shares → holds f.name x (Some f.note ∷ [])
      → Keeps holds f.name f.shares (opening (0 ∷ []) hs (founder f))
  opens f x hs e some_share rule = subst (λ z. Keeps holds f.name f.shares (opening (0 ∷ []) z (founder f))) (sym e) (begins f x some_share rule)

module _ {M S N : Type 0} (holds : M → S → List (Option N) → Type 0) (name : M) (all : ℕ) where
  closed_known : (id : ℕ) (k : View M S N) (x : S) (ws : List ℕ) (xs : List (Held S N)) → is_some k.number ≡ true → k.known.taken ≡ Some x
      → Final (Seen (Keeps holds name all) id (with_close (Some k))) ws xs
      → (get_elem? xs 0 ≡ some empty) × Stands holds (place_of (Some k)) (known_of (Some k)) x
  closed_known id k x ws xs placed taken f =
      let s = f.0 in let r = f.1.0 in let at = f.1.1 in let mine = r.fits id _ at in let m : Moment S N = moment r.state r.holder r.gives s in
      let turn : FitsTurn m id true (Some x) = subst (FitsTurn m id true) taken mine.turn in (
        f.4 0 empty (turn.3 refl),
        subst (λ (z : S). Stands holds (place_of (Some k)) (known_of (Some k)) z) (sym turn.0)
            (stands holds name all s r id (record k { closing = true }) at placed),
      )

  -- the slot is home without the state, and the rule held for the state as it was taken, with the note of the one pass
  pub closed : (id : ℕ) (u v : Option (View M S N)) (x : S) (ws : List ℕ) (xs : List (Held S N)) → u ≡ with_close v → is_placed v ≡ true
      → taken_of (known_of v) ≡ Some x → share_of (known_of v) ≡ all_of (known_of v)
      → Final (Seen (Keeps holds name all) id u) ws xs
      → (get_elem? xs 0 ≡ some empty) × StandsAlone holds (place_of v) (known_of v) x
  closed id u None x ws xs e placed taken has_all f = absurd cc
  closed id u (Some k) x ws xs e placed taken has_all f =
      let c = closed_known id k x ws xs placed taken (subst (λ z. Final (Seen (Keeps holds name all) id z) ws xs) e f) in
      (c.0, alone holds (place_of (Some k)) (known_of (Some k)) x has_all c.1)
