-- A row is taken out of the table, and the last one takes its place; a pool goes.
use Rattle.std.proofs.Common.{◌≡◌, ◌≢◌, ℕ, ◌+◌, ◌-◌, ◌<◌, ◌≤◌, Bool, true, false, cond, nat_eq, List, ◌∷◌, length, get_or, Option, Some, None, IsSome}
use Rattle.std.proofs.Common.{refl, sym, ap, subst, arith, ◌∙◌, ◌⊎◌, inl, inr}
use Rattle.std.specs.Cmp.{nat_eq_equiv}
use Rattle.std.specs.List.{IsDistinct, slice_get, slice_set, swap_remove}
use Rattle.std.specs.List.Sorted.{IsPermutation}
use Rattle.std.specs.Map.{keys_of, lookup}
use Rattle.std.proofs.lemmas.Bool.Decides.{eqb_tells}
use Rattle.std.proofs.lemmas.List.{length-set}
use Rattle.std.proofs.lemmas.List.Sorted.{IsPermutation-map, IsPermutation-swap_remove, IsPermutation-sym, Contains-permutation, length_permutation}
use Rattle.std.proofs.lemmas.Map.Entries.{lookup_from_place}
use Rattle.std.proofs.lemmas.Map.Keys.{IsDistinct-IsPermutation, IsDistinct-tail}
use Rattle.std.proofs.lemmas.Map.Views.{Contains-from_lookup, lookup-from_Contains}
use Rattle.std.proofs.lemmas.Option.{slice_get_within, slice_get_read, get_or_from_slice_get, some_pair_parts}
use Rattle.naim_core.specs.State.{Core}
use Rattle.naim_core.specs.declared.event.Event.TheVariants as event
use Rattle.naim_core.proofs.Effects.{remove_did}
use Rattle.list_laws.proofs.Entries.{same_number, number_itself, head_absent}
use Rattle.naim_loader.specs.declared.counters.Counters.{Counters}
use Rattle.naim_loader.specs.declared.home.Home.{Home}
use Rattle.naim_loader.specs.declared.table.Entry.{Entry}
use Rattle.naim_loader.specs.Counting.{Stepped}
use Rattle.naim_loader.specs.Rows.{IsTable, Renews}
use Rattle.naim_loader.specs.Whole.{IsWhole}
use Rattle.naim_loader.proofs.Rows.{get_put, get_other, row_read, within_index}
use Rattle.naim_loader.proofs.Wholes.{whole_turned}

module _ {X : Type 0} where
  -- entries in another order are found alike, where no key stands twice
  found_alike : (es fs : List (ℕ × X)) (q : ℕ) → IsPermutation es fs → IsDistinct nat_eq (keys_of es) → IsDistinct nat_eq (keys_of fs)
      → lookup (nat_eq q) es ≡ lookup (nat_eq q) fs
  found_alike es fs q s d e = by (lookup (nat_eq q) es) (lookup (nat_eq q) fs) refl refl
    where
      by : (o u : Option X) → lookup (nat_eq q) es ≡ o → lookup (nat_eq q) fs ≡ u → o ≡ u
      by None None h k = refl
      by None (Some y) h k = (let z : lookup (nat_eq q) es ≡ Some y = lookup-from_Contains nat_eq_equiv q y es d
          (Contains-permutation fs es (q, y) (IsPermutation-sym es fs s) (Contains-from_lookup same_number q y fs k)) in cc)
      by (Some x) u h k = sym (lookup-from_Contains nat_eq_equiv q x fs e (Contains-permutation es fs (q, x) s (Contains-from_lookup same_number q x es h))) ∙ k

  -- what a row's removal leaves: the row of p, at the place i, is out
  pub record Without (rows rows' : List (ℕ × X)) (p i : ℕ) : Type 0 where
    pub differ : IsDistinct nat_eq (keys_of rows')
    pub found : (q : ℕ) → lookup (nat_eq q) rows' ≡ cond (nat_eq p q) None (lookup (nat_eq q) rows)
    pub shorter : length rows' + 1 ≡ length rows
    pub others : (j : ℕ) (r : ℕ × X) → j ≢ i → j + 1 < length rows → slice_get rows j ≡ Some r → slice_get rows' j ≡ Some r
    pub last : (j : ℕ) (r : ℕ × X) → i + 1 < length rows → j + 1 ≡ length rows → slice_get rows j ≡ Some r → slice_get rows' i ≡ Some r

  without : (rows rows' : List (ℕ × X)) (n p i : ℕ) (e : X) (row : ℕ × X) → n ≡ length rows → IsDistinct nat_eq (keys_of rows) → slice_get rows i ≡ Some (p, e)
      → row ≡ (p, e) → rows' ≡ swap_remove rows i row
      → ((d : ℕ × X) → i + 1 < n → get_or rows' i d ≡ get_or rows (n - 1) d) → ((k : ℕ) (d : ℕ × X) → k ≢ i → k + 1 < n → get_or rows' k d ≡ get_or rows k d)
      → Without rows rows' p i
  without rows rows' n p i e row count d at row_is is here there =
      let below = slice_get_within rows i (p, e) at in
      let perm : IsPermutation rows ((p, e) ∷ rows') = subst (λ z. IsPermutation rows ((p, e) ∷ z)) (sym (is ∙ ap (swap_remove rows i) row_is))
      (IsPermutation-swap_remove rows i (p, e) below (sym (get_or_from_slice_get rows i (p, e) (p, e) at))) in
      let keys : IsDistinct nat_eq (p ∷ keys_of rows') = IsDistinct-IsPermutation nat_eq nat_eq_equiv.symm (keys_of rows) (p ∷ keys_of rows')
      (IsPermutation-map (λ r. r.0) rows ((p, e) ∷ rows') perm) d in
      let long : length rows' + 1 ≡ length rows = (let k = length_permutation rows ((p, e) ∷ rows') perm in omega arith) in
      record {
        differ = IsDistinct-tail nat_eq p (keys_of rows') keys;
        found = λ q. by q perm keys (eqb_tells p q);
        shorter = long;
        others = λ j r ne b g. slice_get_read rows' (length rows') j r refl (omega arith)
            (sym (there j r ne (omega arith) ∙ get_or_from_slice_get rows j r r g));
        last = λ j r b m g. slice_get_read rows' (length rows') i r refl (omega arith)
            (sym (here r (omega arith) ∙ ap (λ k. get_or rows k r) (let k : n - 1 ≡ j = omega arith in k) ∙ get_or_from_slice_get rows j r r g));
      }
    where
      by : (q : ℕ) → IsPermutation rows ((p, e) ∷ rows') → IsDistinct nat_eq (p ∷ keys_of rows')
          → ((nat_eq p q ≡ true) × (p ≡ q)) ⊎ ((nat_eq p q ≡ false) × (p ≢ q)) → lookup (nat_eq q) rows' ≡ cond (nat_eq p q) None (lookup (nat_eq q) rows)
      by q perm keys (inl y) = ap (λ z. lookup (nat_eq z) rows') (sym y.1) ∙ head_absent p rows' keys ∙ ap (λ b. cond b None (lookup (nat_eq q) rows)) (sym y.0)
      by q perm keys (inr n) = ap (λ b. cond b (Some e) (lookup (nat_eq q) rows')) (sym (nat_eq_equiv.symm q p ∙ n.0)) ∙ sym
          (found_alike rows ((p, e) ∷ rows') q perm d keys) ∙ ap (λ b. cond b None (lookup (nat_eq q) rows)) (sym n.0)

  -- the row of p that was taken out
  pub record Out (rows old rows' : List (ℕ × X)) (p i : ℕ) : Type 0 where
    pub entry : X
    pub at : slice_get rows i ≡ Some (p, entry)
    pub left : Without rows rows' p i
    pub found : (q : ℕ) → lookup (nat_eq q) rows' ≡ cond (nat_eq p q) None (lookup (nat_eq q) old)

  pub taken_out : (rows old rows' : List (ℕ × X)) (index : List (Option ℕ)) (room n p i : ℕ) (o : Option ℕ) (row : ℕ × X) → IsTable rows index room → rows ≡ old
      → IsSome (lookup (nat_eq p) old) → o ≡ get_or index p o → o ≡ Some i → n ≡ length rows
      → row ≡ get_or rows i row → rows' ≡ swap_remove rows i row
      → ((d : ℕ × X) → i + 1 < n → get_or rows' i d ≡ get_or rows (n - 1) d) ×
      ((k : ℕ) (d : ℕ × X) → k ≢ i → k + 1 < n → get_or rows' k d ≡ get_or rows k d) → Out rows old rows' p i
  taken_out rows old rows' index room n p i o row t view there read here count row_is is each =
      let r = row_read rows index room p i o row t (within_index rows index room p t (subst (λ z. IsSome (lookup (nat_eq p) z)) (sym view) there)) read here
      row_is in
      let w = without rows rows' n p i r.entry row count t.differ r.at r.is is each.0 each.1 in
      record { entry = r.entry; at = r.at; left = w; found = λ q. w.found q ∙ ap (λ z. cond (nat_eq p q) None (lookup (nat_eq q) z)) view }

  cond_none : (b : Bool) (o : Option X) → o ≡ None → cond b None o ≡ None
  cond_none true o e = refl
  cond_none false o e = e

  -- the index once the row at i is out
  lost : (rows rows' : List (ℕ × X)) (p i q : ℕ) → Without rows rows' p i → lookup (nat_eq q) rows ≡ None → lookup (nat_eq q) rows' ≡ None
  lost rows rows' p i q w none = w.found q ∙ cond_none (nat_eq p q) (lookup (nat_eq q) rows) none

  gone : (rows rows' : List (ℕ × X)) (p i : ℕ) → Without rows rows' p i → lookup (nat_eq p) rows' ≡ None
  gone rows rows' p i w = w.found p ∙ ap (λ b. cond b None (lookup (nat_eq p) rows)) (number_itself p)

  same_pid : (rows : List (ℕ × X)) (i p q : ℕ) (x y : X) → slice_get rows i ≡ Some (p, x) → slice_get rows i ≡ Some (q, y) → p ≡ q
  same_pid rows i p q x y a b = (some_pair_parts p q x y (sym a ∙ b)).0

  -- it was the last row
  pub removed_last : (rows rows' : List (ℕ × X)) (index : List (Option ℕ)) (room p i : ℕ) (e : X) → IsTable rows index room → slice_get rows i ≡ Some (p, e)
      → p < length index → Without rows rows' p i → length rows' ≤ i → IsTable rows' (slice_set index p None) room
  removed_last rows rows' index room p i e t at below w end = record {
    differ = w.differ;
    width = length-set index p None ∙ t.width;
    missing = λ q h. missed q h (eqb_tells p q);
    found = λ q j h. find q j h (eqb_tells p q);
    below = λ q b. lost rows rows' p i q w (t.below q b);
    room_fits = t.room_fits;
  }
    where
      missed : (q : ℕ) → slice_get (slice_set index p None) q ≡ Some None → ((nat_eq p q ≡ true) × (p ≡ q)) ⊎ ((nat_eq p q ≡ false) × (p ≢ q))
          → lookup (nat_eq q) rows' ≡ None
      missed q h (inl y) = ap (λ z. lookup (nat_eq z) rows') (sym y.1) ∙ gone rows rows' p i w
      missed q h (inr n) = lost rows rows' p i q w (t.missing q (sym (get_other index p q None n.1) ∙ h))

      find : (q j : ℕ) → slice_get (slice_set index p None) q ≡ Some (Some j) → ((nat_eq p q ≡ true) × (p ≡ q)) ⊎ ((nat_eq p q ≡ false) × (p ≢ q))
          → (x : X) × (slice_get rows' j ≡ Some (q, x))
      find q j h (inl y) = (let k : slice_get (slice_set index p None) q ≡ Some None = ap (slice_get (slice_set index p None)) (sym y.1) ∙ get_put index p None
          below in cc)
      find q j h (inr n) =
          (let was = t.found q j (sym (get_other index p q None n.1) ∙ h) in
          let within = slice_get_within rows j (q, was.0) was.1 in let s = w.shorter in let mine = slice_get_within rows i (p, e) at in
          let other : j ≢ i = λ k. n.1 (same_pid rows i p q e was.0 at (ap (slice_get rows) (sym k) ∙ was.1)) in
          (was.0, w.others j (q, was.0) other (omega arith) was.1))

  -- the index has a place for the row that took its place
  pub last_within : (rows rows' : List (ℕ × X)) (index : List (Option ℕ)) (room p i l : ℕ) (y : X) → IsTable rows index room → Without rows rows' p i
      → slice_get rows' i ≡ Some (l, y) → l < length index
  last_within rows rows' index room p i l y t w here = by (cases l)
    where
      cases : (n : ℕ) → (n < 131072) ⊎ (131072 ≤ n)
      cases n = grind arith

      by : (l < 131072) ⊎ (131072 ≤ l) → l < length index
      by (inl b) = (let v = t.width in omega arith)
      by (inr b) = (let k : Some y ≡ None = sym (lookup_from_place nat_eq_equiv rows' i l y w.differ here) ∙ lost rows rows' p i l w (t.below l b) in cc)

  -- the last row, of l, has taken its place
  pub removed_inside : (rows rows' : List (ℕ × X)) (index : List (Option ℕ)) (room p i l : ℕ) (e y : X) → IsTable rows index room
      → slice_get rows i ≡ Some (p, e) → p < length index → Without rows rows' p i → slice_get rows' i ≡ Some (l, y)
      → IsTable rows' (slice_set (slice_set index p None) l (Some i)) room
  removed_inside rows rows' index room p i l e y t at below w here = record {
    differ = w.differ;
    width = length-set (slice_set index p None) l (Some i) ∙ length-set index p None ∙ t.width;
    missing = λ q h. missed q h (eqb_tells l q) (eqb_tells p q);
    found = λ q j h. find q j h (eqb_tells l q) (eqb_tells p q);
    below = λ q b. lost rows rows' p i q w (t.below q b);
    room_fits = t.room_fits;
  }
    where
      index' : List (Option ℕ)
      index' = slice_set index p None

      l_within : l < length index'
      l_within = (let k = length-set index p None in let m = last_within rows rows' index room p i l y t w here in omega arith)

      missed : (q : ℕ) → slice_get (slice_set index' l (Some i)) q ≡ Some None → ((nat_eq l q ≡ true) × (l ≡ q)) ⊎ ((nat_eq l q ≡ false) × (l ≢ q))
          → ((nat_eq p q ≡ true) × (p ≡ q)) ⊎ ((nat_eq p q ≡ false) × (p ≢ q)) → lookup (nat_eq q) rows' ≡ None
      missed q h (inl s) m = (let k : slice_get (slice_set index' l (Some i)) q ≡ Some (Some i) = ap (slice_get (slice_set index' l (Some i))) (sym s.1) ∙
          get_put index' l (Some i) l_within in cc)
      missed q h (inr n) (inl s) = ap (λ z. lookup (nat_eq z) rows') (sym s.1) ∙ gone rows rows' p i w
      missed q h (inr n) (inr m) = lost rows rows' p i q w (t.missing q (sym (get_other index p q None m.1) ∙ sym (get_other index' l q (Some i) n.1) ∙ h))

      find : (q j : ℕ) → slice_get (slice_set index' l (Some i)) q ≡ Some (Some j) → ((nat_eq l q ≡ true) × (l ≡ q)) ⊎ ((nat_eq l q ≡ false) × (l ≢ q))
          → ((nat_eq p q ≡ true) × (p ≡ q)) ⊎ ((nat_eq p q ≡ false) × (p ≢ q)) → (x : X) × (slice_get rows' j ≡ Some (q, x))
      find q j h (inl s) m =
          (let k : slice_get (slice_set index' l (Some i)) q ≡ Some (Some i) = ap (slice_get (slice_set index' l (Some i))) (sym s.1) ∙ get_put index' l
          (Some i) l_within in
          let same : i ≡ j = cc in
          (y, ap (slice_get rows') (sym same) ∙ here ∙ ap (λ z. Some (z, y)) s.1))
      find q j h (inr n) (inl s) = (let k : slice_get (slice_set index' l (Some i)) q ≡ Some None = get_other index' l q (Some i) n.1 ∙ ap (slice_get index')
          (sym s.1) ∙ get_put index p None below in cc)
      find q j h (inr n) (inr m) =
          (let was = t.found q j (sym (get_other index p q None m.1) ∙ sym (get_other index' l q (Some i) n.1) ∙ h) in
          let within = slice_get_within rows j (q, was.0) was.1 in
          let other : j ≢ i = λ k. m.1 (same_pid rows i p q e was.0 at (ap (slice_get rows) (sym k) ∙ was.1)) in
          let short = slice_get_within rows' i (l, y) here in let s = w.shorter in (
            was.0,
            elim (eqb_tells (j + 1) (length rows)) [
              | inl z ↦ absurd (n.1 (same_pid rows' i l q y was.0 here (w.last j (q, was.0) (omega arith) z.1 was.1)))
              | inr z ↦ w.others j (q, was.0) other (let k = z.1 in omega arith) was.1
            ],
          ))

module _ {T B D : Type 0} (charge : T → ℕ) (spell : T → List ℕ) (is_value : T → Type 0) (bytes : D → Option (List ℕ)) (reach : D → ℕ) (honest : D → Bool) where
  abbrev Whole : ℕ → Core → List (ℕ × Entry T B) → Home D → D → Counters → Type 0
  Whole = IsWhole charge spell is_value bytes reach honest

  pub remove_whole : (limit p : ℕ) (s new : Core) (rows rows' : List (ℕ × Entry T B)) (disk : Home D) (first : D) (before after : Counters)
      → Whole limit s rows disk first before → s.failure ≡ None
      → Stepped s (event.Remove p) new before after → Renews rows rows' p None → Whole limit new rows' disk first after
  remove_whole limit p s new rows rows' disk first before after wh none t put =
      whole_turned charge spell is_value bytes reach honest limit s new p None None s.disk (event.Remove p) rows rows' disk disk first before after wh (record {
        running = none;
        turned = remove_did s new p wh.sound none t.step;
        step = t;
        differ = put.differ;
        found = put.found;
        here = tt;
        others = λ g q z r n at c f h. h;
        home = wh.home none;
        good = wh.good;
      })
