-- The table's rows and index.
use Rattle.std.proofs.Common.{◌≡◌, ◌≢◌, ℕ, zero, suc, ◌<◌, ◌≤◌, Bool, true, false, cond, nat_eq, List, [], ◌∷◌, ◌++◌, length, get_or, replicate, Option}
use Rattle.std.proofs.Common.{Some, None, IsSome, refl, sym, ap, subst, arith, ◌∙◌, ◌⊎◌, inl, inr}
use Rattle.std.specs.Cmp.{nat_eq_equiv}
use Rattle.std.specs.List.{IsDistinct, AllByRecursion, slice_get, slice_set}
use Rattle.std.specs.Map.{keys_of, lookup, set_value}
use Rattle.std.proofs.lemmas.Bool.Decides.{eqb_tells}
use Rattle.std.proofs.lemmas.List.{length-set}
use Rattle.std.proofs.lemmas.Map.{keys-set_value}
use Rattle.std.proofs.lemmas.Map.Entries.{lookup_from_place}
use Rattle.std.proofs.lemmas.Map.Keys.{IsDistinct-head, IsDistinct-tail, IsDistinct-cons}
use Rattle.std.proofs.lemmas.Option.{slice_get_within, slice_get_read, get_or_from_slice_get, some_pair_parts}
use Rattle.list_laws.proofs.Entries.{same_number, number_itself, other_number, lookup_set, apart_from_none}
use Rattle.naim_loader.specs.declared.table.Entry.{Entry}
use Rattle.naim_loader.specs.declared.table.Lying.{Lying}
use Rattle.naim_loader.specs.Rows.{IsTable, Puts, Renews, kept_in, kept_of}

pub get_put : {A : Type 0} (xs : List A) (i : ℕ) (x : A) → i < length xs → slice_get (slice_set xs i x) i ≡ Some x
get_put [] i x below = absurd (omega arith)
get_put (y ∷ xs) zero x below = refl
get_put (y ∷ xs) (suc i) x below = get_put xs i x (omega arith)

pub get_other : {A : Type 0} (xs : List A) (i j : ℕ) (x : A) → i ≢ j → slice_get (slice_set xs i x) j ≡ slice_get xs j
get_other [] i j x ne = refl
get_other (y ∷ xs) zero zero x ne = absurd (ne refl)
get_other (y ∷ xs) zero (suc j) x ne = refl
get_other (y ∷ xs) (suc i) zero x ne = refl
get_other (y ∷ xs) (suc i) (suc j) x ne = get_other xs i j x (λ e. ne (ap suc e))

get_before : {A : Type 0} (xs : List A) (i : ℕ) (x y : A) → slice_get xs i ≡ Some x → slice_get (xs ++ y ∷ []) i ≡ Some x
get_before [] i x y e = cc
get_before (z ∷ xs) zero x y e = e
get_before (z ∷ xs) (suc i) x y e = get_before xs i x y e

get_last : {A : Type 0} (xs : List A) (y : A) → slice_get (xs ++ y ∷ []) (length xs) ≡ Some y
get_last [] y = refl
get_last (x ∷ xs) y = get_last xs y

lookup_last : {X : Type 0} (q p : ℕ) (x : X) (es : List (ℕ × X)) → lookup (nat_eq p) es ≡ None
    → lookup (nat_eq q) (es ++ (p, x) ∷ []) ≡ cond (nat_eq p q) (Some x) (lookup (nat_eq q) es)
lookup_last q p x [] none = ap (λ b. cond b (Some x) None) (nat_eq_equiv.symm q p)
lookup_last q p x (e ∷ es) none = by (nat_eq q e.0) refl (nat_eq p e.0) refl (lookup_last q p x es)
  where
    by : (b : Bool) → nat_eq q e.0 ≡ b → (d : Bool) → nat_eq p e.0 ≡ d
        → (lookup (nat_eq p) es ≡ None → lookup (nat_eq q) (es ++ (p, x) ∷ []) ≡ cond (nat_eq p q) (Some x) (lookup (nat_eq q) es))
        → lookup (nat_eq q) ((e ∷ es) ++ (p, x) ∷ []) ≡ cond (nat_eq p q) (Some x) (lookup (nat_eq q) (e ∷ es))
    by b s true t i = (let k = rw t at none in cc)
    by true s false t i =
        let other : nat_eq p q ≡ false = ap (nat_eq p) (same_number q e.0 s) ∙ t in rw (s, other) refl
    by false s false t i = rw s (i (rw t at none))

apart_last : (q p : ℕ) (ks : List ℕ) → AllByRecursion (λ y. nat_eq q y ≡ false) ks → nat_eq q p ≡ false
    → AllByRecursion (λ y. nat_eq q y ≡ false) (ks ++ p ∷ [])
apart_last q p [] a n = (n, tt)
apart_last q p (k ∷ ks) a n = (a.0, apart_last q p ks a.1 n)

distinct_last : (p : ℕ) (ks : List ℕ) → IsDistinct nat_eq ks → AllByRecursion (λ y. nat_eq p y ≡ false) ks → IsDistinct nat_eq (ks ++ p ∷ [])
distinct_last p [] d a = IsDistinct-cons nat_eq p [] tt d
distinct_last p (k ∷ ks) d a = IsDistinct-cons nat_eq k (ks ++ p ∷ []) (apart_last k p ks (IsDistinct-head nat_eq k ks d) (nat_eq_equiv.symm k p ∙ a.0))
    (distinct_last p ks (IsDistinct-tail nat_eq k ks d) a.1)

keys_last : {X : Type 0} (p : ℕ) (x : X) (es : List (ℕ × X)) → keys_of (es ++ (p, x) ∷ []) ≡ keys_of es ++ p ∷ []
keys_last p x [] = refl
keys_last p x (e ∷ es) = ap (λ ks. e.0 ∷ ks) (keys_last p x es)

apart_at : {X : Type 0} (q p i : ℕ) (x : X) (es : List (ℕ × X)) → AllByRecursion (λ y. nat_eq q y ≡ false) (keys_of es) → slice_get es i ≡ Some (p, x)
    → nat_eq q p ≡ false
apart_at q p i x [] a e = cc
apart_at q p zero x (r ∷ es) a e = ap (nat_eq q) (sym (some_pair_parts r.0 p r.1 x e).0) ∙ a.0
apart_at q p (suc i) x (r ∷ es) a e = apart_at q p i x es a.1 e

-- the row of p is put
set_row : {X : Type 0} (p i : ℕ) (x y : X) (es : List (ℕ × X)) → IsDistinct nat_eq (keys_of es) → slice_get es i ≡ Some (p, x)
    → slice_set es i (p, y) ≡ set_value (nat_eq p) es y
set_row p i x y [] d e = cc
set_row p zero x y (r ∷ es) d e =
    let key : r.0 ≡ p = (some_pair_parts r.0 p r.1 x e).0 in
    let t : nat_eq p r.0 ≡ true = ap (nat_eq p) key ∙ number_itself p in rw t (ap (λ k. (k, y) ∷ es) (sym key))
set_row p (suc i) x y (r ∷ es) d e =
    let t : nat_eq p r.0 ≡ false = nat_eq_equiv.symm p r.0 ∙ apart_at r.0 p i x es (IsDistinct-head nat_eq r.0 (keys_of es) d) e in
    rw t (ap (λ z. r ∷ z) (set_row p i x y es (IsDistinct-tail nat_eq r.0 (keys_of es) d) e))

module _ {X : Type 0} where
  pub fresh_table : (n room : ℕ) → n ≡ 131072 → 4096 ≤ room → IsTable {X = X} [] (replicate n None) room
  unfolding IsDistinct
  fresh_table n room is fits = record {
    differ = tt;
    width = long n None ∙ is;
    missing = λ p e. refl;
    found = λ p i e. absurd (none_in n p i e);
    below = λ p b. refl;
    room_fits = fits;
  }
    where
      long : (n : ℕ) (x : Option ℕ) → length (replicate n x) ≡ n
      long zero x = refl
      long (suc n) x = ap suc (long n x)

      none_in : (n p i : ℕ) → slice_get (replicate n None) p ≡ Some (Some i) → ⊥
      none_in zero p i e = cc
      none_in (suc n) zero i e = cc
      none_in (suc n) (suc p) i e = none_in n p i e

  -- the entry of a PID by its row
  pub at_row : (rows : List (ℕ × X)) (index : List (Option ℕ)) (room p i : ℕ) (x : X) → IsTable rows index room → slice_get index p ≡ Some (Some i)
      → slice_get rows i ≡ Some (p, x) → lookup (nat_eq p) rows ≡ Some x
  at_row rows index room p i x t e is = lookup_from_place nat_eq_equiv rows i p x t.differ is

  -- where there is an entry, the index has its row
  pub row_of : (rows : List (ℕ × X)) (index : List (Option ℕ)) (room p : ℕ) (o : Option ℕ) → IsTable rows index room → slice_get index p ≡ Some o
      → IsSome (lookup (nat_eq p) rows) → IsSome o
  row_of rows index room p None t e h = (let k = rw (t.missing p e) at h in cc)
  row_of rows index room p (Some i) t e h = refl

  pub within_index : (rows : List (ℕ × X)) (index : List (Option ℕ)) (room p : ℕ) → IsTable rows index room → IsSome (lookup (nat_eq p) rows) → p < length index
  within_index rows index room p t h = by (cases p)
    where
      cases : (n : ℕ) → (n < 131072) ⊎ (131072 ≤ n)
      cases n = grind arith

      by : (p < 131072) ⊎ (131072 ≤ p) → p < length index
      by (inl b) = (let w = t.width in omega arith)
      by (inr b) = (let k = rw (t.below p b) at h in cc)

  pub added : (rows : List (ℕ × X)) (index : List (Option ℕ)) (room room' p : ℕ) (x : X) → IsTable rows index room → room ≤ room' → p < 131072
      → lookup (nat_eq p) rows ≡ None → IsTable (rows ++ (p, x) ∷ []) (slice_set index p (Some (length rows))) room'
  added rows index room room' p x t more below none = record {
    differ = rw (keys_last p x rows) (distinct_last p (keys_of rows) t.differ (apart_from_none p rows none));
    width = length-set index p (Some (length rows)) ∙ t.width;
    missing = λ q e. missed q e (eqb_tells p q);
    found = λ q i e. find q i e (eqb_tells p q);
    below = λ q b. lookup_last q p x rows none ∙ (let other : nat_eq p q ≡ false = other_number p q (λ s. (let k = below in let s' = s in absurd (omega arith)))
        in rw other (t.below q b));
    room_fits = (let r = t.room_fits in omega arith);
  }
    where
      missed : (q : ℕ) → slice_get (slice_set index p (Some (length rows))) q ≡ Some None → ((nat_eq p q ≡ true) × (p ≡ q)) ⊎ ((nat_eq p q ≡ false) × (p ≢ q))
          → lookup (nat_eq q) (rows ++ (p, x) ∷ []) ≡ None
      missed q e (inl s) = (let w = t.width in let k : slice_get (slice_set index p (Some (length rows))) q ≡ Some (Some (length rows)) = ap
          (slice_get (slice_set index p (Some (length rows)))) (sym s.1) ∙ get_put index p (Some (length rows)) (omega arith) in cc)
      missed q e (inr n) = lookup_last q p x rows none ∙ rw n.0 (t.missing q (sym (get_other index p q (Some (length rows)) n.1) ∙ e))

      find : (q i : ℕ) → slice_get (slice_set index p (Some (length rows))) q ≡ Some (Some i)
          → ((nat_eq p q ≡ true) × (p ≡ q)) ⊎ ((nat_eq p q ≡ false) × (p ≢ q)) → (y : X) × (slice_get (rows ++ (p, x) ∷ []) i ≡ Some (q, y))
      find q i e (inl s) =
          (let w = t.width in let k : slice_get (slice_set index p (Some (length rows))) q ≡ Some (Some (length rows)) = ap
          (slice_get (slice_set index p (Some (length rows)))) (sym s.1) ∙ get_put index p (Some (length rows)) (omega arith) in
          let same : length rows ≡ i = cc in
          (x, ap (slice_get (rows ++ (p, x) ∷ [])) (sym same) ∙ get_last rows (p, x) ∙ ap (λ z. Some (z, x)) s.1))
      find q i e (inr n) = (let was = t.found q i (sym (get_other index p q (Some (length rows)) n.1) ∙ e)
          in (was.0, get_before rows i (q, was.0) (p, x) was.1))

  pub changed : (rows : List (ℕ × X)) (index : List (Option ℕ)) (room p i : ℕ) (x y : X) → IsTable rows index room → slice_get rows i ≡ Some (p, x)
      → IsTable (slice_set rows i (p, y)) index room
  changed rows index room p i x y t is =
      let e = set_row p i x y rows t.differ is in
      record {
        differ = rw e (rw (keys-set_value (nat_eq p) rows y) t.differ);
        width = t.width;
        missing = λ q h. lost q (t.missing q h);
        found = λ q j h. (let was = t.found q j h in find q j was.0 was.1 (eqb_tells i j));
        below = λ q b. lost q (t.below q b);
        room_fits = t.room_fits;
      }
    where
      lost : (q : ℕ) → lookup (nat_eq q) rows ≡ None → lookup (nat_eq q) (slice_set rows i (p, y)) ≡ None
      lost q none =
          let there : lookup (nat_eq p) rows ≡ Some x = lookup_from_place nat_eq_equiv rows i p x t.differ is in
          let ne : p ≢ q = λ s. (let k : Some x ≡ None = sym there ∙ ap (λ z. lookup (nat_eq z) rows) s ∙ none in cc) in
          ap (lookup (nat_eq q)) (set_row p i x y rows t.differ is) ∙ lookup_set p q y rows (rw there refl) ∙ rw (other_number p q ne) none

      find : (q j : ℕ) (z : X) → slice_get rows j ≡ Some (q, z) → ((nat_eq i j ≡ true) × (i ≡ j)) ⊎ ((nat_eq i j ≡ false) × (i ≢ j))
          → (v : X) × (slice_get (slice_set rows i (p, y)) j ≡ Some (q, v))
      find q j z was (inl s) =
          let same : Some (p, x) ≡ Some (q, z) = sym is ∙ ap (slice_get rows) s.1 ∙ was in (
            y,
            ap (slice_get (slice_set rows i (p, y))) (sym s.1) ∙ get_put rows i (p, y) (slice_get_within rows i (p, x) is) ∙ ap (λ k. Some (k, y))
                (some_pair_parts p q x z same).0,
          )
      find q j z was (inr n) = (z, get_other rows i j (p, y) n.1 ∙ was)

  pub found_changed : (rows : List (ℕ × X)) (index : List (Option ℕ)) (room p i : ℕ) (x y : X) → IsTable rows index room → slice_get rows i ≡ Some (p, x)
      → (q : ℕ) → lookup (nat_eq q) (slice_set rows i (p, y)) ≡ cond (nat_eq p q) (Some y) (lookup (nat_eq q) rows)
  found_changed rows index room p i x y t is q =
      ap (lookup (nat_eq q)) (set_row p i x y rows t.differ is) ∙ lookup_set p q y rows
      (let there : lookup (nat_eq p) rows ≡ Some x = lookup_from_place nat_eq_equiv rows i p x t.differ is in rw there refl)

kept_set : {T B : Type 0} (rows : List (ℕ × Entry T B)) (i p : ℕ) (e e' : Entry T B) → slice_get rows i ≡ Some (p, e) → kept_of e' ≡ kept_of e
    → kept_in (slice_set rows i (p, e')) ≡ kept_in rows
kept_set [] i p e e' is same = cc
kept_set (r ∷ rows) zero p e e' is same =
    let parts = some_pair_parts r.0 p r.1 e is in
    λ j. (sym parts.0 j, (same ∙ ap kept_of (sym parts.1)) j) ∷ kept_in rows
kept_set (r ∷ rows) (suc i) p e e' is same = ap (λ z. (r.0, kept_of r.1) ∷ z) (kept_set rows i p e e' is same)

puts : {T B : Type 0} (rows : List (ℕ × Entry T B)) (index : List (Option ℕ)) (room p i : ℕ) (e : Entry T B) (body : Lying T) → IsTable rows index room
    → slice_get rows i ≡ Some (p, e) → Puts rows (slice_set rows i (p, record e { body = body })) p body e.body
puts rows index room p i e body t is = record {
  entry = e;
  at = lookup_from_place nat_eq_equiv rows i p e t.differ is;
  was_is = refl;
  found = found_changed rows index room p i e (record e { body = body }) t is;
  kept = kept_set rows i p e (record e { body = body }) is refl;
  differ = (changed rows index room p i e (record e { body = body }) t is).differ;
}

module _ {X : Type 0} where
  -- the row of p that the index names
  pub record Row (rows : List (ℕ × X)) (p i : ℕ) (row : ℕ × X) : Type 0 where
    pub entry : X
    pub at : slice_get rows i ≡ Some (p, entry)
    pub is : row ≡ (p, entry)

  pub row_read : (rows : List (ℕ × X)) (index : List (Option ℕ)) (room p i : ℕ) (o : Option ℕ) (row : ℕ × X) → IsTable rows index room → p < length index
      → o ≡ get_or index p o → o ≡ Some i → row ≡ get_or rows i row → Row rows p i row
  row_read rows index room p i o row t below read is here =
      let m : slice_get index p ≡ Some (Some i) = slice_get_read index (length index) p o refl below read ∙ ap (λ z. Some z) is in
      let f = t.found p i m in record { entry = f.0; at = f.1; is = here ∙ get_or_from_slice_get rows i (p, f.0) row f.1 }

  pub row_found : (rows old : List (ℕ × X)) (index : List (Option ℕ)) (room p i : ℕ) (o : Option ℕ) (row : ℕ × X) → IsTable rows index room → rows ≡ old
      → p < length index → o ≡ get_or index p o → o ≡ Some i → row ≡ get_or rows i row
      → lookup (nat_eq p) old ≡ Some row.1
  row_found rows old index room p i o row t view below read is here =
      let r = row_read rows index room p i o row t below read is here in
      ap (lookup (nat_eq p)) (sym view) ∙ lookup_from_place nat_eq_equiv rows i p r.entry t.differ r.at ∙ ap (λ z. Some z.1) (sym r.is)

  pub changed_at : (rows old : List (ℕ × X)) (index : List (Option ℕ)) (room p i : ℕ) (o : Option ℕ) (row : ℕ × X) (y : X) → IsTable rows index room
      → rows ≡ old → IsSome (lookup (nat_eq p) old) → o ≡ get_or index p o → o ≡ Some i → row ≡ get_or rows i row
      → IsTable (slice_set rows i (row.0, y)) index room
  changed_at rows old index room p i o row y t view there read is here =
      let r = row_read rows index room p i o row t (within_index rows index room p t (subst (λ z. IsSome (lookup (nat_eq p) z)) (sym view) there)) read is here
      in
      subst (λ k. IsTable (slice_set rows i (k, y)) index room) (sym (ap (λ z. z.0) r.is)) (changed rows index room p i r.entry y t r.at)

module _ {T B : Type 0} where
  pub renews_at : (rows old : List (ℕ × Entry T B)) (index : List (Option ℕ)) (room p i : ℕ) (o : Option ℕ) (row : ℕ × Entry T B) (y : Entry T B)
      → IsTable rows index room → rows ≡ old → IsSome (lookup (nat_eq p) old) → o ≡ get_or index p o → o ≡ Some i → row ≡ get_or rows i row
      → Renews old (slice_set rows i (row.0, y)) p (Some y)
  renews_at rows old index room p i o row y t view there read is here =
      let r = row_read rows index room p i o row t (within_index rows index room p t (subst (λ z. IsSome (lookup (nat_eq p) z)) (sym view) there)) read is here
      in
      subst (λ k. Renews old (slice_set rows i (k, y)) p (Some y)) (sym (ap (λ z. z.0) r.is)) (subst (λ z. Renews z (slice_set rows i (p, y)) p (Some y)) view
      (record { found = found_changed rows index room p i r.entry y t r.at; differ = (changed rows index room p i r.entry y t r.at).differ }))

  pub puts_at : (rows old : List (ℕ × Entry T B)) (index : List (Option ℕ)) (room p i : ℕ) (o : Option ℕ) (row : ℕ × Entry T B) (body dest was : Lying T)
      → IsTable rows index room → rows ≡ old → IsSome (lookup (nat_eq p) old) → o ≡ get_or index p o → o ≡ Some i → row ≡ get_or rows i row
      → dest ≡ body → was ≡ row.1.body → Puts old (slice_set rows i (row.0, record row.1 { body = dest })) p body was
  puts_at rows old index room p i o row body dest was t view there read is here put got =
      let r = row_read rows index room p i o row t (within_index rows index room p t (subst (λ z. IsSome (lookup (nat_eq p) z)) (sym view) there)) read is here
      in
      let base : Puts old (slice_set rows i (p, record r.entry { body = body })) p body r.entry.body = subst
      (λ z. Puts z (slice_set rows i (p, record r.entry { body = body })) p body r.entry.body) view (puts rows index room p i r.entry body t r.at) in
      let as_read : Puts old (slice_set rows i (row.0, record row.1 { body = body })) p body row.1.body = subst
      (λ z. Puts old (slice_set rows i (z.0, record z.1 { body = body })) p body z.1.body) (sym r.is) base in
      subst (λ z. Puts old (slice_set rows i (row.0, record row.1 { body = dest })) p body z) (sym got)
      (subst (λ z. Puts old (slice_set rows i (row.0, record row.1 { body = z })) p body row.1.body) (sym put) as_read)

  pub adds_at : (rows old new : List (ℕ × Entry T B)) (p : ℕ) (x : Entry T B) (index : List (Option ℕ)) (room : ℕ) → IsTable rows index room → rows ≡ old
      → lookup (nat_eq p) old ≡ None → new ≡ rows ++ (p, x) ∷ [] → Renews old new p (Some x)
  adds_at rows old new p x index room t view none is =
      let free : lookup (nat_eq p) rows ≡ None = ap (lookup (nat_eq p)) view ∙ none in
      record {
        found = λ q. ap (lookup (nat_eq q)) is ∙ lookup_last q p x rows free ∙ ap (λ z. cond (nat_eq p q) (Some x) (lookup (nat_eq q) z)) view;
        differ = rw is (rw (keys_last p x rows) (distinct_last p (keys_of rows) t.differ (apart_from_none p rows free)));
      }

  pub added_at : (rows old new : List (ℕ × Entry T B)) (index : List (Option ℕ)) (room room' p slot : ℕ) (x : Entry T B) → IsTable rows index room → rows ≡ old
      → room ≤ room' → p < 131072 → lookup (nat_eq p) old ≡ None → new ≡ rows ++ (p, x) ∷ [] → slot ≡ length rows
      → IsTable new (slice_set index p (Some slot)) room'
  added_at rows old new index room room' p slot x t view more below none is at =
      subst (λ z. IsTable z (slice_set index p (Some slot)) room') (sym is)
      (subst (λ z. IsTable (rows ++ (p, x) ∷ []) (slice_set index p (Some z)) room') (sym at)
      (added rows index room room' p x t more below (ap (lookup (nat_eq p)) view ∙ none)))
