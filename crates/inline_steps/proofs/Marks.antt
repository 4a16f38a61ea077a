-- A table with a mark for each PID that has a summary.
use Rattle.std.proofs.Common.{◌≡◌, ◌≢◌, ◌<◌, ◌≤◌, ◌+◌, ℕ, zero, suc, Bool, true, false, nat_eq, nat_lt, List, [], ◌∷◌, length, map, drop, get_or}
use Rattle.std.proofs.Common.{replicate, refl, sym, ap, subst, arith, le-ltb, ◌∙◌}
use Rattle.std.specs.Prelude.{◌||◌, if◌then◌else◌, is_some, slice_index_or, slice_set, Some}
use Rattle.std.specs.List.{AllByRecursion}
use Rattle.std.proofs.lemmas.List.{drop_all}
use Rattle.list_laws.proofs.Elements.{all_drop, drop_read}
use Rattle.list_laws.proofs.Entries.{apart_number, same_number}
use Rattle.list_laws.proofs.Tests.{or_yes}
use Rattle.call_graph.specs.Summaries.{summary_of}
use Rattle.call_graph.specs.declared.summary.Summary.{Summary as Told}
use Rattle.plan_laws.specs.Summary.{Summary, summary_at}
use Rattle.inline_steps.specs.Linking.{mark_at}

mark_here : (bs : List Bool) (p : ℕ) → p < length bs → mark_at (slice_set bs p true) p ≡ true
mark_here [] p lt = absurd (omega arith)
mark_here (b ∷ bs) zero lt = refl
mark_here (b ∷ bs) (suc p) lt = mark_here bs p (omega arith)

mark_other : (bs : List Bool) (p q : ℕ) → p ≢ q → mark_at (slice_set bs p true) q ≡ mark_at bs q
mark_other [] zero q d = refl
mark_other [] (suc p) q d = refl
mark_other (b ∷ bs) zero zero d = absurd (d refl)
mark_other (b ∷ bs) zero (suc q) d = refl
mark_other (b ∷ bs) (suc p) zero d = refl
mark_other (b ∷ bs) (suc p) (suc q) d = mark_other bs p q (λ e. d (ap suc e))

set_mark : (bs : List Bool) (p q : ℕ) → p < length bs → mark_at (slice_set bs p true) q ≡ (nat_eq p q || mark_at bs q)
set_mark bs p q lt = by (nat_eq p q) refl
  where
    by : (t : Bool) → nat_eq p q ≡ t → mark_at (slice_set bs p true) q ≡ (t || mark_at bs q)
    by true e = ap (mark_at (slice_set bs p true)) (sym (same_number p q e)) ∙ mark_here bs p lt
    by false e = mark_other bs p q (apart_number p q e)

no_mark : (n q : ℕ) → mark_at (replicate n false) q ≡ false
no_mark zero q = refl
no_mark (suc n) zero = refl
no_mark (suc n) (suc q) = no_mark n q

or_none : (b : Bool) → (b || false) ≡ b
or_none true = refl
or_none false = refl

-- nothing is marked yet
pub marks_first : (n : ℕ) (ss : List Summary) (q : ℕ) → (mark_at (replicate n false) q || is_some (summary_at ss q)) ≡ is_some (summary_at ss q)
marks_first n ss q = ap (λ (b : Bool). b || is_some (summary_at ss q)) (no_mark n q)

-- one more is
pub marks_next : (bs : List Bool) (s : Summary) (ss : List Summary) (q : ℕ) (t : Bool) → s.pid < length bs
    → (mark_at bs q || is_some (summary_at (s ∷ ss) q)) ≡ t → (mark_at (slice_set bs s.pid true) q || is_some (summary_at ss q)) ≡ t
marks_next bs s ss q t lt h = ap (λ (b : Bool). b || is_some (summary_at ss q)) (set_mark bs s.pid q lt) ∙ by (nat_eq s.pid q) ∙ h
  where
    by : (b : Bool) → ((b || mark_at bs q) || is_some (summary_at ss q)) ≡ (mark_at bs q || is_some (if b then Some s else summary_at ss q))
    by true = sym (or_yes (mark_at bs q))
    by false = refl

-- the summaries one after the other
module _ (xs : List Told) (i : ℕ) (x : Told) (within : i < length xs) (is : x ≡ get_or xs i x) where
  pub told_below : (n : ℕ) → AllByRecursion (λ r. r.pid < n) xs → x.pid < n
  told_below n h = (subst (AllByRecursion (λ (r : Told). r.pid < n)) (drop_read xs i x within is) (all_drop (λ (r : Told). r.pid < n) i xs h)).0

  pub marks_on : (bs : List Bool) (q : ℕ) (t : Bool) → x.pid < length bs
      → (mark_at bs q || is_some (summary_at (map summary_of (drop i xs)) q)) ≡ t
      → (mark_at (slice_set bs x.pid true) q || is_some (summary_at (map summary_of (drop (i + 1) xs)) q)) ≡ t
  marks_on bs q t lt h =
      marks_next bs (summary_of x) (map summary_of (drop (i + 1) xs)) q t lt
      (ap (λ (l : List Told). mark_at bs q || is_some (summary_at (map summary_of l) q)) (sym (drop_read xs i x within is)) ∙ h)

-- all are
pub marks_last : (bs : List Bool) (xs : List Told) (i q : ℕ) (t : Bool) → length xs ≤ i
    → (mark_at bs q || is_some (summary_at (map summary_of (drop i xs)) q)) ≡ t → mark_at bs q ≡ t
marks_last bs xs i q t past h =
    sym (ap (λ (l : List Told). mark_at bs q || is_some (summary_at (map summary_of l) q)) (drop_all i xs past) ∙ or_none (mark_at bs q)) ∙ h

-- a mark is read, or none is there
pub mark_read : (bs : List Bool) (n : ℕ) → slice_index_or bs n false ≡ mark_at bs n
mark_read [] zero = refl
mark_read [] (suc n) = refl
mark_read (b ∷ bs) zero = refl
mark_read (b ∷ bs) (suc n) = mark_read bs n

no_more : (bs : List Bool) (n : ℕ) → length bs ≤ n → mark_at bs n ≡ false
no_more [] n le = refl
no_more (b ∷ bs) zero le = absurd (omega arith)
no_more (b ∷ bs) (suc n) le = no_more bs n (omega arith)

pub mark_past : (bs : List Bool) (n : ℕ) → length bs ≤ n → nat_lt n (length bs) ≡ mark_at bs n
mark_past bs n le = le-ltb n (length bs) le ∙ sym (no_more bs n le)
