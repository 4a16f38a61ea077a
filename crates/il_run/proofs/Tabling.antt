-- The tables, one routine or object after another, from the last one on.
use Rattle.std.proofs.Common.{◌≡◌, ℕ, suc, ◌+◌, ◌-◌, ◌<◌, ◌≤◌, List, [], ◌∷◌, ◌++◌, length, drop, get_or, ap, subst, sym, ◌∙◌, arith, inl, inr}
use Rattle.std.proofs.Common.{drop-cons, get_or-set_same, get_or-set_other}
use Rattle.std.specs.Prelude.{slice_index, slice_set, replicate, Some}
use Rattle.std.specs.List.{AllByRecursion}
use Rattle.std.proofs.lemmas.Bool.{cases_eq}
use Rattle.std.proofs.lemmas.List.{drop_all, get_or_read, get_or_append_left, get_or_push}
use Rattle.std.proofs.lemmas.Option.{none-some, same_Some}
use Rattle.il_core.specs.Limits.{max_pids}
use Rattle.il_core.specs.Object.{ObjectParts}
use Rattle.il_core.specs.Routine.{RoutineParts}
use Rattle.il_core.specs.Program.{routine_at, words_in, words_of}
use Rattle.il_run.specs.declared.layout.Layout.{Layout}
use Rattle.il_run.specs.Machine.{routine_of}
use Rattle.il_run.specs.Tables.{HasPositions, HasSizes}
use Rattle.il_run.specs.Words.{AreStarts}
use Rattle.il_core.proofs.Found.{all_at}
use Rattle.il_core.proofs.Found.{found_here, found_there}
use Rattle.il_run.proofs.Words.{zeros}

-- at the end of the list there is nothing to find
pub positions_none : (rs : List RoutineParts) (position : List ℕ) (i : ℕ) → length rs ≤ i → HasPositions rs i position
positions_none rs position i le = record { by = λ q r e. absurd (none-some r (sym (ap (λ (xs : List RoutineParts). routine_at xs q) (drop_all i rs le)) ∙ e)) }

-- one routine more
pub positions_more : (rs : List RoutineParts) (x : RoutineParts) (position : List ℕ) (i : ℕ) → i < length rs → x ≡ get_or rs i x → x.pid < length position
    → HasPositions rs (i + 1) position → HasPositions rs i (slice_set position x.pid i)
positions_more rs x position i lt read small h =
    let whole : drop i rs ≡ x ∷ drop (i + 1) rs = drop-cons rs i x lt ∙ ap (λ (y : RoutineParts). y ∷ drop (suc i) rs) (sym read) ∙ ap
    (λ (n : ℕ). x ∷ drop n rs) (let e : suc i ≡ i + 1 = omega arith in e) in
    record {
      by = λ q r e.
          elim (cases_eq x.pid q) [
            | inl same ↦ (
                let is : Some x ≡ Some r = sym (found_here (λ (y : RoutineParts). y.pid) q x (drop (i + 1) rs) same) ∙ ap
                (λ (xs : List RoutineParts). routine_at xs q) (sym whole) ∙ e in
                let place : slice_index (slice_set position x.pid i) q ≡ i = ap (λ (n : ℕ). slice_index (slice_set position x.pid i) n) (sym same) ∙
                get_or-set_same position x.pid i 0 small in (
                  subst (λ (n : ℕ). n < length rs) (sym place) lt,
                  ap (λ (n : ℕ). routine_of rs n) place ∙ sym (get_or_read rs i x lt read _) ∙ same_Some x r
                      is,
                ))
            | inr ne ↦ (
                let is = h.by q r (sym (found_there (λ (y : RoutineParts). y.pid) q x (drop (i + 1) rs) ne) ∙ ap (λ (xs : List RoutineParts). routine_at xs q)
                (sym whole) ∙ e) in
                let place : slice_index (slice_set position x.pid i) q ≡ slice_index position q = get_or-set_other position x.pid q i 0 (λ e1. ne (sym e1)) in
                (subst (λ (n : ℕ). n < length rs) (sym place) is.0, ap (λ (n : ℕ). routine_of rs n) place ∙ is.1))
          ];
    }

pub positions_step : (rs : List RoutineParts) (x : RoutineParts) (position : List ℕ) (i pid : ℕ) → 0 < i → i ≤ length rs → x ≡ get_or rs (i - 1) x → pid ≡ x.pid
    → pid < length position → HasPositions rs i position → HasPositions rs (i - 1) (slice_set position pid (i - 1))
positions_step rs x position i pid some le read is small h =
    subst (λ (n : ℕ). HasPositions rs (i - 1) (slice_set position n (i - 1))) (sym is)
    (positions_more rs x position (i - 1) (omega arith) read (omega arith) (subst (λ (n : ℕ). HasPositions rs n position) (omega arith) h))

pub positions_whole : (rs : List RoutineParts) (position : List ℕ) (i : ℕ) → i ≤ 0 → HasPositions rs i position → HasPositions rs 0 position
positions_whole rs position i le h = subst (λ (n : ℕ). HasPositions rs n position) (omega arith) h

pub sizes_whole : (os : List ObjectParts) (sizes : List ℕ) (i : ℕ) → i ≤ 0 → HasSizes os i sizes → HasSizes os 0 sizes
sizes_whole os sizes i le h = subst (λ (n : ℕ). HasSizes os n sizes) (omega arith) h

pub sizes_none : (os : List ObjectParts) (sizes : List ℕ) (n i : ℕ) → sizes ≡ replicate n 0 → length os ≤ i → HasSizes os i sizes
sizes_none os sizes n i e le = record {
  by = λ g. ap (λ (xs : List ℕ). slice_index xs g) e ∙ zeros n g ∙ sym
      (ap (λ (xs : List ObjectParts). words_of xs g) (drop_all i os le));
}

-- one object more
pub sizes_more : (os : List ObjectParts) (x : ObjectParts) (sizes : List ℕ) (i : ℕ) → i < length os → x ≡ get_or os i x → x.pid < length sizes
    → HasSizes os (i + 1) sizes → HasSizes os i (slice_set sizes x.pid x.words)
sizes_more os x sizes i lt read small h =
    let whole : drop i os ≡ x ∷ drop (i + 1) os = drop-cons os i x lt ∙ ap (λ (y : ObjectParts). y ∷ drop (suc i) os) (sym read) ∙ ap (λ (n : ℕ). x ∷ drop n os)
    (let e : suc i ≡ i + 1 = omega arith in e) in
    record {
      by = λ g.
          (elim (cases_eq x.pid g) [
            | inl same ↦ ap (λ (n : ℕ). slice_index (slice_set sizes x.pid x.words) n) (sym same) ∙ get_or-set_same sizes x.pid x.words 0 small ∙ sym
                (ap words_in (found_here (λ (y : ObjectParts). y.pid) g x (drop (i + 1) os) same))
            | inr ne ↦ get_or-set_other sizes x.pid g x.words 0 (λ e1. ne (sym e1)) ∙ h.by g ∙ sym
                (ap words_in (found_there (λ (y : ObjectParts). y.pid) g x (drop (i + 1) os) ne))
          ])
          ∙ ap (λ (xs : List ObjectParts). words_of xs g) (sym whole);
    }

pub sizes_step : (os : List ObjectParts) (x : ObjectParts) (sizes : List ℕ) (i pid words : ℕ) → 0 < i → i ≤ length os → x ≡ get_or os (i - 1) x → pid ≡ x.pid
    → words ≡ x.words → pid < length sizes → HasSizes os i sizes → HasSizes os (i - 1) (slice_set sizes pid words)
sizes_step os x sizes i pid words some le read is isw small h =
    subst (λ (n : ℕ). HasSizes os (i - 1) (slice_set sizes n words)) (sym is)
    (subst (λ (n : ℕ). HasSizes os (i - 1) (slice_set sizes x.pid n)) (sym isw)
    (sizes_more os x sizes (i - 1) (omega arith) read (omega arith) (subst (λ (n : ℕ). HasSizes os n sizes) (omega arith) h)))

pub small_at : (os : List ObjectParts) (x : ObjectParts) (i : ℕ) → AllByRecursion (λ o. o.pid < max_pids) os → i < length os → x ≡ get_or os i x
    → x.pid < max_pids
small_at os x i all lt read = subst (λ (o : ObjectParts). o.pid < max_pids) (sym read) (all_at (λ (o : ObjectParts). o.pid < max_pids) os i x all lt)

-- the layouts of the first routines
pub record LayoutsTo (rs : List RoutineParts) (n : ℕ) (layouts : List Layout) : Type 0 where
  pub count : length layouts ≡ n
  pub each : (i : ℕ) (l : Layout) → i < n → l ≡ get_or layouts i l → (l.sizes.items ≡ (routine_of rs i).arrays) × AreStarts l.sizes.items l.starts.items

pub layouts_more : (rs : List RoutineParts) (n : ℕ) (layouts now : List Layout) (x : Layout) → LayoutsTo rs n layouts → now ≡ layouts ++ x ∷ []
    → x.sizes.items ≡ (routine_of rs n).arrays → AreStarts x.sizes.items x.starts.items → LayoutsTo rs (n + 1) now
layouts_more rs n layouts now x h e sizes starts = record {
  count = ap length e ∙ Rattle.std.proofs.lemmas.List.length_push layouts x ∙ ap (λ (k : ℕ). k + 1) h.count;
  each = λ i l lt read.
      let here : l ≡ get_or (layouts ++ x ∷ []) i l = read ∙ ap (λ (ls : List Layout). get_or ls i l) e in
      elim (cases_eq i n) [
        | inl same ↦ (
            let is : l ≡ x = here ∙ ap (λ (k : ℕ). get_or (layouts ++ x ∷ []) k l) same ∙ get_or_push layouts x l n h.count in (
              ap (λ (y : Layout). y.sizes.items) is ∙ sizes ∙ ap (λ (k : ℕ). (routine_of rs k).arrays) (sym same),
              subst
                  (λ (y : Layout). AreStarts y.sizes.items y.starts.items) (sym is) starts,
            ))
        | inr ne ↦ h.each i l (omega arith) (here ∙ get_or_append_left layouts (x ∷ []) l i (omega (arith, h.count)))
      ];
}
