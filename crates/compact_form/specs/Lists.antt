-- Lists of items, one after another, and what a reader and a form owe each other.
use Rattle.std.proofs.Common.{◌≡◌, ℕ, zero, suc, ◌<◌, ◌≤◌, ◌^◌, Bool, true, false, List, [], ◌∷◌, ◌++◌, length, Some, None, refl, sym, ◌∙◌, ap, subst}
use Rattle.std.proofs.Common.{arith, append-nil, append_assoc}
use Rattle.std.specs.Prelude.{nat_le, if◌then◌else◌}
use Rattle.std.specs.List.{AllByRecursion}
use Rattle.std.proofs.lemmas.Bool.{le-leb, leb-true}
use Rattle.compact_form.specs.Numbers.{forms, spelled}
use Rattle.compact_form.specs.Compact.{counted}
use Rattle.compact_form.specs.Reading.{Reply, goes, read_list, list_up_to, read_counted, read_number}
use Rattle.compact_form.specs.Spellings.{complete, sound}

abbrev pub first_or : {A : Type 0} → Reply A → A → A
first_or None d = d
first_or (Some x) d = x.0

abbrev pub rest_or : {A : Type 0} → Reply A → List ℕ → List ℕ
rest_or None d = d
rest_or (Some x) d = x.1

pub same_reply : {A : Type 0} (x y : A) (us vs : List ℕ) → ◌≡◌ {A = Reply A} (Some (x, us)) (Some (y, vs)) → (x ≡ y) × (us ≡ vs)
same_reply x y us vs h = (ap (λ r. first_or r x) h, ap (λ r. rest_or r us) h)

pub goes_back : {A B : Type 0} (reply : Reply A) (go : A → List ℕ → Reply B) (z : B × List ℕ) → goes reply go ≡ Some z
    → (x : A) × (rest : List ℕ) × (reply ≡ Some (x, rest)) × (go x rest ≡ Some z)
goes_back None go z h = absurd (cc)
goes_back (Some x) go z h = (x.0, x.1, refl, h)

pub kept_back : {B : Type 0} (b : Bool) (r : Reply B) (z : B × List ℕ) → (if b then r else None) ≡ Some z → (b ≡ true) × (r ≡ Some z)
kept_back true r z h = (refl, h)
kept_back false r z h = absurd (cc)

-- the reader gives exactly the values of which ok holds, each from its form
pub record Reads {A : Type 0} (p : List ℕ → Reply A) (form : A → List ℕ) (ok : A → Type 0) : Type 0 where
  pub complete : (x : A) (rest : List ℕ) → ok x → p (form x ++ rest) ≡ Some (x, rest)
  pub sound : (bs : List ℕ) (x : A) (rest : List ℕ) → p bs ≡ Some (x, rest) → (bs ≡ form x ++ rest) × ok x

pub reads_number : Reads read_number spelled (λ n. n < 2 ^ 32)
reads_number = record { complete = λ n rest lt. complete n rest lt; sound = λ bs n rest h. sound bs n rest h }

module _ {A : Type 0} (p : List ℕ → Reply A) (form : A → List ℕ) (ok : A → Type 0) (reads : Reads p form ok) where
  pub list_complete : (xs : List A) (rest : List ℕ) → AllByRecursion ok xs → read_list p (length xs) (forms form xs ++ rest) ≡ Some (xs, rest)
  list_complete [] rest h = refl
  list_complete (x ∷ xs) rest h =
      ap (λ bs. read_list p (length (x ∷ xs)) bs) (append_assoc (form x) (forms form xs) rest)
      ∙ ap (λ r. goes r (λ y us. goes (read_list p (length xs) us) (λ ys vs. Some (y ∷ ys, vs)))) (reads.complete x (forms form xs ++ rest) h.0)
      ∙ ap (λ r. goes r (λ ys vs. Some (x ∷ ys, vs))) (list_complete xs rest h.1)

  pub record ListRead (n : ℕ) (bs : List ℕ) (xs : List A) (rest : List ℕ) : Type 0 where
    pub split : bs ≡ forms form xs ++ rest
    pub all : AllByRecursion ok xs
    pub count : length xs ≡ n

  pub list_sound : (n : ℕ) (bs : List ℕ) (xs : List A) (rest : List ℕ) → read_list p n bs ≡ Some (xs, rest) → ListRead n bs xs rest
  list_sound zero bs xs rest h =
      let same = same_reply [] xs bs rest h in
      subst (λ ys. ListRead zero bs ys rest) same.0 (record { split = same.1; all = tt; count = refl })
  list_sound (suc n) bs xs rest h =
      let a = goes_back (p bs) (λ y us. goes (read_list p n us) (λ ys vs. Some (y ∷ ys, vs))) (xs, rest) h in
      let first = reads.sound bs a.0 a.1 a.2 in
      let b = goes_back (read_list p n a.1) (λ ys vs. Some (a.0 ∷ ys, vs)) (xs, rest) a.3 in
      let others = list_sound n a.1 b.0 b.1 b.2 in
      let same = same_reply (a.0 ∷ b.0) xs b.1 rest b.3 in
      subst (λ ys. ListRead (suc n) bs ys rest) same.0 (record {
        split = first.0 ∙ ap (λ l. form a.0 ++ l) (others.split ∙ ap (λ l. forms form b.0 ++ l) same.1) ∙ sym (append_assoc (form a.0) (forms form b.0) rest);
        all = (first.1, others.all);
        count = ap suc others.count;
      })

  -- a list of at most so many items
  abbrev IsListUpTo : ℕ → List A → Type 0
  IsListUpTo most xs = AllByRecursion ok xs × (length xs ≤ most)

  pub reads_counted : (most : ℕ) → most < 2 ^ 32 → Reads (read_counted p most) (counted form) (λ xs. AllByRecursion ok xs × (length xs ≤ most))
  reads_counted most fits = record {
    complete = λ xs rest h.
        ap (read_counted p most) (append_assoc (spelled (length xs)) (forms form xs) rest)
        ∙ ap (λ r. goes r (λ n us. list_up_to p most n us)) (complete (length xs) (forms form xs ++ rest) (omega (arith, h.1)))
        ∙ ap (λ b. if b then read_list p (length xs) (forms form xs ++ rest) else None) (le-leb (length xs) most h.1)
        ∙ list_complete xs rest h.0;
    sound = λ bs xs rest h.
        let a = goes_back (read_number bs) (λ n us. list_up_to p most n us) (xs, rest) h in
        let first = sound bs a.0 a.1 a.2 in
        let b = kept_back (nat_le a.0 most) (read_list p a.0 a.1) (xs, rest) a.3 in
        let others = list_sound a.0 a.1 xs rest b.1 in (
          first.0 ∙ ap (λ l. spelled a.0 ++ l) others.split ∙ ap (λ n. spelled n ++ (forms form xs ++ rest)) (sym others.count) ∙ sym
              (append_assoc (spelled (length xs)) (forms form xs) rest),
          (others.all, omega (arith, others.count, leb-true a.0 most b.0)),
        );
  }

-- ---- reading in a loop

-- what was read of so many items, and what is left
pub record SoFar {A : Type 0} (p : List ℕ → Reply A) (count left : ℕ) (bs rest : List ℕ) (xs : List A) : Type 0 where
  pub reading : read_list p count bs ≡ goes (read_list p left rest) (λ ys us. Some (xs ++ ys, us))

pub nothing_yet : (A : Type 0) (p : List ℕ → Reply A) (count : ℕ) (bs : List ℕ) (xs : List A) → xs ≡ [] → SoFar p count count bs bs xs
nothing_yet A p count bs xs e = record { reading = from (read_list p count bs) ∙ ap (λ l. goes (read_list p count bs) (λ ys us. Some (l ++ ys, us))) (sym e) }
  where
    from : (r : Reply (List A)) → r ≡ goes r (λ ys us. Some ([] ++ ys, us))
    from None = refl
    from (Some x) = refl

pub one_more : (A : Type 0) (p : List ℕ → Reply A) (count left less : ℕ) (bs rest behind : List ℕ) (xs new : List A) (x : A) → SoFar p count left bs rest xs
    → left ≡ suc less → p rest ≡ Some (x, behind) → new ≡ xs ++ x ∷ [] → SoFar p count less bs behind new
one_more A p count left less bs rest behind xs new x h is read grown = record {
  reading = h.reading
      ∙ ap (λ n. goes (read_list p n rest) (λ ys us. Some (xs ++ ys, us))) is
      ∙ ap (λ r. goes (goes r (λ y us. goes (read_list p less us) (λ ys vs. Some (y ∷ ys, vs)))) (λ ys us. Some (xs ++ ys, us))) read
      ∙ from (read_list p less behind);
}
  where
    from : (r : Reply (List A)) → goes (goes r (λ ys vs. Some (x ∷ ys, vs))) (λ ys us. Some (xs ++ ys, us)) ≡ goes r (λ ys us. Some (new ++ ys, us))
    from None = refl
    from (Some z) = ap (λ l. Some (l, z.1)) (sym (append_assoc xs (x ∷ []) z.0) ∙ ap (λ l. l ++ z.0) (sym grown))

pub missing : {A : Type 0} (p : List ℕ → Reply A) (count left less : ℕ) (bs rest : List ℕ) (xs : List A) → SoFar p count left bs rest xs → left ≡ suc less
    → p rest ≡ None → read_list p count bs ≡ None
missing p count left less bs rest xs h is read =
    h.reading
    ∙ ap (λ n. goes (read_list p n rest) (λ ys us. Some (xs ++ ys, us))) is
    ∙ ap (λ r. goes (goes r (λ y us. goes (read_list p less us) (λ ys vs. Some (y ∷ ys, vs)))) (λ ys us. Some (xs ++ ys, us))) read

pub all_read : {A : Type 0} (p : List ℕ → Reply A) (count left : ℕ) (bs rest : List ℕ) (xs : List A) → SoFar p count left bs rest xs → left ≡ 0
    → read_list p count bs ≡ Some (xs, rest)
all_read p count left bs rest xs h is =
    h.reading
    ∙ ap (λ n. goes (read_list p n rest) (λ ys us. Some (xs ++ ys, us))) is
    ∙ ap (λ l. Some (l, rest)) (append-nil xs)

-- a list within its bound
pub within : {A : Type 0} (p : List ℕ → Reply A) (most count : ℕ) (bs : List ℕ) (r : Reply (List A)) → count ≤ most → read_list p count bs ≡ r
    → list_up_to p most count bs ≡ r
within p most count bs r le h = ap (λ b. if b then read_list p count bs else None) (le-leb count most le) ∙ h

pub list_count : {A : Type 0} (p : List ℕ → Reply A) (n : ℕ) (bs : List ℕ) (xs : List A) (rest : List ℕ) → read_list p n bs ≡ Some (xs, rest) → length xs ≡ n
list_count p zero bs xs rest h = ap length (sym (same_reply [] xs bs rest h).0)
list_count p (suc n) bs xs rest h =
    let a = goes_back (p bs) (λ y us. goes (read_list p n us) (λ ys vs. Some (y ∷ ys, vs))) (xs, rest) h in
    let b = goes_back (read_list p n a.1) (λ ys vs. Some (a.0 ∷ ys, vs)) (xs, rest) a.3 in
    let same = same_reply (a.0 ∷ b.0) xs b.1 rest b.3 in
    ap length (sym same.0) ∙ ap suc (list_count p n a.1 b.0 b.1 b.2)

pub few : {A : Type 0} (p : List ℕ → Reply A) (most n : ℕ) (bs : List ℕ) (xs : List A) (rest : List ℕ) → list_up_to p most n bs ≡ Some (xs, rest)
    → length xs ≤ most
few p most n bs xs rest h =
    let b = kept_back (nat_le n most) (read_list p n bs) (xs, rest) h in
    omega (arith, list_count p n bs xs rest b.1, leb-true n most b.0)
