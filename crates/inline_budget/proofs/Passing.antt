-- What passing on that a level is known does to the tables.
use Rattle.std.proofs.Common.{◌≡◌, ℕ, ◌+◌, ◌-◌, ◌<◌, ◌≤◌, List, [], ◌∷◌, ◌++◌, length, Bool, true, false, refl, ap, subst, sym, ◌∙◌, arith, eqb-true, eq-eqb}
use Rattle.std.specs.Prelude.{max, nat_eq, ◌||◌, if◌then◌else◌, sum_by}
use Rattle.std.specs.List.{AllByRecursion}
use Rattle.std.proofs.lemmas.List.{length-set, length-append, append-nil, append_assoc}
use Rattle.std.proofs.lemmas.List.Sums.{sum_by-set}
use Rattle.inline_budget.specs.Calls.{only_if, shares, number_at, has_number, IsOnce}
use Rattle.inline_budget.specs.Levelling.{lowered, lowered_all, risen, risen_all, noted, noted_all}
use Rattle.inline_budget.proofs.Tables.{same_bad, set_is, set_here, set_there, all_set, has_append, once_push}

pub lowered_at : (xs ts : List ℕ) (z : ℕ) → AllByRecursion (λ y. y < length ts) xs → ((y : ℕ) → shares 1 y xs ≤ number_at ts y)
    → number_at (lowered_all ts xs) z + shares 1 z xs ≡ number_at ts z
lowered_at [] ts z h few = omega arith
lowered_at (x ∷ xs) ts z h few =
    here (nat_eq x z) refl (lowered_at xs (lowered ts x) z (all_set ts x (number_at ts x - 1) xs h.1) (λ y. fewer y (nat_eq x y) refl))
  where
    is : (y : ℕ) (b : Bool) → nat_eq x y ≡ b → number_at (lowered ts x) y ≡ (if b then number_at ts x - 1 else number_at ts y)
    is y b e = set_is ts x (number_at ts x - 1) y h.0 ∙ ap (λ (k : Bool). if k then number_at ts x - 1 else number_at ts y) e

    most : (y : ℕ) (b : Bool) → nat_eq x y ≡ b → only_if b 1 + shares 1 y xs ≤ number_at ts y
    most y b e = subst (λ (k : Bool). only_if k 1 + shares 1 y xs ≤ number_at ts y) e (few y)

    fewer : (y : ℕ) (b : Bool) → nat_eq x y ≡ b → shares 1 y xs ≤ number_at (lowered ts x) y
    fewer y true e =
        let at : number_at (lowered ts x) y ≡ number_at ts x - 1 = is y true e in
        let there : number_at ts x ≡ number_at ts y = ap (λ (k : ℕ). number_at ts k) (eqb-true x y e) in
        let le : 1 + shares 1 y xs ≤ number_at ts y = most y true e in
        omega arith
    fewer y false e =
        let at : number_at (lowered ts x) y ≡ number_at ts y = is y false e in
        let le : 0 + shares 1 y xs ≤ number_at ts y = most y false e in
        omega arith

    here : (b : Bool) → nat_eq x z ≡ b → number_at (lowered_all (lowered ts x) xs) z + shares 1 z xs ≡ number_at (lowered ts x) z
        → number_at (lowered_all (lowered ts x) xs) z + (only_if (nat_eq x z) 1 + shares 1 z xs) ≡ number_at ts z
    here true e rest =
        let at : number_at (lowered ts x) z ≡ number_at ts x - 1 = is z true e in
        let there : number_at ts x ≡ number_at ts z = ap (λ (k : ℕ). number_at ts k) (eqb-true x z e) in
        let le : 1 + shares 1 z xs ≤ number_at ts z = most z true e in
        let one : only_if (nat_eq x z) 1 ≡ 1 = ap (λ (k : Bool). only_if k 1) e in
        omega arith
    here false e rest =
        let at : number_at (lowered ts x) z ≡ number_at ts z = is z false e in
        let one : only_if (nat_eq x z) 1 ≡ 0 = ap (λ (k : Bool). only_if k 1) e in
        omega arith

-- levels that rise

module _ (l : ℕ) where
  risen_is : (ls : List ℕ) (x z : ℕ) (b : Bool) → x < length ls → nat_eq x z ≡ b
      → number_at (risen ls l x) z ≡ (if b then max (number_at ls x) l else number_at ls z)
  risen_is ls x z b lt e =
      set_is ls x (max (number_at ls x) l) z lt ∙ ap (λ (k : Bool). if k then max (number_at ls x) l else number_at ls z) e

  pub risen_most : (B : ℕ → ℕ) (xs ls : List ℕ) → AllByRecursion (λ y. y < length ls) xs → ((z : ℕ) → number_at ls z ≤ B z)
      → AllByRecursion (λ y. l ≤ B y) xs → (z : ℕ) → number_at (risen_all ls l xs) z ≤ B z
  risen_most B [] ls h low top z = low z
  risen_most B (x ∷ xs) ls h low top z =
      risen_most B xs (risen ls l x) (all_set ls x (max (number_at ls x) l) xs h.1) (λ y. one y (nat_eq x y) refl) top.1 z
    where
      one : (y : ℕ) (b : Bool) → nat_eq x y ≡ b → number_at (risen ls l x) y ≤ B y
      one y true e =
          let at : number_at (risen ls l x) y ≡ max (number_at ls x) l = risen_is ls x y true h.0 e in
          let there : B x ≡ B y = ap B (eqb-true x y e) in
          let le = low x in
          let bound = top.0 in
          omega arith
      one y false e =
          let at : number_at (risen ls l x) y ≡ number_at ls y = risen_is ls x y false h.0 e in
          let le = low y in
          omega arith

  pub risen_grows : (xs ls : List ℕ) (z : ℕ) → AllByRecursion (λ y. y < length ls) xs → number_at ls z ≤ number_at (risen_all ls l xs) z
  risen_grows [] ls z h = omega arith
  risen_grows (x ∷ xs) ls z h =
      one (nat_eq x z) refl (risen_grows xs (risen ls l x) z (all_set ls x (max (number_at ls x) l) xs h.1))
    where
      one : (b : Bool) → nat_eq x z ≡ b → number_at (risen ls l x) z ≤ number_at (risen_all (risen ls l x) l xs) z
          → number_at ls z ≤ number_at (risen_all (risen ls l x) l xs) z
      one true e rest =
          let at : number_at (risen ls l x) z ≡ max (number_at ls x) l = risen_is ls x z true h.0 e in
          let there : number_at ls x ≡ number_at ls z = ap (λ (k : ℕ). number_at ls k) (eqb-true x z e) in
          omega arith
      one false e rest = let at : number_at (risen ls l x) z ≡ number_at ls z = risen_is ls x z false h.0 e in omega arith

  pub risen_hits : (xs ls : List ℕ) → AllByRecursion (λ y. y < length ls) xs → AllByRecursion (λ y. l ≤ number_at (risen_all ls l xs) y) xs
  risen_hits [] ls h = tt
  risen_hits (x ∷ xs) ls h =
      let inside = all_set ls x (max (number_at ls x) l) xs h.1 in
      let at : number_at (risen ls l x) x ≡ max (number_at ls x) l = set_here ls x (max (number_at ls x) l) h.0 in
      let grows = risen_grows xs (risen ls l x) x inside in
      (omega arith, risen_hits xs (risen ls l x) inside)

  pub risen_length : (xs ls : List ℕ) → length (risen_all ls l xs) ≡ length ls
  risen_length [] ls = refl
  risen_length (x ∷ xs) ls = risen_length xs (risen ls l x) ∙ length-set ls x (max (number_at ls x) l)

-- the routines noted are those that have no call left
pub record IsNoted (n : ℕ) (ts ks : List ℕ) : Type 0 where
  pub zero : (z : ℕ) → has_number ks z ≡ true → (z < n) × (number_at ts z ≡ 0)
  pub ready : (z : ℕ) → z < n → number_at ts z ≡ 0 → has_number ks z ≡ true
  pub once : IsOnce ks

pub record IsFront (ks js : List ℕ) : Type 0 where
  pub more : List ℕ
  pub is : js ≡ ks ++ more

pub record Passed (n : ℕ) (ts ks us js : List ℕ) : Type 0 where
  pub size : length us ≡ n
  pub noted : IsNoted n us js
  pub front : IsFront ks js
  pub less : sum_by (λ t. t) us + length js ≤ sum_by (λ t. t) ts + length ks

pass_one : (n : ℕ) (ts ks : List ℕ) (x : ℕ) → length ts ≡ n → x < n → 0 < number_at ts x → IsNoted n ts ks
    → Passed n ts ks (lowered ts x) (noted (lowered ts x) ks x)
pass_one n ts ks x size lt some h = by_test (nat_eq (number_at (lowered ts x) x) 0) refl
  where
    below : x < length ts
    below = omega arith

    here : number_at (lowered ts x) x ≡ number_at ts x - 1
    here = set_here ts x (number_at ts x - 1) below

    there : (z : ℕ) → (z ≡ x → ⊥) → number_at (lowered ts x) z ≡ number_at ts z
    there z ne = set_there ts x (number_at ts x - 1) z ne

    absent : has_number ks x ≡ false
    absent = by_has (has_number ks x) refl
      where
        by_has : (b : Bool) → has_number ks x ≡ b → b ≡ false
        by_has true e = let none = (h.zero x e).1 in absurd (omega arith)
        by_has false e = refl

    sums : sum_by (λ t. t) (lowered ts x) + number_at ts x ≡ sum_by (λ t. t) ts + (number_at ts x - 1)
    sums = sum_by-set (λ t. t) ts x (number_at ts x - 1) 0 below

    long : length (lowered ts x) ≡ n
    long = length-set ts x (number_at ts x - 1) ∙ size

    other : (z : ℕ) → has_number ks z ≡ true → z ≡ x → ⊥
    other z e same = let bad : true ≡ false = sym e ∙ ap (λ (k : ℕ). has_number ks k) same ∙ absent in absurd cc

    zero_more : nat_eq (number_at (lowered ts x) x) 0 ≡ true → (z : ℕ) (b : Bool) → nat_eq x z ≡ b → (has_number ks z || b) ≡ true
        → (z < n) × (number_at (lowered ts x) z ≡ 0)
    zero_more e z true ez has =
        let same = eqb-true x z ez in
        (omega arith, ap (λ (k : ℕ). number_at (lowered ts x) k) (sym same) ∙ eqb-true (number_at (lowered ts x) x) 0 e)
    zero_more e z false ez has =
        let old = h.zero z (sym (or_none (has_number ks z)) ∙ has) in
        (old.0, there z (λ same. same_bad true x z ez (sym same)) ∙ old.1)
      where
        or_none : (b : Bool) → (b || false) ≡ b
        or_none true = refl
        or_none false = refl

    ready_more : (z : ℕ) (b : Bool) → nat_eq x z ≡ b → z < n → number_at (lowered ts x) z ≡ 0 → (has_number ks z || b) ≡ true
    ready_more z true ez less none = or_true (has_number ks z)
      where
        or_true : (b : Bool) → (b || true) ≡ true
        or_true true = refl
        or_true false = refl
    ready_more z false ez less none =
        ap (λ (b : Bool). b || false) (h.ready z less (sym (there z (λ same. same_bad true x z ez (sym same))) ∙ none))

    ready_same : nat_eq (number_at (lowered ts x) x) 0 ≡ false → (z : ℕ) → z < n → number_at (lowered ts x) z ≡ 0 → has_number ks z ≡ true
    ready_same e z less none =
        h.ready z less (sym (there z (λ same. (let bad : true ≡ false =
        sym (eq-eqb (number_at (lowered ts x) x) 0 (ap (λ (k : ℕ). number_at (lowered ts x) k) (sym same) ∙ none)) ∙ e in absurd cc))) ∙ none)

    by_test : (b : Bool) → nat_eq (number_at (lowered ts x) x) 0 ≡ b → Passed n ts ks (lowered ts x) (if b then ks ++ x ∷ [] else ks)
    by_test true e =
        let more : length (ks ++ x ∷ []) ≡ length ks + 1 = length-append ks (x ∷ []) in
        let fewer = sums in
        record {
          size = long;
          noted = record {
            zero = λ z has. zero_more e z (nat_eq x z) refl (sym (has_append ks x z) ∙ has);
            ready = λ z less none. has_append ks x z ∙ ready_more z (nat_eq x z) refl less none;
            once = once_push ks x h.once absent;
          };
          front = record { more = x ∷ []; is = refl };
          less = omega arith;
        }
    by_test false e =
        let fewer = sums in
        record {
          size = long;
          noted = record {
            zero = λ z has. ((h.zero z has).0, there z (other z has) ∙ (h.zero z has).1);
            ready = ready_same e;
            once = h.once;
          };
          front = record { more = []; is = sym (append-nil ks) };
          less = omega arith;
        }

pub pass_all : (n : ℕ) (xs ts ks : List ℕ) → length ts ≡ n → AllByRecursion (λ y. y < n) xs → ((y : ℕ) → shares 1 y xs ≤ number_at ts y)
    → IsNoted n ts ks → Passed n ts ks (lowered_all ts xs) (noted_all ts ks xs)
pass_all n [] ts ks size h few noted = record { size = size; noted = noted; front = record { more = []; is = sym (append-nil ks) }; less = omega arith }
pass_all n (x ∷ xs) ts ks size h few g =
    let p = pass_one n ts ks x size h.0 some g in
    join p (pass_all n xs (lowered ts x) (noted (lowered ts x) ks x) p.size h.1 (λ y. fewer y (nat_eq x y) refl) p.noted)
  where
    below : x < length ts
    below = let lt = h.0 in omega arith

    some : 0 < number_at ts x
    some =
        let le : only_if (nat_eq x x) 1 + shares 1 x xs ≤ number_at ts x = few x in
        let one : only_if (nat_eq x x) 1 ≡ 1 = ap (λ (k : Bool). only_if k 1) (eq-eqb x x refl) in
        omega arith

    fewer : (y : ℕ) (b : Bool) → nat_eq x y ≡ b → shares 1 y xs ≤ number_at (lowered ts x) y
    fewer y true e =
        let at : number_at (lowered ts x) y ≡ number_at ts x - 1
        = set_is ts x (number_at ts x - 1) y below ∙ ap (λ (k : Bool). if k then number_at ts x - 1 else number_at ts y) e in
        let there : number_at ts x ≡ number_at ts y = ap (λ (k : ℕ). number_at ts k) (eqb-true x y e) in
        let le : 1 + shares 1 y xs ≤ number_at ts y = subst (λ (k : Bool). only_if k 1 + shares 1 y xs ≤ number_at ts y) e (few y) in
        omega arith
    fewer y false e =
        let at : number_at (lowered ts x) y ≡ number_at ts y
        = set_is ts x (number_at ts x - 1) y below ∙ ap (λ (k : Bool). if k then number_at ts x - 1 else number_at ts y) e in
        let le : 0 + shares 1 y xs ≤ number_at ts y = subst (λ (k : Bool). only_if k 1 + shares 1 y xs ≤ number_at ts y) e (few y) in
        omega arith

    join : Passed n ts ks (lowered ts x) (noted (lowered ts x) ks x)
        → Passed n (lowered ts x) (noted (lowered ts x) ks x) (lowered_all (lowered ts x) xs) (noted_all (lowered ts x) (noted (lowered ts x) ks x) xs)
        → Passed n ts ks (lowered_all (lowered ts x) xs) (noted_all (lowered ts x) (noted (lowered ts x) ks x) xs)
    join p q =
        let one = p.less in
        let two = q.less in
        record {
          size = q.size;
          noted = q.noted;
          front = record {
            more = p.front.more ++ q.front.more;
            is = q.front.is ∙ ap (λ (js : List ℕ). js ++ q.front.more) p.front.is ∙ append_assoc ks p.front.more q.front.more;
          };
          less = omega arith;
        }
