-- Links that lead through slots, after a slot was taken out or put first.
use Rattle.std.proofs.Common.{◌≡◌, ℕ, zero, suc, ◌<◌, ◌≤◌, false, nat_eq, List, [], ◌∷◌, ◌++◌, reverse, replicate, length, get_or, Some, refl, sym, ap}
use Rattle.std.proofs.Common.{subst, arith, ◌∙◌, append_assoc, append-nil}
use Rattle.std.specs.Cmp.{nat_eq_equiv}
use Rattle.std.specs.List.{IsDistinct, AllByRecursion, slice_get, slice_set}
use Rattle.std.proofs.lemmas.List.{reverse-append, length-set, length-replicate}
use Rattle.std.proofs.lemmas.Map.Keys.{IsDistinct-cons, IsDistinct-head, IsDistinct-tail, IsDistinct-from_apart}
use Rattle.std.proofs.lemmas.Option.{slice_get-get_or, get_or_from_slice_get}
use Rattle.list_laws.proofs.Elements.{get_set, all_added}
use Rattle.list_laws.proofs.Entries.{other_number, apart_number}
use Rattle.naim_core.specs.Links.{Chain, IsRing}

-- the number is none of these
abbrev pub Apart : ℕ → List ℕ → Type 0
Apart i xs = AllByRecursion (λ k. nat_eq i k ≡ false) xs

-- the last of a ∷ xs
abbrev pub last_of : ℕ → List ℕ → ℕ
last_of a [] = a
last_of a (x ∷ xs) = last_of x xs

-- the first of xs ++ b
abbrev pub first_of : ℕ → List ℕ → ℕ
first_of b [] = b
first_of b (x ∷ xs) = x

get_other : (xs : List ℕ) (i j v : ℕ) → nat_eq i j ≡ false → slice_get (slice_set xs i v) j ≡ slice_get xs j
get_other [] i j v d = refl
get_other (x ∷ xs) zero zero v d = cc
get_other (x ∷ xs) zero (suc j) v d = refl
get_other (x ∷ xs) (suc i) zero v d = refl
get_other (x ∷ xs) (suc i) (suc j) v d = get_other xs i j v (other_number i j (λ s. apart_number (suc i) (suc j) d (ap suc s)))

turned : (i j : ℕ) → nat_eq i j ≡ false → nat_eq j i ≡ false
turned i j d = nat_eq_equiv.symm j i ∙ d

-- parts of statements on all elements
pub all_left : (P : ℕ → Type 0) (xs ys : List ℕ) → AllByRecursion P (xs ++ ys) → AllByRecursion P xs
all_left P [] ys h = tt
all_left P (x ∷ xs) ys h = (h.0, all_left P xs ys h.1)

pub all_right : (P : ℕ → Type 0) (xs ys : List ℕ) → AllByRecursion P (xs ++ ys) → AllByRecursion P ys
all_right P [] ys h = h
all_right P (x ∷ xs) ys h = all_right P xs ys h.1

all_both : (P : ℕ → Type 0) (xs ys : List ℕ) → AllByRecursion P xs → AllByRecursion P ys → AllByRecursion P (xs ++ ys)
all_both P [] ys h k = k
all_both P (x ∷ xs) ys h k = (h.0, all_both P xs ys h.1 k)

pub all_back : (P : ℕ → Type 0) (xs : List ℕ) → AllByRecursion P xs → AllByRecursion P (reverse xs)
all_back P [] h = tt
all_back P (x ∷ xs) h = subst (AllByRecursion P) (sym (reverse-append (x ∷ []) xs)) (all_added P (reverse xs) x (all_back P xs h.1) h.0)

all_turned : (i : ℕ) (xs : List ℕ) → Apart i xs → AllByRecursion (λ k. nat_eq k i ≡ false) xs
all_turned i [] h = tt
all_turned i (x ∷ xs) h = (turned i x h.0, all_turned i xs h.1)

-- distinct numbers
nothing_differs : IsDistinct nat_eq []
nothing_differs = IsDistinct-from_apart nat_eq [] (λ i j d lt h. absurd (omega arith))

distinct_left : (xs ys : List ℕ) → IsDistinct nat_eq (xs ++ ys) → IsDistinct nat_eq xs
distinct_left [] ys d = nothing_differs
distinct_left (x ∷ xs) ys d = IsDistinct-cons nat_eq x xs (all_left (λ k. nat_eq x k ≡ false) xs ys (IsDistinct-head nat_eq x (xs ++ ys) d))
    (distinct_left xs ys (IsDistinct-tail nat_eq x (xs ++ ys) d))

distinct_without : (xs : List ℕ) (i : ℕ) (ys : List ℕ) → IsDistinct nat_eq (xs ++ i ∷ ys) → IsDistinct nat_eq (xs ++ ys)
distinct_without [] i ys d = IsDistinct-tail nat_eq i ys d
distinct_without (x ∷ xs) i ys d =
    let head = IsDistinct-head nat_eq x (xs ++ i ∷ ys) d in let P : ℕ → Type 0 = λ k. nat_eq x k ≡ false in
    IsDistinct-cons nat_eq x (xs ++ ys) (all_both P xs ys (all_left P xs (i ∷ ys) head) (all_right P xs (i ∷ ys) head).1)
    (distinct_without xs i ys (IsDistinct-tail nat_eq x (xs ++ i ∷ ys) d))

distinct_added : (xs : List ℕ) (i : ℕ) → IsDistinct nat_eq xs → Apart i xs → IsDistinct nat_eq (xs ++ i ∷ [])
distinct_added [] i d a = IsDistinct-cons nat_eq i [] tt nothing_differs
distinct_added (x ∷ xs) i d a = IsDistinct-cons nat_eq x (xs ++ i ∷ [])
    (all_added (λ k. nat_eq x k ≡ false) xs i (IsDistinct-head nat_eq x xs d) (turned i x a.0)) (distinct_added xs i (IsDistinct-tail nat_eq x xs d) a.1)

distinct_back : (xs : List ℕ) → IsDistinct nat_eq xs → IsDistinct nat_eq (reverse xs)
distinct_back [] d = nothing_differs
distinct_back (x ∷ xs) d = subst (IsDistinct nat_eq) (sym (reverse-append (x ∷ []) xs))
    (distinct_added (reverse xs) x (distinct_back xs (IsDistinct-tail nat_eq x xs d)) (all_back (λ k. nat_eq x k ≡ false) xs (IsDistinct-head nat_eq x xs d)))

-- the ends are no slot
ends_apart : (e : ℕ) (xs : List ℕ) → AllByRecursion (λ i. i < e) xs → Apart e xs
ends_apart e [] h = tt
ends_apart e (x ∷ xs) h = (other_number e x (λ s. let k = h.0 in omega arith), ends_apart e xs h.1)

-- lists from the back
back_split : (ys : List ℕ) (i : ℕ) (zs : List ℕ) → reverse (ys ++ i ∷ zs) ≡ reverse zs ++ i ∷ reverse ys
back_split ys i zs = reverse-append ys (i ∷ zs) ∙ ap (λ l. l ++ reverse ys) (reverse-append (i ∷ []) zs) ∙ append_assoc (reverse zs) (i ∷ []) (reverse ys)

last_added : (a : ℕ) (xs : List ℕ) (x : ℕ) → last_of a (xs ++ x ∷ []) ≡ x
last_added a [] x = refl
last_added a (y ∷ xs) x = last_added y xs x

first_added : (b : ℕ) (xs : List ℕ) (x : ℕ) → first_of b (xs ++ x ∷ []) ≡ first_of x xs
first_added b [] x = refl
first_added b (y ∷ xs) x = refl

last_back : (e : ℕ) (xs : List ℕ) → last_of e (reverse xs) ≡ first_of e xs
last_back e [] = refl
last_back e (x ∷ xs) = ap (last_of e) (reverse-append (x ∷ []) xs) ∙ last_added e (reverse xs) x

first_back : (e : ℕ) (xs : List ℕ) → first_of e (reverse xs) ≡ last_of e xs
first_back e [] = refl
first_back e (x ∷ xs) = ap (first_of e) (reverse-append (x ∷ []) xs) ∙ first_added e (reverse xs) x ∙ first_back x xs

-- chains
chain_split : (links : List ℕ) (a : ℕ) (ys : List ℕ) (i : ℕ) (zs : List ℕ) (b : ℕ) → Chain links a (ys ++ i ∷ zs) b → Chain links a ys i × Chain links i zs b
chain_split links a [] i zs b h = h
chain_split links a (y ∷ ys) i zs b h = let k = chain_split links y ys i zs b h.1 in ((h.0, k.0), k.1)

chain_join : (links : List ℕ) (a : ℕ) (ys : List ℕ) (i : ℕ) (zs : List ℕ) (b : ℕ) → Chain links a ys i → Chain links i zs b → Chain links a (ys ++ i ∷ zs) b
chain_join links a [] i zs b h k = (h, k)
chain_join links a (y ∷ ys) i zs b h k = (h.0, chain_join links y ys i zs b h.1 k)

pub chain_first : (links : List ℕ) (a : ℕ) (xs : List ℕ) (b : ℕ) → Chain links a xs b → slice_get links a ≡ Some (first_of b xs)
chain_first links a [] b h = h
chain_first links a (x ∷ xs) b h = h.0

-- a link that is none of the chain's has changed
chain_set : (links : List ℕ) (a : ℕ) (xs : List ℕ) (b j v : ℕ) → nat_eq j a ≡ false → Apart j xs → Chain links a xs b → Chain (slice_set links j v) a xs b
chain_set links a [] b j v d apart h = get_other links j a v d ∙ h
chain_set links a (x ∷ xs) b j v d apart h = (get_other links j a v d ∙ h.0, chain_set links x xs b j v apart.0 apart.1 h.1)

last_apart : (i a : ℕ) (xs : List ℕ) → nat_eq i a ≡ false → Apart i xs → nat_eq i (last_of a xs) ≡ false
last_apart i a [] d h = d
last_apart i a (x ∷ xs) d h = last_apart i x xs h.0 h.1

-- the last link leads elsewhere
chain_turned : (links : List ℕ) (a : ℕ) (xs : List ℕ) (b c : ℕ) → IsDistinct nat_eq (a ∷ xs) → Chain links a xs b
    → Chain (slice_set links (last_of a xs) c) a xs c
chain_turned links a [] b c d h = get_set links a b c h
chain_turned links a (x ∷ xs) b c d h =
    let head = IsDistinct-head nat_eq a (x ∷ xs) d in (
      get_other links (last_of x xs) a c (turned a (last_of x xs) (last_apart a x xs head.0 head.1)) ∙ h.0,
      chain_turned links x xs b c
          (IsDistinct-tail nat_eq a (x ∷ xs) d) h.1,
    )

last_before : (a : ℕ) (xs ys : List ℕ) → IsDistinct nat_eq (a ∷ (xs ++ ys)) → Apart (last_of a xs) ys
last_before a [] ys d = IsDistinct-head nat_eq a ys d
last_before a (x ∷ xs) ys d = last_before x xs ys (IsDistinct-tail nat_eq a (x ∷ (xs ++ ys)) d)

-- a slot is passed over
chain_out : (links : List ℕ) (e : ℕ) (ys : List ℕ) (i : ℕ) (zs : List ℕ) (b : ℕ) → IsDistinct nat_eq (e ∷ (ys ++ i ∷ zs)) → Chain links e (ys ++ i ∷ zs) b →
    Chain (slice_set links (last_of e ys) (first_of b zs)) e (ys ++ zs) b
chain_out links e ys i [] b d h =
    let k = chain_split links e ys i [] b h in
    subst (λ l. Chain (slice_set links (last_of e ys) b) e l b) (sym (append-nil ys)) (chain_turned links e ys i b (distinct_left (e ∷ ys) (i ∷ []) d) k.0)
chain_out links e ys i (z ∷ zs) b d h =
    let k = chain_split links e ys i (z ∷ zs) b h in
    let apart = (last_before e ys (i ∷ z ∷ zs) d).1 in
    chain_join (slice_set links (last_of e ys) z) e ys z zs b (chain_turned links e ys i z (distinct_left (e ∷ ys) (i ∷ z ∷ zs) d) k.0)
    (chain_set links z zs b (last_of e ys) z apart.0 apart.1 k.1.1)

-- the links lead from elsewhere
chain_from : (links new : List ℕ) (a i : ℕ) (xs : List ℕ) (b : ℕ) → ((x : ℕ) (ys : List ℕ) → xs ≡ x ∷ ys → Chain links x ys b → Chain new x ys b)
    → slice_get new i ≡ Some (first_of b xs) → Chain links a xs b → Chain new i xs b
chain_from links new a i [] b f at h = at
chain_from links new a i (x ∷ xs) b f at h = (at, f x xs refl h.1)

distinct_ends : (e : ℕ) (xs : List ℕ) → AllByRecursion (λ i. i < e) xs → IsDistinct nat_eq xs → IsDistinct nat_eq (e ∷ xs)
distinct_ends e xs below d = IsDistinct-cons nat_eq e xs (ends_apart e xs below) d

-- a slot has been taken out
pub ring_out : (behind before ys : List ℕ) (i : ℕ) (zs : List ℕ) → IsRing behind before (ys ++ i ∷ zs) →
    IsRing (slice_set behind (last_of 4096 ys) (first_of 4096 zs)) (slice_set before (first_of 4096 zs) (last_of 4096 ys)) (ys ++ zs)
ring_out behind before ys i zs r =
    let all = ys ++ i ∷ zs in
    let Below : ℕ → Type 0 = λ k. k < 4096 in
    let turn = back_split ys i zs in
    let back = subst (λ l. Chain before 4096 l 4096) turn r.back in
    let differ = subst (λ l. IsDistinct nat_eq (4096 ∷ l)) turn (distinct_ends 4096 (reverse all) (all_back Below all r.below) (distinct_back all r.differ)) in
    let out = chain_out before 4096 (reverse zs) i (reverse ys) 4096 differ back in
    let out' = subst (λ n. Chain (slice_set before n (first_of 4096 (reverse ys))) 4096 (reverse zs ++ reverse ys) 4096) (last_back 4096 zs) out in
    let out'' = subst (λ n. Chain (slice_set before (first_of 4096 zs) n) 4096 (reverse zs ++ reverse ys) 4096) (first_back 4096 ys) out' in
    record {
      forth = chain_out behind 4096 ys i zs 4096 (distinct_ends 4096 all r.below r.differ) r.forth;
      back = subst (λ l. Chain (slice_set before (first_of 4096 zs) (last_of 4096 ys)) 4096 l 4096) (sym (reverse-append ys zs)) out'';
      below = all_both Below ys zs (all_left Below ys (i ∷ zs) r.below) (all_right Below ys (i ∷ zs) r.below).1;
      differ = distinct_without ys i zs r.differ;
      behind_sized = length-set behind (last_of 4096 ys) (first_of 4096 zs) ∙ r.behind_sized;
      before_sized = length-set before (first_of 4096 zs) (last_of 4096 ys) ∙ r.before_sized;
    }

-- a slot has been put first
pub ring_in : (behind before xs : List ℕ) (i : ℕ) → IsRing behind before xs → Apart i xs → i < 4096 →
    IsRing (slice_set (slice_set behind i (first_of 4096 xs)) 4096 i) (slice_set (slice_set before (first_of 4096 xs) i) i 4096) (i ∷ xs)
ring_in behind before xs i r apart fits =
    let Below : ℕ → Type 0 = λ k. k < 4096 in
    let ends : nat_eq i 4096 ≡ false = other_number i 4096 (λ s. omega arith) in
    let ends' = turned i 4096 ends in
    let f = first_of 4096 xs in
    let mid = slice_set behind i f in
    let new = slice_set mid 4096 i in
    let far = ends_apart 4096 xs r.below in
    let back = chain_turned before 4096 (reverse xs) 4096 i (distinct_ends 4096 (reverse xs) (all_back Below xs r.below) (distinct_back xs r.differ)) r.back in
    let back' = subst (λ n. Chain (slice_set before n i) 4096 (reverse xs) i) (last_back 4096 xs) back in
    let back'' = chain_set (slice_set before f i) 4096 (reverse xs) i i 4096 ends (all_back (λ k. nat_eq i k ≡ false) xs apart) back' in
    let sized : length (slice_set before f i) ≡ 4097 = length-set before f i ∙ r.before_sized in
    let end = get_set (slice_set before f i) i _ 4096 (slice_get-get_or (slice_set before f i) i 0 (omega arith)) in
    let first = chain_first behind 4096 xs 4096 r.forth in
    record {
      forth = (
        get_set mid 4096 f i (get_other behind i 4096 f ends ∙ first),
        chain_from behind new 4096 i xs 4096
            (λ x ys is h. let a = subst (Apart i) is apart in let b = subst (Apart 4096) is far in chain_set mid x ys 4096 4096 i b.0 b.1
            (chain_set behind x ys 4096 i f a.0 a.1 h))
            (get_other mid 4096 i i ends' ∙ get_set behind i _ f (slice_get-get_or behind i 0 (let s = r.behind_sized in omega arith)))
            r.forth,
      );
      back = subst (λ l. Chain (slice_set (slice_set before f i) i 4096) 4096 l 4096) (sym (reverse-append (i ∷ []) xs))
          (chain_join (slice_set (slice_set before f i) i 4096) 4096 (reverse xs) i [] 4096 back'' end);
      below = (fits, r.below);
      differ = IsDistinct-cons nat_eq i xs apart r.differ;
      behind_sized = length-set mid 4096 i ∙ length-set behind i f ∙ r.behind_sized;
      before_sized = length-set (slice_set before f i) i 4096 ∙ sized;
    }

-- no slots
pub ring_new : (n : ℕ) → n ≡ 4097 → IsRing (replicate n 4096) (replicate n 4096) []
ring_new n is = let end : slice_get (replicate n 4096) 4096 ≡ Some 4096 = all_same n 4096 4096 (omega arith) in record {
  forth = end;
  back = end;
  below = tt;
  differ = nothing_differs;
  behind_sized = length-replicate n 4096 ∙ is;
  before_sized = length-replicate n 4096 ∙ is;
}
  where
    all_same : (n v i : ℕ) → i < n → slice_get (replicate n v) i ≡ Some v
    all_same zero v i h = absurd (omega arith)
    all_same (suc n) v zero h = refl
    all_same (suc n) v (suc i) h = all_same n v i (omega arith)

-- what stands behind a slot and before it
pub behind_is : (behind before ys : List ℕ) (i : ℕ) (zs : List ℕ) → IsRing behind before (ys ++ i ∷ zs) → slice_get behind i ≡ Some (first_of 4096 zs)
behind_is behind before ys i zs r = chain_first behind i zs 4096 (chain_split behind 4096 ys i zs 4096 r.forth).1

pub before_is : (behind before ys : List ℕ) (i : ℕ) (zs : List ℕ) → IsRing behind before (ys ++ i ∷ zs) → slice_get before i ≡ Some (last_of 4096 ys)
before_is behind before ys i zs r =
    let back = subst (λ l. Chain before 4096 l 4096) (back_split ys i zs) r.back in
    chain_first before i (reverse ys) 4096 (chain_split before 4096 (reverse zs) i (reverse ys) 4096 back).1 ∙ ap (λ n. Some n) (first_back 4096 ys)

pub first_within : (xs : List ℕ) → AllByRecursion (λ i. i < 4096) xs → first_of 4096 xs ≤ 4096
first_within [] h = omega arith
first_within (x ∷ xs) h = let k = h.0 in omega arith

pub last_within : (a : ℕ) (xs : List ℕ) → a ≤ 4096 → AllByRecursion (λ i. i < 4096) xs → last_of a xs ≤ 4096
last_within a [] s h = s
last_within a (x ∷ xs) s h = last_within x xs (let k = h.0 in omega arith) h.1

-- what is read at a place where something stands
pub read_is : (xs : List ℕ) (i x r : ℕ) → slice_get xs i ≡ Some x → r ≡ get_or xs i r → x ≡ r
read_is xs i x r h e = sym (e ∙ get_or_from_slice_get xs i x r h)
