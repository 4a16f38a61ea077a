-- Groups have different keys, and each has exactly the sites with its key.
use Rattle.std.proofs.Common.{◌≡◌, ℕ, ◌+◌, List, [], ◌∷◌, map, Bool, true, false, refl, ap, ap₂, sym, ◌∙◌, eqb-true, eq-eqb}
use Rattle.std.specs.Prelude.{◌&&◌, nat_eq, if◌then◌else◌, filter, ⊤}
use Rattle.std.specs.List.{AllByRecursion}
use Rattle.il_laws.specs.Clone.{Fixed}
use Rattle.list_laws.proofs.Tests.{and_first, and_second}
use Rattle.plan_laws.specs.Orders.{inserted, sorted}
use Rattle.plan_laws.specs.Summary.{Summary, CallSite}
use Rattle.plan_laws.specs.Groups.{fixed_of, same_fixed, Group, Member, has_key, member_of, joined, may_move, grouped, group_before}
use Rattle.plan_laws.proofs.GroupsFit.{inserted_all, sorted_all}
use Rattle.plan_laws.proofs.Retargets.{same_fixed_is}

pub true_false : (b : Bool) → b ≡ true → b ≡ false → ⊥
true_false b e g = let bad : true ≡ false = sym e ∙ g in absurd cc

pub not_true : (b : Bool) → (b ≡ true → ⊥) → b ≡ false
not_true true h = absurd (h refl)
not_true false h = refl

-- keys
abbrev pub is_key : ℕ → List Fixed → ℕ → List Fixed → Bool
is_key a f b g = nat_eq a b && same_fixed f g

same_itself : (xs : List Fixed) → same_fixed xs xs ≡ true
same_itself [] = refl
same_itself (x ∷ xs) =
    ap (λ (b : Bool). b && nat_eq x.word.0 x.word.0 && same_fixed xs xs) (eq-eqb x.param x.param refl)
    ∙ ap (λ (b : Bool). b && same_fixed xs xs) (eq-eqb x.word.0 x.word.0 refl) ∙ same_itself xs

pub key_itself : (a : ℕ) (f : List Fixed) → is_key a f a f ≡ true
key_itself a f = ap (λ (b : Bool). b && same_fixed f f) (eq-eqb a a refl) ∙ same_itself f

pub record SameKey (a : ℕ) (f : List Fixed) (b : ℕ) (g : List Fixed) : Type 0 where
  pub callee : a ≡ b
  pub fixed : f ≡ g

pub key_is : (a : ℕ) (f : List Fixed) (b : ℕ) (g : List Fixed) → is_key a f b g ≡ true → SameKey a f b g
key_is a f b g e =
    record {
      callee = eqb-true a b (and_first (nat_eq a b) (same_fixed f g) e);
      fixed = same_fixed_is f g (and_second (nat_eq a b) (same_fixed f g) e);
    }

pub key_made : (a : ℕ) (f : List Fixed) (b : ℕ) (g : List Fixed) → SameKey a f b g → is_key a f b g ≡ true
key_made a f b g s = ap₂ {A = ℕ} {B = List Fixed} {C = Bool} (λ x y. is_key a f x y) (sym s.callee) (sym s.fixed) ∙ key_itself a f

pub key_turned : (a : ℕ) (f : List Fixed) (b : ℕ) (g : List Fixed) → is_key a f b g ≡ false → is_key b g a f ≡ false
key_turned a f b g e =
    not_true (is_key b g a f) (λ t. (let s = key_is b g a f t in
    true_false (is_key a f b g) (key_made a f b g (record { callee = sym s.callee; fixed = sym s.fixed })) e))

-- no group has this key
abbrev pub NoneHas : ℕ → List Fixed → List Group → Type 0
NoneHas c f gs = AllByRecursion (λ h. has_key c f h ≡ false) gs

-- groups with different keys
abbrev pub Differ : List Group → Type 0
Differ [] = ⊤
Differ (g ∷ gs) = NoneHas g.callee g.fixed gs × Differ gs

module _ (x : CallSite) (fx : List Fixed) where
  join_if : (P : List Group → Type 0) (b : Bool) (g : Group) (gs hs : List Group)
      → (b ≡ true → P (record g { members = member_of x ∷ g.members; count = x.site.count + g.count } ∷ gs)) → (b ≡ false → P (g ∷ hs))
      → P (if b then record g { members = member_of x ∷ g.members; count = x.site.count + g.count } ∷ gs else g ∷ hs)
  join_if P true g gs hs h k = h refl
  join_if P false g gs hs h k = k refl

  none_joined : (c : ℕ) (f : List Fixed) → is_key x.site.callee fx c f ≡ false → (gs : List Group) → NoneHas c f gs → NoneHas c f (joined x fx gs)
  none_joined c f e [] h = (e, tt)
  none_joined c f e (g ∷ gs) h =
      join_if (NoneHas c f) (has_key x.site.callee fx g) g gs (joined x fx gs) (λ b. (h.0, h.1)) (λ b. (h.0, none_joined c f e gs h.1))

  differ_joined : (gs : List Group) → Differ gs → Differ (joined x fx gs)
  differ_joined [] h = (tt, tt)
  differ_joined (g ∷ gs) h =
      join_if Differ (has_key x.site.callee fx g) g gs (joined x fx gs) (λ b. (h.0, h.1))
      (λ b. (none_joined g.callee g.fixed (key_turned g.callee g.fixed x.site.callee fx b) gs h.0, differ_joined gs h.1))

-- an order keeps keys different
differ_inserted : (g : Group) (gs : List Group) → NoneHas g.callee g.fixed gs → Differ gs → Differ (inserted group_before g gs)
differ_inserted g [] n d = (tt, tt)
differ_inserted g (h ∷ hs) n d =
    either (group_before h g) (inserted group_before g hs)
    (inserted_all (λ z. has_key h.callee h.fixed z ≡ false) group_before g hs (key_turned h.callee h.fixed g.callee g.fixed n.0) d.0)
    (differ_inserted g hs n.1 d.1)
  where
    either : (b : Bool) (zs : List Group) → NoneHas h.callee h.fixed zs → Differ zs → Differ (if b then h ∷ zs else g ∷ h ∷ hs)
    either true zs m e = (m, e)
    either false zs m e = (n, d)

pub differ_sorted : (gs : List Group) → Differ gs → Differ (sorted group_before gs)
differ_sorted [] d = tt
differ_sorted (g ∷ gs) d =
    differ_inserted g (sorted group_before gs) (sorted_all (λ z. has_key g.callee g.fixed z ≡ false) group_before gs d.0) (differ_sorted gs d.1)

-- what holds of all in order holds of all
inserted_back : (P : Group → Type 0) (g : Group) (gs : List Group) → AllByRecursion P (inserted group_before g gs) → P g × AllByRecursion P gs
inserted_back P g [] h = (h.0, tt)
inserted_back P g (x ∷ xs) h =
    either (group_before x g) (inserted group_before g xs) (λ k. inserted_back P g xs k) h
  where
    either : (b : Bool) (zs : List Group) → (AllByRecursion P zs → P g × AllByRecursion P xs)
        → AllByRecursion P (if b then x ∷ zs else g ∷ x ∷ xs) → P g × AllByRecursion P (x ∷ xs)
    either true zs k a = (let r = k a.1 in (r.0, (a.0, r.1)))
    either false zs k a = (a.0, a.1)

pub sorted_back : (P : Group → Type 0) (gs : List Group) → AllByRecursion P (sorted group_before gs) → AllByRecursion P gs
sorted_back P [] h = tt
sorted_back P (g ∷ gs) h = (let r = inserted_back P g (sorted group_before gs) h in (r.0, sorted_back P gs r.1))

-- the members of the first group with a key
abbrev if_key : Bool → List Member → List Member → List Member
if_key b ms ns = if b then ms else ns

abbrev pub members_at : ℕ → List Fixed → List Group → List Member
members_at c f [] = []
members_at c f (g ∷ gs) = if_key (has_key c f g) g.members (members_at c f gs)

module _ (x : CallSite) (fx : List Fixed) (c : ℕ) (f : List Fixed) where
  abbrev here : Bool
  here = is_key x.site.callee fx c f

  join_at : (gs : List Group) → members_at c f (joined x fx gs) ≡ if_key here (member_of x ∷ members_at c f gs) (members_at c f gs)
  join_at [] = refl
  join_at (g ∷ gs) = by_test (has_key x.site.callee fx g) refl (join_at gs)
    where
      met : (k l : Bool) → l ≡ k → if_key k (member_of x ∷ g.members) (members_at c f gs)
          ≡ if_key l (member_of x ∷ if_key k g.members (members_at c f gs)) (if_key k g.members (members_at c f gs))
      met true true e = refl
      met true false e = absurd cc
      met false true e = absurd cc
      met false false e = refl

      passed : (k l : Bool) → (k ≡ true → l ≡ false) → (ns : List Member) → ns ≡ if_key l (member_of x ∷ members_at c f gs) (members_at c f gs)
          → if_key k g.members ns ≡ if_key l (member_of x ∷ if_key k g.members (members_at c f gs)) (if_key k g.members (members_at c f gs))
      passed true true h ns e = absurd (true_false true refl (h refl))
      passed true false h ns e = refl
      passed false true h ns e = e
      passed false false h ns e = e

      by_test : (b : Bool) → has_key x.site.callee fx g ≡ b
          → members_at c f (joined x fx gs) ≡ if_key here (member_of x ∷ members_at c f gs) (members_at c f gs)
          → members_at c f (if b then record g { members = member_of x ∷ g.members; count = x.site.count + g.count } ∷ gs else g ∷ joined x fx gs)
          ≡ if_key here (member_of x ∷ members_at c f (g ∷ gs)) (members_at c f (g ∷ gs))
      by_test true e rest =
          let s = key_is g.callee g.fixed x.site.callee fx e in
          met (has_key c f g) here
          (ap₂ {A = ℕ} {B = List Fixed} {C = Bool} (λ a h. is_key a h c f) (sym s.callee) (sym s.fixed))
      by_test false e rest =
          passed (has_key c f g) here
          (λ t. not_true here (λ u. (let s = key_is g.callee g.fixed c f t in
          let r = key_is x.site.callee fx c f u in
          true_false (has_key x.site.callee fx g)
          (key_made g.callee g.fixed x.site.callee fx (record { callee = s.callee ∙ sym r.callee; fixed = s.fixed ∙ sym r.fixed })) e)))
          (members_at c f (joined x fx gs)) rest

-- with different keys each group is the first with its key
pub members_first : (gs : List Group) → Differ gs → AllByRecursion (λ g. members_at g.callee g.fixed gs ≡ g.members) gs
members_first [] d = tt
members_first (g ∷ gs) d =
    (ap (λ (b : Bool). if_key b g.members (members_at g.callee g.fixed gs)) (key_itself g.callee g.fixed), later gs d.0 (members_first gs d.1))
  where
    later : (hs : List Group) → NoneHas g.callee g.fixed hs → AllByRecursion (λ h. members_at h.callee h.fixed gs ≡ h.members) hs
        → AllByRecursion (λ h. members_at h.callee h.fixed (g ∷ gs) ≡ h.members) hs
    later [] n a = tt
    later (h ∷ hs) n a = (
      ap (λ (b : Bool). if_key b g.members (members_at h.callee h.fixed gs)) (key_turned h.callee h.fixed g.callee g.fixed n.0) ∙ a.0,
      later hs n.1 a.1,
    )

module _ (ss : List Summary) (main : ℕ) where
  -- whether a site has a key and may move
  abbrev pub with_key : ℕ → List Fixed → CallSite → Bool
  with_key c f x = may_move ss main x && is_key x.site.callee (fixed_of ss x) c f

  pub differ_grouped : (xs : List CallSite) → Differ (grouped ss main xs)
  differ_grouped [] = tt
  differ_grouped (x ∷ xs) = by_test (may_move ss main x) (differ_grouped xs)
    where
      by_test : (b : Bool) → Differ (grouped ss main xs) → Differ (if b then joined x (fixed_of ss x) (grouped ss main xs) else grouped ss main xs)
      by_test true d = differ_joined x (fixed_of ss x) (grouped ss main xs) d
      by_test false d = d

  pub members_are : (c : ℕ) (f : List Fixed) (xs : List CallSite)
      → members_at c f (grouped ss main xs) ≡ map member_of (filter (with_key c f) xs)
  members_are c f [] = refl
  members_are c f (x ∷ xs) = by_test (may_move ss main x) (is_key x.site.callee (fixed_of ss x) c f) refl (members_are c f xs)
    where
      by_test : (b k : Bool) → is_key x.site.callee (fixed_of ss x) c f ≡ k → members_at c f (grouped ss main xs) ≡ map member_of (filter (with_key c f) xs)
          → members_at c f (if b then joined x (fixed_of ss x) (grouped ss main xs) else grouped ss main xs)
          ≡ map member_of (if b && k then x ∷ filter (with_key c f) xs else filter (with_key c f) xs)
      by_test true true e m =
          join_at x (fixed_of ss x) c f (grouped ss main xs)
          ∙ ap (λ (b : Bool). if_key b (member_of x ∷ members_at c f (grouped ss main xs)) (members_at c f (grouped ss main xs))) e
          ∙ ap (λ (ms : List Member). member_of x ∷ ms) m
      by_test true false e m =
          join_at x (fixed_of ss x) c f (grouped ss main xs)
          ∙ ap (λ (b : Bool). if_key b (member_of x ∷ members_at c f (grouped ss main xs)) (members_at c f (grouped ss main xs))) e ∙ m
      by_test false k e m = m
