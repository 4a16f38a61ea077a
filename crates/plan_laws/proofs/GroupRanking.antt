-- Groups of one rank are equal, so their ranking is the only one.
use Rattle.std.proofs.Common.{◌≡◌, ℕ, List, [], ◌∷◌, Bool, true, false, refl, ap, ap₂, sym, ◌∙◌}
use Rattle.std.specs.Prelude.{if◌then◌else◌, Option, Some, None}
use Rattle.std.specs.List.{AllByRecursion}
use Rattle.std.specs.List.Sorted.{IsPermutation, IsSortedBy}
use Rattle.std.specs.Cmp.{IsStrictWeakOrder}
use Rattle.il_laws.specs.Clone.{Fixed}
use Rattle.plan_laws.specs.Orders.{less_or}
use Rattle.plan_laws.specs.Summary.{Summary, call_sites}
use Rattle.plan_laws.specs.Groups.{fixed_before, Group, has_key, grouped, group_before, ranked_groups}
use Rattle.plan_laws.proofs.GroupsFit.{sorted_all}
use Rattle.plan_laws.proofs.Keys.{NoneHas, Differ, key_itself, key_turned, differ_grouped}
use Rattle.plan_laws.proofs.OrderLaws.{less_one_way, less_chain, less_tie, sorted_only}
use Rattle.plan_laws.proofs.Ranking.{all_permuted}
use Rattle.plan_laws.proofs.Retargets.{same_entry}

-- constants are in order
fixed_one_way : (xs ys : List Fixed) → fixed_before xs ys ≡ true → fixed_before ys xs ≡ false
fixed_one_way [] [] e = refl
fixed_one_way [] (y ∷ ys) e = refl
fixed_one_way (x ∷ xs) [] e = absurd cc
fixed_one_way (x ∷ xs) (y ∷ ys) e =
    less_one_way x.param y.param (less_or x.word.0 y.word.0 (fixed_before xs ys)) (less_or y.word.0 x.word.0 (fixed_before ys xs))
    (less_one_way x.word.0 y.word.0 (fixed_before xs ys) (fixed_before ys xs) (fixed_one_way xs ys)) e

fixed_chain : (xs ys zs : List Fixed) → fixed_before xs ys ≡ false → fixed_before ys zs ≡ false → fixed_before xs zs ≡ false
fixed_chain [] [] zs e g = g
fixed_chain [] (y ∷ ys) zs e g = absurd cc
fixed_chain (x ∷ xs) ys [] e g = refl
fixed_chain (x ∷ xs) [] (z ∷ zs) e g = absurd cc
fixed_chain (x ∷ xs) (y ∷ ys) (z ∷ zs) e g =
    less_chain x.param y.param z.param (less_or x.word.0 y.word.0 (fixed_before xs ys)) (less_or y.word.0 z.word.0 (fixed_before ys zs))
    (less_or x.word.0 z.word.0 (fixed_before xs zs))
    (less_chain x.word.0 y.word.0 z.word.0 (fixed_before xs ys) (fixed_before ys zs) (fixed_before xs zs) (fixed_chain xs ys zs)) e g

fixed_ties : (xs ys : List Fixed) → fixed_before xs ys ≡ false → fixed_before ys xs ≡ false → xs ≡ ys
fixed_ties [] [] e g = refl
fixed_ties [] (y ∷ ys) e g = absurd cc
fixed_ties (x ∷ xs) [] e g = absurd cc
fixed_ties (x ∷ xs) (y ∷ ys) e g =
    let a = less_tie x.param y.param (less_or x.word.0 y.word.0 (fixed_before xs ys)) (less_or y.word.0 x.word.0 (fixed_before ys xs)) e g in
    let b = less_tie x.word.0 y.word.0 (fixed_before xs ys) (fixed_before ys xs) a.one a.other in
    ap₂ {A = Fixed} {B = List Fixed} {C = List Fixed} (λ z zs. z ∷ zs) (same_entry x y a.same b.same) (fixed_ties xs ys b.one b.other)

abbrev by_key : Group → Group → Bool
by_key a b = less_or a.callee b.callee (fixed_before a.fixed b.fixed)

key_one_way : (a b : Group) → by_key a b ≡ true → by_key b a ≡ false
key_one_way a b =
    less_one_way a.callee b.callee (fixed_before a.fixed b.fixed) (fixed_before b.fixed a.fixed) (fixed_one_way a.fixed b.fixed)

key_chain : (a b c : Group) → by_key a b ≡ false → by_key b c ≡ false → by_key a c ≡ false
key_chain a b c =
    less_chain a.callee b.callee c.callee (fixed_before a.fixed b.fixed) (fixed_before b.fixed c.fixed) (fixed_before a.fixed c.fixed)
    (fixed_chain a.fixed b.fixed c.fixed)

group_order : IsStrictWeakOrder group_before
group_order =
    record {
      one_way = λ a b. less_one_way b.count a.count (by_key a b) (by_key b a) (key_one_way a b);
      chain = λ a b c e g. less_chain c.count b.count a.count (by_key b c) (by_key a b) (by_key a c) (λ x y. key_chain a b c y x) g e;
    }

-- the first group with a key
abbrev first_at : ℕ → List Fixed → List Group → Option Group
first_at c f [] = None
first_at c f (g ∷ gs) = if has_key c f g then Some g else first_at c f gs

firsts_are : (gs : List Group) → Differ gs → AllByRecursion (λ g. first_at g.callee g.fixed gs ≡ Some g) gs
firsts_are [] d = tt
firsts_are (g ∷ gs) d =
    (ap (λ (b : Bool). if b then Some g else first_at g.callee g.fixed gs) (key_itself g.callee g.fixed), later gs d.0 (firsts_are gs d.1))
  where
    later : (hs : List Group) → NoneHas g.callee g.fixed hs → AllByRecursion (λ h. first_at h.callee h.fixed gs ≡ Some h) hs
        → AllByRecursion (λ h. first_at h.callee h.fixed (g ∷ gs) ≡ Some h) hs
    later [] n a = tt
    later (h ∷ hs) n a = (
      ap (λ (b : Bool). if b then Some g else first_at h.callee h.fixed gs) (key_turned h.callee h.fixed g.callee g.fixed n.0) ∙ a.0,
      later hs n.1 a.1,
    )

module _ (gs : List Group) where
  abbrev IsFirstOf : Group → Type 0
  IsFirstOf g = first_at g.callee g.fixed gs ≡ Some g

  group_ties : (a b : Group) → IsFirstOf a → IsFirstOf b → group_before a b ≡ false → group_before b a ≡ false → a ≡ b
  group_ties a b ha hb e g =
      let count = less_tie b.count a.count (by_key a b) (by_key b a) e g in
      let key = less_tie a.callee b.callee (fixed_before a.fixed b.fixed) (fixed_before b.fixed a.fixed) count.one count.other in
      let fixed = fixed_ties a.fixed b.fixed key.one key.other in
      let same : Some a ≡ Some b =
      sym ha ∙ ap₂ {A = ℕ} {B = List Fixed} {C = Option Group} (λ c f. first_at c f gs) key.same fixed ∙ hb in cc

pub group_ranking_only : (ss : List Summary) (main : ℕ) (gs : List Group) → IsPermutation (grouped ss main (call_sites ss)) gs
    → IsSortedBy group_before gs → gs ≡ ranked_groups ss main
group_ranking_only ss main gs perm rises =
    let zs = grouped ss main (call_sites ss) in
    let all = firsts_are zs (differ_grouped ss main (call_sites ss)) in
    sorted_only group_before group_order (IsFirstOf zs) (group_ties zs) zs gs all (all_permuted (IsFirstOf zs) zs gs perm all)
    (sorted_all (IsFirstOf zs) group_before zs all) perm rises
