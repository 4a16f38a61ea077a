-- Candidates put in order: their groups are in order by rank.
use Rattle.std.proofs.Common.{◌≡◌, ℕ, ◌+◌, ◌<◌, List, [], ◌∷◌, ◌++◌, map, Bool, true, false, Option, refl, ap, ap₂, sym, subst, ◌∙◌, arith, length}
use Rattle.std.proofs.Common.{drop, get_or, nat_lt, append_assoc}
use Rattle.std.specs.Prelude.{◌==◌, if◌then◌else◌, cond}
use Rattle.std.specs.Cmp.{IsStrictWeakOrder, IsTotalOrder}
use Rattle.std.specs.Cmp.Lexicographic.{slice_cmp}
use Rattle.std.specs.List.{AllByRecursion}
use Rattle.std.specs.List.Sorted.{IsPermutation, IsSortedBy}
use Rattle.std.specs.Ordering.{is_lt, nat_cmp, ordering_then}
use Rattle.std.specs.declared.cmp.Ordering.{Ordering}
use Rattle.std.specs.declared.cmp.Ordering.TheVariants.{Less, Equal, Greater}
use Rattle.std.proofs.lemmas.Cmp.{back_total, lists_total, nat_cmp_total, on_total, then_total}
use Rattle.std.proofs.lemmas.List.{append-nil, get_or-map, length-drop, length-map}
use Rattle.list_laws.proofs.Elements.{drop_read}
use Rattle.std.proofs.lemmas.List.Sorted.{IsPermutation-map, ranks_by}
use Rattle.il_laws.specs.Table.{Row}
use Rattle.plan_laws.specs.Groups.{Group, fixed_before, group_before}
use Rattle.plan_laws.specs.Orders.{less_or}
use Rattle.plan_laws.proofs.Ranking.{all_permuted}
use Rattle.clone_groups.specs.Gathering.{Joint, group_in, groups_in}
use Rattle.clone_groups.specs.Keys.{fixed_in}
use Rattle.clone_groups.specs.Ranking.{AreRanked, HasClone, candidate_of, clone_for, group_of, key_order, pair_order, rank_order}
use Rattle.clone_groups.specs.declared.keys.CloneKey.{CloneKey}
use Rattle.clone_groups.specs.declared.ranking.Candidate.{Candidate}

-- the order is one
pair_total : IsTotalOrder pair_order
pair_total = then_total (on_total (λ (x : ℕ × ℕ). x.0) nat_cmp_total) (on_total (λ (x : ℕ × ℕ). x.1) nat_cmp_total)

key_total : IsTotalOrder key_order
key_total =
    then_total (on_total (λ (k : CloneKey). k.callee) nat_cmp_total) (on_total (λ (k : CloneKey). k.fixed.items) (lists_total pair_total))

rank_total : IsTotalOrder rank_order
rank_total =
    then_total (back_total (on_total (λ (c : Candidate). c.sites.count) nat_cmp_total)) (on_total (λ (c : Candidate). c.key) key_total)

abbrev pub ranks_first : Candidate → Candidate → Bool
ranks_first a b = is_lt (rank_order a b)

pub rank_is_order : IsStrictWeakOrder ranks_first
rank_is_order = ranks_by rank_total (λ (c : Candidate). c)

-- it is that of the groups
less_if : (a b : Bool) (o : Ordering) → is_lt (ordering_then (cond a Less (cond b Equal Greater)) o) ≡ (if a then true else (if b then is_lt o else false))
less_if true b o = refl
less_if false true o = refl
less_if false false o = refl

less_is : (m n : ℕ) (o : Ordering) → is_lt (ordering_then (nat_cmp m n) o) ≡ less_or m n (is_lt o)
less_is m n o = less_if (nat_lt m n) (m == n) o

then_twice : (p q o : Ordering) → ordering_then (ordering_then p q) o ≡ ordering_then p (ordering_then q o)
then_twice Less q o = refl
then_twice Equal q o = refl
then_twice Greater q o = refl

fixed_order : (a b : List (ℕ × ℕ)) → is_lt (slice_cmp pair_order a b) ≡ fixed_before (fixed_in a) (fixed_in b)
fixed_order [] [] = refl
fixed_order [] (y ∷ b) = refl
fixed_order (x ∷ a) [] = refl
fixed_order (x ∷ a) (y ∷ b) =
    ap is_lt (then_twice (nat_cmp x.0 y.0) (nat_cmp x.1 y.1) (slice_cmp pair_order a b))
    ∙ less_is x.0 y.0 (ordering_then (nat_cmp x.1 y.1) (slice_cmp pair_order a b))
    ∙ ap (less_or x.0 y.0) (less_is x.1 y.1 (slice_cmp pair_order a b) ∙ ap (less_or x.1 y.1) (fixed_order a b))

ranks_are : (a b : Candidate) → ranks_first a b ≡ group_before (group_of a) (group_of b)
ranks_are a b =
    less_is b.sites.count a.sites.count (key_order a.key b.key)
    ∙ ap (less_or b.sites.count a.sites.count)
    (less_is a.key.callee b.key.callee (slice_cmp pair_order a.key.fixed.items b.key.fixed.items)
    ∙ ap (less_or a.key.callee b.key.callee) (fixed_order a.key.fixed.items b.key.fixed.items))

groups_of_candidates : (rows : List Row) (es : List (CloneKey × Joint)) → map group_of (map (candidate_of rows) es) ≡ groups_in es
groups_of_candidates rows [] = refl
groups_of_candidates rows (e ∷ es) = ap (λ (gs : List Group). group_in e ∷ gs) (groups_of_candidates rows es)

have_clones : (rows : List Row) (es : List (CloneKey × Joint)) → AllByRecursion (HasClone rows) (map (candidate_of rows) es)
have_clones rows [] = tt
have_clones rows (e ∷ es) = (refl, have_clones rows es)

in_order : (cs : List Candidate) → IsSortedBy ranks_first cs → IsSortedBy group_before (map group_of cs)
in_order [] h k d le lt = absurd (omega arith)
in_order (c ∷ cs) h k d le lt =
    let size : length (map group_of (c ∷ cs)) ≡ length (c ∷ cs) = length-map (c ∷ cs) group_of in
    ap₂ {A = Group} {B = Group} {C = Bool} group_before (get_or-map group_of (c ∷ cs) (k + 1) c d (omega arith))
    (get_or-map group_of (c ∷ cs) k c d (omega arith))
    ∙ sym (ranks_are (get_or (c ∷ cs) (k + 1) c) (get_or (c ∷ cs) k c)) ∙ h k c le (omega arith)

module _ (rows : List Row) (es : List (CloneKey × Joint)) (cs sorted : List Candidate) (are : cs ≡ map (candidate_of rows) es) (perm : IsPermutation cs sorted)
  where
    pub ranked_are : IsSortedBy ranks_first sorted → AreRanked (groups_in es) (map group_of sorted)
    ranked_are h = record {
      all = subst (λ (gs : List Group). IsPermutation gs (map group_of sorted)) (ap (map group_of) are ∙ groups_of_candidates rows es)
          (IsPermutation-map group_of cs sorted perm);
      order = in_order sorted h;
    }

    pub clones_are : AllByRecursion (HasClone rows) sorted
    clones_are = all_permuted (HasClone rows) cs sorted perm (subst (AllByRecursion (HasClone rows)) (sym are) (have_clones rows es))

-- the loop that puts groups and clones together
pub record Pairing (rows : List Row) (es left : List (CloneKey × Joint)) (clones : List (Option ℕ)) (at : ℕ) (done : List Candidate) : Type 0 where
  pub ahead : drop at clones ≡ map (clone_for rows) left
  pub rest : done ++ map (candidate_of rows) left ≡ map (candidate_of rows) es

pub pairing_first : (rows : List Row) (es left : List (CloneKey × Joint)) (clones : List (Option ℕ)) (done : List Candidate) → left ≡ es
    → clones ≡ map (clone_for rows) es → done ≡ [] → Pairing rows es left clones 0 done
pairing_first rows es left clones done all same none = record {
  ahead = same ∙ ap (map (clone_for rows)) (sym all);
  rest = ap (λ (l : List Candidate). l ++ map (candidate_of rows) left) none ∙ ap (map (candidate_of rows)) all;
}

module _ (rows : List Row) (es left : List (CloneKey × Joint)) (clones : List (Option ℕ)) (at : ℕ) (done : List Candidate)
    (p : Pairing rows es left clones at done)
    (e : CloneKey × Joint) (more : List (CloneKey × Joint)) (is : left ≡ e ∷ more) where
  pub pairing_within : at < length clones
  pairing_within =
      let one = ap (λ (l : List (Option ℕ)). length l) (p.ahead ∙ ap (map (clone_for rows)) is) in
      let size = length-drop at clones in
      omega arith

  pub pairing_more : (x : Option ℕ) (new : List Candidate) → x ≡ get_or clones at x → new ≡ done ++ record { key = e.0; sites = e.1; old = x } ∷ []
      → Pairing rows es more clones (at + 1) new
  pairing_more x new read added =
      let both : x ∷ drop (at + 1) clones ≡ clone_for rows e ∷ map (clone_for rows) more
      = sym (drop_read clones at x pairing_within read) ∙ p.ahead ∙ ap (map (clone_for rows)) is in
      let here : x ≡ clone_for rows e = cc both in
      let later : drop (at + 1) clones ≡ map (clone_for rows) more = cc both in
      record {
        ahead = later;
        rest = ap (λ (l : List Candidate). l ++ map (candidate_of rows) more)
            (added ∙ ap (λ (o : Option ℕ). done ++ record { key = e.0; sites = e.1; old = o } ∷ []) here)
            ∙ append_assoc done (candidate_of rows e ∷ []) (map (candidate_of rows) more)
            ∙ ap (λ (l : List (CloneKey × Joint)). done ++ map (candidate_of rows) l) (sym is) ∙ p.rest;
      }

pub pairing_last : (rows : List Row) (es left : List (CloneKey × Joint)) (clones : List (Option ℕ)) (at : ℕ) (done : List Candidate)
    → Pairing rows es left clones at done
    → left ≡ [] → done ≡ map (candidate_of rows) es
pairing_last rows es left clones at done p none =
    sym (append-nil done) ∙ ap (λ (l : List (CloneKey × Joint)). done ++ map (candidate_of rows) l) (sym none) ∙ p.rest
