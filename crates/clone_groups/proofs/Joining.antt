-- A site joined to the group of its key, in a map by keys.
use Rattle.std.proofs.Common.{◌≡◌, ℕ, ◌+◌, List, [], ◌∷◌, Bool, true, false, Option, Some, None, refl, ap, sym, ◌∙◌, arith, position, nat_eq, MutBor}
use Rattle.std.specs.Prelude.{◌&&◌, if◌then◌else◌, cond}
use Rattle.std.specs.Cmp.Lexicographic.{pointwise}
use Rattle.std.specs.List.{slice_get}
use Rattle.std.specs.Map.{keys_of, lookup, values_of}
use Rattle.std.specs.Option.{option_copied_mut}
use Rattle.std.proofs.lemmas.Cmp.{nat_eq_equiv}
use Rattle.indexmap.specs.IndexMap.{insert_entry}
use Rattle.indexmap.specs.Layout.{set_value_at}
use Rattle.indexmap.proofs.MapLemmas.{Found-position, Missing-position, insert_entry-first}
use Rattle.il_laws.specs.Clone.{Fixed}
use Rattle.plan_laws.specs.Groups.{Group, has_key, joined, member_of, same_fixed}
use Rattle.plan_laws.specs.Summary.{CallSite}
use Rattle.clone_groups.specs.Gathering.{Joint, group_in, groups_in, no_sites, site_by, with_site}
use Rattle.clone_groups.specs.Keys.{fixed_in, same_key}
use Rattle.clone_groups.specs.declared.keys.CloneKey.{CloneKey}

pub same_constants : (a b : List (ℕ × ℕ)) → same_fixed (fixed_in b) (fixed_in a) ≡ pointwise (λ x y. nat_eq x.0 y.0 && nat_eq x.1 y.1) a b
same_constants [] [] = refl
same_constants [] (y ∷ b) = refl
same_constants (x ∷ a) [] = refl
same_constants (x ∷ a) (y ∷ b) = λ i. (nat_eq_equiv.symm y.0 x.0 i && nat_eq_equiv.symm y.1 x.1 i) && same_constants a b i

abbrev Entries : Type 0
Entries = List (CloneKey × Joint)

pub value_there : (es : Entries) (at : ℕ) (r : Option (MutBor Joint)) (x : MutBor Joint) → option_copied_mut r ≡ slice_get (values_of es) at → r ≡ Some x
    → slice_get (values_of es) at ≡ Some x.now
value_there es at r x e h = sym e ∙ ap option_copied_mut h

abbrev or_none : Option Joint → Joint
or_none None = no_sites
or_none (Some j) = j

module _ (key : CloneKey) (caller number count : ℕ) (known : List (Option ℕ)) where
  abbrev x : CallSite
  x = site_by key caller number count known

  abbrev fixed : List Fixed
  fixed = fixed_in key.fixed.items

  abbrev more : Option Joint → Joint
  more o = with_site caller number count (or_none o)

  has_same : (e : CloneKey × Joint) → has_key key.callee fixed (group_in e) ≡ same_key key e.0
  has_same e = λ i. nat_eq_equiv.symm e.0.callee key.callee i && same_constants key.fixed.items e.0.fixed.items i

  abbrev joined_here : Group → Group
  joined_here g = record g { members = member_of x ∷ g.members; count = x.site.count + g.count }

  entry_if : (e : CloneKey × Joint) (es : Entries) (o : Option Joint) (b c : Bool) → c ≡ b → cond b (Some e.1) (lookup (same_key key) es) ≡ o
      → (lookup (same_key key) es ≡ o → groups_in (insert_entry same_key es key (more o)) ≡ joined x fixed (groups_in es))
      → groups_in (if b then (e.0, more o) ∷ es else e ∷ insert_entry same_key es key (more o))
      ≡ (if c then joined_here (group_in e) ∷ groups_in es else group_in e ∷ joined x fixed (groups_in es))
  entry_if e es o true true same found rest = ap (λ (j : Option Joint). group_in (e.0, more j) ∷ groups_in es) (sym found)
  entry_if e es o true false same found rest = absurd cc
  entry_if e es o false true same found rest = absurd cc
  entry_if e es o false false same found rest = ap (λ (gs : List Group). group_in e ∷ gs) (rest found)

  pub joined_entry : (es : Entries) (o : Option Joint) → lookup (same_key key) es ≡ o
      → groups_in (insert_entry same_key es key (more o)) ≡ joined x fixed (groups_in es)
  joined_entry [] o found =
      let none : count + 0 ≡ count = omega arith in
      ap (λ (j : Option Joint). group_in (key, more j) ∷ []) (sym found)
      ∙ ap (λ (n : ℕ). record { callee = key.callee; fixed = fixed; members = member_of x ∷ []; count = n } ∷ []) none
  joined_entry (e ∷ es) o found = entry_if e es o (same_key key e.0) (has_key key.callee fixed (group_in e)) (has_same e) found (joined_entry es o)

  pub joined_there : (es : Entries) (at : ℕ) (j : Joint) → position (same_key key) (keys_of es) ≡ Some at → slice_get (values_of es) at ≡ Some j
      → groups_in (set_value_at es at (with_site caller number count j)) ≡ joined x fixed (groups_in es)
  joined_there es at j p h =
      let there = Found-position (same_key key) es at p in
      ap groups_in (sym (insert_entry-first same_key key (with_site caller number count j) es at there.first)) ∙ joined_entry es (Some j) (there.value ∙ h)

  pub joined_new : (es : Entries) → position (same_key key) (keys_of es) ≡ None
      → groups_in (insert_entry same_key es key (with_site caller number count no_sites)) ≡ joined x fixed (groups_in es)
  joined_new es p = joined_entry es None (Missing-position (same_key key) es p).value
