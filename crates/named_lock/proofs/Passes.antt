-- The list of all passes: what becomes of it where passes change, and what follows where one of them has all shares.
use Rattle.std.proofs.Common.{◌≡◌, ◌≢◌, ℕ, zero, suc, ◌+◌, ◌<◌, ◌≤◌, List, [], ◌∷◌, ◌++◌, set, Option, Some, None, sym, refl, ap, ◌∙◌, subst, ⊎_elim, arith}
use mathlib.Core.Option as base
use mathlib.Core.Option.{some}
use lib.ListN.{get_elem?}
use Rattle.atomic_table.proofs.Lists.{at_set, at_snoc, at_map}
use Rattle.named_lock.specs.declared.view.Known.{Known}
use Rattle.named_lock.specs.Known.{AreAllPasses, note_of, notes_of, share_of, all_of, shares_of}
use Rattle.named_lock.specs.Rules.{Stands, StandsAlone}

module _ {M S N : Type 0} where
  pub shares-set : (ps : List (Option (Known M S N))) (i : ℕ) (v w : Option (Known M S N)) → get_elem? ps i ≡ some v
      → shares_of (set ps i w) + share_of v ≡ shares_of ps + share_of w
  shares-set [] i v w at = absurd (base.some-ne-none v (sym at))
  shares-set (x ∷ xs) zero v w at = let e : share_of x ≡ share_of v = ap share_of (base.some-injective x v at) in omega arith
  shares-set (x ∷ xs) (suc i) v w at = let e = shares-set xs i v w at in omega arith

  pub shares-snoc : (ps : List (Option (Known M S N))) (w : Option (Known M S N)) → shares_of (ps ++ w ∷ []) ≡ shares_of ps + share_of w
  shares-snoc [] w = omega arith
  shares-snoc (x ∷ xs) w = let e = shares-snoc xs w in omega arith

  one_share : (ps : List (Option (Known M S N))) (i : ℕ) (v : Option (Known M S N)) → get_elem? ps i ≡ some v → share_of v ≤ shares_of ps
  one_share [] i v e = absurd (base.some-ne-none v (sym e))
  one_share (x ∷ xs) zero v e = let h : share_of x ≡ share_of v = ap share_of (base.some-injective x v e) in omega arith
  one_share (x ∷ xs) (suc i) v e = let h = one_share xs i v e in omega arith

  pub two_shares : (ps : List (Option (Known M S N))) (i j : ℕ) (v w : Option (Known M S N)) → i ≢ j → get_elem? ps i ≡ some v → get_elem? ps j ≡ some w
      → share_of v + share_of w ≤ shares_of ps
  two_shares [] i j v w ne e f = absurd (base.some-ne-none v (sym e))
  two_shares (x ∷ xs) zero zero v w ne e f = absurd (ne refl)
  two_shares (x ∷ xs) zero (suc j) v w ne e f = let a : share_of x ≡ share_of v = ap share_of (base.some-injective x v e) in let b = one_share xs j w f
      in omega arith
  two_shares (x ∷ xs) (suc i) zero v w ne e f = let a : share_of x ≡ share_of w = ap share_of (base.some-injective x w f) in let b = one_share xs i v e
      in omega arith
  two_shares (x ∷ xs) (suc i) (suc j) v w ne e f = let h = two_shares xs i j v w (λ s. ne (ap suc s)) e f in omega arith

  -- what is so of each live pass
  abbrev pub Fits : M → ℕ → Known M S N → Type 0
  Fits name all k = (k.name ≡ name) × (k.all ≡ all) × (0 < k.share)

  abbrev pub Each : M → ℕ → List (Option (Known M S N)) → Type 0
  Each name all ps = (j : ℕ) (k : Known M S N) → get_elem? ps j ≡ some (Some k) → Fits name all k

  some_one : (k l : Known M S N) → Some k ≡ Some l → k ≡ l
  some_one k l e = cc

  pub each_set : (name : M) (all : ℕ) (ps : List (Option (Known M S N))) (i : ℕ) (w : Known M S N) → Each name all ps → Fits name all w
      → Each name all (set ps i (Some w))
  each_set name all ps i w each fits j k e = ⊎_elim
      (λ (t : (j ≡ i) × (Some w ≡ Some k)). subst (Fits name all) (some_one w k t.1) fits)
      (λ (t : (j ≢ i) × (get_elem? ps j ≡ some (Some k))). each j k t.1)
      (at_set ps i j (Some w) (Some k) e)

  pub each_gone : (name : M) (all : ℕ) (ps : List (Option (Known M S N))) (i : ℕ) → Each name all ps → Each name all (set ps i None)
  each_gone name all ps i each j k e = ⊎_elim
      (λ (t : (j ≡ i) × (None ≡ Some k)). let no = t.1 in absurd cc)
      (λ (t : (j ≢ i) × (get_elem? ps j ≡ some (Some k))). each j k t.1)
      (at_set ps i j None (Some k) e)

  pub each_snoc : (name : M) (all : ℕ) (ps : List (Option (Known M S N))) (w : Known M S N) → Each name all ps → Fits name all w
      → Each name all (ps ++ Some w ∷ [])
  each_snoc name all ps w each fits j k e = ⊎_elim
      (λ (t : get_elem? ps j ≡ some (Some k)). each j k t)
      (λ (t : Some w ≡ Some k). subst (Fits name all) (some_one w k t) fits)
      (at_snoc ps (Some w) (Some k) j e)

  -- one pass changes, but for its name and its share
  pub changed : (name : M) (all : ℕ) (ps : List (Option (Known M S N))) (i : ℕ) (k l : Known M S N) → AreAllPasses name all ps → get_elem? ps i ≡ some (Some k)
      → l.name ≡ k.name → l.all ≡ k.all → l.share ≡ k.share → AreAllPasses name all (set ps i (Some l))
  changed name all ps i k l ps_all at same_name same_all same_share =
      let f = ps_all.each i k at in let e = shares-set ps i (Some k) (Some l) at in let t = ps_all.shares in record {
        shares = omega arith;
        each = each_set name all ps i l ps_all.each (same_name ∙ f.0, same_all ∙ f.1, omega (arith, f.2));
      }

  note_back : (ps : List (Option (Known M S N))) (j : ℕ) (m : Option N) → get_elem? (notes_of ps) j ≡ some m
      → (v : Option (Known M S N)) × (get_elem? ps j ≡ some v) × (note_of v ≡ m)
  note_back [] j m e = absurd (base.some-ne-none m (sym e))
  note_back (x ∷ xs) zero m e = (x, refl, base.some-injective (note_of x) m e)
  note_back (x ∷ xs) (suc j) m e = note_back xs j m e

  -- beside a pass with all shares there is no live one
  no_other : (k : Known M S N) (ps : List (Option (Known M S N))) (i : ℕ) → AreAllPasses k.name k.all ps → get_elem? ps i ≡ some (Some k) → k.share ≡ k.all
      → (j : ℕ) (m : Option N) (v : Option (Known M S N)) → j ≢ i → get_elem? ps j ≡ some v → note_of v ≡ m → m ≡ None
  no_other k ps i ps_all at has_all j m None ne e n = sym n
  no_other k ps i ps_all at has_all j m (Some l) ne e n =
      let a = two_shares ps j i (Some l) (Some k) ne e at in let p = (ps_all.each j l e).2 in let t = ps_all.shares in absurd (omega arith)

  -- what the rule says of all passes, it says of one that has all shares alone
  pub alone : (holds : M → S → List (Option N) → Type 0) (number : ℕ) (v : Option (Known M S N)) (x : S) → share_of v ≡ all_of v → Stands holds number v x
      → StandsAlone holds number v x
  alone holds number None x has_all s = s
  alone holds number (Some k) x has_all s = record {
    notes = notes_of s.passes;
    mine = at_map note_of s.passes number (Some k) s.mine;
    others = λ j m ne e. let b = note_back s.passes j m e in no_other k s.passes number s.all s.mine has_all j m b.0 ne b.1 b.2;
    rule = s.rule;
  }
