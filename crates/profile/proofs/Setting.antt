-- A count of a name that is there is set in its place.
use Rattle.std.proofs.Common.{◌≡◌, ℕ, zero, suc, List, [], ◌∷◌, Option, Some, nat_eq, position, refl, sym, ap, ◌∙◌}
use Rattle.std.specs.List.{slice_get}
use Rattle.std.specs.Map.{keys_of, values_of}
use Rattle.std.specs.Option.{option_copied_mut}
use Rattle.std.proofs.Common.{MutBor}
use Rattle.indexmap.specs.IndexMap.{insert_entry}
use Rattle.indexmap.specs.Layout.{set_value_at}
use Rattle.indexmap.proofs.MapLemmas.{Found-position, insert_entry-first}
use Rattle.profile.specs.Names.{Names, Tallied, same_name, tally_of, or_nothing, with_entry, with_site}

pub known_mut : (ns : Names) (at : ℕ) (r : Option (MutBor Tallied)) (x : MutBor Tallied) → option_copied_mut r ≡ slice_get (values_of ns) at
    → r ≡ Some x → slice_get (values_of ns) at ≡ Some x.now
known_mut ns at r x e h = sym e ∙ ap option_copied_mut h

-- a value that stays leaves all entries
pub same_value : (ns : Names) (at : ℕ) (t : Tallied) → slice_get (values_of ns) at ≡ Some t → set_value_at ns at t ≡ ns
same_value [] at t h = refl
same_value (e ∷ ns) zero t h = let c : Some e.1 ≡ Some t = h in let d : e.1 ≡ t = cc in ap (λ (x : Tallied). (e.0, x) ∷ ns) (sym d)
same_value (e ∷ ns) (suc at) t h = ap (λ (l : Names). e ∷ l) (same_value ns at t h)

module _ (ns : Names) (n : List ℕ) (at : ℕ) (t : Tallied) (p : position (same_name n) (keys_of ns) ≡ Some at) (h : slice_get (values_of ns) at ≡ Some t) where
  pub is_known : tally_of ns n ≡ t
  is_known = ap or_nothing ((Found-position (same_name n) ns at p).value ∙ h)

  placed : (v : Tallied) → set_value_at ns at v ≡ insert_entry same_name ns n v
  placed v = sym (insert_entry-first same_name n v ns at (Found-position (same_name n) ns at p).first)

  pub entry_there : (c : ℕ) → set_value_at ns at (record t { entry = c }) ≡ with_entry n c ns
  entry_there c = placed (record t { entry = c }) ∙ ap (λ (x : Tallied). insert_entry same_name ns n (record x { entry = c })) (sym is_known)

  pub site_there : (k c : ℕ) → set_value_at ns at (record t { sites = insert_entry nat_eq t.sites k c }) ≡ with_site n k c ns
  site_there k c = placed (record t { sites = insert_entry nat_eq t.sites k c })
      ∙ ap (λ (x : Tallied). insert_entry same_name ns n (record x { sites = insert_entry nat_eq x.sites k c })) (sym is_known)
