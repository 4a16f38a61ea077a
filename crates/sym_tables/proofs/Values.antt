-- The values of entries, after one was replaced or added.
use Rattle.std.proofs.Common.{◌≡◌, ℕ, zero, suc, List, [], ◌∷◌, ◌++◌, length, Option, Some, None, refl, ap}
use Rattle.std.specs.List.{slice_get, slice_set}
use Rattle.std.specs.Map.{values_of}
use Rattle.indexmap.specs.Layout.{set_value_at}

pub values_set : {K X : Type 0} (es : List (K × X)) (i : ℕ) (v : X) → values_of (set_value_at es i v) ≡ slice_set (values_of es) i v
values_set [] i v = refl
values_set (e ∷ es) zero v = refl
values_set (e ∷ es) (suc i) v = ap (λ l. e.1 ∷ l) (values_set es i v)

pub values_added : {K X : Type 0} (es : List (K × X)) (e : K × X) → values_of (es ++ e ∷ []) ≡ values_of es ++ e.1 ∷ []
values_added [] e = refl
values_added (x ∷ es) e = ap (λ l. x.1 ∷ l) (values_added es e)

pub value_at : {K X : Type 0} (es : List (K × X)) (i : ℕ) (k : K) (v : X) → slice_get es i ≡ Some (k, v) → slice_get (values_of es) i ≡ Some v
value_at {K} {X} [] i k v h = let o : Option (K × X) = None in let c : o ≡ Some (k, v) = h in absurd cc
value_at {K} {X} (e ∷ es) zero k v h = let c : Some e ≡ Some (k, v) = h in let d : e ≡ (k, v) = cc in ap (λ (p : K × X). Some p.1) d
value_at (e ∷ es) (suc i) k v h = value_at es i k v h

pub length_values : {K X : Type 0} (es : List (K × X)) → length (values_of es) ≡ length es
length_values [] = refl
length_values (e ∷ es) = ap suc (length_values es)
