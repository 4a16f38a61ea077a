-- Bytes that are kept on the way, and those behind them.
use Rattle.std.proofs.Common.{◌≡◌, ℕ, List, [], ◌∷◌, ◌++◌, ap, sym, ◌∙◌}
use Rattle.std.specs.declared.option.Option.{Option}
use Rattle.std.specs.Prelude.{Some, None}
use Rattle.std.specs.Io.KnownBytes.{Consumes, Keeps, prepend_known}

-- the first byte that is ahead is used
pub uses_first : (known : Option (List ℕ)) (xs ys : List ℕ) (b : ℕ) → xs ≡ b ∷ ys → Consumes (prepend_known xs known) (prepend_known ys known) (b ∷ [])
uses_first None xs ys b e = tt
uses_first (Some zs) xs ys b e = ap (λ (l : List ℕ). l ++ zs) e

-- the same, after nothing was used
pub uses_after : (a b c : Option (List ℕ)) (bs : List ℕ) → Keeps a b → Consumes b c bs → Consumes a c bs
uses_after None b c bs k u = tt
uses_after (Some xs) None c bs k u = absurd k
uses_after (Some xs) (Some ys) None bs k u = absurd u
uses_after (Some xs) (Some ys) (Some zs) bs k u = sym k ∙ u
