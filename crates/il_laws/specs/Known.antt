-- What is known at each call of a routine.
use Rattle.std.specs.Prelude.{ℕ, suc, List, [], ◌∷◌, ◌++◌, Option, map}
use Rattle.il_core.specs.declared.instr.Block.{Block}
use Rattle.il_core.specs.declared.instr.Instr.{Instr}
use Rattle.il_core.specs.declared.instr.Instr.TheVariants.{Call}
use Rattle.il_core.specs.Routine.{RoutineParts}
use Rattle.il_laws.specs.Facts.{Facts, after, facts_at}

-- a site: its callee, its count, and each argument that is known there
pub record KnownSite : Type 0 where
  pub callee : ℕ
  pub count : ℕ
  pub known : List (Option ℕ)

abbrev pub site_of : Facts → Instr → List KnownSite
site_of fs (Call dest callee count args) = record { callee = callee; count = count; known = map fs args } ∷ []
site_of fs _ = []

abbrev pub known_in : Facts → List Instr → List KnownSite
known_in fs [] = []
known_in fs (i ∷ is) = site_of fs i ++ known_in (after i fs) is

abbrev pub known_from : RoutineParts → ℕ → List Block → List KnownSite
known_from r b [] = []
known_from r b (x ∷ xs) = known_in (facts_at r b) x.instrs ++ known_from r (suc b) xs

-- all sites of a routine in their order
abbrev pub known_sites : RoutineParts → List KnownSite
known_sites r = known_from r 0 r.blocks

abbrev pub site_constants : RoutineParts → List (List (Option ℕ))
site_constants r = map (λ s. s.known) (known_sites r)
