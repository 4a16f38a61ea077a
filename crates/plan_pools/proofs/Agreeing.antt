-- Moves that send the calls of a routine to the same callees.
use Rattle.std.proofs.Common.{◌≡◌, ◌+◌, ◌<◌, ◌≤◌, ℕ, suc, List, [], ◌∷◌, true, false, Option, Some, None, nat_eq, length, refl, ap, ap₂, subst, arith}
use Rattle.std.proofs.Common.{inl, inr, ◌∙◌}
use Rattle.std.specs.Prelude.{if◌then◌else◌}
use Rattle.std.specs.List.{AllByRecursion}
use Rattle.std.specs.Option.{unwrap_or}
use Rattle.std.proofs.lemmas.Bool.{cases_lt}
use Rattle.std.proofs.lemmas.List.{length-append}
use Rattle.list_laws.proofs.Entries.{number_itself, other_number}
use Rattle.il_core.specs.Meaning.{sites_in, sites_of}
use Rattle.il_core.specs.Routine.{RoutineParts}
use Rattle.il_core.specs.declared.instr.Block.{Block}
use Rattle.il_core.specs.declared.instr.Instr.{Instr}
use Rattle.il_core.specs.declared.instr.Instr.TheVariants.{Const, Move, Conv, Bin, Get, Set, GetX, SetX, GetA, SetA, Clear, Turn, Call, GetChar, PutChar}
use Rattle.il_laws.specs.Facts.{Facts, after, facts_at}
use Rattle.il_laws.specs.Known.{KnownSite, known_from, known_in, known_sites, site_of}
use Rattle.il_laws.specs.Retarget.{SiteMove, callee_at, retarget, retarget_blocks, retarget_instr, retarget_instrs}
use Rattle.il_laws.specs.Table.{Row}
use Rattle.clone_groups.specs.Moves.{sites_of_blocks}
use Rattle.plan_laws.specs.GroupLaws.{clone_of_member}
use Rattle.plan_laws.specs.Groups.{Taken, clone_of_site, member_of, moves, with_move}
use Rattle.plan_laws.specs.Summary.{CallSite, Summary, numbered}

-- moves that agree on the first n sites
module _ (ms ns : List SiteMove) (n : ℕ) (same : (k callee : ℕ) → k < n → callee_at ms k callee ≡ callee_at ns k callee) where
  instr_same : (k : ℕ) (i : Instr) → sites_in i + k ≤ n → retarget_instr ms k i ≡ retarget_instr ns k i
  instr_same k (Call dest callee count args) le = ap (λ (q : ℕ). Call dest q count args) (same k callee (omega arith))
  instr_same k (Const d w) le = refl
  instr_same k (Move d s) le = refl
  instr_same k (Conv d t s) le = refl
  instr_same k (Bin o d a b) le = refl
  instr_same k (Get d g) le = refl
  instr_same k (Set g s) le = refl
  instr_same k (GetX d g i) le = refl
  instr_same k (SetX g i s) le = refl
  instr_same k (GetA d a i) le = refl
  instr_same k (SetA a i s) le = refl
  instr_same k (Clear r c a m) le = refl
  instr_same k Turn le = refl
  instr_same k (GetChar d) le = refl
  instr_same k (PutChar d s) le = refl

  instrs_same : (k : ℕ) (is : List Instr) → sites_of is + k ≤ n → retarget_instrs ms k is ≡ retarget_instrs ns k is
  instrs_same k [] le = refl
  instrs_same k (i ∷ is) le =
      ap₂ {A = Instr} {B = List Instr} {C = List Instr} (λ j js. j ∷ js) (instr_same k i (omega arith)) (instrs_same (sites_in i + k) is (omega arith))

  blocks_same : (k : ℕ) (xs : List Block) → sites_of_blocks xs + k ≤ n → retarget_blocks ms k xs ≡ retarget_blocks ns k xs
  blocks_same k [] le = refl
  blocks_same k (x ∷ xs) le =
      ap₂ {A = List Instr} {B = List Block} {C = List Block} (λ is ys. record { instrs = is; end = x.end } ∷ ys)
      (instrs_same k x.instrs (omega arith)) (blocks_same (sites_of x.instrs + k) xs (omega arith))

  pub retarget_same : (r : RoutineParts) → sites_of_blocks r.blocks ≤ n → retarget r ms ≡ retarget r ns
  retarget_same r le = ap (λ (xs : List Block). record r { blocks = xs }) (blocks_same 0 r.blocks (omega arith))

site_count : (fs : Facts) (i : Instr) → length (site_of fs i) ≡ sites_in i
site_count fs (Call dest callee count args) = refl
site_count fs (Const d w) = refl
site_count fs (Move d s) = refl
site_count fs (Conv d t s) = refl
site_count fs (Bin o d a b) = refl
site_count fs (Get d g) = refl
site_count fs (Set g s) = refl
site_count fs (GetX d g i) = refl
site_count fs (SetX g i s) = refl
site_count fs (GetA d a i) = refl
site_count fs (SetA a i s) = refl
site_count fs (Clear r c a m) = refl
site_count fs Turn = refl
site_count fs (GetChar d) = refl
site_count fs (PutChar d s) = refl

in_count : (fs : Facts) (is : List Instr) → length (known_in fs is) ≡ sites_of is
in_count fs [] = refl
in_count fs (i ∷ is) =
    let a = length-append (site_of fs i) (known_in (after i fs) is) in
    let b = site_count fs i in
    let c = in_count (after i fs) is in
    omega arith

from_count : (r : RoutineParts) (b : ℕ) (xs : List Block) → length (known_from r b xs) ≡ sites_of_blocks xs
from_count r b [] = refl
from_count r b (x ∷ xs) =
    let a = length-append (known_in (facts_at r b) x.instrs) (known_from r (suc b) xs) in
    let c = in_count (facts_at r b) x.instrs in
    let d = from_count r (suc b) xs in
    omega arith

-- as many sites are known as there are calls
pub known_count : (r : RoutineParts) → length (known_sites r) ≡ sites_of_blocks r.blocks
known_count r = from_count r 0 r.blocks

other_move : (o : Option ℕ) (j k callee : ℕ) (rest : List SiteMove) → nat_eq j k ≡ false
    → callee_at (with_move o j rest) k callee ≡ callee_at rest k callee
other_move None j k callee rest e = refl
other_move (Some c) j k callee rest e = ap (λ b. if b then c else callee_at rest k callee) e

own_move : (o : Option ℕ) (j k callee : ℕ) (rest : List SiteMove) → nat_eq j k ≡ true → callee_at rest k callee ≡ callee
    → callee_at (with_move o j rest) k callee ≡ unwrap_or o callee
own_move None j k callee rest e none = none
own_move (Some c) j k callee rest e none = ap (λ b. if b then c else callee_at rest k callee) e

-- where sites go as the accepted groups say
module _ (ss : List Summary) (main : ℕ) (table : List Row) (ts : List Taken) where
  abbrev pub Goes : CallSite → Type 0
  Goes x = clone_of_site ss table main x ≡ clone_of_member ts (member_of x)

  abbrev site_at : ℕ → ℕ → KnownSite → Option ℕ
  site_at q j s = clone_of_site ss table main (record { caller = q; number = j; site = s })

  abbrev moves_from : ℕ → ℕ → List KnownSite → List SiteMove
  moves_from q j sites = moves ss table main (numbered q j sites)

  before : (q j : ℕ) (sites : List KnownSite) (k callee : ℕ) → k < j → callee_at (moves_from q j sites) k callee ≡ callee
  before q j [] k callee lt = refl
  before q j (s ∷ sites) k callee lt =
      other_move (site_at q j s) j k callee (moves_from q (suc j) sites) (other_number j k (λ e. absurd (omega arith)))
      ∙ before q (suc j) sites k callee (omega arith)

  -- each site's callee by its moves is the one that the groups give
  pub move_at : (q j : ℕ) (sites : List KnownSite) (k callee : ℕ) → AllByRecursion Goes (numbered q j sites) → j ≤ k → k < j + length sites
      → callee_at (moves_from q j sites) k callee ≡ unwrap_or (clone_of_member ts (record { caller = q; site = k })) callee
  move_at q j [] k callee h le less = absurd (omega arith)
  move_at q j (s ∷ sites) k callee h le less =
      elim (cases_lt j k) [
        | inl lt ↦ other_move (site_at q j s) j k callee (moves_from q (suc j) sites) (other_number j k (λ e. absurd (omega arith)))
            ∙ move_at q (suc j) sites k callee h.1 (omega arith) (omega arith)
        | inr ge ↦ here (omega arith)
      ]
    where
      here : j ≡ k → callee_at (with_move (site_at q j s) j (moves_from q (suc j) sites)) k callee
          ≡ unwrap_or (clone_of_member ts (record { caller = q; site = k })) callee
      here e =
          own_move (site_at q j s) j k callee (moves_from q (suc j) sites) (subst (λ n. nat_eq j n ≡ true) e (number_itself j))
          (before q (suc j) sites k callee (omega arith))
          ∙ ap (λ o. unwrap_or o callee) (h.0 ∙ ap (λ n. clone_of_member ts (record { caller = q; site = n })) e)
