-- The moves of groups say what the groups say.
use Rattle.std.proofs.Common.{◌≡◌, ◌+◌, ◌<◌, ◌≤◌, ℕ, Bool, true, false, List, [], ◌∷◌, ◌++◌, map, nat_eq, get_or, length, take, Result, Ok, Err, Some}
use Rattle.std.proofs.Common.{refl, sym, ap, subst, arith, inl, inr, ◌∙◌}
use Rattle.std.specs.Prelude.{◌&&◌, ◌||◌, IfOk, filter, if◌then◌else◌}
use Rattle.std.specs.List.{AllByRecursion}
use Rattle.std.specs.Option.{unwrap_or}
use Rattle.std.proofs.lemmas.Bool.{cases_lt}
use Rattle.std.proofs.lemmas.List.{take_at}
use Rattle.list_laws.proofs.Entries.{other_number}
use Rattle.il_core.specs.Limits.{max_pids}
use Rattle.il_core.specs.Shapes.{IsRising}
use Rattle.il_laws.specs.Retarget.{callee_at}
use Rattle.il_laws.proofs.SpliceBlocks.{all_append}
use Rattle.clone_groups.specs.Grouping.{accepted, pair_by}
use Rattle.clone_groups.specs.Moves.{moves_of}
use Rattle.clone_groups.specs.declared.groups.Group.{Group}
use Rattle.plan_laws.specs.GroupLaws.{clone_of_member, has_member}
use Rattle.plan_laws.specs.Groups.{Member, Taken}
use Rattle.plan_pools.specs.MoveLaws.{AreMovesOf}
use Rattle.plan_pools.specs.Retargeting.{AreMoves, moves_for}
use Rattle.plan_pools.specs.declared.moves.CallerMoves.{CallerMoves}
use Rattle.group_moves.specs.Gathering.{IsBelow, IsTable, all_moves, has_moves, moves_to}
use Rattle.group_moves.proofs.Finding.{all_found, found, high_none, rising}

moves_append : (xs ys : List (ℕ × ℕ)) (k callee : ℕ) → callee_at (moves_of (xs ++ ys)) k callee ≡ callee_at (moves_of xs) k (callee_at (moves_of ys) k callee)
moves_append [] ys k callee = refl
moves_append (x ∷ xs) ys k callee = ap (λ c. if nat_eq x.0 k then x.1 else c) (moves_append xs ys k callee)

-- the members of one group
group_says : (clone : ℕ) (members : List Member) (q k callee : ℕ)
    → callee_at (moves_of (moves_to q clone (map pair_by members))) k callee ≡ (if has_member members (record { caller = q; site = k }) then clone else callee)
group_says clone [] q k callee = refl
group_says clone (m ∷ ms) q k callee = by (nat_eq m.caller q) (nat_eq m.site k) refl (group_says clone ms q k callee)
  where
    rest : List (ℕ × ℕ)
    rest = moves_to q clone (map pair_by ms)

    by : (a b : Bool) → nat_eq m.site k ≡ b
        → callee_at (moves_of (moves_to q clone (map pair_by ms))) k callee ≡ (if has_member ms (record { caller = q; site = k }) then clone else callee)
        → callee_at (moves_of (if a then (m.site, clone) ∷ moves_to q clone (map pair_by ms) else moves_to q clone (map pair_by ms))) k callee
        ≡ (if (a && nat_eq m.site k) || has_member ms (record { caller = q; site = k }) then clone else callee)
    by false b e more = more
    by true true e more =
        ap (λ v. if v then clone else callee_at (moves_of (moves_to q clone (map pair_by ms))) k callee) e
        ∙ sym (ap (λ v. if v || has_member ms (record { caller = q; site = k }) then clone else callee) e)
    by true false e more =
        ap (λ v. if v then clone else callee_at (moves_of (moves_to q clone (map pair_by ms))) k callee) e ∙ more
        ∙ sym (ap (λ v. if v || has_member ms (record { caller = q; site = k }) then clone else callee) e)

-- and of all
groups_say : (ts : List Taken) (q k callee : ℕ)
    → callee_at (moves_of (all_moves q (map accepted ts))) k callee ≡ unwrap_or (clone_of_member ts (record { caller = q; site = k })) callee
groups_say [] q k callee = refl
groups_say (t ∷ ts) q k callee =
    moves_append (moves_to q t.clone (map pair_by t.group.members)) (all_moves q (map accepted ts)) k callee
    ∙ group_says t.clone t.group.members q k (callee_at (moves_of (all_moves q (map accepted ts))) k callee)
    ∙ by (has_member t.group.members (record { caller = q; site = k })) (groups_say ts q k callee)
  where
    by : (b : Bool) → callee_at (moves_of (all_moves q (map accepted ts))) k callee ≡ unwrap_or (clone_of_member ts (record { caller = q; site = k })) callee
        → (if b then t.clone else callee_at (moves_of (all_moves q (map accepted ts))) k callee)
        ≡ unwrap_or (if b then Some t.clone else clone_of_member ts (record { caller = q; site = k })) callee
    by true e = refl
    by false e = e

no_moves_to : (n q clone : ℕ) (ms : List (ℕ × ℕ)) → AllByRecursion (λ m. m.0 < n) ms → n ≤ q → moves_to q clone ms ≡ []
no_moves_to n q clone [] h le = refl
no_moves_to n q clone (m ∷ ms) h le =
    let lt = h.0 in
    ap (λ b. if b then (m.1, clone) ∷ moves_to q clone ms else moves_to q clone ms) (other_number m.0 q (λ e. absurd (omega arith)))
    ∙ no_moves_to n q clone ms h.1 le

-- a caller past the bound has no moves
none_past : (n q : ℕ) (gs : List Group) → AllByRecursion (IsBelow n) gs → n ≤ q → all_moves q gs ≡ []
none_past n q [] h le = refl
none_past n q (g ∷ gs) h le =
    ap (λ (ms : List (ℕ × ℕ)). ms ++ all_moves q gs) (no_moves_to n q g.clone g.members h.0.callers le) ∙ none_past n q gs h.1 le

to_pids : (q clone : ℕ) (ms : List (ℕ × ℕ)) → clone < max_pids → AllByRecursion (λ x. x.1 < max_pids) (moves_to q clone ms)
to_pids q clone [] lt = tt
to_pids q clone (m ∷ ms) lt = by (nat_eq m.0 q) (to_pids q clone ms lt)
  where
    by : (b : Bool) → AllByRecursion (λ x. x.1 < max_pids) (moves_to q clone ms)
        → AllByRecursion (λ x. x.1 < max_pids) (if b then (m.1, clone) ∷ moves_to q clone ms else moves_to q clone ms)
    by true rest = (lt, rest)
    by false rest = rest

all_to_pids : (n q : ℕ) (gs : List Group) → AllByRecursion (IsBelow n) gs → AllByRecursion (λ x. x.1 < max_pids) (all_moves q gs)
all_to_pids n q [] h = tt
all_to_pids n q (g ∷ gs) h =
    all_append (λ x. x.1 < max_pids) (moves_to q g.clone g.members) (all_moves q gs) (to_pids q g.clone g.members h.0.clone) (all_to_pids n q gs h.1)

-- a finished table
module _ (n : ℕ) (gs : List Group) (t : List CallerMoves) (below : AllByRecursion (IsBelow n) gs) (h : IsTable n (λ q. all_moves q gs) t) where
  from : (i : ℕ) (d : CallerMoves) → i < length t → get_or t i d ≡ record { caller = 0 + i; moves = all_moves (0 + i) gs }
  from i d lt =
      let e : i ≡ 0 + i = omega arith in
      h.has i d (subst (λ m. i < m) h.long lt) ∙ ap (λ j. record { caller = j; moves = all_moves j gs }) e

  pub told_rising : IsRising (λ m. m.caller) (filter has_moves t)
  told_rising = rising (λ q. all_moves q gs) t 0 from

  pub told_pids : AreMoves (filter has_moves t)
  told_pids = all_found (λ q. all_moves q gs) (λ ms. AllByRecursion (λ x. x.1 < max_pids) ms) t 0 from (λ q. all_to_pids n q gs below)

  pub told_some : AllByRecursion (λ m. has_moves m ≡ true) (filter has_moves t)
  told_some = passing t
    where
      passing : (ms : List CallerMoves) → AllByRecursion (λ m. has_moves m ≡ true) (filter has_moves ms)
      passing [] = tt
      passing (m ∷ ms) = by (has_moves m) refl (passing ms)
        where
          by : (b : Bool) → has_moves m ≡ b → AllByRecursion (λ m. has_moves m ≡ true) (filter has_moves ms)
              → AllByRecursion (λ m. has_moves m ≡ true) (if b then m ∷ filter has_moves ms else filter has_moves ms)
          by true e rest = (e, rest)
          by false e rest = rest

  moves_are : (q : ℕ) → moves_for (filter has_moves t) q ≡ moves_of (all_moves q gs)
  moves_are q =
      let long = h.long in
      elim (cases_lt q n) [
        | inl lt ↦ found (λ q. all_moves q gs) t 0 q from (omega arith) (omega arith)
        | inr le ↦ high_none (λ q. all_moves q gs) t 0 q from (omega arith) ∙ sym (ap moves_of (none_past n q gs below le))
      ]

  pub told_moves : (ts : List Taken) → gs ≡ map accepted ts → AreMovesOf ts (filter has_moves t)
  told_moves ts same m callee =
      ap (λ ms. callee_at ms m.site callee) (moves_are m.caller ∙ ap (λ (hs : List Group). moves_of (all_moves m.caller hs)) same)
      ∙ groups_say ts m.caller m.site callee

-- a table that was empty
pub noted_all : (bound : ℕ) (gs : List Group) (items old new : List CallerMoves) → IsTable bound (λ q. []) items → old ≡ items
    → ((had : ℕ → List (ℕ × ℕ)) → IsTable (length old) had old → IsTable (length old) (λ q. had q ++ all_moves q gs) new)
    → IsTable bound (λ q. all_moves q gs) new
noted_all bound gs items old new h same more =
    let long : length old ≡ bound = ap length same ∙ h.long in
    subst (λ n. IsTable n (λ q. all_moves q gs) new) long
    (more (λ q. []) (subst (λ n. IsTable n (λ q. []) old) (sym long) (subst (IsTable bound (λ q. [])) (sym same) h)))

-- what holds of the callers that have moves holds of the answer
pub answer_so : {E : Type 0} {V : Type 0} (items_of : V → List CallerMoves) (Q : List CallerMoves → Type 0)
    (r : Result V E) (new rest : List CallerMoves) (len : ℕ)
    → length new ≡ len → Q (filter has_moves new) → IfOk r (λ v. items_of v ≡ filter has_moves (take len (new ++ rest))) → IfOk r (λ v. Q (items_of v))
answer_so items_of Q (Ok v) new rest len long q e = subst Q (sym (e ∙ ap (filter has_moves) (take_at new rest len long))) q
answer_so items_of Q (Err e) new rest len long q h = tt
