-- The callers of the moves of accepted groups are members' callers.
use Rattle.std.proofs.Common.{◌≡◌, ◌<◌, ℕ, suc, Bool, true, false, nat_eq, List, [], ◌∷◌, IsSome, map, refl, ap, sym, subst, arith, eqb-true, ◌∙◌}
use Rattle.std.specs.Prelude.{◌&&◌, ◌||◌, if◌then◌else◌, Option, Some, None}
use Rattle.std.specs.List.{AllByRecursion}
use Rattle.std.specs.Option.{unwrap_or}
use Rattle.list_laws.proofs.Entries.{number_itself, other_number}
use Rattle.list_laws.proofs.Tests.{and_first}
use Rattle.il_core.specs.Program.{routine_at}
use Rattle.il_core.specs.Shapes.{IsRising, IsRisingFrom}
use Rattle.il_core.specs.declared.program.IlProgram.{IlProgram}
use Rattle.il_laws.specs.Retarget.{callee_at}
use Rattle.clone_groups.specs.Grouping.{accepted}
use Rattle.clone_groups.specs.Moves.{moves_of}
use Rattle.clone_groups.specs.declared.groups.Group.{Group}
use Rattle.group_moves.specs.Gathering.{has_moves, some_moves}
use Rattle.plan_laws.specs.GroupLaws.{clone_of_member, has_member}
use Rattle.plan_laws.specs.Groups.{Member, Taken}
use Rattle.plan_pools.specs.MoveLaws.{AreMovesOf}
use Rattle.plan_pools.specs.Retargeting.{callers_of, moves_for}
use Rattle.plan_pools.specs.declared.moves.CallerMoves.{CallerMoves}
use Rattle.clone_steps.specs.Sending.{MayMove, MaySend}

module _ (P : ℕ → Type 0) where
  of_member : (xs : List Member) (m : Member) → AllByRecursion (λ x. P x.caller) xs → has_member xs m ≡ true → P m.caller
  of_member [] m h e = absurd cc
  of_member (x ∷ xs) m h e = by (of_member xs m h.1) (nat_eq x.caller m.caller && nat_eq x.site m.site) refl e
    where
      by : (has_member xs m ≡ true → P m.caller) → (b : Bool) → (nat_eq x.caller m.caller && nat_eq x.site m.site) ≡ b → (b || has_member xs m) ≡ true → P m.caller
      by more true t k = subst P (eqb-true x.caller m.caller (and_first (nat_eq x.caller m.caller) (nat_eq x.site m.site) t)) h.0
      by more false t k = more k

  of_clone : (ts : List Taken) (m : Member) (k : ℕ) → AllByRecursion (λ t. AllByRecursion (λ x. P x.caller) t.group.members) ts
      → clone_of_member ts m ≡ Some k → P m.caller
  of_clone [] m k h e = absurd cc
  of_clone (t ∷ ts) m k h e = by (of_clone ts m k h.1) (has_member t.group.members m) refl e
    where
      by : (clone_of_member ts m ≡ Some k → P m.caller) → (b : Bool) → has_member t.group.members m ≡ b → (if b then Some t.clone else clone_of_member ts m) ≡ Some k → P m.caller
      by more true has d = of_member t.group.members m h.0 has
      by more false has d = more d

  module _ (ts : List Taken) (all : AllByRecursion (λ t. AllByRecursion (λ x. P x.caller) t.group.members) ts) where
    -- one that moves some site
    moving : (ms : List (ℕ × ℕ)) (q : ℕ) → some_moves ms ≡ true
        → ((site callee : ℕ) → callee_at (moves_of ms) site callee ≡ unwrap_or (clone_of_member ts (record { caller = q; site = site })) callee) → P q
    moving [] q e says = absurd cc
    moving (m ∷ ms) q e says = by (clone_of_member ts (record { caller = q; site = m.0 })) refl
      where
        goes : (callee : ℕ) → m.1 ≡ unwrap_or (clone_of_member ts (record { caller = q; site = m.0 })) callee
        goes callee = sym (ap (λ b. if b then m.1 else callee_at (moves_of ms) m.0 callee) (number_itself m.0)) ∙ says m.0 callee

        by : (o : Option ℕ) → clone_of_member ts (record { caller = q; site = m.0 }) ≡ o → P q
        by (Some k) e = of_clone ts (record { caller = q; site = m.0 }) k all e
        by None e =
            let bad : m.1 ≡ suc m.1 = goes (suc m.1) ∙ ap (λ o. unwrap_or o (suc m.1)) e in absurd (omega arith)

    callers_from : (b : ℕ) (ms : List CallerMoves) → IsRisingFrom (λ m. m.caller) b ms → AllByRecursion (λ m. has_moves m ≡ true) ms
        → ((m : Member) (callee : ℕ) → b < m.caller
        → callee_at (moves_for ms m.caller) m.site callee ≡ unwrap_or (clone_of_member ts m) callee) → AllByRecursion P (callers_of ms)
    callers_from b [] rise some says = tt
    callers_from b (m ∷ ms) rise some says = (
      moving m.moves m.caller some.0
          (λ site callee.
          sym (ap (λ (t : Bool). callee_at (if t then moves_of m.moves else moves_for ms m.caller) site callee) (number_itself m.caller))
          ∙ says (record { caller = m.caller; site = site }) callee rise.0),
      callers_from m.caller ms rise.1 some.1
          (λ x callee lt.
          (let first = rise.0 in
          sym (ap (λ (t : Bool). callee_at (if t then moves_of m.moves else moves_for ms x.caller) x.site callee)
          (other_number m.caller x.caller (λ e. absurd (omega (arith, e, lt)))))
          ∙ says x callee (omega (arith, first, lt)))),
    )

    pub callers_all : (ms : List CallerMoves) → IsRising (λ m. m.caller) ms → AllByRecursion (λ m. has_moves m ≡ true) ms → AreMovesOf ts ms
        → AllByRecursion P (callers_of ms)
    callers_all [] rise some says = tt
    callers_all (m ∷ ms) rise some says = (
      moving m.moves m.caller some.0
          (λ site callee.
          sym (ap (λ (t : Bool). callee_at (if t then moves_of m.moves else moves_for ms m.caller) site callee) (number_itself m.caller))
          ∙ says (record { caller = m.caller; site = site }) callee),
      callers_from m.caller ms rise some.1
          (λ x callee lt.
          sym (ap (λ (t : Bool). callee_at (if t then moves_of m.moves else moves_for ms x.caller) x.site callee)
          (other_number m.caller x.caller (λ e. absurd (omega (arith, e, lt)))))
          ∙ says x callee),
    )

-- what groups may send, their moves may
pub may_move : (gs : List Group) (ms : List CallerMoves) → IsRising (λ m. m.caller) ms → AllByRecursion (λ m. has_moves m ≡ true) ms
    → ((ts : List Taken) → gs ≡ map accepted ts → AreMovesOf ts ms) → (p q : IlProgram) → MaySend gs p q → MayMove ms p q
may_move gs ms rise some says p q h = record {
  callers = callers_all (λ c. IsSome (routine_at p.routines c)) h.groups h.callers ms rise some (says h.groups h.are);
  valid = h.valid;
  same = h.moves ms (says h.groups h.are);
}
