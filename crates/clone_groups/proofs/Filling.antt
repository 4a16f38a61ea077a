-- A table that says what moves say, filled from the last one on.
use Rattle.std.proofs.Common.{◌≡◌, ℕ, ◌<◌, List, [], ◌∷◌, ◌++◌, true, Option, Some, None, nat_eq, get_or, set, length, refl, ap, sym, ◌∙◌, arith}
use Rattle.std.proofs.Common.{append_assoc, inl, inr, length-set}
use Rattle.std.specs.Prelude.{nat_lt}
use Rattle.std.specs.Option.{unwrap_or}
use Rattle.std.proofs.lemmas.Bool.{cases_Bool, eqb-true, eqb-false, lt-ltb}
use Rattle.std.proofs.lemmas.List.{get_or-set_same, get_or-set_other}
use Rattle.clone_groups.specs.Moves.{HasMoves, callee_in, moves_of, put_callee}

-- the moves behind those that are left are in the table
pub record Filling (moves left : List (ℕ × ℕ)) (n : ℕ) (t : List (Option ℕ)) : Type 0 where
  pub done : List (ℕ × ℕ)
  pub whole : moves ≡ left ++ done
  pub size : length t ≡ n
  pub has : HasMoves n t (moves_of done)

put_size : (t : List (Option ℕ)) (site callee : ℕ) → length (put_callee t site callee) ≡ length t
put_size t site callee = elim (cases_Bool (nat_lt site (length t))) [
  | inl is ↦ rw is (length-set t site (Some callee))
  | inr not ↦ rw not refl
]

module _ (n : ℕ) (t : List (Option ℕ)) (ms : List (ℕ × ℕ)) (size : length t ≡ n) (h : HasMoves n t (moves_of ms)) (m : ℕ × ℕ) where
  same_place : (k callee : ℕ) → k < n → m.0 ≡ k → callee_in (put_callee t m.0 m.1) k callee ≡ m.1
  same_place k callee lt e =
      let within : nat_lt m.0 (length t) ≡ true = lt-ltb m.0 (length t) (omega arith) in
      let read : get_or (set t m.0 (Some m.1)) m.0 None ≡ Some m.1 = get_or-set_same t m.0 (Some m.1) None (omega arith) in
      rw within (ap (λ (o : Option ℕ). unwrap_or o callee) (ap (λ (j : ℕ). get_or (set t m.0 (Some m.1)) j None) (sym e) ∙ read))

  other_place : (k callee : ℕ) → (m.0 ≡ k → ⊥) → callee_in (put_callee t m.0 m.1) k callee ≡ callee_in t k callee
  other_place k callee other = elim (cases_Bool (nat_lt m.0 (length t))) [
    | inl is ↦ rw is (ap (λ (o : Option ℕ). unwrap_or o callee) (get_or-set_other t m.0 k (Some m.1) None (λ e. other (sym e))))
    | inr not ↦ rw not refl
  ]

  pub one_put : HasMoves n (put_callee t m.0 m.1) (moves_of (m ∷ ms))
  one_put = record {
    says = λ k callee lt. elim (cases_Bool (nat_eq m.0 k)) [
      | inl is ↦ rw is (same_place k callee lt (eqb-true m.0 k is))
      | inr not ↦ rw not (other_place k callee (eqb-false m.0 k not) ∙ h.says k callee lt)
    ];
  }

pub fills_one : (moves left before : List (ℕ × ℕ)) (m : ℕ × ℕ) (n : ℕ) (t : List (Option ℕ)) → left ≡ before ++ m ∷ [] → Filling moves left n t
    → Filling moves before n (put_callee t m.0 m.1)
fills_one moves left before m n t e f = record {
  done = m ∷ f.done;
  whole = f.whole ∙ ap (λ (l : List (ℕ × ℕ)). l ++ f.done) e ∙ append_assoc before (m ∷ []) f.done;
  size = put_size t m.0 m.1 ∙ f.size;
  has = one_put n t f.done f.size f.has m;
}
