-- A table of places, filled from the last summary on.
use Rattle.std.proofs.Common.{◌≡◌, ℕ, ◌+◌, ◌<◌, ◌≤◌, List, [], ◌∷◌, ◌++◌, map, Option, Some, None, refl, ap, sym, subst, ◌∙◌, arith, length, take}
use Rattle.std.proofs.Common.{get_or, set, slice_get, nat_eq, append_assoc, inl, inr, length-set}
use Rattle.std.specs.List.{AllByRecursion}
use Rattle.std.proofs.lemmas.Bool.{cases_Bool, eqb-true, eqb-false}
use Rattle.std.proofs.lemmas.List.{get_or-set_same, get_or-set_other, take_more}
use Rattle.il_laws.proofs.Grown.{all_to}
use Rattle.list_laws.proofs.Elements.{all_added}
use Rattle.plan_laws.specs.Summary.{summary_at}
use Rattle.call_graph.specs.Summaries.{summary_of}
use Rattle.call_graph.specs.declared.summary.Summary.{Summary}
use Rattle.clone_groups.specs.Places.{Finds, seen_at}
use Rattle.clone_groups.proofs.Tables.{is_nothing}

-- PIDs below a number
pub below_more : (xs : List Summary) (i m n : ℕ) (x : Summary) → AllByRecursion (λ r. r.pid < m) (take i xs) → m ≤ n → x.pid < n → i < length xs
    → x ≡ get_or xs i x → AllByRecursion (λ r. r.pid < n) (take (i + 1) xs)
below_more xs i m n x h le lt within is =
    let more : take (i + 1) xs ≡ take i xs ++ x ∷ [] = take_more xs i x within ∙ ap (λ (y : Summary). take i xs ++ y ∷ []) (sym is) in
    subst (AllByRecursion (λ (r : Summary). r.pid < n)) (sym more)
    (all_added (λ (r : Summary). r.pid < n) (take i xs) x
    (all_to (λ (r : Summary). r.pid < m) (λ r. r.pid < n) (take i xs) (λ r below. omega (arith, below)) h) lt)

-- one of a list
one_of : (P : Summary → Type 0) (before behind : List Summary) (r : Summary) → AllByRecursion P (before ++ r ∷ behind) → P r
one_of P [] behind r h = h.0
one_of P (x ∷ before) behind r h = one_of P before behind r h.1

read_there : (before behind : List Summary) (r : Summary) → slice_get (map summary_of (before ++ r ∷ behind)) (length before) ≡ Some (summary_of r)
read_there [] behind r = refl
read_there (x ∷ before) behind r = read_there before behind r

-- the table has the summaries behind those that are left
pub record Noting (s left : List Summary) (n : ℕ) (t : List (Option ℕ)) : Type 0 where
  pub behind : List Summary
  pub whole : s ≡ left ++ behind
  pub size : length t ≡ n
  pub at : (pid : ℕ) → seen_at (map summary_of s) (get_or t pid None) ≡ summary_at (map summary_of behind) pid

pub none_noted : (s : List Summary) (n : ℕ) (t : List (Option ℕ)) → length t ≡ n → ((pid : ℕ) → get_or t pid None ≡ None) → Noting s s n t
none_noted s n t size none = record {
  behind = [];
  whole = all_left s;
  size = size;
  at = λ pid. ap (seen_at (map summary_of s)) (none pid);
}
  where
    all_left : (xs : List Summary) → xs ≡ xs ++ []
    all_left [] = refl
    all_left (x ∷ xs) = ap (λ (l : List Summary). x ∷ l) (all_left xs)

module _ (s left before : List Summary) (r : Summary) (n : ℕ) (t : List (Option ℕ)) (e : left ≡ before ++ r ∷ []) (f : Noting s left n t) where
  whole : s ≡ before ++ r ∷ f.behind
  whole = f.whole ∙ ap (λ (l : List Summary). l ++ f.behind) e ∙ append_assoc before (r ∷ []) f.behind

  pub within : AllByRecursion (λ x. x.pid < n) s → r.pid < length t
  within h =
      let one : r.pid < n = one_of (λ (x : Summary). x.pid < n) before f.behind r (subst (AllByRecursion (λ (x : Summary). x.pid < n)) whole h) in
      let size = f.size in omega arith

  pub noted_one : r.pid < length t → Noting s before n (set t r.pid (Some (length before)))
  noted_one lt = record {
    behind = r ∷ f.behind;
    whole = whole;
    size = length-set t r.pid (Some (length before)) ∙ f.size;
    at = λ pid. elim (cases_Bool (nat_eq r.pid pid)) [
      | inl is ↦ rw is (ap (λ (k : ℕ). seen_at (map summary_of s) (get_or (set t r.pid (Some (length before))) k None)) (sym (eqb-true r.pid pid is))
          ∙ ap (seen_at (map summary_of s)) (get_or-set_same t r.pid (Some (length before)) None lt)
          ∙ ap (λ (l : List Summary). slice_get (map summary_of l) (length before)) whole ∙ read_there before f.behind r)
      | inr not ↦ rw not (ap (seen_at (map summary_of s)) (get_or-set_other t r.pid pid (Some (length before)) None
          (λ same. eqb-false r.pid pid not (sym same))) ∙ f.at pid)
    ];
  }

pub all_noted : (s left : List Summary) (n : ℕ) (t : List (Option ℕ)) → length left ≡ 0 → Noting s left n t → Finds t (map summary_of s)
all_noted s left n t none f =
    let all : s ≡ f.behind = f.whole ∙ ap (λ (l : List Summary). l ++ f.behind) (is_nothing left none) in
    record { at = λ pid. f.at pid ∙ ap (λ (l : List Summary). summary_at (map summary_of l) pid) (sym all) }
