-- How loaders and their trails go on while clones are made.
use Rattle.std.proofs.Common.{◌≡◌, ◌+◌, ℕ, zero, suc, Bool, List, [], ◌∷◌, ◌++◌, refl, sym, ap, subst, arith, le_trans, le_refl, ◌∙◌}
use Rattle.std.proofs.lemmas.List.{append-nil, append_assoc}
use Rattle.naim_loader.specs.Paged.{Paged, IsGood, IsTrusted}
use Rattle.one_owner.specs.Going.{Stays}
use Rattle.clone_pools.specs.States.{GrowsOn, pids_from}

pub pids_more : (p n m : ℕ) → pids_from p (n + m) ≡ pids_from p n ++ pids_from (p + n) m
pids_more p zero m = let e : p ≡ p + 0 = omega arith in let f : 0 + m ≡ m = omega arith in ap (pids_from p) f ∙ ap (λ q. pids_from q m) e
pids_more p (suc n) m =
    let e : suc p + n ≡ p + suc n = omega arith in
    let f : suc n + m ≡ suc (n + m) = omega arith in
    ap (pids_from p) f ∙ ap (λ qs. p ∷ qs) (pids_more (suc p) n m ∙ ap (λ q. pids_from (suc p) n ++ pids_from q m) e)

module _ {T B D : Type 0} (faults : D → ℕ) where
  pub grows_stays : (a b : Paged T B D) (n : ℕ) → Stays faults a b → b.trail.insertions ≡ a.trail.insertions → GrowsOn faults [] a n b n
  grows_stays a b n s same = record {
    limit = s.limit;
    workers = s.workers;
    first = s.first;
    later = s.later;
    programs = s.programs ∙ sym (append-nil a.trail.programs);
    clones = 0;
    next_is = omega arith;
    insertions = same ∙ sym (append-nil a.trail.insertions);
  }

  pub grows_one : (a b : Paged T B D) (n m c : ℕ) → Stays faults a b → b.trail.insertions ≡ a.trail.insertions ++ c ∷ [] → c ≡ n → m ≡ n + 1
      → GrowsOn faults [] a n b m
  grows_one a b n m c s more at next = record {
    limit = s.limit;
    workers = s.workers;
    first = s.first;
    later = s.later;
    programs = s.programs ∙ sym (append-nil a.trail.programs);
    clones = 1;
    next_is = next;
    insertions = more ∙ ap (λ q. a.trail.insertions ++ q ∷ []) at;
  }

  pub grows_itself : (l : Paged T B D) (n : ℕ) → GrowsOn faults [] l n l n
  grows_itself l n = record {
    limit = refl;
    workers = refl;
    first = refl;
    later = le_refl (faults l.disk);
    programs = sym (append-nil l.trail.programs);
    clones = 0;
    next_is = omega arith;
    insertions = sym (append-nil l.trail.insertions);
  }

  pub grows_on : (xs ys : List (List (ℕ × T))) (a b c : Paged T B D) (n m k : ℕ) → GrowsOn faults xs a n b m → GrowsOn faults ys b m c k
      → GrowsOn faults (xs ++ ys) a n c k
  grows_on xs ys a b c n m k x y = record {
    limit = y.limit ∙ x.limit;
    workers = y.workers ∙ x.workers;
    first = y.first ∙ x.first;
    later = le_trans x.later y.later;
    programs = y.programs ∙ ap (λ l. l ++ ys) x.programs ∙ append_assoc a.trail.programs xs ys;
    clones = x.clones + y.clones;
    next_is = let e = x.next_is in let f = y.next_is in omega (arith, e, f);
    insertions =
        y.insertions ∙ ap (λ l. l ++ pids_from m y.clones) x.insertions
        ∙ append_assoc a.trail.insertions (pids_from n x.clones) (pids_from m y.clones)
        ∙ ap (λ q. a.trail.insertions ++ (pids_from n x.clones ++ pids_from q y.clones)) x.next_is
        ∙ ap (λ l. a.trail.insertions ++ l) (sym (pids_more n x.clones y.clones));
  }

  pub trusted_still : (reach : D → ℕ) (honest : D → Bool) (xs : List (List (ℕ × T))) (a b : Paged T B D) (n m : ℕ) → GrowsOn faults xs a n b m
      → IsTrusted reach honest a → IsTrusted reach honest b
  trusted_still reach honest xs a b n m s g =
      subst (λ k. IsGood reach honest k b.first) (sym s.limit) (subst (IsGood reach honest a.core.limit) (sym s.first) g)
