-- Tables of moves by caller.
use Rattle.std.proofs.Common.{◌≡◌, ◌+◌, ◌<◌, ℕ, Bool, true, false, List, [], ◌∷◌, ◌++◌, nat_eq, get_or, take, length, refl, sym, ap, subst, true≢false}
use Rattle.std.proofs.Common.{append_assoc, ◌∙◌}
use Rattle.std.specs.Prelude.{if◌then◌else◌, slice_set}
use Rattle.std.specs.List.{AllByRecursion}
use Rattle.std.proofs.lemmas.List.{get_or-set_other, get_or-set_same, length-set, take_more}
use Rattle.list_laws.proofs.Entries.{number_itself, same_number}
use Rattle.il_core.proofs.Found.{all_at}
use Rattle.clone_groups.specs.declared.groups.Group.{Group}
use Rattle.plan_pools.specs.declared.moves.CallerMoves.{CallerMoves}
use Rattle.group_moves.specs.Gathering.{IsTable, all_moves, moves_to}

-- a member more
moves_push : (q clone : ℕ) (xs : List (ℕ × ℕ)) (m : ℕ × ℕ)
    → moves_to q clone (xs ++ m ∷ []) ≡ moves_to q clone xs ++ (if nat_eq m.0 q then (m.1, clone) ∷ [] else [])
moves_push q clone [] m = refl
moves_push q clone (x ∷ xs) m =
    ap (λ (ms : List (ℕ × ℕ)). if nat_eq x.0 q then (x.1, clone) ∷ ms else ms) (moves_push q clone xs m) ∙ by (nat_eq x.0 q)
  where
    by : (b : Bool) → (if b then (x.1, clone) ∷ (moves_to q clone xs ++ (if nat_eq m.0 q then (m.1, clone) ∷ [] else []))
        else moves_to q clone xs ++ (if nat_eq m.0 q then (m.1, clone) ∷ [] else []))
        ≡ (if b then (x.1, clone) ∷ moves_to q clone xs else moves_to q clone xs) ++ (if nat_eq m.0 q then (m.1, clone) ∷ [] else [])
    by true = refl
    by false = refl

all_push : (q : ℕ) (gs : List Group) (g : Group) → all_moves q (gs ++ g ∷ []) ≡ all_moves q gs ++ moves_to q g.clone g.members
all_push q [] g = nothing (moves_to q g.clone g.members)
  where
    nothing : (xs : List (ℕ × ℕ)) → xs ++ [] ≡ xs
    nothing [] = refl
    nothing (x ∷ xs) = ap (λ ys. x ∷ ys) (nothing xs)
all_push q (x ∷ gs) g =
    ap (λ (ms : List (ℕ × ℕ)). moves_to q x.clone x.members ++ ms) (all_push q gs g)
    ∙ sym (append_assoc (moves_to q x.clone x.members) (all_moves q gs) (moves_to q g.clone g.members))

append_nothing : (xs : List (ℕ × ℕ)) → xs ++ [] ≡ xs
append_nothing [] = refl
append_nothing (x ∷ xs) = ap (λ ys. x ∷ ys) (append_nothing xs)

-- the same moves, told otherwise
pub table_as : (n : ℕ) (f g : ℕ → List (ℕ × ℕ)) (t : List CallerMoves) → ((q : ℕ) → f q ≡ g q) → IsTable n f t → IsTable n g t
table_as n f g t same h = record { long = h.long; has = λ i d lt. h.has i d lt ∙ ap (λ (ms : List (ℕ × ℕ)). record { caller = i; moves = ms }) (same i) }

-- a move more of a caller
module _ (n caller : ℕ) (f : ℕ → List (ℕ × ℕ)) (t : List CallerMoves) (x : CallerMoves) (more : ℕ × ℕ) (h : IsTable n f t) (lt : caller < n) where
  abbrev was : CallerMoves
  was = get_or t caller x

  abbrev new : CallerMoves
  new = record was { moves = was.moves ++ more ∷ [] }

  pub noted : IsTable n (λ q. f q ++ (if nat_eq caller q then more ∷ [] else [])) (slice_set t caller new)
  noted = record { long = length-set t caller new ∙ h.long; has = λ i d less. at i d less (nat_eq caller i) refl }
    where
      inside : caller < length t
      inside = subst (λ m. caller < m) (sym h.long) lt

      at : (i : ℕ) (d : CallerMoves) → i < n → (b : Bool) → nat_eq caller i ≡ b
          → get_or (slice_set t caller new) i d ≡ record { caller = i; moves = f i ++ (if nat_eq caller i then more ∷ [] else []) }
      at i d less true e =
          let here = same_number caller i e in
          ap (λ j. get_or (slice_set t caller new) j d) (sym here)
          ∙ get_or-set_same t caller new d inside
          ∙ ap (λ (z : CallerMoves). record z { moves = z.moves ++ more ∷ [] }) (h.has caller x lt)
          ∙ ap (λ j. record { caller = j; moves = f j ++ more ∷ [] }) here
          ∙ sym (ap (λ b. record { caller = i; moves = f i ++ (if b then more ∷ [] else []) }) e)
      at i d less false e =
          get_or-set_other t caller i new d (λ same. true≢false (sym (number_itself caller) ∙ ap (nat_eq caller) (sym same) ∙ e))
          ∙ h.has i d less ∙ ap (λ (ms : List (ℕ × ℕ)). record { caller = i; moves = ms }) (sym (append_nothing (f i)))
          ∙ sym (ap (λ b. record { caller = i; moves = f i ++ (if b then more ∷ [] else []) }) e)

-- the next member
pub noted_next : (n clone : ℕ) (had : ℕ → List (ℕ × ℕ)) (members : List (ℕ × ℕ)) (k : ℕ) (t : List CallerMoves) (x : CallerMoves)
    → IsTable n (λ q. had q ++ moves_to q clone (take k members)) t → k < length members → AllByRecursion (λ m. m.0 < n) members
    → IsTable n (λ q. had q ++ moves_to q clone (take (k + 1) members))
    (slice_set t (get_or members k (0, 0)).0 (record (get_or t (get_or members k (0, 0)).0 x)
    { moves = (get_or t (get_or members k (0, 0)).0 x).moves ++ ((get_or members k (0, 0)).1, clone) ∷ [] }))
noted_next n clone had members k t x h less low =
    table_as n (λ q. (had q ++ moves_to q clone (take k members)) ++ last q) (λ q. had q ++ moves_to q clone (take (k + 1) members)) _ same
    (noted n (get_or members k (0, 0)).0 (λ q. had q ++ moves_to q clone (take k members)) t x ((get_or members k (0, 0)).1, clone) h
    (all_at (λ m. m.0 < n) members k (0, 0) low less))
  where
    last : ℕ → List (ℕ × ℕ)
    last q = if nat_eq (get_or members k (0, 0)).0 q then ((get_or members k (0, 0)).1, clone) ∷ [] else []

    same : (q : ℕ) → (had q ++ moves_to q clone (take k members)) ++ last q ≡ had q ++ moves_to q clone (take (k + 1) members)
    same q =
        append_assoc (had q) (moves_to q clone (take k members)) (last q)
        ∙ ap (λ (ms : List (ℕ × ℕ)). had q ++ ms)
        (sym (ap (moves_to q clone) (take_more members k (0, 0) less) ∙ moves_push q clone (take k members) (get_or members k (0, 0))))

-- the next group
pub noted_group : (n : ℕ) (had : ℕ → List (ℕ × ℕ)) (gs : List Group) (k : ℕ) (g : Group) (t : List CallerMoves) → k < length gs → g ≡ get_or gs k g
    → IsTable n (λ q. (had q ++ all_moves q (take k gs)) ++ moves_to q g.clone g.members) t
    → IsTable n (λ q. had q ++ all_moves q (take (k + 1) gs)) t
noted_group n had gs k g t less here h =
    table_as n (λ q. (had q ++ all_moves q (take k gs)) ++ moves_to q g.clone g.members) (λ q. had q ++ all_moves q (take (k + 1) gs)) t same h
  where
    same : (q : ℕ) → (had q ++ all_moves q (take k gs)) ++ moves_to q g.clone g.members ≡ had q ++ all_moves q (take (k + 1) gs)
    same q =
        append_assoc (had q) (all_moves q (take k gs)) (moves_to q g.clone g.members)
        ∙ ap (λ (ms : List (ℕ × ℕ)). had q ++ ms)
        (sym (ap (all_moves q) (take_more gs k g less ∙ ap (λ y. take k gs ++ y ∷ []) (sym here)) ∙ all_push q (take k gs) g))
