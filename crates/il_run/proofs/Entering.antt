-- The arguments of a call, one after another.
use Rattle.std.proofs.Common.{◌≡◌, ℕ, ◌+◌, ◌-◌, ◌<◌, ◌≤◌, List, [], ◌∷◌, ◌++◌, length, take, get_or, ap, sym, ◌∙◌, arith, append_assoc, length-append}
use Rattle.std.specs.Prelude.{slice_index, replicate}
use Rattle.std.specs.List.{AllByRecursion}
use Rattle.std.proofs.lemmas.List.{take_more, take_all, get_or_append_left}
use Rattle.il_core.specs.World.{each}
use Rattle.il_run.specs.Words.{window}
use Rattle.il_core.proofs.Found.{all_at}
use Rattle.il_run.proofs.Words.{window_in, each_more, each_length}

-- an argument's register lies among the caller's
pub argument_in : (args : List ℕ) (k n : ℕ) → AllByRecursion (λ x. x < n) args → k < length args → get_or args k 0 < n
argument_in args k n all lt = all_at (λ (x : ℕ). x < n) args k 0 all lt

-- one more argument is read from the caller's registers and stands behind the others
pub argument_more : (xs now new args : List ℕ) (base n k v : ℕ) → AllByRecursion (λ x. x < n) args → k < length args → base + n ≤ length xs
    → now ≡ xs ++ each (window xs base n) (take k args) → v ≡ slice_index now (base + get_or args k 0) → new ≡ now ++ v ∷ []
    → new ≡ xs ++ each (window xs base n) (take (k + 1) args)
argument_more xs now new args base n k v all lt fit is read push =
    let f = window xs base n in
    let x = get_or args k 0 in
    let inner : x < n = argument_in args k n all lt in
    let value : v ≡ f x = read ∙ ap (λ (ys : List ℕ). slice_index ys (base + x)) is ∙ get_or_append_left xs (each f (take k args)) 0 (base + x) (omega arith) ∙
    sym (window_in xs base n x inner) in
    push
    ∙ ap (λ (ys : List ℕ). ys ++ v ∷ []) is
    ∙ append_assoc xs (each f (take k args)) (v ∷ [])
    ∙ ap (λ (u : ℕ). xs ++ (each f (take k args) ++ u ∷ [])) value
    ∙ ap (λ (ys : List ℕ). xs ++ ys) (sym (each_more f (take k args) x) ∙ ap (each f) (sym (take_more args k 0 lt)))

-- all arguments were read
pub arguments_all : (xs now args : List ℕ) (f : ℕ → ℕ) (k : ℕ) → length args ≤ k → now ≡ xs ++ each f (take k args) → now ≡ xs ++ each f args
arguments_all xs now args f k le is = is ∙ ap (λ (ys : List ℕ). xs ++ each f ys) (take_all k args le)

pub arguments_length : (xs now args : List ℕ) (f : ℕ → ℕ) (k : ℕ) → length args ≤ k → now ≡ xs ++ each f (take k args) → length now ≡ length xs + length args
arguments_length xs now args f k le is = ap length (arguments_all xs now args f k le is) ∙ length-append xs (each f args) ∙ ap (λ (n : ℕ). length xs + n)
    (each_length f args)

pub arguments_zeros : (xs now new args : List ℕ) (f : ℕ → ℕ) (k m n : ℕ) → length args ≤ k → now ≡ xs ++ each f (take k args) → new ≡ now ++ replicate m 0
    → m ≡ n - length (each f args) → new ≡ xs ++ (each f args ++ replicate (n - length (each f args)) 0)
arguments_zeros xs now new args f k m n le is zeros many =
    zeros ∙ ap (λ (ys : List ℕ). ys ++ replicate m 0) (arguments_all xs now args f k le is) ∙ append_assoc xs (each f args) (replicate m 0) ∙ ap
    (λ (j : ℕ). xs ++ (each f args ++ replicate j 0)) many
