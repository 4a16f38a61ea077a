-- Loops that follow rules in order: what was found so far stands before what is left.
use Rattle.std.proofs.Common.{◌≡◌, ℕ, List, [], ◌∷◌, ◌++◌, append_assoc, refl, sym, ap, ◌∙◌}
use Rattle.std.proofs.Common.{Result, Ok, Err}
use Rattle.c_types.specs.declared.fault.TypeFault.{TypeFault}
use Rattle.c_types.specs.declared.fault.TypeFault.TheVariants as faults
use Rattle.c_types.specs.Follows.{Follows, Tells}
use Rattle.c_types.specs.Rules.{Here, Reply, Gives, Breaks, Rule, followed, ◌>>=◌, give, in_order}

-- a reply with a list before what it gives
abbrev pub before : {A : Type 0} → List A → Reply (List A) → Reply (List A)
before xs (Gives ys h) = Gives (xs ++ ys) h
before xs (Breaks line kind) = Breaks line kind

-- one more before what is left
pub one_more : {A : Type 0} (xs : List A) (x : A) (r : Reply (List A)) → before (xs ++ x ∷ []) r ≡ before xs (followed r (λ ys. give (x ∷ ys)))
one_more xs x (Gives ys h) = ap (λ l. Gives l h) (append_assoc xs (x ∷ []) ys)
one_more xs x (Breaks line kind) = refl

-- a rule that gave something, with those behind it
pub given_first : {A : Type 0} (xs : List A) (rule : Rule A) (rest : List (Rule A)) (x : A) (h h' : Here) → rule h ≡ Gives x h'
    → before (xs ++ x ∷ []) (in_order rest h') ≡ before xs (in_order (rule ∷ rest) h)
given_first xs rule rest x h h' e = one_more xs x (in_order rest h') ∙ ap
    (λ r. before xs (followed r (λ y. λ h1. followed (in_order rest h1) (λ ys. give (y ∷ ys))))) (sym e)

-- a rule that is broken
pub broken_first : {A : Type 0} (xs : List A) (rule : Rule A) (rest : List (Rule A)) (line : ℕ) (kind : _) (h : Here) → rule h ≡ Breaks line kind
    → before xs (in_order (rule ∷ rest) h) ≡ Breaks line kind
broken_first xs rule rest line kind h e = ap (λ r. before xs (followed r (λ y. λ h1. followed (in_order rest h1) (λ ys. give (y ∷ ys))))) e

-- a rule behind one that gave something
pub follows_after : {X A B : Type 0} (view : X → B) (rule : Rule A) (next : A → Rule B) (a : A) (h h' new : Here) (res : Result X TypeFault)
    → rule h ≡ Gives a h' → Follows view (next a) h' res new → Follows view (rule >>= next) h res new
follows_after view rule next a h h' new (Ok x) e f = ap (λ r. followed r next) e ∙ f
follows_after view rule next a h h' new (Err (faults.At line kind)) e f = ap (λ r. followed r next) e ∙ f
follows_after view rule next a h h' new (Err faults.Memory) e f = tt

-- a rule behind one that is broken
pub tells_before : {A B : Type 0} (rule : Rule A) (next : A → Rule B) (h : Here) (fault : TypeFault) → Tells (rule h) fault → Tells ((rule >>= next) h) fault
tells_before rule next h (faults.At line kind) e = ap (λ r. followed r next) e
tells_before rule next h faults.Memory e = tt

pub tells_after : {A B : Type 0} (rule : Rule A) (next : A → Rule B) (a : A) (h h' : Here) (fault : TypeFault) → rule h ≡ Gives a h' → Tells (next a h') fault
    → Tells ((rule >>= next) h) fault
tells_after rule next a h h' (faults.At line kind) e f = ap (λ r. followed r next) e ∙ f
tells_after rule next a h h' faults.Memory e f = tt
