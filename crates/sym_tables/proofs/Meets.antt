-- What a symbol keeps when one more declaration of its name is taken in.
use Rattle.std.proofs.Common.{◌≡◌, ℕ, ◌≤◌, Bool, true, false, ◌&&◌, ◌==◌, if◌then◌else◌, List, length, nat_lt, Some, None, refl, ap, ◌∙◌, arith}
use Rattle.std.proofs.lemmas.Bool.Decides.{nat_tests}
use Rattle.hlo_num.specs.declared.word.Word.{Word}
use Rattle.il_core.specs.Limits.{max_parameters}
use Rattle.sym_tables.specs.declared.entity.Entity.{Entity}
use Rattle.sym_tables.specs.declared.entity.Entity.TheVariants.{Function, Scalar, Array}
use Rattle.sym_tables.specs.declared.symbol.Standing.{Standing}
use Rattle.sym_tables.specs.declared.symbol.Standing.TheVariants.{Declared, Tentative, Defined}
use Rattle.sym_tables.specs.declared.symbol.Symbol.{Symbol}
use Rattle.sym_tables.specs.Entities.{compatible, composite, words, parameters, lengths_agree}
use Rattle.sym_tables.specs.Sound.{FitsWords}
use Rattle.sym_tables.specs.Symbols.{met, later, is_declared, is_defined, is_open}
use Rattle.sym_tables.specs.Table.{is_wide}

and_right : (a b : Bool) → (a && b) ≡ true → b ≡ true
and_right true b h = h
and_right false b h = let c : false ≡ true = h in absurd cc

same_length : (n m : ℕ) → (n == m) ≡ true → n ≡ m
same_length n m h = grind (arith, nat_tests)

-- the words of both
words_composite : (a b : Entity) → compatible a b ≡ true → (words a ≤ words (composite a b)) × (words b ≤ words (composite a b))
words_composite (Function r ps) (Function s qs) h = (omega arith, omega arith)
words_composite (Function r ps) (Scalar u g) h = let c : false ≡ true = h in absurd cc
words_composite (Function r ps) (Array u g m) h = let c : false ≡ true = h in absurd cc
words_composite (Scalar t f) (Function s qs) h = let c : false ≡ true = h in absurd cc
words_composite (Scalar t f) (Scalar u g) h = (omega arith, omega arith)
words_composite (Scalar t f) (Array u g m) h = let c : false ≡ true = h in absurd cc
words_composite (Array t f n) (Function s qs) h = let c : false ≡ true = h in absurd cc
words_composite (Array t f n) (Scalar u g) h = let c : false ≡ true = h in absurd cc
words_composite (Array t f None) (Array u g m) h = (omega arith, omega arith)
words_composite (Array t f (Some n)) (Array u g None) h = (omega arith, omega arith)
words_composite (Array t f (Some n)) (Array u g (Some m)) h = let e = same_length n m (and_right _ (lengths_agree (Some n) (Some m)) h)
    in (omega arith, omega arith)

params_composite : (a b : Entity) → compatible a b ≡ true → parameters (composite a b) ≡ parameters a
params_composite (Function r ps) (Function s qs) h = refl
params_composite (Function r ps) (Scalar u g) h = let c : false ≡ true = h in absurd cc
params_composite (Function r ps) (Array u g m) h = let c : false ≡ true = h in absurd cc
params_composite (Scalar t f) (Function s qs) h = refl
params_composite (Scalar t f) (Scalar u g) h = refl
params_composite (Scalar t f) (Array u g m) h = refl
params_composite (Array t f n) (Function s qs) h = let c : false ≡ true = h in absurd cc
params_composite (Array t f n) (Scalar u g) h = let c : false ≡ true = h in absurd cc
params_composite (Array t f None) (Array u g m) h = refl
params_composite (Array t f (Some n)) (Array u g m) h = refl

pub fits_met : (standing : Standing) (said : Entity) (init : List Word) (s : Symbol) → compatible s.entity said ≡ true → FitsWords s → length init ≤ words said
    → FitsWords (met standing said init (Some s))
fits_met standing said init s h k l =
    let w = words_composite s.entity said h in let w0 = w.0 in let w1 = w.1 in
    elim (is_defined standing) as (λ b. length (if b then init else s.init) ≤ words (composite s.entity said)) [ true ↦ omega arith | false ↦ omega arith ]

pub narrow_met : (standing : Standing) (said : Entity) (init : List Word) (s : Symbol) → compatible s.entity said ≡ true → is_wide s ≡ false
    → is_wide (met standing said init (Some s)) ≡ false
narrow_met standing said init s h k = ap (nat_lt max_parameters) (params_composite s.entity said h) ∙ k

later_declared : (a b : Standing) → is_declared a ≡ false → is_declared (later a b) ≡ false
later_declared Declared b h = let c : true ≡ false = h in absurd cc
later_declared Tentative Declared h = refl
later_declared Tentative Tentative h = refl
later_declared Tentative Defined h = refl
later_declared Defined b h = refl

closed_later : (u : Bool) (a b : Standing) → (u && is_declared a) ≡ false → (u && is_declared (later a b)) ≡ false
closed_later true a b h = later_declared a b h
closed_later false a b h = refl

-- what isn't open stays so
pub closed_met : (standing : Standing) (said : Entity) (init : List Word) (s : Symbol) → is_open s ≡ false → is_open (met standing said init (Some s)) ≡ false
closed_met standing said init s h = closed_later s.used s.standing standing h

and_false : (a b : Bool) → b ≡ false → (a && b) ≡ false
and_false true b h = h
and_false false b h = refl

declared_is : (a : Standing) → (a ≡ Declared → ⊥) → is_declared a ≡ false
declared_is Declared h = absurd (h refl)
declared_is Tentative h = refl
declared_is Defined h = refl

-- and what is defined isn't open
pub defined_met : (standing : Standing) (said : Entity) (init : List Word) (s : Symbol) → (later s.standing standing ≡ Declared → ⊥)
    → is_open (met standing said init (Some s)) ≡ false
defined_met standing said init s h = and_false s.used _ (declared_is (later s.standing standing) h)
