-- The objects of linked modules are those that the table of names lists: the same words, and the same words at the start.
use Rattle.std.proofs.Common.{◌≡◌, ℕ, zero, suc, ◌+◌, ◌<◌, ◌≤◌, ◌==◌, true, false, Bool, if◌then◌else◌, List, [], ◌∷◌, ◌++◌, length, Option, Some, None}
use Rattle.std.proofs.Common.{refl, sym, ap, subst, ◌∙◌, arith, ne_eqb, eq-eqb, eqb-true}
use Rattle.std.specs.Prelude.{map, slice_index, nat_lt, not, ◌&&◌}
use Rattle.std.specs.List.{slice_get, AllByRecursion}
use Rattle.std.specs.Map.{values_of}
use Rattle.std.proofs.lemmas.Bool.Decides.{nat_tests}
use Rattle.hlo_num.specs.declared.word.Word.{Word}
use Rattle.il_core.specs.Object.{ObjectParts}
use Rattle.il_core.specs.Program.{object_at, words_in, initial_word, word_at_start as object_word, words_of as object_words}
use Rattle.sym_tables.specs.declared.symbol.Symbol.{Symbol}
use Rattle.sym_tables.specs.Entities.{words}
use Rattle.sym_tables.specs.Listing.{is_object, objects_from, objects, trimmed, before}
use Rattle.sym_tables.specs.Sound.{FitsWords}
use Rattle.sym_tables.specs.Symbols.{is_declared}
use Rattle.sym_tables.specs.Table.{Table, symbol_at}
use Rattle.c_typed.specs.Linked.{words_of, words_at, word_at_start, words_at_start}

-- the object that what is known of a PID makes
abbrev object_of : ℕ → Option Symbol → Option ObjectParts
object_of pid None = None
object_of pid (Some s) = if is_object s then Some (record { pid = pid; words = words s.entity; init = trimmed s.init }) else None

-- no object of a list has a PID below its first one
none_in : (b : Bool) (n pid : ℕ) (s : Symbol) (os : List ObjectParts) → pid < n → object_at os pid ≡ None
    → object_at ((if b then record { pid = n; words = words s.entity; init = trimmed s.init } ∷ [] else []) ++ os) pid ≡ None
none_in true n pid s os lt h = rw (ne_eqb n pid (λ e. absurd (omega (arith, e, lt)))) h
none_in false n pid s os lt h = h

none_below : (n pid : ℕ) (es : Table) → pid < n → object_at (objects_from n es) pid ≡ None
none_below n pid [] lt = refl
none_below n pid (e ∷ es) lt = none_in (is_object e.1) n pid e.1 (objects_from (suc n) es) lt (none_below (suc n) pid es (omega (arith, lt)))

here : (b : Bool) (n : ℕ) (s : Symbol) (os : List ObjectParts) → object_at os n ≡ None
    → object_at ((if b then record { pid = n; words = words s.entity; init = trimmed s.init } ∷ [] else []) ++ os) n ≡
    (if b then Some (record { pid = n; words = words s.entity; init = trimmed s.init }) else None)
here true n s os h = rw (eq-eqb n n refl) refl
here false n s os h = h

beyond : (b : Bool) (n pid : ℕ) (s : Symbol) (os : List ObjectParts) → n < pid
    → object_at ((if b then record { pid = n; words = words s.entity; init = trimmed s.init } ∷ [] else []) ++ os) pid ≡ object_at os pid
beyond true n pid s os lt = rw (ne_eqb n pid (λ e. absurd (omega (arith, e, lt)))) refl
beyond false n pid s os lt = refl

objects_find : (n k : ℕ) (es : Table) → object_at (objects_from n es) (n + k) ≡ object_of (n + k) (slice_get (values_of es) k)
objects_find n k [] = refl
objects_find n zero (e ∷ es) =
    let q : n + 0 ≡ n = omega arith in
    ap (λ m. object_at (objects_from n (e ∷ es)) m) q ∙ here (is_object e.1) n e.1 (objects_from (suc n) es) (none_below (suc n) n es (omega arith)) ∙ ap
    (λ m. object_of m (Some e.1)) (sym q)
objects_find n (suc k) (e ∷ es) =
    let q : n + suc k ≡ suc n + k = omega arith in
    beyond (is_object e.1) n (n + suc k) e.1 (objects_from (suc n) es) (omega arith) ∙ ap (λ m. object_at (objects_from (suc n) es) m) q ∙ objects_find (suc n)
    k es ∙ ap (λ m. object_of m (slice_get (values_of es) k)) (sym q)

-- an object that isn't declared only, and has words
words_kept : (declared : Bool) (n : ℕ) → (if not declared && nat_lt 0 n then n else 0) ≡ (if declared then 0 else n)
words_kept true n = refl
words_kept false zero = refl
words_kept false (suc n) = let q : nat_lt 0 (suc n) ≡ true = grind (arith, nat_tests) in ap (λ b. if b then suc n else 0) q

words_meet_at : (b : Bool) (pid : ℕ) (s : Symbol)
    → words_in (if b then Some (record { pid = pid; words = words s.entity; init = trimmed s.init }) else None) ≡ (if b then words s.entity else 0)
words_meet_at true pid s = refl
words_meet_at false pid s = refl

words_meet_of : (pid : ℕ) (o : Option Symbol) → words_in (object_of pid o) ≡ words_of o
words_meet_of pid None = refl
words_meet_of pid (Some s) = words_meet_at (is_object s) pid s ∙ words_kept (is_declared s.standing) (words s.entity)

-- how many words an object has
pub words_meet : (syms : Table) (pid : ℕ) → object_words (objects syms) pid ≡ words_at syms pid
words_meet syms pid = let q : pid ≡ 0 + pid = omega arith in
    ap (λ m. words_in (object_at (objects syms) m)) q ∙ ap words_in (objects_find 0 pid syms) ∙ words_meet_of (0 + pid) (symbol_at syms pid)

-- words without trailing zeros are the same words, and then 0
alone_index : (w : Word) (b : Bool) (i : ℕ) → b ≡ (w.0 == 0)
    → slice_index (map (λ (x : Word). x.0) (if b then [] else w ∷ [])) i ≡ slice_index (map (λ (x : Word). x.0) (w ∷ [])) i
alone_index w false i h = refl
alone_index w true zero h = sym (eqb-true w.0 0 (sym h))
alone_index w true (suc i) h = refl

before_index : (w : Word) (ws : List Word) (i : ℕ) → slice_index (map (λ (x : Word). x.0) (before w ws)) i ≡ slice_index (map (λ (x : Word). x.0) (w ∷ ws)) i
before_index w [] i = alone_index w (w.0 == 0) i refl
before_index w (v ∷ vs) i = refl

next_index : (w : Word) (us vs : List Word) (i : ℕ) → ((j : ℕ) → slice_index (map (λ (x : Word). x.0) us) j ≡ slice_index (map (λ (x : Word). x.0) vs) j)
    → slice_index (map (λ (x : Word). x.0) (w ∷ us)) i ≡ slice_index (map (λ (x : Word). x.0) (w ∷ vs)) i
next_index w us vs zero h = refl
next_index w us vs (suc i) h = h i

trimmed_index : (ws : List Word) (i : ℕ) → slice_index (map (λ (x : Word). x.0) (trimmed ws)) i ≡ slice_index (map (λ (x : Word). x.0) ws) i
trimmed_index [] i = refl
trimmed_index (w ∷ ws) i = before_index w (trimmed ws) i ∙ next_index w (trimmed ws) ws i (λ j. trimmed_index ws j)

no_words : (ws : List Word) (n i : ℕ) → length ws ≤ n → n ≡ 0 → slice_index (map (λ (x : Word). x.0) ws) i ≡ 0
no_words [] n i le e = refl
no_words (w ∷ ws) n i le e = absurd (omega (arith, le, e))

start_kept : (declared : Bool) (pid n i : ℕ) (ws : List Word) → length ws ≤ n
    → object_word (if not declared && nat_lt 0 n then Some (record { pid = pid; words = n; init = trimmed ws }) else None) i ≡
    (if declared then 0 else slice_index (map (λ (x : Word). x.0) ws) i)
start_kept true pid n i ws le = refl
start_kept false pid zero i ws le = sym (no_words ws 0 i le refl)
start_kept false pid (suc n) i ws le = let q : nat_lt 0 (suc n) ≡ true = grind (arith, nat_tests) in
    ap (λ b. object_word (if b then Some (record { pid = pid; words = suc n; init = trimmed ws }) else None) i) q ∙ trimmed_index ws i

start_meet_of : (pid i : ℕ) (o : Option Symbol) → ((s : Symbol) → o ≡ Some s → FitsWords s) → object_word (object_of pid o) i ≡ word_at_start o i
start_meet_of pid i None fits = refl
start_meet_of pid i (Some s) fits = start_kept (is_declared s.standing) pid (words s.entity) i s.init (fits s refl)

fits_at : (ss : List Symbol) (k : ℕ) (s : Symbol) → AllByRecursion FitsWords ss → slice_get ss k ≡ Some s → FitsWords s
fits_at [] k s all h = let o : Option Symbol = None in let c : o ≡ Some s = h in absurd cc
fits_at (r ∷ ss) zero s all h = let d : r ≡ s = (let c : Some r ≡ Some s = h in cc) in subst FitsWords d all.0
fits_at (r ∷ ss) (suc k) s all h = fits_at ss k s all.1 h

-- the words of an object as the program starts
pub start_meet : (syms : Table) (pid i : ℕ) → AllByRecursion FitsWords (values_of syms) → initial_word (objects syms) pid i ≡ words_at_start syms pid i
start_meet syms pid i all = let q : pid ≡ 0 + pid = omega arith in
    ap (λ m. object_word (object_at (objects syms) m) i) q ∙ ap (λ o. object_word o i) (objects_find 0 pid syms) ∙ start_meet_of (0 + pid) i
    (symbol_at syms pid) (λ s h. fits_at (values_of syms) pid s all h)
