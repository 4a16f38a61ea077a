-- What passes the test of summaries may be asked for its choice, and the summaries of a valid program within the limits pass it.
use Rattle.std.proofs.Common.{◌≡◌, ◌<◌, ◌≤◌, ℕ, zero, suc, Bool, true, false, nat_eq, List, [], ◌∷◌, map, length, refl, sym, ap, arith, ne_eqb, eq-eqb, ◌∙◌}
use Rattle.std.proofs.Common.{leb-true, le-leb}
use mathlib.Core.Path.{fun_ext}
use Rattle.std.specs.Prelude.{◌&&◌, if◌then◌else◌, is_some, nat_le, Option, Some, None}
use Rattle.std.specs.List.{AllByRecursion, list_all}
use Rattle.list_laws.proofs.Entries.{same_number}
use Rattle.list_laws.proofs.Tests.{and_first, and_second}
use Rattle.il_core.specs.Limits.{IsWithinLimits, max_arrays, max_elements, max_parameters, max_registers, max_size}
use Rattle.il_core.specs.Routine.{RoutineParts}
use Rattle.il_core.specs.Shapes.{IsRising, IsRisingFrom}
use Rattle.il_core.specs.Valid.{IsProgram}
use Rattle.il_core.specs.declared.program.IlProgram.{IlProgram}
use Rattle.il_laws.specs.Known.{KnownSite}
use Rattle.il_laws.specs.Live.{read_in}
use Rattle.plan_laws.specs.Summary.{Summary, summaries, summary, summary_at, tests}
use Rattle.clone_groups.specs.Gathering as groups
use Rattle.inline_budget.specs.Linked.{AreApart, CallsKnown, HasSummary, IsSmall}
use Rattle.inline_budget.proofs.Programs.{linked_summaries}
use Rattle.inline_steps.specs.Linking.{are_usable, AreUsable, calls_known, is_small, mark_at, rise_from}

all_tested : {X : Type 0} (t : X → Bool) (P : X → Type 0) → ((x : X) → t x ≡ true → P x) → (xs : List X) → list_all t xs ≡ true → AllByRecursion P xs
all_tested t P h [] e = tt
all_tested t P h (x ∷ xs) e = (h x (and_first (t x) (list_all t xs) e), all_tested t P h xs (and_second (t x) (list_all t xs) e))

tested_all : {X : Type 0} (t : X → Bool) (P : X → Type 0) → ((x : X) → P x → t x ≡ true) → (xs : List X) → AllByRecursion P xs → list_all t xs ≡ true
tested_all t P h [] g = refl
tested_all t P h (x ∷ xs) g = ap (λ (b : Bool). b && list_all t xs) (h x g.0) ∙ tested_all t P h xs g.1

both : (a b : Bool) → a ≡ true → b ≡ true → (a && b) ≡ true
both a b e f = ap (λ (k : Bool). k && b) e ∙ f

-- ---- the PIDs

none_from : (n m : ℕ) (ss : List Summary) → n < m → rise_from m ss ≡ true → summary_at ss n ≡ None
none_from n m [] lt e = refl
none_from n m (s ∷ ss) lt e =
    let le = leb-true m s.pid (and_first (nat_le m s.pid) (rise_from (suc s.pid) ss) e) in
    ap (λ (b : Bool). if b then Some s else summary_at ss n) (ne_eqb s.pid n (λ same. absurd (omega arith)))
    ∙ none_from n (suc s.pid) ss (omega arith) (and_second (nat_le m s.pid) (rise_from (suc s.pid) ss) e)

apart : (m : ℕ) (ss : List Summary) → rise_from m ss ≡ true → AreApart ss
apart m [] e = tt
apart m (s ∷ ss) e =
    let rest = and_second (nat_le m s.pid) (rise_from (suc s.pid) ss) e in
    (none_from s.pid (suc s.pid) ss (omega arith) rest, apart (suc s.pid) ss rest)

rising_from : (m : ℕ) (rs : List RoutineParts) → IsRisingFrom (λ r. r.pid) m rs → rise_from (suc m) (map summary rs) ≡ true
rising_from m [] h = refl
rising_from m (r ∷ rs) h =
    let lt = h.0 in both (nat_le (suc m) r.pid) (rise_from (suc r.pid) (map summary rs)) (le-leb (suc m) r.pid (omega arith)) (rising_from r.pid rs h.1)

rising : (rs : List RoutineParts) → IsRising (λ r. r.pid) rs → rise_from 0 (map summary rs) ≡ true
rising [] h = refl
rising (r ∷ rs) h = both (nat_le 0 r.pid) (rise_from (suc r.pid) (map summary rs)) (le-leb 0 r.pid (omega arith)) (rising_from r.pid rs h)

-- ---- the numbers

module _ (s : Summary) where
  abbrev a : Bool
  a = nat_le s.size max_size

  abbrev b : Bool
  b = nat_le s.regs max_registers

  abbrev c : Bool
  c = nat_le s.arrays max_arrays

  abbrev d : Bool
  d = nat_le s.elements max_elements

  abbrev e : Bool
  e = nat_le (length s.sites) max_size

  abbrev f : Bool
  f = nat_le s.params max_parameters

  abbrev g : Bool
  g = nat_eq (length s.reads) s.params

  module _ (h : is_small s ≡ true) where
    abbrev six : (a && b && c && d && e && f) ≡ true
    six = and_first (a && b && c && d && e && f) g h

    abbrev five : (a && b && c && d && e) ≡ true
    five = and_first (a && b && c && d && e) f six

    abbrev four : (a && b && c && d) ≡ true
    four = and_first (a && b && c && d) e five

    abbrev three : (a && b && c) ≡ true
    three = and_first (a && b && c) d four

    abbrev two : (a && b) ≡ true
    two = and_first (a && b) c three

    small_here : IsSmall s
    small_here = record {
      size = leb-true s.size max_size (and_first a b two);
      regs = leb-true s.regs max_registers (and_second a b two);
      arrays = leb-true s.arrays max_arrays (and_second (a && b) c three);
      elements = leb-true s.elements max_elements (and_second (a && b && c) d four);
      sites = leb-true (length s.sites) max_size (and_second (a && b && c && d) e five);
    }

    small_group : groups.IsSmall s
    small_group = record {
      params = leb-true s.params max_parameters (and_second (a && b && c && d && e) f six);
      reads = same_number (length s.reads) s.params (and_second (a && b && c && d && e && f) g h);
      sites = leb-true (length s.sites) max_size (and_second (a && b && c && d) e five);
    }

  small_is : IsSmall s → s.params ≤ max_parameters → length s.reads ≡ s.params → is_small s ≡ true
  small_is h params reads =
      both (a && b && c && d && e && f) g (both (a && b && c && d && e) f (both (a && b && c && d) e (both (a && b && c) d (both (a && b) c (both a b
      (le-leb s.size max_size h.size) (le-leb s.regs max_registers h.regs)) (le-leb s.arrays max_arrays h.arrays))
      (le-leb s.elements max_elements h.elements)) (le-leb (length s.sites) max_size h.sites)) (le-leb s.params max_parameters params))
      (eq-eqb (length s.reads) s.params reads)

tests_length : (t : ℕ → Bool) (x n : ℕ) → length (tests t x n) ≡ n
tests_length t x zero = refl
tests_length t x (suc n) = ap suc (tests_length t (suc x) n)

all_small : (rs : List RoutineParts) → AllByRecursion IsWithinLimits rs → AllByRecursion IsSmall (map summary rs) → list_all is_small (map summary rs) ≡ true
all_small [] h k = refl
all_small (r ∷ rs) h k =
    both (is_small (summary r)) (list_all is_small (map summary rs)) (small_is (summary r) k.0 h.0.params (tests_length (read_in r.blocks) 0 r.params))
    (all_small rs h.1 k.1)

-- ---- the calls

has : (ss : List Summary) (pid : ℕ) → is_some (summary_at ss pid) ≡ true → HasSummary ss pid
has ss pid h = by (summary_at ss pid) refl h
  where
    by : (o : Option Summary) → summary_at ss pid ≡ o → is_some o ≡ true → HasSummary ss pid
    by None at h = let bad : false ≡ true = h in absurd cc
    by (Some s) at h = record { summary = s; found = at }

known : (ss : List Summary) (s : Summary) → calls_known ss s ≡ true → CallsKnown ss s
known ss s h = all_tested (λ (x : KnownSite). is_some (summary_at ss x.callee)) (λ x. HasSummary ss x.callee) (λ x e. has ss x.callee e) s.sites h

known_is : (ss : List Summary) (s : Summary) → CallsKnown ss s → calls_known ss s ≡ true
known_is ss s h =
    tested_all (λ (x : KnownSite). is_some (summary_at ss x.callee)) (λ x. HasSummary ss x.callee) (λ x k. ap is_some k.found) s.sites h

-- ---- all of it

pub usable_are : (ss : List Summary) → are_usable ss ≡ true → AreUsable ss
usable_are ss h =
    let pids = rise_from 0 ss in
    let small = list_all is_small ss in
    let calls = list_all (calls_known ss) ss in
    let first = and_first (pids && small) calls h in
    let numbers = and_second pids small first in
    record {
      linked = record {
        apart = apart 0 ss (and_first pids small first);
        calls = all_tested (calls_known ss) (CallsKnown ss) (known ss) ss (and_second (pids && small) calls h);
        small = all_tested is_small IsSmall small_here ss numbers;
      };
      small = all_tested is_small groups.IsSmall small_group ss numbers;
    }

pub program_usable : (p : IlProgram) → IsProgram p → AllByRecursion IsWithinLimits p.routines → are_usable (summaries p) ≡ true
program_usable p valid within =
    let k = linked_summaries p valid within in
    let ss = summaries p in
    both (rise_from 0 ss && list_all is_small ss) (list_all (calls_known ss) ss)
    (both (rise_from 0 ss) (list_all is_small ss) (rising p.routines valid.routines) (all_small p.routines within k.small))
    (tested_all (calls_known ss) (CallsKnown ss) (known_is ss) ss k.calls)

-- ---- the test: where its first two parts hold, the last one decides

pub calls_decide : (ss : List Summary) → rise_from 0 ss ≡ true → list_all is_small ss ≡ true → (ms : List Bool)
    → ((q : ℕ) → mark_at ms q ≡ is_some (summary_at ss q))
    → list_all (λ (s : Summary). list_all (λ (x : KnownSite). mark_at ms x.callee) s.sites) ss ≡ are_usable ss
calls_decide ss e f ms h =
    ap (λ (t : ℕ → Bool). list_all (λ (s : Summary). list_all (λ (x : KnownSite). t x.callee) s.sites) ss) (fun_ext h)
    ∙ sym (ap (λ (b : Bool). b && list_all is_small ss && list_all (calls_known ss) ss) e ∙ ap (λ (b : Bool). b && list_all (calls_known ss) ss) f)
