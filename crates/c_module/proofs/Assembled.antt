-- Routines by PID.
use Rattle.std.proofs.Common.{◌≡◌, ℕ, zero, suc, ◌+◌, ◌<◌, ◌≤◌, Bool, true, false, List, [], ◌∷◌, ◌++◌, map, length, Option, Some, None, refl, sym, ◌∙◌}
use Rattle.std.proofs.Common.{ap, subst, arith, slice_set, inl, inr}
use Rattle.std.specs.Prelude.{nat_eq, is_some, replicate, if◌then◌else◌}
use Rattle.std.specs.List.{AllByRecursion}
use Rattle.std.proofs.lemmas.Bool.{cases_lt}
use Rattle.std.proofs.lemmas.List.{append-nil}
use Rattle.std.proofs.Math.Nat.{eq-or-lt_of_le}
use Rattle.il_core.specs.Program.{routine_at}
use Rattle.il_core.specs.Routine.{RoutineParts}
use Rattle.il_core.proofs.Found.{found_here, found_number, found_there}
use Rattle.list_laws.proofs.Elements.{onto}
use Rattle.profile.specs.Counts.{Counts}
use Rattle.sym_tables.specs.Table.{Table}
use Rattle.c_typed.specs.Meaning.{function_at}
use Rattle.c_typed.specs.Trees.{Function}
use Rattle.c_lower.specs.Lowering.{entry_of, routine_of, sites_of}
use Rattle.lower_laws.specs.Programs.{routines_at, routines_from}
use Rattle.c_module.specs.Assembling.{by_pid, present, slots}
use Rattle.c_module.proofs.Elements.{all_behind, all_front}

-- ## Slots

-- a routine with a lower PID is in none of the slots
slots_below : (rs : List RoutineParts) (r : RoutineParts) (pid n : ℕ) → r.pid < pid → slots (r ∷ rs) pid n ≡ slots rs pid n
slots_below rs r pid zero less = refl
slots_below rs r pid (suc n) less =
    ap (λ x. x ∷ slots (r ∷ rs) (suc pid) n) (found_there (λ (x : RoutineParts). x.pid) pid r rs (λ e. omega (arith, e, less)))
    ∙ ap (λ l. routine_at rs pid ∷ l) (slots_below rs r (suc pid) n (omega (arith, less)))

-- one more routine, in front, takes its slot
slot_taken : (rs : List RoutineParts) (r : RoutineParts) (pid n k : ℕ) → r.pid ≡ pid + k → k < n
    → slice_set (slots rs pid n) k (Some r) ≡ slots (r ∷ rs) pid n
slot_taken rs r pid zero k at less = absurd (omega (arith, less))
slot_taken rs r pid (suc n) zero at less =
    ap (λ x. x ∷ slots rs (suc pid) n) (sym (found_here (λ (x : RoutineParts). x.pid) pid r rs (omega (arith, at))))
    ∙ ap (λ l. routine_at (r ∷ rs) pid ∷ l) (sym (slots_below rs r (suc pid) n (omega (arith, at))))
slot_taken rs r pid (suc n) (suc k) at less =
    ap (λ x. x ∷ slice_set (slots rs (suc pid) n) k (Some r)) (sym (found_there (λ (x : RoutineParts). x.pid) pid r rs (λ e. omega (arith, e, at))))
    ∙ ap (λ l. routine_at (r ∷ rs) pid ∷ l) (slot_taken rs r (suc pid) n k (omega (arith, at)) (omega (arith, less)))

pub slots_length : (rs : List RoutineParts) (pid n : ℕ) → length (slots rs pid n) ≡ n
slots_length rs pid zero = refl
slots_length rs pid (suc n) = ap suc (slots_length rs (suc pid) n)

no_slots : (pid n : ℕ) → replicate n None ≡ slots [] pid n
no_slots pid zero = refl
no_slots pid (suc n) = ap (λ l. None ∷ l) (no_slots (suc pid) n)

-- some routines, the last ones first, have taken their slots
pub record Filling (names : ℕ) (whole left : List RoutineParts) (table : List (Option RoutineParts)) : Type 0 where
  pub taken : List RoutineParts
  pub both : whole ≡ left ++ taken
  pub filled : table ≡ slots taken 0 names
  pub live : AllByRecursion (λ (r : RoutineParts). r.pid < names) left

pub fill_none : (names : ℕ) (rs : List RoutineParts) (table : List (Option RoutineParts)) → AllByRecursion (λ (r : RoutineParts). r.pid < names) rs
    → table ≡ replicate names None → Filling names rs rs table
fill_none names rs table live is = record { taken = []; both = sym (append-nil rs); filled = is ∙ no_slots 0 names; live = live }

-- the next one's slot is there
pub fill_within : (names : ℕ) (whole left rest : List RoutineParts) (r : RoutineParts) (table : List (Option RoutineParts))
    → Filling names whole left table → left ≡ rest ++ r ∷ [] → r.pid < length table
fill_within names whole left rest r table f is =
    let live = all_behind (λ (x : RoutineParts). x.pid < names) rest (r ∷ []) (subst (AllByRecursion (λ (x : RoutineParts). x.pid < names)) is f.live) in
    omega (arith, live.0, ap length f.filled, slots_length f.taken 0 names)

pub fill_more : (names : ℕ) (whole left rest : List RoutineParts) (r : RoutineParts) (table : List (Option RoutineParts))
    → Filling names whole left table → left ≡ rest ++ r ∷ [] → Filling names whole rest (slice_set table r.pid (Some r))
fill_more names whole left rest r table f is =
    let live = subst (AllByRecursion (λ (x : RoutineParts). x.pid < names)) is f.live in
    let less = all_behind (λ (x : RoutineParts). x.pid < names) rest (r ∷ []) live in
    let at : r.pid ≡ 0 + r.pid = omega arith in
    record {
      taken = r ∷ f.taken;
      both = f.both ∙ ap (λ l. l ++ f.taken) is ∙ onto rest r f.taken;
      filled = ap (λ t. slice_set t r.pid (Some r)) f.filled ∙ slot_taken f.taken r 0 names r.pid at less.0;
      live = all_front (λ (x : RoutineParts). x.pid < names) rest (r ∷ []) live;
    }

pub filled_all : (names : ℕ) (whole left : List RoutineParts) (table : List (Option RoutineParts)) → Filling names whole left table → left ≡ []
    → table ≡ slots whole 0 names
filled_all names whole left table f none = f.filled ∙ ap (λ rs. slots rs 0 names) (sym (f.both ∙ ap (λ l. l ++ f.taken) none))

-- ## What a pass makes of one more element

pub present_more : (xs : List (Option RoutineParts)) (x : Option RoutineParts) → present (xs ++ x ∷ []) ≡ present xs ++ present (x ∷ [])
present_more [] x = refl
present_more (None ∷ xs) x = present_more xs x
present_more (Some r ∷ xs) x = ap (λ l. r ∷ l) (present_more xs x)

pub present_some : (ys : List (Option RoutineParts)) (x : Option RoutineParts) (r : RoutineParts) (old new : List RoutineParts) → old ≡ present ys
    → new ≡ old ++ r ∷ [] → x ≡ Some r → new ≡ present (ys ++ x ∷ [])
present_some ys x r old new known added is =
    added ∙ ap (λ l. l ++ r ∷ []) known ∙ ap (λ o. present ys ++ present (o ∷ [])) (sym is) ∙ sym (present_more ys x)

pub present_none : (ys : List (Option RoutineParts)) (x : Option RoutineParts) (old : List RoutineParts) → old ≡ present ys → x ≡ None
    → old ≡ present (ys ++ x ∷ [])
present_none ys x old known is =
    known ∙ sym (append-nil (present ys)) ∙ ap (λ o. present ys ++ present (o ∷ [])) (sym is) ∙ sym (present_more ys x)

-- ## The lowered routines

-- the routine that is made of a function, if there is one
abbrev made : Table → Counts → Option Function → Option RoutineParts
made syms counts None = None
made syms counts (Some f) = Some (routine_of syms counts f)

pub same_pid : (syms : Table) (counts : Counts) (f : Function) → (routine_of syms counts f).pid ≡ f.pid
unfolding routine_of
same_pid syms counts f = refl

found_made : (syms : Table) (counts : Counts) (fs : List Function) (pid : ℕ)
    → routine_at (map (routine_of syms counts) fs) pid ≡ made syms counts (function_at fs pid)
found_made syms counts [] pid = refl
found_made syms counts (f ∷ fs) pid =
    ap (λ n. if nat_eq n pid then Some (routine_of syms counts f) else routine_at (map (routine_of syms counts) fs) pid) (same_pid syms counts f)
    ∙ by_test (nat_eq f.pid pid) (found_made syms counts fs pid)
  where
    by_test : (b : Bool) → routine_at (map (routine_of syms counts) fs) pid ≡ made syms counts (function_at fs pid)
        → (if b then Some (routine_of syms counts f) else routine_at (map (routine_of syms counts) fs) pid) ≡ made syms counts
        (if b then Some f else function_at fs pid)
    by_test true more = refl
    by_test false more = more

present_made : (syms : Table) (counts : Counts) (o : Option Function)
    → present (made syms counts o ∷ []) ≡ routines_at (entry_of syms counts) (sites_of syms counts) o
unfolding routine_of
present_made syms counts None = refl
present_made syms counts (Some f) = refl

present_first : (x : Option RoutineParts) (xs : List (Option RoutineParts)) → present (x ∷ xs) ≡ present (x ∷ []) ++ present xs
present_first None xs = refl
present_first (Some r) xs = refl

made_some : (syms : Table) (counts : Counts) (o : Option Function) → is_some (made syms counts o) ≡ is_some o
made_some syms counts None = refl
made_some syms counts (Some f) = refl

module _ (syms : Table) (counts : Counts) (fs : List Function) where
  pub routines_are : (pid : ℕ) (es : Table)
      → present (slots (map (routine_of syms counts) fs) pid (length es)) ≡ routines_from (entry_of syms counts) (sites_of syms counts) fs pid es
  routines_are pid [] = refl
  routines_are pid (e ∷ es) =
      let rs = map (routine_of syms counts) fs in
      present_first (routine_at rs pid) (slots rs (suc pid) (length es))
      ∙ ap (λ x. present (x ∷ []) ++ present (slots rs (suc pid) (length es))) (found_made syms counts fs pid)
      ∙ ap (λ l. l ++ present (slots rs (suc pid) (length es))) (present_made syms counts (function_at fs pid))
      ∙ ap (λ l. routines_at (entry_of syms counts) (sites_of syms counts) (function_at fs pid) ++ l) (routines_are (suc pid) es)

-- ## What is found

-- the slot of another PID is passed
passed : (rs : List RoutineParts) (xs : List (Option RoutineParts)) (pid q : ℕ) (o : Option RoutineParts) → routine_at rs pid ≡ o → (pid ≡ q → ⊥)
    → routine_at (present (o ∷ xs)) q ≡ routine_at (present xs) q
passed rs xs pid q None at ne = refl
passed rs xs pid q (Some r) at ne =
    found_there (λ (x : RoutineParts). x.pid) q r (present xs) (λ e. ne (sym (found_number (λ (x : RoutineParts). x.pid) pid rs r at) ∙ e))

-- a routine of another PID isn't among the slots
not_in_slots : (rs : List RoutineParts) (q pid n : ℕ) → (pid ≤ q → q < pid + n → ⊥) → routine_at (present (slots rs pid n)) q ≡ None
not_in_slots rs q pid zero out = refl
not_in_slots rs q pid (suc n) out =
    passed rs (slots rs (suc pid) n) pid q (routine_at rs pid) refl (λ e. out (omega (arith, e)) (omega (arith, e)))
    ∙ not_in_slots rs q (suc pid) n (λ low high. out (omega (arith, low)) (omega (arith, high)))

-- what is found of a PID whose slot comes first, where the others haven't got it
at_first : (rs : List RoutineParts) (xs : List (Option RoutineParts)) (pid : ℕ) (o : Option RoutineParts) → routine_at rs pid ≡ o
    → routine_at (present xs) pid ≡ None → routine_at (present (o ∷ xs)) pid ≡ o
at_first rs xs pid None at others = others
at_first rs xs pid (Some r) at others =
    found_here (λ (x : RoutineParts). x.pid) pid r (present xs) (found_number (λ (x : RoutineParts). x.pid) pid rs r at)

in_slots : (rs : List RoutineParts) (q pid n : ℕ) → pid ≤ q → q < pid + n → routine_at (present (slots rs pid n)) q ≡ routine_at rs q
in_slots rs q pid zero low high = absurd (omega (arith, low, high))
in_slots rs q pid (suc n) low high =
    elim (eq-or-lt_of_le low) [
      | inl e ↦ subst (λ p. routine_at (present (slots rs pid (suc n))) p ≡ routine_at rs p) e
          (at_first rs (slots rs (suc pid) n) pid (routine_at rs pid) refl (not_in_slots rs pid (suc pid) n (λ l h. omega (arith, l))))
      | inr less ↦
          passed rs (slots rs (suc pid) n) pid q (routine_at rs pid) refl (λ e. omega (arith, e, less))
          ∙ in_slots rs q (suc pid) n (omega (arith, less)) (omega (arith, high))
    ]

none_above : (n : ℕ) (rs : List RoutineParts) (q : ℕ) → n ≤ q → AllByRecursion (λ (r : RoutineParts). r.pid < n) rs → routine_at rs q ≡ None
none_above n [] q high live = refl
none_above n (r ∷ rs) q high live =
    let less = live.0 in
    found_there (λ (x : RoutineParts). x.pid) q r rs (λ e. omega (arith, e, less, high)) ∙ none_above n rs q high live.1

-- by each PID the same routine is found
pub finds_all : (rs : List RoutineParts) (n : ℕ) → AllByRecursion (λ (r : RoutineParts). r.pid < n) rs → (q : ℕ)
    → routine_at (by_pid rs n) q ≡ routine_at rs q
finds_all rs n live q =
    elim (cases_lt q n) [
      | inl less ↦ in_slots rs q 0 n (omega arith) (omega (arith, less))
      | inr high ↦ not_in_slots rs q 0 n (λ l h. omega (arith, high, h)) ∙ sym (none_above n rs q high live)
    ]
