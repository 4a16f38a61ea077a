-- A name keeps its PID while the table grows, so a routine keeps its counts.
use Rattle.std.proofs.Common.{◌≡◌, ◌≢◌, ℕ, zero, suc, Bool, true, false, List, [], ◌∷◌, map, take, get_or, Option, Some, None, refl, sym, ◌∙◌, ap}
use Rattle.std.proofs.Common.{subst, slice_get}
use Rattle.std.specs.Prelude.{nat_eq, ◌&&◌}
use Rattle.std.specs.List.{AllByRecursion}
use Rattle.std.specs.Map.{keys_of}
use Rattle.std.proofs.lemmas.Bool.{false≢true}
use Rattle.std.proofs.lemmas.List.Quantifiers.{position-Some}
use Rattle.profile.specs.Counts.{Counts}
use Rattle.list_laws.proofs.Entries.{same_number, number_itself}
use Rattle.list_laws.proofs.Tests.{and_first, and_second}
use Rattle.sym_tables.specs.declared.symbol.Symbol.{Symbol}
use Rattle.sym_tables.specs.Table.{Table, pid_of, same_name, symbol_at}
use Rattle.sym_tables.proofs.Finds.{found_pid}
use Rattle.c_typed.specs.Trees.{Function}
use Rattle.c_lower.specs.Lowering.{name_at, name_in, routine_of}
use Rattle.lower_laws.specs.Functions.{lowered}
use Rattle.program_laws.specs.Growing.{Grows, entity_in}
use Rattle.program_laws.specs.Settled.{AreOnce, AreWhole, Stands}

-- ## Names are the same where their bytes are

same_is : (a b : List ℕ) → same_name a b ≡ true → a ≡ b
same_is [] [] e = refl
same_is [] (y ∷ ys) e = absurd (false≢true e)
same_is (x ∷ xs) [] e = absurd (false≢true e)
same_is (x ∷ xs) (y ∷ ys) e =
    ap (λ z. z ∷ xs) (same_number x y (and_first (nat_eq x y) (same_name xs ys) e))
    ∙ ap (λ l. y ∷ l) (same_is xs ys (and_second (nat_eq x y) (same_name xs ys) e))

itself : (name : List ℕ) → same_name name name ≡ true
itself [] = refl
itself (b ∷ name) = ap (λ c. c && same_name name name) (number_itself b) ∙ itself name

other_is : (a b : List ℕ) → (a ≡ b → ⊥) → same_name a b ≡ false
other_is a b ne = by_test (same_name a b) refl
  where
    by_test : (c : Bool) → same_name a b ≡ c → c ≡ false
    by_test true e = absurd (ne (same_is a b e))
    by_test false e = refl

-- ## The name of a PID

at_key : (P : List ℕ → Type 0) (es : Table) (k : ℕ) (e : List ℕ × Symbol) → slice_get es k ≡ Some e → AllByRecursion P (keys_of es) → P e.0
at_key P [] k e at all = absurd (let c : None ≡ Some e = at in cc)
at_key P (f ∷ es) zero e at all = let same : f ≡ e = cc in subst (λ (x : List ℕ × Symbol). P x.0) same all.0
at_key P (f ∷ es) (suc k) e at all = at_key P es k e at all.1

others_before : (es : Table) → AreOnce (keys_of es) → (k : ℕ) (e : List ℕ × Symbol) → slice_get es k ≡ Some e
    → AllByRecursion (λ key. same_name e.0 key ≡ false) (take k (keys_of es))
others_before [] once k e at = absurd (let c : None ≡ Some e = at in cc)
others_before (f ∷ es) once zero e at = tt
others_before (f ∷ es) once (suc k) e at = (other_is e.0 f.0 (at_key (λ other. other ≢ f.0) es k e at once.0), others_before es once.1 k e at)

key_is : (es : Table) (k : ℕ) → name_at es k ≡ get_or (keys_of es) k []
key_is [] k = refl
key_is (e ∷ es) zero = refl
key_is (e ∷ es) (suc k) = key_is es k

-- a name that is there stays
name_stays : (old new : Table) → AreOnce (keys_of old) → Grows old new → (pid : ℕ) (e : List ℕ × Symbol) → slice_get old pid ≡ Some e
    → name_at old pid ≡ name_at new pid
name_stays old new once grows pid e at =
    let named : pid_of old e.0 ≡ Some pid = found_pid old e.0 pid e.0 e.1 (others_before old once pid e at) at (itself e.0) in
    let found = position-Some (same_name e.0) (keys_of new) pid [] (grows.names e.0 pid named) in
    ap name_in at ∙ same_is e.0 (get_or (keys_of new) pid []) found.1 ∙ sym (key_is new pid)

-- ## Routines

routine_stays : (old new : Table) (counts : Counts) (f : Function) → name_at old f.pid ≡ name_at new f.pid
    → routine_of old counts f ≡ routine_of new counts f
unfolding routine_of
routine_stays old new counts f same = ap (λ name. lowered (counts.entry name) (counts.site name) f) same

-- an entry of what stands for something
entry_of_pid : (es : Table) (pid : ℕ) (o : Option Symbol) (s : Symbol) → symbol_at es pid ≡ Some s → (e : List ℕ × Symbol) × (slice_get es pid ≡ Some e)
entry_of_pid [] pid o s there = absurd (let c : None ≡ Some s = there in cc)
entry_of_pid (e ∷ es) zero o s there = (e, refl)
entry_of_pid (e ∷ es) (suc pid) o s there = entry_of_pid es pid o s there

stands_there : (syms : Table) (f : Function) → Stands syms f → (e : List ℕ × Symbol) × (slice_get syms f.pid ≡ Some e)
stands_there syms f stands = by_symbol (symbol_at syms f.pid) refl stands.is
  where
    by_symbol : (o : Option Symbol) → symbol_at syms f.pid ≡ o → entity_in o ≡ Some stands.entity → (e : List ℕ × Symbol) × (slice_get syms f.pid ≡ Some e)
    by_symbol None there is = absurd (let c : None ≡ Some stands.entity = is in cc)
    by_symbol (Some s) there is = entry_of_pid syms f.pid (Some s) s there

routines_from_stay : (old new : Table) (counts : Counts) (fs : List Function) → AreOnce (keys_of old) → Grows old new → AllByRecursion (Stands old) fs
    → map (routine_of old counts) fs ≡ map (routine_of new counts) fs
routines_from_stay old new counts [] once grows stands = refl
routines_from_stay old new counts (f ∷ fs) once grows stands =
    let there = stands_there old f stands.0 in
    ap (λ r. r ∷ map (routine_of old counts) fs) (routine_stays old new counts f (name_stays old new once grows f.pid there.0 there.1))
    ∙ ap (λ l. routine_of new counts f ∷ l) (routines_from_stay old new counts fs once grows stands.1)

-- the routines of functions stay while the table grows
pub routines_stay : (old new : Table) (counts : Counts) (fs : List Function) → AreWhole fs old → Grows old new
    → map (routine_of old counts) fs ≡ map (routine_of new counts) fs
routines_stay old new counts fs whole grows = routines_from_stay old new counts fs whole.settled.names grows whole.settled.functions
