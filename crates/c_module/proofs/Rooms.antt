-- Room for the routines of a module behind those of the modules before it.
use Rattle.std.proofs.Common.{◌≡◌, ◌≢◌, ℕ, zero, suc, ◌+◌, ◌<◌, ◌≤◌, Bool, true, false, List, [], ◌∷◌, ◌++◌, length, map, drop, take, get_or, Option}
use Rattle.std.proofs.Common.{Some, None, refl, sym, ◌∙◌, ap, subst, arith, sum_by, slice_get, slice_set}
use Rattle.std.specs.Prelude.{if◌then◌else◌, is_some, nat_eq}
use Rattle.std.specs.List.{AllByRecursion}
use Rattle.std.specs.Map.{values_of}
use Rattle.std.proofs.lemmas.List.{append-nil, append_assoc, length-append, map-append}
use Rattle.hlo_num.specs.declared.word.Ty.TheVariants.{Int}
use Rattle.il_core.specs.Limits.{max_routines}
use Rattle.il_core.specs.Program.{routine_at}
use Rattle.il_core.specs.Routine.{RoutineParts}
use Rattle.il_core.specs.declared.shape.Shape.TheVariants as shape
use Rattle.il_core.proofs.Found.{found_there}
use Rattle.list_laws.proofs.Elements.{all_added, drop_read, onto, sum_set}
use Rattle.profile.specs.Counts.{Counts}
use Rattle.sym_tables.specs.declared.entity.Entity.{Entity}
use Rattle.sym_tables.specs.declared.entity.Entity.TheVariants.{Function as a_function, Scalar, Array}
use Rattle.sym_tables.specs.declared.symbol.Standing.{Standing}
use Rattle.sym_tables.specs.declared.symbol.Standing.TheVariants.{Defined}
use Rattle.sym_tables.specs.declared.symbol.Symbol.{Symbol}
use Rattle.sym_tables.specs.Listing.{shape_of}
use Rattle.sym_tables.specs.Symbols.{routine_part}
use Rattle.sym_tables.specs.Table.{Table, symbol_at}
use Rattle.sym_tables.proofs.Limits.{within}
use Rattle.c_typed.specs.declared.function.TypedFunction.{TypedFunction}
use Rattle.c_typed.specs.Trees.{Function}
use Rattle.c_typed.specs.Views.{function_of}
use Rattle.c_lower.specs.Lowering.{routine_of}
use Rattle.program_laws.specs.Growing.{entity_in, standing_in}
use Rattle.program_laws.specs.Settled.{AreWhole, HaveOwnPids, Stands}
use Rattle.c_module.specs.Taking.{AreTaken, HasRoom}
use Rattle.c_module.proofs.Assembled.{same_pid}
use Rattle.c_module.proofs.Elements.{made_more}

-- ## Functions that stand in a table are no more than its routines

abbrev part : Symbol → ℕ
part s = routine_part s.entity s.standing

-- a name that is no routine any more
abbrev gone : Symbol → Symbol
gone s = record s { entity = Scalar Int false }

-- the name of a PID is a routine of the program
record IsPart (vs : List Symbol) (pid : ℕ) : Type 0 where
  pub symbol : Symbol
  pub at : slice_get vs pid ≡ Some symbol
  pub one : part symbol ≡ 1

is_part : (entity : Entity) (standing : Standing) (params : ℕ) (value : Bool) → shape_of entity ≡ shape.Routine params value → standing ≡ Defined
    → routine_part entity standing ≡ 1
is_part (a_function gives ps) standing params value is defined = ap (routine_part (a_function gives ps)) defined
is_part (Scalar ty fixed) standing params value is defined = absurd cc
is_part (Array ty fixed len) standing params value is defined = absurd cc

stands_as_part : (syms : Table) (f : Function) → Stands syms f → IsPart (values_of syms) f.pid
stands_as_part syms f stands = by_symbol (symbol_at syms f.pid) refl stands.is stands.defined
  where
    by_symbol : (o : Option Symbol) → symbol_at syms f.pid ≡ o → entity_in o ≡ Some stands.entity → standing_in o ≡ Some Defined
        → IsPart (values_of syms) f.pid
    by_symbol None there is defined = absurd (let c : None ≡ Some stands.entity = is in cc)
    by_symbol (Some s) there is defined =
        let entity : s.entity ≡ stands.entity = (let c : Some s.entity ≡ Some stands.entity = is in cc) in
        let standing : s.standing ≡ Defined = (let c : Some s.standing ≡ Some Defined = defined in cc) in
        record {
          symbol = s;
          at = there;
          one = is_part s.entity s.standing (length f.params) (is_some f.result) (ap shape_of entity ∙ stands.shape) standing;
        }

all_parts : (syms : Table) (fs : List Function) → AllByRecursion (Stands syms) fs → AllByRecursion (λ (f : Function). IsPart (values_of syms) f.pid) fs
all_parts syms [] all = tt
all_parts syms (f ∷ fs) all = (stands_as_part syms f all.0, all_parts syms fs all.1)

get_other : (vs : List Symbol) (i j : ℕ) (v : Symbol) → j ≢ i → slice_get (slice_set vs i v) j ≡ slice_get vs j
get_other [] i j v ne = refl
get_other (x ∷ vs) zero zero v ne = absurd (ne refl)
get_other (x ∷ vs) zero (suc j) v ne = refl
get_other (x ∷ vs) (suc i) zero v ne = refl
get_other (x ∷ vs) (suc i) (suc j) v ne = get_other vs i j v (λ e. ne (ap suc e))

others_stay : (vs : List Symbol) (pid : ℕ) (v : Symbol) (fs : List Function) → AllByRecursion (λ (f : Function). f.pid ≢ pid) fs
    → AllByRecursion (λ (f : Function). IsPart vs f.pid) fs → AllByRecursion (λ (f : Function). IsPart (slice_set vs pid v) f.pid) fs
others_stay vs pid v [] ne all = tt
others_stay vs pid v (f ∷ fs) ne all = (
  record { symbol = all.0.symbol; at = get_other vs pid f.pid v ne.0 ∙ all.0.at; one = all.0.one },
  others_stay vs pid v fs ne.1 all.1,
)

-- functions with PIDs of their own
no_more : (vs : List Symbol) (fs : List Function) → HaveOwnPids fs → AllByRecursion (λ (f : Function). IsPart vs f.pid) fs → length fs ≤ sum_by part vs
no_more vs [] own all = omega arith
no_more vs (f ∷ fs) own all =
    let s = all.0.symbol in
    let fewer = no_more (slice_set vs f.pid (gone s)) fs own.1 (others_stay vs f.pid (gone s) fs own.0 all.1) in
    let sums = sum_set part vs f.pid s (gone s) all.0.at in
    let none : part (gone s) ≡ 0 = refl in
    let one = all.0.one in
    omega (arith, fewer, sums, none, one)

few_functions : (fs : List Function) (syms : Table) → AreWhole fs syms → length fs ≤ max_routines
few_functions fs syms whole =
    let fewer = no_more (values_of syms) fs whole.settled.apart (all_parts syms fs whole.settled.functions) in
    let few = (within syms whole.settled.sound.limits).routines_few in
    omega (arith, fewer, few)

-- ## Room

none_more : (rs : List RoutineParts) (r : RoutineParts) (pid : ℕ) → routine_at rs pid ≡ None → (r.pid ≡ pid → ⊥) → routine_at (rs ++ r ∷ []) pid ≡ None
none_more [] r pid none ne = found_there (λ (x : RoutineParts). x.pid) pid r [] ne
none_more (x ∷ rs) r pid none ne = by_test (nat_eq x.pid pid) none (λ e. none_more rs r pid e ne)
  where
    by_test : (b : Bool) → (if b then Some x else routine_at rs pid) ≡ None → (routine_at rs pid ≡ None → routine_at (rs ++ r ∷ []) pid ≡ None)
        → (if b then Some x else routine_at (rs ++ r ∷ []) pid) ≡ None
    by_test true e more = absurd (let c : Some x ≡ None = e in cc)
    by_test false e more = more e

still_apart : (rs : List RoutineParts) (r : RoutineParts) (pid : ℕ) (fs : List Function) → r.pid ≡ pid
    → AllByRecursion (λ (f : Function). routine_at rs f.pid ≡ None) fs → AllByRecursion (λ (f : Function). f.pid ≢ pid) fs
    → AllByRecursion (λ (f : Function). routine_at (rs ++ r ∷ []) f.pid ≡ None) fs
still_apart rs r pid [] same none ne = tt
still_apart rs r pid (f ∷ fs) same none ne =
    (none_more rs r f.pid none.0 (λ e. ne.0 (sym e ∙ same)), still_apart rs r pid fs same none.1 ne.1)

-- behind the routine of the first function there is room for the others
pub room_more : (rs : List RoutineParts) (r : RoutineParts) (f : Function) (fs : List Function) → r.pid ≡ f.pid → HasRoom rs (f ∷ fs)
    → HasRoom (rs ++ r ∷ []) fs
room_more rs r f fs same room =
    let few = room.few in
    let longer = length-append rs (r ∷ []) in
    record {
      apart = still_apart rs r f.pid fs same room.apart.1 room.own.0;
      own = room.own.1;
      few = omega (arith, few, longer);
    }

room_after : (syms : Table) (counts : Counts) (rs : List RoutineParts) (fs gs : List Function) → HasRoom rs (fs ++ gs)
    → HasRoom (rs ++ map (routine_of syms counts) fs) gs
room_after syms counts rs [] gs room = subst (λ l. HasRoom l gs) (sym (append-nil rs)) room
room_after syms counts rs (f ∷ fs) gs room =
    let r = routine_of syms counts f in
    subst (λ l. HasRoom l gs) (onto rs r (map (routine_of syms counts) fs))
    (room_after syms counts (rs ++ r ∷ []) fs gs (room_more rs r f (fs ++ gs) (same_pid syms counts f) room))

own_behind : (fs gs : List Function) → HaveOwnPids (fs ++ gs) → HaveOwnPids gs
own_behind [] gs own = own
own_behind (f ∷ fs) gs own = own_behind fs gs own.1

all_apart : (fs : List Function) → AllByRecursion (λ (f : Function). routine_at [] f.pid ≡ None) fs
all_apart [] = tt
all_apart (f ∷ fs) = (refl, all_apart fs)

-- behind the routines of the last functions of some modules there is room for those of the next module
pub has_room : (counts : Counts) (rs : List RoutineParts) (old new : Table) (gs : List Function) (taken : AreTaken counts rs old)
    → AreWhole ((taken.before ++ taken.lowered) ++ gs) new → HasRoom rs gs
has_room counts rs old new gs taken whole =
    let rest = taken.lowered ++ gs in
    let all = subst (λ l. AreWhole l new) (append_assoc taken.before taken.lowered gs) whole in
    let few = few_functions (taken.before ++ rest) new all in
    let longer = length-append taken.before rest in
    let room : HasRoom [] rest = record {
      apart = all_apart rest;
      own = own_behind taken.before rest all.settled.apart;
      few = omega (arith, few, longer);
    } in
    subst (λ l. HasRoom l gs) (sym taken.are) (room_after old counts [] taken.lowered gs room)

-- the functions from a place on
pub next_room : (rs : List RoutineParts) (fs : List TypedFunction) (k : ℕ) (f : TypedFunction) → k < length fs → f ≡ get_or fs k f
    → HasRoom rs (map function_of (drop k fs)) → HasRoom rs (function_of f ∷ map function_of (drop (k + 1) fs))
next_room rs fs k f less is room = subst (λ l. HasRoom rs (map function_of l)) (drop_read fs k f less is) room

-- one more of them was taken
pub taken_more : (make : Function → RoutineParts) (old now new : List RoutineParts) (fs : List TypedFunction) (k : ℕ) (f : TypedFunction) (r : RoutineParts)
    → k < length fs → f ≡ get_or fs k f → now ≡ old ++ map make (map function_of (take k fs)) → new ≡ now ++ r ∷ [] → r ≡ make (function_of f)
    → new ≡ old ++ map make (map function_of (take (k + 1) fs))
taken_more make old now new fs k f r less is known added made =
    let before = map function_of (take k fs) in
    added
    ∙ ap (λ l. l ++ r ∷ []) known
    ∙ ap (λ x. (old ++ map make before) ++ x ∷ []) made
    ∙ append_assoc old (map make before) (make (function_of f) ∷ [])
    ∙ ap (λ l. old ++ l) (sym (map-append make before (function_of f ∷ [])) ∙ ap (map make) (sym (made_more function_of fs k f less is)))

pub limits_more : (P : Function → Type 0) (fs : List TypedFunction) (k : ℕ) (f : TypedFunction) → k < length fs → f ≡ get_or fs k f
    → AllByRecursion P (map function_of (take k fs)) → P (function_of f) → AllByRecursion P (map function_of (take (k + 1) fs))
limits_more P fs k f less is all one =
    subst (AllByRecursion P) (sym (made_more function_of fs k f less is)) (all_added P (map function_of (take k fs)) (function_of f) all one)
