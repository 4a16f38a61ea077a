-- What holds at file scope behind each declaration: the table is settled, and an array that lacks its length is awaited.
use Rattle.std.proofs.Common.{◌≡◌, ℕ, ◌<◌, Bool, true, false, List, [], ◌∷◌, ◌++◌, length, Option, Some, None, refl, sym, ap, ◌∙◌, subst, arith}
use Rattle.std.specs.Prelude.{if◌then◌else◌, ◌==◌, ⊤, is_some}
use Rattle.std.specs.List.{AllByRecursion}
use Rattle.std.specs.Cmp.Lexicographic.{same_text}
use Rattle.std.proofs.lemmas.Bool.{false≢true}
use Rattle.hlo_num.specs.declared.word.Ty.{Ty}
use Rattle.il_core.specs.declared.shape.Shape.TheVariants as shape
use Rattle.sym_tables.specs.declared.entity.Entity.{Entity}
use Rattle.sym_tables.specs.declared.entity.Entity.TheVariants as entities
use Rattle.sym_tables.specs.declared.symbol.Standing.{Standing}
use Rattle.sym_tables.specs.declared.symbol.Standing.TheVariants as standings
use Rattle.sym_tables.specs.declared.symbol.Symbol.{Symbol}
use Rattle.sym_tables.specs.Entities.{lacks_length}
use Rattle.sym_tables.specs.Listing.{shape_of}
use Rattle.sym_tables.specs.Symbols.{is_declared, is_defined}
use Rattle.sym_tables.specs.Table.{Table, same_name, symbol_at}
use Rattle.c_typed.specs.Trees.{Function}
use Rattle.c_types.specs.declared.binding.Binding.{Binding}
use Rattle.c_types.specs.declared.binding.Binding.TheVariants as bindings
use Rattle.c_types.specs.declared.binding.Extent.{Extent}
use Rattle.c_types.specs.declared.binding.Extent.TheVariants as extents
use Rattle.c_types.specs.declared.checker.Awaited.{Awaited}
use Rattle.c_types.specs.DeclarationRules.{object_entity}
use Rattle.c_types.specs.Names.{bound_here, bind}
use Rattle.c_types.specs.Rules.{Here}
use Rattle.c_types.specs.Scopes.{Declared}
use Rattle.program_laws.specs.Growing.{entity_in, entity_at, standing_at, IsMore, Grows}
use Rattle.program_laws.specs.Settled.{AreOnce, Stands, IsProvided, AreSettled}
use Rattle.program_laws.proofs.States.{AreCoherent, IsCoherent, IsOk, After, at_file, file_is, file_bound}
use Rattle.program_laws.proofs.Tables.{IsMarked, marked_grows, covers_before, IsEntering, entity_met, entity_here, entity_other, standing_other}
use Rattle.program_laws.proofs.Tables.{said_here, entering_grows, at_or_not}

-- ## Functions stay

pub all_map : {X : Type 0} {P Q : X → Type 0} → ((x : X) → P x → Q x) → (xs : List X) → AllByRecursion P xs → AllByRecursion Q xs
all_map f [] ok = tt
all_map f (x ∷ xs) ok = (f x ok.0, all_map f xs ok.1)

defined_is : (s : Standing) → is_defined s ≡ true → s ≡ standings.Defined
defined_is standings.Declared h = absurd (false≢true h)
defined_is standings.Tentative h = absurd (false≢true h)
defined_is standings.Defined h = refl

routine_more : (e now : Entity) (n : ℕ) (b : Bool) → shape_of e ≡ shape.Routine n b → IsMore e now → shape_of now ≡ shape.Routine n b
routine_more (entities.Function gives params) now n b is more = ap shape_of more ∙ is
routine_more (entities.Scalar ty fixed) now n b is more = ap shape_of more ∙ is
routine_more (entities.Array ty fixed (Some k)) now n b is more = ap shape_of more ∙ is
routine_more (entities.Array ty fixed None) now n b is more = absurd (differ is)
  where
    differ : {k m : ℕ} {c : Bool} → shape.Object k ≡ shape.Routine m c → ⊥
    differ e = cc

pub stands_grown : (a b : Table) → Grows a b → (f : Function) → Stands a f → Stands b f
stands_grown a b g f x =
    let now = g.entities f.pid x.entity x.is in
    let s = g.standings f.pid standings.Defined x.defined in
    record {
      entity = now.0;
      is = now.1;
      shape = routine_more x.entity now.0 (length f.params) (is_some f.result) x.shape now.2;
      defined = s.1 ∙ ap Some (defined_is s.0 (s.2.1 refl));
      fits = λ rows c. x.fits rows (covers_before rows a b g c);
    }

pub all_stand : (a b : Table) → Grows a b → (fs : List Function) → AllByRecursion (Stands a) fs → AllByRecursion (Stands b) fs
all_stand a b g fs ok = all_map (stands_grown a b g) fs ok

pub settled_marked : (has : ℕ → Type 0) (fs : List Function) (a b : Table) → IsMarked a b → AreSettled has fs a → AreSettled has fs b
settled_marked has fs a b m x = record {
  sound = m.sound x.sound;
  names = subst AreOnce (sym m.names) x.names;
  lengths = λ pid ty fixed n is. x.lengths pid ty fixed n (sym (m.entities pid) ∙ is);
  routines = λ pid gives params s is st. x.routines pid gives params s (sym (m.entities pid) ∙ is) (sym (m.standings pid) ∙ st);
  functions = all_stand a b (marked_grows a b m) fs x.functions;
  apart = x.apart;
}

-- ## A name is taken in

pub some_is : {A : Type 0} {x y : A} → Some x ≡ Some y → x ≡ y
some_is e = cc

pub array_scalar : {t : Ty} {f : Bool} {n : Option ℕ} {u : Ty} {g : Bool} → entities.Array t f n ≡ entities.Scalar u g → ⊥
array_scalar e = cc

pub array_function : {t : Ty} {f : Bool} {n : Option ℕ} {r : Option Ty} {ps : List Ty} → entities.Array t f n ≡ entities.Function r ps → ⊥
array_function e = cc

pub function_scalar : {r : Option Ty} {ps : List Ty} {u : Ty} {g : Bool} → entities.Function r ps ≡ entities.Scalar u g → ⊥
function_scalar e = cc

pub array_length : {t u : Ty} {f g : Bool} {n m : Option ℕ} → entities.Array t f n ≡ entities.Array u g m → n ≡ m
array_length e = cc

-- an object's length is known to be right
abbrev pub HasGoodLength : Extent → Type 0
HasGoodLength extents.Scalar = ⊤
HasGoodLength (extents.Array None) = ⊤
HasGoodLength (extents.Array (Some n)) = 0 < n

no_function : (ty : Ty) (fixed : Bool) (extent : Extent) (gives : Option Ty) (params : List Ty)
    → IsMore (object_entity ty fixed extent) (entities.Function gives params) → ⊥
no_function ty fixed extents.Scalar gives params more = function_scalar more
no_function ty fixed (extents.Array (Some n)) gives params more = array_function (sym more)
no_function ty fixed (extents.Array None) gives params more = array_function (sym more.1)

module _ {standing : Standing} {name : List ℕ} {syms : Table} {at : ℕ} {new : Table} (has : ℕ → Type 0) (fs : List Function)
    (old : AreSettled has fs syms) where
  -- an object's name
  pub settled_object : (ty : Ty) (fixed : Bool) (extent : Extent) → HasGoodLength extent
      → IsEntering standing (object_entity ty fixed extent) name syms at new → AreSettled has fs new
  settled_object ty fixed extent good x = record {
    sound = x.sound old.sound;
    names = x.once old.names;
    lengths = λ pid t f n is.
        at_or_not pid at
        (λ same. from_known t f n (symbol_at syms at) refl (some_is (sym (entity_here x) ∙ ap (entity_at new) (sym same) ∙ is)))
        (λ ne. old.lengths pid t f n (sym (entity_other x pid ne) ∙ is));
    routines = λ pid gives params s is st.
        at_or_not pid at
        (λ same. absurd (no_function ty fixed extent gives params
        (subst (λ e. IsMore (object_entity ty fixed extent) e) (some_is (sym (entity_here x) ∙ ap (entity_at new) (sym same) ∙ is)) (said_here x))))
        (λ ne. old.routines pid gives params s (sym (entity_other x pid ne) ∙ is) (sym (standing_other x pid ne) ∙ st));
    functions = all_stand syms new (entering_grows x) fs old.functions;
    apart = old.apart;
  }
    where
      from_said : (t : Ty) (f : Bool) (n : ℕ) (y : Extent) → HasGoodLength y → object_entity ty fixed y ≡ entities.Array t f (Some n) → 0 < n
      from_said t f n extents.Scalar ok is = absurd (array_scalar (sym is))
      from_said t f n (extents.Array (Some m)) ok is = subst (λ k. 0 < k) (some_is (array_length is)) ok
      from_said t f n (extents.Array None) ok is = absurd (let c : None ≡ Some n = array_length is in cc)

      by_lacks : (t : Ty) (f : Bool) (n : ℕ) (e : Entity) (b : Bool) → entity_at syms at ≡ Some e
          → (if b then object_entity ty fixed extent else e) ≡ entities.Array t f (Some n) → 0 < n
      by_lacks t f n e true there is = from_said t f n extent good is
      by_lacks t f n e false there is = old.lengths at t f n (there ∙ ap Some is)

      from_known : (t : Ty) (f : Bool) (n : ℕ) (o : Option Symbol) → symbol_at syms at ≡ o
          → entity_met o (object_entity ty fixed extent) ≡ entities.Array t f (Some n)
          → 0 < n
      from_known t f n None there is = from_said t f n extent good is
      from_known t f n (Some s) there is = by_lacks t f n s.entity (lacks_length s.entity) (ap entity_in there) is

  -- a function's name, which may be defined here
  pub settled_function : (gives : Option Ty) (params : List Ty) → (now : ℕ → Type 0) → ((pid : ℕ) → has pid → now pid)
      → ((s : Standing) → standing_at new at ≡ Some s → ((r : Option Ty) (ps : List Ty) (t : Standing) → entity_at syms at ≡ Some (entities.Function r ps)
      → standing_at syms at ≡ Some t → IsProvided now at t) → IsProvided now at s)
      → IsEntering standing (entities.Function gives params) name syms at new → AreSettled now fs new
  settled_function gives params now wider here x = record {
    sound = x.sound old.sound;
    names = x.once old.names;
    lengths = λ pid t f n is.
        at_or_not pid at
        (λ same. absurd (array_function (sym (some_is (sym (entity_here x) ∙ ap (entity_at new) (sym same) ∙ is)) ∙ said_here x)))
        (λ ne. old.lengths pid t f n (sym (entity_other x pid ne) ∙ is));
    routines = λ pid r ps s is st.
        at_or_not pid at
        (λ same. subst (λ p. IsProvided now p s) (sym same)
        (here s (ap (standing_at new) (sym same) ∙ st) (λ r1 ps1 t is1 st1. widen at t (old.routines at r1 ps1 t is1 st1))))
        (λ ne. widen pid s (old.routines pid r ps s (sym (entity_other x pid ne) ∙ is) (sym (standing_other x pid ne) ∙ st)));
    functions = all_stand syms new (entering_grows x) fs old.functions;
    apart = old.apart;
  }
    where
      widen : (pid : ℕ) (s : Standing) → IsProvided has pid s → IsProvided now pid s
      widen pid standings.Declared ok = tt
      widen pid standings.Tentative ok = ok
      widen pid standings.Defined ok = wider pid ok

-- ## Arrays that lack their lengths

-- an object of this PID, an array without a length
pub record Lacks (pid : ℕ) (b : Option Binding) : Type 0 where
  pub internal : Bool
  pub ty : Ty
  pub fixed : Bool
  pub is : b ≡ Some (bindings.Object pid internal ty fixed (extents.Array None))

-- one of the names that are awaited is such an array at file scope
abbrev pub IsAwaited : List Awaited → (List ℕ → Option Binding) → ℕ → Type 0
IsAwaited awaited file pid = AllByRecursion (λ (a : Awaited). Lacks pid (file a.name) → ⊥) awaited → ⊥

pub awaited_still : (awaited : List Awaited) (file now : List ℕ → Option Binding) (pid : ℕ) → ((name : List ℕ) → Lacks pid (file name) → Lacks pid (now name))
    → IsAwaited awaited file pid → IsAwaited awaited now pid
awaited_still awaited file now pid still is none = is (all_map (λ a no l. no (still a.name l)) awaited none)

front_of : (P : Awaited → Type 0) (xs : List Awaited) (y : Awaited) → AllByRecursion P (xs ++ y ∷ []) → AllByRecursion P xs
front_of P [] y ok = tt
front_of P (x ∷ xs) y ok = (ok.0, front_of P xs y ok.1)

last_of : (P : Awaited → Type 0) (xs : List Awaited) (y : Awaited) → AllByRecursion P (xs ++ y ∷ []) → P y
last_of P [] y ok = ok.0
last_of P (x ∷ xs) y ok = last_of P xs y ok.1

pub awaited_more : (awaited : List Awaited) (a : Awaited) (file : List ℕ → Option Binding) (pid : ℕ) → IsAwaited awaited file pid
    → IsAwaited (awaited ++ a ∷ []) file pid
awaited_more awaited a file pid is none = is (front_of (λ (x : Awaited). Lacks pid (file x.name) → ⊥) awaited a none)

pub awaited_last : (awaited : List Awaited) (a : Awaited) (file : List ℕ → Option Binding) (pid : ℕ) → Lacks pid (file a.name)
    → IsAwaited (awaited ++ a ∷ []) file pid
awaited_last awaited a file pid is none = last_of (λ (x : Awaited). Lacks pid (file x.name) → ⊥) awaited a none is

-- ## The state at file scope

abbrev pub file_of : Here → List ℕ → Option Binding
file_of h name = at_file name h.names.declared

pub record Holding (number : ℕ) (has : ℕ → Type 0) (fs : List Function) (h : Here) : Type 0 where
  pub ok : IsOk number h
  pub depth : h.names.depth ≡ 0
  pub settled : AreSettled has fs h.syms
  pub waits : (pid : ℕ) (ty : Ty) (fixed : Bool) (s : Standing) → entity_at h.syms pid ≡ Some (entities.Array ty fixed None)
      → standing_at h.syms pid ≡ Some s → is_declared s ≡ false → IsAwaited h.awaited (file_of h) pid

module _ (number : ℕ) (has : ℕ → Type 0) (fs : List Function) where
  pub holding_after : (o h : Here) → After number o h → Holding number has fs o → Holding number has fs h
  holding_after o h x hold = record {
    ok = x.ok;
    depth = x.depth ∙ hold.depth;
    settled = settled_marked has fs o.syms h.syms x.table hold.settled;
    waits = λ pid ty fixed s is st no.
        subst (λ awaited. IsAwaited awaited (file_of h) pid) (sym x.awaited)
        (awaited_still o.awaited (file_of o) (file_of h) pid
        (λ name l. record { internal = l.internal; ty = l.ty; fixed = l.fixed; is = x.files name _ l.is })
        (hold.waits pid ty fixed s (sym (x.table.entities pid) ∙ is) (sym (x.table.standings pid) ∙ st) no));
  }

  -- what a name is bound to at file scope goes with the table
  pub coherent_at : (syms : Table) (name : List ℕ) (ds : List (Declared Binding)) (b : Binding) → AreCoherent number syms ds → at_file name ds ≡ Some b
      → IsCoherent number syms name b
  coherent_at syms name [] b ok is = absurd (let c : None ≡ Some b = is in cc)
  coherent_at syms name (d ∷ ds) b ok is = by_depth (d.depth == 0) is (coherent_at syms name ds b ok.1)
    where
      by_name : (c : Bool) → same_name name d.name ≡ c → (if c then Some d.stands_for else at_file name ds) ≡ Some b
          → (at_file name ds ≡ Some b → IsCoherent number syms name b) → IsCoherent number syms name b
      by_name true same is more =
          subst (λ x. IsCoherent number syms name x) (some_is is)
          (subst (λ n. IsCoherent number syms n d.stands_for) (sym (same_text name d.name (sym same))) ok.0)
      by_name false same is more = more is

      by_depth : (c : Bool) → (if c then (if same_name name d.name then Some d.stands_for else at_file name ds) else at_file name ds) ≡ Some b
          → (at_file name ds ≡ Some b → IsCoherent number syms name b) → IsCoherent number syms name b
      by_depth true is more = by_name (same_name name d.name) refl is more
      by_depth false is more = more is

  -- a name that is no object at file scope is bound to what is none
  pub holding_bound : (name : List ℕ) (b : Binding) (h : Here) → Holding number has fs h → IsCoherent number h.syms name b
      → ((pid : ℕ) → Lacks pid (bound_here name h) → ⊥) → Holding number has fs (bind name b h)
  holding_bound name b h hold good none = record {
    ok = record { coherent = (good, hold.ok.coherent); nested = (omega arith, hold.ok.nested) };
    depth = hold.depth;
    settled = hold.settled;
    waits = λ pid ty fixed s is st no.
        awaited_still h.awaited (file_of h) (file_of (bind name b h)) pid
        (λ other l. subst (λ o. Lacks pid o) (sym (file_bound h name other b hold.depth)) (by_name pid other l (same_name other name) refl))
        (hold.waits pid ty fixed s is st no);
  }
    where
      by_name : (pid : ℕ) (other : List ℕ) → Lacks pid (file_of h other) → (c : Bool) → same_name other name ≡ c
          → Lacks pid (if c then Some b else file_of h other)
      by_name pid other l true same =
          absurd (none pid (subst (λ o. Lacks pid o)
          (ap (λ n. file_of h n) (same_text other name (sym same)) ∙ file_is h name hold.depth hold.ok.nested) l))
      by_name pid other l false same = l
