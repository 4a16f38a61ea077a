-- Modules: each function that the typing rules give is well typed.
use Rattle.std.proofs.Common.{◌≡◌, ℕ, suc, List, [], ◌∷◌, ◌++◌, ◌<◌, map, Some, None, Bool, true, false, refl, sym, subst, arith}
use Rattle.std.specs.Prelude.{if◌then◌else◌, is_none, codes, ⊤}
use Rattle.std.specs.List.{AllByRecursion}
use Rattle.std.proofs.lemmas.Bool.{true≢false}
use Rattle.std.proofs.lemmas.List.{append-nil}
use Rattle.sym_tables.specs.declared.entity.Entity.{Entity}
use Rattle.sym_tables.specs.declared.entity.Entity.TheVariants as entities
use Rattle.sym_tables.specs.declared.symbol.Standing.{Standing}
use Rattle.sym_tables.specs.declared.symbol.Standing.TheVariants as standings
use Rattle.sym_tables.specs.Entities.{is_function, words}
use Rattle.sym_tables.specs.Symbols.{is_declared}
use Rattle.sym_tables.specs.Table.{Table}
use Rattle.c_tree.specs.declared.token.Header.{Header}
use Rattle.c_tree.specs.declared.token.Header.TheVariants as headers
use Rattle.c_tree.specs.declared.declaration.Item.{Item}
use Rattle.c_tree.specs.declared.declaration.Item.TheVariants as items
use Rattle.c_tree.specs.declared.declaration.Module.{Module}
use Rattle.c_typed.specs.declared.function.TypedFunction.{TypedFunction}
use Rattle.c_typed.specs.declared.function.TypedModule.{TypedModule}
use Rattle.c_typed.specs.Trees.{Function}
use Rattle.c_typed.specs.Views.{function_of, functions_of}
use Rattle.c_types.specs.declared.binding.Binding.{Binding}
use Rattle.c_types.specs.declared.binding.Binding.TheVariants as bindings
use Rattle.c_types.specs.declared.binding.Library.TheVariants as library
use Rattle.c_types.specs.declared.checker.Awaited.{Awaited}
use Rattle.c_types.specs.declared.fault.TypeKind.TheVariants as kinds
use Rattle.c_types.specs.Names.{bound_here, bind}
use Rattle.c_types.specs.Rules.{Here, Gives}
use Rattle.c_types.specs.Typing as rules
use Rattle.c_types.specs.Typing.{start}
use Rattle.lower_laws.specs.Bound.{IsBound}
use Rattle.type_laws.proofs.Modules.{typed_modules_are_bound}
use Rattle.program_laws.specs.Growing.{entity_at, standing_at, Grows}
use Rattle.program_laws.specs.Laws.{TypedProgramsAreWhole}
use Rattle.program_laws.specs.Settled.{AreWhole}
use Rattle.program_laws.specs.Typed.{AreTypedAs}
use Rattle.program_laws.proofs.Tables.{grows_same, grows_then}
use Rattle.typed_laws.specs.Laws.{TypedModulesAreWellTyped, TypedProgramsAreWellTyped}
use Rattle.typed_laws.specs.WellTyped.{IsWellTyped}
use Rattle.typed_laws.proofs.Functions.{at_file, IsWell, file_declaration_does, function_does}
use Rattle.typed_laws.proofs.Growing.{well_typed_stays}
use Rattle.typed_laws.proofs.Judging.{Any, Step, Holds, Does, DoesIf, step_then, and, plain, gives, knows, changes, if_tests}
use Rattle.typed_laws.proofs.Lists.{all_map, all_append}
use Rattle.typed_laws.proofs.Names.{IsNamed, IsSound, Stays, sound_behind, stays_same, stays_then, stays_bound}

module _ (table : Table) where
  -- ## Headers

  record Binds (h g : Here) : Type 0 where
    pub step : Step (at_file table) h g
    pub stays : IsSound (at_file table) h → Stays (at_file table) h g

  binds_new : (name : List ℕ) (b : Binding) → IsNamed (at_file table) b → (h : Here) → Binds h (rules.bind_new name b h)
  binds_new name b ok h = by_test (is_none (bound_here name h))
    where
      by_test : (c : Bool) → Binds h (if c then bind name b h else h)
      by_test true = record {
        step = record { before = λ x. x; depth = refl; seen = λ l s. s };
        stays = λ sound. stays_bound (at_file table) name b h ok sound;
      }
      by_test false = record {
        step = record { before = λ x. x; depth = refl; seen = λ l s. s };
        stays = λ sound. stays_same (at_file table) h h refl sound;
      }

  binds_then : (h g k : Here) → Binds h g → Binds g k → Binds h k
  binds_then h g k x y = record {
    step = step_then (at_file table) h g k x.step y.step;
    stays = λ sound.
        let one = x.stays sound in stays_then (at_file table) h g k one (y.stays (sound_behind (at_file table) h g one));
  }

  binds_included : (x : Header) (h : Here) → Binds h (rules.include x h)
  binds_included headers.Stdio h =
      let h1 = rules.bind_new (codes "getchar") (bindings.Library library.GetChar) h in
      let h2 = rules.bind_new (codes "putchar") (bindings.Library library.PutChar) h1 in
      let h3 = rules.bind_new (codes "EOF") (bindings.Constant (record { 0 = 4294967295 })) h2 in
      binds_then h h2 h3
      (binds_then h h1 h2 (binds_new (codes "getchar") (bindings.Library library.GetChar) tt h)
      (binds_new (codes "putchar") (bindings.Library library.PutChar) tt h1))
      (binds_new (codes "EOF") (bindings.Constant (record { 0 = 4294967295 })) tt h2)
  binds_included headers.Stdlib h = binds_new (codes "exit") (bindings.Library library.Exit) tt h

  -- ## Items

  abbrev AreWell : List TypedFunction → Type 0
  AreWell ts = AllByRecursion (IsWell table) ts

  all_items_do : (number : ℕ) (xs : List Item) → Does (at_file table) AreWell (rules.all_items number xs)
  all_items_do number [] = gives (at_file table) [] (λ g. tt)
  all_items_do number (items.Include line header ∷ rest) =
      and (at_file table)
      (changes (at_file table) (rules.include header) (λ h. (binds_included header h).step) (λ h sound. (binds_included header h).stays sound))
      (λ u. plain (at_file table) (all_items_do number rest))
  all_items_do number (items.Declaration d ∷ rest) =
      and (at_file table) (file_declaration_does table number d) (λ u. plain (at_file table) (all_items_do number rest))
  all_items_do number (items.Function d ∷ rest) =
      and (at_file table) (function_does table number d) (λ t. and (at_file table) (all_items_do number rest) (λ ts.
      gives (at_file table) (t ∷ ts) (λ g. (g.0.1, g.1))))

  all_lengths_do : {G : Type 0} (xs : List Awaited) → DoesIf (at_file table) G Any (rules.all_lengths xs)
  all_lengths_do [] = gives (at_file table) tt (λ g. tt)
  all_lengths_do (a ∷ rest) =
      and (at_file table) (knows (at_file table) (bound_here a.name)) (λ b.
      if_tests (at_file table) (rules.has_length b) a.line kinds.ArraySize (λ o is. all_lengths_do rest))

  abbrev IsModule : TypedModule → Type 0
  IsModule t = AreWell t.functions

  module_does : (number : ℕ) (m : Module) → Does (at_file table) IsModule (rules.module_rules number m)
  module_does number m =
      and (at_file table) (all_items_do number m.items) (λ functions.
      and (at_file table) (knows (at_file table) (λ (h : Here). h.awaited)) (λ awaited.
      and (at_file table) (all_lengths_do awaited) (λ u. gives (at_file table) (record { functions = functions }) (λ g. g.0.0.1))))

-- bound, and well typed beside that
both : (table : Table) (ts : List TypedFunction) → AllByRecursion IsBound (map function_of ts ++ []) → AllByRecursion (IsWell table) ts
    → AllByRecursion (IsWellTyped table) (map function_of ts ++ [])
both table [] bound well = tt
both table (t ∷ ts) bound well = (
  record { entity = well.0.entity; bound = bound.0; body = well.0.body },
  both table ts bound.1 well.1,
)

pub typed_modules_are_well_typed : TypedModulesAreWellTyped
typed_modules_are_well_typed number m old t h e =
    let given : Holds (at_file h.syms) ⊤ (start old) (IsModule h.syms) (Gives t h) =
    subst (λ r. Holds (at_file h.syms) ⊤ (start old) (IsModule h.syms) r) e ((module_does h.syms number m).by (start old)) in
    let good = given.1 (tt, grows_same h.syms) tt (record { named = tt; within = tt }) in (
      both h.syms t.functions (typed_modules_are_bound number m old t h e) good.1,
      (given.0.before (tt, grows_same h.syms)).1,
    )

-- ## Modules one after another

functions_well : (number : ℕ) (modules : List Module) (ts : List TypedModule) (old new : Table) → AreTypedAs number old modules ts new
    → AllByRecursion (IsWellTyped new) (functions_of ts) × Grows old new
functions_well number [] [] old new typed = (tt, subst (λ x. Grows old x) (sym typed) (grows_same old))
functions_well number [] (t ∷ ts) old new typed = absurd typed
functions_well number (m ∷ modules) [] old new typed = absurd typed
functions_well number (m ∷ modules) (t ∷ ts) old new typed =
    let one = typed_modules_are_well_typed number m old t typed.0 typed.1 in
    let rest = functions_well (suc number) modules ts typed.0.syms new typed.2 in (
      all_append (IsWellTyped new) (map function_of t.functions) (functions_of ts)
          (subst (λ l. AllByRecursion (IsWellTyped new) l) (append-nil (map function_of t.functions))
          (all_map (IsWellTyped typed.0.syms) (IsWellTyped new) (well_typed_stays typed.0.syms new rest.1) (functions_of (t ∷ [])) one.0))
          rest.0,
      grows_then old typed.0.syms new one.1 rest.1,
    )

-- an object has a word at least
has_words : (fs : List Function) (syms : Table) → AreWhole fs syms → (pid : ℕ) (e : Entity) (s : Standing) → entity_at syms pid ≡ Some e
    → standing_at syms pid ≡ Some s → is_function e ≡ false → is_declared s ≡ false → 0 < words e
has_words fs syms whole pid (entities.Function gives params) s is st object given = absurd (true≢false object)
has_words fs syms whole pid (entities.Scalar ty fixed) s is st object given = omega arith
has_words fs syms whole pid (entities.Array ty fixed None) s is st object given = absurd (whole.lengths pid ty fixed s is st given)
has_words fs syms whole pid (entities.Array ty fixed (Some n)) s is st object given = whole.settled.lengths pid ty fixed n is

pub programs_are_well_typed : TypedProgramsAreWhole → TypedProgramsAreWellTyped
programs_are_well_typed wholes modules ts syms typed =
    let whole = wholes modules ts syms typed in
    record {
      functions = (functions_well 1 modules ts [] syms typed).0;
      apart = whole.settled.apart;
      defined = λ pid gives params is st. whole.settled.routines pid gives params standings.Defined is st;
      objects = has_words (functions_of ts) syms whole;
    }
