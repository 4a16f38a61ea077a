-- Modules: their functions go with the table that they leave.
use Rattle.std.proofs.Common.{◌≡◌, ℕ, suc, List, [], ◌∷◌, ◌++◌, map, Bool, true, false, Some, None, refl, sym, ap, ◌∙◌, subst}
use Rattle.std.specs.Prelude.{if◌then◌else◌, is_none, codes}
use Rattle.std.specs.List.{AllByRecursion}
use Rattle.std.proofs.lemmas.Bool.{false≢true}
use Rattle.std.proofs.lemmas.List.{append_assoc}
use Rattle.sym_tables.specs.declared.entity.Entity.TheVariants as entities
use Rattle.sym_tables.specs.Table.{Table}
use Rattle.c_tree.specs.declared.token.Header.{Header}
use Rattle.c_tree.specs.declared.token.Header.TheVariants as headers
use Rattle.c_tree.specs.declared.declaration.Item.{Item}
use Rattle.c_tree.specs.declared.declaration.Item.TheVariants as items
use Rattle.c_tree.specs.declared.declaration.Module.{Module}
use Rattle.c_typed.specs.declared.function.TypedFunction.{TypedFunction}
use Rattle.c_typed.specs.declared.function.TypedModule.{TypedModule}
use Rattle.c_typed.specs.Trees.{Function}
use Rattle.c_typed.specs.Views.{function_of, functions_of}
use Rattle.c_types.specs.declared.binding.Binding.{Binding}
use Rattle.c_types.specs.declared.binding.Binding.TheVariants as bindings
use Rattle.c_types.specs.declared.binding.Library.TheVariants as library
use Rattle.c_types.specs.declared.checker.Awaited.{Awaited}
use Rattle.c_types.specs.declared.fault.TypeKind.TheVariants as kinds
use Rattle.c_types.specs.DeclarationRules as declarations
use Rattle.c_types.specs.Names.{bound_here, bind}
use Rattle.c_types.specs.Rules.{Here, Reply, Gives, Breaks, ◌>>=◌, ◌>>◌, followed, give, known, unless}
use Rattle.c_types.specs.Typing as rules
use Rattle.c_types.specs.Typing.{start}
use Rattle.lower_laws.specs.Bound.{IsBound}
use Rattle.type_laws.proofs.Modules.{typed_modules_are_bound}
use Rattle.program_laws.specs.Growing.{Grows}
use Rattle.program_laws.specs.Laws.{TypedModulesFit, TypedProgramsAreWhole, TypedModulesAreGiven}
use Rattle.program_laws.specs.Settled.{HasFunction, AreSettled, HaveLengths, AreWhole}
use Rattle.program_laws.specs.Typed.{AreTypedAs}
use Rattle.program_laws.proofs.Declarations.{file_declaration_files}
use Rattle.program_laws.proofs.Definitions.{DefinedHolds, function_does}
use Rattle.program_laws.proofs.Files.{FileHolds}
use Rattle.program_laws.proofs.Fine as fine
use Rattle.program_laws.proofs.Fine.{Any}
use Rattle.program_laws.proofs.Holding.{Holding, Lacks, holding_bound, all_map}
use Rattle.program_laws.proofs.States.{file_is}
use Rattle.program_laws.proofs.Tables.{grows_same, grows_then}

append_none : {X : Type 0} (xs : List X) → xs ++ [] ≡ xs
append_none [] = refl
append_none (x ∷ xs) = ap (λ l. x ∷ l) (append_none xs)

module _ (number : ℕ) where
  abbrev Held : List Function → Here → Type 0
  Held fs h = Holding number (HasFunction fs) fs h

  -- ## Headers

  abbrev HeldBehind : List Function → Here → Here → Type 0
  HeldBehind fs o g = Held fs g × Grows o.syms g.syms

  held_new : (fs : List Function) (name : List ℕ) (b : Binding) → fine.IsPlain number [] b → (h : Here) → Held fs h → HeldBehind fs h (rules.bind_new name b h)
  held_new fs name b plain h hold = by_test (is_none (bound_here name h)) refl
    where
      no_object : is_none (bound_here name h) ≡ true → (pid : ℕ) → Lacks pid (bound_here name h) → ⊥
      no_object none pid l = false≢true (ap is_none (sym l.is) ∙ none)

      by_test : (c : Bool) → is_none (bound_here name h) ≡ c → HeldBehind fs h (if c then bind name b h else h)
      by_test true is = (
        holding_bound number (HasFunction fs) fs name b h hold (fine.plain_coherent number [] h.syms name b plain) (no_object is),
        grows_same h.syms,
      )
      by_test false is = (hold, grows_same h.syms)

  held_included : (fs : List Function) (x : Header) (h : Here) → Held fs h → HeldBehind fs h (rules.include x h)
  held_included fs headers.Stdio h hold =
      let h1 = rules.bind_new (codes "getchar") (bindings.Library library.GetChar) h in
      let a = held_new fs (codes "getchar") (bindings.Library library.GetChar) tt h hold in
      let h2 = rules.bind_new (codes "putchar") (bindings.Library library.PutChar) h1 in
      let b = held_new fs (codes "putchar") (bindings.Library library.PutChar) tt h1 a.0 in
      let h3 = rules.bind_new (codes "EOF") (bindings.Constant (record { 0 = 4294967295 })) h2 in
      let c = held_new fs (codes "EOF") (bindings.Constant (record { 0 = 4294967295 })) tt h2 b.0 in
      (c.0, grows_then h.syms h2.syms h3.syms (grows_then h.syms h1.syms h2.syms a.1 b.1) c.1)
  held_included fs headers.Stdlib h hold = held_new fs (codes "exit") (bindings.Library library.Exit) tt h hold

  -- ## Items

  abbrev with_all : List Function → List TypedFunction → List Function
  with_all fs ts = fs ++ map function_of ts

  abbrev ItemsHold : List Function → Here → Reply (List TypedFunction) → Type 0
  ItemsHold fs o (Gives ts g) = Held (with_all fs ts) g × Grows o.syms g.syms
  ItemsHold fs o (Breaks line kind) = Unit {0}

  items_further : (fs : List Function) (o h : Here) → Grows o.syms h.syms → (r : Reply (List TypedFunction)) → ItemsHold fs h r → ItemsHold fs o r
  items_further fs o h x (Gives ts g) ok = (ok.0, grows_then o.syms h.syms g.syms x ok.1)
  items_further fs o h x (Breaks line kind) ok = tt

  -- behind an item the others follow
  abbrev Others : List Item → Type 0
  Others rest = (fs : List Function) (h : Here) → Held fs h → ItemsHold fs h (rules.all_items number rest h)

  behind_declaration : (rest : List Item) → Others rest → (fs : List Function) (h : Here) → (r : Reply (Unit {0}))
      → FileHolds number (HasFunction fs) fs h Any r → ItemsHold fs h (followed r (λ u. rules.all_items number rest))
  behind_declaration rest more fs h (Gives u g) ok = items_further fs h g ok.1 (rules.all_items number rest g) (more fs g ok.0)
  behind_declaration rest more fs h (Breaks line kind) ok = tt

  put_first : (fs : List Function) (t : TypedFunction) (o : Here) → (r : Reply (List TypedFunction)) → ItemsHold (fs ++ function_of t ∷ []) o r
      → ItemsHold fs o (followed r (λ ts. give (t ∷ ts)))
  put_first fs t o (Gives ts g) ok = (subst (λ l. Held l g) (append_assoc fs (function_of t ∷ []) (map function_of ts)) ok.0, ok.1)
  put_first fs t o (Breaks line kind) ok = tt

  behind_function : (rest : List Item) → Others rest → (fs : List Function) (h : Here) → (r : Reply TypedFunction)
      → DefinedHolds number fs h r → ItemsHold fs h (followed r (λ t. (rules.all_items number rest >>= λ ts. give (t ∷ ts))))
  behind_function rest more fs h (Gives t g) ok =
      put_first fs t h (rules.all_items number rest g)
      (items_further (fs ++ function_of t ∷ []) h g ok.1 (rules.all_items number rest g) (more (fs ++ function_of t ∷ []) g ok.0))
  behind_function rest more fs h (Breaks line kind) ok = tt

  items_do : (xs : List Item) → Others xs
  items_do [] fs h hold = (subst (λ l. Held l h) (sym (append_none fs)) hold, grows_same h.syms)
  items_do (items.Include line header ∷ rest) fs h hold =
      let x = held_included fs header h hold in
      items_further fs h (rules.include header h) x.1 (rules.all_items number rest (rules.include header h)) (items_do rest fs (rules.include header h) x.0)
  items_do (items.Declaration d ∷ rest) fs h hold =
      behind_declaration rest (items_do rest) fs h (declarations.file_declaration number d h)
      ((file_declaration_files number (HasFunction fs) fs d).by h hold)
  items_do (items.Function f ∷ rest) fs h hold =
      behind_function rest (items_do rest) fs h (rules.function number f h) (function_does number fs f h hold)

  -- ## Lengths

  abbrev LengthsHold : List Awaited → Here → Reply (Unit {0}) → Type 0
  LengthsHold xs h (Gives u g) = (g ≡ h) × AllByRecursion (λ (a : Awaited). rules.has_length (bound_here a.name h) ≡ true) xs
  LengthsHold xs h (Breaks line kind) = Unit {0}

  lengths_do : (xs : List Awaited) (h : Here) → LengthsHold xs h (rules.all_lengths xs h)
  lengths_do [] h = (refl, tt)
  lengths_do (a ∷ rest) h = by_test (rules.has_length (bound_here a.name h)) refl (lengths_do rest h)
    where
      further : rules.has_length (bound_here a.name h) ≡ true → (r : Reply (Unit {0})) → LengthsHold rest h r → LengthsHold (a ∷ rest) h r
      further is (Gives u g) ok = (ok.0, (is, ok.1))
      further is (Breaks line kind) ok = tt

      by_test : (b : Bool) → rules.has_length (bound_here a.name h) ≡ b → LengthsHold rest h (rules.all_lengths rest h)
          → LengthsHold (a ∷ rest) h ((unless b a.line kinds.ArraySize >>= λ u. rules.all_lengths rest) h)
      by_test true is more = further is (rules.all_lengths rest h) more
      by_test false is more = tt

  have_lengths : (fs : List Function) (h : Here) → Held fs h → AllByRecursion (λ (a : Awaited). rules.has_length (bound_here a.name h) ≡ true) h.awaited
      → HaveLengths h.syms
  have_lengths fs h hold all pid ty fixed s is st given =
      hold.waits pid ty fixed s is st given
      (all_map (λ a long l. false≢true
      (ap rules.has_length (sym (sym (file_is h a.name hold.depth hold.ok.nested) ∙ l.is)) ∙ long)) h.awaited all)

  -- ## Modules

  abbrev ModuleHolds : List Function → Here → Reply TypedModule → Type 0
  ModuleHolds fs o (Gives t g) =
      AreSettled (HasFunction (with_all fs t.functions)) (with_all fs t.functions) g.syms × HaveLengths g.syms × Grows o.syms g.syms
  ModuleHolds fs o (Breaks line kind) = Unit {0}

  module_does : (m : Module) (fs : List Function) (h : Here) → Held fs h → ModuleHolds fs h (rules.module_rules number m h)
  module_does m fs h hold = itemised (rules.all_items number m.items h) (items_do m.items fs h hold)
    where
      ended : (ts : List TypedFunction) (g : Here) → Held (with_all fs ts) g → Grows h.syms g.syms → (r : Reply (Unit {0})) → LengthsHold g.awaited g r
          → ModuleHolds fs h (followed r (λ u. give (record { functions = ts })))
      ended ts g there grows (Gives u k) ok =
          subst (λ (s : Here). AreSettled (HasFunction (with_all fs ts)) (with_all fs ts) s.syms × HaveLengths s.syms × Grows h.syms s.syms) (sym ok.0)
          (there.settled, have_lengths (with_all fs ts) g there ok.1, grows)
      ended ts g there grows (Breaks line kind) ok = tt

      itemised : (r : Reply (List TypedFunction)) → ItemsHold fs h r
          → ModuleHolds fs h
          (followed r
          (λ functions. (known (λ (g : Here). g.awaited) >>= λ awaited. (rules.all_lengths awaited >> give (record { functions = functions })))))
      itemised (Gives ts g) ok = ended ts g ok.0 ok.1 (rules.all_lengths g.awaited g) (lengths_do g.awaited g)
      itemised (Breaks line kind) ok = tt

  held_start : (fs : List Function) (syms : Table) → AreSettled (HasFunction fs) fs syms → HaveLengths syms → Held fs (start syms)
  held_start fs syms settled lengths = record {
    ok = record { coherent = tt; nested = tt };
    depth = refl;
    settled = settled;
    waits = λ pid ty fixed s is st given. absurd (lengths pid ty fixed s is st given);
  }

all_append : {X : Type 0} (P : X → Type 0) (xs ys : List X) → AllByRecursion P xs → AllByRecursion P ys → AllByRecursion P (xs ++ ys)
all_append P [] ys p q = q
all_append P (x ∷ xs) ys p q = (p.0, all_append P xs ys p.1 q)

pub typed_modules_fit : TypedModulesFit
typed_modules_fit number m fs old t h whole e =
    let given : ModuleHolds number fs (start old) (Gives t h) =
    subst (λ r. ModuleHolds number fs (start old) r) e (module_does number m fs (start old) (held_start number fs old whole.settled whole.lengths)) in
    let one : map function_of t.functions ≡ functions_of (t ∷ []) = sym (append_none (map function_of t.functions)) in (
      record {
        settled = subst (λ l. AreSettled (HasFunction (fs ++ l)) (fs ++ l) h.syms) one given.0;
        lengths = given.1;
        bound = all_append IsBound fs (functions_of (t ∷ [])) whole.bound (typed_modules_are_bound number m old t h e);
      },
      given.2,
    )

none_whole : AreWhole [] []
none_whole = record {
  settled = record {
    sound = record { limits = refl; inits = tt };
    names = tt;
    lengths = λ pid ty fixed n is. absurd (let c : None ≡ Some (entities.Array ty fixed (Some n)) = is in cc);
    routines = λ pid gives params s is st. absurd (let c : None ≡ Some (entities.Function gives params) = is in cc);
    functions = tt;
    apart = tt;
  };
  lengths = λ pid ty fixed s is st given. let c : None ≡ Some (entities.Array ty fixed None) = is in cc;
  bound = tt;
}

functions_more : (fs : List Function) (t : TypedModule) (ts : List TypedModule)
    → (fs ++ functions_of (t ∷ [])) ++ functions_of ts ≡ fs ++ functions_of (t ∷ ts)
functions_more fs t ts =
    append_assoc fs (functions_of (t ∷ [])) (functions_of ts)
    ∙ ap (λ l. fs ++ l) (ap (λ l. l ++ functions_of ts) (append_none (map function_of t.functions)))

whole_from : (number : ℕ) (modules : List Module) (ts : List TypedModule) (fs : List Function) (old new : Table) → AreWhole fs old
    → AreTypedAs number old modules ts new → AreWhole (fs ++ functions_of ts) new
whole_from number [] [] fs old new whole typed = subst (AreWhole (fs ++ [])) (sym typed) (subst (λ l. AreWhole l old) (sym (append_none fs)) whole)
whole_from number [] (t ∷ ts) fs old new whole typed = absurd typed
whole_from number (m ∷ modules) [] fs old new whole typed = absurd typed
whole_from number (m ∷ modules) (t ∷ ts) fs old new whole typed =
    let one = typed_modules_fit number m fs old t typed.0 whole typed.1 in
    subst (λ l. AreWhole l new) (functions_more fs t ts)
    (whole_from (suc number) modules ts (fs ++ functions_of (t ∷ [])) typed.0.syms new one.0 typed.2)

pub typed_programs_are_whole : TypedProgramsAreWhole
typed_programs_are_whole modules ts syms typed = whole_from 1 modules ts [] [] syms none_whole typed

pub typed_modules_are_given : TypedModulesAreGiven
typed_modules_are_given number [] old new typed = ([], typed)
typed_modules_are_given number (m ∷ modules) old new typed =
    let rest = typed_modules_are_given (suc number) modules typed.1.syms new typed.3 in (typed.0 ∷ rest.0, (typed.1, typed.2, rest.1))
