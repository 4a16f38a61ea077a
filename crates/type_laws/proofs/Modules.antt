-- Modules: each function that the typing rules give is bound.
use Rattle.std.proofs.Common.{◌≡◌, ℕ, List, [], ◌∷◌, ◌++◌, map, Bool, true, false, refl, subst, arith}
use Rattle.std.specs.Prelude.{if◌then◌else◌, is_none, codes}
use Rattle.std.specs.List.{AllByRecursion}
use Rattle.sym_tables.specs.Table.{Table}
use Rattle.c_tree.specs.declared.token.Header.{Header}
use Rattle.c_tree.specs.declared.token.Header.TheVariants as headers
use Rattle.c_tree.specs.declared.declaration.Item.{Item}
use Rattle.c_tree.specs.declared.declaration.Item.TheVariants as items
use Rattle.c_tree.specs.declared.declaration.Module.{Module}
use Rattle.c_typed.specs.declared.function.TypedFunction.{TypedFunction}
use Rattle.c_typed.specs.declared.function.TypedModule.{TypedModule}
use Rattle.c_typed.specs.Trees.{Function}
use Rattle.c_typed.specs.Views.{function_of}
use Rattle.c_types.specs.declared.binding.Binding.{Binding}
use Rattle.c_types.specs.declared.binding.Binding.TheVariants as bindings
use Rattle.c_types.specs.declared.binding.Library.TheVariants as library
use Rattle.c_types.specs.declared.checker.Awaited.{Awaited}
use Rattle.c_types.specs.declared.fault.TypeKind.TheVariants as kinds
use Rattle.c_types.specs.Names.{bound_here, bind}
use Rattle.c_types.specs.Rules.{Here, Gives}
use Rattle.c_types.specs.Typing as rules
use Rattle.c_types.specs.Typing.{start}
use Rattle.lower_laws.specs.Bound.{IsBound}
use Rattle.type_laws.specs.Laws.{TypedModulesAreBound}
use Rattle.type_laws.proofs.FileScope.{only}
use Rattle.type_laws.proofs.Functions.{file_declaration_keeps, function_keeps}
use Rattle.type_laws.proofs.Keeping.{IsNamed, Stays, Holds, Keeps, Any, and, gives, knows, changes, tests, stays_bound}

stays_if : {o : Here} (b : Bool) (h g : Here) → Stays (only 0) o g → Stays (only 0) o h → Stays (only 0) o (if b then g else h)
stays_if true h g p q = p
stays_if false h g p q = q

stays_new : {o : Here} (name : List ℕ) (b : Binding) → IsNamed (only 0) b → (h : Here) → Stays (only 0) o h → Stays (only 0) o (rules.bind_new name b h)
stays_new name b ok h st = stays_if (is_none (bound_here name h)) h (bind name b h) (stays_bound name b ok h st) st

stays_included : {o : Here} (x : Header) (h : Here) → Stays (only 0) o h → Stays (only 0) o (rules.include x h)
stays_included headers.Stdio h st =
    stays_new (codes "EOF") (bindings.Constant (record { 0 = 4294967295 })) tt _
    (stays_new (codes "putchar") (bindings.Library library.PutChar) tt _ (stays_new (codes "getchar") (bindings.Library library.GetChar) tt h st))
stays_included headers.Stdlib h st = stays_new (codes "exit") (bindings.Library library.Exit) tt h st

abbrev AreBound : List TypedFunction → Type 0
AreBound ts = AllByRecursion IsBound (map function_of ts)

all_items_keep : (o : Here) (number : ℕ) → o.locals ≡ [] → (xs : List Item) → Keeps (only 0) o AreBound (rules.all_items number xs)
all_items_keep o number none [] = gives [] tt
all_items_keep o number none (items.Include line header ∷ rest) =
    and (changes (rules.include header) (stays_included header)) (λ u a0. all_items_keep o number none rest)
all_items_keep o number none (items.Declaration d ∷ rest) =
    and (file_declaration_keeps o number d) (λ u a0. all_items_keep o number none rest)
all_items_keep o number none (items.Function f ∷ rest) =
    and (function_keeps o number f none) (λ t bound. and (all_items_keep o number none rest) (λ ts all. gives (t ∷ ts) (bound, all)))

all_lengths_keep : (o : Here) (xs : List Awaited) → Keeps (only 0) o Any (rules.all_lengths xs)
all_lengths_keep o [] = gives tt tt
all_lengths_keep o (a ∷ rest) =
    and (knows (bound_here a.name)) (λ b a0. and (tests (rules.has_length b) a.line kinds.ArraySize) (λ u a1. all_lengths_keep o rest))

abbrev IsModule : TypedModule → Type 0
IsModule t = AreBound t.functions

module_keeps : (o : Here) (number : ℕ) (m : Module) → o.locals ≡ [] → Keeps (only 0) o IsModule (rules.module_rules number m)
module_keeps o number m none =
    and (all_items_keep o number none m.items) (λ functions bound.
    and (knows (λ (h : Here). h.awaited)) (λ awaited a0.
    and (all_lengths_keep o awaited) (λ u a1. gives (record { functions = functions }) bound)))

stays_at_start : (syms : Table) → Stays (only 0) (start syms) (start syms)
stays_at_start syms = record { named = tt; within = tt; depth = refl; outside = refl; locals = refl; table = omega arith }

bound_alone : (fs : List Function) → AllByRecursion IsBound fs → AllByRecursion IsBound (fs ++ [])
bound_alone [] ok = tt
bound_alone (f ∷ fs) ok = (ok.0, bound_alone fs ok.1)

pub typed_modules_are_bound : TypedModulesAreBound
typed_modules_are_bound number m syms t h e =
    let given : Holds (only 0) (start syms) IsModule (rules.module_rules number m (start syms)) =
    (module_keeps (start syms) number m refl).by (start syms) (stays_at_start syms) in
    let good : Holds (only 0) (start syms) IsModule (Gives t h) = subst (λ r. Holds (only 0) (start syms) IsModule r) e given in
    bound_alone (map function_of t.functions) good.1
