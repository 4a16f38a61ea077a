-- The definition of a function is what stands before its block, and then the block.
use Rattle.std.proofs.Common.{◌≡◌, ℕ, true, not, List, [], ◌∷◌, ◌⊎◌, inl, inr, Result, Ok, Err, refl, sym, ap, ◌∙◌}
use Rattle.std.proofs.lemmas.List.{append-nil}
use Rattle.hlo_num.specs.declared.word.Ty.{Ty}
use Rattle.sym_tables.specs.declared.entity.Entity.TheVariants as entities
use Rattle.sym_tables.specs.declared.symbol.Standing.TheVariants as standings
use Rattle.c_tree.specs.declared.declaration.Function.{Function}
use Rattle.c_tree.specs.declared.declaration.Parameter.{Parameter}
use Rattle.c_types.specs.declared.binding.Binding.TheVariants as bindings
use Rattle.c_types.specs.declared.definition.Head.{Head}
use Rattle.c_types.specs.declared.fault.TypeKind.TheVariants as kinds
use Rattle.c_typed.specs.declared.function.Parameter.{Parameter as TypedParameter}
use Rattle.c_typed.specs.declared.function.TypedFunction.{TypedFunction}
use Rattle.c_types.specs.declared.linkage.Linked.{Linked}
use Rattle.c_types.specs.declared.specifiers.Site.TheVariants as sites
use Rattle.c_types.specs.declared.specifiers.Specified.{Specified}
use Rattle.c_types.specs.declared.fault.TypeFault.{TypeFault}
use Rattle.c_types.specs.declared.fault.TypeFault.TheVariants as faults
use Rattle.c_types.specs.DeclarationRules.{link, parameters}
use Rattle.c_types.specs.Definitions.{bodied, front, heading}
use Rattle.c_types.specs.Enumerations.{is_library}
use Rattle.c_types.specs.ExpressionRules.{specifying}
use Rattle.c_types.specs.Follows.{Follows}
use Rattle.c_types.specs.Names.{bind, enter, leave}
use Rattle.c_types.specs.Rules.{Here, Reply, Gives, Breaks, Rule, followed, ◌>>=◌, give, unless}
use Rattle.c_types.specs.Typing.{Aside, aside, function, named_parameters}
use Rattle.c_types.proofs.Orders.{before}

abbrev head_of : Specified → Aside → ℕ → List TypedParameter → Head
head_of s scope pid params = record { pid = pid; result = s.ty; params = params; scope = scope }

-- the name is in the scope of the file
abbrev bound : Function → Linked → Here → Here
bound f l h = bind f.name.name (bindings.Function l.pid l.internal) h

named : (n : Reply (List TypedParameter)) (f : Function) (s : Specified) (scope : Aside) (pid : ℕ)
    → followed n (λ params. bodied (head_of s scope pid params) f.body) ≡ followed (followed n (λ params. give (head_of s scope pid params)))
    (λ head. bodied head f.body)
named (Gives params h) f s scope pid = refl
named (Breaks line kind) f s scope pid = refl

linked : (r : Reply Linked) (f : Function) (s : Specified) (types : List Ty) (scope : Aside)
    → followed r (λ l h. followed (named_parameters types f.parameters (bound f l h)) (λ params. bodied (head_of s scope l.pid params) f.body))
    ≡ followed (followed (followed r (λ l h. Gives l.pid (bound f l h)))
    (λ pid h. followed (named_parameters types f.parameters h) (λ params. give (head_of s scope pid params)))) (λ head. bodied head f.body)
linked (Gives l h) f s types scope = named (named_parameters types f.parameters (bound f l h)) f s scope l.pid
linked (Breaks line kind) f s types scope = refl

abbrev defining : ℕ → Function → Specified → List Ty → Rule Linked
defining number f s types = link number f.name s.storage true standings.Defined (entities.Function s.ty types)

allowed : (u : Reply (Unit {0})) (number : ℕ) (f : Function) (s : Specified) (types : List Ty) (scope : Aside)
    → followed u (λ _ h. followed (defining number f s types h) (λ l h. followed (named_parameters types f.parameters (bound f l h))
    (λ params. bodied (head_of s scope l.pid params) f.body)))
    ≡ followed (followed (followed u (λ _ h. followed (defining number f s types h) (λ l h. Gives l.pid (bound f l h))))
    (λ pid h. followed (named_parameters types f.parameters h) (λ params. give (head_of s scope pid params)))) (λ head. bodied head f.body)
allowed (Gives u h) number f s types scope = linked (defining number f s types h) f s types scope
allowed (Breaks line kind) number f s types scope = refl

-- what follows the scope of the parameters
abbrev whole : ℕ → Function → Specified → List Ty → Aside → Rule TypedFunction
whole number f s types scope h = followed (unless (not (is_library f.name.name)) f.name.line kinds.Library h)
    (λ _ h. followed (defining number f s types h) (λ l h. followed (named_parameters types f.parameters (bound f l h))
    (λ params. bodied (head_of s scope l.pid params) f.body)))

fronted : (number : ℕ) (f : Function) (s : Specified) (types : List Ty) (scope : Aside) (h : Here)
    → whole number f s types scope h ≡ followed (front number f s types scope h) (λ head. bodied head f.body)
fronted number f s types scope h = allowed (unless (not (is_library f.name.name)) f.name.line kinds.Library h) number f s types scope

typed : (r : Reply (List Ty)) (number : ℕ) (f : Function) (s : Specified)
    → followed r (λ types h. whole number f s types (aside h) (leave h)) ≡ followed (followed r (λ types h. front number f s types (aside h) (leave h)))
    (λ head. bodied head f.body)
typed (Gives types h) number f s = fronted number f s types (aside h) (leave h)
typed (Breaks line kind) number f s = refl

started : (r : Reply Specified) (number : ℕ) (f : Function)
    → followed r (λ s h. followed (parameters f.parameters (enter h)) (λ types h. whole number f s types (aside h) (leave h)))
    ≡ followed (followed r (λ s h. followed (parameters f.parameters (enter h)) (λ types h. front number f s types (aside h) (leave h))))
    (λ head. bodied head f.body)
started (Gives s h) number f = typed (parameters f.parameters (enter h)) number f s
started (Breaks line kind) number f = refl

pub function_is : (number : ℕ) (f : Function) → function number f ≡ (heading number f >>= λ head. bodied head f.body)
function_is number f = λ i. λ h. started (specifying f.specifiers sites.File h) number f i

-- a loop over types and parameters side by side, at the end of one of them
pub finished : (xs : List TypedParameter) (types : List Ty) (ps : List Parameter) (h : Here) → (types ≡ []) ⊎ (ps ≡ [])
    → before xs (named_parameters types ps h) ≡ Gives xs h
finished xs [] ps h e = ap (λ l. Gives l h) (append-nil xs)
finished xs (t ∷ ts) [] h e = ap (λ l. Gives l h) (append-nil xs)
finished xs (t ∷ ts) (p ∷ ps) h (inl q) = let none : List Ty = [] in let r : t ∷ ts ≡ none = q in absurd cc
finished xs (t ∷ ts) (p ∷ ps) h (inr q) = let none : List Parameter = [] in let r : p ∷ ps ≡ none = q in absurd cc

-- a step follows each rule that replies the same
pub same_reply : {X A : Type 0} (view : X → A) (rule rule' : Rule A) (h h' new : Here) (res : Result X TypeFault) → rule h ≡ rule' h'
    → Follows view rule h res new → Follows view rule' h' res new
same_reply view rule rule' h h' new (Ok x) e f = sym e ∙ f
same_reply view rule rule' h h' new (Err (faults.At line kind)) e f = sym e ∙ f
same_reply view rule rule' h h' new (Err faults.Memory) e f = tt

-- what stands before the block, from the scope of the parameters on
pub heading_is : (number : ℕ) (f : Function) (s : Specified) (types : List Ty) (old h h' : Here) → specifying f.specifiers sites.File old ≡ Gives s h
    → parameters f.parameters (enter h) ≡ Gives types h' → heading number f old ≡ front number f s types (aside h') (leave h')
heading_is number f s types old h h' e g =
    ap (λ r. followed r (λ s h. followed (parameters f.parameters (enter h)) (λ types h. front number f s types (aside h) (leave h)))) e ∙ ap
    (λ r. followed r (λ types h. front number f s types (aside h) (leave h))) g
