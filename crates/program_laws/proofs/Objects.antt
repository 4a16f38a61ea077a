-- A declarator of an object at file scope: the name is taken in, its binding goes with the table, and an array that lacks
-- its length is awaited.
use Rattle.std.proofs.Common.{◌≡◌, ℕ, ◌<◌, ◌-◌, Bool, true, false, List, [], ◌∷◌, ◌++◌, length, Option, Some, None, refl, sym, ap, ◌∙◌, subst, arith}
use Rattle.std.specs.Prelude.{if◌then◌else◌, ◌&&◌, not, nat_lt, nat_le, ⊤}
use Rattle.std.specs.Option.{unwrap_or}
use Rattle.std.specs.Cmp.Lexicographic.{same_text}
use Rattle.std.proofs.lemmas.Bool.{true≢false, false≢true, leb-true}
use Rattle.hlo_num.specs.declared.word.Ty.{Ty}
use Rattle.hlo_num.specs.Words.{convert}
use Rattle.il_core.specs.Limits.{max_elements}
use Rattle.sym_tables.specs.declared.entity.Entity.{Entity}
use Rattle.sym_tables.specs.declared.entity.Entity.TheVariants as entities
use Rattle.sym_tables.specs.declared.symbol.Standing.{Standing}
use Rattle.sym_tables.specs.declared.symbol.Standing.TheVariants as standings
use Rattle.sym_tables.specs.declared.symbol.Symbol.{Symbol}
use Rattle.sym_tables.specs.Entities.{lacks_length}
use Rattle.sym_tables.specs.Symbols.{is_declared, later}
use Rattle.sym_tables.specs.Table.{same_name, symbol_at, initialised}
use Rattle.c_tree.specs.declared.expression.Expr.{Expr}
use Rattle.c_tree.specs.declared.expression.Identifier.{Identifier}
use Rattle.c_tree.specs.declared.declaration.Declarator.{Declarator}
use Rattle.c_tree.specs.declared.declaration.Shape.{Shape}
use Rattle.c_tree.specs.declared.declaration.Shape.TheVariants as shapes
use Rattle.c_tree.specs.declared.declaration.Initialiser.{Initialiser}
use Rattle.c_tree.specs.declared.declaration.Initialiser.TheVariants as initialisers
use Rattle.c_typed.specs.Trees.{Function}
use Rattle.c_types.specs.declared.binding.Binding.{Binding}
use Rattle.c_types.specs.declared.binding.Binding.TheVariants as bindings
use Rattle.c_types.specs.declared.binding.Extent.{Extent}
use Rattle.c_types.specs.declared.binding.Extent.TheVariants as extents
use Rattle.c_types.specs.declared.checker.Awaited.{Awaited}
use Rattle.c_types.specs.declared.fault.TypeKind.TheVariants as kinds
use Rattle.c_types.specs.declared.linkage.Linked.{Linked}
use Rattle.c_types.specs.declared.specifiers.Specified.{Specified}
use Rattle.c_types.specs.declared.specifiers.Storage.{Storage}
use Rattle.c_types.specs.DeclarationRules as rules
use Rattle.c_types.specs.DeclarationRules.{object_entity, extent_or, object_standing, is_array, is_extern, program_name}
use Rattle.c_types.specs.Enumerations.{is_library}
use Rattle.c_types.specs.Names.{bound_here, bind}
use Rattle.c_types.specs.Rules.{Here, Reply, Gives, Breaks, ◌>>=◌, followed, give, change}
use Rattle.c_types.specs.StatementRules.{is_length, constant_word, length_of, value_type}
use Rattle.program_laws.specs.Growing.{entity_in, standing_in, entity_at, standing_at, IsMore, Grows}
use Rattle.program_laws.proofs.Files.{Sure, sure_and, sure_any, sure_gives, sure_tests, FileHolds, Files, files_and, files_quiet, files_breaks}
use Rattle.program_laws.proofs.Files.{files_if, files_further}
use Rattle.program_laws.proofs.Fine as fine
use Rattle.program_laws.proofs.Fine.{Any}
use Rattle.program_laws.proofs.Holding.{Holding, HasGoodLength, Lacks, IsAwaited, awaited_still, awaited_more, awaited_last, file_of, coherent_at}
use Rattle.program_laws.proofs.Holding.{settled_object, some_is, array_scalar, array_length}
use Rattle.program_laws.proofs.Links.{IsLinked, LinkHolds, link_does}
use Rattle.program_laws.proofs.States.{AreCoherent, IsCoherent, IsNested, IsOk, at_file, file_is, file_bound, all_grown, after_beside}
use Rattle.program_laws.proofs.Statements.{constant_word_fine, length_fine, value_type_fine}
use Rattle.program_laws.proofs.Tables.{entity_met, standing_met, entity_here, standing_here, entity_other, standing_other, said_here, entering_grows}
use Rattle.program_laws.proofs.Tables.{at_or_not, IsNamed, named_once, more_then, initialised_marked, reflexive}

-- ## Lengths

-- what a declarator says goes with its initialiser
abbrev pub IsSaid : Option Initialiser → Extent → Type 0
IsSaid i extents.Scalar = ⊤
IsSaid i (extents.Array (Some n)) = 0 < n
IsSaid None (extents.Array None) = ⊤
IsSaid (Some (initialisers.Value e)) (extents.Array None) = ⊤
IsSaid (Some (initialisers.List line es)) (extents.Array None) = ⊥

and_left : (a b : Bool) → (a && b) ≡ true → a ≡ true
and_left true b h = refl
and_left false b h = absurd (false≢true h)

long : (n : ℕ) → is_length n ≡ true → 0 < n
long n h = let le = leb-true 1 n (and_left (nat_le 1 n) (nat_le n max_elements) h) in omega (arith, le)

length_sure : (line : ℕ) (e : Expr) → Sure (λ n. 0 < n) (length_of line e)
length_sure line e =
    sure_and (sure_any (constant_word e)) (λ n a. sure_and (sure_tests (is_length n) line kinds.ArraySize) (λ u is. sure_gives n (long n is)))

extent_sure : (line : ℕ) (x : Shape) (i : Option Initialiser) → Sure (IsSaid i) (rules.file_extent line x i)
extent_sure line shapes.Plain i = sure_gives extents.Scalar tt
extent_sure line (shapes.Array (Some e)) i = sure_and (length_sure line e) (λ n is. sure_gives (extents.Array (Some n)) is)
extent_sure line (shapes.Array None) (Some (initialisers.List l es)) =
    sure_and (sure_tests (is_length (length es)) line kinds.ArraySize) (λ u is. sure_gives (extents.Array (Some (length es))) (long (length es) is))
extent_sure line (shapes.Array None) (Some (initialisers.Value e)) = sure_gives (extents.Array None) tt
extent_sure line (shapes.Array None) None = sure_gives (extents.Array None) tt
extent_sure line (shapes.Function ps) i = sure_gives extents.Scalar tt

good_said : (i : Option Initialiser) (x : Extent) → IsSaid i x → HasGoodLength x
good_said i extents.Scalar ok = tt
good_said i (extents.Array (Some n)) ok = ok
good_said i (extents.Array None) ok = tt

-- ## What the module knows of the object then

extent_more : (ty : Ty) (fixed : Bool) (now : Entity) (said : Extent) (old : Option Binding) → IsMore (object_entity ty fixed said) now
    → ((p : ℕ) (i : Bool) (t : Ty) (f : Bool) (y : Extent) → old ≡ Some (bindings.Object p i t f y) → IsMore (object_entity t f y) now)
    → IsMore (object_entity ty fixed (extent_or said old)) now
extent_more ty fixed now extents.Scalar old m o = m
extent_more ty fixed now (extents.Array n) None m o = m
extent_more ty fixed now (extents.Array n) (Some (bindings.Constant w)) m o = m
extent_more ty fixed now (extents.Array n) (Some (bindings.Library x)) m o = m
extent_more ty fixed now (extents.Array n) (Some (bindings.Function p i)) m o = m
extent_more ty fixed now (extents.Array n) (Some (bindings.Local p t f y)) m o = m
extent_more ty fixed now (extents.Array n) (Some (bindings.Parameter p t f)) m o = m
extent_more ty fixed now (extents.Array (Some n)) (Some (bindings.Object p i t f y)) m o = m
extent_more ty fixed now (extents.Array None) (Some (bindings.Object p i t f extents.Scalar)) m o = m
extent_more ty fixed now (extents.Array None) (Some (bindings.Object p i t f (extents.Array None))) m o = m
extent_more ty fixed now (extents.Array None) (Some (bindings.Object p i t f (extents.Array (Some k)))) m o =
    let q : entities.Array ty fixed m.0 ≡ entities.Array t f (Some k) = sym m.1 ∙ o p i t f (extents.Array (Some k)) refl in
    m.1 ∙ ap (λ z. entities.Array ty fixed z) (array_length q)

said_none : (said : Extent) (old : Option Binding) → extent_or said old ≡ extents.Array None → said ≡ extents.Array None
said_none extents.Scalar old e = e
said_none (extents.Array None) old e = refl
said_none (extents.Array (Some n)) None e = e
said_none (extents.Array (Some n)) (Some (bindings.Constant w)) e = e
said_none (extents.Array (Some n)) (Some (bindings.Library x)) e = e
said_none (extents.Array (Some n)) (Some (bindings.Function p i)) e = e
said_none (extents.Array (Some n)) (Some (bindings.Local p t f y)) e = e
said_none (extents.Array (Some n)) (Some (bindings.Parameter p t f)) e = e
said_none (extents.Array (Some n)) (Some (bindings.Object p i t f y)) e = e

lacking_extent : (ty : Ty) (fixed : Bool) (y : Extent) (t : Ty) (f : Bool) → IsMore (object_entity ty fixed y) (entities.Array t f None)
    → y ≡ extents.Array None
lacking_extent ty fixed extents.Scalar t f more = absurd (array_scalar more)
lacking_extent ty fixed (extents.Array (Some n)) t f more = absurd (let c : None ≡ Some n = array_length more in cc)
lacking_extent ty fixed (extents.Array None) t f more = refl

lacks_is : (e : Entity) → lacks_length e ≡ true → (t : Ty) × (f : Bool) × (e ≡ entities.Array t f None)
lacks_is (entities.Function gives params) h = absurd (false≢true h)
lacks_is (entities.Scalar ty fixed) h = absurd (false≢true h)
lacks_is (entities.Array ty fixed None) h = (ty, fixed, refl)
lacks_is (entities.Array ty fixed (Some n)) h = absurd (false≢true h)

declared_again : (a : Standing) → later a standings.Declared ≡ a
declared_again standings.Declared = refl
declared_again standings.Tentative = refl
declared_again standings.Defined = refl

-- ## The state behind a linked declarator

module _ (number : ℕ) (has : ℕ → Type 0) (fs : List Function) (name : List ℕ) (standing : Standing) (ty : Ty) (fixed : Bool) (said : Extent)
    (h : Here) (hold : Holding number has fs h) (good : HasGoodLength said) (l : Linked) (g : Here)
    (k : IsLinked number name standing (object_entity ty fixed said) h l g) where
  abbrev extent : Extent
  extent = extent_or said (bound_here name h)

  abbrev binding : Binding
  binding = bindings.Object l.pid l.internal ty fixed extent

  abbrev behind : List Awaited → Here
  behind awaited = record (bind name binding g) { awaited = awaited }

  abbrev now : Entity
  now = entity_met (symbol_at h.syms l.pid) (object_entity ty fixed said)

  old_coherent : (p : ℕ) (i : Bool) (t : Ty) (f : Bool) (y : Extent) → bound_here name h ≡ Some (bindings.Object p i t f y)
      → IsCoherent number h.syms name (bindings.Object p i t f y)
  old_coherent p i t f y is =
      coherent_at number has fs h.syms name h.names.declared (bindings.Object p i t f y) hold.ok.coherent (file_is h name hold.depth hold.ok.nested ∙ is)

  -- the name had this PID before
  same_pid : (p : ℕ) (i : Bool) (t : Ty) (f : Bool) (y : Extent) → bound_here name h ≡ Some (bindings.Object p i t f y) → p ≡ l.pid
  same_pid p i t f y is =
      named_once g.syms (program_name number l.internal name) p l.pid
      (k.entering.names (program_name number l.internal name) p
      (subst (λ b. IsNamed h.syms (program_name number b name) p) (sym (k.internal (bindings.Object p i t f y) is)) (old_coherent p i t f y is).0))
      k.entering.named

  old_more : (p : ℕ) (i : Bool) (t : Ty) (f : Bool) (y : Extent) → bound_here name h ≡ Some (bindings.Object p i t f y) → IsMore (object_entity t f y) now
  old_more p i t f y is =
      let x = (old_coherent p i t f y is).1 in
      let later = (entering_grows k.entering).entities p x.0 x.1 in
      let same : later.0 ≡ now = some_is (sym later.1 ∙ ap (entity_at g.syms) (same_pid p i t f y is) ∙ entity_here k.entering) in
      more_then (object_entity t f y) x.0 now x.2 (subst (λ e. IsMore x.0 e) same later.2)

  now_more : IsMore (object_entity ty fixed extent) now
  now_more = extent_more ty fixed now said (bound_here name h) (said_here k.entering) old_more

  ok_behind : (awaited : List Awaited) → IsOk number (behind awaited)
  ok_behind awaited = record {
    coherent = (
      (k.entering.named, (now, entity_here k.entering, now_more)),
      subst (λ n. AreCoherent number g.syms n.declared) (sym k.names)
          (all_grown number h.syms g.syms (entering_grows k.entering) h.names.declared hold.ok.coherent),
    );
    nested = (omega arith, subst (λ n. IsNested n.depth n.declared) (sym k.names) hold.ok.nested);
  }

  depth_behind : g.names.depth ≡ 0
  depth_behind = ap (λ n. n.depth) k.names ∙ hold.depth

  abbrev file_behind : List ℕ → Option Binding
  file_behind other = at_file other (bind name binding g).names.declared

  file_behind_is : (other : List ℕ) → file_behind other ≡ (if same_name other name then Some binding else file_of h other)
  file_behind_is other =
      file_bound g name other binding depth_behind
      ∙ ap (λ o. if same_name other name then Some binding else o) (ap (λ n. at_file other n.declared) k.names)

  -- another object's array is awaited still
  other_awaited : (p : ℕ) → (p ≡ l.pid → ⊥) → (t : Ty) (f : Bool) (s : Standing) → entity_at g.syms p ≡ Some (entities.Array t f None)
      → standing_at g.syms p ≡ Some s → is_declared s ≡ false → IsAwaited h.awaited file_behind p
  other_awaited p ne t f s is st given =
      awaited_still h.awaited (file_of h) file_behind p
      (λ other x. subst (λ o. Lacks p o) (sym (file_behind_is other)) (by_name other x (same_name other name) refl))
      (hold.waits p t f s (sym (entity_other k.entering p ne) ∙ is) (sym (standing_other k.entering p ne) ∙ st) given)
    where
      by_name : (other : List ℕ) → Lacks p (file_of h other) → (c : Bool) → same_name other name ≡ c → Lacks p (if c then Some binding else file_of h other)
      by_name other x true same =
          let here : bound_here name h ≡ Some (bindings.Object p x.internal x.ty x.fixed (extents.Array None)) =
          sym (file_is h name hold.depth hold.ok.nested) ∙ ap (λ n. file_of h n) (sym (same_text other name (sym same))) ∙ x.is in
          absurd (ne (same_pid p x.internal x.ty x.fixed (extents.Array None) here))
      by_name other x false same = x

  -- where the object itself lacks its length, the module doesn't know one
  extent_none : (t : Ty) (f : Bool) → entity_at g.syms l.pid ≡ Some (entities.Array t f None) → extent ≡ extents.Array None
  extent_none t f is =
      lacking_extent ty fixed extent t f (subst (λ e. IsMore (object_entity ty fixed extent) e) (some_is (sym (entity_here k.entering) ∙ is)) now_more)

  binding_lacks : (t : Ty) (f : Bool) → entity_at g.syms l.pid ≡ Some (entities.Array t f None) → Lacks l.pid (Some binding)
  binding_lacks t f is = record {
    internal = l.internal;
    ty = ty;
    fixed = fixed;
    is = ap (λ y. Some (bindings.Object l.pid l.internal ty fixed y)) (extent_none t f is);
  }

  name_lacks : (t : Ty) (f : Bool) → entity_at g.syms l.pid ≡ Some (entities.Array t f None) → Lacks l.pid (file_behind name)
  name_lacks t f is =
      subst (λ o. Lacks l.pid o)
      (sym (file_behind_is name ∙ ap (λ (c : Bool). if c then Some binding else file_of h name) (reflexive name)))
      (binding_lacks t f is)

  abbrev IsLate : List Awaited → Type 0
  IsLate awaited = (t : Ty) (f : Bool) (s : Standing) → entity_at g.syms l.pid ≡ Some (entities.Array t f None) → standing_at g.syms l.pid ≡ Some s
      → is_declared s ≡ false → IsAwaited awaited file_behind l.pid

  holding_behind : (awaited : List Awaited) → IsLate awaited → ((p : ℕ) → IsAwaited h.awaited file_behind p → IsAwaited awaited file_behind p)
      → Holding number has fs (behind awaited)
  holding_behind awaited late more = record {
    ok = ok_behind awaited;
    depth = depth_behind;
    settled = settled_object has fs hold.settled ty fixed said good k.entering;
    waits = λ p t f s is st given.
        at_or_not p l.pid
        (λ same. subst (λ q. IsAwaited awaited file_behind q) (sym same)
        (late t f s (ap (entity_at g.syms) (sym same) ∙ is) (ap (standing_at g.syms) (sym same) ∙ st) given))
        (λ ne. more p (other_awaited p ne t f s is st given));
  }

  -- an `extern` declaration of what was awaited already
  late_extern : standing ≡ standings.Declared → IsLate h.awaited
  late_extern declared t f s is st given = by_symbol (symbol_at h.syms l.pid) refl
    where
      here : Lacks l.pid (Some binding)
      here = binding_lacks t f is

      keep : IsAwaited h.awaited (file_of h) l.pid → IsAwaited h.awaited file_behind l.pid
      keep w =
          awaited_still h.awaited (file_of h) file_behind l.pid
          (λ other x. subst (λ o. Lacks l.pid o) (sym (file_behind_is other)) (by_name other x (same_name other name))) w
        where
          by_name : (other : List ℕ) → Lacks l.pid (file_of h other) → (c : Bool) → Lacks l.pid (if c then Some binding else file_of h other)
          by_name other x true = here
          by_name other x false = x

      standing_is : (o : Option Symbol) → symbol_at h.syms l.pid ≡ o → standing_met o standings.Declared ≡ s
      standing_is o there =
          some_is (ap (λ x. Some (standing_met o x)) (sym declared) ∙ ap (λ x. Some (standing_met x standing)) (sym there)
          ∙ sym (standing_here k.entering) ∙ st)

      entity_is : (o : Option Symbol) → symbol_at h.syms l.pid ≡ o → entity_met o (object_entity ty fixed said) ≡ entities.Array t f None
      entity_is o there = some_is (ap (λ x. Some (entity_met x (object_entity ty fixed said))) (sym there) ∙ sym (entity_here k.entering) ∙ is)

      by_lacks : (e : Entity) (b : Bool) → lacks_length e ≡ b → (if b then object_entity ty fixed said else e) ≡ entities.Array t f None
          → (t1 : Ty) × (f1 : Bool) × (e ≡ entities.Array t1 f1 None)
      by_lacks e true lacks same = lacks_is e lacks
      by_lacks e false lacks same = (t, f, same)

      by_symbol : (o : Option Symbol) → symbol_at h.syms l.pid ≡ o → IsAwaited h.awaited file_behind l.pid
      by_symbol None there = absurd (true≢false (ap is_declared (standing_is None there) ∙ given))
      by_symbol (Some y) there =
          let e = by_lacks y.entity (lacks_length y.entity) refl (entity_is (Some y) there) in
          keep (hold.waits l.pid e.0 e.1 s (ap entity_in there ∙ ap Some e.2)
          (ap standing_in there ∙ ap Some (sym (declared_again y.standing) ∙ standing_is (Some y) there)) given)

-- ## The words of a definition

module _ (number : ℕ) where
  words_more_fine : (line : ℕ) (ty : Ty) (room : ℕ) (es : List Expr) → fine.Fine number [] Any (rules.element_words line ty room es)
  words_more_fine line ty room [] = fine.gives number [] [] tt
  words_more_fine line ty room (e ∷ es) =
      fine.if_tests number [] (nat_lt 0 room) line kinds.ArraySize (λ u is.
      fine.and number [] (constant_word_fine number [] {Q = λ w. Unit {0}} e (λ w. tt)) (λ w.
      fine.and number [] (words_more_fine line ty (room - 1) es) (λ ws. fine.gives number [] (record { 0 = convert ty w } ∷ ws) (λ a b. tt))))

  words_fine : (line : ℕ) (ty : Ty) (x : Extent) (i : Initialiser) → fine.Fine number [] Any (rules.initial_words line ty x i)
  words_fine line ty extents.Scalar (initialisers.Value e) =
      fine.and number [] (constant_word_fine number [] {Q = λ w. Unit {0}} e (λ w. tt))
      (λ w. fine.gives number [] (record { 0 = convert ty w } ∷ []) (λ a. tt))
  words_fine line ty extents.Scalar (initialisers.List l es) = fine.breaks number [] _ _
  words_fine line ty (extents.Array n) (initialisers.Value e) = fine.breaks number [] _ _
  words_fine line ty (extents.Array n) (initialisers.List l es) = words_more_fine line ty (unwrap_or n 0) es

  extent_fine : (line : ℕ) (x : Shape) (i : Option Initialiser) → fine.Fine number [] Any (rules.file_extent line x i)
  extent_fine line shapes.Plain i = fine.gives number [] _ tt
  extent_fine line (shapes.Array (Some e)) i =
      fine.and number [] (length_fine number [] line e) (λ n. fine.gives number [] (extents.Array (Some n)) (λ a. tt))
  extent_fine line (shapes.Array None) (Some (initialisers.List l es)) =
      fine.if_tests number [] (is_length (length es)) line kinds.ArraySize (λ u is. fine.gives number [] (extents.Array (Some (length es))) tt)
  extent_fine line (shapes.Array None) (Some (initialisers.Value e)) = fine.gives number [] _ tt
  extent_fine line (shapes.Array None) None = fine.gives number [] _ tt
  extent_fine line (shapes.Function ps) i = fine.gives number [] _ tt

  started_fine : (line pid : ℕ) (ty : Ty) (x : Extent) (i : Initialiser) → fine.Fine number [] Any
      (rules.initial_words line ty x i >>= λ words. change (λ (h : Here). record h { syms = initialised h.syms pid words }))
  started_fine line pid ty x i =
      fine.and number [] (words_fine line ty x i) (λ words.
      fine.changes_end number [] (λ (h : Here). record h { syms = initialised h.syms pid words })
      (λ h ok. after_beside number h (record h { syms = initialised h.syms pid words }) refl refl (initialised_marked h.syms pid words) ok) (λ a. tt))

-- ## The rules

module _ (number : ℕ) (has : ℕ → Type 0) (fs : List Function) where
  module _ (x : Identifier) (storage : Option Storage) (ty : Ty) (fixed : Bool) (said : Extent) (h : Here) (hold : Holding number has fs h)
      (l : Linked) (g : Here) where
    abbrev known : Extent
    known = extent_or said (bound_here x.name h)

    abbrev bound : Here
    bound = bind x.name (bindings.Object l.pid l.internal ty fixed known) g

    started : (i : Initialiser) (y : Extent) → Grows h.syms g.syms → Holding number has fs bound
        → FileHolds number has fs h Any (rules.begun x l.pid ty y storage (Some i) bound)
    started i y grows there =
        files_further number has fs Any h bound grows (rules.begun x l.pid ty y storage (Some i) bound)
        ((files_quiet number has fs (started_fine number x.line l.pid ty y i)
        (sure_any (rules.initial_words x.line ty y i >>= λ words. change (λ (k : Here). record k { syms = initialised k.syms l.pid words })))).by bound there)

    module _ (standing : Standing) (good : HasGoodLength said) (k : IsLinked number x.name standing (object_entity ty fixed said) h l g) where
      -- where it can't lack its length
      never : ((t : Ty) (f : Bool) → entity_at g.syms l.pid ≡ Some (entities.Array t f None) → ⊥) → Holding number has fs bound
      never no_array =
          holding_behind number has fs x.name standing ty fixed said h hold good l g k g.awaited
          (λ t f s is st given. absurd (no_array t f is))
          (λ p w. subst (λ a. IsAwaited a (file_behind number has fs x.name standing ty fixed said h hold good l g k) p) (sym k.awaited) w)

      none_here : (t : Ty) (f : Bool) → entity_at g.syms l.pid ≡ Some (entities.Array t f None) → known ≡ extents.Array None
      none_here = extent_none number has fs x.name standing ty fixed said h hold good l g k

      value_ends : (e : Expr) (y : Extent) → known ≡ y → FileHolds number has fs h Any (rules.begun x l.pid ty y storage (Some (initialisers.Value e)) bound)
      value_ends e extents.Scalar is =
          started (initialisers.Value e) extents.Scalar (entering_grows k.entering)
          (never (λ t f there. let c : extents.Scalar ≡ extents.Array None = sym is ∙ none_here t f there in cc))
      value_ends e (extents.Array n) is = tt

      abbrev waiting : Awaited
      waiting = record { name = x.name; line = x.line }

      none_ends : (b : Bool) → (is_array known && not (is_extern storage)) ≡ b → (is_extern storage ≡ true → standing ≡ standings.Declared)
          → FileHolds number has fs h Any
          ((if b then change (λ (s : Here). record s { awaited = s.awaited ++ waiting ∷ [] }) else give tt) bound)
      none_ends true is declared = (
        holding_behind number has fs x.name standing ty fixed said h hold good l g k (g.awaited ++ waiting ∷ [])
            (λ t f s there st given. awaited_last g.awaited waiting _ l.pid
            (name_lacks number has fs x.name standing ty fixed said h hold good l g k t f there))
            (λ p w. awaited_more g.awaited waiting _ p
            (subst (λ a. IsAwaited a (file_behind number has fs x.name standing ty fixed said h hold good l g k) p) (sym k.awaited) w)),
        entering_grows k.entering,
        tt,
      )
      none_ends false is declared = (
        holding_behind number has fs x.name standing ty fixed said h hold good l g k g.awaited
            (λ t f s there st given.
            subst (λ a. IsAwaited a (file_behind number has fs x.name standing ty fixed said h hold good l g k) l.pid) (sym k.awaited)
            (late_extern number has fs x.name standing ty fixed said h hold good l g k
            (declared (by_extern (is_extern storage) (ap (λ y. is_array y && not (is_extern storage)) (sym (none_here t f there)) ∙ is)))
            t f s there st given))
            (λ p w. subst (λ a. IsAwaited a (file_behind number has fs x.name standing ty fixed said h hold good l g k) p) (sym k.awaited) w),
        entering_grows k.entering,
        tt,
      )
        where
          by_extern : (c : Bool) → not c ≡ false → c ≡ true
          by_extern true e = refl
          by_extern false e = absurd (true≢false e)

    ends : (i : Option Initialiser) → IsSaid i said → IsLinked number x.name (object_standing storage i) (object_entity ty fixed said) h l g
        → FileHolds number has fs h Any (rules.begun x l.pid ty known storage i bound)
    ends None ok k =
        none_ends (object_standing storage None) (good_said None said ok) k (is_array known && not (is_extern storage)) refl
        (λ extern. ap (λ (b : Bool). if b then standings.Declared else standings.Tentative) extern)
    ends (Some (initialisers.Value e)) ok k = value_ends standings.Defined (good_said (Some (initialisers.Value e)) said ok) k e known refl
    ends (Some (initialisers.List line es)) ok k =
        started (initialisers.List line es) known (entering_grows k.entering)
        (never standings.Defined (good_said (Some (initialisers.List line es)) said ok) k
        (λ t f there. subst (IsSaid (Some (initialisers.List line es)))
        (said_none said (bound_here x.name h) (none_here standings.Defined (good_said (Some (initialisers.List line es)) said ok) k t f there)) ok))

  declare_object_files : (s : Specified) (d : Declarator) (ty : Ty) (said : Extent) → IsSaid d.initialiser said
      → Files number has fs Any (rules.declare_object number s d ty said)
  declare_object_files s d ty said ok = record {
    by = λ h hold.
        linked h hold
        (rules.link number d.name s.storage false (object_standing s.storage d.initialiser) (object_entity ty s.fixed said) h)
        (link_does number d.name s.storage false (object_standing s.storage d.initialiser) (object_entity ty s.fixed said) h);
  }
    where
      linked : (h : Here) → Holding number has fs h → (r : Reply Linked)
          → LinkHolds number d.name.name (object_standing s.storage d.initialiser) (object_entity ty s.fixed said) h r
          → FileHolds number has fs h Any (followed r (λ l. rules.bind_object s d ty (extent_or said (bound_here d.name.name h)) l))
      linked h hold (Gives l g) k = ends d.name s.storage ty s.fixed said h hold l g d.initialiser ok k
      linked h hold (Breaks line kind) k = tt

  pub file_object_files : (s : Specified) (d : Declarator) → Files number has fs Any (rules.file_object number s d)
  file_object_files s d =
      files_and number has fs
      (files_quiet number has fs (value_type_fine number [] {Q = λ t. Unit {0}} d.name.line s.ty (λ t is. tt)) (sure_any (value_type d.name.line s.ty)))
      (λ ty a. files_and number has fs
      (files_quiet number has fs (extent_fine number d.name.line d.shape d.initialiser) (extent_sure d.name.line d.shape d.initialiser)) (λ said is.
      files_if number has fs (is_library d.name.name) (files_breaks number has fs d.name.line kinds.Library) (declare_object_files s d ty said is)))
