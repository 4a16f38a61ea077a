-- Rules of names and enumeration tags, which have name spaces of their own (C90, 6.1.2.3 and 6.5.2.3).
use Rattle.std.specs.Prelude.{ℕ, List, Option, Some, None, is_none, is_some}
use Rattle.c_tree.specs.declared.expression.Identifier.{Identifier}
use Rattle.c_types.specs.declared.binding.Binding.{Binding}
use Rattle.c_types.specs.declared.checker.Tag.{Tag}
use Rattle.c_types.specs.declared.fault.TypeKind.TheVariants as kinds
use Rattle.c_types.specs.Rules.{Here, Rule, ◌>>=◌, ◌>>◌, give, broken, known, change, unless}
use Rattle.c_types.specs.Scopes.{visible, innermost, declared, entered, left}

abbrev pub bound : ℕ → Option Binding → Rule Binding
bound line None = broken line kinds.Undeclared
bound line (Some b) = give b

-- what a name is bound to
abbrev pub find : Identifier → Rule Binding
find x h = bound x.line (visible x.name h.names) h

-- what the innermost scope binds a name to
abbrev pub bound_here : List ℕ → Here → Option Binding
bound_here name h = innermost name h.names

-- the innermost scope binds a name
abbrev pub bind : List ℕ → Binding → Here → Here
bind name b h = record h { names = declared name b h.names }

-- declares a name that the innermost scope doesn't have
abbrev pub declare_new : Identifier → Binding → Rule (Unit {0})
declare_new x b = do
  old ← known (bound_here x.name)
  unless (is_none old) x.line kinds.Redeclared
  change (bind x.name b)

-- a new scope, and its end
abbrev pub enter : Here → Here
enter h = record h { names = entered h.names; tags = entered h.tags }

abbrev pub leave : Here → Here
leave h = record h { names = left h.names; tags = left h.tags }

-- a rule inside a scope of its own
abbrev pub scoped : {A : Type 0} → Rule A → Rule A
scoped rule = do
  change enter
  a ← rule
  change leave
  give a

-- what a tag stands for
abbrev pub tag : Tag
tag = record {}

-- a tag is declared, in whatever scope
abbrev pub use_tag : Identifier → Rule (Unit {0})
use_tag x = do
  old ← known (λ h. visible x.name h.tags)
  unless (is_some old) x.line kinds.Undeclared

-- declares a tag that the innermost scope doesn't have
abbrev pub declare_tag : Identifier → Rule (Unit {0})
declare_tag x = do
  old ← known (λ h. innermost x.name h.tags)
  unless (is_none old) x.line kinds.Redeclared
  change (λ h. record h { tags = declared x.name tag h.tags })
