-- Modules that follow the rules of types and linkage one after another.
use Rattle.std.specs.Prelude.{◌≡◌, ℕ, suc, List, [], ◌∷◌}
use Rattle.sym_tables.specs.Table.{Table}
use Rattle.c_tree.specs.declared.declaration.Module.{Module}
use Rattle.c_typed.specs.declared.function.TypedModule.{TypedModule}
use Rattle.c_types.specs.Rules.{Here, Gives}
use Rattle.c_types.specs.Typing.{module_rules, start}

-- the modules, numbered from this number on, follow the rules of types and linkage one after another, and take the names of
-- the program from the first table to the second
abbrev pub AreTyped : ℕ → Table → List Module → Table → Type 0
AreTyped number old [] new = new ≡ old
AreTyped number old (m ∷ modules) new = (t : TypedModule) × (h : Here) × (module_rules number m (start old) ≡ Gives t h)
    × AreTyped (suc number) h.syms modules new

-- the same with what the rules give for each module
abbrev pub AreTypedAs : ℕ → Table → List Module → List TypedModule → Table → Type 0
AreTypedAs number old [] [] new = new ≡ old
AreTypedAs number old [] (t ∷ ts) new = ⊥
AreTypedAs number old (m ∷ modules) [] new = ⊥
AreTypedAs number old (m ∷ modules) (t ∷ ts) new = (h : Here) × (module_rules number m (start old) ≡ Gives t h) × AreTypedAs (suc number) h.syms modules ts new
