-- Told files have one list of modules, which are typed in one way.
use Rattle.std.proofs.Common.{◌≡◌, ℕ, suc, List, [], ◌∷◌, refl, sym, ◌∙◌, ap, subst}
use Rattle.outside.specs.Told.{Told}
use Rattle.sym_tables.specs.Table.{Table}
use Rattle.c_tree.specs.declared.declaration.Module.{Module}
use Rattle.c_typed.specs.declared.function.TypedModule.{TypedModule}
use Rattle.c_types.specs.Rules.{Gives}
use Rattle.c_module.specs.Files.{HoldsModule}
use Rattle.c_module.specs.Told.{AreTextsOf, AreWellFormedTexts, IsTextOf}
use Rattle.c_module.specs.Verdict.{HoldModules, HoldWellFormed}
use Rattle.program_laws.specs.Typed.{AreTypedAs}

same_module : (told : Told) (m n : Module) → IsTextOf told m → HoldsModule told n → n ≡ m
same_module told m n file held = let h = subst (λ t. HoldsModule t n) file.holds held in h.only m file.text

same_modules : (tells : List ℕ → Told) (files : List (List ℕ)) (ms ns : List Module) → AreTextsOf tells files ms → HoldModules tells files ns → ns ≡ ms
same_modules tells [] [] [] texts held = refl
same_modules tells [] [] (n ∷ ns) texts held = absurd held
same_modules tells [] (m ∷ ms) ns texts held = absurd texts
same_modules tells (f ∷ files) [] ns texts held = absurd texts
same_modules tells (f ∷ files) (m ∷ ms) [] texts held = absurd held
same_modules tells (f ∷ files) (m ∷ ms) (n ∷ ns) texts held =
    ap (λ x. x ∷ ns) (same_module (tells f) m n texts.0 held.0) ∙ ap (λ l. m ∷ l) (same_modules tells files ms ns texts.1 held.1)

same_typed : (number : ℕ) (old : Table) (ms : List Module) (ts us : List TypedModule) (a b : Table) → AreTypedAs number old ms ts a
    → AreTypedAs number old ms us b
    → (ts ≡ us) × (a ≡ b)
same_typed number old [] [] [] a b x y = (refl, x ∙ sym y)
same_typed number old [] [] (u ∷ us) a b x y = absurd y
same_typed number old [] (t ∷ ts) us a b x y = absurd x
same_typed number old (m ∷ ms) [] us a b x y = absurd x
same_typed number old (m ∷ ms) (t ∷ ts) [] a b x y = absurd y
same_typed number old (m ∷ ms) (t ∷ ts) (u ∷ us) a b (h, gives, rest) (k, same, others) =
    let e : Gives t h ≡ Gives u k = sym gives ∙ same in
    let q : t ≡ u = cc e in
    let s : h ≡ k = cc e in
    let r = same_typed (suc number) h.syms ms ts us a b rest (subst (λ x. AreTypedAs (suc number) x.syms ms us b) (sym s) others) in
    (ap (λ x. x ∷ ts) q ∙ ap (λ l. u ∷ l) r.0, r.1)

-- told files of well formed modules have one list of typed modules, and leave one table of names
pub one_program : (tells : List ℕ → Told) (files : List (List ℕ)) (modules : List Module) (ts : List TypedModule) (syms names : Table)
    → HoldWellFormed tells files modules ts syms → (formed : AreWellFormedTexts tells files names) → (ts ≡ formed.ts) × (syms ≡ names)
one_program tells files modules ts syms names hold formed =
    let same = same_modules tells files formed.modules modules formed.texts hold.held in
    same_typed 1 [] formed.modules ts formed.ts syms names (subst (λ l. AreTypedAs 1 [] l ts syms) same hold.formed.typed) formed.formed.typed
