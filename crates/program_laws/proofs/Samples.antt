-- A module that follows the rules and links, so that the laws speak of something:
--
--     extern int unused[]; int main() {}
use Rattle.std.proofs.Common.{◌≡◌, ℕ, ℤ, true, false, not, List, [], ◌∷◌, map, None, refl, ap, ap₂, ◌∙◌}
use Rattle.std.specs.Prelude.{codes}
use Rattle.c_tree.specs.declared.expression.Identifier.{Identifier}
use Rattle.c_tree.specs.declared.expression.Expr.TheOpen.{Specifier-F}
use Rattle.c_tree.specs.declared.expression.Expr.TheFolds.{fold-roll-Specifier, fold-roll-Specifiers}
use Rattle.c_tree.specs.declared.expression.Specifier.{roll-Specifier}
use Rattle.c_tree.specs.declared.expression.Specifiers.{Specifiers, roll-Specifiers}
use Rattle.c_tree.specs.declared.expression.SpecifierWord.{SpecifierWord}
use Rattle.c_tree.specs.declared.expression.SpecifierWord.TheVariants as words
use Rattle.c_tree.specs.declared.declaration.Declarator.{Declarator}
use Rattle.c_tree.specs.declared.declaration.Item.TheVariants as items
use Rattle.c_tree.specs.declared.declaration.Module.{Module}
use Rattle.c_tree.specs.declared.declaration.Shape.TheVariants as shapes
use Rattle.c_tree.specs.declared.statement.Stmt.TheFolds.{fold-roll-Block}
use Rattle.c_tree.specs.declared.statement.Block.{Block, roll-Block}
use Rattle.c_typed.specs.declared.function.TypedModule.{TypedModule}
use Rattle.c_types.specs.declared.specifiers.Part.{Part}
use Rattle.c_types.specs.declared.specifiers.Part.TheVariants.{One}
use Rattle.c_types.specs.declared.specifiers.Site.{Site}
use Rattle.c_types.specs.declared.specifiers.Specified.{Specified}
use Rattle.c_types.specs.ExpressionRules as rules
use Rattle.c_types.specs.ExpressionRules.{Typing}
use Rattle.c_types.specs.Rules.{Here, Reply, Gives, Breaks, Rule, ◌>>=◌, give, known, change, unless}
use Rattle.c_types.specs.StatementRules as statements
use Rattle.c_types.specs.StatementRules.{Ruled, Blocked, declares}
use Rattle.c_types.specs.Typing.{start, aside, resume, named_parameters, all_lengths}
use Rattle.c_types.specs.DeclarationRules.{link, parameters, file_declarators}
use Rattle.c_types.specs.Enumerations.{is_library}
use Rattle.c_types.specs.Names.{enter, leave, bind}
use Rattle.c_types.specs.declared.binding.Binding.TheVariants as bindings
use Rattle.c_types.specs.declared.fault.TypeKind.TheVariants as kinds
use Rattle.c_types.specs.declared.specifiers.Site.TheVariants as sites
use Rattle.c_typed.specs.declared.function.TypedFunction.{TypedFunction}
use Rattle.c_typed.specs.declared.statement.TypedStmt.{roll-TypedStmt}
use Rattle.c_typed.specs.declared.statement.TypedStmt.TheOpen.{TypedStmt-F}
use Rattle.sym_tables.specs.declared.entity.Entity.TheVariants as entities
use Rattle.sym_tables.specs.declared.symbol.Standing.TheVariants as standings
use Rattle.program_laws.specs.Laws.{AreLinking}

abbrev pub name : List ℕ → Identifier
name bytes = record { name = bytes; line = 1 }

abbrev pub specifiers : List SpecifierWord → Specifiers
specifiers ws = roll-Specifiers (record { line = 1; items = map (λ w. roll-Specifier (Specifier-F.Word 1 w)) ws })

abbrev pub unused : List Declarator
unused = record { name = name (codes "unused"); shape = shapes.Array None; initialiser = None } ∷ []

abbrev pub module_of : Specifiers → Specifiers → Block → Module
module_of extern_int int b = record {
  items =
      items.Declaration (record { specifiers = extern_int; declarators = unused })
      ∷ items.Function (record { specifiers = int; name = name (codes "main"); parameters = []; body = b })
      ∷ [];
}

abbrev pub sample : Module
sample =
    module_of (specifiers (words.Extern ∷ words.Int ∷ [])) (specifiers (words.Int ∷ [])) (roll-Block (record { line = 1; declarations = []; statements = [] }))

-- what the rules make of the specifiers
abbrev said : List SpecifierWord → Site → Rule Specified
said ws = rules.specifiers (record { line = 1; items = map (λ w. give (One w)) ws })

words_are : (ws : List SpecifierWord) → map rules.reading (map (λ w. roll-Specifier (Specifier-F.Word 1 w)) ws) ≡ map (λ w. give (One w)) ws
words_are [] = refl
words_are (w ∷ ws) =
    ap₂ (λ r rs. r ∷ rs)
    (fold-roll-Specifier Typing (Rule Part) (ℤ → Rule ℤ)
    (Site → Rule Specified) rules.expression rules.specifier rules.enumeration_constant rules.specifiers (Specifier-F.Word 1 w))
    (words_are ws)

said_is : (ws : List SpecifierWord) → rules.specifying (specifiers ws) ≡ said ws
said_is ws =
    fold-roll-Specifiers Typing (Rule Part) (ℤ → Rule ℤ)
    (Site → Rule Specified) rules.expression rules.specifier rules.enumeration_constant rules.specifiers
    (record { line = 1; items = map (λ w. roll-Specifier (Specifier-F.Word 1 w)) ws })
    ∙ ap (λ rs. rules.specifiers (record { line = 1; items = rs })) (words_are ws)

empty : statements.blocking (roll-Block (record { line = 1; declarations = []; statements = [] })) ≡ statements.block
    (record { line = 1; declarations = []; statements = [] })
empty = fold-roll-Block Ruled Blocked statements.statement statements.block (record { line = 1; declarations = []; statements = [] })

-- the rules of the module, where its parts have these rules
abbrev replied : (Site → Rule Specified) → (Site → Rule Specified) → Blocked → Rule TypedModule
replied extern_int int b =
    ((extern_int sites.File >>= λ s. (unless (declares s unused) 1 kinds.Specifiers >>= λ u. file_declarators 1 s unused)) >>= λ u1.
    (defined int b >>= λ t. (give [] >>= λ ts. give (t ∷ ts)))) >>= λ functions.
    (known (λ h. h.awaited) >>= λ awaited. (all_lengths awaited >>= λ u2. give (record { functions = functions })))
  where
    defined : (Site → Rule Specified) → Blocked → Rule TypedFunction
    defined int b =
        int sites.File >>= λ s. (change enter >>= λ u. (parameters [] >>= λ types. (known aside >>= λ scope. (change leave >>= λ u1.
        (unless (not (is_library (codes "main"))) 1 kinds.Library >>= λ u2.
        (link 1 (name (codes "main")) s.storage true standings.Defined (entities.Function s.ty types) >>= λ l.
        (change (bind (codes "main") (bindings.Function l.pid l.internal)) >>= λ u3. (named_parameters types [] >>= λ params.
        (change (resume scope) >>= λ u4. (change (λ h. record h { locals = [] }) >>= λ u5.
        (b.statements (record { result = s.ty; breaks = false; continues = false }) >>= λ body. (known (λ h. h.locals) >>= λ locals.
        (change (λ h. record h { locals = [] }) >>= λ u6. (change leave >>= λ u7.
        give (record { pid = l.pid; result = s.ty; params = params; locals = locals; body = roll-TypedStmt (TypedStmt-F.Block body) })))))))))))))))

abbrev pub given : Reply TypedModule → TypedModule
given (Gives t h) = t
given (Breaks line kind) = record { functions = [] }

abbrev pub behind : Reply TypedModule → Here
behind (Gives t h) = h
behind (Breaks line kind) = start []

abbrev pub reply : Reply TypedModule
reply = replied (said (words.Extern ∷ words.Int ∷ [])) (said (words.Int ∷ []))
    (statements.block (record { line = 1; declarations = []; statements = [] })) (start [])

pub sample_links : AreLinking (sample ∷ []) (given reply ∷ []) (behind reply).syms
sample_links = record {
  typed = (
    behind reply,
    ap (λ (r : Site → Rule Specified). replied r (rules.specifying (specifiers (words.Int ∷ [])))
        (statements.blocking (roll-Block (record { line = 1; declarations = []; statements = [] }))) (start [])) (said_is (words.Extern ∷ words.Int ∷ []))
        ∙ ap (λ (r : Site → Rule Specified). replied (said (words.Extern ∷ words.Int ∷ [])) r
        (statements.blocking (roll-Block (record { line = 1; declarations = []; statements = [] }))) (start [])) (said_is (words.Int ∷ []))
        ∙ ap (λ (b : Blocked). replied (said (words.Extern ∷ words.Int ∷ [])) (said (words.Int ∷ [])) b (start [])) empty,
    refl,
  );
  links = refl;
}
