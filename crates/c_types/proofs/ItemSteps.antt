-- A loop over the items of a module: each item is typed behind those before it.
use Rattle.std.proofs.Common.{◌≡◌, ℕ, ◌+◌, ◌<◌, List, [], ◌∷◌, ◌++◌, length, get_or, drop, refl, sym, ap, ◌∙◌, add-one, drop-cons}
use Rattle.c_tree.specs.declared.token.Header.{Header}
use Rattle.c_tree.specs.declared.declaration.Declaration.{Declaration}
use Rattle.c_tree.specs.declared.declaration.Function.{Function}
use Rattle.c_tree.specs.declared.declaration.Item.{Item}
use Rattle.c_tree.specs.declared.declaration.Item.TheVariants as items
use Rattle.c_typed.specs.declared.function.TypedFunction.{TypedFunction}
use Rattle.c_types.specs.DeclarationRules.{file_declaration}
use Rattle.c_types.specs.Rules.{Here, Reply, Gives, followed, ◌>>=◌, give}
use Rattle.c_types.specs.Typing.{all_items, function, include}
use Rattle.c_types.proofs.Orders.{before, one_more}

next_item : (xs : List Item) (i : ℕ) (x : Item) → i < length xs → x ≡ get_or xs i x → drop i xs ≡ x ∷ drop (i + 1) xs
next_item xs i x h e =
    let d : drop i xs ≡ get_or xs i x ∷ drop (i + 1) xs = rw (add-one, drop-cons xs i x) refl in
    d ∙ ap (λ y. y ∷ drop (i + 1) xs) (sym e)

-- what was found so far, with an item more
pub kept : (number : ℕ) (xs : List Item) (i : ℕ) (x : Item) (old new : List TypedFunction) (h h' : Here) (all : Reply (List TypedFunction)) → i < length xs
    → x ≡ get_or xs i x
    → before old (all_items number (x ∷ drop (i + 1) xs) h) ≡ before new (all_items number (drop (i + 1) xs) h')
    → before old (all_items number (drop i xs) h) ≡ all
    → before new (all_items number (drop (i + 1) xs) h') ≡ all
kept number xs i x old new h h' all less is step e = sym step ∙ ap (λ l. before old (all_items number l h)) (sym (next_item xs i x less is)) ∙ e

pub include_step : (number : ℕ) (old : List TypedFunction) (x : Item) (rest : List Item) (line : ℕ) (header : Header) (h h' : Here)
    → x ≡ items.Include line header → h' ≡ include header h
    → before old (all_items number (x ∷ rest) h) ≡ before old (all_items number rest h')
include_step number old x rest line header h h' is e = ap (λ y. before old (all_items number (y ∷ rest) h)) is ∙ ap (λ k. before old (all_items number rest k))
    (sym e)

pub declaration_step : (number : ℕ) (old : List TypedFunction) (x : Item) (rest : List Item) (d : Declaration) (h h' : Here) → x ≡ items.Declaration d
    → file_declaration number d h ≡ Gives tt h'
    → before old (all_items number (x ∷ rest) h) ≡ before old (all_items number rest h')
declaration_step number old x rest d h h' is e = ap (λ y. before old (all_items number (y ∷ rest) h)) is ∙ ap
    (λ r. before old (followed r (λ u. all_items number rest))) e

pub function_step : (number : ℕ) (old : List TypedFunction) (x : Item) (rest : List Item) (f : Function) (t : TypedFunction) (h h' : Here)
    → x ≡ items.Function f → function number f h ≡ Gives t h'
    → before old (all_items number (x ∷ rest) h) ≡ before (old ++ t ∷ []) (all_items number rest h')
function_step number old x rest f t h h' is e =
    ap (λ y. before old (all_items number (y ∷ rest) h)) is
    ∙ ap (λ r. before old (followed r (λ y. all_items number rest >>= λ ys. give (y ∷ ys)))) e
    ∙ sym (one_more old t (all_items number rest h'))
