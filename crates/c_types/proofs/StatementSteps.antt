-- Blocks, and the items of a switch's block, by their parts.
use Rattle.std.proofs.Common.{◌≡◌, ℕ, List, [], ◌∷◌, ◌++◌, map, append_assoc, Result, Ok, Err, refl, sym, ap, ◌∙◌, subst}
use Rattle.hlo_num.specs.declared.word.Ty.{Ty}
use Rattle.hlo_num.specs.declared.word.Word.{Word}
use Rattle.hlo_num.specs.Words.{convert}
use Rattle.c_tree.specs.declared.expression.Expr.{Expr}
use Rattle.c_tree.specs.declared.statement.Block.{Block}
use Rattle.c_tree.specs.declared.statement.Stmt.{Stmt}
use Rattle.c_tree.specs.declared.statement.Stmt.TheVariants as forms
use Rattle.c_tree.specs.declared.statement.Stmt.TheOpen.{Stmt-F}
use Rattle.c_tree.specs.declared.statement.Stmt.TheFolds.{fold_out-Block, fold-roll-Stmt}
use Rattle.c_types.specs.declared.fault.TypeFault.{TypeFault}
use Rattle.c_types.specs.declared.fault.TypeFault.TheVariants as faults
use Rattle.c_typed.specs.declared.statement.Label.{Label}
use Rattle.c_typed.specs.declared.statement.Label.TheVariants as label
use Rattle.c_typed.specs.declared.statement.Section.{Section}
use Rattle.c_typed.specs.declared.statement.TypedStmt.{TypedStmt}
use Rattle.c_types.specs.declared.statements.Around.{Around}
use Rattle.c_types.specs.Follows.{Follows, Tells}
use Rattle.c_types.specs.Rules.{Here, Reply, Gives, Breaks, Rule, followed, give, ◌>>=◌}
use Rattle.c_types.specs.StatementRules as rules

pub statements_are : (b : Block) (a : Around)
    → (rules.blocking b).statements a ≡ (rules.declarations b.declarations >>= λ ds. rules.statements a (map rules.ruling b.statements) >>= λ ss. give
    (ds ++ ss))
statements_are b a = ap (λ x. x.statements a) (fold_out-Block rules.Ruled rules.Blocked rules.statement rules.block b)

pub sections_are : (b : Block) (a : Around) (ty : Ty)
    → (rules.blocking b).sections a ty ≡ (rules.declarations b.declarations >>= λ ds. rules.sections a ty (map rules.ruling b.statements) >>= λ ss. give
    (map (λ s. rules.section (rules.unlabelled s)) ds ++ ss))
sections_are b a ty = ap (λ x. x.sections a ty) (fold_out-Block rules.Ruled rules.Blocked rules.statement rules.block b)

-- two rules, and what they give put together
pub both_give : {A B C : Type 0} (first : Rule A) (second : Rule B) (f : A → B → C) (x : A) (y : B) (h h1 h2 : Here) → first h ≡ Gives x h1
    → second h1 ≡ Gives y h2 → (first >>= λ x. second >>= λ y. give (f x y)) h ≡ Gives (f x y) h2
both_give first second f x y h h1 h2 p q = ap (λ r. followed r (λ x. second >>= λ y. give (f x y))) p ∙ ap (λ r. followed r (λ y. give (f x y))) q

pub second_tells : {A B C : Type 0} (first : Rule A) (second : Rule B) (f : A → B → C) (x : A) (h h1 : Here) (fault : TypeFault) → first h ≡ Gives x h1
    → Tells (second h1) fault → Tells ((first >>= λ x. second >>= λ y. give (f x y)) h) fault
second_tells first second f x h h1 (faults.At line kind) p q = ap (λ r. followed r (λ x. second >>= λ y. give (f x y))) p ∙ ap
    (λ r. followed r (λ y. give (f x y))) q
second_tells first second f x h h1 faults.Memory p q = tt

-- a rule that replies as another one does
follows_same : {A : Type 0} (rule other : Rule A) (h h' new : Here) (res : Result A TypeFault) → rule h ≡ other h' → Follows (λ x. x) other h' res new
    → Follows (λ x. x) rule h res new
follows_same rule other h h' new (Ok x) e f = e ∙ f
follows_same rule other h h' new (Err (faults.At line kind)) e f = e ∙ f
follows_same rule other h h' new (Err faults.Memory) e f = tt

-- an item with one more label, and an item behind labels
abbrev labelled : Label → rules.Labelled → Rule rules.Labelled
labelled l x = give (record { labels = l ∷ x.labels; stmt = x.stmt })

abbrev whole : List Label → rules.Labelled → Rule Section
whole ls x = give (rules.section (record { labels = ls ++ x.labels; stmt = x.stmt }))

-- a label right before an item stands behind those before it
one_label : (ls : List Label) (l : Label) (r : Reply rules.Labelled) → followed (followed r (labelled l)) (whole ls) ≡ followed r (whole (ls ++ l ∷ []))
one_label ls l (Gives x h) = ap (λ (k : List Label). Gives (rules.section (record { labels = k; stmt = x.stmt })) h) (sym (append_assoc ls (l ∷ []) x.labels))
one_label ls l (Breaks line kind) = refl

item_is_case : (line : ℕ) (e : Expr) (b : Stmt) (a : Around) (ty : Ty)
    → (rules.ruling (forms.Case line e b)).item a ty ≡ (rules.constant_word e >>= λ w. rules.new_case line (convert ty w) >>= λ u. (rules.ruling b).item a ty
    >>= labelled (label.Case (record { 0 = convert ty w })))
item_is_case line e b a ty = ap (λ r. r.item a ty) (ap rules.ruling (sym (forms.rolls-Case line e b)) ∙ fold-roll-Stmt rules.Ruled rules.Blocked rules.statement
    rules.block (Stmt-F.Case line e b))

item_is_default : (line : ℕ) (b : Stmt) (a : Around) (ty : Ty)
    → (rules.ruling (forms.Default line b)).item a ty ≡ (rules.new_default line >>= λ u. (rules.ruling b).item a ty >>= labelled label.Default)
item_is_default line b a ty = ap (λ r. r.item a ty) (ap rules.ruling (sym (forms.rolls-Default line b)) ∙ fold-roll-Stmt rules.Ruled rules.Blocked
    rules.statement rules.block (Stmt-F.Default line b))

behind_case : (ls : List Label) (line : ℕ) (e : Expr) (b : Stmt) (a : Around) (ty : Ty) (w : ℕ) (h h1 h2 : Here) → rules.constant_word e h ≡ Gives w h1
    → rules.new_case line (convert ty w) h1 ≡ Gives tt h2
    → rules.behind ls ((rules.ruling (forms.Case line e b)).item a ty) h ≡ rules.behind (ls ++ label.Case (record { 0 = convert ty w }) ∷ [])
    ((rules.ruling b).item a ty) h2
behind_case ls line e b a ty w h h1 h2 p q =
    ap (λ (rule : Rule rules.Labelled). rules.behind ls rule h) (item_is_case line e b a ty)
    ∙ ap (λ r. followed (followed r (λ w. rules.new_case line (convert ty w) >>= λ u. (rules.ruling b).item a ty >>= labelled
    (label.Case (record { 0 = convert ty w })))) (whole ls)) p
    ∙ ap (λ r. followed (followed r (λ u. (rules.ruling b).item a ty >>= labelled (label.Case (record { 0 = convert ty w })))) (whole ls)) q
    ∙ one_label ls (label.Case (record { 0 = convert ty w })) ((rules.ruling b).item a ty h2)

behind_default : (ls : List Label) (line : ℕ) (b : Stmt) (a : Around) (ty : Ty) (h h1 : Here) → rules.new_default line h ≡ Gives tt h1
    → rules.behind ls ((rules.ruling (forms.Default line b)).item a ty) h ≡ rules.behind (ls ++ label.Default ∷ []) ((rules.ruling b).item a ty) h1
behind_default ls line b a ty h h1 p =
    ap (λ (rule : Rule rules.Labelled). rules.behind ls rule h) (item_is_default line b a ty)
    ∙ ap (λ r. followed (followed r (λ u. (rules.ruling b).item a ty >>= labelled label.Default)) (whole ls)) p
    ∙ one_label ls label.Default ((rules.ruling b).item a ty h1)

-- an item behind a case label follows the rule with the label behind those before it
pub item_case : (ls more : List Label) (line : ℕ) (e : Expr) (s b inner : Stmt) (a : Around) (ty : Ty) (w : ℕ) (v : Word) (h h1 h2 new : Here)
    (res : Result Section TypeFault) → s ≡ forms.Case line e b → rules.constant_word e h ≡ Gives w h1 → v.0 ≡ convert ty w
    → rules.new_case line v.0 h1 ≡ Gives tt h2 → more ≡ ls ++ label.Case v ∷ [] → inner ≡ b
    → Follows (λ x. x) (rules.behind more ((rules.ruling inner).item a ty)) h2 res new
    → Follows (λ x. x) (rules.behind ls ((rules.ruling s).item a ty)) h res new
item_case ls more line e s b inner a ty w v h h1 h2 new res is p value q labels boxed f =
    let f1 = subst (λ z. Follows (λ x. x) (rules.behind more ((rules.ruling z).item a ty)) h2 res new) boxed f in
    let f2 = subst (λ z. Follows (λ x. x) (rules.behind z ((rules.ruling b).item a ty)) h2 res new)
    (labels ∙ ap (λ (n : ℕ). ls ++ label.Case (record { 0 = n }) ∷ []) value) f1 in
    let q1 = subst (λ n. rules.new_case line n h1 ≡ Gives tt h2) value q in
    subst (λ z. Follows (λ x. x) (rules.behind ls ((rules.ruling z).item a ty)) h res new) (sym is)
    (follows_same (rules.behind ls ((rules.ruling (forms.Case line e b)).item a ty))
    (rules.behind (ls ++ label.Case (record { 0 = convert ty w }) ∷ []) ((rules.ruling b).item a ty)) h h2 new res
    (behind_case ls line e b a ty w h h1 h2 p q1) f2)

pub item_default : (ls more : List Label) (line : ℕ) (s b inner : Stmt) (a : Around) (ty : Ty) (h h1 new : Here) (res : Result Section TypeFault)
    → s ≡ forms.Default line b → rules.new_default line h ≡ Gives tt h1 → more ≡ ls ++ label.Default ∷ [] → inner ≡ b
    → Follows (λ x. x) (rules.behind more ((rules.ruling inner).item a ty)) h1 res new
    → Follows (λ x. x) (rules.behind ls ((rules.ruling s).item a ty)) h res new
item_default ls more line s b inner a ty h h1 new res is p labels boxed f =
    let f1 = subst (λ z. Follows (λ x. x) (rules.behind more ((rules.ruling z).item a ty)) h1 res new) boxed f in
    let f2 = subst (λ z. Follows (λ x. x) (rules.behind z ((rules.ruling b).item a ty)) h1 res new) labels f1 in
    subst (λ z. Follows (λ x. x) (rules.behind ls ((rules.ruling z).item a ty)) h res new) (sym is)
    (follows_same (rules.behind ls ((rules.ruling (forms.Default line b)).item a ty)) (rules.behind (ls ++ label.Default ∷ []) ((rules.ruling b).item a ty))
    h h1 new res (behind_default ls line b a ty h h1 p) f2)

-- a statement with one part follows the rule of its form
form_is : (s form : Stmt) (rule : Rule TypedStmt) (a : Around) (h new : Here) (res : Result TypedStmt TypeFault) → s ≡ form → (rules.ruling form).stmt a ≡ rule
    → Follows (λ x. x) rule h res new → Follows (λ x. x) ((rules.ruling s).stmt a) h res new
form_is s form rule a h new res is same f = subst (λ z. Follows (λ x. x) ((rules.ruling z).stmt a) h res new) (sym is)
    (subst (λ (r : Rule TypedStmt). Follows (λ x. x) r h res new) (sym same) f)

pub stmt_if : (s b inner : Stmt) (line : ℕ) (e : Expr) (a : Around) (h new : Here) (res : Result TypedStmt TypeFault) → s ≡ forms.If line e b → inner ≡ b
    → Follows (λ x. x) (rules.if_then e (rules.ruling inner) a) h res new → Follows (λ x. x) ((rules.ruling s).stmt a) h res new
stmt_if s b inner line e a h new res is boxed f = form_is s (forms.If line e b) (rules.if_then e (rules.ruling b) a) a h new res is
    (ap (λ r. r.stmt a) (ap rules.ruling (sym (forms.rolls-If line e b)) ∙ fold-roll-Stmt rules.Ruled rules.Blocked rules.statement rules.block
    (Stmt-F.If line e b))) (subst (λ z. Follows (λ x. x) (rules.if_then e (rules.ruling z) a) h res new) boxed f)

pub stmt_switch : (s b inner : Stmt) (line : ℕ) (e : Expr) (a : Around) (h new : Here) (res : Result TypedStmt TypeFault) → s ≡ forms.Switch line e b
    → inner ≡ b → Follows (λ x. x) (rules.switch_on e (rules.ruling inner) a) h res new → Follows (λ x. x) ((rules.ruling s).stmt a) h res new
stmt_switch s b inner line e a h new res is boxed f = form_is s (forms.Switch line e b) (rules.switch_on e (rules.ruling b) a) a h new res is
    (ap (λ r. r.stmt a) (ap rules.ruling (sym (forms.rolls-Switch line e b)) ∙ fold-roll-Stmt rules.Ruled rules.Blocked rules.statement rules.block
    (Stmt-F.Switch line e b))) (subst (λ z. Follows (λ x. x) (rules.switch_on e (rules.ruling z) a) h res new) boxed f)

pub stmt_while : (s b inner : Stmt) (line : ℕ) (e : Expr) (a : Around) (h new : Here) (res : Result TypedStmt TypeFault) → s ≡ forms.While line e b → inner ≡ b
    → Follows (λ x. x) (rules.while_loop e (rules.ruling inner) a) h res new → Follows (λ x. x) ((rules.ruling s).stmt a) h res new
stmt_while s b inner line e a h new res is boxed f = form_is s (forms.While line e b) (rules.while_loop e (rules.ruling b) a) a h new res is
    (ap (λ r. r.stmt a) (ap rules.ruling (sym (forms.rolls-While line e b)) ∙ fold-roll-Stmt rules.Ruled rules.Blocked rules.statement rules.block
    (Stmt-F.While line e b))) (subst (λ z. Follows (λ x. x) (rules.while_loop e (rules.ruling z) a) h res new) boxed f)
