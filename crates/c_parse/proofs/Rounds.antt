-- The loops of the code over expressions, and what each rank of the code is.
use Rattle.std.proofs.Common.{ℕ, zero, suc, ◌≡◌, ◌+◌, ◌<◌, ◌≤◌, ◌-◌, refl, sym, ◌∙◌, ap, subst, Bool, true, false, List, [], ◌∷◌, ◌++◌, arith}
use Rattle.std.proofs.Common.{length-append, length, Option, Some, None}
use Rattle.c_tree.specs.declared.token.Token.{Token}
use Rattle.c_tree.specs.declared.token.Punct.TheVariants as p
use Rattle.c_tree.specs.declared.token.Reserved.TheVariants as w
use Rattle.c_tree.specs.declared.expression.Expr.{Expr}
use Rattle.c_tree.specs.declared.expression.Enumerator.{Enumerator}
use Rattle.c_tree.specs.declared.expression.Specifier.{Specifier}
use Rattle.c_parse.specs.declared.precedence.Precedence.{Precedence}
use Rattle.c_parse.specs.declared.precedence.Precedence.TheVariants.{LogicalOr, LogicalAnd, Or, Xor, And, Equality, Relation, Shift, Sum, Product}
use Rattle.c_parse.specs.declared.precedence.Rank.TheVariants as codes
use Rattle.c_parse.specs.Classes.{class, punct, word, classes, member, look, row_of}
use Rattle.c_parse.specs.Languages.{lined}
use Rattle.c_parse.specs.Trees as trees
use Rattle.c_parse.specs.Trees.{Sized}
use Rattle.c_parse.specs.Expressions.{Rank, Comma, Assignment, Conditional, Binary, Cast, Unary, operators, steps, IsExpr}
use Rattle.c_parse.specs.Reading.{Reply, Found, Wrong, Deep, bind, read_rest, read_both, read_among, read_lead, always}
use Rattle.c_parse.specs.ExpressionReaders.{fits, is_postfix, expr_first, read_expr, read_rank, read_binary, read_unary}
use Rattle.c_parse.specs.Ranks.{rank_of, operand_rank, level_below, rank_or_cast}
use Rattle.c_parse.specs.Parts as parts
use Rattle.c_parse.proofs.Members.{if_true, if_false}
use Rattle.c_parse.proofs.Readers.{Outcome, found, wrong, deep, Reads}
use Rattle.c_parse.specs.Expressions.{specifier_words, row, IsEnumerator, IsSpecifier, IsSpecifiers, assignment_operators}
use Rattle.c_parse.specs.ExpressionReaders.{is_unary, is_condition, read_listing, read_enumerator, read_specifier, read_specifiers, specifier_first}
use Rattle.c_parse.specs.declared.refusal.Refusal.{Refusal}
use Rattle.c_parse.specs.declared.refusal.Refusal.TheVariants as refusals
use Rattle.c_parse.specs.Gives.{Fails}
use Rattle.c_parse.proofs.Words.{mark}
use Rattle.c_parse.proofs.Bounds.{bounded, each_row, each_specifiers}
use Rattle.c_parse.proofs.Ranks.{reads_expr}
use Rattle.c_parse.proofs.ExpressionRules.{IsRead, after, after_specifiers, reads_list, reads_enumerator, reads_specifier, reads_specifiers, none_expr}
use Rattle.c_parse.proofs.ExpressionRules.{any_expr, above_zero, not_zero}
use Rattle.c_parse.proofs.Forms.{condition_logical_or}
use Rattle.c_parse.proofs.Levels.{binary_is}
use Rattle.c_parse.proofs.Steps.{Shrinks, Keeps, reads_keeps, picked_shrinks, both_shrinks, lead_shrinks}

reads_whole : (n : ℕ) (r : Rank) → IsRead r → Reads (IsExpr n r) (IsExpr (n + 5) r) (read_expr n r) (read_expr (n + 5) r) expr_first (λ _. after r)
reads_whole n r i = reads_expr n (n + 5) (omega arith) r i

pub keeps : (n : ℕ) (r : Rank) → IsRead r → Keeps (parts.whole n r)
unfolding parts.whole
keeps n r i = reads_keeps (reads_whole n r i)

-- what is read is no higher than asked
pub low : (n : ℕ) (r : Rank) → IsRead r → (ts : List Token) (c : Sized) (rest : List Token) → parts.whole n r ts ≡ Found c rest → c.1 ≤ n
unfolding parts.whole
low n r i ts c rest e = go ((reads_whole n r i).outcome ts) e
  where
    go : {x : Reply Sized} → Outcome (IsExpr n r) (IsExpr (n + 5) r) (read_expr n r) ts x → x ≡ Found c rest → c.1 ≤ n
    go (found b us r2 e2 l st) h = let same : b ≡ c = cc in subst (λ z. z.1 ≤ n) same (bounded n r b us l)
    go (wrong us r2 e2 al st) h = absurd cc
    go (deep us u r2 e2 al d ws v st) h = absurd cc

pub read_code : (r : codes.the_data) → IsRead (rank_of r)
read_code codes.Comma = tt
read_code codes.Assignment = tt
read_code codes.Conditional = tt
read_code (codes.Binary q) = tt
read_code codes.Cast = tt
read_code codes.Unary = tt

pub read_operand : (q : Precedence) → IsRead (operand_rank q)
read_operand q = go (level_below q)
  where
    go : (x : Option Precedence) → IsRead (rank_or_cast x)
    go None = tt
    go (Some r) = tt

-- the loops begin
pub comma_begins : (n : ℕ) (ts : List Token) (a : Sized) (r : List Token) → parts.assignment n ts ≡ Found a r
    → read_rest always (fits n) (punct p.Comma ∷ []) trees.comma (read_lead (punct p.Comma) (parts.whole n Assignment)) (length r) a r ≡ parts.comma n ts
unfolding parts.comma
comma_begins n ts a r e = sym (ap (λ z. bind z (λ a r. read_rest always (fits n) (punct p.Comma ∷ []) trees.comma
    (read_lead (punct p.Comma) (parts.whole n Assignment)) (length r) a r)) e)

pub comma_less : (n : ℕ) → Shrinks (read_lead (punct p.Comma) (parts.whole n Assignment))
comma_less n = lead_shrinks (punct p.Comma) (keeps n Assignment tt)

pub binary_begins : (n : ℕ) (q : Precedence) (ts : List Token) (a : Sized) (r : List Token) → parts.below n q ts ≡ Found a r
    → read_rest always (fits n) (classes (operators q)) trees.binary (read_both (read_among (operators q)) (parts.whole n (operand_rank q))) (length r) a r ≡
    parts.binary n q ts
unfolding parts.binary
binary_begins n q ts a r e = sym (ap (λ z. bind z (λ a r. read_rest always (fits n) (classes (operators q)) trees.binary
    (read_both (read_among (operators q)) (parts.whole n (operand_rank q))) (length r) a r)) e)

pub binary_less : (n : ℕ) (q : Precedence) → Shrinks (read_both (read_among (operators q)) (parts.whole n (operand_rank q)))
binary_less n q = both_shrinks (picked_shrinks (λ t. lined t.line (row_of (class t) (operators q)))) (keeps n (operand_rank q) (read_operand q))

pub operators_end : (q : Precedence) → member 0 (classes (operators q)) ≡ false
operators_end LogicalOr = refl
operators_end LogicalAnd = refl
operators_end Or = refl
operators_end Xor = refl
operators_end And = refl
operators_end Equality = refl
operators_end Relation = refl
operators_end Shift = refl
operators_end Sum = refl
operators_end Product = refl

pub unary_begins : (n : ℕ) (b : Bool) (ts : List Token) (a : Sized) (r : List Token) → parts.operand n b ts ≡ Found a r
    → read_rest is_postfix (fits n) (classes steps) trees.postfix (read_among steps) (length r) a r ≡ parts.unary n b ts
unfolding parts.unary
unary_begins n b ts a r e = sym (ap (λ z. bind z (λ a r. read_rest is_postfix (fits n) (classes steps) trees.postfix (read_among steps) (length r) a r)) e)

-- an expression of a rank, by its rule
pub whole_none : (n : ℕ) (r : Rank) (ts : List Token) → n ≡ 0 → parts.whole n r ts ≡ read_expr 0 r ts
unfolding parts.whole
whole_none n r ts e = ap (λ z. read_expr z r ts) e

-- lists
reads_arguments : (n : ℕ) → Reads (row (IsExpr n Assignment)) (row (IsExpr (n + 5) Assignment)) (read_listing (read_expr n Assignment))
    (read_listing (read_expr (n + 5) Assignment)) expr_first (λ _. punct p.CloseParen ∷ punct p.CloseBrace ∷ [])
reads_arguments n = reads_list n (n + 5) (omega arith) (reads_whole n Assignment tt)

pub arguments_begin : (n : ℕ) (ts : List Token) (a : Sized) (r : List Token) → parts.whole n Assignment ts ≡ Found a r
    → read_rest always always (punct p.Comma ∷ []) trees.add (read_lead (punct p.Comma) (parts.whole n Assignment)) (length r) (trees.one a) r ≡
    parts.argument_list n ts
unfolding parts.argument_list
arguments_begin n ts a r e = sym (ap (λ z. bind (bind z (λ a r. Found (trees.one a) r))
    (λ a r. read_rest always always (punct p.Comma ∷ []) trees.add (read_lead (punct p.Comma) (parts.whole n Assignment)) (length r) a r)) e)

pub arguments_found : (n : ℕ) (ts : List Token) (c : List Expr × ℕ) (r : List Token) → member (look ts) expr_first ≡ true → parts.argument_list n ts ≡ Found c r
    → parts.arguments n ts ≡ Found c r
unfolding parts.arguments
arguments_found n ts c r h e = ap (λ z. bind z (λ a r. Found (trees.all_or_none a) r)) (if_true _ _ h) ∙ ap
    (λ z. bind (bind z (λ a r. Found (Some a) r)) (λ a r. Found (trees.all_or_none a) r)) e

pub arguments_fails : (n : ℕ) (ts : List Token) (e : Refusal) → member (look ts) expr_first ≡ true → Fails e (parts.argument_list n ts)
    → Fails e (parts.arguments n ts)
unfolding parts.arguments
arguments_fails n ts refusals.Memory h x = tt
arguments_fails n ts (refusals.Wrong r) h x = ap (λ z. bind z (λ a r. Found (trees.all_or_none a) r)) (if_true _ _ h) ∙ ap
    (λ z. bind (bind z (λ a r. Found (Some a) r)) (λ a r. Found (trees.all_or_none a) r)) x
arguments_fails n ts (refusals.Deep r) h x = ap (λ z. bind z (λ a r. Found (trees.all_or_none a) r)) (if_true _ _ h) ∙ ap
    (λ z. bind (bind z (λ a r. Found (Some a) r)) (λ a r. Found (trees.all_or_none a) r)) x

pub arguments_low : (n : ℕ) (ts : List Token) (c : List Expr × ℕ) (r : List Token) → parts.argument_list n ts ≡ Found c r → c.1 ≤ n
unfolding parts.argument_list parts.whole
arguments_low n ts c r e = go ((reads_arguments n).outcome ts) e
  where
    go : {x : Reply (List Expr × ℕ)} → Outcome (row (IsExpr n Assignment)) (row (IsExpr (n + 5) Assignment)) (read_listing (read_expr n Assignment)) ts x
        → x ≡ Found c r → c.1 ≤ n
    go (found b us r2 e2 l st) h = let same : b ≡ c = cc in subst (λ z. z.1 ≤ n) same (each_row n (bounded n Assignment) b us l)
    go (wrong us r2 e2 al st) h = absurd cc
    go (deep us u r2 e2 al d ws v st) h = absurd cc

-- enumerators
reads_enum : (n : ℕ) → Reads (IsEnumerator (IsExpr n Conditional)) (IsEnumerator (IsExpr (n + 5) Conditional)) (read_enumerator n (read_expr n Conditional))
    (read_enumerator (n + 5) (read_expr (n + 5) Conditional)) (1 ∷ []) (λ _. punct p.Comma ∷ punct p.CloseBrace ∷ [])
reads_enum n = reads_enumerator n (n + 5) (above_zero n (n + 5) (omega arith)) (reads_whole n Conditional tt) (λ e c us l. none_expr n Conditional e c us l)
    (λ h. any_expr n Conditional (not_zero n h))

pub enumerator_less : (n : ℕ) → Shrinks (read_lead (punct p.Comma) (parts.enumerator n))
unfolding parts.enumerator parts.whole
enumerator_less n = lead_shrinks (punct p.Comma) (reads_keeps (reads_enum n))

pub enumerators_begin : (n : ℕ) (ts : List Token) (a : Enumerator × ℕ) (r : List Token) → parts.enumerator n ts ≡ Found a r
    → read_rest always always (punct p.Comma ∷ []) trees.add (read_lead (punct p.Comma) (parts.enumerator n)) (length r) (trees.one a) r ≡ parts.enumerator_list
    n ts
unfolding parts.enumerator_list
enumerators_begin n ts a r e = sym (ap (λ z. bind (bind z (λ a r. Found (trees.one a) r))
    (λ a r. read_rest always always (punct p.Comma ∷ []) trees.add (read_lead (punct p.Comma) (parts.enumerator n)) (length r) a r)) e)

-- the rules that a single part follows
pub assignment_begins : (n : ℕ) (ts : List Token) (a : Sized) (r : List Token) → parts.conditional n ts ≡ Found a r
    → read_rest is_unary (fits n) (classes assignment_operators) trees.assign (read_both (read_among assignment_operators) (parts.whole n Assignment))
    (length r) a r ≡ parts.assignment n ts
unfolding parts.assignment
assignment_begins n ts a r e = sym (ap (λ z. bind z (λ a r. read_rest is_unary (fits n) (classes assignment_operators) trees.assign
    (read_both (read_among assignment_operators) (parts.whole n Assignment)) (length r) a r)) e)

pub assignment_less : (n : ℕ) → Shrinks (read_both (read_among assignment_operators) (parts.whole n Assignment))
assignment_less n = both_shrinks (picked_shrinks (λ t. lined t.line (row_of (class t) assignment_operators))) (keeps n Assignment tt)

pub conditional_begins : (n : ℕ) (ts : List Token) (a : Sized) (r : List Token) → parts.binary n LogicalOr ts ≡ Found a r
    → read_rest is_condition (fits n) (punct p.Question ∷ []) trees.conditional
    (read_both (read_lead (punct p.Question) (parts.whole n Comma)) (read_lead (punct p.Colon) (parts.whole n Conditional))) (length r) a r ≡ parts.conditional
    n ts
unfolding parts.conditional
conditional_begins n ts a r e = sym (ap (λ z. bind z (λ a r. read_rest is_condition (fits n) (punct p.Question ∷ []) trees.conditional
    (read_both (read_lead (punct p.Question) (parts.whole n Comma)) (read_lead (punct p.Colon) (parts.whole n Conditional))) (length r) a r)) e)

pub conditional_less : (n : ℕ) → Shrinks (read_both (read_lead (punct p.Question) (parts.whole n Comma))
    (read_lead (punct p.Colon) (parts.whole n Conditional)))
conditional_less n = both_shrinks (lead_shrinks (punct p.Question) (keeps n Comma tt)) (weaker (lead_shrinks (punct p.Colon) (keeps n Conditional tt)))
  where
    weaker : {A : Type 0} {q : List Token → Reply A} → Shrinks q → Keeps q
    weaker s ts a r e = let h = s ts a r e in omega (arith, h)

-- a whole expression is read by the rule of its rank
whole_is : (d : ℕ) (r : Rank) (ts : List Token) → 0 < d → parts.whole d r ts ≡ read_rank (d - 1) (read_expr (d - 1)) r ts
unfolding parts.whole
whole_is zero r ts lt = absurd (omega (arith, lt))
whole_is (suc n) r ts lt = let same : n ≡ suc n - 1 = omega arith in ap (λ z. read_rank z (read_expr z) r ts) same

unary_is : (n : ℕ) (b : Bool) (ts : List Token) → parts.unary n b ts ≡ read_unary n (read_expr n) b ts
unfolding parts.whole parts.enumerator parts.enumerator_list parts.enumerators parts.specifier parts.specifier_list parts.specifiers parts.argument_list
    parts.arguments parts.named parts.prefixed parts.inside parts.parenthesised parts.operand parts.unary parts.below parts.binary parts.conditional
    parts.assignment parts.comma
unary_is n true ts = refl
unary_is n false ts = refl

binary_part : (n : ℕ) (q : Precedence) (ts : List Token) → parts.binary n q ts ≡ read_binary n (read_expr n) q ts
unfolding parts.whole parts.enumerator parts.enumerator_list parts.enumerators parts.specifier parts.specifier_list parts.specifiers parts.argument_list
    parts.arguments parts.named parts.prefixed parts.inside parts.parenthesised parts.operand parts.unary parts.below parts.binary parts.conditional
    parts.assignment parts.comma
binary_part n q ts = ap (λ z. z ts) (sym (binary_is n (read_expr n) q))

conditional_is : (n : ℕ) (ts : List Token) → parts.conditional n ts ≡ read_rank n (read_expr n) Conditional ts
unfolding parts.conditional parts.whole
conditional_is n ts = ap (λ z. bind z (λ a r. read_rest is_condition (fits n) (punct p.Question ∷ []) trees.conditional
    (read_both (read_lead (punct p.Question) (parts.whole n Comma)) (read_lead (punct p.Colon) (parts.whole n Conditional))) (length r) a r))
    (binary_part n LogicalOr ts)

assignment_is : (n : ℕ) (ts : List Token) → parts.assignment n ts ≡ read_rank n (read_expr n) Assignment ts
unfolding parts.assignment parts.whole
assignment_is n ts = ap (λ z. bind z (λ a r. read_rest is_unary (fits n) (classes assignment_operators) trees.assign
    (read_both (read_among assignment_operators) (parts.whole n Assignment)) (length r) a r)) (conditional_is n ts)

comma_is : (n : ℕ) (ts : List Token) → parts.comma n ts ≡ read_rank n (read_expr n) Comma ts
unfolding parts.comma parts.whole
comma_is n ts = ap (λ z. bind z (λ a r. read_rest always (fits n) (punct p.Comma ∷ []) trees.comma (read_lead (punct p.Comma) (parts.whole n Assignment))
    (length r) a r)) (assignment_is n ts)

pub whole_comma : (d : ℕ) (ts : List Token) → 0 < d → parts.whole d Comma ts ≡ parts.comma (d - 1) ts
whole_comma d ts lt = whole_is d Comma ts lt ∙ sym (comma_is (d - 1) ts)

pub whole_assignment : (d : ℕ) (ts : List Token) → 0 < d → parts.whole d Assignment ts ≡ parts.assignment (d - 1) ts
whole_assignment d ts lt = whole_is d Assignment ts lt ∙ sym (assignment_is (d - 1) ts)

pub whole_conditional : (d : ℕ) (ts : List Token) → 0 < d → parts.whole d Conditional ts ≡ parts.conditional (d - 1) ts
whole_conditional d ts lt = whole_is d Conditional ts lt ∙ sym (conditional_is (d - 1) ts)

pub whole_binary : (d : ℕ) (q : Precedence) (ts : List Token) → 0 < d → parts.whole d (Binary q) ts ≡ parts.binary (d - 1) q ts
whole_binary d q ts lt = whole_is d (Binary q) ts lt ∙ sym (binary_part (d - 1) q ts)

pub whole_cast : (d : ℕ) (ts : List Token) → 0 < d → parts.whole d Cast ts ≡ parts.unary (d - 1) true ts
whole_cast d ts lt = whole_is d Cast ts lt ∙ sym (unary_is (d - 1) true ts)

pub whole_unary : (d : ℕ) (ts : List Token) → 0 < d → parts.whole d Unary ts ≡ parts.unary (d - 1) false ts
whole_unary d ts lt = whole_is d Unary ts lt ∙ sym (unary_is (d - 1) false ts)

-- the level below
pub below_some : (n : ℕ) (q r : Precedence) (ts : List Token) → level_below q ≡ Some r → parts.below n q ts ≡ parts.binary n r ts
unfolding parts.below
below_some n q r ts e = ap (λ z. read_rank n (read_expr n) (rank_or_cast z) ts) e ∙ sym (binary_part n r ts)

pub below_none : (n : ℕ) (q : Precedence) (ts : List Token) → level_below q ≡ None → parts.below n q ts ≡ parts.unary n true ts
unfolding parts.below
below_none n q ts e = ap (λ z. read_rank n (read_expr n) (rank_or_cast z) ts) e ∙ sym (unary_is n true ts)

-- there is nothing of height 0
pub nothing_deep : (r : Rank) (ts : List Token) → member (look ts) expr_first ≡ true → parts.whole 0 r ts ≡ Deep ts
unfolding parts.whole
nothing_deep r ts h = if_true _ _ h

pub nothing_wrong : (r : Rank) (ts : List Token) → member (look ts) expr_first ≡ false → parts.whole 0 r ts ≡ Wrong ts
unfolding parts.whole
nothing_wrong r ts h = if_false _ _ h

-- specifiers
reads_spec : (n : ℕ) → Reads (IsSpecifiers (IsExpr n Conditional)) (IsSpecifiers (IsExpr (n + 5) Conditional)) (read_specifiers n (read_expr n Conditional))
    (read_specifiers (n + 5) (read_expr (n + 5) Conditional)) (classes specifier_words ++ word w.Enum ∷ []) (λ _. after_specifiers)
reads_spec n = reads_specifiers n (n + 5) (above_zero n (n + 5) (omega arith)) (reads_whole n Conditional tt) (λ e c us l. none_expr n Conditional e c us l)
    (λ h. any_expr n Conditional (not_zero n h))

reads_one : (n : ℕ) → Reads (IsSpecifier (IsExpr n Conditional)) (IsSpecifier (IsExpr (n + 5) Conditional)) (read_specifier n (read_expr n Conditional))
    (read_specifier (n + 5) (read_expr (n + 5) Conditional)) (classes specifier_words ++ word w.Enum ∷ []) (λ _. specifier_first ++ after_specifiers)
reads_one n = reads_specifier n (n + 5) (above_zero n (n + 5) (omega arith)) (reads_whole n Conditional tt) (λ e c us l. none_expr n Conditional e c us l)
    (λ h. any_expr n Conditional (not_zero n h))

reads_shrinks : {A : Type 0} {L V : A → List Token → Type 0} {p q : List Token → Reply A} {next : List ℕ} {follow : A → List ℕ} → Reads L V p q next follow
    → (w : List Token) → ((a : A) → member (look w) (follow a) ≡ true) → member (look w) next ≡ false → Shrinks p
reads_shrinks {A} {L} {V} {p} {q} {next} {follow} R w inside outside ts a r e = go (R.outcome ts) e
  where
    some : (b : A) (us : List Token) → L b us → 0 < length us
    some b [] l = let h : member (look w) next ≡ true = R.opens b [] w l (inside b) in absurd (let x : true ≡ false = sym h ∙ outside in cc)
    some b (t ∷ us) l = omega arith

    go : {x : Reply A} → Outcome L V p ts x → x ≡ Found a r → length r < length ts
    go (found b us r2 e2 l st) h = let same : r2 ≡ r = cc in omega (arith, ap length e2, length-append us r2, some b us l, ap length same)
    go (wrong us r2 e2 al st) h = absurd cc
    go (deep us u r2 e2 al c ws v st) h = absurd cc

pub specifier_less : (n : ℕ) → Shrinks (parts.specifier n)
unfolding parts.specifier parts.enumerators parts.enumerator_list parts.enumerator parts.whole
specifier_less n = reads_shrinks (reads_one n) (mark p.Semicolon ∷ []) (λ a. refl) refl

pub specifiers_low : (n : ℕ) (ts : List Token) (c : ℕ × (List Specifier × ℕ)) (r : List Token) → parts.specifier_list n ts ≡ Found c r → c.1.1 ≤ n
unfolding parts.specifier_list parts.specifier parts.enumerators parts.enumerator_list parts.enumerator parts.whole
specifiers_low n ts c r e = go ((reads_spec n).outcome ts) (ap (λ z. bind z (λ a s. Found (trees.specifiers a) s)) e)
  where
    go : {x : Reply _} → Outcome (IsSpecifiers (IsExpr n Conditional)) (IsSpecifiers (IsExpr (n + 5) Conditional)) (read_specifiers n (read_expr n Conditional))
        ts x → x ≡ Found (trees.specifiers c) r → c.1.1 ≤ n
    go (found b us r2 e2 l st) h = let same : b ≡ trees.specifiers c = cc in subst (λ z. z.1 ≤ n) same (each_specifiers n (bounded n Conditional) b us l)
    go (wrong us r2 e2 al st) h = absurd cc
    go (deep us u r2 e2 al d ws v st) h = absurd cc

-- what stands before a `?` is no conditional expression
pub or_is_condition : (n : ℕ) (ts : List Token) (a : Sized) (r : List Token) → parts.binary n LogicalOr ts ≡ Found a r → is_condition a ≡ true
or_is_condition n ts a r e = go ((reads_whole (suc n) (Binary LogicalOr) tt).outcome ts) (sym (binary_part n LogicalOr ts) ∙ e)
  where
    go : {x : Reply Sized} → Outcome (IsExpr (suc n) (Binary LogicalOr)) (IsExpr (suc n + 5) (Binary LogicalOr)) (read_expr (suc n) (Binary LogicalOr)) ts x
        → x ≡ Found a r → is_condition a ≡ true
    go (found b us r2 e2 l st) h = let same : b ≡ a = cc in subst (λ z. is_condition z ≡ true) same (condition_logical_or (IsExpr n) b us l)
    go (wrong us r2 e2 al st) h = absurd cc
    go (deep us u r2 e2 al d ws v st) h = absurd cc

pub specifiers_keeps : (n : ℕ) → Keeps (parts.specifiers n)
unfolding parts.specifiers parts.specifier_list parts.specifier parts.enumerators parts.enumerator_list parts.enumerator parts.whole
specifiers_keeps n = reads_keeps (reads_spec n)
