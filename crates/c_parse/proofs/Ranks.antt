-- Each rank of expressions is read, at every height.
use Rattle.std.proofs.Common.{ℕ, zero, suc, ◌≡◌, ◌<◌, ◌≤◌, refl, sym, ◌∙◌, Bool, true, false, nat_eq, List, [], ◌∷◌, ◌++◌, inl, inr, Option, is_some, arith}
use Rattle.c_tree.specs.declared.token.Token.{Token}
use Rattle.c_tree.specs.declared.token.Punct.TheVariants as p
use Rattle.c_tree.specs.declared.expression.BinaryOp.{BinaryOp}
use Rattle.c_parse.specs.declared.precedence.Precedence.{Precedence}
use Rattle.c_parse.specs.declared.precedence.Precedence.TheVariants.{LogicalOr, LogicalAnd, Or, Xor, And, Equality, Relation, Shift, Sum, Product}
use Rattle.c_parse.specs.Classes.{class, punct, look, member, row_of, classes}
use Rattle.c_parse.specs.Languages.{Lang, lined, among, both, either, made, such, lead}
use Rattle.c_parse.specs.Trees.{Sized, binary, conditional, assign, comma}
use Rattle.c_parse.specs.Expressions.{Rank, Comma, Assignment, Conditional, Binary, Cast, Unary, Postfix, operators, assignment_operators, steps}
use Rattle.c_parse.specs.Expressions.{unary_operators, joined, IsExpr}
use Rattle.c_parse.specs.Reading.{Reply, read_row, always}
use Rattle.c_parse.specs.ExpressionReaders.{fits, is_unary, is_condition, expr_first, read_unary, read_level, read_product, read_sum, read_shift}
use Rattle.c_parse.specs.ExpressionReaders.{read_relation, read_equality, read_and, read_xor, read_or, read_logical_and, read_logical_or}
use Rattle.c_parse.specs.ExpressionReaders.{read_conditional, read_assignment, read_comma, read_expr}
use Rattle.c_parse.proofs.Members.{subset, apart, if_true, if_false, member-subset}
use Rattle.c_parse.proofs.Readers.{Reads, reads_as, reads_both}
use Rattle.c_parse.proofs.Rows.{Grown, reads_row}
use Rattle.c_parse.proofs.Words.{subset_self, subset_left, subset_right, mark, Some_of, from_table, from_sign, reads_among, reads_lead}
use Rattle.c_parse.proofs.Bounds.{bounded, lowers, higher}
use Rattle.c_parse.proofs.Chains.{fits_pos, le_fits, fits_mono, grown_chain, chain_grown}
use Rattle.c_parse.proofs.Forms.{only_condition, only_assignment, condition_logical_or, condition_node, unary_node, unary_unary, unary_logical_or}
use Rattle.c_parse.proofs.ExpressionRules.{after_comma, after_assignment, after_conditional, after_logical_or, after_product, after_sum, after_shift}
use Rattle.c_parse.proofs.ExpressionRules.{after_relation, after_equality, after_and, after_xor, after_or, after_logical_and, after_cast, after, IsRead}
use Rattle.c_parse.proofs.ExpressionRules.{any_expr, none_expr, above_zero, begun_expr, shut_expr, reads_unary, reads_nothing}

abbrev unary_first : List ℕ
unary_first = punct p.OpenParen ∷ classes steps ++ classes unary_operators ++ 1 ∷ 2 ∷ []

positive : (n m : ℕ) → suc n < m → nat_eq m 0 ≡ false
positive n m lt = above_zero (suc n) m lt

low : (n m : ℕ) → suc n < m → (c : Sized) → c.1 ≤ suc n → fits m c ≡ true
low n m lt c h = le_fits m c (omega (arith, lt)) (omega (arith, h, lt))

-- the rules of one rank as the form that grows: the first form is of rank r one higher, and T stands behind
module _ {B : Type 0} (q r : Rank) (T : ℕ → Lang B) (test : Sized → Bool) (g : Sized → B → Sized)
    (into : (k : ℕ) (c : Sized) (us : List Token) → either (IsExpr (suc k) r) (made (λ d. g d.0 d.1) (both (such test (IsExpr k q)) (T k))) c us
    → IsExpr (suc k) q c us)
    (out : (k : ℕ) (c : Sized) (us : List Token) → IsExpr (suc k) q c us
    → either (IsExpr (suc k) r) (made (λ d. g d.0 d.1) (both (such test (IsExpr k q)) (T k))) c us)
    (wider : (k : ℕ) (b : B) (us : List Token) → T k b us → T (suc k) b us) where
  pub rank_to : (k : ℕ) (c : Sized) (us : List Token) → Grown (IsExpr (suc k) r) (T k) test (fits k) g c us → IsExpr (suc k) q c us
  rank_to = grown_chain (λ j. IsExpr j q) (λ j. IsExpr (suc j) r) T test g (λ c us l. none_expr 0 q refl c us l) into out (λ j c us l h. lowers j q c us l h)
      (λ j c us l. bounded j q c us l)
      (λ j c us l. higher (suc j) (suc (suc j)) (omega arith) r c us l) wider

  pub rank_from : (k : ℕ) (c : Sized) (us : List Token) → IsExpr (suc k) q c us → Grown (IsExpr (suc k) r) (T k) test (fits k) g c us
  rank_from = chain_grown (λ j. IsExpr j q) (λ j. IsExpr (suc j) r) T test g (λ c us l. none_expr 0 q refl c us l) into out (λ j c us l h. lowers j q c us l h)
      (λ j c us l. bounded j q c us l)
      (λ j c us l. higher (suc j) (suc (suc j)) (omega arith) r c us l) wider

  -- at height n + 1, against m + 1
  pub reads_rank_row : (n m : ℕ) → suc n < m
      → {left left' : List Token → Reply Sized} {t t' : List Token → Reply B} {next : List ℕ} {follow2 : B → List ℕ} (ks behind : List ℕ)
      → Reads (IsExpr (suc n) r) (IsExpr (suc m) r) left left' next (λ _. ks ++ behind) → (nat_eq n 0 ≡ false → Reads (T n) (T m) t t' ks follow2)
      → ((a : Sized) (b : B) → test (g a b) ≡ true → subset ks (follow2 b) ≡ true) → ((b : B) → subset behind (follow2 b) ≡ true) → apart behind ks ≡ true
      → member 0 ks ≡ false
      → (w : List Token) → ((b : B) → member (look w) (follow2 b) ≡ true) → member (look w) ks ≡ false
      → ((u : Token) → member (class u) ks ≡ true → (b : B) × (ws : List Token) × T m b (u ∷ ws))
      → Reads (IsExpr (suc n) q) (IsExpr (suc m) q) (read_row test (fits n) ks g left t) (read_row test (fits m) ks g left' t') next (λ _. behind)
  reads_rank_row n m lt ks behind R S goes2 ends2 stops no_end w w_in w_out begun = reads_as (rank_to n) (rank_from n) (rank_to m)
      (reads_row R test (fits n) (fits m) (λ a f. S (fits_pos n a f)) ks g behind w (subset_self ks) (λ a t. subset_left ks behind)
      (λ a. subset_right ks behind) goes2 ends2 stops no_end w_in w_out
      (λ a h. fits_mono n m a (omega (arith, lt)) h) (λ a us l. low n m lt a (bounded (suc n) q a us (rank_to n a us l))) (λ a f u h. begun u h))

-- what stands behind the condition of `c ? a : b`
abbrev ArmsL : ℕ → Lang (Sized × Sized)
ArmsL k = both (lead (punct p.Question) (IsExpr k Comma)) (lead (punct p.Colon) (IsExpr k Conditional))

abbrev WithConditional : Lang Sized → Lang Sized → ℕ → Lang Sized
WithConditional F C k = either F (made (λ d. conditional d.0 d.1) (both C (ArmsL k)))

only_or : (k : ℕ) (c : Sized) (us : List Token) → such is_condition (IsExpr k Conditional) c us → IsExpr k (Binary LogicalOr) c us
only_or zero c us l = absurd l.1
only_or (suc k) c us l = only_condition (IsExpr k) c us l.1 l.0

or_only : (k : ℕ) (c : Sized) (us : List Token) → IsExpr k (Binary LogicalOr) c us → such is_condition (IsExpr k Conditional) c us
or_only zero c us l = absurd l
or_only (suc k) c us l = (condition_logical_or (IsExpr k) c us l, inl l)

conditional_in : (k : ℕ) (c : Sized) (us : List Token) → WithConditional (IsExpr (suc k) (Binary LogicalOr)) (such is_condition (IsExpr k Conditional)) k c us
    → IsExpr (suc k) Conditional c us
conditional_in k c us (inl l) = inl l
conditional_in k c us (inr (d, e, (us1, us2, e2, l, x))) = inr (d, e, (us1, us2, e2, only_or k d.0 us1 l, x))

conditional_out : (k : ℕ) (c : Sized) (us : List Token) → IsExpr (suc k) Conditional c us
    → WithConditional (IsExpr (suc k) (Binary LogicalOr)) (such is_condition (IsExpr k Conditional)) k c us
conditional_out k c us (inl l) = inl l
conditional_out k c us (inr (d, e, (us1, us2, e2, l, x))) = inr (d, e, (us1, us2, e2, or_only k d.0 us1 l, x))

wider_lead : (k j : ℕ) (r : Rank) (c : Sized) (us : List Token) → lead j (IsExpr k r) c us → lead j (IsExpr (suc k) r) c us
wider_lead k j r c us (d, e, (us1, us2, e2, s, l)) = (d, e, (us1, us2, e2, s, higher k (suc k) (omega arith) r d.1 us2 l))

led : {A : Type 0} {L : Lang A} (j : ℕ) (u : Token) → member (class u) (j ∷ []) ≡ true → Some_of L → (a : A) × (ws : List Token) × lead j L a (u ∷ ws)
led j u h x = let s = from_sign j u h in (x.0, x.1, ((s.0, x.0), refl, (u ∷ [], x.1, refl, s.1, x.2)))

some_arms : (m : ℕ) → nat_eq m 0 ≡ false → (u : Token) → member (class u) (punct p.Question ∷ []) ≡ true
    → (b : Sized × Sized) × (ws : List Token) × ArmsL m b (u ∷ ws)
some_arms m z u h =
    let x = led (punct p.Question) u h (any_expr m Comma z) in
    let y = led (punct p.Colon) (mark p.Colon) refl (any_expr m Conditional z) in
    ((x.0, y.0), x.1 ++ mark p.Colon ∷ y.1, (u ∷ x.1, mark p.Colon ∷ y.1, refl, x.2, y.2))

abbrev TargetL : ℕ → Lang ((Option BinaryOp × ℕ) × Sized)
TargetL k = both (among assignment_operators) (IsExpr k Assignment)

abbrev WithAssignment : Lang Sized → Lang Sized → ℕ → Lang Sized
WithAssignment F C k = either F (made (λ d. assign d.0 d.1) (both C (TargetL k)))

assignment_in : (k : ℕ) (c : Sized) (us : List Token) → WithAssignment (IsExpr (suc k) Conditional) (such is_unary (IsExpr k Assignment)) k c us
    → IsExpr (suc k) Assignment c us
assignment_in k c us (inl l) = inl l
assignment_in k c us (inr (d, e, (us1, us2, e2, l, x))) = inr (d, e, (us1, us2, e2, down k d.0 us1 l, x))
  where
    down : (k : ℕ) (c : Sized) (us : List Token) → such is_unary (IsExpr k Assignment) c us → IsExpr k Unary c us
    down zero c us l = absurd l.1
    down (suc k) c us l = only_assignment (IsExpr k) c us l.1 l.0

assignment_out : (k : ℕ) (c : Sized) (us : List Token) → IsExpr (suc k) Assignment c us
    → WithAssignment (IsExpr (suc k) Conditional) (such is_unary (IsExpr k Assignment)) k c us
assignment_out k c us (inl l) = inl l
assignment_out k c us (inr (d, e, (us1, us2, e2, l, x))) = inr (d, e, (us1, us2, e2, up k d.0 us1 l, x))
  where
    up : (k : ℕ) (c : Sized) (us : List Token) → IsExpr k Unary c us → such is_unary (IsExpr k Assignment) c us
    up zero c us l = absurd l
    up (suc k) c us l = (unary_unary (IsExpr k) c us l, inl (inl (unary_logical_or (IsExpr k) c us l)))

abbrev WithComma : Lang Sized → Lang Sized → ℕ → Lang Sized
WithComma F C k = either F (made (λ d. comma d.0 d.1) (both C (lead (punct p.Comma) (IsExpr k Assignment))))

comma_in : (k : ℕ) (c : Sized) (us : List Token) → WithComma (IsExpr (suc k) Assignment) (such always (IsExpr k Comma)) k c us → IsExpr (suc k) Comma c us
comma_in k c us (inl l) = inl l
comma_in k c us (inr (d, e, (us1, us2, e2, l, x))) = inr (d, e, (us1, us2, e2, l.1, x))

comma_out : (k : ℕ) (c : Sized) (us : List Token) → IsExpr (suc k) Comma c us → WithComma (IsExpr (suc k) Assignment) (such always (IsExpr k Comma)) k c us
comma_out k c us (inl l) = inl l
comma_out k c us (inr (d, e, (us1, us2, e2, l, x))) = inr (d, e, (us1, us2, e2, (refl, l), x))

-- fewer tokens may stand behind
pub narrow : {A : Type 0} {L V : A → List Token → Type 0} {left left' : List Token → Reply A} {next : List ℕ} {follow : A → List ℕ}
    → Reads L V left left' next follow → (behind : A → List ℕ) → ((a : A) → subset (behind a) (follow a) ≡ true) → Reads L V left left' next behind
narrow {follow = follow} Q behind fits = record {
  complete = λ a us t l h. Q.complete a us t l (member-subset _ (behind a) (follow a) (fits a) h);
  outcome = Q.outcome;
  opens = λ a us t l h. Q.opens a us t l (member-subset _ (behind a) (follow a) (fits a) h);
  wider = Q.wider;
  some = Q.some;
  agrees = Q.agrees;
}

-- a level of binary operators; its operands are of the rank r
module _ (n m : ℕ) (lt : suc n < m) (R : (r : Rank) → IsRead r → Reads (IsExpr n r) (IsExpr m r) (read_expr n r) (read_expr m r) expr_first (λ _. after r))
  where
    operand_token : (u : Token) (q : Precedence) (r : Rank) → member (class u) (classes (operators q)) ≡ true
        → (b : _ × Sized) × (ws : List Token) × both (among (operators q)) (IsExpr m r) b (u ∷ ws)
    operand_token u q r h = let x = from_table (operators q) u h in let y = any_expr m r (positive n m lt) in ((x.0, y.0), y.1, (u ∷ [], y.1, refl, x.1, y.2))

    level : (q : Precedence) (r : Rank)
        → ((k : ℕ) (c : Sized) (us : List Token) → either (IsExpr (suc k) r) (joined (IsExpr k) q (IsExpr k r)) c us → IsExpr (suc k) (Binary q) c us)
        → ((k : ℕ) (c : Sized) (us : List Token) → IsExpr (suc k) (Binary q) c us → either (IsExpr (suc k) r) (joined (IsExpr k) q (IsExpr k r)) c us)
        → {left left' : List Token → Reply Sized} {next : List ℕ} (behind : List ℕ)
        → Reads (IsExpr (suc n) r) (IsExpr (suc m) r) left left' next (λ _. classes (operators q) ++ behind)
        → Reads (IsExpr n r) (IsExpr m r) (read_expr n r) (read_expr m r) expr_first (λ _. classes (operators q) ++ behind)
        → apart behind (classes (operators q)) ≡ true → member 0 (classes (operators q)) ≡ false → (t : Token)
        → is_some (lined t.line (row_of (class t) (operators q))) ≡ true → member (punct p.CloseParen) (classes (operators q) ++ behind) ≡ true
        → member (punct p.CloseParen) (classes (operators q)) ≡ false
        → Reads (IsExpr (suc n) (Binary q)) (IsExpr (suc m) (Binary q)) (read_level n (read_expr n) q left (read_expr n r))
        (read_level m (read_expr m) q left' (read_expr m r)) next (λ _. behind)
    level q r into out behind L S stops no_end t has w_in w_out =
        reads_rank_row (Binary q) r (λ k. both (among (operators q)) (IsExpr k r)) always binary
        (λ k c us l. into k c us (plain k c us l)) (λ k c us l. tested k c us (out k c us l))
        (λ k b us l. (l.0, l.1, l.2, l.3, higher k (suc k) (omega arith) r b.1 l.1 l.4))
        n m lt (classes (operators q)) behind L (λ z. reads_both (reads_among (operators q) no_end t has (λ _. expr_first)) S (λ a us l. any_expr n r z)
        (λ a. refl))
        (λ a b h. subset_left (classes (operators q)) behind) (λ b. subset_right (classes (operators q)) behind) stops no_end (mark p.CloseParen ∷ [])
        (λ b. w_in)
        w_out (λ u h. operand_token u q r h)
      where
        plain : (k : ℕ) (c : Sized) (us : List Token)
            → either (IsExpr (suc k) r) (made (λ d. binary d.0 d.1) (both (such always (IsExpr k (Binary q))) (both (among (operators q)) (IsExpr k r)))) c us
            → either (IsExpr (suc k) r) (joined (IsExpr k) q (IsExpr k r)) c us
        plain k c us (inl l) = inl l
        plain k c us (inr (d, e, (us1, us2, e2, l, x))) = inr (d, e, (us1, us2, e2, l.1, x))

        tested : (k : ℕ) (c : Sized) (us : List Token) → either (IsExpr (suc k) r) (joined (IsExpr k) q (IsExpr k r)) c us
            → either (IsExpr (suc k) r) (made (λ d. binary d.0 d.1) (both (such always (IsExpr k (Binary q))) (both (among (operators q)) (IsExpr k r)))) c us
        tested k c us (inl l) = inl l
        tested k c us (inr (d, e, (us1, us2, e2, l, x))) = inr (d, e, (us1, us2, e2, (refl, l), x))

    reads_cast : Reads (IsExpr (suc n) Cast) (IsExpr (suc m) Cast) (read_unary n (read_expr n) true) (read_unary m (read_expr m) true) unary_first
        (λ _. after_cast)
    reads_cast = reads_unary n m lt R true

    reads_product : Reads (IsExpr (suc n) (Binary Product)) (IsExpr (suc m) (Binary Product)) (read_product n (read_expr n)) (read_product m (read_expr m))
        unary_first (λ _. after_product)
    reads_product = level Product Cast (λ k c us l. l) (λ k c us l. l) after_product reads_cast (R Cast tt) refl refl (mark p.Star) refl refl refl

    reads_sum : Reads (IsExpr (suc n) (Binary Sum)) (IsExpr (suc m) (Binary Sum)) (read_sum n (read_expr n)) (read_sum m (read_expr m)) unary_first
        (λ _. after_sum)
    reads_sum = level Sum (Binary Product) (λ k c us l. l) (λ k c us l. l) after_sum reads_product (R (Binary Product) tt) refl refl (mark p.Plus) refl refl
        refl

    reads_shift : Reads (IsExpr (suc n) (Binary Shift)) (IsExpr (suc m) (Binary Shift)) (read_shift n (read_expr n)) (read_shift m (read_expr m)) unary_first
        (λ _. after_shift)
    reads_shift = level Shift (Binary Sum) (λ k c us l. l) (λ k c us l. l) after_shift reads_sum (R (Binary Sum) tt) refl refl (mark p.ShiftLeft) refl refl refl

    reads_relation : Reads (IsExpr (suc n) (Binary Relation)) (IsExpr (suc m) (Binary Relation)) (read_relation n (read_expr n)) (read_relation m (read_expr m))
        unary_first (λ _. after_relation)
    reads_relation = level Relation (Binary Shift) (λ k c us l. l) (λ k c us l. l) after_relation reads_shift (R (Binary Shift) tt) refl refl (mark p.Less) refl
        refl refl

    reads_equality : Reads (IsExpr (suc n) (Binary Equality)) (IsExpr (suc m) (Binary Equality)) (read_equality n (read_expr n)) (read_equality m (read_expr m))
        unary_first (λ _. after_equality)
    reads_equality = level Equality (Binary Relation) (λ k c us l. l) (λ k c us l. l) after_equality reads_relation (R (Binary Relation) tt) refl refl
        (mark p.EqualEqual) refl refl refl

    reads_and : Reads (IsExpr (suc n) (Binary And)) (IsExpr (suc m) (Binary And)) (read_and n (read_expr n)) (read_and m (read_expr m)) unary_first
        (λ _. after_and)
    reads_and = level And (Binary Equality) (λ k c us l. l) (λ k c us l. l) after_and reads_equality (R (Binary Equality) tt) refl refl (mark p.Ampersand) refl
        refl refl

    reads_xor : Reads (IsExpr (suc n) (Binary Xor)) (IsExpr (suc m) (Binary Xor)) (read_xor n (read_expr n)) (read_xor m (read_expr m)) unary_first
        (λ _. after_xor)
    reads_xor = level Xor (Binary And) (λ k c us l. l) (λ k c us l. l) after_xor reads_and (R (Binary And) tt) refl refl (mark p.Caret) refl refl refl

    reads_or : Reads (IsExpr (suc n) (Binary Or)) (IsExpr (suc m) (Binary Or)) (read_or n (read_expr n)) (read_or m (read_expr m)) unary_first (λ _. after_or)
    reads_or = level Or (Binary Xor) (λ k c us l. l) (λ k c us l. l) after_or reads_xor (R (Binary Xor) tt) refl refl (mark p.Bar) refl refl refl

    reads_logical_and : Reads (IsExpr (suc n) (Binary LogicalAnd)) (IsExpr (suc m) (Binary LogicalAnd)) (read_logical_and n (read_expr n))
        (read_logical_and m (read_expr m)) unary_first (λ _. after_logical_and)
    reads_logical_and = level LogicalAnd (Binary Or) (λ k c us l. l) (λ k c us l. l) after_logical_and reads_or (R (Binary Or) tt) refl refl (mark p.AndAnd)
        refl
        refl refl

    reads_logical_or : Reads (IsExpr (suc n) (Binary LogicalOr)) (IsExpr (suc m) (Binary LogicalOr)) (read_logical_or n (read_expr n))
        (read_logical_or m (read_expr m)) unary_first (λ _. after_logical_or)
    reads_logical_or = level LogicalOr (Binary LogicalAnd) (λ k c us l. l) (λ k c us l. l) after_logical_or reads_logical_and (R (Binary LogicalAnd) tt) refl
        refl
        (mark p.OrOr) refl refl refl

    reads_conditional : Reads (IsExpr (suc n) Conditional) (IsExpr (suc m) Conditional) (read_conditional n (read_expr n)) (read_conditional m (read_expr m))
        unary_first (λ _. after_conditional)
    reads_conditional = reads_rank_row Conditional (Binary LogicalOr) ArmsL is_condition conditional conditional_in conditional_out
        (λ k b us l. (l.0, l.1, l.2, wider_lead k (punct p.Question) Comma b.0 l.0 l.3, wider_lead k (punct p.Colon) Conditional b.1 l.1 l.4)) n m lt
        (punct p.Question ∷ []) after_conditional reads_logical_or
        (λ z. reads_both (reads_lead (R Comma tt) (mark p.Question) refl (any_expr n Comma z))
        (reads_lead (R Conditional tt) (mark p.Colon) refl (any_expr n Conditional z))
        (λ a us l. let y = led (punct p.Colon) (mark p.Colon) refl (any_expr n Conditional z) in (y.0, mark p.Colon ∷ y.1, y.2)) (λ a. refl))
        (λ a b h. absurd (let x : false ≡ true = sym (condition_node _ 0) ∙ h in cc)) (λ b. subset_self after_conditional) refl refl (mark p.CloseParen ∷ [])
        (λ b. refl) refl (some_arms m (positive n m lt))

    reads_assignment : Reads (IsExpr (suc n) Assignment) (IsExpr (suc m) Assignment) (read_assignment n (read_expr n)) (read_assignment m (read_expr m))
        unary_first (λ _. after_assignment)
    reads_assignment = reads_rank_row Assignment Conditional TargetL is_unary assign assignment_in assignment_out
        (λ k b us l. (l.0, l.1, l.2, l.3, higher k (suc k) (omega arith) Assignment b.1 l.1 l.4)) n m lt (classes assignment_operators) after_assignment
        reads_conditional
        (λ z. reads_both (reads_among assignment_operators refl (mark p.Equals) refl (λ _. expr_first)) (R Assignment tt) (λ a us l. any_expr n Assignment z)
        (λ a. refl))
        (λ a b h. absurd (let x : false ≡ true = sym (unary_node _ 0) ∙ h in cc)) (λ b. subset_self after_assignment) refl refl (mark p.CloseParen ∷ [])
        (λ b. refl) refl
        (λ u h. let x = from_table assignment_operators u h in let y = any_expr m Assignment (positive n m lt)
        in ((x.0, y.0), y.1, (u ∷ [], y.1, refl, x.1, y.2)))

    reads_comma : Reads (IsExpr (suc n) Comma) (IsExpr (suc m) Comma) (read_comma n (read_expr n)) (read_comma m (read_expr m)) unary_first (λ _. after_comma)
    reads_comma = reads_rank_row Comma Assignment (λ k. lead (punct p.Comma) (IsExpr k Assignment)) always comma comma_in comma_out
        (λ k b us l. wider_lead k (punct p.Comma) Assignment b us l) n m lt (punct p.Comma ∷ []) after_comma (widen_follow reads_assignment)
        (λ z. reads_lead (R Assignment tt) (mark p.Comma) refl (any_expr n Assignment z))
        (λ a b h. refl) (λ b. refl) refl refl (mark p.CloseParen ∷ []) (λ b. refl) refl
        (λ u h. led (punct p.Comma) u h (any_expr m Assignment (positive n m lt)))
      where
        widen_follow : Reads (IsExpr (suc n) Assignment) (IsExpr (suc m) Assignment) (read_assignment n (read_expr n)) (read_assignment m (read_expr m))
            unary_first (λ _. after_assignment)
            → Reads (IsExpr (suc n) Assignment) (IsExpr (suc m) Assignment) (read_assignment n (read_expr n)) (read_assignment m (read_expr m)) unary_first
            (λ _. punct p.Comma ∷ after_comma)
        widen_follow Q = narrow Q (λ _. punct p.Comma ∷ after_comma) (λ a. refl)

    narrowed : (r : Rank) {left left' : List Token → Reply Sized} {behind : List ℕ}
        → Reads (IsExpr (suc n) r) (IsExpr (suc m) r) left left' unary_first (λ _. behind)
        → Reads (IsExpr (suc n) r) (IsExpr (suc m) r) left left' expr_first (λ _. behind)
    narrowed r Q = record {
      complete = Q.complete;
      outcome = Q.outcome;
      opens = λ a us t l h. member-subset (look (us ++ t)) unary_first expr_first refl (Q.opens a us t l h);
      wider = Q.wider;
      some = Q.some;
      agrees = Q.agrees;
    }

    reads_rank : (r : Rank) → IsRead r → Reads (IsExpr (suc n) r) (IsExpr (suc m) r) (read_expr (suc n) r) (read_expr (suc m) r) expr_first (λ _. after r)
    reads_rank Comma i = narrowed Comma reads_comma
    reads_rank Assignment i = narrowed Assignment reads_assignment
    reads_rank Conditional i = narrowed Conditional reads_conditional
    reads_rank (Binary Product) i = narrowed (Binary Product) reads_product
    reads_rank (Binary Sum) i = narrowed (Binary Sum) reads_sum
    reads_rank (Binary Shift) i = narrowed (Binary Shift) reads_shift
    reads_rank (Binary Relation) i = narrowed (Binary Relation) reads_relation
    reads_rank (Binary Equality) i = narrowed (Binary Equality) reads_equality
    reads_rank (Binary And) i = narrowed (Binary And) reads_and
    reads_rank (Binary Xor) i = narrowed (Binary Xor) reads_xor
    reads_rank (Binary Or) i = narrowed (Binary Or) reads_or
    reads_rank (Binary LogicalAnd) i = narrowed (Binary LogicalAnd) reads_logical_and
    reads_rank (Binary LogicalOr) i = narrowed (Binary LogicalOr) reads_logical_or
    reads_rank Cast i = narrowed Cast reads_cast
    reads_rank Unary i = narrowed Unary (reads_unary n m lt R false)
    reads_rank Postfix i = absurd i

pub reads_expr : (n m : ℕ) → suc n < m → (r : Rank) → IsRead r → Reads (IsExpr n r) (IsExpr m r) (read_expr n r) (read_expr m r) expr_first (λ _. after r)
reads_expr n zero lt r i = absurd (omega (arith, lt))
reads_expr zero (suc m) lt r i = reads_nothing (IsExpr zero r) (IsExpr (suc m) r) (read_expr zero r) (read_expr (suc m) r) expr_first (λ _. after r)
    (λ a us l. l) (λ ts h. if_true _ _ h) (λ ts h. if_false _ _ h) (λ ts h. shut_expr (suc m) r i ts h) refl
    (λ t h. begun_expr (suc m) lt r i t h) (any_expr (suc m) r (above_zero 0 (suc m) (omega arith)))
reads_expr (suc n) (suc m) lt r i = reads_rank n m (omega (arith, lt)) (λ q j. reads_expr n m (omega (arith, lt)) q j) r i
