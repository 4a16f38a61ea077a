-- What is known at a site of what its callee reads, parameter by parameter.
use Rattle.std.proofs.Common.{◌≡◌, ℕ, suc, ◌+◌, ◌<◌, ◌≤◌, List, [], ◌∷◌, ◌++◌, Bool, true, false, Option, Some, None, refl, ap, sym, ◌∙◌, arith, length}
use Rattle.std.proofs.Common.{drop, get_or, append_assoc}
use Rattle.std.specs.Option.{option_map}
use Rattle.std.proofs.lemmas.List.{append-nil, drop_all, get_or_default}
use Rattle.hlo_num.specs.declared.word.Word.{Word}
use Rattle.il_laws.specs.Clone.{Fixed}
use Rattle.list_laws.proofs.Elements.{drop_read}
use Rattle.const_prop.specs.Sites.{words_at}
use Rattle.plan_laws.specs.Groups.{fixed_at, fixed_from}
use Rattle.clone_groups.specs.Keys.{fixed_in}

fixed_split : (p : ℕ) (b : Bool) (o : Option ℕ) (rest : List Fixed) → fixed_at p b o rest ≡ fixed_at p b o [] ++ rest
fixed_split p true (Some v) rest = refl
fixed_split p true None rest = refl
fixed_split p false o rest = refl

none_known : (p : ℕ) (bs : List Bool) → fixed_from p bs [] ≡ []
none_known p [] = refl
none_known p (b ∷ bs) = refl

abbrev word_of : Option Word → Option ℕ
word_of o = option_map (λ (w : Word). w.0) o

module _ (reads : List Bool) (whole : List Fixed) (xs : List (ℕ × ℕ)) (p i : ℕ) (left : List (Option Word))
    (e : fixed_in xs ++ fixed_from p (drop i reads) (words_at left) ≡ whole) where
  pub one_fixed : (new : List (ℕ × ℕ)) (d : Bool) (w : Option Word) (rest : List (Option Word)) → i < length reads → left ≡ w ∷ rest
      → fixed_in new ≡ fixed_in xs ++ fixed_at p (get_or reads i d) (word_of w) []
      → fixed_in new ++ fixed_from (p + 1) (drop (i + 1) reads) (words_at rest) ≡ whole
  one_fixed new d w rest lt front added =
      let b : Bool = get_or reads i d in
      let is : b ≡ get_or reads i b = get_or_default reads i d b lt in
      let later : List Fixed = fixed_from (p + 1) (drop (i + 1) reads) (words_at rest) in
      let next : p + 1 ≡ suc p = omega arith in
      let here : fixed_at p b (word_of w) later ≡ fixed_from p (drop i reads) (words_at left)
      = ap (λ (n : ℕ). fixed_at p b (word_of w) (fixed_from n (drop (i + 1) reads) (words_at rest))) next
      ∙ ap (λ (l : List Bool). fixed_from p l (words_at (w ∷ rest))) (sym (drop_read reads i b lt is))
      ∙ ap (λ (l : List (Option Word)). fixed_from p (drop i reads) (words_at l)) (sym front) in
      ap (λ (l : List Fixed). l ++ later) added ∙ append_assoc (fixed_in xs) (fixed_at p b (word_of w) []) later
      ∙ ap (λ (l : List Fixed). fixed_in xs ++ l) (sym (fixed_split p b (word_of w) later) ∙ here) ∙ e

  pub known_ends : left ≡ [] → fixed_in xs ≡ whole
  known_ends none =
      sym (append-nil (fixed_in xs)) ∙ ap (λ (l : List Fixed). fixed_in xs ++ l)
      (sym (none_known p (drop i reads)) ∙ ap (λ (l : List (Option Word)). fixed_from p (drop i reads) (words_at l)) (sym none)) ∙ e

  pub reads_end : length reads ≤ i → fixed_in xs ≡ whole
  reads_end past =
      sym (append-nil (fixed_in xs)) ∙ ap (λ (l : List Fixed). fixed_in xs ++ l)
      (ap (λ (l : List Bool). fixed_from p l (words_at left)) (sym (drop_all i reads past))) ∙ e
