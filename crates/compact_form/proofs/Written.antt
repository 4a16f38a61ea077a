-- What is written, put together.
use Rattle.std.proofs.Common.{◌≡◌, ℕ, ◌+◌, List, [], ◌∷◌, ◌++◌, length, flat_map, refl, sym, ◌∙◌, ap, arith, append_assoc, length-append}
use Rattle.std.proofs.lemmas.List.Concat.{flat_map-cons}
use Rattle.il_core.specs.declared.instr.Block.{Block}
use Rattle.il_core.specs.declared.instr.Instr.{Instr}
use Rattle.il_core.specs.Routine.{RoutineParts}
use Rattle.compact_form.specs.Numbers.{forms, spelled, spelled_all}
use Rattle.compact_form.specs.Compact.{instr_form, end_form, counted, block_form, head_numbers, compact}

pub forms_flat : {X : Type 0} (f : X → List ℕ) (xs : List X) → flat_map f xs ≡ forms f xs
forms_flat f [] = refl
forms_flat f (x ∷ xs) = flat_map-cons f x xs ∙ ap (λ l. f x ++ l) (forms_flat f xs)

forms_append : (f : ℕ → List ℕ) (xs ys : List ℕ) → forms f (xs ++ ys) ≡ forms f xs ++ forms f ys
forms_append f [] ys = refl
forms_append f (x ∷ xs) ys = ap (λ l. f x ++ l) (forms_append f xs ys) ∙ sym (append_assoc (f x) (forms f xs) (forms f ys))

-- a row is an opcode and its operands
pub row_form : (byte code : ℕ) (ns args all : List ℕ) → byte ≡ code → ns ++ args ≡ all
    → byte ∷ (flat_map spelled ns ++ flat_map spelled args) ≡ code ∷ spelled_all all
row_form byte code ns args all at is =
    ap (λ b. b ∷ (flat_map spelled ns ++ flat_map spelled args)) at
    ∙ ap (λ l. code ∷ (l ++ flat_map spelled args)) (forms_flat spelled ns)
    ∙ ap (λ l. code ∷ (spelled_all ns ++ l)) (forms_flat spelled args)
    ∙ ap (λ l. code ∷ l) (sym (forms_append spelled ns args) ∙ ap spelled_all is)

pub block_written : (b : Block) (old first second new : List ℕ) (is : List Instr) (row : List ℕ) → is ≡ b.instrs → first ≡ old ++ spelled (length is)
    → second ≡ first ++ flat_map instr_form is → new ≡ second ++ row → row ≡ end_form b.end → new ≡ old ++ block_form b
block_written b old first second new is row same one two three last =
    three ∙ ap (λ l. l ++ row) two ∙ ap (λ l. (l ++ flat_map instr_form is) ++ row) one
    ∙ ap (λ l. ((old ++ spelled (length is)) ++ l) ++ row) (forms_flat instr_form is)
    ∙ ap (λ l. ((old ++ spelled (length is)) ++ forms instr_form is) ++ l) last
    ∙ ap (λ js. ((old ++ spelled (length js)) ++ forms instr_form js) ++ end_form b.end) same
    ∙ simp append_assoc

pub routine_written : (r : RoutineParts) (old one two three four five head : List ℕ) (arrays : List ℕ) (blocks : List Block) → arrays ≡ r.arrays
    → blocks ≡ r.blocks → head ≡ head_numbers r → one ≡ old ++ flat_map spelled head → two ≡ one ++ spelled (length arrays)
    → three ≡ two ++ flat_map spelled arrays → four ≡ three ++ spelled (length blocks) → five ≡ four ++ flat_map block_form blocks → five ≡ old ++ compact r
routine_written r old one two three four five head arrays blocks is also at e1 e2 e3 e4 e5 =
    let first : flat_map spelled head ≡ spelled_all (head_numbers r) = forms_flat spelled head ∙ ap spelled_all at in
    e5 ∙ ap (λ l. l ++ flat_map block_form blocks) (e4 ∙ ap (λ l. l ++ spelled (length blocks))
    (e3 ∙ ap (λ l. l ++ flat_map spelled arrays) (e2 ∙ ap (λ l. l ++ spelled (length arrays)) (e1 ∙ ap (λ l. old ++ l) first))))
    ∙ ap (λ l. ((((old ++ spelled_all (head_numbers r)) ++ spelled (length arrays)) ++ flat_map spelled arrays) ++ spelled (length blocks)) ++ l)
    (forms_flat block_form blocks)
    ∙ ap (λ l. ((((old ++ spelled_all (head_numbers r)) ++ spelled (length arrays)) ++ l) ++ spelled (length blocks)) ++ forms block_form blocks)
    (forms_flat spelled arrays)
    ∙ ap (λ l. ((((old ++ spelled_all (head_numbers r)) ++ spelled (length l)) ++ spelled_all l) ++ spelled (length blocks)) ++ forms block_form blocks) is
    ∙ ap (λ l. ((((old ++ spelled_all (head_numbers r)) ++ spelled (length r.arrays)) ++ spelled_all r.arrays) ++ spelled (length l)) ++ forms block_form l)
    also
    ∙ simp append_assoc

-- ---- lengths

pub block_measured : (b : Block) (is : List Instr) (row : List ℕ) (n k m : ℕ) → is ≡ b.instrs → row ≡ end_form b.end → n ≡ length (spelled (length is))
    → k ≡ length (flat_map instr_form is) → m ≡ length row → n + k + m ≡ length (block_form b)
block_measured b is row n k m same last one two three =
    let a : n ≡ length (spelled (length b.instrs)) = one ∙ ap (λ js. length (spelled (length js))) same in
    let c : k ≡ length (forms instr_form b.instrs) = two ∙ ap length (forms_flat instr_form is) ∙ ap (λ js. length (forms instr_form js)) same in
    let d : m ≡ length (end_form b.end) = three ∙ ap length last in
    omega (arith, length-append (counted instr_form b.instrs) (end_form b.end), length-append (spelled (length b.instrs)) (forms instr_form b.instrs))

pub routine_measured : (r : RoutineParts) (head arrays : List ℕ) (blocks : List Block) (h a l b m : ℕ) → head ≡ head_numbers r → arrays ≡ r.arrays
    → blocks ≡ r.blocks → h ≡ length (flat_map spelled head) → a ≡ length (spelled (length arrays)) → l ≡ length (flat_map spelled arrays)
    → b ≡ length (spelled (length blocks)) → m ≡ length (flat_map block_form blocks) → h + (a + l + b) + m ≡ length (compact r)
routine_measured r head arrays blocks h a l b m at is also e1 e2 e3 e4 e5 =
    let p : h ≡ length (spelled_all (head_numbers r)) = e1 ∙ ap length (forms_flat spelled head ∙ ap spelled_all at) in
    let q : a ≡ length (spelled (length r.arrays)) = e2 ∙ ap (λ ns. length (spelled (length ns))) is in
    let s : l ≡ length (spelled_all r.arrays) = e3 ∙ ap length (forms_flat spelled arrays ∙ ap spelled_all is) in
    let t : b ≡ length (spelled (length r.blocks)) = e4 ∙ ap (λ bs. length (spelled (length bs))) also in
    let u : m ≡ length (forms block_form r.blocks) = e5 ∙ ap length (forms_flat block_form blocks ∙ ap (forms block_form) also) in
    omega (
      arith,
      length-append (spelled_all (head_numbers r)) (counted spelled r.arrays ++ counted block_form r.blocks),
      length-append
          (counted spelled r.arrays) (counted block_form r.blocks),
      length-append (spelled (length r.arrays)) (spelled_all r.arrays),
      length-append
          (spelled (length r.blocks)) (forms block_form r.blocks),
    )
