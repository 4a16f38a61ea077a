-- Blocks at their places, and what a valid routine says of them.
use Rattle.std.proofs.Common.{◌≡◌, ℕ, zero, suc, ◌+◌, ◌<◌, List, [], ◌∷◌, ◌++◌, map, option_map, refl, ap, subst, ◌∙◌, arith, length, slice_get}
use Rattle.std.specs.Prelude.{Bool, Option, Some, None, get_or}
use Rattle.std.specs.List.{AllByRecursion}
use Rattle.std.proofs.lemmas.Option.{slice_get-map, slice_get-get_or}
use Rattle.il_core.specs.declared.instr.Block.{Block}
use Rattle.il_core.specs.declared.instr.End.{End}
use Rattle.il_core.specs.declared.instr.End.TheVariants as ends
use Rattle.il_core.specs.declared.shape.ShapeRow.{ShapeRow}
use Rattle.il_core.specs.Routine.{RoutineParts}
use Rattle.il_core.specs.Valid.{IsValidInstr, IsValidEnd, AreValidBlocks, IsValid}
use Rattle.il_laws.proofs.Places.{IsForward, AreForward}

module _ {X : Type 0} where
  pub get_left : (xs ys : List X) (i : ℕ) (y : X) → slice_get xs i ≡ Some y → slice_get (xs ++ ys) i ≡ Some y
  get_left [] ys i y e = let bad : None ≡ Some y = e in absurd cc
  get_left (x ∷ xs) ys zero y e = e
  get_left (x ∷ xs) ys (suc i) y e = get_left xs ys i y e

  pub get_within : (xs ys : List X) (i : ℕ) → i < length xs → slice_get (xs ++ ys) i ≡ slice_get xs i
  get_within [] ys i lt = absurd (omega arith)
  get_within (x ∷ xs) ys zero lt = refl
  get_within (x ∷ xs) ys (suc i) lt = let less : suc i < suc (length xs) = lt in get_within xs ys i (omega arith)

  pub get_behind : (xs ys : List X) (n i : ℕ) → length xs ≡ n → slice_get (xs ++ ys) (n + i) ≡ slice_get ys i
  get_behind [] ys n i e = let same : n + i ≡ i = (let none : 0 ≡ n = e in omega arith) in ap (λ (k : ℕ). slice_get ys k) same
  get_behind (x ∷ xs) ys zero i e = let more : suc (length xs) ≡ 0 = e in absurd (omega arith)
  get_behind (x ∷ xs) ys (suc n) i e =
      let more : suc (length xs) ≡ suc n = e in
      let same : suc n + i ≡ suc (n + i) = omega arith in
      ap (λ (k : ℕ). slice_get (x ∷ (xs ++ ys)) k) same ∙ get_behind xs ys n i (omega arith)

  pub get_in : (xs : List X) (i : ℕ) (d : X) → i < length xs → slice_get xs i ≡ Some (get_or xs i d)
  get_in xs i d lt = slice_get-get_or xs i d lt

pub get_map : {X Y : Type 0} (v : X → Y) (xs : List X) (i : ℕ) (x : X) → slice_get xs i ≡ Some x → slice_get (map v xs) i ≡ Some (v x)
get_map {X} {Y} v xs i x e = slice_get-map v xs i ∙ ap (λ (o : Option X). option_map v o) e

pub forward_append : (xs ys : List Block) (b d : ℕ) → b + length xs ≡ d → AreForward b xs → AreForward d ys → AreForward b (xs ++ ys)
forward_append [] ys b d e h g = let same : d ≡ b = (let at : b + 0 ≡ d = e in omega arith) in subst (λ (t : ℕ). AreForward t ys) same g
forward_append (x ∷ xs) ys b d e h g = let at : b + suc (length xs) ≡ d = e in (h.0, forward_append xs ys (suc b) d (omega arith) h.1 g)

pub forward_map : (v : Block → Block) (d : ℕ) (xs : List Block) → ((i : ℕ) (y : Block) → slice_get xs i ≡ Some y → IsForward (d + i) (v y).end)
    → AreForward d (map v xs)
forward_map v d [] h = tt
forward_map v d (x ∷ xs) h =
    let here : d + 0 ≡ d = omega arith in (
      subst (λ (t : ℕ). IsForward t (v x).end) here (h 0 x refl),
      forward_map v (suc d) xs (λ i y e. let there : d + suc i ≡ suc d + i = omega arith in subst (λ (t : ℕ). IsForward t (v y).end) there
          (h (suc i) y e)),
    )

-- what a valid routine says of its block b
pub record ValidBlock (rows : List ShapeRow) (r : RoutineParts) (b : ℕ) (x : Block) : Type 0 where
  pub instrs : AllByRecursion (IsValidInstr rows r.regs (length r.arrays)) x.instrs
  pub end : IsValidEnd r.regs r.value (length r.blocks) b x.end

pub valid_at : (rows : List ShapeRow) (r : RoutineParts) (b : ℕ) (xs : List Block) → AreValidBlocks rows r b xs → (i : ℕ) (x : Block)
    → slice_get xs i ≡ Some x → ValidBlock rows r (b + i) x
valid_at rows r b [] h i x e = let bad : None ≡ Some x = e in absurd cc
valid_at rows r b (y ∷ ys) h zero x e =
    let same : y ≡ x = cc e in
    let here : b ≡ b + 0 = omega arith in
    subst (λ (t : ℕ). ValidBlock rows r t x) here (subst (λ (z : Block). ValidBlock rows r b z) same (record { instrs = h.0; end = h.1 }))
valid_at rows r b (y ∷ ys) h (suc i) x e =
    let there : b + 1 + i ≡ b + suc i = omega arith in
    subst (λ (t : ℕ). ValidBlock rows r t x) there (valid_at rows r (b + 1) ys h.2 i x e)

pub valid_block : (rows : List ShapeRow) (r : RoutineParts) → IsValid rows r → (i : ℕ) (x : Block) → slice_get r.blocks i ≡ Some x
    → ValidBlock rows r i x
valid_block rows r h i x e = let here : 0 + i ≡ i = omega arith in subst (λ (t : ℕ). ValidBlock rows r t x) here
    (valid_at rows r 0 r.blocks h.blocks i x e)

pub valid_forward : (regs : ℕ) (value : Bool) (blocks b : ℕ) (e : End) → IsValidEnd regs value blocks b e → IsForward b e
valid_forward regs value blocks b (ends.Jump t) h = h.0
valid_forward regs value blocks b (ends.Branch r t u) h = (h.1.0, h.2.0)
valid_forward regs value blocks b (ends.Loop t) h = tt
valid_forward regs value blocks b (ends.Return r) h = tt
valid_forward regs value blocks b (ends.Exit r) h = tt

forward_from : (rows : List ShapeRow) (r : RoutineParts) (b : ℕ) (xs : List Block) → AreValidBlocks rows r b xs → AreForward b xs
forward_from rows r b [] h = tt
forward_from rows r b (x ∷ xs) h =
    let next : b + 1 ≡ suc b = omega arith in
    (valid_forward r.regs r.value (length r.blocks) b x.end h.1, subst (λ (t : ℕ). AreForward t xs) next (forward_from rows r (b + 1) xs h.2))

pub valid_are_forward : (rows : List ShapeRow) (r : RoutineParts) → IsValid rows r → AreForward 0 r.blocks
valid_are_forward rows r h = forward_from rows r 0 r.blocks h.blocks
