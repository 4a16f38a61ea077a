-- Valid routines, and whole routines whose blocks are changed.
use Rattle.std.proofs.Common.{◌≡◌, ℕ, suc, ◌+◌, List, [], ◌∷◌, ◌++◌, length, take, refl, ap, subst, sym, ◌∙◌}
use Rattle.std.proofs.lemmas.List.{take_at}
use Rattle.std.specs.List.{AllByRecursion}
use Rattle.il_core.specs.declared.instr.Block.{Block}
use Rattle.il_core.specs.declared.instr.Instr.{Instr}
use Rattle.il_core.specs.declared.instr.Instr.TheVariants.{Const, Move, Conv, Bin, Get, Set, GetX, SetX, GetA, SetA, Clear, Turn, Call, GetChar, PutChar}
use Rattle.il_core.specs.declared.shape.ShapeRow.{ShapeRow}
use Rattle.il_core.specs.Routine.{RoutineParts}
use Rattle.il_core.specs.Valid.{IsValidInstr, AreValidBlocks}
use Rattle.il_laws.specs.Facts.{Facts, facts_at}
use Rattle.il_laws.specs.Propagate.{with_facts}
use Rattle.const_prop.specs.Tables.{NamesRegisters, AreNamed, IsValidRoutine}
use Rattle.const_prop.specs.Flow.{bare}
use Rattle.const_prop.proofs.Following.{bare_facts}

named_instr : (rows : List ShapeRow) (n arrays : ℕ) (i : Instr) → IsValidInstr rows n arrays i → NamesRegisters n i
named_instr rows n arrays (Const d w) h = h
named_instr rows n arrays (Move d s) h = h
named_instr rows n arrays (Conv d t s) h = h
named_instr rows n arrays (Bin o d a b) h = h
named_instr rows n arrays (Get d g) h = h.0
named_instr rows n arrays (Set g s) h = h.0
named_instr rows n arrays (GetX d g i) h = (h.0, h.1)
named_instr rows n arrays (SetX g i s) h = (h.0, h.1)
named_instr rows n arrays (GetA d a i) h = (h.0, h.1)
named_instr rows n arrays (SetA a i s) h = (h.0, h.1)
named_instr rows n arrays (Clear r c a m) h = h.0
named_instr rows n arrays Turn h = tt
named_instr rows n arrays (Call dest p count args) h = (h.0, h.1)
named_instr rows n arrays (GetChar d) h = h
named_instr rows n arrays (PutChar d s) h = h

named_instrs : (rows : List ShapeRow) (n arrays : ℕ) (is : List Instr) → AllByRecursion (IsValidInstr rows n arrays) is → AllByRecursion (NamesRegisters n) is
named_instrs rows n arrays [] h = tt
named_instrs rows n arrays (i ∷ is) h = (named_instr rows n arrays i h.0, named_instrs rows n arrays is h.1)

named_blocks : (rows : List ShapeRow) (r : RoutineParts) (b : ℕ) (xs : List Block) → AreValidBlocks rows r b xs → AreNamed r.regs xs
named_blocks rows r b [] h = tt
named_blocks rows r b (x ∷ xs) h = (named_instrs rows r.regs (length r.arrays) x.instrs h.0, named_blocks rows r (b + 1) xs h.2)

pub valid_named : (r : RoutineParts) → IsValidRoutine r → AreNamed r.regs r.blocks
valid_named r h = named_blocks h.0 r 0 r.blocks h.1.blocks

pub with_bare : (change : Facts → Block → Block) (r : RoutineParts) (b : ℕ) (xs : List Block)
    → with_facts change (bare r.params r.blocks) b xs ≡ with_facts change r b xs
with_bare change r b [] = refl
with_bare change r b (x ∷ xs) =
    ap (λ (fs : Facts). change fs x ∷ with_facts change (bare r.params r.blocks) (suc b) xs) (bare_facts r b)
    ∙ ap (λ (ys : List Block). change (facts_at r b) x ∷ ys) (with_bare change r (suc b) xs)

pub with_blocks_is : (change : Facts → Block → Block) (r : RoutineParts) (bs : List Block) → bs ≡ with_facts change (bare r.params r.blocks) 0 r.blocks
    → record r { blocks = bs } ≡ record r { blocks = with_facts change r 0 r.blocks }
with_blocks_is change r bs e = ap (λ (cs : List Block). record r { blocks = cs }) (e ∙ with_bare change r 0 r.blocks)

-- what the code makes of a routine, with its blocks changed in place
pub owned_is : (change : Facts → Block → Block) (r : RoutineParts) (len k : ℕ) (items was now rest result : List Block) → result ≡ take len (now ++ rest)
    → length now ≡ len → was ≡ items → items ≡ r.blocks → k ≡ r.params → now ≡ with_facts change (bare k was) 0 was
    → record r { blocks = result } ≡ record r { blocks = with_facts change r 0 r.blocks }
owned_is change r len k items was now rest result e size same is params whole =
    let blocks : was ≡ r.blocks = same ∙ is in
    with_blocks_is change r result
    (e ∙ take_at now rest len size ∙ whole ∙ ap (λ (m : ℕ). with_facts change (bare m was) 0 was) params
    ∙ ap (λ (bs : List Block). with_facts change (bare r.params bs) 0 bs) blocks)

pub named_as : (r : RoutineParts) (n : ℕ) (items was : List Block) → IsValidRoutine r → n ≡ r.regs → was ≡ items → items ≡ r.blocks → AreNamed n was
named_as r n items was h regs same is =
    subst (λ (m : ℕ). AreNamed m was) (sym regs) (subst (AreNamed r.regs) (sym (same ∙ is)) (valid_named r h))
