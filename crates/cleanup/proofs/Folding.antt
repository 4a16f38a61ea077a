-- A loop over blocks whose ends are folded.
use Rattle.std.proofs.Common.{◌≡◌, ℕ, ◌+◌, ◌<◌, List, [], ◌∷◌, get_or, set, drop, length, refl, ap, subst, sym, ◌∙◌, arith, eq-eqb}
use Rattle.std.specs.Prelude.{Option, Bool, true, nat_eq, if◌then◌else◌}
use Rattle.std.specs.List.{AllByRecursion}
use Rattle.il_core.specs.declared.instr.Block.{Block}
use Rattle.il_core.specs.declared.instr.End.{End}
use Rattle.il_core.specs.declared.instr.End.TheVariants as ends
use Rattle.il_core.specs.declared.shape.ShapeRow.{ShapeRow}
use Rattle.il_core.specs.Routine.{RoutineParts}
use Rattle.il_core.specs.Operands.{end_reads}
use Rattle.il_core.specs.Valid.{IsValidEnd, AreValidBlocks}
use Rattle.il_laws.specs.Facts.{Facts, facts_at, through}
use Rattle.il_laws.specs.Propagate.{taken, folded, folded_block}
use Rattle.const_prop.specs.Tables.{NamesRegisters, AreNamed, IsValidRoutine, facts_in, Has}
use Rattle.const_prop.specs.Flow.{Entered, Left, Starts, bare}
use Rattle.const_prop.specs.declared.flow.Flow.{Flow}
use Rattle.list_laws.proofs.Elements.{all_drop}
use Rattle.const_prop.proofs.BlockSteps.{Going, read_rest, named_block, end_as, follows_next, change_next}
use Rattle.cleanup.specs.Ends.{ReadsRegister, EndsRead}

folded_same : (n : ℕ) (e : End) (fs gs : Facts) → ReadsRegister n e → ((x : ℕ) → x < n → end_reads e x ≡ true → fs x ≡ gs x) → folded fs e ≡ folded gs e
folded_same n (ends.Jump t) fs gs m h = refl
folded_same n (ends.Branch r t u) fs gs m h =
    ap (λ (o : Option ℕ). if nat_eq t u then ends.Jump t else taken (ends.Branch r t u) t u o) (h r m (eq-eqb r r refl))
folded_same n (ends.Loop t) fs gs m h = refl
folded_same n (ends.Return r) fs gs m h = refl
folded_same n (ends.Exit r) fs gs m h = refl

pub end_block : (n : ℕ) (bs : List Block) (b : ℕ) (x : Block) → EndsRead n bs → drop b bs ≡ x ∷ drop (b + 1) bs → ReadsRegister n x.end
end_block n bs b x reads e =
    let all : EndsRead n (x ∷ drop (b + 1) bs) = subst (EndsRead n) e (all_drop (λ (y : Block). ReadsRegister n y.end) b bs reads) in all.0

pub end_named : (n m : ℕ) (bs now : List Block) (b : ℕ) (d : Block) → EndsRead n bs → length now ≡ length bs → b < length now → drop b now ≡ drop b bs
    → d ≡ get_or now b d → m ≡ n → ReadsRegister m (get_or now b d).end
end_named n m bs now b d reads size lt rest read same =
    let x : Block = get_or now b d in
    let again : x ≡ get_or now b x = ap (λ (y : Block). get_or now b y) read in
    subst (λ (c : ℕ). ReadsRegister c x.end) (sym same) (end_block n bs b x reads (read_rest bs now b x size lt rest again))

pub fold_next : (n k : ℕ) (bs : List Block) (b : ℕ) (d y : Block) (f f1 f2 : Flow) (s t u : List (Option ℕ)) (now : List Block) → AreNamed n bs → EndsRead n bs
    → b < length now → d ≡ get_or now b d → Going folded_block n k bs b f s now → length t ≡ length s → Starts f b t → Entered f f1 b
    → y ≡ record { instrs = (get_or now b d).instrs; end = folded (facts_in u) (get_or now b d).end }
    → Has (length t) u (through (get_or now b d).instrs (facts_in t))
    → Left (get_or now b d).end u f1 f2 → Going folded_block n k bs (b + 1) f2 u (set now b y)
fold_next n k bs b d y f f1 f2 s t u now named reads lt read g same starts e is has left =
    let c = g.changed in
    let x : Block = get_or now b d in
    let again : x ≡ get_or now b x = ap (λ (z : Block). get_or now b z) read in
    let here : drop b bs ≡ x ∷ drop (b + 1) bs = read_rest bs now b x c.count lt c.rest again in
    let size = c.count in
    let within : b < length bs = omega arith in
    let mine : AllByRecursion (NamesRegisters n) x.instrs = named_block n bs b x named here in
    let behind : Has n u (through x.instrs (facts_in t)) = subst (λ (m : ℕ). Has m u (through x.instrs (facts_in t))) (same ∙ g.size) has in
    let folds : y ≡ folded_block (facts_at (bare k bs) b) x = is
    ∙ ap (λ (e1 : End). let z : Block = record { instrs = x.instrs; end = e1 } in z)
    (folded_same n x.end (facts_in u) (through x.instrs (facts_at (bare k bs) b)) (end_block n bs b x reads here)
    (end_as n k bs b x f t within mine here c.follows starts u behind)) in
    record {
      changed = change_next folded_block n k bs b x y f f2 now lt here again folds
          (follows_next n k bs b x f t within mine here c.follows starts u behind f1 f2 e left) c;
      size = behind.size;
    }

reads_end : (n : ℕ) (value : Bool) (blocks b : ℕ) (e : End) → IsValidEnd n value blocks b e → ReadsRegister n e
reads_end n value blocks b (ends.Jump t) h = tt
reads_end n value blocks b (ends.Branch r t u) h = h.0
reads_end n value blocks b (ends.Loop t) h = tt
reads_end n value blocks b (ends.Return r) h = h.0
reads_end n value blocks b (ends.Exit r) h = h

reads_ends : (rows : List ShapeRow) (r : RoutineParts) (b : ℕ) (xs : List Block) → AreValidBlocks rows r b xs → EndsRead r.regs xs
reads_ends rows r b [] h = tt
reads_ends rows r b (x ∷ xs) h = (reads_end r.regs r.value (length r.blocks) b x.end h.1, reads_ends rows r (b + 1) xs h.2)

pub ends_as : (r : RoutineParts) (n : ℕ) (items was : List Block) → IsValidRoutine r → n ≡ r.regs → was ≡ items → items ≡ r.blocks → EndsRead n was
ends_as r n items was h regs same is =
    subst (λ (m : ℕ). EndsRead m was) (sym regs) (subst (EndsRead r.regs) (sym (same ∙ is)) (reads_ends h.0 r 0 r.blocks h.1.blocks))
