-- The instructions of clones, of retargeted routines and of routines with callees spliced into them are within the limits.
use Rattle.std.proofs.Common.{◌≡◌, ℕ, zero, suc, ◌+◌, List, [], ◌∷◌, ◌++◌, map, Bool, true, false, refl, ap, subst, arith, length}
use Rattle.std.specs.Prelude.{nat_eq, if◌then◌else◌, Option, Some, None}
use Rattle.std.specs.List.{AllByRecursion}
use Rattle.il_core.specs.declared.instr.Block.{Block}
use Rattle.il_core.specs.declared.instr.End.{End}
use Rattle.il_core.specs.declared.instr.End.TheVariants as ends
use Rattle.il_core.specs.declared.instr.Instr.{Instr}
use Rattle.il_core.specs.declared.instr.Instr.TheVariants.{Const, Move, Conv, Bin, Get, Set, GetX, SetX, GetA, SetA, Clear, Turn, Call, GetChar, PutChar}
use Rattle.il_core.specs.Limits.{IsPid, IsInstr, IsBlock}
use Rattle.il_core.specs.Meaning.{sites_in, sites_of}
use Rattle.il_core.specs.Operands.{Names, renamed, retargeted_block}
use Rattle.il_core.specs.Program.{routine_at}
use Rattle.il_core.specs.Routine.{RoutineParts}
use Rattle.il_core.specs.World.{each}
use Rattle.il_laws.specs.Clone.{Fixed, constants, clone_blocks}
use Rattle.il_laws.specs.Inline.{SiteBody, inlined}
use Rattle.il_laws.specs.Known.{known_sites}
use Rattle.il_laws.specs.Retarget.{SiteMove, callee_at, retarget_instr, retarget_instrs, retarget_blocks}
use Rattle.il_laws.specs.Splice.{Site, site_at, moved, moved_block, passed, handed, copied, raised, entering, resuming, copies, spliced, splice}
use Rattle.il_core.proofs.Found.{found_all}
use Rattle.il_laws.proofs.SpliceBlocks.{call_of, site_block, all_front, all_rest, all_append}
use Rattle.il_laws.proofs.SpliceSites.{site_is}
use Rattle.plan_laws.specs.Numbers.{Choice, InlineSite, inline_sites}
use Rattle.plan_laws.specs.Inlining.{body_for, bodies, inlined_by}

abbrev pub AreWithin : List Block → Type 0
AreWithin bs = AllByRecursion IsBlock bs

-- clones
constants_within : (fixed : List Fixed) → AllByRecursion IsInstr (constants fixed)
constants_within [] = tt
constants_within (x ∷ xs) = (tt, constants_within xs)

moved_within : (to : ℕ → ℕ) (xs : List Block) → AreWithin xs → AreWithin (map (retargeted_block to) xs)
moved_within to [] h = tt
moved_within to (x ∷ xs) h = (h.0, moved_within to xs h.1)

pub clone_within : (b : Bool) (fixed : List Fixed) (xs : List Block) → AreWithin xs → AreWithin (clone_blocks b fixed xs)
clone_within true fixed [] h = tt
clone_within false fixed [] h = tt
clone_within true fixed (x ∷ xs) h = (constants_within fixed, moved_within suc (x ∷ xs) h)
clone_within false fixed (x ∷ xs) h = (all_append IsInstr (constants fixed) x.instrs (constants_within fixed) h.0, h.1)

-- retargeted calls
abbrev pub ArePids : List SiteMove → Type 0
ArePids ms = AllByRecursion (λ m. IsPid m.callee) ms

pid_if : (b : Bool) (x y : ℕ) → IsPid x → IsPid y → IsPid (if b then x else y)
pid_if true x y h g = h
pid_if false x y h g = g

callee_within : (ms : List SiteMove) (k callee : ℕ) → ArePids ms → IsPid callee → IsPid (callee_at ms k callee)
callee_within [] k callee h g = g
callee_within (m ∷ ms) k callee h g =
    pid_if (nat_eq m.site k) m.callee (callee_at ms k callee) h.0 (callee_within ms k callee h.1 g)

instr_within : (ms : List SiteMove) (k : ℕ) (i : Instr) → ArePids ms → IsInstr i → IsInstr (retarget_instr ms k i)
instr_within ms k (Call dest callee count args) h g = (callee_within ms k callee h g.0, g.1)
instr_within ms k (Const d v) h g = g
instr_within ms k (Move d s) h g = g
instr_within ms k (Conv d t s) h g = g
instr_within ms k (Bin o d a b) h g = g
instr_within ms k (Get d x) h g = g
instr_within ms k (Set x s) h g = g
instr_within ms k (GetX d x i) h g = g
instr_within ms k (SetX x i s) h g = g
instr_within ms k (GetA d a i) h g = g
instr_within ms k (SetA a i s) h g = g
instr_within ms k (Clear r c a l) h g = g
instr_within ms k Turn h g = g
instr_within ms k (GetChar d) h g = g
instr_within ms k (PutChar d s) h g = g

instrs_within : (ms : List SiteMove) (k : ℕ) (is : List Instr) → ArePids ms → AllByRecursion IsInstr is → AllByRecursion IsInstr (retarget_instrs ms k is)
instrs_within ms k [] h g = tt
instrs_within ms k (i ∷ is) h g = (instr_within ms k i h g.0, instrs_within ms (sites_in i + k) is h g.1)

pub retarget_within : (ms : List SiteMove) (k : ℕ) (xs : List Block) → ArePids ms → AreWithin xs → AreWithin (retarget_blocks ms k xs)
retarget_within ms k [] h g = tt
retarget_within ms k (x ∷ xs) h g = (instrs_within ms k x.instrs h g.0, retarget_within ms (sites_of x.instrs + k) xs h g.1)

-- spliced callees
each_length : (f : ℕ → ℕ) (xs : List ℕ) → length (each f xs) ≡ length xs
each_length f [] = refl
each_length f (x ∷ xs) = ap suc (each_length f xs)

module _ (r a site entry : ℕ) where
  abbrev m : Names
  m = raised r a site entry

  renamed_within : (i : Instr) → IsInstr i → IsInstr (renamed m i)
  renamed_within (Call dest callee count args) h = (h.0, (let same = each_length (λ x. r + x) args in let le = h.1 in omega arith))
  renamed_within (Const d v) h = h
  renamed_within (Move d s) h = h
  renamed_within (Conv d t s) h = h
  renamed_within (Bin o d a b) h = h
  renamed_within (Get d x) h = h
  renamed_within (Set x s) h = h
  renamed_within (GetX d x i) h = h
  renamed_within (SetX x i s) h = h
  renamed_within (GetA d a i) h = h
  renamed_within (SetA a i s) h = h
  renamed_within (Clear r c a l) h = h
  renamed_within Turn h = h
  renamed_within (GetChar d) h = h
  renamed_within (PutChar d s) h = h

  all_renamed : (is : List Instr) → AllByRecursion IsInstr is → AllByRecursion IsInstr (map (renamed m) is)
  all_renamed [] h = tt
  all_renamed (i ∷ is) h = (renamed_within i h.0, all_renamed is h.1)

  handed_within : (e : End) (dest : Option ℕ) → AllByRecursion IsInstr (handed m e dest)
  handed_within (ends.Return (Some x)) (Some d) = (tt, tt)
  handed_within (ends.Return (Some x)) None = tt
  handed_within (ends.Return None) dest = tt
  handed_within (ends.Jump t) dest = tt
  handed_within (ends.Branch x t u) dest = tt
  handed_within (ends.Loop t) dest = tt
  handed_within (ends.Exit x) dest = tt

  copied_within : (dest : Option ℕ) (first rest : ℕ) (xs : List Block) → AreWithin xs → AreWithin (map (copied m dest first rest) xs)
  copied_within dest first rest [] h = tt
  copied_within dest first rest (x ∷ xs) h = (
    all_append IsInstr (map (renamed m) x.instrs) (handed m x.end dest) (all_renamed x.instrs h.0) (handed_within x.end dest),
    copied_within dest first rest xs h.1,
  )

passed_within : (r : ℕ) (args : List ℕ) → AllByRecursion IsInstr (passed r args)
passed_within r [] = tt
passed_within r (a ∷ args) = (tt, passed_within (suc r) args)

spliced_within : (r q : RoutineParts) (k : ℕ) (o : Option Site) → site_at k r.blocks ≡ o → AreWithin r.blocks → AreWithin q.blocks
    → AreWithin (spliced r q o).blocks
spliced_within r q k None e h g = h
spliced_within r q k (Some s) e h g =
    let b = length s.earlier in
    let n = length q.blocks in
    let all = subst AreWithin (site_is k r.blocks s e).blocks h in
    let earlier = all_front IsBlock s.earlier (site_block s ∷ s.later) all in
    let rest = all_rest IsBlock s.earlier (site_block s ∷ s.later) all in
    let before = all_front IsInstr s.cut.before (call_of s.cut ∷ s.cut.after) rest.0 in
    let after = (all_rest IsInstr s.cut.before (call_of s.cut ∷ s.cut.after) rest.0).1 in
    let enter = all_append IsInstr s.cut.before (Turn ∷ Clear r.regs q.regs (length r.arrays) (length q.arrays) ∷ passed r.regs s.cut.args) before
    (tt, (tt, passed_within r.regs s.cut.args)) in
    let copy = copied_within r.regs (length r.arrays) s.cut.count q.entry s.cut.dest (suc b) (suc b + n) q.blocks g in
    all_append IsBlock (map (moved_block b n) s.earlier)
    (entering r.regs (length r.arrays) s q ∷ (copies r.regs (length r.arrays) s q ++ resuming s n ∷ map (moved_block b n) s.later))
    (moved_within (moved b n) s.earlier earlier) (
      enter,
      all_append IsBlock (copies r.regs (length r.arrays) s q) (resuming s n ∷ map (moved_block b n) s.later) copy
          (after, moved_within (moved b n) s.later rest.1),
    )

abbrev BodyWithin : SiteBody → Type 0
BodyWithin b = AreWithin b.body.blocks

inlined_within : (r : RoutineParts) (xs : List SiteBody) → AreWithin r.blocks → AllByRecursion BodyWithin xs → AreWithin (inlined r xs).blocks
inlined_within r [] h g = h
inlined_within r (a ∷ rest) h g =
    inlined_within (splice r a.site a.body) rest (spliced_within r a.body a.site (site_at a.site r.blocks) refl h g.0) g.1

-- routines with their accepted callees
module _ (rs : List RoutineParts) (all : AllByRecursion (λ r. AreWithin r.blocks) rs) where
  body_within : (f : RoutineParts → RoutineParts) → ((q : RoutineParts) → AreWithin q.blocks → AreWithin (f q).blocks) → (k x : ℕ)
      (o : Option RoutineParts) → routine_at rs x ≡ o → (xs : List SiteBody) → AllByRecursion BodyWithin xs → AllByRecursion BodyWithin (body_for f k o xs)
  body_within f h k x None e xs g = g
  body_within f h k x (Some q) e xs g = (h q (found_all (λ r. r.pid) (λ r. AreWithin r.blocks) x rs q all e).0, g)

  bodies_within : (f : RoutineParts → RoutineParts) → ((q : RoutineParts) → AreWithin q.blocks → AreWithin (f q).blocks) → (xs : List InlineSite)
      → AllByRecursion BodyWithin (bodies f rs xs)
  bodies_within f h [] = tt
  bodies_within f h (x ∷ xs) = body_within f h x.site x.callee (routine_at rs x.callee) refl (bodies f rs xs) (bodies_within f h xs)

  pub by_within : (cs : List Choice) (n : ℕ) (r : RoutineParts) → AreWithin r.blocks → AreWithin (inlined_by rs cs n r).blocks
  by_within cs zero r h = h
  by_within cs (suc n) r h =
      let sites = inline_sites cs r.pid (known_sites r) in
      inlined_within r (bodies (inlined_by rs cs n) rs sites) h (bodies_within (inlined_by rs cs n) (λ q g. by_within cs n q g) sites)
