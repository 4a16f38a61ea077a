-- How large a routine is after a splice.
use Rattle.std.proofs.Common.{◌≡◌, ℕ, suc, ◌+◌, List, [], ◌∷◌, ◌++◌, map, Bool, true, false, refl, ap, ap₂, sym, ◌∙◌, arith, length, sum, slice_get}
use Rattle.std.specs.Prelude.{Option, Some, None}
use Rattle.std.specs.List.{AllByRecursion}
use Rattle.std.proofs.lemmas.List.{length-map, length-append}
use Rattle.std.proofs.lemmas.List.Sums.{sum_by-append, sum_by-cons}
use Rattle.il_core.specs.declared.instr.Block.{Block}
use Rattle.il_core.specs.declared.instr.End.{End}
use Rattle.il_core.specs.declared.instr.End.TheVariants as ends
use Rattle.il_core.specs.declared.program.IlProgram.{IlProgram}
use Rattle.il_core.specs.declared.shape.ShapeRow.{ShapeRow}
use Rattle.il_core.specs.Program.{routine_at}
use Rattle.il_core.specs.Routine.{RoutineParts}
use Rattle.il_core.specs.Size.{block_size, blocks_size, size}
use Rattle.il_core.specs.Valid.{IsProgram, IsValid, IsValidEnd, AreValidBlocks, is_wanted}
use Rattle.il_core.specs.Operands.{Names, renamed, retargeted}
use Rattle.il_laws.specs.Inline.{SiteBody, IsFalling}
use Rattle.il_laws.specs.Sites.{callees}
use Rattle.il_laws.specs.Splice.{Site, site_at, moved, moved_block, passed, handed, copied_end, copied, spliced, splice, value_return, value_returns}
use Rattle.il_laws.specs.SpliceLaws.{ServesSite, added_size, InlinedSizes}
use Rattle.il_core.proofs.Programs.{routine_valid}
use Rattle.il_laws.proofs.Serving.{serves_itself}
use Rattle.il_laws.proofs.SpliceBlocks as at
use Rattle.il_laws.proofs.SpliceSites.{calls_site, site_is}
use Rattle.il_laws.proofs.SpliceServes.{body_fits, splice_serves, still_serve}

moved_size : (b n : ℕ) (xs : List Block) → blocks_size (map (moved_block b n) xs) ≡ blocks_size xs
moved_size b n [] = refl
moved_size b n (x ∷ xs) =
    sum_by-cons block_size (moved_block b n x) (map (moved_block b n) xs)
    ∙ ap (λ (k : ℕ). block_size x + k) (moved_size b n xs) ∙ sym (sum_by-cons block_size x xs)

passed_size : (d : ℕ) (args : List ℕ) → length (passed d args) ≡ length args
passed_size d [] = refl
passed_size d (a ∷ args) = ap suc (passed_size (suc d) args)

-- the moves that returns become
abbrev handed_size : Names → Option ℕ → List Block → ℕ
handed_size m dest [] = 0
handed_size m dest (x ∷ xs) = length (handed m x.end dest) + handed_size m dest xs

copied_size : (m : Names) (dest : Option ℕ) (first rest : ℕ) (xs : List Block)
    → blocks_size (map (copied m dest first rest) xs) ≡ blocks_size xs + handed_size m dest xs
copied_size m dest first rest [] = refl
copied_size m dest first rest (x ∷ xs) =
    let head = sum_by-cons block_size (copied m dest first rest x) (map (copied m dest first rest) xs) in
    let tail = copied_size m dest first rest xs in
    let old = sum_by-cons block_size x xs in
    let both = length-append (map (renamed m) x.instrs) (handed m x.end dest) in
    let one = length-map x.instrs (renamed m) in
    omega arith

-- a valid callee hands over exactly the values that are wanted
one_handed : (m : Names) (regs : ℕ) (value : Bool) (blocks b : ℕ) (e : End) (dest : Option ℕ) → IsValidEnd regs value blocks b e
    → value ≡ is_wanted dest → length (handed m e dest) ≡ value_return e
one_handed m regs value blocks b (ends.Return (Some x)) (Some d) h w = refl
one_handed m regs value blocks b (ends.Return (Some x)) None h w = let bad : true ≡ false = sym h.1 ∙ w in absurd cc
one_handed m regs value blocks b (ends.Return None) dest h w = refl
one_handed m regs value blocks b (ends.Jump t) dest h w = refl
one_handed m regs value blocks b (ends.Branch r t u) dest h w = refl
one_handed m regs value blocks b (ends.Loop t) dest h w = refl
one_handed m regs value blocks b (ends.Exit r) dest h w = refl

all_handed : (rows : List ShapeRow) (m : Names) (q : RoutineParts) (dest : Option ℕ) (b : ℕ) (xs : List Block) → AreValidBlocks rows q b xs
    → q.value ≡ is_wanted dest → handed_size m dest xs ≡ value_returns xs
all_handed rows m q dest b [] h w = refl
all_handed rows m q dest b (x ∷ xs) h w =
    ap₂ {A = ℕ} {B = ℕ} {C = ℕ} (λ k l. k + l) (one_handed m q.regs q.value (length q.blocks) b x.end dest h.1 w)
    (all_handed rows m q dest (b + 1) xs h.2 w)

pub spliced_size : (rows : List ShapeRow) (r q : RoutineParts) (s : Site) → at.Fits rows r q s
    → size (spliced r q (Some s)) ≡ size r + added_size q
spliced_size rows r q s fits =
    let b = at.at rows r q s fits in
    let n = at.many rows r q s fits in
    let m = at.names rows r q s fits in
    let first = at.first_block rows r q s fits in
    let rest = at.rest_block rows r q s fits in
    let copies = map (copied m s.cut.dest (suc b) (at.rest rows r q s fits)) q.blocks in
    let early = map (moved_block b n) s.earlier in
    let late = map (moved_block b n) s.later in
    let n1 = sum_by-append block_size early (first ∷ (copies ++ rest ∷ late)) in
    let n2 = sum_by-cons block_size first (copies ++ rest ∷ late) in
    let n3 = sum_by-append block_size copies (rest ∷ late) in
    let n4 = sum_by-cons block_size rest late in
    let n5 = moved_size b n s.earlier in
    let n6 = moved_size b n s.later in
    let n7 = copied_size m s.cut.dest (suc b) (at.rest rows r q s fits) q.blocks in
    let n8 = all_handed rows m q s.cut.dest 0 q.blocks fits.valid_q.blocks fits.wanted in
    let n9 = length-append s.cut.before (at.entry rows r q s fits) in
    let n10 = passed_size r.regs s.cut.args in
    let args = fits.args in
    let o1 = sum_by-append block_size s.earlier (at.site_block s ∷ s.later) in
    let o2 = sum_by-cons block_size (at.site_block s) s.later in
    let o3 = length-append s.cut.before (at.call_of s.cut ∷ s.cut.after) in
    let o4 : size r ≡ blocks_size (at.blocks_with s) = ap blocks_size fits.blocks in
    omega arith

-- the callee's returns become jumps, and the caller's stay
returns_append : (xs ys : List Block) → value_returns (xs ++ ys) ≡ value_returns xs + value_returns ys
returns_append [] ys = omega arith
returns_append (x ∷ xs) ys = let rest = returns_append xs ys in omega arith

return_moved : (to : ℕ → ℕ) (e : End) → value_return (retargeted to e) ≡ value_return e
return_moved to (ends.Jump t) = refl
return_moved to (ends.Branch r t u) = refl
return_moved to (ends.Loop t) = refl
return_moved to (ends.Return r) = refl
return_moved to (ends.Exit r) = refl

returns_moved : (b n : ℕ) (xs : List Block) → value_returns (map (moved_block b n) xs) ≡ value_returns xs
returns_moved b n [] = refl
returns_moved b n (x ∷ xs) = ap₂ {A = ℕ} {B = ℕ} {C = ℕ} (λ k l. k + l) (return_moved (moved b n) x.end) (returns_moved b n xs)

return_copied : (m : Names) (first rest : ℕ) (e : End) → value_return (copied_end m first rest e) ≡ 0
return_copied m first rest (ends.Jump t) = refl
return_copied m first rest (ends.Branch r t u) = refl
return_copied m first rest (ends.Loop t) = refl
return_copied m first rest (ends.Return r) = refl
return_copied m first rest (ends.Exit r) = refl

returns_copied : (m : Names) (dest : Option ℕ) (first rest : ℕ) (xs : List Block) → value_returns (map (copied m dest first rest) xs) ≡ 0
returns_copied m dest first rest [] = refl
returns_copied m dest first rest (x ∷ xs) =
    ap₂ {A = ℕ} {B = ℕ} {C = ℕ} (λ k l. k + l) (return_copied m first rest x.end) (returns_copied m dest first rest xs)

spliced_returns : (rows : List ShapeRow) (r q : RoutineParts) (s : Site) → at.Fits rows r q s
    → value_returns (spliced r q (Some s)).blocks ≡ value_returns r.blocks
spliced_returns rows r q s fits =
    let b = at.at rows r q s fits in
    let n = at.many rows r q s fits in
    let m = at.names rows r q s fits in
    let first = at.first_block rows r q s fits in
    let rest = at.rest_block rows r q s fits in
    let copies = map (copied m s.cut.dest (suc b) (at.rest rows r q s fits)) q.blocks in
    let early = map (moved_block b n) s.earlier in
    let late = map (moved_block b n) s.later in
    let n1 = returns_append early (first ∷ (copies ++ rest ∷ late)) in
    let n2 = returns_append copies (rest ∷ late) in
    let n3 = returns_moved b n s.earlier in
    let n4 = returns_moved b n s.later in
    let n5 = returns_copied m s.cut.dest (suc b) (at.rest rows r q s fits) q.blocks in
    let n6 = return_moved (moved b n) s.end in
    let old = returns_append s.earlier (at.site_block s ∷ s.later) in
    let was : value_returns r.blocks ≡ value_returns (at.blocks_with s) = ap value_returns fits.blocks in
    omega arith

module _ (p : IlProgram) (valid : IsProgram p) where
  serving_returns : (r q : RoutineParts) (k : ℕ) → IsValid p.shapes r → (a : ServesSite p r (record { site = k; body = q }))
      → value_returns (splice r k q).blocks ≡ value_returns r.blocks
  serving_returns r q k ok a =
      let c = calls_site r.blocks k a.callee a.calls in
      let there = ap (λ (x : ℕ). routine_at p.routines x) c.callee_is ∙ a.is in
      let fits = body_fits p valid r a.origin q c.site ok (site_is k r.blocks c.site c.is).blocks there a.serves in
      ap (λ (o : Option Site). value_returns (spliced r q o).blocks) c.is ∙ spliced_returns p.shapes r q c.site fits

  serving_size : (r q0 q : RoutineParts) (k callee : ℕ) → IsValid p.shapes r → slice_get (callees r.blocks) k ≡ Some callee
      → (a : ServesSite p r (record { site = k; body = q })) → size (splice r k q) ≡ size r + added_size q
  serving_size r q0 q k callee ok at a =
      let c = calls_site r.blocks k a.callee a.calls in
      let there = ap (λ (x : ℕ). routine_at p.routines x) c.callee_is ∙ a.is in
      let fits = body_fits p valid r a.origin q c.site ok (site_is k r.blocks c.site c.is).blocks there a.serves in
      ap (λ (o : Option Site). size (spliced r q o)) c.is ∙ spliced_size p.shapes r q c.site fits

  pub splice_size : (x k callee : ℕ) (r q : RoutineParts) → routine_at p.routines x ≡ Some r → slice_get (callees r.blocks) k ≡ Some callee
      → routine_at p.routines callee ≡ Some q → size (splice r k q) ≡ size r + added_size q
  splice_size x k callee r q er at eq =
      let itself = serves_itself p q (routine_valid p valid callee q eq) in
      serving_size r q q k callee (routine_valid p valid x r er) at (record { callee = callee; calls = at; origin = q; is = eq; serves = itself })

  -- registers, arrays and elements of one splice
  splice_regs : (r q : RoutineParts) (k : ℕ) (s : Site) → site_at k r.blocks ≡ Some s → (splice r k q).regs ≡ r.regs + q.regs
  splice_regs r q k s e = ap (λ (o : Option Site). (spliced r q o).regs) e

  splice_arrays : (r q : RoutineParts) (k : ℕ) (s : Site) → site_at k r.blocks ≡ Some s → (splice r k q).arrays ≡ r.arrays ++ q.arrays
  splice_arrays r q k s e = ap (λ (o : Option Site). (spliced r q o).arrays) e

  pub inlined_sizes : (r : RoutineParts) (bodies : List SiteBody) → IsValid p.shapes r → IsFalling bodies
      → AllByRecursion (ServesSite p r) bodies → InlinedSizes r bodies
  inlined_sizes r [] ok falls h =
      record { size = omega arith; regs = omega arith; arrays = omega arith; elements = omega arith; returns = refl }
  inlined_sizes r (a ∷ bodies) ok falls h =
      let first = h.0 in
      let q = a.body in
      let r1 = splice r a.site q in
      let one = splice_serves p valid r first.origin q a.site first.callee ok first.calls first.is first.serves in
      let rest = inlined_sizes r1 bodies one.valid falls.1 (still_serve p valid r q a.site first.callee first.calls bodies falls.0 h.1) in
      let c = calls_site r.blocks a.site first.callee first.calls in
      let s1 = serving_size r first.origin q a.site first.callee ok first.calls first in
      let s2 = splice_regs r q a.site c.site c.is in
      let s3 = ap (λ (as1 : List ℕ). length as1) (splice_arrays r q a.site c.site c.is) ∙ length-append r.arrays q.arrays in
      let s4 = ap (λ (as1 : List ℕ). sum as1) (splice_arrays r q a.site c.site c.is) ∙ sum_by-append (λ (k : ℕ). k) r.arrays q.arrays in
      let t1 = sum_by-cons (λ (b : SiteBody). added_size b.body) a bodies in
      let t2 = sum_by-cons (λ (b : SiteBody). b.body.regs) a bodies in
      let t3 = sum_by-cons (λ (b : SiteBody). length b.body.arrays) a bodies in
      let t4 = sum_by-cons (λ (b : SiteBody). sum b.body.arrays) a bodies in
      let u1 = rest.size in let u2 = rest.regs in let u3 = rest.arrays in let u4 = rest.elements in
      record {
        size = omega arith;
        regs = omega arith;
        arrays = omega arith;
        elements = omega arith;
        returns = rest.returns ∙ serving_returns r q a.site ok first;
      }
