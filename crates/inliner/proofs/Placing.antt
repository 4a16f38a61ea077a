-- Where the code finds a site, the definition finds it, and where it finds none there is none.
use Rattle.std.proofs.Common.{◌≡◌, ℕ, suc, ◌+◌, ◌-◌, ◌≤◌, ◌<◌, List, [], ◌∷◌, ◌++◌, Bool, refl, ap, subst, sym, ◌∙◌, arith, length, le-ltb, get_or}
use Rattle.std.proofs.Common.{slice_get, inl, inr}
use Rattle.std.specs.Prelude.{◌⊎◌, Option, Some, None, if◌then◌else◌}
use Rattle.std.proofs.lemmas.List.{length-append}
use Rattle.std.proofs.lemmas.Option.{none-some, same_Some, slice_get_cases}
use Rattle.il_core.specs.declared.instr.Block.{Block}
use Rattle.il_core.specs.declared.instr.End.{End}
use Rattle.il_core.specs.declared.instr.Instr.{Instr}
use Rattle.il_core.specs.Meaning.{sites_in, sites_of}
use Rattle.il_laws.specs.Sites.{callees, callees_in}
use Rattle.il_laws.specs.Splice.{Cut, Site, site_at}
use Rattle.il_laws.proofs.SpliceSites.{sites_before, site_is, callees_count, calls_site}
use Rattle.inliner.specs.Places.{call_place, in_block, site_place, uncut, IsAt}
use Rattle.inliner.specs.declared.place.Place.{Place}

-- behind all calls of instructions there is none
none_place : (i m : ℕ) (is : List Instr) → call_place i (sites_of is + m) is ≡ None
none_place i m [] = refl
none_place i m (x ∷ xs) =
    let k = (sites_in x + sites_of xs) + m in
    let less : k - sites_in x ≡ sites_of xs + m = omega arith in
    ap (λ (b : Bool). if b then Some i else call_place (suc i) (k - sites_in x) xs) (le-ltb k (sites_in x) (omega arith))
    ∙ ap (λ (n : ℕ). call_place (suc i) n xs) less ∙ none_place (suc i) m xs

-- the place of a call
here_place : (i : ℕ) (is : List Instr) (c : Cut) → call_place i (sites_of is) (is ++ uncut (record c { before = [] })) ≡ Some (i + length is)
here_place i [] c = ap (λ (n : ℕ). Some n) (let e : i ≡ i + 0 = omega arith in e)
here_place i (x ∷ xs) c =
    let k = sites_in x + sites_of xs in
    let rest = xs ++ uncut (record c { before = [] }) in
    let less : k - sites_in x ≡ sites_of xs = omega arith in
    let more : suc i + length xs ≡ i + suc (length xs) = omega arith in
    ap (λ (b : Bool). if b then Some i else call_place (suc i) (k - sites_in x) rest) (le-ltb k (sites_in x) (omega arith))
    ∙ ap (λ (n : ℕ). call_place (suc i) n rest) less ∙ here_place (suc i) xs c ∙ ap (λ (n : ℕ). Some n) more

-- a block whose calls are all before the one that is sought
passed_block : (b k m : ℕ) (x : Block) (xs : List Block) → k ≡ sites_of x.instrs + m → site_place b k (x ∷ xs) ≡ site_place (suc b) m xs
passed_block b k m x xs e =
    let less : k - sites_of x.instrs ≡ m = omega arith in
    ap (λ (o : Option ℕ). in_block b o (site_place (suc b) (k - sites_of x.instrs) xs)) (ap (λ (n : ℕ). call_place 0 n x.instrs) e ∙ none_place 0 m x.instrs)
    ∙ ap (λ (n : ℕ). site_place (suc b) n xs) less

none_site : (b m : ℕ) (xs : List Block) → site_place b (sites_before xs + m) xs ≡ None
none_site b m [] = refl
none_site b m (x ∷ xs) =
    passed_block b ((sites_of x.instrs + sites_before xs) + m) (sites_before xs + m) x xs (omega arith) ∙ none_site (suc b) m xs

here_site : (b : ℕ) (c : Cut) (e : End) (xs ys : List Block)
    → site_place b (sites_before xs + sites_of c.before) (xs ++ record { instrs = uncut c; end = e } ∷ ys)
    ≡ Some (record { block = b + length xs; instr = length c.before })
here_site b c e [] ys =
    let x : Block = record { instrs = uncut c; end = e } in
    let none : sites_before [] + sites_of c.before ≡ sites_of c.before = omega arith in
    let first : 0 + length c.before ≡ length c.before = omega arith in
    let same : b ≡ b + length {A = Block} [] = omega arith in
    ap (λ (n : ℕ). site_place b n (x ∷ ys)) none
    ∙ ap (λ (o : Option ℕ). in_block b o (site_place (suc b) (sites_of c.before - sites_of x.instrs) ys)) (here_place 0 c.before c)
    ∙ ap (λ (n : ℕ). Some (record { block = b; instr = n })) first
    ∙ ap (λ (n : ℕ). Some (record { block = n; instr = length c.before })) same
here_site b c e (x ∷ xs) ys =
    let more : suc b + length xs ≡ b + suc (length xs) = omega arith in
    passed_block b ((sites_of x.instrs + sites_before xs) + sites_of c.before) (sites_before xs + sites_of c.before) x
    (xs ++ record { instrs = uncut c; end = e } ∷ ys) (omega arith)
    ∙ here_site (suc b) c e xs ys ∙ ap (λ (n : ℕ). Some (record { block = n; instr = length c.before })) more

-- the place of a site that is there
place_is : (k : ℕ) (bs : List Block) (s : Site) → site_at k bs ≡ Some s
    → site_place 0 k bs ≡ Some (record { block = length s.earlier; instr = length s.cut.before })
place_is k bs s e =
    let is = site_is k bs s e in
    ap (λ (n : ℕ). site_place 0 n bs) is.number
    ∙ ap (λ (xs : List Block). site_place 0 (sites_before s.earlier + sites_of s.cut.before) xs) is.blocks
    ∙ here_site 0 s.cut s.end s.earlier s.later
    ∙ ap (λ (n : ℕ). Some (record { block = n; instr = length s.cut.before })) (let e0 : 0 + length s.earlier ≡ length s.earlier = omega arith in e0)

all_count : (bs : List Block) → length (callees bs) ≡ sites_before bs
all_count [] = refl
all_count (x ∷ xs) =
    let both = length-append (callees_in x.instrs) (callees xs) in
    let one = callees_count x.instrs in
    let rest = all_count xs in
    omega arith

-- no site, no place
no_place : (k : ℕ) (bs : List Block) → site_at k bs ≡ None → site_place 0 k bs ≡ None
no_place k bs e = by (slice_get_cases (callees bs) k).1
  where
    by : ((x : ℕ) × (k < length (callees bs)) × (slice_get (callees bs) k ≡ Some x) × (get_or (callees bs) k x ≡ x)) ⊎
        ((length (callees bs) ≤ k) × (slice_get (callees bs) k ≡ None))
        → site_place 0 k bs ≡ None
    by (inl h) = let c = calls_site bs k h.0 h.2 in absurd (none-some c.site (sym e ∙ c.is))
    by (inr h) =
        let le = h.0 in
        let count = all_count bs in
        let whole : k ≡ sites_before bs + (k - sites_before bs) = omega arith in
        ap (λ (n : ℕ). site_place 0 n bs) whole ∙ none_site 0 (k - sites_before bs) bs

-- no place, no site
pub no_site : (k : ℕ) (bs : List Block) (o : Option Site) → site_at k bs ≡ o → site_place 0 k bs ≡ None → site_at k bs ≡ None
no_site k bs None e h = e
no_site k bs (Some s) e h = absurd (none-some _ (sym h ∙ place_is k bs s e))

-- a place, and the site there
pub record Found (k : ℕ) (bs : List Block) (place : Place) : Type 0 where
  pub site : Site
  pub is : site_at k bs ≡ Some site
  pub at : IsAt place bs site

pub found : (k : ℕ) (bs : List Block) (o : Option Site) (place : Place) → site_at k bs ≡ o → site_place 0 k bs ≡ Some place → Found k bs place
found k bs None place e h = absurd (none-some place (sym (no_place k bs e) ∙ h))
found k bs (Some s) place e h =
    let here : Place = record { block = length s.earlier; instr = length s.cut.before } in
    record {
      site = s;
      is = e;
      at = subst (λ (p : Place). IsAt p bs s) (same_Some here place (sym (place_is k bs s e) ∙ h))
          (record { blocks = (site_is k bs s e).blocks; block = refl; instr = refl });
    }
