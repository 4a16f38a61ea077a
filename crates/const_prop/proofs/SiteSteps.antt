-- A loop over the calls of a routine.
use Rattle.std.proofs.Common.{◌≡◌, ℕ, suc, ◌+◌, ◌<◌, ◌≤◌, List, [], ◌∷◌, ◌++◌, get_or, drop, length, map, refl, ap, subst, sym, ◌∙◌, arith, append_assoc}
use Rattle.std.specs.Prelude.{Option}
use Rattle.std.specs.List.{AllByRecursion}
use Rattle.std.proofs.lemmas.List.{drop_all, append-nil, map-append}
use Rattle.il_core.specs.declared.instr.Block.{Block}
use Rattle.il_core.specs.declared.instr.Instr.{Instr}
use Rattle.il_core.specs.declared.instr.Instr.TheVariants.{Const, Move, Conv, Bin, Get, Set, GetX, SetX, GetA, SetA, Clear, Turn, Call, GetChar, PutChar}
use Rattle.il_core.specs.Routine.{RoutineParts}
use Rattle.hlo_num.specs.declared.word.Word.{Word}
use Rattle.il_laws.specs.Facts.{Facts, after, through, facts_at}
use Rattle.il_laws.specs.Known.{KnownSite, site_of, known_in, known_from}
use Rattle.const_prop.specs.Tables.{NamesRegisters, AreNamed, facts_in, Has}
use Rattle.const_prop.specs.Flow.{Entered, Left, Follows, Starts, bare}
use Rattle.const_prop.specs.Sites.{words_of}
use Rattle.const_prop.specs.declared.flow.Flow.{Flow}
use Rattle.list_laws.proofs.Elements.{drop_read}
use Rattle.const_prop.proofs.Through.{Agree, Passing, after_same, named_at, pass_step}
use Rattle.const_prop.proofs.BlockSteps.{named_block, starts_as, follows_next}
use Rattle.const_prop.proofs.Exposed.{known_by}
use Rattle.const_prop.proofs.Following.{bare_facts}

args_same : (n : ℕ) (fs gs : Facts) (args : List ℕ) → AllByRecursion (λ x. x < n) args → Agree n fs gs → map fs args ≡ map gs args
args_same n fs gs [] m h = refl
args_same n fs gs (a ∷ args) m h = ap (λ (o : Option ℕ). o ∷ map fs args) (h.at a m.0) ∙ ap (λ (os : List (Option ℕ)). gs a ∷ os) (args_same n fs gs args m.1 h)

site_same : (n : ℕ) (i : Instr) (fs gs : Facts) → NamesRegisters n i → Agree n fs gs → site_of fs i ≡ site_of gs i
site_same n (Const d w) fs gs m h = refl
site_same n (Move d s) fs gs m h = refl
site_same n (Conv d t s) fs gs m h = refl
site_same n (Bin o d a b) fs gs m h = refl
site_same n (Get d g) fs gs m h = refl
site_same n (Set g s) fs gs m h = refl
site_same n (GetX d g i) fs gs m h = refl
site_same n (SetX g i s) fs gs m h = refl
site_same n (GetA d a i) fs gs m h = refl
site_same n (SetA a i s) fs gs m h = refl
site_same n (Clear r c a k) fs gs m h = refl
site_same n Turn fs gs m h = refl
site_same n (Call dest p count args) fs gs m h =
    ap (λ (os : List (Option ℕ)). let s : KnownSite = record { callee = p; count = count; known = os } in s ∷ []) (args_same n fs gs args m.1 h)
site_same n (GetChar d) fs gs m h = refl
site_same n (PutChar d s) fs gs m h = refl

known_same : (n : ℕ) (is : List Instr) (fs gs : Facts) → AllByRecursion (NamesRegisters n) is → Agree n fs gs → known_in fs is ≡ known_in gs is
known_same n [] fs gs m h = refl
known_same n (i ∷ is) fs gs m h =
    ap (λ (ss : List KnownSite). ss ++ known_in (after i fs) is) (site_same n i fs gs m.0 h)
    ∙ ap (λ (ss : List KnownSite). site_of gs i ++ ss) (known_same n is (after i fs) (after i gs) m.1 (after_same n i fs gs m.0 h))

abbrev pub words_in : List KnownSite → List (List (Option ℕ))
words_in ss = map (λ (s : KnownSite). s.known) ss

-- what is put down, and what will be, is what is known in all
pub record Putting (start : List (Option ℕ)) (is : List Instr) (before_all : List (List (Option Word))) (k : ℕ) (t : List (Option ℕ))
    (now : List (List (Option Word))) : Type 0 where
  pub passing : Passing (length start) is start k t
  pub whole : words_of now ++ words_in (known_in (facts_in t) (drop k is)) ≡ words_of before_all ++ words_in (known_in (facts_in start) is)

pub put_step : (start : List (Option ℕ)) (is : List Instr) (was : List (List (Option Word))) (k : ℕ) (i : Instr) (t u : List (Option ℕ))
    (now new : List (List (Option Word)))
    → AllByRecursion (NamesRegisters (length start)) is → k < length is → i ≡ get_or is k i → words_of new ≡ words_of now ++ words_in (site_of (facts_in t) i)
    → Has (length t) u (after i (facts_in t)) → Putting start is was k t now → Putting start is was (k + 1) u new
put_step start is was k i t u now new named lt read e h p =
    let here = drop_read is k i lt read in
    let rest = (named_at (length start) is start named k i here).1 in
    let has : Has (length start) u (after i (facts_in t)) = subst (λ (n : ℕ). Has n u (after i (facts_in t))) p.passing.size h in
    let agree : Agree (length start) (facts_in u) (after i (facts_in t)) = record { at = has.at } in
    record {
      passing = pass_step is start k i t u named lt read h p.passing;
      whole = ap (λ (ws : List (List (Option ℕ))). ws ++ words_in (known_in (facts_in u) (drop (k + 1) is))) e
          ∙ ap (λ (ss : List KnownSite). (words_of now ++ words_in (site_of (facts_in t) i)) ++ words_in ss)
          (known_same (length start) (drop (k + 1) is) (facts_in u) (after i (facts_in t)) rest agree)
          ∙ append_assoc (words_of now) (words_in (site_of (facts_in t) i)) (words_in (known_in (after i (facts_in t)) (drop (k + 1) is)))
          ∙ ap (λ (ws : List (List (Option ℕ))). words_of now ++ ws)
          (sym (map-append (λ (s : KnownSite). s.known) (site_of (facts_in t) i) (known_in (after i (facts_in t)) (drop (k + 1) is))))
          ∙ ap (λ (js : List Instr). words_of now ++ words_in (known_in (facts_in t) js)) (sym here) ∙ p.whole;
    }

pub put_done : (start : List (Option ℕ)) (is : List Instr) (was : List (List (Option Word))) (k : ℕ) (t : List (Option ℕ)) (now : List (List (Option Word)))
    → length is ≤ k
    → Putting start is was k t now → words_of now ≡ words_of was ++ words_in (known_in (facts_in start) is)
put_done start is was k t now past p =
    sym (append-nil (words_of now)) ∙ ap (λ (js : List Instr). words_of now ++ words_in (known_in (facts_in t) js)) (sym (drop_all k is past)) ∙ p.whole

-- ---- over blocks

-- behind b blocks, what is put down, and what will be, is what is known in all, and the table is as long as there are registers
pub record PuttingAll (n k : ℕ) (bs : List Block) (was : List (List (Option Word))) (b : ℕ) (f : Flow) (t : List (Option ℕ)) (now : List (List (Option Word))) :
    Type 0 where
  pub follows : Follows n k bs b f
  pub size : length t ≡ n
  pub whole : words_of now ++ words_in (known_from (bare k bs) b (drop b bs)) ≡ words_of was ++ words_in (known_from (bare k bs) 0 bs)

pub put_next : (n k : ℕ) (bs : List Block) (was : List (List (Option Word))) (b : ℕ) (x : Block) (f f1 f2 : Flow) (s t u : List (Option ℕ))
    (now new : List (List (Option Word)))
    → AreNamed n bs → b < length bs → x ≡ get_or bs b x → PuttingAll n k bs was b f s now → length t ≡ length s → Starts f b t → Entered f f1 b
    → words_of new ≡ words_of now ++ words_in (known_in (facts_in t) x.instrs) → Has (length t) u (through x.instrs (facts_in t))
    → Left x.end u f1 f2 → PuttingAll n k bs was (b + 1) f2 u new
put_next n k bs was b x f f1 f2 s t u now new named lt read p same starts e is has left =
    let here : drop b bs ≡ x ∷ drop (b + 1) bs = drop_read bs b x lt read in
    let mine : AllByRecursion (NamesRegisters n) x.instrs = named_block n bs b x named here in
    let behind : Has n u (through x.instrs (facts_in t)) = subst (λ (m : ℕ). Has m u (through x.instrs (facts_in t))) (same ∙ p.size) has in
    let next : suc b ≡ b + 1 = omega arith in
    let agree = starts_as n k bs b x f t lt mine here p.follows starts in
    let mine_known : List KnownSite = known_in (facts_at (bare k bs) b) x.instrs in
    let others : List KnownSite = known_from (bare k bs) (b + 1) (drop (b + 1) bs) in
    record {
      follows = follows_next n k bs b x f t lt mine here p.follows starts u behind f1 f2 e left;
      size = behind.size;
      whole = ap (λ (ws : List (List (Option ℕ))). ws ++ words_in others) is
          ∙ ap (λ (ss : List KnownSite). (words_of now ++ words_in ss) ++ words_in others)
          (known_by n x.instrs (facts_in t) (facts_at (bare k bs) b) mine agree)
          ∙ append_assoc (words_of now) (words_in mine_known) (words_in others)
          ∙ ap (λ (ws : List (List (Option ℕ))). words_of now ++ ws) (sym (map-append (λ (s : KnownSite). s.known) mine_known others))
          ∙ ap (λ (c : ℕ). words_of now ++ words_in (mine_known ++ known_from (bare k bs) c (drop (b + 1) bs))) (sym next)
          ∙ ap (λ (ys : List Block). words_of now ++ words_in (known_from (bare k bs) b ys)) (sym here) ∙ p.whole;
    }

pub put_all : (n k : ℕ) (bs : List Block) (was : List (List (Option Word))) (b : ℕ) (f : Flow) (t : List (Option ℕ)) (now : List (List (Option Word)))
    → length bs ≤ b
    → PuttingAll n k bs was b f t now → words_of now ≡ words_of was ++ words_in (known_from (bare k bs) 0 bs)
put_all n k bs was b f t now past p =
    sym (append-nil (words_of now)) ∙ ap (λ (ys : List Block). words_of now ++ words_in (known_from (bare k bs) b ys)) (sym (drop_all b bs past)) ∙ p.whole

known_bare : (r : RoutineParts) (b : ℕ) (xs : List Block) → known_from (bare r.params r.blocks) b xs ≡ known_from r b xs
known_bare r b [] = refl
known_bare r b (x ∷ xs) =
    ap (λ (fs : Facts). known_in fs x.instrs ++ known_from (bare r.params r.blocks) (suc b) xs) (bare_facts r b)
    ∙ ap (λ (ss : List KnownSite). known_in (facts_at r b) x.instrs ++ ss) (known_bare r (suc b) xs)

-- what is known at the sites of a routine's blocks is what is known at its sites
pub sites_are : (r : RoutineParts) (k : ℕ) (bs : List Block) → k ≡ r.params → bs ≡ r.blocks
    → words_in (known_from (bare k bs) 0 bs) ≡ words_in (known_from r 0 r.blocks)
sites_are r k bs params blocks =
    ap (λ (m : ℕ). words_in (known_from (bare m bs) 0 bs)) params
    ∙ ap (λ (cs : List Block). words_in (known_from (bare r.params cs) 0 cs)) blocks
    ∙ ap words_in (known_bare r 0 r.blocks)
