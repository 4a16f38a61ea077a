-- A loop over blocks that are changed by the facts at their starts.
use Rattle.std.proofs.Common.{◌≡◌, ℕ, zero, suc, ◌+◌, ◌<◌, ◌≤◌, List, [], ◌∷◌, ◌++◌, get_or, set, take, drop, length, refl, ap, subst, sym, ◌∙◌, arith}
use Rattle.std.proofs.Common.{append_assoc, length-set, slice_get}
use Rattle.std.specs.Prelude.{Bool, true, not, ◌&&◌, Option, Some}
use Rattle.std.specs.List.{AllByRecursion}
use Rattle.il_core.specs.Operands.{end_reads}
use Rattle.std.proofs.lemmas.List.{drop_all, drop_more, drop-set-lt, take_all, take_more_set, append-nil}
use Rattle.il_core.specs.declared.instr.Block.{Block}
use Rattle.il_core.specs.declared.instr.Instr.{Instr}
use Rattle.il_laws.specs.Facts.{Facts, any_writes, facts_at, through}
use Rattle.il_laws.specs.Propagate.{propagated_block, with_facts}
use Rattle.const_prop.specs.Tables.{NamesRegisters, AreNamed, facts_in, Has}
use Rattle.const_prop.specs.Carried.{StandsIn, TakesHere, is_exposed, needs, row_of}
use Rattle.const_prop.specs.Flow.{Entered, Left, Follows, Starts, bare}
use Rattle.const_prop.specs.declared.flow.Flow.{Flow}
use Rattle.list_laws.proofs.Elements.{drop_read, all_drop}
use Rattle.const_prop.proofs.Exposed.{AgreeWhere, all_by, or_left, or_right, through_by}
use Rattle.const_prop.proofs.Following.{Sends, start_as, follow_more}

-- the first b blocks are changed by their facts, and what is left is as it was
pub record Changed (change : Facts → Block → Block) (n k : ℕ) (bs : List Block) (b : ℕ) (f : Flow) (now : List Block) : Type 0 where
  pub follows : Follows n k bs b f
  pub count : length now ≡ length bs
  pub rest : drop b now ≡ drop b bs
  pub whole : take b now ++ with_facts change (bare k bs) b (drop b bs) ≡ with_facts change (bare k bs) 0 bs

-- an element of what is left is that of the whole
pub read_rest : {X : Type 0} (xs now : List X) (b : ℕ) (x : X) → length now ≡ length xs → b < length now → drop b now ≡ drop b xs → x ≡ get_or now b x
    → drop b xs ≡ x ∷ drop (b + 1) xs
read_rest {X} xs now b x size lt rest read =
    let e : x ∷ drop (b + 1) now ≡ drop b xs = sym (drop_read now b x lt read) ∙ rest in
    let d : drop b xs ≡ get_or xs b x ∷ drop (b + 1) xs = drop_more xs b x (omega arith) in
    let same : x ≡ get_or xs b x = cc in
    d ∙ ap (λ (y : X). y ∷ drop (b + 1) xs) (sym same)

pub named_block : (n : ℕ) (bs : List Block) (b : ℕ) (x : Block) → AreNamed n bs → drop b bs ≡ x ∷ drop (b + 1) bs → AllByRecursion (NamesRegisters n) x.instrs
named_block n bs b x named e =
    let all : AreNamed n (x ∷ drop (b + 1) bs) = subst (AreNamed n) e (all_drop (λ (y : Block). AllByRecursion (NamesRegisters n) y.instrs) b bs named) in all.0

get_of_drop : {X : Type 0} (xs : List X) (b : ℕ) (x : X) (ys : List X) → drop b xs ≡ x ∷ ys → slice_get xs b ≡ Some x
get_of_drop [] zero x ys e = absurd cc
get_of_drop [] (suc b) x ys e = absurd cc
get_of_drop (y ∷ xs) zero x ys e = let same : y ≡ x = cc in ap Some same
get_of_drop (y ∷ xs) (suc b) x ys e = get_of_drop xs b x ys e

module _ (n k : ℕ) (bs : List Block) (b : ℕ) (x : Block) (f : Flow) (t : List (Option ℕ)) (within : b < length bs)
    (named : AllByRecursion (NamesRegisters n) x.instrs) (here : drop b bs ≡ x ∷ drop (b + 1) bs) (follows : Follows n k bs b f) (starts : Starts f b t) where
  abbrev facts : Facts
  facts = facts_at (bare k bs) b

  abbrev mine : List ℕ
  mine = row_of f.carried.items b

  taken_here : TakesHere n f.looped.items f.carried.items b x
  taken_here = follows.carries.takes b x (get_of_drop bs b x (drop (b + 1) bs) here)

  -- the table has the facts of what the block takes
  stands_as : (y : ℕ) → StandsIn mine y → facts_in t y ≡ facts y
  stands_as y s = ap (facts_in t) (sym s.is) ∙ start_as n k bs b f follows t within starts s.place s.within ∙ ap facts s.is

  needed_as : (y : ℕ) → y < n → needs x y ≡ true → facts_in t y ≡ facts y
  needed_as y lt e = stands_as y (taken_here.needed y lt e)

  pub starts_as : AgreeWhere n (is_exposed x.instrs) (facts_in t) facts
  starts_as = record { at = λ y lt e. needed_as y lt (or_left (is_exposed x.instrs y) (not (any_writes x.instrs y) && end_reads x.end y) e) }

  -- the block is propagated by the facts at its start
  pub propagated_as : propagated_block (facts_in t) x ≡ propagated_block facts x
  propagated_as = ap (λ (is : List Instr). record { instrs = is; end = x.end }) (all_by n x.instrs (facts_in t) facts named starts_as)

  module _ (u : List (Option ℕ)) (h : Has n u (through x.instrs (facts_in t))) where
    -- behind the block, the table has the facts of the register that its end reads
    pub end_as : (y : ℕ) → y < n → end_reads x.end y ≡ true → facts_in u y ≡ through x.instrs facts y
    end_as y lt e =
        h.at y lt
        ∙ through_by n x.instrs (facts_in t) facts named starts_as y
        (λ quiet. needed_as y lt (or_right (is_exposed x.instrs y) (not (any_writes x.instrs y) && end_reads x.end y)
        (ap (λ (w : Bool). not w && end_reads x.end y) quiet ∙ e)))

    -- and of those that are taken where it jumps
    sends_as : Sends f.carried.items f.looped.items x.end b u (through x.instrs facts)
    sends_as v i behind jumps quiet lt =
        let y : ℕ = get_or (row_of f.carried.items v) i 0 in
        let less : y < n = follows.carries.inside v i lt in
        let stands : StandsIn (row_of f.carried.items v) y = record { place = i; within = lt; is = refl } in
        h.at y less
        ∙ through_by n x.instrs (facts_in t) facts named starts_as y (λ unwritten. stands_as y (taken_here.passed v y behind less jumps quiet unwritten stands))

    pub follows_next : (f1 f2 : Flow) → Entered f f1 b → Left x.end u f1 f2 → Follows n k bs (b + 1) f2
    follows_next f1 f2 e l =
        subst (λ (c : ℕ). Follows n k bs c f2) (omega arith)
        (follow_more n k bs b f follows x f1 f2 u (get_of_drop bs b x (drop (b + 1) bs) here) e sends_as l)

pub change_next : (change : Facts → Block → Block) (n k : ℕ) (bs : List Block) (b : ℕ) (x y : Block) (f f2 : Flow) (now : List Block) → b < length now
    → drop b bs ≡ x ∷ drop (b + 1) bs → x ≡ get_or now b x → y ≡ change (facts_at (bare k bs) b) x → Follows n k bs (b + 1) f2 → Changed change n k bs b f now
    → Changed change n k bs (b + 1) f2 (set now b y)
change_next change n k bs b x y f f2 now lt here read e follows c =
    let next : suc b ≡ b + 1 = omega arith in
    let more : drop (b + 1) now ≡ drop (b + 1) bs = (let both : x ∷ drop (b + 1) now ≡ x ∷ drop (b + 1) bs = sym (drop_read now b x lt read) ∙ c.rest ∙ here
    in cc) in
    record {
      follows = follows;
      count = length-set now b y ∙ c.count;
      rest = drop-set-lt (b + 1) now b y (omega arith) ∙ more;
      whole = ap (λ (zs : List Block). zs ++ with_facts change (bare k bs) (b + 1) (drop (b + 1) bs)) (take_more_set now b y lt)
          ∙ append_assoc (take b now) (y ∷ []) (with_facts change (bare k bs) (b + 1) (drop (b + 1) bs))
          ∙ ap (λ (z : Block). take b now ++ z ∷ with_facts change (bare k bs) (b + 1) (drop (b + 1) bs)) e
          ∙ ap (λ (c1 : ℕ). take b now ++ change (facts_at (bare k bs) b) x ∷ with_facts change (bare k bs) c1 (drop (b + 1) bs)) (sym next)
          ∙ ap (λ (zs : List Block). take b now ++ with_facts change (bare k bs) b zs) (sym here) ∙ c.whole;
    }

pub changed_all : (change : Facts → Block → Block) (n k : ℕ) (bs : List Block) (b : ℕ) (f : Flow) (now : List Block) → length now ≤ b
    → Changed change n k bs b f now → now ≡ with_facts change (bare k bs) 0 bs
changed_all change n k bs b f now past c =
    let size = c.count in
    sym (append-nil now) ∙ ap (λ (zs : List Block). zs ++ []) (sym (take_all b now past))
    ∙ ap (λ (zs : List Block). take b now ++ with_facts change (bare k bs) b zs) (sym (drop_all b bs (omega arith))) ∙ c.whole

-- ---- what the loop takes from the code

-- the block that is read is named as the blocks at the start were
pub block_named : (n m : ℕ) (bs now : List Block) (b : ℕ) (d : Block) → AreNamed n bs → length now ≡ length bs → b < length now → drop b now ≡ drop b bs
    → d ≡ get_or now b d → m ≡ n → AllByRecursion (NamesRegisters m) (get_or now b d).instrs
block_named n m bs now b d named size lt rest read same =
    let x : Block = get_or now b d in
    let again : x ≡ get_or now b x = ap (λ (y : Block). get_or now b y) read in
    subst (λ (c : ℕ). AllByRecursion (NamesRegisters c) x.instrs) (sym same) (named_block n bs b x named (read_rest bs now b x size lt rest again))

-- the loop's state: the first blocks are changed, and the table is as long as there are registers
pub record Going (change : Facts → Block → Block) (n k : ℕ) (bs : List Block) (b : ℕ) (f : Flow) (t : List (Option ℕ)) (now : List Block) : Type 0 where
  pub changed : Changed change n k bs b f now
  pub size : length t ≡ n

pub propagate_next : (n k : ℕ) (bs : List Block) (b : ℕ) (d y : Block) (f f1 f2 : Flow) (s t u : List (Option ℕ)) (now : List Block) → AreNamed n bs
    → b < length now → d ≡ get_or now b d → Going propagated_block n k bs b f s now → length t ≡ length s → Starts f b t → Entered f f1 b
    → y ≡ propagated_block (facts_in t) (get_or now b d) → Has (length t) u (through (get_or now b d).instrs (facts_in t))
    → Left y.end u f1 f2 → Going propagated_block n k bs (b + 1) f2 u (set now b y)
propagate_next n k bs b d y f f1 f2 s t u now named lt read g same starts e is has l =
    let c = g.changed in
    let x : Block = get_or now b d in
    let again : x ≡ get_or now b x = ap (λ (z : Block). get_or now b z) read in
    let here : drop b bs ≡ x ∷ drop (b + 1) bs = read_rest bs now b x c.count lt c.rest again in
    let size = c.count in
    let within : b < length bs = omega arith in
    let mine : AllByRecursion (NamesRegisters n) x.instrs = named_block n bs b x named here in
    let behind : Has n u (through x.instrs (facts_in t)) = subst (λ (m : ℕ). Has m u (through x.instrs (facts_in t))) (same ∙ g.size) has in
    let left : Left x.end u f1 f2 = subst (λ (z : Block). Left z.end u f1 f2) is l in
    record {
      changed = change_next propagated_block n k bs b x y f f2 now lt here again (is ∙ propagated_as n k bs b x f t within mine here c.follows starts)
          (follows_next n k bs b x f t within mine here c.follows starts u behind f1 f2 e left) c;
      size = behind.size;
    }
