-- The facts go on from block to block.
use Rattle.std.proofs.Common.{◌≡◌, ◌≢◌, ℕ, zero, suc, ◌<◌, ◌≤◌, List, [], ◌∷◌, get_or, length, Bool, true, false, refl, ap, subst, sym, ◌∙◌, arith}
use Rattle.std.proofs.Common.{slice_get, inl, inr, eq-eqb, eqb-true}
use Rattle.std.proofs.lemmas.Bool.{true≢false}
use Rattle.std.proofs.lemmas.Bool.{cases_eq}
use Rattle.std.specs.Prelude.{Option, Some, None, nat_eq, nat_lt, ◌||◌, if◌then◌else◌}
use Rattle.il_core.specs.declared.instr.Block.{Block}
use Rattle.il_core.specs.declared.instr.End.{End}
use Rattle.il_core.specs.Routine.{RoutineParts}
use Rattle.il_laws.specs.Facts.{Facts, Passed, looped, written, jumps_to, both_know, meet, arriving, known, start, one_more, before, facts_at, through}
use Rattle.const_prop.specs.Tables.{facts_in, AreMarks}
use Rattle.const_prop.specs.Carried.{Carries, Knows, RestoresIfSome, placed, placed_if_some, row_of}
use Rattle.const_prop.specs.Flow.{HasIfSome, IsSizedIfSome, IsSized, Entered, Left, Follows, Starts, facts_of, arrived, bare, quiet, zeros}
use Rattle.const_prop.specs.declared.flow.Flow.{Flow}

pub entered_sized : (f f1 : Flow) (b : ℕ) → IsSized f → Entered f f1 b → IsSized f1
entered_sized f f1 b h e =
    let count = e.same.count in
    record {
      looped = ap (λ (ms : List Bool). length ms) e.same.looped ∙ h.looped ∙ sym e.same.count;
      written = ap (λ (ms : List Bool). length ms) e.same.written ∙ h.written ∙ sym e.same.regs;
      carried = ap (λ (rows : List (List ℕ)). length rows) e.same.carried ∙ h.carried ∙ sym e.same.count;
      inside = λ c i lt. subst (λ (n : ℕ). get_or (row_of f1.carried.items c) i 0 < n) (sym e.same.regs)
          (subst (λ (rows : List (List ℕ)). get_or (row_of rows c) i 0 < f.regs) (sym e.same.carried)
          (h.inside c i (subst (λ (rows : List (List ℕ)). i < length (row_of rows c)) e.same.carried lt)));
      tables = λ t. subst (λ (rows : List (List ℕ)). IsSizedIfSome (length (row_of rows t)) (get_or f1.arriving.items t None)) (sym e.same.carried)
          (elim (cases_eq t b) [
            | inl same ↦ subst (λ (u : ℕ). IsSizedIfSome (length (row_of f.carried.items t)) (get_or f1.arriving.items u None)) (sym same)
                (subst (IsSizedIfSome (length (row_of f.carried.items t))) (sym e.here) tt)
            | inr ne ↦ subst (IsSizedIfSome (length (row_of f.carried.items t))) (sym (e.others t ne)) (h.tables t)
          ]);
    }

has_as : (n : ℕ) (o : Option (List (Option ℕ))) (fs gs : Facts) → ((x : ℕ) → x < n → fs x ≡ gs x) → HasIfSome n o (Some fs) → HasIfSome n o (Some gs)
has_as n None fs gs same h = h
has_as n (Some t) fs gs same h = record { size = h.size; at = λ x lt. h.at x lt ∙ same x lt }

meet_as : (n : ℕ) (gs fs : Facts) (o : Option (List (Option ℕ))) (p : Option Facts) → ((x : ℕ) → x < n → gs x ≡ fs x) → HasIfSome n o p
    → (x : ℕ) → x < n → meet gs (facts_of o) x ≡ meet fs p x
meet_as n gs fs None None h k x lt = h x lt
meet_as n gs fs (Some u) None h k x lt = absurd k
meet_as n gs fs None (Some hs) h k x lt = absurd k
meet_as n gs fs (Some u) (Some hs) h k x lt =
    ap (λ (q : Option ℕ). both_know q (get_or u x None)) (h x lt) ∙ ap (λ (q : Option ℕ). both_know (fs x) q) (k.at x lt)

has_again : (n : ℕ) (o u : Option (List (Option ℕ))) (p : Option Facts) → HasIfSome n o p → HasIfSome n u (facts_of o) → HasIfSome n u p
has_again n None None None h k = tt
has_again n None (Some u) None h k = k
has_again n (Some t) u None h k = absurd h
has_again n None u (Some fs) h k = absurd h
has_again n (Some t) None (Some fs) h k = k
has_again n (Some t) (Some u) (Some fs) h k = record { size = k.size; at = λ x lt. k.at x lt ∙ h.at x lt }

-- what arrives, by the table that was there and the facts that came
arrived_as : (n : ℕ) (k : Bool) (gs fs : Facts) (o u : Option (List (Option ℕ))) (p : Option Facts) → (k ≡ true → (x : ℕ) → x < n → gs x ≡ fs x)
    → HasIfSome n o p
    → HasIfSome n u (if k then Some (meet gs (facts_of o)) else facts_of o) → HasIfSome n u (if k then Some (meet fs p) else p)
arrived_as n true gs fs o u p h was now = has_as n u (meet gs (facts_of o)) (meet fs p) (meet_as n gs fs o p (h refl) was) now
arrived_as n false gs fs o u p h was now = has_again n o u p was now

known_as : (n : ℕ) (o : Option (List (Option ℕ))) (p : Option Facts) → HasIfSome n o p → (x : ℕ) → x < n → known (facts_of o) x ≡ known p x
known_as n None None h x lt = refl
known_as n (Some t) None h x lt = absurd h
known_as n None (Some fs) h x lt = absurd h
known_as n (Some t) (Some fs) h x lt = h.at x lt

-- the same of facts by the places of some registers
placed_as : (n : ℕ) (cs : List ℕ) (k : Bool) (fs : Facts) (o : Option Facts) (u : Option (List (Option ℕ)))
    → HasIfSome n u (if k then Some (meet (placed cs fs) (placed_if_some cs o)) else placed_if_some cs o)
    → HasIfSome n u (placed_if_some cs (if k then Some (meet fs o) else o))
placed_as n cs true fs None u h = has_as n u (meet (placed cs fs) None) (placed cs (meet fs None)) (λ x lt. refl) h
placed_as n cs true fs (Some gs) u h = has_as n u (meet (placed cs fs) (Some (placed cs gs))) (placed cs (meet fs (Some gs))) (λ x lt. refl) h
placed_as n cs false fs o u h = h

-- what is restored is what was kept
restored : (cs : List ℕ) (o : Option (List (Option ℕ))) (p : Option Facts) (t : List (Option ℕ)) → HasIfSome (length cs) o (placed_if_some cs p)
    → RestoresIfSome cs o t → Knows cs t (known p)
restored cs None None t h k = k
restored cs None (Some fs) t h k = absurd h
restored cs (Some kept) None t h k = absurd h
restored cs (Some kept) (Some fs) t h k = k fs h

-- a table has the facts of a block's end, of what those blocks take that it jumps to
abbrev pub Sends : List (List ℕ) → List Bool → End → ℕ → List (Option ℕ) → Facts → Type 0
Sends rows looped e b t fs = (u i : ℕ) → b < u → jumps_to e u ≡ true → get_or looped u false ≡ false → i < length (row_of rows u)
    → get_or t (get_or (row_of rows u) i 0) None ≡ fs (get_or (row_of rows u) i 0)

module _ (n k : ℕ) (bs : List Block) (b : ℕ) (f : Flow) (h : Follows n k bs b f) where
  quiet_as : (x : ℕ) → x < n → quiet f.params f.written.items x ≡ (if nat_lt x k || written bs x then None else Some 0)
  quiet_as x lt =
      ap (λ (m : ℕ). quiet m f.written.items x) h.params
      ∙ ap (λ (c : Bool). if nat_lt x k || c then None else Some 0) (h.written.at x lt)

  -- the facts at the start of block b, of the registers that it takes
  pub start_as : (t : List (Option ℕ)) → b < length bs → Starts f b t → Knows (row_of f.carried.items b) t (facts_at (bare k bs) b)
  start_as t within s i lt = go (looped bs b) refl
    where
      cs : List ℕ
      cs = row_of f.carried.items b

      x : ℕ
      x = get_or cs i 0

      marked : get_or f.looped.items b false ≡ looped bs b
      marked = h.looped.at b within

      arrives : Option ℕ
      arrives = known (arriving b (before (bare k bs) b)) x

      first : Option ℕ
      first = if nat_lt x k then None else Some 0

      later : (z : Bool) → nat_eq b 0 ≡ z → looped bs b ≡ false → get_or t x None ≡ (if z then first else arrives)
      later true e l = s.first (marked ∙ l) (eqb-true b 0 e) i lt ∙ ap (λ (m : ℕ). zeros m x) h.params
      later false e l =
          restored cs (get_or f.arriving.items b None) (arriving b (before (bare k bs) b)) t (h.arriving b (omega arith) within (marked ∙ l))
          (s.others (marked ∙ l) (λ same. absurd (true≢false (sym (eq-eqb b 0 same) ∙ e)))) i lt

      go : (l : Bool) → looped bs b ≡ l
          → get_or t x None ≡ (if l then (if nat_lt x k || written bs x then None else Some 0) else if nat_eq b 0 then first else arrives)
      go true e = s.looped (marked ∙ e) i lt ∙ quiet_as x (h.carries.inside b i lt)
      go false e = later (nat_eq b 0) refl e

  -- block b is entered, and left with its facts
  module _ (x : Block) (f1 f2 : Flow) (t : List (Option ℕ)) (is : slice_get bs b ≡ Some x) (e : Entered f f1 b)
      (sends : Sends f.carried.items f.looped.items x.end b t (through x.instrs (facts_at (bare k bs) b))) (l : Left x.end t f1 f2) where
    abbrev facts : Facts
    facts = through x.instrs (facts_at (bare k bs) b)

    abbrev came : ℕ → Option Facts
    came u = arriving u (before (bare k bs) b)

    -- what arrives at a block behind it
    arrives_next : (u : ℕ) → suc b ≤ u → u < length bs → get_or f.looped.items u false ≡ false
        → HasIfSome (length (row_of f.carried.items u)) (get_or f2.arriving.items u None)
        (placed_if_some (row_of f.carried.items u) (arriving u (before (bare k bs) (suc b))))
    arrives_next u le lt quiet =
        let size = h.count in let size1 = e.same.count in
        let ne : u ≢ b = λ same. absurd (omega arith) in
        let cs : List ℕ = row_of f.carried.items u in
        let was : HasIfSome (length cs) (get_or f1.arriving.items u None) (placed_if_some cs (came u)) =
        subst (λ (o : Option (List (Option ℕ))). HasIfSome (length cs) o (placed_if_some cs (came u))) (sym (e.others u ne))
        (h.arriving u (omega arith) lt quiet) in
        let now : HasIfSome (length cs) (get_or f2.arriving.items u None)
        (arrived x.end (placed cs (facts_in t)) u (facts_of (get_or f1.arriving.items u None))) =
        subst (λ (rows : List (List ℕ)). HasIfSome (length (row_of rows u)) (get_or f2.arriving.items u None)
        (arrived x.end (placed (row_of rows u) (facts_in t)) u (facts_of (get_or f1.arriving.items u None))))
        e.same.carried (l.arriving u (omega arith) (subst (λ (ms : List Bool). get_or ms u false ≡ false) (sym e.same.looped) quiet)) in
        let joined : HasIfSome (length cs) (get_or f2.arriving.items u None)
        (placed_if_some cs (if jumps_to x.end u then Some (meet facts (came u)) else came u)) =
        placed_as (length cs) cs (jumps_to x.end u) facts (came u) (get_or f2.arriving.items u None)
        (arrived_as (length cs) (jumps_to x.end u) (placed cs (facts_in t)) (placed cs facts) (get_or f1.arriving.items u None)
        (get_or f2.arriving.items u None) (placed_if_some cs (came u)) (λ jumps i less. sends u i (omega arith) jumps quiet less) was now) in
        subst (λ (o : Option Block). HasIfSome (length cs) (get_or f2.arriving.items u None)
        (placed_if_some cs (arriving u (one_more (bare k bs) b o (before (bare k bs) b)))))
        (sym is) joined

    pub follow_more : Follows n k bs (suc b) f2
    follow_more =
        let looped_is : f2.looped.items ≡ f.looped.items = l.same.looped ∙ e.same.looped in
        let carried_is : f2.carried.items ≡ f.carried.items = l.same.carried ∙ e.same.carried in
        record {
          params = l.same.params ∙ e.same.params ∙ h.params;
          regs = l.same.regs ∙ e.same.regs ∙ h.regs;
          carries = subst (λ (ms : List Bool). Carries n ms f2.carried.items bs) (sym looped_is)
              (subst (λ (rows : List (List ℕ)). Carries n f.looped.items rows bs) (sym carried_is) h.carries);
          looped = subst (λ (ms : List Bool). AreMarks (length bs) ms (looped bs)) (sym looped_is) h.looped;
          written = subst (λ (ms : List Bool). AreMarks n ms (written bs)) (sym (l.same.written ∙ e.same.written)) h.written;
          count = l.same.count ∙ e.same.count ∙ h.count;
          sized = l.sized;
          arriving = λ u le lt quiet.
              subst (λ (rows : List (List ℕ)). HasIfSome (length (row_of rows u)) (get_or f2.arriving.items u None)
              (placed_if_some (row_of rows u) (arriving u (before (bare k bs) (suc b)))))
              (sym carried_is) (arrives_next u le lt (subst (λ (ms : List Bool). get_or ms u false ≡ false) looped_is quiet));
        }

-- the facts of a routine are those of its parameters and blocks
pub bare_before : (r : RoutineParts) (b : ℕ) → before (bare r.params r.blocks) b ≡ before r b
bare_before r zero = refl
bare_before r (suc b) = ap (λ (ps : List Passed). one_more r b (slice_get r.blocks b) ps) (bare_before r b)

pub bare_facts : (r : RoutineParts) (b : ℕ) → facts_at (bare r.params r.blocks) b ≡ facts_at r b
bare_facts r b = ap (λ (ps : List Passed). start r b ps) (bare_before r b)

-- what a block takes is among a table's registers
pub inside_as : (f : Flow) (b n : ℕ) (cs ds : List ℕ) → IsSized f → n ≡ f.regs → b < length f.arriving.items → cs ≡ ds → ds ≡ get_or f.carried.items b ds
    → (i : ℕ) → i < length cs → get_or cs i 0 < n
inside_as f b n cs ds h regs within same read i lt =
    let count = h.carried in
    let is : cs ≡ row_of f.carried.items b = same ∙ read ∙ get_or_any f.carried.items b ds [] (omega arith) in
    subst (λ (m : ℕ). get_or cs i 0 < m) (sym regs)
    (subst (λ (xs : List ℕ). get_or xs i 0 < f.regs) (sym is) (h.inside b i (subst (λ (xs : List ℕ). i < length xs) is lt)))
  where
    get_or_any : (xs : List (List ℕ)) (k : ℕ) (d e : List ℕ) → k < length xs → get_or xs k d ≡ get_or xs k e
    get_or_any [] k d e less = absurd (omega arith)
    get_or_any (x ∷ xs) zero d e less = refl
    get_or_any (x ∷ xs) (suc k) d e less = get_or_any xs k d e (omega arith)
