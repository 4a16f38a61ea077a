-- What blocks take, noted instruction by instruction, and block by block from the last one on.
use Rattle.std.proofs.Common.{◌≡◌, ◌≢◌, ℕ, zero, suc, ◌+◌, ◌<◌, ◌≤◌, ◌⊎◌, inl, inr, List, [], ◌∷◌, get_or, set, drop, length, Bool, true, false, refl}
use Rattle.std.proofs.Common.{ap, subst, sym, ◌∙◌, arith, length-set, get_or-set_same, get_or-set_other, slice_get, eqb-true}
use Rattle.std.specs.Prelude.{Option, Some, not, ◌||◌, ◌&&◌, nat_eq, if◌then◌else◌}
use Rattle.std.proofs.lemmas.Bool.{cases_eq, true≢false}
use Rattle.std.proofs.lemmas.List.{drop_all}
use Rattle.il_core.specs.declared.instr.Block.{Block}
use Rattle.il_core.specs.declared.instr.End.{End}
use Rattle.il_core.specs.declared.instr.End.TheVariants as ends
use Rattle.il_core.specs.declared.instr.Instr.{Instr}
use Rattle.il_core.specs.Operands.{reads, writes, end_reads, end_source, is_named}
use Rattle.il_laws.specs.Facts.{any_writes}
use Rattle.const_prop.specs.Carried.{StandsIn, IsTaken, TakesHere, is_exposed, row_of}
use Rattle.const_prop.specs.Taking.{IsStamped, IsTaking, Noted, Took, TookNeeded, TookPassed, TookRow}
use Rattle.const_prop.specs.declared.carried.Taking.{Taking}
use Rattle.list_laws.proofs.Elements.{drop_read}

-- Behind k instructions: what all expose is taken, or the instructions that are left expose it and none before has written
-- it; where none of all writes a register, its writer is as it was.
pub record Noting (n : ℕ) (is : List Instr) (old now : Taking) (k : ℕ) : Type 0 where
  pub taking : IsTaking n now
  pub stamp : now.stamp ≡ old.stamp
  pub exposed : (x : ℕ) → x < n → is_exposed is x ≡ true
      → (StandsIn now.row.items x) ⊎ ((get_or now.writers.items x 0 ≢ now.stamp) × (is_exposed (drop k is) x ≡ true))
  pub stays : (x : ℕ) → x < n → any_writes is x ≡ false → (any_writes (drop k is) x ≡ false) × (get_or now.writers.items x 0 ≡ get_or old.writers.items x 0)

exposed_step : (r w e : Bool) → (r || (not w && e)) ≡ true → (r ≡ true) ⊎ ((w ≡ false) × (e ≡ true))
exposed_step true w e h = inl refl
exposed_step false true e h = absurd (true≢false (sym h))
exposed_step false false e h = inr (refl, h)

quiet_step : (w e : Bool) → (w || e) ≡ false → (w ≡ false) × (e ≡ false)
quiet_step true e h = absurd (true≢false h)
quiet_step false e h = (refl, h)

module _ (n : ℕ) (is : List Instr) (old : Taking) where
  pub note_next : (now new : Taking) (k : ℕ) (i : Instr) (js : List Instr) → js ≡ is → k < length js → i ≡ get_or js k i → Noting n is old now k
      → IsTaking (length now.takers.items) new → Noted (length now.takers.items) i now new → Noting n is old new (k + 1)
  note_next now new k i js same lt read h taking_new noted_new =
      let taking : IsTaking n new = subst (λ (m : ℕ). IsTaking m new) h.taking.stamped.takers taking_new in
      let noted : Noted n i now new = subst (λ (m : ℕ). Noted m i now new) h.taking.stamped.takers noted_new in
      let here : drop k is ≡ i ∷ drop (k + 1) is = subst (λ (xs : List Instr). drop k xs ≡ i ∷ drop (k + 1) xs) same (drop_read js k i lt read) in
      record {
        taking = taking;
        stamp = noted.stamp ∙ h.stamp;
        exposed = λ x less e.
            elim (h.exposed x less e) [
              | inl s ↦ inl (noted.grows x s)
              | inr p ↦ elim (exposed_step (reads i x) (writes i x) (is_exposed (drop (k + 1) is) x)
                  (ap (λ (js : List Instr). is_exposed js x) (sym here) ∙ p.1)) [
                    | inl r ↦ inl (noted.reads x less p.0 r)
                    | inr q ↦ inr (
                      (λ same. p.0 (sym (noted.writes x less ∙ ap (λ (w : Bool). if w then now.stamp else get_or now.writers.items x 0) q.0) ∙ same ∙
                          noted.stamp)),
                      q.1,
                    )
                  ]
            ];
        stays = λ x less e.
            let p = h.stays x less e in
            let q = quiet_step (writes i x) (any_writes (drop (k + 1) is) x) (ap (λ (js : List Instr). any_writes js x) (sym here) ∙ p.0) in
            (q.1, noted.writes x less ∙ ap (λ (w : Bool). if w then now.stamp else get_or now.writers.items x 0) q.0 ∙ p.1);
      }

  -- a register that is read at the end is taken
  pub end_taken : (now new : Taking) (k : ℕ) (e : End) (o : Option ℕ) (r x : ℕ) → o ≡ end_source e → o ≡ Some r → x < n → end_reads e x ≡ true
      → Noting n is old now k
      → (r < length now.takers.items → get_or now.writers.items r 0 ≢ now.stamp → StandsIn new.row.items r) → get_or now.writers.items x 0 ≢ now.stamp
      → StandsIn new.row.items x
  end_taken now new k e o r x source some less reads h here unwritten =
      let same : x ≡ r = eqb-true x r (ap (λ (p : Option ℕ). is_named p x) (sym some ∙ source) ∙ reads) in
      subst (StandsIn new.row.items) (sym same)
      (here (subst (λ (m : ℕ). r < m) (sym h.taking.stamped.takers) (subst (λ (y : ℕ). y < n) same less))
      (subst (λ (y : ℕ). get_or now.writers.items y 0 ≢ now.stamp) same unwritten))

  -- behind all instructions, what the end reads is taken
  pub needed_done : (now new : Taking) (k : ℕ) (block : Block) (js : List Instr) → js ≡ is → is ≡ block.instrs → length js ≤ k
      → ((x : ℕ) → x < n → get_or old.writers.items x 0 ≢ old.stamp)
      → Noting n is old now k → Took now new
      → ((x : ℕ) → x < n → end_reads block.end x ≡ true → get_or now.writers.items x 0 ≢ now.stamp → StandsIn new.row.items x) → TookNeeded n block old new
  needed_done now new k block js same is_instrs past fresh h took ends =
      let nothing : drop k is ≡ [] = subst (λ (xs : List Instr). drop k xs ≡ []) same (drop_all k js past) in
      let left : (x : ℕ) → x < n → is_exposed is x ≡ true → StandsIn new.row.items x = (λ x less e.
      elim (h.exposed x less e) [
        | inl s ↦ took.grows x s
        | inr p ↦ absurd (true≢false (sym p.1 ∙ ap (λ (js : List Instr). is_exposed js x) nothing))
      ]) in
      let quiet : (x : ℕ) → x < n → any_writes is x ≡ false
      → get_or now.writers.items x 0 ≡ get_or old.writers.items x 0 = (λ x less e. (h.stays x less e).1) in
      record {
        stamp = took.stamp ∙ h.stamp;
        needed = λ x less e.
            elim (needs_step (is_exposed is x) (any_writes is x) (end_reads block.end x)
            (ap (λ (js : List Instr). is_exposed js x || (not (any_writes js x) && end_reads block.end x)) is_instrs ∙ e)) [
              | inl s ↦ left x less s
              | inr p ↦ ends x less p.1 (λ same. fresh x less (sym (quiet x less p.0) ∙ same ∙ h.stamp))
            ];
        writes = λ x less e.
            ap (λ (ws : List ℕ). get_or ws x 0) took.writers ∙ quiet x less (ap (λ (js : List Instr). any_writes js x) is_instrs ∙ e);
      }
    where
      needs_step : (s w e : Bool) → (s || (not w && e)) ≡ true → (s ≡ true) ⊎ ((w ≡ false) × (e ≡ true))
      needs_step true w e h = inl refl
      needs_step false true e h = absurd (true≢false (sym h))
      needs_step false false e h = inr (refl, h)

pub took_nothing : (s : Taking) → Took s s
took_nothing s = record { stamp = refl; writers = refl; grows = λ x h. h }

-- of what two blocks take, where an end jumps to both
pub passed_both : (n : ℕ) (r t u : ℕ) (looped : List Bool) (rows : List (List ℕ)) (old mid new : Taking) → Took old mid
    → (get_or looped t false ≡ false → TookRow n (row_of rows t) old mid)
    → Took mid new → (get_or looped u false ≡ false → TookRow n (row_of rows u) mid new) → TookPassed n (ends.Branch r t u) looped rows old new
passed_both n r t u looped rows old mid new first here second there =
    record {
      took = record {
        stamp = second.stamp ∙ first.stamp;
        writers = second.writers ∙ first.writers;
        grows = λ x s. second.grows x (first.grows x s);
      };
      passed = λ v jumps quiet x less unwritten s. go v (nat_eq v t) (nat_eq v u) refl refl jumps quiet x less unwritten s;
    }
  where
    go : (v : ℕ) (a b : Bool) → nat_eq v t ≡ a → nat_eq v u ≡ b → (a || (b || false)) ≡ true → get_or looped v false ≡ false → TookRow n (row_of rows v) old new
    go v true b at bt j quiet x less unwritten s =
        let same : v ≡ t = eqb-true v t at in
        second.grows x (here (ap (λ (w : ℕ). get_or looped w false) (sym same) ∙ quiet) x less unwritten (subst (λ (w : ℕ). StandsIn (row_of rows w) x) same s))
    go v false true at bt j quiet x less unwritten s =
        let same : v ≡ u = eqb-true v u bt in
        there (ap (λ (w : ℕ). get_or looped w false) (sym same) ∙ quiet) x less
        (λ e. unwritten (sym (ap (λ (ws : List ℕ). get_or ws x 0) first.writers) ∙ e ∙ first.stamp))
        (subst (λ (w : ℕ). StandsIn (row_of rows w) x) same s)
    go v false false at bt j quiet x less unwritten s = absurd (true≢false (sym j))

-- behind the last blocks, so many, these take what they should, and nothing of others is noted
pub record TakingBack (n : ℕ) (looped : List Bool) (bs : List Block) (rows : List (List ℕ)) (done : ℕ) (s : Taking) : Type 0 where
  pub count : length rows ≡ length bs
  pub inside : (b i : ℕ) → i < length (row_of rows b) → get_or (row_of rows b) i 0 < n
  pub takes : (b : ℕ) (x : Block) → length bs ≤ b + done → slice_get bs b ≡ Some x → TakesHere n looped rows b x
  pub stamped : IsStamped n s
  pub stamp : s.stamp ≡ done
  pub row : s.row.items ≡ []

module _ (n : ℕ) (looped : List Bool) (rows : List (List ℕ)) (b : ℕ) (mine : List ℕ) (lt : b < length rows) where
  abbrev now : List (List ℕ)
  now = set rows b mine

  same_here : row_of now b ≡ mine
  same_here = get_or-set_same rows b mine [] lt

  same_other : (c : ℕ) → c ≢ b → row_of now c ≡ row_of rows c
  same_other c ne = get_or-set_other rows b c mine [] ne

  inside_set : ((i : ℕ) → i < length mine → get_or mine i 0 < n) → ((c i : ℕ) → i < length (row_of rows c) → get_or (row_of rows c) i 0 < n)
      → (c i : ℕ) → i < length (row_of now c) → get_or (row_of now c) i 0 < n
  inside_set h k c i less =
      elim (cases_eq c b) [
        | inl same ↦ (
            let e : row_of now c ≡ mine = ap (row_of now) same ∙ same_here in
            subst (λ (xs : List ℕ). get_or xs i 0 < n) (sym e) (h i (subst (λ (xs : List ℕ). i < length xs) e less)))
        | inr ne ↦ subst (λ (xs : List ℕ). get_or xs i 0 < n) (sym (same_other c ne)) (k c i (subst (λ (xs : List ℕ). i < length xs) (same_other c ne) less))
      ]

  -- what a block behind takes stays
  takes_stays : (c : ℕ) (x : Block) → b < c → TakesHere n looped rows c x → TakesHere n looped now c x
  takes_stays c x behind h =
      record {
        needed = λ y less e. subst (λ (xs : List ℕ). StandsIn xs y) (sym (same_other c (λ same. absurd (omega arith)))) (h.needed y less e);
        passed = λ t y le less j q w s. subst (λ (xs : List ℕ). StandsIn xs y) (sym (same_other c (λ same. absurd (omega arith))))
            (h.passed t y le less j q w (subst (λ (xs : List ℕ). StandsIn xs y) (same_other t (λ same. absurd (omega arith))) s));
      }

  takes_now : (x : Block) → IsTaken n looped rows x mine → TakesHere n looped now b x
  takes_now x h =
      record {
        needed = λ y less e. subst (λ (xs : List ℕ). StandsIn xs y) (sym same_here) (h.takes.needed y less e);
        passed = λ t y le less j q w s. subst (λ (xs : List ℕ). StandsIn xs y) (sym same_here)
            (h.takes.passed t y less j q w (subst (λ (xs : List ℕ). StandsIn xs y) (same_other t (λ same. absurd (omega arith))) s));
      }

get_some : {X : Type 0} (xs : List X) (b : ℕ) (x y d : X) → slice_get xs b ≡ Some x → y ≡ get_or xs b d → x ≡ y
get_some [] b x y d e h = absurd cc
get_some (z ∷ xs) zero x y d e h = (let same : z ≡ x = cc in sym same ∙ sym h)
get_some (z ∷ xs) (suc b) x y d e h = get_some xs b x y d e h

pub take_next : (n : ℕ) (looped : List Bool) (bs : List Block) (rows same_rows : List (List ℕ)) (done b : ℕ) (s s1 : Taking) (block : Block) (mine : List ℕ)
    → b + suc done ≡ length bs
    → block ≡ get_or bs b block → same_rows ≡ rows → IsTaken (length s.takers.items) looped same_rows block mine → IsStamped (length s.takers.items) s1
    → s1.stamp ≡ done + 1 → s1.row.items ≡ [] → TakingBack n looped bs rows done s
    → TakingBack n looped bs (set rows b mine) (done + 1) s1
take_next n looped bs rows same_rows done b s s1 block mine at read same_as taken_there stamped_there stamp row h =
    let count = h.count in
    let stamped : IsStamped n s1 = subst (λ (m : ℕ). IsStamped m s1) h.stamped.takers stamped_there in
    let taken : IsTaken n looped rows block mine = subst (λ (m : ℕ). IsTaken m looped rows block mine) h.stamped.takers
    (subst (λ (rs : List (List ℕ)). IsTaken (length s.takers.items) looped rs block mine) same_as taken_there) in
    let lt : b < length rows = omega arith in
    record {
      count = length-set rows b mine ∙ h.count;
      inside = inside_set n looped rows b mine lt taken.inside h.inside;
      takes = λ c x le is.
          elim (cases_eq c b) [
            | inl same ↦ (
                let here : slice_get bs b ≡ Some x = ap (slice_get bs) (sym same) ∙ is in
                subst (λ (d : ℕ). TakesHere n looped (set rows b mine) d x) (sym same)
                (subst (TakesHere n looped (set rows b mine) b) (sym (get_some bs b x block block here read)) (takes_now n looped rows b mine lt block taken)))
            | inr ne ↦ takes_stays n looped rows b mine lt c x (omega arith) (h.takes c x (omega arith) is)
          ];
      stamped = stamped;
      stamp = stamp;
      row = row;
    }
