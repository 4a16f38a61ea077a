-- What is known at the start of a block holds wherever the run comes there.
use Rattle.std.proofs.Common.{◌≡◌, ℕ, zero, suc, ◌<◌, ◌≤◌, List, [], ◌∷◌, Bool, true, false, refl, ap, subst, sym, ◌∙◌, arith, slice_get, ne_eqb}
use Rattle.std.proofs.Common.{eqb-true, inl, inr, lt-ltb, ltb-true}
use Rattle.std.specs.Prelude.{nat_eq, nat_lt, if◌then◌else◌, ◌||◌, Option, Some, None}
use Rattle.std.proofs.lemmas.Bool.{cases_lt, cases_Bool}
use Rattle.std.proofs.lemmas.Option.{none-some, same_Some}
use Rattle.il_core.specs.declared.instr.Block.{Block}
use Rattle.il_core.specs.Routine.{RoutineParts}
use Rattle.il_core.specs.World.{from_list}
use Rattle.il_core.specs.Meaning.{Frame, frame_of}
use Rattle.il_laws.specs.Facts.{Facts, through, written, looped, jumps_to, Passed, both_know, meet, arriving, known, start, one_more, before, facts_at}
use Rattle.il_laws.proofs.Knows.{Knows, Zeros}

not_less : (x n : ℕ) → n ≤ x → nat_lt x n ≡ false
not_less x n le = elim (cases_Bool (nat_lt x n)) [ inl less ↦ (let lt = ltb-true x n less in absurd (omega arith)) | inr none ↦ none ]

pub both_first : (p q : Option ℕ) (u : ℕ) → both_know p q ≡ Some u → p ≡ Some u
both_first (Some v) (Some w) u e = both_if (nat_eq v w) v u e
  where
    both_if : (b : Bool) (v u : ℕ) → (if b then Some v else None) ≡ Some u → Some v ≡ Some u
    both_if true v u e = e
    both_if false v u e = absurd (none-some u e)
both_first (Some v) None u e = absurd (none-some u e)
both_first None q u e = absurd (none-some u e)

pub both_second : (p q : Option ℕ) (u : ℕ) → both_know p q ≡ Some u → q ≡ Some u
both_second (Some v) (Some w) u e = both_if (nat_eq v w) refl e
  where
    both_if : (b : Bool) → nat_eq v w ≡ b → (if b then Some v else None) ≡ Some u → Some w ≡ Some u
    both_if true h e = ap Some (sym (eqb-true v w h)) ∙ e
    both_if false h e = absurd (none-some u e)
both_second (Some v) None u e = absurd (none-some u e)
both_second None q u e = absurd (none-some u e)

-- some block jumps there, and the frame has what all of them have
pub record Arrives (b : ℕ) (ps : List Passed) (f : Frame) : Type 0 where
  pub facts : Facts
  pub is : arriving b ps ≡ Some facts
  pub knows : Knows facts f

arrives_new : (b : ℕ) (p : Passed) (ps : List Passed) (o : Option Facts) (f : Frame) → arriving b ps ≡ o → jumps_to p.end b ≡ true → Knows p.facts f
    → Arrives b (p ∷ ps) f
arrives_new b p ps None f e j k = record {
  facts = p.facts;
  is = ap (λ (c : Bool). if c then Some (meet p.facts (arriving b ps)) else arriving b ps) j
      ∙ ap (λ (o : Option Facts). Some (meet p.facts o)) e;
  knows = k;
}
arrives_new b p ps (Some gs) f e j k =
    record {
      facts = meet p.facts (Some gs);
      is = ap (λ (c : Bool). if c then Some (meet p.facts (arriving b ps)) else arriving b ps) j
          ∙ ap (λ (o : Option Facts). Some (meet p.facts o)) e;
      knows = record { by = λ x u h. k.by x u (both_first (p.facts x) (gs x) u h) };
    }

arrives_old : (b : ℕ) (p : Passed) (ps : List Passed) (c : Bool) (f : Frame) → jumps_to p.end b ≡ c → Arrives b ps f → Arrives b (p ∷ ps) f
arrives_old b p ps true f j a =
    record {
      facts = meet p.facts (Some a.facts);
      is = ap (λ (c : Bool). if c then Some (meet p.facts (arriving b ps)) else arriving b ps) j
          ∙ ap (λ (o : Option Facts). Some (meet p.facts o)) a.is;
      knows =
          record { by = λ x u h. a.knows.by x u (both_second (p.facts x) (a.facts x) u h) };
    }
arrives_old b p ps false f j a = record {
  facts = a.facts;
  is = ap (λ (c : Bool). if c then Some (meet p.facts (arriving b ps)) else arriving b ps) j
      ∙ a.is;
  knows = a.knows;
}

module _ (r : RoutineParts) where
  arrives_more : (b u : ℕ) (o : Option Block) (f : Frame) → Arrives b (before r u) f → Arrives b (one_more r u o (before r u)) f
  arrives_more b u None f a = a
  arrives_more b u (Some y) f a = arrives_old b (record { end = y.end; facts = through y.instrs (start r u (before r u)) }) (before r u)
      (jumps_to y.end b) f refl a

  pub arrives : (b t : ℕ) (x : Block) (f : Frame) → slice_get r.blocks t ≡ Some x → jumps_to x.end b ≡ true
      → Knows (through x.instrs (facts_at r t)) f → (u : ℕ) → t < u → Arrives b (before r u) f
  arrives b t x f e j k zero lt = absurd (omega arith)
  arrives b t x f e j k (suc u) lt =
      elim (cases_lt t u) [
        | inl less ↦ arrives_more b u (slice_get r.blocks u) f (arrives b t x f e j k u less)
        | inr ge ↦ (let same : t ≡ u = omega arith in
            subst (λ (s : ℕ). Arrives b (one_more r s (slice_get r.blocks s) (before r s)) f) same
            (subst (λ (o : Option Block). Arrives b (one_more r t o (before r t)) f) (sym e)
            (arrives_new b (record { end = x.end; facts = through x.instrs (facts_at r t) }) (before r t) (arriving b (before r t)) f refl j k)))
      ]

  -- a register that nothing writes, and that isn't a parameter
  abbrev pub Quiet : ℕ → Type 0
  Quiet x = (r.params ≤ x) × (written r.blocks x ≡ false)

  abbrev loop_known : ℕ → Option ℕ
  loop_known x = if nat_lt x r.params || written r.blocks x then None else Some 0

  quiet_if : (x u : ℕ) (a b : Bool) → nat_lt x r.params ≡ a → written r.blocks x ≡ b → (if a || b then None else Some 0) ≡ Some u → Quiet x × (0 ≡ u)
  quiet_if x u true b ea eb e = absurd (none-some u e)
  quiet_if x u false true ea eb e = absurd (none-some u e)
  quiet_if x u false false ea eb e = (
    (elim (cases_lt x r.params) [ inl lt ↦ (let bad : true ≡ false = sym (lt-ltb x r.params lt) ∙ ea in absurd cc) | inr ge ↦ ge ], eb),
    same_Some 0 u e,
  )

  pub knows_loop : (b : ℕ) (ps : List Passed) (f : Frame) → looped r.blocks b ≡ true → Zeros Quiet f → Knows (start r b ps) f
  knows_loop b ps f l z =
      record {
        by = λ x u e.
            let at : loop_known x ≡ Some u =
            ap (λ (c : Bool). if c then loop_known x else
            (if nat_eq b 0 then (if nat_lt x r.params then None else Some 0) else known (arriving b ps) x)) (sym l) ∙ e in
            let q = quiet_if x u (nat_lt x r.params) (written r.blocks x) refl refl at in
            z.by x q.0 ∙ q.1;
      }

  pub knows_jump : (b : ℕ) (ps : List Passed) (f : Frame) (c : Bool) → looped r.blocks b ≡ c → 0 < b → Zeros Quiet f → Arrives b ps f
      → Knows (start r b ps) f
  knows_jump b ps f true l lt z a = knows_loop b ps f l z
  knows_jump b ps f false l lt z a =
      record {
        by = λ x u e.
            let later : nat_eq b 0 ≡ false = ne_eqb b 0 (λ h. absurd (omega arith)) in
            let at : known (arriving b ps) x ≡ Some u =
            ap (λ (k : Bool). if k then (if nat_lt x r.params then None else Some 0) else known (arriving b ps) x) (sym later)
            ∙ ap (λ (k : Bool). if k then loop_known x else
            (if nat_eq b 0 then (if nat_lt x r.params then None else Some 0) else known (arriving b ps) x)) (sym l) ∙ e in
            a.knows.by x u (ap (λ (o : Option Facts). known o x) (sym a.is) ∙ at);
      }

  if_param : (x u : ℕ) (k : Bool) → nat_lt x r.params ≡ k → (if k then None else Some 0) ≡ Some u → (r.params ≤ x) × (0 ≡ u)
  if_param x u true ek e = absurd (none-some u e)
  if_param x u false ek e = (
    elim (cases_lt x r.params) [
      | inl lt ↦ (let bad : true ≡ false = sym (lt-ltb x r.params lt) ∙ ek in absurd cc)
      | inr ge ↦
          ge
    ],
    same_Some 0 u e,
  )

  -- at a call
  begin_zero : (args : List ℕ) (x : ℕ) → r.params ≤ x → (frame_of r.params args).regs x ≡ 0
  begin_zero args x le = ap (λ (k : Bool). if k then from_list args x else 0) (not_less x r.params le)

  pub begin_zeros : (args : List ℕ) → Zeros Quiet (frame_of r.params args)
  begin_zeros args = record { by = λ x q. begin_zero args x q.0 }

  pub begin_knows : (args : List ℕ) (c : Bool) → looped r.blocks 0 ≡ c → Knows (facts_at r 0) (frame_of r.params args)
  begin_knows args true l = knows_loop 0 [] (frame_of r.params args) l (begin_zeros args)
  begin_knows args false l =
      record {
        by = λ x u e.
            let at : (if nat_lt x r.params then None else Some 0) ≡ Some u =
            ap (λ (k : Bool). if k then loop_known x else (if nat_lt x r.params then None else Some 0)) (sym l) ∙ e in
            let p = if_param x u (nat_lt x r.params) refl at in
            begin_zero args x p.0 ∙ p.1;
      }
