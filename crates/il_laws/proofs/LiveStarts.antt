-- What is live at the start of a block, by its number; and that it is read somewhere.
use Rattle.std.proofs.Common.{◌≡◌, ℕ, zero, suc, ◌+◌, ◌-◌, ◌<◌, ◌⊎◌, List, [], ◌∷◌, Bool, true, false, refl, ap, ap₂, sym, ◌∙◌, arith, slice_get, inl, inr}
use Rattle.std.specs.Prelude.{nat_eq, not, if◌then◌else◌, ◌&&◌, ◌||◌, Some}
use Rattle.std.specs.List.{list_any}
use Rattle.std.proofs.lemmas.Bool.{false≢true}
use Rattle.std.proofs.lemmas.Option.{none-some, same_Some}
use Rattle.il_core.specs.declared.instr.Block.{Block}
use Rattle.il_core.specs.declared.instr.Instr.{Instr}
use Rattle.il_core.specs.declared.instr.End.{End}
use Rattle.il_core.specs.declared.instr.End.TheVariants as ends
use Rattle.il_core.specs.Operands.{is_named, reads, end_reads, writes}
use Rattle.il_laws.specs.Live.{any_reads, read_in, Live, is_dead, live_through, live_at_end, nth_live, live_by, live_starts}
use Rattle.il_laws.proofs.Places.{IsForward, AreForward, forward_less, forward_at}
use Rattle.std.proofs.lemmas.Bool.{or_cases}
use Rattle.list_laws.proofs.Tests.{or_yes, and_first}

-- what is live at the start of a block, by its number
look_same : (b u : ℕ) (s : Live) (later : List Live) → b < u → live_by (suc b) later u ≡ live_by b (s ∷ later) u
look_same b u s later lt = let at : u - b ≡ suc (u - suc b) = omega arith in ap (λ (i : ℕ). λ x. nth_live (s ∷ later) i x) (sym at)

end_look : (bs : List Block) (b : ℕ) (at at1 : ℕ → Live) (e : End) → IsForward b e → ((u : ℕ) → b < u → at u ≡ at1 u)
    → live_at_end bs at e ≡ live_at_end bs at1 e
end_look bs b at at1 (ends.Jump t) lt h = ap (λ (l : Live). λ x. l x || false) (h t lt)
end_look bs b at at1 (ends.Branch r t u) lt h =
    ap₂ {A = Live} {B = Live} {C = Live} (λ l k x. nat_eq x r || (l x || (k x || false))) (h t lt.0) (h u lt.1)
end_look bs b at at1 (ends.Loop t) lt h = refl
end_look bs b at at1 (ends.Return r) lt h = refl
end_look bs b at at1 (ends.Exit r) lt h = refl

through_end : (is : List Instr) (l l1 : Live) → l ≡ l1 → live_through is l ≡ live_through is l1
through_end is l l1 e = ap (λ (k : Live). λ x. live_through is k x) e

module _ (bs : List Block) where
  pub starts_at : (b : ℕ) (xs : List Block) (i : ℕ) (x : Block) → slice_get xs i ≡ Some x → AreForward b xs
      → live_by b (live_starts bs b xs) (b + i) ≡ (λ y. live_through x.instrs (λ z. live_at_end bs (live_by b (live_starts bs b xs)) x.end z) y)
  starts_at b [] i x e fw = absurd (none-some x e)
  starts_at b (y ∷ xs) zero x e fw =
      let later = live_starts bs (suc b) xs in
      let s : Live = λ z. live_through y.instrs (live_at_end bs (live_by (suc b) later) y.end) z in
      let here : b + 0 - b ≡ 0 = omega arith in
      ap (λ (i : ℕ). λ z. nth_live (s ∷ later) i z) here
      ∙ through_end y.instrs (λ z. live_at_end bs (live_by (suc b) later) y.end z) (λ z. live_at_end bs (live_by b (s ∷ later)) y.end z)
      (end_look bs b (live_by (suc b) later) (live_by b (s ∷ later)) y.end fw.0 (λ u lt. look_same b u s later lt))
      ∙ ap (λ (w : Block). λ z. live_through w.instrs (λ q. live_at_end bs (live_by b (s ∷ later)) w.end q) z) (same_Some y x e)
  starts_at b (y ∷ xs) (suc i) x e fw =
      let later = live_starts bs (suc b) xs in
      let s : Live = λ z. live_through y.instrs (live_at_end bs (live_by (suc b) later) y.end) z in
      let there : suc b + i ≡ b + suc i = omega arith in
      let fwx = forward_at xs (suc b) i x fw.1 e in
      ap (λ (u : ℕ). live_by b (s ∷ later) u) (sym there) ∙ sym (look_same b (suc b + i) s later (omega arith)) ∙ starts_at (suc b) xs i x e fw.1
      ∙ through_end x.instrs (λ z. live_at_end bs (live_by (suc b) later) x.end z) (λ z. live_at_end bs (live_by b (s ∷ later)) x.end z)
      (end_look bs b (live_by (suc b) later) (live_by b (s ∷ later)) x.end (forward_less b (suc b + i) x.end (omega arith) fwx)
      (λ u lt. look_same b u s later lt))

  -- what is live is read somewhere
  before_read : (i : Instr) (live : Live) (x : ℕ) (k : Bool) → (if k then live x else reads i x || (live x && not (writes i x))) ≡ true
      → (reads i x ≡ true) ⊎ (live x ≡ true)
  before_read i live x true e = inr e
  before_read i live x false e = elim (or_cases (reads i x) (live x && not (writes i x)) e)
      [ inl h ↦ inl h | inr h ↦ inr (and_first (live x) (not (writes i x)) h) ]

  through_read : (is : List Instr) (live : Live) (x : ℕ) → live_through is live x ≡ true → (any_reads is x ≡ true) ⊎ (live x ≡ true)
  through_read [] live x e = inr e
  through_read (i ∷ is) live x e =
      elim (before_read i (λ y. live_through is live y) x (is_dead i (live_through is live)) e) [
        | inl h ↦ inl (ap (λ (k : Bool). k || any_reads is x) h)
        | inr h ↦ elim (through_read is live x h) [
          | inl g ↦ inl (ap (λ (k : Bool). reads i x || k) g ∙ or_yes (reads i x))
          | inr g ↦ inr g
        ]
      ]

  some_read : (at : ℕ → Live) (us : List ℕ) (x : ℕ) → ((u : ℕ) → at u x ≡ true → read_in bs x ≡ true)
      → list_any (λ u. at u x) us ≡ true → read_in bs x ≡ true
  some_read at [] x h e = absurd (false≢true e)
  some_read at (u ∷ us) x h e = elim (or_cases (at u x) (list_any (λ v. at v x) us) e) [ inl a ↦ h u a | inr a ↦ some_read at us x h a ]

  end_read : (at : ℕ → Live) (e : End) (x : ℕ) → ((u : ℕ) → at u x ≡ true → read_in bs x ≡ true) → live_at_end bs at e x ≡ true
      → (end_reads e x ≡ true) ⊎ (read_in bs x ≡ true)
  end_read at (ends.Loop t) x h e = inr e
  end_read at (ends.Jump t) x h e = inr (some_read at (t ∷ []) x h e)
  end_read at (ends.Branch r t u) x h e = elim (or_cases (nat_eq x r) (list_any (λ v. at v x) (t ∷ u ∷ [])) e) [
    | inl a ↦ inl a
    | inr a ↦ inr (some_read at (t ∷ u ∷ []) x h a)
  ]
  end_read at (ends.Return r) x h e = elim (or_cases (is_named r x) false e) [ inl a ↦ inl a | inr a ↦ absurd (false≢true a) ]
  end_read at (ends.Exit r) x h e = elim (or_cases (nat_eq x r) false e) [ inl a ↦ inl a | inr a ↦ absurd (false≢true a) ]

  pub starts_read : (b : ℕ) (xs : List Block) (x : ℕ) → (read_in xs x ≡ true → read_in bs x ≡ true) → (i : ℕ) → nth_live (live_starts bs b xs) i x
      ≡ true → read_in bs x ≡ true
  starts_read b [] x h i e = let bad : false ≡ true = e in absurd cc
  starts_read b (y ∷ xs) x h (suc i) e =
      starts_read (suc b) xs x (λ k. h (ap (λ (l : Bool). (any_reads y.instrs x || end_reads y.end x) || l) k
      ∙ or_yes (any_reads y.instrs x || end_reads y.end x))) i e
  starts_read b (y ∷ xs) x h zero e =
      let later = live_starts bs (suc b) xs in
      let tail = λ (i : ℕ) (k : nth_live later i x ≡ true). starts_read (suc b) xs x
      (λ k1. h (ap (λ (l : Bool). (any_reads y.instrs x || end_reads y.end x) || l) k1 ∙ or_yes (any_reads y.instrs x || end_reads y.end x))) i
      k in
      elim (through_read y.instrs (λ z. live_at_end bs (live_by (suc b) later) y.end z) x e) [
        | inl r ↦ h (ap (λ (l : Bool). (l || end_reads y.end x) || read_in xs x) r)
        | inr r ↦ elim (end_read (live_by (suc b) later) y.end x (λ u k. tail (u - suc b) k) r) [
          | inl q ↦ h (ap (λ (l : Bool). (any_reads y.instrs x || l) || read_in xs x) q ∙ ap (λ (l : Bool). l || read_in xs x)
              (or_yes (any_reads y.instrs x)))
          | inr q ↦ q
        ]
      ]
