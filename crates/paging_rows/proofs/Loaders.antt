-- What the calls of the loader leave in its rows.
use Rattle.std.proofs.Common.{◌≡◌, ℕ, ◌<◌, Bool, true, false, cond, List, [], ◌∷◌, length, Option, Some, None, Result, Ok, Err, refl, sym, ap, subst}
use Rattle.std.proofs.Common.{arith, ◌∙◌}
use Rattle.std.specs.Prelude.{is_some, is_none}
use Rattle.naim_core.specs.Charges.{under_sum}
use Rattle.naim_core.specs.Rows
use Rattle.naim_core.specs.State.{Core, hand_at, pool_at}
use Rattle.naim_core.specs.Steps.{permit, step_of, then_state}
use Rattle.naim_core.specs.declared.event.Event.TheVariants as event
use Rattle.naim_core.specs.declared.event.Form.{Form}
use Rattle.naim_core.specs.declared.event.Mode.TheVariants as mode
use Rattle.naim_core.specs.declared.event.Refusal.{Refusal}
use Rattle.naim_core.specs.declared.event.Refusal.TheVariants.{WrongForm}
use Rattle.naim_core.specs.declared.pool.Pool.{Pool}
use Rattle.naim_core.specs.declared.pool.Stage.TheVariants as stage
use Rattle.naim_core.specs.declared.state.Hand.{Hand}
use Rattle.naim_core.proofs.Effects.{compact_begin_did, running}
use Rattle.naim_loader.specs.declared.forms.Draft.{Draft}
use Rattle.naim_loader.specs.declared.forms.Evict.{Evict}
use Rattle.naim_loader.specs.declared.forms.Evict.TheVariants as evict
use Rattle.naim_loader.specs.declared.forms.Move.{Move}
use Rattle.naim_loader.specs.declared.forms.Move.TheVariants as move
use Rattle.naim_loader.specs.declared.forms.Pin.{Pin}
use Rattle.naim_loader.specs.declared.forms.PinAnswer.{PinAnswer}
use Rattle.naim_loader.specs.declared.forms.PinAnswer.TheVariants as answer
use Rattle.naim_loader.specs.declared.forms.Put.{Put}
use Rattle.naim_loader.specs.declared.forms.Put.TheVariants as put
use Rattle.naim_loader.specs.Calls.{AnswersInsert, AnswersPin, brought}
use Rattle.naim_loader.specs.Contents.{StandsFor}
use Rattle.naim_loader.specs.Drafts.{draft_form, draft_value}
use Rattle.naim_loader.specs.Moves.{AnswersEvict}
use Rattle.naim_loader.specs.Paged.{Paged, kept_at}
use Rattle.naim_loader.proofs.Hands.{move_handed}
use Rattle.paging_rows.specs.Loads.{CanFail, IsCalm, OneOfTwo, Puts, one_of_two, with_pool}

pub permit_gives : {X : Type 0} (row : Rows.Row) (x y : X) → permit row x ≡ Ok y → x ≡ y
permit_gives [] x y h = cc
permit_gives ((true, r) ∷ row) x y h = cc
permit_gives ((false, r) ∷ row) x y h = permit_gives row x y h

-- an insertion that was taken
pub inserted : (s new : Core) (p : ℕ) (f : Form) (e c : ℕ) → s.failure ≡ None → step_of s (event.Insert p f e c) ≡ Ok new → new ≡ with_pool s p f e c
inserted s new p f e c none h =
    let row = Rows.insert_row s.limit (under_sum s.pools) (is_some (pool_at s.pools p)) (length s.pools) f e c in
    made row (Rows.inserted f e c) (permit row (Rows.inserted f e c)) refl (sym (running s (event.Insert p f e c) none) ∙ h)
  where
    made : (row : Rows.Row) (x : Pool) (r : Result Pool Refusal) → permit row x ≡ r → then_state r (λ y. record s { pools = (p, y) ∷ s.pools }) ≡ Ok new
        → new ≡ record s { pools = (p, x) ∷ s.pools }
    made row x (Ok y) e k = let same = permit_gives row x y e in let n : record s { pools = (p, y) ∷ s.pools } ≡ new = cc in sym n ∙ ap
        (λ z. record s { pools = (p, z) ∷ s.pools }) (sym same)
    made row x (Err r) e k = cc

some_hand : (hands : List Hand) (p : ℕ) → (hand_at hands 0).moved ≡ Some p → 0 < length hands
some_hand [] p h = cc
some_hand (x ∷ xs) p h = omega arith

module _ {T B D : Type 0} (charge : T → ℕ) (spell : T → List ℕ) where
  pub puts : (old new : Paged T B D) (p : ℕ) (d : Draft T) (brief : B) → IsCalm old → AnswersInsert charge spell old new p d brief put.Done
      → Puts charge spell old new p d
  puts old new p d brief calm i =
      let is = inserted old.core new.core p (draft_form d) (charge (draft_value d)) (length (spell (draft_value d))) calm.running i.step in
      let home = ap (λ z. z.disk) is ∙ calm.disk in
      record {
        calm = record { running = ap (λ z. z.failure) is ∙ calm.running; disk = home; home = ap (λ z. z.home) i.same ∙ ap is_none home };
        core = is;
        absent = λ q other none. i.kept q ∙ ap (λ b. cond b (Some (record { value = draft_value d; brief = brief })) (kept_at old q)) other ∙ none;
      }

  -- where nothing came in, the disk is still at home
  pub home_still : (old new : Paged T B D) (p : ℕ) (d : Draft T) (brief : B) (r : Put T B) → old.home ≡ true → AnswersInsert charge spell old new p d brief r
      → (r ≡ put.Done → ⊥) → new.home ≡ true
  home_still old new p d brief put.Done home a other = absurd (other refl)
  home_still old new p d brief (put.NeedsRoom bytes back brief_back) home a other = ap (λ z. z.home) a.0 ∙ home
  home_still old new p d brief (put.TooSmall pid need limit) home a other = ap (λ z. z.home) a.3.same ∙ home
  home_still old new p d brief put.Stopped home a other = ap (λ z. z.home) a.same ∙ home

module _ {T B D : Type 0} (spell : T → List ℕ) where
  -- where no move begins, nothing changes
  pub unmoved : (old new : Paged T B D) (w wanted : ℕ) (r : Evict T D) → AnswersEvict spell old new w wanted r → ((m : Move T D) → r ≡ evict.Begun m → ⊥)
      → new ≡ old
  unmoved old new w wanted (evict.Begun m) a other = absurd (other m refl)
  unmoved old new w wanted evict.Fits a other = a.0
  unmoved old new w wanted evict.NoVictim a other = a.0
  unmoved old new w wanted evict.DiskOut a other = a.0
  unmoved old new w wanted evict.Stopped a other = a.same

pub brought_home : {T B D : Type 0} (l : Paged T B D) (o : Option D) → (o ≡ None → l.home ≡ true) → (brought l o).home ≡ true
brought_home l None h = h refl
brought_home l (Some d) h = refl

module _ {T B D : Type 0} (charge : T → ℕ) (spell : T → List ℕ) (is_value : T → Type 0) (bytes : D → Option (List ℕ)) (reach : D → ℕ) (honest : D → Bool) where
  -- a move that begins can fail
  pub can_fail : (old new : Paged T B D) (wanted : ℕ) (m : Move T D) → StandsFor charge spell is_value bytes reach honest old → IsCalm old
      → 0 < length old.core.hands → AnswersEvict spell old new 0 wanted (evict.Begun m) → CanFail reach honest new m
  can_fail old new wanted (move.Compacting p a) stands calm below b =
      let t = b.1.1 in let has = move_handed charge spell bytes reach honest old new 0 wanted (move.Compacting p a) stands.sound stands.good below b in
      let d = compact_begin_did old.core new.core 0 p wanted stands.sound calm.running t.step in
      record { worker = some_hand new.core.hands p has.1.0.hand; comes = tt; home = λ e. ap (λ z. z.home) t.same ∙ ap is_none (d.turned.disk_is ∙ calm.disk) }
  can_fail old new wanted (move.Offloading p place v d) stands calm below b =
      let has = move_handed charge spell bytes reach honest old new 0 wanted (move.Offloading p place v d) stands.sound stands.good below b in
      record { worker = some_hand new.core.hands p has.1.0.hand; comes = (has.1.3.out, has.1.3.good); home = λ e. absurd (no_disk d e) }
    where
      no_disk : (d : D) → Some d ≡ None → ⊥
      no_disk d e = cc
  can_fail old new wanted (move.FromBytes p v) stands calm below b = absurd b.1
  can_fail old new wanted (move.FromDisk p filed number d) stands calm below b = absurd b.1

  -- a pool that can be pinned is pinned, or memory is wanting
  pub only_pins : (old new : Paged T B D) (w : ℕ) (after : Core) (r : PinAnswer T D) → old.core.failure ≡ None → step_of old.core (event.PinRead w 0) ≡ Ok after
      → step_of old.core (event.ReloadBegin w 0 mode.Read) ≡ Err WrongForm
      → AnswersPin charge spell bytes reach honest old new w 0 mode.Read r → ((x : Pin T) → r ≡ answer.Ready x → ⊥) → (r ≡ answer.Memory → ⊥) → ⊥
  only_pins old new w after (answer.Ready x) none pins away a ready memory = ready x refl
  only_pins old new w after (answer.Reload m) none pins away a ready memory = (let no = sym away ∙ a.0.step in cc)
  only_pins old new w after answer.Moving none pins away a ready memory = (let no = sym pins ∙ a.1 in cc)
  only_pins old new w after answer.InUse none pins away a ready memory = (let no = sym pins ∙ a.1 in cc)
  only_pins old new w after answer.DiskOut none pins away a ready memory = (let no = sym away ∙ a.1 in cc)
  only_pins old new w after answer.Stopped none pins away a ready memory = (let no = sym a.kept ∙ ap is_some none in cc)
  only_pins old new w after answer.Memory none pins away a ready memory = memory refl

pub first_pins : (s : Core) (o : OneOfTwo s stage.Free None) → step_of s (event.PinRead 0 0) ≡ Ok (one_of_two (stage.Read 1) (Some 0) o.charge o.len)
first_pins s o = subst (λ z. step_of z (event.PinRead 0 0) ≡ Ok (one_of_two (stage.Read 1) (Some 0) o.charge o.len)) (sym o.is) refl

pub first_whole : (s : Core) (o : OneOfTwo s stage.Free None) → step_of s (event.ReloadBegin 0 0 mode.Read) ≡ Err WrongForm
first_whole s o = subst (λ z. step_of z (event.ReloadBegin 0 0 mode.Read) ≡ Err WrongForm) (sym o.is) refl

pub first_read : (s new : Core) → OneOfTwo s stage.Free None → step_of s (event.PinRead 0 0) ≡ Ok new → OneOfTwo new (stage.Read 1) (Some 0)
first_read s new o h = record { charge = o.charge; len = o.len; is = (let both = sym h ∙ first_pins s o in cc) }

abbrev after_both : ℕ → ℕ → Core
after_both e c = record (one_of_two (stage.Read 2) (Some 0) e c)
    { hands = record { task = None; written = None; read = Some 0; moved = None } ∷ record { task = None; written = None; read = Some 0; moved = None } ∷ [] }

pub again_pins : (s : Core) (o : OneOfTwo s (stage.Read 1) (Some 0)) → step_of s (event.PinRead 1 0) ≡ Ok (after_both o.charge o.len)
again_pins s o = subst (λ z. step_of z (event.PinRead 1 0) ≡ Ok (after_both o.charge o.len)) (sym o.is) refl

pub again_whole : (s : Core) (o : OneOfTwo s (stage.Read 1) (Some 0)) → step_of s (event.ReloadBegin 1 0 mode.Read) ≡ Err WrongForm
again_whole s o = subst (λ z. step_of z (event.ReloadBegin 1 0 mode.Read) ≡ Err WrongForm) (sym o.is) refl
