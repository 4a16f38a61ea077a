-- Each step that changes one pass's view keeps the rule of the table.
use Rattle.std.proofs.Common.{◌≡◌, ◌≢◌, ℕ, ◌+◌, ◌%◌, ◌^◌, ◌≤◌, eqb, List, [], ◌∷◌, get_or, set, Option, Some, None, true, false, sym, refl, ap, ◌∙◌}
use Rattle.std.proofs.Common.{subst, ⊎_elim, arith, length-set, get_or-set_same}
use Rattle.std.specs.Prelude.{is_some}
use mathlib.Core.Option as base
use mathlib.Core.Option.{some, none}
use lib.ListN.{get_elem?}
use lib.Seq.{map-set}
use prog.Atomic.{either}
use Rattle.atomic_table.specs.Table.{State, Act, step, keeps, takes, gives, stepped, Valid, Allows, carried_after}
use Rattle.atomic_table.proofs.Lists.{at_set, set_again, at_map, exchanged, set_here}
use Rattle.named_lock.specs.declared.view.View.{View}
use Rattle.named_lock.specs.declared.view.Held.{Held}
use Rattle.named_lock.specs.Known.{AreAllPasses, is_live, note_of, notes_of, taken_of}
use Rattle.named_lock.specs.Rules.{Stands, Replaces}
use Rattle.named_lock.specs.Slot.{empty, filled, note_or}
use Rattle.named_lock.specs.Keeps.{Keeps, Mine, Moment, IsMoment, FitsPass, FitsView, FitsTurn, moment, known_of, place_of, passes_of}
use Rattle.named_lock.specs.Steps.{Tries, Leaves, IsTold, Arrives, LooksAgain, PutsHome}
use Rattle.named_lock.specs.Pass.{is_placed}
use Rattle.named_lock.proofs.Passes.{changed}
use Rattle.named_lock.proofs.Views.{placed_at, placed_view, live_view}

module _ {M S N : Type 0} where
  -- at an even word nobody has the turn, so what a pass knows fits any later moment
  unheld : (m m' : Moment S N) (j : ℕ) (v : Option (View M S N)) → m.word % 2 ≡ 0 → m.gives ≤ m'.gives → FitsPass m j v → FitsPass m' j v
  unheld m m' j None even later f = tt
  unheld m m' j (Some k) even later f = record {
    number = f.number;
    given = omega (arith, f.given);
    seen = omega (arith, f.seen);
    turn = idle k.known.taken
        f.turn;
  }
    where
      idle : (t : Option S) → FitsTurn m j k.closing t → FitsTurn m' j k.closing t
      idle None g = tt
      idle (Some y) g = let o = g.1 in absurd (omega arith)

  -- only the holder has the turn, so what another pass knows fits any later moment
  unholding : (m m' : Moment S N) (j : ℕ) (v : Option (View M S N)) → j ≢ m.holder → m.gives ≤ m'.gives → FitsPass m j v → FitsPass m' j v
  unholding m m' j None other later f = tt
  unholding m m' j (Some k) other later f = record {
    number = f.number;
    given = omega (arith, f.given);
    seen = omega (arith, f.seen);
    turn = idle k.known.taken
        f.turn;
  }
    where
      idle : (t : Option S) → FitsTurn m j k.closing t → FitsTurn m' j k.closing t
      idle None g = tt
      idle (Some y) g = absurd (other g.2)

module _ {M S N : Type 0} (holds : M → S → List (Option N) → Type 0) (name : M) (all : ℕ) where
  abbrev Locked : Type 0
  Locked = State (Held S N) (Option (View M S N))

  -- the notes and the passes after a change of one view
  passes-set : (vs : List (Option (View M S N))) (i : ℕ) (w : Option (View M S N)) → passes_of (set vs i w) ≡ set (passes_of vs) i (known_of w)
  passes-set vs i w = map-set known_of vs i w

  pub notes-set : (vs : List (Option (View M S N))) (i : ℕ) (w : Option (View M S N))
      → notes_of (passes_of (set vs i w)) ≡ set (notes_of (passes_of vs)) i (note_of (known_of w))
  notes-set vs i w = ap notes_of (passes-set vs i w) ∙ map-set note_of (passes_of vs) i (known_of w)

  pub note_at : (vs : List (Option (View M S N))) (i : ℕ) (v : Option (View M S N)) → get_elem? vs i ≡ some v
      → get_elem? (notes_of (passes_of vs)) i ≡ some (note_of (known_of v))
  note_at vs i v at = at_map note_of (passes_of vs) i (known_of v) (at_map known_of vs i v at)

  same_notes : (vs : List (Option (View M S N))) (i : ℕ) (k l : View M S N) → get_elem? vs i ≡ some (Some k) → l.known.note ≡ k.known.note
      → notes_of (passes_of (set vs i (Some l))) ≡ notes_of (passes_of vs)
  same_notes vs i k l at e = notes-set vs i (Some l) ∙ (ap (λ (n : N). set (notes_of (passes_of vs)) i (Some n)) e ∙ set_again (notes_of (passes_of vs)) i
      (Some k.known.note) (note_at vs i (Some k) at))

  abbrev at_moment : S → ℕ → ℕ → ℕ → List (base.Option (Held S N)) → Moment S N
  at_moment x h g n hs = record { state = x; holder = h; gives = g; word = n; slots = hs }

  -- one pass has a new view with its name and share, and the lock is at a new moment
  remade : (s : Locked) (r : Keeps holds name all s) (id n : ℕ) (hs : List (base.Option (Held S N))) (k l : View M S N) (x : S) (h g : ℕ)
      → get_elem? s.views id ≡ some (Some k) → l.known.name ≡ k.known.name → l.known.all ≡ k.known.all → l.known.share ≡ k.known.share
      → holds name x (notes_of (passes_of (set s.views id (Some l))))
      → IsMoment (at_moment x h g n hs)
      → FitsView (at_moment x h g n hs) id l
      → ((j : ℕ) (u : Option (View M S N)) → j ≢ id → get_elem? s.views j ≡ some u → FitsPass (at_moment x h g n hs) j u)
      → Keeps holds name all record { words = set s.words 0 n; homes = hs; views = set s.views id (Some l) }
  remade s r id n hs k l x h g at same_name same_all same_share rule sound mine others =
      let wide = r.wide in let now : n ≡ get_or (set s.words 0 n) 0 0 = sym (get_or-set_same s.words 0 n 0 (omega arith)) in record {
        state = x;
        holder = h;
        gives = g;
        wide = length-set s.words 0 n ∙ wide;
        rule = rule;
        passes = subst (AreAllPasses name all) (sym (passes-set s.views id (Some l)))
            (changed name all (passes_of s.views) id k.known l.known r.passes (at_map known_of s.views id (Some k) at) same_name same_all same_share);
        sound = subst (λ (z : ℕ). IsMoment (at_moment x h g z hs)) now sound;
        fits = λ j u e. subst (λ (z : ℕ). FitsPass (at_moment x h g z hs) j u) now
            (⊎_elim (λ (t : (j ≡ id) × (Some l ≡ u)). subst (FitsPass (at_moment x h g n hs) j) t.1
            (subst (λ (z : ℕ). FitsView (at_moment x h g n hs) z l) (sym t.0) mine))
            (λ (t : (j ≢ id) × (get_elem? s.views j ≡ some u)). others j u t.0 t.1)
            (at_set s.views id j (Some l) u e));
      }

  -- what the rule says at a moment, of the pass that steps
  pub stands : (s : Locked) (r : Keeps holds name all s) (id : ℕ) (k : View M S N) → get_elem? s.views id ≡ some (Some k) → is_some k.number ≡ true
      → Stands holds (place_of (Some k)) (known_of (Some k)) r.state
  stands s r id k at placed =
      let f = r.passes.each id k.known (at_map known_of s.views id (Some k) at) in record {
        passes = passes_of s.views;
        all = subst (λ (z : M × ℕ). AreAllPasses z.0 z.1 (passes_of s.views)) (λ i. (sym f.0 i, sym f.1 i)) r.passes;
        mine = subst (λ (z : ℕ). get_elem? (passes_of s.views) z ≡ some (Some k.known)) (sym (placed_at id k.number placed (r.fits id (Some k) at).number))
            (at_map known_of s.views id (Some k) at);
        rule = subst (λ (z : M). holds z r.state (notes_of (passes_of s.views))) (sym f.0) r.rule;
      }

  won : (slots id even : ℕ) (k : View M S N) (s : Locked) (r : Keeps holds name all s) → get_elem? s.views id ≡ some (Some k) → is_some k.number ≡ true
      → even % 2 ≡ 0 → get_or s.words 0 0 ≡ even
      → (w : Option (View M S N)) × (a : Act (Held S N)) × Valid s.homes [] a × Keeps holds name all (stepped s 0 (even + 1) id [] w a)
      × Tries holds (step slots 0 even (even + 1) none) (Some k, []) (get_or s.words 0 0) (w, carried_after [] a)
  won slots id even k s r at placed is found =
      let is' : get_or s.words 0 0 % 2 ≡ 0 = ap (λ (z : ℕ). z % 2) found ∙ is in
      let home = r.sound.free is' in let h : Held S N = home.0 in let mine = r.fits id (Some k) at in let x : S = r.state in
      let hs : List (base.Option (Held S N)) = set s.homes 0 none in let m : Moment S N = at_moment x id r.gives (even + 1) hs in
      let l : View M S N = record k { known = record k.known { taken = Some x }; closing = false } in
      let count = r.sound.count in (
        Some l,
        takes 0 h,
        home.1,
        remade s r id (even + 1) hs k l x id r.gives at refl refl refl (subst (holds name x) (sym (same_notes s.views id k l at refl)) r.rule)
            (record { one = length-set s.homes 0 none ∙ r.sound.one; count = omega arith; free = λ e. absurd (omega arith) })
            (record { number = mine.number; given = mine.given; seen = mine.seen; turn = (refl, omega arith, refl, λ e. absurd cc) })
            (λ j v o e. unheld (moment x r.holder r.gives s) m j v is' (omega arith) (r.fits j v e)),
        (
          (λ ne. absurd (ne found)),
          (λ _. record { held = h; state = x; full = home.2; has = refl; rule = stands s r id k at placed }),
        ),
      )

  -- a step that leaves the word, the slot, the state and the notes as they were
  revised : (s : Locked) (r : Keeps holds name all s) (id n : ℕ) (k l : View M S N) → get_elem? s.views id ≡ some (Some k) → n ≡ get_or s.words 0 0
      → l.known ≡ k.known → FitsView (moment r.state r.holder r.gives s) id l
      → Keeps holds name all record { words = set s.words 0 n; homes = s.homes; views = set s.views id (Some l) }
  revised s r id n k l at is same fits =
      subst (λ (z : ℕ). Keeps holds name all record { words = set s.words 0 z; homes = s.homes; views = set s.views id (Some l) }) (sym is)
      (remade s r id (get_or s.words 0 0) s.homes k l r.state r.holder r.gives at (ap (λ z. z.name) same) (ap (λ z. z.all) same) (ap (λ z. z.share) same)
      (subst (holds name r.state) (sym (same_notes s.views id k l at (ap (λ z. z.note) same))) r.rule)
      r.sound fits (λ j u o e. r.fits j u e))

  lost : (slots id even : ℕ) (k : View M S N) (s : Locked) (r : Keeps holds name all s) → get_elem? s.views id ≡ some (Some k) → get_or s.words 0 0 ≢ even
      → (w : Option (View M S N)) × (a : Act (Held S N)) × Valid s.homes [] a × Keeps holds name all (stepped s 0 (get_or s.words 0 0) id [] w a)
      × Tries holds (step slots 0 even (even + 1) none) (Some k, []) (get_or s.words 0 0) (w, carried_after [] a)
  lost slots id even k s r at other = (
    Some k,
    keeps,
    tt,
    revised s r id (get_or s.words 0 0) k k at refl refl (r.fits id (Some k) at),
    ((λ _. refl), (λ same. absurd (other same))),
  )

  tries_known : (slots id even : ℕ) (k : View M S N) → is_some k.number ≡ true → even % 2 ≡ 0
      → Allows (Keeps holds name all) slots id (Some k, []) 0 (λ n. either (eqb n even) (even + 1) n)
      (Tries holds (step slots 0 even (even + 1) none) (Some k, []))
  tries_known slots id even k placed is s r long at bound = exchanged (get_or s.words 0 0) even (even + 1)
      (λ v. (w : Option (View M S N)) × (a : Act (Held S N)) × Valid s.homes [] a × Keeps holds name all (stepped s 0 v id [] w a) × Tries holds
      (step slots 0 even (even + 1) none) (Some k, []) (get_or s.words 0 0) (w, carried_after [] a))
      (λ e. won slots id even k s r at placed is e) (λ ne. lost slots id even k s r at ne)

  pub tries : (slots id even : ℕ) (me : Mine M S N) → me.1 ≡ [] → is_placed me.0 ≡ true → even % 2 ≡ 0
      → Allows (Keeps holds name all) slots id me 0 (λ n. either (eqb n even) (even + 1) n) (Tries holds (step slots 0 even (even + 1) none) me)
  tries slots id even me idle placed is = let k = placed_view me.0 placed in
      subst (λ (z : Mine M S N). Allows (Keeps holds name all) slots id z 0 (λ n. either (eqb n even) (even + 1) n)
      (Tries holds (step slots 0 even (even + 1) none) z)) (λ i. (sym k.1 i, sym idle i))
      (tries_known slots id even k.0 k.2 is)

  -- the note that a seat's only slot is told
  abbrev told_note : N → List (ℕ × Held S N) → N
  told_note n [] = n
  told_note n (x ∷ xs) = note_or x.1.intent.mine n

  left : (slots id : ℕ) (k : View M S N) (x y : S) (note : N) → is_some k.number ≡ true → k.known.taken ≡ Some x
      → Replaces holds (place_of (Some k)) (known_of (Some k)) x y note
      → Allows (Keeps holds name all) slots id (Some k, (0, filled y note) ∷ []) 0 (λ n. (n + 1) % 2 ^ 64)
      (Leaves (step slots 0 1 0 none) (Some k, (0, filled y note) ∷ []))
  left slots id k x y note placed taken replaces s r long at bound =
      let mine = r.fits id (Some k) at in let word : ℕ = get_or s.words 0 0 in let h : Held S N = filled y note in
      let g : ℕ = r.gives + 1 in let new : ℕ = (word + 1) % 2 ^ 64 in let hs : List (base.Option (Held S N)) = set s.homes 0 (some h) in
      let l : View M S N = record k { known = record k.known { note = note; taken = None }; closing = false; given = g; seen = g } in
      let m : Moment S N = moment r.state r.holder r.gives s in
      let turn : FitsTurn m id k.closing (Some x) = subst (FitsTurn m id k.closing) taken mine.turn in
      let one = r.sound.one in let count = r.sound.count in let odd = turn.1 in let seen = mine.seen in
      let f = r.passes.each id k.known (at_map known_of s.views id (Some k) at) in
      let notes : List (Option N) = notes_of (passes_of s.views) in
      let here : get_elem? notes (place_of (Some k)) ≡ some (Some k.known.note) = subst (λ (z : ℕ). get_elem? notes z ≡ some (Some k.known.note))
      (sym (placed_at id k.number placed mine.number)) (note_at s.views id (Some k) at) in
      let held : holds k.known.name x notes = subst (λ (z : M × S). holds z.0 z.1 notes) (λ i. (sym f.0 i, sym turn.0 i)) r.rule in
      let after : holds k.known.name y (set notes id (Some note)) = subst (λ (z : ℕ). holds k.known.name y (set notes z (Some note)))
      (placed_at id k.number placed mine.number) (replaces notes here held) in (
        Some l,
        gives,
        tt,
        remade s r id new hs k l y id g at refl refl refl
            (subst (holds name y) (sym (notes-set s.views id (Some l))) (subst (λ (z : M). holds z y (set notes id (Some note))) f.0 after))
            (record { one = length-set s.homes 0 (some h) ∙ one; count = omega arith; free = λ e. (h, set_here s.homes 0 (some h) (omega arith), refl) })
            (record { number = mine.number; given = omega arith; seen = omega arith; turn = tt })
            (λ j v o e. unholding m (at_moment y id g new hs) j v (λ is. o (is ∙ sym turn.2)) (omega arith) (r.fits j v e)),
        (λ x' n' e. record {
          gives = g;
          count = omega arith;
          more = omega arith;
          has = λ i. (Some record k { known = record k.known { note = told_note note (e i); taken = None }; closing = false; given = g; seen = g }, []);
        }),
      )

  pub leaves : (slots id : ℕ) (me : Mine M S N) (x y : S) (note : N) → me.1 ≡ (0, filled y note) ∷ [] → is_placed me.0 ≡ true
      → taken_of (known_of me.0) ≡ Some x → Replaces holds (place_of me.0) (known_of me.0) x y note
      → Allows (Keeps holds name all) slots id me 0 (λ n. (n + 1) % 2 ^ 64) (Leaves (step slots 0 1 0 none) me)
  leaves slots id me x y note is placed taken replaces = let k = placed_view me.0 placed in
      subst (λ (z : Mine M S N). Allows (Keeps holds name all) slots id z 0 (λ n. (n + 1) % 2 ^ 64) (Leaves (step slots 0 1 0 none) z))
      (λ i. (sym k.1 i, sym is i))
      (left slots id k.0 x y note k.2 (subst (λ (v : Option (View M S N)). taken_of (known_of v) ≡ Some x) k.1 taken)
      (subst (λ (v : Option (View M S N)). Replaces holds (place_of v) (known_of v) x y note) k.1 replaces))

  told : (slots id : ℕ) (k : View M S N) (c : List (ℕ × Held S N)) (h : Held S N)
      → Allows (Keeps holds name all) slots id (Some k, c) 0 (λ n. either (eqb n 0) 0 n) (IsTold (step slots 0 0 0 (some h)) (Some k, c))
  told slots id k c h s r long at bound =
      let word : ℕ = get_or s.words 0 0 in let l : View M S N = record k { intent = h.intent } in let mine = r.fits id (Some k) at in
      let same : either (eqb word 0) 0 word ≡ word = exchanged word 0 0 (λ z. z ≡ word) (λ e. sym e) (λ ne. refl) in (
        Some l,
        keeps,
        tt,
        revised s r id (either (eqb word 0) 0 word) k l at same refl (record { number = mine.number; given = mine.given; seen = mine.seen; turn = mine.turn }),
        (λ h' e. let e' : h ≡ h' = base.some-injective h h' e in λ i. (Some record k { intent = (e' i).intent }, c)),
      )

  pub tells : (slots id : ℕ) (me : Mine M S N) (h : Held S N) → is_placed me.0 ≡ true
      → Allows (Keeps holds name all) slots id me 0 (λ n. either (eqb n 0) 0 n) (IsTold (step slots 0 0 0 (some h)) me)
  tells slots id me h placed = let k = placed_view me.0 placed in
      subst (λ (z : Mine M S N). Allows (Keeps holds name all) slots id z 0 (λ n. either (eqb n 0) 0 n) (IsTold (step slots 0 0 0 (some h)) z))
      (λ i. (sym k.1 i, me.1))
      (told slots id k.0 me.1 h)

  arrived : (slots id : ℕ) (k : View M S N) (c : List (ℕ × Held S N))
      → Allows (Keeps holds name all) slots id (Some k, c) 0 (λ n. n) (Arrives (step slots 0 0 0 none) (Some k, c))
  arrived slots id k c s r long at bound =
      let l : View M S N = record k { number = Some id; given = r.gives; seen = r.gives } in let mine = r.fits id (Some k) at in (
        Some l,
        keeps,
        tt,
        revised s r id (get_or s.words 0 0) k l at refl refl (record { number = refl; given = omega arith; seen = omega arith; turn = mine.turn }),
        record { number = id; gives = r.gives; count = r.sound.count; more = mine.seen; has = refl },
      )

  pub arrives : (slots id : ℕ) (me : Mine M S N) → is_live (known_of me.0) ≡ true
      → Allows (Keeps holds name all) slots id me 0 (λ n. n) (Arrives (step slots 0 0 0 none) me)
  arrives slots id me live = let k = live_view me.0 live in
      subst (λ (z : Mine M S N). Allows (Keeps holds name all) slots id z 0 (λ n. n) (Arrives (step slots 0 0 0 none) z)) (λ i. (sym k.1 i, me.1))
      (arrived slots id k.0 me.1)

  looked : (slots id : ℕ) (k : View M S N) (c : List (ℕ × Held S N))
      → Allows (Keeps holds name all) slots id (Some k, c) 0 (λ n. n) (LooksAgain (step slots 0 0 0 none) (Some k, c))
  looked slots id k c s r long at bound =
      let l : View M S N = record k { seen = r.gives } in let mine = r.fits id (Some k) at in (
        Some l,
        keeps,
        tt,
        revised s r id (get_or s.words 0 0) k l at refl refl (record { number = mine.number; given = mine.given; seen = omega arith; turn = mine.turn }),
        record { gives = r.gives; count = r.sound.count; more = mine.given; has = refl },
      )

  pub looks : (slots id : ℕ) (me : Mine M S N) → is_placed me.0 ≡ true
      → Allows (Keeps holds name all) slots id me 0 (λ n. n) (LooksAgain (step slots 0 0 0 none) me)
  looks slots id me placed = let k = placed_view me.0 placed in
      subst (λ (z : Mine M S N). Allows (Keeps holds name all) slots id z 0 (λ n. n) (LooksAgain (step slots 0 0 0 none) z)) (λ i. (sym k.1 i, me.1))
      (looked slots id k.0 me.1)

  put : (slots id : ℕ) (k : View M S N) (x : S) → k.known.taken ≡ Some x
      → Allows (Keeps holds name all) slots id (Some k, (0, empty) ∷ []) 0 (λ n. (n + 0) % 2 ^ 64) (PutsHome (step slots 0 0 0 none) (Some k, (0, empty) ∷ []))
  put slots id k x taken s r long at bound =
      let word : ℕ = get_or s.words 0 0 in let n : ℕ = (word + 0) % 2 ^ 64 in let mine = r.fits id (Some k) at in let l : View M S N = record k
      { closing = true } in
      let m : Moment S N = moment r.state r.holder r.gives s in let hs : List (base.Option (Held S N)) = set s.homes 0 (some empty) in
      let turn : FitsTurn m id k.closing (Some x) = subst (FitsTurn m id k.closing) taken mine.turn in
      let one = r.sound.one in let count = r.sound.count in let odd = turn.1 in
      let here : get_elem? hs 0 ≡ some (some empty) = set_here s.homes 0 (some empty) (omega arith) in
      let now : n % 2 ≡ 1 = omega arith in let m' : Moment S N = at_moment r.state r.holder r.gives n hs in (
        Some l,
        gives,
        tt,
        remade s r id n hs k l r.state r.holder r.gives at refl refl refl (subst (holds name r.state) (sym (same_notes s.views id k l at refl)) r.rule)
            (record { one = length-set s.homes 0 (some empty) ∙ one; count = omega arith; free = λ e. absurd (omega arith) })
            (record {
              number = mine.number;
              given = mine.given;
              seen = mine.seen;
              turn = subst (FitsTurn m' id true) (sym taken)
                  (turn.0, now, turn.2, λ _. here);
            })
            (λ j v o e. unholding m m' j v (λ is. o (is ∙ sym turn.2)) (omega arith) (r.fits j v e)),
        refl,
      )

  pub puts_home : (slots id : ℕ) (me : Mine M S N) (x : S) → me.1 ≡ (0, empty) ∷ [] → taken_of (known_of me.0) ≡ Some x
      → Allows (Keeps holds name all) slots id me 0 (λ n. (n + 0) % 2 ^ 64) (PutsHome (step slots 0 0 0 none) me)
  puts_home slots id (None, c) x is taken = absurd cc
  puts_home slots id (Some k, c) x is taken =
      subst (λ (z : List (ℕ × Held S N)). Allows (Keeps holds name all) slots id (Some k, z) 0 (λ n. (n + 0) % 2 ^ 64)
      (PutsHome (step slots 0 0 0 none) (Some k, z))) (sym is)
      (put slots id k x taken)
