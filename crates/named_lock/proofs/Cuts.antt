-- A split and an end keep the rule of the table.
use Rattle.std.proofs.Common.{◌≡◌, ◌≢◌, ℕ, ◌<◌, List, [], ◌∷◌, ◌++◌, set, Option, Some, None, true, sym, ap, ◌∙◌, subst, ⊎_elim, arith}
use Rattle.std.specs.Prelude.{is_some}
use mathlib.Core.Option.{some}
use mathlib.Core.List.{map-append}
use lib.ListN.{get_elem?}
use lib.Seq.{map-set}
use Rattle.std.specs.declared.snapshot.Snapshot.{Snapshot}
use Rattle.atomic_table.specs.Table.{Splits, Joins}
use Rattle.atomic_table.proofs.Lists.{at_set, set_else, at_map, at_snoc}
use Rattle.named_lock.specs.declared.view.Known.{Known}
use Rattle.named_lock.specs.declared.view.View.{View}
use Rattle.named_lock.specs.declared.view.Intent.{Intent}
use Rattle.named_lock.specs.Known.{AreAllPasses, note_of, notes_of, share_of}
use Rattle.named_lock.specs.Rules.{MaySplit, MayEnd}
use Rattle.named_lock.specs.Keeps.{Keeps, FitsPass, moment, known_of, place_of, passes_of}
use Rattle.named_lock.specs.Steps.{with_intent, left_of, right_of, both_of}
use Rattle.named_lock.specs.Pass.{is_placed}
use Rattle.named_lock.proofs.Passes.{shares-set, shares-snoc, each_set, each_gone, each_snoc}
use Rattle.named_lock.proofs.Views.{placed_at}
use Rattle.named_lock.proofs.Moves.{note_at}

module _ {M S N : Type 0} (holds : M → S → List (Option N) → Type 0) (name : M) (all : ℕ) where
  -- what a split is told: the two notes, and the new pass's share
  abbrev pub cutting : Snapshot N → Snapshot N → ℕ → Intent N
  cutting m o c = record { mine = Some m; other = Some o; share = c }

  cut_known : (id : ℕ) (k : View M S N) (m o : Snapshot N) (c : ℕ) → is_some k.number ≡ true → 0 < c → c < k.known.share
      → MaySplit holds (place_of (Some k)) (known_of (Some k)) m.value o.value
      → Splits (Keeps holds name all) id (with_intent (cutting m o c) (Some k)) (left_of (with_intent (cutting m o c) (Some k)))
      (right_of (with_intent (cutting m o c) (Some k)))
  cut_known id k m o c placed some_share less may s r at =
      let mine = r.fits id _ at in let vs = s.views in let ps : List (Option (Known M S N)) = passes_of vs in
      let l : Option (View M S N) = left_of (with_intent (cutting m o c) (Some k)) in let w : Option (View M S N) = right_of
      (with_intent (cutting m o c) (Some k)) in
      let at' : get_elem? ps id ≡ some (Some k.known) = at_map known_of vs id _ at in let f = r.passes.each id k.known at' in
      let number = placed_at id k.number placed mine.number in
      let before : get_elem? (notes_of ps) (place_of (Some k)) ≡ some (Some k.known.note) = subst
      (λ (z : ℕ). get_elem? (notes_of ps) z ≡ some (Some k.known.note)) (sym number) (note_at holds name all vs id _ at) in
      let rule : holds name r.state (set (notes_of ps) id (Some m.value) ++ Some o.value ∷ []) =
      subst (λ (z : M × ℕ). holds z.0 r.state (set (notes_of ps) z.1 (Some m.value) ++ Some o.value ∷ [])) (λ i. (f.0 i, number i))
      (may r.state (notes_of ps) before (subst (λ (z : M). holds z r.state (notes_of ps)) (sym f.0) r.rule)) in
      let passes : passes_of (set vs id l ++ w ∷ []) ≡ set ps id (known_of l) ++ known_of w ∷ [] = map-append known_of (set vs id l) (w ∷ []) ∙ ap
      (λ (z : List (Option (Known M S N))). z ++ known_of w ∷ []) (map-set known_of vs id l) in
      let notes : notes_of (passes_of (set vs id l ++ w ∷ [])) ≡ set (notes_of ps) id (Some m.value) ++ Some o.value ∷ [] =
      ap notes_of passes ∙ map-append note_of (set ps id (known_of l)) (known_of w ∷ []) ∙ ap (λ (z : List (Option N)). z ++ Some o.value ∷ [])
      (map-set note_of ps id (known_of l)) in
      let sum = shares-snoc (set ps id (known_of l)) (known_of w) in let put = shares-set ps id _ (known_of l) at' in let total = r.passes.shares in
      record {
        state = r.state;
        holder = r.holder;
        gives = r.gives;
        wide = r.wide;
        rule = subst (holds name r.state) (sym notes) rule;
        passes = subst (AreAllPasses name all) (sym passes) (record {
          shares = omega arith;
          each = each_snoc name all (set ps id (known_of l)) _ (each_set name all ps id _ r.passes.each (f.0, f.1, omega arith)) (f.0, f.1, some_share);
        });
        sound = r.sound;
        fits = λ j v e. ⊎_elim
            (λ (t : get_elem? (set vs id l) j ≡ some v). ⊎_elim
            (λ (u : (j ≡ id) × (l ≡ v)). subst (FitsPass (moment r.state r.holder r.gives s) j) u.1
            (subst (λ (z : ℕ). FitsPass (moment r.state r.holder r.gives s) z l) (sym u.0)
            (record { number = mine.number; given = mine.given; seen = mine.seen; turn = mine.turn })))
            (λ (u : (j ≢ id) × (get_elem? vs j ≡ some v)). r.fits j v u.1)
            (at_set vs id j l v t))
            (λ (t : w ≡ v). subst (FitsPass (moment r.state r.holder r.gives s) j) t (record { number = tt; given = mine.seen; seen = mine.seen; turn = tt }))
            (at_snoc (set vs id l) w v j e);
      }

  pub cuts : (id : ℕ) (u v : Option (View M S N)) (m o : Snapshot N) (mine other : N) (c : ℕ) → u ≡ with_intent (cutting m o c) v → m.value ≡ mine
      → o.value ≡ other
      → is_placed v ≡ true → 0 < c → c < share_of (known_of v) → MaySplit holds (place_of v) (known_of v) mine other
      → Splits (Keeps holds name all) id u (left_of u) (right_of u)
  cuts id u None m o mine other c is em eo placed some_share less may = absurd cc
  cuts id u (Some k) m o mine other c is em eo placed some_share less may = subst (λ z. Splits (Keeps holds name all) id z (left_of z) (right_of z)) (sym is)
      (cut_known id k m o c placed some_share less (subst (λ (z : N × N). MaySplit holds (place_of (Some k)) (known_of (Some k)) z.0 z.1)
      (λ i. (sym em i, sym eo i)) may))

  -- what an end is told: the note for both
  abbrev pub merging : Snapshot N → Intent N
  merging m = record { mine = Some m; other = None; share = 0 }

  joins_known : (id other : ℕ) (k l : View M S N) (m : Snapshot N) → is_some k.number ≡ true → is_some l.number ≡ true
      → MayEnd holds (place_of (Some k)) (known_of (Some k)) (place_of (Some l)) (known_of (Some l)) m.value
      → Joins (Keeps holds name all) id (with_intent (merging m) (Some k)) other (Some l) (both_of (with_intent (merging m) (Some k)) (Some l)) None
  joins_known id other k l m placed placed' may s r at apart at' =
      let mine = r.fits id _ at in let vs = s.views in let ps : List (Option (Known M S N)) = passes_of vs in
      let b : Option (View M S N) = both_of (with_intent (merging m) (Some k)) (Some l) in
      let there : get_elem? vs other ≡ some (Some l) = sym (set_else vs id other b apart) ∙ at' in let its = r.fits other (Some l) there in
      let k_at : get_elem? ps id ≡ some (Some k.known) = at_map known_of vs id _ at in let l_at : get_elem? ps other ≡ some (Some l.known) = at_map known_of vs
      other _ there in
      let f = r.passes.each id k.known k_at in
      let i_is = placed_at id k.number placed mine.number in let j_is = placed_at other l.number placed' its.number in
      let rule : holds name r.state (set (set (notes_of ps) id (Some m.value)) other None) =
      subst (λ (z : M × ℕ × ℕ). holds z.0 r.state (set (set (notes_of ps) z.1 (Some m.value)) z.2 None)) (λ i. (f.0 i, i_is i, j_is i))
      (may r.state (notes_of ps) (λ e. apart (sym j_is ∙ sym e ∙ i_is))
      (subst (λ (z : ℕ). get_elem? (notes_of ps) z ≡ some (Some k.known.note)) (sym i_is) (note_at holds name all vs id _ at))
      (subst (λ (z : ℕ). get_elem? (notes_of ps) z ≡ some (Some l.known.note)) (sym j_is) (note_at holds name all vs other _ there))
      (subst (λ (z : M). holds z r.state (notes_of ps)) (sym f.0) r.rule)) in
      let passes : passes_of (set (set vs id b) other None) ≡ set (set ps id (known_of b)) other None = map-set known_of (set vs id b) other None ∙ ap
      (λ (z : List (Option (Known M S N))). set z other None) (map-set known_of vs id b) in
      let notes : notes_of (passes_of (set (set vs id b) other None)) ≡ set (set (notes_of ps) id (Some m.value)) other None =
      ap notes_of passes ∙ map-set note_of (set ps id (known_of b)) other None ∙ ap (λ (z : List (Option N)). set z other None)
      (map-set note_of ps id (known_of b)) in
      let l_still : get_elem? (set ps id (known_of b)) other ≡ some (Some l.known) = set_else ps id other (known_of b) apart ∙ l_at in
      let one = shares-set ps id _ (known_of b) k_at in let two = shares-set (set ps id (known_of b)) other (Some l.known) None l_still in let total =
      r.passes.shares in
      record {
        state = r.state;
        holder = r.holder;
        gives = r.gives;
        wide = r.wide;
        rule = subst (holds name r.state) (sym notes) rule;
        passes = subst (AreAllPasses name all) (sym passes) (record {
          shares = omega arith;
          each = each_gone name all (set ps id (known_of b)) other (each_set name all ps id _ r.passes.each (f.0, f.1, omega (arith, f.2)));
        });
        sound = r.sound;
        fits = λ j v e. ⊎_elim
            (λ (t : (j ≡ other) × (None ≡ v)). subst (FitsPass (moment r.state r.holder r.gives s) j) t.1 tt)
            (λ (t : (j ≢ other) × (get_elem? (set vs id b) j ≡ some v)). ⊎_elim
            (λ (u : (j ≡ id) × (b ≡ v)). subst (FitsPass (moment r.state r.holder r.gives s) j) u.1
            (subst (λ (z : ℕ). FitsPass (moment r.state r.holder r.gives s) z b) (sym u.0)
            (record { number = mine.number; given = mine.given; seen = mine.seen; turn = mine.turn })))
            (λ (u : (j ≢ id) × (get_elem? vs j ≡ some v)). r.fits j v u.1)
            (at_set vs id j b v t.1))
            (at_set (set vs id b) other j None v e);
      }

  pub joins : (id other : ℕ) (u v w : Option (View M S N)) (m : Snapshot N) (note : N) → u ≡ with_intent (merging m) v → m.value ≡ note → is_placed v ≡ true
      → is_placed w ≡ true
      → MayEnd holds (place_of v) (known_of v) (place_of w) (known_of w) note
      → Joins (Keeps holds name all) id u other w (both_of u w) None
  joins id other u None w m note is em placed placed' may = absurd cc
  joins id other u (Some k) None m note is em placed placed' may = absurd cc
  joins id other u (Some k) (Some l) m note is em placed placed' may = subst (λ z. Joins (Keeps holds name all) id z other (Some l) (both_of z (Some l)) None)
      (sym is)
      (joins_known id other k l m placed placed' (subst (λ (z : N). MayEnd holds (place_of (Some k)) (known_of (Some k)) (place_of (Some l)) (known_of (Some l))
      z) (sym em) may))
