-- What each plain instruction does to the words of a running program.
use Rattle.std.proofs.Common.{◌≡◌, ℕ, ◌+◌, ◌<◌, ◌≤◌, List, length, take, get_or, refl, ap, subst, sym, ◌∙◌, arith, length-set, Bool}
use Rattle.std.specs.Prelude.{slice_index, slice_set, if◌then◌else◌, Result, Ok, Err}
use Rattle.std.proofs.lemmas.List.{take-set-le, same_lists, get_or-take, get_or_default, get_or_read, length-take}
use Rattle.std.proofs.lemmas.Bool.{lt-ltb}
use Rattle.hlo_num.specs.declared.word.Op.{Op}
use Rattle.hlo_num.specs.declared.word.Ty.{Ty}
use Rattle.hlo_num.specs.declared.word.Word.{Word}
use Rattle.hlo_num.specs.declared.word.Trap.{Trap}
use Rattle.hlo_num.specs.declared.word.Trap.TheVariants.{Index}
use Rattle.hlo_num.specs.Words.{convert}
use Rattle.hlo_num.specs.Operators.{operate}
use Rattle.il_core.specs.declared.instr.Instr.{Instr}
use Rattle.il_core.specs.declared.instr.Instr.TheVariants.{Const, Move, Conv, Bin, Get, Set, GetX, SetX, GetA, SetA, Clear}
use Rattle.il_core.specs.Routine.{RoutineParts}
use Rattle.il_core.specs.World.{put_element}
use Rattle.il_core.specs.Meaning.{with_reg}
use Rattle.il_run.specs.declared.store.Store.{Store}
use Rattle.il_run.specs.Words.{window, arrays_in, start_of, Zeroed, AreStarts}
use Rattle.il_run.specs.Plain.{Data, gets, inside, frame_in, data_in, Holds, KeepsBelow, Executes, Fits, SetsReg, SetsWord, SetsElement, Clears}
use Rattle.il_run.proofs.Words.{window_in, window_set, element_in, arrays_set, window_zeroed, arrays_zeroed, start_read, named, before_end}

take_zeroed : (xs ys : List ℕ) (from to n : ℕ) → Zeroed xs ys from to → n ≤ from → take n ys ≡ take n xs
take_zeroed xs ys from to n z le =
    same_lists (take n ys) (take n xs) (omega (arith, length-take n ys, length-take n xs, z.count))
    (λ k d lt. let few : k < n = omega (arith, length-take n ys) in let inner : k < length ys = omega (arith, length-take n ys) in let outer : k < length xs =
    omega (arith, length-take n ys, z.count) in
    get_or-take n ys k d few ∙ get_or_default ys k d 0 inner ∙ z.before k (omega arith) ∙ sym (get_or_default xs k d 0 outer) ∙ sym (get_or-take n xs k d few))

module _ (old : Store) (r : RoutineParts) (sizes : List ℕ) (h : Holds old r sizes) where
  by_arm : (i j : Instr) (new : Store) (o : Result (Unit {0}) Trap) → i ≡ j → Fits r sizes i → (Fits r sizes j → Executes r sizes j old new o)
      → Executes r sizes i old new o
  by_arm i j new o e fits go = subst (λ (k : Instr). Fits r sizes k → Executes r sizes k old new o) (sym e) go fits

  data_by : (f g : ℕ → ℕ) (a b m n : ℕ → ℕ → ℕ) → f ≡ g → a ≡ b → m ≡ n
      → ◌≡◌ {A = Data} (record { frame = record { regs = f; arrays = a }; objects = m }) (record { frame = record { regs = g; arrays = b }; objects = n })
  data_by f g a b m n p q s = λ i. record { frame = record { regs = p i; arrays = q i }; objects = s i }

  window_moved : (new : Store) (xs : List ℕ) → new.regs.items ≡ xs → new.at_regs ≡ old.at_regs
      → window new.regs.items new.at_regs r.regs ≡ window xs old.at_regs r.regs
  window_moved new xs e a = ap (λ (ys : List ℕ). window ys new.at_regs r.regs) e ∙ ap (λ (b : ℕ). window xs b r.regs) a

  arrays_moved : (new : Store) (xs : List ℕ) → new.elements.items ≡ xs → new.at_elements ≡ old.at_elements
      → arrays_in new.elements.items new.at_elements r.arrays ≡ arrays_in xs old.at_elements r.arrays
  arrays_moved new xs e a = ap (λ (ys : List ℕ). arrays_in ys new.at_elements r.arrays) e ∙ ap (λ (b : ℕ). arrays_in xs b r.arrays) a

  pub reg_is : (x : ℕ) → x < r.regs → slice_index old.regs.items (old.at_regs + x) ≡ (frame_in old r).regs x
  reg_is x lt = sym (window_in old.regs.items old.at_regs r.regs x lt)

  -- a register gets a word
  pub sets_data : (new : Store) (d v : ℕ) → d < r.regs → SetsReg old new d v
      → data_in new r sizes ≡ record (data_in old r sizes) { frame = with_reg (frame_in old r) d v }
  sets_data new d v lt s = data_by _ _ _ _ _ _
      (window_moved new (slice_set old.regs.items (old.at_regs + d) v) s.regs s.at_regs ∙ window_set old.regs.items old.at_regs r.regs d v lt (omega arith))
      (arrays_moved new old.elements.items s.elements s.at_elements)
      (ap (λ (ys : List ℕ). arrays_in ys 0 sizes) s.words)

  sets : (new : Store) (d v : ℕ) → d < r.regs → SetsReg old new d v
      → ◌≡◌ {A = Result Data Trap} (Ok (record (data_in old r sizes) { frame = with_reg (frame_in old r) d v })) (Ok (data_in new r sizes))
  sets new d v lt s = ap Ok (sym (sets_data new d v lt s))

  pub sets_below : (new : Store) (d v : ℕ) → SetsReg old new d v → KeepsBelow old new
  sets_below new d v s = record {
    at_regs = s.at_regs;
    at_elements = s.at_elements;
    regs = ap (λ (ys : List ℕ). take old.at_regs ys) s.regs ∙ take-set-le old.at_regs old.regs.items (old.at_regs + d) v (omega arith);
    elements = ap (λ (ys : List ℕ). take old.at_elements ys) s.elements;
    count_regs = ap length s.regs ∙ length-set old.regs.items (old.at_regs + d) v;
    count_elements = ap length s.elements;
    count_words = ap length s.words;
  }

  sets_as : (new : Store) (d v u : ℕ) → d < r.regs → SetsReg old new d v → u ≡ v
      → ◌≡◌ {A = Result Data Trap} (Ok (record (data_in old r sizes) { frame = with_reg (frame_in old r) d u })) (Ok (data_in new r sizes))
  sets_as new d v u lt s e = ap (λ (x : ℕ). Ok (record (data_in old r sizes) { frame = with_reg (frame_in old r) d x })) e ∙ sets new d v lt s

  pub const_done : (new : Store) (i : Instr) (d : ℕ) (v : Word) → i ≡ Const d v → Fits r sizes i → SetsReg old new d v.0 → Executes r sizes i old new (Ok tt)
  const_done new i d v e fits s = by_arm i (Const d v) new (Ok tt) e fits (λ lt. record { below = sets_below new d v.0 s; effect = sets new d v.0 lt s })

  pub move_done : (new : Store) (i : Instr) (d s v : ℕ) → i ≡ Move d s → Fits r sizes i → v ≡ slice_index old.regs.items (old.at_regs + s) → SetsReg old new d v
      → Executes r sizes i old new (Ok tt)
  move_done new i d s v e fits is set = by_arm i (Move d s) new (Ok tt) e fits
      (λ lt. record {
        below = sets_below new d v set;
        effect = sets_as new d v (window old.regs.items old.at_regs r.regs s) lt.0 set (sym (is ∙ reg_is s lt.1));
      })

  pub conv_done : (new : Store) (i : Instr) (d : ℕ) (t : Ty) (s v u : ℕ) → i ≡ Conv d t s → Fits r sizes i → v ≡ slice_index old.regs.items (old.at_regs + s)
      → u ≡ convert t v → SetsReg old new d u → Executes r sizes i old new (Ok tt)
  conv_done new i d t s v u e fits is to set = by_arm i (Conv d t s) new (Ok tt) e fits
      (λ lt. record {
        below = sets_below new d u set;
        effect = sets_as new d u (convert t (window old.regs.items old.at_regs r.regs s)) lt.0 set
            (sym (to ∙ ap (convert t) (is ∙ reg_is s lt.1)));
      })

  pub bin_done : (new : Store) (i : Instr) (o : Op) (d a b x y v : ℕ) → i ≡ Bin o d a b → Fits r sizes i → x ≡ slice_index old.regs.items (old.at_regs + a)
      → y ≡ slice_index old.regs.items (old.at_regs + b) → operate o x y ≡ Ok v → SetsReg old new d v → Executes r sizes i old new (Ok tt)
  bin_done new i o d a b x y v e fits isx isy op set = by_arm i (Bin o d a b) new (Ok tt) e fits (λ lt. record {
    below = sets_below new d v set;
    effect = ap (λ (u : Result ℕ Trap). gets (data_in old r sizes) d u)
        (ap (λ (u : ℕ). operate o u (window old.regs.items old.at_regs r.regs b)) (sym (isx ∙ reg_is a lt.1)) ∙ ap (λ (u : ℕ). operate o x u)
        (sym (isy ∙ reg_is b lt.2)) ∙ op) ∙ sets new d v lt.0 set;
  })

  pub get_done : (new : Store) (i : Instr) (d g at v : ℕ) (starts : List ℕ) → i ≡ Get d g → Fits r sizes i → AreStarts sizes starts → at ≡ get_or starts g at
      → v ≡ get_or old.words.items at v → SetsReg old new d v → Executes r sizes i old new (Ok tt)
  get_done new i d g at v starts e fits all is read set = by_arm i (Get d g) new (Ok tt) e fits (λ lt.
      let known : at ≡ start_of sizes g = let l : g < length sizes = named sizes g 0 lt.1 in start_read sizes starts g at all (omega arith) is in
      let inner : at < length old.words.items = omega (arith, before_end sizes g 0 lt.1) in
      record {
        below = sets_below new d v set;
        effect = sets_as new d v (arrays_in old.words.items 0 sizes g 0) lt.0 set
            (element_in old.words.items 0 sizes g 0 lt.1 ∙ ap (λ (k : ℕ). slice_index old.words.items k) (omega arith) ∙ sym
            (get_or_read old.words.items at v inner read 0));
      })

  -- goes on inside the length
  inside_is : (index len : ℕ) (m : Data) → index < len → inside index len m ≡ Ok m
  inside_is index len m lt = ap (λ (c : Bool). if c then Ok m else Err Index) (lt-ltb index len lt)

  pub get_x_done : (new : Store) (i : Instr) (d g x index at v : ℕ) → i ≡ GetX d g x → Fits r sizes i → index ≡ slice_index old.regs.items (old.at_regs + x)
      → index < slice_index sizes g → at ≡ start_of sizes g + index → v ≡ get_or old.words.items at v → SetsReg old new d v → Executes r sizes i old new (Ok tt)
  get_x_done new i d g x index at v e fits is lt is_at read set = by_arm i (GetX d g x) new (Ok tt) e fits (λ f. record {
    below = sets_below new d v set;
    effect = ap (λ (u : ℕ). inside u (slice_index sizes g) (record (data_in old r sizes)
        { frame = with_reg (frame_in old r) d (arrays_in old.words.items 0 sizes g u) })) (sym (is ∙ reg_is x f.1))
        ∙ inside_is index (slice_index sizes g) _ lt
        ∙ sets_as new d v (arrays_in old.words.items 0 sizes g index) f.0 set
        (element_in old.words.items 0 sizes g index lt ∙ ap (λ (k : ℕ). slice_index old.words.items k) (omega arith) ∙ sym
        (get_or_read old.words.items at v (omega (arith, before_end sizes g index lt)) read 0));
  })

  pub get_a_done : (new : Store) (i : Instr) (d a x index at v : ℕ) → i ≡ GetA d a x → Fits r sizes i → index ≡ slice_index old.regs.items (old.at_regs + x)
      → index < slice_index r.arrays a → at ≡ start_of r.arrays a + index → v ≡ get_or old.elements.items (old.at_elements + at) v → SetsReg old new d v
      → Executes r sizes i old new (Ok tt)
  get_a_done new i d a x index at v e fits is lt is_at read set = by_arm i (GetA d a x) new (Ok tt) e fits (λ f. record {
    below = sets_below new d v set;
    effect = ap (λ (u : ℕ). inside u (slice_index r.arrays a) (record (data_in old r sizes)
        { frame = with_reg (frame_in old r) d (arrays_in old.elements.items old.at_elements r.arrays a u) })) (sym (is ∙ reg_is x f.1))
        ∙ inside_is index (slice_index r.arrays a) _ lt
        ∙ sets_as new d v (arrays_in old.elements.items old.at_elements r.arrays a index) f.0 set
        (element_in old.elements.items old.at_elements r.arrays a index lt ∙ ap (λ (k : ℕ). slice_index old.elements.items k) (omega arith) ∙ sym
        (get_or_read old.elements.items (old.at_elements + at) v (omega (arith, before_end r.arrays a index lt)) read 0));
  })

  words_below : (new : Store) (at v : ℕ) → SetsWord old new at v → KeepsBelow old new
  words_below new at v s = record {
    at_regs = s.at_regs;
    at_elements = s.at_elements;
    regs = ap (λ (ys : List ℕ). take old.at_regs ys) s.regs;
    elements = ap (λ (ys : List ℕ). take old.at_elements ys) s.elements;
    count_regs = ap length s.regs;
    count_elements = ap length s.elements;
    count_words = ap length s.words ∙ length-set old.words.items at v;
  }

  -- an object's word is replaced
  sets_word : (new : Store) (g index at v u : ℕ) → index < slice_index sizes g → at ≡ start_of sizes g + index → SetsWord old new at v → u ≡ v
      → ◌≡◌ {A = Result Data Trap} (Ok (record (data_in old r sizes) { objects = put_element (arrays_in old.words.items 0 sizes) g index u }))
      (Ok (data_in new r sizes))
  sets_word new g index at v u lt is s e =
      ap (λ (x : ℕ). Ok (record (data_in old r sizes) { objects = put_element (arrays_in old.words.items 0 sizes) g index x })) e
      ∙ ap Ok (sym (data_by _ _ _ _ _ _
      (window_moved new old.regs.items s.regs s.at_regs)
      (arrays_moved new old.elements.items s.elements s.at_elements)
      (ap (λ (ys : List ℕ). arrays_in ys 0 sizes) (s.words ∙ ap (λ (k : ℕ). slice_set old.words.items k v)
      (let place : at ≡ 0 + start_of sizes g + index = omega arith in place)) ∙ arrays_set old.words.items 0 sizes g index v lt (omega arith))))

  pub set_done : (new : Store) (i : Instr) (g s at v : ℕ) (starts : List ℕ) → i ≡ Set g s → Fits r sizes i → AreStarts sizes starts → at ≡ get_or starts g at
      → v ≡ slice_index old.regs.items (old.at_regs + s) → SetsWord old new at v → Executes r sizes i old new (Ok tt)
  set_done new i g s at v starts e fits all is isv set = by_arm i (Set g s) new (Ok tt) e fits (λ f.
      let known : at ≡ start_of sizes g = let l : g < length sizes = named sizes g 0 f.1 in start_read sizes starts g at all (omega arith) is in
      record {
        below = words_below new at v set;
        effect = sets_word new g 0 at v (window old.regs.items old.at_regs r.regs s) f.1 (omega arith) set (sym (isv ∙ reg_is s f.0));
      })

  pub set_x_done : (new : Store) (i : Instr) (g x s index at v : ℕ) → i ≡ SetX g x s → Fits r sizes i → index ≡ slice_index old.regs.items (old.at_regs + x)
      → index < slice_index sizes g → at ≡ start_of sizes g + index → v ≡ slice_index old.regs.items (old.at_regs + s) → SetsWord old new at v
      → Executes r sizes i old new (Ok tt)
  set_x_done new i g x s index at v e fits is lt is_at isv set = by_arm i (SetX g x s) new (Ok tt) e fits (λ f. record {
    below = words_below new at v set;
    effect = ap (λ (u : ℕ). inside u (slice_index sizes g) (record (data_in old r sizes)
        { objects = put_element (arrays_in old.words.items 0 sizes) g u (window old.regs.items old.at_regs r.regs s) })) (sym (is ∙ reg_is x f.0))
        ∙ inside_is index (slice_index sizes g) _ lt
        ∙ sets_word new g index at v (window old.regs.items old.at_regs r.regs s) lt is_at set (sym (isv ∙ reg_is s f.1));
  })

  elements_below : (new : Store) (at v : ℕ) → SetsElement old new at v → KeepsBelow old new
  elements_below new at v s = record {
    at_regs = s.at_regs;
    at_elements = s.at_elements;
    regs = ap (λ (ys : List ℕ). take old.at_regs ys) s.regs;
    elements = ap (λ (ys : List ℕ). take old.at_elements ys) s.elements ∙ take-set-le old.at_elements old.elements.items (old.at_elements + at) v (omega arith);
    count_regs = ap length s.regs;
    count_elements = ap length s.elements ∙ length-set old.elements.items (old.at_elements + at) v;
    count_words = ap length s.words;
  }

  pub set_a_done : (new : Store) (i : Instr) (a x s index at v : ℕ) → i ≡ SetA a x s → Fits r sizes i → index ≡ slice_index old.regs.items (old.at_regs + x)
      → index < slice_index r.arrays a → at ≡ start_of r.arrays a + index → v ≡ slice_index old.regs.items (old.at_regs + s) → SetsElement old new at v
      → Executes r sizes i old new (Ok tt)
  set_a_done new i a x s index at v e fits is lt is_at isv set = by_arm i (SetA a x s) new (Ok tt) e fits (λ f. record {
    below = elements_below new at v set;
    effect = ap (λ (u : ℕ). inside u (slice_index r.arrays a) (record (data_in old r sizes) {
      frame = record (frame_in old r) {
        arrays = put_element (arrays_in old.elements.items old.at_elements r.arrays) a u
            (window old.regs.items old.at_regs r.regs s);
      };
    })) (sym (is ∙ reg_is x f.0))
        ∙ inside_is index (slice_index r.arrays a) _ lt
        ∙ ap (λ (u : ℕ). Ok (record (data_in old r sizes) {
          frame = record (frame_in old r)
              { arrays = put_element (arrays_in old.elements.items old.at_elements r.arrays) a index u };
        })) (sym (isv ∙ reg_is s f.1))
        ∙ ap Ok (sym (data_by _ _ _ _ _ _
        (window_moved new old.regs.items set.regs set.at_regs)
        (arrays_moved new (slice_set old.elements.items (old.at_elements + start_of r.arrays a + index) v)
        (set.elements ∙ ap (λ (k : ℕ). slice_set old.elements.items k v) (omega arith)) set.at_elements ∙ arrays_set old.elements.items old.at_elements
        r.arrays a index v lt (omega arith))
        (ap (λ (ys : List ℕ). arrays_in ys 0 sizes) set.words)));
  })

  pub clear_done : (new : Store) (i : Instr) (k c a m : ℕ) → i ≡ Clear k c a m → Fits r sizes i
      → Clears old new k c (start_of r.arrays a) (start_of r.arrays (a + m)) → Executes r sizes i old new (Ok tt)
  clear_done new i k c a m e fits s = by_arm i (Clear k c a m) new (Ok tt) e fits (λ f. record {
    below = record {
      at_regs = s.at_regs;
      at_elements = s.at_elements;
      regs = take_zeroed old.regs.items new.regs.items (old.at_regs + k) (old.at_regs + k + c) old.at_regs s.regs (omega arith);
      elements = take_zeroed old.elements.items new.elements.items (old.at_elements + start_of r.arrays a) (old.at_elements + start_of r.arrays (a + m))
          old.at_elements s.elements (omega arith);
      count_regs = s.regs.count;
      count_elements = s.elements.count;
      count_words = ap length s.words;
    };
    effect = ap Ok (sym (data_by _ _ _ _ _ _
        (window_moved new new.regs.items refl s.at_regs ∙ window_zeroed old.regs.items new.regs.items old.at_regs r.regs k c s.regs)
        (arrays_moved new new.elements.items refl s.at_elements ∙ arrays_zeroed old.elements.items new.elements.items old.at_elements r.arrays a m s.elements)
        (ap (λ (ys : List ℕ). arrays_in ys 0 sizes) s.words)));
  })
