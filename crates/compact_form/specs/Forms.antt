-- What is read is what the compact form has, on both sides.
use Rattle.std.proofs.Common.{◌≡◌, ℕ, ◌+◌, ◌-◌, ◌<◌, ◌≤◌, ◌^◌, Bool, true, false, List, [], ◌∷◌, ◌++◌, length, Option, Some, None, refl, sym, ◌∙◌, ap}
use Rattle.std.proofs.Common.{subst, arith, append-nil, append_assoc}
use Rattle.std.specs.Prelude.{◌==◌, IsTrue, nat_lt, nat_le, if◌then◌else◌}
use Rattle.std.specs.List.{AllByRecursion}
use Rattle.std.proofs.lemmas.Bool.{lt-ltb, ltb-true, ltb-false, le-leb, leb-true, eqb-true}
use Rattle.hlo_num.specs.declared.word.Op.{Op}
use Rattle.hlo_num.specs.declared.word.Op.TheVariants.{AddS, AddU, SubS, SubU, MulS, MulU, DivS, DivU, RemS, RemU, And, Or, Xor, Shl, ShrS, ShrU, Eq}
use Rattle.hlo_num.specs.declared.word.Op.TheVariants.{Ne, LtS, LtU, LeS, LeU}
use Rattle.hlo_num.specs.declared.word.Ty.{Ty}
use Rattle.hlo_num.specs.declared.word.Ty.TheVariants.{Char, UChar, Short, UShort, Int, UInt, Long, ULong}
use Rattle.hlo_num.specs.Words.{is_narrow}
use Rattle.il_core.specs.declared.instr.Block.{Block}
use Rattle.il_core.specs.declared.instr.Instr.{Instr}
use Rattle.il_core.specs.declared.instr.Instr.TheVariants.{Const, Move, Conv, Bin, Get, Set, GetX, SetX, GetA, SetA, Clear, Turn, Call, GetChar, PutChar}
use Rattle.il_core.specs.declared.instr.End.{End}
use Rattle.il_core.specs.declared.instr.End.TheVariants.{Jump, Branch, Loop, Return, Exit}
use Rattle.il_core.specs.Limits.{IsInstr, max_parameters, max_pids, max_size}
use Rattle.il_core.specs.Ranges.{AreWords, numbers_of, end_numbers}
use Rattle.compact_form.specs.declared.opcode.Opcode.{Opcode}
use Rattle.compact_form.specs.declared.opcode.Opcode.TheVariants as code
use Rattle.compact_form.specs.declared.opcode.EndCode.{EndCode}
use Rattle.compact_form.specs.declared.opcode.EndCode.TheVariants as end_code
use Rattle.compact_form.specs.Numbers.{spelled, spelled_all}
use Rattle.compact_form.specs.Compact.{place_of, number_of, opcode, operands, instr_form, end_opcode, end_operands, end_form, counted, block_form}
use Rattle.compact_form.specs.Reading.{Reply, goes, read_list, list_up_to, read_number, read_pair, read_triple, byte_of, end_byte_of, first_of_number}
use Rattle.compact_form.specs.Reading.{operators, operator_at, fixed_codes, bin_code, opcode_at, end_codes, end_code_at, narrow_types, narrow_at}
use Rattle.compact_form.specs.Reading.{with_some, kept, is_pid, read_args, read_counted, read_call, read_operands, read_instr, read_end_operands}
use Rattle.compact_form.specs.Reading.{read_end, read_block}
use Rattle.compact_form.specs.Lists.{same_reply, goes_back, kept_back, Reads, reads_number, list_complete, list_sound, reads_counted}

-- ---- rows of numbers

abbrev pub AreTwo : ℕ × ℕ → Type 0
AreTwo x = (x.0 < 2 ^ 32) × (x.1 < 2 ^ 32)

abbrev pub two_form : ℕ × ℕ → List ℕ
two_form x = spelled_all (x.0 ∷ x.1 ∷ [])

abbrev second_go : ℕ → ℕ → List ℕ → Reply (ℕ × ℕ)
second_go a b vs = Some ((a, b), vs)

abbrev first_go : ℕ → List ℕ → Reply (ℕ × ℕ)
first_go a us = goes (read_number us) (λ b vs. second_go a b vs)

pub reads_pair : Reads {A = ℕ × ℕ} read_pair two_form AreTwo
reads_pair = record {
  complete = λ x rest h.
      ap read_pair (append_assoc (spelled x.0) (spelled_all (x.1 ∷ [])) rest ∙ ap (λ l. spelled x.0 ++ l) (append_assoc (spelled x.1) [] rest))
      ∙ ap (λ r. goes r first_go) (reads_number.complete x.0 (spelled x.1 ++ rest) h.0)
      ∙ ap (λ r. goes r (second_go x.0)) (reads_number.complete x.1 rest h.1);
  sound = λ bs x rest h.
      let a = goes_back (read_number bs) first_go (x, rest) h in
      let b = goes_back (read_number a.1) (second_go a.0) (x, rest) a.3 in
      let same = same_reply {A = ℕ × ℕ} (a.0, b.0) x b.1 rest b.3 in
      let left = reads_number.sound bs a.0 a.1 a.2 in
      let right = reads_number.sound a.1 b.0 b.1 b.2 in
      let split : bs ≡ spelled_all (a.0 ∷ b.0 ∷ []) ++ rest =
      left.0 ∙ ap (λ l. spelled a.0 ++ l) (right.0 ∙ ap (λ l. spelled b.0 ++ l) same.1 ∙ sym (append_assoc (spelled b.0) [] rest)) ∙ sym
      (append_assoc (spelled a.0) (spelled_all (b.0 ∷ [])) rest) in
      subst (λ y. (bs ≡ two_form y ++ rest) × AreTwo y) same.0 (split, (left.1, right.1));
}

abbrev pub AreThree : ℕ × ℕ × ℕ → Type 0
AreThree x = (x.0 < 2 ^ 32) × (x.1 < 2 ^ 32) × (x.2 < 2 ^ 32)

abbrev pub three_form : ℕ × ℕ × ℕ → List ℕ
three_form x = spelled_all (x.0 ∷ x.1 ∷ x.2 ∷ [])

abbrev others_go : ℕ → ℕ × ℕ → List ℕ → Reply (ℕ × ℕ × ℕ)
others_go a x vs = Some ((a, x.0, x.1), vs)

abbrev triple_go : ℕ → List ℕ → Reply (ℕ × ℕ × ℕ)
triple_go a us = goes (read_pair us) (λ x vs. others_go a x vs)

pub reads_triple : Reads {A = ℕ × ℕ × ℕ} read_triple three_form AreThree
reads_triple = record {
  complete = λ x rest h.
      ap read_triple (append_assoc (spelled x.0) (spelled_all (x.1 ∷ x.2 ∷ [])) rest)
      ∙ ap (λ r. goes r triple_go) (reads_number.complete x.0 (spelled_all (x.1 ∷ x.2 ∷ []) ++ rest) h.0)
      ∙ ap (λ r. goes r (others_go x.0)) (reads_pair.complete (x.1, x.2) rest (h.1, h.2));
  sound = λ bs x rest h.
      let a = goes_back (read_number bs) triple_go (x, rest) h in
      let b = goes_back (read_pair a.1) (others_go a.0) (x, rest) a.3 in
      let same = same_reply {A = ℕ × ℕ × ℕ} (a.0, b.0.0, b.0.1) x b.1 rest b.3 in
      let left = reads_number.sound bs a.0 a.1 a.2 in
      let right = reads_pair.sound a.1 b.0 b.1 b.2 in
      let split : bs ≡ spelled_all (a.0 ∷ b.0.0 ∷ b.0.1 ∷ []) ++ rest =
      left.0 ∙ ap (λ l. spelled a.0 ++ l) (right.0 ∙ ap (λ l. two_form b.0 ++ l) same.1) ∙ sym (append_assoc (spelled a.0) (two_form b.0) rest) in
      subst (λ y. (bs ≡ three_form y ++ rest) × AreThree y) same.0 (split, (left.1, right.1.0, right.1.1));
}

-- ---- tables

first_sound : {X : Type 0} (number : X → ℕ) (n : ℕ) (P : X → Type 0) (xs : List X) (x : X) → AllByRecursion P xs → first_of_number number n xs ≡ Some x
    → (number x ≡ n) × P x
first_sound number n P [] x all h = absurd (cc)
first_sound number n P (y ∷ ys) x all h = at (number y == n) refl (λ g. first_sound number n P ys x all.1 g) h
  where
    at : (t : Bool) → (number y == n) ≡ t → (first_of_number number n ys ≡ Some x → (number x ≡ n) × P x)
        → (if t then Some y else first_of_number number n ys) ≡ Some x → (number x ≡ n) × P x
    at true is others g = let same : y ≡ x = cc g in subst (λ z. (number z ≡ n) × P z) same (eqb-true (number y) n is, all.0)
    at false is others g = others g

operator_there : (o : Op) → operator_at (place_of o) ≡ Some o
operator_there AddS = refl
operator_there AddU = refl
operator_there SubS = refl
operator_there SubU = refl
operator_there MulS = refl
operator_there MulU = refl
operator_there DivS = refl
operator_there DivU = refl
operator_there RemS = refl
operator_there RemU = refl
operator_there And = refl
operator_there Or = refl
operator_there Xor = refl
operator_there Shl = refl
operator_there ShrS = refl
operator_there ShrU = refl
operator_there Eq = refl
operator_there Ne = refl
operator_there LtS = refl
operator_there LtU = refl
operator_there LeS = refl
operator_there LeU = refl

opcode_of_bin : (o : Op) → opcode_at (0x10 + place_of o) ≡ Some (code.Bin o)
opcode_of_bin AddS = refl
opcode_of_bin AddU = refl
opcode_of_bin SubS = refl
opcode_of_bin SubU = refl
opcode_of_bin MulS = refl
opcode_of_bin MulU = refl
opcode_of_bin DivS = refl
opcode_of_bin DivU = refl
opcode_of_bin RemS = refl
opcode_of_bin RemU = refl
opcode_of_bin And = refl
opcode_of_bin Or = refl
opcode_of_bin Xor = refl
opcode_of_bin Shl = refl
opcode_of_bin ShrS = refl
opcode_of_bin ShrU = refl
opcode_of_bin Eq = refl
opcode_of_bin Ne = refl
opcode_of_bin LtS = refl
opcode_of_bin LtU = refl
opcode_of_bin LeS = refl
opcode_of_bin LeU = refl

opcode_sound : (b : ℕ) (k : Opcode) → opcode_at b ≡ Some k → byte_of k ≡ b
opcode_sound b k h = at (nat_lt b 16) refl h
  where
    bin : (o : Option Op) → 16 ≤ b → operator_at (b - 16) ≡ o → bin_code o ≡ Some k → byte_of k ≡ b
    bin None le is g = absurd (cc)
    bin (Some o) le is g =
        let same : code.Bin o ≡ k = cc g in
        let place = (first_sound place_of (b - 16) (λ _. Unit {0}) operators o
        (tt, (tt, (tt, (tt, (tt, (tt, (tt, (tt, (tt, (tt, (tt, (tt, (tt, (tt, (tt, (tt, (tt, (tt, (tt, (tt, (tt, (tt, tt)))))))))))))))))))))) is).0 in
        ap byte_of (sym same) ∙ omega (arith, place)

    at : (t : Bool) → nat_lt b 16 ≡ t → (if t then first_of_number byte_of b fixed_codes else bin_code (operator_at (b - 16))) ≡ Some k → byte_of k ≡ b
    at true is g = (first_sound byte_of b (λ _. Unit {0}) fixed_codes k
        (tt, (tt, (tt, (tt, (tt, (tt, (tt, (tt, (tt, (tt, (tt, (tt, (tt, (tt, (tt, tt))))))))))))))) g).0
    at false is g = bin (operator_at (b - 16)) (ltb-false b 16 is) refl g

end_code_sound : (b : ℕ) (k : EndCode) → end_code_at b ≡ Some k → end_byte_of k ≡ b
end_code_sound b k h = (first_sound end_byte_of b (λ _. Unit {0}) end_codes k (tt, (tt, (tt, (tt, (tt, (tt, tt)))))) h).0

narrow_sound : (n : ℕ) (t : Ty) → narrow_at n ≡ Some t → (number_of t ≡ n) × IsTrue (is_narrow t)
narrow_sound n t h = first_sound number_of n (λ t. IsTrue (is_narrow t)) narrow_types t (refl, (refl, (refl, (refl, tt)))) h

narrow_there : (t : Ty) → IsTrue (is_narrow t) → narrow_at (number_of t) ≡ Some t
narrow_there Char h = refl
narrow_there UChar h = refl
narrow_there Short h = refl
narrow_there UShort h = refl
narrow_there Int h = absurd (cc h)
narrow_there UInt h = absurd (cc h)
narrow_there Long h = absurd (cc h)
narrow_there ULong h = absurd (cc h)

pub number_is_word : (t : Ty) → number_of t < 2 ^ 32
number_is_word Char = omega arith
number_is_word UChar = omega arith
number_is_word Short = omega arith
number_is_word UShort = omega arith
number_is_word Int = omega arith
number_is_word UInt = omega arith
number_is_word Long = omega arith
number_is_word ULong = omega arith

-- ---- one value made of numbers that were read

module _ {A B : Type 0} (p : List ℕ → Reply A) (form : A → List ℕ) (ok : A → Type 0) (reads : Reads p form ok) (test : A → Bool) (f : A → B) where
  abbrev tested_go : A → List ℕ → Reply B
  tested_go x r = kept (test x) (f x) r

  tested_complete : (x : A) (rest : List ℕ) → ok x → test x ≡ true → goes (p (form x ++ rest)) tested_go ≡ Some (f x, rest)
  tested_complete x rest fits passes = ap (λ r. goes r tested_go) (reads.complete x rest fits) ∙ ap (λ b. kept b (f x) rest) passes

  record Tested (bs : List ℕ) (y : B) (rest : List ℕ) : Type 0 where
    value : A
    split : bs ≡ form value ++ rest
    fits : ok value
    passes : test value ≡ true
    made : f value ≡ y

  tested_sound : (bs : List ℕ) (y : B) (rest : List ℕ) → goes (p bs) tested_go ≡ Some (y, rest) → Tested bs y rest
  tested_sound bs y rest h =
      let a = goes_back (p bs) tested_go (y, rest) h in
      let k = kept_back (test a.0) (Some (f a.0, a.1)) (y, rest) a.3 in
      let same = same_reply (f a.0) y a.1 rest k.1 in
      let s = reads.sound bs a.0 a.1 a.2 in
      record { value = a.0; split = s.0 ∙ ap (λ l. form a.0 ++ l) same.1; fits = s.1; passes = k.0; made = same.0 }

-- ---- instructions

abbrev pub Fits : Instr → Type 0
Fits i = IsInstr i × AreWords (numbers_of i)

record Operands (k : Opcode) (bs : List ℕ) (i : Instr) (rest : List ℕ) : Type 0 where
  byte : opcode i ≡ byte_of k
  split : bs ≡ spelled_all (operands i) ++ rest
  fits : Fits i

from_tested : {A : Type 0} (p : List ℕ → Reply A) (form : A → List ℕ) (ok : A → Type 0) (reads : Reads p form ok) (test : A → Bool) (f : A → Instr) (k : Opcode)
    → ((x : A) → opcode (f x) ≡ byte_of k) → ((x : A) → form x ≡ spelled_all (operands (f x))) → ((x : A) → ok x → test x ≡ true → Fits (f x))
    → (bs : List ℕ) (i : Instr) (rest : List ℕ) → goes (p bs) (λ x r. kept (test x) (f x) r) ≡ Some (i, rest) → Operands k bs i rest
from_tested p form ok reads test f k byte formed fitting bs i rest h =
    let t = tested_sound p form ok reads test f bs i rest h in
    subst (λ j. Operands k bs j rest) t.made (record {
      byte = byte t.value;
      split = t.split ∙ ap (λ l. l ++ rest) (formed t.value);
      fits = fitting t.value
          t.fits t.passes;
    })

pid_true : (n : ℕ) → is_pid n ≡ true → n < max_pids
pid_true n h = ltb-true n max_pids h

pid_there : (n : ℕ) → n < max_pids → is_pid n ≡ true
pid_there n h = lt-ltb n max_pids h

pub with_back : {A B : Type 0} (o : Option A) (go : A → Reply B) (z : B × List ℕ) → with_some o go ≡ Some z → (x : A) × (o ≡ Some x) × (go x ≡ Some z)
with_back None go z h = absurd (cc)
with_back (Some x) go z h = (x, refl, h)

abbrev conv_go : ℕ × ℕ × ℕ → List ℕ → Reply Instr
conv_go x r = with_some (narrow_at x.1) (λ t. Some (Conv x.0 t x.2, r))

conv_sound : (bs : List ℕ) (i : Instr) (rest : List ℕ) → goes (read_triple bs) conv_go ≡ Some (i, rest) → Operands code.Conv bs i rest
conv_sound bs i rest h =
    let a = goes_back (read_triple bs) conv_go (i, rest) h in
    let t = with_back (narrow_at a.0.1) (λ t. Some (Conv a.0.0 t a.0.2, a.1)) (i, rest) a.3 in
    let n = narrow_sound a.0.1 t.0 t.1 in
    let s = reads_triple.sound bs a.0 a.1 a.2 in
    let same = same_reply (Conv a.0.0 t.0 a.0.2) i a.1 rest t.2 in
    subst (λ j. Operands code.Conv bs j rest) same.0 (record {
      byte = refl;
      split = s.0 ∙ ap (λ l. three_form a.0 ++ l) same.1 ∙ ap (λ m. spelled_all (a.0.0 ∷ m ∷ a.0.2 ∷ []) ++ rest) (sym n.0);
      fits = (n.1, (s.1.0, (s.1.2, tt)));
    })

abbrev clear_last : ℕ × ℕ → ℕ × ℕ → List ℕ → Reply Instr
clear_last x y s = Some (Clear x.0 x.1 y.0 y.1, s)

abbrev clear_go : ℕ × ℕ → List ℕ → Reply Instr
clear_go x r = goes (read_pair r) (λ y s. clear_last x y s)

four_row : (a b c d : ℕ) (rest : List ℕ) → two_form (a, b) ++ (two_form (c, d) ++ rest) ≡ spelled_all (a ∷ b ∷ c ∷ d ∷ []) ++ rest
four_row a b c d rest = simp append_assoc

clear_sound : (bs : List ℕ) (i : Instr) (rest : List ℕ) → goes (read_pair bs) clear_go ≡ Some (i, rest) → Operands code.Clear bs i rest
clear_sound bs i rest h =
    let a = goes_back (read_pair bs) clear_go (i, rest) h in
    let b = goes_back (read_pair a.1) (clear_last a.0) (i, rest) a.3 in
    let left = reads_pair.sound bs a.0 a.1 a.2 in
    let right = reads_pair.sound a.1 b.0 b.1 b.2 in
    let same = same_reply (Clear a.0.0 a.0.1 b.0.0 b.0.1) i b.1 rest b.3 in
    subst (λ j. Operands code.Clear bs j rest) same.0 (record {
      byte = refl;
      split = left.0 ∙ ap (λ l. two_form a.0 ++ l) (right.0 ∙ ap (λ l. two_form b.0 ++ l) same.1) ∙ four_row a.0.0 a.0.1 b.0.0 b.0.1 rest;
      fits = (tt, (left.1.0, (left.1.1, (right.1.0, (right.1.1, tt)))));
    })

clear_complete : (a b c d : ℕ) (rest : List ℕ) → a < 2 ^ 32 → b < 2 ^ 32 → c < 2 ^ 32 → d < 2 ^ 32
    → goes (read_pair (spelled_all (a ∷ b ∷ c ∷ d ∷ []) ++ rest)) clear_go ≡ Some (Clear a b c d, rest)
clear_complete a b c d rest la lb lc ld =
    ap (λ l. goes (read_pair l) clear_go) (sym (four_row a b c d rest))
    ∙ ap (λ r. goes r clear_go) (reads_pair.complete (a, b) (two_form (c, d) ++ rest) (la, lb))
    ∙ ap (λ r. goes r (clear_last (a, b))) (reads_pair.complete (c, d) rest (lc, ld))

-- ---- calls

abbrev call_last : Option ℕ → ℕ × ℕ × ℕ → List ℕ → List ℕ → Reply Instr
call_last dest x args s = Some (Call dest x.0 x.1 args, s)

call_row : (f n l : ℕ) (args rest : List ℕ) → three_form (f, n, l) ++ (spelled_all args ++ rest) ≡ spelled_all (f ∷ n ∷ l ∷ args) ++ rest
call_row f n l args rest = simp append_assoc

call_complete : (dest : Option ℕ) (f n : ℕ) (args rest : List ℕ) → f < max_pids → n < 2 ^ 32 → AreWords args → length args ≤ max_parameters
    → read_call dest (spelled_all (f ∷ n ∷ length args ∷ args) ++ rest) ≡ Some (Call dest f n args, rest)
call_complete dest f n args rest pid word words few =
    ap (read_call dest) (sym (call_row f n (length args) args rest))
    ∙ ap (λ r. goes r (λ x us. read_args dest x us)) (reads_triple.complete (f, n, length args) (spelled_all args ++ rest) (omega arith, word, omega arith))
    ∙ ap (λ b. if b then goes (list_up_to read_number max_parameters (length args) (spelled_all args ++ rest)) (call_last dest (f, n, length args)) else None)
    (pid_there f pid)
    ∙ ap (λ b. goes (if b then read_list read_number (length args) (spelled_all args ++ rest) else None) (call_last dest (f, n, length args)))
    (le-leb (length args) max_parameters few)
    ∙ ap (λ r. goes r (call_last dest (f, n, length args))) (list_complete read_number spelled (λ m. m < 2 ^ 32) reads_number args rest words)

record Called (dest : Option ℕ) (bs : List ℕ) (i : Instr) (rest : List ℕ) : Type 0 where
  callee : ℕ
  count : ℕ
  args : List ℕ
  made : Call dest callee count args ≡ i
  split : bs ≡ spelled_all (callee ∷ count ∷ length args ∷ args) ++ rest
  pid : callee < max_pids
  word : count < 2 ^ 32
  few : length args ≤ max_parameters
  words : AreWords args

call_sound : (dest : Option ℕ) (bs : List ℕ) (i : Instr) (rest : List ℕ) → read_call dest bs ≡ Some (i, rest) → Called dest bs i rest
call_sound dest bs i rest h =
    let a = goes_back (read_triple bs) (λ x us. read_args dest x us) (i, rest) h in
    let b = kept_back (is_pid a.0.0) (goes (list_up_to read_number max_parameters a.0.2 a.1) (call_last dest a.0)) (i, rest) a.3 in
    let c = goes_back (list_up_to read_number max_parameters a.0.2 a.1) (call_last dest a.0) (i, rest) b.1 in
    let d = kept_back (nat_le a.0.2 max_parameters) (read_list read_number a.0.2 a.1) (c.0, c.1) c.2 in
    let l = list_sound read_number spelled (λ m. m < 2 ^ 32) reads_number a.0.2 a.1 c.0 c.1 d.1 in
    let s = reads_triple.sound bs a.0 a.1 a.2 in
    let same = same_reply (Call dest a.0.0 a.0.1 c.0) i c.1 rest c.3 in
    record {
      callee = a.0.0;
      count = a.0.1;
      args = c.0;
      made = same.0;
      split = s.0 ∙ ap (λ us. three_form a.0 ++ us) (l.split ∙ ap (λ us. spelled_all c.0 ++ us) same.1) ∙ call_row a.0.0 a.0.1 a.0.2 c.0 rest ∙ ap
          (λ m. spelled_all (a.0.0 ∷ a.0.1 ∷ m ∷ c.0) ++ rest) (sym l.count);
      pid = pid_true a.0.0 b.0;
      word = s.1.1;
      few = omega (arith, l.count, leb-true a.0.2 max_parameters d.0);
      words = l.all;
    }

-- ---- one instruction

operands_sound : (k : Opcode) (bs : List ℕ) (i : Instr) (rest : List ℕ) → read_operands k bs ≡ Some (i, rest) → Operands k bs i rest
operands_sound code.Const bs i rest h = from_tested {A = ℕ × ℕ} read_pair two_form AreTwo reads_pair (λ _. true) (λ x. Const x.0 (record { 0 = x.1 }))
    code.Const (λ x. refl) (λ x. refl) (λ x w t. (tt, (w.0, (w.1, tt)))) bs i rest h
operands_sound code.Move bs i rest h = from_tested {A = ℕ × ℕ} read_pair two_form AreTwo reads_pair (λ _. true) (λ x. Move x.0 x.1) code.Move (λ x. refl)
    (λ x. refl) (λ x w t. (tt, (w.0, (w.1, tt)))) bs i rest h
operands_sound code.Conv bs i rest h = conv_sound bs i rest h
operands_sound code.Get bs i rest h = from_tested {A = ℕ × ℕ} read_pair two_form AreTwo reads_pair (λ x. is_pid x.1) (λ x. Get x.0 x.1) code.Get (λ x. refl)
    (λ x. refl) (λ x w t. (pid_true x.1 t, (w.0, (w.1, tt)))) bs i rest h
operands_sound code.Set bs i rest h = from_tested {A = ℕ × ℕ} read_pair two_form AreTwo reads_pair (λ x. is_pid x.0) (λ x. Set x.0 x.1) code.Set (λ x. refl)
    (λ x. refl) (λ x w t. (pid_true x.0 t, (w.0, (w.1, tt)))) bs i rest h
operands_sound code.GetX bs i rest h = from_tested {A = ℕ × ℕ × ℕ} read_triple three_form AreThree reads_triple (λ x. is_pid x.1) (λ x. GetX x.0 x.1 x.2)
    code.GetX (λ x. refl) (λ x. refl) (λ x w t. (pid_true x.1 t, (w.0, (w.1, (w.2, tt))))) bs i rest h
operands_sound code.SetX bs i rest h = from_tested {A = ℕ × ℕ × ℕ} read_triple three_form AreThree reads_triple (λ x. is_pid x.0) (λ x. SetX x.0 x.1 x.2)
    code.SetX (λ x. refl) (λ x. refl) (λ x w t. (pid_true x.0 t, (w.0, (w.1, (w.2, tt))))) bs i rest h
operands_sound code.GetA bs i rest h = from_tested {A = ℕ × ℕ × ℕ} read_triple three_form AreThree reads_triple (λ _. true) (λ x. GetA x.0 x.1 x.2) code.GetA
    (λ x. refl) (λ x. refl) (λ x w t. (tt, (w.0, (w.1, (w.2, tt))))) bs i rest h
operands_sound code.SetA bs i rest h = from_tested {A = ℕ × ℕ × ℕ} read_triple three_form AreThree reads_triple (λ _. true) (λ x. SetA x.0 x.1 x.2) code.SetA
    (λ x. refl) (λ x. refl) (λ x w t. (tt, (w.0, (w.1, (w.2, tt))))) bs i rest h
operands_sound code.Clear bs i rest h = clear_sound bs i rest h
operands_sound code.Turn bs i rest h =
    let same = same_reply Turn i bs rest h in
    subst (λ j. Operands code.Turn bs j rest) same.0 (record { byte = refl; split = same.1; fits = (tt, tt) })
operands_sound code.CallVoid bs i rest h =
    let c = call_sound None bs i rest h in
    subst (λ j. Operands code.CallVoid bs j rest) c.made (record {
      byte = refl;
      split = c.split;
      fits =
          ((c.pid, c.few), (omega (arith, c.pid), (c.word, c.words)));
    })
operands_sound code.CallValue bs i rest h =
    let a = goes_back (read_number bs) (λ d r. read_call (Some d) r) (i, rest) h in
    let s = reads_number.sound bs a.0 a.1 a.2 in
    let c = call_sound (Some a.0) a.1 i rest a.3 in
    subst (λ j. Operands code.CallValue bs j rest) c.made (record {
      byte = refl;
      split = s.0 ∙ ap (λ l. spelled a.0 ++ l) c.split ∙ sym (append_assoc (spelled a.0) (spelled_all (c.callee ∷ c.count ∷ length c.args ∷ c.args)) rest);
      fits = ((c.pid, c.few), (s.1, (omega (arith, c.pid), (c.word, c.words))));
    })
operands_sound code.GetChar bs i rest h = from_tested read_number spelled (λ n. n < 2 ^ 32) reads_number (λ _. true) (λ d. GetChar d) code.GetChar (λ x. refl)
    (λ x. sym (append-nil (spelled x))) (λ x w t. (tt, (w, tt))) bs i rest h
operands_sound code.PutChar bs i rest h = from_tested {A = ℕ × ℕ} read_pair two_form AreTwo reads_pair (λ _. true) (λ x. PutChar x.0 x.1) code.PutChar
    (λ x. refl) (λ x. refl) (λ x w t. (tt, (w.0, (w.1, tt)))) bs i rest h
operands_sound (code.Bin o) bs i rest h = from_tested {A = ℕ × ℕ × ℕ} read_triple three_form AreThree reads_triple (λ _. true) (λ x. Bin o x.0 x.1 x.2)
    (code.Bin o) (λ x. refl) (λ x. refl) (λ x w t. (tt, (w.0, (w.1, (w.2, tt))))) bs i rest h

instr_sound : (bs : List ℕ) (i : Instr) (rest : List ℕ) → read_instr bs ≡ Some (i, rest) → (bs ≡ instr_form i ++ rest) × Fits i
instr_sound [] i rest h = absurd (cc)
instr_sound (b ∷ bs) i rest h =
    let k = with_back (opcode_at b) (λ k. read_operands k bs) (i, rest) h in
    let o = operands_sound k.0 bs i rest k.2 in
    (ap (λ x. x ∷ bs) (sym (opcode_sound b k.0 k.1) ∙ sym o.byte) ∙ ap (λ l. opcode i ∷ l) o.split, o.fits)

number_complete : {B : Type 0} (n : ℕ) (rest : List ℕ) (go : ℕ → List ℕ → Reply B) → n < 2 ^ 32
    → goes (read_number (spelled_all (n ∷ []) ++ rest)) go ≡ go n rest
number_complete n rest go word = ap (λ l. goes (read_number (l ++ rest)) go) (append-nil (spelled n)) ∙ ap (λ r. goes r go) (reads_number.complete n rest word)

instr_complete : (i : Instr) (rest : List ℕ) → Fits i → read_instr (instr_form i ++ rest) ≡ Some (i, rest)
instr_complete (Const d w) rest h = tested_complete {A = ℕ × ℕ} read_pair two_form AreTwo reads_pair (λ _. true) (λ x. Const x.0 (record { 0 = x.1 })) (d, w.0)
    rest (h.1.0, h.1.1.0) refl
instr_complete (Move d s) rest h = tested_complete {A = ℕ × ℕ} read_pair two_form AreTwo reads_pair (λ _. true) (λ x. Move x.0 x.1) (d, s) rest (h.1.0, h.1.1.0)
    refl
instr_complete (Conv d t s) rest h =
    ap (λ r. goes r conv_go) (reads_triple.complete (d, number_of t, s) rest (h.1.0, number_is_word t, h.1.1.0))
    ∙ ap (λ o. with_some o (λ u. Some (Conv d u s, rest))) (narrow_there t h.0)
instr_complete (Get d g) rest h = tested_complete {A = ℕ × ℕ} read_pair two_form AreTwo reads_pair (λ x. is_pid x.1) (λ x. Get x.0 x.1) (d, g) rest
    (h.1.0, h.1.1.0) (pid_there g h.0)
instr_complete (Set g s) rest h = tested_complete {A = ℕ × ℕ} read_pair two_form AreTwo reads_pair (λ x. is_pid x.0) (λ x. Set x.0 x.1) (g, s) rest
    (h.1.0, h.1.1.0) (pid_there g h.0)
instr_complete (GetX d g i) rest h = tested_complete {A = ℕ × ℕ × ℕ} read_triple three_form AreThree reads_triple (λ x. is_pid x.1) (λ x. GetX x.0 x.1 x.2)
    (d, g, i) rest (h.1.0, h.1.1.0, h.1.1.1.0) (pid_there g h.0)
instr_complete (SetX g i s) rest h = tested_complete {A = ℕ × ℕ × ℕ} read_triple three_form AreThree reads_triple (λ x. is_pid x.0) (λ x. SetX x.0 x.1 x.2)
    (g, i, s) rest (h.1.0, h.1.1.0, h.1.1.1.0) (pid_there g h.0)
instr_complete (GetA d a i) rest h = tested_complete {A = ℕ × ℕ × ℕ} read_triple three_form AreThree reads_triple (λ _. true) (λ x. GetA x.0 x.1 x.2) (d, a, i)
    rest (h.1.0, h.1.1.0, h.1.1.1.0) refl
instr_complete (SetA a i s) rest h = tested_complete {A = ℕ × ℕ × ℕ} read_triple three_form AreThree reads_triple (λ _. true) (λ x. SetA x.0 x.1 x.2) (a, i, s)
    rest (h.1.0, h.1.1.0, h.1.1.1.0) refl
instr_complete (Clear r n a m) rest h = clear_complete r n a m rest h.1.0 h.1.1.0 h.1.1.1.0 h.1.1.1.1.0
instr_complete Turn rest h = refl
instr_complete (Call None f n args) rest h = call_complete None f n args rest h.0.0 h.1.1.0 h.1.1.1 h.0.1
instr_complete (Call (Some d) f n args) rest h =
    ap (λ l. goes (read_number l) (λ e r. read_call (Some e) r)) (append_assoc (spelled d) (spelled_all (f ∷ n ∷ length args ∷ args)) rest)
    ∙ ap (λ r. goes r (λ e us. read_call (Some e) us)) (reads_number.complete d (spelled_all (f ∷ n ∷ length args ∷ args) ++ rest) h.1.0)
    ∙ call_complete (Some d) f n args rest h.0.0 h.1.1.1.0 h.1.1.1.1 h.0.1
instr_complete (GetChar d) rest h = number_complete d rest (λ e r. Some (GetChar e, r)) h.1.0
instr_complete (PutChar d s) rest h = tested_complete {A = ℕ × ℕ} read_pair two_form AreTwo reads_pair (λ _. true) (λ x. PutChar x.0 x.1) (d, s) rest
    (h.1.0, h.1.1.0) refl
instr_complete (Bin o d a b) rest h =
    ap (λ k. with_some k (λ c. read_operands c (three_form (d, a, b) ++ rest))) (opcode_of_bin o)
    ∙ tested_complete {A = ℕ × ℕ × ℕ} read_triple three_form AreThree reads_triple (λ _. true) (λ x. Bin o x.0 x.1 x.2) (d, a, b) rest
    (h.1.0, h.1.1.0, h.1.1.1.0) refl

pub reads_instr : Reads read_instr instr_form Fits
reads_instr = record { complete = λ i rest h. instr_complete i rest h; sound = λ bs i rest h. instr_sound bs i rest h }

-- ---- ends

abbrev pub EndFits : End → Type 0
EndFits e = AreWords (end_numbers e)

record EndOperands (k : EndCode) (bs : List ℕ) (e : End) (rest : List ℕ) : Type 0 where
  byte : end_opcode e ≡ end_byte_of k
  split : bs ≡ spelled_all (end_operands e) ++ rest
  fits : EndFits e

end_tested : {A : Type 0} (p : List ℕ → Reply A) (form : A → List ℕ) (ok : A → Type 0) (reads : Reads p form ok) (f : A → End) (k : EndCode)
    → ((x : A) → end_opcode (f x) ≡ end_byte_of k) → ((x : A) → form x ≡ spelled_all (end_operands (f x))) → ((x : A) → ok x → EndFits (f x))
    → (bs : List ℕ) (e : End) (rest : List ℕ) → goes (p bs) (λ x r. Some (f x, r)) ≡ Some (e, rest) → EndOperands k bs e rest
end_tested p form ok reads f k byte formed fitting bs e rest h =
    let t = tested_sound p form ok reads (λ _. true) f bs e rest h in
    subst (λ j. EndOperands k bs j rest) t.made (record {
      byte = byte t.value;
      split = t.split ∙ ap (λ l. l ++ rest) (formed t.value);
      fits = fitting t.value
          t.fits;
    })

end_operands_sound : (k : EndCode) (bs : List ℕ) (e : End) (rest : List ℕ) → read_end_operands k bs ≡ Some (e, rest) → EndOperands k bs e rest
end_operands_sound end_code.Jump bs e rest h = end_tested read_number spelled (λ n. n < 2 ^ 32) reads_number (λ t. Jump t) end_code.Jump (λ x. refl)
    (λ x. sym (append-nil (spelled x))) (λ x w. (w, tt)) bs e rest h
end_operands_sound end_code.Branch bs e rest h = end_tested {A = ℕ × ℕ × ℕ} read_triple three_form AreThree reads_triple (λ x. Branch x.0 x.1 x.2)
    end_code.Branch (λ x. refl) (λ x. refl) (λ x w. (w.0, (w.1, (w.2, tt)))) bs e rest h
end_operands_sound end_code.Loop bs e rest h = end_tested read_number spelled (λ n. n < 2 ^ 32) reads_number (λ t. Loop t) end_code.Loop (λ x. refl)
    (λ x. sym (append-nil (spelled x))) (λ x w. (w, tt)) bs e rest h
end_operands_sound end_code.ReturnVoid bs e rest h =
    let same = same_reply (Return None) e bs rest h in
    subst (λ j. EndOperands end_code.ReturnVoid bs j rest) same.0 (record { byte = refl; split = same.1; fits = tt })
end_operands_sound end_code.ReturnValue bs e rest h = end_tested read_number spelled (λ n. n < 2 ^ 32) reads_number (λ x. Return (Some x)) end_code.ReturnValue
    (λ x. refl) (λ x. sym (append-nil (spelled x))) (λ x w. (w, tt)) bs e rest h
end_operands_sound end_code.Exit bs e rest h = end_tested read_number spelled (λ n. n < 2 ^ 32) reads_number (λ x. Exit x) end_code.Exit (λ x. refl)
    (λ x. sym (append-nil (spelled x))) (λ x w. (w, tt)) bs e rest h

end_sound : (bs : List ℕ) (e : End) (rest : List ℕ) → read_end bs ≡ Some (e, rest) → (bs ≡ end_form e ++ rest) × EndFits e
end_sound [] e rest h = absurd (cc)
end_sound (b ∷ bs) e rest h =
    let k = with_back (end_code_at b) (λ k. read_end_operands k bs) (e, rest) h in
    let o = end_operands_sound k.0 bs e rest k.2 in
    (ap (λ x. x ∷ bs) (sym (end_code_sound b k.0 k.1) ∙ sym o.byte) ∙ ap (λ l. end_opcode e ∷ l) o.split, o.fits)

end_complete : (e : End) (rest : List ℕ) → EndFits e → read_end (end_form e ++ rest) ≡ Some (e, rest)
end_complete (Jump t) rest h = number_complete t rest (λ u r. Some (Jump u, r)) h.0
end_complete (Branch r t u) rest h = tested_complete {A = ℕ × ℕ × ℕ} read_triple three_form AreThree reads_triple (λ _. true) (λ x. Branch x.0 x.1 x.2)
    (r, t, u) rest (h.0, h.1.0, h.1.1.0) refl
end_complete (Loop t) rest h = number_complete t rest (λ u r. Some (Loop u, r)) h.0
end_complete (Return None) rest h = refl
end_complete (Return (Some x)) rest h = number_complete x rest (λ u r. Some (Return (Some u), r)) h.0
end_complete (Exit x) rest h = number_complete x rest (λ u r. Some (Exit u, r)) h.0

pub reads_end : Reads read_end end_form EndFits
reads_end = record { complete = λ e rest h. end_complete e rest h; sound = λ bs e rest h. end_sound bs e rest h }

-- ---- blocks

abbrev pub BlockFits : Block → Type 0
BlockFits b = (AllByRecursion Fits b.instrs × (length b.instrs ≤ max_size)) × EndFits b.end

reads_instrs : Reads (read_counted read_instr max_size) (counted instr_form) (λ is. AllByRecursion Fits is × (length is ≤ max_size))
reads_instrs = reads_counted read_instr instr_form Fits reads_instr max_size (omega arith)

abbrev block_last : List Instr → End → List ℕ → Reply Block
block_last is e s = Some (record { instrs = is; end = e }, s)

abbrev block_go : List Instr → List ℕ → Reply Block
block_go is r = goes (read_end r) (λ e s. block_last is e s)

pub reads_block : Reads read_block block_form BlockFits
reads_block = record {
  complete = λ b rest h.
      ap read_block (append_assoc (counted instr_form b.instrs) (end_form b.end) rest)
      ∙ ap (λ r. goes r block_go) (reads_instrs.complete b.instrs (end_form b.end ++ rest) h.0)
      ∙ ap (λ r. goes r (block_last b.instrs)) (reads_end.complete b.end rest h.1);
  sound = λ bs b rest h.
      let a = goes_back (read_counted read_instr max_size bs) block_go (b, rest) h in
      let e = goes_back (read_end a.1) (block_last a.0) (b, rest) a.3 in
      let left = reads_instrs.sound bs a.0 a.1 a.2 in
      let right = reads_end.sound a.1 e.0 e.1 e.2 in
      let made : Block = record { instrs = a.0; end = e.0 } in
      let same = same_reply made b e.1 rest e.3 in
      let split : bs ≡ block_form made ++ rest =
      left.0 ∙ ap (λ l. counted instr_form a.0 ++ l) (right.0 ∙ ap (λ l. end_form e.0 ++ l) same.1) ∙ sym
      (append_assoc (counted instr_form a.0) (end_form e.0) rest) in
      subst (λ y. (bs ≡ block_form y ++ rest) × BlockFits y) same.0 (split, (left.1, right.1));
}
