-- What a program meets while it runs, and how it ends. The meaning of C and the meaning of IL share all of this.
use Rattle.std.specs.Prelude.{ℕ, zero, suc, ◌%◌, ◌^◌, List, [], ◌∷◌, ◌++◌, nat_eq, nat_lt, if◌then◌else◌, Result, Ok, Err}
use Rattle.hlo_num.specs.declared.word.Trap.{Trap}
use Rattle.hlo_num.specs.declared.word.Trap.TheVariants.{Index}

-- The objects at file scope, as the words of each PID; the input left; the output so far; the turns left; and a log,
-- in which a meaning may note what it wants of the calls that are made. A scalar object is its word 0.
pub record World (S : Type 0) : Type 0 where
  pub objects : ℕ → ℕ → ℕ
  pub input : List ℕ
  pub output : List ℕ
  pub turns : ℕ
  pub log : S

-- how a program ends
pub data Ending : Type 0 where
  Exit : ℕ → Ending
  Trapped : Trap → Ending
  OutOfTurns : Ending

-- how a call ends: it returns a word, which is 0 where the routine gives no value; or it ends the program, with the
-- output and the log then; or nothing says how it goes on, which no valid program meets
pub data Outcome (S : Type 0) : Type 0 where
  Returns : ℕ → World S → Outcome S
  Ends : Ending → List ℕ → S → Outcome S
  Stuck : Outcome S

-- the program ends here
abbrev pub ended : {S : Type 0} → Ending → World S → Outcome S
ended e w = Ends e w.output w.log

-- what `getchar` gives: the next byte, or 4294967295 after the end of the input
abbrev pub first_byte : List ℕ → ℕ
first_byte [] = 4294967295
first_byte (b ∷ bs) = b

abbrev pub other_bytes : List ℕ → List ℕ
other_bytes [] = []
other_bytes (b ∷ bs) = bs

abbrev pub after_get : {S : Type 0} → World S → World S
after_get w = record w { input = other_bytes w.input }

-- what `putchar` puts out and gives: the low 8 bits
abbrev pub low_byte : ℕ → ℕ
low_byte v = v % 2 ^ 8

abbrev pub after_put : {S : Type 0} → ℕ → World S → World S
after_put v w = record w { output = w.output ++ low_byte v ∷ [] }

-- One turn: goes on with one turn less where one is left, and stops elsewhere.
abbrev pub turn_at : {S A : Type 0} → A → (World S → A) → World S → ℕ → A
turn_at stop go w zero = stop
turn_at stop go w (suc t) = go (record w { turns = t })

abbrev pub turn : {S A : Type 0} → (World S → A) → (World S → A) → World S → A
turn stop go w = turn_at (stop w) go w w.turns

-- a test of a word: the second for 0
abbrev pub choose : {A : Type 0} → ℕ → A → A → A
choose zero a b = b
choose (suc n) a b = a

-- a number for each name, with one of them replaced
abbrev pub put : (ℕ → ℕ) → ℕ → ℕ → ℕ → ℕ
put f x v y = if nat_eq y x then v else f y

-- the same for an element of an object or an array
abbrev pub put_element : (ℕ → ℕ → ℕ) → ℕ → ℕ → ℕ → ℕ → ℕ → ℕ
put_element f x i v y = if nat_eq y x then put (f x) i v else f y

abbrev pub with_object : {S : Type 0} → World S → ℕ → ℕ → ℕ → World S
with_object w g i v = record w { objects = put_element w.objects g i v }

-- the words of a list, and then 0
abbrev pub from_list : List ℕ → ℕ → ℕ
from_list [] x = 0
from_list (v ∷ vs) zero = v
from_list (v ∷ vs) (suc x) = from_list vs x

abbrev pub each : (ℕ → ℕ) → List ℕ → List ℕ
each f [] = []
each f (x ∷ xs) = f x ∷ each f xs

-- goes on with an operator's word, or ends with its trap
abbrev pub with_word : {S : Type 0} → Result ℕ Trap → World S → (ℕ → Outcome S) → Outcome S
with_word (Ok v) w go = go v
with_word (Err t) w go = ended (Trapped t) w

-- goes on where the index is inside a length, and traps elsewhere
abbrev pub within : {S : Type 0} → ℕ → ℕ → World S → Outcome S → Outcome S
within index len w go = if nat_lt index len then go else ended (Trapped Index) w

-- goes on with what a call returned
abbrev pub with_return : {S : Type 0} → Outcome S → (ℕ → World S → Outcome S) → Outcome S
with_return (Returns v w) go = go v w
with_return (Ends e output log) go = Ends e output log
with_return Stuck go = Stuck
