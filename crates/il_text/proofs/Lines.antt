-- Lines that are written part by part.
use Rattle.std.proofs.Common.{◌≡◌, ℕ, List, [], ◌∷◌, ◌++◌, Option, Some, None, refl, sym, ◌∙◌, ap, append-nil, append_assoc, map}
use Rattle.std.specs.List.{join_with_byte}
use Rattle.std.specs.Fmt.{decimal}
use Rattle.std.specs.Prelude.{codes, Bool, ◌<◌, ◌&&◌, true, false}
use Rattle.std.specs.List.{list_all}
use Rattle.std.specs.Str.{IsAscii, IsUtf8}
use Rattle.std.proofs.Common.{arith, zero, suc}
use Rattle.std.proofs.lemmas.Bool.Decides.{nat_tests}
use Rattle.std.proofs.lemmas.Str.{IsUtf8-from_ascii}
use Rattle.hlo_num.specs.Name.{IsName, is_name_byte}
use Rattle.il_core.specs.Text.{indented, line, gets_if_some, reg, routine_parts, arrays_parts, value_name, object_parts, init_parts}
use Rattle.il_core.specs.Object.{ObjectParts}
use Rattle.il_core.specs.Routine.{RoutineParts}
use Rattle.il_text.specs.Spaced.{spaced, call_head, routine_head, object_head}

-- parts behind the first have a space before them
pub joined : (p : List ℕ) (ps : List (List ℕ)) → join_with_byte 32 (p ∷ ps) ≡ p ++ spaced ps
joined p [] = sym (append-nil p)
joined p (q ∷ qs) = ap (λ l. p ++ (32 ∷ l)) (joined q qs)

-- what stands behind the first parts
pub joined_more : (p : List ℕ) (ps qs : List (List ℕ)) → join_with_byte 32 (p ∷ (ps ++ qs)) ≡ join_with_byte 32 (p ∷ ps) ++ spaced qs
joined_more p [] qs = joined p qs
joined_more p (q ∷ ps) qs = ap (λ l. p ++ (32 ∷ l)) (joined_more q ps qs) ∙ sym (append_assoc p (32 ∷ join_with_byte 32 (q ∷ ps)) (spaced qs))

call_parts : (dest : Option ℕ) (callee count : ℕ) (args : List ℕ)
    → indented (gets_if_some dest (codes "call" ∷ decimal callee ∷ codes "count" ∷ decimal count ∷ map reg args)) ≡
    (call_head dest callee count ++ spaced (map reg args)) ++ 10 ∷ []
call_parts None callee count args = ap (λ l. 32 ∷ 32 ∷ (l ++ 10 ∷ []))
    (joined_more (codes "call") (decimal callee ∷ codes "count" ∷ decimal count ∷ []) (map reg args))
call_parts (Some d) callee count args = ap (λ l. 32 ∷ 32 ∷ (l ++ 10 ∷ []))
    (joined_more (reg d) (codes "=" ∷ codes "call" ∷ decimal callee ∷ codes "count" ∷ decimal count ∷ []) (map reg args))

pub call_line : (dest : Option ℕ) (callee count : ℕ) (args old head mid new : List ℕ) → head ≡ old ++ call_head dest callee count
    → mid ≡ head ++ spaced (map reg args) → new ≡ mid ++ 10 ∷ [] →
    new ≡ old ++ indented (gets_if_some dest (codes "call" ∷ decimal callee ∷ codes "count" ∷ decimal count ∷ map reg args))
call_line dest callee count args old head mid new e f g =
    g ∙ ap (λ l. l ++ 10 ∷ []) (f ∙ ap (λ l. l ++ spaced (map reg args)) e ∙ append_assoc old (call_head dest callee count) (spaced (map reg args)))
    ∙ append_assoc old (call_head dest callee count ++ spaced (map reg args)) (10 ∷ []) ∙ ap (λ l. old ++ l) (sym (call_parts dest callee count args))

routine_line_parts : (name : List ℕ) (r : RoutineParts) → line (routine_parts name r) ≡ (routine_head name r ++ spaced (arrays_parts r.arrays)) ++ 10 ∷ []
routine_line_parts name r =
    ap (λ l. l ++ 10 ∷ []) (joined_more (codes "routine") (decimal r.pid ∷ name ∷ codes "params" ∷ decimal r.params ∷ value_name r.value ∷ codes "regs" ∷
    decimal r.regs ∷ codes "entry" ∷ decimal r.entry ∷ []) (arrays_parts r.arrays))

pub routine_line : (name : List ℕ) (r : RoutineParts) (old head mid new : List ℕ) → head ≡ old ++ routine_head name r
    → mid ≡ head ++ spaced (arrays_parts r.arrays) → new ≡ mid ++ 10 ∷ [] → new ≡ old ++ line (routine_parts name r)
routine_line name r old head mid new e f g =
    g ∙ ap (λ l. l ++ 10 ∷ []) (f ∙ ap (λ l. l ++ spaced (arrays_parts r.arrays)) e ∙ append_assoc old (routine_head name r) (spaced (arrays_parts r.arrays)))
    ∙ append_assoc old (routine_head name r ++ spaced (arrays_parts r.arrays)) (10 ∷ []) ∙ ap (λ l. old ++ l) (sym (routine_line_parts name r))

object_line_parts : (name : List ℕ) (o : ObjectParts) → line (object_parts name o) ≡ (object_head name o ++ spaced (init_parts o.init)) ++ 10 ∷ []
object_line_parts name o = ap (λ l. l ++ 10 ∷ []) (joined_more (codes "object") (decimal o.pid ∷ name ∷ decimal o.words ∷ []) (init_parts o.init))

pub object_line : (name : List ℕ) (o : ObjectParts) (old head mid new : List ℕ) → head ≡ old ++ object_head name o → mid ≡ head ++ spaced (init_parts o.init)
    → new ≡ mid ++ 10 ∷ [] → new ≡ old ++ line (object_parts name o)
object_line name o old head mid new e f g =
    g ∙ ap (λ l. l ++ 10 ∷ []) (f ∙ ap (λ l. l ++ spaced (init_parts o.init)) e ∙ append_assoc old (object_head name o) (spaced (init_parts o.init)))
    ∙ append_assoc old (object_head name o ++ spaced (init_parts o.init)) (10 ∷ []) ∙ ap (λ l. old ++ l) (sym (object_line_parts name o))

first_true : (p q : Bool) → (p && q) ≡ true → p ≡ true
first_true true q h = refl
first_true false q h = h

second_true : (p q : Bool) → (p && q) ≡ true → q ≡ true
second_true true q h = h
second_true false q h = absurd (cc)

-- a name is ASCII
name_byte : (b : ℕ) → is_name_byte b ≡ true → b < 128
name_byte b h = grind (arith, nat_tests)

all_ascii : (bs : List ℕ) → list_all is_name_byte bs ≡ true → IsAscii bs
all_ascii [] h i = omega arith
all_ascii (b ∷ bs) h zero = name_byte b (first_true _ _ h)
all_ascii (b ∷ bs) h (suc i) = all_ascii bs (second_true _ _ h) i

pub name_is_text : (bs : List ℕ) → IsName bs → IsUtf8 bs
name_is_text bs h = IsUtf8-from_ascii bs (all_ascii bs h.1)
