-- The blocks of a function's draft are those of its routine.
use Rattle.std.proofs.Common.{◌≡◌, ℕ, zero, suc, ◌+◌, List, [], ◌∷◌, ◌++◌, map, length, take, get_or, sym, ap, ◌∙◌, arith, Bool, true, false, Option}
use Rattle.std.proofs.Common.{Some, None, refl, append-nil}
use Rattle.std.specs.Prelude.{slice_index, slice_get, is_some}
use mathlib.Core.Path.{fun_ext}
use Rattle.il_core.specs.declared.instr.Block.{Block}
use Rattle.il_core.specs.declared.instr.Instr.{Instr}
use Rattle.il_core.specs.declared.instr.End.TheVariants as ends
use Rattle.c_typed.specs.declared.function.Local.{Local}
use Rattle.c_typed.specs.Trees.{Function}
use Rattle.lower_laws.specs.Bound.{IsBound, scope_of}
use Rattle.lower_laws.specs.Code.{Numbers, blocks_of}
use Rattle.lower_laws.specs.Functions.{array_lengths, arrays_before, body_code, body_past, declarators, first_numbers, is_some_array, last_code}
use Rattle.lower_laws.specs.Functions.{last_numbers, layout_of, with_length}
use Rattle.lower_laws.specs.Statements.{no_value_past, stmt_code}
use Rattle.c_lower.specs.Drafts.{Draft, layout_with, write, finish, next_label, mark, reach}
use Rattle.c_lower.specs.Lowering.{array_places, body_drafted, fixed, nothing}
use Rattle.c_lower.specs.Settled.{settled}
use Rattle.c_lower.specs.Statements.{no_value, stated}
use Rattle.c_lower.proofs.Emits.{Agrees, joined, hole}
use Rattle.c_lower.proofs.EmitsStatements.{states}

-- behind a return stands the next block
return_block : (b : Bool) (n : Numbers) → (no_value_past b n).block ≡ suc n.block
return_block false n = refl
return_block true n = refl

-- the last return finishes the blocks
map_one : (g : ℕ → ℕ) (a : List Block) (x : Block) → map (settled g) (a ++ x ∷ []) ≡ map (settled g) a ++ settled g x ∷ []
map_one g [] x = refl
map_one g (b ∷ a) x = ap (λ l. settled g b ∷ l) (map_one g a x)

finished : (g : ℕ → ℕ) (b : Bool) (n : Numbers) (l t : ℕ) (s : Draft) →
    map (settled g) (reach l t (no_value b n s)).done ≡ joined g (reach l t s) (last_code b n)
unfolding reach finish write
finished g false n l t s =
    map_one g s.done _ ∙ ap (λ (h : List Instr). map (settled g) s.done ++ record { instrs = h; end = ends.Return None } ∷ []) (sym (append-nil s.here))
finished g true n l t s = map_one g s.done _

same_targets : (b : Bool) (n : Numbers) (l t : ℕ) (s : Draft) → (reach l t (no_value b n s)).targets ≡ (reach l t s).targets
unfolding reach finish write
same_targets false n l t s = refl
same_targets true n l t s = refl

pub blocks_are : (count : ℕ → ℕ) (f : Function) → IsBound f →
    let s = body_drafted (fixed count f) f.body (first_numbers f) nothing in
    map (settled (slice_index s.targets)) s.done ≡ blocks_of (body_code (layout_of count f) f)
blocks_are count f bound =
    let y = fixed count f in
    let n = first_numbers f in
    let l = next_label nothing in
    let value = y.outline.value in
    let m = body_past f in
    let at = (last_numbers f).block in
    let body = stated y (ends.Jump l) (ends.Jump l) f.body true n (mark 0 nothing) in
    let s = body_drafted y f.body n nothing in
    let g = slice_index s.targets in
    let ds = declarators y.outline f.body true n [] in
    let r = slice_index ds in
    let does = states g r y f.body (scope_of f) (ends.Jump l) (ends.Jump l) true n (mark 0 nothing) (omega arith) bound in
    let held = hole {f = g} {r = r} at (λ v k. stmt_code (layout_with y r) (ends.Jump v) (ends.Jump v) f.body true n k) does.emits in
    let locals : (reach l at body).locals ≡ ds = sym (append-nil _) ∙ held.declares [] in
    let agrees : Agrees g r nothing (reach l at body) = record {
      labels = λ a h i. ap (λ (t : List ℕ). get_or t a 0) (same_targets value m l at body);
      locals = λ x h. ap (λ (t : List ℕ). get_or t x 0) (sym locals);
    } in
    finished g value m l at body ∙ held.code agrees (last_code value m)
    ∙ ap (λ b. blocks_of (stmt_code (layout_of count f) (ends.Jump b) (ends.Jump b) f.body true n (last_code value m))) (return_block value m)

-- the table of arrays is right, also behind the last local
places_right : (xs : List Local) (n i : ℕ) → get_or (array_places xs n) i (length (array_lengths xs) + n) ≡ arrays_before xs i + n
places_right [] n zero = refl
places_right [] n (suc i) = refl
places_right (x ∷ xs) n zero = omega arith
places_right (x ∷ xs) n (suc i) = one x.length xs n i (places_right xs (length (with_length x.length []) + n) i)
  where
    one : (t : Option ℕ) (xs : List Local) (n i : ℕ) →
        get_or (array_places xs (length (with_length t []) + n)) i
        (length (array_lengths xs) + (length (with_length t []) + n)) ≡ arrays_before xs i + (length (with_length t []) + n) →
        get_or (array_places xs (length (with_length t []) + n)) i (length (with_length t (array_lengths xs)) + n) ≡ length
        (with_length t (array_lengths (take i xs))) + n
    one None xs n i h =
        let e : 0 + n ≡ n = omega arith in
        ap (λ m. get_or (array_places xs (0 + n)) i (length (array_lengths xs) + m)) (sym e) ∙ h ∙ ap (λ m. arrays_before xs i + m) e
    one (Some k) xs n i h =
        let e : suc (length (array_lengths xs)) + n ≡ length (array_lengths xs) + (1 + n) = omega arith in
        let e1 : arrays_before xs i + (1 + n) ≡ suc (arrays_before xs i) + n = omega arith in
        ap (λ d. get_or (array_places xs (1 + n)) i d) e ∙ h ∙ e1

pub fixed_is : (ls : List Local) (places : List ℕ) (t : ℕ) (v : Bool) (count count1 : ℕ → ℕ) (f : Function) → ls ≡ f.locals →
    places ≡ array_places f.locals 0 → t ≡ length (array_lengths f.locals) → v ≡ is_some f.result → count ≡ count1 →
    record { outline = record { is_array = λ x. is_some_array (slice_get ls x); value = v }; array = λ x. get_or places x t; count = count } ≡ fixed count1 f
fixed_is ls places t v count count1 f p q u w c =
    let right : (x : ℕ) → get_or places x t ≡ arrays_before f.locals x = λ x.
    ap (λ (l : List ℕ). get_or l x t) q
    ∙ ap (λ d. get_or (array_places f.locals 0) x d) (let e : t ≡ length (array_lengths f.locals) + 0 = omega (arith, u) in e)
    ∙ places_right f.locals 0 x ∙ (let e : arrays_before f.locals x + 0 ≡ arrays_before f.locals x = omega arith in e) in
    let arrays = fun_ext right in
    λ i. record { outline = record { is_array = λ x. is_some_array (slice_get (p i) x); value = w i }; array = arrays i; count = c i }
