-- What is told of a module, or of the fault.
use Rattle.std.proofs.Common.{ℕ, ◌≡◌, refl, sym, ◌∙◌, ap, List, [], ◌∷◌, ◌++◌, append-nil, arith, length, Ok, Err}
use Rattle.c_tree.specs.declared.token.Token.{Token}
use Rattle.c_tree.specs.declared.declaration.Module.{Module}
use Rattle.c_parse.specs.declared.fault.ParseFault.TheVariants as faults
use Rattle.c_parse.specs.declared.fault.ParseKind.TheVariants as kinds
use Rattle.c_parse.specs.Reading.{Found, Wrong, Deep}
use Rattle.c_parse.specs.Promise.{limit, line_at, Answers}
use Rattle.c_parse.specs.ModuleReaders.{read_whole}
use Rattle.c_parse.specs.ModuleParts as parts
use Rattle.c_parse.proofs.ItemParts.{module_is}
use Rattle.c_parse.proofs.Whole.{read_accepted, read_only, read_wrong, read_deep}

limit_is : 256 ≡ limit
unfolding limit
limit_is = refl

read_so : (ts : List Token) → parts.whole_module 256 ts ≡ read_whole limit ts
read_so ts = ap (λ z. parts.whole_module z ts) limit_is ∙ module_is limit (omega (arith, limit_is)) ts

pub found_answers : (ts : List Token) (m : Module) → parts.whole_module 256 ts ≡ Found m [] → Answers ts (Ok m)
found_answers ts m e = let r = sym (read_so ts) ∙ e in (read_accepted ts m r, read_only ts m r)

pub wrong_answers : (ts r : List Token) (line : ℕ) → parts.whole_module 256 ts ≡ Wrong r → ((us : List Token) → ts ≡ us ++ r → line ≡ line_at ts (length us))
    → Answers ts (Err (faults.At line kinds.Unexpected))
wrong_answers ts r line h t = let w = read_wrong ts r (sym (read_so ts) ∙ h) in (length w.0, w.2, t w.0 w.1)

pub deep_answers : (ts r : List Token) (line : ℕ) → parts.whole_module 256 ts ≡ Deep r → ((us : List Token) → ts ≡ us ++ r → line ≡ line_at ts (length us))
    → Answers ts (Err (faults.At line kinds.Deep))
deep_answers ts r line h t = let w = read_deep ts r (sym (read_so ts) ∙ h) in (length w.0, w.2, t w.0 w.1)

-- the line at a place is that of the token there
line_here : (us : List Token) (t : Token) (r : List Token) → line_at (us ++ t ∷ r) (length us) ≡ t.line
line_here [] t [] = refl
line_here [] t (u ∷ r) = refl
line_here (x ∷ []) t r = line_here [] t r
line_here (x ∷ y ∷ us) t r = line_here (y ∷ us) t r

-- and at the end that of the last one
line_last : (us : List Token) (t : Token) → line_at (us ++ t ∷ []) (length (us ++ t ∷ [])) ≡ t.line
line_last [] t = refl
line_last (x ∷ []) t = refl
line_last (x ∷ y ∷ us) t = line_last (y ∷ us) t

pub line_before : (ts us : List Token) (t : Token) (r rest : List Token) → ts ≡ us ++ rest → rest ≡ t ∷ r → t.line ≡ line_at ts (length us)
line_before ts us t r rest e f = sym (line_here us t r) ∙ ap (λ z. line_at z (length us)) (sym (e ∙ ap (λ z. us ++ z) f))

pub line_behind : (ts us vs : List Token) (t : Token) → ts ≡ us → ts ≡ vs ++ t ∷ [] → t.line ≡ line_at ts (length us)
line_behind ts us vs t e f = sym (line_last vs t) ∙ ap (λ z. line_at z (length z)) (sym f) ∙ ap (λ z. line_at ts (length z)) e

pub all_before : (ts us r : List Token) → ts ≡ us ++ r → length r ≡ 0 → ts ≡ us
all_before ts us [] e h = e ∙ append-nil us
all_before ts us (t ∷ r) e h = absurd (omega (arith, h))
