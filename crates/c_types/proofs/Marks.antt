-- A use of a PID that isn't there changes nothing.
use Rattle.std.proofs.Common.{◌≡◌, ℕ, zero, suc, false, [], ◌∷◌, Option, Some, None, is_some, refl, sym, ap, Bor}
use Rattle.std.proofs.lemmas.Bool.{true≢false}
use Rattle.std.specs.Option.{option_map, option_copied}
use Rattle.sym_tables.specs.declared.entity.Entity.{Entity}
use Rattle.sym_tables.specs.declared.symbol.Symbol.{Symbol}
use Rattle.sym_tables.specs.Table.{Table, mark, symbol_at}
use Rattle.c_types.specs.Rules.{Here}

pub mark_none : (syms : Table) (pid : ℕ) → symbol_at syms pid ≡ None → mark syms pid ≡ syms
mark_none [] pid h = refl
mark_none (e ∷ es) zero h = let o : Option Symbol = None in let c : Some e.1 ≡ o = h in absurd cc
mark_none (e ∷ es) (suc pid) h = ap (λ l. e ∷ l) (mark_none es pid h)

pub no_entity : (o : Option (Bor Entity)) (x : Option Symbol) → option_copied o ≡ option_map (λ s. s.entity) x → is_some o ≡ false → x ≡ None
no_entity None None e n = refl
no_entity None (Some s) e n = let o : Option Entity = None in let c : o ≡ Some s.entity = e in absurd cc
no_entity (Some b) x e n = absurd (true≢false n)

pub use_nothing : (h : Here) (pid : ℕ) → symbol_at h.syms pid ≡ None → h ≡ record h { syms = mark h.syms pid }
use_nothing h pid none = ap (λ s. record h { syms = s }) (sym (mark_none h.syms pid none))
