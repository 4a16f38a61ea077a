-- What a new value is.
use Rattle.std.specs.Prelude.{◌≡◌, ◌<◌, ◌^◌, ℕ, List, length, ⊤}
use Rattle.std.specs.Arc.{arc_value}
use Rattle.naim_core.specs.declared.event.Form.{Form}
use Rattle.naim_core.specs.declared.event.Form.TheVariants as form
use Rattle.naim_loader.specs.declared.forms.Draft.{Draft}
use Rattle.naim_loader.specs.declared.forms.Draft.TheVariants as draft

abbrev pub draft_value : {T : Type 0} → Draft T → T
draft_value (draft.Whole a) = arc_value a
draft_value (draft.Packed bytes number seen) = seen.value

abbrev pub draft_form : {T : Type 0} → Draft T → Form
draft_form (draft.Whole a) = form.Expanded
draft_form (draft.Packed bytes number seen) = form.Compacted

-- packed bytes are the compact spelling of a value with that charge
abbrev pub IsDraft : {T : Type 0} → (T → ℕ) → (T → List ℕ) → (T → Type 0) → Draft T → Type 0
IsDraft charge spell is_value (draft.Whole a) = ⊤
IsDraft charge spell is_value (draft.Packed bytes number seen) = is_value seen.value × (bytes.items ≡ spell seen.value) × (number ≡ charge seen.value) ×
    (length bytes.items < 2 ^ 32)
