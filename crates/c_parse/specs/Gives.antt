-- What a function of the parser returns, beside what reading gives.
use Rattle.std.specs.Prelude.{◌≡◌, Bool, true, false, List, Option, Some, None, Result, Ok, Err}
use Rattle.c_tree.specs.declared.token.Token.{Token}
use Rattle.c_parse.specs.declared.refusal.Refusal.{Refusal}
use Rattle.c_parse.specs.declared.refusal.Refusal.TheVariants as refusals
use Rattle.c_parse.specs.Reading.{Reply, Found, Wrong, Deep}

abbrev pub Fails : {A : Type 0} → Refusal → Reply A → Type 0
Fails refusals.Memory reply = Unit {0}
Fails (refusals.Wrong r) reply = reply ≡ Wrong r.now
Fails (refusals.Deep r) reply = reply ≡ Deep r.now

-- view: the value and the tokens after it
abbrev pub Gives : {X A : Type 0} → (X → A × List Token) → Result X Refusal → Reply A → Type 0
Gives view (Ok x) reply = reply ≡ Found (view x).0 (view x).1
Gives view (Err e) reply = Fails e reply

-- the same of what may not be there
abbrev pub Takes : {X A : Type 0} → (X → A × List Token) → Option X → Bool → Reply A → Type 0
Takes view None here reply = here ≡ false
Takes view (Some x) here reply = (here ≡ true) × (reply ≡ Found (view x).0 (view x).1)
