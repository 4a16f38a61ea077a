-- The first condition that isn't met, in lists of conditions.
use Rattle.std.proofs.Common.{◌≡◌, Bool, true, false, List, [], ◌∷◌, ◌++◌, Some, None, refl, ◌∙◌}
use Rattle.il_check.specs.declared.flaw.Flaw.{Flaw}
use Rattle.il_check.specs.Conditions.{Condition, first_broken}

-- where the first list is met
pub past_met : (a b : List Condition) → first_broken a ≡ None → first_broken (a ++ b) ≡ first_broken b
past_met [] b h = refl
past_met ((true, f) ∷ a) b h = past_met a b h
past_met ((false, f) ∷ a) b h = absurd cc

-- where it isn't
pub in_front : (a b : List Condition) (f : Flaw) → first_broken a ≡ Some f → first_broken (a ++ b) ≡ Some f
in_front [] b f h = absurd cc
in_front ((true, g) ∷ a) b f h = in_front a b f h
in_front ((false, g) ∷ a) b f h = h

pub front_met : (a b : List Condition) → first_broken (a ++ b) ≡ None → first_broken a ≡ None
front_met [] b h = refl
front_met ((true, f) ∷ a) b h = front_met a b h
front_met ((false, f) ∷ a) b h = absurd cc

pub rest_met : (a b : List Condition) → first_broken (a ++ b) ≡ None → first_broken b ≡ None
rest_met [] b h = h
rest_met ((true, f) ∷ a) b h = rest_met a b h
rest_met ((false, f) ∷ a) b h = absurd cc

pub both_met : (a b : List Condition) → first_broken a ≡ None → first_broken b ≡ None → first_broken (a ++ b) ≡ None
both_met a b h k = past_met a b h ∙ k

-- the first condition of some
pub head_met : (c : Bool) (f : Flaw) (cs : List Condition) → first_broken ((c, f) ∷ cs) ≡ None → (c ≡ true) × (first_broken cs ≡ None)
head_met true f cs h = (refl, h)
head_met false f cs h = absurd cc

pub cons_met : (c : Bool) (f : Flaw) (cs : List Condition) → c ≡ true → first_broken cs ≡ None → first_broken ((c, f) ∷ cs) ≡ None
cons_met true f cs e h = h
cons_met false f cs e h = absurd cc

pub one_met : (c : Bool) (f : Flaw) → first_broken ((c, f) ∷ []) ≡ None → c ≡ true
one_met c f h = (head_met c f [] h).0

pub two_met : (c d : Bool) (f g : Flaw) → first_broken ((c, f) ∷ (d, g) ∷ []) ≡ None → (c ≡ true) × (d ≡ true)
two_met c d f g h = let r = head_met c f ((d, g) ∷ []) h in (r.0, one_met d g r.1)

pub one_meets : (c : Bool) (f : Flaw) → c ≡ true → first_broken ((c, f) ∷ []) ≡ None
one_meets c f e = cons_met c f [] e refl

pub two_meet : (c d : Bool) (f g : Flaw) → c ≡ true → d ≡ true → first_broken ((c, f) ∷ (d, g) ∷ []) ≡ None
two_meet c d f g e e' = cons_met c f ((d, g) ∷ []) e (one_meets d g e')
