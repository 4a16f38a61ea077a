use Rattle.std.proofs.Common.{rules, ◌≡◌, pos, map, sym, ap, ◌∙◌, subst}
use Rattle.std.specs.Option.{option_map}
use Rattle.std.specs.Int.{w64}
use Rattle.std.proofs.lemmas.Int.{to_z-of_z}
use Rattle.std.proofs.lemmas.Result.{err_from_is_err_and}
use Rattle.c_types.specs.Enumerations.{enumerator}
use Rattle.c_types.specs.ExpressionRules as er
use Rattle.c_types.specs.Follows.{Follows, Tells}
use Rattle.c_types.specs.Rules.{followed, ◌>>=◌, in_order}
use Rattle.c_types.specs.Specifiers.{meaning}
use Rattle.c_types.proofs.Orders.{tells_before, tells_after}
use Rattle.c_types.proofs.SpecifierViews.{specifying_is, enumerating_is, given_constant, reading_enum}
use Rattle.c_types.proofs.checker.Checker.+constants.Goals as goal

pub enumerator-returns-in-None : goal.enumerator-returns-in-None
enumerator-returns-in-None t c =
    let e = c.args.e.now in let n = c.args.next in
    let r : er.enumerating e n ≡ enumerator e.name n = ap (λ f. f n) (enumerating_is e) ∙ ap
    (λ o. er.given_value (option_map er.typing o) n >>= λ v. enumerator e.name v) c.in-None.is in
    subst (λ rule. Follows (λ v. v) rule c.args.self.now c.declare_constant.result c.declare_constant.new.self) (sym r)
    (subst (λ z. Follows (λ v. v) (enumerator e.name z) c.args.self.now c.declare_constant.result c.declare_constant.new.self)
    (to_z-of_z w64 n c.ranges.next) c.declare_constant.ensures)

pub enumerator-returns-in_ok-w-in-Some : goal.enumerator-returns-in_ok-w-in-Some
enumerator-returns-in_ok-w-in-Some t c =
    let e = c.args.e.now in let n = c.args.next in
    let r : er.enumerating e n ≡ (er.given_number (er.typing c.in-Some.value) >>= λ v. enumerator e.name v) = ap (λ f. f n) (enumerating_is e) ∙ ap
    (λ o. er.given_value (option_map er.typing o) n >>= λ v. enumerator e.name v) c.in-Some.is in
    subst (λ rule. Follows (λ v. v) rule c.args.self.now c.declare_number.result c.declare_number.new.self) (sym r)
    (given_constant e.name (er.typing c.in-Some.value) c.in_ok-v-in-Some.v c.in_ok-w-in-Some.w c.args.self.now c.constant_valued.new.self
    c.declare_number.new.self c.declare_number.result (ap (λ v. er.constant_valued (er.typing v) c.args.self.now) (sym c.get.ensures) ∙
    c.in_ok-v-in-Some.ensures) c.in_ok-w-in-Some.ensures c.declare_number.ensures)

pub part-returns-in_err-enumeration-in-Enum : goal.part-returns-in_err-enumeration-in-Enum
part-returns-in_err-enumeration-in-Enum t c =
    let u = err_from_is_err_and c.from_residual-in_err-enumeration-in-Enum.result c.from_residual-in_err-enumeration-in-Enum.ensures.1 in
    let g = subst (λ es. Tells (er.all_enumerators (pos 0) (map er.enumerating es) c.declare_optional_tag.new.self) c.in_err-enumeration-in-Enum.field-0.0)
    c.as_slice.ensures c.in_err-enumeration-in-Enum.ensures in
    let f = tells_after (er.declare_optional_tag c.in-Enum.tag) (λ x. er.all_enumerators (pos 0) (map er.enumerating c.in-Enum.enumerators)) tt c.args.self.now
    c.declare_optional_tag.new.self c.in_err-enumeration-in-Enum.field-0.0 c.in_ok-declare_optional_tag-in-Enum.ensures g in
    let k = subst (λ rule. Tells (rule c.args.self.now) c.in_err-enumeration-in-Enum.field-0.0)
    (sym (reading_enum c.in-Enum.line c.in-Enum.tag c.in-Enum.enumerators)) f in
    let m = subst (λ q. Tells (er.reading q c.args.self.now) c.in_err-enumeration-in-Enum.field-0.0) (sym c.in-Enum.is) k in
    subst (λ r. Follows (λ p. p) (er.reading c.args.s.now) c.args.self.now r c.enumeration.new.self) (sym u.1)
    (subst (λ x. Tells (er.reading c.args.s.now c.args.self.now) x) (sym u.2) m)

pub specified-returns-in_err-parts : goal.specified-returns-in_err-parts
specified-returns-in_err-parts t c =
    let s = c.args.s.now in
    subst (λ f. Follows (λ x. x) (f c.args.site) c.args.self.now c.from_residual.result c.parts.new.self) (sym (specifying_is s)) (search (rules, tells_before))

pub specified-returns-in-Some : goal.specified-returns-in-Some
specified-returns-in-Some t c =
    let s = c.args.s.now in
    ap (λ f. f c.args.site c.args.self.now) (specifying_is s) ∙ ap (λ r. followed r (λ ps. er.specified_or s.line (meaning c.args.site ps)))
    (ap (λ l. in_order (map er.reading l) c.args.self.now) (sym c.as_slice.ensures) ∙ c.in_ok-parts.ensures) ∙ ap
    (λ o. er.specified_or s.line o c.parts.new.self) (ap (meaning c.args.site) (sym c.as_slice-2.ensures.value) ∙ sym c.meaning.ensures ∙ c.in-Some.is)

pub specified-returns : goal.specified-returns
specified-returns t c =
    let s = c.args.s.now in
    subst (λ f. Tells (f c.args.site c.args.self.now) c.broken.result) (sym (specifying_is s)) (search rules)
