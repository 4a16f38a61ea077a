use Rattle.std.proofs.Common.{◌∙◌, sym, subst}
use Rattle.std.specs.Int.{w64}
use Rattle.std.proofs.Common.{SFits}
use Rattle.std.proofs.lemmas.Int.{to_z-of_z}
use Rattle.c_types.specs.Enumerations.{enumerator}
use Rattle.c_types.specs.Follows.{Follows}
use Rattle.c_types.proofs.SpecifierViews.{fits_value}
use Rattle.c_types.proofs.checker.Checker.declare_number.Goals as goal

pub returns : goal.returns
returns c =
    let fits = subst (SFits w64) (sym c.number.ensures) (fits_value c.args.ty c.args.w c.ranges.w) in
    subst (λ z. Follows (λ n. n) (enumerator c.args.x.now z) c.args.self.now c.declare_constant.result c.declare_constant.new.self)
    (to_z-of_z w64 c.number.result fits ∙ c.number.ensures) c.declare_constant.ensures
