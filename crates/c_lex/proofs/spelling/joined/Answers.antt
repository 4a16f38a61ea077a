use Rattle.std.proofs.Common.{◌∙◌, sym, ap}
use Rattle.c_lex.proofs.Joins.{joins, joined_is, no_join}
use Rattle.c_lex.proofs.spelling.joined.Goals as goal

pub returns-in-Plus : goal.returns-in-Plus
returns-in-Plus c = c.doubled.ensures ∙ ap (λ m. joins m c.args.c) (sym c.in-Plus.is) ∙ joined_is c.args.m c.args.c

pub returns-in-Minus : goal.returns-in-Minus
returns-in-Minus c = c.doubled-in-Minus.ensures ∙ ap (λ m. joins m c.args.c) (sym c.in-Minus.is) ∙ joined_is c.args.m c.args.c

pub returns-in-Ampersand : goal.returns-in-Ampersand
returns-in-Ampersand c = c.doubled-in-Ampersand.ensures ∙ ap (λ m. joins m c.args.c) (sym c.in-Ampersand.is) ∙ joined_is c.args.m c.args.c

pub returns-in-Bar : goal.returns-in-Bar
returns-in-Bar c = c.doubled-in-Bar.ensures ∙ ap (λ m. joins m c.args.c) (sym c.in-Bar.is) ∙ joined_is c.args.m c.args.c

pub returns-in-Less : goal.returns-in-Less
returns-in-Less c = c.doubled-in-Less.ensures ∙ ap (λ m. joins m c.args.c) (sym c.in-Less.is) ∙ joined_is c.args.m c.args.c

pub returns-in-Greater : goal.returns-in-Greater
returns-in-Greater c = c.doubled-in-Greater.ensures ∙ ap (λ m. joins m c.args.c) (sym c.in-Greater.is) ∙ joined_is c.args.m c.args.c

pub returns-in-Star : goal.returns-in-Star
returns-in-Star c = c.with_equals.ensures ∙ ap (λ m. joins m c.args.c) (sym c.in-Star.is) ∙ joined_is c.args.m c.args.c

pub returns-in-Slash : goal.returns-in-Slash
returns-in-Slash c = c.with_equals-in-Slash.ensures ∙ ap (λ m. joins m c.args.c) (sym c.in-Slash.is) ∙ joined_is c.args.m c.args.c

pub returns-in-Percent : goal.returns-in-Percent
returns-in-Percent c = c.with_equals-in-Percent.ensures ∙ ap (λ m. joins m c.args.c) (sym c.in-Percent.is) ∙ joined_is c.args.m c.args.c

pub returns-in-Caret : goal.returns-in-Caret
returns-in-Caret c = c.with_equals-in-Caret.ensures ∙ ap (λ m. joins m c.args.c) (sym c.in-Caret.is) ∙ joined_is c.args.m c.args.c

pub returns-in-Exclamation : goal.returns-in-Exclamation
returns-in-Exclamation c = c.with_equals-in-Exclamation.ensures ∙ ap (λ m. joins m c.args.c) (sym c.in-Exclamation.is) ∙ joined_is c.args.m c.args.c

pub returns-in-Equals : goal.returns-in-Equals
returns-in-Equals c = c.with_equals-in-Equals.ensures ∙ ap (λ m. joins m c.args.c) (sym c.in-Equals.is) ∙ joined_is c.args.m c.args.c

pub returns-in-ShiftLeft : goal.returns-in-ShiftLeft
returns-in-ShiftLeft c = c.with_equals-in-ShiftLeft.ensures ∙ ap (λ m. joins m c.args.c) (sym c.in-ShiftLeft.is) ∙ joined_is c.args.m c.args.c

pub returns-in-ShiftRight : goal.returns-in-ShiftRight
returns-in-ShiftRight c = c.with_equals-in-ShiftRight.ensures ∙ ap (λ m. joins m c.args.c) (sym c.in-ShiftRight.is) ∙ joined_is c.args.m c.args.c

pub returns-in_default : goal.returns-in_default
returns-in_default c =
    sym (no_join c.args.m c.args.c c.in_default.not-Plus c.in_default.not-Minus c.in_default.not-Star c.in_default.not-Slash c.in_default.not-Percent
    c.in_default.not-Ampersand c.in_default.not-Bar c.in_default.not-Caret c.in_default.not-Exclamation c.in_default.not-Less c.in_default.not-Greater
    c.in_default.not-Equals c.in_default.not-ShiftLeft c.in_default.not-ShiftRight) ∙ joined_is c.args.m c.args.c
