use mathlib.Core.Path.{refl, sym, ◌∙◌}
use Rattle.escapes.proofs.Digits.{along_stop, along_done, one_digit, two_digits, three_digits, four_digits}
use Rattle.escapes.proofs.four_digits.Goals as goal

pub returns-in_err-a : goal.returns-in_err-a
returns-in_err-a c =
    c.from_residual.ensures ∙ along_stop c.args.text.now c.args.at 3 0 c.args.at refl (sym c.hex_at.ensures ∙ c.in_err-a.was)

pub returns-in_err-b : goal.returns-in_err-b
returns-in_err-b c =
    c.from_residual-in_err-b.ensures
    ∙ along_stop _ _ 2 _ _ (one_digit _ _ (sym c.hex_at.ensures ∙ c.in_ok-a.was)) (sym c.hex_at-2.ensures ∙ c.in_err-b.was)

pub returns-in_err-c : goal.returns-in_err-c
returns-in_err-c c =
    c.from_residual-in_err-c.ensures
    ∙ along_stop _ _ 1 _ _
    (two_digits _ _ (sym c.hex_at.ensures ∙ c.in_ok-a.was) (sym c.hex_at-2.ensures ∙ c.in_ok-b.was))
    (sym c.hex_at-3.ensures ∙ c.in_err-c.was)

pub returns-in_err-d : goal.returns-in_err-d
returns-in_err-d c =
    c.from_residual-in_err-d.ensures
    ∙ along_stop _ _ 0 _ _
    (three_digits _ _ (sym c.hex_at.ensures ∙ c.in_ok-a.was) (sym c.hex_at-2.ensures ∙ c.in_ok-b.was) (sym c.hex_at-3.ensures ∙ c.in_ok-c.was))
    (sym c.hex_at-4.ensures ∙ c.in_err-d.was)

pub returns : goal.returns
returns c =
    along_done _ _ _ _
    (four_digits _ _ (sym c.hex_at.ensures ∙ c.in_ok-a.was) (sym c.hex_at-2.ensures ∙ c.in_ok-b.was) (sym c.hex_at-3.ensures ∙ c.in_ok-c.was)
    (sym c.hex_at-4.ensures ∙ c.in_ok-d.was))
