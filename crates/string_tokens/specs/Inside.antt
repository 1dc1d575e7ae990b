-- Steps inside of strings.
use Rattle.cursor.specs.declared.Cursor as cursor
use Rattle.cursor.specs.declared.Cursor.TheVariants as cur
use Rattle.interpolations.specs.declared.Given.{Given}
use Rattle.steps.specs.Tokens.{outside_at}
use Rattle.steps.specs.declared.Within.TheVariants.{Inside}
use Rattle.steps.specs.declared.Cursor.{Cursor}
use Rattle.steps.specs.declared.Token.{Token}
use Rattle.steps.specs.declared.Step.{Step}
use Rattle.steps.specs.declared.Step.TheVariants as step

abbrev pub given_token : Given → Token
given_token g = record { fields = g.token; fill = record { texts = g.texts; errors = g.errors }; ran_out = g.ran_out }

abbrev pub next_cursor : cursor.Cursor → Cursor
next_cursor (cur.Outside p) = outside_at p
next_cursor (cur.InString start p) = record { at = p; within = Inside start.offset start.line start.col }

abbrev pub given_step : Given → Step
given_step g = step.Token (given_token g) (next_cursor g.next)
