-- What a script takes.
use Rattle.std.specs.Prelude.{List, ℕ, length}
use Rattle.rules.specs.Script.{script_tokens, script_errors, script_closed}
use Rattle.records.specs.Layout.{token_bytes, text_bytes, error_bytes}
use Rattle.room.specs.declared.Used.{Used}

-- The bytes used in each buffer, the number of tokens, and whether nothing is open at the end.
unfoldable pub needed : List ℕ → Used
needed s =
    record {
      tokens = length (token_bytes (script_tokens s));
      texts = length (text_bytes (script_tokens s));
      errors = length (error_bytes (script_errors s));
      count = length (script_tokens s);
      closed = script_closed s;
    }
