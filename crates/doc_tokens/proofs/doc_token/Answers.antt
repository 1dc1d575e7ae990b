-- `doc_token` meets its contract.
use mathlib.Core.Path.{sym, ◌∙◌}
use Rattle.doc_tokens.proofs.doc_token.Goals as goal

pub line_doc_token-requires : goal.line_doc_token-requires
line_doc_token-requires c = record { in_text = c.requires.in_text; offset_value = sym c.stands_at.ensures ∙ c.if-stands_at.true; roomy = c.requires.roomy }

pub block_doc_token-requires : goal.block_doc_token-requires
block_doc_token-requires c = record { in_text = c.requires.in_text; offset_value = c.requires.documented (sym c.stands_at.ensures ∙ c.if-stands_at.false); roomy = c.requires.roomy }
