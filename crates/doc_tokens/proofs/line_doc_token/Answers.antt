-- `line_doc_token` meets its contract.
use mathlib.Core.Path.{refl}
use Rattle.rules.specs.Docs.{trim}
use Rattle.doc_tokens.proofs.Parts.{made_of}
use Rattle.records.proofs.KindLaws.{doc_made}
use Rattle.steps.proofs.Founds.{clean_found}
use Rattle.doc_tokens.proofs.line_doc_token.Goals as goal

pub returns : goal.returns
returns c = rw c.made_step.ensures (clean_found _ _ _ _ _ _ _ _ _ _ _ _ _ _ doc_made c.doc_line-d.ensures.one (made_of trim _ _ _ _ _ _ _ c.doc_line-d.ensures.forth c.doc_line-d.ensures.inside c.trim_text-end.ensures.put) c.doc_line-d.ensures.errors refl refl c.doc_line-d.ensures.open_end)
