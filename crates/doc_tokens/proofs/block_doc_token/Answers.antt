-- `block_doc_token` meets its contract.
use Rattle.rules.specs.Docs.{clean_doc}
use Rattle.doc_tokens.proofs.Parts.{made_of}
use Rattle.records.proofs.KindLaws.{doc_made}
use Rattle.steps.proofs.Founds.{made_found}
use Rattle.doc_tokens.proofs.block_doc_token.Goals as goal

pub returns : goal.returns
returns c = rw c.made_step.ensures (made_found _ _ _ _ _ _ _ _ _ _ _ _ _ _ doc_made c.doc_block-d.ensures.one (made_of clean_doc _ _ _ _ _ _ _ c.doc_block-d.ensures.forth c.doc_block-d.ensures.inside c.clean_doc-end.ensures.put) c.doc_block-d.ensures.written c.doc_block-d.ensures.open_end)
