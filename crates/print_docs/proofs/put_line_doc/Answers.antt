-- `print_docs::put_line_doc` meets its contract. Assumes nothing.
use Rattle.std.proofs.Common.{rules}
use mathlib.Core.Path.{sym, ◌∙◌, ap}
use mathlib.Core.Bool.{false}
use mathlib.Core.List.{List, [], ◌∷◌, ◌++◌}
use Prim.Native.Nat.{ℕ}
use native.Mathlib.Omega.{arith}
use Rattle.characters.specs.Space.{is_white}
use Rattle.std.proofs.lemmas.Slice.{between_is}
use Rattle.output.proofs.Buffers.{part_bound}
use Rattle.rules.specs.Text.{LF}
use Rattle.doc_lines.proofs.Places.{ends_never, part_trim}
use Rattle.prints.specs.Print.{doc}
use Rattle.print_escapes.proofs.Bare.{put_same}
use Rattle.print_docs.proofs.Lining.{slice_feedless}
use Rattle.print_docs.proofs.put_line_doc.Goals as goal

pub slice_bounds-put_short-start : goal.slice_bounds-put_short-start
slice_bounds-put_short-start c =
    let a = c.trimmed_line-l.ensures false (λ x b h. search (rules, ends_never)) in
    omega (arith, a.forth, a.inside)

pub slice_bounds-put_short-count : goal.slice_bounds-put_short-count
slice_bounds-put_short-count c = (c.trimmed_line-l.ensures false (λ x b h. search (rules, ends_never))).forth

pub slice_bounds-put_short-end : goal.slice_bounds-put_short-end
slice_bounds-put_short-end c = (c.trimmed_line-l.ensures false (λ x b h. search (rules, ends_never))).inside

pub put_short-requires : goal.put_short-requires
put_short-requires c =
    let s = c.args.part.now in
    let l = c.trimmed_line-l.result in
    record { line_len_bound = part_bound s l.from l.to _ c.requires.part_len_bound; line_value = rw (between_is s l.from l.to) (slice_feedless s l.from l.to c.requires.part_value); at_bound = omega (arith, c.requires.at_bound) }

pub returns : goal.returns
returns c =
    let a = c.trimmed_line-l.ensures false (λ x b h. search (rules, ends_never)) in
    let e = part_trim _ _ _ (c.past_chars-start.ensures.passed is_white (λ x b h. search rules)) a in
    put_same _ _ _ _ _ _ (ap (λ (t : List ℕ). doc t ++ (LF ∷ [])) (sym (between_is c.args.part.now _ c.trimmed_line-l.result.to ∙ e))) c.put_short.ensures
