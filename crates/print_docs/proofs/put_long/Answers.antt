-- `print_docs::put_long` meets its contract. Assumes nothing.
use native.Mathlib.Omega.{arith}
use borrow.Author.Rules.{rules}
use Rattle.text_parts.specs.Lines.{text_left}
use Rattle.print_docs.proofs.Starred.{starred_small}
use Rattle.print_docs.proofs.Lining.{long_put}
use Rattle.print_docs.proofs.put_long.Goals as goal

pub put_lines-place-requires : goal.put_lines-place-requires
put_lines-place-requires c =
    record { part_len_bound = c.requires.part_len_bound; good_cursor = c.requires.good_cursor; c_bound = c.requires.c_bound; at_bound = omega (arith, c.put_bytes-front.ensures.place, c.requires.at_bound) }

pub put_bytes-requires : goal.put_bytes-requires
put_bytes-requires c =
    let s = starred_small (text_left c.args.part.now c.args.c) in
    record { part_bound = search rules; at_bound = omega (arith, c.put_lines-place.ensures.place, c.put_bytes-front.ensures.place, s, c.requires.c_bound, c.requires.at_bound) }

pub returns : goal.returns
returns c =
    long_put (text_left c.args.part.now c.args.c) _ _ _ _ _ _ _ _ c.requires.c_value c.put_bytes-front.ensures
    c.put_lines-place.ensures c.put_bytes.ensures
