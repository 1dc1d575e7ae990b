-- `print_strings::put_part` meets its contract. Assumes nothing.
use mathlib.Core.Path.{subst}
use native.Mathlib.Omega.{arith}
use Prim.Native.Nat.{ℕ}
use lib.ListN.{length-take, length-drop}
use Rattle.std.proofs.lemmas.Slice.{between_is}
use Rattle.output.proofs.Buffers.{part_bound}
use Rattle.text_parts.specs.Parts.{PartWithin}
use Rattle.print_strings.proofs.Rows.{part_put, nothing_put, bare_by}
use Rattle.print_strings.proofs.put_part.Goals as goal

pub put_bytes-requires : goal.put_bytes-requires
put_bytes-requires c =
    let h = subst (PartWithin c.args.s.now) c.in-Bytes.is c.requires.part_within in
    let f = bare_by c.args.s.now c.args.named c.args.plain c.args.part _ c.in-Bytes.is c.requires.part_value in
    let s = c.args.s.now in
    record { part_some = omega (arith, length-take {A = ℕ}, length-drop {A = ℕ}, h.0, h.1); part_len_bound = part_bound s c.in-Bytes.from c.in-Bytes.to _ c.requires.s_len_bound; part_value = rw (between_is s c.in-Bytes.from c.in-Bytes.to) f; at_bound = c.requires.at_bound }

pub put_letter-requires : goal.put_letter-requires
put_letter-requires c =
    record { c_bound = subst (PartWithin c.args.s.now) c.in-Char.is c.requires.part_within; at_bound = c.requires.at_bound }

pub returns-in-Bytes : goal.returns-in-Bytes
returns-in-Bytes c =
    part_put _ _ c.args.s.now c.args.named _ _ c.args.part _ c.in-Bytes.is (rw (← between_is c.args.s.now c.in-Bytes.from c.in-Bytes.to) c.put_bytes.ensures)

pub returns-in-Char : goal.returns-in-Char
returns-in-Char c =
    part_put _ _ c.args.s.now c.args.named _ _ c.args.part _ c.in-Char.is c.put_letter.ensures

pub returns-in-Nothing : goal.returns-in-Nothing
returns-in-Nothing c =
    part_put _ _ c.args.s.now c.args.named _ _ c.args.part _ c.in-Nothing.is (nothing_put c.args.out.now c.args.s.now c.args.named c.args.at)
