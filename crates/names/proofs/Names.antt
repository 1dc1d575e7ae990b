-- Names as words. Assumes nothing.
use mathlib.Core.Path.{◌≡◌, sym, ◌∙◌, ap, subst}
use mathlib.Core.Bool.{true}
use mathlib.Core.List.{List}
use Prim.Native.Nat.{ℕ, ◌+◌, ◌-◌, ◌≤◌, ◌<◌}
use lib.ListN.{take, drop}
use lib.Seq.{slice}
use native.Mathlib.Omega.{arith}
use Rattle.std.proofs.lemmas.List.{drop-take}
use Rattle.characters.specs.Utf8.{chars_at}
use Rattle.rules.specs.Text.{is_ident_part}
use Rattle.rules.specs.Scan.{next, run}
use Rattle.rules.specs.Tables.{lookup_keyword}
use Rattle.rules.specs.Segment.{word_token}
use Rattle.rules.specs.Names.{parse_identifier_or_keyword}
use Rattle.bridge.specs.Bridge.{Cut}
use Rattle.bridge.proofs.Cuts.{cut_length}
use Rattle.lexemes.specs.Words.{WordAt}
use Rattle.lexemes.proofs.Words.{word_last}
use Rattle.lexemes.proofs.Tests.{run_some}
use Rattle.keywords.proofs.Laws.{kind_plain}

pub name_some : (s : List ℕ) (at to : ℕ) → next is_ident_part (chars_at s at) ≡ true
    → Cut s at (run is_ident_part (chars_at s at)) to → at < to
name_some s at to h x =
    let n = run_some is_ident_part (chars_at s at) h in
    omega (arith, cut_length s at to (run is_ident_part (chars_at s at)) x)

-- A lent part of a text.
pub part_slice : (s : List ℕ) (at to : ℕ) → at ≤ to → take (to - at) (drop at s) ≡ slice at to s
part_slice s at to h = let e : at + (to - at) ≡ to = omega arith in sym (drop-take at (to - at) s) ∙ rw e

pub name_word : (s : List ℕ) (at to k : ℕ) → next is_ident_part (chars_at s at) ≡ true
    → Cut s at (run is_ident_part (chars_at s at)) to → k ≡ lookup_keyword (slice at to s)
    → WordAt s at (parse_identifier_or_keyword (chars_at s at)) k (to - at) (to - at - 1)
unfolding parse_identifier_or_keyword
name_word s at to k h x e =
    let a = run is_ident_part (chars_at s at) in
    let q : k ≡ lookup_keyword a.taken = e ∙ ap lookup_keyword x.bytes in
    let w = word_last s at to (lookup_keyword a.taken) a (kind_plain a.taken) (name_some s at to h x) x in
    subst (λ (m : ℕ). WordAt s at (word_token (lookup_keyword a.taken) a.taken) m (to - at) (to - at - 1)) (sym q) w
