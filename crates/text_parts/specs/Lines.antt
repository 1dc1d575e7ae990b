-- The text of a block doc comment in parts. `s` is the part of the script between the comment's marks.
use Rattle.std.specs.Prelude.{◌≡◌, false, List, [], ◌++◌, ℕ, ◌≤◌, ◌<◌, length, replicate, if◌then◌else◌, Option, Some, None}
use Rattle.std.proofs.Math.Seq.{slice}
use Rattle.characters.specs.Choice.{◌is◌}
use Rattle.characters.specs.Utf8.{chars_of, encode}
use Rattle.rules.specs.Text.{LF, one_of}
use Rattle.rules.specs.Docs.{clean_doc}
use Rattle.doc_lines.specs.declared.Line.{Line}
use Rattle.docs.specs.Texts.{feeds_after, lines_text, lines_from}
use Rattle.text_parts.specs.Parts.{part_bytes, PartWithin}
use Rattle.text_parts.specs.declared.Part.{Part}
use Rattle.text_parts.specs.declared.Part.TheVariants as part
use Rattle.text_parts.specs.declared.lines.Cursor.{Cursor}

-- ── What is left ──

-- What the cursor still gives of the line that it stands at, and of the lines behind it.
unfoldable pub line_left : List ℕ → Cursor → List ℕ
line_left s c = if c.from is c.to then [] else (replicate c.feeds LF ++ slice c.from c.to s)

unfoldable pub lines_behind : List ℕ → Cursor → List ℕ
lines_behind s c = encode (lines_text (feeds_after c.feeds (c.from is c.to)) (lines_from s c.next))

-- What the cursor still gives: the rest of the comment's text.
unfoldable pub text_left : List ℕ → Cursor → List ℕ
text_left s c = line_left s c ++ lines_behind s c

-- How many bytes that is. It falls with each part.
abbrev pub left_size : List ℕ → Cursor → ℕ
left_size s c = length (text_left s c)

-- ── Cursors ──

-- The cursor stands at a line of `s` that has no line feed in it; the next line begins behind it; and no more line feeds wait than there
-- are bytes before.
pub record GoodLine (s : List ℕ) (c : Cursor) : Type 0 where
  pub forth : c.from ≤ c.to
  pub inside : c.to ≤ length s
  pub goes : (n : ℕ) → c.next ≡ Some n → c.to < n
  pub within : (n : ℕ) → c.next ≡ Some n → n ≤ length s
  pub few : c.feeds ≤ c.to
  pub plain : one_of (slice c.from c.to s) LF ≡ false

-- It stands at a line that is not empty, or at the last one. It is asked of part and cursor: a cursor holds places alone, and the part is
-- lent with each call.
pub record GoodCursor (s : List ℕ) (c : Cursor) : Type 0 where
  pub line : GoodLine s c
  pub full : (n : ℕ) → c.next ≡ Some n → c.from < c.to

-- The cursor at a line.
abbrev pub at_line : Line → ℕ → Cursor
at_line l k = record { from = l.from; to = l.to; feeds = k; next = l.next }

-- If a line is left, a line feed waits before it.
abbrev pub Waits : Cursor → Type 0
Waits c = c.from < c.to → 0 < c.feeds

-- ── The functions ──

-- Past empty lines.
pub record Passed (s : List ℕ) (c r : Cursor) : Type 0 where
  pub good : GoodCursor s r
  pub same : text_left s r ≡ text_left s c
  pub none : c.feeds ≡ 0 → r.feeds ≡ 0
  pub some : 0 < c.feeds → 0 < r.feeds

-- The cursor at the beginning: the whole text is left, and no line feed waits.
pub record Begun (s : List ℕ) (r : Cursor) : Type 0 where
  pub good : GoodCursor s r
  pub text : text_left s r ≡ encode (clean_doc (chars_of s))
  pub none : r.feeds ≡ 0

-- Behind the line of a cursor.
pub record BehindLine (s : List ℕ) (c r : Cursor) : Type 0 where
  pub good : GoodCursor s r
  pub text : text_left s r ≡ lines_behind s c
  pub waits : Waits r

-- What a part is, with the cursor `d` behind it: bytes without a line feed, behind which a line feed waits if anything is left; or a
-- line feed before a line or before another.
abbrev pub PartBefore : List ℕ → Cursor → Part → Type 0
PartBefore s d (part.Bytes from to) = (one_of (slice from to s) LF ≡ false) × Waits d
PartBefore s d (part.Char c) = (c ≡ LF) × (d.from < d.to)
PartBefore s d part.Nothing = ⊥

-- The next part `x`, with the cursor `d` behind it: what is left is the part, and then what is left behind it. It is a line feed where one
-- waits, and else the line.
pub record GoesOn (s : List ℕ) (c : Cursor) (x : Part) (d : Cursor) : Type 0 where
  pub here : c.from < c.to
  pub text : text_left s c ≡ part_bytes s x ++ text_left s d
  pub good : GoodCursor s d
  pub inside : PartWithin s x
  pub kind : PartBefore s d x
  pub feed : 0 < c.feeds → x ≡ part.Char LF
  pub line : c.feeds ≡ 0 → x ≡ part.Bytes c.from c.to
  pub less : left_size s d < left_size s c

-- The next part, or nothing is left.
abbrev pub NextAt : List ℕ → Cursor → Option (Part × Cursor) → Type 0
NextAt s c (Some (x, d)) = GoesOn s c x d
NextAt s c None = text_left s c ≡ []
