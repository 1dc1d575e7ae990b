-- Laws of units one after another, and of what is written of them. Assumes nothing.
use Rattle.std.specs.Prelude.{if◌then◌else◌, Some, None}
use mathlib.Core.Path.{◌≡◌, refl, sym, ◌∙◌, ap, ap₂, subst}
use mathlib.Core.Bool.{Bool, true, false}
use mathlib.Core.List.{List, [], ◌∷◌, ◌++◌, append_assoc, append-nil}
use mathlib.Core.Option.{some}
use Prim.Native.Nat.{ℕ, ◌+◌, ◌*◌, ◌≤◌}
use lib.ListN.{length, take, get_or, length-append}
use lib.Seq.{slice, length-slice, take-append-add}
use native.Mathlib.Omega.{arith}
use borrow.Author.Tests.{eq-eqb, le-leb}
use Rattle.characters.specs.Choice.{◌is◌}
use Rattle.characters.specs.Utf8.{chars_at, encode, encode_char}
use Rattle.characters.proofs.Texts.{encode_append}
use Rattle.spans.specs.declared.Position.{Position}
use Rattle.rules.specs.Text.{Text}
use Rattle.rules.specs.Scan.{run}
use Rattle.rules.specs.Tables.{ESCAPES, lookup}
use Rattle.rules.specs.Tokens.{TokenizeError}
use Rattle.rules.specs.Lexer.{advances}
use Rattle.rules.specs.Script.{LIMIT}
use Rattle.cursor.specs.Strings.{unit_of, stands, units_made, units_errors, units_ahead}
use Rattle.cursor.proofs.Units.{Whole, made_none, errors_none, unit_made, unit_errors_lem, whole_unit, ahead_stops}
use Rattle.bridge.specs.Bridge.{value_of, Within, Reach, PastRun, onward, exactly}
use Rattle.bridge.proofs.Tests.{low_is}
use Rattle.bridge.proofs.Bytes.{byte_next}
use Rattle.bridge.proofs.Reaches.{reach_nil, reach_join, one_on, onward_suc}
use Rattle.output.specs.Writing.{Put}
use Rattle.output.proofs.Buffers.{put_none, put_then}
use Rattle.walks.proofs.Enclosed.{reach_slice}
use Rattle.records.specs.Layout.{error_bytes}
use Rattle.records.proofs.Filling.{errors_append}
use Rattle.string_units.specs.declared.Made.TheVariants as made
use Rattle.string_units.specs.declared.Unit as code
use Rattle.escapes.specs.Escapes.{short_escape}
use Rattle.string_units.specs.Units.{made_bytes, mistakes, UnitAt}
use Rattle.string_runs.specs.Runs.{Room, run_chars, run_made, run_errors, Units, Wrote, RunAt}
use Rattle.bridge.proofs.Values.{value_some}
use Rattle.escapes.proofs.Letters.{letter_flat, letter_not_u, escape_small}
use Rattle.string_units.proofs.UnitLaws.{escape_char, stands_escape, some_at}
use Rattle.string_runs.proofs.RunLaws.{mistakes_few, itself, plain_itself}

-- ── Rows of units ──

pub units_none : (s : List ℕ) (p : Position) → Within s p → Units s p p [] []
units_none s p w =
    record { chars = []; reach = reach_nil s p w; front = refl; made = refl; errors = refl; small = omega arith; few = omega arith }

pub units_join : (s : List ℕ) (p q r : Position) (bs cs es fs : List ℕ) → Units s p q bs es → Units s q r cs fs → Units s p r (bs ++ cs) (es ++ fs)
units_join s p q r bs cs es fs a b =
    record {
      chars = a.chars ++ b.chars;
      reach = reach_join s p q r a.chars b.chars a.reach b.reach;
      front = a.front ∙ (ap (λ (l : Text). a.chars ++ l) b.front ∙ sym (append_assoc a.chars b.chars (run_chars s r)));
      made = a.made ∙ (ap (λ (l : List ℕ). bs ++ l) b.made ∙ sym (append_assoc bs cs (encode (run_made s r))));
      errors = a.errors ∙ (ap (λ (l : List ℕ). es ++ l) b.errors ∙ sym (append_assoc es fs (error_bytes (run_errors s r))));
      small = rw (length-append bs cs) (omega (arith, a.small, b.small));
      few = rw (length-append es fs) (omega (arith, a.few, b.few));
    }

-- Whole units are such a row.
pub units_whole : (s : List ℕ) (p q : Position) (t : Text) (bs es : List ℕ) → Whole (chars_at s p.offset) t (chars_at s q.offset) → Reach s p t q
    → encode (units_made (length t) (chars_at s p.offset)) ≡ bs → error_bytes (units_errors (length t) p (chars_at s p.offset)) ≡ es
    → p.offset + length bs ≤ q.offset → 29 * p.offset + length es ≤ 29 * q.offset → Units s p q bs es
units_whole s p q t bs es w r a b f g =
    let cs = chars_at s p.offset in
    let rest = chars_at s q.offset in
    let k = units_ahead rest in
    let m = units_made (length t) cs in
    let l = units_errors (length t) p cs in
    record {
      chars = t;
      reach = r;
      front = ap (λ (n : ℕ). take n cs) w.ahead ∙ (ap (take (length t + k)) w.split ∙ take-append-add t rest k);
      made =
          ap encode (ap (λ (n : ℕ). units_made n cs) w.ahead ∙ w.made_more k)
          ∙ (encode_append m (units_made k rest) ∙ ap (λ (x : List ℕ). x ++ encode (units_made k rest)) a);
      errors =
          ap error_bytes (ap (λ (n : ℕ). units_errors n p cs) w.ahead ∙ w.errors_more k p)
          ∙ (errors_append l (units_errors k (advances p t) rest)
          ∙ ap₂ (λ (x : List ℕ) (z : Position). x ++ error_bytes (units_errors k z rest)) b (sym r.moved));
      small = f;
      few = g;
    }

-- One unit.
pub units_unit : (s : List ℕ) (p : Position) (r : code.Unit)
    → (stands (chars_at s p.offset) ≡ true) × UnitAt s p (unit_of (chars_at s p.offset)) r
    → Units s p r.next (made_bytes s p.offset r.next.offset r.made) (error_bytes (mistakes p r.mistake))
units_unit s p r (h, x) =
    let cs = chars_at s p.offset in
    let rest = chars_at s r.next.offset in
    let u = unit_of cs in
    let e = x.reach.chars in
    let l : length (made_bytes s p.offset r.next.offset r.made) ≡ length (encode u.made) = ap length (sym x.made) in
    let k = mistakes_few p r.mistake in
    units_whole s p r.next u.chars _ _ (whole_unit cs rest h e) x.reach (ap encode (unit_made cs rest h e) ∙ x.made)
    (ap error_bytes (unit_errors_lem cs rest h e p ∙ x.errors)) (omega (arith, x.small)) (omega (arith, x.forth))

-- ── Characters that stand for themselves ──

pub units_plain : (s : List ℕ) (p q : Position) → Within s p → PastRun itself s p q → Units s p q (slice p.offset q.offset s) []
unfolding error_bytes
units_plain s p q w k =
    let c = run itself (chars_at s p.offset) in
    let i = plain_itself (chars_at s p.offset) in
    let r = k.reach in
    units_whole s p q c.taken _ _ (subst (λ (l : Text). Whole (chars_at s p.offset) c.taken l) (sym k.left) i.whole) r
    (ap encode i.made ∙ sym (reach_slice s p q c.taken r w.inside)) (ap error_bytes (i.errors p))
    (omega (arith, k.forth, length-slice p.offset q.offset s r.within.inside)) (omega (arith, k.forth))

-- ── Escapes of one byte ──

-- The backslash and the letter that they stand for.
short_both : (s : List ℕ) (at v : ℕ) → short_escape s at ≡ Some v → (get_or s at 0 is 92 ≡ true) × (lookup (get_or s (at + 1) 0) ESCAPES ≡ some v)
unfolding short_escape
short_both s at v e = go (get_or s at 0 is 92) refl e
  where
    go : (b : Bool) → get_or s at 0 is 92 ≡ b → (if b then value_of (lookup (get_or s (at + 1) 0) ESCAPES) else None) ≡ Some v
        → (get_or s at 0 is 92 ≡ true) × (lookup (get_or s (at + 1) 0) ESCAPES ≡ some v)
    go true f y = (f, value_some (lookup (get_or s (at + 1) 0) ESCAPES) v y)
    go false f y = absurd (let z : ◌≡◌ {A = ℕ} 0 1 = cc in omega arith)

module _ (s : List ℕ) (p : Position) (w : Within s p) (v : ℕ) (e : short_escape s p.offset ≡ Some v) where
  pub short_low : v ≤ 0x7F
  short_low = escape_small (get_or s (p.offset + 1) 0) v (short_both s p.offset v e).1

  short_unit : (stands (chars_at s p.offset) ≡ true)
      × UnitAt s p (unit_of (chars_at s p.offset)) (record { next = onward p 2; made = made.Char v; mistake = None })
  short_unit =
      let b = short_both s p.offset v e in
      let l = get_or s (p.offset + 1) 0 in
      let f = letter_flat l v b.1 in
      let x = one_on s p 92 (omega arith) (omega arith) w (byte_next (exactly 92) (low_is 1 92 (omega arith) (omega arith)) s p.offset ∙ b.0) in
      let y = one_on s (onward p 1) l f.0 f.1 x.within (byte_next (exactly l) (low_is 1 l (omega arith) f.1) s (p.offset + 1) ∙ eq-eqb l l refl) in
      let z : Reach s (onward p 1) (l ∷ []) (onward p 2) = rw (← (onward_suc p 1)) y in
      some_at s p (onward p 1) 92 x _ _ (stands_escape 92 (chars_at s (p.offset + 1)) refl) (escape_char s p (onward p 1) x l (onward p 2) z (omega arith) v (letter_not_u l v b.1) b.1)

  pub units_short : (q : Position) → q ≡ onward p 2 → Units s p q (v ∷ []) []
  unfolding error_bytes encode_char
  units_short q m = rw m (rw (le-leb v 0x7F short_low) at (units_unit s p _ short_unit))

-- ── Units written without errors ──

pub wrote_start : (s : List ℕ) (p : Position) (texts : List ℕ) (ut : ℕ) → Within s p → Wrote s p p texts texts ut ut
wrote_start s p texts ut w = record { bytes = []; units = units_none s p w; made = put_none texts ut }

module _ (s : List ℕ) (p q : Position) (texts texts' : List ℕ) (ut mt : ℕ) (y : Wrote s p q texts texts' ut mt) where
  -- So many bytes are written.
  pub wrote_few : (mt + p.offset ≤ ut + q.offset) × (q.offset ≤ LIMIT)
  wrote_few =
      let w = y.units.reach.within in
      (omega (arith, y.made.place, y.units.small), omega (arith, w.size, w.inside))

  -- A row of units more.
  pub wrote_more : (r : Position) (bs texts'' : List ℕ) (mt' : ℕ) → Units s q r bs [] → Put texts' texts'' mt bs mt' → Wrote s p r texts texts'' ut mt'
  wrote_more r bs texts'' mt' a b =
      record {
        bytes = y.bytes ++ bs;
        units = units_join s p q r y.bytes bs [] [] y.units a;
        made = put_then texts texts' texts'' ut mt mt' y.bytes bs y.made b;
      }

  pub wrote_join : (r : Position) (texts'' : List ℕ) (mt' : ℕ) → Wrote s q r texts' texts'' mt mt' → Wrote s p r texts texts'' ut mt'
  wrote_join r texts'' mt' z = wrote_more r z.bytes texts'' mt' z.units z.made

-- ── Units so far ──

-- The units from `p` to `q`; what they make and their errors are written.
pub record Sofar (s : List ℕ) (p q : Position) (texts texts' : List ℕ) (ut mt : ℕ) (errors errors' : List ℕ) (ue me : ℕ) : Type 0 where
  pub bytes : List ℕ
  pub notes : List ℕ
  pub units : Units s p q bytes notes
  pub made : Put texts texts' ut bytes mt
  pub noted : Put errors errors' ue notes me
  pub room : Room ut ue

pub sofar_start : (s : List ℕ) (p : Position) (texts errors : List ℕ) (ut ue : ℕ) → Within s p → Room ut ue → Sofar s p p texts texts ut ut errors errors ue ue
sofar_start s p texts errors ut ue w m =
    record { bytes = []; notes = []; units = units_none s p w; made = put_none texts ut; noted = put_none errors ue; room = m }

module _ (s : List ℕ) (p q : Position) (texts texts' : List ℕ) (ut mt : ℕ) (errors errors' : List ℕ) (ue me : ℕ)
    (y : Sofar s p q texts texts' ut mt errors errors' ue me) where
  abbrev mid : Text
  mid = chars_at s q.offset

  -- Where more may be written.
  pub sofar_room : (mt ≤ 1099512676352) × (me ≤ 1152921504606846976)
  sofar_room =
      let w = y.units.reach.within in
      (omega (arith, y.made.place, y.units.small, y.room.texts, w.size, w.inside), omega (arith, y.noted.place, y.units.few, y.room.errors, w.size, w.inside))

  -- A row of units more.
  sofar_then : (r : Position) (bs es texts'' errors'' : List ℕ) (mt' me' : ℕ) → Units s q r bs es → Put texts' texts'' mt bs mt' → Put errors' errors'' me es me'
      → Sofar s p r texts texts'' ut mt' errors errors'' ue me'
  sofar_then r bs es texts'' errors'' mt' me' a b c =
      record {
        bytes = y.bytes ++ bs;
        notes = y.notes ++ es;
        units = units_join s p q r y.bytes bs y.notes es y.units a;
        made = put_then texts texts' texts'' ut mt mt' y.bytes bs y.made b;
        noted = put_then errors errors' errors'' ue me me' y.notes es y.noted c;
        room = y.room;
      }

  pub sofar_wrote : (r : Position) (texts'' : List ℕ) (mt' : ℕ) → Wrote s q r texts' texts'' mt mt' → Sofar s p r texts texts'' ut mt' errors errors' ue me
  sofar_wrote r texts'' mt' z = sofar_then r z.bytes [] texts'' errors' mt' me z.units z.made (put_none errors' me)

  -- One unit more.
  pub sofar_unit : (r : code.Unit) → (stands mid ≡ true) × UnitAt s q (unit_of mid) r → (texts'' errors'' : List ℕ) (mt' me' : ℕ)
      → Put texts' texts'' mt (made_bytes s q.offset r.next.offset r.made) mt'
      → Put errors' errors'' me (error_bytes (mistakes q r.mistake)) me'
      → Sofar s p r.next texts texts'' ut mt' errors errors'' ue me'
  sofar_unit r x texts'' errors'' mt' me' a b = sofar_then r.next _ _ texts'' errors'' mt' me' (units_unit s q r x) a b

  -- No unit more.
  pub sofar_stop : stands mid ≡ false → RunAt s p texts texts' ut errors errors' ue (record { at = q; texts = mt; errors = me })
  unfolding encode error_bytes
  sofar_stop h =
      let u = y.units in
      let n = ahead_stops mid h in
      let a : run_chars s p ≡ u.chars = u.front ∙ (ap (λ (k : ℕ). u.chars ++ take k mid) n ∙ append-nil u.chars) in
      let m : run_made s q ≡ [] = ap (λ (k : ℕ). units_made k mid) n ∙ made_none mid in
      let e : run_errors s q ≡ [] = ap (λ (k : ℕ). units_errors k q mid) n ∙ errors_none q mid in
      let b : encode (run_made s p) ≡ y.bytes = u.made ∙ (ap (λ (t : Text). y.bytes ++ encode t) m ∙ append-nil y.bytes) in
      let c : error_bytes (run_errors s p) ≡ y.notes = u.errors ∙ (ap (λ (l : List TokenizeError). y.notes ++ error_bytes l) e ∙ append-nil y.notes) in
      record {
        reach = rw a u.reach;
        stops = h;
        made = rw b y.made;
        noted = rw c y.noted;
        small = rw b u.small;
        few = rw c u.few;
      }
