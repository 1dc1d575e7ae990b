use mathlib.Core.Path.{◌∙◌, ap, subst}
use Prim.Native.Nat.{ℕ}
use mathlib.Core.List.{[], ◌∷◌}
use Rattle.characters.specs.Utf8.{chars_at}
use Rattle.bridge.specs.Bridge.{NextAt, Reach}
use Rattle.output.proofs.Buffers.{put_length}
use Rattle.strings.proofs.PieceLaws.{piece_by, at_end, at_feed, at_quote, is_over, at_dollar, at_interp, dollar_stands, nothing_held, something_held, first_held, later_empty, later_held}
use native.Mathlib.Omega.{arith}
use Rattle.strings.proofs.pieces.piece.Goals as goal

pub put_open-noted-requires : goal.put_open-noted-requires
put_open-noted-requires c =
    omega (arith, c.run_units-r.ensures.noted.place, c.run_units-r.ensures.few, c.run_units-r.ensures.reach.within.inside, c.run_units-r.ensures.reach.within.size, c.requires.room.errors)

pub returns-in_default : goal.returns-in_default
returns-in_default c =
    piece_by c.args.text.now c.args.p c.args.start c.args.first c.args.texts.now c.run_units-r.new.texts c.args.used_texts c.args.errors.now c.put_open-noted.new.errors c.args.used_errors _ _ c.literal.ensures
    (at_end c.args.text.now c.args.p c.args.start c.args.first c.args.texts.now c.run_units-r.new.texts c.args.used_texts c.args.errors.now c.run_units-r.new.errors c.args.used_errors c.run_units-r.result c.run_units-r.ensures c.put_open-noted.new.errors _ (subst (NextAt c.args.text.now c.run_units-r.result.at) c.in_default.is c.look.ensures) c.put_open-noted.ensures)

pub put_open-noted-requires-then-c-eq-LINE_FEED : goal.put_open-noted-requires-then-c-eq-LINE_FEED
put_open-noted-requires-then-c-eq-LINE_FEED c =
    omega (arith, c.run_units-r.ensures.noted.place, c.run_units-r.ensures.few, c.run_units-r.ensures.reach.within.inside, c.run_units-r.ensures.reach.within.size, c.requires.room.errors)

pub returns-then-c-eq-LINE_FEED : goal.returns-then-c-eq-LINE_FEED
returns-then-c-eq-LINE_FEED c =
    let w = subst (NextAt c.args.text.now c.run_units-r.result.at) c.in-Some.is c.look.ensures in
    piece_by c.args.text.now c.args.p c.args.start c.args.first c.args.texts.now c.run_units-r.new.texts c.args.used_texts c.args.errors.now c.put_open-noted-then-c-eq-LINE_FEED.new.errors c.args.used_errors _ _ c.literal-then-c-eq-LINE_FEED.ensures
    (at_feed c.args.text.now c.args.p c.args.start c.args.first c.args.texts.now c.run_units-r.new.texts c.args.used_texts c.args.errors.now c.run_units-r.new.errors c.args.used_errors c.run_units-r.result c.run_units-r.ensures c.put_open-noted-then-c-eq-LINE_FEED.new.errors _ (chars_at c.args.text.now c.in-Some.q.offset) (w.0.chars ∙ ap (λ (d : ℕ). d ∷ chars_at c.args.text.now c.in-Some.q.offset) c.if-c-eq-LINE_FEED.true) c.put_open-noted-then-c-eq-LINE_FEED.ensures)

pub returns-then-first : goal.returns-then-first
returns-then-first c =
    let w = subst (NextAt c.args.text.now c.run_units-r.result.at) c.in-Some.is c.look.ensures in
    piece_by c.args.text.now c.args.p c.args.start c.args.first c.args.texts.now c.run_units-r.new.texts c.args.used_texts c.args.errors.now c.run_units-r.new.errors c.args.used_errors _ _ c.literal-then-first.ensures
    (at_quote c.args.text.now c.args.p c.args.start c.args.first c.args.texts.now c.run_units-r.new.texts c.args.used_texts c.args.errors.now c.run_units-r.new.errors c.args.used_errors c.run_units-r.result c.run_units-r.ensures c.in-Some.q (subst (λ (d : ℕ). Reach c.args.text.now c.run_units-r.result.at (d ∷ []) c.in-Some.q) c.if-c-eq-QUOTE.true w.0) (first_held c.args.text.now c.args.p c.args.start c.args.first c.args.texts.now c.run_units-r.new.texts c.args.used_texts c.args.errors.now c.run_units-r.new.errors c.args.used_errors c.run_units-r.result c.run_units-r.ensures c.if-first.true))

pub returns-then-r-used_texts : goal.returns-then-r-used_texts
returns-then-r-used_texts c =
    let w = subst (NextAt c.args.text.now c.run_units-r.result.at) c.in-Some.is c.look.ensures in
    is_over c.args.text.now c.args.p c.args.start c.args.first c.args.texts.now c.run_units-r.new.texts c.args.used_texts c.args.errors.now c.run_units-r.new.errors c.args.used_errors c.run_units-r.result c.run_units-r.ensures c.in-Some.q (subst (λ (d : ℕ). Reach c.args.text.now c.run_units-r.result.at (d ∷ []) c.in-Some.q) c.if-c-eq-QUOTE.true w.0) (later_empty c.args.text.now c.args.p c.args.start c.args.first c.args.texts.now c.run_units-r.new.texts c.args.used_texts c.args.errors.now c.run_units-r.new.errors c.args.used_errors c.run_units-r.result c.run_units-r.ensures c.if-first.false c.if-r-used_texts.true) c.if-r-used_texts.true

pub returns-then-c-eq-QUOTE : goal.returns-then-c-eq-QUOTE
returns-then-c-eq-QUOTE c =
    let w = subst (NextAt c.args.text.now c.run_units-r.result.at) c.in-Some.is c.look.ensures in
    piece_by c.args.text.now c.args.p c.args.start c.args.first c.args.texts.now c.run_units-r.new.texts c.args.used_texts c.args.errors.now c.run_units-r.new.errors c.args.used_errors _ _ c.literal-then-c-eq-QUOTE.ensures
    (at_quote c.args.text.now c.args.p c.args.start c.args.first c.args.texts.now c.run_units-r.new.texts c.args.used_texts c.args.errors.now c.run_units-r.new.errors c.args.used_errors c.run_units-r.result c.run_units-r.ensures c.in-Some.q (subst (λ (d : ℕ). Reach c.args.text.now c.run_units-r.result.at (d ∷ []) c.in-Some.q) c.if-c-eq-QUOTE.true w.0) (later_held c.args.text.now c.args.p c.args.start c.args.first c.args.texts.now c.run_units-r.new.texts c.args.used_texts c.args.errors.now c.run_units-r.new.errors c.args.used_errors c.run_units-r.result c.run_units-r.ensures c.if-r-used_texts.false))

pub interpolation-g-requires : goal.interpolation-g-requires
interpolation-g-requires c =
    let w = subst (NextAt c.args.text.now c.run_units-r.result.at) c.in-Some.is c.look.ensures in
    record { within = c.run_units-r.ensures.reach.within; offset_value = dollar_stands c.args.text.now c.args.p c.args.start c.args.first c.args.texts.now c.run_units-r.new.texts c.args.used_texts c.args.errors.now c.run_units-r.new.errors c.args.used_errors c.run_units-r.result c.run_units-r.ensures c.in-Some.c c.in-Some.q w.0 c.if-c-eq-LINE_FEED.false c.if-c-eq-QUOTE.false; used_texts_bound = c.requires.room.texts; used_errors_bound = omega (arith, c.run_units-r.ensures.noted.place, c.run_units-r.ensures.few, c.run_units-r.ensures.reach.within.inside, c.run_units-r.ensures.reach.within.size, c.requires.room.errors) }

pub shape_of-texts-then-r-used_texts-2 : goal.shape_of-texts-then-r-used_texts-2
shape_of-texts-then-r-used_texts-2 c =
    put_length _ _ _ _ _ c.interpolation-g.ensures.made ∙ put_length _ _ _ _ _ c.run_units-r.ensures.made

pub shape_of-errors-then-r-used_texts-2 : goal.shape_of-errors-then-r-used_texts-2
shape_of-errors-then-r-used_texts-2 c =
    put_length _ _ _ _ _ c.interpolation-g.ensures.noted ∙ put_length _ _ _ _ _ c.run_units-r.ensures.noted

pub returns-then-r-used_texts-2 : goal.returns-then-r-used_texts-2
returns-then-r-used_texts-2 c =
    let w = subst (NextAt c.args.text.now c.run_units-r.result.at) c.in-Some.is c.look.ensures in
    at_interp c.args.text.now c.args.p c.args.start c.args.first c.args.texts.now c.run_units-r.new.texts c.args.used_texts c.args.errors.now c.run_units-r.new.errors c.args.used_errors c.run_units-r.result c.run_units-r.ensures c.in-Some.c c.in-Some.q w.0 c.if-c-eq-LINE_FEED.false c.if-c-eq-QUOTE.false c.interpolation-g.result c.interpolation-g.new.texts c.interpolation-g.new.errors c.interpolation-g.ensures (nothing_held c.args.text.now c.args.p c.args.start c.args.first c.args.texts.now c.run_units-r.new.texts c.args.used_texts c.args.errors.now c.run_units-r.new.errors c.args.used_errors c.run_units-r.result c.run_units-r.ensures c.if-r-used_texts-2.true) c.if-r-used_texts-2.true

pub returns : goal.returns
returns c =
    let w = subst (NextAt c.args.text.now c.run_units-r.result.at) c.in-Some.is c.look.ensures in
    piece_by c.args.text.now c.args.p c.args.start c.args.first c.args.texts.now c.run_units-r.new.texts c.args.used_texts c.args.errors.now c.run_units-r.new.errors c.args.used_errors _ _ c.literal-2.ensures
    (at_dollar c.args.text.now c.args.p c.args.start c.args.first c.args.texts.now c.run_units-r.new.texts c.args.used_texts c.args.errors.now c.run_units-r.new.errors c.args.used_errors c.run_units-r.result c.run_units-r.ensures c.in-Some.c c.in-Some.q w.0 c.if-c-eq-LINE_FEED.false c.if-c-eq-QUOTE.false (something_held c.args.text.now c.args.p c.args.start c.args.first c.args.texts.now c.run_units-r.new.texts c.args.used_texts c.args.errors.now c.run_units-r.new.errors c.args.used_errors c.run_units-r.result c.run_units-r.ensures c.if-r-used_texts-2.false))
