-- The name stands in its place, or it is none of the names.
use Rattle.std.proofs.Common.{◌&&◌, Bool, is_none, ap, sym, ◌∙◌}
use Rattle.job_words.specs.Places.{by_place, texts_of}
use Rattle.job_words.proofs.Places.{IsPlace, given_at, may_be, may_not_be, place_found, place_missed}
use Rattle.job_words.proofs.walk.give.Goals as goal

pub returns-in_default-clause-may : goal.returns-in_default-clause-may
returns-in_default-clause-may c =
    sym (ap (λ (b : Bool). b && is_none (by_place c.args.names.now c.args.values.now c.args.name.now)) (place_missed c.args.name.now c.args.names.now (sym c.place_of.ensures ∙ c.in_default.is)))

pub returns-then-is_some-clause-may : goal.returns-then-is_some-clause-may
returns-then-is_some-clause-may c =
    let at : IsPlace c.args.name.now c.in-Some.place (texts_of c.args.names.now) c.args.values.now = place_found _ _ _ _ c.requires.places (sym c.place_of.ensures ∙ c.in-Some.is) in
    sym (may_not_be at (sym c.is_some.ensures ∙ c.if-is_some.true))

pub returns-clause-may : goal.returns-clause-may
returns-clause-may c =
    let at : IsPlace c.args.name.now c.in-Some.place (texts_of c.args.names.now) c.args.values.now = place_found _ _ _ _ c.requires.places (sym c.place_of.ensures ∙ c.in-Some.is) in
    sym (may_be at (sym c.is_some.ensures ∙ c.if-is_some.false))

pub returns-clause-given : goal.returns-clause-given
returns-clause-given c = λ yes.
    let at : IsPlace c.args.name.now c.in-Some.place (texts_of c.args.names.now) c.args.values.now = place_found _ _ _ _ c.requires.places (sym c.place_of.ensures ∙ c.in-Some.is) in
    given_at c.args.value at
