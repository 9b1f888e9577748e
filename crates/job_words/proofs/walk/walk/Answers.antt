-- One more pair, whose name may be given.
use Rattle.std.proofs.Common.{◌≡◌, ℕ, true, List, sym, subst, ap, ◌∙◌}
use Rattle.std.specs.Prelude.{string_bytes}
use Rattle.job_words.specs.CommandLine.{Given, found_in, may_be_given, texts, with_value}
use Rattle.job_words.specs.Places.{by_place, texts_of}
use Rattle.job_words.proofs.Pairs.{pair_given, texts_of_pair}
use Rattle.job_words.proofs.walk.walk.Goals as goal

pub loop-name-preserved : goal.loop-name-preserved
loop-name-preserved c =
    let names : List (List ℕ) = texts_of c.args.names.now in
    let given : Given = by_place c.args.names.now c.loop-name.values in
    let next : Given = by_place c.args.names.now c.give.new.values in
    let name : List ℕ = string_bytes c.in-Some.name.now in
    let value : List ℕ = string_bytes c.in-Some-split_first.value.now in
    let yes : c.give.result ≡ true = c.if-not-give.false in
    let may : may_be_given names given name ≡ true = subst (λ (n : List ℕ). may_be_given names given n ≡ true) c.as_str.ensures.value (sym c.give.ensures.may ∙ yes) in
    let next_is : next ≡ with_value name value given =
    subst (λ (n : List ℕ). next ≡ with_value n value given) c.as_str.ensures.value
    (subst (λ (v : List ℕ). next ≡ with_value c.as_str.result.now v given) c.as_str-in-Some.ensures.value (c.give.ensures.given yes)) in
    c.loop-name.invariant
    ∙ ap (found_in names given) (texts_of_pair _ _ _ _ _ c.in-Some.ensures.cases.0 c.in-Some-split_first.ensures.cases.0)
    ∙ pair_given names given next name value (texts c.in-Some-split_first.others.now) may next_is
