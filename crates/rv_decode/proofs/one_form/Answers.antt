use Rattle.std.proofs.Common.{◌≡◌, true, refl}
use Rattle.rv_decode.specs.Compressed.{OneForm, form_count, forms}
use Rattle.rv_decode.proofs.Table.{are_apart, at_most_one}
use Rattle.rv_decode.proofs.one_form.Goals as goal

forms_are_apart : are_apart forms ≡ true
unfolding forms
forms_are_apart = refl

one_form_lem : OneForm
unfolding form_count
one_form_lem c = at_most_one forms c forms_are_apart

pub returns : goal.returns
returns c = one_form_lem
