-- No fault was passed over in one call after another.
use Rattle.std.proofs.Common.{refl, ◌∙◌}
use Rattle.outside_acts.specs.World.{Counts, NonePassedOver}

pub none_passed : (a : Counts) → NonePassedOver a a
none_passed a = record { reading = refl; writing = refl; input = refl; console = refl }

pub none_passed_both : {a b c : Counts} → NonePassedOver a b → NonePassedOver b c → NonePassedOver a c
none_passed_both first second = record {
  reading = second.reading ∙ first.reading;
  writing = second.writing ∙ first.writing;
  input = second.input ∙ first.input;
  console = second.console ∙ first.console;
}
